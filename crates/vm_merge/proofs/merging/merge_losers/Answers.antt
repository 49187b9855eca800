use Rattle.std.proofs.Common.{◌∙◌, length, ap, arith}
use Rattle.vm_merge.proofs.Behind.{may_go_on, thin_behind, thin_past}
use Rattle.vm_merge.proofs.Turns.{none_of_none, one_of, shift_fits}
use Rattle.vm_merge.proofs.merging.merge_losers.Given.{Over}
use Rattle.vm_merge.proofs.merging.merge_losers.Goals as goal
use Rattle.vm_merge.proofs.merging.merge_losers.Goals.{After-merge_into}
use Rattle.vm_merge.specs.Merges.{MergeState, MergesInto, NoneLeft, OneFirst}
use Rattle.vm_merge.specs.Standing.{merge_state}

pub merge_into-requires-clause-shift : goal.merge_into-requires-clause-shift
merge_into-requires-clause-shift g c =
    shift_fits g.given c.losers.parts c.losers.chains c.in-Some-upper_of.upper.0 c.in-Some.lower.0 c.losers.invariant.may c.in-Some-upper_of.ensures.can

abbrev before : (g : Over) → After-merge_into g → MergeState
before g c = merge_state c.losers.parts c.losers.chains c.args.copies.now c.losers.log.items

abbrev behind : (g : Over) → After-merge_into g → MergeState
behind g c = merge_state c.merge_into.new.parts c.merge_into.new.chains c.args.copies.now c.merge_into.new.log.items

merged : (g : Over) (c : After-merge_into g) → MergesInto c.in-Some-upper_of.upper c.in-Some.lower (before g c) (behind g c)
merged g c =
    c.merge_into.ensures.merges c.args.copies.now c.in-Some-upper_of.ensures.can
    (λ u l can. c.in-Some.ensures.least.1 (record { 0 = l }) (c.losers.invariant.thin u l can))

pub losers-preserved-in-Some-upper_of : goal.losers-preserved-in-Some-upper_of
losers-preserved-in-Some-upper_of g c =
    let turn = (goal.at.losers-preserved-in-Some-upper_of g c).After-merge_into in
    let merges = merged g turn in
    let so_far = c.losers.invariant in
    let count = c.in-Some.ensures.count in
    let told = ap length merges.told in
    let pages = so_far.may.most c.in-Some.lower.0 in
    let share = one_of (length c.pop.new.self.items) (length c.losers.losers.items) g.given count in
    record {
      may =
          may_go_on g.given c.in-Some-upper_of.upper c.in-Some.lower (before g turn) (behind g turn) merges so_far.may c.merge_into.ensures.fit;
      thin =
          thin_behind c.in-Some-upper_of.upper c.in-Some.lower (before g turn) (behind g turn) merges c.losers.losers.items c.pop.new.self.items so_far.thin
          c.in-Some.ensures.rest;
      so_far = λ end more.
          so_far.so_far end (OneFirst c.in-Some-upper_of.upper c.in-Some.lower (before g turn) (behind g turn) end merges c.merge_into.ensures.fit
          c.merge_into.ensures.buffers more);
      fewer = omega (arith, so_far.fewer, count);
      buffers = c.merge_into.ensures.buffers ∙ so_far.buffers;
      told = omega (arith, so_far.told, count, told);
      log = omega (arith, so_far.log, count, c.merge_into.ensures.log);
      spare = omega (arith, so_far.spare, share, pages, c.merge_into.ensures.spare);
      objects = omega (arith, so_far.objects, c.merge_into.ensures.objects);
      shadows = omega (arith, so_far.shadows, c.merge_into.ensures.shadows);
      marked = c.merge_into.ensures.marked ∙ so_far.marked;
    }

pub losers-preserved : goal.losers-preserved
losers-preserved g c =
    let so_far = c.losers.invariant in
    let count = c.in-Some.ensures.count in
    let share = one_of (length c.pop.new.self.items) (length c.losers.losers.items) g.given count in
    record {
      may = so_far.may;
      thin =
          thin_past c.in-Some.lower c.losers.chains c.losers.parts.objects c.losers.losers.items c.pop.new.self.items so_far.thin
          c.in_default-upper_of.ensures.none c.in-Some.ensures.rest;
      so_far = so_far.so_far;
      fewer = omega (arith, so_far.fewer, count);
      buffers = so_far.buffers;
      told = omega (arith, so_far.told, count);
      log = omega (arith, so_far.log, count);
      spare = omega (arith, so_far.spare, share);
      objects = so_far.objects;
      shadows = so_far.shadows;
      marked = so_far.marked;
    }

pub returns-clause-merges : goal.returns-clause-merges
returns-clause-merges g c =
    let end = merge_state c.losers.parts c.losers.chains c.args.copies.now c.losers.log.items in
    c.losers.invariant.so_far end
    (NoneLeft end (none_of_none c.losers.losers.items c.losers.chains c.losers.parts.objects c.in_default.ensures.none c.losers.invariant.thin))
