use Rattle.std.proofs.Common.{ℕ, ap, sym, ◌∙◌, refl, arith, length, replicate, ◌-◌, length-append, List, subst}
use Rattle.std.proofs.lemmas.List.{length-replicate}
use Rattle.vm_frames.specs.Lending.{with_page}
use Rattle.vm_parts.specs.declared.parts.HostParts.{HostParts}
use Rattle.vm_parts.specs.Changes.{FillsPage, clean_row, filled}
use Rattle.vm_parts.proofs.Changing.{holds, rows_changed}
use Rattle.vm_parts.proofs.Fitting.{fit_changed}
use Rattle.vm_parts.proofs.Rows.{if_found}
use Rattle.vm_parts.proofs.parts.HostParts.fill.Goals as goal

pub fill-requires : goal.fill-requires
fill-requires c =
    let has = holds c.args.self.now _ _ c.in-Some.was c.requires.fit (sym c.get.ensures ∙ c.in-Some.is) in
    rw (c.bytes_mut.ensures.value, has.sized) c.requires.bytes

pub add-requires-clause-inside : goal.add-requires-clause-inside
add-requires-clause-inside c = (holds c.args.self.now _ _ c.in-Some.was c.requires.fit (sym c.get.ensures ∙ c.in-Some.is)).queued

pub returns-clause-fit : goal.returns-clause-fit
returns-clause-fit c =
    let fit = c.requires.fit in
    let was = c.in-Some.was in
    let found = sym c.get.ensures ∙ c.in-Some.is in
    let has = holds c.args.self.now _ _ was fit found in
    let size = ap length c.bytes_mut.ensures.value ∙ has.sized in
    let less = c.requires.bytes in
    let rest = length-replicate {A = ℕ} (length c.bytes_mut.result.now - length c.args.bytes.now) 0 in
    let whole = ap length c.fill.ensures ∙ length-append c.args.bytes.now (replicate (length c.bytes_mut.result.now - length c.args.bytes.now) 0) in
    fit_changed c.args.key was.frame _ _ _ _ _ c.args.self.now _ fit
    (rows_changed c.args.key was (clean_row was.frame c.args.lock c.args.precious) c.fill.new.self c.add.new.self c.args.self.now _ fit found refl
    c.set.ensures.rows c.set.ensures.frames refl refl c.add.ensures.pages)
    (λ some. refl) (λ some. fit.inside _ _ was found) (omega (arith, size, less, rest, whole)) (ap (λ z. z.frames) c.add.ensures.queues) refl refl

pub returns-clause-fills : goal.returns-clause-fills
returns-clause-fills c =
    let k = c.args.self.now in
    let was = c.in-Some.was in
    let found = sym c.get.ensures ∙ c.in-Some.is in
    let new : HostParts = record {
      frames = with_page k.frames was.frame.0 c.fill.new.self;
      resident = c.set.new.self;
      queues = c.add.new.self;
      objects = k.objects;
      buffers = k.buffers;
    } in
    let is = c.fill.ensures ∙ ap (λ z. filled z c.args.bytes.now) (ap length c.bytes_mut.ensures.value ∙ (holds k _ _ was c.requires.fit found).sized) in
    if_found _ was (λ r. FillsPage c.args.key r c.args.lock c.args.precious (filled k.buffers.size c.args.bytes.now) k new) found
    (subst (λ (z : List ℕ). FillsPage c.args.key was c.args.lock c.args.precious z k new) is
    (rows_changed c.args.key was (clean_row was.frame c.args.lock c.args.precious) c.fill.new.self _ k new c.requires.fit found refl c.set.ensures.rows
    c.set.ensures.frames refl c.add.ensures.queues c.add.ensures.pages))
