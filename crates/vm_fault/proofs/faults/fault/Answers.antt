use Rattle.std.proofs.Common.{◌≡◌, ◌∙◌, true, false, sym, subst, rules}
use Rattle.vm_fault.specs.Faults.{CanFault, FaultState, Runs, Stops, goes_on, want_after}
use Rattle.vm_fault.specs.Rooms.{HasRoom}
use Rattle.vm_fault.proofs.Pages.{can_then, room_then, runs_then}
use Rattle.vm_fault.proofs.States.{state_of}
use Rattle.vm_fault.proofs.Taking.{takes_then}
use Rattle.vm_waits.specs.declared.waiting.Want.{Want}
use Rattle.vm_fault.proofs.faults.fault.Goals as goal

pub returns-then-not-goes_on-clause-runs : goal.returns-then-not-goes_on-clause-runs
returns-then-not-goes_on-clause-runs c =
    let now : FaultState = state_of c.pages.parts c.pages.chains c.pages.copies c.pages.ids c.pages.log.items in
    let end : FaultState = state_of c.once.new.parts c.once.new.chains c.once.new.copies c.once.new.ids c.once.new.log.items in
    let step = c.in_ok-step.step in
    let ends : goes_on step c.pages.want ≡ false = search rules in
    let left : c.left_after.result ≡ want_after step c.pages.want = c.left_after.ensures in
    subst (λ (z : Want). Runs c.args.maps.now c.args.host c.args.task c.args.may_claim step c.args.want.now z
    (state_of c.args.parts.now c.args.chains.now c.args.copies.now c.args.ids.now c.args.log.now.items) end) (sym left)
    (c.pages.invariant.runs step _ end (Stops c.pages.want now end c.in_ok-step.ensures.faulted ends))

pub pages-preserved : goal.pages-preserved
pages-preserved c =
    let maps = c.args.maps.now in
    let host = c.args.host in
    let task = c.args.task in
    let claim = c.args.may_claim in
    let want = c.pages.want in
    let now : FaultState = state_of c.pages.parts c.pages.chains c.pages.copies c.pages.ids c.pages.log.items in
    let mid : FaultState = state_of c.once.new.parts c.once.new.chains c.once.new.copies c.once.new.ids c.once.new.log.items in
    let step = c.in_ok-step.step in
    let faulted = c.in_ok-step.ensures.faulted in
    let more : goes_on step want ≡ true = search rules in
    let left : c.left_after.result ≡ want_after step want = c.left_after.ensures in
    let can = c.pages.invariant.can in
    record {
      can = subst (λ (z : Want). CanFault maps mid task.0 z) (sym left) (can_then maps host task claim step want now mid can faulted more);
      runs = λ answer last end rest. c.pages.invariant.runs answer last end
          (runs_then maps host task claim step want now mid faulted more answer last end
          (subst (λ (z : Want). Runs maps host task claim answer z last mid end) left rest));
      still = λ none. c.in_ok-step.ensures.still none ∙ c.pages.invariant.still none;
      takes = takes_then _ now mid _ c.pages.log.room c.once.new.log.room c.pages.invariant.takes c.in_ok-step.ensures.takes;
      room = λ has. subst (λ (z : Want). HasRoom z mid.parts mid.chains c.once.new.log.room) (sym left)
          (room_then maps host task claim step want now mid c.pages.log.room c.once.new.log.room faulted more c.in_ok-step.ensures.takes
          (c.pages.invariant.room has));
    }

pub returns-then-not-goes_on-clause-takes : goal.returns-then-not-goes_on-clause-takes
returns-then-not-goes_on-clause-takes c =
    takes_then _ (state_of c.pages.parts c.pages.chains c.pages.copies c.pages.ids c.pages.log.items) _ _ c.pages.log.room
    c.once.new.log.room c.pages.invariant.takes c.in_ok-step.ensures.takes
