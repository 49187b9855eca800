use Rattle.std.proofs.Common.{◌≡◌, sym, ◌∙◌, None, Some}
use Rattle.vm_litmus.specs.Parts.{access_of}
use Rattle.vm_litmus.proofs.Commands.{found_more, found_same}
use Rattle.vm_litmus.proofs.parts.accesses.Goals as goal
use Rattle.vm_litmus.proofs.parts.accesses.Goals.{in-Some+in_ok-push, in_default}

pub loop-i-preserved : goal.loop-i-preserved
loop-i-preserved c =
    let h = c.args.commands.now.items in
    let now = c.at.result.now in
    elim c.match-access_of.branch [
      | in-Some+in_ok-push w ↦
          let is : access_of now ≡ Some w.in-Some.access = sym c.access_of.ensures ∙ w.in-Some.is in
          rw w.found-is (rw w.in_ok-push.ensures.items
          (found_more h c.args.setup c.loop-i.i now w.in-Some.access c.loop-i.found.items c.loop-i.auto.i c.at.ensures is c.loop-i.invariant))
      | in_default w ↦
          let is : access_of now ≡ None = sym c.access_of.ensures ∙ w.in_default.is in
          rw w.found-is (found_same h c.args.setup c.loop-i.i now c.loop-i.found.items c.loop-i.auto.i c.at.ensures is c.loop-i.invariant)
    ]
