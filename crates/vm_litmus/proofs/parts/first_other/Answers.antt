use Rattle.std.proofs.Common.{◌≡◌, ◌+◌, ◌≤◌, ◌∙◌, sym, true, false, arith}
use Rattle.vm_litmus.specs.Parts.{is_access, makes_fail}
use Rattle.vm_litmus.proofs.Commands.{all_before, later_more, not_not, oldest_more}
use Rattle.vm_litmus.proofs.parts.first_other.Goals as goal
use Rattle.vm_litmus.proofs.parts.first_other.Goals.{then-i-setup, else-i-setup}

pub loop-i-preserved : goal.loop-i-preserved
loop-i-preserved c =
    let h = c.args.commands.now.items in
    let now = c.at-numbered.result.now in
    let safe : makes_fail now.command ≡ false = cc in
    record {
      set_up = oldest_more (λ numbered. makes_fail numbered.command ≡ false) h c.loop-i.i now c.at-numbered.ensures c.loop-i.invariant.set_up safe;
      free = elim c.if-i-setup.branch [
        | then-i-setup w ↦
            let order : c.args.setup ≤ c.loop-i.i = omega arith in
            let is : is_access now ≡ true = sym w.is_access.ensures ∙ not_not w.is_access.result (sym w.value-is ∙ c.if-not-is_access.false) in
            later_more (λ numbered. is_access numbered ≡ true) h c.args.setup c.loop-i.i now order c.at-numbered.ensures c.loop-i.invariant.free is
        | else-i-setup w ↦ all_before (λ numbered. is_access numbered ≡ true) h c.args.setup (c.loop-i.i + 1) (omega arith)
      ];
    }
