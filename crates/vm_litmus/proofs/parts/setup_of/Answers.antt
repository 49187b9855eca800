use Rattle.std.proofs.Common.{◌≡◌, ◌+◌, true, false, arith}
use Rattle.vm_model.specs.declared.command.Numbered.{Numbered}
use Rattle.vm_litmus.specs.Parts.{is_settle}
use Rattle.vm_litmus.proofs.Commands.{all_behind_none, later_more, settled_now}
use Rattle.vm_litmus.proofs.parts.setup_of.Goals as goal
use Rattle.vm_litmus.proofs.parts.setup_of.Goals.{then-is_settle, else-is_settle}

pub loop-i-preserved : goal.loop-i-preserved
loop-i-preserved c =
    let h = c.args.commands.now.items in
    let now = c.at.result.now in
    let unsettled = λ (numbered : Numbered). is_settle numbered.command ≡ false in
    elim c.if-is_settle.branch [
      | then-is_settle w ↦
          let is : is_settle now.command ≡ true = cc in
          record {
            reached = omega arith;
            inside = omega arith;
            last = rw w.setup-is (settled_now h c.loop-i.i now c.at.ensures is);
            none = rw w.setup-is (all_behind_none unsettled h (c.loop-i.i + 1));
          }
      | else-is_settle w ↦
          let not : is_settle now.command ≡ false = cc in
          record {
            reached = omega arith;
            inside = omega arith;
            last = rw w.setup-is c.loop-i.invariant.last;
            none = rw w.setup-is
                (later_more unsettled h c.loop-i.setup c.loop-i.i now c.loop-i.invariant.reached c.at.ensures c.loop-i.invariant.none not);
          }
    ]
