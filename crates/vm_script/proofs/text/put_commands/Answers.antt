-- The line of one command more.
use Rattle.std.proofs.Common.{◌++◌, reverse, take, ap, sym, ◌∙◌, append_assoc}
use Rattle.std.specs.List.{flat_map}
use Rattle.vm_script.proofs.Taken.{flat_map_more}
use Rattle.vm_script.specs.Text.{command_line}
use Rattle.vm_script.proofs.text.put_commands.Goals as goal

pub loop-place-preserved : goal.loop-place-preserved
loop-place-preserved c =
    let commands = reverse c.args.commands.now.items in
    let place = c.loop-place.place in
    c.in_ok-put_command.ensures
    ∙ (ap (λ z. z ++ command_line c.at.result.now) c.loop-place.invariant
    ∙ (append_assoc c.args.text.now.items (flat_map command_line (take place commands)) (command_line c.at.result.now)
    ∙ ap (λ z. c.args.text.now.items ++ z) (sym (flat_map_more command_line commands place c.at.result.now c.at.ensures))))
