use Rattle.std.proofs.Common.{◌≡◌, ◌++◌, take, reverse}
use Rattle.std.specs.List.{flat_map}
use Rattle.vm_script.specs.Text.{command_line}
use Rattle.vm_script.proofs.text.put_commands.Given as goal

abbrev pub invariant-loop-place : goal.invariant-loop-place
invariant-loop-place l = l.text.items ≡ l.fn.text.items ++ flat_map command_line (take l.place (reverse l.commands.items))
