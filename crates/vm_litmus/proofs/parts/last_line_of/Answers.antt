use Rattle.std.proofs.Common.{◌-◌, arith}
use Rattle.vm_litmus.proofs.Commands.{last_line_now}
use Rattle.vm_litmus.proofs.parts.last_line_of.Goals as goal

pub returns-else-setup-eq0 : goal.returns-else-setup-eq0
returns-else-setup-eq0 c = last_line_now c.args.commands.now.items (c.args.setup - 1) c.args.setup c.at.result.now c.at.ensures (omega arith)
