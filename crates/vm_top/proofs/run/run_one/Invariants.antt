use Rattle.vm_model.specs.declared.command.Command.TheVariants as command
use Rattle.vm_top.proofs.run.run_one.Given as goal

abbrev pub ghost-turn : goal.ghost-turn
ghost-turn g a = g.given

abbrev pub ghost-settle : goal.ghost-settle
ghost-settle g a = record { running = g.given; command = command.Settle a.count }
