use Rattle.vm_system.proofs.Common.{◌∷◌}
use Rattle.vm_model.specs.declared.command.Command.TheVariants as command
use Rattle.vm_model.specs.declared.event.Event.TheVariants as event
use Rattle.vm_system.proofs.state.State.step.Given as goal

abbrev pub ghost-acting : goal.ghost-acting
ghost-acting g a = record { header = g.given.header; outside = g.given.outside; command = a.command.now; past = a.self.now.history.items }

abbrev pub ghost-refusal : goal.ghost-refusal
ghost-refusal g a = record { header = g.given.header; outside = g.given.outside; command = a.command.now; past = a.self.now.history.items }

abbrev pub ghost-refuse : goal.ghost-refuse
ghost-refuse g a = g.given

abbrev pub ghost-take_from : goal.ghost-take_from
ghost-take_from g a =
    record { header = g.given.header; outside = g.given.outside; command = command.Take a.channel; past = event.Line a.line ∷ a.self.now.history.items }

abbrev pub ghost-settle : goal.ghost-settle
ghost-settle g a = g.given

abbrev pub ghost-pass : goal.ghost-pass
ghost-pass g a = record { header = g.given.header; outside = g.given.outside; command = a.command.now; past = event.Line a.line ∷ a.self.now.history.items }

abbrev pub ghost-begin : goal.ghost-begin
ghost-begin g a = record { header = g.given.header; outside = g.given.outside; command = a.command.now; past = event.Line a.line ∷ a.self.now.history.items }
