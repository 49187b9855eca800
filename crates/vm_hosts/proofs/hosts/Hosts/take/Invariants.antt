use Rattle.vm_hosts.proofs.Common.{[], ◌∷◌}
use Rattle.vm_model.specs.declared.event.Event.TheVariants as event
use Rattle.vm_model.specs.declared.message.Channel.TheVariants as channels
use Rattle.vm_hosts.proofs.hosts.Hosts.take.Given as goal

abbrev pub ghost-hear : goal.ghost-hear
ghost-hear g a =
    record {
      header = g.given.header;
      outside = g.given.outside;
      command = g.given.command;
      past = g.given.past;
      front = event.Taken (channels.Down a.host a.object a.control) a.message.now ∷ [];
    }
