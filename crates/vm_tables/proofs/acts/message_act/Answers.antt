use Rattle.vm_tables.proofs.Messaging.{message_found}
use Rattle.vm_tables.proofs.acts.message_act.Goals as goal

pub returns : goal.returns
returns c =
    message_found c.args.kind c.args.state c.number.result c.number-2.result c.act.result c.number.ensures.number c.number-2.ensures.number c.act.ensures
