use Rattle.vm_system.proofs.Sending.{sent_one}
use Rattle.vm_system.proofs.state.State.expect.Goals as goal

pub sent-message-requires : goal.sent-message-requires
sent-message-requires c = let first = c.requires.sent in (first.0, first.1, first.2.0)

pub most-requires : goal.most-requires
most-requires c =
    let first = c.requires.sent in
    let read = c.sent-message.ensures in
    let same = sent_one c.args.self.now.history.items c.args.index first.0 read.0 first.1 c.sent-message.result.now first.2.0 read.1 in
    rw same first.2.1
