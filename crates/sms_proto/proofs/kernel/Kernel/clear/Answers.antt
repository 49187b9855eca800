use Rattle.sms_proto.proofs.kernel.Kernel.clear.Goals as goal

pub returns-clause-room : goal.returns-clause-room
returns-clause-room c = c.put_away.ensures.room 1 c.requires.room
