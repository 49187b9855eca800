use Rattle.std.proofs.Common.{arith, append_assoc}
use Rattle.itoa.proofs.Decimal.{decimal_pair, length_pair}
use Rattle.vm_text.proofs.room.put_short.Goals as goal

pub put_first-front-requires-clause-room : goal.put_first-front-requires-clause-room
put_first-front-requires-clause-room c = omega (arith, c.requires.room, length_pair c.args.number c.if-number-lt100.false (omega arith))

pub put_pair-requires-clause-room : goal.put_pair-requires-clause-room
put_pair-requires-clause-room c = omega (arith, c.requires.room, c.put_first-front.ensures.end, length_pair c.args.number c.if-number-lt100.false (omega arith))

pub returns-clause-text : goal.returns-clause-text
returns-clause-text c =
    rw (c.put_pair.ensures.text, c.put_first-front.ensures.text, decimal_pair c.args.number c.if-number-lt100.false (omega arith), append_assoc)

pub returns-clause-end : goal.returns-clause-end
returns-clause-end c =
    omega (arith, c.put_pair.ensures.end, c.put_first-front.ensures.end, length_pair c.args.number c.if-number-lt100.false (omega arith))
