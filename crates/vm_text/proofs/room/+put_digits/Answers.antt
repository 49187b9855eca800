use Rattle.std.proofs.Common.{arith, take}
use Rattle.itoa.proofs.Decimal.{length_four}
use Rattle.vm_text.proofs.Decimals.{four_behind}
use Rattle.vm_text.proofs.room.+put_digits.Goals as goal

pub put_digits-front-requires : goal.put_digits-front-requires
put_digits-front-requires t c =
    let longer = length_four c.args.number c.if-number-lt10000.false c.ranges.number.fits in
    (omega (arith, c.decreases), omega (arith, c.requires, longer))

pub put_pair-middle-requires-clause-room : goal.put_pair-middle-requires-clause-room
put_pair-middle-requires-clause-room t c =
    omega (arith, c.requires, c.put_digits-front.ensures.end, length_four c.args.number c.if-number-lt10000.false c.ranges.number.fits)

pub put_pair-requires-clause-room : goal.put_pair-requires-clause-room
put_pair-requires-clause-room t c =
    let longer = length_four c.args.number c.if-number-lt10000.false c.ranges.number.fits in
    omega (arith, c.requires, c.put_digits-front.ensures.end, c.put_pair-middle.ensures.end, longer)

pub returns-clause-text : goal.returns-clause-text
returns-clause-text t c =
    rw (c.put_pair.ensures.text, c.put_pair-middle.ensures.text, c.put_digits-front.ensures.text)
    (four_behind (take c.args.at c.args.bytes.now) c.args.number c.if-number-lt10000.false c.ranges.number.fits)

pub returns-clause-end : goal.returns-clause-end
returns-clause-end t c =
    let longer = length_four c.args.number c.if-number-lt10000.false c.ranges.number.fits in
    omega (arith, c.put_digits-front.ensures.end, c.put_pair-middle.ensures.end, c.put_pair.ensures.end, longer)
