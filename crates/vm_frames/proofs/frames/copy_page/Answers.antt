use Rattle.std.proofs.Common.{arith}
use Rattle.vm_frames.proofs.Copies.{copied_ahead, copied_behind}
use Rattle.vm_frames.proofs.frames.copy_page.Goals as goal

pub returns-then-from-to : goal.returns-then-from-to
returns-then-from-to c =
    let split = c.split_at_mut-front in
    copied_behind c.args.pages.now split.result.0.now split.result.1.now c.args.from c.args.to c.index-back-0.result c.index-front-from.result c.fill.new.self
    (record { whole = split.ensures.value; seam = split.ensures.front_len; inside = c.requires.to }) c.if-from-to.true c.index-back-0.is c.index-front-from.is
    c.requires.sized
    (cc (c.fill.ensures, c.as_slice.ensures, c.index-back-0.is, c.index-front-from.is))

pub returns-else-from-to : goal.returns-else-from-to
returns-else-from-to c =
    let split = c.split_at_mut-front-else-from-to in
    let back = c.index-back-0-else-from-to in
    copied_ahead c.args.pages.now split.result.0.now split.result.1.now c.args.from c.args.to c.index-front-to.result back.result c.fill-else-from-to.new.self
    (record { whole = split.ensures.value; seam = split.ensures.front_len; inside = c.requires.from }) (omega arith) c.index-front-to.is back.is
    c.requires.sized
    (cc (c.fill-else-from-to.ensures, c.as_slice-else-from-to.ensures, c.index-front-to.is, back.is))
