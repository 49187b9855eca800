use Rattle.std.proofs.Common.{refl}
use Rattle.vm_locks.proofs.Passing.{stays}
use Rattle.vm_locks.proofs.pages.keep_page.Goals as goal

pub returns-then-keeps_lock-clause-relocks : goal.returns-then-keeps_lock-clause-relocks
returns-then-keeps_lock-clause-relocks c =
    stays c.args.key c.args.lock c.args.row c.args.parts.now c.requires.fit c.requires.found (c.if-keeps_lock.ensures refl)
