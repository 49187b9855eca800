-- The locks of pages, and their numbers in messages.
use Rattle.std.specs.Prelude.{ℕ, ◌+◌, ◌<◌, ◌||◌, ◌≡◌, ◌==◌, Option, Some, None, if◌then◌else◌}
use Rattle.std.proofs.Common.{arith}
use Rattle.std.proofs.lemmas.Bool.Decides.{nat_tests}
use Rattle.vm_base.specs.declared.ids.Lock.{Lock}

-- the accesses that a lock's number prohibits: 1 reading, 2 writing, 3 both
abbrev pub lock_numbered : ℕ → Lock
lock_numbered number = record { read = number == 1 || number == 3; write = number == 2 || number == 3 }

-- the number is made up of what it prohibits
pub lock_of-prohibits : (number : ℕ) → number < 4 → (if (lock_numbered number).read then 1 else 0) + (if (lock_numbered number).write then 2 else 0) ≡ number
lock_of-prohibits number few = grind (arith, nat_tests)

-- the lock of a page that is given one, or keeps its own
abbrev pub lock_after : Option Lock → Lock → Lock
lock_after None own = own
lock_after (Some lock) own = lock
