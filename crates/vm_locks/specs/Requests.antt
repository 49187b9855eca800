-- What a lock request asks.
use Rattle.std.specs.Prelude.{ℕ, ◌<◌, ◌≡◌, ◌⊎◌, ◌==◌, Option, Some, None, if◌then◌else◌}
use Rattle.vm_base.specs.declared.ids.Lock.{Lock}
use Rattle.vm_model.specs.declared.message.Message.{Message}
use Rattle.vm_model.specs.declared.message.Message.TheVariants as message
use Rattle.vm_parts.specs.Locks.{lock_numbered}
use Rattle.vm_tables.specs.declared.cases.Returns.{Returns}
use Rattle.vm_tables.specs.declared.cases.Returns.TheVariants as returns
use Rattle.vm_locks.specs.declared.request.LockRequest.{LockRequest}

-- a lock request, with its numbers in their ranges
abbrev pub IsLockRequest : Message → Type 0
IsLockRequest (message.Lock page count returns flush lock reply) = (returns < 3) × ((lock < 4) ⊎ (lock ≡ 8))
IsLockRequest other = ⊥

-- the pages that go back, by the number: 0 none, 1 the dirty ones, 2 the dirty or precious ones
abbrev pub returns_numbered : ℕ → Returns
returns_numbered number = if number == 0 then returns.Nothing else if number == 1 then returns.Dirty else returns.All

-- the lock that pages get, by the number: 8 leaves each its own
abbrev pub lock_wanted : ℕ → Option Lock
lock_wanted number = if number == 8 then None else Some (lock_numbered number)

-- what a message asks, where it is a lock request
abbrev pub request_of : Message → Option LockRequest
request_of (message.Lock page count returns flush lock reply) =
    Some (record { page = page; count = count; returns = returns_numbered returns; flush = flush; lock = lock_wanted lock; reply = reply })
request_of other = None
