-- What a step may still send behind the message that it took, and what that adds to the lines, weighs less than the message.
use Rattle.std.proofs.Common.{ℕ, ◌≤◌, ◌+◌, ◌*◌, Bool, true, false, List, ◌∷◌, arith}
use Rattle.std.specs.Prelude.{if◌then◌else◌}
use Rattle.vm_bound.proofs.OpenPages.{end_few, pages_few}
use Rattle.vm_bound.proofs.Paying.{credit, joins, page_unit}
use Rattle.vm_bound.specs.Letters.{host_count, letter_weight, wish_weight}
use Rattle.vm_legal.specs.Outside.{is_shared}
use Rattle.vm_model.specs.declared.event.Event.{Event}
use Rattle.vm_model.specs.declared.event.Event.TheVariants as event
use Rattle.vm_model.specs.declared.message.Channel.{Channel}
use Rattle.vm_model.specs.declared.message.Channel.TheVariants.{Up, Down}
use Rattle.vm_model.specs.declared.message.Message.{Message}
use Rattle.vm_model.specs.declared.message.Message.TheVariants as message
use Rattle.vm_model.specs.declared.script.Header.{Header}

-- a request of a shared object joins a line, and another is answered at once
request_taken : (shared : Bool) (wish : ℕ) → (if shared then 0 else 1) + (if shared then wish else 0) + 1 ≤ (if shared then wish + 1 else 2)
request_taken true wish = omega arith
request_taken false wish = omega arith

unlock_taken : (shared : Bool) (wish : ℕ) → 0 + (if shared then wish else 0) + 1 ≤ (if shared then wish + 1 else 1)
unlock_taken true wish = omega arith
unlock_taken false wish = omega arith

request_few : (shared : Bool) (wish : ℕ) → 1 ≤ (if shared then wish + 1 else 2)
request_few true wish = omega arith
request_few false wish = omega arith

lock_some : (shared : Bool) (count : ℕ) → 1 ≤ (if shared then count + 2 else 3 * count + 2)
lock_some true count = omega arith
lock_some false count = omega arith

unlock_few : (shared : Bool) (wish : ℕ) → 1 ≤ (if shared then wish + 1 else 1)
unlock_few true wish = omega arith
unlock_few false wish = omega arith

lock_few : (shared : Bool) (pages count : ℕ) (reply : Bool) → pages ≤ count
    → page_unit shared * pages + (if reply then 1 else 0) + 0 + 1 ≤ (if shared then count + 2 else 3 * count + 2)
lock_few true pages count true le = omega (arith, le)
lock_few true pages count false le = omega (arith, le)
lock_few false pages count true le = omega (arith, le)
lock_few false pages count false le = omega (arith, le)

-- behind a taking nothing has come since, so all is open, and no more than the message weighs
pub credit_taken : (header : Header) (channel : Channel) (m : Message) (past : List Event)
    → credit header (event.Taken channel m ∷ past) + joins header (event.Taken channel m) + 1
    ≤ letter_weight header (record { channel = channel; message = m })
credit_taken header (Up host object) (message.Init control size) past = omega arith
credit_taken header (Up host object) (message.Create control size) past = omega arith
credit_taken header (Up host object) (message.Request control page access) past = request_taken (is_shared header object.0) (wish_weight (host_count header))
credit_taken header (Up host object) (message.Unlock control page access) past = unlock_taken (is_shared header object.0) (wish_weight (host_count header))
credit_taken header (Up host object) (message.Lock page count returns flush lock reply) past = lock_some (is_shared header object.0) count
credit_taken header (Up host object) other past = omega arith
credit_taken header (Down host object control) (message.Lock page count returns flush lock reply) past =
    lock_few (is_shared header object.0) _ count reply (pages_few header host.0 object.0 page.0 count (event.Taken (Down host object control)
    (message.Lock page count returns flush lock reply) ∷ past))
credit_taken header (Down host object control) (message.Ready cache strategy) past =
    let few = end_few header host.0 object.0 (event.Taken (Down host object control) (message.Ready cache strategy) ∷ past) in
    omega (arith, few)
credit_taken header (Down host object control) (message.Attributes cache strategy reply) past =
    let few = end_few header host.0 object.0 (event.Taken (Down host object control) (message.Attributes cache strategy reply) ∷ past) in
    omega (arith, few)
credit_taken header (Down host object control) (message.Request at page access) past =
    request_few (is_shared header object.0) (wish_weight (host_count header))
credit_taken header (Down host object control) (message.Unlock at page access) past =
    unlock_few (is_shared header object.0) (wish_weight (host_count header))
credit_taken header (Down host object control) other past = omega arith
