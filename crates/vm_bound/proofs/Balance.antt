-- In a step of a settle what an event sends, and opens anew, is paid.
use Rattle.std.proofs.Common.{ℕ, ◌≡◌, ◌≤◌, ◌+◌, ◌*◌, List, ◌∷◌, Bool, true, false, Option, None, Some, refl, arith}
use Rattle.std.proofs.Common.{if◌then◌else◌}
use Rattle.std.specs.Prelude.{◌==◌, ◌&&◌, nat_lt, not}
use Rattle.vm_base.specs.declared.ids.HostId.{HostId}
use Rattle.vm_base.specs.declared.ids.ObjectId.{ObjectId}
use Rattle.vm_base.specs.declared.ids.ObjectKind.{ObjectKind}
use Rattle.vm_base.specs.declared.ids.ObjectKind.TheVariants.{Temp, File, Shared, Wild}
use Rattle.vm_bound.proofs.LeftLaw.{leaves, left_dues}
use Rattle.vm_bound.proofs.Owing.{Follows, access_relief, debt, error_debt_of, place_gain, place_relief}
use Rattle.vm_bound.proofs.Paying.{CreatesNone, down_dues, dues, is_flushed_page, is_locked_page, page_unit, regains, replies, served}
use Rattle.vm_bound.specs.Accesses.{turn_weight}
use Rattle.vm_bound.specs.Letters.{host_count, letter_weight, message_weight, wish_weight}
use Rattle.vm_bound.specs.Settles.{MayCome}
use Rattle.vm_legal.specs.Licences.{LockRequest, MaySendUp, PagerSends, lock_taken}
use Rattle.vm_legal.specs.Outside.{Outside, is_shared, is_shared_kind, kind_of}
use Rattle.vm_legal.specs.Steps.{Asked, error_taken, fails_access, since}
use Rattle.vm_legal.specs.Stretches.{IsInner}
use Rattle.vm_model.specs.Named.{declared_pages, named}
use Rattle.vm_model.specs.declared.command.Command.TheVariants as command
use Rattle.vm_model.specs.declared.event.Event.{Event}
use Rattle.vm_model.specs.declared.event.Event.TheVariants as event
use Rattle.vm_model.specs.declared.message.Channel.TheVariants.{Up, Down}
use Rattle.vm_model.specs.declared.message.Message.{Message}
use Rattle.vm_model.specs.declared.message.Message.TheVariants as message
use Rattle.vm_model.specs.declared.script.Header.{Header}

-- what is added
abbrev pub costs : Header → Event → ℕ
costs header (event.Sent channel m) = letter_weight header (record { channel = channel; message = m })
costs header other = 0

abbrev pub opened : Header → Event → List Event → ℕ
opened header e past = costs header e + (regains e + (leaves e + place_gain header e past))

-- what is paid
abbrev pub paid : Header → Event → List Event → ℕ
paid header e past = replies header e + (dues header e past + (left_dues header e + (access_relief header e + place_relief header e)))

-- A request: a reader pays for those, too, who wait to write.
request_balance : (turn weight wish : ℕ) (shared three : Bool) → turn ≡ wish + 1 → (if shared then wish + 1 else 2)
    + (if shared && not three then turn else 0) ≤ (if shared && not three then 2 * turn else 0) + (if shared then (if three then turn else 0) else 2)
request_balance turn weight wish true true is = omega (arith, is)
request_balance turn weight wish true false is = omega (arith, is)
request_balance turn weight wish false three is = omega arith

-- A page that goes back.
return_balance : (shared flush here : Bool) → 1 + (if not shared && (flush && here) then 2 else 0) ≤ (if here then page_unit shared else 1)
return_balance true flush true = omega arith
return_balance true flush false = omega arith
return_balance false true true = omega arith
return_balance false false true = omega arith
return_balance false true false = omega arith
return_balance false false false = omega arith

drop_balance : (shared taken : Bool) → (if not shared && taken then 2 else 0) ≤ (if taken then page_unit shared else 0)
drop_balance true true = omega arith
drop_balance true false = omega arith
drop_balance false true = omega arith
drop_balance false false = omega arith

-- a flush is a lock
flushed_locked : (h o p : ℕ) (request : Option LockRequest) (shared : Bool)
    → 1 + (if not shared && is_flushed_page h o p request then 2 else 0) ≤ (if is_locked_page h o p request then page_unit shared else 1)
flushed_locked h o p None true = omega arith
flushed_locked h o p None false = omega arith
flushed_locked h o p (Some request) shared = return_balance shared request.flush (is_locked_page h o p (Some request))

-- What a host sends.
up_balance : (header : Header) (n : ℕ) (host : HostId) (object : ObjectId) (m : Message) (past : List Event)
    → MaySendUp header (command.Settle n) host.0 object.0 m past → MayCome (event.Sent (Up host object) m) past → CreatesNone (event.Sent (Up host object) m)
    → opened header (event.Sent (Up host object) m) past ≤ paid header (event.Sent (Up host object) m) past
up_balance header n host object (message.Init control size) past may come creates = absurd come.1
up_balance header n host object (message.Create control size) past may come creates = absurd creates
up_balance header n host object (message.Request control page access) past may come creates =
    let all = request_balance (turn_weight header) 0 (wish_weight (host_count header)) (is_shared header object.0) (access == 3) refl in omega (arith, all)
up_balance header n host object (message.Unlock control page access) past may come creates = by (is_shared header object.0)
  where
    by : (b : Bool) → (if b then wish_weight (host_count header) + 1 else 1) + 0 ≤ 0 + (0 + (0 + (0 + turn_weight header)))
    by true = omega arith
    by false = omega arith
up_balance header n host object (message.Return control page dirty keep bytes) past may come creates =
    let all = flushed_locked host.0 object.0 page.0 (lock_taken past) (is_shared header object.0) in omega (arith, all)
up_balance header n host object (message.Completed control page count) past may come creates = omega arith
up_balance header n host object (message.Changed control cache strategy) past may come creates = omega arith
up_balance header n host object (message.Terminate control) past may come creates = by (not (nat_lt object.0 (named header)))
  where
    by : (b : Bool) → 1 + (0 + (0 + 0)) ≤ 0 + ((if b then 0 else 1) + ((if b then 1 else 0) + (0 + 0)))
    by true = omega arith
    by false = omega arith
up_balance header n host object (message.Ready cache strategy) past may come creates = absurd may
up_balance header n host object (message.Attributes cache strategy reply) past may come creates = absurd may
up_balance header n host object (message.Lock page count returns flush lock reply) past may come creates = absurd may
up_balance header n host object (message.Destroy reason) past may come creates = absurd may
up_balance header n host object (message.Supply page lock precious bytes) past may come creates = absurd may
up_balance header n host object (message.Unavailable page) past may come creates = absurd may
up_balance header n host object (message.Error page reason) past may come creates = absurd may

-- What a pager sends.
down_balance : (kind : ObjectKind) (header : Header) (outside : Outside) (n host object control pages hosts : ℕ) (m : Message) (past : List Event)
    → PagerSends kind header outside (command.Settle n) host object control m past
    → message_weight hosts (is_shared_kind kind) pages m ≤ served (is_shared_kind kind) m + down_dues (is_shared_kind kind) pages m
down_balance Temp header outside n host object control pages hosts (message.Supply page lock precious bytes) past may = omega arith
down_balance Temp header outside n host object control pages hosts (message.Unavailable page) past may = omega arith
down_balance Temp header outside n host object control pages hosts (message.Error page reason) past may = omega arith
down_balance Temp header outside n host object control pages hosts (message.Ready cache strategy) past may = omega arith
down_balance Temp header outside n host object control pages hosts (message.Lock page count returns flush lock reply) past may = absurd may.5
down_balance Temp header outside n host object control pages hosts (message.Attributes cache strategy reply) past may = absurd may.4
down_balance Temp header outside n host object control pages hosts m past may = absurd may
down_balance File header outside n host object control pages hosts (message.Supply page lock precious bytes) past may = omega arith
down_balance File header outside n host object control pages hosts (message.Unavailable page) past may = omega arith
down_balance File header outside n host object control pages hosts (message.Error page reason) past may = omega arith
down_balance File header outside n host object control pages hosts (message.Ready cache strategy) past may = omega arith
down_balance File header outside n host object control pages hosts (message.Lock page count returns flush lock reply) past may = absurd may.5
down_balance File header outside n host object control pages hosts (message.Attributes cache strategy reply) past may = absurd may.4
down_balance File header outside n host object control pages hosts m past may = absurd may
down_balance Shared header outside n host object control pages hosts (message.Supply page lock precious bytes) past may = omega arith
down_balance Shared header outside n host object control pages hosts (message.Lock page count returns flush lock reply) past may = omega arith
down_balance Shared header outside n host object control pages hosts (message.Ready cache strategy) past may = omega arith
down_balance Shared header outside n host object control pages hosts m past may = absurd may
down_balance Wild header outside n host object control pages hosts m past may = absurd may

-- an error is a debt until some access fails by it
pub debt_is : (header : Header) (e : Event) (past : List Event) → IsInner e → debt header past ≤ debt header (e ∷ past) + 3 * leaves e
debt_is header (event.Line line) past inner = absurd inner
debt_is header (event.Taken channel m) past inner = absurd inner
debt_is header (event.Failed task object page) past inner = by (error_taken header past)
  where
    by : (asked : Option Asked) → error_debt_of asked past ≤ error_debt_of asked (event.Failed task object page ∷ past) + 3 * 1
    by None = omega arith
    by (Some asked) = few (since (fails_access asked.object asked.page) past) (error_debt_of (Some asked) (event.Failed task object page ∷ past))
      where
        few : (b : Bool) (k : ℕ) → (if b then 0 else 3) ≤ k + 3 * 1
        few true k = omega arith
        few false k = omega arith
debt_is header e past inner = same (error_taken header past)
  where
    same : (asked : Option Asked) → error_debt_of asked past ≤ error_debt_of asked (e ∷ past) + 3 * 0
    same None = omega arith
    same (Some asked) = omega arith

-- each event
pub balance : (header : Header) (outside : Outside) (n : ℕ) (e : Event) (past : List Event) → Follows header outside n e past
    → opened header e past + 3 * leaves e ≤ paid header e past
balance header outside n (event.Sent (Up host object) m) past follows =
    let all = up_balance header n host object m past follows.licensed.0 follows.may follows.creates in omega (arith, all)
balance header outside n (event.Sent (Down host object control) m) past follows =
    let all = down_balance (kind_of header object.0) header outside n host.0 object.0 control (declared_pages header object.0) (host_count header) m past
    follows.licensed.0 in
    omega (arith, all)
balance header outside n (event.Dropped host object page) past follows =
    let all = drop_balance (is_shared header object.0) (is_flushed_page host.0 object.0 page.0 (lock_taken past)) in omega (arith, all)
balance header outside n (event.CopiedPage task page object object_page target) past follows = by (is_shared header object.0)
  where
    by : (b : Bool) → 0 + (0 + (0 + (if b then 0 else 2))) + 3 * 0 ≤ 0 + (0 + (0 + ((if b then 0 else 2) + 0)))
    by true = omega arith
    by false = omega arith
balance header outside n e past follows = omega arith
