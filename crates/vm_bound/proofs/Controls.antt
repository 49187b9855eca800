-- The numbers of controls: one that lives has a number, and so had that of a lock_request that a step took; and each is on a host.
use Rattle.std.proofs.Common.{ℕ, suc, ◌≡◌, ◌≤◌, ◌<◌, ◌==◌, ◌&&◌, ◌∙◌, Bool, true, false, List, [], ◌∷◌, Option, Some, None, ap, arith, refl, subst}
use Rattle.std.specs.Prelude.{if◌then◌else◌}
use Rattle.vm_base.specs.declared.ids.HostId.{HostId}
use Rattle.vm_base.specs.declared.ids.ObjectId.{ObjectId}
use Rattle.vm_bound.specs.Letters.{host_count}
use Rattle.vm_bound.specs.Settles.{IsOnHosts}
use Rattle.vm_legal.specs.Licences.{HasCause, LockRequest, lock_taken}
use Rattle.vm_legal.specs.Outside.{Outside}
use Rattle.vm_model.proofs.Ports.{at_place}
use Rattle.vm_model.specs.Controls.{is_control, last_control, live_control, without_control}
use Rattle.vm_model.specs.Moments.{EachEvent}
use Rattle.vm_model.specs.declared.event.Event.{Event}
use Rattle.vm_model.specs.declared.event.Event.TheVariants as event
use Rattle.vm_model.specs.declared.message.Channel.TheVariants.{Up, Down}
use Rattle.vm_model.specs.declared.message.Message.TheVariants as message
use Rattle.vm_model.specs.declared.script.Header.{Header}

-- there is none, or this holds
abbrev WhereLive : Type 0 → Option ℕ → Type 0
WhereLive P None = Unit {0}
WhereLive P (Some k) = P

pub never_live : (P : Type 0) (live : Option ℕ) → (P → ⊥) → WhereLive P live → live ≡ None
never_live P None never holds = refl
never_live P (Some k) never holds = absurd (never holds)

where_without : (P : Type 0) (control : ℕ) (live : Option ℕ) → WhereLive P live → WhereLive P (without_control control live)
where_without P control None holds = tt
where_without P control (Some number) holds = by (number == control)
  where
    by : (b : Bool) → WhereLive P (if b then None else Some number)
    by true = tt
    by false = holds

begun_below : (n h o : ℕ) (host : HostId) (object : ObjectId) (control : ℕ) (live : Option ℕ) (b : Bool) → (host.0 == h && object.0 == o) ≡ b
    → host.0 < n → WhereLive (h < n) live → WhereLive (h < n) (if b then Some control else live)
begun_below n h o host object control live true same below was = at_place (λ x y. x < n) host.0 object.0 h o same below
begun_below n h o host object control live false same below was = was

where_ended : (P : Type 0) (control : ℕ) (live : Option ℕ) (b : Bool) → WhereLive P live → WhereLive P (if b then without_control control live else live)
where_ended P control live true was = where_without P control live was
where_ended P control live false was = was

-- a control that lives is on one of the hosts
live_below : (header : Header) (h o : ℕ) (past : List Event) → EachEvent (IsOnHosts header) past
    → WhereLive (h < host_count header) (live_control h o past)
live_below header h o [] each = tt
live_below header h o (event.Sent (Up host object) (message.Init control size) ∷ past) each =
    begun_below (host_count header) h o host object control (live_control h o past) (host.0 == h && object.0 == o) refl each.0
    (live_below header h o past each.1)
live_below header h o (event.Sent (Up host object) (message.Create control size) ∷ past) each =
    begun_below (host_count header) h o host object control (live_control h o past) (host.0 == h && object.0 == o) refl each.0
    (live_below header h o past each.1)
live_below header h o (event.Sent (Up host object) (message.Terminate control) ∷ past) each =
    where_ended (h < host_count header) control (live_control h o past) (host.0 == h && object.0 == o) (live_below header h o past each.1)
live_below header h o (e ∷ past) each = live_below header h o past each.1

pub none_lives_elsewhere : (header : Header) (h o : ℕ) (past : List Event) → EachEvent (IsOnHosts header) past → host_count header ≤ h
    → live_control h o past ≡ None
none_lives_elsewhere header h o past each beyond =
    never_live (h < host_count header) (live_control h o past) (λ below. absurd (omega (arith, beyond, below))) (live_below header h o past each)

-- a control that lives has a number, and so had that of a lock_request that the step took

abbrev NotZero : ℕ → Type 0
NotZero n = n ≡ 0 → ⊥

number_begun : (number was : ℕ) (live : Option ℕ) (b : Bool) → NotZero number → WhereLive (NotZero was) live
    → WhereLive (NotZero (if b then number else was)) (if b then Some number else live)
number_begun number was live true new old = new
number_begun number was live false new old = old

opens_numbered : (n last : ℕ) → n ≡ suc last → NotZero n
opens_numbered n last is none = absurd (omega (arith, is, none))

live_numbered : (header : Header) (outside : Outside) (h o : ℕ) (past : List Event) → EachEvent (HasCause header outside) past
    → WhereLive (NotZero (last_control h o past)) (live_control h o past)
live_numbered header outside h o [] each = tt
live_numbered header outside h o (event.Sent (Up host object) (message.Init control size) ∷ past) each =
    number_begun control (last_control h o past) (live_control h o past) (host.0 == h && object.0 == o)
    (opens_numbered control (last_control host.0 object.0 past) each.0.1.number) (live_numbered header outside h o past each.1)
live_numbered header outside h o (event.Sent (Up host object) (message.Create control size) ∷ past) each =
    number_begun control (last_control h o past) (live_control h o past) (host.0 == h && object.0 == o)
    (opens_numbered control 0 each.0.1.number) (live_numbered header outside h o past each.1)
live_numbered header outside h o (event.Sent (Up host object) (message.Terminate control) ∷ past) each =
    where_ended (NotZero (last_control h o past)) control (live_control h o past) (host.0 == h && object.0 == o) (live_numbered header outside h o past each.1)
live_numbered header outside h o (e ∷ past) each = live_numbered header outside h o past each.1

pub never_lives : (header : Header) (outside : Outside) (h o : ℕ) (past : List Event) → EachEvent (HasCause header outside) past → last_control h o past ≡ 0
    → live_control h o past ≡ None
never_lives header outside h o past each none =
    never_live (NotZero (last_control h o past)) (live_control h o past) (λ numbered. absurd (numbered none)) (live_numbered header outside h o past each)

abbrev IsNumbered : (ℕ → ℕ → ℕ) → Option LockRequest → Type 0
IsNumbered lasts None = Unit {0}
IsNumbered lasts (Some request) = NotZero (lasts request.host request.object)

numbered_more : (lasts now : ℕ → ℕ → ℕ) (request : Option LockRequest) → ((h o : ℕ) → NotZero (lasts h o) → NotZero (now h o)) → IsNumbered lasts request
    → IsNumbered now request
numbered_more lasts now None more is = tt
numbered_more lasts now (Some request) more is = more request.host request.object is

number_now : (number was : ℕ) (b : Bool) → NotZero number → NotZero was → NotZero (if b then number else was)
number_now number was true new old = new
number_now number was false new old = old

where_lives : (P : Type 0) (control : ℕ) (live : Option ℕ) → is_control control live ≡ true → WhereLive P live → P
where_lives P control None is holds = absurd (let bad : false ≡ true = is in cc)
where_lives P control (Some number) is holds = holds

taken_numbered : (lasts : ℕ → ℕ → ℕ) (request : LockRequest) (control : ℕ) (live : Option ℕ) (b : Bool) → is_control control live ≡ b
    → WhereLive (NotZero (lasts request.host request.object)) live → IsNumbered lasts (if b then Some request else None)
taken_numbered lasts request control live false is holds = tt
taken_numbered lasts request control live true is holds = where_lives (NotZero (lasts request.host request.object)) control live is holds

lock_numbered : (header : Header) (outside : Outside) (past : List Event) → EachEvent (HasCause header outside) past
    → IsNumbered (λ h o. last_control h o past) (lock_taken past)
lock_numbered header outside [] each = tt
lock_numbered header outside (event.Line line ∷ past) each = tt
lock_numbered header outside (event.Taken (Down host object control) (message.Lock page count returns flush lock reply) ∷ past) each =
    taken_numbered (λ h o. last_control h o past) (record {
      host = host.0;
      object = object.0;
      control = control;
      page = page.0;
      count = count;
      returns = returns;
      flush = flush;
      lock = lock;
      reply = reply;
    }) control (live_control host.0 object.0 past) (is_control control (live_control host.0 object.0 past)) refl
    (live_numbered header outside host.0 object.0 past each.1)
lock_numbered header outside (event.Taken channel m ∷ past) each = tt
lock_numbered header outside (event.Sent (Up host object) (message.Init control size) ∷ past) each =
    numbered_more (λ h o. last_control h o past) (λ h o. last_control h o (event.Sent (Up host object) (message.Init control size) ∷ past)) (lock_taken past)
    (λ h o. number_now control (last_control h o past) (host.0 == h && object.0 == o)
    (opens_numbered control (last_control host.0 object.0 past) each.0.1.number)) (lock_numbered header outside past each.1)
lock_numbered header outside (event.Sent (Up host object) (message.Create control size) ∷ past) each =
    numbered_more (λ h o. last_control h o past) (λ h o. last_control h o (event.Sent (Up host object) (message.Create control size) ∷ past)) (lock_taken past)
    (λ h o. number_now control (last_control h o past) (host.0 == h && object.0 == o) (opens_numbered control 0 each.0.1.number))
    (lock_numbered header outside past each.1)
lock_numbered header outside (e ∷ past) each = lock_numbered header outside past each.1

-- the lock_request that the step took was of a control that lived, so there was one of its object before
pub lock_never : (header : Header) (outside : Outside) (h o : ℕ) (request : LockRequest) (past : List Event) → EachEvent (HasCause header outside) past
    → lock_taken past ≡ Some request → request.host ≡ h → request.object ≡ o → last_control h o past ≡ 0 → ⊥
lock_never header outside h o request past each taken at of none =
    let numbered : IsNumbered (λ x y. last_control x y past) (Some request) =
    subst (λ (z : Option LockRequest). IsNumbered (λ x y. last_control x y past) z) taken (lock_numbered header outside past each) in
    numbered (ap (λ (x : ℕ). last_control x request.object past) at ∙ (ap (λ (y : ℕ). last_control h y past) of ∙ none))
