-- What accesses have passed over stays away behind an event: what each message that is taken, each return and each request is to a place.
use Rattle.std.proofs.Common.{Bool, List, Option, ap, arith, false, inl, inr, refl, subst, sym, true, ℕ, ◌&&◌, ◌==◌, ◌||◌, ◌∙◌, ◌∷◌, ◌≡◌, ◌≤◌}
use Rattle.std.proofs.lemmas.Bool.Decides.{nat_tests}
use Rattle.std.specs.Prelude.{if◌then◌else◌, nat_lt, not}
use Rattle.vm_base.specs.declared.ids.HostId.{HostId}
use Rattle.vm_base.specs.declared.ids.ObjectId.{ObjectId}
use Rattle.vm_base.specs.declared.ids.PageKey.{PageKey}
use Rattle.vm_base.specs.declared.ids.PageNo.{PageNo}
use Rattle.vm_copies.specs.Copies.{CopyTable}
use Rattle.vm_legal.specs.Returned.{was_returned}
use Rattle.vm_legal.specs.Walks.{page_on}
use Rattle.vm_maps.specs.Maps.{Mapped}
use Rattle.vm_model.specs.Controls.{is_control, live_control}
use Rattle.vm_model.specs.Local.{Asks, Elsewhere, Local, Returns, TakesError, TakesLock, TakesNothing, TakesPage, is_known_absent, local_after, taken_effect}
use Rattle.vm_model.specs.Named.{named}
use Rattle.vm_model.specs.Waiting.{Access}
use Rattle.vm_model.specs.Words.{in_range}
use Rattle.vm_model.specs.declared.event.Event.{Event}
use Rattle.vm_model.specs.declared.event.Event.TheVariants as event
use Rattle.vm_model.specs.declared.message.Channel.TheVariants.{Down, Up}
use Rattle.vm_model.specs.declared.message.Message.{Message}
use Rattle.vm_model.specs.declared.message.Message.TheVariants as message
use Rattle.vm_model.specs.declared.script.Header.{Header}
use Rattle.vm_objects.specs.Objects.{ObjectTable}
use Rattle.vm_resident.specs.Resident.{ResidentTable}
use Rattle.vm_shadow.specs.Chains.{ChainTable}
use Rattle.vm_state.proofs.Passing.{IsCalm, IsQuiet, Later, calm_if, calm_of, effect_at, quiet_if, same_of, stays_quiet, unmet_calm, unmet_later}
use Rattle.vm_state.proofs.Waiting.{waits_seen}
use Rattle.vm_state.specs.Passed.{IsAway, IsUnmet, StaysAway, Unmet}
use Rattle.vm_state.specs.Waiters.{HasWaiters, IsPagerTold, Reason}
use Rattle.vm_waits.specs.declared.waiting.On.{On}
use Rattle.vm_waits.specs.declared.waiting.On.TheVariants as on
use Rattle.vm_waits.specs.declared.waiting.Waiting.{Waiting}
use Rattle.vm_waits.specs.declared.waiting.Want.{Want}

-- whatever a host takes

away_supplied : (size lock : ℕ) (precious : Bool) (bytes : List ℕ) (a b d c : Bool) (was : Local) (returned : Bool)
    → (a ≡ true → b ≡ true → c ≡ true → returned ≡ true) → IsAway was returned
    → IsAway (local_after size (if a && (b && d) then (if c then TakesPage lock precious bytes else Elsewhere) else Elsewhere) was) returned
away_supplied size lock precious bytes false b d c was returned given is = is
away_supplied size lock precious bytes true false d c was returned given is = is
away_supplied size lock precious bytes true true false c was returned given is = is
away_supplied size lock precious bytes true true true false was returned given is = is
away_supplied size lock precious bytes true true true true was returned given is = elim is.why [
  | inl none ↦ absurd (let bad : false ≡ true = sym none ∙ given refl refl refl in cc)
  | inr missing ↦ by was.asked missing.0
]
  where
    by : (b : Bool) → b ≡ false
        → IsAway (if b then record was { here = true; bytes = bytes; lock = lock; dirty = false; precious = precious; unlocking = false; asked = false } else
        was) returned
    by true bad = absurd (let no : true ≡ false = bad in cc)
    by false unasked = is

calm_taken : (page : ℕ) (m : Message) → IsCalm (taken_effect page m)
calm_taken page (message.Supply at lock precious bytes) = calm_if (at.0 == page) (TakesPage lock precious bytes) Elsewhere tt tt
calm_taken page (message.Unavailable at) = calm_if (at.0 == page) TakesNothing Elsewhere tt tt
calm_taken page (message.Error at reason) = calm_if (at.0 == page) TakesError Elsewhere tt tt
calm_taken page (message.Lock at count returns flush lock reply) = calm_if (in_range page at.0 count) (TakesLock lock flush) Elsewhere tt tt
calm_taken page m = tt

-- a message down
abbrev pub takes_down : HostId → ObjectId → ℕ → Message → Event
takes_down host object control m = event.Taken (Down host object control) m

stays_supplied : (header : Header) (h : ℕ) (host : HostId) (object : ObjectId) (control : ℕ) (page : PageNo) (lock : ℕ) (precious : Bool) (bytes : List ℕ)
    (past : List Event) (key : PageKey)
    → StaysAway header h past key
    → StaysAway header h (takes_down host object control (message.Supply page lock precious bytes) ∷ past) key
stays_supplied header h host object control page lock precious bytes past key stays = (
  stays.0,
  λ only. away_supplied header.size lock precious bytes (host.0 == h) (object.0 == key.object.0) (is_control control (live_control h key.object.0 past))
      (page.0 == key.page.0) (page_on header h key.object.0 key.page.0 past)
      (was_returned h key.object.0 key.page.0 past)
      (λ on of its.
      let object_is : object.0 ≡ key.object.0 = same_of object.0 key.object.0 of in
      let page_is : page.0 ≡ key.page.0 = same_of page.0 key.page.0 its in
      let given = only.0 (same_of host.0 h on) (subst (λ (z : ℕ). named header ≤ z) (sym object_is) stays.0) in
      subst (λ (z : ℕ). was_returned h z key.page.0 past ≡ true) object_is (subst (λ (z : ℕ). was_returned h object.0 z past ≡ true) page_is given.1))
      (stays.1 only.2),
)

pub stays_taken : (header : Header) (h : ℕ) (host : HostId) (object : ObjectId) (control : ℕ) (m : Message) (past : List Event) (key : PageKey)
    → StaysAway header h past key → StaysAway header h (takes_down host object control m ∷ past) key
stays_taken header h host object control (message.Supply page lock precious bytes) past key stays =
    stays_supplied header h host object control page lock precious bytes past key stays
stays_taken header h host object control (message.Unavailable at) past key stays =
    stays_quiet header h (takes_down host object control (message.Unavailable at)) past key
    (quiet_if (host.0 == h && (object.0 == key.object.0 && is_control control (live_control h key.object.0 past)))
    (taken_effect key.page.0 (message.Unavailable at)) Elsewhere (quiet_if (at.0 == key.page.0) TakesNothing Elsewhere tt tt) tt) stays
stays_taken header h host object control (message.Error at reason) past key stays =
    stays_quiet header h (takes_down host object control (message.Error at reason)) past key
    (quiet_if (host.0 == h && (object.0 == key.object.0 && is_control control (live_control h key.object.0 past)))
    (taken_effect key.page.0 (message.Error at reason)) Elsewhere (quiet_if (at.0 == key.page.0) TakesError Elsewhere tt tt) tt) stays
stays_taken header h host object control (message.Lock at count returns flush lock reply) past key stays =
    stays_quiet header h (takes_down host object control (message.Lock at count returns flush lock reply)) past key
    (quiet_if (host.0 == h && (object.0 == key.object.0 && is_control control (live_control h key.object.0 past)))
    (taken_effect key.page.0 (message.Lock at count returns flush lock reply)) Elsewhere
    (quiet_if (in_range key.page.0 at.0 count) (TakesLock lock flush) Elsewhere tt tt) tt) stays
stays_taken header h host object control m past key stays =
    stays_quiet header h (takes_down host object control m) past key (quiet_if (host.0 == h &&
    (object.0 == key.object.0 && is_control control (live_control h key.object.0 past))) Elsewhere Elsewhere tt tt) stays

pub unmet_taken : (header : Header) (h : ℕ) (host : HostId) (object : ObjectId) (control : ℕ) (m : Message) (past : List Event) (key : PageKey)
    → Later (IsUnmet header h past key) (IsUnmet header h (takes_down host object control m ∷ past) key)
unmet_taken header h host object control m past key =
    unmet_calm header h (takes_down host object control m) past key
    (calm_if (host.0 == h && (object.0 == key.object.0 && is_control control (live_control h key.object.0 past))) (taken_effect key.page.0 m) Elsewhere
    (calm_taken key.page.0 m) tt)

-- a page that is here goes back to its pager

away_returned : (size : ℕ) (a b c keep : Bool) (was : Local) (returned : Bool) → (a ≡ true → b ≡ true → c ≡ true → was.here ≡ true) → IsAway was returned
    → IsAway (local_after size (if a && b then (if c then Returns keep else Elsewhere) else Elsewhere) was) ((a && (b && c)) || returned)
away_returned size false b c keep was returned here is = is
away_returned size true false c keep was returned here is = is
away_returned size true true false keep was returned here is = is
away_returned size true true true keep was returned here is = absurd (let bad : false ≡ true = sym is.away ∙ here refl refl refl in cc)

calm_returned : (a b c keep : Bool) → (a ≡ true → b ≡ true → c ≡ true → ⊥) → IsCalm (if a && b then (if c then Returns keep else Elsewhere) else Elsewhere)
calm_returned false b c keep apart = tt
calm_returned true false c keep apart = tt
calm_returned true true false keep apart = tt
calm_returned true true true keep apart = absurd (apart refl refl refl)

abbrev pub returning : HostId → ObjectId → ℕ → PageNo → Bool → Bool → List ℕ → Event
returning host object control page dirty keep bytes = event.Sent (Up host object) (message.Return control page dirty keep bytes)

here_moved : (header : Header) (h o p o2 p2 : ℕ) (past : List Event) → o ≡ o2 → p ≡ p2 → (page_on header h o p past).here ≡ true
    → (page_on header h o2 p2 past).here ≡ true
here_moved header h o p o2 p2 past same also here =
    subst (λ (z : ℕ). (page_on header h z p2 past).here ≡ true) same (subst (λ (z : ℕ). (page_on header h o z past).here ≡ true) also here)

pub stays_returned : (header : Header) (h : ℕ) (host : HostId) (object : ObjectId) (control : ℕ) (page : PageNo) (dirty keep : Bool) (bytes : List ℕ)
    (past : List Event)
    → (page_on header h object.0 page.0 past).here ≡ true → (key : PageKey) → StaysAway header h past key
    → StaysAway header h (returning host object control page dirty keep bytes ∷ past) key
stays_returned header h host object control page dirty keep bytes past here key stays = (
  stays.0,
  λ only. away_returned header.size (host.0 == h) (object.0 == key.object.0) (page.0 == key.page.0) keep (page_on header h key.object.0 key.page.0 past)
      (was_returned h key.object.0 key.page.0 past)
      (λ on of its. here_moved header h object.0 page.0 key.object.0 key.page.0 past (same_of object.0 key.object.0 of) (same_of page.0 key.page.0 its) here)
      (stays.1 only.1),
)

pub unmet_returned : (header : Header) (h : ℕ) (host : HostId) (object : ObjectId) (control : ℕ) (page : PageNo) (dirty keep : Bool) (bytes : List ℕ)
    (past : List Event)
    → (page_on header h object.0 page.0 past).here ≡ true → (key : PageKey)
    → Later (IsUnmet header h past key) (IsUnmet header h (returning host object control page dirty keep bytes ∷ past) key)
unmet_returned header h host object control page dirty keep bytes past here key =
    unmet_later header h (returning host object control page dirty keep bytes) past key
    (λ was. calm_returned (host.0 == h) (object.0 == key.object.0) (page.0 == key.page.0) keep
    (λ on of its. (let bad : false ≡ true = sym was.away
    ∙ here_moved header h object.0 page.0 key.object.0 key.page.0 past (same_of object.0 key.object.0 of) (same_of page.0 key.page.0 its) here in cc)))

-- a page is asked for that its pager may have

abbrev pub requests : HostId → ObjectId → ℕ → PageNo → ℕ → Event
requests host object control page access = event.Sent (Up host object) (message.Request control page access)

away_asked : (size : ℕ) (a b c d : Bool) (was : Local) (returned : Bool) → (a ≡ true → b ≡ true → c ≡ true → was.absent ≡ false) → IsAway was returned
    → IsAway (local_after size (if a && b then (if c && d then Asks else Elsewhere) else Elsewhere) was) returned
away_asked size false b c d was returned present is = is
away_asked size true false c d was returned present is = is
away_asked size true true false d was returned present is = is
away_asked size true true true false was returned present is = is
away_asked size true true true true was returned present is = record {
  away = is.away;
  why = elim is.why [ inl none ↦ inl none | inr missing ↦ absurd (let bad : false ≡ true = sym (present refl refl refl) ∙ missing.1 in cc) ];
}

calm_asked : (a b c d : Bool) → (b ≡ true → ⊥) → IsCalm (if a && b then (if c && d then Asks else Elsewhere) else Elsewhere)
calm_asked false b c d apart = tt
calm_asked true false c d apart = tt
calm_asked true true c d apart = absurd (apart refl)

-- of a temporary object that is what the history has of it
known_absent : (header : Header) (o p : ℕ) (page : Local) → named header ≤ o → is_known_absent header (record { object = o; page = p }) page ≡ false
    → page.absent ≡ false
known_absent header o p page least known =
    let test : nat_lt o (named header) ≡ false = grind (arith, nat_tests, least) in
    ap (λ b. not b && page.absent) (sym test) ∙ known

pub stays_asked : (header : Header) (h : ℕ) (host : HostId) (object : ObjectId) (control : ℕ) (page : PageNo) (access : ℕ) (past : List Event)
    → is_known_absent header (record { object = object.0; page = page.0 }) (page_on header h object.0 page.0 past) ≡ false → (key : PageKey)
    → StaysAway header h past key → StaysAway header h (requests host object control page access ∷ past) key
stays_asked header h host object control page access past known key stays = (
  stays.0,
  λ only. away_asked header.size (host.0 == h) (object.0 == key.object.0) (page.0 == key.page.0) (is_control control (live_control h key.object.0 past))
      (page_on header h key.object.0 key.page.0 past) (was_returned h key.object.0 key.page.0 past)
      (λ on of its.
      let object_is : object.0 ≡ key.object.0 = same_of object.0 key.object.0 of in
      let page_is : page.0 ≡ key.page.0 = same_of page.0 key.page.0 its in
      known_absent header key.object.0 key.page.0 (page_on header h key.object.0 key.page.0 past) stays.0
      (subst (λ (z : ℕ). is_known_absent header (record { object = z; page = key.page.0 }) (page_on header h z key.page.0 past) ≡ false) object_is
      (subst (λ (z : ℕ). is_known_absent header (record { object = object.0; page = z }) (page_on header h object.0 z past) ≡ false) page_is known)))
      (stays.1 only),
)

pub unmet_asked : (header : Header) (h : ℕ) (host : HostId) (object : ObjectId) (control : ℕ) (page : PageNo) (access : ℕ) (past : List Event) (key : PageKey)
    → (object.0 ≡ key.object.0 → ⊥) → Later (IsUnmet header h past key) (IsUnmet header h (requests host object control page access ∷ past) key)
unmet_asked header h host object control page access past key apart =
    unmet_calm header h (requests host object control page access) past key
    (calm_asked (host.0 == h) (object.0 == key.object.0) (page.0 == key.page.0) (is_control control (live_control h key.object.0 past))
    (λ of. apart (same_of object.0 key.object.0 of)))

-- so whoever waits has passed over what it had

-- where both stay so at each place
pub waits_beyond : {stays stays2 : PageKey → Type 0} {unmet unmet2 : PageKey → Unmet} {maps : Mapped} {chains : ChainTable} {copies : CopyTable}
    {rs : ResidentTable} {os : ObjectTable} {rows : List Waiting} {who : On → Bool} {at : ℕ → Option Access}
    → ((key : PageKey) → stays key → stays2 key) → ((key : PageKey) → Later (unmet key) (unmet2 key))
    → HasWaiters maps chains copies rs os rows who at stays unmet → HasWaiters maps chains copies rs os rows who at stays2 unmet2
waits_beyond {maps = maps} {chains = chains} {rs = rs} {os = os} {rows = rows} {who = who} {at = at} same still has =
    waits_seen maps chains rs os rows who at has (λ t w found asleep reason to stop m from place leads. same from leads.0)
    (λ t w found asleep reason object why to its place. still to)

-- behind an event by which no page comes, or is asked or returned
pub waits_quiet : {maps : Mapped} {chains : ChainTable} {copies : CopyTable} {rs : ResidentTable} {os : ObjectTable} {rows : List Waiting} {who : On → Bool}
    {at : ℕ → Option Access} (header : Header) (h : ℕ) (e : Event) (past : List Event)
    → ((key : PageKey) → IsQuiet (effect_at header h key e past))
    → HasWaiters maps chains copies rs os rows who at (StaysAway header h past) (IsUnmet header h past)
    → HasWaiters maps chains copies rs os rows who at (StaysAway header h (e ∷ past)) (IsUnmet header h (e ∷ past))
waits_quiet header h e past quiet has =
    waits_beyond (λ key stays. stays_quiet header h e past key (quiet key) stays)
    (λ key. unmet_calm header h e past key (calm_of (effect_at header h key e past) (quiet key))) has

-- behind a message that was taken
pub waits_taken : {maps : Mapped} {chains : ChainTable} {copies : CopyTable} {rs : ResidentTable} {os : ObjectTable} {rows : List Waiting} {who : On → Bool}
    {at : ℕ → Option Access} (header : Header) (h : ℕ) (host : HostId) (object : ObjectId) (control : ℕ) (m : Message) (past : List Event)
    → HasWaiters maps chains copies rs os rows who at (StaysAway header h past) (IsUnmet header h past)
    → HasWaiters maps chains copies rs os rows who at (StaysAway header h (takes_down host object control m ∷ past))
    (IsUnmet header h (takes_down host object control m ∷ past))
waits_taken header h host object control m past has =
    waits_beyond (λ key stays. stays_taken header h host object control m past key stays)
    (λ key. unmet_taken header h host object control m past key) has

-- behind the return of a page that is here
pub waits_returned : {maps : Mapped} {chains : ChainTable} {copies : CopyTable} {rs : ResidentTable} {os : ObjectTable} {rows : List Waiting} {who : On → Bool}
    {at : ℕ → Option Access} (header : Header) (h : ℕ) (host : HostId) (object : ObjectId) (control : ℕ) (page : PageNo) (dirty keep : Bool) (bytes : List ℕ)
    (past : List Event)
    → (page_on header h object.0 page.0 past).here ≡ true → HasWaiters maps chains copies rs os rows who at (StaysAway header h past) (IsUnmet header h past)
    → HasWaiters maps chains copies rs os rows who at (StaysAway header h (returning host object control page dirty keep bytes ∷ past))
    (IsUnmet header h (returning host object control page dirty keep bytes ∷ past))
waits_returned header h host object control page dirty keep bytes past here has =
    waits_beyond (λ key stays. stays_returned header h host object control page dirty keep bytes past here key stays)
    (λ key. unmet_returned header h host object control page dirty keep bytes past here key) has

-- who waits for its pager waits for one that was told
pub told_pager : (maps : Mapped) (chains : ChainTable) (copies : CopyTable) (rs : ResidentTable) (os : ObjectTable) (t : ℕ) (what : Want) (why : On)
    (other : ObjectId) → why ≡ on.Ready other → Reason maps chains copies rs os t what why → IsPagerTold os other.0
told_pager maps chains copies rs os t what why other same reason =
    let so : Reason maps chains copies rs os t what (on.Ready other) = subst (λ (z : On). Reason maps chains copies rs os t what z) same reason in so.3

-- behind a request for a page that its pager, which is ready, may have
pub waits_requested : {maps : Mapped} {chains : ChainTable} {copies : CopyTable} {rs : ResidentTable} {os : ObjectTable} {rows : List Waiting} {who : On → Bool}
    {at : ℕ → Option Access} (header : Header) (h : ℕ) (host : HostId) (object : ObjectId) (control : ℕ) (page : PageNo) (access : ℕ) (past : List Event)
    → is_known_absent header (record { object = object.0; page = page.0 }) (page_on header h object.0 page.0 past) ≡ false → (IsPagerTold os object.0 → ⊥)
    → HasWaiters maps chains copies rs os rows who at (StaysAway header h past) (IsUnmet header h past)
    → HasWaiters maps chains copies rs os rows who at (StaysAway header h (requests host object control page access ∷ past))
    (IsUnmet header h (requests host object control page access ∷ past))
waits_requested {maps = maps} {chains = chains} {copies = copies} {rs = rs} {os = os} {rows = rows} {who = who} {at = at} header h host object control page
    access past known ready has =
    waits_seen maps chains rs os rows who at has (λ t w found asleep reason to stop m from place leads. stays_asked header h host object control page access
    past known from leads.0)
    (λ t w found asleep reason other why to its place.
    unmet_asked header h host object control page access past to
    (λ same. ready (subst (λ (z : ℕ). IsPagerTold os z) (ap (λ (z : ObjectId). z.0) (sym its) ∙ sym same)
    (told_pager maps chains copies rs os t w.want w.on other why reason))))
