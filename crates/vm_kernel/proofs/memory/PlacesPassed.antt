-- Whoever waits has passed over places where no page comes while it waits: a walk that brings zeros or a copy there would have passed over the place where it
-- waits.
use Rattle.vm_kernel.proofs.Common.{Access, Bool, Event, Header, Ids, List, Matches, None, ObjectId, ObjectRow, On, Option, PageKey, PageRow, Parts, Some}
use Rattle.vm_kernel.proofs.Common.{Waiting, Want, [], ap, eqb_tells, false, inl, inr, named, object_at, page_on, refl, row_at, some_is, subst, suc, sym}
use Rattle.vm_kernel.proofs.Common.{true, zero, ℕ, ◌&&◌, ◌==◌, ◌∙◌, ◌∷◌, ◌<◌, ◌||◌, ◌≡◌, ◌≤◌}
use Rattle.std.specs.Prelude.{if◌then◌else◌}
use Rattle.vm_fault.specs.Walks.{IsUnder, PassesOver, Sinks, WalksTo, is_storing, keeps_out}
use Rattle.vm_base.specs.declared.ids.Lock.{Lock}
use Rattle.vm_abroad.proofs.Own.{itself}
use Rattle.vm_kernel.proofs.memory.WalksShown.{shown_at}
use Rattle.vm_legal.specs.Accesses.{names}
use Rattle.vm_legal.specs.Returned.{OnlyReturned}
use Rattle.vm_maps.specs.Maps.{Mapped}
use Rattle.vm_base.specs.declared.ids.TaskId.{TaskId}
use Rattle.vm_model.specs.Local.{Elsewhere, LocalEffect, Raises, Zeroes, is_on, local}
use Rattle.vm_model.specs.Tasks.{host_of}
use Rattle.vm_model.specs.declared.event.Event.TheVariants as event
use Rattle.vm_model.specs.Waiting.{is_store}
use Rattle.vm_objects.specs.Objects.{ObjectTable}
use Rattle.vm_objects.specs.declared.row.PagerState.TheVariants as state
use Rattle.vm_resident.specs.Resident.{ResidentTable}
use Rattle.vm_shadow.specs.Chains.{ChainTable}
use Rattle.vm_state.proofs.Declared.{shadow_temporary}
use Rattle.vm_state.proofs.Locks.{named_at}
use Rattle.vm_state.proofs.Passing.{IsAbove, IsPassed, IsQuiet, IsSame, StopsAt, calm_of, effect_at, over_leads, same_of, sinks_over, stays_quiet, unmet_calm}
use Rattle.vm_state.proofs.Passing.{unpushed_before}
use Rattle.vm_state.specs.Stands.{IsUnderKind}
use Rattle.vm_model.specs.Regions.{is_copy}
use Rattle.vm_state.proofs.Passing.{one_under, walks_beside}
use Rattle.vm_state.proofs.Shown.{misses, shows_row}
use Rattle.vm_state.proofs.Unlocked.{unlocked_plain}
use Rattle.vm_state.proofs.Waiting.{waits_seen}
use Rattle.vm_fault.specs.Walks.{MayCome}
use Rattle.vm_legal.specs.Returned.{was_returned}
use Rattle.vm_objects.specs.Objects.{absent_at}
use Rattle.vm_state.proofs.Passing.{unreturned}
use Rattle.vm_state.proofs.Shown.{Misses}
use Rattle.vm_state.proofs.Walks.{referred_down}
use Rattle.vm_state.specs.Pagers.{has_pager, last_in}
use Rattle.vm_state.specs.Passed.{IsOpenTo, IsUnmet, LeadsOver, StaysAway, Unmet}
use Rattle.vm_legal.specs.Pushes.{is_pushed}
use Rattle.vm_state.specs.References.{AllReferred}
use Rattle.vm_terminate.specs.Finishes.{IsReferred}
use Rattle.vm_kernel.specs.Matches.{host_id}
use Rattle.vm_state.specs.Places.{place_of}
use Rattle.vm_state.specs.Waiters.{HasWaiters, IsPagerTold, IsPlaceOf, LeadsTo, Reason, access_in}
use Rattle.vm_waits.specs.declared.waiting.On.TheVariants as on
use Rattle.vm_state.proofs.Bypassing.{told_pager}
use Rattle.vm_copies.specs.Copies.{CopyTable}

-- a place is known by its numbers
key_same : (a b : PageKey) → a.object.0 ≡ b.object.0 → a.page.0 ≡ b.page.0 → a ≡ b
key_same a b one two = λ i. record { object = record { 0 = one i }; page = record { 0 = two i } }

-- the event is to one place alone
pub quiet_place : (a b c : Bool) (f : LocalEffect) → (b ≡ true → c ≡ true → ⊥) → IsQuiet (if a && (b && c) then f else Elsewhere)
quiet_place false b c f apart = tt
quiet_place true false c f apart = tt
quiet_place true true false f apart = tt
quiet_place true true true f apart = absurd (apart refl refl)

-- nothing is at a place, nor asked, and its pager may have it
abbrev pub IsOpenAt : Header → ℕ → List Event → PageKey → Type 0
IsOpenAt header h past key = IsOpenTo header key (page_on header h key.object.0 key.page.0 past)

-- a page comes to a place that none has passed over who waits, and where none waits for its pager, unless it was copied up there
pub waits_come : {copies : CopyTable} {maps : Mapped} {chains : ChainTable} {rs : ResidentTable} {os : ObjectTable} {rows : List Waiting} {who : On → Bool}
    {at : ℕ → Option Access}
    (header : Header) (h : ℕ) (e : Event) (past : List Event) (top : PageKey)
    → ((key : PageKey) → (top.object.0 ≡ key.object.0 → top.page.0 ≡ key.page.0 → ⊥) → IsQuiet (effect_at header h key e past))
    → ((t : ℕ) (what : Want) (why : On) → Reason maps chains copies rs os t what why → (to : PageKey) → StopsAt (IsUnmet header h past) why to → (m : ℕ)
    → IsPlaceOf maps chains t what top → LeadsOver (StaysAway header h past) chains (suc m) top to → OnlyReturned header h past → ⊥)
    → ((t : ℕ) (what : Want) (object : ObjectId) → IsPagerTold os object.0 → top.object ≡ object → IsPlaceOf maps chains t what top
    → IsOpenAt header h past top → (IsUnmet header h (e ∷ past) top).unpushed → ⊥)
    → ((past2 : List Event) → (OnlyReturned header h (e ∷ past2) → OnlyReturned header h past2))
    → HasWaiters maps chains copies rs os rows who at (StaysAway header h past) (IsUnmet header h past)
    → HasWaiters maps chains copies rs os rows who at (StaysAway header h (e ∷ past)) (IsUnmet header h (e ∷ past))
waits_come {copies = copies} {maps = maps} {chains = chains} {rs = rs} {os = os} {rows = rows} {who = who} {at = at} header h e past top elsewhere above there
    before has =
    waits_seen maps chains rs os rows who at has
    (λ t w found asleep reason to stop m from place leads. elim (eqb_tells top.object.0 from.object.0) [
      | inl one ↦ elim (eqb_tells top.page.0 from.page.0) [
        | inl two ↦
            let same : from ≡ top = key_same from top (sym one.1) (sym two.1) in (
              leads.0.0,
              λ only. absurd (above t w.want w.on reason to stop m (subst (IsPlaceOf maps chains t w.want) same place)
                  (subst (λ (z : PageKey). LeadsOver (StaysAway header h past) chains (suc m) z to) same leads) (before past only)),
            )
        | inr apart ↦ stays_quiet header h e past from (elsewhere from (λ o p. apart.1 p)) leads.0
      ]
      | inr apart ↦ stays_quiet header h e past from (elsewhere from (λ o p. apart.1 o)) leads.0
    ])
    (λ t w found asleep reason object why to its place. elim (eqb_tells top.object.0 to.object.0) [
      | inl one ↦ elim (eqb_tells top.page.0 to.page.0) [
        | inl two ↦
            let same : to ≡ top = key_same to top (sym one.1) (sym two.1) in
            record {
              before = unpushed_before header h e past to;
              still = λ none was. absurd (there t w.want object (told_pager maps chains copies rs os t w.want w.on object why reason)
                  (ap (λ (z : PageKey). z.object) (sym same) ∙ its) (subst (IsPlaceOf maps chains t w.want) same place)
                  (subst (IsOpenAt header h past) same was) (subst (λ (z : PageKey). (IsUnmet header h (e ∷ past) z).unpushed) same none));
            }
        | inr apart ↦ unmet_calm header h e past to (calm_of (effect_at header h to e past) (elsewhere to (λ o p. apart.1 p)))
      ]
      | inr apart ↦ unmet_calm header h e past to (calm_of (effect_at header h to e past) (elsewhere to (λ o p. apart.1 o)))
    ])

-- who waits in the history does so still
pub waits_retold : {copies : CopyTable} {stays : PageKey → Type 0} {unmet : PageKey → Unmet} {maps : Mapped} {chains : ChainTable} {rs : ResidentTable}
    {os : ObjectTable}
    {rows : List Waiting}
    {who : On → Bool} {at at2 : ℕ → Option Access}
    → ((t : ℕ) → at2 t ≡ at t)
    → HasWaiters maps chains copies rs os rows who at stays unmet → HasWaiters maps chains copies rs os rows who at2 stays unmet
waits_retold same has =
    record {
      is = λ t here. same t ∙ has.is t here;
      allowed = has.allowed;
      sized = has.sized;
      reasons = has.reasons;
      passed = has.passed;
      aims = has.aims;
      askers = has.askers;
      ready = has.ready;
    }

-- a walk that passes over a place passes over none where an access waits

-- an object whose pager was told has one
told_has : {B : Type 0} (os : ObjectTable) (o : ℕ) (row : ObjectRow) → IsPagerTold os o → object_at os o ≡ Some row → row.state ≡ state.Without → B
told_has os o row told known without =
    let same : told.row ≡ row = some_is told.row row (sym told.found ∙ known) in
    absurd (let bad : state.Sent ≡ state.Without = sym told.sent ∙ (ap (λ (z : ObjectRow). z.state) same ∙ without) in cc)

pub unmet_stops : (header : Header) (h : ℕ) (k : Parts) (ids : Ids) (past : List Event) → Matches header h k ids [] past → (to : PageKey) (object : ObjectId)
    → IsPagerTold k.memory.objects object.0 → to.object ≡ object → IsOpenAt header h past to → PassesOver k.memory to → ⊥
unmet_stops header h k ids past m to object told its unmet over = elim over.none [
  | inl without ↦ told_has k.memory.objects to.object.0 over.row (subst (λ (z : ObjectId). IsPagerTold k.memory.objects z.0) (sym its) told) over.known without
  | inr lacked ↦ let bad : false ≡ true = sym unmet.unknown ∙ ((misses (shown_at m) to.object.0 to.page.0 over.absent).known ∙ lacked) in cc
]

pub stops_passing : (header : Header) (h : ℕ) (k : Parts) (ids : Ids) (past : List Event) → Matches header h k ids [] past → (t : ℕ) (what : Want) (why : On)
    → Reason k.maps k.chains k.copies k.memory.resident k.memory.objects t what why → (to : PageKey) → StopsAt (IsUnmet header h past) why to
    → PassesOver k.memory to
    → ⊥
stops_passing header h k ids past m t what on.Again reason to stop over = stop
stops_passing header h k ids past m t what (on.Ready object) reason to stop over = unmet_stops header h k ids past m to object reason.3 stop.0 stop.2 over
stops_passing header h k ids past m t what (on.Page key) reason to stop over =
    let absent = subst (λ (z : PageKey). row_at k.memory.resident z.object.0 z.page.0 ≡ None) (sym stop) over.absent in
    elim reason.1 [
      | inl asked ↦ let bad : None ≡ Some asked.row = sym absent ∙ asked.found in cc
      | inr locked ↦ let bad : None ≡ Some locked.row = sym absent ∙ locked.found in cc
    ]
stops_passing header h k ids past m t what (on.Push key) reason to stop over = stop
stops_passing header h k ids past m t what on.Frame reason to stop over = stop

-- nor waits one at a page of temporary memory or of a file that is here: none of these is locked
pub stops_found : (header : Header) (h : ℕ) (k : Parts) (ids : Ids) (past : List Event) → Matches header h k ids [] past → OnlyReturned header h past
    → (t : ℕ) (what : Want) (why : On) → Reason k.maps k.chains k.copies k.memory.resident k.memory.objects t what why → (to : PageKey)
    → StopsAt (IsUnmet header h past) why to → IsUnderKind header to.object.0 → (row : PageRow) → row_at k.memory.resident to.object.0 to.page.0 ≡ Some row
    → row.here ≡ true → ⊥
stops_found header h k ids past m only t what on.Again reason to stop kind row found here = stop
stops_found header h k ids past m only t what (on.Ready object) reason to stop kind row found here =
    let bad : false ≡ true = sym stop.2.away ∙ (shows_row (shown_at m) to.object.0 to.page.0 row found here).here in cc
stops_found header h k ids past m only t what (on.Page key) reason to stop kind row found here = elim reason.1 [
  | inl asked ↦ let bad : false ≡ true = sym asked.away ∙ (ap (λ (z : PageRow). z.here) (same asked.row asked.found) ∙ here) in cc
  | inr locked ↦
      let unlocked : (page_on header h key.object.0 key.page.0 past).lock ≡ 0 = unlocked_plain header h key.object.0 key.page.0 past
      (subst (λ (z : PageKey). IsUnderKind header z.object.0) (sym stop) kind) only in
      no_name (is_store (access_in k.maps.size 0 what)) (ap (λ n. names n (is_store (access_in k.maps.size 0 what))) (sym unlocked)
      ∙ named_at (shown_at m) k.maps.size 0 key.object.0 key.page.0 what locked)
]
  where
    same : (other : PageRow) → row_at k.memory.resident key.object.0 key.page.0 ≡ Some other → other ≡ row
    same other there = some_is other row (sym there ∙ (ap (λ (z : PageKey). row_at k.memory.resident z.object.0 z.page.0) stop ∙ found))

    no_name : (store : Bool) → names 0 store ≡ true → ⊥
    no_name true is = let bad : false ≡ true = is in cc
    no_name false is = let bad : false ≡ true = is in cc
stops_found header h k ids past m only t what (on.Push key) reason to stop kind row found here = stop
stops_found header h k ids past m only t what on.Frame reason to stop kind row found here = stop

-- what is under a shadow is temporary, or a file
under_kind : (header : Header) (h : ℕ) (k : Parts) (ids : Ids) (past : List Event) → Matches header h k ids [] past → (m : ℕ) (from to : PageKey)
    → LeadsTo k.chains (suc m) from to → IsUnderKind header to.object.0
under_kind header h k ids past is zero from to leads =
    let under = leads.1 in
    subst (λ (z : ℕ). IsUnderKind header z) (sym (ap (λ (z : PageKey). z.object.0) under.is) ∙ ap (λ (z : PageKey). z.object.0) leads.2)
    (is.core.objects.kinds.unders from.object.0 under.row under.found)
under_kind header h k ids past is (suc m) from to leads = under_kind header h k ids past is m leads.0 to leads.2

-- zeros come to the top place of a walk that finds its page nowhere
pub waits_zeroed : (header : Header) (h : ℕ) (k : Parts) (ids : Ids) (past : List Event) (top : PageKey) {who : On → Bool} {at : ℕ → Option Access}
    → Matches header h k ids [] past → Sinks k.memory k.chains top
    → HasWaiters k.maps k.chains k.copies k.memory.resident k.memory.objects k.waits.rows who at (StaysAway header h past) (IsUnmet header h past)
    → HasWaiters k.maps k.chains k.copies k.memory.resident k.memory.objects k.waits.rows who
    at (StaysAway header h (event.Zeroed (host_id h) top.object top.page ∷ past)) (IsUnmet header h (event.Zeroed (host_id h) top.object top.page ∷ past))
waits_zeroed header h k ids past top m sinks has =
    waits_come header h (event.Zeroed (host_id h) top.object top.page) past top
    (λ key apart. quiet_place (h == h) (top.object.0 == key.object.0) (top.page.0 == key.page.0) Zeroes
    (λ o p. apart (same_of top.object.0 key.object.0 o) (same_of top.page.0 key.page.0 p)))
    (λ t what why reason to stop n place leads only. stops_passing header h k ids past m t what why reason to stop
    (sinks_over k.memory k.chains top sinks (suc n) to (over_leads (StaysAway header h past) k.chains (suc n) top to leads)))
    (λ t what object told its place unmet none. unmet_stops header h k ids past m top object told its unmet
    (sinks_over k.memory k.chains top sinks zero top refl))
    (λ past2 only. only) has

-- a copy comes to the top place of a walk that found its page below
pub waits_raised : (header : Header) (h : ℕ) (k : Parts) (ids : Ids) (past : List Event) (steps : ℕ) (top low : PageKey) (row : PageRow) {who : On → Bool}
    {at : ℕ → Option Access}
    → Matches header h k ids [] past → WalksTo k.memory k.chains (suc steps) top low
    → row_at k.memory.resident low.object.0 low.page.0 ≡ Some row → row.here ≡ true
    → HasWaiters k.maps k.chains k.copies k.memory.resident k.memory.objects k.waits.rows who at (StaysAway header h past) (IsUnmet header h past)
    → HasWaiters k.maps k.chains k.copies k.memory.resident k.memory.objects k.waits.rows who
    at (StaysAway header h (event.Raised (host_id h) low.object low.page top.object top.page ∷ past))
    (IsUnmet header h (event.Raised (host_id h) low.object low.page top.object top.page ∷ past))
waits_raised header h k ids past steps top low row m walks found here has =
    waits_come header h (event.Raised (host_id h) low.object low.page top.object top.page) past top
    (λ key apart. quiet_place (h == h) (top.object.0 == key.object.0) (top.page.0 == key.page.0)
    (Raises (local header h (place_of low.object.0 low.page.0) past).bytes)
    (λ o p. apart (same_of top.object.0 key.object.0 o) (same_of top.page.0 key.page.0 p)))
    (λ t what why reason to stop n place leads only.
    elim (walks_beside k.memory (StaysAway header h past) k.chains (suc steps) (suc n) top low to walks leads) [
      | IsPassed over ↦ stops_passing header h k ids past m t what why reason to stop over
      | IsSame same ↦
          stops_found header h k ids past m only t what why reason to stop (under_kind header h k ids past m n top to
          (over_leads (StaysAway header h past) k.chains (suc n) top to leads)) row
          (ap (λ (z : PageKey). row_at k.memory.resident z.object.0 z.page.0) (sym same) ∙ found) here
      | IsAbove stays ↦ let bad : false ≡ true = sym (stays.1 only).away ∙ (shows_row (shown_at m) low.object.0 low.page.0 row found here).here in cc
    ])
    (λ t what object told its place unmet none. unmet_stops header h k ids past m top object told its unmet walks.0)
    (λ past2 only. only) has

-- nor waits one at a page that a store may change
pub stops_free : (header : Header) (h : ℕ) (k : Parts) (ids : Ids) (past : List Event) → Matches header h k ids [] past
    → (t : ℕ) (what : Want) (why : On) → Reason k.maps k.chains k.copies k.memory.resident k.memory.objects t what why → (to : PageKey)
    → StopsAt (IsUnmet header h past) why to → (row : PageRow) → row_at k.memory.resident to.object.0 to.page.0 ≡ Some row
    → row.here ≡ true → keeps_out row.lock true ≡ false → ⊥
stops_free header h k ids past m t what on.Again reason to stop row found here out = stop
stops_free header h k ids past m t what (on.Ready object) reason to stop row found here out =
    let bad : false ≡ true = sym stop.2.away ∙ (shows_row (shown_at m) to.object.0 to.page.0 row found here).here in cc
stops_free header h k ids past m t what (on.Page key) reason to stop row found here out = elim reason.1 [
  | inl asked ↦ let bad : false ≡ true = sym asked.away ∙ (ap (λ (z : PageRow). z.here) (same asked.row asked.found) ∙ here) in cc
  | inr locked ↦
      let bad : false ≡ true = sym out
      ∙ (ap (λ (z : PageRow). keeps_out z.lock true) (sym (same locked.row locked.found)) ∙ kept_anyone locked.row.lock (is_storing what) locked.locked) in
      cc
]
  where
    same : (other : PageRow) → row_at k.memory.resident key.object.0 key.page.0 ≡ Some other → other ≡ row
    same other there = some_is other row (sym there ∙ (ap (λ (z : PageKey). row_at k.memory.resident z.object.0 z.page.0) stop ∙ found))

    kept_anyone : (lock : Lock) (writes : Bool) → keeps_out lock writes ≡ true → keeps_out lock true ≡ true
    kept_anyone lock true is = is
    kept_anyone lock false is = by lock.read is
      where
        by : (b : Bool) → (b || false) ≡ true → (b || lock.write) ≡ true
        by true is = refl
        by false is = absurd (let bad : false ≡ true = is in cc)
stops_free header h k ids past m t what (on.Push key) reason to stop row found here out = stop
stops_free header h k ids past m t what on.Frame reason to stop row found here out = stop

-- a copy of a page that a store may change comes to the place of a copy object right above
pub waits_pushed : (header : Header) (h : ℕ) (k : Parts) (ids : Ids) (past : List Event) (top place : PageKey) (row : PageRow) {who : On → Bool}
    {at : ℕ → Option Access} → Matches header h k ids [] past → IsUnder k.chains place top → is_copy place.object.0 past ≡ true
    → row_at k.memory.resident top.object.0 top.page.0 ≡ Some row → row.here ≡ true → keeps_out row.lock true ≡ false
    → HasWaiters k.maps k.chains k.copies k.memory.resident k.memory.objects k.waits.rows who at (StaysAway header h past) (IsUnmet header h past)
    → HasWaiters k.maps k.chains k.copies k.memory.resident k.memory.objects k.waits.rows who
    at (StaysAway header h (event.Raised (host_id h) top.object top.page place.object place.page ∷ past))
    (IsUnmet header h (event.Raised (host_id h) top.object top.page place.object place.page ∷ past))
waits_pushed header h k ids past top place row m under copy found here out has =
    waits_come header h (event.Raised (host_id h) top.object top.page place.object place.page) past place
    (λ key apart. quiet_place (h == h) (place.object.0 == key.object.0) (place.page.0 == key.page.0)
    (Raises (local header h (place_of top.object.0 top.page.0) past).bytes)
    (λ o p. apart (same_of place.object.0 key.object.0 o) (same_of place.page.0 key.page.0 p)))
    (λ t what why reason to stop n there leads only. below t what why reason to stop n
    (subst (λ (z : PageKey). LeadsOver (StaysAway header h past) k.chains n z to) (one_under k.chains place leads.1.0 top leads.1.1 under) leads.1.2) only)
    (λ t what object told its there open_to none. (let bad : true ≡ false = sym pushed ∙ none in cc)) (λ past2 only. only) has
  where
    below : (t : ℕ) (what : Want) (why : On) → Reason k.maps k.chains k.copies k.memory.resident k.memory.objects t what why → (to : PageKey)
        → StopsAt (IsUnmet header h past) why to → (n : ℕ) → LeadsOver (StaysAway header h past) k.chains n top to → OnlyReturned header h past → ⊥
    below t what why reason to stop zero leads only =
        stops_free header h k ids past m t what why reason to stop row
        (ap (λ (z : PageKey). row_at k.memory.resident z.object.0 z.page.0) (sym leads) ∙ found) here out
    below t what why reason to stop (suc n) leads only =
        let bad : false ≡ true = sym (leads.0.1 only).away ∙ (shows_row (shown_at m) top.object.0 top.page.0 row found here).here in cc

    pushed : (is_copy place.object.0 past && is_pushed h place.object.0 place.page.0
        (event.Raised (host_id h) top.object top.page place.object place.page ∷ past)) ≡ true
    pushed = rw (copy, itself h, itself place.object.0, itself place.page.0) refl

-- a page comes to an object that no access that waits leads to
pub waits_filled : (header : Header) (h : ℕ) (k : Parts) (ids : Ids) (past : List Event) (task : TaskId) (low top : PageKey) {who : On → Bool}
    {at : ℕ → Option Access}
    → ((t : ℕ) (what : Want) → IsPlaceOf k.maps k.chains t what top → ⊥)
    → HasWaiters k.maps k.chains k.copies k.memory.resident k.memory.objects k.waits.rows who at (StaysAway header h past) (IsUnmet header h past)
    → HasWaiters k.maps k.chains k.copies k.memory.resident k.memory.objects k.waits.rows who
    at (StaysAway header h (event.CopiedPage task top.page low.object low.page top.object ∷ past))
    (IsUnmet header h (event.CopiedPage task top.page low.object low.page top.object ∷ past))
waits_filled header h k ids past task low top none has =
    waits_come header h (event.CopiedPage task top.page low.object low.page top.object) past top
    (λ key apart. quiet_place (is_on h (host_of task.0 past)) (top.object.0 == key.object.0) (top.page.0 == key.page.0)
    (Raises (local header h (place_of low.object.0 low.page.0) past).bytes)
    (λ o p. apart (same_of top.object.0 key.object.0 o) (same_of top.page.0 key.page.0 p)))
    (λ t what why reason to stop n place leads only. none t what place)
    (λ t what object told its place unmet unpushed_now. none t what place)
    (λ past2 only. only) has

-- what a walk leaves above it

-- who is told nothing of temporary memory was returned nothing
never_returned : (header : Header) (h : ℕ) (k : Parts) (ids : Ids) (past : List Event) → Matches header h k ids [] past → (key : PageKey)
    → last_in (object_at k.memory.objects key.object.0) ≡ 0 → OnlyReturned header h past
    → was_returned h key.object.0 key.page.0 past ≡ false
never_returned header h k ids past m key none only = unreturned header h key.object.0 key.page.0 past only (m.core.controls.last key.object.0 ∙ none)

and_second : (a b : Bool) → (a && b) ≡ true → b ≡ true
and_second true b is = is
and_second false b is = absurd (let bad : false ≡ true = is in cc)

passed_away : (header : Header) (h : ℕ) (k : Parts) (ids : Ids) (past : List Event) → Matches header h k ids [] past → (key : PageKey)
    → named header ≤ key.object.0 → IsReferred k.memory.objects key.object.0 → PassesOver k.memory key → StaysAway header h past key
passed_away header h k ids past m key least referred over = (
  least,
  λ only. record {
    away = missing.away;
    why = elim over.none [
      | inl without ↦ inl (never_returned header h k ids past m key (ap last_in over.known ∙ (number ∙ ap (λ z. if has_pager z then 1 else 0) without)) only)
      | inr lacked ↦ inr (missing.unasked, and_second _ _ (missing.known ∙ lacked))
    ];
  },
)
  where
    missing : Misses header h past key.object.0 key.page.0 (absent_at k.memory.objects key.object.0 key.page.0)
    missing = misses (shown_at m) key.object.0 key.page.0 over.absent

    same : referred.row ≡ over.row
    same = some_is referred.row over.row (sym referred.known ∙ over.known)

    number : over.row.control ≡ (if has_pager over.row.state then 1 else 0)
    number =
        ((m.core.objects.kinds.kinds key.object.0 over.row over.known).temporary least).number (subst (λ (z : ObjectRow). 0 < z.references) same referred.some)

pub over_walk : (header : Header) (h : ℕ) (k : Parts) (ids : Ids) (past : List Event) → Matches header h k ids [] past → (n : ℕ) (from to : PageKey)
    → IsReferred k.memory.objects from.object.0 → WalksTo k.memory k.chains n from to → LeadsOver (StaysAway header h past) k.chains n from to
over_walk header h k ids past m zero from to referred walks = walks
over_walk header h k ids past m (suc n) from to referred walks =
    let next = walks.1.0 in
    let under = walks.1.1 in (
      passed_away header h k ids past m from (shadow_temporary m.core.objects.regions m.core.spaces.homes.1 from.object.0 under.row under.found) referred
          walks.0,
      (next, under, over_walk header h k ids past m n next to (referred_down (shown_at m) 1 from next referred (next, under, refl)) walks.1.2),
    )

-- the place is open at which a walk stops whose pager may have the page
pub unmet_at : (header : Header) (h : ℕ) (k : Parts) (ids : Ids) (past : List Event) → Matches header h k ids [] past
    → (steps : ℕ) (top key : PageKey) (object : ObjectRow) → MayCome k.memory k.chains steps top key object → IsOpenAt header h past key
unmet_at header h k ids past m steps top key object comes =
    let missing = misses (shown_at m) key.object.0 key.page.0 comes.absent in
    record { away = missing.away; unasked = missing.unasked; unknown = missing.known ∙ comes.may_have }

-- a new object has no pages, and had none
pub fresh_away : (header : Header) (h : ℕ) (k : Parts) (ids : Ids) (past : List Event) → Matches header h k ids [] past
    → AllReferred k.chains k.memory.objects k.memory.resident → (object : ObjectId) → named header ≤ object.0 → object_at k.memory.objects object.0 ≡ None
    → (page : ℕ)
    → StaysAway header h past (record { object = object; page = record { 0 = page } })
fresh_away header h k ids past m referred object least unknown page = (
  least,
  λ only. record {
    away = (misses (shown_at m) object.0 page (none_there (row_at k.memory.resident object.0 page) refl)).away;
    why = inl (never_returned header h k ids past m (record { object = object; page = record { 0 = page } }) (ap last_in unknown) only);
  },
)
  where
    none_there : (x : Option PageRow) → row_at k.memory.resident object.0 page ≡ x → row_at k.memory.resident object.0 page ≡ None
    none_there None is = is
    none_there (Some row) is = let there = referred.pages object.0 page row is in absurd (let bad : None ≡ Some there.row = sym unknown ∙ there.known in cc)
