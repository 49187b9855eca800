-- What accesses have passed over on their way to where they wait: how that stays so while events come behind, and while chains change.
use Rattle.std.proofs.Common.{Bool, List, None, Some, [], ap, arith, false, inl, inr, refl, subst, suc, sym, true, zero, ℕ, ◌&&◌, ◌+◌, ◌<◌, ◌==◌, ◌||◌, ◌∙◌}
use Rattle.std.proofs.Common.{◌∷◌, ◌≡◌}
use Rattle.std.proofs.lemmas.Bool.Decides.{eqb_tells}
use Rattle.std.proofs.lemmas.Bool.{or_right}
use Rattle.std.specs.Prelude.{if◌then◌else◌, ◌||◌}
use Rattle.vm_base.specs.declared.ids.ObjectId.{ObjectId}
use Rattle.vm_base.specs.declared.ids.PageKey.{PageKey}
use Rattle.vm_fault.specs.Walks.{IsUnder, PassesOver, Sinks, WalksTo}
use Rattle.vm_legal.specs.Pushes.{is_pushed}
use Rattle.vm_legal.specs.Returned.{OnlyReturned, was_returned}
use Rattle.vm_legal.specs.Walks.{page_on}
use Rattle.vm_maps.specs.Maps.{Mapped}
use Rattle.vm_model.specs.Controls.{last_control}
use Rattle.vm_model.specs.Local.{Asks, Begins, Drops, Elsewhere, Ends, Local, LocalEffect, Moves, Place, Raises, Returns, Stores, TakesError, TakesLock}
use Rattle.vm_model.specs.Local.{TakesNothing}
use Rattle.vm_model.specs.Local.{TakesPage, Unlocks, Zeroes, effect, is_known_absent, local, local_after}
use Rattle.vm_model.specs.Named.{named}
use Rattle.vm_model.specs.Regions.{is_copy}
use Rattle.vm_model.specs.declared.event.Event.{Event}
use Rattle.vm_model.specs.declared.event.Event.TheVariants as event
use Rattle.vm_model.specs.declared.message.Channel.TheVariants.{Down, Up}
use Rattle.vm_model.specs.declared.message.Message.TheVariants as message
use Rattle.vm_model.specs.declared.script.Header.{Header}
use Rattle.vm_parts.proofs.Rows.{some_is}
use Rattle.vm_parts.specs.declared.parts.HostParts.{HostParts}
use Rattle.vm_shadow.specs.Chains.{ChainTable, shadow_at}
use Rattle.vm_shadow.specs.declared.shadow_row.ShadowRow.{ShadowRow}
use Rattle.vm_state.specs.Passed.{IsAway, IsPlaceBehind, IsUnmet, LeadsOver, Passed, StaysAway, Unmet}
use Rattle.vm_state.specs.Places.{place_of}
use Rattle.vm_state.specs.Waiters.{IsPlaceOf, LeadsTo}
use Rattle.vm_waits.specs.declared.waiting.On.{On}
use Rattle.vm_waits.specs.declared.waiting.On.TheVariants as on
use Rattle.vm_waits.specs.declared.waiting.Want.{Want}

-- no page comes by this, nor is one asked or returned
abbrev pub IsQuiet : LocalEffect → Type 0
IsQuiet Zeroes = ⊥
IsQuiet (Raises bytes) = ⊥
IsQuiet (Moves page) = ⊥
IsQuiet (Returns keep) = ⊥
IsQuiet Asks = ⊥
IsQuiet (TakesPage lock precious bytes) = ⊥
IsQuiet other = Unit {0}

pub quiet_if : (b : Bool) (f g : LocalEffect) → IsQuiet f → IsQuiet g → IsQuiet (if b then f else g)
quiet_if true f g one other = one
quiet_if false f g one other = other

-- what it does to a page that isn't here

away_after : (size : ℕ) (f : LocalEffect) (was : Local) (returned : Bool) → IsQuiet f → IsAway was returned → IsAway (local_after size f was) returned
away_after size Zeroes was returned quiet is = absurd quiet
away_after size (Raises bytes) was returned quiet is = absurd quiet
away_after size (Moves page) was returned quiet is = absurd quiet
away_after size (Returns keep) was returned quiet is = absurd quiet
away_after size Asks was returned quiet is = absurd quiet
away_after size (TakesPage lock precious bytes) was returned quiet is = absurd quiet
away_after size (Stores at bytes) was returned quiet is = record { away = is.away; why = is.why }
away_after size Drops was returned quiet is = record { away = refl; why = is.why }
away_after size Unlocks was returned quiet is = record { away = is.away; why = is.why }
away_after size TakesNothing was returned quiet is = by was.asked
  where
    by : (b : Bool) → IsAway (if b then record was { asked = false; absent = true } else was) returned
    by true = record { away = is.away; why = inr (refl, refl) }
    by false = is
away_after size TakesError was returned quiet is = record { away = is.away; why = elim is.why [ inl none ↦ inl none | inr missing ↦ inr (refl, missing.1) ] }
away_after size (TakesLock lock flush) was returned quiet is = by was.here
  where
    by : (b : Bool) → IsAway (if b then record was { lock = if flush || lock == 8 then was.lock else lock; unlocking = false } else was) returned
    by true = record { away = is.away; why = is.why }
    by false = is
away_after size Begins was returned quiet is = record { away = is.away; why = elim is.why [ inl none ↦ inl none | inr missing ↦ inr (refl, missing.1) ] }
away_after size Ends was returned quiet is = record { away = is.away; why = elim is.why [ inl none ↦ inl none | inr missing ↦ inr (refl, missing.1) ] }
away_after size Elsewhere was returned quiet is = is

-- nothing is here nor asked, and the pager may have it
abbrev UnmetBy : (Bool → Bool) → Local → Type 0
UnmetBy known page = (page.here ≡ false) × (page.asked ≡ false) × (known page.absent ≡ false)

-- a page that isn't asked is given by nobody
abbrev pub IsCalm : LocalEffect → Type 0
IsCalm Zeroes = ⊥
IsCalm (Raises bytes) = ⊥
IsCalm (Moves page) = ⊥
IsCalm (Returns keep) = ⊥
IsCalm Asks = ⊥
IsCalm other = Unit {0}

pub calm_if : (b : Bool) (f g : LocalEffect) → IsCalm f → IsCalm g → IsCalm (if b then f else g)
calm_if true f g one other = one
calm_if false f g one other = other

pub calm_of : (f : LocalEffect) → IsQuiet f → IsCalm f
calm_of Zeroes quiet = quiet
calm_of (Raises bytes) quiet = quiet
calm_of (Moves page) quiet = quiet
calm_of (Returns keep) quiet = quiet
calm_of Asks quiet = quiet
calm_of other quiet = tt

unmet_after : (known : Bool → Bool) (size : ℕ) (f : LocalEffect) (was : Local) → IsCalm f → UnmetBy known was → UnmetBy known (local_after size f was)
unmet_after known size Zeroes was calm is = absurd calm
unmet_after known size (Raises bytes) was calm is = absurd calm
unmet_after known size (Moves page) was calm is = absurd calm
unmet_after known size (Returns keep) was calm is = absurd calm
unmet_after known size Asks was calm is = absurd calm
unmet_after known size (TakesPage lock precious bytes) was calm is = by was.asked is.1
  where
    by : (b : Bool) → b ≡ false
        → UnmetBy known (if b then record was {
          here = true;
          bytes = bytes;
          lock = lock;
          dirty = false;
          precious = precious;
          unlocking = false;
          asked = false;
        } else was)
    by true bad = absurd (let no : true ≡ false = bad in cc)
    by false unasked = is
unmet_after known size (Stores at bytes) was calm is = is
unmet_after known size Drops was calm is = (refl, is.1, is.2)
unmet_after known size Unlocks was calm is = is
unmet_after known size TakesNothing was calm is = by was.asked is.1
  where
    by : (b : Bool) → b ≡ false → UnmetBy known (if b then record was { asked = false; absent = true } else was)
    by true bad = absurd (let no : true ≡ false = bad in cc)
    by false unasked = is
unmet_after known size TakesError was calm is = (is.0, refl, is.2)
unmet_after known size (TakesLock lock flush) was calm is = by was.here
  where
    by : (b : Bool) → UnmetBy known (if b then record was { lock = if flush || lock == 8 then was.lock else lock; unlocking = false } else was)
    by true = is
    by false = is
unmet_after known size Begins was calm is = (is.0, refl, is.2)
unmet_after known size Ends was calm is = (is.0, refl, is.2)
unmet_after known size Elsewhere was calm is = is

-- what an event is to a place
abbrev pub effect_at : Header → ℕ → PageKey → Event → List Event → LocalEffect
effect_at header h key e past = effect header h (place_of key.object.0 key.page.0) (λ source. local header h source past) e past

not_returned : (a b c keep x : Bool) → IsQuiet (if a && b then (if c then Returns keep else Elsewhere) else Elsewhere) → ((a && (b && c)) || x) ≡ x
not_returned true true true keep x quiet = absurd quiet
not_returned true true false keep x quiet = refl
not_returned true false c keep x quiet = refl
not_returned false b c keep x quiet = refl

returned_same : (header : Header) (h : ℕ) (key : PageKey) (others : Place → Local) (e : Event) (past : List Event)
    → IsQuiet (effect header h (place_of key.object.0 key.page.0) others e past)
    → was_returned h key.object.0 key.page.0 (e ∷ past) ≡ was_returned h key.object.0 key.page.0 past
returned_same header h key others (event.Sent (Up host object) (message.Return control page dirty keep bytes)) past quiet =
    not_returned (host.0 == h) (object.0 == key.object.0) (page.0 == key.page.0) keep (was_returned h key.object.0 key.page.0 past) quiet
returned_same header h key others e past quiet = refl

pub only_before : (header : Header) (h : ℕ) (e : Event) (past : List Event) → OnlyReturned header h (e ∷ past) → OnlyReturned header h past
only_before header h (event.Taken (Down host object control) (message.Supply page lock precious bytes)) past only = only.2
only_before header h (event.Taken (Down host object control) (message.Lock page count returns flush lock reply)) past only = only.2
only_before header h (event.Sent (Up host object) (message.Init control size)) past only = only.1
only_before header h (event.Sent (Up host object) (message.Create control size)) past only = only.1
only_before header h (event.Sent (Up host object) (message.Return control page dirty keep bytes)) past only = only.1
only_before header h (event.Merged upper lower) past only = only.1
only_before header h e past only = only

-- so both stay so behind a quiet event

pub stays_quiet : (header : Header) (h : ℕ) (e : Event) (past : List Event) (key : PageKey) → IsQuiet (effect_at header h key e past)
    → StaysAway header h past key → StaysAway header h (e ∷ past) key
stays_quiet header h e past key quiet stays = (
  stays.0,
  λ only. subst (λ (z : Bool). IsAway (page_on header h key.object.0 key.page.0 (e ∷ past)) z)
      (sym (returned_same header h key (λ source. local header h source past) e past quiet))
      (away_after header.size (effect_at header h key e past) (page_on header h key.object.0 key.page.0 past) (was_returned h key.object.0 key.page.0 past)
      quiet (stays.1 (only_before header h e past only))),
)

-- of a place where an access waits for its pager: nothing was copied up into it before where nothing was by now, and what held then still does
pub record Later (was now : Unmet) : Type 0 where
  pub before : now.unpushed → was.unpushed
  pub still : now.unpushed → was.vacant → now.vacant

copied_before : (o : ℕ) (e : Event) (past : List Event) → is_copy o past ≡ true → is_copy o (e ∷ past) ≡ true
copied_before o (event.Delayed region source offset pages copy) past is = or_right (o == copy.0) (is_copy o past) is
copied_before o other past is = is

pushed_before : (h o p : ℕ) (e : Event) (past : List Event) → is_pushed h o p past ≡ true → is_pushed h o p (e ∷ past) ≡ true
pushed_before h o p (event.Raised at lower lower_page upper upper_page) past is =
    or_right (at.0 == h && (upper.0 == o && upper_page.0 == p)) (is_pushed h o p past) is
pushed_before h o p other past is = is

pub not_yet : (copy copy2 pushed pushed2 : Bool) → (copy ≡ true → copy2 ≡ true) → (pushed ≡ true → pushed2 ≡ true) → (copy2 && pushed2) ≡ false
    → (copy && pushed) ≡ false
not_yet false copy2 pushed pushed2 copied into none = refl
not_yet true copy2 false pushed2 copied into none = refl
not_yet true copy2 true pushed2 copied into none =
    absurd (let bad : true ≡ false = sym (ap (λ b. b && pushed2) (copied refl) ∙ into refl) ∙ none in cc)

pub unpushed_before : (header : Header) (h : ℕ) (e : Event) (past : List Event) (key : PageKey) → (IsUnmet header h (e ∷ past) key).unpushed
    → (IsUnmet header h past key).unpushed
unpushed_before header h e past key none =
    not_yet (is_copy key.object.0 past) (is_copy key.object.0 (e ∷ past)) (is_pushed h key.object.0 key.page.0 past)
    (is_pushed h key.object.0 key.page.0 (e ∷ past)) (copied_before key.object.0 e past) (pushed_before h key.object.0 key.page.0 e past) none

-- where an event is to no place that is vacant
pub unmet_later : (header : Header) (h : ℕ) (e : Event) (past : List Event) (key : PageKey)
    → ((IsUnmet header h past key).vacant → IsCalm (effect_at header h key e past)) → Later (IsUnmet header h past key) (IsUnmet header h (e ∷ past) key)
unmet_later header h e past key calm =
    record {
      before = unpushed_before header h e past key;
      still = λ none was.
          let is = unmet_after (λ b. is_known_absent header (place_of key.object.0 key.page.0)
          (record (page_on header h key.object.0 key.page.0 past) { absent = b })) header.size (effect_at header h key e past)
          (page_on header h key.object.0 key.page.0 past) (calm was)
          (was.away, was.unasked, was.unknown) in
          record { away = is.0; unasked = is.1; unknown = is.2 };
    }

pub unmet_calm : (header : Header) (h : ℕ) (e : Event) (past : List Event) (key : PageKey) → IsCalm (effect_at header h key e past)
    → Later (IsUnmet header h past key) (IsUnmet header h (e ∷ past) key)
unmet_calm header h e past key calm = unmet_later header h e past key (λ was. calm)

-- where no control was ever begun, nothing was returned

unreturned_at : (o : ℕ) (a b c x : Bool) (object last : ℕ) → (a ≡ true → 0 < last) → ((b ≡ true) → object ≡ o) → (object ≡ o → last ≡ 0) → x ≡ false
    → ((a && (b && c)) || x) ≡ false
unreturned_at o true true c x object last some same none is =
    let zero_is = none (same refl) in let more = some refl in absurd (omega (arith, zero_is, more))
unreturned_at o true false c x object last some same none is = is
unreturned_at o false b c x object last some same none is = is

pub same_of : (a b : ℕ) → (a == b) ≡ true → a ≡ b
same_of a b test = elim (eqb_tells a b) [ inl same ↦ same.1 | inr apart ↦ absurd (let bad : true ≡ false = sym test ∙ apart.0 in cc) ]

-- what the last control was before another may have begun
last_before : (h o control : ℕ) (host object last : ℕ) → (host ≡ h → 0 < control) → (if host == h && object == o then control else last) ≡ 0 → last ≡ 0
last_before h o control host object last some is = by (host == h) (object == o) (λ test. some (same_of host h test)) is
  where
    by : (a b : Bool) → (a ≡ true → 0 < control) → (if a && b then control else last) ≡ 0 → last ≡ 0
    by true true more none = let some_is2 = more refl in absurd (omega (arith, some_is2, none))
    by true false more none = none
    by false b more none = none

pub unreturned : (header : Header) (h o p : ℕ) (past : List Event) → OnlyReturned header h past → last_control h o past ≡ 0 → was_returned h o p past ≡ false
unreturned header h o p [] only none = refl
unreturned header h o p (event.Sent (Up host object) (message.Return control page dirty keep bytes) ∷ past) only none =
    unreturned_at o (host.0 == h) (object.0 == o) (page.0 == p) (was_returned h o p past) object.0 (last_control h object.0 past)
    (λ test. only.0 (same_of host.0 h test)) (same_of object.0 o)
    (λ same. ap (λ z. last_control h z past) same ∙ none) (unreturned header h o p past only.1 none)
unreturned header h o p (event.Sent (Up host object) (message.Init control size) ∷ past) only none =
    unreturned header h o p past only.1 (last_before h o control host.0 object.0 (last_control h o past) only.0 none)
unreturned header h o p (event.Sent (Up host object) (message.Create control size) ∷ past) only none =
    unreturned header h o p past only.1 (last_before h o control host.0 object.0 (last_control h o past) only.0 none)
unreturned header h o p (e ∷ past) only none = unreturned header h o p past (only_before header h e past only) none

-- places above one that is waited for

-- the chain leads there
pub over_leads : (stays : PageKey → Type 0) (chains : ChainTable) (n : ℕ) (from to : PageKey) → LeadsOver stays chains n from to → LeadsTo chains n from to
over_leads stays chains zero from to leads = leads
over_leads stays chains (suc n) from to leads = (leads.1.0, leads.1.1, over_leads stays chains n leads.1.0 to leads.1.2)

-- one place further down
leads_down : (chains : ChainTable) (n : ℕ) (top from next : PageKey) → LeadsTo chains n top from → IsUnder chains from next → LeadsTo chains (suc n) top next
leads_down chains zero top from next leads under = (next, subst (λ (z : PageKey). IsUnder chains z next) (sym leads) under, refl)
leads_down chains (suc n) top from next leads under = (leads.0, leads.1, leads_down chains n leads.0 from next leads.2 under)

place_down : {maps : Mapped} {chains : ChainTable} {task : ℕ} {what : Want} {from next : PageKey} → IsPlaceOf maps chains task what from
    → IsUnder chains from next → IsPlaceOf maps chains task what next
place_down {chains = chains} {from = from} {next = next} place under =
    record { top = place.top; at = place.at; steps = suc place.steps; leads = leads_down chains place.steps place.top from next place.leads under }

-- what holds of each place of the access from which the chain leads there holds of those above
over_mapped : (stays stays2 : PageKey → Type 0) (maps : Mapped) (chains : ChainTable) (task : ℕ) (what : Want) (to : PageKey)
    → ((m : ℕ) (at : PageKey) → IsPlaceOf maps chains task what at → LeadsOver stays chains (suc m) at to → stays2 at) → (n : ℕ) (from : PageKey)
    → IsPlaceOf maps chains task what from → LeadsOver stays chains n from to → LeadsOver stays2 chains n from to
over_mapped stays stays2 maps chains task what to now zero from place leads = leads
over_mapped stays stays2 maps chains task what to now (suc n) from place leads =
    (now n from place leads, (leads.1.0, leads.1.1, over_mapped stays stays2 maps chains task what to now n leads.1.0 (place_down place leads.1.1) leads.1.2))

-- the chain leads on as it did
pub over_kept : (stays : PageKey → Type 0) (cs cs2 : ChainTable) → ((o : ℕ) (row : ShadowRow) → shadow_at cs o ≡ Some row → shadow_at cs2 o ≡ Some row)
    → (n : ℕ) (from to : PageKey) → LeadsOver stays cs n from to → LeadsOver stays cs2 n from to
over_kept stays cs cs2 kept zero from to leads = leads
over_kept stays cs cs2 kept (suc n) from to leads =
    let under = leads.1.1 in (
      leads.0,
      (
        leads.1.0,
        record { row = under.row; found = kept from.object.0 under.row under.found; is = under.is },
        over_kept stays cs cs2 kept n leads.1.0 to leads.1.2,
      ),
    )

-- what is passed over is a place of the access
pub behind_place : {stays : PageKey → Type 0} {maps : Mapped} {chains : ChainTable} {task : ℕ} {what : Want} {key : PageKey}
    → IsPlaceBehind stays maps chains task what key → IsPlaceOf maps chains task what key
behind_place {stays = stays} {chains = chains} {key = key} place =
    record { top = place.top; at = place.at; steps = place.steps; leads = over_leads stays chains place.steps place.top key place.leads }

top_place_of : {stays : PageKey → Type 0} {maps : Mapped} {chains : ChainTable} {task : ℕ} {what : Want} {key : PageKey}
    → (place : IsPlaceBehind stays maps chains task what key) → IsPlaceOf maps chains task what place.top
top_place_of place = record { top = place.top; at = place.at; steps = zero; leads = refl }

-- it is so still where the places are those that they were
pub passed_placed : (stays : PageKey → Type 0) (unmet : PageKey → Unmet) (maps maps2 : Mapped) (cs cs2 : ChainTable) (task : ℕ) (what : Want) (why : On)
    → ((key : PageKey) → IsPlaceOf maps cs task what key → IsPlaceOf maps2 cs2 task what key)
    → ((key : PageKey) → IsPlaceBehind stays maps cs task what key → IsPlaceBehind stays maps2 cs2 task what key)
    → Passed stays unmet maps cs task what why → Passed stays unmet maps2 cs2 task what why
passed_placed stays unmet maps maps2 cs cs2 task what on.Again placed behind passed = tt
passed_placed stays unmet maps maps2 cs cs2 task what (on.Ready object) placed behind passed = (
  passed.0,
  placed passed.0 passed.1,
  passed.2,
  λ none. (let was = passed.3 none in (behind passed.0 was.0, was.1)),
)
passed_placed stays unmet maps maps2 cs cs2 task what (on.Page key) placed behind passed = behind key passed
passed_placed stays unmet maps maps2 cs cs2 task what (on.Push key) placed behind passed = tt
passed_placed stays unmet maps maps2 cs cs2 task what on.Frame placed behind passed = tt

-- the access stops at the place, as it waits for this, and nothing was copied up into that
abbrev pub StopsAt : (PageKey → Unmet) → On → PageKey → Type 0
StopsAt unmet on.Again key = ⊥
StopsAt unmet (on.Ready object) key = (key.object ≡ object) × (unmet key).unpushed × (unmet key).vacant
StopsAt unmet (on.Page at) key = at ≡ key
StopsAt unmet (on.Push at) key = ⊥
StopsAt unmet on.Frame key = ⊥

-- and while what holds of those places still does
pub passed_now : (stays stays2 : PageKey → Type 0) (unmet unmet2 : PageKey → Unmet) (maps : Mapped) (cs : ChainTable) (task : ℕ) (what : Want) (why : On)
    → ((to : PageKey) → StopsAt unmet why to → (m : ℕ) (at : PageKey) → IsPlaceOf maps cs task what at → LeadsOver stays cs (suc m) at to → stays2 at)
    → ((object : ObjectId) → why ≡ on.Ready object → (to : PageKey) → to.object ≡ object → IsPlaceOf maps cs task what to → Later (unmet to) (unmet2 to))
    → Passed stays unmet maps cs task what why → Passed stays2 unmet2 maps cs task what why
passed_now stays stays2 unmet unmet2 maps cs task what on.Again now met passed = tt
passed_now stays stays2 unmet unmet2 maps cs task what (on.Ready object) now met passed =
    let later = met object refl passed.0 passed.2 passed.1 in (
      passed.0,
      passed.1,
      passed.2,
      λ none.
          let unpushed = later.before none in
          let was = passed.3 unpushed in
          let place = was.0 in (
            record {
              top = place.top;
              at = place.at;
              steps = place.steps;
              leads = over_mapped stays stays2 maps cs task what passed.0 (now passed.0 (passed.2, unpushed, was.1)) place.steps place.top
                  (top_place_of place) place.leads;
            },
            later.still none was.1,
          ),
    )
passed_now stays stays2 unmet unmet2 maps cs task what (on.Page key) now met passed =
    record {
      top = passed.top;
      at = passed.at;
      steps = passed.steps;
      leads = over_mapped stays stays2 maps cs task what key (now key refl) passed.steps passed.top (top_place_of passed) passed.leads;
    }
passed_now stays stays2 unmet unmet2 maps cs task what (on.Push key) now met passed = tt
passed_now stays stays2 unmet unmet2 maps cs task what on.Frame now met passed = tt

-- one place stands under another
pub one_under : (chains : ChainTable) (from a b : PageKey) → IsUnder chains from a → IsUnder chains from b → a ≡ b
one_under chains from a b one two =
    one.is ∙ (ap (λ (z : ShadowRow). record { object = z.under; page = record { 0 = from.page.0 + z.shift } })
    (some_is one.row two.row (sym one.found ∙ two.found)) ∙ sym two.is)

-- a walk that finds the page nowhere passes over each place further down
pub sinks_over : (parts : HostParts) (chains : ChainTable) (top : PageKey) → Sinks parts chains top → (n : ℕ) (key : PageKey) → LeadsTo chains n top key
    → PassesOver parts key
sinks_over parts chains top sinks n key leads = go sinks.steps top n sinks.walks leads
  where
    go : (steps : ℕ) (from : PageKey) (n : ℕ) → WalksTo parts chains steps from sinks.last → LeadsTo chains n from key → PassesOver parts key
    go zero from zero walks leads = subst (PassesOver parts) (sym walks ∙ leads) sinks.passes
    go zero from (suc n) walks leads =
        let under = leads.1 in
        absurd (let bad : None ≡ Some under.row = sym sinks.bottom ∙ (ap (λ (z : PageKey). shadow_at chains z.object.0) (sym walks) ∙ under.found) in cc)
    go (suc steps) from zero walks leads = subst (PassesOver parts) leads walks.0
    go (suc steps) from (suc n) walks leads =
        let same : walks.1.0 ≡ leads.0 = one_under chains from walks.1.0 leads.0 walks.1.1 leads.1 in
        go steps leads.0 n (subst (λ (z : PageKey). WalksTo parts chains steps z sinks.last) same walks.1.2) leads.2

-- a walk to a place passes over another further down the chain, or both are one, or the first is above
pub data Lies (parts : HostParts) (stays : PageKey → Type 0) (low key : PageKey) : Type 0 where
  IsPassed : PassesOver parts key → Lies parts stays low key
  IsSame : low ≡ key → Lies parts stays low key
  IsAbove : stays low → Lies parts stays low key

pub walks_beside : (parts : HostParts) (stays : PageKey → Type 0) (chains : ChainTable) (n m : ℕ) (from low key : PageKey) → WalksTo parts chains n from low
    → LeadsOver stays chains m from key → Lies parts stays low key
walks_beside parts stays chains zero zero from low key walks leads = IsSame (sym walks ∙ leads)
walks_beside parts stays chains zero (suc m) from low key walks leads = IsAbove (subst stays walks leads.0)
walks_beside parts stays chains (suc n) zero from low key walks leads = IsPassed (subst (PassesOver parts) leads walks.0)
walks_beside parts stays chains (suc n) (suc m) from low key walks leads =
    let same : walks.1.0 ≡ leads.1.0 = one_under chains from walks.1.0 leads.1.0 walks.1.1 leads.1.1 in
    walks_beside parts stays chains n m leads.1.0 low key (subst (λ (z : PageKey). WalksTo parts chains n z low) same walks.1.2) leads.1.2
