-- What the places of memory that isn't shared cost behind a taken message, with which a step begins; and when a step ends.
use Rattle.std.proofs.Common.{ℕ, ◌≡◌, ◌+◌, ◌==◌, ◌&&◌, ◌<◌, ◌≤◌, not, Bool, true, false, List, ◌∷◌, Option, Some, None, if◌then◌else◌, ap, sym}
use Rattle.std.proofs.Common.{refl, subst, ◌∙◌}
use Rattle.std.proofs.Common.{arith, ◌⊎◌, inl, inr}
use Rattle.std.proofs.lemmas.Bool.{and_from, and_parts}
use Rattle.std.proofs.lemmas.Bool.Decides.{nat_tests}
use Rattle.std.specs.Prelude.{is_some, nat_lt}
use Rattle.vm_base.specs.Limits.{most_tasks}
use Rattle.vm_base.specs.declared.ids.HostId.{HostId}
use Rattle.vm_base.specs.declared.ids.ObjectId.{ObjectId}
use Rattle.vm_base.specs.declared.ids.PageNo.{PageNo}
use Rattle.vm_bound.proofs.Owing.{inner_weight, is_due}
use Rattle.vm_bound.proofs.PlainGone.{place_is, two_at}
use Rattle.vm_bound.proofs.PlainPlaces.{Costs, is_later, opened, shuts_if, still_if, weight_two, weight_under}
use Rattle.vm_bound.proofs.Wanting.{any_same}
use Rattle.vm_bound.specs.Accesses.{is_wanted}
use Rattle.vm_bound.specs.Places.{is_open, place_weight}
use Rattle.vm_legal.specs.Debts.{IsPaid}
use Rattle.vm_legal.specs.Licences.{zeroes}
use Rattle.vm_legal.specs.Outside.{is_shared, is_wild}
use Rattle.vm_legal.specs.Steps.{Asked, absence_taken, error_taken, since}
use Rattle.vm_legal.specs.Walks.{page_on, sight}
use Rattle.vm_model.specs.Controls.{is_control, live_control}
use Rattle.vm_model.specs.Local as effect
use Rattle.vm_model.specs.Local.{Elsewhere, Local, local_after}
use Rattle.vm_model.specs.Named.{named}
use Rattle.vm_model.specs.Words.{in_range}
use Rattle.vm_model.specs.declared.event.Event.{Event}
use Rattle.vm_model.specs.declared.event.Event.TheVariants as event
use Rattle.vm_model.specs.declared.message.Channel.{Channel}
use Rattle.vm_model.specs.declared.message.Channel.TheVariants.{Down, Up}
use Rattle.vm_model.specs.declared.message.Message.{Message}
use Rattle.vm_model.specs.declared.message.Message.TheVariants as message
use Rattle.vm_model.specs.declared.script.Header.{Header}

-- Between steps nothing is due.

place_is_plain : (header : Header) (h o p : ℕ) (past : List Event) → is_wild header o ≡ false → is_shared header o ≡ false → place_weight header h o p past
    ≡ (if is_open (sight header h o p past) && is_wanted header h o p past then 2 else 0)
place_is_plain header h o p past tame plain = rw (tame, plain) refl

pub place_two : (header : Header) (h o p : ℕ) (past : List Event) → is_wild header o ≡ false → is_shared header o ≡ false
    → is_open (sight header h o p past) ≡ true → is_wanted header h o p past ≡ true → 2 ≤ place_weight header h o p past
place_two header h o p past tame plain opens wanted =
    let is = place_is_plain header h o p past tame plain in
    let two = by (is_open (sight header h o p past)) (is_wanted header h o p past) opens wanted in
    omega (arith, is, two)
  where
    by : (a b : Bool) → a ≡ true → b ≡ true → 2 ≤ (if a && b then 2 else 0)
    by true true one two = omega arith
    by true false one two = absurd (let bad : false ≡ true = two in cc)
    by false b one two = absurd (let bad : false ≡ true = one in cc)

place_under : (header : Header) (h o p n : ℕ) (past : List Event) → is_wild header o ≡ false → is_shared header o ≡ false
    → (is_open (sight header h o p past) ≡ true → is_wanted header h o p past ≡ true → 2 ≤ n) → place_weight header h o p past ≤ n
place_under header h o p n past tame plain so =
    let is = place_is_plain header h o p past tame plain in
    let less = by (is_open (sight header h o p past)) (is_wanted header h o p past) so in
    omega (arith, is, less)
  where
    by : (a b : Bool) → (a ≡ true → b ≡ true → 2 ≤ n) → (if a && b then 2 else 0) ≤ n
    by true true so = so refl refl
    by true false so = omega arith
    by false b so = omega arith

-- where a step has done what it owes, its places cost what they do between steps

none_due : (header : Header) (h o p : ℕ) (past : List Event) → IsPaid header past → is_due header h o p (absence_taken header past) past ≡ false
none_due header h o p past paid = by (absence_taken header past) refl
  where
    own : (asked : Asked) → (asked.host == h && (asked.object == o && asked.page == p)) ≡ true → asked ≡ record { host = h; object = o; page = p }
    own asked is =
        let here = place_is asked.host asked.object asked.page h o p is in
        ap (λ (k : ℕ). record { host = k; object = asked.object; page = asked.page }) here.host_is
        ∙ (ap (λ (k : ℕ). record { host = h; object = k; page = asked.page }) here.object_is
        ∙ ap (λ (k : ℕ). record { host = h; object = o; page = k }) here.page_is)

    small : nat_lt o (named header) ≡ true → o < named header
    small is = grind (arith, nat_tests)

    tests : (a b c : Bool) → (a ≡ true → b ≡ true → c ≡ true) → (a && (b && not c)) ≡ false
    tests true true c so = ap (λ (d : Bool). not d) (so refl refl)
    tests true false c so = refl
    tests false b c so = refl

    by : (x : Option Asked) → absence_taken header past ≡ x → is_due header h o p x past ≡ false
    by None taken = refl
    by (Some asked) taken =
        tests (asked.host == h && (asked.object == o && asked.page == p)) (nat_lt o (named header)) (since (zeroes o p) past)
        (λ here declared. paid.absence h o p (small declared) (taken ∙ ap (λ (a : Asked). Some a) (own asked here)))

pub plain_ends : (header : Header) (h o p : ℕ) (past : List Event) → is_wild header o ≡ false → is_shared header o ≡ false → IsPaid header past
    → place_weight header h o p past ≤ inner_weight header h o p past
plain_ends header h o p past tame plain paid =
    place_under header h o p (inner_weight header h o p past) past tame plain
    (λ opens wanted. weight_two header h o p past tame plain
    (record { due = none_due header h o p past paid; opens = opens; wanted = wanted }))

-- A taken message.

-- what a place costs anew for which the step took an error
abbrev pub taken_opens : Option Asked → ℕ → ℕ → ℕ → ℕ
taken_opens None h o p = 0
taken_opens (Some asked) h o p = two_at asked.host asked.object asked.page h o p

-- the place is open as it was
abbrev StaysOpen : Header → ℕ → ℕ → ℕ → Event → List Event → Type 0
StaysOpen header h o p e past = Costs header h o p (e ∷ past) → is_open (sight header h o p past) ≡ true

taken_under : (header : Header) (h o p n : ℕ) (channel : Channel) (m : Message) (past : List Event) → is_wild header o ≡ false → is_shared header o ≡ false
    → (Costs header h o p (event.Taken channel m ∷ past) → (2 ≤ n) ⊎ (is_open (sight header h o p past) ≡ true))
    → inner_weight header h o p (event.Taken channel m ∷ past) ≤ place_weight header h o p past + n
taken_under header h o p n channel m past tame plain so =
    weight_under header h o p (place_weight header h o p past + n) (event.Taken channel m ∷ past) tame plain
    (λ costs. elim (so costs) [
      | inl two ↦ omega (arith, two)
      | inr opens ↦
          let wanted = sym (any_same header (λ access. true) most_tasks h o p (event.Taken channel m) past tt) ∙ costs.wanted in
          let two = place_two header h o p past tame plain opens wanted in
          omega (arith, two)
    ])

taken_same : (header : Header) (h o p : ℕ) (channel : Channel) (m : Message) (past : List Event) → is_wild header o ≡ false → is_shared header o ≡ false
    → StaysOpen header h o p (event.Taken channel m) past
    → inner_weight header h o p (event.Taken channel m ∷ past) ≤ place_weight header h o p past + 0
taken_same header h o p channel m past tame plain stays = taken_under header h o p 0 channel m past tame plain (λ costs. inr (stays costs))

-- the message is about the place, to its live control
abbrev is_to : ℕ → ℕ → ℕ → HostId → ObjectId → ℕ → List Event → Bool
is_to h o p host object control past = host.0 == h && (object.0 == o && is_control control (live_control h o past))

supplied : (header : Header) (h o p : ℕ) (host : HostId) (object : ObjectId) (control : ℕ) (page : PageNo) (lock : ℕ) (precious : Bool) (bytes : List ℕ)
    (past : List Event) → StaysOpen header h o p (event.Taken (Down host object control) (message.Supply page lock precious bytes)) past
supplied header h o p host object control page lock precious bytes past costs =
    still_if header h o p (is_to h o p host object control past) (if page.0 == p then effect.TakesPage lock precious bytes else Elsewhere) past
    (λ one. shuts_if (page.0 == p) (effect.TakesPage lock precious bytes) (page_on header h o p past) (λ two. tt)) costs.opens

locked : (header : Header) (h o p : ℕ) (host : HostId) (object : ObjectId) (control : ℕ) (page : PageNo) (count returns : ℕ) (flush : Bool) (lock : ℕ)
    (reply : Bool) (past : List Event)
    → StaysOpen header h o p (event.Taken (Down host object control) (message.Lock page count returns flush lock reply)) past
locked header h o p host object control page count returns flush lock reply past costs =
    still_if header h o p (is_to h o p host object control past) (if in_range p page.0 count then effect.TakesLock lock flush else Elsewhere) past
    (λ one. shuts_if (in_range p page.0 count) (effect.TakesLock lock flush) (page_on header h o p past) (λ two. tt)) costs.opens

-- the word that there is no page

-- the tests of the message say which place it is about
about_place : (header : Header) (h o p : ℕ) (host : HostId) (object : ObjectId) (control : ℕ) (page : PageNo) (past : List Event)
    → is_to h o p host object control past ≡ true → (page.0 == p) ≡ true → (page_on header h o p past).asked ≡ true
    → ((host.0 == h && (object.0 == o && page.0 == p)) ≡ true)
    × ((is_control control (live_control host.0 object.0 past) && (page_on header host.0 object.0 page.0 past).asked) ≡ true)
about_place header h o p host object control page past to same asked =
    let first = and_parts (host.0 == h) (object.0 == o && is_control control (live_control h o past)) to in
    let rest = and_parts (object.0 == o) (is_control control (live_control h o past)) first.1 in
    let own = and_from (host.0 == h) (object.0 == o && page.0 == p) first.0 (and_from (object.0 == o) (page.0 == p) rest.0 same) in
    let here = place_is host.0 object.0 page.0 h o p own in
    let both : (is_control control (live_control h o past) && (page_on header h o p past).asked) ≡ true =
    and_from (is_control control (live_control h o past)) (page_on header h o p past).asked rest.1 asked in (
      own,
      subst (λ (k : ℕ). (is_control control (live_control k object.0 past) && (page_on header k object.0 page.0 past).asked) ≡ true) (sym here.host_is)
          (subst (λ (k : ℕ). (is_control control (live_control h k past) && (page_on header h k page.0 past).asked) ≡ true) (sym here.object_is)
          (subst (λ (k : ℕ). (is_control control (live_control h o past) && (page_on header h o k past).asked) ≡ true) (sym here.page_is) both)),
    )

-- of a temporary object the page is then known to be absent
nothing_opens : (temporary : Bool) (size : ℕ) (was : Local) (live : Bool) → (was.asked ≡ true → temporary ≡ true)
    → opened temporary (local_after size effect.TakesNothing was) live ≡ true → opened temporary was live ≡ true
nothing_opens temporary size was live later now = by was.asked refl now
  where
    known : (here : Bool) (t : Bool) → t ≡ true → (not here && (true && (live && not (t && true)))) ≡ true → opened temporary was live ≡ true
    known true t is now = absurd (let bad : false ≡ true = now in cc)
    known false true is now = absurd (let both = and_parts live false now in let bad : false ≡ true = both.1 in cc)
    known false false is now = absurd (let bad : false ≡ true = is in cc)

    by : (b : Bool) → was.asked ≡ b → opened temporary (if b then record was { asked = false; absent = true } else was) live ≡ true
        → opened temporary was live ≡ true
    by true asked now = known was.here temporary (later asked) now
    by false unasked now = now

lacked : (header : Header) (h o p : ℕ) (host : HostId) (object : ObjectId) (control : ℕ) (page : PageNo) (past : List Event)
    → StaysOpen header h o p (event.Taken (Down host object control) (message.Unavailable page)) past
lacked header h o p host object control page past costs = by (is_to h o p host object control past) (page.0 == p) refl refl costs.opens
  where
    e : Event
    e = event.Taken (Down host object control) (message.Unavailable page)

    off : (a b : Bool) → a ≡ true → (a && (b && true)) ≡ false → not b ≡ true
    off true true on is = absurd (let bad : true ≡ false = is in cc)
    off true false on is = refl
    off false b on is = absurd (let bad : false ≡ true = on in cc)

    later : is_to h o p host object control past ≡ true → (page.0 == p) ≡ true → (page_on header h o p past).asked ≡ true → is_later header o ≡ true
    later to same asked =
        let own = about_place header h o p host object control page past to same asked in
        let due : is_due header h o p (Some (record { host = host.0; object = object.0; page = page.0 })) (e ∷ past) ≡ false =
        subst (λ (b : Bool). is_due header h o p (if b then Some (record { host = host.0; object = object.0; page = page.0 }) else None) (e ∷ past) ≡ false)
        own.1 costs.due in
        off (host.0 == h && (object.0 == o && page.0 == p)) (nat_lt o (named header)) own.0 due

    by : (a b : Bool) → is_to h o p host object control past ≡ a → (page.0 == p) ≡ b
        → opened (is_later header o) (local_after header.size (if a then if b then effect.TakesNothing else Elsewhere else Elsewhere)
        (page_on header h o p past)) (is_some (live_control h o past)) ≡ true
        → opened (is_later header o) (page_on header h o p past) (is_some (live_control h o past)) ≡ true
    by true true to same now = nothing_opens (is_later header o) header.size (page_on header h o p past) (is_some (live_control h o past)) (later to same) now
    by true false to other now = now
    by false b apart same now = now

-- an error
failed : (header : Header) (h o p : ℕ) (host : HostId) (object : ObjectId) (control : ℕ) (page : PageNo) (reason : ℕ) (past : List Event)
    → Costs header h o p (event.Taken (Down host object control) (message.Error page reason) ∷ past)
    → (2 ≤ taken_opens (error_taken header (event.Taken (Down host object control) (message.Error page reason) ∷ past)) h o p)
    ⊎ (is_open (sight header h o p past) ≡ true)
failed header h o p host object control page reason past costs =
    by (is_to h o p host object control past) (page.0 == p) (page_on header h o p past).asked refl refl refl costs.opens
  where
    two : (b : Bool) → b ≡ true → 2 ≤ (if b then 2 else 0)
    two true is = omega arith
    two false is = absurd (let bad : false ≡ true = is in cc)

    by : (a b c : Bool) → is_to h o p host object control past ≡ a → (page.0 == p) ≡ b → (page_on header h o p past).asked ≡ c
        → opened (is_later header o) (local_after header.size (if a then if b then effect.TakesError else Elsewhere else Elsewhere)
        (page_on header h o p past)) (is_some (live_control h o past)) ≡ true
        → (2 ≤ taken_opens (error_taken header (event.Taken (Down host object control) (message.Error page reason) ∷ past)) h o p)
        ⊎ (opened (is_later header o) (page_on header h o p past) (is_some (live_control h o past)) ≡ true)
    by true true true to same asked now =
        let own = about_place header h o p host object control page past to same asked in
        inl (subst (λ (b : Bool). 2 ≤ taken_opens (if b then Some (record { host = host.0; object = object.0; page = page.0 }) else None) h o p) (sym own.1)
        (two (host.0 == h && (object.0 == o && page.0 == p)) own.0))
    by true true false to same unasked now =
        inr (subst (λ (b : Bool). (not (page_on header h o p past).here && (not b && (is_some (live_control h o past)
        && not (is_later header o && (page_on header h o p past).absent)))) ≡ true) (sym unasked) now)
    by true false c to other asked now = inr now
    by false b c apart same asked now = inr now

-- what is taken opens no place but that of an error
pub plain_taken : (header : Header) (h o p : ℕ) (channel : Channel) (m : Message) (past : List Event) → is_wild header o ≡ false → is_shared header o ≡ false
    → inner_weight header h o p (event.Taken channel m ∷ past)
    ≤ place_weight header h o p past + taken_opens (error_taken header (event.Taken channel m ∷ past)) h o p
plain_taken header h o p (Up host object) m past tame plain = taken_same header h o p (Up host object) m past tame plain (λ costs. costs.opens)
plain_taken header h o p (Down host object control) (message.Supply page lock precious bytes) past tame plain =
    taken_same header h o p (Down host object control) (message.Supply page lock precious bytes) past tame plain
    (supplied header h o p host object control page lock precious bytes past)
plain_taken header h o p (Down host object control) (message.Lock page count returns flush lock reply) past tame plain =
    taken_same header h o p (Down host object control) (message.Lock page count returns flush lock reply) past tame plain
    (locked header h o p host object control page count returns flush lock reply past)
plain_taken header h o p (Down host object control) (message.Unavailable page) past tame plain =
    taken_same header h o p (Down host object control) (message.Unavailable page) past tame plain (lacked header h o p host object control page past)
plain_taken header h o p (Down host object control) (message.Error page reason) past tame plain =
    taken_under header h o p (taken_opens (error_taken header (event.Taken (Down host object control) (message.Error page reason) ∷ past)) h o p)
    (Down host object control) (message.Error page reason) past tame plain (failed header h o p host object control page reason past)
plain_taken header h o p (Down host object control) m past tame plain =
    taken_same header h o p (Down host object control) m past tame plain
    (λ costs. still_if header h o p (is_to h o p host object control past) Elsewhere past (λ one. tt) costs.opens)
