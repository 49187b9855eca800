-- What the pager of one host does leaves those of the others.
use Rattle.vm_system.proofs.Common.{Bool, Content, Down, EachOf, Event, Header, Held, IsApart, IsAreaTold, IsOrderly, IsOther, IsSome, LeavesAreas, List}
use Rattle.vm_system.proofs.Common.{Listed, Message, None, ObjectId, Ok, Option, PageNo, PagerAnswer, PagerStands, Put, PutEffects, PutTold, RequestAnswer}
use Rattle.vm_system.proofs.Common.{SlotTable, SlotsFit, Some, Told, Up, [], ap, area_name, arith, became, content_of, false, false≢true, held_at, held_slot}
use Rattle.vm_system.proofs.Common.{object_home, if◌then◌else◌, inl, inr, is_heard_elsewhere, last_return, length, named, nat_tests, not, others, others_carry}
use Rattle.vm_system.proofs.Common.{refl, same_Some, set, slice_get, slot_in_table, subst, suc, sym, told_of, true, zero, ℕ, ◌++◌, ◌<◌, ◌∙◌, ◌∷◌, ◌≡◌, ◌⊎◌}
use Rattle.std.proofs.Common.{◌≢◌, ◌==◌, ◌&&◌, ◌||◌}
use Rattle.pg_slots.specs.declared.answers.Put.TheVariants as put
use Rattle.pg_slots.specs.declared.slot_row.Held.TheVariants as held
use Rattle.vm_model.specs.declared.event.Event.TheVariants as event
use Rattle.vm_model.specs.declared.message.Message.TheVariants as message
use Rattle.vm_system.proofs.Answering.{own_place, some_of}

-- an object is one host's

no_part : (at object h g o : ℕ) (away : Bool) → h ≢ g → ((not (at == g) && object == o) || away) ≡ false → (at == h && object == o) ≡ false
no_part at object h g o away other is = by (at == h) (object == o) refl refl
  where
    by : (x y : Bool) → (at == h) ≡ x → (object == o) ≡ y → (x && y) ≡ false
    by true true here same =
        let place : at ≡ h = grind (arith, nat_tests, here) in
        let apart : (at == g) ≡ false = grind (arith, nat_tests, place, other) in
        absurd (let bad : true ≡ false = rw (apart, same) at is in cc)
    by true false here same = refl
    by false y here same = refl

or_no : (a b : Bool) → (a || b) ≡ false → b ≡ false
or_no true b is = absurd (false≢true (sym is))
or_no false b is = is

-- where no other pager took a message about the object, none took a return of it
unheard : (h g o p : ℕ) (past : List Event) → h ≢ g → is_heard_elsewhere g o past ≡ false → last_return h o p past ≡ None
unheard h g o p [] other is = refl
unheard h g o p (event.Taken (Up at object) m ∷ past) other is =
    rw (no_part at.0 object.0 h g o (is_heard_elsewhere g o past) other is) (unheard h g o p past other
    (or_no (not (at.0 == g) && object.0 == o) (is_heard_elsewhere g o past) is))
unheard h g o p (e ∷ past) other is = unheard h g o p past other is

pub apart_of : (header : Header) (past : List Event) → IsOrderly header past → (h : ℕ) → IsApart header h past
apart_of header past orderly h o p high away = by (object_home o past) refl
  where
    mine : (object_home o past ≡ None) ⊎ (object_home o past ≡ Some h) → last_return h o p past ≡ None
    mine home = absurd (false≢true (sym ((orderly.home h o).own high home) ∙ away))

    by : (x : Option ℕ) → object_home o past ≡ x → last_return h o p past ≡ None
    by None is = mine (inl is)
    by (Some g) is = at (h == g) refl
      where
        at : (b : Bool) → (h == g) ≡ b → last_return h o p past ≡ None
        at true same = let equal : g ≡ h = grind (arith, nat_tests, same) in mine (inr (is ∙ ap (λ (z : ℕ). Some z) equal))
        at false same = let other : h ≢ g = grind (arith, nat_tests, same) in unheard h g o p past other ((orderly.home g o).own high (inr is))

-- what a pager answers is about the object of the message

abbrev pub IsAbout : ObjectId → Event → Type 0
IsAbout object (event.Sent (Down host o control) m) = o ≡ object
IsAbout object (event.DeviceFailed who way o page) = o ≡ object
IsAbout object (event.NoSlot o page) = o ≡ object
IsAbout object other = ⊥

requested : (size host : ℕ) (object : ObjectId) (control : ℕ) (page : PageNo) (has : Option Held) (events : List Event)
    → RequestAnswer size host object control page has events → EachOf (IsAbout object) events
requested size host object control page None events is = subst (λ (z : List Event). EachOf (IsAbout object) z) (sym is) (refl, tt)
requested size host object control page (Some held.Lost) events is = subst (λ (z : List Event). EachOf (IsAbout object) z) (sym is) (refl, tt)
requested size host object control page (Some (held.Torn s)) events is = subst (λ (z : List Event). EachOf (IsAbout object) z) (sym is) (refl, tt)
requested size host object control page (Some (held.Kept s)) events (inl is) = subst (λ (z : List Event). EachOf (IsAbout object) z) (sym is.2) (refl, tt)
requested size host object control page (Some (held.Kept s)) events (inr is) = subst (λ (z : List Event). EachOf (IsAbout object) z) (sym is) (refl, (refl, tt))

put_about : (p : Put) (object : ObjectId) (page : PageNo) → EachOf (IsAbout object) (told_of p object page)
put_about put.Kept object page = tt
put_about put.NoSlot object page = (refl, tt)
put_about put.Failed object page = (refl, tt)

pub about : (m : Message) (object : ObjectId) (old new : SlotTable) (events : List Event) → PagerAnswer m object old new events → EachOf (IsAbout object) events
about (message.Init control size) object old new events a = subst (λ (z : List Event). EachOf (IsAbout object) z) (sym a.1) (refl, tt)
about (message.Create control size) object old new events a = subst (λ (z : List Event). EachOf (IsAbout object) z) (sym a.1) (refl, tt)
about (message.Request control page access) object old new events a = requested old.size old.host object control page (held_at old object.0 page.0) events a.1
about (message.Return control page dirty keep bytes) object old new events a =
    subst (λ (z : List Event). EachOf (IsAbout object) z) (sym a.told) (put_about (became events) object page)
about (message.Terminate control) object old new events a = subst (λ (z : List Event). EachOf (IsAbout object) z) (sym a.1) tt
about (message.Unlock control page access) object old new events a = subst (λ (z : List Event). EachOf (IsAbout object) z) (sym a.1) tt
about (message.Completed control page count) object old new events a = subst (λ (z : List Event). EachOf (IsAbout object) z) (sym a.1) tt
about (message.Changed control cache strategy) object old new events a = subst (λ (z : List Event). EachOf (IsAbout object) z) (sym a.1) tt
about other object old new events a = absurd a

-- so no other pager has a part in it

away_one : (g : ℕ) (object : ObjectId) (e : Event) (past : List Event) → IsAbout object e → is_heard_elsewhere g object.0 past ≡ true
    → is_heard_elsewhere g object.0 (e ∷ past) ≡ true
away_one g object (event.Sent (Down host o control) m) past about away = away
away_one g object (event.Sent (Up host o) m) past about away = absurd about
away_one g object (event.DeviceFailed who way o page) past about away = away
away_one g object (event.NoSlot o page) past about away = away
away_one g object other past about away = absurd about

away_all : (g : ℕ) (object : ObjectId) (events past : List Event) → EachOf (IsAbout object) events → is_heard_elsewhere g object.0 past ≡ true
    → is_heard_elsewhere g object.0 (events ++ past) ≡ true
away_all g object [] past about away = away
away_all g object (e ∷ events) past about away = away_one g object e (events ++ past) about.0 (away_all g object events past about.1 away)

about_other : (header : Header) (g : ℕ) (object : ObjectId) (e : Event) (past : List Event) → IsAbout object e → is_heard_elsewhere g object.0 past ≡ true
    → IsOther header g e past
about_other header g object (event.Sent (Down host o control) m) past about away = tt
about_other header g object (event.Sent (Up host o) m) past about away = absurd about
about_other header g object (event.DeviceFailed who way o page) past about away =
    inr (subst (λ (z : ObjectId). is_heard_elsewhere g z.0 past ≡ true) (sym about) away)
about_other header g object (event.NoSlot o page) past about away = inr (subst (λ (z : ObjectId). is_heard_elsewhere g z.0 past ≡ true) (sym about) away)
about_other header g object other past about away = absurd about

apart_one : (header : Header) (g : ℕ) (object : ObjectId) (e : Event) (past : List Event) → IsAbout object e → IsApart header g past
    → IsApart header g (e ∷ past)
apart_one header g object (event.Sent (Down host o control) m) past about apart = apart
apart_one header g object (event.Sent (Up host o) m) past about apart = absurd about
apart_one header g object (event.DeviceFailed who way o page) past about apart = apart
apart_one header g object (event.NoSlot o page) past about apart = apart
apart_one header g object other past about apart = absurd about

apart_all : (header : Header) (g : ℕ) (object : ObjectId) (events past : List Event) → EachOf (IsAbout object) events → IsApart header g past
    → IsApart header g (events ++ past)
apart_all header g object [] past about apart = apart
apart_all header g object (e ∷ events) past about apart =
    apart_one header g object e (events ++ past) about.0 (apart_all header g object events past about.1 apart)

pub others_stand : (header : Header) (g : ℕ) (pager : SlotTable) (object : ObjectId) (events past : List Event) → EachOf (IsAbout object) events
    → is_heard_elsewhere g object.0 past ≡ true → PagerStands header g pager past
    → PagerStands header g pager (events ++ past)
others_stand header g pager object [] past about away stands = stands
others_stand header g pager object (e ∷ events) past about away stands =
    others header g pager e (events ++ past) (about_other header g object e (events ++ past) about.0 (away_all g object events past about.1 away))
    (others_stand header g pager object events past about.1 away stands)

pub others_fit : (header : Header) (g : ℕ) (pager : SlotTable) (object : ObjectId) (areas : List ℕ → Told) (events past : List Event)
    → EachOf (IsAbout object) events → is_heard_elsewhere g object.0 past ≡ true → IsApart header g past → IsAreaTold areas pager
    → SlotsFit areas pager (content_of header g past) → SlotsFit areas pager (content_of header g (events ++ past))
others_fit header g pager object areas [] past about away apart told fits = fits
others_fit header g pager object areas (e ∷ events) past about away apart told fits =
    let other = about_other header g object e (events ++ past) about.0 (away_all g object events past about.1 away) in
    let over = others_carry header g pager e (events ++ past) areas other (apart_all header g object (e ∷ events) past about apart) in
    over.fits told (others_fit header g pager object areas events past about.1 away apart told fits)

-- nor has any default pager one in what is about a declared object

declared_other : (header : Header) (g : ℕ) (object : ObjectId) (e : Event) (past : List Event) → object.0 < named header → IsAbout object e
    → IsOther header g e past
declared_other header g object (event.Sent (Down host o control) m) past low about = tt
declared_other header g object (event.Sent (Up host o) m) past low about = absurd about
declared_other header g object (event.DeviceFailed who way o page) past low about = inl (subst (λ (z : ObjectId). z.0 < named header) (sym about) low)
declared_other header g object (event.NoSlot o page) past low about = inl (subst (λ (z : ObjectId). z.0 < named header) (sym about) low)
declared_other header g object other past low about = absurd about

pub declared_stand : (header : Header) (g : ℕ) (pager : SlotTable) (object : ObjectId) (events past : List Event) → object.0 < named header
    → EachOf (IsAbout object) events → PagerStands header g pager past → PagerStands header g pager (events ++ past)
declared_stand header g pager object [] past low about stands = stands
declared_stand header g pager object (e ∷ events) past low about stands =
    others header g pager e (events ++ past) (declared_other header g object e (events ++ past) low about.0)
    (declared_stand header g pager object events past low about.1 stands)

pub declared_fit : (header : Header) (g : ℕ) (pager : SlotTable) (object : ObjectId) (areas : List ℕ → Told) (events past : List Event)
    → object.0 < named header → EachOf (IsAbout object) events → IsApart header g past → IsAreaTold areas pager
    → SlotsFit areas pager (content_of header g past) → SlotsFit areas pager (content_of header g (events ++ past))
declared_fit header g pager object areas [] past low about apart told fits = fits
declared_fit header g pager object areas (e ∷ events) past low about apart told fits =
    let over = others_carry header g pager e (events ++ past) areas (declared_other header g object e (events ++ past) low about.0)
    (apart_all header g object (e ∷ events) past about apart) in
    over.fits told (declared_fit header g pager object areas events past low about.1 apart told fits)

-- and their areas stay

pub other_area : (h g : ℕ) → h ≢ g → area_name h ≢ area_name g
other_area h g other same = other (omega (arith, ap (λ (z : List ℕ). last z) same))
  where
    last : List ℕ → ℕ
    last [] = 0
    last (x ∷ []) = x
    last (x ∷ y ∷ more) = last (y ∷ more)

put_others : (p : Put) (object page : ℕ) (bytes : List ℕ) (before after : List ℕ → Told) (old new : SlotTable) → PutEffects p object page old new
    → PutTold (Ok p) before after new (slot_in_table new object page) bytes
    → (name : List ℕ) (was : Option (List ℕ)) → name ≢ area_name new.host → before name ≡ Some was → after name ≡ Some was
put_others put.Kept object page bytes before after old new leaves wrote name was other is =
    let at : slot_in_table new object page ≡ Some leaves.0 = ap held_slot (leaves.2.at object page
    ∙ ap (λ (z : Bool). if z then Some (held.Kept leaves.0) else held_at old object page) (own_place object page)) in
    (wrote leaves.0 at).others name was other is
put_others put.Failed object page bytes before after old new leaves wrote name was other is =
    let at : slot_in_table new object page ≡ Some leaves.0 = ap held_slot (leaves.2.at object page
    ∙ ap (λ (z : Bool). if z then Some (held.Torn leaves.0) else held_at old object page) (own_place object page)) in
    (wrote leaves.0 at).others name was other is
put_others put.NoSlot object page bytes before after old new leaves wrote name was other is = wrote name was is

pub areas_others : (m : Message) (object : ObjectId) (before after : List ℕ → Told) (old new : SlotTable) (events : Listed Event)
    → PagerAnswer m object old new events.items → LeavesAreas m object new before after (Ok events)
    → (name : List ℕ) (was : Option (List ℕ)) → name ≢ area_name new.host → before name ≡ Some was → after name ≡ Some was
areas_others (message.Return control page dirty keep bytes) object before after old new events a leaves name was apart is =
    put_others (became events.items) object.0 page.0 bytes before after old new a.held leaves name was apart is
areas_others other object before after old new events a leaves name was apart is = leaves name was is

pub told_still : (pager : SlotTable) (before after : List ℕ → Told)
    → ((was : Option (List ℕ)) → before (area_name pager.host) ≡ Some was → after (area_name pager.host) ≡ Some was) → IsAreaTold before pager
    → IsAreaTold after pager
told_still pager before after stays told =
    let was = some_of (before (area_name pager.host)) told in
    subst (λ (z : Told). IsSome z) (sym (stays was.0 was.1)) refl

pub fits_still : (pager : SlotTable) (content : Content) (before after : List ℕ → Told)
    → ((was : Option (List ℕ)) → before (area_name pager.host) ≡ Some was → after (area_name pager.host) ≡ Some was) → IsAreaTold before pager
    → SlotsFit before pager content → SlotsFit after pager content
fits_still pager content before after stays told fits =
    let was = some_of (before (area_name pager.host)) told in
    record {
      agrees = fits.agrees;
      bytes = λ o p s bytes held is now at.
          let same : was.0 ≡ now = same_Some was.0 now (sym (stays was.0 was.1) ∙ at) in
          fits.bytes o p s bytes held is now (was.1 ∙ ap (λ (z : Option (List ℕ)). Some z) same);
    }

-- one pager of a list is replaced

pub set_cases : {A : Type 0} (pagers : List A) (h g : ℕ) (new pager : A) → h < length pagers → slice_get (set pagers h new) g ≡ Some pager
    → ((g ≡ h) × (new ≡ pager)) ⊎ ((g ≢ h) × (slice_get pagers g ≡ Some pager))
set_cases [] h g new pager within is = absurd (omega arith)
set_cases (x ∷ pagers) zero zero new pager within is = inl (refl, same_Some new pager is)
set_cases (x ∷ pagers) zero (suc g) new pager within is = inr (λ same. omega arith, is)
set_cases (x ∷ pagers) (suc h) zero new pager within is = inr (λ same. omega arith, is)
set_cases (x ∷ pagers) (suc h) (suc g) new pager within is = elim (set_cases pagers h g new pager (omega arith) is) [
  | inl same ↦ inl (ap (λ (n : ℕ). suc n) same.0, same.1)
  | inr apart ↦ inr (λ same. apart.0 (omega arith), apart.1)
]
