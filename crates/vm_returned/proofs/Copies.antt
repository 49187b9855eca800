-- What a host has of a copy of a file, and what it has returned of it, was copied up into it.
use Rattle.std.proofs.Common.{◌≡◌, ℕ, zero, suc, ◌<◌, ◌≤◌, ◌==◌, ◌&&◌, ◌||◌, Bool, true, false, List, [], ◌∷◌, Option, refl, ap, subst, sym, ◌∙◌, arith}
use Rattle.std.proofs.Common.{◌+◌, ◌⊎◌, inl, inr}
use Rattle.std.proofs.lemmas.Bool.{cases_lt, or_right}
use Rattle.std.proofs.lemmas.Bool.Decides.{nat_tests}
use Rattle.std.specs.Prelude.{if◌then◌else◌}
use Rattle.vm_base.specs.declared.ids.HostId.{HostId}
use Rattle.vm_base.specs.declared.ids.ObjectId.{ObjectId}
use Rattle.vm_model.specs.declared.event.Event.{Event}
use Rattle.vm_model.specs.declared.event.Event.TheVariants as event
use Rattle.vm_model.specs.declared.message.Channel.TheVariants.{Down, Up}
use Rattle.vm_model.specs.declared.message.Message.{Message}
use Rattle.vm_model.specs.declared.message.Message.TheVariants as message
use Rattle.vm_model.specs.declared.script.Header.{Header}
use Rattle.vm_model.specs.Controls.{is_control, live_control}
use Rattle.vm_model.specs.Homes.{object_home}
use Rattle.vm_model.specs.Local.{Asks, Begins, Drops, Elsewhere, Ends, Local, LocalEffect, Moves, Raises, Returns, Stores, TakesError, TakesLock}
use Rattle.vm_model.specs.Local.{TakesNothing, TakesPage, Unlocks, Zeroes, effect, is_on, local, local_after, sent_effect, taken_effect}
use Rattle.vm_model.specs.Moments.{EachEvent}
use Rattle.vm_model.specs.Named.{named}
use Rattle.vm_model.specs.Regions.{backing_of, is_copy, next_object}
use Rattle.vm_model.specs.Tasks.{host_of}
use Rattle.vm_model.specs.Words.{in_range}
use Rattle.vm_legal.proofs.Numbering.{named_objects}
use Rattle.vm_legal.specs.Licences.{Bottoms, CopiesPage, Fills, HasCause}
use Rattle.vm_legal.specs.Merges.{IsPair}
use Rattle.vm_legal.specs.Outside.{Outside}
use Rattle.vm_legal.specs.Pushes.{is_pushed}
use Rattle.vm_legal.specs.Returned.{was_returned}
use Rattle.vm_legal.specs.Walks.{Below, Sight, Sinks, page_on}
use Rattle.vm_abroad.specs.Home.{HaveHomes}
use Rattle.vm_abroad.proofs.Numbers.{objects_rise}
use Rattle.vm_quiet.proofs.Letters.{never}
use Rattle.vm_returned.proofs.Housed.{Housed, IsOwn, copy_before, copy_high, housed_of, own_later, raised_own, row_of, top_own}
use Rattle.vm_returned.proofs.Returned.{takes_returned}

-- ---- what was copied up

pushed_later : (h o p : ℕ) (e : Event) (past : List Event) → is_pushed h o p past ≡ true → is_pushed h o p (e ∷ past) ≡ true
pushed_later h o p (event.Raised at lower lower_page upper upper_page) past is =
    or_right (at.0 == h && (upper.0 == o && upper_page.0 == p)) (is_pushed h o p past) is
pushed_later h o p e past is = is

-- the object was made; and if it is a copy of a file, the page was copied up into it
pub record HasPushed (header : Header) (h o p : ℕ) (past : List Event) : Type 0 where
  pub made : o < next_object header past
  pub pushed : is_copy o past ≡ true → is_pushed h o p past ≡ true

pub has_later : (header : Header) (outside : Outside) (h o p : ℕ) (e : Event) (past : List Event) → HasCause header outside e past
    → HasPushed header h o p past → HasPushed header h o p (e ∷ past)
has_later header outside h o p e past cause has =
    record {
      made = let less = has.made in let rise = objects_rise header e past in omega (arith, less, rise);
      pushed = λ copy. pushed_later h o p e past (has.pushed (copy_before header outside o e past cause has.made copy));
    }

-- of a declared object nothing is said
declared_has : (header : Header) (h o p : ℕ) (past : List Event) → HaveHomes header past → o < named header → HasPushed header h o p past
declared_has header h o p past homes declared =
    record {
      made = omega (arith, declared, named_objects header past);
      pushed = λ copy. absurd (let high = copy_high header o past homes copy in omega (arith, high, declared));
    }

-- what is copied up into an object, is so on the host where that is at home, if it is a copy
pub pushed_own : (header : Header) (outside : Outside) (h o p : ℕ) (past : List Event) → EachEvent (HasCause header outside) past
    → is_pushed h o p past ≡ true → IsOwn header h o past
pushed_own header outside h o p [] causes is = never is
pushed_own header outside h o p (event.Raised at lower lower_page upper upper_page ∷ past) causes is =
    by (at.0 == h && (upper.0 == o && upper_page.0 == p)) refl (pushed_own header outside h o p past causes.1) is
  where
    e : Event
    e = event.Raised at lower lower_page upper upper_page

    by : (b : Bool) → (at.0 == h && (upper.0 == o && upper_page.0 == p)) ≡ b → (is_pushed h o p past ≡ true → IsOwn header h o past)
        → (b || is_pushed h o p past) ≡ true → IsOwn header h o (e ∷ past)
    by true test was now =
        let host : at.0 ≡ h = grind (arith, nat_tests, test) in
        let object : upper.0 ≡ o = grind (arith, nat_tests, test) in
        own_later header outside h o e past causes.0 (subst (λ (z : ℕ). IsOwn header z o past) host (subst (λ (z : ℕ). IsOwn header at.0 z past) object
        (raised_own header outside at.0 lower.0 lower_page.0 upper.0 upper_page.0 past causes.1 (housed_of header outside past causes.1) causes.0.1)))
    by false test was before = own_later header outside h o e past causes.0 (was before)
pushed_own header outside h o p (e ∷ past) causes is = own_later header outside h o e past causes.0 (pushed_own header outside h o p past causes.1 is)

-- ---- what brings no page of a copy

-- a walk from a copy comes to a file
sinks_on_file : (header : Header) (past : List Event) (sights : ℕ → ℕ → Sight) (steps o p : ℕ) → HaveHomes header past → is_copy o past ≡ true
    → Sinks sights (λ k. backing_of header k past) steps o p
    → ((depth below : ℕ) → Below (λ k. backing_of header k past) depth o below → named header ≤ below) → ⊥
sinks_on_file header past sights zero o p homes copy sinks plain = never (sym sinks.1 ∙ (homes.lined o copy).backed)
sinks_on_file header past sights (suc steps) o p homes copy sinks plain = elim (homes.lined o copy).over [
  | inl declared ↦ let high = plain 1 (backing_of header o past).under (sinks.1, refl) in omega (arith, high, declared)
  | inr other ↦
      sinks_on_file header past sights steps (backing_of header o past).under ((backing_of header o past).shift + p) homes other sinks.2
      (λ depth below is. plain (suc depth) below (sinks.1, is))
]

zeroed_has : (header : Header) (h host object page p : ℕ) (past : List Event) → Housed header past
    → (Fills header host object page past ⊎ Bottoms header host object page past) → HasPushed header h object p past
zeroed_has header h host object page p past housed (inl c) = declared_has header h object p past housed.homes c.declared
zeroed_has header h host object page p past housed (inr c) =
    record {
      made =
          let row = row_of header c.task _ past housed c.waits.at in
          (top_own header c.waits.at.host c.waits.at.entry.region.0 _ object page past housed.homes row c.is_top).made;
      pushed = λ copy. absurd (sinks_on_file header past _ c.steps object page housed.homes copy c.sinks c.plain);
    }

-- a slow copy fills an object that stands on nothing
copied_has : (header : Header) (h task index object page target p : ℕ) (past : List Event) → HaveHomes header past
    → CopiesPage header task index object page target past → HasPushed header h target p past
copied_has header h task index object page target p past homes c =
    record {
      made = homes.target_made task (record { region = c.region; object = target }) c.filled;
      pushed = λ copy. never (sym (homes.target_bare task (record { region = c.region; object = target }) c.filled) ∙ (homes.lined target copy).backed);
    }

-- and below a copy there is nothing that is merged
merged_has : (header : Header) (h host upper lower p : ℕ) (past : List Event) → HaveHomes header past → IsPair header host upper lower past
    → HasPushed header h upper p past
merged_has header h host upper lower p past homes pair =
    record {
      made = elim (cases_lt upper (next_object header past)) [
        | inl less ↦ less
        | inr high ↦ never (sym (homes.unmade upper high) ∙ pair.backed)
      ];
      pushed = λ copy. elim (homes.lined upper copy).over [
        | inl declared ↦ absurd (let under = pair.under in let temporary = pair.temporary in omega (arith, declared, under, temporary))
        | inr other ↦ never (sym pair.plain ∙ (ap (λ z. is_copy z past) (sym pair.under) ∙ other))
      ];
    }

-- ---- each event

-- what brings a page to a place
abbrev brings : LocalEffect → Bool
brings Zeroes = true
brings (Raises bytes) = true
brings (Moves page) = true
brings (TakesPage lock precious bytes) = true
brings other = false

-- a page that is here was here, or is brought
here_from : (size : ℕ) (x : LocalEffect) (was : Local) → (local_after size x was).here ≡ true → (was.here ≡ true) ⊎ (brings x ≡ true)
here_from size Zeroes was is = inr refl
here_from size (Raises bytes) was is = inr refl
here_from size (Moves page) was is = inr refl
here_from size (TakesPage lock precious bytes) was is = inr refl
here_from size (Stores at bytes) was is = inl is
here_from size Drops was is = never is
here_from size (Returns true) was is = inl is
here_from size (Returns false) was is = never is
here_from size Asks was is = inl is
here_from size Unlocks was is = inl is
here_from size TakesNothing was is = by was.asked is
  where
    by : (b : Bool) → (if b then record was { asked = false; absent = true } else was).here ≡ true → (was.here ≡ true) ⊎ (false ≡ true)
    by true is = inl is
    by false is = inl is
here_from size TakesError was is = inl is
here_from size (TakesLock lock flush) was is = by was.here refl
  where
    by : (b : Bool) → was.here ≡ b → (was.here ≡ true) ⊎ (false ≡ true)
    by true here = inl here
    by false here = never (sym (ap (λ b. (if b then record was { lock = if flush || lock == 8 then was.lock else lock; unlocking = false } else was).here)
        here
        ∙ here)
        ∙ is)
here_from size Begins was is = inl is
here_from size Ends was is = inl is
here_from size Elsewhere was is = inl is

-- nothing that a host sends brings a page
sends_none : (page : ℕ) (live : Option ℕ) (m : Message) → brings (sent_effect page live m) ≡ false
sends_none page live (message.Terminate control) = by (is_control control live)
  where
    by : (b : Bool) → brings (if b then Ends else Elsewhere) ≡ false
    by true = refl
    by false = refl
sends_none page live (message.Request control at access) = by (at.0 == page && is_control control live)
  where
    by : (b : Bool) → brings (if b then Asks else Elsewhere) ≡ false
    by true = refl
    by false = refl
sends_none page live (message.Unlock control at access) = by (at.0 == page)
  where
    by : (b : Bool) → brings (if b then Unlocks else Elsewhere) ≡ false
    by true = refl
    by false = refl
sends_none page live (message.Return control at dirty keep bytes) = by (at.0 == page)
  where
    by : (b : Bool) → brings (if b then Returns keep else Elsewhere) ≡ false
    by true = refl
    by false = refl
sends_none page live m = refl

-- nothing that it takes does, but what supplies the page
takes_supply : {A : Type 0} (p : ℕ) (m : Message) → brings (taken_effect p m) ≡ true
    → ((page : ℕ) (lock : ℕ) (precious : Bool) (bytes : List ℕ) → m ≡ message.Supply (record { 0 = page }) lock precious bytes → page ≡ p → A) → A
takes_supply {A} p (message.Supply at lock precious bytes) is go = by (at.0 == p) refl is
  where
    by : (b : Bool) → (at.0 == p) ≡ b → brings (if b then TakesPage lock precious bytes else Elsewhere) ≡ true → A
    by true same is = go at.0 lock precious bytes refl (grind (arith, nat_tests, same))
    by false other is = never is
takes_supply {A} p (message.Unavailable at) is go = by (at.0 == p) is
  where
    by : (b : Bool) → brings (if b then TakesNothing else Elsewhere) ≡ true → A
    by true is = never is
    by false is = never is
takes_supply {A} p (message.Error at reason) is go = by (at.0 == p) is
  where
    by : (b : Bool) → brings (if b then TakesError else Elsewhere) ≡ true → A
    by true is = never is
    by false is = never is
takes_supply {A} p (message.Lock at count returns flush lock reply) is go = by (in_range p at.0 count) is
  where
    by : (b : Bool) → brings (if b then TakesLock lock flush else Elsewhere) ≡ true → A
    by true is = never is
    by false is = never is
takes_supply p m is go = never is

-- what a host has of the page was copied up, and what it has returned of it
pub record Pages (header : Header) (h o p : ℕ) (past : List Event) : Type 0 where
  pub here : (page_on header h o p past).here ≡ true → HasPushed header h o p past
  pub returned : was_returned h o p past ≡ true → HasPushed header h o p past

abbrev effect_on : Header → ℕ → ℕ → ℕ → Event → List Event → LocalEffect
effect_on header h o p e past = effect header h (record { object = o; page = p }) (λ source. local header h source past) e past

supplied_has : (header : Header) (outside : Outside) (h o p : ℕ) (host : HostId) (object : ObjectId) (control : ℕ) (m : Message) (past : List Event)
    → EachEvent (HasCause header outside) (event.Taken (Down host object control) m ∷ past) → Pages header h o p past → host.0 ≡ h → object.0 ≡ o
    → brings (taken_effect p m) ≡ true → HasPushed header h o p past
supplied_has header outside h o p host object control m past causes was host_is object_is is =
    takes_supply p m is (λ page lock precious bytes supply same. elim (cases_lt o (named header)) [
      | inl declared ↦ declared_has header h o p past (housed_of header outside past causes.1).homes declared
      | inr temporary ↦
          let taken = takes_returned header outside (event.Taken (Down host object control) (message.Supply (record { 0 = page }) lock precious bytes) ∷ past)
          (subst (λ (n : Message). EachEvent (HasCause header outside) (event.Taken (Down host object control) n ∷ past)) supply causes) in
          let back : was_returned host.0 object.0 page past ≡ true = taken.0 (omega (arith, object_is, temporary)) in
          was.returned (subst (λ (z : ℕ). was_returned z o p past ≡ true) host_is (subst (λ (z : ℕ). was_returned host.0 z p past ≡ true) object_is
          (subst (λ (z : ℕ). was_returned host.0 object.0 z past ≡ true) same back)))
    ])

brought_has : (header : Header) (outside : Outside) (h o p : ℕ) (e : Event) (past : List Event) → EachEvent (HasCause header outside) (e ∷ past)
    → Pages header h o p past → brings (effect_on header h o p e past) ≡ true → HasPushed header h o p (e ∷ past)
brought_has header outside h o p (event.Zeroed at object page) past causes was is = by (at.0 == h && (object.0 == o && page.0 == p)) refl is
  where
    by : (b : Bool) → (at.0 == h && (object.0 == o && page.0 == p)) ≡ b → brings (if b then Zeroes else Elsewhere) ≡ true
        → HasPushed header h o p (event.Zeroed at object page ∷ past)
    by true test is =
        let same : object.0 ≡ o = grind (arith, nat_tests, test) in
        has_later header outside h o p (event.Zeroed at object page) past causes.0 (subst (λ (z : ℕ). HasPushed header h z p past) same
        (zeroed_has header h at.0 object.0 page.0 p past (housed_of header outside past causes.1) causes.0.1))
    by false test is = never is
brought_has header outside h o p (event.Raised at lower lower_page upper upper_page) past causes was is =
    by (at.0 == h && (upper.0 == o && upper_page.0 == p)) refl is
  where
    e : Event
    e = event.Raised at lower lower_page upper upper_page

    by : (b : Bool) → (at.0 == h && (upper.0 == o && upper_page.0 == p)) ≡ b
        → brings (if b then Raises (local header h (record { object = lower.0; page = lower_page.0 }) past).bytes else Elsewhere) ≡ true
        → HasPushed header h o p (e ∷ past)
    by true test is =
        let now : is_pushed h o p (e ∷ past) ≡ true = ap (λ b. b || is_pushed h o p past) test in
        record { made = (pushed_own header outside h o p (e ∷ past) causes now).made; pushed = λ copy. now }
    by false test is = never is
brought_has header outside h o p (event.CopiedPage task page object object_page target) past causes was is =
    by (is_on h (host_of task.0 past) && (target.0 == o && page.0 == p)) refl is
  where
    e : Event
    e = event.CopiedPage task page object object_page target

    by : (b : Bool) → (is_on h (host_of task.0 past) && (target.0 == o && page.0 == p)) ≡ b
        → brings (if b then Raises (local header h (record { object = object.0; page = object_page.0 }) past).bytes else Elsewhere) ≡ true
        → HasPushed header h o p (e ∷ past)
    by true test is =
        let same : target.0 ≡ o = grind (arith, nat_tests, test) in
        has_later header outside h o p e past causes.0 (subst (λ (z : ℕ). HasPushed header h z p past) same
        (copied_has header h task.0 page.0 object.0 object_page.0 target.0 p past (housed_of header outside past causes.1).homes causes.0.1))
    by false test is = never is
brought_has header outside h o p (event.Merged upper lower) past causes was is =
    by (is_on h (object_home upper.0 past)) (o == upper.0) (o == lower.0) _ _ refl is
  where
    by : (here this that these those : Bool) → (o == upper.0) ≡ this → brings (if here then (if this then (if these then
        Moves (local header h (record { object = lower.0; page = (backing_of header upper.0 past).shift + p }) past) else Elsewhere) else
        (if that && those then Drops else Elsewhere)) else Elsewhere) ≡ true → HasPushed header h o p (event.Merged upper lower ∷ past)
    by true true that these those test is =
        let same : upper.0 ≡ o = grind (arith, nat_tests, test) in
        has_later header outside h o p (event.Merged upper lower) past causes.0 (subst (λ (z : ℕ). HasPushed header h z p past) same
        (merged_has header h causes.0.1.host upper.0 lower.0 p past (housed_of header outside past causes.1).homes causes.0.1.pair))
    by true false true these true test is = never is
    by true false true these false test is = never is
    by true false false these those test is = never is
    by false this that these those test is = never is
brought_has header outside h o p (event.Stored task object page at size value) past causes was is =
    by (is_on h (host_of task.0 past) && (object.0 == o && page.0 == p)) _ is
  where
    by : (b : Bool) (bytes : List ℕ) → brings (if b then Stores at bytes else Elsewhere) ≡ true
        → HasPushed header h o p (event.Stored task object page at size value ∷ past)
    by true bytes is = never is
    by false bytes is = never is
brought_has header outside h o p (event.Dropped at object page) past causes was is = by (at.0 == h && (object.0 == o && page.0 == p)) is
  where
    by : (b : Bool) → brings (if b then Drops else Elsewhere) ≡ true → HasPushed header h o p (event.Dropped at object page ∷ past)
    by true is = never is
    by false is = never is
brought_has header outside h o p (event.Sent (Up at object) m) past causes was is = by (at.0 == h && object.0 == o) is
  where
    by : (b : Bool) → brings (if b then sent_effect p (live_control h o past) m else Elsewhere) ≡ true
        → HasPushed header h o p (event.Sent (Up at object) m ∷ past)
    by true is = never (sym (sends_none p (live_control h o past) m) ∙ is)
    by false is = never is
brought_has header outside h o p (event.Taken (Down at object control) m) past causes was is =
    by (at.0 == h && (object.0 == o && is_control control (live_control h o past))) refl is
  where
    e : Event
    e = event.Taken (Down at object control) m

    by : (b : Bool) → (at.0 == h && (object.0 == o && is_control control (live_control h o past))) ≡ b
        → brings (if b then taken_effect p m else Elsewhere) ≡ true → HasPushed header h o p (e ∷ past)
    by true test is =
        has_later header outside h o p e past causes.0 (supplied_has header outside h o p at object control m past causes was
        (grind (arith, nat_tests, test)) (grind (arith, nat_tests, test)) is)
    by false test is = never is
brought_has header outside h o p e past causes was is = never is

here_has : (header : Header) (outside : Outside) (h o p : ℕ) (e : Event) (past : List Event) → EachEvent (HasCause header outside) (e ∷ past)
    → Pages header h o p past → (page_on header h o p (e ∷ past)).here ≡ true → HasPushed header h o p (e ∷ past)
here_has header outside h o p e past causes was is =
    elim (here_from header.size (effect_on header h o p e past) (page_on header h o p past) is) [
      | inl before ↦ has_later header outside h o p e past causes.0 (was.here before)
      | inr brought ↦ brought_has header outside h o p e past causes was brought
    ]

returned_has : (header : Header) (outside : Outside) (h o p : ℕ) (e : Event) (past : List Event) → EachEvent (HasCause header outside) (e ∷ past)
    → Pages header h o p past → was_returned h o p (e ∷ past) ≡ true → HasPushed header h o p (e ∷ past)
returned_has header outside h o p (event.Sent (Up host object) (message.Return control page dirty keep bytes)) past causes was is =
    has_later header outside h o p e past causes.0 (by (host.0 == h && (object.0 == o && page.0 == p)) refl is)
  where
    e : Event
    e = event.Sent (Up host object) (message.Return control page dirty keep bytes)

    by : (b : Bool) → (host.0 == h && (object.0 == o && page.0 == p)) ≡ b → (b || was_returned h o p past) ≡ true → HasPushed header h o p past
    by true test now =
        let host_is : host.0 ≡ h = grind (arith, nat_tests, test) in
        let object_is : object.0 ≡ o = grind (arith, nat_tests, test) in
        let page_is : page.0 ≡ p = grind (arith, nat_tests, test) in
        was.here (subst (λ (z : ℕ). (page_on header z o p past).here ≡ true) host_is
        (subst (λ (z : ℕ). (page_on header host.0 z p past).here ≡ true) object_is
        (subst (λ (z : ℕ). (page_on header host.0 object.0 z past).here ≡ true) page_is causes.0.1.here)))
    by false test before = was.returned before
returned_has header outside h o p e past causes was is = has_later header outside h o p e past causes.0 (was.returned is)

-- so it is behind all events that have their causes
pub pages_of : (header : Header) (outside : Outside) (h o p : ℕ) (past : List Event) → EachEvent (HasCause header outside) past → Pages header h o p past
pages_of header outside h o p [] causes = record { here = λ is. never is; returned = λ is. never is }
pages_of header outside h o p (e ∷ past) causes =
    let was : Pages header h o p past = pages_of header outside h o p past causes.1 in
    record { here = here_has header outside h o p e past causes was; returned = returned_has header outside h o p e past causes was }

pub here_pushed : (header : Header) (outside : Outside) (h o p : ℕ) (past : List Event) → EachEvent (HasCause header outside) past → is_copy o past ≡ true
    → (page_on header h o p past).here ≡ true → is_pushed h o p past ≡ true
here_pushed header outside h o p past causes copy here = ((pages_of header outside h o p past causes).here here).pushed copy

pub returned_pushed : (header : Header) (outside : Outside) (h o p : ℕ) (past : List Event) → EachEvent (HasCause header outside) past
    → is_copy o past ≡ true → was_returned h o p past ≡ true → is_pushed h o p past ≡ true
returned_pushed header outside h o p past causes copy was = ((pages_of header outside h o p past causes).returned was).pushed copy
