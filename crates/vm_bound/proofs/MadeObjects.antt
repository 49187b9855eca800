-- What was never made has no page on a host, and no control; and what never had a control there has none.
use Rattle.std.proofs.Common.{ℕ, ◌≡◌, ◌+◌, ◌==◌, ◌&&◌, ◌||◌, ◌<◌, ◌≤◌, Bool, true, false, List, [], ◌∷◌, Option, Some, None, if◌then◌else◌, ap}
use Rattle.std.proofs.Common.{sym, refl, subst, ◌∙◌, inl, inr, arith}
use Rattle.std.proofs.lemmas.Bool.{and_parts, cases_lt}
use Rattle.std.proofs.lemmas.Bool.Decides.{nat_tests}
use Rattle.std.specs.Prelude.{◌⊎◌, nat_lt, not}
use Rattle.vm_abroad.proofs.Home.{copy_made}
use Rattle.vm_base.specs.Pages.{little_endian_bytes}
use Rattle.vm_bound.proofs.Depths.{Linked, linked}
use Rattle.vm_legal.proofs.Numbering.{named_objects}
use Rattle.vm_legal.specs.Licences.{Bottoms, Fills, Finding, HasCause, Pushing, Raises}
use Rattle.vm_legal.specs.Outside.{Outside}
use Rattle.vm_legal.specs.Walks.{page_on}
use Rattle.vm_model.specs.Controls.{is_control, last_control, live_control, without_control}
use Rattle.vm_model.specs.Homes.{object_home}
use Rattle.vm_model.specs.Local as effect
use Rattle.vm_model.specs.Local.{Elsewhere, Local, LocalEffect, Place, is_on, local, local_after, merge_effect, sent_effect, taken_effect}
use Rattle.vm_model.specs.Moments.{EachEvent}
use Rattle.vm_model.specs.Regions.{backing_of, next_object, object_pages}
use Rattle.vm_model.specs.Tasks.{host_of}
use Rattle.vm_model.specs.declared.event.Event.{Event}
use Rattle.vm_model.specs.declared.event.Event.TheVariants as event
use Rattle.vm_model.specs.declared.message.Channel.TheVariants.{Up, Down}
use Rattle.vm_model.specs.declared.message.Message.{Message}
use Rattle.vm_model.specs.declared.message.Message.TheVariants as message
use Rattle.vm_model.specs.declared.script.Header.{Header}
use Rattle.vm_shared.proofs.Numbering.{at_made}

-- A page comes by few effects.

abbrev brings : LocalEffect → Bool
brings effect.Zeroes = true
brings (effect.Raises bytes) = true
brings (effect.Moves page) = true
brings (effect.TakesPage lock precious bytes) = true
brings other = false

no_true : {A : Type 0} → false ≡ true → A
no_true is = absurd (cc)

brought : (Q : Type 0) (size : ℕ) (e : LocalEffect) (was : Local) → (brings e ≡ true → Q) → (was.here ≡ true → Q) → (local_after size e was).here ≡ true → Q
brought Q size effect.Zeroes was new old here = new refl
brought Q size (effect.Raises bytes) was new old here = new refl
brought Q size (effect.Stores at bytes) was new old here = old here
brought Q size effect.Drops was new old here = no_true here
brought Q size (effect.Moves page) was new old here = new refl
brought Q size (effect.Returns true) was new old here = old here
brought Q size (effect.Returns false) was new old here = no_true here
brought Q size effect.Asks was new old here = old here
brought Q size effect.Unlocks was new old here = old here
brought Q size (effect.TakesPage lock precious bytes) was new old here = new refl
brought Q size effect.TakesNothing was new old here = by was.asked here
  where
    by : (b : Bool) → (if b then record was { asked = false; absent = true } else was).here ≡ true → Q
    by true is = old is
    by false is = old is
brought Q size effect.TakesError was new old here = old here
brought Q size (effect.TakesLock lock flush) was new old here = by was.here here
  where
    by : (b : Bool) → (if b then record was { lock = if flush || lock == 8 then was.lock else lock; unlocking = false } else was).here ≡ true → Q
    by true is = old is
    by false is = old is
brought Q size effect.Begins was new old here = old here
brought Q size effect.Ends was new old here = old here
brought Q size Elsewhere was new old here = old here

brings_if : (Q : Type 0) (b : Bool) (e : LocalEffect) → (b ≡ true → brings e ≡ true → Q) → brings (if b then e else Elsewhere) ≡ true → Q
brings_if Q true e so is = so refl is
brings_if Q false e so is = no_true is

-- what a host sends brings none
sent_none : (p : ℕ) (live : Option ℕ) (m : Message) → brings (sent_effect p live m) ≡ false
sent_none p live (message.Terminate control) = by (is_control control live)
  where
    by : (b : Bool) → brings (if b then effect.Ends else Elsewhere) ≡ false
    by true = refl
    by false = refl
sent_none p live (message.Request control at access) = by (at.0 == p && is_control control live)
  where
    by : (b : Bool) → brings (if b then effect.Asks else Elsewhere) ≡ false
    by true = refl
    by false = refl
sent_none p live (message.Unlock control at access) = by (at.0 == p)
  where
    by : (b : Bool) → brings (if b then effect.Unlocks else Elsewhere) ≡ false
    by true = refl
    by false = refl
sent_none p live (message.Return control at dirty keep bytes) = by (at.0 == p)
  where
    by : (b : Bool) → brings (if b then effect.Returns keep else Elsewhere) ≡ false
    by true = refl
    by false = refl
sent_none p live (message.Init control size) = refl
sent_none p live (message.Create control size) = refl
sent_none p live (message.Completed control at count) = refl
sent_none p live (message.Ready cache strategy) = refl
sent_none p live (message.Supply at lock precious bytes) = refl
sent_none p live (message.Unavailable at) = refl
sent_none p live (message.Error at reason) = refl
sent_none p live (message.Lock at count returns flush lock reply) = refl
sent_none p live (message.Attributes cache strategy reply) = refl
sent_none p live (message.Destroy reason) = refl
sent_none p live (message.Changed control cache strategy) = refl

-- and of objects that are merged the upper alone gets one
merge_brings : (Q : Type 0) (upper lower shift upper_pages lower_pages : ℕ) (place : Place) (others : Place → Local) → (place.object ≡ upper → Q)
    → brings (merge_effect upper lower shift upper_pages lower_pages place others) ≡ true → Q
merge_brings Q upper lower shift upper_pages lower_pages place others so is = by (place.object == upper) refl is
  where
    by : (b : Bool) → (place.object == upper) ≡ b
        → brings (if b then if nat_lt place.page upper_pages && (nat_lt (shift + place.page) lower_pages
        && ((others (record { object = lower; page = shift + place.page })).here && not (others place).here))
        then effect.Moves (others (record { object = lower; page = shift + place.page }))
        else Elsewhere
        else if place.object == lower && nat_lt place.page lower_pages then effect.Drops else Elsewhere) ≡ true
        → Q
    by true same is = so (grind (arith, nat_tests))
    by false other is = drops (place.object == lower && nat_lt place.page lower_pages) is
      where
        drops : (c : Bool) → brings (if c then effect.Drops else Elsewhere) ≡ true → Q
        drops true is = no_true is
        drops false is = no_true is

-- What was made.

pub record OnlyMade (header : Header) (past : List Event) : Type 0 where
  pub pages : (h o p : ℕ) → (page_on header h o p past).here ≡ true → o < next_object header past
  pub controls : (h o : ℕ) → next_object header past ≤ o → live_control h o past ≡ None

-- what stands on another was made
backed_made : (header : Header) (o : ℕ) (past : List Event) → Linked header past → (backing_of header o past).backed ≡ true → o < next_object header past
backed_made header o past was on = elim (cases_lt o (next_object header past)) [
  | inl less ↦ less
  | inr high ↦ absurd (let bad : false ≡ true = sym (was.homes.unmade o high) ∙ on in cc)
]

zeroed_made : (header : Header) (h o p : ℕ) (past : List Event) → Linked header past → Fills header h o p past ⊎ Bottoms header h o p past
    → o < next_object header past
zeroed_made header h o p past was (inl fills) = let less = fills.declared in let more = named_objects header past in omega (arith, less, more)
zeroed_made header h o p past was (inr bottoms) =
    subst (λ (k : ℕ). k < next_object header past) bottoms.is_top.object
    (was.tops bottoms.waits.at.entry.region.0 (at_made header bottoms.task _ past was.made bottoms.waits.at))

raised_made : (header : Header) (h lower lower_page o p : ℕ) (past : List Event) → Linked header past → Raises header h lower lower_page o p past
    → o < next_object header past
raised_made header h lower lower_page o p past was (Finding c) =
    subst (λ (k : ℕ). k < next_object header past) c.is_top.object
    (was.tops c.waits.at.entry.region.0 (at_made header c.task _ past was.made c.waits.at))
raised_made header h lower lower_page o p past was (Pushing c) = copy_made header lower o past was.homes c.owes.newest

-- a place of this object
own_object : (b : Bool) (n object o page p : ℕ) → (b && (object == o && page == p)) ≡ true → object < n → o < n
own_object b n object o page p is less = let same : object ≡ o = grind (arith, nat_tests) in omega (arith, same, less)

here_next : (header : Header) (outside : Outside) (e : Event) (past : List Event) → HasCause header outside e past → Linked header past
    → OnlyMade header past → (h o p : ℕ) → (page_on header h o p (e ∷ past)).here ≡ true → o < next_object header past
here_next header outside (event.Zeroed at object page) past c was made h o p here =
    brought _ header.size (if at.0 == h && (object.0 == o && page.0 == p) then effect.Zeroes else Elsewhere) (page_on header h o p past)
    (brings_if _ (at.0 == h && (object.0 == o && page.0 == p)) effect.Zeroes
    (λ is new. own_object (at.0 == h) (next_object header past) object.0 o page.0 p is (zeroed_made header at.0 object.0 page.0 past was c.1)))
    (made.pages h o p) here
here_next header outside (event.Raised at lower lower_page upper upper_page) past c was made h o p here =
    brought _ header.size (if at.0 == h && (upper.0 == o && upper_page.0 == p) then effect.Raises (page_on header h lower.0 lower_page.0 past).bytes
    else Elsewhere) (page_on header h o p past)
    (brings_if _ (at.0 == h && (upper.0 == o && upper_page.0 == p)) (effect.Raises (page_on header h lower.0 lower_page.0 past).bytes)
    (λ is new. own_object (at.0 == h) (next_object header past) upper.0 o upper_page.0 p is
    (raised_made header at.0 lower.0 lower_page.0 upper.0 upper_page.0 past was c.1)))
    (made.pages h o p) here
here_next header outside (event.CopiedPage task page object object_page target) past c was made h o p here =
    brought _ header.size (if is_on h (host_of task.0 past) && (target.0 == o && page.0 == p) then effect.Raises
    (page_on header h object.0 object_page.0 past).bytes else Elsewhere) (page_on header h o p past)
    (brings_if _ (is_on h (host_of task.0 past) && (target.0 == o && page.0 == p)) (effect.Raises (page_on header h object.0 object_page.0 past).bytes)
    (λ is new. own_object (is_on h (host_of task.0 past)) (next_object header past) target.0 o page.0 p is
    (was.homes.target_made task.0 _ c.1.filled)))
    (made.pages h o p) here
here_next header outside (event.Stored task object page at size value) past c was made h o p here =
    brought _ header.size (if is_on h (host_of task.0 past) && (object.0 == o && page.0 == p) then effect.Stores at (little_endian_bytes size value)
    else Elsewhere) (page_on header h o p past)
    (brings_if _ (is_on h (host_of task.0 past) && (object.0 == o && page.0 == p)) (effect.Stores at (little_endian_bytes size value))
    (λ is new. no_true new)) (made.pages h o p) here
here_next header outside (event.Dropped at object page) past c was made h o p here =
    brought _ header.size (if at.0 == h && (object.0 == o && page.0 == p) then effect.Drops else Elsewhere) (page_on header h o p past)
    (brings_if _ (at.0 == h && (object.0 == o && page.0 == p)) effect.Drops (λ is new. no_true new)) (made.pages h o p) here
here_next header outside (event.Merged upper lower) past c was made h o p here =
    brought _ header.size (if is_on h (object_home upper.0 past) then merged else Elsewhere) (page_on header h o p past)
    (brings_if _ (is_on h (object_home upper.0 past)) merged
    (λ is new. merge_brings _ upper.0 lower.0 (backing_of header upper.0 past).shift (object_pages header upper.0 past) (object_pages header lower.0 past)
    (record { object = o; page = p }) (λ source. local header h source past)
    (λ same. subst (λ (k : ℕ). k < next_object header past) (sym same) (backed_made header upper.0 past was c.1.pair.backed)) new))
    (made.pages h o p) here
  where
    merged : LocalEffect
    merged =
        merge_effect upper.0 lower.0 (backing_of header upper.0 past).shift (object_pages header upper.0 past) (object_pages header lower.0 past)
        (record { object = o; page = p }) (λ source. local header h source past)
here_next header outside (event.Sent (Up at object) m) past c was made h o p here =
    brought _ header.size (if at.0 == h && object.0 == o then sent_effect p (live_control h o past) m else Elsewhere) (page_on header h o p past)
    (brings_if _ (at.0 == h && object.0 == o) (sent_effect p (live_control h o past) m)
    (λ is new. no_true (sym (sent_none p (live_control h o past) m) ∙ new))) (made.pages h o p) here
here_next header outside (event.Sent (Down at object control) m) past c was made h o p here = made.pages h o p here
here_next header outside (event.Taken (Up at object) m) past c was made h o p here = made.pages h o p here
here_next header outside (event.Taken (Down at object control) m) past c was made h o p here =
    brought _ header.size (if at.0 == h && (object.0 == o && is_control control (live_control h o past)) then taken_effect p m else Elsewhere)
    (page_on header h o p past)
    (brings_if _ (at.0 == h && (object.0 == o && is_control control (live_control h o past))) (taken_effect p m)
    (λ is new. by (is_control control (live_control h o past)) refl is)) (made.pages h o p) here
  where
    dead : (b : Bool) → is_control control (live_control h o past) ≡ b → b ≡ true → next_object header past ≤ o → ⊥
    dead b same on high =
        let none : is_control control (live_control h o past) ≡ false = ap (is_control control) (made.controls h o high) in
        let bad : false ≡ true = sym none ∙ (same ∙ on) in
        cc

    by : (b : Bool) → is_control control (live_control h o past) ≡ b → (at.0 == h && (object.0 == o && b)) ≡ true → o < next_object header past
    by b same is = elim (cases_lt o (next_object header past)) [
      | inl less ↦ less
      | inr high ↦ absurd (dead b same (and_parts (object.0 == o) b (and_parts (at.0 == h) (object.0 == o && b) is).1).1 high)
    ]
here_next header outside e past c was made h o p here = made.pages h o p here

-- objects get more
objects_more : (header : Header) (e : Event) (past : List Event) → next_object header past ≤ next_object header (e ∷ past)
objects_more header (event.RegionMade region object pages) past = omega arith
objects_more header (event.Delayed region source offset pages copy) past = omega arith
objects_more header (event.Shadowed region new old) past = omega arith
objects_more header e past = omega arith

none_if : (b : Bool) (x was : Option ℕ) → (b ≡ true → x ≡ None) → was ≡ None → (if b then x else was) ≡ None
none_if true x was new old = new refl
none_if false x was new old = old

live_next : (header : Header) (outside : Outside) (e : Event) (past : List Event) → HasCause header outside e past → OnlyMade header past
    → (h o : ℕ) → next_object header past ≤ o → live_control h o (e ∷ past) ≡ None
live_next header outside (event.Sent (Up host object) (message.Init control size)) past c made h o high =
    none_if (host.0 == h && object.0 == o) (Some control) (live_control h o past)
    (λ is. let same : object.0 ≡ o = grind (arith, nat_tests) in
    let less = c.1.declared in
    let more = named_objects header past in
    absurd (omega (arith, same, less, more, high))) (made.controls h o high)
live_next header outside (event.Sent (Up host object) (message.Create control size)) past c made h o high =
    none_if (host.0 == h && object.0 == o) (Some control) (live_control h o past)
    (λ is. let same : object.0 ≡ o = grind (arith, nat_tests) in
    let less = made.pages host.0 object.0 c.1.page c.1.here in
    absurd (omega (arith, same, less, high))) (made.controls h o high)
live_next header outside (event.Sent (Up host object) (message.Terminate control)) past c made h o high =
    none_if (host.0 == h && object.0 == o) (without_control control (live_control h o past)) (live_control h o past)
    (λ is. ap (without_control control) (made.controls h o high)) (made.controls h o high)
live_next header outside e past c made h o high = made.controls h o high

pub only_made : (header : Header) (outside : Outside) (past : List Event) → EachEvent (HasCause header outside) past → OnlyMade header past
only_made header outside [] caused = record { pages = λ h o p here. no_true here; controls = λ h o high. refl }
only_made header outside (e ∷ past) caused =
    let was : OnlyMade header past = only_made header outside past caused.1 in
    let more : next_object header past ≤ next_object header (e ∷ past) = objects_more header e past in
    record {
      pages =
          λ h o p here. let less = here_next header outside e past caused.0 (linked header outside past caused.1) was h o p here in omega (arith, less, more);
      controls = λ h o high. live_next header outside e past caused.0 was h o (omega (arith, high, more));
    }

-- controls have numbers from 1 on

number_if : (b : Bool) (n was : ℕ) (x live : Option ℕ) → (n ≡ 0 → ⊥) → (was ≡ 0 → live ≡ None) → (if b then n else was) ≡ 0
    → (if b then x else live) ≡ None
number_if true n was x live some old is = absurd (some is)
number_if false n was x live some old is = old is

pub never_live : (header : Header) (outside : Outside) (past : List Event) → EachEvent (HasCause header outside) past → (h o : ℕ)
    → last_control h o past ≡ 0 → live_control h o past ≡ None
never_live header outside [] caused h o never = refl
never_live header outside (event.Sent (Up host object) (message.Init control size) ∷ past) caused h o never =
    number_if (host.0 == h && object.0 == o) control (last_control h o past) (Some control) (live_control h o past)
    (λ none. let number = caused.0.1.number in omega (arith, number, none)) (never_live header outside past caused.1 h o) never
never_live header outside (event.Sent (Up host object) (message.Create control size) ∷ past) caused h o never =
    number_if (host.0 == h && object.0 == o) control (last_control h o past) (Some control) (live_control h o past)
    (λ none. let number = caused.0.1.number in omega (arith, number, none)) (never_live header outside past caused.1 h o) never
never_live header outside (event.Sent (Up host object) (message.Terminate control) ∷ past) caused h o never =
    let none = never_live header outside past caused.1 h o never in
    none_if (host.0 == h && object.0 == o) (without_control control (live_control h o past)) (live_control h o past)
    (λ is. ap (without_control control) none) none
never_live header outside (e ∷ past) caused h o never = never_live header outside past caused.1 h o never
