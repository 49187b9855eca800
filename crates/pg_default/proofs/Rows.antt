-- The slots of a history: each page stands once among them, and which of them is free.
use Rattle.std.proofs.Common.{ℕ, zero, suc, ◌≡◌, ◌+◌, ◌<◌, ◌≤◌, ◌==◌, ◌&&◌, ◌||◌, not, nat_lt, Bool, true, false, List, [], ◌∷◌, Option, Some, None, refl, sym}
use Rattle.std.proofs.Common.{◌∙◌, ap, subst, arith, if◌then◌else◌}
use Rattle.std.proofs.lemmas.Bool.Decides.{nat_tests}
use Rattle.std.proofs.lemmas.Bool.{false≢true}
use Rattle.std.proofs.lemmas.Option.{none-some, same_Some}
use Rattle.vm_model.specs.declared.event.Event.{Event}
use Rattle.vm_model.specs.declared.event.Event.TheVariants as event
use Rattle.vm_model.specs.declared.message.Channel.TheVariants.{Up}
use Rattle.vm_model.specs.declared.message.Message.{Message}
use Rattle.vm_model.specs.declared.message.Message.TheVariants as message
use Rattle.vm_model.specs.declared.script.Header.{Header}
use Rattle.vm_model.specs.Named.{named}
pub use Rattle.vm_legal.proofs.Answering.{itself}
use Rattle.vm_legal.specs.Pagers.{Slotted, first_free, is_taken, slot_of, slots, slots_after, slotted, with_slot, without_object}

pub same_if : {X : Type 0} (t : Bool) (x : X) → (if t then x else x) ≡ x
same_if true x = refl
same_if false x = refl

-- each page stands once
abbrev pub Once : List Slotted → Type 0
Once [] = Unit {0}
Once (row ∷ rows) = (slot_of row.object row.page rows ≡ None) × Once rows

pub slot_without : (o q r : ℕ) (rows : List Slotted) → slot_of q r (without_object o rows) ≡ (if o == q then None else slot_of q r rows)
slot_without o q r [] = sym (same_if (o == q) None)
slot_without o q r (row ∷ rows) = by (row.object == o) (row.object == q && row.page == r) (o == q) refl refl refl (slot_without o q r rows)
  where
    by : (a b c : Bool) → (row.object == o) ≡ a → (row.object == q && row.page == r) ≡ b → (o == q) ≡ c
        → slot_of q r (without_object o rows) ≡ (if c then None else slot_of q r rows)
        → slot_of q r (if a then without_object o rows else row ∷ without_object o rows) ≡ (if c then None else (if b then Some row.slot else slot_of q r rows))
    by true true true one two three rest = rest
    by true true false one two three rest = absurd (grind (arith, nat_tests, one, two, three))
    by true false true one two three rest = rest
    by true false false one two three rest = rest
    by false true true one two three rest = absurd (grind (arith, nat_tests, one, two, three))
    by false true false one two three rest = rw two refl
    by false false true one two three rest = rw two rest
    by false false false one two three rest = rw two rest

once_without : (o : ℕ) (rows : List Slotted) → Once rows → Once (without_object o rows)
once_without o [] once = tt
once_without o (row ∷ rows) once = by (row.object == o) (once_without o rows once.1)
  where
    none : (t : Bool) (x : Option ℕ) → x ≡ None → (if t then None else x) ≡ None
    none true x is = refl
    none false x is = is

    by : (a : Bool) → Once (without_object o rows) → Once (if a then without_object o rows else row ∷ without_object o rows)
    by true rest = rest
    by false rest = (slot_without o row.object row.page rows ∙ none (o == row.object) (slot_of row.object row.page rows) once.0, rest)

once_with : (o p : ℕ) (slot : Option ℕ) (rows : List Slotted) → slot_of o p rows ≡ None → Once rows → Once (with_slot o p slot rows)
once_with o p None rows none once = once
once_with o p (Some s) rows none once = (none, once)

once_slotted : (count o p : ℕ) (was : Option ℕ) (rows : List Slotted) → slot_of o p rows ≡ was → Once rows → Once (slotted count o p was rows)
once_slotted count o p (Some s) rows is once = once
once_slotted count o p None rows is once = once_with o p (first_free count 0 rows) rows is once

once_after : (count o : ℕ) (m : Message) (rows : List Slotted) → Once rows → Once (slots_after count o m rows)
once_after count o (message.Return control page dirty keep bytes) rows once = once_slotted count o page.0 (slot_of o page.0 rows) rows refl once
once_after count o (message.Terminate control) rows once = once_without o rows once
once_after count o other rows once = once

pub once_slots : (header : Header) (host : ℕ) (past : List Event) → Once (slots header host past)
once_slots header host [] = tt
once_slots header host (event.Taken (Up at object) m ∷ past) = by (at.0 == host && not (nat_lt object.0 (named header))) (once_slots header host past)
  where
    by : (a : Bool) → Once (slots header host past) → Once (if a then slots_after header.slots object.0 m (slots header host past) else slots header host past)
    by true rest = once_after header.slots object.0 m (slots header host past) rest
    by false rest = rest
once_slots header host (e ∷ past) = once_slots header host past

-- a slot that is taken is that of a page
pub record IsOf (rows : List Slotted) (s : ℕ) : Type 0 where
  pub object : ℕ
  pub page : ℕ
  pub at : slot_of object page rows ≡ Some s

pub taken_of : (rows : List Slotted) (s : ℕ) → Once rows → is_taken s rows ≡ true → IsOf rows s
taken_of [] s once is = absurd (false≢true is)
taken_of (row ∷ rows) s once is = by (row.slot == s) refl (λ holds. taken_of rows s once.1 holds) is
  where
    later : (w : IsOf rows s) (t : Bool) → (row.object == w.object && row.page == w.page) ≡ t
        → (if t then Some row.slot else slot_of w.object w.page rows) ≡ Some s
    later w true same =
        let object_is : row.object ≡ w.object = grind (arith, nat_tests, same) in
        let page_is : row.page ≡ w.page = grind (arith, nat_tests, same) in
        absurd (none-some s (sym (rw (object_is, page_is) at once.0) ∙ w.at))
    later w false same = w.at

    by : (t : Bool) → (row.slot == s) ≡ t → (is_taken s rows ≡ true → IsOf rows s) → (t || is_taken s rows) ≡ true → IsOf (row ∷ rows) s
    by true here rest holds =
        let slot_is : row.slot ≡ s = grind (arith, nat_tests, here) in
        record { object = row.object; page = row.page; at = rw (itself row.object, itself row.page) (ap Some slot_is) }
    by false here rest holds =
        let w = rest holds in
        record { object = w.object; page = w.page; at = later w (row.object == w.object && row.page == w.page) refl }

pub of_taken : (rows : List Slotted) (o p s : ℕ) → slot_of o p rows ≡ Some s → is_taken s rows ≡ true
of_taken [] o p s is = absurd (none-some s is)
of_taken (row ∷ rows) o p s is = by (row.object == o && row.page == p) (λ holds. of_taken rows o p s holds) is
  where
    or_true : (a : Bool) → (a || true) ≡ true
    or_true true = refl
    or_true false = refl

    by : (t : Bool) → (slot_of o p rows ≡ Some s → is_taken s rows ≡ true) → (if t then Some row.slot else slot_of o p rows) ≡ Some s
        → (row.slot == s || is_taken s rows) ≡ true
    by true rest holds = let slot_is : row.slot ≡ s = same_Some row.slot s holds in rw (slot_is, itself s) refl
    by false rest holds = rw (rest holds) (or_true (row.slot == s))

-- the first of the free slots
pub first_is : (n from s : ℕ) (rows : List Slotted) → from ≤ s → s < from + n → is_taken s rows ≡ false → ((t : ℕ) → t < s → is_taken t rows ≡ true)
    → first_free n from rows ≡ Some s
first_is zero from s rows low high free below = absurd (omega (arith, low, high))
first_is (suc n) from s rows low high free below =
    by (is_taken from rows) refl (λ less. first_is n (from + 1) s rows (omega (arith, less)) (omega (arith, high)) free below)
  where
    less_if : (e : Bool) → (from == s) ≡ e → is_taken from rows ≡ true → from < s
    less_if true same is =
        let here : from ≡ s = grind (arith, nat_tests, same) in absurd (false≢true (sym free ∙ subst (λ (k : ℕ). is_taken k rows ≡ true) here is))
    less_if false apart is = grind (arith, nat_tests, low, apart)

    same_if_free : (e : Bool) → (from == s) ≡ e → is_taken from rows ≡ false → from ≡ s
    same_if_free true same is = grind (arith, nat_tests, same)
    same_if_free false apart is = absurd (false≢true (sym is ∙ below from (grind (arith, nat_tests, low, apart))))

    by : (t : Bool) → is_taken from rows ≡ t → (from < s → first_free n (from + 1) rows ≡ Some s)
        → (if t then first_free n (from + 1) rows else Some from) ≡ Some s
    by true is rest = rest (less_if (from == s) refl is)
    by false is rest = ap Some (same_if_free (from == s) refl is)

pub full_is : (n from : ℕ) (rows : List Slotted) → ((t : ℕ) → t < from + n → is_taken t rows ≡ true) → first_free n from rows ≡ None
full_is zero from rows all = refl
full_is (suc n) from rows all = rw (all from (omega arith)) (full_is n (from + 1) rows (λ t less. all t (omega (arith, less))))

pub full_of : (n from : ℕ) (rows : List Slotted) → first_free n from rows ≡ None → (t : ℕ) → from ≤ t → t < from + n → is_taken t rows ≡ true
full_of zero from rows none t low high = absurd (omega (arith, low, high))
full_of (suc n) from rows none t low high =
    by (is_taken from rows) refl (λ rest less. full_of n (from + 1) rows rest t (omega (arith, less)) (omega (arith, high))) none
  where
    next : (e : Bool) → (from == t) ≡ e → is_taken from rows ≡ true → (from < t → is_taken t rows ≡ true) → is_taken t rows ≡ true
    next true same is rest = let here : from ≡ t = grind (arith, nat_tests, same) in subst (λ (k : ℕ). is_taken k rows ≡ true) here is
    next false apart is rest = rest (grind (arith, nat_tests, low, apart))

    by : (b : Bool) → is_taken from rows ≡ b → (first_free n (from + 1) rows ≡ None → from < t → is_taken t rows ≡ true)
        → (if b then first_free n (from + 1) rows else Some from) ≡ None → is_taken t rows ≡ true
    by true is rest free = next (from == t) refl is (rest free)
    by false is rest free = absurd (none-some from (sym free))

pub slot_other : (count o p q r : ℕ) (was : Option ℕ) (rows : List Slotted) → (o == q && p == r) ≡ false
    → slot_of q r (slotted count o p was rows) ≡ slot_of q r rows
slot_other count o p q r (Some s) rows apart = refl
slot_other count o p q r None rows apart = by (first_free count 0 rows)
  where
    by : (free : Option ℕ) → slot_of q r (with_slot o p free rows) ≡ slot_of q r rows
    by None = refl
    by (Some s) = rw apart refl
