-- What a change of the two tables leaves of them, as contracts see it.
use Rattle.std.proofs.Common.{ℕ, ◌≡◌, ◌==◌, ◌∙◌, Bool, true, false, List, [], ◌∷◌, Option, Some, None, inl, inr, refl, sym, ap, arith}
use Rattle.std.proofs.lemmas.Bool.{false≢true}
use Rattle.std.proofs.lemmas.Bool.Decides.{eqb_tells, nat_tests}
use Rattle.std.specs.Borrow.{MutBor}
use Rattle.std.specs.Map.{lookup}
use Rattle.std.specs.Option.{option_copied_mut, option_eq}
use Rattle.std.specs.Prelude.{◌&&◌, if◌then◌else◌, slice_index_or, IfSome}
use Rattle.vm_base.specs.declared.ids.ObjectId.{ObjectId}
use Rattle.vm_copies.specs.Copies.{AreNewest, ClearsHad, CopyRow, CopyTable, IsCopyOf, PutsHad, among, had_in, other_than}

-- what the map has of an object
abbrev pub entry_of : {X : Type 0} → List (ObjectId × X) → ℕ → Option X
entry_of entries o = lookup (λ id. o == id.0) entries

pub among_is : {X : Type 0} (o : ℕ) (entries : List (ObjectId × X)) → among o entries ≡ entry_of entries o
among_is o [] = refl
among_is o (entry ∷ entries) = grind (arith, nat_tests, among_is o entries)

-- the map has this of one object now, and of each other what it had
abbrev pub Writes : {X : Type 0} → ℕ → Option X → List (ObjectId × X) → List (ObjectId × X) → Type 0
Writes id entry old new = (o : ObjectId) → entry_of new o.0 ≡ (if id == o.0 then entry else entry_of old o.0)

-- the same, as contracts see it
abbrev pub Puts : {X : Type 0} → ℕ → Option X → List (ObjectId × X) → List (ObjectId × X) → Type 0
Puts id entry old new = (o : ℕ) → among o new ≡ (if id == o then entry else among o old)

pub put : {X : Type 0} (id : ℕ) (entry : Option X) (old new : List (ObjectId × X)) → Writes id entry old new → Puts id entry old new
put id entry old new writes o = among_is o new ∙ writes (record { 0 = o }) ∙ ap (λ z. if id == o then entry else z) (sym (among_is o old))

-- of a row that was lent
pub told : (o : ℕ) (entries : List (ObjectId × CopyRow)) (lent : Option (MutBor CopyRow)) (row : MutBor CopyRow) → option_copied_mut lent ≡ entry_of entries o
    → lent ≡ Some row → among o entries ≡ Some row.now
told o entries lent row value is = among_is o entries ∙ sym value ∙ ap option_copied_mut is

-- what is put where it is already changes nothing
pub stays : {X : Type 0} (id : ℕ) (entries : List (ObjectId × X)) → Puts id (among id entries) entries entries
stays id entries o = elim (eqb_tells id o) [
  | inl same ↦ rw same.0 (ap (λ z. among z entries) (sym same.1))
  | inr other ↦ rw other.0 refl
]

-- what the program compares newest ones by
abbrev pub is_this : Option ObjectId → ObjectId → Bool
is_this first copy = option_eq (λ x y. x.0 == y.0) first (Some copy)

pub other_of_this : (first : Option ObjectId) (copy : ObjectId) → is_this first copy ≡ true → other_than copy.0 first ≡ None
other_of_this None copy is = absurd (false≢true is)
other_of_this (Some c) copy is = rw is refl

pub other_of_another : (first : Option ObjectId) (copy : ObjectId) → is_this first copy ≡ false → other_than copy.0 first ≡ first
other_of_another None copy is = refl
other_of_another (Some c) copy is = rw is refl

-- what is kept, as contracts see it
abbrev pub table_of : List (ObjectId × ObjectId) → List (ObjectId × CopyRow) → ℕ → CopyTable
table_of newest copies room = record { newest = newest; copies = copies; room = room }

-- a copy object that has had no page is put, or none
pub cleared : (newest newest2 : List (ObjectId × ObjectId)) (copies copies2 : List (ObjectId × CopyRow)) (room room2 copy : ℕ) (row : Option CopyRow)
    → Puts copy row copies copies2 → ((p : ℕ) → had_in row p ≡ false) → ClearsHad copy (table_of newest copies room) (table_of newest2 copies2 room2)
cleared newest newest2 copies copies2 room room2 copy row puts none = record { at = λ c p. ap (λ z. had_in z p) (puts c) ∙ by c p (copy == c) }
  where
    by : (c p : ℕ) (same : Bool) → had_in (if same then row else among c copies) p ≡ (if same then false else had_in (among c copies) p)
    by c p true = none p
    by c p false = refl

-- one page of a copy object is put
pub noted : (newest newest2 : List (ObjectId × ObjectId)) (copies copies2 : List (ObjectId × CopyRow)) (room room2 copy page : ℕ) (old new : CopyRow)
    → Puts copy (Some new) copies copies2 → among copy copies ≡ Some old
    → ((p : ℕ) → slice_index_or new.had p false ≡ (if page == p then true else slice_index_or old.had p false))
    → PutsHad copy page true (table_of newest copies room) (table_of newest2 copies2 room2)
noted newest newest2 copies copies2 room room2 copy page old new puts was had = record { at = λ c p. ap (λ z. had_in z p) (puts c) ∙ by c p (copy == c) refl }
  where
    by : (c p : ℕ) (same : Bool) → (copy == c) ≡ same
        → had_in (if same then Some new else among c copies) p ≡ (if same && (page == p) then true else had_in (among c copies) p)
    by c p true is =
        let one : copy ≡ c = grind (arith, nat_tests, is) in
        had p ∙ ap (λ z. if page == p then true else had_in z p) (sym (ap (λ z. among z copies) (sym one) ∙ was))
    by c p false is = refl

-- each source's newest stays when a row keeps its source
pub kept : (newest : List (ObjectId × ObjectId)) (copies copies2 : List (ObjectId × CopyRow)) (room room2 copy : ℕ) (old new : CopyRow)
    → Puts copy (Some new) copies copies2 → among copy copies ≡ Some old → new.source ≡ old.source
    → AreNewest (table_of newest copies room) → AreNewest (table_of newest copies2 room2)
kept newest copies copies2 room room2 copy old new puts was source are = record { at = λ s. by s (among s newest) (are.at s) }
  where
    by_copy : (s c : ℕ) (same : Bool) → (copy == c) ≡ same → IsCopyOf s (among c copies) → IsCopyOf s (if same then Some new else among c copies)
    by_copy s c true is of =
        let one : copy ≡ c = grind (arith, nat_tests, is) in
        let stood : IsCopyOf s (Some old) = rw (ap (λ z. among z copies) (sym one) ∙ was) at of in
        ap (λ (z : ObjectId). z.0) source ∙ stood
    by_copy s c false is of = of

    by : (s : ℕ) (first : Option ObjectId) → IfSome first (λ c. IsCopyOf s (among c.0 copies)) → IfSome first (λ c. IsCopyOf s (among c.0 copies2))
    by s None of = tt
    by s (Some c) of = rw (puts c.0) (by_copy s c.0 (copy == c.0) refl of)

-- a copy object begins, and is its source's newest
pub begun : (newest newest2 : List (ObjectId × ObjectId)) (copies copies2 : List (ObjectId × CopyRow)) (room room2 : ℕ) (source copy : ObjectId) (row : CopyRow)
    → Puts copy.0 (Some row) copies copies2 → Puts source.0 (Some copy) newest newest2 → among copy.0 copies ≡ None → row.source ≡ source
    → AreNewest (table_of newest copies room) → AreNewest (table_of newest2 copies2 room2)
begun newest newest2 copies copies2 room room2 source copy row puts first absent of are = record { at = λ s. rw (first s) (by s (source.0 == s) refl) }
  where
    by_copy : (s c : ℕ) (same : Bool) → (copy.0 == c) ≡ same → IsCopyOf s (among c copies) → IsCopyOf s (if same then Some row else among c copies)
    by_copy s c true is stood =
        let one : copy.0 ≡ c = grind (arith, nat_tests, is) in
        absurd (rw (ap (λ z. among z copies) (sym one) ∙ absent) at stood)
    by_copy s c false is stood = stood

    by_newest : (s : ℕ) (was : Option ObjectId) → IfSome was (λ c. IsCopyOf s (among c.0 copies)) → IfSome was (λ c. IsCopyOf s (among c.0 copies2))
    by_newest s None stood = tt
    by_newest s (Some c) stood = rw (puts c.0) (by_copy s c.0 (copy.0 == c.0) refl stood)

    by : (s : ℕ) (same : Bool) → (source.0 == s) ≡ same → IfSome (if same then Some copy else among s newest) (λ c. IsCopyOf s (among c.0 copies2))
    by s true is =
        let one : source.0 ≡ s = grind (arith, nat_tests, is) in
        let self : (copy.0 == copy.0) ≡ true = grind (arith, nat_tests) in
        rw (puts copy.0, self) (ap (λ (z : ObjectId). z.0) of ∙ one)
    by s false is = by_newest s (among s newest) (are.at s)

-- a copy object ends, and is no longer its source's newest if it was
pub ended : (newest newest2 : List (ObjectId × ObjectId)) (copies copies2 : List (ObjectId × CopyRow)) (room room2 copy : ℕ) (row : CopyRow)
    → Puts copy None copies copies2 → Puts row.source.0 (other_than copy (among row.source.0 newest)) newest newest2
    → among copy copies ≡ Some row → AreNewest (table_of newest copies room) → AreNewest (table_of newest2 copies2 room2)
ended newest newest2 copies copies2 room room2 copy row puts first was are = record { at = λ s. rw (first s) (by s (row.source.0 == s) refl) }
  where
    by_copy : (s c : ℕ) (same : Bool) → (copy == c) ≡ same → (row.source.0 == s) ≡ false → IsCopyOf s (among c copies)
        → IsCopyOf s (if same then None else among c copies)
    by_copy s c true is apart stood =
        let one : copy ≡ c = grind (arith, nat_tests, is) in
        let of : IsCopyOf s (Some row) = rw (ap (λ z. among z copies) (sym one) ∙ was) at stood in
        let mine : (row.source.0 == s) ≡ true = grind (arith, nat_tests, of) in
        absurd (false≢true (sym apart ∙ mine))
    by_copy s c false is apart stood = stood

    by_newest : (s : ℕ) (first : Option ObjectId) → (row.source.0 == s) ≡ false → IfSome first (λ c. IsCopyOf s (among c.0 copies))
        → IfSome first (λ c. IsCopyOf s (among c.0 copies2))
    by_newest s None apart stood = tt
    by_newest s (Some c) apart stood = rw (puts c.0) (by_copy s c.0 (copy == c.0) refl apart stood)

    by_other : (s : ℕ) (c : ObjectId) (same : Bool) → (c.0 == copy) ≡ same → IsCopyOf s (among c.0 copies)
        → IfSome (if same then None else Some c) (λ c. IsCopyOf s (among c.0 copies2))
    by_other s c true is stood = tt
    by_other s c false is stood =
        let apart : (copy == c.0) ≡ false = grind (arith, nat_tests, is) in
        rw (puts c.0, apart) stood

    by_same : (s : ℕ) (first : Option ObjectId) → IfSome first (λ c. IsCopyOf s (among c.0 copies))
        → IfSome (other_than copy first) (λ c. IsCopyOf s (among c.0 copies2))
    by_same s None stood = tt
    by_same s (Some c) stood = by_other s c (c.0 == copy) refl stood

    by : (s : ℕ) (same : Bool) → (row.source.0 == s) ≡ same
        → IfSome (if same then other_than copy (among row.source.0 newest) else among s newest) (λ c. IsCopyOf s (among c.0 copies2))
    by s true is =
        let one : row.source.0 ≡ s = grind (arith, nat_tests, is) in
        by_same s (among row.source.0 newest) (rw one (are.at s))
    by s false is = by_newest s (among s newest) is (are.at s)
