-- The rows of an object's pages, as they are read, written and taken out.
use Rattle.indexmap.specs.IndexMap.{IndexMap, spare}
use Rattle.std.proofs.Common.{ℕ, ◌≡◌, ◌==◌, Bool, true, false, List, [], ◌∷◌, ◌++◌, map, Option, Some, None, IsSome, if◌then◌else◌}
use Rattle.std.proofs.Common.{refl, ◌∙◌, ap, ⊎_elim, arith}
use Rattle.std.proofs.lemmas.Bool.{cases_Bool}
use Rattle.std.proofs.lemmas.Bool.Decides.{nat_tests}
use Rattle.std.proofs.lemmas.Map.Made.{lookup-map_values}
use Rattle.std.specs.Map.{lookup, set_value}
use Rattle.std.specs.Option.{option_map, unwrap_or}
use Rattle.pg_slots.specs.Kept.{DropsRows, PutsRow, object_pages, object_room}
use Rattle.pg_slots.specs.Slots.{HeldRows, held_among, held_in}
use Rattle.pg_slots.specs.declared.slot_row.Held.{Held}
use Rattle.vm_base.specs.declared.ids.ObjectId.{ObjectId}
use Rattle.vm_base.specs.declared.ids.PageNo.{PageNo}

-- each object has what it had, but for one
abbrev pub Writes : {X : Type 0} → ℕ → Option X → List (ObjectId × X) → List (ObjectId × X) → Type 0
Writes object now old new = (o : ℕ) → lookup (λ id. o == id.0) new ≡ (if object == o then now else lookup (λ id. o == id.0) old)

module _ {X Y : Type 0} (f : X → Y) where
  -- an object with what is seen of it
  abbrev pub seen : ObjectId × X → ObjectId × Y
  seen e = (e.0, f e.1)

  -- the same of what is seen of each object
  pub writes_seen : (object : ℕ) (now : Option X) (old new : List (ObjectId × X)) → Writes object now old new
      → Writes object (option_map f now) (map seen old) (map seen new)
  writes_seen object now old new writes o =
      rw (lookup-map_values f (λ id. o == id.0) new, lookup-map_values f (λ id. o == id.0) old, writes o)
      (⊎_elim
      (λ (here : (object == o) ≡ true). rw here refl)
      (λ (apart : (object == o) ≡ false). rw apart refl)
      (cases_Bool (object == o)))

  -- a value that is seen as the old one leaves all as it is seen
  pub seen_kept : (test : ObjectId → Bool) (es : List (ObjectId × X)) (was now : X) → lookup test es ≡ Some was → f now ≡ f was
      → map seen (set_value test es now) ≡ map seen es
  seen_kept test [] was now is same = refl
  seen_kept test (e ∷ es) was now is same =
      ⊎_elim
      (λ (here : test e.0 ≡ true). rw here (let one : e.1 ≡ was = cc (rw here at is) in rw (same, ← one) refl))
      (λ (apart : test e.0 ≡ false). rw apart (ap (λ (rest : List (ObjectId × Y)). seen e ∷ rest) (seen_kept test es was now (rw apart at is) same)))
      (cases_Bool (test e.0))

-- what is held of a page, as the maps have it
pub held_seen : {S : Type 0} (es : List (ObjectId × IndexMap PageNo Held S)) (o p : ℕ)
    → held_among o p (map object_pages es) ≡ held_in p (option_map (λ m. m.entries) (lookup (λ id. o == id.0) es))
held_seen es o p = ap (held_in p) (lookup-map_values (λ m. m.entries) (λ id. o == id.0) es)

-- the room for an object's pages, as the maps have it
pub room_seen : {S : Type 0} (es : List (ObjectId × IndexMap PageNo Held S)) (object first : ℕ)
    → unwrap_or (lookup (λ id. object == id.0) (map object_room es)) first ≡ unwrap_or (option_map spare (lookup (λ id. object == id.0) es)) first
room_seen es object first = ap (λ (o : Option ℕ). unwrap_or o first) (lookup-map_values spare (λ id. object == id.0) es)

pub puts_row : (object page : ℕ) (held : Held) (old new : HeldRows) (pages : List (PageNo × Held)) → Writes object (Some pages) old new
    → ((p : ℕ) → lookup (λ n. p == n.0) pages ≡ (if page == p then Some held else held_among object p old)) → PutsRow object page held old new
puts_row object page held old new pages writes row = record {
  at = λ o p. ⊎_elim
      (λ (here : (object == o) ≡ true). let same : object ≡ o = grind (arith, nat_tests) in rw (writes o, here) (row p ∙ rw same refl))
      (λ (apart : (object == o) ≡ false). rw (writes o, apart) refl)
      (cases_Bool (object == o));
}

pub drops_rows : (object : ℕ) (old new : HeldRows) → Writes object None old new → DropsRows object old new
drops_rows object old new writes = record {
  at = λ o p. ⊎_elim
      (λ (here : (object == o) ≡ true). rw (writes o, here) refl)
      (λ (apart : (object == o) ≡ false). rw (writes o, apart) refl)
      (cases_Bool (object == o));
}

pub some_of : {A : Type 0} (o : Option A) (x : A) → o ≡ Some x → IsSome o
some_of o x is = rw is refl

-- the last entry is found where no other has its key
pub found_last : {K X : Type 0} (test : K → Bool) (es : List (K × X)) (k : K) (x : X) → lookup test es ≡ None → test k ≡ true
    → lookup test (es ++ (k, x) ∷ []) ≡ Some x
found_last test [] k x none is = rw is refl
found_last test (e ∷ es) k x none is =
    ⊎_elim
    (λ (here : test e.0 ≡ true). absurd (cc (rw here at none)))
    (λ (apart : test e.0 ≡ false). rw apart (found_last test es k x (rw apart at none) is))
    (cases_Bool (test e.0))
