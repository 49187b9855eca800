-- What the entries of a table of shadows weigh in all after a write.
use Rattle.std.proofs.Common.{◌≡◌, ◌∙◌, sym, ap, ℕ, ◌+◌, ◌==◌, Bool, true, false, List, [], ◌∷◌, ◌++◌, Option, Some, None, if◌then◌else◌, get_or, position}
use Rattle.std.proofs.Common.{arith}
use Rattle.std.proofs.Common.{refl}
use Rattle.std.proofs.lemmas.Bool.Decides.{nat_tests}
use Rattle.std.proofs.lemmas.List.Sums.{sum_by-cons, sum_by-swap_remove, sum_by_push}
use Rattle.std.proofs.lemmas.Option.{none-some, same_Some, slice_get-get_or, slice_get-map}
use Rattle.std.specs.List.{slice_get, sum_by, swap_remove}
use Rattle.std.specs.Map.{keys_of, lookup, lookup_key, set_value}
use Rattle.std.specs.Option.{option_map}
use Rattle.indexmap.proofs.MapLemmas.{Found-position, Missing-position, absent_from_lookup, insert_entry-absent, swap_remove_entry-found}
use Rattle.indexmap.specs.IndexMap.{insert_entry, swap_remove_entry}
use Rattle.vm_base.specs.declared.ids.ObjectId.{ObjectId}
use Rattle.vm_shadow.specs.declared.shadow_row.ShadowRow.{ShadowRow}

abbrev pub same_object : ObjectId → ObjectId → Bool
same_object id other = id.0 == other.0

-- an entry whose key passes is that of the object
key_is : (object id : ObjectId) → same_object object id ≡ true → id ≡ object
key_is object id is = let same : id.0 ≡ object.0 = grind (arith, nat_tests) in ap numbered same
  where
    numbered : ℕ → ObjectId
    numbered n = record { 0 = n }

module _ (weight : ObjectId × ShadowRow → ℕ) where
  pub weighed_made : (old new : List (ObjectId × ShadowRow)) (object : ObjectId) (row : ShadowRow) → lookup (same_object object) old ≡ None
      → new ≡ insert_entry same_object old object row → sum_by weight new ≡ sum_by weight old + weight (object, row)
  weighed_made old new object row none is =
      let last : new ≡ old ++ (object, row) ∷ [] = is ∙ insert_entry-absent same_object object row old (absent_from_lookup (same_object object) old none) in
      rw last (sum_by_push weight old (object, row))

  set_weighs : (rows : List (ObjectId × ShadowRow)) (object : ObjectId) (was row : ShadowRow) → lookup (same_object object) rows ≡ Some was
      → sum_by weight (set_value (same_object object) rows row) + weight (object, was) ≡ sum_by weight rows + weight (object, row)
  set_weighs [] object was row found = absurd (let bad : None ≡ Some was = found in cc)
  set_weighs (e ∷ es) object was row found = by (same_object object e.0) refl found (set_weighs es object was row)
    where
      by : (b : Bool) → same_object object e.0 ≡ b → (if b then Some e.1 else lookup (same_object object) es) ≡ Some was
          → (lookup (same_object object) es ≡ Some was
          → sum_by weight (set_value (same_object object) es row) + weight (object, was) ≡ sum_by weight es + weight (object, row))
          → sum_by weight (if b then (e.0, row) ∷ es else e ∷ set_value (same_object object) es row) + weight (object, was)
          ≡ sum_by weight (e ∷ es) + weight (object, row)
      by true is here later =
          let put = sum_by-cons weight (e.0, row) es in
          let had = sum_by-cons weight e es in
          let key = key_is object e.0 is in
          let one : weight (e.0, row) ≡ weight (object, row) = ap (λ (id : ObjectId). weight (id, row)) key in
          let two : weight e ≡ weight (object, was) = ap (λ (id : ObjectId). weight (id, e.1)) key
          ∙ ap (λ (z : ShadowRow). weight (object, z)) (same_Some e.1 was here) in
          omega (arith, put, had, one, two)
      by false is there later =
          let put = sum_by-cons weight e (set_value (same_object object) es row) in
          let had = sum_by-cons weight e es in
          omega (arith, put, had, later there)

  pub weighed_set : (old new : List (ObjectId × ShadowRow)) (object : ObjectId) (was row : ShadowRow) → lookup (same_object object) old ≡ Some was
      → new ≡ set_value (same_object object) old row → sum_by weight new + weight (object, was) ≡ sum_by weight old + weight (object, row)
  weighed_set old new object was row there is = rw is (set_weighs old object was row there)

  pub weighed_dropped : (old new : List (ObjectId × ShadowRow)) (object : ObjectId) (row : ShadowRow) → lookup (same_object object) old ≡ Some row
      → new ≡ swap_remove_entry (same_object object) old → sum_by weight new + weight (object, row) ≡ sum_by weight old
  weighed_dropped old new object row there is = by (position test (keys_of old)) refl
    where
      test : ObjectId → Bool
      test = same_object object

      passes : (es : List (ObjectId × ShadowRow)) (id : ObjectId) → lookup_key test es ≡ Some id → test id ≡ true
      passes [] id none = absurd (let bad : None ≡ Some id = none in cc)
      passes (e ∷ es) id found = first (test e.0) refl found (passes es id)
        where
          first : (b : Bool) → test e.0 ≡ b → (if b then Some e.0 else lookup_key test es) ≡ Some id → (lookup_key test es ≡ Some id → test id ≡ true)
              → test id ≡ true
          first true is here later = let same : e.0 ≡ id = same_Some e.0 id here in rw (← same) is
          first false is there later = later there

      by : (at : Option ℕ) → position test (keys_of old) ≡ at → sum_by weight new + weight (object, row) ≡ sum_by weight old
      by None none = absurd (none-some row (sym (Missing-position test old none).value ∙ there))
      by (Some i) at =
          let found = Found-position test old i at in
          let first : ObjectId × ShadowRow = (object, row) in
          let e : ObjectId × ShadowRow = get_or old i first in
          let its : slice_get old i ≡ Some e = slice_get-get_or old i first found.within in
          let value : e.1 ≡ row = same_Some e.1 row (sym (slice_get-map (λ (x : ObjectId × ShadowRow). x.1) old i
          ∙ ap (option_map (λ (x : ObjectId × ShadowRow). x.1)) its) ∙ (sym found.value ∙ there)) in
          let held : lookup_key test old ≡ Some e.0 = found.key ∙ (slice_get-map (λ (x : ObjectId × ShadowRow). x.0) old i
          ∙ ap (option_map (λ (x : ObjectId × ShadowRow). x.0)) its) in
          let key : e.0 ≡ object = key_is object e.0 (passes old e.0 held) in
          let left : new ≡ swap_remove old i first = is ∙ swap_remove_entry-found test old i first at in
          let sum = sum_by-swap_remove weight old i first found.within in
          let one : weight e ≡ weight (object, row) = ap (λ (id : ObjectId). weight (id, e.1)) key
          ∙ ap (λ (z : ShadowRow). weight (object, z)) value in
          rw left (omega (arith, sum, one))
