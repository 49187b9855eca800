-- What the values of a table weigh in all after a write.
use Rattle.std.proofs.Common.{◌≡◌, ◌∙◌, sym, ap, ℕ, ◌+◌, Bool, List, [], ◌∷◌, ◌++◌, Option, Some, None, get_or, position, arith, refl}
use Rattle.std.proofs.lemmas.List.{get_or_default, map-append}
use Rattle.std.proofs.lemmas.List.Sorted.{IsPermutation-swap_remove}
use Rattle.std.proofs.lemmas.List.Sums.{sum_by-cons, sum_by_push}
use Rattle.std.proofs.lemmas.Map.Entries.{sum_by_values_permutation}
use Rattle.std.proofs.lemmas.Option.{none-some, same_Some, slice_get-get_or, slice_get-map}
use Rattle.std.specs.List.{slice_get, sum_by, swap_remove}
use Rattle.std.specs.Map.{keys_of, lookup, values_of}
use Rattle.std.specs.Option.{option_map}
use Rattle.indexmap.proofs.MapLemmas.{Found-position, Missing-position, absent_from_lookup, insert_entry-absent, swap_remove_entry-found}
use Rattle.indexmap.specs.IndexMap.{insert_entry, swap_remove_entry}

module _ {K V : Type 0} (same : K → K → Bool) (weight : V → ℕ) (old new : List (K × V)) (key : K) (row : V) where
  pub sum_made : lookup (same key) old ≡ None → new ≡ insert_entry same old key row → sum_by weight (values_of new) ≡ sum_by weight (values_of old) + weight row
  sum_made none is =
      let last : new ≡ old ++ (key, row) ∷ [] = is ∙ insert_entry-absent same key row old (absent_from_lookup (same key) old none) in
      rw last (rw (map-append (λ (e : K × V). e.1) old ((key, row) ∷ [])) (sum_by_push weight (values_of old) row))

  pub sum_dropped : lookup (same key) old ≡ Some row → new ≡ swap_remove_entry (same key) old
      → sum_by weight (values_of new) + weight row ≡ sum_by weight (values_of old)
  sum_dropped there is = by (position test (keys_of old)) refl
    where
      test : K → Bool
      test = same key

      by : (at : Option ℕ) → position test (keys_of old) ≡ at → sum_by weight (values_of new) + weight row ≡ sum_by weight (values_of old)
      by None none = absurd (none-some row (sym (Missing-position test old none).value ∙ there))
      by (Some i) at =
          let found = Found-position test old i at in
          let first : K × V = (key, row) in
          let e : K × V = get_or old i first in
          let its : slice_get old i ≡ Some e = slice_get-get_or old i first found.within in
          let value : e.1 ≡ row = same_Some e.1 row (sym (slice_get-map (λ (x : K × V). x.1) old i
          ∙ ap (option_map (λ (x : K × V). x.1)) its) ∙ (sym found.value ∙ there)) in
          let rest : List (K × V) = swap_remove old i e in
          let left : new ≡ rest = is ∙ swap_remove_entry-found test old i e at in
          let sum = sum_by_values_permutation weight old (e ∷ rest)
          (IsPermutation-swap_remove old i e found.within (get_or_default old i first e found.within)) in
          rw left (omega (arith, sum, sum_by-cons weight e.1 (values_of rest), ap weight value))
