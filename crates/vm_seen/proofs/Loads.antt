-- One load or store that ended is put behind those that ended before.
use Rattle.std.proofs.Common.{◌≡◌, ℕ, ◌==◌, true, false, cond, List, [], ◌∷◌, ◌++◌, reverse, refl, ap, ◌∙◌, Some, append-nil}
use Rattle.std.proofs.lemmas.List.{reverse-append}
use Rattle.vm_seen.specs.declared.ends.Loaded.{Loaded}
use Rattle.vm_seen.specs.Ends.{values_of, with_load}

pub reverse_push : {A : Type 0} (xs : List A) (x : A) → reverse (xs ++ x ∷ []) ≡ x ∷ reverse xs
reverse_push xs x = reverse-append xs (x ∷ [])

values_append : (t : ℕ) (xs ys : List Loaded) → values_of t (xs ++ ys) ≡ values_of t xs ++ values_of t ys
values_append t [] ys = refl
values_append t (x ∷ xs) ys =
    let all = values_of t (xs ++ ys) in
    let some = values_of t xs in
    elim (x.task == t) as (λ b. cond b (x.value ∷ all) all ≡ cond b (x.value ∷ some) some ++ values_of t ys) [
      | true ↦ ap (λ z. x.value ∷ z) (values_append t xs ys)
      | false ↦ values_append t xs ys
    ]

pub values_push : (t : ℕ) (loads : List Loaded) (load : Loaded)
    → reverse (values_of t (loads ++ load ∷ [])) ≡ with_load t (Some load) (reverse (values_of t loads))
values_push t loads load =
    let values = values_of t loads in
    ap reverse (values_append t loads (load ∷ []))
    ∙ elim (load.task == t) as (λ b. reverse (values ++ cond b (load.value ∷ []) []) ≡ cond b (load.value ∷ reverse values) (reverse values)) [
      | true ↦ reverse_push values load.value
      | false ↦ ap reverse (append-nil values)
    ]
