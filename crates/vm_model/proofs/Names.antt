-- Declared objects: what holds of all holds of each number, files are none that is temporary, and each name is the name of one.
use Rattle.std.proofs.Common.{◌≡◌, ◌≢◌, ℕ, ◌-◌, ◌<◌, ◌≤◌, ◌⊎◌, inl, inr, ◌∙◌, List, get_or, reverse, Option, Some, ap, sym, arith}
use Rattle.std.proofs.lemmas.Bool.{cases_lt}
use Rattle.std.proofs.lemmas.List.{length-reverse, get_or-reverse}
use Rattle.std.proofs.lemmas.Option.{slice_get-get_or, slice_get_cases}
use Rattle.std.specs.List.{All}
use Rattle.vm_base.specs.declared.ids.ObjectKind.{ObjectKind}
use Rattle.vm_base.specs.declared.ids.ObjectKind.TheVariants as kinds
use Rattle.vm_model.specs.declared.script.Declared.{Declared}
use Rattle.vm_model.specs.declared.script.Header.{Header}
use Rattle.vm_model.specs.Named.{AreNamedOnce, declared, named}

-- the place of an object among the declarations, which have the newest first
abbrev place : Header → ℕ → ℕ
place header o = named header - 1 - o

stands_at : (header : Header) (o : ℕ) (d : Declared) → o < named header → declared header o ≡ Some (get_or header.objects.items (place header o) d)
stands_at header o d less =
    slice_get-get_or (reverse header.objects.items) o d (omega (arith, less, length-reverse header.objects.items))
    ∙ ap Some (get_or-reverse header.objects.items o d less)

some_declared : (header : Header) (o : ℕ) → o < named header → Declared
some_declared header o less = elim (slice_get_cases (reverse header.objects.items) o).1 [
  | inl found ↦ found.0
  | inr none ↦ absurd (omega (arith, less, none.0, length-reverse header.objects.items))
]

-- what holds of all declarations holds of the object that has a number
pub each_declared : (P : Declared → Type 0) (header : Header) (o : ℕ) → All P header.objects.items → o < named header → (object : Declared)
    × (declared header o ≡ Some object) × P object
each_declared P header o all less =
    let some = some_declared header o less in
    (get_or header.objects.items (place header o) some, stands_at header o some less, all (place header o) some (omega (arith, less)))

-- two objects that have one name are one, by whichever function gives an object's name
pub named_once : (header : Header) (name : Option Declared → List ℕ) → ((object : Declared) → name (Some object) ≡ object.name)
    → AreNamedOnce header.objects.items
    → (one other : ℕ) → one < named header → other < named header → name (declared header one) ≡ name (declared header other) → one ≡ other
named_once header name gives once one other less below same = by_order (cases_lt one other) (cases_lt other one)
  where
    some : Declared
    some = some_declared header one less

    apart : (a b : ℕ) → a < b → b < named header → name (declared header a) ≢ name (declared header b)
    apart a b before within = λ is.
        let first = ap name (stands_at header a some (omega (arith, before, within))) ∙ gives (get_or header.objects.items (place header a) some) in
        let second = ap name (stands_at header b some within) ∙ gives (get_or header.objects.items (place header b) some) in
        once (place header b) (place header a) some (omega (arith, before, within)) (omega (arith, before, within)) (sym second ∙ sym is ∙ first)

    by_order : (one < other) ⊎ (other ≤ one) → (other < one) ⊎ (one ≤ other) → one ≡ other
    by_order (inl first) last = absurd (apart one other first below same)
    by_order (inr most) (inl first) = absurd (apart other one first less (sym same))
    by_order (inr most) (inr least) = omega (arith, most, least)
