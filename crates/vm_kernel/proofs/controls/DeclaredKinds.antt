-- No declared object is of temporary memory, and none has more pages than an object may have; its control lives where a page of it is here or asked.
use Rattle.std.proofs.lemmas.Option.{slice_get_cases}
use Rattle.std.specs.Prelude.{◌≢◌}
use Rattle.vm_abroad.proofs.Regions.{kind_cases}
use Rattle.vm_base.proofs.Lists.{all_reversed}
use Rattle.vm_base.specs.declared.ids.ObjectKind.{ObjectKind}
use Rattle.vm_base.specs.declared.ids.ObjectKind.TheVariants as kind
use Rattle.vm_kernel.proofs.Common.{ChainTable, Declared, HasKinds, Header, IsOfKind, IsRanged, IsReferred, ObjectRow, ObjectTable, PageRow, Some, Temp, ap}
use Rattle.vm_kernel.proofs.Common.{arith, false, has_pager, if◌then◌else◌, inl, inr, length-reverse, named, nat_lt, nat_tests, object_at, refl, reverse}
use Rattle.vm_kernel.proofs.Common.{some_is, subst, sym, true, unlocked, ℕ, ◌<◌, ◌∙◌, ◌≡◌, ◌≤◌}
use Rattle.vm_legal.specs.Outside.{kind_in, kind_of}
use Rattle.vm_base.specs.Limits.{most_pages}
use Rattle.vm_model.specs.Named.{declared, declared_pages, pages_kept}
use Rattle.vm_objects.specs.declared.row.PagerState.TheVariants as state
use Rattle.vm_state.specs.References.{MayLock, is_live_in, is_temporary_in, is_temporary_kind}

pub declared_kind : (header : Header) (o : ℕ) → IsRanged header → o < named header → kind_of header o ≢ Temp
declared_kind header o ranged less is = elim ((slice_get_cases (reverse header.objects.items) o).1) [
  | inl some ↦
      let kind : some.0.kind ≡ Temp = sym (ap (λ b. if b then kind_in (declared header o) else Temp) test ∙ ap kind_in some.2) ∙ is in
      subst (λ (z : Declared). z.kind ≢ Temp) some.3 (all_reversed (λ (object : Declared). object.kind ≢ Temp) header.objects.items ranged.kinds o some.0
      some.1) kind
  | inr none ↦ let past = none.0 in let many = length-reverse header.objects.items in omega (arith, less, past, many)
]
  where
    test : nat_lt o (named header) ≡ true
    test = grind (arith, nat_tests, less)

pub declared_few : (header : Header) (o : ℕ) → IsRanged header → o < named header → declared_pages header o ≤ most_pages
declared_few header o ranged less = elim ((slice_get_cases (reverse header.objects.items) o).1) [
  | inl some ↦
      subst (λ (z : ℕ). z ≤ most_pages) (sym (ap pages_kept some.2)) (subst (λ (z : Declared). z.pages ≤ most_pages) some.3
      (all_reversed (λ (object : Declared). object.pages ≤ most_pages) header.objects.items ranged.pages o some.0 some.1))
  | inr none ↦ let past = none.0 in let many = length-reverse header.objects.items in absurd (omega (arith, less, past, many))
]

-- an object of temporary memory isn't declared
temporary_kind : (k : ObjectKind) → is_temporary_kind k ≡ true → k ≡ Temp
temporary_kind kind.Temp is = refl
temporary_kind kind.File is = absurd (let bad : false ≡ true = is in cc)
temporary_kind kind.Shared is = absurd (let bad : false ≡ true = is in cc)
temporary_kind kind.Wild is = absurd (let bad : false ≡ true = is in cc)

-- a page that is here or asked is one of an object whose control lives, where that is declared
pub declared_serves : (header : Header) (os : ObjectTable) (o : ℕ) (known : ObjectRow) (page : PageRow) → IsRanged header → object_at os o ≡ Some known
    → IsOfKind header o known → o < named header → MayLock os o page → known.live ≡ true
declared_serves header os o known page ranged found is declared may = elim may [
  | inl free ↦ absurd (declared_kind header o ranged declared (sym (is.declared declared).kind
      ∙ temporary_kind known.kind (sym (ap is_temporary_in found) ∙ free.1)))
  | inr lives ↦ sym (ap is_live_in found) ∙ lives
]

-- so it is temporary where its pager wasn't told of it
pub untold_temporary : (header : Header) (os : ObjectTable) (o : ℕ) (known : ObjectRow) (page : PageRow) → IsRanged header → object_at os o ≡ Some known
    → IsOfKind header o known → MayLock os o page → known.state ≡ state.Without → named header ≤ o
untold_temporary header os o known page ranged found is may without = elim (kind_cases header o) [
  | inl declared ↦
      let bad : true ≡ false = sym (declared_serves header os o known page ranged found is declared may) ∙ (is.lives ∙ ap has_pager without) in
      absurd (cc)
  | inr temporary ↦ temporary
]

-- a page of a temporary object may be unlocked
pub temporary_free : {header : Header} {os : ObjectTable} {cs : ChainTable} (o : ℕ) (page row : PageRow) → HasKinds header os cs → named header ≤ o
    → IsReferred os o → page.lock ≡ unlocked → Some page ≡ Some row → MayLock os o row
temporary_free o page row kinds temporary is free same =
    inl (
      ap (λ (z : PageRow). z.lock) (sym (some_is page row same)) ∙ free,
      ap is_temporary_in is.known ∙ ap is_temporary_kind ((kinds.kinds o is.row is.known).temporary temporary).kind,
    )
