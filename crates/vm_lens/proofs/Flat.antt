-- Where each declared object is a file or a shared one, all memory is flat.
use Rattle.std.proofs.Common.{Bool, List, None, Option, Some, ap, arith, false, inl, inr, refl, reverse, subst, sym, true, ℕ, ◌<◌, ◌∙◌, ◌≡◌}
use Rattle.std.specs.Prelude.{if◌then◌else◌, ◌&&◌, ◌||◌, ◌≢◌, nat_lt, not}
use Rattle.std.proofs.lemmas.List.{length-reverse}
use Rattle.std.proofs.lemmas.Bool.Decides.{nat_tests}
use Rattle.std.proofs.lemmas.Option.{slice_get_cases}
use Rattle.vm_base.proofs.Lists.{all_reversed}
use Rattle.vm_base.specs.declared.ids.ObjectKind.{ObjectKind}
use Rattle.vm_base.specs.declared.ids.ObjectKind.TheVariants.{Temp, File, Shared, Wild}
use Rattle.vm_model.specs.Named.{declared, named}
use Rattle.vm_model.specs.Regions.{comes_from}
use Rattle.vm_model.specs.declared.event.Event.{Event}
use Rattle.vm_model.specs.declared.script.Declared.{Declared}
use Rattle.vm_model.specs.declared.script.Header.{Header}
use Rattle.vm_legal.specs.Outside.{is_file_kept, is_file_kind, is_from_told, is_shared_kind, is_wild, is_wild_kind, kind_in}
use Rattle.vm_free.specs.Outcomes.{AllFlat, NothingIsSaid}
use Rattle.vm_text.specs.Script.{DeclaresNoTemporary}
use Rattle.vm_lens.specs.Exploring.{fresh}

kept_kind : (kind : ObjectKind) → kind ≢ Temp → is_wild_kind kind ≡ false → (is_file_kind kind || is_shared_kind kind) ≡ true
kept_kind Temp made tame = absurd (made refl)
kept_kind File made tame = refl
kept_kind Shared made tame = refl
kept_kind Wild made tame = absurd (let bad : true ≡ false = tame in cc)

kept : (row : Option Declared) (object : Declared) → row ≡ Some object → object.kind ≢ Temp → is_wild_kind (kind_in row) ≡ false
    → (is_file_kept row || is_shared_kind (kind_in row)) ≡ true
kept None object is made tame = absurd (let bad : None ≡ Some object = is in cc)
kept (Some found) object is made tame =
    let same : found ≡ object = cc in
    kept_kind found.kind (subst (λ (z : Declared). z.kind ≢ Temp) (sym same) made) tame

flat_at : (below told : Bool) (row : Option Declared) → told ≡ true → (below ≡ true → (is_file_kept row || is_shared_kind (kind_in row)) ≡ true)
    → (((not below && (true && told)) || (below && is_file_kept row)) || is_shared_kind (if below then kind_in row else Temp)) ≡ true
flat_at true told row tells is = is refl
flat_at false true row tells is = refl
flat_at false false row tells is = absurd (let bad : false ≡ true = tells in cc)

from_told : (header : Header) (from : Option ℕ) → is_from_told header (fresh header) from ≡ true
from_told header None = refl
from_told header (Some file) = refl

below_is : (a b : ℕ) → nat_lt a b ≡ true → a < b
below_is a b is = grind (arith, nat_tests)

declared_is_flat : (header : Header) (region : ℕ) → DeclaresNoTemporary header → is_wild header region ≡ false → nat_lt region (named header) ≡ true
    → (is_file_kept (declared header region) || is_shared_kind (kind_in (declared header region))) ≡ true
declared_is_flat header region made tame below = elim ((slice_get_cases (reverse header.objects.items) region).1) [
  | inl some ↦
      let here : is_wild_kind (kind_in (declared header region)) ≡ false = sym (ap (λ b. is_wild_kind (if b then kind_in (declared header region) else Temp))
      below) ∙ tame in
      let kind = subst (λ (z : Declared). z.kind ≢ Temp) some.3 (all_reversed (λ (object : Declared). object.kind ≢ Temp) header.objects.items made region
      some.0 some.1) in
      kept (declared header region) some.0 some.2 kind here
  | inr none ↦ let past =
      none.0 in let many = length-reverse header.objects.items in let less = below_is region (named header) below in absurd (omega (arith, less, past, many))
]

pub all_flat : (header : Header) (start : List Event) → DeclaresNoTemporary header → ((object : ℕ) → is_wild header object ≡ false)
    → AllFlat header (fresh header) start
all_flat header start made tame t address entry found =
    flat_at (nat_lt entry.region.0 (named header)) (is_from_told header (fresh header) (comes_from entry.region.0 start)) (declared header entry.region.0)
    (from_told header (comes_from entry.region.0 start)) (declared_is_flat header entry.region.0 made (tame entry.region.0))

pub nothing_said : (header : Header) → NothingIsSaid header (fresh header)
nothing_said header object = refl
