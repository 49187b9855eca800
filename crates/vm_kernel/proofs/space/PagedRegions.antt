-- The kinds of regions by a kernel's declarations are the header's, and so are the tests that ask for them.
use Rattle.vm_kernel.proofs.Common.{Bool, Entry, Header, List, Some, [], ap, meets_range, named, nat_lt, refl, ℕ, ◌&&◌}
use Rattle.vm_kernel.proofs.Common.{◌||◌, ◌∙◌, ◌∷◌, ◌≡◌}
use Rattle.std.specs.Prelude.{not}
use Rattle.vm_kernel.specs.Refusing as kernel
use Rattle.vm_legal.proofs.Files.{file_kind}
use Rattle.vm_legal.specs.Licences.{is_paged}
use Rattle.vm_legal.specs.Outside.{is_file, is_file_kind, is_wild}
use Rattle.vm_legal.specs.Refusal as refusing

pub file_among : (header : Header) (r : ℕ) → is_file_kind (kernel.kind_among header.objects.items r) ≡ is_file header r
file_among header r = file_kind header r

pub paged_among : (header : Header) (r : ℕ) → kernel.is_paged header.objects.items r ≡ is_paged header r
paged_among header r = ap (λ b. not (nat_lt r (named header)) || b) (file_among header r)

-- whether nothing is copied from an entry on the region
pub uncopied_among : (header : Header) (own : Bool) (row : Entry)
    → kernel.is_uncopied header.objects.items own row.region.0 ≡ refusing.is_uncopied header own (Some row)
uncopied_among header own row = ap (λ b. is_wild header row.region.0 || (not b && not own)) (paged_among header row.region.0)

-- whether an entry that no fork may copy has an address of a range
pub meets_among : (header : Header) (address bytes : ℕ) (rows : List Entry)
    → kernel.meets_uncopied header.objects.items address bytes rows ≡ refusing.meets_uncopied header address bytes rows
meets_among header address bytes [] = refl
meets_among header address bytes (row ∷ rows) =
    ap (λ b. (not b && meets_range address bytes (row ∷ [])) || kernel.meets_uncopied header.objects.items address bytes rows)
    (paged_among header row.region.0)
    ∙ ap (λ b. (not (is_paged header row.region.0) && meets_range address bytes (row ∷ [])) || b) (meets_among header address bytes rows)
