-- A walk down a chain, place by place.
use Rattle.std.proofs.Common.{◌≡◌, ℕ, zero, suc, ◌<◌, refl, sym, subst, None, arith}
use Rattle.vm_base.specs.declared.ids.PageKey.{PageKey}
use Rattle.vm_fault.specs.Walks.{Finds, IsUnder, PassesOver, WalksTo}
use Rattle.vm_parts.specs.declared.parts.HostParts.{HostParts}
use Rattle.vm_resident.specs.Resident.{row_at}
use Rattle.vm_resident.specs.declared.page_row.PageRow.{PageRow}
use Rattle.vm_shadow.specs.Chains.{ChainTable}

-- one place more, at the end
pub walks_more : (parts : HostParts) (chains : ChainTable) (n : ℕ) (from to next : PageKey) → WalksTo parts chains n from to → PassesOver parts to
    → IsUnder chains to next → WalksTo parts chains (suc n) from next
walks_more parts chains zero from to next walks passes under = rw walks (passes, (next, under, refl))
walks_more parts chains (suc n) from to next walks passes under =
    (walks.0, (walks.1.0, walks.1.1, walks_more parts chains n walks.1.0 to next walks.1.2 passes under))

-- what is found further down isn't at the top
pub found_below : (parts : HostParts) (chains : ChainTable) (n : ℕ) (top key : PageKey) (row : PageRow) → Finds parts chains n top key row → 0 < n
    → row_at parts.resident top.object.0 top.page.0 ≡ None
found_below parts chains zero top key row finds more = absurd (omega arith)
found_below parts chains (suc n) top key row finds more = finds.walks.0.absent

-- what is nowhere isn't at the top
pub passes_top : (parts : HostParts) (chains : ChainTable) (n : ℕ) (top last : PageKey) → WalksTo parts chains n top last → PassesOver parts last
    → PassesOver parts top
passes_top parts chains zero top last walks passes = subst (PassesOver parts) (sym walks) passes
passes_top parts chains (suc n) top last walks passes = walks.0

pub sunk : (parts : HostParts) (chains : ChainTable) (n : ℕ) (top last : PageKey) → WalksTo parts chains n top last → PassesOver parts last
    → row_at parts.resident top.object.0 top.page.0 ≡ None
sunk parts chains n top last walks passes = (passes_top parts chains n top last walks passes).absent

-- what is found without a step down is found at the top
pub found_top : (parts : HostParts) (chains : ChainTable) (n : ℕ) (top key : PageKey) (row : PageRow) → n ≡ 0 → Finds parts chains n top key row
    → Finds parts chains 0 top top row
found_top parts chains zero top key row none finds = subst (λ (z : PageKey). Finds parts chains 0 top z row) (sym finds.walks) finds
found_top parts chains (suc n) top key row none finds = absurd (omega (arith, none))
