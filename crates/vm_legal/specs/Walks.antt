-- Chains, and the walk down a chain. What a host has of the places, and what stands on what, come in as functions.
use Rattle.std.specs.Prelude.{ℕ, zero, suc, ◌+◌, ◌≡◌, ◌&&◌, not, Bool, true, false, List, is_some}
use Rattle.vm_model.specs.declared.event.Event.{Event}
use Rattle.vm_model.specs.declared.script.Header.{Header}
use Rattle.vm_model.specs.Controls.{live_control}
use Rattle.vm_model.specs.Local.{Local, is_known_absent, local}
use Rattle.vm_model.specs.Regions.{Region, Backing, region_of, backing_of}
use Rattle.vm_legal.specs.Used.{in_use}

-- u is the n-th object below o
abbrev pub Below : (ℕ → Backing) → ℕ → ℕ → ℕ → Type 0
Below backings zero o u = o ≡ u
Below backings (suc n) o u = ((backings o).backed ≡ true) × Below backings n (backings o).under u

-- in the chain of a region that is in use
abbrev pub Reaches : (ℕ → Bool) → (ℕ → Region) → (ℕ → Backing) → ℕ → Type 0
Reaches used regions backings o = (r : ℕ) × (n : ℕ) × (used r ≡ true) × Below backings n (regions r).top o

-- (l, lp) is the n-th place of the chain from (o, p)
abbrev pub Leads : (ℕ → Backing) → ℕ → ℕ → ℕ → ℕ → ℕ → Type 0
Leads backings zero o p l lp = (o ≡ l) × (p ≡ lp)
Leads backings (suc n) o p l lp = ((backings o).backed ≡ true) × Leads backings n (backings o).under ((backings o).shift + p) l lp

-- what a walk sees of a place: the host's page, and whether its pager may have one
pub record Sight : Type 0 where
  pub page : Local
  pub may_have : Bool

-- the walk passes over a place: the page is neither here nor asked, and its pager has none
pub record Passes (seen : Sight) : Type 0 where
  pub away : seen.page.here ≡ false
  pub unasked : seen.page.asked ≡ false
  pub without : seen.may_have ≡ false

-- (l, lp) is the n-th place of the chain from (o, p), and the walk passes over all before it
abbrev pub Walks : (ℕ → ℕ → Sight) → (ℕ → Backing) → ℕ → ℕ → ℕ → ℕ → ℕ → Type 0
Walks sights backings zero o p l lp = (o ≡ l) × (p ≡ lp)
Walks sights backings (suc n) o p l lp =
    Passes (sights o p) × ((backings o).backed ≡ true) × Walks sights backings n (backings o).under ((backings o).shift + p) l lp

-- the walk from (o, p) passes over n places more and then over the last: it finds the page nowhere
abbrev pub Sinks : (ℕ → ℕ → Sight) → (ℕ → Backing) → ℕ → ℕ → ℕ → Type 0
Sinks sights backings zero o p = Passes (sights o p) × ((backings o).backed ≡ false)
Sinks sights backings (suc n) o p = Passes (sights o p) × ((backings o).backed ≡ true) × Sinks sights backings n (backings o).under ((backings o).shift + p)

-- the top place of a page of a region
pub record IsTop (region : Region) (index o p : ℕ) : Type 0 where
  pub object : region.top ≡ o
  pub page : region.shift + index ≡ p

-- what the host has of the page
abbrev pub page_on : Header → ℕ → ℕ → ℕ → List Event → Local
page_on header host o p past = local header host (record { object = o; page = p }) past

-- what a walk sees of it: a pager may have a page that is not known absent, where the host has a live control
abbrev pub sight : Header → ℕ → ℕ → ℕ → List Event → Sight
sight header host o p past =
    record {
      page = page_on header host o p past;
      may_have = is_some (live_control host o past) && not
          (is_known_absent header (record { object = o; page = p }) (page_on header host o p past));
    }

-- in the chain of a region that is in use on the host
abbrev pub Reach : Header → ℕ → ℕ → List Event → Type 0
Reach header host object past = Reaches (λ r. in_use header host r past) (λ r. region_of header r past) (λ o. backing_of header o past) object
