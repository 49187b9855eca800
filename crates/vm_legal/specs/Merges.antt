-- Which objects are merged, and when.
use Rattle.std.specs.Prelude.{ℕ, ◌≤◌, ◌≡◌, ◌≢◌, List, true, false, Some}
use Rattle.vm_model.specs.declared.event.Event.{Event}
use Rattle.vm_model.specs.declared.script.Header.{Header}
use Rattle.vm_model.specs.Controls.{last_control}
use Rattle.vm_model.specs.Homes.{object_home}
use Rattle.vm_model.specs.Named.{named}
use Rattle.vm_model.specs.Regions.{region_of, backing_of, is_copy}
use Rattle.vm_legal.specs.Swept.{IsSwept}
use Rattle.vm_legal.specs.Used.{in_use}
use Rattle.vm_legal.specs.Walks.{Reach}

-- A temporary object whose one reference is an object that stands on it, where neither ever had a control: no region in use has it as its top,
-- and no other object that is reached stands on it. It is no copy of a file.
pub record IsPair (header : Header) (host upper lower : ℕ) (past : List Event) : Type 0 where
  pub temporary : named header ≤ lower
  pub plain : is_copy lower past ≡ false
  pub reached : Reach header host upper past
  pub backed : (backing_of header upper past).backed ≡ true
  pub under : (backing_of header upper past).under ≡ lower
  pub no_top : (region : ℕ) → named header ≤ region → in_use header host region past ≡ true → (region_of header region past).top ≢ lower
  pub sole : (other : ℕ) → Reach header host other past → (backing_of header other past).backed ≡ true → (backing_of header other past).under ≡ lower
      → other ≡ upper
  pub upper_never : last_control host upper past ≡ 0
  pub lower_never : last_control host lower past ≡ 0

-- no object of the host can be merged
abbrev pub IsThin : Header → ℕ → List Event → Type 0
IsThin header host past = (upper lower : ℕ) → IsPair header host upper lower past → ⊥

-- a pair of the upper's host becomes one object, when nothing is left there that was to end; no pair of that host has a smaller lower object
pub record Merges (header : Header) (upper lower : ℕ) (past : List Event) : Type 0 where
  pub host : ℕ
  pub home : object_home upper past ≡ Some host
  pub pair : IsPair header host upper lower past
  pub least : (other_upper other_lower : ℕ) → IsPair header host other_upper other_lower past → lower ≤ other_lower
  pub swept : IsSwept header host past
