-- What holds an object on a host, and that nothing is left of one that nothing holds.
use Rattle.std.specs.Prelude.{ℕ, ◌<◌, ◌≤◌, ◌≡◌, List, true, false, None}
use Rattle.vm_model.specs.declared.event.Event.{Event}
use Rattle.vm_model.specs.declared.script.Header.{Header}
use Rattle.vm_model.specs.Controls.{live_control}
use Rattle.vm_model.specs.Named.{named}
use Rattle.vm_model.specs.Regions.{backing_of, region_of}
use Rattle.vm_model.specs.Tasks.{entries_of, has_entry}
use Rattle.vm_legal.specs.Cached.{is_cached}
use Rattle.vm_legal.specs.Living.{lives_on}
use Rattle.vm_legal.specs.Used.{in_use}
use Rattle.vm_legal.specs.Walks.{Below, Reach, page_on}

-- no task of the host has an entry on the region
abbrev pub IsUnmapped : Header → ℕ → ℕ → List Event → Type 0
IsUnmapped header host region past = (task : ℕ) → lives_on host task past ≡ true → has_entry region (entries_of header.size task past) ≡ false

-- no temporary region that is in use on the host leads to the object
abbrev pub IsUnreached : Header → ℕ → ℕ → List Event → Type 0
IsUnreached header host object past =
    (region depth : ℕ) → named header ≤ region → in_use header host region past ≡ true
    → Below (λ k. backing_of header k past) depth (region_of header region past).top object → ⊥

-- nothing holds a declared object on the host: no entry does, no pager that lets it stay, and no copy of it
pub record IsUnheld (header : Header) (host object : ℕ) (past : List Event) : Type 0 where
  pub unmapped : IsUnmapped header host object past
  pub uncached : is_cached host object past ≡ false
  pub unreached : IsUnreached header host object past

-- no temporary object to which no region leads has a page or a live control left on the host, and no declared one that nothing holds there
pub record IsSwept (header : Header) (host : ℕ) (past : List Event) : Type 0 where
  pub pages : (object page : ℕ) → named header ≤ object → (Reach header host object past → ⊥) → (page_on header host object page past).here ≡ false
  pub controls : (object : ℕ) → named header ≤ object → (Reach header host object past → ⊥) → live_control host object past ≡ None
  pub declared_pages : (object page : ℕ) → object < named header → IsUnheld header host object past → (page_on header host object page past).here ≡ false
  pub declared_controls : (object : ℕ) → object < named header → IsUnheld header host object past → live_control host object past ≡ None
