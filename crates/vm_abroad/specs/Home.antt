-- What holds of the homes of regions and objects.
use Rattle.std.specs.Prelude.{ℕ, Bool, ◌≡◌, ◌≤◌, ◌<◌, ◌⊎◌, true, false, List, Option, Some, None}
use Rattle.vm_model.specs.declared.event.Event.{Event}
use Rattle.vm_model.specs.declared.script.Header.{Header}
use Rattle.vm_model.specs.Homes.{home_of, region_for}
use Rattle.vm_model.specs.Named.{declared_pages, named}
use Rattle.vm_model.specs.Regions.{Backing, Region, backing_of, is_copy, newest_copy, next_object, next_region, region_of}
use Rattle.vm_model.specs.Waiting.{Target, copy_target}
use Rattle.vm_legal.specs.Outside.{is_file}
use Rattle.vm_legal.specs.Used.{in_use}

-- the newest copy of a file was made for the file, and stands on it
pub record IsCopyOf (header : Header) (made_for : ℕ → Option ℕ) (backing_from : ℕ → Backing) (source copy : ℕ) : Type 0 where
  pub file : is_file header source ≡ true
  pub made : made_for copy ≡ Some source
  pub stands : backing_from copy ≡ record { backed = true; under = source; shift = 0 }

-- an object stands on a declared one or on a copy of a file
pub record IsOverCopy (header : Header) (copy_from : ℕ → Bool) (backing : Backing) : Type 0 where
  pub backed : backing.backed ≡ true
  pub over : (backing.under < named header) ⊎ (copy_from backing.under ≡ true)

-- No region has a home that wasn't made, and no object has a region; and a region that has a home is in use nowhere else. A file's region is in use everywhere
-- until it has a home, and then there. The declared regions and objects are as they were declared, no slow copy fills one, and what isn't made yet
-- stands on nothing; nor does what a slow copy fills. A file's newest copy stands on it, and each copy on a declared object or another copy.
pub record AreHomes (header : Header) (regions_made objects_made : ℕ) (home_from made_for : ℕ → Option ℕ) (used_at : ℕ → ℕ → Bool) (region_from : ℕ → Region)
    (backing_from : ℕ → Backing) (target_from : ℕ → Option Target) (newest_from : ℕ → Option ℕ) (copy_from : ℕ → Bool) : Type 0 where
  pub regions : (r : ℕ) → regions_made ≤ r → home_from r ≡ None
  pub objects : (o : ℕ) → objects_made ≤ o → made_for o ≡ None
  pub stay : (g h r : ℕ) → used_at g r ≡ true → home_from r ≡ Some h → g ≡ h
  pub files : (r h : ℕ) → is_file header r ≡ true → (home_from r ≡ None) ⊎ (home_from r ≡ Some h) → used_at h r ≡ true
  pub whole : (r : ℕ) → r < named header → region_from r ≡ record { mark = false; top = r; shift = 0; pages = declared_pages header r }
  pub bare : (o : ℕ) → o < named header → (backing_from o).backed ≡ false
  pub unmade : (o : ℕ) → objects_made ≤ o → (backing_from o).backed ≡ false
  pub fills : (task : ℕ) (target : Target) → target_from task ≡ Some target → named header ≤ target.region
  pub target_made : (task : ℕ) (target : Target) → target_from task ≡ Some target → target.object < objects_made
  pub target_bare : (task : ℕ) (target : Target) → target_from task ≡ Some target → (backing_from target.object).backed ≡ false
  pub copies : (file copy : ℕ) → newest_from file ≡ Some copy → IsCopyOf header made_for backing_from file copy
  pub lined : (copy : ℕ) → copy_from copy ≡ true → IsOverCopy header copy_from (backing_from copy)

-- so it is with those of a history
abbrev pub HaveHomes : Header → List Event → Type 0
HaveHomes header past =
    AreHomes header (next_region header past) (next_object header past) (λ r. home_of r past) (λ o. region_for o past) (λ h r. in_use header h r past)
    (λ r. region_of header r past) (λ o. backing_of header o past) (λ task. copy_target task past) (λ file. newest_copy file past)
    (λ o. is_copy o past)
