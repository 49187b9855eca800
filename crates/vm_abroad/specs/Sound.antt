-- Where regions are in use, and what the tables of a host lead to.
use Rattle.std.specs.Prelude.{ℕ, ◌<◌, ◌≤◌, ◌≡◌, ◌⊎◌, ◌||◌, Bool, true, false, List, [], ◌∷◌, Some}
use Rattle.vm_model.specs.declared.event.Event.{Event}
use Rattle.vm_model.specs.declared.script.Header.{Header}
use Rattle.vm_model.specs.Homes.{home_of, object_home}
use Rattle.vm_model.specs.Local.{is_on}
use Rattle.vm_model.specs.Named.{named}
use Rattle.vm_model.specs.Regions.{backing_of, next_object, next_region, region_of}
use Rattle.vm_model.specs.Rows.{AllRows}
use Rattle.vm_model.specs.Tasks.{entries_of, has_entry, host_of}
use Rattle.vm_model.specs.Waiting.{copy_target, fills, waiting}
use Rattle.vm_legal.specs.Homes.{EntersNext, is_home, is_open, is_used}
use Rattle.vm_legal.specs.Licences.{HasCause}
use Rattle.vm_legal.specs.Living.{lives_on, tasks}
use Rattle.vm_legal.specs.Outside.{Outside, is_file}
use Rattle.vm_legal.specs.Used.{in_use}
use Rattle.vm_legal.specs.Walks.{Below}
use Rattle.vm_abroad.specs.Home.{HaveHomes}

-- an entry on a file is on the host where the file is at home
abbrev pub IsFiled : Header → ℕ → ℕ → List Event → Type 0
IsFiled header host region past = is_file header region ≡ true → home_of region past ≡ Some host

-- A temporary region that is in use was made, and is used on one host; the declared regions and objects are as they were declared. Entries on
-- a file are on one host. A region that was made just now is over an object that stands on nothing.
pub record Sound (header : Header) (past : List Event) : Type 0 where
  pub named_regions : named header ≤ next_region header past
  pub named_objects : named header ≤ next_object header past
  pub made : (h r : ℕ) → named header ≤ r → in_use header h r past ≡ true → r < next_region header past
  pub apart : (g h r : ℕ) → named header ≤ r → is_used header g r past ≡ true → is_used header h r past ≡ true → g ≡ h
  pub unmarked : (r : ℕ) → r < named header → (region_of header r past).mark ≡ false
  pub tops : (r : ℕ) → r < named header → (region_of header r past).top ≡ r
  pub bare : (o : ℕ) → o < named header → (backing_of header o past).backed ≡ false
  pub homes : HaveHomes header past
  pub filed : (task host : ℕ) → host_of task past ≡ Some host → AllRows (λ row. IsFiled header host row.region.0 past) (entries_of header.size task past)
  pub opens : (r : ℕ) → is_open r past ≡ true → (backing_of header (region_of header r past).top past).backed ≡ false

-- one of the numbers is this
abbrev pub IsAmong : ℕ → List ℕ → Type 0
IsAmong n [] = ⊥
IsAmong n (m ∷ more) = (m ≡ n) ⊎ IsAmong n more

-- the task has an entry on the region, or fills it by a slow copy
abbrev pub holds : ℕ → ℕ → ℕ → List Event → Bool
holds size task region past = has_entry region (entries_of size task past) || fills region (waiting task past) (copy_target task past)

-- a task of the host has an entry on the region, or fills it
pub record IsHeldOn (header : Header) (h r : ℕ) (past : List Event) : Type 0 where
  pub task : ℕ
  pub lives : lives_on h task past ≡ true
  pub made : IsAmong task (tasks past)
  pub holds : (has_entry r (entries_of header.size task past) ≡ true) ⊎ (fills r (waiting task past) (copy_target task past) ≡ true)

-- a region of the host: a declared one, or one that is used there
abbrev pub IsRegionOf : Header → ℕ → ℕ → List Event → Type 0
IsRegionOf header h r past = named header ≤ r → is_used header h r past ≡ true

-- an object of the host: a declared one, or one that is at home there
abbrev pub IsObjectOf : Header → ℕ → ℕ → List Event → Type 0
IsObjectOf header h o past = named header ≤ o → is_on h (object_home o past) ≡ true

-- the chain of an object is of objects of the host that were made
abbrev pub IsMade : Header → ℕ → ℕ → List Event → Type 0
IsMade header h o past = (n u : ℕ) → Below (λ k. backing_of header k past) n o u → (u < next_object header past) × IsObjectOf header h u past

-- What a kernel's tables say of their host: one of its tasks holds each region that is used there, their entries are on regions of the host,
-- and the chains of these are of objects of the host that were made.
pub record Knows (header : Header) (h : ℕ) (past : List Event) : Type 0 where
  pub held : (r : ℕ) → named header ≤ r → is_used header h r past ≡ true → IsHeldOn header h r past
  pub entries : (task : ℕ) → lives_on h task past ≡ true → AllRows (λ row. IsRegionOf header h row.region.0 past) (entries_of header.size task past)
  pub chains : (r : ℕ) → r < next_region header past → IsRegionOf header h r past → IsMade header h (region_of header r past).top past

-- an event that is nothing to the host
pub record IsAbroad (header : Header) (outside : Outside) (h : ℕ) (e : Event) (past : List Event) : Type 0 where
  pub cause : HasCause header outside e past
  pub enters : EntersNext e past
  pub foreign : is_home header h e past ≡ false
