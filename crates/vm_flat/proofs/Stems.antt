-- Copies of files: what stands on a file, and the file from which an object's pages come.
use Rattle.std.specs.Prelude.{ℕ, ◌<◌, ◌≤◌, ◌≡◌, ◌≢◌, ◌⊎◌, Bool, true, false, Option, Some, None, List}
use Rattle.vm_flat.specs.Spot.{Spot}
use Rattle.vm_flat.proofs.Allowed.{content}
use Rattle.vm_flat.proofs.Deeds.{Ground, Deed, is_file, Link, link, pages, objects, newest, is_copy, stem}

-- c is the newest copy of the file f
pub record Newest (files : ℕ → Bool) (links : ℕ → Link) (lengths : ℕ → ℕ) (next_object : ℕ) (copies : ℕ → Bool) (stems : ℕ → Option ℕ) (f c : ℕ) : Type 0 where
  pub file : files f ≡ true
  pub copy : copies c ≡ true
  pub source : stems c ≡ Some f
  pub backed : (links c).backed ≡ true
  pub under : (links c).under ≡ f
  pub shift : (links c).shift ≡ 0
  pub made : c < next_object
  pub same_pages : lengths c ≡ lengths f

-- an object whose pages come from the file f stands on it, or on another such object
pub record Source (named : ℕ) (files : ℕ → Bool) (links : ℕ → Link) (stems : ℕ → Option ℕ) (o f : ℕ) : Type 0 where
  pub late : named ≤ o
  pub file : files f ≡ true
  pub backed : (links o).backed ≡ true
  pub under : ((links o).under ≡ f) ⊎ (stems (links o).under ≡ Some f)

-- a copy stands on its file, or on a newer copy
pub record Copy (files : ℕ → Bool) (links : ℕ → Link) (copies : ℕ → Bool) (stems : ℕ → Option ℕ) (o : ℕ) : Type 0 where
  pub file : ℕ
  pub source : stems o ≡ Some file
  pub under : (files (links o).under ≡ true) ⊎ (copies (links o).under ≡ true)

pub record Stems (named : ℕ) (files : ℕ → Bool) (links : ℕ → Link) (lengths : ℕ → ℕ) (next_object : ℕ) (newest : ℕ → Option ℕ) (copies : ℕ → Bool)
    (stems : ℕ → Option ℕ) : Type 0 where
  -- what stands on a declared object is its newest copy
  pub stands : (v f : ℕ) → f < named → (links v).backed ≡ true → (links v).under ≡ f → newest f ≡ Some v
  pub newest_is : (f c : ℕ) → newest f ≡ Some c → Newest files links lengths next_object copies stems f c
  pub sources : (o f : ℕ) → stems o ≡ Some f → Source named files links stems o f
  pub copy_is : (o : ℕ) → copies o ≡ true → Copy files links copies stems o
  pub unmade : (o : ℕ) → next_object ≤ o → (stems o ≡ None) × (copies o ≡ false)

abbrev pub StemsOf : Ground → List Deed → Type 0
StemsOf z past =
    Stems z.named (λ o. is_file z o) (λ o. link z o past) (λ o. pages z o past) (objects z past) (λ o. newest z o past) (λ o. is_copy z o past)
    (λ o. stem z o past)

-- a place of a copy that is reached has content where a page was copied up into it, and only there
pub record Marks (unborn copy reach : Type 0) (pushed : Bool) (s : Spot) : Type 0 where
  pub fresh : unborn → pushed ≡ false
  pub full : copy → reach → pushed ≡ true → content s ≢ None
  pub bare : copy → reach → pushed ≡ false → content s ≡ None
