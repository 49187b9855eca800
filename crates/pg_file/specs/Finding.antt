-- What is found of a page in a file, and what is kept of the pages that were lost.
use Rattle.std.specs.Prelude.{ℕ, ◌≡◌, ◌≢◌, ◌≤◌, ◌*◌, ◌==◌, Bool, true, false, List, [], ◌∷◌, length, Option, unwrap_or, Result, Ok, if◌then◌else◌}
use Rattle.pg_answers.specs.Answers.{error, supply}
use Rattle.vm_base.specs.declared.failure.NoMemory.{NoMemory}
use Rattle.vm_base.specs.declared.ids.PageNo.{PageNo}
use Rattle.vm_model.specs.declared.event.Event.{Event}
use Rattle.vm_model.specs.declared.event.Way.TheVariants.{Read}
use Rattle.vm_model.specs.declared.message.Message.TheVariants as message
use Rattle.vm_outside.specs.Areas.{read_at}
use Rattle.vm_outside.specs.Causes.{CountRises}
use Rattle.pg_file.specs.declared.found.Found.{Found}
use Rattle.pg_file.specs.declared.found.Found.TheVariants as found
use Rattle.pg_file.specs.Answers.{device_failed, sent_to}
use Rattle.pg_file.specs.Files.{HasPage, LacksPage, is_among}

-- the pages that were lost, and how many more there is room for
pub record LostPages : Type 0 where
  pub pages : List PageNo
  pub spare : ℕ

-- one page is among them now, or isn't; each other page is where it was
abbrev pub Marks : ℕ → Bool → List PageNo → List PageNo → Type 0
Marks page lost old new = (p : ℕ) → is_among p new ≡ (if page == p then lost else is_among p old)

-- a page that is found has so many bytes
abbrev pub IsWholePage : ℕ → Found → Type 0
IsWholePage size (found.Page bytes) = length bytes ≡ size
IsWholePage size other = Unit {0}

-- what is found is what the file has
abbrev pub IsFoundIn : ℕ → ℕ → Option (List ℕ) → Found → Type 0
IsFoundIn size page was (found.Page bytes) = HasPage size page was × (bytes ≡ read_at (unwrap_or was []) (page * size) size)
IsFoundIn size page was found.Absent = LacksPage size page was
IsFoundIn size page was found.Lost = Unit {0}
IsFoundIn size page was found.Failed = Unit {0}

-- a page is found to be lost exactly where its last write failed
abbrev pub IsFoundAs : Bool → Found → Type 0
IsFoundAs true found.Lost = Unit {0}
IsFoundAs true other = ⊥
IsFoundAs false found.Lost = ⊥
IsFoundAs false other = Unit {0}

-- the file fails only where the count of faults rose, and any other answer leaves the count, want of memory too
pub record FindHasCause (before now : ℕ) (result : Result Found NoMemory) : Type 0 where
  pub later : before ≤ now
  pub failed : result ≡ Ok found.Failed → CountRises before now
  pub spared : result ≢ Ok found.Failed → now ≡ before

-- the answer to a request, as events
abbrev pub find_events : Found → ℕ → ℕ → ℕ → PageNo → List Event
find_events (found.Page bytes) host object control page = sent_to host object control (supply page bytes) ∷ []
find_events found.Absent host object control page = sent_to host object control (message.Unavailable page) ∷ []
find_events found.Lost host object control page = sent_to host object control (error page) ∷ []
find_events found.Failed host object control page =
    sent_to host object control (error page) ∷ device_failed Read object page ∷ []

-- a write fails only where the count rose, and any other answer leaves the count, want of memory too
pub record StoreHasCause (before now : ℕ) (result : Result Bool NoMemory) : Type 0 where
  pub later : before ≤ now
  pub failed : result ≡ Ok false → CountRises before now
  pub spared : result ≢ Ok false → now ≡ before
