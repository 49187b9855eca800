-- Whoever waits, waits for frames, or for a pager that the script drives.
use Rattle.std.specs.Prelude.{ℕ, ◌-◌, ◌<◌, ◌≤◌, ◌≡◌, ◌⊎◌, All, true, false, List, length, Some}
use Rattle.vm_model.specs.declared.event.Event.{Event}
use Rattle.vm_model.specs.declared.script.Header.{Header}
use Rattle.vm_model.specs.Local.{Place}
use Rattle.vm_model.specs.Waiting.{Access, is_store, waiting}
use Rattle.vm_legal.specs.Accesses.{HasPlace, Waits, WaitsUnlocked, page_of}
use Rattle.vm_legal.specs.Frames.{frames_free, frames_of, frames_wired}
use Rattle.vm_legal.specs.Living.{lives_on}
use Rattle.vm_legal.specs.Outside.{is_shared, is_wild}
use Rattle.vm_legal.specs.Prompt.{Awaits}
use Rattle.vm_legal.specs.Walks.{page_on}
use Rattle.vm_quiet.specs.Places.{times}

-- no object is wild
abbrev pub NoneIsWild : Header → Type 0
NoneIsWild header = (o : ℕ) → is_wild header o ≡ false

-- the server of shared memory has answered everybody: no page of a shared object is asked, and no unlock of one is outstanding
pub record SharedAreAnswered (header : Header) (history : List Event) : Type 0 where
  pub asked : (host object page : ℕ) → is_shared header object ≡ true → (page_on header host object page history).asked ≡ false
  pub unlocking : (host object page : ℕ) → is_shared header object ≡ true → (page_on header host object page history).here ≡ true
      → (page_on header host object page history).unlocking ≡ false

-- a page of a wild object keeps its frame for as long as its pager likes: it is asked, or somebody waits for its unlock
pub record IsHeldWild (header : Header) (host : ℕ) (past : List Event) (place : Place) : Type 0 where
  pub wild : is_wild header place.object ≡ true
  pub why : ((page_on header host place.object place.page past).asked ≡ true) ⊎ WaitsUnlocked header host place.object place.page past

-- the host has no free frame, and fewer than two that are neither wired nor held for a pager that the script drives
pub record IsShortOfFrames (header : Header) (host : ℕ) (past : List Event) : Type 0 where
  pub none : frames_free header host past ≡ 0
  -- places that are held so, each once
  pub wild : List Place
  pub held : All (IsHeldWild header host past) wild
  pub once : (o p : ℕ) → times o p wild ≤ 1
  pub usable : frames_of header host - frames_wired host past - length wild < 2

-- whoever waits on one of the hosts has W
abbrev pub EachWaiting : Header → List Event → (ℕ → ℕ → Access → Type 0) → Type 0
EachWaiting header history W =
    (host task : ℕ) (access : Access) → host < length header.frames.items → waiting task history ≡ Some access → lives_on host task history ≡ true
    → W host task access

-- an access of a task of the host waits on a wild object's region
pub record WaitsOnWild (header : Header) (host task : ℕ) (access : Access) (past : List Event) : Type 0 where
  pub waits : Waits header task access past
  pub on_host : waits.at.host ≡ host
  pub wild : is_wild header waits.at.entry.region.0 ≡ true

-- whoever waits on one of the hosts waits on a wild object's region, or since the host is short of frames
pub record NobodyWaitsInVain (header : Header) (history : List Event) : Type 0 where
  pub short : EachWaiting header history (λ host task access. WaitsOnWild header host task access history ⊎ IsShortOfFrames header host history)

-- an access waits for something at one of its places
pub record WaitsAtPlace (header : Header) (host task : ℕ) (access : Access) (past : List Event) : Type 0 where
  pub waits : Waits header task access past
  pub on_host : waits.at.host ≡ host
  pub object : ℕ
  pub page : ℕ
  pub place : HasPlace header waits.at.entry.region.0 (page_of header task access past waits.at.entry) object page past
  pub what : Awaits header host (is_store access) object page past

-- at one that is a wild object's
pub record WaitsForWild (header : Header) (host task : ℕ) (access : Access) (past : List Event) : Type 0 where
  pub what : WaitsAtPlace header host task access past
  pub wild : is_wild header what.object ≡ true

-- whoever waits on one of the hosts waits for a wild object's pager, or since the host is short of frames
pub record OnlyWildAreAwaited (header : Header) (history : List Event) : Type 0 where
  pub short : EachWaiting header history (λ host task access. WaitsForWild header host task access history ⊎ IsShortOfFrames header host history)

-- whoever waits on one of the hosts waits since the host has no free frame, and fewer than two that are not wired
pub record OnlyFramesAreAwaited (header : Header) (history : List Event) : Type 0 where
  pub short : EachWaiting header history (λ host task access. (frames_free header host history ≡ 0) × (frames_of header host - frames_wired host history < 2))
