-- Nobody waits in vain, nothing is left behind, and no chain is longer than it must be: what holds whenever a step has ended.
use Rattle.std.specs.Prelude.{ℕ, ◌<◌, ◌≡◌, ◌⊎◌, List, length, Bool, true, false, IfSome, Option, Some}
use Rattle.vm_model.specs.declared.event.Event.{Event}
use Rattle.vm_model.specs.declared.script.Header.{Header}
use Rattle.vm_model.specs.Coherence.{SomebodyIsAwaited}
use Rattle.vm_model.specs.Controls.{live_control}
use Rattle.vm_model.specs.Local.{Place}
use Rattle.vm_model.specs.PagePart.{page_part}
use Rattle.vm_model.specs.Regions.{region_of}
use Rattle.vm_model.specs.Waiting.{Access, is_store, waiting}
use Rattle.vm_legal.specs.Accesses.{Comes, HasPlace, Waits, WaitsUnlocked, WantsFrame, is_ready, names, page_of}
use Rattle.vm_legal.specs.Frames.{frames_free, returns_out}
use Rattle.vm_legal.specs.Living.{lives_on}
use Rattle.vm_legal.specs.Merges.{IsThin}
use Rattle.vm_legal.specs.Outside.{is_shared}
use Rattle.vm_legal.specs.Pushes.{OwesPush}
use Rattle.vm_legal.specs.Swept.{IsSwept}
use Rattle.vm_legal.specs.Walks.{IsTop, page_on}

-- what an access waits for at a place of its page
pub data Awaits (header : Header) (host : ℕ) (store : Bool) (object page : ℕ) (past : List Event) : Type 0 where
  -- the page is asked
  AnAnswer : (page_on header host object page past).asked ≡ true → Awaits header host store object page past
  -- the pager was told of the object, and isn't ready yet
  AReady : (control : ℕ) → live_control host object past ≡ Some control → is_ready host object past ≡ false → Awaits header host store object page past
  -- the page is here, but locked, and an unlock is outstanding
  AnUnlock : (page_on header host object page past).here ≡ true → names (page_on header host object page past).lock store ≡ true
      → (page_on header host object page past).unlocking ≡ true → Awaits header host store object page past

-- what an access waits for
pub data AwaitsPage (header : Header) (host : ℕ) (access : Access) (region page : ℕ) (past : List Event) : Type 0 where
  -- something at one of its places
  AtPlace : (object object_page : ℕ) → HasPlace header region page object object_page past → Awaits header host (is_store access) object object_page past
      → AwaitsPage header host access region page past
  -- it is a store, and the place of the copy to which it owes its page is asked
  ForPush : (object object_page copy : ℕ) → is_store access ≡ true → IsTop (region_of header region past) page object object_page
      → OwesPush header host object object_page copy past → (page_on header host copy object_page past).asked ≡ true
      → AwaitsPage header host access region page past

-- an access waits for something
pub record WaitsForPager (header : Header) (host task : ℕ) (access : Access) (past : List Event) : Type 0 where
  pub waits : Waits header task access past
  pub on_host : waits.at.host ≡ host
  pub what : AwaitsPage header host access waits.at.entry.region.0 (page_of header task access past waits.at.entry) past

-- a place is where the walk of a task of the host ends that wants a frame
pub record IsSource (header : Header) (host object page : ℕ) (past : List Event) : Type 0 where
  pub task : ℕ
  pub access : Access
  pub waits : Waits header task access past
  pub on_host : waits.at.host ≡ host
  pub comes : Comes header host waits.at.entry.region.0 (page_of header task access past waits.at.entry) object page past
  pub wants : WantsFrame header host task access waits.at.entry.region.0 (page_of header task access past waits.at.entry) past

-- nothing on the host can be reclaimed: somebody waits for each page that is here, but for the spare one, if there is one, which was a source at a moment
pub record IsExhausted (header : Header) (host : ℕ) (moment past : List Event) : Type 0 where
  pub spare : Option Place
  pub source : IfSome spare (λ place. IsSource header host place.object place.page moment)
  pub held : (o p : ℕ) → (page_on header host o p past).here ≡ true → WaitsUnlocked header host o p past ⊎ (spare ≡ Some (record { object = o; page = p }))

-- the host has no free frame, and a return is on its way, or nothing can be reclaimed
pub record HostIsFull (header : Header) (host : ℕ) (past : List Event) : Type 0 where
  pub none : frames_free header host past ≡ 0
  pub why : (0 < returns_out host past) ⊎ IsExhausted header host past past

-- no access of the host waits in vain
abbrev pub NoneInVain : Header → ℕ → List Event → Type 0
NoneInVain header host past =
    (task : ℕ) (access : Access) → (waits : Waits header task access past) → waits.at.host ≡ host → WaitsForPager header host task access past
    ⊎ HostIsFull header host past

-- whoever waits on the host is somebody: it has a page left, and an entry leads to that
abbrev pub EachLeads : Header → ℕ → List Event → Type 0
EachLeads header host past = (task : ℕ) (access : Access) → waiting task past ≡ Some access → lives_on host task past ≡ true → Waits header task access past

-- what one host is to see to
pub record PromptAt (header : Header) (host : ℕ) (past : List Event) : Type 0 where
  pub leads : EachLeads header host past
  pub waits : NoneInVain header host past
  pub swept : IsSwept header host past
  pub thin : IsThin header host past

-- each host has seen to it
abbrev pub Prompt : Header → List Event → Type 0
Prompt header past = (host : ℕ) → host < length header.frames.items → PromptAt header host past

-- of each page of a shared object for which somebody stands in line at the server some host is awaited
abbrev pub AllServed : Header → List Event → Type 0
AllServed header past = (object page : ℕ) → is_shared header object ≡ true → SomebodyIsAwaited (page_part header.size object page past)
