-- The queues of a host's pages, as contracts see them, and how a victim is chosen from them.
use Rattle.std.specs.Prelude.{ℕ, ◌+◌, ◌-◌, ◌/◌, ◌≡◌, ◌==◌, ◌||◌, Bool, true, false, List, [], ◌∷◌, ◌++◌, Option, Some, None, if◌then◌else◌, drop, length, map}
use Rattle.std.specs.Prelude.{take}
use Rattle.vm_base.specs.declared.ids.FrameNo.{FrameNo}

-- a page, by its frame, and whether it was referenced
pub record Page : Type 0 where
  pub frame : ℕ
  pub referenced : Bool

-- the active and the inactive pages, front first, and the number of frames
pub record Queues : Type 0 where
  pub active : List Page
  pub inactive : List Page
  pub frames : ℕ

abbrev pub new_page : ℕ → Page
new_page f = record { frame = f; referenced = false }

abbrev pub cleared : Page → Page
cleared page = new_page page.frame

abbrev pub has_page : List Page → ℕ → Bool
has_page [] f = false
has_page (page ∷ pages) f = (page.frame == f) || has_page pages f

-- the page in this frame is on a list
abbrev pub is_queued : Queues → ℕ → Bool
is_queued queues f = has_page (queues.inactive ++ queues.active) f

abbrev pub added : ℕ → Queues → Queues
added f queues = record queues { active = queues.active ++ new_page f ∷ [] }

abbrev pub marked : ℕ → Page → Page
marked f page = record { frame = page.frame; referenced = (page.frame == f) || page.referenced }

abbrev pub with_reference : ℕ → Queues → Queues
with_reference f queues = record queues { active = map (marked f) queues.active; inactive = map (marked f) queues.inactive }

abbrev pub pages_except : ℕ → List Page → List Page
pages_except f [] = []
pages_except f (page ∷ pages) = if page.frame == f then pages_except f pages else page ∷ pages_except f pages

abbrev pub queues_except : ℕ → Queues → Queues
queues_except f queues = record queues { active = pages_except f queues.active; inactive = pages_except f queues.inactive }

-- the first active pages go to the inactive back, their marks cleared
abbrev pub with_deactivated : ℕ → Queues → Queues
with_deactivated n queues =
    record queues { active = drop n queues.active; inactive = queues.inactive ++ map cleared (take n queues.active) }

-- how many pages the inactive list lacks to a third of all, rounded up
abbrev pub shortage : Queues → ℕ
shortage queues = (length queues.active + length queues.inactive + 2) / 3 - length queues.inactive

abbrev pub needs_none : Queues → Type 0
needs_none queues = shortage queues ≡ 0

abbrev pub balanced : Queues → Queues
balanced queues = with_deactivated (shortage queues) queues

-- the pages in front of the first one that is not referenced
abbrev pub referenced_front : List Page → List Page
referenced_front [] = []
referenced_front (page ∷ pages) = if page.referenced then page ∷ referenced_front pages else []

-- the first page that is not referenced, and all behind it
abbrev pub from_unreferenced : List Page → List Page
from_unreferenced [] = []
from_unreferenced (page ∷ pages) = if page.referenced then from_unreferenced pages else page ∷ pages

-- the referenced pages at the inactive front go to the active back, their marks cleared, and the lists are balanced
-- again
abbrev pub spared : Queues → Queues
spared queues =
    balanced (record queues { active = queues.active ++ map cleared (referenced_front queues.inactive); inactive = from_unreferenced queues.inactive })

-- the inactive front goes to the active back, its mark cleared
abbrev pub one_spared : Queues → Queues
one_spared queues =
    record queues { active = queues.active ++ map cleared (take 1 queues.inactive); inactive = drop 1 queues.inactive }

abbrev pub is_skipped : List FrameNo → ℕ → Bool
is_skipped [] f = false
is_skipped (other ∷ others) f = (other.0 == f) || is_skipped others f

abbrev pub first_unskipped : List FrameNo → List Page → Option FrameNo
first_unskipped skip [] = None
first_unskipped skip (page ∷ pages) =
    if is_skipped skip page.frame then first_unskipped skip pages else Some (record { 0 = page.frame })

-- the first page that is not skipped, inactive ones first
abbrev pub victim_frame : List FrameNo → Queues → Option FrameNo
victim_frame skip queues = first_unskipped skip (queues.inactive ++ queues.active)

-- the first page whose frame isn't spared
abbrev pub first_left : (ℕ → Bool) → List Page → Option FrameNo
first_left spares [] = None
first_left spares (page ∷ pages) = if spares page.frame then first_left spares pages else Some (record { 0 = page.frame })

-- of the pages on a list, just those are skipped whose frames are spared
abbrev pub SkipsSame : List FrameNo → (ℕ → Bool) → Queues → Type 0
SkipsSame skip spares queues = (f : ℕ) → is_queued queues f ≡ true → is_skipped skip f ≡ spares f

-- the frame of each page on a list is spared
abbrev pub AllSpared : (ℕ → Bool) → Queues → Type 0
AllSpared spares queues = (f : ℕ) → is_queued queues f ≡ true → spares f ≡ true

-- each page on a list is skipped
abbrev pub AllSkipped : List FrameNo → Queues → Type 0
AllSkipped skip queues = (f : ℕ) → is_queued queues f ≡ true → is_skipped skip f ≡ true

-- no page is on a list
abbrev pub IsEmpty : Queues → Type 0
IsEmpty queues = (f : ℕ) → is_queued queues f ≡ false

-- the same pages are on the lists
abbrev pub KeepsPages : Queues → Queues → Type 0
KeepsPages old new = (f : ℕ) → is_queued new f ≡ is_queued old f

-- this page too is on a list now
abbrev pub GainsPage : ℕ → Queues → Queues → Type 0
GainsPage f old new = (other : ℕ) → is_queued new other ≡ (if f == other then true else is_queued old other)

-- this page alone has left the lists
abbrev pub LosesPage : ℕ → Queues → Queues → Type 0
LosesPage f old new = (other : ℕ) → is_queued new other ≡ (if f == other then false else is_queued old other)

-- each page stands there once
abbrev pub EachOnce : List Page → Type 0
EachOnce [] = Unit {0}
EachOnce (page ∷ pages) = (has_page pages page.frame ≡ false) × EachOnce pages
