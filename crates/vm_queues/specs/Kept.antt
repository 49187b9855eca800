-- How the queues are kept: each frame stands on the lists at most once, linked to its neighbours, with its mark aside.
use Rattle.std.specs.Prelude.{ℕ, ◌+◌, ◌-◌, ◌<◌, ◌^◌, ◌≡◌, ◌==◌, Bool, true, false, List, [], ◌∷◌, ◌++◌, Option, Some, None, if◌then◌else◌, get_or, length, map}
use Rattle.std.specs.Prelude.{set}
use Rattle.vm_base.specs.declared.ids.FrameNo.{FrameNo}
use Rattle.vm_queues.specs.declared.link.Link.{Link}
use Rattle.vm_queues.specs.declared.links.Ends.{Ends}
use Rattle.vm_queues.specs.declared.lists.Lists.{Lists}
use Rattle.vm_queues.specs.Links.{along, first_frame, link_among, link_of, neither_link}
use Rattle.vm_queues.specs.Queues.{Page, Queues, is_skipped}

abbrev pub queued_page : List Bool → FrameNo → Page
queued_page marks f = record { frame = f.0; referenced = get_or marks f.0 false }

abbrev pub pages : List Bool → List FrameNo → List Page
pages marks frames = map (queued_page marks) frames

-- the frames on the lists, front first, and the marks of all frames
pub record FrameLists : Type 0 where
  pub active : List FrameNo
  pub inactive : List FrameNo
  pub marks : List Bool

abbrev pub frames_on : List Link → Ends → List FrameNo
frames_on links ends = along (link_of links) ends.count ends.first

abbrev pub frame_lists : Lists → FrameLists
frame_lists lists =
    record { active = frames_on lists.links.items lists.active; inactive = frames_on lists.links.items lists.inactive; marks = lists.marks.items }

abbrev pub pages_of : FrameLists → Queues
pages_of lists = record { active = pages lists.marks lists.active; inactive = pages lists.marks lists.inactive; frames = length lists.marks }

abbrev pub page_lists : Lists → Queues
page_lists lists = pages_of (frame_lists lists)

abbrev pub all_frames : FrameLists → List FrameNo
all_frames lists = lists.inactive ++ lists.active

-- each frame is below a number, and stands there once
abbrev pub FramesAreApart : ℕ → List FrameNo → Type 0
FramesAreApart n [] = Unit {0}
FramesAreApart n (f ∷ fs) = (f.0 < n) × (is_skipped fs f.0 ≡ false) × FramesAreApart n fs

-- the last frame, or the one before them where there is none
abbrev pub last_behind : Option FrameNo → List FrameNo → Option FrameNo
last_behind before [] = before
last_behind before (f ∷ fs) = last_behind (Some f) fs

pub record AreEnds (ends : Ends) (frames : List FrameNo) : Type 0 where
  pub first : ends.first ≡ first_frame frames
  pub last : ends.last ≡ last_behind None frames
  pub count : ends.count ≡ length frames

-- these frames stand on the lists, and no others
pub record Linked (lists : Lists) (frames : FrameLists) : Type 0 where
  pub marks : lists.marks.items ≡ frames.marks
  pub apart : FramesAreApart (length frames.marks) (all_frames frames)
  pub links : (f : ℕ) → link_of lists.links.items f ≡ link_among frames.inactive frames.active f
  pub count : length lists.links.items ≡ length frames.marks
  pub active : AreEnds lists.active frames.active
  pub inactive : AreEnds lists.inactive frames.inactive
  pub few : length frames.marks < 2 ^ 32

abbrev pub ArePageLists : Lists → Type 0
ArePageLists lists = Linked lists (frame_lists lists)

abbrev pub without_frame : ℕ → List FrameNo → List FrameNo
without_frame f [] = []
without_frame f (other ∷ others) = if other.0 == f then without_frame f others else other ∷ without_frame f others

abbrev pub with_active : FrameNo → FrameLists → FrameLists
with_active f lists = record lists { active = lists.active ++ f ∷ []; marks = set lists.marks f.0 false }

abbrev pub with_inactive : FrameNo → FrameLists → FrameLists
with_inactive f lists = record lists { inactive = lists.inactive ++ f ∷ []; marks = set lists.marks f.0 false }

abbrev pub frames_except : ℕ → FrameLists → FrameLists
frames_except f lists = record lists { active = without_frame f lists.active; inactive = without_frame f lists.inactive }

abbrev pub front_referenced_of : List Page → Bool
front_referenced_of [] = false
front_referenced_of (page ∷ pages) = page.referenced

abbrev pub front_referenced : Queues → Bool
front_referenced queues = front_referenced_of queues.inactive

-- the frame, where there is one, is below a number
abbrev pub IsBelow : ℕ → Option FrameNo → Type 0
IsBelow n None = Unit {0}
IsBelow n (Some f) = f.0 < n

abbrev pub is_frame : Option FrameNo → ℕ → Bool
is_frame None f = false
is_frame (Some g) f = g.0 == f

abbrev pub has_none : Option FrameNo → Bool
has_none None = true
has_none (Some f) = false

-- the links, where that of one frame is another
abbrev pub put_link : ℕ → Link → (ℕ → Link) → ℕ → Link
put_link f link links g = if f == g then link else links g

abbrev pub with_before : Option FrameNo → Option FrameNo → (ℕ → Link) → ℕ → Link
with_before at before links g = if is_frame at g then record (links g) { before = before } else links g

abbrev pub with_after : Option FrameNo → Option FrameNo → (ℕ → Link) → ℕ → Link
with_after at after links g = if is_frame at g then record (links g) { after = after } else links g

-- the links without a frame, whose neighbours are linked to one another
abbrev pub without_link : ℕ → (ℕ → Link) → ℕ → Link
without_link f links g =
    with_before (links f).after (links f).before (with_after (links f).before (links f).after (put_link f neither_link links)) g

-- the ends with a frame at the back
abbrev pub with_back : FrameNo → Ends → Ends
with_back f ends = record { first = (if has_none ends.first then Some f else ends.first); last = Some f; count = ends.count + 1 }

-- the ends without the frame of this link
abbrev pub ends_without : Link → Ends → Ends
ends_without link ends = record {
  first = (if has_none link.before then link.after else ends.first);
  last = (if has_none link.after then link.before else ends.last);
  count = ends.count - 1;
}
