-- The links of the frames: each names the list that its frame is on, and the frames before and after it there.
use Rattle.std.specs.Prelude.{ℕ, zero, suc, ◌==◌, List, [], ◌∷◌, map, Option, Some, None, get_or, if◌then◌else◌}
use Rattle.vm_base.specs.declared.ids.FrameNo.{FrameNo}
use Rattle.vm_queues.specs.Queues.{Page, Queues}
use Rattle.vm_queues.specs.declared.link.Link.{Link}
use Rattle.vm_queues.specs.declared.link.OnList.{OnList}
use Rattle.vm_queues.specs.declared.link.OnList.TheVariants.{Active, Inactive, Neither}

-- a frame on neither list has no neighbours
abbrev pub neither_link : Link
neither_link = record { list = Neither; before = None; after = None }

abbrev pub first_frame : List FrameNo → Option FrameNo
first_frame [] = None
first_frame (f ∷ fs) = Some f

-- the link of a frame, where it is one of these, which stand on this list behind that one; else the other link
abbrev pub link_behind : OnList → Option FrameNo → List FrameNo → Link → ℕ → Link
link_behind list before [] other f = other
link_behind list before (g ∷ gs) other f =
    if g.0 == f then record { list = list; before = before; after = first_frame gs } else link_behind list (Some g) gs other f

abbrev pub link_among : List FrameNo → List FrameNo → ℕ → Link
link_among inactive active f = link_behind Inactive None inactive (link_behind Active None active neither_link f) f

abbrev pub page_frame : Page → FrameNo
page_frame page = record { 0 = page.frame }

abbrev pub frames_of : List Page → List FrameNo
frames_of pages = map page_frame pages

-- the link of a frame, as the lists have it
abbrev pub link_in : Queues → ℕ → Link
link_in queues f = link_among (frames_of queues.inactive) (frames_of queues.active) f

abbrev pub link_of : List Link → ℕ → Link
link_of links f = get_or links f neither_link

-- so many frames from one on, along the links
unfoldable pub along : (ℕ → Link) → ℕ → Option FrameNo → List FrameNo
along links zero from = []
along links (suc n) None = []
along links (suc n) (Some f) = f ∷ along links n (links f.0).after
