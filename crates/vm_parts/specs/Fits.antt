-- The parts of a host fit each other.
use Rattle.std.specs.Prelude.{ℕ, ◌<◌, ◌≡◌, true, false, [], Option, Some, None, length, replicate}
use Rattle.vm_frames.specs.Frames.{frame_count, is_claimed, page_in}
use Rattle.vm_objects.specs.Objects.{ObjectTable, object_at}
use Rattle.vm_objects.specs.declared.row.ObjectRow.{ObjectRow}
use Rattle.vm_queues.specs.Queues.{is_queued}
use Rattle.vm_resident.specs.Resident.{IsOwned, owner_of, row_at}
use Rattle.vm_resident.specs.declared.page_row.PageRow.{PageRow}
use Rattle.vm_parts.specs.declared.parts.HostParts.{HostParts}

abbrev pub pages_of_row : Option ObjectRow → ℕ
pages_of_row None = 0
pages_of_row (Some row) = row.pages

-- the pages of an object, none where it isn't known
abbrev pub object_pages : ObjectTable → ℕ → ℕ
object_pages objects o = pages_of_row (object_at objects o)

-- Each row has a claimed frame that no other row has; that frame is on a list exactly where its page is here, and no other
-- frame is on a list. The row's page is one of its object. All frames are as long as the buffers.
pub record Fit (parts : HostParts) : Type 0 where
  pub owned : IsOwned parts.resident
  pub held : (o p : ℕ) (row : PageRow) → row_at parts.resident o p ≡ Some row → is_claimed parts.frames row.frame.0 ≡ true
  pub listed : (o p : ℕ) (row : PageRow) → row_at parts.resident o p ≡ Some row → is_queued parts.queues row.frame.0 ≡ row.here
  pub unlisted : (f : ℕ) → owner_of parts.resident f ≡ None → is_queued parts.queues f ≡ false
  pub unowned : (f : ℕ) → is_claimed parts.frames f ≡ false → owner_of parts.resident f ≡ None
  pub inside : (o p : ℕ) (row : PageRow) → row_at parts.resident o p ≡ Some row → p < object_pages parts.objects o
  pub all_sized : (f : ℕ) → f < frame_count parts.frames → length (page_in parts.frames f) ≡ parts.buffers.size
  pub count : parts.queues.frames ≡ frame_count parts.frames
  pub pages : length parts.frames.pages ≡ frame_count parts.frames

-- the parts of a host before a page has come
pub record IsStart (frames size : ℕ) (parts : HostParts) : Type 0 where
  pub fit : Fit parts
  pub frames_are : parts.frames ≡ record { pages = replicate frames (replicate size 0); claims = replicate frames false; wired = 0 }
  pub rows : (o p : ℕ) → row_at parts.resident o p ≡ None
  pub queues : parts.queues ≡ record { active = []; inactive = []; frames = frames }
  pub objects : parts.objects.entries ≡ []
  pub absent : parts.objects.absent ≡ []
  pub buffers : parts.buffers ≡ record { size = size; count = 0 }
