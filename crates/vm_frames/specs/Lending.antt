-- What the lender of a frame's bytes ends as.
use Rattle.std.specs.Prelude.{ℕ, List, set}
use Rattle.std.specs.Borrow.{Lends, MutBor, Fml}
use Rattle.vm_base.specs.contracts.pages.PageBytes.{the_row as page_row}
use Rattle.vm_frames.specs.contracts.frames.Frames.{the_row}
use Rattle.vm_frames.specs.Frames.{FrameTable}

-- the table with other bytes in a frame
abbrev pub with_page : FrameTable → ℕ → List ℕ → FrameTable
with_page table f bytes = record table { pages = set table.pages f bytes }

-- the table ends with the last bytes behind the reference in the frame
abbrev pub LendsPage : MutBor FrameTable → ℕ → MutBor (List ℕ) → Fml
LendsPage table f page = Lends the_row page_row table page (with_page table.now f)
