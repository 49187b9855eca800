-- What a host has of the pages of objects, by the rows and frames that its kernel keeps.
use Rattle.std.specs.Prelude.{ℕ, ◌+◌, Bool, false, [], Option, Some, None, if◌then◌else◌, is_some, not}
use Rattle.vm_base.specs.declared.ids.Lock.{Lock}
use Rattle.vm_model.specs.Local.{Local, Place, away, is_known_absent}
use Rattle.vm_model.specs.declared.script.Header.{Header}
use Rattle.vm_frames.specs.Frames.{FrameTable, page_in}
use Rattle.vm_resident.specs.declared.page_row.PageRow.{PageRow}
use Rattle.vm_shadow.specs.Chains.{ChainTable, region_at}
use Rattle.vm_shadow.specs.declared.region_row.RegionRow.{RegionRow}

abbrev pub place_of : ℕ → ℕ → Place
place_of object page = record { object = object; page = page }

-- what a host has of a page, where the word of a pager that it has none counts for temporary objects alone
abbrev pub known_local : Header → ℕ → ℕ → Local → Local
known_local header o p was = record was { absent = is_known_absent header (place_of o p) was }

abbrev pub lock_number : Lock → ℕ
lock_number lock = (if lock.read then 1 else 0) + (if lock.write then 2 else 0)

-- what the host has of a page that has this row, or none, and whether the pager is known not to have it; a page that isn't here is asked
abbrev pub local_of_row : FrameTable → Option PageRow → Bool → Local
local_of_row frames None lacked = record away { absent = lacked }
local_of_row frames (Some row) lacked =
    record {
      here = row.here;
      bytes = if row.here then page_in frames row.frame.0 else [];
      lock = lock_number row.lock;
      dirty = if row.here then row.dirty else false;
      precious = row.precious;
      asked = not row.here;
      unlocking = row.unlock_sent;
      absent = lacked;
    }

abbrev pub has_region : ChainTable → ℕ → Bool
has_region chains r = is_some (region_at chains r)

abbrev pub pages_in : Option RegionRow → ℕ
pages_in None = 0
pages_in (Some row) = row.pages

abbrev pub region_pages : ChainTable → ℕ → ℕ
region_pages chains r = pages_in (region_at chains r)

abbrev pub entries_in_row : Option RegionRow → ℕ
entries_in_row None = 0
entries_in_row (Some row) = row.entries

-- how many entries lead to a region, by its row
abbrev pub region_entries : ChainTable → ℕ → ℕ
region_entries chains r = entries_in_row (region_at chains r)

-- the row with this number of entries
abbrev pub with_entries : ℕ → Option RegionRow → Option RegionRow
with_entries count None = None
with_entries count (Some row) = Some (record row { entries = count })
