-- The pages of shared objects, as contracts see them.
use Rattle.std.specs.Prelude.{ℕ, ◌≡◌, ◌+◌, ◌≤◌, ◌<◌, ◌^◌, ◌==◌, Bool, true, false, List, [], ◌∷◌, Option, Some, None, if◌then◌else◌, replicate, slice_get}
use Rattle.std.specs.Prelude.{slice_index}
use Rattle.sms_pages.specs.Directory.{Directory, IsSame, most_replies}
use Rattle.vm_base.specs.Keys.{is_page}
use Rattle.vm_base.specs.Limits.{most_hosts}
use Rattle.sms_server.specs.declared.page_row.PageRow.{PageRow}

-- the pages that were named, what is at hand for a further one, and how many events there is room for
pub record ServerTable : Type 0 where
  pub size : ℕ
  pub rows : List PageRow
  pub spare : Bool
  pub room : ℕ

abbrev pub row_among : ℕ → ℕ → List PageRow → Option PageRow
row_among object page [] = None
row_among object page (row ∷ rows) = if is_page row.key object page then Some row else row_among object page rows

-- the directory of a page of so many zeros, which nobody holds or wants
abbrev pub new_directory : ℕ → Directory
new_directory size =
    record { holds = replicate most_hosts 0; awaits = replicate most_hosts 0; line = []; bytes = replicate size 0; prepared = false }

abbrev pub directory_in : ℕ → Option PageRow → Directory
directory_in size None = new_directory size
directory_in size (Some row) = row.directory

abbrev pub heard_in : Option PageRow → ℕ → ℕ
heard_in None h = 0
heard_in (Some row) h = slice_index row.heard h

-- the directory of a page; one that was never named is new
abbrev pub directory_at : ServerTable → ℕ → ℕ → Directory
directory_at table object page = directory_in table.size (row_among object page table.rows)

-- the control of the last request for a page that was taken from a host; 0 where there was none
abbrev pub heard_at : ServerTable → ℕ → ℕ → ℕ → ℕ
heard_at table object page = heard_in (row_among object page table.rows)

-- one page is as it was, but for the memory at hand
pub record IsSamePage (object page : ℕ) (old new : ServerTable) : Type 0 where
  pub directory : IsSame (directory_at old object page) (directory_at new object page)
  pub heard : (h : ℕ) → heard_at new object page h ≡ heard_at old object page h

-- the same but for the memory at hand
pub record IsSameTable (old new : ServerTable) : Type 0 where
  pub size : new.size ≡ old.size
  pub pages : (o p : ℕ) → IsSamePage o p old new

abbrev pub replies_among : ℕ → List PageRow → ℕ
replies_among object [] = 0
replies_among object (row ∷ rows) = (if row.key.object.0 == object then most_replies row.directory else 0) + replies_among object rows

-- the most events of the next answer about an object: the most replies of each of its pages, and of one that is new
abbrev pub most_events : ℕ → ServerTable → ℕ
most_events object table = 9 + replies_among object table.rows

abbrev pub IsPreparedOf : ℕ → Option PageRow → Type 0
IsPreparedOf object None = Unit {0}
IsPreparedOf object (Some row) = row.key.object.0 ≡ object → row.directory.prepared ≡ true

-- each page of the object has the memory of its next call at hand
abbrev pub ArePrepared : ℕ → List PageRow → Type 0
ArePrepared object rows = (k : ℕ) → IsPreparedOf object (slice_get rows k)

-- the next answer about an object has its memory at hand
pub record IsPrepared (object : ℕ) (table : ServerTable) : Type 0 where
  pub spare : table.spare ≡ true
  pub pages : ArePrepared object table.rows
  pub few : most_events object table < 2 ^ 32
  pub events : most_events object table ≤ table.room
