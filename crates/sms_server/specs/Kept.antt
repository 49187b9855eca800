-- How the pages are kept: in the order in which they were named, with their places beside them.
use Rattle.std.specs.Prelude.{ℕ, zero, suc, ◌+◌, ◌≡◌, ◌≢◌, ◌≤◌, ◌==◌, Bool, true, false, List, [], ◌∷◌, ◌++◌, Option, Some, None, if◌then◌else◌, length, slice_get}
use Rattle.sms_pages.specs.Directory.{Directory, IsNewDirectory, IsSame, is_idle, most_replies}
use Rattle.sms_pages.specs.Directory as pages
use Rattle.vm_base.specs.Keys.{is_page}
use Rattle.vm_base.specs.Limits.{most_hosts}
use Rattle.vm_base.specs.declared.ids.PageKey.{PageKey}
use Rattle.vm_model.specs.declared.event.Event.{Event}
use Rattle.vm_model.specs.declared.message.Message.{Message}
use Rattle.sms_server.specs.Answers.{RowAfter, row_events}
use Rattle.sms_server.specs.Table.{ServerTable, row_among}
use Rattle.vm_sets.specs.Places.{Marks, PlaceTable, all_marks, has_mark, pages_in, place_in}
use Rattle.sms_server.specs.declared.page_row.PageRow.{PageRow}

-- whether a page stands at a place
abbrev pub is_page_at : ℕ → ℕ → Option PageRow → Bool
is_page_at object page None = false
is_page_at object page (Some row) = is_page row.key object page

-- each page has so many bytes, and a control for each host
abbrev pub AreWhole : ℕ → List PageRow → Type 0
AreWhole size [] = Unit {0}
AreWhole size (row ∷ rows) = (length row.directory.bytes ≡ size) × (length row.heard ≡ most_hosts) × AreWhole size rows

-- a directory at hand for a further page is a new one
abbrev pub IsSpare : ℕ → Option pages.Directory → Type 0
IsSpare size None = Unit {0}
IsSpare size (Some directory) = IsNewDirectory size directory

-- a directory at hand has the memory of its first call
abbrev pub is_ready : Option pages.Directory → Bool
is_ready None = false
is_ready (Some directory) = directory.prepared

-- a page is as it was, but for the memory at hand
abbrev pub IsSameRow : Option PageRow → Option PageRow → Type 0
IsSameRow None None = Unit {0}
IsSameRow (Some old) (Some new) = (new.key ≡ old.key) × IsSame old.directory new.directory × (new.heard ≡ old.heard)
IsSameRow old new = ⊥

abbrev pub RowsAreSame : List PageRow → List PageRow → Type 0
RowsAreSame old new = (k : ℕ) → IsSameRow (slice_get old k) (slice_get new k)

-- a page of the object took the message, and each other is as it was
abbrev pub IsRowAfter : ℕ → Message → ℕ → Option PageRow → Option PageRow → Type 0
IsRowAfter h m object None None = Unit {0}
IsRowAfter h m object (Some old) (Some new) =
    (old.key.object.0 ≡ object → RowAfter h m old new) × (old.key.object.0 ≢ object → new ≡ old)
IsRowAfter h m object old new = ⊥

-- each page of the object took the message
abbrev pub RowsAfter : ℕ → Message → ℕ → List PageRow → List PageRow → Type 0
RowsAfter h m object old new = (k : ℕ) → IsRowAfter h m object (slice_get old k) (slice_get new k)

-- the events of a page that has a row
abbrev pub events_if : ℕ → Message → Option PageRow → List Event
events_if h m None = []
events_if h m (Some row) = row_events h m row

-- the events of the object's pages below one, those of the first page first
abbrev pub events_below : ℕ → Message → ℕ → List PageRow → ℕ → List Event
events_below h m object rows zero = []
events_below h m object rows (suc p) = events_if h m (row_among object p rows) ++ events_below h m object rows p

-- the events of the object's pages were added to others
pub record EventsInTurn (h : ℕ) (m : Message) (object : ℕ) (rows : List PageRow) (first events : List Event) : Type 0 where
  pub bound : ℕ
  pub none : (p : ℕ) → bound ≤ p → events_if h m (row_among object p rows) ≡ []
  pub are : events ≡ events_below h m object rows bound ++ first

-- a sum over the pages of an object
abbrev pub sum_among : (PageRow → ℕ) → ℕ → List PageRow → ℕ
sum_among weight object [] = 0
sum_among weight object (row ∷ rows) = (if row.key.object.0 == object then weight row else 0) + sum_among weight object rows

-- how many wait for the object's pages, and how many pages these are
abbrev pub waiting_among : ℕ → List PageRow → ℕ
waiting_among object rows = sum_among (λ row. length row.directory.line) object rows

abbrev pub pages_among : ℕ → List PageRow → ℕ
pages_among object rows = sum_among (λ row. 1) object rows

-- the most replies of a page to the end of a host's control
abbrev pub end_replies : ℕ → PageRow → ℕ
end_replies h row = if is_idle h row.directory then 0 else most_replies row.directory

abbrev pub end_replies_among : ℕ → ℕ → List PageRow → ℕ
end_replies_among h object rows = sum_among (end_replies h) object rows

-- a page that the end changes has the memory of its answer
abbrev pub IsReadyToEnd : ℕ → PageRow → Type 0
IsReadyToEnd h row = is_idle h row.directory ≡ false → row.directory.prepared ≡ true

abbrev pub IsReadyOf : ℕ → ℕ → Option PageRow → Type 0
IsReadyOf h object None = Unit {0}
IsReadyOf h object (Some row) = row.key.object.0 ≡ object → IsReadyToEnd h row

abbrev pub AreReadyToEnd : ℕ → ℕ → List PageRow → Type 0
AreReadyToEnd h object rows = (k : ℕ) → IsReadyOf h object (slice_get rows k)

-- a page has a row, with the memory of its next call, and there is room for the events of its answer
abbrev pub HasMemory : ℕ → Option PageRow → Type 0
HasMemory room None = ⊥
HasMemory room (Some row) = (row.directory.prepared ≡ true) × (most_replies row.directory ≤ room)

-- the row of a page stands at an index
pub record IsRowAt (key : PageKey) (i : ℕ) (rows : List PageRow) : Type 0 where
  pub row : PageRow
  pub at : slice_get rows i ≡ Some row
  pub key_is : row.key ≡ key

-- a page stands at an index, with the memory of its next call and of the events of its answer
pub record IsPreparedAt (key : PageKey) (i : ℕ) (table : ServerTable) : Type 0 where
  pub row : PageRow
  pub at : slice_get table.rows i ≡ Some row
  pub key_is : row.key ≡ key
  pub prepared : row.directory.prepared ≡ true
  pub room : most_replies row.directory ≤ table.room

-- the place of a page leads to its row
abbrev pub IsRowOf : ℕ → ℕ → Option PageRow → Type 0
IsRowOf object page None = ⊥
IsRowOf object page (Some row) = (row.key.object.0 ≡ object) × (row.key.page.0 ≡ page)

-- a row stands where its page is said to stand
abbrev pub StandsThere : PlaceTable → ℕ → Option PageRow → Type 0
StandsThere places i None = Unit {0}
StandsThere places i (Some row) = place_in places row.key.object.0 row.key.page.0 ≡ Some i

-- the mark of the pages for which somebody may wait
abbrev pub waited : ℕ
waited = 8

-- what a page is that hasn't a mark: nobody waits for it; or it is left by the end of a control of the host whose number the mark is; each page has the
-- mark of all
abbrev pub is_quiet : ℕ → Directory → Bool
is_quiet mark d = if mark == all_marks then false else if mark == waited then length d.line == 0 else is_idle mark d

abbrev pub IsMarked : PlaceTable → ℕ → Option PageRow → Type 0
IsMarked places mark None = Unit {0}
IsMarked places mark (Some row) = has_mark places mark row.key.object.0 row.key.page.0 ≡ false → is_quiet mark row.directory ≡ true

-- each row has its place, and each place its row, and each row that isn't quiet has its marks
pub record ArePlaced (places : PlaceTable) (rows : List PageRow) : Type 0 where
  pub leads : (o p i : ℕ) → place_in places o p ≡ Some i → IsRowOf o p (slice_get rows i)
  pub stand : (i : ℕ) → StandsThere places i (slice_get rows i)
  pub marked : (i mark : ℕ) → mark ≤ all_marks → IsMarked places mark (slice_get rows i)

-- a mark was taken off a page, or it was not
abbrev pub TakesMark : Bool → ℕ → PageKey → PlaceTable → PlaceTable → Type 0
TakesMark true mark key old new = Marks mark key false old new
TakesMark false mark key old new = new ≡ old

pub record IsKept (size : ℕ) (rows : List PageRow) (places : PlaceTable) (spare : Option pages.Directory) (events : List Event) : Type 0 where
  pub placed : ArePlaced places rows
  pub counted : (o : ℕ) → pages_in places o ≡ pages_among o rows
  pub whole : AreWhole size rows
  pub new : IsSpare size spare
  pub none : events ≡ []
