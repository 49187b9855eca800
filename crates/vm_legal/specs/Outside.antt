-- What is told of the outside, and of which objects the flat map speaks.
use Rattle.std.specs.Prelude.{ℕ, ◌<◌, ◌≢◌, ◌&&◌, ◌||◌, not, nat_lt, Bool, true, false, List, replicate, Option, Some, None, if◌then◌else◌}
use Rattle.vm_base.specs.declared.ids.ObjectKind.{ObjectKind}
use Rattle.vm_base.specs.declared.ids.ObjectKind.TheVariants.{Temp, File, Shared, Wild}
use Rattle.vm_model.specs.declared.script.Header.{Header}
use Rattle.vm_model.specs.declared.script.Declared.{Declared}
use Rattle.vm_model.specs.declared.event.Event.{Event}
use Rattle.vm_model.specs.Named.{declared, named}
use Rattle.vm_model.specs.Regions.{comes_from}

abbrev pub kind_in : Option Declared → ObjectKind
kind_in None = Temp
kind_in (Some object) = object.kind

-- the kind of an object: temporary, where none with its number is declared
abbrev pub kind_of : Header → ℕ → ObjectKind
kind_of header object = if nat_lt object (named header) then kind_in (declared header object) else Temp

-- no declared object is temporary
abbrev pub NoneIsTemporary : Header → Type 0
NoneIsTemporary header = (o : ℕ) → o < named header → kind_of header o ≢ Temp

abbrev pub is_wild_kind : ObjectKind → Bool
is_wild_kind Temp = false
is_wild_kind File = false
is_wild_kind Shared = false
is_wild_kind Wild = true

-- the number is a wild object's, and its region's too
abbrev pub is_wild : Header → ℕ → Bool
is_wild header object = is_wild_kind (kind_of header object)

abbrev pub is_shared_kind : ObjectKind → Bool
is_shared_kind Temp = false
is_shared_kind File = false
is_shared_kind Shared = true
is_shared_kind Wild = false

-- the number is a shared object's, for which the server of shared memory answers, and its region's too
abbrev pub is_shared : Header → ℕ → Bool
is_shared header object = is_shared_kind (kind_of header object)

abbrev pub is_file_kind : ObjectKind → Bool
is_file_kind Temp = false
is_file_kind File = true
is_file_kind Shared = false
is_file_kind Wild = false

abbrev pub is_file_kept : Option Declared → Bool
is_file_kept None = false
is_file_kept (Some object) = is_file_kind object.kind

-- the number is a file object's, and its region's too
abbrev pub is_file : Header → ℕ → Bool
is_file header object = nat_lt object (named header) && is_file_kept (declared header object)

-- what the files hold at the start, by object and page; or it is not told
pub data FilesAtStart : Type 0 where
  Told : (pages : ℕ → ℕ → List ℕ) → FilesAtStart
  Untold : FilesAtStart

-- what is told of the outside: what the files hold at the start, and whether the paging area gives back what it got
pub record Outside : Type 0 where
  pub files : FilesAtStart
  pub paging : Bool

abbrev pub are_untold : FilesAtStart → Bool
are_untold (Told pages) = false
are_untold Untold = true

-- what the pager answers for the object says what its file has
abbrev pub is_said : Header → Outside → ℕ → Bool
is_said header outside object = are_untold outside.files && is_file header object

-- a page of zeros
abbrev pub zeros : Header → List ℕ
zeros header = replicate header.size 0

-- a file's page at the start; where it is not told, zeros until an answer
abbrev pub start_in : Header → FilesAtStart → ℕ → ℕ → List ℕ
start_in header (Told pages) object page = pages object page
start_in header Untold object page = zeros header

abbrev pub start_page : Header → Outside → ℕ → ℕ → List ℕ
start_page header outside object page = start_in header outside.files object page

-- what that file holds at the start is told, if there is one
abbrev pub is_from_told : Header → Outside → Option ℕ → Bool
is_from_told header outside None = true
is_from_told header outside (Some file) = not (is_said header outside file)

-- The number is a file's; or a temporary object's, or region's, where the paging area tells, and so does the file from which it comes, if it
-- comes from one.
abbrev pub is_private_from : Header → Outside → ℕ → Option ℕ → Bool
is_private_from header outside number from =
    (not (nat_lt number (named header)) && (outside.paging && is_from_told header outside from))
    || (nat_lt number (named header) && is_file_kept (declared header number))

-- For regions of files and of temporary memory their pages answer, for shared ones their server, for wild ones the script.
abbrev pub is_private : Header → Outside → ℕ → List Event → Bool
is_private header outside region past = is_private_from header outside region (comes_from region past)

-- of these regions a load answers the flat map: of all but wild ones, and of temporary ones only where the outside tells
abbrev pub is_flat : Header → Outside → ℕ → List Event → Bool
is_flat header outside region past = is_private header outside region past || is_shared header region
