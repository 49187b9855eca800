-- What bytes an event carries.
use Rattle.std.specs.Prelude.{ℕ, ◌%◌, ◌≡◌, List, true, false}
use Rattle.vm_base.specs.Entries.{page_at}
use Rattle.vm_model.specs.declared.event.Event.{Event}
use Rattle.vm_model.specs.declared.event.Event.TheVariants as event
use Rattle.vm_model.specs.declared.script.Header.{Header}
use Rattle.vm_model.specs.Bytes.{number_at}
use Rattle.vm_model.specs.Local.{CanRead, CanWrite}
use Rattle.vm_model.specs.Waiting.{Loading, Storing}
use Rattle.vm_legal.specs.Accesses.{Waits}
use Rattle.vm_legal.specs.Flat.{flat_page}
use Rattle.vm_legal.specs.Living.{lives_on}
use Rattle.vm_legal.specs.Outside.{Outside, is_flat, is_private, is_shared}
use Rattle.vm_legal.specs.Walks.{page_on}

-- a load answers the number in the page that its own host has, and can read
pub record AnswersOwn (header : Header) (task object page value : ℕ) (past : List Event) : Type 0 where
  pub address : ℕ
  pub bytes : ℕ
  pub waits : Waits header task (Loading address bytes) past
  pub readable : CanRead (page_on header waits.at.host object page past)
  pub number : value ≡ number_at (page_on header waits.at.host object page past).bytes header.size address bytes

-- a store carries the value with which it began, to the place that its address means in a page that its host can write
pub record PutsOwn (header : Header) (task object page at size value : ℕ) (past : List Event) : Type 0 where
  pub address : ℕ
  pub waits : Waits header task (Storing address size value) past
  pub writable : CanWrite (page_on header waits.at.host object page past)
  pub place : at ≡ address % header.size

-- what is copied is a page that the host can read
abbrev pub OwnBytes : Header → Event → List Event → Type 0
OwnBytes header (event.Loaded task object page value) past = AnswersOwn header task.0 object.0 page.0 value past
OwnBytes header (event.Stored task object page at size value) past = PutsOwn header task.0 object.0 page.0 at size value past
OwnBytes header (event.Raised host lower lower_page upper upper_page) past = CanRead (page_on header host.0 lower.0 lower_page.0 past)
OwnBytes header (event.CopiedPage task page object object_page target) past =
    (host : ℕ) → lives_on host task.0 past ≡ true → CanRead (page_on header host object.0 object_page.0 past)
OwnBytes header other past = Unit {0}

-- a load of a region of temporary, file or shared memory answers the number in the flat map's page, at its address; of temporary memory where
-- the outside tells
pub record AnswersFlat (header : Header) (outside : Outside) (task value : ℕ) (past : List Event) : Type 0 where
  pub address : ℕ
  pub bytes : ℕ
  pub waits : Waits header task (Loading address bytes) past
  pub number : is_flat header outside waits.at.entry.region.0 past ≡ true
      → value ≡ number_at (flat_page header outside waits.at.entry.region.0 (page_at header.size address waits.at.entry) past) header.size address bytes

abbrev pub FlatBytes : Header → Outside → Event → List Event → Type 0
FlatBytes header outside (event.Loaded task object page value) past = AnswersFlat header outside task.0 value past
FlatBytes header outside other past = Unit {0}

-- a slow copy of another object's page takes the flat map's bytes: this is for the laws of those objects to say
abbrev pub CopiesCurrent : Header → Outside → Event → List Event → Type 0
CopiesCurrent header outside (event.CopiedPage task page object object_page target) past =
    is_private header outside object.0 past ≡ false → (host : ℕ) → lives_on host task.0 past ≡ true
    → (page_on header host object.0 object_page.0 past).bytes ≡ flat_page header outside object.0 object_page.0 past
CopiesCurrent header outside other past = Unit {0}

-- whatever load of a shared region ends with a value, that is the number in the flat map's page: this is for the law of shared memory to say
abbrev pub LoadsCurrent : Header → Outside → Event → List Event → Type 0
LoadsCurrent header outside (event.Loaded task object page value) past =
    (address bytes : ℕ) → (waits : Waits header task.0 (Loading address bytes) past) → is_shared header waits.at.entry.region.0 ≡ true
    → value ≡ number_at (flat_page header outside waits.at.entry.region.0 (page_at header.size address waits.at.entry) past) header.size address bytes
LoadsCurrent header outside other past = Unit {0}
