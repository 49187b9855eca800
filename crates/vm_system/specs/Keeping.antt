-- What the paging areas and the files keep, in terms of the history alone.
use Rattle.std.specs.Prelude.{ℕ, ◌*◌, ◌≡◌, ◌⊎◌, true, false, List, [], Option, Some, None, unwrap_or}
use Rattle.vm_model.specs.declared.event.Event.{Event}
use Rattle.vm_model.specs.declared.script.Header.{Header}
use Rattle.vm_model.specs.Homes.{home_of}
use Rattle.vm_legal.specs.Licences.{tells}
use Rattle.vm_legal.specs.Outside.{Outside, is_file}
use Rattle.vm_legal.specs.Pagers.{is_lost, last_return, slot_at}
use Rattle.vm_outside.specs.Areas.{Told, read_at}
use Rattle.pg_file.specs.Stands.{FileKept, IsStartTold, name_of}
use Rattle.pg_slots.specs.Contents.{area_name}

-- The paging area of a host tells, and each page that has a slot and isn't lost has there the bytes of its last return that its pager took.
abbrev pub PagingHasPages : Header → ℕ → (List ℕ → Told) → List Event → Type 0
PagingHasPages header h areas history =
    (was : Option (List ℕ)) × (areas (area_name h) ≡ Some was)
    × ((o p s : ℕ) (bytes : List ℕ) → slot_at header h o p history ≡ Some s → is_lost o p history ≡ false → last_return h o p history ≡ Some bytes
    → read_at (unwrap_or was []) (s * header.size) header.size ≡ bytes)

-- where the paging area of a host told before, it has the pages
pub record PagingKeepsPages (header : Header) (h : ℕ) (outside : Outside) (areas : List ℕ → Told) (history : List Event) : Type 0 where
  pub at : outside.paging ≡ true → PagingHasPages header h areas history

-- the host has the file's pages, or none has them yet
abbrev pub MayHave : ℕ → ℕ → List Event → Type 0
MayHave host object past = (home_of object past ≡ None) ⊎ (home_of object past ≡ Some host)

-- From what the files held at the start: each declared file has what was returned, and else what it had, and all other areas are as they were.
pub record FilesCarry (header : Header) (start areas : List ℕ → Told) (history : List Event) : Type 0 where
  pub kept : (object : ℕ) (was : Option (List ℕ)) → is_file header object ≡ true → start (name_of header object) ≡ Some was
      → (now : Option (List ℕ)) × (areas (name_of header object) ≡ Some now)
      × ((host : ℕ) → MayHave host object history → FileKept header.size host object was now history)
  pub others : (name : List ℕ) (was : Option (List ℕ)) → ((object : ℕ) → is_file header object ≡ true → name_of header object ≡ name → ⊥)
      → start name ≡ Some was → areas name ≡ Some was

-- what is told of the files at the start is what they held
pub record FilesAreTold (header : Header) (outside : Outside) (start : List ℕ → Told) : Type 0 where
  pub at : (object : ℕ) → tells header outside object ≡ true → is_file header object ≡ true → (was : Option (List ℕ))
      × (start (name_of header object) ≡ Some was) × IsStartTold header outside object was
