-- What the files hold once all messages are taken: the flat map's bytes.
use Rattle.std.specs.Prelude.{ℕ, ◌*◌, ◌<◌, ◌≡◌, Bool, true, false, List, [], ◌∷◌, drop, length, Option, Some, None, unwrap_or}
use Rattle.vm_model.specs.declared.event.Device.TheVariants as device
use Rattle.vm_model.specs.declared.event.Event.{Event}
use Rattle.vm_model.specs.declared.event.Event.TheVariants as event
use Rattle.vm_model.specs.declared.script.Header.{Header}
use Rattle.vm_model.specs.Controls.{live_control}
use Rattle.vm_model.specs.Named.{declared_pages}
use Rattle.vm_legal.specs.Flat.{flat_page}
use Rattle.vm_legal.specs.Licences.{tells}
use Rattle.vm_legal.specs.Outside.{Outside, is_file}
use Rattle.vm_legal.specs.Undelivered.{undelivered}
use Rattle.vm_outside.specs.Areas.{Told, read_at}
use Rattle.pg_file.specs.Stands.{name_of}
use Rattle.vm_system.specs.Keeping.{MayHave}

-- some call of the files has failed
abbrev pub files_failed : List Event → Bool
files_failed [] = false
files_failed (event.DeviceFailed device.Files way object page ∷ past) = true
files_failed (e ∷ past) = files_failed past

-- a file has the flat map's bytes of each page of its object, with zeros past the file's end
abbrev pub HasFlatPages : Header → Outside → (List ℕ → Told) → ℕ → List Event → Type 0
HasFlatPages header outside areas object history =
    (now : Option (List ℕ)) × (areas (name_of header object) ≡ Some now)
    × ((page : ℕ) → page < declared_pages header object
    → read_at (unwrap_or now []) (page * header.size) header.size ≡ flat_page header outside object page history)

-- What stands past the object's end is as it was, byte by byte, and the file ends there where it did. And where nothing is undelivered, no call of
-- the files has failed, and no control of a file lives on its host, a file that is told has the flat map's pages.
pub record FilesAreFlat (header : Header) (outside : Outside) (start areas : List ℕ → Told) (history : List Event) : Type 0 where
  pub beyond : (object : ℕ) (was : Option (List ℕ)) → is_file header object ≡ true → start (name_of header object) ≡ Some was
      → (now : Option (List ℕ)) × (areas (name_of header object) ≡ Some now)
      × (drop (declared_pages header object * header.size) (unwrap_or now []) ≡ drop (declared_pages header object * header.size) (unwrap_or was []))
  pub pages : undelivered history ≡ [] → files_failed history ≡ false → (host object : ℕ) → host < length header.frames.items → MayHave host object history
      → live_control host object history ≡ None
      → is_file header object ≡ true → tells header outside object ≡ true → HasFlatPages header outside areas object history
