-- A file's pager, as contracts see it, and what a file has of a page.
use Rattle.std.specs.Prelude.{ℕ, ◌≡◌, ◌<◌, ◌≤◌, ◌*◌, ◌==◌, ◌&&◌, Bool, List, length, Option, Some, None, if◌then◌else◌}
use Rattle.std.specs.List.{list_any}
use Rattle.vm_base.specs.declared.ids.PageNo.{PageNo}
use Rattle.pg_file.specs.declared.pager.KnownControl.{KnownControl}

-- the number of the file object, the file's name, the bytes of a page, the control that the pager knows, and the
-- pages whose last write failed
pub record FileTable : Type 0 where
  pub object : ℕ
  pub name : List ℕ
  pub size : ℕ
  pub known : Option KnownControl
  pub lost : List PageNo

abbrev pub is_among : ℕ → List PageNo → Bool
is_among page pages = list_any (λ p. p.0 == page) pages

-- the last write of the page failed
abbrev pub has_lost : FileTable → ℕ → Bool
has_lost table page = is_among page table.lost

-- the object, the name and the page size are as before
pub record KeepsShape (old new : FileTable) : Type 0 where
  pub object : new.object ≡ old.object
  pub name : new.name ≡ old.name
  pub size : new.size ≡ old.size

-- one page is lost now, or isn't, and all else is as before
pub record MarksPage (page : ℕ) (lost : Bool) (old new : FileTable) : Type 0 where
  pub object : new.object ≡ old.object
  pub name : new.name ≡ old.name
  pub size : new.size ≡ old.size
  pub known : new.known ≡ old.known
  pub at : (p : ℕ) → has_lost new p ≡ (if page == p then lost else has_lost old p)

-- what is known once a control of a host has ended
abbrev pub without_known : ℕ → ℕ → Option KnownControl → Option KnownControl
without_known host control None = None
without_known host control (Some known) = if known.host.0 == host && known.control == control then None else Some known

-- some byte of the page is in the file
abbrev pub HasPage : ℕ → ℕ → Option (List ℕ) → Type 0
HasPage size page None = ⊥
HasPage size page (Some bytes) = page * size < length bytes

-- there is no file, or the page lies wholly past its end
abbrev pub LacksPage : ℕ → ℕ → Option (List ℕ) → Type 0
LacksPage size page None = Unit {0}
LacksPage size page (Some bytes) = length bytes ≤ page * size
