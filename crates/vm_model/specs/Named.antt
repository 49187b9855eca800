-- The objects that a header declares.
use Rattle.std.specs.Prelude.{ℕ, ◌≢◌, List, length, reverse, slice_get, Option, Some, None}
use Rattle.std.specs.List.{AllPairs}
use Rattle.vm_model.specs.declared.script.Header.{Header}
use Rattle.vm_model.specs.declared.script.Declared.{Declared}

abbrev pub declared : Header → ℕ → Option Declared
declared header object = slice_get (reverse header.objects.items) object

-- how many they are
abbrev pub named : Header → ℕ
named header = length header.objects.items

abbrev pub pages_kept : Option Declared → ℕ
pages_kept None = 0
pages_kept (Some object) = object.pages

-- the pages of a declared object
abbrev pub declared_pages : Header → ℕ → ℕ
declared_pages header object = pages_kept (declared header object)

-- no two of them have one name
abbrev pub AreNamedOnce : List Declared → Type 0
AreNamedOnce objects = AllPairs (λ newer older. newer.name ≢ older.name) objects
