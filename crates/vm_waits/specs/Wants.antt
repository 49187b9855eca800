-- What an access is to do: where, how much, and what it needs; with the size of pages.
use Rattle.std.specs.Prelude.{ℕ, ◌+◌, ◌*◌, ◌%◌, ◌^◌, ◌<◌, ◌≤◌, ◌≡◌, Bool, true, false}
use Rattle.vm_base.specs.declared.ids.Access.{Access as Need}
use Rattle.vm_base.specs.declared.ids.Access.TheVariants as need
use Rattle.vm_base.specs.Pages.{IsAccessSize}
use Rattle.vm_waits.specs.declared.waiting.Want.{Want}
use Rattle.vm_waits.specs.declared.waiting.Want.TheVariants as want

-- the address that an access is about now: of a slow copy that of its next page
abbrev pub address_in : ℕ → Want → ℕ
address_in size (want.Load address bytes) = address
address_in size (want.Store address bytes value) = address
address_in size (want.CopyTo address pages target next) = address + next * size

-- the number of bytes there that it is about
abbrev pub want_size : ℕ → Want → ℕ
want_size size (want.Load address bytes) = bytes
want_size size (want.Store address bytes value) = bytes
want_size size (want.CopyTo address pages target next) = size

-- what it needs of its entry
abbrev pub need_in : Want → Need
need_in (want.Load address bytes) = need.Load
need_in (want.Store address bytes value) = need.Store
need_in (want.CopyTo address pages target next) = need.Load

-- an access is of a number of bytes that there may be, at a multiple of it; a slow copy is of whole pages with addresses below 2^32, and has one left
abbrev pub IsSizedWant : ℕ → Want → Type 0
IsSizedWant size (want.Load address bytes) = IsAccessSize bytes × (address % bytes ≡ 0)
IsSizedWant size (want.Store address bytes value) = IsAccessSize bytes × (address % bytes ≡ 0) × (value < 256 ^ bytes)
IsSizedWant size (want.CopyTo address pages target next) = (address % size ≡ 0) × (next < pages) × (address + pages * size ≤ 2 ^ 32)

-- an access is a slow copy
abbrev pub is_copying : Want → Bool
is_copying (want.Load address bytes) = false
is_copying (want.Store address bytes value) = false
is_copying (want.CopyTo address pages target next) = true

-- a load or a store, and no slow copy
abbrev pub IsOfNumber : Want → Type 0
IsOfNumber (want.Load address bytes) = Unit {0}
IsOfNumber (want.Store address bytes value) = Unit {0}
IsOfNumber (want.CopyTo address pages target next) = ⊥

-- the next page of a slow copy is copied; other accesses go by no pages
abbrev pub with_page_done : Want → Want
with_page_done (want.CopyTo address pages target next) = want.CopyTo address pages target (next + 1)
with_page_done other = other
