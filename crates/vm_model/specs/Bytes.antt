-- Numbers in pages.
use Rattle.std.specs.Prelude.{ℕ, ◌+◌, ◌%◌, List, slice_range}
use Rattle.vm_base.specs.Pages.{little_endian}

-- the little-endian number in so many bytes of a page, from the place on that the address means
abbrev pub number_at : List ℕ → ℕ → ℕ → ℕ → ℕ
number_at page size address bytes = little_endian (slice_range page (address % size) (address % size + bytes))
