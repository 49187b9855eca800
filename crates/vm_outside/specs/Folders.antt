-- Which names the files of a folder may have.
use Rattle.std.specs.List.{list_all}
use Rattle.std.specs.Prelude.{ℕ, ◌==◌, ◌&&◌, ◌||◌, nat_le, nat_lt, Bool, List, length, slice_index}

abbrev pub is_small_letter : ℕ → Bool
is_small_letter byte = nat_le 97 byte && nat_le byte 122

-- a lower-case letter, a digit or an underscore
abbrev pub is_plain : ℕ → Bool
is_plain byte = is_small_letter byte || ((nat_le 48 byte && nat_le byte 57) || byte == 95)

-- 1 to 32 of them, a letter first: so no separator, no dot and no byte 0 stands in it
abbrev pub is_file_name : List ℕ → Bool
is_file_name name =
    nat_lt 0 (length name) && (nat_le (length name) 32 && (is_small_letter (slice_index name 0) && list_all is_plain name))
