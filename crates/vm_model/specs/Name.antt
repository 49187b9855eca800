-- The name of a declared object.
use Rattle.std.specs.List.{list_all}
use Rattle.std.specs.Prelude.{ℕ, ◌≡◌, ◌-◌, ◌≤◌, ◌++◌, ◌==◌, ◌&&◌, ◌||◌, nat_le, nat_lt, Bool, IsTrue, List, length, slice_index, take, replicate}

abbrev pub is_lower : ℕ → Bool
is_lower byte = nat_le 97 byte && nat_le byte 122

abbrev pub is_digit : ℕ → Bool
is_digit byte = nat_le 48 byte && nat_le byte 57

abbrev pub is_name_byte : ℕ → Bool
is_name_byte byte = is_lower byte || (is_digit byte || byte == 95)

-- 1 to 32 lower-case letters, digits and underscores, a letter first
abbrev pub is_name : List ℕ → Bool
is_name text =
    nat_lt 0 (length text) && (nat_le (length text) 32 && (is_lower (slice_index text 0) && list_all is_name_byte text))

abbrev pub IsName : List ℕ → Type 0
IsName text = IsTrue (is_name text)

-- a name as it is kept, with zeros behind it
pub record IsKept (bytes : List ℕ) (len : ℕ) : Type 0 where
  pub short : len ≤ 32
  pub name : IsName (take len bytes)
  pub padded : take len bytes ++ replicate (32 - length (take len bytes)) 0 ≡ bytes
  pub whole : length (take len bytes) ≡ len
