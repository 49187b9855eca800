-- What stands in a sink.
use Rattle.std.specs.Prelude.{ℕ, ◌-◌, ◌≤◌, List, length, take, drop, Option}
use Rattle.std.specs.Io.KnownBytes.{Appends}

-- the oldest so many of a list that has the newest first
abbrev pub oldest_items : {A : Type 0} → ℕ → List A → List A
oldest_items n items = drop (length items - n) items

-- a first part of the text was written
abbrev pub WroteStart : Option (List ℕ) → Option (List ℕ) → List ℕ → Type 0
WroteStart before after text = (n : ℕ) × Appends before after (take n text)

-- a first part of the text was written, at least as long as this one
abbrev pub WroteBeyond : Option (List ℕ) → Option (List ℕ) → List ℕ → List ℕ → Type 0
WroteBeyond before after front text = (n : ℕ) × (length front ≤ n) × Appends before after (take n text)
