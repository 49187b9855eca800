-- The limits of scripts and of histories.
use Rattle.std.specs.Prelude.{ℕ}

abbrev pub most_script_bytes : ℕ
most_script_bytes = 1048576

abbrev pub most_script_lines : ℕ
most_script_lines = 20000

-- no step begins once the history has so many events
abbrev pub most_events : ℕ
most_events = 200000

-- of one settle
abbrev pub most_takings : ℕ
most_takings = 1000000

-- the latest coming call of a backing that a script can make fail
abbrev pub most_calls : ℕ
most_calls = 1000000
