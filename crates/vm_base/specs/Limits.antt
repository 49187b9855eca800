-- The limits of what a run has. That of a task's entries stands with these (`most_entries`).
use Rattle.std.specs.Prelude.{ℕ, ◌^◌}

abbrev pub most_hosts : ℕ
most_hosts = 8

-- of one host
abbrev pub least_frames : ℕ
least_frames = 2

abbrev pub most_frames : ℕ
most_frames = 4096

-- the numbers of tasks are below it
abbrev pub most_tasks : ℕ
most_tasks = 1024

-- each address is below it
abbrev pub address_end : ℕ
address_end = 2 ^ 32

-- of one object
abbrev pub most_pages : ℕ
most_pages = 4096

-- the greatest page of an object
abbrev pub last_page : ℕ
last_page = 4095

-- objects that a run makes, the declared ones and the marked regions with them
abbrev pub most_objects : ℕ
most_objects = 8192

-- regions that a run makes, those of the declared objects with them
abbrev pub most_regions : ℕ
most_regions = 8192

-- of one host
abbrev pub most_slots : ℕ
most_slots = 65536
