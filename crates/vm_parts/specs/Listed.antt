-- How many pages are on the lists of a host.
use Rattle.std.specs.Prelude.{ℕ, ◌+◌, length}
use Rattle.vm_queues.specs.Queues.{Queues}

-- how many pages are here
abbrev pub listed_pages : Queues → ℕ
listed_pages queues = length queues.active + length queues.inactive
