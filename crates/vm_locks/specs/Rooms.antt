-- What a lock request uses of the room that a host has.
use Rattle.std.specs.Prelude.{ℕ, ◌+◌, ◌≤◌}
use Rattle.vm_parts.specs.Listed.{listed_pages}
use Rattle.vm_parts.specs.declared.parts.HostParts.{HostParts}

-- at most a place in the log and a buffer for each page that is here, and a place more for the reply; of rows and objects nothing
pub record LeavesRoom (old new : HostParts) (before after : ℕ) : Type 0 where
  pub log : before ≤ after + listed_pages old.queues + 1
  pub buffers : old.buffers.count ≤ new.buffers.count + listed_pages old.queues
  pub rows : old.resident.spare ≤ new.resident.spare
  pub objects : old.objects.rows ≤ new.objects.rows
