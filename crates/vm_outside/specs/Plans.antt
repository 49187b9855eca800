-- Which calls of a value in memory fail.
use Rattle.std.specs.Prelude.{ℕ, ◌≡◌, ◌==◌, Bool, List, if◌then◌else◌}
use Rattle.std.specs.List.{list_any}
use Rattle.vm_outside.specs.Calls.{Call, weight}
use Rattle.vm_outside.specs.Causes.{next_count}

-- the numbers of the calls that fail, counted from 1, how many calls were made, and how many failed
pub record Planned : Type 0 where
  pub fails : List ℕ
  pub calls : ℕ
  pub faults : ℕ

-- the coming call is one of those that fail
abbrev pub fails_next : Planned → Bool
fails_next plan = list_any (λ n. n == next_count plan.calls) plan.fails

-- the counts after a call that failed
abbrev pub after_fault : Planned → Planned
after_fault plan = record { fails = plan.fails; calls = next_count plan.calls; faults = next_count plan.faults }

-- the counts after a call that did not fail
abbrev pub after_pass : Planned → Planned
after_pass plan = record { fails = plan.fails; calls = next_count plan.calls; faults = plan.faults }

-- a call of a backing is counted, but for a write that found no memory
abbrev pub PlanCounts : Call → Planned → Planned → Type 0
PlanCounts call old new = new.calls ≡ (if weight call == 1 then next_count old.calls else old.calls)

-- bytes that are left or were written, and the calls that fail
pub record PlannedBytes : Type 0 where
  pub bytes : List ℕ
  pub plan : Planned
