-- A task is made, or its entries become others.
use Rattle.vm_kernel.proofs.Common.{AllEntriesInside, ChainTable, ChangesOnly, Entry, Event, HasEntries, HasTasks, Header, Ids, IsInside, List, Mapped, None}
use Rattle.vm_kernel.proofs.Common.{Parts, RegionRow, Some, Starts, TaskId, [], all_tasks, ap, arith, count_by, count_on, entered, entries_in, entries_of}
use Rattle.vm_kernel.proofs.Common.{eqb_tells, false, got, has_region, host_id, host_of, inl, inr, is_on, is_some, length, most_entries, refl, region_at}
use Rattle.vm_kernel.proofs.Common.{region_pages, rows_in, rows_map, subst, sym, true, unwrap_or, ℕ, ◌+◌, ◌<◌, ◌∙◌, ◌∷◌, ◌≡◌, ◌≤◌}
use Rattle.vm_base.specs.declared.code.Code.TheVariants as code
use Rattle.vm_model.specs.declared.event.Event.TheVariants as event
use Rattle.vm_model.specs.declared.command.Command.TheVariants as command
use Rattle.vm_kernel.proofs.space.EntriesCounted.{by_changed, most_is}
use Rattle.vm_legal.proofs.Heads.{passed}
use Rattle.vm_kernel.proofs.abroad.OwnHost.{free_in, own_host, rows_here}

-- a task has no entries yet
pub tasks_made : (h : ℕ) (size : ℕ) (maps new : Mapped) (past : List Event) (task : TaskId)
    → HasTasks h size maps (λ t. host_of t past) (λ t. entries_of size t past) → ChangesOnly maps new task.0 (Some [])
    → HasTasks h size new (λ t. host_of t (event.TaskMade task (host_id h) ∷ past)) (λ t. entries_of size t (event.TaskMade task (host_id h) ∷ past))
tasks_made h size maps new past task has changes =
    record {
      sized = changes.size ∙ has.sized;
      hosts = λ t. elim (eqb_tells task.0 t) [
        | inl same ↦ rw (same.0, ← same.1, changes.changed) (own_host h)
        | inr apart ↦ rw (apart.0, changes.others t (λ e. apart.1 (sym e))) (has.hosts t)
      ];
      rows = λ t here. elim (eqb_tells task.0 t) [
        | inl same ↦ rw (same.0, ← same.1, changes.changed) refl
        | inr apart ↦ rw (apart.0, changes.others t (λ e. apart.1 (sym e))) (has.rows t (ap is_some (sym (changes.others t (λ e. apart.1 (sym e)))) ∙ here))
      ];
    }

-- a living task has an entry more
pub tasks_entered : (h : ℕ) (size : ℕ) (maps new : Mapped) (past : List Event) (task : TaskId) (entry : Entry)
    → HasTasks h size maps (λ t. host_of t past) (λ t. entries_of size t past)
    → ChangesOnly maps new task.0 (Some (entered entry (rows_in task.0 maps))) → entries_in task.0 maps ≡ Some (rows_in task.0 maps)
    → HasTasks h size new (λ t. host_of t (got task entry ∷ past)) (λ t. entries_of size t (got task entry ∷ past))
tasks_entered h size maps new past task entry has changes lives =
    record {
      sized = changes.size ∙ has.sized;
      hosts = λ t. elim (eqb_tells task.0 t) [
        | inl same ↦ subst (λ (z : ℕ). is_on h (host_of z past) ≡ is_some (entries_in z new)) same.1 (rw changes.changed (has.hosts task.0 ∙ ap is_some lives))
        | inr apart ↦ rw (changes.others t (λ e. apart.1 (sym e))) (has.hosts t)
      ];
      rows = λ t here. elim (eqb_tells task.0 t) [
        | inl same ↦ rw same.0 (subst (λ (z : ℕ). entered entry (entries_of size z past) ≡ rows_in z new) same.1
            (rw (changes.changed, rows_here has lives) refl))
        | inr apart ↦ rw (apart.0, changes.others t (λ e. apart.1 (sym e))) (has.rows t (ap is_some (sym (changes.others t (λ e. apart.1 (sym e)))) ∙ here))
      ];
    }

-- the regions that are there stay, with their pages
pub record Keeps (old new : ChainTable) : Type 0 where
  pub there : (r : ℕ) → has_region old r ≡ true → has_region new r ≡ true
  pub pages : (r : ℕ) → has_region old r ≡ true → region_pages new r ≡ region_pages old r

pub keeps_all : (chains : ChainTable) → Keeps chains chains
keeps_all chains = record { there = λ r is. is; pages = λ r is. refl }

pub inside_kept : (size : ℕ) (old new : ChainTable) (row : Entry) → Keeps old new → IsInside size old row → IsInside size new row
inside_kept size old new row keeps is =
    record { region = keeps.there row.region.0 is.region; some = is.some; below = is.below; inside = rw (keeps.pages row.region.0 is.region) is.inside }

-- a task's entries are others now
pub entries_changed : (size : ℕ) (maps new : Mapped) (old chains : ChainTable) (task : ℕ) (rows : List Entry) → HasEntries size maps old [] → Keeps old chains
    → ChangesOnly maps new task (Some rows) → task < all_tasks → AllEntriesInside size chains rows → length rows ≤ most_entries
    → ((r : ℕ) (row : RegionRow) → region_at chains r ≡ Some row → row.entries + count_on r (rows_in task maps) ≡ count_by all_tasks r maps + count_on r rows)
    → HasEntries size new chains []
entries_changed size maps new old chains task rows has keeps changes below all short counts =
    record {
      inside = λ t. elim (eqb_tells task t) [
        | inl same ↦ subst (λ (z : ℕ). AllEntriesInside size chains (rows_in z new)) same.1 (subst (AllEntriesInside size chains) (sym own) all)
        | inr apart ↦ subst (AllEntriesInside size chains) (sym (others t apart.1))
            (rows_map (IsInside size old) (IsInside size chains) (λ row is. inside_kept size old chains row keeps is) (rows_in t maps) (has.inside t))
      ];
      known = tt;
      most = λ t high. changes.others t (λ e. omega (arith, e)) ∙ has.most t high;
      few = λ t. elim (eqb_tells task t) [
        | inl same ↦ subst (λ (z : ℕ). length (rows_in z new) ≤ most_entries) same.1 (subst (λ (z : List Entry). length z ≤ most_entries) (sym own) short)
        | inr apart ↦ subst (λ (z : List Entry). length z ≤ most_entries) (sym (others t apart.1)) (has.few t)
      ];
      counts = λ r row found. omega (arith, counts r row found, by_changed all_tasks r task maps new (Some rows) below changes);
    }
  where
    own : rows_in task new ≡ rows
    own = ap (λ z. unwrap_or z []) changes.changed

    others : (t : ℕ) → (task ≡ t → ⊥) → rows_in t new ≡ rows_in t maps
    others t apart = ap (λ z. unwrap_or z []) (changes.others t (λ e. apart (sym e)))

-- a task that can be made isn't there yet
pub unmade : (header : Header) (h : ℕ) (task : TaskId) (past : List Event) (k : Parts) (ids : Ids) (events : List Event)
    → Starts header h (command.Task task (host_id h)) past k ids events → is_some (host_of task.0 past) ≡ false
unmade header h task past k ids events s = (passed (is_some (host_of task.0 past)) code.NameTaken None s.accepted).0

pub can_make : (header : Header) (h : ℕ) (task : TaskId) (past : List Event) (k : Parts) (ids : Ids) (events : List Event)
    → Starts header h (command.Task task (host_id h)) past k ids events → entries_in task.0 k.maps ≡ None
can_make header h task past k ids events s = free_in task.0 s.rests.matches.core.spaces.tasks (unmade header h task past k ids events s)

-- a new task has no entries among the counts
pub entries_made : (size : ℕ) (maps new : Mapped) (chains : ChainTable) (task : ℕ) → HasEntries size maps chains [] → ChangesOnly maps new task (Some [])
    → entries_in task maps ≡ None → task < 1024 → HasEntries size new chains []
entries_made size maps new chains task has changes free below =
    entries_changed size maps new chains chains task [] has (keeps_all chains) changes (rw most_is below) tt (omega arith)
    (λ r row found. omega (arith, has.counts r row found, ap (λ z. count_on r (unwrap_or z [])) free))
