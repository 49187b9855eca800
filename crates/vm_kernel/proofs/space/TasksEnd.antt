-- Tasks end, and ranges are unmapped.
use Rattle.vm_kernel.proofs.Common.{Access, AllRows, Bool, ChainTable, ChangesOnly, Command, Entry, Event, HasTasks, HasUse, HasWaiters, Header, Ids}
use Rattle.vm_kernel.proofs.Common.{IsDoneInTurn, IsShared, List, MapChange, Mapped, None, ObjectTable, On, Option, Outside, Parts, Raised, Ran, ResidentTable}
use Rattle.vm_kernel.proofs.Common.{Rests, Some, Starts, Sweeps, TaskId, Waiting, [], ap, cut_at_ends, entries_in, entries_of, eqb_tells, false, holds, host_of}
use Rattle.vm_kernel.proofs.Common.{if◌then◌else◌, in_use, inl, inr, is_on, is_woken, next_region, parts_for, parts_in, refl, removal, removed, rows_in}
use Rattle.vm_kernel.proofs.Common.{rows_rewritten, subst, sym, true, unwrap_or, waiting, ℕ, ◌++◌, ◌==◌, ◌∙◌, ◌∷◌, ◌≡◌}
use Rattle.std.proofs.Common.{is_some}
use Rattle.vm_model.specs.declared.event.Event.TheVariants as event
use Rattle.vm_model.specs.declared.command.Command.TheVariants as command
use Rattle.vm_supply.specs.declared.woken.Woken.TheVariants as woken
use Rattle.vm_kernel.proofs.space.EntriesChanged.{acts, changed_by, lives_as, may_remove, uses_fewer}
use Rattle.vm_kernel.proofs.abroad.OwnHost.{lives_in}
use Rattle.vm_kernel.proofs.space.EntriesCut.{Cuts, ended_cuts, removed_cuts}
use Rattle.vm_kernel.proofs.steps.EventsGrow.{suffices}
use Rattle.vm_kernel.proofs.steps.HeadAlone.{grows_one}
use Rattle.vm_kernel.proofs.space.CountsChanged.{raised_none}
use Rattle.vm_kernel.proofs.space.EntriesRewritten.{tasks_changed}
use Rattle.vm_kernel.proofs.space.SharedEntries.{shared_changed}
use Rattle.vm_kernel.proofs.space.RegionsInUse.{ApartFrom, elsewhere, fills_here, holds_rows, uses_cut}
use Rattle.vm_kernel.proofs.abroad.OwnEvents.{own_task}
use Rattle.vm_kernel.proofs.controls.LockReplied.{replied_behind}
use Rattle.vm_state.specs.Passed.{IsUnmet, StaysAway, Unmet}
use Rattle.vm_base.specs.declared.ids.PageKey.{PageKey}
use Rattle.vm_kernel.proofs.space.RegionHomes.{homes_caused}
use Rattle.vm_merge.specs.Merges.{IsThin}
use Rattle.vm_copies.specs.Copies.{CopyTable}

-- a task ends

tasks_ended : (h : ℕ) (size task : ℕ) (maps new : Mapped) (host_at : ℕ → Option ℕ) (rows_at : ℕ → List Entry) → HasTasks h size maps host_at rows_at
    → ChangesOnly maps new task None
    → HasTasks h size new (λ t. if task == t then None else host_at t) (λ t. if task == t then [] else rows_at t)
tasks_ended h size task maps new host_at rows_at has changes =
    record {
      sized = changes.size ∙ has.sized;
      hosts = λ t. elim (eqb_tells task t) [
        | inl same ↦ ap (λ b. is_on h (if b then None else host_at t)) same.0 ∙ (sym (ap is_some changes.changed) ∙ ap (λ z. is_some (entries_in z new)) same.1)
        | inr apart ↦ ap (λ b. is_on h (if b then None else host_at t)) apart.0 ∙ (has.hosts t ∙ sym (ap is_some (changes.others t (λ e. apart.1 (sym e)))))
      ];
      rows = λ t here. elim (eqb_tells task t) [
        | inl same ↦ ap (λ b. if b then [] else rows_at t) same.0 ∙ (sym (ap (λ z. unwrap_or z []) changes.changed) ∙ ap (λ z. rows_in z new) same.1)
        | inr apart ↦ ap (λ b. if b then [] else rows_at t) apart.0
            ∙ (has.rows t (ap is_some (sym (changes.others t (λ e. apart.1 (sym e)))) ∙ here)
            ∙ sym (ap (λ z. unwrap_or z []) (changes.others t (λ e. apart.1 (sym e)))))
      ];
    }

-- a task that ends didn't wait
waits_ended : {copies : CopyTable} {stays : PageKey → Type 0} {unmet : PageKey → Unmet} (maps : Mapped) (cs : ChainTable) (rs : ResidentTable)
    (os : ObjectTable)
    (rows : List Waiting) (who : On → Bool)
    (waiting_at : ℕ → Option Access) (task : ℕ) → HasWaiters maps cs copies rs os rows who waiting_at stays unmet → entries_in task maps ≡ None
    → HasWaiters maps cs copies rs os rows who (λ t. if task == t then None else waiting_at t) stays unmet
waits_ended maps cs rs os rows who waiting_at task has none =
    record {
      is = λ t here. elim (eqb_tells task t) [
        | inl same ↦ absurd (let bad : false ≡ true = sym (ap is_some none) ∙ (ap (λ z. is_some (entries_in z maps)) same.1 ∙ here) in cc)
        | inr apart ↦ ap (λ b. if b then None else waiting_at t) apart.0 ∙ has.is t here
      ];
      allowed = has.allowed;
      sized = has.sized;
      reasons = has.reasons;
      passed = has.passed;
      aims = has.aims;
      askers = has.askers;
      ready = has.ready;
    }

-- a task that has ended holds nothing, and others hold what they held
apart_ended : {list : List Waiting} (header : Header) (size : ℕ) (maps new : Mapped) (used_at : ℕ → Bool) (made : List ℕ) (n : ℕ) (task : TaskId)
    (past : List Event) → HasUse header maps list used_at made (λ t r. holds size t r past) n → ChangesOnly maps new task.0 None
    → ApartFrom new used_at (λ t r. holds size t r (event.TaskEnded task ∷ past)) n
apart_ended header size maps new used_at made n task past has changes t r none why = elim (eqb_tells task.0 t) [
  | inl same ↦ rw same.0 refl
  | inr apart ↦ rw apart.0 (has.apart t r (sym (changes.others t (λ e. apart.1 (sym e))) ∙ none) why)
]

pub sweeps_exit : (header : Header) (h : ℕ) (outside : Outside) (task : TaskId) (past events : List Event) (k : Parts) (ids : Ids) (maps : Mapped)
    (gone : List Entry) → Starts header h (command.Exit task) past k ids events
    → entries_in task.0 k.maps ≡ Some gone → ChangesOnly k.maps maps task.0 None
    → Sweeps header h outside (command.Exit task) past (record k { maps = maps }) ids gone (event.TaskEnded task ∷ [])
sweeps_exit header h outside task past events k ids maps gone s value changes =
    let m = s.rests.matches in
    let live = lives_as task.0 k.maps gone value in
    let rows = rows_in task.0 k.maps in
    let cuts = ended_cuts header.size k.chains rows gone (m.core.spaces.entries.inside task.0) live.0 in
    let idle = acts task.0 past None s.accepted in
    let c = changed_by header h past k ids maps k.chains task.0 None gone [] s.rests idle changes live.1 cuts (raised_none k.chains) in
    let shown_tasks : HasTasks h header.size maps (λ t. host_of t (event.TaskEnded task ∷ past)) (λ t. entries_of header.size t (event.TaskEnded task ∷ past)) =
    tasks_ended h header.size task.0 k.maps maps (λ t. host_of t past) (λ t. entries_of header.size t past) m.core.spaces.tasks changes in
    let shown_waits : HasWaiters maps k.chains k.copies k.memory.resident k.memory.objects k.waits.rows (is_woken woken.Nobody)
    (λ t. waiting t (event.TaskEnded task ∷ past)) (StaysAway header h (event.TaskEnded task ∷ past)) (IsUnmet header h (event.TaskEnded task ∷ past)) =
    waits_ended maps k.chains k.memory.resident k.memory.objects k.waits.rows (is_woken woken.Nobody) (λ t. waiting t past) task.0 c.waits changes.changed in
    record {
      runs = record {
        begins = s.begins;
        matches = record {
          core = record {
            setting = m.core.setting;
            calm = m.core.calm;
            fits = m.core.fits;
            spaces = record {
              tasks = shown_tasks;
              entries = c.entries;
              shared = shared_changed header task.0 k.maps maps None changes tt m.core.spaces.shared;
              uses =
                  uses_cut header k.maps maps k.waits.rows (λ r. in_use header h r past) _ (next_region header past) (event.TaskEnded task ∷ past) task.0 None
                  m.core.spaces.uses changes live.1 (λ r some. uses_fewer header.size task.0 r k.maps maps k.chains None m.core.spaces.entries changes live.1
                  cuts.own some)
                  (record { rows = shown_tasks.rows; filled = fills_here {past = event.TaskEnded task ∷ past} shown_waits c.used.copies }) c.entries.most
                  (apart_ended header header.size k.maps maps (λ r. in_use header h r past) _ (next_region header past) task past m.core.spaces.uses changes);
              homes = homes_caused header outside h k.chains (event.TaskEnded task) past (command.Exit task, idle) c.homes;
            };
            objects = c.objects;
            copied = c.copied;
            controls = m.core.controls;
            flags = m.core.flags;
            pages = m.core.pages;
          };
          settled = record { none_owed = refl; shut = λ region. refl };
          replied = replied_behind tt m.replied;
        };
        waits = shown_waits;
        order = s.rests.order;
        idle = s.rests.idle;
        grows =
            grows_one header h outside (command.Exit task) past (event.TaskEnded task) refl
            (record {
              settled = m.settled;
              cause = idle;
              own_bytes = tt;
              frames = suffices header h k.memory.frames (event.TaskEnded task ∷ past) m.core.pages.counted;
              inner = tt;
              said = tt;
              own = own_task h task.0 past s.acts;
              creates = tt;
            });
      };
      used = c.used;
      referred = c.referred;
    }

-- a range is unmapped

-- what is left of entries keeps their inheritance
shared_removed : (header : Header) (size address bytes : ℕ) (rows : List Entry) → AllRows (IsShared header) rows
    → AllRows (IsShared header) (removed size address bytes rows)
shared_removed header size address bytes rows all =
    rows_rewritten size (IsShared header) (λ row. []) (λ row start end is low less high. is) (λ row is. tt) address bytes rows all

pub sweeps_removed : (header : Header) (h : ℕ) (outside : Outside) (task : TaskId) (address bytes : ℕ) (past events : List Event) (k : Parts) (ids : Ids)
    (maps : Mapped) (chains : ChainTable) (change : MapChange) (gone : List Entry)
    → Starts header h (command.Deallocate task address bytes) past k ids events → change ≡ removal address bytes
    → ChangesOnly k.maps maps task.0 (Some (removed k.maps.size change.address change.bytes (rows_in task.0 k.maps))) → gone ≡ parts_for k.maps task.0 change
    → Raised (cut_at_ends address bytes (rows_in task.0 k.maps)) k.chains chains
    → Sweeps header h outside (command.Deallocate task address bytes) past (record k { maps = maps; chains = chains }) ids gone
    (event.Removed task address bytes ∷ [])
sweeps_removed header h outside task address bytes past events k ids maps chains change gone s is changes taken up =
    let m = s.rests.matches in
    let lives = lives_in task.0 m.core.spaces.tasks s.acts in
    let rows = rows_in task.0 k.maps in
    let made = removed header.size address bytes rows in
    let more = cut_at_ends address bytes rows in
    let parts : gone ≡ parts_in header.size address bytes rows = taken
    ∙ (ap (λ z. parts_for k.maps task.0 z) is ∙ ap (λ z. parts_in z address bytes rows) m.core.spaces.tasks.sized) in
    let cuts = subst (λ (z : List Entry). Cuts header.size k.chains rows made z more) (sym parts)
    (removed_cuts header.size address bytes k.chains rows (m.core.spaces.entries.inside task.0) (may_remove s)) in
    let idle = acts task.0 past _ s.accepted in
    let same : ChangesOnly k.maps maps task.0 (Some made) =
    record {
      size = changes.size;
      changed = changes.changed
          ∙ ap Some (ap (λ z. removed k.maps.size z.address z.bytes rows) is ∙ ap (λ z. removed z address bytes rows) m.core.spaces.tasks.sized);
      others = changes.others;
    } in
    let c = changed_by header h past k ids maps chains task.0 (Some made) gone more s.rests idle same lives cuts up in
    let shown_tasks : HasTasks h header.size maps (λ t. host_of t (event.Removed task address bytes ∷ past))
    (λ t. entries_of header.size t (event.Removed task address bytes ∷ past)) =
    tasks_changed h header.size task.0 k.maps maps (λ t. host_of t past) (λ t. entries_of header.size t past) (removed header.size address bytes)
    m.core.spaces.tasks same
    lives in
    record {
      runs = record {
        begins = s.begins;
        matches = record {
          core = record {
            setting = m.core.setting;
            calm = m.core.calm;
            fits = m.core.fits;
            spaces = record {
              tasks = shown_tasks;
              entries = c.entries;
              shared =
                  shared_changed header task.0 k.maps maps (Some made) same
                  (shared_removed header header.size address bytes rows (m.core.spaces.shared task.0))
                  m.core.spaces.shared;
              uses =
                  uses_cut header k.maps maps k.waits.rows (λ r. in_use header h r past) _ (next_region header past) (event.Removed task address bytes ∷ past)
                  task.0 (Some made) m.core.spaces.uses same lives (λ r some. uses_fewer header.size task.0 r k.maps maps k.chains (Some made)
                  m.core.spaces.entries same lives cuts.own
                  some)
                  (record { rows = shown_tasks.rows; filled = fills_here {past = event.Removed task address bytes ∷ past} c.waits c.used.copies })
                  c.entries.most
                  (λ t r none why.
                  let other = elsewhere maps task.0 t made same.changed none in
                  let was = sym (changes.others t (λ e. other (sym e))) ∙ none in
                  holds_rows header.size task.0 t r k.maps rows _ past lives was ∙ m.core.spaces.uses.apart t r was why);
              homes = homes_caused header outside h chains (event.Removed task address bytes) past (command.Deallocate task address bytes, idle) c.homes;
            };
            objects = c.objects;
            copied = c.copied;
            controls = m.core.controls;
            flags = m.core.flags;
            pages = m.core.pages;
          };
          settled = record { none_owed = refl; shut = λ region. refl };
          replied = replied_behind tt m.replied;
        };
        waits = c.waits;
        order = s.rests.order;
        idle = s.rests.idle;
        grows =
            grows_one header h outside (command.Deallocate task address bytes) past (event.Removed task address bytes) refl
            (record {
              settled = m.settled;
              cause = idle;
              own_bytes = tt;
              frames = suffices header h k.memory.frames (event.Removed task address bytes ∷ past) m.core.pages.counted;
              inner = tt;
              said = tt;
              own = own_task h task.0 past s.acts;
              creates = tt;
            });
      };
      used = c.used;
      referred = c.referred;
    }

-- once all that has gone is swept
pub ran_swept : (header : Header) (h : ℕ) (outside : Outside) (doing : Command) (past events : List Event) (k : Parts) (ids : Ids)
    → Sweeps header h outside doing past k ids [] events → IsThin k.copies k.chains k.memory.objects → IsDoneInTurn header doing events past
    → Ran header h outside doing past k ids events
ran_swept header h outside doing past events k ids s thin done =
    let rests : Rests header h k ids (events ++ past) = record {
      matches = s.runs.matches;
      used = s.used;
      referred = s.referred;
      thin = thin;
      waits = s.runs.waits;
      order = s.runs.order;
      idle = s.runs.idle;
    } in
    record { rests = rests; grows = s.runs.grows; done = done }

-- what has gone is what the history says

pub exit_gone : {header : Header} {h : ℕ} {task : TaskId} {past events : List Event} {k : Parts} {ids : Ids} (gone : List Entry)
    → Starts header h (command.Exit task) past k ids events → entries_in task.0 k.maps ≡ Some gone → gone ≡ entries_of header.size task.0 past
exit_gone {task = task} {k = k} gone s value =
    let m = s.rests.matches in
    let live = lives_as task.0 k.maps gone value in
    sym live.0 ∙ sym (m.core.spaces.tasks.rows task.0 (ap is_some value))

pub removed_gone : {header : Header} {h : ℕ} {task : TaskId} {address bytes : ℕ} {past events : List Event} {k : Parts} {ids : Ids} (change : MapChange)
    (gone : List Entry) → Starts header h (command.Deallocate task address bytes) past k ids events
    → change ≡ removal address bytes → gone ≡ parts_for k.maps task.0 change → gone ≡ parts_in header.size address bytes (entries_of header.size task.0 past)
removed_gone {header = header} {task = task} {address = address} {bytes = bytes} {k = k} change gone s is taken =
    let m = s.rests.matches in
    let rows = rows_in task.0 k.maps in
    taken ∙ (ap (λ z. parts_for k.maps task.0 z) is ∙ (ap (λ z. parts_in z address bytes rows) m.core.spaces.tasks.sized
    ∙ ap (λ z. parts_in header.size address bytes z) (sym (m.core.spaces.tasks.rows task.0 (ap is_some (lives_in task.0 m.core.spaces.tasks s.acts))))))
