-- A task is made: it doesn't wait, and who waits goes on waiting; and an object is made, which has no control yet.
use Rattle.vm_kernel.proofs.Common.{Access, Bool, ChainTable, ChangesOnly, Event, HasControls, HasWaiters, Header, HostId, Ids, List, Mapped, None, ObjectRow}
use Rattle.vm_kernel.proofs.Common.{ObjectTable, On, Option, Outside, Parts, PutsObject, Ran, ResidentTable, Some, Starts, TaskId, Temp, Waiting}
use Rattle.vm_kernel.proofs.Common.{Without, Works, [], ap, arith, entries_in, entry, eqb_tells, false, holds, host_id, inl, inr, is_some, last_in, live_in}
use Rattle.vm_kernel.proofs.Common.{next_region, object_at, one_case, ready_in, refl, rows_in, some_is, subst, sym, tasks, true, waiting, waiting_in, ℕ, ◌<◌}
use Rattle.vm_kernel.proofs.Common.{◌∙◌, ◌∷◌, ◌≡◌}
use Rattle.vm_kernel.proofs.space.RegionsFilled.{same_waiting}
use Rattle.vm_state.proofs.Filling.{chains_filled, copies_kept, rows_unmade}
use Rattle.std.proofs.lemmas.Bool.Decides.{eqb_tells}
use Rattle.std.specs.Prelude.{unwrap_or}
use Rattle.vm_base.specs.declared.entry.Entry.{Entry}
use Rattle.vm_model.specs.Rows.{AllRows}
use Rattle.vm_maps.specs.Maps.{entries_in}
use Rattle.vm_state.specs.Stands.{AreShared, IsShared}
use Rattle.vm_model.specs.declared.event.Event.TheVariants as event
use Rattle.vm_model.specs.declared.command.Command.TheVariants as command
use Rattle.vm_kernel.proofs.space.EntriesCounted.{most_is}
use Rattle.vm_kernel.proofs.steps.EventsGrow.{suffices}
use Rattle.vm_kernel.proofs.steps.HeadAlone.{heads_one, ran_head}
use Rattle.vm_kernel.proofs.steps.QueueServed.{rests_of, works_at_rest}
use Rattle.vm_kernel.proofs.space.TaskTables.{can_make, entries_made, tasks_made, unmade}
use Rattle.vm_kernel.proofs.space.RegionsInUse.{uses_made}
use Rattle.vm_state.proofs.Waited.{tops_same, waits_changed}
use Rattle.vm_kernel.proofs.abroad.OwnHost.{named_host}
use Rattle.vm_kernel.proofs.abroad.OwnEvents.{own_new}
use Rattle.vm_kernel.proofs.controls.LockReplied.{replied_behind}
use Rattle.vm_base.specs.declared.ids.PageKey.{PageKey}
use Rattle.vm_copies.specs.Copies.{CopyTable}
use Rattle.vm_supply.specs.declared.woken.Woken.TheVariants as woken
use Rattle.vm_state.specs.Passed.{Unmet}

-- who doesn't wait in the history has no row
pub idle_of : (size : ℕ) (x : Option Waiting) (w : Option Access) → w ≡ waiting_in size x → is_some w ≡ false → x ≡ None
idle_of size None w is none = refl
idle_of size (Some row) w is none = absurd (let bad : true ≡ false = sym (ap is_some is) ∙ none in cc)

-- who waits lives
pub no_waiter : {copies : CopyTable} {stays : PageKey → Type 0} {unmet : PageKey → Unmet} (maps : Mapped) (cs : ChainTable) (rs : ResidentTable)
    (os : ObjectTable)
    (rows : List Waiting)
    (who : On → Bool) (waiting_at : ℕ → Option Access) (task : ℕ)
    → HasWaiters maps cs copies rs os rows who waiting_at stays unmet → entries_in task maps ≡ None → entry rows task ≡ None
no_waiter maps cs rs os rows who waiting_at task has free = by_entry (entry rows task) refl
  where
    by_entry : (x : Option Waiting) → entry rows task ≡ x → entry rows task ≡ None
    by_entry None is = is
    by_entry (Some w) is = absurd (let bad : None ≡ Some (rows_in task maps) = sym free ∙ (has.allowed task w is).lives in cc)

-- a new task doesn't wait
pub waits_made : {copies : CopyTable} {stays : PageKey → Type 0} {unmet : PageKey → Unmet} (maps new : Mapped) (cs : ChainTable) (rs : ResidentTable)
    (os : ObjectTable)
    (rows : List Waiting)
    (who : On → Bool) (task : TaskId) (host : HostId) (past : List Event)
    → HasWaiters maps cs copies rs os rows who (λ t. waiting t past) stays unmet → entries_in task.0 maps ≡ None → ChangesOnly maps new task.0 (Some [])
    → HasWaiters new cs copies rs os rows who (λ t. waiting t (event.TaskMade task host ∷ past)) stays unmet
waits_made maps new cs rs os rows who task host past has free changes =
    let none = no_waiter maps cs rs os rows who (λ t. waiting t past) task.0 has free in
    waits_changed maps new cs cs rs os rows who (λ t. waiting t past) task.0 (Some []) has changes none (tops_same cs)
    (λ t here. elim (eqb_tells task.0 t) [
      | inl same ↦ rw same.0 (sym (ap (waiting_in new.size) (ap (entry rows) (sym same.1) ∙ none)))
      | inr apart ↦ rw apart.0 (has.is t (ap is_some (sym (changes.others t (λ e. apart.1 (sym e)))) ∙ here)
          ∙ ap (λ n. waiting_in n (entry rows t)) (sym changes.size))
    ])

-- what others hold stays, where a task is made
pub holds_made : (size : ℕ) (task : TaskId) (host : HostId) (past : List Event) (t r : ℕ) → (task.0 ≡ t → ⊥)
    → holds size t r (event.TaskMade task host ∷ past) ≡ holds size t r past
holds_made size task host past t r apart = elim (eqb_tells task.0 t) [ inl same ↦ absurd (apart same.1) | inr other ↦ rw other.0 refl ]

-- a task without entries has none on a declared region
shared_made : (header : Header) (maps new : Mapped) (task : ℕ) → AreShared header maps → ChangesOnly maps new task (Some []) → AreShared header new
shared_made header maps new task shared changes t = elim (eqb_tells task t) [
  | inl same ↦ subst (λ (z : Option (List Entry)). AllRows (IsShared header) (unwrap_or z [])) (sym changes.changed ∙ ap (λ z. entries_in z new) same.1) tt
  | inr apart ↦ subst (λ (z : Option (List Entry)). AllRows (IsShared header) (unwrap_or z [])) (sym (changes.others t (λ e. apart.1 (sym e)))) (shared t)
]

-- the kernel behind a new task
pub works_made : (header : Header) (h : ℕ) (task : TaskId) (past : List Event) (k : Parts) (ids : Ids) (maps : Mapped) → Works header h k ids woken.Nobody past
    → ChangesOnly k.maps maps task.0 (Some []) → entries_in task.0 k.maps ≡ None → task.0 < 1024
    → Works header h (record k { maps = maps }) ids woken.Nobody (event.TaskMade task (host_id h) ∷ past)
works_made header h task past k ids maps works changes free below =
    let m = works.matches in
    record {
      matches =
          record {
            core = record {
              setting = m.core.setting;
              calm = m.core.calm;
              fits = m.core.fits;
              spaces = record {
                tasks = tasks_made h header.size k.maps maps past task m.core.spaces.tasks changes;
                entries = entries_made header.size k.maps maps k.chains task.0 m.core.spaces.entries changes free below;
                shared = shared_made header k.maps maps task.0 m.core.spaces.shared changes;
                uses = uses_made header k.maps maps _ (tasks past) _ _ (next_region header past) task.0 m.core.spaces.uses changes free (rw most_is below)
                    (holds_made header.size task (host_id h) past);
                homes = m.core.spaces.homes;
              };
              objects = m.core.objects;
              copied = m.core.copied;
              controls = m.core.controls;
              flags = m.core.flags;
              pages = m.core.pages;
            };
            settled = record { none_owed = refl; shut = λ region. refl };
            replied = replied_behind tt m.replied;
          };
      used =
          record {
            regions = works.used.regions;
            copies = copies_kept k.maps maps k.chains k.chains k.memory.resident k.memory.resident works.used.copies
                (same_waiting k.maps maps task.0 (Some []) k.waits.rows changes (no_waiter k.maps k.chains k.memory.resident k.memory.objects k.waits.rows _ _
                task.0
                works.waits free)) (chains_filled k.chains) (rows_unmade k.chains k.memory.resident);
          };
      referred = works.referred;
      thin = works.thin;
      waits = waits_made k.maps maps k.chains k.memory.resident k.memory.objects k.waits.rows _ task (host_id h) past works.waits free changes;
      order = works.order;
    }

pub ran_task : (header : Header) (h : ℕ) (outside : Outside) (task : TaskId) (past : List Event) (k : Parts) (ids : Ids) (before after : List Event)
    (maps : Mapped) → Starts header h (command.Task task (host_id h)) past k ids before
    → ChangesOnly k.maps maps task.0 (Some []) → after ≡ event.TaskMade task k.host ∷ before
    → Ran header h outside (command.Task task (host_id h)) past (record k { maps = maps }) ids after
ran_task header h outside task past k ids before after maps s changes told =
    let m = s.rests.matches in
    let e : Event = event.TaskMade task (host_id h) in
    let free = can_make header h task past k ids before s in
    let log : after ≡ e ∷ [] = told ∙ (ap (λ z. event.TaskMade task z ∷ before) (named_host k.host h m.core.setting.numbered) ∙ ap (λ z. e ∷ z) s.nothing) in
    subst (λ (z : List Event). Ran header h outside (command.Task task (host_id h)) past (record k { maps = maps }) ids z) (sym log)
    (ran_head header h outside (command.Task task (host_id h)) past (record k { maps = maps }) ids (e ∷ []) (e ∷ []) refl refl
    (heads_one header h outside (command.Task task (host_id h)) past e (record {
      settled = m.settled;
      cause = tt;
      own_bytes = tt;
      frames = suffices header h k.memory.frames past m.core.pages.counted;
      inner = tt;
      said = refl;
      own = own_new h task.0 past (unmade header h task past k ids before s);
      creates = tt;
    }))
    tt
    (rests_of header h (record k { maps = maps }) ids (e ∷ past)
    (works_made header h task past k ids maps (works_at_rest s.rests) changes free s.range.0) s.rests.idle))

-- the row of a new object
abbrev pub new_object : ℕ → ObjectRow
new_object pages = record { kind = Temp; pages = pages; state = Without; control = 0; live = false; cache = false; references = 1 }

-- a new object has no control
pub controls_made : {d h : ℕ} {home_at home_at2 : ℕ → Option ℕ} (os os2 : ObjectTable) (last_at : ℕ → ℕ) (live_at : ℕ → Option ℕ) (ready_at : ℕ → Bool)
    (n pages : ℕ) → HasControls d h os last_at live_at ready_at home_at → object_at os n ≡ None
    → PutsObject n (Some (new_object pages)) os os2 → ((o : ℕ) → home_at o ≡ Some h → home_at2 o ≡ Some h) → home_at2 n ≡ Some h
    → HasControls d h os2 last_at live_at ready_at home_at2
controls_made {h = h} {home_at2 = home_at2} os os2 last_at live_at ready_at n pages has none put stay home =
    let cases = λ (o : ℕ). one_case n o (Some (new_object pages)) (object_at os o) (object_at os2 o) (put.at o) in
    record {
      last = λ o. elim (cases o) [
        | inl same ↦ has.last o ∙ (ap last_in (was o same.0) ∙ sym (ap last_in same.1))
        | inr apart ↦ has.last o ∙ sym (ap last_in apart.1)
      ];
      live = λ o. elim (cases o) [
        | inl same ↦ has.live o ∙ (ap live_in (was o same.0) ∙ sym (ap live_in same.1))
        | inr apart ↦ has.live o ∙ sym (ap live_in apart.1)
      ];
      ready = λ o control live. elim (cases o) [
        | inl same ↦ absurd (let bad : None ≡ Some control = sym (has.live o ∙ ap live_in (was o same.0)) ∙ live in cc)
        | inr apart ↦ has.ready o control live ∙ sym (ap ready_in apart.1)
      ];
      all_live = record {
        at = λ o row found told. elim (cases o) [
          | inl same ↦ absurd (told (sym (ap (λ z. z.state) (some_is (new_object pages) row (sym same.1 ∙ found)))))
          | inr apart ↦ has.all_live.at o row (sym apart.1 ∙ found) told
        ];
      };
      numbers = record {
        at = λ o row found. elim (cases o) [
          | inl same ↦ let number : 0 ≡ row.control = ap (λ z. z.control) (some_is (new_object pages) row (sym same.1 ∙ found)) in omega arith
          | inr apart ↦ has.numbers.at o row (sym apart.1 ∙ found)
        ];
      };
      ended = λ o row found live. elim (cases o) [
        | inl same ↦ absurd (let bad : false ≡ true = ap (λ z. z.live) (some_is (new_object pages) row (sym same.1 ∙ found)) ∙ live in cc)
        | inr apart ↦ has.ended o row (sym apart.1 ∙ found) live
      ];
      home = λ o row least found. elim (cases o) [
        | inl same ↦ subst (λ (z : ℕ). home_at2 z ≡ Some h) same.0 home
        | inr apart ↦ stay o (has.home o row least (sym apart.1 ∙ found))
      ];
    }
  where
    was : (o : ℕ) → n ≡ o → object_at os o ≡ None
    was o same = subst (λ (z : ℕ). object_at os z ≡ None) same none
