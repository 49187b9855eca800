-- A declared object is mapped: a task gets an entry on its region, which counts one more or is made, and where no control of the object lives one begins.
use Rattle.vm_kernel.proofs.controls.FlagSet.{puts_both}
use Rattle.vm_kernel.proofs.Common.{Begins, Bool, ChainTable, ChangesOnly, Command, EachOf, Elsewhere, Entry, Event, HasControls, Header, Ids, IfSome, IsInside}
use Rattle.vm_kernel.proofs.Common.{IsReferred, IsSome, List, MapChange, Mapped, Matches, None, ObjectId, ObjectRow, ObjectTable, Option, Outside, Parts, Plays}
use Rattle.vm_kernel.proofs.Common.{PutsObject, PutsRegion, QueueIsStill, Ran, RegionRow, Rests, RunsNone, SameMarks, Shares, Some, Starts, TaskId, Temp, Up}
use Rattle.vm_kernel.proofs.Common.{[], ap, arith, code_where, entered, entering, entries_in, entries_in_row, entries_of, entry_at, false, get_or}
use Rattle.vm_kernel.proofs.Common.{got, has_pager, has_region, head, holds, host_id, host_of, if◌then◌else◌, in_use, inl, inr, is_none, is_range, is_ready}
use Rattle.vm_kernel.proofs.Common.{is_some, last_control, length, live_control, live_in, local, marks_of, meets_range, most_entries, named, nat_tests}
use Rattle.vm_kernel.proofs.Common.{next_object, next_region, object_at, object_home, page_below, pages_in, paging, place_of, refl, region_at, region_entries}
use Rattle.vm_kernel.proofs.Common.{region_pages, reverse, rows_in, slice_get, some_is, subst, sym, true, waiting, with_entries, ℕ, ◌&&◌, ◌+◌, ◌-◌, ◌/◌, ◌<◌}
use Rattle.vm_kernel.proofs.Common.{◌==◌, ◌^◌, ◌||◌, ◌∙◌, ◌∷◌, ◌≡◌, ◌≤◌, ◌⊎◌}
use Rattle.vm_kernel.proofs.space.RegionsFilled.{filled_temporary}
use Rattle.vm_kernel.proofs.space.RegionRows.{region_row}
use Rattle.std.proofs.Common.{nat_le, nat_lt, not}
use Rattle.std.proofs.lemmas.Bool.{not-false, or_parts}
use Rattle.std.proofs.lemmas.List.{length-reverse}
use Rattle.std.proofs.lemmas.Option.{slice_get_cases}
use Rattle.vm_abroad.proofs.Home.{named_regions}
use Rattle.vm_base.specs.Limits.{most_pages}
use Rattle.vm_base.specs.Pages.{IsPageSize}
use Rattle.vm_legal.specs.Follows.{map_head, opening}
use Rattle.vm_legal.specs.Licences.{Opens as MayOpen}
use Rattle.vm_legal.specs.Outside.{is_file, kind_in}
use Rattle.vm_legal.specs.Refusal.{is_elsewhere}
use Rattle.vm_maps.specs.Judge.{judged}
use Rattle.vm_model.specs.Named.{declared, declared_pages, pages_kept}
use Rattle.vm_model.specs.declared.script.Declared.{Declared}
use Rattle.vm_objects.specs.declared.row.PagerState.{PagerState}
use Rattle.vm_state.proofs.Declared.{IsWhole, whole_row}
use Rattle.vm_state.proofs.Knowing.{known_put}
use Rattle.vm_state.proofs.Referring.{refers_region}
use Rattle.vm_state.specs.Places.{known_local}
use Rattle.vm_kernel.specs.Mapping.{Again, Begins as BeginsControl, First, Holds, IsOpen, Opens, declared_region, referred, shared_entry}
use Rattle.vm_kernel.proofs.controls.DeclaredReferences.{declared_refer}
use Rattle.vm_kernel.proofs.controls.DeclaredRegion.{BecomesKnown, BeginsAnew, LivesStill, MayMap, OpensDeclared, controls_opened, core_declared}
use Rattle.vm_kernel.proofs.controls.DeclaredRegion.{map_enters, map_home, rests_declared, used_mapped, waits_mapped, with_declared}
use Rattle.vm_kernel.proofs.steps.EventsGrow.{licensed, suffices}
use Rattle.vm_kernel.proofs.steps.HeadAlone.{heads_one, ran_head}
use Rattle.vm_legal.proofs.Heads.{passed}
use Rattle.vm_kernel.proofs.abroad.OwnEvents.{mine_of, own_named, own_task}
use Rattle.vm_kernel.proofs.abroad.OwnHost.{lives_here, lives_in, named_host, own_host, rows_here}
use Rattle.vm_kernel.proofs.memory.PagesShown.{itself}
use Rattle.vm_kernel.proofs.lists.ListsAsTold.{lists_same, plays_both, plays_told}
use Rattle.vm_kernel.proofs.space.ForkShares.{MayShare, few_entries, rests_shared}
use Rattle.vm_kernel.proofs.controls.LockReplied.{replied_behind}
use Rattle.vm_state.proofs.Bypassing.{waits_quiet}
use Rattle.vm_state.proofs.Passing.{quiet_if}
use Rattle.vm_kernel.proofs.controls.FlagsKept.{flags_put, flags_set}
use Rattle.vm_kernel.proofs.controls.NextControl.{BeginsNext, beginning, begins_anew, controlled, pages_begun, rests_begun, uncached_row}
use Rattle.vm_base.specs.declared.ids.HostId.{HostId}
use Rattle.vm_kernel.proofs.space.RegionEnds.{controls_put}
use Rattle.vm_legal.specs.Cached.{is_cached}
use Rattle.vm_state.specs.Pagers.{cached_in}
use Rattle.vm_state.specs.Stands.{HasFlags}
use Rattle.vm_kernel.specs.Matches.{control_facts}
use Rattle.vm_base.specs.declared.code.Code.TheVariants as code
use Rattle.vm_base.specs.declared.ids.Inherit.TheVariants as inherit
use Rattle.vm_model.specs.declared.command.Command.TheVariants as command
use Rattle.vm_model.specs.declared.event.Event.TheVariants as event
use Rattle.vm_model.specs.declared.message.Message.TheVariants as message
use Rattle.vm_objects.specs.declared.row.PagerState.TheVariants as state
use Rattle.vm_kernel.specs.Begun.{IsLined}
use Rattle.vm_kernel.proofs.controls.WordTaken.{calm_none}
use Rattle.vm_legal.specs.Destroyed.{destroy_taken}

-- what isn't elsewhere is here
here_of : (a b : Bool) → (a && not b) ≡ false → a ≡ true → b ≡ true
here_of true true none is = refl
here_of true false none is = absurd (let bad : true ≡ false = none in cc)
here_of false b none is = absurd (let bad : false ≡ true = is in cc)

none_is : {A : Type 0} (x : Option A) → is_some x ≡ false → x ≡ None
none_is None is = refl
none_is (Some y) is = absurd (let bad : true ≡ false = is in cc)

pub may_map : (header : Header) (h : ℕ) (task : TaskId) (address bytes : ℕ) (object : ObjectId) (offset : ℕ) (past : List Event) (k : Parts) (ids : Ids)
    (events : List Event) → Starts header h (command.Map task address bytes object offset) past k ids events
    → MayMap header h k task.0 address bytes object offset past
may_map header h task address bytes object offset past k ids events s =
    let m = s.rests.matches in
    let rows = entries_of header.size task.0 past in
    let full = nat_lt most_entries (length rows + 1) in
    let last = code_where full code.TableFull None in
    let next = code_where (meets_range address bytes rows) code.NoSpace last in
    let away = is_elsewhere header object.0 (host_of task.0 past) past in
    let more = code_where away code.WrongHost next in
    let tests = not (is_range header.size address bytes) || nat_lt (declared_pages header object.0) (offset + bytes / header.size) in
    let acts = passed (is_none (host_of task.0 past)) code.NoSuchName (code_where (is_some (waiting task.0 past)) code.Blocked
    (code_where tests code.InvalidArgument more)) s.accepted in
    let idle = passed (is_some (waiting task.0 past)) code.Blocked (code_where tests code.InvalidArgument more) acts.1 in
    let first = passed tests code.InvalidArgument more idle.1 in
    let second = passed away code.WrongHost next first.1 in
    let third = passed (meets_range address bytes rows) code.NoSpace last second.1 in
    let fourth = passed full code.TableFull None third.1 in
    let lives = lives_in task.0 m.core.spaces.tasks s.acts in
    let own : rows ≡ rows_in task.0 k.maps = rows_here m.core.spaces.tasks lives in
    let both = or_parts (not (is_range header.size address bytes)) (nat_lt (declared_pages header object.0) (offset + bytes / header.size)) first.0 in
    let range : is_range header.size address bytes ≡ true = not-false (is_range header.size address bytes) both.0 in
    let within : nat_lt (declared_pages header object.0) (offset + bytes / header.size) ≡ false = both.1 in
    let short : full ≡ false = fourth.0 in
    let sized : is_range k.maps.size address bytes ≡ true = ap (λ z. is_range z address bytes) m.core.spaces.tasks.sized ∙ range in
    let free : meets_range address bytes (rows_in task.0 k.maps) ≡ false = ap (meets_range address bytes) (sym own) ∙ third.0 in
    let fits : nat_lt most_entries (length (rows_in task.0 k.maps) + 1) ≡ false = ap (λ z. nat_lt most_entries (length z + 1)) (sym own) ∙ short in
    let end : address + bytes ≤ 2 ^ 32 = grind (arith, nat_tests) in
    let least = s.range.2 in
    record {
      lives = lives;
      idle = none_is (waiting task.0 past) idle.0;
      declared = s.range.1;
      below = s.range.0.task;
      whole = grind (arith, nat_tests);
      some = grind (arith, nat_tests);
      end = end;
      inside = grind (arith, nat_tests);
      used =
          here_of (is_file header object.0) (in_use header h object.0 past) (sym (ap (λ z. is_elsewhere header object.0 z past)
          (lives_here m.core.spaces.tasks lives))
          ∙ second.0);
      free = free;
      room = grind (arith, nat_tests);
      judged = rw (sized, free, fits) refl;
      pages = subst (λ (z : ℕ). offset + bytes / z < 2 ^ 32) (sym m.core.spaces.tasks.sized) (few header.size m.core.setting.ranged.size end least);
    }
  where
    few : (size : ℕ) → IsPageSize size → address + bytes ≤ 2 ^ 32 → offset ≤ most_pages → offset + bytes / size < 2 ^ 32
    few size page end least = grind arith

-- an entry has its first address
own : (new : Entry) (rows : List Entry) → 0 < new.bytes → entry_at new.address (new ∷ rows) ≡ Some new
own new rows some =
    let inside : (nat_le new.address new.address && nat_lt new.address (new.address + new.bytes)) ≡ true = grind (arith, nat_tests) in rw inside refl

-- the entry of a mapping is found at its address
found_entered : (new : Entry) (rows : List Entry) → 0 < new.bytes → meets_range new.address new.bytes rows ≡ false
    → entry_at new.address (entered new rows) ≡ Some new
found_entered new [] some free = own new [] some
found_entered new (row ∷ rows) some free =
    let parts = or_parts (nat_lt row.address (new.address + new.bytes) && nat_lt new.address (row.address + row.bytes)) (meets_range new.address new.bytes rows)
    free in
    by (nat_lt new.address row.address) (found_entered new rows some parts.1)
  where
    apart : (nat_le row.address new.address && nat_lt new.address (row.address + row.bytes)) ≡ false
    apart = grind (arith, nat_tests)

    by : (b : Bool) → entry_at new.address (entered new rows) ≡ Some new
        → entry_at new.address (if b then new ∷ row ∷ rows else row ∷ entered new rows) ≡ Some new
    by true later = own new (row ∷ rows) some
    by false later = rw apart later

-- no control of the object lived
pub was_dead : (header : Header) (h : ℕ) (past : List Event) (k : Parts) (ids : Ids) (object : ℕ) (new : ObjectRow) → Rests header h k ids past
    → BeginsAnew (object_at k.memory.objects object) new → live_control h object past ≡ None
was_dead header h past k ids object new rests anew = rests.matches.core.controls.live object ∙ anew.dead

-- what the pager is told has its cause
map_opens : (header : Header) (h : ℕ) (task : TaskId) (address bytes : ℕ) (object : ObjectId) (offset : ℕ) (new : ObjectRow) (past : List Event) (k : Parts)
    (ids : Ids) → Rests header h k ids past → MayMap header h k task.0 address bytes object offset past
    → BeginsAnew (object_at k.memory.objects object.0) new
    → MayOpen header h new.control object.0 header.size (got task (shared_entry address bytes object offset) ∷ past)
map_opens header h task address bytes object offset new past k ids rests may anew =
    let m = rests.matches in
    let row = shared_entry address bytes object offset in
    let last = m.core.controls.last object.0 in
    let next = anew.control in
    record {
      number = omega (arith, last, next);
      sized = refl;
      declared = may.declared;
      none = was_dead header h past k ids object.0 new rests anew;
      task = task.0;
      address = address;
      at =
          record {
            host = h;
            entry = row;
            lives = lives_here m.core.spaces.tasks may.lives;
            found =
                ap (λ b. entry_at address (if b then entered row (entries_of header.size task.0 past) else entries_of header.size task.0 past)) (itself task.0)
                ∙ (ap (λ z. entry_at address (entered row z)) (rows_here m.core.spaces.tasks may.lives)
                ∙ found_entered row (rows_in task.0 k.maps) may.some may.free);
          };
      on_host = refl;
      region = refl;
    }

-- the kernel behind both events
pub rests_opened : (header : Header) (h : ℕ) (outside : Outside) (doing : Command) (task : TaskId) (address bytes : ℕ) (object : ObjectId) (offset pages : ℕ)
    (new : ObjectRow) (past : List Event) (k : Parts) (ids : Ids) (objects : ObjectTable) (chains : ChainTable) (maps : Mapped)
    → Rests header h k ids past → IsLined past → MayMap header h k task.0 address bytes object offset past
    → OpensDeclared header task (shared_entry address bytes object offset) object pages new k objects chains maps
    → BeginsAnew (object_at k.memory.objects object.0) new
    → Rests header h (with_declared k objects chains maps) ids (beginning h object new.control header.size ∷ got task (shared_entry address bytes object offset)
    ∷ past)
rests_opened header h outside doing task address bytes object offset pages new past k ids objects chains maps rests lined may o anew =
    let m = rests.matches in
    let enters = got task (shared_entry address bytes object offset) in
    let begins = beginning h object new.control header.size in
    let now = begins ∷ enters ∷ past in
    let controls : HasControls (named header) h objects (λ x. last_control h x now) (λ x. live_control h x now) (λ x. is_ready h x now)
    (λ x. object_home x past) =
    rw (own_host h) (controls_opened header k.memory.objects objects (λ x. last_control h x past) (λ x. live_control h x past) (λ x. is_ready h x past) object.0
    new m.core.controls may.declared o.known.live anew o.put) in
    let flags : HasFlags (named header) objects (λ x. is_cached h x now) = rw (own_host h) (flags_set object.0 new false o.put anew.uncached m.core.flags) in
    rests_declared now rests may.declared o
    (record {
      core = core_declared header h outside doing task address bytes object offset pages new past k ids objects chains maps (control_facts h now)
          (λ x p. known_local header x p (local header h (place_of x p) now)) rests may o controls flags
          (calm_none h (named header) (λ x. live_control h x now) now (ap destroy_taken lined.is))
          (pages_begun header h object new.control (enters ∷ past) k.memory.frames k.memory.resident k.memory.objects m.core.pages.shown
          (was_dead header h past k ids object.0 new rests anew));
      settled = record { none_owed = refl; shut = λ region. refl };
      replied = replied_behind tt (replied_behind tt m.replied);
    })
    (used_mapped header h task address bytes object offset pages new past k ids objects chains maps rests may o)
    (waits_quiet header h begins (enters ∷ past) (λ place. quiet_if (h == h && object.0 == place.object.0) Begins Elsewhere tt tt)
    (waits_mapped header h task address bytes object offset pages new past k ids objects chains maps rests may o))
    rests.order

-- and behind the entry alone, where the object was known and its control lives
pub rests_kept : (header : Header) (h : ℕ) (outside : Outside) (doing : Command) (task : TaskId) (address bytes : ℕ) (object : ObjectId) (offset pages : ℕ)
    (new : ObjectRow) (past : List Event) (k : Parts) (ids : Ids) (objects : ObjectTable) (chains : ChainTable) (maps : Mapped)
    → Rests header h k ids past → MayMap header h k task.0 address bytes object offset past
    → OpensDeclared header task (shared_entry address bytes object offset) object pages new k objects chains maps
    → LivesStill (object_at k.memory.objects object.0) new
    → Rests header h (with_declared k objects chains maps) ids (got task (shared_entry address bytes object offset) ∷ past)
rests_kept header h outside doing task address bytes object offset pages new past k ids objects chains maps rests may o still =
    let m = rests.matches in
    let now = got task (shared_entry address bytes object offset) ∷ past in
    rests_declared now rests may.declared o
    (record {
      core = core_declared header h outside doing task address bytes object offset pages new past k ids objects chains maps (control_facts h now)
          (λ x p. known_local header x p (local header h (place_of x p) now)) rests may o
          (controls_put object.0 still.row new k.memory.objects objects (λ x. last_control h x past) (λ x. live_control h x past) (λ x. is_ready h x past)
          still.found o.put (ap (λ z. z.control) still.same) (ap (λ z. z.live) still.same) (ap (λ z. z.state) still.same) m.core.controls)
          (flags_put object.0 new o.put (ap cached_in still.found ∙ sym (ap (λ z. z.cache) still.same)) m.core.flags) m.core.calm m.core.pages.shown;
      settled = record { none_owed = refl; shut = λ region. refl };
      replied = replied_behind tt m.replied;
    })
    (used_mapped header h task address bytes object offset pages new past k ids objects chains maps rests may o)
    (waits_mapped header h task address bytes object offset pages new past k ids objects chains maps rests may o) rests.order

-- What a mapping does.

-- the declared object
pub declared_there : (header : Header) (o : ℕ) → o < named header → (d : Declared) × (declared header o ≡ Some d)
declared_there header o less = by (slice_get_cases (reverse header.objects.items) o).1
  where
    by : ((x : Declared) × (o < length (reverse header.objects.items)) × (slice_get (reverse header.objects.items) o ≡ Some x)
        × (get_or (reverse header.objects.items) o x ≡ x)) ⊎ ((length (reverse header.objects.items) ≤ o) × (slice_get (reverse header.objects.items) o ≡ None))
        → (d : Declared) × (declared header o ≡ Some d)
    by (inl found) = (found.0, found.2)
    by (inr past) = absurd (let count = length-reverse header.objects.items in let high = past.0 in omega (arith, count, high, less))

becomes_known : (header : Header) (h : ℕ) (past : List Event) (k : Parts) (ids : Ids) (o : ℕ) (d : Declared) (control : ℕ) (pager : PagerState)
    → Rests header h k ids past → o < named header → declared header o ≡ Some d → region_at k.chains o ≡ None → has_pager pager ≡ true → 0 < control
    → ((row : ObjectRow) → object_at k.memory.objects o ≡ Some row → has_pager row.state ≡ true → pager ≡ row.state)
    → BecomesKnown header o (object_at k.memory.objects o) (controlled control pager (referred d (object_at k.memory.objects o)))
becomes_known header h past k ids o d control pager rests less is free paged number told = by (object_at k.memory.objects o) refl told
  where
    test : nat_lt o (named header) ≡ true
    test = grind (arith, nat_tests)

    by : (was : Option ObjectRow) → object_at k.memory.objects o ≡ was
        → ((row : ObjectRow) → was ≡ Some row → has_pager row.state ≡ true → pager ≡ row.state)
        → BecomesKnown header o was (controlled control pager (referred d was))
    by None found told =
        record {
          sized = λ row is. absurd (let bad : None ≡ Some row = is in cc);
          told = told;
          kind = sym (ap (λ b. if b then kind_in (declared header o) else Temp) test ∙ ap kind_in is);
          pages = sym (ap pages_kept is);
          pager = paged;
          live = refl;
          references = refl;
          number = number;
        }
    by (Some row) found told =
        let kept = (rests.matches.core.objects.kinds.kinds o row found).declared less in
        record {
          sized = λ other is. subst (λ (z : ObjectRow). z.pages ≡ declared_pages header o) (some_is row other is) kept.pages;
          told = told;
          kind = kept.kind;
          pages = kept.pages;
          pager = paged;
          live = refl;
          references = refl;
          number = number;
        }

-- a control lived
was_live : (header : Header) (h : ℕ) (past : List Event) (k : Parts) (ids : Ids) (o : ℕ) (d : Declared) → Rests header h k ids past → o < named header
    → declared header o ≡ Some d → region_at k.chains o ≡ None → (referred d (object_at k.memory.objects o)).live ≡ true
    → BecomesKnown header o (object_at k.memory.objects o) (referred d (object_at k.memory.objects o))
    × LivesStill (object_at k.memory.objects o) (referred d (object_at k.memory.objects o))
was_live header h past k ids o d rests less is free lives = by (object_at k.memory.objects o) refl lives
  where
    by : (was : Option ObjectRow) → object_at k.memory.objects o ≡ was → (referred d was).live ≡ true
        → BecomesKnown header o was (referred d was) × LivesStill was (referred d was)
    by None found live = absurd (let bad : false ≡ true = live in cc)
    by (Some row) found live =
        let its = rests.matches.core.objects.kinds.kinds o row found in
        let there = subst (λ (z : Option ObjectRow). BecomesKnown header o z (controlled row.control row.state (referred d z))) found
        (becomes_known header h past k ids o d row.control row.state rests less is free (sym its.lives ∙ live) (its.declared less).number
        (λ other at paged. ap (λ z. z.state) (some_is row other (sym found ∙ at)))) in
        let same : controlled row.control row.state (referred d (Some row)) ≡ referred d (Some row) =
        λ i. record row { references = row.references + 1; live = sym live i } in (
          subst (λ (z : ObjectRow). BecomesKnown header o (Some row) z) same there,
          record { row = row; found = refl; lives = live; same = refl },
        )

-- or none did
was_quiet : (header : Header) (h : ℕ) (past : List Event) (k : Parts) (ids : Ids) (o : ℕ) (d : Declared) (control : ℕ) → Rests header h k ids past
    → o < named header → declared header o ≡ Some d → region_at k.chains o ≡ None → (referred d (object_at k.memory.objects o)).live ≡ false
    → control ≡ (referred d (object_at k.memory.objects o)).control + 1 → control < 2 ^ 32 - 1
    → BecomesKnown header o (object_at k.memory.objects o) (controlled control state.Sent (referred d (object_at k.memory.objects o)))
    × BeginsAnew (object_at k.memory.objects o) (controlled control state.Sent (referred d (object_at k.memory.objects o)))
was_quiet header h past k ids o d control rests less is free dead next few = (
  becomes_known header h past k ids o d control state.Sent rests less is free refl (omega (arith, next)) unpaged,
  by (object_at k.memory.objects o) refl dead next,
)
  where
    unpaged : (row : ObjectRow) → object_at k.memory.objects o ≡ Some row → has_pager row.state ≡ true → state.Sent ≡ row.state
    unpaged row found paged =
        let lives = (rests.matches.core.objects.kinds.kinds o row found).lives in
        let quiet : row.live ≡ false = subst (λ (z : Option ObjectRow). (referred d z).live ≡ false) found dead in
        absurd (let bad : false ≡ true = sym quiet ∙ (lives ∙ paged) in cc)

    by : (was : Option ObjectRow) → object_at k.memory.objects o ≡ was → (referred d was).live ≡ false → control ≡ (referred d was).control + 1
        → BeginsAnew was (controlled control state.Sent (referred d was))
    by None found quiet is_next = record { dead = refl; state = refl; control = is_next; number = few; uncached = refl }
    by (Some row) found quiet is_next =
        record {
          dead = ap (λ b. if b then Some row.control else None) quiet;
          state = refl;
          control = is_next;
          number = few;
          uncached = uncached_row header h past k ids o row rests less found quiet;
        }

-- its region refers to it
some_refer : (header : Header) (h : ℕ) (past : List Event) (k : Parts) (ids : Ids) (o : ℕ) (known : ObjectRow) → Rests header h k ids past → o < named header
    → has_region k.chains o ≡ true → object_at k.memory.objects o ≡ Some known → 0 < known.references
some_refer header h past k ids o known rests less there found =
    let m = rests.matches in
    let region = region_row k.chains o there in
    let whole = whole_row m.core.objects.regions m.core.spaces.homes.1 o region.0 less region.1 in
    let refers = subst (λ (z : ℕ). IsReferred k.memory.objects z) whole.top (refers_region m.core.objects.regions o region.0 region.1) in
    subst (λ (z : ObjectRow). 0 < z.references) (some_is refers.row known (sym refers.known ∙ found)) refers.some

-- its region was there, and a control of the object lives, or begins; or the region begins, and a control lives already or begins too
pub data MapsTo (header : Header) (h : ℕ) (task : TaskId) (row : Entry) (object : ObjectId) (past : List Event) (k k2 : Parts) (before after : List Event) :
    Type 0 where
  WasThere : (control : ℕ) → live_control h object.0 past ≡ Some control → IsInside header.size k.chains row → Shares task row k k2 before after
      → MapsTo header h task row object past k k2 before after
  WasEnded : (known : ObjectRow) (between : Parts) → IsInside header.size k.chains row → Shares task row k between before (got task row ∷ before)
      → BeginsNext object known between k2 → after ≡ beginning h object (known.control + 1) header.size ∷ got task row ∷ before
      → MapsTo header h task row object past k k2 before after
  WasKept : (objects : ObjectTable) (chains : ChainTable) (maps : Mapped) (pages : ℕ) (new : ObjectRow)
      → OpensDeclared header task row object pages new k objects chains maps → LivesStill (object_at k.memory.objects object.0) new
      → k2 ≡ with_declared k objects chains maps → after ≡ got task row ∷ before → MapsTo header h task row object past k k2 before after
  IsMade : (objects : ObjectTable) (chains : ChainTable) (maps : Mapped) (pages : ℕ) (new : ObjectRow)
      → OpensDeclared header task row object pages new k objects chains maps → BeginsAnew (object_at k.memory.objects object.0) new
      → k2 ≡ with_declared k objects chains maps → after ≡ beginning h object new.control header.size ∷ got task row ∷ before
      → MapsTo header h task row object past k k2 before after

-- what a pager is told
begins_at : {h : ℕ} {host : HostId} {size own_size : ℕ} (object : ObjectId) (control : ℕ) (before : List Event) → host ≡ host_id h → size ≡ own_size
    → event.Sent (Up host object) (message.Init control size) ∷ before ≡ beginning h object control own_size ∷ before
begins_at {h = h} {size = size} object control before host same =
    ap (λ z. event.Sent (Up z object) (message.Init control size) ∷ before) host ∙ ap (λ z. beginning h object control z ∷ before) same

pub map_again : (header : Header) (h : ℕ) (task : TaskId) (address bytes : ℕ) (object : ObjectId) (offset : ℕ) (past : List Event) (k k2 k3 : Parts) (ids : Ids)
    (before mid after : List Event) (maps : Mapped) (region : RegionRow)
    → Rests header h k ids past → MayMap header h k task.0 address bytes object offset past
    → region_at k.chains object.0 ≡ Some region → PutsRegion object.0 (Some (record region { entries = region.entries + 1 })) k.chains k2.chains
    → k2 ≡ record k { chains = k2.chains }
    → ChangesOnly k2.maps maps task.0 (Some (entered (shared_entry address bytes object offset) (rows_in task.0 k2.maps)))
    → mid ≡ got task (shared_entry address bytes object offset) ∷ before
    → IfSome (object_at k2.memory.objects object.0) (λ known. Opens object known (record k2 { maps = maps }) k3 mid after)
    → MapsTo header h task (shared_entry address bytes object offset) object past k k3 before after
map_again header h task address bytes object offset past k k2 k3 ids before mid after maps region rests may found put same changes told opens =
    by (subst (λ (z : Option ObjectRow). IfSome z (λ known. Opens object known (record k2 { maps = maps }) k3 mid after))
    (ap (λ (z : Parts). object_at z.memory.objects object.0) same ∙ there) opens)
  where
    m : Matches header h k ids [] past
    m = rests.matches

    row : Entry
    row = shared_entry address bytes object offset

    whole : IsWhole header object.0 region
    whole = whole_row m.core.objects.regions m.core.spaces.homes.1 object.0 region may.declared found

    refers : IsReferred k.memory.objects object.0
    refers = subst (λ (z : ℕ). IsReferred k.memory.objects z) whole.top (refers_region m.core.objects.regions object.0 region found)

    there : object_at k.memory.objects object.0 ≡ Some refers.row
    there = refers.known

    inside : IsInside header.size k.chains row
    inside =
        let count : region_pages k.chains object.0 ≡ declared_pages header object.0 = ap pages_in found ∙ whole.pages in
        let within = may.inside in
        record {
          region = ap is_some found;
          some = may.some;
          below = may.end;
          inside =
              rw count (record {
                whole = within;
                each = λ a low high. let less = page_below header.size (a - address) bytes (omega (arith, low, high))
                    may.whole in omega (arith, less, within);
              });
        }

    counted : with_entries (region_entries k.chains object.0 + 1) (region_at k.chains object.0) ≡ Some (record region { entries = region.entries + 1 })
    counted = ap (λ z. with_entries (entries_in_row z + 1) z) found

    between : Parts
    between = record k2 { maps = maps }

    shares : Shares task row k between before (got task row ∷ before)
    shares = record {
      host = ap (λ (z : Parts). z.host) same;
      size = ap (λ (z : Parts). z.size) same;
      declared = ap (λ (z : Parts). z.declared) same;
      copied = ap (λ (z : Parts). z.copies) same;
      memory = ap (λ (z : Parts). z.memory) same;
      laundry = ap (λ (z : Parts). z.laundry) same;
      waits = ap (λ (z : Parts). z.waits) same;
      maps = subst (λ (z : Mapped). ChangesOnly z maps task.0 (Some (entered row (rows_in task.0 z)))) (ap (λ (z : Parts). z.maps) same) changes;
      counts = subst (λ (z : Option RegionRow). PutsRegion object.0 z k.chains k2.chains) (sym counted) put;
      told = refl;
    }

    by : Opens object refers.row between k3 mid after → MapsTo header h task row object past k k3 before after
    by (IsOpen live is still) =
        WasThere refers.row.control
        (m.core.controls.live object.0 ∙ (ap live_in there ∙ ap (λ b. if b then Some refers.row.control else None) live)) inside
        (subst (λ (z : Parts). Shares task row k z before after) (sym is)
        (subst (λ (z : List Event). Shares task row k between before z) (sym (still ∙ told)) shares))
    by (BeginsControl dead second marks few is says) =
        let host : k2.host ≡ host_id h = ap (λ (z : Parts). z.host) same ∙ named_host k.host h m.core.setting.numbered in
        let size : k2.size ≡ header.size = ap (λ (z : Parts). z.size) same ∙ m.core.setting.sized in
        let known = ap (λ (z : Parts). object_at z.memory.objects object.0) same ∙ there in
        WasEnded refers.row between inside shares (record { found = known; dead = dead; put = second; marks = marks; few = few; same = is })
        (says ∙ begins_at object (refers.row.control + 1) mid host size ∙ ap (λ z. beginning h object (refers.row.control + 1) header.size ∷ z) told)

pub map_first : (header : Header) (h : ℕ) (task : TaskId) (address bytes : ℕ) (object : ObjectId) (offset : ℕ) (d : Declared) (past : List Event)
    (k k2 k3 : Parts) (ids : Ids) (before mid after : List Event) (maps : Mapped)
    → Rests header h k ids past → MayMap header h k task.0 address bytes object offset past → declared header object.0 ≡ Some d
    → region_at k.chains object.0 ≡ None → PutsRegion object.0 (Some (declared_region object d)) k.chains k2.chains
    → PutsObject object.0 (Some (referred d (object_at k.memory.objects object.0))) k.memory.objects k2.memory.objects
    → SameMarks k.memory.objects k2.memory.objects → k2 ≡ record k { memory = record k.memory { objects = k2.memory.objects }; chains = k2.chains }
    → ChangesOnly k2.maps maps task.0 (Some (entered (shared_entry address bytes object offset) (rows_in task.0 k2.maps)))
    → mid ≡ got task (shared_entry address bytes object offset) ∷ before
    → IfSome (object_at k2.memory.objects object.0) (λ known. Opens object known (record k2 { maps = maps }) k3 mid after)
    → MapsTo header h task (shared_entry address bytes object offset) object past k k3 before after
map_first header h task address bytes object offset d past k k2 k3 ids before mid after maps rests may is_declared free put known marks same changes told
    opens =
    by (subst (λ (z : Option ObjectRow). IfSome z (λ row. Opens object row (record k2 { maps = maps }) k3 mid after))
    (known_put object.0 now k.memory.objects k2.memory.objects known) opens)
  where
    row : Entry
    row = shared_entry address bytes object offset

    now : ObjectRow
    now = referred d (object_at k.memory.objects object.0)

    -- the region, with the object known so
    made : (new : ObjectRow) (objects : ObjectTable) → BecomesKnown header object.0 (object_at k.memory.objects object.0) new
        → PutsObject object.0 (Some new) k.memory.objects objects → SameMarks k.memory.objects objects
        → OpensDeclared header task row object d.pages new k objects k2.chains maps
    made new objects becomes put_new marked =
        record {
          free = free;
          sized = sym (ap pages_kept is_declared);
          known = becomes;
          region = put;
          put = put_new;
          marks = marked;
          changes = subst (λ (z : Mapped). ChangesOnly z maps task.0 (Some (entered row (rows_in task.0 z)))) (ap (λ (z : Parts). z.maps) same) changes;
        }

    by : Opens object now (record k2 { maps = maps }) k3 mid after → MapsTo header h task row object past k k3 before after
    by (IsOpen lives is still) =
        let was = was_live header h past k ids object.0 d rests may.declared is_declared free lives in
        WasKept k2.memory.objects k2.chains maps d.pages now (made now k2.memory.objects was.0 known marks) was.1
        (is ∙ ap (λ (z : Parts). record z { maps = maps }) same) (still ∙ told)
    by (BeginsControl quiet second marks2 few is says) =
        let host : k2.host ≡ host_id h = ap (λ (z : Parts). z.host) same ∙ named_host k.host h rests.matches.core.setting.numbered in
        let size : k2.size ≡ header.size = ap (λ (z : Parts). z.size) same ∙ rests.matches.core.setting.sized in
        let new = controlled (now.control + 1) state.Sent now in
        let was = was_quiet header h past k ids object.0 d (now.control + 1) rests may.declared is_declared free quiet refl few in
        IsMade k3.memory.objects k2.chains maps d.pages new
        (made new k3.memory.objects was.0
        (puts_both object.0 (Some now) (Some new) k.memory.objects k2.memory.objects k3.memory.objects known second)
        (record { at = λ o p. marks2.at o p ∙ marks.at o p })) was.1
        (is ∙ ap (λ (z : Parts). record z { maps = maps; memory = record (z.memory) { objects = k3.memory.objects }; chains = k2.chains }) same)
        (says ∙ begins_at object (now.control + 1) mid host size ∙ ap (λ z. beginning h object (now.control + 1) header.size ∷ z) told)

-- the region of the declared object is held
pub holds_is : (header : Header) (h : ℕ) (task : TaskId) (address bytes : ℕ) (object : ObjectId) (offset : ℕ) (past : List Event) (k k2 : Parts) (ids : Ids)
    (before : List Event) → (s : Starts header h (command.Map task address bytes object offset) past k ids before)
    → IfSome (slice_get (reverse k.declared.items) object.0) (λ d. Holds object d k k2)
    → (declared header object.0 ≡ Some (declared_there header object.0 s.range.1).0) × Holds object (declared_there header object.0 s.range.1).0 k k2
holds_is header h task address bytes object offset past k k2 ids before s holds =
    let d = declared_there header object.0 s.range.1 in (
      d.1,
      subst (λ (z : Option Declared). IfSome z (λ declared. Holds object declared k k2))
          (ap (λ z. slice_get (reverse z) object.0) s.rests.matches.core.setting.objects ∙ d.1) holds,
    )

pub maps_to : (header : Header) (h : ℕ) (task : TaskId) (address bytes : ℕ) (object : ObjectId) (offset : ℕ) (past : List Event) (k k2 k3 : Parts) (ids : Ids)
    (before mid after : List Event) (maps : Mapped) → Starts header h (command.Map task address bytes object offset) past k ids before
    → IfSome (slice_get (reverse k.declared.items) object.0) (λ d. Holds object d k k2)
    → ChangesOnly k2.maps maps task.0 (Some (entered (shared_entry address bytes object offset) (rows_in task.0 k2.maps)))
    → mid ≡ got task (shared_entry address bytes object offset) ∷ before
    → IfSome (object_at k2.memory.objects object.0) (λ known. Opens object known (record k2 { maps = maps }) k3 mid after)
    → MapsTo header h task (shared_entry address bytes object offset) object past k k3 before after
maps_to header h task address bytes object offset past k k2 k3 ids before mid after maps s holds changes told opens =
    by (holds_is header h task address bytes object offset past k k2 ids before s holds).1
  where
    may : MayMap header h k task.0 address bytes object offset past
    may = may_map header h task address bytes object offset past k ids before s

    d : Declared
    d = (declared_there header object.0 s.range.1).0

    by : Holds object d k k2 → MapsTo header h task (shared_entry address bytes object offset) object past k k3 before after
    by (Again region found put same) =
        map_again header h task address bytes object offset past k k2 k3 ids before mid after maps region s.rests may found put same changes told opens
    by (First free put known marks same) =
        map_first header h task address bytes object offset d past k k2 k3 ids before mid after maps s.rests may (declared_there header object.0 s.range.1).1
        free put known marks same changes told opens

-- the kernel behind a mapping, and its events

-- the entry alone is told where a control of the object lives
ran_entered : (header : Header) (h : ℕ) (outside : Outside) (task : TaskId) (address bytes : ℕ) (object : ObjectId) (offset : ℕ) (past : List Event)
    (k k2 : Parts) (ids : Ids) (before after : List Event) (control : ℕ) → Starts header h (command.Map task address bytes object offset) past k ids before
    → live_control h object.0 past ≡ Some control → after ≡ got task (shared_entry address bytes object offset) ∷ before
    → Rests header h k2 ids (got task (shared_entry address bytes object offset) ∷ past)
    → Ran header h outside (command.Map task address bytes object offset) past k2 ids after
ran_entered header h outside task address bytes object offset past k k2 ids before after control s alive told rests =
    let m = s.rests.matches in
    let doing = command.Map task address bytes object offset in
    let e = got task (shared_entry address bytes object offset) in
    let may = may_map header h task address bytes object offset past k ids before s in
    let log : after ≡ e ∷ [] = told ∙ ap (λ z. e ∷ z) s.nothing in
    let is : head header past doing ≡ Some (e ∷ []) = rw (lives_here m.core.spaces.tasks may.lives, alive) refl in
    subst (λ (z : List Event). Ran header h outside doing past k2 ids z) (sym log)
    (ran_head header h outside doing past k2 ids (e ∷ []) (e ∷ []) is refl
    (heads_one header h outside doing past e
    (record {
      settled = m.settled;
      cause = map_enters header h task address bytes object offset past k ids s.rests may;
      own_bytes = tt;
      frames = suffices header h k.memory.frames past m.core.pages.counted;
      inner = tt;
      said = tt;
      own = own_task h task.0 past s.acts;
      creates = tt;
    }))
    tt rests)

-- the entry, and that a control begins
ran_begun : (header : Header) (h : ℕ) (outside : Outside) (task : TaskId) (address bytes : ℕ) (object : ObjectId) (offset : ℕ) (past : List Event)
    (k k2 : Parts) (ids : Ids) (before after : List Event) (new : ObjectRow)
    → Starts header h (command.Map task address bytes object offset) past k ids before → BeginsAnew (object_at k.memory.objects object.0) new
    → after ≡ beginning h object new.control header.size ∷ got task (shared_entry address bytes object offset) ∷ before
    → Rests header h k2 ids (beginning h object new.control header.size ∷ got task (shared_entry address bytes object offset) ∷ past)
    → Ran header h outside (command.Map task address bytes object offset) past k2 ids after
ran_begun header h outside task address bytes object offset past k k2 ids before after new s anew told rests =
    let m = s.rests.matches in
    let doing = command.Map task address bytes object offset in
    let enters = got task (shared_entry address bytes object offset) in
    let begins = beginning h object new.control header.size in
    let may = may_map header h task address bytes object offset past k ids before s in
    let log : after ≡ begins ∷ enters ∷ [] = told ∙ ap (λ z. begins ∷ enters ∷ z) s.nothing in
    let number : last_control h object.0 past + 1 ≡ new.control = ap (λ z. z + 1) (m.core.controls.last object.0) ∙ sym anew.control in
    let is : head header past doing ≡ Some (enters ∷ begins ∷ []) =
    ap (map_head header task address bytes object offset past) (lives_here m.core.spaces.tasks may.lives)
    ∙ (ap (λ z. Some (enters ∷ opening h object (last_control h object.0 past + 1) header.size z)) (was_dead header h past k ids object.0 new s.rests anew)
    ∙ ap (λ z. Some (enters ∷ beginning h object z header.size ∷ [])) number) in
    let fine = suffices header h k.memory.frames past m.core.pages.counted in
    subst (λ (z : List Event). Ran header h outside doing past k2 ids z) (sym log)
    (ran_head header h outside doing past k2 ids (begins ∷ enters ∷ []) (enters ∷ begins ∷ []) is refl
    (record {
      licensed = (
        licensed header outside doing begins (enters ∷ past) refl (map_opens header h task address bytes object offset new past k ids s.rests may anew),
        (licensed header outside doing enters past m.settled.none_owed (map_enters header h task address bytes object offset past k ids s.rests may), tt),
      );
      own_bytes = (tt, (tt, tt));
      frames = (fine, (fine, tt));
      inner = (tt, (tt, tt));
      said = (refl, (tt, tt));
      mine = (
        mine_of header h begins (enters ∷ past) (λ region. refl) (own_named h) (map_home header h task address bytes object offset past k ids s.rests may),
        (mine_of header h enters past m.settled.shut (own_task h task.0 past s.acts) tt, tt),
      );
    })
    tt rests)

-- the region that was there may count one entry more
may_share : (header : Header) (h : ℕ) (task : TaskId) (address bytes : ℕ) (object : ObjectId) (offset : ℕ) (past : List Event) (k : Parts) (ids : Ids)
    → Rests header h k ids past → MayMap header h k task.0 address bytes object offset past
    → IsInside header.size k.chains (shared_entry address bytes object offset)
    → MayShare header task.0 (shared_entry address bytes object offset) past k
may_share header h task address bytes object offset past k ids rests may inside =
    let there = region_row k.chains object.0 inside.region in
    record {
      counted = elim (rests.used.regions object.0 there.0 there.1) [
        | inl some ↦ subst (λ (z : ℕ). 0 < z) (sym (ap entries_in_row there.1)) some
        | inr filled ↦
            let least = filled_temporary object.0 rests.used.copies rests.matches.core.spaces.homes.1 filled in
            let less = may.declared in
            absurd (omega (arith, least, less))
      ];
      lives = may.lives;
      idle = may.idle;
      free = may.judged;
      pages = may.pages;
      inside = inside;
      shared = λ less other same. let bad : inherit.Share ≡ inherit.Copy = same in cc;
    }

pub ran_map : (header : Header) (h : ℕ) (outside : Outside) (task : TaskId) (address bytes : ℕ) (object : ObjectId) (offset : ℕ) (past : List Event)
    (k k2 : Parts) (ids : Ids) (before after : List Event) → Starts header h (command.Map task address bytes object offset) past k ids before
    → MapsTo header h task (shared_entry address bytes object offset) object past k k2 before after
    → Ran header h outside (command.Map task address bytes object offset) past k2 ids after
ran_map header h outside task address bytes object offset past k k2 ids before after s (WasThere control alive inside shares) =
    let may = may_map header h task address bytes object offset past k ids before s in
    let share = may_share header h task address bytes object offset past k ids s.rests may inside in
    ran_entered header h outside task address bytes object offset past k k2 ids before after control s alive shares.told
    (rests_shared header h outside (command.Map task address bytes object offset) task (shared_entry address bytes object offset) past k k2 ids before after
    s.rests share shares)
ran_map header h outside task address bytes object offset past k k2 ids before after s (WasEnded known between inside shares next told) =
    let row = shared_entry address bytes object offset in
    let may = may_map header h task address bytes object offset past k ids before s in
    let share = may_share header h task address bytes object offset past k ids s.rests may inside in
    let found : object_at k.memory.objects object.0 ≡ Some known = ap (λ z. object_at z.objects object.0) (sym shares.memory) ∙ next.found in
    let anew = begins_anew header h past k ids object known s.rests may.declared found next.dead next.few in
    let middle = rests_shared header h outside (command.Map task address bytes object offset) task row past k between ids before (got task row ∷ before) s.rests
    share shares in
    ran_begun header h outside task address bytes object offset past k k2 ids before after (controlled (known.control + 1) state.Sent known) s anew told
    (rests_begun header h object known (got task row ∷ past) between k2 ids middle may.declared
    (some_refer header h past k ids object.0 known s.rests may.declared inside.region found) next (ap destroy_taken s.begins.is))
ran_map header h outside task address bytes object offset past k k2 ids before after s (WasKept objects chains maps pages new o still same told) =
    let doing = command.Map task address bytes object offset in
    let row = shared_entry address bytes object offset in
    let may = may_map header h task address bytes object offset past k ids before s in
    let alive : live_control h object.0 past ≡ Some still.row.control = s.rests.matches.core.controls.live object.0
    ∙ (ap live_in still.found ∙ ap (λ b. if b then Some still.row.control else None) still.lives) in
    ran_entered header h outside task address bytes object offset past k k2 ids before after still.row.control s alive told
    (subst (λ (z : Parts). Rests header h z ids (got task row ∷ past)) (sym same)
    (rests_kept header h outside doing task address bytes object offset pages new past k ids objects chains maps s.rests may o still))
ran_map header h outside task address bytes object offset past k k2 ids before after s (IsMade objects chains maps pages new o anew same told) =
    let doing = command.Map task address bytes object offset in
    let may = may_map header h task address bytes object offset past k ids before s in
    ran_begun header h outside task address bytes object offset past k k2 ids before after new s anew told
    (subst (λ (z : Parts). Rests header h z ids (beginning h object new.control header.size ∷ got task (shared_entry address bytes object offset) ∷ past))
    (sym same) (rests_opened header h outside doing task address bytes object offset pages new past k ids objects chains maps s.rests s.begins may o anew))

-- it leaves the lists of pages
pub plays_map : {header : Header} {h : ℕ} {task : TaskId} {row : Entry} {object : ObjectId} {past : List Event} {k k2 : Parts} {before after : List Event}
    → MapsTo header h task row object past k k2 before after → Plays header past before (paging k) after (paging k2)
plays_map {k = k} {k2 = k2} (WasThere control alive inside shares) =
    plays_told shares.told (lists_same k k2 (ap (λ z. z.resident) shares.memory) (ap (λ z. z.queues) shares.memory))
plays_map {k = k} {k2 = k2} (WasEnded known between inside shares next told) =
    plays_both (plays_told shares.told (lists_same k between (ap (λ z. z.resident) shares.memory) (ap (λ z. z.queues) shares.memory)))
    (plays_told told (lists_same between k2 (ap (λ (z : Parts). z.memory.resident) next.same) (ap (λ (z : Parts). z.memory.queues) next.same)))
plays_map {k = k} {k2 = k2} (WasKept objects chains maps pages new o still same told) =
    plays_told told (lists_same k k2 (ap (λ (z : Parts). z.memory.resident) same) (ap (λ (z : Parts). z.memory.queues) same))
plays_map {k = k} {k2 = k2} (IsMade objects chains maps pages new o anew same told) =
    plays_both (plays_told refl refl) (plays_told told (lists_same k k2 (ap (λ (z : Parts). z.memory.resident) same)
    (ap (λ (z : Parts). z.memory.queues) same)))

-- and the frame queue
pub quiet_map : {header : Header} {h : ℕ} {task : TaskId} {row : Entry} {object : ObjectId} {past : List Event} {k k2 : Parts} {before after : List Event}
    → MapsTo header h task row object past k k2 before after → QueueIsStill k.waits.queue k2.waits.queue before after
quiet_map (WasThere control alive inside shares) =
    record { queue = ap (λ z. z.queue) shares.waits; none = λ none. subst (EachOf RunsNone) (sym shares.told) (tt, none) }
quiet_map (WasEnded known between inside shares next told) =
    record {
      queue = ap (λ (z : Parts). z.waits.queue) next.same ∙ ap (λ z. z.queue) shares.waits;
      none = λ none. subst (EachOf RunsNone) (sym told) (tt, (tt, none));
    }
quiet_map (WasKept objects chains maps pages new o still same told) =
    record { queue = ap (λ (z : Parts). z.waits.queue) same; none = λ none. subst (EachOf RunsNone) (sym told) (tt, none) }
quiet_map (IsMade objects chains maps pages new o anew same told) =
    record { queue = ap (λ (z : Parts). z.waits.queue) same; none = λ none. subst (EachOf RunsNone) (sym told) (tt, (tt, none)) }

-- What is asked of the calls.

pub few_lead : (header : Header) (h : ℕ) (past : List Event) (k : Parts) (ids : Ids) (o : ℕ) → Rests header h k ids past
    → IfSome (region_at k.chains o) (λ row. row.entries < 2 ^ 32 - 1)
few_lead header h past k ids o rests = by (region_at k.chains o) refl
  where
    by : (x : Option RegionRow) → region_at k.chains o ≡ x → IfSome x (λ row. row.entries < 2 ^ 32 - 1)
    by None is = tt
    by (Some row) is =
        let few = few_entries header.size k.maps k.chains o rests.matches.core.spaces.entries (ap is_some is) in
        let count = ap entries_in_row is in
        omega (arith, few, count)

pub few_refer : (header : Header) (h : ℕ) (past : List Event) (k : Parts) (ids : Ids) (o : ℕ) → Rests header h k ids past → o < named header
    → IfSome (object_at k.memory.objects o) (λ row. row.references < 2 ^ 32 - 1)
few_refer header h past k ids o rests less = by (object_at k.memory.objects o) refl
  where
    by : (x : Option ObjectRow) → object_at k.memory.objects o ≡ x → IfSome x (λ row. row.references < 2 ^ 32 - 1)
    by None is = tt
    by (Some row) is =
        let m = rests.matches in
        let more = named_regions header past in
        declared_refer header past k.chains k.memory.objects ids (next_region header past) (next_object header past) (marks_of header past) o row
        m.core.objects.regions m.core.objects.kinds m.core.spaces.homes.1 less (omega (arith, less, more)) is

-- the maps are as they were
pub maps_held : {object : ObjectId} {d : Declared} {k k2 : Parts} → Holds object d k k2 → k2.maps ≡ k.maps
maps_held (Again region found put same) = ap (λ (z : Parts). z.maps) same
maps_held (First free put known marks same) = ap (λ (z : Parts). z.maps) same

-- the object is known
pub known_held : (header : Header) (h : ℕ) (task : TaskId) (address bytes : ℕ) (object : ObjectId) (offset : ℕ) (past : List Event) (k k2 : Parts) (ids : Ids)
    (before : List Event) → Starts header h (command.Map task address bytes object offset) past k ids before
    → IfSome (slice_get (reverse k.declared.items) object.0) (λ d. Holds object d k k2) → IsSome (object_at k2.memory.objects object.0)
known_held header h task address bytes object offset past k k2 ids before s holds =
    by (holds_is header h task address bytes object offset past k k2 ids before s holds).1
  where
    m : Matches header h k ids [] past
    m = s.rests.matches

    d : Declared
    d = (declared_there header object.0 s.range.1).0

    by : Holds object d k k2 → IsSome (object_at k2.memory.objects object.0)
    by (Again region found put same) =
        ap (λ (z : Parts). is_some (object_at z.memory.objects object.0)) same
        ∙ subst (λ (z : ℕ). is_some (object_at k.memory.objects z) ≡ true) (whole_row m.core.objects.regions m.core.spaces.homes.1 object.0 region s.range.1
        found).top
        (m.core.objects.regions.tops object.0 region found)
    by (First free put known marks same) =
        ap is_some (known_put object.0 (referred d (object_at k.memory.objects object.0)) k.memory.objects k2.memory.objects known)

pub enters_there : (header : Header) (h : ℕ) (task : TaskId) (address bytes : ℕ) (object : ObjectId) (offset : ℕ) (past : List Event) (k k2 : Parts) (ids : Ids)
    (before : List Event) → Starts header h (command.Map task address bytes object offset) past k ids before
    → IfSome (slice_get (reverse k.declared.items) object.0) (λ d. Holds object d k k2) → IsSome (entries_in task.0 k2.maps)
enters_there header h task address bytes object offset past k k2 ids before s holds =
    ap (λ z. is_some (entries_in task.0 z)) (maps_held (holds_is header h task address bytes object offset past k k2 ids before s holds).1)
    ∙ ap is_some (may_map header h task address bytes object offset past k ids before s).lives

pub enters_judged : (header : Header) (h : ℕ) (task : TaskId) (address bytes : ℕ) (object : ObjectId) (offset : ℕ) (past : List Event) (k k2 : Parts)
    (ids : Ids) (before : List Event) (row : Entry) (change : MapChange) → Starts header h (command.Map task address bytes object offset) past k ids before
    → IfSome (slice_get (reverse k.declared.items) object.0) (λ d. Holds object d k k2) → row ≡ shared_entry address bytes object offset → change ≡ entering row
    → judged k2.maps.size change (rows_in task.0 k2.maps) ≡ None
enters_judged header h task address bytes object offset past k k2 ids before row change s holds is made =
    ap (λ z. judged z.size change (rows_in task.0 z)) (maps_held (holds_is header h task address bytes object offset past k k2 ids before s holds).1)
    ∙ (ap (λ z. judged k.maps.size z (rows_in task.0 k.maps)) (made ∙ ap entering is)
    ∙ (may_map header h task address bytes object offset past k ids before s).judged)
