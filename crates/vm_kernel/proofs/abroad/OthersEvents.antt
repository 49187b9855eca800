-- What is no event of a host leaves what its kernel stands for.
use Rattle.vm_kernel.proofs.Common.{AllInTurn, AllRows, ApartElsewhere, BeganInOrder, Below, Bool, Command, Down, EachIn, EachOf, EntersNext, Entry, Event}
use Rattle.vm_kernel.proofs.Common.{HasCause, HasControls, HasFrames, HasLaundry, HasOrder, HasPages, HasQueue, HasRegions, HasTasks, HasUse, HasWaits}
use Rattle.vm_kernel.proofs.Common.{HaveHomes, Header, Ids, IfSome, IsAbroad, IsAmong, IsCommon, IsHeldOn, IsInside, IsMine, IsNobodys, IsOfHost, IsRegionOf}
use Rattle.vm_kernel.proofs.Common.{IsShut, IsUsed, Knows, List, Matches, MomentsIn, None, Option, Outside, Parts, PromptAt, RegionRow, Rests, SameFacts}
use Rattle.vm_kernel.proofs.Common.{SameForHost, Some, Sound, Suffice, Up, Waiting, [], all_tasks, ap, apart_abroad, arith, backing_of, begun_at, both_left}
use Rattle.vm_kernel.proofs.Common.{copy_target, entries_in, entries_of, entry, eqb_tells, false, fills, frames_free, frames_held, frames_used, frames_wired}
use Rattle.vm_kernel.proofs.Common.{has_entry, has_region, holds, home_of, homes_next, homes_stay, host_of, if◌then◌else◌, in_use, inl, inr, is_among}
use Rattle.vm_kernel.proofs.Common.{is_control, is_home, is_ready, is_some, is_used, last_control, leads_now, live_control, lives_on, local, named, nat_lt}
use Rattle.vm_kernel.proofs.Common.{nat_tests, next_object, next_region, not, pages_abroad, place_of, refl, region_at, region_of, returns_out, reverse, rows_in}
use Rattle.vm_kernel.proofs.Common.{rows_map, slice_get, sound_next, stays, subst, suc, swept_now, sym, tasks, true, unwrap_or, use_of, use_same, used_of}
use Rattle.vm_kernel.proofs.Common.{vain_now, zero, ℕ, ◌++◌, ◌<◌, ◌==◌, ◌∙◌, ◌∷◌, ◌≡◌, ◌≤◌, ◌⊎◌}
use Rattle.vm_legal.proofs.Files.{file_paged}
use Rattle.vm_kernel.proofs.space.RegionsFilled.{row_use}
use Rattle.vm_kernel.proofs.space.RegionsInUse.{fills_here, waits_some}
use Rattle.vm_state.proofs.Filling.{used_told}
use Rattle.vm_model.specs.declared.message.Message.TheVariants as message
use Rattle.vm_model.specs.declared.event.Event.TheVariants as event
use Rattle.std.specs.Prelude.{◌&&◌, ◌+◌, ◌==◌, ◌||◌}
use Rattle.vm_model.specs.Homes.{home_in, object_home}
use Rattle.vm_model.specs.Local.{is_on, Local, is_known_absent}
use Rattle.vm_model.specs.Waiting.{waiting}
use Rattle.vm_state.specs.Places.{known_local}
use Rattle.vm_state.specs.Waiters.{waiting_in}
use Rattle.vm_abroad.proofs.Home.{copied_low, copy_temporary, homes_abroad, named_objects, objects_stay, on_own}
use Rattle.vm_abroad.specs.Sound.{IsObjectOf}
use Rattle.vm_objects.specs.Objects.{object_at}
use Rattle.vm_objects.specs.declared.row.ObjectRow.{ObjectRow}
use Rattle.vm_model.specs.Regions.{is_copy, made, newest_copy}
use Rattle.vm_abroad.proofs.Thin.{thin_now}
use Rattle.vm_legal.specs.Homes.{is_open, starts_copy}
use Rattle.vm_parts.specs.Changes.{one}
use Rattle.vm_shadow.specs.Chains.{ChainTable, shadow_at}
use Rattle.vm_shadow.specs.declared.shadow_row.ShadowRow.{ShadowRow}
use Rattle.vm_abroad.proofs.Regions.{kind_cases}
use Rattle.vm_state.proofs.Reaching.{chain_known}
use Rattle.vm_state.proofs.Referring.{row_of, small_object, small_region, small_shadow}
use Rattle.vm_state.specs.References.{is_backing, is_over, references_to, tally}
use Rattle.vm_kernel.proofs.space.EntriesCounted.{by_some}
use Rattle.vm_kernel.proofs.abroad.OwnHost.{lives_in, own_host}
use Rattle.vm_kernel.proofs.space.RegionRows.{region_row}
use Rattle.vm_kernel.proofs.space.ObjectEnds.{declared_chain, entry_there, used_there}
use Rattle.vm_supply.specs.declared.woken.Woken.TheVariants as woken
use Rattle.std.proofs.lemmas.Bool.{or_right}
use Rattle.std.proofs.Math.Bool.{and-false}
use Rattle.vm_legal.proofs.Turns.{cause_of}
use Rattle.vm_base.specs.declared.ids.PageKey.{PageKey}
use Rattle.vm_legal.specs.Returned.{OnlyReturned, was_returned}
use Rattle.vm_legal.specs.Walks.{page_on}
use Rattle.vm_model.specs.declared.message.Message.TheVariants as message
use Rattle.vm_state.proofs.Bypassing.{waits_beyond}
use Rattle.vm_state.proofs.Passing.{Later, not_yet, only_before}
use Rattle.vm_state.specs.Passed.{IsAway, IsUnmet, StaysAway}
use Rattle.vm_state.specs.Counts.{marks_of}
use Rattle.vm_legal.specs.Destroyed.{destroy_taken, is_destroyed}
use Rattle.vm_kernel.specs.Matches.{Copied, IsCalm, object_facts}
use Rattle.vm_legal.specs.Pushes.{is_pushed}
use Rattle.vm_state.proofs.CopyFits.{newest_row}
use Rattle.vm_state.proofs.CopyObjects.{copies_elsewhere, is_known}
use Rattle.vm_abroad.proofs.Pages.{live_abroad}

-- what a kernel says of all hosts

pub common_of : (header : Header) (h : ℕ) (k : Parts) (ids : Ids) (gone : List Entry) (past : List Event) → Matches header h k ids gone past
    → IsCommon header ids past
common_of header h k ids gone past matches =
    let has = matches.core.objects.regions in
    record {
      region = has.region;
      object = has.object;
      marks = has.marks;
      few = has.few;
      settled = matches.settled;
      replied = matches.replied;
      homes = matches.core.spaces.homes.1;
    }

-- what its tables say of its host

among_of : (n : ℕ) (ns : List ℕ) → is_among n ns ≡ true → IsAmong n ns
among_of n [] is = absurd (let bad : false ≡ true = is in cc)
among_of n (m ∷ more) is = elim (eqb_tells m n) [ inl same ↦ inl same.1 | inr apart ↦ inr (among_of n more (rw apart.0 at is)) ]

among_more : (n : ℕ) (more ns : List ℕ) → is_among n ns ≡ true → is_among n (more ++ ns) ≡ true
among_more n [] ns is = is
among_more n (m ∷ more) ns is = or_right (m == n) (is_among n (more ++ ns)) (among_more n more ns is)

-- a task with entries lives
pub with_entry : (r : ℕ) (x : Option (List Entry)) → has_entry r (unwrap_or x []) ≡ true → is_some x ≡ true
with_entry r None has = has
with_entry r (Some rows) has = refl

-- a region of its tables is the host's
own_region : (header : Header) (h : ℕ) (k : Parts) (ids : Ids) (past : List Event) → Rests header h k ids past → (r : ℕ) → has_region k.chains r ≡ true
    → IsRegionOf header h r past
own_region header h k ids past rests r has temporary = by_row (region_at k.chains r) refl has
  where
    by_row : (x : Option RegionRow) → region_at k.chains r ≡ x → is_some x ≡ true → is_used header h r past ≡ true
    by_row None found has = absurd (let bad : false ≡ true = has in cc)
    by_row (Some row) found has =
        used_of header h r past (rests.matches.settled.shut r) ((rests.matches.core.spaces.uses.used r temporary).is
        (row_use r row rests.matches.core.spaces.entries found rests.used))

held_on : (header : Header) (h : ℕ) (k : Parts) (ids : Ids) (past : List Event) → Rests header h k ids past → (r : ℕ) → named header ≤ r
    → is_used header h r past ≡ true → IsHeldOn header h r past
held_on header h k ids past rests r temporary used =
    let has = rests.matches.core.spaces.tasks in
    elim ((rests.matches.core.spaces.uses.used r temporary).why (use_of header h r past used)) [
      | inl count ↦
          let some = by_some all_tasks r k.maps count in
          let here = with_entry r (entries_in some.0 k.maps) some.1 in
          on_task some.0 here (inl (ap (has_entry r) (has.rows some.0 here) ∙ some.1))
      | inr filled ↦
          let fills_now = fills_here {past = past} rests.waits rests.used.copies in
          let here = fills_now.lives filled.task (waits_some r (entry k.waits.rows filled.task) filled.fills) in
          on_task filled.task here (inr (fills_now.is filled.task r here ∙ filled.fills))
    ]
  where
    on_task : (task : ℕ) → is_some (entries_in task k.maps) ≡ true → (has_entry r (entries_of header.size task past) ≡ true)
        ⊎ (fills r (waiting task past) (copy_target task past) ≡ true) → IsHeldOn header h r past
    on_task task here holds_it =
        let has = rests.matches.core.spaces.tasks in
        let lives : lives_on h task past ≡ true = has.hosts task ∙ here in
        record {
          task = task;
          lives = lives;
          made = among_of task (tasks past) (rests.matches.core.spaces.uses.among task (rows_in task k.maps) (lives_in task has lives));
          holds = holds_it;
        }

-- an object that its tables know is the host's
own_object : (header : Header) (h : ℕ) (k : Parts) (ids : Ids) (past : List Event) → Rests header h k ids past → (o : ℕ) (row : ObjectRow)
    → object_at k.memory.objects o ≡ Some row → IsObjectOf header h o past
own_object header h k ids past rests o row found temporary = ap (is_on h) (rests.matches.core.controls.home o row temporary found) ∙ on_own h

-- the chain of a region of the host is of objects that its tables know, or of a declared one, and these were made, for the host
chain_made : (header : Header) (h : ℕ) (k : Parts) (ids : Ids) (past : List Event) → Rests header h k ids past → (r n u : ℕ) → IsRegionOf header h r past
    → Below (λ o. backing_of header o past) n (region_of header r past).top u → (u < next_object header past) × IsObjectOf header h u past
chain_made header h k ids past rests r n u own below = elim (kind_cases header r) [
  | inl declared ↦
      let same = declared_chain header past r n u rests.matches.core.spaces.homes.1 declared below in
      let more = named_objects header past in
      (omega (arith, same, declared, more), λ temporary. absurd (omega (arith, same, declared, temporary)))
  | inr temporary ↦
      let row = used_there header h k ids [] past r rests.matches rests.used.copies temporary (use_of header h r past (own temporary)) in
      let known = chain_known rests.matches.core.objects.regions r row.0 row.1 n u below in
      (small_object rests.matches.core.objects.regions u known.row known.known, own_object header h k ids past rests u known.row known.known)
]

pub knows_of : (header : Header) (h : ℕ) (k : Parts) (ids : Ids) (past : List Event) → Rests header h k ids past → Knows header h past
knows_of header h k ids past rests = record {
  held = λ r temporary used. held_on header h k ids past rests r temporary used;
  entries = λ task lives.
      subst (AllRows (λ row. IsRegionOf header h row.region.0 past)) (sym (rests.matches.core.spaces.tasks.rows task
      (sym (rests.matches.core.spaces.tasks.hosts task) ∙ lives)))
      (rows_map (IsInside header.size k.chains) (λ row. IsRegionOf header h row.region.0 past)
      (λ row is. own_region header h k ids past rests row.region.0 is.region) (rows_in task k.maps) (rests.matches.core.spaces.entries.inside task));
  chains = λ r small own n u below. chain_made header h k ids past rests r n u own below;
}

-- numbers above all that pass a test add nothing to how many do
tally_more : (test : ℕ → Bool) (n m : ℕ) → n ≤ m → ((i : ℕ) → n ≤ i → test i ≡ false) → tally test m ≡ tally test n
tally_more test n zero least none = let same : 0 ≡ n = omega (arith, least) in ap (tally test) same
tally_more test n (suc m) least none = by_test (λ at_least. tally_more test n m at_least none) (nat_lt n (suc m)) refl
  where
    by_test : (n ≤ m → tally test m ≡ tally test n) → (b : Bool) → nat_lt n (suc m) ≡ b → tally test (suc m) ≡ tally test n
    by_test before true less =
        let at_least : n ≤ m = grind (arith, nat_tests) in
        let nothing : one (test m) ≡ 0 = ap one (none m at_least) in
        let was = before at_least in
        let all : one (test m) + tally test m ≡ tally test n = omega (arith, nothing, was) in
        all
    by_test before false less = let same : suc m ≡ n = grind (arith, nat_tests) in ap (tally test) same

-- nor do they to the references to an object
references_more : (chains : ChainTable) (regions objects more_regions more_objects o : ℕ) → regions ≤ more_regions → objects ≤ more_objects
    → ((r : ℕ) → regions ≤ r → region_at chains r ≡ None) → ((s : ℕ) → objects ≤ s → shadow_at chains s ≡ None)
    → references_to chains more_regions more_objects o ≡ references_to chains regions objects o
references_more chains regions objects more_regions more_objects o few less unmade bare =
    let one_more = tally_more (λ r. is_over o (region_at chains r)) regions more_regions few (λ r high. ap (is_over o) (unmade r high)) in
    let others_more = tally_more (λ s. is_backing o (shadow_at chains s)) objects more_objects less (λ s high. ap (is_backing o) (bare s high)) in
    omega (arith, one_more, others_more)

-- what was returned on a host is the same, and its pagers gave no more
pub record SameReturns (header : Header) (h : ℕ) (old new : List Event) : Type 0 where
  pub returned : (o p : ℕ) → was_returned h o p new ≡ was_returned h o p old
  pub only : OnlyReturned header h new → OnlyReturned header h old

returned_abroad : (header : Header) (h o p : ℕ) (e : Event) (past : List Event) → is_home header h e past ≡ false
    → was_returned h o p (e ∷ past) ≡ was_returned h o p past
returned_abroad header h o p (event.Sent (Up host object) (message.Return control page dirty keep bytes)) past foreign =
    ap (λ b. (b && (object.0 == o && page.0 == p)) || was_returned h o p past) foreign
returned_abroad header h o p e past foreign = refl

returns_abroad : (header : Header) (outside : Outside) (h : ℕ) (events past : List Event) → EachIn (IsAbroad header outside h) events past
    → SameReturns header h past (events ++ past)
returns_abroad header outside h [] past abroad = record { returned = λ o p. refl; only = λ only. only }
returns_abroad header outside h (e ∷ events) past abroad =
    let before = returns_abroad header outside h events past abroad.1 in
    record {
      returned = λ o p. returned_abroad header h o p e (events ++ past) abroad.0.foreign ∙ before.returned o p;
      only = λ only. before.only (only_before header h e (events ++ past) only);
    }

-- nor has it destroyed an object of this host
calm_next : (header : Header) (h o : ℕ) (e : Event) (past : List Event) → is_home header h e past ≡ false → is_destroyed h o (destroy_taken (e ∷ past)) ≡ true
    → is_destroyed h o (destroy_taken past) ≡ true
calm_next header h o (event.Line line) past foreign is = absurd (let bad : false ≡ true = is in cc)
calm_next header h o (event.Taken (Up at object) m) past foreign is = absurd (let bad : false ≡ true = is in cc)
calm_next header h o (event.Taken (Down at object control) (message.Destroy reason)) past foreign is =
    by (is_control control (live_control at.0 object.0 past)) is
  where
    by : (b : Bool) → is_destroyed h o (if b then Some (record { host = at.0; object = object.0 }) else None) ≡ true
        → is_destroyed h o (destroy_taken past) ≡ true
    by true now = absurd (let bad : false ≡ true = sym (ap (λ z. z && object.0 == o) foreign) ∙ now in cc)
    by false now = absurd (let bad : false ≡ true = now in cc)
calm_next header h o (event.Taken (Down at object control) m) past foreign is = absurd (let bad : false ≡ true = is in cc)
calm_next header h o e past foreign is = is

calm_abroad : (header : Header) (outside : Outside) (h : ℕ) (events past : List Event)
    → IsCalm (named header) (λ o. live_control h o past) (λ o. is_destroyed h o (destroy_taken past)) → EachIn (IsAbroad header outside h) events past
    → IsCalm (named header) (λ o. live_control h o (events ++ past)) (λ o. is_destroyed h o (destroy_taken (events ++ past)))
calm_abroad header outside h [] past calm abroad = calm
calm_abroad header outside h (e ∷ events) past calm abroad = λ o is.
    let was = calm_abroad header outside h events past calm abroad.1 o (calm_next header h o e (events ++ past) abroad.0.foreign is) in
    (was.0, live_abroad header h e (events ++ past) abroad.0.foreign o ∙ was.1)

-- a kernel whose host's facts read the same stands for them still

module _ (header : Header) (h : ℕ) (k : Parts) (ids next : Ids) (past new : List Event) (rests : Rests header h k ids past) (same : SameFacts header h past new)
    (common : IsCommon header next new) where
  living : (task : ℕ) → is_some (entries_in task k.maps) ≡ true → lives_on h task past ≡ true
  living task here = rests.matches.core.spaces.tasks.hosts task ∙ here

  tasks_same : HasTasks h header.size k.maps (λ task. host_of task new) (λ task. entries_of header.size task new)
  tasks_same =
      let has = rests.matches.core.spaces.tasks in
      record {
        sized = has.sized;
        hosts = λ task. same.lives task ∙ has.hosts task;
        rows = λ task here. (same.task task (living task here)).entries
            ∙ has.rows task here;
      }

  regions_same : HasRegions k.chains k.memory.objects next (λ r. region_of header r new) (λ o. backing_of header o new) (next_region header new)
      (next_object header new) (marks_of header new)
  regions_same =
      let has = rests.matches.core.objects.regions in
      record {
        region = common.region;
        object = common.object;
        marks = common.marks;
        few = common.few;
        rows = λ r row found. same.region r (small_region has r row found) (own_region header h k ids past rests r (ap is_some found)) ∙ has.rows r row found;
        shadows =
            λ o row found. let known = row_of (object_at k.memory.objects o) (has.unders o row found).0 in
            same.backing o (small_shadow has o row found) (own_object header h k ids past rests o known.0 known.1) ∙ has.shadows o row found;
        bottoms =
            λ o referred bare.
            ap (λ z. z.backed)
            (same.backing o (small_object has o referred.row referred.known) (own_object header h k ids past rests o referred.row referred.known))
            ∙ has.bottoms o referred bare;
        unmade = λ r high. has.unmade r (let rise = same.regions in omega (arith, rise, high));
        unknown = λ o high. has.unknown o (let rise = same.objects in omega (arith, rise, high));
        tops = has.tops;
        unders = has.unders;
        ranked = has.ranked;
        fits = has.fits;
        counts = λ o known found.
            has.counts o known found ∙
            ap (λ n. n + one known.cache) (sym (references_more k.chains (next_region header past) (next_object header past) (next_region header new)
            (next_object header new) o same.regions
            same.objects has.unmade (λ s high. none_from s high (shadow_at k.chains s) refl)));
      }
    where
      none_from : (s : ℕ) → next_object header past ≤ s → (x : Option ShadowRow) → shadow_at k.chains s ≡ x → x ≡ None
      none_from s high None is = refl
      none_from s high (Some row) is = let small = small_shadow rests.matches.core.objects.regions s row is in absurd (omega (arith, small, high))

  pages_same : HasPages k.memory.frames k.memory.resident k.memory.objects (λ o p. known_local header o p (local header h (place_of o p) new))
  pages_same = record { shown = λ o p. ap (known_local header o p) (same.pages.local (place_of o p)) ∙ rests.matches.core.pages.shown.shown o p }

  uses_same : ApartElsewhere header h new → ((r : ℕ) → home_of r past ≡ Some h → home_of r new ≡ Some h)
      → HasUse header k.maps k.waits.rows (λ r. in_use header h r new) (tasks new) (λ task r. holds header.size task r new) (next_region header new)
  uses_same apart home =
      let has = rests.matches.core.spaces.uses in
      record {
        used =
            λ r temporary. subst (λ (b : Bool). IsUsed k.maps k.waits.rows r b) (sym
            (use_same header h r past new same temporary (rests.matches.settled.shut r) (common.settled.shut r))) (has.used r temporary);
        files = λ r file some.
            let task = by_some all_tasks r k.maps some in
            let row = region_row k.chains r (entry_there header.size r k.chains (rows_in task.0 k.maps) (rests.matches.core.spaces.entries.inside task.0)
            task.1) in
            common.homes.files r h file (inr (home r (rests.matches.core.spaces.homes.0 r row.0 (file_paged header r file) row.1)));
        among =
            λ task rows found. subst (λ (z : List ℕ). is_among task z ≡ true) (sym same.made.is)
            (among_more task same.made.made (tasks past) (has.among task rows found));
        apart = λ task r away ours. apart task r (same.lives task ∙ (rests.matches.core.spaces.tasks.hosts task ∙ ap is_some away)) ours;
      }

  controls_same : ((o : ℕ) → object_home o past ≡ Some h → object_home o new ≡ Some h)
      → HasControls (named header) h k.memory.objects (λ o. last_control h o new) (λ o. live_control h o new) (λ o. is_ready h o new) (λ o. object_home o new)
  controls_same home =
      let has = rests.matches.core.controls in
      record {
        last = λ o. same.pages.last o ∙ has.last o;
        live = λ o. same.pages.live o ∙ has.live o;
        ready = λ o control lives. same.pages.ready o ∙ has.ready o control (sym (same.pages.live o) ∙ lives);
        all_live = has.all_live;
        numbers = has.numbers;
        ended = has.ended;
        home = λ o row least found. home o (has.home o row least found);
      }

  stays_same : SameReturns header h past new → (key : PageKey) → StaysAway header h past key → StaysAway header h new key
  stays_same returns key stays = (
    stays.0,
    λ only. subst (λ (z : Bool). IsAway (page_on header h key.object.0 key.page.0 new) z) (sym (returns.returned key.object.0 key.page.0))
        (subst (λ (z : Local). IsAway z (was_returned h key.object.0 key.page.0 past)) (sym (same.pages.local (place_of key.object.0 key.page.0)))
        (stays.1 (returns.only only))),
  )

  unmet_same : (key : PageKey) → Later (IsUnmet header h past key) (IsUnmet header h new key)
  unmet_same key =
      let as_before = same.pages.local (place_of key.object.0 key.page.0) in
      record {
        before = λ none. not_yet (is_copy key.object.0 past) (is_copy key.object.0 new) (is_pushed h key.object.0 key.page.0 past)
            (is_pushed h key.object.0 key.page.0 new)
            (λ copy. same.copies key.object.0 (copied_low header key.object.0 past rests.matches.core.spaces.homes.1 copy) ∙ copy)
            (λ pushed. same.pages.pushed key.object.0 key.page.0 ∙ pushed) none;
        still = λ none was. record {
          away = ap (λ (z : Local). z.here) as_before ∙ was.away;
          unasked = ap (λ (z : Local). z.asked) as_before ∙ was.unasked;
          unknown = ap (is_known_absent header (place_of key.object.0 key.page.0)) as_before ∙ was.unknown;
        };
      }

  waits_same : SameReturns header h past new → HasWaits header h k woken.Nobody new
  waits_same returns =
      let has = rests.waits in
      record {
        is = λ t here. (same.task t (living t here)).waiting ∙ has.is t here;
        allowed = has.allowed;
        sized = has.sized;
        reasons = has.reasons;
        passed = (waits_beyond (stays_same returns) unmet_same has).passed;
        aims = has.aims;
        askers = has.askers;
        ready = has.ready;
      }

  order_rows : (from : ℕ) (rows : List Waiting) → ((t : ℕ) (w : Waiting) → entry rows t ≡ Some w → begun_at t new ≡ begun_at t past)
      → BeganInOrder (λ t. begun_at t past) from rows → BeganInOrder (λ t. begun_at t new) from rows
  order_rows from [] began order = tt
  order_rows from (w ∷ ws) began order =
      let it : begun_at w.task.0 new ≡ begun_at w.task.0 past = elim (eqb_tells w.task.0 w.task.0)
      [ inl is ↦ began w.task.0 w (rw is.0 refl) | inr apart ↦ absurd (apart.1 refl) ] in
      rw it (order.0, order_rows (suc (begun_at w.task.0 past)) ws later order.1)
    where
      later : (t : ℕ) (v : Waiting) → entry ws t ≡ Some v → begun_at t new ≡ begun_at t past
      later t v found = elim (eqb_tells w.task.0 t) [ inl is ↦ began t w (rw is.0 refl) | inr apart ↦ began t v (rw apart.0 found) ]

  order_same : HasOrder k new
  order_same = order_rows 0 k.waits.rows (λ t w found. (same.task t (living t (ap is_some (rests.waits.allowed t w found).lives))).begun) rests.order

  laundry_same : HasLaundry k.memory.frames k.memory.resident k.laundry (returns_out h new)
  laundry_same = subst (HasLaundry k.memory.frames k.memory.resident k.laundry) (sym same.pages.out) rests.matches.core.pages.washed

  frames_same : HasFrames (slice_get (reverse header.frames.items) h) k.memory.frames (frames_held header h new) (frames_wired h new)
  frames_same =
      let has = rests.matches.core.pages.counted in record {
        total = has.total;
        held = same.pages.held ∙ has.held;
        wired = same.pages.wired ∙ has.wired;
        fits = has.fits;
      }

  -- an object that its tables know is a copy where it was one
  copy_known : (o : ℕ) (row : ObjectRow) → object_at k.memory.objects o ≡ Some row → is_copy o new ≡ is_copy o past
  copy_known o row found = same.copies o (small_object rests.matches.core.objects.regions o row found)

  -- and where it is a file's newest, that file is the host's
  file_here : (file copy : ℕ) (row : ObjectRow) (at : List Event) → HaveHomes header at → newest_copy file at ≡ Some copy
      → object_at k.memory.objects copy ≡ Some row → (object_home copy past ≡ Some h → object_home copy at ≡ Some h)
      → is_on h (home_of file at) ≡ true
  file_here file copy row at homes newest found kept =
      let home = kept (rests.matches.core.controls.home copy row (copy_temporary header file copy at homes newest) found) in
      ap (is_on h) (sym (ap (home_in (λ r. home_of r at)) (homes.copies file copy newest).made) ∙ home) ∙ on_own h

  -- so its copy objects are as they were
  copied_same : ((r : ℕ) → is_on h (home_of r new) ≡ is_on h (home_of r past)) → ((o : ℕ) → object_home o past ≡ Some h → object_home o new ≡ Some h)
      → Copied k.copies k.memory k.chains (object_facts header new) (λ c p. is_pushed h c p new)
  copied_same known objects =
      let was = rests.matches.core.copied in
      record {
        known = copies_elsewhere (record {
          are = λ o referred. copy_known o referred.row referred.known;
          copy = λ c row found. let its = is_known (object_at k.memory.objects c) (was.fits.fits c row found).known in copy_known c its.0 its.1;
          newest = λ f c is referred.
              sym (same.newest f (sym (known f) ∙ file_here f c referred.row new common.homes is referred.known (objects c))) ∙ is;
          last = λ f c is.
              let row = newest_row was.fits.living f c is in
              let its = is_known (object_at k.memory.objects c.0) (was.fits.fits c.0 row.0 row.1).known in
              same.newest f (file_here f c.0 its.0 past rests.matches.core.spaces.homes.1 (was.known.last f c is) its.1 (λ home. home));
          pushed = same.pages.pushed;
        }) was.known;
        fits = was.fits;
      }

  -- tasks elsewhere hold none of its regions, and its regions and objects stay on their host
  pub rests_same : IsCalm (named header) (λ o. live_control h o new) (λ o. is_destroyed h o (destroy_taken new)) → SameReturns header h past new
      → ApartElsewhere header h new → ((r : ℕ) → home_of r past ≡ Some h → home_of r new ≡ Some h)
      → ((r : ℕ) → is_on h (home_of r new) ≡ is_on h (home_of r past)) → ((o : ℕ) → object_home o past ≡ Some h → object_home o new ≡ Some h)
      → Rests header h k next new
  rests_same calm returns apart home known objects = record {
    matches =
        record {
          core = record {
            setting = rests.matches.core.setting;
            calm = calm;
            fits = rests.matches.core.fits;
            spaces = record {
              tasks = tasks_same;
              entries = rests.matches.core.spaces.entries;
              shared = rests.matches.core.spaces.shared;
              uses = uses_same apart home;
              homes = (λ r row paged found. home r (rests.matches.core.spaces.homes.0 r row paged found), common.homes);
            };
            objects = record {
              regions = regions_same;
              kinds = rests.matches.core.objects.kinds;
              files = λ o file. known o ∙ rests.matches.core.objects.files o file;
              sizes = record {
                at =
                    λ o row least found. rests.matches.core.objects.sizes.at o row least found
                    ∙ sym (same.sizes o (small_object rests.matches.core.objects.regions o row found));
                few = rests.matches.core.objects.sizes.few;
              };
              undelayed = λ o less.
                  let was = rests.matches.core.objects.undelayed o less in
                  let small : o < next_object header past = let more = named_objects header past in omega (arith, less, more) in
                  record { copy = same.copies o small ∙ was.copy; pages = same.sizes o small ∙ was.pages };
            };
            copied = copied_same known objects;
            controls = controls_same objects;
            flags = λ o less. same.pages.cached o ∙ rests.matches.core.flags o less;
            pages = record {
              shown = pages_same;
              washed = laundry_same;
              counted = frames_same;
            };
          };
          settled = common.settled;
          replied = common.replied;
        };
    used = used_told rests.used (λ t w found. let it = same.task t (living t (ap is_some (rests.waits.allowed t w found).lives)) in (it.next, it.target));
    referred = rests.referred;
    thin = rests.thin;
    waits = waits_same returns;
    order = order_same;
    idle = rests.idle;
  }

apart_of : (header : Header) (h : ℕ) (k : Parts) (ids : Ids) (past : List Event) → Rests header h k ids past → ApartElsewhere header h past
apart_of header h k ids past rests task r away ours =
    rests.matches.core.spaces.uses.apart task r (none_in (entries_in task k.maps) (sym (rests.matches.core.spaces.tasks.hosts task) ∙ away)) ours
  where
    none_in : (x : Option (List Entry)) → is_some x ≡ false → x ≡ None
    none_in None is = refl
    none_in (Some rows) is = absurd (let bad : true ≡ false = is in cc)

-- a task of the host waits as its kernel says
pub waits_here : (header : Header) (h : ℕ) (k : Parts) (ids : Ids) (past : List Event) → Rests header h k ids past → (task : ℕ) → host_of task past ≡ Some h
    → is_some (entry k.waits.rows task) ≡ is_some (waiting task past)
waits_here header h k ids past rests task lives =
    let here = sym (rests.matches.core.spaces.tasks.hosts task) ∙ (ap (is_on h) lives ∙ own_host h) in
    sym (ap is_some (rests.waits.is task here) ∙ as_some (entry k.waits.rows task))
  where
    as_some : (x : Option Waiting) → is_some (waiting_in k.maps.size x) ≡ is_some x
    as_some None = refl
    as_some (Some w) = refl

-- regions and objects have their homes behind events that are nothing to a host
homes_after : (header : Header) (outside : Outside) (h : ℕ) (events past : List Event) → EachIn (IsAbroad header outside h) events past
    → HaveHomes header past → HaveHomes header (events ++ past)
homes_after header outside h [] past abroad homes = homes
homes_after header outside h (e ∷ events) past abroad homes =
    homes_next header outside e (events ++ past) abroad.0.cause (homes_after header outside h events past abroad.1 homes)

-- a region that is made just then is over a new object, which stands on nothing
made_bare : (header : Header) (outside : Outside) (h : ℕ) (events past : List Event) → HaveHomes header past → IsShut past
    → EachIn (IsAbroad header outside h) events past → (r : ℕ) → is_open r (events ++ past) ≡ true
    → (backing_of header (region_of header r (events ++ past)).top (events ++ past)).backed ≡ false
made_bare header outside h [] past homes shut abroad r opened = absurd (let bad : false ≡ true = sym (shut r) ∙ opened in cc)
made_bare header outside h (event.RegionMade region object pages ∷ events) past homes shut abroad r opened =
    let before = events ++ past in
    let test : (r == region.0) ≡ true = both_left (r == region.0) (not (starts_copy before)) opened in
    let next : object.0 ≡ next_object header before = abroad.0.cause.1.1 in
    ap (λ b. (backing_of header (made b object.0 pages (region_of header r before)).top before).backed) test
    ∙ (homes_after header outside h events past abroad.1 homes).unmade object.0 (omega (arith, next))
made_bare header outside h (e ∷ events) past homes shut abroad r opened = absurd (let bad : false ≡ true = opened in cc)

-- behind events that are nothing to its host

module _ (header : Header) (outside : Outside) (h : ℕ) (k : Parts) (ids : Ids) (events past : List Event) (sound : Sound header past)
    (rests : Rests header h k ids past) (abroad : EachIn (IsAbroad header outside h) events past) where
  stay : SameForHost header h past (events ++ past)
  stay = stays header outside h events past sound (knows_of header h k ids past rests) abroad

  pub rests_abroad : (next : Ids) → IsCommon header next (events ++ past) → Rests header h k next (events ++ past)
  rests_abroad next common =
      rests_same header h k ids next past (events ++ past) rests stay.same common (calm_abroad header outside h events past rests.matches.core.calm abroad)
      (returns_abroad header outside h events past abroad)
      (apart_abroad header outside h events past abroad (apart_of header h k ids past rests))
      (λ r is. homes_stay r h events past is)
      (λ r. homes_abroad header outside h r events past abroad)
      (λ o is. objects_stay o h events past is)

  pub queue_abroad : HasQueue header h k past → HasQueue header h k (events ++ past)
  queue_abroad (inl empty) = inl empty
  queue_abroad (inr none) = inr (free ∙ none)
    where
      free : frames_free header h (events ++ past) ≡ frames_free header h past
      free = let held = stay.same.pages.held in let wired = stay.same.pages.wired in omega (arith, held, wired)

  pub prompt_abroad : PromptAt header h past → PromptAt header h (events ++ past)
  prompt_abroad prompt =
      let knows = knows_of header h k ids past rests in
      record {
        leads = leads_now header h past (events ++ past) sound knows stay.same prompt.leads;
        waits = vain_now header h past (events ++ past) sound knows stay.same prompt.waits;
        swept = swept_now header h past (events ++ past) sound knows stay.same rests.matches.settled.shut prompt.swept;
        thin = thin_now header h past (events ++ past) sound knows stay.same rests.matches.settled.shut
            (made_bare header outside h events past rests.matches.core.spaces.homes.1 rests.matches.settled.shut abroad) prompt.thin;
      }

suffice_next : (header : Header) (h : ℕ) (e : Event) (past : List Event) → is_home header h e past ≡ false → Suffice header h past → Suffice header h (e ∷ past)
suffice_next header h e past foreign suffices =
    let same = pages_abroad header h e past foreign in
    let held = same.held in
    let wired = same.wired in
    let used : frames_used header h past ≡ frames_used header h (e ∷ past) = omega (arith, held, wired) in
    subst (λ (z : ℕ). IfSome (slice_get (reverse header.frames.items) h) (λ frames. z ≤ frames)) used suffices

suffice_all : (header : Header) (outside : Outside) (h : ℕ) (events past : List Event) → EachIn (IsAbroad header outside h) events past → Suffice header h past
    → Suffice header h (events ++ past)
suffice_all header outside h [] past abroad suffices = suffices
suffice_all header outside h (e ∷ events) past abroad suffices =
    suffice_next header h e (events ++ past) abroad.0.foreign (suffice_all header outside h events past abroad.1 suffices)

pub frames_abroad : (header : Header) (outside : Outside) (h : ℕ) (events past : List Event) → EachIn (IsAbroad header outside h) events past
    → Suffice header h past → MomentsIn (Suffice header h) events past
frames_abroad header outside h [] past abroad suffices = tt
frames_abroad header outside h (e ∷ events) past abroad suffices =
    (suffice_all header outside h (e ∷ events) past abroad suffices, frames_abroad header outside h events past abroad.1 suffices)

-- what a kernel says is its host's

pub of_host : (header : Header) (outside : Outside) (doing : Command) (g : ℕ) (events past : List Event) → AllInTurn header outside doing events past
    → EachIn (IsMine header g) events past → EachIn (IsOfHost header outside g) events past
of_host header outside doing g [] past licensed mine = tt
of_host header outside doing g (e ∷ events) past licensed mine = (
  record { cause = (doing, cause_of header outside doing e (events ++ past) licensed.0.0); enters = mine.0.enters; own = mine.0.own },
  of_host header outside doing g events past licensed.1 mine.1,
)

-- regions stay on one host each, whoever adds events with their causes

pub sound_caused : (header : Header) (outside : Outside) (events past : List Event) → Sound header past
    → EachIn (λ e before. HasCause header outside e before × EntersNext e before) events past → Sound header (events ++ past)
sound_caused header outside [] past sound each = sound
sound_caused header outside (e ∷ events) past sound each =
    sound_next header outside e (events ++ past) (sound_caused header outside events past sound each.1) each.0.0 each.0.1

pub sound_more : (header : Header) (outside : Outside) (g : ℕ) (events past : List Event) → Sound header past → EachIn (IsOfHost header outside g) events past
    → Sound header (events ++ past)
sound_more header outside g [] past sound each = sound
sound_more header outside g (e ∷ events) past sound each =
    sound_next header outside e (events ++ past) (sound_more header outside g events past sound each.1) each.0.cause each.0.enters

-- what is nobody's is nothing to any host

pub no_home : (header : Header) (h : ℕ) (e : Event) (past : List Event) → IsNobodys e → is_home header h e past ≡ false
no_home header h (event.Line line) past nobodys = refl
no_home header h (event.Refused code) past nobodys = refl
no_home header h (event.Sent (Down host object control) m) past nobodys = refl
no_home header h (event.Sent (Up host object) m) past nobodys = absurd nobodys
no_home header h (event.Taken (Up host object) m) past nobodys = rw nobodys (and-false (host.0 == h))
no_home header h (event.Taken (Down host object control) m) past nobodys = absurd nobodys
no_home header h (event.DeviceFailed who way object page) past nobodys = refl
no_home header h (event.NoSlot object page) past nobodys = refl
no_home header h other past nobodys = absurd nobodys

nobody_shut : (e : Event) (past : List Event) → IsNobodys e → IsShut (e ∷ past)
nobody_shut (event.RegionMade region object pages) past nobodys = absurd nobodys
nobody_shut other past nobodys = λ region. refl

pub nobodys_shut : (events past : List Event) → EachOf IsNobodys events → IsShut past → IsShut (events ++ past)
nobodys_shut [] past nobodys shut = shut
nobodys_shut (e ∷ events) past nobodys shut = nobody_shut e (events ++ past) nobodys.0

pub nobodys_abroad : (header : Header) (outside : Outside) (doing : Command) (h : ℕ) (events past : List Event) → EachOf IsNobodys events
    → AllInTurn header outside doing events past → IsShut past → EachIn (IsAbroad header outside h) events past
nobodys_abroad header outside doing h [] past nobodys licensed shut = tt
nobodys_abroad header outside doing h (e ∷ events) past nobodys licensed shut =
    let closed = nobodys_shut events past nobodys.1 shut in (
      record {
        cause = (doing, cause_of header outside doing e (events ++ past) licensed.0.0);
        enters = λ region opened. absurd (let bad : true ≡ false = sym opened ∙ closed region in cc);
        foreign = no_home header h e (events ++ past) nobodys.0;
      },
      nobodys_abroad header outside doing h events past nobodys.1 licensed.1 shut,
    )
