-- A message of a pager is taken: what the kernel stands for behind it, where it changes nothing, and where the pager is ready now.
use Rattle.vm_state.proofs.KnownPages.{sizes_put}
use Rattle.vm_model.specs.Regions.{is_copy, newest_copy, object_pages as pages_made}
use Rattle.vm_state.proofs.CopyObjects.{copies_silent}
use Rattle.vm_kernel.proofs.Common.{Access, AllReferred, ArePlain, Backing, Bool, ChainTable, EndsNobody, Event, FailsNow, Fit, FrameTable, HasAsker}
use Rattle.vm_kernel.proofs.Common.{HasControls, HasFrames, HasKinds, HasLaundry, HasOrder, HasPages, HasRegions, HasTasks, HasUse, HasWaiters, Header}
use Rattle.vm_kernel.proofs.Common.{HostParts, Ids, IsAnswered, IsOfKind, IsPagerTold, IsReferred, IsSettled, KnowsHomes, List, Local, Mapped, Message, None}
use Rattle.vm_kernel.proofs.Common.{ObjectId, ObjectRow, ObjectTable, On, Option, PageNo, PageRow, Parts, PutsObject, Readies, Reason, Region, ResidentTable}
use Rattle.vm_kernel.proofs.Common.{Rests, SameObjects, Some, Waiting, Want, Woken, Works, ap, backing_of, entries_of, eqb_tells, false, frames_held}
use Rattle.vm_kernel.proofs.Common.{frames_wired, holds, home_of, host_id, host_of, if◌then◌else◌, in_use, inl, inr, is_control, is_on, is_ready, is_some}
use Rattle.vm_kernel.proofs.Common.{is_woken, last_control, last_in, live_control, live_in, local, marks_of, named, next_object, next_page, next_region}
use Rattle.vm_kernel.proofs.Common.{object_at, object_home, one_case, page_key, place_of, ready_in, refl, region_of, returns_out, reverse, row_at, slice_get}
use Rattle.vm_kernel.proofs.Common.{some_is, subst, sym, true, waiting, ℕ, ◌&&◌, ◌+◌, ◌-◌, ◌<◌, ◌==◌, ◌^◌, ◌∙◌, ◌∷◌, ◌≡◌, ◌≤◌, ◌⊎◌}
use Rattle.vm_model.specs.declared.message.Message.TheVariants as message
use Rattle.vm_objects.specs.declared.row.PagerState.TheVariants as state
use Rattle.vm_supply.specs.declared.woken.Woken.TheVariants as woken
use Rattle.vm_waits.specs.declared.waiting.On.TheVariants as on
use Rattle.vm_kernel.proofs.controls.AnswerEffects.{IsNothing, hears, lives, same_effect}
use Rattle.vm_kernel.proofs.memory.PagesShown.{pages_marked}
use Rattle.vm_kernel.proofs.abroad.OwnHost.{own_host}
use Rattle.vm_parts.specs.Fits.{object_pages, pages_of_row}
use Rattle.vm_model.specs.Waiting.{copy_target}
use Rattle.vm_state.proofs.Changing.{regions_controlled}
use Rattle.vm_state.proofs.Referred.{referred_controlled}
use Rattle.vm_kernel.proofs.space.StillThin.{references_put, thin_objects}
use Rattle.vm_merge.specs.Merges.{IsThin}
use Rattle.vm_kernel.proofs.controls.LockReplied.{replied_behind, replied_none}
use Rattle.vm_kernel.specs.Matches.{Copied, IsCalm, IsReplied, WorksBut, object_facts}
use Rattle.vm_kernel.proofs.memory.CopiesKept.{copied_put}
use Rattle.vm_legal.specs.Pushes.{is_pushed}
use Rattle.vm_kernel.proofs.controls.FlagsKept.{flags_put}
use Rattle.vm_legal.specs.Cached.{is_cached}
use Rattle.vm_state.specs.Pagers.{cached_in, is_ready_state}
use Rattle.vm_state.specs.Stands.{HasFlags, KnowsFiles, KnowsPages}
use Rattle.vm_legal.specs.Licences.{lock_taken}
use Rattle.vm_state.proofs.Waiting.{IsAwaitedBy, away_awaited}
use Rattle.vm_state.specs.Waiters.{is_awaited}
use Rattle.vm_model.specs.declared.event.Event.TheVariants as event
use Rattle.vm_state.proofs.Declared.{kinds_put}
use Rattle.vm_state.proofs.Files.{files_put}
use Rattle.vm_state.specs.Places.{known_local}
use Rattle.vm_legal.specs.Living.{tasks as made_tasks}
use Rattle.vm_state.proofs.Filling.{KeepsAway, used_away, used_told}
use Rattle.vm_state.specs.References.{MayLock, is_live_in, is_temporary_in}
use Rattle.vm_state.specs.Passed.{IsUnmet, StaysAway, Unmet}
use Rattle.vm_base.specs.declared.ids.PageKey.{PageKey}
use Rattle.vm_kernel.proofs.memory.PlacesPassed.{waits_retold}
use Rattle.vm_state.proofs.Bypassing.{waits_taken}
use Rattle.vm_legal.specs.Destroyed.{destroy_taken, is_destroyed}
use Rattle.vm_copies.specs.Copies.{CopyTable}
use Rattle.vm_state.proofs.Pushing.{push_stays}
use Rattle.vm_state.specs.Waiters.{IsAsked}

-- who waits, where rows of pages and objects are others

pub waits_heard : {copies : CopyTable} {stays : PageKey → Type 0} {unmet : PageKey → Unmet} (maps : Mapped) (cs : ChainTable) (rs rs2 : ResidentTable)
    (os os2 : ObjectTable)
    (rows : List Waiting)
    (who : Woken) (waiting_at : ℕ → Option Access)
    → HasWaiters maps cs copies rs os rows (is_woken woken.Nobody) waiting_at stays unmet
    → ((what : Want) (o p : ℕ) → is_woken who (on.Page (page_key o p)) ≡ false → IsAwaitedBy rs what o p → IsAwaitedBy rs2 what o p)
    → ((o p : ℕ) → is_woken who (on.Push (page_key o p)) ≡ false → IsAsked rs o p → IsAsked rs2 o p)
    → ((object : ObjectId) → is_woken who (on.Ready object) ≡ false → IsPagerTold os object.0 → IsPagerTold os2 object.0)
    → ((o p : ℕ) (row : PageRow) → row_at rs2 o p ≡ Some row → is_awaited row ≡ true → row_at rs o p ≡ Some row)
    → ((o : ℕ) → ready_in (object_at os o) ≡ true → ready_in (object_at os2 o) ≡ true)
    → HasWaiters maps cs copies rs2 os2 rows (is_woken who) waiting_at stays unmet
waits_heard {copies = copies} maps cs rs rs2 os os2 rows who waiting_at has asked pushed told were ready =
    record {
      is = has.is;
      allowed = has.allowed;
      sized = has.sized;
      reasons = λ t w is still. by_reason t w.want w.on still (has.reasons t w is refl);
      passed = λ t w is still. has.passed t w is refl;
      aims = has.aims;
      askers = λ o p row found awaits. has.askers o p row (were o p row found awaits) awaits;
      ready = λ o p row found away_now. ready o (has.ready o p row (were o p row found (away_awaited row away_now)) away_now);
    }
  where
    by_reason : (t : ℕ) (what : Want) (reason : On) → is_woken who reason ≡ false → Reason maps cs copies rs os t what reason
        → Reason maps cs copies rs2 os2 t what reason
    by_reason t what on.Again still why = tt
    by_reason t what (on.Ready object) still why = (why.0, why.1, why.2, told object still why.3)
    by_reason t what (on.Page key) still why = (why.0, asked what key.object.0 key.page.0 still why.1)
    by_reason t what (on.Push key) still why = push_stays why why.at why.owed (pushed key.object.0 key.page.0 still why.asked)
    by_reason t what on.Frame still why = tt

-- a pager that is ready was told before
pub told_unready : (os : ObjectTable) (o : ℕ) → IsPagerTold os o → ready_in (object_at os o) ≡ true → ⊥
told_unready os o told ready = let bad : false ≡ true = sym (ap ready_in told.found ∙ ap is_ready_state told.sent) ∙ ready in cc

-- the kernel behind the message
abbrev pub heard : Parts → HostParts → Parts
heard k new = record k { memory = new }

-- what holds of the parts that may have changed, behind the message and what it brought
pub record Changed (header : Header) (h : ℕ) (k : Parts) (ids : Ids) (who : Woken) (new : HostParts) (past now : List Event) : Type 0 where
  pub plain : ArePlain new.resident
  pub away : KeepsAway k.memory.resident new.resident
  pub regions : HasRegions k.chains new.objects ids (λ r. region_of header r past) (λ o. backing_of header o past) (next_region header past)
      (next_object header past) (marks_of header past)
  pub kinds : HasKinds header new.objects k.chains
  pub files : KnowsFiles header h new.objects (λ o. home_of o past)
  pub sizes : KnowsPages (named header) new.objects (λ o. pages_made header o past)
  pub copied : Copied k.copies new k.chains (object_facts header past) (λ c p. is_pushed h c p past)
  pub pages : HasPages new.frames new.resident new.objects (λ o p. known_local header o p (local header h (place_of o p) now))
  pub controls : HasControls (named header) h new.objects (λ o. last_control h o past) (λ o. live_control h o past) (λ o. is_ready h o now)
      (λ o. object_home o past)
  pub flags : HasFlags (named header) new.objects (λ o. is_cached h o past)
  pub laundry : HasLaundry new.frames new.resident k.laundry (returns_out h past)
  pub frames : HasFrames (slice_get (reverse header.frames.items) h) new.frames (frames_held header h now) (frames_wired h past)
  pub referred : AllReferred k.chains new.objects new.resident
  pub thin : IsThin k.copies k.chains new.objects
  pub waits : HasWaiters k.maps k.chains k.copies new.resident new.objects k.waits.rows (is_woken who) (λ t. waiting t past) (StaysAway header h now)
      (IsUnmet header h now)
  pub fails : FailsNow header h who now
  pub fresh : EndsNobody who now
  pub asker : HasAsker who k.waits.rows
  pub answered : IsAnswered who new.resident

-- a page of zeros comes
abbrev pub zeros : ℕ → ObjectId → PageNo → Event
zeros h object page = event.Zeroed (host_id h) object page

-- what stays, of the parts that no message changes
pub record Stays (header : Header) (h : ℕ) (k : Parts) (past now : List Event) : Type 0 where
  pub home : (r : ℕ) → home_of r now ≡ home_of r past
  pub sizes : (o : ℕ) → pages_made header o now ≡ pages_made header o past
  pub copy : (o : ℕ) → is_copy o now ≡ is_copy o past
  pub newest : (file : ℕ) → newest_copy file now ≡ newest_copy file past
  pub pushed : (c p : ℕ) → is_pushed h c p now ≡ is_pushed h c p past
  pub target : (task : ℕ) → copy_target task now ≡ copy_target task past
  pub next : (task : ℕ) → next_page task now ≡ next_page task past
  pub tasks : HasTasks h header.size k.maps (λ task. host_of task now) (λ task. entries_of header.size task now)
  pub uses : HasUse header k.maps k.waits.rows (λ r. in_use header h r now) (made_tasks now) (λ task r. holds header.size task r now) (next_region header now)
  pub waits : (t : ℕ) → waiting t now ≡ waiting t past
  pub regions : {cs : ChainTable} {os : ObjectTable} {ids : Ids} → HasRegions cs os ids (λ r. region_of header r past) (λ o. backing_of header o past)
      (next_region header past) (next_object header past) (marks_of header past)
      → HasRegions cs os ids (λ r. region_of header r now) (λ o. backing_of header o now) (next_region header now) (next_object header now)
      (marks_of header now)
  pub controls : {os : ObjectTable} → HasControls (named header) h os (λ o. last_control h o past) (λ o. live_control h o past) (λ o. is_ready h o now)
      (λ o. object_home o past)
      → HasControls (named header) h os (λ o. last_control h o now) (λ o. live_control h o now) (λ o. is_ready h o now) (λ o. object_home o now)
  pub homes : KnowsHomes header h k.chains now
  pub order : HasOrder k now
  pub calm : IsCalm (named header) (λ o. live_control h o now) (λ o. is_destroyed h o (destroy_taken now))
  pub settled : IsSettled now
  pub replied : IsReplied header now
  pub returned : returns_out h now ≡ returns_out h past
  pub wired : frames_wired h now ≡ frames_wired h past

-- the step took no lock request, and no end of an object
abbrev pub TakesNoOrder : List Event → Type 0
TakesNoOrder past = (lock_taken past ≡ None) × (destroy_taken past ≡ None)

-- a step that ends no object
pub calm_none : (h count : ℕ) (live : ℕ → Option ℕ) (past : List Event) → destroy_taken past ≡ None
    → IsCalm count live (λ o. is_destroyed h o (destroy_taken past))
calm_none h count live past kept = λ o is. absurd (let bad : false ≡ true = sym (ap (is_destroyed h o) kept) ∙ is in cc)

pub stays_heard : (header : Header) (h : ℕ) (k : Parts) (ids : Ids) (past : List Event) (object : ObjectId) (control : ℕ) (m : Message)
    → Rests header h k ids past → TakesNoOrder (hears h object control m ∷ past) → Stays header h k past (hears h object control m ∷ past)
stays_heard header h k ids past object control m rests none =
    let was = rests.matches in
    record {
      home = λ r. refl;
      sizes = λ o. refl;
      copy = λ o. refl;
      newest = λ file. refl;
      pushed = λ c p. refl;
      target = λ task. refl;
      next = λ task. refl;
      tasks = was.core.spaces.tasks;
      uses = was.core.spaces.uses;
      waits = λ t. refl;
      regions = λ has. has;
      controls = λ has. has;
      homes = was.core.spaces.homes;
      order = rests.order;
      calm = calm_none h (named header) (λ o. live_control h o (hears h object control m ∷ past)) (hears h object control m ∷ past) none.1;
      settled = record { none_owed = refl; shut = λ region. refl };
      replied = replied_none none.0 none.1;
      returned = refl;
      wired = refl;
    }

-- and behind zeros
pub stays_zeroed : (header : Header) (h : ℕ) (k : Parts) (past now : List Event) (object : ObjectId) (page : PageNo) → Stays header h k past now
    → Stays header h k past (zeros h object page ∷ now)
stays_zeroed header h k past now object page stays =
    record {
      home = stays.home;
      sizes = stays.sizes;
      copy = stays.copy;
      newest = stays.newest;
      pushed = stays.pushed;
      target = stays.target;
      next = stays.next;
      tasks = stays.tasks;
      uses = stays.uses;
      waits = stays.waits;
      regions = stays.regions;
      controls = stays.controls;
      homes = stays.homes;
      order = stays.order;
      calm = stays.calm;
      settled = record { none_owed = refl; shut = λ region. refl };
      replied = replied_behind tt stays.replied;
      returned = stays.returned;
      wired = stays.wired;
    }

pub works_of : (header : Header) (h : ℕ) (k : Parts) (ids : Ids) (who : Woken) (new : HostParts) (past now : List Event) → Rests header h k ids past
    → Stays header h k past now → Fit new → new.buffers ≡ k.memory.buffers → Changed header h k ids who new past now
    → WorksBut header h (heard k new) ids who (λ o. is_cached h o past) now
works_of header h k ids who new past now rests stays fit same c =
    let was = rests.matches in
    record {
      core = record {
        setting = was.core.setting;
        calm = stays.calm;
        fits = record { parts = fit; plain = c.plain; buffers = ap (λ z. z.size) same ∙ was.core.fits.buffers };
        spaces = record {
          tasks = stays.tasks;
          entries = was.core.spaces.entries;
          shared = was.core.spaces.shared;
          uses = stays.uses;
          homes = stays.homes;
        };
        objects = record {
          regions = stays.regions c.regions;
          kinds = c.kinds;
          files = λ o file. ap (is_on h) (stays.home o) ∙ c.files o file;
          sizes = record { at = λ o known least is. c.sizes.at o known least is ∙ sym (stays.sizes o); few = c.sizes.few };
          undelayed = λ o less.
              let before = was.core.objects.undelayed o less in
              record { copy = stays.copy o ∙ before.copy; pages = stays.sizes o ∙ before.pages };
        };
        copied = record {
          known = copies_silent c.copied.known stays.copy stays.newest stays.pushed;
          fits = c.copied.fits;
        };
        controls = stays.controls c.controls;
        flags = c.flags;
        pages = record {
          shown = c.pages;
          washed = subst (λ (z : ℕ). HasLaundry new.frames new.resident k.laundry z) (sym stays.returned) c.laundry;
          counted = subst (λ (z : ℕ). HasFrames (slice_get (reverse header.frames.items) h) new.frames (frames_held header h now) z) (sym stays.wired)
              c.frames;
        };
      };
      settled = stays.settled;
      replied = stays.replied;
      used = used_away k.memory.resident new.resident (used_told rests.used (λ t w found. (stays.next t, stays.target t))) c.away;
      referred = c.referred;
      thin = c.thin;
      order = stays.order;
      waits = waits_retold stays.waits c.waits;
    }

-- where the flags are those of the history nothing is left to do
pub works_flagged : {header : Header} {h : ℕ} {k : Parts} {ids : Ids} {who : Woken} {flags : ℕ → Bool} {past : List Event}
    → WorksBut header h k ids who flags past → ((o : ℕ) → o < named header → is_cached h o past ≡ flags o) → Works header h k ids who past
works_flagged but same = record {
  matches = record {
    core = record {
      setting = but.core.setting;
      calm = but.core.calm;
      fits = but.core.fits;
      spaces = but.core.spaces;
      objects = but.core.objects;
      copied = but.core.copied;
      controls = but.core.controls;
      flags = λ o less. same o less ∙ but.core.flags o less;
      pages = but.core.pages;
    };
    settled = but.settled;
    replied = but.replied;
  };
  used = but.used;
  referred = but.referred;
  thin = but.thin;
  waits = but.waits;
  order = but.order;
}

-- the message changes nothing

same_referred : (os os2 : ObjectTable) → SameObjects os os2 → (o : ℕ) → IsReferred os2 o → IsReferred os o
same_referred os os2 same o is = record { row = is.row; known = sym (same.at o) ∙ is.known; some = is.some }

pub regions_of : (cs : ChainTable) (os os2 : ObjectTable) (ids : Ids) (region_from : ℕ → Region) (backing_from : ℕ → Backing)
    (regions_made objects_made marked : ℕ)
    → HasRegions cs os ids region_from backing_from regions_made objects_made marked → SameObjects os os2
    → HasRegions cs os2 ids region_from backing_from regions_made objects_made marked
regions_of cs os os2 ids region_from backing_from regions_made objects_made marked has same =
    record {
      region = has.region;
      object = has.object;
      marks = has.marks;
      few = has.few;
      rows = has.rows;
      shadows = has.shadows;
      bottoms = λ o referred none. has.bottoms o (same_referred os os2 same o referred) none;
      unmade = has.unmade;
      unknown = λ o above. same.at o ∙ has.unknown o above;
      tops = λ r row found. ap is_some (same.at row.top.0) ∙ has.tops r row found;
      unders = λ o row found. let under = has.unders o row found in (ap is_some (same.at o) ∙ under.0, ap is_some (same.at row.under.0) ∙ under.1);
      ranked = has.ranked;
      fits = record {
        tops = λ r row found. subst (λ (z : ℕ). row.shift + row.pages ≤ z) (sym (pages_are row.top.0)) (has.fits.tops r row found);
        unders =
            λ o row found. subst (λ (z : ℕ). row.shift + z ≤ object_pages os2 row.under.0) (sym (pages_are o))
            (subst (λ (z : ℕ). row.shift + object_pages os o ≤ z) (sym (pages_are row.under.0)) (has.fits.unders o row found));
      };
      counts = λ o known found. has.counts o known (sym (same.at o) ∙ found);
    }
  where
    pages_are : (o : ℕ) → object_pages os2 o ≡ object_pages os o
    pages_are o = ap pages_of_row (same.at o)

pub controls_of : {d h : ℕ} {home_at : ℕ → Option ℕ} (os os2 : ObjectTable) (last_at : ℕ → ℕ) (live_at : ℕ → Option ℕ) (ready_at ready_at2 : ℕ → Bool)
    → HasControls d h os last_at live_at ready_at home_at → SameObjects os os2
    → ((o live : ℕ) → live_at o ≡ Some live → ready_at2 o ≡ ready_at o) → HasControls d h os2 last_at live_at ready_at2 home_at
controls_of os os2 last_at live_at ready_at ready_at2 has same ready =
    record {
      last = λ o. has.last o ∙ ap last_in (sym (same.at o));
      live = λ o. has.live o ∙ ap live_in (sym (same.at o));
      ready = λ o control is. ready o control is ∙ (has.ready o control is ∙ ap ready_in (sym (same.at o)));
      all_live = record { at = λ o row found told. has.all_live.at o row (sym (same.at o) ∙ found) told };
      numbers = record { at = λ o row found. has.numbers.at o row (sym (same.at o) ∙ found) };
      ended = λ o row found live. has.ended o row (sym (same.at o) ∙ found) live;
      home = λ o row least found. has.home o row least (sym (same.at o) ∙ found);
    }

pub may_lock : (os os2 : ObjectTable) (o : ℕ) (row : PageRow) → SameObjects os os2 → MayLock os o row → MayLock os2 o row
may_lock os os2 o row same may = elim may [
  | inl free ↦ inl (free.0, ap is_temporary_in (same.at o) ∙ free.1)
  | inr lives ↦ inr (ap is_live_in (same.at o) ∙ lives)
]

-- the control that is named lives
pub live_is : (control : ℕ) (known : Option ObjectRow) → is_control control (live_in known) ≡ true → is_live_in known ≡ true
live_is control None is = absurd (let bad : false ≡ true = is in cc)
live_is control (Some row) is = by row.live is
  where
    by : (b : Bool) → is_control control (if b then Some row.control else None) ≡ true → b ≡ true
    by true is = refl
    by false is = absurd (let bad : false ≡ true = is in cc)

pub referred_of : (cs : ChainTable) (os os2 : ObjectTable) (rs : ResidentTable) → AllReferred cs os rs → SameObjects os os2 → AllReferred cs os2 rs
referred_of cs os os2 rs referred same =
    record {
      live = λ o row found live. referred.live o row (sym (same.at o) ∙ found) live;
      pages = λ o p row found. still o (referred.pages o p row found);
      locks = λ o p row found. may_lock os os2 o row same (referred.locks o p row found);
      shadows = λ o row found. still o (referred.shadows o row found);
    }
  where
    still : (o : ℕ) → IsReferred os o → IsReferred os2 o
    still o is = record { row = is.row; known = same.at o ∙ is.known; some = is.some }

pub told_of : (os os2 : ObjectTable) (o : ℕ) → SameObjects os os2 → IsPagerTold os o → IsPagerTold os2 o
told_of os os2 o same told = record { row = told.row; found = same.at o ∙ told.found; sent = told.sent }

itself : (os : ObjectTable) → SameObjects os os
itself os = record { at = λ o. refl }

pub pages_eq : (fs : FrameTable) (rs : ResidentTable) (os : ObjectTable) (local_at local_at2 : ℕ → ℕ → Local) → HasPages fs rs os local_at
    → ((o p : ℕ) → local_at2 o p ≡ local_at o p) → HasPages fs rs os local_at2
pages_eq fs rs os local_at local_at2 has same = record { shown = λ o p. same o p ∙ has.shown o p }

pub changed_none : (header : Header) (h : ℕ) (k : Parts) (ids : Ids) (past : List Event) (object : ObjectId) (control : ℕ) (m : Message)
    → Rests header h k ids past → IsNothing header h object control m past
    → Changed header h k ids woken.Nobody k.memory past (hears h object control m ∷ past)
changed_none header h k ids past object control m rests nothing =
    let was = rests.matches in
    record {
      plain = was.core.fits.plain;
      away = λ o p none. none;
      regions = was.core.objects.regions;
      kinds = was.core.objects.kinds;
      files = was.core.objects.files;
      sizes = was.core.objects.sizes;
      copied = was.core.copied;
      pages =
          pages_eq k.memory.frames k.memory.resident k.memory.objects (λ o p. known_local header o p (local header h (place_of o p) past))
          (λ o p. known_local header o p (local header h (place_of o p) (hears h object control m ∷ past)))
          was.core.pages.shown (λ o p. ap (known_local header o p) (nothing.pages o p));
      controls =
          controls_of k.memory.objects k.memory.objects (λ o. last_control h o past) (λ o. live_control h o past) (λ o. is_ready h o past)
          (λ o. is_ready h o (hears h object control m ∷ past)) was.core.controls (itself k.memory.objects) nothing.ready;
      flags = was.core.flags;
      laundry = was.core.pages.washed;
      frames =
          subst (λ (z : ℕ). HasFrames (slice_get (reverse header.frames.items) h) k.memory.frames z (frames_wired h past)) (sym nothing.held)
          was.core.pages.counted;
      referred = rests.referred;
      thin = rests.thin;
      waits = waits_taken header h (host_id h) object control m past rests.waits;
      fails = nothing.error;
      fresh = tt;
      asker = tt;
      answered = record { at = λ o p row found away_now. refl };
    }

-- the pager is ready now

kind_ready : (header : Header) (o : ℕ) (known : ObjectRow) → IsOfKind header o known → known.live ≡ true
    → IsOfKind header o (record known { state = state.Ready })
kind_ready header o known was live =
    record {
      lives = live;
      temporary =
          λ least. let its = was.temporary least in record {
            kind = its.kind;
            uncached = its.uncached;
            number = λ some. its.number some
                ∙ ap (λ b. if b then 1 else 0) (sym was.lives ∙ live);
          };
      declared = λ less. let its = was.declared less in record { kind = its.kind; pages = its.pages; told = λ tame some. live; number = its.number };
    }

controls_ready : {d h : ℕ} {home_at : ℕ → Option ℕ} (os os2 : ObjectTable) (last_at : ℕ → ℕ) (live_at : ℕ → Option ℕ) (ready_at : ℕ → Bool) (o control : ℕ)
    (known : ObjectRow) → HasControls d h os last_at live_at ready_at home_at
    → object_at os o ≡ Some known → known.live ≡ true → is_control control (live_at o) ≡ true
    → PutsObject o (Some (record known { state = state.Ready })) os os2
    → HasControls d h os2 last_at live_at (λ o2. if o == o2 && is_control control (live_at o2) then true else ready_at o2) home_at
controls_ready {d = d} {h = h} {home_at = home_at} os os2 last_at live_at ready_at o control known has found live lives put =
    record {
      last = λ o2. elim (cases o2) [
        | inl same ↦ has.last o2 ∙ (ap last_in (sym (ap (object_at os) same.0) ∙ found) ∙ sym (ap last_in same.1))
        | inr other ↦ has.last o2 ∙ sym (ap last_in other.1)
      ];
      live = λ o2. elim (cases o2) [
        | inl same ↦ has.live o2 ∙ (ap live_in (sym (ap (object_at os) same.0) ∙ found) ∙ sym (ap live_in same.1))
        | inr other ↦ has.live o2 ∙ sym (ap live_in other.1)
      ];
      ready = λ o2 number is. elim (eqb_tells o o2) [
        | inl same ↦ elim (cases o2) [
          | inl now ↦ rw (same.0, subst (λ (z : ℕ). is_control control (live_at z) ≡ true) same.1 lives) (sym (ap ready_in now.1))
          | inr other ↦ absurd (other.0 same.1)
        ]
        | inr apart ↦ elim (cases o2) [
          | inl now ↦ absurd (apart.1 now.0)
          | inr other ↦ rw apart.0 (has.ready o2 number is ∙ sym (ap ready_in other.1))
        ]
      ];
      all_live = record {
        at = λ o2 row is told. elim (cases o2) [
          | inl now ↦ ap (λ z. z.live) (sym (some_is ready row (sym now.1 ∙ is))) ∙ live
          | inr other ↦ has.all_live.at o2 row (sym other.1 ∙ is) told
        ];
      };
      numbers = record {
        at = λ o2 row is. elim (cases o2) [
          | inl now ↦ subst (λ (z : ObjectRow). z.control < 2 ^ 32 - 1) (some_is ready row (sym now.1 ∙ is)) (has.numbers.at o known found)
          | inr other ↦ has.numbers.at o2 row (sym other.1 ∙ is)
        ];
      };
      ended = λ o2 row is lives_on. elim (cases o2) [
        | inl now ↦ λ none. absurd (let bad : state.Ready ≡ state.Without = ap (λ z. z.state) (some_is ready row (sym now.1 ∙ is)) ∙ none in cc)
        | inr other ↦ has.ended o2 row (sym other.1 ∙ is) lives_on
      ];
      home = λ o2 row least is. elim (cases o2) [
        | inl now ↦ subst (λ (z : ℕ). home_at z ≡ Some h) now.0 (has.home o known (subst (λ (z : ℕ). d ≤ z) (sym now.0) least) found)
        | inr other ↦ has.home o2 row least (sym other.1 ∙ is)
      ];
    }
  where
    ready : ObjectRow
    ready = record known { state = state.Ready }

    cases : (o2 : ℕ) → ((o ≡ o2) × (object_at os2 o2 ≡ Some ready)) ⊎ ((o ≡ o2 → ⊥) × (object_at os2 o2 ≡ object_at os o2))
    cases o2 = one_case o o2 (Some ready) (object_at os o2) (object_at os2 o2) (put.at o2)

told_ready : (os os2 : ObjectTable) (o : ℕ) (known : ObjectRow) (object : ObjectId) → PutsObject o (Some (record known { state = state.Ready })) os os2
    → (object.0 == o) ≡ false → IsPagerTold os object.0 → IsPagerTold os2 object.0
told_ready os os2 o known object put apart told =
    record {
      row = told.row;
      found = elim (one_case o object.0 (Some (record known { state = state.Ready })) (object_at os object.0) (object_at os2 object.0) (put.at object.0)) [
        | inl now ↦ absurd (elim (eqb_tells object.0 o) [ inl same ↦ let bad : true ≡ false = sym same.0 ∙ apart in cc | inr other ↦ other.1 (sym now.0) ])
        | inr other ↦ other.1 ∙ told.found
      ];
      sent = told.sent;
    }

ready_ready : (os os2 : ObjectTable) (o : ℕ) (known : ObjectRow) (o2 : ℕ) → PutsObject o (Some (record known { state = state.Ready })) os os2
    → ready_in (object_at os o2) ≡ true → ready_in (object_at os2 o2) ≡ true
ready_ready os os2 o known o2 put is =
    elim (one_case o o2 (Some (record known { state = state.Ready })) (object_at os o2) (object_at os2 o2) (put.at o2))
    [ inl now ↦ ap ready_in now.1 | inr other ↦ ap ready_in other.1 ∙ is ]

pub changed_ready : (header : Header) (h : ℕ) (k : Parts) (ids : Ids) (events after past : List Event) (object : ObjectId) (control : ℕ) (cache : Bool)
    (strategy : ℕ) (who : Woken) (new : HostParts)
    → Rests header h k ids past → (readies : Readies object who k.memory new events after) → readies.known.live ≡ true → lives h object control past ≡ true
    → Changed header h k ids who new past (hears h object control (message.Ready cache strategy) ∷ past)
changed_ready header h k ids events after past object control cache strategy who new rests readies live lives_now =
    let was = rests.matches in
    let known = readies.known in
    subst (λ (z : Woken). Changed header h k ids z new past (hears h object control (message.Ready cache strategy) ∷ past)) (sym readies.woken)
    (subst (λ (z : HostParts). Changed header h k ids (woken.ReadyOf object) z past (hears h object control (message.Ready cache strategy) ∷ past))
    (sym readies.rest)
    (record {
      plain = was.core.fits.plain;
      away = λ o p none. none;
      regions =
          regions_controlled object.0 known (record known { state = state.Ready }) k.chains k.memory.objects new.objects ids (λ r. region_of header r past)
          (λ o. backing_of header o past) (next_region header past) (next_object header past) (marks_of header past)
          readies.found readies.ready refl refl refl was.core.objects.regions;
      kinds =
          kinds_put header object.0 (record known { state = state.Ready }) k.memory.objects new.objects k.chains readies.ready readies.marks
          (kind_ready header object.0 known (was.core.objects.kinds.kinds object.0 known readies.found) live) was.core.objects.kinds;
      files =
          files_put header h object.0 known (record known { state = state.Ready }) k.memory.objects new.objects (λ o. home_of o past) readies.found
          readies.ready was.core.objects.files;
      sizes =
          sizes_put (named header) object.0 known (record known { state = state.Ready }) k.memory.objects new.objects (λ o. pages_made header o past)
          readies.found refl readies.ready was.core.objects.sizes;
      copied =
          copied_put object.0 known (record known { state = state.Ready }) new.objects readies.found readies.ready refl
          (λ some. record { row = known; known = readies.found; some = some }) was.core.copied;
      pages =
          pages_marked k.memory.frames k.memory.resident k.memory.objects new.objects
          (λ o p. known_local header o p (local header h (place_of o p) (hears h object control (message.Ready cache strategy) ∷ past)))
          (pages_eq k.memory.frames k.memory.resident k.memory.objects (λ o p. known_local header o p (local header h (place_of o p) past))
          (λ o p. known_local header o p (local header h (place_of o p) (hears h object control (message.Ready cache strategy) ∷ past))) was.core.pages.shown
          (λ o p. ap (known_local header o p) (rw (own_host h) (same_effect header.size (object.0 == o && is_control control (live_control h o past))
          (local header h (place_of o p) past)))))
          readies.marks;
      controls =
          rw (own_host h) (controls_ready k.memory.objects new.objects (λ o. last_control h o past) (λ o. live_control h o past) (λ o. is_ready h o past)
          object.0 control known was.core.controls readies.found live lives_now readies.ready);
      flags = flags_put object.0 (record known { state = state.Ready }) readies.ready (ap cached_in readies.found) was.core.flags;
      laundry = was.core.pages.washed;
      frames = was.core.pages.counted;
      referred =
          referred_controlled object.0 known (record known { state = state.Ready }) k.chains k.memory.objects new.objects k.memory.resident readies.found
          readies.ready refl (λ lives. rests.referred.live object.0 known readies.found live) (λ is. is) refl rests.referred;
      thin =
          thin_objects k.chains k.memory.objects new.objects
          (references_put object.0 known (record known { state = state.Ready }) k.memory.objects new.objects readies.found refl (λ none. none) readies.ready)
          rests.thin;
      waits = waits_taken header h (host_id h) object control (message.Ready cache strategy) past
          (waits_heard k.maps k.chains k.memory.resident k.memory.resident k.memory.objects new.objects k.waits.rows (woken.ReadyOf object)
          (λ t. waiting t past) rests.waits
          (λ what o p still awaits. awaits)
          (λ o p still asked. asked)
          (λ other still told. told_ready k.memory.objects new.objects object.0 known other readies.ready still told)
          (λ o p row found away_now. found)
          (λ o is. ready_ready k.memory.objects new.objects object.0 known o readies.ready is));
      fails = refl;
      fresh = tt;
      asker = tt;
      answered = record { at = λ o p row found away_now. refl };
    }))
