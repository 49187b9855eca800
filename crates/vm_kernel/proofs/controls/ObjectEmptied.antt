-- The end of an object by its pager, as a whole: its pages, what is asked of it, and its control.
use Rattle.vm_kernel.proofs.Common.{AllReferred, BeganInOrder, Bool, ChainTable, Command, Elsewhere, EndsOnly, Event, FrameNo, HasWaits, Header, HostId}
use Rattle.vm_kernel.proofs.Common.{HostParts, Ids, IfSome, LegalEvents, List, None, ObjectId, ObjectRow, ObjectTable, Option, Outside, PageRow, Parts, Plays}
use Rattle.vm_kernel.proofs.Common.{PutsObject, Rests, SameMarks, Some, Up, UsesAll, WaitTable, Waiting, [], absent_at, ap, arith, begun_at, false, frame_count}
use Rattle.vm_kernel.proofs.Common.{host_id, if◌then◌else◌, inl, is_control, is_some, length, live_control, live_in, local_of_row, not, object_at, page_on}
use Rattle.vm_kernel.proofs.Common.{paging, refl, row_at, some_is, subst, sym, true, ℕ, ◌&&◌, ◌*◌, ◌++◌, ◌+◌, ◌-◌, ◌<◌, ◌==◌, ◌∙◌, ◌∷◌, ◌≡◌, ◌≤◌}
use Rattle.vm_base.specs.Listing.{Listed}
use Rattle.vm_copies.specs.Copies.{CopyTable}
use Rattle.vm_kernel.proofs.abroad.OwnHost.{named_host, own_host}
use Rattle.vm_kernel.proofs.controls.FlagSet.{marks_both, puts_both}
use Rattle.vm_kernel.proofs.controls.ObjectDestroyed.{IsCleared, IsLetGo, core_gone, ending_follows, gone_row, referred_gone, thin_gone}
use Rattle.vm_kernel.proofs.controls.PagesCancelled.{AreCancelled, pages_cancel, referred_less}
use Rattle.vm_kernel.proofs.controls.PagesDropped.{AreDropped, alive_facts, destroys, emptying_taken, here_shown, pages_drop}
use Rattle.vm_kernel.proofs.controls.WaitersWoken.{IsEmptied, fills_emptied, order_emptied, used_emptied, waits_emptied}
use Rattle.vm_kernel.proofs.lists.CountedTwice.{lengths_same}
use Rattle.vm_kernel.proofs.lists.ListsAsTold.{plays_told, same_paging}
use Rattle.vm_kernel.proofs.memory.CoreChanges.{spaces_refilled}
use Rattle.vm_kernel.proofs.space.ObjectEnds.{put_same, quiet_row}
use Rattle.vm_kernel.proofs.space.ObjectsEnd.{Led, led_both, of_state, only_one}
use Rattle.vm_kernel.proofs.space.RegionEnds.{if_some}
use Rattle.vm_kernel.proofs.steps.EventsGrow.{goes_one}
use Rattle.vm_kernel.specs.Destroying.{HasEmptied, MayDestroy, TakesDestroy, WakesOn}
use Rattle.vm_kernel.specs.Matches.{Core, Undone, control_facts, memory_facts, space_facts}
use Rattle.vm_kernel.specs.Rooms.{Spends, full_dues, if_copies}
use Rattle.vm_legal.specs.Frames.{asked_pages}
use Rattle.vm_merge.specs.Merges.{IsThin}
use Rattle.vm_model.specs.Local.{Ends as EndsControl, Local}
use Rattle.vm_model.specs.declared.event.Event.TheVariants as event
use Rattle.vm_model.specs.declared.message.Message.TheVariants as message
use Rattle.vm_parts.specs.Changes.{is_here, one}
use Rattle.vm_parts.specs.Listed.{listed_pages}
use Rattle.vm_state.proofs.Bypassing.{waits_quiet}
use Rattle.vm_state.proofs.Filling.{SameFills}
use Rattle.vm_state.proofs.Passing.{quiet_if}
use Rattle.vm_state.proofs.Knowing.{known_put}
use Rattle.vm_state.specs.References.{is_live_in}
use Rattle.vm_supply.specs.declared.woken.Woken.TheVariants as woken
use Rattle.vm_terminate.specs.Destroys.{Destroys}
use Rattle.vm_terminate.specs.Finishes.{ControlEnds, FinishState, IsTold, KeepsPages, NoControl}
use Rattle.vm_terminate.specs.Steps.{finish_state}
use Rattle.vm_waits.specs.Waits.{count_copies}

-- the state from which an object ends
abbrev pub begins : Parts → FinishState
begins k = record { parts = k.memory; chains = k.chains; copies = k.copies; held = k.laundry.held; room = k.laundry.room; events = [] }

abbrev pub becomes : Parts → HostParts → List Event → FinishState
becomes k parts events = record { parts = parts; chains = k.chains; copies = k.copies; held = k.laundry.held; room = k.laundry.room; events = events }

-- the kernel with other objects, once the parts have changed
abbrev pub knowing : Parts → ObjectTable → FinishState → Parts
knowing k os s = record (of_state k s) { memory = record ((of_state k s).memory) { objects = os } }

unanswered : (b : Bool) (x y : ℕ) → (if b && false then x else y) ≡ y
unanswered true x y = refl
unanswered false x y = refl

-- what there is at the end of the pages: the parts, and the past behind the drops
pub record HasNone (header : Header) (h : ℕ) (outside : Outside) (doing : Command) (k : Parts) (ids : Ids) (object : ObjectId)
    (past : List Event) (bare clear : FinishState) (control reason : ℕ) (asked : List ℕ) : Type 0 where
  pub rests : Rests header h k ids past
  pub may : MayDestroy header h object.0 past
  pub drops : AreDropped header h outside doing (destroys h object control reason ∷ past) k ids object (begins k) bare
  pub cancels : AreCancelled header h (bare.events ++ destroys h object control reason ∷ past) k ids object asked
      (space_facts header (bare.events ++ destroys h object control reason ∷ past)) (alive_facts h (bare.events ++ destroys h object control reason ∷ past))
      (memory_facts header h (bare.events ++ destroys h object control reason ∷ past)) bare clear

pub has_none : {header : Header} {h : ℕ} {k : Parts} {ids : Ids} {past : List Event} {known : ObjectRow} {new : FinishState} (outside : Outside)
    (doing : Command) (object : ObjectId) (control reason : ℕ) → Rests header h k ids past → MayDestroy header h object.0 past
    → is_control control (live_in (object_at k.memory.objects object.0)) ≡ true → (all : Destroys (host_id h) object known (begins k) new)
    → HasNone header h outside doing k ids object past all.bare all.clear control reason all.asked
has_none {header = header} {h = h} {k = k} {ids = ids} {past = past} outside doing object control reason rests may live all =
    let before = destroys h object control reason ∷ past in
    let drops : AreDropped header h outside doing before k ids object (begins k) all.bare = pages_drop header h outside doing before k ids object 0 (begins k)
    all.bare (emptying_taken object control reason rests may.wild live) (λ q low. absurd (omega (arith, low))) all.drops in
    record {
      rests = rests;
      may = may;
      drops = drops;
      cancels = pages_cancel header h (all.bare.events ++ before) k ids object all.asked (space_facts header (all.bare.events ++ before))
          (alive_facts h (all.bare.events ++ before)) (memory_facts header h (all.bare.events ++ before)) 0 all.bare all.clear drops.now.core drops.now.used
          (λ q low. absurd (omega (arith, low))) all.cancels;
    }

module _ {header : Header} {h : ℕ} {outside : Outside} {doing : Command} {k : Parts} {ids : Ids} {object : ObjectId} {past : List Event}
    {bare clear : FinishState} {control reason : ℕ} {asked : List ℕ}
    (has : HasNone header h outside doing k ids object past bare clear control reason asked) where
  abbrev o : ℕ
  o = object.0

  abbrev before : List Event
  before = destroys h object control reason ∷ past

  abbrev moment : List Event
  moment = bare.events ++ before

  objects : clear.parts.objects ≡ k.memory.objects
  objects = has.cancels.objects ∙ has.drops.objects

  chains : clear.chains ≡ k.chains
  chains = ap (λ (z : FinishState). z.chains) has.cancels.rest ∙ ap (λ (z : FinishState). z.chains) has.drops.rest

  copies : clear.copies ≡ k.copies
  copies = ap (λ (z : FinishState). z.copies) has.cancels.rest ∙ ap (λ (z : FinishState). z.copies) has.drops.rest

  -- the pages that have a row once those here have gone are those that are asked
  asked_bare : (p : ℕ) → is_some (row_at bare.parts.resident o p) ≡ (page_on header h o p past).asked
  asked_bare p = by (row_at k.memory.resident o p) refl
      ∙ sym (ap (λ (z : Local). z.asked) (has.rests.matches.core.pages.shown.shown o p))
    where
      by_here : (r : PageRow) → row_at k.memory.resident o p ≡ Some r → (b : Bool) → r.here ≡ b → is_some (row_at bare.parts.resident o p) ≡ not b
      by_here r found false here =
          ap is_some (has.drops.away p (ap is_here found ∙ here) ∙ found)
      by_here r found true here = none (row_at bare.parts.resident o p) refl
        where
          none : (x : Option PageRow) → row_at bare.parts.resident o p ≡ x → is_some x ≡ false
          none None is = refl
          none (Some r2) is =
              let same : r2 ≡ r = some_is r2 r (sym (has.drops.led.pages o p r2 is) ∙ found) in
              let bad : false ≡ true = sym (has.drops.none p) ∙ (ap is_here is ∙ (ap (λ z. z.here) same ∙ here)) in
              absurd (cc)

      by : (x : Option PageRow) → row_at k.memory.resident o p ≡ x
          → is_some (row_at bare.parts.resident o p) ≡ (local_of_row k.memory.frames x (absent_at k.memory.objects o p)).asked
      by None found = ap is_some (has.drops.away p (ap is_here found) ∙ found)
      by (Some r) found = by_here r found r.here refl

  counted : length asked ≡ asked_pages header h o moment
  counted =
      lengths_same asked has.may.asked.pages (λ p. has.cancels.listed p ∙ (ap one (asked_bare p) ∙ sym (has.may.asked.each p)))
      ∙ (has.may.asked.count ∙ sym (has.drops.asked
      ∙ unanswered (h == h && (o == o && is_control control (live_control h o past))) (asked_pages header h o past - 1) (asked_pages header h o past)))

  pub cleared : {known : ObjectRow} {os : ObjectTable} → object_at k.memory.objects o ≡ Some known → known.live ≡ true
      → PutsObject o (Some (quiet_row known)) clear.parts.objects os → IsCleared header h object (of_state k clear) ids known os moment
  cleared {known = known} {os = os} found live quiet = record {
    count = length asked;
    clears = has.cancels.clears;
    asked = counted;
    destroyed = has.drops.now.destroyed;
    none = has.cancels.none;
    away = λ p. here_shown moment o p has.drops.now.core ∙ has.drops.none p;
    found = ap (λ z. object_at z o) objects ∙ found;
    live = live;
    quiet = quiet;
  }

-- its control ends, and its pager is told
pub record EndsTold (h : ℕ) (object : ObjectId) (known : ObjectRow) (old new : FinishState) : Type 0 where
  pub live : known.live ≡ true
  pub keeps : KeepsPages old new
  pub put : PutsObject object.0 (Some (quiet_row known)) old.parts.objects new.parts.objects
  pub events : new.events ≡ event.Sent (Up (host_id h) object) (message.Terminate known.control) ∷ old.events

pub end_told : {h : ℕ} {object : ObjectId} {known : ObjectRow} {old new : FinishState} → known.live ≡ true → ControlEnds (host_id h) object known old new
    → EndsTold h object known old new
end_told live (NoControl dead same) = absurd (let bad : true ≡ false = sym live ∙ dead in cc)
end_told live (IsTold lives keeps put events) = record { live = live; keeps = keeps; put = put; events = events }

module _ {header : Header} {h : ℕ} {outside : Outside} {doing : Command} {k : Parts} {ids : Ids} {object : ObjectId} {past : List Event}
    {bare clear : FinishState} {control reason : ℕ} {asked : List ℕ} {known : ObjectRow} {parts : HostParts} {events : List Event}
    (has : HasNone header h outside doing k ids object past bare clear control reason asked) (found : object_at k.memory.objects object.0 ≡ Some known)
    (told : EndsTold h object known clear (becomes k parts events)) where
  abbrev front : List Event
  front = destroys h object control reason ∷ past

  abbrev ends : Event
  ends = event.Sent (Up (host_id h) object) (message.Terminate known.control)

  abbrev now : List Event
  now = ends ∷ (bare.events ++ front)

  events_are : events ≡ ends ∷ bare.events
  events_are = told.events ∙ ap (λ z. ends ∷ z) has.cancels.events

  resident_is : parts.resident ≡ clear.parts.resident
  resident_is = ap (λ (z : FinishState). z.parts.resident) told.keeps.is

  chains_are : clear.chains ≡ bare.chains
  chains_are = ap (λ (z : FinishState). z.chains) has.cancels.rest

  put_start : PutsObject object.0 (Some (quiet_row known)) k.memory.objects parts.objects
  put_start = subst (λ (z : ObjectTable). PutsObject object.0 (Some (quiet_row known)) z parts.objects) (objects has) told.put

  -- who waits, by the tables of the start
  waits_end : HasWaits header h k woken.Nobody now
  waits_end = waits_quiet header h ends (bare.events ++ front)
      (λ place. quiet_if (h == h && object.0 == place.object.0)
      (if is_control known.control (live_control h place.object.0 (bare.events ++ front)) then EndsControl else Elsewhere)
      Elsewhere (quiet_if (is_control known.control (live_control h place.object.0 (bare.events ++ front))) EndsControl Elsewhere tt tt) tt) has.drops.now.waits

  is : IsCleared header h object (of_state k clear) ids known parts.objects (bare.events ++ front)
  is = cleared has found told.live told.put

  -- each object in use but this one is referred to, once it has no page
  referred_clear : AllReferred clear.chains clear.parts.objects clear.parts.resident
  referred_clear =
      subst (λ (z : ChainTable). AllReferred z clear.parts.objects clear.parts.resident) (sym chains_are)
      (subst (λ (z : ObjectTable). AllReferred bare.chains z clear.parts.resident) (sym has.cancels.objects)
      (referred_less bare.chains bare.parts.objects bare.parts.resident clear.parts.resident has.cancels.pages has.drops.now.referred))

  thin_clear : IsThin clear.copies clear.chains clear.parts.objects
  thin_clear =
      subst (λ (z : CopyTable). IsThin z clear.chains clear.parts.objects) (sym (copies has))
      (subst (λ (z : ChainTable). IsThin k.copies z clear.parts.objects) (sym (chains has))
      (subst (λ (z : ObjectTable). IsThin k.copies k.chains z) (sym (objects has)) has.rests.thin))

  pub undone : {os2 : ObjectTable} {left : ℕ} → PutsObject object.0 (Some (gone_row known left)) parts.objects os2 → SameMarks parts.objects os2
      → left + one known.cache ≡ known.references → (waits : WaitTable) → WakesOn k.maps object.0 k.waits waits
      → Undone header h (record k { memory = record parts { objects = os2; buffers = k.memory.buffers }; waits = waits }) ids (events ++ front)
  undone {os2 = os2} {left = left} put marks less waits wakes =
      subst (λ (z : List Event). Undone header h (record k { memory = record parts { objects = os2; buffers = k.memory.buffers }; waits = waits }) ids
      (z ++ front)) (sym events_are)
      (record {
        core = record {
          setting = core.setting;
          fits = core.fits;
          spaces = spaces_refilled fills core.spaces;
          objects = core.objects;
          copied = core.copied;
          controls = core.controls;
          flags = core.flags;
          calm = core.calm;
          pages = core.pages;
        };
        settled = record { none_owed = refl; shut = λ region. refl };
        used = used;
        referred = subst (λ (z : Parts). AllReferred z.chains z.memory.objects z.memory.resident) (sym same) (referred_gone is gone referred_clear);
        thin = subst (λ (z : Parts). IsThin z.copies z.chains z.memory.objects) (sym same) (thin_gone is gone thin_clear);
        waits = who_waits;
        order = subst (λ (z : List Waiting). BeganInOrder (λ task. begun_at task now) 0 z) (sym wakes.rows)
            (order_emptied k.maps object.0 (λ task. begun_at task now) k.waits.rows has.drops.now.order);
      })
    where
      gone : IsLetGo object (of_state k clear) known os2 left
      gone = record {
        put = puts_both object.0 (Some (quiet_row known)) (Some (gone_row known left)) clear.parts.objects parts.objects os2 told.put put;
        marks = marks_both clear.parts.objects parts.objects os2 told.keeps.marks marks;
        less = less;
      }

      same : knowing k os2 (becomes k parts events) ≡ knowing k os2 clear
      same = ap (knowing k os2) told.keeps.is

      core : Core header h (knowing k os2 (becomes k parts events)) ids [] (space_facts header now) (control_facts h now) (memory_facts header h now)
      core = subst (λ (z : Parts). Core header h z ids [] (space_facts header now) (control_facts h now) (memory_facts header h now)) (sym same)
          (core_gone is gone)

      fills : SameFills k.waits.rows waits.rows
      fills = subst (λ (z : List Waiting). SameFills k.waits.rows z) (sym wakes.rows) (fills_emptied k.maps object.0 k.waits.rows)

      used_rows : UsesAll header (knowing k os2 (becomes k parts events)) now
      used_rows = subst (λ (z : Parts). UsesAll header z now) (sym same) has.cancels.used

      used : UsesAll header (record (knowing k os2 (becomes k parts events)) { waits = waits }) now
      used = subst (λ (z : List Waiting). UsesAll header (record (knowing k os2 (becomes k parts events)) { waits = record waits { rows = z } }) now)
          (sym wakes.rows)
          (used_emptied object.0 k.waits.rows used_rows)

      emptied : IsEmptied k object.0 parts.resident os2 (gone_row known left)
      emptied = record {
        none = λ p. ap (λ z. row_at z object.0 p) resident_is ∙ has.cancels.none p;
        others = λ x p apart. ap (λ z. row_at z x p) resident_is ∙ (has.cancels.others x p apart ∙ has.drops.others x p apart);
        put = puts_both object.0 (Some (quiet_row known)) (Some (gone_row known left)) k.memory.objects parts.objects os2 put_start put;
      }

      who_waits : HasWaits header h (record (knowing k os2 (becomes k parts events)) { waits = waits }) woken.Nobody now
      who_waits =
          subst (λ (z : List Waiting). HasWaits header h (record (knowing k os2 (becomes k parts events)) { waits = record waits { rows = z } })
          woken.Nobody now)
          (sym wakes.rows)
          (waits_emptied object.0 has.rests.matches.core has.may.wild waits_end has.rests.used.copies emptied)

  -- the events, the lists and the pages
  led_end : Led header h outside doing front k bare (becomes k parts events)
  led_end = record {
    goes = subst (λ (z : List Event). LegalEvents header h outside doing front bare.events z) (sym events_are)
        (goes_one header h outside doing front bare.events ends has.drops.now.settled (ending_follows is outside doing));
    plays = plays_told events_are same_lists;
    only = only_one ends bare.events events events_are tt;
    pages = λ o p row there. has.cancels.pages o p row (sym (ap (λ z. row_at z o p) resident_is) ∙ there);
  }
    where
      same_lists : paging (of_state k (becomes k parts events)) ≡ paging (of_state k bare)
      same_lists = ap (λ (z : FinishState). paging (of_state k z)) told.keeps.is
          ∙ same_paging _ _ _ _ has.cancels.frames has.cancels.queues

  pub led : Led header h outside doing front k (begins k) (becomes k parts events)
  led = led_both header h outside doing front k (begins k) bare (becomes k parts events) has.drops.led led_end

  pub emptied : HasEmptied header h object.0 past (events ++ front)
  emptied = subst (λ (z : List Event). HasEmptied header h object.0 past (z ++ front)) (sym events_are) (record {
    pages = λ p here. has.drops.told p (inl (sym (here_shown past object.0 p has.rests.matches.core) ∙ here));
    ended = rw (own_host h, own_host object.0) refl;
  })

  pub dead : is_live_in (object_at parts.objects object.0) ≡ false
  dead = ap is_live_in (known_put object.0 (quiet_row known) clear.parts.objects parts.objects told.put)

  -- no frame has come or gone
  frames : frame_count parts.frames ≡ frame_count k.memory.frames
  frames = ap (λ (z : FinishState). frame_count z.parts.frames) told.keeps.is
      ∙ some_is (frame_count clear.parts.frames) (frame_count k.memory.frames)
      (sym has.cancels.clears.core.pages.counted.total ∙ has.rests.matches.core.pages.counted.total)

-- all that the end of an object leaves, but that a flag may still hold it
pub record Empties (header : Header) (h : ℕ) (outside : Outside) (doing : Command) (k : Parts) (ids : Ids) (object : ObjectId) (past front : List Event)
    (parts : HostParts) (events : List Event) : Type 0 where
  pub known : ObjectRow
  pub was : object_at k.memory.objects object.0 ≡ Some known
  pub now : object_at parts.objects object.0 ≡ Some (quiet_row known)
  pub counts : one known.cache ≤ known.references
  pub goes : LegalEvents header h outside doing (front ++ past) [] events
  pub only : EndsOnly [] events
  pub emptied : HasEmptied header h object.0 past (events ++ (front ++ past))
  pub plays : Plays header (front ++ past) [] (paging k) events (paging (record k { memory = parts }))
  pub frames : frame_count parts.frames ≡ frame_count k.memory.frames
  pub undone : {os2 : ObjectTable} {left : ℕ} → PutsObject object.0 (Some (gone_row known left)) parts.objects os2 → SameMarks parts.objects os2
      → left + one known.cache ≡ known.references → (waits : WaitTable) → WakesOn k.maps object.0 k.waits waits
      → Undone header h (record k { memory = record parts { objects = os2 }; waits = waits }) ids (events ++ (front ++ past))

lives_row : (control : ℕ) (known : ObjectRow) (b : Bool) → known.live ≡ b → is_control control (if b then Some known.control else None) ≡ true
    → known.live ≡ true
lives_row control known true is holds = is
lives_row control known false is holds = absurd (let bad : false ≡ true = holds in cc)

pub empties : {header : Header} {h : ℕ} {k : Parts} {ids : Ids} {past front old_events events : List Event} {parts : HostParts} (outside : Outside)
    (doing : Command) (object : ObjectId) (control : ℕ) → Rests header h k ids past → TakesDestroy h object control front → MayDestroy header h object.0 past
    → is_control control (live_in (object_at k.memory.objects object.0)) ≡ true → old_events ≡ []
    → IfSome (object_at k.memory.objects object.0) (λ known. (chains : ChainTable) (copies : CopyTable) (held : List FrameNo) (room : ℕ)
    → Destroys k.host object known (finish_state k.memory chains copies held room old_events) (finish_state parts chains copies held room events))
    → parts.buffers ≡ k.memory.buffers → Empties header h outside doing k ids object past front parts events
empties {header = header} {h = h} {k = k} {ids = ids} {past = past} {front = front} {old_events = old_events} {events = events} {parts = parts} outside doing
    object control rests takes may live nothing all buffers =
    subst (λ (z : List Event). Empties header h outside doing k ids object past z parts events) (sym takes.is)
    (by (object_at k.memory.objects object.0) refl)
  where
    first : List Event
    first = destroys h object control takes.reason ∷ []

    by : (x : Option ObjectRow) → object_at k.memory.objects object.0 ≡ x → Empties header h outside doing k ids object past first parts events
    by None is = absurd (let bad : false ≡ true = sym (ap (λ z. is_control control (live_in z)) is) ∙ live in cc)
    by (Some known) is = record {
      known = known;
      was = is;
      now = known_put object.0 (quiet_row known) clear.parts.objects parts.objects told.put;
      counts = let count = rests.matches.core.objects.regions.counts object.0 known is in omega (arith, count);
      goes = (led has is told).goes;
      only = (led has is told).only;
      emptied = emptied has is told;
      plays = (led has is told).plays;
      frames = frames has is told;
      undone = λ {os2} {left} put marks less waits wakes.
          subst (λ z. Undone header h (record k { memory = record parts { objects = os2; buffers = z }; waits = waits }) ids (events ++ (first ++ past)))
          (sym buffers) (undone has is told put marks less waits wakes);
    }
      where
        lives : known.live ≡ true
        lives = lives_row control known known.live refl (sym (ap (λ z. is_control control (live_in z)) is) ∙ live)

        its : Destroys k.host object known (begins k) (becomes k parts events)
        its = subst (λ (z : List Event). Destroys k.host object known (record (begins k) { events = z }) (becomes k parts events)) nothing
            ((subst (λ (z : Option ObjectRow). IfSome z (λ row. (chains : ChainTable) (copies : CopyTable) (held : List FrameNo) (room : ℕ)
            → Destroys k.host object row (finish_state k.memory chains copies held room old_events) (finish_state parts chains copies held room events))) is
            all)
            k.chains k.copies k.laundry.held k.laundry.room)

        own : Destroys (host_id h) object known (begins k) (becomes k parts events)
        own = subst (λ (z : HostId). Destroys z object known (begins k) (becomes k parts events)) (named_host k.host h rests.matches.core.setting.numbered) its

        clear : FinishState
        clear = own.clear

        has : HasNone header h outside doing k ids object past own.bare own.clear control takes.reason own.asked
        has = has_none outside doing object control takes.reason rests may live own

        told : EndsTold h object known own.clear (becomes k parts events)
        told = end_told lives own.ends

-- it costs what it tells
pub empty_spends : (k : Parts) (parts : HostParts) (os2 : ObjectTable) (log log2 : Listed Event) → frame_count parts.frames ≡ frame_count k.memory.frames
    → log.room + listed_pages parts.queues ≤ log2.room + (listed_pages k.memory.queues + 1)
    → length log2.items + listed_pages parts.queues ≤ length log.items + (listed_pages k.memory.queues + 1)
    → k.memory.resident.spare ≤ parts.resident.spare → os2.rows ≡ k.memory.objects.rows
    → Spends (listed_pages k.memory.queues + 1) 0 0 k log (record k { memory = record parts { objects = os2 } }) log2
empty_spends k parts os2 log log2 frames room told spare rows =
    let dues : full_dues (record k { memory = record parts { objects = os2 } }) ≡ full_dues k = ap (λ n. 3 * length k.waits.rows + k.chains.marked
    + 2 * if_copies (count_copies k.waits.rows) n + 1) frames in
    record {
      told = omega (arith, dues, told);
      room = omega (arith, dues, room);
      rows = omega (arith, dues, spare);
      shadows = omega (arith, dues);
      objects = omega (arith, rows);
      copies = omega arith;
    }

-- what held the object here without an entry does so no more

pub record IsReleased (known : ObjectRow) (object : ObjectId) (os os2 : ObjectTable) (left : ℕ) : Type 0 where
  pub put : PutsObject object.0 (Some (gone_row known left)) os os2
  pub marks : SameMarks os os2
  pub less : left + one known.cache ≡ known.references

pub released_dead : {known : ObjectRow} {object : ObjectId} {os os2 : ObjectTable} {left : ℕ} → IsReleased known object os os2 left
    → is_live_in (object_at os2 object.0) ≡ false
released_dead {known = known} {object = object} {os = os} {os2 = os2} {left = left} let_go =
    ap is_live_in (known_put object.0 (gone_row known left) os os2 let_go.put)

-- nothing did
pub released_none : {os : ObjectTable} {row : ObjectRow} (known : ObjectRow) (object : ObjectId) → object_at os object.0 ≡ Some (quiet_row known)
    → object_at os object.0 ≡ Some row → row.cache ≡ false → IsReleased known object os os known.references
released_none {os = os} {row = row} known object now found unset =
    let none : known.cache ≡ false = sym (ap (λ z. z.cache) (some_is row (quiet_row known) (sym found ∙ now))) ∙ unset in
    let nothing : one known.cache ≡ 0 = ap one none in
    record {
      put = put_same object.0 (gone_row known known.references) os os (record { at = λ x. refl })
          (now ∙ ap (λ b. Some (record (quiet_row known) { cache = b })) none);
      marks = record { at = λ x p. refl };
      less = omega (arith, nothing);
    }

-- or the flag did, which was a reference
module _ (os mid : ObjectTable) {row : ObjectRow} (known : ObjectRow) (object : ObjectId) (now : object_at os object.0 ≡ Some (quiet_row known))
    (found : object_at os object.0 ≡ Some row) (is_set : row.cache ≡ true)
    (put : IfSome (object_at os object.0) (λ its. PutsObject object.0 (Some (record its { cache = false })) os mid)) where
  put_first : PutsObject object.0 (Some (record (quiet_row known) { cache = false })) os mid
  put_first = if_some (object_at os object.0) (λ its. PutsObject object.0 (Some (record its { cache = false })) os mid) (quiet_row known) now put

  between : object_at mid object.0 ≡ Some (record (quiet_row known) { cache = false })
  between = known_put object.0 (record (quiet_row known) { cache = false }) os mid put_first

  flag : one known.cache ≡ 1
  flag = ap one (sym (ap (λ z. z.cache) (some_is row (quiet_row known) (sym found ∙ now))) ∙ is_set)

  pub may_release : one known.cache ≤ known.references → IfSome (object_at mid object.0) (λ its. 0 < its.references)
  may_release counts =
      let held = flag in
      subst (λ (z : Option ObjectRow). IfSome z (λ its. 0 < its.references)) (sym between) (omega (arith, counts, held))

  pub released_flag : {os2 : ObjectTable} {left : ℕ} → SameMarks os mid → IfSome (object_at mid object.0) (λ its. left + 1 ≡ its.references)
      → IfSome (object_at mid object.0) (λ its. PutsObject object.0 (Some (record its { references = left })) mid os2) → SameMarks mid os2
      → IsReleased known object os os2 left
  released_flag {os2 = os2} {left = left} marks less put2 marks2 =
      let held = flag in
      let fewer = if_some (object_at mid object.0) (λ its. left + 1 ≡ its.references) (record (quiet_row known) { cache = false }) between less in
      record {
        put = puts_both object.0 (Some (record (quiet_row known) { cache = false })) (Some (gone_row known left)) os mid os2 put_first
            (if_some (object_at mid object.0) (λ its. PutsObject object.0 (Some (record its { references = left })) mid os2)
            (record (quiet_row known) { cache = false }) between put2);
        marks = marks_both os mid os2 marks marks2;
        less = omega (arith, held, fewer);
      }
