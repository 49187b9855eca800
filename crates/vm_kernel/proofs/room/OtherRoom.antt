-- What a kernel stands for doesn't depend on how much room its tables have.
use Rattle.vm_kernel.proofs.Common.{refl, All, Bool, Entry, Event, FrameTable, Header, List, Option, PageKey, Parts, [], inl, inr, rows_map, suc, zero, ℕ}
use Rattle.vm_kernel.proofs.space.StillThin.{references_same, thin_kept}
use Rattle.vm_merge.specs.Merges.{IsThin}
use Rattle.vm_base.specs.declared.ids.FrameNo.{FrameNo}
use Rattle.vm_copies.specs.Copies.{CopyTable}
use Rattle.vm_fault.specs.Pushes.{CopiesFit}
use Rattle.vm_fault.specs.Walks.{ChainsFit, IsAt, IsUnder}
use Rattle.vm_kernel.proofs.memory.CopiesKept.{copied_pages}
use Rattle.vm_kernel.specs.Matches.{Copied, HasWaits, Matches, ObjectFacts, Rests, UsesAll}
use Rattle.vm_kernel.specs.Rooms.{Rooms, memory_with, with_rooms}
use Rattle.vm_maps.specs.Maps.{Mapped}
use Rattle.vm_model.specs.Waiting.{Target}
use Rattle.vm_objects.specs.Objects.{ObjectTable}
use Rattle.vm_parts.specs.Fits.{Fit}
use Rattle.vm_parts.specs.declared.parts.HostParts.{HostParts}
use Rattle.vm_resident.specs.Resident.{ResidentTable}
use Rattle.vm_shadow.proofs.Ranks.{ranked_same}
use Rattle.vm_shadow.specs.Chains.{ChainTable}
use Rattle.vm_shadow.specs.declared.ids.Ids.{Ids}
use Rattle.vm_state.proofs.CopyFits.{WasHere, fits_regions}
use Rattle.vm_state.specs.Filling.{AllUsed, FitsCopy, HasCopies, IsAlone}
use Rattle.vm_state.specs.Passed.{IsPlaceBehind, LeadsOver, Passed, Unmet}
use Rattle.vm_state.specs.References.{AllReferred}
use Rattle.vm_state.specs.Stands.{HasControls, HasEntries, HasKinds, HasLaundry, HasPages, HasRegions, IsInside, IsWashed}
use Rattle.vm_state.specs.Waiters.{IsPlaceOf, LeadsTo, Reason}
use Rattle.vm_supply.specs.declared.woken.Woken.{Woken}
use Rattle.vm_supply.specs.declared.woken.Woken.TheVariants as woken
use Rattle.vm_terminate.specs.Finishes.{IsReferred}
use Rattle.vm_waits.specs.declared.waiting.Destination.{Destination}
use Rattle.vm_waits.specs.declared.waiting.On.{On}
use Rattle.vm_waits.specs.declared.waiting.On.TheVariants as on
use Rattle.vm_waits.specs.declared.waiting.Waiting.{Waiting}
use Rattle.vm_waits.specs.declared.waiting.Want.{Want}
use Rattle.vm_waits.specs.declared.waiting.Want.TheVariants as want

-- the chains with another room
module _ (chains : ChainTable) (spare : ℕ) where
  under_roomier : (from to : PageKey) → IsUnder chains from to → IsUnder (record chains { spare = spare }) from to
  under_roomier from to was = record { row = was.row; found = was.found; is = was.is }

  at_roomier : (maps : Mapped) (task : ℕ) (what : Want) (key : PageKey) → IsAt maps chains task what key
      → IsAt maps (record chains { spare = spare }) task what key
  at_roomier maps task what key was = record { entry = was.entry; found = was.found; row = was.row; region = was.region; is = was.is }

  leads_roomier : (n : ℕ) (from to : PageKey) → LeadsTo chains n from to → LeadsTo (record chains { spare = spare }) n from to
  leads_roomier zero from to was = was
  leads_roomier (suc n) from to was = (was.0, under_roomier from was.0 was.1, leads_roomier n was.0 to was.2)

  place_roomier : (maps : Mapped) (task : ℕ) (what : Want) (key : PageKey) → IsPlaceOf maps chains task what key
      → IsPlaceOf maps (record chains { spare = spare }) task what key
  place_roomier maps task what key was =
      record { top = was.top; at = at_roomier maps task what was.top was.at; steps = was.steps; leads = leads_roomier was.steps was.top key was.leads }

  over_roomier : (stays : PageKey → Type 0) (n : ℕ) (from to : PageKey) → LeadsOver stays chains n from to
      → LeadsOver stays (record chains { spare = spare }) n from to
  over_roomier stays zero from to was = was
  over_roomier stays (suc n) from to was = (was.0, (was.1.0, under_roomier from was.1.0 was.1.1, over_roomier stays n was.1.0 to was.1.2))

  behind_roomier : (stays : PageKey → Type 0) (maps : Mapped) (task : ℕ) (what : Want) (key : PageKey) → IsPlaceBehind stays maps chains task what key
      → IsPlaceBehind stays maps (record chains { spare = spare }) task what key
  behind_roomier stays maps task what key was =
      record { top = was.top; at = at_roomier maps task what was.top was.at; steps = was.steps; leads = over_roomier stays was.steps was.top key was.leads }

  passed_roomier : (stays : PageKey → Type 0) (unmet : PageKey → Unmet) (maps : Mapped) (task : ℕ) (what : Want) (why : On)
      → Passed stays unmet maps chains task what why → Passed stays unmet maps (record chains { spare = spare }) task what why
  passed_roomier stays unmet maps task what on.Again was = tt
  passed_roomier stays unmet maps task what (on.Ready object) was = (
    was.0,
    place_roomier maps task what was.0 was.1,
    was.2,
    λ none. (let now = was.3 none in (behind_roomier stays maps task what was.0 now.0, now.1)),
  )
  passed_roomier stays unmet maps task what (on.Page key) was = behind_roomier stays maps task what key was
  passed_roomier stays unmet maps task what (on.Push key) was = tt
  passed_roomier stays unmet maps task what on.Frame was = tt

  inside_roomier : (size : ℕ) (row : Entry) → IsInside size chains row → IsInside size (record chains { spare = spare }) row
  inside_roomier size row was = record { region = was.region; some = was.some; below = was.below; inside = was.inside }

  entries_roomier : (size : ℕ) (maps : Mapped) (gone : List Entry) → HasEntries size maps chains gone
      → HasEntries size maps (record chains { spare = spare }) gone
  entries_roomier size maps gone was = record {
    inside = λ task. rows_map (IsInside size chains) (IsInside size (record chains { spare = spare })) (inside_roomier size) _ (was.inside task);
    known = was.known;
    most = was.most;
    few = was.few;
    counts = was.counts;
  }

  alone_roomier : (r o : ℕ) → IsAlone chains r o → IsAlone (record chains { spare = spare }) r o
  alone_roomier r o was = record { tops = was.tops; unders = was.unders }

module _ (chains : ChainTable) (resident : ResidentTable) (spare rows : ℕ) where
  slow_roomier : (header : Header) (maps : Mapped) (task : ℕ) (what : Want) (to : Option Destination) (next : ℕ) (target : Option Target)
      → FitsCopy header maps chains resident task what to next target
      → FitsCopy header maps (record chains { spare = spare }) (record resident { spare = rows }) task what to next target
  slow_roomier header maps task (want.Load address bytes) to next target was = was
  slow_roomier header maps task (want.Store address bytes value) to next target was = was
  slow_roomier header maps task (want.CopyTo address pages object first) to next target was = record {
    to = was.to;
    goes = was.goes;
    next = was.next;
    made = was.made;
    region = was.region;
    alone = alone_roomier chains spare was.to.region.0 object.0 was.alone;
    range = was.range;
    place = was.place;
    unmade = was.unmade;
  }

  copies_roomier : (header : Header) (maps : Mapped) (waits : List Waiting) (next : ℕ → ℕ) (target : ℕ → Option Target)
      → HasCopies header maps chains resident waits next target
      → HasCopies header maps (record chains { spare = spare }) (record resident { spare = rows }) waits next target
  copies_roomier header maps waits next target was = record {
    each = λ t w there. slow_roomier header maps t w.want w.destination (next t) (target t) (was.each t w there);
    apart = was.apart;
  }

  used_roomier : (header : Header) (maps : Mapped) (waits : List Waiting) (next : ℕ → ℕ) (target : ℕ → Option Target)
      → AllUsed header maps chains resident waits next target
      → AllUsed header maps (record chains { spare = spare }) (record resident { spare = rows }) waits next target
  used_roomier header maps waits next target was = record { regions = was.regions; copies = copies_roomier header maps waits next target was.copies }

-- the objects with another room
module _ (objects : ObjectTable) (n m : ℕ) where
  abbrev more_objects : ObjectTable
  more_objects = record objects { rows = n; marks = m }

  referred_roomier : (o : ℕ) → IsReferred objects o → IsReferred more_objects o
  referred_roomier o was = record { row = was.row; known = was.known; some = was.some }

  referred_before : (o : ℕ) → IsReferred more_objects o → IsReferred objects o
  referred_before o was = record { row = was.row; known = was.known; some = was.some }

  fits_roomier : (chains : ChainTable) (spare : ℕ) → ChainsFit chains objects → ChainsFit (record chains { spare = spare }) more_objects
  fits_roomier chains spare was = record { tops = was.tops; unders = was.unders }

  kinds_roomier : (header : Header) (chains : ChainTable) (spare : ℕ) → HasKinds header objects chains
      → HasKinds header more_objects (record chains { spare = spare })
  kinds_roomier header chains spare was = record { kinds = was.kinds; present = was.present; tops = was.tops; unders = was.unders }

  pages_roomier : (frames : FrameTable) (resident : ResidentTable) (rows : ℕ) (local_at : ℕ → ℕ → _) → HasPages frames resident objects local_at
      → HasPages frames (record resident { spare = rows }) more_objects local_at
  pages_roomier frames resident rows local_at was = record { shown = was.shown }

  controls_roomier : (declared h : ℕ) (last_at : ℕ → ℕ) (live_at : ℕ → Option ℕ) (ready_at : ℕ → Bool) (home_at : ℕ → Option ℕ)
      → HasControls declared h objects last_at live_at ready_at home_at
      → HasControls declared h more_objects last_at live_at ready_at home_at
  controls_roomier declared h last_at live_at ready_at home_at was = record {
    last = was.last;
    live = was.live;
    ready = was.ready;
    all_live = record { at = was.all_live.at };
    numbers = record { at = was.numbers.at };
    ended = was.ended;
    home = was.home;
  }

  all_referred_roomier : (chains : ChainTable) (resident : ResidentTable) (spare rows : ℕ) → AllReferred chains objects resident
      → AllReferred (record chains { spare = spare }) more_objects (record resident { spare = rows })
  all_referred_roomier chains resident spare rows was = record {
    live = was.live;
    pages = λ o p row there. referred_roomier o (was.pages o p row there);
    locks = was.locks;
    shadows = λ o row there. referred_roomier o (was.shadows o row there);
  }

  thin_roomier : {copies : CopyTable} (chains : ChainTable) (spare more : ℕ) → IsThin copies chains objects
      → IsThin (record copies { room = more }) (record chains { spare = spare }) more_objects
  thin_roomier {copies = copies} chains spare more was upper lower can =
      thin_kept {copies = copies} chains (record chains { spare = spare }) objects more_objects (λ o row is. is)
      (references_same objects more_objects (λ o. refl)) was upper lower
      (record {
        link = can.link;
        over = can.over;
        under = can.under;
        upper_row = can.upper_row;
        upper_known = can.upper_known;
        lower_row = can.lower_row;
        lower_known = can.lower_known;
        sole = can.sole;
        upper_never = can.upper_never;
        lower_never = can.lower_never;
        plain = can.plain;
      })

  regions_roomier : (chains : ChainTable) (spare : ℕ) (ids : Ids) (region_from : ℕ → _) (backing_from : ℕ → _) (regions_made objects_made marked : ℕ)
      → HasRegions chains objects ids region_from backing_from regions_made objects_made marked
      → HasRegions (record chains { spare = spare }) more_objects ids region_from backing_from regions_made objects_made marked
  regions_roomier chains spare ids region_from backing_from regions_made objects_made marked was = record {
    region = was.region;
    object = was.object;
    marks = was.marks;
    few = was.few;
    rows = was.rows;
    shadows = was.shadows;
    bottoms = λ o referred none. was.bottoms o (referred_before o referred) none;
    unmade = was.unmade;
    unknown = was.unknown;
    tops = was.tops;
    unders = was.unders;
    ranked = ranked_same chains (record chains { spare = spare }) (λ o. refl) was.ranked;
    fits = fits_roomier chains spare was.fits;
    counts = was.counts;
  }

module _ (resident : ResidentTable) (rows : ℕ) where
  washed_roomier : (frames : FrameTable) (held : List FrameNo) → All (IsWashed frames resident) held
      → All (IsWashed frames (record resident { spare = rows })) held
  washed_roomier frames held all k f less = let was = all k f less in record { claimed = was.claimed; unowned = was.unowned }

  laundry_roomier : (frames : FrameTable) (laundry : _) (out : ℕ) → HasLaundry frames resident laundry out
      → HasLaundry frames (record resident { spare = rows }) laundry out
  laundry_roomier frames laundry out was =
      record { count = was.count; room = was.room; washed = washed_roomier frames laundry.held was.washed; apart = was.apart }

fit_roomier : (rooms : Rooms) (memory : HostParts) → Fit memory → Fit (memory_with rooms memory)
fit_roomier rooms memory was = record {
  owned = record { at = was.owned.at };
  held = was.held;
  listed = was.listed;
  unlisted = was.unlisted;
  unowned = was.unowned;
  inside = was.inside;
  all_sized = was.all_sized;
  count = was.count;
  pages = was.pages;
}

reason_roomier : (rooms : Rooms) (k : Parts) (task : ℕ) (what : Want) (why : On)
    → Reason k.maps k.chains k.copies k.memory.resident k.memory.objects task what why
    → Reason k.maps (record k.chains { spare = rooms.shadows }) (record k.copies { room = rooms.copies }) (record k.memory.resident { spare = rooms.rows })
    (record k.memory.objects { rows = rooms.objects; marks = rooms.marks }) task what why
reason_roomier rooms k task what on.Again was = tt
reason_roomier rooms k task what (on.Ready object) was =
    (was.0, place_roomier k.chains rooms.shadows k.maps task what was.0 was.1, was.2, record { row = was.3.row; found = was.3.found; sent = was.3.sent })
reason_roomier rooms k task what (on.Page key) (place, inl asked) =
    (place_roomier k.chains rooms.shadows k.maps task what key place, inl (record { row = asked.row; found = asked.found; away = asked.away }))
reason_roomier rooms k task what (on.Page key) (place, inr locked) = (
  place_roomier k.chains rooms.shadows k.maps task what key place,
  inr (record { row = locked.row; found = locked.found; here = locked.here; locked = locked.locked; sent = locked.sent }),
)
reason_roomier rooms k task what (on.Push key) was =
    record {
      stores = was.stores;
      top = was.top;
      at = at_roomier k.chains rooms.shadows k.maps task what was.top was.at;
      owed = was.owed;
      asked = record { row = was.asked.row; found = was.asked.found; away = was.asked.away };
    }
reason_roomier rooms k task what on.Frame was = tt

waiters_roomier : (header : Header) (h : ℕ) (rooms : Rooms) (k : Parts) (who : Woken) (past : List Event) → HasWaits header h k who past
    → HasWaits header h (with_rooms rooms k) who past
waiters_roomier header h rooms k who past was = record {
  is = was.is;
  allowed = was.allowed;
  sized = was.sized;
  reasons = λ t w there sleeps. reason_roomier rooms k t w.want w.on (was.reasons t w there sleeps);
  passed = λ t w there sleeps. passed_roomier k.chains rooms.shadows _ _ k.maps t w.want w.on (was.passed t w there sleeps);
  aims = λ t w key there waits. place_roomier k.chains rooms.shadows k.maps t w.want key (was.aims t w key there waits);
  askers = was.askers;
  ready = was.ready;
}

copied_roomier : {s : ObjectFacts} {pushed : ℕ → ℕ → Bool} (rooms : Rooms) (copies : CopyTable) (memory : HostParts) (chains : ChainTable)
    → Copied copies memory chains s pushed
    → Copied (record copies { room = rooms.copies }) (memory_with rooms memory) (record chains { spare = rooms.shadows }) s pushed
copied_roomier rooms copies memory chains was =
    let pages = copied_pages (record { at = λ o. refl }) (λ o p page found here. WasHere page found here) was in
    let known = pages.known in
    let fits : CopiesFit copies (memory_with rooms memory) (record chains { spare = rooms.shadows }) = fits_regions refl pages.fits in
    record {
      known = record { are = known.are; copy = known.copy; newest = known.newest; last = known.last; had = known.had; unpushed = known.unpushed };
      fits = record {
        living = record { at = fits.living.at };
        fits = λ c row is. let fit = fits.fits c row is in record { known = fit.known; pages = fit.pages; had = fit.had };
        stands = fits.stands;
      };
    }

matches_roomier : (header : Header) (h : ℕ) (rooms : Rooms) (k : Parts) (ids : Ids) (gone : List Entry) (past : List Event) → Matches header h k ids gone past
    → Matches header h (with_rooms rooms k) ids gone past
matches_roomier header h rooms k ids gone past was = record {
  core = record {
    setting = was.core.setting;
    calm = was.core.calm;
    fits = record { parts = fit_roomier rooms k.memory was.core.fits.parts; plain = was.core.fits.plain; buffers = was.core.fits.buffers };
    spaces = record {
      tasks = was.core.spaces.tasks;
      entries = entries_roomier k.chains rooms.shadows header.size k.maps gone was.core.spaces.entries;
      shared = was.core.spaces.shared;
      uses = was.core.spaces.uses;
      homes = was.core.spaces.homes;
    };
    objects = record {
      regions = regions_roomier k.memory.objects rooms.objects rooms.marks k.chains rooms.shadows ids _ _ _ _ _ was.core.objects.regions;
      kinds = kinds_roomier k.memory.objects rooms.objects rooms.marks header k.chains rooms.shadows was.core.objects.kinds;
      files = was.core.objects.files;
      sizes = record { at = was.core.objects.sizes.at; few = was.core.objects.sizes.few };
      undelayed = was.core.objects.undelayed;
    };
    copied = copied_roomier rooms k.copies k.memory k.chains was.core.copied;
    controls = controls_roomier k.memory.objects rooms.objects rooms.marks _ h _ _ _ _ was.core.controls;
    flags = was.core.flags;
    pages = record {
      shown = pages_roomier k.memory.objects rooms.objects rooms.marks k.memory.frames k.memory.resident rooms.rows _ was.core.pages.shown;
      washed = laundry_roomier k.memory.resident rooms.rows k.memory.frames k.laundry _ was.core.pages.washed;
      counted = was.core.pages.counted;
    };
  };
  settled = was.settled;
  replied = was.replied;
}

uses_roomier : (header : Header) (rooms : Rooms) (k : Parts) (past : List Event) → UsesAll header k past → UsesAll header (with_rooms rooms k) past
uses_roomier header rooms k past was = used_roomier k.chains k.memory.resident rooms.shadows rooms.rows header k.maps k.waits.rows _ _ was

pub rests_roomier : (header : Header) (h : ℕ) (rooms : Rooms) (k : Parts) (ids : Ids) (past : List Event) → Rests header h k ids past
    → Rests header h (with_rooms rooms k) ids past
rests_roomier header h rooms k ids past was = record {
  matches = matches_roomier header h rooms k ids [] past was.matches;
  used = uses_roomier header rooms k past was.used;
  referred = all_referred_roomier k.memory.objects rooms.objects rooms.marks k.chains k.memory.resident rooms.shadows rooms.rows was.referred;
  thin = thin_roomier k.memory.objects rooms.objects rooms.marks k.chains rooms.shadows rooms.copies was.thin;
  waits = waiters_roomier header h rooms k woken.Nobody past was.waits;
  order = was.order;
  idle = was.idle;
}
