-- What a kernel stands for once one of its pages has changed, whatever the reason: a page goes, goes back to its pager, or stays with another row.
use Rattle.vm_state.proofs.KnownPages.{sizes_put, sizes_same}
use Rattle.vm_fault.specs.Pushes.{CopiesFit}
use Rattle.vm_legal.specs.Pushes.{is_pushed}
use Rattle.vm_state.proofs.CopyFits.{fits_changed}
use Rattle.vm_state.proofs.CopyObjects.{copies_same, copies_silent}
use Rattle.vm_kernel.specs.Matches.{AccessFacts, Amidst, ControlFacts, Core, IsReplied, ObjectFacts, Objects, Pages, SpaceFacts, access_facts, control_facts}
use Rattle.vm_kernel.specs.Matches.{memory_facts, space_facts}
use Rattle.vm_kernel.proofs.memory.CoreChanges.{core_within, with_tables}
use Rattle.vm_state.proofs.Passing.{quiet_if}
use Rattle.vm_kernel.proofs.Common.{AllUsed, BeganInOrder, Bool, ChainTable, Changes, Command, Discards, Drops, Elsewhere, Entry, Event, Fit, FrameNo, HasKinds}
use Rattle.vm_kernel.proofs.Common.{HasLaundry, HasOrder, HasPages, HasWaits, Header, HostParts, Ids, IfSome, IsOfKind, IsSettled, LaundryList, List}
use Rattle.vm_kernel.proofs.Common.{LocalEffect, Matches, None, ObjectRow, ObjectTable, Option, Outside, PageKey, PageRow, Parts, PartsFit, PutsAbsent}
use Rattle.vm_kernel.proofs.Common.{PutsObject, Queues, ReturnCause, Returns, SameMarks, SameObjects, Some, Up, UsesAll, Woken, [], absent_at, ap, arith, away}
use Rattle.vm_kernel.proofs.Common.{false, fit_objects, frames_held, frames_wired, host_id, if◌then◌else◌, inl, is_some, is_woken, live_in, local, local_after}
use Rattle.vm_kernel.proofs.Common.{local_of_row, mark_there, not, object_at, page_in, page_on, pages_of_row, place_of, queues_except, ready_in, refl}
use Rattle.vm_kernel.proofs.Common.{returns_out, reverse, row_at, same_pages, slice_get, subst, sym, true, ℕ, ◌&&◌, ◌++◌, ◌+◌, ◌-◌, ◌==◌, ◌||◌, ◌∙◌, ◌∷◌, ◌≡◌}
use Rattle.vm_kernel.proofs.steps.EventsGrow.{Follows, suffices}
use Rattle.vm_kernel.proofs.memory.PagesShown.{effect_on, frames_changed, itself, laundry_changed, pages_moved}
use Rattle.vm_kernel.proofs.memory.MayLeave.{IsSeen, seen_here}
use Rattle.vm_legal.specs.InTurn.{DropsInTurn, ReturnsInTurn}
use Rattle.vm_state.proofs.Told.{told_all, waits_told}
use Rattle.vm_state.proofs.Bypassing.{waits_quiet, waits_returned}
use Rattle.vm_legal.specs.Licences.{DropCause}
use Rattle.vm_parts.specs.Changes.{Removes}
use Rattle.vm_kernel.proofs.memory.WhatIsKnown.{IsOther, known_on, nested}
use Rattle.vm_state.proofs.Filling.{KeepsAway, away_put, used_away}
use Rattle.vm_kernel.proofs.abroad.OwnHost.{own_host}
use Rattle.vm_kernel.proofs.abroad.OwnEvents.{own_named}
use Rattle.vm_parts.proofs.Fitting.{fit_changed}
use Rattle.vm_state.proofs.Declared.{kinds_marked, kinds_put}
use Rattle.vm_state.proofs.Changing.{regions_controlled}
use Rattle.vm_state.proofs.Waiting.{IsUnawaited, here_unawaited, none_unawaited, waiters_page}
use Rattle.vm_kernel.proofs.memory.PartsStillFit.{IsPlainAway, plain_changed}
use Rattle.vm_state.proofs.Files.{files_put, files_same}
use Rattle.vm_kernel.proofs.memory.PageReturned.{controls_same}
use Rattle.vm_kernel.proofs.memory.FramesWashed.{laundry_returned}
use Rattle.vm_state.specs.Places.{known_local}
use Rattle.vm_kernel.proofs.controls.WordTaken.{regions_of}
use Rattle.vm_model.specs.Named.{named}
use Rattle.vm_model.specs.declared.event.Event.TheVariants as event
use Rattle.vm_model.specs.declared.message.Message.TheVariants as message
use Rattle.vm_kernel.proofs.controls.FlagsKept.{flags_same}

-- the kernel inside a step

pub amidst_of : {header : Header} {h : ℕ} {k : Parts} {ids : Ids} {gone : List Entry} {who : Woken} {past : List Event} → Matches header h k ids gone past
    → UsesAll header k past → HasWaits header h k who past → HasOrder k past → Amidst header h k ids gone who past
amidst_of m used waits order = record { core = m.core; used = used; waits = waits; order = order }

pub matches_of : {header : Header} {h : ℕ} {k : Parts} {ids : Ids} {gone : List Entry} {who : Woken} {past : List Event} (other : Parts)
    → Amidst header h k ids gone who past → IsSettled past → IsReplied header past → Matches header h (with_tables k other) ids gone past
matches_of other a settled replied = record { core = core_within other a.core; settled = settled; replied = replied }

-- what events leave

-- tasks, regions and objects stay as they were, and so do controls
pub record Leaves (header : Header) (h : ℕ) (past now : List Event) : Type 0 where
  pub space : space_facts header now ≡ space_facts header past
  pub accesses : access_facts now ≡ access_facts past
  pub controls : control_facts h now ≡ control_facts h past
  pub pushed : (c p : ℕ) → is_pushed h c p now ≡ is_pushed h c p past

pub leaves_all : {header : Header} {h : ℕ} {past : List Event} → Leaves header h past past
leaves_all = record { space = refl; accesses = refl; controls = refl; pushed = λ c p. refl }

-- a page is dropped
abbrev pub drops : ℕ → PageKey → Event
drops h key = event.Dropped (host_id h) key.object key.page

leaves_dropped : {header : Header} {h : ℕ} {key : PageKey} {past : List Event} → Leaves header h past (drops h key ∷ past)
leaves_dropped = record { space = refl; accesses = refl; controls = refl; pushed = λ c p. refl }

-- or is returned, and a copy stays or not
abbrev pub gives : ℕ → PageKey → ℕ → Bool → Bool → List ℕ → Event
gives h key control dirty keep bytes = event.Sent (Up (host_id h) key.object) (message.Return control key.page dirty keep bytes)

leaves_given : {header : Header} {h : ℕ} {key : PageKey} {control : ℕ} {dirty keep : Bool} {bytes : List ℕ} {past : List Event}
    → Leaves header h past (gives h key control dirty keep bytes ∷ past)
leaves_given = record { space = refl; accesses = refl; controls = refl; pushed = λ c p. refl }

-- what is of pages, where each object is known as before
pub record Moved (header : Header) (h : ℕ) (k : Parts) (memory : HostParts) (laundry : LaundryList) (who : Woken) (now : List Event) : Type 0 where
  pub fits : PartsFit memory k.size
  pub away : KeepsAway k.memory.resident memory.resident
  pub objects : SameObjects k.memory.objects memory.objects
  pub kinds : HasKinds header memory.objects k.chains
  pub copied : CopiesFit k.copies k.memory k.chains → CopiesFit k.copies memory k.chains
  pub pages : Pages header h memory.frames memory.resident memory.objects laundry (memory_facts header h now)
  pub waits : HasWaits header h (record k { memory = memory }) who now

pub amidst_moved : {header : Header} {h : ℕ} {k : Parts} {ids : Ids} {gone : List Entry} {who : Woken} {memory : HostParts} {laundry : LaundryList}
    {past now : List Event} → Amidst header h k ids gone who past → Leaves header h past now → Moved header h k memory laundry who now
    → Amidst header h (record k { memory = memory; laundry = laundry }) ids gone who now
amidst_moved {header = header} {h = h} {k = k} {ids = ids} {gone = gone} {who = who} {memory = memory} {laundry = laundry} {past = past} {now = now} a leaves
    moved =
    record {
      core =
          subst (λ (z : SpaceFacts). Core header h new ids gone z (control_facts h now) (memory_facts header h now)) (sym leaves.space)
          (subst (λ (z : ControlFacts). Core header h new ids gone (space_facts header past) z (memory_facts header h now)) (sym leaves.controls) core);
      used = used_away k.memory.resident memory.resident
          (subst (λ (z : SpaceFacts). AllUsed header k.maps k.chains k.memory.resident k.waits.rows (access_facts now).next z.target) (sym leaves.space)
          (subst (λ (z : AccessFacts). AllUsed header k.maps k.chains k.memory.resident k.waits.rows z.next (space_facts header past).target)
          (sym leaves.accesses) a.used)) moved.away;
      waits = moved.waits;
      order = subst (λ (z : AccessFacts). BeganInOrder z.begun 0 k.waits.rows) (sym leaves.accesses) a.order;
    }
  where
    new : Parts
    new = record k { memory = memory; laundry = laundry }

    core : Core header h new ids gone (space_facts header past) (control_facts h past) (memory_facts header h now)
    core = record {
      setting = a.core.setting;
      calm = a.core.calm;
      fits = moved.fits;
      spaces = a.core.spaces;
      objects = record {
        regions = regions_of k.chains k.memory.objects memory.objects ids _ _ _ _ _ a.core.objects.regions moved.objects;
        kinds = moved.kinds;
        files = files_same header h k.memory.objects memory.objects _ moved.objects a.core.objects.files;
        sizes = sizes_same (named header) k.memory.objects memory.objects _ moved.objects a.core.objects.sizes;
        undelayed = a.core.objects.undelayed;
      };
      copied = record {
        known = copies_silent (copies_same moved.objects a.core.copied.known) (λ o. refl) (λ f. refl) leaves.pushed;
        fits = moved.copied a.core.copied.fits;
      };
      controls = controls_same k.memory.objects memory.objects _ _ _ a.core.controls moved.objects.at;
      flags = flags_same moved.objects a.core.flags;
      pages = moved.pages;
    }

-- the change of a page, whatever the objects and the buffers are
pub changes_among : {key : PageKey} {frame : FrameNo} {was now : Option PageRow} {held : Bool} {bytes : List ℕ} {lists : Queues} {old new : HostParts}
    (before after : HostParts) → Changes key frame was now held bytes lists old new
    → Changes key frame was now held bytes lists (record old { objects = before.objects; buffers = before.buffers })
    (record new { objects = after.objects; buffers = after.buffers })
changes_among before after c =
    record {
      found = c.found;
      was_in = c.was_in;
      inside = c.inside;
      had = c.had;
      owned = c.owned;
      listed = c.listed;
      row = c.row;
      now_in = c.now_in;
      owner = c.owner;
      frames = c.frames;
      page = c.page;
      claim = c.claim;
      claims = c.claims;
      left = c.left;
      queues = c.queues;
      lists_are = c.lists_are;
    }

-- the parts fit still
pub fit_rerowed : {key : PageKey} {row : PageRow} {now : Option PageRow} {held : Bool} {lists : Queues} {old new : HostParts} → Fit old
    → Changes key row.frame (Some row) now held (page_in old.frames row.frame.0) lists old new → (is_some now ≡ true → held ≡ true)
    → lists.frames ≡ old.queues.frames → SameObjects old.objects new.objects → new.buffers ≡ old.buffers → Fit new
fit_rerowed {key = key} {row = row} {now = now} {held = held} {lists = lists} {old = old} {new = new} fit c kept same objects buffers =
    let among = record new { objects = old.objects } in
    fit_objects among new.objects
    (fit_changed key row.frame (Some row) now held (page_in old.frames row.frame.0) lists old among fit (changes_among old among c) kept
    (λ some. fit.inside key.object.0 key.page.0 row c.found) (fit.all_sized row.frame.0 c.inside) same refl buffers) (λ o. ap pages_of_row (objects.at o))

pub fit_lost : {key : PageKey} {row : PageRow} {held : Bool} {old new : HostParts} → Fit old
    → Changes key row.frame (Some row) None held (page_in old.frames row.frame.0) (queues_except row.frame.0 old.queues) old new
    → SameObjects old.objects new.objects → new.buffers ≡ old.buffers → Fit new
fit_lost fit c objects buffers = fit_rerowed fit c (λ some. absurd (let bad : false ≡ true = some in cc)) refl objects buffers

pub same_objects : {os os2 : ObjectTable} → os2 ≡ os → SameObjects os os2
same_objects same = record { at = λ o. ap (λ z. object_at z o) same }

-- The row of a page that is here is another, of a page that is here too, or it has none; no unlock of it was outstanding, nor is. The objects are known as
-- before.
pub record Rerows (header : Header) (k : Parts) (key : PageKey) (row : PageRow) (now : Option PageRow) (held : Bool) (lists : Queues) (memory : HostParts) :
    Type 0 where
  pub changes : Changes key row.frame (Some row) now held (page_in k.memory.frames row.frame.0) lists k.memory memory
  pub here : row.here ≡ true
  pub unsent : row.unlock_sent ≡ false
  pub plain : IfSome now IsPlainAway
  pub unasked : IsUnawaited now
  pub objects : SameObjects k.memory.objects memory.objects
  pub kinds : HasKinds header memory.objects k.chains
  pub fit : Fit memory
  pub size : memory.buffers.size ≡ k.memory.buffers.size

-- so what the page shows, the returns and the frames are left to be shown
pub moved_of : {header : Header} {h : ℕ} {k : Parts} {memory : HostParts} {laundry : LaundryList} {who : Woken} {key : PageKey} {row : PageRow}
    {now : Option PageRow} {held : Bool} {lists : Queues} {after : List Event} → Rerows header k key row now held lists memory → PartsFit k.memory k.size
    → Pages header h memory.frames memory.resident memory.objects laundry (memory_facts header h after) → HasWaits header h k who after
    → Moved header h k memory laundry who after
moved_of {k = k} {memory = memory} {who = who} {key = key} {row = row} {now = now} r fits pages waits =
    let c = r.changes in
    let o = key.object.0 in
    let p = key.page.0 in
    record {
      fits = record {
        parts = r.fit;
        plain = plain_changed key row.frame _ _ _ _ _ k.memory memory fits.plain c r.plain;
        buffers = r.size ∙ fits.buffers;
      };
      away = away_put o p now row k.memory.resident memory.resident c.found c.row;
      objects = r.objects;
      kinds = r.kinds;
      copied = fits_changed key row.frame _ now _ _ _ r.objects c (λ is. r.here);
      pages = pages;
      waits = waits_told k.maps k.chains memory.resident k.memory.objects memory.objects k.waits.rows (is_woken who) _
          (waiters_page k.maps k.chains k.memory.resident memory.resident k.memory.objects k.waits.rows (is_woken who) _ o p now waits c.row
          (inl (here_unawaited (row_at k.memory.resident o p) row c.found r.here r.unsent)) r.unasked)
          (told_all k.maps k.chains k.memory.objects memory.objects (λ o2 told. record {
            row = told.row;
            found = r.objects.at o2 ∙ told.found;
            sent = told.sent;
          })) (λ o2 p2 r2 there is. ap ready_in (r.objects.at o2) ∙ is);
    }

-- what the history has of a page that is here
pub seen_of : {header : Header} {h : ℕ} {k : Parts} {ids : Ids} {gone : List Entry} {who : Woken} {row : PageRow} {past : List Event} (key : PageKey)
    → Amidst header h k ids gone who past → row_at k.memory.resident key.object.0 key.page.0 ≡ Some row → row.here ≡ true
    → IsSeen (known_local header key.object.0 key.page.0 (local header h (place_of key.object.0 key.page.0) past)) row
    (page_in k.memory.frames row.frame.0)
seen_of {header = header} {h = h} {k = k} {row = row} {past = past} key a found here =
    let o = key.object.0 in
    let p = key.page.0 in
    seen_here k.memory.frames row (absent_at k.memory.objects o p) (known_local header o p (local header h (place_of o p) past))
    (a.core.pages.shown.shown o p ∙ ap (λ z. local_of_row k.memory.frames z (absent_at k.memory.objects o p)) found) here

-- and of all pages, behind an event to this one
pages_after : {header : Header} {h : ℕ} {k : Parts} {ids : Ids} {gone : List Entry} {who : Woken} {key : PageKey} {row : PageRow} {now : Option PageRow}
    {held : Bool} {lists : Queues} {memory : HostParts} {past : List Event} (after : List Event) (effect : LocalEffect) → IsOther effect
    → Amidst header h k ids gone who past → Changes key row.frame (Some row) now held (page_in k.memory.frames row.frame.0) lists k.memory memory
    → ((o p : ℕ) → local header h (place_of o p) after ≡ effect_on header.size key effect (λ o2 p2. local header h (place_of o2 p2) past) o p)
    → local_after header.size effect (local_of_row k.memory.frames (Some row) (absent_at k.memory.objects key.object.0 key.page.0)) ≡ local_of_row
    memory.frames now (absent_at memory.objects key.object.0 key.page.0)
    → ((o p : ℕ) → (key.object.0 == o && key.page.0 == p) ≡ false → absent_at memory.objects o p ≡ absent_at k.memory.objects o p)
    → HasPages memory.frames memory.resident memory.objects (λ o p. known_local header o p (local header h (place_of o p) after))
pages_after {header = header} {h = h} {k = k} {key = key} {row = row} {memory = memory} {past = past} after effect other a c moves shows absent =
    let known = known_on header header.size key effect (λ o p. local header h (place_of o p) past) other
    (pages_moved header.size effect key row.frame _ _ _ _ _ k.memory memory memory.objects
    (λ o p. known_local header o p (local header h (place_of o p) past)) a.core.fits.parts a.core.pages.shown c shows absent) in
    record { shown = λ o p. ap (known_local header o p) (moves o p) ∙ known.shown o p }

-- an object is known otherwise, with the references and the pages that it had
pub objects_known : {header : Header} {h o : ℕ} {row new : ObjectRow} {chains : ChainTable} {os os2 : ObjectTable} {ids : Ids} {s : ObjectFacts}
    → object_at os o ≡ Some row → PutsObject o (Some new) os os2 → SameMarks os os2 → new.references ≡ row.references → new.cache ≡ row.cache
    → new.pages ≡ row.pages
    → IsOfKind header o new → Objects header h chains os ids s → Objects header h chains os2 ids s
objects_known {header = header} {h = h} {o = o} {row = row} {new = new} {chains = chains} {os = os} {os2 = os2} {ids = ids} found put marks references
    cache pages is has =
    record {
      regions = regions_controlled o row new chains os os2 ids _ _ _ _ _ found put references cache pages has.regions;
      kinds = kinds_put header o new os os2 chains put marks is has.kinds;
      files = files_put header h o row new os os2 _ found put has.files;
      sizes = sizes_put (named header) o row new os os2 _ found pages put has.sizes;
      undelayed = has.undelayed;
    }

pub fits_known : {size o : ℕ} {row new : ObjectRow} {memory : HostParts} {os : ObjectTable} → object_at memory.objects o ≡ Some row
    → PutsObject o (Some new) memory.objects os → new.pages ≡ row.pages → PartsFit memory size → PartsFit (record memory { objects = os }) size
fits_known {o = o} {row = row} {new = new} {memory = memory} {os = os} found put pages fits =
    record {
      parts = fit_objects memory os fits.parts (same_pages memory.objects os o row new found pages put);
      plain = fits.plain;
      buffers = fits.buffers;
    }

-- a control lives
pub live_at : {known : ObjectRow} (os : ObjectTable) (o : ℕ) → object_at os o ≡ Some known → known.live ≡ true → live_in (object_at os o) ≡ Some known.control
live_at {known = known} os o found live = ap live_in found ∙ ap (λ b. if b then Some known.control else None) live

-- a page goes

lost : {header : Header} {k : Parts} {key : PageKey} {row : PageRow} {held : Bool} {memory : HostParts}
    → Changes key row.frame (Some row) None held (page_in k.memory.frames row.frame.0) (queues_except row.frame.0 k.memory.queues) k.memory memory
    → row.here ≡ true → row.unlock_sent ≡ false → SameObjects k.memory.objects memory.objects → HasKinds header memory.objects k.chains → Fit memory
    → memory.buffers.size ≡ k.memory.buffers.size → Rerows header k key row None held (queues_except row.frame.0 k.memory.queues) memory
lost c here unsent objects kinds fit size =
    record {
      changes = c;
      here = here;
      unsent = unsent;
      plain = tt;
      unasked = none_unawaited None refl;
      objects = objects;
      kinds = kinds;
      fit = fit;
      size = size;
    }

-- its frame is free
pub amidst_gone : {header : Header} {h : ℕ} {k : Parts} {ids : Ids} {gone : List Entry} {who : Woken} {row : PageRow} {memory : HostParts} {past : List Event}
    (key : PageKey) → Amidst header h k ids gone who past → row.here ≡ true → row.unlock_sent ≡ false → Discards key row k.memory memory
    → memory.objects ≡ k.memory.objects → Fit memory → memory.buffers.size ≡ k.memory.buffers.size
    → Amidst header h (record k { memory = memory }) ids gone who (drops h key ∷ past)
amidst_gone {header = header} {h = h} {k = k} {row = row} {memory = memory} {past = past} key a here unsent c objects fit size =
    let o = key.object.0 in
    let p = key.page.0 in
    amidst_moved a leaves_dropped
    (moved_of (lost c here unsent (same_objects objects) (rw objects a.core.objects.kinds) fit size) a.core.fits
    (record {
      shown = pages_after (drops h key ∷ past) Drops tt a c (λ o2 p2. rw (own_host h) refl)
          (ap (λ z. record away { asked = not z; absent = absent_at k.memory.objects o p }) here
          ∙ ap (λ z. record away { absent = absent_at z o p }) (sym objects))
          (λ o2 p2 apart. ap (λ z. absent_at z o2 p2) objects);
      washed = laundry_changed key row.frame _ _ _ _ _ k.memory memory k.laundry (returns_out h past) a.core.pages.washed c;
      counted =
          rw (own_host h) (frames_changed (slice_get (reverse header.frames.items) h) key row.frame _ _ _ _ _ k.memory memory (frames_held header h past)
          (frames_held header h past - 1) (frames_wired h past) a.core.pages.counted c (λ held. let less = c.claims in omega arith));
    })
    (waits_quiet header h (drops h key) past (λ place. quiet_if (h == h && (o == place.object.0 && p == place.page.0)) Drops Elsewhere tt tt) a.waits))

-- a page goes back

other_returns : (keep : Bool) → IsOther (Returns keep)
other_returns true = tt
other_returns false = tt

-- a copy stays or not
pub amidst_given : {header : Header} {h : ℕ} {k : Parts} {ids : Ids} {gone : List Entry} {who : Woken} {key : PageKey} {row : PageRow} {now : Option PageRow}
    {lists : Queues} {memory : HostParts} {laundry : LaundryList} {control : ℕ} {dirty keep : Bool} {bytes : List ℕ} {past : List Event}
    → Amidst header h k ids gone who past → Rerows header k key row now true lists memory
    → PutsAbsent key.object.0 key.page.0 false k.memory.objects memory.objects
    → ((lacked : Bool) → local_after header.size (Returns keep) (local_of_row k.memory.frames (Some row) lacked) ≡ local_of_row memory.frames now false)
    → HasLaundry memory.frames memory.resident laundry (if not keep then returns_out h past + 1 else returns_out h past)
    → Amidst header h (record k { memory = memory; laundry = laundry }) ids gone who (gives h key control dirty keep bytes ∷ past)
amidst_given {header = header} {h = h} {k = k} {key = key} {row = row} {now = now} {memory = memory} {control = control} {dirty = dirty} {keep = keep}
    {bytes = bytes} {past = past} a r absent shows washed =
    let o = key.object.0 in
    let p = key.page.0 in
    let c = r.changes in
    amidst_moved a leaves_given (moved_of r a.core.fits
    (record {
      shown = pages_after (gives h key control dirty keep bytes ∷ past) (Returns keep) (other_returns keep) a c
          (λ o2 p2. rw (own_host h) (ap (λ e. local_after header.size e (local header h (place_of o2 p2) past)) (nested (o == o2) (p == p2) (Returns keep))))
          (shows (absent_at k.memory.objects o p) ∙ ap (local_of_row memory.frames now) (sym (absent.at o p ∙ rw (itself o, itself p) refl)))
          (λ o2 p2 apart. absent.at o2 p2 ∙ ap (λ b. if b then false else absent_at k.memory.objects o2 p2) apart);
      washed = rw (own_host h) washed;
      counted =
          frames_changed (slice_get (reverse header.frames.items) h) key row.frame _ _ _ _ _ k.memory memory (frames_held header h past)
          (frames_held header h past) (frames_wired h past) a.core.pages.counted c (λ held. let same = c.claims in omega arith);
    })
    (waits_returned header h (host_id h) key.object control key.page dirty keep bytes past (seen_of key a c.found r.here).here a.waits))

-- its frame is held by the return
pub amidst_returned : {header : Header} {h : ℕ} {k : Parts} {ids : Ids} {gone : List Entry} {who : Woken} {row : PageRow} {memory : HostParts}
    {laundry : LaundryList} {past : List Event} (key : PageKey) (control : ℕ) → Amidst header h k ids gone who past → row.here ≡ true
    → row.unlock_sent ≡ false → Removes key row k.memory memory → SameObjects k.memory.objects memory.objects
    → PutsAbsent key.object.0 key.page.0 false k.memory.objects memory.objects → Fit memory → memory.buffers.size ≡ k.memory.buffers.size
    → laundry.held ≡ k.laundry.held ++ row.frame ∷ [] → laundry.room + 1 ≡ k.laundry.room
    → Amidst header h (record k { memory = memory; laundry = laundry }) ids gone who
    (gives h key control row.dirty false (page_in k.memory.frames row.frame.0) ∷ past)
amidst_returned {header = header} {h = h} {k = k} {row = row} {memory = memory} {laundry = laundry} {past = past} key control a here unsent c objects absent
    fit size held room =
    amidst_given a
    (lost c here unsent objects (kinds_marked header key.object.0 key.page.0 false k.memory.objects memory.objects k.chains objects absent (λ less. refl)
    a.core.objects.kinds) fit size) absent (λ lacked. ap (λ z. record away { asked = not z }) here)
    (laundry_returned key row _ _ k.memory memory k.laundry laundry (returns_out h past) a.core.pages.washed c held room)

-- why it does so

pub drop_follows : {header : Header} {h : ℕ} {outside : Outside} {doing : Command} {k : Parts} {ids : Ids} {gone : List Entry} {who : Woken}
    {past : List Event} (key : PageKey) → (page_on header h key.object.0 key.page.0 past).here ≡ true
    → Amidst header h k ids gone who (drops h key ∷ past)
    → (why : DropCause header doing h key.object.0 key.page.0 (page_on header h key.object.0 key.page.0 past) past)
    → DropsInTurn header doing h key.object.0 key.page.0 (page_on header h key.object.0 key.page.0 past) past why
    → Follows header h outside doing (drops h key) past
drop_follows {header = header} {h = h} {k = k} {past = past} key here a why turn =
    record {
      consequence = tt;
      cause = (record { here = here; why = why }, turn);
      own_bytes = tt;
      frames = suffices header h k.memory.frames (drops h key ∷ past) a.core.pages.counted;
      inner = tt;
      said = tt;
      own = own_named h;
      creates = tt;
    }

-- a changed or precious page goes back with its bytes, to a control that lives
pub return_follows : {header : Header} {h : ℕ} {outside : Outside} {doing : Command} {k k2 : Parts} {ids ids2 : Ids} {gone gone2 : List Entry}
    {who who2 : Woken} {row : PageRow} {keep : Bool} {past : List Event} (key : PageKey) (control : ℕ) → Amidst header h k ids gone who past
    → row_at k.memory.resident key.object.0 key.page.0 ≡ Some row → row.here ≡ true → (row.dirty || row.precious) ≡ true
    → live_in (object_at k.memory.objects key.object.0) ≡ Some control
    → Amidst header h k2 ids2 gone2 who2 (gives h key control row.dirty keep (page_in k.memory.frames row.frame.0) ∷ past)
    → (why : ReturnCause header doing h key.object.0 key.page.0 keep past) → ReturnsInTurn header doing h key.object.0 key.page.0 keep past why
    → Follows header h outside doing (gives h key control row.dirty keep (page_in k.memory.frames row.frame.0)) past
return_follows {header = header} {h = h} {k = k} {k2 = k2} {row = row} {keep = keep} {past = past} key control a found here wanted live after why turn =
    let seen = seen_of key a found here in
    let fits = a.core.fits in
    record {
      consequence = tt;
      cause = (
        record {
          live = a.core.controls.live key.object.0 ∙ live;
          here = seen.here;
          due = rw (seen.dirty, seen.precious) wanted;
          same = sym seen.bytes_are;
          flag = sym seen.dirty;
          why = why;
        },
        turn,
      );
      own_bytes = tt;
      frames =
          suffices header h k2.memory.frames (gives h key control row.dirty keep (page_in k.memory.frames row.frame.0) ∷ past) after.core.pages.counted;
      inner = tt;
      said = (
        refl,
        fits.parts.all_sized row.frame.0 (mark_there k.memory.frames.claims row.frame.0 (fits.parts.held key.object.0 key.page.0 row found))
            ∙ (fits.buffers ∙ a.core.setting.sized),
      );
      own = own_named h;
      creates = tt;
    }
