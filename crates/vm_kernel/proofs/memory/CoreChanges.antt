-- What a kernel's core says once some of its tables have changed, whatever the reason, and the others not.
use Rattle.vm_kernel.proofs.Common.{Bool, ChainTable, Changes, Entry, Event, FrameNo, HasPages, HasUse, Header, HostParts, Ids, IfSome, List, Local, Mapped}
use Rattle.vm_kernel.proofs.Common.{ObjectTable, Option, PageKey, PageRow, Parts, Queues, Rests, SameMarks, WaitTable, Waiting, claimed, reverse, slice_get, ℕ}
use Rattle.vm_kernel.proofs.Common.{◌≡◌}
use Rattle.vm_state.proofs.Filling.{SameFills, uses_refilled}
use Rattle.vm_copies.specs.Copies.{CopyTable}
use Rattle.vm_fault.specs.Faults.{KeepsPlan}
use Rattle.vm_frames.specs.Frames.{FrameTable}
use Rattle.vm_kernel.proofs.memory.PagesShown.{frames_changed, laundry_changed, pages_marked}
use Rattle.vm_kernel.proofs.memory.PartsStillFit.{IsPlainAway, fits_changed}
use Rattle.vm_kernel.specs.Matches.{ControlFacts, Copied, Core, MemoryFacts, Pages, SpaceFacts, Spaces}
use Rattle.vm_pageout.specs.Laundry.{LaundryList}
use Rattle.vm_resident.specs.Resident.{ResidentTable}

-- the tables of a kernel, in another one
abbrev pub with_tables : Parts → Parts → Parts
with_tables k other =
    record other {
      host = k.host;
      size = k.size;
      declared = k.declared;
      memory = k.memory;
      maps = k.maps;
      chains = k.chains;
      copies = k.copies;
      laundry = k.laundry;
      waits = k.waits;
    }

-- a core is of these alone
pub core_within : {header : Header} {h : ℕ} {k : Parts} {ids : Ids} {gone : List Entry} {s : SpaceFacts} {c : ControlFacts} {m : MemoryFacts} (other : Parts)
    → Core header h k ids gone s c m → Core header h (with_tables k other) ids gone s c m
core_within other core =
    record {
      setting = core.setting;
      calm = core.calm;
      fits = core.fits;
      spaces = core.spaces;
      objects = core.objects;
      copied = core.copied;
      controls = core.controls;
      flags = core.flags;
      pages = core.pages;
    }

pub rests_within : {header : Header} {h : ℕ} {k : Parts} {ids : Ids} {past : List Event} (other : Parts) → Rests header h k ids past
    → Rests header h (with_tables k other) ids past
rests_within other rests =
    record {
      matches = record { core = core_within other rests.matches.core; settled = rests.matches.settled; replied = rests.matches.replied };
      used = rests.used;
      referred = rests.referred;
      thin = rests.thin;
      waits = rests.waits;
      order = rests.order;
      idle = rests.idle;
    }

-- the row of a page changes, and no object does
pub core_rerowed : {header : Header} {h : ℕ} {k : Parts} {ids : Ids} {gone : List Entry} {s : SpaceFacts} {c : ControlFacts} {m : MemoryFacts}
    {seen : ℕ → ℕ → Local} {pushed_now : ℕ → ℕ → Bool} {held_now : ℕ} {was now : Option PageRow} {held : Bool} {bytes : List ℕ} {lists : Queues}
    {memory : HostParts} {copies : CopyTable} (key : PageKey) (frame : FrameNo) → Core header h k ids gone s c m
    → Changes key frame was now held bytes lists k.memory memory → KeepsPlan k.memory memory
    → IfSome now IsPlainAway → HasPages memory.frames memory.resident k.memory.objects seen
    → (m.held ≡ claimed k.memory.frames → held_now ≡ claimed memory.frames)
    → Copied copies memory k.chains s.objects pushed_now
    → Core header h (record k { memory = memory; copies = copies }) ids gone s c (record m { seen = seen; pushed = pushed_now; held = held_now })
core_rerowed {header = header} {h = h} {k = k} {m = m} {held_now = held_now} {memory = memory} key frame core changes plan plain pages claims copied =
    record {
      setting = core.setting;
      calm = core.calm;
      fits = fits_changed key frame _ _ _ _ _ k memory core.fits plan.fit plan.buffers changes plain;
      spaces = core.spaces;
      objects = rw plan.objects core.objects;
      copied = copied;
      controls = rw plan.objects core.controls;
      flags = rw plan.objects core.flags;
      pages = record {
        shown = rw plan.objects pages;
        washed = laundry_changed key frame _ _ _ _ _ k.memory memory k.laundry m.out core.pages.washed changes;
        counted =
            frames_changed (slice_get (reverse header.frames.items) h) key frame _ _ _ _ _ k.memory memory m.held held_now m.wired core.pages.counted changes
            claims;
      };
    }

-- other accesses wait, and fill what they filled
pub spaces_refilled : {header : Header} {h : ℕ} {maps : Mapped} {chains : ChainTable} {rows rows2 : List Waiting} {gone : List Entry} {s : SpaceFacts}
    → SameFills rows rows2 → Spaces header h maps chains rows gone s → Spaces header h maps chains rows2 gone s
spaces_refilled {rows = rows} {rows2 = rows2} same spaces =
    record {
      tasks = spaces.tasks;
      entries = spaces.entries;
      shared = spaces.shared;
      uses = uses_refilled rows rows2 same spaces.uses;
      homes = spaces.homes;
    }

-- other accesses wait, and tasks hold other regions
pub core_holds : {header : Header} {h : ℕ} {k : Parts} {ids : Ids} {gone : List Entry} {s : SpaceFacts} {c : ControlFacts} {m : MemoryFacts}
    {holds_at : ℕ → ℕ → Bool} {waits : WaitTable} → Core header h k ids gone s c m
    → HasUse header k.maps waits.rows (s.used_at h) s.made holds_at s.objects.regions_made
    → Core header h (record k { waits = waits }) ids gone (record s { holds_at = holds_at }) c m
core_holds core uses =
    record {
      setting = core.setting;
      calm = core.calm;
      fits = core.fits;
      spaces = record {
        tasks = core.spaces.tasks;
        entries = core.spaces.entries;
        shared = core.spaces.shared;
        uses = uses;
        homes = core.spaces.homes;
      };
      objects = core.objects;
      copied = core.copied;
      controls = core.controls;
      flags = core.flags;
      pages = core.pages;
    }

-- objects are known as before, page by page
pub pages_known_so : {header : Header} {h : ℕ} {frames : FrameTable} {resident : ResidentTable} {os os2 : ObjectTable} {laundry : LaundryList}
    {m : MemoryFacts} → SameMarks os os2 → Pages header h frames resident os laundry m → Pages header h frames resident os2 laundry m
pages_known_so {frames = frames} {resident = resident} {os = os} {os2 = os2} marks pages =
    record { shown = pages_marked frames resident os os2 _ pages.shown marks; washed = pages.washed; counted = pages.counted }
