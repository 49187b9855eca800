-- A page obeys a lock request: what the kernel stands for behind that.
use Rattle.vm_kernel.proofs.Common.{AllReferred, Bool, ChainTable, Changes, Command, Discards, Does, Event, Fit, HasKinds, Header, HostParts, Ids, IsReferred}
use Rattle.vm_kernel.proofs.Common.{IsSettled, LaundryList, List, Local, None, ObjectId, ObjectRow, ObjectTable, Outside, PageKey, PageNo, PageRow, Parts}
use Rattle.vm_kernel.proofs.Common.{PutsAbsent, Queues, ResidentTable, SameObjects, Some, Up, Works, [], absent_at, ap, arith, false, frame_here, frames_held}
use Rattle.vm_kernel.proofs.Common.{frames_wired, host_id, if◌then◌else◌, inr, local, local_of_row, nat_tests, not, object_at, page_in, paging, place_of}
use Rattle.vm_kernel.proofs.Common.{queues_except, refl, returns_out, reverse, slice_get, some_is, subst, sym, true, ℕ, ◌&&◌, ◌++◌, ◌+◌, ◌==◌, ◌||◌, ◌∙◌, ◌∷◌}
use Rattle.vm_kernel.proofs.Common.{◌≡◌}
use Rattle.vm_kernel.proofs.controls.AnswerEffects.{hears}
use Rattle.vm_kernel.proofs.memory.PartsStillFit.{plain_here}
use Rattle.vm_kernel.proofs.steps.EventsGrow.{Follows}
use Rattle.vm_kernel.proofs.controls.WordTaken.{may_lock}
use Rattle.vm_kernel.proofs.memory.PagesShown.{bytes_now, frames_changed, laundry_changed, pages_changed, shown_same}
use Rattle.vm_kernel.proofs.lists.ListsAsTold.{frames_kept, same_paging}
use Rattle.vm_kernel.proofs.space.ObjectEnds.{leaves_lists}
use Rattle.vm_kernel.proofs.space.StillThin.{thin_same}
use Rattle.vm_kernel.specs.Plays.{AsLocked, DepartsLocked}
use Rattle.vm_legal.specs.Licences.{Flushed, IsLocked, Wanted, gives_back}
use Rattle.vm_merge.specs.Merges.{IsThin}
use Rattle.vm_parts.specs.Changes.{Relocks, Removes, relocked}
use Rattle.vm_state.proofs.Declared.{kinds_marked}
use Rattle.vm_state.proofs.Referred.{referred_gone, referred_row}
use Rattle.vm_state.proofs.Waiting.{here_unawaited}
use Rattle.vm_state.specs.Places.{known_local}
use Rattle.vm_kernel.proofs.memory.ComesForAccess.{same_lock}
use Rattle.vm_kernel.specs.Matches.{Amidst, IsReplied}
use Rattle.vm_kernel.proofs.memory.PageChanges.{Rerows, amidst_given, amidst_gone, amidst_moved, amidst_returned, drop_follows, drops, fit_lost, fit_rerowed}
use Rattle.vm_kernel.proofs.memory.PageChanges.{gives, leaves_all, live_at, matches_of, moved_of, return_follows, same_objects, seen_of}
use Rattle.vm_model.specs.declared.event.Event.TheVariants as event
use Rattle.vm_model.specs.declared.message.Message.TheVariants as message
use Rattle.vm_supply.specs.declared.woken.Woken.TheVariants as woken

-- The kernel while it does a lock request: the reply may be owed.
pub record Mid (header : Header) (h : ℕ) (k : Parts) (ids : Ids) (past : List Event) : Type 0 where
  pub runs : Amidst header h k ids [] woken.Nobody past
  pub settled : IsSettled past
  pub referred : AllReferred k.chains k.memory.objects k.memory.resident
  pub thin : IsThin k.copies k.chains k.memory.objects

-- with the reply it is as it was
pub works_mid : {header : Header} {h : ℕ} {k : Parts} {ids : Ids} {past : List Event} → Mid header h k ids past → IsReplied header past
    → Works header h k ids woken.Nobody past
works_mid {k = k} m replied =
    record {
      matches = matches_of k m.runs m.settled replied;
      used = m.runs.used;
      referred = m.referred;
      thin = m.thin;
      waits = m.runs.waits;
      order = m.runs.order;
    }

-- the pager is told that all is done
abbrev pub completed : ℕ → ObjectId → ℕ → PageNo → ℕ → Event
completed h object control page count = event.Sent (Up (host_id h) object) (message.Completed control page count)

-- what a page comes to with an event: the kernel rests, the event has its cause, and the lists of pages are as it says
pub record ComesTo (header : Header) (h : ℕ) (outside : Outside) (doing : Command) (ids : Ids) (e : Event) (k k2 : Parts) (past : List Event) : Type 0 where
  pub rests : Mid header h k2 ids (e ∷ past)
  pub follows : Follows header h outside doing e past
  pub does : Does header past e (paging k) (paging k2)

-- a page over which the request is goes off the lists
departs : {h : ℕ} {past : List Event} {returns : ℕ} {flush : Bool} (k : Parts) (key : PageKey) (row : PageRow) (held : Bool) (bytes : List ℕ)
    (memory : HostParts) (laundry : LaundryList) → IsLocked h key.object.0 key.page.0 returns flush past → row.here ≡ true
    → Changes key row.frame (Some row) None held bytes (queues_except row.frame.0 k.memory.queues) k.memory memory
    → DepartsLocked h past key.object.0 key.page.0 (paging k) (paging (record k { memory = memory; laundry = laundry }))
departs k key row held bytes memory laundry locked is_here c =
    let from = locked.from in
    let below = locked.below in
    record {
      request = _;
      taken = locked.taken;
      of = (refl, refl);
      over = grind (arith, nat_tests, from, below);
      departs = leaves_lists k key row held bytes memory is_here c;
    }

-- it is dropped
pub comes_dropped : (header : Header) (h : ℕ) (outside : Outside) (doing : Command) (ids : Ids) (k : Parts) (memory : HostParts) (key : PageKey) (row : PageRow)
    (past : List Event) (returns : ℕ) → Mid header h k ids past → IsLocked h key.object.0 key.page.0 returns true past
    → gives_back returns row.dirty row.precious ≡ false → row.here ≡ true → row.unlock_sent ≡ false → Discards key row k.memory memory
    → memory.objects ≡ k.memory.objects → memory.buffers ≡ k.memory.buffers
    → ComesTo header h outside doing ids (drops h key) k (record k { memory = memory }) past
comes_dropped header h outside doing ids k memory key row past returns m locked spared here unsent c objects buffers =
    let after = amidst_gone key m.runs here unsent c objects (fit_lost m.runs.core.fits.parts c (same_objects objects) buffers) (ap (λ z. z.size) buffers) in
    let seen = seen_of key m.runs c.found here in
    record {
      rests = record {
        runs = after;
        settled = record { none_owed = refl; shut = λ region. refl };
        referred = rw objects (referred_gone key.object.0 key.page.0 k.chains k.memory.objects k.memory.resident memory.resident c.row m.referred);
        thin = rw objects m.thin;
      };
      follows = drop_follows key seen.here after (Flushed returns locked (rw (seen.dirty, seen.precious) spared)) tt;
      does = AsLocked (departs k key row false _ memory k.laundry locked here c);
    }

-- the request is taken
abbrev pub asks : ℕ → ObjectId → ℕ → PageNo → ℕ → ℕ → Bool → ℕ → Bool → Event
asks h object control page count returns flush lock reply = hears h object control (message.Lock page count returns flush lock reply)

-- what is to be given back is changed, or precious
changed_due : (returns : ℕ) (dirty precious : Bool) → gives_back returns dirty precious ≡ true → (dirty || precious) ≡ true
changed_due returns true precious wanted = refl
changed_due returns false true wanted = refl
changed_due returns false false wanted = absurd (none (returns == 1) (returns == 2) wanted)
  where
    none : (a b : Bool) → ((a && false) || (b && (false || false))) ≡ true → ⊥
    none true true is = let bad : false ≡ true = is in cc
    none true false is = let bad : false ≡ true = is in cc
    none false true is = let bad : false ≡ true = is in cc
    none false false is = let bad : false ≡ true = is in cc

referred_same : (cs : ChainTable) (os os2 : ObjectTable) (rs : ResidentTable) → SameObjects os os2 → AllReferred cs os rs → AllReferred cs os2 rs
referred_same cs os os2 rs same all = record {
  live = λ o known found. all.live o known (sym (same.at o) ∙ found);
  pages = λ o p row found. still o (all.pages o p row found);
  locks = λ o p row found. may_lock os os2 o row same (all.locks o p row found);
  shadows = λ o row found. still o (all.shadows o row found);
}
  where
    still : (o : ℕ) → IsReferred os o → IsReferred os2 o
    still o is = record { row = is.row; known = same.at o ∙ is.known; some = is.some }

-- it is returned, and goes
pub comes_returned : (header : Header) (h : ℕ) (outside : Outside) (doing : Command) (ids : Ids) (k : Parts) (memory : HostParts) (laundry : LaundryList)
    (key : PageKey) (row : PageRow) (known : ObjectRow) (past : List Event) (returns : ℕ) → Mid header h k ids past
    → IsLocked h key.object.0 key.page.0 returns true past → gives_back returns row.dirty row.precious ≡ true → row.here ≡ true
    → object_at k.memory.objects key.object.0 ≡ Some known → known.live ≡ true → row.unlock_sent ≡ false → Removes key row k.memory memory
    → SameObjects k.memory.objects memory.objects
    → PutsAbsent key.object.0 key.page.0 false k.memory.objects memory.objects → memory.buffers ≡ k.memory.buffers
    → laundry.held ≡ k.laundry.held ++ row.frame ∷ [] → laundry.room + 1 ≡ k.laundry.room
    → ComesTo header h outside doing ids (gives h key known.control row.dirty false (page_in k.memory.frames row.frame.0)) k
    (record k { memory = memory; laundry = laundry }) past
comes_returned header h outside doing ids k memory laundry key row known past returns m locked wanted here object live unsent c objects absent buffers held
    room =
    let after = amidst_returned key known.control m.runs here unsent c objects absent (fit_lost m.runs.core.fits.parts c objects buffers)
    (ap (λ z. z.size) buffers) held room in
    let seen = seen_of key m.runs c.found here in
    record {
      rests = record {
        runs = after;
        settled = record { none_owed = refl; shut = λ region. refl };
        referred =
            referred_same k.chains k.memory.objects memory.objects memory.resident objects
            (referred_gone key.object.0 key.page.0 k.chains k.memory.objects k.memory.resident memory.resident c.row m.referred);
        thin = thin_same k.chains k.memory.objects memory.objects objects m.thin;
      };
      follows =
          return_follows key known.control m.runs c.found here (changed_due returns _ _ wanted) (live_at k.memory.objects key.object.0 object live) after
          (Wanted returns true locked (rw (seen.dirty, seen.precious) wanted) refl) tt;
      does = inr (inr (departs k key row true _ memory laundry locked here c));
    }

-- what it shows with another row, here too, in the same frame

shown_relocked : (key : PageKey) (row : PageRow) (saved lacked : Bool) (lists : Queues) (old new : HostParts) → row.unlock_sent ≡ false
    → Changes key row.frame (Some row) (Some (relocked None saved row)) true (page_in old.frames row.frame.0) lists old new → row.here ≡ true
    → record (local_of_row old.frames (Some row) lacked) { dirty = not saved && row.dirty; precious = not saved && row.precious } ≡ local_of_row new.frames
    (Some (relocked None saved row)) lacked
shown_relocked key row saved lacked lists old new unsent c here =
    ap (λ (z : Local). record z { dirty = not saved && row.dirty; precious = not saved && row.precious })
    (shown_same old.frames new.frames (Some row) lacked (λ r is. subst (λ (z : PageRow). page_in new.frames z.frame.0 ≡ page_in old.frames z.frame.0)
    (some_is row r is) (bytes_now key row.frame _ _ _ _ _ old new c)))
    ∙ (ap (λ z. record (local_of_row new.frames (Some row) lacked) { dirty = not saved && row.dirty; precious = not saved && row.precious; unlocking = z })
    unsent
    ∙ ap (λ b. record (local_of_row new.frames (Some row) lacked) {
      dirty = if b then not saved && row.dirty else false;
      precious = not saved && row.precious;
      unlocking = false;
    }) (sym here))

rerows_relocked : (header : Header) (k : Parts) (key : PageKey) (row : PageRow) (saved : Bool) (memory : HostParts) → Fit k.memory → row.here ≡ true
    → row.unlock_sent ≡ false → Relocks key row None saved k.memory memory → SameObjects k.memory.objects memory.objects
    → HasKinds header memory.objects k.chains → memory.buffers ≡ k.memory.buffers
    → Rerows header k key row (Some (relocked None saved row)) true k.memory.queues memory
rerows_relocked header k key row saved memory fit here unsent c objects kinds buffers = record {
  changes = c;
  here = here;
  unsent = unsent;
  plain = plain_here (relocked None saved row) here;
  unasked = here_unawaited (Some (relocked None saved row)) (relocked None saved row) refl here refl;
  objects = objects;
  kinds = kinds;
  fit = fit_rerowed fit c (λ some. refl) refl objects buffers;
  size = ap (λ z. z.size) buffers;
}

referred_relocked : (k : Parts) (key : PageKey) (row : PageRow) (saved : Bool) (memory : HostParts) → Relocks key row None saved k.memory memory
    → SameObjects k.memory.objects memory.objects → AllReferred k.chains k.memory.objects k.memory.resident
    → AllReferred k.chains memory.objects memory.resident
referred_relocked k key row saved memory c objects all =
    let o = key.object.0 in
    let p = key.page.0 in
    referred_same k.chains k.memory.objects memory.objects memory.resident objects
    (referred_row o p (Some (relocked None saved row)) k.chains k.memory.objects k.memory.resident memory.resident c.row
    (λ z is. (all.pages o p row c.found, same_lock k.memory.objects o row (relocked None saved row) z refl is (all.locks o p row c.found))) all)

-- the lists stay as they are
lists_stay : (k : Parts) (key : PageKey) (row : PageRow) (saved : Bool) (memory : HostParts) (laundry : LaundryList)
    → Relocks key row None saved k.memory memory → paging (record k { memory = memory; laundry = laundry }) ≡ paging k
lists_stay k key row saved memory laundry c =
    same_paging _ _ _ _ (frames_kept k.memory.resident memory.resident key.object.0 key.page.0 (Some (relocked None saved row)) c.row
    (sym (ap frame_here c.found))) c.queues

-- it is returned, and a copy stays
pub comes_saved : (header : Header) (h : ℕ) (outside : Outside) (doing : Command) (ids : Ids) (k : Parts) (memory : HostParts) (key : PageKey) (row : PageRow)
    (known : ObjectRow) (past : List Event) (returns : ℕ) → Mid header h k ids past
    → IsLocked h key.object.0 key.page.0 returns false past → gives_back returns row.dirty row.precious ≡ true → row.here ≡ true
    → object_at k.memory.objects key.object.0 ≡ Some known → known.live ≡ true → row.unlock_sent ≡ false → Relocks key row None true k.memory memory
    → SameObjects k.memory.objects memory.objects
    → PutsAbsent key.object.0 key.page.0 false k.memory.objects memory.objects → memory.buffers ≡ k.memory.buffers
    → ComesTo header h outside doing ids (gives h key known.control row.dirty true (page_in k.memory.frames row.frame.0)) k (record k { memory = memory }) past
comes_saved header h outside doing ids k memory key row known past returns m locked wanted here object live unsent c objects absent buffers =
    let kinds = kinds_marked header key.object.0 key.page.0 false k.memory.objects memory.objects k.chains objects absent (λ less. refl)
    m.runs.core.objects.kinds in
    let after : Amidst header h (record k { memory = memory }) ids [] woken.Nobody
    (gives h key known.control row.dirty true (page_in k.memory.frames row.frame.0) ∷ past) =
    amidst_given m.runs (rerows_relocked header k key row true memory m.runs.core.fits.parts here unsent c objects kinds buffers) absent
    (λ lacked. shown_relocked key row true false k.memory.queues k.memory memory unsent c here)
    (laundry_changed key row.frame _ _ _ _ _ k.memory memory k.laundry (returns_out h past) m.runs.core.pages.washed c) in
    let seen = seen_of key m.runs c.found here in
    record {
      rests =
          record {
            runs = after;
            settled = record { none_owed = refl; shut = λ region. refl };
            referred = referred_relocked k key row true memory c objects m.referred;
            thin = thin_same k.chains k.memory.objects memory.objects objects m.thin;
          };
      follows =
          return_follows key known.control m.runs c.found here (changed_due returns _ _ wanted) (live_at k.memory.objects key.object.0 object live) after
          (Wanted returns false locked (rw (seen.dirty, seen.precious) wanted) refl) tt;
      does = lists_stay k key row true memory k.laundry c;
    }

-- or it stays as it is
pub record StaysPut (header : Header) (h : ℕ) (ids : Ids) (k k2 : Parts) (past : List Event) : Type 0 where
  pub rests : Mid header h k2 ids past
  pub same : paging k2 ≡ paging k

pub comes_still : (header : Header) (h : ℕ) (ids : Ids) (k : Parts) (memory : HostParts) (key : PageKey) (row : PageRow) (past : List Event)
    → Mid header h k ids past → row.here ≡ true → row.unlock_sent ≡ false → Relocks key row None false k.memory memory → memory.objects ≡ k.memory.objects
    → memory.buffers ≡ k.memory.buffers
    → StaysPut header h ids k (record k { memory = memory }) past
comes_still header h ids k memory key row past m here unsent c objects buffers =
    let o = key.object.0 in
    let p = key.page.0 in
    let core = m.runs.core in
    let same = same_objects objects in
    let seen = λ (o2 p2 : ℕ). known_local header o2 p2 (local header h (place_of o2 p2) past) in
    record {
      rests = record {
        runs = amidst_moved m.runs leaves_all
            (moved_of (rerows_relocked header k key row false memory core.fits.parts here unsent c same (rw objects core.objects.kinds) buffers) core.fits
            (record {
              shown =
                  pages_changed key row.frame _ _ _ _ _ k.memory memory memory.objects seen seen core.fits.parts core.pages.shown c
                  (λ was. was ∙ (ap (λ b. record (local_of_row k.memory.frames (Some row) (absent_at k.memory.objects o p)) {
                    dirty = if b then row.dirty else false;
                  }) here ∙ (shown_relocked key row false (absent_at k.memory.objects o p) k.memory.queues k.memory memory unsent c here
                  ∙ ap (λ z. local_of_row memory.frames (Some (relocked None false row)) (absent_at z o p)) (sym objects))))
                  (λ o2 p2 apart. (refl, ap (λ z. absent_at z o2 p2) objects));
              washed = laundry_changed key row.frame _ _ _ _ _ k.memory memory k.laundry (returns_out h past) core.pages.washed c;
              counted =
                  frames_changed (slice_get (reverse header.frames.items) h) key row.frame _ _ _ _ _ k.memory memory (frames_held header h past)
                  (frames_held header h past) (frames_wired h past) core.pages.counted c (λ held. let less = c.claims in omega arith);
            }) m.runs.waits);
        settled = m.settled;
        referred = referred_relocked k key row false memory c same m.referred;
        thin = rw objects m.thin;
      };
      same = lists_stay k key row false memory k.laundry c;
    }
