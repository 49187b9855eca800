-- A page and its frame change, as the calls of the parts change them.
use Rattle.std.proofs.Common.{◌≡◌, ℕ, zero, suc, ◌+◌, ◌/◌, ◌<◌, ◌≤◌, ◌==◌, Bool, true, false, List, [], ◌++◌, get_or, length, set, take, drop, length-append}
use Rattle.std.proofs.Common.{refl, ap, sym, ◌∙◌, arith, Some, None, Option, ◌&&◌}
use Rattle.std.proofs.lemmas.List.{length-drop, length-take, set-get_or}
use Rattle.std.specs.Prelude.{if◌then◌else◌}
use Rattle.vm_base.specs.Pages.{little_endian_bytes, with_bytes}
use Rattle.vm_base.specs.declared.ids.FrameNo.{FrameNo}
use Rattle.vm_base.specs.declared.ids.PageKey.{PageKey}
use Rattle.vm_frames.specs.Frames.{Claims, FrameTable, frame_count, is_claimed, page_in}
use Rattle.vm_frames.specs.Lending.{with_page}
use Rattle.vm_frames.proofs.Spares.{mark_there}
use Rattle.vm_queues.specs.Queues.{LosesPage, Queues, is_queued, queues_except}
use Rattle.vm_resident.specs.Resident.{PutsOwner, PutsRow, owner_of, row_at, ResidentTable, owner_among, row_among}
use Rattle.vm_resident.specs.declared.page_row.PageRow.{PageRow}
use Rattle.vm_parts.specs.Changes.{Changes, Removes, with_frame, led}
use Rattle.vm_parts.specs.Fits.{Fit}
use Rattle.vm_parts.specs.declared.parts.HostParts.{HostParts}
use Rattle.vm_parts.proofs.Rows.{same_case, set_cases}

-- the frame of a page
pub record Holds (frame : ℕ) (parts : HostParts) : Type 0 where
  pub claimed : is_claimed parts.frames frame ≡ true
  pub inside : frame < frame_count parts.frames
  pub there : frame < length parts.frames.pages
  pub queued : frame < parts.queues.frames
  pub sized : length (page_in parts.frames frame) ≡ parts.buffers.size

pub holds : (parts : HostParts) (o p : ℕ) (row : PageRow) → Fit parts → row_at parts.resident o p ≡ Some row → Holds row.frame.0 parts
holds parts o p row fit found =
    let held = fit.held o p row found in
    let inside = mark_there parts.frames.claims row.frame.0 held in
    let pages = fit.pages in
    let count = fit.count in
    record { claimed = held; inside = inside; there = omega arith; queued = omega arith; sized = fit.all_sized row.frame.0 inside }

set_same : {A : Type 0} (xs : List A) (i : ℕ) (x d : A) → get_or xs i d ≡ x → set xs i x ≡ xs
set_same xs i x d is = ap (set xs i) (sym is) ∙ set-get_or xs i d

-- a frame that is claimed has other bytes
filled_frame : (fs : FrameTable) (f : ℕ) (bytes : List ℕ) → is_claimed fs f ≡ true → with_page fs f bytes ≡ with_frame f true bytes fs
filled_frame fs f bytes held =
    ap (λ (z : List Bool). record { pages = set fs.pages f bytes; claims = z; wired = fs.wired }) (sym (set_same fs.claims f true false held))

-- the row of a page has changed, and the bytes of its frame
pub rows_changed : (key : PageKey) (was now : PageRow) (bytes : List ℕ) (lists : Queues) (old new : HostParts) → Fit old
    → row_at old.resident key.object.0 key.page.0 ≡ Some was → now.frame ≡ was.frame
    → PutsRow key.object.0 key.page.0 (Some now) old.resident new.resident → ((f : ℕ) → owner_of new.resident f ≡ owner_of old.resident f)
    → new.frames ≡ with_page old.frames was.frame.0 bytes
    → new.queues ≡ lists → ((g : ℕ) → is_queued new.queues g ≡ (if was.frame.0 == g then now.here else is_queued old.queues g))
    → Changes key was.frame (Some was) (Some now) true bytes lists old new
rows_changed key was now bytes lists old new fit found same row owners frames queues lists_are =
    let f = was.frame.0 in
    let has = holds old key.object.0 key.page.0 was fit found in
    let owned = fit.owned.at key.object.0 key.page.0 was found in
    record {
      found = found;
      was_in = refl;
      inside = has.inside;
      had = has.claimed;
      owned = owned;
      listed = fit.listed key.object.0 key.page.0 was found;
      row = row;
      now_in = same;
      owner = record { at = same_case (owner_of new.resident) (owner_of old.resident) (Some key) f owners owned };
      frames = frames ∙ filled_frame old.frames f bytes has.claimed;
      page = record { at = λ g. ap (λ z. page_in z g) frames ∙ set_cases old.frames.pages f bytes [] has.there g };
      claim = record { at = same_case (is_claimed new.frames) (is_claimed old.frames) true f (λ g. ap (λ z. is_claimed z g) frames) has.claimed };
      claims = rw frames refl;
      left = rw frames refl;
      queues = queues;
      lists_are = lists_are;
    }

-- a page that had no row has one, in a frame that was free
pub claimed_for : (key : PageKey) (frame : FrameNo) (now : PageRow) (bytes : List ℕ) (lists : Queues) (old new : HostParts) (mid : FrameTable) → Fit old
    → row_at old.resident key.object.0 key.page.0 ≡ None → now.frame ≡ frame
    → Claims frame.0 old.frames mid → new.frames ≡ with_page mid frame.0 bytes
    → PutsRow key.object.0 key.page.0 (Some now) old.resident new.resident → PutsOwner frame.0 (Some key) old.resident new.resident
    → new.queues ≡ lists → ((g : ℕ) → is_queued new.queues g ≡ (if frame.0 == g then now.here else is_queued old.queues g))
    → Changes key frame None (Some now) true bytes lists old new
claimed_for key frame now bytes lists old new mid fit absent same claims frames row owner queues lists_are =
    let f = frame.0 in
    let none = fit.unowned f claims.fresh in
    let below : f < length old.frames.pages = let all = fit.pages in let less = claims.inside in omega arith in
    let is : new.frames ≡ with_frame f true bytes old.frames = frames ∙ ap (λ z. with_page z f bytes) claims.is in
    record {
      found = absent;
      was_in = tt;
      inside = claims.inside;
      had = claims.fresh;
      owned = none;
      listed = fit.unlisted f none;
      row = row;
      now_in = same;
      owner = owner;
      frames = is;
      page = record { at = λ g. ap (λ z. page_in z g) is ∙ set_cases old.frames.pages f bytes [] below g };
      claim = record { at = λ g. ap (λ z. is_claimed z g) is ∙ set_cases old.frames.claims f true false claims.inside g };
      claims = rw frames (let more = claims.count in omega arith);
      left = rw frames (let less = claims.left in omega arith);
      queues = queues;
      lists_are = lists_are;
    }

-- a page has gone, and its frame stays claimed
pub removes : (key : PageKey) (row : PageRow) (old new : HostParts) → Fit old → row_at old.resident key.object.0 key.page.0 ≡ Some row → new.frames ≡ old.frames
    → PutsRow key.object.0 key.page.0 None old.resident new.resident → PutsOwner row.frame.0 None old.resident new.resident
    → new.queues ≡ queues_except row.frame.0 old.queues → LosesPage row.frame.0 old.queues new.queues → Removes key row old new
removes key row old new fit found frames put owner queues loses =
    let f = row.frame.0 in
    let has = holds old key.object.0 key.page.0 row fit found in
    let page = page_in old.frames f in
    record {
      found = found;
      was_in = refl;
      inside = has.inside;
      had = has.claimed;
      owned = fit.owned.at key.object.0 key.page.0 row found;
      listed = fit.listed key.object.0 key.page.0 row found;
      row = put;
      now_in = tt;
      owner = owner;
      frames =
          frames ∙ (ap (λ z. record old.frames { pages = z }) (sym (set_same old.frames.pages f page [] refl)) ∙ filled_frame old.frames f page has.claimed);
      page = record { at = same_case (page_in new.frames) (page_in old.frames) page f (λ g. ap (λ z. page_in z g) frames) refl };
      claim = record { at = same_case (is_claimed new.frames) (is_claimed old.frames) true f (λ g. ap (λ z. is_claimed z g) frames) has.claimed };
      claims = rw frames refl;
      left = rw frames refl;
      queues = queues;
      lists_are = loses;
    }

-- bytes put into a page leave its length
length_bytes : (n value : ℕ) → length (little_endian_bytes n value) ≡ n
length_bytes zero value = refl
length_bytes (suc n) value = omega (arith, length_bytes n (value / 256))

pub length_with : (at n value : ℕ) (page : List ℕ) → at + n ≤ length page → length (with_bytes at (little_endian_bytes n value) page) ≡ length page
length_with at n value page fits =
    let bytes = little_endian_bytes n value in
    let count = length_bytes n value in
    let front = length-take at page in
    let back = length-drop (at + length bytes) page in
    let first = length-append (take at page ++ bytes) (drop (at + length bytes) page) in
    let second = length-append (take at page) bytes in
    let whole : length (take at page ++ bytes) + length (drop (at + length bytes) page) ≡ length page = omega arith in
    first ∙ whole

-- a page changes the same where more rows have room
pub changes_roomier : (key : PageKey) (frame : FrameNo) (was now : Option PageRow) (held : Bool) (bytes : List ℕ) (lists : Queues) (old new : HostParts)
    (rs : ResidentTable) → rs.rows ≡ old.resident.rows
    → Changes key frame was now held bytes lists (record old { resident = rs }) new → Changes key frame was now held bytes lists old new
changes_roomier key frame was now held bytes lists old new rs rows c =
    record {
      found = sym (ap (row_among key.object.0 key.page.0) rows) ∙ c.found;
      was_in = c.was_in;
      inside = c.inside;
      had = c.had;
      owned = sym (ap (owner_among frame.0) rows) ∙ c.owned;
      listed = c.listed;
      row = record { at = λ o p. c.row.at o p ∙ ap (λ z. if key.object.0 == o && key.page.0 == p then now else row_among o p z) rows };
      now_in = c.now_in;
      owner = record { at = λ g. c.owner.at g ∙ ap (λ z. if frame.0 == g then led key now else owner_among g z) rows };
      frames = c.frames;
      page = c.page;
      claim = c.claim;
      claims = c.claims;
      left = c.left;
      queues = c.queues;
      lists_are = c.lists_are;
    }
