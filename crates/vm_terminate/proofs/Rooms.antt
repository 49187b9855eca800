-- What an object's end uses of the room.
use Rattle.std.proofs.Common.{◌≡◌, ◌∙◌, ℕ, suc, ◌+◌, ◌<◌, ◌≤◌, Bool, true, false, Option, if◌then◌else◌, length, refl, ap, arith}
use Rattle.vm_base.specs.declared.ids.HostId.{HostId}
use Rattle.vm_base.specs.declared.ids.ObjectId.{ObjectId}
use Rattle.vm_base.specs.declared.ids.PageKey.{PageKey}
use Rattle.vm_objects.specs.declared.row.ObjectRow.{ObjectRow}
use Rattle.vm_parts.specs.Listed.{listed_pages}
use Rattle.vm_parts.specs.declared.parts.HostParts.{HostParts}
use Rattle.vm_resident.specs.declared.page_row.PageRow.{PageRow}
use Rattle.vm_shadow.specs.Chains.{ChainTable}
use Rattle.vm_terminate.proofs.Leaving.{has_gone}
use Rattle.vm_terminate.proofs.Living.{ending_takes, leaving_keeps, same_below}
use Rattle.vm_terminate.proofs.Walking.{IsBare, both_have_ended, pages_have_left, still_known}
use Rattle.vm_terminate.specs.Counts.{UsesRoom, is_live_row, live_below}
use Rattle.vm_terminate.specs.Finishes.{ControlEnds, FinishState, GoesBack, IsDropped, IsTold, Next, NoControl, NoMore, PageLeaves, PagesLeave}
use Rattle.vm_terminate.specs.Steps.{Ends, LeavesUnder, Nothing, Stays}

pub uses_none : (n : ℕ) (parts : HostParts) (chains : ChainTable) (room : ℕ) → UsesRoom n parts parts chains chains room room
uses_none n parts chains room =
    record {
      log = omega arith;
      buffers = omega arith;
      rows = omega arith;
      objects = omega arith;
      shadows = omega arith;
      marked = refl;
      fewer = omega arith;
      live = omega arith;
    }

-- What the calls of a turn say of the room: the pages of an object leave, its control ends, and what stood under it loses a reference.
pub record TakesTurn (known : ObjectRow) (now bare new : FinishState) (room room_bare room_quiet : ℕ) : Type 0 where
  pub log : room + listed_pages bare.parts.queues ≤ room_bare + listed_pages now.parts.queues
  pub told : room_bare ≤ room_quiet + 1
  pub silent : known.live ≡ false → room_bare ≤ room_quiet
  pub buffers : now.parts.buffers.count + listed_pages bare.parts.queues ≤ new.parts.buffers.count + listed_pages now.parts.queues
  pub rows : now.parts.resident.spare ≤ new.parts.resident.spare
  pub objects : now.parts.objects.rows ≤ new.parts.objects.rows
  pub shadows : now.chains.spare ≤ new.chains.spare
  pub marked : new.chains.marked ≡ now.chains.marked
  pub fewer : listed_pages bare.parts.queues ≤ listed_pages now.parts.queues

leaving_queues : (object : ObjectId) (next : Option ObjectId) (old new : FinishState) → LeavesUnder object next old new → new.parts.queues ≡ old.parts.queues
leaving_queues object next old new (Nothing none no_shadow same) = ap (λ z. z.parts.queues) same
leaving_queues object next old new (Stays row known left none loses some) = ap (λ z. z.parts.queues) loses.rest
leaving_queues object next old new (Ends row known goes loses less) = ap (λ z. z.parts.queues) loses.rest

-- the controls that live when the pages of an object have left
pub leaving_lives : (host : HostId) (object : ObjectId) (known : ObjectRow) (now bare quiet silent : FinishState)
    → IsBare host object known now bare quiet silent → (n : ℕ) → live_below bare.parts.objects n ≡ live_below now.parts.objects n
leaving_lives host object known now bare quiet silent ends n =
    let left = pages_have_left host object known 0 now bare ends.pages in
    same_below now.parts.objects bare.parts.objects n (λ o less. ap is_live_row (left.objects o))

-- a place in the log at most, where a control ends
told_one : (live : Bool) (room_bare room_quiet : ℕ) → room_bare ≤ room_quiet + 1 → (live ≡ false → room_bare ≤ room_quiet)
    → room_bare ≤ room_quiet + (if live then 1 else 0)
told_one true room_bare room_quiet told silent = told
told_one false room_bare room_quiet told silent = let none = silent refl in omega arith

-- what a turn uses, behind what was used before
pub turn_uses : (host : HostId) (ending : ObjectId) (next : Option ObjectId) (known : ObjectRow) (start : HostParts) (chains : ChainTable)
    (now bare quiet silent new : FinishState) (before room room_bare room_quiet n : ℕ) → ending.0 < n
    → IsBare host ending known now bare quiet silent → LeavesUnder ending next silent new → TakesTurn known now bare new room room_bare room_quiet
    → UsesRoom n start now.parts chains now.chains before room
    → UsesRoom n start new.parts chains new.chains before room_quiet
turn_uses host ending next known start chains now bare quiet silent new before room room_bare room_quiet n less ends leaves turn uses =
    let queues : new.parts.queues ≡ bare.parts.queues = leaving_queues ending next silent new leaves
    ∙ (both_have_ended host ending known now bare quiet silent ends).queues in
    let pages : listed_pages new.parts.queues ≡ listed_pages bare.parts.queues = ap listed_pages queues in
    let first = leaving_lives host ending known now bare quiet silent ends n in
    let second = ending_takes host ending known bare quiet ends.control (still_known host ending known now bare ends.known_is ends.pages) n less in
    let third = leaving_keeps ending next silent new leaves n ∙ ap (λ z. live_below z.parts.objects n) ends.rest in
    let told = told_one known.live room_bare room_quiet turn.told turn.silent in
    record {
      log = omega (arith, pages, first, second, third, told, turn.log, uses.log);
      buffers = omega (arith, pages, turn.buffers, uses.buffers);
      rows = omega (arith, turn.rows, uses.rows);
      objects = omega (arith, turn.objects, uses.objects);
      shadows = omega (arith, turn.shadows, uses.shadows);
      marked = turn.marked ∙ uses.marked;
      fewer = omega (arith, pages, turn.fewer, uses.fewer);
      live = omega (arith, first, second, third, uses.live);
    }

page_told : (host : HostId) (key : PageKey) (known : ObjectRow) (row : PageRow) (old new : FinishState) → PageLeaves host key known row old new
    → length new.events ≡ length old.events + 1
page_told host key known row old new (IsDropped why page objects held room events) = rw events (omega arith)
page_told host key known row old new (GoesBack declared wanted page objects present held room events) = rw events (omega arith)

-- of each page that leaves one event tells
pages_told : (host : HostId) (object : ObjectId) (known : ObjectRow) (from : ℕ) (old new : FinishState) → PagesLeave host object known from old new
    → length new.events + listed_pages new.parts.queues ≤ length old.events + listed_pages old.parts.queues
pages_told host object known _ _ _ (NoMore from s none) = omega arith
pages_told host object known _ _ _ (Next from page row old mid new low first found here chains copies leaves more) =
    let rest = pages_told host object known (suc page.0) mid new more in
    let gone = has_gone host (record { object = object; page = page }) known row old mid here leaves in
    let lists = gone.lists in
    let told = page_told host (record { object = object; page = page }) known row old mid leaves in
    omega (arith, rest, lists, told)

control_told : (host : HostId) (object : ObjectId) (known : ObjectRow) (old new : FinishState) → ControlEnds host object known old new
    → length new.events ≡ length old.events + (if known.live then 1 else 0)
control_told host object known old new (NoControl dead same) = rw (same, dead) (omega arith)
control_told host object known old new (IsTold live keeps put events) = rw (events, live) (omega arith)

leaving_told : (object : ObjectId) (next : Option ObjectId) (old new : FinishState) → LeavesUnder object next old new → new.events ≡ old.events
leaving_told object next old new (Nothing none no_shadow same) = ap (λ z. z.events) same
leaving_told object next old new (Stays row known left none loses some) = ap (λ z. z.events) loses.rest
leaving_told object next old new (Ends row known goes loses less) = ap (λ z. z.events) loses.rest

-- what a turn tells: one event for each page that leaves, and for a control that ends
pub turn_told : (host : HostId) (ending : ObjectId) (next : Option ObjectId) (known : ObjectRow) (now bare quiet silent new : FinishState) (n : ℕ)
    → ending.0 < n → IsBare host ending known now bare quiet silent → LeavesUnder ending next silent new
    → length new.events + (listed_pages new.parts.queues + live_below new.parts.objects n) ≤ length
    now.events + (listed_pages now.parts.queues + live_below now.parts.objects n)
turn_told host ending next known now bare quiet silent new n less ends leaves =
    let queues : new.parts.queues ≡ bare.parts.queues = leaving_queues ending next silent new leaves
    ∙ (both_have_ended host ending known now bare quiet silent ends).queues in
    let pages : listed_pages new.parts.queues ≡ listed_pages bare.parts.queues = ap listed_pages queues in
    let first = leaving_lives host ending known now bare quiet silent ends n in
    let second = ending_takes host ending known bare quiet ends.control (still_known host ending known now bare ends.known_is ends.pages) n less in
    let third = leaving_keeps ending next silent new leaves n ∙ ap (λ z. live_below z.parts.objects n) ends.rest in
    let left = pages_told host ending known 0 now bare ends.pages in
    let control = control_told host ending known bare quiet ends.control in
    let same : length new.events ≡ length quiet.events = ap length (leaving_told ending next silent new leaves ∙ ap (λ z. z.events) ends.rest) in
    omega (arith, pages, first, second, third, left, control, same)
