-- There is room for the frames of all pages that are here: each stands on the lists once, and none of them is held by a return.
use Rattle.vm_kernel.proofs.Common.{Bool, EachApart, Fit, FrameNo, FrameTable, HasLaundry, HostParts, LaundryList, List, None, Option, Page, PageKey}
use Rattle.vm_kernel.proofs.Common.{ResidentTable, Some, [], ap, arith, claimed, false, frame_count, has_page, is_claimed, is_queued, is_skipped, length}
use Rattle.vm_kernel.proofs.Common.{length-append, owner_of, refl, sym, true, ℕ, ◌++◌, ◌+◌, ◌==◌, ◌||◌, ◌∙◌, ◌∷◌, ◌≡◌, ◌≤◌}
use Rattle.vm_queues.specs.Queues.{EachOnce}
use Rattle.vm_kernel.proofs.memory.FramesWashed.{each_counted, unheld, washed_at}
use Rattle.std.proofs.lemmas.Bool.{or_from, or_left, or_right}
use Rattle.std.proofs.Math.Bool.{or_assoc}
use Rattle.vm_kernel.proofs.memory.PagesShown.{itself}

-- the frames of pages, and some behind them
abbrev frames_of : List Page → List FrameNo → List FrameNo
frames_of [] held = held
frames_of (page ∷ pages) held = record { 0 = page.frame } ∷ frames_of pages held

skipped_of : (pages : List Page) (held : List FrameNo) (g : ℕ) → is_skipped (frames_of pages held) g ≡ (has_page pages g || is_skipped held g)
skipped_of [] held g = refl
skipped_of (page ∷ pages) held g =
    ap (λ b. (page.frame == g) || b) (skipped_of pages held g) ∙ sym (or_assoc (page.frame == g) (has_page pages g) (is_skipped held g))

length_of : (pages : List Page) (held : List FrameNo) → length (frames_of pages held) ≡ length pages + length held
length_of [] held = omega arith
length_of (page ∷ pages) held = omega (arith, length_of pages held)

apart_of : (pages : List Page) (held : List FrameNo) → ((g : ℕ) → has_page pages g ≡ true → is_skipped held g ≡ false) → EachOnce pages → EachApart held
    → EachApart (frames_of pages held)
apart_of [] held other once apart = apart
apart_of (page ∷ pages) held other once apart = (
  skipped_of pages held page.frame ∙ or_from (has_page pages page.frame) (is_skipped held page.frame) once.0
      (other page.frame (or_left (page.frame == page.frame) (has_page pages page.frame) (itself page.frame))),
  apart_of pages held (λ g there. other g (or_right (page.frame == g) (has_page pages g) there)) once.1 apart,
)

-- the frame of a page that is here is claimed, and leads to a page
record IsHeldByPage (fs : FrameTable) (rs : ResidentTable) (g : ℕ) : Type 0 where
  key : PageKey
  owner : owner_of rs g ≡ Some key
  claimed : is_claimed fs g ≡ true

held_by_page : (parts : HostParts) (g : ℕ) → Fit parts → is_queued parts.queues g ≡ true → IsHeldByPage parts.frames parts.resident g
held_by_page parts g fit there = go (owner_of parts.resident g) refl
  where
    mine : (b : Bool) (key : PageKey) → is_claimed parts.frames g ≡ b → owner_of parts.resident g ≡ Some key → is_claimed parts.frames g ≡ true
    mine true key is owner = is
    mine false key is owner = absurd (let bad : None ≡ Some key = sym (fit.unowned g is) ∙ owner in cc)

    go : (x : Option PageKey) → owner_of parts.resident g ≡ x → IsHeldByPage parts.frames parts.resident g
    go None none = absurd (let bad : false ≡ true = sym (fit.unlisted g none) ∙ there in cc)
    go (Some key) owner = record { key = key; owner = owner; claimed = mine (is_claimed parts.frames g) key refl owner }

pub room_once : (parts : HostParts) (laundry : LaundryList) (out : ℕ) → Fit parts → HasLaundry parts.frames parts.resident laundry out
    → claimed parts.frames ≤ frame_count parts.frames → EachOnce (parts.queues.inactive ++ parts.queues.active)
    → length parts.queues.active + length parts.queues.inactive ≤ laundry.room
room_once parts laundry out fit has most once =
    let count = each_counted parts.frames.claims (frames_of pages laundry.held) all (apart_of pages laundry.held other once has.apart) in
    let long = length_of pages laundry.held in
    let both = length-append parts.queues.inactive parts.queues.active in
    let room = has.room in
    omega (arith, count, long, both, room, most)
  where
    pages : List Page
    pages = parts.queues.inactive ++ parts.queues.active

    other : (g : ℕ) → has_page pages g ≡ true → is_skipped laundry.held g ≡ false
    other g there = let held = held_by_page parts g fit there in unheld parts.frames parts.resident laundry.held g held.key has.washed held.owner

    all : (g : ℕ) → is_skipped (frames_of pages laundry.held) g ≡ true → is_claimed parts.frames g ≡ true
    all g there = by_test (has_page pages g) refl
      where
        by_test : (b : Bool) → has_page pages g ≡ b → is_claimed parts.frames g ≡ true
        by_test true is = (held_by_page parts g fit is).claimed
        by_test false is =
            (washed_at parts.frames parts.resident laundry.held g has.washed (sym (ap (λ b. b || is_skipped laundry.held g) is)
            ∙ (sym (skipped_of pages laundry.held g) ∙ there))).claimed
