-- What a host has of its pages and frames, once a page and its frame have changed.
use Rattle.vm_kernel.proofs.Common.{PutsRow}
use Rattle.vm_kernel.proofs.Common.{Asks, Bool, Changes, Elsewhere, Fit, FrameNo, FrameTable, HasFrames, HasLaundry, HasPages, HostParts, IsWashed, LaundryList}
use Rattle.vm_kernel.proofs.Common.{List, Local, LocalEffect, None, ObjectTable, Option, PageKey, PageRow, Queues, ResidentTable, SameMarks, Some, []}
use Rattle.vm_kernel.proofs.Common.{absent_at, ap, arith, claimed, eqb_tells, false, frame_apart, frame_count, get_or, inl, inr, is_claimed, is_some, led}
use Rattle.vm_kernel.proofs.Common.{length, length-set, local_after, local_of_row, lock_number, not, one_case, owner_of, page_in, refl, row_at, row_cases}
use Rattle.vm_kernel.proofs.Common.{row_put, subst, sym, true, ℕ, if◌then◌else◌, ◌&&◌, ◌==◌, ◌∙◌, ◌≡◌}

pub itself : (n : ℕ) → (n == n) ≡ true
itself n = elim (eqb_tells n n) [ inl same ↦ same.0 | inr apart ↦ absurd (apart.1 refl) ]

-- where the row of a page is another, each other page's is as it was
pub row_elsewhere : {o p : ℕ} {x : Option PageRow} {rs rs2 : ResidentTable} → PutsRow o p x rs rs2 → (a b : ℕ) → (o ≡ a → p ≡ b → ⊥)
    → row_at rs2 a b ≡ row_at rs a b
row_elsewhere {o = o} {p = p} {x = x} {rs = rs} {rs2 = rs2} put a b apart =
    elim (row_cases o p x rs rs2 put a b) [ inl now ↦ absurd (apart now.object now.page) | inr other ↦ other.is ]

-- the rows of the pages of each other object are as they were
abbrev pub KeepsOthers : ℕ → ResidentTable → ResidentTable → Type 0
KeepsOthers object rs rs2 = (o p : ℕ) → (object ≡ o → ⊥) → row_at rs2 o p ≡ row_at rs o p

-- what a page shows that has a row, by whether it is here and its bytes
abbrev pub shown_as : PageRow → Bool → Bool → List ℕ → Bool → Local
shown_as row here there bytes lacked =
    record {
      here = here;
      bytes = if there then bytes else [];
      lock = lock_number row.lock;
      dirty = if there then row.dirty else false;
      precious = row.precious;
      asked = not here;
      unlocking = row.unlock_sent;
      absent = lacked;
    }

-- a page shows the same where its frame has the same bytes
pub shown_same : (fs fs2 : FrameTable) (x : Option PageRow) (lacked : Bool) → ((r : PageRow) → x ≡ Some r → page_in fs2 r.frame.0 ≡ page_in fs r.frame.0)
    → local_of_row fs x lacked ≡ local_of_row fs2 x lacked
shown_same fs fs2 None lacked same = refl
shown_same fs fs2 (Some r) lacked same = ap (λ z. shown_as r r.here r.here z lacked) (sym (same r refl))

-- a page that is here shows its bytes
pub shown_here : (fs : FrameTable) (row : PageRow) (lacked : Bool) → row.here ≡ true
    → local_of_row fs (Some row) lacked ≡ shown_as row true true (page_in fs row.frame.0) lacked
shown_here fs row lacked here = ap (λ z. shown_as row z z (page_in fs row.frame.0) lacked) here

-- the bytes of the frame that has changed
pub bytes_now : (key : PageKey) (frame : FrameNo) (was now : Option PageRow) (held : Bool) (bytes : List ℕ) (lists : Queues) (old new : HostParts)
    → Changes key frame was now held bytes lists old new → page_in new.frames frame.0 ≡ bytes
bytes_now key frame was now held bytes lists old new c =
    elim (one_case frame.0 frame.0 bytes (page_in old.frames frame.0) (page_in new.frames frame.0) (c.page.at frame.0))
    [ inl same ↦ same.1 | inr apart ↦ absurd (apart.0 refl) ]

-- one page shows what it shows now, and each other what it did
pub pages_changed : (key : PageKey) (frame : FrameNo) (was now : Option PageRow) (held : Bool) (bytes : List ℕ) (lists : Queues) (old new : HostParts)
    (os : ObjectTable) (local_at local_now : ℕ → ℕ → Local)
    → Fit old → HasPages old.frames old.resident old.objects local_at → Changes key frame was now held bytes lists old new
    → (local_at key.object.0 key.page.0 ≡ local_of_row old.frames was (absent_at old.objects key.object.0 key.page.0)
    → local_now key.object.0 key.page.0 ≡ local_of_row new.frames now (absent_at os key.object.0 key.page.0))
    → ((o p : ℕ) → (key.object.0 == o && key.page.0 == p) ≡ false → (local_now o p ≡ local_at o p) × (absent_at os o p ≡ absent_at old.objects o p))
    → HasPages new.frames new.resident os local_now
pages_changed key frame was now held bytes lists old new os local_at local_now fit has c here others =
    record {
      shown = λ o p. elim (row_cases key.object.0 key.page.0 now old.resident new.resident c.row o p) [
        | inl put ↦
            subst (λ (z : ℕ). local_now o z ≡ local_of_row new.frames (row_at new.resident o z) (absent_at os o z)) put.page
            (subst (λ (z : ℕ). local_now z key.page.0 ≡ local_of_row new.frames (row_at new.resident z key.page.0) (absent_at os z key.page.0)) put.object
            at_key)
        | inr that ↦
            let same = others o p that.test in
            same.0 ∙ (has.shown o p
            ∙ (shown_same old.frames new.frames (row_at old.resident o p) (absent_at old.objects o p) (λ r is. elsewhere o p r that.apart is)
            ∙ (ap (local_of_row new.frames (row_at old.resident o p)) (sym same.1) ∙ sym (ap (λ z. local_of_row new.frames z (absent_at os o p)) that.is))))
      ];
    }
  where
    at_key : local_now key.object.0 key.page.0 ≡ local_of_row new.frames (row_at new.resident key.object.0 key.page.0) (absent_at os key.object.0 key.page.0)
    at_key =
        here (has.shown key.object.0 key.page.0 ∙ ap (λ z. local_of_row old.frames z (absent_at old.objects key.object.0 key.page.0)) c.found)
        ∙ sym (ap (λ z. local_of_row new.frames z (absent_at os key.object.0 key.page.0)) (row_put old.resident new.resident key.object.0 key.page.0 now c.row))

    elsewhere : (o p : ℕ) (r : PageRow) → (key.object.0 ≡ o → key.page.0 ≡ p → ⊥) → row_at old.resident o p ≡ Some r
        → page_in new.frames r.frame.0 ≡ page_in old.frames r.frame.0
    elsewhere o p r apart is = elim (one_case frame.0 r.frame.0 bytes (page_in old.frames r.frame.0) (page_in new.frames r.frame.0) (c.page.at r.frame.0)) [
      | inl same ↦ absurd (frame_apart key frame was now held bytes lists old new fit c o p r apart is same.0)
      | inr other ↦ other.1
    ]

-- an effect on one page alone
abbrev pub effect_on : ℕ → PageKey → LocalEffect → (ℕ → ℕ → Local) → ℕ → ℕ → Local
effect_on size key effect local_at = λ o p. local_after size (if key.object.0 == o && key.page.0 == p then effect else Elsewhere) (local_at o p)

pub effect_here : (size : ℕ) (key : PageKey) (effect : LocalEffect) (local_at : ℕ → ℕ → Local)
    → effect_on size key effect local_at key.object.0 key.page.0 ≡ local_after size effect (local_at key.object.0 key.page.0)
effect_here size key effect local_at = rw (itself key.object.0, itself key.page.0) refl

pub effect_apart : (size : ℕ) (key : PageKey) (effect : LocalEffect) (local_at : ℕ → ℕ → Local) (o p : ℕ) → (key.object.0 == o && key.page.0 == p) ≡ false
    → effect_on size key effect local_at o p ≡ local_at o p
effect_apart size key effect local_at o p apart = ap (λ b. local_after size (if b then effect else Elsewhere) (local_at o p)) apart

-- what an effect leaves that changes one page
pub pages_moved : (size : ℕ) (effect : LocalEffect) (key : PageKey) (frame : FrameNo) (was now : Option PageRow) (held : Bool) (bytes : List ℕ) (lists : Queues)
    (old new : HostParts) (os : ObjectTable) (local_at : ℕ → ℕ → Local)
    → Fit old → HasPages old.frames old.resident old.objects local_at → Changes key frame was now held bytes lists old new
    → local_after size effect (local_of_row old.frames was (absent_at old.objects key.object.0 key.page.0)) ≡ local_of_row new.frames now
    (absent_at os key.object.0 key.page.0)
    → ((o p : ℕ) → (key.object.0 == o && key.page.0 == p) ≡ false → absent_at os o p ≡ absent_at old.objects o p)
    → HasPages new.frames new.resident os (effect_on size key effect local_at)
pages_moved size effect key frame was now held bytes lists old new os local_at fit has c shows absent =
    pages_changed key frame was now held bytes lists old new os local_at (effect_on size key effect local_at) fit has c
    (λ was_shown. effect_here size key effect local_at ∙ (ap (local_after size effect) was_shown ∙ shows))
    (λ o p apart. (effect_apart size key effect local_at o p apart, absent o p apart))

-- what a request for a page is to a page
abbrev pub asking : Bool → Bool → Bool → LocalEffect
asking object page live = if object then (if page && live then Asks else Elsewhere) else Elsewhere

pub asking_it : (object page live : Bool) → (object && page) ≡ true → live ≡ true → asking object page live ≡ Asks
asking_it true true true both is = refl
asking_it true true false both is = absurd (let bad : false ≡ true = is in cc)
asking_it true false live both is = absurd (let bad : false ≡ true = both in cc)
asking_it false page live both is = absurd (let bad : false ≡ true = both in cc)

pub asking_other : (object page live : Bool) → (object && page) ≡ false → asking object page live ≡ Elsewhere
asking_other true true live both = absurd (let bad : true ≡ false = both in cc)
asking_other true false live both = refl
asking_other false page live both = refl

-- the frames in use, once a frame is claimed or not
pub frames_changed : (most : Option ℕ) (key : PageKey) (frame : FrameNo) (was now : Option PageRow) (held : Bool) (bytes : List ℕ) (lists : Queues)
    (old new : HostParts) (held_was held_now wired : ℕ)
    → HasFrames most old.frames held_was wired → Changes key frame was now held bytes lists old new
    → (held_was ≡ claimed old.frames → held_now ≡ claimed new.frames) → HasFrames most new.frames held_now wired
frames_changed most key frame was now held bytes lists old new held_was held_now wired has c is =
    let count : frame_count new.frames ≡ frame_count old.frames = ap (λ z. length z.claims) c.frames ∙ length-set old.frames.claims frame.0 held in
    let same : new.frames.wired ≡ old.frames.wired = ap (λ z. z.wired) c.frames in
    let more = c.claims in
    let left = c.left in
    let fits = has.fits in
    record { total = has.total ∙ ap Some (sym count); held = is has.held; wired = has.wired ∙ sym same; fits = omega arith }

-- the frames of returns are as they were, once another frame has changed
pub laundry_changed : (key : PageKey) (frame : FrameNo) (was now : Option PageRow) (held : Bool) (bytes : List ℕ) (lists : Queues) (old new : HostParts)
    (laundry : LaundryList) (out : ℕ)
    → HasLaundry old.frames old.resident laundry out → Changes key frame was now held bytes lists old new → HasLaundry new.frames new.resident laundry out
laundry_changed key frame was now held bytes lists old new laundry out has c =
    record { count = has.count; room = has.room ∙ sym count; washed = λ i d below. still (get_or laundry.held i d) (has.washed i d below); apart = has.apart }
  where
    count : frame_count new.frames ≡ frame_count old.frames
    count = ap (λ z. length z.claims) c.frames ∙ length-set old.frames.claims frame.0 held

    -- a page's frame is not washed, and a free one isn't either
    other_of : (x : Option PageRow) → is_claimed old.frames frame.0 ≡ is_some x → owner_of old.resident frame.0 ≡ led key x
        → IsWashed old.frames old.resident frame → ⊥
    other_of None had owned washed = let bad : false ≡ true = sym had ∙ washed.claimed in cc
    other_of (Some row) had owned washed = let bad : None ≡ Some key = sym washed.unowned ∙ owned in cc

    apart : (g : FrameNo) → IsWashed old.frames old.resident g → frame.0 ≡ g.0 → ⊥
    apart g washed same =
        other_of was c.had c.owned (record {
          claimed = ap (is_claimed old.frames) same ∙ washed.claimed;
          unowned = ap (owner_of old.resident) same
              ∙ washed.unowned;
        })

    still : (g : FrameNo) → IsWashed old.frames old.resident g → IsWashed new.frames new.resident g
    still g washed =
        record {
          claimed = elim (one_case frame.0 g.0 held (is_claimed old.frames g.0) (is_claimed new.frames g.0) (c.claim.at g.0)) [
            | inl same ↦ absurd (apart g washed same.0)
            | inr other ↦ other.1 ∙ washed.claimed
          ];
          unowned = elim (one_case frame.0 g.0 (led key now) (owner_of old.resident g.0) (owner_of new.resident g.0) (c.owner.at g.0)) [
            | inl same ↦ absurd (apart g washed same.0)
            | inr other ↦ other.1 ∙ washed.unowned
          ];
        }

-- pages show the same where objects have the same marks
pub pages_marked : (fs : FrameTable) (rs : ResidentTable) (os os2 : ObjectTable) (local_at : ℕ → ℕ → Local) → HasPages fs rs os local_at → SameMarks os os2
    → HasPages fs rs os2 local_at
pages_marked fs rs os os2 local_at has same = record { shown = λ o p. has.shown o p ∙ ap (λ z. local_of_row fs (row_at rs o p) z) (sym (same.at o p)) }
