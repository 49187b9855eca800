-- The frames of a host behind a merge, those of returns that are out, and what the history says of them.
use Rattle.std.proofs.Common.{◌≡◌, ◌∙◌, ℕ, ◌+◌, ◌&&◌, Bool, List, ◌∷◌, Option, Some, None, ap, arith, get_or, not, refl, suc, sym, zero}
use Rattle.std.specs.Prelude.{◌-◌, if◌then◌else◌, nat_lt}
use Rattle.vm_abroad.proofs.Home.{on_own}
use Rattle.vm_abroad.specs.Home.{HaveHomes}
use Rattle.vm_base.specs.declared.ids.ObjectId.{ObjectId}
use Rattle.vm_copies.specs.Copies.{CopyTable}
use Rattle.vm_frames.specs.Frames.{FrameTable, claimed}
use Rattle.vm_legal.specs.Frames.{FrameChange, GivesSome, Keeps, frames_after, frames_held, pages_gone}
use Rattle.vm_model.specs.declared.event.Event.{Event}
use Rattle.vm_model.specs.declared.event.Event.TheVariants as event
use Rattle.vm_model.specs.declared.script.Header.{Header}
use Rattle.vm_model.specs.Homes.{object_home}
use Rattle.vm_model.specs.Local.{Local, is_on, local}
use Rattle.vm_model.specs.Named.{named}
use Rattle.vm_model.specs.Regions.{Backing, backing_of, object_pages as pages_made, region_of}
use Rattle.vm_objects.specs.Objects.{ObjectTable, absent_at}
use Rattle.vm_pageout.specs.Laundry.{LaundryList}
use Rattle.vm_parts.specs.Changes.{is_here}
use Rattle.vm_parts.specs.Merging.{PagesMerge}
use Rattle.vm_parts.specs.declared.parts.HostParts.{HostParts}
use Rattle.vm_resident.specs.Resident.{IsOwned, ResidentTable, row_at}
use Rattle.vm_resident.specs.declared.page_row.PageRow.{PageRow}
use Rattle.vm_shadow.specs.Chains.{ChainTable}
use Rattle.vm_shadow.specs.declared.ids.Ids.{Ids}
use Rattle.vm_state.proofs.Declared.{shadow_temporary}
use Rattle.vm_state.proofs.Merging.{lower_temporary}
use Rattle.vm_state.proofs.PagesMerged.{PagesMerged, here_at, washed_merged}
use Rattle.vm_state.specs.Merging.{CanMerge}
use Rattle.vm_state.specs.Places.{known_local, local_of_row, place_of}
use Rattle.vm_state.specs.Stands.{HasFrames, HasKinds, HasLaundry, HasPages, HasRegions, KnowsPages}

-- which pages go depends on which are here alone
gone_by : (a b : ℕ → ℕ → Bool) (upper lower shift pages n : ℕ) → ((o p : ℕ) → a o p ≡ b o p)
    → pages_gone a upper lower shift pages n ≡ pages_gone b upper lower shift pages n
gone_by a b upper lower shift pages zero same = refl
gone_by a b upper lower shift pages (suc n) same =
    ap (λ t. if t && not (not (nat_lt n shift) && (nat_lt (n - shift) pages && not (a upper (n - shift))))
    then pages_gone a upper lower shift pages n + 1 else pages_gone a upper lower shift pages n) (same lower n)
    ∙ (ap (λ t. if b lower n && not (not (nat_lt n shift) && (nat_lt (n - shift) pages && not t))
    then pages_gone a upper lower shift pages n + 1 else pages_gone a upper lower shift pages n) (same upper (n - shift))
    ∙ ap (λ g. if b lower n && not (not (nat_lt n shift) && (nat_lt (n - shift) pages && not (b upper (n - shift)))) then g + 1 else g)
    (gone_by a b upper lower shift pages n same))

-- a page is here, by its row as by the history
row_here : (fs : FrameTable) (x : Option PageRow) (lacked : Bool) → (local_of_row fs x lacked).here ≡ is_here x
row_here fs None lacked = refl
row_here fs (Some row) lacked = refl

-- the frames that are held behind it, as the history has them
pub held_merged : {copies : CopyTable} (header : Header) (h : ℕ) (past : List Event) (upper lower : ObjectId) (cs : ChainTable) (os : ObjectTable)
    (rs : ResidentTable) (fs : FrameTable) {ids : Ids} {rm om marked : ℕ} (can : CanMerge copies cs os upper.0 lower.0)
    → HasRegions cs os ids (λ q. region_of header q past) (λ q. backing_of header q past) rm om marked → HasKinds header os cs → HaveHomes header past
    → KnowsPages (named header) os (λ o. pages_made header o past) → object_home upper.0 past ≡ Some h
    → HasPages fs rs os (λ o p. known_local header o p (local header h (place_of o p) past))
    → frames_held header h (event.Merged upper lower ∷ past)
    ≡ frames_held header h past - pages_gone (here_at rs) upper.0 lower.0 can.link.shift can.upper_row.pages can.lower_row.pages
held_merged header h past upper lower cs os rs fs can regions kinds homes knows home has =
    ap (λ z. frames_after (on_host (is_on h z)) (frames_held header h past)) home
    ∙ (ap (λ b. frames_after (on_host b) (frames_held header h past)) (on_own h)
    ∙ ap (λ z. frames_held header h past - z) (ap (λ n. gone n (pages_made header upper.0 past) (pages_made header lower.0 past))
    (ap (λ (z : Backing). z.shift) (regions.shadows upper.0 can.link can.over))
    ∙ (ap (λ n. gone can.link.shift n (pages_made header lower.0 past))
    (sym (knows.at upper.0 can.upper_row (shadow_temporary regions homes upper.0 can.link can.over) can.upper_known))
    ∙ (ap (λ n. gone can.link.shift can.upper_row.pages n)
    (sym (knows.at lower.0 can.lower_row (lower_temporary kinds can) can.lower_known))
    ∙ gone_by (λ o p. (local header h (place_of o p) past).here) (here_at rs) upper.0 lower.0 can.link.shift can.upper_row.pages can.lower_row.pages
    (λ o p. ap (λ (z : Local). z.here) (has.shown o p) ∙ row_here fs (row_at rs o p) (absent_at os o p))))))
  where
    gone : ℕ → ℕ → ℕ → ℕ
    gone shift up low = pages_gone (λ o p. (local header h (place_of o p) past).here) upper.0 lower.0 shift up low

    on_host : Bool → FrameChange
    on_host b = if b then GivesSome (gone (backing_of header upper.0 past).shift (pages_made header upper.0 past) (pages_made header lower.0 past)) else Keeps

pub frames_merged : {most : Option ℕ} {upper lower shift pages : ℕ} (held held2 wired gone : ℕ) (old new : HostParts)
    → PagesMerged upper lower shift pages old new → claimed new.frames + gone ≡ claimed old.frames → held2 ≡ held - gone
    → HasFrames most old.frames held wired → HasFrames most new.frames held2 wired
frames_merged held held2 wired gone old new all count is has =
    record {
      total = has.total ∙ ap Some (sym all.many);
      held = let was = has.held in omega (arith, is, was, count);
      wired = has.wired ∙ sym all.wired;
      fits = let fits = has.fits in let many = all.many in let wired_now = all.wired in omega (arith, fits, many, wired_now, count);
    }

pub laundry_merged : (upper lower : ObjectId) (shift pages from : ℕ) (old new : HostParts) (laundry : LaundryList) (out : ℕ) → (upper.0 ≡ lower.0 → ⊥)
    → IsOwned old.resident → PagesMerge upper lower shift pages from old new → PagesMerged upper.0 lower.0 shift pages old new
    → HasLaundry old.frames old.resident laundry out → HasLaundry new.frames new.resident laundry out
laundry_merged upper lower shift pages from old new laundry out apart owned merges all has =
    record {
      count = has.count;
      room = has.room ∙ sym all.many;
      washed = λ i d below. washed_merged upper lower shift pages from old new (get_or laundry.held i d) apart owned merges (has.washed i d below);
      apart = has.apart;
    }
