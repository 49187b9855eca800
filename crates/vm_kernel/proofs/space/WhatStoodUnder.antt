-- What ends with an object is of it, or of what stands under it.
use Rattle.vm_kernel.proofs.Common.{Below, ChainTable, EndsObject, EndsRegion, Entry, Event, Header, HostId, HostParts, IfSome, Ids, LaundryList, List, None}
use Rattle.vm_kernel.proofs.Common.{ObjectId, ObjectRow, PageKey, PageRow, Parts, ShadowRow, Some, Woken, [], ap, append_assoc, backing_of, eqb_tells}
use Rattle.vm_kernel.proofs.Common.{if◌then◌else◌, inl, inr, of_both, refl, region_at, region_of, shadow_at, subst, suc, sym, true, ℕ, ◌++◌, ◌∙◌, ◌∷◌}
use Rattle.vm_kernel.proofs.Common.{◌≡◌}
use Rattle.vm_copies.specs.Copies.{CopyTable}
use Rattle.vm_kernel.proofs.space.ObjectsEnd.{state_of}
use Rattle.vm_kernel.proofs.space.RegionRows.{region_row}
use Rattle.vm_kernel.specs.Endings.{EndsBelow, EndsUnder, IsUnderneath}
use Rattle.vm_legal.proofs.Below.{below_next}
use Rattle.vm_model.specs.Regions.{Backing, Region}
use Rattle.vm_shadow.specs.Chains.{DropsShadow}
use Rattle.vm_terminate.specs.Finishes.{Alone, ControlEnds, Downward, Finishes, FinishState, GoesBack, IsDropped, IsTold, Next, NoControl, NoMore, OverOne}
use Rattle.vm_terminate.specs.Finishes.{PageLeaves, PagesLeave}

-- what the chains know of shadows is so
abbrev KnowsUnder : Header → List Event → ChainTable → Type 0
KnowsUnder header past chains =
    (o : ℕ) (row : ShadowRow) → shadow_at chains o ≡ Some row → backing_of header o past ≡ record { backed = true; under = row.under.0; shift = row.shift }

stands_under : (header : Header) (past : List Event) (top o : ℕ) (row : ShadowRow) (chains : ChainTable) → IsUnderneath header past top o
    → KnowsUnder header past chains → shadow_at chains o ≡ Some row → IsUnderneath header past top row.under.0
stands_under header past top o row chains is knows found =
    let known = knows o row found in (
      suc is.0,
      subst (λ (z : ℕ). Below (λ o. backing_of header o past) (suc is.0) top z) (ap (λ (z : Backing). z.under) known)
          (below_next (λ o. backing_of header o past) is.0 top o is.1 (ap (λ (z : Backing). z.backed) known)),
    )

knows_less : (header : Header) (past : List Event) (o : ℕ) (old new : ChainTable) → KnowsUnder header past old → DropsShadow o old new
    → KnowsUnder header past new
knows_less header past o old new knows drops x row found = elim (eqb_tells o x) [
  | inl same ↦ absurd (let bad : None ≡ Some row = ap (λ b. if b then None else shadow_at old x) (sym same.0) ∙ (sym (drops.at x) ∙ found) in cc)
  | inr apart ↦ knows x row (ap (λ b. if b then None else shadow_at old x) (sym apart.0) ∙ (sym (drops.at x) ∙ found))
]

-- nothing, one event, and one stretch behind another

pub below_none : (header : Header) (past : List Event) (top : ℕ) (events : List Event) → EndsBelow header past top events events
below_none header past top events = record { more = []; is = refl; each = tt }

below_one : (header : Header) (past : List Event) (top : ℕ) (e : Event) (before after : List Event) → after ≡ e ∷ before → EndsUnder header past top e
    → EndsBelow header past top before after
below_one header past top e before after told ends = record { more = e ∷ []; is = told; each = (ends, tt) }

below_both : (header : Header) (past : List Event) (top : ℕ) (before mid after : List Event) → EndsBelow header past top before mid
    → EndsBelow header past top mid after → EndsBelow header past top before after
below_both header past top before mid after one two =
    record {
      more = two.more ++ one.more;
      is = two.is ∙ (ap (λ z. two.more ++ z) one.is ∙ sym (append_assoc two.more one.more before));
      each = of_both (EndsUnder header past top) two.more one.more two.each one.each;
    }

-- an object ends, and the chains stay

page_below : (header : Header) (past : List Event) (host : HostId) (top : ℕ) (key : PageKey) (known : ObjectRow) (row : PageRow) (old new : FinishState)
    → IsUnderneath header past top key.object.0 → PageLeaves host key known row old new → EndsBelow header past top old.events new.events
page_below header past host top key known row old new is (IsDropped why discards objects held room events) =
    below_one header past top _ old.events new.events events is
page_below header past host top key known row old new is (GoesBack other wanted removes objects absent held room events) =
    below_one header past top _ old.events new.events events is

-- what was told, and that nothing has changed in the chains
record IsDone (header : Header) (past : List Event) (top : ℕ) (old new : FinishState) : Type 0 where
  below : EndsBelow header past top old.events new.events
  chains : new.chains ≡ old.chains

done_both : (header : Header) (past : List Event) (top : ℕ) (old mid new : FinishState) → IsDone header past top old mid → IsDone header past top mid new
    → IsDone header past top old new
done_both header past top old mid new one two =
    record { below = below_both header past top old.events mid.events new.events one.below two.below; chains = two.chains ∙ one.chains }

pages_below : (header : Header) (past : List Event) (host : HostId) (top : ℕ) (object : ObjectId) (known : ObjectRow) (from : ℕ) (old new : FinishState)
    → IsUnderneath header past top object.0 → PagesLeave host object known from old new → IsDone header past top old new
pages_below header past host top object known _ _ _ is (NoMore from s none) = record { below = below_none header past top s.events; chains = refl }
pages_below header past host top object known _ _ _ is (Next from page row old mid new le none there here chains copies leaves more) =
    done_both header past top old mid new
    (record { below = page_below header past host top (record { object = object; page = page }) known row old mid is leaves; chains = chains })
    (pages_below header past host top object known (suc page.0) mid new is more)

control_below : (header : Header) (past : List Event) (host : HostId) (top : ℕ) (object : ObjectId) (known : ObjectRow) (old new : FinishState)
    → IsUnderneath header past top object.0 → ControlEnds host object known old new → IsDone header past top old new
control_below header past host top object known old new is (NoControl dead same) =
    subst (λ (z : FinishState). IsDone header past top old z) (sym same) (record { below = below_none header past top old.events; chains = refl })
control_below header past host top object known old new is (IsTold live keeps put events) =
    record { below = below_one header past top _ old.events new.events events is; chains = ap (λ z. z.chains) keeps.is }

object_below : (header : Header) (past : List Event) (host : HostId) (top : ℕ) (object : ObjectId) (known : ObjectRow) (old bare quiet new : FinishState)
    → IsUnderneath header past top object.0 → PagesLeave host object known 0 old bare → ControlEnds host object known bare quiet
    → new ≡ record quiet { copies = new.copies } → IsDone header past top old new
object_below header past host top object known old bare quiet new is pages control same =
    let above = done_both header past top old bare quiet (pages_below header past host top object known 0 old bare is pages)
    (control_below header past host top object known bare quiet is control) in
    subst (λ (z : FinishState). IsDone header past top old z) (sym same) (record { below = above.below; chains = above.chains })

-- and what stands under it, where it ends with it
finish_below : (header : Header) (past : List Event) (host : HostId) (top : ℕ) (object : ObjectId) (old new : FinishState)
    → IsUnderneath header past top object.0 → KnowsUnder header past old.chains → Finishes host object old new → EndsBelow header past top old.events new.events
finish_below header past host top _ _ _ is knows (Alone object known old bare quiet new found pages control copies same alone) =
    (object_below header past host top object known old bare quiet new is pages control same).below
finish_below header past host top _ _ _ is knows (OverOne object known under row left old bare quiet silent new found pages control copies same loses some) =
    let above = object_below header past host top object known old bare quiet silent is pages control same in
    subst (λ (z : List Event). EndsBelow header past top old.events z) (sym (ap (λ (z : FinishState). z.events) loses.rest)) above.below
finish_below header past host top _ _ _ is knows
    (Downward object known under row old bare quiet silent next new found pages control copies same loses more) =
    let above = object_below header past host top object known old bare quiet silent is pages control same in
    let silent_knows : KnowsUnder header past silent.chains = subst (λ (z : ChainTable). KnowsUnder header past z) (sym above.chains) knows in
    let first = subst (λ (z : List Event). EndsBelow header past top old.events z) (sym (ap (λ (z : FinishState). z.events) loses.rest)) above.below in
    below_both header past top old.events next.events new.events first
    (finish_below header past host top row.under next new (stands_under header past top object.0 row silent.chains is silent_knows loses.found)
    (knows_less header past object.0 silent.chains next.chains silent_knows loses.chains) more)

pub object_under : (header : Header) (h : ℕ) (past : List Event) (who : Woken) (k : Parts) (ids : Ids) (rest : List Entry) (object : ObjectId)
    (events after : List Event) (memory : HostParts) (chains : ChainTable) (copies : CopyTable) (laundry : LaundryList)
    → EndsObject header h who k ids rest object.0 (events ++ past)
    → Finishes k.host object (state_of k.memory k.chains k.copies k.laundry events) (state_of memory chains copies laundry after)
    → EndsBelow header (events ++ past) object.0 events after
object_under header h past who k ids rest object events after memory chains copies laundry e is =
    finish_below header (events ++ past) k.host object.0 object (state_of k.memory k.chains k.copies k.laundry events)
    (state_of memory chains copies laundry after) (0, refl)
    e.runs.matches.core.objects.regions.shadows is

-- the top of a region is as the history says
pub region_under : (header : Header) (h : ℕ) (past : List Event) (who : Woken) (k : Parts) (ids : Ids) (rest : List Entry) (r : ℕ) (events after : List Event)
    (object : ObjectId) → EndsRegion header h who k ids rest r (events ++ past) → IfSome (region_at k.chains r) (λ row. object ≡ row.top)
    → EndsBelow header (events ++ past) object.0 events after → EndsBelow header (events ++ past) (region_of header r (events ++ past)).top events after
region_under header h past who k ids rest r events after object e top below =
    let row = region_row k.chains r e.there in
    let same : object ≡ row.0.top = subst (λ z. IfSome z (λ row. object ≡ row.top)) row.1 top in
    subst (λ (z : ℕ). EndsBelow header (events ++ past) z events after) (ap (λ (z : ObjectId). z.0) same
    ∙ sym (ap (λ (z : Region). z.top) (e.runs.matches.core.objects.regions.rows r row.0 row.1))) below
