-- What stood under an object that has ended loses a reference.
use Rattle.std.proofs.lemmas.Option.{MatchOption-at_some}
use Rattle.std.proofs.Common.{◌≡◌, ℕ, ◌+◌, ◌<◌, ◌≤◌, List, Some, None, refl, sym, subst, arith, IfSome}
use Rattle.std.specs.Prelude.{IfSome, IsSome}
use Rattle.vm_base.specs.declared.ids.FrameNo.{FrameNo}
use Rattle.vm_base.specs.declared.ids.ObjectId.{ObjectId}
use Rattle.vm_copies.specs.Copies.{CopyTable}
use Rattle.vm_model.specs.declared.event.Event.{Event}
use Rattle.vm_objects.specs.Objects.{ObjectTable, PutsObject, SameMarks, object_at}
use Rattle.vm_parts.proofs.Fitting.{fit_objects, same_pages}
use Rattle.vm_parts.specs.Fits.{Fit}
use Rattle.vm_parts.specs.declared.parts.HostParts.{HostParts}
use Rattle.vm_shadow.specs.Chains.{ChainTable, DropsShadow, IsRanked, shadow_at}
use Rattle.vm_shadow.specs.declared.shadow_row.ShadowRow.{ShadowRow}
use Rattle.vm_terminate.proofs.Found.{found_some}
use Rattle.vm_terminate.specs.Finishes.{IsReferred, LosesUnder}
use Rattle.vm_terminate.specs.Steps.{Ends, LeavesUnder, Stays, finish_state}

-- one reference less to what stood under an object, of which so many are left
pub record Unrefers (object : ObjectId) (row : ShadowRow) (left : ℕ) (parts : HostParts) (objects : ObjectTable) (old new : ChainTable) : Type 0 where
  pub found : Some row ≡ shadow_at old object.0
  pub dropped : DropsShadow object.0 old new
  pub referred : IsReferred parts.objects row.under.0
  pub left_is : IfSome (object_at parts.objects row.under.0) (λ known. left + 1 ≡ known.references)
  pub put : IfSome (object_at parts.objects row.under.0) (λ known. PutsObject row.under.0 (Some (record known { references = left })) parts.objects objects)
  pub marks : SameMarks parts.objects objects

pub referred_there : (objects : ObjectTable) (o : ℕ) → IsReferred objects o → IsSome (object_at objects o)
referred_there objects o referred = found_some (object_at objects o) referred.row referred.known

pub referred_some : (objects : ObjectTable) (o : ℕ) → IsReferred objects o → IfSome (object_at objects o) (λ row. 0 < row.references)
referred_some objects o referred = subst (λ z. IfSome z (λ row. 0 < row.references)) (sym referred.known) referred.some

loses : (object : ObjectId) (row : ShadowRow) (left : ℕ) (parts : HostParts) (objects : ObjectTable) (old new : ChainTable)
    (unrefers : Unrefers object row left parts objects old new)
    → (copies : CopyTable) (held : List FrameNo) (room : ℕ) (events : List Event)
    → LosesUnder object row unrefers.referred.row left (finish_state parts old copies held room events)
    (finish_state (record parts { objects = objects }) new copies held room events)
loses object row left parts objects old new unrefers copies held room events =
    let known = unrefers.referred in
    record {
      found = sym unrefers.found;
      chains = unrefers.dropped;
      under = known.known;
      less = MatchOption-at_some _ (λ other. left + 1 ≡ other.references) known.row known.known unrefers.left_is;
      objects =
          MatchOption-at_some _ (λ other. PutsObject row.under.0 (Some (record other { references = left })) parts.objects objects) known.row known.known
          unrefers.put;
      marks = unrefers.marks;
      rest = refl;
    }

-- something else refers to it
pub stays : (object : ObjectId) (row : ShadowRow) (left : ℕ) (parts : HostParts) (objects : ObjectTable) (old new : ChainTable)
    → Unrefers object row left parts objects old new → 0 < left
    → (copies : CopyTable) (held : List FrameNo) (room : ℕ) (events : List Event)
    → LeavesUnder object None (finish_state parts old copies held room events) (finish_state (record parts { objects = objects }) new copies held room events)
stays object row left parts objects old new unrefers some copies held room events =
    Stays row unrefers.referred.row left refl (loses object row left parts objects old new unrefers copies held room events) some

-- that was the last reference
pub ends : (object : ObjectId) (row : ShadowRow) (left : ℕ) (parts : HostParts) (objects : ObjectTable) (old new : ChainTable)
    → Unrefers object row left parts objects old new → left ≤ 0 → IsRanked old
    → (copies : CopyTable) (held : List FrameNo) (room : ℕ) (events : List Event)
    → LeavesUnder object (Some row.under) (finish_state parts old copies held room events)
    (finish_state (record parts { objects = objects }) new copies held room events)
ends object row left parts objects old new unrefers none ranked copies held room events =
    let zero : left ≡ 0 = omega arith in
    let old_state = finish_state parts old copies held room events in
    let new_state = finish_state (record parts { objects = objects }) new copies held room events in
    let lost = subst (λ (n : ℕ). LosesUnder object row unrefers.referred.row n old_state new_state) zero
    (loses object row left parts objects old new unrefers copies held room events) in
    Ends row unrefers.referred.row refl lost ranked

pub fit_unreferred : (object : ObjectId) (row : ShadowRow) (left : ℕ) (parts : HostParts) (objects : ObjectTable) (old new : ChainTable)
    → Unrefers object row left parts objects old new → Fit parts
    → Fit (record parts { objects = objects })
fit_unreferred object row left parts objects old new unrefers fit =
    let known = unrefers.referred in
    let put = MatchOption-at_some _ (λ other. PutsObject row.under.0 (Some (record other { references = left })) parts.objects objects) known.row known.known
    unrefers.put in
    fit_objects parts objects fit (same_pages parts.objects objects row.under.0 known.row (record known.row { references = left }) known.known refl put)
