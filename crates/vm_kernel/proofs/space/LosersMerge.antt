-- What can be merged once an object has lost a reference: that one, or what could be before.
use Rattle.std.proofs.Common.{[], ◌≡◌, ◌∙◌, ℕ, List, Option, Some, None, ap, arith, false, inl, inr, refl, subst, suc, sym}
use Rattle.std.specs.Prelude.{Contains, ◌⊎◌}
use Rattle.vm_base.specs.declared.ids.HostId.{HostId}
use Rattle.vm_base.specs.declared.ids.ObjectId.{ObjectId}
use Rattle.vm_base.specs.declared.ids.PageKey.{PageKey}
use Rattle.vm_copies.specs.Copies.{CopyTable, LeavesCopies, WasCopy, WasNone}
use Rattle.vm_kernel.proofs.space.RegionEnds.{LosesRegion}
use Rattle.vm_kernel.proofs.space.StillThin.{KeepsShadows}
use Rattle.vm_kernel.specs.Sweeping.{IsBareTop, LeavesLoser}
use Rattle.vm_kernel.specs.declared.parts.Parts.{Parts}
use Rattle.vm_merge.specs.Merges.{CanMerge, IsThin, IsThinBut}
use Rattle.vm_objects.specs.Objects.{ObjectTable, PutsObject, SameObjects, object_at}
use Rattle.vm_objects.specs.declared.row.ObjectRow.{ObjectRow}
use Rattle.vm_objects.specs.declared.row.PagerState.TheVariants as state
use Rattle.vm_parts.proofs.Rows.{one_case, some_is}
use Rattle.vm_resident.specs.declared.page_row.PageRow.{PageRow}
use Rattle.vm_shadow.specs.Chains.{ChainTable, DropsShadow, shadow_at}
use Rattle.vm_shadow.specs.declared.region_row.RegionRow.{RegionRow}
use Rattle.vm_shadow.specs.declared.shadow_row.ShadowRow.{ShadowRow}
use Rattle.vm_state.proofs.CopyObjects.{ended_row}
use Rattle.vm_state.proofs.Knowing.{known_put}
use Rattle.vm_state.proofs.Pairs.{thin_none}
use Rattle.vm_terminate.specs.Finishes.{Alone, ControlEnds, Downward, FinishState, Finishes, GoesBack, IsDropped, IsTold, Next, NoControl, NoMore, OverOne}
use Rattle.vm_terminate.specs.Finishes.{PageLeaves, PagesLeave, left_of}

-- one object is known otherwise, with the control that it had
could_before : {copies : CopyTable} (o : ℕ) (was now : ObjectRow) (cs cs2 : ChainTable) (os os2 : ObjectTable) → KeepsShadows cs cs2 → object_at os o ≡ Some was
    → now.control ≡ was.control → PutsObject o (Some now) os os2 → (u l : ℕ) → CanMerge copies cs2 os2 u l
    → ((o ≡ l) × (now.references ≡ 1)) ⊎ CanMerge copies cs os u l
could_before {copies = copies} o was now cs cs2 os os2 keeps known same put u l can =
    by (one_case o l (Some now) (object_at os l) (object_at os2 l) (put.at l)) (one_case o u (Some now) (object_at os u) (object_at os2 u) (put.at u))
  where
    by : ((o ≡ l) × (object_at os2 l ≡ Some now)) ⊎ ((o ≡ l → ⊥) × (object_at os2 l ≡ object_at os l))
        → ((o ≡ u) × (object_at os2 u ≡ Some now)) ⊎ ((o ≡ u → ⊥) × (object_at os2 u ≡ object_at os u))
        → ((o ≡ l) × (now.references ≡ 1)) ⊎ CanMerge copies cs os u l
    by (inl low) up =
        let row = some_is now can.lower_row (sym low.1 ∙ can.lower_known) in inl (low.0, ap (λ (z : ObjectRow). z.references) row ∙ can.sole)
    by (inr low) (inl up) =
        let row = some_is now can.upper_row (sym up.1 ∙ can.upper_known) in
        inr (record {
          link = can.link;
          over = keeps u can.link can.over;
          under = can.under;
          upper_row = was;
          upper_known = ap (object_at os) (sym up.0) ∙ known;
          lower_row = can.lower_row;
          lower_known = sym low.1 ∙ can.lower_known;
          sole = can.sole;
          upper_never = sym same ∙ (ap (λ (z : ObjectRow). z.control) row ∙ can.upper_never);
          lower_never = can.lower_never;
          plain = can.plain;
        })
    by (inr low) (inr up) =
        inr (record {
          link = can.link;
          over = keeps u can.link can.over;
          under = can.under;
          upper_row = can.upper_row;
          upper_known = sym up.1 ∙ can.upper_known;
          lower_row = can.lower_row;
          lower_known = sym low.1 ∙ can.lower_known;
          sole = can.sole;
          upper_never = can.upper_never;
          lower_never = can.lower_never;
          plain = can.plain;
        })

-- with it among the losers, nothing else can be merged but them
pub thin_put : {copies : CopyTable} (o : ObjectId) (was now : ObjectRow) (cs cs2 : ChainTable) (os os2 : ObjectTable) (losers more : List ObjectId)
    → KeepsShadows cs cs2
    → object_at os o.0 ≡ Some was → now.control ≡ was.control → PutsObject o.0 (Some now) os os2
    → ((x : ObjectId) → Contains losers x → Contains more x) → (now.references ≡ 1 → Contains more o) → IsThinBut copies losers cs os
    → IsThinBut copies more cs2 os2
thin_put o was now cs cs2 os os2 losers more keeps known same put all own thin u l can =
    elim (could_before o.0 was now cs cs2 os os2 keeps known same put u l can) [
      | inl its ↦ subst (λ (n : ℕ). Contains more (record { 0 = n })) its.0 (own its.1)
      | inr could ↦ all (record { 0 = l }) (thin u l could)
    ]

-- the same objects and chains
thin_same : {copies : CopyTable} (cs cs2 : ChainTable) (os os2 : ObjectTable) (losers : List ObjectId) → cs2 ≡ cs → SameObjects os os2
    → IsThinBut copies losers cs os
    → IsThinBut copies losers cs2 os2
thin_same cs cs2 os os2 losers chains same thin u l can =
    thin u l (record {
      link = can.link;
      over = sym (ap (λ z. shadow_at z u) chains) ∙ can.over;
      under = can.under;
      upper_row = can.upper_row;
      upper_known = sym (same.at u) ∙ can.upper_known;
      lower_row = can.lower_row;
      lower_known = sym (same.at l) ∙ can.lower_known;
      sole = can.sole;
      upper_never = can.upper_never;
      lower_never = can.lower_never;
      plain = can.plain;
    })

-- pages leave
page_keeps : {host : HostId} {key : PageKey} {known : ObjectRow} {row : PageRow} {old new : FinishState} → PageLeaves host key known row old new
    → SameObjects old.parts.objects new.parts.objects
page_keeps (IsDropped plain discards same held room told) = record { at = λ o. ap (λ z. object_at z o) same }
page_keeps (GoesBack kind dirty removes same absent held room told) = same

pages_keep : {host : HostId} {object : ObjectId} {known : ObjectRow} (from : ℕ) (old new : FinishState) → PagesLeave host object known from old new
    → SameObjects old.parts.objects new.parts.objects × ((new.chains ≡ old.chains) × (new.copies ≡ old.copies))
pages_keep from old new (NoMore _ _ none) = (record { at = λ o. refl }, (refl, refl))
pages_keep from old new (Next _ page row _ mid _ least none found here chains copies leaves rest) =
    let more = pages_keep (suc page.0) mid new rest in
    let one = page_keeps leaves in
    (record { at = λ o. more.0.at o ∙ one.at o }, (more.1.0 ∙ chains, more.1.1 ∙ copies))

-- a control ends
control_keeps : {host : HostId} {object : ObjectId} {known : ObjectRow} {old new : FinishState} (losers : List ObjectId)
    → object_at old.parts.objects object.0 ≡ Some known → known.references ≡ 0 → ControlEnds host object known old new
    → IsThinBut old.copies losers old.chains old.parts.objects → IsThinBut new.copies losers new.chains new.parts.objects
control_keeps losers found none (NoControl dead is) thin = subst (λ (z : FinishState). IsThinBut z.copies losers z.chains z.parts.objects) (sym is) thin
control_keeps {object = object} {known = known} {old = old} {new = new} losers found none (IsTold live keeps put told) thin =
    subst (λ (z : CopyTable). IsThinBut z losers new.chains new.parts.objects) (sym (ap (λ (z : FinishState). z.copies) keeps.is))
    (thin_put object known (record known { live = false; state = state.Without }) old.chains new.chains old.parts.objects new.parts.objects losers losers
    (λ o row is. sym (ap (λ (z : FinishState). shadow_at z.chains o) keeps.is) ∙ is) found refl put (λ x has. has)
    (λ one. absurd (omega (arith, one, none))) thin)

drops_keeps : (o : ℕ) (cs cs2 : ChainTable) → DropsShadow o cs cs2 → KeepsShadows cs cs2
drops_keeps o cs cs2 drops x row is = elim (one_case o x None (shadow_at cs x) (shadow_at cs2 x) (drops.at x)) [
  | inl this ↦ absurd (let bad : None ≡ Some row = sym this.1 ∙ is in cc)
  | inr other ↦ sym other.1 ∙ is
]

-- an object ends to which nothing refers: it can't be merged anyway
thin_silent : {copies copies2 : CopyTable} (o : ℕ) (known : ObjectRow) (cs : ChainTable) (os : ObjectTable) (losers : List ObjectId)
    → object_at os o ≡ Some known → known.references ≡ 0 → LeavesCopies o copies copies2 → IsThinBut copies losers cs os → IsThinBut copies2 losers cs os
thin_silent o known cs os losers found none (WasNone plain same) thin = subst (λ (z : CopyTable). IsThinBut z losers cs os) (sym same) thin
thin_silent {copies2 = copies2} o known cs os losers found none (WasCopy row ends living) thin =
    λ u l can. thin u l (record {
      link = can.link;
      over = can.over;
      under = can.under;
      upper_row = can.upper_row;
      upper_known = can.upper_known;
      lower_row = can.lower_row;
      lower_known = can.lower_known;
      sole = can.sole;
      upper_never = can.upper_never;
      lower_never = can.lower_never;
      plain = sym (ended_row ends l (apart u l can)) ∙ can.plain;
    })
  where
    apart : (u l : ℕ) → CanMerge copies2 cs os u l → o ≡ l → ⊥
    apart u l can same =
        let rows : known ≡ can.lower_row = some_is known can.lower_row (sym found ∙ (ap (object_at os) same ∙ can.lower_known)) in
        let count = ap (λ (z : ObjectRow). z.references) rows in
        let sole = can.sole in
        omega (arith, count, sole, none)

-- nothing refers to it still
quiet_known : {host : HostId} {object : ObjectId} {known : ObjectRow} {old new : FinishState} → object_at old.parts.objects object.0 ≡ Some known
    → known.references ≡ 0 → ControlEnds host object known old new
    → (now : ObjectRow) × (object_at new.parts.objects object.0 ≡ Some now) × (now.references ≡ 0)
quiet_known {object = object} {known = known} found none (NoControl dead is) =
    (known, ap (λ (z : FinishState). object_at z.parts.objects object.0) is ∙ found, none)
quiet_known {object = object} {known = known} {old = old} {new = new} found none (IsTold live keeps put told) =
    (_, known_put object.0 (record known { live = false; state = state.Without }) old.parts.objects new.parts.objects put, none)

-- its pages have left, its control has ended, and it is no copy object
at_silent : {host : HostId} (object : ObjectId) (is : ObjectRow) (old bare quiet silent : FinishState) (known : ObjectRow)
    → object_at old.parts.objects object.0 ≡ Some is → object_at old.parts.objects object.0 ≡ Some known → known.references ≡ 0
    → PagesLeave host object is 0 old bare → ControlEnds host object is bare quiet → LeavesCopies object.0 quiet.copies silent.copies
    → silent ≡ record quiet { copies = silent.copies } → (losers : List ObjectId)
    → IsThinBut old.copies losers old.chains old.parts.objects → IsThinBut silent.copies losers silent.chains silent.parts.objects
at_silent object is old bare quiet silent known found there none pages control copies same losers thin =
    let keep = pages_keep 0 old bare pages in
    let bare_found = keep.0.at object.0 ∙ found in
    let unreferred = ap (λ (z : ObjectRow). z.references) (some_is is known (sym found ∙ there)) ∙ none in
    let now = quiet_known bare_found unreferred control in
    let quiet_thin = control_keeps losers bare_found unreferred control
    (subst (λ (z : CopyTable). IsThinBut z losers bare.chains bare.parts.objects) (sym keep.1.1)
    (thin_same old.chains bare.chains old.parts.objects bare.parts.objects losers keep.1.0 keep.0 thin)) in
    subst (λ (z : FinishState). IsThinBut z.copies losers z.chains z.parts.objects) (sym same)
    (thin_silent object.0 now.0 quiet.chains quiet.parts.objects losers now.1 now.2 copies quiet_thin)

-- an object ends to which nothing refers, with what stands under it: the one that has some references left is a loser too
pub thin_finished : {host : HostId} {object : ObjectId} {old new : FinishState} (f : Finishes host object old new) (known : ObjectRow)
    → object_at old.parts.objects object.0 ≡ Some known → known.references ≡ 0 → (losers more : List ObjectId)
    → ((x : ObjectId) → Contains losers x → Contains more x) → ((o : ObjectId) → left_of f ≡ Some o → Contains more o)
    → IsThinBut old.copies losers old.chains old.parts.objects → IsThinBut new.copies more new.chains new.parts.objects
thin_finished (Alone object is old bare quiet new found pages control copies same bottom) known there none losers more all own thin =
    λ u l can. all (record { 0 = l }) (at_silent object is old bare quiet new known found there none pages control copies same losers thin u l can)
thin_finished (OverOne object is under row left old bare quiet silent new found pages control copies same loses some) known there none losers more all own
    thin =
    subst (λ (z : CopyTable). IsThinBut z more new.chains new.parts.objects) (sym (ap (λ (z : FinishState). z.copies) loses.rest))
    (thin_put row.under under (record under { references = left }) silent.chains new.chains silent.parts.objects new.parts.objects losers more
    (drops_keeps object.0 silent.chains new.chains loses.chains) loses.under refl loses.objects all (λ one. own row.under refl)
    (at_silent object is old bare quiet silent known found there none pages control copies same losers thin))
thin_finished (Downward object is under row old bare quiet silent next new found pages control copies same loses rest) known there none losers more all own
    thin =
    thin_finished rest (record under { references = 0 })
    (known_put row.under.0 (record under { references = 0 }) silent.parts.objects next.parts.objects loses.objects) refl losers more all own
    (subst (λ (z : CopyTable). IsThinBut z losers next.chains next.parts.objects) (sym (ap (λ (z : FinishState). z.copies) loses.rest))
    (thin_put row.under under (record under { references = 0 }) silent.chains next.chains silent.parts.objects next.parts.objects losers losers
    (drops_keeps object.0 silent.chains next.chains loses.chains) loses.under refl loses.objects (λ x has. has) (λ one. absurd (omega (arith, one)))
    (at_silent object is old bare quiet silent known found there none pages control copies same losers thin)))

-- a region goes, and its top loses a reference
pub thin_region : (k : Parts) (r left : ℕ) (object : ObjectId) (chains : ChainTable) (objects : ObjectTable) (losers more : List ObjectId)
    → LosesRegion k r left object chains objects → ((x : ObjectId) → Contains losers x → Contains more x) → (left ≡ 1 → Contains more object)
    → IsThinBut k.copies losers k.chains k.memory.objects → IsThinBut k.copies more chains objects
thin_region k r left object chains objects losers more loses all own thin =
    thin_put loses.row.top loses.was (record loses.was { references = left }) k.chains chains k.memory.objects objects losers more
    (λ o row is. sym (ap (λ f. f o) loses.region.shadows) ∙ is) loses.known refl loses.put all (λ one. subst (Contains more) loses.top (own one)) thin

-- an object under which nothing stands leaves none

quiet_chains : {host : HostId} {object : ObjectId} {known : ObjectRow} (bare quiet : FinishState) → ControlEnds host object known bare quiet
    → quiet.chains ≡ bare.chains
quiet_chains bare quiet (NoControl dead is) = ap (λ (z : FinishState). z.chains) is
quiet_chains bare quiet (IsTold live keeps put told) = ap (λ (z : FinishState). z.chains) keeps.is

not_under : {host : HostId} {known : ObjectRow} (object : ObjectId) (row : ShadowRow) (old bare quiet silent : FinishState)
    → PagesLeave host object known 0 old bare → ControlEnds host object known bare quiet → silent ≡ record quiet { copies = silent.copies }
    → shadow_at silent.chains object.0 ≡ Some row → shadow_at old.chains object.0 ≡ None → ⊥
not_under object row old bare quiet silent pages control is found none =
    let same : silent.chains ≡ old.chains = ap (λ (z : FinishState). z.chains) is
    ∙ (quiet_chains bare quiet control ∙ (pages_keep 0 old bare pages).1.0) in
    let bad : None ≡ Some row = sym none ∙ (sym (ap (λ (z : ChainTable). shadow_at z object.0) same) ∙ found) in
    cc

pub bare_left : {host : HostId} {object : ObjectId} {old new : FinishState} (f : Finishes host object old new) → shadow_at old.chains object.0 ≡ None
    → left_of f ≡ None
bare_left (Alone object is old bare quiet new found pages control copies same bottom) none = refl
bare_left (OverOne object is under row left old bare quiet silent new found pages control copies same loses some) none =
    absurd (not_under object row old bare quiet silent pages control same loses.found none)
bare_left (Downward object is under row old bare quiet silent next new found pages control copies same loses rest) none =
    absurd (not_under object row old bare quiet silent pages control same loses.found none)

-- where none is left, nothing can be merged if nothing could be
pub leaves_none : (left : Option ObjectId) (old new : Parts) → LeavesLoser left old new → left ≡ None → IsThin old.copies old.chains old.memory.objects
    → IsThin new.copies new.chains new.memory.objects
leaves_none left old new leaves none thin =
    thin_none new.chains new.memory.objects
    (leaves [] [] (λ x has. has) (λ o is. absurd (let bad : None ≡ Some o = sym none ∙ is in cc)) (λ u l can. absurd (thin u l can)))

-- the end of a region that is all that refers to its top: nothing refers to that any more, and it is no shadow still

one_row : {k : Parts} {r left : ℕ} {object : ObjectId} {chains : ChainTable} {objects : ObjectTable} (loses : LosesRegion k r left object chains objects)
    (bare : IsBareTop r k) → loses.row ≡ bare.row
one_row loses bare = some_is loses.row bare.row (sym loses.found ∙ bare.found)

pub last_reference : {k : Parts} {r left : ℕ} {object : ObjectId} {chains : ChainTable} {objects : ObjectTable}
    → LosesRegion k r left object chains objects → IsBareTop r k → left ≡ 0
last_reference {k = k} loses bare =
    let top : object_at k.memory.objects loses.row.top.0 ≡ Some bare.known = ap (λ (z : RegionRow). object_at k.memory.objects z.top.0) (one_row loses bare)
    ∙ bare.top in
    let count = ap (λ (z : ObjectRow). z.references) (some_is loses.was bare.known (sym loses.known ∙ top)) in
    let one = bare.one in
    let less = loses.less in
    omega (arith, count, one, less)

pub bare_behind : {k : Parts} {r left : ℕ} {object : ObjectId} {chains : ChainTable} {objects : ObjectTable}
    → LosesRegion k r left object chains objects → IsBareTop r k → shadow_at chains object.0 ≡ None
bare_behind {k = k} {object = object} loses bare =
    ap (λ f. f object.0) loses.region.shadows
    ∙ (ap (λ (z : ObjectId). shadow_at k.chains z.0) loses.top
    ∙ (ap (λ (z : RegionRow). shadow_at k.chains z.top.0) (one_row loses bare) ∙ bare.bare))
