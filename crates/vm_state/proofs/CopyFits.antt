-- The copy objects of a host fit its other tables still, while pages, objects, chains and copy objects change.
use Rattle.std.proofs.Common.{Bool, List, None, Option, Some, ap, false, inl, inr, refl, subst, sym, true, ℕ, ◌&&◌, ◌+◌, ◌==◌, ◌∙◌, ◌≡◌}
use Rattle.std.proofs.lemmas.Bool.Decides.{eqb_tells}
use Rattle.std.specs.Prelude.{IfSome, IsSome, IsSomeAnd, if◌then◌else◌, is_some, ◌⊎◌}
use Rattle.vm_abroad.proofs.Own.{itself}
use Rattle.vm_base.specs.declared.ids.FrameNo.{FrameNo}
use Rattle.vm_base.specs.declared.ids.ObjectId.{ObjectId}
use Rattle.vm_base.specs.declared.ids.PageKey.{PageKey}
use Rattle.vm_copies.specs.Copies.{EndsCopy, AreNewest, CopyRow, CopyTable, IsCopyOf, among, copy_at, had_at, newest_at, other_than}
use Rattle.vm_fault.specs.Pushes.{CopiesFit, CopyFits, Notes, OfCopy, OfOther, StandsOn}
use Rattle.vm_objects.specs.Objects.{ObjectTable, PutsObject, SameObjects, object_at}
use Rattle.vm_objects.specs.declared.row.ObjectRow.{ObjectRow}
use Rattle.vm_parts.proofs.Rows.{if_true, one_case, row_cases, some_is}
use Rattle.vm_parts.specs.Changes.{Changes, is_here}
use Rattle.vm_parts.specs.Fits.{object_pages, pages_of_row}
use Rattle.vm_parts.specs.Merging.{Goes, MovesUp, Next, NoMore, PageMerges, PagesMerge}
use Rattle.vm_parts.specs.declared.parts.HostParts.{HostParts}
use Rattle.vm_queues.specs.Queues.{Queues}
use Rattle.vm_resident.specs.Resident.{PutsRow, ResidentTable, row_at}
use Rattle.vm_resident.specs.declared.page_row.PageRow.{PageRow}
use Rattle.vm_shadow.specs.Chains.{ChainTable, DropsShadow, MergesShadow, PutsRegion, Rebases, ShadowsRegion, joined, shadow_at}
use Rattle.vm_shadow.specs.declared.region_row.RegionRow.{RegionRow}
use Rattle.vm_shadow.specs.declared.shadow_row.ShadowRow.{ShadowRow}
use Rattle.vm_state.proofs.CopyObjects.{BeginsCopy, ended_before, ended_had, ended_row, is_known, newest_was, no_row}
use Rattle.vm_state.proofs.Knowing.{known_cases}

its_row : (x : Option CopyRow) (P : CopyRow → Type 0) → IsSomeAnd x P → (row : CopyRow) × (x ≡ Some row) × P row
its_row None P some = absurd some
its_row (Some row) P some = (row, refl, some)

-- each source's newest copy lives, and is that source's
pub newest_row : {copies : CopyTable} → AreNewest copies → (s : ℕ) (c : ObjectId) → newest_at copies s ≡ Some c
    → (row : CopyRow) × (copy_at copies c.0 ≡ Some row) × (row.source.0 ≡ s)
newest_row {copies = copies} living s c is =
    its_row (copy_at copies c.0) (λ row. row.source.0 ≡ s)
    (subst (λ (z : Option ObjectId). IfSome z (λ d. IsCopyOf s (copy_at copies d.0))) is (living.at s))

are_newest : (copies : CopyTable)
    → ((s : ℕ) (c : ObjectId) → newest_at copies s ≡ Some c → (row : CopyRow) × (copy_at copies c.0 ≡ Some row) × (row.source.0 ≡ s)) → AreNewest copies
are_newest copies each = record { at = λ s. by s (newest_at copies s) (each s) }
  where
    by : (s : ℕ) (x : Option ObjectId)
        → ((c : ObjectId) → x ≡ Some c → (row : CopyRow) × (copy_at copies c.0 ≡ Some row) × (row.source.0 ≡ s))
        → IfSome x (λ c. IsCopyOf s (copy_at copies c.0))
    by s None all = tt
    by s (Some c) all = let its = all c refl in subst (λ (z : Option CopyRow). IsCopyOf s z) (sym its.1) its.2

-- no source has the object as its newest copy
abbrev pub IsNoNewest : CopyTable → ℕ → Type 0
IsNoNewest copies o = (s : ℕ) (c : ObjectId) → newest_at copies s ≡ Some c → o ≡ c.0 → ⊥

-- an object that is no copy object is no newest one
pub plain_no_newest : {copies : CopyTable} (o : ℕ) → AreNewest copies → copy_at copies o ≡ None → IsNoNewest copies o
plain_no_newest {copies = copies} o living none s c is same =
    let its = newest_row living s c is in
    no_row (copy_at copies o) its.0 none (ap (copy_at copies) same ∙ its.1)

-- an object that isn't known is no copy object
pub unknown_plain : {copies : CopyTable} {parts : HostParts} {chains : ChainTable} (o : ℕ) → CopiesFit copies parts chains
    → object_at parts.objects o ≡ None → copy_at copies o ≡ None
unknown_plain {copies = copies} {parts = parts} o fit none = by (copy_at copies o) refl
  where
    by : (x : Option CopyRow) → copy_at copies o ≡ x → x ≡ None
    by None is = refl
    by (Some row) is =
        let known = is_known (object_at parts.objects o) (fit.fits o row is).known in
        no_row (object_at parts.objects o) known.0 none known.1

-- nor has it one, where all that shadows stand on is known
pub unknown_uncopied : {copies : CopyTable} {parts : HostParts} {chains : ChainTable} (o : ℕ) → CopiesFit copies parts chains
    → ((s : ℕ) (row : ShadowRow) → shadow_at chains s ≡ Some row → IsSome (object_at parts.objects row.under.0)) → object_at parts.objects o ≡ None
    → newest_at copies o ≡ None
unknown_uncopied {copies = copies} {parts = parts} o fit under none = by (newest_at copies o) refl
  where
    by : (x : Option ObjectId) → newest_at copies o ≡ x → x ≡ None
    by None is = refl
    by (Some c) is =
        let on = fit.stands o c is in
        let known = is_known (object_at parts.objects on.row.under.0) (under c.0 on.row on.found) in
        no_row (object_at parts.objects o) known.0 none (ap (object_at parts.objects) (sym on.under) ∙ known.1)

-- what stands on an object that has no copy is no newest one
pub uncopied_no_newest : {copies : CopyTable} {parts : HostParts} {chains : ChainTable} (o : ℕ) (row : ShadowRow) → CopiesFit copies parts chains
    → shadow_at chains o ≡ Some row → newest_at copies row.under.0 ≡ None → IsNoNewest copies o
uncopied_no_newest {copies = copies} {chains = chains} o row fit found none s c is same =
    let on = fit.stands s c is in
    let rows : row ≡ on.row = some_is row on.row (sym found ∙ (ap (shadow_at chains) same ∙ on.found)) in
    let under : row.under.0 ≡ s = ap (λ (z : ShadowRow). z.under.0) rows ∙ on.under in
    no_row (newest_at copies row.under.0) c none (ap (newest_at copies) under ∙ is)

-- an object is known still, with as many pages
pub record StaysKnown (os os2 : ObjectTable) (o : ℕ) : Type 0 where
  pub known : IsSome (object_at os o) → IsSome (object_at os2 o)
  pub pages : object_pages os2 o ≡ object_pages os o

-- an object neither is a copy object nor has one
pub record IsUncopied (copies : CopyTable) (o : ℕ) : Type 0 where
  pub plain : copy_at copies o ≡ None
  pub bare : newest_at copies o ≡ None

-- a page may be here: it was, or its object is no copy object, or is one that has had it
pub data MayBeHere (copies : CopyTable) (rs : ResidentTable) (o p : ℕ) : Type 0 where
  WasHere : (page : PageRow) → row_at rs o p ≡ Some page → page.here ≡ true → MayBeHere copies rs o p
  OfNone : copy_at copies o ≡ None → MayBeHere copies rs o p
  HasHad : had_at copies o p ≡ true → MayBeHere copies rs o p

-- tables change around copy objects that stay
pub fits_kept : {copies : CopyTable} {parts parts2 : HostParts} {chains chains2 : ChainTable}
    → ((o : ℕ) → StaysKnown parts.objects parts2.objects o ⊎ IsUncopied copies o)
    → ((o p : ℕ) (page : PageRow) → row_at parts2.resident o p ≡ Some page → page.here ≡ true → MayBeHere copies parts.resident o p)
    → ((s : ℕ) (c : ObjectId) → newest_at copies s ≡ Some c → shadow_at chains2 c.0 ≡ shadow_at chains c.0) → CopiesFit copies parts chains
    → CopiesFit copies parts2 chains2
fits_kept {copies = copies} {parts = parts} {parts2 = parts2} stays may over fit =
    record {
      living = fit.living;
      fits = λ c row is.
          let same = copy_stays c row is in
          let was = fit.fits c row is in
          record {
            known = same.known was.known;
            pages = same.pages ∙ was.pages;
            had = λ p page found here. had_now c p row is (may c p page found here);
          };
      stands = λ s c is.
          let its = newest_row fit.living s c is in
          let on = fit.stands s c is in
          record {
            row = on.row;
            found = over s c is ∙ on.found;
            under = on.under;
            shift = on.shift;
            pages = (copy_stays c.0 its.0 its.1).pages ∙ (on.pages ∙ sym (source_stays s c is).pages);
          };
    }
  where
    copy_stays : (c : ℕ) (row : CopyRow) → copy_at copies c ≡ Some row → StaysKnown parts.objects parts2.objects c
    copy_stays c row is = elim (stays c) [ inl same ↦ same | inr un ↦ no_row (copy_at copies c) row un.plain is ]

    source_stays : (s : ℕ) (c : ObjectId) → newest_at copies s ≡ Some c → StaysKnown parts.objects parts2.objects s
    source_stays s c is = elim (stays s) [ inl same ↦ same | inr un ↦ no_row (newest_at copies s) c un.bare is ]

    had_now : (c p : ℕ) (row : CopyRow) → copy_at copies c ≡ Some row → MayBeHere copies parts.resident c p → had_at copies c p ≡ true
    had_now c p row is (WasHere page found here) = (fit.fits c row is).had p page found here
    had_now c p row is (OfNone none) = no_row (copy_at copies c) row none is
    had_now c p row is (HasHad had) = had

-- the same is known of each object
stays_same : {os os2 : ObjectTable} → SameObjects os os2 → (o : ℕ) → StaysKnown os os2 o
stays_same same o = record { known = λ is. ap is_some (same.at o) ∙ is; pages = ap pages_of_row (same.at o) }

objects_same : {os os2 : ObjectTable} → os2 ≡ os → SameObjects os os2
objects_same same = record { at = λ o. ap (λ (z : ObjectTable). object_at z o) same }

-- no page has come
none_comes : {copies : CopyTable} {rs rs2 : ResidentTable} → rs2 ≡ rs → (o p : ℕ) (page : PageRow) → row_at rs2 o p ≡ Some page → page.here ≡ true
    → MayBeHere copies rs o p
none_comes same o p page found here = WasHere page (sym (ap (λ (z : ResidentTable). row_at z o p) same) ∙ found) here

-- all objects are known as they were
pub fits_same : {copies : CopyTable} {parts parts2 : HostParts} {chains : ChainTable} → SameObjects parts.objects parts2.objects
    → parts2.resident ≡ parts.resident → CopiesFit copies parts chains → CopiesFit copies parts2 chains
fits_same same rows fit = fits_kept (λ o. inl (stays_same same o)) (none_comes rows) (λ s c is. refl) fit

-- pages come where they may, and go
pub fits_pages : {copies : CopyTable} {parts parts2 : HostParts} {chains : ChainTable} → SameObjects parts.objects parts2.objects
    → ((o p : ℕ) (page : PageRow) → row_at parts2.resident o p ≡ Some page → page.here ≡ true → MayBeHere copies parts.resident o p)
    → CopiesFit copies parts chains → CopiesFit copies parts2 chains
fits_pages same may fit = fits_kept (λ o. inl (stays_same same o)) may (λ s c is. refl) fit

-- one page has another row, or none
pub fits_row : {copies : CopyTable} {parts parts2 : HostParts} {chains : ChainTable} (o p : ℕ) (x : Option PageRow) → SameObjects parts.objects parts2.objects
    → PutsRow o p x parts.resident parts2.resident
    → ((page : PageRow) → x ≡ Some page → page.here ≡ true → MayBeHere copies parts.resident o p) → CopiesFit copies parts chains
    → CopiesFit copies parts2 chains
fits_row {copies = copies} {parts = parts} {parts2 = parts2} o p x same put may fit = fits_pages same here_now fit
  where
    moved : (o2 p2 : ℕ) → o ≡ o2 → p ≡ p2 → MayBeHere copies parts.resident o p → MayBeHere copies parts.resident o2 p2
    moved o2 p2 same also its =
        subst (λ (z : ℕ). MayBeHere copies parts.resident o2 z) also (subst (λ (z : ℕ). MayBeHere copies parts.resident z p) same its)

    here_now : (o2 p2 : ℕ) (page : PageRow) → row_at parts2.resident o2 p2 ≡ Some page → page.here ≡ true → MayBeHere copies parts.resident o2 p2
    here_now o2 p2 page found here = elim (row_cases o p x parts.resident parts2.resident put o2 p2) [
      | inl this ↦ moved o2 p2 this.object this.page (may page (sym this.is ∙ found) here)
      | inr other ↦ WasHere page (sym other.is ∙ found) here
    ]

-- one page has no row now
pub fits_gone : {copies : CopyTable} {parts parts2 : HostParts} {chains : ChainTable} (o p : ℕ) → SameObjects parts.objects parts2.objects
    → PutsRow o p None parts.resident parts2.resident → CopiesFit copies parts chains → CopiesFit copies parts2 chains
fits_gone o p same put fit = fits_row o p None same put (λ page is here. absurd (let bad : None ≡ Some page = is in cc)) fit

-- a page and a frame change, and the page was here if it is so now
pub fits_changed : {copies : CopyTable} {parts parts2 : HostParts} {chains : ChainTable} (key : PageKey) (frame : FrameNo) (was now : Option PageRow)
    (held : Bool) (bytes : List ℕ) (lists : Queues) → SameObjects parts.objects parts2.objects → Changes key frame was now held bytes lists parts parts2
    → (is_here now ≡ true → is_here was ≡ true) → CopiesFit copies parts chains → CopiesFit copies parts2 chains
fits_changed {copies = copies} {parts = parts} key frame was now held bytes lists same changes before fit =
    fits_row key.object.0 key.page.0 now same changes.row (λ page is here. by was changes.found (before (ap is_here is ∙ here))) fit
  where
    by : (x : Option PageRow) → row_at parts.resident key.object.0 key.page.0 ≡ x → is_here x ≡ true → MayBeHere copies parts.resident key.object.0 key.page.0
    by None found here = absurd (let bad : false ≡ true = here in cc)
    by (Some page) found here = WasHere page found here

-- one object is known otherwise, with as many pages
pub fits_put : {copies : CopyTable} {parts parts2 : HostParts} {chains : ChainTable} (o : ℕ) (row new : ObjectRow) → object_at parts.objects o ≡ Some row
    → new.pages ≡ row.pages → PutsObject o (Some new) parts.objects parts2.objects → parts2.resident ≡ parts.resident → CopiesFit copies parts chains
    → CopiesFit copies parts2 chains
fits_put {copies = copies} {parts = parts} {parts2 = parts2} o row new found pages put rows fit =
    fits_kept (λ x. inl (stays x)) (none_comes rows) (λ s c is. refl) fit
  where
    stays : (x : ℕ) → StaysKnown parts.objects parts2.objects x
    stays x = elim (known_cases o new parts.objects parts2.objects put x) [
      | inl this ↦ record {
        known = λ is. ap is_some this.1;
        pages = ap pages_of_row this.1 ∙ (pages ∙ sym (ap pages_of_row (ap (object_at parts.objects) (sym this.0) ∙ found)));
      }
      | inr other ↦ record { known = λ is. ap is_some other.1 ∙ is; pages = ap pages_of_row other.1 }
    ]

-- one more object is known, of which there is no copy
pub fits_new : {copies : CopyTable} {parts parts2 : HostParts} {chains : ChainTable} (o : ℕ) (new : ObjectRow) → object_at parts.objects o ≡ None
    → newest_at copies o ≡ None → PutsObject o (Some new) parts.objects parts2.objects → parts2.resident ≡ parts.resident → CopiesFit copies parts chains
    → CopiesFit copies parts2 chains
fits_new {copies = copies} {parts = parts} {parts2 = parts2} o new none bare put rows fit = fits_kept stays (none_comes rows) (λ s c is. refl) fit
  where
    stays : (x : ℕ) → StaysKnown parts.objects parts2.objects x ⊎ IsUncopied copies x
    stays x = elim (known_cases o new parts.objects parts2.objects put x) [
      | inl this ↦ inr (record {
        plain = ap (copy_at copies) (sym this.0) ∙ unknown_plain o fit none;
        bare = ap (newest_at copies) (sym this.0) ∙ bare;
      })
      | inr other ↦ inl (record { known = λ is. ap is_some other.1 ∙ is; pages = ap pages_of_row other.1 })
    ]

-- chains change, and the newest copies stand on what they stood on
pub fits_chains : {copies : CopyTable} {parts : HostParts} {chains chains2 : ChainTable}
    → ((s : ℕ) (c : ObjectId) → newest_at copies s ≡ Some c → shadow_at chains2 c.0 ≡ shadow_at chains c.0) → CopiesFit copies parts chains
    → CopiesFit copies parts chains2
fits_chains over fit =
    fits_kept (λ o. inl (record { known = λ is. is; pages = refl })) (λ o p page found here. WasHere page found here) over fit

-- all that stands on something stands on that still
pub fits_regions : {copies : CopyTable} {parts : HostParts} {chains chains2 : ChainTable} → shadow_at chains2 ≡ shadow_at chains
    → CopiesFit copies parts chains → CopiesFit copies parts chains2
fits_regions same fit = fits_chains (λ s c is. ap (λ (f : ℕ → Option ShadowRow). f c.0) same) fit

-- one region has another row, or goes
pub fits_region : {copies : CopyTable} {parts : HostParts} {chains chains2 : ChainTable} (r : ℕ) (x : Option RegionRow) → PutsRegion r x chains chains2
    → CopiesFit copies parts chains → CopiesFit copies parts chains2
fits_region r x put fit = fits_regions put.shadows fit

-- something else stands under an object that is no newest copy, or nothing
fits_under : {copies : CopyTable} {parts : HostParts} {chains chains2 : ChainTable} (o : ℕ) (x : Option ShadowRow)
    → ((o2 : ℕ) → shadow_at chains2 o2 ≡ (if o == o2 then x else shadow_at chains o2)) → IsNoNewest copies o → CopiesFit copies parts chains
    → CopiesFit copies parts chains2
fits_under {chains = chains} {chains2 = chains2} o x put none fit =
    fits_chains (λ s c is. elim (one_case o c.0 x (shadow_at chains c.0) (shadow_at chains2 c.0) (put c.0)) [
      | inl this ↦ absurd (none s c is this.0)
      | inr other ↦ other.1
    ]) fit

-- a region gets an object of its own
pub fits_shadowed : {copies : CopyTable} {parts : HostParts} {chains chains2 : ChainTable} (r : ℕ) (object : ObjectId) (row : RegionRow)
    → ShadowsRegion r object row chains chains2 → IsNoNewest copies object.0 → CopiesFit copies parts chains → CopiesFit copies parts chains2
fits_shadowed r object row shadows none fit = fits_under object.0 (Some (record { under = row.top; shift = row.shift })) shadows.under none fit

-- an object stands on nothing any more
pub fits_dropped : {copies : CopyTable} {parts : HostParts} {chains chains2 : ChainTable} (o : ℕ) → DropsShadow o chains chains2 → IsNoNewest copies o
    → CopiesFit copies parts chains → CopiesFit copies parts chains2
fits_dropped o drops none fit = fits_under o None drops.at none fit

-- an object stands on another
pub fits_rebased : {copies : CopyTable} {parts : HostParts} {chains chains2 : ChainTable} (o : ℕ) (under : ObjectId) → Rebases o under chains chains2
    → IsNoNewest copies o → CopiesFit copies parts chains → CopiesFit copies parts chains2
fits_rebased o under rebases none fit = fits_under o (Some (record { under = under; shift = 0 })) rebases.at none fit

-- an object is merged into its shadow, and neither is a newest copy
pub fits_joined : {copies : CopyTable} {parts : HostParts} {chains chains2 : ChainTable} (upper lower : ℕ) (up : ShadowRow)
    → MergesShadow upper lower up chains chains2 → IsNoNewest copies upper → IsNoNewest copies lower → CopiesFit copies parts chains
    → CopiesFit copies parts chains2
fits_joined {copies = copies} {chains = chains} {chains2 = chains2} upper lower up merges above below fit =
    fits_chains (λ s c is. elim (one_case upper c.0 (joined up (shadow_at chains lower)) (else_at c.0) (shadow_at chains2 c.0) (merges.at c.0)) [
      | inl this ↦ absurd (above s c is this.0)
      | inr other ↦ other.1 ∙ kept s c is
    ]) fit
  where
    else_at : ℕ → Option ShadowRow
    else_at o = if lower == o then None else shadow_at chains o

    kept : (s : ℕ) (c : ObjectId) → newest_at copies s ≡ Some c → else_at c.0 ≡ shadow_at chains c.0
    kept s c is = elim (one_case lower c.0 None (shadow_at chains c.0) (else_at c.0) refl) [ inl this ↦ absurd (below s c is this.0) | inr other ↦ other.1 ]

fits_one : {copies : CopyTable} {chains : ChainTable} (upper : ObjectId) (shift pages : ℕ) (key : PageKey) (row : PageRow) (old new : HostParts)
    → new.objects ≡ old.objects → copy_at copies upper.0 ≡ None → PageMerges upper shift pages key row old new → CopiesFit copies old chains
    → CopiesFit copies new chains
fits_one {copies = copies} upper shift pages key row old new same none (MovesUp to at inside shifts) fit =
    fits_pages (objects_same same) (λ o p page found here. by o p page (sym (shifts.rows o p) ∙ found) here) fit
  where
    by : (o p : ℕ) (page : PageRow)
        → (if upper.0 == o && to.0 == p then Some row else (if key.object.0 == o && key.page.0 == p then None else row_at old.resident o p)) ≡ Some page
        → page.here ≡ true → MayBeHere copies old.resident o p
    by o p page is here = elim (eqb_tells upper.0 o) [
      | inl this ↦ OfNone (ap (copy_at copies) (sym this.1) ∙ none)
      | inr other ↦
          before (key.object.0 == o && key.page.0 == p)
          (sym (ap (λ b. if b && to.0 == p then Some row else (if key.object.0 == o && key.page.0 == p then None else row_at old.resident o p)) other.0) ∙ is)
    ]
      where
        before : (b : Bool) → (if b then None else row_at old.resident o p) ≡ Some page → MayBeHere copies old.resident o p
        before true is = absurd (let bad : ◌≡◌ {A = Option PageRow} None (Some page) = is in cc)
        before false is = WasHere page is here
fits_one upper shift pages key row old new same none (Goes high discards) fit = fits_gone key.object.0 key.page.0 (objects_same same) discards.row fit

-- the pages of an object go up to one that is no copy object
pub fits_merged : {copies : CopyTable} {chains : ChainTable} (upper lower : ObjectId) (shift pages from : ℕ) (old new : HostParts)
    → copy_at copies upper.0 ≡ None → PagesMerge upper lower shift pages from old new → CopiesFit copies old chains → CopiesFit copies new chains
fits_merged upper lower shift pages from old new none (NoMore first s gone) fit = fit
fits_merged upper lower shift pages from old new none (Next first page row parts mid last le low found same one rest) fit =
    fits_merged upper lower shift pages (page.0 + 1) mid new none rest
    (fits_one upper shift pages (record { object = lower; page = page }) row parts mid same none one fit)

still_had : (b x : Bool) → x ≡ true → (if b then true else x) ≡ true
still_had true x is = refl
still_had false x is = is

-- a page is noted
pub fits_noted : {copies copies2 : CopyTable} {parts : HostParts} {chains : ChainTable} (key : PageKey) → Notes key copies copies2
    → CopiesFit copies parts chains → CopiesFit copies2 parts chains
fits_noted {parts = parts} {chains = chains} key (OfOther none same) fit = subst (λ (z : CopyTable). CopiesFit z parts chains) (sym same) fit
fits_noted {copies = copies} {copies2 = copies2} {parts = parts} {chains = chains} key (OfCopy row found put noted newest room) fit =
    record {
      living = are_newest copies2 (λ s c is. let its = newest_row fit.living s c (newest_before s c is) in later c.0 its.0 s its.1 its.2);
      fits = λ c now is.
          let was = before c now is in
          let fits = fit.fits c was.0 was.1 in
          record {
            known = fits.known;
            pages = fits.pages ∙ was.2;
            had = λ p page stood here. noted.at c p ∙ still_had ((key.object.0 == c) && (key.page.0 == p)) (had_at copies c p) (fits.had p page stood here);
          };
      stands = λ s c is. fit.stands s c (newest_before s c is);
    }
  where
    newest_before : (s : ℕ) (c : ObjectId) → newest_at copies2 s ≡ Some c → newest_at copies s ≡ Some c
    newest_before s c is = sym (ap (among s) newest) ∙ is

    before : (c : ℕ) (now : CopyRow) → copy_at copies2 c ≡ Some now → (was : CopyRow) × (copy_at copies c ≡ Some was) × (was.pages ≡ now.pages)
    before c now is = elim (one_case key.object.0 c _ (copy_at copies c) (copy_at copies2 c) (put.at c)) [
      | inl this ↦ (row, ap (copy_at copies) (sym this.0) ∙ found, ap (λ (z : CopyRow). z.pages) (some_is _ now (sym this.1 ∙ is)))
      | inr other ↦ (now, sym other.1 ∙ is, refl)
    ]

    later : (c : ℕ) (was : CopyRow) (s : ℕ) → copy_at copies c ≡ Some was → was.source.0 ≡ s
        → (now : CopyRow) × (copy_at copies2 c ≡ Some now) × (now.source.0 ≡ s)
    later c was s is its = elim (one_case key.object.0 c _ (copy_at copies c) (copy_at copies2 c) (put.at c)) [
      | inl this ↦
          let same : row ≡ was = some_is row was (sym found ∙ (ap (copy_at copies) this.0 ∙ is)) in
          (_, this.1, ap (λ (z : CopyRow). z.source.0) same ∙ its)
      | inr other ↦ (was, other.1 ∙ is, its)
    ]

-- it has been had, where its object is a copy object
noted_had : {copies copies2 : CopyTable} {rs : ResidentTable} (key : PageKey) → Notes key copies copies2 → MayBeHere copies2 rs key.object.0 key.page.0
noted_had key (OfOther none same) = OfNone (ap (λ (z : CopyTable). copy_at z key.object.0) same ∙ none)
noted_had {copies = copies} key (OfCopy row found put noted newest room) =
    HasHad (noted.at key.object.0 key.page.0
    ∙ (ap (λ b. if b && (key.page.0 == key.page.0) then true else had_at copies key.object.0 key.page.0) (itself key.object.0)
    ∙ ap (λ b. if b then true else had_at copies key.object.0 key.page.0) (itself key.page.0)))

-- a page comes, and is noted
pub fits_came : {copies copies2 : CopyTable} {parts parts2 : HostParts} {chains : ChainTable} (key : PageKey) (x : Option PageRow)
    → SameObjects parts.objects parts2.objects → PutsRow key.object.0 key.page.0 x parts.resident parts2.resident → Notes key copies copies2
    → CopiesFit copies parts chains → CopiesFit copies2 parts2 chains
fits_came key x same put notes fit = fits_row key.object.0 key.page.0 x same put (λ page is here. noted_had key notes) (fits_noted key notes fit)

-- a file gets a copy object: a known object without pages that stands on it
pub fits_begun : {copies copies2 : CopyTable} {parts : HostParts} {chains : ChainTable} (source copy : ObjectId) (row : CopyRow) (known : ObjectRow)
    → copy_at copies copy.0 ≡ None → BeginsCopy source copy row copies copies2 → row.source.0 ≡ source.0 → object_at parts.objects copy.0 ≡ Some known
    → known.pages ≡ row.pages → ((p : ℕ) → row_at parts.resident copy.0 p ≡ None) → StandsOn parts chains source.0 copy.0 → CopiesFit copies parts chains
    → CopiesFit copies2 parts chains
fits_begun {copies = copies} {copies2 = copies2} {parts = parts} {chains = chains} source copy row known none begins its found pages empty on fit =
    record {
      living = are_newest copies2 (λ s c is. lives s c is);
      fits = λ c now is. elim (one_case copy.0 c (Some row) (copy_at copies c) (copy_at copies2 c) (begins.put.at c)) [
        | inl this ↦ subst (λ (z : ℕ). CopyFits copies2 parts z now) this.0 (of_new now (some_is row now (sym this.1 ∙ is)))
        | inr other ↦ of_other c now other.0 (fit.fits c now (sym other.1 ∙ is))
      ];
      stands = λ s c is. elim (one_case source.0 s (Some copy) (newest_at copies s) (newest_at copies2 s) (begins.newest.at s)) [
        | inl this ↦
            subst (λ (z : ObjectId). StandsOn parts chains s z.0) (some_is copy c (sym this.1 ∙ is))
            (subst (λ (z : ℕ). StandsOn parts chains z copy.0) this.0 on)
        | inr other ↦ fit.stands s c (sym other.1 ∙ is)
      ];
    }
  where
    here : copy_at copies2 copy.0 ≡ Some row
    here = if_true copy.0 (Some row) (copy_at copies copy.0) (copy_at copies2 copy.0) (begins.put.at copy.0)

    stays : (c : ℕ) (its : CopyRow) → copy_at copies c ≡ Some its → copy_at copies2 c ≡ Some its
    stays c its is = elim (one_case copy.0 c (Some row) (copy_at copies c) (copy_at copies2 c) (begins.put.at c)) [
      | inl this ↦ no_row (copy_at copies copy.0) its none (ap (copy_at copies) this.0 ∙ is)
      | inr other ↦ other.1 ∙ is
    ]

    lives : (s : ℕ) (c : ObjectId) → newest_at copies2 s ≡ Some c → (now : CopyRow) × (copy_at copies2 c.0 ≡ Some now) × (now.source.0 ≡ s)
    lives s c is = elim (one_case source.0 s (Some copy) (newest_at copies s) (newest_at copies2 s) (begins.newest.at s)) [
      | inl this ↦
          let same : copy ≡ c = some_is copy c (sym this.1 ∙ is) in
          (row, ap (λ (z : ObjectId). copy_at copies2 z.0) (sym same) ∙ here, its ∙ this.0)
      | inr other ↦ let was = newest_row fit.living s c (sym other.1 ∙ is) in (was.0, stays c.0 was.0 was.1, was.2)
    ]

    of_new : (now : CopyRow) → row ≡ now → CopyFits copies2 parts copy.0 now
    of_new now same = record {
      known = ap is_some found;
      pages = ap pages_of_row found ∙ (pages ∙ ap (λ (z : CopyRow). z.pages) same);
      had = λ p page stood here. no_row (row_at parts.resident copy.0 p) page (empty p) stood;
    }

    of_other : (c : ℕ) (now : CopyRow) → (copy.0 ≡ c → ⊥) → CopyFits copies parts c now → CopyFits copies2 parts c now
    of_other c now apart fits = record {
      known = fits.known;
      pages = fits.pages;
      had = λ p page stood here. elim (one_case copy.0 c false (had_at copies c p) (had_at copies2 c p) (begins.had.at c p)) [
        | inl this ↦ absurd (apart this.0)
        | inr other ↦ other.1 ∙ fits.had p page stood here
      ];
    }

-- the copy object that was the newest until then is no newest any more
pub begun_older : {copies copies2 : CopyTable} (source copy older : ObjectId) (row : CopyRow) → AreNewest copies → copy_at copies copy.0 ≡ None
    → BeginsCopy source copy row copies copies2 → newest_at copies source.0 ≡ Some older → IsNoNewest copies2 older.0
begun_older {copies = copies} {copies2 = copies2} source copy older row living none begins was s c is same =
    elim (one_case source.0 s (Some copy) (newest_at copies s) (newest_at copies2 s) (begins.newest.at s)) [
      | inl this ↦
          let new : copy ≡ c = some_is copy c (sym this.1 ∙ is) in
          no_row (copy_at copies copy.0) its.0 none (ap (copy_at copies) (ap (λ (z : ObjectId). z.0) new ∙ sym same) ∙ its.1)
      | inr other ↦
          let also = newest_row living s c (sym other.1 ∙ is) in
          let rows : its.0 ≡ also.0 = some_is its.0 also.0 (sym its.1 ∙ (ap (copy_at copies) same ∙ also.1)) in
          other.0 (sym its.2 ∙ (ap (λ (z : CopyRow). z.source.0) rows ∙ also.2))
    ]
  where
    its : (its : CopyRow) × (copy_at copies older.0 ≡ Some its) × (its.source.0 ≡ source.0)
    its = newest_row living source.0 older was

other_apart : (o : ℕ) (x : Option ObjectId) (c : ObjectId) → other_than o x ≡ Some c → o ≡ c.0 → ⊥
other_apart o None c is same = let bad : ◌≡◌ {A = Option ObjectId} None (Some c) = is in cc
other_apart o (Some d) c is same = elim (eqb_tells d.0 o) [
  | inl it ↦
      let bad : ◌≡◌ {A = Option ObjectId} None (Some c) = sym (ap (λ b. if b then None else Some d) it.0) ∙ is in
      cc
  | inr other ↦
      let one : d ≡ c = some_is d c (sym (ap (λ b. if b then None else Some d) other.0) ∙ is) in
      other.1 (ap (λ (z : ObjectId). z.0) one ∙ sym same)
]

-- a copy object that ends is no newest any more
pub ended_none : {o : ℕ} {row : CopyRow} {copies copies2 : CopyTable} → AreNewest copies → EndsCopy o row copies copies2 → IsNoNewest copies2 o
ended_none {o = o} {row = row} {copies = copies} {copies2 = copies2} living ends s c is same =
    elim (one_case row.source.0 s (other_than o (newest_at copies row.source.0)) (newest_at copies s) (newest_at copies2 s) (ends.newest.at s)) [
      | inl this ↦ other_apart o (newest_at copies row.source.0) c (sym this.1 ∙ is) same
      | inr other ↦
          let its = newest_row living s c (sym other.1 ∙ is) in
          let rows : row ≡ its.0 = some_is row its.0 (sym ends.found ∙ (ap (copy_at copies) same ∙ its.1)) in
          other.0 (ap (λ (z : CopyRow). z.source.0) rows ∙ its.2)
    ]

-- a copy object ends
pub fits_ended : {o : ℕ} {row : CopyRow} {copies copies2 : CopyTable} {parts : HostParts} {chains : ChainTable} → EndsCopy o row copies copies2
    → CopiesFit copies parts chains → CopiesFit copies2 parts chains
fits_ended {copies = copies} {copies2 = copies2} ends fit =
    record {
      living = are_newest copies2 (λ s c is.
          let its = newest_row fit.living s c (newest_was ends s c is) in
          (its.0, ended_row ends c.0 (ended_none fit.living ends s c is) ∙ its.1, its.2));
      fits = λ c now is.
          let was = ended_before ends c now is in
          let fits = fit.fits c now was.1 in
          record { known = fits.known; pages = fits.pages; had = λ p page stood here. ended_had ends c p was.0 ∙ fits.had p page stood here };
      stands = λ s c is. fit.stands s c (newest_was ends s c is);
    }
