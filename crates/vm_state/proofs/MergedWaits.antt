-- Who waits, where an object is merged into the shadow over it: nobody waits for either, and the places of each access are as they were, but for the lower's.
use Rattle.std.proofs.Common.{◌≡◌, ◌∙◌, ℕ, zero, suc, ◌+◌, ◌<◌, ◌≤◌, Bool, true, false, List, ◌∷◌, Option, Some, None, ap, arith, sym, subst, inl, inr}
use Rattle.std.proofs.lemmas.Bool.Decides.{eqb_tells}
use Rattle.std.specs.Prelude.{if◌then◌else◌, nat_lt, not}
use Rattle.vm_abroad.specs.Home.{HaveHomes}
use Rattle.vm_base.specs.declared.ids.Lock.{Lock}
use Rattle.vm_base.specs.declared.ids.ObjectId.{ObjectId}
use Rattle.vm_base.specs.declared.ids.PageKey.{PageKey}
use Rattle.vm_copies.specs.Copies.{CopyTable}
use Rattle.vm_fault.specs.Walks.{IsAt, IsUnder, is_storing, keeps_out}
use Rattle.vm_legal.specs.Walks.{page_on}
use Rattle.vm_maps.specs.Maps.{Mapped}
use Rattle.vm_model.specs.declared.event.Event.{Event}
use Rattle.vm_model.specs.declared.event.Event.TheVariants as event
use Rattle.vm_model.specs.declared.script.Header.{Header}
use Rattle.vm_model.specs.Homes.{object_home}
use Rattle.vm_model.specs.Local.{Elsewhere, Moves, local, merge_effect}
use Rattle.vm_model.specs.Named.{named}
use Rattle.vm_model.specs.Regions.{backing_of, object_pages as pages_made, region_of}
use Rattle.vm_model.specs.Waiting.{Access}
use Rattle.vm_objects.specs.Objects.{ObjectTable, object_at}
use Rattle.vm_objects.specs.declared.row.ObjectRow.{ObjectRow}
use Rattle.vm_objects.specs.declared.row.PagerState.TheVariants as state
use Rattle.vm_parts.proofs.Rows.{some_is}
use Rattle.vm_parts.specs.Changes.{unlocked}
use Rattle.vm_resident.specs.Resident.{ResidentTable, page_key, row_at}
use Rattle.vm_resident.specs.declared.page_row.PageRow.{PageRow}
use Rattle.vm_shadow.specs.Chains.{ChainTable, IsRanked, joined, region_at, shadow_at}
use Rattle.vm_shadow.specs.declared.ids.Ids.{Ids}
use Rattle.vm_shadow.specs.declared.region_row.RegionRow.{RegionRow}
use Rattle.vm_shadow.specs.declared.shadow_row.ShadowRow.{ShadowRow}
use Rattle.vm_state.proofs.Declared.{shadow_temporary}
use Rattle.vm_state.proofs.MergedPages.{AreHere, IsMerge, all_here, effect_else, effect_upper, places, table_effect, unmoved_away}
use Rattle.vm_state.proofs.Merging.{StandsNow, lower_quiet, merged_apart, others_stand, stands_now, upper_joined, upper_quiet}
use Rattle.vm_state.proofs.Moving.{IsBeyond, IsGone, IsMoved, IsOwn, IsSame, Rose, RowNow, RowWas, Stayed, row_now, row_was}
use Rattle.vm_state.proofs.Passing.{IsQuiet, Later, calm_of, effect_at, only_before, over_leads, stays_quiet, unmet_calm}
use Rattle.vm_state.proofs.Pushing.{asked_same, push_stays}
use Rattle.vm_state.proofs.Referring.{sole_region, sole_shadow}
use Rattle.vm_state.proofs.Told.{ready_referred, told_referred}
use Rattle.vm_state.proofs.Waiting.{IsAwaitedBy, awaited_elsewhere}
use Rattle.vm_state.specs.Merging.{MergesObjects, MergesRows}
use Rattle.vm_state.specs.Pagers.{has_pager, ready_in}
use Rattle.vm_state.specs.Passed.{IsPlaceBehind, IsUnmet, LeadsOver, Passed, StaysAway, Unmet}
use Rattle.vm_state.specs.Places.{place_of}
use Rattle.vm_state.specs.References.{AllReferred, MayLock, is_live_in}
use Rattle.vm_state.specs.Stands.{HasKinds, HasRegions, KnowsPages}
use Rattle.vm_state.specs.Waiters.{Asker, HasWaiters, IsAsked, IsPagerTold, IsPlaceOf, LeadsTo, Reason, WaitsToPush, is_awaited}
use Rattle.vm_waits.specs.declared.waiting.On.{On}
use Rattle.vm_waits.specs.declared.waiting.On.TheVariants as on
use Rattle.vm_waits.specs.declared.waiting.Waiting.{Waiting}
use Rattle.vm_waits.specs.declared.waiting.Want.{Want}
use Rattle.vm_waits.specs.declared.waiting.Want.TheVariants as want

-- a chain that leads somewhere does so over all places
leads_over : (chains : ChainTable) (n : ℕ) (from to : PageKey) → LeadsTo chains n from to → LeadsOver (λ key. Unit {0}) chains n from to
leads_over chains zero from to leads = leads
leads_over chains (suc n) from to leads = (tt, (leads.0, leads.1, leads_over chains n leads.0 to leads.2))

-- the merge leaves where the chain leads, but for the lower's places
record LeadsStill (upper lower : ℕ) (up : ShadowRow) (cs cs2 : ChainTable) : Type 0 where
  pub chain : (o : ℕ) → StandsNow upper lower up cs cs2 o
  pub over : shadow_at cs upper ≡ Some up
  pub under : up.under.0 ≡ lower
  pub only : (o : ℕ) (row : ShadowRow) → shadow_at cs o ≡ Some row → row.under.0 ≡ lower → o ≡ upper
  pub ranked : IsRanked cs

-- and so it is with what is passed over
record StaysStill (upper lower : ℕ) (up : ShadowRow) (stays stays2 : PageKey → Type 0) : Type 0 where
  pub apart : (key : PageKey) → (upper ≡ key.object.0 → ⊥) → (lower ≡ key.object.0 → ⊥) → stays key → stays2 key
  pub both : (key next : PageKey) → upper ≡ key.object.0 → next ≡ record { object = up.under; page = record { 0 = key.page.0 + up.shift } } → stays key
      → stays next → stays2 key

-- so many steps, or fewer, lead there
abbrev Leads : (PageKey → Type 0) → ChainTable → PageKey → PageKey → Type 0
Leads stays chains from to = (n : ℕ) × LeadsOver stays chains n from to

module _ {upper lower : ℕ} {up : ShadowRow} {cs cs2 : ChainTable} {stays stays2 : PageKey → Type 0} (still : LeadsStill upper lower up cs cs2)
    (keeps : StaysStill upper lower up stays stays2) where
  -- what is under a place is in the lower only where that is in the upper
  under_apart : (from next : PageKey) → (upper ≡ from.object.0 → ⊥) → IsUnder cs from next → lower ≡ next.object.0 → ⊥
  under_apart from next above under same =
      above (sym (still.only from.object.0 under.row under.found (sym (ap (λ (z : PageKey). z.object.0) under.is) ∙ sym same)))

  -- the place under a place of another object
  under_now : (from next : PageKey) → (upper ≡ from.object.0 → ⊥) → (lower ≡ from.object.0 → ⊥) → IsUnder cs from next → IsUnder cs2 from next
  under_now from next above below under =
      record { row = under.row; found = others_stand from.object.0 (still.chain from.object.0) above below ∙ under.found; is = under.is }

  -- the link of the upper
  link_is : (from next : PageKey) → upper ≡ from.object.0 → IsUnder cs from next → next ≡ record {
    object = up.under;
    page = record { 0 = from.page.0 + up.shift };
  }
  link_is from next same under =
      under.is ∙ ap (λ (z : ShadowRow). record { object = z.under; page = record { 0 = from.page.0 + z.shift } })
      (some_is under.row up (sym under.found ∙ (ap (shadow_at cs) (sym same) ∙ still.over)))

  -- two steps from the upper are one behind the merge
  under_joined : (from mid next : PageKey) → upper ≡ from.object.0
      → mid ≡ record { object = up.under; page = record { 0 = from.page.0 + up.shift } } → IsUnder cs mid next → IsUnder cs2 from next
  under_joined from mid next same is under =
      record {
        row = record { under = under.row.under; shift = up.shift + under.row.shift };
        found = upper_joined from.object.0 (still.chain from.object.0) same ∙ ap (joined up) low;
        is = under.is ∙ ap (λ n. record { object = under.row.under; page = record { 0 = n } }) sums;
      }
    where
      sums : mid.page.0 + under.row.shift ≡ from.page.0 + (up.shift + under.row.shift)
      sums = let first : mid.page.0 ≡ from.page.0 + up.shift = ap (λ (z : PageKey). z.page.0) is in omega (arith, first)

      low : shadow_at cs lower ≡ Some under.row
      low = ap (shadow_at cs) (sym (ap (λ (z : PageKey). z.object.0) is ∙ still.under)) ∙ under.found

  -- what is under the lower isn't the lower
  low_apart : (mid next : PageKey) → lower ≡ mid.object.0 → IsUnder cs mid next → lower ≡ next.object.0 → ⊥
  low_apart mid next same under also =
      let falls = still.ranked.under mid.object.0 under.row under.found in
      let high : still.ranked.rank mid.object.0 ≡ still.ranked.rank lower = ap still.ranked.rank (sym same) in
      let low : still.ranked.rank under.row.under.0 ≡ still.ranked.rank lower = ap still.ranked.rank
      (sym (ap (λ (z : PageKey). z.object.0) under.is) ∙ sym also) in
      omega (arith, falls, high, low)

  -- from the lower's place, in which the access doesn't end
  over_low : (n : ℕ) (from mid to : PageKey) → upper ≡ from.object.0
      → mid ≡ record { object = up.under; page = record { 0 = from.page.0 + up.shift } } → (lower ≡ to.object.0 → ⊥) → stays from
      → ((k : ℕ) → k < suc n → (next : PageKey) → (lower ≡ next.object.0 → ⊥) → LeadsOver stays cs k next to → Leads stays2 cs2 next to)
      → LeadsOver stays cs n mid to → Leads stays2 cs2 from to
  over_low zero from mid to same is ends passes later leads =
      absurd (ends (sym (ap (λ (z : PageKey). z.object.0) (sym leads ∙ is) ∙ still.under)))
  over_low (suc n) from mid to same is ends passes later leads =
      let next = leads.1.0 in
      let mid_low : lower ≡ mid.object.0 = sym (ap (λ (z : PageKey). z.object.0) is ∙ still.under) in
      let rest = later n (omega arith) next (low_apart mid next mid_low leads.1.1) leads.1.2 in
      (suc rest.0, (keeps.both from mid same is passes leads.0, (next, under_joined from mid next same is leads.1.1, rest.1)))

  over_step : (n : ℕ) (from to : PageKey) → (lower ≡ from.object.0 → ⊥) → (lower ≡ to.object.0 → ⊥)
      → ((k : ℕ) → k < suc n → (next : PageKey) → (lower ≡ next.object.0 → ⊥) → LeadsOver stays cs k next to → Leads stays2 cs2 next to)
      → LeadsOver stays cs (suc n) from to → Leads stays2 cs2 from to
  over_step n from to starts ends later leads = elim (eqb_tells upper from.object.0) [
    | inl same ↦
        over_low n from leads.1.0 to same.1 (link_is from leads.1.0 same.1 leads.1.1) ends leads.0 later leads.1.2
    | inr apart ↦
        let rest = later n (omega arith) leads.1.0 (under_apart from leads.1.0 apart.1 leads.1.1) leads.1.2 in
        (suc rest.0, (keeps.apart from apart.1 starts leads.0, (leads.1.0, under_now from leads.1.0 apart.1 starts leads.1.1, rest.1)))
  ]

  over_within : (most n : ℕ) → n ≤ most → (from to : PageKey) → (lower ≡ from.object.0 → ⊥) → (lower ≡ to.object.0 → ⊥) → LeadsOver stays cs n from to
      → Leads stays2 cs2 from to
  over_within most zero le from to starts ends leads = (zero, leads)
  over_within zero (suc n) le from to starts ends leads = absurd (omega (arith, le))
  over_within (suc most) (suc n) le from to starts ends leads =
      over_step n from to starts ends (λ k less next apart rest. over_within most k (omega (arith, le, less)) next to apart ends rest) leads

  over_merged : (n : ℕ) (from to : PageKey) → (lower ≡ from.object.0 → ⊥) → (lower ≡ to.object.0 → ⊥) → LeadsOver stays cs n from to
      → Leads stays2 cs2 from to
  over_merged n from to starts ends leads = over_within n n (omega arith) from to starts ends leads

-- where nothing is said of places
still_unit : {upper lower : ℕ} {up : ShadowRow} → StaysStill upper lower up (λ key. Unit {0}) (λ key. Unit {0})
still_unit = record { apart = λ key above below is. tt; both = λ key next same is one two. tt }

-- the top place of an access is as it was
at_merged : (maps : Mapped) (cs cs2 : ChainTable) (task : ℕ) (what : Want) (key : PageKey) → region_at cs2 ≡ region_at cs → IsAt maps cs task what key
    → IsAt maps cs2 task what key
at_merged maps cs cs2 task what key same at =
    record { entry = at.entry; found = at.found; row = at.row; region = ap (λ f. f at.entry.region.0) same ∙ at.region; is = at.is }

-- and all places but those in the lower
place_merged : {upper lower : ℕ} {up : ShadowRow} (maps : Mapped) (cs cs2 : ChainTable) (task : ℕ) (what : Want) (key : PageKey)
    → LeadsStill upper lower up cs cs2 → region_at cs2 ≡ region_at cs
    → ((r : ℕ) (row : RegionRow) → region_at cs r ≡ Some row → row.top.0 ≡ lower → ⊥) → (lower ≡ key.object.0 → ⊥) → IsPlaceOf maps cs task what key
    → IsPlaceOf maps cs2 task what key
place_merged maps cs cs2 task what key still same tops ends place =
    let at = place.at in
    let leads = over_merged still still_unit place.steps place.top key
    (λ low. tops at.entry.region.0 at.row at.region (sym (ap (λ (z : PageKey). z.object.0) at.is) ∙ sym low)) ends
    (leads_over cs place.steps place.top key place.leads) in
    record {
      top = place.top;
      at = at_merged maps cs cs2 task what place.top same at;
      steps = leads.0;
      leads = over_leads (λ key. Unit {0}) cs2 leads.0 place.top key leads.1;
    }

behind_merged : {upper lower : ℕ} {up : ShadowRow} {stays stays2 : PageKey → Type 0} (maps : Mapped) (cs cs2 : ChainTable) (task : ℕ) (what : Want)
    (key : PageKey)
    → LeadsStill upper lower up cs cs2 → StaysStill upper lower up stays stays2 → region_at cs2 ≡ region_at cs
    → ((r : ℕ) (row : RegionRow) → region_at cs r ≡ Some row → row.top.0 ≡ lower → ⊥) → (lower ≡ key.object.0 → ⊥)
    → IsPlaceBehind stays maps cs task what key → IsPlaceBehind stays2 maps cs2 task what key
behind_merged maps cs cs2 task what key still keeps same tops ends place =
    let at = place.at in
    let leads = over_merged still keeps place.steps place.top key
    (λ low. tops at.entry.region.0 at.row at.region (sym (ap (λ (z : PageKey). z.object.0) at.is) ∙ sym low)) ends place.leads in
    record { top = place.top; at = at_merged maps cs cs2 task what place.top same at; steps = leads.0; leads = leads.1 }

-- nobody waits for the pager of an object that has none
no_told : (os : ObjectTable) (o : ℕ) (known : ObjectRow) → object_at os o ≡ Some known → has_pager known.state ≡ false → IsPagerTold os o → ⊥
no_told os o known is untold told =
    let sent : known.state ≡ state.Sent = ap (λ (z : ObjectRow). z.state) (some_is known told.row (sym is ∙ told.found)) ∙ told.sent in
    let bad : false ≡ true = sym untold ∙ ap has_pager sent in
    cc

-- an open lock keeps nobody out
open_lets_in : (lock : Lock) (writes : Bool) → lock ≡ unlocked → keeps_out lock writes ≡ true → ⊥
open_lets_in lock writes free keeps = by writes (sym (ap (λ z. keeps_out z writes) free) ∙ keeps)
  where
    by : (b : Bool) → keeps_out unlocked b ≡ true → ⊥
    by true is = let bad : false ≡ true = is in cc
    by false is = let bad : false ≡ true = is in cc

-- and nobody waits for a page of an object whose pages are here, and of which no control lives
no_awaited : (rs : ResidentTable) (os : ObjectTable) (o p : ℕ) (what : Want) → ((row : PageRow) → row_at rs o p ≡ Some row → row.here ≡ true)
    → ((row : PageRow) → row_at rs o p ≡ Some row → MayLock os o row) → is_live_in (object_at os o) ≡ false → IsAwaitedBy rs what o p → ⊥
no_awaited rs os o p what here locks quiet awaits = elim awaits [
  | inl asked ↦ let bad : true ≡ false = sym (here asked.row asked.found) ∙ asked.away in cc
  | inr locked ↦ elim (locks locked.row locked.found) [
    | inl free ↦ open_lets_in locked.row.lock (is_storing what) free.0 locked.locked
    | inr lives ↦ let bad : true ≡ false = sym lives ∙ quiet in cc
  ]
]

-- nobody waits for either of two objects that can be merged
record IsUnwaited (rs : ResidentTable) (os : ObjectTable) (o : ℕ) : Type 0 where
  pub pager : IsPagerTold os o → ⊥
  pub pages : (what : Want) (p : ℕ) → IsAwaitedBy rs what o p → ⊥

unwaited : (header : Header) (cs : ChainTable) (rs : ResidentTable) (os : ObjectTable) (o : ℕ) (known : ObjectRow) → HasKinds header os cs
    → AllReferred cs os rs → object_at os o ≡ Some known → has_pager known.state ≡ false
    → ((p : ℕ) (row : PageRow) → row_at rs o p ≡ Some row → row.here ≡ true) → IsUnwaited rs os o
unwaited header cs rs os o known kinds all is untold here =
    record {
      pager = no_told os o known is untold;
      pages = λ what p awaits. no_awaited rs os o p what (here p) (λ row found. all.locks o p row found)
          (ap is_live_in is ∙ ((kinds.kinds o known is).lives ∙ untold)) awaits;
    }

-- a merge by the tables, of two objects for which nobody waits
record IsUnseen (upper lower : ℕ) (cs cs2 : ChainTable) (copies : CopyTable) (os os2 : ObjectTable) (rs rs2 : ResidentTable) : Type 0 where
  pub merges : MergesObjects upper lower cs cs2 copies os os2
  pub rows : MergesRows upper lower merges.can.link.shift merges.can.upper_row.pages rs rs2
  pub still : LeadsStill upper lower merges.can.link cs cs2
  pub tops : (r : ℕ) (row : RegionRow) → region_at cs r ≡ Some row → row.top.0 ≡ lower → ⊥
  pub apart : upper ≡ lower → ⊥
  pub here : AreHere rs upper lower
  pub above : IsUnwaited rs os upper
  pub below : IsUnwaited rs os lower

module _ {copies : CopyTable} {upper lower : ℕ} {cs cs2 : ChainTable} {os os2 : ObjectTable} {rs rs2 : ResidentTable}
    {stays stays2 : PageKey → Type 0} {unmet unmet2 : PageKey → Unmet}
    (unseen : IsUnseen upper lower cs cs2 copies os os2 rs rs2) (keeps : StaysStill upper lower unseen.merges.can.link stays stays2)
    (meets : (key : PageKey) → (upper ≡ key.object.0 → ⊥) → (lower ≡ key.object.0 → ⊥) → Later (unmet key) (unmet2 key)) where
  told_above : (o : ℕ) → IsPagerTold os o → upper ≡ o → ⊥
  told_above o told same = unseen.above.pager (subst (λ (z : ℕ). IsPagerTold os z) (sym same) told)

  told_below : (o : ℕ) → IsPagerTold os o → lower ≡ o → ⊥
  told_below o told same = unseen.below.pager (subst (λ (z : ℕ). IsPagerTold os z) (sym same) told)

  awaited_above : (what : Want) (o p : ℕ) → IsAwaitedBy rs what o p → upper ≡ o → ⊥
  awaited_above what o p awaits same = unseen.above.pages what p (subst (λ (z : ℕ). IsAwaitedBy rs what z p) (sym same) awaits)

  awaited_below : (what : Want) (o p : ℕ) → IsAwaitedBy rs what o p → lower ≡ o → ⊥
  awaited_below what o p awaits same = unseen.below.pages what p (subst (λ (z : ℕ). IsAwaitedBy rs what z p) (sym same) awaits)

  -- the row of a page of another object
  row_same : (o p : ℕ) → (upper ≡ o → ⊥) → (lower ≡ o → ⊥) → row_at rs2 o p ≡ row_at rs o p
  row_same o p above below = by (row_now unseen.rows o p)
    where
      by : RowNow upper lower unseen.merges.can.link.shift unseen.merges.can.upper_row.pages rs rs2 o p → row_at rs2 o p ≡ row_at rs o p
      by (IsOwn row same was is) = absurd (above same)
      by (IsMoved same none less is) = absurd (above same)
      by (IsBeyond same none le is) = absurd (above same)
      by (IsGone other same is) = absurd (below same)
      by (IsSame other not_low is) = is

  awaited_now : (what : Want) (o p : ℕ) → IsAwaitedBy rs what o p → IsAwaitedBy rs2 what o p
  awaited_now what o p awaits =
      awaited_elsewhere o p None rs rs2 what o p (row_same o p (awaited_above what o p awaits) (awaited_below what o p awaits)) awaits

  asked_now : (o p : ℕ) → IsAsked rs o p → IsAsked rs2 o p
  asked_now o p asked =
      asked_same rs rs2 o p
      (row_same o p (awaited_above (want.Load 0 0) o p (inl asked)) (awaited_below (want.Load 0 0) o p (inl asked))) asked

  push_now : (maps : Mapped) (task : ℕ) (what : Want) (key : PageKey) → WaitsToPush maps cs copies rs task what key
      → WaitsToPush maps cs2 copies rs2 task what key
  push_now maps task what key push =
      push_stays push (at_merged maps cs cs2 task what push.top unseen.merges.chain.regions push.at) push.owed
      (asked_now key.object.0 key.page.0 push.asked)

  place_now : (maps : Mapped) (task : ℕ) (what : Want) (key : PageKey) → (lower ≡ key.object.0 → ⊥) → IsPlaceOf maps cs task what key
      → IsPlaceOf maps cs2 task what key
  place_now maps task what key ends place =
      place_merged maps cs cs2 task what key unseen.still unseen.merges.chain.regions unseen.tops ends place

  behind_now : (maps : Mapped) (task : ℕ) (what : Want) (key : PageKey) → (lower ≡ key.object.0 → ⊥) → IsPlaceBehind stays maps cs task what key
      → IsPlaceBehind stays2 maps cs2 task what key
  behind_now maps task what key ends place =
      behind_merged maps cs cs2 task what key unseen.still keeps unseen.merges.chain.regions unseen.tops ends place

  told_now : (maps : Mapped) (task : ℕ) (what : Want) (key : PageKey) → IsPlaceOf maps cs task what key → IsPagerTold os key.object.0
      → IsPagerTold os2 key.object.0
  told_now maps task what key place told =
      (told_referred maps cs lower 0 unseen.merges.can.lower_row os os2 unseen.merges.can.lower_known unseen.merges.object).at task what key place told

  reason_now : (maps : Mapped) (task : ℕ) (what : Want) (why : On) → Reason maps cs copies rs os task what why → Reason maps cs2 copies rs2 os2 task what why
  reason_now maps task what on.Again reason = tt
  reason_now maps task what (on.Ready object) reason =
      let told : IsPagerTold os reason.0.object.0 = subst (λ (z : ObjectId). IsPagerTold os z.0) (sym reason.2) reason.3 in (
        reason.0,
        place_now maps task what reason.0 (told_below reason.0.object.0 told) reason.1,
        reason.2,
        subst (λ (z : ObjectId). IsPagerTold os2 z.0) reason.2 (told_now maps task what reason.0 reason.1 told),
      )
  reason_now maps task what (on.Page key) reason =
      (place_now maps task what key (awaited_below what key.object.0 key.page.0 reason.1) reason.0, awaited_now what key.object.0 key.page.0 reason.1)
  reason_now maps task what (on.Push key) reason = push_now maps task what key reason
  reason_now maps task what on.Frame reason = tt

  passed_now : (maps : Mapped) (task : ℕ) (what : Want) (why : On) → Reason maps cs copies rs os task what why → Passed stays unmet maps cs task what why
      → Passed stays2 unmet2 maps cs2 task what why
  passed_now maps task what on.Again reason passed = tt
  passed_now maps task what (on.Ready object) reason passed =
      let told : IsPagerTold os passed.0.object.0 = subst (λ (z : ObjectId). IsPagerTold os z.0) (sym passed.2) reason.3 in (
        passed.0,
        place_now maps task what passed.0 (told_below passed.0.object.0 told) passed.1,
        passed.2,
        λ none.
            let later = meets passed.0 (told_above passed.0.object.0 told) (told_below passed.0.object.0 told) in
            let was = passed.3 (later.before none) in
            (behind_now maps task what passed.0 (told_below passed.0.object.0 told) was.0, later.still none was.1),
      )
  passed_now maps task what (on.Page key) reason passed =
      behind_now maps task what key (awaited_below what key.object.0 key.page.0 reason.1) passed
  passed_now maps task what (on.Push key) reason passed = tt
  passed_now maps task what on.Frame reason passed = tt

  -- an access that waits for a page of another object waits for no page of the lower
  aims_now : (maps : Mapped) (task : ℕ) (what : Want) (why : On) (key : PageKey) → why ≡ on.Page key → Reason maps cs copies rs os task what why
      → IsPlaceOf maps cs task what key → IsPlaceOf maps cs2 task what key
  aims_now maps task what why key same reason place =
      let so : Reason maps cs copies rs os task what (on.Page key) = subst (λ (z : On). Reason maps cs copies rs os task what z) same reason in
      place_now maps task what key (awaited_below what key.object.0 key.page.0 so.1) place

  waits_unseen : (maps : Mapped) (rows : List Waiting) (who : On → Bool) (waiting_at : ℕ → Option Access) → ((why : On) → who why ≡ false)
      → HasWaiters maps cs copies rs os rows who waiting_at stays unmet → HasWaiters maps cs2 copies rs2 os2 rows who waiting_at stays2 unmet2
  waits_unseen maps rows who waiting_at nobody has =
      record {
        is = has.is;
        allowed = has.allowed;
        sized = has.sized;
        reasons = λ t w found asleep. reason_now maps t w.want w.on (has.reasons t w found asleep);
        passed = λ t w found asleep. passed_now maps t w.want w.on (has.reasons t w found asleep) (has.passed t w found asleep);
        aims = λ t w key found waits. aims_now maps t w.want w.on key waits (has.reasons t w found (nobody w.on)) (has.aims t w key found waits);
        askers = λ o p row found awaits. asker o p row awaits (row_was unseen.apart unseen.rows o p row found);
        ready = λ o p row found gone. ready_still o p row gone (row_was unseen.apart unseen.rows o p row found);
      }
    where
      asker : (o p : ℕ) (row : PageRow) → is_awaited row ≡ true
          → RowWas upper lower unseen.merges.can.link.shift unseen.merges.can.upper_row.pages rs o p row → Asker rows o p
      asker o p row awaits (Stayed other was) = has.askers o p row was awaits
      asker o p row awaits (Rose same none less was) =
          let q = unseen.merges.can.link.shift + p in
          let its : Asker rows lower q = has.askers lower q row was awaits in
          let reason : Reason maps cs copies rs os its.task its.row.want (on.Page (page_key lower q))
          = subst (λ (z : On). Reason maps cs copies rs os its.task its.row.want z) its.waits (has.reasons its.task its.row its.is (nobody its.row.on)) in
          absurd (unseen.below.pages its.row.want q reason.1)

      ready_still : (o p : ℕ) (row : PageRow) → row.here ≡ false
          → RowWas upper lower unseen.merges.can.link.shift unseen.merges.can.upper_row.pages rs o p row → ready_in (object_at os2 o) ≡ true
      ready_still o p row gone (Stayed other was) =
          ready_referred lower 0 unseen.merges.can.lower_row os os2 unseen.merges.can.lower_known unseen.merges.object o ∙ has.ready o p row was gone
      ready_still o p row gone (Rose same none less was) =
          absurd (let bad : true ≡ false = sym (unseen.here.below (unseen.merges.can.link.shift + p) row was) ∙ gone in cc)

-- what is known of the history's places behind the merge

quiet_else : (header : Header) (h : ℕ) (e : Event) (past : List Event) (upper lower shift up low : ℕ) → IsMerge header h e past upper lower shift up low
    → (key : PageKey) → (upper ≡ key.object.0 → ⊥) → (lower ≡ key.object.0 → ⊥) → IsQuiet (effect_at header h key e past)
quiet_else header h e past upper lower shift up low is key above below =
    subst IsQuiet (sym (is key.object.0 key.page.0 ∙ effect_else upper lower shift up low key.object.0 key.page.0 (places header h past) above below)) tt

-- nothing comes to a page of the upper from one that isn't here
quiet_upper : (header : Header) (h : ℕ) (e : Event) (past : List Event) (upper lower shift up low : ℕ) → IsMerge header h e past upper lower shift up low
    → (key : PageKey) → upper ≡ key.object.0 → (page_on header h lower (shift + key.page.0) past).here ≡ false → IsQuiet (effect_at header h key e past)
quiet_upper header h e past upper lower shift up low is key same gone = subst IsQuiet (sym (is key.object.0 key.page.0 ∙ none)) tt
  where
    none : merge_effect upper lower shift up low (place_of key.object.0 key.page.0) (places header h past) ≡ Elsewhere
    none =
        ap (λ n. merge_effect upper lower shift up low (place_of n key.page.0) (places header h past)) (sym same)
        ∙ (effect_upper upper lower shift up low key.page.0 (places header h past)
        ∙ ap (λ b. if b then Moves (local header h (place_of lower (shift + key.page.0)) past) else Elsewhere)
        (unmoved_away (nat_lt key.page.0 up) (nat_lt (shift + key.page.0) low) (local header h (place_of lower (shift + key.page.0)) past).here
        (not (local header h (place_of upper key.page.0) past).here) gone))

-- so what was passed over is so still
stays_merged : (header : Header) (h : ℕ) (e : Event) (past : List Event) (upper lower pages low : ℕ) (up : ShadowRow) → up.under.0 ≡ lower
    → IsMerge header h e past upper lower up.shift pages low → StaysStill upper lower up (StaysAway header h past) (StaysAway header h (e ∷ past))
stays_merged header h e past upper lower pages low up under is =
    record {
      apart = λ key above below stays. stays_quiet header h e past key (quiet_else header h e past upper lower up.shift pages low is key above below) stays;
      both = λ key next same next_is stays two. (
        stays.0,
        λ only. (stays_quiet header h e past key (quiet_upper header h e past upper lower up.shift pages low is key same
            (gone key next next_is (two.1 (only_before header h e past only)).away)) stays).1 only,
      );
    }
  where
    gone : (key next : PageKey) → next ≡ record { object = up.under; page = record { 0 = key.page.0 + up.shift } }
        → (page_on header h next.object.0 next.page.0 past).here ≡ false → (page_on header h lower (up.shift + key.page.0) past).here ≡ false
    gone key next next_is away =
        let sums : key.page.0 + up.shift ≡ up.shift + key.page.0 = omega arith in
        ap (λ n. (page_on header h lower n past).here) (sym sums)
        ∙ (ap (λ n. (page_on header h n (key.page.0 + up.shift) past).here) (sym under)
        ∙ (ap (λ (z : PageKey). (page_on header h z.object.0 z.page.0 past).here) (sym next_is) ∙ away))

-- the accesses that wait behind a merge, while nobody is to be woken
pub waits_merged : {copies : CopyTable} (header : Header) (h : ℕ) (past : List Event) (upper lower : ObjectId) (maps : Mapped)
    (cs cs2 : ChainTable) (os os2 : ObjectTable) (rs rs2 : ResidentTable) {ids : Ids} {rm om marked : ℕ}
    (rows : List Waiting) (who : On → Bool) (waiting_at : ℕ → Option Access) (merges : MergesObjects upper.0 lower.0 cs cs2 copies os os2)
    → MergesRows upper.0 lower.0 merges.can.link.shift merges.can.upper_row.pages rs rs2
    → HasRegions cs os ids (λ q. region_of header q past) (λ q. backing_of header q past) rm om marked → HasKinds header os cs → HaveHomes header past
    → AllReferred cs os rs → KnowsPages (named header) os (λ o. pages_made header o past) → object_home upper.0 past ≡ Some h → ((why : On) → who why ≡ false)
    → HasWaiters maps cs copies rs os rows who waiting_at (StaysAway header h past) (IsUnmet header h past)
    → HasWaiters maps cs2 copies rs2 os2 rows who waiting_at (StaysAway header h (event.Merged upper lower ∷ past))
    (IsUnmet header h (event.Merged upper lower ∷ past))
waits_merged {copies = copies} header h past upper lower maps cs cs2 os os2 rs rs2 rows who waiting_at merges moves regions kinds homes all knows home nobody
    has =
    waits_unseen unseen (stays_merged header h (event.Merged upper lower) past upper.0 lower.0 merges.can.upper_row.pages merges.can.lower_row.pages
    merges.can.link merges.can.under effects)
    (λ key above below. unmet_calm header h (event.Merged upper lower) past key
    (calm_of (effect_at header h key (event.Merged upper lower) past)
    (quiet_else header h (event.Merged upper lower) past upper.0 lower.0 merges.can.link.shift
    merges.can.upper_row.pages merges.can.lower_row.pages effects key above below)))
    maps rows who waiting_at nobody has
  where
    least : named header ≤ upper.0
    least = shadow_temporary regions homes upper.0 merges.can.link merges.can.over

    here : AreHere rs upper.0 lower.0
    here = all_here kinds least all has.ready merges.can

    effects : IsMerge header h (event.Merged upper lower) past upper.0 lower.0 merges.can.link.shift merges.can.upper_row.pages merges.can.lower_row.pages
    effects =
        table_effect header h past upper lower cs os merges.can regions kinds homes knows home

    unseen : IsUnseen upper.0 lower.0 cs cs2 copies os os2 rs rs2
    unseen = record {
      merges = merges;
      rows = moves;
      still = record {
        chain = stands_now merges.chain;
        over = merges.can.over;
        under = merges.can.under;
        only = λ o row found under. sole_shadow regions lower.0 merges.can.lower_row merges.can.lower_known merges.can.sole upper.0 merges.can.link
            merges.can.over merges.can.under o row found under;
        ranked = regions.ranked;
      };
      tops = λ r row found top. sole_region regions lower.0 merges.can.lower_row merges.can.lower_known merges.can.sole upper.0 merges.can.link
          merges.can.over merges.can.under r row found top;
      apart = merged_apart regions.ranked merges.can;
      here = here;
      above = unwaited header cs rs os upper.0 merges.can.upper_row kinds all merges.can.upper_known
          (upper_quiet kinds least (all.shadows upper.0 merges.can.link merges.can.over) merges.can) here.above;
      below = unwaited header cs rs os lower.0 merges.can.lower_row kinds all merges.can.lower_known (lower_quiet kinds merges.can) here.below;
    }
