-- Who waits, while the maps of tasks that don't wait change, and regions count their entries anew.
use Rattle.std.proofs.Common.{Bool, List, None, Option, Some, [], ap, inl, inr, refl, subst, suc, sym, true, zero, ℕ, ◌∙◌, ◌≡◌}
use Rattle.std.proofs.lemmas.Bool.Decides.{eqb_tells}
use Rattle.std.specs.Prelude.{is_some, unwrap_or}
use Rattle.vm_base.specs.declared.entry.Entry.{Entry}
use Rattle.vm_base.specs.declared.ids.Access.{Access as Need}
use Rattle.vm_base.specs.declared.ids.PageKey.{PageKey}
use Rattle.vm_copies.specs.Copies.{CopyTable}
use Rattle.vm_fault.specs.Walks.{IsAt}
use Rattle.vm_maps.specs.Judge.{IsAllowed}
use Rattle.vm_maps.specs.Maps.{ChangesOnly, Mapped, entries_in, rows_in}
use Rattle.vm_model.specs.Waiting.{Access}
use Rattle.vm_objects.specs.Objects.{ObjectTable}
use Rattle.vm_resident.specs.Resident.{ResidentTable}
use Rattle.vm_shadow.specs.Chains.{ChainTable, region_at, shadow_at}
use Rattle.vm_shadow.specs.declared.region_row.RegionRow.{RegionRow}
use Rattle.vm_shadow.specs.declared.shadow_row.ShadowRow.{ShadowRow}
use Rattle.vm_state.proofs.Passing.{over_kept, passed_placed}
use Rattle.vm_state.proofs.Pushing.{push_same}
use Rattle.vm_state.specs.Passed.{IsPlaceBehind, Unmet}
use Rattle.vm_state.specs.Waiters.{HasWaiters, IsPlaceOf, LeadsTo, Reason, waiting_in}
use Rattle.vm_waits.specs.Waits.{entry}
use Rattle.vm_waits.specs.Wants.{IsSizedWant, address_in, need_in}
use Rattle.vm_waits.specs.declared.waiting.On.{On}
use Rattle.vm_waits.specs.declared.waiting.On.TheVariants as on
use Rattle.vm_waits.specs.declared.waiting.Waiting.{Waiting}
use Rattle.vm_waits.specs.declared.waiting.Want.{Want}

-- a region is still over the same pages of its object
pub record SameTop (row : RegionRow) (now : Option RegionRow) : Type 0 where
  pub row_now : RegionRow
  pub found : now ≡ Some row_now
  pub top : row_now.top ≡ row.top
  pub shift : row_now.shift ≡ row.shift

-- each region is over the same pages still, and what stood under an object does so
pub record KeepsPlaces (old new : ChainTable) : Type 0 where
  pub tops : (r : ℕ) (row : RegionRow) → region_at old r ≡ Some row → SameTop row (region_at new r)
  pub shadows : (o : ℕ) (row : ShadowRow) → shadow_at old o ≡ Some row → shadow_at new o ≡ Some row

pub tops_same : (chains : ChainTable) → KeepsPlaces chains chains
tops_same chains = record { tops = λ r row found. record { row_now = row; found = found; top = refl; shift = refl }; shadows = λ o row found. found }

-- a task's entries are the same
pub record SameOf (task : ℕ) (old new : Mapped) : Type 0 where
  pub size : new.size ≡ old.size
  pub entries : entries_in task new ≡ entries_in task old

pub rows_same : (task : ℕ) (old new : Mapped) → SameOf task old new → rows_in task new ≡ rows_in task old
rows_same task old new same = ap (λ z. unwrap_or z []) same.entries

pub at_kept : (maps maps2 : Mapped) (cs cs2 : ChainTable) (task : ℕ) (what : Want) (key : PageKey) → SameOf task maps maps2 → KeepsPlaces cs cs2
    → IsAt maps cs task what key → IsAt maps2 cs2 task what key
at_kept maps maps2 cs cs2 task what key same tops at =
    let now = tops.tops at.entry.region.0 at.row at.region in
    record {
      entry = at.entry;
      found = rw (rows_same task maps maps2 same, same.size) at.found;
      row = now.row_now;
      region = now.found;
      is = rw (now.top, now.shift, same.size) at.is;
    }

-- the chain leads on from a place as it did
pub leads_kept : (cs cs2 : ChainTable) → ((o : ℕ) (row : ShadowRow) → shadow_at cs o ≡ Some row → shadow_at cs2 o ≡ Some row) → (n : ℕ) (from to : PageKey)
    → LeadsTo cs n from to → LeadsTo cs2 n from to
leads_kept cs cs2 kept zero from to leads = leads
leads_kept cs cs2 kept (suc n) from to leads =
    let under = leads.1 in
    (leads.0, record { row = under.row; found = kept from.object.0 under.row under.found; is = under.is }, leads_kept cs cs2 kept n leads.0 to leads.2)

pub place_kept : (maps maps2 : Mapped) (cs cs2 : ChainTable) (task : ℕ) (what : Want) (key : PageKey) → SameOf task maps maps2 → KeepsPlaces cs cs2
    → IsPlaceOf maps cs task what key → IsPlaceOf maps2 cs2 task what key
place_kept maps maps2 cs cs2 task what key same tops place =
    record {
      top = place.top;
      at = at_kept maps maps2 cs cs2 task what place.top same tops place.at;
      steps = place.steps;
      leads = leads_kept cs cs2 tops.shadows place.steps place.top key place.leads;
    }

-- with what is passed over on the way there
behind_kept : {stays : PageKey → Type 0} (maps maps2 : Mapped) (cs cs2 : ChainTable) (task : ℕ) (what : Want) (key : PageKey) → SameOf task maps maps2
    → KeepsPlaces cs cs2 → IsPlaceBehind stays maps cs task what key → IsPlaceBehind stays maps2 cs2 task what key
behind_kept {stays = stays} maps maps2 cs cs2 task what key same tops place =
    record {
      top = place.top;
      at = at_kept maps maps2 cs cs2 task what place.top same tops place.at;
      steps = place.steps;
      leads = over_kept stays cs cs2 tops.shadows place.steps place.top key place.leads;
    }

pub allowed_kept : (maps maps2 : Mapped) (task address : ℕ) (need : Need) → SameOf task maps maps2 → IsAllowed maps task address need
    → IsAllowed maps2 task address need
allowed_kept maps maps2 task address need same is =
    record {
      entry = is.entry;
      lives = rw (rows_same task maps maps2 same) (same.entries ∙ is.lives);
      found = rw (rows_same task maps maps2 same) is.found;
      allowed = is.allowed;
    }

reason_kept : (maps maps2 : Mapped) (cs cs2 : ChainTable) (copies : CopyTable) (rs : ResidentTable) (os : ObjectTable) (task : ℕ) (what : Want) (why : On)
    → SameOf task maps maps2 → KeepsPlaces cs cs2 → Reason maps cs copies rs os task what why → Reason maps2 cs2 copies rs os task what why
reason_kept maps maps2 cs cs2 copies rs os task what on.Again same tops reason = reason
reason_kept maps maps2 cs cs2 copies rs os task what (on.Ready object) same tops reason =
    (reason.0, place_kept maps maps2 cs cs2 task what reason.0 same tops reason.1, reason.2, reason.3)
reason_kept maps maps2 cs cs2 copies rs os task what (on.Page key) same tops reason =
    (place_kept maps maps2 cs cs2 task what key same tops reason.0, reason.1)
reason_kept maps maps2 cs cs2 copies rs os task what (on.Push key) same tops reason =
    push_same reason (at_kept maps maps2 cs cs2 task what reason.top same tops reason.at) reason.owed
reason_kept maps maps2 cs cs2 copies rs os task what on.Frame same tops reason = reason

-- the rows of tasks here say who waits
abbrev pub AreTold : Mapped → List Waiting → (ℕ → Option Access) → Type 0
AreTold maps rows waiting_at = (t : ℕ) → is_some (entries_in t maps) ≡ true → waiting_at t ≡ waiting_in maps.size (entry rows t)

-- who has other entries now was here before
pub told_changed : (maps maps2 : Mapped) (rows : List Waiting) (waiting_at : ℕ → Option Access) (task : ℕ) (was : List Entry) (made : Option (List Entry))
    → AreTold maps rows waiting_at → ChangesOnly maps maps2 task made → entries_in task maps ≡ Some was → AreTold maps2 rows waiting_at
told_changed maps maps2 rows waiting_at task was made told changes lives t here = elim (eqb_tells task t) [
  | inl same ↦ told t (ap (λ z. is_some (entries_in z maps)) (sym same.1) ∙ ap is_some lives) ∙ sized t
  | inr apart ↦ told t (ap is_some (sym (changes.others t (λ e. apart.1 (sym e)))) ∙ here) ∙ sized t
]
  where
    sized : (u : ℕ) → waiting_in maps.size (entry rows u) ≡ waiting_in maps2.size (entry rows u)
    sized u = ap (λ n. waiting_in n (entry rows u)) (sym changes.size)

-- who waits has the entries that it had
pub waits_kept : {copies : CopyTable} {stays : PageKey → Type 0} {unmet : PageKey → Unmet} {waiting2 : ℕ → Option Access} (maps maps2 : Mapped)
    (cs cs2 : ChainTable)
    (rs : ResidentTable) (os : ObjectTable) (rows : List Waiting) (who : On → Bool) (waiting_at : ℕ → Option Access)
    → HasWaiters maps cs copies rs os rows who waiting_at stays unmet → ((t : ℕ) (w : Waiting) → entry rows t ≡ Some w → SameOf t maps maps2)
    → KeepsPlaces cs cs2 → AreTold maps2 rows waiting2
    → HasWaiters maps2 cs2 copies rs os rows who waiting2 stays unmet
waits_kept {copies = copies} {stays = stays} {unmet = unmet} maps maps2 cs cs2 rs os rows who waiting_at has same tops told =
    record {
      is = told;
      allowed = λ t w found. subst (λ (n : ℕ). IsAllowed maps2 t (address_in n w.want) (need_in w.want)) (sym (same t w found).size)
          (allowed_kept maps maps2 t (address_in maps.size w.want) (need_in w.want) (same t w found) (has.allowed t w found));
      sized = λ t w found. subst (λ (n : ℕ). IsSizedWant n w.want) (sym (same t w found).size) (has.sized t w found);
      reasons = λ t w found apart. reason_kept maps maps2 cs cs2 copies rs os t w.want w.on (same t w found) tops (has.reasons t w found apart);
      passed =
          λ t w found apart. passed_placed stays unmet maps maps2 cs cs2 t w.want w.on
          (λ key place. place_kept maps maps2 cs cs2 t w.want key (same t w found) tops place)
          (λ key place. behind_kept maps maps2 cs cs2 t w.want key (same t w found) tops place) (has.passed t w found apart);
      aims = λ t w key found is. place_kept maps maps2 cs cs2 t w.want key (same t w found) tops (has.aims t w key found is);
      askers = has.askers;
      ready = has.ready;
    }

-- one task's entries change, which doesn't wait
pub waits_changed : {copies : CopyTable} {stays : PageKey → Type 0} {unmet : PageKey → Unmet} {waiting2 : ℕ → Option Access} (maps maps2 : Mapped)
    (cs cs2 : ChainTable)
    (rs : ResidentTable) (os : ObjectTable) (rows : List Waiting) (who : On → Bool) (waiting_at : ℕ → Option Access) (task : ℕ) (made : Option (List Entry))
    → HasWaiters maps cs copies rs os rows who waiting_at stays unmet → ChangesOnly maps maps2 task made → entry rows task ≡ None → KeepsPlaces cs cs2
    → AreTold maps2 rows waiting2
    → HasWaiters maps2 cs2 copies rs os rows who waiting2 stays unmet
waits_changed maps maps2 cs cs2 rs os rows who waiting_at task made has changes none tops told =
    waits_kept maps maps2 cs cs2 rs os rows who waiting_at has
    (λ t w found. record {
      size = changes.size;
      entries = changes.others t (λ same. let bad : None ≡ Some w = sym none ∙ (ap (entry rows) (sym same) ∙ found) in cc);
    })
    tops told
