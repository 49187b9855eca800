-- Who waits, where a file's copy object stands on a newer one over the file: each place is one still, one step further down.
use Rattle.std.proofs.Common.{Bool, List, Option, Some, ap, arith, inl, inr, suc, sym, zero, ℕ, ◌+◌, ◌∙◌, ◌≡◌}
use Rattle.std.proofs.lemmas.Bool.Decides.{eqb_tells}
use Rattle.vm_base.specs.declared.ids.ObjectId.{ObjectId}
use Rattle.vm_base.specs.declared.ids.PageKey.{PageKey}
use Rattle.vm_copies.specs.Copies.{CopyTable}
use Rattle.vm_fault.specs.Walks.{IsAt, IsUnder}
use Rattle.vm_maps.specs.Maps.{Mapped}
use Rattle.vm_model.specs.Waiting.{Access}
use Rattle.vm_objects.specs.Objects.{ObjectTable}
use Rattle.vm_parts.proofs.Rows.{one_case, some_is}
use Rattle.vm_resident.specs.Resident.{ResidentTable}
use Rattle.vm_shadow.specs.Chains.{ChainTable, Rebases, shadow_at}
use Rattle.vm_shadow.specs.declared.shadow_row.ShadowRow.{ShadowRow}
use Rattle.vm_state.proofs.Places.{waits_placed}
use Rattle.vm_state.specs.Passed.{IsPlaceBehind, LeadsOver, Unmet}
use Rattle.vm_state.specs.Waiters.{HasWaiters, IsPlaceOf, LeadsTo}
use Rattle.vm_waits.specs.declared.waiting.On.{On}
use Rattle.vm_waits.specs.declared.waiting.Waiting.{Waiting}
use Rattle.vm_waits.specs.declared.waiting.Want.{Want}

abbrev spot : ObjectId → ℕ → PageKey
spot object page = record { object = object; page = record { 0 = page } }

-- an object stood on a file, page over page, and so does a newer one, on which it stands now
pub record StandsBehind (object : ℕ) (newer file : ObjectId) (old new : ChainTable) : Type 0 where
  pub changes : Rebases object newer old new
  pub was : shadow_at old object ≡ Some (record { under = file; shift = 0 })
  pub over : shadow_at old newer.0 ≡ Some (record { under = file; shift = 0 })
  pub apart : object ≡ newer.0 → ⊥

module _ {object : ℕ} {newer file : ObjectId} {cs cs2 : ChainTable} (behind : StandsBehind object newer file cs cs2) where
  -- what stands under another object does so still
  under_else : (from next : PageKey) → (object ≡ from.object.0 → ⊥) → IsUnder cs from next → IsUnder cs2 from next
  under_else from next apart under =
      elim (one_case object from.object.0 (Some (record { under = newer; shift = 0 })) (shadow_at cs from.object.0) (shadow_at cs2 from.object.0)
      (behind.changes.at from.object.0)) [
        | inl this ↦ absurd (apart this.0)
        | inr other ↦ record { row = under.row; found = other.1 ∙ under.found; is = under.is }
      ]

  -- under the object's place stands the newer one's
  under_first : (from : PageKey) → object ≡ from.object.0 → IsUnder cs2 from (spot newer from.page.0)
  under_first from same =
      record {
        row = record { under = newer; shift = 0 };
        found = elim (one_case object from.object.0 (Some (record { under = newer; shift = 0 })) (shadow_at cs from.object.0) (shadow_at cs2 from.object.0)
            (behind.changes.at from.object.0)) [ inl this ↦ this.1 | inr other ↦ absurd (other.0 same) ];
        is = ap (spot newer) (let sums : from.page.0 ≡ from.page.0 + 0 = omega arith in sums);
      }

  -- and under that what stood under the object's
  under_second : (from next : PageKey) → object ≡ from.object.0 → IsUnder cs from next → IsUnder cs2 (spot newer from.page.0) next
  under_second from next same under =
      under_else (spot newer from.page.0) next behind.apart
      (record {
        row = record { under = file; shift = 0 };
        found = behind.over;
        is = under.is
            ∙ ap (λ (z : ShadowRow). record { object = z.under; page = record { 0 = from.page.0 + z.shift } })
            (some_is under.row (record { under = file; shift = 0 }) (sym under.found ∙ (ap (shadow_at cs) (sym same) ∙ behind.was)));
      })

  leads_rebased : (n : ℕ) (from to : PageKey) → LeadsTo cs n from to → (k : ℕ) × LeadsTo cs2 k from to
  leads_rebased zero from to leads = (zero, leads)
  leads_rebased (suc n) from to leads =
      let rest = leads_rebased n leads.0 to leads.2 in
      elim (eqb_tells object from.object.0) [
        | inl same ↦
            let inner : LeadsTo cs2 (suc rest.0) (spot newer from.page.0) to = (leads.0, under_second from leads.0 same.1 leads.1, rest.1) in
            (suc (suc rest.0), (spot newer from.page.0, under_first from same.1, inner))
        | inr other ↦ (suc rest.0, (leads.0, under_else from leads.0 other.1 leads.1, rest.1))
      ]

  over_rebased : (stays : PageKey → Type 0) → ((page : ℕ) → stays (spot newer page)) → (n : ℕ) (from to : PageKey) → LeadsOver stays cs n from to
      → (k : ℕ) × LeadsOver stays cs2 k from to
  over_rebased stays bare zero from to leads = (zero, leads)
  over_rebased stays bare (suc n) from to leads =
      let rest = over_rebased stays bare n leads.1.0 to leads.1.2 in
      elim (eqb_tells object from.object.0) [
        | inl same ↦
            let inner : LeadsOver stays cs2 (suc rest.0) (spot newer from.page.0) to =
            (bare from.page.0, (leads.1.0, under_second from leads.1.0 same.1 leads.1.1, rest.1)) in
            (suc (suc rest.0), (leads.0, (spot newer from.page.0, under_first from same.1, inner)))
        | inr other ↦ (suc rest.0, (leads.0, (leads.1.0, under_else from leads.1.0 other.1 leads.1.1, rest.1)))
      ]

  at_rebased : (maps : Mapped) (task : ℕ) (what : Want) (key : PageKey) → IsAt maps cs task what key → IsAt maps cs2 task what key
  at_rebased maps task what key at =
      record {
        entry = at.entry;
        found = at.found;
        row = at.row;
        region = ap (λ f. f at.entry.region.0) behind.changes.regions ∙ at.region;
        is = at.is;
      }

  place_rebased : (maps : Mapped) (task : ℕ) (what : Want) (key : PageKey) → IsPlaceOf maps cs task what key → IsPlaceOf maps cs2 task what key
  place_rebased maps task what key place =
      let leads = leads_rebased place.steps place.top key place.leads in
      record { top = place.top; at = at_rebased maps task what place.top place.at; steps = leads.0; leads = leads.1 }

  behind_rebased : (stays : PageKey → Type 0) → ((page : ℕ) → stays (spot newer page)) → (maps : Mapped) (task : ℕ) (what : Want) (key : PageKey)
      → IsPlaceBehind stays maps cs task what key → IsPlaceBehind stays maps cs2 task what key
  behind_rebased stays bare maps task what key place =
      let leads = over_rebased stays bare place.steps place.top key place.leads in
      record { top = place.top; at = at_rebased maps task what place.top place.at; steps = leads.0; leads = leads.1 }

  -- who waits, where no page of the newer object stands in the way
  pub waits_rebased : {copies : CopyTable} {stays : PageKey → Type 0} {unmet : PageKey → Unmet} (maps : Mapped) (rs : ResidentTable) (os : ObjectTable)
      (rows : List Waiting)
      (who : On → Bool) (waiting_at : ℕ → Option Access) → HasWaiters maps cs copies rs os rows who waiting_at stays unmet
      → ((page : ℕ) → stays (spot newer page)) → HasWaiters maps cs2 copies rs os rows who waiting_at stays unmet
  waits_rebased {stays = stays} maps rs os rows who waiting_at has bare =
      waits_placed maps cs cs2 rs os rows who waiting_at has (λ task what key place. place_rebased maps task what key place)
      (λ task what key place. behind_rebased stays bare maps task what key place)
      (λ task what top key owed at. at_rebased maps task what top at)
