-- Who waits, while more is known of objects, or another number of references, or a page goes that was here.
use Rattle.std.proofs.Common.{Bool, List, None, Option, Some, ap, false, inl, inr, refl, subst, sym, true, ℕ, ◌∙◌, ◌≡◌}
use Rattle.vm_base.specs.declared.ids.ObjectId.{ObjectId}
use Rattle.vm_base.specs.declared.ids.PageKey.{PageKey}
use Rattle.vm_copies.specs.Copies.{CopyTable}
use Rattle.vm_maps.specs.Maps.{Mapped}
use Rattle.vm_model.specs.Waiting.{Access}
use Rattle.vm_objects.specs.Objects.{ObjectTable, PutsObject, object_at}
use Rattle.vm_objects.specs.declared.row.ObjectRow.{ObjectRow}
use Rattle.vm_parts.proofs.Rows.{one_case, some_is}
use Rattle.vm_resident.specs.Resident.{PutsRow, ResidentTable, row_at}
use Rattle.vm_resident.specs.declared.page_row.PageRow.{PageRow}
use Rattle.vm_shadow.specs.Chains.{ChainTable}
use Rattle.vm_state.specs.Pagers.{ready_in}
use Rattle.vm_state.specs.Waiters.{HasWaiters, IsPagerTold, IsPlaceOf, Reason}
use Rattle.vm_waits.specs.declared.waiting.On.{On}
use Rattle.vm_waits.specs.declared.waiting.On.TheVariants as on
use Rattle.vm_waits.specs.declared.waiting.Waiting.{Waiting}
use Rattle.vm_waits.specs.declared.waiting.Want.{Want}
use Rattle.vm_state.proofs.Waiting.{here_unawaited, none_unawaited, waiters_page}
use Rattle.vm_state.specs.Passed.{Unmet}

-- the pagers that were told of objects in use are told still
pub record StillTold (maps : Mapped) (cs : ChainTable) (os os2 : ObjectTable) : Type 0 where
  pub at : (task : ℕ) (what : Want) (key : PageKey) → IsPlaceOf maps cs task what key → IsPagerTold os key.object.0 → IsPagerTold os2 key.object.0

-- so it is where the pagers of all objects are
pub told_all : (maps : Mapped) (cs : ChainTable) (os os2 : ObjectTable) → ((o : ℕ) → IsPagerTold os o → IsPagerTold os2 o) → StillTold maps cs os os2
told_all maps cs os os2 told = record { at = λ task what key place is. told key.object.0 is }

reason_told : (maps : Mapped) (cs : ChainTable) (copies : CopyTable) (rs : ResidentTable) (os os2 : ObjectTable) (task : ℕ) (what : Want) (why : On)
    → StillTold maps cs os os2
    → Reason maps cs copies rs os task what why → Reason maps cs copies rs os2 task what why
reason_told maps cs copies rs os os2 task what on.Again told reason = reason
reason_told maps cs copies rs os os2 task what (on.Ready object) told reason = (
  reason.0,
  reason.1,
  reason.2,
  subst (λ (z : ObjectId). IsPagerTold os2 z.0) reason.2 (told.at task what reason.0 reason.1
      (subst (λ (z : ObjectId). IsPagerTold os z.0) (sym reason.2) reason.3)),
)
reason_told maps cs copies rs os os2 task what (on.Page key) told reason = reason
reason_told maps cs copies rs os os2 task what (on.Push key) told reason = reason
reason_told maps cs copies rs os os2 task what on.Frame told reason = reason

pub waits_told : {copies : CopyTable} {stays : PageKey → Type 0} {unmet : PageKey → Unmet} (maps : Mapped) (cs : ChainTable) (rs : ResidentTable)
    (os os2 : ObjectTable)
    (rows : List Waiting) (who : On → Bool) (waiting_at : ℕ → Option Access)
    → HasWaiters maps cs copies rs os rows who waiting_at stays unmet → StillTold maps cs os os2
    → ((o p : ℕ) (row : PageRow) → row_at rs o p ≡ Some row → ready_in (object_at os o) ≡ true → ready_in (object_at os2 o) ≡ true)
    → HasWaiters maps cs copies rs os2 rows who waiting_at stays unmet
waits_told {copies = copies} maps cs rs os os2 rows who waiting_at has told ready =
    record {
      is = has.is;
      allowed = has.allowed;
      sized = has.sized;
      reasons = λ t w found apart. reason_told maps cs copies rs os os2 t w.want w.on told (has.reasons t w found apart);
      passed = has.passed;
      aims = has.aims;
      askers = has.askers;
      ready = λ o p row found away. ready o p row found (has.ready o p row found away);
    }

-- a page that is here has gone, of which no unlock was outstanding, and its pager may have been told
pub waiters_lost : {copies : CopyTable} {stays : PageKey → Type 0} {unmet : PageKey → Unmet} (maps : Mapped) (cs : ChainTable) (rs rs2 : ResidentTable)
    (os os2 : ObjectTable)
    (rows : List Waiting) (who : On → Bool) (waiting_at : ℕ → Option Access) (o p : ℕ) (row : PageRow)
    → HasWaiters maps cs copies rs os rows who waiting_at stays unmet → row_at rs o p ≡ Some row → row.here ≡ true → row.unlock_sent ≡ false
    → PutsRow o p None rs rs2
    → ((object : ℕ) → IsPagerTold os object → IsPagerTold os2 object)
    → ((object : ℕ) → ready_in (object_at os object) ≡ true → ready_in (object_at os2 object) ≡ true)
    → HasWaiters maps cs copies rs2 os2 rows who waiting_at stays unmet
waiters_lost maps cs rs rs2 os os2 rows who waiting_at o p row has found here sent put told ready =
    waits_told maps cs rs2 os os2 rows who waiting_at (waiters_page maps cs rs rs2 os rows who waiting_at o p None has put
    (inl (here_unawaited (row_at rs o p) row found here sent)) (none_unawaited None refl))
    (told_all maps cs os os2 told) (λ o2 p2 r there is. ready o2 is)

-- an object has another number of references

told_referred_at : (r left : ℕ) (was : ObjectRow) (os os2 : ObjectTable) → object_at os r ≡ Some was
    → PutsObject r (Some (record was { references = left })) os os2 → (o : ℕ) → IsPagerTold os o → IsPagerTold os2 o
told_referred_at r left was os os2 found put o told =
    elim (one_case r o (Some (record was { references = left })) (object_at os o) (object_at os2 o) (put.at o)) [
      | inl this ↦
          let same : was ≡ told.row = some_is was told.row (sym (subst (λ (z : ℕ). object_at os z ≡ Some was) this.0 found) ∙ told.found) in
          record { row = record was { references = left }; found = this.1; sent = ap (λ z. z.state) same ∙ told.sent }
      | inr other ↦ record { row = told.row; found = other.1 ∙ told.found; sent = told.sent }
    ]

pub told_referred : (maps : Mapped) (cs : ChainTable) (r left : ℕ) (was : ObjectRow) (os os2 : ObjectTable) → object_at os r ≡ Some was
    → PutsObject r (Some (record was { references = left })) os os2 → StillTold maps cs os os2
told_referred maps cs r left was os os2 found put = told_all maps cs os os2 (told_referred_at r left was os os2 found put)

-- its pager is as ready as it was
pub ready_referred : (r left : ℕ) (was : ObjectRow) (os os2 : ObjectTable) → object_at os r ≡ Some was
    → PutsObject r (Some (record was { references = left })) os os2 → (o : ℕ) → ready_in (object_at os2 o) ≡ ready_in (object_at os o)
ready_referred r left was os os2 found put o = elim (one_case r o (Some (record was { references = left })) (object_at os o) (object_at os2 o) (put.at o)) [
  | inl this ↦ ap ready_in this.1 ∙ sym (ap ready_in (subst (λ (z : ℕ). object_at os z ≡ Some was) this.0 found))
  | inr other ↦ ap ready_in other.1
]

pub waits_referred : {copies : CopyTable} {stays : PageKey → Type 0} {unmet : PageKey → Unmet} (maps : Mapped) (cs : ChainTable) (rs : ResidentTable)
    (os os2 : ObjectTable)
    (rows : List Waiting) (who : On → Bool) (waiting_at : ℕ → Option Access) (r left : ℕ) (was : ObjectRow)
    → HasWaiters maps cs copies rs os rows who waiting_at stays unmet → object_at os r ≡ Some was
    → PutsObject r (Some (record was { references = left })) os os2
    → HasWaiters maps cs copies rs os2 rows who waiting_at stays unmet
waits_referred maps cs rs os os2 rows who waiting_at r left was has found put =
    waits_told maps cs rs os os2 rows who waiting_at has (told_referred maps cs r left was os os2 found put)
    (λ o p row there is. ready_referred r left was os os2 found put o ∙ is)

-- each object that was known is known as it was
pub record KnowsMore (old new : ObjectTable) : Type 0 where
  pub at : (o : ℕ) (row : ObjectRow) → object_at old o ≡ Some row → object_at new o ≡ Some row

pub knows_made : (os os2 : ObjectTable) (n : ℕ) (row : ObjectRow) → object_at os n ≡ None → PutsObject n (Some row) os os2 → KnowsMore os os2
knows_made os os2 n row none put =
    record {
      at = λ o known found. elim (one_case n o (Some row) (object_at os o) (object_at os2 o) (put.at o)) [
        | inl same ↦ absurd (let bad : None ≡ Some known = sym none ∙ (ap (object_at os) same.0 ∙ found) in cc)
        | inr apart ↦ apart.1 ∙ found
      ];
    }

pub waits_known : {copies : CopyTable} {stays : PageKey → Type 0} {unmet : PageKey → Unmet} (maps : Mapped) (cs : ChainTable) (rs : ResidentTable)
    (os os2 : ObjectTable)
    (rows : List Waiting) (who : On → Bool) (waiting_at : ℕ → Option Access)
    → HasWaiters maps cs copies rs os rows who waiting_at stays unmet → KnowsMore os os2 → HasWaiters maps cs copies rs os2 rows who waiting_at stays unmet
waits_known maps cs rs os os2 rows who waiting_at has more =
    waits_told maps cs rs os os2 rows who waiting_at has
    (told_all maps cs os os2 (λ o told. record { row = told.row; found = more.at o told.row told.found; sent = told.sent }))
    (λ o p row there is. known_ready o (object_at os o) refl is)
  where
    known_ready : (o : ℕ) (known : Option ObjectRow) → object_at os o ≡ known → ready_in known ≡ true → ready_in (object_at os2 o) ≡ true
    known_ready o None found is = absurd (let bad : false ≡ true = is in cc)
    known_ready o (Some row) found is = ap ready_in (more.at o row found) ∙ is
