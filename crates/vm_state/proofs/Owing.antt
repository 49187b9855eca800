-- Who waits, while copy objects change: each store that waits to push its page owes it to the same place still, or is to be woken.
use Rattle.std.proofs.Common.{Bool, List, Option, Some, ap, false, inl, inr, refl, subst, sym, true, ℕ, ◌&&◌, ◌==◌, ◌∙◌, ◌≡◌}
use Rattle.std.proofs.lemmas.Bool.Decides.{eqb_tells}
use Rattle.std.specs.Prelude.{if◌then◌else◌, ◌⊎◌}
use Rattle.vm_base.specs.declared.ids.ObjectId.{ObjectId}
use Rattle.vm_base.specs.declared.ids.PageKey.{PageKey}
use Rattle.vm_copies.specs.Copies.{EndsCopy, ClearsHad, CopyRow, CopyTable, PutsNewest, among, had_at, newest_at}
use Rattle.vm_fault.specs.Pushes.{Notes, OfCopy, OfOther, owed_at}
use Rattle.vm_maps.specs.Maps.{Mapped}
use Rattle.vm_model.specs.Waiting.{Access}
use Rattle.vm_objects.specs.Objects.{ObjectTable}
use Rattle.vm_parts.proofs.Rows.{one_case}
use Rattle.vm_resident.specs.Resident.{ResidentTable, page_key, row_at}
use Rattle.vm_shadow.specs.Chains.{ChainTable}
use Rattle.vm_state.proofs.CopyObjects.{ended_had, ended_newest, owed_from, owed_some}
use Rattle.vm_state.proofs.Pushing.{PushesNone, push_same}
use Rattle.vm_state.proofs.Waiting.{IsUnawaited, away_awaited, awaited_apart, row_moved}
use Rattle.vm_state.specs.Waiters.{HasWaiters, IsAsked, Reason, WaitsToPush}
use Rattle.vm_waits.specs.Waits.{entry}
use Rattle.vm_waits.specs.declared.waiting.On.{On}
use Rattle.vm_waits.specs.declared.waiting.On.TheVariants as on
use Rattle.vm_waits.specs.declared.waiting.Waiting.{Waiting}
use Rattle.vm_waits.specs.declared.waiting.Want.{Want}
use Rattle.vm_state.specs.Passed.{Unmet}

reason_owed : (maps : Mapped) (chains : ChainTable) (copies copies2 : CopyTable) (rs : ResidentTable) (os : ObjectTable) (t : ℕ) (what : Want) (reason : On)
    → ((key : PageKey) → reason ≡ on.Push key → (push : WaitsToPush maps chains copies rs t what key) → owed_at copies2 push.top ≡ Some key)
    → Reason maps chains copies rs os t what reason → Reason maps chains copies2 rs os t what reason
reason_owed maps chains copies copies2 rs os t what on.Again owed is = tt
reason_owed maps chains copies copies2 rs os t what (on.Ready object) owed is = is
reason_owed maps chains copies copies2 rs os t what (on.Page key) owed is = is
reason_owed maps chains copies copies2 rs os t what (on.Push key) owed is = push_same is is.at (owed key refl is)
reason_owed maps chains copies copies2 rs os t what on.Frame owed is = tt

pub waits_owed : {copies copies2 : CopyTable} {stays : PageKey → Type 0} {unmet : PageKey → Unmet} (maps : Mapped) (chains : ChainTable) (rs : ResidentTable)
    (os : ObjectTable)
    (rows : List Waiting) (who : On → Bool) (at : ℕ → Option Access) → HasWaiters maps chains copies rs os rows who at stays unmet
    → ((t : ℕ) (w : Waiting) (key : PageKey) → entry rows t ≡ Some w → who w.on ≡ false → w.on ≡ on.Push key
    → (push : WaitsToPush maps chains copies rs t w.want key) → owed_at copies2 push.top ≡ Some key)
    → HasWaiters maps chains copies2 rs os rows who at stays unmet
waits_owed {copies = copies} {copies2 = copies2} maps chains rs os rows who at has owed =
    record {
      is = has.is;
      allowed = has.allowed;
      sized = has.sized;
      reasons = λ t w found asleep. reason_owed maps chains copies copies2 rs os t w.want w.on (λ key same push. owed t w key found asleep same push)
          (has.reasons t w found asleep);
      passed = has.passed;
      aims = has.aims;
      askers = has.askers;
      ready = has.ready;
    }

-- a place into which nobody waits to push: it isn't asked, or those are to be woken
abbrev pub TakesNoPush : ResidentTable → (On → Bool) → PageKey → Type 0
TakesNoPush rs who key = IsUnawaited (row_at rs key.object.0 key.page.0) ⊎ (who (on.Push key) ≡ true)

apart_push : (rs : ResidentTable) (who : On → Bool) (key place : PageKey) → TakesNoPush rs who key → who (on.Push place) ≡ false
    → IsAsked rs place.object.0 place.page.0 → key.object.0 ≡ place.object.0 → key.page.0 ≡ place.page.0 → ⊥
apart_push rs who key place none asleep asked same also = elim none [
  | inl not ↦ awaited_apart (row_at rs key.object.0 key.page.0) asked.row not
      (row_moved rs key.object.0 key.page.0 place.object.0 place.page.0 same also ∙ asked.found) (away_awaited asked.row asked.away)
  | inr woken ↦
      let bad : true ≡ false = sym woken
      ∙ (ap (λ z. who (on.Push (page_key z key.page.0))) same ∙ (ap (λ z. who (on.Push (page_key place.object.0 z))) also ∙ asleep)) in
      cc
]

-- a page came to a place, and is noted where that is a copy object's
pub waits_noted : {copies copies2 : CopyTable} {stays : PageKey → Type 0} {unmet : PageKey → Unmet} (maps : Mapped) (chains : ChainTable) (rs : ResidentTable)
    (os : ObjectTable)
    (rows : List Waiting) (who : On → Bool) (at : ℕ → Option Access) (key : PageKey) → HasWaiters maps chains copies rs os rows who at stays unmet
    → Notes key copies copies2 → TakesNoPush rs who key → HasWaiters maps chains copies2 rs os rows who at stays unmet
waits_noted {stays = stays} {unmet = unmet} maps chains rs os rows who at key has (OfOther none same) apart =
    subst (λ (z : CopyTable). HasWaiters maps chains z rs os rows who at stays unmet) (sym same) has
waits_noted {copies = copies} {copies2 = copies2} maps chains rs os rows who at key has (OfCopy row found put noted newest room) apart =
    waits_owed maps chains rs os rows who at has
    (λ t w place is asleep waits push. still push.top place push.owed (apart_push rs who key place apart (ap who (sym waits) ∙ asleep) push.asked))
  where
    had_still : (c p : ℕ) → (key.object.0 ≡ c → key.page.0 ≡ p → ⊥) → had_at copies2 c p ≡ had_at copies c p
    had_still c p other = elim (eqb_tells key.object.0 c) [
      | inl same ↦ elim (eqb_tells key.page.0 p) [
        | inl also ↦ absurd (other same.1 also.1)
        | inr off ↦
            noted.at c p ∙ (ap (λ b. if b && (key.page.0 == p) then true else had_at copies c p) same.0
            ∙ ap (λ b. if b then true else had_at copies c p) off.0)
      ]
      | inr off ↦ noted.at c p ∙ ap (λ b. if b && (key.page.0 == p) then true else had_at copies c p) off.0
    ]

    still : (top place : PageKey) → owed_at copies top ≡ Some place → (key.object.0 ≡ place.object.0 → key.page.0 ≡ place.page.0 → ⊥)
        → owed_at copies2 top ≡ Some place
    still top place owed other =
        let was = owed_some copies top place owed in
        owed_from copies2 top place (ap (among top.object.0) newest ∙ was.0)
        (had_still place.object.0 top.page.0 (λ same also. other same (also ∙ sym (ap (λ (z : PageKey). z.page.0) was.1.1))) ∙ was.1.0)
        was.1.1

-- a copy object ends of which no page is asked
pub waits_ended : {copies copies2 : CopyTable} {stays : PageKey → Type 0} {unmet : PageKey → Unmet} (maps : Mapped) (chains : ChainTable) (rs : ResidentTable)
    (os : ObjectTable)
    (rows : List Waiting) (who : On → Bool) (at : ℕ → Option Access) (o : ℕ) (row : CopyRow) → HasWaiters maps chains copies rs os rows who at stays unmet
    → EndsCopy o row copies copies2 → ((p : ℕ) → IsAsked rs o p → ⊥) → HasWaiters maps chains copies2 rs os rows who at stays unmet
waits_ended {copies = copies} {copies2 = copies2} maps chains rs os rows who at o row has ends none =
    waits_owed maps chains rs os rows who at has
    (λ t w place is asleep waits push. still push.top place push.owed
    (λ same. none place.page.0 (subst (λ (z : ℕ). IsAsked rs z place.page.0) (sym same) push.asked)))
  where
    still : (top place : PageKey) → owed_at copies top ≡ Some place → (o ≡ place.object.0 → ⊥) → owed_at copies2 top ≡ Some place
    still top place owed other =
        let was = owed_some copies top place owed in
        owed_from copies2 top place (ended_newest ends top.object.0 place.object.0 other was.0) (ended_had ends place.object.0 top.page.0 other ∙ was.1.0)
        was.1.1

-- a file has a newer copy object: nobody waits to push a page of it
pub waits_copied : {copies copies2 : CopyTable} {stays : PageKey → Type 0} {unmet : PageKey → Unmet} (maps : Mapped) (chains : ChainTable)
    (rs : ResidentTable) (os : ObjectTable)
    (rows : List Waiting) (who : On → Bool) (at : ℕ → Option Access) (source : ℕ) (copy : ObjectId)
    → HasWaiters maps chains copies rs os rows who at stays unmet → PutsNewest source (Some copy) copies copies2 → ClearsHad copy.0 copies copies2
    → ((p : ℕ) → PushesNone copies rows who source p) → HasWaiters maps chains copies2 rs os rows who at stays unmet
waits_copied {copies = copies} {copies2 = copies2} maps chains rs os rows who at source copy has newest clears none =
    waits_owed maps chains rs os rows who at has
    (λ t w place is asleep waits push. still push.top place push.owed
    (λ same. (none push.top.page.0).at t w place is asleep waits (ap (λ z. owed_at copies (page_key z push.top.page.0)) same ∙ push.owed)))
  where
    still : (top place : PageKey) → owed_at copies top ≡ Some place → (source ≡ top.object.0 → ⊥) → owed_at copies2 top ≡ Some place
    still top place owed other =
        let was = owed_some copies top place owed in
        owed_from copies2 top place (beside other ∙ was.0) (bare place.object.0 top.page.0 was.1.0) was.1.1
      where
        beside : (source ≡ top.object.0 → ⊥) → newest_at copies2 top.object.0 ≡ newest_at copies top.object.0
        beside apart = elim (one_case source top.object.0 (Some copy) (newest_at copies top.object.0) (newest_at copies2 top.object.0)
            (newest.at top.object.0)) [
              | inl this ↦ absurd (apart this.0)
              | inr off ↦ off.1
            ]

        bare : (c p : ℕ) → had_at copies c p ≡ false → had_at copies2 c p ≡ false
        bare c p was = elim (one_case copy.0 c false (had_at copies c p) (had_at copies2 c p) (clears.at c p)) [
          | inl this ↦ this.1
          | inr off ↦ off.1 ∙ was
        ]

-- nobody waits to push a page where the place to which it is owed isn't asked
pub pushes_unasked : {copies : CopyTable} {stays : PageKey → Type 0} {unmet : PageKey → Unmet} (maps : Mapped) (chains : ChainTable) (rs : ResidentTable)
    (os : ObjectTable)
    (rows : List Waiting) (who : On → Bool) (at : ℕ → Option Access) (o p : ℕ) → HasWaiters maps chains copies rs os rows who at stays unmet
    → ((key : PageKey) → owed_at copies (page_key o p) ≡ Some key → IsAsked rs key.object.0 key.page.0 → ⊥) → PushesNone copies rows who o p
pushes_unasked {copies = copies} maps chains rs os rows who at o p has none =
    record { at = λ t w key is asleep waits owed. none key owed (asked t w.want w.on key waits (has.reasons t w is asleep)) }
  where
    asked : (t : ℕ) (what : Want) (why : On) (key : PageKey) → why ≡ on.Push key → Reason maps chains copies rs os t what why
        → IsAsked rs key.object.0 key.page.0
    asked t what why key same reason =
        let push : WaitsToPush maps chains copies rs t what key = subst (λ (z : On). Reason maps chains copies rs os t what z) same reason in push.asked
