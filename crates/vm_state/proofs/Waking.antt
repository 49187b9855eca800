-- Who waits, once those are to be run again that were to be woken.
use Rattle.std.proofs.Common.{Bool, List, None, Option, Some, ap, false, refl, subst, sym, true, ℕ, ◌∙◌, ◌≡◌}
use Rattle.std.specs.Prelude.{if◌then◌else◌}
use Rattle.vm_copies.specs.Copies.{CopyTable}
use Rattle.vm_maps.specs.Judge.{IsAllowed}
use Rattle.vm_maps.specs.Maps.{Mapped}
use Rattle.vm_model.specs.Waiting.{Access}
use Rattle.vm_objects.specs.Objects.{ObjectTable}
use Rattle.vm_parts.proofs.Rows.{some_is}
use Rattle.vm_resident.specs.Resident.{ResidentTable, page_key, row_at}
use Rattle.vm_resident.specs.declared.page_row.PageRow.{PageRow}
use Rattle.vm_shadow.specs.Chains.{ChainTable}
use Rattle.vm_base.specs.declared.ids.PageKey.{PageKey}
use Rattle.vm_state.specs.Passed.{Passed, Unmet}
use Rattle.vm_state.specs.Waiters.{Asker, HasWaiters, IsPlaceOf, Reason, is_awaited, is_woken, waiting_in}
use Rattle.vm_supply.specs.declared.woken.Woken.TheVariants as woken
use Rattle.vm_waits.proofs.Entries.{waked_cases}
use Rattle.vm_waits.specs.Waits.{Waked, entry, with_on}
use Rattle.vm_waits.specs.Waits as waits
use Rattle.vm_waits.specs.Wants.{IsSizedWant, address_in, need_in}
use Rattle.vm_waits.specs.declared.waiting.On.{On}
use Rattle.vm_waits.specs.declared.waiting.On.TheVariants as on
use Rattle.vm_waits.specs.declared.waiting.Waiting.{Waiting}

-- what an access is to do, and where to, stands while it is woken
told_same : (size : ℕ) (test : On → Bool) (old new : Option Waiting) → Waked test old new → waiting_in size old ≡ waiting_in size new
told_same size test None new wakes = sym (ap (waiting_in size) wakes)
told_same size test (Some w) new wakes = sym (ap (waiting_in size) wakes ∙ by (test w.on))
  where
    by : (b : Bool) → waiting_in size (Some (if b then with_on w on.Again else w)) ≡ waiting_in size (Some w)
    by true = refl
    by false = refl

-- who isn't woken has its row still
stays_waked : (test : On → Bool) (old new : Option Waiting) (w : Waiting) → Waked test old new → old ≡ Some w → test w.on ≡ false → new ≡ Some w
stays_waked test None new w wakes is asleep = absurd (let bad : None ≡ Some w = is in cc)
stays_waked test (Some was) new w wakes is asleep =
    wakes ∙ (ap (λ (z : Waiting). Some (waits.woken test z)) (some_is was w is) ∙ ap (λ (b : Bool). Some (if b then with_on w on.Again else w)) asleep)

-- no page is awaited for which somebody is to be woken; so all the others have their reasons
pub waits_woken : {copies : CopyTable} {stays : PageKey → Type 0} {unmet : PageKey → Unmet} (maps : Mapped) (chains : ChainTable) (rs : ResidentTable)
    (os : ObjectTable)
    (rows rows2 : List Waiting) (who : On → Bool) (at : ℕ → Option Access) → HasWaiters maps chains copies rs os rows who at stays unmet
    → ((t : ℕ) → Waked who (entry rows t) (entry rows2 t))
    → ((o p : ℕ) (row : PageRow) → row_at rs o p ≡ Some row → is_awaited row ≡ true → who (on.Page (page_key o p)) ≡ false)
    → HasWaiters maps chains copies rs os rows2 (is_woken woken.Nobody) at stays unmet
waits_woken {copies = copies} {stays = stays} {unmet = unmet} maps chains rs os rows rows2 who at has wakes apart =
    record {
      is = λ t here. has.is t here ∙ told_same maps.size who (entry rows t) (entry rows2 t) (wakes t);
      allowed =
          λ t v is. waked_cases {P = IsAllowed maps t (address_in maps.size v.want) (need_in v.want)} who (entry rows t) (entry rows2 t) v (wakes t) is
          (λ was asleep. has.allowed t v was)
          (λ w was passes same. subst (λ (z : Waiting). IsAllowed maps t (address_in maps.size z.want) (need_in z.want)) same (has.allowed t w was));
      sized =
          λ t v is. waked_cases {P = IsSizedWant maps.size v.want} who (entry rows t) (entry rows2 t) v (wakes t) is (λ was asleep. has.sized t v was)
          (λ w was passes same. subst (λ (z : Waiting). IsSizedWant maps.size z.want) same (has.sized t w was));
      reasons =
          λ t v is asleep. waked_cases {P = Reason maps chains copies rs os t v.want v.on} who (entry rows t) (entry rows2 t) v (wakes t) is
          (λ was still. has.reasons t v was still)
          (λ w was passes same. subst (λ (z : Waiting). Reason maps chains copies rs os t z.want z.on) same tt);
      passed =
          λ t v is asleep. waked_cases {P = Passed stays unmet maps chains t v.want v.on} who (entry rows t) (entry rows2 t) v (wakes t) is
          (λ was still. has.passed t v was still)
          (λ w was passes same. subst (λ (z : Waiting). Passed stays unmet maps chains t z.want z.on) same tt);
      aims =
          λ t v key is waits. waked_cases {P = IsPlaceOf maps chains t v.want key} who (entry rows t) (entry rows2 t) v (wakes t) is
          (λ was asleep. has.aims t v key was waits)
          (λ w was passes same. absurd (let bad : on.Again ≡ on.Page key = ap (λ (z : Waiting). z.on) same ∙ waits in cc));
      askers = λ o p row found awaits. asks o p (apart o p row found awaits) (has.askers o p row found awaits);
      ready = has.ready;
    }
  where
    asks : (o p : ℕ) → who (on.Page (page_key o p)) ≡ false → Asker rows o p → Asker rows2 o p
    asks o p asleep asker =
        record {
          task = asker.task;
          row = asker.row;
          is = stays_waked who (entry rows asker.task) (entry rows2 asker.task) asker.row (wakes asker.task) asker.is (ap who asker.waits ∙ asleep);
          waits = asker.waits;
        }

-- some more are to be woken
pub waits_wider : {copies : CopyTable} {stays : PageKey → Type 0} {unmet : PageKey → Unmet} (maps : Mapped) (chains : ChainTable) (rs : ResidentTable)
    (os : ObjectTable)
    (rows : List Waiting) (who wider : On → Bool) (at : ℕ → Option Access) → HasWaiters maps chains copies rs os rows who at stays unmet
    → ((why : On) → wider why ≡ false → who why ≡ false) → HasWaiters maps chains copies rs os rows wider at stays unmet
waits_wider maps chains rs os rows who wider at has fewer =
    record {
      is = has.is;
      allowed = has.allowed;
      sized = has.sized;
      reasons = λ t w found asleep. has.reasons t w found (fewer w.on asleep);
      passed = λ t w found asleep. has.passed t w found (fewer w.on asleep);
      aims = has.aims;
      askers = has.askers;
      ready = has.ready;
    }

-- who waits for no page may be woken at any time
pub waits_roused : {copies : CopyTable} {stays : PageKey → Type 0} {unmet : PageKey → Unmet} (maps : Mapped) (chains : ChainTable) (rs : ResidentTable)
    (os : ObjectTable)
    (rows rows2 : List Waiting) (who : On → Bool) (at : ℕ → Option Access)
    → HasWaiters maps chains copies rs os rows (is_woken woken.Nobody) at stays unmet → ((t : ℕ) → Waked who (entry rows t) (entry rows2 t))
    → ((key : PageKey) → who (on.Page key) ≡ false) → HasWaiters maps chains copies rs os rows2 (is_woken woken.Nobody) at stays unmet
waits_roused maps chains rs os rows rows2 who at has wakes apart =
    waits_woken maps chains rs os rows rows2 who at (waits_wider maps chains rs os rows (is_woken woken.Nobody) who at has (λ why asleep. refl)) wakes
    (λ o p row found awaits. apart (page_key o p))
