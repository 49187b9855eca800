-- Both backings fit the system behind a call where they did in front of it, and go on.
use Rattle.vm_system.proofs.Common.{ArmedLater, Arming, BackingGoes, BackingWent, BackingsFit, Command, Device, Event, FilesAreKept, FilesCarry}
use Rattle.vm_system.proofs.Common.{GrowsWithinLimit, Header, LeavesBacking, List, None, Option, Outside, Some, Spares, SparesPaging, State, Told, ap}
use Rattle.vm_system.proofs.Common.{armed_later_more, armed_later_same, arms, devices, inl, refl, subst, sum_count, ℕ, ◌≡◌}
use Rattle.vm_outside.specs.Arming.{ReachesOne, later_reaches_one}
use Rattle.vm_system.proofs.Beginning.{causes_same}
use Rattle.vm_system.proofs.Settled.{counted_more}

-- no pager had a part in it
pub fit_spared : (header : Header) (outside : Outside) (start files paging : List ℕ → Told) (old new : State) → Spares header outside old new
    → BackingsFit header outside start files paging old → BackingsFit header outside start files paging new
fit_spared header outside start files paging old new spares fit = record {
  kept = spares.paging.kept paging fit.kept;
  files_kept = spares.files.kept files fit.files_kept;
  carried = spares.files.carried start files fit.carried;
}

-- the system is the same
pub fit_at : (header : Header) (outside : Outside) (start files paging : List ℕ → Told) (old new : State) → old ≡ new
    → BackingsFit header outside start files paging old → BackingsFit header outside start files paging new
fit_at header outside start files paging old new same fit = subst (λ (z : State). BackingsFit header outside start files paging z) same fit

-- a file's pager had a part in it
pub fit_filed : (header : Header) (outside : Outside) (start was files paging : List ℕ → Told) (old new : State) → SparesPaging header outside old new
    → FilesAreKept header outside files new → (FilesCarry header start was old.history.items → FilesCarry header start files new.history.items)
    → BackingsFit header outside start was paging old → BackingsFit header outside start files paging new
fit_filed header outside start was files paging old new spares kept carried fit = record {
  kept = spares.kept paging fit.kept;
  files_kept = kept;
  carried = carried fit.carried;
}

-- a backing was left alone, and no failure of it is told

pub still : {B : Type 0} (goes : B → B → Type 0) → ((s : B) → goes s s) → (a : Arming B) → goes a.inner a.inner × ArmedLater a.left a.reached a.left a.reached
still goes same a = (same a.inner, armed_later_same a.left a.reached)

pub goes_still : {T : Type 0} (who : Device) (faults : ℕ) (old new : List Event) → T → devices who new ≡ devices who old
    → BackingGoes who T faults faults old new
goes_still who faults old new later same = record { later = later; devices = causes_same who faults old new same }

-- so it is from a history that is the same
pub goes_from : {T : Type 0} (who : Device) (before now : ℕ) (was old new : List Event) → was ≡ old → BackingGoes who T before now was new
    → BackingGoes who T before now old new
goes_from {T} who before now was old new same goes = subst (λ (z : List Event). BackingGoes who T before now z new) same goes

-- a step reaches one armed failure at most
pub step_reaches : {B : Type 0} (header : Header) (who : Device) (doing : Command) (history : List Event) (old new : Arming B)
    → LeavesBacking header who doing history old new → (arms who doing ≡ None → ArmedLater old.left old.reached new.left new.reached) → ReachesOne old new
step_reaches {B} header who doing history old new leaves later = by_arming (arms who doing) refl
  where
    by_arming : (count : Option ℕ) → arms who doing ≡ count → ReachesOne old new
    by_arming None is = later_reaches_one old new (later is)
    by_arming (Some count) is = inl (ap (λ (z : Arming B). z.reached) (leaves.armed count is))

-- a settle goes on with a taking more
pub went_more : {B : Type 0} (who : Device) (goes : B → B → Type 0) (faults : B → ℕ) (a b c : Arming B) (first old new : List Event)
    → ((r s t : B) → goes r s → goes s t → goes r t) → GrowsWithinLimit first old → GrowsWithinLimit old new
    → BackingWent who (goes a.inner b.inner × ArmedLater a.left a.reached b.left b.reached)
    (sum_count (faults a.inner) a.reached) (sum_count (faults b.inner) b.reached) first old
    → BackingGoes who (goes b.inner c.inner × ArmedLater b.left b.reached c.left c.reached)
    (sum_count (faults b.inner) b.reached) (sum_count (faults c.inner) c.reached) old new
    → BackingWent who (goes a.inner c.inner × ArmedLater a.left a.reached c.left c.reached)
    (sum_count (faults a.inner) a.reached) (sum_count (faults c.inner) c.reached) first new
went_more who goes faults a b c first old new more grew grown one two = record {
  later = (more a.inner b.inner c.inner one.later.0 two.later.0, armed_later_more _ _ _ _ _ _ one.later.1 two.later.1);
  devices = counted_more who _ _ _ first old new grew grown one.devices two.devices;
}
