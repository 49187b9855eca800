-- Where no backing failed no event tells of one, and only accesses to pages without a slot fail.
use Rattle.std.proofs.Common.{◌≡◌, ℕ, ◌+◌, ◌≤◌, ◌⊎◌, inl, inr, List, [], ◌∷◌, false, refl, arith, Some, Option}
use Rattle.vm_model.specs.declared.command.Numbered.{Numbered}
use Rattle.vm_model.specs.declared.event.Device.{Device}
use Rattle.vm_model.specs.declared.event.Device.TheVariants as device
use Rattle.vm_model.specs.declared.event.Event.{Event}
use Rattle.vm_model.specs.declared.event.Event.TheVariants as event
use Rattle.vm_model.specs.declared.script.Script.{Script}
use Rattle.vm_legal.specs.Outside.{Outside}
use Rattle.vm_losses.specs.Losses.{ever, is_device_event}
use Rattle.vm_losses.proofs.Losses.{fails_unslotted}
use Rattle.vm_outside.specs.Causes.{CountRises}
use Rattle.vm_system.specs.Steps.{arms, devices}
use Rattle.vm_top.specs.Arming.{FailuresBounded, armings}
use Rattle.vm_top.specs.declared.top.Status.{Status}
use Rattle.vm_top.specs.declared.words.Report.{Report}
use Rattle.vm_top.specs.Ending.{EndsAs}
use Rattle.vm_top.specs.Losses.{HasNotFailed, LosesUnslotted}
use Rattle.vm_top.proofs.Resting.{causes_of, ends_legal}

-- no failure of this backing is told
none_told : (told before now arming whole : ℕ) → (told + before ≤ now + arming) ⊎ CountRises whole whole → now ≡ before → arming ≡ 0
    → (CountRises whole whole → ⊥) → told ≡ 0
none_told told before now arming whole (inl few) within unarmed counts = omega (arith, few, within, unarmed)
none_told told before now arming whole (inr last) within unarmed counts = absurd (counts last)

pub untold : (who : Device) (run : List Numbered) (before now whole : ℕ) (h : List Event) → FailuresBounded who run before now whole h
    → HasNotFailed who run before now whole → devices who h ≡ 0
untold who run before now whole h bounded spared =
    none_told (devices who h) before now (armings (arms who) run) whole bounded spared.within spared.unarmed spared.counts

one_less : (n : ℕ) → n + 1 ≡ 0 → ⊥
one_less n is = omega arith

-- and where none of either is, no event tells of one
no_device : (h : List Event) → devices device.Files h ≡ 0 → devices device.Paging h ≡ 0 → ever is_device_event h ≡ false
no_device [] files paging = refl
no_device (event.DeviceFailed device.Files way object page ∷ past) files paging = absurd (one_less (devices device.Files past) files)
no_device (event.DeviceFailed device.Paging way object page ∷ past) files paging = absurd (one_less (devices device.Paging past) paging)
no_device (e ∷ past) files paging = no_device past files paging

-- however a run ended
pub loses_unslotted : (report : Report) (run : Script) (outside : Outside) (h : List Event) (before after : Option (List ℕ)) (s : Status)
    → EndsAs report run outside h before after s
    → devices device.Files h ≡ 0 → devices device.Paging h ≡ 0 → LosesUnslotted (Some run) h
loses_unslotted report run outside h before after s ends files paging =
    let legal = ends_legal report run outside h before after s ends in
    let none = no_device h files paging in
    (none, fails_unslotted run.header outside h (causes_of run outside h legal) none)
