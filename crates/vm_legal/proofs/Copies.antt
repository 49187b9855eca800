-- Copies of files are temporary objects.
use Rattle.std.proofs.Common.{◌≡◌, ℕ, ◌≤◌, ◌==◌, Bool, true, false, List, [], ◌∷◌, Option, Some, None, if◌then◌else◌, arith}
use Rattle.vm_model.specs.declared.event.Event.{Event}
use Rattle.vm_model.specs.declared.event.Event.TheVariants as event
use Rattle.vm_model.specs.declared.script.Header.{Header}
use Rattle.vm_model.specs.Moments.{EachEvent}
use Rattle.vm_model.specs.Named.{named}
use Rattle.vm_model.specs.Regions.{newest_copy, next_object}
use Rattle.vm_legal.specs.Licences.{HasCause}
use Rattle.vm_legal.specs.Outside.{Outside}
use Rattle.vm_legal.proofs.Homes.{same_some}
use Rattle.vm_legal.proofs.Numbering.{named_objects}

pub copy_temporary : (header : Header) (outside : Outside) (file copy : ℕ) (past : List Event) → EachEvent (HasCause header outside) past
    → newest_copy file past ≡ Some copy → named header ≤ copy
copy_temporary header outside file copy [] causes is = absurd (let bad : ◌≡◌ {A = Option ℕ} None (Some copy) = is in cc)
copy_temporary header outside file copy (event.Delayed region source offset pages new ∷ past) causes is =
    by (file == source.0) (copy_temporary header outside file copy past causes.1) is
  where
    by : (b : Bool) → (newest_copy file past ≡ Some copy → named header ≤ copy)
        → (if b then Some new.0 else newest_copy file past) ≡ Some copy → named header ≤ copy
    by true before now =
        let number : new.0 ≡ next_object header past = causes.0.1.new in
        omega (arith, same_some new.0 copy now, number, named_objects header past)
    by false before was = before was
copy_temporary header outside file copy (e ∷ past) causes is = copy_temporary header outside file copy past causes.1 is
