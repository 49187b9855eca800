-- Which events are plain, by what they are about.
use Rattle.std.proofs.Common.{◌≡◌, true, false, refl}
use Rattle.std.specs.Prelude.{not}
use Rattle.vm_model.specs.declared.event.Event.{Event}
use Rattle.vm_model.specs.declared.event.Event.TheVariants as event
use Rattle.vm_model.specs.Kinds.{Accesses, Beginnings, about}
use Rattle.vm_model.specs.Summary.{is_loaded, is_stored}
use Rattle.vm_model.proofs.Unspoken.{is_begun_copy, of_accesses, of_beginnings}
use Rattle.vm_free.specs.Free.{is_of_set_up, is_plain}

pub is_plain_elsewhere : (e : Event) → (about e ≡ Beginnings → ⊥) → (about e ≡ Accesses → ⊥) → is_plain e ≡ not (is_of_set_up (about e))
is_plain_elsewhere (event.BegunCopy task address bytes to) unbegun no_access = absurd (unbegun refl)
is_plain_elsewhere (event.CopiedPage task page object object_page target) unbegun no_access = absurd (no_access refl)
is_plain_elsewhere (event.CopyEnded task) unbegun no_access = absurd (no_access refl)
is_plain_elsewhere (event.Failed task object page) unbegun no_access = absurd (no_access refl)
is_plain_elsewhere other unbegun no_access = refl

-- of accesses loads and stores alone are plain
pub is_plain_of_accesses : (e : Event) → about e ≡ Accesses → is_loaded e ≡ false → is_stored e ≡ false → is_plain e ≡ false
is_plain_of_accesses =
    of_accesses (λ e. is_loaded e ≡ false → is_stored e ≡ false → is_plain e ≡ false)
    (λ task object page value unloaded unstored. absurd (cc))
    (λ task object page at size value unloaded unstored. absurd (cc))
    (λ task page object object_page target unloaded unstored. refl)
    (λ task unloaded unstored. refl)
    (λ task object page unloaded unstored. refl)

pub is_plain_of_beginnings : (e : Event) → about e ≡ Beginnings → is_begun_copy e ≡ false → is_plain e ≡ true
is_plain_of_beginnings =
    of_beginnings (λ e. is_begun_copy e ≡ false → is_plain e ≡ true)
    (λ task address size uncopied. refl)
    (λ task address size value uncopied. refl)
    (λ task address bytes to uncopied. absurd (cc))
