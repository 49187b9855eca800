-- An access that meets no control isn't served.
use Rattle.std.proofs.lemmas.Bool.Decides.{nat_tests}
use Rattle.std.proofs.lemmas.Option.{none-some}
use Rattle.vm_legal.proofs.Unshared.{wild_named}
use Rattle.vm_kernel.proofs.Common.{Bool, Event, Header, Ids, List, Matches, MeetsNoControl, None, Option, PageKey, Parts, Some, Waiting, Works, [], ap}
use Rattle.vm_kernel.proofs.Common.{arith, entry, false, if◌then◌else◌, length, live_in, named, nat_lt, object_at, refl, some_is, subst, sym, true, ℕ, ◌∙◌}
use Rattle.vm_kernel.proofs.Common.{◌≡◌}
use Rattle.vm_kernel.proofs.abroad.OwnHost.{lives_here}
use Rattle.vm_kernel.proofs.controls.DestroyTaken.{WaitedHere, unserved_over, waited_here}
use Rattle.vm_kernel.specs.Destroying.{is_on, place_led, unserved}
use Rattle.vm_model.specs.Controls.{live_control}
use Rattle.vm_objects.specs.declared.row.ObjectRow.{ObjectRow}
use Rattle.vm_state.specs.References.{is_live_in}
use Rattle.vm_supply.specs.declared.woken.Woken.TheVariants as woken

none_dead : (known : Option ObjectRow) → live_in known ≡ None → is_live_in known ≡ false
none_dead None none = refl
none_dead (Some row) none = by row.live none
  where
    by : (b : Bool) → (if b then Some row.control else None) ≡ None → b ≡ false
    by true some = absurd (none-some row.control (sym some))
    by false none = refl

pub missed_unserved : (header : Header) (h : ℕ) (past : List Event) (k : Parts) (ids : Ids) (w : Waiting) → Works header h k ids woken.Nobody past
    → entry k.waits.rows w.task.0 ≡ Some w → MeetsNoControl header w.task.0 past → (key : PageKey) × (unserved k w ≡ Some key)
missed_unserved header h past k ids w works found meets = unserved_over k object (place_led k.maps w.task.0 w.want) over less dead
  where
    m : Matches header h k ids [] past
    m = works.matches

    object : ℕ
    object = meets.waits.at.entry.region.0

    home : meets.waits.at.host ≡ h
    home = some_is meets.waits.at.host h (sym meets.waits.at.lives ∙ lives_here m.core.spaces.tasks (works.waits.allowed w.task.0 w found).lives)

    here : WaitedHere k w.task.0 object
    here = waited_here header h k ids past object w.task.0 meets.access m works.waits works.used.copies meets.wild meets.waits home refl

    over : is_on k.maps object w ≡ true
    over = subst (λ (z : Waiting). is_on k.maps object z ≡ true) (some_is here.row w (sym here.is ∙ found)) here.over

    below : nat_lt object (named header) ≡ true
    below = let low = wild_named header object meets.wild in grind (arith, nat_tests)

    less : nat_lt object (length k.declared.items) ≡ true
    less = ap (λ z. nat_lt object (length z)) m.core.setting.objects ∙ below

    dead : is_live_in (object_at k.memory.objects object) ≡ false
    dead =
        none_dead (object_at k.memory.objects object)
        (sym (m.core.controls.live object) ∙ (ap (λ z. live_control z object past) (sym home) ∙ meets.none))

-- so one that is served meets its control
pub served_meets : (header : Header) (h : ℕ) (past : List Event) (k : Parts) (ids : Ids) (w : Waiting) → Works header h k ids woken.Nobody past
    → entry k.waits.rows w.task.0 ≡ Some w → unserved k w ≡ None → MeetsNoControl header w.task.0 past → ⊥
served_meets header h past k ids w works found served meets =
    let missed = missed_unserved header h past k ids w works found meets in
    none-some missed.0 (sym served ∙ missed.1)
