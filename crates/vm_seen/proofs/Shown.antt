-- What was seen of a history's end is an outcome that was shown.
use Rattle.std.proofs.Common.{◌≡◌, ℕ, List, length, reverse, sym, subst}
use Rattle.vm_model.specs.declared.command.Numbered.{Numbered}
use Rattle.vm_model.specs.declared.event.Event.{Event}
use Rattle.vm_model.specs.declared.script.Header.{Header}
use Rattle.vm_legal.specs.Outside.{Outside}
use Rattle.vm_order.specs.OneMemory.{IsOneMemory}
use Rattle.vm_free.specs.Free.{GoesOn}
use Rattle.vm_free.specs.Orders.{order_of}
use Rattle.vm_free.specs.Outcomes.{AreShown, loaded}
use Rattle.vm_seen.specs.declared.ends.Loaded.{Loaded}
use Rattle.vm_seen.specs.Behind.{later_of, oldest_items}
use Rattle.vm_seen.specs.Ends.{values_of}
use Rattle.vm_seen.proofs.Behind.{begun_with}

-- a history that begins with a set-up's and goes on with the free part shows the outcome of its loads, in the order of its ends
pub end_is_shown : (header : Header) (outside : Outside) (free : List Numbered) (start history : List Event) (order : List ℕ) (loads : List Loaded)
    → IsOneMemory header outside history → oldest_items (length start) history ≡ start → GoesOn free (later_of (length start) history)
    → reverse order ≡ order_of (later_of (length start) history) → ((t : ℕ) → reverse (values_of t loads) ≡ loaded t (later_of (length start) history))
    → AreShown header outside free start (reverse order) (λ t. reverse (values_of t loads))
end_is_shown header outside free start history order loads one begins goes ended gave =
    let P : List Event → Type 0 = λ z. IsOneMemory header outside z in (
      later_of (length start) history,
      record { one = subst P (sym (begun_with history start begins)) one; goes = goes; ended = sym ended; gave = λ t. sym (gave t) },
    )
