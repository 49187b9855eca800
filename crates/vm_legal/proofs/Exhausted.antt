-- Where nothing could be reclaimed, nothing can be, if the same pages are here, and whoever waited for them still does.
use Rattle.std.proofs.Common.{inl, inr, ℕ, ◌≡◌, List, true}
use Rattle.std.proofs.lemmas.Option.{IfSome_then}
use Rattle.vm_model.specs.declared.event.Event.{Event}
use Rattle.vm_model.specs.declared.script.Header.{Header}
use Rattle.vm_legal.specs.Accesses.{WaitsUnlocked}
use Rattle.vm_legal.specs.Prompt.{IsExhausted, IsSource}
use Rattle.vm_legal.specs.Walks.{page_on}

pub exhausted_still : (header : Header) (host : ℕ) (old new : List Event)
    → ((o p : ℕ) → (page_on header host o p new).here ≡ true → (page_on header host o p old).here ≡ true)
    → ((o p : ℕ) → WaitsUnlocked header host o p old → WaitsUnlocked header host o p new)
    → ((o p : ℕ) → IsSource header host o p old → IsSource header host o p new)
    → IsExhausted header host old old → IsExhausted header host new new
exhausted_still header host old new was unlocked source is = record {
  spare = is.spare;
  source = IfSome_then is.spare is.source (λ place. source place.object place.page);
  held = λ o p here. elim (is.held o p (was o p here)) [ inl waits ↦ inl (unlocked o p waits) | inr spare ↦ inr spare ];
}
