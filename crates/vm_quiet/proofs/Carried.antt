-- Where each step has paid, whoever is asked has a message on its way.
use Rattle.std.proofs.Common.{inl, inr, ℕ, ◌≡◌, List, [], ◌∷◌, Bool, true, refl, sym, ap, ◌∙◌}
use Rattle.std.proofs.lemmas.List.Folds.{Any-from_list_any}
use Rattle.std.specs.List.{list_any}
use Rattle.std.specs.Prelude.{◌||◌, ◌⊎◌, Any}
use Rattle.vm_model.specs.declared.event.Event.{Event}
use Rattle.vm_model.specs.declared.message.Message.{Message}
use Rattle.vm_model.specs.declared.script.Header.{Header}
use Rattle.vm_model.specs.Channels.{queue, up_port, down_port}
use Rattle.vm_model.specs.Moments.{BeforeSteps, EachEvent}
use Rattle.vm_legal.specs.Debts.{IsPaid}
use Rattle.vm_legal.specs.Licences.{HasCause}
use Rattle.vm_legal.specs.Outside.{Outside}
use Rattle.vm_legal.specs.Steps.{answers, is_answer, is_ready_message as says_ready, readies}
use Rattle.vm_quiet.specs.Carried.{IsCarried, IsUndelivered, is_request, opens}
use Rattle.vm_quiet.proofs.Letters.{never}
use Rattle.vm_quiet.proofs.Ways.{IsDone, OnTheWay, some_such}
use Rattle.vm_quiet.proofs.Awaited.{asks_of, done_opening, done_request, opens_of}

some_is : (such : Message → Bool) (q : List Message) → some_such such q ≡ list_any such q
some_is such [] = refl
some_is such (m ∷ q) = ap (λ b. such m || b) (some_is such q)

any_of : (such : Message → Bool) (q : List Message) → some_such such q ≡ true → Any (λ m. such m ≡ true) q
any_of such q is = Any-from_list_any such q (sym (some_is such q) ∙ is)

-- no step owes an answer any more
carried_on : (up down : Message → Bool) (done : Event → Bool) (h o k : ℕ) (past : List Event) → IsDone up done h o past → OnTheWay up down done h o k past
    → IsUndelivered up (up_port h o) past ⊎ IsUndelivered down (down_port h o k) past
carried_on up down done h o k past paid (inl q) = inl (any_of up (queue (up_port h o) past) q)
carried_on up down done h o k past paid (inr (inl q)) = inr (any_of down (queue (down_port h o k) past) q)
carried_on up down done h o k past paid (inr (inr t)) = never (sym t.3 ∙ paid t.0 t.1 t.2)

pub carried : (header : Header) (outside : Outside) (history : List Event) → EachEvent (HasCause header outside) history → IsPaid header history
    → BeforeSteps (IsPaid header) history → IsCarried header history
carried header outside history causes paid steps = record {
  asked = λ host o p ours is.
      let a = asks_of header outside host history causes steps o p ours is in
      (a.0, a.1, carried_on (is_request a.0 p) (is_answer p) (answers o p) host o a.0 history (done_request header history paid host o a.0 p ours) a.2);
  opening = λ host o control ours live is.
      carried_on (opens control) says_ready (readies o) host o control history (done_opening header history paid host o control ours)
      (opens_of header outside host history causes steps o control ours live is);
}
