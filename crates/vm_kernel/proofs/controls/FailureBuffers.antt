-- An answer that fails accesses leaves the buffers that an end may want.
use Rattle.vm_kernel.proofs.Common.{AnswerEffects, AnswerOutcome, Bool, Discarded, Event, Failed, HostId, HostParts, Lacked, List, None, ObjectId, Option, ℕ}
use Rattle.vm_kernel.proofs.Common.{true, false, refl, Some, PageKey, Parts, Readied, Supplied, Woken, Zeroed, ap, arith, length, sym, ◌∙◌, ◌≡◌}
use Rattle.vm_base.specs.declared.ids.ObjectKind.{ObjectKind}
use Rattle.vm_base.specs.declared.ids.ObjectKind.TheVariants as kinds
use Rattle.vm_base.specs.declared.ids.PageNo.{PageNo}
use Rattle.vm_kernel.specs.declared.breadth.Breadth.TheVariants as wide
use Rattle.vm_kernel.specs.Rooms.{Dies, HasBuffers, returning, word_breadth, may_end}
use Rattle.vm_model.specs.declared.message.Message.{Message}
use Rattle.vm_model.specs.declared.message.Message.TheVariants as message
use Rattle.vm_objects.specs.declared.row.ObjectRow.{ObjectRow}
use Rattle.vm_objects.specs.declared.row.PagerState.{PagerState}
use Rattle.vm_objects.specs.declared.row.PagerState.TheVariants as states
use Rattle.vm_resident.specs.declared.page_row.PageRow.{PageRow}
use Rattle.vm_supply.specs.Answers.{IsAnswer, live_outcome, outcome_of, ready_outcome, unavailable_outcome}
use Rattle.vm_parts.specs.Listed.{listed_pages}
use Rattle.vm_supply.specs.declared.woken.Woken.TheVariants as who
use Rattle.std.specs.Prelude.{◌==◌, ◌&&◌, if◌then◌else◌}

-- the lists stay where accesses are failed
failing_lists : (host : HostId) (object : ObjectId) (outcome : AnswerOutcome) (woken : Woken) (key : PageKey) (old new : HostParts) (before after : List Event)
    → AnswerEffects host object outcome woken old new before after → woken ≡ who.Fails key → new.queues ≡ old.queues
failing_lists host object Discarded woken key old new before after does is = ap (λ (z : HostParts). z.queues) does.1
failing_lists host object Readied woken key old new before after does is = ap (λ (z : HostParts). z.queues) does.rest
failing_lists host object (Supplied page lock precious bytes) woken key old new before after does is = let bad = sym does.woken ∙ is in absurd (cc)
failing_lists host object (Zeroed page) woken key old new before after does is = let bad = sym does.woken ∙ is in absurd (cc)
failing_lists host object (Lacked page) woken key old new before after does is = does.page.queues
failing_lists host object (Failed page) woken key old new before after does is = does.page.queues

pub failing_kept : (host : HostId) (object : ObjectId) (outcome : AnswerOutcome) (woken : Woken) (key : PageKey) (k : Parts) (memory : HostParts)
    (before after : List Event) → AnswerEffects host object outcome woken k.memory memory before after → woken ≡ who.Fails key
    → memory.buffers ≡ k.memory.buffers → HasBuffers k
    → HasBuffers (record k { memory = memory })
failing_kept host object outcome woken key k memory before after does is same has =
    let lists = failing_lists host object outcome woken key k.memory memory before after does is in
    let returns : returning (record k { memory = memory }) ≡ returning k = ap (λ z. if length k.declared.items == 0 then 0 else listed_pages z) lists in
    let count = ap (λ z. z.count) same in
    omega (arith, returns, count, has)

-- an answer that fails accesses is an error

abbrev Fails : AnswerOutcome → Type 0
Fails (Failed page) = Unit {0}
Fails other = ⊥

fails_page : (host : HostId) (object : ObjectId) (outcome : AnswerOutcome) (woken : Woken) (key : PageKey) (old new : HostParts) (before after : List Event)
    → AnswerEffects host object outcome woken old new before after → woken ≡ who.Fails key → Fails outcome
fails_page host object Discarded woken key old new before after does is = let bad = sym does.0 ∙ is in absurd (cc)
fails_page host object Readied woken key old new before after does is = let bad = sym does.woken ∙ is in absurd (cc)
fails_page host object (Supplied page lock precious bytes) woken key old new before after does is = let bad = sym does.woken ∙ is in absurd (cc)
fails_page host object (Zeroed page) woken key old new before after does is = let bad = sym does.woken ∙ is in absurd (cc)
fails_page host object (Lacked page) woken key old new before after does is = let bad = sym does.woken ∙ is in absurd (cc)
fails_page host object (Failed page) woken key old new before after does is = tt

failing_objects : (host : HostId) (object : ObjectId) (outcome : AnswerOutcome) (woken : Woken) (old new : HostParts) (before after : List Event)
    → AnswerEffects host object outcome woken old new before after → Fails outcome → new.objects ≡ old.objects
failing_objects host object (Failed page) woken old new before after does fails = does.objects
failing_objects host object other woken old new before after does fails = absurd fails

asked_fails : (b : Bool) (outcome : AnswerOutcome) → Fails (if b then outcome else Discarded) → Fails outcome
asked_fails true outcome fails = fails
asked_fails false outcome fails = absurd fails

not_ready : (state : PagerState) → Fails (ready_outcome state) → ⊥
not_ready states.Without fails = fails
not_ready states.Sent fails = fails
not_ready states.Ready fails = fails

not_absent : (kind : ObjectKind) (page : PageNo) → Fails (unavailable_outcome kind page) → ⊥
not_absent kinds.Temp page fails = fails
not_absent kinds.File page fails = fails
not_absent kinds.Shared page fails = fails
not_absent kinds.Wild page fails = fails

error_fails : (size : ℕ) (known : ObjectRow) (rows : ℕ → Option PageRow) (m : Message) → IsAnswer size m → Fails (live_outcome known rows m)
    → (word_breadth m ≡ wide.Pages) × (may_end m ≡ false)
error_fails size known rows (message.Ready cache strategy) answer fails = absurd (not_ready known.state fails)
error_fails size known rows (message.Supply page lock precious bytes) answer fails = absurd (asked_fails _ (Supplied page lock precious bytes) fails)
error_fails size known rows (message.Unavailable page) answer fails =
    absurd (not_absent known.kind page (asked_fails _ (unavailable_outcome known.kind page) fails))
error_fails size known rows (message.Error page reason) answer fails = (refl, refl)
error_fails size known rows m answer fails = absurd answer

word_fails : (size : ℕ) (known : Option ObjectRow) (control : ℕ) (rows : ℕ → Option PageRow) (m : Message) → IsAnswer size m
    → Fails (outcome_of known control rows m) → (word_breadth m ≡ wide.Pages) × (may_end m ≡ false)
word_fails size None control rows m answer fails = absurd fails
word_fails size (Some known) control rows m answer fails =
    error_fails size known rows m answer (asked_fails (known.live && known.control == control) (live_outcome known rows m) fails)

pub failing_dies : (size : ℕ) (host : HostId) (object : ObjectId) (known : Option ObjectRow) (control : ℕ) (rows : ℕ → Option PageRow) (m : Message)
    (woken : Woken) (key : PageKey) (k : Parts) (memory : HostParts) (before after : List Event) → IsAnswer size m
    → AnswerEffects host object (outcome_of known control rows m) woken k.memory memory before after → woken ≡ who.Fails key
    → Dies m k (record k { memory = memory })
failing_dies size host object known control rows m woken key k memory before after answer does is =
    let fails = fails_page host object (outcome_of known control rows m) woken key k.memory memory before after does is in
    record {
      breadth = (word_fails size known control rows m answer fails).0;
      stays = (word_fails size known control rows m answer fails).1;
      queues = failing_lists host object (outcome_of known control rows m) woken key k.memory memory before after does is;
      objects = failing_objects host object (outcome_of known control rows m) woken k.memory memory before after does fails;
    }
