-- A page that an answer supplies comes onto the lists.
use Rattle.vm_kernel.proofs.Common.{AnswerBrings, AnswerEffects, AnswerOutcome, Cancels, Discarded, Event, Failed, Header, HostId, HostParts, Lacked, List}
use Rattle.vm_kernel.proofs.Common.{Message, None, ObjectId, Option, PageKey, PageRow, Paging, Parts, Plays, PlaysAnswer, Readied, Some, Still, Supplied, Then}
use Rattle.vm_kernel.proofs.Common.{Woken, Zeroed, [], ap, arith, asked_is, asked_row, frame_here, if◌then◌else◌, length, object_at, outcome_of, paging, refl}
use Rattle.vm_kernel.proofs.Common.{row_at, subst, sym, ℕ, ◌∙◌, ◌∷◌, ◌≡◌}
use Rattle.vm_model.specs.declared.event.Event.TheVariants as event
use Rattle.vm_kernel.proofs.controls.WordTaken.{heard}
use Rattle.vm_kernel.proofs.lists.ListsAsTold.{frames_kept, frames_put, same_paging}

asked_away : (x : Option PageRow) (was : PageRow) → asked_row x ≡ Some was → frame_here x ≡ None
asked_away x was asked =
    let is = asked_is x was asked in
    ap frame_here is.0 ∙ ap (λ b. if b then Some was.frame else None) is.1

not_longer : (e : Event) (events : List Event) → events ≡ e ∷ events → ⊥
not_longer e events same = let longer = ap length same in omega arith

-- a page that is asked no more is nowhere, as before
ended_same : (key : PageKey) (k : Parts) (row : PageRow) (new : HostParts) → asked_row (row_at k.memory.resident key.object.0 key.page.0) ≡ Some row
    → Cancels key row k.memory new → paging (heard k new) ≡ paging k
ended_same key k row new asked ends =
    same_paging _ _ _ _ (frames_kept k.memory.resident new.resident key.object.0 key.page.0 None ends.row (sym (asked_away _ row asked))) ends.queues

still : (header : Header) (past : List Event) (object : ObjectId) (outcome : AnswerOutcome) (k : Parts) (after : List Event) (new : HostParts) → after ≡ []
    → AnswerBrings object outcome (paging k) (paging (heard k new))
    → PlaysAnswer header past object outcome (paging k) after (paging (heard k new))
still header past object outcome k after new none brings =
    record {
      heard = paging (heard k new);
      brings = brings;
      plays = subst (λ (z : List Event). Plays header past [] (paging (heard k new)) z (paging (heard k new))) (sym none) Still;
    }

answer_brings : (host : HostId) (object : ObjectId) (outcome : AnswerOutcome) (who : Woken) (k : Parts) (events after : List Event) (new : HostParts)
    → AnswerEffects host object outcome who k.memory new events after → after ≡ events → AnswerBrings object outcome (paging k) (paging (heard k new))
answer_brings host object Discarded who k events after new is none = ap (λ z. paging (heard k z)) is.1
answer_brings host object Readied who k events after new is none = ap (λ z. paging (heard k z)) is.rest
answer_brings host object (Supplied page lock precious bytes) who k events after new is none =
    record {
      frame = is.was.frame;
      absent = asked_away (row_at k.memory.resident object.0 page.0) is.was is.asked;
      unlisted = is.page.listed ∙ (asked_is (row_at k.memory.resident object.0 page.0) is.was is.asked).1;
      is = same_paging _ _ _ _ (frames_put k.memory.resident new.resident object.0 page.0 _ (Some is.was.frame) is.page.row refl) is.page.queues;
    }
answer_brings host object (Zeroed page) who k events after new is none = absurd (not_longer _ events (sym none ∙ is.events))
answer_brings host object (Lacked page) who k events after new is none = ended_same _ k is.was new is.asked is.page
answer_brings host object (Failed page) who k events after new is none = ended_same _ k is.was new is.asked is.page

-- so an answer was heard, with the event of zeros that may have come
pub answer_plays : (header : Header) (past : List Event) (host : HostId) (object : ObjectId) (outcome : AnswerOutcome) (who : Woken) (k : Parts)
    (before after : List Event) (new : HostParts)
    → AnswerEffects host object outcome who k.memory new before after → before ≡ []
    → PlaysAnswer header past object outcome (paging k) after (paging (heard k new))
answer_plays header past host object Discarded who k before after new is none =
    still header past object Discarded k after new (is.2 ∙ none) (answer_brings host object Discarded who k before after new is is.2)
answer_plays header past host object Readied who k before after new is none =
    still header past object Readied k after new (is.events ∙ none) (answer_brings host object Readied who k before after new is is.events)
answer_plays header past host object (Supplied page lock precious bytes) who k before after new is none =
    still header past object (Supplied page lock precious bytes) k after new (is.events ∙ none)
    (answer_brings host object (Supplied page lock precious bytes) who k before after new is is.events)
answer_plays header past host object (Zeroed page) who k before after new is none =
    record {
      heard = paging k;
      brings = refl;
      plays =
          subst (λ (z : List Event). Plays header past [] (paging k) z (paging (heard k new)))
          (sym (is.events ∙ ap (λ z. event.Zeroed host object page ∷ z) none))
          (Then (event.Zeroed host object page) [] (paging k) (paging (heard k new)) Still
          (record {
            frame = is.was.frame;
            absent = asked_away (row_at k.memory.resident object.0 page.0) is.was is.asked;
            unlisted = is.page.listed ∙ (asked_is (row_at k.memory.resident object.0 page.0) is.was is.asked).1;
            is = same_paging _ _ _ _ (frames_put k.memory.resident new.resident object.0 page.0 _ (Some is.was.frame) is.page.row refl) is.page.queues;
          }));
    }
answer_plays header past host object (Lacked page) who k before after new is none =
    still header past object (Lacked page) k after new (is.events ∙ none) (answer_brings host object (Lacked page) who k before after new is is.events)
answer_plays header past host object (Failed page) who k before after new is none =
    still header past object (Failed page) k after new (is.events ∙ none) (answer_brings host object (Failed page) who k before after new is is.events)

-- from the start of a call
pub taken_plays : {header : Header} {past : List Event} (object : ObjectId) (control : ℕ) (m : Message) {k now : Parts} {events : List Event} {new : Paging}
    → k ≡ now
    → PlaysAnswer header past object (outcome_of (object_at k.memory.objects object.0) control (row_at k.memory.resident object.0) m) (paging k) events new
    → PlaysAnswer header past object (outcome_of (object_at now.memory.objects object.0) control (row_at now.memory.resident object.0) m) (paging now) events
    new
taken_plays {header} {past} object control m {k} {now} {events} {new} same taken =
    subst (λ (z : Parts). PlaysAnswer header past object (outcome_of (object_at z.memory.objects object.0) control (row_at z.memory.resident object.0) m)
    (paging z) events new) same taken
