-- The events that send replies.
use Rattle.std.proofs.Common.{ℕ, ◌≡◌, ◌+◌, List, [], ◌∷◌, ◌++◌, length, refl, sym, ◌∙◌, ap, append_assoc, arith}
use Rattle.sms_pages.specs.declared.reply.Reply.{Reply}
use Rattle.vm_base.specs.declared.ids.ObjectId.{ObjectId}
use Rattle.vm_base.specs.declared.ids.PageNo.{PageNo}
use Rattle.vm_model.specs.declared.event.Event.{Event}
use Rattle.sms_server.specs.Answers.{reply_event, reply_events}

pub events_of_both : (object : ObjectId) (page : PageNo) (heard : ℕ → ℕ) (one two : List Reply)
    → reply_events object page heard (one ++ two) ≡ reply_events object page heard one ++ reply_events object page heard two
events_of_both object page heard [] two = refl
events_of_both object page heard (x ∷ xs) two = ap (λ (es : List Event). reply_event object page heard x ∷ es) (events_of_both object page heard xs two)

-- sending the oldest reply
pub one_sent : (object : ObjectId) (page : PageNo) (heard : ℕ → ℕ) (old new : List Reply) (reply : Reply) (events : List Event) → old ≡ new ++ reply ∷ []
    → reply_events object page heard new ++ (reply_event object page heard reply ∷ events) ≡ reply_events object page heard old ++ events
one_sent object page heard old new reply events is =
    sym (ap (λ (rs : List Reply). reply_events object page heard rs ++ events) is
    ∙ ap (λ (es : List Event). es ++ events) (events_of_both object page heard new (reply ∷ []))
    ∙ append_assoc (reply_events object page heard new) (reply_event object page heard reply ∷ []) events)

-- as many as the replies
pub count_events : (object : ObjectId) (page : PageNo) (heard : ℕ → ℕ) (replies : List Reply) → length (reply_events object page heard replies) ≡ length replies
count_events object page heard [] = refl
count_events object page heard (x ∷ xs) = let rest = count_events object page heard xs in grind arith

pub one_fewer : (old new : List Reply) (reply : Reply) → old ≡ new ++ reply ∷ [] → length old ≡ length new + 1
one_fewer old [] reply is = ap length is
one_fewer old (x ∷ xs) reply is = let rest = one_fewer (xs ++ reply ∷ []) xs reply refl in rw is (omega arith)
