-- What a file's pager answers, as events of a step.
use Rattle.pg_answers.specs.Answers.{TellsFault, error}
use Rattle.vm_system.proofs.Common.{Bool, EachOf, Event, FileAnswer, FileTable, List, Message, ObjectId, PageNo, Read, Write, [], false, inl, inr}
use Rattle.vm_system.proofs.Common.{refl, subst, sym, true, ℕ, ◌∷◌, ◌≡◌}
use Rattle.pg_file.specs.Answers.{RequestAnswer, device_failed, is_stored, sent_to, told_of}
use Rattle.pg_file.specs.Files.{has_lost}
use Rattle.vm_model.specs.declared.event.Device.TheVariants.{Files}
use Rattle.vm_model.specs.declared.message.Message.TheVariants as message
use Rattle.vm_system.proofs.Answering.{Faults, IsReply, no_fault, one_fault}
use Rattle.vm_system.proofs.Apart.{IsAbout}

-- an answer is of a pager's events, is about its object, and tells of at most one fault
pub record IsFiled (object : ObjectId) (events past : List Event) : Type 0 where
  pub replies : EachOf (IsReply Files) events
  pub about : EachOf (IsAbout object) events
  pub faults : Faults Files (TellsFault events) events past

filed_at : (object : ObjectId) (events is past : List Event) → events ≡ is → IsFiled object is past → IsFiled object events past
filed_at object events is past same filed = subst (λ (z : List Event). IsFiled object z past) (sym same) filed

filed_none : (object : ObjectId) (events past : List Event) → events ≡ [] → IsFiled object events past
filed_none object events past is = filed_at object events [] past is (record { replies = tt; about = tt; faults = no_fault Files ⊥ [] past refl (λ t. t) })

requested : (size host control : ℕ) (object : ObjectId) (page : PageNo) (lost : Bool) (events past : List Event)
    → RequestAnswer size host object.0 control page lost events → IsFiled object events past
requested size host control object page true events past is =
    filed_at object events _ past is (record {
      replies = (tt, tt);
      about = (refl, tt);
      faults = no_fault Files ⊥ (sent_to host object.0 control (error page) ∷ []) past refl (λ t. t);
    })
requested size host control object page false events past (inl is) =
    filed_at object events _ past is.2 (record { replies = (tt, tt); about = (refl, tt); faults = no_fault Files ⊥ _ past refl (λ t. t) })
requested size host control object page false events past (inr (inl is)) =
    filed_at object events _ past is (record {
      replies = (tt, tt);
      about = (refl, tt);
      faults = no_fault Files ⊥ (sent_to host object.0 control (message.Unavailable page) ∷ []) past refl (λ t. t);
    })
requested size host control object page false events past (inr (inr is)) =
    filed_at object events _ past is
    (record {
      replies = (tt, (refl, tt));
      about = (refl, (refl, tt));
      faults = one_fault Files (Unit {0}) (sent_to host object.0 control (error page) ∷ device_failed Read object.0 page ∷ []) past refl tt;
    })

returned : (stored : Bool) (object : ObjectId) (page : PageNo) (past : List Event) → IsFiled object (told_of stored object.0 page) past
returned true object page past = record { replies = tt; about = tt; faults = no_fault Files ⊥ [] past refl (λ t. t) }
returned false object page past =
    record { replies = (refl, tt); about = (refl, tt); faults = one_fault Files (Unit {0}) (device_failed Write object.0 page ∷ []) past refl tt }

greeted : (host control strategy : ℕ) (object : ObjectId) (events past : List Event)
    → events ≡ sent_to host object.0 control (message.Ready false strategy) ∷ [] → IsFiled object events past
greeted host control strategy object events past is =
    filed_at object events _ past is (record {
      replies = (tt, tt);
      about = (refl, tt);
      faults = no_fault Files ⊥ (sent_to host object.0 control (message.Ready false strategy) ∷ []) past refl (λ t. t);
    })

pub filed_of : (m : Message) (host : ℕ) (object : ObjectId) (old new : FileTable) (events past : List Event) → old.object ≡ object.0
    → FileAnswer m host old new events → IsFiled object events past
filed_of (message.Init control size) host object old new events past own a =
    greeted host control 2 object events past (subst (λ (z : ℕ). events ≡ sent_to host z control (message.Ready false 2) ∷ []) own a.1)
filed_of (message.Create control size) host object old new events past own a =
    greeted host control 3 object events past (subst (λ (z : ℕ). events ≡ sent_to host z control (message.Ready false 3) ∷ []) own a.1)
filed_of (message.Request control page access) host object old new events past own a =
    requested old.size host control object page (has_lost old page.0) events past
    (subst (λ (z : ℕ). RequestAnswer old.size host z control page (has_lost old page.0) events) own a.1)
filed_of (message.Return control page dirty keep bytes) host object old new events past own a =
    filed_at object events _ past (subst (λ (z : ℕ). events ≡ told_of (is_stored events) z page) own a.told) (returned (is_stored events) object page past)
filed_of (message.Terminate control) host object old new events past own a = filed_none object events past a.1
filed_of (message.Unlock control page access) host object old new events past own a = filed_none object events past a.1
filed_of (message.Completed control page count) host object old new events past own a = filed_none object events past a.1
filed_of (message.Changed control cache strategy) host object old new events past own a = filed_none object events past a.1
filed_of other host object old new events past own a = absurd a
