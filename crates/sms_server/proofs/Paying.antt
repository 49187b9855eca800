-- What a step owes in which the server took a message is paid.
use Rattle.std.proofs.Common.{◌≡◌, nat_lt, ℕ, List, [], ◌∷◌, ◌++◌, refl, ap, subst, sym, ◌∙◌, Bool, true, false, Option, Some, None, arith, append_assoc}
use Rattle.std.proofs.lemmas.Bool.{false≢true}
use Rattle.std.proofs.lemmas.Bool.Decides.{nat_tests}
use Rattle.std.proofs.lemmas.Option.{none-some}
use Rattle.sms_pages.specs.declared.reply.Reply.{Reply}
use Rattle.vm_base.specs.declared.ids.ObjectId.{ObjectId}
use Rattle.vm_base.specs.declared.ids.ObjectKind.{ObjectKind}
use Rattle.vm_base.specs.declared.ids.ObjectKind.TheVariants.{Temp, File, Shared, Wild}
use Rattle.vm_legal.proofs.Answering.{itself}
use Rattle.vm_legal.proofs.Locks.{came_down, no_attributes, no_destroy, no_change, no_lock, no_request}
use Rattle.vm_legal.specs.Debts.{IsPaid}
use Rattle.vm_legal.specs.Licences.{is_paged, owed, up}
use Rattle.vm_legal.specs.Outside.{is_file_kept, is_file_kind, is_shared, is_shared_kind, kind_in}
use Rattle.vm_legal.specs.Steps.{Letter, absence_taken, error_taken, readies, since, taken_letter}
use Rattle.vm_model.specs.Named.{declared, named}
use Rattle.vm_model.specs.Words.{up_word}
use Rattle.vm_model.specs.declared.event.Event.{Event}
use Rattle.vm_model.specs.declared.event.Event.TheVariants as event
use Rattle.vm_model.specs.declared.message.Channel.{Channel}
use Rattle.vm_model.specs.declared.message.Channel.TheVariants.{Up, Down}
use Rattle.vm_model.specs.declared.message.Message.{Message}
use Rattle.vm_model.specs.declared.message.Message.TheVariants as message
use Rattle.vm_model.specs.declared.script.Declared.{Declared}
use Rattle.vm_model.specs.declared.script.Header.{Header}
use Rattle.sms_server.proofs.Serving.{owed_replies}
use Rattle.sms_server.proofs.Whole.{turns}
use Rattle.sms_server.specs.Answers.{AnswersInTurn, heard_by, page_events, page_no, replies_to, reply_events, sent_to, stretches}
use Rattle.sms_server.specs.Stands.{IsCreate, ServerServes, taking}
use Rattle.sms_server.specs.Table.{ServerTable, directory_at, heard_at}

-- each event is a sending
abbrev AreSendings : List Event → Type 0
AreSendings [] = Unit {0}
AreSendings (event.Sent channel m ∷ es) = AreSendings es
AreSendings other = ⊥

-- what the step took is not changed by what is sent
record SameStep (header : Header) (past now : List Event) : Type 0 where
  letter : taken_letter now ≡ taken_letter past
  no_error : error_taken header now ≡ error_taken header past
  no_absence : absence_taken header now ≡ absence_taken header past

same_step : (header : Header) (es past : List Event) → AreSendings es → SameStep header past (es ++ past)
same_step header [] past are = record { letter = refl; no_error = refl; no_absence = refl }
same_step header (event.Sent channel m ∷ es) past are =
    let rest = same_step header es past are in record { letter = rest.letter; no_error = rest.no_error; no_absence = rest.no_absence }
same_step header (e ∷ es) past are = absurd are

both_sendings : (later front : List Event) → AreSendings later → AreSendings front → AreSendings (later ++ front)
both_sendings [] front one two = two
both_sendings (event.Sent channel m ∷ es) front one two = both_sendings es front one two
both_sendings (e ∷ es) front one two = absurd one

replies_sendings : (object : ObjectId) (p : ℕ) (heard : ℕ → ℕ) (rs : List Reply) → AreSendings (reply_events object (page_no p) heard rs)
replies_sendings object p heard [] = tt
replies_sendings object p heard (r ∷ rs) = replies_sendings object p heard rs

stretches_sendings : (old : ServerTable) (h : ℕ) (object : ObjectId) (m : Message) (ps : List ℕ) → AreSendings (stretches old h object m ps)
stretches_sendings old h object m [] = tt
stretches_sendings old h object m (p ∷ ps) =
    both_sendings (stretches old h object m ps) (page_events old h object m p) (stretches_sendings old h object m ps)
    (replies_sendings object p (heard_by h (up_word p m) (heard_at old object.0 p)) (replies_to h (up_word p m) (directory_at old object.0 p)))

-- nothing is owed behind them
owed_stretches : (old : ServerTable) (h : ℕ) (object : ObjectId) (m : Message) (ps : List ℕ) (past : List Event) → owed past ≡ None
    → owed (stretches old h object m ps ++ past) ≡ None
owed_stretches old h object m [] past none = none
owed_stretches old h object m (p ∷ ps) past none =
    subst (λ (l : List Event). owed l ≡ None) (sym (append_assoc (stretches old h object m ps) (page_events old h object m p) past))
    (owed_stretches old h object m ps (page_events old h object m p ++ past) (owed_replies object p (heard_by h (up_word p m) (heard_at old object.0 p))
    (replies_to h (up_word p m) (directory_at old object.0 p)) past none))

-- a shared object is declared, and its pager may answer later
kind_shared : (d : Option Declared) → is_shared_kind (kind_in d) ≡ true → is_file_kept d ≡ false
kind_shared None is = absurd (false≢true is)
kind_shared (Some object) is = by object.kind is
  where
    by : (k : ObjectKind) → is_shared_kind k ≡ true → is_file_kind k ≡ false
    by Temp is = refl
    by File is = absurd (false≢true is)
    by Shared is = refl
    by Wild is = refl

record IsDeclared (header : Header) (o : ℕ) : Type 0 where
  low : nat_lt o (named header) ≡ true
  unpaged : is_paged header o ≡ false

declared_of : (header : Header) (o : ℕ) → is_shared header o ≡ true → IsDeclared header o
declared_of header o shared = by (nat_lt o (named header)) refl
  where
    by : (b : Bool) → nat_lt o (named header) ≡ b → IsDeclared header o
    by true low =
        let shared_kind : is_shared_kind (kind_in (declared header o)) ≡ true = rw low
        at shared in record { low = low; unpaged = rw (low, kind_shared (declared header o) shared_kind) refl }
    by false high = let none : is_shared_kind Temp ≡ true = rw high at shared in absurd (false≢true none)

abbrev object_in : Channel → ℕ
object_in (Up host object) = object.0
object_in (Down host object control) = object.0

abbrev object_of : Option Letter → ℕ
object_of None = 0
object_of (Some letter) = object_in letter.channel

abbrev message_of : Option Letter → Message
message_of None = message.Destroy 0
message_of (Some letter) = letter.message

-- what the step took, and what the server did of that
record Did (header : Header) (h : ℕ) (object : ObjectId) (m : Message) (now : List Event) : Type 0 where
  none_owed : owed now ≡ None
  took : taken_letter now ≡ Some (record { channel = up h object.0; message = m })
  no_error : error_taken header now ≡ None
  no_absence : absence_taken header now ≡ None
  ready : (control size : ℕ) → m ≡ message.Init control size → since (readies object.0) now ≡ true

paid_of : (header : Header) (h : ℕ) (object : ObjectId) (m : Message) (now : List Event) → is_shared header object.0 ≡ true → (IsCreate m → ⊥)
    → Did header h object m now → IsPaid header now
paid_of header h object m now shared other did = record {
  none_owed = did.none_owed;
  init =
      λ at o control size wild is. subst (λ (k : ℕ). since (readies k) now ≡ true) (ap object_of (sym did.took ∙ is))
      (did.ready control size (ap message_of (sym did.took ∙ is)));
  create = λ at o control size wild is. absurd (other (subst IsCreate (sym (ap message_of (sym did.took ∙ is))) tt));
  request =
      λ at o control page access paged is. let d = declared_of header object.0 shared in absurd
      (false≢true (sym d.unpaged ∙ (ap (is_paged header) (ap object_of (sym did.took ∙ is)) ∙ paged)));
  error = λ at o page is. absurd (none-some _ (sym did.no_error ∙ is));
  absence = λ at o page low is. absurd (none-some _ (sym did.no_absence ∙ is));
  lock = λ request is. no_request request now (no_lock now (ap came_down did.took)) is;
  change = λ request is wanted. no_change request now (no_attributes now (ap came_down did.took)) is;
  destroy = λ at o wild is. absurd (none-some _ (sym (no_destroy now (ap came_down did.took)) ∙ is));
  slot = λ at o control page dirty keep bytes high is lacks.
      let d = declared_of header object.0 shared in
      let same : object.0 ≡ o = ap object_of (sym did.took ∙ is) in
      let low = d.low in
      absurd (grind (arith, nat_tests));
}

turned : (header : Header) (h : ℕ) (past : List Event) (object : ObjectId) (m : Message) (old new : ServerTable) (events : List Event)
    → ServerServes header h past object m old new events → (IsCreate m → ⊥)
    → ((control size : ℕ) → m ≡ message.Init control size → ⊥) → AnswersInTurn old h object m events → IsPaid header (events ++ taking h object m past)
turned header h past object m old new events s other apart t =
    let first = taking h object m past in
    let same = same_step header (stretches old h object m t.pages) first (stretches_sendings old h object m t.pages) in
    subst (λ (es : List Event). IsPaid header (es ++ first)) (sym t.are)
    (paid_of header h object m (stretches old h object m t.pages ++ first) s.shared other (record {
      none_owed = owed_stretches old h object m t.pages first refl;
      took = same.letter;
      no_error = same.no_error;
      no_absence = same.no_absence;
      ready = λ control size is. absurd (apart control size is);
    }))

greeted : (header : Header) (h : ℕ) (past : List Event) (object : ObjectId) (control size : ℕ) (old new : ServerTable) (events : List Event)
    → ServerServes header h past object (message.Init control size) old new events
    → events ≡ sent_to (record { 0 = h }) object control (message.Ready false 0) ∷ []
    → IsPaid header (events ++ taking h object (message.Init control size) past)
greeted header h past object control size old new events s is =
    subst (λ (es : List Event). IsPaid header (es ++ taking h object (message.Init control size) past)) (sym is)
    (paid_of header h object (message.Init control size) (sent_to (record { 0 = h }) object control (message.Ready false 0) ∷ taking h object
    (message.Init control size) past) s.shared (λ bad. bad) (record {
      none_owed = refl;
      took = refl;
      no_error = refl;
      no_absence = refl;
      ready = λ control size is. rw (itself object.0) refl;
    }))

abbrev init_test : Message → Bool
init_test (message.Init control size) = true
init_test m = false

pub paid : (header : Header) (h : ℕ) (past : List Event) (object : ObjectId) (m : Message) (old new : ServerTable) (events : List Event)
    → ServerServes header h past object m old new events → (IsCreate m → ⊥)
    → IsPaid header (events ++ taking h object m past)
paid header h past object (message.Init control size) old new events s other = greeted header h past object control size old new events s s.answered.told
paid header h past object m old new events s other =
    turned header h past object m old new events s other (λ control size is. false≢true (ap init_test is))
    (turns old h object m events s.to_server refl s.answered.told)
