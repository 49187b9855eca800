-- What a step owes that took a message from a kernel is paid, once its pager did what the message asks.
use Rattle.std.proofs.Common.{ℕ, ◌≡◌, ◌≤◌, ◌==◌, ◌&&◌, ◌||◌, Bool, true, false, List, ◌∷◌, Option, Some, None, refl, sym, ◌∙◌, ap, subst, arith}
use Rattle.std.specs.Prelude.{if◌then◌else◌}
use Rattle.std.proofs.lemmas.Bool.Decides.{nat_tests}
use Rattle.std.proofs.lemmas.Option.{none-some}
use Rattle.vm_model.specs.Named.{named}
use Rattle.vm_base.specs.declared.ids.HostId.{HostId}
use Rattle.vm_base.specs.declared.ids.ObjectId.{ObjectId}
use Rattle.vm_base.specs.declared.ids.PageNo.{PageNo}
use Rattle.vm_model.specs.declared.event.Event.{Event}
use Rattle.vm_model.specs.declared.event.Event.TheVariants as event
use Rattle.vm_model.specs.declared.message.Channel.{Channel}
use Rattle.vm_model.specs.declared.message.Channel.TheVariants.{Up, Down}
use Rattle.vm_model.specs.declared.message.Message.{Message}
use Rattle.vm_model.specs.declared.message.Message.TheVariants as message
use Rattle.vm_model.specs.declared.script.Header.{Header}
use Rattle.vm_legal.proofs.Locks.{came_down, no_attributes, no_destroy, no_change, no_lock, no_request}
use Rattle.vm_legal.specs.Debts.{IsPaid}
use Rattle.vm_legal.specs.Licences.{owed, up}
use Rattle.vm_legal.specs.Pagers.{LacksSlot}
use Rattle.vm_legal.specs.Steps.{Letter, absence_taken, answers, before_step, error_taken, lacks_slot, readies, since, taken_letter}

pub itself : (n : ℕ) → (n == n) ≡ true
itself n = grind (arith, nat_tests)

pub own_test : (o p q : ℕ) (rest : Bool) → (p == q) ≡ true → ((o == o && p == q) || rest) ≡ true
own_test o p q rest is = rw (itself o, is) refl

-- a page that a failed write lost is lost, and all others are as they were
pub lost_now : (b was : Bool) → (b || (if b then false else was)) ≡ (if b then true else was)
lost_now true was = refl
lost_now false was = refl

abbrev pub opens : Message → Bool
opens (message.Init control size) = true
opens (message.Create control size) = true
opens m = false

abbrev pub asks : ℕ → Message → Bool
asks p (message.Request control page access) = page.0 == p
asks p m = false

abbrev pub returns : ℕ → Message → Bool
returns p (message.Return control page dirty keep bytes) = page.0 == p
returns p m = false

abbrev object_in : Channel → ℕ
object_in (Up host object) = object.0
object_in (Down host object control) = object.0

abbrev host_in : Channel → ℕ
host_in (Up host object) = host.0
host_in (Down host object control) = host.0

abbrev object_of : Option Letter → ℕ
object_of None = 0
object_of (Some letter) = object_in letter.channel

abbrev host_of : Option Letter → ℕ
host_of None = 0
host_of (Some letter) = host_in letter.channel

abbrev test_of : (Message → Bool) → Option Letter → Bool
test_of test None = false
test_of test (Some letter) = test letter.message

-- what the step took, and what it did of that
pub record Did (header : Header) (host o : ℕ) (m : Message) (now : List Event) : Type 0 where
  pub none_owed : owed now ≡ None
  pub took : taken_letter now ≡ Some (record { channel = up host o; message = m })
  pub no_error : error_taken header now ≡ None
  pub no_absence : absence_taken header now ≡ None
  pub ready : opens m ≡ true → since (readies o) now ≡ true
  pub answered : (p : ℕ) → asks p m ≡ true → since (answers o p) now ≡ true
  pub lacking : (p : ℕ) → named header ≤ o → returns p m ≡ true → LacksSlot header host o p (before_step now) → since (lacks_slot o p) now ≡ true

pub paid_of : (header : Header) (host o : ℕ) (m : Message) (now : List Event) → Did header host o m now → IsPaid header now
paid_of header host o m now did = record {
  none_owed = did.none_owed;
  init =
      λ at object control size paged is. subst (λ (k : ℕ). since (readies k) now ≡ true) (ap object_of (sym did.took ∙ is))
      (did.ready (ap (test_of opens) (sym did.took ∙ is)));
  create =
      λ at object control size paged is. subst (λ (k : ℕ). since (readies k) now ≡ true) (ap object_of (sym did.took ∙ is))
      (did.ready (ap (test_of opens) (sym did.took ∙ is)));
  request =
      λ at object control page access paged is. subst (λ (k : ℕ). since (answers k page) now ≡ true) (ap object_of (sym did.took ∙ is))
      (did.answered page (ap (test_of (asks page)) (sym did.took ∙ is) ∙ itself page));
  error = λ at object page is. absurd (none-some _ (sym did.no_error ∙ is));
  absence = λ at object page declared is. absurd (none-some _ (sym did.no_absence ∙ is));
  lock = λ request is. no_request request now (no_lock now (ap came_down did.took)) is;
  change = λ request is wanted. no_change request now (no_attributes now (ap came_down did.took)) is;
  destroy = λ at object wild is. absurd (none-some _ (sym (no_destroy now (ap came_down did.took)) ∙ is));
  slot = λ at object control page dirty keep bytes temporary is lacks.
      let same = sym did.took ∙ is in
      subst (λ (k : ℕ). since (lacks_slot k page) now ≡ true) (ap object_of same)
      (did.lacking page (subst (λ (k : ℕ). named header ≤ k) (sym (ap object_of same)) temporary) (ap (test_of (returns page)) same ∙ itself page)
      (subst (λ (k : ℕ). LacksSlot header host k page (before_step now)) (sym (ap object_of same))
      (subst (λ (h : ℕ). LacksSlot header h object page (before_step now)) (sym (ap host_of same)) lacks)));
}

never : {X : Type 0} → false ≡ true → X
never is = absurd (let bad : false ≡ true = is in cc)

-- nothing is owed for a message that asks for nothing
pub nothing_owed : (header : Header) (host o : ℕ) (m : Message) (past : List Event) → opens m ≡ false → ((p : ℕ) → asks p m ≡ false)
    → ((p : ℕ) → returns p m ≡ false) → IsPaid header (event.Taken (up host o) m ∷ past)
nothing_owed header host o m past unopened unasked unreturned =
    paid_of header host o m (event.Taken (up host o) m ∷ past) (record {
      none_owed = refl;
      took = refl;
      no_error = refl;
      no_absence = refl;
      ready = λ is. never (sym unopened ∙ is);
      answered = λ p is. never (sym (unasked p) ∙ is);
      lacking = λ p high is lacks. never (sym (unreturned p) ∙ is);
    })

-- a control that was opened has been told that it is ready
pub ready_paid : (header : Header) (host o : ℕ) (at : HostId) (object : ObjectId) (control strategy : ℕ) (m : Message) (past : List Event) → object.0 ≡ o
    → ((p : ℕ) → asks p m ≡ false) → ((p : ℕ) → returns p m ≡ false)
    → IsPaid header (event.Sent (Down at object control) (message.Ready false strategy) ∷ event.Taken (up host o) m ∷ past)
ready_paid header host o at object control strategy m past own unasked unreturned =
    paid_of header host o m (event.Sent (Down at object control) (message.Ready false strategy) ∷ event.Taken (up host o) m ∷ past) (record {
      none_owed = refl;
      took = refl;
      no_error = refl;
      no_absence = refl;
      ready = λ is. rw (own, itself o) refl;
      answered = λ p is. never (sym (unasked p) ∙ is);
      lacking = λ p high is lacks. never (sym (unreturned p) ∙ is);
    })

-- a request was answered
pub request_paid : (header : Header) (host o control : ℕ) (page : PageNo) (access : ℕ) (now : List Event) → owed now ≡ None
    → taken_letter now ≡ Some (record { channel = up host o; message = message.Request control page access })
    → error_taken header now ≡ None → absence_taken header now ≡ None
    → ((p : ℕ) → (page.0 == p) ≡ true → since (answers o p) now ≡ true) → IsPaid header now
request_paid header host o control page access now none took no_error no_absence answered =
    paid_of header host o (message.Request control page access) now (record {
      none_owed = none;
      took = took;
      no_error = no_error;
      no_absence = no_absence;
      ready = λ is. never is;
      answered = answered;
      lacking = λ p high is lacks. never is;
    })

-- a page was returned, and a slot that it lacks was told
pub return_paid : (header : Header) (host o control : ℕ) (page : PageNo) (dirty keep : Bool) (bytes : List ℕ) (now : List Event) → owed now ≡ None
    → taken_letter now ≡ Some (record { channel = up host o; message = message.Return control page dirty keep bytes })
    → error_taken header now ≡ None → absence_taken header now ≡ None
    → ((p : ℕ) → named header ≤ o → (page.0 == p) ≡ true → LacksSlot header host o p (before_step now) → since (lacks_slot o p) now ≡ true)
    → IsPaid header now
return_paid header host o control page dirty keep bytes now none took no_error no_absence lacking =
    paid_of header host o (message.Return control page dirty keep bytes) now (record {
      none_owed = none;
      took = took;
      no_error = no_error;
      no_absence = no_absence;
      ready = λ is. never is;
      answered = λ p is. never is;
      lacking = lacking;
    })
