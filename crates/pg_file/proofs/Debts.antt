-- What the step owes is paid.
use Rattle.std.proofs.Common.{ℕ, ◌≡◌, ◌≤◌, Bool, true, false, List, [], ◌∷◌, ◌++◌, refl, sym, ◌∙◌, subst, inl, inr}
use Rattle.std.proofs.lemmas.Bool.{false≢true}
use Rattle.vm_base.specs.declared.ids.PageNo.{PageNo}
use Rattle.vm_model.specs.Named.{named}
use Rattle.vm_model.specs.declared.event.Event.{Event}
use Rattle.vm_model.specs.declared.message.Message.{Message}
use Rattle.vm_model.specs.declared.message.Message.TheVariants as message
use Rattle.vm_model.specs.declared.script.Header.{Header}
use Rattle.vm_legal.proofs.Answering.{asks, nothing_owed, opens, own_test, ready_paid, request_paid, return_paid, returns}
use Rattle.vm_legal.proofs.Files.{not_file}
use Rattle.vm_legal.specs.Debts.{IsPaid}
use Rattle.vm_legal.specs.Outside.{is_file}
use Rattle.pg_file.proofs.Facts.{sent_about}
use Rattle.pg_file.specs.Answers.{FileAnswer, RequestAnswer, is_stored, sent_to, told_of}
use Rattle.pg_file.specs.Files.{FileTable, has_lost}
use Rattle.pg_file.specs.Stands.{PagerServes, taking}

-- no file is temporary
high_not : {X : Type 0} (header : Header) (object : ℕ) → is_file header object ≡ true → named header ≤ object → X
high_not header object file high = absurd (false≢true (sym (not_file header object high) ∙ file))

-- a message for which nothing is owed
owes_nothing : (header : Header) (host object : ℕ) (m : Message) (past events : List Event) → opens m ≡ false → ((p : ℕ) → asks p m ≡ false)
    → ((p : ℕ) → returns p m ≡ false) → events ≡ [] → IsPaid header (events ++ taking host object m past)
owes_nothing header host object m past events one two three is =
    subst (λ (es : List Event). IsPaid header (es ++ taking host object m past)) (sym is) (nothing_owed header host object m past one two three)

is_ready : (header : Header) (host object : ℕ) (m : Message) (control strategy : ℕ) (past events : List Event) → ((p : ℕ) → asks p m ≡ false)
    → ((p : ℕ) → returns p m ≡ false) → events ≡ sent_to host object control (message.Ready false strategy) ∷ []
    → IsPaid header (events ++ taking host object m past)
is_ready header host object m control strategy past events two three is =
    subst (λ (es : List Event). IsPaid header (es ++ taking host object m past)) (sym is)
    (ready_paid header host object (record { 0 = host }) (record { 0 = object }) control strategy m past refl two three)

requested : (header : Header) (host size object control : ℕ) (page : PageNo) (access : ℕ) (lost : Bool) (past events : List Event)
    → RequestAnswer size host object control page lost events
    → IsPaid header (events ++ taking host object (message.Request control page access) past)
requested header host size object control page access lost past events is = by lost is
  where
    first : List Event
    first = taking host object (message.Request control page access) past

    by : (lost : Bool) → RequestAnswer size host object control page lost events → IsPaid header (events ++ first)
    by true e = rw e (request_paid header host object control page access _ refl refl refl refl (λ p e. own_test object page.0 p _ e))
    by false (inl e) = rw e.2 (request_paid header host object control page access _ refl refl refl refl (λ p e. own_test object page.0 p _ e))
    by false (inr (inl e)) = rw e (request_paid header host object control page access _ refl refl refl refl (λ p e. own_test object page.0 p _ e))
    by false (inr (inr e)) = rw e (request_paid header host object control page access _ refl refl refl refl (λ p e. own_test object page.0 p _ e))

returned : (header : Header) (host object control : ℕ) (page : PageNo) (dirty keep : Bool) (bytes : List ℕ) (stored : Bool) (past : List Event)
    → is_file header object ≡ true
    → IsPaid header (told_of stored object page ++ taking host object (message.Return control page dirty keep bytes) past)
returned header host object control page dirty keep bytes true past file =
    return_paid header host object control page dirty keep bytes _ refl refl refl refl (λ p high. high_not header object file high)
returned header host object control page dirty keep bytes false past file =
    return_paid header host object control page dirty keep bytes _ refl refl refl refl (λ p high. high_not header object file high)

pub paid : (header : Header) (host : ℕ) (past : List Event) (object : ℕ) (m : Message) (old new : FileTable) (events : List Event)
    → PagerServes header host past object m old new events → IsPaid header (events ++ taking host object m past)
paid header host past object m old new events serves = by m serves.answered
  where
    by : (m : Message) → FileAnswer m host old new events → IsPaid header (events ++ taking host object m past)
    by (message.Init control size) a =
        is_ready header host object (message.Init control size) control 2 past events (λ p. refl) (λ p. refl)
        (sent_about host old.object object control _ events serves.stands.object_is a.1)
    by (message.Create control size) a =
        is_ready header host object (message.Create control size) control 3 past events (λ p. refl) (λ p. refl)
        (sent_about host old.object object control _ events serves.stands.object_is a.1)
    by (message.Request control page access) a =
        requested header host old.size object control page access (has_lost old page.0) past events
        (subst (λ (o : ℕ). RequestAnswer old.size host o control page (has_lost old page.0) events) serves.stands.object_is a.1)
    by (message.Return control page dirty keep bytes) a =
        let told : events ≡ told_of (is_stored events) object page = subst (λ (o : ℕ). events ≡ told_of (is_stored events) o page) serves.stands.object_is
        a.told in
        subst (λ (es : List Event). IsPaid header (es ++ taking host object (message.Return control page dirty keep bytes) past)) (sym told)
        (returned header host object control page dirty keep bytes (is_stored events) past serves.stands.file)
    by (message.Terminate control) a = owes_nothing header host object (message.Terminate control) past events refl (λ p. refl) (λ p. refl) a.1
    by (message.Unlock control page access) a =
        owes_nothing header host object (message.Unlock control page access) past events refl (λ p. refl) (λ p. refl) a.1
    by (message.Completed control page count) a =
        owes_nothing header host object (message.Completed control page count) past events refl (λ p. refl) (λ p. refl) a.1
    by (message.Changed control cache strategy) a =
        owes_nothing header host object (message.Changed control cache strategy) past events refl (λ p. refl) (λ p. refl) a.1
    by (message.Ready cache strategy) a = elim a [ ]
    by (message.Supply page lock precious bytes) a = elim a [ ]
    by (message.Unavailable page) a = elim a [ ]
    by (message.Error page reason) a = elim a [ ]
    by (message.Lock page count returns flush lock reply) a = elim a [ ]
    by (message.Attributes cache strategy reply) a = elim a [ ]
    by (message.Destroy reason) a = elim a [ ]
