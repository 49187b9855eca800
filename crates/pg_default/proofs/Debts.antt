-- What the step owes is paid.
use Rattle.std.proofs.Common.{ℕ, ◌≡◌, ◌==◌, Bool, true, false, List, [], ◌∷◌, ◌++◌, Option, Some, None, refl, sym, ◌∙◌, ap, subst, arith, inl, inr}
use Rattle.std.proofs.lemmas.Bool.{false≢true}
use Rattle.std.proofs.lemmas.Bool.Decides.{nat_tests}
use Rattle.pg_answers.specs.Answers.{error, sent_to}
use Rattle.pg_slots.specs.Slots.{HasNoSlot, SlotTable, held_at}
use Rattle.pg_slots.specs.declared.answers.Put.{Put as PutAnswer}
use Rattle.pg_slots.specs.declared.answers.Put.TheVariants as put
use Rattle.pg_slots.specs.declared.slot_row.Held.{Held}
use Rattle.pg_slots.specs.declared.slot_row.Held.TheVariants as held
use Rattle.vm_base.specs.declared.ids.ObjectId.{ObjectId}
use Rattle.vm_base.specs.declared.ids.PageNo.{PageNo}
use Rattle.vm_model.specs.declared.event.Event.{Event}
use Rattle.vm_model.specs.declared.message.Message.{Message}
use Rattle.vm_model.specs.declared.message.Message.TheVariants as message
use Rattle.vm_model.specs.declared.script.Header.{Header}
use Rattle.vm_legal.proofs.Answering.{asks, nothing_owed, opens, own_test, ready_paid, request_paid, return_paid, returns}
use Rattle.vm_legal.specs.Debts.{IsPaid}
use Rattle.vm_legal.specs.Pagers.{LacksSlot}
use Rattle.pg_default.specs.Answers.{PagerAnswer, RequestAnswer, became, told_of}
use Rattle.pg_default.specs.Stands.{PagerServes, PagerStands, taking}
use Rattle.pg_default.proofs.Standing.{is_full}

never : {X : Type 0} → false ≡ true → X
never is = absurd (false≢true is)

-- a message for which nothing is owed
owes_nothing : (header : Header) (host : ℕ) (object : ObjectId) (m : Message) (past events : List Event) → opens m ≡ false → ((p : ℕ) → asks p m ≡ false)
    → ((p : ℕ) → returns p m ≡ false) → events ≡ [] → IsPaid header (events ++ taking host object m past)
owes_nothing header host object m past events one two three is =
    subst (λ (es : List Event). IsPaid header (es ++ taking host object m past)) (sym is) (nothing_owed header host object.0 m past one two three)

is_ready : (header : Header) (host at : ℕ) (object : ObjectId) (m : Message) (control strategy : ℕ) (past events : List Event) → ((p : ℕ) → asks p m ≡ false)
    → ((p : ℕ) → returns p m ≡ false) → events ≡ sent_to at object control (message.Ready false strategy) ∷ []
    → IsPaid header (events ++ taking host object m past)
is_ready header host at object m control strategy past events two three is =
    subst (λ (es : List Event). IsPaid header (es ++ taking host object m past)) (sym is)
    (ready_paid header host object.0 (record { 0 = at }) object control strategy m past refl two three)

requested : (header : Header) (host at size : ℕ) (object : ObjectId) (control : ℕ) (page : PageNo) (access : ℕ) (has : Option Held) (past events : List Event)
    → RequestAnswer size at object control page has events
    → IsPaid header (events ++ taking host object (message.Request control page access) past)
requested header host at size object control page access has past events is = by has is
  where
    first : List Event
    first = taking host object (message.Request control page access) past

    on : (es : List Event) → events ≡ es → IsPaid header (es ++ first) → IsPaid header (events ++ first)
    on es e paid = subst (λ (x : List Event). IsPaid header (x ++ first)) (sym e) paid

    error_sent : IsPaid header (sent_to at object control (error page) ∷ first)
    error_sent = request_paid header host object.0 control page access _ refl refl refl refl (λ p e. own_test object.0 page.0 p _ e)

    by : (has : Option Held) → RequestAnswer size at object control page has events → IsPaid header (events ++ first)
    by None e = on _ e (request_paid header host object.0 control page access _ refl refl refl refl (λ p e. own_test object.0 page.0 p _ e))
    by (Some held.Lost) e = on _ e error_sent
    by (Some (held.Torn s)) e = on _ e error_sent
    by (Some (held.Kept s)) (inl e) =
        on _ e.2 (request_paid header host object.0 control page access _ refl refl refl refl (λ p e. own_test object.0 page.0 p _ e))
    by (Some (held.Kept s)) (inr e) =
        on _ e (request_paid header host object.0 control page access _ refl refl refl refl (λ p e. own_test object.0 page.0 p _ e))

abbrev is_no_slot : PutAnswer → Bool
is_no_slot put.NoSlot = true
is_no_slot put.Kept = false
is_no_slot put.Failed = false

returned : (header : Header) (host : ℕ) (past : List Event) (object : ObjectId) (control : ℕ) (page : PageNo) (dirty keep : Bool) (bytes : List ℕ)
    (old : SlotTable) (is : PutAnswer)
    → PagerStands header host old past → (HasNoSlot old object.0 page.0 → is ≡ put.NoSlot)
    → IsPaid header (told_of is object page ++ taking host object (message.Return control page dirty keep bytes) past)
returned header host past object control page dirty keep bytes old is s told = by is told
  where
    m : Message
    m = message.Return control page dirty keep bytes

    lacks_it : (p : ℕ) → (page.0 == p) ≡ true → LacksSlot header host object.0 p past → HasNoSlot old object.0 page.0
    lacks_it p same lacks =
        let here : p ≡ page.0 = grind (arith, nat_tests, same) in
        let l = subst (λ (k : ℕ). LacksSlot header host object.0 k past) here lacks in
        (s.slot object.0 page.0 ∙ l.none, is_full header host old past s l.full)

    by : (is : PutAnswer) → (HasNoSlot old object.0 page.0 → is ≡ put.NoSlot)
        → IsPaid header (told_of is object page ++ taking host object (message.Return control page dirty keep bytes) past)
    by put.Kept told =
        return_paid header host object.0 control page dirty keep bytes _ refl refl refl refl
        (λ p high e lacks. never (ap is_no_slot (told (lacks_it p e lacks))))
    by put.Failed told =
        return_paid header host object.0 control page dirty keep bytes _ refl refl refl refl
        (λ p high e lacks. never (ap is_no_slot (told (lacks_it p e lacks))))
    by put.NoSlot told =
        return_paid header host object.0 control page dirty keep bytes _ refl refl refl refl (λ p high e lacks. own_test object.0 page.0 p _ e)

pub paid : (header : Header) (host : ℕ) (past : List Event) (object : ObjectId) (m : Message) (old new : SlotTable) (events : List Event)
    → PagerServes header host past object m old new events → IsPaid header (events ++ taking host object m past)
paid header host past object m old new events serves = by m serves.answered
  where
    by : (m : Message) → PagerAnswer m object old new events → IsPaid header (events ++ taking host object m past)
    by (message.Init control size) a = is_ready header host old.host object _ control 0 past events (λ p. refl) (λ p. refl) a.1
    by (message.Create control size) a = is_ready header host old.host object _ control 3 past events (λ p. refl) (λ p. refl) a.1
    by (message.Request control page access) a =
        requested header host old.host old.size object control page access (held_at old object.0 page.0) past events a.1
    by (message.Return control page dirty keep bytes) a =
        subst (λ (es : List Event). IsPaid header (es ++ taking host object (message.Return control page dirty keep bytes) past)) (sym a.told)
        (returned header host past object control page dirty keep bytes old (became events) serves.stands a.no_slot.1)
    by (message.Terminate control) a = owes_nothing header host object _ past events refl (λ p. refl) (λ p. refl) a.1
    by (message.Unlock control page access) a = owes_nothing header host object _ past events refl (λ p. refl) (λ p. refl) a.1
    by (message.Completed control page count) a = owes_nothing header host object _ past events refl (λ p. refl) (λ p. refl) a.1
    by (message.Changed control cache strategy) a = owes_nothing header host object _ past events refl (λ p. refl) (λ p. refl) a.1
    by (message.Ready cache strategy) a = elim a [ ]
    by (message.Supply page lock precious bytes) a = elim a [ ]
    by (message.Unavailable page) a = elim a [ ]
    by (message.Error page reason) a = elim a [ ]
    by (message.Lock page count returns flush lock reply) a = elim a [ ]
    by (message.Attributes cache strategy reply) a = elim a [ ]
    by (message.Destroy reason) a = elim a [ ]
