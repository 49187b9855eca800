-- Each event of an answer has its cause.
use Rattle.std.proofs.Common.{ℕ, ◌≡◌, ◌≤◌, nat_lt, Bool, true, false, List, [], ◌∷◌, Option, Some, None, refl, sym, ◌∙◌, ap, subst, arith, if◌then◌else◌, inl}
use Rattle.std.proofs.Common.{inr}
use Rattle.std.proofs.lemmas.Bool.{false≢true}
use Rattle.std.proofs.lemmas.Bool.Decides.{nat_tests}
use Rattle.pg_answers.specs.Answers.{error, sent_to, supply}
use Rattle.pg_slots.specs.Contents.{Kept, Lost, Stored}
use Rattle.pg_slots.specs.Slots.{HasNoSlot, PutEffects, SlotTable, held_at, held_slot as slot_held}
use Rattle.pg_slots.specs.declared.answers.Put.{Put as PutAnswer}
use Rattle.pg_slots.specs.declared.answers.Put.TheVariants as put
use Rattle.pg_slots.specs.declared.slot_row.Held.{Held}
use Rattle.pg_slots.specs.declared.slot_row.Held.TheVariants as held
use Rattle.vm_base.specs.declared.ids.ObjectId.{ObjectId}
use Rattle.vm_base.specs.declared.ids.PageNo.{PageNo}
use Rattle.vm_model.specs.declared.command.Command.{Command}
use Rattle.vm_model.specs.declared.event.Event.{Event}
use Rattle.vm_model.specs.declared.event.Way.TheVariants.{Read}
use Rattle.vm_model.specs.declared.message.Message.{Message}
use Rattle.vm_model.specs.declared.message.Message.TheVariants as message
use Rattle.vm_model.specs.declared.script.Header.{Header}
use Rattle.vm_model.specs.Named.{named}
use Rattle.vm_legal.proofs.PagerAnswers.{create_answered, init_answered, lost_answered}
use Rattle.vm_legal.proofs.Served.{later_paged, paged_sends}
use Rattle.vm_legal.specs.Licences.{MaySendDown, PagerSends, pager_has, tells}
use Rattle.vm_legal.specs.InTurn.{AllInTurn}
use Rattle.vm_legal.specs.Outside.{Outside, is_file, kind_of, start_page}
use Rattle.vm_legal.specs.Pagers.{is_lost, last_return, newer, slot_at as slot_of_page, slot_of}
use Rattle.pg_default.specs.Answers.{PagerAnswer, RequestAnswer, SuppliesStored, became, device_failed, told_of}
use Rattle.pg_default.specs.Stands.{IsHeldOf, PagerServes, PagerStands, content_of, is_ended, stored_of, taking}
use Rattle.pg_default.proofs.Rows.{itself}
use Rattle.pg_default.proofs.Facts.{own_slots, same_taken}
use Rattle.pg_default.proofs.Standing.{goes_to, no_free}
use Rattle.vm_legal.proofs.Files.{not_file}
use Rattle.vm_legal.proofs.Answering.{own_test}

none_is : (was : Option (List ℕ)) (lost : Bool) → IsHeldOf None was lost → (was ≡ None) × (lost ≡ false)
none_is None false h = (refl, refl)
none_is None true h = absurd h
none_is (Some bytes) false h = absurd h
none_is (Some bytes) true h = absurd h

lost_is : (was : Option (List ℕ)) (lost : Bool) → IsHeldOf (Some held.Lost) was lost → lost ≡ true
lost_is None false h = absurd h
lost_is None true h = absurd h
lost_is (Some bytes) false h = absurd h
lost_is (Some bytes) true h = refl

torn_is : (s : ℕ) (was : Option (List ℕ)) (lost : Bool) → IsHeldOf (Some (held.Torn s)) was lost → lost ≡ true
torn_is s None false h = absurd h
torn_is s None true h = absurd h
torn_is s (Some bytes) false h = absurd h
torn_is s (Some bytes) true h = refl

kept_is : (s : ℕ) (was : Option (List ℕ)) (lost : Bool) → IsHeldOf (Some (held.Kept s)) was lost → (bytes : List ℕ) × (was ≡ Some bytes) × (lost ≡ false)
kept_is s None false h = absurd h
kept_is s None true h = absurd h
kept_is s (Some bytes) false h = (bytes, refl, refl)
kept_is s (Some bytes) true h = absurd h

abbrev bytes_of : Option Stored → List ℕ
bytes_of None = []
bytes_of (Some Lost) = []
bytes_of (Some (Kept bytes)) = bytes

pub content_at : (header : Header) (host : ℕ) (past : List Event) (o p : ℕ) → named header ≤ o → is_ended host o past ≡ false
    → content_of header host past o p ≡ stored_of (last_return host o p past) (is_lost o p past)
content_at header host past o p temporary unended = let high : nat_lt o (named header) ≡ false = grind (arith, nat_tests) in rw (high, unended) refl

-- what a request finds
record Finds (header : Header) (host : ℕ) (past : List Event) (object : ObjectId) (page : PageNo) (has : Option Held) : Type 0 where
  temporary : named header ≤ object.0
  unended : is_ended host object.0 past ≡ false
  returned : IsHeldOf has (last_return host object.0 page.0 past) (is_lost object.0 page.0 past)
  slot : slot_held has ≡ slot_of_page header host object.0 page.0 past

-- what is licensed where the supplied bytes were stored
abbrev CausedInTurn : Header → Outside → Command → ℕ → List Event → ObjectId → List Event → List Event → Type 0
CausedInTurn header outside doing host past object first events =
    (outside.paging ≡ true → SuppliesStored object events (content_of header host past)) → AllInTurn header outside doing events first

-- the default pager answers for temporary objects
sends : (header : Header) (outside : Outside) (doing : Command) (host : ℕ) (object : ObjectId) (control : ℕ) (m : Message) (past : List Event)
    → named header ≤ object.0
    → MaySendDown header outside doing host object.0 control m past → PagerSends (kind_of header object.0) header outside doing host object.0 control m past
sends header outside doing host object control m past temporary may =
    paged_sends header outside doing host object.0 control m past (later_paged header object.0 temporary) may

unavailable : (header : Header) (outside : Outside) (doing : Command) (host : ℕ) (past : List Event) (object : ObjectId) (control : ℕ) (page : PageNo)
    (access : ℕ) → Finds header host past object page None
    → AllInTurn header outside doing (sent_to host object control (message.Unavailable page) ∷ [])
    (taking host object (message.Request control page access) past)
unavailable header outside doing host past object control page access f =
    let is = none_is _ _ f.returned in
    let last = (same_taken header host object.0 (message.Request control page access) past tt).last object.0 page.0 in (
      (
        sends header outside doing host object control (message.Unavailable page) (taking host object (message.Request control page access) past) f.temporary (
          record { access = access; taken = refl; unanswered = refl },
          record { kept = is.1; read = refl },
          (λ other. last ∙ is.0, λ tells file. absurd (false≢true (sym (not_file header object.0 f.temporary) ∙ file))),
        ),
        tt,
      ),
      tt,
    )

supplies : (header : Header) (outside : Outside) (doing : Command) (host : ℕ) (past : List Event) (object : ObjectId) (control : ℕ) (page : PageNo)
    (access s : ℕ) (bytes : List ℕ) → Finds header host past object page (Some (held.Kept s))
    → (outside.paging ≡ true → content_of header host past object.0 page.0 ≡ Some (Kept bytes))
    → AllInTurn header outside doing (sent_to host object control (supply page bytes) ∷ []) (taking host object (message.Request control page access) past)
supplies header outside doing host past object control page access s bytes f stored =
    let is = kept_is s _ _ f.returned in
    let last = (same_taken header host object.0 (message.Request control page access) past tt).last object.0 page.0 ∙ is.1 in (
      (
        sends header outside doing host object control (supply page bytes) (taking host object (message.Request control page access) past) f.temporary (
          record { access = access; taken = refl; unanswered = refl },
          record { kept = is.2; read = refl },
          refl,
          refl,
          (λ other. (is.0, last)),
          λ tells. has last (same is.0 is.1 is.2 (stored (paging tells))),
        ),
        tt,
      ),
      tt,
    )
  where
    paging : tells header outside object.0 ≡ true → outside.paging ≡ true
    paging is = rw (not_file header object.0 f.temporary) at is

    same : (was : List ℕ) → last_return host object.0 page.0 past ≡ Some was → is_lost object.0 page.0 past ≡ false
        → content_of header host past object.0 page.0 ≡ Some (Kept bytes) → was ≡ bytes
    same was last kept is =
        let here : stored_of (last_return host object.0 page.0 past) (is_lost object.0 page.0 past) ≡ Some (Kept was) = rw (last, kept) refl in
        let stored : content_of header host past object.0 page.0 ≡ Some (Kept was) = content_at header host past object.0 page.0 f.temporary f.unended ∙ here in
        ap bytes_of (sym stored ∙ is)

    has : {was : List ℕ} → last_return host object.0 page.0 (taking host object (message.Request control page access) past) ≡ Some was → was ≡ bytes
        → pager_has header outside host object.0 page.0 (taking host object (message.Request control page access) past) ≡ Some bytes
    has last e =
        ap (λ (x : Option (List ℕ)). newer x (if is_file header object.0 then Some (start_page header outside object.0 page.0) else None)) last ∙ ap Some e

unread : (header : Header) (outside : Outside) (doing : Command) (host : ℕ) (past : List Event) (object : ObjectId) (control : ℕ) (page : PageNo) (access s : ℕ)
    → Finds header host past object page (Some (held.Kept s))
    → AllInTurn header outside doing (sent_to host object control (error page) ∷ device_failed Read object page ∷ [])
    (taking host object (message.Request control page access) past)
unread header outside doing host past object control page access s f =
    let rows = (same_taken header host object.0 (message.Request control page access) past tt).rows in (
      (
        sends header outside doing host object control (error page) (device_failed Read object page ∷ taking host object (message.Request control page access)
            past) f.temporary
            (record { access = access; taken = refl; unanswered = refl }, refl, inr (own_test object.0 page.0 page.0 false (itself page.0))),
        tt,
      ),
      (((f.temporary, (host, record { control = control; access = access; is = refl }, (s, ap (slot_of object.0 page.0) rows ∙ sym f.slot))), tt), tt),
    )

requested : (header : Header) (outside : Outside) (doing : Command) (host size : ℕ) (past : List Event) (object : ObjectId) (control : ℕ) (page : PageNo)
    (access : ℕ) (has : Option Held) (events : List Event)
    → Finds header host past object page has → RequestAnswer size host object control page has events
    → CausedInTurn header outside doing host past object (taking host object (message.Request control page access) past) events
requested header outside doing host size past object control page access None events f is =
    subst (CausedInTurn header outside doing host past object _) (sym is) (λ stored. unavailable header outside doing host past object control page access f)
requested header outside doing host size past object control page access (Some held.Lost) events f is =
    subst (CausedInTurn header outside doing host past object _) (sym is) (λ stored. lost_answered header outside doing (record { 0 = host }) object control
    page
    access past (later_paged header object.0 f.temporary) (lost_is _ _ f.returned))
requested header outside doing host size past object control page access (Some (held.Torn s)) events f is =
    subst (CausedInTurn header outside doing host past object _) (sym is) (λ stored. lost_answered header outside doing (record { 0 = host }) object control
    page
    access past (later_paged header object.0 f.temporary) (torn_is s _ _ f.returned))
requested header outside doing host size past object control page access (Some (held.Kept s)) events f (inl is) =
    subst (CausedInTurn header outside doing host past object _) (sym is.2) (λ stored. supplies header outside doing host past object control page access s is.0
    f stored)
requested header outside doing host size past object control page access (Some (held.Kept s)) events f (inr is) =
    subst (CausedInTurn header outside doing host past object _) (sym is) (λ stored. unread header outside doing host past object control page access s f)

returned : (header : Header) (outside : Outside) (doing : Command) (host : ℕ) (past : List Event) (object : ObjectId) (control : ℕ) (page : PageNo)
    (dirty keep : Bool) (bytes : List ℕ) (old new : SlotTable) (is : PutAnswer)
    → named header ≤ object.0 → PagerStands header host old past → PutEffects is object.0 page.0 old new → (is ≡ put.NoSlot → HasNoSlot old object.0 page.0)
    → AllInTurn header outside doing (told_of is object page) (taking host object (message.Return control page dirty keep bytes) past)
returned header outside doing host past object control page dirty keep bytes old new put.Kept temporary s leaves lacks = tt
returned header outside doing host past object control page dirty keep bytes old new put.NoSlot temporary s leaves lacks =
    let none = lacks refl in (
      (
        record {
          temporary = temporary;
          host = host;
          takes = record { control = control; dirty = dirty; keep = keep; bytes = bytes; is = refl };
          lacks = record { none = sym (s.slot object.0 page.0) ∙ none.0; full = no_free header host old past s none.1 };
        },
        tt,
      ),
      tt,
    )
returned header outside doing host past object control page dirty keep bytes old new put.Failed temporary s leaves lacks = (
  (
    (
      temporary,
      (
        host,
        record { control = control; dirty = dirty; keep = keep; bytes = bytes; is = refl },
        (
          leaves.0,
          ap (slot_of object.0 page.0) (own_slots header host object.0 (message.Return control page dirty keep bytes) past temporary)
              ∙ goes_to header host old past object.0 page.0 leaves.0 s leaves.1,
        ),
      ),
    ),
    tt,
  ),
  tt,
)

pub causes : (header : Header) (outside : Outside) (doing : Command) (host : ℕ) (past : List Event) (object : ObjectId) (m : Message) (old new : SlotTable)
    (events : List Event)
    → PagerServes header host past object m old new events → (outside.paging ≡ true → SuppliesStored object events (content_of header host past))
    → AllInTurn header outside doing events (taking host object m past)
causes header outside doing host past object m old new events serves stored = by m serves.answered
  where
    at : (control : ℕ) (reply : Message) → events ≡ sent_to old.host object control reply ∷ [] → events ≡ sent_to host object control reply ∷ []
    at control reply is = subst (λ (h : ℕ). events ≡ sent_to h object control reply ∷ []) serves.stands.host_is is

    by : (m : Message) → PagerAnswer m object old new events → AllInTurn header outside doing events (taking host object m past)
    by (message.Init control size) a =
        subst (λ (es : List Event). AllInTurn header outside doing es (taking host object (message.Init control size) past)) (sym (at control _ a.1))
        (init_answered header outside doing (record { 0 = host }) object control size 0 past (later_paged header object.0 serves.temporary)
        (ap (λ (file : Bool). if file then 2 else 0) (sym (not_file header object.0 serves.temporary))))
    by (message.Create control size) a =
        subst (λ (es : List Event). AllInTurn header outside doing es (taking host object (message.Create control size) past)) (sym (at control _ a.1))
        (create_answered header outside doing (record { 0 = host }) object control size past (later_paged header object.0 serves.temporary))
    by (message.Request control page access) a =
        requested header outside doing host old.size past object control page access (held_at old object.0 page.0) events
        (record {
          temporary = serves.temporary;
          unended = serves.unended;
          returned = serves.stands.returned object.0 page.0 serves.temporary serves.unended serves.own;
          slot = serves.stands.slot object.0 page.0;
        })
        (subst (λ (h : ℕ). RequestAnswer old.size h object control page (held_at old object.0 page.0) events) serves.stands.host_is a.1) stored
    by (message.Return control page dirty keep bytes) a =
        subst (λ (es : List Event). AllInTurn header outside doing es (taking host object (message.Return control page dirty keep bytes) past)) (sym a.told)
        (returned header outside doing host past object control page dirty keep bytes old new (became events) serves.temporary serves.stands a.held
        a.no_slot.0)
    by (message.Terminate control) a = rw a.1 tt
    by (message.Unlock control page access) a = rw a.1 tt
    by (message.Completed control page count) a = rw a.1 tt
    by (message.Changed control cache strategy) a = rw a.1 tt
    by (message.Ready cache strategy) a = elim a [ ]
    by (message.Supply page lock precious bytes) a = elim a [ ]
    by (message.Unavailable page) a = elim a [ ]
    by (message.Error page reason) a = elim a [ ]
    by (message.Lock page count returns flush lock reply) a = elim a [ ]
    by (message.Attributes cache strategy reply) a = elim a [ ]
    by (message.Destroy reason) a = elim a [ ]
