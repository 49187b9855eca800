-- The slots stand for the history behind an answer.
use Rattle.std.proofs.Common.{ℕ, ◌≡◌, ◌≤◌, ◌<◌, ◌==◌, ◌&&◌, ◌||◌, Bool, true, false, List, [], ◌∷◌, ◌++◌, Option, Some, None, refl, sym, ◌∙◌, ap, subst, arith}
use Rattle.std.proofs.Common.{if◌then◌else◌, inl, inr}
use Rattle.std.proofs.lemmas.Bool.{false≢true}
use Rattle.std.specs.Prelude.{MatchOption}
use Rattle.std.proofs.lemmas.Bool.Decides.{nat_tests}
use Rattle.std.proofs.lemmas.Option.{none-some}
use Rattle.pg_answers.specs.Answers.{sent_to}
use Rattle.pg_slots.specs.Slots.{DropsHeld, GoesTo, HasNoSlot, IsLowestFree, IsSlotTaken, PutEffects, PutsHeld, SlotTable, SlotsAreFull, held_at}
use Rattle.pg_slots.specs.Slots.{held_slot as slot_held, slot_in_table}
use Rattle.pg_slots.specs.declared.answers.Put.{Put as PutAnswer}
use Rattle.pg_slots.specs.declared.answers.Put.TheVariants as put
use Rattle.pg_slots.specs.declared.slot_row.Held.{Held}
use Rattle.pg_slots.specs.declared.slot_row.Held.TheVariants as held
use Rattle.vm_base.specs.declared.ids.ObjectId.{ObjectId}
use Rattle.vm_base.specs.declared.ids.PageNo.{PageNo}
use Rattle.vm_model.specs.declared.event.Way.TheVariants.{Read, Write}
use Rattle.vm_model.specs.declared.event.Event.{Event}
use Rattle.vm_model.specs.declared.event.Event.TheVariants as event
use Rattle.vm_model.specs.declared.message.Message.{Message}
use Rattle.vm_model.specs.declared.message.Message.TheVariants as message
use Rattle.vm_model.specs.declared.script.Header.{Header}
use Rattle.vm_model.specs.Named.{named}
use Rattle.vm_legal.specs.Pagers.{Slotted, first_free, is_lost, is_taken, last_return, slot_of, slots, slotted}
use Rattle.pg_default.specs.Answers.{PagerAnswer, RequestAnswer, became, device_failed, told_of}
use Rattle.pg_default.specs.Stands.{IsHeldOf, PagerServes, PagerStands, is_ended, is_heard_elsewhere, taking}
use Rattle.pg_default.proofs.Rows.{first_is, full_is, full_of, itself, of_taken, once_slots, slot_other, slot_without, taken_of}
use Rattle.pg_default.proofs.Facts.{IsQuiet, Put, Same, TellsLost, own_away, own_slots, put_kept, put_lost, same_taken}

pub start : (header : Header) (host : ℕ) → PagerStands header host (record { host = host; size = header.size; count = header.slots; rows = [] }) []
start header host =
    record {
      host_is = refl;
      size = refl;
      count = refl;
      slot = λ o p. refl;
      declared = λ o p less. refl;
      ended = λ o p is. refl;
      returned = λ o p temporary unended own. tt;
    }

pub held_same : (has now : Option Held) (was is : Option (List ℕ)) (lost gone : Bool) → now ≡ has → is ≡ was → gone ≡ lost → IsHeldOf has was lost
    → IsHeldOf now is gone
held_same has now was is lost gone one two three holds = rw (one, two, three) holds

pub stands_same : (header : Header) (host : ℕ) (old new : SlotTable) (past now : List Event) → Same header host past now → new ≡ old
    → PagerStands header host old past → PagerStands header host new now
stands_same header host old new past now same kept s = subst (λ (t : SlotTable). PagerStands header host t now) (sym kept) (record {
  host_is = s.host_is;
  size = s.size;
  count = s.count;
  slot = λ o p. s.slot o p ∙ ap (slot_of o p) (sym same.rows);
  declared = s.declared;
  ended = λ o p is. s.ended o p (sym (same.ended o) ∙ is);
  returned =
      λ o p temporary unended own. held_same _ _ _ _ _ _ refl (same.last o p) (same.lost o p)
      (s.returned o p temporary (sym (same.ended o) ∙ unended) (sym (same.away o) ∙ own));
})

-- a slot is a page's in the table where it is in the history
pub taken_there : (header : Header) (host : ℕ) (table : SlotTable) (past : List Event) (s : ℕ) → PagerStands header host table past → IsSlotTaken table s
    → is_taken s (slots header host past) ≡ true
taken_there header host table past s stands w = of_taken (slots header host past) w.object w.page s (sym (stands.slot w.object w.page) ∙ w.at)

pub taken_here : (header : Header) (host : ℕ) (table : SlotTable) (past : List Event) (s : ℕ) → PagerStands header host table past
    → is_taken s (slots header host past) ≡ true → IsSlotTaken table s
taken_here header host table past s stands is =
    let w = taken_of (slots header host past) s (once_slots header host past) is in
    record { object = w.object; page = w.page; at = stands.slot w.object w.page ∙ w.at }

pub free_slot : (header : Header) (host : ℕ) (table : SlotTable) (past : List Event) (s : ℕ) → PagerStands header host table past → IsLowestFree table s
    → first_free header.slots 0 (slots header host past) ≡ Some s
free_slot header host table past s stands low =
    first_is header.slots 0 s (slots header host past) (omega arith) (let less = low.inside in let count = stands.count in omega (arith, less, count))
    (free (is_taken s (slots header host past)) refl) (λ t less. taken_there header host table past t stands (low.lowest t less))
  where
    free : (b : Bool) → is_taken s (slots header host past) ≡ b → is_taken s (slots header host past) ≡ false
    free true is = absurd (low.free (taken_here header host table past s stands is))
    free false is = is

pub no_free : (header : Header) (host : ℕ) (table : SlotTable) (past : List Event) → PagerStands header host table past → SlotsAreFull table
    → first_free header.slots 0 (slots header host past) ≡ None
no_free header host table past stands full =
    full_is header.slots 0 (slots header host past) (λ t less. taken_there header host table past t stands
    (full t (let count = stands.count in omega (arith, less, count))))

pub is_full : (header : Header) (host : ℕ) (table : SlotTable) (past : List Event) → PagerStands header host table past
    → first_free header.slots 0 (slots header host past) ≡ None → SlotsAreFull table
is_full header host table past stands none t less =
    taken_here header host table past t stands (full_of header.slots 0 (slots header host past) none t (omega arith)
    (let count = stands.count in omega (arith, less, count)))

-- the slot that a put of a page goes to is the one that the history gives it
pub goes_to : (header : Header) (host : ℕ) (table : SlotTable) (past : List Event) (o p s : ℕ) → PagerStands header host table past → GoesTo table o p s
    → slot_of o p (slotted header.slots o p (slot_of o p (slots header host past)) (slots header host past)) ≡ Some s
goes_to header host table past o p s stands goes = by (slot_in_table table o p) (slot_of o p (slots header host past)) refl refl goes
  where
    own : (rows : List Slotted) → slot_of o p (record { object = o; page = p; slot = s } ∷ rows) ≡ Some s
    own rows = rw (itself o, itself p) refl

    by : (x y : Option ℕ) → slot_in_table table o p ≡ x → slot_of o p (slots header host past) ≡ y → MatchOption x (IsLowestFree table s) (λ k. s ≡ k)
        → slot_of o p (slotted header.slots o p y (slots header host past)) ≡ Some s
    by None None one two low = rw (free_slot header host table past s stands low) (own (slots header host past))
    by (Some k) (Some n) one two same = sym (stands.slot o p) ∙ one ∙ ap Some (sym same)
    by None (Some n) one two low = absurd (none-some n (sym one ∙ stands.slot o p ∙ two))
    by (Some k) None one two same = absurd (none-some k (sym (sym one ∙ stands.slot o p ∙ two)))

pub goes_nowhere : (header : Header) (host : ℕ) (table : SlotTable) (past : List Event) (o p : ℕ) → PagerStands header host table past → HasNoSlot table o p
    → slot_of o p (slotted header.slots o p (slot_of o p (slots header host past)) (slots header host past)) ≡ None
goes_nowhere header host table past o p stands lacks =
    let none : slot_of o p (slots header host past) ≡ None = sym (stands.slot o p) ∙ lacks.0 in
    rw (none, no_free header host table past stands lacks.1) none

stands_put : (header : Header) (host o p : ℕ) (has : Held) (bytes : List ℕ) (lost : Bool) (old new : SlotTable) (past now : List Event) → named header ≤ o
    → is_ended host o past ≡ false
    → PagerStands header host old past → Put header host o p bytes lost past now → PutsHeld o p has old new → IsHeldOf (Some has) (Some bytes) lost
    → slot_of o p (slotted header.slots o p (slot_of o p (slots header host past)) (slots header host past)) ≡ slot_held (Some has)
    → PagerStands header host new now
stands_put header host o p has bytes lost old new past now temporary unended s facts puts holds slot_is = record {
  host_is = puts.host ∙ s.host_is;
  size = puts.size ∙ s.size;
  count = puts.count ∙ s.count;
  slot = λ q r. slot_if q r (o == q && p == r) refl;
  declared = λ q r less. declared_if q r less (o == q && p == r) refl;
  ended = λ q r is. ended_if q r (sym (facts.ended q) ∙ is) (o == q && p == r) refl;
  returned = λ q r high is own. returned_if q r high (sym (facts.ended q) ∙ is) (sym (facts.away q) ∙ own) (o == q && p == r) refl;
}
  where
    object_is : (q r : ℕ) → (o == q && p == r) ≡ true → o ≡ q
    object_is q r is = grind (arith, nat_tests)

    page_is : (q r : ℕ) → (o == q && p == r) ≡ true → p ≡ r
    page_is q r is = grind (arith, nat_tests)

    there : (q r : ℕ) → (o == q && p == r) ≡ true → held_at new q r ≡ Some has
    there q r is = rw is at (puts.at q r)

    other : (q r : ℕ) → (o == q && p == r) ≡ false → held_at new q r ≡ held_at old q r
    other q r is = rw is at (puts.at q r)

    slot_if : (q r : ℕ) (b : Bool) → (o == q && p == r) ≡ b → slot_in_table new q r ≡ slot_of q r (slots header host now)
    slot_if q r true is = ap slot_held (there q r is) ∙ sym (subst (λ (k : ℕ). slot_of k r (slots header host now) ≡ slot_held (Some has)) (object_is q r is)
        (subst (λ (k : ℕ). slot_of o k (slots header host now) ≡ slot_held (Some has)) (page_is q r is) (ap (slot_of o p) facts.rows ∙ slot_is)))
    slot_if q r false is =
        ap slot_held (other q r is) ∙ s.slot q r ∙ sym (ap (slot_of q r) facts.rows
        ∙ slot_other header.slots o p q r (slot_of o p (slots header host past)) (slots header host past) is)

    declared_if : (q r : ℕ) → q < named header → (b : Bool) → (o == q && p == r) ≡ b → held_at new q r ≡ None
    declared_if q r less true is = let same : o ≡ q = object_is q r is in absurd (omega (arith, same, less, temporary))
    declared_if q r less false is = other q r is ∙ s.declared q r less

    ended_if : (q r : ℕ) → is_ended host q past ≡ true → (b : Bool) → (o == q && p == r) ≡ b → held_at new q r ≡ None
    ended_if q r ended true is = absurd (false≢true (sym unended ∙ subst (λ (k : ℕ). is_ended host k past ≡ true) (sym (object_is q r is)) ended))
    ended_if q r ended false is = other q r is ∙ s.ended q r ended

    returned_if : (q r : ℕ) → named header ≤ q → is_ended host q past ≡ false → is_heard_elsewhere host q past ≡ false → (b : Bool) → (o == q && p == r) ≡ b
        → IsHeldOf (held_at new q r) (last_return host q r now) (is_lost q r now)
    returned_if q r high alive own true is = held_same _ _ _ _ _ _ (there q r is) (rw is at (facts.last q r)) (rw is at (facts.gone q r)) holds
    returned_if q r high alive own false is =
        held_same _ _ _ _ _ _ (other q r is) (rw is at (facts.last q r)) (rw is at (facts.gone q r)) (s.returned q r high alive own)

pub tells_no_slot : (object : ObjectId) (page : PageNo) → TellsLost object.0 page.0 (event.NoSlot object page)
tells_no_slot object page =
    record { rows = λ header host past. refl; ended = λ host q past. refl; away = λ host q past. refl; last = λ host q r past. refl; lost = λ q r past. refl }

pub tells_failed : (object : ObjectId) (page : PageNo) → TellsLost object.0 page.0 (device_failed Write object page)
tells_failed object page =
    record { rows = λ header host past. refl; ended = λ host q past. refl; away = λ host q past. refl; last = λ host q r past. refl; lost = λ q r past. refl }

stands_return : (header : Header) (host : ℕ) (object : ObjectId) (page : PageNo) (control : ℕ) (dirty keep : Bool) (bytes : List ℕ) (old new : SlotTable)
    (past : List Event) (is : PutAnswer)
    → named header ≤ object.0 → is_ended host object.0 past ≡ false → PagerStands header host old past → PutEffects is object.0 page.0 old new
    → (is ≡ put.NoSlot → HasNoSlot old object.0 page.0)
    → PagerStands header host new (told_of is object page ++ taking host object (message.Return control page dirty keep bytes) past)
stands_return header host object page control dirty keep bytes old new past put.Kept temporary unended s leaves lacks =
    stands_put header host object.0 page.0 (held.Kept leaves.0) bytes false old new past _ temporary unended s
    (put_kept header host object.0 page.0 control dirty keep bytes past temporary) leaves.2 tt
    (goes_to header host old past object.0 page.0 leaves.0 s leaves.1)
stands_return header host object page control dirty keep bytes old new past put.Failed temporary unended s leaves lacks =
    stands_put header host object.0 page.0 (held.Torn leaves.0) bytes true old new past _ temporary unended s
    (put_lost header host object.0 page.0 control dirty keep bytes (device_failed Write object page) past temporary (tells_failed object page)) leaves.2 tt
    (goes_to header host old past object.0 page.0 leaves.0 s leaves.1)
stands_return header host object page control dirty keep bytes old new past put.NoSlot temporary unended s leaves lacks =
    stands_put header host object.0 page.0 held.Lost bytes true old new past _ temporary unended s
    (put_lost header host object.0 page.0 control dirty keep bytes (event.NoSlot object page) past temporary (tells_no_slot object page)) leaves tt
    (goes_nowhere header host old past object.0 page.0 s (lacks refl))

stands_end : (header : Header) (host : ℕ) (object : ObjectId) (control : ℕ) (old new : SlotTable) (past : List Event) → named header ≤ object.0
    → PagerStands header host old past → DropsHeld object.0 old new
    → PagerStands header host new (taking host object (message.Terminate control) past)
stands_end header host object control old new past temporary s drops = record {
  host_is = drops.host ∙ s.host_is;
  size = drops.size ∙ s.size;
  count = drops.count ∙ s.count;
  slot = λ q r. slot_if q r (object.0 == q) refl;
  declared = λ q r less. none_if q r (s.declared q r less) (object.0 == q) refl;
  ended = λ q r is. ended_if q r (object.0 == q) refl is;
  returned = λ q r high is own. returned_if q r high (sym (own_away host object.0 q past) ∙ own) (object.0 == q) refl is;
}
  where
    slot_if : (q r : ℕ) (b : Bool) → (object.0 == q) ≡ b
        → slot_in_table new q r ≡ slot_of q r (slots header host (taking host object (message.Terminate control) past))
    slot_if q r b is =
        ap slot_held (rw is at (drops.at q r)) ∙ by b ∙ sym (ap (slot_of q r) (own_slots header host object.0 (message.Terminate control) past temporary)
        ∙ rw is at (slot_without object.0 q r (slots header host past)))
      where
        by : (b : Bool) → slot_held (if b then None else held_at old q r) ≡ (if b then None else slot_of q r (slots header host past))
        by true = refl
        by false = s.slot q r

    none_if : (q r : ℕ) → held_at old q r ≡ None → (b : Bool) → (object.0 == q) ≡ b → held_at new q r ≡ None
    none_if q r none true is = rw is at (drops.at q r)
    none_if q r none false is = rw is at (drops.at q r) ∙ none

    ended_if : (q r : ℕ) (b : Bool) → (object.0 == q) ≡ b → ((host == host && object.0 == q) || is_ended host q past) ≡ true → held_at new q r ≡ None
    ended_if q r true is e = rw is at (drops.at q r)
    ended_if q r false is e = rw is at (drops.at q r) ∙ s.ended q r (rw (itself host, is) at e)

    returned_if : (q r : ℕ) → named header ≤ q → is_heard_elsewhere host q past ≡ false → (b : Bool) → (object.0 == q) ≡ b
        → ((host == host && object.0 == q) || is_ended host q past) ≡ false
        → IsHeldOf (held_at new q r) (last_return host q r (taking host object (message.Terminate control) past)) (is_lost q r past)
    returned_if q r high own true is e = absurd (false≢true (sym (rw (itself host, is) at e)))
    returned_if q r high own false is e =
        held_same _ _ _ _ _ _ (rw is at (drops.at q r)) (rw (itself host, is) refl) refl (s.returned q r high (rw (itself host, is) at e) own)

quietly : (header : Header) (host : ℕ) (object : ObjectId) (m : Message) (old new : SlotTable) (past events : List Event) → IsQuiet m
    → Same header host (taking host object m past) (events ++ taking host object m past) → new ≡ old → PagerStands header host old past
    → PagerStands header host new (events ++ taking host object m past)
quietly header host object m old new past events quiet on kept s =
    stands_same header host new new (taking host object m past) (events ++ taking host object m past) on refl
    (stands_same header host old new past (taking host object m past) (same_taken header host object.0 m past quiet) kept s)

-- these events leave all as it is
pub leaves_all : (header : Header) (host : ℕ) (events is past : List Event) → events ≡ is → Same header host past (is ++ past)
    → Same header host past (events ++ past)
leaves_all header host events is past e same = subst (λ (es : List Event). Same header host past (es ++ past)) (sym e) same

pub nothing_new : (header : Header) (host : ℕ) (past : List Event) → Same header host past past
nothing_new header host past = record { rows = refl; ended = λ q. refl; away = λ q. refl; last = λ q r. refl; lost = λ q r. refl }

pub on_sent : (header : Header) (host at : ℕ) (object : ObjectId) (control : ℕ) (m : Message) (past : List Event)
    → Same header host past (sent_to at object control m ∷ past)
on_sent header host at object control m past = record { rows = refl; ended = λ q. refl; away = λ q. refl; last = λ q r. refl; lost = λ q r. refl }

on_unread : (header : Header) (host at : ℕ) (object : ObjectId) (control : ℕ) (m : Message) (page : PageNo) (past : List Event)
    → Same header host past (sent_to at object control m ∷ device_failed Read object page ∷ past)
on_unread header host at object control m page past = record { rows = refl; ended = λ q. refl; away = λ q. refl; last = λ q r. refl; lost = λ q r. refl }

pub requested_same : (header : Header) (host size at : ℕ) (object : ObjectId) (control : ℕ) (page : PageNo) (has : Option Held) (events past : List Event)
    → RequestAnswer size at object control page has events → Same header host past (events ++ past)
requested_same header host size at object control page None events past is =
    leaves_all header host events _ past is (on_sent header host at object control _ past)
requested_same header host size at object control page (Some held.Lost) events past is =
    leaves_all header host events _ past is (on_sent header host at object control _ past)
requested_same header host size at object control page (Some (held.Torn s)) events past is =
    leaves_all header host events _ past is (on_sent header host at object control _ past)
requested_same header host size at object control page (Some (held.Kept s)) events past (inl is) =
    leaves_all header host events _ past is.2 (on_sent header host at object control _ past)
requested_same header host size at object control page (Some (held.Kept s)) events past (inr is) =
    leaves_all header host events _ past is (on_unread header host at object control _ page past)

pub stands : (header : Header) (host : ℕ) (past : List Event) (object : ObjectId) (m : Message) (old new : SlotTable) (events : List Event)
    → PagerServes header host past object m old new events → PagerStands header host new (events ++ taking host object m past)
stands header host past object m old new events serves = by m serves.answered
  where
    by : (m : Message) → PagerAnswer m object old new events → PagerStands header host new (events ++ taking host object m past)
    by (message.Init control size) a =
        quietly header host object _ old new past events tt (leaves_all header host events _ _ a.1 (on_sent header host old.host object control _ _)) a.0
        serves.stands
    by (message.Create control size) a =
        quietly header host object _ old new past events tt (leaves_all header host events _ _ a.1 (on_sent header host old.host object control _ _)) a.0
        serves.stands
    by (message.Request control page access) a =
        quietly header host object _ old new past events tt (requested_same header host old.size old.host object control page _ events _ a.1) a.0 serves.stands
    by (message.Unlock control page access) a =
        quietly header host object _ old new past events tt (leaves_all header host events _ _ a.1 (nothing_new header host _)) a.0 serves.stands
    by (message.Completed control page count) a =
        quietly header host object _ old new past events tt (leaves_all header host events _ _ a.1 (nothing_new header host _)) a.0 serves.stands
    by (message.Changed control cache strategy) a =
        quietly header host object _ old new past events tt (leaves_all header host events _ _ a.1 (nothing_new header host _)) a.0 serves.stands
    by (message.Return control page dirty keep bytes) a =
        subst (λ (es : List Event). PagerStands header host new (es ++ taking host object (message.Return control page dirty keep bytes) past)) (sym a.told)
        (stands_return header host object page control dirty keep bytes old new past (became events) serves.temporary serves.unended serves.stands a.held
        a.no_slot.0)
    by (message.Terminate control) a =
        subst (λ (es : List Event). PagerStands header host new (es ++ taking host object (message.Terminate control) past)) (sym a.1)
        (stands_end header host object control old new past serves.temporary serves.stands a.0)
    by (message.Ready cache strategy) a = elim a [ ]
    by (message.Supply page lock precious bytes) a = elim a [ ]
    by (message.Unavailable page) a = elim a [ ]
    by (message.Error page reason) a = elim a [ ]
    by (message.Lock page count returns flush lock reply) a = elim a [ ]
    by (message.Attributes cache strategy reply) a = elim a [ ]
    by (message.Destroy reason) a = elim a [ ]
