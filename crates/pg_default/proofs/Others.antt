-- The slots stand on under events in which their pager has no part.
use Rattle.std.proofs.Common.{ℕ, ◌≡◌, ◌≢◌, ◌≤◌, ◌<◌, ◌==◌, ◌&&◌, ◌||◌, ◌⊎◌, not, nat_lt, Bool, true, false, List, ◌∷◌, None, refl, sym, ◌∙◌, ap, subst, arith}
use Rattle.std.proofs.Common.{inl, inr, [], if◌then◌else◌}
use Rattle.std.proofs.lemmas.Bool.{false≢true}
use Rattle.std.proofs.lemmas.Bool.Decides.{nat_tests}
use Rattle.pg_slots.specs.Slots.{SlotTable, held_at}
use Rattle.pg_slots.specs.Contents.{same_content}
use Rattle.vm_outside.specs.Areas.{Told}
use Rattle.vm_base.specs.declared.ids.HostId.{HostId}
use Rattle.vm_base.specs.declared.ids.ObjectId.{ObjectId}
use Rattle.vm_model.specs.declared.event.Event.{Event}
use Rattle.vm_model.specs.declared.event.Event.TheVariants as event
use Rattle.vm_model.specs.declared.message.Channel.TheVariants.{Up}
use Rattle.vm_model.specs.declared.message.Message.{Message}
use Rattle.vm_model.specs.declared.message.Message.TheVariants as message
use Rattle.vm_model.specs.declared.script.Header.{Header}
use Rattle.vm_model.specs.Named.{named}
use Rattle.vm_legal.specs.Pagers.{is_lost, last_return, slot_of, slots}
use Rattle.vm_legal.specs.Steps.{is_read}
use Rattle.pg_default.specs.Stands.{CarriesOver, IsApart, IsForeign, IsOther, PagerStands, content_of, is_ended, is_heard_elsewhere, stored_of}
use Rattle.pg_default.proofs.Carrying.{SameContent, carries_same}
use Rattle.pg_default.proofs.Leaving.{carried_same}
use Rattle.pg_default.proofs.Rows.{same_if}
use Rattle.pg_default.proofs.Standing.{held_same}

-- an event that leaves the slots, and what is said of the host's own temporary objects
record Leaves (header : Header) (host : ℕ) (past now : List Event) : Type 0 where
  rows : slots header host now ≡ slots header host past
  ended : (q : ℕ) → named header ≤ q → is_ended host q now ≡ is_ended host q past
  away : (q : ℕ) → is_heard_elsewhere host q now ≡ false → is_heard_elsewhere host q past ≡ false
  last : (q r : ℕ) → named header ≤ q → last_return host q r now ≡ last_return host q r past
  lost : (q r : ℕ) → named header ≤ q → is_heard_elsewhere host q now ≡ false → is_lost q r now ≡ is_lost q r past

leaves_stands : (header : Header) (host : ℕ) (table : SlotTable) (past now : List Event) → Leaves header host past now → PagerStands header host table past
    → PagerStands header host table now
leaves_stands header host table past now l s = record {
  host_is = s.host_is;
  size = s.size;
  count = s.count;
  slot = λ q r. s.slot q r ∙ ap (slot_of q r) (sym l.rows);
  declared = s.declared;
  ended = λ q r is. ended_if q r (nat_lt q (named header)) refl is;
  returned =
      λ q r high is own. held_same _ _ _ _ _ _ refl (l.last q r high) (l.lost q r high own) (s.returned q r high (sym (l.ended q high) ∙ is) (l.away q own));
}
  where
    ended_if : (q r : ℕ) (b : Bool) → nat_lt q (named header) ≡ b → is_ended host q now ≡ true → held_at table q r ≡ None
    ended_if q r true low is = s.declared q r (grind (arith, nat_tests, low))
    ended_if q r false high is = s.ended q r (sym (l.ended q (grind (arith, nat_tests, high))) ∙ is)

or_no : (a b : Bool) → (a || b) ≡ false → b ≡ false
or_no true b is = absurd (false≢true (sym is))
or_no false b is = is

first_no : (a b : Bool) → (a || b) ≡ false → a ≡ false
first_no true b is = absurd (false≢true (sym is))
first_no false b is = refl

-- one that takes no part in the host's temporary objects
apart_taken : (header : Header) (host at object q : ℕ) → (object < named header) ⊎ (at ≢ host) → named header ≤ q → (at == host && object == q) ≡ false
apart_taken header host at object q (inl low) high = grind (arith, nat_tests, low, high)
apart_taken header host at object q (inr other) high = grind (arith, nat_tests, other)

no_object : (header : Header) (host at object q : ℕ) → (object < named header) ⊎ (at ≢ host) → named header ≤ q → (not (at == host) && object == q) ≡ false
    → (object == q) ≡ false
no_object header host at object q (inl low) high is = grind (arith, nat_tests, low, high)
no_object header host at object q (inr other) high is = let differ : (at == host) ≡ false = grind (arith, nat_tests, other) in rw differ at is

no_row : (header : Header) (host at object : ℕ) → (object < named header) ⊎ (at ≢ host) → (at == host && not (nat_lt object (named header))) ≡ false
no_row header host at object (inl low) = by (at == host)
  where
    by : (b : Bool) → (b && not (nat_lt object (named header))) ≡ false
    by true = let is : nat_lt object (named header) ≡ true = grind (arith, nat_tests, low) in rw is refl
    by false = refl
no_row header host at object (inr other) = let differ : (at == host) ≡ false = grind (arith, nat_tests, other) in rw differ refl

ended_taken : (host q : ℕ) (at : HostId) (object : ObjectId) (m : Message) (past : List Event) → (at.0 == host && object.0 == q) ≡ false
    → is_ended host q (event.Taken (Up at object) m ∷ past) ≡ is_ended host q past
ended_taken host q at object (message.Terminate control) past apart = rw apart refl
ended_taken host q at object other past apart = refl

lost_taken : (q r : ℕ) (at : HostId) (object : ObjectId) (m : Message) (past : List Event) → (object.0 == q) ≡ false
    → is_lost q r (event.Taken (Up at object) m ∷ past) ≡ is_lost q r past
lost_taken q r at object (message.Return control page dirty keep bytes) past apart = rw apart refl
lost_taken q r at object other past apart = refl

taken_leaves : (header : Header) (host : ℕ) (at : HostId) (object : ObjectId) (m : Message) (past : List Event) → (object.0 < named header) ⊎ (at.0 ≢ host)
    → Leaves header host past (event.Taken (Up at object) m ∷ past)
taken_leaves header host at object m past is = record {
  rows = rw (no_row header host at.0 object.0 is) refl;
  ended = λ q high. ended_taken host q at object m past (apart_taken header host at.0 object.0 q is high);
  away = λ q own. or_no (not (at.0 == host) && object.0 == q) (is_heard_elsewhere host q past) own;
  last = λ q r high. rw (apart_taken header host at.0 object.0 q is high) refl;
  lost =
      λ q r high own. lost_taken q r at object m past (no_object header host at.0 object.0 q is high
      (first_no (not (at.0 == host) && object.0 == q) (is_heard_elsewhere host q past) own));
}

-- a foreign object is none of the host's own
foreign : (header : Header) (host o q : ℕ) (past : List Event) → IsForeign header host o past → named header ≤ q → is_heard_elsewhere host q past ≡ false
    → (o == q) ≡ false
foreign header host o q past (inl low) high own = grind (arith, nat_tests, low, high)
foreign header host o q past (inr away) high own = by (o == q) refl
  where
    by : (b : Bool) → (o == q) ≡ b → (o == q) ≡ false
    by true is =
        let same : o ≡ q = grind (arith, nat_tests, is) in absurd (false≢true (sym own ∙ subst (λ (k : ℕ). is_heard_elsewhere host k past ≡ true) same away))
    by false is = is

and_no : (a b : Bool) → (a && (false && b)) ≡ false
and_no true b = refl
and_no false b = refl

event_leaves : (header : Header) (host : ℕ) (e : Event) (past : List Event) → IsOther header host e past → Leaves header host past (e ∷ past)
event_leaves header host (event.Taken (Up at object) m) past is = taken_leaves header host at object m past is
event_leaves header host (event.DeviceFailed who way object page) past is = record {
  rows = refl;
  ended = λ q high. refl;
  away = λ q own. own;
  last = λ q r high. refl;
  lost = λ q r high own. rw (foreign header host object.0 q past is high own, and_no (not (is_read way)) (page.0 == r)) refl;
}
event_leaves header host (event.NoSlot object page) past is = record {
  rows = refl;
  ended = λ q high. refl;
  away = λ q own. own;
  last = λ q r high. refl;
  lost = λ q r high own. rw (foreign header host object.0 q past is high own) refl;
}
event_leaves header host e past is = record { rows = refl; ended = λ q high. refl; away = λ q own. own; last = λ q r high. refl; lost = λ q r high own. refl }

pub others : (header : Header) (host : ℕ) (table : SlotTable) (e : Event) (past : List Event) → IsOther header host e past → PagerStands header host table past
    → PagerStands header host table (e ∷ past)
others header host table e past is s = leaves_stands header host table past (e ∷ past) (event_leaves header host e past is) s

content_stays : (header : Header) (host : ℕ) (past now : List Event) → Leaves header host past now → IsApart header host now
    → SameContent (content_of header host past) (content_of header host now)
content_stays header host past now l apart q r = by (nat_lt q (named header)) refl
  where
    stays : named header ≤ q → (b : Bool) → is_heard_elsewhere host q now ≡ b
        → stored_of (last_return host q r now) (is_lost q r now) ≡ stored_of (last_return host q r past) (is_lost q r past)
    stays high true away =
        let none : last_return host q r now ≡ None = apart q r high away in
        let never : last_return host q r past ≡ None = sym (l.last q r high) ∙ none in
        rw (none, never) refl
    stays high false own = rw (l.last q r high, l.lost q r high own) refl

    by : (b : Bool) → nat_lt q (named header) ≡ b → (if b || is_ended host q now then None else stored_of (last_return host q r now) (is_lost q r now)) ≡ (if b
        || is_ended host q past then None else stored_of (last_return host q r past) (is_lost q r past))
    by true low = refl
    by false is = let high : named header ≤ q = grind (arith, nat_tests, is) in rw (l.ended q high, stays high (is_heard_elsewhere host q now) refl) refl

pub others_carry : (header : Header) (host : ℕ) (table : SlotTable) (e : Event) (past : List Event) (areas : List ℕ → Told) → IsOther header host e past
    → IsApart header host (e ∷ past)
    → CarriesOver areas areas table table (content_of header host past) (content_of header host (e ∷ past))
others_carry header host table e past areas is apart =
    carries_same areas areas table table same_content _ _ (content_stays header host past (e ∷ past) (event_leaves header host e past is) apart)
    (carried_same areas table)

pub empty : (header : Header) (host o p : ℕ) → content_of header host [] o p ≡ None
empty header host o p = same_if (nat_lt o (named header) || false) None
