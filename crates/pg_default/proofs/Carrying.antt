-- What the slots and the backing fit, they fit behind an answer as the history says.
use Rattle.std.proofs.Common.{ℕ, ◌≡◌, ◌≤◌, ◌==◌, ◌&&◌, ◌||◌, nat_lt, Bool, true, false, List, ◌++◌, Option, Some, None, Ok, refl, sym, ◌∙◌, ap, subst, arith}
use Rattle.std.proofs.Common.{if◌then◌else◌}
use Rattle.std.proofs.lemmas.Bool.Decides.{nat_tests}
use Rattle.pg_slots.specs.Contents.{AgreesWithContent, CarriesContent, Content, IsHeldAs, Kept, Lost, Stored, after_put, content_without, same_content}
use Rattle.pg_slots.specs.Slots.{SlotTable, held_at}
use Rattle.pg_slots.specs.declared.answers.Put.{Put as PutAnswer}
use Rattle.pg_slots.specs.declared.answers.Put.TheVariants as put
use Rattle.vm_base.specs.Listing.{Listed}
use Rattle.vm_base.specs.declared.ids.ObjectId.{ObjectId}
use Rattle.vm_base.specs.declared.ids.PageNo.{PageNo}
use Rattle.vm_model.specs.declared.event.Event.{Event}
use Rattle.vm_model.specs.declared.event.Event.TheVariants as event
use Rattle.vm_model.specs.declared.event.Way.TheVariants.{Write}
use Rattle.vm_model.specs.declared.message.Message.{Message}
use Rattle.vm_model.specs.declared.message.Message.TheVariants as message
use Rattle.vm_model.specs.declared.script.Header.{Header}
use Rattle.vm_model.specs.Named.{named}
use Rattle.vm_legal.specs.Pagers.{is_lost, last_return}
use Rattle.vm_outside.specs.Areas.{Told}
use Rattle.pg_default.specs.Answers.{PagerAnswer, after_message, became, device_failed, told_of}
use Rattle.pg_default.specs.Stands.{CarriesOver, PagerServes, content_of, is_ended, stored_of, taking}
use Rattle.pg_default.proofs.Rows.{itself}
use Rattle.pg_default.proofs.Facts.{IsQuiet, Put, Same, put_kept, put_lost, same_taken}
use Rattle.pg_default.proofs.Standing.{leaves_all, nothing_new, on_sent, requested_same, tells_failed, tells_no_slot}

abbrev pub SameContent : Content → Content → Type 0
SameContent was now = (q r : ℕ) → now q r ≡ was q r

agrees_same : (slots : SlotTable) (was now : Content) → SameContent was now → AgreesWithContent slots was → AgreesWithContent slots now
agrees_same slots was now same agrees =
    record { at = λ q r. subst (λ (x : Option Stored). IsHeldAs slots.count slots.size (held_at slots q r) x) (sym (same q r)) (agrees.at q r) }

pub carries_same : (before after : List ℕ → Told) (old new : SlotTable) (change : Content → Content) (was now : Content) → SameContent (change was) now
    → CarriesContent before after old new change → CarriesOver before after old new was now
carries_same before after old new change was now same carries = record {
  agrees = λ agrees. agrees_same new (change was) now same (carries.agrees was agrees);
  fits = λ told fits.
      let f = carries.fits was told fits in
      record { agrees = agrees_same new (change was) now same f.agrees; bytes = λ o p s bytes holds is. f.bytes o p s bytes holds (sym (same o p) ∙ is) };
}

content_same : (header : Header) (host : ℕ) (past now : List Event) → Same header host past now
    → SameContent (content_of header host past) (content_of header host now)
content_same header host past now same q r = rw (same.ended q, same.last q r, same.lost q r) refl

both_same : (header : Header) (host : ℕ) (past middle now : List Event) → Same header host past middle → Same header host middle now → Same header host past now
both_same header host past middle now one two = record {
  rows = two.rows ∙ one.rows;
  ended = λ q. two.ended q ∙ one.ended q;
  away = λ q. two.away q ∙ one.away q;
  last = λ q r. two.last q r ∙ one.last q r;
  lost = λ q r. two.lost q r ∙ one.lost q r;
}

content_put : (header : Header) (host o p : ℕ) (bytes : List ℕ) (lost : Bool) (stored : Stored) (past now : List Event) → named header ≤ o
    → is_ended host o past ≡ false → Put header host o p bytes lost past now → stored_of (Some bytes) lost ≡ Some stored
    → SameContent (λ q r. if o == q && p == r then Some stored else content_of header host past q r) (content_of header host now)
content_put header host o p bytes lost stored past now temporary unended put is q r = by (o == q && p == r) refl
  where
    by : (b : Bool) → (o == q && p == r) ≡ b → content_of header host now q r ≡ (if b then Some stored else content_of header host past q r)
    by true same =
        let object_is : q ≡ o = grind (arith, nat_tests, same) in
        let high : nat_lt q (named header) ≡ false = grind (arith, nat_tests, temporary, object_is) in
        let alive : is_ended host q now ≡ false = put.ended q ∙ ap (λ (k : ℕ). is_ended host k past) object_is ∙ unended in
        let last : last_return host q r now ≡ Some bytes = rw same at (put.last q r) in
        let gone : is_lost q r now ≡ lost = rw same at (put.gone q r) in
        rw (high, alive, last, gone) is
    by false same =
        let last : last_return host q r now ≡ last_return host q r past = rw same at (put.last q r) in
        let gone : is_lost q r now ≡ is_lost q r past = rw same at (put.gone q r) in
        rw (put.ended q, last, gone) refl

content_end : (header : Header) (host : ℕ) (object : ObjectId) (control : ℕ) (past : List Event)
    → SameContent (content_without object.0 (content_of header host past)) (content_of header host (taking host object (message.Terminate control) past))
content_end header host object control past q r = rw (itself host) (by (nat_lt q (named header)) (object.0 == q) (is_ended host q past))
  where
    by : (a b c : Bool) → (if a || (b || c) then None else stored_of (if b then last_return host q r past else last_return host q r past)
        (is_lost q r past)) ≡ (if b then None else (if a || c then None else stored_of (last_return host q r past) (is_lost q r past)))
    by true true c = refl
    by true false c = refl
    by false true c = refl
    by false false c = refl

returned : (header : Header) (host : ℕ) (past : List Event) (object : ObjectId) (control : ℕ) (page : PageNo) (dirty keep : Bool) (bytes : List ℕ)
    (is : PutAnswer) → named header ≤ object.0 → is_ended host object.0 past ≡ false
    → SameContent (after_put (Ok is) object.0 page.0 bytes (content_of header host past))
    (content_of header host (told_of is object page ++ taking host object (message.Return control page dirty keep bytes) past))
returned header host past object control page dirty keep bytes put.Kept temporary unended =
    content_put header host object.0 page.0 bytes false (Kept bytes) past _ temporary unended
    (put_kept header host object.0 page.0 control dirty keep bytes past temporary) refl
returned header host past object control page dirty keep bytes put.NoSlot temporary unended =
    content_put header host object.0 page.0 bytes true Lost past _ temporary unended
    (put_lost header host object.0 page.0 control dirty keep bytes (event.NoSlot object page) past temporary (tells_no_slot object page)) refl
returned header host past object control page dirty keep bytes put.Failed temporary unended =
    content_put header host object.0 page.0 bytes true Lost past _ temporary unended
    (put_lost header host object.0 page.0 control dirty keep bytes (device_failed Write object page) past temporary (tells_failed object page)) refl

pub carries : (header : Header) (host : ℕ) (past : List Event) (object : ObjectId) (m : Message) (old new : SlotTable) (events : Listed Event)
    (before after : List ℕ → Told)
    → PagerServes header host past object m old new events.items → CarriesContent before after old new (after_message m object (Ok events))
    → CarriesOver before after old new (content_of header host past) (content_of header host (events.items ++ taking host object m past))
carries header host past object m old new events before after serves change = by m serves.answered change
  where
    quiet : (m : Message) → IsQuiet m → Same header host (taking host object m past) (events.items ++ taking host object m past)
        → CarriesContent before after old new same_content
        → CarriesOver before after old new (content_of header host past) (content_of header host (events.items ++ taking host object m past))
    quiet m is on c =
        carries_same before after old new same_content _ _ (content_same header host past _
        (both_same header host past (taking host object m past) _ (same_taken header host object.0 m past is) on)) c

    by : (m : Message) → PagerAnswer m object old new events.items → CarriesContent before after old new (after_message m object (Ok events))
        → CarriesOver before after old new (content_of header host past) (content_of header host (events.items ++ taking host object m past))
    by (message.Init control size) a c = quiet _ tt (leaves_all header host events.items _ _ a.1 (on_sent header host old.host object control _ _)) c
    by (message.Create control size) a c = quiet _ tt (leaves_all header host events.items _ _ a.1 (on_sent header host old.host object control _ _)) c
    by (message.Request control page access) a c = quiet _ tt (requested_same header host old.size old.host object control page _ events.items _ a.1) c
    by (message.Unlock control page access) a c = quiet _ tt (leaves_all header host events.items _ _ a.1 (nothing_new header host _)) c
    by (message.Completed control page count) a c = quiet _ tt (leaves_all header host events.items _ _ a.1 (nothing_new header host _)) c
    by (message.Changed control cache strategy) a c = quiet _ tt (leaves_all header host events.items _ _ a.1 (nothing_new header host _)) c
    by (message.Return control page dirty keep bytes) a c =
        carries_same before after old new (after_put (Ok (became events.items)) object.0 page.0 bytes) _ _
        (subst (λ (es : List Event). SameContent (after_put (Ok (became events.items)) object.0 page.0 bytes (content_of header host past))
        (content_of header host (es ++ taking host object (message.Return control page dirty keep bytes) past))) (sym a.told)
        (returned header host past object control page dirty keep bytes (became events.items) serves.temporary serves.unended)) c
    by (message.Terminate control) a c =
        carries_same before after old new (content_without object.0) _ _
        (subst (λ (es : List Event). SameContent (content_without object.0 (content_of header host past))
        (content_of header host (es ++ taking host object (message.Terminate control) past))) (sym a.1) (content_end header host object control past)) c
    by (message.Ready cache strategy) a c = elim a [ ]
    by (message.Supply page lock precious bytes) a c = elim a [ ]
    by (message.Unavailable page) a c = elim a [ ]
    by (message.Error page reason) a c = elim a [ ]
    by (message.Lock page count returns flush lock reply) a c = elim a [ ]
    by (message.Attributes cache strategy reply) a c = elim a [ ]
    by (message.Destroy reason) a c = elim a [ ]
