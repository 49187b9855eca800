-- The end of an object that is taken is of a wild object, and the pages that are asked of it are as many as are counted.
use Rattle.std.specs.Prelude.{if◌then◌else◌, map, suc, ◌&&◌, ◌+◌, ◌==◌, ◌≤◌}
use Rattle.std.proofs.lemmas.Bool.Decides.{nat_tests}
use Rattle.vm_system.proofs.Common.{Bool, Event, Header, HostId, List, Message, ObjectId, Outside, Some, [], ap, arith, false, first, is_wild, kind_of, length}
use Rattle.vm_system.proofs.Common.{never, queue, refl, subst, sym, true, ℕ, ◌∙◌, ◌∷◌, ◌≡◌}
use Rattle.vm_base.specs.declared.ids.ObjectKind.{ObjectKind}
use Rattle.vm_base.specs.declared.ids.ObjectKind.TheVariants as kinds
use Rattle.vm_kernel.specs.Destroying.{AreAsked, MayDestroy, is_destroy, occurrences}
use Rattle.vm_legal.specs.Frames.{asked_pages}
use Rattle.vm_legal.specs.Licences.{HasCause, PagerSends}
use Rattle.vm_legal.specs.Outside.{is_wild_kind}
use Rattle.vm_legal.specs.Walks.{page_on}
use Rattle.vm_model.specs.Local.{Place}
use Rattle.vm_model.specs.Moments.{EachEvent}
use Rattle.vm_model.specs.declared.command.Command.{Command}
use Rattle.vm_model.specs.declared.event.Event.TheVariants as event
use Rattle.vm_model.specs.declared.message.Channel.TheVariants.{Down}
use Rattle.vm_model.specs.declared.message.Message.TheVariants as message
use Rattle.vm_quiet.proofs.Asking.{Asking, asked_of, asking_of}
use Rattle.vm_quiet.proofs.Places.{one_if}
use Rattle.vm_quiet.specs.Places.{times}
use Rattle.vm_returned.proofs.Queued as queued

-- a place stands at least once among more of them
one_more : (b : Bool) (n : ℕ) → 1 ≤ n → 1 ≤ (if b then suc n else n)
one_more true n some = omega (arith, some)
one_more false n some = some

-- it stands there itself
itself : (o p : ℕ) (places : List Place) → 1 ≤ times o p (record { object = o; page = p } ∷ places)
itself o p places = by (o == o && p == p) (grind (arith, nat_tests))
  where
    by : (b : Bool) → b ≡ true → 1 ≤ (if b then suc (times o p places) else times o p places)
    by true is = omega (arith)
    by false is = never is

-- where all places are of one object, a page stands among their pages as often as its place among them
pages_counted : (k p : ℕ) (places : List Place) → ((o q : ℕ) → 1 ≤ times o q places → k ≡ o)
    → occurrences p (map (λ place. place.page) places) ≡ times k p places
pages_counted k p [] own = refl
pages_counted k p (x ∷ places) own =
    let rest = pages_counted k p places (λ o q some. own o q (one_more (x.object == o && x.page == q) (times o q places) some)) in
    by (x.object == k) (x.page == p) (own_object x.object (own x.object x.page (itself x.object x.page places))) rest
  where
    own_object : (o : ℕ) → k ≡ o → (o == k) ≡ true
    own_object o is = grind (arith, nat_tests, is)

    by : (mine at : Bool) → mine ≡ true → occurrences p (map (λ place. place.page) places) ≡ times k p places
        → (if at then 1 else 0) + occurrences p (map (λ place. place.page) places) ≡ (if mine && at then suc (times k p places) else times k p places)
    by true true is rest = omega (arith, rest)
    by true false is rest = omega (arith, rest)
    by false at is rest = never is

asked_one : (mine at : Bool) → mine ≡ true → one_if (mine && at) ≡ (if at then 1 else 0)
asked_one true true is = refl
asked_one true false is = refl
asked_one false at is = never is

-- only places of the object are asked of it
own_place : (mine at : Bool) (n : ℕ) → n ≡ one_if (mine && at) → 1 ≤ n → mine ≡ true
own_place true at n is some = refl
own_place false at n is some = absurd (omega (arith, is, some))

-- behind events that have their causes, as many pages of an object are asked as are counted
are_asked : (header : Header) (outside : Outside) (h o : ℕ) (past : List Event) → EachEvent (HasCause header outside) past → AreAsked header h o past
are_asked header outside h o past causes =
    let held : Asking header h o past = asking_of header outside h o past causes in
    record {
      pages = map (λ place. place.page) held.places;
      each = λ p.
          pages_counted o p held.places (λ k q some. same_number o k (own_place (o == k) (page_on header h k q past).asked (times k q held.places)
          (held.each k q)
          some))
          ∙ (held.each o p ∙ asked_one (o == o) (page_on header h o p past).asked (same o));
      count = lengths held.places ∙ held.count;
    }
  where
    same : (n : ℕ) → (n == n) ≡ true
    same n = grind (arith, nat_tests)

    same_number : (n m : ℕ) → (n == m) ≡ true → n ≡ m
    same_number n m is = grind (arith, nat_tests)

    lengths : (places : List Place) → length (map (λ place. place.page) places) ≡ length places
    lengths [] = refl
    lengths (x ∷ places) = ap suc (lengths places)

-- only the pager of a wild object sends its end

abbrev EndsWild : Header → ℕ → List Event → Message → Type 0
EndsWild header o past m = is_destroy m ≡ true → is_wild header o ≡ true

sends_wild : (kind : ObjectKind) (header : Header) (outside : Outside) (why : Command) (host object control : ℕ) (m : Message) (past : List Event)
    → PagerSends kind header outside why host object control m past → is_destroy m ≡ true → is_wild_kind kind ≡ true
sends_wild kinds.Temp header outside why host object control (message.Destroy reason) past sends is = absurd sends
sends_wild kinds.File header outside why host object control (message.Destroy reason) past sends is = absurd sends
sends_wild kinds.Shared header outside why host object control (message.Destroy reason) past sends is = absurd sends
sends_wild kinds.Wild header outside why host object control m past sends is = refl
sends_wild kind header outside why host object control m past sends is = never is

pub may_destroy : (header : Header) (outside : Outside) (host : HostId) (object : ObjectId) (control : ℕ) (m : Message) (past : List Event)
    → EachEvent (HasCause header outside) past → first (queue (Down host object control) past) ≡ Some m → is_destroy m ≡ true
    → MayDestroy header host.0 object.0 past
may_destroy header outside host object control m past causes head is =
    record {
      wild = queued.first_is (EndsWild header object.0 past) (queue (Down host object control) past) m
          (queued.queue_is header outside (Down host object control) (EndsWild header object.0) (λ e before n ends. ends) sent past causes) head is;
      asked = are_asked header outside host.0 object.0 past causes;
    }
  where
    sent : (n : Message) (before : List Event) → EachEvent (HasCause header outside) before
        → HasCause header outside (event.Sent (Down host object control) n) before
        → EndsWild header object.0 (event.Sent (Down host object control) n ∷ before) n
    sent n before caused cause ends = sends_wild (kind_of header object.0) header outside cause.0 host.0 object.0 control n before cause.1 ends
