-- The pages that a step may still give back: no event but a store adds one, and each return or drop takes one away.
use Rattle.std.proofs.Common.{ℕ, zero, suc, ◌≤◌, ◌<◌, ◌≡◌, ◌≢◌, ◌+◌, ◌++◌, Bool, true, false, List, [], ◌∷◌, arith, refl, ap, subst, sym, ◌∙◌, inl, inr}
use Rattle.std.proofs.lemmas.Bool.Decides.{nat_tests}
use Rattle.std.proofs.lemmas.List.{length-reverse}
use Rattle.std.proofs.lemmas.Option.{slice_get_past}
use Rattle.std.specs.Prelude.{◌==◌, ◌&&◌, ◌||◌, ◌⊎◌, nat_lt, not, if◌then◌else◌, reverse, Option, Some, None}
use Rattle.vm_bound.proofs.PagesInside.{later_page, raised_later}
use Rattle.vm_base.specs.Pages.{little_endian_bytes}
use Rattle.vm_base.specs.declared.ids.ObjectId.{ObjectId}
use Rattle.vm_base.specs.declared.ids.ObjectKind.TheVariants.{Temp}
use Rattle.vm_base.specs.declared.ids.PageNo.{PageNo}
use Rattle.vm_base.specs.declared.ids.TaskId.{TaskId}
use Rattle.vm_bound.proofs.Paying.{is_flushed_page, is_locked_page, one_unless, open_end, open_page, open_pages}
use Rattle.vm_bound.specs.Lines.{sum_below}
use Rattle.vm_legal.proofs.Files.{file_named}
use Rattle.vm_legal.specs.Licences as L
use Rattle.vm_legal.specs.Licences.{Created, Ended, HasCause, LockRequest, PagerSends, Reclaimed, ReturnCause, Wanted, lock_taken}
use Rattle.vm_legal.specs.Outside.{Outside, kind_in, kind_of}
use Rattle.vm_legal.specs.Steps.{Asked, Letter, absence_taken, ends_control, gives_page, since, taken_letter}
use Rattle.vm_legal.specs.Stretches.{IsInner}
use Rattle.vm_legal.specs.Walks.{page_on}
use Rattle.vm_model.specs.Channels.{down_port, queue}
use Rattle.vm_model.specs.Controls.{is_control, live_control}
use Rattle.vm_model.specs.Homes.{object_home}
use Rattle.vm_model.specs.Local.{Asks, Begins, Drops, Elsewhere, Ends, Local, LocalEffect, Moves, Place, Raises, Returns, Stores, TakesError, TakesLock}
use Rattle.vm_model.specs.Local.{TakesNothing, TakesPage, Unlocks, Zeroes, effect, is_on, local, local_after, merge_effect, sent_effect}
use Rattle.vm_model.specs.Moments.{EachEvent}
use Rattle.vm_model.specs.Named.{declared, declared_pages, named, pages_kept}
use Rattle.vm_model.specs.Regions.{backing_of, object_pages}
use Rattle.vm_model.specs.Server.{first}
use Rattle.vm_model.specs.Side.{rest}
use Rattle.vm_model.specs.Tasks.{host_of}
use Rattle.vm_model.specs.declared.command.Command.{Command}
use Rattle.vm_model.specs.declared.event.Event.{Event}
use Rattle.vm_model.specs.declared.event.Event.TheVariants as event
use Rattle.vm_model.specs.declared.message.Channel.{Channel}
use Rattle.vm_model.specs.declared.message.Channel.TheVariants.{Up, Down}
use Rattle.vm_model.specs.declared.message.Message.{Message}
use Rattle.vm_model.specs.declared.message.Message.TheVariants as message
use Rattle.vm_model.specs.declared.script.Header.{Header}
use Rattle.vm_quiet.proofs.Letters.{never}
use Rattle.vm_shared.proofs.Numbering.{Numbering, numbering}

-- Sums whose summands don't rise, sums of which one falls, and sums of which one rises.

pub sums_kept : (n : ℕ) (now was : ℕ → ℕ) → ((i : ℕ) → i < n → now i ≤ was i) → sum_below n now ≤ sum_below n was
sums_kept zero now was each = omega arith
sums_kept (suc n) now was each =
    let one = each n (omega arith) in
    let rest = sums_kept n now was (λ i less. each i (omega (arith, less))) in
    omega (arith, one, rest)

pub sum_falls : (n k : ℕ) (now was : ℕ → ℕ) → ((i : ℕ) → now i ≤ was i) → k < n → now k + 1 ≤ was k → sum_below n now + 1 ≤ sum_below n was
sum_falls zero k now was each lt falls = absurd (omega (arith, lt))
sum_falls (suc n) k now was each lt falls = by (k == n) refl (λ below. sum_falls n k now was each below falls)
  where
    by : (b : Bool) → (k == n) ≡ b → (k < n → sum_below n now + 1 ≤ sum_below n was) → now n + sum_below n now + 1 ≤ was n + sum_below n was
    by true is rest =
        let it : k ≡ n = grind (arith, nat_tests) in
        let one : now n + 1 ≤ was n = rw it at falls in
        let others = sums_kept n now was (λ i less. each i) in
        omega (arith, one, others)
    by false is rest =
        let below : k < n = grind (arith, nat_tests) in
        let one = each n in
        let others = rest below in
        omega (arith, one, others)

-- all but the one at a place are kept, and none is more than one
pub sum_rises : (n first k : ℕ) (now was : ℕ → ℕ) → ((i : ℕ) → first + i ≢ k → now i ≤ was i) → ((i : ℕ) → now i ≤ 1)
    → sum_below n now ≤ sum_below n was + 1
sum_rises zero first k now was each few = omega arith
sum_rises (suc n) first k now was each few = by (first + n == k) refl (sum_rises n first k now was each few)
  where
    by : (b : Bool) → (first + n == k) ≡ b → sum_below n now ≤ sum_below n was + 1 → now n + sum_below n now ≤ was n + sum_below n was + 1
    by true is rest =
        let it : first + n ≡ k = grind (arith, nat_tests) in
        let one = few n in
        let others = sums_kept n now was (λ i less. each i (λ same. omega (arith, same, it, less))) in
        omega (arith, one, others)
    by false is rest =
        let one = each n (λ same. (let bad : true ≡ false = grind (arith, nat_tests) in absurd (cc))) in
        omega (arith, one, rest)

pub sum_few : (n : ℕ) (f : ℕ → ℕ) → ((i : ℕ) → f i ≤ 1) → sum_below n f ≤ n
sum_few zero f each = omega arith
sum_few (suc n) f each =
    let one = each n in
    let rest = sum_few n f each in
    omega (arith, one, rest)

-- one, or none

pub at_most_one : (b : Bool) → one_unless b ≤ 1
at_most_one true = omega arith
at_most_one false = omega arith

pub ones_kept : (now was : Bool) → (was ≡ true → now ≡ true) → one_unless now ≤ one_unless was
ones_kept true was grows = omega arith
ones_kept false true grows = never (grows refl)
ones_kept false false grows = omega arith

pub one_falls : (now was : Bool) → now ≡ true → was ≡ false → one_unless now + 1 ≤ one_unless was
one_falls now was one two = rw (one, two) (omega arith)

-- what isn't so, and parts of what is

pub no_some : {A R : Type 0} {x : A} → ◌≡◌ {A = Option A} None (Some x) → R
no_some is = absurd (cc)

pub and_left : (a b : Bool) → (a && b) ≡ true → a ≡ true
and_left true b is = refl
and_left false b is = is

pub and_right : (a b : Bool) → (a && b) ≡ true → b ≡ true
and_right true b is = is
and_right false b is = never is

pub none_third : {R : Type 0} (a b : Bool) → (a && (b && false)) ≡ true → R
none_third true true is = never is
none_third true false is = never is
none_third false b is = never is

-- What begins no step.

pub since_more : (test : Event → Bool) (e : Event) (past : List Event) → IsInner e → since test (e ∷ past) ≡ (test e || since test past)
since_more test (event.Line line) past inner = absurd inner
since_more test (event.Taken channel m) past inner = absurd inner
since_more test e past inner = refl

pub letter_kept : (e : Event) (past : List Event) → IsInner e → taken_letter (e ∷ past) ≡ taken_letter past
letter_kept (event.Line line) past inner = absurd inner
letter_kept (event.Taken channel m) past inner = absurd inner
letter_kept e past inner = refl

or_right : (a b : Bool) → b ≡ true → (a || b) ≡ true
or_right true b is = refl
or_right false b is = is

or_left : (a b : Bool) → a ≡ true → (a || b) ≡ true
or_left a b is = rw is refl

-- what came since then stays, and what comes now came since then
pub since_kept : (test : Event → Bool) (e : Event) (past : List Event) → IsInner e → since test past ≡ true → since test (e ∷ past) ≡ true
since_kept test e past inner is = since_more test e past inner ∙ or_right (test e) (since test past) is

pub since_now : (test : Event → Bool) (e : Event) (past : List Event) → IsInner e → test e ≡ true → since test (e ∷ past) ≡ true
since_now test e past inner is = since_more test e past inner ∙ or_left (test e) (since test past) is

pub unless_kept : (test : Event → Bool) (e : Event) (past : List Event) → IsInner e → one_unless (since test (e ∷ past)) ≤ one_unless (since test past)
unless_kept test e past inner = ones_kept (since test (e ∷ past)) (since test past) (since_kept test e past inner)

pub unless_falls : (test : Event → Bool) (e : Event) (past : List Event) → IsInner e → test e ≡ true → since test past ≡ false
    → one_unless (since test (e ∷ past)) + 1 ≤ one_unless (since test past)
unless_falls test e past inner is none = one_falls (since test (e ∷ past)) (since test past) (since_now test e past inner is) none

-- The lock that a step took is on a declared object.

abbrev pub IsOnDeclared : Header → ℕ → Message → Type 0
IsOnDeclared header o (message.Lock page count returns flush lock reply) = o < named header
IsOnDeclared header o other = Unit {0}

abbrev pub LocksOn : Header → Channel → Message → Type 0
LocksOn header (Up host object) m = Unit {0}
LocksOn header (Down host object control) m = IsOnDeclared header object.0 m

abbrev pub LocksDeclared : Header → Option Letter → Type 0
LocksDeclared header None = Unit {0}
LocksDeclared header (Some letter) = LocksOn header letter.channel letter.message

-- what is on its way to a control, and what of that a step takes

abbrev AreOn : Header → ℕ → List Message → Type 0
AreOn header o [] = Unit {0}
AreOn header o (m ∷ q) = IsOnDeclared header o m × AreOn header o q

sent_on : (header : Header) (outside : Outside) (why : Command) (host object control : ℕ) (m : Message) (past : List Event)
    → PagerSends (kind_of header object) header outside why host object control m past → IsOnDeclared header object m
sent_on header outside why host object control (message.Lock page count returns flush lock reply) past sends = by (nat_lt object (named header)) refl sends
  where
    by : (b : Bool) → nat_lt object (named header) ≡ b
        → PagerSends (if b then kind_in (declared header object) else Temp) header outside why host object control
        (message.Lock page count returns flush lock reply) past
        → object < named header
    by true is sends = grind (arith, nat_tests)
    by false is sends = file_named header object sends.0
sent_on header outside why host object control other past sends = tt

on_end : (header : Header) (o : ℕ) (q : List Message) (m : Message) → AreOn header o q → IsOnDeclared header o m → AreOn header o (q ++ m ∷ [])
on_end header o [] m all is = (is, tt)
on_end header o (x ∷ q) m all is = (all.0, on_end header o q m all.1 is)

on_sent : (header : Header) (o : ℕ) (b : Bool) (q : List Message) (m : Message) → (b ≡ true → IsOnDeclared header o m) → AreOn header o q
    → AreOn header o (if b then q ++ m ∷ [] else q)
on_sent header o true q m is all = on_end header o q m all (is refl)
on_sent header o false q m is all = all

on_taken : (header : Header) (o : ℕ) (b : Bool) (q : List Message) → AreOn header o q → AreOn header o (if b then rest q else q)
on_taken header o true [] all = tt
on_taken header o true (m ∷ q) all = all.1
on_taken header o false q all = all

on_first : (header : Header) (o : ℕ) (q : List Message) (m : Message) → first q ≡ Some m → AreOn header o q → IsOnDeclared header o m
on_first header o [] m is all = absurd (cc)
on_first header o (x ∷ q) m is all = let same : x ≡ m = cc in subst (λ (y : Message). IsOnDeclared header o y) same all.0

queue_on : (header : Header) (outside : Outside) (past : List Event) → EachEvent (HasCause header outside) past → (h o k : ℕ)
    → AreOn header o (queue (down_port h o k) past)
queue_on header outside [] causes h o k = tt
queue_on header outside (event.Sent (Down host object control) m ∷ past) causes h o k =
    on_sent header o (host.0 == h && (object.0 == o && control == k)) (queue (down_port h o k) past) m
    (λ is. let it : object.0 ≡ o = grind (arith, nat_tests) in
    subst (λ j. IsOnDeclared header j m) it (sent_on header outside causes.0.0 host.0 object.0 control m past causes.0.1))
    (queue_on header outside past causes.1 h o k)
queue_on header outside (event.Taken (Down host object control) m ∷ past) causes h o k =
    on_taken header o (host.0 == h && (object.0 == o && control == k)) (queue (down_port h o k) past) (queue_on header outside past causes.1 h o k)
queue_on header outside (e ∷ past) causes h o k = queue_on header outside past causes.1 h o k

pub locks_declared : (header : Header) (outside : Outside) (past : List Event) → EachEvent (HasCause header outside) past
    → LocksDeclared header (taken_letter past)
locks_declared header outside [] causes = tt
locks_declared header outside (event.Line line ∷ past) causes = tt
locks_declared header outside (event.Taken (Up host object) m ∷ past) causes = tt
locks_declared header outside (event.Taken (Down host object control) m ∷ past) causes =
    on_first header object.0 (queue (down_port host.0 object.0 control) past) m causes.0.1.0
    (queue_on header outside past causes.1 host.0 object.0 control)
locks_declared header outside (e ∷ past) causes = locks_declared header outside past causes.1

-- Where no page of a declared object is changed, nor becomes precious, none opens.

abbrev pub wanted_back : Local → Bool
wanted_back page = page.dirty || page.precious

-- an event inside a step that changes none, and that the step's lock is on a declared object
pub record Keeps (header : Header) (e : Event) (past : List Event) : Type 0 where
  pub inner : IsInner e
  pub locks : LocksDeclared header (taken_letter past)
  pub clean : (h o q : ℕ) → o < named header → wanted_back (page_on header h o q past) ≡ false → wanted_back (page_on header h o q (e ∷ past)) ≡ false

shut_kept : (given given_now wanted wanted_now : Bool) → (given ≡ true → given_now ≡ true) → (wanted ≡ false → wanted_now ≡ false)
    → (given && not wanted) ≡ true → (given_now && not wanted_now) ≡ true
shut_kept true given_now false wanted_now one two is = rw (one refl, two refl) refl
shut_kept true given_now true wanted_now one two is = never is
shut_kept false given_now wanted wanted_now one two is = never is

-- a page that becomes neither
page_shut : (header : Header) (h o q : ℕ) (e : Event) (past : List Event) → IsInner e
    → (wanted_back (page_on header h o q past) ≡ false → wanted_back (page_on header h o q (e ∷ past)) ≡ false)
    → open_page header h o q (e ∷ past) ≤ open_page header h o q past
page_shut header h o q e past inner clean =
    ones_kept (since (gives_page h o q) (e ∷ past) && not (wanted_back (page_on header h o q (e ∷ past))))
    (since (gives_page h o q) past && not (wanted_back (page_on header h o q past)))
    (shut_kept (since (gives_page h o q) past) (since (gives_page h o q) (e ∷ past)) (wanted_back (page_on header h o q past))
    (wanted_back (page_on header h o q (e ∷ past))) (since_kept (gives_page h o q) e past inner) clean)

pub page_kept : (header : Header) (h o q : ℕ) (e : Event) (past : List Event) → Keeps header e past → o < named header
    → open_page header h o q (e ∷ past) ≤ open_page header h o q past
page_kept header h o q e past keeps declared = page_shut header h o q e past keeps.inner (keeps.clean h o q declared)

pub pages_stay : (header : Header) (h o first count : ℕ) (e : Event) (past : List Event) → Keeps header e past → o < named header
    → open_pages header h o first count (e ∷ past) ≤ open_pages header h o first count past
pages_stay header h o first count e past keeps declared =
    sums_kept count (λ i. open_page header h o (first + i) (e ∷ past)) (λ i. open_page header h o (first + i) past)
    (λ i less. page_kept header h o (first + i) e past keeps declared)

-- an object that isn't declared has no declared pages
no_pages : (header : Header) (o : ℕ) → named header ≤ o → declared_pages header o ≡ 0
no_pages header o above =
    let same = length-reverse header.objects.items in
    ap pages_kept (slice_get_past (reverse header.objects.items) o (omega (arith, same, above)))

pub all_stay : (header : Header) (h o : ℕ) (e : Event) (past : List Event) → Keeps header e past
    → open_pages header h o 0 (declared_pages header o) (e ∷ past) ≤ open_pages header h o 0 (declared_pages header o) past
all_stay header h o e past keeps = by (nat_lt o (named header)) refl
  where
    by : (b : Bool) → nat_lt o (named header) ≡ b
        → open_pages header h o 0 (declared_pages header o) (e ∷ past) ≤ open_pages header h o 0 (declared_pages header o) past
    by true is = pages_stay header h o 0 (declared_pages header o) e past keeps (grind (arith, nat_tests))
    by false is =
        subst (λ n. open_pages header h o 0 n (e ∷ past) ≤ open_pages header h o 0 n past)
        (sym (no_pages header o (grind (arith, nat_tests)))) (omega arith)

pub end_kept : (header : Header) (h o : ℕ) (e : Event) (past : List Event) → Keeps header e past → open_end header h o (e ∷ past) ≤ open_end header h o past
end_kept header h o e past keeps =
    let pages = all_stay header h o e past keeps in
    let rest = unless_kept (ends_control h o) e past keeps.inner in
    omega (arith, pages, rest)

-- there are no more open pages than pages

page_few : (header : Header) (h o q : ℕ) (past : List Event) → open_page header h o q past ≤ 1
page_few header h o q past = at_most_one (since (gives_page h o q) past && not (wanted_back (page_on header h o q past)))

pub pages_few : (header : Header) (h o first count : ℕ) (past : List Event) → open_pages header h o first count past ≤ count
pages_few header h o first count past =
    sum_few count (λ i. open_page header h o (first + i) past) (λ i. page_few header h o (first + i) past)

pub end_few : (header : Header) (h o : ℕ) (past : List Event) → open_end header h o past ≤ declared_pages header o + 1
end_few header h o past =
    let pages = pages_few header h o 0 (declared_pages header o) past in
    let rest = at_most_one (since (ends_control h o) past) in
    omega (arith, pages, rest)

-- A store opens one page.

elsewhere_if : (b : Bool) (size at : ℕ) (bytes : List ℕ) (was : Local) → b ≡ false → wanted_back was ≡ false
    → wanted_back (local_after size (if b then Stores at bytes else Elsewhere) was) ≡ false
elsewhere_if true size at bytes was is clean = absurd (let bad : true ≡ false = is in cc)
elsewhere_if false size at bytes was is clean = clean

other_page : (on same : Bool) (page q : ℕ) → q ≢ page → (on && (same && page == q)) ≡ false
other_page on same page q apart = grind (arith, nat_tests)

pub stored_apart : (header : Header) (h o q : ℕ) (task : TaskId) (object : ObjectId) (page : PageNo) (at size value : ℕ) (past : List Event) → q ≢ page.0
    → open_page header h o q (event.Stored task object page at size value ∷ past) ≤ open_page header h o q past
stored_apart header h o q task object page at size value past apart =
    page_shut header h o q (event.Stored task object page at size value) past tt
    (elsewhere_if (is_on h (host_of task.0 past) && (object.0 == o && page.0 == q)) header.size at (little_endian_bytes size value)
    (page_on header h o q past) (other_page (is_on h (host_of task.0 past)) (object.0 == o) page.0 q apart))

pub stored_pages : (header : Header) (h o first count : ℕ) (task : TaskId) (object : ObjectId) (page : PageNo) (at size value : ℕ) (past : List Event)
    → open_pages header h o first count (event.Stored task object page at size value ∷ past) ≤ open_pages header h o first count past + 1
stored_pages header h o first count task object page at size value past =
    let e = event.Stored task object page at size value in
    sum_rises count first page.0 (λ i. open_page header h o (first + i) (e ∷ past)) (λ i. open_page header h o (first + i) past)
    (λ i apart. stored_apart header h o (first + i) task object page at size value past apart) (λ i. page_few header h o (first + i) (e ∷ past))

-- Of what has its cause, a store alone changes a page of a declared object.

abbrev ChangesNone : LocalEffect → Type 0
ChangesNone (Raises bytes) = ⊥
ChangesNone (Stores at bytes) = ⊥
ChangesNone (Moves page) = ⊥
ChangesNone (TakesPage lock precious bytes) = ⊥
ChangesNone other = Unit {0}

still_clean : (size : ℕ) (e : LocalEffect) (was : Local) → ChangesNone e → wanted_back was ≡ false → wanted_back (local_after size e was) ≡ false
still_clean size Zeroes was c is = refl
still_clean size (Raises bytes) was c is = absurd c
still_clean size (Stores at bytes) was c is = absurd c
still_clean size Drops was c is = refl
still_clean size (Moves page) was c is = absurd c
still_clean size (Returns true) was c is = refl
still_clean size (Returns false) was c is = refl
still_clean size Asks was c is = is
still_clean size Unlocks was c is = is
still_clean size (TakesPage lock precious bytes) was c is = absurd c
still_clean size TakesNothing was c is = by was.asked
  where
    by : (b : Bool) → wanted_back (if b then record was { asked = false; absent = true } else was) ≡ false
    by true = is
    by false = is
still_clean size TakesError was c is = is
still_clean size (TakesLock lock flush) was c is = by was.here
  where
    by : (b : Bool) → wanted_back (if b then record was { lock = if flush || lock == 8 then was.lock else lock; unlocking = false } else was) ≡ false
    by true = is
    by false = is
still_clean size Begins was c is = is
still_clean size Ends was c is = is
still_clean size Elsewhere was c is = is

none_if : (b : Bool) (e : LocalEffect) → (b ≡ true → ChangesNone e) → ChangesNone (if b then e else Elsewhere)
none_if true e c = c refl
none_if false e c = tt

sent_none : (page : ℕ) (live : Option ℕ) (m : Message) → ChangesNone (sent_effect page live m)
sent_none page live (message.Terminate control) = none_if (is_control control live) Ends (λ is. tt)
sent_none page live (message.Request control at access) = none_if (at.0 == page && is_control control live) Asks (λ is. tt)
sent_none page live (message.Unlock control at access) = none_if (at.0 == page) Unlocks (λ is. tt)
sent_none page live (message.Return control at dirty keep bytes) = none_if (at.0 == page) (Returns keep) (λ is. tt)
sent_none page live other = tt

merged_leaves : (header : Header) (upper lower shift upper_pages lower_pages o q : ℕ) (others : Place → Local) → o < named header → named header ≤ upper
    → merge_effect upper lower shift upper_pages lower_pages (record { object = o; page = q }) others
    ≡ (if o == lower && nat_lt q lower_pages then Drops else Elsewhere)
merged_leaves header upper lower shift upper_pages lower_pages o q others declared above =
    let apart : (o == upper) ≡ false = grind (arith, nat_tests, declared, above) in rw apart refl

abbrev pub IsNoStore : Event → Type 0
IsNoStore (event.Stored task object page at size value) = ⊥
IsNoStore other = Unit {0}

caused_none : (header : Header) (outside : Outside) (h o q : ℕ) (e : Event) (past : List Event) → o < named header → Numbering header past
    → HasCause header outside e past → IsInner e → IsNoStore e
    → ChangesNone (effect header h (record { object = o; page = q }) (λ source. local header h source past) e past)
caused_none header outside h o q (event.Line line) past declared n c inner none = absurd inner
caused_none header outside h o q (event.Taken channel m) past declared n c inner none = absurd inner
caused_none header outside h o q (event.Stored task object page at size value) past declared n c inner none = absurd none
caused_none header outside h o q (event.CopiedPage task page object object_page target) past declared n c inner none =
    none_if (is_on h (host_of task.0 past) && (target.0 == o && page.0 == q)) (Raises (page_on header h object.0 object_page.0 past).bytes)
    (λ is. later_page header (is_on h (host_of task.0 past)) target.0 page.0 o q declared (n.fills task.0 _ c.1.filled) is)
caused_none header outside h o q (event.Raised at lower lower_page upper upper_page) past declared n c inner none =
    none_if (at.0 == h && (upper.0 == o && upper_page.0 == q)) (Raises (page_on header h lower.0 lower_page.0 past).bytes)
    (λ is. later_page header (at.0 == h) upper.0 upper_page.0 o q declared
    (raised_later header at.0 lower.0 lower_page.0 upper.0 upper_page.0 past n c.1) is)
caused_none header outside h o q (event.Merged upper lower) past declared n c inner none =
    none_if (is_on h (object_home upper.0 past)) _
    (λ is. (let leaves = merged_leaves header upper.0 lower.0 (backing_of header upper.0 past).shift (object_pages header upper.0 past)
    (object_pages header lower.0 past) o q (λ source. local header h source past) declared (n.numbered.upper upper.0 c.1.pair.backed) in
    subst (λ (effect : LocalEffect). ChangesNone effect) (sym leaves)
    (none_if (o == lower.0 && nat_lt q (object_pages header lower.0 past)) Drops (λ is. tt))))
caused_none header outside h o q (event.Zeroed at object page) past declared n c inner none =
    none_if (at.0 == h && (object.0 == o && page.0 == q)) Zeroes (λ is. tt)
caused_none header outside h o q (event.Dropped at object page) past declared n c inner none =
    none_if (at.0 == h && (object.0 == o && page.0 == q)) Drops (λ is. tt)
caused_none header outside h o q (event.Sent (Up at object) m) past declared n c inner none =
    none_if (at.0 == h && object.0 == o) (sent_effect q (live_control h o past) m) (λ is. sent_none q (live_control h o past) m)
caused_none header outside h o q (event.Sent (Down at object control) m) past declared n c inner none = tt
caused_none header outside h o q other past declared n c inner none = tt

pub caused_keeps : (header : Header) (outside : Outside) (e : Event) (past : List Event) → EachEvent (HasCause header outside) past
    → HasCause header outside e past → IsInner e → IsNoStore e → Keeps header e past
caused_keeps header outside e past causes c inner none =
    let n = numbering header outside past causes in
    record {
      inner = inner;
      locks = locks_declared header outside past causes;
      clean =
          λ h o q declared is. still_clean header.size (effect header h (record { object = o; page = q }) (λ source. local header h source past) e past)
          (page_on header h o q past) (caused_none header outside h o q e past declared n c inner none) is;
    }

-- Behind a flush, a page of a declared object that was given back isn't here: none comes there in such a step.

abbrev BringsNone : LocalEffect → Type 0
BringsNone Zeroes = ⊥
BringsNone (Raises bytes) = ⊥
BringsNone (Moves page) = ⊥
BringsNone (TakesPage lock precious bytes) = ⊥
BringsNone other = Unit {0}

still_away : (size : ℕ) (e : LocalEffect) (was : Local) → BringsNone e → was.here ≡ false → (local_after size e was).here ≡ false
still_away size Zeroes was b is = absurd b
still_away size (Raises bytes) was b is = absurd b
still_away size (Stores at bytes) was b is = is
still_away size Drops was b is = refl
still_away size (Moves page) was b is = absurd b
still_away size (Returns true) was b is = is
still_away size (Returns false) was b is = refl
still_away size Asks was b is = is
still_away size Unlocks was b is = is
still_away size (TakesPage lock precious bytes) was b is = absurd b
still_away size TakesNothing was b is = by was.asked
  where
    by : (asked : Bool) → (if asked then record was { asked = false; absent = true } else was).here ≡ false
    by true = is
    by false = is
still_away size TakesError was b is = is
still_away size (TakesLock lock flush) was b is = by was.here
  where
    by : (here : Bool) → (if here then record was { lock = if flush || lock == 8 then was.lock else lock; unlocking = false } else was).here ≡ false
    by true = is
    by false = is
still_away size Begins was b is = is
still_away size Ends was b is = is
still_away size Elsewhere was b is = is

brings_if : (b : Bool) (e : LocalEffect) → (b ≡ true → BringsNone e) → BringsNone (if b then e else Elsewhere)
brings_if true e c = c refl
brings_if false e c = tt

sent_brings : (page : ℕ) (live : Option ℕ) (m : Message) → BringsNone (sent_effect page live m)
sent_brings page live (message.Terminate control) = brings_if (is_control control live) Ends (λ is. tt)
sent_brings page live (message.Request control at access) = brings_if (at.0 == page && is_control control live) Asks (λ is. tt)
sent_brings page live (message.Unlock control at access) = brings_if (at.0 == page) Unlocks (λ is. tt)
sent_brings page live (message.Return control at dirty keep bytes) = brings_if (at.0 == page) (Returns keep) (λ is. tt)
sent_brings page live other = tt

-- a step that took a lock took no word that there is no page
no_absence : {R : Type 0} (header : Header) (past : List Event) (request : LockRequest) (asked : Asked) → lock_taken past ≡ Some request
    → absence_taken header past ≡ Some asked → R
no_absence header [] request asked locked is = no_some locked
no_absence header (event.Line line ∷ past) request asked locked is = no_some locked
no_absence header (event.Taken (Up host object) m ∷ past) request asked locked is = no_some locked
no_absence header (event.Taken (Down host object control) (message.Lock page count returns flush lock reply) ∷ past) request asked locked is = no_some is
no_absence header (event.Taken (Down host object control) m ∷ past) request asked locked is = no_some locked
no_absence header (e ∷ past) request asked locked is = no_absence header past request asked locked is

caused_brings : (header : Header) (outside : Outside) (h o q : ℕ) (e : Event) (past : List Event) (request : LockRequest) → o < named header
    → Numbering header past → HasCause header outside e past → IsInner e → lock_taken past ≡ Some request
    → BringsNone (effect header h (record { object = o; page = q }) (λ source. local header h source past) e past)
caused_brings header outside h o q (event.Line line) past request declared n c inner locked = absurd inner
caused_brings header outside h o q (event.Taken channel m) past request declared n c inner locked = absurd inner
caused_brings header outside h o q (event.Stored task object page at size value) past request declared n c inner locked =
    brings_if (is_on h (host_of task.0 past) && (object.0 == o && page.0 == q)) (Stores at (little_endian_bytes size value)) (λ is. tt)
caused_brings header outside h o q (event.CopiedPage task page object object_page target) past request declared n c inner locked =
    brings_if (is_on h (host_of task.0 past) && (target.0 == o && page.0 == q)) (Raises (page_on header h object.0 object_page.0 past).bytes)
    (λ is. later_page header (is_on h (host_of task.0 past)) target.0 page.0 o q declared (n.fills task.0 _ c.1.filled) is)
caused_brings header outside h o q (event.Raised at lower lower_page upper upper_page) past request declared n c inner locked =
    brings_if (at.0 == h && (upper.0 == o && upper_page.0 == q)) (Raises (page_on header h lower.0 lower_page.0 past).bytes)
    (λ is. later_page header (at.0 == h) upper.0 upper_page.0 o q declared
    (raised_later header at.0 lower.0 lower_page.0 upper.0 upper_page.0 past n c.1) is)
caused_brings header outside h o q (event.Merged upper lower) past request declared n c inner locked =
    brings_if (is_on h (object_home upper.0 past)) _
    (λ is. (let leaves = merged_leaves header upper.0 lower.0 (backing_of header upper.0 past).shift (object_pages header upper.0 past)
    (object_pages header lower.0 past) o q (λ source. local header h source past) declared (n.numbered.upper upper.0 c.1.pair.backed) in
    subst (λ (effect : LocalEffect). BringsNone effect) (sym leaves)
    (brings_if (o == lower.0 && nat_lt q (object_pages header lower.0 past)) Drops (λ is. tt))))
caused_brings header outside h o q (event.Zeroed at object page) past request declared n c inner locked = by c.1
  where
    by : L.Fills header at.0 object.0 page.0 past ⊎ L.Bottoms header at.0 object.0 page.0 past
        → BringsNone (if at.0 == h && (object.0 == o && page.0 == q) then Zeroes else Elsewhere)
    by (inl fills) = no_absence header past request _ locked fills.void
    by (inr bottoms) =
        brings_if (at.0 == h && (object.0 == o && page.0 == q)) Zeroes (later_page header (at.0 == h) object.0 page.0 o q declared bottoms.temporary)
caused_brings header outside h o q (event.Dropped at object page) past request declared n c inner locked =
    brings_if (at.0 == h && (object.0 == o && page.0 == q)) Drops (λ is. tt)
caused_brings header outside h o q (event.Sent (Up at object) m) past request declared n c inner locked =
    brings_if (at.0 == h && object.0 == o) (sent_effect q (live_control h o past) m) (λ is. sent_brings q (live_control h o past) m)
caused_brings header outside h o q (event.Sent (Down at object control) m) past request declared n c inner locked = tt
caused_brings header outside h o q other past request declared n c inner locked = tt

-- what gives it back takes it away

flush_is : (h o q : ℕ) (taken : Option LockRequest) (request : LockRequest) → taken ≡ Some request → is_flushed_page h o q taken ≡ true
    → request.flush ≡ true
flush_is h o q taken request is flushed =
    and_left request.flush (is_locked_page h o q (Some request)) (subst (λ (t : Option LockRequest). is_flushed_page h o q t ≡ true) is flushed)

unkept : (header : Header) (doing : Command) (h o q host object page : ℕ) (keep : Bool) (past : List Event)
    → ReturnCause header doing host object page keep past → is_flushed_page h o q (lock_taken past) ≡ true → keep ≡ false
unkept header doing h o q host object page keep past (Reclaimed gone why) flushed = gone
unkept header doing h o q host object page keep past (Created number size before is gone why) flushed = gone
unkept header doing h o q host object page keep past (Wanted returns flush locked back kept) flushed =
    kept ∙ ap (λ b. not b) (flush_is h o q (lock_taken past) _ locked.taken flushed)
unkept header doing h o q host object page keep past (Ended gone declared unheld) flushed = gone

dropped_away : (b : Bool) (size : ℕ) (was : Local) → b ≡ true → (local_after size (if b then Drops else Elsewhere) was).here ≡ false
dropped_away true size was is = refl
dropped_away false size was is = never is

returned_away : (a b c keep : Bool) (size : ℕ) (was : Local) → (a && (b && c)) ≡ true → keep ≡ false
    → (local_after size (if a && b then (if c then Returns keep else Elsewhere) else Elsewhere) was).here ≡ false
returned_away true true true true size was is gone = absurd (let bad : true ≡ false = gone in cc)
returned_away true true true false size was is gone = refl
returned_away true true false keep size was is gone = never is
returned_away true false c keep size was is gone = never is
returned_away false b c keep size was is gone = never is

given_away : (header : Header) (outside : Outside) (h o q : ℕ) (e : Event) (past : List Event) → HasCause header outside e past
    → is_flushed_page h o q (lock_taken past) ≡ true → gives_page h o q e ≡ true → (page_on header h o q (e ∷ past)).here ≡ false
given_away header outside h o q (event.Dropped at object page) past c flushed gives =
    dropped_away (at.0 == h && (object.0 == o && page.0 == q)) header.size (page_on header h o q past) gives
given_away header outside h o q (event.Sent (Up at object) (message.Return control page dirty keep bytes)) past c flushed gives =
    returned_away (at.0 == h) (object.0 == o) (page.0 == q) keep header.size (page_on header h o q past) gives
    (unkept header c.0 h o q at.0 object.0 page.0 keep past c.1.why flushed)
given_away header outside h o q (event.Sent (Up at object) m) past c flushed gives = none_third (at.0 == h) (object.0 == o) gives
given_away header outside h o q (event.Sent (Down at object control) m) past c flushed gives = never gives
given_away header outside h o q e past c flushed gives = never gives

away_next : (header : Header) (outside : Outside) (h o q : ℕ) (e : Event) (past : List Event) → o < named header → Numbering header past
    → HasCause header outside e past → IsInner e → is_flushed_page h o q (lock_taken past) ≡ true
    → (since (gives_page h o q) past ≡ true → (page_on header h o q past).here ≡ false) → (gives_page h o q e || since (gives_page h o q) past) ≡ true
    → (page_on header h o q (e ∷ past)).here ≡ false
away_next header outside h o q e past declared n c inner flushed was given = by (gives_page h o q e) refl given
  where
    locked : (taken : Option LockRequest) → lock_taken past ≡ taken → is_flushed_page h o q taken ≡ true
        → BringsNone (effect header h (record { object = o; page = q }) (λ source. local header h source past) e past)
    locked None is flush = never flush
    locked (Some request) is flush = caused_brings header outside h o q e past request declared n c inner is

    by : (b : Bool) → gives_page h o q e ≡ b → (b || since (gives_page h o q) past) ≡ true → (page_on header h o q (e ∷ past)).here ≡ false
    by true is given = given_away header outside h o q e past c flushed is
    by false is given =
        still_away header.size (effect header h (record { object = o; page = q }) (λ source. local header h source past) e past) (page_on header h o q past)
        (locked (lock_taken past) refl flushed) (was given)

pub flushed_away : (header : Header) (outside : Outside) (past : List Event) → EachEvent (HasCause header outside) past → (h o q : ℕ) → o < named header
    → is_flushed_page h o q (lock_taken past) ≡ true → since (gives_page h o q) past ≡ true → (page_on header h o q past).here ≡ false
flushed_away header outside [] causes h o q declared flushed given = never given
flushed_away header outside (event.Line line ∷ past) causes h o q declared flushed given = never given
flushed_away header outside (event.Taken channel m ∷ past) causes h o q declared flushed given = never given
flushed_away header outside (e ∷ past) causes h o q declared flushed given =
    away_next header outside h o q e past declared (numbering header outside past causes.1) causes.0 tt flushed
    (flushed_away header outside past causes.1 h o q declared flushed) given
