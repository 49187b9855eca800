-- What each event of a history makes of the lines' weight.
use Rattle.std.proofs.Common.{ℕ, zero, suc, ◌≡◌, ◌+◌, ◌<◌, ◌≤◌, ◌==◌, ◌∙◌, Bool, true, false, List, [], ◌∷◌, Option, Some, None, ap, arith, refl, subst, sym}
use Rattle.std.proofs.Common.{if◌then◌else◌, replicate, ◌%◌}
use Rattle.std.proofs.lemmas.Bool.Decides.{nat_tests}
use Rattle.std.specs.Prelude.{◌&&◌}
use native.Mathlib.Decide.{ℕ_discrete}
use Rattle.vm_base.specs.declared.ids.HostId.{HostId}
use Rattle.vm_base.specs.declared.ids.ObjectId.{ObjectId}
use Rattle.vm_bound.proofs.LineActs.{AllHeard, HeardOn, page_pays, sent, taken}
use Rattle.vm_bound.proofs.Paying.{joins, replies, served}
use Rattle.vm_bound.specs.Letters.{host_count, wish_weight}
use Rattle.vm_bound.specs.Lines.{lines, page_line, sum_below}
use Rattle.vm_bound.specs.Settles.{IsOnHosts}
use Rattle.vm_legal.specs.Bytes.{OwnBytes}
use Rattle.vm_legal.specs.Licences.{HasCause, ServerSends}
use Rattle.vm_legal.specs.Outside.{Outside, is_shared, kind_of}
use Rattle.vm_model.specs.Moments.{EachEvent}
use Rattle.vm_model.specs.Named.{declared_pages, named}
use Rattle.vm_model.specs.PageLicences.{RecallRow, ReplyCause, SupplyRow, UpgradeRow}
use Rattle.vm_model.specs.PagePart.{page_part}
use Rattle.vm_model.specs.Server.{Wanting, first, line}
use Rattle.vm_model.specs.Side.{side}
use Rattle.vm_model.specs.TaskPlace.{means_page, task_host}
use Rattle.vm_model.specs.Words.{Act, ActEffect, Begins, Copies, Drops, EndsCopy, Fails, Loads, Nothing, Puts, SentDown, StepBegins, Stores}
use Rattle.vm_model.specs.Words.{Asking, Doing, DownWord, Locking, OtherDown, OtherUp, Returning, Supplying, TakenUp, TakesDown, Unlocking, UpWord}
use Rattle.vm_model.specs.Words.{act_of, down_word, in_range, sent_act_effect, up_word}
use Rattle.vm_model.specs.declared.event.Event.{Event}
use Rattle.vm_model.specs.declared.event.Event.TheVariants as event
use Rattle.vm_model.specs.declared.message.Channel.TheVariants.{Up, Down}
use Rattle.vm_model.specs.declared.message.Message.{Message}
use Rattle.vm_model.specs.declared.message.Message.TheVariants as message
use Rattle.vm_model.specs.declared.script.Header.{Header}
use Rattle.vm_shared.proofs.Causes.{licensed}
use Rattle.vm_shared.proofs.Declared.{shared_declared}
use Rattle.vm_shared.proofs.Servers.{shared_sends}

-- Sums.

pub sum_less : (n : ℕ) (f g : ℕ → ℕ) → ((i : ℕ) → f i ≤ g i) → sum_below n f ≤ sum_below n g
sum_less zero f g each = omega arith
sum_less (suc n) f g each =
    let one = each n in
    let rest = sum_less n f g each in
    omega (arith, one, rest)

pub sum_same : (n : ℕ) (f g : ℕ → ℕ) → ((i : ℕ) → f i ≡ g i) → sum_below n f ≡ sum_below n g
sum_same zero f g each = refl
sum_same (suc n) f g each =
    let one = each n in
    let rest = sum_same n f g each in
    omega (arith, one, rest)

pub sum_both : (n : ℕ) (f g : ℕ → ℕ) → sum_below n (λ i. f i + g i) ≡ sum_below n f + sum_below n g
sum_both zero f g = refl
sum_both (suc n) f g = let rest = sum_both n f g in omega (arith, rest)

-- one of them is at most the sum
pub sum_at : (n : ℕ) (f : ℕ → ℕ) (i : ℕ) → i < n → f i ≤ sum_below n f
sum_at zero f i small = absurd (omega (arith, small))
sum_at (suc n) f i small = elim (ℕ_discrete i n) [
  | yes is ↦ let same : f i ≡ f n = ap f is in omega (arith, same)
  | no isnt ↦ let rest = sum_at n f i (omega (arith, small, isnt)) in omega (arith, rest)
]

pub sum_none : (n : ℕ) (f : ℕ → ℕ) → ((i : ℕ) → i < n → f i ≡ 0) → sum_below n f ≡ 0
sum_none zero f none = refl
sum_none (suc n) f none =
    let one = none n (omega arith) in
    let rest = sum_none n f (λ i small. none i (omega (arith, small))) in
    omega (arith, one, rest)

-- the sum is at most the one of them that isn't nothing
pub sum_one : (n : ℕ) (f : ℕ → ℕ) (i k : ℕ) → f i ≤ k → ((j : ℕ) → (i ≡ j → ⊥) → f j ≡ 0) → sum_below n f ≤ k
sum_one zero f i k few none = omega arith
sum_one (suc n) f i k few none = elim (ℕ_discrete i n) [
  | yes is ↦
      let same : f i ≡ f n = ap f is in
      let rest = sum_none n f (λ j small. none j (λ e. absurd (omega (arith, small, sym e, sym is)))) in
      omega (arith, same, few, rest)
  | no isnt ↦
      let one = none n isnt in
      let rest = sum_one n f i k few none in
      omega (arith, one, rest)
]

-- the sum over the pages of shared objects
abbrev over_pages : Header → (ℕ → ℕ → ℕ) → ℕ
over_pages header f =
    sum_below (named header) (λ object. if is_shared header object then sum_below (declared_pages header object) (λ page. f object page) else 0)

pages_less : (header : Header) (f g : ℕ → ℕ → ℕ) → ((o p : ℕ) → is_shared header o ≡ true → f o p ≤ g o p) → over_pages header f ≤ over_pages header g
pages_less header f g each = sum_less (named header) _ _ (λ o. by o (is_shared header o) (each o))
  where
    by : (o : ℕ) (b : Bool) → ((p : ℕ) → b ≡ true → f o p ≤ g o p) → (if b then sum_below (declared_pages header o) (λ p. f o p) else 0)
        ≤ (if b then sum_below (declared_pages header o) (λ p. g o p) else 0)
    by o true its = sum_less (declared_pages header o) (λ p. f o p) (λ p. g o p) (λ p. its p refl)
    by o false its = omega arith

pages_both : (header : Header) (f g : ℕ → ℕ → ℕ) → over_pages header (λ o p. f o p + g o p) ≡ over_pages header f + over_pages header g
pages_both header f g =
    sum_same (named header) _ _ (λ o. by o (is_shared header o))
    ∙ sum_both (named header) (λ o. if is_shared header o then sum_below (declared_pages header o) (λ p. f o p) else 0)
    (λ o. if is_shared header o then sum_below (declared_pages header o) (λ p. g o p) else 0)
  where
    by : (o : ℕ) (b : Bool) → (if b then sum_below (declared_pages header o) (λ p. f o p + g o p) else 0)
        ≡ (if b then sum_below (declared_pages header o) (λ p. f o p) else 0) + (if b then sum_below (declared_pages header o) (λ p. g o p) else 0)
    by o true = sum_both (declared_pages header o) (λ p. f o p) (λ p. g o p)
    by o false = refl

pages_at : (header : Header) (f : ℕ → ℕ → ℕ) (o p : ℕ) → is_shared header o ≡ true → p < declared_pages header o → f o p ≤ over_pages header f
pages_at header f o p shared small =
    let page = sum_at (declared_pages header o) (λ q. f o q) p small in
    let object = sum_at (named header) (λ i. if is_shared header i then sum_below (declared_pages header i) (λ q. f i q) else 0) o
    (shared_declared header o shared) in
    let all = by (is_shared header o) shared object in
    omega (arith, page, all)
  where
    by : (b : Bool) → b ≡ true → (if b then sum_below (declared_pages header o) (λ q. f o q) else 0) ≤ over_pages header f
        → sum_below (declared_pages header o) (λ q. f o q) ≤ over_pages header f
    by true is le = le
    by false is le = absurd (let bad : false ≡ true = is in cc)

-- it is at most what one page has, where no other has any
pages_one : (header : Header) (f : ℕ → ℕ → ℕ) (o p k : ℕ) → ((i j : ℕ) → is_shared header i ≡ true → f i j ≤ (if o == i && p == j then k else 0))
    → over_pages header f ≤ k
pages_one header f o p k each =
    sum_one (named header) (λ i. if is_shared header i then sum_below (declared_pages header i) (λ j. f i j) else 0) o k
    (own (is_shared header o) (each o)) (λ i isnt. other i isnt (is_shared header i) (each i))
  where
    same_page : (o i p j k m : ℕ) → m ≤ (if o == i && p == j then k else 0) → m ≤ k
    same_page o i p j k m le = grind (arith, nat_tests)

    other_page : (o i p j k m : ℕ) → (p ≡ j → ⊥) → m ≤ (if o == i && p == j then k else 0) → m ≡ 0
    other_page o i p j k m isnt le = grind (arith, nat_tests)

    other_object : (o i p j k m : ℕ) → (o ≡ i → ⊥) → m ≤ (if o == i && p == j then k else 0) → m ≡ 0
    other_object o i p j k m isnt le = grind (arith, nat_tests)

    own : (b : Bool) → ((j : ℕ) → b ≡ true → f o j ≤ (if o == o && p == j then k else 0))
        → (if b then sum_below (declared_pages header o) (λ j. f o j) else 0) ≤ k
    own true its =
        sum_one (declared_pages header o) (λ j. f o j) p k (same_page o o p p k (f o p) (its p refl))
        (λ j isnt. other_page o o p j k (f o j) isnt (its j refl))
    own false its = omega arith

    other : (i : ℕ) → (o ≡ i → ⊥) → (b : Bool) → ((j : ℕ) → b ≡ true → f i j ≤ (if o == i && p == j then k else 0))
        → (if b then sum_below (declared_pages header i) (λ j. f i j) else 0) ≡ 0
    other i isnt true its = sum_none (declared_pages header i) (λ j. f i j) (λ j small. other_object o i p j k (f i j) isnt (its j refl))
    other i isnt false its = refl

-- What an event is to a page.

abbrev act_at : Header → ℕ → ℕ → Event → List Event → Act
act_at header o p e past =
    act_of header.size o p (λ task. task_host task past) (λ task address. means_page header.size o p task address past)
    (λ host object page. (side host (page_part header.size object page past)).bytes) e

-- the server takes a message
abbrev IsTaken : Event → Type 0
IsTaken (event.Taken (Up host object) m) = Unit {0}
IsTaken e = ⊥

abbrev IsUntaken : ActEffect → Type 0
IsUntaken (TakenUp word) = ⊥
IsUntaken e = Unit {0}

untaken_if : (b : Bool) (e f : ActEffect) → IsUntaken e → IsUntaken f → IsUntaken (if b then e else f)
untaken_if true e f one two = one
untaken_if false e f one two = two

untaken_sent : (p : ℕ) (m : Message) → IsUntaken (sent_act_effect p m)
untaken_sent p (message.Init control size) = tt
untaken_sent p (message.Create control size) = tt
untaken_sent p m = tt

-- no other event is a taking of the server's to a page
untaken_at : (header : Header) (o p : ℕ) (e : Event) (past : List Event) → (IsTaken e → ⊥) → IsUntaken (act_at header o p e past).effect
untaken_at header o p (event.Sent (Up host object) m) past isnt = untaken_if (object.0 == o) (sent_act_effect p m) Nothing (untaken_sent p m) tt
untaken_at header o p (event.Sent (Down host object control) m) past isnt = untaken_if (object.0 == o) (SentDown control (down_word p m)) Nothing tt tt
untaken_at header o p (event.Taken (Up host object) m) past isnt = absurd (isnt tt)
untaken_at header o p (event.Taken (Down host object control) m) past isnt = untaken_if (object.0 == o) (TakesDown control (down_word p m)) StepBegins tt tt
untaken_at header o p (event.Dropped host object page) past isnt = untaken_if (object.0 == o && page.0 == p) Drops Nothing tt tt
untaken_at header o p (event.Zeroed host object page) past isnt =
    untaken_if (object.0 == o && page.0 == p) (Puts (replicate header.size 0) false) Nothing tt tt
untaken_at header o p (event.Raised host lower lower_page upper upper_page) past isnt =
    untaken_if (upper.0 == o && upper_page.0 == p) (Puts (side host.0 (page_part header.size lower.0 lower_page.0 past)).bytes true) Nothing tt tt
untaken_at header o p (event.BegunCopy task address bytes to) past isnt = tt
untaken_at header o p (event.CopiedPage task page object object_page target) past isnt =
    untaken_if (target.0 == o && page.0 == p) (Puts (side (task_host task.0 past) (page_part header.size object.0 object_page.0 past)).bytes true)
    (if object.0 == o && object_page.0 == p then Copies task.0 else Nothing) tt
    (untaken_if (object.0 == o && object_page.0 == p) (Copies task.0) Nothing tt tt)
untaken_at header o p (event.CopyEnded task) past isnt = tt
untaken_at header o p (event.BegunLoad task address bytes) past isnt =
    untaken_if (means_page header.size o p task.0 address past) (Begins task.0 false (address % header.size) bytes 0) Nothing tt tt
untaken_at header o p (event.BegunStore task address bytes value) past isnt =
    untaken_if (means_page header.size o p task.0 address past) (Begins task.0 true (address % header.size) bytes value) Nothing tt tt
untaken_at header o p (event.Loaded task object page value) past isnt = untaken_if (object.0 == o && page.0 == p) (Loads task.0 value) Nothing tt tt
untaken_at header o p (event.Stored task object page at bytes value) past isnt =
    untaken_if (object.0 == o && page.0 == p) (Stores task.0 at bytes value) Nothing tt tt
untaken_at header o p (event.Failed task object page) past isnt = untaken_if (object.0 == o && page.0 == p) (Fails task.0) (EndsCopy task.0) tt tt
untaken_at header o p e past isnt = tt

heard_untaken : (hosts h : ℕ) (e : ActEffect) → IsUntaken e → HeardOn hosts h e
heard_untaken hosts h (TakenUp word) isnt = absurd isnt
heard_untaken hosts h e isnt = tt

heard_if : (hosts h : ℕ) (b : Bool) (e f : ActEffect) → HeardOn hosts h e → HeardOn hosts h f → HeardOn hosts h (if b then e else f)
heard_if hosts h true e f one two = one
heard_if hosts h false e f one two = two

heard_at : (header : Header) (o p : ℕ) (e : Event) (past : List Event) → IsOnHosts header e past
    → HeardOn (host_count header) (act_at header o p e past).host (act_at header o p e past).effect
heard_at header o p (event.Taken (Up host object) m) past on =
    heard_if (host_count header) host.0 (object.0 == o) (TakenUp (up_word p m)) StepBegins on tt
heard_at header o p e past on =
    heard_untaken (host_count header) (act_at header o p e past).host (act_at header o p e past).effect (untaken_at header o p e past (λ is. is))

all_heard : (header : Header) (o p : ℕ) (past : List Event) → EachEvent (IsOnHosts header) past
    → AllHeard (host_count header) (page_part header.size o p past)
all_heard header o p [] on = tt
all_heard header o p (e ∷ past) on = (heard_at header o p e past on.0, all_heard header o p past on.1)

-- What the lines gain.

abbrev gained : Header → Event → List Event → ℕ → ℕ → ℕ
gained header e past o p = taken (host_count header) (act_at header o p e past).effect

-- nothing, where no page gains
pages_none : (header : Header) (f : ℕ → ℕ → ℕ) → ((o p : ℕ) → f o p ≡ 0) → over_pages header f ≤ 0
pages_none header f none = pages_one header f 0 0 0 (λ i j shared. by (0 == i && 0 == j) (f i j) (none i j))
  where
    by : (b : Bool) (m : ℕ) → m ≡ 0 → m ≤ (if b then 0 else 0)
    by true m is = omega (arith, is)
    by false m is = omega (arith, is)

taken_none : (hosts : ℕ) (e : ActEffect) → IsUntaken e → taken hosts e ≡ 0
taken_none hosts (TakenUp word) isnt = absurd isnt
taken_none hosts e isnt = refl

untaken_gains : (header : Header) (e : Event) (past : List Event) → (IsTaken e → ⊥) → over_pages header (gained header e past) ≤ 0
untaken_gains header e past isnt =
    pages_none header (gained header e past) (λ o p. taken_none (host_count header) (act_at header o p e past).effect (untaken_at header o p e past isnt))

-- a message of no page, or one by which nobody joins
word_gains : (header : Header) (host : HostId) (object : ObjectId) (m : Message) (past : List Event)
    → ((q : ℕ) → taken (host_count header) (TakenUp (up_word q m)) ≡ 0)
    → over_pages header (gained header (event.Taken (Up host object) m) past) ≤ 0
word_gains header host object m past none = pages_none header (gained header (event.Taken (Up host object) m) past) (λ o p. by (object.0 == o) p)
  where
    by : (b : Bool) (p : ℕ) → taken (host_count header) (if b then TakenUp (up_word p m) else StepBegins) ≡ 0
    by true p = none p
    by false p = refl

wish_at : (header : Header) (hosts o i q j : ℕ) (word : UpWord) → is_shared header i ≡ true → taken hosts (TakenUp word) ≤ wish_weight hosts
    → taken hosts (if o == i then TakenUp (if q == j then word else OtherUp) else StepBegins)
    ≤ (if o == i && q == j then (if is_shared header o then wish_weight hosts else 0) else 0)
wish_at header hosts o i q j word shared few =
    by (o == i) (q == j) (is_shared header o) (λ is. subst (λ k. is_shared header k ≡ true) (sym (number o i is)) shared)
  where
    number : (o i : ℕ) → (o == i) ≡ true → o ≡ i
    number o i is = grind (arith, nat_tests)

    by : (b c its : Bool) → (b ≡ true → its ≡ true) → taken hosts (if b then TakenUp (if c then word else OtherUp) else StepBegins)
        ≤ (if b && c then (if its then wish_weight hosts else 0) else 0)
    by false c its is = omega arith
    by true false its is = omega arith
    by true true true is = few
    by true true false is = absurd (let bad : false ≡ true = is refl in cc)

-- a request or an unlock joins one page's line
wish_gains : (header : Header) (host : HostId) (object : ObjectId) (m : Message) (q : ℕ) (word : UpWord) (past : List Event)
    → ((j : ℕ) → up_word j m ≡ (if q == j then word else OtherUp)) → taken (host_count header) (TakenUp word) ≤ wish_weight (host_count header)
    → over_pages header (gained header (event.Taken (Up host object) m) past) ≤ (if is_shared header object.0 then wish_weight (host_count header) else 0)
wish_gains header host object m q word past is few =
    pages_one header (gained header (event.Taken (Up host object) m) past) object.0 q
    (if is_shared header object.0 then wish_weight (host_count header) else 0)
    (λ i j shared.
    subst (λ (w : UpWord). taken (host_count header) (if object.0 == i then TakenUp w else StepBegins)
    ≤ (if object.0 == i && q == j then (if is_shared header object.0 then wish_weight (host_count header) else 0) else 0)) (sym (is j))
    (wish_at header (host_count header) object.0 i q j word shared few))

word_if : (hosts : ℕ) (b : Bool) (word : UpWord) → taken hosts (TakenUp word) ≡ 0 → taken hosts (TakenUp (if b then word else OtherUp)) ≡ 0
word_if hosts true word none = none
word_if hosts false word none = refl

gains : (header : Header) (e : Event) (past : List Event) → over_pages header (gained header e past) ≤ joins header e
gains header (event.Taken (Up host object) (message.Request control page access)) past =
    wish_gains header host object (message.Request control page access) page.0 (Asking control access) past (λ j. refl) (omega arith)
gains header (event.Taken (Up host object) (message.Unlock control page access)) past =
    wish_gains header host object (message.Unlock control page access) page.0 (Unlocking access) past (λ j. refl) (omega arith)
gains header (event.Taken (Up host object) (message.Return control page dirty keep bytes)) past =
    word_gains header host object (message.Return control page dirty keep bytes) past
    (λ q. word_if (host_count header) (page.0 == q) (Returning dirty keep bytes) refl)
gains header (event.Taken (Up host object) (message.Completed control page count)) past =
    word_gains header host object (message.Completed control page count) past
    (λ q. word_if (host_count header) (in_range q page.0 count) (Doing control count) refl)
gains header (event.Taken (Up host object) (message.Terminate control)) past = word_gains header host object (message.Terminate control) past (λ q. refl)
gains header (event.Taken (Up host object) m) past = word_gains header host object m past (λ q. refl)
gains header (event.Taken (Down host object control) m) past = untaken_gains header (event.Taken (Down host object control) m) past (λ is. is)
gains header e past = untaken_gains header e past (λ is. is)

-- What they lose.

abbrev lost : Header → Event → List Event → ℕ → ℕ → ℕ
lost header e past o p = sent (act_at header o p e past).effect

-- each front is one of a declared page
abbrev FrontsInside : Header → List Event → Type 0
FrontsInside header past =
    (o p : ℕ) (w : Wanting) → is_shared header o ≡ true → first (line (page_part header.size o p past)) ≡ Some w → p < declared_pages header o

front_of : (A : Type 0) (ws : List Wanting) → (first ws ≡ None → ⊥) → ((w : Wanting) → first ws ≡ Some w → A) → A
front_of A [] some its = absurd (some refl)
front_of A (w ∷ ws) some its = its w refl

supply_some : (h lock : ℕ) (past : List Act) (front : Option Wanting) → SupplyRow h lock past front → front ≡ None → ⊥
supply_some h lock past None row is = row
supply_some h lock past (Some w) row is = let bad : Some w ≡ None = is in absurd (cc)

upgrade_some : (h : ℕ) (front : Option Wanting) → UpgradeRow h front → front ≡ None → ⊥
upgrade_some h None row is = row
upgrade_some h (Some w) row is = let bad : Some w ≡ None = is in absurd (cc)

recall_some : (h : ℕ) (flush : Bool) (lock holds : ℕ) (front : Option Wanting) → RecallRow h flush lock holds front → front ≡ None → ⊥
recall_some h true lock holds None row is = row
recall_some h false lock holds None row is = row
recall_some h flush lock holds (Some w) row is = let bad : Some w ≡ None = is in absurd (cc)

lock_some : (size h control count returns : ℕ) (flush : Bool) (lock : ℕ) (reply : Bool) (past : List Act)
    → ReplyCause size h control (Locking count returns flush lock reply) past → first (line past) ≡ None → ⊥
lock_some size h control count returns flush lock true past c = recall_some h flush lock (side h past).holds (first (line past)) c.5
lock_some size h control count returns flush lock false past c = upgrade_some h (first (line past)) c.7

lock_one : (size h control count returns : ℕ) (flush : Bool) (lock : ℕ) (reply : Bool) (past : List Act)
    → ReplyCause size h control (Locking count returns flush lock reply) past → count ≡ 1
lock_one size h control count returns flush lock true past c = c.1
lock_one size h control count returns flush lock false past c = c.1

-- what is sent of a page is paid by its line
page_loses : (header : Header) (host : HostId) (object : ObjectId) (control : ℕ) (m : Message) (past : List Event) (q : ℕ) (word : DownWord)
    → is_shared header object.0 ≡ true → FrontsInside header past → (first (line (page_part header.size object.0 q past)) ≡ None → ⊥)
    → down_word q m ≡ word
    → sent (SentDown control word) ≤ over_pages header (lost header (event.Sent (Down host object control) m) past)
page_loses header host object control m past q word shared inside some is =
    let small = front_of (q < declared_pages header object.0) (line (page_part header.size object.0 q past)) some
    (λ w front. inside object.0 q w shared front) in
    let paid = pages_at header (lost header (event.Sent (Down host object control) m) past) object.0 q shared small in
    let same = by (object.0 == object.0) (itself object.0) in
    omega (arith, paid, same)
  where
    itself : (o : ℕ) → (o == o) ≡ true
    itself o = grind (arith, nat_tests)

    by : (b : Bool) → b ≡ true → sent (if b then SentDown control (down_word q m) else Nothing) ≡ sent (SentDown control word)
    by true one = ap (λ (w : DownWord). sent (SentDown control w)) is
    by false one = absurd (let bad : false ≡ true = one in cc)

shared_loses : (header : Header) (host : HostId) (object : ObjectId) (control : ℕ) (m : Message) (past : List Event) → is_shared header object.0 ≡ true
    → ServerSends header host.0 object.0 control m past → FrontsInside header past
    → served true m ≤ over_pages header (lost header (event.Sent (Down host object control) m) past)
shared_loses header host object control (message.Supply page lock precious bytes) past shared c inside =
    page_loses header host object control (message.Supply page lock precious bytes) past page.0 (Supplying lock precious bytes) shared inside
    (supply_some host.0 lock (page_part header.size object.0 page.0 past) (first (line (page_part header.size object.0 page.0 past))) c.4)
    (own page.0)
  where
    own : (q : ℕ) → (if q == q then Supplying lock precious bytes else OtherDown) ≡ Supplying lock precious bytes
    own q = grind (arith, nat_tests)
shared_loses header host object control (message.Lock page count returns flush lock reply) past shared c inside =
    page_loses header host object control (message.Lock page count returns flush lock reply) past page.0 (Locking count returns flush lock reply)
    shared inside
    (lock_some header.size host.0 control count returns flush lock reply (page_part header.size object.0 page.0 past) c)
    (own page.0 count (lock_one header.size host.0 control count returns flush lock reply (page_part header.size object.0 page.0 past) c))
  where
    own : (q n : ℕ) → n ≡ 1 → (if in_range q q n then Locking count returns flush lock reply else OtherDown) ≡ Locking count returns flush lock reply
    own q n is = grind (arith, nat_tests)
shared_loses header host object control m past shared c inside = omega arith

unserved : (m : Message) → served false m ≡ 0
unserved (message.Supply page lock precious bytes) = refl
unserved (message.Lock page count returns flush lock reply) = refl
unserved m = refl

loses : (header : Header) (outside : Outside) (e : Event) (past : List Event) → HasCause header outside e past → FrontsInside header past
    → replies header e ≤ over_pages header (lost header e past)
loses header outside (event.Sent (Down host object control) m) past c inside = by (is_shared header object.0) refl
  where
    by : (b : Bool) → is_shared header object.0 ≡ b → served b m ≤ over_pages header (lost header (event.Sent (Down host object control) m) past)
    by true shared = shared_loses header host object control m past shared
        (shared_sends (kind_of header object.0) header outside c.0 host.0 object.0 control m past shared c.1) inside
    by false shared = let none = unserved m in omega (arith, none)
loses header outside (event.Sent (Up host object) m) past c inside = omega arith
loses header outside e past c inside = omega arith

-- The law: what the server takes adds to the lines at most what it joins, what it sends is paid by them, and nothing else adds.
pub lines_law : (header : Header) (outside : Outside) (e : Event) (past : List Event) → EachEvent (HasCause header outside) (e ∷ past)
    → EachEvent (OwnBytes header) (e ∷ past) → EachEvent (IsOnHosts header) (e ∷ past)
    → ((o p : ℕ) (w : Wanting) → is_shared header o ≡ true → first (line (page_part header.size o p past)) ≡ Some w → p < declared_pages header o)
    → lines header (e ∷ past) + replies header e ≤ lines header past + joins header e
lines_law header outside e past caused own on inside =
    let each = pages_less header (λ o p. page_line header o p (e ∷ past) + lost header e past o p)
    (λ o p. page_line header o p past + gained header e past o p)
    (λ o p shared. page_pays header.size (host_count header) (act_at header o p e past) (page_part header.size o p past)
    (licensed header outside (e ∷ past) caused own o p shared) (all_heard header o p (e ∷ past) on)) in
    let after = pages_both header (λ o p. page_line header o p (e ∷ past)) (lost header e past) in
    let before = pages_both header (λ o p. page_line header o p past) (gained header e past) in
    let more = gains header e past in
    let less = loses header outside e past caused.0 inside in
    omega (arith, each, after, before, more, less)
