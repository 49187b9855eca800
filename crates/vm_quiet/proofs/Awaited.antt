-- Each page that is asked, and each control that is not ready, has something on its way.
use Rattle.std.proofs.Common.{inl, inr, ℕ, ◌≡◌, ◌∙◌, List, [], ◌∷◌, Bool, true, false, refl, sym, ap, subst, arith, Option, Some, None, if◌then◌else◌}
use Rattle.std.proofs.lemmas.Bool.Decides.{nat_tests}
use Rattle.std.specs.Prelude.{◌==◌, ◌&&◌, ◌⊎◌}
use Rattle.std.proofs.lemmas.Bool.{cond-false}
use Rattle.vm_base.specs.Pages.{little_endian_bytes}
use Rattle.vm_base.specs.declared.ids.HostId.{HostId}
use Rattle.vm_base.specs.declared.ids.ObjectId.{ObjectId}
use Rattle.vm_base.specs.declared.ids.ObjectKind.{ObjectKind}
use Rattle.vm_base.specs.declared.ids.ObjectKind.TheVariants.{Temp, File, Shared, Wild}
use Rattle.vm_model.specs.declared.command.Command.{Command}
use Rattle.vm_model.specs.declared.event.Event.{Event}
use Rattle.vm_model.specs.declared.event.Event.TheVariants as event
use Rattle.vm_model.specs.declared.message.Channel.TheVariants.{Up, Down}
use Rattle.vm_model.specs.declared.message.Message.{Message}
use Rattle.vm_model.specs.declared.message.Message.TheVariants as message
use Rattle.vm_model.specs.declared.script.Header.{Header}
use Rattle.vm_model.specs.Channels.{is_channel, queue, up_port, down_port}
use Rattle.vm_model.specs.Controls.{is_control, without_control, live_control}
use Rattle.vm_model.specs.Homes.{object_home}
use Rattle.vm_model.specs.Local.{Local, Zeroes, Raises, Stores, Drops, Returns, Asks, Unlocks, TakesPage, TakesNothing, TakesError, TakesLock}
use Rattle.vm_model.specs.Local.{Begins, Ends, Elsewhere, is_on, local_after, taken_effect}
use Rattle.vm_model.specs.Moments.{BeforeSteps, EachEvent}
use Rattle.vm_model.specs.Regions.{backing_of, object_pages}
use Rattle.vm_model.specs.Server.{first}
use Rattle.vm_model.specs.Tasks.{host_of}
use Rattle.vm_model.specs.Words.{in_range}
use Rattle.vm_legal.specs.Accesses.{is_ready}
use Rattle.vm_legal.specs.Debts.{IsPaid}
use Rattle.vm_legal.proofs.Served.{paged_may}
use Rattle.vm_legal.specs.Licences.{HasCause, MaySendDown, MaySendUp, OwesAnswer, PagerSends, init_strategy, is_paged}
use Rattle.vm_legal.specs.Outside.{Outside, is_wild, is_wild_kind, kind_of}
use Rattle.vm_legal.specs.Steps.{answers, is_answer, is_ready_message as says_ready, readies, since, taken_letter}
use Rattle.vm_legal.specs.Walks.{page_on}
use Rattle.vm_quiet.proofs.Asking.{kept_if, kept_lock, kept_two}
use Rattle.vm_quiet.specs.Carried.{is_request, opens}
use Rattle.vm_quiet.proofs.Letters.{never}
use Rattle.vm_quiet.proofs.Sane.{at_place, left, merge_case, right, control_of}
use Rattle.vm_quiet.proofs.Ways.{IsDone, OnTheWay, same_taken, some_last, way_line, way_sent, way_taken}

pub done_request : (header : Header) (past : List Event) → IsPaid header past → (h o k p : ℕ) → is_paged header o ≡ true
    → IsDone (is_request k p) (answers o p) h o past
done_request header past paid h o k p ours (message.Request control page access) is test =
    subst (λ q. since (answers o q) past ≡ true) (page_is control k page.0 p test) (paid.request h o control page.0 access ours is)
  where
    page_is : (a b c d : ℕ) → (a == b && c == d) ≡ true → c ≡ d
    page_is a b c d e = grind (arith, nat_tests)
done_request header past paid h o k p ours m is test = never test

pub done_opening : (header : Header) (past : List Event) → IsPaid header past → (h o k : ℕ) → is_wild header o ≡ false → IsDone (opens k) (readies o) h o past
done_opening header past paid h o k ours (message.Init control size) is test = paid.init h o control size ours is
done_opening header past paid h o k ours (message.Create control size) is test = paid.create h o control size ours is
done_opening header past paid h o k ours m is test = never test

-- a page that is asked

abbrev pub Asking : ℕ → ℕ → ℕ → List Event → Type 0
Asking host o p past = (k : ℕ) × (live_control host o past ≡ Some k) × OnTheWay (is_request k p) (is_answer p) (answers o p) host o k past

abbrev pub AllAsking : Header → ℕ → List Event → Type 0
AllAsking header host past = (o p : ℕ) → is_paged header o ≡ true → (page_on header host o p past).asked ≡ true → Asking host o p past

returned_asked : (size : ℕ) (keep : Bool) (page : Local) → (local_after size (Returns keep) page).asked ≡ page.asked
returned_asked size true page = refl
returned_asked size false page = refl

asking_sent : (host o p : ℕ) (at : HostId) (object : ObjectId) (m : Message) (past : List Event)
    → live_control host o (event.Sent (Up at object) m ∷ past) ≡ live_control host o past → Asking host o p past
    → Asking host o p (event.Sent (Up at object) m ∷ past)
asking_sent host o p at object m past live a =
    (a.0, live ∙ a.1, way_sent (is_request a.0 p) (is_answer p) (answers o p) host o a.0 (Up at object) m past (λ e. never e) a.2)

request_is : (k p q : ℕ) → (q == p) ≡ true → (k == k && q == p) ≡ true
request_is k p q e = grind (arith, nat_tests)

up_asks : (header : Header) (host : ℕ) (at : HostId) (object : ObjectId) (m : Message) (past : List Event)
    → ((doing : Command) × MaySendUp header doing at.0 object.0 m past) → AllAsking header host past
    → AllAsking header host (event.Sent (Up at object) m ∷ past)
up_asks header host at object (message.Init control size) past c all o p ours = by (at.0 == host && object.0 == o) refl
  where
    by : (b : Bool) → (at.0 == host && object.0 == o) ≡ b
        → (local_after header.size (if b then Begins else Elsewhere) (page_on header host o p past)).asked ≡ true
        → Asking host o p (event.Sent (Up at object) (message.Init control size) ∷ past)
    by true own is = never is
    by false own is =
        asking_sent host o p at object (message.Init control size) past (cond-false (at.0 == host && object.0 == o) (Some control) (live_control host o past)
        own)
        (all o p ours is)
up_asks header host at object (message.Create control size) past c all o p ours = by (at.0 == host && object.0 == o) refl
  where
    by : (b : Bool) → (at.0 == host && object.0 == o) ≡ b
        → (local_after header.size (if b then Begins else Elsewhere) (page_on header host o p past)).asked ≡ true
        → Asking host o p (event.Sent (Up at object) (message.Create control size) ∷ past)
    by true own is = never is
    by false own is =
        asking_sent host o p at object (message.Create control size) past (cond-false (at.0 == host && object.0 == o) (Some control) (live_control host o past)
        own)
        (all o p ours is)
up_asks header host at object (message.Terminate control) past c all o p ours =
    by (at.0 == host && object.0 == o) (is_control control (live_control host o past)) refl refl
  where
    by : (b t : Bool) → (at.0 == host && object.0 == o) ≡ b → is_control control (live_control host o past) ≡ t
        → (local_after header.size (if b then (if t then Ends else Elsewhere) else Elsewhere) (page_on header host o p past)).asked ≡ true
        → Asking host o p (event.Sent (Up at object) (message.Terminate control) ∷ past)
    by true true own live is = never is
    by true false own live is =
        never (sym live ∙ control_of (live_control host o past) control (at_place (λ h k. live_control h k past ≡ Some control) at.0 object.0 host o own
        c.1.live))
    by false t own live is =
        asking_sent host o p at object (message.Terminate control) past (cond-false (at.0 == host && object.0 == o)
        (without_control control (live_control host o past)) (live_control host o past) own) (all o p ours is)
up_asks header host at object (message.Request control page access) past c all o p ours =
    by (at.0 == host && object.0 == o) (page.0 == p) (is_control control (live_control host o past)) refl refl
  where
    by : (b t l : Bool) → (at.0 == host && object.0 == o) ≡ b → (page.0 == p) ≡ t
        → (local_after header.size (if b then (if t && l then Asks else Elsewhere) else Elsewhere) (page_on header host o p past)).asked ≡ true
        → Asking host o p (event.Sent (Up at object) (message.Request control page access) ∷ past)
    by true true true own its is = (
      control,
      at_place (λ h k. live_control h k past ≡ Some control) at.0 object.0 host o own c.1.live,
      inl (some_last (at.0 == host && object.0 == o) (is_request control p) (queue (up_port host o) past) (message.Request control page access) own
          (request_is control p page.0 its)),
    )
    by true true false own its is = asking_sent host o p at object (message.Request control page access) past refl (all o p ours is)
    by true false l own its is = asking_sent host o p at object (message.Request control page access) past refl (all o p ours is)
    by false t l own its is = asking_sent host o p at object (message.Request control page access) past refl (all o p ours is)
up_asks header host at object (message.Return control page dirty keep bytes) past c all o p ours = λ is.
    asking_sent host o p at object (message.Return control page dirty keep bytes) past refl
    (all o p ours (sym (kept_two header.size (at.0 == host && object.0 == o) (page.0 == p) (Returns keep) (page_on header host o p past)
    (returned_asked header.size keep (page_on header host o p past))) ∙ is))
up_asks header host at object (message.Unlock control page access) past c all o p ours = λ is.
    asking_sent host o p at object (message.Unlock control page access) past refl
    (all o p ours (sym (kept_two header.size (at.0 == host && object.0 == o) (page.0 == p) Unlocks (page_on header host o p past) refl) ∙ is))
up_asks header host at object (message.Completed control page count) past c all o p ours = λ is.
    asking_sent host o p at object (message.Completed control page count) past refl
    (all o p ours (sym (kept_if header.size (at.0 == host && object.0 == o) Elsewhere (page_on header host o p past) refl) ∙ is))
up_asks header host at object (message.Changed control cache strategy) past c all o p ours = λ is.
    asking_sent host o p at object (message.Changed control cache strategy) past refl
    (all o p ours (sym (kept_if header.size (at.0 == host && object.0 == o) Elsewhere (page_on header host o p past) refl) ∙ is))
up_asks header host at object m past c all o p ours = absurd c.1

answer_cause : (header : Header) (outside : Outside) (doing : Command) (h o k p : ℕ) (m : Message) (past : List Event)
    → MaySendDown header outside doing h o k m past → is_answer p m ≡ true → OwesAnswer h o k p past
answer_cause header outside doing h o k p (message.Supply page lock precious bytes) past c is = subst (λ q. OwesAnswer h o k q past) (page_is page.0 p is) c.0
  where
    page_is : (a b : ℕ) → (a == b) ≡ true → a ≡ b
    page_is a b e = grind (arith, nat_tests)
answer_cause header outside doing h o k p (message.Unavailable page) past c is = subst (λ q. OwesAnswer h o k q past) (page_is page.0 p is) c.0
  where
    page_is : (a b : ℕ) → (a == b) ≡ true → a ≡ b
    page_is a b e = grind (arith, nat_tests)
answer_cause header outside doing h o k p (message.Error page reason) past c is = subst (λ q. OwesAnswer h o k q past) (page_is page.0 p is) c.0
  where
    page_is : (a b : ℕ) → (a == b) ≡ true → a ≡ b
    page_is a b e = grind (arith, nat_tests)
answer_cause header outside doing h o k p m past c is = never is

-- an answer goes down to the control that asked
port_is : (a b n h o k : ℕ) → a ≡ h → b ≡ o → (n == k) ≡ true → (a == h && (b == o && n == k)) ≡ true
port_is a b n h o k e f g = grind (arith, nat_tests)

answered_there : (header : Header) (outside : Outside) (doing : Command) (host o p k : ℕ) (at : HostId) (object : ObjectId) (n : ℕ) (m : Message)
    (past : List Event) → MaySendDown header outside doing at.0 object.0 n m past → (object.0 == o && is_answer p m) ≡ true
    → (r : Message) → taken_letter past ≡ Some (record { channel = up_port host o; message = r }) → is_request k p r ≡ true
    → (is_channel (down_port host o k) (Down at object n) ≡ true) × (is_answer p m ≡ true)
answered_there header outside doing host o p k at object n m past c is r was test =
    let a : OwesAnswer at.0 object.0 n p past = answer_cause header outside doing at.0 object.0 n p m past c (right (object.0 == o) (is_answer p m) is) in
    let s = same_taken host o at.0 object.0 r (message.Request n (record { 0 = p }) a.access) (is_request k p) past was a.taken test in
    (port_is at.0 object.0 n host o k s.0 s.1 (left (n == k) (p == p) s.2), right (object.0 == o) (is_answer p m) is)

asked_before : (size : ℕ) (s : Bool) (p : ℕ) (m : Message) (page : Local) → (local_after size (if s then taken_effect p m else Elsewhere) page).asked ≡ true
    → page.asked ≡ true
asked_before size false p m page is = is
asked_before size true p (message.Supply at lock precious bytes) page is = by (at.0 == p) page.asked refl is
  where
    by : (t b : Bool) → page.asked ≡ b → (local_after size (if t then TakesPage lock precious bytes else Elsewhere) page).asked ≡ true → page.asked ≡ true
    by t true e is = e
    by true false e is =
        subst (λ b. (if b then record page {
          here = true;
          bytes = bytes;
          lock = lock;
          dirty = false;
          precious = precious;
          unlocking = false;
          asked = false;
        } else page).asked ≡ true) e is
    by false false e is = is
asked_before size true p (message.Unavailable at) page is = by (at.0 == p) page.asked refl is
  where
    by : (t b : Bool) → page.asked ≡ b → (local_after size (if t then TakesNothing else Elsewhere) page).asked ≡ true → page.asked ≡ true
    by t true e is = e
    by true false e is = subst (λ b. (if b then record page { asked = false; absent = true } else page).asked ≡ true) e is
    by false false e is = is
asked_before size true p (message.Error at reason) page is = by (at.0 == p) is
  where
    by : (t : Bool) → (local_after size (if t then TakesError else Elsewhere) page).asked ≡ true → page.asked ≡ true
    by true is = never is
    by false is = is
asked_before size true p (message.Lock at count returns flush lock reply) page is =
    sym (kept_if size (in_range p at.0 count) (TakesLock lock flush) page (kept_lock size lock flush page)) ∙ is
asked_before size true p m page is = is

answered_after : (size : ℕ) (s : Bool) (p : ℕ) (m : Message) (page : Local) → s ≡ true → is_answer p m ≡ true
    → (local_after size (if s then taken_effect p m else Elsewhere) page).asked ≡ false
answered_after size false p m page e is = never e
answered_after size true p (message.Supply at lock precious bytes) page e is = by (at.0 == p) is
  where
    pick : (b : Bool) → page.asked ≡ b → (if b then record page {
      here = true;
      bytes = bytes;
      lock = lock;
      dirty = false;
      precious = precious;
      unlocking = false;
      asked = false;
    } else page).asked ≡ false
    pick true e = refl
    pick false e = e

    by : (t : Bool) → t ≡ true → (local_after size (if t then TakesPage lock precious bytes else Elsewhere) page).asked ≡ false
    by true e = pick page.asked refl
    by false e = never e
answered_after size true p (message.Unavailable at) page e is = by (at.0 == p) is
  where
    pick : (b : Bool) → page.asked ≡ b → (if b then record page { asked = false; absent = true } else page).asked ≡ false
    pick true e = refl
    pick false e = e

    by : (t : Bool) → t ≡ true → (local_after size (if t then TakesNothing else Elsewhere) page).asked ≡ false
    by true e = pick page.asked refl
    by false e = never e
answered_after size true p (message.Error at reason) page e is = by (at.0 == p) is
  where
    by : (t : Bool) → t ≡ true → (local_after size (if t then TakesError else Elsewhere) page).asked ≡ false
    by true e = refl
    by false e = never e
answered_after size true p m page e is = never is

-- what is taken down from a control is taken by the live one
live_port : (a b n h o k : ℕ) (live : Option ℕ) → live ≡ Some k → (a == h && (b == o && n == k)) ≡ true → (a == h && (b == o && is_control n live)) ≡ true
live_port a b n h o k live e is = ap (λ (l : Option ℕ). a == h && (b == o && is_control n l)) e ∙ turned a b n h o k is
  where
    turned : (a b n h o k : ℕ) → (a == h && (b == o && n == k)) ≡ true → (a == h && (b == o && k == n)) ≡ true
    turned a b n h o k is = grind (arith, nat_tests)

-- a step that ends here has paid
abbrev pub StepPaid : Header → Event → List Event → Type 0
StepPaid header (event.Line line) past = IsPaid header past
StepPaid header (event.Taken channel m) past = IsPaid header past
StepPaid header e past = Unit {0}

pub paid_before : (header : Header) (e : Event) (past : List Event) → BeforeSteps (IsPaid header) (e ∷ past) → StepPaid header e past
    × BeforeSteps (IsPaid header) past
paid_before header (event.Line line) past b = (b.0, b.1)
paid_before header (event.Taken channel m) past b = (b.0, b.1)
paid_before header e past b = (tt, b)

-- what is said of the object is said of a paged one
ours_there : (header : Header) (a o : ℕ) (more : Bool) → (a == o && more) ≡ true → is_paged header o ≡ true → is_paged header a ≡ true
ours_there header a o more is ours = subst (λ b. is_paged header b ≡ true) (same a o (left (a == o) more is)) ours
  where
    same : (a b : ℕ) → (a == b) ≡ true → b ≡ a
    same a b is = grind (arith, nat_tests)

asks_next : (header : Header) (outside : Outside) (host : ℕ) (e : Event) (past : List Event) → HasCause header outside e past → StepPaid header e past
    → AllAsking header host past → AllAsking header host (e ∷ past)
asks_next header outside host (event.Zeroed at object page) past c paid all =
    λ o p ours is. all o p ours (sym (kept_if header.size (at.0 == host && (object.0 == o && page.0 == p)) Zeroes (page_on header host o p past) refl) ∙ is)
asks_next header outside host (event.Raised at lower lower_page upper upper_page) past c paid all = λ o p ours is.
    all o p ours (sym (kept_if header.size (at.0 == host && (upper.0 == o && upper_page.0 == p)) (Raises (page_on header host lower.0 lower_page.0 past).bytes)
    (page_on header host o p past) refl) ∙ is)
asks_next header outside host (event.CopiedPage task page object object_page target) past c paid all = λ o p ours is.
    all o p ours (sym (kept_if header.size (is_on host (host_of task.0 past) && (target.0 == o && page.0 == p))
    (Raises (page_on header host object.0 object_page.0 past).bytes) (page_on header host o p past) refl) ∙ is)
asks_next header outside host (event.Stored task object page at size value) past c paid all = λ o p ours is.
    all o p ours (sym (kept_if header.size (is_on host (host_of task.0 past) && (object.0 == o && page.0 == p)) (Stores at (little_endian_bytes size value))
    (page_on header host o p past) refl) ∙ is)
asks_next header outside host (event.Dropped at object page) past c paid all =
    λ o p ours is. all o p ours (sym (kept_if header.size (at.0 == host && (object.0 == o && page.0 == p)) Drops (page_on header host o p past) refl) ∙ is)
asks_next header outside host (event.Merged upper lower) past c paid all = λ o p ours is.
    all o p ours (merge_case (λ e. (local_after header.size e (page_on header host o p past)).asked ≡ true → (page_on header host o p past).asked ≡ true)
    (is_on host (object_home upper.0 past)) upper.0 lower.0 (backing_of header upper.0 past).shift (object_pages header upper.0 past)
    (object_pages header lower.0 past) o p (λ source. page_on header host source.object source.page past) (λ on own here asked. asked) (λ on own asked. asked)
    (λ asked. asked) is)
asks_next header outside host (event.Sent (Up at object) m) past c paid all = up_asks header host at object m past c all
asks_next header outside host (event.Sent (Down at object n) m) past c paid all = λ o p ours is.
    let a = all o p ours is in (
      a.0,
      a.1,
      way_sent (is_request a.0 p) (is_answer p) (answers o p) host o a.0 (Down at object n) m past
          (λ e r was test. answered_there header outside c.0 host o p a.0 at object n m past
          (paged_may header outside c.0 at.0 object.0 n m past (ours_there header object.0 o (is_answer p m) e ours) c.1) e r was test) a.2,
    )
asks_next header outside host (event.Taken (Up at object) m) past c paid all = λ o p ours is.
    let a = all o p ours is in (
      a.0,
      a.1,
      way_taken (is_request a.0 p) (is_answer p) (answers o p) host o a.0 (Up at object) m past c.1.0 (done_request header past paid host o a.0 p ours)
          (λ e. never e) a.2,
    )
asks_next header outside host (event.Taken (Down at object n) m) past c paid all = λ o p ours is.
    let a = all o p ours (asked_before header.size (at.0 == host && (object.0 == o && is_control n (live_control host o past))) p m
    (page_on header host o p past) is) in (
      a.0,
      a.1,
      way_taken (is_request a.0 p) (is_answer p) (answers o p) host o a.0 (Down at object n) m past c.1.0 (done_request header past paid host o a.0 p ours)
          (λ e test. never (sym (answered_after header.size (at.0 == host && (object.0 == o && is_control n (live_control host o past))) p m
          (page_on header host o p past) (live_port at.0 object.0 n host o a.0 (live_control host o past) a.1 e) test) ∙ is)) a.2,
    )
asks_next header outside host (event.Line line) past c paid all = λ o p ours is.
    let a = all o p ours is in
    (a.0, a.1, way_line (is_request a.0 p) (is_answer p) (answers o p) host o a.0 line past (done_request header past paid host o a.0 p ours) a.2)
asks_next header outside host e past c paid all = all

pub asks_of : (header : Header) (outside : Outside) (host : ℕ) (history : List Event) → EachEvent (HasCause header outside) history
    → BeforeSteps (IsPaid header) history → AllAsking header host history
asks_of header outside host [] c b = λ o p ours is. never is
asks_of header outside host (e ∷ past) c b =
    let paid = paid_before header e past b in
    asks_next header outside host e past c.0 paid.0 (asks_of header outside host past c.1 paid.1)

-- a control that is not ready

abbrev pub AllOpening : Header → ℕ → List Event → Type 0
AllOpening header host past =
    (o k : ℕ) → is_wild header o ≡ false → live_control host o past ≡ Some k → is_ready host o past ≡ false
    → OnTheWay (opens k) says_ready (readies o) host o k past

opening_sent : (host o k : ℕ) (at : HostId) (object : ObjectId) (m : Message) (past : List Event) → OnTheWay (opens k) says_ready (readies o) host o k past
    → OnTheWay (opens k) says_ready (readies o) host o k (event.Sent (Up at object) m ∷ past)
opening_sent host o k at object m past w = way_sent (opens k) says_ready (readies o) host o k (Up at object) m past (λ e. never e) w

control_is : (control k : ℕ) → Some control ≡ Some k → (control == k) ≡ true
control_is control k e = same control k (inner control k e)
  where
    inner : (a b : ℕ) → Some a ≡ Some b → a ≡ b
    inner a b e = cc

    same : (a b : ℕ) → a ≡ b → (a == b) ≡ true
    same a b e = grind (arith, nat_tests)

was_live : (b : Bool) (control k : ℕ) (live : Option ℕ) → (if b then without_control control live else live) ≡ Some k → live ≡ Some k
was_live false control k live e = e
was_live true control k None e = e
was_live true control k (Some n) e = by (n == control) e
  where
    by : (b : Bool) → (if b then None else Some n) ≡ Some k → Some n ≡ Some k
    by true e = absurd (cc)
    by false e = e

up_opens : (header : Header) (host : ℕ) (at : HostId) (object : ObjectId) (m : Message) (past : List Event) → AllOpening header host past
    → AllOpening header host (event.Sent (Up at object) m ∷ past)
up_opens header host at object (message.Init control size) past all o k ours = by (at.0 == host && object.0 == o) refl
  where
    by : (b : Bool) → (at.0 == host && object.0 == o) ≡ b → (if b then Some control else live_control host o past) ≡ Some k
        → (if b then false else is_ready host o past) ≡ false
        → OnTheWay (opens k) says_ready (readies o) host o k (event.Sent (Up at object) (message.Init control size) ∷ past)
    by true own live is =
        inl (some_last (at.0 == host && object.0 == o) (opens k) (queue (up_port host o) past) (message.Init control size) own (control_is control k live))
    by false own live is = opening_sent host o k at object (message.Init control size) past (all o k ours live is)
up_opens header host at object (message.Create control size) past all o k ours = by (at.0 == host && object.0 == o) refl
  where
    by : (b : Bool) → (at.0 == host && object.0 == o) ≡ b → (if b then Some control else live_control host o past) ≡ Some k
        → (if b then false else is_ready host o past) ≡ false
        → OnTheWay (opens k) says_ready (readies o) host o k (event.Sent (Up at object) (message.Create control size) ∷ past)
    by true own live is =
        inl (some_last (at.0 == host && object.0 == o) (opens k) (queue (up_port host o) past) (message.Create control size) own (control_is control k live))
    by false own live is = opening_sent host o k at object (message.Create control size) past (all o k ours live is)
up_opens header host at object (message.Terminate control) past all o k ours = λ live is.
    opening_sent host o k at object (message.Terminate control) past (all o k ours
    (was_live (at.0 == host && object.0 == o) control k (live_control host o past) live) is)
up_opens header host at object m past all o k ours = λ live is. opening_sent host o k at object m past (all o k ours live is)

-- a pager says that it is ready behind the message that told it of the control

abbrev pub IsTold : ℕ → ℕ → ℕ → List Event → Type 0
IsTold h o n past =
    (size : ℕ) × ((taken_letter past ≡ Some (record { channel = up_port h o; message = message.Create n size }))
    ⊎ (taken_letter past ≡ Some (record { channel = up_port h o; message = message.Init n size })))

may_ready : (header : Header) (outside : Outside) (doing : Command) (h o n : ℕ) (cache : Bool) (strategy : ℕ) (past : List Event)
    → MaySendDown header outside doing h o n (message.Ready cache strategy) past → IsTold h o n past
may_ready header outside doing h o n cache strategy past c = (c.0, by c.3)
  where
    by : ((taken_letter past ≡ Some (record { channel = up_port h o; message = message.Create n c.0 })) × (strategy ≡ 3))
        ⊎ ((taken_letter past ≡ Some (record { channel = up_port h o; message = message.Init n c.0 })) × (strategy ≡ init_strategy header o))
        → (taken_letter past ≡ Some (record { channel = up_port h o; message = message.Create n c.0 }))
        ⊎ (taken_letter past ≡ Some (record { channel = up_port h o; message = message.Init n c.0 }))
    by (inl t) = inl t.0
    by (inr t) = inr t.0

ready_cause : (kind : ObjectKind) (header : Header) (outside : Outside) (doing : Command) (h o n : ℕ) (cache : Bool) (strategy : ℕ) (past : List Event)
    → is_wild_kind kind ≡ false → PagerSends kind header outside doing h o n (message.Ready cache strategy) past → IsTold h o n past
ready_cause Temp header outside doing h o n cache strategy past tame c = may_ready header outside doing h o n cache strategy past c
ready_cause File header outside doing h o n cache strategy past tame c = may_ready header outside doing h o n cache strategy past c
ready_cause Shared header outside doing h o n cache strategy past tame c = (c.0, inr c.3)
ready_cause Wild header outside doing h o n cache strategy past tame c = never (sym tame)

ready_there : (kind : ObjectKind) (header : Header) (outside : Outside) (doing : Command) (host o k : ℕ) (at : HostId) (object : ObjectId) (n : ℕ) (m : Message)
    (past : List Event) → is_wild_kind kind ≡ false → PagerSends kind header outside doing at.0 object.0 n m past → (object.0 == o && says_ready m) ≡ true
    → (r : Message) → taken_letter past ≡ Some (record { channel = up_port host o; message = r }) → opens k r ≡ true
    → (is_channel (down_port host o k) (Down at object n) ≡ true) × (says_ready m ≡ true)
ready_there kind header outside doing host o k at object n (message.Ready cache strategy) past tame c is r was test =
    let t = ready_cause kind header outside doing at.0 object.0 n cache strategy past tame c in by t.0 t.1
  where
    by : (size : ℕ) → (taken_letter past ≡ Some (record { channel = up_port at.0 object.0; message = message.Create n size }))
        ⊎ (taken_letter past ≡ Some (record { channel = up_port at.0 object.0; message = message.Init n size }))
        → (is_channel (down_port host o k) (Down at object n) ≡ true) × (true ≡ true)
    by size (inl t) =
        let s = same_taken host o at.0 object.0 r (message.Create n size) (opens k) past was t test in (port_is at.0 object.0 n host o k s.0 s.1 s.2, refl)
    by size (inr t) =
        let s = same_taken host o at.0 object.0 r (message.Init n size) (opens k) past was t test in (port_is at.0 object.0 n host o k s.0 s.1 s.2, refl)
ready_there kind header outside doing host o k at object n m past tame c is r was test = never (right (object.0 == o) false is)

tame_there : (header : Header) (a o : ℕ) (more : Bool) → (a == o && more) ≡ true → is_wild header o ≡ false → is_wild header a ≡ false
tame_there header a o more is ours = subst (λ b. is_wild header b ≡ false) (same a o (left (a == o) more is)) ours
  where
    same : (a b : ℕ) → (a == b) ≡ true → b ≡ a
    same a b is = grind (arith, nat_tests)

unready : (b r : Bool) → (if b then true else r) ≡ false → (b ≡ false) × (r ≡ false)
unready true r is = never (sym is)
unready false r is = (refl, is)

down_opens : (header : Header) (outside : Outside) (host : ℕ) (at : HostId) (object : ObjectId) (n : ℕ) (m : Message) (past : List Event)
    → first (queue (Down at object n) past) ≡ Some m → IsPaid header past → AllOpening header host past
    → AllOpening header host (event.Taken (Down at object n) m ∷ past)
down_opens header outside host at object n (message.Ready cache strategy) past head paid all o k ours live is =
    let not_it = unready (at.0 == host && (object.0 == o && is_control n (live_control host o past))) (is_ready host o past) is in
    way_taken (opens k) says_ready (readies o) host o k (Down at object n) (message.Ready cache strategy) past head
    (done_opening header past paid host o k ours)
    (λ e test. never (sym not_it.0 ∙ live_port at.0 object.0 n host o k (live_control host o past) live e)) (all o k ours live not_it.1)
down_opens header outside host at object n m past head paid all o k ours live is =
    way_taken (opens k) says_ready (readies o) host o k (Down at object n) m past head (done_opening header past paid host o k ours) (λ e test. never test)
    (all o k ours live is)

opens_next : (header : Header) (outside : Outside) (host : ℕ) (e : Event) (past : List Event) → HasCause header outside e past → StepPaid header e past
    → AllOpening header host past → AllOpening header host (e ∷ past)
opens_next header outside host (event.Sent (Up at object) m) past c paid all = up_opens header host at object m past all
opens_next header outside host (event.Sent (Down at object n) m) past c paid all = λ o k ours live is.
    way_sent (opens k) says_ready (readies o) host o k (Down at object n) m past (λ e r was test. ready_there (kind_of header object.0) header outside c.0 host
    o k at object n m past (tame_there header object.0 o (says_ready m) e ours) c.1 e r was test) (all o k ours live is)
opens_next header outside host (event.Taken (Up at object) m) past c paid all = λ o k ours live is.
    way_taken (opens k) says_ready (readies o) host o k (Up at object) m past c.1.0 (done_opening header past paid host o k ours) (λ e. never e)
    (all o k ours live is)
opens_next header outside host (event.Taken (Down at object n) m) past c paid all = down_opens header outside host at object n m past c.1.0 paid all
opens_next header outside host (event.Line line) past c paid all =
    λ o k ours live is. way_line (opens k) says_ready (readies o) host o k line past (done_opening header past paid host o k ours) (all o k ours live is)
opens_next header outside host e past c paid all = all

pub opens_of : (header : Header) (outside : Outside) (host : ℕ) (history : List Event) → EachEvent (HasCause header outside) history
    → BeforeSteps (IsPaid header) history → AllOpening header host history
opens_of header outside host [] c b = λ o k ours live is. absurd (cc)
opens_of header outside host (e ∷ past) c b =
    let paid = paid_before header e past b in
    opens_next header outside host e past c.0 paid.0 (opens_of header outside host past c.1 paid.1)
