-- A shared page's part knows which control is ready, and the lock with a reply that the step has still to do.
use Rattle.std.proofs.Common.{◌≡◌, ℕ, ◌/◌, ◌%◌, ◌<◌, ◌≤◌, ◌==◌, ◌&&◌, ◌||◌, ◌∙◌, List, [], ◌∷◌, Bool, true, false, Option, Some, None, if◌then◌else◌, refl, ap}
use Rattle.std.proofs.Common.{sym, subst, replicate, arith}
use Rattle.std.proofs.lemmas.Bool.Decides.{nat_tests}
use Rattle.std.specs.Prelude.{not}
use Rattle.std.proofs.lemmas.Bool.{cond-false, cond-true}
use Rattle.vm_base.specs.declared.ids.HostId.{HostId}
use Rattle.vm_base.specs.declared.ids.ObjectId.{ObjectId}
use Rattle.vm_model.specs.declared.command.Command.{Command}
use Rattle.vm_model.specs.declared.event.Event.{Event}
use Rattle.vm_model.specs.declared.event.Event.TheVariants as event
use Rattle.vm_model.specs.declared.message.Channel.TheVariants.{Up, Down}
use Rattle.vm_model.specs.declared.message.Message.{Message}
use Rattle.vm_model.specs.declared.message.Message.TheVariants as message
use Rattle.vm_model.specs.declared.script.Header.{Header}
use Rattle.vm_model.specs.Controls.{is_control, last_control, live_control, without_control}
use Rattle.vm_model.specs.Local.{Local}
use Rattle.vm_model.specs.Moments.{EachEvent}
use Rattle.vm_model.specs.Named.{named}
use Rattle.vm_model.specs.PagePart.{page_part}
use Rattle.vm_model.specs.Side.{Side, is_open_to, kind_of, side, side_after, side_taken_down}
use Rattle.vm_model.specs.TaskPlace.{means_page, task_host}
use Rattle.vm_model.specs.Words.{UpWord, Asking, Unlocking, Returning, Doing, Ending, OtherUp, DownWord, Supplying, Locking, Lacking, Failing, Readying}
use Rattle.vm_model.specs.Words.{OtherDown, ActEffect, Opens, SendsUp, TakenUp, SentDown, TakesDown, Puts, Drops, Begins, Loads, Stores, Fails, BeginsCopy}
use Rattle.vm_model.specs.Words.{Copies, EndsCopy, StepBegins, Nothing, down_word, in_range, sent_act_effect, times_meant, to_others, up_word}
use Rattle.vm_legal.specs.Accesses.{is_ready}
use Rattle.vm_legal.specs.Licences.{Completes, HasCause, LockRequest, MaySendUp, is_answered_over, lock_taken}
use Rattle.vm_legal.specs.Outside.{Outside, is_shared}
use Rattle.vm_legal.specs.Steps.{completes, since}
use Rattle.vm_coherence.specs.Locals.{SideIsLocal}
use Rattle.vm_coherence.proofs.Locals.{reaches_is, side_is_local}
use Rattle.vm_flat.proofs.Locals.{each_founded}
use Rattle.vm_quiet.proofs.Letters.{never}
use Rattle.vm_quiet.proofs.Sane.{at_place}
use Rattle.vm_shared.proofs.Kept.{unmerged}
use Rattle.vm_shared.proofs.Declared.{shared_declared}
use Rattle.vm_shared.proofs.Speakers.{last_grows, numbers_of}

-- the step that a page's part is in: 0 none, else by the kind of the lock with a reply over the page that isn't done yet, and whose control lives
abbrev pub step_in : ℕ → ℕ → ℕ → Option LockRequest → Bool → Option ℕ → ℕ
step_in h o p None done live = 0
step_in h o p (Some r) done live = if is_answered_over h o p (Some r) && (not done && is_control r.control live) then kind_of r.flush else 0

pub record Stepped (now : Bool) (n : ℕ) (s : Side) : Type 0 where
  pub ready : s.live ≡ true → s.ready ≡ now
  pub step : s.step ≡ n

-- what neither begins nor ends a control or a step, nor says that one is ready
abbrev pub IsMild : ActEffect → Type 0
IsMild (Opens control ready) = ⊥
IsMild (SendsUp control word) = ⊥
IsMild (TakenUp word) = ⊥
IsMild (TakesDown control word) = ⊥
IsMild StepBegins = ⊥
IsMild e = Unit {0}

mild : (now : Bool) (n : ℕ) (e : ActEffect) (s : Side) → IsMild e → Stepped now n s → Stepped now n (side_after s e)
mild now n (SentDown control (Supplying lock precious bytes)) s is was = record { ready = was.ready; step = was.step }
mild now n (SentDown control (Locking count returns flush lock reply)) s is was = record { ready = was.ready; step = was.step }
mild now n (SentDown control Lacking) s is was = record { ready = was.ready; step = was.step }
mild now n (SentDown control Failing) s is was = record { ready = was.ready; step = was.step }
mild now n (SentDown control Readying) s is was = was
mild now n (SentDown control OtherDown) s is was = was
mild now n (Puts bytes dirty) s is was = record { ready = was.ready; step = was.step }
mild now n Drops s is was = record { ready = was.ready; step = was.step }
mild now n (Begins task store at size value) s is was = was
mild now n (Loads task value) s is was = was
mild now n (Stores task at size value) s is was = record { ready = was.ready; step = was.step }
mild now n (Fails task) s is was = was
mild now n (BeginsCopy task times) s is was = was
mild now n (Copies task) s is was = was
mild now n (EndsCopy task) s is was = was
mild now n Nothing s is was = was
mild now n (Opens control ready) s is was = absurd is
mild now n (SendsUp control word) s is was = absurd is
mild now n (TakenUp word) s is was = absurd is
mild now n (TakesDown control word) s is was = absurd is
mild now n StepBegins s is was = absurd is

mild_others : (now : Bool) (n : ℕ) (e : ActEffect) (s : Side) → IsMild e → Stepped now n s → Stepped now n (side_after s (to_others e))
mild_others now n (SentDown control word) s is was = was
mild_others now n (Puts bytes dirty) s is was = was
mild_others now n Drops s is was = was
mild_others now n (Begins task store at size value) s is was = was
mild_others now n (Loads task value) s is was = was
mild_others now n (Stores task at size value) s is was = was
mild_others now n (Fails task) s is was = was
mild_others now n (BeginsCopy task times) s is was = was
mild_others now n (Copies task) s is was = was
mild_others now n (EndsCopy task) s is was = was
mild_others now n Nothing s is was = was
mild_others now n (Opens control ready) s is was = absurd is
mild_others now n (SendsUp control word) s is was = absurd is
mild_others now n (TakenUp word) s is was = absurd is
mild_others now n (TakesDown control word) s is was = absurd is
mild_others now n StepBegins s is was = absurd is

mild_act : (now : Bool) (n : ℕ) (mine : Bool) (e : ActEffect) (s : Side) → IsMild e → Stepped now n s
    → Stepped now n (side_after s (if mine then e else to_others e))
mild_act now n true e s is was = mild now n e s is was
mild_act now n false e s is was = mild_others now n e s is was

mild_if : (b : Bool) (e f : ActEffect) → IsMild e → IsMild f → IsMild (if b then e else f)
mild_if true e f one two = one
mild_if false e f one two = two

-- a step begins

begun : (now : Bool) (n : ℕ) (s : Side) → Stepped now n s → Stepped now 0 (record s { step = 0 })
begun now n s was = record { ready = was.ready; step = refl }

begun_act : (now : Bool) (n : ℕ) (mine : Bool) (s : Side) → Stepped now n s → Stepped now 0 (side_after s (if mine then StepBegins else StepBegins))
begun_act now n true s was = begun now n s was
begun_act now n false s was = begun now n s was

took_up : (now : Bool) (n : ℕ) (w : UpWord) (s : Side) → Stepped now n s → Stepped now 0 (side_after s (TakenUp w))
took_up now n (Asking asker access) s was = record { ready = was.ready; step = refl }
took_up now n (Unlocking access) s was = record { ready = was.ready; step = refl }
took_up now n (Returning dirty keep bytes) s was = record { ready = was.ready; step = refl }
took_up now n (Doing control count) s was = record { ready = was.ready; step = refl }
took_up now n (Ending control) s was = record { ready = was.ready; step = refl }
took_up now n OtherUp s was = record { ready = was.ready; step = refl }

took_up_act : (now : Bool) (n : ℕ) (a b : Bool) (w : UpWord) (s : Side) → Stepped now n s
    → Stepped now 0 (side_after s (if a then (if b then TakenUp w else StepBegins) else to_others (if b then TakenUp w else StepBegins)))
took_up_act now n true true w s was = took_up now n w s was
took_up_act now n true false w s was = begun now n s was
took_up_act now n false true w s was = begun now n s was
took_up_act now n false false w s was = begun now n s was

-- a message is taken from the server

abbrev pub IsAnswer : DownWord → Type 0
IsAnswer (Locking count returns flush lock reply) = ⊥
IsAnswer Readying = ⊥
IsAnswer other = Unit {0}

answered : (now : Bool) (n : ℕ) (w : DownWord) (s : Side) → IsAnswer w → Stepped now n s → Stepped now 0 (side_taken_down s w)
answered now n (Supplying lock precious bytes) s is was = record { ready = was.ready; step = refl }
answered now n Lacking s is was = record { ready = was.ready; step = refl }
answered now n Failing s is was = record { ready = was.ready; step = refl }
answered now n OtherDown s is was = record { ready = was.ready; step = refl }
answered now n (Locking count returns flush lock reply) s is was = absurd is
answered now n Readying s is was = absurd is

-- whatever is taken of another place, or to another control, begins a step
took_act : (now after : Bool) (n m : ℕ) (a b : Bool) (control : ℕ) (w : DownWord) (s : Side) → Stepped now n s
    → (a ≡ true → b ≡ true → is_open_to s control ≡ true → Stepped after m (side_taken_down s w))
    → ((a && (b && is_open_to s control)) ≡ false → (after ≡ now) × (m ≡ 0))
    → Stepped after m (side_after s (if a then (if b then TakesDown control w else StepBegins) else to_others
    (if b then TakesDown control w else StepBegins)))
took_act now after n m true true control w s was mine none = by (is_open_to s control) (mine refl refl) none
  where
    by : (open_ : Bool) → (open_ ≡ true → Stepped after m (side_taken_down s w)) → (open_ ≡ false → (after ≡ now) × (m ≡ 0))
        → Stepped after m (if open_ then side_taken_down s w else record s { step = 0 })
    by true taken left_ = taken refl
    by false taken left_ = record { ready = λ live. was.ready live ∙ sym (left_ refl).0; step = sym (left_ refl).1 }
took_act now after n m true false control w s was mine none = record { ready = λ live. was.ready live ∙ sym (none refl).0; step = sym (none refl).1 }
took_act now after n m false true control w s was mine none = record { ready = λ live. was.ready live ∙ sym (none refl).0; step = sym (none refl).1 }
took_act now after n m false false control w s was mine none = record { ready = λ live. was.ready live ∙ sym (none refl).0; step = sym (none refl).1 }

open_is : (live : Option ℕ) (s : Side) (page : Local) (control : ℕ) → SideIsLocal live s page → is_open_to s control ≡ is_control control live
open_is live s page control i = reaches_is live s control i.control

answer_if : (b : Bool) (v w : DownWord) → IsAnswer v → IsAnswer w → IsAnswer (if b then v else w)
answer_if true v w one two = one
answer_if false v w one two = two

ready_is : (a b l now : Bool) → a ≡ true → b ≡ true → l ≡ true → (if a && (b && l) then true else now) ≡ true
ready_is true true true now one two three = refl
ready_is false b l now one two three = never one
ready_is true false l now one two three = never two
ready_is true true false now one two three = never three

ready_was : (a b l m now : Bool) → m ≡ l → (a && (b && m)) ≡ false → (if a && (b && l) then true else now) ≡ now
ready_was a b l m now same is = grind arith

-- the step that a lock begins
lock_step : (t reply a b i l : Bool) (k : ℕ) → t ≡ true → a ≡ true → b ≡ true → l ≡ true
    → (if i then (if reply then k else 0) else 0) ≡ (if t && ((reply && (a && (b && i))) && l) then k else 0)
lock_step t reply a b i l k one two three four = grind arith

lock_none : (t reply a b i l m : Bool) (k : ℕ) → m ≡ l → (a && (b && m)) ≡ false → (if t && ((reply && (a && (b && i))) && l) then k else 0) ≡ 0
lock_none t reply a b i l m k same is = grind arith

step_if : (t : Bool) (h o p : ℕ) (r : LockRequest) (live : Option ℕ)
    → step_in h o p (if t then Some r else None) false live ≡ (if t && (is_answered_over h o p (Some r) && is_control r.control live) then kind_of r.flush else
    0)
step_if true h o p r live = refl
step_if false h o p r live = refl

took_lock : (now : Bool) (i : Bool) (count returns : ℕ) (flush : Bool) (lock : ℕ) (reply : Bool) (n m : ℕ) (s : Side) → Stepped now n s
    → (if i then (if reply then kind_of flush else 0) else 0) ≡ m
    → Stepped now m (side_taken_down s (if i then Locking count returns flush lock reply else OtherDown))
took_lock now true count returns flush lock reply n m s was is = record { ready = was.ready; step = is }
took_lock now false count returns flush lock reply n m s was is = record { ready = was.ready; step = is }

taken : (header : Header) (host : HostId) (object : ObjectId) (control : ℕ) (m : Message) (past : List Event) (h o p n : ℕ) (s : Side)
    → is_open_to s control ≡ is_control control (live_control h o past) → Stepped (is_ready h o past) n s
    → Stepped (is_ready h o (event.Taken (Down host object control) m ∷ past)) (step_in h o p (lock_taken (event.Taken (Down host object control) m ∷ past))
    false (live_control h o past))
    (side_after s (if host.0 == h then (if object.0 == o then TakesDown control (down_word p m) else StepBegins) else to_others
    (if object.0 == o then TakesDown control (down_word p m) else StepBegins)))
taken header host object control (message.Lock page count returns flush lock reply) past h o p n s is was =
    let r : LockRequest = record {
      host = host.0;
      object = object.0;
      control = control;
      page = page.0;
      count = count;
      returns = returns;
      flush = flush;
      lock = lock;
      reply = reply;
    } in
    let m : ℕ = step_in h o p (if is_control control (live_control host.0 object.0 past) then Some r else None) false (live_control h o past) in
    let value : m ≡ (if is_control control (live_control host.0 object.0 past) &&
    (is_answered_over h o p (Some r) && is_control control (live_control h o past)) then kind_of flush else 0) = step_if
    (is_control control (live_control host.0 object.0 past)) h o p r (live_control h o past) in
    took_act (is_ready h o past) (is_ready h o past) n m (host.0 == h) (object.0 == o) control
    (if in_range p page.0 count then Locking count returns flush lock reply else OtherDown) s was
    (λ a b opened.
    took_lock (is_ready h o past) (in_range p page.0 count) count returns flush lock reply n m s was
    (lock_step (is_control control (live_control host.0 object.0 past)) reply (host.0 == h) (object.0 == o) (in_range p page.0 count)
    (is_control control (live_control h o past)) (kind_of flush)
    (own host.0 object.0 h o control a b (sym is ∙ opened)) a b (sym is ∙ opened) ∙ sym value))
    (λ none. (
      refl,
      value ∙ lock_none (is_control control (live_control host.0 object.0 past)) reply (host.0 == h) (object.0 == o) (in_range p page.0 count)
          (is_control control (live_control h o past)) (is_open_to s control) (kind_of flush) is none,
    ))
  where
    number_is : (a b : ℕ) → (a == b) ≡ true → b ≡ a
    number_is a b e = grind (arith, nat_tests)

    own : (g j h o k : ℕ) → (g == h) ≡ true → (j == o) ≡ true → is_control k (live_control h o past) ≡ true → is_control k (live_control g j past) ≡ true
    own g j h o k a b on =
        subst (λ x. is_control k (live_control x j past) ≡ true) (number_is g h a)
        (subst (λ y. is_control k (live_control h y past) ≡ true) (number_is j o b) on)
taken header host object control (message.Ready cache strategy) past h o p n s is was =
    took_act (is_ready h o past) _ n 0 (host.0 == h) (object.0 == o) control Readying s was
    (λ a b opened. record {
      ready = λ live. sym (ready_is (host.0 == h) (object.0 == o) (is_control control (live_control h o past)) (is_ready h o past) a b
          (sym is ∙ opened));
      step = refl;
    })
    (λ none. (ready_was (host.0 == h) (object.0 == o) (is_control control (live_control h o past)) (is_open_to s control) (is_ready h o past) is none, refl))
taken header host object control (message.Supply page lock precious bytes) past h o p n s is was =
    took_act (is_ready h o past) (is_ready h o past) n 0 (host.0 == h) (object.0 == o) control _ s was
    (λ a b opened. answered (is_ready h o past) n _ s (answer_if (page.0 == p) (Supplying lock precious bytes) OtherDown tt tt) was) (λ none. (refl, refl))
taken header host object control (message.Unavailable page) past h o p n s is was =
    took_act (is_ready h o past) (is_ready h o past) n 0 (host.0 == h) (object.0 == o) control _ s was
    (λ a b opened. answered (is_ready h o past) n _ s (answer_if (page.0 == p) Lacking OtherDown tt tt) was) (λ none. (refl, refl))
taken header host object control (message.Error page reason) past h o p n s is was =
    took_act (is_ready h o past) (is_ready h o past) n 0 (host.0 == h) (object.0 == o) control _ s was
    (λ a b opened. answered (is_ready h o past) n _ s (answer_if (page.0 == p) Failing OtherDown tt tt) was) (λ none. (refl, refl))
taken header host object control m past h o p n s is was =
    took_act (is_ready h o past) (is_ready h o past) n 0 (host.0 == h) (object.0 == o) control OtherDown s was
    (λ a b opened. answered (is_ready h o past) n OtherDown s tt was) (λ none. (refl, refl))

-- the host sends

abbrev pub IsPlainWord : UpWord → Type 0
IsPlainWord (Doing control count) = ⊥
IsPlainWord (Ending control) = ⊥
IsPlainWord other = Unit {0}

plain : (now : Bool) (n : ℕ) (control : ℕ) (w : UpWord) (s : Side) → IsPlainWord w → Stepped now n s → Stepped now n (side_after s (SendsUp control w))
plain now n control (Asking asker access) s is was = record { ready = was.ready; step = was.step }
plain now n control (Unlocking access) s is was = record { ready = was.ready; step = was.step }
plain now n control (Returning dirty keep bytes) s is was = record { ready = was.ready; step = was.step }
plain now n control OtherUp s is was = was
plain now n control (Doing told count) s is was = absurd is
plain now n control (Ending told) s is was = absurd is

-- an event of the host and the object is one thing, and of others nothing
sent_act : (now after : Bool) (n m : ℕ) (a b : Bool) (e : ActEffect) (s : Side) → to_others e ≡ Nothing → Stepped now n s
    → (a ≡ true → b ≡ true → Stepped after m (side_after s e)) → ((a && b) ≡ false → (after ≡ now) × (m ≡ n))
    → Stepped after m (side_after s (if a then (if b then e else Nothing) else to_others (if b then e else Nothing)))
sent_act now after n m true true e s to was mine none = mine refl refl
sent_act now after n m true false e s to was mine none = record { ready = λ live. was.ready live ∙ sym (none refl).0; step = was.step ∙ sym (none refl).1 }
sent_act now after n m false true e s to was mine none =
    subst (λ (x : ActEffect). Stepped after m (side_after s x)) (sym to) (record {
      ready = λ live. was.ready live ∙ sym (none refl).0;
      step = was.step
          ∙ sym (none refl).1;
    })
sent_act now after n m false false e s to was mine none = record { ready = λ live. was.ready live ∙ sym (none refl).0; step = was.step ∙ sym (none refl).1 }

uncompleted : (a b c : Bool) → ((a && (b && false)) || c) ≡ c
uncompleted true true c = refl
uncompleted true false c = refl
uncompleted false b c = refl

completed_else : (a b c : Bool) → (a && b) ≡ false → ((a && (b && true)) || c) ≡ c
completed_else true true c is = never (sym is)
completed_else true false c is = refl
completed_else false b c is = refl

dead_step : (h o p : ℕ) (lock : Option LockRequest) (done : Bool) → step_in h o p lock done None ≡ 0
dead_step h o p None done = refl
dead_step h o p (Some r) done = grind arith

done_step : (h o p : ℕ) (lock : Option LockRequest) (live : Option ℕ) → step_in h o p lock true live ≡ 0
done_step h o p None live = refl
done_step h o p (Some r) live = grind arith

-- the locks that steps took are of controls that began
abbrev pub LockUpTo : ℕ → ℕ → ℕ → Option LockRequest → Type 0
LockUpTo h o n None = Unit {0}
LockUpTo h o n (Some r) = (r.host == h && r.object == o) ≡ true → r.control ≤ n

new_step : (h o p n control : ℕ) (lock : Option LockRequest) (done : Bool) → LockUpTo h o n lock → n < control → step_in h o p lock done (Some control) ≡ 0
new_step h o p n control None done up less = refl
new_step h o p n control (Some r) done up less = by (is_answered_over h o p (Some r)) refl
  where
    over : (reply a b i : Bool) → (reply && (a && (b && i))) ≡ true → (a && b) ≡ true
    over reply a b i is = grind arith

    greater : (control r n : ℕ) → r ≤ n → n < control → (control == r) ≡ false
    greater control r n le less = grind (arith, nat_tests)

    by : (b : Bool) → is_answered_over h o p (Some r) ≡ b → (if b && (not done && control == r.control) then kind_of r.flush else 0) ≡ 0
    by false is = refl
    by true is = by_done done (greater control r.control n (up (over r.reply (r.host == h) (r.object == o) (in_range p r.page r.count) is)) less)
      where
        by_done : (d : Bool) → (control == r.control) ≡ false → (if not d && control == r.control then kind_of r.flush else 0) ≡ 0
        by_done true e = refl
        by_done false e = cond-false (control == r.control) (kind_of r.flush) 0 e

both : (a b : Bool) → a ≡ true → b ≡ true → (a && b) ≡ true
both true b one two = two
both false b one two = never one

-- what leaves the controls and the lock as they are
sent_plain : (header : Header) (host : HostId) (object : ObjectId) (past : List Event) (h o p control : ℕ) (w : UpWord) (s : Side) → IsPlainWord w
    → Stepped (is_ready h o past) (step_in h o p (lock_taken past) (since (completes h o) past) (live_control h o past)) s
    → Stepped (is_ready h o past) (step_in h o p (lock_taken past) ((host.0 == h && (object.0 == o && false)) || since (completes h o) past)
    (live_control h o past))
    (side_after s (if host.0 == h then (if object.0 == o then SendsUp control w else Nothing) else to_others
    (if object.0 == o then SendsUp control w else Nothing)))
sent_plain header host object past h o p control w s is was =
    let same : step_in h o p (lock_taken past) ((host.0 == h && (object.0 == o && false)) || since (completes h o) past) (live_control h o past) ≡ step_in h o p
    (lock_taken past) (since (completes h o) past) (live_control h o past) =
    ap (λ (d : Bool). step_in h o p (lock_taken past) d (live_control h o past)) (uncompleted (host.0 == h) (object.0 == o) (since (completes h o) past)) in
    sent_act (is_ready h o past) (is_ready h o past) _ _ (host.0 == h) (object.0 == o) (SendsUp control w) s refl was
    (λ a b. plain (is_ready h o past) _ control w s is (record { ready = was.ready; step = was.step ∙ sym same })) (λ none. (refl, same))

word_if : (b : Bool) (v w : UpWord) → IsPlainWord v → IsPlainWord w → IsPlainWord (if b then v else w)
word_if true v w one two = one
word_if false v w one two = two

sent_init : (header : Header) (host : HostId) (object : ObjectId) (control size : ℕ) (past : List Event) (h o p : ℕ) (s : Side)
    → (host.0 == h && object.0 == o ≡ true → live_control h o past ≡ None) → (host.0 == h && object.0 == o ≡ true → last_control h o past < control)
    → LockUpTo h o (last_control h o past) (lock_taken past)
    → Stepped (is_ready h o past) (step_in h o p (lock_taken past) (since (completes h o) past) (live_control h o past)) s
    → Stepped (if host.0 == h && object.0 == o then false else is_ready h o past)
    (step_in h o p (lock_taken past) ((host.0 == h && (object.0 == o && false)) || since (completes h o) past)
    (if host.0 == h && object.0 == o then Some control else live_control h o past))
    (side_after s (if host.0 == h then (if object.0 == o then Opens control false else Nothing) else to_others
    (if object.0 == o then Opens control false else Nothing)))
sent_init header host object control size past h o p s dead less up was =
    sent_act (is_ready h o past) _ _ _ (host.0 == h) (object.0 == o) (Opens control false) s refl was
    (λ a b.
    let is : (host.0 == h && object.0 == o) ≡ true = both (host.0 == h) (object.0 == o) a b in
    let zero_then : step_in h o p (lock_taken past) (since (completes h o) past) (live_control h o past) ≡ 0 = ap
    (λ (l : Option ℕ). step_in h o p (lock_taken past) (since (completes h o) past) l) (dead is)
    ∙ dead_step h o p (lock_taken past) (since (completes h o) past) in
    let zero_now : step_in h o p (lock_taken past) ((host.0 == h && (object.0 == o && false)) || since (completes h o) past)
    (if host.0 == h && object.0 == o then Some control else live_control h o past) ≡ 0 =
    ap (λ (l : Option ℕ). step_in h o p (lock_taken past) ((host.0 == h && (object.0 == o && false)) || since (completes h o) past) l)
    (cond-true (host.0 == h && object.0 == o) (Some control) (live_control h o past) is)
    ∙ new_step h o p (last_control h o past) control (lock_taken past) ((host.0 == h && (object.0 == o && false)) || since (completes h o) past) up (less is) in
    record { ready = λ live. sym (cond-true (host.0 == h && object.0 == o) false (is_ready h o past) is); step = was.step ∙ zero_then ∙ sym zero_now })
    (λ none. (
      cond-false (host.0 == h && object.0 == o) false (is_ready h o past) none,
      ap (λ (d : Bool). step_in h o p (lock_taken past) d (if host.0 == h && object.0 == o then Some control else live_control h o past))
          (uncompleted (host.0 == h) (object.0 == o) (since (completes h o) past))
          ∙ ap (λ (l : Option ℕ). step_in h o p (lock_taken past) (since (completes h o) past) l)
          (cond-false (host.0 == h && object.0 == o) (Some control) (live_control h o past) none),
    ))

gone : (control : ℕ) (live : Option ℕ) → live ≡ Some control → without_control control live ≡ None
gone control live is = ap (without_control control) is ∙ ap (λ (b : Bool). if b then None else Some control) (itself control)
  where
    itself : (n : ℕ) → (n == n) ≡ true
    itself n = grind (arith, nat_tests)

sent_terminate : (header : Header) (host : HostId) (object : ObjectId) (control : ℕ) (past : List Event) (h o p : ℕ) (s : Side)
    → (host.0 == h && object.0 == o ≡ true → live_control h o past ≡ Some control)
    → Stepped (is_ready h o past) (step_in h o p (lock_taken past) (since (completes h o) past) (live_control h o past)) s
    → Stepped (is_ready h o past) (step_in h o p (lock_taken past) ((host.0 == h && (object.0 == o && false)) || since (completes h o) past)
    (if host.0 == h && object.0 == o then without_control control (live_control h o past) else live_control h o past))
    (side_after s (if host.0 == h then (if object.0 == o then SendsUp control (Ending control) else Nothing) else to_others
    (if object.0 == o then SendsUp control (Ending control) else Nothing)))
sent_terminate header host object control past h o p s lives was =
    sent_act (is_ready h o past) (is_ready h o past) _ _ (host.0 == h) (object.0 == o) (SendsUp control (Ending control)) s refl was
    (λ a b.
    let is : (host.0 == h && object.0 == o) ≡ true = both (host.0 == h) (object.0 == o) a b in
    let d : Bool = (host.0 == h && (object.0 == o && false)) || since (completes h o) past in
    let zero_now : step_in h o p (lock_taken past) d (if host.0 == h && object.0 == o then without_control control (live_control h o past) else live_control h o
    past) ≡ 0 =
    ap (λ (l : Option ℕ). step_in h o p (lock_taken past) d l) (cond-true (host.0 == h && object.0 == o) (without_control control (live_control h o past))
    (live_control h o past) is ∙ gone control (live_control h o past) (lives is)) ∙ dead_step h o p (lock_taken past) d in
    record { ready = λ live. never live; step = sym zero_now })
    (λ none. (
      refl,
      ap (λ (d : Bool). step_in h o p (lock_taken past) d (if host.0 == h && object.0 == o then without_control control (live_control h o past) else
          live_control h o past)) (uncompleted (host.0 == h) (object.0 == o) (since (completes h o) past))
          ∙ ap (λ (l : Option ℕ). step_in h o p (lock_taken past) (since (completes h o) past) l)
          (cond-false (host.0 == h && object.0 == o) (without_control control (live_control h o past)) (live_control h o past) none),
    ))

-- a lock over another page is no step of this one
other_step : (h o p page count : ℕ) (lock : Option LockRequest) (r : LockRequest) (done : Bool) (live : Option ℕ) → lock ≡ Some r → r.page ≡ page
    → r.count ≡ count → in_range p page count ≡ false → step_in h o p lock done live ≡ 0
other_step h o p page count lock r done live is same many out =
    ap (λ (l : Option LockRequest). step_in h o p l done live) is
    ∙ none (in_range p r.page r.count) r.reply (r.host == h) (r.object == o) (not done && is_control r.control live) (kind_of r.flush)
    (ap (λ x. in_range p x r.count) same ∙ ap (λ x. in_range p page x) many ∙ out)
  where
    none : (i reply a b l : Bool) (k : ℕ) → i ≡ false → (if (reply && (a && (b && i))) && l then k else 0) ≡ 0
    none i reply a b l k out = grind arith

sent_completed : (header : Header) (host : HostId) (object : ObjectId) (control page count : ℕ) (past : List Event) (h o p : ℕ) (s : Side)
    → Completes header host.0 control object.0 page count past
    → Stepped (is_ready h o past) (step_in h o p (lock_taken past) (since (completes h o) past) (live_control h o past)) s
    → Stepped (is_ready h o past) (step_in h o p (lock_taken past) ((host.0 == h && (object.0 == o && true)) || since (completes h o) past)
    (live_control h o past))
    (side_after s (if host.0 == h then (if object.0 == o then SendsUp control (if in_range p page count then Doing control count else OtherUp) else
    Nothing) else to_others (if object.0 == o then SendsUp control (if in_range p page count then Doing control count else OtherUp) else Nothing)))
sent_completed header host object control page count past h o p s c was =
    sent_act (is_ready h o past) (is_ready h o past) _ _ (host.0 == h) (object.0 == o)
    (SendsUp control (if in_range p page count then Doing control count else OtherUp)) s refl was
    (λ a b. by (in_range p page count) refl a b)
    (λ none. (
      refl,
      ap (λ (d : Bool). step_in h o p (lock_taken past) d (live_control h o past))
          (completed_else (host.0 == h) (object.0 == o) (since (completes h o) past) none),
    ))
  where
    now : ℕ
    now = step_in h o p (lock_taken past) ((host.0 == h && (object.0 == o && true)) || since (completes h o) past) (live_control h o past)

    all : (a b d : Bool) → a ≡ true → b ≡ true → ((a && (b && true)) || d) ≡ true
    all true true d one two = refl
    all true false d one two = never two
    all false b d one two = never one

    zero_now : (host.0 == h) ≡ true → (object.0 == o) ≡ true → now ≡ 0
    zero_now a b =
        ap (λ (d : Bool). step_in h o p (lock_taken past) d (live_control h o past)) (all (host.0 == h) (object.0 == o) (since (completes h o) past) a b)
        ∙ done_step h o p (lock_taken past) (live_control h o past)

    by : (i : Bool) → in_range p page count ≡ i → (host.0 == h) ≡ true → (object.0 == o) ≡ true
        → Stepped (is_ready h o past) now (side_after s (SendsUp control (if i then Doing control count else OtherUp)))
    by true is a b = record { ready = was.ready; step = sym (zero_now a b) }
    by false is a b =
        record {
          ready = was.ready;
          step = was.step ∙ other_step h o p page count (lock_taken past) _ (since (completes h o) past) (live_control h o past)
              c.taken refl refl is ∙ sym (zero_now a b);
        }

sent : (header : Header) (why : Command) (host : HostId) (object : ObjectId) (m : Message) (past : List Event) (h o p : ℕ) (s : Side)
    → is_shared header o ≡ true → MaySendUp header why host.0 object.0 m past → LockUpTo h o (last_control h o past) (lock_taken past)
    → Stepped (is_ready h o past) (step_in h o p (lock_taken past) (since (completes h o) past) (live_control h o past)) s
    → Stepped (is_ready h o (event.Sent (Up host object) m ∷ past)) (step_in h o p (lock_taken past)
    (completes h o (event.Sent (Up host object) m) || since (completes h o) past) (live_control h o (event.Sent (Up host object) m ∷ past)))
    (side_after s (if host.0 == h then (if object.0 == o then sent_act_effect p m else Nothing) else to_others
    (if object.0 == o then sent_act_effect p m else Nothing)))
sent header why host object (message.Init control size) past h o p s shared c up was =
    sent_init header host object control size past h o p s (λ is. at_place (λ g k. live_control g k past ≡ None) host.0 object.0 h o is c.none)
    (λ is. at_place (λ g k. last_control g k past < control) host.0 object.0 h o is (omega (arith, c.number))) up was
sent header why host object (message.Create control size) past h o p s shared c up was =
    let alone : (host.0 == h && object.0 == o) ≡ true → ⊥ = λ is. let less = shared_declared header o shared in let over = c.temporary in apart host.0 object.0
    h o is less over in
    sent_init header host object control size past h o p s (λ is. absurd (alone is)) (λ is. absurd (alone is)) up was
  where
    apart : (a b h o : ℕ) → (a == h && b == o) ≡ true → o < named header → named header ≤ b → ⊥
    apart a b h o is less over = grind (arith, nat_tests)
sent header why host object (message.Terminate control) past h o p s shared c up was =
    sent_terminate header host object control past h o p s (λ is. at_place (λ g k. live_control g k past ≡ Some control) host.0 object.0 h o is c.live) was
sent header why host object (message.Completed control page count) past h o p s shared c up was =
    sent_completed header host object control page.0 count past h o p s c was
sent header why host object (message.Request control page access) past h o p s shared c up was =
    sent_plain header host object past h o p control _ s (word_if (page.0 == p) (Asking control access) OtherUp tt tt) was
sent header why host object (message.Unlock control page access) past h o p s shared c up was =
    sent_plain header host object past h o p control _ s (word_if (page.0 == p) (Unlocking access) OtherUp tt tt) was
sent header why host object (message.Return control page dirty keep bytes) past h o p s shared c up was =
    sent_plain header host object past h o p control _ s (word_if (page.0 == p) (Returning dirty keep bytes) OtherUp tt tt) was
sent header why host object (message.Changed control cache strategy) past h o p s shared c up was =
    sent_plain header host object past h o p 0 OtherUp s tt was
sent header why host object m past h o p s shared c up was = absurd c

-- what a step took was for a control that began

lock_more : (h o n k : ℕ) (lock : Option LockRequest) → n ≤ k → LockUpTo h o n lock → LockUpTo h o k lock
lock_more h o n k None le up = tt
lock_more h o n k (Some r) le up = λ is. omega (arith, le, up is)

lock_if : (b : Bool) (h o n : ℕ) (r : LockRequest) → (b ≡ true → (r.host == h && r.object == o) ≡ true → r.control ≤ n)
    → LockUpTo h o n (if b then Some r else None)
lock_if true h o n r is = is refl
lock_if false h o n r is = tt

is_number : (k : ℕ) (live : Option ℕ) → is_control k live ≡ true → live ≡ Some k
is_number k None is = never is
is_number k (Some n) is = ap (λ x. Some x) (same n k is)
  where
    same : (a b : ℕ) → (a == b) ≡ true → a ≡ b
    same a b e = grind (arith, nat_tests)

lock_small : (header : Header) (outside : Outside) (past : List Event) → EachEvent (HasCause header outside) past → (h o : ℕ)
    → LockUpTo h o (last_control h o past) (lock_taken past)
lock_small header outside [] caused h o = tt
lock_small header outside (event.Line line ∷ past) caused h o = tt
lock_small header outside (event.Taken (Down host object control) (message.Lock page count returns flush lock reply) ∷ past) caused h o =
    lock_if (is_control control (live_control host.0 object.0 past)) h o (last_control h o past) _
    (λ is same. at_place (λ g k. control ≤ last_control g k past) host.0 object.0 h o same
    (omega (arith, (numbers_of header outside past caused.1).live host.0 object.0 control (is_number control (live_control host.0 object.0 past) is))))
lock_small header outside (event.Taken (Down host object control) m ∷ past) caused h o = tt
lock_small header outside (event.Taken (Up host object) m ∷ past) caused h o = tt
lock_small header outside (event.Sent channel m ∷ past) caused h o =
    lock_more h o (last_control h o past) _ (lock_taken past) (last_grows header outside (event.Sent channel m) past caused.0 h o)
    (lock_small header outside past caused.1 h o)
lock_small header outside (e ∷ past) caused h o = lock_small header outside past caused.1 h o

abbrev pub SteppedAt : Header → ℕ → ℕ → ℕ → List Event → Type 0
SteppedAt header h o p past =
    Stepped (is_ready h o past) (step_in h o p (lock_taken past) (since (completes h o) past) (live_control h o past)) (side h (page_part header.size o p past))

stepped_next : (header : Header) (outside : Outside) (e : Event) (past : List Event) → EachEvent (HasCause header outside) past → HasCause header outside e past
    → (h o p : ℕ) → is_shared header o ≡ true → SteppedAt header h o p past → SteppedAt header h o p (e ∷ past)
stepped_next header outside (event.Sent (Up host object) m) past caused c h o p shared was =
    sent header c.0 host object m past h o p _ shared c.1 (lock_small header outside past caused h o) was
stepped_next header outside (event.Sent (Down host object control) m) past caused c h o p shared was =
    mild_act _ _ (host.0 == h) _ _ (mild_if (object.0 == o) (SentDown control (down_word p m)) Nothing tt tt) was
stepped_next header outside (event.Taken (Up host object) m) past caused c h o p shared was = took_up_act _ _ (host.0 == h) (object.0 == o) (up_word p m) _ was
stepped_next header outside (event.Taken (Down host object control) m) past caused c h o p shared was =
    taken header host object control m past h o p _ (side h (page_part header.size o p past))
    (open_is (live_control h o past) (side h (page_part header.size o p past)) _ control
    (side_is_local header past h o p (unmerged header outside past caused o shared) (each_founded header outside past caused))) was
stepped_next header outside (event.Dropped host object page) past caused c h o p shared was =
    mild_act _ _ (host.0 == h) _ _ (mild_if (object.0 == o && page.0 == p) Drops Nothing tt tt) was
stepped_next header outside (event.Zeroed host object page) past caused c h o p shared was =
    mild_act _ _ (host.0 == h) _ _ (mild_if (object.0 == o && page.0 == p) (Puts (replicate header.size 0) false) Nothing tt tt) was
stepped_next header outside (event.Raised host lower lower_page upper upper_page) past caused c h o p shared was =
    mild_act _ _ (host.0 == h) _ _ (mild_if (upper.0 == o && upper_page.0 == p) _ Nothing tt tt) was
stepped_next header outside (event.BegunCopy task address bytes to) past caused c h o p shared was =
    mild_act _ _ (task_host task.0 past == h) (BeginsCopy task.0 (times_meant header.size (λ at. means_page header.size o p task.0 at past) address
    (bytes / header.size))) _ tt was
stepped_next header outside (event.CopiedPage task page object object_page target) past caused c h o p shared was =
    mild_act _ _ (task_host task.0 past == h) _ _ (mild_if (target.0 == o && page.0 == p) _ _ tt
    (mild_if (object.0 == o && object_page.0 == p) (Copies task.0) Nothing tt tt)) was
stepped_next header outside (event.CopyEnded task) past caused c h o p shared was = mild_act _ _ (task_host task.0 past == h) (EndsCopy task.0) _ tt was
stepped_next header outside (event.BegunLoad task address bytes) past caused c h o p shared was =
    mild_act _ _ (task_host task.0 past == h) _ _ (mild_if (means_page header.size o p task.0 address past)
    (Begins task.0 false (address % header.size) bytes 0) Nothing tt tt) was
stepped_next header outside (event.BegunStore task address bytes value) past caused c h o p shared was =
    mild_act _ _ (task_host task.0 past == h) _ _ (mild_if (means_page header.size o p task.0 address past)
    (Begins task.0 true (address % header.size) bytes value) Nothing tt tt) was
stepped_next header outside (event.Loaded task object page value) past caused c h o p shared was =
    mild_act _ _ (task_host task.0 past == h) _ _ (mild_if (object.0 == o && page.0 == p) (Loads task.0 value) Nothing tt tt) was
stepped_next header outside (event.Stored task object page at bytes value) past caused c h o p shared was =
    mild_act _ _ (task_host task.0 past == h) _ _ (mild_if (object.0 == o && page.0 == p) (Stores task.0 at bytes value) Nothing tt tt) was
stepped_next header outside (event.Failed task object page) past caused c h o p shared was =
    mild_act _ _ (task_host task.0 past == h) _ _ (mild_if (object.0 == o && page.0 == p) (Fails task.0) (EndsCopy task.0) tt tt) was
stepped_next header outside (event.Line line) past caused c h o p shared was = begun_act _ _ (0 == h) _ was
stepped_next header outside e past caused c h o p shared was = mild_act _ _ (0 == h) Nothing _ tt was

pub stepped_of : (header : Header) (outside : Outside) (past : List Event) → EachEvent (HasCause header outside) past → (h o p : ℕ) → is_shared header o ≡ true
    → SteppedAt header h o p past
stepped_of header outside [] caused h o p shared = record { ready = λ live. never live; step = refl }
stepped_of header outside (e ∷ past) caused h o p shared =
    stepped_next header outside e past caused.1 caused.0 h o p shared (stepped_of header outside past caused.1 h o p shared)
