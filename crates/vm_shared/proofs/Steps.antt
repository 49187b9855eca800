-- No lock of a shared page is under way behind a step that paid.
use Rattle.std.proofs.Common.{ℕ, ◌≡◌, ◌∙◌, List, [], ◌∷◌, Bool, true, false, refl, subst, arith, Option, Some, None, if◌then◌else◌, replicate}
use Rattle.std.proofs.lemmas.Bool.Decides.{nat_tests}
use Rattle.std.specs.Prelude.{◌==◌, ◌&&◌, ◌%◌, not}
use Rattle.vm_model.specs.declared.event.Event.{Event}
use Rattle.vm_model.specs.declared.event.Event.TheVariants as event
use Rattle.vm_model.specs.declared.message.Channel.TheVariants.{Up, Down}
use Rattle.vm_model.specs.declared.message.Message.{Message}
use Rattle.vm_model.specs.declared.script.Header.{Header}
use Rattle.vm_model.specs.Coherence.{Done, StepsDone, begins_step}
use Rattle.vm_model.specs.Controls.{is_control, live_control}
use Rattle.vm_model.specs.Moments.{BeforeSteps, EachEvent}
use Rattle.vm_model.specs.PagePart.{page_part}
use Rattle.vm_model.specs.Side.{kind_of, side}
use Rattle.vm_model.specs.TaskPlace.{means_page, task_host}
use Rattle.vm_model.specs.Words.{ActEffect, Begins, Copies, Drops, EndsCopy, Fails, Loads, Nothing, Puts, SendsUp, SentDown, StepBegins, Stores, TakenUp}
use Rattle.vm_model.specs.Words.{TakesDown, act_of, down_word, sent_act_effect}
use Rattle.vm_legal.specs.Debts.{IsPaid}
use Rattle.vm_legal.specs.Licences.{HasCause, LockRequest, is_answered_over, lock_taken}
use Rattle.vm_legal.specs.Outside.{Outside, is_shared}
use Rattle.vm_legal.specs.Steps.{completes, since}
use Rattle.vm_quiet.proofs.Letters.{never}
use Rattle.vm_shared.proofs.Rows.{behind_step}
use Rattle.vm_shared.proofs.Stepped.{step_in, stepped_of}

-- a step that has paid has done the lock that it took

told_done : (header : Header) (h o p : ℕ) (past : List Event) (request : LockRequest) → IsPaid header past → lock_taken past ≡ Some request
    → is_answered_over h o p (Some request) ≡ true → since (completes h o) past ≡ true
told_done header h o p past request paid taken is =
    subst (λ x. since (completes h x) past ≡ true) (its request is) (subst (λ x. since (completes x request.object) past ≡ true) (own request is)
    ((paid.lock request taken).reply (wanted request is)))
  where
    wanted : (request : LockRequest) → is_answered_over h o p (Some request) ≡ true → request.reply ≡ true
    wanted request is = grind (arith, nat_tests)

    own : (request : LockRequest) → is_answered_over h o p (Some request) ≡ true → request.host ≡ h
    own request is = grind (arith, nat_tests)

    its : (request : LockRequest) → is_answered_over h o p (Some request) ≡ true → request.object ≡ o
    its request is = grind (arith, nat_tests)

paid_step : (header : Header) (h o p : ℕ) (past : List Event) → IsPaid header past
    → step_in h o p (lock_taken past) (since (completes h o) past) (live_control h o past) ≡ 0
paid_step header h o p past paid = by (lock_taken past) refl
  where
    by : (taken : Option LockRequest) → lock_taken past ≡ taken → step_in h o p taken (since (completes h o) past) (live_control h o past) ≡ 0
    by None e = refl
    by (Some r) e =
        behind_step h o p (Some r) (since (completes h o) past) (live_control h o past) (told_done header h o p past r paid e)

pub done_now : (header : Header) (outside : Outside) (o p : ℕ) (past : List Event) → is_shared header o ≡ true → EachEvent (HasCause header outside) past
    → IsPaid header past → Done (page_part header.size o p past)
done_now header outside o p past shared c paid h = (stepped_of header outside past c h o p shared).step ∙ paid_step header h o p past paid

-- what neither sends up nor begins a step
abbrev pub IsCalm : ActEffect → Type 0
IsCalm (SendsUp control word) = ⊥
IsCalm (TakenUp word) = ⊥
IsCalm (TakesDown control word) = ⊥
IsCalm StepBegins = ⊥
IsCalm e = Unit {0}

calm_if : (b : Bool) (e f : ActEffect) → IsCalm e → IsCalm f → IsCalm (if b then e else f)
calm_if true e f one two = one
calm_if false e f one two = two

-- only these begin a step
calm_begins : (b : Bool) (e : ActEffect) → IsCalm e → begins_step (if b then e else Nothing) ≡ true → ⊥
calm_begins true e calm is = one e calm is
  where
    one : (e : ActEffect) → IsCalm e → begins_step e ≡ true → ⊥
    one e calm is = grind arith
calm_begins false e calm is = never is

sent_begins : (b : Bool) (p : ℕ) (m : Message) → begins_step (if b then sent_act_effect p m else Nothing) ≡ true → ⊥
sent_begins true p m is = one p m is
  where
    one : (p : ℕ) (m : Message) → begins_step (sent_act_effect p m) ≡ true → ⊥
    one p m is = grind arith
sent_begins false p m is = never is

-- each step that begins has one behind it that has paid
step_paid : (header : Header) (o p : ℕ) (host_of : ℕ → ℕ) (means : ℕ → ℕ → Bool) (held : ℕ → ℕ → ℕ → List ℕ) (e : Event) (past : List Event)
    → BeforeSteps (IsPaid header) (e ∷ past) → begins_step (act_of header.size o p host_of means held e).effect ≡ true → IsPaid header past
step_paid header o p host_of means held (event.Line line) past b is = b.0
step_paid header o p host_of means held (event.Taken channel m) past b is = b.0
step_paid header o p host_of means held (event.Sent (Up host object) m) past b is = absurd (sent_begins (object.0 == o) p m is)
step_paid header o p host_of means held (event.Sent (Down host object control) m) past b is =
    absurd (calm_begins (object.0 == o) (SentDown control (down_word p m)) tt is)
step_paid header o p host_of means held (event.Dropped host object page) past b is = absurd (calm_begins (object.0 == o && page.0 == p) Drops tt is)
step_paid header o p host_of means held (event.Zeroed host object page) past b is =
    absurd (calm_begins (object.0 == o && page.0 == p) (Puts (replicate header.size 0) false) tt is)
step_paid header o p host_of means held (event.Raised host lower lower_page upper upper_page) past b is =
    absurd (calm_begins (upper.0 == o && upper_page.0 == p) (Puts (held host.0 lower.0 lower_page.0) true) tt is)
step_paid header o p host_of means held (event.CopiedPage task page object object_page target) past b is =
    absurd (calm_begins true (if target.0 == o && page.0 == p then Puts (held (host_of task.0) object.0 object_page.0) true else
    (if object.0 == o && object_page.0 == p then Copies task.0 else Nothing))
    (calm_if (target.0 == o && page.0 == p) _ _ tt (calm_if (object.0 == o && object_page.0 == p) _ _ tt tt)) is)
step_paid header o p host_of means held (event.BegunLoad task address bytes) past b is =
    absurd (calm_begins (means task.0 address) (Begins task.0 false (address % header.size) bytes 0) tt is)
step_paid header o p host_of means held (event.BegunStore task address bytes value) past b is =
    absurd (calm_begins (means task.0 address) (Begins task.0 true (address % header.size) bytes value) tt is)
step_paid header o p host_of means held (event.Loaded task object page value) past b is =
    absurd (calm_begins (object.0 == o && page.0 == p) (Loads task.0 value) tt is)
step_paid header o p host_of means held (event.Stored task object page at bytes value) past b is =
    absurd (calm_begins (object.0 == o && page.0 == p) (Stores task.0 at bytes value) tt is)
step_paid header o p host_of means held (event.Failed task object page) past b is =
    absurd (calm_begins true (if object.0 == o && page.0 == p then Fails task.0 else EndsCopy task.0) (calm_if (object.0 == o && page.0 == p) _ _ tt tt) is)
step_paid header o p host_of means held e past b is = never is

steps_past : (P : List Event → Type 0) (e : Event) (past : List Event) → BeforeSteps P (e ∷ past) → BeforeSteps P past
steps_past P (event.Line line) past b = b.1
steps_past P (event.Taken channel m) past b = b.1
steps_past P e past b = b

pub steps_done : (header : Header) (outside : Outside) (o p : ℕ) (history : List Event) → is_shared header o ≡ true
    → EachEvent (HasCause header outside) history → BeforeSteps (IsPaid header) history → StepsDone (page_part header.size o p history)
steps_done header outside o p [] shared c b = tt
steps_done header outside o p (e ∷ past) shared c b = (
  λ begins. done_now header outside o p past shared c.1 (step_paid header o p (λ task. task_host task past)
      (λ task address. means_page header.size o p task address past) (λ host object page. (side host (page_part header.size object page past)).bytes) e past b
      begins),
  steps_done header outside o p past shared c.1 (steps_past (IsPaid header) e past b),
)
