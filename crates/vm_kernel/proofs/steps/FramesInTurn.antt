-- Frames in turn: how a queue changes where an access was run, and which frames were claimed.
use Rattle.vm_kernel.proofs.Common.{AreQueued, Attempts, BeganInOrder, Bool, ClaimsInTurn, Did, EachGone, EachListedOnce, EachOf, Event, ForAsked, ForZeros}
use Rattle.vm_kernel.proofs.Common.{Found, Goes, Header, Ids, IsEnd, IsReclaim, Joins, KeepsOthers, LeavesInTurn, List, None, Nothing, On, Option, Parts}
use Rattle.vm_kernel.proofs.Common.{QueueIsStill, Restarted, Restarts, RunsNobody, RunsNone, RunsNoneYet, RunsOnce, Some, Start, TaskId, Up, WaitTable, Waiting}
use Rattle.vm_kernel.proofs.Common.{Wants, Works, [], ap, append-nil, append_assoc, arith, begun_at, entry, eqb_tells, false, first_in_queue, frames_free}
use Rattle.vm_kernel.proofs.Common.{if◌then◌else◌, inl, inr, is_again, is_frame, is_listed, length, nat_lt, nat_tests, not, of_both, oldest_row, queue_without}
use Rattle.vm_kernel.proofs.Common.{queued, refl, reverse, reverse-append, same_others, subst, suc, sym, true, waits_for_frame, ℕ, ◌++◌, ◌==◌, ◌∙◌, ◌∷◌, ◌≡◌}
use Rattle.vm_kernel.proofs.Common.{◌≢◌, ◌⊎◌}
use Rattle.std.specs.Prelude.{◌<◌, ◌≤◌, ◌||◌}
use Rattle.vm_model.specs.declared.event.Event.TheVariants as event
use Rattle.vm_model.specs.declared.message.Message.TheVariants as message
use Rattle.vm_waits.specs.declared.waiting.On.TheVariants as on
use Rattle.vm_supply.specs.declared.woken.Woken.TheVariants as woken
use Rattle.vm_kernel.specs.Serving.{wants_frame}
use Rattle.vm_kernel.specs.Turns.{AreCopied, Filled, ForCopy, ForUnlock, IsFront, Leaves, NoPage, OnePage, Pages, RunsFront, Shadow, Stays, Unmark, Unserved}
use Rattle.vm_kernel.specs.declared.attempt.Attempt.{Attempt}
use Rattle.vm_kernel.specs.declared.attempt.Attempt.TheVariants as attempt
use Rattle.vm_kernel.proofs.steps.EventsGrow.{free_is}
use Rattle.vm_kernel.proofs.steps.RowsInOrder.{oldest_first}
use Rattle.std.proofs.lemmas.Bool.{or_left, or_right}
use Rattle.vm_kernel.proofs.memory.PagesShown.{itself}
use Rattle.vm_kernel.proofs.lists.ListsAsTold.{or_turned, plays_any, plays_both}
use Rattle.vm_kernel.specs.Plays.{Paging, Plays, PlaysBy, Sparing, SparesSource, Still, paging}

-- the queue

others_first : (task : TaskId) (queue : List TaskId) → EachListedOnce (task ∷ queue) → queue_without task.0 (task ∷ queue) ≡ queue
others_first task queue once = rw (itself task.0) (same_others task.0 queue once.0)

-- the first and those behind it
record Split (task : TaskId) (queue : List TaskId) : Type 0 where
  rest : List TaskId
  is : queue ≡ task ∷ rest

split : (task : TaskId) (queue : List TaskId) → first_in_queue queue ≡ Some task → Split task queue
split task [] is = absurd (let bad : None ≡ Some task = is in cc)
split task (x ∷ xs) is = record { rest = xs; is = ap (λ (z : TaskId). z ∷ xs) (let same : Some x ≡ Some task = is in cc) }

listed_push : (t : ℕ) (x : TaskId) (xs : List TaskId) → is_listed t (xs ++ x ∷ []) ≡ (x.0 == t || is_listed t xs)
listed_push t x [] = refl
listed_push t x (y ∷ ys) = rw (listed_push t x ys) (or_turned (y.0 == t) (x.0 == t) (is_listed t ys))

reverse_step : (x : TaskId) (xs : List TaskId) → reverse (x ∷ xs) ≡ reverse xs ++ x ∷ []
reverse_step x xs = reverse-append (x ∷ []) xs

listed_reverse : (t : ℕ) (xs : List TaskId) → is_listed t (reverse xs) ≡ is_listed t xs
listed_reverse t [] = refl
listed_reverse t (x ∷ xs) = ap (is_listed t) (reverse_step x xs) ∙ (listed_push t x (reverse xs) ∙ ap (λ z. x.0 == t || z) (listed_reverse t xs))

listed_mid : (task : TaskId) (xs rest : List TaskId) → is_listed task.0 (xs ++ task ∷ rest) ≡ true
listed_mid task [] rest = or_left (task.0 == task.0) (is_listed task.0 rest) (itself task.0)
listed_mid task (x ∷ xs) rest = or_right (x.0 == task.0) (is_listed task.0 (xs ++ task ∷ rest)) (listed_mid task xs rest)

-- one of a queue stands in front of it no second time
once_mid : (task : TaskId) (xs rest : List TaskId) → EachListedOnce (xs ++ task ∷ rest) → is_listed task.0 xs ≡ false
once_mid task [] rest once = refl
once_mid task (x ∷ xs) rest once = elim (eqb_tells x.0 task.0) [
  | inl same ↦ absurd (let bad : true ≡ false = sym (listed_mid task xs rest) ∙ (ap (λ z. is_listed z (xs ++ task ∷ rest)) (sym same.1) ∙ once.0) in cc)
  | inr apart ↦ rw apart.0 (once_mid task xs rest once.1)
]

apart_left : (task : TaskId) (left rest : List TaskId) (t : ℕ) → EachListedOnce (reverse left ++ task ∷ rest) → is_listed t left ≡ true → t ≢ task.0
apart_left task left rest t once there same =
    let bad : true ≡ false = sym there ∙ (ap (λ z. is_listed z left) same ∙ (sym (listed_reverse task.0 left) ∙ once_mid task (reverse left) rest once)) in cc

-- claims

pub did_kept : {rows rows2 : List Waiting} {earlier earlier2 : ℕ → Type 0} {task : TaskId} {claims : Bool} {own : List Event}
    → (claims ≡ true → entry rows2 task.0 ≡ entry rows task.0)
    → (claims ≡ true → (t : ℕ) → earlier2 t → earlier t × (entry rows2 t ≡ entry rows t)) → Did rows earlier task claims own
    → Did rows2 earlier2 task claims own
did_kept mine others (Nothing claims front is) = Nothing claims front is
did_kept mine others (Found front is end ends) = Found front is end ends
did_kept mine others (Unserved object page) = Unserved object page
did_kept mine others (Filled front copied address bytes region) = Filled front copied address bytes region
did_kept mine others (ForUnlock claims front is host key control access) = ForUnlock claims front is host key control access
did_kept mine others (ForZeros front is end host key ends) = ForZeros front is end host key ends
did_kept mine others (ForCopy front is end host lower upper ends) = ForCopy front is end host lower upper ends
did_kept mine others (ForAsked claims front is host key control steps row found waits none) =
    ForAsked claims front is host key control steps row (mine refl ∙ found) waits
    (λ t w early at. let one = others refl t early in none t w one.0 (sym one.1 ∙ at))

-- the rows of those who left are as they were
claims_kept : {header : Header} {past before : List Event} {old : Paging} {rows rows2 : List Waiting} {first : Option TaskId} {left : List TaskId}
    {events : List Event} {new : Paging} → ((t : ℕ) → is_listed t left ≡ true → entry rows2 t ≡ entry rows t)
    → ClaimsInTurn header past before old rows first left events new → ClaimsInTurn header past before old rows2 first left events new
claims_kept same (Stays first late new none plays) = Stays first late new none plays
claims_kept same (Leaves first task left claims late own early mid ran new before did ran_so none plays) =
    Leaves first task left claims late own early mid ran new
    (claims_kept (λ t there. same t (or_right (task.0 == t) (is_listed t left) there)) before)
    (did_kept (λ claiming. same task.0 (or_left (task.0 == task.0) (is_listed task.0 left) (itself task.0)))
    (λ claiming t there. (there, same t (or_right (task.0 == t) (is_listed t left) there))) did)
    ran_so
    none
    plays

-- more happens, but no access is run but the first of the queue, who copies pages
claims_late : {header : Header} {past before : List Event} {old : Paging} {rows : List Waiting} {first : Option TaskId} {left : List TaskId}
    {events : List Event} {mid : Paging} (more : List Event) (new : Paging) → EachOf (RunsFront first) more
    → PlaysBy header (SparesSource first) past (events ++ before) mid (more ++ (events ++ before)) new
    → ClaimsInTurn header past before old rows first left events mid → ClaimsInTurn header past before old rows first left (more ++ events) new
claims_late {header = header} {past = past} {before = before} {old = old} more new quiet plays (Stays first late mid none was) =
    Stays first (more ++ late) new (of_both (RunsFront first) more late quiet none)
    (subst (λ (z : List Event). PlaysBy header (SparesSource first) past before old z new) (sym (append_assoc more late before)) (plays_both was plays))
claims_late {header = header} {past = past} {before = before} {old = old} {rows = rows} more new quiet plays
    (Leaves first task left claims late own early start ran mid others did ran_so none was) =
    let behind = own ++ (early ++ before) in
    let same : (late ++ (own ++ early)) ++ before ≡ late ++ behind = append_assoc late (own ++ early) before
    ∙ ap (λ z. late ++ z) (append_assoc own early before) in
    let next : PlaysBy header (SparesSource first) past (late ++ behind) mid (more ++ (late ++ behind)) new = subst
    (λ (z : List Event). PlaysBy header (SparesSource first) past z mid (more ++ z) new) same plays in
    subst (λ (z : List Event). ClaimsInTurn header past before old rows first (task ∷ left) z new) (append_assoc more late (own ++ early))
    (Leaves first task left claims (more ++ late) own early start ran new others did ran_so (of_both (RunsFront first) more late quiet none)
    (subst (λ (z : List Event). PlaysBy header (SparesSource first) past behind ran z new) (sym (append_assoc more late behind)) (plays_both was next)))

-- nor is it by an event of no access
none_runs : (first : Option TaskId) (e : Event) → RunsNone e → RunsFront first e
none_runs first (event.CopiedPage task page object object_page target) bad = absurd bad
none_runs first e none = none

each_none : (first : Option TaskId) (events : List Event) → EachOf RunsNone events → EachOf (RunsFront first) events
each_none first [] all = tt
each_none first (e ∷ events) all = (none_runs first e all.0, each_none first events all.1)

gone_quiet : (h : ℕ) (e : Event) → IsReclaim h e → RunsNone e
gone_quiet h (event.Dropped at object page) is = tt
gone_quiet h (event.Sent (Up at object) (message.Create control size)) is = tt
gone_quiet h (event.Sent (Up at object) (message.Return control page dirty keep bytes)) is = tt
gone_quiet h other is = absurd is

each_quiet : (h : ℕ) (events : List Event) → EachOf (IsReclaim h) events → EachOf RunsNone events
each_quiet h [] all = tt
each_quiet h (e ∷ events) all = (gone_quiet h e all.0, each_quiet h events all.1)

-- a front runs nobody but whose it is
copied_quiet : {task : TaskId} {some : Bool} {front : List Event} → AreCopied task some front → EachOf (RunsFront (Some task)) front
copied_quiet NoPage = tt
copied_quiet (OnePage page object_page object target some front copied) = (refl, copied_quiet copied)

pub front_quiet : {task : TaskId} {claims : Bool} {front : List Event} → IsFront task claims front → EachOf (RunsFront (Some task)) front
front_quiet (Shadow region new old) = (tt, tt)
front_quiet (Unmark region) = (tt, tt)
front_quiet (Pages some front copied) = copied_quiet copied

-- nobody joins or leaves

pub quiet_none : (queue : List TaskId) (events : List Event) → QueueIsStill queue queue events events
quiet_none queue events = record { queue = refl; none = λ all. all }

pub quiet_both : (a b c : List TaskId) (before events after : List Event) → QueueIsStill a b before events → QueueIsStill b c events after
    → QueueIsStill a c before after
quiet_both a b c before events after one two = record { queue = two.queue ∙ one.queue; none = λ all. two.none (one.none all) }

pub quiet_more : (old new : List TaskId) (before after : List Event) (e : Event) → new ≡ old → after ≡ e ∷ before → RunsNone e
    → QueueIsStill old new before after
quiet_more old new before after e queue told none = record { queue = queue; none = λ all. subst (EachOf RunsNone) (sym told) (none, all) }

pub quiet_gone : (h : ℕ) (old new : WaitTable) (before after : List Event) → new ≡ old → EachGone h before after → QueueIsStill old.queue new.queue before after
quiet_gone h old new before after same gone =
    record {
      queue = ap (λ z. z.queue) same;
      none = λ all. subst (EachOf RunsNone) (sym gone.is)
          (of_both RunsNone gone.more before (each_quiet h gone.more gone.each) all);
    }

-- who waits for a page leaves no gap in the queue
pub quiet_unlisted : (rows : List Waiting) (old new : List TaskId) (w : Waiting) (before after : List Event) (e : Event) → AreQueued rows old
    → entry rows w.task.0 ≡ Some w → is_frame w.on ≡ false → new ≡ queue_without w.task.0 old → after ≡ e ∷ before → RunsNone e
    → QueueIsStill old new before after
quiet_unlisted rows old new w before after e line is other queue told none =
    quiet_more old new before after e (queue ∙ same_others w.task.0 old (line.listed w.task.0 ∙ (ap waits_for_frame is ∙ other))) told none

-- nobody is run, and one event stands there more
pub nobody_more : (old new : List TaskId) (before mid after : List Event) (e : Event) {now : List TaskId} → RunsNobody old new before mid → now ≡ new
    → after ≡ e ∷ mid → RunsNone e → RunsNobody old now before after
nobody_more old new before mid after e runs queue told none =
    record { queue = queue ∙ runs.queue; more = e ∷ runs.more; told = told ∙ ap (λ z. e ∷ z) runs.told; none = (none, runs.none) }

-- what a pager said was heeded, and nobody was run yet
pub unrun_after : (old new : List TaskId) (before after : List Event) → RunsNoneYet before → RunsNobody old new before after → RunsNoneYet after
unrun_after old new before after yet runs = record {
  late = runs.more ++ yet.late;
  first = yet.first;
  is = runs.told ∙ (ap (λ z. runs.more ++ z) yet.is ∙ sym (append_assoc runs.more yet.late yet.first));
  none = of_both RunsNone runs.more yet.late runs.none yet.none;
  brought = yet.brought;
}

-- running again

-- nothing was brought
pub unrun : (events : List Event) → EachOf RunsNone events → RunsNoneYet events
unrun events none = record { late = events; first = []; is = sym (append-nil events); none = none; brought = tt }

pub restarts_quiet : (header : Header) (h : ℕ) (rows : List Waiting) (past : List Event) (old new : List TaskId) (before after : List Event) → before ≡ []
    → QueueIsStill old new before after → Restarted header h rows past old new after
restarts_quiet header h rows past old new before after nothing quiet =
    subst (λ (z : List TaskId). Restarted header h rows past old z after) (sym quiet.queue)
    (0, Start after (unrun after (quiet.none (subst (EachOf RunsNone) (sym nothing) tt))))

-- what was done before ran nobody
pub restarts_behind : (header : Header) (h : ℕ) (rows : List Waiting) (past : List Event) (old mid new : List TaskId) (before events after : List Event)
    → before ≡ [] → QueueIsStill old mid before events → (RunsNoneYet events → Restarted header h rows past mid new after)
    → Restarted header h rows past old new after
restarts_behind header h rows past old mid new before events after nothing quiet restarts =
    subst (λ (z : List TaskId). Restarted header h rows past z new after) quiet.queue
    (restarts (unrun events (quiet.none (subst (EachOf RunsNone) (sym nothing) tt))))

-- running an access begins none
end_begun : (t task : ℕ) (end : Event) (past : List Event) → IsEnd task end → begun_at t (end ∷ past) ≡ begun_at t past
end_begun t task (event.Loaded owner object page value) past is = refl
end_begun t task (event.Stored owner object page at bytes value) past is = refl
end_begun t task other past is = absurd is

-- nor does a front
copied_begun : {task : TaskId} {some : Bool} {front : List Event} (t : ℕ) (events past : List Event) → AreCopied task some front
    → begun_at t ((front ++ events) ++ past) ≡ begun_at t (events ++ past)
copied_begun t events past NoPage = refl
copied_begun t events past (OnePage page object_page object target some front copied) = copied_begun t events past copied

front_begun : {task : TaskId} {claims : Bool} {front : List Event} (t : ℕ) (events past : List Event) → IsFront task claims front
    → begun_at t ((front ++ events) ++ past) ≡ begun_at t (events ++ past)
front_begun t events past (Shadow region new old) = refl
front_begun t events past (Unmark region) = refl
front_begun t events past (Pages some front copied) = copied_begun t events past copied

did_begun : {rows : List Waiting} {earlier : ℕ → Type 0} {task : TaskId} {claims : Bool} {own : List Event} (t : ℕ) (events past : List Event)
    → Did rows earlier task claims own → begun_at t ((own ++ events) ++ past) ≡ begun_at t (events ++ past)
did_begun t events past (Nothing claims front is) = front_begun t events past is
did_begun {task = task} t events past (Found front is end ends) = end_begun t task.0 end ((front ++ events) ++ past) ends ∙ front_begun t events past is
did_begun t events past (Unserved object page) = refl
did_begun t events past (Filled front copied address bytes region) = copied_begun t events past copied
did_begun t events past (ForUnlock claims front is host key control access) = front_begun t events past is
did_begun {task = task} t events past (ForZeros front is end host key ends) =
    end_begun t task.0 end (event.Zeroed host key.object key.page ∷ ((front ++ events) ++ past)) ends ∙ front_begun t events past is
did_begun {task = task} t events past (ForCopy front is end host lower upper ends) =
    end_begun t task.0 end (event.Raised host lower.object lower.page upper.object upper.page ∷ ((front ++ events) ++ past)) ends ∙ front_begun t events past is
did_begun t events past (ForAsked claims front is host key control steps row found waits none) = front_begun t events past is

unlisted : (t : ℕ) (task : TaskId) (queue : List TaskId) → (task.0 ≡ t → ⊥) → is_listed t queue ≡ false → is_listed t (queue ++ task ∷ []) ≡ false
unlisted t task queue apart out = elim (eqb_tells task.0 t) [
  | inl same ↦ absurd (apart same.1)
  | inr other ↦ listed_push t task queue ∙ (rw other.0 out)
]

-- the rows of those who were run and don't queue are as they were
restarts_kept : (h : ℕ) → {header : Header} {rows rows2 : List Waiting} {past : List Event} {q : List TaskId} {from : ℕ} {queue : List TaskId}
    {events : List Event} → ((t : ℕ) → begun_at t (events ++ past) < from → is_listed t queue ≡ false → entry rows2 t ≡ entry rows t)
    → Restarts header h rows past q from queue events → Restarts header h rows2 past q from queue events
restarts_kept h same (Start events none) = Start events none
restarts_kept h {past = past} same (Joins task from queue claims front events was le is alone wants mine why) =
    let low = λ (t : ℕ) (below : begun_at t (events ++ past) < suc (begun_at task.0 (events ++ past))). subst
    (λ (z : ℕ). z < suc (begun_at task.0 (events ++ past))) (sym (front_begun t events past is)) below in
    Joins task from queue claims front events
    (restarts_kept h (λ t below out. same t (low t (omega arith)) (unlisted t task queue
    (λ at. (let even : begun_at task.0 (events ++ past) ≡ begun_at t (events ++ past) = ap (λ z. begun_at z (events ++ past)) at in omega arith)) out)) was)
    le
    is
    alone
    wants
    mine
    why
restarts_kept h {rows = rows} {rows2 = rows2} {past = past} same (Goes task from queue claims own events was le did none) =
    let low = λ (t : ℕ) (below : begun_at t (events ++ past) < suc (begun_at task.0 (events ++ past))). subst
    (λ (z : ℕ). z < suc (begun_at task.0 (events ++ past))) (sym (did_begun t events past did)) below in
    let out = λ (t : ℕ) (claiming : claims ≡ true). (let empty : is_listed t queue ≡ false = ap (is_listed t) (none claiming) in empty) in
    Goes task from queue claims own events
    (restarts_kept h (λ t below gone. same t (low t (omega arith)) gone) was)
    le
    (did_kept (λ claiming. same task.0 (low task.0 (omega arith)) (out task.0 claiming))
    (λ claiming t early. (early, same t (low t (omega arith)) (out t claiming))) did)
    none

-- so far; and whoever is still to be run again began later
pub record Restarting (header : Header) (h : ℕ) (past : List Event) (q : List TaskId) (now : WaitTable) (events : List Event) : Type 0 where
  pub from : ℕ
  pub runs : Restarts header h now.rows past q from now.queue events
  pub later : (t : ℕ) (v : Waiting) → entry now.rows t ≡ Some v → is_again v.on ≡ true → from ≤ begun_at t (events ++ past)

pub restarts_none : (header : Header) (h : ℕ) (past : List Event) (now : WaitTable) (events : List Event) → RunsNoneYet events
    → Restarting header h past now.queue now events
restarts_none header h past now events none = record { from = 0; runs = Start events none; later = λ t v is again. omega arith }

pub again_other : (reason : On) → is_again reason ≡ true → is_frame reason ≡ false
again_other on.Again is = refl
again_other (on.Ready object) is = refl
again_other (on.Page key) is = refl
again_other (on.Push key) is = refl
again_other on.Frame is = absurd (let bad : false ≡ true = is in cc)

-- who may claim none is run behind a queue, and who may behind none
queue_some : (queue : List TaskId) (rows : List Waiting) (may : Bool) → may ≡ false → AreQueued rows queue → may ≡ not (nat_lt 0 (queued rows)) → queue ≢ []
queue_some queue rows may is line may_is empty =
    let long : length queue ≡ 0 = ap length empty in
    let none : nat_lt 0 (queued rows) ≡ false = let even = line.even in grind (arith, nat_tests) in
    absurd (let bad : false ≡ true = sym is ∙ (may_is ∙ ap not none) in cc)

queue_none : (queue : List TaskId) (rows : List Waiting) (may : Bool) → may ≡ true → AreQueued rows queue → may ≡ not (nat_lt 0 (queued rows)) → queue ≡ []
queue_none [] rows may is line may_is = refl
queue_none (x ∷ xs) rows may is line may_is =
    let some : nat_lt 0 (queued rows) ≡ true = let even = line.even in grind (arith, nat_tests) in
    absurd (let bad : true ≡ false = sym is ∙ (may_is ∙ ap not some) in cc)

-- an access wants a frame still: where it may claim one, none is free
pub record Wanting (header : Header) (h : ℕ) (w : Waiting) (may : Bool) (past : List Event) : Type 0 where
  pub wants : Wants header h past
  pub mine : wants.task ≡ w.task.0
  pub none : may ≡ true → frames_free header h past ≡ 0

pub wanting_of : (header : Header) (h : ℕ) (w : Waiting) (may : Bool) (answer : Attempt) (old new : Parts) (ids : Ids) (before after : List Event)
    → Works header h new ids woken.Nobody after → Attempts header h w may answer old new before after → wants_frame answer ≡ true
    → Wanting header h w may after
wanting_of header h w may (attempt.Wants source) old new ids before after now joins wants =
    record { wants = joins.wants; mine = joins.mine; none = λ can. free_is header h new.memory.frames after now.matches.core.pages.counted ∙ joins.none can }
wanting_of header h w may attempt.Ran old new ids before after now ran wants = absurd (let clash : false ≡ true = wants in cc)

-- what stands in front of a run of the oldest
pub record Next (past : List Event) (w : Waiting) (may_claim : Bool) (now : WaitTable) (events : List Event) : Type 0 where
  pub order : BeganInOrder (λ task. begun_at task (events ++ past)) 0 now.rows
  pub oldest : oldest_row is_again now.rows ≡ Some w
  pub line : AreQueued now.rows now.queue
  pub row : entry now.rows w.task.0 ≡ Some w
  pub again : is_again w.on ≡ true
  pub may : may_claim ≡ not (nat_lt 0 (queued now.rows))

goes_on : (header : Header) (h : ℕ) (past : List Event) (q : List TaskId) (w : Waiting) (may wants : Bool) (old new : WaitTable) (before after : List Event)
    (from : ℕ) → Restarts header h new.rows past q from old.queue before → from ≤ begun_at w.task.0 (before ++ past) → Next past w may old before
    → (run : RunsOnce w may wants old new before after) → (wants ≡ true → Wanting header h w may (after ++ past))
    → Restarts header h new.rows past q (suc (begun_at w.task.0 (before ++ past))) new.queue after
goes_on header h past q w may true old new before after from was le next run wanting =
    let queue : new.queue ≡ old.queue ++ w.task ∷ [] = subst (λ (z : Bool). new.queue ≡ (if z then old.queue else old.queue ++ w.task ∷ []))
    (again_other w.on next.again) run.queue in
    let now : Wanting header h w may ((run.more ++ before) ++ past) = subst (λ (z : List Event). Wanting header h w may (z ++ past)) run.told (wanting refl) in
    subst (λ (z : List TaskId). Restarts header h new.rows past q (suc (begun_at w.task.0 (before ++ past))) z after) (sym queue)
    (subst (λ (z : List Event). Restarts header h new.rows past q (suc (begun_at w.task.0 (before ++ past))) (old.queue ++ w.task ∷ []) z) (sym run.told)
    (Joins w.task from old.queue run.claims run.more before was le (run.nothing refl) (empty may refl) now.wants now.mine (why may refl now.none)))
  where
    empty : (b : Bool) → may ≡ b → run.claims ≡ true → old.queue ≡ []
    empty true is claiming = queue_none old.queue old.rows may is next.line next.may
    empty false is claiming = absurd (let bad : true ≡ false = sym claiming ∙ run.none is in cc)

    why : (b : Bool) → may ≡ b → (may ≡ true → frames_free header h ((run.more ++ before) ++ past) ≡ 0) → (old.queue ≢ [])
        ⊎ (frames_free header h ((run.more ++ before) ++ past) ≡ 0)
    why true is none = inr (none is)
    why false is none = inl (queue_some old.queue old.rows may is next.line next.may)
goes_on header h past q w may false old new before after from was le next run wanting =
    let queue : new.queue ≡ old.queue = run.queue ∙ same_others w.task.0 old.queue
    (next.line.listed w.task.0 ∙ (ap waits_for_frame next.row ∙ again_other w.on next.again)) in
    let apart = λ (t : ℕ) (early : begun_at t (before ++ past) < begun_at w.task.0 (before ++ past))
    (same : t ≡ w.task.0). (let even : begun_at t (before ++ past) ≡ begun_at w.task.0 (before ++ past) = ap (λ z. begun_at z (before ++ past))
    same in let bad : ⊥ = omega (arith, early, even) in bad) in
    let did = did_kept (λ claiming. refl) (λ claiming t early. (apart t early, refl)) run.did in
    subst (λ (z : List TaskId). Restarts header h new.rows past q (suc (begun_at w.task.0 (before ++ past))) z after) (sym queue)
    (subst (λ (z : List Event). Restarts header h new.rows past q (suc (begun_at w.task.0 (before ++ past))) old.queue z) (sym run.told)
    (Goes w.task from old.queue run.claims run.more before was le did (λ claiming. empty may refl claiming)))
  where
    empty : (b : Bool) → may ≡ b → run.claims ≡ true → old.queue ≡ []
    empty true is claiming = queue_none old.queue old.rows may is next.line next.may
    empty false is claiming = absurd (let bad : true ≡ false = sym claiming ∙ run.none is in cc)

pub restarts_more : (header : Header) (h : ℕ) (past : List Event) (q : List TaskId) (w : Waiting) (may wants : Bool) (old new : WaitTable)
    (before after : List Event) → Restarting header h past q old before → Next past w may old before → RunsOnce w may wants old new before after
    → (wants ≡ true → Wanting header h w may (after ++ past)) → Restarting header h past q new after
restarts_more header h past q w may wants old new before after was next run wanting =
    let le = was.later w.task.0 w next.row next.again in
    let kept = restarts_kept h (λ t low out. run.rest t (λ same. (let even : begun_at t (before ++ past) ≡ begun_at w.task.0 (before ++ past) = ap
    (λ z. begun_at z (before ++ past)) same in omega arith))) was.runs in
    record {
      from = suc (begun_at w.task.0 (before ++ past));
      runs = goes_on header h past q w may wants old new before after was.from kept le next run wanting;
      later = λ t v is again.
          let apart : w.task.0 ≡ t → ⊥ = λ same. let bad : true ≡ false = sym again ∙ run.done v (ap (entry new.rows) same ∙ is) in cc in
          let there : entry old.rows t ≡ Some v = sym (run.rest t (λ same. apart (sym same))) ∙ is in
          let less = oldest_first (λ task. begun_at task (before ++ past)) is_again 0 t old.rows w v next.order next.oldest there again apart in
          let same : begun_at t (after ++ past) ≡ begun_at t (before ++ past) = ap (λ z. begun_at t (z ++ past)) run.told ∙ did_begun t before past run.did in
          omega arith;
    }

-- leaving

-- the queue as it was, or some have left
abbrev pub Serving : Header → List Event → Parts → Parts → List Event → List Event → Type 0
Serving header past start now before events = ((now ≡ start) × (events ≡ before)) ⊎ LeavesInTurn header past start now before events

pub leaves_of : (header : Header) (past : List Event) (start now : Parts) (before events : List Event) → Serving header past start now before events
    → AreQueued now.waits.rows now.waits.queue → LeavesInTurn header past start now before events
leaves_of header past start now before events (inr leaves) line = leaves
leaves_of header past start now before events (inl (same, told)) line =
    record {
      left = [];
      queue = sym (ap (λ (z : Parts). z.waits.queue) same);
      once = subst (λ (z : Parts). EachListedOnce z.waits.queue) same line.once;
      served = [];
      told = told;
      turns =
          Stays (first_in_queue now.waits.queue) [] (paging now) tt (subst (λ (z : Parts). PlaysBy header (SparesSource (first_in_queue now.waits.queue)) past
          before (paging z) before (paging now)) same Still);
    }

-- by the events that were added
told_plays : {header : Header} {by : Sparing} {past after : List Event} {old new : Paging} (start served more before : List Event) → before ≡ served ++ start
    → after ≡ more ++ before → PlaysBy header by past before old after new
    → PlaysBy header by past (served ++ start) old (more ++ (served ++ start)) new
told_plays {header = header} {by = by} {past = past} {old = old} {new = new} start served more before was told plays =
    subst (λ (z : List Event). PlaysBy header by past z old (more ++ z) new) was (subst (λ (z : List Event). PlaysBy header by past before old z new) told
    plays)

-- who left did so in front of the one that stands first now
turns_kept : {header : Header} {past before : List Event} {start mid : Paging} (w : Waiting) (old new : WaitTable) (left : List TaskId) (served : List Event)
    → first_in_queue old.queue ≡ Some w.task → ((t : ℕ) → is_listed t left ≡ true → entry new.rows t ≡ entry old.rows t)
    → ClaimsInTurn header past before start old.rows (first_in_queue old.queue) left served mid
    → ClaimsInTurn header past before start new.rows (Some w.task) left served mid
turns_kept {header = header} {past = past} {before = before} {start = start} {mid = mid} w old new left served front same turns =
    claims_kept same (subst (λ (z : Option TaskId). ClaimsInTurn header past before start old.rows z left served mid) front turns)

-- the front was run
pub leaves_ran : (header : Header) (past : List Event) (q old new : Parts) (w : Waiting) (may wants : Bool) (start before after : List Event)
    → LeavesInTurn header past q old start before → AreQueued old.waits.rows old.waits.queue → first_in_queue old.waits.queue ≡ Some w.task
    → is_frame w.on ≡ true → RunsOnce w may wants old.waits new.waits before after → Plays header past before (paging old) after (paging new)
    → LeavesInTurn header past q new start after
leaves_ran header past q old new w may true start before after was line front frame run plays =
    let s = split w.task old.waits.queue front in
    let same : new.waits.queue ≡ old.waits.queue = subst (λ (z : Bool). new.waits.queue ≡ (if z then old.waits.queue else old.waits.queue ++ w.task ∷ [])) frame
    run.queue in
    let once : EachListedOnce (reverse was.left ++ w.task ∷ s.rest) = subst EachListedOnce (was.queue ∙ ap (λ z. reverse was.left ++ z) s.is) was.once in
    record {
      left = was.left;
      queue = was.queue ∙ ap (λ z. reverse was.left ++ z) (sym same);
      once = was.once;
      served = run.more ++ was.served;
      told = run.told ∙ (ap (λ z. run.more ++ z) was.told ∙ sym (append_assoc run.more was.served start));
      turns =
          subst (λ (z : Option TaskId). ClaimsInTurn header past start (paging q) new.waits.rows z was.left (run.more ++ was.served) (paging new))
          (sym (ap first_in_queue same ∙ front))
          (claims_late run.more (paging new) (front_quiet (run.nothing refl)) (plays_any (SparesSource (Some w.task))
          (told_plays start was.served run.more before was.told run.told plays))
          (turns_kept w old.waits new.waits was.left was.served front (λ t there. run.rest t (apart_left w.task was.left s.rest t once there)) was.turns));
    }
leaves_ran header past q old new w may false start before after was line front frame run plays =
    let s = split w.task old.waits.queue front in
    let once : EachListedOnce (reverse was.left ++ w.task ∷ s.rest) = subst EachListedOnce (was.queue ∙ ap (λ z. reverse was.left ++ z) s.is) was.once in
    let rest : new.waits.queue ≡ s.rest = run.queue ∙ (ap (queue_without w.task.0) s.is ∙ others_first w.task s.rest (subst EachListedOnce s.is line.once)) in
    record {
      left = w.task ∷ was.left;
      queue =
          was.queue ∙ (ap (λ z. reverse was.left ++ z) s.is
          ∙ (sym (append_assoc (reverse was.left) (w.task ∷ []) s.rest)
          ∙ (ap (λ z. z ++ s.rest) (sym (reverse_step w.task was.left)) ∙ ap (λ z. reverse (w.task ∷ was.left) ++ z) (sym rest))));
      once = was.once;
      served = run.more ++ was.served;
      told = run.told ∙ (ap (λ z. run.more ++ z) was.told ∙ sym (append_assoc run.more was.served start));
      turns =
          Leaves (first_in_queue new.waits.queue) w.task was.left run.claims [] run.more was.served (paging old) (paging new) (paging new)
          (turns_kept w old.waits new.waits was.left was.served front (λ t there. run.rest t (apart_left w.task was.left s.rest t once there)) was.turns)
          (did_kept (λ claiming. refl) (λ claiming t there. (apart_left w.task was.left s.rest t once there, refl)) run.did)
          (told_plays start was.served run.more before was.told run.told plays)
          tt
          Still;
    }

-- pages were reclaimed for the front
pub leaves_gone : (header : Header) (h : ℕ) (past : List Event) (q old new : Parts) (start before after : List Event)
    → LeavesInTurn header past q old start before → new.waits ≡ old.waits → EachGone h before after
    → PlaysBy header (SparesSource (first_in_queue old.waits.queue)) past before (paging old) after (paging new) → LeavesInTurn header past q new start after
leaves_gone header h past q old new start before after was same gone plays =
    let first = first_in_queue old.waits.queue in
    let turns = claims_late gone.more (paging new) (each_none first gone.more (each_quiet h gone.more gone.each))
    (told_plays start was.served gone.more before was.told gone.is plays) was.turns in
    record {
      left = was.left;
      queue = was.queue ∙ ap (λ (z : WaitTable). reverse was.left ++ z.queue) (sym same);
      once = was.once;
      served = gone.more ++ was.served;
      told = gone.is ∙ (ap (λ z. gone.more ++ z) was.told ∙ sym (append_assoc gone.more was.served start));
      turns =
          subst (λ (z : WaitTable). ClaimsInTurn header past start (paging q) z.rows (first_in_queue z.queue) was.left (gone.more ++ was.served) (paging new))
          (sym same) turns;
    }

-- the row of the front alone is another
pub others_ran : (header : Header) (past : List Event) (q old new : Parts) (w : Waiting) (may wants : Bool) (first_rows : List Waiting)
    (start before after : List Event) → LeavesInTurn header past q old start before → first_in_queue old.waits.queue ≡ Some w.task
    → RunsOnce w may wants old.waits new.waits before after → KeepsOthers q.waits.queue first_rows old.waits.rows
    → KeepsOthers q.waits.queue first_rows new.waits.rows
others_ran header past q old new w may wants first_rows start before after was front run kept = λ t out.
    let s = split w.task old.waits.queue front in
    let there : is_listed w.task.0 q.waits.queue ≡ true = ap (is_listed w.task.0) (was.queue ∙ ap (λ z. reverse was.left ++ z) s.is)
    ∙ listed_mid w.task (reverse was.left) s.rest in
    run.rest t (λ same. (let bad : true ≡ false = sym there ∙ (ap (λ z. is_listed z q.waits.queue) (sym same) ∙ out) in cc)) ∙ kept t out

pub others_gone : (q : List TaskId) (first_rows : List Waiting) (old new : WaitTable) → new ≡ old → KeepsOthers q first_rows old.rows
    → KeepsOthers q first_rows new.rows
others_gone q first_rows old new same kept = subst (λ (z : WaitTable). KeepsOthers q first_rows z.rows) (sym same) kept
