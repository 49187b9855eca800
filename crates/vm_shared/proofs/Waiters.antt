-- Whoever waits for a page of shared memory is noted in the page's part: a load or a store among its waiters, a slow copy among its readers.
use Rattle.std.proofs.Common.{ℕ, zero, suc, ◌≡◌, ◌+◌, ◌-◌, ◌*◌, ◌/◌, ◌%◌, ◌<◌, ◌≤◌, List, [], ◌∷◌, ◌++◌, filter, replicate, Bool, true, false, Option, Some}
use Rattle.std.proofs.Common.{None, if◌then◌else◌, refl, sym, ap, subst, ◌∙◌, arith, not}
use Rattle.std.proofs.lemmas.Bool.Decides.{nat_tests}
use Rattle.std.specs.Prelude.{◌==◌, ◌&&◌, ◌||◌}
use Rattle.std.proofs.lemmas.Bool.{cond-false, cond-true}
use Rattle.vm_base.specs.declared.entry.Entry.{Entry}
use Rattle.vm_base.specs.declared.ids.ObjectId.{ObjectId}
use Rattle.vm_base.specs.declared.ids.PageNo.{PageNo}
use Rattle.vm_base.specs.declared.ids.TaskId.{TaskId}
use Rattle.vm_base.specs.Entries.{entry_at, page_at}
use Rattle.vm_model.specs.declared.event.Event.{Event}
use Rattle.vm_model.specs.declared.event.Event.TheVariants as event
use Rattle.vm_model.specs.declared.message.Channel.TheVariants.{Up, Down}
use Rattle.vm_model.specs.declared.message.Message.{Message}
use Rattle.vm_model.specs.declared.message.Message.TheVariants as message
use Rattle.vm_model.specs.declared.script.Header.{Header}
use Rattle.vm_model.specs.Moments.{EachEvent}
use Rattle.vm_model.specs.Named.{named}
use Rattle.vm_model.specs.PageLicences.{has_reason}
use Rattle.vm_model.specs.PagePart.{page_part}
use Rattle.vm_model.specs.Side.{side}
use Rattle.vm_model.specs.TaskPlace.{has_page, means_page, task_host}
use Rattle.vm_model.specs.Tasks.{entries_of, host_of}
use Rattle.vm_model.specs.Waiters.{Waiter, any_load, any_reader, any_store, readers, readers_after, waiter_of, waiters, waiters_after, without_once}
use Rattle.vm_model.specs.Waiters.{without_task}
use Rattle.vm_model.specs.Waiting.{Access, Copying, Loading, Storing, address_of, is_store, next_page, waiting}
use Rattle.vm_model.specs.Words.{Act, ActEffect, Begins, BeginsCopy, Copies, Drops, EndsCopy, Fails, Loads, Nothing, Puts, SentDown, StepBegins, Stores}
use Rattle.vm_model.specs.Words.{TakenUp, TakesDown, act_if, act_of, effect_on, sent_act_effect, times_meant, to_others, up_word, down_word}
use Rattle.vm_legal.specs.Accesses.{At, Waits, page_of}
use Rattle.vm_legal.specs.Licences as L
use Rattle.vm_legal.specs.Licences.{HasCause}
use Rattle.vm_legal.specs.Outside.{Outside, is_shared}
use Rattle.vm_coherence.proofs.Locals.{host_lives}
use Rattle.vm_shared.proofs.Declared.{declared_top_own, shared_declared}
use Rattle.vm_shared.proofs.Flat.{shared_no_file}
use Rattle.vm_shared.proofs.Numbering.{Numbering, at_made, comes_own, numbering, top_own}

-- a load or a store
abbrev pub IsPlainAccess : Access → Type 0
IsPlainAccess (Loading address bytes) = Unit {0}
IsPlainAccess (Storing address bytes value) = Unit {0}
IsPlainAccess (Copying address bytes to) = ⊥

-- what a task's access is in the part of its page
abbrev pub waiter_for : ℕ → ℕ → Access → Waiter
waiter_for size task (Loading address bytes) = record { task = task; store = false; at = address % size; size = bytes; value = 0 }
waiter_for size task (Storing address bytes value) = record { task = task; store = true; at = address % size; size = bytes; value = value }
waiter_for size task (Copying address bytes to) = record { task = task; store = false; at = 0; size = 0; value = 0 }

-- the events of a task

-- the event is of the task, and may change what it waits for
abbrev pub is_of : ℕ → Event → Bool
is_of task (event.TaskMade made host) = made.0 == task
is_of task (event.TaskEnded gone) = gone.0 == task
is_of task (event.Entered owner address bytes region offset prot inherit) = owner.0 == task
is_of task (event.Removed owner address bytes) = owner.0 == task
is_of task (event.Protected owner address bytes prot) = owner.0 == task
is_of task (event.Inherited owner address bytes inherit) = owner.0 == task
is_of task (event.BegunLoad owner address bytes) = owner.0 == task
is_of task (event.BegunStore owner address bytes value) = owner.0 == task
is_of task (event.BegunCopy owner address bytes to) = owner.0 == task
is_of task (event.Loaded owner object page value) = owner.0 == task
is_of task (event.Stored owner object page at bytes value) = owner.0 == task
is_of task (event.CopiedPage owner page object object_page target) = owner.0 == task
is_of task (event.CopyEnded owner) = owner.0 == task
is_of task (event.Failed owner object page) = owner.0 == task
is_of task other = false

-- what is known of a task as it waits
pub record IsSame (size task : ℕ) (past now : List Event) : Type 0 where
  pub host : host_of task now ≡ host_of task past
  pub entries : entries_of size task now ≡ entries_of size task past
  pub waits : waiting task now ≡ waiting task past
  pub next : next_page task now ≡ next_page task past

pub same : (size task : ℕ) (e : Event) (past : List Event) → is_of task e ≡ false → IsSame size task past (e ∷ past)
same size task (event.TaskMade made host) past is = record { host = rw is refl; entries = rw is refl; waits = rw is refl; next = refl }
same size task (event.TaskEnded gone) past is = record { host = rw is refl; entries = rw is refl; waits = rw is refl; next = refl }
same size task (event.Entered owner address bytes region offset prot inherit) past is = record { host = refl; entries = rw is refl; waits = refl; next = refl }
same size task (event.Removed owner address bytes) past is = record { host = refl; entries = rw is refl; waits = refl; next = refl }
same size task (event.Protected owner address bytes prot) past is = record { host = refl; entries = rw is refl; waits = refl; next = refl }
same size task (event.Inherited owner address bytes inherit) past is = record { host = refl; entries = rw is refl; waits = refl; next = refl }
same size task (event.BegunLoad owner address bytes) past is = record { host = refl; entries = refl; waits = rw is refl; next = refl }
same size task (event.BegunStore owner address bytes value) past is = record { host = refl; entries = refl; waits = rw is refl; next = refl }
same size task (event.BegunCopy owner address bytes to) past is = record { host = refl; entries = refl; waits = rw is refl; next = rw is refl }
same size task (event.Loaded owner object page value) past is = record { host = refl; entries = refl; waits = rw is refl; next = refl }
same size task (event.Stored owner object page at bytes value) past is = record { host = refl; entries = refl; waits = rw is refl; next = refl }
same size task (event.CopiedPage owner page object object_page target) past is = record { host = refl; entries = refl; waits = refl; next = rw is refl }
same size task (event.CopyEnded owner) past is = record { host = refl; entries = refl; waits = rw is refl; next = refl }
same size task (event.Failed owner object page) past is = record { host = refl; entries = refl; waits = rw is refl; next = refl }
same size task other past is = record { host = refl; entries = refl; waits = refl; next = refl }

-- the effects of others' events

-- the effect is of another task, or of none
abbrev pub Spares : ℕ → ActEffect → Type 0
Spares task (Begins other store at size value) = (other == task) ≡ false
Spares task (Loads other value) = (other == task) ≡ false
Spares task (Stores other at size value) = (other == task) ≡ false
Spares task (Fails other) = (other == task) ≡ false
Spares task (BeginsCopy other times) = (other == task) ≡ false
Spares task (Copies other) = (other == task) ≡ false
Spares task (EndsCopy other) = (other == task) ≡ false
Spares task e = Unit {0}

spares_others : (task : ℕ) (e : ActEffect) → Spares task (to_others e)
spares_others task (TakenUp word) = tt
spares_others task (TakesDown control word) = tt
spares_others task StepBegins = tt
spares_others task e = tt

pub spares_on : (task h : ℕ) (a : Act) → Spares task a.effect → Spares task (effect_on h a)
spares_on task h a is = by (a.host == h)
  where
    by : (b : Bool) → Spares task (if b then a.effect else to_others a.effect)
    by true = is
    by false = spares_others task a.effect

spares_if : (task : ℕ) (b : Bool) (e f : ActEffect) → Spares task e → Spares task f → Spares task (if b then e else f)
spares_if task true e f one other = one
spares_if task false e f one other = other

spares_sent : (task p : ℕ) (m : Message) → Spares task (sent_act_effect p m)
spares_sent task p (message.Init control size) = tt
spares_sent task p (message.Create control size) = tt
spares_sent task p m = tt

-- an event that isn't of the task spares it
pub spares : (task size o p : ℕ) (hosts : ℕ → ℕ) (means : ℕ → ℕ → Bool) (held : ℕ → ℕ → ℕ → List ℕ) (e : Event) → is_of task e ≡ false
    → Spares task (act_of size o p hosts means held e).effect
spares task size o p hosts means held (event.Sent (Up host object) m) is =
    spares_if task (object.0 == o) (sent_act_effect p m) Nothing (spares_sent task p m) tt
spares task size o p hosts means held (event.Sent (Down host object control) m) is =
    spares_if task (object.0 == o) (SentDown control (down_word p m)) Nothing tt tt
spares task size o p hosts means held (event.Taken (Up host object) m) is = spares_if task (object.0 == o) (TakenUp (up_word p m)) StepBegins tt tt
spares task size o p hosts means held (event.Taken (Down host object control) m) is =
    spares_if task (object.0 == o) (TakesDown control (down_word p m)) StepBegins tt tt
spares task size o p hosts means held (event.Dropped host object page) is = spares_if task (object.0 == o && page.0 == p) Drops Nothing tt tt
spares task size o p hosts means held (event.Zeroed host object page) is =
    spares_if task (object.0 == o && page.0 == p) (Puts (replicate size 0) false) Nothing tt tt
spares task size o p hosts means held (event.Raised host lower lower_page upper upper_page) is =
    spares_if task (upper.0 == o && upper_page.0 == p) (Puts (held host.0 lower.0 lower_page.0) true) Nothing tt tt
spares task size o p hosts means held (event.BegunCopy owner address bytes to) is = is
spares task size o p hosts means held (event.CopiedPage owner page object object_page target) is =
    spares_if task (target.0 == o && page.0 == p) (Puts (held (hosts owner.0) object.0 object_page.0) true)
    (if object.0 == o && object_page.0 == p then Copies owner.0 else Nothing) tt
    (spares_if task (object.0 == o && object_page.0 == p) (Copies owner.0) Nothing is tt)
spares task size o p hosts means held (event.CopyEnded owner) is = is
spares task size o p hosts means held (event.BegunLoad owner address bytes) is =
    spares_if task (means owner.0 address) (Begins owner.0 false (address % size) bytes 0) Nothing is tt
spares task size o p hosts means held (event.BegunStore owner address bytes value) is =
    spares_if task (means owner.0 address) (Begins owner.0 true (address % size) bytes value) Nothing is tt
spares task size o p hosts means held (event.Loaded owner object page value) is =
    spares_if task (object.0 == o && page.0 == p) (Loads owner.0 value) Nothing is tt
spares task size o p hosts means held (event.Stored owner object page at bytes value) is =
    spares_if task (object.0 == o && page.0 == p) (Stores owner.0 at bytes value) Nothing is tt
spares task size o p hosts means held (event.Failed owner object page) is =
    spares_if task (object.0 == o && page.0 == p) (Fails owner.0) (EndsCopy owner.0) is is
spares task size o p hosts means held other is = tt

-- the waiters of others

pub number_is : (a b : ℕ) → (a == b) ≡ true → a ≡ b
number_is a b is = grind (arith, nat_tests)

pub itself : (n : ℕ) → (n == n) ≡ true
itself n = grind (arith, nat_tests)

-- without another task's accesses the task's is the same
left_there : (task other : ℕ) (ws : List Waiter) → (other == task) ≡ false → waiter_of task (without_task other ws) ≡ waiter_of task ws
left_there task other [] apart = refl
left_there task other (w ∷ ws) apart = by (w.task == other) refl (left_there task other ws apart)
  where
    by : (b : Bool) → (w.task == other) ≡ b → waiter_of task (without_task other ws) ≡ waiter_of task ws
        → waiter_of task (if b then without_task other ws else w ∷ without_task other ws) ≡ waiter_of task (w ∷ ws)
    by true is later =
        let owner : w.task ≡ other = number_is w.task other is in
        let none : (w.task == task) ≡ false = ap (λ n. n == task) owner ∙ apart in
        later ∙ sym (cond-false (w.task == task) (Some w) (waiter_of task ws) none)
    by false is later = ap (λ x. if w.task == task then Some w else x) later

pub waiter_stays : (task : ℕ) (e : ActEffect) (ws : List Waiter) → Spares task e → waiter_of task (waiters_after e ws) ≡ waiter_of task ws
waiter_stays task (Begins other store at size value) ws is =
    cond-false (other == task) (Some (record { task = other; store = store; at = at; size = size; value = value })) (waiter_of task ws) is
waiter_stays task (Loads other value) ws is = left_there task other ws is
waiter_stays task (Stores other at size value) ws is = left_there task other ws is
waiter_stays task (Fails other) ws is = left_there task other ws is
waiter_stays task e ws is = refl

-- whoever begins is there
begins_there : (size h on task owner : ℕ) (store m : Bool) (at bytes value : ℕ) (ws : List Waiter) → owner ≡ task → on ≡ h → m ≡ true
    → waiter_of task (waiters_after (effect_on h (act_if m on (Begins owner store at bytes value))) ws) ≡ Some
    (record { task = task; store = store; at = at; size = bytes; value = value })
begins_there size h on task owner store m at bytes value ws mine here means =
    let own : (on == h) ≡ true = ap (λ n. n == h) here ∙ itself h in
    let its : (owner == task) ≡ true = ap (λ n. n == task) mine ∙ itself task in
    rw (own, means, its, mine) refl

-- the task's own events

pub none_waits : {A : Type 0} (task : ℕ) (access : Access) (past : List Event) → waiting task past ≡ None → waiting task past ≡ Some access → A
none_waits task access past none some = let bad : None ≡ Some access = sym none ∙ some in absurd (cc)

-- a task that waits does nothing else
idle : {A : Type 0} (task owner : ℕ) (access : Access) (past : List Event) → (owner == task) ≡ true → waiting owner past ≡ None
    → waiting task past ≡ Some access → A
idle task owner access past is none some = none_waits task access past (ap (λ t. waiting t past) (sym (number_is owner task is)) ∙ none) some

ended : {A : Type 0} (b : Bool) (access : Access) (was : Option Access) → b ≡ true → (if b then None else was) ≡ Some access → A
ended b access was is some = let bad : None ≡ Some access = sym (cond-true b None was is) ∙ some in absurd (cc)

-- the task of a slow copy's page waits with that copy
pub copies_plain : {A : Type 0} (task : ℕ) (access : Access) (address bytes to : ℕ) (past : List Event) → IsPlainAccess access
    → waiting task past ≡ Some (Copying address bytes to) → waiting task past ≡ Some access → A
copies_plain task (Loading a b) address bytes to past plain copy some =
    let bad : Some (Copying address bytes to) ≡ Some (Loading a b) = sym copy ∙ some in absurd (cc)
copies_plain task (Storing a b v) address bytes to past plain copy some =
    let bad : Some (Copying address bytes to) ≡ Some (Storing a b v) = sym copy ∙ some in absurd (cc)
copies_plain task (Copying a b t) address bytes to past plain copy some = absurd plain

-- the address of a load or a store
abbrev pub at_address : Access → ℕ
at_address access = address_of 0 0 access

-- what stands in the part for a load or a store of the page
abbrev IsThere : ℕ → ℕ → ℕ → ℕ → ℕ → Access → List Event → Type 0
IsThere size o p h task access past = waiter_of task (waiters h (page_part size o p past)) ≡ Some (waiter_for size task access)

-- a beginning
begun : (size o p h task owner address bytes value : ℕ) (store : Bool) (access : Access) (past : List Event) → (owner == task) ≡ true
    → access ≡ (if store then Storing address bytes value else Loading address bytes) → (store ≡ false → value ≡ 0)
    → host_of task past ≡ Some h → means_page size o p task (at_address access) past ≡ true
    → waiter_of task (waiters_after (effect_on h (act_if (means_page size o p owner address past) (task_host owner past)
    (Begins owner store (address % size) bytes value))) (waiters h (page_part size o p past))) ≡ Some (waiter_for size task access)
begun size o p h task owner address bytes value store access past mine is none lives means = by store is none
  where
    own : owner ≡ task
    own = number_is owner task mine

    place : at_address access ≡ address → means_page size o p owner address past ≡ true
    place same = ap (λ t. means_page size o p t address past) own ∙ (ap (λ a. means_page size o p task a past) (sym same) ∙ means)

    by : (b : Bool) → access ≡ (if b then Storing address bytes value else Loading address bytes) → (b ≡ false → value ≡ 0)
        → waiter_of task (waiters_after (effect_on h (act_if (means_page size o p owner address past) (task_host owner past)
        (Begins owner b (address % size) bytes value))) (waiters h (page_part size o p past))) ≡ Some (waiter_for size task access)
    by true is none =
        begins_there size h (task_host owner past) task owner true (means_page size o p owner address past) (address % size) bytes value
        (waiters h (page_part size o p past)) own (ap (λ t. task_host t past) own ∙ host_lives task h past lives) (place (ap at_address is))
        ∙ ap (λ a. Some (waiter_for size task a)) (sym is)
    by false is none =
        begins_there size h (task_host owner past) task owner false (means_page size o p owner address past) (address % size) bytes value
        (waiters h (page_part size o p past)) own (ap (λ t. task_host t past) own ∙ host_lives task h past lives) (place (ap at_address is))
        ∙ (ap (λ v. Some (record { task = task; store = false; at = address % size; size = bytes; value = v })) (none refl)
        ∙ ap (λ a. Some (waiter_for size task a)) (sym is))

begun_with : (b : Bool) (new access : Access) (was : Option Access) → b ≡ true → (if b then Some new else was) ≡ Some access → access ≡ new
begun_with b new access was is some = let one : Some new ≡ Some access = sym (cond-true b (Some new) was is) ∙ some in cc

own_there : (header : Header) (outside : Outside) (o p h task : ℕ) (access : Access) (e : Event) (past : List Event) → HasCause header outside e past
    → is_of task e ≡ true → IsPlainAccess access → waiting task (e ∷ past) ≡ Some access
    → host_of task (e ∷ past) ≡ Some h → means_page header.size o p task (at_address access) (e ∷ past) ≡ true
    → IsThere header.size o p h task access (e ∷ past)
own_there header outside o p h task access (event.TaskMade made host) past cause is plain waits lives means =
    ended (made.0 == task) access (waiting task past) is waits
own_there header outside o p h task access (event.TaskEnded gone) past cause is plain waits lives means =
    ended (gone.0 == task) access (waiting task past) is waits
own_there header outside o p h task access (event.Entered owner address bytes region offset prot inherit) past cause is plain waits lives means =
    idle task owner.0 access past is cause.1.idle waits
own_there header outside o p h task access (event.Removed owner address bytes) past cause is plain waits lives means =
    idle task owner.0 access past is cause.1 waits
own_there header outside o p h task access (event.Protected owner address bytes prot) past cause is plain waits lives means =
    idle task owner.0 access past is cause.1 waits
own_there header outside o p h task access (event.Inherited owner address bytes inherit) past cause is plain waits lives means =
    idle task owner.0 access past is cause.1 waits
own_there header outside o p h task access (event.BegunLoad owner address bytes) past cause is plain waits lives means =
    begun header.size o p h task owner.0 address bytes 0 false access past is (begun_with (owner.0 == task) (Loading address bytes) access (waiting task past)
    is waits) (λ no_store. refl) lives means
own_there header outside o p h task access (event.BegunStore owner address bytes value) past cause is plain waits lives means =
    begun header.size o p h task owner.0 address bytes value true access past is (begun_with (owner.0 == task) (Storing address bytes value) access
    (waiting task past) is waits) (λ no_store. absurd (cc)) lives means
own_there header outside o p h task access (event.BegunCopy owner address bytes to) past cause is plain waits lives means =
    absurd (subst IsPlainAccess (begun_with (owner.0 == task) (Copying address bytes to) access (waiting task past) is waits) plain)
own_there header outside o p h task access (event.Loaded owner object page value) past cause is plain waits lives means =
    ended (owner.0 == task) access (waiting task past) is waits
own_there header outside o p h task access (event.Stored owner object page at bytes value) past cause is plain waits lives means =
    ended (owner.0 == task) access (waiting task past) is waits
own_there header outside o p h task access (event.CopiedPage owner page object object_page target) past cause is plain waits lives means =
    let c = cause.1 in
    copies_plain task access c.address c.bytes c.to past plain (ap (λ t. waiting t past) (sym (number_is owner.0 task is)) ∙ c.waits.waits) waits
own_there header outside o p h task access (event.CopyEnded owner) past cause is plain waits lives means =
    ended (owner.0 == task) access (waiting task past) is waits
own_there header outside o p h task access (event.Failed owner object page) past cause is plain waits lives means =
    ended (owner.0 == task) access (waiting task past) is waits
own_there header outside o p h task access other past cause is plain waits lives means = absurd (let bad : false ≡ true = is in cc)

pub is_there : (header : Header) (outside : Outside) (o p : ℕ) (past : List Event) → EachEvent (HasCause header outside) past → (h task : ℕ) (access : Access)
    → IsPlainAccess access → waiting task past ≡ Some access → host_of task past ≡ Some h
    → means_page header.size o p task (at_address access) past ≡ true → IsThere header.size o p h task access past
is_there header outside o p [] caused h task access plain waits lives means = absurd (cc)
is_there header outside o p (e ∷ past) caused h task access plain waits lives means =
    by (is_there header outside o p past caused.1 h task access plain) (is_of task e) refl
  where
    act : Act
    act =
        act_of header.size o p (λ t. task_host t past) (λ t address. means_page header.size o p t address past)
        (λ host object page. (side host (page_part header.size object page past)).bytes) e

    by : (waiting task past ≡ Some access → host_of task past ≡ Some h → means_page header.size o p task (at_address access) past ≡ true
        → IsThere header.size o p h task access past) → (b : Bool) → is_of task e ≡ b → IsThere header.size o p h task access (e ∷ past)
    by before true is = own_there header outside o p h task access e past caused.0 is plain waits lives means
    by before false is =
        let s = same header.size task e past is in
        let was = before (sym s.waits ∙ waits) (sym s.host
        ∙ lives) (ap (λ rows. has_page header.size o p (at_address access) (entry_at (at_address access) rows)) (sym s.entries) ∙ means) in
        let spared = spares_on task h act (spares task header.size o p (λ t. task_host t past) (λ t address. means_page header.size o p t address past)
        (λ host object page. (side host (page_part header.size object page past)).bytes) e is) in
        waiter_stays task (effect_on h act) (waiters h (page_part header.size o p past)) spared ∙ was

-- readers

-- how often the task is among them
abbrev count_in : ℕ → List ℕ → ℕ
count_in task [] = 0
count_in task (r ∷ rs) = (if r == task then 1 else 0) + count_in task rs

count_once : (task other : ℕ) (rs : List ℕ) → count_in task rs ≤ count_in task (without_once other rs) + 1
count_once task other [] = omega arith
count_once task other (r ∷ rs) = by (r == other) (count_once task other rs)
  where
    by : (b : Bool) → count_in task rs ≤ count_in task (without_once other rs) + 1
        → count_in task (r ∷ rs) ≤ count_in task (if b then rs else r ∷ without_once other rs) + 1
    by true later = grind arith
    by false later = omega (arith, later)

apart_once : (task other : ℕ) (rs : List ℕ) → (other == task) ≡ false → count_in task (without_once other rs) ≡ count_in task rs
apart_once task other [] apart = refl
apart_once task other (r ∷ rs) apart = by (r == other) refl (apart_once task other rs apart)
  where
    by : (b : Bool) → (r == other) ≡ b → count_in task (without_once other rs) ≡ count_in task rs
        → count_in task (if b then rs else r ∷ without_once other rs) ≡ count_in task (r ∷ rs)
    by true is later =
        let none : (r == task) ≡ false = ap (λ n. n == task) (number_is r other is) ∙ apart in
        rw none (omega arith)
    by false is later = ap (λ n. (if r == task then 1 else 0) + n) later

apart_filter : (task other : ℕ) (rs : List ℕ) → (other == task) ≡ false → count_in task (filter (λ r. not (r == other)) rs) ≡ count_in task rs
apart_filter task other [] apart = refl
apart_filter task other (r ∷ rs) apart = by (r == other) refl (apart_filter task other rs apart)
  where
    by : (b : Bool) → (r == other) ≡ b → count_in task (filter (λ r. not (r == other)) rs) ≡ count_in task rs
        → count_in task (if not b then r ∷ filter (λ r. not (r == other)) rs else filter (λ r. not (r == other)) rs) ≡ count_in task (r ∷ rs)
    by true is later =
        let none : (r == task) ≡ false = ap (λ n. n == task) (number_is r other is) ∙ apart in
        rw none (omega (arith, later))
    by false is later = ap (λ n. (if r == task then 1 else 0) + n) later

apart_more : (task other times : ℕ) (rs : List ℕ) → (other == task) ≡ false → count_in task (replicate times other ++ rs) ≡ count_in task rs
apart_more task other zero rs apart = refl
apart_more task other (suc times) rs apart = rw apart (omega (arith, apart_more task other times rs apart))

own_more : (task owner times : ℕ) (rs : List ℕ) → (owner == task) ≡ true → times ≤ count_in task (replicate times owner ++ rs)
own_more task owner zero rs own = omega arith
own_more task owner (suc times) rs own = rw own (omega (arith, own_more task owner times rs own))

some_reader : (task : ℕ) (rs : List ℕ) → 0 < count_in task rs → any_reader rs ≡ true
some_reader task [] some = absurd (omega (arith, some))
some_reader task (r ∷ rs) some = refl

reader_stays : (task : ℕ) (e : ActEffect) (rs : List ℕ) → Spares task e → count_in task (readers_after e rs) ≡ count_in task rs
reader_stays task (BeginsCopy other times) rs is = apart_more task other times rs is
reader_stays task (Copies other) rs is = apart_once task other rs is
reader_stays task (EndsCopy other) rs is = apart_filter task other rs is
reader_stays task (Fails other) rs is = apart_filter task other rs is
reader_stays task e rs is = refl

-- The pages of a slow copy that it is still to read are noted, so many times: the entries of its task tell which of its pages are the place, and it reads the
-- page with this number next.
abbrev AreNoted : ℕ → ℕ → ℕ → ℕ → ℕ → List Entry → ℕ → ℕ → Type 0
AreNoted size o p address bytes rows next count =
    times_meant size (λ at. has_page size o p at (entry_at at rows)) (address + next * size) (bytes / size - next) ≤ count

abbrev AreNotedIn : ℕ → ℕ → ℕ → ℕ → ℕ → ℕ → ℕ → List Event → Type 0
AreNotedIn size o p h task address bytes past =
    AreNoted size o p address bytes (entries_of size task past) (next_page task past) (count_in task (readers h (page_part size o p past)))

copy_begun : (size o p h task owner address bytes : ℕ) (past : List Event) → (owner == task) ≡ true → host_of task past ≡ Some h
    → times_meant size (λ at. means_page size o p task at past) (address + 0 * size) (bytes / size - 0)
    ≤ count_in task (readers_after (effect_on h (record {
      host = task_host owner past;
      effect = BeginsCopy owner (times_meant size (λ at. means_page size o p owner at past) address (bytes / size));
    })) (readers h (page_part size o p past)))
copy_begun size o p h task owner address bytes past mine lives =
    let own : owner ≡ task = number_is owner task mine in
    let on : (task_host owner past == h) ≡ true = ap (λ n. n == h) (ap (λ t. task_host t past) own ∙ host_lives task h past lives) ∙ itself h in
    let from : address + 0 * size ≡ address = omega arith in
    let all : bytes / size - 0 ≡ bytes / size = omega arith in
    let enough = own_more task owner (times_meant size (λ at. means_page size o p owner at past) address (bytes / size)) (readers h (page_part size o p past))
    mine in
    rw (on, from, all) (subst (λ (t : ℕ). times_meant size (λ at. means_page size o p t at past) address (bytes / size) ≤ count_in task
    (replicate (times_meant size (λ at. means_page size o p owner at past) address (bytes / size)) owner ++ readers h (page_part size o p past))) own
    enough)

-- what a slow copy is still to read shrinks by the page that it read
shrinks : (size : ℕ) (means : ℕ → Bool) (address pages next left now : ℕ) (reads : Bool) → reads ≡ means (address + next * size)
    → times_meant size means (address + next * size) (pages - next) ≤ left → left ≤ now + (if reads then 1 else 0)
    → times_meant size means (address + (next + 1) * size) (pages - (next + 1)) ≤ now
shrinks size means address pages next left now reads is noted enough = by (pages - next) refl noted
  where
    by : (n : ℕ) → pages - next ≡ n → times_meant size means (address + next * size) n ≤ left
        → times_meant size means (address + (next + 1) * size) (pages - (next + 1)) ≤ now
    by zero none noted = let none_left : pages - (next + 1) ≡ 0 = omega (arith, none) in rw none_left (omega arith)
    by (suc n) some noted =
        let fewer : pages - (next + 1) ≡ n = omega (arith, some) in
        let further : address + (next + 1) * size ≡ address + next * size + size = grind arith in
        let same : ◌≡◌ {A = ℕ} (if reads then 1 else 0) (if means (address + next * size) then 1 else 0) = ap (λ b. if b then 1 else 0) is in
        rw (fewer, further) (omega (arith, noted, enough, same))

copied_count : (task owner h on : ℕ) (first reads : Bool) (bytes : List ℕ) (rs : List ℕ) → (on == h) ≡ true → first ≡ false
    → count_in task rs ≤ count_in task (readers_after (effect_on h (record {
      host = on;
      effect = if first then Puts bytes true else (if reads then Copies owner else Nothing);
    })) rs) + (if reads then 1 else 0)
copied_count task owner h on first reads bytes rs here none = rw (here, none) (by reads)
  where
    by : (b : Bool) → count_in task rs ≤ count_in task (readers_after (if b then Copies owner else Nothing) rs) + (if b then 1 else 0)
    by true = count_once task owner rs
    by false = omega arith

-- where a slow copy begins
abbrev copy_from : Option Access → ℕ
copy_from (Some (Copying address bytes to)) = address
copy_from other = 0

abbrev copy_size : Option Access → ℕ
copy_size (Some (Copying address bytes to)) = bytes
copy_size other = 0

-- the page that a slow copy reads is what its address means
reads_meant : (header : Header) (o p task index object page target address bytes to : ℕ) (past : List Event) → Numbering header past
    → (c : L.CopiesPage header task index object page target past) → waiting task past ≡ Some (Copying address bytes to)
    → (object == o && page == p) ≡ has_page header.size o p (address + next_page task past * header.size)
    (entry_at (address + next_page task past * header.size) (entries_of header.size task past))
reads_meant header o p task index object page target address bytes to past k c waits =
    let from : c.address ≡ address = ap copy_from (sym c.waits.waits ∙ waits) in
    let own = declared_top_own header past c.waits.at.entry.region.0 (page_at header.size (c.address + next_page task past * header.size) c.waits.at.entry)
    object page k.numbered c.declared c.is_top in
    let found : has_page header.size o p (c.address + next_page task past * header.size)
    (entry_at (c.address + next_page task past * header.size) (entries_of header.size task past))
    ≡ (c.waits.at.entry.region.0 == o && page_at header.size (c.address + next_page task past * header.size) c.waits.at.entry == p) =
    ap (λ x. has_page header.size o p (c.address + next_page task past * header.size) x) c.waits.at.found in
    ap (λ n. n == o && page == p) (sym own.region) ∙ (ap (λ n. c.waits.at.entry.region.0 == o && n == p) (sym own.page)
    ∙ (sym found ∙ ap (λ a. has_page header.size o p (a + next_page task past * header.size)
    (entry_at (a + next_page task past * header.size) (entries_of header.size task past))) from))

copied_noted : (header : Header) (o p h task address bytes to : ℕ) (owner : TaskId) (index : PageNo) (object : ObjectId) (page : PageNo) (target : ObjectId)
    (past : List Event) → Numbering header past → o < named header
    → L.CopiesPage header owner.0 index.0 object.0 page.0 target.0 past → (owner.0 == task) ≡ true → waiting task past ≡ Some (Copying address bytes to)
    → host_of task past ≡ Some h
    → AreNotedIn header.size o p h task address bytes past
    → AreNotedIn header.size o p h task address bytes (event.CopiedPage owner index object page target ∷ past)
copied_noted header o p h task address bytes to owner index object page target past k small cause mine waits lives noted =
    let own : owner.0 ≡ task = number_is owner.0 task mine in
    let c : L.CopiesPage header task index.0 object.0 page.0 target.0 past = subst (λ (t : ℕ). L.CopiesPage header t index.0 object.0 page.0 target.0 past) own
    cause in
    let on : (task_host owner.0 past == h) ≡ true = ap (λ n. n == h) (ap (λ t. task_host t past) own ∙ host_lives task h past lives) ∙ itself h in
    let temporary = k.fills task (record { region = c.region; object = target.0 }) c.filled in
    let other : (target.0 == o && index.0 == p) ≡ false = grind (arith, nat_tests) in
    let left = copied_count task owner.0 h (task_host owner.0 past) (target.0 == o && index.0 == p) (object.0 == o && page.0 == p)
    (side (task_host owner.0 past) (page_part header.size object.0 page.0 past)).bytes (readers h (page_part header.size o p past)) on other in
    let now : next_page task (event.CopiedPage owner index object page target ∷ past) ≡ next_page task past + 1 = cond-true (owner.0 == task) (index.0 + 1)
    (next_page task past) mine ∙ ap (λ n. n + 1) c.next in
    let less = shrinks header.size (λ at. has_page header.size o p at (entry_at at (entries_of header.size task past))) address (bytes / header.size)
    (next_page task past) (count_in task (readers h (page_part header.size o p past)))
    (count_in task (readers h (page_part header.size o p (event.CopiedPage owner index object page target ∷ past)))) (object.0 == o && page.0 == p)
    (reads_meant header o p task index.0 object.0 page.0 target.0 address bytes to past k c waits) noted left in
    subst (λ (n : ℕ). AreNoted header.size o p address bytes (entries_of header.size task past) n
    (count_in task (readers h (page_part header.size o p (event.CopiedPage owner index object page target ∷ past))))) (sym now) less

-- a slow copy that begins
copy_of : (b : Bool) (address bytes to own_address own_bytes own_to : ℕ) (was : Option Access) → b ≡ true
    → (if b then Some (Copying own_address own_bytes own_to) else was) ≡ Some (Copying address bytes to) → (own_address ≡ address) × (own_bytes ≡ bytes)
copy_of b address bytes to own_address own_bytes own_to was is some =
    let one : Some (Copying own_address own_bytes own_to) ≡ Some (Copying address bytes to) = sym
    (cond-true b (Some (Copying own_address own_bytes own_to)) was is) ∙ some in (ap copy_from one, ap copy_size one)

begun_plain : {A : Type 0} (b : Bool) (address bytes to : ℕ) (new : Access) (was : Option Access) → IsPlainAccess new → b ≡ true
    → (if b then Some new else was) ≡ Some (Copying address bytes to) → A
begun_plain b address bytes to new was plain is some = absurd (subst IsPlainAccess (sym (begun_with b new (Copying address bytes to) was is some)) plain)

own_noted : (header : Header) (outside : Outside) (o p h task address bytes to : ℕ) (e : Event) (past : List Event) → Numbering header past → o < named header
    → HasCause header outside e past → is_of task e ≡ true
    → waiting task (e ∷ past) ≡ Some (Copying address bytes to) → host_of task (e ∷ past) ≡ Some h
    → (waiting task past ≡ Some (Copying address bytes to) → host_of task past ≡ Some h → AreNotedIn header.size o p h task address bytes past)
    → AreNotedIn header.size o p h task address bytes (e ∷ past)
own_noted header outside o p h task address bytes to (event.TaskMade made host) past k small cause is waits lives was =
    ended (made.0 == task) (Copying address bytes to) (waiting task past) is waits
own_noted header outside o p h task address bytes to (event.TaskEnded gone) past k small cause is waits lives was =
    ended (gone.0 == task) (Copying address bytes to) (waiting task past) is waits
own_noted header outside o p h task address bytes to (event.Entered owner from size region offset prot inherit) past k small cause is waits lives was =
    idle task owner.0 (Copying address bytes to) past is cause.1.idle waits
own_noted header outside o p h task address bytes to (event.Removed owner from size) past k small cause is waits lives was =
    idle task owner.0 (Copying address bytes to) past is cause.1 waits
own_noted header outside o p h task address bytes to (event.Protected owner from size prot) past k small cause is waits lives was =
    idle task owner.0 (Copying address bytes to) past is cause.1 waits
own_noted header outside o p h task address bytes to (event.Inherited owner from size inherit) past k small cause is waits lives was =
    idle task owner.0 (Copying address bytes to) past is cause.1 waits
own_noted header outside o p h task address bytes to (event.BegunLoad owner from size) past k small cause is waits lives was =
    begun_plain (owner.0 == task) address bytes to (Loading from size) (waiting task past) tt is waits
own_noted header outside o p h task address bytes to (event.BegunStore owner from size value) past k small cause is waits lives was =
    begun_plain (owner.0 == task) address bytes to (Storing from size value) (waiting task past) tt is waits
own_noted header outside o p h task address bytes to (event.BegunCopy owner from size goal) past k small cause is waits lives was =
    let same = copy_of (owner.0 == task) address bytes to from size goal (waiting task past) is waits in
    let first : next_page task (event.BegunCopy owner from size goal ∷ past) ≡ 0 = cond-true (owner.0 == task) 0 (next_page task past) is in
    let noted = copy_begun header.size o p h task owner.0 from size past is lives in
    let here : AreNoted header.size o p from size (entries_of header.size task past) (next_page task (event.BegunCopy owner from size goal ∷ past))
    (count_in task (readers h (page_part header.size o p (event.BegunCopy owner from size goal ∷ past)))) =
    subst (λ (n : ℕ). AreNoted header.size o p from size (entries_of header.size task past) n
    (count_in task (readers h (page_part header.size o p (event.BegunCopy owner from size goal ∷ past))))) (sym first) noted in
    subst (λ (b : ℕ). AreNotedIn header.size o p h task address b (event.BegunCopy owner from size goal ∷ past)) same.1
    (subst (λ (a : ℕ). AreNotedIn header.size o p h task a size (event.BegunCopy owner from size goal ∷ past)) same.0 here)
own_noted header outside o p h task address bytes to (event.Loaded owner object page value) past k small cause is waits lives was =
    ended (owner.0 == task) (Copying address bytes to) (waiting task past) is waits
own_noted header outside o p h task address bytes to (event.Stored owner object page at size value) past k small cause is waits lives was =
    ended (owner.0 == task) (Copying address bytes to) (waiting task past) is waits
own_noted header outside o p h task address bytes to (event.CopiedPage owner index object page target) past k small cause is waits lives was =
    copied_noted header o p h task address bytes to owner index object page target past k small cause.1 is waits lives (was waits lives)
own_noted header outside o p h task address bytes to (event.CopyEnded owner) past k small cause is waits lives was =
    ended (owner.0 == task) (Copying address bytes to) (waiting task past) is waits
own_noted header outside o p h task address bytes to (event.Failed owner object page) past k small cause is waits lives was =
    ended (owner.0 == task) (Copying address bytes to) (waiting task past) is waits
own_noted header outside o p h task address bytes to other past k small cause is waits lives was = absurd (let bad : false ≡ true = is in cc)

are_noted : (header : Header) (outside : Outside) (o p : ℕ) (past : List Event) → EachEvent (HasCause header outside) past → o < named header
    → (h task address bytes to : ℕ) → waiting task past ≡ Some (Copying address bytes to) → host_of task past ≡ Some h
    → AreNotedIn header.size o p h task address bytes past
are_noted header outside o p [] caused small h task address bytes to waits lives = absurd (cc)
are_noted header outside o p (e ∷ past) caused small h task address bytes to waits lives =
    by (are_noted header outside o p past caused.1 small h task address bytes to) (is_of task e) refl
  where
    act : Act
    act =
        act_of header.size o p (λ t. task_host t past) (λ t address. means_page header.size o p t address past)
        (λ host object page. (side host (page_part header.size object page past)).bytes) e

    by : (waiting task past ≡ Some (Copying address bytes to) → host_of task past ≡ Some h → AreNotedIn header.size o p h task address bytes past) → (b : Bool)
        → is_of task e ≡ b → AreNotedIn header.size o p h task address bytes (e ∷ past)
    by before true is =
        own_noted header outside o p h task address bytes to e past (numbering header outside past caused.1) small caused.0 is waits lives before
    by before false is =
        let s = same header.size task e past is in
        let was = before (sym s.waits ∙ waits) (sym s.host ∙ lives) in
        let spared = spares_on task h act (spares task header.size o p (λ t. task_host t past) (λ t address. means_page header.size o p t address past)
        (λ host object page. (side host (page_part header.size object page past)).bytes) e is) in
        let count = reader_stays task (effect_on h act) (readers h (page_part header.size o p past)) spared in
        subst (λ (n : ℕ). AreNoted header.size o p address bytes (entries_of header.size task (e ∷ past)) (next_page task (e ∷ past)) n) (sym count)
        (subst (λ (n : ℕ). AreNoted header.size o p address bytes (entries_of header.size task (e ∷ past)) n
        (count_in task (readers h (page_part header.size o p past)))) (sym s.next)
        (subst (λ (rows : List Entry). AreNoted header.size o p address bytes rows (next_page task past)
        (count_in task (readers h (page_part header.size o p past)))) (sym s.entries) was))

-- who waits for a page

page_meant : (r o q p : ℕ) → r ≡ o → q ≡ p → (r == o && q == p) ≡ true
page_meant r o q p region page = grind (arith, nat_tests)

-- an address that leads to page p of the region with the object's number means that page of the object
led_means : (header : Header) (o p task address : ℕ) (past : List Event) → (at : At header task address past) → at.entry.region.0 ≡ o
    → page_at header.size address at.entry ≡ p → means_page header.size o p task address past ≡ true
led_means header o p task address past at region page =
    ap (λ x. has_page header.size o p address x) at.found ∙ page_meant at.entry.region.0 o (page_at header.size address at.entry) p region page

first_noted : (size o p address bytes next count : ℕ) (rows : List Entry) → AreNoted size o p address bytes rows next count → next < bytes / size
    → has_page size o p (address + next * size) (entry_at (address + next * size) rows) ≡ true → 0 < count
first_noted size o p address bytes next count rows noted left means = by (bytes / size - next) refl noted
  where
    by : (n : ℕ) → bytes / size - next ≡ n → times_meant size (λ at. has_page size o p at (entry_at at rows)) (address + next * size) n ≤ count → 0 < count
    by zero none noted = absurd (omega (arith, none, left))
    by (suc n) some noted =
        let one : ◌≡◌ {A = ℕ} (if has_page size o p (address + next * size) (entry_at (address + next * size) rows) then 1 else 0) 1 = ap
        (λ b. if b then 1 else 0) means in omega (arith, noted, one)

-- Whoever waits for page p of object o is in the page's part: a load or a store with what it wants of the page, and a slow copy that has a page left to read.
pub record WaitersAgree (header : Header) (o p : ℕ) (past : List Event) : Type 0 where
  pub there : (task : ℕ) (access : Access) → IsPlainAccess access → (waits : Waits header task access past) → waits.at.entry.region.0 ≡ o
      → page_of header task access past waits.at.entry ≡ p
      → waiter_of task (waiters waits.at.host (page_part header.size o p past)) ≡ Some (waiter_for header.size task access)
  pub reads : (task address bytes to : ℕ) → (waits : Waits header task (Copying address bytes to) past) → waits.at.entry.region.0 ≡ o
      → page_of header task (Copying address bytes to) past waits.at.entry ≡ p → next_page task past < bytes / header.size
      → any_reader (readers waits.at.host (page_part header.size o p past)) ≡ true

pub waiters_agree : (header : Header) (outside : Outside) (o p : ℕ) (past : List Event) → EachEvent (HasCause header outside) past → is_shared header o ≡ true
    → WaitersAgree header o p past
waiters_agree header outside o p past caused shared = record {
  there = there;
  reads = λ task address bytes to waits region page left.
      let noted = are_noted header outside o p past caused (shared_declared header o shared) waits.at.host task address bytes to waits.waits waits.at.lives in
      let means = led_means header o p task (address + next_page task past * header.size) past waits.at region page in
      some_reader task (readers waits.at.host (page_part header.size o p past))
      (first_noted header.size o p address bytes (next_page task past) (count_in task (readers waits.at.host (page_part header.size o p past)))
      (entries_of header.size task past) noted left means);
}
  where
    there : (task : ℕ) (access : Access) → IsPlainAccess access → (waits : Waits header task access past) → waits.at.entry.region.0 ≡ o
        → page_of header task access past waits.at.entry ≡ p → IsThere header.size o p waits.at.host task access past
    there task (Loading address bytes) plain waits region page =
        is_there header outside o p past caused waits.at.host task (Loading address bytes) tt waits.waits waits.at.lives
        (led_means header o p task address past waits.at region page)
    there task (Storing address bytes value) plain waits region page =
        is_there header outside o p past caused waits.at.host task (Storing address bytes value) tt waits.waits waits.at.lives
        (led_means header o p task address past waits.at region page)
    there task (Copying address bytes to) plain waits region page = absurd plain

-- what the rows of a shared page have

load_among : (task : ℕ) (ws : List Waiter) (w : Waiter) → waiter_of task ws ≡ Some w → w.store ≡ false → any_load ws ≡ true
load_among task [] w found load = absurd (cc)
load_among task (v ∷ ws) w found load = by (v.task == task) found (λ later. load_among task ws w later load)
  where
    by : (b : Bool) → (if b then Some v else waiter_of task ws) ≡ Some w → (waiter_of task ws ≡ Some w → any_load ws ≡ true) → any_load (v ∷ ws) ≡ true
    by true found later = let it : v ≡ w = cc in let own : v.store ≡ false = ap (λ (u : Waiter). u.store) it ∙ load in rw own refl
    by false found later = grind (arith, later found)

store_among : (task : ℕ) (ws : List Waiter) (w : Waiter) → waiter_of task ws ≡ Some w → w.store ≡ true → any_store ws ≡ true
store_among task [] w found store = absurd (cc)
store_among task (v ∷ ws) w found store = by (v.task == task) found (λ later. store_among task ws w later store)
  where
    by : (b : Bool) → (if b then Some v else waiter_of task ws) ≡ Some w → (waiter_of task ws ≡ Some w → any_store ws ≡ true) → any_store (v ∷ ws) ≡ true
    by true found later = let it : v ≡ w = cc in let own : v.store ≡ true = ap (λ (u : Waiter). u.store) it ∙ store in rw own refl
    by false found later = grind (arith, later found)

-- a load that ends is among the waiters
pub loads_waiter : (header : Header) (outside : Outside) (task o p : ℕ) (past : List Event) → EachEvent (HasCause header outside) past
    → is_shared header o ≡ true → (c : L.Loads header task o p past)
    → waiter_of task (waiters c.waits.at.host (page_part header.size o p past)) ≡ Some (waiter_for header.size task (Loading c.address c.bytes))
loads_waiter header outside task o p past caused shared c =
    let k = numbering header outside past caused in
    let own = (comes_own header past c.waits.at.host c.waits.at.entry.region.0 (page_at header.size c.address c.waits.at.entry) o p k
    (shared_declared header o shared) (shared_no_file header o shared) (at_made header task c.address past k.made c.waits.at) c.comes).own in
    (waiters_agree header outside o p past caused shared).there task (Loading c.address c.bytes) tt c.waits own.region own.page

-- so is a store
pub stores_waiter : (header : Header) (outside : Outside) (task o p at bytes value : ℕ) (past : List Event) → EachEvent (HasCause header outside) past
    → is_shared header o ≡ true → (c : L.Stores header task o p at bytes value past)
    → waiter_of task (waiters c.waits.at.host (page_part header.size o p past)) ≡ Some (waiter_for header.size task (Storing c.address bytes value))
stores_waiter header outside task o p at bytes value past caused shared c =
    let k = numbering header outside past caused in
    let own = top_own header past c.waits.at.entry.region.0 (page_at header.size c.address c.waits.at.entry) o p k.numbered (shared_declared header o shared)
    (at_made header task c.address past k.made c.waits.at) c.is_top in
    (waiters_agree header outside o p past caused shared).there task (Storing c.address bytes value) tt c.waits own.region own.page

-- whoever asks for a page has its reason, where it has a page left to read
pub asks_reason : (header : Header) (outside : Outside) (host control o p wanted : ℕ) (past : List Event) → EachEvent (HasCause header outside) past
    → is_shared header o ≡ true → (c : L.Asks header host control o p wanted past)
    → ((address bytes to : ℕ) → c.access ≡ Copying address bytes to → next_page c.task past < bytes / header.size)
    → has_reason wanted (waiters host (page_part header.size o p past)) (readers host (page_part header.size o p past)) ≡ true
asks_reason header outside host control o p wanted past caused shared c left =
    let k = numbering header outside past caused in
    let agree = waiters_agree header outside o p past caused shared in
    let own = comes_own header past host c.waits.at.entry.region.0 (page_of header c.task c.access past c.waits.at.entry) o p k
    (shared_declared header o shared) (shared_no_file header o shared)
    (at_made header c.task (address_of header.size (next_page c.task past) c.access) past k.made c.waits.at) c.comes in
    let number : wanted ≡ (if is_store c.access then 3 else 1) = c.number ∙ ap (λ n. L.desired_access c.access n) own.steps in
    subst (λ (h : ℕ). has_reason wanted (waiters h (page_part header.size o p past)) (readers h (page_part header.size o p past)) ≡ true) c.on_host
    (subst (λ (n : ℕ). has_reason n (waiters c.waits.at.host (page_part header.size o p past))
    (readers c.waits.at.host (page_part header.size o p past)) ≡ true) (sym number) (by c.task c.access c.waits agree own.own.region own.own.page left))
  where
    either : (a : Bool) → ((a || true) || false) ≡ true
    either true = refl
    either false = refl

    by : (task : ℕ) (access : Access) (waits : Waits header task access past) → WaitersAgree header o p past → waits.at.entry.region.0 ≡ o
        → page_of header task access past waits.at.entry ≡ p
        → ((address bytes to : ℕ) → access ≡ Copying address bytes to → next_page task past < bytes / header.size)
        → has_reason (if is_store access then 3 else 1) (waiters waits.at.host (page_part header.size o p past))
        (readers waits.at.host (page_part header.size o p past)) ≡ true
    by task (Loading address bytes) waits agree region page left =
        let some = load_among task (waiters waits.at.host (page_part header.size o p past)) (waiter_for header.size task (Loading address bytes))
        (agree.there task (Loading address bytes) tt waits region page) refl in rw some refl
    by task (Storing address bytes value) waits agree region page left =
        let some = store_among task (waiters waits.at.host (page_part header.size o p past)) (waiter_for header.size task (Storing address bytes value))
        (agree.there task (Storing address bytes value) tt waits region page) refl in rw some refl
    by task (Copying address bytes to) waits agree region page left =
        let some = agree.reads task address bytes to waits region page (left address bytes to refl) in rw some
        (either (any_load (waiters waits.at.host (page_part header.size o p past))))

-- whoever wants to write a page that is here is a store among the waiters, and asks for writing
pub unlocks_store : (header : Header) (outside : Outside) (host control o p wanted : ℕ) (past : List Event) → EachEvent (HasCause header outside) past
    → is_shared header o ≡ true → (c : L.Unlocks header host control o p wanted past) → is_store c.access ≡ true
    → (wanted ≡ 3) × (any_store (waiters host (page_part header.size o p past)) ≡ true)
unlocks_store header outside host control o p wanted past caused shared c store =
    let k = numbering header outside past caused in
    let agree = waiters_agree header outside o p past caused shared in
    let own = comes_own header past host c.waits.at.entry.region.0 (page_of header c.task c.access past c.waits.at.entry) o p k
    (shared_declared header o shared) (shared_no_file header o shared)
    (at_made header c.task (address_of header.size (next_page c.task past) c.access) past k.made c.waits.at) c.comes in (
      c.number ∙ (ap (λ n. L.desired_access c.access n) own.steps ∙ ap (λ b. if b then 3 else 1) store),
      subst (λ (h : ℕ). any_store (waiters h (page_part header.size o p past)) ≡ true) c.on_host
          (by c.task c.access store c.waits agree own.own.region own.own.page),
    )
  where
    by : (task : ℕ) (access : Access) → is_store access ≡ true → (waits : Waits header task access past) → WaitersAgree header o p past
        → waits.at.entry.region.0 ≡ o → page_of header task access past waits.at.entry ≡ p
        → any_store (waiters waits.at.host (page_part header.size o p past)) ≡ true
    by task (Loading address bytes) store waits agree region page = absurd (let bad : false ≡ true = store in cc)
    by task (Storing address bytes value) store waits agree region page =
        store_among task (waiters waits.at.host (page_part header.size o p past)) (waiter_for header.size task (Storing address bytes value))
        (agree.there task (Storing address bytes value) tt waits region page) refl
    by task (Copying address bytes to) store waits agree region page = absurd (let bad : false ≡ true = store in cc)
