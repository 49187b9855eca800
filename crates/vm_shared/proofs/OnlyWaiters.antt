-- Nobody else is among the waiters of a shared page: whoever is there waits for it, where no task is made anew while it lives.
use Rattle.std.proofs.Common.{ℕ, ◌≡◌, ◌<◌, List, [], ◌∷◌, Bool, true, false, Some, None, if◌then◌else◌, refl, sym, ap, subst, ◌∙◌, arith}
use Rattle.std.proofs.lemmas.Bool.Decides.{nat_tests}
use Rattle.std.specs.Prelude.{◌%◌, ◌/◌, ◌==◌, ◌&&◌}
use Rattle.std.proofs.lemmas.Bool.{cond-false, cond-true}
use Rattle.vm_base.specs.declared.entry.Entry.{Entry}
use Rattle.vm_base.specs.Entries.{entered, entry_at, inherited, page_at, protected, removed}
use Rattle.vm_model.specs.declared.event.Event.{Event}
use Rattle.vm_model.specs.declared.event.Event.TheVariants as event
use Rattle.vm_model.specs.declared.script.Header.{Header}
use Rattle.vm_model.specs.Moments.{EachEvent}
use Rattle.vm_model.specs.Named.{named}
use Rattle.vm_model.specs.PagePart.{page_part}
use Rattle.vm_model.specs.Side.{side}
use Rattle.vm_model.specs.TaskPlace.{has_page, means_page, task_host}
use Rattle.vm_model.specs.Tasks.{entries_of, host_of}
use Rattle.vm_model.specs.Waiters.{Waiter, waiter_of, waiters, waiters_after, without_task}
use Rattle.vm_model.specs.Waiting.{Access, Copying, Loading, Storing, address_of, next_page, waiting}
use Rattle.vm_model.specs.Words.{Act, ActEffect, Begins, BeginsCopy, Copies, EndsCopy, Fails, Loads, Nothing, Puts, Stores, act_if, act_of, effect_on}
use Rattle.vm_model.specs.Words.{times_meant, to_others}
use Rattle.vm_legal.specs.Licences as L
use Rattle.vm_legal.specs.Licences.{HasCause}
use Rattle.vm_legal.specs.Outside.{Outside, is_shared}
use Rattle.vm_abroad.specs.Whose.{IsNewTask}
use Rattle.vm_coherence.proofs.Law.{others_wait}
use Rattle.vm_shared.proofs.Declared.{comes_from_declared, declared_top_own, place_from_declared, shared_declared}
use Rattle.vm_shared.proofs.Numbering.{IsOwn, numbering}
use Rattle.vm_shared.proofs.Waiters.{IsPlainAccess, at_address, copies_plain, is_of, itself, none_waits, number_is, same, spares, spares_on, waiter_for}
use Rattle.vm_shared.proofs.Waiters.{waiter_stays}
use Rattle.vm_legal.specs.Accesses.{Waits, page_of}

-- a task waits on the host with a load or a store of page p of o, and wants this of the page
pub record IsWaiting (size o p h task : ℕ) (w : Waiter) (past : List Event) : Type 0 where
  pub access : Access
  pub plain : IsPlainAccess access
  pub waits : waiting task past ≡ Some access
  pub on : task_host task past ≡ h
  pub means : means_page size o p task (at_address access) past ≡ true
  pub is : w ≡ waiter_for size task access

-- what leaves the waiters as they are

abbrev Keeps : ActEffect → Type 0
Keeps (Begins task store at size value) = ⊥
Keeps (Loads task value) = ⊥
Keeps (Stores task at size value) = ⊥
Keeps (Fails task) = ⊥
Keeps e = Unit {0}

keeps_on : (h : ℕ) (a : Act) (ws : List Waiter) → Keeps a.effect → waiters_after (effect_on h a) ws ≡ ws
keeps_on h a ws is = by (a.host == h)
  where
    own : (e : ActEffect) → Keeps e → waiters_after e ws ≡ ws
    own (Begins task store at size value) is = absurd is
    own (Loads task value) is = absurd is
    own (Stores task at size value) is = absurd is
    own (Fails task) is = absurd is
    own e is = refl

    by : (b : Bool) → waiters_after (if b then a.effect else to_others a.effect) ws ≡ ws
    by true = own a.effect is
    by false = others_wait a.effect ws

keeps_if : (b : Bool) (e f : ActEffect) → Keeps e → Keeps f → Keeps (if b then e else f)
keeps_if true e f one other = one
keeps_if false e f one other = other

none_left : (task : ℕ) (ws : List Waiter) → waiter_of task (without_task task ws) ≡ None
none_left task [] = refl
none_left task (w ∷ ws) = by (w.task == task) refl (none_left task ws)
  where
    by : (b : Bool) → (w.task == task) ≡ b → waiter_of task (without_task task ws) ≡ None
        → waiter_of task (if b then without_task task ws else w ∷ without_task task ws) ≡ None
    by true is later = later
    by false is later = cond-false (w.task == task) (Some w) (waiter_of task (without_task task ws)) is ∙ later

-- an access that ends at its place leaves nothing of its task
ended_only : {A : Type 0} (h on owner task : ℕ) (b : Bool) (e f : ActEffect) (ws : List Waiter) (w : Waiter) → owner ≡ task
    → waiters_after e ws ≡ without_task owner ws → ((g : Act) → g.effect ≡ f → waiters_after (effect_on h g) ws ≡ ws)
    → (waiter_of task ws ≡ Some w → (on ≡ h) × (b ≡ true))
    → waiter_of task (waiters_after (effect_on h (record { host = on; effect = if b then e else f })) ws) ≡ Some w → A
ended_only {A} h on owner task b e f ws w mine goes keeps before found = by b refl found
  where
    gone : waiter_of task (waiters_after e ws) ≡ Some w → A
    gone found =
        let bad : None ≡ Some w = sym (ap (waiter_of task) goes ∙ (ap (λ t. waiter_of task (without_task t ws)) mine ∙ none_left task ws))
        ∙ found in absurd (cc)

    away : (x : ActEffect) → (on == h) ≡ false → waiter_of task (waiters_after (to_others x) ws) ≡ Some w → A
    away x there found =
        let old : waiter_of task ws ≡ Some w = sym (ap (waiter_of task) (others_wait x ws)) ∙ found in
        let bad : false ≡ true = sym there ∙ (ap (λ n. n == h) (before old).0 ∙ itself h) in absurd (cc)

    at_place : (c : Bool) → (on == h) ≡ c → waiter_of task (waiters_after (if c then e else to_others e) ws) ≡ Some w → A
    at_place true here found = gone found
    at_place false here found = away e here found

    by : (a : Bool) → b ≡ a → waiter_of task (waiters_after (effect_on h (record { host = on; effect = if a then e else f })) ws) ≡ Some w → A
    by true is found = at_place (on == h) refl found
    by false is found =
        let old : waiter_of task ws ≡ Some w = sym (ap (waiter_of task) (keeps (record { host = on; effect = f }) refl)) ∙ found in
        let bad : false ≡ true = sym is ∙ (before old).1 in absurd (cc)

-- a beginning adds one, or nothing
begins_or : (P : Type 0) (h on owner task : ℕ) (m store : Bool) (at bytes value : ℕ) (ws : List Waiter) (w : Waiter) → (owner == task) ≡ true
    → (m ≡ true → (on == h) ≡ true → record { task = owner; store = store; at = at; size = bytes; value = value } ≡ w → P) → (waiter_of task ws ≡ Some w → P)
    → waiter_of task (waiters_after (effect_on h (act_if m on (Begins owner store at bytes value))) ws) ≡ Some w → P
begins_or P h on owner task m store at bytes value ws w mine new old found = by (on == h) m refl refl found
  where
    by : (c b : Bool) → (on == h) ≡ c → m ≡ b → waiter_of task (waiters_after (if c then (if b then Begins owner store at bytes value else Nothing) else
        to_others (if b then Begins owner store at bytes value else Nothing)) ws) ≡ Some w → P
    by true true here means found =
        let one : Some (record { task = owner; store = store; at = at; size = bytes; value = value }) ≡ Some w = sym
        (cond-true (owner == task) (Some (record { task = owner; store = store; at = at; size = bytes; value = value })) (waiter_of task ws) mine)
        ∙ found in
        new means here (cc)
    by true false here means found = old found
    by false true here means found = old found
    by false false here means found = old found

-- who lives nowhere has no entries
entries_none : (header : Header) (outside : Outside) (task : ℕ) (past : List Event) → EachEvent (HasCause header outside) past → host_of task past ≡ None
    → entries_of header.size task past ≡ []
entries_none header outside task [] caused none = refl
entries_none header outside task (event.TaskMade made host ∷ past) caused none = by (made.0 == task) none (entries_none header outside task past caused.1)
  where
    by : (b : Bool) → (if b then Some host.0 else host_of task past) ≡ None → (host_of task past ≡ None → entries_of header.size task past ≡ [])
        → (if b then [] else entries_of header.size task past) ≡ []
    by true is later = refl
    by false is later = later is
entries_none header outside task (event.TaskEnded gone ∷ past) caused none = by (gone.0 == task) none (entries_none header outside task past caused.1)
  where
    by : (b : Bool) → (if b then None else host_of task past) ≡ None → (host_of task past ≡ None → entries_of header.size task past ≡ [])
        → (if b then [] else entries_of header.size task past) ≡ []
    by true is later = refl
    by false is later = later is
entries_none header outside task (event.Entered owner address bytes region offset prot inherit ∷ past) caused none =
    by (owner.0 == task) refl (entries_none header outside task past caused.1 none)
  where
    by : (b : Bool) → (owner.0 == task) ≡ b → entries_of header.size task past ≡ []
        → (if b then entered (record { address = address; bytes = bytes; region = region; offset = offset; prot = prot; inherit = inherit })
        (entries_of header.size task past) else entries_of header.size task past) ≡ []
    by true is later =
        let lives = caused.0.1.lives in
        let bad : Some caused.0.1.host ≡ None = sym lives ∙ (ap (λ t. host_of t past) (number_is owner.0 task is) ∙ none) in absurd (cc)
    by false is later = later
entries_none header outside task (event.Removed owner address bytes ∷ past) caused none =
    by (owner.0 == task) (entries_none header outside task past caused.1 none)
  where
    by : (b : Bool) → entries_of header.size task past ≡ []
        → (if b then removed header.size address bytes (entries_of header.size task past) else entries_of header.size task past) ≡ []
    by true later = ap (λ rows. removed header.size address bytes rows) later
    by false later = later
entries_none header outside task (event.Protected owner address bytes prot ∷ past) caused none =
    by (owner.0 == task) (entries_none header outside task past caused.1 none)
  where
    by : (b : Bool) → entries_of header.size task past ≡ []
        → (if b then protected header.size address bytes prot (entries_of header.size task past) else entries_of header.size task past) ≡ []
    by true later = ap (λ rows. protected header.size address bytes prot rows) later
    by false later = later
entries_none header outside task (event.Inherited owner address bytes inherit ∷ past) caused none =
    by (owner.0 == task) (entries_none header outside task past caused.1 none)
  where
    by : (b : Bool) → entries_of header.size task past ≡ []
        → (if b then inherited header.size address bytes inherit (entries_of header.size task past) else entries_of header.size task past) ≡ []
    by true later = ap (λ rows. inherited header.size address bytes inherit rows) later
    by false later = later
entries_none header outside task (e ∷ past) caused none = entries_none header outside task past caused.1 none

host_same : (task : ℕ) (e : Event) (past : List Event) → is_of task e ≡ false → task_host task (e ∷ past) ≡ task_host task past
host_same task (event.TaskMade made host) past is = cond-false (made.0 == task) host.0 (task_host task past) is
host_same task e past is = refl

-- where the address of a waiting access leads
entry_meant : (header : Header) (o p task address : ℕ) (entry : Entry) (past : List Event) → entry_at address (entries_of header.size task past) ≡ Some entry
    → means_page header.size o p task address past ≡ true → IsOwn entry.region.0 (page_at header.size address entry) o p
entry_meant header o p task address entry past found means =
    let both : (entry.region.0 == o && page_at header.size address entry == p) ≡ true = sym (ap (λ x. has_page header.size o p address x) found) ∙ means in
    record { region = grind (arith, nat_tests); page = grind (arith, nat_tests) }

place_meant : (object page r q o p : ℕ) → IsOwn r q object page → IsOwn r q o p → (object == o && page == p) ≡ true
place_meant object page r q o p one other =
    let first : object ≡ o = sym one.region ∙ other.region in
    let second : page ≡ p = sym one.page ∙ other.page in
    grind (arith, nat_tests)

-- the access with which a task waits
one_access : (task : ℕ) (past : List Event) (one other : Access) → waiting task past ≡ Some one → waiting task past ≡ Some other → one ≡ other
one_access task past one other first second = let same : Some one ≡ Some other = sym first ∙ second in cc

idle_owner : {A : Type 0} (size o p h task owner : ℕ) (w : Waiter) (past : List Event) → (owner == task) ≡ true → waiting owner past ≡ None
    → IsWaiting size o p h task w past → A
idle_owner size o p h task owner w past is none was =
    none_waits task was.access past (ap (λ t. waiting t past) (sym (number_is owner task is)) ∙ none) was.waits

begun_only : (size o p h task owner address bytes value : ℕ) (store : Bool) (new : Access) (w : Waiter) (e : Event) (past : List Event) → (owner == task) ≡ true
    → waiting owner past ≡ None
    → (IsPlainAccess new) × (at_address new ≡ address)
    × (waiter_for size owner new ≡ record { task = owner; store = store; at = address % size; size = bytes; value = value })
    → waiting task (e ∷ past) ≡ Some new → task_host task (e ∷ past) ≡ task_host task past → entries_of size task (e ∷ past) ≡ entries_of size task past
    → (waiter_of task (waiters h (page_part size o p past)) ≡ Some w → IsWaiting size o p h task w past)
    → waiter_of task (waiters_after (effect_on h (act_if (means_page size o p owner address past) (task_host owner past)
    (Begins owner store (address % size) bytes value))) (waiters h (page_part size o p past))) ≡ Some w
    → IsWaiting size o p h task w (e ∷ past)
begun_only size o p h task owner address bytes value store new w e past mine none shape waits host entries before found =
    begins_or (IsWaiting size o p h task w (e ∷ past)) h (task_host owner past) owner task (means_page size o p owner address past) store (address % size) bytes
    value (waiters h (page_part size o p past)) w mine
    (λ means here is.
    let own : owner ≡ task = number_is owner task mine in
    record {
      access = new;
      plain = shape.0;
      waits = waits;
      on = host ∙ (ap (λ t. task_host t past) (sym own) ∙ number_is (task_host owner past) h here);
      means =
          ap (λ rows. has_page size o p (at_address new) (entry_at (at_address new) rows)) entries
          ∙ (ap (λ a. means_page size o p task a past) shape.1 ∙ (ap (λ t. means_page size o p t address past) (sym own) ∙ means));
      is = sym is ∙ (sym shape.2 ∙ ap (λ t. waiter_for size t new) own);
    })
    (λ old. idle_owner size o p h task owner w past mine none (before old)) found

plain_address : (size next : ℕ) (access : Access) → IsPlainAccess access → address_of size next access ≡ at_address access
plain_address size next (Loading address bytes) plain = refl
plain_address size next (Storing address bytes value) plain = refl
plain_address size next (Copying address bytes to) plain = absurd plain

-- where an access that ends was about, it was about page p of o, if its task is among the waiters there

record IsHere (h on : ℕ) (object page o p : ℕ) : Type 0 where
  host : on ≡ h
  place : (object == o && page == p) ≡ true

loaded_here : (header : Header) (outside : Outside) (o p h task : ℕ) (w : Waiter) (object page : ℕ) (past : List Event)
    → EachEvent (HasCause header outside) past → o < named header → L.Loads header task object page past → IsWaiting header.size o p h task w past
    → IsHere h (task_host task past) object page o p
loaded_here header outside o p h task w object page past caused small c was =
    let k = numbering header outside past caused in
    let at : at_address was.access ≡ c.address = ap at_address (one_access task past was.access (Loading c.address c.bytes) was.waits c.waits.waits) in
    let meant = entry_meant header o p task c.address c.waits.at.entry past c.waits.at.found
    (ap (λ a. means_page header.size o p task a past) (sym at) ∙ was.means) in
    let less : c.waits.at.entry.region.0 < named header = subst (λ (n : ℕ). n < named header) (sym meant.region) small in
    let place = comes_from_declared header past c.waits.at.host c.waits.at.entry.region.0 (page_at header.size c.address c.waits.at.entry) object page
    k.numbered less c.comes in
    record { host = was.on; place = place_meant object page c.waits.at.entry.region.0 (page_at header.size c.address c.waits.at.entry) o p place meant }

stored_here : (header : Header) (outside : Outside) (o p h task : ℕ) (w : Waiter) (object page at size value : ℕ) (past : List Event)
    → EachEvent (HasCause header outside) past → o < named header → L.Stores header task object page at size value past
    → IsWaiting header.size o p h task w past → IsHere h (task_host task past) object page o p
stored_here header outside o p h task w object page at size value past caused small c was =
    let k = numbering header outside past caused in
    let same : at_address was.access ≡ c.address = ap at_address (one_access task past was.access (Storing c.address size value) was.waits c.waits.waits) in
    let meant = entry_meant header o p task c.address c.waits.at.entry past c.waits.at.found
    (ap (λ a. means_page header.size o p task a past) (sym same) ∙ was.means) in
    let less : c.waits.at.entry.region.0 < named header = subst (λ (n : ℕ). n < named header) (sym meant.region) small in
    let place = declared_top_own header past c.waits.at.entry.region.0 (page_at header.size c.address c.waits.at.entry) object page k.numbered less c.is_top in
    record { host = was.on; place = place_meant object page c.waits.at.entry.region.0 (page_at header.size c.address c.waits.at.entry) o p place meant }

-- an access waits here that ends for a page, which is its own
failed_on : (header : Header) (outside : Outside) (o p h task : ℕ) (w : Waiter) (object page : ℕ) (past : List Event)
    → EachEvent (HasCause header outside) past → o < named header → (access : Access) (waits : Waits header task access past)
    → (waits.at.entry.region.0 < named header → IsOwn waits.at.entry.region.0 (page_of header task access past waits.at.entry) object page)
    → IsWaiting header.size o p h task w past → IsHere h (task_host task past) object page o p
failed_on header outside o p h task w object page past caused small access waits own was =
    let one : was.access ≡ access = one_access task past was.access access was.waits waits.waits in
    let address : ℕ = address_of header.size (next_page task past) access in
    let same : at_address was.access ≡ address = ap at_address one
    ∙ sym (plain_address header.size (next_page task past) access (subst IsPlainAccess one was.plain)) in
    let meant = entry_meant header o p task address waits.at.entry past waits.at.found
    (ap (λ a. means_page header.size o p task a past) (sym same) ∙ was.means) in
    let less : waits.at.entry.region.0 < named header = subst (λ (n : ℕ). n < named header) (sym meant.region) small in
    let place = own less in
    record { host = was.on; place = place_meant object page waits.at.entry.region.0 (page_at header.size address waits.at.entry) o p place meant }

failed_here : (header : Header) (outside : Outside) (o p h task : ℕ) (w : Waiter) (object page : ℕ) (past : List Event)
    → EachEvent (HasCause header outside) past → o < named header → L.Fails header task object page past → IsWaiting header.size o p h task w past
    → IsHere h (task_host task past) object page o p
failed_here header outside o p h task w object page past caused small (L.ByError c) was =
    failed_on header outside o p h task w object page past caused small c.access c.waits (λ less. place_from_declared header past c.waits.at.entry.region.0
    (page_at header.size (address_of header.size (next_page task past) c.access) c.waits.at.entry) object page (numbering header outside past caused).numbered
    less
    c.place) was
failed_here header outside o p h task w object page past caused small (L.Unserved c) was =
    failed_on header outside o p h task w object page past caused small c.access c.waits (λ less. record { region = c.region_is; page = sym c.page_is }) was

ended_by : {A : Type 0} (size o p h task owner object page : ℕ) (e f : ActEffect) (w : Waiter) (past : List Event) → (owner == task) ≡ true
    → waiters_after e (waiters h (page_part size o p past)) ≡ without_task owner (waiters h (page_part size o p past)) → Keeps f
    → (waiter_of task (waiters h (page_part size o p past)) ≡ Some w → IsHere h (task_host task past) object page o p)
    → waiter_of task (waiters_after (effect_on h (record { host = task_host owner past; effect = if object == o && page == p then e else f }))
    (waiters h (page_part size o p past))) ≡ Some w → A
ended_by size o p h task owner object page e f w past mine goes keeps here found =
    ended_only h (task_host owner past) owner task (object == o && page == p) e f (waiters h (page_part size o p past)) w (number_is owner task mine) goes
    (λ g is. keeps_on h g (waiters h (page_part size o p past)) (subst Keeps (sym is) keeps))
    (λ old. (ap (λ t. task_host t past) (number_is owner task mine) ∙ (here old).host, (here old).place)) found

own_only : (header : Header) (outside : Outside) (o p h task : ℕ) (w : Waiter) (e : Event) (past : List Event) → EachEvent (HasCause header outside) past
    → HasCause header outside e past → IsNewTask e past → o < named header → is_of task e ≡ true
    → (waiter_of task (waiters h (page_part header.size o p past)) ≡ Some w → IsWaiting header.size o p h task w past)
    → waiter_of task (waiters h (page_part header.size o p (e ∷ past))) ≡ Some w → IsWaiting header.size o p h task w (e ∷ past)
own_only header outside o p h task w (event.TaskMade made host) past caused cause new small is before found =
    let was = before (sym (ap (waiter_of task) (keeps_on h (record { host = 0; effect = Nothing }) (waiters h (page_part header.size o p past)) tt)) ∙ found) in
    let none : host_of task past ≡ None = ap (λ t. host_of t past) (sym (number_is made.0 task is)) ∙ new in
    let empty = entries_none header outside task past caused none in
    let bad : false ≡ true = sym (ap (λ rows. has_page header.size o p (at_address was.access) (entry_at (at_address was.access) rows)) empty)
    ∙ was.means in absurd (cc)
own_only header outside o p h task w (event.TaskEnded gone) past caused cause new small is before found =
    idle_owner header.size o p h task gone.0 w past is cause.1 (before (sym (ap (waiter_of task)
    (keeps_on h (record { host = 0; effect = Nothing }) (waiters h (page_part header.size o p past)) tt)) ∙ found))
own_only header outside o p h task w (event.Entered owner address bytes region offset prot inherit) past caused cause new small is before found =
    idle_owner header.size o p h task owner.0 w past is cause.1.idle (before (sym
    (ap (waiter_of task) (keeps_on h (record { host = 0; effect = Nothing }) (waiters h (page_part header.size o p past)) tt)) ∙ found))
own_only header outside o p h task w (event.Removed owner address bytes) past caused cause new small is before found =
    idle_owner header.size o p h task owner.0 w past is cause.1 (before (sym (ap (waiter_of task)
    (keeps_on h (record { host = 0; effect = Nothing }) (waiters h (page_part header.size o p past)) tt)) ∙ found))
own_only header outside o p h task w (event.Protected owner address bytes prot) past caused cause new small is before found =
    idle_owner header.size o p h task owner.0 w past is cause.1 (before (sym (ap (waiter_of task)
    (keeps_on h (record { host = 0; effect = Nothing }) (waiters h (page_part header.size o p past)) tt)) ∙ found))
own_only header outside o p h task w (event.Inherited owner address bytes inherit) past caused cause new small is before found =
    idle_owner header.size o p h task owner.0 w past is cause.1 (before (sym (ap (waiter_of task)
    (keeps_on h (record { host = 0; effect = Nothing }) (waiters h (page_part header.size o p past)) tt)) ∙ found))
own_only header outside o p h task w (event.BegunLoad owner address bytes) past caused cause new small is before found =
    begun_only header.size o p h task owner.0 address bytes 0 false (Loading address bytes) w (event.BegunLoad owner address bytes) past is cause.1
    (tt, refl, refl) (cond-true (owner.0 == task) (Some (Loading address bytes)) (waiting task past) is) refl refl before found
own_only header outside o p h task w (event.BegunStore owner address bytes value) past caused cause new small is before found =
    begun_only header.size o p h task owner.0 address bytes value true (Storing address bytes value) w (event.BegunStore owner address bytes value) past is
    cause.1 (tt, refl, refl) (cond-true (owner.0 == task) (Some (Storing address bytes value)) (waiting task past) is) refl refl before found
own_only header outside o p h task w (event.BegunCopy owner address bytes to) past caused cause new small is before found =
    idle_owner header.size o p h task owner.0 w past is cause.1
    (before (sym (ap (waiter_of task) (keeps_on h (record {
      host = task_host owner.0 past;
      effect = BeginsCopy owner.0 (times_meant header.size (λ at. means_page header.size o p owner.0 at past) address (bytes / header.size));
    })
    (waiters h (page_part header.size o p past)) tt)) ∙ found))
own_only header outside o p h task w (event.Loaded owner object page value) past caused cause new small is before found =
    ended_by header.size o p h task owner.0 object.0 page.0 (Loads owner.0 value) Nothing w past is refl tt
    (λ old. loaded_here header outside o p h task w object.0 page.0 past caused small
    (subst (λ (t : ℕ). L.Loads header t object.0 page.0 past) (number_is owner.0 task is) cause.1) (before old)) found
own_only header outside o p h task w (event.Stored owner object page at size value) past caused cause new small is before found =
    ended_by header.size o p h task owner.0 object.0 page.0 (Stores owner.0 at size value) Nothing w past is refl tt
    (λ old. stored_here header outside o p h task w object.0 page.0 at size value past caused small
    (subst (λ (t : ℕ). L.Stores header t object.0 page.0 at size value past) (number_is owner.0 task is) cause.1) (before old)) found
own_only header outside o p h task w (event.Failed owner object page) past caused cause new small is before found =
    ended_by header.size o p h task owner.0 object.0 page.0 (Fails owner.0) (EndsCopy owner.0) w past is refl tt
    (λ old. failed_here header outside o p h task w object.0 page.0 past caused small
    (subst (λ (t : ℕ). L.Fails header t object.0 page.0 past) (number_is owner.0 task is) cause.1) (before old)) found
own_only header outside o p h task w (event.CopiedPage owner index object page target) past caused cause new small is before found =
    let c = cause.1 in
    let bytes = (side (task_host owner.0 past) (page_part header.size object.0 page.0 past)).bytes in
    let act : Act = record {
      host = task_host owner.0 past;
      effect = if target.0 == o && index.0 == p then Puts bytes true else (if object.0 == o && page.0 == p then Copies owner.0 else Nothing);
    } in
    let kept = keeps_on h act (waiters h (page_part header.size o p past)) (keeps_if (target.0 == o && index.0 == p) (Puts bytes true)
    (if object.0 == o && page.0 == p then Copies owner.0 else Nothing) tt (keeps_if (object.0 == o && page.0 == p) (Copies owner.0) Nothing tt tt)) in
    let was = before (sym (ap (waiter_of task) kept) ∙ found) in
    copies_plain task was.access c.address c.bytes c.to past was.plain (ap (λ t. waiting t past) (sym (number_is owner.0 task is)) ∙ c.waits.waits) was.waits
own_only header outside o p h task w (event.CopyEnded owner) past caused cause new small is before found =
    let c = cause.1 in
    let was = before (sym (ap (waiter_of task) (keeps_on h (record { host = task_host owner.0 past; effect = EndsCopy owner.0 })
    (waiters h (page_part header.size o p past)) tt)) ∙ found) in
    copies_plain task was.access c.address c.bytes c.to past was.plain (ap (λ t. waiting t past) (sym (number_is owner.0 task is)) ∙ c.waits) was.waits
own_only header outside o p h task w other past caused cause new small is before found = absurd (let bad : false ≡ true = is in cc)

-- who is among the waiters of a page of shared memory waits there, where each task that is made is new
pub only_waiters : (header : Header) (outside : Outside) (o p : ℕ) (past : List Event) → EachEvent (HasCause header outside) past → EachEvent IsNewTask past
    → is_shared header o ≡ true → (h task : ℕ) (w : Waiter) → waiter_of task (waiters h (page_part header.size o p past)) ≡ Some w
    → IsWaiting header.size o p h task w past
only_waiters header outside o p [] caused made shared h task w found = absurd (cc)
only_waiters header outside o p (e ∷ past) caused made shared h task w found =
    by (only_waiters header outside o p past caused.1 made.1 shared h task w) (is_of task e) refl
  where
    act : Act
    act =
        act_of header.size o p (λ t. task_host t past) (λ t address. means_page header.size o p t address past)
        (λ host object page. (side host (page_part header.size object page past)).bytes) e

    by : (waiter_of task (waiters h (page_part header.size o p past)) ≡ Some w → IsWaiting header.size o p h task w past) → (b : Bool) → is_of task e ≡ b
        → IsWaiting header.size o p h task w (e ∷ past)
    by before true is = own_only header outside o p h task w e past caused.1 caused.0 made.0 (shared_declared header o shared) is before found
    by before false is =
        let s = same header.size task e past is in
        let spared = spares_on task h act (spares task header.size o p (λ t. task_host t past) (λ t address. means_page header.size o p t address past)
        (λ host object page. (side host (page_part header.size object page past)).bytes) e is) in
        let was = before (sym (waiter_stays task (effect_on h act) (waiters h (page_part header.size o p past)) spared) ∙ found) in
        record {
          access = was.access;
          plain = was.plain;
          waits = s.waits ∙ was.waits;
          on = host_same task e past is ∙ was.on;
          means = ap (λ rows. has_page header.size o p (at_address was.access) (entry_at (at_address was.access) rows)) s.entries ∙ was.means;
          is = was.is;
        }
