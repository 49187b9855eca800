-- What failed slow copies left: each leaves one object, whose end it pays for.
use Rattle.std.proofs.Common.{ℕ, suc, ◌≡◌, ◌≤◌, ◌<◌, ◌+◌, List, [], ◌∷◌, Bool, true, false, Option, None, Some, inl, inr, refl, sym, subst}
use Rattle.std.proofs.Common.{◌∙◌, arith, if◌then◌else◌}
use Rattle.std.proofs.lemmas.Bool.Decides.{nat_tests}
use Rattle.std.specs.Prelude.{◌==◌, ◌&&◌, ◌||◌, nat_lt, not}
use Rattle.vm_bound.proofs.OpenPages.{since_more, sum_falls}
use Rattle.vm_base.specs.declared.ids.HostId.{HostId}
use Rattle.vm_base.specs.declared.ids.ObjectId.{ObjectId}
use Rattle.vm_bound.proofs.Distinct.{sum_both, sum_lower, sum_none, sum_single, weigh}
use Rattle.vm_bound.proofs.Going.{is_copy_over, is_left}
use Rattle.vm_bound.proofs.Owing.{Follows, left_ends, left_one}
use Rattle.vm_bound.proofs.Paying.{ends_left, one_unless}
use Rattle.vm_bound.specs.Letters.{host_count}
use Rattle.vm_bound.specs.Lines.{sum_below}
use Rattle.vm_legal.proofs.Unshared.{wild_named}
use Rattle.vm_legal.specs.Licences.{Destroyed, EndCause, HasCause, Unheld, Unreachable}
use Rattle.vm_legal.specs.Living.{lives_on}
use Rattle.vm_legal.specs.Outside.{Outside}
use Rattle.vm_legal.specs.Steps.{ends_control, since}
use Rattle.vm_legal.specs.Stretches.{IsInner}
use Rattle.vm_model.specs.Controls.{live_control}
use Rattle.vm_model.specs.Local.{is_on}
use Rattle.vm_model.specs.Moments.{EachEvent}
use Rattle.vm_model.specs.Named.{named}
use Rattle.vm_model.specs.Regions.{next_object}
use Rattle.vm_model.specs.Tasks.{host_of}
use Rattle.vm_model.specs.Waiting.{Access, Copying, Target, begins_copy, copy_target, waiting}
use Rattle.vm_model.specs.declared.event.Event.{Event}
use Rattle.vm_model.specs.declared.event.Event.TheVariants as event
use Rattle.vm_model.specs.declared.message.Channel.TheVariants.{Up}
use Rattle.vm_model.specs.declared.message.Message.TheVariants as message
use Rattle.vm_model.specs.declared.script.Header.{Header}

-- what a failure leaves, and what an end takes
abbrev pub leaves : Event → ℕ
leaves (event.Failed task object page) = 1
leaves other = 0

abbrev pub left_dues : Header → Event → ℕ
left_dues header (event.Sent (Up host object) m) = if ends_left header object.0 m then 1 else 0
left_dues header other = 0

-- The objects that slow copies fill have been made.

abbrev IsMade : Header → Option Target → List Event → Type 0
IsMade header None past = Unit {0}
IsMade header (Some target) past = target.object < next_object header past

made_more : (header : Header) (e : Event) (target : Option Target) (past : List Event) → IsMade header target past → IsMade header target (e ∷ past)
made_more header e None past made = tt
made_more header e (Some target) past made = more e
  where
    more : (e : Event) → target.object < next_object header (e ∷ past)
    more (event.RegionMade region object pages) = omega (arith, made)
    more (event.Delayed region source offset pages copy) = omega (arith, made)
    more (event.Shadowed region new old) = omega (arith, made)
    more e = made

target_made : (header : Header) (outside : Outside) (task : ℕ) (past : List Event) → EachEvent (HasCause header outside) past
    → IsMade header (copy_target task past) past
target_made header outside task [] causes = tt
target_made header outside task (event.BegunCopy owner address bytes to ∷ past) causes =
    by (owner.0 == task) (target_made header outside task past causes.1)
  where
    by : (b : Bool) → IsMade header (copy_target task past) past
        → IsMade header (if b then None else copy_target task past) (event.BegunCopy owner address bytes to ∷ past)
    by true made = tt
    by false made = made_more header (event.BegunCopy owner address bytes to) (copy_target task past) past made
target_made header outside task (event.RegionMade region object pages ∷ past) causes =
    by (begins_copy task past) (target_made header outside task past causes.1)
  where
    fresh : object.0 ≡ next_object header past → object.0 < next_object header past + 1
    fresh is = omega (arith, is)

    by : (b : Bool) → IsMade header (copy_target task past) past
        → IsMade header (if b then Some (record { region = region.0; object = object.0 }) else copy_target task past) (event.RegionMade region object pages ∷ past)
    by true made = fresh causes.0.1.1
    by false made = made_more header (event.RegionMade region object pages) (copy_target task past) past made
target_made header outside task (e ∷ past) causes = made_more header e (copy_target task past) past (target_made header outside task past causes.1)

over_made : (header : Header) (o : ℕ) (access : Option Access) (target : Option Target) (past : List Event) → IsMade header target past
    → is_copy_over o access target ≡ true → o < next_object header past
over_made header o (Some (Copying address bytes to)) (Some target) past made is =
    let same : target.object ≡ o = grind (arith, nat_tests) in subst (λ (k : ℕ). k < next_object header past) same made
over_made header o None target past made is = absurd (let bad : false ≡ true = is in cc)
over_made header o (Some access) None past made is = never access is
  where
    never : (access : Access) → is_copy_over o (Some access) None ≡ true → o < next_object header past
    never (Copying address bytes to) is = absurd (let bad : false ≡ true = is in cc)
    never access is = absurd (let bad : false ≡ true = is in cc)
over_made header o (Some access) (Some target) past made is = absurd (let bad : false ≡ true = is in cc)

-- what is left was made
left_made : (header : Header) (outside : Outside) (h o : ℕ) (past : List Event) → EachEvent (HasCause header outside) past → is_left h o past ≡ true
    → o < next_object header past
left_made header outside h o [] causes is = absurd (let bad : false ≡ true = is in cc)
left_made header outside h o (event.Line line ∷ past) causes is = absurd (let bad : false ≡ true = is in cc)
left_made header outside h o (event.Taken channel m ∷ past) causes is = absurd (let bad : false ≡ true = is in cc)
left_made header outside h o (event.Failed task object page ∷ past) causes is =
    by (lives_on h task.0 past) (is_copy_over o (waiting task.0 past) (copy_target task.0 past)) refl (is_left h o past) refl is
    (left_made header outside h o past causes.1)
  where
    by : (a b : Bool) → is_copy_over o (waiting task.0 past) (copy_target task.0 past) ≡ b → (c : Bool) → is_left h o past ≡ c → (a && b || c) ≡ true
        → (is_left h o past ≡ true → o < next_object header past) → o < next_object header past
    by a true over c left is was = over_made header o (waiting task.0 past) (copy_target task.0 past) past (target_made header outside task.0 past causes.1) over
    by a b over true left is was = was left
    by true false over false left is was = absurd (let bad : false ≡ true = is in cc)
    by false false over false left is was = absurd (let bad : false ≡ true = is in cc)
left_made header outside h o (event.RegionMade region object pages ∷ past) causes is =
    let was = left_made header outside h o past causes.1 is in omega (arith, was)
left_made header outside h o (event.Delayed region source offset pages copy ∷ past) causes is =
    let was = left_made header outside h o past causes.1 is in omega (arith, was)
left_made header outside h o (event.Shadowed region new old ∷ past) causes is =
    let was = left_made header outside h o past causes.1 is in omega (arith, was)
left_made header outside h o (e ∷ past) causes is = left_made header outside h o past causes.1 is

-- One object on one host.

abbrev is_new : ℕ → ℕ → Event → List Event → Bool
is_new h o (event.Failed task object page) past = lives_on h task.0 past && is_copy_over o (waiting task.0 past) (copy_target task.0 past)
is_new h o other past = false

abbrev is_new_on : ℕ → Event → List Event → Bool
is_new_on h (event.Failed task object page) past = lives_on h task.0 past
is_new_on h other past = false

left_is : (h o : ℕ) (e : Event) (past : List Event) → IsInner e → is_left h o (e ∷ past) ≡ (is_new h o e past || is_left h o past)
left_is h o (event.Line line) past inner = absurd inner
left_is h o (event.Taken channel m) past inner = absurd inner
left_is h o (event.Failed task object page) past inner = refl
left_is h o e past inner = refl

-- by what is new and what ends
weighed : (t new left ends ended : Bool) → (if t && (new || left) then one_unless (ends || ended) else 0)
    ≤ (if t && left then one_unless ended else 0) + weigh new 1
weighed false new left ends ended = omega arith
weighed true true true true true = omega arith
weighed true true true true false = omega arith
weighed true true true false ended = omega arith
weighed true true false true ended = omega arith
weighed true true false false true = omega arith
weighed true true false false false = omega arith
weighed true false true true true = omega arith
weighed true false true true false = omega arith
weighed true false true false ended = omega arith
weighed true false false ends ended = omega arith

one_left : (header : Header) (h o : ℕ) (e : Event) (past : List Event) → IsInner e
    → left_one header h o (e ∷ past) ≤ left_one header h o past + weigh (is_new h o e past) 1
one_left header h o e past inner =
    subst (λ (b : Bool). (if not (nat_lt o (named header)) && b then one_unless (since (ends_control h o) (e ∷ past)) else 0)
    ≤ left_one header h o past + weigh (is_new h o e past) 1) (sym (left_is h o e past inner))
    (subst (λ (b : Bool). (if not (nat_lt o (named header)) && (is_new h o e past || is_left h o past) then one_unless b else 0)
    ≤ left_one header h o past + weigh (is_new h o e past) 1) (sym (since_more (ends_control h o) e past inner))
    (weighed (not (nat_lt o (named header))) (is_new h o e past) (is_left h o past) (ends_control h o e) (since (ends_control h o) past)))

-- All of them.

abbrev left_row : Header → ℕ → List Event → ℕ
left_row header h past = sum_below (next_object header past) (λ o. left_one header h o past)

-- of an object that isn't made yet nothing is left
none_left : (header : Header) (outside : Outside) (h : ℕ) (past : List Event) → EachEvent (HasCause header outside) past
    → left_one header h (next_object header past) past ≡ 0
none_left header outside h past causes = by (is_left h (next_object header past) past) refl (not (nat_lt (next_object header past) (named header)))
  where
    by : (b : Bool) → is_left h (next_object header past) past ≡ b → (t : Bool)
        → (if t && b then one_unless (since (ends_control h (next_object header past)) past) else 0) ≡ 0
    by true is t = let less = left_made header outside h (next_object header past) past causes is in absurd (omega (arith, less))
    by false is true = refl
    by false is false = refl

one_more : (n : ℕ) (f : ℕ → ℕ) → f n ≡ 0 → sum_below (n + 1) f ≤ sum_below n f
one_more n f none =
    let next : n + 1 ≡ suc n = omega arith in subst (λ (k : ℕ). sum_below k f ≤ sum_below n f) (sym next) (omega (arith, none))

-- a new object adds none to a host's
row_grows : (header : Header) (outside : Outside) (h : ℕ) (e : Event) (past : List Event) → EachEvent (HasCause header outside) past
    → sum_below (next_object header (e ∷ past)) (λ o. left_one header h o past) ≤ left_row header h past
row_grows header outside h (event.Shadowed region new old) past causes =
    one_more (next_object header past) (λ o. left_one header h o past) (none_left header outside h past causes)
row_grows header outside h (event.RegionMade region object pages) past causes =
    one_more (next_object header past) (λ o. left_one header h o past) (none_left header outside h past causes)
row_grows header outside h (event.Delayed region source offset pages copy) past causes =
    one_more (next_object header past) (λ o. left_one header h o past) (none_left header outside h past causes)
row_grows header outside h e past causes = omega arith

-- what is new on a host: at most one object, and that on one host
new_row : (header : Header) (h : ℕ) (e : Event) (past : List Event) (n : ℕ) → sum_below n (λ o. weigh (is_new h o e past) 1) ≤ weigh (is_new_on h e past) 1
new_row header h (event.Failed task object page) past n = by (lives_on h task.0 past)
  where
    over : (access : Option Access) (target : Option Target) → sum_below n (λ o. weigh (is_copy_over o access target) 1) ≤ 1
    over (Some (Copying address bytes to)) (Some target) = sum_single n target.object 1 (λ o. weigh (target.object == o) 1) (λ o. omega arith)
    over None target = let none = sum_none n (λ o. weigh false 1) (λ o. omega arith) in omega (arith, none)
    over (Some access) None = let none = sum_none n (λ o. weigh (is_copy_over o (Some access) None) 1) (λ o. away o access) in omega (arith, none)
      where
        away : (o : ℕ) (access : Access) → weigh (is_copy_over o (Some access) None) 1 ≤ 0
        away o (Copying address bytes to) = omega arith
        away o access = omega arith
    over (Some access) (Some target) = let none = sum_none n (λ o. weigh false 1) (λ o. omega arith) in omega (arith, none)

    by : (b : Bool) → sum_below n (λ o. weigh (b && is_copy_over o (waiting task.0 past) (copy_target task.0 past)) 1) ≤ weigh b 1
    by true = over (waiting task.0 past) (copy_target task.0 past)
    by false = sum_none n (λ o. weigh false 1) (λ o. omega arith)
new_row header h e past n = sum_none n (λ o. weigh false 1) (λ o. omega arith)

new_rows : (header : Header) (e : Event) (past : List Event) (hosts : ℕ) → sum_below hosts (λ h. weigh (is_new_on h e past) 1) ≤ leaves e
new_rows header (event.Failed task object page) past hosts = by (host_of task.0 past)
  where
    by : (host : Option ℕ) → sum_below hosts (λ h. weigh (is_on h host) 1) ≤ 1
    by None = let none = sum_none hosts (λ h. weigh false 1) (λ h. omega arith) in omega (arith, none)
    by (Some own) = sum_single hosts own 1 (λ h. weigh (own == h) 1) (λ h. omega arith)
new_rows header e past hosts = sum_none hosts (λ h. weigh false 1) (λ h. omega arith)

-- no event leaves more than a failure does
left_more : (header : Header) (outside : Outside) (e : Event) (past : List Event) → EachEvent (HasCause header outside) past → IsInner e
    → left_ends header (e ∷ past) ≤ left_ends header past + leaves e
left_more header outside e past causes inner =
    let new = new_rows header e past (host_count header) in
    let both = sum_both (host_count header) (λ h. left_row header h past) (λ h. weigh (is_new_on h e past) 1) in
    let all = sum_lower (host_count header) (λ h. left_row header h (e ∷ past)) (λ h. left_row header h past + weigh (is_new_on h e past) 1) row in
    omega (arith, new, both, all)
  where
    row : (h : ℕ) → left_row header h (e ∷ past) ≤ left_row header h past + weigh (is_new_on h e past) 1
    row h =
        let each = sum_lower (next_object header (e ∷ past)) (λ o. left_one header h o (e ∷ past)) (λ o. left_one header h o past + weigh (is_new h o e past) 1)
        (λ o. one_left header h o e past inner) in
        let both = sum_both (next_object header (e ∷ past)) (λ o. left_one header h o past) (λ o. weigh (is_new h o e past) 1) in
        let same = row_grows header outside h e past causes in
        let new = new_row header h e past (next_object header (e ∷ past)) in
        omega (arith, each, both, same, new)

-- The end of what was left.

-- an object that was left ends
left_ended : (header : Header) (outside : Outside) (host : HostId) (object : ObjectId) (control : ℕ) (past : List Event) → EachEvent (HasCause header outside) past
    → host.0 < host_count header → named header ≤ object.0 → is_left host.0 object.0 past ≡ true → since (ends_control host.0 object.0) past ≡ false
    → left_ends header (event.Sent (Up host object) (message.Terminate control) ∷ past) + 1 ≤ left_ends header past
left_ended header outside host object control past causes on_host temporary left unended =
    sum_falls (host_count header) host.0 (λ h. left_row header h now) (λ h. left_row header h past) (λ h. row h) on_host
    (sum_falls (next_object header past) object.0 (λ o. left_one header host.0 o now) (λ o. left_one header host.0 o past) (λ o. one host.0 o)
    (left_made header outside host.0 object.0 past causes left) here)
  where
    now : List Event
    now = event.Sent (Up host object) (message.Terminate control) ∷ past

    one : (h o : ℕ) → left_one header h o now ≤ left_one header h o past
    one h o = let less = one_left header h o (event.Sent (Up host object) (message.Terminate control)) past tt in omega (arith, less)

    row : (h : ℕ) → left_row header h now ≤ left_row header h past
    row h = sum_lower (next_object header past) (λ o. left_one header h o now) (λ o. left_one header h o past) (one h)

    here : left_one header host.0 object.0 now + 1 ≤ left_one header host.0 object.0 past
    here = by (nat_lt object.0 (named header)) refl (is_left host.0 object.0 past) left (since (ends_control host.0 object.0) past) unended (host.0 == host.0)
        (object.0 == object.0) (grind (arith, nat_tests)) (grind (arith, nat_tests))
      where
        by : (t : Bool) → nat_lt object.0 (named header) ≡ t → (l : Bool) → l ≡ true → (s : Bool) → s ≡ false → (a b : Bool) → a ≡ true → b ≡ true
            → (if not t && l then one_unless ((a && (b && true)) || s) else 0) + 1 ≤ (if not t && l then one_unless s else 0)
        by true is l left s unended a b first second = absurd (let less : object.0 < named header = grind (arith, nat_tests) in omega (arith, less, temporary))
        by false is true left false unended true true first second = omega arith
        by false is false left s unended a b first second = absurd (let bad : false ≡ true = left in cc)
        by false is l left true unended a b first second = absurd (let bad : true ≡ false = unended in cc)
        by false is l left s unended false b first second = absurd (let bad : false ≡ true = first in cc)
        by false is l left s unended a false first second = absurd (let bad : false ≡ true = second in cc)

-- the end of a temporary object is of one that was left, and that hasn't ended
ends_what_is_left : (header : Header) (outside : Outside) (n : ℕ) (host : HostId) (object : ObjectId) (control : ℕ) (past : List Event)
    → Follows header outside n (event.Sent (Up host object) (message.Terminate control)) past → named header ≤ object.0
    → left_ends header (event.Sent (Up host object) (message.Terminate control) ∷ past) + 1 ≤ left_ends header past
ends_what_is_left header outside n host object control past follows temporary =
    left_ended header outside host object control past follows.causes follows.hosts.0 temporary (left follows.licensed.0.why) (open_still (since
    (ends_control host.0 object.0) past) refl)
  where
    live : live_control host.0 object.0 past ≡ Some control
    live = follows.licensed.0.live

    gone : {A : Type 0} → live_control host.0 object.0 past ≡ None → A
    gone none = let bad : ◌≡◌ {A = Option ℕ} None (Some control) = sym none ∙ live in absurd (cc)

    open_still : (b : Bool) → since (ends_control host.0 object.0) past ≡ b → b ≡ false
    open_still true ended = gone (follows.going.ended host.0 object.0 ended)
    open_still false ended = refl

    left : EndCause header host.0 object.0 past → is_left host.0 object.0 past ≡ true
    left (Unreachable since_temporary unreached unasked) = elim (follows.going.orphans host.0 object.0 temporary unreached) [
      | inl none ↦ gone none
      | inr is ↦ is
    ]
    left (Unheld declared unheld unasked) = absurd (omega (arith, declared, temporary))
    left (Destroyed destroyed) = let declared = wild_named header object.0 destroyed.wild in absurd (omega (arith, declared, temporary))

pub left_law : (header : Header) (outside : Outside) (n : ℕ) (e : Event) (past : List Event) → Follows header outside n e past
    → left_ends header (e ∷ past) + left_dues header e ≤ left_ends header past + leaves e
left_law header outside n (event.Sent (Up host object) (message.Terminate control)) past follows =
    by (nat_lt object.0 (named header)) refl (left_more header outside (event.Sent (Up host object) (message.Terminate control)) past follows.causes follows.inner)
  where
    by : (b : Bool) → nat_lt object.0 (named header) ≡ b
        → left_ends header (event.Sent (Up host object) (message.Terminate control) ∷ past) ≤ left_ends header past + 0
        → left_ends header (event.Sent (Up host object) (message.Terminate control) ∷ past) + (if not b then 1 else 0) ≤ left_ends header past + 0
    by true is more = omega (arith, more)
    by false is more =
        let temporary : named header ≤ object.0 = grind (arith, nat_tests) in
        let less = ends_what_is_left header outside n host object control past follows temporary in
        omega (arith, less)
left_law header outside n (event.Sent (Up host object) m) past follows =
    let more = left_more header outside (event.Sent (Up host object) m) past follows.causes follows.inner in omega (arith, more)
left_law header outside n e past follows =
    let more = left_more header outside e past follows.causes follows.inner in omega (arith, more)
