-- What a pager answers, as events of a step.
use Rattle.vm_system.proofs.Common.{AllInner, Bool, Device, Down, EachIn, EachOf, Event, FramesSuffice, Header, Held, IsAreaTold, IsConsequence, IsInner}
use Rattle.vm_system.proofs.Common.{IsNobodys, IsSome, IsToPager, IsWordUp, KeepsShape, LeavesAreas, List, Listed, Message, MomentsIn, None, ObjectId, Ok}
use Rattle.vm_system.proofs.Common.{Option, OwnBytes, PageNo, PagerAnswer, Put, PutEffects, PutTold, RequestAnswer, ReturnsWhole, SameAreas, SlotTable, Some}
use Rattle.vm_system.proofs.Common.{Suffice, TellsFault, Told, Up, [], ap, area_name, arith, became, device_failed, devices, error, false, held_at, held_slot}
use Rattle.vm_system.proofs.Common.{if◌then◌else◌, inl, inr, is_device, is_some, nat_tests, Read, refl, sent_to, slot_in_table, subst, sym, told_of, true, ℕ}
use Rattle.vm_system.proofs.Common.{◌++◌, ◌+◌, ◌∙◌, ◌∷◌, ◌≡◌, ◌≤◌, ◌⊎◌}
use Rattle.std.proofs.Common.{◌==◌, ◌&&◌}
use Rattle.pg_slots.specs.declared.answers.Put.TheVariants as put
use Rattle.pg_slots.specs.declared.slot_row.Held.TheVariants as held
use Rattle.vm_model.specs.declared.event.Device.TheVariants.{Paging}
use Rattle.vm_model.specs.declared.event.Event.TheVariants as event
use Rattle.vm_model.specs.declared.message.Message.TheVariants as message

-- what a kernel says to its pager
pub word_up : (size : ℕ) (made : ℕ → Bool) (m : Message) → IsWordUp size made m → IsToPager m × ReturnsWhole size m
word_up size made (message.Init control bytes) word = (tt, tt)
word_up size made (message.Create control bytes) word = (tt, tt)
word_up size made (message.Request control page access) word = (tt, tt)
word_up size made (message.Return control page dirty keep bytes) word = (tt, word)
word_up size made (message.Unlock control page access) word = (tt, tt)
word_up size made (message.Completed control page count) word = (tt, tt)
word_up size made (message.Terminate control) word = (tt, tt)
word_up size made (message.Changed control cache strategy) word = (tt, tt)
word_up size made other word = absurd word

-- the event is a pager's: it tells that a page was lost, by its own backing, or sends down
abbrev pub IsReply : Device → Event → Type 0
IsReply by (event.Sent (Down host object control) (message.Ready cache strategy)) = Unit {0}
IsReply by (event.Sent (Down host object control) (message.Supply page lock precious bytes)) = Unit {0}
IsReply by (event.Sent (Down host object control) (message.Unavailable page)) = Unit {0}
IsReply by (event.Sent (Down host object control) (message.Error page reason)) = Unit {0}
IsReply by (event.Sent (Down host object control) (message.Lock page count returns flush lock reply)) = Unit {0}
IsReply by (event.NoSlot object page) = Unit {0}
IsReply by (event.DeviceFailed who way object page) = who ≡ by
IsReply by other = ⊥

requested : (size host : ℕ) (object : ObjectId) (control : ℕ) (page : PageNo) (has : Option Held) (events : List Event)
    → RequestAnswer size host object control page has events → EachOf (IsReply Paging) events
requested size host object control page None events is = subst (λ (z : List Event). EachOf (IsReply Paging) z) (sym is) (tt, tt)
requested size host object control page (Some held.Lost) events is = subst (λ (z : List Event). EachOf (IsReply Paging) z) (sym is) (tt, tt)
requested size host object control page (Some (held.Torn s)) events is = subst (λ (z : List Event). EachOf (IsReply Paging) z) (sym is) (tt, tt)
requested size host object control page (Some (held.Kept s)) events (inl is) = subst (λ (z : List Event). EachOf (IsReply Paging) z) (sym is.2) (tt, tt)
requested size host object control page (Some (held.Kept s)) events (inr is) = subst (λ (z : List Event). EachOf (IsReply Paging) z) (sym is) (tt, (refl, tt))

told : (p : Put) (object : ObjectId) (page : PageNo) → EachOf (IsReply Paging) (told_of p object page)
told put.Kept object page = tt
told put.NoSlot object page = (tt, tt)
told put.Failed object page = (refl, tt)

pub replies : (m : Message) (object : ObjectId) (old new : SlotTable) (events : List Event) → PagerAnswer m object old new events
    → EachOf (IsReply Paging) events
replies (message.Init control size) object old new events a = subst (λ (z : List Event). EachOf (IsReply Paging) z) (sym a.1) (tt, tt)
replies (message.Create control size) object old new events a = subst (λ (z : List Event). EachOf (IsReply Paging) z) (sym a.1) (tt, tt)
replies (message.Request control page access) object old new events a = requested old.size old.host object control page (held_at old object.0 page.0) events a.1
replies (message.Return control page dirty keep bytes) object old new events a =
    subst (λ (z : List Event). EachOf (IsReply Paging) z) (sym a.told) (told (became events) object page)
replies (message.Terminate control) object old new events a = subst (λ (z : List Event). EachOf (IsReply Paging) z) (sym a.1) tt
replies (message.Unlock control page access) object old new events a = subst (λ (z : List Event). EachOf (IsReply Paging) z) (sym a.1) tt
replies (message.Completed control page count) object old new events a = subst (λ (z : List Event). EachOf (IsReply Paging) z) (sym a.1) tt
replies (message.Changed control cache strategy) object old new events a = subst (λ (z : List Event). EachOf (IsReply Paging) z) (sym a.1) tt
replies other object old new events a = absurd a

-- one such event

consequence_one : (by : Device) (e : Event) (past : List Event) → IsReply by e → IsConsequence e past
consequence_one by (event.Sent channel m) past reply = tt
consequence_one by (event.NoSlot object page) past reply = tt
consequence_one by (event.DeviceFailed who way object page) past reply = tt
consequence_one by other past reply = absurd reply

inner_one : (by : Device) (e : Event) → IsReply by e → IsInner e
inner_one by (event.Sent channel m) reply = tt
inner_one by (event.NoSlot object page) reply = tt
inner_one by (event.DeviceFailed who way object page) reply = tt
inner_one by other reply = absurd reply

nobodys_one : (by : Device) (e : Event) → IsReply by e → IsNobodys e
nobodys_one by (event.Sent (Down host object control) m) reply = tt
nobodys_one by (event.Sent (Up host object) m) reply = absurd reply
nobodys_one by (event.NoSlot object page) reply = tt
nobodys_one by (event.DeviceFailed who way object page) reply = tt
nobodys_one by other reply = absurd reply

own_one : (header : Header) (by : Device) (e : Event) (past : List Event) → IsReply by e → OwnBytes header e past
own_one header by (event.Sent channel m) past reply = tt
own_one header by (event.NoSlot object page) past reply = tt
own_one header by (event.DeviceFailed who way object page) past reply = tt
own_one header by other past reply = absurd reply

-- it takes no frame
suffice_one : (header : Header) (host : ℕ) (by : Device) (e : Event) (past : List Event) → IsReply by e → Suffice header host past
    → Suffice header host (e ∷ past)
suffice_one header host by (event.Sent (Down at object control) m) past reply one = one
suffice_one header host by (event.Sent (Up at object) m) past reply one = absurd reply
suffice_one header host by (event.NoSlot object page) past reply one = one
suffice_one header host by (event.DeviceFailed who way object page) past reply one = one
suffice_one header host by other past reply one = absurd reply

-- and no other backing fails in it
spares_one : (by who : Device) (e : Event) (past : List Event) → is_device who by ≡ false → IsReply by e → devices who (e ∷ past) ≡ devices who past
spares_one by who (event.Sent channel m) past other reply = refl
spares_one by who (event.NoSlot object page) past other reply = refl
spares_one by who (event.DeviceFailed at way object page) past other reply =
    ap (λ (z : Bool). if z then devices who past + 1 else devices who past) (ap (λ (z : Device). is_device who z) reply ∙ other)
spares_one by who e past other reply = absurd reply

-- all of an answer

pub reply_consequences : (by : Device) (events past : List Event) → EachOf (IsReply by) events → EachIn IsConsequence events past
reply_consequences by [] past reply = tt
reply_consequences by (e ∷ events) past reply = (consequence_one by e (events ++ past) reply.0, reply_consequences by events past reply.1)

pub reply_inner : (by : Device) (events : List Event) → EachOf (IsReply by) events → AllInner events
reply_inner by [] reply = tt
reply_inner by (e ∷ events) reply = (inner_one by e reply.0, reply_inner by events reply.1)

pub reply_nobodys : (by : Device) (events : List Event) → EachOf (IsReply by) events → EachOf IsNobodys events
reply_nobodys by [] reply = tt
reply_nobodys by (e ∷ events) reply = (nobodys_one by e reply.0, reply_nobodys by events reply.1)

pub reply_own : (header : Header) (by : Device) (events past : List Event) → EachOf (IsReply by) events → EachIn (OwnBytes header) events past
reply_own header by [] past reply = tt
reply_own header by (e ∷ events) past reply = (own_one header by e (events ++ past) reply.0, reply_own header by events past reply.1)

reply_last : (header : Header) (by : Device) (events past : List Event) → EachOf (IsReply by) events → FramesSuffice header past
    → FramesSuffice header (events ++ past)
reply_last header by [] past reply all = all
reply_last header by (e ∷ events) past reply all =
    λ host. suffice_one header host by e (events ++ past) reply.0 (reply_last header by events past reply.1 all host)

pub reply_frames : (header : Header) (by : Device) (events past : List Event) → EachOf (IsReply by) events → FramesSuffice header past
    → MomentsIn (FramesSuffice header) events past
reply_frames header by [] past reply all = tt
reply_frames header by (e ∷ events) past reply all = (reply_last header by (e ∷ events) past reply all, reply_frames header by events past reply.1 all)

pub reply_spares : (by who : Device) (events past : List Event) → is_device who by ≡ false → EachOf (IsReply by) events
    → devices who (events ++ past) ≡ devices who past
reply_spares by who [] past other reply = refl
reply_spares by who (e ∷ events) past other reply = spares_one by who e (events ++ past) other reply.0 ∙ reply_spares by who events past other reply.1

-- an answer tells of at most one fault
pub record Faults (who : Device) (tells : Type 0) (events past : List Event) : Type 0 where
  pub few : devices who (events ++ past) ≤ devices who past + 1
  pub cause : ((devices who (events ++ past) ≡ devices who past) × (tells → ⊥)) ⊎ ((devices who (events ++ past) ≡ devices who past + 1) × tells)

pub no_fault : (who : Device) (tells : Type 0) (events past : List Event) → devices who (events ++ past) ≡ devices who past → (tells → ⊥)
    → Faults who tells events past
no_fault who tells events past none silent = record { few = omega (arith, none); cause = inl (none, silent) }

pub one_fault : (who : Device) (tells : Type 0) (events past : List Event) → devices who (events ++ past) ≡ devices who past + 1 → tells
    → Faults who tells events past
one_fault who tells events past one told = record { few = omega (arith, one); cause = inr (one, told) }

-- the default pager's
abbrev PagingFaults : List Event → List Event → Type 0
PagingFaults events past = Faults Paging (TellsFault events) events past

faults_at : (events is past : List Event) → events ≡ is → PagingFaults is past → PagingFaults events past
faults_at events is past same faults = subst (λ (z : List Event). PagingFaults z past) (sym same) faults

silent_at : (events is past : List Event) → events ≡ is → devices Paging (is ++ past) ≡ devices Paging past → (TellsFault is → ⊥) → PagingFaults events past
silent_at events is past same none silent = faults_at events is past same (no_fault Paging (TellsFault is) is past none silent)

request_faults : (size host : ℕ) (object : ObjectId) (control : ℕ) (page : PageNo) (has : Option Held) (events past : List Event)
    → RequestAnswer size host object control page has events → PagingFaults events past
request_faults size host object control page None events past is = silent_at events _ past is refl (λ t. t)
request_faults size host object control page (Some held.Lost) events past is = silent_at events _ past is refl (λ t. t)
request_faults size host object control page (Some (held.Torn s)) events past is = silent_at events _ past is refl (λ t. t)
request_faults size host object control page (Some (held.Kept s)) events past (inl is) = silent_at events _ past is.2 refl (λ t. t)
request_faults size host object control page (Some (held.Kept s)) events past (inr is) =
    let told : List Event = sent_to host object control (error page) ∷ device_failed Read object page ∷ [] in
    faults_at events told past is (one_fault Paging (TellsFault told) told past refl tt)

told_faults : (p : Put) (object : ObjectId) (page : PageNo) (past : List Event) → PagingFaults (told_of p object page) past
told_faults put.Kept object page past = no_fault Paging ⊥ [] past refl (λ t. t)
told_faults put.NoSlot object page past = no_fault Paging ⊥ (told_of put.NoSlot object page) past refl (λ t. t)
told_faults put.Failed object page past = one_fault Paging (Unit {0}) (told_of put.Failed object page) past refl tt

pub faults : (m : Message) (object : ObjectId) (old new : SlotTable) (events past : List Event) → PagerAnswer m object old new events
    → Faults Paging (TellsFault events) events past
faults (message.Init control size) object old new events past a = silent_at events _ past a.1 refl (λ t. t)
faults (message.Create control size) object old new events past a = silent_at events _ past a.1 refl (λ t. t)
faults (message.Request control page access) object old new events past a =
    request_faults old.size old.host object control page (held_at old object.0 page.0) events past a.1
faults (message.Return control page dirty keep bytes) object old new events past a =
    faults_at events (told_of (became events) object page) past a.told (told_faults (became events) object page past)
faults (message.Terminate control) object old new events past a = silent_at events [] past a.1 refl (λ t. t)
faults (message.Unlock control page access) object old new events past a = silent_at events [] past a.1 refl (λ t. t)
faults (message.Completed control page count) object old new events past a = silent_at events [] past a.1 refl (λ t. t)
faults (message.Changed control cache strategy) object old new events past a = silent_at events [] past a.1 refl (λ t. t)
faults other object old new events past a = absurd a

-- the area of a pager's host stays told

pub some_of : {A : Type 0} → (x : Option A) → IsSome x → (a : A) × (x ≡ Some a)
some_of None is = absurd (let bad : false ≡ true = is in cc)
some_of (Some a) is = (a, refl)

some_is : {A : Type 0} → (x : Option A) (a : A) → x ≡ Some a → IsSome x
some_is x a is = ap is_some is

same_told : (before after : List ℕ → Told) (old new : SlotTable) → new.host ≡ old.host → SameAreas before after → IsAreaTold before old → IsAreaTold after new
same_told before after old new host same is =
    let was = some_of (before (area_name old.host)) is in
    some_is (after (area_name new.host)) was.0 (ap (λ (z : ℕ). after (area_name z)) host ∙ same (area_name old.host) was.0 was.1)

pub own_place : (o p : ℕ) → (o == o && p == p) ≡ true
own_place o p = grind (arith, nat_tests)

put_told : (p : Put) (object page : ℕ) (bytes : List ℕ) (before after : List ℕ → Told) (old new : SlotTable) → new.host ≡ old.host
    → PutEffects p object page old new → PutTold (Ok p) before after new (slot_in_table new object page) bytes
    → IsAreaTold before old → IsAreaTold after new
put_told put.Kept object page bytes before after old new host leaves put is =
    let was = some_of (before (area_name old.host)) is in
    let at : slot_in_table new object page ≡ Some leaves.0 = ap held_slot (leaves.2.at object page
    ∙ ap (λ (z : Bool). if z then Some (held.Kept leaves.0) else held_at old object page) (own_place object page)) in
    let wrote = put leaves.0 at in
    some_is (after (area_name new.host)) _ (wrote.written was.0 (ap (λ (z : ℕ). before (area_name z)) host ∙ was.1))
put_told put.Failed object page bytes before after old new host leaves put is =
    let was = some_of (before (area_name old.host)) is in
    let at : slot_in_table new object page ≡ Some leaves.0 = ap held_slot (leaves.2.at object page
    ∙ ap (λ (z : Bool). if z then Some (held.Torn leaves.0) else held_at old object page) (own_place object page)) in
    let wrote = put leaves.0 at in
    let now = wrote.failed was.0 (ap (λ (z : ℕ). before (area_name z)) host ∙ was.1) refl in
    some_is (after (area_name new.host)) now.0 now.1
put_told put.NoSlot object page bytes before after old new host leaves put is = same_told before after old new host put is

pub told_after : (m : Message) (object : ObjectId) (before after : List ℕ → Told) (old new : SlotTable) (events : Listed Event) → KeepsShape old new
    → PagerAnswer m object old new events.items → LeavesAreas m object new before after (Ok events)
    → IsAreaTold before old → IsAreaTold after new
told_after (message.Return control page dirty keep bytes) object before after old new events shape a leaves is =
    put_told (became events.items) object.0 page.0 bytes before after old new shape.host a.held leaves is
told_after other object before after old new events shape a leaves is = same_told before after old new shape.host leaves is
