-- What the pager of a copy of a file gives, or can't give, was copied up into it.
use Rattle.std.proofs.Common.{◌≡◌, ℕ, ◌<◌, ◌≤◌, ◌==◌, ◌&&◌, Bool, true, false, List, [], ◌∷◌, Some, None, refl, subst, sym, ◌∙◌, arith}
use Rattle.std.proofs.lemmas.Bool.Decides.{nat_tests}
use Rattle.std.specs.Prelude.{if◌then◌else◌}
use Rattle.vm_base.specs.declared.ids.HostId.{HostId}
use Rattle.vm_base.specs.declared.ids.ObjectId.{ObjectId}
use Rattle.vm_base.specs.declared.ids.ObjectKind.{ObjectKind}
use Rattle.vm_model.specs.declared.event.Event.{Event}
use Rattle.vm_model.specs.declared.event.Event.TheVariants as event
use Rattle.vm_model.specs.declared.message.Channel.{Channel}
use Rattle.vm_model.specs.declared.message.Channel.TheVariants.{Down, Up}
use Rattle.vm_model.specs.declared.message.Message.{Message}
use Rattle.vm_model.specs.declared.message.Message.TheVariants as message
use Rattle.vm_model.specs.declared.script.Header.{Header}
use Rattle.vm_model.specs.Channels.{queue}
use Rattle.vm_model.specs.Controls.{last_control}
use Rattle.vm_model.specs.Moments.{EachEvent}
use Rattle.vm_model.specs.Named.{named}
use Rattle.vm_model.specs.Regions.{is_copy}
use Rattle.vm_model.specs.Server.{first}
use Rattle.vm_legal.proofs.Files.{not_file}
use Rattle.vm_legal.proofs.Homes.{same_some}
use Rattle.vm_legal.specs.Licences.{HasCause, IsFault, OwesAnswer, PagerSends, up}
use Rattle.vm_legal.specs.Outside.{Outside}
use Rattle.vm_legal.specs.Pushes.{is_pushed}
use Rattle.vm_legal.specs.Steps.{Letter, taken_letter}
use Rattle.vm_returned.specs.Pushed.{OfPushed, TakesPushed}
use Rattle.vm_returned.proofs.Copies.{HasPushed, has_later, pages_of, pushed_own}
use Rattle.vm_returned.proofs.Failing.{ReturnedSomewhere, fault_was, same_letter}
use Rattle.vm_returned.proofs.Housed.{IsOwn, copy_high, housed_of, own_later}
use Rattle.vm_returned.proofs.Queued.{first_is, queue_caused}
use Rattle.vm_returned.proofs.Returned.{last_was, live_last, temporary}

-- ---- a copy of a file has controls on the host where it is at home

has_own : (header : Header) (outside : Outside) (h o p : ℕ) (past : List Event) → EachEvent (HasCause header outside) past → HasPushed header h o p past
    → IsOwn header h o past
has_own header outside h o p past causes has =
    record { made = has.made; home = λ copy. (pushed_own header outside h o p past causes (has.pushed copy)).home copy }

same_object : (P : ℕ → ℕ → Type 0) (h o : ℕ) (host : HostId) (object : ObjectId) → (host.0 == h && object.0 == o) ≡ true
    → P host.0 object.0 → P h o
same_object P h o host object test is =
    let host_is : host.0 ≡ h = grind (arith, nat_tests, test) in
    let object_is : object.0 ≡ o = grind (arith, nat_tests, test) in
    subst (λ (z : ℕ). P h z) object_is (subst (λ (z : ℕ). P z object.0) host_is is)

-- its first control is made where a page of it is
control_own : (header : Header) (outside : Outside) (h o : ℕ) (past : List Event) → EachEvent (HasCause header outside) past → named header ≤ o
    → 0 < last_control h o past → IsOwn header h o past
control_own header outside h o [] causes high some = absurd (omega (arith, some))
control_own header outside h o (event.Sent (Up host object) (message.Create control size) ∷ past) causes high some =
    own_later header outside h o (event.Sent (Up host object) (message.Create control size)) past causes.0
    (by (host.0 == h && object.0 == o) refl (control_own header outside h o past causes.1 high) some)
  where
    by : (b : Bool) → (host.0 == h && object.0 == o) ≡ b → (0 < last_control h o past → IsOwn header h o past)
        → 0 < (if b then control else last_control h o past) → IsOwn header h o past
    by true test before some =
        let c = causes.0.1 in
        same_object (λ g k. IsOwn header g k past) h o host object test (has_own header outside host.0 object.0 c.page past causes.1
        ((pages_of header outside host.0 object.0 c.page past causes.1).here c.here))
    by false test before some = before some
control_own header outside h o (event.Sent (Up host object) (message.Init control size) ∷ past) causes high some =
    own_later header outside h o (event.Sent (Up host object) (message.Init control size)) past causes.0
    (by (host.0 == h && object.0 == o) refl (control_own header outside h o past causes.1 high) some)
  where
    by : (b : Bool) → (host.0 == h && object.0 == o) ≡ b → (0 < last_control h o past → IsOwn header h o past)
        → 0 < (if b then control else last_control h o past) → IsOwn header h o past
    by true test before some =
        let object_is : object.0 ≡ o = grind (arith, nat_tests, test) in
        absurd (let declared = causes.0.1.declared in omega (arith, declared, object_is, high))
    by false test before some = before some
control_own header outside h o (e ∷ past) causes high some =
    own_later header outside h o e past causes.0 (control_own header outside h o past causes.1 high some)

-- so its pages are asked by that host
abbrev IsAsked : Header → Channel → List Event → Message → Type 0
IsAsked header (Up host object) past (message.Request control page access) = named header ≤ object.0 → IsOwn header host.0 object.0 past
IsAsked header channel past m = Unit {0}

asked_later : (header : Header) (outside : Outside) (c : Channel) (e : Event) (past : List Event) (m : Message) → HasCause header outside e past
    → IsAsked header c past m → IsAsked header c (e ∷ past) m
asked_later header outside (Up host object) e past (message.Request control page access) cause is =
    λ high. own_later header outside host.0 object.0 e past cause (is high)
asked_later header outside c e past m cause is = tt

asked_sent : (header : Header) (outside : Outside) (c : Channel) (m : Message) (past : List Event) → EachEvent (HasCause header outside) past
    → HasCause header outside (event.Sent c m) past → IsAsked header c (event.Sent c m ∷ past) m
asked_sent header outside (Up host object) (message.Request control page access) past causes cause =
    λ high. own_later header outside host.0 object.0 (event.Sent (Up host object) (message.Request control page access)) past cause
    (control_own header outside host.0 object.0 past causes high (live_last header outside host.0 object.0 past control causes cause.1.live))
asked_sent header outside c m past causes cause = tt

-- the request that the step took
letter_own : (header : Header) (outside : Outside) (h o control page access : ℕ) (past : List Event) → EachEvent (HasCause header outside) past
    → taken_letter past ≡ Some (record { channel = up h o; message = message.Request control (record { 0 = page }) access }) → named header ≤ o
    → IsOwn header h o past
letter_own header outside h o control page access [] causes is high = absurd (let bad : None ≡ Some _ = is in cc)
letter_own header outside h o control page access (event.Line line ∷ past) causes is high = absurd (let bad : None ≡ Some _ = is in cc)
letter_own header outside h o control page access (event.Taken channel m ∷ past) causes is high =
    own_later header outside h o (event.Taken channel m) past causes.0 (subst (λ (l : Letter). IsAsked header l.channel past l.message)
    (same_letter (record { channel = channel; message = m }) (record { channel = up h o; message = message.Request control (record { 0 = page }) access }) is)
    asked high)
  where
    asked : IsAsked header channel past m
    asked =
        first_is _ (queue channel past) m (queue_caused header outside channel (IsAsked header channel) (asked_later header outside channel)
        (asked_sent header outside channel) past causes.1) causes.0.1.0
letter_own header outside h o control page access (e ∷ past) causes is high =
    own_later header outside h o e past causes.0 (letter_own header outside h o control page access past causes.1 is high)

-- ---- what its pager sends

-- a page that it can't give was copied up: some host has returned it, and that is the host that asks for it
failed_has : (header : Header) (outside : Outside) (h o control page : ℕ) (past : List Event) → EachEvent (HasCause header outside) past → named header ≤ o
    → OwesAnswer h o control page past → IsFault o page past → HasPushed header h o page past
failed_has header outside h o control page past causes high owes fault =
    record { made = own.made; pushed = λ copy. subst (λ (g : ℕ). is_pushed g o page past ≡ true) (same copy) (has.pushed copy) }
  where
    own : IsOwn header h o past
    own = letter_own header outside h o control page owes.access past causes owes.taken high

    returned : ReturnedSomewhere o page past
    returned = fault_was header outside o page past causes high fault

    has : HasPushed header returned.0 o page past
    has = (pages_of header outside returned.0 o page past causes).returned returned.1

    same : is_copy o past ≡ true → returned.0 ≡ h
    same copy =
        same_some returned.0 h (sym ((pushed_own header outside returned.0 o page past causes (has.pushed copy)).home copy) ∙ own.home copy)

abbrev IsGiven : Header → Channel → List Event → Message → Type 0
IsGiven header (Down host object control) past (message.Supply page lock precious bytes) =
    named header ≤ object.0 → HasPushed header host.0 object.0 page.0 past
IsGiven header (Down host object control) past (message.Error page reason) = named header ≤ object.0 → HasPushed header host.0 object.0 page.0 past
IsGiven header channel past m = Unit {0}

given_later : (header : Header) (outside : Outside) (c : Channel) (e : Event) (past : List Event) (m : Message) → HasCause header outside e past
    → IsGiven header c past m → IsGiven header c (e ∷ past) m
given_later header outside (Down host object control) e past (message.Supply page lock precious bytes) cause is =
    λ high. has_later header outside host.0 object.0 page.0 e past cause (is high)
given_later header outside (Down host object control) e past (message.Error page reason) cause is =
    λ high. has_later header outside host.0 object.0 page.0 e past cause (is high)
given_later header outside c e past m cause is = tt

given_sent : (header : Header) (outside : Outside) (c : Channel) (m : Message) (past : List Event) → EachEvent (HasCause header outside) past
    → HasCause header outside (event.Sent c m) past → IsGiven header c (event.Sent c m ∷ past) m
given_sent header outside (Down host object control) (message.Supply page lock precious bytes) past causes cause = λ high.
    let sends = subst (λ (z : ObjectKind). PagerSends z header outside cause.0 host.0 object.0 control (message.Supply page lock precious bytes) past)
    (temporary header object.0 high) cause.1 in
    let was = sends.4 (not_file header object.0 high) in
    has_later header outside host.0 object.0 page.0 (event.Sent (Down host object control) (message.Supply page lock precious bytes)) past cause
    ((pages_of header outside host.0 object.0 page.0 past causes).returned
    (last_was header outside host.0 object.0 page.0 past was.0 causes was.1))
given_sent header outside (Down host object control) (message.Error page reason) past causes cause = λ high.
    let sends = subst (λ (z : ObjectKind). PagerSends z header outside cause.0 host.0 object.0 control (message.Error page reason) past)
    (temporary header object.0 high) cause.1 in
    has_later header outside host.0 object.0 page.0 (event.Sent (Down host object control) (message.Error page reason)) past cause
    (failed_has header outside host.0 object.0 control page.0 past causes high sends.0 sends.2)
given_sent header outside c m past causes cause = tt

-- what is the oldest on its way to a host
pub of_pushed : (header : Header) (outside : Outside) (host : HostId) (object : ObjectId) (control : ℕ) (m : Message) (past : List Event)
    → EachEvent (HasCause header outside) past → first (queue (Down host object control) past) ≡ Some m → OfPushed host.0 object.0 m past
of_pushed header outside host object control m past causes head = by m (first_is _ (queue (Down host object control) past) m
    (queue_caused header outside (Down host object control) (IsGiven header (Down host object control)) (given_later header outside (Down host object control))
    (given_sent header outside (Down host object control)) past causes) head)
  where
    of_copy : (p : ℕ) → (named header ≤ object.0 → HasPushed header host.0 object.0 p past) → is_copy object.0 past ≡ true
        → is_pushed host.0 object.0 p past ≡ true
    of_copy p has copy = (has (copy_high header object.0 past (housed_of header outside past causes).homes copy)).pushed copy

    by : (n : Message) → IsGiven header (Down host object control) past n → OfPushed host.0 object.0 n past
    by (message.Supply page lock precious bytes) has = of_copy page.0 has
    by (message.Error page reason) has = of_copy page.0 has
    by n has = tt

takes : (header : Header) (outside : Outside) (e : Event) (past : List Event) → EachEvent (HasCause header outside) past → HasCause header outside e past
    → TakesPushed e past
takes header outside (event.Taken (Down host object control) m) past causes cause =
    of_pushed header outside host object control m past causes cause.1.0
takes header outside e past causes cause = tt

pub takes_pushed : (header : Header) (outside : Outside) (history : List Event) → EachEvent (HasCause header outside) history → EachEvent TakesPushed history
takes_pushed header outside [] causes = tt
takes_pushed header outside (e ∷ past) causes = (takes header outside e past causes.1 causes.0, takes_pushed header outside past causes.1)
