-- An error is sent for a page that was lost, and it is lost for want of a slot.
use Rattle.std.proofs.Common.{ℕ, ◌≡◌, ◌≤◌, List, [], ◌∷◌, ◌++◌, Bool, true, false, refl, sym, subst, ◌∙◌, arith, Some, None, if◌then◌else◌, inl, inr}
use Rattle.std.proofs.lemmas.Bool.Decides.{nat_tests}
use Rattle.std.specs.Prelude.{◌==◌, ◌&&◌, ◌||◌}
use Rattle.vm_base.specs.declared.ids.ObjectKind.{ObjectKind}
use Rattle.vm_base.specs.declared.ids.ObjectKind.TheVariants as kinds
use Rattle.vm_base.specs.declared.ids.PageNo.{PageNo}
use Rattle.vm_model.specs.declared.command.Command.{Command}
use Rattle.vm_model.specs.declared.event.Event.{Event}
use Rattle.vm_model.specs.declared.event.Event.TheVariants as event
use Rattle.vm_model.specs.declared.message.Channel.{Channel}
use Rattle.vm_model.specs.declared.message.Channel.TheVariants.{Up, Down}
use Rattle.vm_model.specs.declared.message.Message.{Message}
use Rattle.vm_model.specs.declared.message.Message.TheVariants as message
use Rattle.vm_model.specs.declared.script.Header.{Header}
use Rattle.vm_model.specs.Channels.{is_channel, queue}
use Rattle.vm_model.specs.Moments.{EachEvent}
use Rattle.vm_model.specs.Named.{named}
use Rattle.vm_model.specs.Server.{first}
use Rattle.vm_model.specs.Side.{rest}
use Rattle.vm_legal.specs.Licences.{ByError, Fails, FailsByError, HasCause, IsFault, PagerSends, Unserved}
use Rattle.vm_legal.specs.Outside.{Outside, is_wild, is_wild_kind, kind_of}
use Rattle.vm_legal.specs.Pagers.{is_lost}
use Rattle.vm_legal.specs.Steps.{Asked, error_of, error_taken, fails_reading, lacks_slot, since}
use Rattle.vm_losses.specs.Losses.{FailsUnslotted, ever, is_device_event}
use Rattle.vm_quiet.proofs.Letters.{same_channel}

never : {A : Type 0} → false ≡ true → A
never e = absurd (let bad : false ≡ true = e in cc)

or_right : (a b : Bool) → b ≡ true → a || b ≡ true
or_right true b is = refl
or_right false b is = is

either : (a b c : Bool) → a || b ≡ true → (b ≡ true → c ≡ true) → a || c ≡ true
either true b c is more = refl
either false b c is more = more is

unless : (a b : Bool) → (if a then false else b) ≡ true → b ≡ true
unless true b is = never is
unless false b is = is

none_before : (a b : Bool) → a || b ≡ false → b ≡ false
none_before true b none = never (sym none)
none_before false b none = none

-- ---- what a loss is without device failures

lost_unslotted : (o p : ℕ) (past : List Event) → ever is_device_event past ≡ false → is_lost o p past ≡ true → ever (lacks_slot o p) past ≡ true
lost_unslotted o p [] none lost = never lost
lost_unslotted o p (event.DeviceFailed who way object page ∷ past) none lost = never (sym none)
lost_unslotted o p (event.NoSlot object page ∷ past) none lost =
    either (lacks_slot o p (event.NoSlot object page)) (is_lost o p past) (ever (lacks_slot o p) past) lost (lost_unslotted o p past none)
lost_unslotted o p (event.Taken (Up at object) (message.Return control page dirty keep bytes) ∷ past) none lost =
    lost_unslotted o p past none (unless (object.0 == o && page.0 == p) (is_lost o p past) lost)
lost_unslotted o p (e ∷ past) none lost = lost_unslotted o p past none lost

reading_failed : (o p : ℕ) (past : List Event) → since (fails_reading o p) past ≡ true → ever is_device_event past ≡ true
reading_failed o p [] is = never is
reading_failed o p (event.Line line ∷ past) is = never is
reading_failed o p (event.Taken channel m ∷ past) is = never is
reading_failed o p (event.DeviceFailed who way object page ∷ past) is = refl
reading_failed o p (e ∷ past) is = reading_failed o p past is

fault_unslotted : (o p : ℕ) (past : List Event) → ever is_device_event past ≡ false → IsFault o p past → ever (lacks_slot o p) past ≡ true
fault_unslotted o p past none (inl lost) = lost_unslotted o p past none lost
fault_unslotted o p past none (inr reading) = never (sym none ∙ reading_failed o p past reading)

-- a page without a slot is of temporary memory
slotless_temporary : (header : Header) (outside : Outside) (o p : ℕ) (past : List Event) → EachEvent (HasCause header outside) past
    → ever (lacks_slot o p) past ≡ true → named header ≤ o
slotless_temporary header outside o p [] causes is = never is
slotless_temporary header outside o p (event.NoSlot object page ∷ past) causes is =
    one (object.0 == o && page.0 == p) refl is (slotless_temporary header outside o p past causes.1)
  where
    one : (b : Bool) → (object.0 == o && page.0 == p) ≡ b → b || ever (lacks_slot o p) past ≡ true → (ever (lacks_slot o p) past ≡ true → named header ≤ o)
        → named header ≤ o
    one true same is more = let here : named header ≤ object.0 = causes.0.1.temporary in grind (arith, nat_tests, here, same)
    one false same is more = more is
slotless_temporary header outside o p (e ∷ past) causes is = slotless_temporary header outside o p past causes.1 is

-- ---- errors on their way

abbrev FitsError : Header → ℕ → List Event → Message → Type 0
FitsError header object past (message.Error page reason) = is_wild header object ≡ false → ever (lacks_slot object page.0) past ≡ true
FitsError header object past other = Unit {0}

-- what is on its way in the channel: each error tells of a page that had no slot
abbrev FitsOn : Header → Channel → List Event → Message → Type 0
FitsOn header (Up host object) past m = Unit {0}
FitsOn header (Down host object control) past m = FitsError header object.0 past m

abbrev AllFit : Header → Channel → List Event → List Message → Type 0
AllFit header c past [] = Unit {0}
AllFit header c past (m ∷ q) = FitsOn header c past m × AllFit header c past q

error_later : (header : Header) (object : ℕ) (e : Event) (past : List Event) (m : Message) → FitsError header object past m
    → FitsError header object (e ∷ past) m
error_later header object e past (message.Error page reason) fits =
    λ tame. or_right (lacks_slot object page.0 e) (ever (lacks_slot object page.0) past) (fits tame)
error_later header object e past m fits = tt

fits_later : (header : Header) (c : Channel) (e : Event) (past : List Event) (m : Message) → FitsOn header c past m → FitsOn header c (e ∷ past) m
fits_later header (Up host object) e past m fits = tt
fits_later header (Down host object control) e past m fits = error_later header object.0 e past m fits

all_later : (header : Header) (c : Channel) (e : Event) (past : List Event) (q : List Message) → AllFit header c past q → AllFit header c (e ∷ past) q
all_later header c e past [] all = tt
all_later header c e past (m ∷ q) all = (fits_later header c e past m all.0, all_later header c e past q all.1)

all_behind : (header : Header) (c : Channel) (past : List Event) (m : Message) (q : List Message) → AllFit header c past q → FitsOn header c past m
    → AllFit header c past (q ++ m ∷ [])
all_behind header c past m [] all fits = (fits, tt)
all_behind header c past m (x ∷ q) all fits = (all.0, all_behind header c past m q all.1 fits)

all_rest : (header : Header) (c : Channel) (past : List Event) (q : List Message) → AllFit header c past q → AllFit header c past (rest q)
all_rest header c past [] all = tt
all_rest header c past (m ∷ q) all = all.1

first_fits : (header : Header) (c : Channel) (past : List Event) (q : List Message) (m : Message) → AllFit header c past q → first q ≡ Some m
    → FitsOn header c past m
first_fits header c past [] m all is = absurd (let bad : None ≡ Some m = is in cc)
first_fits header c past (x ∷ q) m all is = let same : x ≡ m = cc in subst (λ (y : Message). FitsOn header c past y) same all.0

-- an error has its cause in the kind of its object
kind_fits : (kind : ObjectKind) (header : Header) (outside : Outside) (why : Command) (host object control : ℕ) (page : PageNo) (reason : ℕ) (past : List Event)
    → is_wild_kind kind ≡ false → PagerSends kind header outside why host object control (message.Error page reason) past → IsFault object page.0 past
kind_fits kinds.Temp header outside why host object control page reason past tame sends = sends.2
kind_fits kinds.File header outside why host object control page reason past tame sends = sends.2
kind_fits kinds.Shared header outside why host object control page reason past tame sends = absurd sends
kind_fits kinds.Wild header outside why host object control page reason past tame sends = never (sym tame)

sent_fits : (header : Header) (outside : Outside) (c : Channel) (m : Message) (past : List Event) → ever is_device_event past ≡ false
    → HasCause header outside (event.Sent c m) past → FitsOn header c past m
sent_fits header outside (Up host object) m past none cause = tt
sent_fits header outside (Down host object control) (message.Error page reason) past none cause =
    λ tame. fault_unslotted object.0 page.0 past none (kind_fits (kind_of header object.0) header outside cause.0 host.0 object.0 control page reason past tame
    cause.1)
sent_fits header outside (Down host object control) m past none cause = tt

queue_fits : (header : Header) (outside : Outside) (c : Channel) (past : List Event) → EachEvent (HasCause header outside) past
    → ever is_device_event past ≡ false → AllFit header c past (queue c past)
queue_fits header outside c [] causes none = tt
queue_fits header outside c (event.Sent d m ∷ past) causes none =
    by (is_channel c d) refl (all_later header c (event.Sent d m) past (queue c past) (queue_fits header outside c past causes.1 none))
  where
    by : (b : Bool) → is_channel c d ≡ b → AllFit header c (event.Sent d m ∷ past) (queue c past)
        → AllFit header c (event.Sent d m ∷ past) (if b then queue c past ++ m ∷ [] else queue c past)
    by false other before = before
    by true same before =
        let fits : FitsOn header c past m = subst (λ (k : Channel). FitsOn header k past m) (same_channel c d same)
        (sent_fits header outside d m past none causes.0) in
        all_behind header c (event.Sent d m ∷ past) m (queue c past) before (fits_later header c (event.Sent d m) past m fits)
queue_fits header outside c (event.Taken d m ∷ past) causes none =
    by (is_channel c d) (all_later header c (event.Taken d m) past (queue c past) (queue_fits header outside c past causes.1 none))
  where
    by : (b : Bool) → AllFit header c (event.Taken d m ∷ past) (queue c past)
        → AllFit header c (event.Taken d m ∷ past) (if b then rest (queue c past) else queue c past)
    by false before = before
    by true before = all_rest header c (event.Taken d m ∷ past) (queue c past) before
queue_fits header outside c (event.DeviceFailed who way object page ∷ past) causes none = never (sym none)
queue_fits header outside c (e ∷ past) causes none = all_later header c e past (queue c past) (queue_fits header outside c past causes.1 none)

-- ---- errors that are taken

-- the page of the error that the step took
taken_place : (header : Header) (h o : ℕ) (asked : ℕ → Bool) (m : Message) (past : List Event) (place : Asked)
    → FitsError header o past m → error_of h o asked m ≡ Some place → is_wild header place.object ≡ false
    → ever (lacks_slot place.object place.page) past ≡ true
taken_place header h o asked (message.Error page reason) past place fits is tame = by (asked page.0) is
  where
    by : (b : Bool) → (if b then Some (record { host = h; object = o; page = page.0 }) else None) ≡ Some place
        → ever (lacks_slot place.object place.page) past ≡ true
    by true found =
        let same : record { host = h; object = o; page = page.0 } ≡ place = cc in
        subst (λ (z : Asked). is_wild header z.object ≡ false → ever (lacks_slot z.object z.page) past ≡ true) same fits tame
    by false found = absurd (let bad : None ≡ Some place = found in cc)
taken_place header h o asked m past place fits is tame = absurd (let bad : None ≡ Some place = is in cc)

error_fits : (header : Header) (outside : Outside) (past : List Event) (place : Asked) → EachEvent (HasCause header outside) past
    → ever is_device_event past ≡ false
    → error_taken header past ≡ Some place → is_wild header place.object ≡ false → ever (lacks_slot place.object place.page) past ≡ true
error_fits header outside [] place causes none is tame = absurd (let bad : None ≡ Some place = is in cc)
error_fits header outside (event.Line line ∷ past) place causes none is tame = absurd (let bad : None ≡ Some place = is in cc)
error_fits header outside (event.Taken (Up host object) m ∷ past) place causes none is tame = absurd (let bad : None ≡ Some place = is in cc)
error_fits header outside (event.Taken (Down host object control) m ∷ past) place causes none is tame =
    let fits : FitsError header object.0 past m = first_fits header (Down host object control) past (queue (Down host object control) past) m
    (queue_fits header outside (Down host object control) past causes.1 none) causes.0.1.0 in
    taken_place header host.0 object.0 _ m past place fits is tame
error_fits header outside (event.DeviceFailed who way object page ∷ past) place causes none is tame = never (sym none)
error_fits header outside (e ∷ past) place causes none is tame =
    or_right (lacks_slot place.object place.page e) (ever (lacks_slot place.object place.page) past)
    (error_fits header outside past place causes.1 none is tame)

-- what isn't wild fails by an error alone
failed_by : (header : Header) (task object page : ℕ) (past : List Event) → Fails header task object page past → is_wild header object ≡ false
    → FailsByError header task object page past
failed_by header task object page past (ByError fails) tame = fails
failed_by header task object page past (Unserved fails) tame = never (sym tame ∙ fails.wild)

pub fails_unslotted : (header : Header) (outside : Outside) (history : List Event) → EachEvent (HasCause header outside) history
    → ever is_device_event history ≡ false → EachEvent (FailsUnslotted header) history
fails_unslotted header outside [] causes none = tt
fails_unslotted header outside (event.Failed task object page ∷ past) causes none = (now, fails_unslotted header outside past causes.1 none)
  where
    now : is_wild header object.0 ≡ false → (named header ≤ object.0) × (ever (lacks_slot object.0 page.0) past ≡ true)
    now tame =
        let lost : ever (lacks_slot object.0 page.0) past ≡ true = error_fits header outside past _ causes.1 none (failed_by header task.0 object.0 page.0 past
        causes.0.1 tame).error tame in
        (slotless_temporary header outside object.0 page.0 past causes.1 lost, lost)
fails_unslotted header outside (event.DeviceFailed who way object page ∷ past) causes none = never (sym none)
fails_unslotted header outside (e ∷ past) causes none = (tt, fails_unslotted header outside past causes.1 none)
