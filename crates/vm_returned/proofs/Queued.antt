-- What is on its way in a channel was sent there, and what holds of it then holds while it is on its way.
use Rattle.std.proofs.Common.{Bool, List, None, Some, [], refl, subst, sym, true, false, ◌++◌, ◌∷◌, ◌≡◌, if◌then◌else◌}
use Rattle.vm_model.specs.Channels.{is_channel, queue}
use Rattle.vm_model.specs.Moments.{EachEvent}
use Rattle.vm_model.specs.Server.{first}
use Rattle.vm_model.specs.Side.{rest}
use Rattle.vm_model.specs.declared.event.Event.{Event}
use Rattle.vm_model.specs.declared.event.Event.TheVariants as event
use Rattle.vm_model.specs.declared.message.Channel.{Channel}
use Rattle.vm_model.specs.declared.message.Message.{Message}
use Rattle.vm_model.specs.declared.script.Header.{Header}
use Rattle.vm_legal.specs.Licences.{HasCause}
use Rattle.vm_legal.specs.Outside.{Outside}
use Rattle.vm_quiet.proofs.Letters.{same_channel}

-- each of these messages has it
abbrev pub AllAre : (Message → Type 0) → List Message → Type 0
AllAre P [] = Unit {0}
AllAre P (m ∷ q) = P m × AllAre P q

all_map : {P Q : Message → Type 0} → ((m : Message) → P m → Q m) → (q : List Message) → AllAre P q → AllAre Q q
all_map more [] all = tt
all_map more (m ∷ q) all = (more m all.0, all_map more q all.1)

all_behind : (P : Message → Type 0) (m : Message) (q : List Message) → AllAre P q → P m → AllAre P (q ++ m ∷ [])
all_behind P m [] all is = (is, tt)
all_behind P m (x ∷ q) all is = (all.0, all_behind P m q all.1 is)

all_rest : (P : Message → Type 0) (q : List Message) → AllAre P q → AllAre P (rest q)
all_rest P [] all = tt
all_rest P (m ∷ q) all = all.1

pub first_is : (P : Message → Type 0) (q : List Message) (m : Message) → AllAre P q → first q ≡ Some m → P m
first_is P [] m all is = absurd (let bad : None ≡ Some m = is in cc)
first_is P (x ∷ q) m all is = let same : x ≡ m = cc in subst P same all.0

-- what each message has when it is sent, and keeps behind each event that has its cause
pub queue_caused : (header : Header) (outside : Outside) (c : Channel) (P : List Event → Message → Type 0)
    → ((e : Event) (past : List Event) (m : Message) → HasCause header outside e past → P past m → P (e ∷ past) m)
    → ((m : Message) (past : List Event) → EachEvent (HasCause header outside) past → HasCause header outside (event.Sent c m) past
    → P (event.Sent c m ∷ past) m)
    → (past : List Event) → EachEvent (HasCause header outside) past → AllAre (P past) (queue c past)
queue_caused header outside c P later sent [] causes = tt
queue_caused header outside c P later sent (event.Sent d m ∷ past) causes =
    by (is_channel c d) refl (all_map (λ n. later (event.Sent d m) past n causes.0) (queue c past) (queue_caused header outside c P later sent past causes.1))
  where
    by : (b : Bool) → is_channel c d ≡ b → AllAre (P (event.Sent d m ∷ past)) (queue c past)
        → AllAre (P (event.Sent d m ∷ past)) (if b then queue c past ++ m ∷ [] else queue c past)
    by false other before = before
    by true same before =
        let channel : d ≡ c = same_channel c d same in
        let here : P (event.Sent c m ∷ past) m = sent m past causes.1 (subst (λ (k : Channel). HasCause header outside (event.Sent k m) past) channel
        causes.0) in
        all_behind (P (event.Sent d m ∷ past)) m (queue c past) before (subst (λ (k : Channel). P (event.Sent k m ∷ past) m) (sym channel) here)
queue_caused header outside c P later sent (event.Taken d m ∷ past) causes =
    by (is_channel c d)
    (all_map (λ n. later (event.Taken d m) past n causes.0) (queue c past) (queue_caused header outside c P later sent past causes.1))
  where
    by : (b : Bool) → AllAre (P (event.Taken d m ∷ past)) (queue c past)
        → AllAre (P (event.Taken d m ∷ past)) (if b then rest (queue c past) else queue c past)
    by false before = before
    by true before = all_rest (P (event.Taken d m ∷ past)) (queue c past) before
queue_caused header outside c P later sent (e ∷ past) causes =
    all_map (λ n. later e past n causes.0) (queue c past) (queue_caused header outside c P later sent past causes.1)

pub queue_is : (header : Header) (outside : Outside) (c : Channel) (P : List Event → Message → Type 0)
    → ((e : Event) (past : List Event) (m : Message) → P past m → P (e ∷ past) m)
    → ((m : Message) (past : List Event) → EachEvent (HasCause header outside) past → HasCause header outside (event.Sent c m) past
    → P (event.Sent c m ∷ past) m)
    → (past : List Event) → EachEvent (HasCause header outside) past → AllAre (P past) (queue c past)
queue_is header outside c P later sent past causes = queue_caused header outside c P (λ e before m cause is. later e before m is) sent past causes
