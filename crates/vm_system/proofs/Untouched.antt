-- A backing is asked only where a pager of its own took a message.
use Rattle.vm_system.proofs.Common.{AllInner, Channel, Command, Device, Down, Event, Header, IsInner, List, MayTake, Message, Outside, Step, TakesStep, Up, []}
use Rattle.vm_system.proofs.Common.{ap, false, licensed_front, refl, same_Some, sym, takes_any, takes_up, took_up, true, ℕ, ◌++◌, ◌∙◌, ◌∷◌, ◌≡◌}
use Rattle.vm_model.specs.declared.command.Command.TheVariants as command
use Rattle.vm_model.specs.declared.event.Event.TheVariants as event
use Rattle.vm_system.proofs.TakenFrom.{taking_of}

-- events inside a step leave what it began with

took_one : (header : Header) (who : Device) (e : Event) (past : List Event) → IsInner e → took_up header who (e ∷ past) ≡ took_up header who past
took_one header who (event.Line line) past inner = absurd inner
took_one header who (event.Taken channel m) past inner = absurd inner
took_one header who other past inner = refl

took_all : (header : Header) (who : Device) (events past : List Event) → AllInner events → took_up header who (events ++ past) ≡ took_up header who past
took_all header who [] past inner = refl
took_all header who (e ∷ events) past inner = took_one header who e (events ++ past) inner.0 ∙ took_all header who events past inner.1

took_of : (header : Header) (who : Device) (channel : Channel) (m : Message) (past : List Event)
    → took_up header who (event.Taken channel m ∷ past) ≡ takes_up header who (command.Take channel)
took_of header who (Up host object) m past = refl
took_of header who (Down host object control) m past = refl

took_step : (given : Step) (who : Device) (new : List Event) → (step : TakesStep given new)
    → took_up given.header who new ≡ takes_up given.header who (command.Take step.channel)
took_step given who new step =
    ap (took_up given.header who) step.is ∙ (took_all given.header who step.more (event.Taken step.channel step.m ∷ given.past) step.inner
    ∙ took_of given.header who step.channel step.m given.past)

-- a command takes from one channel

one_channel : (doing : Command) (c d : Channel) (past : List Event) → MayTake doing c past → MayTake doing d past → c ≡ d
one_channel (command.Take of) c d past one two = one.0 ∙ sym two.0
one_channel (command.Settle count) c d past one two = same_Some c d (sym one.0 ∙ two.0)
one_channel other c d past one two = absurd one

taken_on : (given : Step) (channel : Channel) (new : List Event) → MayTake given.command channel given.past → (step : TakesStep given new)
    → step.channel ≡ channel
taken_on given channel new may step =
    one_channel given.command step.channel channel given.past (licensed_front given.header given.outside given.command step.more
    (event.Taken step.channel step.m) given.past step.licensed).0.1 may

-- so a step that began with no message to a pager of a backing took from no channel to one
pub not_up : (given : Step) (who : Device) (channel : Channel) (new : List Event) → MayTake given.command channel given.past → TakesStep given new
    → took_up given.header who new ≡ false
    → takes_up given.header who (command.Take channel) ≡ false
not_up given who channel new may step none =
    ap (λ (z : Channel). takes_up given.header who (command.Take z)) (sym (taken_on given channel new may step)) ∙ (sym (took_step given who new step) ∙ none)

pub not_up_from : (header : Header) (outside : Outside) (who : Device) (line : ℕ) (channel : Channel) (old new : List Event)
    → TakesStep (taking_of header outside line channel old) new → took_up header who new ≡ false
    → takes_up header who (command.Take channel) ≡ false
not_up_from header outside who line channel old new step none = not_up (taking_of header outside line channel old) who channel new (refl, refl) step none

-- what no pager takes is for none of a backing
pub apart_all : (header : Header) (who : Device) (channel : Channel) → takes_any (command.Take channel) ≡ false
    → takes_up header who (command.Take channel) ≡ false
apart_all header who (Up host object) none = absurd (let bad : true ≡ false = none in cc)
apart_all header who (Down host object control) none = refl
