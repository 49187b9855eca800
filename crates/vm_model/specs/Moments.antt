-- Lists of events have the newest first: each event has its past behind it. What holds of each event, and at each
-- moment.
use Rattle.std.specs.Prelude.{List, [], ◌∷◌}
use Rattle.vm_model.specs.declared.event.Event.{Event}
use Rattle.vm_model.specs.declared.event.Event.TheVariants.{Line, Taken}

-- each event has P of itself and of its past
abbrev pub EachEvent : (Event → List Event → Type 0) → List Event → Type 0
EachEvent P [] = Unit {0}
EachEvent P (e ∷ past) = P e past × EachEvent P past

-- each moment has P, also inside a step
abbrev pub EachMoment : (List Event → Type 0) → List Event → Type 0
EachMoment P [] = P []
EachMoment P (e ∷ past) = P (e ∷ past) × EachMoment P past

-- each moment at which a step begins has P; a step begins at each line and at each taken message
abbrev pub BeforeSteps : (List Event → Type 0) → List Event → Type 0
BeforeSteps P [] = Unit {0}
BeforeSteps P (Line line ∷ past) = P past × BeforeSteps P past
BeforeSteps P (Taken channel message ∷ past) = P past × BeforeSteps P past
BeforeSteps P (e ∷ past) = BeforeSteps P past

-- the history without its last command's events
abbrev pub before_last_line : List Event → List Event
before_last_line [] = []
before_last_line (Line line ∷ past) = past
before_last_line (e ∷ past) = before_last_line past
