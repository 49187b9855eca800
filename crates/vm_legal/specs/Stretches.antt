-- Stretches of a history: events, with the newest first, on top of a past.
use Rattle.std.specs.Prelude.{List, [], ◌∷◌, ◌++◌}
use Rattle.vm_model.specs.declared.event.Event.{Event}
use Rattle.vm_model.specs.declared.event.Event.TheVariants as event

-- each event of the stretch has P of itself and of what is in front of it
abbrev pub EachIn : (Event → List Event → Type 0) → List Event → List Event → Type 0
EachIn P [] past = Unit {0}
EachIn P (e ∷ events) past = P e (events ++ past) × EachIn P events past

-- each moment after one of its events has P
abbrev pub MomentsIn : (List Event → Type 0) → List Event → List Event → Type 0
MomentsIn P [] past = Unit {0}
MomentsIn P (e ∷ events) past = P (e ∷ (events ++ past)) × MomentsIn P events past

-- each event of the stretch is such
abbrev pub EachOf : (Event → Type 0) → List Event → Type 0
EachOf P [] = Unit {0}
EachOf P (e ∷ events) = P e × EachOf P events

-- the event begins no step
abbrev pub IsInner : Event → Type 0
IsInner (event.Line line) = ⊥
IsInner (event.Taken channel message) = ⊥
IsInner other = Unit {0}

abbrev pub AllInner : List Event → Type 0
AllInner [] = Unit {0}
AllInner (e ∷ events) = IsInner e × AllInner events
