-- The part of a history that is of one place, and what it says of the place.
use Rattle.std.specs.Prelude.{ℕ, ◌+◌, List, [], ◌∷◌, true, if◌then◌else◌}
use Rattle.vm_model.specs.declared.event.Event.{Event}
use Rattle.vm_model.specs.Words.{Act, act_of, ActEffect, Begins, Opens}
use Rattle.vm_model.specs.Side.{Side, side}
use Rattle.vm_model.specs.TaskPlace.{task_host, means_page}
use Rattle.vm_model.specs.PageLicences.{ActsLicensed}

-- the events of page p of object o, newest first, with each task's host and the place that each beginning means
abbrev pub page_part : ℕ → ℕ → ℕ → List Event → List Act
page_part size o p [] = []
page_part size o p (e ∷ past) =
    act_of size o p
    (λ task. task_host task past)
    (λ task address. means_page size o p task address past)
    (λ host object page. (side host (page_part size object page past)).bytes)
    e
    ∷ page_part size o p past

-- what a host has of a place, and what is on the way
abbrev pub place : ℕ → ℕ → ℕ → ℕ → List Event → Side
place size host o p history = side host (page_part size o p history)

-- each page of an object has a licensed part
abbrev pub PagesLicensed : ℕ → ℕ → List Event → Type 0
PagesLicensed size o history = (p : ℕ) → ActsLicensed size (page_part size o p history)

-- The page world: a world of one page of object 0, in which task h is the one task of host h.

-- a host that has no control begins its next one with its next access, ready at once
abbrev pub with_control : Side → ℕ → ActEffect → List Act → List Act
with_control s host (Begins task store at bytes value) past =
    if s.live then past else record { host = host; effect = Opens (s.control + 1) true } ∷ past
with_control s host e past = past

abbrev pub with_opening : Act → List Act → List Act
with_opening a past = a ∷ with_control (side a.host past) a.host a.effect past

-- the events of the page world: no message says that a control begins
abbrev pub world_part : ℕ → List Event → List Act
world_part size [] = []
world_part size (e ∷ past) = with_opening (act_of size 0 0 (λ task. task) (λ task address. true) (λ host object page. []) e) (world_part size past)
