-- Files that aren't told, of which all the same each answer carries what its pager has.
use Rattle.std.specs.Prelude.{ℕ, ◌≡◌, List, true, Option, Some}
use Rattle.vm_model.specs.declared.event.Event.{Event}
use Rattle.vm_model.specs.declared.event.Event.TheVariants as event
use Rattle.vm_model.specs.declared.message.Channel.TheVariants.{Down}
use Rattle.vm_model.specs.declared.message.Message.{Message}
use Rattle.vm_model.specs.declared.message.Message.TheVariants as message
use Rattle.vm_model.specs.declared.script.Header.{Header}
use Rattle.vm_legal.specs.Outside.{Outside, Told, Untold, is_file, zeros}
use Rattle.vm_legal.specs.Pagers.{last_return, newer}

-- the same outside, but it is told that the files hold these pages at the start
abbrev pub told : Outside → (ℕ → ℕ → List ℕ) → Outside
told outside pages = record outside { files = Told pages }

-- the same outside, but it is not told what the files hold at the start
abbrev pub untold : Outside → Outside
untold outside = record outside { files = Untold }

-- what a file's pager has of a page, where the files held these pages at the start: the last return that it took, else what the file held
abbrev pub file_has : (ℕ → ℕ → List ℕ) → ℕ → ℕ → ℕ → List Event → Option (List ℕ)
file_has pages host object page past = newer (last_return host object page past) (Some (pages object page))

-- The message, if it is an answer of a file's pager, is what that has: the page, or that there is none where that is zeros. A pager gives
-- no page of which the last return was not stored, so what it took last is what it stored last.
abbrev pub IsToldAnswer : Header → (ℕ → ℕ → List ℕ) → ℕ → ℕ → Message → List Event → Type 0
IsToldAnswer header pages host object (message.Supply page lock precious bytes) past =
    is_file header object ≡ true → file_has pages host object page.0 past ≡ Some bytes
IsToldAnswer header pages host object (message.Unavailable page) past =
    is_file header object ≡ true → file_has pages host object page.0 past ≡ Some (zeros header)
IsToldAnswer header pages host object other past = Unit {0}

-- the event, if it is an answer of a file's pager, carries what that pager has, where the files held these pages at the start
abbrev pub AnswersTold : Header → (ℕ → ℕ → List ℕ) → Event → List Event → Type 0
AnswersTold header pages (event.Sent (Down host object control) m) past = IsToldAnswer header pages host.0 object.0 m past
AnswersTold header pages other past = Unit {0}
