-- How many takings of the oldest message there can be until nothing is undelivered.
use Rattle.std.specs.Prelude.{ℕ, zero, suc, ◌+◌, ◌*◌, ◌≡◌, ◌≤◌, false, List, [], ◌∷◌, Option, Some, None, if◌then◌else◌, length, max}
use Rattle.vm_base.specs.Limits.{most_tasks}
use Rattle.vm_base.specs.declared.entry.Entry.{Entry}
use Rattle.vm_bound.specs.Accesses.{accesses, depth_below, led, pages_left}
use Rattle.vm_bound.specs.Letters.{host_count, letters, object_on}
use Rattle.vm_bound.specs.Lines.{lines, sum_below}
use Rattle.vm_bound.specs.Places.{places}
use Rattle.vm_legal.specs.Accesses.{Waits}
use Rattle.vm_legal.specs.Outside.{is_shared, is_wild}
use Rattle.vm_legal.specs.Steps.{Letter}
use Rattle.vm_legal.specs.Undelivered.{undelivered}
use Rattle.vm_model.specs.Named.{declared_pages, named}
use Rattle.vm_model.specs.PagePart.{page_part}
use Rattle.vm_model.specs.Regions.{backing_of, next_object, object_pages, region_of}
use Rattle.vm_model.specs.Server.{line}
use Rattle.vm_model.specs.Waiting.{Access, next_page, waiting}
use Rattle.vm_model.specs.declared.event.Event.{Event}
use Rattle.vm_model.specs.declared.message.Message.{Message}
use Rattle.vm_model.specs.declared.message.Message.TheVariants as message
use Rattle.vm_model.specs.declared.script.Header.{Header}

-- what is undelivered, and may be sent by those who wait or stand in line: no event raises it, and each taking lowers it
abbrev pub sum : Header → List Event → ℕ
sum header past = letters header past + lines header past + (accesses header past + places header past)

-- The bound, by what is counted more simply.

-- a lock counts its pages and one more, what may end an object the object's pages and one more, and each other message one
abbrev pub message_count : ℕ → Message → ℕ
message_count pages (message.Lock page count returns flush lock reply) = count + 1
message_count pages (message.Init control size) = pages + 1
message_count pages (message.Create control size) = pages + 1
message_count pages (message.Ready cache strategy) = pages + 1
message_count pages (message.Attributes cache strategy reply) = pages + 1
message_count pages other = 1

abbrev pub letter_count : Header → List Event → Letter → ℕ
letter_count header past letter = message_count (object_pages header (object_on letter.channel) past) letter.message

abbrev pub counts : Header → List Event → List Letter → ℕ
counts header past [] = 0
counts header past (letter ∷ rest) = letter_count header past letter + counts header past rest

abbrev pub undelivered_count : Header → List Event → ℕ
undelivered_count header past = counts header past (undelivered past)

-- all who stand in the server's lines
abbrev pub pending : Header → List Event → ℕ
pending header past =
    sum_below (named header) (λ object. if is_shared header object
    then sum_below (declared_pages header object) (λ page. length (line (page_part header.size object page past))) else 0)

-- the accesses of some tasks that wait, a slow copy by the pages that it has left
abbrev pub pages_waiting : Header → ℕ → Option Access → List Event → ℕ
pages_waiting header task None past = 0
pages_waiting header task (Some access) past = pages_left header.size access (next_page task past)

abbrev pub waiting_count : Header → List Event → ℕ
waiting_count header past = sum_below most_tasks (λ task. pages_waiting header task (waiting task past) past)

-- how many places the page of an entry has
abbrev pub places_of : Header → Option Entry → List Event → ℕ
places_of header None past = 0
places_of header (Some entry) past =
    suc (depth_below (λ o. backing_of header o past) (next_object header past) (region_of header entry.region.0 past).top)

abbrev pub places_waiting : Header → ℕ → Option Access → List Event → ℕ
places_waiting header task None past = 0
places_waiting header task (Some access) past = places_of header (led header task access past) past

-- the most places of an access that waits
abbrev pub deepest_below : Header → ℕ → List Event → ℕ
deepest_below header zero past = 0
deepest_below header (suc task) past = max (places_waiting header task (waiting task past) past) (deepest_below header task past)

abbrev pub deepest : Header → List Event → ℕ
deepest header past = deepest_below header most_tasks past

abbrev pub bound : Header → List Event → ℕ
bound header past =
    (undelivered_count header past + pending header past + waiting_count header past * (deepest header past + 4)) * (3 * host_count header + 4)

-- a declared object has the pages that its header line says
abbrev pub PagesAreDeclared : Header → List Event → Type 0
PagesAreDeclared header past = (o : ℕ) → declared_pages header o ≤ object_pages header o past

-- nobody waits for a pager that the script drives
abbrev pub NoneWaitsOnWild : Header → List Event → Type 0
NoneWaitsOnWild header past =
    (task : ℕ) (access : Access) → (waits : Waits header task access past) → is_wild header waits.at.entry.region.0 ≡ false
