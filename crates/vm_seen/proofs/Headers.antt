-- What is said of a header is said of each that says the same.
use Rattle.std.proofs.Common.{ℕ, List, [], ◌∷◌, subst}
use Rattle.vm_model.specs.declared.event.Event.{Event}
use Rattle.vm_model.specs.declared.event.Event.TheVariants as event
use Rattle.vm_model.specs.declared.script.Declared.{Declared}
use Rattle.vm_model.specs.declared.script.Header.{Header}
use Rattle.vm_model.specs.Moments.{EachEvent}
use Rattle.vm_model.specs.Waiting.{Access}
use Rattle.vm_legal.specs.Outside.{Outside}
use Rattle.vm_order.specs.OneMemory.{EndsAccess, IsOneAtATime, IsOneMemory}
use Rattle.vm_seen.specs.Headers.{SayTheSame}

-- another header with this page size and these objects
with_size_and_objects : Header → ℕ → List Declared → Header
with_size_and_objects header size objects =
    record { size = size; slots = header.slots; frames = header.frames; objects = record { items = objects; room = header.objects.room } }

ends_of_same : (a b : Header) (task address : ℕ) (access : Access) (past : List Event) → EndsAccess a task address access past
    → EndsAccess (with_size_and_objects b a.size a.objects.items) task address access past
unfolding with_size_and_objects
ends_of_same a b task address access past ends = record { waits = ends.waits; entry = ends.entry; found = ends.found }

at_a_time_of_same : (a b : Header) (e : Event) (past : List Event) → IsOneAtATime a e past
    → IsOneAtATime (with_size_and_objects b a.size a.objects.items) e past
at_a_time_of_same a b (event.Loaded task object page value) past ends = (ends.0, ends.1, ends_of_same a b _ _ _ past ends.2)
at_a_time_of_same a b (event.Stored task object page at bytes value) past ends = (ends.0, ends_of_same a b _ _ _ past ends.1)
at_a_time_of_same a b other past is = is

each_of_same : (a b : Header) (history : List Event) → EachEvent (IsOneAtATime a) history
    → EachEvent (IsOneAtATime (with_size_and_objects b a.size a.objects.items)) history
each_of_same a b [] each = each
each_of_same a b (e ∷ past) each = (at_a_time_of_same a b e past each.0, each_of_same a b past each.1)

retold : (a b : Header) (outside : Outside) (history : List Event) → IsOneMemory a outside history
    → IsOneMemory (with_size_and_objects b a.size a.objects.items) outside history
unfolding with_size_and_objects
retold a b outside history one = record { reads = one.reads; tasks = each_of_same a b history one.tasks }

pub one_memory_of_same : (a b : Header) (outside : Outside) (history : List Event) → SayTheSame a b → IsOneMemory a outside history
    → IsOneMemory b outside history
unfolding with_size_and_objects
one_memory_of_same a b outside history same one =
    let P : ℕ → Type 0 = λ size. IsOneMemory (with_size_and_objects b size a.objects.items) outside history in
    let Q : List Declared → Type 0 = λ objects. IsOneMemory (with_size_and_objects b b.size objects) outside history in
    subst Q same.objects (subst P same.size (retold a b outside history one))
