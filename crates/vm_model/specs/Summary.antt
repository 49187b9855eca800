-- The summary of a history, whose newest event comes first here: eleven numbers, and their text.
use Rattle.std.specs.Prelude.{ℕ, ◌+◌, ◌-◌, ◌%◌, ◌^◌, Bool, true, false, List, [], ◌∷◌, ◌++◌, codes}
use Rattle.vm_model.specs.declared.event.Event.{Event}
use Rattle.vm_model.specs.declared.event.Event.TheVariants as event
use Rattle.vm_model.specs.Text.{field, flag, newline}

-- how many events are of this kind
abbrev pub count_of : (Event → Bool) → List Event → ℕ
count_of is_kind [] = 0
count_of is_kind (event ∷ past) = count_of is_kind past + flag (is_kind event)

abbrev pub is_line : Event → Bool
is_line (event.Line line) = true
is_line _ = false

abbrev pub is_refused : Event → Bool
is_refused (event.Refused code) = true
is_refused _ = false

abbrev pub is_begun : Event → Bool
is_begun (event.BegunLoad task address size) = true
is_begun (event.BegunStore task address size value) = true
is_begun (event.BegunCopy task address bytes to) = true
is_begun _ = false

abbrev pub is_loaded : Event → Bool
is_loaded (event.Loaded task object page value) = true
is_loaded _ = false

abbrev pub is_stored : Event → Bool
is_stored (event.Stored task object page at size value) = true
is_stored _ = false

abbrev pub is_copy_ended : Event → Bool
is_copy_ended (event.CopyEnded task) = true
is_copy_ended _ = false

abbrev pub is_failed : Event → Bool
is_failed (event.Failed task object page) = true
is_failed _ = false

abbrev pub is_sent : Event → Bool
is_sent (event.Sent channel message) = true
is_sent _ = false

abbrev pub is_taken_event : Event → Bool
is_taken_event (event.Taken channel message) = true
is_taken_event _ = false

abbrev pub is_dropped : Event → Bool
is_dropped (event.Dropped host object page) = true
is_dropped _ = false

-- accesses that ended
abbrev pub ended_of : List Event → ℕ
ended_of history = count_of is_loaded history + count_of is_stored history + count_of is_copy_ended history + count_of is_failed history

-- accesses that have begun and not ended
abbrev pub waiting_of : List Event → ℕ
waiting_of history = count_of is_begun history - ended_of history

-- what a load loaded
abbrev pub value_of : Event → ℕ
value_of (event.Loaded task object page value) = value
value_of _ = 0

abbrev pub loaded_of : List Event → ℕ
loaded_of [] = 0
loaded_of (event ∷ past) = loaded_of past + value_of event

abbrev pub sum_of : List Event → ℕ
sum_of history = loaded_of history % 2 ^ 64

abbrev pub row : List ℕ → ℕ → List ℕ
row word number = word ++ field number ++ newline

abbrev pub summary_text : List Event → List ℕ
summary_text history =
    row (codes "lines") (count_of is_line history)
    ++ row (codes "refused") (count_of is_refused history)
    ++ row (codes "loads") (count_of is_loaded history)
    ++ row (codes "stores") (count_of is_stored history)
    ++ row (codes "copies") (count_of is_copy_ended history)
    ++ row (codes "failed") (count_of is_failed history)
    ++ row (codes "sent") (count_of is_sent history)
    ++ row (codes "taken") (count_of is_taken_event history)
    ++ row (codes "dropped") (count_of is_dropped history)
    ++ row (codes "waiting") (waiting_of history)
    ++ row (codes "sum") (sum_of history)
