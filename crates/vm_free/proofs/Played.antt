-- What accesses do to memory, and what their loads give, by the order in which they end alone.
use Rattle.std.proofs.Common.{Bool, List, None, Option, Some, [], ap, append_assoc, false, refl, sym, true, ℕ, ◌++◌, ◌==◌, ◌∙◌, ◌∷◌, ◌≡◌}
use Rattle.std.specs.Prelude.{if◌then◌else◌}
use Rattle.vm_base.specs.Entries.{entry_at, page_at}
use Rattle.vm_base.specs.declared.entry.Entry.{Entry}
use Rattle.vm_model.specs.Bytes.{number_at}
use Rattle.vm_model.specs.Tasks.{entries_of}
use Rattle.vm_model.specs.Waiting.{Access, Loading, Storing}
use Rattle.vm_model.specs.declared.command.Numbered.{Numbered}
use Rattle.vm_model.specs.declared.event.Event.{Event}
use Rattle.vm_model.specs.declared.script.Header.{Header}
use Rattle.vm_legal.specs.Outside.{Outside}
use Rattle.vm_order.specs.Operations.{Load, Operation, Store, memory, operations, stored_at}
use Rattle.vm_free.specs.Free.{accesses_of}
use Rattle.vm_free.specs.Orders.{occurrences}
use Rattle.vm_free.proofs.Stands.{oldest_at}

-- a free part, and the set-up's history before it
pub record FreePart : Type 0 where
  pub header : Header
  pub outside : Outside
  pub free : List Numbered
  pub start : List Event

-- what was done to memory when these events have come behind the set-up
abbrev pub done : FreePart → List Event → List Operation
done part later = operations part.header part.outside (later ++ part.start)

-- what the set-up maps for a task
abbrev pub mapped : FreePart → ℕ → List Entry
mapped part t = entries_of part.header.size t part.start

-- a task's access that comes behind an order
abbrev pub next_of : FreePart → ℕ → List ℕ → Option Access
next_of part t order = oldest_at (occurrences t order) (accesses_of t part.free)

-- the number that memory has at an address of an entry
abbrev pub value_in : FreePart → ℕ → ℕ → Entry → List Operation → ℕ
value_in part address bytes row past =
    number_at (memory part.header part.outside past row.region.0 (page_at part.header.size address row)) part.header.size address bytes

-- a load, and a store, at an entry

abbrev pub load : FreePart → (task address bytes : ℕ) → Entry → (value : ℕ) → Operation
load part task address bytes row value = Load task row.region.0 (page_at part.header.size address row) address bytes value

abbrev pub store : FreePart → (task address bytes value : ℕ) → Entry → Operation
store part task address bytes value row = Store task row.region.0 (page_at part.header.size address row) address bytes value

-- a load that reads what memory has
abbrev pub reads_at : FreePart → ℕ → ℕ → ℕ → List Operation → Option Entry → List Operation
reads_at part task address bytes past None = []
reads_at part task address bytes past (Some row) = load part task address bytes row (value_in part address bytes row past) ∷ []

-- what the end of an access does
abbrev pub does : FreePart → ℕ → List Operation → Option Access → List Operation
does part task past (Some (Loading address bytes)) = reads_at part task address bytes past (entry_at address (mapped part task))
does part task past (Some (Storing address bytes value)) = stored_at part.header.size task address bytes value (entry_at address (mapped part task))
does part task past other = []

-- what the accesses do behind the set-up where they end in an order, which has the newest first
abbrev pub played : FreePart → List ℕ → List Operation
played part [] = []
played part (t ∷ order) = does part t (played part order ++ done part []) (next_of part t order) ++ played part order

-- the values of a task's loads
abbrev pub values_in : ℕ → List Operation → List ℕ
values_in t [] = []
values_in t (Load task region page address bytes value ∷ past) = if task == t then value ∷ values_in t past else values_in t past
values_in t (other ∷ past) = values_in t past

pub values-append : (t : ℕ) (xs ys : List Operation) → values_in t (xs ++ ys) ≡ values_in t xs ++ values_in t ys
values-append t [] ys = refl
values-append t (Load task region page address bytes value ∷ xs) ys = by (task == t) (values_in t (xs ++ ys)) (values_in t xs) (values-append t xs ys)
  where
    by : (same : Bool) (both first : List ℕ) → both ≡ first ++ values_in t ys
        → (if same then value ∷ both else both) ≡ (if same then value ∷ first else first) ++ values_in t ys
    by true both first is = ap (λ z. value ∷ z) is
    by false both first is = is
values-append t (other ∷ xs) ys = values-append t xs ys

-- where more end, the older ones do what they do without them
pub played-append : (part : FreePart) (newer order : List ℕ) → (more : List Operation) × (played part (newer ++ order) ≡ more ++ played part order)
played-append part [] order = ([], refl)
played-append part (t ∷ newer) order =
    let rest = played-append part newer order in
    let now = does part t (played part (newer ++ order) ++ done part []) (next_of part t (newer ++ order)) in
    (now ++ rest.0, ap (λ z. now ++ z) rest.1 ∙ sym (append_assoc now rest.0 (played part order)))

-- the end of a load at an entry, and of a store

pub load_does : (part : FreePart) (task : ℕ) (past : List Operation) (access : Option Access) (address bytes : ℕ) (row : Entry)
    → access ≡ Some (Loading address bytes) → entry_at address (mapped part task) ≡ Some row
    → does part task past access ≡ load part task address bytes row (value_in part address bytes row past) ∷ []
load_does part task past access address bytes row is found = ap (does part task past) is ∙ ap (reads_at part task address bytes past) found

pub store_does : (part : FreePart) (task : ℕ) (past : List Operation) (access : Option Access) (address bytes value : ℕ) (row : Entry)
    → access ≡ Some (Storing address bytes value) → entry_at address (mapped part task) ≡ Some row
    → does part task past access ≡ store part task address bytes value row ∷ []
store_does part task past access address bytes value row is found =
    ap (does part task past) is ∙ ap (stored_at part.header.size task address bytes value) found
