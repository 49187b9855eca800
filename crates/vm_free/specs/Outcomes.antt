-- What the loads of the free part gave.
use Rattle.std.specs.Prelude.{Any, ℕ, ◌≡◌, ◌==◌, ◌++◌, true, false, List, [], ◌∷◌, Some, if◌then◌else◌}
use Rattle.vm_base.specs.declared.entry.Entry.{Entry}
use Rattle.vm_base.specs.Entries.{entry_at}
use Rattle.vm_model.specs.declared.command.Numbered.{Numbered}
use Rattle.vm_model.specs.declared.event.Event.{Event}
use Rattle.vm_model.specs.declared.event.Event.TheVariants as event
use Rattle.vm_model.specs.declared.script.Header.{Header}
use Rattle.vm_model.specs.Tasks.{entries_of}
use Rattle.vm_legal.specs.Outside.{Outside, is_flat, is_said}
use Rattle.vm_order.specs.OneMemory.{IsOneMemory}
use Rattle.vm_free.specs.Free.{AreOldest, GoesOn}
use Rattle.vm_free.specs.Orders.{IsOrder, order_of}

-- the values of the loads of a task that ended, the newest first
abbrev pub loaded : ℕ → List Event → List ℕ
loaded t [] = []
loaded t (event.Loaded task object page value ∷ older) = if task.0 == t then value ∷ loaded t older else loaded t older
loaded t (e ∷ older) = loaded t older

-- an outcome: the values of each task's loads, the newest first
abbrev pub Values : Type 0
Values = ℕ → List ℕ

-- each load that ended has its value of the outcome
abbrev pub Agrees : Values → List Event → Type 0
Agrees values later = (t : ℕ) → AreOldest (loaded t later) (values t)

-- behind a set-up's history a run ended the accesses of the free part in an order, and its loads gave an outcome
pub record Shows (header : Header) (outside : Outside) (free : List Numbered) (start : List Event) (order : List ℕ) (values : Values) (later : List Event) :
    Type 0 where
  pub one : IsOneMemory header outside (later ++ start)
  pub goes : GoesOn free later
  pub ended : order_of later ≡ order
  pub gave : (t : ℕ) → loaded t later ≡ values t

-- a run did
abbrev pub AreShown : Header → Outside → List Numbered → List Event → List ℕ → Values → Type 0
AreShown header outside free start order values = (later : List Event) × Shows header outside free start order values later

-- each order of the accesses was shown, with one of these outcomes
abbrev pub AllShown : Header → Outside → List Numbered → List Event → List Values → Type 0
AllShown header outside free start outcomes = (order : List ℕ) → IsOrder free order → Any (AreShown header outside free start order) outcomes

-- whatever is mapped, loads of it answer the flat map
abbrev pub AllFlat : Header → Outside → List Event → Type 0
AllFlat header outside start =
    (t address : ℕ) (entry : Entry) → entry_at address (entries_of header.size t start) ≡ Some entry → is_flat header outside entry.region.0 start ≡ true

-- no answer of a pager says what a file has: files are told, or there are none
abbrev pub NothingIsSaid : Header → Outside → Type 0
NothingIsSaid header outside = (object : ℕ) → is_said header outside object ≡ false

-- where the history goes on from a set-up's with accesses of the free part alone, its loads agree with one of these outcomes
abbrev pub AreAll : Header → Outside → List Numbered → List Event → List Values → Type 0
AreAll header outside free start outcomes =
    (later : List Event) → IsOneMemory header outside (later ++ start) → GoesOn free later → Any (λ values. Agrees values later) outcomes
