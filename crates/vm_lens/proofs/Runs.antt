-- What a run shows.
use Rattle.std.proofs.Common.{List, Option, Some, ap, length, reverse, subst, sym, true, ℕ, ◌++◌, ◌∙◌, ◌≡◌, Bool, refl, [], ◌∷◌, ◌==◌}
use Rattle.std.specs.Prelude.{if◌then◌else◌}
use Rattle.std.specs.List.{All}
use Rattle.vm_model.specs.declared.event.Event.{Event}
use Rattle.vm_model.specs.declared.script.Header.{Header}
use Rattle.vm_model.specs.declared.script.Script.{Script}
use Rattle.vm_legal.specs.Legal.{LegalSoFar}
use Rattle.vm_legal.specs.Outside.{Outside}
use Rattle.vm_legal.proofs.Groups.{so_far, whole}
use Rattle.vm_order.specs.OneMemory.{IsOneMemory}
use Rattle.vm_order.proofs.Ordered.{memory_is_one}
use Rattle.vm_free.specs.Free.{GoesOn, NobodyWaits}
use Rattle.vm_free.specs.Orders.{order_of}
use Rattle.vm_free.specs.Outcomes.{loaded}
use Rattle.vm_seen.specs.Behind.{later_of, oldest_items}
use Rattle.vm_seen.specs.Ends.{values_of as seen_values}
use Rattle.vm_seen.specs.Headers.{SayTheSame}
use Rattle.vm_seen.specs.declared.ends.Loaded.{Loaded}
use Rattle.vm_seen.proofs.Behind.{begun_with}
use Rattle.vm_explore.specs.Outcomes.{AreValues, loaded_by}
use Rattle.vm_litmus.specs.Parts.{accesses_in, loads_of, tasks_of}
use Rattle.vm_lens.specs.Exploring.{AreLoaded, IsFresh, IsLegalRun, IsOnShared, IsSetUpRun, IsShown, RanWhole, free_of, fresh}
use Rattle.vm_lens.proofs.Alike.{fresh_is_fresh, one_memory_alike}

-- a header that says the same, with files and areas that hold nothing at the start, gives memory the same history
one_under : (a b : Header) (outside : Outside) (history : List Event) → SayTheSame a b → IsFresh a outside → IsOneMemory a outside history
    → IsOneMemory b (fresh b) history
one_under a b outside history same told one = one_memory_alike a b outside (fresh b) same.size same.objects told (fresh_is_fresh b) history one

-- in a legal run memory is one
pub one_of_run : (header : Header) (history : List Event) → IsLegalRun header history → IsOneMemory header (fresh header) history
one_of_run header history ran =
    let legal = ran.whole.legal in
    let causes = whole ran.run.header ran.outside ran.run.commands.items history legal.follows in
    one_under ran.run.header header ran.outside history ran.same ran.told (memory_is_one ran.run.header ran.outside history causes legal.holds.own_bytes
    legal.holds.flat_bytes)

-- and in one that is legal so far
pub one_so_far : (header : Header) (run : Script) (outside : Outside) (history : List Event) → SayTheSame run.header header → IsFresh run.header outside
    → LegalSoFar run outside history
    → IsOneMemory header (fresh header) history
one_so_far header run outside history same told legal =
    let causes = so_far run.header outside legal.run history legal.follows in
    one_under run.header header outside history same told (memory_is_one run.header outside history causes legal.holds.own_bytes legal.holds.flat_bytes)

pub legal_run : (header : Header) (script : Option Script) (history : List Event) → RanWhole script history
    → ((run : Script) → script ≡ Some run → SayTheSame run.header header) → IsLegalRun header history
legal_run header script history ran same = record { run = ran.run; same = same ran.run ran.held; outside = ran.outside; told = ran.told; whole = ran.whole }

pub set_up_run : (script : Script) (setup : ℕ) (held : Option Script) (history : List Event) → RanWhole held history
    → ((run : Script) → held ≡ Some run → SayTheSame run.header script.header)
    → ((run : Script) → held ≡ Some run → run.commands.items ≡ oldest_items setup script.commands.items)
    → NobodyWaits history → IsSetUpRun script setup history
unfolding legal_run
set_up_run script setup held history ran same commands nobody =
    record { ran = legal_run script.header held history ran same; commands = commands ran.run ran.held; nobody = nobody }

same_loads : (t : ℕ) (loads : List Loaded) → seen_values t loads ≡ loaded_by t loads
same_loads t [] = refl
same_loads t (load ∷ more) = ap (λ z. if load.task == t then load.value ∷ z else z) (same_loads t more)

pub are_loaded : (tasks : List ℕ) (loads : List Loaded) (later : List Event) (values : List ℕ) → ((t : ℕ) → reverse (seen_values t loads) ≡ loaded t later)
    → AreValues tasks loads values → AreLoaded tasks later values
are_loaded tasks loads later values seen fit t = ap reverse (fit.gave t ∙ sym (same_loads t loads)) ∙ seen t

pub shown_by : (script : Script) (setup : ℕ) (start history : List Event) (order values : List ℕ) (times : ℕ) (shared : Bool)
    → IsLegalRun script.header history
    → oldest_items (length start) history ≡ start
    → GoesOn (free_of script setup) (later_of (length start) history)
    → reverse order ≡ order_of (later_of (length start) history)
    → AreLoaded (tasks_of (loads_of (reverse (accesses_in (free_of script setup))))) (later_of (length start) history) values
    → (shared ≡ true → All (IsOnShared script.header) (later_of (length start) history))
    → IsShown script setup start shared (record { values = values; times = times; order = order })
shown_by script setup start history order values times shared ran begins goes ended gave on_shared =
    let later = later_of (length start) history in
    let split : history ≡ later ++ start = sym (begun_with history start begins) in
    record {
      later = later;
      ran = subst (λ z. IsLegalRun script.header z) split ran;
      shows = record {
        one = subst (λ z. IsOneMemory script.header (fresh script.header) z) split (one_of_run script.header history ran);
        goes = goes;
        ended = sym ended;
        gave = λ t. sym (gave t);
      };
      on_shared = on_shared;
    }
