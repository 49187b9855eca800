-- All that an exploration promises.
use Rattle.std.proofs.Common.{Any, Bool, List, ap, false, length, map, reverse, subst, sym, true, ℕ, ◌++◌, ◌∙◌, ◌≡◌}
use Rattle.std.specs.Global.{Vec}
use Rattle.std.specs.List.{All}
use Rattle.vm_model.specs.declared.event.Event.{Event}
use Rattle.vm_model.specs.declared.script.Script.{Script}
use Rattle.vm_legal.specs.Outside.{is_wild}
use Rattle.vm_explore.specs.Levels.{IsOrderOf}
use Rattle.vm_explore.specs.Tables.{Line, line_of, times_of}
use Rattle.vm_free.specs.Free.{NobodyWaits}
use Rattle.vm_free.specs.Outcomes.{AllShown}
use Rattle.vm_free.proofs.Law.{shown_outcomes_are_all}
use Rattle.vm_litmus.specs.Parts.{EndsSetUp, accesses_in, tasks_of}
use Rattle.vm_litmus.specs.declared.explored.Explored.{Explored}
use Rattle.vm_text.specs.Script.{DeclaresNoTemporary}
use Rattle.vm_lens.specs.Exploring.{AreWhole, Gives, IsExplored, IsSetUpRun, IsShown, free_of, fresh, outcomes_of}
use Rattle.vm_lens.proofs.Counting.{weakened}
use Rattle.vm_lens.proofs.Flat.{all_flat, nothing_said}
use Rattle.vm_lens.proofs.Runs.{one_so_far}
use Rattle.vm_lens.proofs.Whole.{all_shown}

are_whole : (script : Script) (setup : ℕ) (start : List Event) (lines : List Line) → NobodyWaits start → DeclaresNoTemporary script.header
    → ((object : ℕ) → is_wild script.header object ≡ false)
    → AllShown script.header (fresh script.header) (free_of script setup) start (outcomes_of script setup lines) → AreWhole script setup start lines
are_whole script setup start lines nobody made tame shown run same outside told later legal goes =
    shown_outcomes_are_all script.header (fresh script.header) (free_of script setup) start (outcomes_of script setup lines) nobody (nothing_said script.header)
    (all_flat script.header start made tame) shown later (one_so_far script.header run outside (later ++ start) same told legal) goes

pub explored : (script : Script) (found : Explored) (lines : List Line) (all : List (Vec ℕ)) (shared : Bool)
    → DeclaresNoTemporary script.header
    → map line_of found.rows.items ≡ lines
    → EndsSetUp script.commands.items found.setup
    → IsSetUpRun script found.setup found.start.items
    → found.accesses.items ≡ reverse (accesses_in (free_of script found.setup))
    → All (IsShown script found.setup found.start.items shared) lines
    → ((order : List ℕ) → IsOrderOf (tasks_of found.accesses.items) order → Any (λ it. it.items ≡ order) all)
    → All (λ it. Any (Gives script found.setup found.start.items it.items) lines) all
    → times_of lines ≡ length all
    → found.interleavings ≡ length all
    → (found.whole ≡ true → shared ≡ true)
    → (found.whole ≡ true → (object : ℕ) → is_wild script.header object ≡ false)
    → IsExplored script found
explored script found lines all shared made rows parts start accesses shown every given times count on_shared tame =
    let each = all_shown script found.setup found.start.items lines (tasks_of found.accesses.items) all (ap tasks_of accesses) every given in
    record {
      parts = parts;
      start = start;
      accesses = accesses;
      shown =
          subst (All (IsShown script found.setup found.start.items found.whole)) (sym rows)
          (λ k d less. weakened script found.setup found.start.items shared found.whole _ on_shared (shown k d less));
      all =
          subst (λ z. AllShown script.header (fresh script.header) (free_of script found.setup) found.start.items (outcomes_of script found.setup z)) (sym rows)
          each;
      counted = count ∙ (sym times ∙ sym (ap times_of rows));
      whole = λ is. subst (AreWhole script found.setup found.start.items) (sym rows)
          (are_whole script found.setup found.start.items lines start.nobody made (tame is) each);
    }
