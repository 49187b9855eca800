use Rattle.std.proofs.Common.{◌≡◌, List, None, Some, ap, ℕ, ◌∙◌}
use Rattle.vm_outside.specs.Arming.{Arming}
use Rattle.vm_outside.specs.Memory.{area_of}
use Rattle.vm_outside.specs.declared.memory_backing.SureBacking.{SureBacking}
use Rattle.vm_top.specs.Words.{asked_by}
use Rattle.vm_top.specs.declared.words.Report.TheVariants.{Summary}
use Rattle.vm_lens.proofs.Fresh.{told_empty}
use Rattle.vm_lens.proofs.running.run.Goals as goal

holds_nothing : (armed : Arming SureBacking) (inner : SureBacking) → armed ≡ record { inner = inner; left = 0; reached = 0 }
    → ((name : List ℕ) → area_of inner name ≡ None)
    → (name : List ℕ) → Some (area_of armed.inner name) ≡ Some None
holds_nothing armed inner is none name = ap (λ (z : Arming SureBacking). Some (area_of z.inner name)) is ∙ ap Some (none name)

pub returns : goal.returns
returns c = λ done.
    let was = c.pagers_main.ensures.done done Summary (ap asked_by c.deref.ensures.value ∙ c.in_ok-words.ensures) in
    record {
      run = was.run;
      held = was.held.held;
      outside = _;
      told =
          told_empty _ _ was.run.header (holds_nothing c.new-files.result c.new.result c.new-files.ensures c.new.ensures)
          (holds_nothing c.new-paging.result c.new-2.result c.new-paging.ensures c.new-2.ensures);
      whole = was.whole;
    }
