-- A header that declares no object can be run, and nothing is told of its files.
use Rattle.std.proofs.Common.{refl, ◌≡◌, ◌∙◌, ℕ, List, [], false, true, arith, length, subst, sym, ap}
use Rattle.std.proofs.lemmas.Bool.Decides.{nat_tests}
use Rattle.std.specs.Prelude.{Bool, nat_lt, ◌&&◌}
use Rattle.vm_kernel.specs.Matches.{IsRanged}
use Rattle.vm_legal.specs.Outside.{Outside, is_file, is_file_kept}
use Rattle.vm_model.specs.Named.{declared, named}
use Rattle.vm_model.specs.declared.event.Event.{Event}
use Rattle.vm_model.specs.declared.script.Header.{Header}
use Rattle.vm_outside.specs.Areas.{Told}
use Rattle.vm_system.specs.Backed.{BackingsFit}
use Rattle.vm_system.specs.Keeping.{FilesAreTold, FilesCarry}
use Rattle.vm_system.specs.Stands.{FilesAreKept, IsServable, PagingIsKept}
use Rattle.vm_system.specs.declared.state.State.{State}

no_file : (header : Header) → header.objects.items ≡ [] → (o : ℕ) → is_file header o ≡ true → {A : Type 0} → A
no_file header none o file = absurd (let bad : false ≡ true = sym (one (named header) (is_file_kept (declared header o)) (ap length none)) ∙ file in cc)
  where
    one : (n : ℕ) (b : Bool) → n ≡ 0 → nat_lt o n && b ≡ false
    one n b zero = let none : nat_lt o n ≡ false = grind (arith, nat_tests) in rw none refl

pub bare : (header : Header) → IsRanged header → header.objects.items ≡ [] → IsServable header
bare header ranged none = record {
  ranged = ranged;
  names = λ one other first second same. no_file header none one first;
}

pub untold : (header : Header) (outside : Outside) (start : List ℕ → Told) → header.objects.items ≡ [] → FilesAreTold header outside start
untold header outside start none = record { at = λ object tells file. no_file header none object file }

-- what the backings hold fits a system to which nothing has happened yet
pub fits_at_start : (header : Header) (outside : Outside) (files paging : List ℕ → Told) (system : State) → PagingIsKept header outside paging system
    → FilesAreKept header outside files system → ((areas : List ℕ → Told) → FilesCarry header areas areas [])
    → system.history.items ≡ [] → (start : List ℕ → Told) × BackingsFit header outside start files paging system
fits_at_start header outside files paging system kept files_kept carried none = (
  files,
  record {
    kept = kept;
    files_kept = files_kept;
    carried = subst (λ (history : List Event). FilesCarry header files files history) (sym none) (carried files);
  },
)
