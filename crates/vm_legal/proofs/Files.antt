-- Which objects are files.
use Rattle.std.proofs.Common.{ℕ, ◌≡◌, ◌<◌, ◌≤◌, ◌&&◌, Bool, true, false, Option, Some, None, if◌then◌else◌, refl, arith}
use Rattle.std.proofs.lemmas.Bool.Decides.{nat_tests}
use Rattle.std.specs.Prelude.{nat_lt}
use Rattle.vm_base.specs.declared.ids.ObjectKind.TheVariants.{Temp}
use Rattle.vm_model.specs.declared.script.Declared.{Declared}
use Rattle.vm_model.specs.declared.script.Header.{Header}
use Rattle.vm_model.specs.Named.{declared, named}
use Rattle.vm_legal.specs.Licences.{is_paged}
use Rattle.vm_legal.specs.Outside.{is_file, is_file_kept, is_file_kind, kind_in, kind_of}

-- no file is temporary
pub not_file : (header : Header) (o : ℕ) → named header ≤ o → is_file header o ≡ false
not_file header o above = grind (arith, nat_tests)

pub file_named : (header : Header) (o : ℕ) → is_file header o ≡ true → o < named header
file_named header o file = grind (arith, nat_tests)

-- it has a pager
pub file_paged : (header : Header) (o : ℕ) → is_file header o ≡ true → is_paged header o ≡ true
file_paged header o file = grind (arith, nat_tests)

-- it is of a file's kind
pub file_kind : (header : Header) (o : ℕ) → is_file_kind (kind_of header o) ≡ is_file header o
file_kind header o = by_number (nat_lt o (named header)) (declared header o)
  where
    by_number : (b : Bool) (x : Option Declared) → is_file_kind (if b then kind_in x else Temp) ≡ (b && is_file_kept x)
    by_number true None = refl
    by_number true (Some object) = refl
    by_number false x = refl
