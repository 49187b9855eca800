-- What is said of a value that was found.
use Rattle.std.proofs.Common.{◌≡◌, Option, Some, inl, inr, refl}
use Rattle.std.specs.Prelude.{◌≢◌, ◌⊎◌, IsSome}
use Rattle.vm_base.specs.declared.ids.ObjectKind.{ObjectKind}
use Rattle.vm_base.specs.declared.ids.ObjectKind.TheVariants as kind

pub found_some : {A : Type 0} (o : Option A) (x : A) → o ≡ Some x → IsSome o
found_some o x is = rw is refl

-- an object is temporary or not
pub temporary : (k : ObjectKind) → (k ≡ kind.Temp) ⊎ (k ≢ kind.Temp)
temporary kind.Temp = inl refl
temporary kind.File = inr (λ is. cc)
temporary kind.Shared = inr (λ is. cc)
temporary kind.Wild = inr (λ is. cc)
