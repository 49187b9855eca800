-- A write that failed before it reached anything.
use Rattle.std.proofs.Common.{ℕ, List, Option, Some, None, Err, arith, refl}
use Rattle.vm_base.specs.declared.failure.WriteStop.TheVariants as stop
use Rattle.vm_outside.specs.Areas.{Told, AfterFault, WriteTold}

pub untouched : (was : Option (List ℕ)) (at n : ℕ) → AfterFault was at n was
untouched None at n = refl
untouched (Some bytes) at n = record { least = omega arith; most = grind arith; outside = λ i far. refl }

-- it may have changed nothing
pub write_untouched : (area : List ℕ → Told) (name : List ℕ) (at : ℕ) (bytes : List ℕ) → WriteTold area area name at bytes (Err stop.Failed)
write_untouched area name at bytes = record {
  others = λ other was differs told. told;
  written = λ was told. tt;
  failed = λ was told failed. (was, told, untouched was at _);
  same = λ other. absurd (let e = other in cc);
}
