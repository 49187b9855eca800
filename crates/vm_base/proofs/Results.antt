-- What holds where a call was Ok.
use Rattle.std.proofs.Common.{◌≡◌, Result, Ok, Err}
use Rattle.std.specs.Prelude.{IsOk, OnOk, is_ok, if◌then◌else◌}

-- what a call that was Ok left
pub pushed : {A E X : Type 0} (result : Result A E) (new more same : X) → new ≡ (if is_ok result then more else same) → IsOk result → new ≡ more
pushed result new more same is ok = rw ok at is

-- what holds where a call was Ok holds behind one that was
pub on_ok : {A E : Type 0} (result : Result A E) (P : Type 0) → OnOk result P → IsOk result → P
on_ok (Ok done) P told ok = told
on_ok (Err stop) P told ok = absurd (cc)
