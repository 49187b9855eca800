-- A value that is there and isn't.
use Rattle.std.proofs.Common.{◌≡◌, ◌∙◌, sym, Option, Some, None}

pub none_of : {A B : Type 0} (x : Option A) (y : A) → x ≡ None → x ≡ Some y → B
none_of x y none some = absurd (let bad : None ≡ Some y = sym none ∙ some in cc)
