-- A supply that a kernel takes.
use Rattle.std.proofs.Common.{◌≡◌, ◌≤◌, ℕ, List, [], ◌∷◌, Bool, true, false, Some, length, arith, refl}
use Rattle.vm_model.specs.Side.{right_of, supplied}
use Rattle.vm_model.specs.Server.{first}
use Rattle.sms_proto.specs.declared.letter.Order.{Order}
use Rattle.sms_proto.specs.declared.letter.Order.TheVariants as order
use Rattle.sms_proto.specs.Letters.{supply_lock}
use Rattle.sms_proto.specs.Kernels.{Each, IsWholeOrder, lock_with}

pub supply_locks : (writes : Bool) → lock_with (right_of (supply_lock writes)) ≡ supply_lock writes
supply_locks true = refl
supply_locks false = refl

pub supply_bounded : (writes : Bool) → right_of (supply_lock writes) ≤ 2
supply_bounded true = omega arith
supply_bounded false = omega arith

pub supplied_not : (right lock : ℕ) (asked : Bool) → asked ≡ false → supplied right asked lock ≡ right
supplied_not right lock true is = absurd (cc)
supplied_not right lock false is = refl

pub supplied_yes : (right lock : ℕ) (asked : Bool) → asked ≡ true → supplied right asked lock ≡ right_of lock
supplied_yes right lock true is = refl
supplied_yes right lock false is = absurd (cc)

pub first_whole : (size : ℕ) (items : List Order) (writes : Bool) (bytes : List ℕ) → first items ≡ Some (order.Supply writes bytes)
    → Each (IsWholeOrder size) items → length bytes ≡ size
first_whole size [] writes bytes is each = absurd (cc)
first_whole size (o ∷ os) writes bytes is each = grind (arith, each.0)
