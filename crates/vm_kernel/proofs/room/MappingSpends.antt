-- What mapping a declared object spends: holding its region, and opening its pager.
use Rattle.vm_kernel.proofs.Common.{Event, IfSome, IsSome, List, None, ObjectId, ObjectRow, Option, Parts, Some, ap, arith, false, length}
use Rattle.vm_kernel.proofs.Common.{nat_tests, refl, true, ◌+◌, ◌-◌, ◌<◌, ◌^◌, ◌∙◌, ◌≡◌, ◌≤◌}
use Rattle.std.proofs.Common.{nat_lt}
use Rattle.std.specs.Prelude.{Bool, ◌||◌}
use Rattle.vm_kernel.specs.Mapping.{Again, Begins, First, Holds, IsOpen, Opens, can_open, referred}
use Rattle.vm_kernel.specs.Rooms.{frames_for_copies}
use Rattle.vm_model.specs.declared.script.Declared.{Declared}
use Rattle.vm_objects.specs.Objects.{object_at}
use Rattle.vm_state.proofs.Knowing.{known_put}

-- the waiting accesses, the frames and the rows for pages are as many, and the events a few more
pub record SameHeld (old new : Parts) : Type 0 where
  pub waits : length new.waits.rows ≡ length old.waits.rows
  pub frames : frames_for_copies new ≡ frames_for_copies old
  pub rows : new.memory.resident.spare ≡ old.memory.resident.spare
  pub copies : new.copies.room ≡ old.copies.room
  pub buffers : new.memory.buffers ≡ old.memory.buffers

pub held_same : {object : ObjectId} {d : Declared} {old new : Parts} → Holds object d old new → SameHeld old new
held_same (Again region found put is) =
    record {
      waits = ap (λ (z : Parts). length z.waits.rows) is;
      frames = ap frames_for_copies is;
      rows = ap (λ (z : Parts). z.memory.resident.spare) is;
      copies = ap (λ (z : Parts). z.copies.room) is;
      buffers = ap (λ (z : Parts). z.memory.buffers) is;
    }
held_same (First free put known marks is) =
    record {
      waits = ap (λ (z : Parts). length z.waits.rows) is;
      frames = ap frames_for_copies is;
      rows = ap (λ (z : Parts). z.memory.resident.spare) is;
      copies = ap (λ (z : Parts). z.copies.room) is;
      buffers = ap (λ (z : Parts). z.memory.buffers) is;
    }

-- where a pager can be told of the object it can be behind that
pub held_opens : {object : ObjectId} {d : Declared} {old new : Parts} → Holds object d old new → can_open (object_at old.memory.objects object.0) ≡ true
    → can_open (object_at new.memory.objects object.0) ≡ true
held_opens {object} {d} {old} {new} (Again region found put is) can = ap (λ (z : Parts). can_open (object_at z.memory.objects object.0)) is ∙ can
held_opens {object} {d} {old} {new} (First free put known marks is) can =
    ap can_open (known_put object.0 (referred d (object_at old.memory.objects object.0)) old.memory.objects new.memory.objects known)
    ∙ once_more (object_at old.memory.objects object.0) can
  where
    once_more : (x : Option ObjectRow) → can_open x ≡ true → can_open (Some (referred d x)) ≡ true
    once_more None can = refl
    once_more (Some row) can = can

pub opens_if : (x : Option ObjectRow) → IfSome x (λ known. known.control < 2 ^ 32 - 3) → can_open x ≡ true
opens_if None few = refl
opens_if (Some known) few = by_live known.live
  where
    by_live : (b : Bool) → (b || nat_lt known.control (2 ^ 32 - 3)) ≡ true
    by_live true = refl
    by_live false = grind (arith, nat_tests)

-- opening tells one event at most
pub record OpensLittle (old new : Parts) (before after : List Event) : Type 0 where
  pub held : SameHeld old new
  pub shadows : new.chains.spare ≡ old.chains.spare
  pub marked : new.chains.marked ≡ old.chains.marked
  pub told : length after ≤ length before + 1

pub opens_little : (object : ObjectId) (x : Option ObjectRow) (old new : Parts) (before after : List Event) → IsSome x
    → IfSome x (λ known. Opens object known old new before after) → OpensLittle old new before after
opens_little object None old new before after there opens = absurd (let bad : false ≡ true = there in cc)
opens_little object (Some known) old new before after there opens = by opens
  where
    by : Opens object known old new before after → OpensLittle old new before after
    by (IsOpen live is told) = let none = ap length told in record {
      held =
          record {
            waits = ap (λ (z : Parts). length z.waits.rows) is;
            frames = ap frames_for_copies is;
            rows = ap (λ (z : Parts). z.memory.resident.spare) is;
            copies = ap (λ (z : Parts). z.copies.room) is;
            buffers = ap (λ (z : Parts). z.memory.buffers) is;
          };
      shadows = ap (λ (z : Parts). z.chains.spare) is;
      marked = ap (λ (z : Parts). z.chains.marked) is;
      told = omega (arith, none);
    }
    by (Begins ended put marks few is told) = let one = ap length told in record {
      held =
          record {
            waits = ap (λ (z : Parts). length z.waits.rows) is;
            frames = ap frames_for_copies is;
            rows = ap (λ (z : Parts). z.memory.resident.spare) is;
            copies = ap (λ (z : Parts). z.copies.room) is;
            buffers = ap (λ (z : Parts). z.memory.buffers) is;
          };
      shadows = ap (λ (z : Parts). z.chains.spare) is;
      marked = ap (λ (z : Parts). z.chains.marked) is;
      told = omega (arith, one);
    }
