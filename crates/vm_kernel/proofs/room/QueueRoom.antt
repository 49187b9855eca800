-- Room to serve a queue: none is wanted where nobody stands in it.
use Rattle.vm_kernel.proofs.Common.{Bool, Parts, arith, false, if◌then◌else◌, nat_tests, refl, subst, sym, true, ℕ, ◌+◌, ◌<◌, ◌≡◌, ◌≤◌}
use Rattle.std.specs.Prelude.{nat_lt}
use Rattle.vm_kernel.specs.Rooms.{HasRoom, MayServe, dues, has_queue, own_dues}
use Rattle.vm_waits.specs.Waits.{queued}

-- nobody stands in it
none_stand : (n : ℕ) → nat_lt 0 n ≡ false → n ≡ 0
none_stand n is = grind (arith, nat_tests, is)

-- so it is served with the room that there is, and leaves some
pub serves_on : {P : Type 0} (more : ℕ) (k : Parts) (room left : ℕ) → MayServe more k room
    → (HasRoom (more + 2) k room → 0 < k.memory.buffers.count → P × (more ≤ left))
    → (queued k.waits.rows ≡ 0 → P × (left ≡ room)) → P × (more ≤ left)
serves_on {P = P} more k room left may some none = by_queue (has_queue k) refl
  where
    by_queue : (b : Bool) → has_queue k ≡ b → P × (more ≤ left)
    by_queue true is =
        let can = may.tables is in
        let fits : dues k + 2 + more ≤ room = subst (λ (z : Bool). (if z then dues k + 2 else 0) + more ≤ room) is may.log in
        some (record { log = omega (arith, fits); rows = can.rows; shadows = can.shadows; objects = can.objects }) can.buffers
    by_queue false is =
        let idle = none (none_stand (queued k.waits.rows) is) in
        let fits : 0 + more ≤ room = subst (λ (z : Bool). (if z then dues k + 2 else 0) + more ≤ room) is may.log in
        (idle.0, let same = idle.1 in omega (arith, fits, same))

-- and little is told
pub serves_few : (k : Parts) (before after : ℕ) → after ≤ before + dues k + 2 → (queued k.waits.rows ≡ 0 → after ≡ before) → after ≤ before + own_dues k
serves_few k before after few none = by_queue (has_queue k) refl
  where
    by_queue : (b : Bool) → has_queue k ≡ b → after ≤ before + own_dues k
    by_queue true is = subst (λ (z : Bool). after ≤ before + (if z then dues k + 2 else 0)) (sym is) (omega (arith, few))
    by_queue false is =
        let same = none (none_stand (queued k.waits.rows) is) in
        subst (λ (z : Bool). after ≤ before + (if z then dues k + 2 else 0)) (sym is) (omega (arith, same))
