-- What calls one behind the other spend, and that enough is left where there was enough.
use Rattle.vm_kernel.proofs.Common.{Bool, ChainTable, Err, Event, FrameTable, IfSome, None, Ok, Option, Parts, RegionRow, Result, Some, arith, false}
use Rattle.vm_kernel.proofs.Common.{frame_count, if◌then◌else◌, length, Mapped, refl, subst, sym, true, ℕ, ◌∷◌, ◌*◌, ◌+◌, ◌<◌, ◌≡◌, ◌≤◌}
use Rattle.std.specs.Prelude.{IsOk, OnErr}
use Rattle.vm_base.specs.Listing.{Listed}
use Rattle.vm_kernel.specs.Rooms.{IsRoomy, Spends, leaving}
use Rattle.vm_shadow.specs.declared.ids.Ids.{Ids}

module _ (old : Parts) (before : Listed Event) where
  pub spends_none : (n : ℕ) → Spends n 0 n old before old before
  spends_none n = record { told = omega arith; room = omega arith; rows = omega arith; shadows = omega arith; objects = omega arith; copies = omega arith }

  pub spends_nothing : (n m : ℕ) → Spends n m 0 old before old before
  spends_nothing n m = record { told = omega arith; room = omega arith; rows = omega arith; shadows = omega arith; objects = omega arith; copies = omega arith }

module _ (old mid new : Parts) (before between after : Listed Event) where
  -- two calls that make nothing
  pub spends_both : (a b c : ℕ) → Spends a 0 b old before mid between → Spends b 0 c mid between new after → Spends a 0 c old before new after
  spends_both a b c first next = record {
    told = omega (arith, first.told, next.told);
    room = omega (arith, first.room, next.room);
    rows = omega (arith, first.rows, next.rows);
    shadows = omega (arith, first.shadows, next.shadows);
    objects = omega (arith, first.objects, next.objects);
    copies = omega (arith, first.copies, next.copies);
  }

  -- one entry more of a fork
  pub spends_next : (i : ℕ) → Spends (1 + 4 * i) (1 + 4 * i) 0 old before mid between → Spends 4 4 0 mid between new after
      → Spends (1 + 4 * (i + 1)) (1 + 4 * (i + 1)) 0 old before new after
  spends_next i first next = record {
    told = omega (arith, first.told, next.told);
    room = omega (arith, first.room, next.room);
    rows = omega (arith, first.rows, next.rows);
    shadows = omega (arith, first.shadows, next.shadows);
    objects = omega (arith, first.objects, next.objects);
    copies = omega (arith, first.copies, next.copies);
  }

module _ (old new : Parts) (before after : Listed Event) where
  -- with so much more in hand so much more is left
  pub spends_more : (a m n : ℕ) → Spends a m 0 old before new after → Spends (a + n) m n old before new after
  spends_more a m n is = record {
    told = omega (arith, is.told);
    room = omega (arith, is.room);
    rows = is.rows;
    shadows = is.shadows;
    objects = is.objects;
    copies = is.copies;
  }

  -- less may be spent than was in hand
  pub spends_within : (a m b n : ℕ) → Spends a m b old before new after → Spends (a + n) (m + n) b old before new after
  spends_within a m b n is = record {
    told = omega (arith, is.told);
    room = omega (arith, is.room);
    rows = omega (arith, is.rows);
    shadows = omega (arith, is.shadows);
    objects = omega (arith, is.objects);
    copies = omega (arith, is.copies);
  }

  -- no more entries than there are
  pub spends_all : (i n : ℕ) → i ≤ n → Spends (1 + 4 * i) (1 + 4 * i) 0 old before new after → Spends (1 + 4 * n) (1 + 4 * n) 0 old before new after
  spends_all i n few is = record {
    told = omega (arith, is.told);
    room = omega (arith, is.room);
    rows = omega (arith, is.rows);
    shadows = omega (arith, is.shadows);
    objects = omega (arith, is.objects);
    copies = omega (arith, is.copies);
  }

  pub roomy_next : (i n : ℕ) → i < n → Spends (1 + 4 * i) (1 + 4 * i) 0 old before new after → IsRoomy (1 + 4 * n) (1 + 4 * n) old before.room
      → IsRoomy 4 4 new after.room
  roomy_next i n few is had = record {
    log = omega (arith, is.room, had.log);
    rows = omega (arith, is.rows, had.rows);
    shadows = omega (arith, is.shadows, had.shadows);
    objects = omega (arith, is.objects, had.objects);
    copies = omega (arith, is.copies, had.copies);
  }

-- what follows where a call that succeeds failed
pub never_err : {A B : Type 0} (r : Result A B) (P : Type 0) → IsOk r → OnErr r P
never_err (Ok x) P ok = tt
never_err (Err e) P ok = absurd (let bad : false ≡ true = ok in cc)

-- wiring leaves as many frames
pub wired_count : (old new : FrameTable) (wired : ℕ) (b : Bool) → new ≡ (if b then record old { wired = wired } else old) → frame_count new ≡ frame_count old
wired_count old new wired true is = subst (λ (z : FrameTable). frame_count z ≡ frame_count old) (sym is) refl
wired_count old new wired false is = subst (λ (z : FrameTable). frame_count z ≡ frame_count old) (sym is) refl

-- a copy marks two regions at most
pub marks_copied : (x : Option RegionRow) (row : RegionRow) (old new : ℕ) → x ≡ Some row → IfSome x (λ copied. new ≡ old + (if copied.marked then 1 else 2))
    → new ≤ old + 2
marks_copied None row old new found has = absurd (let bad : None ≡ Some row = found in cc)
marks_copied (Some copied) row old new found has = by_mark copied.marked has
  where
    by_mark : (b : Bool) → new ≡ old + (if b then 1 else 2) → new ≤ old + 2
    by_mark true is = omega arith
    by_mark false is = omega arith

-- a change of entries takes its event
pub removed_spends : (k : Parts) (ids : Ids) (maps : Mapped) (chains : ChainTable) (before after : Listed Event) (e : Event) → (chains.spare ≡ k.chains.spare)
    × (chains.marked ≡ k.chains.marked) → after.items ≡ e ∷ before.items → before.room ≤ after.room + 1
    → Spends (1 + leaving k ids) 0 (leaving k ids) k before (record k { maps = maps; chains = chains }) after
removed_spends k ids maps chains before after e same told room =
    let one : length after.items ≡ length before.items + 1 = rw told (omega arith) in
    let spare = same.0 in
    let marked = same.1 in
    record {
      told = omega (arith, one, marked);
      room = omega (arith, room, marked);
      rows = omega (arith, marked);
      shadows = omega (arith, spare, marked);
      objects = omega (arith, marked);
      copies = omega arith;
    }
