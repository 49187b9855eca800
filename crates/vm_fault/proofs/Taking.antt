-- What a run takes of the room.
use Rattle.std.proofs.Common.{ℕ, ◌≡◌, ◌+◌, ◌≤◌, List, Result, Ok, Err, sym, subst, arith}
use Rattle.std.specs.Prelude.{OnOk}
use Rattle.vm_copies.specs.Copies.{CopyTable}
use Rattle.vm_fault.specs.Faults.{FaultState, KeepsPlan}
use Rattle.vm_fault.specs.Rooms.{TakesPlaces, TakesRoom}
use Rattle.vm_model.specs.declared.event.Event.{Event}
use Rattle.vm_objects.specs.Objects.{ObjectTable}
use Rattle.vm_parts.specs.declared.parts.HostParts.{HostParts}

-- one run and then another
pub takes_then : (old mid new : FaultState) (before between after : ℕ) → TakesRoom old mid before between → TakesRoom mid new between after
    → TakesRoom old new before after
takes_then old mid new before between after first second = record {
  log = omega (arith, first.log, second.log);
  rows = omega (arith, first.rows, second.rows);
  shadows = omega (arith, first.shadows, second.shadows);
  objects = omega (arith, first.objects, second.objects);
}

-- a run behind which chains and numbers are as they were, and so are the objects
places_take : (mid : FaultState) (new : HostParts) (have : CopyTable) (after : List Event) (room rest : ℕ) → KeepsPlan mid.parts new
    → TakesPlaces mid.parts new mid.events after room rest → TakesRoom mid (record mid { parts = new; copies = have; events = after }) room rest
places_take mid new have after room rest plan takes = record {
  log = takes.log;
  rows = takes.rows;
  shadows = omega arith;
  objects = subst (λ (z : ObjectTable). mid.parts.objects.rows + mid.chains.marked ≤ z.rows + mid.chains.marked) (sym plan.objects) (omega arith);
}

-- what a run takes that first made room in the log, then prepared its region, and then went on
pub all_taken : {A E : Type 0} (result : Result A E) (old mid : FaultState) (told : List Event) (new : HostParts) (have : CopyTable)
    (after : List Event) (room roomier between rest : ℕ) → told ≡ old.events → room ≤ roomier
    → TakesRoom (record old { events = told }) mid roomier between → OnOk result (KeepsPlan mid.parts new)
    → OnOk result (TakesPlaces mid.parts new mid.events after between rest)
    → OnOk result (TakesRoom old (record mid { parts = new; copies = have; events = after }) room rest)
all_taken (Ok x) old mid told new have after room roomier between rest same more first plan takes =
    let start : TakesRoom old mid roomier between = subst (λ (z : List Event). TakesRoom (record old { events = z }) mid roomier between) same first in
    let begun : TakesRoom old mid room between = record {
      log = omega (arith, start.log, more);
      rows = start.rows;
      shadows = start.shadows;
      objects = start.objects;
    } in
    takes_then old mid (record mid { parts = new; copies = have; events = after }) room between rest begun
    (places_take mid new have after between rest plan takes)
all_taken (Err e) old mid told new have after room roomier between rest same more first plan takes = tt
