-- Steps at whose end no host has anything to do.
use Rattle.std.proofs.Common.{ℕ, zero, suc, refl, List, [], ◌++◌, length}
use Rattle.vm_model.specs.declared.event.Event.{Event}
use Rattle.vm_model.specs.declared.script.Header.{Header}
use Rattle.vm_legal.specs.Homes.{IsOnlyOfHost}
use Rattle.vm_legal.specs.Serving.{BeginsStep, HostsServed, IsStepOf, ServeInTurn}
use Rattle.vm_legal.specs.Serving.ServeInTurn.{NextServes, NoneServed}
use Rattle.vm_legal.specs.Stretches.{AllInner, EachIn}

none_serves : (header : Header) (past : List Event) (n : ℕ) → ServeInTurn header past n []
none_serves header past zero = NoneServed
none_serves header past (suc n) = NextServes n [] [] (none_serves header past n) tt

-- all that was done was of one host, or nobody's
pub one_served : (header : Header) (host : ℕ) (events past : List Event) → BeginsStep past → IsStepOf header host past → AllInner events
    → EachIn (IsOnlyOfHost header host) events past → HostsServed header (events ++ past)
one_served header host events past begins acts inner own = record {
  before = past;
  events = events;
  is = refl;
  begins = begins;
  inner = inner;
  host = host;
  acts = acts;
  turns = record { front = events; served = []; is = refl; own = own; turns = none_serves header (events ++ past) (length header.frames.items) };
}
