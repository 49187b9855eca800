use Rattle.vm_kernel.proofs.room.RoomForRun.{freed_few, waits_room}
use Rattle.vm_kernel.proofs.Common.{Still, false, length, refl, true, ◌≡◌}
use Rattle.std.specs.Prelude.{◌++◌}
use Rattle.vm_kernel.proofs.memory.PageReclaimed.{full_after}
use Rattle.vm_kernel.proofs.parts.Parts.stops.Goals as goal

pub returns-in-Returned : goal.returns-in-Returned
returns-in-Returned g c =
    let all = c.in_ok-reclaim.ensures in
    record {
      rests = all.rests;
      goes = all.goes;
      waits = all.reclaimed.waits;
      plays = all.plays;
      reclaims = all.reclaims;
      freed = λ bad. absurd (let clash : true ≡ false = bad in cc);
      full = λ same.
          full_after g.given.header g.given.host c.args.self.now c.reclaim.new.self c.args.ids.now c.args.source c.in_ok-reclaim.field-0
          (c.args.log.now.items ++ g.given.past) (c.reclaim.new.log.items ++ g.given.past) all.rests c.requires.1.1.0 c.requires.1.1.1.0 all.reclaimed
          c.in-Returned.is;
      spared = all.spared;
      few = λ bad. absurd (let clash : true ≡ false = bad in cc);
      two = all.few;
      room =
          λ more had. (
            refl,
            record {
              on = λ bad. absurd (let clash : true ≡ false = bad in cc);
              off = λ same. waits_room c.in_ok-reclaim.field-0 had all.leaves;
            },
          );
    }

pub returns-then-not-is_empty-clause-plays : goal.returns-then-not-is_empty-clause-plays
returns-then-not-is_empty-clause-plays g c = Still

pub returns-in-Freed-clause-few : goal.returns-in-Freed-clause-few
returns-in-Freed-clause-few g c = λ same.
    let all = c.in_ok-reclaim.ensures in
    freed_few (length c.args.log.now.items) (length c.reclaim.new.log.items) c.requires.1.1.0 (rw c.in-Freed.is at all.leaves) all.reclaimed.waits
    (all.single c.in-Freed.is)
