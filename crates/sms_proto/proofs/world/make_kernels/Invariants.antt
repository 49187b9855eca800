use Rattle.std.proofs.Common.{◌≡◌, ℕ, [], length}
use Rattle.std.specs.Prelude.{slice_get}
use Rattle.sms_proto.specs.Worlds.{StandsAt}
use Rattle.sms_proto.proofs.world.make_kernels.Given as goal

abbrev pub invariant-loop-host : goal.invariant-loop-host
invariant-loop-host l =
    record {
      each : (g : ℕ) → StandsAt l.size g [] (slice_get l.kernels.items g);
      count : length l.kernels.items ≡ l.host;
    }
