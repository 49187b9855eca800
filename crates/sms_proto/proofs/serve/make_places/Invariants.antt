use Rattle.std.proofs.Common.{◌≡◌, ◌<◌, ◌≤◌, ◌+◌, ℕ, List, length, Some}
use Rattle.std.specs.Prelude.{slice_get}
use Rattle.std.specs.VecDeque.{deque_len, deque_capacity}
use Rattle.vm_model.specs.declared.event.Event.{Event}
use Rattle.sms_proto.specs.declared.kernel.Kernel.{Kernel}
use Rattle.sms_proto.specs.Worlds.{StandsAt}
use Rattle.sms_proto.proofs.serve.make_places.Given as goal

abbrev pub invariant-loop-g : goal.invariant-loop-g
invariant-loop-g l =
    record {
      same : length l.kernels.items ≡ length l.fn.kernels.items;
      each : (size : ℕ) (history : List Event) → ((g : ℕ) → StandsAt size g history (slice_get l.fn.kernels.items g)) → (g : ℕ)
          → StandsAt size g history (slice_get l.kernels.items g);
      places : (g : ℕ) (k : Kernel) → g < l.g → slice_get l.kernels.items g ≡ Some k → deque_len k.down + l.count ≤ deque_capacity k.down;
    }
