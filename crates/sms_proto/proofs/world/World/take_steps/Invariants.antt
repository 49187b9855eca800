use Rattle.std.proofs.Common.{◌≡◌, take}
use Rattle.sms_proto.specs.Steps.{TakesSteps}
use Rattle.sms_proto.proofs.world.World.take_steps.Given as goal

abbrev pub invariant-loop-step : goal.invariant-loop-step
invariant-loop-step l =
    record {
      same_size : l.self.size ≡ l.fn.self.size;
      same_hosts : l.self.hosts ≡ l.fn.self.hosts;
      runs : TakesSteps l.fn.self.size (take l.step-index l.steps) l.fn.self.events l.self.events;
    }
