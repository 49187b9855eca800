use Rattle.std.proofs.Common.{◌<◌, ◌∙◌, ℕ, List, length, sym, subst, arith, take, get_or}
use Rattle.sms_proto.specs.declared.step.WorldStep.{WorldStep}
use Rattle.sms_proto.specs.declared.step.WorldStep.TheVariants.{Load}
use Rattle.sms_proto.specs.Steps.{Takes, TakesSteps}
use Rattle.sms_proto.specs.World.{step_host}
use Rattle.sms_proto.proofs.Running.{runs_end, within_index, take_one_more}
use Rattle.sms_proto.proofs.world.World.take_steps.Goals as goal

pub step-requires : goal.step-requires
step-requires c =
    let lt : c.loop-step.step-index < length c.args.steps.now = omega (arith, c.loop-step-test.true) in
    subst (λ (h : ℕ). (step_host (get_or c.args.steps.now c.loop-step.step-index (Load (record { 0 = 0 })))).0 < h) (sym c.loop-step.invariant.same_hosts)
    (within_index c.args.self.now.hosts c.args.steps.now c.loop-step.step-index (Load (record { 0 = 0 })) c.requires lt)

pub loop-step-preserved : goal.loop-step-preserved
loop-step-preserved c =
    let lt : c.loop-step.step-index < length c.args.steps.now = omega (arith, c.loop-step-test.true) in
    record {
      same_size = c.step.ensures.same.0 ∙ c.loop-step.invariant.same_size;
      same_hosts = c.step.ensures.same.1 ∙ c.loop-step.invariant.same_hosts;
      runs =
          subst (λ (ss : List WorldStep). TakesSteps c.args.self.now.size ss c.args.self.now.events c.step.new.self.events)
          (sym (take_one_more c.args.steps.now c.loop-step.step-index (Load (record { 0 = 0 })) lt))
          (runs_end c.args.self.now.size (take c.loop-step.step-index c.args.steps.now)
          (get_or c.args.steps.now c.loop-step.step-index (Load (record { 0 = 0 }))) c.args.self.now.events c.loop-step.self.events c.step.new.self.events
          c.loop-step.invariant.runs (subst (λ (n : ℕ). Takes n (get_or c.args.steps.now c.loop-step.step-index (Load (record { 0 = 0 })))
          c.loop-step.self.events c.step.new.self.events) c.loop-step.invariant.same_size c.in_ok-step.ensures.takes));
    }
