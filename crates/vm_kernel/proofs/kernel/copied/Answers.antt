use Rattle.vm_kernel.proofs.steps.BeforeAll.{copied_more}
use Rattle.vm_kernel.proofs.kernel.copied.Goals as goal

pub all-preserved : goal.all-preserved
all-preserved c =
    copied_more c.args.objects.now.items c.all.declared.items c.push.new.self.items c.all.i c.at.result.now c.at.ensures c.all.invariant c.in_ok-push.ensures.ok
