use Rattle.std.proofs.Common.{ap}
use Rattle.vm_outside.proofs.Untouched.{write_untouched}
use Rattle.vm_outside.proofs.armed.ArmedBacking.write.Goals as goal

pub returns-then-strikes-clause-told : goal.returns-then-strikes-clause-told
returns-then-strikes-clause-told g c =
    let within = ap (λ arming. arming.inner) c.self.view_is in
    rw within (write_untouched _ c.args.name.now c.args.at c.args.bytes.now)
