use Rattle.std.proofs.Common.{◌≡◌, false, true, refl}
use Rattle.vm_fault.specs.Faults.{ToAsk}
use Rattle.vm_fault.proofs.Ends.{is_ready}
use Rattle.vm_fault.proofs.going.may_come.Goals as goal

pub returns-then-not-has_frame-clause-goes : goal.returns-then-not-has_frame-clause-goes
returns-then-not-has_frame-clause-goes c =
    let ready = is_ready c.args.object.state c.requires.told (λ e. (let bad : false ≡ true = rw e at c.if-eq.ensures in cc)) in
    λ chains copies comes ids. (
      ToAsk c.args.steps c.args.key c.args.object comes ready,
      c.if-not-has_frame.ensures.none refl,
      record { parts = refl; copies = refl; told = refl },
    )
