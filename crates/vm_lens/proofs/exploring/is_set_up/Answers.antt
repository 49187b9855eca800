use Rattle.vm_lens.proofs.Runs.{set_up_run}
use Rattle.vm_lens.proofs.exploring.is_set_up.Goals as goal

pub returns : goal.returns
returns c = λ is. set_up_run c.args.script.now c.args.setup c.args.ran.now.script c.args.ran.now.history.items c.requires.whole
    (λ run held. c.has_header.ensures run held c.if-not-has_header.false)
    (λ run held. c.has_commands.ensures run held is)
    (c.in_ok-nobody.ensures.0 c.if-not-nobody.false)
