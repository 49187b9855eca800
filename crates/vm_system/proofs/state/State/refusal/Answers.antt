use Rattle.vm_system.proofs.Common.{sym, ◌∙◌}
use Rattle.vm_system.proofs.Empty.{take_code}
use Rattle.vm_system.proofs.state.State.refusal.Goals as goal

pub returns-in-Take : goal.returns-in-Take
returns-in-Take g c =
    let s = c.args.self.now in
    rw c.in-Take.is (c.take_refusal.ensures ∙ sym (take_code g.given.header s s.history.items c.in-Take.channel c.requires.0.agrees.posts))

pub returns-in-Say : goal.returns-in-Say
returns-in-Say g c = rw c.in-Say.is (c.say_refusal.ensures c.in-Say.message)

pub returns-in-Cache : goal.returns-in-Cache
returns-in-Cache g c = rw c.in-Cache.is (c.cache_refusal.ensures c.in-Cache.cache)
