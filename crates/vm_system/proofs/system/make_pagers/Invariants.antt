use Rattle.vm_system.proofs.Starting.{AreMade}
use Rattle.vm_system.proofs.system.make_pagers.Given as goal

abbrev pub invariant-hosts : goal.invariant-hosts
invariant-hosts l = AreMade l.header l.host l.pagers.items
