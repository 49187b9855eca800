use Rattle.vm_system.proofs.Starting.{FilesAreMade}
use Rattle.vm_system.proofs.system.make_files.Given as goal

abbrev pub invariant-objects : goal.invariant-objects
invariant-objects l = FilesAreMade l.header l.object l.files.items
