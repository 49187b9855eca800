use Rattle.vm_abroad.proofs.Heads.{entered, none_open}
use Rattle.vm_abroad.proofs.regions_are_used_on_one_host.Goals as goal

pub returns-clause-entered : goal.returns-clause-entered
returns-clause-entered c = entered

pub returns-clause-shut : goal.returns-clause-shut
returns-clause-shut c = none_open
