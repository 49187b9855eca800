use Rattle.vm_abroad.proofs.Whose.{own_of_home}
use Rattle.vm_abroad.proofs.events_have_one_home.Goals as goal

pub returns-clause-one : goal.returns-clause-one
returns-clause-one c = own_of_home
