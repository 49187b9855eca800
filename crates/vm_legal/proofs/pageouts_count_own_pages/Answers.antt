use Rattle.vm_legal.proofs.Pageouts.{of_another}
use Rattle.vm_legal.proofs.pageouts_count_own_pages.Goals as goal

pub returns : goal.returns
returns c = of_another
