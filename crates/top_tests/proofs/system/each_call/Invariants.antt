use Rattle.std.specs.Prelude.{false}
use Rattle.vm_legal.specs.Outside.{Untold}
use Rattle.top_tests.proofs.system.each_call.Given as goal

abbrev pub ghost-settle_all : goal.ghost-settle_all
ghost-settle_all g a = record { header = a.header.now; outside = record { files = Untold; paging = false } }
