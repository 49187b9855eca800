use Rattle.vm_outside.specs.Causes.{sum_count}
use Rattle.vm_top.specs.Run.{outside_of}
use Rattle.vm_top.proofs.run.run_script.Given as goal

abbrev pub ghost-run_all : goal.ghost-run_all
ghost-run_all g a = record {
  script = a.script.now;
  outside = outside_of (g.F.Backing.area a.files.now.inner) (g.P.Backing.area a.paging.now.inner) a.script.now.header;
  start = g.K.Sink.written a.out.now;
  files = a.files.now;
  paging = a.paging.now;
  faults = record {
    files = sum_count (g.F.Backing.faults a.files.now.inner) a.files.now.reached;
    paging = sum_count (g.P.Backing.faults a.paging.now.inner) a.paging.now.reached;
  };
}
