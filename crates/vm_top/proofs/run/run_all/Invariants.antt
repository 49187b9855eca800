use Rattle.std.proofs.Common.{◌≡◌, ◌≤◌}
use Rattle.vm_model.specs.Summary.{count_of, is_line}
use Rattle.vm_outside.specs.Causes.{sum_count}
use Rattle.vm_system.specs.Backed.{BackingsFit}
use Rattle.vm_system.specs.Stands.{SystemStands}
use Rattle.vm_top.specs.Running.{IsBetweenCommands}
use Rattle.vm_top.proofs.run.run_all.Given as goal

abbrev pub ghost-run_one : goal.ghost-run_one
ghost-run_one g a = g.given

abbrev pub invariant-commands : goal.invariant-commands
invariant-commands g l = record {
  stands : SystemStands g.given.script.header g.given.outside l.system;
  backings : BackingsFit g.given.script.header g.given.outside (g.F.Backing.area g.given.files.inner) (g.F.Backing.area l.files.inner)
      (g.P.Backing.area l.paging.inner) l.system;
  runs : IsBetweenCommands l.report g.given l.system.history.items (g.K.Sink.written l.out) l.files l.paging
      (record {
        files = sum_count (g.F.Backing.faults l.files.inner) l.files.reached;
        paging = sum_count (g.P.Backing.faults l.paging.inner) l.paging.reached;
      });
  lines : count_of is_line l.system.history.items ≡ l.i;
  later : g.K.Sink.faults l.fn.out ≤ g.K.Sink.faults l.out;
}
