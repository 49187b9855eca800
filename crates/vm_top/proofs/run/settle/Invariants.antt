use Rattle.std.proofs.Common.{◌≡◌, ◌≤◌}
use Rattle.vm_legal.specs.Steps.{takings}
use Rattle.vm_model.specs.Summary.{count_of, is_line}
use Rattle.vm_outside.specs.Causes.{sum_count}
use Rattle.vm_system.specs.Backed.{BackingsFit}
use Rattle.vm_system.specs.Stands.{SystemStands}
use Rattle.vm_top.specs.Running.{Settles}
use Rattle.vm_top.proofs.run.settle.Given as goal

abbrev pub ghost-take_one : goal.ghost-take_one
ghost-take_one g a = g.given

abbrev pub invariant-all : goal.invariant-all
invariant-all g l = record {
  stands : SystemStands g.given.running.script.header g.given.running.outside l.system;
  backings : BackingsFit g.given.running.script.header g.given.running.outside (g.F.Backing.area g.given.running.files.inner) (g.F.Backing.area l.files.inner)
      (g.P.Backing.area l.paging.inner) l.system;
  settles : Settles l.report g.given l.system.history.items (g.K.Sink.written l.out) l.files l.paging
      (record {
        files = sum_count (g.F.Backing.faults l.files.inner) l.files.reached;
        paging = sum_count (g.P.Backing.faults l.paging.inner) l.paging.reached;
      });
  taken : takings l.system.history.items ≡ l._taken;
  lines : count_of is_line l.system.history.items ≡ count_of is_line l.fn.system.history.items;
  later : g.K.Sink.faults l.fn.out ≤ g.K.Sink.faults l.out;
}
