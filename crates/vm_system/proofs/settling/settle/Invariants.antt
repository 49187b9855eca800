use Rattle.vm_system.proofs.Common.{ArmedLater, BackingWent, BackingsFit, GrowsWithinLimit, List, Prompt, StaysOpen, SystemStands, Told, sum_count, takings, ℕ}
use Rattle.vm_system.proofs.Common.{◌+◌, ◌≡◌}
use Rattle.vm_model.specs.declared.event.Device.TheVariants as device
use Rattle.vm_system.proofs.settling.settle.Given as goal

abbrev pub invariant-all : goal.invariant-all
invariant-all g l = record {
  stands : SystemStands g.given.header g.given.outside l.system;
  backings : (start : List ℕ → Told) → BackingsFit g.given.header g.given.outside start (g.F.Backing.area l.fn.files.inner) (g.P.Backing.area l.fn.paging.inner)
      l.fn.system
      → BackingsFit g.given.header g.given.outside start (g.F.Backing.area l.files.inner) (g.P.Backing.area l.paging.inner) l.system;
  legal : StaysOpen g.given.header g.given.outside g.given.command l.fn.system.history.items l.system.history.items;
  prompt : Prompt g.given.header l.fn.system.history.items → Prompt g.given.header l.system.history.items;
  count : takings l.system.history.items ≡ takings l.fn.system.history.items + l.taken;
  grew : GrowsWithinLimit l.fn.system.history.items l.system.history.items;
  files_went : BackingWent device.Files (g.F.Backing.later l.fn.files.inner l.files.inner
      × ArmedLater l.fn.files.left l.fn.files.reached l.files.left l.files.reached) (sum_count (g.F.Backing.faults l.fn.files.inner) l.fn.files.reached)
      (sum_count (g.F.Backing.faults l.files.inner) l.files.reached) l.fn.system.history.items l.system.history.items;
  paging_went : BackingWent device.Paging (g.P.Backing.later l.fn.paging.inner l.paging.inner
      × ArmedLater l.fn.paging.left l.fn.paging.reached l.paging.left l.paging.reached) (sum_count (g.P.Backing.faults l.fn.paging.inner) l.fn.paging.reached)
      (sum_count (g.P.Backing.faults l.paging.inner) l.paging.reached) l.fn.system.history.items l.system.history.items;
}

abbrev pub ghost-take_oldest : goal.ghost-take_oldest
ghost-take_oldest g a = record { header = g.given.header; outside = g.given.outside; command = g.given.command; past = a.self.now.history.items }
