use Rattle.std.proofs.Common.{Some, refl, subst, sym, ◌<◌}
use Rattle.vm_model.specs.declared.event.Device.TheVariants as device
use Rattle.vm_outside.specs.Causes.{sum_count}
use Rattle.vm_system.specs.Keeping.{FilesCarry, PagingKeepsPages}
use Rattle.vm_system.specs.Steps.{IsBelowLimit}
use Rattle.vm_top.specs.Always.{BackingKept}
use Rattle.vm_top.specs.Run.{RanAs, outside_of}
use Rattle.vm_top.specs.Running.{Running}
use Rattle.vm_top.proofs.Arms.{kept_by, none_counted}
use Rattle.vm_top.proofs.Keeping.{all_told, files_none, files_told, kept_none, kept_pages, pager_of}
use Rattle.vm_top.proofs.Turns.{nothing_ran, start_left, start_runs}
use Rattle.vm_top.proofs.run.run_script.Goals as goal

pub run_all-end-requires : goal.run_all-end-requires
run_all-end-requires g c = λ lifetimes held.
    let files = g.F.Backing.area c.args.files.now.inner in
    let areas = g.P.Backing.area c.args.paging.now.inner in
    let header = c.args.script.now.header in
    let outside = outside_of files areas header in
    let system = c.in-Ok.system in
    let given : Running g.row.F.Denot g.row.P.Denot = record {
      script = c.args.script.now;
      outside = outside;
      start = g.K.Sink.written c.args.out.now;
      files = c.args.files.now;
      paging = c.args.paging.now;
      faults = record {
        files = sum_count (g.F.Backing.faults c.args.files.now.inner) c.args.files.now.reached;
        paging = sum_count (g.P.Backing.faults c.args.paging.now.inner) c.args.paging.now.reached;
      };
    } in
    let stands = c.in-Ok.ensures.stands outside in
    let kept = c.in-Ok.ensures.kept outside areas (all_told header files areas system.pagers.items c.in-Ok.ensures.pagers) in
    let files_kept = c.in-Ok.ensures.files outside files (files_told header files areas) in
    let carried = files_none header files system.history.items c.in-Ok.ensures.nothing in
    let runs = start_runs c.args.report given system.history.items c.in-Ok.ensures.nothing c.requires.files c.requires.paging in (
      held.0,
      (
        held.1.0,
        (
          held.1.1,
          (
            refl,
            (
              c.requires.run,
              (stands, (record { kept = kept; files_kept = files_kept; carried = carried }, (runs, c.in-Ok.ensures.nothing))),
            ),
          ),
        ),
      ),
    )

pub returns-clause-ran : goal.returns-clause-ran
returns-clause-ran g c =
    let outside = outside_of (g.F.Backing.area c.args.files.now.inner) (g.P.Backing.area c.args.paging.now.inner) c.args.script.now.header in
    subst (λ z. RanAs c.args.report c.args.script.now outside z.items c.run_all-end.result (g.K.Sink.written c.args.out.now)
    (g.K.Sink.written c.run_all-end.new.out)) (sym c.into_history.ensures) c.run_all-end.ensures.stops.ran

pub returns-clause-limit : goal.returns-clause-limit
returns-clause-limit g c = subst (λ z. IsBelowLimit z.items) (sym c.into_history.ensures) c.run_all-end.ensures.stops.below

pub returns-clause-later : goal.returns-clause-later
returns-clause-later g c = c.run_all-end.ensures.later

pub returns-clause-cause : goal.returns-clause-cause
returns-clause-cause g c = c.run_all-end.ensures.cause

pub returns-clause-kept : goal.returns-clause-kept
returns-clause-kept g c = λ host below.
    let areas = g.P.Backing.area c.run_all-end.new.paging.inner in
    let outside = outside_of (g.F.Backing.area c.args.files.now.inner) (g.P.Backing.area c.args.paging.now.inner) c.args.script.now.header in
    let kept = c.run_all-end.ensures.backings.kept in
    let pager = pager_of c.run_all-end.new.system.pagers.items host (subst (λ z. host < z) (sym kept.pagers.numbered.count) below) in
    subst (λ z. PagingKeepsPages c.args.script.now.header host outside areas z.items) (sym c.into_history.ensures)
    (kept_pages c.args.script.now.header host outside areas c.run_all-end.new.system pager.0 pager.1 kept)

pub returns-clause-carried : goal.returns-clause-carried
returns-clause-carried g c =
    subst (λ z. FilesCarry c.args.script.now.header (g.F.Backing.area c.args.files.now.inner) (g.F.Backing.area c.run_all-end.new.files.inner) z.items)
    (sym c.into_history.ensures) c.run_all-end.ensures.backings.carried

pub returns-clause-files : goal.returns-clause-files
returns-clause-files g c =
    let own = g.F.Backing.faults c.args.files.now.inner in
    let now = g.F.Backing.faults c.run_all-end.new.files.inner in
    let stops = c.run_all-end.ensures.stops in
    subst
    (λ z.
    BackingKept device.Files (Some c.args.script.now) z.items c.args.files.now c.run_all-end.new.files
    (record { old = sum_count own c.args.files.now.reached; new = sum_count now c.run_all-end.new.files.reached; own_old = own; own_new = now }))
    (sym c.into_history.ensures)
    (kept_by device.Files c.args.script.now c.run_all-end.new.system.history.items c.args.files.now c.run_all-end.new.files own now stops.arms.files.left
    (stops.failed device.Files))

pub returns-clause-paging : goal.returns-clause-paging
returns-clause-paging g c =
    let own = g.P.Backing.faults c.args.paging.now.inner in
    let now = g.P.Backing.faults c.run_all-end.new.paging.inner in
    let stops = c.run_all-end.ensures.stops in
    subst
    (λ z.
    BackingKept device.Paging (Some c.args.script.now) z.items c.args.paging.now c.run_all-end.new.paging
    (record { old = sum_count own c.args.paging.now.reached; new = sum_count now c.run_all-end.new.paging.reached; own_old = own; own_new = now }))
    (sym c.into_history.ensures)
    (kept_by device.Paging c.args.script.now c.run_all-end.new.system.history.items c.args.paging.now c.run_all-end.new.paging own now stops.arms.paging.left
    (stops.failed device.Paging))

pub returns-in_default-clause-ran : goal.returns-in_default-clause-ran
returns-in_default-clause-ran g c =
    nothing_ran c.args.report c.args.script.now (outside_of (g.F.Backing.area c.args.files.now.inner) (g.P.Backing.area c.args.paging.now.inner)
    c.args.script.now.header) c.new-in_default.result.items (g.K.Sink.written c.args.out.now) c.new-in_default.ensures

pub returns-in_default-clause-kept : goal.returns-in_default-clause-kept
returns-in_default-clause-kept g c =
    kept_none c.args.script.now.header (g.F.Backing.area c.args.files.now.inner) (g.P.Backing.area c.args.paging.now.inner) c.new-in_default.result.items
    c.new-in_default.ensures

pub returns-in_default-clause-carried : goal.returns-in_default-clause-carried
returns-in_default-clause-carried g c =
    files_none c.args.script.now.header (g.F.Backing.area c.args.files.now.inner) c.new-in_default.result.items c.new-in_default.ensures

pub returns-in_default-clause-files : goal.returns-in_default-clause-files
returns-in_default-clause-files g c =
    let h = c.new-in_default.result.items in
    let own = g.F.Backing.faults c.args.files.now.inner in
    kept_by device.Files c.args.script.now h c.args.files.now c.args.files.now own own
    (start_left c.args.script.now device.Files c.args.files.now h c.new-in_default.ensures c.requires.files)
    (none_counted device.Files (sum_count own c.args.files.now.reached) h c.new-in_default.ensures)

pub returns-in_default-clause-paging : goal.returns-in_default-clause-paging
returns-in_default-clause-paging g c =
    let h = c.new-in_default.result.items in
    let own = g.P.Backing.faults c.args.paging.now.inner in
    kept_by device.Paging c.args.script.now h c.args.paging.now c.args.paging.now own own
    (start_left c.args.script.now device.Paging c.args.paging.now h c.new-in_default.ensures c.requires.paging)
    (none_counted device.Paging (sum_count own c.args.paging.now.reached) h c.new-in_default.ensures)
