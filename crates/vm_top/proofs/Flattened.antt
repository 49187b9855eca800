-- However a run ended, its history is legal as far as it goes; so the files hold the flat map.
use Rattle.std.proofs.Common.{ℕ, List, Some, Option}
use Rattle.vm_model.specs.declared.event.Event.{Event}
use Rattle.vm_model.specs.declared.script.Script.{Script}
use Rattle.vm_outside.specs.Areas.{Told}
use Rattle.vm_system.specs.Keeping.{FilesCarry}
use Rattle.vm_system.specs.Steps.{CanonicalOpen}
use Rattle.vm_system.proofs.Flattened.{flat_files}
use Rattle.vm_shared.proofs.Currents.{copies_current}
use Rattle.vm_system.proofs.Sharing.{none_temporary}
use Rattle.vm_top.specs.declared.top.Status.{Status}
use Rattle.vm_top.specs.declared.words.Report.{Report}
use Rattle.vm_top.specs.Ending.{EndsAs}
use Rattle.vm_top.specs.Flat.{FilesFlatAt}
use Rattle.vm_top.specs.Run.{IsRunnable, outside_of}
use Rattle.vm_top.proofs.Keeping.{files_told}
use Rattle.vm_top.proofs.Resting.{causes_of, ends_legal}

pub files_flat : (report : Report) (run : Script) (files paging now : List ℕ → Told) (h : List Event) (before after : Option (List ℕ)) (s : Status)
    → IsRunnable run → EndsAs report run (outside_of files paging run.header) h before after s
    → FilesCarry run.header files now h → FilesFlatAt (outside_of files paging) files now (Some run) h
files_flat report run files paging now h before after s runs ends carry =
    let outside = outside_of files paging run.header in
    let legal = ends_legal report run outside h before after s ends in
    let all : CanonicalOpen run.header outside legal.run h = record {
      follows = legal.follows;
      holds = legal.holds;
      rests = legal.rests;
      ended = legal.ended;
      last = legal.last;
      recalled = legal.recalled;
      recalls = legal.recalls;
    } in
    flat_files run.header outside files now legal.run h all (copies_current run.header outside h (none_temporary run.header runs.served.ranged)
    (causes_of run outside h legal) legal.holds.own_bytes)
    (files_told run.header files paging) carry
