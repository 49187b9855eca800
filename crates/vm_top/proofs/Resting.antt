-- However a run ended, it is legal as far as it goes; so the laws of who waits and of what is on its way hold.
use Rattle.std.proofs.Common.{ℕ, List, ◌∷◌, Some, Option}
use Rattle.vm_model.specs.declared.event.Event.{Event}
use Rattle.vm_model.specs.declared.script.Script.{Script}
use Rattle.vm_model.specs.Moments.{EachEvent}
use Rattle.vm_legal.specs.Legal.{CanonicalSoFar}
use Rattle.vm_legal.specs.Licences.{HasCause}
use Rattle.vm_legal.specs.Outside.{Outside}
use Rattle.vm_legal.proofs.Groups.{so_far}
use Rattle.vm_quiet.proofs.Carried.{carried}
use Rattle.vm_shared.proofs.Answered.{nobody_waits}
use Rattle.vm_shared.proofs.Carried.{shared_are_carried}
use Rattle.vm_top.specs.declared.top.Status.{Status}
use Rattle.vm_top.specs.declared.top.Status.TheVariants as status
use Rattle.vm_top.specs.declared.words.Report.{Report}
use Rattle.vm_top.specs.declared.words.Report.TheVariants.{History, Summary}
use Rattle.vm_top.specs.Ending.{EndsAs}
use Rattle.vm_top.specs.Resting.{CarriesAll, WaitsForFramesAlone}
use Rattle.vm_top.specs.Run.{IsRunnable}
use Rattle.vm_top.specs.Top.{WroteFailed}
use Rattle.vm_system.proofs.Sharing.{none_temporary}
use Rattle.vm_top.proofs.Closing.{full_so_far, whole_so_far}
use Rattle.vm_legal.proofs.Turns.{so_far_of as weak_so_far}

-- also where a write failed
failed_legal : (report : Report) (run : Script) (outside : Outside) (h : List Event) (before after : Option (List ℕ))
    → WroteFailed report run outside h before after → CanonicalSoFar run outside h
failed_legal History run outside h before after failed = record {
  later = failed.later;
  run = failed.next ∷ failed.run;
  order = failed.order;
  follows = failed.legal.follows;
  holds = failed.legal.holds;
  rests = failed.legal.rests;
  ended = failed.legal.ended;
  last = failed.legal.last;
  recalled = failed.legal.recalled;
  recalls = failed.legal.recalls;
}
failed_legal Summary run outside h before after failed = failed.0

pub ends_legal : (report : Report) (run : Script) (outside : Outside) (h : List Event) (before after : Option (List ℕ)) (s : Status)
    → EndsAs report run outside h before after s → CanonicalSoFar run outside h
ends_legal report run outside h before after status.Done ends = whole_so_far run outside h ends.0
ends_legal report run outside h before after status.EventLimit ends = full_so_far run outside h ends.0
ends_legal report run outside h before after status.OutputFault ends = failed_legal report run outside h before after ends
ends_legal report run outside h before after status.NoMemory ends = ends.0
ends_legal report run outside h before after status.Usage ends = absurd ends
ends_legal report run outside h before after status.ReadFault ends = absurd ends
ends_legal report run outside h before after (status.BadScript line kind) ends = absurd ends

pub causes_of : (run : Script) (outside : Outside) (h : List Event) → CanonicalSoFar run outside h → EachEvent (HasCause run.header outside) h
causes_of run outside h legal = so_far run.header outside legal.run h (weak_so_far run.header outside legal.run h legal.follows)

pub waits_for_frames : (report : Report) (run : Script) (outside : Outside) (h : List Event) (before after : Option (List ℕ)) (s : Status) → IsRunnable run
    → EndsAs report run outside h before after s
    → WaitsForFramesAlone (Some run) h
waits_for_frames report run outside h before after s runs ends delivered =
    let legal = ends_legal report run outside h before after s ends in
    let causes = causes_of run outside h legal in
    nobody_waits run.header outside h (none_temporary run.header runs.served.ranged) causes legal.holds.own_bytes legal.holds.paid legal.rests.paid
    legal.rests.served legal.rests.prompt delivered

pub carries_all : (report : Report) (run : Script) (outside : Outside) (h : List Event) (before after : Option (List ℕ)) (s : Status) → IsRunnable run
    → EndsAs report run outside h before after s
    → CarriesAll (Some run) h
carries_all report run outside h before after s runs ends =
    let legal = ends_legal report run outside h before after s ends in
    let causes = causes_of run outside h legal in (
      carried run.header outside h causes legal.rests.paid legal.holds.paid,
      shared_are_carried run.header outside h causes legal.holds.own_bytes legal.holds.paid legal.rests.paid legal.rests.served,
    )
