-- A run that has ended is legal as far as it goes.
use Rattle.std.proofs.Common.{List, [], ◌∷◌, ◌++◌, inl, inr, refl}
use Rattle.vm_model.specs.declared.event.Event.{Event}
use Rattle.vm_model.specs.declared.command.Numbered.{Numbered}
use Rattle.vm_model.specs.declared.script.Script.{Script}
use Rattle.vm_legal.specs.Legal.{CanonicalSoFar}
use Rattle.vm_legal.specs.Outside.{Outside}
use Rattle.vm_legal.proofs.Turns.{open_in_turn}
use Rattle.vm_top.specs.Run.{IsOutOfEvents, IsPart, IsWholeRun}

-- a run that was made of a part is legal as far as it goes
part_so_far : (script : Script) (outside : Outside) (later run : List Numbered) (h : List Event) → IsPart script outside later run h
    → CanonicalSoFar script outside h
part_so_far script outside later run h part = record {
  later = later;
  run = run;
  order = part.order;
  follows = open_in_turn script.header outside run h part.legal.follows;
  holds = part.legal.holds;
  rests = part.legal.rests;
  ended = part.legal.ended;
  last = part.legal.last;
  recalled = part.legal.recalled;
  recalls = part.legal.recalls;
}

-- and so is a run of the whole script
pub whole_so_far : (script : Script) (outside : Outside) (h : List Event) → IsWholeRun script outside h → CanonicalSoFar script outside h
whole_so_far script outside h is = record {
  later = [];
  run = script.commands.items;
  order = refl;
  follows = open_in_turn script.header outside script.commands.items h is.canonical.follows;
  holds = is.canonical.holds;
  rests = is.canonical.rests;
  ended = is.canonical.ended;
  last = is.canonical.last;
  recalled = is.canonical.recalled;
  recalls = is.canonical.recalls;
}

-- and one that came to a full history, also where that is in a settle
pub full_so_far : (script : Script) (outside : Outside) (h : List Event) → IsOutOfEvents script outside h → CanonicalSoFar script outside h
full_so_far script outside h is = elim is.left [
  | inl left ↦ part_so_far script outside (left.later ++ left.next ∷ []) left.run h left.part
  | inr on ↦ record {
    later = on.later;
    run = on.next ∷ on.run;
    order = on.order;
    follows = on.legal.follows;
    holds = on.legal.holds;
    rests = on.legal.rests;
    ended = on.legal.ended;
    last = on.legal.last;
    recalled = on.legal.recalled;
    recalls = on.legal.recalls;
  }
]
