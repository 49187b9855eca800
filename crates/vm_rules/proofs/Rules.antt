-- What else holds of a history follows from what is tested in it.
use Rattle.std.proofs.Common.{List}
use Rattle.vm_model.specs.declared.command.Numbered.{Numbered}
use Rattle.vm_model.specs.declared.event.Event.{Event}
use Rattle.vm_model.specs.declared.script.Header.{Header}
use Rattle.vm_model.specs.declared.script.Script.{Script}
use Rattle.vm_model.specs.Moments.{EachEvent}
use Rattle.vm_legal.proofs.Groups.{any_cut_caused, open_of}
use Rattle.vm_legal.proofs.Turns.{any_cut, legal_of, so_far_of}
use Rattle.vm_legal.specs.Follows.{FollowsAnyCut, FollowsSoFar}
use Rattle.vm_legal.specs.Legal.{CanonicalFor, CanonicalSoFar, Holds, LegalFor, LegalSoFar}
use Rattle.vm_legal.specs.Licences.{HasCause}
use Rattle.vm_legal.specs.Outside.{NoneIsTemporary, Outside}
use Rattle.vm_shared.proofs.Currents.{flat_of}
use Rattle.vm_shared.proofs.Pages.{legal, writers}
use Rattle.vm_rules.specs.Tests.{Tests}

pub holds_of : (header : Header) (outside : Outside) (run : List Numbered) (history : List Event) → NoneIsTemporary header → Tests header outside run history
    → Holds header outside history
holds_of header outside run history kinds tests =
    let caused : EachEvent (HasCause header outside) history = any_cut_caused header outside run history tests.follows in
    record {
      own_bytes = tests.own_bytes;
      flat_bytes = flat_of header outside history kinds caused tests.own_bytes;
      frames = tests.frames;
      prompt = tests.prompt;
      paid = tests.paid;
      served = tests.served;
      one_writer = writers header outside history caused tests.own_bytes;
      pages = legal header outside history caused tests.own_bytes;
    }

-- what legal histories have of that

pub cut_passes : (header : Header) (outside : Outside) (commands : List Numbered) (history : List Event) → FollowsAnyCut header outside commands history
    → Holds header outside history → Tests header outside commands history
cut_passes header outside commands history follows holds = record {
  follows = follows;
  own_bytes = holds.own_bytes;
  frames = holds.frames;
  prompt = holds.prompt;
  paid = holds.paid;
  served = holds.served;
}

passes : (header : Header) (outside : Outside) (run : List Numbered) (history : List Event) → FollowsSoFar header outside run history
    → Holds header outside history → Tests header outside run history
passes header outside run history follows holds = cut_passes header outside run history (any_cut header outside run history follows) holds

pub legal_passes : (header : Header) (outside : Outside) (commands : List Numbered) (history : List Event) → LegalFor header outside commands history
    → Tests header outside commands history
legal_passes header outside commands history is = passes header outside commands history (open_of header outside commands history is.follows) is.holds

pub legal_so_far_passes : (script : Script) (outside : Outside) (history : List Event) (is : LegalSoFar script outside history)
    → Tests script.header outside is.run history
legal_so_far_passes script outside history is = passes script.header outside is.run history is.follows is.holds

pub canonical_passes : (header : Header) (outside : Outside) (commands : List Numbered) (history : List Event) → CanonicalFor header outside commands history
    → Tests header outside commands history
canonical_passes header outside commands history is = legal_passes header outside commands history (legal_of header outside commands history is)

pub canonical_so_far_passes : (script : Script) (outside : Outside) (history : List Event) (is : CanonicalSoFar script outside history)
    → Tests script.header outside is.run history
canonical_so_far_passes script outside history is =
    passes script.header outside is.run history (so_far_of script.header outside is.run history is.follows) is.holds
