-- What comes in its turn has its cause, and what follows in turn follows.
use Rattle.std.proofs.Common.{◌≡◌, ℕ, List, [], ◌∷◌, ◌++◌, Option, Some, None, MatchOption, inl, inr, ◌⊎◌}
use Rattle.std.specs.Prelude.{IfNone}
use Rattle.vm_base.specs.declared.code.Code.{Code}
use Rattle.vm_model.specs.declared.command.Command.{Command}
use Rattle.vm_model.specs.declared.command.Command.TheVariants as command
use Rattle.vm_model.specs.declared.command.Numbered.{Numbered}
use Rattle.vm_model.specs.declared.event.Device.{Device}
use Rattle.vm_model.specs.declared.event.Event.{Event}
use Rattle.vm_model.specs.declared.event.Event.TheVariants as event
use Rattle.vm_model.specs.declared.event.Way.{Way}
use Rattle.vm_model.specs.declared.event.Way.TheVariants as way
use Rattle.vm_model.specs.declared.message.Channel.TheVariants.{Up}
use Rattle.vm_model.specs.declared.message.Message.{Message}
use Rattle.vm_model.specs.declared.message.Message.TheVariants as message
use Rattle.vm_model.specs.declared.script.Header.{Header}
use Rattle.vm_model.specs.declared.script.Script.{Script}
use Rattle.vm_legal.proofs.Groups.{open_by}
use Rattle.vm_legal.specs.Follows.{Follows, FollowsAnyCut, FollowsBy, FollowsSoFar, FollowsSoFarBy, IsBegun, IsDone, IsRun, IsRunBy, SoFarBy, head}
use Rattle.vm_legal.specs.InTurn.{AllInTurn, CausedInTurn, DeviceFailsInTurn, FollowsInTurn, FollowsSoFarInTurn, IsDoneInTurn, SendsInTurn}
use Rattle.vm_legal.specs.Legal.{CanonicalFor, CanonicalSoFar, LegalFor, LegalSoFar}
use Rattle.vm_legal.specs.Licences.{AllLicensed, Caused, DeviceFails, MaySendUp}
use Rattle.vm_legal.specs.Outside.{Outside}
use Rattle.vm_legal.specs.Refusal.{refusal}

device_of : (header : Header) (who : Device) (by : Way) (object page : ℕ) (past : List Event) → DeviceFailsInTurn header who by object page past
    → DeviceFails header who by object page past
device_of header who way.Read object page past fails = fails
device_of header who way.Write object page past (backing, (host, takes, slot)) = (backing, (host, takes))

sends_of : (header : Header) (why : Command) (host object : ℕ) (m : Message) (past : List Event) → SendsInTurn header why host object m past
    → MaySendUp header why host object m past
sends_of header why host object (message.Return control page dirty keep bytes) past sends = sends.0
sends_of header why host object other past sends = sends

pub cause_of : (header : Header) (outside : Outside) (why : Command) (e : Event) (past : List Event) → CausedInTurn header outside why e past
    → Caused header outside why e past
cause_of header outside why (event.Failed task object page) past cause = cause.0
cause_of header outside why (event.Dropped host object page) past cause = cause.0
cause_of header outside why (event.Sent (Up host object) m) past cause = sends_of header why host.0 object.0 m past cause
cause_of header outside why (event.DeviceFailed who by object page) past cause = device_of header who by object.0 page.0 past cause
cause_of header outside why other past cause = cause

pub all_of : (header : Header) (outside : Outside) (why : Command) (events past : List Event) → AllInTurn header outside why events past
    → AllLicensed header outside why events past
all_of header outside why [] past all = tt
all_of header outside why (e ∷ events) past all =
    ((cause_of header outside why e (events ++ past) all.0.0, all.0.1), all_of header outside why events past all.1)

pub done_of : (header : Header) (doing : Command) (group past : List Event) → IsDoneInTurn header doing group past → IsDone header doing group past
done_of header (command.Load task address size) group past done = tt
done_of header (command.Store task address size value) group past done = tt
done_of header other group past done = done

-- where groups are such as one wants them, they are such as another does that wants less
module _ (header : Header) (all all2 done done2 : Command → List Event → List Event → Type 0)
    (weaker : (doing : Command) (group past : List Event) → all doing group past → all2 doing group past)
    (less : (doing : Command) (group past : List Event) → done doing group past → done2 doing group past) where
  group_weaker : (past : List Event) (numbered : Numbered) (group : List Event) (refused : Option Code) (first : Option (List Event))
      → MatchOption refused (MatchOption first ⊥ (λ events. IsRunBy all header past numbered events group)) (λ code. group ≡ event.Refused code ∷ [])
      → MatchOption refused (MatchOption first ⊥ (λ events. IsRunBy all2 header past numbered events group)) (λ code. group ≡ event.Refused code ∷ [])
  group_weaker past numbered group None None is = absurd is
  group_weaker past numbered group None (Some events) run =
      record { more = run.more; is = run.is; follows = run.follows; licensed = weaker numbered.command group (event.Line numbered.line ∷ past) run.licensed }
  group_weaker past numbered group (Some code) first is = is

  whole_weaker : (past : List Event) (numbered : Numbered) (group : List Event) (refused : Option Code)
      → IfNone refused (done numbered.command group (event.Line numbered.line ∷ past))
      → IfNone refused (done2 numbered.command group (event.Line numbered.line ∷ past))
  whole_weaker past numbered group None is = less numbered.command group (event.Line numbered.line ∷ past) is
  whole_weaker past numbered group (Some code) is = tt

  open_weaker : (doing : Command) (group past : List Event) → SoFarBy done doing group past → SoFarBy done2 doing group past
  open_weaker (command.Settle count) group past is = tt
  open_weaker other group past is = less other group past is

  pub follows_weaker : (commands : List Numbered) (history : List Event) → FollowsBy all done header commands history
      → FollowsBy all2 done2 header commands history
  follows_weaker [] history follows = follows
  follows_weaker (numbered ∷ before) history (past, group, is, made, whole, follows) = (
    past,
    group,
    is,
    group_weaker past numbered group (refusal header past numbered.command) (head header past numbered.command) made,
    whole_weaker past numbered group (refusal header past numbered.command) whole,
    follows_weaker before past follows,
  )

-- whole but for a settle that may be open
so_far_weaker : (header : Header) (all all2 done done2 : Command → List Event → List Event → Type 0)
    → ((doing : Command) (group past : List Event) → all doing group past → all2 doing group past)
    → ((doing : Command) (group past : List Event) → done doing group past → done2 doing group past)
    → (commands : List Numbered) (history : List Event) → FollowsSoFarBy all done header commands history → FollowsSoFarBy all2 done2 header commands history
so_far_weaker header all all2 done done2 weaker less [] history follows = follows
so_far_weaker header all all2 done done2 weaker less (numbered ∷ before) history (past, group, is, made, whole, follows) = (
  past,
  group,
  is,
  group_weaker header all all2 done done2 weaker less past numbered group (refusal header past numbered.command) (head header past numbered.command) made,
  whole_weaker header all all2 (SoFarBy done) (SoFarBy done2) weaker (open_weaker header all all2 done done2 weaker less) past numbered group
      (refusal header past numbered.command) whole,
  follows_weaker header all all2 done done2 weaker less before past follows,
)

pub follows_of : (header : Header) (outside : Outside) (commands : List Numbered) (history : List Event) → FollowsInTurn header outside commands history
    → Follows header outside commands history
follows_of header outside commands history follows =
    follows_weaker header (AllInTurn header outside) (AllLicensed header outside) (IsDoneInTurn header) (IsDone header) (all_of header outside) (done_of header)
    commands history follows

pub so_far_of : (header : Header) (outside : Outside) (commands : List Numbered) (history : List Event) → FollowsSoFarInTurn header outside commands history
    → FollowsSoFar header outside commands history
so_far_of header outside commands history follows =
    so_far_weaker header (AllInTurn header outside) (AllLicensed header outside) (IsDoneInTurn header) (IsDone header) (all_of header outside) (done_of header)
    commands history follows

pub legal_of : (header : Header) (outside : Outside) (commands : List Numbered) (history : List Event) → CanonicalFor header outside commands history
    → LegalFor header outside commands history
legal_of header outside commands history is = record { follows = follows_of header outside commands history is.follows; holds = is.holds; rests = is.rests }

pub legal_so_far : (script : Script) (outside : Outside) (history : List Event) → CanonicalSoFar script outside history → LegalSoFar script outside history
legal_so_far script outside history is =
    record {
      later = is.later;
      run = is.run;
      order = is.order;
      follows = so_far_of script.header outside is.run history is.follows;
      holds = is.holds;
      rests = is.rests;
    }

pub open_in_turn : (header : Header) (outside : Outside) (commands : List Numbered) (history : List Event) → FollowsInTurn header outside commands history
    → FollowsSoFarInTurn header outside commands history
open_in_turn header outside commands history follows = open_by header (AllInTurn header outside) (IsDoneInTurn header) commands history follows

-- a history that is cut at a step's end is cut at an event
pub any_cut : (header : Header) (outside : Outside) (commands : List Numbered) (history : List Event) → FollowsSoFar header outside commands history
    → FollowsAnyCut header outside commands history
any_cut header outside [] history follows = follows
any_cut header outside (numbered ∷ before) history (past, group, is, made, done, follows) =
    (past, group, is, by (refusal header past numbered.command) (head header past numbered.command) made, follows)
  where
    by : (refused : Option Code) (first : Option (List Event))
        → MatchOption refused (MatchOption first ⊥ (λ events. IsRun header outside past numbered events group)) (λ code. group ≡ event.Refused code ∷ [])
        → MatchOption refused
        (MatchOption first ⊥ (λ events. IsRun header outside past numbered events group
        ⊎ (IsBegun events group × AllLicensed header outside numbered.command group (event.Line numbered.line ∷ past))))
        (λ code. (group ≡ []) ⊎ (group ≡ event.Refused code ∷ []))
    by None None none = absurd none
    by None (Some events) run = inl run
    by (Some code) first refused = inr refused
