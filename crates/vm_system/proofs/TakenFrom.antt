-- A `take` is run.
use Rattle.vm_system.proofs.Common.{CanonicalFor, Channel, EachIn, Event, FollowsInTurn, FollowsSoFarInTurn, FramesSuffice, Header, Holds, IsAtRest}
use Rattle.vm_system.proofs.Common.{IsConsequence, IsGroupInTurn, IsPaid, IsRunInTurn, IsWholeInTurn, KeepsCanonical, List, None, Numbered, Outside, Some}
use Rattle.vm_system.proofs.Common.{State, Step, SystemStands, TakesStep, Took, [], ap, false, first, head, inr, is_some, licensed_front, moment_last}
use Rattle.vm_system.proofs.Common.{no_request, queue, refl, refusal, so_far, subst, sym, take_head, true, ℕ, ◌++◌, ◌∷◌, ◌≡◌}
use Rattle.vm_model.specs.declared.command.Command.TheVariants as command
use Rattle.vm_model.specs.declared.event.Event.TheVariants as event
use Rattle.vm_system.proofs.Opening.{HoldsUpTo, holds_taken, step_is, steps_taken}
use Rattle.sms_server.proofs.Acting.{others_recall as recalled_other, others_serve as served_other}
use Rattle.vm_system.proofs.Silent.{ends_lined, prompt_line, awake_line}
use Rattle.vm_legal.proofs.Turns.{open_in_turn, so_far_of as weak_so_far}
use Rattle.vm_legal.specs.InTurn.{AllRecalled, StepIsInTurn, NoneSleeps}
use Rattle.vm_legal.proofs.Serving.{one_served}
use Rattle.vm_model.specs.Moments.{BeforeSteps, EachEvent}
use Rattle.std.proofs.Common.{[]}
use Rattle.vm_system.proofs.Sharing.{none_temporary}
use Rattle.vm_system.proofs.Awake.{awake_of}
use Rattle.vm_legal.specs.Licences.{HasCause}
use Rattle.vm_legal.proofs.Locks.{no_change}

some_none : {A : Type 0} → {x : A} → Some x ≡ None → ⊥
some_none is = absurd (let bad : true ≡ false = ap is_some is in cc)

abbrev pub taking_of : Header → Outside → ℕ → Channel → List Event → Step
taking_of header outside line channel past = record { header = header; outside = outside; command = command.Take channel; past = event.Line line ∷ past }

-- the group of the command

follows_take : (header : Header) (outside : Outside) (line : ℕ) (channel : Channel) (run : List Numbered) (old new : List Event)
    → refusal header old (command.Take channel) ≡ None → TakesStep (taking_of header outside line channel old) new
    → FollowsInTurn header outside run old → FollowsInTurn header outside (record { line = line; command = command.Take channel } ∷ run) new
follows_take header outside line channel run old new fine step follows =
    let numbered : Numbered = record { line = line; command = command.Take channel } in
    let stretch = step.more ++ event.Taken step.channel step.m ∷ [] in
    let past = event.Line line ∷ old in
    let cause = (licensed_front header outside (command.Take channel) step.more (event.Taken step.channel step.m) past step.licensed).0 in
    let first_is : first (queue channel old) ≡ Some step.m = subst (λ (z : Channel). first (queue z old) ≡ Some step.m) cause.1.0 cause.0 in
    let headed : head header old (command.Take channel) ≡ Some (event.Taken channel step.m ∷ []) = ap (take_head channel) first_is in
    let run_is : IsRunInTurn header outside old numbered (event.Taken channel step.m ∷ []) stretch = record {
      more = step.more;
      is = ap (λ (z : Channel). step.more ++ event.Taken z step.m ∷ []) cause.1.0;
      follows = subst (λ (z : Channel). EachIn IsConsequence step.more (event.Taken z step.m ∷ past)) cause.1.0 step.follows;
      licensed = step.licensed;
    } in
    let group : IsGroupInTurn header outside old numbered stretch = rw (fine, headed) run_is in
    let whole : IsWholeInTurn header old numbered stretch = rw fine tt in
    (old, stretch, step_is (taking_of header outside line channel old) new step, group, whole, follows)

-- a line owes nothing
paid_line : (header : Header) (line : ℕ) (past : List Event) → IsPaid header (event.Line line ∷ past)
paid_line header line past = record {
  none_owed = refl;
  init = λ host object control size paged is. absurd (some_none (sym is));
  create = λ host object control size paged is. absurd (some_none (sym is));
  request = λ host object control page access paged is. absurd (some_none (sym is));
  error = λ host object page is. absurd (some_none (sym is));
  absence = λ host object page declared is. absurd (some_none (sym is));
  lock = λ request is. no_request request (event.Line line ∷ past) refl is;
  change = λ request is wanted. no_change request (event.Line line ∷ past) refl is;
  destroy = λ host object wild is. absurd (some_none (sym is));
  slot = λ host object control page dirty keep bytes temporary is lacks. absurd (some_none (sym is));
}

up_to_line : (header : Header) (outside : Outside) (line : ℕ) (run : List Numbered) (s : State) → SystemStands header outside s
    → CanonicalFor header outside run s.history.items → HoldsUpTo header outside (event.Line line ∷ s.history.items)
up_to_line header outside line run s stands legal =
    let items = s.history.items in
    record {
      kinds = none_temporary header stands.built.ranged;
      own_bytes = (tt, legal.holds.own_bytes);
      frames = (moment_last (FramesSuffice header) items legal.holds.frames, legal.holds.frames);
      prompts = (legal.rests.prompt, legal.holds.prompt);
      prompt = prompt_line header line items legal.rests.prompt;
      payments = (legal.rests.paid, legal.holds.paid);
      paid = paid_line header line items;
      services = (legal.rests.served, legal.holds.served);
      served = served_other header (event.Line line) items tt legal.rests.served;
    }

-- a line alone is in its turn
lined : (header : Header) (line : ℕ) (h : List Event) → NoneSleeps header h → StepIsInTurn header (event.Line line ∷ h)
lined header line h awake =
    record { ended = ends_lined header line [] h tt; served = one_served header 0 [] (event.Line line ∷ h) tt tt tt tt; awake = awake_line header line h awake }

pub keeps_taken : (header : Header) (outside : Outside) (line : ℕ) (channel : Channel) (s new : State) → SystemStands header outside s
    → refusal header s.history.items (command.Take channel) ≡ None
    → Took (taking_of header outside line channel s.history.items) new
    → KeepsCanonical header outside (record { line = line; command = command.Take channel }) s.history.items new.history.items
keeps_taken header outside line channel s new stands fine took run legal =
    let given = taking_of header outside line channel s.history.items in
    let numbered : Numbered = record { line = line; command = command.Take channel } in
    let items = new.history.items in
    let follows : FollowsInTurn header outside (numbered ∷ run) items = follows_take header outside line channel run s.history.items items fine took.step
    legal.follows in
    let opened : FollowsSoFarInTurn header outside (numbered ∷ run) items = open_in_turn header outside (numbered ∷ run) items follows in
    let causes : EachEvent (HasCause header outside) items = so_far header outside (numbered ∷ run) items
    (weak_so_far header outside (numbered ∷ run) items opened) in
    let holds : Holds header outside items = holds_taken given items took.step causes (up_to_line header outside line run s stands legal) in
    let last : StepIsInTurn header items = record {
      ended = took.ended;
      served = took.turns;
      awake = awake_of header outside new.hosts items took.stands.rests took.stands.queues causes;
    } in
    let rests : IsAtRest header items = record { prompt = took.prompt; paid = took.paid; served = took.stands.served } in
    let ended : BeforeSteps (StepIsInTurn header) items = steps_taken (StepIsInTurn header) given items took.step
    (lined header line s.history.items legal.last.awake, (legal.last, legal.ended)) in
    let recalled : BeforeSteps (AllRecalled header) items = steps_taken (AllRecalled header) given items took.step
    (recalled_other header (event.Line line) s.history.items tt legal.recalls, (legal.recalls, legal.recalled)) in
    record {
      so_far = record { follows = opened; holds = holds; rests = rests; ended = ended; last = last; recalled = recalled; recalls = took.stands.recalled };
      whole =
          λ none. record { follows = follows; holds = holds; rests = rests; ended = ended; last = last; recalled = recalled; recalls = took.stands.recalled };
      none = inr refl;
    }
