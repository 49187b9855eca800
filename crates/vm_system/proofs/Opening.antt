-- A history stays legal with one message more taken.
use Rattle.vm_system.proofs.Common.{AllInTurn, NoneIsTemporary, AllServed, AreSame, BeforeSteps, Channel, ChannelId, Command, EachEvent, EachIn, EachMoment}
use Rattle.vm_system.proofs.Common.{Event, FollowsSoFarInTurn, FramesSuffice, HasCause, HasMore, Header, Holds, IsConsequence, IsGroupInTurn, IsPaid, KeepsOpen}
use Rattle.vm_system.proofs.Common.{CanonicalOpen, Letter, List, MayTakeFrom, None, Numbered, Outside, OwnBytes, Prompt, Some, State, Step, SystemStands}
use Rattle.vm_system.proofs.Common.{TakesStep, Took, [], ap, append-nil, append_assoc, channel_number, channel_of_first, each_both, each_whole, false, is_some}
use Rattle.vm_system.proofs.Common.{licensed_both, messages_on, moments_whole, oldest_channel, queue, queue_is, refl, so_far, steps_whole, subst, sym, takings}
use Rattle.vm_system.proofs.Common.{takings_more, true, undelivered, ℕ, ◌++◌, ◌∙◌, ◌∷◌, ◌≡◌, ◌≢◌}
use Rattle.vm_model.specs.declared.command.Command.TheVariants as command
use Rattle.vm_model.specs.declared.event.Event.TheVariants as event
use Rattle.vm_ports.specs.Ports.{oldest as oldest_on}
use Rattle.vm_ports.specs.declared.letter.Letter.{Letter as Posted}
use Rattle.vm_system.proofs.Numbers.{is_same}
use Rattle.vm_shared.proofs.Currents.{flat_of}
use Rattle.vm_shared.proofs.Pages.{writers as one_writer}
use Rattle.vm_system.proofs.Sharing.{none_temporary}
use Rattle.vm_shared.proofs.Pages.{legal as pages_legal}
use Rattle.vm_legal.proofs.Turns.{so_far_of as weak_so_far}
use Rattle.vm_legal.specs.InTurn.{AllRecalled, StepIsInTurn}
use Rattle.vm_system.proofs.Awake.{awake_of}

-- what holds in front of a taking
pub record HoldsUpTo (header : Header) (outside : Outside) (past : List Event) : Type 0 where
  pub kinds : NoneIsTemporary header
  pub own_bytes : EachEvent (OwnBytes header) past
  pub frames : EachMoment (FramesSuffice header) past
  pub prompts : BeforeSteps (Prompt header) past
  pub prompt : Prompt header past
  pub payments : BeforeSteps (IsPaid header) past
  pub paid : IsPaid header past
  pub services : BeforeSteps (AllServed header) past
  pub served : AllServed header past

-- the events of a step that took a message, on what stands in front of it
pub step_is : (given : Step) (new : List Event) → (step : TakesStep given new) → new ≡ (step.more ++ event.Taken step.channel step.m ∷ []) ++ given.past
step_is given new step = step.is ∙ sym (append_assoc step.more (event.Taken step.channel step.m ∷ []) given.past)

pub holds_taken : (given : Step) (new : List Event) → TakesStep given new → EachEvent (HasCause given.header given.outside) new
    → HoldsUpTo given.header given.outside given.past → Holds given.header given.outside new
holds_taken given new step caused front =
    let header = given.header in
    let outside = given.outside in
    let past = given.past in
    let stretch = step.more ++ event.Taken step.channel step.m ∷ [] in
    let is = step_is given new step in
    let own : EachEvent (OwnBytes header) new = rw is (each_whole (OwnBytes header) stretch past step.own_bytes front.own_bytes) in
    record {
      own_bytes = own;
      flat_bytes = flat_of header outside new front.kinds caused own;
      frames = rw is (moments_whole (FramesSuffice header) stretch past step.frames front.frames);
      prompt = rw step.is (steps_whole (Prompt header) step.more (event.Taken step.channel step.m ∷ past) step.inner (front.prompt, front.prompts));
      paid = rw step.is (steps_whole (IsPaid header) step.more (event.Taken step.channel step.m ∷ past) step.inner (front.paid, front.payments));
      served = rw step.is (steps_whole (AllServed header) step.more (event.Taken step.channel step.m ∷ past) step.inner (front.served, front.services));
      one_writer = one_writer header outside new caused own;
      pages = pages_legal header outside new caused own;
    }

-- what held whenever a step had ended
pub steps_taken : (P : List Event → Type 0) (given : Step) (new : List Event) → TakesStep given new → P given.past × BeforeSteps P given.past
    → BeforeSteps P new
steps_taken P given new step front = rw step.is (steps_whole P step.more (event.Taken step.channel step.m ∷ given.past) step.inner front)

-- the number of messages taken

-- the group of a settle grows
grown : (header : Header) (outside : Outside) (count line : ℕ) (past group stretch : List Event)
    → EachIn IsConsequence stretch (group ++ event.Line line ∷ past) → AllInTurn header outside (command.Settle count) stretch (group ++ event.Line line ∷ past)
    → IsGroupInTurn header outside past (record { line = line; command = command.Settle count }) group
    → IsGroupInTurn header outside past (record { line = line; command = command.Settle count }) (stretch ++ group)
grown header outside count line past group stretch follows licensed made = record {
  more = stretch ++ made.more;
  is = ap (λ (z : List Event). stretch ++ z) made.is ∙ sym (append_assoc stretch made.more []);
  follows = each_both IsConsequence stretch made.more (event.Line line ∷ past)
      (subst (λ (z : List Event). EachIn IsConsequence stretch (z ++ event.Line line ∷ past)) (made.is ∙ append-nil made.more) follows) made.follows;
  licensed = licensed_both header outside (command.Settle count) stretch group (event.Line line ∷ past) licensed made.licensed;
}

-- and so does what a settle made so far
pub settled_more : (header : Header) (outside : Outside) (count line : ℕ) (run : List Numbered) (old new stretch : List Event) → new ≡ stretch ++ old
    → EachIn IsConsequence stretch old → AllInTurn header outside (command.Settle count) stretch old
    → FollowsSoFarInTurn header outside (record { line = line; command = command.Settle count } ∷ run) old
    → FollowsSoFarInTurn header outside (record { line = line; command = command.Settle count } ∷ run) new
settled_more header outside count line run old new stretch is follows licensed (past, group, was, made, done, before) =
    let licensed_on : AllInTurn header outside (command.Settle count) stretch (group ++ event.Line line ∷ past) = subst
    (λ (z : List Event). AllInTurn header outside (command.Settle count) stretch z) was licensed in
    let follows_on : EachIn IsConsequence stretch (group ++ event.Line line ∷ past) = subst (λ (z : List Event). EachIn IsConsequence stretch z) was
    follows in (
      past,
      stretch ++ group,
      is ∙ ap (λ (z : List Event). stretch ++ z) was ∙ sym (append_assoc stretch group (event.Line line ∷ past)),
      grown header outside count line past group stretch follows_on licensed_on made,
      tt,
      before,
    )

-- what holds of an open history that has a kernel
pub up_to_open : (header : Header) (outside : Outside) (run : List Numbered) (s : State) → SystemStands header outside s
    → CanonicalOpen header outside run s.history.items → HoldsUpTo header outside s.history.items
up_to_open header outside run s stands legal = record {
  kinds = none_temporary header stands.built.ranged;
  own_bytes = legal.holds.own_bytes;
  frames = legal.holds.frames;
  prompts = legal.holds.prompt;
  prompt = legal.rests.prompt;
  payments = legal.holds.paid;
  paid = legal.rests.paid;
  services = legal.holds.served;
  served = legal.rests.served;
}

abbrev settling : Header → Outside → ℕ → List Event → Step
settling header outside count past = record { header = header; outside = outside; command = command.Settle count; past = past }

follows_open : (header : Header) (outside : Outside) (count line : ℕ) (run : List Numbered) (old new : List Event)
    → TakesStep (settling header outside count old) new → FollowsSoFarInTurn header outside (record { line = line; command = command.Settle count } ∷ run) old
    → FollowsSoFarInTurn header outside (record { line = line; command = command.Settle count } ∷ run) new
follows_open header outside count line run old new step follows =
    settled_more header outside count line run old new (step.more ++ event.Taken step.channel step.m ∷ [])
    (step_is (settling header outside count old) new step)
    (each_both IsConsequence step.more (event.Taken step.channel step.m ∷ []) old step.follows (tt, tt)) step.licensed follows

pub keeps_open : (header : Header) (outside : Outside) (count : ℕ) (s new : State) → SystemStands header outside s
    → Took (settling header outside count s.history.items) new → KeepsOpen header outside (command.Settle count) s.history.items new.history.items
keeps_open header outside count s new stands took line run legal =
    let given = settling header outside count s.history.items in
    let numbered : Numbered = record { line = line; command = command.Settle count } in
    let items = new.history.items in
    let step = took.step in
    let follows : FollowsSoFarInTurn header outside (numbered ∷ run) items = follows_open header outside count line run s.history.items items step
    legal.follows in
    let causes : EachEvent (HasCause header outside) items = so_far header outside (numbered ∷ run) items
    (weak_so_far header outside (numbered ∷ run) items follows) in
    record {
      so_far = record {
        follows = follows;
        holds = holds_taken given items step causes (up_to_open header outside (numbered ∷ run) s stands legal);
        rests = record { prompt = took.prompt; paid = took.paid; served = took.stands.served };
        ended = steps_taken (StepIsInTurn header) given items step (legal.last, legal.ended);
        last = record { ended = took.ended; served = took.turns; awake = awake_of header outside new.hosts items took.stands.rests took.stands.queues causes };
        recalled = steps_taken (AllRecalled header) given items step (legal.recalls, legal.recalled);
        recalls = took.stands.recalled;
      };
      more = ap takings step.is ∙ takings_more step.more (event.Taken step.channel step.m ∷ s.history.items) step.inner;
    }

-- the oldest letter of all has its channel
pub record Foremost (made : List Channel) (number : ChannelId) (letters : List Letter) : Type 0 where
  pub letter : Letter
  pub more : List Letter
  pub is : letters ≡ letter ∷ more
  pub at : channel_number letter.channel made ≡ Some number.0

foremost : (made : List Channel) (posted : List (Posted ℕ)) (letters : List Letter) (past : List Event) (number : ChannelId) → AreSame made posted letters past
    → oldest_on posted ≡ Some number → Foremost made number letters
foremost made [] [] past number same is = absurd (let bad : false ≡ true = ap is_some is in cc)
foremost made [] (letter ∷ letters) past number same is = absurd same
foremost made (p ∷ posted) [] past number same is = absurd same
foremost made (p ∷ posted) (letter ∷ letters) past number same is =
    let one : p.channel ≡ number = cc in
    record { letter = letter; more = letters; is = refl; at = same.0 ∙ ap (λ (z : ChannelId). Some z.0) one }

-- and so something is undelivered
pub some_left : (header : Header) (outside : Outside) (number : ChannelId) (s now : State) → s ≡ now → SystemStands header outside now
    → oldest_on s.ports.letters ≡ Some number → undelivered now.history.items ≢ []
some_left header outside number s now same stands is none =
    let at : oldest_on now.ports.letters ≡ Some number = subst (λ (z : State). oldest_on z.ports.letters ≡ Some number) same is in
    let f = foremost now.channels.made now.ports.letters (undelivered now.history.items) now.history.items number stands.agrees.posts.letters at in
    let both : f.letter ∷ f.more ≡ [] = sym f.is ∙ none in
    absurd (cc)

-- where no letter stands in the ports, nothing is undelivered
pub none_left : (made : List Channel) (posted : List (Posted ℕ)) (letters : List Letter) (past : List Event) → AreSame made posted letters past → posted ≡ []
    → letters ≡ []
none_left made [] [] past same none = refl
none_left made [] (letter ∷ letters) past same none = absurd same
none_left made (p ∷ posted) letters past same none = absurd (cc)

first_on : (letter : Letter) (letters : List Letter) → messages_on letter.channel (letter ∷ letters) ≡ letter.message ∷ messages_on letter.channel letters
first_on letter letters = rw (is_same letter.channel) refl

pub may_settle : (given : Step) (number : ChannelId) (s : State) → SystemStands given.header given.outside s → given.past ≡ s.history.items
    → HasMore given.command s.history.items → oldest_on s.ports.letters ≡ Some number
    → (channel : Channel) × MayTakeFrom given None number channel s
may_settle given number s stands past more is =
    let items = s.history.items in
    let f = foremost s.channels.made s.ports.letters (undelivered items) items number stands.agrees.posts.letters is in
    let channel = f.letter.channel in
    let ahead : oldest_channel given.past ≡ Some channel = ap oldest_channel past ∙ ap channel_of_first f.is in
    let queued : queue channel items ≡ f.letter.message ∷ messages_on channel f.more = queue_is channel items
    ∙ ap (λ (z : List Letter). messages_on channel z) f.is ∙ first_on f.letter f.more in (
      channel,
      record {
        stands = stands;
        past = past;
        made = f.at;
        may = rw more.is (ahead, rw past more.more);
        some = λ none. absurd (let bad : f.letter.message ∷ messages_on channel f.more ≡ [] = sym queued ∙ none in cc);
      },
    )

-- a settle goes on

pub keeps_settle : (given : Step) (s new : State) → SystemStands given.header given.outside s → given.past ≡ s.history.items
    → HasMore given.command s.history.items → Took given new
    → KeepsOpen given.header given.outside given.command s.history.items new.history.items
keeps_settle given s new stands past more took =
    let same : Took (settling given.header given.outside more.count s.history.items) new = subst
    (λ (z : Command). Took (record { header = given.header; outside = given.outside; command = z; past = s.history.items }) new) more.is
    (subst (λ (z : List Event). Took (record { header = given.header; outside = given.outside; command = given.command; past = z }) new) past took) in
    subst (λ (z : Command). KeepsOpen given.header given.outside z s.history.items new.history.items) (sym more.is)
    (keeps_open given.header given.outside more.count s new stands same)
