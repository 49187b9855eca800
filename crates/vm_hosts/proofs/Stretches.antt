-- Stretches of a step, one behind another.
use Rattle.vm_hosts.proofs.Common.{Command, Event, EachIn, EventsFollow, FramesSuffice, Header, Heads, IsConsequence, List, Outside, OwnBytes, SomeKernelSays}
use Rattle.vm_hosts.proofs.Common.{Stretch, [], ap, append_assoc, each_both, inner_both, licensed_both, moments_both, reverse, subst, sym, ◌++◌, ◌∙◌}

pub stretch_none : (header : Header) (outside : Outside) (doing : Command) (past : List Event) → Stretch header outside doing past []
stretch_none header outside doing past = record { licensed = tt; own_bytes = tt; frames = tt; inner = tt; said = tt }

pub stretch_both : (header : Header) (outside : Outside) (doing : Command) (past front later : List Event) → Stretch header outside doing past front
    → Stretch header outside doing (front ++ past) later → Stretch header outside doing past (later ++ front)
stretch_both header outside doing past front later one two = record {
  licensed = licensed_both header outside doing later front past two.licensed one.licensed;
  own_bytes = each_both (OwnBytes header) later front past two.own_bytes one.own_bytes;
  frames = moments_both (FramesSuffice header) later front past two.frames one.frames;
  inner = inner_both later front two.inner one.inner;
  said = each_both (SomeKernelSays header) later front past two.said one.said;
}

pub follows_none : (header : Header) (outside : Outside) (doing : Command) (past : List Event) → EventsFollow header outside doing past []
follows_none header outside doing past = record { follows = tt; stretch = stretch_none header outside doing past }

pub follows_both : (header : Header) (outside : Outside) (doing : Command) (past front later : List Event) → EventsFollow header outside doing past front
    → EventsFollow header outside doing (front ++ past) later → EventsFollow header outside doing past (later ++ front)
follows_both header outside doing past front later one two =
    record {
      follows = each_both IsConsequence later front past two.follows one.follows;
      stretch = stretch_both header outside doing past front later one.stretch two.stretch;
    }

-- behind the head of a command
pub heads_more : (header : Header) (outside : Outside) (doing : Command) (past events later : List Event) → Heads header outside doing past events
    → EventsFollow header outside doing (events ++ past) later → Heads header outside doing past (later ++ events)
heads_more header outside doing past events later heads follows = record {
  first = heads.first;
  more = later ++ heads.more;
  head = heads.head;
  is = ap (λ z. later ++ z) heads.is ∙ sym (append_assoc later heads.more (reverse heads.first));
  follows = each_both IsConsequence later heads.more (reverse heads.first ++ past)
      (subst (λ (z : List Event). EachIn IsConsequence later z) (ap (λ z. z ++ past) heads.is ∙ append_assoc heads.more (reverse heads.first) past)
      follows.follows) heads.follows;
  stretch = stretch_both header outside doing past events later heads.stretch follows.stretch;
}
