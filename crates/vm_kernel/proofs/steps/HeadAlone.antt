-- A command whose events are those of its head.
use Rattle.vm_kernel.proofs.Common.{AllInner, AllInTurn, CausedInTurn, Command, CreatesHere, EachIn, EachOf, Event, Grows, Header, Ids}
use Rattle.vm_kernel.proofs.Common.{IsDoneInTurn, IsInner, IsMine, IsOnlyOfHost, IsSettled, KernelSays, LegalEvents, List, MomentsIn, Outside, OwnBytes, Parts}
use Rattle.vm_kernel.proofs.Common.{Ran, Rests, Some, Starts, Suffice, [], head, refl, reverse, subst, sym, ℕ, ◌++◌, ◌∷◌, ◌≡◌}
use Rattle.vm_kernel.specs.Begun.{HasBegun}
use Rattle.vm_kernel.proofs.steps.EventsGrow.{grows_goes, licensed}
use Rattle.vm_kernel.proofs.abroad.OwnEvents.{mine_of}

-- what holds of each event of a command's head
pub record Heads (header : Header) (h : ℕ) (outside : Outside) (doing : Command) (past events : List Event) : Type 0 where
  pub licensed : AllInTurn header outside doing events past
  pub own_bytes : EachIn (OwnBytes header) events past
  pub frames : MomentsIn (Suffice header h) events past
  pub inner : AllInner events
  pub said : EachOf (KernelSays h header.size) events
  pub mine : EachIn (IsMine header h) events past

pub grows_head : (header : Header) (h : ℕ) (outside : Outside) (doing : Command) (past events first : List Event) → head header past doing ≡ Some first
    → events ≡ reverse first → Heads header h outside doing past events → Grows header h outside doing past events
grows_head header h outside doing past events first is same all =
    record {
      first = first;
      more = [];
      head = is;
      is = same;
      follows = tt;
      licensed = all.licensed;
      own_bytes = all.own_bytes;
      frames = all.frames;
      inner = all.inner;
      said = all.said;
      mine = all.mine;
    }

-- what holds of a command's one event
pub record IsOne (header : Header) (h : ℕ) (outside : Outside) (doing : Command) (past : List Event) (e : Event) : Type 0 where
  pub settled : IsSettled past
  pub cause : CausedInTurn header outside doing e past
  pub own_bytes : OwnBytes header e past
  pub frames : Suffice header h (e ∷ past)
  pub inner : IsInner e
  pub said : KernelSays h header.size e
  pub own : IsOnlyOfHost header h e past
  pub creates : CreatesHere header h e past

pub heads_one : (header : Header) (h : ℕ) (outside : Outside) (doing : Command) (past : List Event) (e : Event) → IsOne header h outside doing past e
    → Heads header h outside doing past (e ∷ [])
heads_one header h outside doing past e is =
    record {
      licensed = (licensed header outside doing e past is.settled.none_owed is.cause, tt);
      own_bytes = (is.own_bytes, tt);
      frames = (is.frames, tt);
      inner = (is.inner, tt);
      said = (is.said, tt);
      mine = (mine_of header h e past is.settled.shut is.own is.creates, tt);
    }

pub grows_one : (header : Header) (h : ℕ) (outside : Outside) (doing : Command) (past : List Event) (e : Event) → head header past doing ≡ Some (e ∷ [])
    → IsOne header h outside doing past e → Grows header h outside doing past (e ∷ [])
grows_one header h outside doing past e first is =
    grows_head header h outside doing past (e ∷ []) (e ∷ []) first refl (heads_one header h outside doing past e is)

pub ran_head : (header : Header) (h : ℕ) (outside : Outside) (doing : Command) (past : List Event) (k : Parts) (ids : Ids) (events first : List Event)
    → head header past doing ≡ Some first → events ≡ reverse first
    → Heads header h outside doing past events → IsDoneInTurn header doing events past → Rests header h k ids (events ++ past)
    → Ran header h outside doing past k ids events
ran_head header h outside doing past k ids events first is same all done rests =
    record { rests = rests; grows = grows_head header h outside doing past events first is same all; done = done }

-- the accesses that were to be run again have been
pub begun_ran : {header : Header} {h : ℕ} {outside : Outside} {doing : Command} {past log after : List Event} {k new : Parts} {ids ids2 : Ids}
    → HasBegun header h outside doing past k ids log → Rests header h new ids2 (after ++ past) → LegalEvents header h outside doing past log after
    → Ran header h outside doing past new ids2 after
begun_ran {header = header} {h = h} {outside = outside} {doing = doing} {past = past} {log = log} {after = after} begun rests goes =
    record { rests = rests; grows = grows_goes header h outside doing past log after begun.grows goes; done = begun.done after }

-- equal commands start, begin and run alike

pub starts_as : {header : Header} {h : ℕ} {doing other : Command} {past events : List Event} {k : Parts} {ids : Ids} → doing ≡ other
    → Starts header h doing past k ids events → Starts header h other past k ids events
starts_as {header = header} {h = h} {past = past} {events = events} {k = k} {ids = ids} is starts =
    subst (λ (z : Command). Starts header h z past k ids events) is starts

pub begun_as : {header : Header} {h : ℕ} {outside : Outside} {doing other : Command} {past events : List Event} {k : Parts} {ids : Ids} → doing ≡ other
    → HasBegun header h outside other past k ids events → HasBegun header h outside doing past k ids events
begun_as {header = header} {h = h} {outside = outside} {past = past} {events = events} {k = k} {ids = ids} is begun =
    subst (λ (z : Command). HasBegun header h outside z past k ids events) (sym is) begun

pub ran_as : {header : Header} {h : ℕ} {outside : Outside} {doing other : Command} {past events : List Event} {k : Parts} {ids : Ids} → doing ≡ other
    → Ran header h outside other past k ids events → Ran header h outside doing past k ids events
ran_as {header = header} {h = h} {outside = outside} {past = past} {events = events} {k = k} {ids = ids} is ran =
    subst (λ (z : Command). Ran header h outside z past k ids events) (sym is) ran
