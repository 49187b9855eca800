-- The hosts have served by rising number when a step ends.
use Rattle.vm_system.proofs.Common.{AllInner, Down, EachIn, EachOf, Event, Header, HostId, HostsPart, IsNobodys, List, Message, ObjectId, Outside, Up, []}
use Rattle.vm_system.proofs.Common.{append_assoc, inner_both, subst, sym, ℕ, ◌++◌, ◌∷◌, ◌≡◌}
use Rattle.std.proofs.Common.{true, false, length, refl, ◌∙◌}
use Rattle.vm_hosts.specs.Hosts.{HostTable}
use Rattle.vm_hosts.specs.Steps.{PartInTurn}
use Rattle.vm_kernel.proofs.abroad.OthersEvents.{no_home}
use Rattle.vm_legal.specs.Homes.{IsOnlyOfHost}
use Rattle.vm_legal.specs.Serving.{HostsServed, ServeInTurn}
use Rattle.vm_legal.specs.Stretches.{IsInner}
use Rattle.vm_model.specs.declared.command.Command.{Command}
use Rattle.vm_model.specs.declared.event.Event.TheVariants as event

-- what is nobody's is whosever one likes
pub nobodys_own : (header : Header) (host : ℕ) (events past : List Event) → EachOf IsNobodys events → EachIn (IsOnlyOfHost header host) events past
nobodys_own header host [] past nobodys = tt
nobodys_own header host (e ∷ events) past nobodys =
    ((λ h is. absurd (let bad : true ≡ false = sym is ∙ no_home header h e (events ++ past) nobodys.0 in cc)), nobodys_own header host events past nobodys.1)

-- where no host has taken a message in front, all serve at once
serve_behind : (header : Header) (host : HostId) (object : ObjectId) (m : Message) (told past events : List Event) → AllInner told
    → PartInTurn header (told ++ event.Taken (Up host object) m ∷ past) events
    → ServeInTurn header (told ++ event.Taken (Up host object) m ∷ past) (length header.frames.items) events
serve_behind header host object m [] past events inner part = part
serve_behind header host object m (e ∷ told) past events inner part = by e inner.0 part
  where
    by : (e : Event) → IsInner e → PartInTurn header (e ∷ (told ++ event.Taken (Up host object) m ∷ past)) events
        → ServeInTurn header (e ∷ (told ++ event.Taken (Up host object) m ∷ past)) (length header.frames.items) events
    by (event.Taken channel n) inside part = absurd inside
    by other inside part = part

-- a pager took a message and told of it
pub served_up : (header : Header) (host : HostId) (object : ObjectId) (m : Message) (told events past : List Event) → AllInner told → EachOf IsNobodys told
    → AllInner events
    → PartInTurn header ((told ++ event.Taken (Up host object) m ∷ []) ++ past) events
    → HostsServed header (events ++ ((told ++ event.Taken (Up host object) m ∷ []) ++ past))
served_up header host object m told events past inner nobodys after part =
    let begun = event.Taken (Up host object) m ∷ past in
    let same : (told ++ event.Taken (Up host object) m ∷ []) ++ past ≡ told ++ begun = append_assoc told (event.Taken (Up host object) m ∷ []) past in
    subst (λ (z : List Event). HostsServed header (events ++ z)) (sym same) (record {
      before = begun;
      events = events ++ told;
      is = sym (append_assoc events told begun);
      begins = tt;
      inner = inner_both events told after inner;
      host = length header.frames.items;
      acts = refl;
      turns =
          record {
            front = told;
            served = events;
            is = refl;
            own = nobodys_own header (length header.frames.items) told begun nobodys;
            turns = serve_behind header host object m told past events inner (subst (λ (z : List Event). PartInTurn header z events) same part);
          };
    })

-- a host took one
pub served_down : (header : Header) (outside : Outside) (doing : Command) (host : HostId) (object : ObjectId) (control : ℕ) (m : Message) (past : List Event)
    (hosts : HostTable) (events : List Event)
    → HostsPart header outside doing (event.Taken (Down host object control) m ∷ past) hosts events
    → HostsServed header (events ++ event.Taken (Down host object control) m ∷ past)
served_down header outside doing host object control m past hosts events passed = record {
  before = event.Taken (Down host object control) m ∷ past;
  events = events;
  is = refl;
  begins = tt;
  inner = passed.follows.stretch.inner;
  host = host.0;
  acts = refl;
  turns = passed.turns;
}
