-- A history stays lawful with each part of a step, and in what is no matter of the server it stands for it as before.
use Rattle.vm_system.proofs.Common.{AllInner, AllInTurn, AllServed, Channel, Command, Down, EachEvent, EachIn, EachOf, Event, HasCause, Header, IsPaid, Lawful}
use Rattle.vm_system.proofs.Common.{LicensedInTurn, List, Message, ObjectId, Outside, OwnBytes, ServerStands, ServerTable, SomeKernelSays, Up, [], each_whole}
use Rattle.vm_system.proofs.Common.{false, is_shared, steps_whole, subst, sym, ◌++◌, ◌∷◌, ◌≡◌, ℕ}
use Rattle.vm_model.specs.declared.command.Command.TheVariants as command
use Rattle.vm_model.specs.declared.event.Event.TheVariants as event
use Rattle.sms_server.specs.Stands.{IsOther as IsServerOther}
use Rattle.vm_system.proofs.Apart.{IsAbout}
use Rattle.sms_server.proofs.Acting.{others_recall as recalled_other, others_serve as served_other, others_stand as server_other}
use Rattle.vm_legal.proofs.Turns.{cause_of}
use Rattle.vm_legal.specs.InTurn.{AllRecalled}

-- the history

causes_more : (header : Header) (outside : Outside) (doing : Command) (events past : List Event) → AllInTurn header outside doing events past
    → EachEvent (HasCause header outside) past → EachEvent (HasCause header outside) (events ++ past)
causes_more header outside doing [] past licences old = old
causes_more header outside doing (e ∷ events) past licences old =
    ((doing, cause_of header outside doing e (events ++ past) licences.0.0), causes_more header outside doing events past licences.1 old)

pub lawful_more : (header : Header) (outside : Outside) (doing : Command) (events past : List Event) → AllInTurn header outside doing events past
    → EachIn (OwnBytes header) events past → AllInner events → Lawful header outside past
    → Lawful header outside (events ++ past)
lawful_more header outside doing events past licences own inner old = record {
  causes = causes_more header outside doing events past licences old.causes;
  own_bytes = each_whole (OwnBytes header) events past own old.own_bytes;
  paid = steps_whole (IsPaid header) events past inner old.paid;
}

pub lawful_line : (header : Header) (outside : Outside) (line : ℕ) (past : List Event) → IsPaid header past → Lawful header outside past
    → Lawful header outside (event.Line line ∷ past)
lawful_line header outside line past paid old = record {
  causes = ((command.Settle 0, tt), old.causes);
  own_bytes = (tt, old.own_bytes);
  paid = (paid, old.paid);
}

pub lawful_taken : (header : Header) (outside : Outside) (doing : Command) (channel : Channel) (m : Message) (past : List Event)
    → LicensedInTurn header outside doing (event.Taken channel m) past → IsPaid header past → Lawful header outside past
    → Lawful header outside (event.Taken channel m ∷ past)
lawful_taken header outside doing channel m past licence paid old = record {
  causes = ((doing, licence.0), old.causes);
  own_bytes = (tt, old.own_bytes);
  paid = (paid, old.paid);
}

-- the server

pub server_more : (header : Header) (table : ServerTable) (events past : List Event) → EachOf (IsServerOther header) events → ServerStands header table past
    → ServerStands header table (events ++ past)
server_more header table [] past other stands = stands
server_more header table (e ∷ events) past other stands =
    server_other header table e (events ++ past) other.0 (server_more header table events past other.1 stands)

pub served_more : (header : Header) (events past : List Event) → EachOf (IsServerOther header) events → AllServed header past
    → AllServed header (events ++ past)
served_more header [] past other served = served
served_more header (e ∷ events) past other served = served_other header e (events ++ past) other.0 (served_more header events past other.1 served)

pub recalled_more : (header : Header) (events past : List Event) → EachOf (IsServerOther header) events → AllRecalled header past
    → AllRecalled header (events ++ past)
recalled_more header [] past other recalled = recalled
recalled_more header (e ∷ events) past other recalled = recalled_other header e (events ++ past) other.0 (recalled_more header events past other.1 recalled)

-- it has no part in what is about an object that isn't shared

other_about : (header : Header) (object : ObjectId) (e : Event) → is_shared header object.0 ≡ false → IsAbout object e → IsServerOther header e
other_about header object (event.Sent (Down host o control) m) plain about = subst (λ (z : ObjectId). is_shared header z.0 ≡ false) (sym about) plain
other_about header object (event.Sent (Up host o) m) plain about = absurd about
other_about header object (event.DeviceFailed who way o page) plain about = tt
other_about header object (event.NoSlot o page) plain about = tt
other_about header object other plain about = absurd about

pub others_about : (header : Header) (object : ObjectId) (events : List Event) → is_shared header object.0 ≡ false → EachOf (IsAbout object) events
    → EachOf (IsServerOther header) events
others_about header object [] plain about = tt
others_about header object (e ∷ events) plain about = (other_about header object e plain about.0, others_about header object events plain about.1)

-- it has no part in what the kernels say

other_said : (header : Header) (e : Event) (past : List Event) → SomeKernelSays header e past → IsServerOther header e
other_said header (event.Taken (Up host object) m) past said = absurd said.says
other_said header (event.Sent (Down host object control) m) past said = absurd said.says
other_said header other past said = tt

pub others_said : (header : Header) (events past : List Event) → EachIn (SomeKernelSays header) events past → EachOf (IsServerOther header) events
others_said header [] past said = tt
others_said header (e ∷ events) past said = (other_said header e (events ++ past) said.0, others_said header events past said.1)
