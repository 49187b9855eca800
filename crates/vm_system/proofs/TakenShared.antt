-- A message about a shared object is taken by its server, which answers.
use Rattle.vm_system.proofs.Common.{AllInner, AllInTurn, AreServerWords, Bool, CanTellAll, Channel, ChannelId, Command}
use Rattle.vm_system.proofs.Common.{Device, Down, EachOf, Event, Followed, Header, HostId, IsHostLetter, IsOrderly}
use Rattle.vm_system.proofs.Common.{IsServerWord, IsSharedWord, IsToServer, IsWord, IsWordUp, List, MayTake, MayTakeFrom, Message}
use Rattle.vm_system.proofs.Common.{None, ObjectId, Option, Outside, PagerHasAnswered, ServerAnswer, ServerServes, ServerTable}
use Rattle.vm_system.proofs.Common.{Some, Spares, State, Step, Took, Up, [], ap, arith, devices}
use Rattle.vm_system.proofs.Common.{false, first, gives_frame, host_id, inl, inr, is_made, is_shared, kind_of, length}
use Rattle.vm_system.proofs.Common.{never, page_part, queue, refl, subst, sym}
use Rattle.vm_system.proofs.Common.{taken_letter, taken_more, true, up, ℕ, ◌++◌, ◌<◌, ◌∙◌, ◌∷◌, ◌≡◌, ◌⊎◌, Letter, same_Some}
use Rattle.vm_model.specs.declared.event.Device.TheVariants.{Files, Paging}
use Rattle.vm_model.specs.declared.event.Event.TheVariants as event
use Rattle.vm_model.specs.declared.message.Message.TheVariants as message
use Rattle.vm_base.specs.declared.ids.ObjectKind.{ObjectKind}
use Rattle.vm_base.specs.declared.ids.ObjectKind.TheVariants as kinds
use Rattle.vm_model.specs.PageLicences.{RecallRow}
use Rattle.vm_model.specs.Server.{Wanting, line}
use Rattle.vm_model.specs.Side.{side}
use Rattle.vm_legal.specs.Licences.{PagerSends, ServerSends}
use Rattle.vm_legal.specs.Outside.{is_shared_kind}
use Rattle.sms_server.specs.Stands.{IsCreate}
use Rattle.sms_server.specs.Answers.{ReturnsWhole}
use Rattle.vm_system.proofs.Answering.{IsReply, reply_inner}
use Rattle.vm_system.proofs.Apart.{IsAbout}
use Rattle.vm_shared.proofs.Causes.{licensed}
use Rattle.sms_server.proofs.Whole.{causes as server_causes, recalled as server_recalled, served as server_served, stands as server_stands}
use Rattle.sms_server.proofs.Paying.{paid as server_paid}
use Rattle.vm_system.proofs.Sharing.{protocol_met}
use Rattle.vm_system.proofs.Hearing.{granted, made_all, upgraded}
use Rattle.vm_system.proofs.Lawfulness.{lawful_taken}
use Rattle.vm_system.proofs.Letters.{letter_first, orderly_taken}
use Rattle.vm_system.proofs.Sayings.{AllTold, page_of_answer, sent_down, told_none}
use Rattle.vm_system.proofs.Taken.{Front, front_of}
use Rattle.vm_shared.proofs.Declared.{shared_declared}
use Rattle.vm_shared.proofs.Flat.{shared_no_file}
use Rattle.vm_system.proofs.Replied.{AnswerKeeps, Replied, answered, files_apart, going, paged_apart, spares_files, spares_paging, taking_licence, took}
use Rattle.vm_system.proofs.Replied.{up_letter}

-- what the server answers to a message that stands in front
pub record Shared (given : Step) (host : HostId) (object : ObjectId) (m : Message) (s : State) (old new : ServerTable) (events : List Event) : Type 0 where
  pub front : Front given s
  pub head : first (queue (Up host object) given.past) ≡ Some m
  pub may : MayTake given.command (Up host object) given.past
  pub serves : ServerServes given.header host.0 given.past object m old new events
  pub words : AreServerWords given.header.size object events
  pub licensed : AllInTurn given.header given.outside given.command events (event.Taken (Up host object) m ∷ given.past)

-- what the server is told

to_server : (m : Message) → IsSharedWord m → IsToServer m
to_server (message.Create control size) word = absurd word
to_server m word = word

pub up_shared : (given : Step) (line : Option ℕ) (number : ChannelId) (host : HostId) (object : ObjectId) (m : Message) (s : State)
    → MayTakeFrom given line number (Up host object) s → is_shared given.header object.0 ≡ true
    → first (queue (Up host object) given.past) ≡ Some m → (host.0 < 8) × IsToServer m × ReturnsWhole given.header.size m
up_shared given line number host object m s may shared head =
    let letter = up_letter given line number host object m s may head in
    let few = may.stands.built.ranged.hosts in
    (omega (arith, letter.0, few.1), to_server m (letter.2 shared), whole m letter.1)
  where
    whole : (m : Message) → IsWordUp given.header.size (λ control. is_made (Down host object control) given.past) m → ReturnsWhole given.header.size m
    whole (message.Return control page dirty keep bytes) word = word
    whole m word = tt

pub shared_reply : (given : Step) (line : Option ℕ) (number : ChannelId) (host : HostId) (object : ObjectId) (m : Message) (s : State) (new : ServerTable)
    (events : List Event) → MayTakeFrom given line number (Up host object) s
    → is_shared given.header object.0 ≡ true → first (queue (Up host object) given.past) ≡ Some m → ServerAnswer host.0 object m s.server new events
    → AreServerWords s.server.size object events → Shared given host object m s s.server new events
shared_reply given line number host object m s new events may shared head answered words =
    let header = given.header in
    let front = front_of given line number (Up host object) s may in
    let told = up_shared given line number host object m s may shared head in
    let licence = taking_licence given host object m s front head may.may in
    let lawful = lawful_taken header given.outside given.command (Up host object) m given.past licence front.paid front.lawful in
    let serves : ServerServes header host.0 given.past object m s.server new events = record {
      shared = shared;
      host = told.0;
      to_server = told.1;
      stands = front.server;
      protocol = protocol_met header given.outside host.0 object m given.past shared front.lawful.causes front.lawful.own_bytes front.lawful.paid head;
      licensed = λ page. licensed header given.outside (event.Taken (Up host object) m ∷ given.past) lawful.causes lawful.own_bytes object.0 page shared;
      answered = answered;
    } in
    record {
      front = front;
      head = head;
      may = may.may;
      serves = serves;
      words = subst (λ (z : ℕ). AreServerWords z object events) front.server.size words;
      licensed = server_causes header given.outside given.command host.0 given.past object m s.server new events serves;
    }

-- its events

shared_replies : (size : ℕ) (object : ObjectId) (events : List Event) → AreServerWords size object events → EachOf (IsReply Files) events
shared_replies size object [] words = tt
shared_replies size object (event.Sent (Down host about control) (message.Supply page lock precious bytes) ∷ events) words =
    (tt, shared_replies size object events words.1)
shared_replies size object (event.Sent (Down host about control) (message.Lock page count returns flush lock reply) ∷ events) words =
    (tt, shared_replies size object events words.1)
shared_replies size object (event.Sent (Down host about control) (message.Ready cache strategy) ∷ events) words =
    (tt, shared_replies size object events words.1)
shared_replies size object (event.Sent (Down host about control) m ∷ events) words = absurd words.0.1
shared_replies size object (event.Sent (Up host about) m ∷ events) words = absurd words.0
shared_replies size object (e ∷ events) words = absurd words.0

shared_about : (size : ℕ) (object : ObjectId) (events : List Event) → AreServerWords size object events → EachOf (IsAbout object) events
shared_about size object [] words = tt
shared_about size object (event.Sent (Down host about control) m ∷ events) words = (words.0.0, shared_about size object events words.1)
shared_about size object (event.Sent (Up host about) m ∷ events) words = absurd words.0
shared_about size object (e ∷ events) words = absurd words.0

-- what is sent of a shared object, the server may say
sends_shared : (header : Header) (outside : Outside) (doing : Command) (host object control : ℕ) (m : Message) (past : List Event)
    → is_shared header object ≡ true → PagerSends (kind_of header object) header outside doing host object control m past
    → ServerSends header host object control m past
sends_shared header outside doing host object control m past shared sends = by (kind_of header object) shared sends
  where
    by : (kind : ObjectKind) → is_shared_kind kind ≡ true → PagerSends kind header outside doing host object control m past
        → ServerSends header host object control m past
    by kinds.Temp is sends = never is
    by kinds.File is sends = never is
    by kinds.Shared is sends = sends
    by kinds.Wild is sends = never is

-- and it is a word that a kernel takes
word_shared : (header : Header) (host object control : ℕ) (m : Message) (past : List Event) → IsServerWord header.size m
    → ServerSends header host object control m past → IsWord header.size m
word_shared header host object control (message.Supply page lock precious bytes) past word sends = (by word.0, word.2)
  where
    by : (lock ≡ 0) ⊎ (lock ≡ 2) → lock < 4
    by (inl is) = omega (arith, is)
    by (inr is) = omega (arith, is)
word_shared header host object control (message.Lock page count returns flush lock true) past word sends =
    (let one : returns ≡ 1 = sends.2 in omega (arith, one), by flush (first (line (page_part header.size object page.0 past))) sends.5)
  where
    by : (flush : Bool) (w : Option Wanting) → RecallRow host flush lock (side host (page_part header.size object page.0 past)).holds w → (lock < 4)
        ⊎ (lock ≡ 8)
    by flush None row = absurd row
    by true (Some w) row = inr row.1
    by false (Some w) row = inl (let two : lock ≡ 2 = row.1 in omega (arith, two))
word_shared header host object control (message.Lock page count returns flush lock false) past word sends =
    (let none : returns ≡ 0 = sends.2 in omega (arith, none), inl (let free : lock ≡ 0 = sends.4 in omega (arith, free)))
word_shared header host object control (message.Ready cache strategy) past word sends = tt
word_shared header host object control m past word sends = absurd word

-- the host is one of the header's, and a channel leads down to the control
abbrev IsServed : Header → ℕ → ℕ → ℕ → List Event → Type 0
IsServed header host object control past = (host < length header.frames.items) × (is_made (Down (host_id host) (record { 0 = object }) control) past ≡ true)

-- the control that it is sent to has its channel
heard_shared : (header : Header) (host object control : ℕ) (m : Message) (past : List Event) → IsOrderly header past → is_shared header object ≡ true
    → ((size : ℕ) → taken_letter past ≡ Some (record { channel = up host object; message = message.Init control size })
    → IsServed header host object control past) → ServerSends header host object control m past
    → IsServed header host object control past
heard_shared header host object control (message.Supply page lock precious bytes) past orderly shared greets sends =
    subst (λ (k : ℕ). IsServed header host object k past) (sym sends.0)
    ((orderly.heard host object page.0 shared).waiter (granted host lock (page_part header.size object page.0 past) header.size control precious bytes sends))
heard_shared header host object control (message.Lock page count returns flush lock true) past orderly shared greets sends =
    subst (λ (k : ℕ). IsServed header host object k past) (sym sends.0) ((orderly.heard host object page.0 shared).holder sends.4)
heard_shared header host object control (message.Lock page count returns flush lock false) past orderly shared greets sends =
    subst (λ (k : ℕ). IsServed header host object k past) (sym sends.0)
    ((orderly.heard host object page.0 shared).waiter (upgraded host (page_part header.size object page.0 past) header.size control count returns lock flush
    sends))
heard_shared header host object control (message.Ready cache strategy) past orderly shared greets (size, plain, once, taken, none) = greets size taken
heard_shared header host object control m past orderly shared greets sends = absurd sends

abbrev host_in : Channel → ℕ
host_in (Up host object) = host.0
host_in (Down host object control) = host.0

abbrev object_in : Channel → ℕ
object_in (Up host object) = object.0
object_in (Down host object control) = object.0

-- what stands in front of an answer of the server, as far as it was told
greeted : (header : Header) (at : HostId) (about : ObjectId) (m : Message) (events past : List Event) → AllInner events
    → IsHostLetter header past (record { channel = Up at about; message = m }) → (host object control size : ℕ)
    → taken_letter (events ++ event.Taken (Up at about) m ∷ past) ≡ Some (record { channel = up host object; message = message.Init control size })
    → IsServed header host object control (events ++ event.Taken (Up at about) m ∷ past)
greeted header at about m events past inner letter host object control size taken =
    let both : Some (record { channel = Up at about; message = m }) ≡ Some (record { channel = up host object; message = message.Init control size }) = sym
    (taken_more events (event.Taken (Up at about) m ∷ past) inner) ∙ taken in
    let one : Letter = record { channel = Up at about; message = m } in
    let other : Letter = record { channel = up host object; message = message.Init control size } in
    let same : one ≡ other = same_Some one other both in
    let here : at.0 ≡ host = ap (λ (z : Letter). host_in z.channel) same in
    let its : about.0 ≡ object = ap (λ (z : Letter). object_in z.channel) same in
    let said : m ≡ message.Init control size = ap (λ (z : Letter). z.message) same in
    let word : IsWordUp header.size (λ k. is_made (Down at about k) past) (message.Init control size) = subst
    (λ (z : Message). IsWordUp header.size (λ k. is_made (Down at about k) past) z) said letter.1 in (
      subst (λ (n : ℕ). n < length header.frames.items) here letter.0,
      made_all (Down (host_id host) (record { 0 = object }) control) events (event.Taken (Up at about) m ∷ past)
          (subst (λ (n : ℕ). is_made (Down (host_id n) (record { 0 = object }) control) past ≡ true) here
          (subst (λ (n : ℕ). is_made (Down at (record { 0 = n }) control) past ≡ true) its word)),
    )

-- the events of an answer can be told, one after another
told_shared : (header : Header) (outside : Outside) (doing : Command) (at : HostId) (object : ObjectId) (m : Message) (events past : List Event)
    → is_shared header object.0 ≡ true → IsOrderly header (event.Taken (Up at object) m ∷ past)
    → IsHostLetter header past (record { channel = Up at object; message = m }) → AreServerWords header.size object events
    → AllInTurn header outside doing events (event.Taken (Up at object) m ∷ past) → AllTold header events (event.Taken (Up at object) m ∷ past)
told_shared header outside doing at object m [] past shared orderly letter words licences = told_none header (event.Taken (Up at object) m ∷ past) orderly
told_shared header outside doing at object m (event.Sent (Down host about control) said ∷ events) past shared orderly letter words licences =
    let front = event.Taken (Up at object) m ∷ past in
    let more = told_shared header outside doing at object m events past shared orderly letter words.1 licences.1 in
    let its : is_shared header about.0 ≡ true = subst (λ (z : ObjectId). is_shared header z.0 ≡ true) (sym words.0.0) shared in
    let inner = reply_inner Files events (shared_replies header.size object events words.1) in
    let sends = sends_shared header outside doing host.0 about.0 control said (events ++ front) its licences.0.0 in
    let served = heard_shared header host.0 about.0 control said (events ++ front) more.orderly its
    (λ size taken. greeted header at object m events past inner letter host.0 about.0 control size taken) sends in
    let word = word_shared header host.0 about.0 control said (events ++ front) words.0.1 sends in
    record {
      orderly = sent_down header host.0 about control said (events ++ front) more.orderly served.0 word (λ is. words.0.1) (λ is. sends);
      can = ((page_of_answer header.size said word, served.1), more.can);
    }
told_shared header outside doing at object m (event.Sent (Up host about) said ∷ events) past shared orderly letter words licences = absurd words.0
told_shared header outside doing at object m (e ∷ events) past shared orderly letter words licences = absurd words.0

shared_told : (given : Step) (host : HostId) (object : ObjectId) (m : Message) (s : State) (old new : ServerTable) (events : List Event)
    → Shared given host object m s old new events → AllTold given.header events (event.Taken (Up host object) m ∷ given.past)
shared_told given host object m s old new events said =
    let orderly = said.front.orderly in
    told_shared given.header given.outside given.command host object m events given.past said.serves.shared
    (orderly_taken given.header (Up host object) m given.past orderly said.head) (letter_first given.header (Up host object) m given.past orderly said.head)
    said.words said.licensed

pub can_reply_shared : (given : Step) (host : HostId) (object : ObjectId) (m : Message) (s : State) (old new : ServerTable) (events : List Event)
    → Shared given host object m s old new events
    → CanTellAll given.header.size events (event.Taken (Up host object) m ∷ given.past)
can_reply_shared given host object m s old new events said = (shared_told given host object m s old new events said).can

-- what its answer has in common with others
replied_shared : (given : Step) (host : HostId) (object : ObjectId) (m : Message) (s : State) (old new : ServerTable) (events : List Event)
    → Shared given host object m s old new events → Replied Files given host object m s events
replied_shared given host object m s old new events said = record {
  front = said.front;
  head = said.head;
  may = said.may;
  replies = shared_replies given.header.size object events said.words;
  about = shared_about given.header.size object events said.words;
  licensed = said.licensed;
}

-- no other pager has a part in it
pub spares_shared : (given : Step) (line : Option ℕ) (number : ChannelId) (host : HostId) (object : ObjectId) (m : Message) (s now : State)
    (old new : ServerTable) (events : List Event) → MayTakeFrom given line number (Up host object) s
    → Shared given host object m s old new events → now.pagers.items ≡ s.pagers.items → now.files.items ≡ s.files.items
    → now.history.items ≡ events ++ event.Taken (Up host object) m ∷ given.past → Spares given.header given.outside s now
spares_shared given line number host object m s now old new events may said pagers files items =
    let replied = replied_shared given host object m s old new events said in
    record {
      paging =
          spares_paging Files given line number host object m s now events may replied (shared_declared given.header object.0 said.serves.shared)
          (silent Paging events said.words) pagers items;
      files =
          spares_files Files given line number host object m s now events may replied (shared_no_file given.header object.0 said.serves.shared)
          (silent Files events said.words) files items;
    }
  where
    past : List Event
    past = event.Taken (Up host object) m ∷ given.past

    silent : (who : Device) (events : List Event) → AreServerWords given.header.size object events → devices who (events ++ past) ≡ devices who past
    silent who [] words = refl
    silent who (event.Sent (Down at about control) n ∷ events) words = silent who events words.1
    silent who (event.Sent (Up at about) n ∷ events) words = absurd words.0
    silent who (e ∷ events) words = absurd words.0

-- no kernel makes a first control of a shared object
uncreated : (given : Step) (host : HostId) (object : ObjectId) (m : Message) (s : State) → Front given s → is_shared given.header object.0 ≡ true
    → first (queue (Up host object) given.past) ≡ Some m → IsCreate m → ⊥
uncreated given host object m s front shared head = by m ((letter_first given.header (Up host object) m given.past front.orderly head).2 shared)
  where
    by : (m : Message) → IsSharedWord m → IsCreate m → ⊥
    by (message.Create control size) word create = word
    by m word create = absurd create

-- the hosts' part begins
pub answered_shared : (given : Step) (host : HostId) (object : ObjectId) (m : Message) (s now : State) (old new : ServerTable) (events : List Event)
    → Shared given host object m s old new events → now.pagers.items ≡ s.pagers.items → now.files.items ≡ s.files.items → now.server ≡ new
    → AnswerKeeps given.header s now (events ++ event.Taken (Up host object) m ∷ given.past)
    → PagerHasAnswered (going given host object m events) host (gives_frame m) now
answered_shared given host object m s now old new events said pagers files server keeps =
    let header = given.header in
    let front = said.front in
    let replied = replied_shared given host object m s old new events said in
    answered Files given host object m s now events replied
    (record {
      pagers = rw pagers (paged_apart Files given host object m s events replied (shared_declared header object.0 said.serves.shared));
      files = rw files (files_apart Files given host object m s events replied (shared_no_file header object.0 said.serves.shared));
      server = rw server (server_stands header host.0 given.past object m old new events said.serves);
      orderly = (shared_told given host object m s old new events said).orderly;
      paid =
          server_paid header host.0 given.past object m old new events said.serves (uncreated given host object m s front said.serves.shared said.head);
      served = server_served header host.0 given.past object m old new events said.serves front.served;
      recalled = server_recalled header host.0 given.past object m old new events said.serves front.recalled;
    }) keeps

-- the hosts went on behind the answer
pub took_shared : (given : Step) (host : HostId) (object : ObjectId) (m : Message) (s new : State) (old table : ServerTable) (events : List Event)
    → Shared given host object m s old table events
    → Followed (going given host object m events) new → Took given new
took_shared given host object m s new old table events said followed =
    took Files given host object m s new events (replied_shared given host object m s old table events said) followed
