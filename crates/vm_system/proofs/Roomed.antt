-- A step takes its memory in front: nothing but room changes, and where memory is wanting nothing is done.
use Rattle.vm_system.proofs.Common.{AllQueued, AllRest, ArmedLater, Arming, Breadth, Channel, ChannelId, Event, HasRoom, Header, HostId, HostTable, IsReady}
use Rattle.vm_system.proofs.Common.{IsSent, List, Listed, Makes, MayTakeFrom, Message, None, Numbered, ObjectId, OnErr, OnlyRoom, Option, Outside, Result}
use Rattle.vm_system.proofs.Common.{SameHosts, ServerStands, ServerTable, Some, Spares, StandsStill, State, Step, SystemStands, [], ap, arith, lined, refl}
use Rattle.vm_system.proofs.Common.{slice_get, subst, sym, ℕ, ◌++◌, ◌+◌, ◌∙◌, ◌∷◌, ◌≡◌, ◌≤◌}
use Rattle.sms_server.specs.Answers.{most_told}
use Rattle.sms_server.specs.Table.{IsSameTable}
use Rattle.vm_ports.specs.Ports.{queue as queue_on, spare_channels}
use Rattle.vm_ports.specs.declared.letter.Letter.{Letter as Posted}
use Rattle.vm_hosts.proofs.Tables.{common_all, kernel_of}
use Rattle.vm_kernel.specs.Matches.{Matches, Rests}
use Rattle.vm_kernel.specs.declared.parts.Parts.{Parts}
use Rattle.vm_model.specs.declared.event.Event.TheVariants as event
use Rattle.sms_server.proofs.Serving.{same_stands}
use Rattle.std.specs.Prelude.{Err, Ok, ◌*◌}
use Rattle.vm_outside.specs.Arming.{KeepsArming}
use Rattle.vm_system.proofs.Following.{same_all}

-- a system that has more room stands for what it stood for
pub stands_roomed : (header : Header) (outside : Outside) (s t : State) → OnlyRoom s t → SystemStands header outside s → SystemStands header outside t
stands_roomed header outside s t same stands =
    let agrees = stands.agrees in
    let posts = agrees.posts in
    record {
      built = stands.built;
      rests = rw same.history (same.rests header s.history.items stands.rests);
      queues = rw same.history (same.queues header s.history.items stands.rests stands.queues);
      agrees = record {
        size = same.size ∙ agrees.size;
        declared = rw same.declared agrees.declared;
        pagers = rw (same.pagers, same.history) agrees.pagers;
        files = rw (same.files, same.history) agrees.files;
        posts = record {
          channels = λ c. rw (same.made, same.history) (posts.channels c);
          count = rw (same.made, same.numbers) posts.count;
          letters = rw (same.made, same.letters, same.history) posts.letters;
          pages = rw (same.size, same.history) posts.pages;
          buffers = same.buffers ∙ posts.buffers ∙ sym same.size;
        };
        server = rw (same.server, same.history) agrees.server;
        orderly = rw same.history agrees.orderly;
        lawful = rw same.history agrees.lawful;
      };
      paid = rw same.history stands.paid;
      served = rw same.history stands.served;
      recalled = rw same.history stands.recalled;
      log = same.log ∙ stands.log;
    }

pub still_roomed : (header : Header) (outside : Outside) (s t : State) → OnlyRoom s t → SystemStands header outside s → StandsStill header outside s t
still_roomed header outside s t same stands = (stands_roomed header outside s t same stands, same.history)

pub roomed_pagers : (s t : State) → OnlyRoom s t → t.pagers.items ≡ s.pagers.items
roomed_pagers s t same = rw same.pagers refl

pub roomed_files : (s t : State) → OnlyRoom s t → t.files.items ≡ s.files.items
roomed_files s t same = rw same.files refl

-- the pagers have no part in that
pub spares_roomed : (header : Header) (outside : Outside) (s t : State) → OnlyRoom s t → Spares header outside s t
spares_roomed header outside s t same = same_all header outside s t (roomed_pagers s t same) (roomed_files s t same) same.history

pub may_roomed : (given : Step) (line : Option ℕ) (number : ChannelId) (channel : Channel) (s t : State) → MayTakeFrom given line number channel s
    → OnlyRoom s t → MayTakeFrom given line number channel t
may_roomed given line number channel s t may same = record {
  stands = stands_roomed given.header given.outside s t same may.stands;
  past = may.past ∙ ap (λ (z : List Event). lined line z) (sym same.history);
  made = rw same.made may.made;
  may = may.may;
  some = rw same.history may.some;
}

-- so is a server that has more memory at hand

pub server_same : (header : Header) (old new : ServerTable) (past : List Event) → IsSameTable old new → ServerStands header old past
    → ServerStands header new past
server_same header old new past same stands = record {
  size = same.size ∙ stands.size;
  pages = λ o p shared. same_stands header.size _ _ _ (same.pages o p).directory (stands.pages o p shared);
  heard = λ o p shared h. (same.pages o p).heard h ∙ stands.heard o p shared h;
}

pub stands_server : (header : Header) (outside : Outside) (s t : State) (table : ServerTable) → t ≡ record s { server = table } → IsSameTable s.server table
    → SystemStands header outside s → SystemStands header outside t
stands_server header outside s t table is same stands =
    let agrees = stands.agrees in
    let posts = agrees.posts in
    rw is (record {
      built = stands.built;
      rests = stands.rests;
      queues = stands.queues;
      agrees = record {
        size = agrees.size;
        declared = agrees.declared;
        pagers = agrees.pagers;
        files = agrees.files;
        posts = record { channels = posts.channels; count = posts.count; letters = posts.letters; pages = posts.pages; buffers = posts.buffers };
        server = server_same header s.server table s.history.items same agrees.server;
        orderly = agrees.orderly;
        lawful = agrees.lawful;
      };
      paid = stands.paid;
      served = stands.served;
      recalled = stands.recalled;
      log = stands.log;
    })

pub may_server : (given : Step) (line : Option ℕ) (number : ChannelId) (channel : Channel) (s t : State) (table : ServerTable) → t ≡ record s { server = table }
    → MayTakeFrom given line number channel s → IsSameTable s.server table
    → MayTakeFrom given line number channel t
may_server given line number channel s t table is may same = record {
  stands = stands_server given.header given.outside s t table is same may.stands;
  past = rw is may.past;
  made = rw is may.made;
  may = may.may;
  some = rw is may.some;
}

-- so is one whose hosts and log are others, that stand for the same

pub stands_kept : (header : Header) (outside : Outside) (s : State) (hosts : HostTable) (log : Listed Event) → SystemStands header outside s
    → AllRest header hosts s.history.items → AllQueued header hosts s.history.items → log.items ≡ []
    → SystemStands header outside (record s { hosts = hosts; log = log })
stands_kept header outside s hosts log stands rests queues none =
    let agrees = stands.agrees in
    let posts = agrees.posts in
    record {
      built = stands.built;
      rests = rests;
      queues = queues;
      agrees = record {
        size = agrees.size;
        declared = agrees.declared;
        pagers = agrees.pagers;
        files = agrees.files;
        posts = record { channels = posts.channels; count = posts.count; letters = posts.letters; pages = posts.pages; buffers = posts.buffers };
        server = agrees.server;
        orderly = agrees.orderly;
        lawful = agrees.lawful;
      };
      paid = stands.paid;
      served = stands.served;
      recalled = stands.recalled;
      log = none;
    }

-- what hosts stand for behind a line they stand for in front of it, where others did

module _ (header : Header) (hosts new : HostTable) (line : ℕ) (past : List Event) (all : AllRest header hosts past)
    (later : AllRest header new (event.Line line ∷ past)) where
  matches_unlined : (h : ℕ) (k : Parts) → Matches header h k new.ids [] (event.Line line ∷ past) → Matches header h k new.ids [] past
  matches_unlined h k m =
      let common = common_all header hosts past all in
      let old = kernel_of header hosts past all h m.core.setting.known in
      record {
        core = record {
          setting = m.core.setting;
          fits = m.core.fits;
          spaces = m.core.spaces;
          objects = m.core.objects;
          copied = m.core.copied;
          controls = m.core.controls;
          flags = m.core.flags;
          calm = (all.rests h old.0 old.1).matches.core.calm;
          pages = m.core.pages;
        };
        settled = common.settled;
        replied = common.replied;
      }

  rests_unlined : (h : ℕ) (k : Parts) → Rests header h k new.ids (event.Line line ∷ past) → Rests header h k new.ids past
  rests_unlined h k r =
      record {
        matches = matches_unlined h k r.matches;
        used = r.used;
        referred = r.referred;
        thin = r.thin;
        waits = r.waits;
        order = r.order;
        idle = r.idle;
      }

  pub all_unlined : AllRest header new past
  all_unlined = record {
    ranged = all.ranged;
    count = later.count;
    rests = λ h k found. rests_unlined h k (later.rests h k found);
    sound = all.sound;
    tasks = all.tasks;
    homes = all.homes;
  }

  pub queued_unlined : AllQueued header new (event.Line line ∷ past) → AllQueued header new past
  queued_unlined queued = queued

-- what a step makes of a system with more room it makes of the system
pub makes_roomed : (header : Header) (outside : Outside) (numbered : Numbered) (s t new : State) → t.history.items ≡ s.history.items
    → Makes header outside numbered t new → Makes header outside numbered s new
makes_roomed header outside numbered s t new same makes = record {
  stands = makes.stands;
  legal = rw (sym same) makes.legal;
  prompt = rw (sym same) makes.prompt;
  grew = rw (sym same) makes.grew;
  front = rw (sym same) makes.front;
}

-- room for more is room for fewer
pub fewer_room : (n m : ℕ) (s : State) → n ≤ m → HasRoom m s → HasRoom n s
fewer_room n m s less room = record {
  history = omega (arith, less, room.history);
  channels = omega (arith, less, room.channels);
  numbers = omega (arith, less, room.numbers);
  letters = omega (arith, less, room.letters);
}

-- the hosts' room is there still, where hosts and log are as they were
pub ready_still : (acting : Option HostId) (breadth : Breadth) (most : ℕ) (s t : State) → t.hosts ≡ s.hosts → t.log ≡ s.log
    → IsReady acting breadth most s.hosts s.log.room → IsReady acting breadth most t.hosts t.log.room
ready_still acting breadth most s t hosts log ready = rw (hosts, log) ready

-- behind the taking and its line there is room for the rest

abbrev pub LeavesRoom : ℕ → State → State → Type 0
LeavesRoom k s t = (n : ℕ) → n + k ≤ s.history.room → 2 * (n + k) ≤ s.channels.room → 2 * (n + k) ≤ spare_channels s.ports → n + k ≤ s.ports.room → HasRoom n t

less_room : (k n m : ℕ) (s t : State) → n + k ≤ m → HasRoom m s → LeavesRoom k s t → HasRoom n t
less_room k n m s t few room less = let now = fewer_room (n + k) m s few room in less n now.history now.channels now.numbers now.letters

pub behind_first : (most more : ℕ) (s t : State) → HasRoom (most + (more + 2)) s → LeavesRoom 2 s t → HasRoom (most + more) t
behind_first most more s t room less = less_room 2 (most + more) (most + (more + 2)) s t (omega arith) room less

pub behind_all : (most : ℕ) (s t : State) → HasRoom (most + 2) s → LeavesRoom 2 s t → HasRoom most t
behind_all most s t room less = less_room 2 most (most + 2) s t (omega arith) room less

-- and behind what a pager answers there is room for what the hosts do
pub behind_answers : (most more long : ℕ) (s t : State) → long ≤ more → HasRoom (most + more) s → ((n : ℕ) → HasRoom (n + long) s → HasRoom n t)
    → HasRoom most t
behind_answers most more long s t few room less = less most (fewer_room (most + long) (most + more) s (omega (arith, few)) room)

pub room_for : (most more n : ℕ) (s : State) → n ≤ more → HasRoom (most + more) s → HasRoom n s
room_for most more n s few room = fewer_room n (most + more) s (omega (arith, few)) room

-- a backing whose arming came no nearer reached no armed call
pub still_armed : (l r m s : ℕ) → ArmedLater l r m s → m ≡ l → s ≡ r
still_armed l r m s later same = grind arith

-- parts that are as they were stand for what they stood for
pub still_alike : (header : Header) (outside : Outside) (s t u : State) → StandsStill header outside s t → u.size ≡ t.size → u.hosts ≡ t.hosts
    → u.pagers.items ≡ t.pagers.items → u.declared.items ≡ t.declared.items → u.files.items ≡ t.files.items
    → u.server ≡ t.server → u.ports ≡ t.ports → u.channels ≡ t.channels → u.buffers ≡ t.buffers → u.history ≡ t.history → u.log ≡ t.log
    → StandsStill header outside s u
still_alike header outside s t u still size hosts pagers declared files server ports channels buffers history log =
    let stands = still.0 in
    let agrees = stands.agrees in
    let posts = agrees.posts in (
      record {
        built = stands.built;
        rests = rw (hosts, history) stands.rests;
        queues = rw (hosts, history) stands.queues;
        agrees = record {
          size = size ∙ agrees.size;
          declared = declared ∙ agrees.declared;
          pagers = rw (pagers, history) agrees.pagers;
          files = rw (files, history) agrees.files;
          posts = record {
            channels = λ c. rw (channels, history) (posts.channels c);
            count = rw (channels, ports) posts.count;
            letters = rw (channels, ports, history) posts.letters;
            pages = rw (size, history) posts.pages;
            buffers = rw (buffers, size) posts.buffers;
          };
          server = rw (server, history) agrees.server;
          orderly = rw history agrees.orderly;
          lawful = rw history agrees.lawful;
        };
        paid = rw history stands.paid;
        served = rw history stands.served;
        recalled = rw history stands.recalled;
        log = rw log stands.log;
      },
      rw history still.1,
    )

-- a server that has more memory at hand is all that has changed

pub still_server : (header : Header) (outside : Outside) (s u : State) → u ≡ record s { server = u.server } → SystemStands header outside s
    → IsSameTable s.server u.server → StandsStill header outside s u
still_server header outside s u is stands same = (stands_server header outside s u u.server is same stands, ap (λ (z : State). z.history.items) is)

pub spares_server : (header : Header) (outside : Outside) (s u : State) → u ≡ record s { server = u.server } → Spares header outside s u
spares_server header outside s u is =
    same_all header outside s u (ap (λ (z : State). z.pagers.items) is) (ap (λ (z : State). z.files.items) is) (ap (λ (z : State). z.history.items) is)

-- the first message of a channel is still its first
pub head_still : (number : ChannelId) (index : ℕ) (s u t : State) → u ≡ record s { server = u.server } → t.ports.letters ≡ u.ports.letters
    → slice_get (queue_on number.0 s.ports.letters) 0 ≡ Some index → slice_get (queue_on number.0 t.ports.letters) 0 ≡ Some index
head_still number index s u t is letters =
    subst (λ (z : List (Posted ℕ)). slice_get (queue_on number.0 z) 0 ≡ Some index) (sym (letters ∙ ap (λ (z : State). z.ports.letters) is))

-- the answer to the first message has no more events than were foretold
pub shared_few : (given : Step) (line : Option ℕ) (number : ChannelId) (channel : Channel) (object : ObjectId) (index : ℕ) (m : Message) (most long : ℕ)
    (s u t : State) → MayTakeFrom given line number channel s → MayTakeFrom given line number channel t
    → u ≡ record s { server = u.server } → t.history.items ≡ u.history.items → t.server ≡ u.server → (c : Channel) × IsSent t.history.items index c m
    → ((c : Channel) (n : Message) → IsSent s.history.items index c n → most ≡ most_told object.0 n u.server) → long ≤ most_told object.0 m t.server
    → long ≤ most
shared_few given line number channel object index m most long s u t may any is history server read told few =
    let items : t.history.items ≡ s.history.items = history ∙ ap (λ (z : State). z.history.items) is in
    let sent : IsSent s.history.items index read.0 m = subst (λ (z : List Event). IsSent z index read.0 m) items read.1 in
    let same : most_told object.0 m t.server ≡ most_told object.0 m u.server = ap (λ (z : ServerTable). most_told object.0 m z) server in
    let is_most = told read.0 m sent in
    omega (arith, same, is_most, few)

-- a line, and the log behind it

pub line_and_log : (t : State) (hosts : HostTable) (log : Listed Event) (told new : State) → SameHosts (record t { hosts = hosts; log = log }) told
    → SameHosts (record told { log = new.log }) new → SameHosts (record t { hosts = hosts; log = new.log }) new
line_and_log t hosts log told new one two =
    record {
      size = two.size ∙ one.size;
      hosts = two.hosts ∙ one.hosts;
      pagers = two.pagers ∙ one.pagers;
      declared = two.declared ∙ one.declared;
      files = two.files ∙ one.files;
      server = two.server ∙ one.server;
      log = refl;
    }

pub line_then_log : (line : ℕ) (events : List Event) (t told new : State) → told.history.items ≡ event.Line line ∷ t.history.items → told.log.items ≡ events
    → new.history.items ≡ told.log.items ++ told.history.items
    → new.history.items ≡ events ++ event.Line line ∷ t.history.items
line_then_log line events t told new lined logged grown =
    grown ∙ ap (λ (z : List Event). z ++ told.history.items) logged ∙ ap (λ (z : List Event). events ++ z) lined

pub tells_line : (most long : ℕ) (t told : State) → long ≤ most → HasRoom (most + 1) t → LeavesRoom 1 t told → HasRoom long told
tells_line most long t told few room less = less_room 1 long (most + 1) t told (omega (arith, few)) room less

pub tells_asked : (most long : ℕ) (t told : State) → long ≤ most + 1 → HasRoom (most + 2) t → LeavesRoom 1 t told → HasRoom long told
tells_asked most long t told few room less = less_room 1 long (most + 2) t told (omega (arith, few)) room less

-- with one event in the log there is room for those of the hosts
pub ready_put : (acting : Option HostId) (breadth : Breadth) (most : ℕ) (hosts : HostTable) (old new : ℕ) → IsReady acting breadth most hosts old
    → most + 2 ≤ old → old ≤ new + 1 → IsReady acting breadth most hosts new
ready_put acting breadth most hosts old new ready room less = record { each = ready.each; enough = ready.enough; room = omega (arith, room, less) }

-- where the hosts took nothing, they stand for what they stood for
pub still_taken : (given : Step) (line : Option ℕ) (number : ChannelId) (channel : Channel) (t : State) (hosts : HostTable) (log : Listed Event)
    → MayTakeFrom given line number channel t → AllRest given.header hosts given.past
    → AllQueued given.header hosts given.past → log.items ≡ [] → SystemStands given.header given.outside (record t { hosts = hosts; log = log })
still_taken given None number channel t hosts log may rests queues none =
    stands_kept given.header given.outside t hosts log may.stands (subst (λ (z : List Event). AllRest given.header hosts z) may.past rests)
    (subst (λ (z : List Event). AllQueued given.header hosts z) may.past queues) none
still_taken given (Some line) number channel t hosts log may rests queues none =
    let h = t.history.items in
    let stands = may.stands in
    let lined : AllRest given.header hosts (event.Line line ∷ h) = subst (λ (z : List Event). AllRest given.header hosts z) may.past rests in
    let queued : AllQueued given.header hosts (event.Line line ∷ h) = subst (λ (z : List Event). AllQueued given.header hosts z) may.past queues in
    stands_kept given.header given.outside t hosts log stands (all_unlined given.header t.hosts hosts line h stands.rests lined)
    (queued_unlined given.header t.hosts hosts line h stands.rests lined queued) none

-- making room for events alone

pub only_reserved : (s t : State) → SameHosts s t → t.history.items ≡ s.history.items → t.channels.made ≡ s.channels.made → t.ports.channels ≡ s.ports.channels
    → t.ports.letters ≡ s.ports.letters → t.buffers.size ≡ s.buffers.size → OnlyRoom s t
only_reserved s t same items made numbers letters buffers = record {
  rests = λ header past rests. rw same.hosts rests;
  queues = λ header past rests queues. rw same.hosts queues;
  history = items;
  made = made;
  numbers = numbers;
  letters = letters;
  buffers = buffers;
  log = rw same.log refl;
  size = same.size;
  pagers = same.pagers;
  declared = same.declared;
  files = same.files;
  server = same.server;
}

pub still_reserved : (header : Header) (outside : Outside) (s t : State) → SameHosts s t → t.history.items ≡ s.history.items → t.channels.made ≡ s.channels.made
    → t.ports.channels ≡ s.ports.channels → t.ports.letters ≡ s.ports.letters
    → t.buffers.size ≡ s.buffers.size → SystemStands header outside s → StandsStill header outside s t
still_reserved header outside s t same items made numbers letters buffers stands =
    still_roomed header outside s t (only_reserved s t same items made numbers letters buffers) stands

-- what is so anyway is so where a call failed
pub on_err : {A B P : Type 0} (r : Result A B) → P → OnErr r P
on_err (Ok x) p = tt
on_err (Err e) p = p

pub still_of : (header : Header) (outside : Outside) (s u : State) → SystemStands header outside u → u.history.items ≡ s.history.items
    → StandsStill header outside s u
still_of header outside s u stands same = (stands, same)

pub arming_kept : {B : Type 0} (old new : Arming B) → ArmedLater old.left old.reached new.left new.reached → new.left ≡ old.left → KeepsArming old new
arming_kept old new later same = (same, still_armed old.left old.reached new.left new.reached later same)
