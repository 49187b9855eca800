-- A message that stands in front on a channel up is taken, and somebody answers it, or nobody: what all answers have in common.
use Rattle.vm_system.proofs.Common.{AllFilesServe, AllInTurn, AllServe, AllServed, ChannelId, Content, Device, EachIn, EachOf, Event, Followed, FramesSuffice}
use Rattle.vm_system.proofs.Common.{Going, Header, HostId, IsConsequence, IsHostLetter, IsOrderly, IsPaid, LicensedInTurn, List, MayTake, MayTakeFrom, Message}
use Rattle.vm_system.proofs.Common.{MomentsIn, ObjectId, Option, OwnBytes, PagerHasAnswered, PagingIsKept, Posts, ServerStands, SlotTable, SlotsFit, Some}
use Rattle.vm_system.proofs.Common.{SparesFiles, SparesPaging, State, Step, Told, Took, Up, [], ap, append_assoc, content_of, devices, each_both, false, first}
use Rattle.vm_system.proofs.Common.{gives_frame, inl, inner_both, is_file, is_shared, licensed_both, moments_both, named, others, others_carry, queue, refl}
use Rattle.vm_system.proofs.Common.{reverse, slice_get, subst, sym, true, ℕ, ◌++◌, ◌<◌, ◌∙◌, ◌∷◌, ◌≡◌}
use Rattle.vm_system.specs.Posts.{SameHosts}
use Rattle.vm_system.proofs.Common.{Channel, Listed}
use Rattle.vm_legal.specs.InTurn.{AllRecalled}
use Rattle.vm_model.specs.declared.event.Device.TheVariants.{Files, Paging}
use Rattle.vm_model.specs.declared.event.Event.TheVariants as event
use Rattle.sms_server.proofs.Acting.{others_recall as recalled_other, others_serve as served_other, others_stand as server_other}
use Rattle.vm_system.proofs.Answering.{IsReply, reply_consequences, reply_frames, reply_inner, reply_nobodys, reply_own}
use Rattle.vm_system.proofs.Apart.{IsAbout, apart_of, declared_fit, declared_stand}
use Rattle.vm_system.proofs.Filing.{carry_about, files_about}
use Rattle.vm_system.proofs.Following.{filed_spares, kept_at, same_declared}
use Rattle.vm_system.proofs.Lawfulness.{lawful_more, lawful_taken, others_about, recalled_more, served_more, server_more}
use Rattle.vm_system.proofs.Letters.{letter_first, orderly_taken, washed_out}
use Rattle.vm_system.proofs.Silent.{ends_up}
use Rattle.vm_system.proofs.Taken.{Front, devices_lined, front_carry, front_content, front_of, front_settled, front_suffice, taken_licensed, taken_suffice}
use Rattle.vm_system.proofs.Taken.{takes_step}

-- what stands on a channel up is a host's letter
pub up_letter : (given : Step) (line : Option ℕ) (number : ChannelId) (host : HostId) (object : ObjectId) (m : Message) (s : State)
    → MayTakeFrom given line number (Up host object) s
    → first (queue (Up host object) given.past) ≡ Some m → IsHostLetter given.header given.past (record { channel = Up host object; message = m })
up_letter given line number host object m s may head =
    let front = front_of given line number (Up host object) s may in
    letter_first given.header (Up host object) m given.past front.orderly head

-- its taking has its cause
pub taking_licence : (given : Step) (host : HostId) (object : ObjectId) (m : Message) (s : State) → Front given s
    → first (queue (Up host object) given.past) ≡ Some m → MayTake given.command (Up host object) given.past
    → LicensedInTurn given.header given.outside given.command (event.Taken (Up host object) m) given.past
taking_licence given host object m s front head may =
    taken_licensed given.header given.outside given.command (Up host object) m given.past head may (front_settled given s front)

-- the answer to a message that stands in front: events of a pager, about the message's object, each with its cause
pub record Replied (by : Device) (given : Step) (host : HostId) (object : ObjectId) (m : Message) (s : State) (events : List Event) : Type 0 where
  pub front : Front given s
  pub head : first (queue (Up host object) given.past) ≡ Some m
  pub may : MayTake given.command (Up host object) given.past
  pub replies : EachOf (IsReply by) events
  pub about : EachOf (IsAbout object) events
  pub licensed : AllInTurn given.header given.outside given.command events (event.Taken (Up host object) m ∷ given.past)

-- no default pager has a part in what is said of a declared object

pub paged_apart : (by : Device) (given : Step) (host : HostId) (object : ObjectId) (m : Message) (s : State) (events : List Event)
    → Replied by given host object m s events → object.0 < named given.header
    → AllServe given.header s.pagers.items (events ++ event.Taken (Up host object) m ∷ given.past)
paged_apart by given host object m s events reply low =
    let taken = event.Taken (Up host object) m in
    record {
      numbered = reply.front.pagers.numbered;
      stand =
          λ h pager at. declared_stand given.header h pager object events (taken ∷ given.past) low reply.about
          (others given.header h pager taken given.past (inl low) (reply.front.pagers.stand h pager at));
    }

pub spares_paging : (by : Device) (given : Step) (line : Option ℕ) (number : ChannelId) (host : HostId) (object : ObjectId) (m : Message) (s now : State)
    (events : List Event) → MayTakeFrom given line number (Up host object) s → Replied by given host object m s events → object.0 < named given.header
    → devices Paging (events ++ event.Taken (Up host object) m ∷ given.past) ≡ devices Paging (event.Taken (Up host object) m ∷ given.past)
    → now.pagers.items ≡ s.pagers.items → now.history.items ≡ events ++ event.Taken (Up host object) m ∷ given.past
    → SparesPaging given.header given.outside s now
spares_paging by given line number host object m s now events may reply low silent pagers items = record {
  kept =
      λ areas kept. kept_at header given.outside areas now s.pagers.items (events ++ past) pagers items (paged_apart by given host object m s events reply low)
      kept.told (λ on h pager at. fit areas kept on h pager at);
  devices = ap (devices Paging) items ∙ silent ∙ ap (devices Paging) may.past ∙ devices_lined Paging line s.history.items;
}
  where
    header : Header
    header = given.header

    past : List Event
    past = event.Taken (Up host object) m ∷ given.past

    fit : (areas : List ℕ → Told) → PagingIsKept header given.outside areas s → given.outside.paging ≡ true → (h : ℕ) (pager : SlotTable)
        → slice_get s.pagers.items h ≡ Some pager → SlotsFit areas pager (content_of header h (events ++ past))
    fit areas kept on h pager at =
        let told = kept.told on h pager at in
        let own = apart_of header past (orderly_taken header (Up host object) m given.past reply.front.orderly reply.head) h in
        let over = others_carry header h pager (event.Taken (Up host object) m) given.past areas (inl low) own in
        let was = subst (λ (z : Content). SlotsFit areas pager z) (sym (front_content given line number (Up host object) s may h)) (kept.fits on h pager at) in
        declared_fit header h pager object areas events past low reply.about own told (over.fits told was)

-- no file's pager has a part in what is said of another object

pub files_apart : (by : Device) (given : Step) (host : HostId) (object : ObjectId) (m : Message) (s : State) (events : List Event)
    → Replied by given host object m s events → is_file given.header object.0 ≡ false
    → AllFilesServe given.header s.files.items (events ++ event.Taken (Up host object) m ∷ given.past)
files_apart by given host object m s events reply unfiled =
    files_about given.header s.files.items host object m events given.past reply.about unfiled reply.front.files

pub spares_files : (by : Device) (given : Step) (line : Option ℕ) (number : ChannelId) (host : HostId) (object : ObjectId) (m : Message) (s now : State)
    (events : List Event) → MayTakeFrom given line number (Up host object) s → Replied by given host object m s events
    → is_file given.header object.0 ≡ false
    → devices Files (events ++ event.Taken (Up host object) m ∷ given.past) ≡ devices Files (event.Taken (Up host object) m ∷ given.past)
    → now.files.items ≡ s.files.items → now.history.items ≡ events ++ event.Taken (Up host object) m ∷ given.past
    → SparesFiles given.header given.outside s now
spares_files by given line number host object m s now events may reply unfiled silent files items =
    let header = given.header in
    filed_spares header given.outside s now (rw (files, items) (files_apart by given host object m s events reply unfiled))
    (λ start areas carry. rw items (carry_about header start areas host object m events given.past reply.about unfiled
    (front_carry given line number (Up host object) s may start areas carry)))
    (ap (devices Files) items ∙ silent ∙ ap (devices Files) may.past ∙ devices_lined Files line s.history.items)

-- the hosts' part begins

abbrev pub going : Step → HostId → ObjectId → Message → List Event → Going
going given host object m events =
    record { header = given.header; outside = given.outside; command = given.command; past = given.past; front = events ++ event.Taken (Up host object) m ∷ [] }

-- the pagers and the server stand behind the answer, which leaves nothing owed
pub record AnswerStands (header : Header) (s : State) (history : List Event) : Type 0 where
  pub pagers : AllServe header s.pagers.items history
  pub files : AllFilesServe header s.files.items history
  pub server : ServerStands header s.server history
  pub orderly : IsOrderly header history
  pub paid : IsPaid header history
  pub served : AllServed header history
  pub recalled : AllRecalled header history

-- what the message left of the system otherwise
pub record AnswerKeeps (header : Header) (s now : State) (history : List Event) : Type 0 where
  pub declared : now.declared.items ≡ reverse header.objects.items
  pub hosts : now.hosts ≡ s.hosts
  pub size : now.size ≡ header.size
  pub items : now.history.items ≡ history
  pub posts : Posts now now.history.items
  pub log : now.log.items ≡ []

-- a state that differs from it in what answered, and those behind that
pub answer_keeps : (given : Step) (line : Option ℕ) (number : ChannelId) (channel : Channel) (s mid now : State) (history : List Event)
    → MayTakeFrom given line number channel s → mid.declared ≡ s.declared → mid.hosts ≡ s.hosts → mid.size ≡ s.size → mid.log ≡ s.log → SameHosts mid now
    → now.history.items ≡ history → Posts now now.history.items → AnswerKeeps given.header s now history
answer_keeps given line number channel s mid now history may declared hosts size log same items posts = record {
  declared = same_declared mid now same ∙ (rw declared may.stands.agrees.declared);
  hosts = same.hosts ∙ hosts;
  size = same.size ∙ (size ∙ may.stands.agrees.size);
  items = items;
  posts = posts;
  log = ap (λ (z : Listed Event). z.items) (same.log ∙ log) ∙ may.stands.log;
}

pub answered : (by : Device) (given : Step) (host : HostId) (object : ObjectId) (m : Message) (s now : State) (events : List Event)
    → Replied by given host object m s events → AnswerStands given.header now (events ++ event.Taken (Up host object) m ∷ given.past)
    → AnswerKeeps given.header s now (events ++ event.Taken (Up host object) m ∷ given.past)
    → PagerHasAnswered (going given host object m events) host (gives_frame m) now
answered by given host object m s now events reply stands keeps =
    let header = given.header in
    let front = reply.front in
    let taken = event.Taken (Up host object) m in
    let past = taken ∷ given.past in
    let licence = taking_licence given host object m s front reply.head reply.may in
    record {
      built = front.built;
      is = keeps.items ∙ sym (append_assoc events (taken ∷ []) given.past);
      rests = rw keeps.hosts front.rests;
      agrees = record {
        size = keeps.size;
        declared = keeps.declared;
        pagers = rw keeps.items stands.pagers;
        files = rw keeps.items stands.files;
        server = rw keeps.items stands.server;
        posts = keeps.posts;
        orderly = rw keeps.items stands.orderly;
        lawful =
            rw keeps.items (lawful_more header given.outside given.command events past reply.licensed (reply_own header by events past reply.replies)
            (reply_inner by events reply.replies)
            (lawful_taken header given.outside given.command (Up host object) m given.past licence front.paid front.lawful));
      };
      paid = rw keeps.items stands.paid;
      served = rw keeps.items stands.served;
      recalled = rw keeps.items stands.recalled;
      log = keeps.log;
      answers = record {
        known = (letter_first header (Up host object) m given.past front.orderly reply.head).0;
        object = object;
        m = m;
        told = events;
        is = refl;
        gives = refl;
        out = λ washed. washed_out header host.0 object m given.past front.orderly reply.head washed;
        nobodys = reply_nobodys by events reply.replies;
        inner = reply_inner by events reply.replies;
        licensed = licensed_both header given.outside given.command events (taken ∷ []) given.past reply.licensed (licence, tt);
      };
    }

-- the server has no part in what is said of an object that isn't shared
pub stands_unshared : (by : Device) (given : Step) (host : HostId) (object : ObjectId) (m : Message) (s now : State) (events : List Event)
    → Replied by given host object m s events → is_shared given.header object.0 ≡ false
    → AllServe given.header now.pagers.items (events ++ event.Taken (Up host object) m ∷ given.past)
    → AllFilesServe given.header now.files.items (events ++ event.Taken (Up host object) m ∷ given.past) → now.server ≡ s.server
    → IsOrderly given.header (events ++ event.Taken (Up host object) m ∷ given.past)
    → IsPaid given.header (events ++ event.Taken (Up host object) m ∷ given.past)
    → AnswerStands given.header now (events ++ event.Taken (Up host object) m ∷ given.past)
stands_unshared by given host object m s now events reply plain pagers files server orderly paid =
    let header = given.header in
    let front = reply.front in
    let taken = event.Taken (Up host object) m in
    let past = taken ∷ given.past in
    let silent = others_about header object events plain reply.about in
    record {
      pagers = pagers;
      files = files;
      server = rw server (server_more header s.server events past silent (server_other header s.server taken given.past plain front.server));
      orderly = orderly;
      paid = paid;
      served = served_more header events past silent (served_other header taken given.past plain front.served);
      recalled = recalled_more header events past silent (recalled_other header taken given.past plain front.recalled);
    }

-- the hosts went on behind the answer
pub took : (by : Device) (given : Step) (host : HostId) (object : ObjectId) (m : Message) (s new : State) (events : List Event)
    → Replied by given host object m s events → Followed (going given host object m events) new → Took given new
took by given host object m s new events reply followed =
    let header = given.header in
    let outside = given.outside in
    let doing = given.command in
    let past = event.Taken (Up host object) m ∷ given.past in
    let suffice = front_suffice given s reply.front in
    let same : (events ++ event.Taken (Up host object) m ∷ []) ++ given.past ≡ events ++ past = append_assoc events (event.Taken (Up host object) m ∷ [])
    given.past in
    let more = followed.more in
    let stretch = followed.follows.stretch in
    let items : new.history.items ≡ more ++ (events ++ past) = followed.is ∙ ap (λ (z : List Event). more ++ z) same in
    let licensed = licensed_both header outside doing more events past (subst (λ (z : List Event). AllInTurn header outside doing more z) same stretch.licensed)
    reply.licensed in
    let own = each_both (OwnBytes header) more events past (subst (λ (z : List Event). EachIn (OwnBytes header) more z) same stretch.own_bytes)
    (reply_own header by events past reply.replies) in
    let frames = moments_both (FramesSuffice header) more events past (subst (λ (z : List Event). MomentsIn (FramesSuffice header) more z) same stretch.frames)
    (reply_frames header by events past reply.replies (taken_suffice header (Up host object) m given.past suffice)) in
    record {
      stands = followed.stands;
      step =
          takes_step given (Up host object) m (more ++ events) new.history.items (items ∙ sym (append_assoc more events past)) reply.head reply.may
          (front_settled given s reply.front) suffice
          (each_both IsConsequence more events past (subst (λ (z : List Event). EachIn IsConsequence more z) same followed.follows.follows)
          (reply_consequences by events past reply.replies)) licensed own frames (inner_both more events stretch.inner (reply_inner by events reply.replies));
      prompt = followed.prompt;
      paid = followed.stands.paid;
      ended =
          rw (items ∙ sym (append_assoc more events past)) (ends_up header host object m (more ++ events) given.past
          (inner_both more events stretch.inner (reply_inner by events reply.replies)));
      turns = followed.turns;
    }
