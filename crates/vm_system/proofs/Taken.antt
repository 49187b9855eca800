-- A message is taken: what stands in front of that, and its cause.
use Rattle.vm_system.proofs.Common.{AllFilesServe, AllInner, AllInTurn, AllQueued, AllRest, AllServe, AllServed, Bool, Channel, ChannelId, Command, Device}
use Rattle.vm_system.proofs.Common.{Down, EachIn, Event, FileTable, FilesCarry, FramesSuffice, Gives, Header, HostTable, IfSome, IsConsequence, IsServable}
use Rattle.vm_system.proofs.Common.{IsOrderly, IsPaid, IsSent, Lawful, LicensedInTurn, List, MayTake, MayTakeFrom, Message, MomentsIn, None, Option, Outside}
use Rattle.vm_system.proofs.Common.{OwnBytes, ServerStands, ServerTable, SlotTable, Some, State, Step, TakesStep, Told, Up, [], all_lined, all_suffice, ap}
use Rattle.vm_system.proofs.Common.{arith, change_where, content_of, devices, each_both, false, first, frames_after, frames_held, frames_used, is_control}
use Rattle.vm_system.proofs.Common.{length, licensed_both, lined, live_control, local, moments_both, owed, queue, queued_lined, refl, reverse, slice_get, subst}
use Rattle.vm_system.proofs.Common.{suc, sym, taken_down_change, taken_up_change, true, zero, ℕ, ◌++◌, ◌<◌, ◌∙◌, ◌∷◌, ◌≡◌, ◌≤◌}
use Rattle.vm_legal.proofs.Owing.{behind_none}
use Rattle.std.proofs.Common.{◌==◌, ◌&&◌}
use Rattle.vm_model.specs.declared.event.Event.TheVariants as event
use Rattle.vm_model.specs.declared.message.Message.TheVariants as message
use Rattle.vm_ports.specs.Ports.{queue as queue_on}
use Rattle.vm_system.proofs.Agreeing.{carry_other, files_other, serve_other}
use Rattle.sms_server.proofs.Acting.{others_recall as recalled_other, others_serve as served_other, others_stand as server_other}
use Rattle.vm_system.proofs.Lawfulness.{lawful_line}
use Rattle.vm_system.proofs.Silent.{all_settled, paid_inner}
use Rattle.vm_system.proofs.Letters.{orderly_line}
use Rattle.vm_system.proofs.Numbers.{number_read}
use Rattle.vm_system.proofs.Sending.{AreQueued, queue_same, queued_first, queued_none, sent_one}
use Rattle.vm_legal.specs.InTurn.{AllRecalled}

-- a line in front changes nothing

pub queue_lined : (c : Channel) (line : Option ℕ) (past : List Event) → queue c (lined line past) ≡ queue c past
queue_lined c None past = refl
queue_lined c (Some line) past = refl

pub devices_lined : (who : Device) (line : Option ℕ) (past : List Event) → devices who (lined line past) ≡ devices who past
devices_lined who None past = refl
devices_lined who (Some line) past = refl

pub content_lined : (header : Header) (h : ℕ) (line : Option ℕ) (past : List Event) → content_of header h (lined line past) ≡ content_of header h past
content_lined header h None past = refl
content_lined header h (Some line) past = refl

rests_lined : (header : Header) (outside : Outside) (doing : Command) (hosts : HostTable) (line : Option ℕ) (past : List Event) → AllRest header hosts past
    → AllRest header hosts (lined line past)
rests_lined header outside doing hosts None past rests = rests
rests_lined header outside doing hosts (Some line) past rests = all_lined header outside doing hosts line past rests

-- whoever stands in a frame queue does so still
queues_lined : (header : Header) (outside : Outside) (doing : Command) (hosts : HostTable) (line : Option ℕ) (past : List Event) → AllRest header hosts past
    → AllQueued header hosts past → AllQueued header hosts (lined line past)
queues_lined header outside doing hosts None past rests queues = queues
queues_lined header outside doing hosts (Some line) past rests queues = queued_lined header outside doing hosts line past rests queues

orderly_lined : (header : Header) (line : Option ℕ) (past : List Event) → IsOrderly header past → IsOrderly header (lined line past)
orderly_lined header None past orderly = orderly
orderly_lined header (Some line) past orderly = orderly_line header line past orderly

serve_lined : (header : Header) (pagers : List SlotTable) (line : Option ℕ) (past : List Event) → AllServe header pagers past
    → AllServe header pagers (lined line past)
serve_lined header pagers None past serve = serve
serve_lined header pagers (Some line) past serve = serve_other header pagers (event.Line line) past (λ h. tt) serve

files_lined : (header : Header) (files : List FileTable) (line : Option ℕ) (past : List Event) → AllFilesServe header files past
    → AllFilesServe header files (lined line past)
files_lined header files None past serve = serve
files_lined header files (Some line) past serve = files_other header files (event.Line line) past (λ object. tt) serve

carry_lined : (header : Header) (start areas : List ℕ → Told) (line : Option ℕ) (past : List Event) → FilesCarry header start areas past
    → FilesCarry header start areas (lined line past)
carry_lined header start areas None past carry = carry
carry_lined header start areas (Some line) past carry = carry_other header start areas (event.Line line) past (λ object. tt) carry

server_lined : (header : Header) (table : ServerTable) (line : Option ℕ) (past : List Event) → ServerStands header table past
    → ServerStands header table (lined line past)
server_lined header table None past stands = stands
server_lined header table (Some line) past stands = server_other header table (event.Line line) past tt stands

served_lined : (header : Header) (line : Option ℕ) (past : List Event) → AllServed header past → AllServed header (lined line past)
served_lined header None past served = served
served_lined header (Some line) past served = served_other header (event.Line line) past tt served

recalled_lined : (header : Header) (line : Option ℕ) (past : List Event) → AllRecalled header past → AllRecalled header (lined line past)
recalled_lined header None past recalled = recalled
recalled_lined header (Some line) past recalled = recalled_other header (event.Line line) past tt recalled

lawful_lined : (header : Header) (outside : Outside) (line : Option ℕ) (past : List Event) → IsPaid header past → Lawful header outside past
    → Lawful header outside (lined line past)
lawful_lined header outside None past paid lawful = lawful
lawful_lined header outside (Some line) past paid lawful = lawful_line header outside line past paid lawful

paid_lined : (header : Header) (line : Option ℕ) (past : List Event) → IsPaid header past → IsPaid header (lined line past)
paid_lined header None past paid = paid
paid_lined header (Some line) past paid = paid_inner header line past [] tt refl

-- the frames

gives_less : (test : Bool) (held : ℕ) → frames_after (change_where test Gives) held ≤ held
gives_less true held = omega arith
gives_less false held = omega arith

keeps_same : (held : ℕ) → held ≤ held
keeps_same held = omega arith

up_less : (here : Bool) (m : Message) (held : ℕ) → frames_after (taken_up_change here m) held ≤ held
up_less here (message.Return control page dirty keep bytes) held = gives_less _ held
up_less here other held = keeps_same held

down_less : (asked : ℕ → Bool) (m : Message) (held : ℕ) → frames_after (taken_down_change asked m) held ≤ held
down_less asked (message.Unavailable page) held = gives_less _ held
down_less asked (message.Error page reason) held = gives_less _ held
down_less asked other held = keeps_same held

-- a taking takes no frame
taken_less : (header : Header) (h : ℕ) (channel : Channel) (m : Message) (past : List Event)
    → frames_used header h (event.Taken channel m ∷ past) ≤ frames_used header h past
taken_less header h (Up at object) m past =
    let less = up_less (at.0 == h) m (frames_held header h past) in
    omega (arith, less)
taken_less header h (Down at object control) m past =
    let asked : ℕ → Bool = λ page. at.0 == h && (is_control control (live_control h object.0 past) &&
    (local header h (record { object = object.0; page = page }) past).asked) in
    let less = down_less asked m (frames_held header h past) in
    omega (arith, less)

fewer : (most : Option ℕ) (more less : ℕ) → less ≤ more → IfSome most (λ frames. more ≤ frames) → IfSome most (λ frames. less ≤ frames)
fewer None more less le is = tt
fewer (Some frames) more less le is = omega (arith, le, is)

pub taken_suffice : (header : Header) (channel : Channel) (m : Message) (past : List Event) → FramesSuffice header past
    → FramesSuffice header (event.Taken channel m ∷ past)
taken_suffice header channel m past suffice h = fewer (slice_get (reverse header.frames.items) h) _ _ (taken_less header h channel m past) (suffice h)

-- the cause of a taking
pub taken_licensed : (header : Header) (outside : Outside) (doing : Command) (channel : Channel) (m : Message) (past : List Event)
    → first (queue channel past) ≡ Some m → MayTake doing channel past → owed past ≡ None
    → LicensedInTurn header outside doing (event.Taken channel m) past
taken_licensed header outside doing channel m past is may settled = ((is, may), behind_none (event.Taken channel m) past settled)

-- a step that begins with a taking, from what it says behind that
pub takes_step : (given : Step) (channel : Channel) (m : Message) (more new : List Event) → new ≡ more ++ event.Taken channel m ∷ given.past
    → first (queue channel given.past) ≡ Some m → MayTake given.command channel given.past
    → owed given.past ≡ None → FramesSuffice given.header given.past → EachIn IsConsequence more (event.Taken channel m ∷ given.past)
    → AllInTurn given.header given.outside given.command more (event.Taken channel m ∷ given.past)
    → EachIn (OwnBytes given.header) more (event.Taken channel m ∷ given.past)
    → MomentsIn (FramesSuffice given.header) more (event.Taken channel m ∷ given.past) → AllInner more → TakesStep given new
takes_step given channel m more new is head may settled suffice follows licensed own frames inner =
    let taken : List Event = event.Taken channel m ∷ [] in
    let past = given.past in
    record {
      channel = channel;
      m = m;
      more = more;
      is = is;
      follows = follows;
      licensed =
          licensed_both given.header given.outside given.command more taken past licensed
          (taken_licensed given.header given.outside given.command channel m past head may settled, tt);
      own_bytes = each_both (OwnBytes given.header) more taken past own (tt, tt);
      frames = moments_both (FramesSuffice given.header) more taken past frames (taken_suffice given.header channel m past suffice, tt);
      inner = inner;
    }

-- what stands in front of a taking
pub record Front (given : Step) (s : State) : Type 0 where
  pub built : IsServable given.header
  pub rests : AllRest given.header s.hosts given.past
  pub queues : AllQueued given.header s.hosts given.past
  pub pagers : AllServe given.header s.pagers.items given.past
  pub files : AllFilesServe given.header s.files.items given.past
  pub orderly : IsOrderly given.header given.past
  pub server : ServerStands given.header s.server given.past
  pub lawful : Lawful given.header given.outside given.past
  pub paid : IsPaid given.header given.past
  pub served : AllServed given.header given.past
  pub recalled : AllRecalled given.header given.past

pub front_of : (given : Step) (line : Option ℕ) (number : ChannelId) (channel : Channel) (s : State) → MayTakeFrom given line number channel s → Front given s
front_of given line number channel s may =
    let stands = may.stands in
    let agrees = stands.agrees in
    let items = s.history.items in
    record {
      built = stands.built;
      rests = rw may.past (rests_lined given.header given.outside given.command s.hosts line items stands.rests);
      queues = rw may.past (queues_lined given.header given.outside given.command s.hosts line items stands.rests stands.queues);
      pagers = rw may.past (serve_lined given.header s.pagers.items line items agrees.pagers);
      files = rw may.past (files_lined given.header s.files.items line items agrees.files);
      orderly = rw may.past (orderly_lined given.header line items agrees.orderly);
      server = rw may.past (server_lined given.header s.server line items agrees.server);
      lawful = rw may.past (lawful_lined given.header given.outside line items stands.paid agrees.lawful);
      paid = rw may.past (paid_lined given.header line items stands.paid);
      served = rw may.past (served_lined given.header line items stands.served);
      recalled = rw may.past (recalled_lined given.header line items stands.recalled);
    }

pub front_settled : (given : Step) (s : State) → Front given s → owed given.past ≡ None
front_settled given s front = all_settled given.header s.hosts given.past front.rests

pub front_suffice : (given : Step) (s : State) → Front given s → FramesSuffice given.header given.past
front_suffice given s front = all_suffice given.header s.hosts given.past front.rests

-- the contents are those of the history
pub front_content : (given : Step) (line : Option ℕ) (number : ChannelId) (channel : Channel) (s : State) → MayTakeFrom given line number channel s → (h : ℕ)
    → content_of given.header h given.past ≡ content_of given.header h s.history.items
front_content given line number channel s may h =
    ap (λ (z : List Event). content_of given.header h z) may.past ∙ content_lined given.header h line s.history.items

-- and so is what the files have
pub front_carry : (given : Step) (line : Option ℕ) (number : ChannelId) (channel : Channel) (s : State) → MayTakeFrom given line number channel s
    → (start areas : List ℕ → Told) → FilesCarry given.header start areas s.history.items
    → FilesCarry given.header start areas given.past
front_carry given line number channel s may start areas carry = rw may.past (carry_lined given.header start areas line s.history.items carry)

-- the channel's queue is that of its number
may_queue : (given : Step) (line : Option ℕ) (number : ChannelId) (channel : Channel) (s : State) → MayTakeFrom given line number channel s
    → AreQueued channel (queue_on number.0 s.ports.letters) (queue channel s.history.items) s.history.items
may_queue given line number channel s may = queue_same s.channels.made s.ports.letters channel number.0 s.history.items may.stands.agrees.posts.letters may.made

pub may_some : (given : Step) (line : Option ℕ) (number : ChannelId) (channel : Channel) (s : State) → MayTakeFrom given line number channel s
    → queue_on number.0 s.ports.letters ≡ [] → ⊥
may_some given line number channel s may none =
    may.some (queued_none channel (queue_on number.0 s.ports.letters) (queue channel s.history.items) s.history.items
    (may_queue given line number channel s may) none)

-- the message in front, by the index of its event
may_first : (given : Step) (line : Option ℕ) (number : ChannelId) (channel : Channel) (index : ℕ) (s : State) → MayTakeFrom given line number channel s
    → slice_get (queue_on number.0 s.ports.letters) 0 ≡ Some index
    → (m : Message) × (first (queue channel s.history.items) ≡ Some m) × IsSent s.history.items index channel m
may_first given line number channel index s may head =
    queued_first channel (queue_on number.0 s.ports.letters) (queue channel s.history.items) s.history.items index (may_queue given line number channel s may)
    head

pub may_read : (given : Step) (line : Option ℕ) (number : ChannelId) (channel : Channel) (index : ℕ) (s : State) → MayTakeFrom given line number channel s
    → slice_get (queue_on number.0 s.ports.letters) 0 ≡ Some index
    → (c : Channel) × (m : Message) × IsSent s.history.items index c m
may_read given line number channel index s may head = let f = may_first given line number channel index s may head in (channel, f.0, f.2)

pub may_head : (given : Step) (line : Option ℕ) (number : ChannelId) (channel : Channel) (index : ℕ) (m : Message) (s : State)
    → MayTakeFrom given line number channel s → slice_get (queue_on number.0 s.ports.letters) 0 ≡ Some index
    → (c : Channel) × IsSent s.history.items index c m → first (queue channel given.past) ≡ Some m
may_head given line number channel index m s may head read =
    let items = s.history.items in
    let f = may_first given line number channel index s may head in
    let same : queue channel given.past ≡ queue channel items = ap (λ (z : List Event). queue channel z) may.past ∙ queue_lined channel line items in
    ap (λ (z : List Message). first z) same ∙ f.1 ∙ ap (λ (z : Message). Some z) (sym (sent_one items index channel read.0 f.0 m f.2 read.1))

inside : {A : Type 0} → (xs : List A) (n : ℕ) (x : A) → slice_get xs n ≡ Some x → n < length xs
inside [] n x is = absurd (cc)
inside (y ∷ xs) zero x is = omega arith
inside (y ∷ xs) (suc n) x is = let low = inside xs n x is in omega (arith, low)

pub may_there : (given : Step) (line : Option ℕ) (number : ChannelId) (channel : Channel) (s : State) → MayTakeFrom given line number channel s
    → number.0 < length s.channels.made
may_there given line number channel s may = inside s.channels.made number.0 channel (number_read channel s.channels.made number.0 may.made)

-- no other channel has the number
pub may_only : (given : Step) (line : Option ℕ) (number : ChannelId) (channel other : Channel) (s : State) → MayTakeFrom given line number channel s
    → slice_get s.channels.made number.0 ≡ Some other → other ≡ channel
may_only given line number channel other s may is =
    let both : Some other ≡ Some channel = sym is ∙ number_read channel s.channels.made number.0 may.made in
    cc

-- the message that was taken is the one that was looked at
pub first_told : (given : Step) (line : Option ℕ) (number : ChannelId) (channel : Channel) (m : Message) (s mid new : State)
    → MayTakeFrom given line number channel s → first (queue channel given.past) ≡ Some m
    → mid.history.items ≡ s.history.items → mid.channels.made ≡ s.channels.made
    → ((c : Channel) → slice_get mid.channels.made number.0 ≡ Some c → (n : Message) × (first (queue c mid.history.items) ≡ Some n)
    × (new.history.items ≡ event.Taken c n ∷ lined line mid.history.items))
    → new.history.items ≡ event.Taken channel m ∷ given.past
first_told given line number channel m s mid new may head items made told =
    let at : slice_get mid.channels.made number.0 ≡ Some channel = ap (λ (z : List Channel). slice_get z number.0) made
    ∙ number_read channel s.channels.made number.0 may.made in
    let t = told channel at in
    let past : given.past ≡ lined line mid.history.items = may.past ∙ ap (λ (z : List Event). lined line z) (sym items) in
    let queued : first (queue channel given.past) ≡ Some t.0 = ap (λ (z : List Event). first (queue channel z)) past
    ∙ ap (λ (z : List Message). first z) (queue_lined channel line mid.history.items) ∙ t.1 in
    let both : Some t.0 ≡ Some m = sym queued ∙ head in
    let one : t.0 ≡ m = cc in
    t.2 ∙ ap (λ (z : Message). event.Taken channel z ∷ lined line mid.history.items) one ∙ ap (λ (z : List Event). event.Taken channel m ∷ z) (sym past)

pub may_port : (given : Step) (line : Option ℕ) (number : ChannelId) (channel : Channel) (s : State) → MayTakeFrom given line number channel s
    → number.0 < s.ports.channels
may_port given line number channel s may = subst (λ (z : ℕ). number.0 < z) may.stands.agrees.posts.count (may_there given line number channel s may)

-- the channel is the one that was found
pub may_found : (given : Step) (line : Option ℕ) (number : ChannelId) (channel other : Channel) (s : State) → MayTakeFrom given line number channel s
    → slice_get s.channels.made number.0 ≡ Some other → MayTakeFrom given line number other s
may_found given line number channel other s may is =
    subst (λ (z : Channel). MayTakeFrom given line number z s) (sym (may_only given line number channel other s may is)) may
