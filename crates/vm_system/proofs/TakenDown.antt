-- An answer of a pager is taken by its host.
use Rattle.vm_system.proofs.Common.{AllFilesServe, AllInner, AllServe, Bool, CanTellAll, Channel, ChannelId, Device, Down, EndsAll, Event, Header, HostId}
use Rattle.vm_system.proofs.Common.{HostTable, HostsPart, IsAbsencePaid, IsChangePaid, IsErrorPaid, IsLockPaid, IsPaid, IsWord, Letter, LicensedInTurn, List}
use Rattle.vm_system.proofs.Common.{MayTakeFrom, Message, None, ObjectId, Option, Posts, ServerStands, ServerTable, Some, Spares, State, Step, Took, Up, [], ap}
use Rattle.vm_system.proofs.Common.{devices, false, first, length, owed, queue, subst, sym, taken_letter, taken_more, true, up, ℕ, ◌++◌, ◌<◌, ◌∙◌, ◌∷◌, ◌≡◌}
use Rattle.vm_system.proofs.Served.{served_down}
use Rattle.vm_kernel.specs.Destroying.{IsDestroyPaid, MayDestroy, is_destroy}
use Rattle.vm_kernel.specs.Taking.{IsOfPushed}
use Rattle.vm_model.specs.declared.message.Message.TheVariants as message
use Rattle.vm_returned.proofs.Pushed.{of_pushed}
use Rattle.vm_returned.specs.Pushed.{OfPushed}
use Rattle.vm_system.proofs.WildEnds.{may_destroy}
use Rattle.vm_model.specs.declared.event.Device.TheVariants.{Files, Paging}
use Rattle.vm_model.specs.declared.event.Event.TheVariants as event
use Rattle.vm_system.proofs.Agreeing.{carry_other, carry_spared, devices_said, files_other, files_spared, serve_other, spared_said}
use Rattle.sms_server.proofs.Acting.{others_recall as recalled_other, others_serve as served_other, others_stand as server_other}
use Rattle.vm_system.proofs.Lawfulness.{lawful_taken, others_said, recalled_more, served_more}
use Rattle.vm_system.proofs.Silent.{all_settled}
use Rattle.vm_system.proofs.Letters.{letter_first, orderly_taken}
use Rattle.vm_system.proofs.Sayings.{can_say, orderly_said}
use Rattle.vm_system.proofs.Following.{agrees_said, filed_spares, kept_behind}
use Rattle.vm_system.proofs.Taken.{Front, devices_lined, front_carry, front_content, front_of, front_settled, front_suffice, taken_licensed, takes_step}

pub down_letter : (given : Step) (line : Option ℕ) (number : ChannelId) (host : HostId) (object : ObjectId) (control : ℕ) (m : Message) (s : State)
    → MayTakeFrom given line number (Down host object control) s
    → first (queue (Down host object control) given.past) ≡ Some m → (host.0 < length given.header.frames.items) × IsWord given.header.size m
down_letter given line number host object control m s may head =
    let front = front_of given line number (Down host object control) s may in
    let letter = letter_first given.header (Down host object control) m given.past front.orderly head in
    (letter.0, letter.1)

pub down_licensed : (given : Step) (line : Option ℕ) (number : ChannelId) (host : HostId) (object : ObjectId) (control : ℕ) (m : Message) (s : State)
    → MayTakeFrom given line number (Down host object control) s
    → first (queue (Down host object control) given.past) ≡ Some m
    → LicensedInTurn given.header given.outside given.command (event.Taken (Down host object control) m) given.past
down_licensed given line number host object control m s may head =
    let front = front_of given line number (Down host object control) s may in
    taken_licensed given.header given.outside given.command (Down host object control) m given.past head may.may (front_settled given s front)

pub down_destroys : (given : Step) (line : Option ℕ) (number : ChannelId) (host : HostId) (object : ObjectId) (control : ℕ) (m : Message) (s : State)
    → MayTakeFrom given line number (Down host object control) s
    → first (queue (Down host object control) given.past) ≡ Some m → is_destroy m ≡ true → MayDestroy given.header host.0 object.0 given.past
down_destroys given line number host object control m s may head is =
    let front = front_of given line number (Down host object control) s may in
    may_destroy given.header given.outside host object control m given.past front.lawful.causes head is

-- of a copy object a pager says what was copied up into it

for_kernel : (h object : ℕ) (m : Message) (past : List Event) → OfPushed h object m past → IsOfPushed h object m past
for_kernel h object (message.Supply page lock precious bytes) past is = is
for_kernel h object (message.Error page reason) past is = is
for_kernel h object other past is = tt

pub down_pushed : (given : Step) (line : Option ℕ) (number : ChannelId) (host : HostId) (object : ObjectId) (control : ℕ) (m : Message) (s : State)
    → MayTakeFrom given line number (Down host object control) s
    → first (queue (Down host object control) given.past) ≡ Some m → IsOfPushed host.0 object.0 m given.past
down_pushed given line number host object control m s may head =
    let front = front_of given line number (Down host object control) s may in
    for_kernel host.0 object.0 m given.past (of_pushed given.header given.outside host object control m given.past front.lawful.causes head)

pub can_down : (given : Step) (host : HostId) (object : ObjectId) (control : ℕ) (m : Message) (s : State) (hosts : HostTable) (events : List Event)
    → Front given s → first (queue (Down host object control) given.past) ≡ Some m
    → HostsPart given.header given.outside given.command (event.Taken (Down host object control) m ∷ given.past) hosts events
    → CanTellAll given.header.size events (event.Taken (Down host object control) m ∷ given.past)
can_down given host object control m s hosts events front head passed =
    let stretch = passed.follows.stretch in
    can_say given.header given.outside given.command (event.Taken (Down host object control) m ∷ given.past) events
    (orderly_taken given.header (Down host object control) m given.past front.orderly head) stretch.licensed stretch.said stretch.inner

-- what a step took was no message to a pager
not_up : (at : HostId) (object : ObjectId) (control : ℕ) (m : Message) (events past : List Event) (o : ℕ) (host : ℕ) (n : Message) → AllInner events
    → taken_letter (events ++ event.Taken (Down at object control) m ∷ past) ≡ Some (record { channel = up host o; message = n }) → ⊥
not_up at object control m events past o host n inner is =
    let both : Some (record { channel = Down at object control; message = m }) ≡ Some (record { channel = up host o; message = n }) = sym
    (taken_more events (event.Taken (Down at object control) m ∷ past) inner) ∙ is in
    channels (ap by both)
  where
    by : Option Letter → Bool
    by None = false
    by (Some letter) = side letter.channel
      where
        side : Channel → Bool
        side (Up h q) = false
        side (Down h q k) = true

    channels : true ≡ false → ⊥
    channels bad = absurd (cc)

-- the step owes what the hosts have done
down_paid : (header : Header) (at : HostId) (object : ObjectId) (control : ℕ) (m : Message) (events past : List Event) → AllInner events
    → owed (events ++ event.Taken (Down at object control) m ∷ past) ≡ None
    → IsErrorPaid header (events ++ event.Taken (Down at object control) m ∷ past)
    → IsAbsencePaid header (events ++ event.Taken (Down at object control) m ∷ past)
    → IsLockPaid header (events ++ event.Taken (Down at object control) m ∷ past) → IsChangePaid (events ++ event.Taken (Down at object control) m ∷ past)
    → IsDestroyPaid header (events ++ event.Taken (Down at object control) m ∷ past) → IsPaid header (events ++ event.Taken (Down at object control) m ∷ past)
down_paid header at object control m events past inner none failed zeroed locked changed destroyed = record {
  none_owed = none;
  init = λ host o k size paged is. absurd (not_up at object control m events past o host _ inner is);
  create = λ host o k size paged is. absurd (not_up at object control m events past o host _ inner is);
  request = λ host o k page access paged is. absurd (not_up at object control m events past o host _ inner is);
  error = failed;
  absence = zeroed;
  lock = locked;
  change = changed;
  destroy = destroyed;
  slot = λ host o k page dirty keep bytes temporary is lacks. absurd (not_up at object control m events past o host _ inner is);
}

-- no pager has a part in the taking
front_serves : (given : Step) (host : HostId) (object : ObjectId) (control : ℕ) (m : Message) (s : State) → Front given s
    → AllServe given.header s.pagers.items (event.Taken (Down host object control) m ∷ given.past)
front_serves given host object control m s front =
    serve_other given.header s.pagers.items (event.Taken (Down host object control) m) given.past (λ h. tt) front.pagers

front_filed : (given : Step) (host : HostId) (object : ObjectId) (control : ℕ) (m : Message) (s : State) → Front given s
    → AllFilesServe given.header s.files.items (event.Taken (Down host object control) m ∷ given.past)
front_filed given host object control m s front =
    files_other given.header s.files.items (event.Taken (Down host object control) m) given.past (λ o. tt) front.files

pub took_down : (given : Step) (line : Option ℕ) (number : ChannelId) (host : HostId) (object : ObjectId) (control : ℕ) (m : Message) (s new : State)
    (events : List Event) → MayTakeFrom given line number (Down host object control) s
    → first (queue (Down host object control) given.past) ≡ Some m
    → HostsPart given.header given.outside given.command (event.Taken (Down host object control) m ∷ given.past) new.hosts events
    → IsErrorPaid given.header (events ++ event.Taken (Down host object control) m ∷ given.past)
    → IsAbsencePaid given.header (events ++ event.Taken (Down host object control) m ∷ given.past)
    → IsLockPaid given.header (events ++ event.Taken (Down host object control) m ∷ given.past)
    → IsChangePaid (events ++ event.Taken (Down host object control) m ∷ given.past)
    → IsDestroyPaid given.header (events ++ event.Taken (Down host object control) m ∷ given.past)
    → EndsAll given.header (events ++ event.Taken (Down host object control) m ∷ given.past) → new.size ≡ s.size
    → new.pagers.items ≡ s.pagers.items → new.files.items ≡ s.files.items → new.declared.items ≡ s.declared.items → new.server ≡ s.server
    → new.history.items ≡ events ++ event.Taken (Down host object control) m ∷ given.past → Posts new new.history.items → new.log.items ≡ []
    → Took given new
took_down given line number host object control m s new events may head passed failed zeroed locked changed destroyed ended size pagers files declared server
    items posts none =
    let header = given.header in
    let outside = given.outside in
    let doing = given.command in
    let channel = Down host object control in
    let front = front_of given line number channel s may in
    let past = event.Taken channel m ∷ given.past in
    let stretch = passed.follows.stretch in
    let orderly = orderly_taken header channel m given.past front.orderly head in
    let serve : AllServe header new.pagers.items past = rw pagers (front_serves given host object control m s front) in
    let filed : AllFilesServe header new.files.items past = rw files (front_filed given host object control m s front) in
    let heard : ServerStands header new.server past = subst (λ (z : ServerTable). ServerStands header z past) (sym server)
    (server_other header s.server (event.Taken channel m) given.past tt front.server) in
    let licence = taken_licensed header outside doing channel m given.past head may.may (front_settled given s front) in
    let owed : IsPaid header new.history.items = rw items (down_paid header host object control m events given.past stretch.inner
    (all_settled header new.hosts (events ++ past) passed.ended.rests) failed zeroed locked changed destroyed) in
    record {
      stands = record {
        built = front.built;
        rests = rw items passed.ended.rests;
        queues = rw items passed.ended.queues;
        agrees =
            agrees_said header outside doing past events new (orderly_said header outside doing past events orderly stretch.licensed stretch.said stretch.inner)
            serve filed heard
            (lawful_taken header outside doing channel m given.past licence front.paid front.lawful) (declared ∙ may.stands.agrees.declared) stretch
            (size ∙ may.stands.agrees.size) items posts;
        paid = owed;
        served =
            rw items (served_more header events past (others_said header events past stretch.said)
            (served_other header (event.Taken channel m) given.past tt front.served));
        recalled =
            rw items (recalled_more header events past (others_said header events past stretch.said)
            (recalled_other header (event.Taken channel m) given.past tt front.recalled));
        log = none;
      };
      step =
          takes_step given channel m events new.history.items items head may.may (front_settled given s front) (front_suffice given s front)
          passed.follows.follows stretch.licensed stretch.own_bytes stretch.frames stretch.inner;
      prompt = rw items passed.ended.prompt;
      paid = owed;
      ended = rw items ended;
      turns = rw items (served_down header outside doing host object control m given.past new.hosts events passed);
    }

-- pagers and contents have no part in that
pub spares_down : (given : Step) (line : Option ℕ) (number : ChannelId) (host : HostId) (object : ObjectId) (control : ℕ) (m : Message) (s new : State)
    (hosts : HostTable) (events : List Event)
    → MayTakeFrom given line number (Down host object control) s
    → HostsPart given.header given.outside given.command (event.Taken (Down host object control) m ∷ given.past) hosts events
    → new.pagers.items ≡ s.pagers.items
    → new.files.items ≡ s.files.items → new.history.items ≡ events ++ event.Taken (Down host object control) m ∷ given.past
    → Spares given.header given.outside s new
spares_down given line number host object control m s new hosts events may passed pagers files items =
    let header = given.header in
    let channel = Down host object control in
    let past = event.Taken channel m ∷ given.past in
    let front = front_of given line number channel s may in
    let stretch = passed.follows.stretch in
    let same : (who : Device) → devices who new.history.items ≡ devices who s.history.items = λ who.
    ap (devices who) items ∙ devices_said who header events past stretch.said ∙ ap (devices who) may.past ∙ devices_lined who line s.history.items in
    record {
      paging = record {
        kept =
            λ areas kept. kept_behind header given.outside areas s new events past (front_serves given host object control m s front)
            (front_content given line number channel s may) stretch.said stretch.inner pagers items kept;
        devices = same Paging;
      };
      files =
          filed_spares header given.outside s new (rw (
            files,
            items,
          ) (files_spared header s.files.items events past (spared_said header events past stretch.said)
          (front_filed given host object control m s front)))
          (λ start areas carry. rw items (carry_spared header start areas events past (spared_said header events past stretch.said)
          (carry_other header start areas (event.Taken channel m) given.past (λ o. tt) (front_carry given line number channel s may start areas carry))))
          (same Files);
    }
