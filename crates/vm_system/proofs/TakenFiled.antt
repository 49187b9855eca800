-- A message about a declared object is taken by the pager of its file, which answers.
use Rattle.pg_answers.specs.Answers.{AnswerHasCause, ReturnsWhole, TellsFault}
use Rattle.vm_system.proofs.Common.{AllFilesServe, AllInTurn, AnswersKept, Bool, CanTellAll, CarriesFile, ChannelId, DevicesHaveCause}
use Rattle.vm_system.proofs.Common.{Err, Event, FileAnswer, FileKept, FileTable, FilesAreKept, FilesCarry, Followed, Header, HostId}
use Rattle.vm_system.proofs.Common.{LeavesFile, List, Listed, MayHave, MayTake, MayTakeFrom, Message, None, ObjectId, Ok, Option}
use Rattle.vm_system.proofs.Common.{Outside, PagerHasAnswered, SameAreas, Some, SparesPaging, State, Step}
use Rattle.vm_system.proofs.Common.{TellsPage, Told, Took, Up, [], ap, arith, devices, first, gives_frame, home_of, inl}
use Rattle.vm_system.proofs.Common.{inr, is_file, length, length-set, name_of, nat_tests, none-some}
use Rattle.vm_system.proofs.Common.{queue, refl, same_Some, set, slice_get, slice_get_within, subst, sym, tells, true, false, ℕ, ◌++◌, ◌<◌, ◌==◌}
use Rattle.vm_system.proofs.Common.{◌∙◌, ◌∷◌, ◌≡◌, ◌≢◌, ◌⊎◌}
use Rattle.vm_abroad.proofs.Home.{file_named}
use Rattle.vm_flat.proofs.Voids.{file_paged}
use Rattle.pg_file.proofs.Carrying.{carries, others_carry as carries_apart}
use Rattle.pg_file.proofs.Causes.{causes}
use Rattle.pg_file.proofs.Debts.{paid}
use Rattle.pg_file.proofs.Standing.{others as others_file, stands}
use Rattle.pg_file.specs.Stands.{PagerServes, PagerStands as FileStands}
use Rattle.vm_base.specs.declared.failure.NoMemory.{NoMemory}
use Rattle.vm_model.specs.declared.event.Device.TheVariants.{Files, Paging}
use Rattle.vm_model.specs.declared.event.Event.TheVariants as event
use Rattle.vm_model.specs.declared.message.Message.TheVariants as message
use Rattle.vm_system.proofs.Answering.{reply_spares}
use Rattle.vm_system.proofs.Apart.{set_cases}
use Rattle.vm_system.proofs.Filed.{IsFiled, filed_of}
use Rattle.vm_system.proofs.Filing.{carry_areas, kept_about, may_back, stands_about}
use Rattle.vm_legal.proofs.Unshared.{file_unshared}
use Rattle.vm_system.proofs.Homes.{home_declared}
use Rattle.vm_system.proofs.Letters.{known_first, letter_first, orderly_taken}
use Rattle.vm_system.proofs.Makings.{is_open}
use Rattle.vm_system.proofs.Sayings.{can_file, orderly_filed}
use Rattle.vm_system.proofs.Taken.{Front, devices_lined, front_carry, front_of}
use Rattle.vm_system.proofs.Replied.{AnswerKeeps, Replied, answered, going, paged_apart, spares_paging, stands_unshared, took}
use Rattle.vm_system.proofs.TakenUp.{device_cause, up_word}

-- the object has a pager
pub filed_known : (given : Step) (line : Option ℕ) (number : ChannelId) (host : HostId) (object : ObjectId) (s : State)
    → MayTakeFrom given line number (Up host object) s → is_file given.header object.0 ≡ true → object.0 < length s.files.items
filed_known given line number host object s may file =
    let count = may.stands.agrees.files.count in
    let declared = file_named given.header object.0 file in
    omega (arith, count, declared)

-- what the file's pager answers to a message that stands in front
pub record Filed (given : Step) (host : HostId) (object : ObjectId) (m : Message) (s : State) (old new : FileTable) (events : List Event) : Type 0 where
  pub front : Front given s
  pub head : first (queue (Up host object) given.past) ≡ Some m
  pub may : MayTake given.command (Up host object) given.past
  pub file : is_file given.header object.0 ≡ true
  pub home : home_of object.0 given.past ≡ Some host.0
  pub at : slice_get s.files.items object.0 ≡ Some old
  pub serves : PagerServes given.header host.0 given.past object.0 m old new events
  pub licensed : AllInTurn given.header given.outside given.command events (event.Taken (Up host object) m ∷ given.past)

-- only the host of its region speaks of it
home_filed : (given : Step) (host : HostId) (object : ObjectId) (m : Message) (s : State) → Front given s → is_file given.header object.0 ≡ true
    → first (queue (Up host object) given.past) ≡ Some m → home_of object.0 given.past ≡ Some host.0
home_filed given host object m s front file head =
    sym (home_declared given.header object.0 given.past (file_named given.header object.0 file))
    ∙ (front.orderly.home host.0 object.0).made (file_paged given.header object.0 file)
    (is_open host.0 object.0 m given.past (front.orderly.made host.0 object.0) head)

-- the pager stands for the history
pub stands_filed : (given : Step) (line : Option ℕ) (number : ChannelId) (host : HostId) (object : ObjectId) (s : State) (old : FileTable)
    → MayTakeFrom given line number (Up host object) s → is_file given.header object.0 ≡ true
    → slice_get s.files.items object.0 ≡ Some old → FileStands given.header object.0 old given.past
stands_filed given line number host object s old may file at =
    let front = front_of given line number (Up host object) s may in
    front.files.stand object.0 old file at

-- what is told of the files, which have what was returned
told_filed : (given : Step) (line : Option ℕ) (number : ChannelId) (host : HostId) (object : ObjectId) (areas : List ℕ → Told) (s : State) (old : FileTable)
    (events : List Event) → MayTakeFrom given line number (Up host object) s
    → is_file given.header object.0 ≡ true → home_of object.0 given.past ≡ Some host.0 → FileStands given.header object.0 old given.past
    → FilesAreKept given.header given.outside areas s
    → ((was : Option (List ℕ)) → areas old.name ≡ Some was → TellsPage old.size was events) → tells given.header given.outside object.0 ≡ true
    → AnswersKept given.header given.outside host.0 object.0 given.past events
told_filed given line number host object areas s old events may file home is kept bytes on =
    let told = kept.told.at object.0 on file in
    let carry = front_carry given line number (Up host object) s may kept.start areas kept.kept in
    let had = carry.kept object.0 told.0 file told.1 in
    record {
      start = told.0;
      now = had.0;
      told = told.2;
      kept = had.2 host.0 (inr home);
      tells = subst (λ (z : ℕ). TellsPage z had.0 events) is.size_is (bytes had.0 (ap areas is.name_is ∙ had.1));
    }

pub filed_reply : (given : Step) (line : Option ℕ) (number : ChannelId) (host : HostId) (object : ObjectId) (m : Message) (areas : List ℕ → Told) (s : State)
    (old new : FileTable) (events : List Event) → MayTakeFrom given line number (Up host object) s
    → is_file given.header object.0 ≡ true → first (queue (Up host object) given.past) ≡ Some m → slice_get s.files.items object.0 ≡ Some old
    → FileAnswer m host.0 old new events → FilesAreKept given.header given.outside areas s
    → ((was : Option (List ℕ)) → areas old.name ≡ Some was → TellsPage old.size was events) → Filed given host object m s old new events
filed_reply given line number host object m areas s old new events may file head at answered kept bytes =
    let header = given.header in
    let front = front_of given line number (Up host object) s may in
    let is = stands_filed given line number host object s old may file at in
    let home = home_filed given host object m s front file head in
    let word = up_word given line number host object m s may head in
    let serves : PagerServes header host.0 given.past object.0 m old new events = record {
      own = λ other apart. known_first header host.0 object m given.past front.orderly (file_paged header object.0 file) head other apart;
      whole = subst (λ (z : ℕ). ReturnsWhole z m) (sym is.size_is) word.1;
      stands = is;
      answered = answered;
    } in
    record {
      front = front;
      head = head;
      may = may.may;
      file = file;
      home = home;
      at = at;
      serves = serves;
      licensed = causes header given.outside given.command host.0 given.past object.0 m old new events serves
          (told_filed given line number host object areas s old events may file home is kept bytes);
    }

-- its events
filed_events : (given : Step) (host : HostId) (object : ObjectId) (m : Message) (s : State) (old new : FileTable) (events past : List Event)
    → Filed given host object m s old new events → IsFiled object events past
filed_events given host object m s old new events past filed = filed_of m host.0 object old new events past filed.serves.stands.object_is filed.serves.answered

pub can_reply_filed : (given : Step) (host : HostId) (object : ObjectId) (m : Message) (s : State) (old new : FileTable) (events : List Event)
    → Filed given host object m s old new events
    → CanTellAll given.header.size events (event.Taken (Up host object) m ∷ given.past)
can_reply_filed given host object m s old new events filed =
    let orderly = filed.front.orderly in
    let is = filed.serves.stands in
    can_file given.header host.0 object m given.past old new events (orderly_taken given.header (Up host object) m given.past orderly filed.head)
    (letter_first given.header (Up host object) m given.past orderly filed.head) is.object_is is.size_is
    (file_unshared given.header object.0 filed.file) filed.serves.answered

-- all files' pagers stand for the history behind the answer
serve_filed : (given : Step) (host : HostId) (object : ObjectId) (m : Message) (s : State) (old new : FileTable) (events : List Event)
    → Filed given host object m s old new events
    → AllFilesServe given.header (set s.files.items object.0 new) (events ++ event.Taken (Up host object) m ∷ given.past)
serve_filed given host object m s old new events filed = record {
  count = length-set s.files.items object.0 new ∙ filed.front.files.count;
  stand = λ o pager file at. stand o pager file (set_cases s.files.items object.0 o new pager few at);
}
  where
    few : object.0 < length s.files.items
    few = slice_get_within s.files.items object.0 old filed.at

    taken : Event
    taken = event.Taken (Up host object) m

    stand : (o : ℕ) (pager : FileTable) → is_file given.header o ≡ true → ((o ≡ object.0) × (new ≡ pager))
        ⊎ ((o ≢ object.0) × (slice_get s.files.items o ≡ Some pager)) → FileStands given.header o pager (events ++ taken ∷ given.past)
    stand o pager file (inl same) =
        subst (λ (z : FileTable). FileStands given.header o z (events ++ taken ∷ given.past)) same.1
        (subst (λ (z : ℕ). FileStands given.header z new (events ++ taken ∷ given.past)) (sym same.0)
        (stands given.header host.0 given.past object.0 m old new events filed.serves))
    stand o pager file (inr apart) =
        let other : object.0 ≢ o = λ same. apart.0 (sym same) in
        stands_about given.header o pager object events (taken ∷ given.past) (filed_events given host object m s old new events (taken ∷ given.past)
        filed).about other
        (others_file given.header o pager taken given.past other (filed.front.files.stand o pager file apart.1))

-- what its answer has in common with others
replied_filed : (given : Step) (host : HostId) (object : ObjectId) (m : Message) (s : State) (old new : FileTable) (events : List Event)
    → Filed given host object m s old new events → Replied Files given host object m s events
replied_filed given host object m s old new events filed =
    let its = filed_events given host object m s old new events (event.Taken (Up host object) m ∷ given.past) filed in
    record { front = filed.front; head = filed.head; may = filed.may; replies = its.replies; about = its.about; licensed = filed.licensed }

pub spares_filed : (given : Step) (line : Option ℕ) (number : ChannelId) (host : HostId) (object : ObjectId) (m : Message) (s now : State) (old new : FileTable)
    (events : List Event) → MayTakeFrom given line number (Up host object) s
    → Filed given host object m s old new events → now.pagers.items ≡ s.pagers.items → now.history.items ≡ events ++ event.Taken (Up host object) m ∷ given.past
    → SparesPaging given.header given.outside s now
spares_filed given line number host object m s now old new events may filed pagers items =
    let replied = replied_filed given host object m s old new events filed in
    spares_paging Files given line number host object m s now events may replied (file_named given.header object.0 filed.file)
    (reply_spares Files Paging events (event.Taken (Up host object) m ∷ given.past) refl replied.replies) pagers items

-- the file has what was returned to it, and all others what they had
carry_filed : (given : Step) (host : HostId) (object : ObjectId) (m : Message) (s : State) (old new : FileTable) (events : Listed Event)
    (start before after : List ℕ → Told) → Filed given host object m s old new events.items
    → LeavesFile m old before after (Ok events) → FilesCarry given.header start before given.past
    → FilesCarry given.header start after (events.items ++ event.Taken (Up host object) m ∷ given.past)
carry_filed given host object m s old new events start before after filed leaves carry = record {
  kept = λ o was is told. kept o was is told (o == object.0) refl;
  others = λ name was none is. over.others name was (λ same. none object.0 file (sym (same ∙ named_is))) (carry.others name was none is);
}
  where
    header : Header
    header = given.header

    taken : Event
    taken = event.Taken (Up host object) m

    later : List Event
    later = events.items ++ taken ∷ given.past

    file : is_file header object.0 ≡ true
    file = filed.serves.stands.file

    named_is : old.name ≡ name_of header object.0
    named_is = filed.serves.stands.name_is

    over : CarriesFile header.size host.0 object.0 old.name before after given.past later
    over = carries header host.0 given.past object.0 m old new events before after filed.serves leaves

    -- only the host may have its pages
    only : (g : ℕ) → MayHave g object.0 later → host.0 ≡ g
    only g may = by (may_back g object.0 (taken ∷ []) given.past (may_back g object.0 events.items (taken ∷ given.past) may))
      where
        by : (home_of object.0 given.past ≡ None) ⊎ (home_of object.0 given.past ≡ Some g) → host.0 ≡ g
        by (inl none) = absurd (none-some host.0 (sym none ∙ filed.home))
        by (inr there) = same_Some host.0 g (sym filed.home ∙ there)

    at_name : (areas : List ℕ → Told) (was : Option (List ℕ)) {one other : List ℕ} → one ≡ other → areas one ≡ Some was → areas other ≡ Some was
    at_name areas was same is = subst (λ (z : List ℕ). areas z ≡ Some was) same is

    kept : (o : ℕ) (was : Option (List ℕ)) → is_file header o ≡ true → start (name_of header o) ≡ Some was → (b : Bool) → (o == object.0) ≡ b
        → (now : Option (List ℕ)) × (after (name_of header o) ≡ Some now) × ((g : ℕ) → MayHave g o later → FileKept header.size g o was now later)
    kept o was is told true same =
        let equal : object.0 ≡ o = grind (arith, nat_tests, same) in
        let here = subst (λ (z : ℕ). start (name_of header z) ≡ Some was) (sym equal) told in
        let had = carry.kept object.0 was file here in
        let got = over.kept was had.0 (at_name before had.0 (sym named_is) had.1) (had.2 host.0 (inr filed.home)) in
        subst (λ (z : ℕ). (now : Option (List ℕ)) × (after (name_of header z) ≡ Some now)
        × ((g : ℕ) → MayHave g z later → FileKept header.size g z was now later)) equal
        (got.0, at_name after got.0 named_is got.1, λ g may. subst (λ (z : ℕ). FileKept header.size z object.0 was got.0 later) (only g may) got.2)
    kept o was is told false same =
        let other : object.0 ≢ o = grind (arith, nat_tests, same) in
        let had = carry.kept o was is told in
        let past : List Event = taken ∷ given.past in
        let about = (filed_events given host object m s old new events.items past filed).about in (
          had.0,
          over.others (name_of header o) had.0 (λ equal. other (filed.front.built.names object.0 o file is (sym named_is ∙ sym equal))) had.1,
          λ g may.
              kept_about header.size g o was had.0 object events.items past about other
              (carries_apart header.size g o was had.0 taken given.past other (had.2 g
              (may_back g o (taken ∷ []) given.past (may_back g o events.items past may)))),
        )

-- the files have what was returned behind the answer

pub carried_filed : (given : Step) (line : Option ℕ) (number : ChannelId) (host : HostId) (object : ObjectId) (m : Message) (s now : State)
    (old new : FileTable) (events : Listed Event) (start before after : List ℕ → Told)
    → MayTakeFrom given line number (Up host object) s → Filed given host object m s old new events.items → LeavesFile m old before after (Ok events)
    → now.history.items ≡ events.items ++ event.Taken (Up host object) m ∷ given.past
    → FilesCarry given.header start before s.history.items → FilesCarry given.header start after now.history.items
carried_filed given line number host object m s now old new events start before after may filed leaves items carry =
    rw items (carry_filed given host object m s old new events start before after filed leaves
    (front_carry given line number (Up host object) s may start before carry))

pub kept_filed : (given : Step) (line : Option ℕ) (number : ChannelId) (host : HostId) (object : ObjectId) (m : Message) (s now : State) (old new : FileTable)
    (events : Listed Event) (before after : List ℕ → Told)
    → MayTakeFrom given line number (Up host object) s → Filed given host object m s old new events.items → LeavesFile m old before after (Ok events)
    → FilesAreKept given.header given.outside before s
    → now.files.items ≡ set s.files.items object.0 new → now.history.items ≡ events.items ++ event.Taken (Up host object) m ∷ given.past
    → FilesAreKept given.header given.outside after now
kept_filed given line number host object m s now old new events before after may filed leaves kept files items = record {
  files = rw (files, items) (serve_filed given host object m s old new events.items filed);
  start = kept.start;
  told = kept.told;
  kept = carried_filed given line number host object m s now old new events kept.start before after may filed leaves items kept.kept;
}

-- where memory ended in the pager nothing changed

areas_failed : (m : Message) (table : FileTable) (before after : List ℕ → Told) (e : NoMemory) → LeavesFile m table before after (Err e)
    → SameAreas before after
areas_failed (message.Return control page dirty keep bytes) table before after e leaves = leaves
areas_failed other table before after e leaves = leaves

pub carried_failed : (header : Header) (m : Message) (table : FileTable) (start before after : List ℕ → Told) (e : NoMemory) (past : List Event)
    → LeavesFile m table before after (Err e) → FilesCarry header start before past → FilesCarry header start after past
carried_failed header m table start before after e past leaves carry =
    carry_areas header start before after past (areas_failed m table before after e leaves) carry

pub filed_failed : (header : Header) (outside : Outside) (m : Message) (table : FileTable) (s now : State) (before after : List ℕ → Told) (e : NoMemory)
    → now.files.items ≡ s.files.items → LeavesFile m table before after (Err e)
    → now.history.items ≡ s.history.items → FilesAreKept header outside before s → FilesAreKept header outside after now
filed_failed header outside m table s now before after e files leaves items kept = record {
  files = rw (files, items) kept.files;
  start = kept.start;
  told = kept.told;
  kept = rw items (carried_failed header m table kept.start before after e s.history.items leaves kept.kept);
}

-- the hosts' part begins
pub answered_filed : (given : Step) (host : HostId) (object : ObjectId) (m : Message) (s now : State) (old new : FileTable) (events : List Event)
    → Filed given host object m s old new events → now.pagers.items ≡ s.pagers.items → now.files.items ≡ set s.files.items object.0 new → now.server ≡ s.server
    → AnswerKeeps given.header s now (events ++ event.Taken (Up host object) m ∷ given.past)
    → PagerHasAnswered (going given host object m events) host (gives_frame m) now
answered_filed given host object m s now old new events filed pagers files server keeps =
    let header = given.header in
    let orderly = orderly_taken header (Up host object) m given.past filed.front.orderly filed.head in
    let letter = letter_first header (Up host object) m given.past filed.front.orderly filed.head in
    let is = filed.serves.stands in
    let plain = file_unshared header object.0 filed.file in
    let replied = replied_filed given host object m s old new events filed in
    answered Files given host object m s now events replied
    (stands_unshared Files given host object m s now events replied plain
    (rw pagers (paged_apart Files given host object m s events replied (file_named header object.0 filed.file)))
    (rw files (serve_filed given host object m s old new events filed)) server
    (orderly_filed header host.0 object m given.past old new events orderly letter is.object_is is.size_is plain filed.serves.answered)
    (paid header host.0 given.past object.0 m old new events filed.serves)) keeps

-- the hosts went on behind the answer
pub took_filed : (given : Step) (host : HostId) (object : ObjectId) (m : Message) (s new : State) (old table : FileTable) (events : List Event)
    → Filed given host object m s old table events
    → Followed (going given host object m events) new → Took given new
took_filed given host object m s new old table events filed followed =
    took Files given host object m s new events (replied_filed given host object m s old table events filed) followed

pub devices_filed : (given : Step) (line : Option ℕ) (number : ChannelId) (host : HostId) (object : ObjectId) (m : Message) (s : State) (old table : FileTable)
    (events : Listed Event) (before now : ℕ) (new : List Event)
    → MayTakeFrom given line number (Up host object) s → Filed given host object m s old table events.items → AnswerHasCause before now (Ok events)
    → devices Files new ≡ devices Files (events.items ++ event.Taken (Up host object) m ∷ given.past) → DevicesHaveCause Files before now s.history.items new
devices_filed given line number host object m s old table events before now new may filed cause same =
    let past = event.Taken (Up host object) m ∷ given.past in
    device_cause Files (TellsFault events.items) before now events.items past s.history.items new
    (filed_events given host object m s old table events.items past filed).faults cause.later cause.failed cause.spared same
    (ap (devices Files) may.past ∙ devices_lined Files line s.history.items)
