-- A message about a temporary object is taken by the default pager of a host, which answers.
use Rattle.vm_system.proofs.Common.{AllInTurn, AllServe, AnswerHasCause, AreNumbered, CanTellAll, CarriesContent, ChannelId, Content, CountRises}
use Rattle.vm_system.proofs.Common.{Device, DevicesHaveCause, Err, Event, Followed, Header, HostId, IsAreaTold}
use Rattle.vm_system.proofs.Common.{IsHostLetter, IsToPager, KeepsShape, LeavesAreas, List, Listed, MayTake, MayTakeFrom, Message, ObjectId, Ok}
use Rattle.vm_system.proofs.Common.{Option, Outside, PagerHasAnswered, PagerServes, PagerStands, PagingIsKept, ReturnsWhole, SameAreas}
use Rattle.vm_system.proofs.Common.{SlotTable, SlotsFit, Some, SparesFiles, State, Step, SuppliesStored, TellsFault, Told, Took, Up, [], after_message, ap}
use Rattle.vm_system.proofs.Common.{area_name, arith, carries, causes, content_of, devices, first, get_or, gives_frame, inl}
use Rattle.vm_system.proofs.Common.{inr, is_heard_elsewhere, length, length-append, length-set, named, others}
use Rattle.vm_system.proofs.Common.{others_carry, paid, queue, refl, same_Some, set, slice_get, slice_get-get_or, slice_get_within, stands, subst, suc, sym}
use Rattle.vm_system.proofs.Common.{take, true, zero, ℕ, ◌++◌, ◌+◌, ◌<◌, ◌∙◌, ◌∷◌, ◌≡◌, ◌≤◌, ◌⊎◌}
use Rattle.std.proofs.Common.{◌≢◌}
use Rattle.pg_default.specs.Answers.{PagerAnswer as Answers}
use Rattle.vm_base.specs.declared.failure.NoMemory.{NoMemory}
use Rattle.vm_model.specs.declared.event.Device.TheVariants.{Files, Paging}
use Rattle.vm_model.specs.declared.event.Event.TheVariants as event
use Rattle.vm_model.specs.declared.message.Message.TheVariants as message
use Rattle.vm_system.proofs.Answering.{Faults, faults, replies, reply_spares}
use Rattle.vm_system.proofs.Answering.{told_after, word_up}
use Rattle.vm_system.proofs.Apart.{about, apart_of, areas_others, fits_still, other_area, others_fit, others_stand, set_cases, told_still}
use Rattle.vm_legal.proofs.Files.{not_file}
use Rattle.vm_legal.proofs.Unshared.{temporary_unshared}
use Rattle.vm_system.proofs.Letters.{elsewhere_first, home_first, letter_first, orderly_taken, unended_first}
use Rattle.vm_system.proofs.Sayings.{can_answer, orderly_answered}
use Rattle.vm_system.proofs.Following.{kept_at}
use Rattle.vm_system.proofs.Taken.{Front, devices_lined, front_content, front_of}
use Rattle.vm_system.proofs.Replied.{AnswerKeeps, Replied, answered, files_apart, going, spares_files, stands_unshared, took, up_letter}

pub up_word : (given : Step) (line : Option ℕ) (number : ChannelId) (host : HostId) (object : ObjectId) (m : Message) (s : State)
    → MayTakeFrom given line number (Up host object) s
    → first (queue (Up host object) given.past) ≡ Some m → IsToPager m × ReturnsWhole given.header.size m
up_word given line number host object m s may head = word_up given.header.size _ m (up_letter given line number host object m s may head).1

-- the host has a pager
pub up_known : (given : Step) (line : Option ℕ) (number : ChannelId) (host : HostId) (object : ObjectId) (m : Message) (s : State)
    → MayTakeFrom given line number (Up host object) s
    → first (queue (Up host object) given.past) ≡ Some m → host.0 < length s.pagers.items
up_known given line number host object m s may head =
    let letter = up_letter given line number host object m s may head in
    let count = may.stands.agrees.pagers.numbered.count in
    omega (arith, count, letter.0)

-- what the pager of the host answers to a message that stands in front
pub record Reply (given : Step) (host : HostId) (object : ObjectId) (m : Message) (s : State) (old new : SlotTable) (events : List Event) : Type 0 where
  pub front : Front given s
  pub head : first (queue (Up host object) given.past) ≡ Some m
  pub may : MayTake given.command (Up host object) given.past
  pub temporary : named given.header ≤ object.0
  pub at : slice_get s.pagers.items host.0 ≡ Some old
  pub answered : Answers m object old new events
  pub shape : KeepsShape old new
  pub licensed : AllInTurn given.header given.outside given.command events (event.Taken (Up host object) m ∷ given.past)

-- the pager of the host serves it
serves_of : (given : Step) (host : HostId) (object : ObjectId) (m : Message) (s : State) (old new : SlotTable) (events : List Event) → Front given s
    → named given.header ≤ object.0 → first (queue (Up host object) given.past) ≡ Some m → slice_get s.pagers.items host.0 ≡ Some old
    → Answers m object old new events → PagerServes given.header host.0 given.past object m old new events
serves_of given host object m s old new events front temporary head at answered = record {
  temporary = temporary;
  unended = unended_first given.header host.0 object m given.past front.orderly temporary head;
  own = home_first given.header host.0 object m given.past front.orderly temporary head;
  stands = front.pagers.stand host.0 old at;
  answered = answered;
}

reply_serves : (given : Step) (host : HostId) (object : ObjectId) (m : Message) (s : State) (old new : SlotTable) (events : List Event)
    → Reply given host object m s old new events → PagerServes given.header host.0 given.past object m old new events
reply_serves given host object m s old new events reply =
    serves_of given host object m s old new events reply.front reply.temporary reply.head reply.at reply.answered

-- where the areas hold what was stored
pub reply_of : (given : Step) (line : Option ℕ) (number : ChannelId) (host : HostId) (object : ObjectId) (m : Message) (areas : List ℕ → Told) (s : State)
    (old new : SlotTable) (events : List Event) → MayTakeFrom given line number (Up host object) s
    → named given.header ≤ object.0 → first (queue (Up host object) given.past) ≡ Some m → slice_get s.pagers.items host.0 ≡ Some old
    → Answers m object old new events → KeepsShape old new → PagingIsKept given.header given.outside areas s
    → ((content : Content) → IsAreaTold areas old → SlotsFit areas old content → SuppliesStored object events content)
    → Reply given host object m s old new events
reply_of given line number host object m areas s old new events may temporary head at answered shape kept bytes =
    let front = front_of given line number (Up host object) s may in
    let same = front_content given line number (Up host object) s may host.0 in
    record {
      front = front;
      head = head;
      may = may.may;
      temporary = temporary;
      at = at;
      answered = answered;
      shape = shape;
      licensed =
          causes given.header given.outside given.command host.0 given.past object m old new events
          (serves_of given host object m s old new events front temporary head at answered)
          (λ on. bytes (content_of given.header host.0 given.past) (kept.told on host.0 old at)
          (subst (λ (z : Content). SlotsFit areas old z) (sym same) (kept.fits on host.0 old at)));
    }

reply_letter : (given : Step) (host : HostId) (object : ObjectId) (m : Message) (s : State) (old new : SlotTable) (events : List Event)
    → Reply given host object m s old new events
    → IsHostLetter given.header given.past (record { channel = Up host object; message = m })
reply_letter given host object m s old new events reply = letter_first given.header (Up host object) m given.past reply.front.orderly reply.head

pub can_reply : (given : Step) (host : HostId) (object : ObjectId) (m : Message) (s : State) (old new : SlotTable) (events : List Event)
    → Reply given host object m s old new events
    → CanTellAll given.header.size events (event.Taken (Up host object) m ∷ given.past)
can_reply given host object m s old new events reply =
    let front = reply.front in
    let pager = front.pagers.stand host.0 old reply.at in
    can_answer given.header host.0 object m given.past old new events (orderly_taken given.header (Up host object) m given.past front.orderly reply.head)
    (reply_letter given host object m s old new events reply) pager.host_is pager.size (temporary_unshared given.header object.0 reply.temporary)
    reply.answered

-- the answered pager keeps its number
reply_host : (given : Step) (host : HostId) (object : ObjectId) (m : Message) (s : State) (old new : SlotTable) (events : List Event)
    → Reply given host object m s old new events → new.host ≡ host.0
reply_host given host object m s old new events reply = reply.shape.host ∙ reply.front.pagers.numbered.hosts host.0 old reply.at

-- a message to the pager of another host
away_from : (given : Step) (host : HostId) (object : ObjectId) (m : Message) (s : State) (old new : SlotTable) (events : List Event)
    → Reply given host object m s old new events → (g : ℕ) → g ≢ host.0
    → is_heard_elsewhere g object.0 (event.Taken (Up host object) m ∷ given.past) ≡ true
away_from given host object m s old new events reply g other = elsewhere_first given.header host.0 object m given.past reply.front.orderly reply.head g other

-- all pagers stand for the history behind the answer
serve_up : (given : Step) (host : HostId) (object : ObjectId) (m : Message) (s : State) (old new : SlotTable) (events : List Event)
    → Reply given host object m s old new events
    → AllServe given.header (set s.pagers.items host.0 new) (events ++ event.Taken (Up host object) m ∷ given.past)
serve_up given host object m s old new events reply = record {
  numbered =
      record {
        count = length-set s.pagers.items host.0 new ∙ numbered.count;
        hosts = λ g pager at. number g pager (set_cases s.pagers.items host.0 g new pager few at);
      };
  stand = λ g pager at. stand g pager (set_cases s.pagers.items host.0 g new pager few at);
}
  where
    few : host.0 < length s.pagers.items
    few = slice_get_within s.pagers.items host.0 old reply.at

    numbered : AreNumbered given.header s.pagers.items
    numbered = reply.front.pagers.numbered

    number : (g : ℕ) (pager : SlotTable) → ((g ≡ host.0) × (new ≡ pager)) ⊎ ((g ≢ host.0) × (slice_get s.pagers.items g ≡ Some pager)) → pager.host ≡ g
    number g pager (inl same) = ap (λ (z : SlotTable). z.host) (sym same.1) ∙ reply_host given host object m s old new events reply ∙ sym same.0
    number g pager (inr apart) = numbered.hosts g pager apart.1

    past : List Event
    past = event.Taken (Up host object) m ∷ given.past

    stand : (g : ℕ) (pager : SlotTable) → ((g ≡ host.0) × (new ≡ pager)) ⊎ ((g ≢ host.0) × (slice_get s.pagers.items g ≡ Some pager))
        → PagerStands given.header g pager (events ++ event.Taken (Up host object) m ∷ given.past)
    stand g pager (inl same) =
        subst (λ (z : SlotTable). PagerStands given.header g z (events ++ event.Taken (Up host object) m ∷ given.past)) same.1
        (subst (λ (z : ℕ). PagerStands given.header z new (events ++ event.Taken (Up host object) m ∷ given.past)) (sym same.0)
        (stands given.header host.0 given.past object m old new events (reply_serves given host object m s old new events reply)))
    stand g pager (inr apart) =
        others_stand given.header g pager object events (event.Taken (Up host object) m ∷ given.past) (about m object old new events reply.answered)
        (away_from given host object m s old new events reply g apart.0)
        (others given.header g pager (event.Taken (Up host object) m) given.past (inr (λ same. apart.0 (sym same))) (reply.front.pagers.stand g pager apart.1))

-- what its answer has in common with others
replied_up : (given : Step) (host : HostId) (object : ObjectId) (m : Message) (s : State) (old new : SlotTable) (events : List Event)
    → Reply given host object m s old new events → Replied Paging given host object m s events
replied_up given host object m s old new events reply = record {
  front = reply.front;
  head = reply.head;
  may = reply.may;
  replies = replies m object old new events reply.answered;
  about = about m object old new events reply.answered;
  licensed = reply.licensed;
}

pub spares_up : (given : Step) (line : Option ℕ) (number : ChannelId) (host : HostId) (object : ObjectId) (m : Message) (s now : State) (old new : SlotTable)
    (events : List Event) → MayTakeFrom given line number (Up host object) s
    → Reply given host object m s old new events → now.files.items ≡ s.files.items → now.history.items ≡ events ++ event.Taken (Up host object) m ∷ given.past
    → SparesFiles given.header given.outside s now
spares_up given line number host object m s now old new events may reply files items =
    let replied = replied_up given host object m s old new events reply in
    spares_files Paging given line number host object m s now events may replied (not_file given.header object.0 reply.temporary)
    (reply_spares Paging Files events (event.Taken (Up host object) m ∷ given.past) refl replied.replies) files items

-- the hosts' part begins
pub answered_up : (given : Step) (host : HostId) (object : ObjectId) (m : Message) (s now : State) (old new : SlotTable) (events : List Event)
    → Reply given host object m s old new events → now.pagers.items ≡ set s.pagers.items host.0 new → now.files.items ≡ s.files.items → now.server ≡ s.server
    → AnswerKeeps given.header s now (events ++ event.Taken (Up host object) m ∷ given.past)
    → PagerHasAnswered (going given host object m events) host (gives_frame m) now
answered_up given host object m s now old new events reply pagers files server keeps =
    let header = given.header in
    let orderly = orderly_taken header (Up host object) m given.past reply.front.orderly reply.head in
    let letter = reply_letter given host object m s old new events reply in
    let pager = reply.front.pagers.stand host.0 old reply.at in
    let plain = temporary_unshared header object.0 reply.temporary in
    let replied = replied_up given host object m s old new events reply in
    answered Paging given host object m s now events replied
    (stands_unshared Paging given host object m s now events replied plain (rw pagers (serve_up given host object m s old new events reply))
    (rw files (files_apart Paging given host object m s events replied (not_file header object.0 reply.temporary))) server
    (orderly_answered header host.0 object m given.past old new events orderly letter pager.host_is pager.size plain reply.answered)
    (paid header host.0 given.past object m old new events (reply_serves given host object m s old new events reply))) keeps

-- the hosts went on behind the answer
pub took_up : (given : Step) (host : HostId) (object : ObjectId) (m : Message) (s new : State) (old slots : SlotTable) (events : List Event)
    → Reply given host object m s old slots events
    → Followed (going given host object m events) new → Took given new
took_up given host object m s new old slots events reply followed =
    took Paging given host object m s new events (replied_up given host object m s old slots events reply) followed

-- what was stored stands in the areas behind the answer
pub kept_up : (given : Step) (line : Option ℕ) (number : ChannelId) (host : HostId) (object : ObjectId) (m : Message) (s now : State) (old slots : SlotTable)
    (before after : List ℕ → Told) (events : Listed Event) → MayTakeFrom given line number (Up host object) s
    → Reply given host object m s old slots events.items → CarriesContent before after old slots (after_message m object (Ok events))
    → LeavesAreas m object slots before after (Ok events) → PagingIsKept given.header given.outside before s
    → now.pagers.items ≡ set s.pagers.items host.0 slots → now.history.items ≡ events.items ++ event.Taken (Up host object) m ∷ given.past
    → PagingIsKept given.header given.outside after now
kept_up given line number host object m s now old slots before after events may reply carried leaves kept pagers items =
    kept_at given.header given.outside after now (set s.pagers.items host.0 slots) (events.items ++ event.Taken (Up host object) m ∷ given.past) pagers items
    (serve_up given host object m s old slots events.items reply)
    (λ on g pager at. told on g pager (set_cases s.pagers.items host.0 g slots pager few at))
    (λ on g pager at. fit on g pager (set_cases s.pagers.items host.0 g slots pager few at))
  where
    few : host.0 < length s.pagers.items
    few = slice_get_within s.pagers.items host.0 old reply.at

    -- the area of another pager
    still : (g : ℕ) (pager : SlotTable) → g ≢ host.0 → slice_get s.pagers.items g ≡ Some pager → (was : Option (List ℕ))
        → before (area_name pager.host) ≡ Some was → after (area_name pager.host) ≡ Some was
    still g pager other at was is =
        let apart : pager.host ≢ slots.host = λ same. other (sym (reply.front.pagers.numbered.hosts g pager at) ∙ same
        ∙ reply_host given host object m s old slots events.items reply) in
        areas_others m object before after old slots events reply.answered leaves (area_name pager.host) was (other_area pager.host slots.host apart) is

    told : given.outside.paging ≡ true → (g : ℕ) (pager : SlotTable) → ((g ≡ host.0) × (slots ≡ pager))
        ⊎ ((g ≢ host.0) × (slice_get s.pagers.items g ≡ Some pager)) → IsAreaTold after pager
    told on g pager (inl same) =
        subst (λ (z : SlotTable). IsAreaTold after z) same.1 (told_after m object before after old slots events reply.shape reply.answered leaves
        (kept.told on host.0 old reply.at))
    told on g pager (inr apart) = told_still pager before after (still g pager apart.0 apart.1) (kept.told on g pager apart.1)

    fit : given.outside.paging ≡ true → (g : ℕ) (pager : SlotTable) → ((g ≡ host.0) × (slots ≡ pager))
        ⊎ ((g ≢ host.0) × (slice_get s.pagers.items g ≡ Some pager))
        → SlotsFit after pager (content_of given.header g (events.items ++ event.Taken (Up host object) m ∷ given.past))
    fit on g pager (inl same) =
        let now : List Event = events.items ++ event.Taken (Up host object) m ∷ given.past in
        let over = carries given.header host.0 given.past object m old slots events before after
        (reply_serves given host object m s old slots events.items reply) carried in
        let was = subst (λ (z : Content). SlotsFit before old z) (sym (front_content given line number (Up host object) s may host.0))
        (kept.fits on host.0 old reply.at) in
        subst (λ (z : SlotTable). SlotsFit after z (content_of given.header g now)) same.1
        (subst (λ (z : ℕ). SlotsFit after slots (content_of given.header z now)) (sym same.0) (over.fits (kept.told on host.0 old reply.at) was))
    fit on g pager (inr apart) =
        let header = given.header in
        let taken = event.Taken (Up host object) m in
        let past : List Event = taken ∷ given.past in
        let is = kept.told on g pager apart.1 in
        let own = apart_of header past (orderly_taken header (Up host object) m given.past reply.front.orderly reply.head) g in
        let over = others_carry header g pager taken given.past before (inr (λ same. apart.0 (sym same))) own in
        let was = subst (λ (z : Content). SlotsFit before pager z) (sym (front_content given line number (Up host object) s may g))
        (kept.fits on g pager apart.1) in
        fits_still pager (content_of header g (events.items ++ past)) before after (still g pager apart.0 apart.1) is
        (others_fit header g pager object before events.items past (about m object old slots events.items reply.answered)
        (away_from given host object m s old slots events.items reply g apart.0) own is (over.fits is was))

-- where memory ended in the pager nothing changed

areas_failed : (m : Message) (object : ObjectId) (before after : List ℕ → Told) (slots : SlotTable) (e : NoMemory)
    → LeavesAreas m object slots before after (Err e) → SameAreas before after
areas_failed (message.Return control page dirty keep bytes) object before after slots e leaves = leaves
areas_failed other object before after slots e leaves = leaves

pub kept_failed : (header : Header) (outside : Outside) (object : ObjectId) (m : Message) (s now : State) (slots : SlotTable) (before after : List ℕ → Told)
    (e : NoMemory) → now.pagers.items ≡ s.pagers.items
    → LeavesAreas m object slots before after (Err e) → now.history.items ≡ s.history.items → PagingIsKept header outside before s
    → PagingIsKept header outside after now
kept_failed header outside object m s now slots before after e pagers leaves items kept =
    let same = areas_failed m object before after slots e leaves in
    kept_at header outside after now s.pagers.items s.history.items pagers items kept.pagers
    (λ on h pager at. told_still pager before after (same (area_name pager.host)) (kept.told on h pager at))
    (λ on h pager at. fits_still pager (content_of header h s.history.items) before after (same (area_name pager.host)) (kept.told on h pager at)
    (kept.fits on h pager at))

-- the pager that is read at a number is the one that stands there
pub pager_read : {A : Type 0} (pagers : List A) (h : ℕ) (pager : A) → h < length pagers → pager ≡ get_or pagers h pager → slice_get pagers h ≡ Some pager
pager_read {A} pagers h pager within read = slice_get-get_or pagers h pager within ∙ ap (λ (z : A). Some z) (sym read)

-- a pager that is as it was
pub set_same : {A : Type 0} (pagers : List A) (h : ℕ) (pager : A) → slice_get pagers h ≡ Some pager → set pagers h pager ≡ pagers
set_same [] h pager is = refl
set_same {A} (x ∷ pagers) zero pager is = ap (λ (z : A). z ∷ pagers) (sym (same_Some x pager is))
set_same {A} (x ∷ pagers) (suc h) pager is = ap (λ (z : List A). x ∷ z) (set_same pagers h pager is)

-- a device's failure has its cause
pub device_cause : (who : Device) (tells : Type 0) (before now : ℕ) (events past old new : List Event) → Faults who tells events past → before ≤ now
    → (tells → CountRises before now) → ((tells → ⊥) → now ≡ before)
    → devices who new ≡ devices who (events ++ past) → devices who past ≡ devices who old → DevicesHaveCause who before now old new
device_cause who tells before now events past old new f later failed spare same front = record {
  later = later;
  few = omega (arith, same, f.few, front);
  cause = by f.cause;
  spared = λ none. spared f.cause none;
}
  where
    by : ((devices who (events ++ past) ≡ devices who past) × (tells → ⊥)) ⊎ ((devices who (events ++ past) ≡ devices who past + 1) × tells)
        → (devices who new ≡ devices who old) ⊎ CountRises before now
    by (inl none) = inl (same ∙ none.0 ∙ front)
    by (inr told) = inr (failed told.1)

    spared : ((devices who (events ++ past) ≡ devices who past) × (tells → ⊥)) ⊎ ((devices who (events ++ past) ≡ devices who past + 1) × tells)
        → devices who new ≡ devices who old → now ≡ before
    spared (inl none) is = spare none.1
    spared (inr told) is = let more = told.0 in absurd (omega (arith, more, same, front, is))

pub devices_up : (given : Step) (line : Option ℕ) (number : ChannelId) (host : HostId) (object : ObjectId) (m : Message) (s : State) (old slots : SlotTable)
    (events : Listed Event) (before now : ℕ) (new : List Event) → MayTakeFrom given line number (Up host object) s
    → Answers m object old slots events.items → AnswerHasCause before now (Ok events)
    → devices Paging new ≡ devices Paging (events.items ++ event.Taken (Up host object) m ∷ given.past)
    → DevicesHaveCause Paging before now s.history.items new
devices_up given line number host object m s old slots events before now new may answered cause same =
    let past = event.Taken (Up host object) m ∷ given.past in
    device_cause Paging (TellsFault events.items) before now events.items past s.history.items new (faults m object old slots events.items past answered)
    cause.later cause.failed cause.spared same
    (ap (devices Paging) may.past ∙ devices_lined Paging line s.history.items)

-- the newest events, up to and with the taking
front_at : (events : List Event) (e : Event) (past : List Event) → take (suc (length events)) (events ++ e ∷ past) ≡ events ++ e ∷ []
front_at [] e past = refl
front_at (f ∷ events) e past = ap (λ (z : List Event). f ∷ z) (front_at events e past)

pub front_is : (n : ℕ) (events : List Event) (e : Event) (past history : List Event) → n ≡ length events + 1 → history ≡ events ++ e ∷ past
    → take n history ≡ events ++ e ∷ []
front_is n events e past history count is =
    let more : n ≡ suc (length events) = omega (arith, count) in
    ap (λ (z : List Event). take n z) is ∙ ap (λ (z : ℕ). take z (events ++ e ∷ past)) more ∙ front_at events e past

-- with room made all is as it was

pub front_length : (n : ℕ) (history events : List Event) (e : Event) → take n history ≡ events ++ e ∷ [] → n ≡ length events + 1 → length (take n history) ≡ n
front_length n history events e is count = ap length is ∙ length-append events (e ∷ []) ∙ sym count
