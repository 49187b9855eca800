-- What a system's ports stand for, as events are told.
use Rattle.std.proofs.lemmas.List.{length-reverse, length-take-le, reverse-append}
use Rattle.std.proofs.lemmas.Option.{slice_get_within}
use Rattle.std.specs.Prelude.{drop, take, ◌≤◌}
use Rattle.vm_system.proofs.Common.{BufferStore, CanSend, CanTell, CanTellAll, Channel, ChannelTable, Delivered, Event, HasPageOf, IsSent, List, Message, None}
use Rattle.vm_system.proofs.Common.{Option, Posts, Some, State, [], ap, append_assoc, arith, channel_number, first, first_is, is_some, length, length-append}
use Rattle.vm_system.proofs.Common.{lined, made_by, queue, refl, reverse, slice_get, subst, suc, sym, undelivered, zero, ℕ, ◌++◌, ◌+◌, ◌∙◌, ◌∷◌, ◌≡◌}
use Rattle.vm_model.specs.declared.event.Event.TheVariants as event
use Rattle.vm_ports.specs.Ports as ports
use Rattle.vm_system.proofs.Made.{numbers_made}
use Rattle.vm_system.proofs.Sending.{pages_end, pages_first, pages_without, queue_same, queued_first, queued_none, same_kept, same_more, same_sent, same_taken}
use Rattle.vm_system.proofs.Sending.{sent_now, sent_one}

-- an event that tells of no message
pub posts_other : (size : ℕ) (e : Event) (s : State) (past : List Event) → CanTell size e past
    → ((channel : Channel) (m : Message) → e ≡ event.Sent channel m → ⊥) → Posts s past → Posts s (e ∷ past)
posts_other size (event.Sent channel m) s past can other posts = absurd (other channel m refl)
posts_other size (event.Taken channel m) s past can other posts = absurd can
posts_other size e s past can other posts = record {
  channels = posts.channels;
  count = posts.count;
  letters = same_kept s.channels.made s.ports.letters (undelivered past) e past posts.letters;
  pages = posts.pages;
  buffers = posts.buffers;
}

pub posts_line : (line : Option ℕ) (s : State) (past : List Event) → Posts s past → Posts s (lined line past)
posts_line None s past posts = posts
posts_line (Some line) s past posts = record {
  channels = posts.channels;
  count = posts.count;
  letters = same_kept s.channels.made s.ports.letters (undelivered past) (event.Line line) past posts.letters;
  pages = posts.pages;
  buffers = posts.buffers;
}

-- a message is sent
pub posts_sent : (channel : Channel) (m : Message) (s t : State) (past : List Event) → HasPageOf s.size m → CanSend channel m past → Posts s past
    → Delivered channel m (length past) s t
    → Posts t (event.Sent channel m ∷ past)
posts_sent channel m s t past has can posts sent = record {
  channels = λ c. ap (λ (all : List Channel). is_some (channel_number c all)) sent.made ∙ numbers_made c channel m past s.channels.made can (posts.channels c);
  count = let more = length-append s.channels.made (made_by s.channels.made channel m) in ap length sent.made ∙ omega (arith, more, posts.count, sent.count);
  letters =
      let made = s.channels.made ++ made_by s.channels.made channel m in
      let same = same_more s.channels.made (made_by s.channels.made channel m) s.ports.letters (undelivered past) past posts.letters in
      let kept = same_kept made s.ports.letters (undelivered past) (event.Sent channel m) past same in
      let is : channel_number channel made ≡ Some sent.number.0 = rw sent.made at sent.is in
      rw (sent.made, sent.letters) (same_sent made s.ports.letters (undelivered past) (event.Sent channel m ∷ past) channel sent.number (length past) m kept is
      (sent_now channel m past));
  pages = rw sent.hosts.size (pages_end s.size (undelivered past) (record { channel = channel; message = m }) posts.pages has);
  buffers = ap (λ (store : BufferStore). store.size) sent.buffers ∙ posts.buffers ∙ sym sent.hosts.size;
}

-- the first message of a channel is taken, behind a line if the step begins with one
pub posts_taken : (channel : Channel) (m : Message) (n : ℕ) (line : Option ℕ) (s t : State) (past now : List Event)
    → channel_number channel s.channels.made ≡ Some n → Posts s past
    → now ≡ event.Taken channel m ∷ lined line past → t.ports.letters ≡ ports.without_first n s.ports.letters → t.ports.channels ≡ s.ports.channels
    → t.channels ≡ s.channels → t.buffers.size ≡ s.buffers.size → t.size ≡ s.size
    → Posts t now
posts_taken channel m n line s t past now is posts at letters count channels buffers size =
    let before = lined line past in
    let lines = posts_line line s past posts in
    let made : t.channels.made ≡ s.channels.made = ap (λ (table : ChannelTable). table.made) channels in
    subst (λ (all : List Event). Posts t all) (sym at) (record {
      channels = λ c. ap (λ (all : List Channel). is_some (channel_number c all)) made ∙ lines.channels c;
      count = ap length made ∙ posts.count ∙ sym count;
      letters =
          let kept = same_kept s.channels.made s.ports.letters (undelivered before) (event.Taken channel m) before lines.letters in
          let same = same_taken s.channels.made s.ports.letters (undelivered before) (event.Taken channel m ∷ before) channel n kept is in
          rw (made, letters) same;
      pages = rw size (pages_without s.size channel (undelivered before) lines.pages);
      buffers = buffers ∙ posts.buffers ∙ sym size;
    })

-- what stands in front on a channel is what is taken: its event sent it, and its page has so many bytes
pub record IsFirst (channel : Channel) (index : ℕ) (m : Message) (s : State) (past : List Event) : Type 0 where
  pub front : first (queue channel past) ≡ Some m
  pub sent : IsSent past index channel m
  pub page : HasPageOf s.buffers.size m

pub first_taken : (channel : Channel) (index n : ℕ) (more : List ℕ) (s : State) (past : List Event) → channel_number channel s.channels.made ≡ Some n
    → Posts s past
    → ports.queue n s.ports.letters ≡ index ∷ more → (m : Message) × IsFirst channel index m s past
first_taken channel index n more s past is posts front =
    let queued = queue_same s.channels.made s.ports.letters channel n past posts.letters is in
    let f = queued_first channel (ports.queue n s.ports.letters) (queue channel past) past index queued (ap (λ (q : List ℕ). slice_get q 0) front) in
    let has = pages_first s.size channel (undelivered past) f.0 posts.pages (first_is channel f.0 past f.1) in
    (f.0, record { front = f.1; sent = f.2; page = rw posts.buffers has })

-- the event tells of it alone
pub first_read : (channel : Channel) (index n : ℕ) (more : List ℕ) (m : Message) (s : State) (past : List Event)
    → channel_number channel s.channels.made ≡ Some n → Posts s past
    → ports.queue n s.ports.letters ≡ index ∷ more → (c : Channel) × IsSent past index c m → IsFirst channel index m s past
first_read channel index n more m s past is posts front read =
    let f = first_taken channel index n more s past is posts front in
    subst (λ (k : Message). IsFirst channel index k s past) (sym (sent_one past index channel read.0 f.0 m f.1.sent read.1)) f.1

-- where nothing stands there, nothing is on its way
pub none_taken : (channel : Channel) (n : ℕ) (s : State) (past : List Event) → channel_number channel s.channels.made ≡ Some n → Posts s past
    → ports.queue n s.ports.letters ≡ [] → queue channel past ≡ []
none_taken channel n s past is posts none =
    queued_none channel (ports.queue n s.ports.letters) (queue channel past) past (queue_same s.channels.made s.ports.letters channel n past posts.letters is)
    none

-- the oldest of some events is told first
pub record Oldest (size : ℕ) (e : Event) (more past : List Event) : Type 0 where
  pub can : CanTell size e past
  pub rest : CanTellAll size more (e ∷ past)

pub oldest_told : (size : ℕ) (e : Event) (more past : List Event) → CanTellAll size (more ++ e ∷ []) past → Oldest size e more past
oldest_told size e [] past can = record { can = can.0; rest = tt }
oldest_told size e (one ∷ more) past can =
    let later = oldest_told size e more past can.1 in
    record { can = later.can; rest = (subst (λ (all : List Event). CanTell size one all) (append_assoc more (e ∷ []) past) can.0, later.rest) }

-- what is told of some events behind the past when so many are, newest first
abbrev pub told : ℕ → List Event → List Event → List Event
told i events past = reverse (take i (reverse events)) ++ past

-- the event at an index, counted from the oldest, is told behind the older ones, and in front of the newer ones
pub record IsNext (i : ℕ) (e : Event) (all : List Event) : Type 0 where
  pub told : take (i + 1) all ≡ take i all ++ e ∷ []
  pub left : drop i all ≡ e ∷ drop (i + 1) all

pub next_at : (i : ℕ) (e : Event) (all : List Event) → slice_get all i ≡ Some e → IsNext i e all
next_at i e [] is = absurd (let bad : None ≡ Some e = is in cc)
next_at zero e (x ∷ all) is =
    let same : x ≡ e = cc in
    record { told = ap (λ (z : Event). z ∷ []) same; left = ap (λ (z : Event). z ∷ all) same }
next_at (suc i) e (x ∷ all) is =
    let next = next_at i e all is in
    record {
      told =
          subst (λ (n : ℕ). take n (x ∷ all) ≡ x ∷ (take i all ++ e ∷ [])) (let one : suc (i + 1) ≡ suc i + 1 = omega arith in one)
          (ap (λ (z : List Event). x ∷ z) next.told);
      left = subst (λ (n : ℕ). drop i all ≡ e ∷ drop n (x ∷ all)) (let one : suc (i + 1) ≡ suc i + 1 = omega arith in one) next.left;
    }

pub told_next : (i : ℕ) (e : Event) (events past : List Event) → IsNext i e (reverse events) → told (i + 1) events past ≡ e ∷ told i events past
told_next i e events past next =
    ap (λ (z : List Event). reverse z ++ past) next.told ∙ ap (λ (z : List Event). z ++ past) (reverse-append (take i (reverse events)) (e ∷ []))

pub told_long : (i : ℕ) (events past : List Event) → i ≤ length events → length (told i events past) ≡ length past + i
told_long i events past few =
    let all = length-append (reverse (take i (reverse events))) past in
    let back = length-reverse (take i (reverse events)) in
    let whole = length-reverse events in
    let some = length-take-le i (reverse events) (omega (arith, few, whole)) in
    omega (arith, all, back, some)

-- the event that is told next
pub record IsToldNext (i : ℕ) (e : Event) (events : List Event) (size : ℕ) (past : List Event) : Type 0 where
  pub few : i ≤ length events
  pub left : drop i (reverse events) ≡ e ∷ drop (i + 1) (reverse events)
  pub grows : told (i + 1) events past ≡ e ∷ told i events past
  pub can : CanTell size e (told i events past)
  pub rest : CanTellAll size (reverse (drop (i + 1) (reverse events))) (e ∷ told i events past)

pub told_at : (i : ℕ) (e : Event) (events : List Event) (size : ℕ) (past : List Event) → slice_get (reverse events) i ≡ Some e
    → CanTellAll size (reverse (drop i (reverse events))) (told i events past) → IsToldNext i e events size past
told_at i e events size past is can =
    let next = next_at i e (reverse events) is in
    let within = slice_get_within (reverse events) i e is in
    let whole = length-reverse events in
    let more = drop (i + 1) (reverse events) in
    let split : reverse (drop i (reverse events)) ≡ reverse more ++ e ∷ [] = ap (λ (z : List Event). reverse z) next.left ∙ reverse-append (e ∷ []) more in
    let oldest = oldest_told size e (reverse more) (told i events past) (subst (λ (all : List Event). CanTellAll size all (told i events past)) split can) in
    record { few = omega (arith, within, whole); left = next.left; grows = told_next i e events past next; can = oldest.can; rest = oldest.rest }
