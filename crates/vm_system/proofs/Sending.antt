-- The letters of the ports, as letters are sent and taken.
use Rattle.vm_system.proofs.Common.{AreSame, Bool, Channel, ChannelId, Event, HasPageOf, HavePagesOf, IsSent, Letter, List, Message, Some, [], ap, arith}
use Rattle.vm_system.proofs.Common.{channel_number, false, false≢true, first, is_channel, length, messages_on, nat_tests, none-some, queue, queue_is, refl}
use Rattle.vm_system.proofs.Common.{reverse, same_Some, same_channel, slice_get, subst, sym, true, undelivered, without_first, ℕ, ◌++◌, ◌==◌, ◌∙◌, ◌∷◌, ◌≡◌}
use Rattle.std.proofs.lemmas.List.{length-reverse, reverse-append}
use Rattle.std.specs.Prelude.{if◌then◌else◌}
use Rattle.vm_model.specs.declared.event.Event.TheVariants as event
use Rattle.vm_ports.specs.Ports as ports
use Rattle.vm_ports.specs.declared.letter.Letter.{Letter as Posted}
use Rattle.vm_system.proofs.Numbers.{is_same, number_kept, same_number}
use Rattle.vm_system.proofs.Starting.{last_before, last_there}

-- the events that sent letters

-- the newest stands behind the others
newest : (e : Event) (past : List Event) → reverse (e ∷ past) ≡ reverse past ++ e ∷ []
newest e past = reverse-append (e ∷ []) past

pub sent_now : (c : Channel) (m : Message) (past : List Event) → IsSent (event.Sent c m ∷ past) (length past) c m
sent_now c m past =
    let all = reverse past in
    ap (λ (xs : List Event). slice_get xs (length past)) (newest (event.Sent c m) past)
    ∙ ap (λ (n : ℕ). slice_get (all ++ event.Sent c m ∷ []) n) (sym (length-reverse past))
    ∙ last_there all (event.Sent c m)

-- an event more keeps the indices of those before it
sent_kept : (e : Event) (past : List Event) (index : ℕ) (c : Channel) (m : Message) → IsSent past index c m → IsSent (e ∷ past) index c m
sent_kept e past index c m is = ap (λ (xs : List Event). slice_get xs index) (newest e past) ∙ last_before (reverse past) e (event.Sent c m) index is

-- an event sends one message
pub sent_one : (past : List Event) (index : ℕ) (c d : Channel) (m n : Message) → IsSent past index c m → IsSent past index d n → n ≡ m
sent_one past index c d m n is other = let both : event.Sent d n ≡ event.Sent c m = same_Some _ _ (sym other ∙ is) in cc

-- events more are told
pub same_kept : (made : List Channel) (posted : List (Posted ℕ)) (letters : List Letter) (e : Event) (past : List Event) → AreSame made posted letters past
    → AreSame made posted letters (e ∷ past)
same_kept made [] [] e past same = tt
same_kept made [] (letter ∷ letters) e past same = absurd same
same_kept made (one ∷ posted) [] e past same = absurd same
same_kept made (one ∷ posted) (letter ∷ letters) e past same =
    (same.0, sent_kept e past one.message letter.channel letter.message same.1, same_kept made posted letters e past same.2)

-- channels are added
pub same_more : (made more : List Channel) (posted : List (Posted ℕ)) (letters : List Letter) (past : List Event) → AreSame made posted letters past
    → AreSame (made ++ more) posted letters past
same_more made more [] [] past same = tt
same_more made more [] (letter ∷ letters) past same = absurd same
same_more made more (one ∷ posted) [] past same = absurd same
same_more made more (one ∷ posted) (letter ∷ letters) past same =
    (number_kept letter.channel made more one.channel.0 same.0, same.1, same_more made more posted letters past same.2)

-- a message is sent
pub same_sent : (made : List Channel) (posted : List (Posted ℕ)) (letters : List Letter) (past : List Event) (c : Channel) (number : ChannelId) (index : ℕ)
    (m : Message) → AreSame made posted letters past → channel_number c made ≡ Some number.0
    → IsSent past index c m → AreSame made (posted ++ record { channel = number; message = index } ∷ []) (letters ++ record { channel = c; message = m } ∷ [])
    past
same_sent made [] [] past c number index m same is sent = (is, sent, tt)
same_sent made [] (letter ∷ letters) past c number index m same is sent = absurd same
same_sent made (one ∷ posted) [] past c number index m same is sent = absurd same
same_sent made (one ∷ posted) (letter ∷ letters) past c number index m same is sent =
    (same.0, same.1, same_sent made posted letters past c number index m same.2 is sent)

-- a letter is on a channel, by its number and by itself
same_test : (made : List Channel) (c d : Channel) (n k : ℕ) → channel_number c made ≡ Some n → channel_number d made ≡ Some k → (k == n) ≡ is_channel c d
same_test made c d n k is other = by (is_channel c d) refl
  where
    by : (b : Bool) → is_channel c d ≡ b → (k == n) ≡ b
    by true e = let at : k ≡ n = same_Some k n (sym other ∙ ap (λ (x : Channel). channel_number x made) (same_channel c d e) ∙ is) in grind (arith, nat_tests)
    by false e = apart (k == n) refl e
      where
        apart : (b : Bool) → (k == n) ≡ b → is_channel c d ≡ false → b ≡ false
        apart false at e = refl
        apart true at e =
            let equal : n ≡ k = grind (arith, nat_tests) in
            absurd (false≢true (sym e ∙ ap (λ (x : Channel). is_channel c x) (sym (same_number c d made n is (other ∙ ap Some (sym equal)))) ∙ is_same c))

pub same_taken : (made : List Channel) (posted : List (Posted ℕ)) (letters : List Letter) (past : List Event) (c : Channel) (n : ℕ)
    → AreSame made posted letters past → channel_number c made ≡ Some n
    → AreSame made (ports.without_first n posted) (without_first c letters) past
same_taken made [] [] past c n same is = tt
same_taken made [] (letter ∷ letters) past c n same is = absurd same
same_taken made (one ∷ posted) [] past c n same is = absurd same
same_taken made (one ∷ posted) (letter ∷ letters) past c n same is =
    rw (same_test made c letter.channel n one.channel.0 is same.0) (by (is_channel c letter.channel) (same_taken made posted letters past c n same.2 is))
  where
    by : (b : Bool) → AreSame made (ports.without_first n posted) (without_first c letters) past
        → AreSame made (if b then posted else one ∷ ports.without_first n posted) (if b then letters else letter ∷ without_first c letters) past
    by true more = same.2
    by false more = (same.0, same.1, more)

-- messages on a channel, by the indices of the events that sent them
abbrev pub AreQueued : Channel → List ℕ → List Message → List Event → Type 0
AreQueued c [] [] past = Unit {0}
AreQueued c (index ∷ more) (m ∷ messages) past = IsSent past index c m × AreQueued c more messages past
AreQueued c indices messages past = ⊥

same_messages : (made : List Channel) (posted : List (Posted ℕ)) (letters : List Letter) (past : List Event) (c : Channel) (n : ℕ)
    → AreSame made posted letters past → channel_number c made ≡ Some n
    → AreQueued c (ports.queue n posted) (messages_on c letters) past
same_messages made [] [] past c n same is = tt
same_messages made [] (letter ∷ letters) past c n same is = absurd same
same_messages made (one ∷ posted) [] past c n same is = absurd same
same_messages made (one ∷ posted) (letter ∷ letters) past c n same is =
    rw (same_test made c letter.channel n one.channel.0 is same.0) (by (is_channel c letter.channel) refl
    (same_messages made posted letters past c n same.2 is))
  where
    by : (b : Bool) → is_channel c letter.channel ≡ b → AreQueued c (ports.queue n posted) (messages_on c letters) past
        → AreQueued c (if b then one.message ∷ ports.queue n posted else ports.queue n posted)
        (if b then letter.message ∷ messages_on c letters else messages_on c letters) past
    by true e more = (subst (λ (d : Channel). IsSent past one.message d letter.message) (same_channel c letter.channel e) same.1, more)
    by false e more = more

-- the messages of a channel are those in its queue
pub queue_same : (made : List Channel) (posted : List (Posted ℕ)) (c : Channel) (n : ℕ) (past : List Event) → AreSame made posted (undelivered past) past
    → channel_number c made ≡ Some n
    → AreQueued c (ports.queue n posted) (queue c past) past
queue_same made posted c n past same is =
    subst (λ (q : List Message). AreQueued c (ports.queue n posted) q past) (sym (queue_is c past))
    (same_messages made posted (undelivered past) past c n same is)

-- where nothing stands there, nothing is on its way
pub queued_none : (c : Channel) (indices : List ℕ) (messages : List Message) (past : List Event) → AreQueued c indices messages past → indices ≡ []
    → messages ≡ []
queued_none c [] [] past queued none = refl
queued_none c [] (m ∷ messages) past queued none = absurd queued
queued_none c (index ∷ more) messages past queued none = absurd (cc)

-- what stands in front
pub queued_first : (c : Channel) (indices : List ℕ) (messages : List Message) (past : List Event) (index : ℕ) → AreQueued c indices messages past
    → slice_get indices 0 ≡ Some index
    → (m : Message) × (first messages ≡ Some m) × IsSent past index c m
queued_first c [] messages past index queued is = absurd (none-some index is)
queued_first c (one ∷ more) [] past index queued is = absurd queued
queued_first c (one ∷ more) (m ∷ messages) past index queued is = (m, refl, subst (λ (n : ℕ). IsSent past n c m) (same_Some one index is) queued.0)

-- the pages of letters

pub pages_end : (size : ℕ) (letters : List Letter) (letter : Letter) → HavePagesOf size letters → HasPageOf size letter.message
    → HavePagesOf size (letters ++ letter ∷ [])
pages_end size [] letter have has = (has, tt)
pages_end size (one ∷ letters) letter have has = (have.0, pages_end size letters letter have.1 has)

pub pages_without : (size : ℕ) (c : Channel) (letters : List Letter) → HavePagesOf size letters → HavePagesOf size (without_first c letters)
pages_without size c [] have = tt
pages_without size c (letter ∷ letters) have = by (is_channel c letter.channel) (pages_without size c letters have.1)
  where
    by : (b : Bool) → HavePagesOf size (without_first c letters) → HavePagesOf size (if b then letters else letter ∷ without_first c letters)
    by true more = have.1
    by false more = (have.0, more)

pub pages_first : (size : ℕ) (c : Channel) (letters : List Letter) (m : Message) → HavePagesOf size letters → first (messages_on c letters) ≡ Some m
    → HasPageOf size m
pages_first size c [] m have is = absurd (none-some m is)
pages_first size c (letter ∷ letters) m have is = by (is_channel c letter.channel) (pages_first size c letters m have.1) is
  where
    by : (b : Bool) → (first (messages_on c letters) ≡ Some m → HasPageOf size m)
        → first (if b then letter.message ∷ messages_on c letters else messages_on c letters) ≡ Some m → HasPageOf size m
    by true more at = subst (λ (k : Message). HasPageOf size k) (same_Some letter.message m at) have.0
    by false more at = more at
