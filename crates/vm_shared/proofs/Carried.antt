-- Where each step has paid, what is asked of the server of shared memory is on its way, or stands in its line behind something that is.
use Rattle.std.proofs.Common.{inl, inr, ℕ, ◌≡◌, ◌∙◌, List, [], ◌∷◌, Bool, true, false, refl, sym, ap, subst, arith, Some}
use Rattle.std.proofs.lemmas.Bool.Decides.{nat_tests}
use Rattle.std.proofs.lemmas.List.Folds.{Any-from_list_any}
use Rattle.std.specs.List.{list_any}
use Rattle.std.specs.Prelude.{◌||◌, ◌<◌, ◌⊎◌}
use Rattle.vm_model.specs.declared.event.Event.{Event}
use Rattle.vm_model.specs.declared.message.Message.{Message}
use Rattle.vm_model.specs.declared.script.Header.{Header}
use Rattle.vm_model.specs.Channels.{down_port, down_words, queue, up_port, up_words, with_down, with_word}
use Rattle.vm_model.specs.Controls.{live_control}
use Rattle.vm_model.specs.Moments.{BeforeSteps, EachEvent}
use Rattle.vm_model.specs.PageLicences.{ActsLicensed}
use Rattle.vm_model.specs.PagePart.{page_part}
use Rattle.vm_model.specs.Server.{Wanting}
use Rattle.vm_model.specs.Side.{Side, side}
use Rattle.vm_model.specs.Words.{DownWord, OtherDown, OtherUp, Readying, UpWord, down_word, up_word}
use Rattle.vm_legal.specs.Bytes.{OwnBytes}
use Rattle.vm_legal.specs.Debts.{IsPaid}
use Rattle.vm_legal.specs.Licences.{HasCause}
use Rattle.vm_legal.specs.Outside.{Outside, is_shared}
use Rattle.vm_legal.specs.Prompt.{AllServed}
use Rattle.vm_legal.specs.Steps.{is_answer}
use Rattle.vm_legal.specs.Walks.{page_on}
use Rattle.vm_coherence.proofs.Carrying.{carried}
use Rattle.vm_coherence.proofs.Channels.{page_queue}
use Rattle.vm_coherence.proofs.Descent.{page_descent}
use Rattle.vm_coherence.proofs.Locals.{side_is_local}
use Rattle.vm_coherence.specs.Carried as word
use Rattle.vm_coherence.specs.Locals.{SideIsLocal}
use Rattle.vm_flat.proofs.Locals.{each_founded}
use Rattle.vm_quiet.specs.Carried.{IsUndelivered, is_request}
use Rattle.vm_shared.proofs.Kept.{unmerged}
use Rattle.vm_shared.proofs.Answered.{has_right, live_some}
use Rattle.vm_shared.proofs.Causes.{licensed}
use Rattle.vm_shared.proofs.Order.{down_in_order, up_in_order}
use Rattle.vm_shared.proofs.Steps.{done_now, steps_done}
use Rattle.vm_shared.specs.Carried.{IsInLine, SharedAreCarried, is_lock, is_recall, is_reply, is_unlock, line_of}

-- a word among the page's is a message of the channel

or_true : (a b c d : Bool) → (a ≡ true → c ≡ true) → (b ≡ true → d ≡ true) → (a || b) ≡ true → (c || d) ≡ true
or_true true b c d one more is = ap (λ x. x || d) (one refl)
or_true false b true d one more is = refl
or_true false b false d one more is = more is

skips : (a b : Bool) → b ≡ true → (a || b) ≡ true
skips true b is = refl
skips false b is = is

up_any : (p : ℕ) (test : UpWord → Bool) (such : Message → Bool) → ((m : Message) → test (up_word p m) ≡ true → such m ≡ true) → (q : List Message)
    → list_any test (up_words p q) ≡ true → list_any such q ≡ true
up_any p test such is [] some = absurd (let bad : false ≡ true = some in cc)
up_any p test such is (m ∷ q) some = by (up_word p m) (is m) some (up_any p test such is q)
  where
    by : (w : UpWord) → (test w ≡ true → such m ≡ true) → list_any test (with_word w (up_words p q)) ≡ true
        → (list_any test (up_words p q) ≡ true → list_any such q ≡ true) → (such m || list_any such q) ≡ true
    by OtherUp one some more = skips (such m) (list_any such q) (more some)
    by w one some more = or_true (test w) (list_any test (up_words p q)) (such m) (list_any such q) one more some

down_any : (p : ℕ) (test : DownWord → Bool) (such : Message → Bool) → ((m : Message) → test (down_word p m) ≡ true → such m ≡ true) → (q : List Message)
    → list_any test (down_words p q) ≡ true → list_any such q ≡ true
down_any p test such is [] some = absurd (let bad : false ≡ true = some in cc)
down_any p test such is (m ∷ q) some = by (down_word p m) (is m) some (down_any p test such is q)
  where
    by : (w : DownWord) → (test w ≡ true → such m ≡ true) → list_any test (with_down w (down_words p q)) ≡ true
        → (list_any test (down_words p q) ≡ true → list_any such q ≡ true) → (such m || list_any such q) ≡ true
    by OtherDown one some more = skips (such m) (list_any such q) (more some)
    by Readying one some more = skips (such m) (list_any such q) (more some)
    by w one some more = or_true (test w) (list_any test (down_words p q)) (such m) (list_any such q) one more some

-- which message each word is

asks_is : (k p : ℕ) (m : Message) → word.asks_as k (up_word p m) ≡ true → is_request k p m ≡ true
asks_is k p m is = grind (arith, nat_tests)

unlock_is : (p : ℕ) (m : Message) → word.unlocks (up_word p m) ≡ true → is_unlock p m ≡ true
unlock_is p m is = grind (arith, nat_tests)

does_is : (k p : ℕ) (m : Message) → word.does_as k (up_word p m) ≡ true → is_reply k p m ≡ true
does_is k p m is = grind (arith, nat_tests)

ends_is : (k p : ℕ) (m : Message) → word.ends_as k (up_word p m) ≡ true → is_reply k p m ≡ true
ends_is k p m is = grind (arith, nat_tests)

supply_is : (p : ℕ) (m : Message) → word.supplies (down_word p m) ≡ true → is_answer p m ≡ true
supply_is p m is = grind (arith, nat_tests)

lock_is : (p : ℕ) (m : Message) → word.locks (down_word p m) ≡ true → is_lock p m ≡ true
lock_is p m is = grind (arith, nat_tests)

recall_is : (p : ℕ) (m : Message) → word.recalls (down_word p m) ≡ true → is_recall p m ≡ true
recall_is p m is = grind (arith, nat_tests)

-- what is known of a history of shared memory behind a step that paid
pub record IsPaidFor (header : Header) (outside : Outside) (history : List Event) : Type 0 where
  pub causes : EachEvent (HasCause header outside) history
  pub steps : BeforeSteps (IsPaid header) history
  pub paid : IsPaid header history
  pub licensed : (o p : ℕ) → is_shared header o ≡ true → ActsLicensed header.size (page_part header.size o p history)

-- a host's part of a page
record IsPart (header : Header) (h o p : ℕ) (history : List Event) : Type 0 where
  at : word.IsCarriedAt h (page_part header.size o p history)
  tied : SideIsLocal (live_control h o history) (side h (page_part header.size o p history)) (page_on header h o p history)
  up : (side h (page_part header.size o p history)).up ≡ up_words p (queue (up_port h o) history)
  down : (side h (page_part header.size o p history)).live ≡ true
      → (side h (page_part header.size o p history)).down ≡ down_words p (queue (down_port h o (side h (page_part header.size o p history)).control) history)
  done : (side h (page_part header.size o p history)).step ≡ 0

part_of : (header : Header) (outside : Outside) (h o p : ℕ) (history : List Event) → IsPaidFor header outside history → is_shared header o ≡ true
    → IsPart header h o p history
part_of header outside h o p history known shared =
    record {
      at =
          carried header.size (page_part header.size o p history) (known.licensed o p shared)
          (steps_done header outside o p history shared known.causes known.steps) h;
      tied = side_is_local header history h o p (unmerged header outside history known.causes o shared) (each_founded header outside history known.causes);
      up = page_queue header.size history h o p (up_in_order header outside history known.causes);
      down = page_descent header.size history h o p (down_in_order header outside history known.causes);
      done = done_now header outside o p history shared known.causes known.paid h;
    }

sent_up : (header : Header) (h o p : ℕ) (history : List Event) → IsPart header h o p history → (test : UpWord → Bool) (such : Message → Bool)
    → ((m : Message) → test (up_word p m) ≡ true → such m ≡ true)
    → list_any test (side h (page_part header.size o p history)).up ≡ true → IsUndelivered such (up_port h o) history
sent_up header h o p history part test such is some =
    Any-from_list_any such (queue (up_port h o) history) (up_any p test such is (queue (up_port h o) history)
    (ap (λ (q : List UpWord). list_any test q) (sym part.up) ∙ some))

sent_down : (header : Header) (h o p : ℕ) (history : List Event) → IsPart header h o p history → (test : DownWord → Bool) (such : Message → Bool)
    → ((m : Message) → test (down_word p m) ≡ true → such m ≡ true)
    → (side h (page_part header.size o p history)).live ≡ true → list_any test (side h (page_part header.size o p history)).down ≡ true
    → IsUndelivered such (down_port h o (side h (page_part header.size o p history)).control) history
sent_down header h o p history part test such is live some =
    Any-from_list_any such (queue (down_port h o (side h (page_part header.size o p history)).control) history)
    (down_any p test such is (queue (down_port h o (side h (page_part header.size o p history)).control) history)
    (ap (λ (q : List DownWord). list_any test q) (sym (part.down live)) ∙ some))

in_line : (test : Wanting → Bool) (ws : List Wanting) → list_any test ws ≡ true → IsInLine test ws
in_line test ws some = Any-from_list_any test ws some

asked_on : (header : Header) (h o p : ℕ) (history : List Event) → IsPart header h o p history → (page_on header h o p history).asked ≡ true
    → (control : ℕ) × (live_control h o history ≡ Some control)
    × (IsUndelivered (is_request control p) (up_port h o) history
    ⊎ (IsInLine (word.requests h) (line_of header o p history) ⊎ IsUndelivered (is_answer p) (down_port h o control) history))
asked_on header h o p history part is = (s.control, live_some s (live_control h o history) part.tied.control live, by (part.at.asked asked))
  where
    s : Side
    s = side h (page_part header.size o p history)

    asked : s.asked ≡ true
    asked = part.tied.asked ∙ is

    live : s.live ≡ true
    live = part.at.living asked

    by : (list_any (word.asks_as s.control) s.up ≡ true)
        ⊎ ((list_any (word.requests h) (line_of header o p history) ≡ true) ⊎ (list_any word.supplies s.down ≡ true))
        → IsUndelivered (is_request s.control p) (up_port h o) history
        ⊎ (IsInLine (word.requests h) (line_of header o p history) ⊎ IsUndelivered (is_answer p) (down_port h o s.control) history)
    by (inl some) = inl (sent_up header h o p history part (word.asks_as s.control) (is_request s.control p) (asks_is s.control p) some)
    by (inr (inl some)) = inr (inl (in_line (word.requests h) (line_of header o p history) some))
    by (inr (inr some)) = inr (inr (sent_down header h o p history part word.supplies (is_answer p) (supply_is p) live some))

unlocking_on : (header : Header) (h o p : ℕ) (history : List Event) → IsPart header h o p history → (page_on header h o p history).here ≡ true
    → (page_on header h o p history).unlocking ≡ true
    → (control : ℕ) × (live_control h o history ≡ Some control)
    × (IsUndelivered (is_unlock p) (up_port h o) history
    ⊎ (IsInLine (word.upgrades h) (line_of header o p history) ⊎ IsUndelivered (is_lock p) (down_port h o control) history))
unlocking_on header h o p history part here is =
    (s.control, live_some s (live_control h o history) part.tied.control live, by (part.at.unlocking (part.tied.unlocking here ∙ is) right))
  where
    s : Side
    s = side h (page_part header.size o p history)

    right : 0 < s.right
    right = has_right (page_on header h o p history) s.right part.tied.right here

    live : s.live ≡ true
    live = part.at.having right

    by : (list_any word.unlocks s.up ≡ true) ⊎ ((list_any (word.upgrades h) (line_of header o p history) ≡ true) ⊎ (list_any word.locks s.down ≡ true))
        → IsUndelivered (is_unlock p) (up_port h o) history
        ⊎ (IsInLine (word.upgrades h) (line_of header o p history) ⊎ IsUndelivered (is_lock p) (down_port h o s.control) history)
    by (inl some) = inl (sent_up header h o p history part word.unlocks (is_unlock p) (unlock_is p) some)
    by (inr (inl some)) = inr (inl (in_line (word.upgrades h) (line_of header o p history) some))
    by (inr (inr some)) = inr (inr (sent_down header h o p history part word.locks (is_lock p) (lock_is p) live some))

awaited_on : (header : Header) (h o p : ℕ) (history : List Event) → IsPart header h o p history → 0 < (side h (page_part header.size o p history)).awaits
    → IsUndelivered (is_recall p) (down_port h o (side h (page_part header.size o p history)).awaited_control) history
    ⊎ IsUndelivered (is_reply (side h (page_part header.size o p history)).awaited_control p) (up_port h o) history
awaited_on header h o p history part some = by (part.at.awaited some)
  where
    s : Side
    s = side h (page_part header.size o p history)

    -- the lock is on its way to the live control, for which the host is awaited
    recalled : list_any word.recalls s.down ≡ true → IsUndelivered (is_recall p) (down_port h o s.awaited_control) history
    recalled down =
        let reached = part.at.reached down in
        subst (λ (k : ℕ). IsUndelivered (is_recall p) (down_port h o k) history) (sym reached.1)
        (sent_down header h o p history part word.recalls (is_recall p) (recall_is p) reached.0 down)

    by : (list_any word.recalls s.down ≡ true) ⊎ ((0 < s.step)
        ⊎ ((list_any (word.does_as s.awaited_control) s.up ≡ true) ⊎ (list_any (word.ends_as s.awaited_control) s.up ≡ true)))
        → IsUndelivered (is_recall p) (down_port h o s.awaited_control) history ⊎ IsUndelivered (is_reply s.awaited_control p) (up_port h o) history
    by (inl down) = inl (recalled down)
    by (inr (inl step)) = absurd (omega (arith, step, part.done))
    by (inr (inr (inl up))) =
        inr (sent_up header h o p history part (word.does_as s.awaited_control) (is_reply s.awaited_control p) (does_is s.awaited_control p) up)
    by (inr (inr (inr up))) =
        inr (sent_up header h o p history part (word.ends_as s.awaited_control) (is_reply s.awaited_control p) (ends_is s.awaited_control p) up)

shared_carried : (header : Header) (outside : Outside) (history : List Event) → IsPaidFor header outside history → AllServed header history
    → SharedAreCarried header history
shared_carried header outside history known served =
    record {
      asked = λ h o p shared is. asked_on header h o p history (part_of header outside h o p history known shared) is;
      unlocking = λ h o p shared here is. unlocking_on header h o p history (part_of header outside h o p history known shared) here is;
      awaited = λ h o p shared some. awaited_on header h o p history (part_of header outside h o p history known shared) some;
      standing =
          λ o p shared some. let host = served o p shared some in (
            host.0,
            (side host.0 (page_part header.size o p history)).awaited_control,
            awaited_on header host.0 o p history (part_of header outside host.0 o p history known shared) host.1,
          );
    }

pub shared_are_carried : (header : Header) (outside : Outside) (history : List Event) → EachEvent (HasCause header outside) history
    → EachEvent (OwnBytes header) history → BeforeSteps (IsPaid header) history → IsPaid header history → AllServed header history
    → SharedAreCarried header history
shared_are_carried header outside history causes own steps paid served =
    shared_carried header outside history (record {
      causes = causes;
      steps = steps;
      paid = paid;
      licensed = λ o p shared. licensed header outside history causes own o p shared;
    }) served
