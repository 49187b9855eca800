-- A page's words on the way up are those of its channel, in order.
use Rattle.std.proofs.Common.{◌≡◌, ℕ, ◌==◌, ◌&&◌, List, [], ◌∷◌, ◌++◌, arith, Some, if◌then◌else◌, refl, ap, sym, ◌∙◌, replicate, ◌/◌, ◌%◌, Bool, true, false}
use Rattle.std.proofs.lemmas.Bool.Decides.{nat_tests}
use Rattle.vm_model.specs.declared.message.Channel.TheVariants.{Up, Down}
use Rattle.vm_model.specs.declared.message.Message.{Message}
use Rattle.vm_model.specs.declared.message.Message.TheVariants as message
use Rattle.vm_model.specs.declared.event.Event.{Event}
use Rattle.vm_model.specs.declared.event.Event.TheVariants as event
use Rattle.vm_model.specs.Words.{UpWord, OtherUp, DownWord, ActEffect, SendsUp, TakenUp, SentDown, TakesDown, Puts, Drops, Begins, Loads, Stores, Fails}
use Rattle.vm_model.specs.Words.{BeginsCopy, Copies, EndsCopy, StepBegins, Nothing, up_word, down_word, times_meant, sent_act_effect, act_if, act_of, to_others}
use Rattle.vm_model.specs.Words.{effect_on}
use Rattle.vm_model.specs.Side.{Side, rest, side_sent_up, side_taken_up, side_after, side}
use Rattle.vm_model.specs.Server.{first, line}
use Rattle.vm_model.specs.TaskPlace.{task_host, means_page}
use Rattle.vm_model.specs.PagePart.{page_part}
use Rattle.vm_model.specs.Channels.{up_port, queue_after, up_queue, TakesFirst, UpInOrder, with_word, up_words}
use Rattle.vm_coherence.proofs.Still.{still}

pub words_end : (p : ℕ) (q : List Message) (m : Message) → up_words p (q ++ m ∷ []) ≡ up_words p q ++ with_word (up_word p m) []
words_end p [] m = refl
words_end p (n ∷ q) m = with_end (up_word p n) (up_words p q) (up_words p (q ++ m ∷ [])) (with_word (up_word p m) []) (words_end p q m) where
  with_end : (w : UpWord) (ws us vs : List UpWord) → us ≡ ws ++ vs → with_word w us ≡ with_word w ws ++ vs
  with_end w ws us vs is = grind arith

append_none : (ws : List UpWord) → ws ++ [] ≡ ws
append_none [] = refl
append_none (w ∷ ws) = grind (arith, append_none ws)

sent_queue : (w : UpWord) (s : Side) → (side_sent_up s w).up ≡ s.up ++ with_word w []
sent_queue w s = grind (arith, append_none)

taken_queue : (w : UpWord) (s : Side) (ws : List UpWord) → s.up ≡ with_word w ws → (side_taken_up s w).up ≡ ws
taken_queue w s ws is = grind arith

-- what a host sends adds its word
sends : (p : ℕ) (m : Message) (s : Side) → (side_after s (sent_act_effect p m)).up ≡ s.up ++ with_word (up_word p m) []
sends p (message.Init control size) s = sent_queue OtherUp s
sends p (message.Create control size) s = sent_queue OtherUp s
sends p m s = sent_queue (up_word p m) s

-- nothing else touches what is on the way up
abbrev pub IsSilent : ActEffect → Type 0
IsSilent (SendsUp control word) = ⊥
IsSilent (TakenUp word) = ⊥
IsSilent e = Unit {0}

still_up : (e : ActEffect) (s : Side) → IsSilent e → (side_after s e).up ≡ s.up
still_up e s still = grind (arith, nat_tests)

-- what is taken from this channel is its first
abbrev pub HeadOf : ℕ → ℕ → Event → List Message → Type 0
HeadOf h o (event.Taken (Up host object) m) q = host.0 ≡ h → object.0 ≡ o → first q ≡ Some m
HeadOf h o e q = Unit {0}

took : (p : ℕ) (q : List Message) (m : Message) → first q ≡ Some m → up_words p q ≡ with_word (up_word p m) (up_words p (rest q))
took p q m is = grind arith

-- what another host does leaves it as it was
pub others_up : (e : ActEffect) (s : Side) → (side_after s (to_others e)).up ≡ s.up
others_up e s = grind arith

sent_step : (host object : ℕ) (m : Message) (h o p : ℕ) (s : Side) (q : List Message) → s.up ≡ up_words p q
    → (side_after s (effect_on h (record { host = host; effect = if object == o then sent_act_effect p m else Nothing }))).up ≡ up_words p
    (if host == h && object == o then q ++ m ∷ [] else q)
sent_step host object m h o p s q is = by_cases (host == h) (object == o) refl where
  by_cases : (b c : Bool) → (host == h) ≡ b → (side_after s (if b then (if c then sent_act_effect p m else Nothing) else to_others
      (if c then sent_act_effect p m else Nothing))).up ≡ up_words p (if b && c then q ++ m ∷ [] else q)
  by_cases true true e = sends p m s ∙ (ap (λ (l : List UpWord). l ++ with_word (up_word p m) []) is ∙ sym (words_end p q m))
  by_cases true false e = is
  by_cases false true e = others_up (sent_act_effect p m) s ∙ is
  by_cases false false e = is

taken_step : (host object : ℕ) (m : Message) (h o p : ℕ) (s : Side) (q : List Message) → s.up ≡ up_words p q → (host ≡ h → object ≡ o → first q ≡ Some m)
    → (side_after s (effect_on h (record { host = host; effect = if object == o then TakenUp (up_word p m) else StepBegins }))).up ≡ up_words p
    (if host == h && object == o then rest q else q)
taken_step host object m h o p s q is head =
    grind (arith, nat_tests, taken_queue (up_word p m) s (up_words p (rest q)), took p q m)

-- other events are silent, each at its host and at all others
silent_event : (size o p : ℕ) (host_of : ℕ → ℕ) (means : ℕ → ℕ → Bool) (held : ℕ → ℕ → ℕ → List ℕ) (h : ℕ) (s : Side) (host : ℕ) (b : Bool) (e : ActEffect)
    → IsSilent e → (side_after s (effect_on h (act_if b host e))).up ≡ s.up
silent_event size o p host_of means held h s host b e still = by_cases (host == h) b where
  by_cases : (c b : Bool) → (side_after s (if c then (if b then e else Nothing) else to_others (if b then e else Nothing))).up ≡ s.up
  by_cases true true = still_up e s still
  by_cases true false = refl
  by_cases false true = others_up e s
  by_cases false false = refl

silent_if : (b : Bool) (e f : ActEffect) → IsSilent e → IsSilent f → IsSilent (if b then e else f)
silent_if true e f one two = one
silent_if false e f one two = two

down_taken : (host object control : ℕ) (word : DownWord) (h o : ℕ) (s : Side)
    → (side_after s (effect_on h (record { host = host; effect = if object == o then TakesDown control word else StepBegins }))).up ≡ s.up
down_taken host object control word h o s = by_cases (host == h) (object == o) where
  by_cases : (c b : Bool) → (side_after s (if c then (if b then TakesDown control word else StepBegins) else to_others
      (if b then TakesDown control word else StepBegins))).up ≡ s.up
  by_cases true true = still_up (TakesDown control word) s tt
  by_cases true false = refl
  by_cases false true = refl
  by_cases false false = refl

up_step : (e : Event) (size o p : ℕ) (host_of : ℕ → ℕ) (means : ℕ → ℕ → Bool) (held : ℕ → ℕ → ℕ → List ℕ) (h : ℕ) (s : Side) (q : List Message)
    → s.up ≡ up_words p q → HeadOf h o e q → (side_after s (effect_on h (act_of size o p host_of means held e))).up ≡ up_words p (queue_after (up_port h o) e q)
up_step (event.Sent (Up host object) m) size o p host_of means held h s q is head = sent_step host.0 object.0 m h o p s q is
up_step (event.Taken (Up host object) m) size o p host_of means held h s q is head = taken_step host.0 object.0 m h o p s q is head
up_step (event.Sent (Down host object control) m) size o p host_of means held h s q is head =
    silent_event size o p host_of means held h s host.0 (object.0 == o) (SentDown control (down_word p m)) tt ∙ is
up_step (event.Taken (Down host object control) m) size o p host_of means held h s q is head = down_taken host.0 object.0 control (down_word p m) h o s ∙ is
up_step (event.Dropped host object page) size o p host_of means held h s q is head =
    silent_event size o p host_of means held h s host.0 (object.0 == o && page.0 == p) Drops tt ∙ is
up_step (event.Zeroed host object page) size o p host_of means held h s q is head =
    silent_event size o p host_of means held h s host.0 (object.0 == o && page.0 == p) (Puts (replicate size 0) false) tt ∙ is
up_step (event.Raised host lower lower_page upper upper_page) size o p host_of means held h s q is head =
    silent_event size o p host_of means held h s host.0 (upper.0 == o && upper_page.0 == p) (Puts (held host.0 lower.0 lower_page.0) true) tt ∙ is
up_step (event.CopiedPage task page object object_page target) size o p host_of means held h s q is head =
    silent_event size o p host_of means held h s (host_of task.0) true (if target.0 == o && page.0 == p then Puts (held (host_of task.0) object.0 object_page.0)
    true else (if object.0 == o && object_page.0 == p then Copies task.0 else Nothing))
    (silent_if (target.0 == o && page.0 == p) _ _ tt (silent_if (object.0 == o && object_page.0 == p) _ _ tt tt)) ∙ is
up_step (event.BegunCopy task address bytes to) size o p host_of means held h s q is head =
    silent_event size o p host_of means held h s (host_of task.0) true (BeginsCopy task.0 (times_meant size (means task.0) address (bytes / size))) tt ∙ is
up_step (event.CopyEnded task) size o p host_of means held h s q is head =
    silent_event size o p host_of means held h s (host_of task.0) true (EndsCopy task.0) tt ∙ is
up_step (event.BegunLoad task address bytes) size o p host_of means held h s q is head =
    silent_event size o p host_of means held h s (host_of task.0) (means task.0 address) (Begins task.0 false (address % size) bytes 0) tt ∙ is
up_step (event.BegunStore task address bytes value) size o p host_of means held h s q is head =
    silent_event size o p host_of means held h s (host_of task.0) (means task.0 address) (Begins task.0 true (address % size) bytes value) tt ∙ is
up_step (event.Loaded task object page value) size o p host_of means held h s q is head =
    silent_event size o p host_of means held h s (host_of task.0) (object.0 == o && page.0 == p) (Loads task.0 value) tt ∙ is
up_step (event.Stored task object page at bytes value) size o p host_of means held h s q is head =
    silent_event size o p host_of means held h s (host_of task.0) (object.0 == o && page.0 == p) (Stores task.0 at bytes value) tt ∙ is
up_step (event.Failed task object page) size o p host_of means held h s q is head =
    silent_event size o p host_of means held h s (host_of task.0) true (if object.0 == o && page.0 == p then Fails task.0 else EndsCopy task.0)
    (silent_if (object.0 == o && page.0 == p) _ _ tt tt) ∙ is
up_step (event.Line line) size o p host_of means held h s q is head = silent_event size o p host_of means held h s 0 true StepBegins tt ∙ is
up_step e size o p host_of means held h s q is head = silent_event size o p host_of means held h s 0 true Nothing tt ∙ is

head_of : (e : Event) (past : List Event) (h o : ℕ) → TakesFirst e past → HeadOf h o e (up_queue h o past)
head_of e past h o is = grind arith

-- the words of a page on the channel up are those of its part, in order
pub page_queue : (size : ℕ) (history : List Event) (h o p : ℕ) → UpInOrder history
    → (side h (page_part size o p history)).up ≡ up_words p (up_queue h o history)
page_queue size [] h o p order = refl
page_queue size (e ∷ past) h o p order =
    up_step e size o p (λ task. task_host task past) (λ task address. means_page size o p task address past)
    (λ host object page. (side host (page_part size object page past)).bytes) h (side h (page_part size o p past)) (up_queue h o past)
    (page_queue size past h o p order.1) (head_of e past h o order.0)
