-- A page's words on the way down to the live control are those of its channel, in order.
use Rattle.std.proofs.Common.{◌≡◌, ◌≤◌, ◌<◌, ◌≢◌, ℕ, ◌==◌, ◌&&◌, List, [], ◌∷◌, ◌++◌, arith, Some, if◌then◌else◌, refl, ap, sym, subst, ◌∙◌, replicate, ◌/◌}
use Rattle.std.proofs.Common.{◌%◌, Bool, true, false}
use Rattle.std.proofs.lemmas.Bool.Decides.{nat_tests}
use native.Mathlib.Decide.{ℕ_discrete}
use Rattle.vm_model.specs.declared.message.Channel.TheVariants.{Up, Down}
use Rattle.vm_model.specs.declared.message.Message.{Message}
use Rattle.vm_model.specs.declared.message.Message.TheVariants as message
use Rattle.vm_model.specs.declared.event.Event.{Event}
use Rattle.vm_model.specs.declared.event.Event.TheVariants as event
use Rattle.vm_model.specs.Words.{UpWord, Asking, Unlocking, Returning, Doing, Ending, OtherUp, DownWord, ActEffect, Opens, SendsUp, TakenUp, SentDown}
use Rattle.vm_model.specs.Words.{TakesDown, Puts, Drops, Begins, Loads, Stores, Fails, BeginsCopy, Copies, EndsCopy, StepBegins, Nothing, up_word, control_of}
use Rattle.vm_model.specs.Words.{down_word, times_meant, sent_act_effect, act_if, act_of, to_others, effect_on}
use Rattle.vm_model.specs.Side.{Side, rest, opened, side_sent_up, side_sent_down, side_after, side}
use Rattle.vm_model.specs.Server.{first, line}
use Rattle.vm_model.specs.TaskPlace.{task_host, means_page}
use Rattle.vm_model.specs.PagePart.{page_part}
use Rattle.vm_model.specs.Controls.{control_after, last_control}
use Rattle.vm_model.specs.Channels.{down_port, queue_after, down_queue, DownFirst, DownInOrder, with_down, down_words}
use Rattle.vm_coherence.proofs.Law.{keep}
use Rattle.vm_coherence.proofs.Still.{still}

down_words_end : (p : ℕ) (q : List Message) (m : Message) → down_words p (q ++ m ∷ []) ≡ down_words p q ++ with_down (down_word p m) []
down_words_end p [] m = refl
down_words_end p (n ∷ q) m = with_end (down_word p n) (down_words p q) (down_words p (q ++ m ∷ [])) (with_down (down_word p m) []) (down_words_end p q m) where
  with_end : (w : DownWord) (ws us vs : List DownWord) → us ≡ ws ++ vs → with_down w us ≡ with_down w ws ++ vs
  with_end w ws us vs is = grind arith

append_none : (ws : List DownWord) → ws ++ [] ≡ ws
append_none [] = refl
append_none (w ∷ ws) = grind (arith, append_none ws)

-- what stands of one host and the channels down to it
pub record Descends (p : ℕ) (s : Side) (last : ℕ) (queue : ℕ → List Message) : Type 0 where
  pub same : s.live ≡ true → s.down ≡ down_words p (queue s.control)
  pub control : s.control ≡ last
  pub empty : (k : ℕ) → last < k → queue k ≡ []

sent_to : (w : DownWord) (s : Side) (control : ℕ) → s.live ≡ true → s.control ≡ control → (side_sent_down s control w).down ≡ s.down ++ with_down w []
sent_to w s control live mine = grind (arith, nat_tests, append_none s.down)

sent_past : (w : DownWord) (s : Side) (control : ℕ) → s.control ≢ control → (side_sent_down s control w).down ≡ s.down
sent_past w s control apart = grind (arith, nat_tests)

sent_control : (w : DownWord) (s : Side) (control : ℕ) → (side_sent_down s control w).control ≡ s.control
sent_control w s control = grind arith

sent_live : (w : DownWord) (s : Side) (control : ℕ) → (side_sent_down s control w).live ≡ s.live
sent_live w s control = grind arith

taken_down : Side → ℕ → DownWord → Side
taken_down s control w = side_after s (TakesDown control w)

takes_mine : (w : DownWord) (s : Side) (control : ℕ) (ws : List DownWord) → s.live ≡ true → s.control ≡ control → s.down ≡ with_down w ws
    → (side_after s (TakesDown control w)).down ≡ ws
takes_mine w s control ws live mine is = grind (arith, nat_tests)

takes_past : (w : DownWord) (s : Side) (control : ℕ) → s.control ≢ control → (side_after s (TakesDown control w)).down ≡ s.down
takes_past w s control apart = grind (arith, nat_tests)

takes_control : (w : DownWord) (s : Side) (control : ℕ) → (side_after s (TakesDown control w)).control ≡ s.control
takes_control w s control = grind (arith, nat_tests)

takes_live : (w : DownWord) (s : Side) (control : ℕ) → (side_after s (TakesDown control w)).live ≡ s.live
takes_live w s control = grind (arith, nat_tests)

took_down : (p : ℕ) (q : List Message) (m : Message) → first q ≡ Some m → down_words p q ≡ with_down (down_word p m) (down_words p (rest q))
took_down p q m is = grind arith

-- the message goes to control c
after_sent : (p c last : ℕ) (m : Message) (s : Side) (queue new : ℕ → List Message) → Descends p s last queue → c ≤ last → new c ≡ queue c ++ m ∷ []
    → ((k : ℕ) → k ≢ c → new k ≡ queue k) → Descends p (side_sent_down s c (down_word p m)) last new
after_sent p c last m s queue new d le at others =
    record {
      same = λ live. elim (ℕ_discrete s.control c) [
        | yes mine ↦ sent_to (down_word p m) s c (sym (sent_live (down_word p m) s c) ∙ live) mine
            ∙ (ap (λ (l : List DownWord). l ++ with_down (down_word p m) []) (d.same (sym (sent_live (down_word p m) s c) ∙ live))
            ∙ (sym (down_words_end p (queue s.control) m)
            ∙ ap (down_words p) (sym (ap new (sent_control (down_word p m) s c ∙ mine) ∙ (at ∙ ap (λ (k : ℕ). queue k ++ m ∷ []) (sym mine))))))
        | no apart ↦ sent_past (down_word p m) s c apart
            ∙ (d.same (sym (sent_live (down_word p m) s c) ∙ live)
            ∙ ap (down_words p) (sym (ap new (sent_control (down_word p m) s c) ∙ others s.control apart)))
      ];
      control = sent_control (down_word p m) s c ∙ d.control;
      empty = λ k more. others k (λ is. absurd (omega arith)) ∙ d.empty k more;
    }

after_taken : (p c last : ℕ) (m : Message) (s : Side) (queue new : ℕ → List Message) → Descends p s last queue → first (queue c) ≡ Some m
    → new c ≡ rest (queue c) → ((k : ℕ) → k ≢ c → new k ≡ queue k) → Descends p (side_after s (TakesDown c (down_word p m))) last new
after_taken p c last m s queue new d head at others =
    record {
      same = λ live. elim (ℕ_discrete s.control c) [
        | yes mine ↦ takes_mine (down_word p m) s c (down_words p (rest (queue c))) (sym (takes_live (down_word p m) s c) ∙ live) mine
            (d.same (sym (takes_live (down_word p m) s c) ∙ live) ∙ (ap (λ (k : ℕ). down_words p (queue k)) mine ∙ took_down p (queue c) m head))
            ∙ ap (down_words p) (sym (ap new (takes_control (down_word p m) s c ∙ mine) ∙ at))
        | no apart ↦ takes_past (down_word p m) s c apart
            ∙ (d.same (sym (takes_live (down_word p m) s c) ∙ live)
            ∙ ap (down_words p) (sym (ap new (takes_control (down_word p m) s c) ∙ others s.control apart)))
      ];
      control = takes_control (down_word p m) s c ∙ d.control;
      empty = λ k more. elim (ℕ_discrete k c) [
        | yes is ↦ absurd (some_head (queue c) m head (subst (λ (j : ℕ). queue j ≡ []) is (d.empty k more)))
        | no apart ↦ others k apart ∙ d.empty k more
      ];
    } where
      some_head : (q : List Message) (m : Message) → first q ≡ Some m → q ≡ [] → ⊥
      some_head q m head none = grind arith

-- what neither begins nor ends a control, nor is a message down
abbrev pub IsSteady : ActEffect → Type 0
IsSteady (Opens control ready) = ⊥
IsSteady (SendsUp control word) = ⊥
IsSteady (SentDown control word) = ⊥
IsSteady (TakesDown control word) = ⊥
IsSteady e = Unit {0}

kept_as : (p last : ℕ) (s t : Side) (queue : ℕ → List Message) → Descends p s last queue → t.down ≡ s.down → t.live ≡ s.live → t.control ≡ s.control
    → Descends p t last queue
kept_as p last s t queue d down live control =
    record {
      same = λ lives. down ∙ (d.same (sym live ∙ lives) ∙ ap (λ (k : ℕ). down_words p (queue k)) (sym control));
      control = control ∙ d.control;
      empty = d.empty;
    }

steady_down : (e : ActEffect) (s : Side) → IsSteady e → (side_after s e).down ≡ s.down
steady_down e s steady = grind (arith, nat_tests)

steady_live : (e : ActEffect) (s : Side) → IsSteady e → (side_after s e).live ≡ s.live
steady_live e s steady = grind (arith, nat_tests)

steady_control : (e : ActEffect) (s : Side) → IsSteady e → (side_after s e).control ≡ s.control
steady_control e s steady = grind (arith, nat_tests)

steady : (p last : ℕ) (e : ActEffect) (s : Side) (queue : ℕ → List Message) → IsSteady e → Descends p s last queue → Descends p (side_after s e) last queue
steady p last e s queue still d = kept_as p last s (side_after s e) queue d (steady_down e s still) (steady_live e s still) (steady_control e s still)

others_steady : (e : ActEffect) → IsSteady (to_others e)
others_steady (Opens control ready) = tt
others_steady (SendsUp control word) = tt
others_steady (TakenUp word) = tt
others_steady (SentDown control word) = tt
others_steady (TakesDown control word) = tt
others_steady (Puts bytes dirty) = tt
others_steady Drops = tt
others_steady (Begins task store at size value) = tt
others_steady (Loads task value) = tt
others_steady (Stores task at size value) = tt
others_steady (Fails task) = tt
others_steady (BeginsCopy task times) = tt
others_steady (Copies task) = tt
others_steady (EndsCopy task) = tt
others_steady StepBegins = tt
others_steady Nothing = tt

steady_if : (b : Bool) (e f : ActEffect) → IsSteady e → IsSteady f → IsSteady (if b then e else f)
steady_if true e f one two = one
steady_if false e f one two = two

steady_act : (p last h : ℕ) (s : Side) (queue : ℕ → List Message) (host : ℕ) (b : Bool) (e : ActEffect) → IsSteady e → Descends p s last queue
    → Descends p (side_after s (effect_on h (act_if b host e))) last queue
steady_act p last h s queue host b e still d = by_cases (host == h) b where
  by_cases : (c b : Bool) → Descends p (side_after s (if c then (if b then e else Nothing) else to_others (if b then e else Nothing))) last queue
  by_cases true true = steady p last e s queue still d
  by_cases true false = d
  by_cases false true = steady p last (to_others e) s queue (others_steady e) d
  by_cases false false = d

-- what a host sends up, but for the beginning of a control
sends_other : (p last : ℕ) (w : UpWord) (s : Side) (queue : ℕ → List Message) → Descends p s last queue → Descends p (side_sent_up s w) last queue
sends_other p last (Asking asker access) s queue d = kept_as p last s (side_sent_up s (Asking asker access)) queue d refl refl refl
sends_other p last (Unlocking access) s queue d = kept_as p last s (side_sent_up s (Unlocking access)) queue d refl refl refl
sends_other p last (Returning dirty keep bytes) s queue d = kept_as p last s (side_sent_up s (Returning dirty keep bytes)) queue d refl refl refl
sends_other p last (Doing control count) s queue d = kept_as p last s (side_sent_up s (Doing control count)) queue d refl refl refl
sends_other p last (Ending control) s queue d = record { same = λ live. absurd (cc); control = d.control; empty = d.empty }
sends_other p last OtherUp s queue d = d

begins_control : (p last control : ℕ) (s : Side) (queue : ℕ → List Message) → Descends p s last queue → last < control
    → Descends p (opened s control false) control queue
begins_control p last control s queue d more =
    record { same = λ live. ap (down_words p) (sym (d.empty control more)); control = refl; empty = λ k further. d.empty k (omega arith) }

begins_act : (p last h o host object control : ℕ) (s : Side) (queue : ℕ → List Message) → Descends p s last queue → (host ≡ h → object ≡ o → last < control)
    → Descends p (side_after s (effect_on h (act_if (object == o) host (Opens control false)))) (if host == h && object == o then control else last) queue
begins_act p last h o host object control s queue d more = by_cases (host == h) (object == o) refl refl where
  by_cases : (c b : Bool) → (host == h) ≡ c → (object == o) ≡ b
      → Descends p (side_after s (if c then (if b then Opens control false else Nothing) else to_others (if b then Opens control false else Nothing)))
      (if c && b then control else last) queue
  by_cases true true mine its = begins_control p last control s queue d (more (grind (arith, nat_tests)) (grind (arith, nat_tests)))
  by_cases true false mine its = d
  by_cases false true mine its = d
  by_cases false false mine its = d

sends_act : (p last h o host object : ℕ) (m : Message) (s : Side) (queue : ℕ → List Message) → Descends p s last queue
    → (host ≡ h → object ≡ o → (control : ℕ) → sent_act_effect p m ≡ Opens control false → last < control)
    → Descends p (side_after s (effect_on h (act_if (object == o) host (sent_act_effect p m))))
    (control_after h o (event.Sent (Up (record { 0 = host }) (record { 0 = object })) m) last) queue
sends_act p last h o host object (message.Init control size) s queue d more =
    begins_act p last h o host object control s queue d (λ mine its. more mine its control refl)
sends_act p last h o host object (message.Create control size) s queue d more =
    begins_act p last h o host object control s queue d (λ mine its. more mine its control refl)
sends_act p last h o host object m s queue d more = by_cases (host == h) (object == o) where
  by_cases : (c b : Bool) → Descends p (side_after s (if c then (if b then SendsUp (control_of m) (up_word p m) else Nothing) else to_others
      (if b then SendsUp (control_of m) (up_word p m) else Nothing))) last queue
  by_cases true true = sends_other p last (up_word p m) s queue d
  by_cases true false = d
  by_cases false true = d
  by_cases false false = d

at_own : (c : ℕ) (xs ys : List Message) → (if c == c then xs else ys) ≡ xs
at_own c xs ys = grind (arith, nat_tests)

at_other : (c k : ℕ) (xs ys : List Message) → k ≢ c → (if c == k then xs else ys) ≡ ys
at_other c k xs ys apart = grind (arith, nat_tests)

sent_act : (p last h o host object c : ℕ) (m : Message) (s : Side) (queue : ℕ → List Message) → Descends p s last queue → (host ≡ h → object ≡ o → c ≤ last)
    → Descends p (side_after s (effect_on h (act_if (object == o) host (SentDown c (down_word p m))))) last
    (λ k. if host == h && (object == o && c == k) then queue k ++ m ∷ [] else queue k)
sent_act p last h o host object c m s queue d le = by_cases (host == h) (object == o) refl refl where
  by_cases : (a b : Bool) → (host == h) ≡ a → (object == o) ≡ b
      → Descends p (side_after s (if a then (if b then SentDown c (down_word p m) else Nothing) else to_others
      (if b then SentDown c (down_word p m) else Nothing))) last (λ k. if a && (b && c == k) then queue k ++ m ∷ [] else queue k)
  by_cases true true mine its =
      after_sent p c last m s queue (λ k. if c == k then queue k ++ m ∷ [] else queue k) d (le (grind (arith, nat_tests)) (grind (arith, nat_tests)))
      (at_own c (queue c ++ m ∷ []) (queue c)) (λ k apart. at_other c k (queue k ++ m ∷ []) (queue k) apart)
  by_cases true false mine its = d
  by_cases false true mine its = d
  by_cases false false mine its = d

taken_act : (p last h o host object c : ℕ) (m : Message) (s : Side) (queue : ℕ → List Message) → Descends p s last queue
    → (host ≡ h → object ≡ o → first (queue c) ≡ Some m)
    → Descends p (side_after s (effect_on h (record { host = host; effect = if object == o then TakesDown c (down_word p m) else StepBegins }))) last
    (λ k. if host == h && (object == o && c == k) then rest (queue k) else queue k)
taken_act p last h o host object c m s queue d head = by_cases (host == h) (object == o) refl refl where
  by_cases : (a b : Bool) → (host == h) ≡ a → (object == o) ≡ b
      → Descends p (side_after s (if a then (if b then TakesDown c (down_word p m) else StepBegins) else to_others
      (if b then TakesDown c (down_word p m) else StepBegins))) last (λ k. if a && (b && c == k) then rest (queue k) else queue k)
  by_cases true true mine its =
      after_taken p c last m s queue (λ k. if c == k then rest (queue k) else queue k) d (head (grind (arith, nat_tests)) (grind (arith, nat_tests)))
      (at_own c (rest (queue c)) (queue c)) (λ k apart. at_other c k (rest (queue k)) (queue k) apart)
  by_cases true false mine its = steady p last StepBegins s queue tt d
  by_cases false true mine its = steady p last StepBegins s queue tt d
  by_cases false false mine its = steady p last StepBegins s queue tt d

taken_up_act : (p last h o host object : ℕ) (m : Message) (s : Side) (queue : ℕ → List Message) → Descends p s last queue
    → Descends p (side_after s (effect_on h (record { host = host; effect = if object == o then TakenUp (up_word p m) else StepBegins }))) last queue
taken_up_act p last h o host object m s queue d = by_cases (host == h) (object == o) where
  by_cases : (a b : Bool) → Descends p (side_after s (if a then (if b then TakenUp (up_word p m) else StepBegins) else to_others
      (if b then TakenUp (up_word p m) else StepBegins))) last queue
  by_cases true true = steady p last (TakenUp (up_word p m)) s queue tt d
  by_cases true false = steady p last StepBegins s queue tt d
  by_cases false true = steady p last StepBegins s queue tt d
  by_cases false false = steady p last StepBegins s queue tt d

-- what is in order of one event, for one host and object
abbrev InOrderAt : ℕ → ℕ → ℕ → ℕ → (ℕ → List Message) → Event → Type 0
InOrderAt p h o last queue (event.Taken (Down host object control) m) = host.0 ≡ h → object.0 ≡ o → first (queue control) ≡ Some m
InOrderAt p h o last queue (event.Sent (Down host object control) m) = host.0 ≡ h → object.0 ≡ o → control ≤ last
InOrderAt p h o last queue (event.Sent (Up host object) m) =
    host.0 ≡ h → object.0 ≡ o → (control : ℕ) → sent_act_effect p m ≡ Opens control false → last < control
InOrderAt p h o last queue e = Unit {0}

in_order_at : (e : Event) (past : List Event) (p h o : ℕ) → DownFirst e past → InOrderAt p h o (last_control h o past) (λ k. down_queue h o k past) e
in_order_at e past p h o is = grind arith

down_step : (e : Event) (size o p last : ℕ) (host_of : ℕ → ℕ) (means : ℕ → ℕ → Bool) (held : ℕ → ℕ → ℕ → List ℕ) (h : ℕ) (s : Side) (queue : ℕ → List Message)
    → Descends p s last queue → InOrderAt p h o last queue e
    → Descends p (side_after s (effect_on h (act_of size o p host_of means held e))) (control_after h o e last) (λ k. queue_after (down_port h o k) e (queue k))
down_step (event.Sent (Up host object) m) size o p last host_of means held h s queue d is = sends_act p last h o host.0 object.0 m s queue d is
down_step (event.Taken (Up host object) m) size o p last host_of means held h s queue d is = taken_up_act p last h o host.0 object.0 m s queue d
down_step (event.Sent (Down host object control) m) size o p last host_of means held h s queue d is = sent_act p last h o host.0 object.0 control m s queue d is
down_step (event.Taken (Down host object control) m) size o p last host_of means held h s queue d is =
    taken_act p last h o host.0 object.0 control m s queue d is
down_step (event.Dropped host object page) size o p last host_of means held h s queue d is =
    steady_act p last h s queue host.0 (object.0 == o && page.0 == p) Drops tt d
down_step (event.Zeroed host object page) size o p last host_of means held h s queue d is =
    steady_act p last h s queue host.0 (object.0 == o && page.0 == p) (Puts (replicate size 0) false) tt d
down_step (event.Raised host lower lower_page upper upper_page) size o p last host_of means held h s queue d is =
    steady_act p last h s queue host.0 (upper.0 == o && upper_page.0 == p) (Puts (held host.0 lower.0 lower_page.0) true) tt d
down_step (event.CopiedPage task page object object_page target) size o p last host_of means held h s queue d is =
    steady_act p last h s queue (host_of task.0) true (if target.0 == o && page.0 == p then Puts (held (host_of task.0) object.0 object_page.0) true else
    (if object.0 == o && object_page.0 == p then Copies task.0 else Nothing))
    (steady_if (target.0 == o && page.0 == p) _ _ tt (steady_if (object.0 == o && object_page.0 == p) _ _ tt tt)) d
down_step (event.BegunCopy task address bytes to) size o p last host_of means held h s queue d is =
    steady_act p last h s queue (host_of task.0) true (BeginsCopy task.0 (times_meant size (means task.0) address (bytes / size))) tt d
down_step (event.CopyEnded task) size o p last host_of means held h s queue d is = steady_act p last h s queue (host_of task.0) true (EndsCopy task.0) tt d
down_step (event.BegunLoad task address bytes) size o p last host_of means held h s queue d is =
    steady_act p last h s queue (host_of task.0) (means task.0 address) (Begins task.0 false (address % size) bytes 0) tt d
down_step (event.BegunStore task address bytes value) size o p last host_of means held h s queue d is =
    steady_act p last h s queue (host_of task.0) (means task.0 address) (Begins task.0 true (address % size) bytes value) tt d
down_step (event.Loaded task object page value) size o p last host_of means held h s queue d is =
    steady_act p last h s queue (host_of task.0) (object.0 == o && page.0 == p) (Loads task.0 value) tt d
down_step (event.Stored task object page at bytes value) size o p last host_of means held h s queue d is =
    steady_act p last h s queue (host_of task.0) (object.0 == o && page.0 == p) (Stores task.0 at bytes value) tt d
down_step (event.Failed task object page) size o p last host_of means held h s queue d is =
    steady_act p last h s queue (host_of task.0) true (if object.0 == o && page.0 == p then Fails task.0 else EndsCopy task.0)
    (steady_if (object.0 == o && page.0 == p) _ _ tt tt) d
down_step (event.Line line) size o p last host_of means held h s queue d is = steady_act p last h s queue 0 true StepBegins tt d
down_step e size o p last host_of means held h s queue d is = steady_act p last h s queue 0 true Nothing tt d

descends : (size : ℕ) (history : List Event) (h o p : ℕ) → DownInOrder history
    → Descends p (side h (page_part size o p history)) (last_control h o history) (λ k. down_queue h o k history)
descends size [] h o p order = record { same = λ live. absurd (cc); control = refl; empty = λ k more. refl }
descends size (e ∷ past) h o p order =
    down_step e size o p (last_control h o past) (λ task. task_host task past) (λ task address. means_page size o p task address past)
    (λ host object page. (side host (page_part size object page past)).bytes) h (side h (page_part size o p past)) (λ k. down_queue h o k past)
    (descends size past h o p order.1) (in_order_at e past p h o order.0)

-- the words of a page on the channel down to the live control are those of its part, in order
pub page_descent : (size : ℕ) (history : List Event) (h o p : ℕ) → DownInOrder history → (side h (page_part size o p history)).live ≡ true
    → (side h (page_part size o p history)).down ≡ down_words p (down_queue h o (side h (page_part size o p history)).control history)
page_descent size history h o p order live = (descends size history h o p order).same live

pub page_control : (size : ℕ) (history : List Event) (h o p : ℕ) → DownInOrder history
    → (side h (page_part size o p history)).control ≡ last_control h o history
page_control size history h o p order = (descends size history h o p order).control
