-- What a host does leaves the other hosts, and what the server knows, as they were.
use Rattle.std.proofs.Common.{◌≡◌, ◌≢◌, ◌+◌, ◌%◌, ◌==◌, ◌&&◌, ◌∙◌, ℕ, List, [], ◌∷◌, ◌++◌, Bool, true, false, if◌then◌else◌, arith, refl, ap, sym, subst}
use Rattle.std.proofs.lemmas.Bool.Decides.{nat_tests}
use Rattle.vm_base.specs.declared.ids.TaskId.{TaskId}
use Rattle.vm_model.specs.declared.message.Channel.TheVariants.{Up, Down}
use Rattle.vm_model.specs.declared.message.Message.{Message}
use Rattle.vm_model.specs.declared.message.Message.TheVariants as message
use Rattle.vm_model.specs.declared.event.Event.{Event}
use Rattle.vm_model.specs.declared.event.Event.TheVariants as event
use Rattle.vm_model.specs.Words.{Act, UpWord, DownWord, ActEffect, Opens, SendsUp, TakenUp, SentDown, TakesDown, Drops, Begins, Loads, Stores, StepBegins}
use Rattle.vm_model.specs.Words.{Nothing, down_word, sent_act_effect, to_others, act_of}
use Rattle.vm_model.specs.Side.{Side, side, side_after, side_taken_down, is_open_to, side_sent_up}
use Rattle.vm_model.specs.Waiters.{waiters, waiters_after}
use Rattle.vm_model.specs.Server.{Wanting, line, joined, kept, kept_after, trimmed_line}
use Rattle.vm_model.specs.Channels.{up_queue, down_queue}
use Rattle.vm_model.specs.PagePart.{world_part, with_control}
use Rattle.vm_model.specs.Coherence.{StepsDone, begins_step}
use Rattle.vm_coherence.proofs.Law.{other_effect, other_side, others_wait}
use Rattle.sms_pages.specs.Directory.{Directory}
use Rattle.sms_pages.specs.Stands.{StandsFor}
use Rattle.sms_pages.proofs.Facts.{holds_kept, awaits_kept, counted_same}
use Rattle.sms_proto.specs.Worlds.{Moved, SameHostSide}
use Rattle.sms_proto.specs.Adds.{Adds, Same, More, HostDoes}

-- acts

abbrev pub is_own : ActEffect → Bool
is_own (TakenUp word) = false
is_own (SentDown control word) = false
is_own e = true

own_holds : (e : ActEffect) (s : Side) → is_own e ≡ true → (side_after s e).holds ≡ s.holds
own_holds (TakenUp word) s own = absurd (cc)
own_holds (SentDown control word) s own = absurd (cc)
own_holds (SendsUp control word) s own = sends word s where
  sends : (w : UpWord) (s : Side) → (side_sent_up s w).holds ≡ s.holds
  sends w s = grind arith
own_holds (TakesDown control word) s own = takes word s (is_open_to s control) where
  takes : (w : DownWord) (s : Side) (b : Bool) → (if b then side_taken_down s w else record s { step = 0 }).holds ≡ s.holds
  takes w s b = grind arith
own_holds e s own = refl

own_awaits : (e : ActEffect) (s : Side) → is_own e ≡ true → (side_after s e).awaits ≡ s.awaits
own_awaits (TakenUp word) s own = absurd (cc)
own_awaits (SentDown control word) s own = absurd (cc)
own_awaits (SendsUp control word) s own = sends word s where
  sends : (w : UpWord) (s : Side) → (side_sent_up s w).awaits ≡ s.awaits
  sends w s = grind arith
own_awaits (TakesDown control word) s own = takes word s (is_open_to s control) where
  takes : (w : DownWord) (s : Side) (b : Bool) → (if b then side_taken_down s w else record s { step = 0 }).awaits ≡ s.awaits
  takes w s b = grind arith
own_awaits e s own = refl

own_joins : (e : ActEffect) (s : Side) (h : ℕ) (ws : List Wanting) → is_own e ≡ true → joined s h e ws ≡ ws
own_joins (TakenUp word) s h ws own = absurd (cc)
own_joins (SentDown control word) s h ws own = absurd (cc)
own_joins e s h ws own = refl

own_keeps : (e : ActEffect) (page : List ℕ) → is_own e ≡ true → kept_after e page ≡ page
own_keeps (TakenUp word) page own = absurd (cc)
own_keeps (SentDown control word) page own = absurd (cc)
own_keeps e page own = refl

pub stands_act : (size h : ℕ) (e : ActEffect) (d : Directory) (past : List Act) → is_own e ≡ true → StandsFor size d past
    → StandsFor size d (record { host = h; effect = e } ∷ past)
stands_act size h e d past own s =
    record {
      same_holds = holds_kept h e d.holds past (own_holds e (side h past) own) s.same_holds;
      same_awaits = awaits_kept h e d.awaits past (own_awaits e (side h past) own) s.same_awaits;
      same_line =
          ap (trimmed_line h (side h (record { host = h; effect = e } ∷ past)).holds) (own_joins e (side h past) h (line past) own ∙ s.same_line)
          ∙ counted_same h (side h (record { host = h; effect = e } ∷ past)).holds d.holds d.line
          (sym (holds_kept h e d.holds past (own_holds e (side h past) own) s.same_holds h));
      same_bytes = own_keeps e (kept size past) own ∙ s.same_bytes;
      eight_hold = s.eight_hold;
      eight_await = s.eight_await;
      bounded = s.bounded;
      in_turn = s.in_turn;
      waiting = s.waiting;
      writing = s.writing;
    }

idle_others : (e : ActEffect) (s : Side) → s.step ≡ 0 → side_after s (to_others e) ≡ s
idle_others (TakenUp word) s none = ap (λ (n : ℕ). record s { step = n }) (sym none)
idle_others (TakesDown control word) s none = ap (λ (n : ℕ). record s { step = n }) (sym none)
idle_others StepBegins s none = ap (λ (n : ℕ). record s { step = n }) (sym none)
idle_others e s none = refl

pub kept_act : (g h : ℕ) (e : ActEffect) (past : List Act) → h ≢ g → (side g past).step ≡ 0 → side g (record { host = h; effect = e } ∷ past) ≡ side g past
kept_act g h e past apart none = other_side g (record { host = h; effect = e }) past apart ∙ idle_others e (side g past) none

pub kept_wait : (g h : ℕ) (e : ActEffect) (past : List Act) → h ≢ g → waiters g (record { host = h; effect = e } ∷ past) ≡ waiters g past
kept_wait g h e past apart =
    ap (λ (x : ActEffect). waiters_after x (waiters g past)) (other_effect g (record { host = h; effect = e }) apart) ∙ others_wait e (waiters g past)

-- events

pub kept_none : (size g : ℕ) (old : List Event) → SameHostSide size g old old
kept_none size g old = record { same_side = refl; same_waits = refl; same_up = refl; same_down = λ n. refl }

pub kept_more : (size g : ℕ) (old middle new : List Event) → SameHostSide size g old middle → SameHostSide size g middle new → SameHostSide size g old new
kept_more size g old middle new a b =
    record {
      same_side = b.same_side ∙ a.same_side;
      same_waits = b.same_waits ∙ a.same_waits;
      same_up = b.same_up ∙ a.same_up;
      same_down = λ n. b.same_down n ∙ a.same_down n;
    }

pub not_mine : (a g : ℕ) (b : Bool) (x y : List Message) → a ≢ g → (if (a == g) && b then x else y) ≡ y
not_mine a g b x y apart = grind (arith, nat_tests)

-- an event of the host itself that begins no access
abbrev pub IsHosts : ℕ → Event → Type 0
IsHosts h (event.Sent (Up host object) m) = host.0 ≡ h
IsHosts h (event.Taken (Down host object control) m) = host.0 ≡ h
IsHosts h (event.Dropped host object page) = host.0 ≡ h
IsHosts h (event.Loaded task object page value) = task.0 ≡ h
IsHosts h (event.Stored task object page at size value) = task.0 ≡ h
IsHosts h e = ⊥

does_own : (h : ℕ) (e : Event) → HostDoes h e → IsHosts h e
does_own h (event.Sent (Up host object) m) own = own.0
does_own h (event.Sent (Down host object control) m) own = own
does_own h (event.Dropped host object page) own = own.0
does_own h (event.Loaded task object page value) own = own.0
does_own h (event.Stored task object page at size value) own = own.0
does_own h (event.Taken channel m) own = absurd own
does_own h e own = own

pub away : (a g h : ℕ) → a ≡ h → g ≢ h → a ≢ g
away a g h own apart is = apart (sym is ∙ own)

-- a beginning, with or without a new control
begun_side : (g h : ℕ) (e : ActEffect) (control : ℕ) (live : Bool) (past : List Act) → h ≢ g → (side g past).step ≡ 0
    → side g (record { host = h; effect = e } ∷ (if live then past else record { host = h; effect = Opens control true } ∷ past)) ≡ side g past
begun_side g h e control true past apart none = kept_act g h e past apart none
begun_side g h e control false past apart none =
    kept_act g h e (record { host = h; effect = Opens control true } ∷ past) apart
    (ap (λ (s : Side). s.step) (kept_act g h (Opens control true) past apart none) ∙ none) ∙ kept_act g h (Opens control true) past apart none

begun_wait : (g h : ℕ) (e : ActEffect) (control : ℕ) (live : Bool) (past : List Act) → h ≢ g
    → waiters g (record { host = h; effect = e } ∷ (if live then past else record { host = h; effect = Opens control true } ∷ past)) ≡ waiters g past
begun_wait g h e control true past apart = kept_wait g h e past apart
begun_wait g h e control false past apart =
    kept_wait g h e (record { host = h; effect = Opens control true } ∷ past) apart ∙ kept_wait g h (Opens control true) past apart

-- what an event is to the page
abbrev pub event_act : ℕ → Event → Act
event_act size e = act_of size 0 0 (λ task. task) (λ task address. true) (λ host object page. []) e

abbrev pub is_beginning : ActEffect → Bool
is_beginning (Begins task store at size value) = true
is_beginning e = false

no_opening : (s : Side) (h : ℕ) (e : ActEffect) (past : List Act) → is_beginning e ≡ false → with_control s h e past ≡ past
no_opening s h (Begins task store at size value) past plain = absurd (cc)
no_opening s h e past plain = refl

plain_part : (size : ℕ) (e : Event) (past : List Event) → is_beginning (event_act size e).effect ≡ false
    → world_part size (e ∷ past) ≡ event_act size e ∷ world_part size past
plain_part size e past plain =
    ap (λ (l : List Act). event_act size e ∷ l) (no_opening (side (event_act size e).host (world_part size past)) (event_act size e).host
    (event_act size e).effect (world_part size past) plain)

sent_own : (b : Bool) (m : Message) → is_own (if b then sent_act_effect 0 m else Nothing) ≡ true
sent_own true (message.Init control size) = refl
sent_own true (message.Create control size) = refl
sent_own true m = refl
sent_own false m = refl

took_own : (b : Bool) (control : ℕ) (w : DownWord) → is_own (if b then TakesDown control w else StepBegins) ≡ true
took_own true control w = refl
took_own false control w = refl

own_if : (b : Bool) (e : ActEffect) → is_own e ≡ true → is_own (if b then e else Nothing) ≡ true
own_if true e own = own
own_if false e own = refl

sent_plain : (b : Bool) (m : Message) → is_beginning (if b then sent_act_effect 0 m else Nothing) ≡ false
sent_plain true (message.Init control size) = refl
sent_plain true (message.Create control size) = refl
sent_plain true m = refl
sent_plain false m = refl

took_plain : (b : Bool) (control : ℕ) (w : DownWord) → is_beginning (if b then TakesDown control w else StepBegins) ≡ false
took_plain true control w = refl
took_plain false control w = refl

plain_if : (b : Bool) (e : ActEffect) → is_beginning e ≡ false → is_beginning (if b then e else Nothing) ≡ false
plain_if true e plain = plain
plain_if false e plain = refl

hosts_act : (size h : ℕ) (e : Event) → IsHosts h e → (event_act size e).host ≡ h
hosts_act size h (event.Sent (Up host object) m) own = own
hosts_act size h (event.Taken (Down host object control) m) own = own
hosts_act size h (event.Dropped host object page) own = own
hosts_act size h (event.Loaded task object page value) own = own
hosts_act size h (event.Stored task object page at bytes value) own = own
hosts_act size h e own = absurd own

hosts_plain : (size h : ℕ) (e : Event) → IsHosts h e → is_beginning (event_act size e).effect ≡ false
hosts_plain size h (event.Sent (Up host object) m) own = sent_plain (object.0 == 0) m
hosts_plain size h (event.Taken (Down host object control) m) own = took_plain (object.0 == 0) control (down_word 0 m)
hosts_plain size h (event.Dropped host object page) own = plain_if (object.0 == 0 && page.0 == 0) Drops refl
hosts_plain size h (event.Loaded task object page value) own = plain_if (object.0 == 0 && page.0 == 0) (Loads task.0 value) refl
hosts_plain size h (event.Stored task object page at bytes value) own = plain_if (object.0 == 0 && page.0 == 0) (Stores task.0 at bytes value) refl
hosts_plain size h e own = absurd own

hosts_own : (size h : ℕ) (e : Event) → IsHosts h e → is_own (event_act size e).effect ≡ true
hosts_own size h (event.Sent (Up host object) m) own = sent_own (object.0 == 0) m
hosts_own size h (event.Taken (Down host object control) m) own = took_own (object.0 == 0) control (down_word 0 m)
hosts_own size h (event.Dropped host object page) own = own_if (object.0 == 0 && page.0 == 0) Drops refl
hosts_own size h (event.Loaded task object page value) own = own_if (object.0 == 0 && page.0 == 0) (Loads task.0 value) refl
hosts_own size h (event.Stored task object page at bytes value) own = own_if (object.0 == 0 && page.0 == 0) (Stores task.0 at bytes value) refl
hosts_own size h e own = absurd own

kept_up : (size g h : ℕ) (e : Event) (past : List Event) → IsHosts h e → g ≢ h → up_queue g 0 (e ∷ past) ≡ up_queue g 0 past
kept_up size g h (event.Sent (Up host object) m) past own apart =
    not_mine host.0 g (object.0 == 0) (up_queue g 0 past ++ m ∷ []) (up_queue g 0 past) (away host.0 g h own apart)
kept_up size g h (event.Sent (Down host object control) m) past own apart = absurd own
kept_up size g h (event.Taken (Up host object) m) past own apart = absurd own
kept_up size g h e past own apart = refl

kept_down : (size g h : ℕ) (e : Event) (past : List Event) → IsHosts h e → g ≢ h → (n : ℕ) → down_queue g 0 n (e ∷ past) ≡ down_queue g 0 n past
kept_down size g h (event.Taken (Down host object control) m) past own apart n =
    not_mine host.0 g (object.0 == 0 && control == n) _ (down_queue g 0 n past) (away host.0 g h own apart)
kept_down size g h (event.Taken (Up host object) m) past own apart n = absurd own
kept_down size g h (event.Sent (Down host object control) m) past own apart n = absurd own
kept_down size g h e past own apart n = refl

pub kept_event : (size g h : ℕ) (e : Event) (past : List Event) → IsHosts h e → g ≢ h → (side g (world_part size past)).step ≡ 0
    → SameHostSide size g past (e ∷ past)
kept_event size g h e past own apart none =
    record {
      same_side =
          ap (λ (l : List Act). side g l) (plain_part size e past (hosts_plain size h e own))
          ∙ kept_act g (event_act size e).host (event_act size e).effect (world_part size past)
          (away (event_act size e).host g h (hosts_act size h e own) apart) none;
      same_waits =
          ap (λ (l : List Act). waiters g l) (plain_part size e past (hosts_plain size h e own))
          ∙ kept_wait g (event_act size e).host (event_act size e).effect (world_part size past)
          (away (event_act size e).host g h (hosts_act size h e own) apart);
      same_up = kept_up size g h e past own apart;
      same_down = kept_down size g h e past own apart;
    }

pub stands_event : (size h : ℕ) (e : Event) (d : Directory) (past : List Event) → IsHosts h e → StandsFor size d (world_part size past)
    → StandsFor size d (world_part size (e ∷ past))
stands_event size h e d past own s =
    subst (λ (l : List Act). StandsFor size d l) (sym (plain_part size e past (hosts_plain size h e own)))
    (stands_act size (event_act size e).host (event_act size e).effect d (world_part size past) (hosts_own size h e own) s)

sent_step : (b : Bool) (m : Message) → begins_step (if b then sent_act_effect 0 m else Nothing) ≡ false
sent_step true (message.Init control size) = refl
sent_step true (message.Create control size) = refl
sent_step true m = refl
sent_step false m = refl

step_if : (b : Bool) (e : ActEffect) → begins_step e ≡ false → begins_step (if b then e else Nothing) ≡ false
step_if true e none = none
step_if false e none = refl

no_step : (b : Bool) → b ≡ false → b ≡ true → ⊥
no_step b none some = absurd (cc)

does_step : (size h : ℕ) (e : Event) → HostDoes h e → begins_step (event_act size e).effect ≡ false
does_step size h (event.Sent (Up host object) m) own = sent_step (object.0 == 0) m
does_step size h (event.Dropped host object page) own = step_if (object.0 == 0 && page.0 == 0) Drops refl
does_step size h (event.Loaded task object page value) own = step_if (object.0 == 0 && page.0 == 0) (Loads task.0 value) refl
does_step size h (event.Stored task object page at bytes value) own = step_if (object.0 == 0 && page.0 == 0) (Stores task.0 at bytes value) refl
does_step size h e own = absurd own

-- no step begins behind the first event of a step
pub steps_event : (size h : ℕ) (e : Event) (past : List Event) → HostDoes h e → StepsDone (world_part size past) → StepsDone (world_part size (e ∷ past))
steps_event size h e past own s =
    subst (λ (l : List Act). StepsDone l) (sym (plain_part size e past (hosts_plain size h e (does_own h e own))))
    (λ b. absurd (no_step (begins_step (event_act size e).effect) (does_step size h e own) b), s)

-- the beginning of an access

begun_stands : (size h : ℕ) (e : ActEffect) (control : ℕ) (live : Bool) (d : Directory) (past : List Act) → is_own e ≡ true → StandsFor size d past
    → StandsFor size d (record { host = h; effect = e } ∷ (if live then past else record { host = h; effect = Opens control true } ∷ past))
begun_stands size h e control true d past own s = stands_act size h e d past own s
begun_stands size h e control false d past own s =
    stands_act size h e d (record { host = h; effect = Opens control true } ∷ past) own (stands_act size h (Opens control true) d past refl s)

begun_steps : (h : ℕ) (e : ActEffect) (control : ℕ) (live : Bool) (past : List Act) → begins_step e ≡ false → StepsDone past
    → StepsDone (record { host = h; effect = e } ∷ (if live then past else record { host = h; effect = Opens control true } ∷ past))
begun_steps h e control true past none s = (λ b. absurd (no_step (begins_step e) none b), s)
begun_steps h e control false past none s = (λ b. absurd (no_step (begins_step e) none b), (λ b. absurd (cc), s))

begun_load : (size h : ℕ) (task : TaskId) (address bytes : ℕ) (past : List Event) → task.0 ≡ h → Moved size h past (event.BegunLoad task address bytes ∷ past)
begun_load size h task address bytes past own =
    record {
      kept = λ g apart none. record {
        same_side =
            begun_side g task.0 (Begins task.0 false (address % size) bytes 0) ((side task.0 (world_part size past)).control + 1)
            (side task.0 (world_part size past)).live (world_part size past) (away task.0 g h own apart) none;
        same_waits =
            begun_wait g task.0 (Begins task.0 false (address % size) bytes 0) ((side task.0 (world_part size past)).control + 1)
            (side task.0 (world_part size past)).live (world_part size past) (away task.0 g h own apart);
        same_up = refl;
        same_down = λ n. refl;
      };
      steps =
          λ done s. begun_steps task.0 (Begins task.0 false (address % size) bytes 0) ((side task.0 (world_part size past)).control + 1)
          (side task.0 (world_part size past)).live (world_part size past) refl s;
      stands =
          λ d s. begun_stands size task.0 (Begins task.0 false (address % size) bytes 0) ((side task.0 (world_part size past)).control + 1)
          (side task.0 (world_part size past)).live d (world_part size past) refl s;
    }

begun_store : (size h : ℕ) (task : TaskId) (address bytes value : ℕ) (past : List Event) → task.0 ≡ h
    → Moved size h past (event.BegunStore task address bytes value ∷ past)
begun_store size h task address bytes value past own =
    record {
      kept = λ g apart none. record {
        same_side =
            begun_side g task.0 (Begins task.0 true (address % size) bytes value) ((side task.0 (world_part size past)).control + 1)
            (side task.0 (world_part size past)).live (world_part size past) (away task.0 g h own apart) none;
        same_waits =
            begun_wait g task.0 (Begins task.0 true (address % size) bytes value) ((side task.0 (world_part size past)).control + 1)
            (side task.0 (world_part size past)).live (world_part size past) (away task.0 g h own apart);
        same_up = refl;
        same_down = λ n. refl;
      };
      steps =
          λ done s. begun_steps task.0 (Begins task.0 true (address % size) bytes value) ((side task.0 (world_part size past)).control + 1)
          (side task.0 (world_part size past)).live (world_part size past) refl s;
      stands =
          λ d s. begun_stands size task.0 (Begins task.0 true (address % size) bytes value) ((side task.0 (world_part size past)).control + 1)
          (side task.0 (world_part size past)).live d (world_part size past) refl s;
    }

-- the first event of a host's step
abbrev pub IsHead : ℕ → Event → Type 0
IsHead h (event.Taken (Down host object control) m) = host.0 ≡ h
IsHead h (event.BegunLoad task address size) = task.0 ≡ h
IsHead h (event.BegunStore task address size value) = task.0 ≡ h
IsHead h e = ⊥

pub moved_none : (size h : ℕ) (old : List Event) → Moved size h old old
moved_none size h old = record { kept = λ g apart none. kept_none size g old; steps = λ done s. s; stands = λ d s. s }

pub moved_head : (size h : ℕ) (e : Event) (old : List Event) → IsHead h e → Moved size h old (e ∷ old)
moved_head size h (event.Taken (Down host object control) m) old own =
    record {
      kept = λ g apart none. kept_event size g h (event.Taken (Down host object control) m) old own apart none;
      steps =
          λ done s. subst (λ (l : List Act). StepsDone l) (sym (plain_part size (event.Taken (Down host object control) m) old
          (took_plain (object.0 == 0) control (down_word 0 m)))) (λ b. done, s);
      stands = λ d s. stands_event size h (event.Taken (Down host object control) m) d old own s;
    }
moved_head size h (event.Taken (Up host object) m) old own = absurd own
moved_head size h (event.BegunLoad task address bytes) old own = begun_load size h task address bytes old own
moved_head size h (event.BegunStore task address bytes value) old own = begun_store size h task address bytes value old own
moved_head size h e old own = absurd own

pub moved_adds : (size h : ℕ) (old base new : List Event) → Adds (HostDoes h) base new → Moved size h old base → Moved size h old new
moved_adds size h old base _ Same m = m
moved_adds size h old base _ (More e past own rest) m = one (moved_adds size h old base past rest m) where
  one : Moved size h old past → Moved size h old (e ∷ past)
  one n =
      record {
        kept =
            λ g apart none. kept_more size g old past (e ∷ past) (n.kept g apart none)
            (kept_event size g h e past (does_own h e own) apart (ap (λ (s : Side). s.step) (n.kept g apart none).same_side ∙ none));
        steps = λ done s. steps_event size h e past own (n.steps done s);
        stands = λ d s. stands_event size h e d past (does_own h e own) (n.stands d s);
      }
