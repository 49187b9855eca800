-- The server hears of a host before it answers it: whoever holds a page, or stands in line for it, has asked for it, from a control that has its channel.
use Rattle.vm_system.proofs.Common.{Bool, Channel, Down, Event, HasHeard, Header, HostId, IsHeard, IsHostLetter, IsWordUp, List, Message, None, ObjectId}
use Rattle.vm_system.proofs.Common.{Option, Some, Up, [], ap, arith, false, first, host_id, if◌then◌else◌, inl, inr, is_made, is_shared, length, makes}
use Rattle.vm_system.proofs.Common.{nat_tests, never, page_part, refl, stands_in, subst, suc, sym, true, zero, ℕ, ◌&&◌, ◌++◌, ◌==◌, ◌||◌, ◌∙◌, ◌∷◌, ◌≡◌, ◌⊎◌}
use Rattle.vm_system.proofs.Common.{◌<◌}
use Rattle.vm_model.specs.declared.event.Event.TheVariants as event
use Rattle.vm_model.specs.declared.message.Message.TheVariants as message
use Rattle.vm_legal.specs.Licences.{ServerSends}
use Rattle.vm_model.specs.PageLicences.{ReplyCause, SupplyRow, UpgradeRow}
use Rattle.vm_model.specs.Server.{Wanting, joined, line, stays, trimmed_line, without_request}
use Rattle.vm_model.specs.Side.{Side, after_done, is_open_to, side, side_after, side_taken_down}
use Rattle.vm_model.specs.TaskPlace.{means_page, task_host}
use Rattle.vm_model.specs.Words.{Act, ActEffect, Asking, Copies, Doing, DownWord, Drops, EndsCopy, Ending as EndingWord, Failing, Fails, Lacking, Locking}
use Rattle.vm_model.specs.Words.{Nothing, OtherDown, OtherUp, Puts, Readying, Returning, SendsUp, SentDown, StepBegins, Supplying, TakenUp, TakesDown}
use Rattle.vm_model.specs.Words.{Unlocking, UpWord, act_if, act_of, down_word, in_range, sent_act_effect, to_others, up_word}

-- lines

stands_or : (a b c : Bool) → (b ≡ true → c ≡ true) → a || b ≡ true → a || c ≡ true
stands_or true b c more is = refl
stands_or false b c more is = more is

stands_behind : (a b c : Bool) → (b ≡ true → c ≡ true) → b ≡ true → a || c ≡ true
stands_behind true b c more is = refl
stands_behind false b c more is = more is

trimmed : (h g holds : ℕ) (ws : List Wanting) → stands_in h (trimmed_line g holds ws) ≡ true → stands_in h ws ≡ true
trimmed h g holds [] is = is
trimmed h g holds (w ∷ ws) is = by (stays g holds w) (trimmed h g holds ws) is
  where
    by : (b : Bool) → (stands_in h (trimmed_line g holds ws) ≡ true → stands_in h ws ≡ true)
        → stands_in h (if b then w ∷ trimmed_line g holds ws else trimmed_line g holds ws) ≡ true → (w.host == h) || stands_in h ws ≡ true
    by true more is = stands_or (w.host == h) (stands_in h (trimmed_line g holds ws)) (stands_in h ws) more is
    by false more is = stands_behind (w.host == h) (stands_in h (trimmed_line g holds ws)) (stands_in h ws) more is

answered : (h g : ℕ) (ws : List Wanting) → stands_in h (without_request g ws) ≡ true → stands_in h ws ≡ true
answered h g [] is = is
answered h g (w ∷ ws) is = by (w.host == g) w.upgrade (answered h g ws) is
  where
    by : (b c : Bool) → (stands_in h (without_request g ws) ≡ true → stands_in h ws ≡ true)
        → stands_in h (if b then (if c then w ∷ without_request g ws else ws) else w ∷ without_request g ws) ≡ true → (w.host == h) || stands_in h ws ≡ true
    by true true more is = stands_or (w.host == h) (stands_in h (without_request g ws)) (stands_in h ws) more is
    by true false more is = stands_behind (w.host == h) (stands_in h ws) (stands_in h ws) (λ e. e) is
    by false c more is = stands_or (w.host == h) (stands_in h (without_request g ws)) (stands_in h ws) more is

at_end : (h : ℕ) (ws : List Wanting) (w : Wanting) → stands_in h (ws ++ w ∷ []) ≡ true → (stands_in h ws ≡ true) ⊎ ((w.host == h) ≡ true)
at_end h [] w is = inr (by (w.host == h) is)
  where
    by : (b : Bool) → b || false ≡ true → b ≡ true
    by true is = refl
    by false is = is
at_end h (v ∷ ws) w is = by (v.host == h) (at_end h ws w) is
  where
    by : (b : Bool) → (stands_in h (ws ++ w ∷ []) ≡ true → (stands_in h ws ≡ true) ⊎ ((w.host == h) ≡ true)) → b || stands_in h (ws ++ w ∷ []) ≡ true
        → (b || stands_in h ws ≡ true) ⊎ ((w.host == h) ≡ true)
    by true more is = inl refl
    by false more is = more is

in_front : (h : ℕ) (ws : List Wanting) (w : Wanting) → first ws ≡ Some w → w.host ≡ h → stands_in h ws ≡ true
in_front h [] w is at = absurd (let bad : None ≡ Some w = is in cc)
in_front h (v ∷ ws) w is at =
    let same : v.host ≡ h = (let one : Some v ≡ Some w = is in cc) in
    let here : (v.host == h) ≡ true = grind (arith, nat_tests) in
    rw here refl

-- acts

-- the host holds the page, by the server's words, or stands in line for it
abbrev pub Interested : ℕ → List Act → Type 0
Interested h acts = (0 < (side h acts).holds) ⊎ (stands_in h (line acts) ≡ true)

-- a request for the page is taken
abbrev pub asks : ActEffect → Bool
asks (TakenUp (Asking asker access)) = true
asks e = false

-- what is sent down has its cause
abbrev pub IsGranted : ℕ → ℕ → ActEffect → List Act → Type 0
IsGranted size h (SentDown control word) acts = ReplyCause size h control word acts
IsGranted size h e acts = Unit {0}

joins : (h g : ℕ) (s : Side) (e : ActEffect) (ws : List Wanting) → ((g == h) ≡ true → asks e ≡ false) → stands_in h (joined s g e ws) ≡ true
    → (stands_in h ws ≡ true) ⊎ (((g == h) ≡ true) × (0 < s.holds))
joins h g s (TakenUp (Asking asker access)) ws none is =
    elim (at_end h ws (record { host = g; upgrade = false; access = access }) is) [ inl stood ↦ inl stood | inr own ↦ never (sym (none own)) ]
joins h g s (TakenUp (Unlocking access)) ws none is = by (s.holds == 1) (s.awaits == 0) refl is
  where
    by : (b c : Bool) → (s.holds == 1) ≡ b → stands_in h (if b && c then ws ++ record { host = g; upgrade = true; access = 3 } ∷ [] else ws) ≡ true
        → (stands_in h ws ≡ true) ⊎ (((g == h) ≡ true) × (0 < s.holds))
    by true true one is =
        elim (at_end h ws (record { host = g; upgrade = true; access = 3 }) is) [ inl stood ↦ inl stood | inr own ↦ inr (own, grind (arith, nat_tests)) ]
    by true false one is = inl is
    by false c one is = inl is
joins h g s (SentDown control (Supplying lock precious bytes)) ws none is = inl (answered h g ws is)
joins h g s e ws none is = inl is

-- an act of the host

still : (holds awaits : ℕ) → 0 < after_done awaits holds → 0 < holds
still holds zero is = is
still zero (suc zero) is = is
still (suc zero) (suc zero) is = is
still (suc (suc holds)) (suc zero) is = omega arith
still holds (suc (suc awaits)) is = absurd (omega (arith, is))

held_done : (b : Bool) (holds awaits : ℕ) → 0 < (if b then after_done awaits holds else holds) → 0 < holds
held_done true holds awaits is = still holds awaits is
held_done false holds awaits is = is

held_returned : (keep : Bool) (holds : ℕ) → 0 < (if keep then holds else 0) → 0 < holds
held_returned true holds is = is
held_returned false holds is = absurd (omega (arith, is))

held_taken : (b : Bool) (s : Side) (word : DownWord) → 0 < (if b then side_taken_down s word else record s { step = 0 }).holds → 0 < s.holds
held_taken false s word is = is
held_taken true s (Supplying lock precious bytes) is = is
held_taken true s (Locking count returns flush lock reply) is = is
held_taken true s Lacking is = is
held_taken true s Failing is = is
held_taken true s Readying is = is
held_taken true s OtherDown is = is

heard_taken : (b : Bool) (s : Side) (word : DownWord) → (if b then side_taken_down s word else record s { step = 0 }).heard ≡ s.heard
heard_taken false s word = refl
heard_taken true s (Supplying lock precious bytes) = refl
heard_taken true s (Locking count returns flush lock reply) = refl
heard_taken true s Lacking = refl
heard_taken true s Failing = refl
heard_taken true s Readying = refl
heard_taken true s OtherDown = refl

pub granted : (h lock : ℕ) (acts : List Act) (size control : ℕ) (precious : Bool) (bytes : List ℕ)
    → ReplyCause size h control (Supplying lock precious bytes) acts → stands_in h (line acts) ≡ true
granted h lock acts size control precious bytes (heard, plain, free, same, row) = by (first (line acts)) refl row
  where
    by : (w : Option Wanting) → first (line acts) ≡ w → SupplyRow h lock acts w → stands_in h (line acts) ≡ true
    by None is row = absurd row
    by (Some w) is row = in_front h (line acts) w is row.0

pub upgraded : (h : ℕ) (acts : List Act) (size control count returns lock : ℕ) (flush : Bool)
    → ReplyCause size h control (Locking count returns flush lock false) acts → stands_in h (line acts) ≡ true
upgraded h acts size control count returns lock flush (heard, one, none, kept, free, nobody, others, row) = by (first (line acts)) refl row
  where
    by : (w : Option Wanting) → first (line acts) ≡ w → UpgradeRow h w → stands_in h (line acts) ≡ true
    by None is row = absurd row
    by (Some w) is row = in_front h (line acts) w is row.0

own_held : (size h : ℕ) (e : ActEffect) (acts : List Act) → IsGranted size h e acts → asks e ≡ false → 0 < (side_after (side h acts) e).holds
    → Interested h acts
own_held size h (TakenUp (Asking asker access)) acts may none is = never (sym none)
own_held size h (TakenUp (Unlocking access)) acts may none is = inl is
own_held size h (TakenUp (Returning dirty keep bytes)) acts may none is = inl (held_returned keep (side h acts).holds is)
own_held size h (TakenUp (Doing control count)) acts may none is =
    inl (held_done ((side h acts).awaited_control == control) (side h acts).holds (side h acts).awaits is)
own_held size h (TakenUp (EndingWord control)) acts may none is = absurd (omega (arith, is))
own_held size h (TakenUp OtherUp) acts may none is = inl is
own_held size h (SentDown control (Supplying lock precious bytes)) acts may none is = inr (granted h lock acts size control precious bytes may)
own_held size h (SentDown control (Locking count returns flush lock true)) acts may none is = inl (by (returns == 0) refl is)
  where
    by : (b : Bool) → (returns == 0) ≡ b → 0 < (if b then 2 else (side h acts).holds) → 0 < (side h acts).holds
    by false none is = is
    by true none is = let one : returns ≡ 1 = may.2 in absurd (let bad : true ≡ false = sym none ∙ ap (λ (z : ℕ). z == 0) one in cc)
own_held size h (SentDown control (Locking count returns flush lock false)) acts may none is = inr (upgraded h acts size control count returns lock flush may)
own_held size h (SentDown control Lacking) acts may none is = inl is
own_held size h (SentDown control Failing) acts may none is = inl is
own_held size h (SentDown control Readying) acts may none is = inl is
own_held size h (SentDown control OtherDown) acts may none is = inl is
own_held size h (TakesDown control word) acts may none is = inl (held_taken (is_open_to (side h acts) control) (side h acts) word is)
own_held size h (SendsUp control (Asking asker access)) acts may none is = inl is
own_held size h (SendsUp control (Unlocking access)) acts may none is = inl is
own_held size h (SendsUp control (Returning dirty keep bytes)) acts may none is = inl is
own_held size h (SendsUp control (Doing other count)) acts may none is = inl is
own_held size h (SendsUp control (EndingWord other)) acts may none is = inl is
own_held size h (SendsUp control OtherUp) acts may none is = inl is
own_held size h e acts may none is = inl is

own_heard : (s : Side) (e : ActEffect) → asks e ≡ false → (side_after s e).heard ≡ s.heard
own_heard s (TakenUp (Asking asker access)) none = never (sym none)
own_heard s (TakenUp (Unlocking access)) none = refl
own_heard s (TakenUp (Returning dirty keep bytes)) none = refl
own_heard s (TakenUp (Doing control count)) none = refl
own_heard s (TakenUp (EndingWord control)) none = refl
own_heard s (TakenUp OtherUp) none = refl
own_heard s (SentDown control (Supplying lock precious bytes)) none = refl
own_heard s (SentDown control (Locking count returns flush lock reply)) none = refl
own_heard s (SentDown control Lacking) none = refl
own_heard s (SentDown control Failing) none = refl
own_heard s (SentDown control Readying) none = refl
own_heard s (SentDown control OtherDown) none = refl
own_heard s (TakesDown control word) none = heard_taken (is_open_to s control) s word
own_heard s (SendsUp control (Asking asker access)) none = refl
own_heard s (SendsUp control (Unlocking access)) none = refl
own_heard s (SendsUp control (Returning dirty keep bytes)) none = refl
own_heard s (SendsUp control (Doing other count)) none = refl
own_heard s (SendsUp control (EndingWord other)) none = refl
own_heard s (SendsUp control OtherUp) none = refl
own_heard s e none = refl

-- to the others it is nothing, or a step begins

others_same : (s : Side) (e : ActEffect) → (side_after s (to_others e)).holds ≡ s.holds
others_same s (TakenUp word) = refl
others_same s (TakesDown control word) = refl
others_same s StepBegins = refl
others_same s e = refl

others_heard : (s : Side) (e : ActEffect) → (side_after s (to_others e)).heard ≡ s.heard
others_heard s (TakenUp word) = refl
others_heard s (TakesDown control word) = refl
others_heard s StepBegins = refl
others_heard s e = refl

-- an act that is no request of the host

abbrev pub IsQuiet : ℕ → Act → Type 0
IsQuiet h a = (a.host == h) ≡ true → asks a.effect ≡ false

equal : (g h : ℕ) → (g == h) ≡ true → g ≡ h
equal g h is = grind (arith, nat_tests)

pub holds_before : (size h : ℕ) (a : Act) (acts : List Act) → IsGranted size a.host a.effect acts → IsQuiet h a → 0 < (side h (a ∷ acts)).holds
    → Interested h acts
holds_before size h a acts may quiet is = by (a.host == h) refl is
  where
    by : (b : Bool) → (a.host == h) ≡ b → 0 < (side_after (side h acts) (if b then a.effect else to_others a.effect)).holds → Interested h acts
    by true own is = own_held size h a.effect acts (subst (λ (g : ℕ). IsGranted size g a.effect acts) (equal a.host h own) may) (quiet own) is
    by false own is = inl (subst (λ (n : ℕ). 0 < n) (others_same (side h acts) a.effect) is)

pub heard_before : (h : ℕ) (a : Act) (acts : List Act) → IsQuiet h a → (side h (a ∷ acts)).heard ≡ (side h acts).heard
heard_before h a acts quiet = by (a.host == h) refl
  where
    by : (b : Bool) → (a.host == h) ≡ b → (side_after (side h acts) (if b then a.effect else to_others a.effect)).heard ≡ (side h acts).heard
    by true own = own_heard (side h acts) a.effect (quiet own)
    by false own = others_heard (side h acts) a.effect

pub stands_before : (h : ℕ) (a : Act) (acts : List Act) → IsQuiet h a → stands_in h (line (a ∷ acts)) ≡ true → Interested h acts
stands_before h a acts none is =
    let stood = trimmed h a.host (side a.host (a ∷ acts)).holds (joined (side a.host acts) a.host a.effect (line acts)) is in
    elim (joins h a.host (side a.host acts) a.effect (line acts) none stood) [
      | inl was ↦ inr was
      | inr own ↦ inl (subst (λ (g : ℕ). 0 < (side g acts).holds) (equal a.host h own.0) own.1)
    ]

-- events

pub made_more : (c : Channel) (e : Event) (past : List Event) → is_made c past ≡ true → is_made c (e ∷ past) ≡ true
made_more c (event.Sent (Up host object) m) past is = by (makes c host.0 object.0 m) is
  where
    by : (b : Bool) → is_made c past ≡ true → b || is_made c past ≡ true
    by true is = refl
    by false is = is
made_more c (event.Sent (Down host object control) m) past is = is
made_more c e past is = is

pub made_all : (c : Channel) (events past : List Event) → is_made c past ≡ true → is_made c (events ++ past) ≡ true
made_all c [] past is = is
made_all c (e ∷ events) past is = made_more c e (events ++ past) (made_all c events past is)

-- what a pager sends of a shared object the server may say, and what it takes is a host's word
abbrev pub Heeds : Header → Event → List Event → Type 0
Heeds header (event.Taken (Up host object) m) past = IsHostLetter header past (record { channel = Up host object; message = m })
Heeds header (event.Sent (Down host object control) m) past = is_shared header object.0 ≡ true → ServerSends header host.0 object.0 control m past
Heeds header other past = Unit {0}

-- a pager takes nothing and sends nothing
abbrev pub IsMute : Event → Type 0
IsMute (event.Taken (Up host object) m) = ⊥
IsMute (event.Sent (Down host object control) m) = ⊥
IsMute other = Unit {0}

abbrev IsPlain : ActEffect → Type 0
IsPlain (TakenUp word) = ⊥
IsPlain (SentDown control word) = ⊥
IsPlain e = Unit {0}

plain_if : (b : Bool) (e : ActEffect) → IsPlain e → IsPlain (if b then e else Nothing)
plain_if true e is = is
plain_if false e is = tt

plain_sent : (p : ℕ) (m : Message) → IsPlain (sent_act_effect p m)
plain_sent p (message.Init control size) = tt
plain_sent p (message.Create control size) = tt
plain_sent p m = tt

plain_act : (size o p : ℕ) (f : ℕ → ℕ) (g : ℕ → ℕ → Bool) (k : ℕ → ℕ → ℕ → List ℕ) (e : Event) → IsMute e → IsPlain (act_of size o p f g k e).effect
plain_act size o p f g k (event.Sent (Up host object) m) mute = plain_if (object.0 == o) (sent_act_effect p m) (plain_sent p m)
plain_act size o p f g k (event.Sent (Down host object control) m) mute = absurd mute
plain_act size o p f g k (event.Taken (Up host object) m) mute = absurd mute
plain_act size o p f g k (event.Taken (Down host object control) m) mute = by (object.0 == o)
  where
    by : (b : Bool) → IsPlain (if b then TakesDown control (down_word p m) else StepBegins)
    by true = tt
    by false = tt
plain_act size o p f g k (event.Dropped host object page) mute = plain_if (object.0 == o && page.0 == p) Drops tt
plain_act size o p f g k (event.Zeroed host object page) mute = plain_if (object.0 == o && page.0 == p) _ tt
plain_act size o p f g k (event.Raised host lower lower_page upper upper_page) mute = plain_if (upper.0 == o && upper_page.0 == p) _ tt
plain_act size o p f g k (event.BegunCopy task address bytes to) mute = tt
plain_act size o p f g k (event.CopiedPage task page object object_page target) mute = by (target.0 == o && page.0 == p) (object.0 == o && object_page.0 == p)
  where
    by : (b c : Bool) → IsPlain (if b then Puts (k (f task.0) object.0 object_page.0) true else (if c then Copies task.0 else Nothing))
    by true c = tt
    by false c = plain_if c (Copies task.0) tt
plain_act size o p f g k (event.CopyEnded task) mute = tt
plain_act size o p f g k (event.BegunLoad task address bytes) mute = plain_if (g task.0 address) _ tt
plain_act size o p f g k (event.BegunStore task address bytes value) mute = plain_if (g task.0 address) _ tt
plain_act size o p f g k (event.Loaded task object page value) mute = plain_if (object.0 == o && page.0 == p) _ tt
plain_act size o p f g k (event.Stored task object page at bytes value) mute = plain_if (object.0 == o && page.0 == p) _ tt
plain_act size o p f g k (event.Failed task object page) mute = by (object.0 == o && page.0 == p)
  where
    by : (b : Bool) → IsPlain (if b then Fails task.0 else EndsCopy task.0)
    by true = tt
    by false = tt
plain_act size o p f g k (event.Line line) mute = tt
plain_act size o p f g k e mute = tt

plain_quiet : (h : ℕ) (e : ActEffect) → IsPlain e → asks e ≡ false
plain_quiet h (TakenUp word) plain = absurd plain
plain_quiet h (SentDown control word) plain = absurd plain
plain_quiet h e plain = refl

plain_granted : (size h : ℕ) (e : ActEffect) (acts : List Act) → IsPlain e → IsGranted size h e acts
plain_granted size h (SentDown control word) acts plain = absurd plain
plain_granted size h e acts plain = tt

-- the words of a message that asks for nothing
unasked : (p : ℕ) (m : Message) → ((control access : ℕ) → up_word p m ≡ Asking control access → ⊥) → asks (TakenUp (up_word p m)) ≡ false
unasked p m none = by (up_word p m) none
  where
    by : (w : UpWord) → ((control access : ℕ) → w ≡ Asking control access → ⊥) → asks (TakenUp w) ≡ false
    by (Asking control access) none = absurd (none control access refl)
    by (Unlocking access) none = refl
    by (Returning dirty keep bytes) none = refl
    by (Doing control count) none = refl
    by (EndingWord control) none = refl
    by OtherUp none = refl

-- what the server may say of an object it may say of each page
said_down : (header : Header) (host o p control : ℕ) (m : Message) (past : List Event) → ServerSends header host o control m past
    → ReplyCause header.size host control (down_word p m) (page_part header.size o p past)
said_down header host o p control (message.Supply page lock precious bytes) past may = by (page.0 == p) refl
  where
    by : (b : Bool) → (page.0 == p) ≡ b → ReplyCause header.size host control (if b then Supplying lock precious bytes else OtherDown)
        (page_part header.size o p past)
    by true is = subst (λ (q : ℕ). ReplyCause header.size host control (Supplying lock precious bytes) (page_part header.size o q past)) (equal page.0 p is) may
    by false is = tt
said_down header host o p control (message.Lock page count returns flush lock reply) past may = by (in_range p page.0 count) refl
  where
    one : (reply : Bool) → ReplyCause header.size host control (Locking count returns flush lock reply) (page_part header.size o page.0 past) → count ≡ 1
    one true may = may.1
    one false may = may.1

    by : (b : Bool) → in_range p page.0 count ≡ b → ReplyCause header.size host control (if b then Locking count returns flush lock reply else OtherDown)
        (page_part header.size o p past)
    by true is =
        let single = one reply may in
        let same : page.0 ≡ p = grind (arith, nat_tests) in
        subst (λ (q : ℕ). ReplyCause header.size host control (Locking count returns flush lock reply) (page_part header.size o q past)) same may
    by false is = tt
said_down header host o p control (message.Ready cache strategy) past may = tt
said_down header host o p control m past may = absurd may

-- what the newest act does
abbrev first_act : List Act → Act
first_act [] = record { host = 0; effect = Nothing }
first_act (a ∷ acts) = a

-- an act that asks for nothing
kept : (header : Header) (h o p : ℕ) (e : Event) (past : List Event) (a : Act) → page_part header.size o p (e ∷ past) ≡ a ∷ page_part header.size o p past
    → IsGranted header.size a.host a.effect (page_part header.size o p past) → IsQuiet h a
    → HasHeard header h o p past → HasHeard header h o p (e ∷ past)
kept header h o p e past a is may quiet old = record {
  holder = λ holds. again (holds_before header.size h a acts may quiet (subst (λ (z : List Act). 0 < (side h z).holds) is holds));
  waiter = λ stands. again (stands_before h a acts quiet (subst (λ (z : List Act). stands_in h (line z) ≡ true) is stands));
}
  where
    acts : List Act
    acts = page_part header.size o p past

    heard : (side h (page_part header.size o p (e ∷ past))).heard ≡ (side h acts).heard
    heard = ap (λ (z : List Act). (side h z).heard) is ∙ heard_before h a acts quiet

    was : Interested h acts → IsHeard header h o p past
    was (inl holds) = old.holder holds
    was (inr stands) = old.waiter stands

    again : Interested h acts → IsHeard header h o p (e ∷ past)
    again interested =
        let heard_of = was interested in (
          heard_of.0,
          subst (λ (k : ℕ). is_made (Down (host_id h) (record { 0 = o }) k) (e ∷ past) ≡ true) (sym heard)
              (made_more (Down (host_id h) (record { 0 = o }) (side h acts).heard) e past heard_of.1),
        )

-- no pager has a part in the event
mute : (header : Header) (h o p : ℕ) (e : Event) (past : List Event) → IsMute e → HasHeard header h o p past → HasHeard header h o p (e ∷ past)
mute header h o p e past silent old =
    one (plain_act header.size o p (λ task. task_host task past) (λ task address. means_page header.size o p task address past)
    (λ host object page. (side host (page_part header.size object page past)).bytes) e silent)
  where
    one : IsPlain (first_act (page_part header.size o p (e ∷ past))).effect → HasHeard header h o p (e ∷ past)
    one plain =
        let a = first_act (page_part header.size o p (e ∷ past)) in
        kept header h o p e past a refl (plain_granted header.size a.host a.effect (page_part header.size o p past) plain) (λ own. plain_quiet h a.effect plain)
        old

-- a request names a control whose channel was made
asked_from : (size : ℕ) (made : ℕ → Bool) (p control access : ℕ) (m : Message) → up_word p m ≡ Asking control access → IsWordUp size made m
    → made control ≡ true
asked_from size made p control access (message.Request from page wanted) is word = by (page.0 == p) is
  where
    by : (b : Bool) → (if b then Asking from wanted else OtherUp) ≡ Asking control access → made control ≡ true
    by true is = let same : from ≡ control = cc in subst (λ (k : ℕ). made k ≡ true) same word
    by false is = absurd (cc)
asked_from size made p control access (message.Unlock from page wanted) is word = by (page.0 == p) is
  where
    by : (b : Bool) → (if b then Unlocking wanted else OtherUp) ≡ Asking control access → made control ≡ true
    by true is = absurd (cc)
    by false is = absurd (cc)
asked_from size made p control access (message.Return from page dirty keep bytes) is word = by (page.0 == p) is
  where
    by : (b : Bool) → (if b then Returning dirty keep bytes else OtherUp) ≡ Asking control access → made control ≡ true
    by true is = absurd (cc)
    by false is = absurd (cc)
asked_from size made p control access (message.Completed from page count) is word = by (in_range p page.0 count) is
  where
    by : (b : Bool) → (if b then Doing from count else OtherUp) ≡ Asking control access → made control ≡ true
    by true is = absurd (cc)
    by false is = absurd (cc)
asked_from size made p control access (message.Terminate from) is word = absurd (let bad : EndingWord from ≡ Asking control access = is in cc)
asked_from size made p control access m is word = absurd (let bad : OtherUp ≡ Asking control access = is in cc)

taken_act : (header : Header) (host : HostId) (object : ObjectId) (m : Message) (past : List Event) (o p : ℕ) (effect : ActEffect)
    → (if object.0 == o then TakenUp (up_word p m) else StepBegins) ≡ effect
    → page_part header.size o p (event.Taken (Up host object) m ∷ past) ≡ record { host = host.0; effect = effect } ∷ page_part header.size o p past
taken_act header host object m past o p effect is = ap (λ (z : ActEffect). record { host = host.0; effect = z } ∷ page_part header.size o p past) is

heard_of_asking : (h control access : ℕ) (acts : List Act) (g : ℕ) → (g == h) ≡ true
    → (side h (record { host = g; effect = TakenUp (Asking control access) } ∷ acts)).heard ≡ control
heard_of_asking h control access acts g own = rw own refl

-- a word of a host is taken
word_heard : (header : Header) (host : HostId) (object : ObjectId) (m : Message) (past : List Event)
    → IsHostLetter header past (record { channel = Up host object; message = m }) → (h o p : ℕ) → HasHeard header h o p past
    → (object.0 == o) ≡ true → (w : UpWord) → up_word p m ≡ w
    → page_part header.size o p (event.Taken (Up host object) m ∷ past) ≡ record { host = host.0; effect = TakenUp w } ∷ page_part header.size o p past
    → (b : Bool) → (host.0 == h) ≡ b → HasHeard header h o p (event.Taken (Up host object) m ∷ past)
word_heard header host object m past letter h o p old here (Asking control access) said is true own = record { holder = λ holds. now; waiter = λ stands. now }
  where
    e : Event
    e = event.Taken (Up host object) m

    at : (side h (page_part header.size o p (e ∷ past))).heard ≡ control
    at = ap (λ (z : List Act). (side h z).heard) is ∙ heard_of_asking h control access (page_part header.size o p past) host.0 own

    made : is_made (Down host object control) past ≡ true
    made = asked_from header.size (λ k. is_made (Down host object k) past) p control access m said letter.1

    named : is_made (Down (host_id h) (record { 0 = o }) control) past ≡ true
    named =
        subst (λ (n : ℕ). is_made (Down (host_id h) (record { 0 = n }) control) past ≡ true) (equal object.0 o here)
        (subst (λ (n : ℕ). is_made (Down (host_id n) object control) past ≡ true) (equal host.0 h own) made)

    now : IsHeard header h o p (e ∷ past)
    now = (
      subst (λ (n : ℕ). n < length header.frames.items) (equal host.0 h own) letter.0,
      subst (λ (k : ℕ). is_made (Down (host_id h) (record { 0 = o }) k) (e ∷ past) ≡ true) (sym at) named,
    )
word_heard header host object m past letter h o p old here (Asking control access) said is false own =
    kept header h o p (event.Taken (Up host object) m) past (record { host = host.0; effect = TakenUp (Asking control access) }) is tt
    (λ same. never (sym own ∙ same)) old
word_heard header host object m past letter h o p old here (Unlocking access) said is b own =
    kept header h o p (event.Taken (Up host object) m) past (record { host = host.0; effect = TakenUp (Unlocking access) }) is tt (λ same. refl) old
word_heard header host object m past letter h o p old here (Returning dirty keep bytes) said is b own =
    kept header h o p (event.Taken (Up host object) m) past (record { host = host.0; effect = TakenUp (Returning dirty keep bytes) }) is tt (λ same. refl) old
word_heard header host object m past letter h o p old here (Doing control count) said is b own =
    kept header h o p (event.Taken (Up host object) m) past (record { host = host.0; effect = TakenUp (Doing control count) }) is tt (λ same. refl) old
word_heard header host object m past letter h o p old here (EndingWord control) said is b own =
    kept header h o p (event.Taken (Up host object) m) past (record { host = host.0; effect = TakenUp (EndingWord control) }) is tt (λ same. refl) old
word_heard header host object m past letter h o p old here OtherUp said is b own =
    kept header h o p (event.Taken (Up host object) m) past (record { host = host.0; effect = TakenUp OtherUp }) is tt (λ same. refl) old

-- a message of a host is taken
taken : (header : Header) (host : HostId) (object : ObjectId) (m : Message) (past : List Event)
    → IsHostLetter header past (record { channel = Up host object; message = m }) → (h o p : ℕ) → HasHeard header h o p past
    → HasHeard header h o p (event.Taken (Up host object) m ∷ past)
taken header host object m past letter h o p old = by (object.0 == o) refl
  where
    effect : Bool → ActEffect
    effect b = if b then TakenUp (up_word p m) else StepBegins

    by : (b : Bool) → (object.0 == o) ≡ b → HasHeard header h o p (event.Taken (Up host object) m ∷ past)
    by true here =
        word_heard header host object m past letter h o p old here (up_word p m) refl
        (taken_act header host object m past o p (TakenUp (up_word p m)) (ap effect here)) (host.0 == h) refl
    by false there =
        kept header h o p (event.Taken (Up host object) m) past (record { host = host.0; effect = StepBegins })
        (taken_act header host object m past o p StepBegins (ap effect there)) tt (λ own. refl) old

-- a message of a pager is sent
sent : (header : Header) (host : HostId) (object : ObjectId) (control : ℕ) (m : Message) (past : List Event)
    → (is_shared header object.0 ≡ true → ServerSends header host.0 object.0 control m past) → (h o p : ℕ) → is_shared header o ≡ true
    → HasHeard header h o p past → HasHeard header h o p (event.Sent (Down host object control) m ∷ past)
sent header host object control m past may h o p shared old =
    kept header h o p (event.Sent (Down host object control) m) past (act_if (object.0 == o) host.0 (SentDown control (down_word p m))) refl
    (granted_at (object.0 == o) refl) (λ own. quiet_at (object.0 == o)) old
  where
    granted_at : (b : Bool) → (object.0 == o) ≡ b → IsGranted header.size host.0 (if b then SentDown control (down_word p m) else Nothing)
        (page_part header.size o p past)
    granted_at true here =
        let same = equal object.0 o here in
        said_down header host.0 o p control m past (subst (λ (n : ℕ). ServerSends header host.0 n control m past) same
        (may (subst (λ (n : ℕ). is_shared header n ≡ true) (sym same) shared)))
    granted_at false there = tt

    quiet_at : (b : Bool) → asks (if b then SentDown control (down_word p m) else Nothing) ≡ false
    quiet_at true = refl
    quiet_at false = refl

-- whatever happens, the server has heard of whom it answers
pub heard_next : (header : Header) (e : Event) (past : List Event) → Heeds header e past
    → ((h o p : ℕ) → is_shared header o ≡ true → HasHeard header h o p past) → (h o p : ℕ) → is_shared header o ≡ true → HasHeard header h o p (e ∷ past)
heard_next header (event.Taken (Up host object) m) past letter old h o p shared = taken header host object m past letter h o p (old h o p shared)
heard_next header (event.Sent (Down host object control) m) past may old h o p shared =
    sent header host object control m past may h o p shared (old h o p shared)
heard_next header e past heeds old h o p shared = mute header h o p e past tt (old h o p shared)
