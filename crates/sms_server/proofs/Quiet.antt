-- Acts of a page that are not the server's leave what its directory notes.
use Rattle.std.proofs.Common.{◌≡◌, ◌<◌, ◌==◌, ℕ, List, ◌∷◌, refl, ap, subst, sym, ◌∙◌, Bool, true, false, if◌then◌else◌}
use Rattle.std.proofs.lemmas.Bool.{false≢true}
use Rattle.sms_pages.proofs.Facts.{counted_same}
use Rattle.sms_pages.specs.Directory.{Directory, is_recalled}
use Rattle.sms_pages.specs.Stands.{AllAreRecalled, Hears, StandsFor}
use Rattle.vm_model.specs.Coherence.{SomebodyIsAwaited}
use Rattle.vm_model.specs.Server.{Wanting, first, joined, kept, kept_after, line, trimmed_line}
use Rattle.vm_model.specs.Side.{Side, is_open_to, side, side_after, side_taken_down}
use Rattle.sms_server.proofs.Readers.{none_leaves, only_readers}
use Rattle.vm_model.specs.Words.{UpWord, Asking, Unlocking, Returning, Doing, Ending, OtherUp, DownWord, Supplying, Locking, Lacking, Failing, Readying}
use Rattle.vm_model.specs.Words.{OtherDown, ActEffect, Opens, SendsUp, TakenUp, SentDown, TakesDown, Puts, Drops, Begins, Loads, Stores, Fails, BeginsCopy}
use Rattle.vm_model.specs.Words.{Copies, EndsCopy, StepBegins, Nothing, Act, effect_on, to_others}

-- the act is a word of the page to the server, or from it
abbrev pub is_word : ActEffect → Bool
is_word (TakenUp OtherUp) = false
is_word (TakenUp word) = true
is_word (SentDown control (Supplying lock precious bytes)) = true
is_word (SentDown control (Locking count returns flush lock reply)) = true
is_word e = false

-- what the server says of a host is as it was
pub record SameWords (old new : Side) : Type 0 where
  pub holds : new.holds ≡ old.holds
  pub awaits : new.awaits ≡ old.awaits
  pub heard : new.heard ≡ old.heard

same_words : (s : Side) → SameWords s s
same_words s = record { holds = refl; awaits = refl; heard = refl }

sent_words : (s : Side) (control : ℕ) (word : UpWord) → SameWords s (side_after s (SendsUp control word))
sent_words s control (Asking asker access) = record { holds = refl; awaits = refl; heard = refl }
sent_words s control (Unlocking access) = record { holds = refl; awaits = refl; heard = refl }
sent_words s control (Returning dirty keep bytes) = record { holds = refl; awaits = refl; heard = refl }
sent_words s control (Doing asker count) = record { holds = refl; awaits = refl; heard = refl }
sent_words s control (Ending asker) = record { holds = refl; awaits = refl; heard = refl }
sent_words s control OtherUp = record { holds = refl; awaits = refl; heard = refl }

down_words : (s : Side) (control : ℕ) (word : DownWord) → is_word (SentDown control word) ≡ false → SameWords s (side_after s (SentDown control word))
down_words s control (Supplying lock precious bytes) none = absurd (false≢true (sym none))
down_words s control (Locking count returns flush lock reply) none = absurd (false≢true (sym none))
down_words s control Lacking none = record { holds = refl; awaits = refl; heard = refl }
down_words s control Failing none = record { holds = refl; awaits = refl; heard = refl }
down_words s control Readying none = record { holds = refl; awaits = refl; heard = refl }
down_words s control OtherDown none = record { holds = refl; awaits = refl; heard = refl }

up_words : (s : Side) (word : UpWord) → is_word (TakenUp word) ≡ false → SameWords s (side_after s (TakenUp word))
up_words s (Asking asker access) none = absurd (false≢true (sym none))
up_words s (Unlocking access) none = absurd (false≢true (sym none))
up_words s (Returning dirty keep bytes) none = absurd (false≢true (sym none))
up_words s (Doing control count) none = absurd (false≢true (sym none))
up_words s (Ending control) none = absurd (false≢true (sym none))
up_words s OtherUp none = record { holds = refl; awaits = refl; heard = refl }

if_words : (b : Bool) (s x y : Side) → SameWords s x → SameWords s y → SameWords s (if b then x else y)
if_words true s x y one two = one
if_words false s x y one two = two

came_words : (s : Side) (word : DownWord) → SameWords s (side_taken_down s word)
came_words s (Supplying lock precious bytes) = record { holds = refl; awaits = refl; heard = refl }
came_words s (Locking count returns flush lock reply) = record { holds = refl; awaits = refl; heard = refl }
came_words s Lacking = record { holds = refl; awaits = refl; heard = refl }
came_words s Failing = record { holds = refl; awaits = refl; heard = refl }
came_words s Readying = record { holds = refl; awaits = refl; heard = refl }
came_words s OtherDown = record { holds = refl; awaits = refl; heard = refl }

taken_words : (s : Side) (control : ℕ) (word : DownWord) → SameWords s (side_after s (TakesDown control word))
taken_words s control word =
    if_words (is_open_to s control) s (side_taken_down s word) (record s { step = 0 }) (came_words s word)
    (record { holds = refl; awaits = refl; heard = refl })

quiet_words : (s : Side) (e : ActEffect) → is_word e ≡ false → SameWords s (side_after s e)
quiet_words s (Opens control ready) none = record { holds = refl; awaits = refl; heard = refl }
quiet_words s (SendsUp control word) none = sent_words s control word
quiet_words s (TakenUp word) none = up_words s word none
quiet_words s (SentDown control word) none = down_words s control word none
quiet_words s (TakesDown control word) none = taken_words s control word
quiet_words s (Puts bytes dirty) none = record { holds = refl; awaits = refl; heard = refl }
quiet_words s Drops none = record { holds = refl; awaits = refl; heard = refl }
quiet_words s (Begins task store at size value) none = same_words s
quiet_words s (Loads task value) none = same_words s
quiet_words s (Stores task at size value) none = record { holds = refl; awaits = refl; heard = refl }
quiet_words s (Fails task) none = same_words s
quiet_words s (BeginsCopy task times) none = same_words s
quiet_words s (Copies task) none = same_words s
quiet_words s (EndsCopy task) none = same_words s
quiet_words s StepBegins none = record { holds = refl; awaits = refl; heard = refl }
quiet_words s Nothing none = same_words s

others_quiet : (e : ActEffect) → is_word (to_others e) ≡ false
others_quiet (Opens control ready) = refl
others_quiet (SendsUp control word) = refl
others_quiet (TakenUp word) = refl
others_quiet (SentDown control word) = refl
others_quiet (TakesDown control word) = refl
others_quiet (Puts bytes dirty) = refl
others_quiet Drops = refl
others_quiet (Begins task store at size value) = refl
others_quiet (Loads task value) = refl
others_quiet (Stores task at size value) = refl
others_quiet (Fails task) = refl
others_quiet (BeginsCopy task times) = refl
others_quiet (Copies task) = refl
others_quiet (EndsCopy task) = refl
others_quiet StepBegins = refl
others_quiet Nothing = refl

on_quiet : (h g : ℕ) (e : ActEffect) → is_word e ≡ false → is_word (effect_on g (record { host = h; effect = e })) ≡ false
on_quiet h g e none = by (h == g)
  where
    by : (b : Bool) → is_word (if b then e else to_others e) ≡ false
    by true = none
    by false = others_quiet e

pub same_of : (a : Act) (past : List Act) → is_word a.effect ≡ false → (g : ℕ) → SameWords (side g past) (side g (a ∷ past))
same_of a past none g = quiet_words (side g past) (effect_on g a) (on_quiet a.host g a.effect none)

joined_quiet : (s : Side) (h : ℕ) (e : ActEffect) (ws : List Wanting) → is_word e ≡ false → joined s h e ws ≡ ws
joined_quiet s h (Opens control ready) ws none = refl
joined_quiet s h (SendsUp control word) ws none = refl
joined_quiet s h (TakenUp (Asking asker access)) ws none = absurd (false≢true (sym none))
joined_quiet s h (TakenUp (Unlocking access)) ws none = absurd (false≢true (sym none))
joined_quiet s h (TakenUp (Returning dirty keep bytes)) ws none = refl
joined_quiet s h (TakenUp (Doing control count)) ws none = refl
joined_quiet s h (TakenUp (Ending control)) ws none = refl
joined_quiet s h (TakenUp OtherUp) ws none = refl
joined_quiet s h (SentDown control (Supplying lock precious bytes)) ws none = absurd (false≢true (sym none))
joined_quiet s h (SentDown control (Locking count returns flush lock reply)) ws none = refl
joined_quiet s h (SentDown control Lacking) ws none = refl
joined_quiet s h (SentDown control Failing) ws none = refl
joined_quiet s h (SentDown control Readying) ws none = refl
joined_quiet s h (SentDown control OtherDown) ws none = refl
joined_quiet s h (TakesDown control word) ws none = refl
joined_quiet s h (Puts bytes dirty) ws none = refl
joined_quiet s h Drops ws none = refl
joined_quiet s h (Begins task store at size value) ws none = refl
joined_quiet s h (Loads task value) ws none = refl
joined_quiet s h (Stores task at size value) ws none = refl
joined_quiet s h (Fails task) ws none = refl
joined_quiet s h (BeginsCopy task times) ws none = refl
joined_quiet s h (Copies task) ws none = refl
joined_quiet s h (EndsCopy task) ws none = refl
joined_quiet s h StepBegins ws none = refl
joined_quiet s h Nothing ws none = refl

kept_quiet : (e : ActEffect) (page : List ℕ) → is_word e ≡ false → kept_after e page ≡ page
kept_quiet (Opens control ready) page none = refl
kept_quiet (SendsUp control word) page none = refl
kept_quiet (TakenUp (Asking asker access)) page none = refl
kept_quiet (TakenUp (Unlocking access)) page none = refl
kept_quiet (TakenUp (Returning dirty keep bytes)) page none = absurd (false≢true (sym none))
kept_quiet (TakenUp (Doing control count)) page none = refl
kept_quiet (TakenUp (Ending control)) page none = refl
kept_quiet (TakenUp OtherUp) page none = refl
kept_quiet (SentDown control word) page none = refl
kept_quiet (TakesDown control word) page none = refl
kept_quiet (Puts bytes dirty) page none = refl
kept_quiet Drops page none = refl
kept_quiet (Begins task store at size value) page none = refl
kept_quiet (Loads task value) page none = refl
kept_quiet (Stores task at size value) page none = refl
kept_quiet (Fails task) page none = refl
kept_quiet (BeginsCopy task times) page none = refl
kept_quiet (Copies task) page none = refl
kept_quiet (EndsCopy task) page none = refl
kept_quiet StepBegins page none = refl
kept_quiet Nothing page none = refl

line_quiet : (a : Act) (past : List Act) → is_word a.effect ≡ false → line (a ∷ past) ≡ trimmed_line a.host (side a.host past).holds (line past)
line_quiet a past none =
    let same = same_of a past none a.host in
    ap (λ (n : ℕ). trimmed_line a.host n (joined (side a.host past) a.host a.effect (line past))) same.holds
    ∙ ap (trimmed_line a.host (side a.host past).holds) (joined_quiet (side a.host past) a.host a.effect (line past) none)

-- a directory still stands for its page
pub stands_quiet : (size : ℕ) (d : Directory) (a : Act) (past : List Act) → is_word a.effect ≡ false → StandsFor size d past → StandsFor size d (a ∷ past)
stands_quiet size d a past none s = record {
  same_holds = λ h. let same = same_of a past none h in same.holds ∙ s.same_holds h;
  same_awaits = λ h. let same = same_of a past none h in same.awaits ∙ s.same_awaits h;
  same_line =
      line_quiet a past none ∙ (ap (trimmed_line a.host (side a.host past).holds) s.same_line
      ∙ (counted_same a.host (side a.host past).holds d.holds d.line (sym (s.same_holds a.host))));
  same_bytes = kept_quiet a.effect (kept size past) none ∙ s.same_bytes;
  eight_hold = s.eight_hold;
  eight_await = s.eight_await;
  bounded = s.bounded;
  in_turn = s.in_turn;
  waiting = s.waiting;
  writing = s.writing;
}

pub hears_quiet : (heard : ℕ → ℕ) (a : Act) (past : List Act) → is_word a.effect ≡ false → Hears heard past → Hears heard (a ∷ past)
hears_quiet heard a past none hears h = let same = same_of a past none h in hears h ∙ sym same.heard

-- and where somebody waits, a host is still awaited
pub served_quiet : (a : Act) (past : List Act) → is_word a.effect ≡ false → SomebodyIsAwaited past → SomebodyIsAwaited (a ∷ past)
served_quiet a past none served some =
    let was = served (λ e. some (line_quiet a past none ∙ ap (trimmed_line a.host (side a.host past).holds) e)) in
    let same = same_of a past none was.0 in
    (was.0, subst (λ (n : ℕ). 0 < n) (sym same.awaits) was.1)

-- and so is each that stands in the way of the first in line
pub recalled_quiet : (a : Act) (past : List Act) → is_word a.effect ≡ false → AllAreRecalled past → AllAreRecalled (a ∷ past)
recalled_quiet a past none recalled host w front way =
    let same = same_of a past none host in
    let kept : line (a ∷ past) ≡ line past = line_quiet a past none ∙ none_leaves a.host (λ k. (side k past).holds) (line past) (only_readers past) in
    subst (λ (n : ℕ). 0 < n) (sym same.awaits)
    (recalled host w (ap (λ (l : List Wanting). first l) (sym kept) ∙ front) (subst (λ (n : ℕ). is_recalled w host n 0 ≡ true) same.holds way))

-- what held of the line in front of some acts holds behind them: where somebody waits a host is awaited, and so is each in the way
pub record StillServed (before part : List Act) : Type 0 where
  pub somebody : SomebodyIsAwaited before → SomebodyIsAwaited part
  pub recalled : AllAreRecalled before → AllAreRecalled part

pub still_quiet : (a : Act) (before past : List Act) → is_word a.effect ≡ false → StillServed before past → StillServed before (a ∷ past)
still_quiet a before past none still = record {
  somebody = λ was. served_quiet a past none (still.somebody was);
  recalled = λ was. recalled_quiet a past none (still.recalled was);
}

pub still_same : (past : List Act) → StillServed past past
still_same past = record { somebody = λ was. was; recalled = λ was. was }
