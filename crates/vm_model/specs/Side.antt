-- One host and one place: what the host has of it, what is on the way, and what the server says of the host.
use Rattle.std.specs.Prelude.{nat_lt, ℕ, zero, suc, ◌+◌, ◌-◌, ◌==◌, List, [], ◌∷◌, ◌++◌, Bool, true, false, if◌then◌else◌, ◌&&◌, ◌||◌}
use Rattle.vm_base.specs.Pages.{little_endian_bytes, with_bytes}
use Rattle.vm_model.specs.Words.{UpWord, Asking, Unlocking, Returning, Doing, Ending, OtherUp, DownWord, Supplying, Locking, Lacking, Failing, Readying}
use Rattle.vm_model.specs.Words.{OtherDown, ActEffect, Opens, SendsUp, TakenUp, SentDown, TakesDown, Puts, Drops, Begins, Loads, Stores, Fails, BeginsCopy}
use Rattle.vm_model.specs.Words.{Copies, EndsCopy, StepBegins, Nothing, Act, effect_on}

pub record Side : Type 0 where
  -- what is on the way, oldest first; downwards to the live control alone
  pub up : List UpWord
  pub down : List DownWord
  -- the host's last control of the object
  pub control : ℕ
  pub live : Bool
  pub ready : Bool
  -- the page on the host: 0 not here, 1 here with a lock, 2 here with none
  pub right : ℕ
  -- where the page is here: the accesses that are prohibited, 1 reading, 2 writing, 3 both
  pub lock : ℕ
  pub bytes : List ℕ
  pub dirty : Bool
  pub precious : Bool
  pub asked : Bool
  -- an unlock was sent since the page came or was locked last
  pub unlocking : Bool
  -- the pager answered that it has no such page, and none was returned since
  pub absent : Bool
  -- the lock with a reply that the present step began with: 0 none, 1 without flush, 2 with flush
  pub step : ℕ
  -- the server's words: the host holds 0 nothing, 1 Read, 2 Write
  pub holds : ℕ
  -- it is awaited: 0 no, 1 for a lock without flush, 2 for one with flush; and for which control
  pub awaits : ℕ
  pub awaited_control : ℕ
  -- requests taken from it and not yet supplied
  pub pending : ℕ
  -- the control of the last request taken from it
  pub heard : ℕ

abbrev pub nobody : Side
nobody =
    record {
      up = [];
      down = [];
      control = 0;
      live = false;
      ready = false;
      right = 0;
      lock = 0;
      bytes = [];
      dirty = false;
      precious = false;
      asked = false;
      unlocking = false;
      absent = false;
      step = 0;
      holds = 0;
      awaits = 0;
      awaited_control = 0;
      pending = 0;
      heard = 0;
    }

abbrev pub can_read : Side → Bool
can_read s = nat_lt 0 s.right && (s.lock == 0 || s.lock == 2)

abbrev pub can_write : Side → Bool
can_write s = s.right == 2

-- the host has what nobody else has
abbrev pub has_alone : Side → Bool
has_alone s = nat_lt 0 s.right && s.dirty

abbrev pub right_of : ℕ → ℕ
right_of zero = 2
right_of (suc lock) = 1

abbrev pub kind_of : Bool → ℕ
kind_of true = 2
kind_of false = 1

abbrev pub rest : {A : Type 0} → List A → List A
rest [] = []
rest (x ∷ xs) = xs

-- a control begins; nothing is on the way to it
abbrev pub opened : Side → ℕ → Bool → Side
opened s control ready = record s { control = control; live = true; ready = ready; down = []; asked = false }

-- the host sends

abbrev pub side_sent_up : Side → UpWord → Side
side_sent_up s (Asking asker access) = record s { up = s.up ++ Asking asker access ∷ []; asked = true }
side_sent_up s (Unlocking access) = record s { up = s.up ++ Unlocking access ∷ []; unlocking = true }
side_sent_up s (Returning dirty keep bytes) =
    record s {
      up = s.up ++ Returning dirty keep bytes ∷ [];
      right = if keep then s.right else 0;
      dirty = false;
      precious = false;
      absent = false;
    }
side_sent_up s (Doing control count) = record s { up = s.up ++ Doing control count ∷ []; step = 0 }
side_sent_up s (Ending control) =
    record s { up = s.up ++ Ending control ∷ []; live = false; ready = false; down = []; asked = false; step = 0 }
side_sent_up s OtherUp = s

-- the server takes

-- what the host holds once the lock of this kind is done
abbrev pub after_done : ℕ → ℕ → ℕ
after_done zero holds = holds
after_done (suc zero) (suc (suc n)) = 1
after_done (suc zero) holds = holds
after_done (suc (suc n)) holds = 0

abbrev pub done : Side → ℕ → Side
done s control =
    record s {
      awaits = if s.awaited_control == control then 0 else s.awaits;
      holds = if s.awaited_control == control then after_done s.awaits s.holds else s.holds;
    }

abbrev pub heard_up : Side → UpWord → Side
heard_up s (Asking asker access) = record s { holds = 0; pending = s.pending + 1; heard = asker }
heard_up s (Unlocking access) = s
heard_up s (Returning dirty keep bytes) = record s { holds = if keep then s.holds else 0 }
heard_up s (Doing control count) = done s control
heard_up s (Ending control) = record s { holds = 0; awaits = if s.awaited_control == control then 0 else s.awaits }
heard_up s OtherUp = s

abbrev pub side_taken_up : Side → UpWord → Side
side_taken_up s OtherUp = record s { step = 0 }
side_taken_up s word = record (heard_up s word) { up = rest s.up; step = 0 }

-- the server sends

abbrev pub is_open_to : Side → ℕ → Bool
is_open_to s control = s.live && s.control == control

abbrev pub put_down : Side → ℕ → DownWord → List DownWord
put_down s control word = if is_open_to s control then s.down ++ word ∷ [] else s.down

abbrev pub side_sent_down : Side → ℕ → DownWord → Side
side_sent_down s control (Supplying lock precious bytes) =
    record s { down = put_down s control (Supplying lock precious bytes); holds = right_of lock; pending = s.pending - 1 }
side_sent_down s control (Locking count returns flush lock reply) =
    record s {
      down = put_down s control (Locking count returns flush lock reply);
      holds = if returns == 0 then 2 else s.holds;
      awaits = if reply then kind_of flush else s.awaits;
      awaited_control = if reply then control else s.awaited_control;
    }
side_sent_down s control Lacking = record s { down = put_down s control Lacking }
side_sent_down s control Failing = record s { down = put_down s control Failing }
side_sent_down s control Readying = s
side_sent_down s control OtherDown = s

-- the host takes; an answer counts only where the page is asked

abbrev pub locked : ℕ → Bool → ℕ → ℕ
locked right true lock = right
locked zero false lock = 0
locked (suc right) false lock = if lock == 8 then suc right else right_of lock

abbrev pub supplied : ℕ → Bool → ℕ → ℕ
supplied right true lock = right_of lock
supplied right false lock = right

abbrev pub side_taken_down : Side → DownWord → Side
side_taken_down s (Supplying lock precious bytes) =
    record s {
      down = rest s.down;
      right = supplied s.right s.asked lock;
      lock = if s.asked then lock else s.lock;
      bytes = if s.asked then bytes else s.bytes;
      dirty = if s.asked then false else s.dirty;
      precious = if s.asked then precious else s.precious;
      unlocking = if s.asked then false else s.unlocking;
      asked = false;
      step = 0;
    }
side_taken_down s (Locking count returns flush lock reply) =
    record s {
      down = rest s.down;
      right = locked s.right flush lock;
      lock = if flush || lock == 8 then s.lock else lock;
      unlocking = false;
      step = if reply then kind_of flush else 0;
    }
side_taken_down s Lacking = record s { down = rest s.down; absent = if s.asked then true else s.absent; asked = false; step = 0 }
side_taken_down s Failing = record s { down = rest s.down; asked = false; step = 0 }
side_taken_down s Readying = record s { ready = true; step = 0 }
side_taken_down s OtherDown = record s { step = 0 }

abbrev pub put : Side → List ℕ → Bool → Side
put s bytes dirty = record s { right = 2; lock = 0; bytes = bytes; dirty = dirty; precious = false; unlocking = false }

abbrev pub side_after : Side → ActEffect → Side
side_after s (Opens control ready) = opened s control ready
side_after s (SendsUp control word) = side_sent_up s word
side_after s (TakenUp word) = side_taken_up s word
side_after s (SentDown control word) = side_sent_down s control word
side_after s (TakesDown control word) = if is_open_to s control then side_taken_down s word else record s { step = 0 }
side_after s (Puts bytes dirty) = put s bytes dirty
side_after s Drops = record s { right = 0 }
side_after s (Begins task store at size value) = s
side_after s (Loads task value) = s
side_after s (Stores task at size value) =
    record s { bytes = with_bytes at (little_endian_bytes size value) s.bytes; dirty = true }
side_after s (Fails task) = s
side_after s (BeginsCopy task times) = s
side_after s (Copies task) = s
side_after s (EndsCopy task) = s
side_after s StepBegins = record s { step = 0 }
side_after s Nothing = s

-- what a list of acts, newest first, leaves of the place at host h
abbrev pub side : ℕ → List Act → Side
side h [] = nobody
side h (a ∷ past) = side_after (side h past) (effect_on h a)
