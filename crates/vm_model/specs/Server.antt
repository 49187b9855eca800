-- The shared memory server and one page: the line of those who want it, and its bytes.
use Rattle.std.specs.Prelude.{ℕ, ◌≡◌, ◌≢◌, ◌==◌, ◌&&◌, List, [], ◌∷◌, ◌++◌, Bool, true, false, if◌then◌else◌, Option, Some, None, replicate}
use Rattle.vm_base.specs.Pages.{little_endian_bytes, with_bytes}
use Rattle.vm_model.specs.Words.{Asking, Unlocking, Returning, Supplying, ActEffect, TakenUp, SentDown, Stores, Act}
use Rattle.vm_model.specs.Side.{Side, side}

abbrev pub first : {A : Type 0} → List A → Option A
first [] = None
first (x ∷ xs) = Some x

pub record Wanting : Type 0 where
  pub host : ℕ
  -- an upgrade wants to write what the host can read already
  pub upgrade : Bool
  pub access : ℕ

abbrev pub wants_write : Wanting → Bool
wants_write w = if w.upgrade then true else w.access == 3

-- without the first request of the host
abbrev pub without_request : ℕ → List Wanting → List Wanting
without_request h [] = []
without_request h (w ∷ ws) = if w.host == h then (if w.upgrade then w ∷ without_request h ws else ws) else w ∷ without_request h ws

-- a request joins; so does an unlock, to write, from a host that holds Read and isn't awaited
abbrev pub joined : Side → ℕ → ActEffect → List Wanting → List Wanting
joined s h (TakenUp (Asking asker access)) ws = ws ++ record { host = h; upgrade = false; access = access } ∷ []
joined s h (TakenUp (Unlocking access)) ws =
    if s.holds == 1 && s.awaits == 0 then ws ++ record { host = h; upgrade = true; access = 3 } ∷ [] else ws
joined s h (SentDown control (Supplying lock precious bytes)) ws = without_request h ws
joined s h e ws = ws

-- an upgrade leaves where its host no longer holds Read
abbrev pub stays : ℕ → ℕ → Wanting → Bool
stays h holds w = if w.host == h then (if w.upgrade then holds == 1 else true) else true

abbrev pub trimmed_line : ℕ → ℕ → List Wanting → List Wanting
trimmed_line h holds [] = []
trimmed_line h holds (w ∷ ws) = if stays h holds w then w ∷ trimmed_line h holds ws else trimmed_line h holds ws

-- the line of those who want the page, the first in front
abbrev pub line : List Act → List Wanting
line [] = []
line (a ∷ past) =
    trimmed_line a.host (side a.host (a ∷ past)).holds (joined (side a.host past) a.host a.effect (line past))

-- none of them is an upgrade of the host
abbrev pub NoUpgrade : ℕ → List Wanting → Type 0
NoUpgrade h [] = Unit {0}
NoUpgrade h (w ∷ ws) = (w.upgrade ≡ true → w.host ≢ h) × NoUpgrade h ws

-- none of them is a request of the host
abbrev pub NoRequest : ℕ → List Wanting → Type 0
NoRequest h [] = Unit {0}
NoRequest h (w ∷ ws) = (w.upgrade ≡ false → w.host ≢ h) × NoRequest h ws

-- the page's bytes as the stores leave them, zeros at first
abbrev pub current_after : ActEffect → List ℕ → List ℕ
current_after (Stores task at size value) page = with_bytes at (little_endian_bytes size value) page
current_after e page = page

abbrev pub current : ℕ → List Act → List ℕ
current size [] = replicate size 0
current size (a ∷ past) = current_after a.effect (current size past)

-- the server's bytes: those of the last return that it took, zeros where there is none
abbrev pub kept_after : ActEffect → List ℕ → List ℕ
kept_after (TakenUp (Returning dirty keep bytes)) page = bytes
kept_after e page = page

abbrev pub kept : ℕ → List Act → List ℕ
kept size [] = replicate size 0
kept size (a ∷ past) = kept_after a.effect (kept size past)
