-- The places of a host that take a frame.
use Rattle.std.specs.Prelude.{ℕ, suc, ◌+◌, ◌<◌, ◌≡◌, ◌==◌, ◌&&◌, ◌||◌, Bool, true, false, List, [], ◌∷◌, length, if◌then◌else◌}
use Rattle.vm_model.specs.declared.event.Event.{Event}
use Rattle.vm_model.specs.declared.script.Header.{Header}
use Rattle.vm_model.specs.Local.{Local, Place}
use Rattle.vm_model.specs.Named.{named}
use Rattle.vm_legal.specs.Frames.{frames_held, returns_out}
use Rattle.vm_legal.specs.Outside.{is_file}
use Rattle.vm_legal.specs.Walks.{page_on}

-- each declared object is a file
abbrev pub AllPaged : Header → Type 0
AllPaged header = (o : ℕ) → o < named header → is_file header o ≡ true

-- the page is here, or it is asked
abbrev pub has_frame : Local → Bool
has_frame page = page.here || page.asked

-- how often a place stands among others
abbrev pub times : ℕ → ℕ → List Place → ℕ
times o p [] = 0
times o p (place ∷ places) = if place.object == o && place.page == p then suc (times o p places) else times o p places

-- The frames that a host holds are those of its places with a frame, each counted once, and those of its returns that were not taken yet.
pub record FramesAreCounted (header : Header) (host : ℕ) (past : List Event) : Type 0 where
  pub places : List Place
  pub each : (o p : ℕ) → has_frame (page_on header host o p past) ≡ true → times o p places ≡ 1
  pub only : (o p : ℕ) → has_frame (page_on header host o p past) ≡ false → times o p places ≡ 0
  pub count : length places + returns_out host past ≡ frames_held header host past
