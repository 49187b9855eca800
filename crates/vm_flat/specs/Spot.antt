-- One place: the page on the host, what is on the way, and what the pager has.
use Rattle.std.specs.Prelude.{not, nat_lt, ℕ, ◌+◌, ◌==◌, List, [], ◌∷◌, ◌++◌, Bool, true, false, if◌then◌else◌, ◌&&◌, Option, Some, None}
use Rattle.vm_base.specs.Pages.{with_bytes}
use Rattle.vm_model.specs.Side.{rest}
use Rattle.vm_flat.specs.Words.{SpotUpWord, Requesting, Returning, SpotDownWord, Supplying, Unavailing, Erring, SpotEffect, Creates, Requests, Returns}
use Rattle.vm_flat.specs.Words.{TakesRequest, TakesReturn, Answers, Takes, Zeroes, Raises, Stores, Drops, Moves, Ends, StepEnds, Nothing}

pub record Spot : Type 0 where
  -- what is on the way about the page, oldest first
  pub up : List SpotUpWord
  pub down : List SpotDownWord
  -- the object's control: 0 never made, 1 live, 2 ended
  pub control : ℕ
  pub here : Bool
  pub bytes : List ℕ
  pub dirty : Bool
  pub asked : Bool
  pub absent : Bool
  -- the last return that was sent, and the last that was taken
  pub returned : Option (List ℕ)
  pub kept : Option (List ℕ)
  -- the step began with the page's request, and has not answered it
  pub step : Bool
  -- the page of a file object
  pub file : Bool
  -- the step began with the file pager's word that there is nothing
  pub void : Bool

abbrev pub first_spot : Bool → List ℕ → Spot
first_spot file bytes =
    record {
      up = [];
      down = [];
      control = 0;
      here = false;
      bytes = [];
      dirty = false;
      asked = false;
      absent = false;
      returned = if file then Some bytes else None;
      kept = if file then Some bytes else None;
      step = false;
      file = file;
      void = false;
    }

-- what an answer says that the pager has
abbrev pub answer_content : List ℕ → SpotDownWord → Option (List ℕ) → Option (List ℕ)
answer_content z (Supplying bytes) was = Some bytes
answer_content z Unavailing was = Some z
answer_content z Erring was = was

-- an answer counts where the live control asked
abbrev pub hears : Spot → Bool
hears s = s.control == 1 && s.asked

abbrev pub spot_after_taking : Spot → SpotDownWord → Bool → Spot
spot_after_taking s (Supplying bytes) b =
    record s {
      down = rest s.down;
      here = if b then true else s.here;
      bytes = if b then bytes else s.bytes;
      dirty = if b then false else s.dirty;
      asked = if b then false else s.asked;
      step = false;
      void = false;
    }
spot_after_taking s Unavailing b =
    record s { down = rest s.down; absent = if b && not s.file then true else s.absent; asked = if b then false else s.asked; step = false; void = b && s.file }
spot_after_taking s Erring b = record s { down = rest s.down; asked = if b then false else s.asked; step = false; void = false }

abbrev pub spot_after : List ℕ → Spot → SpotEffect → Spot
spot_after z s Creates = record s { control = 1; asked = false }
spot_after z s (Requests lives) = record s { up = s.up ++ Requesting ∷ []; asked = if lives then true else s.asked }
spot_after z s (Returns keep bytes) =
    record s {
      up = s.up ++ Returning bytes ∷ [];
      here = keep && s.here;
      bytes = if keep then s.bytes else [];
      dirty = false;
      absent = false;
      returned = Some bytes;
    }
spot_after z s TakesRequest = record s { up = rest s.up; step = true; void = false }
spot_after z s (TakesReturn bytes) = record s { up = rest s.up; kept = Some bytes; step = false; void = false }
spot_after z s (Answers tells word) =
    record s {
      down = s.down ++ word ∷ [];
      step = false;
      returned = if tells then answer_content z word s.returned else s.returned;
      kept = if tells then answer_content z word s.kept else s.kept;
      void = if tells then false else s.void;
    }
spot_after z s (Takes word) = spot_after_taking s word (hears s)
spot_after z s Zeroes = record s { here = true; bytes = z; dirty = false; void = false }
spot_after z s (Raises bytes) = record s { here = true; bytes = bytes; dirty = true }
spot_after z s (Stores at bytes) = record s { bytes = with_bytes at bytes s.bytes; dirty = true }
spot_after z s Drops = record s { here = false; bytes = []; dirty = false }
spot_after z s (Moves bytes dirty) = record s { here = true; bytes = bytes; dirty = dirty }
spot_after z s Ends = record s { control = if s.file then 0 else 2; asked = false }
spot_after z s StepEnds = record s { step = false; void = false }
spot_after z s Nothing = s

-- What a merge of two objects is to page p of o. `above` is that place, and `below` the lower's page under it: it moves up where only it is here.
abbrev pub merged_effect : ℕ → ℕ → ℕ → ℕ → ℕ → ℕ → ℕ → Spot → Spot → SpotEffect
merged_effect o p upper lower shift upper_pages lower_pages above below =
    if o == upper
    then
    if nat_lt p upper_pages && (nat_lt (shift + p) lower_pages && (below.here && not above.here)) then Moves below.bytes below.dirty else Nothing
    else if o == lower && nat_lt p lower_pages then Drops else Nothing
