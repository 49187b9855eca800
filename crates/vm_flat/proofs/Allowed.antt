-- What a place itself must say for an effect, and what it has to show.
use Rattle.std.specs.Prelude.{ℕ, ◌&&◌, ◌≡◌, List, true, false, if◌then◌else◌, Option, Some, None}
use Rattle.vm_flat.specs.Words.{Requesting, Returning, SpotDownWord, Supplying, Unavailing, Erring, SpotEffect, Creates, Requests, Returns, TakesRequest}
use Rattle.vm_flat.specs.Words.{TakesReturn, Answers, Takes, Zeroes, Raises, Stores, Drops, Moves, Ends, StepEnds, Nothing}
use Rattle.vm_model.specs.Server.{first}
use Rattle.vm_flat.specs.Spot.{Spot}

-- the walk passes over the place
pub record Passed (s : Spot) : Type 0 where
  pub away : s.here ≡ false
  pub plain : s.file ≡ false
  pub unasked : s.asked ≡ false
  pub without : s.control ≡ 1 → s.absent ≡ true

-- what the place itself must say for the effect
abbrev pub MayAnswer : List ℕ → Spot → SpotDownWord → Type 0
MayAnswer z s (Supplying bytes) = (s.step ≡ true) × (s.kept ≡ Some bytes)
MayAnswer z s Unavailing = (s.step ≡ true) × (s.kept ≡ (if s.file then Some z else None))
MayAnswer z s Erring = s.step ≡ true

abbrev pub May : List ℕ → Spot → SpotEffect → Type 0
May z s Creates = s.control ≡ 0
May z s (Requests lives) = (s.control ≡ 1) × (s.here ≡ false) × (s.asked ≡ false) × (s.absent ≡ false) × (lives ≡ true)
May z s (Returns keep bytes) = (s.control ≡ 1) × (s.here ≡ true) × (s.dirty ≡ true) × (bytes ≡ s.bytes)
May z s TakesRequest = first s.up ≡ Some Requesting
May z s (TakesReturn bytes) = first s.up ≡ Some (Returning bytes)
May z s (Answers true word) = (s.step ≡ true) × (s.file ≡ true)
May z s (Answers false word) = MayAnswer z s word
May z s (Takes word) = first s.down ≡ Some word
May z s Zeroes = (s.here ≡ false) × (s.asked ≡ false)
May z s (Raises bytes) = (s.here ≡ false) × (s.asked ≡ false) × (s.file ≡ false)
May z s (Stores at bytes) = s.here ≡ true
May z s Drops = s.here ≡ true
May z s (Moves bytes dirty) = (s.here ≡ false) × (s.asked ≡ false) × (s.returned ≡ None) × (dirty ≡ false → bytes ≡ z)
May z s Ends = (s.control ≡ 1) × (s.here ≡ false) × (s.asked ≡ false)
May z s StepEnds = Unit {0}
May z s Nothing = Unit {0}

-- what the place has to show below which the walk need not look: unsaved bytes, else the last return that was sent
abbrev pub content : Spot → Option (List ℕ)
content s = if s.here && s.dirty then Some s.bytes else s.returned
