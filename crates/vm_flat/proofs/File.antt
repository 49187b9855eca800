-- All places of a file object are pages of a file.
use Rattle.std.proofs.Common.{◌≡◌, ℕ, List, [], ◌∷◌, refl, ◌∙◌}
use Rattle.vm_flat.specs.Words.{SpotDownWord, Supplying, Unavailing, Erring, SpotEffect, Creates, Requests, Returns, TakesRequest, TakesReturn, Answers, Takes}
use Rattle.vm_flat.specs.Words.{Zeroes, Raises, Stores, Drops, Moves, Ends, StepEnds, Nothing}
use Rattle.vm_flat.specs.Spot.{Spot, spot_after}
use Rattle.vm_flat.proofs.Deeds.{Ground, is_file, Deed, spot, effect}

takes_file : (z : List ℕ) (s : Spot) (word : SpotDownWord) → (spot_after z s (Takes word)).file ≡ s.file
takes_file z s (Supplying bytes) = refl
takes_file z s Unavailing = refl
takes_file z s Erring = refl

move_file : (z : List ℕ) (s : Spot) (e : SpotEffect) → (spot_after z s e).file ≡ s.file
move_file z s (Takes word) = takes_file z s word
move_file z s Creates = refl
move_file z s (Requests lives) = refl
move_file z s (Returns keep bytes) = refl
move_file z s TakesRequest = refl
move_file z s (TakesReturn bytes) = refl
move_file z s (Answers tells word) = refl
move_file z s Zeroes = refl
move_file z s (Raises bytes) = refl
move_file z s (Stores at bytes) = refl
move_file z s Drops = refl
move_file z s (Moves bytes dirty) = refl
move_file z s Ends = refl
move_file z s StepEnds = refl
move_file z s Nothing = refl

pub file_is : (z : Ground) (o p : ℕ) (past : List Deed) → (spot z o p past).file ≡ is_file z o
file_is z o p [] = refl
file_is z o p (e ∷ past) = move_file z.zeros (spot z o p past) (effect o p e (λ k q. spot z k q past)) ∙ file_is z o p past
