-- What is said about a page between a host and a pager, and what an event is to one page on one host.
use Rattle.std.specs.Prelude.{ℕ, List, Bool}

-- what goes up to the pager about a page
pub data SpotUpWord : Type 0 where
  Requesting : SpotUpWord
  Returning : (bytes : List ℕ) → SpotUpWord

-- what comes down
pub data SpotDownWord : Type 0 where
  Supplying : (bytes : List ℕ) → SpotDownWord
  Unavailing : SpotDownWord
  Erring : SpotDownWord

-- what an event does to one place
pub data SpotEffect : Type 0 where
  Creates : SpotEffect
  -- it counts where its control lives
  Requests : (lives : Bool) → SpotEffect
  Returns : (keep : Bool) → (bytes : List ℕ) → SpotEffect
  TakesRequest : SpotEffect
  TakesReturn : (bytes : List ℕ) → SpotEffect
  -- where the pager's files are not told, its answer says what the file has
  Answers : (tells : Bool) → (word : SpotDownWord) → SpotEffect
  Takes : (word : SpotDownWord) → SpotEffect
  Zeroes : SpotEffect
  Raises : (bytes : List ℕ) → SpotEffect
  Stores : (at : ℕ) → (bytes : List ℕ) → SpotEffect
  Drops : SpotEffect
  -- a page of the object below comes up to it
  Moves : (bytes : List ℕ) → (dirty : Bool) → SpotEffect
  Ends : SpotEffect
  StepEnds : SpotEffect
  Nothing : SpotEffect
