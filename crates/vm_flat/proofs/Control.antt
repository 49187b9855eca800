-- All places of an object have its control.
use Rattle.std.proofs.Common.{◌≡◌, ℕ, List, [], ◌∷◌, Bool, true, false, refl, if◌then◌else◌, ◌∙◌, ap}
use Rattle.std.specs.Prelude.{◌==◌, ◌&&◌, ◌+◌}
use Rattle.vm_flat.specs.Words.{SpotEffect, Creates, Requests, Returns, TakesRequest, TakesReturn, Answers, Takes, Zeroes, Raises, Stores, Drops, Ends}
use Rattle.vm_flat.specs.Words.{StepEnds, Nothing}
use Rattle.vm_flat.specs.Spot.{spot_after}
use Rattle.vm_flat.proofs.Deeds.{Ground, is_file, Deed, Line, Region, Cow, Kept, Shadowed, Unmarked, Zeroed, Raised, Stored, Dropped, Created, Asked, Copied}
use Rattle.vm_flat.proofs.Deeds.{Delayed, Returned}
use Rattle.vm_flat.proofs.Deeds.{Merged, TookRequest, TookReturn, Answered, Took, Terminated, Elsewhere, spot, control}
use Rattle.vm_flat.proofs.MergeEffects.{merged_case}
use Rattle.vm_flat.proofs.Good.{takes_control}
use Rattle.vm_flat.proofs.World.{each_place}
use Rattle.vm_flat.proofs.File.{file_is}

same : (z : Ground) (o p : ℕ) (own : Bool) (k q : ℕ) (mine other : SpotEffect) (past : List Deed)
    → (spot_after z.zeros (spot z k q past) mine).control ≡ control z k past
    → ((o p : ℕ) → (spot_after z.zeros (spot z o p past) other).control ≡ control z o past)
    → (spot_after z.zeros (spot z o p past) (if own && (k == o && q == p) then mine else other)).control ≡ control z o past
same z o p own k q mine other past at rest =
    each_place (λ o p e. (spot_after z.zeros (spot z o p past) e).control ≡ control z o past) k q own mine other (λ is. at) rest o p

object_is : (z : Ground) (o p n : ℕ) (mine : SpotEffect) (past : List Deed) (b : Bool) → (spot z o p past).control ≡ control z o past
    → (spot_after z.zeros (spot z o p past) mine).control ≡ n
    → (spot_after z.zeros (spot z o p past) (if b then mine else Nothing)).control ≡ (if b then n else control z o past)
object_is z o p n mine past true was is = is
object_is z o p n mine past false was is = was

pub control_is : (z : Ground) (o p : ℕ) (past : List Deed) → (spot z o p past).control ≡ control z o past
control_is z o p [] = refl
control_is z o p (Copied own x y l lp a i k q ∷ past) =
    same z o p own k q (Raises (spot z l lp past).bytes) Nothing past (control_is z k q past) (λ o p. control_is z o p past)
control_is z o p (Line ∷ past) = control_is z o p past
control_is z o p (Region own region object count ∷ past) = control_is z o p past
control_is z o p (Cow region source off count ∷ past) = control_is z o p past
control_is z o p (Delayed tells region source off count copy ∷ past) = control_is z o p past
control_is z o p (Kept held ∷ past) = control_is z o p past
control_is z o p (Shadowed region new ∷ past) = control_is z o p past
control_is z o p (Unmarked region ∷ past) = control_is z o p past
control_is z o p (Merged own upper lower shift upper_pages lower_pages ∷ past) =
    merged_case (λ e. (spot_after z.zeros (spot z o p past) e).control ≡ (spot z o p past).control) own o p upper lower shift upper_pages lower_pages
    (spot z o p past) (spot z lower (shift + p) past) (λ bytes dirty. refl) refl refl ∙ control_is z o p past
control_is z o p (Elsewhere ∷ past) = control_is z o p past
control_is z o p (Zeroed own k q ∷ past) = same z o p own k q Zeroes Nothing past (control_is z k q past) (λ o p. control_is z o p past)
control_is z o p (Raised own l lp k q ∷ past) =
    same z o p own k q (Raises (spot z l lp past).bytes) Nothing past (control_is z k q past) (λ o p. control_is z o p past)
control_is z o p (Stored own r i k q at bytes ∷ past) = same z o p own k q (Stores at bytes) Nothing past (control_is z k q past) (λ o p. control_is z o p past)
control_is z o p (Dropped own k q ∷ past) = same z o p own k q Drops Nothing past (control_is z k q past) (λ o p. control_is z o p past)
control_is z o p (Asked own lives k q ∷ past) = same z o p own k q (Requests lives) Nothing past (control_is z k q past) (λ o p. control_is z o p past)
control_is z o p (Returned own k q keep bytes ∷ past) =
    same z o p own k q (Returns keep bytes) Nothing past (control_is z k q past) (λ o p. control_is z o p past)
control_is z o p (TookRequest own k q ∷ past) = same z o p own k q TakesRequest StepEnds past (control_is z k q past) (λ o p. control_is z o p past)
control_is z o p (TookReturn own k q bytes ∷ past) = same z o p own k q (TakesReturn bytes) StepEnds past (control_is z k q past) (λ o p. control_is z o p past)
control_is z o p (Answered own tells k q word ∷ past) =
    same z o p own k q (Answers tells word) Nothing past (control_is z k q past) (λ o p. control_is z o p past)
control_is z o p (Took own k q word ∷ past) =
    same z o p own k q (Takes word) StepEnds past (takes_control z.zeros (spot z k q past) word ∙ control_is z k q past) (λ o p. control_is z o p past)
control_is z o p (Created own k ∷ past) = object_is z o p 1 Creates past (own && k == o) (control_is z o p past) refl
control_is z o p (Terminated own k ∷ past) =
    object_is z o p (if is_file z o then 0 else 2) Ends past (own && k == o) (control_is z o p past)
    (ap (λ (b : Bool). if b then 0 else 2) (file_is z o p past))
