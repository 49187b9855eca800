-- The regions that the law counts are in use, and of private regions it counts all that are.
use Rattle.std.proofs.Common.{ℕ, ◌≡◌, List, [], ◌∷◌, Bool, true, false, refl, subst, ◌∙◌, Some, arith, if◌then◌else◌}
use Rattle.std.proofs.lemmas.Bool.Decides.{nat_tests}
use Rattle.std.specs.Prelude.{◌==◌, ◌&&◌, ◌||◌, not}
use Rattle.vm_model.specs.declared.command.Command.{Command}
use Rattle.vm_model.specs.declared.event.Event.{Event}
use Rattle.vm_model.specs.declared.event.Event.TheVariants as event
use Rattle.vm_model.specs.declared.script.Header.{Header}
use Rattle.vm_model.specs.Moments.{EachEvent}
use Rattle.vm_model.specs.Regions.{comes_from}
use Rattle.vm_legal.specs.Licences.{Caused, HasCause}
use Rattle.vm_legal.specs.Living.{lives_on}
use Rattle.vm_legal.specs.Outside.{Outside, is_from_told, is_private, is_private_from}
use Rattle.vm_legal.specs.Used as V
use Rattle.vm_legal.specs.Used.{is_kept, made_here}
use Rattle.vm_legal.specs.Walks as W
use Rattle.vm_flat.proofs.Covers.{file_covered, later_alike, later_both, later_told}
use Rattle.vm_flat.proofs.Sustained as S
use Rattle.vm_flat.proofs.Uses as U
use Rattle.vm_legal.proofs.Numbering.{named_regions}

-- what follows from a cause, whatever the command
pub by_cause : {R : Type 0} (header : Header) (outside : Outside) (e : Event) (past : List Event) → HasCause header outside e past
    → ((doing : Command) → Caused header outside doing e past → R) → R
by_cause header outside e past (doing, c) so = so doing c

weaker_if : (b x y u v : Bool) → (b ≡ true → x ≡ true → u ≡ true) → (y ≡ true → v ≡ true) → (if b then x else y) ≡ true → (if b then u else v) ≡ true
weaker_if true x y u v one two is = one refl is
weaker_if false x y u v one two is = two is

weaker_cases : (b x y u v : Bool) → (b ≡ true → x ≡ true → u ≡ true) → (b ≡ false → y ≡ true → v ≡ true) → (if b then x else y) ≡ true
    → (if b then u else v) ≡ true
weaker_cases true x y u v one two is = one refl is
weaker_cases false x y u v one two is = two refl is

weaker_and : (b y v : Bool) → (y ≡ true → v ≡ true) → (b && y) ≡ true → (b && v) ≡ true
weaker_and true y v two is = two is
weaker_and false y v two is = is

first : (a b : Bool) → (a && b) ≡ true → a ≡ true
first true b is = refl
first false b is = is

also : (a b : Bool) → b ≡ true → a ≡ true → (a && b) ≡ true
also true b is own = is
also false b is own = own

number_is : (a b : ℕ) → (a == b) ≡ true → a ≡ b
number_is a b is = grind (arith, nat_tests)

pub used : (header : Header) (outside : Outside) (host r : ℕ) (past : List Event) → U.in_use header outside host r past ≡ true
    → V.in_use header host r past ≡ true
used header outside host r [] is = is
used header outside host r (event.RegionMade new object pages ∷ past) is =
    weaker_if (r == new.0) (made_here host past && outside.paging) (U.in_use header outside host r past) (made_here host past) (V.in_use header host r past)
    (λ same here. first (made_here host past) outside.paging here) (used header outside host r past) is
used header outside host r (event.RegionCopied new source offset pages ∷ past) is =
    weaker_if (r == new.0) (U.in_use header outside host source.0 past) (U.in_use header outside host r past) (V.in_use header host source.0 past)
    (V.in_use header host r past) (λ same. used header outside host source.0 past) (used header outside host r past) is
used header outside host r (event.Delayed new source offset pages copy ∷ past) is =
    weaker_if (r == new.0) (U.in_use header outside host source.0 past && told) (U.in_use header outside host r past) (V.in_use header host source.0 past)
    (V.in_use header host r past) (λ same here. used header outside host source.0 past (first (U.in_use header outside host source.0 past) told here))
    (used header outside host r past) is
  where
    told : Bool
    told = outside.paging && is_from_told header outside (Some source.0)
used header outside host r (event.Entered task address bytes entered offset prot inherit ∷ past) is =
    weaker_and (not (r == entered.0) || lives_on host task.0 past) _ _ (used header outside host r past) is
used header outside host r (event.Removed task address bytes ∷ past) is =
    weaker_and (is_kept header r (event.Removed task address bytes ∷ past)) _ _ (used header outside host r past) is
used header outside host r (event.TaskEnded task ∷ past) is =
    weaker_and (is_kept header r (event.TaskEnded task ∷ past)) _ _ (used header outside host r past) is
used header outside host r (event.Failed task object page ∷ past) is =
    weaker_and (is_kept header r (event.Failed task object page ∷ past)) _ _ (used header outside host r past) is
used header outside host r (e ∷ past) is = used header outside host r past is

pub reached : (header : Header) (outside : Outside) (host object : ℕ) (past : List Event) → S.Reach header outside host object past
    → W.Reach header host object past
reached header outside host object past (r, n, is, below) = (r, n, used header outside host r past is, below)

pub counted : (header : Header) (outside : Outside) (host r : ℕ) (past : List Event) → EachEvent (HasCause header outside) past
    → is_private header outside r past ≡ true → V.in_use header host r past ≡ true → U.in_use header outside host r past ≡ true
counted header outside host r [] caused ours is = is
counted header outside host r (event.RegionMade new object pages ∷ past) caused ours is =
    weaker_if (r == new.0) (made_here host past) (V.in_use header host r past) (made_here host past && outside.paging) (U.in_use header outside host r past)
    (λ same here. also (made_here host past) outside.paging (told same) here) (counted header outside host r past caused.1 ours) is
  where
    told : (r == new.0) ≡ true → outside.paging ≡ true
    told same =
        by_cause header outside (event.RegionMade new object pages) past caused.0
        (λ doing c. later_told header outside r (comes_from r past) (omega (arith, number_is r new.0 same, c.0, named_regions header past)) ours)
counted header outside host r (event.RegionCopied new source offset pages ∷ past) caused ours is =
    weaker_cases (r == new.0) (V.in_use header host source.0 past) (V.in_use header host r past) (U.in_use header outside host source.0 past)
    (U.in_use header outside host r past) (λ same. counted header outside host source.0 past caused.1 (told same))
    (λ other. counted header outside host r past caused.1 (subst (λ (b : Bool). is_private_from header outside r (if b then comes_from source.0 past else
    comes_from r past) ≡ true) other ours)) is
  where
    told : (r == new.0) ≡ true → is_private header outside source.0 past ≡ true
    told same =
        by_cause header outside (event.RegionCopied new source offset pages) past caused.0
        (λ doing c. later_alike header outside source.0 r (comes_from source.0 past) (comes_from source.0 past) c.temporary
        (omega (arith, number_is r new.0 same, c.next, named_regions header past)) refl
        ∙ subst (λ (b : Bool). is_private_from header outside r (if b then comes_from source.0 past else comes_from r past) ≡ true) same ours)
counted header outside host r (event.Delayed new source offset pages copy ∷ past) caused ours is =
    weaker_cases (r == new.0) (V.in_use header host source.0 past) (V.in_use header host r past) (U.in_use header outside host source.0 past && told)
    (U.in_use header outside host r past)
    (λ same used. also (U.in_use header outside host source.0 past) told (tells same) (counted header outside host source.0 past caused.1 file used))
    (λ other. counted header outside host r past caused.1 (subst (λ (b : Bool). is_private_from header outside r (if b then Some source.0 else
    comes_from r past) ≡ true) other ours)) is
  where
    told : Bool
    told = outside.paging && is_from_told header outside (Some source.0)

    file : is_private header outside source.0 past ≡ true
    file =
        by_cause header outside (event.Delayed new source offset pages copy) past caused.0
        (λ doing c. file_covered header outside source.0 (comes_from source.0 past) c.file)

    tells : (r == new.0) ≡ true → told ≡ true
    tells same =
        by_cause header outside (event.Delayed new source offset pages copy) past caused.0
        (λ doing c. let b = later_both header outside r (Some source.0) (omega (arith, number_is r new.0 same, c.next, named_regions header past))
        (subst (λ (b : Bool). is_private_from header outside r (if b then Some source.0 else comes_from r past) ≡ true) same ours) in
        also outside.paging (is_from_told header outside (Some source.0)) b.1 b.0)
counted header outside host r (event.Entered task address bytes entered offset prot inherit ∷ past) caused ours is =
    weaker_and (not (r == entered.0) || lives_on host task.0 past) _ _ (counted header outside host r past caused.1 ours) is
counted header outside host r (event.Removed task address bytes ∷ past) caused ours is =
    weaker_and (is_kept header r (event.Removed task address bytes ∷ past)) _ _ (counted header outside host r past caused.1 ours) is
counted header outside host r (event.TaskEnded task ∷ past) caused ours is =
    weaker_and (is_kept header r (event.TaskEnded task ∷ past)) _ _ (counted header outside host r past caused.1 ours) is
counted header outside host r (event.Failed task object page ∷ past) caused ours is =
    weaker_and (is_kept header r (event.Failed task object page ∷ past)) _ _ (counted header outside host r past caused.1 ours) is
counted header outside host r (e ∷ past) caused ours is = counted header outside host r past caused.1 ours is
