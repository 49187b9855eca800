-- A merge that is sustained is a deed that has its cause, on each host.
use Rattle.std.proofs.Common.{ℕ, ◌≡◌, ◌≤◌, List, Bool, true, false, sym, ap, subst, ◌∙◌, arith, Option, Some, None, ⊎_elim, inl, inr}
use Rattle.std.proofs.lemmas.Bool.{cases_lt}
use Rattle.std.proofs.lemmas.Bool.Decides.{nat_tests}
use Rattle.std.specs.Prelude.{◌==◌}
use Rattle.vm_model.specs.declared.event.Event.{Event}
use Rattle.vm_model.specs.declared.script.Header.{Header}
use Rattle.vm_model.specs.Homes.{home_in, home_of, object_home}
use Rattle.vm_model.specs.Local.{is_on}
use Rattle.vm_model.specs.Named.{named}
use Rattle.vm_model.specs.Regions.{backing_of, object_pages, region_of}
use Rattle.vm_legal.proofs.Files.{not_file}
use Rattle.vm_legal.specs.Merges.{IsPair}
use Rattle.vm_legal.specs.Outside.{Outside}
use Rattle.vm_flat.proofs.Causes as C
use Rattle.vm_flat.proofs.Classes.{deeds, ground}
use Rattle.vm_flat.proofs.Deeds as D
use Rattle.vm_flat.proofs.Holds.{Holds, reach}
use Rattle.vm_flat.proofs.Housed.{IsHoused}
use Rattle.vm_flat.proofs.Sustained as S
use Rattle.vm_flat.proofs.Sustained.{control}
use Rattle.vm_flat.proofs.Ties.{control_tie, copy_is, link_is, pages_is, row_is}
use Rattle.vm_flat.proofs.Uses.{in_use}
use Rattle.vm_flat.proofs.Using.{used as in_legal_use, reached as legally}

number_is : (a b : ℕ) → (a == b) ≡ true → a ≡ b
number_is a b is = grind (arith, nat_tests)

itself : (a : ℕ) → (a == a) ≡ true
itself a = grind (arith, nat_tests)

clash : {A : Type 0} (b : Bool) → b ≡ false → b ≡ true → A
clash b isnt is = absurd (cc)

no_host : {A : Type 0} (x : Option ℕ) (h : ℕ) → x ≡ None → x ≡ Some h → A
no_host x h none some = absurd (cc)

-- on their host
-- a region's row is what the history says of it
pub used_at : (header : Header) (outside : Outside) (host : ℕ) (past : List Event) (r : ℕ)
    → (D.row (ground header outside) r (deeds header outside host past)).used ≡ in_use header outside host r past
used_at header outside host past r = ap (λ (w : D.Row). w.used) (row_is header outside host r past)

pub top_at : (header : Header) (outside : Outside) (host : ℕ) (past : List Event) (r : ℕ)
    → (D.row (ground header outside) r (deeds header outside host past)).top ≡ (region_of header r past).top
top_at header outside host past r = ap (λ (w : D.Row). w.top) (row_is header outside host r past)

merge_pair : (header : Header) (outside : Outside) (host upper lower : ℕ) (past : List Event) → Holds header outside past
    → IsPair header host upper lower past → control header host upper past ≡ 0 → control header host lower past ≡ 0
    → C.Pair (ground header outside) upper lower (deeds header outside host past)
merge_pair header outside host upper lower past h pair upper_none lower_none =
    record {
      no_top = λ r used same. ⊎_elim
          (λ less. absurd (omega (arith, h.numbered.declared_top r less, less, pair.temporary, sym (top_at header outside host past r) ∙ same)))
          (λ later. pair.no_top r later (in_legal_use header outside host r past (sym (used_at header outside host past r) ∙ used))
          (sym (top_at header outside host past r) ∙ same))
          (cases_lt r (named header));
      sole = λ v reached backed under. pair.sole v (legally header outside host v past (reach header outside host v past reached))
          (sym (ap (λ (x : D.Link). x.backed) (link_is header outside host v past)) ∙ backed)
          (sym (ap (λ (x : D.Link). x.under) (link_is header outside host v past)) ∙ under);
      upper_never = control_tie header outside host upper past ∙ upper_none;
      lower_never = control_tie header outside host lower past ∙ lower_none;
    }

pub merge_cause : (header : Header) (outside : Outside) (host upper lower : ℕ) (past : List Event) → Holds header outside past
    → S.Merges header upper lower past
    → C.Joins (ground header outside) (is_on host (object_home upper past)) upper lower (backing_of header upper past).shift (object_pages header upper past)
    (object_pages header lower past) (deeds header outside host past)
merge_cause header outside host upper lower past h c =
    record {
      backed = ap (λ (x : D.Link). x.backed) (link_is header outside host upper past) ∙ c.pair.backed;
      under = ap (λ (x : D.Link). x.under) (link_is header outside host upper past) ∙ c.pair.under;
      shift_is = ap (λ (x : D.Link). x.shift) (link_is header outside host upper past);
      upper_pages_is = pages_is header outside host upper past;
      lower_pages_is = pages_is header outside host lower past;
      upper_plain = not_file header upper later;
      lower_plain = not_file header lower c.pair.temporary;
      no_copy = copy_is header outside host lower past ∙ c.pair.plain;
      pair = λ own. merge_pair header outside host upper lower past h (subst (λ (g : ℕ). IsPair header g upper lower past) (on own) c.pair)
          (subst (λ (g : ℕ). control header g upper past ≡ 0) (on own) c.upper_none) (subst (λ (g : ℕ). control header g lower past ≡ 0) (on own) c.lower_none);
      foreign = foreign;
    }
  where
    later : named header ≤ upper
    later = h.numbered.upper upper c.pair.backed

    on : is_on host (object_home upper past) ≡ true → c.host ≡ host
    on own = number_is c.host host (sym (ap (is_on host) c.home) ∙ own)

    -- what is reached is at home
    foreign : is_on host (object_home upper past) ≡ false → C.Reach (ground header outside) upper (deeds header outside host past) → ⊥
    foreign away reached =
        let s : S.Reach header outside host upper past = reach header outside host upper past reached in
        by s.0 (h.housed.reached host s.0 s.1 upper s.2 s.3 later)
      where
        by : (r : ℕ) → IsHoused host r upper past → ⊥
        by r (inl fresh) = no_host (object_home upper past) c.host (ap (home_in (λ k. home_of k past)) fresh.1 ∙ fresh.0) c.home
        by r (inr home) = clash (is_on host (object_home upper past)) away (ap (is_on host) home ∙ itself host)
