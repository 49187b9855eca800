-- Which numbers regions and objects have: the declared ones stay as they are, and nothing stands on a declared object.
use Rattle.std.proofs.Common.{ℕ, ◌≡◌, ◌≢◌, ◌+◌, ◌<◌, ◌≤◌, List, [], ◌∷◌, Bool, true, false, refl, sym, ◌∙◌, arith, if◌then◌else◌, Option, Some, None}
use Rattle.std.proofs.lemmas.Bool.Decides.{nat_tests}
use Rattle.std.specs.Prelude.{◌==◌, ◌||◌, nat_lt}
use native.Mathlib.Decide.{ℕ_discrete}
use Rattle.vm_base.specs.declared.ids.RegionId.{RegionId}
use Rattle.vm_base.specs.declared.ids.ObjectId.{ObjectId}
use Rattle.vm_model.specs.declared.event.Event.{Event}
use Rattle.vm_model.specs.declared.event.Event.TheVariants as event
use Rattle.vm_model.specs.declared.script.Header.{Header}
use Rattle.vm_model.specs.Named.{named}
use Rattle.vm_model.specs.Regions.{next_region, next_object, Region, region_of, Backing, backing_of, is_copy, is_newest, newest_copy}
use Rattle.vm_flat.proofs.Regions.{if_no, if_yes}

pub record Numbered (first : ℕ) (regions : ℕ → Region) (backings : ℕ → Backing) (newests : ℕ → Option ℕ) (copies : ℕ → Bool)
    (next_region next_object : ℕ) : Type 0 where
  pub later_regions : first ≤ next_region
  pub later_objects : first ≤ next_object
  pub declared_top : (r : ℕ) → r < first → (regions r).top ≡ r
  pub declared_shift : (r : ℕ) → r < first → (regions r).shift ≡ 0
  pub declared_mark : (r : ℕ) → r < first → (regions r).mark ≡ false
  pub temporary : (r : ℕ) → first ≤ r → r < next_region → first ≤ (regions r).top
  pub upper : (o : ℕ) → (backings o).backed ≡ true → first ≤ o
  pub newest : (f v : ℕ) → newests f ≡ Some v → first ≤ v
  pub copied : (o : ℕ) → copies o ≡ true → o < next_object

abbrev pub NumberedAt : Header → List Event → Type 0
NumberedAt header past =
    Numbered (named header) (λ r. region_of header r past) (λ o. backing_of header o past) (λ f. newest_copy f past)
    (λ o. is_copy o past) (next_region header past) (next_object header past)

pub numbered_start : (header : Header) → NumberedAt header []
numbered_start header =
    record {
      later_regions = omega arith;
      later_objects = omega arith;
      declared_top = λ r less. refl;
      declared_shift = λ r less. refl;
      declared_mark = λ r less. refl;
      temporary = λ r above below. above;
      upper = λ o backed. absurd (cc);
      newest = λ f v is. absurd (cc);
      copied = λ o is. absurd (cc);
    }

pub numbered_region_made : (header : Header) (region : RegionId) (object : ObjectId) (pages : ℕ) (past : List Event) → NumberedAt header past
    → region.0 ≡ next_region header past → object.0 ≡ next_object header past → NumberedAt header (event.RegionMade region object pages ∷ past)
numbered_region_made header region object pages past n is new =
    record {
      later_regions = omega (arith, n.later_regions);
      later_objects = omega (arith, n.later_objects);
      declared_top = λ r less. if_no r region.0 object.0 (region_of header r past).top (apart r less) ∙ n.declared_top r less;
      declared_shift = λ r less. if_no r region.0 0 (region_of header r past).shift (apart r less) ∙ n.declared_shift r less;
      declared_mark = λ r less. if_no r region.0 false (region_of header r past).mark (apart r less) ∙ n.declared_mark r less;
      temporary = λ r above below. elim (ℕ_discrete r region.0) [
        | yes e ↦ omega (arith, if_yes r region.0 object.0 (region_of header r past).top e, new, n.later_objects)
        | no other ↦ omega (arith, if_no r region.0 object.0 (region_of header r past).top other, n.temporary r above (omega (arith, below, other, is)))
      ];
      upper = n.upper;
      newest = n.newest;
      copied = λ o is. omega (arith, n.copied o is);
    }
  where
    apart : (r : ℕ) → r < named header → r ≢ region.0
    apart r less e = omega (arith, less, e, is, n.later_regions)

pub numbered_region_copied : (header : Header) (region source : RegionId) (offset pages : ℕ) (past : List Event) → NumberedAt header past
    → region.0 ≡ next_region header past → named header ≤ source.0 → source.0 < next_region header past
    → NumberedAt header (event.RegionCopied region source offset pages ∷ past)
numbered_region_copied header region source offset pages past n is temporary made =
    record {
      later_regions = omega (arith, n.later_regions);
      later_objects = n.later_objects;
      declared_top = λ r less. if_no r region.0 (region_of header source.0 past).top (region_of header r past).top (apart r less) ∙ n.declared_top r less;
      declared_shift =
          λ r less. if_no r region.0 ((region_of header source.0 past).shift + offset) (region_of header r past).shift (apart r less) ∙ n.declared_shift r less;
      declared_mark = λ r less.
          if_no r region.0 true (if r == source.0 then true else (region_of header r past).mark) (apart r less)
          ∙ if_no r source.0 true (region_of header r past).mark (λ e. omega (arith, less, e, temporary)) ∙ n.declared_mark r less;
      temporary = λ r above below. elim (ℕ_discrete r region.0) [
        | yes e ↦ omega (arith, if_yes r region.0 (region_of header source.0 past).top (region_of header r past).top e, n.temporary source.0 temporary made)
        | no other ↦ omega (
          arith,
          if_no r region.0 (region_of header source.0 past).top (region_of header r past).top other,
          n.temporary r above (omega (arith, below, other, is)),
        )
      ];
      upper = n.upper;
      newest = n.newest;
      copied = λ o is. omega (arith, n.copied o is);
    }
  where
    apart : (r : ℕ) → r < named header → r ≢ region.0
    apart r less e = omega (arith, less, e, is, n.later_regions)

-- a region with the mark is no declared one
pub marked_later : (header : Header) (r : ℕ) (past : List Event) → NumberedAt header past → (region_of header r past).mark ≡ true → named header ≤ r
marked_later header r past n marked = by_test (nat_lt r (named header)) refl
  where
    clash : (b : Bool) → b ≡ false → b ≡ true → ⊥
    clash b isnt is = cc

    by_test : (b : Bool) → nat_lt r (named header) ≡ b → named header ≤ r
    by_test true is = absurd (clash (region_of header r past).mark (n.declared_mark r (grind (arith, nat_tests))) marked)
    by_test false is = grind (arith, nat_tests)

pub numbered_unmarked : (header : Header) (region : RegionId) (past : List Event) → NumberedAt header past → NumberedAt header (event.Unmarked region ∷ past)
numbered_unmarked header region past n =
    record {
      later_regions = n.later_regions;
      later_objects = n.later_objects;
      declared_top = n.declared_top;
      declared_shift = n.declared_shift;
      declared_mark = λ r less. plain (r == region.0) (region_of header r past).mark (n.declared_mark r less);
      temporary = n.temporary;
      upper = n.upper;
      newest = n.newest;
      copied = λ o is. omega (arith, n.copied o is);
    }
  where
    plain : (b mark : Bool) → mark ≡ false → (if b then false else mark) ≡ false
    plain true mark is = refl
    plain false mark is = is

pub numbered_shadowed : (header : Header) (region : RegionId) (new old : ObjectId) (past : List Event) → NumberedAt header past
    → new.0 ≡ next_object header past → (region_of header region.0 past).mark ≡ true → region.0 < next_region header past
    → NumberedAt header (event.Shadowed region new old ∷ past)
numbered_shadowed header region new old past n is marked made =
    record {
      later_regions = n.later_regions;
      later_objects = omega (arith, n.later_objects);
      declared_top = λ r less. if_no r region.0 new.0 (region_of header r past).top (apart r less) ∙ n.declared_top r less;
      declared_shift = λ r less. if_no r region.0 0 (region_of header r past).shift (apart r less) ∙ n.declared_shift r less;
      declared_mark = λ r less. if_no r region.0 false (region_of header r past).mark (apart r less) ∙ n.declared_mark r less;
      temporary = λ r above below. elim (ℕ_discrete r region.0) [
        | yes e ↦ omega (arith, if_yes r region.0 new.0 (region_of header r past).top e, is, n.later_objects)
        | no other ↦ omega (arith, if_no r region.0 new.0 (region_of header r past).top other, n.temporary r above below)
      ];
      upper = λ o backed. elim (ℕ_discrete o new.0) [
        | yes e ↦ omega (arith, e, is, n.later_objects)
        | no other ↦ n.upper o (sym (if_no o new.0 true (backing_of header o past).backed other) ∙ backed)
      ];
      newest = n.newest;
      copied = λ o is. omega (arith, n.copied o is);
    }
  where
    later : named header ≤ region.0
    later = marked_later header region.0 past n marked

    apart : (r : ℕ) → r < named header → r ≢ region.0
    apart r less e = omega (arith, less, e, marked_later header region.0 past n marked)

pub numbered_merged : (header : Header) (upper lower : ObjectId) (past : List Event) → NumberedAt header past
    → (backing_of header upper.0 past).backed ≡ true → NumberedAt header (event.Merged upper lower ∷ past)
numbered_merged header upper lower past n on =
    record {
      later_regions = n.later_regions;
      later_objects = n.later_objects;
      declared_top = n.declared_top;
      declared_shift = n.declared_shift;
      declared_mark = n.declared_mark;
      temporary = n.temporary;
      upper = λ o backed. elim (ℕ_discrete o upper.0) [
        | yes e ↦ omega (arith, e, n.upper upper.0 on)
        | no other ↦ n.upper o (sym (if_no o upper.0 (backing_of header lower.0 past).backed (backing_of header o past).backed other) ∙ backed)
      ];
      newest = n.newest;
      copied = λ o is. omega (arith, n.copied o is);
    }

pub numbered_delayed : (header : Header) (region source : RegionId) (offset pages : ℕ) (copy : ObjectId) (past : List Event) → NumberedAt header past
    → region.0 ≡ next_region header past → copy.0 ≡ next_object header past → NumberedAt header (event.Delayed region source offset pages copy ∷ past)
numbered_delayed header region source offset pages copy past n is new =
    record {
      later_regions = omega (arith, n.later_regions);
      later_objects = omega (arith, n.later_objects);
      declared_top = λ r less. if_no r region.0 copy.0 (region_of header r past).top (apart r less) ∙ n.declared_top r less;
      declared_shift = λ r less. if_no r region.0 offset (region_of header r past).shift (apart r less) ∙ n.declared_shift r less;
      declared_mark = λ r less. if_no r region.0 true (region_of header r past).mark (apart r less) ∙ n.declared_mark r less;
      temporary = λ r above below. elim (ℕ_discrete r region.0) [
        | yes e ↦ omega (arith, if_yes r region.0 copy.0 (region_of header r past).top e, new, n.later_objects)
        | no other ↦ omega (arith, if_no r region.0 copy.0 (region_of header r past).top other, n.temporary r above (omega (arith, below, other, is)))
      ];
      upper = λ o backed. elim (ℕ_discrete o copy.0) [
        | yes e ↦ omega (arith, e, new, n.later_objects)
        | no other ↦ elsewhere o (newest_copy source.0 past) refl
            (sym (if_no o copy.0 true (if is_newest o (newest_copy source.0 past) then true else (backing_of header o past).backed) other) ∙ backed)
      ];
      newest = λ f v. stands f v;
      copied = λ o is. made o is;
    }
  where
    apart : (r : ℕ) → r < named header → r ≢ region.0
    apart r less e = omega (arith, less, e, is, n.later_regions)

    elsewhere : (o : ℕ) (x : Option ℕ) → newest_copy source.0 past ≡ x → (if is_newest o x then true else (backing_of header o past).backed) ≡ true
        → named header ≤ o
    elsewhere o None was backed = n.upper o backed
    elsewhere o (Some v) was backed = elim (ℕ_discrete o v) [
      | yes e ↦ omega (arith, e, n.newest source.0 v was)
      | no other ↦ n.upper o (sym (if_no o v true (backing_of header o past).backed other) ∙ backed)
    ]

    made : (o : ℕ) → (o == copy.0 || is_copy o past) ≡ true → o < next_object header past + 1
    made o is = elim (ℕ_discrete o copy.0) [
      | yes e ↦ omega (arith, e, new)
      | no other ↦ let old : is_copy o past ≡ true = grind (arith, nat_tests, is, other) in omega (arith, n.copied o old)
    ]

    stands : (f v : ℕ) → (if f == source.0 then Some copy.0 else newest_copy f past) ≡ Some v → named header ≤ v
    stands f v now = by (f == source.0) now
      where
        some_is : (a b : ℕ) → ◌≡◌ {A = Option ℕ} (Some a) (Some b) → a ≡ b
        some_is a b e = cc

        by : (b : Bool) → (if b then Some copy.0 else newest_copy f past) ≡ Some v → named header ≤ v
        by true e = omega (arith, some_is copy.0 v e, new, n.later_objects)
        by false e = n.newest f v e
