-- Deeds that leave regions and objects as they are, and change what one place has.
use Rattle.std.proofs.Common.{false, ◌<◌, ◌≡◌, ℕ, suc, ◌+◌, ◌≤◌, List, ◌∷◌, arith, Bool, true, refl, ap, ◌∙◌, inl, inr}
use Rattle.std.specs.Prelude.{◌⊎◌}
use Rattle.vm_flat.specs.Words.{SpotDownWord, SpotEffect, Creates, Requests, Returns, TakesRequest, TakesReturn, Takes, Zeroes, Raises, Drops, Ends, StepEnds}
use Rattle.vm_flat.specs.Words.{Nothing}
use Rattle.vm_flat.specs.Spot.{spot_after}
use Rattle.vm_flat.proofs.Deeds.{pages, Ground, covered, Deed, Line, Zeroed, Raised, Dropped, Created, Asked, Returned, TookRequest, TookReturn, Took}
use Rattle.vm_flat.proofs.Deeds.{Terminated, Elsewhere, is_copy, is_file, objects, link, spot}
use Rattle.vm_flat.proofs.Causes.{Reach, Tops, Cause, Ours, Bottoms, Finds, Pushes}
use Rattle.vm_flat.proofs.Allowed.{May}
use Rattle.vm_flat.proofs.Good.{good_step, good_creates, good_requests, good_returns, good_takes_request, good_takes_return, good_takes, good_zeroes}
use Rattle.vm_flat.proofs.Good.{good_fills, good_raises, good_drops, good_ends}
use Rattle.vm_flat.proofs.Control.{control_is}
use Rattle.vm_flat.proofs.File.{file_is}
use Rattle.vm_flat.proofs.World.{ReachAt, World, GoodAt, view, tops_below, under_view, Barren, reach_top, sinks_passed, sunk_below, found, each_place}
use Rattle.vm_flat.proofs.World.{each_object}
use Rattle.vm_flat.proofs.Marked.{Marked, marked_nothing, marked_step, marked_saved, marked_raised, copy_plain}

-- the places after an effect
abbrev pub After : Ground → List Deed → ℕ → ℕ → SpotEffect → Type 0
After z past o p e = covered z o past ≡ true → GoodAt z past o p (spot_after z.zeros (spot z o p past) e)

pub rest_nothing : (z : Ground) (past : List Deed) → World z past → (o p : ℕ) → After z past o p Nothing
rest_nothing z past w o p = w.places o p

pub rest_step : (z : Ground) (past : List Deed) → World z past → (o p : ℕ) → After z past o p StepEnds
rest_step z past w o p ours =
    good_step z.zeros (ReachAt z o p past) (objects z past ≤ o) (Barren z o p past) (view z o p past) (link z o past).backed (under_view z o p past)
    (spot z o p past) (w.places o p ours)

clean : (R P : Type 0) → P ⊎ (R → ⊥) → R → P
clean R P (inl is) r = is
clean R P (inr gone) r = absurd (gone r)

dead : (R Q P : Type 0) → P ⊎ (R → ⊥) → P ⊎ (R × Q → ⊥)
dead R Q P (inl clean) = inl clean
dead R Q P (inr gone) = inr (λ reach. gone reach.0)

pub after_line : (z : Ground) (past : List Deed) → World z past → World z (Line ∷ past)
after_line z past w =
    record { shape = w.shape; regional = w.regional; places = rest_step z past w; stems = w.stems; marks = marked_step z past w }

pub after_elsewhere : (z : Ground) (past : List Deed) → World z past → World z (Elsewhere ∷ past)
after_elsewhere z past w =
    record { shape = w.shape; regional = w.regional; places = w.places; stems = w.stems; marks = w.marks }

pub after_dropped : (z : Ground) (own : Bool) (o p : ℕ) (past : List Deed) → World z past → Cause z (Dropped own o p) past → World z (Dropped own o p ∷ past)
after_dropped z own o p past w c =
    record {
      shape = w.shape;
      regional = w.regional;
      places = each_place (After z past) o p own Drops Nothing
          (λ is ours. good_drops z.zeros (ReachAt z o p past) (objects z past ≤ o) (Barren z o p past) (view z o p past) (link z o past).backed
          (under_view z o p past) (spot z o p past) (w.places o p ours) (c (record { on_host = is; covered = ours })).0
          (dead (Reach z o past) (p < pages z o past) ((spot z o p past).dirty ≡ false) (c (record { on_host = is; covered = ours })).1))
          (rest_nothing z past w);
      stems = w.stems;
      marks = each_place (Marked z past) o p own Drops Nothing
          (λ is. marked_saved z past w o p Drops (λ ours. (
            (c (record { on_host = is; covered = ours })).0,
            λ r. clean (Reach z o past) ((spot z o p past).dirty ≡ false) (c (record { on_host = is; covered = ours })).1 r,
          )))
          (marked_nothing z past w);
    }

pub after_asked : (z : Ground) (own lives : Bool) (o p : ℕ) (past : List Deed) → World z past → Cause z (Asked own lives o p) past
    → World z (Asked own lives o p ∷ past)
after_asked z own lives o p past w c =
    record {
      shape = w.shape;
      regional = w.regional;
      places = each_place (After z past) o p own (Requests lives) Nothing
          (λ is ours. good_requests z.zeros (ReachAt z o p past) (objects z past ≤ o) (Barren z o p past) (view z o p past) (link z o past).backed
          (under_view z o p past) (spot z o p past) lives (w.places o p ours) (c (record { on_host = is; covered = ours })))
          (rest_nothing z past w);
      stems = w.stems;
      marks = each_place (Marked z past) o p own (Requests lives) Nothing
          (λ is. marked_saved z past w o p (Requests lives) (λ ours. (c (record { on_host = is; covered = ours }), λ r. tt)))
          (marked_nothing z past w);
    }

pub after_returned : (z : Ground) (own : Bool) (o p : ℕ) (keep : Bool) (bytes : List ℕ) (past : List Deed) → World z past
    → Cause z (Returned own o p keep bytes) past → World z (Returned own o p keep bytes ∷ past)
after_returned z own o p keep bytes past w c =
    record {
      shape = w.shape;
      regional = w.regional;
      places = each_place (After z past) o p own (Returns keep bytes) Nothing
          (λ is ours. good_returns z.zeros (ReachAt z o p past) (objects z past ≤ o) (Barren z o p past) (view z o p past) (link z o past).backed
          (under_view z o p past) (spot z o p past) keep bytes (w.places o p ours) (c (record { on_host = is; covered = ours })))
          (rest_nothing z past w);
      stems = w.stems;
      marks = each_place (Marked z past) o p own (Returns keep bytes) Nothing
          (λ is. marked_saved z past w o p (Returns keep bytes) (λ ours. (c (record { on_host = is; covered = ours }), λ r. tt)))
          (marked_nothing z past w);
    }

pub after_took_request : (z : Ground) (own : Bool) (o p : ℕ) (past : List Deed) → World z past → Cause z (TookRequest own o p) past
    → World z (TookRequest own o p ∷ past)
after_took_request z own o p past w c =
    record {
      shape = w.shape;
      regional = w.regional;
      places = each_place (After z past) o p own TakesRequest StepEnds
          (λ is ours. good_takes_request z.zeros (ReachAt z o p past) (objects z past ≤ o) (Barren z o p past) (view z o p past) (link z o past).backed
          (under_view z o p past) (spot z o p past) (w.places o p ours) (c (record { on_host = is; covered = ours })))
          (rest_step z past w);
      stems = w.stems;
      marks = each_place (Marked z past) o p own TakesRequest StepEnds
          (λ is. marked_saved z past w o p TakesRequest (λ ours. (c (record { on_host = is; covered = ours }), λ r. tt)))
          (marked_step z past w);
    }

pub after_took_return : (z : Ground) (own : Bool) (o p : ℕ) (bytes : List ℕ) (past : List Deed) → World z past → Cause z (TookReturn own o p bytes) past
    → World z (TookReturn own o p bytes ∷ past)
after_took_return z own o p bytes past w c =
    record {
      shape = w.shape;
      regional = w.regional;
      places = each_place (After z past) o p own (TakesReturn bytes) StepEnds
          (λ is ours. good_takes_return z.zeros (ReachAt z o p past) (objects z past ≤ o) (Barren z o p past) (view z o p past) (link z o past).backed
          (under_view z o p past) (spot z o p past) bytes (w.places o p ours) (c (record { on_host = is; covered = ours })))
          (rest_step z past w);
      stems = w.stems;
      marks = each_place (Marked z past) o p own (TakesReturn bytes) StepEnds
          (λ is. marked_saved z past w o p (TakesReturn bytes) (λ ours. (c (record { on_host = is; covered = ours }), λ r. tt)))
          (marked_step z past w);
    }

pub after_took : (z : Ground) (own : Bool) (o p : ℕ) (word : SpotDownWord) (past : List Deed) → World z past → Cause z (Took own o p word) past
    → World z (Took own o p word ∷ past)
after_took z own o p word past w c =
    record {
      shape = w.shape;
      regional = w.regional;
      places = each_place (After z past) o p own (Takes word) StepEnds
          (λ is ours. good_takes z.zeros (ReachAt z o p past) (objects z past ≤ o) (Barren z o p past) (view z o p past) (link z o past).backed
          (under_view z o p past) (spot z o p past) word (w.places o p ours) (c (record { on_host = is; covered = ours })))
          (rest_step z past w);
      stems = w.stems;
      marks = each_place (Marked z past) o p own (Takes word) StepEnds
          (λ is. marked_saved z past w o p (Takes word) (λ ours. (c (record { on_host = is; covered = ours }), λ r. tt)))
          (marked_step z past w);
    }

pub after_created : (z : Ground) (own : Bool) (o : ℕ) (past : List Deed) → World z past → Cause z (Created own o) past → World z (Created own o ∷ past)
after_created z own o past w c =
    record {
      shape = w.shape;
      regional = w.regional;
      places = each_object (After z past) o own Creates Nothing
          (λ is p ours. good_creates z.zeros (ReachAt z o p past) (objects z past ≤ o) (Barren z o p past) (view z o p past) (link z o past).backed
          (under_view z o p past) (spot z o p past) (w.places o p ours) (control_is z o p past ∙ (c (record { on_host = is; covered = ours })).1)
          (λ u. omega (arith, u, (c (record { on_host = is; covered = ours })).0)))
          (rest_nothing z past w);
      stems = w.stems;
      marks = each_object (Marked z past) o own Creates Nothing
          (λ is p. marked_saved z past w o p Creates
          (λ ours. (control_is z o p past ∙ (c (record { on_host = is; covered = ours })).1, λ r. tt)))
          (marked_nothing z past w);
    }

pub after_terminated : (z : Ground) (own : Bool) (o : ℕ) (past : List Deed) → World z past → Cause z (Terminated own o) past → World z (Terminated own o ∷ past)
after_terminated z own o past w c =
    record {
      shape = w.shape;
      regional = w.regional;
      places = each_object (After z past) o own Ends Nothing
          (λ is p ours. good_ends z.zeros (ReachAt z o p past) (objects z past ≤ o) (Barren z o p past) (view z o p past) (link z o past).backed
          (under_view z o p past) (spot z o p past) (w.places o p ours) (may p (record { on_host = is; covered = ours }))
          (ends p (record { on_host = is; covered = ours })))
          (rest_nothing z past w);
      stems = w.stems;
      marks = each_object (Marked z past) o own Ends Nothing
          (λ is p. marked_saved z past w o p Ends (λ ours. (may p (record { on_host = is; covered = ours }), λ r. tt)))
          (marked_nothing z past w);
    }
  where
    may : (p : ℕ) → Ours z own o past → May z.zeros (spot z o p past) Ends
    may p ours = (control_is z o p past ∙ (c ours).1, ((c ours).2 p).0, ((c ours).2 p).1)

    ends : (p : ℕ) → Ours z own o past → (ReachAt z o p past → ⊥) ⊎ ((spot z o p past).file ≡ true)
    ends p ours = elim (c ours).0 [ inl gone ↦ inl (λ reach. gone reach.0) | inr file ↦ inr (file_is z o p past ∙ file) ]

born : (z : Ground) (r i o p : ℕ) (past : List Deed) → World z past → Tops z r i o p past → objects z past ≤ o → ⊥
born z r i o p past w tops unborn = omega (arith, tops_below w.shape r tops.used, tops.object, unborn)

pub after_zeroed : (z : Ground) (own : Bool) (o p : ℕ) (past : List Deed) → World z past → Cause z (Zeroed own o p) past → World z (Zeroed own o p ∷ past)
after_zeroed z own o p past w c =
    record {
      shape = w.shape;
      regional = w.regional;
      places = each_place (After z past) o p own Zeroes Nothing
          (λ is ours. elim (c (record { on_host = is; covered = ours })) [
            | inl fills ↦ good_fills z.zeros (ReachAt z o p past) (objects z past ≤ o)
                (Barren z o p past) (view z o p past) (link z o past).backed (under_view z o p past) (spot z o p past) (w.places o p ours) fills.1
            | inr bottoms ↦
                sunk bottoms ours
          ])
          (rest_nothing z past w);
      stems = w.stems;
      marks = each_place (Marked z past) o p own Zeroes Nothing
          (λ is. marked_saved z past w o p Zeroes (λ ours. (may (record { on_host = is; covered = ours }), λ r. tt)))
          (marked_nothing z past w);
    }
  where
    may : Ours z own o past → May z.zeros (spot z o p past) Zeroes
    may ours = elim (c ours) [
      | inl fills ↦ (fills.1.away, fills.1.unasked)
      | inr b ↦ let passed = sinks_passed z b.steps o p past b.sinks in (passed.away, passed.unasked)
    ]

    sunk : Bottoms z o p past → After z past o p Zeroes
    sunk b ours =
        good_zeroes z.zeros (ReachAt z o p past) (objects z past ≤ o) (Barren z o p past) (view z o p past) (link z o past).backed (under_view z o p past)
        (spot z o p past) (w.places o p ours)
        (sinks_passed z b.steps o p past b.sinks) (reach_top z b.region b.index o p past w.shape b.tops) (born z b.region b.index o p past w b.tops)
        (sunk_below z b.steps o p past w (reach_top z b.region b.index o p past w.shape b.tops) b.sinks)

pub after_raised : (z : Ground) (own : Bool) (l lp o p : ℕ) (past : List Deed) → World z past → Cause z (Raised own l lp o p) past
    → World z (Raised own l lp o p ∷ past)
after_raised z own l lp o p past w c =
    record {
      shape = w.shape;
      regional = w.regional;
      places = each_place (After z past) o p own (Raises (spot z l lp past).bytes) Nothing
          (λ is ours. elim (c (record { on_host = is; covered = ours })) [ inl finds ↦ raised finds ours | inr pushes ↦ pushed pushes ours ])
          (rest_nothing z past w);
      stems = w.stems;
      marks = marked_raised z own l lp o p past w c;
    }
  where
    raised : Finds z l lp o p past → After z past o p (Raises (spot z l lp past).bytes)
    raised f ours =
        good_raises z.zeros (ReachAt z o p past) (objects z past ≤ o) (Barren z o p past) (view z o p past) (link z o past).backed (under_view z o p past)
        (spot z o p past) (spot z l lp past).bytes (w.places o p ours)
        (f.walks.0.away, f.walks.0.unasked, f.walks.0.plain) (born z f.region f.index o p past w f.tops)
        (λ reach. found z (suc f.steps) o p l lp past w (reach_top z f.region f.index o p past w.shape f.tops) f.walks f.here)

    -- the copy shows what the file does, which is the page
    pushed : Pushes z l lp o p past → After z past o p (Raises (spot z l lp past).bytes)
    pushed f ours =
        let n = w.stems.newest_is l o f.newest in
        good_raises z.zeros (ReachAt z o p past) (objects z past ≤ o) (Barren z o p past) (view z o p past) (link z o past).backed (under_view z o p past)
        (spot z o p past) (spot z l lp past).bytes (w.places o p ours)
        (f.away, f.unasked, plain n.copy) (λ unborn. omega (arith, unborn, n.made))
        (λ reach.
        ((w.places o p ours).fits reach).through ((w.marks o p ours).bare n.copy reach.0 f.unpushed) n.backed
        ∙ ap (λ k. view z k ((link z o past).shift + p) past) n.under
        ∙ ap (λ q. view z l q past) (omega (arith, n.shift, f.same_page))
        ∙ found z 0 l lp l lp past w (reach_top z f.region f.index l lp past w.shape f.tops) (refl, refl) f.here)
      where
        plain : is_copy z o past ≡ true → (spot z o p past).file ≡ false
        plain copy = file_is z o p past ∙ no_file (is_file z o) refl
          where
            no_file : (b : Bool) → is_file z o ≡ b → is_file z o ≡ false
            no_file false is = is
            no_file true is = absurd (copy_plain z o past w copy is)
