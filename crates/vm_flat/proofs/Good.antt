-- A place against what its object shows there.
use Rattle.std.proofs.Common.{◌≡◌, ℕ, List, arith, Bool, true, false, Option, Some, None, refl, ap, if◌then◌else◌, ◌∙◌, sym, ◌≢◌, inl, inr}
use Rattle.std.proofs.lemmas.Bool.Decides.{nat_tests}
use Rattle.std.specs.Prelude.{◌⊎◌}
use Rattle.vm_base.specs.Pages.{with_bytes}
use Rattle.vm_flat.specs.Words.{SpotDownWord, Supplying, Unavailing, Erring, Creates, Requests, Returns, TakesRequest, TakesReturn, Answers, Takes, Zeroes}
use Rattle.vm_flat.specs.Words.{Raises, Stores, Drops, Ends, StepEnds, Nothing}
use Rattle.vm_flat.specs.Spot.{Spot, spot_after}
use Rattle.vm_flat.proofs.Allowed.{Passed, May, content}
use Rattle.vm_flat.proofs.Causes.{Void}
use Rattle.vm_flat.proofs.Deeds.{said}
use Rattle.vm_flat.proofs.Sound.{Sound, content_saved, supplied_returned, or_zero, shows, passed_returned, keep_creates, keep_requests, keep_returns}
use Rattle.vm_flat.proofs.Sound.{keep_takes_request, keep_takes_return, keep_answers, keep_tells, keep_takes, keep_zeroes, keep_raises, keep_stores, keep_drops}
use Rattle.vm_flat.proofs.Sound.{keep_ends, keep_step}

some_is : (a b : List ℕ) → ◌≡◌ {A = Option (List ℕ)} (Some a) (Some b) → a ≡ b
some_is a b e = cc

none_is : (a : List ℕ) → ◌≡◌ {A = Option (List ℕ)} (Some a) None → ⊥
none_is a e = cc

-- v is what the object shows at the page, w what its backing object shows there
-- B: the object shows zeros at the page, and so do all objects below it
pub record Fits (z : List ℕ) (B : Type 0) (v : List ℕ) (backed : Bool) (w : List ℕ) (s : Spot) : Type 0 where
  pub solid : (bytes : List ℕ) → content s ≡ Some bytes → v ≡ bytes
  pub through : content s ≡ None → backed ≡ true → v ≡ w
  pub bottom : content s ≡ None → backed ≡ false → v ≡ z
  pub zeros : content s ≡ None → s.here ≡ true → B
  pub living : s.control ≢ 2

pub record Good (z : List ℕ) (reach unborn B : Type 0) (v : List ℕ) (backed : Bool) (w : List ℕ) (s : Spot) : Type 0 where
  pub sound : Sound z s
  pub fits : reach → Fits z B v backed w s
  pub blank : unborn → (s.here ≡ false) × (s.control ≡ 0) × (s.file ≡ false)

-- where content stays, a page that comes is a zero page of zeros or has content
fits_same : (z : List ℕ) (B : Type 0) (v : List ℕ) (b : Bool) (w : List ℕ) (s t : Spot) → content t ≡ content s
    → (content t ≡ None → t.here ≡ true → (s.here ≡ true) ⊎ B) → t.control ≢ 2 → Fits z B v b w s → Fits z B v b w t
fits_same z B v b w s t same come lives f =
    record {
      solid = λ bytes is. f.solid bytes (sym same ∙ is);
      through = λ is. f.through (sym same ∙ is);
      bottom = λ is. f.bottom (sym same ∙ is);
      zeros = λ is here. elim (come is here) [ inl was ↦ f.zeros (sym same ∙ is) was | inr e ↦ e ];
      living = lives;
    }

-- a page here is what the object shows
pub shown : (z : List ℕ) (B : Type 0) (v : List ℕ) (b : Bool) (w : List ℕ) (s : Spot) → Sound z s → Fits z B v b w s → (B → v ≡ z) → s.here ≡ true → v ≡ s.bytes
shown z B v b w s ok f barren here = elim (shows z s ok here) [ inl some ↦ f.solid s.bytes some | inr none ↦ barren (f.zeros none.0 here) ∙ sym none.1 ]

pub good_nothing : (z : List ℕ) (R U B : Type 0) (v : List ℕ) (b : Bool) (w : List ℕ) (s : Spot) → Good z R U B v b w s
    → Good z R U B v b w (spot_after z s Nothing)
good_nothing z R U B v b w s g = g

pub good_step : (z : List ℕ) (R U B : Type 0) (v : List ℕ) (b : Bool) (w : List ℕ) (s : Spot) → Good z R U B v b w s
    → Good z R U B v b w (spot_after z s StepEnds)
good_step z R U B v b w s g =
    record {
      sound = keep_step z s g.sound;
      fits = λ r. fits_same z B v b w s (spot_after z s StepEnds) refl (λ none here. inl here) (g.fits r).living (g.fits r);
      blank = g.blank;
    }

pub good_creates : (z : List ℕ) (R U B : Type 0) (v : List ℕ) (b : Bool) (w : List ℕ) (s : Spot) → Good z R U B v b w s → May z s Creates → (U → ⊥)
    → Good z R U B v b w (spot_after z s Creates)
good_creates z R U B v b w s g may born =
    record {
      sound = keep_creates z s g.sound may;
      fits = λ r. fits_same z B v b w s (spot_after z s Creates) refl (λ none here. inl here) (λ e. absurd (omega (arith, e))) (g.fits r);
      blank = λ u. absurd (born u);
    }

pub good_requests : (z : List ℕ) (R U B : Type 0) (v : List ℕ) (b : Bool) (w : List ℕ) (s : Spot) (lives : Bool) → Good z R U B v b w s
    → May z s (Requests lives) → Good z R U B v b w (spot_after z s (Requests lives))
good_requests z R U B v b w s lives g may =
    record {
      sound = keep_requests z s lives g.sound may;
      fits = λ r. fits_same z B v b w s (spot_after z s (Requests lives)) refl (λ none here. inl here) (g.fits r).living (g.fits r);
      blank = g.blank;
    }

pub good_returns : (z : List ℕ) (R U B : Type 0) (v : List ℕ) (b : Bool) (w : List ℕ) (s : Spot) (keep : Bool) (bytes : List ℕ) → Good z R U B v b w s
    → May z s (Returns keep bytes) → Good z R U B v b w (spot_after z s (Returns keep bytes))
good_returns z R U B v b w s keep bytes g may =
    record {
      sound = keep_returns z s keep bytes g.sound may;
      fits =
          λ r. fits_same z B v b w s (spot_after z s (Returns keep bytes)) (content_saved z s (Returns keep bytes) g.sound may tt)
          (λ none here. absurd (grind arith)) (g.fits r).living (g.fits r);
      blank = λ u. absurd (omega (arith, (g.blank u).1, may.0));
    }

pub good_takes_request : (z : List ℕ) (R U B : Type 0) (v : List ℕ) (b : Bool) (w : List ℕ) (s : Spot) → Good z R U B v b w s → May z s TakesRequest
    → Good z R U B v b w (spot_after z s TakesRequest)
good_takes_request z R U B v b w s g may =
    record {
      sound = keep_takes_request z s g.sound may;
      fits = λ r. fits_same z B v b w s (spot_after z s TakesRequest) refl (λ none here. inl here) (g.fits r).living (g.fits r);
      blank = g.blank;
    }

pub good_takes_return : (z : List ℕ) (R U B : Type 0) (v : List ℕ) (b : Bool) (w : List ℕ) (s : Spot) (bytes : List ℕ) → Good z R U B v b w s
    → May z s (TakesReturn bytes) → Good z R U B v b w (spot_after z s (TakesReturn bytes))
good_takes_return z R U B v b w s bytes g may =
    record {
      sound = keep_takes_return z s bytes g.sound may;
      fits = λ r. fits_same z B v b w s (spot_after z s (TakesReturn bytes)) refl (λ none here. inl here) (g.fits r).living (g.fits r);
      blank = g.blank;
    }

pub good_answers : (z : List ℕ) (R U B : Type 0) (v : List ℕ) (b : Bool) (w : List ℕ) (s : Spot) (word : SpotDownWord) → Good z R U B v b w s
    → May z s (Answers false word) → Good z R U B v b w (spot_after z s (Answers false word))
good_answers z R U B v b w s word g may =
    record {
      sound = keep_answers z s word g.sound may;
      fits = λ r. fits_same z B v b w s (spot_after z s (Answers false word)) refl (λ none here. inl here) (g.fits r).living (g.fits r);
      blank = g.blank;
    }

-- where the answer says what the file has, the object shows that
pub good_tells : (z : List ℕ) (R U B : Type 0) (v : List ℕ) (b : Bool) (w : List ℕ) (s : Spot) (word : SpotDownWord) → Good z R U B v b w s
    → May z s (Answers true word) → Good z R U B (said z word v) b w (spot_after z s (Answers true word))
good_tells z R U B v b w s word g may =
    record {
      sound = keep_tells z s word g.sound may;
      fits = λ r. fits word r;
      blank = λ u. absurd (never (g.blank u).2);
    }
  where
    asked : s.asked ≡ true
    asked = let one = g.sound.one in let step = may.0 in grind (arith, nat_tests)

    away : s.here ≡ false
    away = g.sound.not_here asked

    never : s.file ≡ false → ⊥
    never is = let file : s.file ≡ true = may.1 in absurd (cc)

    no_here : s.here ≡ true → ⊥
    no_here is = let away : s.here ≡ false = away in absurd (cc)

    lives : R → s.control ≢ 2
    lives r = (g.fits r).living

    now : (bytes : List ℕ) → content (spot_after z s (Answers true (Supplying bytes))) ≡ Some bytes
    now bytes = grind arith

    now_zero : content (spot_after z s (Answers true Unavailing)) ≡ Some z
    now_zero = grind arith

    fits : (word : SpotDownWord) → R → Fits z B (said z word v) b w (spot_after z s (Answers true word))
    fits (Supplying bytes) r =
        record {
          solid = λ c e. some_is bytes c (sym (now bytes) ∙ e);
          through = λ e. absurd (none_is bytes (sym (now bytes) ∙ e));
          bottom = λ e. absurd (none_is bytes (sym (now bytes) ∙ e));
          zeros = λ e here. absurd (no_here here);
          living = lives r;
        }
    fits Unavailing r =
        record {
          solid = λ c e. some_is z c (sym now_zero ∙ e);
          through = λ e. absurd (none_is z (sym now_zero ∙ e));
          bottom = λ e. absurd (none_is z (sym now_zero ∙ e));
          zeros = λ e here. absurd (no_here here);
          living = lives r;
        }
    fits Erring r =
        record { solid = (g.fits r).solid; through = (g.fits r).through; bottom = (g.fits r).bottom; zeros = λ e here. absurd (no_here here); living = lives r }

takes_come : (z : List ℕ) (B : Type 0) (s : Spot) (word : SpotDownWord) → Sound z s → May z s (Takes word) → content (spot_after z s (Takes word)) ≡ None
    → (spot_after z s (Takes word)).here ≡ true → (s.here ≡ true) ⊎ B
takes_come z B s (Supplying bytes) ok may none here =
    let saved : content (spot_after z s (Takes (Supplying bytes))) ≡ content s = content_saved z s (Takes (Supplying bytes)) ok may tt in
    let said : s.returned ≡ Some bytes = supplied_returned z s bytes ok may in
    inl (grind (arith, nat_tests))
takes_come z B s Unavailing ok may none here = inl here
takes_come z B s Erring ok may none here = inl here

pub takes_control : (z : List ℕ) (s : Spot) (word : SpotDownWord) → (spot_after z s (Takes word)).control ≡ s.control
takes_control z s (Supplying bytes) = refl
takes_control z s Unavailing = refl
takes_control z s Erring = refl

takes_blank : (z : List ℕ) (s : Spot) (word : SpotDownWord) → (s.here ≡ false) × (s.control ≡ 0) × (s.file ≡ false)
    → ((spot_after z s (Takes word)).here ≡ false) × ((spot_after z s (Takes word)).control ≡ 0) × ((spot_after z s (Takes word)).file ≡ false)
takes_blank z s (Supplying bytes) was = grind (arith, nat_tests)
takes_blank z s Unavailing was = was
takes_blank z s Erring was = was

pub good_takes : (z : List ℕ) (R U B : Type 0) (v : List ℕ) (b : Bool) (w : List ℕ) (s : Spot) (word : SpotDownWord) → Good z R U B v b w s
    → May z s (Takes word) → Good z R U B v b w (spot_after z s (Takes word))
good_takes z R U B v b w s word g may =
    record {
      sound = keep_takes z s word g.sound may;
      fits =
          λ r. fits_same z B v b w s (spot_after z s (Takes word)) (content_saved z s (Takes word) g.sound may tt) (takes_come z B s word g.sound may)
          (λ e. (g.fits r).living (sym (takes_control z s word) ∙ e)) (g.fits r);
      blank = λ u. takes_blank z s word (g.blank u);
    }

pub good_zeroes : (z : List ℕ) (R U B : Type 0) (v : List ℕ) (b : Bool) (w : List ℕ) (s : Spot) → Good z R U B v b w s → Passed s → R → (U → ⊥) → B
    → Good z R U B v b w (spot_after z s Zeroes)
good_zeroes z R U B v b w s g passed reach born is =
    let none : s.returned ≡ None = passed_returned z s g.sound passed (g.fits reach).living in
    record {
      sound = keep_zeroes z s g.sound (passed.away, passed.unasked) (ap (or_zero z) none);
      fits =
          λ r. fits_same z B v b w s (spot_after z s Zeroes) (content_saved z s Zeroes g.sound (passed.away, passed.unasked) tt) (λ none here. inr is)
          (g.fits r).living (g.fits r);
      blank = λ u. absurd (born u);
    }

pub good_raises : (z : List ℕ) (R U B : Type 0) (v : List ℕ) (b : Bool) (w : List ℕ) (s : Spot) (bytes : List ℕ) → Good z R U B v b w s → May z s (Raises bytes)
    → (U → ⊥) → (R → v ≡ bytes) → Good z R U B v b w (spot_after z s (Raises bytes))
good_raises z R U B v b w s bytes g may born is =
    record {
      sound = keep_raises z s bytes g.sound may;
      fits =
          λ r. record {
            solid = λ c e. let same : v ≡ bytes = is r in grind arith;
            through = λ e. absurd (cc);
            bottom = λ e. absurd (cc);
            zeros = λ e. absurd (cc);
            living = (g.fits r).living;
          };
      blank = λ u. absurd (born u);
    }

pub good_stores : (z : List ℕ) (R U B B' : Type 0) (v : List ℕ) (b : Bool) (w x : List ℕ) (s : Spot) (at : ℕ) (bytes : List ℕ) → Good z R U B v b w s
    → May z s (Stores at bytes) → (B → v ≡ z) → Good z R U B' (with_bytes at bytes v) b x (spot_after z s (Stores at bytes))
good_stores z R U B B' v b w x s at bytes g may barren =
    record {
      sound = keep_stores z s at bytes g.sound may;
      fits = λ r. stored (g.fits r);
      blank = g.blank;
    }
  where
    stored : Fits z B v b w s → Fits z B' (with_bytes at bytes v) b x (spot_after z s (Stores at bytes))
    stored f =
        let is : v ≡ s.bytes = shown z B v b w s g.sound f barren may in
        let now : content (spot_after z s (Stores at bytes)) ≡ Some (with_bytes at bytes s.bytes) = grind arith in
        record {
          solid = λ c e. grind arith;
          through = λ e. absurd (cc);
          bottom = λ e. absurd (cc);
          zeros = λ e. absurd (cc);
          living = f.living;
        }

pub good_drops : (z : List ℕ) (R U B : Type 0) (v : List ℕ) (b : Bool) (w : List ℕ) (s : Spot) → Good z R U B v b w s → May z s Drops → (s.dirty ≡ false)
    ⊎ (R → ⊥) → Good z R U B v b w (spot_after z s Drops)
good_drops z R U B v b w s g may why =
    record {
      sound = keep_drops z s g.sound may;
      fits = λ r. elim why [
        | inl clean ↦ fits_same z B v b w s (spot_after z s Drops) (content_saved z s Drops g.sound may clean) (λ none here. absurd (cc)) (g.fits r).living
            (g.fits r)
        | inr gone ↦ absurd (gone r)
      ];
      blank = λ u. (refl, (g.blank u).1, (g.blank u).2);
    }

pub good_ends : (z : List ℕ) (R U B : Type 0) (v : List ℕ) (b : Bool) (w : List ℕ) (s : Spot) → Good z R U B v b w s → May z s Ends → (R → ⊥) ⊎ (s.file ≡ true)
    → Good z R U B v b w (spot_after z s Ends)
good_ends z R U B v b w s g may why =
    record {
      sound = keep_ends z s g.sound may;
      fits = λ r. elim why [
        | inl gone ↦ absurd (gone r)
        | inr file ↦ fits_same z B v b w s (spot_after z s Ends) refl (λ none here. inl here) (λ e. absurd (ended s.file file e)) (g.fits r)
      ];
      blank = λ u. absurd (omega (arith, (g.blank u).1, may.0));
    }
  where
    ended : (f : Bool) → f ≡ true → ◌≡◌ {A = ℕ} (if f then 0 else 2) 2 → ⊥
    ended true is e = omega (arith, e)
    ended false is e = cc

pub good_fills : (z : List ℕ) (R U B : Type 0) (v : List ℕ) (b : Bool) (w : List ℕ) (s : Spot) → Good z R U B v b w s → Void s
    → Good z R U B v b w (spot_after z s Zeroes)
good_fills z R U B v b w s g may =
    let is : s.returned ≡ Some z = g.sound.void may.void in
    record {
      sound = keep_zeroes z s g.sound (may.away, may.unasked) (ap (or_zero z) is);
      fits =
          λ r. fits_same z B v b w s (spot_after z s Zeroes) (content_saved z s Zeroes g.sound (may.away, may.unasked) tt) (λ none here. absurd (some none))
          (g.fits r).living (g.fits r);
      blank = λ u. absurd (never (g.blank u).2);
    }
  where
    some : content (spot_after z s Zeroes) ≡ None → ⊥
    some none = let is : s.returned ≡ Some z = g.sound.void may.void in absurd (grind arith)

    never : s.file ≡ false → ⊥
    never is = let file : s.file ≡ true = g.sound.void_file may.void in absurd (cc)

-- a page that is put where nothing is looked up yet
pub good_puts : (z : List ℕ) (R U B B' : Type 0) (v : List ℕ) (b : Bool) (w x : List ℕ) (s : Spot) (bytes : List ℕ) → Good z R U B v b w s
    → May z s (Raises bytes) → (U → ⊥) → Good z R U B' bytes b x (spot_after z s (Raises bytes))
good_puts z R U B B' v b w x s bytes g may born =
    record {
      sound = keep_raises z s bytes g.sound may;
      fits =
          λ r. record {
            solid = λ c e. grind arith;
            through = λ e. absurd (cc);
            bottom = λ e. absurd (cc);
            zeros = λ e. absurd (cc);
            living = (g.fits r).living;
          };
      blank = λ u. absurd (born u);
    }

-- seen from elsewhere
pub fits_again : (z : List ℕ) (B B' : Type 0) (v v' : List ℕ) (b : Bool) (w w' : List ℕ) (s : Spot) → v' ≡ v → (content s ≡ None → b ≡ true → w' ≡ w) → (B → B')
    → Fits z B v b w s → Fits z B' v' b w' s
fits_again z B B' v v' b w w' s same below barren f =
    record {
      solid = λ bytes is. same ∙ f.solid bytes is;
      through = λ is backed. same ∙ f.through is backed ∙ sym (below is backed);
      bottom = λ is bare. same ∙ f.bottom is bare;
      zeros = λ is here. barren (f.zeros is here);
      living = f.living;
    }

pub good_again : (z : List ℕ) (R R' U U' B B' : Type 0) (v v' : List ℕ) (b : Bool) (w w' : List ℕ) (s : Spot) → Good z R U B v b w s → (R' → R) → (U' → U)
    → (R' → v' ≡ v) → (R' → content s ≡ None → b ≡ true → w' ≡ w) → (R' → B → B') → Good z R' U' B' v' b w' s
good_again z R R' U U' B B' v v' b w w' s g reach unborn same below barren =
    record {
      sound = g.sound;
      fits = λ r. fits_again z B B' v v' b w w' s (same r) (below r) (barren r) (g.fits (reach r));
      blank = λ u. g.blank (unborn u);
    }

-- a place of which nothing is known yet
pub fits_blank : (z : List ℕ) (B : Type 0) (v : List ℕ) (b : Bool) (w : List ℕ) (s : Spot) → Sound z s → (s.here ≡ false) × (s.control ≡ 0) × (s.file ≡ false)
    → (b ≡ true → v ≡ w) → (b ≡ false → v ≡ z) → Fits z B v b w s
fits_blank z B v b w s ok blank through bottom =
    let none : s.returned ≡ None = ok.never blank.2 blank.1 in
    let nothing : content s ≡ None = grind arith in
    record {
      solid = λ bytes is. absurd (grind arith);
      through = λ is. through;
      bottom = λ is. bottom;
      zeros = λ is here. absurd (grind arith);
      living = λ e. omega (arith, e, blank.1);
    }
