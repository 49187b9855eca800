-- What each deed leaves.
use Rattle.std.proofs.Common.{subst, ◌≡◌, ℕ, List, [], ◌∷◌, arith, Bool, true, false, ap, sym, ◌∙◌, zero, suc, refl, if◌then◌else◌, ◌+◌}
use Rattle.std.proofs.lemmas.Bool.Decides.{nat_tests}
use Rattle.vm_flat.proofs.Deeds.{Ground, is_file, Deed, Line, Region, Cow, Kept, Shadowed, Unmarked, Zeroed, Raised, Stored, Dropped, Created, Asked, Copied}
use Rattle.vm_flat.proofs.Deeds.{Delayed, Returned}
use Rattle.vm_flat.proofs.Deeds.{Merged, TookRequest, TookReturn, Answered, Took, Terminated, Elsewhere}
use Rattle.vm_flat.proofs.Causes.{Cause, AllCaused}
use Rattle.vm_flat.specs.Spot.{first_spot}
use Rattle.vm_flat.proofs.Sound.{sound_start}
use Rattle.vm_flat.proofs.Good.{Fits}
use Rattle.vm_flat.proofs.Slow.{after_copied}
use Rattle.vm_flat.proofs.World.{World, Barren, view}
use Rattle.vm_flat.proofs.Traffic.{after_line, after_elsewhere, after_dropped, after_asked, after_returned, after_took_request, after_took_return, after_took}
use Rattle.vm_flat.proofs.Traffic.{after_created, after_terminated, after_zeroed, after_raised}
use Rattle.vm_flat.proofs.Answered.{after_answered}
use Rattle.vm_flat.proofs.Stored.{after_stored}
use Rattle.vm_flat.proofs.Regions.{after_region, after_kept}
use Rattle.vm_flat.proofs.Merges.{after_merged}
use Rattle.vm_flat.proofs.Delays.{after_delayed}
use Rattle.vm_flat.proofs.Copies.{after_cow, after_shadowed, after_unmarked}

pub after : (z : Ground) (e : Deed) (past : List Deed) → World z past → Cause z e past → World z (e ∷ past)
after z Line past w c = after_line z past w
after z (Region own region object count) past w c = after_region z own region object count past w c
after z (Cow region source off count) past w c = after_cow z region source off count past w c
after z (Delayed tells region source off count copy) past w c = after_delayed z tells region source off count copy past w c
after z (Kept held) past w c = after_kept z held past w
after z (Shadowed region new) past w c = after_shadowed z region new past w c
after z (Unmarked region) past w c = after_unmarked z region past w c
after z (Merged own upper lower shift upper_pages lower_pages) past w c = after_merged z own upper lower shift upper_pages lower_pages past w c
after z (Zeroed own object page) past w c = after_zeroed z own object page past w c
after z (Raised own lower lower_page upper upper_page) past w c = after_raised z own lower lower_page upper upper_page past w c
after z (Stored own region index object page at bytes) past w c = after_stored z own region index object page at bytes past w c
after z (Dropped own object page) past w c = after_dropped z own object page past w c
after z (Created own object) past w c = after_created z own object past w c
after z (Asked own lives object page) past w c = after_asked z own lives object page past w c
after z (Returned own object page keep bytes) past w c = after_returned z own object page keep bytes past w c
after z (Copied own source index object page region i upper upper_page) past w c =
    after_copied z own source index object page region i upper upper_page past w c
after z (TookRequest own object page) past w c = after_took_request z own object page past w c
after z (TookReturn own object page bytes) past w c = after_took_return z own object page bytes past w c
after z (Answered own tells object page word) past w c = after_answered z own tells object page word past w c
after z (Took own object page word) past w c = after_took z own object page word past w c
after z (Terminated own object) past w c = after_terminated z own object past w c
after z Elsewhere past w c = after_elsewhere z past w

fits_start : (f : Bool) (zeros : List ℕ) (B : Type 0) (bytes : List ℕ) (w : List ℕ) → (f ≡ false → B)
    → Fits zeros B (if f then bytes else zeros) false w (first_spot f bytes)
fits_start true zeros B bytes w barren =
    record {
      solid = λ c e. grind arith;
      through = λ none. absurd (cc);
      bottom = λ none. absurd (cc);
      zeros = λ none. absurd (cc);
      living = λ e. omega (arith, e);
    }
fits_start false zeros B bytes w barren =
    record {
      solid = λ c e. absurd (cc);
      through = λ none backed. absurd (cc);
      bottom = λ none bare. refl;
      zeros = λ none here. barren refl;
      living = λ e. omega (arith, e);
    }

pub start : (z : Ground) → World z []
start z =
    record {
      shape =
          record {
            rows_below = λ r used. grind (arith, nat_tests);
            tops_made = λ r less. less;
            born = λ o backed. absurd (cc);
            rank = λ o. o;
            falls = λ o backed. absurd (cc);
            made = λ o backed. absurd (cc);
            covers_tops = λ r used. grind (arith, nat_tests);
            covers_under = λ o mine backed. absurd (cc);
            tops_inside = λ r i used less. omega (arith, less);
            inside = λ o p reach backed. absurd (cc);
            own = λ r v used mark kind reach backed. absurd (cc);
            alone = λ r q used mark used' apart. apart;
          };
      regional = λ r i used inside. let none : i ≡ 0 + i = omega arith in ap (λ q. view z r q []) none;
      places =
          λ o p ours. record {
            sound = sound_start z.zeros (is_file z o) (z.start o p);
            fits = λ reach. fits_start (is_file z o) z.zeros (Barren z o p []) (z.start o p) (view z 0 (0 + p) []) (barren_start o p);
            blank = λ u. (refl, refl, grind (arith, nat_tests));
          };
      stems =
          record {
            stands = λ v f declared backed. absurd (cc);
            newest_is = λ f c is. absurd (cc);
            sources = λ o f is. absurd (cc);
            copy_is = λ o is. absurd (cc);
            unmade = λ o unmade. (refl, refl);
          };
      marks = λ o p ours. record { fresh = λ u. refl; full = λ copy. absurd (cc); bare = λ copy. absurd (cc) };
    }
  where
    clash : false ≡ true → ⊥
    clash e = cc

    barren_start : (o p : ℕ) → is_file z o ≡ false → Barren z o p []
    barren_start o p is zero l lp path = (
      ap (λ q. view z l q []) (sym path.1) ∙ ap (λ k. view z k p []) (sym path.0)
          ∙ subst (λ (b : Bool). (if b then z.start o p else z.zeros) ≡ z.zeros) (sym is) refl,
      subst (λ (k : ℕ). is_file z k ≡ false) path.0 is,
    )
    barren_start o p is (suc n) l lp path = absurd (clash path.0)

pub world : (z : Ground) (past : List Deed) → AllCaused z past → World z past
world z [] caused = start z
world z (e ∷ past) caused = after z e past (world z past caused.1) caused.0
