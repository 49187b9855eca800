-- What a merge leaves of a place as it was.
use Rattle.std.proofs.Common.{◌≡◌, ℕ, ◌+◌, List, ◌∷◌, Bool, true, false, arith, refl, if◌then◌else◌}
use Rattle.std.proofs.lemmas.Bool.Decides.{nat_tests}
use Rattle.std.specs.Prelude.{◌==◌, ◌&&◌, nat_lt, not, ◌≢◌}
use Rattle.vm_base.specs.declared.ids.ObjectId.{ObjectId}
use Rattle.vm_model.specs.declared.event.Event.{Event}
use Rattle.vm_model.specs.declared.event.Event.TheVariants as event
use Rattle.vm_model.specs.declared.script.Header.{Header}
use Rattle.vm_model.specs.Homes.{object_home}
use Rattle.vm_model.specs.Local.{Elsewhere, Local, Place, effect, is_on, merge_effect}
use Rattle.vm_model.specs.Regions.{backing_of, object_pages}
use Rattle.vm_legal.specs.Outside.{Outside, zeros}
use Rattle.vm_flat.specs.Words.{SpotEffect, Moves, Drops, Nothing}
use Rattle.vm_flat.specs.Spot.{Spot, merged_effect, spot_after}
use Rattle.vm_flat.specs.Places.{spot}

-- it brings a page up, drops one, or is nothing
pub merged_case : (P : SpotEffect → Type 0) (own : Bool) (o p upper lower shift upper_pages lower_pages : ℕ) (above below : Spot)
    → ((bytes : List ℕ) (dirty : Bool) → P (Moves bytes dirty)) → P Drops → P Nothing
    → P (if own then merged_effect o p upper lower shift upper_pages lower_pages above below else Nothing)
merged_case P false o p upper lower shift upper_pages lower_pages above below moves drops none = none
merged_case P true o p upper lower shift upper_pages lower_pages above below moves drops none =
    by (o == upper) (nat_lt p upper_pages && (nat_lt (shift + p) lower_pages && (below.here && not above.here))) (o == lower && nat_lt p lower_pages)
  where
    by : (a b c : Bool) → P (if a then (if b then Moves below.bytes below.dirty else Nothing) else (if c then Drops else Nothing))
    by true true c = moves below.bytes below.dirty
    by true false c = none
    by false b true = drops
    by false b false = none

-- what neither a page that comes nor one that goes changes
pub merge_keeps : {A : Type 0} (part : Spot → A)
    → ((z : List ℕ) (s : Spot) (bytes : List ℕ) (dirty : Bool) → part (spot_after z s (Moves bytes dirty)) ≡ part s)
    → ((z : List ℕ) (s : Spot) → part (spot_after z s Drops) ≡ part s)
    → (header : Header) (outside : Outside) (host o p : ℕ) (upper lower : ObjectId) (past : List Event)
    → part (spot header outside host o p (event.Merged upper lower ∷ past)) ≡ part (spot header outside host o p past)
merge_keeps part moves drops header outside host o p upper lower past =
    merged_case (λ e. part (spot_after (zeros header) (spot header outside host o p past) e) ≡ part (spot header outside host o p past))
    (is_on host (object_home upper.0 past)) o p upper.0 lower.0 (backing_of header upper.0 past).shift (object_pages header upper.0 past)
    (object_pages header lower.0 past) (spot header outside host o p past)
    (spot header outside host lower.0 ((backing_of header upper.0 past).shift + p) past)
    (moves (zeros header) (spot header outside host o p past)) (drops (zeros header) (spot header outside host o p past)) refl

-- it is nothing to another object's page
pub merge_apart : (header : Header) (host : ℕ) (place : Place) (others : Place → Local) (upper lower : ObjectId) (past : List Event) → place.object ≢ upper.0
    → place.object ≢ lower.0 → effect header host place others (event.Merged upper lower) past ≡ Elsewhere
merge_apart header host place others upper lower past apart too = by (is_on host (object_home upper.0 past))
  where
    rest : merge_effect upper.0 lower.0 (backing_of header upper.0 past).shift (object_pages header upper.0 past) (object_pages header lower.0 past) place
        others
        ≡ Elsewhere
    rest =
        let one : (place.object == upper.0) ≡ false = grind (arith, nat_tests) in
        let two : (place.object == lower.0) ≡ false = grind (arith, nat_tests) in
        rw (one, two) refl

    by : (own : Bool) → (if own
        then merge_effect upper.0 lower.0 (backing_of header upper.0 past).shift (object_pages header upper.0 past) (object_pages header lower.0 past) place
        others
        else Elsewhere) ≡ Elsewhere
    by true = rest
    by false = refl
