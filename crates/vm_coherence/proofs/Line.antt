-- The server's line: how many of each kind a host has in it.
use Rattle.std.proofs.Common.{◌≡◌, ℕ, ◌+◌, ◌-◌, ◌≤◌, ◌≢◌, List, [], ◌∷◌, ◌++◌, arith, Some, if◌then◌else◌, refl, ◌==◌}
use Rattle.std.proofs.lemmas.Bool.Decides.{nat_tests}
use Rattle.vm_model.specs.Server.{first, Wanting, without_request, stays, trimmed_line}

abbrev pub request : ℕ → Wanting → ℕ
request h w = if w.host == h then (if w.upgrade then 0 else 1) else 0

abbrev pub upgrade : ℕ → Wanting → ℕ
upgrade h w = if w.host == h then (if w.upgrade then 1 else 0) else 0

abbrev pub total : (Wanting → ℕ) → List Wanting → ℕ
total f [] = 0
total f (w ∷ ws) = f w + total f ws

pub total_end : (f : Wanting → ℕ) (ws : List Wanting) (w : Wanting) → total f (ws ++ w ∷ []) ≡ total f ws + f w
total_end f [] w = omega arith
total_end f (v ∷ ws) w = omega (arith, total_end f ws w)

pub total_front : (f : Wanting → ℕ) (ws : List Wanting) (w : Wanting) → first ws ≡ Some w → f w ≤ total f ws
total_front f ws w is = grind arith

stay_request : (h k holds : ℕ) (w : Wanting) (ws : List Wanting)
    → total (request h) (if stays k holds w then w ∷ ws else ws) ≡ request h w + total (request h) ws
stay_request h k holds w ws = grind (arith, nat_tests)

pub trimmed_request : (h k holds : ℕ) (ws : List Wanting) → total (request h) (trimmed_line k holds ws) ≡ total (request h) ws
trimmed_request h k holds [] = refl
trimmed_request h k holds (w ∷ ws) = omega (arith, stay_request h k holds w (trimmed_line k holds ws), trimmed_request h k holds ws)

stay_upgrade : (h k holds : ℕ) (w : Wanting) (ws : List Wanting)
    → total (upgrade h) (if stays k holds w then w ∷ ws else ws) ≤ upgrade h w + total (upgrade h) ws
stay_upgrade h k holds w ws = grind (arith, nat_tests)

pub trimmed_upgrade : (h k holds : ℕ) (ws : List Wanting) → total (upgrade h) (trimmed_line k holds ws) ≤ total (upgrade h) ws
trimmed_upgrade h k holds [] = omega arith
trimmed_upgrade h k holds (w ∷ ws) = omega (arith, stay_upgrade h k holds w (trimmed_line k holds ws), trimmed_upgrade h k holds ws)

lost_upgrade : (k holds : ℕ) (w : Wanting) (ws : List Wanting) → holds ≢ 1 → total (upgrade k) ws ≡ 0
    → total (upgrade k) (if stays k holds w then w ∷ ws else ws) ≡ 0
lost_upgrade k holds w ws less none = grind (arith, nat_tests)

pub trimmed_none : (k holds : ℕ) (ws : List Wanting) → holds ≢ 1 → total (upgrade k) (trimmed_line k holds ws) ≡ 0
trimmed_none k holds [] less = refl
trimmed_none k holds (w ∷ ws) less = lost_upgrade k holds w (trimmed_line k holds ws) less (trimmed_none k holds ws less)

pub without_upgrade : (h k : ℕ) (ws : List Wanting) → total (upgrade h) (without_request k ws) ≡ total (upgrade h) ws
without_upgrade h k [] = refl
without_upgrade h k (w ∷ ws) = without_upgrade_step h k w ws (without_request k ws) (without_upgrade h k ws) where
  without_upgrade_step : (h k : ℕ) (w : Wanting) (ws vs : List Wanting) → total (upgrade h) vs ≡ total (upgrade h) ws
      → total (upgrade h) (if w.host == k then (if w.upgrade then w ∷ vs else ws) else w ∷ vs) ≡ total (upgrade h) (w ∷ ws)
  without_upgrade_step h k w ws vs is = grind (arith, nat_tests)

other_request : (h k : ℕ) (w : Wanting) (ws vs : List Wanting) → h ≢ k → total (request h) vs ≡ total (request h) ws
    → total (request h) (if w.host == k then (if w.upgrade then w ∷ vs else ws) else w ∷ vs) ≡ total (request h) (w ∷ ws)
other_request h k w ws vs apart is = grind (arith, nat_tests)

pub without_other : (h k : ℕ) (ws : List Wanting) → h ≢ k → total (request h) (without_request k ws) ≡ total (request h) ws
without_other h k [] apart = refl
without_other h k (w ∷ ws) apart = other_request h k w ws (without_request k ws) apart (without_other h k ws apart)

own_request : (k : ℕ) (w : Wanting) (ws vs : List Wanting) → total (request k) vs ≡ total (request k) ws - 1
    → total (request k) (if w.host == k then (if w.upgrade then w ∷ vs else ws) else w ∷ vs) ≡ total (request k) (w ∷ ws) - 1
own_request k w ws vs is = grind (arith, nat_tests)

pub without_own : (k : ℕ) (ws : List Wanting) → total (request k) (without_request k ws) ≡ total (request k) ws - 1
without_own k [] = refl
without_own k (w ∷ ws) = own_request k w ws (without_request k ws) (without_own k ws)
