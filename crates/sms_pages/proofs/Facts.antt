-- What one act of the server changes in what the history says.
use Rattle.std.proofs.Common.{◌≡◌, ◌≢◌, ◌<◌, ◌==◌, ◌&&◌, ℕ, zero, suc, List, [], ◌∷◌, length, arith, refl, ap, subst, sym, ◌∙◌, Bool, true, if◌then◌else◌}
use Rattle.std.specs.Prelude.{slice_index, slice_set}
use Rattle.std.specs.List.{list_all}
use Rattle.std.proofs.lemmas.Bool.Decides.{nat_tests}
use Rattle.std.proofs.lemmas.List.{get_or-set_same, get_or-set_other}
use native.Mathlib.Decide.{ℕ_discrete}
use Rattle.vm_model.specs.Words.{Act, ActEffect, SentDown, DownWord, effect_on, to_others}
use Rattle.vm_model.specs.Side.{Side, side, side_after}
use Rattle.vm_model.specs.Server.{Wanting, trimmed_line}
use Rattle.vm_model.specs.Server.{NoUpgrade}
use Rattle.sms_pages.specs.Stands.{count_wanting}
use Rattle.vm_model.proofs.Others.{others_holds}

own_effect : (k : ℕ) (e : ActEffect) → effect_on k (record { host = k; effect = e }) ≡ e
own_effect k e = grind (arith, nat_tests)

other_effect : (h k : ℕ) (e : ActEffect) → k ≢ h → effect_on h (record { host = k; effect = e }) ≡ to_others e
other_effect h k e apart = grind (arith, nat_tests)

pub own_side : (k : ℕ) (e : ActEffect) (past : List Act) → side k (record { host = k; effect = e } ∷ past) ≡ side_after (side k past) e
own_side k e past = ap (side_after (side k past)) (own_effect k e)

pub other_side : (h k : ℕ) (e : ActEffect) (past : List Act) → k ≢ h → side h (record { host = k; effect = e } ∷ past) ≡ side_after (side h past) (to_others e)
other_side h k e past apart = ap (side_after (side h past)) (other_effect h k e apart)

others_awaits : (e : ActEffect) (s : Side) → (side_after s (to_others e)).awaits ≡ s.awaits
others_awaits e s = grind arith

-- a field of each side is a list's item; the act sets it at its own host
pub field_set : (f : Side → ℕ) (k : ℕ) (e : ActEffect) (v : ℕ) (xs : List ℕ) (past : List Act) → ((s : Side) → f (side_after s (to_others e)) ≡ f s)
    → k < length xs → f (side_after (side k past) e) ≡ v → ((g : ℕ) → f (side g past) ≡ slice_index xs g) → (g : ℕ)
    → f (side g (record { host = k; effect = e } ∷ past)) ≡ slice_index (slice_set xs k v) g
field_set f k e v xs past others lt own same g = elim (ℕ_discrete k g) [
  | yes is ↦ subst (λ (h : ℕ). f (side h (record { host = k; effect = e } ∷ past)) ≡ slice_index (slice_set xs k v) h) is
      (ap f (own_side k e past) ∙ (own ∙ sym (get_or-set_same xs k v 0 lt)))
  | no apart ↦ ap f (other_side g k e past apart) ∙ (others (side g past) ∙ (same g ∙ sym (get_or-set_other xs k g v 0 (λ is. apart (sym is)))))
]

pub field_kept : (f : Side → ℕ) (k : ℕ) (e : ActEffect) (xs : List ℕ) (past : List Act) → ((s : Side) → f (side_after s (to_others e)) ≡ f s)
    → f (side_after (side k past) e) ≡ f (side k past) → ((g : ℕ) → f (side g past) ≡ slice_index xs g) → (g : ℕ)
    → f (side g (record { host = k; effect = e } ∷ past)) ≡ slice_index xs g
field_kept f k e xs past others own same g = elim (ℕ_discrete k g) [
  | yes is ↦ subst (λ (h : ℕ). f (side h (record { host = k; effect = e } ∷ past)) ≡ slice_index xs h) is (ap f (own_side k e past) ∙ (own ∙ same k))
  | no apart ↦ ap f (other_side g k e past apart) ∙ (others (side g past) ∙ same g)
]

pub holds_set : (k : ℕ) (e : ActEffect) (v : ℕ) (xs : List ℕ) (past : List Act) → k < length xs → (side_after (side k past) e).holds ≡ v
    → ((g : ℕ) → (side g past).holds ≡ slice_index xs g) → (g : ℕ) → (side g (record { host = k; effect = e } ∷ past)).holds ≡ slice_index (slice_set xs k v) g
holds_set k e v xs past = field_set (λ s. s.holds) k e v xs past (others_holds e)

pub awaits_set : (k : ℕ) (e : ActEffect) (v : ℕ) (xs : List ℕ) (past : List Act) → k < length xs → (side_after (side k past) e).awaits ≡ v
    → ((g : ℕ) → (side g past).awaits ≡ slice_index xs g) → (g : ℕ)
    → (side g (record { host = k; effect = e } ∷ past)).awaits ≡ slice_index (slice_set xs k v) g
awaits_set k e v xs past = field_set (λ s. s.awaits) k e v xs past (others_awaits e)

pub holds_kept : (k : ℕ) (e : ActEffect) (xs : List ℕ) (past : List Act) → (side_after (side k past) e).holds ≡ (side k past).holds
    → ((g : ℕ) → (side g past).holds ≡ slice_index xs g) → (g : ℕ) → (side g (record { host = k; effect = e } ∷ past)).holds ≡ slice_index xs g
holds_kept k e xs past = field_kept (λ s. s.holds) k e xs past (others_holds e)

pub awaits_kept : (k : ℕ) (e : ActEffect) (xs : List ℕ) (past : List Act) → (side_after (side k past) e).awaits ≡ (side k past).awaits
    → ((g : ℕ) → (side g past).awaits ≡ slice_index xs g) → (g : ℕ) → (side g (record { host = k; effect = e } ∷ past)).awaits ≡ slice_index xs g
awaits_kept k e xs past = field_kept (λ s. s.awaits) k e xs past (others_awaits e)

-- the control that the server knows of each host stays
pub heard_kept : (heard : ℕ → ℕ) (k control : ℕ) (word : DownWord) (past : List Act) → ((g : ℕ) → heard g ≡ (side g past).heard) → (g : ℕ)
    → heard g ≡ (side g (record { host = k; effect = SentDown control word } ∷ past)).heard
heard_kept heard k control word past same g = same g ∙ grind (arith, nat_tests)

-- the line: what counts, after an act that changes what one host holds

lost_step : (h x a b : ℕ) (w : Wanting) (cs ns : List Wanting) → x ≢ 1 → (w.host ≢ h → b ≡ a) → (w.host ≡ h → b ≡ x) → trimmed_line h x cs ≡ ns
    → trimmed_line h x (if (if w.upgrade then a == 1 else true) then w ∷ cs else cs) ≡ (if (if w.upgrade then b == 1 else true) then w ∷ ns else ns)
lost_step h x a b w cs ns less other own is = grind (arith, nat_tests)

pub counted_lost : (h x : ℕ) (holds new : List ℕ) (ws : List Wanting) → x ≢ 1 → ((g : ℕ) → g ≢ h → slice_index new g ≡ slice_index holds g)
    → slice_index new h ≡ x → trimmed_line h x (count_wanting holds ws) ≡ count_wanting new ws
counted_lost h x holds new [] less other own = refl
counted_lost h x holds new (w ∷ ws) less other own =
    lost_step h x (slice_index holds w.host) (slice_index new w.host) w (count_wanting holds ws) (count_wanting new ws) less (other w.host)
    (λ is. ap (λ (k : ℕ). slice_index new k) is ∙ own) (counted_lost h x holds new ws less other own)

none_step : (h x a b : ℕ) (w : Wanting) (cs ns : List Wanting) → (w.upgrade ≡ true → w.host ≢ h) → (w.host ≢ h → b ≡ a) → trimmed_line h x cs ≡ ns
    → trimmed_line h x (if (if w.upgrade then a == 1 else true) then w ∷ cs else cs) ≡ (if (if w.upgrade then b == 1 else true) then w ∷ ns else ns)
none_step h x a b w cs ns none other is = grind (arith, nat_tests)

pub counted_none : (h x : ℕ) (holds new : List ℕ) (ws : List Wanting) → NoUpgrade h ws → ((g : ℕ) → g ≢ h → slice_index new g ≡ slice_index holds g)
    → trimmed_line h x (count_wanting holds ws) ≡ count_wanting new ws
counted_none h x holds new [] none other = refl
counted_none h x holds new (w ∷ ws) none other =
    none_step h x (slice_index holds w.host) (slice_index new w.host) w (count_wanting holds ws) (count_wanting new ws) none.0 (other w.host)
    (counted_none h x holds new ws none.1 other)

same_step : (h x a : ℕ) (w : Wanting) (cs : List Wanting) → (w.host ≡ h → a ≡ x) → trimmed_line h x cs ≡ cs
    → trimmed_line h x (if (if w.upgrade then a == 1 else true) then w ∷ cs else cs) ≡ (if (if w.upgrade then a == 1 else true) then w ∷ cs else cs)
same_step h x a w cs own is = grind (arith, nat_tests)

pub counted_same : (h x : ℕ) (holds : List ℕ) (ws : List Wanting) → slice_index holds h ≡ x → trimmed_line h x (count_wanting holds ws) ≡ count_wanting holds ws
counted_same h x holds [] own = refl
counted_same h x holds (w ∷ ws) own =
    same_step h x (slice_index holds w.host) w (count_wanting holds ws) (λ is. ap (λ (k : ℕ). slice_index holds k) is ∙ own) (counted_same h x holds ws own)

-- who is not awaited

pub all_none : (awaits : List ℕ) → list_all (λ kind. kind == 0) awaits ≡ true → (g : ℕ) → slice_index awaits g ≡ 0
all_none [] all g = refl
all_none (a ∷ more) all zero = grind (arith, nat_tests)
all_none (a ∷ more) all (suc g) = all_none more (and_rest (a == 0) (list_all (λ kind. kind == 0) more) all) g where
  and_rest : (b c : Bool) → (b && c) ≡ true → c ≡ true
  and_rest b c both = grind arith
