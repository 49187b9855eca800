-- The oldest part of a list grows by one item at a time, and so does what stands behind its first items.
use Rattle.std.proofs.Common.{◌≡◌, ℕ, suc, ◌+◌, ◌-◌, ◌≤◌, List, [], ◌∷◌, ◌++◌, length, take, reverse, ap, sym, ◌∙◌, arith}
use Rattle.std.proofs.Common.{slice_get, Some, length-drop}
use Rattle.std.proofs.Math.Seq.{take-append-add}
use Rattle.std.proofs.lemmas.List.{length-reverse, take-append-drop, length-take-le}
use Rattle.std.proofs.lemmas.Option.{slice_get_within}
use Rattle.vm_base.proofs.Lists.{oldest_step}
use Rattle.vm_seen.specs.Behind.{later_of, oldest_items}

-- one item more of two lists, if it is the same
pub same_step : {A : Type 0} (h s : List A) (i : ℕ) (x y : A) → slice_get (reverse h) i ≡ Some x → slice_get (reverse s) i ≡ Some y → x ≡ y
    → oldest_items i h ≡ oldest_items i s → oldest_items (i + 1) h ≡ oldest_items (i + 1) s
same_step h s i x y one two is same = oldest_step h i x one ∙ (ap (λ z. z ∷ oldest_items i h) is ∙ (ap (λ z. y ∷ z) same ∙ sym (oldest_step s i y two)))

pub length_oldest : {A : Type 0} (h : List A) (i : ℕ) → i ≤ length h → length (oldest_items i h) ≡ i
length_oldest h i within = omega (arith, length-drop (length h - i) h)

pub later_none : {A : Type 0} (h : List A) (from : ℕ) → later_of from (oldest_items from h) ≡ []
later_none h from =
    let none : length (oldest_items from h) - from ≡ 0 = omega (arith, length-drop (length h - from) h) in
    ap (λ z. take z (oldest_items from h)) none

pub later_step : {A : Type 0} (h : List A) (from i : ℕ) (e : A) → from ≤ i → slice_get (reverse h) i ≡ Some e
    → later_of from (oldest_items (i + 1) h) ≡ e ∷ later_of from (oldest_items i h)
later_step h from i e order found =
    let p = oldest_items i h in
    let inside = slice_get_within (reverse h) i e found in
    let long : length p ≡ i = length_oldest h i (omega (arith, length-reverse h)) in
    let count : suc (length p) - from ≡ suc (length p - from) = omega arith in
    ap (λ z. later_of from z) (oldest_step h i e found) ∙ ap (λ z. take z (e ∷ p)) count

-- what stands behind the first items is what came last, and in front of it what came before
pub later_splits : {A : Type 0} (h : List A) (from i : ℕ) → from ≤ i → i ≤ length h
    → later_of from h ≡ take (length h - i) h ++ later_of from (oldest_items i h)
later_splits h from i order within =
    let front = take (length h - i) h in
    let back = oldest_items i h in
    let long : length back ≡ i = length_oldest h i within in
    let cut : length front ≡ length h - i = length-take-le (length h - i) h (omega arith) in
    let whole : front ++ back ≡ h = take-append-drop (length h - i) h in
    let count : length h - from ≡ length front + (length back - from) = omega arith in
    ap (λ z. take (length h - from) z) (sym whole) ∙ ap (λ z. take z (front ++ back)) count ∙ take-append-add front back (length back - from)

-- the later items stand behind the oldest
pub later_then_oldest : {A : Type 0} (h : List A) (n : ℕ) → later_of n h ++ oldest_items n h ≡ h
later_then_oldest h n = take-append-drop (length h - n) h

-- a history that begins with another is that with what stands behind it
pub begun_with : {A : Type 0} (h start : List A) → oldest_items (length start) h ≡ start → later_of (length start) h ++ start ≡ h
begun_with h start is = ap (λ z. later_of (length start) h ++ z) (sym is) ∙ later_then_oldest h (length start)
