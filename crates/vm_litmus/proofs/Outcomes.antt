-- The text of outcomes, one piece after another.
use Rattle.std.proofs.Common.{◌≡◌, ℕ, zero, suc, ◌+◌, ◌<◌, ◌≤◌, List, [], ◌∷◌, ◌++◌, codes}
use Rattle.std.proofs.Common.{length, take, drop, get_or, min, refl, ap, sym, ◌∙◌, append_assoc, append-nil, length-drop, arith}
use Rattle.std.proofs.Math.Seq.{drop-cons}
use Rattle.std.proofs.lemmas.List.{take_more}
use Rattle.vm_explore.specs.declared.counts.Row.{Row}
use Rattle.vm_model.specs.Text.{field}
use Rattle.vm_litmus.specs.Text.{fields, load_text, loads_text, others_text, row_text, rows_text}
use Rattle.vm_litmus.specs.declared.parts.FreeAccess.{FreeAccess}

pub fields-push : (lines : List ℕ) (line : ℕ) → fields (lines ++ line ∷ []) ≡ fields lines ++ field line
fields-push [] line = append-nil (field line)
fields-push (first ∷ more) line = ap (λ z. field first ++ z) (fields-push more line) ∙ sym (append_assoc (field first) (fields more) (field line))

pub rows_text-push : (accesses : List FreeAccess) (rows : List Row) (row : Row)
    → rows_text accesses (rows ++ row ∷ []) ≡ rows_text accesses rows ++ row_text accesses row
rows_text-push accesses [] row = append-nil (row_text accesses row)
rows_text-push accesses (first ∷ more) row =
    ap (λ z. row_text accesses first ++ z) (rows_text-push accesses more row)
    ∙ sym (append_assoc (row_text accesses first) (rows_text accesses more) (row_text accesses row))

-- the loads behind the first so many, and what stands in front of each
pub left_text : ℕ → List FreeAccess → List ℕ → List ℕ
left_text zero loads values = loads_text loads values
left_text (suc n) loads values = others_text (drop (suc n) loads) (drop (suc n) values)

left_step : (i : ℕ) (loads : List FreeAccess) (values : List ℕ) (d : FreeAccess) → 0 < i → i < length loads → i < length values
    → left_text i loads values ≡ (codes "," ++ load_text (get_or loads i d) (get_or values i 0)) ++ left_text (i + 1) loads values
unfolding left_text
left_step zero loads values d behind one two = absurd (omega arith)
left_step (suc n) loads values d behind one two =
    let next : suc (suc n) ≡ suc n + 1 = omega arith in
    ap (λ z. others_text z (drop (suc n) values)) (drop-cons loads (suc n) d one)
    ∙ (ap (λ z. others_text (get_or loads (suc n) d ∷ drop (suc (suc n)) loads) z) (drop-cons values (suc n) 0 two)
    ∙ (sym (append_assoc (codes ",") (load_text (get_or loads (suc n) d) (get_or values (suc n) 0)) (left_text (suc (suc n)) loads values))
    ∙ ap (λ z. (codes "," ++ load_text (get_or loads (suc n) d) (get_or values (suc n) 0)) ++ left_text z loads values) next))

left_first : (loads : List FreeAccess) (values : List ℕ) (d : FreeAccess) → 0 < length loads → 0 < length values
    → loads_text loads values ≡ load_text (get_or loads 0 d) (get_or values 0 0) ++ left_text 1 loads values
unfolding left_text
left_first [] values d one two = absurd (omega arith)
left_first (load ∷ loads) [] d one two = absurd (omega arith)
left_first (load ∷ loads) (value ∷ values) d one two = refl

-- the first load is written
pub loads_first : (text whole : List ℕ) (loads : List FreeAccess) (values : List ℕ) (i : ℕ) (d : FreeAccess) → i ≡ 0 → i < length loads → i < length values
    → text ++ left_text i loads values ≡ whole → (text ++ load_text (get_or loads i d) (get_or values i 0)) ++ left_text (i + 1) loads values ≡ whole
unfolding left_text
loads_first text whole loads values i d none one two is = rw none (first (rw none at one) (rw none at two) (rw none at is))
  where
    first : 0 < length loads → 0 < length values → text ++ left_text 0 loads values ≡ whole
        → (text ++ load_text (get_or loads 0 d) (get_or values 0 0)) ++ left_text 1 loads values ≡ whole
    first one two is =
        append_assoc text (load_text (get_or loads 0 d) (get_or values 0 0)) (left_text 1 loads values)
        ∙ (ap (λ z. text ++ z) (sym (left_first loads values d one two)) ∙ is)

-- a further load is written, behind a comma
pub loads_more : (text whole : List ℕ) (loads : List FreeAccess) (values : List ℕ) (i : ℕ) (d : FreeAccess) → 0 < i → i < length loads → i < length values
    → text ++ left_text i loads values ≡ whole → ((text ++ codes ",") ++ load_text (get_or loads i d) (get_or values i 0)) ++ left_text (i + 1) loads values
    ≡ whole
loads_more text whole loads values i d behind one two is =
    let now = load_text (get_or loads i d) (get_or values i 0) in
    ap (λ z. z ++ left_text (i + 1) loads values) (append_assoc text (codes ",") now)
    ∙ (append_assoc text (codes "," ++ now) (left_text (i + 1) loads values) ∙ (ap (λ z. text ++ z) (sym (left_step i loads values d behind one two)) ∙ is))

no_others : (loads : List FreeAccess) (values : List ℕ) → min (length loads) (length values) ≤ 0 → others_text loads values ≡ []
no_others [] values none = refl
no_others (load ∷ loads) [] none = refl
no_others (load ∷ loads) (value ∷ values) none = absurd (omega arith)

no_loads : (loads : List FreeAccess) (values : List ℕ) → min (length loads) (length values) ≤ 0 → loads_text loads values ≡ []
no_loads [] values none = refl
no_loads (load ∷ loads) [] none = refl
no_loads (load ∷ loads) (value ∷ values) none = absurd (omega arith)

-- where the loads or the values end, nothing is left
pub left_end : (loads : List FreeAccess) (values : List ℕ) (i : ℕ) → min (length loads) (length values) ≤ i → left_text i loads values ≡ []
unfolding left_text
left_end loads values zero none = no_loads loads values none
left_end loads values (suc n) none = no_others (drop (suc n) loads) (drop (suc n) values) (omega (arith, length-drop (suc n) loads, length-drop (suc n) values))

pub fields_more : (lines : List ℕ) (i : ℕ) → i < length lines → fields (take i lines) ++ field (get_or lines i 0) ≡ fields (take (i + 1) lines)
fields_more lines i inside = sym (ap fields (take_more lines i 0 inside) ∙ fields-push (take i lines) (get_or lines i 0))

pub rows_more : (accesses : List FreeAccess) (rows : List Row) (i : ℕ) (d : Row) → i < length rows
    → rows_text accesses (take i rows) ++ row_text accesses (get_or rows i d) ≡ rows_text accesses (take (i + 1) rows)
rows_more accesses rows i d inside = sym (ap (rows_text accesses) (take_more rows i d inside) ∙ rows_text-push accesses (take i rows) (get_or rows i d))

-- pieces that were put one behind another
pub row_pieces : (old a b c d e f g h : List ℕ) → (((((old ++ a) ++ b) ++ c) ++ d) ++ e) ++ (f ++ (g ++ h))
    ≡ old ++ (((((((a ++ b) ++ c) ++ d) ++ e) ++ f) ++ g) ++ h)
row_pieces old a b c d e f g h = simp append_assoc

pub left_none : (text : List ℕ) (loads : List FreeAccess) (values : List ℕ) → text ++ left_text 0 loads values ≡ text ++ loads_text loads values
unfolding left_text
left_none text loads values = refl

pub all_written : (text whole : List ℕ) (loads : List FreeAccess) (values : List ℕ) (i : ℕ) → min (length loads) (length values) ≤ i
    → text ++ left_text i loads values ≡ whole → text ≡ whole
all_written text whole loads values i end is = sym (append-nil text) ∙ (ap (λ z. text ++ z) (sym (left_end loads values i end)) ∙ is)

more_of : (old word text before now after : List ℕ) → before ++ now ≡ after → text ≡ old ++ (word ++ before) → text ++ now ≡ old ++ (word ++ after)
more_of old word text before now after one is =
    ap (λ z. z ++ now) is ∙ (append_assoc old (word ++ before) now ∙ ap (λ z. old ++ z) (append_assoc word before now ∙ ap (λ z. word ++ z) one))

-- one more line of an order
pub order_more : (old text lines : List ℕ) (i : ℕ) → i < length lines → text ≡ old ++ (codes "order" ++ fields (take i lines))
    → text ++ field (get_or lines i 0) ≡ old ++ (codes "order" ++ fields (take (i + 1) lines))
order_more old text lines i inside is = more_of old (codes "order") text (fields (take i lines)) (field (get_or lines i 0)) (fields (take (i + 1) lines))
    (fields_more lines i inside) is

-- one more outcome
pub outcome_more : (head text : List ℕ) (accesses : List FreeAccess) (rows : List Row) (i : ℕ) (d : Row) → i < length rows
    → text ≡ head ++ rows_text accesses (take i rows)
    → text ++ row_text accesses (get_or rows i d) ≡ head ++ rows_text accesses (take (i + 1) rows)
outcome_more head text accesses rows i d inside is =
    ap (λ z. z ++ row_text accesses (get_or rows i d)) is
    ∙ (append_assoc head (rows_text accesses (take i rows)) (row_text accesses (get_or rows i d)) ∙ ap (λ z. head ++ z) (rows_more accesses rows i d inside))
