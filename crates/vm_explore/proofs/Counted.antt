-- What one run more makes of the lines of a table.
use Rattle.std.proofs.Common.{ℕ, suc, ◌≡◌, ◌≢◌, ◌+◌, ◌<◌, ◌≤◌, ◌∙◌, ◌||◌, Bool, true, false, cond, not, nat_eq, nat_lt, List, [], ◌∷◌, ◌++◌, length, map, set}
use Rattle.std.proofs.Common.{get_or, if◌then◌else◌, Some, None, ap, sym, refl, subst, arith}
use Rattle.std.specs.Cmp.Lexicographic.{pointwise}
use Rattle.std.specs.Global.{Vec}
use Rattle.std.specs.Vec.{vec_items}
use Rattle.std.specs.List.{AllPairs, position, position_or_len, list_any}
use Rattle.std.proofs.lemmas.Bool.{false≢true}
use Rattle.std.proofs.lemmas.Bool.Decides.{nat_tests}
use Rattle.std.proofs.lemmas.List.{get_or-map, length-map, map-append, map-set}
use Rattle.std.proofs.lemmas.List.Sums.{fails_before_first, get_or-le-sum_by}
use Rattle.std.proofs.Math.Seq.{map-set_same}
use Rattle.std.proofs.lemmas.Option.{none-some, same_Some}
use Rattle.std.proofs.lemmas.Cmp.{nat_list_eq_equiv}
use Rattle.std.proofs.lemmas.List.Quantifiers.{all_pairs_push}
use Rattle.vm_explore.specs.Tables.{AreRows, Line, counted, line_of, once_more, place, times_of}
use Rattle.vm_explore.specs.declared.counts.Row.{Row}

-- the first place is found alike in a list and in the list of the parts that are tested
place-map : {A B : Type 0} (f : A → B) (p : B → Bool) (xs : List A) → position_or_len p (map f xs) ≡ position_or_len (λ x. p (f x)) xs
place-map f p [] = refl
place-map f p (x ∷ xs) = ap (λ (n : ℕ). cond (not (p (f x))) (1 + n) 0) (place-map f p xs)

pub position-map : {A B : Type 0} (f : A → B) (p : B → Bool) (xs : List A) → position p (map f xs) ≡ position (λ x. p (f x)) xs
position-map f p xs =
    ap (λ (n : ℕ). cond (nat_lt (position_or_len p (map f xs)) n) (Some (position_or_len p (map f xs))) None) (length-map xs f)
    ∙ ap (λ (n : ℕ). cond (nat_lt n (length xs)) (Some n) None) (place-map f p xs)

list_any-map : {A B : Type 0} (f : A → B) (p : B → Bool) (xs : List A) → list_any p (map f xs) ≡ list_any (λ x. p (f x)) xs
list_any-map f p [] = refl
list_any-map f p (x ∷ xs) = ap (λ (b : Bool). p (f x) || b) (list_any-map f p xs)

-- a place is below the length
some_place : (b : Bool) (a i : ℕ) → cond b (Some a) None ≡ Some i → (b ≡ true) × (a ≡ i)
some_place true a i is = (refl, same_Some a i is)
some_place false a i is = absurd (none-some i is)

none_place : (b : Bool) (a : ℕ) → cond b (Some a) None ≡ None → b ≡ false
none_place true a is = absurd (none-some a (sym is))
none_place false a is = refl

abbrev first : List ℕ → List Line → ℕ
first values lines = position_or_len (λ line. pointwise nat_eq values line.values) lines

again_behind : (b : Bool) (line : Line) (more rest : List Line) (n : ℕ) (d : Line) → cond (not b) (1 + n) 0 < length (line ∷ more)
    → (n < length more → rest ≡ set more n (once_more (get_or more n d)))
    → (if b then once_more line ∷ more else line ∷ rest) ≡ set (line ∷ more) (cond (not b) (1 + n) 0)
    (once_more (get_or (line ∷ more) (cond (not b) (1 + n) 0) d))
again_behind true line more rest n d within same = refl
again_behind false line more rest n d within same = let e : 1 + n ≡ suc n = omega arith in rw e (ap (λ (z : List Line). line ∷ z) (same (omega arith)))

again_first : (values order : List ℕ) (lines : List Line) (d : Line) → first values lines < length lines
    → counted values order lines ≡ set lines (first values lines) (once_more (get_or lines (first values lines) d))
again_first values order [] d within = absurd (omega arith)
again_first values order (line ∷ more) d within = again_behind (pointwise nat_eq values line.values) line more (counted values order more)
    (first values more) d within (again_first values order more d)

new_behind : (b : Bool) (line : Line) (more rest : List Line) (new : Line) (n : ℕ) → length (line ∷ more) ≤ cond (not b) (1 + n) 0
    → (length more ≤ n → rest ≡ more ++ new ∷ []) → (if b then once_more line ∷ more else line ∷ rest) ≡ line ∷ (more ++ new ∷ [])
new_behind true line more rest new n beyond same = absurd (omega arith)
new_behind false line more rest new n beyond same = ap (λ (z : List Line). line ∷ z) (same (omega arith))

new_last : (values order : List ℕ) (lines : List Line) → length lines ≤ first values lines
    → counted values order lines ≡ lines ++ record { values = values; times = 1; order = order } ∷ []
new_last values order [] beyond = refl
new_last values order (line ∷ more) beyond = new_behind (pointwise nat_eq values line.values) line more (counted values order more)
    (record { values = values; times = 1; order = order }) (first values more) beyond (new_last values order more)

-- the outcome has a line
pub counted_again : (values order : List ℕ) (lines : List Line) (i : ℕ) (d : Line) → place values lines ≡ Some i → (i < length lines)
    × (counted values order lines ≡ set lines i (once_more (get_or lines i d)))
counted_again values order lines i d at =
    let w = some_place (nat_lt (first values lines) (length lines)) (first values lines) i at in
    let within : first values lines < length lines = grind (arith, nat_tests, w.0) in
    let P : ℕ → Type 0 = λ n. (n < length lines) × (counted values order lines ≡ set lines n (once_more (get_or lines n d))) in
    subst P w.1 (within, again_first values order lines d within)

-- the outcome has no line
pub counted_new : (values order : List ℕ) (lines : List Line) → place values lines ≡ None
    → counted values order lines ≡ lines ++ record { values = values; times = 1; order = order } ∷ []
counted_new values order lines at =
    let w = none_place (nat_lt (first values lines) (length lines)) (first values lines) at in
    let beyond : length lines ≤ first values lines = grind (arith, nat_tests, w) in
    new_last values order lines beyond

none_any : {A : Type 0} (p : A → Bool) (xs : List A) → length xs ≤ position_or_len p xs → list_any p xs ≡ false
none_any p [] beyond = refl
none_any {A = A} p (x ∷ xs) beyond =
    let go : (b : Bool) → length (x ∷ xs) ≤ cond (not b) (1 + position_or_len p xs) 0 → (b || list_any p xs) ≡ false =
    λ b. elim b as (λ v. length (x ∷ xs) ≤ cond (not v) (1 + position_or_len p xs) 0 → (v || list_any p xs) ≡ false)
    [ true ↦ λ far. absurd (omega arith) | false ↦ λ far. none_any p xs (omega arith) ] in
    go (p x) beyond

abbrev pub row_values : Row → List ℕ
row_values row = row.values.items

-- a place is found by the outcomes that are known
pub place_known : (values : List ℕ) (keys : List (Vec ℕ)) (rows : List Row) → map vec_items keys ≡ map row_values rows
    → position (λ k. pointwise nat_eq values k.items) keys ≡ place values (map line_of rows)
place_known values keys rows even =
    sym (position-map vec_items (pointwise nat_eq values) keys) ∙ ap (λ (z : List (List ℕ)). position (pointwise nat_eq values) z) even
    ∙ position-map row_values (pointwise nat_eq values) rows ∙ sym (position-map line_of (λ line. pointwise nat_eq values line.values) rows)

-- no row has the outcome
other_rows : (values : List ℕ) (rows : List Row) → place values (map line_of rows) ≡ None → (k : ℕ) (d : List ℕ) → k < length (map row_values rows)
    → get_or (map row_values rows) k d ≢ values
other_rows values rows none k d within same =
    let p : List ℕ → Bool = pointwise nat_eq values in
    let at : position p (map row_values rows) ≡ None = position-map row_values p rows ∙ sym (position-map line_of (λ line. p line.values) rows) ∙ none in
    let w = none_place (nat_lt (position_or_len p (map row_values rows)) (length (map row_values rows))) (position_or_len p (map row_values rows)) at in
    let before : k < position_or_len p (map row_values rows) = grind (arith, nat_tests, w) in
    let fails = fails_before_first p (map row_values rows) k d before in
    absurd (false≢true (sym fails ∙ ap p same ∙ nat_list_eq_equiv.refl values))

-- an outcome that has no row is added to the outcomes that are known, beside its row
pub known_added : (keys : List (Vec ℕ)) (rows : List Row) (values : Vec ℕ) (row : Row) → AreRows keys rows → place values.items (map line_of rows) ≡ None
    → row.values.items ≡ values.items → AreRows (if list_any (λ k. pointwise nat_eq values.items k.items) keys then keys else keys ++ values ∷ [])
    (rows ++ row ∷ [])
known_added keys rows values row are none same =
    let test : Vec ℕ → Bool = λ k. pointwise nat_eq values.items k.items in
    let at : position test keys ≡ None = place_known values.items keys rows are.same ∙ none in
    let w = none_place (nat_lt (position_or_len test keys) (length keys)) (position_or_len test keys) at in
    let beyond : length keys ≤ position_or_len test keys = grind (arith, nat_tests, w) in
    let new : list_any test keys ≡ false = none_any test keys beyond in
    let longer = map-append row_values rows (row ∷ []) ∙ ap (λ (z : List ℕ). map row_values rows ++ z ∷ []) same in
    let P : List (List ℕ) → Type 0 = λ z. AllPairs (λ one other. one ≢ other) z in
    record {
      same = rw new (map-append vec_items keys (values ∷ []) ∙ ap (λ (z : List (List ℕ)). z ++ values.items ∷ []) are.same ∙ sym longer);
      apart = subst P (sym longer) (all_pairs_push (λ one other. one ≢ other) (map row_values rows) values.items are.apart (other_rows values.items rows none));
    }

-- a row that has one run more
pub known_again : (keys : List (Vec ℕ)) (rows : List Row) (i : ℕ) (row new : Row) → AreRows keys rows → row ≡ get_or rows i row
    → new.values.items ≡ row.values.items → AreRows keys (set rows i new)
known_again keys rows i row new are at same =
    let is = sym (map-set_same row_values rows i new row (same ∙ ap row_values at)) in
    let P : List (List ℕ) → Type 0 = λ z. AllPairs (λ one other. one ≢ other) z in
    record { same = are.same ∙ is; apart = subst P is are.apart }

pub rows_apart : (rows : List Row) → AllPairs (λ one other. one ≢ other) (map row_values rows)
    → AllPairs (λ one other. one.values.items ≢ other.values.items) rows
rows_apart rows apart = λ i j d before within same.
    apart i j (row_values d) before (omega (arith, length-map rows row_values))
    (get_or-map row_values rows i d (row_values d) (omega arith) ∙ same ∙ sym (get_or-map row_values rows j d (row_values d) within))

pub line_again : (rows : List Row) (i : ℕ) (row new : Row) (lines : List Line) (line : Line) → map line_of rows ≡ lines → i < length lines
    → row ≡ get_or rows i row → line_of new ≡ once_more (line_of row) → map line_of (set rows i new) ≡ set lines i (once_more (get_or lines i line))
line_again rows i row new lines line seen within at again =
    let P : List Line → Type 0 = λ z. i < length z → map line_of (set rows i new) ≡ set z i (once_more (get_or z i line)) in
    let rest : P (map line_of rows) = λ inside.
    let is : line_of row ≡ get_or (map line_of rows) i line = ap line_of at
    ∙ sym (get_or-map line_of rows i row line (omega (arith, length-map rows line_of))) in
    map-set line_of rows i new ∙ ap (λ (z : Line). set (map line_of rows) i z) (again ∙ ap once_more is) in
    subst P seen rest within

-- a row's runs are among all
pub times_fit : (rows : List Row) (i : ℕ) (row : Row) (lines : List Line) → map line_of rows ≡ lines → i < length lines → row ≡ get_or rows i row
    → row.times ≤ times_of lines
times_fit rows i row lines seen within at =
    let P : List Line → Type 0 = λ z. i < length z → row.times ≤ times_of z in
    let rest : P (map line_of rows) = λ inside.
    let is : line_of row ≡ get_or (map line_of rows) i (line_of row) = ap line_of at
    ∙ sym (get_or-map line_of rows i row (line_of row) (omega (arith, length-map rows line_of))) in
    omega (arith, ap (λ (z : Line). z.times) is, get_or-le-sum_by (λ line. line.times) (map line_of rows) i (line_of row) inside) in
    subst P seen rest within
