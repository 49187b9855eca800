-- The commands of a script, one more at a time.
use Rattle.std.proofs.Common.{◌≡◌, ℕ, ◌+◌, ◌-◌, ◌≤◌, List, [], ◌∷◌, ◌++◌, length, take, reverse, refl}
use Rattle.std.proofs.Common.{ap, sym, ◌∙◌, subst, arith, slice_get, Some, None, Bool, true, false, not, length-drop}
use Rattle.std.specs.List.{All}
use Rattle.std.proofs.lemmas.List.{reverse-append}
use Rattle.std.proofs.lemmas.List.Elements.{All-nil, All-cons, All-same}
use Rattle.vm_model.specs.declared.command.Numbered.{Numbered}
use Rattle.vm_seen.specs.Behind.{later_of, oldest_items}
use Rattle.vm_base.proofs.Lists.{oldest_step}
use Rattle.vm_seen.proofs.Behind.{later_none, later_step}
use Rattle.vm_litmus.specs.Parts.{IsSettled, access_of, accesses_in, is_settle, last_line}
use Rattle.vm_litmus.specs.declared.parts.FreeAccess.{FreeAccess}

pub settled_now : (commands : List Numbered) (i : ℕ) (now : Numbered) → slice_get (reverse commands) i ≡ Some now → is_settle now.command ≡ true
    → IsSettled (oldest_items (i + 1) commands)
settled_now commands i now found is = subst IsSettled (sym (oldest_step commands i now found)) is

-- what holds of the oldest holds of one more
pub oldest_more : {A : Type 0} (P : A → Type 0) (h : List A) (i : ℕ) (e : A) → slice_get (reverse h) i ≡ Some e → All P (oldest_items i h) → P e
    → All P (oldest_items (i + 1) h)
oldest_more P h i e found past here = All-same P (oldest_items (i + 1) h) (e ∷ oldest_items i h) (oldest_step h i e found)
    (All-cons P e (oldest_items i h) here past)

pub all_behind_none : {A : Type 0} (P : A → Type 0) (h : List A) (from : ℕ) → All P (later_of from (oldest_items from h))
all_behind_none P h from = All-same P (later_of from (oldest_items from h)) [] (later_none h from) (All-nil P)

-- what holds of those behind a place holds of one more
pub later_more : {A : Type 0} (P : A → Type 0) (h : List A) (from i : ℕ) (e : A) → from ≤ i → slice_get (reverse h) i ≡ Some e
    → All P (later_of from (oldest_items i h)) → P e
    → All P (later_of from (oldest_items (i + 1) h))
later_more P h from i e order found past here =
    All-same P (later_of from (oldest_items (i + 1) h)) (e ∷ later_of from (oldest_items i h)) (later_step h from i e order found)
    (All-cons P e (later_of from (oldest_items i h)) here past)

-- nothing stands behind a place that isn't reached
pub later_before : {A : Type 0} (h : List A) (from i : ℕ) → i ≤ from → later_of from (oldest_items i h) ≡ []
later_before h from i order =
    let none : length (oldest_items i h) - from ≡ 0 = omega (arith, length-drop (length h - i) h) in ap (λ z. take z (oldest_items i h)) none

pub all_before : {A : Type 0} (P : A → Type 0) (h : List A) (from i : ℕ) → i ≤ from → All P (later_of from (oldest_items i h))
all_before P h from i order = All-same P (later_of from (oldest_items i h)) [] (later_before h from i order) (All-nil P)

-- the accesses so far, and one command more
pub accesses-some : (now : Numbered) (older : List Numbered) (access : FreeAccess) → access_of now ≡ Some access
    → accesses_in (now ∷ older) ≡ access ∷ accesses_in older
accesses-some now older access is = ap (λ z. elim z [ Some found ↦ found ∷ accesses_in older | None ↦ accesses_in older ]) is

pub accesses-none : (now : Numbered) (older : List Numbered) → access_of now ≡ None → accesses_in (now ∷ older) ≡ accesses_in older
accesses-none now older is = ap (λ z. elim z [ Some found ↦ found ∷ accesses_in older | None ↦ accesses_in older ]) is

pub found_more : (commands : List Numbered) (from i : ℕ) (now : Numbered) (access : FreeAccess) (found : List FreeAccess) → from ≤ i
    → slice_get (reverse commands) i ≡ Some now → access_of now ≡ Some access
    → found ≡ reverse (accesses_in (later_of from (oldest_items i commands)))
    → found ++ access ∷ [] ≡ reverse (accesses_in (later_of from (oldest_items (i + 1) commands)))
found_more commands from i now access found order here is past =
    let older = later_of from (oldest_items i commands) in
    ap (λ z. z ++ access ∷ []) past ∙
    (sym (reverse-append (access ∷ []) (accesses_in older))
    ∙ (ap reverse (sym (accesses-some now older access is)) ∙ ap (λ z. reverse (accesses_in z)) (sym (later_step commands from i now order here))))

pub found_same : (commands : List Numbered) (from i : ℕ) (now : Numbered) (found : List FreeAccess) → from ≤ i → slice_get (reverse commands) i ≡ Some now
    → access_of now ≡ None
    → found ≡ reverse (accesses_in (later_of from (oldest_items i commands))) → found ≡ reverse (accesses_in (later_of from (oldest_items (i + 1) commands)))
found_same commands from i now found order here is past =
    let older = later_of from (oldest_items i commands) in
    past ∙ (ap reverse (sym (accesses-none now older is)) ∙ ap (λ z. reverse (accesses_in z)) (sym (later_step commands from i now order here)))

pub not_not : (b : Bool) → not b ≡ false → b ≡ true
not_not true is = refl
not_not false is = sym is

pub last_line_now : (commands : List Numbered) (i n : ℕ) (now : Numbered) → slice_get (reverse commands) i ≡ Some now → i + 1 ≡ n
    → now.line ≡ last_line (oldest_items n commands)
last_line_now commands i n now found next = ap last_line (sym (oldest_step commands i now found)) ∙ ap (λ z. last_line (oldest_items z commands)) next
