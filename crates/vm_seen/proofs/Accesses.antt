-- The accesses of commands and the begun ones of events, one more at a time.
use Rattle.std.proofs.Common.{◌≡◌, ◌≢◌, ◌⊎◌, inl, inr, ℕ, ◌+◌, ◌-◌, ◌≤◌, ◌==◌, true, false, cond, List, [], ◌∷◌, ◌++◌, length, drop, take, refl, ap, sym}
use Rattle.std.proofs.Common.{subst, ◌∙◌, append_assoc, append-nil, arith, length-append, reverse, slice_get, Option, Some, None}
use Rattle.std.proofs.Math.Seq.{drop-append_seam}
use Rattle.std.proofs.lemmas.Bool.{eq-eqb, ne_eqb}
use Rattle.std.proofs.lemmas.Bool.Decides.{eqb_tells}
use Rattle.std.proofs.lemmas.List.{get_or-append-add, length-reverse}
use Rattle.std.proofs.lemmas.List.Elements.{All-nil, All-cons}
use Rattle.std.proofs.lemmas.Option.{slice_get_within}
use Rattle.vm_model.specs.declared.command.Numbered.{Numbered}
use Rattle.vm_model.specs.declared.event.Event.{Event}
use Rattle.vm_model.specs.Waiting.{Access}
use Rattle.vm_free.specs.Free.{AreOldest, GoesOn, accesses_of, begins, begun, is_plain, made_to_begin}
use Rattle.vm_seen.specs.declared.begun.Begun.{Begun}
use Rattle.vm_seen.specs.Behind.{later_of, oldest_items}
use Rattle.vm_seen.specs.Begun.{access_at, access_of, of_task}
use Rattle.vm_seen.proofs.Behind.{later_splits, later_step}

pub of_own_task : (b : Begun) (t : ℕ) → b.task ≡ t → of_task t (Some b) ≡ access_of b ∷ []
of_own_task b t own = ap (λ z. cond z (access_of b ∷ []) []) (eq-eqb b.task t own)

pub of_other_task : (b : Begun) (t : ℕ) → b.task ≢ t → of_task t (Some b) ≡ []
of_other_task b t other = ap (λ z. cond z (access_of b ∷ []) []) (ne_eqb b.task t other)

-- an event more, and the accesses that it begins
pub begun_more : (t : ℕ) (e : Event) (history past : List Event) (front : List Access) → history ≡ e ∷ past → begins t e ≡ front
    → begun t history ≡ front ++ begun t past
begun_more t e history past front step is = ap (begun t) step ∙ ap (λ z. z ++ begun t past) is

-- a command more, and the accesses that it makes a task begin
pub accesses_more : (t : ℕ) (x : Numbered) (commands past : List Numbered) (front : List Access) → commands ≡ x ∷ past → made_to_begin t x.command ≡ front
    → accesses_of t commands ≡ front ++ accesses_of t past
accesses_more t x commands past front step is = ap (accesses_of t) step ∙ ap (λ z. z ++ accesses_of t past) is

accesses_append : (t : ℕ) (xs ys : List Numbered) → accesses_of t (xs ++ ys) ≡ accesses_of t xs ++ accesses_of t ys
accesses_append t [] ys = refl
accesses_append t (x ∷ xs) ys = ap (λ z. made_to_begin t x.command ++ z) (accesses_append t xs ys)
    ∙ sym (append_assoc (made_to_begin t x.command) (accesses_of t xs) (accesses_of t ys))

-- two last parts of one list that are as long are the same
same_part : {A : Type 0} (xs ys fronts backs : List A) → xs ++ ys ≡ fronts ++ backs → length ys ≡ length backs → ys ≡ backs
same_part xs ys fronts backs is long =
    let sums = ap length is in
    let cut : length xs ≡ length fronts = omega (arith, sums, long, length-append xs ys, length-append fronts backs) in
    sym (drop-append_seam xs ys) ∙ (ap (λ z. drop (length xs) z) is ∙ (ap (λ n. drop n (fronts ++ backs)) cut ∙ drop-append_seam fronts backs))

-- the access that stands right in front of the oldest ones of a list, of which as many are given
next_of : {A : Type 0} (front : List A) (a : A) (back older whole : List A) → whole ≡ front ++ (a ∷ back) → length back ≡ length older
    → AreOldest older whole → AreOldest (a ∷ older) whole
next_of front a back older whole is long oldest =
    let split : (front ++ (a ∷ [])) ++ back ≡ oldest.newer ++ older = append_assoc front (a ∷ []) back ∙ (sym is ∙ oldest.is) in
    let same : back ≡ older = same_part (front ++ (a ∷ [])) back oldest.newer older split long in
    record { newer = front; is = is ∙ ap (λ z. front ++ (a ∷ z)) same }

-- the command behind the oldest `i` makes its task begin its next access, where so many of the task's stand before
pub next_access : (commands : List Numbered) (from i t : ℕ) (a : Access) (older : List Access) → from ≤ i → i + 1 ≤ length commands
    → accesses_of t (later_of from (oldest_items (i + 1) commands)) ≡ a ∷ accesses_of t (later_of from (oldest_items i commands))
    → length older ≡ length (accesses_of t (later_of from (oldest_items i commands)))
    → AreOldest older (accesses_of t (later_of from commands)) → AreOldest (a ∷ older) (accesses_of t (later_of from commands))
next_access commands from i t a older order within step long oldest =
    let front = accesses_of t (take (length commands - (i + 1)) commands) in
    let back = accesses_of t (later_of from (oldest_items i commands)) in
    let split : accesses_of t (later_of from commands) ≡ front ++ (a ∷ back) =
    ap (λ z. accesses_of t z) (later_splits commands from (i + 1) (omega arith) within)
    ∙ (accesses_append t (take (length commands - (i + 1)) commands) (later_of from (oldest_items (i + 1) commands)) ∙ ap (λ z. front ++ z) step) in
    next_of front a back older (accesses_of t (later_of from commands)) split (sym long) oldest

-- what an event begins is put in front of what was begun
with_front : (free : List Numbered) (t : ℕ) (e : Event) (past : List Event) (front : List Access) → begins t e ≡ front
    → AreOldest (front ++ begun t past) (accesses_of t free) → AreOldest (begins t e ++ begun t past) (accesses_of t free)
with_front free t e past front is oldest =
    let Q : List Access → Type 0 = λ z. AreOldest (z ++ begun t past) (accesses_of t free) in subst Q (sym is) oldest

-- the begun accesses are the first ones still, with one that is its task's next
pub next_begun : (free : List Numbered) (b : Begun) (e : Event) (past : List Event)
    → ((t : ℕ) → begins t e ≡ of_task t (Some b)) → ((t : ℕ) → AreOldest (begun t past) (accesses_of t free))
    → AreOldest (access_of b ∷ begun b.task past) (accesses_of b.task free) → (t : ℕ) → AreOldest (begins t e ++ begun t past) (accesses_of t free)
next_begun free b e past is all next = λ t. each t (eqb_tells b.task t)
  where
    own : (t : ℕ) → b.task ≡ t → AreOldest ((access_of b ∷ []) ++ begun t past) (accesses_of t free)
    own t same = let Q : ℕ → Type 0 = λ u. AreOldest ((access_of b ∷ []) ++ begun u past) (accesses_of u free) in subst Q same next

    each : (t : ℕ) → (((b.task == t) ≡ true) × (b.task ≡ t)) ⊎ (((b.task == t) ≡ false) × (b.task ≢ t))
        → AreOldest (begins t e ++ begun t past) (accesses_of t free)
    each t (inl same) = with_front free t e past (access_of b ∷ []) (is t ∙ of_own_task b t same.1) (own t same.1)
    each t (inr other) = with_front free t e past [] (is t ∙ of_other_task b t other.1) (all t)

-- and with an event that begins none
pub none_begun : (free : List Numbered) (e : Event) (past : List Event) → ((t : ℕ) → begins t e ≡ [])
    → ((t : ℕ) → AreOldest (begun t past) (accesses_of t free)) → (t : ℕ) → AreOldest (begins t e ++ begun t past) (accesses_of t free)
none_begun free e past is all t = with_front free t e past [] (is t) (all t)

-- two accesses that are the same of one task were begun alike
same_access : (address size more_address more_size : ℕ) (value more_value : Option ℕ)
    → access_at address size value ≡ access_at more_address more_size more_value → (address ≡ more_address) × (size ≡ more_size) × (value ≡ more_value)
same_access address size more_address more_size None None is = (cc, cc, refl)
same_access address size more_address more_size None (Some other) is = absurd (cc)
same_access address size more_address more_size (Some value) None is = absurd (cc)
same_access address size more_address more_size (Some value) (Some other) is = (cc, cc, cc)

begun_of : ℕ → ℕ → ℕ → Option ℕ → Begun
begun_of task address size value = record { task = task; address = address; size = size; value = value }

same_begun : (a b : Begun) → a.task ≡ b.task → access_of a ≡ access_of b → a ≡ b
unfolding begun_of
same_begun a b task is =
    let parts = same_access a.address a.size b.address b.size a.value b.value is in
    ap (λ z. begun_of z a.address a.size a.value) task ∙ (ap (λ z. begun_of b.task z a.size a.value) parts.0
    ∙ (ap (λ z. begun_of b.task b.address z a.value) parts.1 ∙ ap (λ z. begun_of b.task b.address b.size z) parts.2))

-- a begun access is its task's next one only if it is the one that stands there
pub only_next : (made b : Begun) (older whole : List Access) → made.task ≡ b.task → AreOldest (access_of made ∷ older) whole
    → AreOldest (access_of b ∷ older) whole → made ≡ b
only_next made b older whole task mine other =
    let both = sym mine.is ∙ other.is in
    let same : access_of made ∷ older ≡ access_of b ∷ older = same_part mine.newer (access_of made ∷ older) other.newer (access_of b ∷ older) both refl in
    let head : access_of made ≡ access_of b = cc in
    same_begun made b task head

-- where a task has no more accesses, none is its next one
pub none_next : {A : Type 0} (a : A) (older whole : List A) (count : ℕ) → length older ≡ count → length whole ≤ count → AreOldest (a ∷ older) whole → ⊥
none_next a older whole count long short oldest = omega (arith, ap length oldest.is, length-append oldest.newer (a ∷ older), long)

begun_append : (t : ℕ) (xs ys : List Event) → begun t (xs ++ ys) ≡ begun t xs ++ begun t ys
begun_append t [] ys = refl
begun_append t (x ∷ xs) ys = ap (λ z. begins t x ++ z) (begun_append t xs ys) ∙ sym (append_assoc (begins t x) (begun t xs) (begun t ys))

-- what goes on went on before
goes_on_before : (free : List Numbered) (front back : List Event) → GoesOn free (front ++ back) → GoesOn free back
goes_on_before free front back goes = record {
  plain = λ k d within.
      let there = goes.plain (length front + k) d (omega (arith, length-append front back)) in
      subst (λ x. is_plain x ≡ true) (get_or-append-add front back k d) there;
  in_order = λ t.
      let oldest = goes.in_order t in
      let split = ap (λ z. oldest.newer ++ z) (begun_append t front back) in
      record { newer = oldest.newer ++ begun t front; is = oldest.is ∙ (split ∙ sym (append_assoc oldest.newer (begun t front) (begun t back))) };
}

-- where the whole goes on, each event behind the first ones is plain, and what it begins is its task's next access
pub goes_on_at : (free : List Numbered) (h : List Event) (from i : ℕ) (e : Event) → from ≤ i → slice_get (reverse h) i ≡ Some e
    → GoesOn free (later_of from h) → GoesOn free (e ∷ later_of from (oldest_items i h))
goes_on_at free h from i e order found goes =
    let inside = slice_get_within (reverse h) i e found in
    let P : List Event → Type 0 = λ z. GoesOn free z in
    let split = later_splits h from (i + 1) (omega arith) (omega (arith, length-reverse h)) in
    subst P (later_step h from i e order found) (goes_on_before free (take (length h - (i + 1)) h) (later_of from (oldest_items (i + 1) h))
    (subst P split goes))

pub first_next : (free : List Numbered) (b : Begun) (e : Event) (past : List Event) → begins b.task e ≡ of_task b.task (Some b) → GoesOn free (e ∷ past)
    → AreOldest (access_of b ∷ begun b.task past) (accesses_of b.task free)
first_next free b e past is goes =
    let Q : List Access → Type 0 = λ front. AreOldest (front ++ begun b.task past) (accesses_of b.task free) in
    subst Q (is ∙ of_own_task b b.task refl) (goes.in_order b.task)

pub goes_on_at_start : (free : List Numbered) (later : List Event) → later ≡ [] → GoesOn free later
goes_on_at_start free later none =
    let Q : List Event → Type 0 = λ z. GoesOn free z in
    subst Q (sym none) (record {
      plain = All-nil (λ e. is_plain e ≡ true);
      in_order = λ t. record { newer = accesses_of t free; is = sym (append-nil (accesses_of t free)) };
    })

pub goes_on_more : (free : List Numbered) (e : Event) (history past : List Event) → history ≡ e ∷ past → is_plain e ≡ true → GoesOn free past
    → ((t : ℕ) → AreOldest (begins t e ++ begun t past) (accesses_of t free)) → GoesOn free history
goes_on_more free e history past step plain goes all =
    let Q : List Event → Type 0 = λ z. GoesOn free z in
    subst Q (sym step) (record { plain = All-cons (λ x. is_plain x ≡ true) e past plain goes.plain; in_order = all })
