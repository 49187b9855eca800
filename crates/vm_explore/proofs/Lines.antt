-- What is kept and what is new behind one run more.
use Rattle.std.proofs.Common.{ℕ, ◌≡◌, ◌+◌, ◌⊎◌, Bool, true, false, nat_eq, List, [], ◌∷◌, if◌then◌else◌, sym, refl, inl, inr, subst, arith, ⊎_elim}
use Rattle.std.specs.Cmp.Lexicographic.{pointwise}
use Rattle.std.specs.List.{All, Any}
use Rattle.std.proofs.lemmas.Bool.Decides.{Decides-eqb}
use Rattle.std.proofs.lemmas.List.Sums.{sum_by-cons}
use Rattle.std.proofs.lemmas.Slice.Eq.{slice_eq-Decides}
use Rattle.vm_explore.specs.Tables.{IsKept, Line, counted, once_more, times_of}
use Rattle.vm_explore.proofs.Members.{All-from_IsIn, Any-of_IsIn, IsIn}

as_it_was : (line : Line) → IsKept line line
as_it_was line = record { values = refl; order = refl; times = inl refl }

with_one_more : (line : Line) → IsKept line (once_more line)
with_one_more line = record { values = refl; order = refl; times = inr refl }

abbrev Kept : List Line → Line → Type 0
Kept lines old = (new : Line) × IsIn new lines × IsKept old new

kept_behind : (b : Bool) (line old : Line) (more rest : List Line) → IsIn old (line ∷ more) → (IsIn old more → Kept rest old)
    → Kept (if b then once_more line ∷ more else line ∷ rest) old
kept_behind true line old more rest there others =
    ⊎_elim
    (λ (here : line ≡ old). (once_more line, inl refl, (let P : Line → Type 0 = λ z. IsKept z (once_more line) in subst P here (with_one_more line))))
    (λ (later : IsIn old more). (old, inr later, as_it_was old))
    there
kept_behind false line old more rest there others =
    ⊎_elim
    (λ (here : line ≡ old). (line, inl refl, (let P : Line → Type 0 = λ z. IsKept z line in subst P here (as_it_was line))))
    (λ (later : IsIn old more). let w = others later in (w.0, inr w.1, w.2))
    there

kept_in : (values order : List ℕ) (lines : List Line) (old : Line) → IsIn old lines → Kept (counted values order lines) old
kept_in values order [] old there = absurd there
kept_in values order (line ∷ more) old there = kept_behind (pointwise nat_eq values line.values) line old more (counted values order more) there
    (kept_in values order more old)

abbrev Was : List Line → Line → Type 0
Was lines new = (old : Line) × IsIn old lines × IsKept old new

was_behind : (b : Bool) (line new : Line) (more rest : List Line) (N : Type 0) → IsIn new (if b then once_more line ∷ more else line ∷ rest)
    → (IsIn new rest → Was more new ⊎ N) → Was (line ∷ more) new ⊎ N
was_behind true line new more rest N there others =
    ⊎_elim
    (λ (here : once_more line ≡ new). inl (line, inl refl, (let P : Line → Type 0 = λ z. IsKept line z in subst P here (with_one_more line))))
    (λ (later : IsIn new more). inl (new, inr later, as_it_was new))
    there
was_behind false line new more rest N there others =
    ⊎_elim
    (λ (here : line ≡ new). inl (line, inl refl, (let P : Line → Type 0 = λ z. IsKept line z in subst P here (as_it_was line))))
    (λ (later : IsIn new rest). ⊎_elim (λ (w : Was more new). inl (w.0, inr w.1, w.2)) (λ (n : N). inr n) (others later))
    there

was_in : (values order : List ℕ) (lines : List Line) (new : Line) → IsIn new (counted values order lines) → Was lines new
    ⊎ (new ≡ record { values = values; times = 1; order = order })
was_in values order [] new there = ⊎_elim (λ here. inr (sym here)) (λ (none : ⊥). absurd none) there
was_in values order (line ∷ more) new there =
    was_behind (pointwise nat_eq values line.values) line new more (counted values order more) (new ≡ record { values = values; times = 1; order = order })
    there (was_in values order more new)

abbrev There : List ℕ → List Line → Type 0
There values lines = (line : Line) × IsIn line lines × (line.values ≡ values)

there_behind : (b : Bool) (values : List ℕ) (line : Line) (more rest : List Line) → (b ≡ true → line.values ≡ values) → There values rest
    → There values (if b then once_more line ∷ more else line ∷ rest)
there_behind true values line more rest same there = (once_more line, inl refl, same refl)
there_behind false values line more rest same there = (there.0, inr there.1, there.2)

there_in : (values order : List ℕ) (lines : List Line) → There values (counted values order lines)
there_in values order [] = (record { values = values; times = 1; order = order }, inl refl, refl)
there_in values order (line ∷ more) =
    there_behind (pointwise nat_eq values line.values) values line more (counted values order more)
    (λ test. sym ((slice_eq-Decides Decides-eqb values line.values (pointwise nat_eq values line.values) refl).0 test))
    (there_in values order more)

times_behind : (b : Bool) (line : Line) (more rest : List Line) → times_of rest ≡ times_of more + 1
    → times_of (if b then once_more line ∷ more else line ∷ rest) ≡ times_of (line ∷ more) + 1
times_behind true line more rest later = omega (arith, sum_by-cons (λ z. z.times) (once_more line) more, sum_by-cons (λ z. z.times) line more)
times_behind false line more rest later = omega (arith, sum_by-cons (λ z. z.times) line rest, sum_by-cons (λ z. z.times) line more)

pub counted_times : (values order : List ℕ) (lines : List Line) → times_of (counted values order lines) ≡ times_of lines + 1
counted_times values order [] = omega arith
counted_times values order (line ∷ more) = times_behind (pointwise nat_eq values line.values) line more (counted values order more)
    (counted_times values order more)

pub counted_there : (values order : List ℕ) (lines : List Line) → Any (λ line. line.values ≡ values) (counted values order lines)
counted_there values order lines =
    let w = there_in values order lines in
    Any-of_IsIn (λ line. line.values ≡ values) w.0 (counted values order lines) w.1 w.2

pub counted_kept : (values order : List ℕ) (lines : List Line) → All (λ line. Any (IsKept line) (counted values order lines)) lines
counted_kept values order lines =
    All-from_IsIn (λ line. Any (IsKept line) (counted values order lines)) lines
    (λ line there. let w = kept_in values order lines line there in Any-of_IsIn (IsKept line) w.0 (counted values order lines) w.1 w.2)

pub counted_only : (values order : List ℕ) (lines : List Line)
    → All (λ line. Any (λ old. IsKept old line) lines ⊎ (line ≡ record { values = values; times = 1; order = order })) (counted values order lines)
counted_only values order lines =
    All-from_IsIn (λ line. Any (λ old. IsKept old line) lines ⊎ (line ≡ record { values = values; times = 1; order = order })) (counted values order lines)
    (λ line there. ⊎_elim (λ (w : Was lines line). inl (Any-of_IsIn (λ old. IsKept old line) w.0 lines w.1 w.2))
    (λ (new : line ≡ record { values = values; times = 1; order = order }). inr new) (was_in values order lines line there))
