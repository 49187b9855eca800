-- What a host knows of its pages, behind an event: the word of a pager that it has none counts for temporary objects alone.
use Rattle.vm_kernel.proofs.Common.{Bool, Elsewhere, arith, eqb_tells, inl, inr, nat_tests, subst, ◌≤◌, FrameTable, HasPages, Header, Local, LocalEffect}
use Rattle.vm_kernel.proofs.Common.{ObjectTable, PageKey, Returns, ResidentTable, TakesNothing, TakesPage, TakesLock, ap, false, if◌then◌else◌, local_after}
use Rattle.vm_kernel.proofs.Common.{local_with_page, named, nat_lt, not, refl, true, ℕ, ◌&&◌, ◌==◌, ◌||◌, ◌∙◌, ◌≡◌}
use Rattle.vm_kernel.proofs.memory.PagesShown.{effect_on}
use Rattle.vm_state.specs.Places.{known_local}

-- the effect is another than that a pager has no page
abbrev pub IsOther : LocalEffect → Type 0
IsOther TakesNothing = ⊥
IsOther effect = Unit {0}

pub other_if : (b : Bool) (effect : LocalEffect) → IsOther effect → IsOther (if b then effect else Elsewhere)
other_if true effect is = is
other_if false effect is = tt

-- two tests for one effect are one
pub nested : (a b : Bool) (effect : LocalEffect) → (if a then (if b then effect else Elsewhere) else Elsewhere) ≡ (if a && b then effect else Elsewhere)
nested true b effect = refl
nested false b effect = refl

pub other_nested : (a b : Bool) (effect : LocalEffect) → IsOther effect → IsOther (if a then (if b then effect else Elsewhere) else Elsewhere)
other_nested true b effect is = other_if b effect is
other_nested false b effect is = tt

never : (b : Bool) → (b && false) ≡ false
never true = refl
never false = refl

-- what is known behind such an effect
pub known_after : (header : Header) (o p size : ℕ) (effect : LocalEffect) (was : Local) → IsOther effect
    → known_local header o p (local_after size effect was) ≡ local_after size effect (known_local header o p was)
known_after header o p size (Returns true) was is = ap (λ z. record was { dirty = false; precious = false; absent = z }) (never (not (nat_lt o (named header))))
known_after header o p size (Returns false) was is =
    ap (λ z. record (local_after size (Returns false) was) { absent = z }) (never (not (nat_lt o (named header))))
known_after header o p size (TakesPage lock precious bytes) was is = by was.asked
  where
    by : (b : Bool) → known_local header o p (if b then record (local_with_page bytes lock false precious was) { asked = false } else was)
        ≡ (if b then record (local_with_page bytes lock false precious (known_local header o p was)) { asked = false } else known_local header o p was)
    by true = refl
    by false = refl
known_after header o p size TakesNothing was is = absurd is
known_after header o p size (TakesLock lock flush) was is = by was.here
  where
    by : (b : Bool) → known_local header o p (if b then record was { lock = if flush || lock == 8 then was.lock else lock; unlocking = false } else was)
        ≡ (if b then record (known_local header o p was) { lock = if flush || lock == 8 then was.lock else lock; unlocking = false } else known_local header o p
        was)
    by true = refl
    by false = refl
known_after header o p size other was is = refl

-- so what is known of all pages
pub pages_known : (header : Header) (size : ℕ) {fs : FrameTable} {rs : ResidentTable} {os : ObjectTable} (effect_at : ℕ → ℕ → LocalEffect)
    (was_at : ℕ → ℕ → Local) → ((o p : ℕ) → IsOther (effect_at o p))
    → HasPages fs rs os (λ o p. local_after size (effect_at o p) (known_local header o p (was_at o p)))
    → HasPages fs rs os (λ o p. known_local header o p (local_after size (effect_at o p) (was_at o p)))
pages_known header size effect_at was_at is has = record { shown = λ o p. known_after header o p size (effect_at o p) (was_at o p) (is o p) ∙ has.shown o p }

-- that a pager has no page is known of a temporary object's
pub nothing_known : (header : Header) (o p size : ℕ) (was : Local) → named header ≤ o
    → known_local header o p (local_after size TakesNothing was) ≡ local_after size TakesNothing (known_local header o p was)
nothing_known header o p size was least = by was.asked
  where
    test : nat_lt o (named header) ≡ false
    test = grind (arith, nat_tests, least)

    by : (b : Bool) → known_local header o p (if b then record was { asked = false; absent = true } else was) ≡ (if b then record (known_local header o p was)
        { asked = false; absent = true } else known_local header o p was)
    by true = ap (λ b. record was { asked = false; absent = not b && true }) test
    by false = refl

-- where the effect is on one page, of which it leaves what counts
pub known_at : (header : Header) (size : ℕ) {fs : FrameTable} {rs : ResidentTable} {os : ObjectTable} (key : PageKey) (effect : LocalEffect)
    (was_at : ℕ → ℕ → Local)
    → ((was : Local) → known_local header key.object.0 key.page.0 (local_after size effect was) ≡ local_after size effect
    (known_local header key.object.0 key.page.0 was))
    → HasPages fs rs os (effect_on size key effect (λ o p. known_local header o p (was_at o p)))
    → HasPages fs rs os (λ o p. known_local header o p (effect_on size key effect was_at o p))
known_at header size key effect was_at is has = record { shown = λ o p. commutes o p (was_at o p) ∙ has.shown o p }
  where
    Commutes : ℕ → ℕ → Bool → Local → Type 0
    Commutes o p b was =
        known_local header o p (local_after size (if b then effect else Elsewhere) was) ≡ local_after size (if b then effect else Elsewhere)
        (known_local header o p was)

    commutes : (o p : ℕ) (was : Local) → Commutes o p (key.object.0 == o && key.page.0 == p) was
    commutes o p was = elim (eqb_tells key.object.0 o) [
      | inl same ↦ elim (eqb_tells key.page.0 p) [
        | inl also ↦ rw (same.0, also.0) (subst (λ (z : ℕ). Commutes o z true was) also.1 (subst (λ (z : ℕ). Commutes z key.page.0 true was) same.1 (is was)))
        | inr apart ↦ rw (same.0, apart.0) refl
      ]
      | inr apart ↦ rw apart.0 refl
    ]

-- where the effect is on one page
pub known_on : (header : Header) (size : ℕ) {fs : FrameTable} {rs : ResidentTable} {os : ObjectTable} (key : PageKey) (effect : LocalEffect)
    (was_at : ℕ → ℕ → Local) → IsOther effect
    → HasPages fs rs os (effect_on size key effect (λ o p. known_local header o p (was_at o p)))
    → HasPages fs rs os (λ o p. known_local header o p (effect_on size key effect was_at o p))
known_on header size key effect was_at is has =
    pages_known header size (λ o p. if key.object.0 == o && key.page.0 == p then effect else Elsewhere) was_at
    (λ o p. other_if (key.object.0 == o && key.page.0 == p) effect is) has
