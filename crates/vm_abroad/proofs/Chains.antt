-- Chains of a host's objects are the same after others were made, and after others' were merged.
use Rattle.std.proofs.Common.{◌≡◌, ℕ, zero, suc, ◌+◌, ◌<◌, true, false, refl, sym, subst, List}
use Rattle.vm_model.specs.declared.event.Event.{Event}
use Rattle.vm_model.specs.declared.script.Header.{Header}
use Rattle.vm_model.specs.Regions.{Backing, backing_of, next_object}
use Rattle.vm_legal.specs.Walks.{Below, Leads, Passes, Sight, Sinks, Walks}
use Rattle.vm_abroad.specs.Sound.{IsMade, IsObjectOf}

-- the links of what was made on the host are as they were
abbrev pub SameLinks : Header → ℕ → List Event → List Event → Type 0
SameLinks header h old new = (o : ℕ) → o < next_object header old → IsObjectOf header h o old → backing_of header o new ≡ backing_of header o old

pub made_below : (header : Header) (h o : ℕ) (past : List Event) → IsMade header h o past → (backing_of header o past).backed ≡ true
    → IsMade header h (backing_of header o past).under past
made_below header h o past made backed n u below = made (suc n) u (backed, below)

pub below_was : (header : Header) (h : ℕ) (old new : List Event) → SameLinks header h old new → (n o u : ℕ) → IsMade header h o old
    → Below (λ k. backing_of header k new) n o u → Below (λ k. backing_of header k old) n o u
below_was header h old new same zero o u made is = is
below_was header h old new same (suc n) o u made is =
    let link : backing_of header o new ≡ backing_of header o old = same o (made 0 o refl).0 (made 0 o refl).1 in
    let backed : (backing_of header o old).backed ≡ true = subst (λ (l : Backing). l.backed ≡ true) link is.0 in (
      backed,
      below_was header h old new same n (backing_of header o old).under u (made_below header h o old made backed)
          (subst (λ (l : Backing). Below (λ k. backing_of header k new) n l.under u) link is.1),
    )

pub below_is : (header : Header) (h : ℕ) (old new : List Event) → SameLinks header h old new → (n o u : ℕ) → IsMade header h o old
    → Below (λ k. backing_of header k old) n o u → Below (λ k. backing_of header k new) n o u
below_is header h old new same zero o u made is = is
below_is header h old new same (suc n) o u made is =
    subst (λ (l : Backing). (l.backed ≡ true) × Below (λ k. backing_of header k new) n l.under u) (sym (same o (made 0 o refl).0 (made 0 o refl).1))
    (is.0, below_is header h old new same n (backing_of header o old).under u (made_below header h o old made is.0) is.1)

pub leads_is : (header : Header) (h : ℕ) (old new : List Event) → SameLinks header h old new → (n o p l lp : ℕ) → IsMade header h o old
    → Leads (λ k. backing_of header k old) n o p l lp → Leads (λ k. backing_of header k new) n o p l lp
leads_is header h old new same zero o p l lp made is = is
leads_is header h old new same (suc n) o p l lp made is =
    subst (λ (b : Backing). (b.backed ≡ true) × Leads (λ k. backing_of header k new) n b.under (b.shift + p) l lp)
    (sym (same o (made 0 o refl).0 (made 0 o refl).1)) (
      is.0,
      leads_is header h old new same n (backing_of header o old).under ((backing_of header o old).shift + p) l lp (made_below header h o old made is.0)
          is.1,
    )

pub walks_is : (header : Header) (h : ℕ) (old new : List Event) → SameLinks header h old new → (before after : ℕ → ℕ → Sight)
    → ((k q : ℕ) → after k q ≡ before k q)
    → (n o p l lp : ℕ) → IsMade header h o old
    → Walks before (λ k. backing_of header k old) n o p l lp → Walks after (λ k. backing_of header k new) n o p l lp
walks_is header h old new same before after sights zero o p l lp made is = is
walks_is header h old new same before after sights (suc n) o p l lp made is =
    let later : ((backing_of header o new).backed ≡ true)
    × Walks after (λ k. backing_of header k new) n (backing_of header o new).under ((backing_of header o new).shift + p) l lp =
    subst (λ (b : Backing). (b.backed ≡ true) × Walks after (λ k. backing_of header k new) n b.under (b.shift + p) l lp)
    (sym (same o (made 0 o refl).0 (made 0 o refl).1)) (
      is.1,
      walks_is header h old new same before after sights n (backing_of header o old).under ((backing_of header o old).shift + p) l lp
          (made_below header h o old made is.1) is.2,
    ) in
    (subst (λ (s : Sight). Passes s) (sym (sights o p)) is.0, later.0, later.1)

pub sinks_is : (header : Header) (h : ℕ) (old new : List Event) → SameLinks header h old new → (before after : ℕ → ℕ → Sight)
    → ((k q : ℕ) → after k q ≡ before k q)
    → (n o p : ℕ) → IsMade header h o old
    → Sinks before (λ k. backing_of header k old) n o p → Sinks after (λ k. backing_of header k new) n o p
sinks_is header h old new same before after sights zero o p made is =
    (subst (λ (s : Sight). Passes s) (sym (sights o p)) is.0, subst (λ (b : Backing). b.backed ≡ false) (sym (same o (made 0 o refl).0 (made 0 o refl).1)) is.1)
sinks_is header h old new same before after sights (suc n) o p made is =
    let later : ((backing_of header o new).backed ≡ true)
    × Sinks after (λ k. backing_of header k new) n (backing_of header o new).under ((backing_of header o new).shift + p) =
    subst (λ (b : Backing). (b.backed ≡ true) × Sinks after (λ k. backing_of header k new) n b.under (b.shift + p))
    (sym (same o (made 0 o refl).0 (made 0 o refl).1)) (
      is.1,
      sinks_is header h old new same before after sights n (backing_of header o old).under ((backing_of header o old).shift + p)
          (made_below header h o old made is.1) is.2,
    ) in
    (subst (λ (s : Sight). Passes s) (sym (sights o p)) is.0, later.0, later.1)
