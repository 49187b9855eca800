-- The flags by which declared objects stay without an entry, once the row of an object has changed.
use Rattle.vm_kernel.proofs.Common.{Bool, List, None, ObjectRow, ObjectTable, Option, PutsObject, SameObjects, Some, [], ap, arith, eqb_tells, false}
use Rattle.vm_kernel.proofs.Common.{if◌then◌else◌, inl, inr, not, object_at, one_case, refl, subst, sym, true, ℕ, ◌&&◌, ◌==◌, ◌∙◌, ◌∷◌, ◌≡◌, ◌≤◌}
use Rattle.vm_legal.specs.Accesses.{is_ready}
use Rattle.vm_legal.specs.Cached.{is_cached}
use Rattle.vm_model.specs.Controls.{is_control, live_control, without_control}
use Rattle.vm_model.specs.declared.event.Event.{Event}
use Rattle.vm_model.specs.declared.event.Event.TheVariants as event
use Rattle.vm_model.specs.declared.message.Channel.TheVariants.{Down, Up}
use Rattle.vm_model.specs.declared.message.Message.TheVariants as message
use Rattle.vm_state.specs.Pagers.{cached_in}
use Rattle.vm_state.specs.Stands.{HasFlags}
use Rattle.vm_parts.specs.Changes.{one}

-- a flag counts as one reference at most
pub flag_few : (cache : Bool) → one cache ≤ 1
flag_few true = omega arith
flag_few false = omega arith

-- each object is known as before
pub flags_same : {d : ℕ} {os os2 : ObjectTable} {cached_at : ℕ → Bool} → SameObjects os os2 → HasFlags d os cached_at → HasFlags d os2 cached_at
flags_same same has = λ o less. has o less ∙ sym (ap cached_in (same.at o))

-- the row of one is another with the same flag
pub flags_put : {d : ℕ} {os os2 : ObjectTable} {cached_at : ℕ → Bool} (o : ℕ) (row : ObjectRow) → PutsObject o (Some row) os os2
    → cached_in (object_at os o) ≡ row.cache → HasFlags d os cached_at → HasFlags d os2 cached_at
flags_put {os = os} {os2 = os2} o row put same has = λ x less. elim (one_case o x (Some row) (object_at os x) (object_at os2 x) (put.at x)) [
  | inl this ↦ has x less ∙ (subst (λ (z : ℕ). cached_in (object_at os z) ≡ row.cache) this.0 same ∙ sym (ap cached_in this.1))
  | inr other ↦ has x less ∙ sym (ap cached_in other.1)
]

-- or that of a temporary object, whose flag counts for nothing
pub flags_temporary : {d : ℕ} {os os2 : ObjectTable} {cached_at : ℕ → Bool} (o : ℕ) (row : Option ObjectRow) → d ≤ o → PutsObject o row os os2
    → HasFlags d os cached_at → HasFlags d os2 cached_at
flags_temporary {os = os} {os2 = os2} o row temporary put has = λ x less. elim (one_case o x row (object_at os x) (object_at os2 x) (put.at x)) [
  | inl this ↦ let same = this.0 in absurd (omega (arith, same, temporary, less))
  | inr other ↦ has x less ∙ sym (ap cached_in other.1)
]

-- one object has this flag now
pub flags_set : {d : ℕ} {os os2 : ObjectTable} {cached_at : ℕ → Bool} (o : ℕ) (row : ObjectRow) (flag : Bool) → PutsObject o (Some row) os os2
    → row.cache ≡ flag → HasFlags d os cached_at → HasFlags d os2 (λ x. if o == x then flag else cached_at x)
flags_set {os = os} {os2 = os2} {cached_at = cached_at} o row flag put is has = λ x less.
    elim (one_case o x (Some row) (object_at os x) (object_at os2 x) (put.at x)) [
      | inl this ↦ elim (eqb_tells o x) [
        | inl same ↦ ap (λ b. if b then flag else cached_at x) same.0 ∙ (sym is ∙ sym (ap cached_in this.1))
        | inr apart ↦ absurd (apart.1 this.0)
      ]
      | inr other ↦ elim (eqb_tells o x) [
        | inl same ↦ absurd (other.0 same.1)
        | inr apart ↦ ap (λ b. if b then flag else cached_at x) apart.0 ∙ (has x less ∙ sym (ap cached_in other.1))
      ]
    ]

-- no object has the flag without a control that lives

-- a control begins or ends
flag_ends : (own : Bool) (now live : Option ℕ) (was : Bool) → (if own then now else live) ≡ None → (live ≡ None → was ≡ false)
    → (if own then false else was) ≡ false
flag_ends true now live was none before = refl
flag_ends false now live was none before = before none

-- nothing is said to the flag of an object without one
flag_unsaid : (own its first : Bool) (control : ℕ) (live : Option ℕ) (flag was : Bool) → live ≡ None → was ≡ false
    → (if own && (its && (is_control control live && first)) then flag else was) ≡ false
flag_unsaid false its first control live flag was none is = is
flag_unsaid true false first control live flag was none is = is
flag_unsaid true true first control live flag was none is = ap (λ z. if is_control control z && first then flag else was) none ∙ is

flag_unchanged : (own its : Bool) (control : ℕ) (live : Option ℕ) (flag was : Bool) → live ≡ None → was ≡ false
    → (if own && (its && is_control control live) then flag else was) ≡ false
flag_unchanged false its control live flag was none is = is
flag_unchanged true false control live flag was none is = is
flag_unchanged true true control live flag was none is = ap (λ z. if is_control control z then flag else was) none ∙ is

pub uncached_dead : (h o : ℕ) (past : List Event) → live_control h o past ≡ None → is_cached h o past ≡ false
uncached_dead h o [] none = refl
uncached_dead h o (event.Sent (Up host object) (message.Init control size) ∷ past) none =
    flag_ends (host.0 == h && object.0 == o) (Some control) (live_control h o past) (is_cached h o past) none (uncached_dead h o past)
uncached_dead h o (event.Sent (Up host object) (message.Create control size) ∷ past) none =
    flag_ends (host.0 == h && object.0 == o) (Some control) (live_control h o past) (is_cached h o past) none (uncached_dead h o past)
uncached_dead h o (event.Sent (Up host object) (message.Terminate control) ∷ past) none =
    flag_ends (host.0 == h && object.0 == o) (without_control control (live_control h o past)) (live_control h o past) (is_cached h o past) none
    (uncached_dead h o past)
uncached_dead h o (event.Taken (Down host object control) (message.Ready cache strategy) ∷ past) none =
    flag_unsaid (host.0 == h) (object.0 == o) (not (is_ready h o past)) control (live_control h o past) cache (is_cached h o past) none
    (uncached_dead h o past none)
uncached_dead h o (event.Taken (Down host object control) (message.Attributes cache strategy reply) ∷ past) none =
    flag_unchanged (host.0 == h) (object.0 == o) control (live_control h o past) cache (is_cached h o past) none (uncached_dead h o past none)
uncached_dead h o (e ∷ past) none = uncached_dead h o past none
