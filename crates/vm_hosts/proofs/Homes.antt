-- On which host a task lives.
use Rattle.vm_hosts.proofs.Common.{AllRest, Event, Header, HostTable, List, None, Option, Parts, Some, ap, arith, entries_in, eqb_tells, false, host_of, inl}
use Rattle.vm_hosts.proofs.Common.{inr, is_on, is_some, length, refl, same_Some, slice_get, subst, sym, true, ℕ, ℕ_discrete, ◌+◌, ◌<◌, ◌∙◌, ◌≡◌}
use Rattle.vm_hosts.proofs.Tables.{kernel_of, same_number}

-- a host's tasks are those of its kernel
pub home_is : (h : ℕ) (x : Option ℕ) → is_on h x ≡ true → x ≡ Some h
home_is h None is = absurd (let bad : false ≡ true = is in cc)
home_is h (Some own) is = elim (eqb_tells own h) [
  | inl same ↦ ap (λ (n : ℕ). Some n) same.1
  | inr apart ↦ absurd (let bad : false ≡ true = sym apart.0 ∙ is in cc)
]

pub home_found : (header : Header) (hosts : HostTable) (past : List Event) (task h : ℕ) (k : Parts) → AllRest header hosts past
    → slice_get hosts.kernels h ≡ Some k → is_some (entries_in task k.maps) ≡ true → host_of task past ≡ Some h
home_found header hosts past task h k all found here = home_is h (host_of task past) ((all.rests h k found).matches.core.spaces.tasks.hosts task ∙ here)

-- none of the hosts below a number has the task
abbrev pub NotBelow : ℕ → HostTable → ℕ → Type 0
NotBelow n hosts task = (h : ℕ) (k : Parts) → h < n → slice_get hosts.kernels h ≡ Some k → is_some (entries_in task k.maps) ≡ false

pub not_below_more : (hosts : HostTable) (task n : ℕ) (k : Parts) → slice_get hosts.kernels n ≡ Some k → is_some (entries_in task k.maps) ≡ false
    → NotBelow n hosts task → NotBelow (n + 1) hosts task
not_below_more hosts task n k at none was h m less found = elim (ℕ_discrete h n) [
  | yes same ↦
      let one : Some k ≡ Some m = sym at ∙ (ap (slice_get hosts.kernels) (sym same) ∙ found) in
      subst (λ (z : Parts). is_some (entries_in task z.maps) ≡ false) (same_Some k m one) none
  | no apart ↦ was h m (omega (arith, less, apart)) found
]

pub home_nowhere : (header : Header) (hosts : HostTable) (past : List Event) (task n : ℕ) → AllRest header hosts past → NotBelow n hosts task
    → length header.frames.items ≡ n → host_of task past ≡ None
home_nowhere header hosts past task n all none count = by_home (host_of task past) refl
  where
    by_home : (x : Option ℕ) → host_of task past ≡ x → x ≡ None
    by_home None is = refl
    by_home (Some h) is =
        let known = all.tasks task h is in
        let some = kernel_of header hosts past all h known in
        let here : is_some (entries_in task some.0.maps) ≡ true = sym ((all.rests h some.0 some.1).matches.core.spaces.tasks.hosts task)
        ∙ (ap (is_on h) is ∙ same_number h) in
        let bad : false ≡ true = sym (none h some.0 (omega (arith, known, count)) some.1) ∙ here in
        absurd (cc)
