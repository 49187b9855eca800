-- Kernels in their table, and what they say of all hosts.
use Rattle.vm_hosts.proofs.Common.{AllRest, Event, FramesSuffice, Header, HostTable, Ids, IfSome, IsCommon, List, None, Option, Parts, Rests, Some, [], ap}
use Rattle.vm_hosts.proofs.Common.{arith, common_of, eqb_tells, frames_used, get_or, inl, inr, length, length-reverse, refl, reverse, same_Some, set, slice_get}
use Rattle.vm_hosts.proofs.Common.{slice_get_read, slice_get_within, subst, suc, suffices, sym, true, zero, ℕ, ◌<◌, ◌==◌, ◌∷◌, ◌≡◌, ◌≢◌, ◌≤◌, ◌⊎◌}

pub same_number : (n : ℕ) → (n == n) ≡ true
same_number n = elim (eqb_tells n n) [ inl same ↦ same.0 | inr apart ↦ absurd (apart.1 refl) ]

-- the kernel with a number
pub kernel_at : (ks : List Parts) (h : ℕ) → h < length ks → (k : Parts) × (slice_get ks h ≡ Some k)
kernel_at [] h within = absurd (omega arith)
kernel_at (k ∷ ks) zero within = (k, refl)
kernel_at (k ∷ ks) (suc h) within = kernel_at ks h (omega arith)

-- one kernel was replaced
abbrev pub put : HostTable → ℕ → Parts → Ids → HostTable
put hosts h k ids = record { kernels = set hosts.kernels h k; ids = ids }

pub set_cases : (ks : List Parts) (h g : ℕ) (k m : Parts) → h < length ks → slice_get (set ks h k) g ≡ Some m → ((g ≡ h) × (k ≡ m))
    ⊎ ((g ≢ h) × (slice_get ks g ≡ Some m))
set_cases [] h g k m within is = absurd (omega arith)
set_cases (x ∷ ks) zero zero k m within is = inl (refl, same_Some k m is)
set_cases (x ∷ ks) zero (suc g) k m within is = inr (λ same. omega arith, is)
set_cases (x ∷ ks) (suc h) zero k m within is = inr (λ same. omega arith, is)
set_cases (x ∷ ks) (suc h) (suc g) k m within is = elim (set_cases ks h g k m (omega arith) is) [
  | inl same ↦ inl (ap (λ (n : ℕ). suc n) same.0, same.1)
  | inr apart ↦ inr (λ same. apart.0 (omega arith), apart.1)
]

-- the kernel of a host of the header
pub kernel_of : (header : Header) (hosts : HostTable) (past : List Event) → AllRest header hosts past → (h : ℕ) → h < length header.frames.items → (k : Parts)
    × (slice_get hosts.kernels h ≡ Some k)
kernel_of header hosts past all h known = let count = all.count in kernel_at hosts.kernels h (omega (arith, count, known))

-- the kernel that stands at a place
pub kernel_read : (ks : List Parts) (h : ℕ) (k : Parts) → h < length ks → k ≡ get_or ks h k → slice_get ks h ≡ Some k
kernel_read ks h k within read = slice_get_read ks (length ks) h k refl within read

-- what all of them say alike
pub common_all : (header : Header) (hosts : HostTable) (past : List Event) → AllRest header hosts past → IsCommon header hosts.ids past
common_all header hosts past all =
    let least = all.ranged.hosts.0 in
    let first = kernel_of header hosts past all 0 (omega (arith, least)) in
    common_of header 0 first.0 hosts.ids [] past (all.rests 0 first.0 first.1).matches

-- no host uses more frames than it has
pub all_suffice : (header : Header) (hosts : HostTable) (past : List Event) → AllRest header hosts past → FramesSuffice header past
all_suffice header hosts past all g = by_frames (slice_get (reverse header.frames.items) g) refl
  where
    by_frames : (x : Option ℕ) → slice_get (reverse header.frames.items) g ≡ x → IfSome x (λ frames. frames_used header g past ≤ frames)
    by_frames None is = tt
    by_frames (Some frames) is =
        let within = slice_get_within (reverse header.frames.items) g frames is in
        let same = length-reverse header.frames.items in
        let some = kernel_of header hosts past all g (omega (arith, within, same)) in
        subst (λ (z : Option ℕ). IfSome z (λ most. frames_used header g past ≤ most)) is
        (suffices header g some.0.memory.frames past (all.rests g some.0 some.1).matches.core.pages.counted)

-- the kernel of a host, which goes by its own number
pub record Found (header : Header) (hosts : HostTable) (past : List Event) (h : ℕ) (k : Parts) : Type 0 where
  pub at : slice_get hosts.kernels h ≡ Some k
  pub within : h < length hosts.kernels
  pub rests : Rests header k.host.0 k hosts.ids past
  pub number : k.host.0 ≡ h

pub found : (header : Header) (hosts : HostTable) (past : List Event) (h : ℕ) (k : Parts) → AllRest header hosts past → h < length header.frames.items
    → k ≡ get_or hosts.kernels h k → Found header hosts past h k
found header hosts past h k all known read =
    let count = all.count in
    let within : h < length hosts.kernels = omega (arith, count, known) in
    let at : slice_get hosts.kernels h ≡ Some k = slice_get_read hosts.kernels (length hosts.kernels) h k refl within read in
    let rests = all.rests h k at in
    record {
      at = at;
      within = within;
      rests = subst (λ (z : ℕ). Rests header z k hosts.ids past) (sym rests.matches.core.setting.numbered) rests;
      number = rests.matches.core.setting.numbered;
    }
