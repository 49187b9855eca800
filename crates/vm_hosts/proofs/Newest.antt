-- The kernels before anything has happened.
use Rattle.vm_hosts.proofs.Common.{AllRest, AreNew, HasQueue, Header, IsRanged, List, None, Parts, Rests, Some, [], ap, first_ids, inl, inr, length}
use Rattle.vm_hosts.proofs.Common.{length-append, refl, same_Some, slice_get, sound_start, subst, suc, sym, zero, ℕ, ◌++◌, ◌+◌, ◌∙◌, ◌∷◌, ◌≡◌, ◌⊎◌}

-- one kernel more, at the end
more_cases : (ks : List Parts) (k m : Parts) (h : ℕ) → slice_get (ks ++ k ∷ []) h ≡ Some m → (slice_get ks h ≡ Some m) ⊎ ((length ks ≡ h) × (k ≡ m))
more_cases [] k m zero is = inr (refl, same_Some k m is)
more_cases [] k m (suc h) is = absurd (let bad : None ≡ Some m = is in cc)
more_cases (x ∷ ks) k m zero is = inl is
more_cases (x ∷ ks) k m (suc h) is = elim (more_cases ks k m h is) [ inl was ↦ inl was | inr last ↦ inr (ap (λ (n : ℕ). suc n) last.0, last.1) ]

pub none_new : (header : Header) → AreNew header 0 []
none_new header =
    record { count = refl; rests = λ h k is. absurd (let bad : None ≡ Some k = is in cc); queues = λ h k is. absurd (let bad : None ≡ Some k = is in cc) }

pub new_more : (header : Header) (n : ℕ) (ks : List Parts) (k : Parts) → AreNew header n ks → Rests header n k (first_ids header) [] → HasQueue header n k []
    → AreNew header (n + 1) (ks ++ k ∷ [])
new_more header n ks k was rests queue = record {
  count = length-append ks (k ∷ []) ∙ ap (λ (z : ℕ). z + 1) was.count;
  rests = λ h m is. elim (more_cases ks k m h is) [
    | inl old ↦ was.rests h m old
    | inr last ↦ subst (λ (z : ℕ). Rests header z m (first_ids header) []) (sym was.count ∙ last.0)
        (subst (λ (z : Parts). Rests header n z (first_ids header) []) last.1 rests)
  ];
  queues = λ h m is. elim (more_cases ks k m h is) [
    | inl old ↦ was.queues h m old
    | inr last ↦ subst (λ (z : ℕ). HasQueue header z m []) (sym was.count ∙ last.0) (subst (λ (z : Parts). HasQueue header n z []) last.1 queue)
  ];
}

pub all_new : (header : Header) (ks : List Parts) → IsRanged header → AreNew header (length header.frames.items) ks
    → AllRest header (record { kernels = ks; ids = first_ids header }) []
all_new header ks ranged new =
    record {
      ranged = ranged;
      count = new.count;
      rests = new.rests;
      sound = sound_start header;
      tasks = λ task h is. absurd (let bad : None ≡ Some h = is in cc);
      homes = λ r h is. absurd (let bad : None ≡ Some h = is in cc);
    }
