-- A world at its beginning.
use Rattle.std.proofs.Common.{inl, inr, zero, suc, ◌≡◌, ◌≤◌, ℕ, List, [], ◌∷◌, ◌++◌, Option, Some, refl, ap, sym, subst, length}
use Rattle.std.specs.Prelude.{slice_get, ◌⊎◌}
use Rattle.sms_pages.specs.Directory.{Directory, IsNewDirectory}
use Rattle.sms_pages.proofs.Taken.{begins}
use Rattle.sms_proto.specs.declared.kernel.Kernel.{Kernel}
use Rattle.sms_proto.specs.Worlds.{Present, StandsAt, WorldStands}

get_end : (ks : List Kernel) (k : Kernel) (g : ℕ) → (slice_get (ks ++ k ∷ []) g ≡ slice_get ks g) ⊎ ((g ≡ length ks) × (slice_get (ks ++ k ∷ []) g ≡ Some k))
get_end [] k zero = inr (refl, refl)
get_end [] k (suc g) = inl refl
get_end (x ∷ ks) k zero = inl refl
get_end (x ∷ ks) k (suc g) = elim (get_end ks k g) [
  | inl same ↦ inl same
  | inr end ↦ inr (ap (λ (n : ℕ). suc n) end.0, end.1)
]

pub pushed_each : (size : ℕ) (ks : List Kernel) (k : Kernel) → ((g : ℕ) → StandsAt size g [] (slice_get ks g)) → Present size (length ks) [] k → (g : ℕ)
    → StandsAt size g [] (slice_get (ks ++ k ∷ []) g)
pushed_each size ks k each own g = elim (get_end ks k g) [
  | inl same ↦ subst (λ (o : Option Kernel). StandsAt size g [] o) (sym same) (each g)
  | inr end ↦ subst (λ (o : Option Kernel). StandsAt size g [] o) (sym end.1) (subst (λ (n : ℕ). Present size n [] k) (sym end.0) own)
]

pub none_each : (size g : ℕ) → StandsAt size g [] (slice_get [] g)
none_each size g = record { nothing = refl; no_waits = refl }

pub starts : (size : ℕ) (ks : List Kernel) (d : Directory) → IsNewDirectory size d → ((g : ℕ) → StandsAt size g [] (slice_get ks g)) → length ks ≤ 8
    → length d.bytes ≡ size → WorldStands size ks d []
starts size ks d new each few long =
    record {
      licensed = tt;
      steps = tt;
      served = λ some. absurd (some refl);
      noted = begins size d new;
      each = each;
      few = few;
      long = long;
    }
