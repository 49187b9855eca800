-- A step of one host leaves the world standing for its history.
use Rattle.std.proofs.Common.{zero, suc, ◌≡◌, ◌≢◌, ◌<◌, ◌∙◌, ℕ, List, [], ◌∷◌, length, Option, Some, None, arith, refl, ap, sym, subst}
use Rattle.std.specs.Prelude.{slice_get}
use Rattle.std.proofs.Math.ListN.{set, length-set}
use Rattle.std.proofs.lemmas.List.{get_or-set_same}
use Rattle.std.proofs.lemmas.Option.{slice_get-get_or}
use native.Mathlib.Decide.{ℕ_discrete}
use Rattle.vm_model.specs.declared.event.Event.{Event}
use Rattle.vm_model.specs.Words.{Act}
use Rattle.vm_model.specs.Side.{Side, side}
use Rattle.vm_model.specs.PagePart.{world_part}
use Rattle.vm_model.specs.PageLicences.{ActsLicensed}
use Rattle.vm_model.specs.Coherence.{Done, SomebodyIsAwaited}
use Rattle.sms_pages.specs.Directory.{Directory}
use Rattle.sms_pages.specs.Stands.{StandsFor}
use Rattle.sms_proto.specs.declared.kernel.Kernel.{Kernel}
use Rattle.sms_proto.specs.Worlds.{Moved, Present, SameHostSide, StandsAt, WorldStands}
use Rattle.sms_proto.proofs.Beginning.{fits_same}

-- a host to which nothing happens

kept_present : (size g : ℕ) (old new : List Event) (k : Kernel) → Present size g old k → SameHostSide size g old new → Present size g new k
kept_present size g old new k p kept =
    record {
      same_host = p.same_host;
      same_size = p.same_size;
      fits = fits_same old new k k.want mine.same_side (mine.same_waits ∙ p.fits.waits) mine.same_up mine.same_down p.fits.asked_waits p.fits;
      prompt = p.prompt;
    } where
      mine : SameHostSide k.size k.host.0 old new
      mine = subst (λ (n : ℕ). SameHostSide n k.host.0 old new) (sym p.same_size) (subst (λ (n : ℕ). SameHostSide size n old new) (sym p.same_host) kept)

pub kept_at : (size g : ℕ) (old new : List Event) (o : Option Kernel) → StandsAt size g old o → SameHostSide size g old new → StandsAt size g new o
kept_at size g old new None a kept = record { nothing = kept.same_side ∙ a.nothing; no_waits = kept.same_waits ∙ a.no_waits }
kept_at size g old new (Some k) p kept = kept_present size g old new k p kept

pub step_at : (size g : ℕ) (history : List Event) (o : Option Kernel) → StandsAt size g history o → (side g (world_part size history)).step ≡ 0
step_at size g history None a = ap (λ (s : Side). s.step) a.nothing
step_at size g history (Some k) p =
    subst (λ (n : ℕ). (side g (world_part n history)).step ≡ 0) p.same_size (subst (λ (n : ℕ). (side n (world_part k.size history)).step ≡ 0) p.same_host
    p.fits.step)

pub get_set_same : (ks : List Kernel) (h : ℕ) (k : Kernel) → h < length ks → slice_get (set ks h k) h ≡ Some k
get_set_same ks h k within =
    slice_get-get_or (set ks h k) h k (omega (arith, length-set {A = Kernel} ks h k)) ∙ ap (λ (x : Kernel). Some x) (get_or-set_same ks h k k within)

pub get_set_other : (ks : List Kernel) (h g : ℕ) (k : Kernel) → g ≢ h → slice_get (set ks h k) g ≡ slice_get ks g
get_set_other [] h g k apart = refl
get_set_other (x ∷ ks) zero zero k apart = absurd (apart refl)
get_set_other (x ∷ ks) zero (suc g) k apart = refl
get_set_other (x ∷ ks) (suc h) zero k apart = refl
get_set_other (x ∷ ks) (suc h) (suc g) k apart = get_set_other ks h g k (λ e. apart (ap (λ (n : ℕ). suc n) e))

pub each_after : (size : ℕ) (ks : List Kernel) (h : ℕ) (k : Kernel) (old new : List Event) → h < length ks → ((g : ℕ) → StandsAt size g old (slice_get ks g))
    → ((g : ℕ) → g ≢ h → SameHostSide size g old new) → Present size h new k → (g : ℕ) → StandsAt size g new (slice_get (set ks h k) g)
each_after size ks h k old new within each kept own g = elim (ℕ_discrete g h) [
  | yes e ↦ subst (λ (n : ℕ). StandsAt size n new (slice_get (set ks h k) n)) (sym e)
      (subst (λ (o : Option Kernel). StandsAt size h new o) (sym (get_set_same ks h k within)) own)
  | no e ↦ subst (λ (o : Option Kernel). StandsAt size g new o) (sym (get_set_other ks h g k e)) (kept_at size g old new (slice_get ks g) (each g) (kept g e))
]

-- the line and who is awaited stay
served_same : (size : ℕ) (d : Directory) (old new : List Act) → StandsFor size d old → StandsFor size d new → SomebodyIsAwaited old → SomebodyIsAwaited new
served_same size d old new a b served some =
    let awaited = served (λ none. some (b.same_line ∙ (sym a.same_line ∙ none))) in
    (awaited.0, subst (λ (n : ℕ). 0 < n) (a.same_awaits awaited.0 ∙ sym (b.same_awaits awaited.0)) awaited.1)

pub stands_host : (size : ℕ) (ks : List Kernel) (d : Directory) (old new : List Event) (h : ℕ) (k : Kernel) → h < length ks → WorldStands size ks d old
    → Present size h new k → ActsLicensed size (world_part size new) → Moved size h old new → WorldStands size (set ks h k) d new
stands_host size ks d old new h k within w own licensed moved =
    record {
      licensed = licensed;
      steps = moved.steps done w.steps;
      served = served_same size d (world_part size old) (world_part size new) w.noted (moved.stands d w.noted) w.served;
      noted = moved.stands d w.noted;
      each = each_after size ks h k old new within w.each (λ g apart. moved.kept g apart (done g)) own;
      few = omega (arith, w.few, length-set {A = Kernel} ks h k);
      long = w.long;
    } where
      done : Done (world_part size old)
      done g = step_at size g old (slice_get ks g) (w.each g)
