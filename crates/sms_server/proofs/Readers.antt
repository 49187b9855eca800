-- An upgrade stands in line only while its host holds Read, so an act that leaves what hosts hold leaves the line.
use Rattle.std.proofs.Common.{◌≡◌, ◌≢◌, ◌==◌, ◌&&◌, ℕ, List, [], ◌∷◌, ◌++◌, refl, ap, sym, ◌∙◌, Bool, true, false, if◌then◌else◌, arith}
use Rattle.std.proofs.lemmas.Bool.Decides.{nat_tests}
use native.Mathlib.Decide.{ℕ_discrete}
use Rattle.sms_pages.proofs.Facts.{other_side}
use Rattle.vm_model.proofs.Others.{others_holds}
use Rattle.vm_model.specs.Server.{Wanting, joined, line, stays, trimmed_line, without_request}
use Rattle.vm_model.specs.Side.{Side, side}
use Rattle.vm_model.specs.Words.{Asking, Unlocking, Returning, Doing, Ending, OtherUp, Supplying, Locking, Lacking, Failing, Readying, OtherDown, ActEffect}
use Rattle.vm_model.specs.Words.{Opens, SendsUp, TakenUp, SentDown, TakesDown, Puts, Drops, Begins, Loads, Stores, Fails, BeginsCopy, Copies, EndsCopy}
use Rattle.vm_model.specs.Words.{StepBegins, Nothing, Act}

-- whoever waits with an upgrade holds Read
abbrev pub AllRead : (ℕ → ℕ) → List Wanting → Type 0
AllRead holds [] = Unit {0}
AllRead holds (w ∷ ws) = (w.upgrade ≡ true → holds w.host ≡ 1) × AllRead holds ws

-- all but one host
abbrev OthersRead : ℕ → (ℕ → ℕ) → List Wanting → Type 0
OthersRead h holds [] = Unit {0}
OthersRead h holds (w ∷ ws) = (w.upgrade ≡ true → w.host ≢ h → holds w.host ≡ 1) × OthersRead h holds ws

others_of : (h : ℕ) (holds : ℕ → ℕ) (ws : List Wanting) → AllRead holds ws → OthersRead h holds ws
others_of h holds [] all = tt
others_of h holds (w ∷ ws) all = ((λ up apart. all.0 up), others_of h holds ws all.1)

others_end : (h : ℕ) (holds : ℕ → ℕ) (ws : List Wanting) (v : Wanting) → v.host ≡ h → OthersRead h holds ws → OthersRead h holds (ws ++ v ∷ [])
others_end h holds [] v own all = ((λ up apart. absurd (apart own)), tt)
others_end h holds (w ∷ ws) v own all = (all.0, others_end h holds ws v own all.1)

others_without : (h g : ℕ) (holds : ℕ → ℕ) (ws : List Wanting) → OthersRead h holds ws → OthersRead h holds (without_request g ws)
others_without h g holds [] all = tt
others_without h g holds (w ∷ ws) all = by (w.host == g) w.upgrade (others_without h g holds ws all.1)
  where
    by : (b c : Bool) → OthersRead h holds (without_request g ws)
        → OthersRead h holds (if b then (if c then w ∷ without_request g ws else ws) else w ∷ without_request g ws)
    by true true rest = (all.0, rest)
    by true false rest = all.1
    by false c rest = (all.0, rest)

others_if : (h : ℕ) (holds : ℕ → ℕ) (b : Bool) (x y : List Wanting) → OthersRead h holds x → OthersRead h holds y → OthersRead h holds (if b then x else y)
others_if h holds true x y one two = one
others_if h holds false x y one two = two

-- who joins is the host of the act
others_joined : (s : Side) (h : ℕ) (holds : ℕ → ℕ) (e : ActEffect) (ws : List Wanting) → OthersRead h holds ws → OthersRead h holds (joined s h e ws)
others_joined s h holds (TakenUp (Asking asker access)) ws all = others_end h holds ws (record { host = h; upgrade = false; access = access }) refl all
others_joined s h holds (TakenUp (Unlocking access)) ws all =
    others_if h holds (s.holds == 1 && s.awaits == 0) (ws ++ record { host = h; upgrade = true; access = 3 } ∷ []) ws
    (others_end h holds ws (record { host = h; upgrade = true; access = 3 }) refl all) all
others_joined s h holds (TakenUp (Returning dirty keep bytes)) ws all = all
others_joined s h holds (TakenUp (Doing control count)) ws all = all
others_joined s h holds (TakenUp (Ending control)) ws all = all
others_joined s h holds (TakenUp OtherUp) ws all = all
others_joined s h holds (SentDown control (Supplying lock precious bytes)) ws all = others_without h h holds ws all
others_joined s h holds (SentDown control (Locking count returns flush lock reply)) ws all = all
others_joined s h holds (SentDown control Lacking) ws all = all
others_joined s h holds (SentDown control Failing) ws all = all
others_joined s h holds (SentDown control Readying) ws all = all
others_joined s h holds (SentDown control OtherDown) ws all = all
others_joined s h holds (Opens control ready) ws all = all
others_joined s h holds (SendsUp control word) ws all = all
others_joined s h holds (TakesDown control word) ws all = all
others_joined s h holds (Puts bytes dirty) ws all = all
others_joined s h holds Drops ws all = all
others_joined s h holds (Begins task store at size value) ws all = all
others_joined s h holds (Loads task value) ws all = all
others_joined s h holds (Stores task at size value) ws all = all
others_joined s h holds (Fails task) ws all = all
others_joined s h holds (BeginsCopy task times) ws all = all
others_joined s h holds (Copies task) ws all = all
others_joined s h holds (EndsCopy task) ws all = all
others_joined s h holds StepBegins ws all = all
others_joined s h holds Nothing ws all = all

-- the host's upgrades leave where it doesn't hold Read
all_trimmed : (h : ℕ) (old new : ℕ → ℕ) (ws : List Wanting) → ((g : ℕ) → g ≢ h → new g ≡ old g) → OthersRead h old ws → AllRead new (trimmed_line h (new h) ws)
all_trimmed h old new [] same all = tt
all_trimmed h old new (w ∷ ws) same all = by (stays h (new h) w) refl (all_trimmed h old new ws same all.1)
  where
    own : (w : Wanting) (h x y : ℕ) → (w.host ≡ h → y ≡ x) → w.upgrade ≡ true → w.host ≡ h → stays h x w ≡ true → y ≡ 1
    own w h x y is up here stay = let e : y ≡ x = is here in grind (arith, nat_tests)

    by : (b : Bool) → stays h (new h) w ≡ b → AllRead new (trimmed_line h (new h) ws)
        → AllRead new (if b then w ∷ trimmed_line h (new h) ws else trimmed_line h (new h) ws)
    by true stay rest = (
      (λ up. elim (ℕ_discrete w.host h) [
        | yes here ↦ own w h (new h) (new w.host) (λ is. ap new is) up here stay
        | no apart ↦ same w.host apart ∙ all.0 up apart
      ]),
      rest,
    )
    by false stay rest = rest

pub only_readers : (past : List Act) → AllRead (λ k. (side k past).holds) (line past)
only_readers [] = tt
only_readers (a ∷ past) =
    all_trimmed a.host (λ k. (side k past).holds) (λ k. (side k (a ∷ past)).holds) (joined (side a.host past) a.host a.effect (line past))
    (λ g apart. ap (λ (s : Side). s.holds) (other_side g a.host a.effect past (λ is. apart (sym is))) ∙ others_holds a.effect (side g past))
    (others_joined (side a.host past) a.host (λ k. (side k past).holds) a.effect (line past)
    (others_of a.host (λ k. (side k past).holds) (line past) (only_readers past)))

-- so nobody leaves by what a host holds already
pub none_leaves : (h : ℕ) (holds : ℕ → ℕ) (ws : List Wanting) → AllRead holds ws → trimmed_line h (holds h) ws ≡ ws
none_leaves h holds [] all = refl
none_leaves h holds (w ∷ ws) all = one h (holds h) (holds w.host) w (trimmed_line h (holds h) ws) ws (λ is. ap holds is) all.0 (none_leaves h holds ws all.1)
  where
    one : (h x y : ℕ) (w : Wanting) (ts us : List Wanting) → (w.host ≡ h → y ≡ x) → (w.upgrade ≡ true → y ≡ 1) → ts ≡ us
        → (if (if w.host == h then (if w.upgrade then x == 1 else true) else true) then w ∷ ts else ts) ≡ w ∷ us
    one h x y w ts us is reads same = grind (arith, nat_tests)
