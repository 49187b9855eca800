-- What each event of a history keeps to, and the homes of the regions in use.
use Rattle.std.proofs.Common.{ℕ, ◌≡◌, ◌≤◌, ◌==◌, ◌&&◌, ◌||◌, ◌∙◌, ◌⊎◌, not, Bool, true, false, List, [], ◌∷◌, Some, None}
use Rattle.std.proofs.Common.{inl, inr, ap, arith, refl, sym}
use native.Mathlib.Decide.{ℕ_discrete}
use Rattle.vm_bound.specs.Settles.{IsOnHosts}
use Rattle.vm_abroad.proofs.Home.{home_used}
use Rattle.vm_abroad.proofs.Sounds.{sound_of}
use Rattle.vm_abroad.specs.Sound.{Sound}
use Rattle.vm_flat.proofs.Heads.{Orderly, is_new_copy}
use Rattle.vm_flat.proofs.Holds.{Holds}
use Rattle.vm_flat.proofs.Law.{holds}
use Rattle.vm_flat.proofs.Regions.{eq_no, eq_yes, if_no, if_yes}
use Rattle.vm_flat.proofs.Translation.{sustained}
use Rattle.vm_legal.proofs.Files.{file_named}
use Rattle.vm_legal.proofs.Homes.{home_stays, on_host}
use Rattle.vm_legal.specs.Bytes.{CopiesCurrent}
use Rattle.vm_legal.specs.Homes.{EntersNext, enters, is_open, starts_copy}
use Rattle.vm_legal.specs.Licences.{HasCause, IsBehind}
use Rattle.vm_legal.specs.Living.{lives_on}
use Rattle.vm_legal.specs.Outside.{Outside}
use Rattle.vm_legal.specs.Used.{in_use, is_kept, made_here}
use Rattle.vm_model.specs.Homes.{copying_host, first_of, home_of}
use Rattle.vm_model.specs.Moments.{EachEvent}
use Rattle.vm_model.specs.Named.{named}
use Rattle.vm_model.specs.Tasks.{host_of}
use Rattle.vm_model.specs.declared.event.Event.{Event}
use Rattle.vm_model.specs.declared.event.Event.TheVariants as event
use Rattle.vm_model.specs.declared.script.Header.{Header}

-- each event has its cause, and is what a group of a command may have there
pub record Grown (header : Header) (outside : Outside) (past : List Event) : Type 0 where
  pub causes : EachEvent (HasCause header outside) past
  pub current : EachEvent (CopiesCurrent header outside) past
  pub hosts : EachEvent (IsOnHosts header) past
  pub orderly : EachEvent Orderly past
  pub enters : EachEvent EntersNext past
  pub behind : EachEvent IsBehind past

pub before : (header : Header) (outside : Outside) (e : Event) (past : List Event) → Grown header outside (e ∷ past) → Grown header outside past
before header outside e past grown =
    record {
      causes = grown.causes.1;
      current = grown.current.1;
      hosts = grown.hosts.1;
      orderly = grown.orderly.1;
      enters = grown.enters.1;
      behind = grown.behind.1;
    }

pub sound_grown : (header : Header) (outside : Outside) (past : List Event) → Grown header outside past → Sound header past
sound_grown header outside past grown = sound_of header outside past grown.causes grown.enters

pub holds_grown : (header : Header) (outside : Outside) (past : List Event) → Grown header outside past → Holds header outside past
holds_grown header outside past grown = holds header outside past (sustained header outside past grown.causes) grown.current

-- the region was made just now, and its entry comes next
abbrev pub IsNew : ℕ → List Event → Type 0
IsNew r past = (is_open r past ≡ true) ⊎ (is_new_copy r past ≡ true)

pub clash : {A : Type 0} (b : Bool) → b ≡ false → b ≡ true → A
clash b isnt is = absurd (let bad : true ≡ false = sym is ∙ isnt in cc)

pub not_new : {A : Type 0} (r : ℕ) (e : Event) (past : List Event) → EntersNext e past → Orderly e past → enters r e ≡ false → IsNew r past → A
not_new r e past next order other (inl is) = clash (enters r e) other (next r is)
not_new r e past next order other (inr new) = clash (enters r e) other (order.0 r new)

pub first : (a b : Bool) → (a && b) ≡ true → a ≡ true
first true b is = refl
first false b is = absurd (let bad : false ≡ true = is in cc)

pub second : (a b : Bool) → (a && b) ≡ true → b ≡ true
second true b is = is
second false b is = absurd (let bad : false ≡ true = is in cc)

-- the task that gets an entry on a region lives where that is in use
pub entered_here : (header : Header) (task region g r : ℕ) (past : List Event) → r ≡ region
    → ((not (r == region) || lives_on g task past) && in_use header g r past) ≡ true → host_of task past ≡ Some g
entered_here header task region g r past e used =
    on_host g (host_of task past) (by (r == region) (lives_on g task past) (eq_yes r region e) (first _ (in_use header g r past) used))
  where
    by : (a b : Bool) → a ≡ true → (not a || b) ≡ true → b ≡ true
    by true b one two = two
    by false b one two = absurd (let bad : false ≡ true = one in cc)

-- a temporary region in use is at home there, but where it was made just now

made_home : (header : Header) (region h : ℕ) (past : List Event) → home_of region past ≡ None → made_here h past ≡ true
    → (first_of (home_of region past) (copying_host past) ≡ Some h) ⊎ (not (starts_copy past) ≡ true)
made_home header region h (event.BegunCopy task address bytes to ∷ past) none here =
    inl (ap (λ x. first_of x (host_of task.0 past)) none ∙ on_host h (host_of task.0 past) here)
made_home header region h [] none here = inr refl
made_home header region h (e ∷ past) none here = inr refl

both : (a b : Bool) → a ≡ true → b ≡ true → (a && b) ≡ true
both true b one two = two
both false b one two = absurd (let bad : false ≡ true = one in cc)

abbrev AtHome : Header → ℕ → ℕ → List Event → Type 0
AtHome header h r past = (home_of r past ≡ Some h) ⊎ IsNew r past

later : (header : Header) (h r : ℕ) (e : Event) (past : List Event) → EntersNext e past → Orderly e past → enters r e ≡ false → AtHome header h r past
    → AtHome header h r (e ∷ past)
later header h r e past next order other (inl home) = inl (home_stays r h e past home)
later header h r e past next order other (inr new) = not_new r e past next order other new

pub at_home : (header : Header) (outside : Outside) (past : List Event) → Grown header outside past → (h r : ℕ) → named header ≤ r
    → in_use header h r past ≡ true → AtHome header h r past
at_home header outside [] grown h r late used = let small = file_named header r used in absurd (omega (arith, small, late))
at_home header outside (event.RegionMade region object pages ∷ past) grown h r late used = elim (ℕ_discrete r region.0) [
  | yes e ↦ made e (made_home header region.0 h past fresh (sym (if_yes r region.0 (made_here h past) (in_use header h r past) e) ∙ used))
  | no apart ↦ later header h r (event.RegionMade region object pages) past grown.enters.0 grown.orderly.0 refl
      (at_home header outside past (before header outside (event.RegionMade region object pages) past grown) h r late
      (sym (if_no r region.0 (made_here h past) (in_use header h r past) apart) ∙ used))
]
  where
    sound : Sound header past
    sound = sound_grown header outside past (before header outside (event.RegionMade region object pages) past grown)

    fresh : home_of region.0 past ≡ None
    fresh = let number = grown.causes.0.1.0 in sound.homes.regions region.0 (omega (arith, number))

    made : r ≡ region.0 → (first_of (home_of region.0 past) (copying_host past) ≡ Some h) ⊎ (not (starts_copy past) ≡ true)
        → AtHome header h r (event.RegionMade region object pages ∷ past)
    made e (inl home) =
        inl (if_yes region.0 r (first_of (home_of r past) (copying_host past)) (home_of r past) (sym e)
        ∙ ap (λ k. first_of (home_of k past) (copying_host past)) e ∙ home)
    made e (inr shut) = inr (inl (both (r == region.0) (not (starts_copy past)) (eq_yes r region.0 e) shut))
at_home header outside (event.RegionCopied region source offset pages ∷ past) grown h r late used = elim (ℕ_discrete r region.0) [
  | yes e ↦ inr (inr (eq_yes r region.0 e))
  | no apart ↦ later header h r (event.RegionCopied region source offset pages) past grown.enters.0 grown.orderly.0 refl
      (at_home header outside past (before header outside (event.RegionCopied region source offset pages) past grown) h r late
      (sym (if_no r region.0 (in_use header h source.0 past) (in_use header h r past) apart) ∙ used))
]
at_home header outside (event.Delayed region source offset pages copy ∷ past) grown h r late used = elim (ℕ_discrete r region.0) [
  | yes e ↦ inr (inr (eq_yes r region.0 e))
  | no apart ↦ later header h r (event.Delayed region source offset pages copy) past grown.enters.0 grown.orderly.0 refl
      (at_home header outside past (before header outside (event.Delayed region source offset pages copy) past grown) h r late
      (sym (if_no r region.0 (in_use header h source.0 past) (in_use header h r past) apart) ∙ used))
]
at_home header outside (event.Entered task address bytes region offset prot inherit ∷ past) grown h r late used = elim (ℕ_discrete r region.0) [
  | yes e ↦ inl (ap (λ k. home_of k (now ∷ past)) e ∙ home_used header h task address bytes region offset prot inherit past sound.homes
      (ap (λ k. in_use header h k past) (sym e) ∙ was) (entered_here header task.0 region.0 h r past e used))
  | no apart ↦ later header h r now past grown.enters.0 grown.orderly.0 (eq_no r region.0 apart)
      (at_home header outside past (before header outside now past grown) h r late was)
]
  where
    now : Event
    now = event.Entered task address bytes region offset prot inherit

    sound : Sound header past
    sound = sound_grown header outside past (before header outside now past grown)

    was : in_use header h r past ≡ true
    was = second (not (r == region.0) || lives_on h task.0 past) (in_use header h r past) used
at_home header outside (event.Removed task address bytes ∷ past) grown h r late used =
    later header h r (event.Removed task address bytes) past grown.enters.0 grown.orderly.0 refl
    (at_home header outside past (before header outside (event.Removed task address bytes) past grown) h r late
    (second (is_kept header r (event.Removed task address bytes ∷ past)) (in_use header h r past) used))
at_home header outside (event.TaskEnded task ∷ past) grown h r late used =
    later header h r (event.TaskEnded task) past grown.enters.0 grown.orderly.0 refl
    (at_home header outside past (before header outside (event.TaskEnded task) past grown) h r late
    (second (is_kept header r (event.TaskEnded task ∷ past)) (in_use header h r past) used))
at_home header outside (event.Failed task object page ∷ past) grown h r late used =
    later header h r (event.Failed task object page) past grown.enters.0 grown.orderly.0 refl
    (at_home header outside past (before header outside (event.Failed task object page) past grown) h r late
    (second (is_kept header r (event.Failed task object page ∷ past)) (in_use header h r past) used))
at_home header outside (e ∷ past) grown h r late used =
    later header h r e past grown.enters.0 grown.orderly.0 refl (at_home header outside past (before header outside e past grown) h r late used)
