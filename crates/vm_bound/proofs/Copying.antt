-- Slow copies: the region that one fills is at home on its task's host, and none has a page of a wild object.
use Rattle.std.proofs.Common.{ℕ, ◌≡◌, ◌==◌, ◌∙◌, Bool, true, false, List, [], ◌∷◌, Option, Some, None}
use Rattle.std.proofs.Common.{ap, arith, refl, subst, if◌then◌else◌}
use Rattle.std.proofs.lemmas.Bool.Decides.{nat_tests}
use Rattle.vm_bound.proofs.Grown.{Grown, before, sound_grown}
use Rattle.vm_flat.proofs.Regions.{if_yes}
use Rattle.vm_legal.proofs.Homes.{home_stays}
use Rattle.vm_legal.specs.Outside.{Outside}
use Rattle.vm_model.specs.Homes.{copying_host, first_of, home_of}
use Rattle.vm_model.specs.Tasks.{host_of}
use Rattle.vm_model.specs.Waiting.{Access, Copying, Loading, Storing, Target, begins_copy, copy_target, waiting}
use Rattle.vm_model.specs.declared.event.Event.{Event}
use Rattle.vm_model.specs.declared.event.Event.TheVariants as event
use Rattle.vm_model.specs.declared.script.Header.{Header}

-- an access that has ended, or is no slow copy

other_access : {A : Type 0} (b : Bool) (x y : Option Access) (a : Access) → (x ≡ Some a → A) → (b ≡ false → y ≡ Some a → A)
    → (if b then x else y) ≡ Some a → A
other_access true x y a one two is = one is
other_access false x y a one two is = two refl is

both_access : {A : Type 0} (b : Bool) (u v : Option ℕ) (x y : Option Access) (host : Option ℕ) (a : Access) → (x ≡ Some a → A)
    → (v ≡ host → y ≡ Some a → A) → (if b then u else v) ≡ host → (if b then x else y) ≡ Some a → A
both_access true u v x y host a one two lives is = one is
both_access false u v x y host a one two lives is = two lives is

none_access : {A : Type 0} (a : Access) → ◌≡◌ {A = Option Access} None (Some a) → A
none_access a is = absurd (cc)

load_access : {A : Type 0} (from size address bytes to : ℕ) → ◌≡◌ {A = Option Access} (Some (Loading from size)) (Some (Copying address bytes to)) → A
load_access from size address bytes to is = absurd (cc)

store_access : {A : Type 0} (from size value address bytes to : ℕ)
    → ◌≡◌ {A = Option Access} (Some (Storing from size value)) (Some (Copying address bytes to)) → A
store_access from size value address bytes to is = absurd (cc)

-- homes

begun_host : (task : ℕ) (past : List Event) → begins_copy task past ≡ true → copying_host past ≡ host_of task past
begun_host task (event.BegunCopy owner address bytes to ∷ past) begun =
    let same : owner.0 ≡ task = grind (arith, nat_tests) in ap (λ (k : ℕ). host_of k past) same
begun_host task [] begun = absurd (let bad : false ≡ true = begun in cc)
begun_host task (e ∷ past) begun = absurd (let bad : false ≡ true = begun in cc)

-- the region that a slow copy of a living task fills is at home on the task's host
pub copy_home : (header : Header) (outside : Outside) (task host address bytes to : ℕ) (t : Target) (past : List Event) → Grown header outside past
    → host_of task past ≡ Some host → waiting task past ≡ Some (Copying address bytes to) → copy_target task past ≡ Some t
    → home_of t.region past ≡ Some host
copy_home header outside task host address bytes to t [] grown lives waits target = none_access (Copying address bytes to) waits
copy_home header outside task host address bytes to t (event.TaskMade made at ∷ past) grown lives waits target =
    both_access (made.0 == task) (Some at.0) (host_of task past) None (waiting task past) (Some host) (Copying address bytes to)
    (none_access (Copying address bytes to))
    (λ l w. copy_home header outside task host address bytes to t past (before header outside (event.TaskMade made at) past grown) l w target) lives waits
copy_home header outside task host address bytes to t (event.TaskEnded gone ∷ past) grown lives waits target =
    both_access (gone.0 == task) None (host_of task past) None (waiting task past) (Some host) (Copying address bytes to)
    (none_access (Copying address bytes to))
    (λ l w. copy_home header outside task host address bytes to t past (before header outside (event.TaskEnded gone) past grown) l w target) lives waits
copy_home header outside task host address bytes to t (event.BegunLoad owner from size ∷ past) grown lives waits target =
    other_access (owner.0 == task) (Some (Loading from size)) (waiting task past) (Copying address bytes to) (load_access from size address bytes to)
    (λ apart w. copy_home header outside task host address bytes to t past (before header outside (event.BegunLoad owner from size) past grown) lives w target)
    waits
copy_home header outside task host address bytes to t (event.BegunStore owner from size value ∷ past) grown lives waits target =
    other_access (owner.0 == task) (Some (Storing from size value)) (waiting task past) (Copying address bytes to)
    (store_access from size value address bytes to)
    (λ apart w. copy_home header outside task host address bytes to t past (before header outside (event.BegunStore owner from size value) past grown) lives w
    target) waits
copy_home header outside task host address bytes to t (event.BegunCopy owner from size there ∷ past) grown lives waits target =
    by (owner.0 == task) (copy_home header outside task host address bytes to t past (before header outside (event.BegunCopy owner from size there) past grown)
    lives) waits target
  where
    by : (b : Bool) → (waiting task past ≡ Some (Copying address bytes to) → copy_target task past ≡ Some t → home_of t.region past ≡ Some host)
        → (if b then Some (Copying from size there) else waiting task past) ≡ Some (Copying address bytes to)
        → (if b then None else copy_target task past) ≡ Some t → home_of t.region past ≡ Some host
    by true was w f = absurd (cc)
    by false was w f = was w f
copy_home header outside task host address bytes to t (event.Loaded owner object page value ∷ past) grown lives waits target =
    other_access (owner.0 == task) None (waiting task past) (Copying address bytes to) (none_access (Copying address bytes to))
    (λ apart w. copy_home header outside task host address bytes to t past (before header outside (event.Loaded owner object page value) past grown) lives w
    target) waits
copy_home header outside task host address bytes to t (event.Stored owner object page at size value ∷ past) grown lives waits target =
    other_access (owner.0 == task) None (waiting task past) (Copying address bytes to) (none_access (Copying address bytes to))
    (λ apart w. copy_home header outside task host address bytes to t past (before header outside (event.Stored owner object page at size value) past grown)
    lives w target) waits
copy_home header outside task host address bytes to t (event.CopyEnded owner ∷ past) grown lives waits target =
    other_access (owner.0 == task) None (waiting task past) (Copying address bytes to) (none_access (Copying address bytes to))
    (λ apart w. copy_home header outside task host address bytes to t past (before header outside (event.CopyEnded owner) past grown) lives w target) waits
copy_home header outside task host address bytes to t (event.Failed owner object page ∷ past) grown lives waits target =
    other_access (owner.0 == task) None (waiting task past) (Copying address bytes to) (none_access (Copying address bytes to))
    (λ apart w. copy_home header outside task host address bytes to t past (before header outside (event.Failed owner object page) past grown) lives w target)
    waits
copy_home header outside task host address bytes to t (event.RegionMade region object pages ∷ past) grown lives waits target =
    by (begins_copy task past) refl (copy_home header outside task host address bytes to t past
    (before header outside (event.RegionMade region object pages) past grown) lives waits) target
  where
    was : Grown header outside past
    was = before header outside (event.RegionMade region object pages) past grown

    fresh : home_of region.0 past ≡ None
    fresh = let number = grown.causes.0.1.0 in (sound_grown header outside past was).homes.regions region.0 (omega (arith, number))

    own : begins_copy task past ≡ true → home_of region.0 (event.RegionMade region object pages ∷ past) ≡ Some host
    own begun =
        if_yes region.0 region.0 (first_of (home_of region.0 past) (copying_host past)) (home_of region.0 past) refl
        ∙ ap (λ x. first_of x (copying_host past)) fresh ∙ begun_host task past begun ∙ lives

    by : (b : Bool) → begins_copy task past ≡ b → (copy_target task past ≡ Some t → home_of t.region past ≡ Some host)
        → (if b then Some (record { region = region.0; object = object.0 }) else copy_target task past) ≡ Some t
        → home_of t.region (event.RegionMade region object pages ∷ past) ≡ Some host
    by true begun earlier f =
        let made : Target = record { region = region.0; object = object.0 } in
        let same : made ≡ t = cc in
        subst (λ (u : Target). home_of u.region (event.RegionMade region object pages ∷ past) ≡ Some host) same (own begun)
    by false other earlier f = home_stays t.region host (event.RegionMade region object pages) past (earlier f)
copy_home header outside task host address bytes to t (event.Entered owner from size region offset prot inherit ∷ past) grown lives waits target =
    home_stays t.region host (event.Entered owner from size region offset prot inherit) past (copy_home header outside task host address bytes to t past
    (before header outside (event.Entered owner from size region offset prot inherit) past grown) lives waits target)
copy_home header outside task host address bytes to t (e ∷ past) grown lives waits target =
    copy_home header outside task host address bytes to t past (before header outside e past grown) lives waits target
