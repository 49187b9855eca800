-- The home of a region stays what it is, and so does that of an object.
use Rattle.std.proofs.Common.{◌≡◌, ℕ, ◌==◌, Bool, true, false, List, [], ◌∷◌, Option, Some, None, ap, refl, sym, ◌∙◌, arith}
use Rattle.std.proofs.lemmas.Bool.Decides.{nat_tests}
use Rattle.std.specs.Prelude.{if◌then◌else◌}
use Rattle.vm_model.specs.declared.event.Event.{Event}
use Rattle.vm_model.specs.declared.event.Event.TheVariants as event
use Rattle.vm_model.specs.Homes.{copying_host, first_of, home_in, home_of, object_home, region_for}
use Rattle.vm_model.specs.Local.{is_on}
use Rattle.vm_model.specs.Tasks.{host_of}
use Rattle.vm_legal.specs.Used.{made_here}

-- the first host stays
pub first_stays : (b : Bool) (h : ℕ) (was later : Option ℕ) → was ≡ Some h → (if b then first_of was later else was) ≡ Some h
first_stays true h was later is = ap (λ z. first_of z later) is
first_stays false h was later is = is

pub home_stays : (r h : ℕ) (e : Event) (past : List Event) → home_of r past ≡ Some h → home_of r (e ∷ past) ≡ Some h
home_stays r h (event.Entered task address bytes region offset prot inherit) past is = first_stays (region.0 == r) h (home_of r past) (host_of task.0 past) is
home_stays r h (event.RegionMade region object pages) past is = first_stays (region.0 == r) h (home_of r past) (copying_host past) is
home_stays r h other past is = is

-- an object keeps the region that it was made for, and its home
pub region_stays : (o r : ℕ) (e : Event) (past : List Event) → region_for o past ≡ Some r → region_for o (e ∷ past) ≡ Some r
region_stays o r (event.RegionMade region object pages) past is = first_stays (object.0 == o) r (region_for o past) (Some region.0) is
region_stays o r (event.Shadowed region new old) past is = first_stays (new.0 == o) r (region_for o past) (Some region.0) is
region_stays o r (event.Delayed region source offset pages copy) past is = first_stays (copy.0 == o) r (region_for o past) (Some source.0) is
region_stays o r other past is = is

pub object_stays : (o h : ℕ) (e : Event) (past : List Event) → object_home o past ≡ Some h → object_home o (e ∷ past) ≡ Some h
object_stays o h e past is = by (region_for o past) refl is
  where
    by : (x : Option ℕ) → region_for o past ≡ x → home_in (λ r. home_of r past) x ≡ Some h → object_home o (e ∷ past) ≡ Some h
    by None none is = absurd (let bad : None ≡ Some h = is in cc)
    by (Some r) made is = ap (home_in (λ r. home_of r (e ∷ past))) (region_stays o r e past made) ∙ home_stays r h e past is

pub same_some : (g h : ℕ) → Some g ≡ Some h → g ≡ h
same_some g h is = cc

pub on_host : (g : ℕ) (x : Option ℕ) → is_on g x ≡ true → x ≡ Some g
on_host g None is = absurd (let bad : false ≡ true = is in cc)
on_host g (Some own) is = let same : own ≡ g = grind (arith, nat_tests) in ap Some same

-- a region that a slow copy fills is in use on the host of its task, and that is its home; any other that is made now has none
pub made_there : (g h : ℕ) (past : List Event) → made_here g past ≡ true → copying_host past ≡ Some h → g ≡ h
made_there g h (event.BegunCopy task address bytes to ∷ past) here home = same_some g h (sym (on_host g (host_of task.0 past) here) ∙ home)
made_there g h [] here home = absurd (let bad : None ≡ Some h = home in cc)
made_there g h (e ∷ past) here home = absurd (let bad : None ≡ Some h = home in cc)
