-- On which host a region is, and an object: a region on that of the task that first got an entry on it, or that fills it by a slow copy; an object on that of
-- the region that it was made for.
use Rattle.std.specs.Prelude.{ℕ, ◌==◌, List, [], ◌∷◌, Option, Some, None, if◌then◌else◌}
use Rattle.vm_model.specs.declared.event.Event.{Event}
use Rattle.vm_model.specs.declared.event.Event.TheVariants as event
use Rattle.vm_model.specs.Tasks.{host_of}

abbrev pub first_of : Option ℕ → Option ℕ → Option ℕ
first_of None later = later
first_of (Some host) later = Some host

-- that of the task whose slow copy has just begun
abbrev pub copying_host : List Event → Option ℕ
copying_host (event.BegunCopy task address bytes to ∷ past) = host_of task.0 past
copying_host other = None

-- None where no task ever had an entry on it, nor fills it: the region that a slow copy fills is made right behind its beginning
abbrev pub home_of : ℕ → List Event → Option ℕ
home_of r [] = None
home_of r (event.RegionMade region object pages ∷ past) = if region.0 == r then first_of (home_of r past) (copying_host past) else home_of r past
home_of r (event.Entered task address bytes region offset prot inherit ∷ past) =
    if region.0 == r then first_of (home_of r past) (host_of task.0 past) else home_of r past
home_of r (e ∷ past) = home_of r past

-- the region that an object was made for, of a copy of a file the file's; None where it wasn't made
abbrev pub region_for : ℕ → List Event → Option ℕ
region_for o [] = None
region_for o (event.RegionMade region object pages ∷ past) = if object.0 == o then first_of (region_for o past) (Some region.0) else region_for o past
region_for o (event.Delayed region source offset pages copy ∷ past) = if copy.0 == o then first_of (region_for o past) (Some source.0) else region_for o past
region_for o (event.Shadowed region new old ∷ past) = if new.0 == o then first_of (region_for o past) (Some region.0) else region_for o past
region_for o (e ∷ past) = region_for o past

-- that of a region, where there is one
abbrev pub home_in : (ℕ → Option ℕ) → Option ℕ → Option ℕ
home_in home_from None = None
home_in home_from (Some r) = home_from r

-- that of the region that an object was made for
abbrev pub object_home : ℕ → List Event → Option ℕ
object_home o past = home_in (λ r. home_of r past) (region_for o past)
