-- Regions and objects: their numbers, and what stands on what.
use Rattle.std.specs.Prelude.{ℕ, zero, suc, ◌+◌, List, [], ◌∷◌, if◌then◌else◌, ◌==◌, ◌||◌, Bool, true, false, Option, Some, None}
use Rattle.vm_model.specs.declared.event.Event.{Event}
use Rattle.vm_model.specs.declared.event.Event.TheVariants as event
use Rattle.vm_model.specs.declared.script.Header.{Header}
use Rattle.vm_model.specs.Named.{named, declared_pages}

-- the number of the next region: those of the declared objects come first
abbrev pub next_region : Header → List Event → ℕ
next_region header [] = named header
next_region header (event.RegionMade region object pages ∷ past) = next_region header past + 1
next_region header (event.RegionCopied region source offset pages ∷ past) = next_region header past + 1
next_region header (event.Delayed region source offset pages copy ∷ past) = next_region header past + 1
next_region header (e ∷ past) = next_region header past

-- the number of the next object: the declared ones come first
abbrev pub next_object : Header → List Event → ℕ
next_object header [] = named header
next_object header (event.RegionMade region object pages ∷ past) = next_object header past + 1
next_object header (event.Delayed region source offset pages copy ∷ past) = next_object header past + 1
next_object header (event.Shadowed region new old ∷ past) = next_object header past + 1
next_object header (e ∷ past) = next_object header past

-- a region: its copy mark, its top object, the page of that object that its page 0 is, and its pages
pub record Region : Type 0 where
  pub mark : Bool
  pub top : ℕ
  pub shift : ℕ
  pub pages : ℕ

-- a region over a new object
abbrev pub made : Bool → ℕ → ℕ → Region → Region
made this object pages was =
    record {
      mark = if this then false else was.mark;
      top = if this then object else was.top;
      shift = if this then 0 else was.shift;
      pages = if this then pages else was.pages;
    }

-- a symmetric copy shares the source's top object, and both are marked
abbrev pub copied : Bool → Bool → ℕ → ℕ → Region → Region → Region
copied this source offset pages from was =
    record {
      mark = if this then true else (if source then true else was.mark);
      top = if this then from.top else was.top;
      shift = if this then from.shift + offset else was.shift;
      pages = if this then pages else was.pages;
    }

-- a region over a delayed copy of a file is marked
abbrev pub delayed : Bool → ℕ → ℕ → ℕ → Region → Region
delayed this copy offset pages was =
    record {
      mark = if this then true else was.mark;
      top = if this then copy else was.top;
      shift = if this then offset else was.shift;
      pages = if this then pages else was.pages;
    }

-- a region that gets an object of its own above the old top
abbrev pub shadowed : Bool → ℕ → Region → Region
shadowed this new was =
    record {
      mark = if this then false else was.mark;
      top = if this then new else was.top;
      shift = if this then 0 else was.shift;
      pages = was.pages;
    }

-- a region that loses its mark
abbrev pub unmarked : Bool → Region → Region
unmarked this was = record was { mark = if this then false else was.mark }

abbrev pub region_of : Header → ℕ → List Event → Region
region_of header region [] = record { mark = false; top = region; shift = 0; pages = declared_pages header region }
region_of header region (event.RegionMade new object pages ∷ past) =
    made (region == new.0) object.0 pages (region_of header region past)
region_of header region (event.RegionCopied new source offset pages ∷ past) =
    copied (region == new.0) (region == source.0) offset pages (region_of header source.0 past) (region_of header region past)
region_of header region (event.Delayed new source offset pages copy ∷ past) =
    delayed (region == new.0) copy.0 offset pages (region_of header region past)
region_of header region (event.Shadowed changed new old ∷ past) =
    shadowed (region == changed.0) new.0 (region_of header region past)
region_of header region (event.Unmarked changed ∷ past) = unmarked (region == changed.0) (region_of header region past)
region_of header region (e ∷ past) = region_of header region past

-- how many of the first n regions are marked
abbrev pub marked_below : Header → ℕ → List Event → ℕ
marked_below header zero past = 0
marked_below header (suc n) past = if (region_of header n past).mark then marked_below header n past + 1 else marked_below header n past

-- how many regions are marked: a region is so from a symmetric copy until it is shadowed or unmarked, also when it has ended
abbrev pub marked_regions : Header → List Event → ℕ
marked_regions header past = marked_below header (next_region header past) past

-- the backing object of an object, if it has one, and the page of that object that its page 0 is over
pub record Backing : Type 0 where
  pub backed : Bool
  pub under : ℕ
  pub shift : ℕ

-- a new shadow stands over the region's old top, as the region did
abbrev pub over : Bool → Region → Backing → Backing
over this region was =
    record {
      backed = if this then true else was.backed;
      under = if this then region.top else was.under;
      shift = if this then region.shift else was.shift;
    }

-- an object that its backing object is merged into stands on what that stood on
abbrev pub joined : Bool → Backing → Backing → Backing
joined this lower was =
    record {
      backed = if this then lower.backed else was.backed;
      under = if this then lower.under else was.under;
      shift = if this then lower.shift + was.shift else was.shift;
    }

-- the newest of the copies of a file that were delayed, if there is one
abbrev pub newest_copy : ℕ → List Event → Option ℕ
newest_copy file [] = None
newest_copy file (event.Delayed region source offset pages copy ∷ past) = if file == source.0 then Some copy.0 else newest_copy file past
newest_copy file (e ∷ past) = newest_copy file past

-- the object was made as a delayed copy of a file
abbrev pub is_copy : ℕ → List Event → Bool
is_copy object [] = false
is_copy object (event.Delayed region source offset pages copy ∷ past) = object == copy.0 || is_copy object past
is_copy object (e ∷ past) = is_copy object past

-- the file of which a region was copied, at once or by way of other copies
abbrev pub comes_from : ℕ → List Event → Option ℕ
comes_from region [] = None
comes_from region (event.RegionCopied new source offset pages ∷ past) = if region == new.0 then comes_from source.0 past else comes_from region past
comes_from region (event.Delayed new source offset pages copy ∷ past) = if region == new.0 then Some source.0 else comes_from region past
comes_from region (e ∷ past) = comes_from region past

abbrev pub is_newest : ℕ → Option ℕ → Bool
is_newest object None = false
is_newest object (Some newest) = object == newest

-- a new copy of a file stands over the file, and under the copy that was the newest until then
abbrev pub pushed : Bool → Bool → ℕ → ℕ → Backing → Backing
pushed this newest file copy was =
    record {
      backed = if this then true else (if newest then true else was.backed);
      under = if this then file else (if newest then copy else was.under);
      shift = if this then 0 else (if newest then 0 else was.shift);
    }

abbrev pub backing_of : Header → ℕ → List Event → Backing
backing_of header object [] = record { backed = false; under = 0; shift = 0 }
backing_of header object (event.Delayed region source offset pages copy ∷ past) =
    pushed (object == copy.0) (is_newest object (newest_copy source.0 past)) source.0 copy.0 (backing_of header object past)
backing_of header object (event.Shadowed region new old ∷ past) =
    over (object == new.0) (region_of header region.0 past) (backing_of header object past)
backing_of header object (event.Merged upper lower ∷ past) =
    joined (object == upper.0) (backing_of header lower.0 past) (backing_of header object past)
backing_of header object (e ∷ past) = backing_of header object past

-- the pages of an object: those of the region that it was made for, or of the file that it is a copy of
abbrev pub object_pages : Header → ℕ → List Event → ℕ
object_pages header object [] = declared_pages header object
object_pages header object (event.RegionMade region new pages ∷ past) = if object == new.0 then pages else object_pages header object past
object_pages header object (event.Delayed region source offset pages copy ∷ past) =
    if object == copy.0 then object_pages header source.0 past else object_pages header object past
object_pages header object (event.Shadowed region new old ∷ past) =
    if object == new.0 then (region_of header region.0 past).pages else object_pages header object past
object_pages header object (e ∷ past) = object_pages header object past
