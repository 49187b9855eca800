-- The places of pages in a list, and marks of them, by groups of 64 pages of an object.
use Rattle.std.specs.Int.{trailing_zeros, w64}
use Rattle.std.specs.Map.{lookup}
use Rattle.std.specs.Option.{option_map_or}
use Rattle.std.specs.Prelude.{ℕ, ◌≡◌, ◌+◌, ◌*◌, ◌≤◌, ◌<◌, ◌==◌, ◌&&◌, ◌/◌, ◌%◌, ◌^◌, Bool, true, false, List, Option, Some, None, if◌then◌else◌, slice_index}
use Rattle.vm_base.specs.Keys.{is_page}
use Rattle.vm_base.specs.declared.ids.ObjectId.{ObjectId}
use Rattle.vm_base.specs.declared.ids.PageKey.{PageKey}
use Rattle.vm_sets.specs.Bits.{in_bits}
use Rattle.vm_sets.specs.declared.group_key.GroupKey.{GroupKey}
use Rattle.vm_sets.specs.declared.page_places.Group.{Group}
use Rattle.vm_sets.specs.declared.page_places.ObjectPages.{ObjectPages}
use Rattle.vm_sets.specs.declared.page_places.Place.{Place}
use Rattle.vm_sets.specs.declared.page_places.Walk.{Walk}

-- the groups, what is known of each object, and how many further pages there is room for
pub record PlaceTable : Type 0 where
  pub groups : List (GroupKey × Group)
  pub objects : List (ObjectId × ObjectPages)
  pub spare : ℕ

-- the marks that a page can have besides, and that of each page which stands in the list
abbrev pub all_marks : ℕ
all_marks = 9

abbrev pub group_at : ℕ → ℕ → List (GroupKey × Group) → Option Group
group_at object group groups = lookup (λ key. object == key.object.0 && group == key.group) groups

-- a bit for each page of a group that has a mark
abbrev pub word_of : ℕ → ℕ → List (GroupKey × Group) → ℕ → ℕ
word_of mark object groups group = option_map_or (λ (g : Group). slice_index g.words mark) (group_at object group groups) 0

abbrev pub word_in : PlaceTable → ℕ → ℕ → ℕ → ℕ
word_in table mark object group = word_of mark object table.groups group

-- where a page of a group stands
abbrev pub spot_of : ℕ → List (GroupKey × Group) → ℕ → ℕ → ℕ
spot_of object groups group slot = option_map_or (λ (g : Group). slice_index g.places slot) (group_at object group groups) 0

abbrev pub spot_in : PlaceTable → ℕ → ℕ → ℕ → ℕ
spot_in table object group slot = spot_of object table.groups group slot

-- whether a page has a mark
abbrev pub has_mark_among : List (GroupKey × Group) → ℕ → ℕ → ℕ → Bool
has_mark_among groups mark object page = in_bits (word_of mark object groups) page

abbrev pub has_mark : PlaceTable → ℕ → ℕ → ℕ → Bool
has_mark table mark object page = has_mark_among table.groups mark object page

-- the place of a page, if it stands in the list
abbrev pub place_in : PlaceTable → ℕ → ℕ → Option ℕ
place_in table object page = if has_mark table all_marks object page then Some (spot_in table object (page / 64) (page % 64)) else None

abbrev pub known_of : ℕ → List (ObjectId × ObjectPages) → Option ObjectPages
known_of object objects = lookup (λ (id : ObjectId). object == id.0) objects

-- how many pages of an object stand in the list
abbrev pub pages_in : PlaceTable → ℕ → ℕ
pages_in table object = option_map_or (λ (known : ObjectPages). known.pages) (known_of object table.objects) 0

-- the groups of an object are below it
abbrev pub end_of : ℕ → List (ObjectId × ObjectPages) → ℕ
end_of object objects = option_map_or (λ (known : ObjectPages). known.end) (known_of object objects) 0

-- one page stands at this place now, with all marks, and each other as it did
pub record PutsPlace (key : PageKey) (place : ℕ) (old new : PlaceTable) : Type 0 where
  pub places : (o p : ℕ) → place_in new o p ≡ (if is_page key o p then Some place else place_in old o p)
  pub marks : (k o p : ℕ) → k ≤ all_marks → has_mark new k o p ≡ (if is_page key o p then true else has_mark old k o p)
  pub pages : (o : ℕ) → pages_in new o ≡ (if key.object.0 == o then 1 else 0) + pages_in old o

-- all pages stand where they did
pub record KeepsPlaces (old new : PlaceTable) : Type 0 where
  pub places : (o p : ℕ) → place_in new o p ≡ place_in old o p
  pub objects : new.objects ≡ old.objects
  pub spare : new.spare ≡ old.spare

-- a page has this mark now, or has it not
pub record Marks (mark : ℕ) (key : PageKey) (now : Bool) (old new : PlaceTable) : Type 0 where
  pub kept : KeepsPlaces old new
  pub at : (o p : ℕ) → has_mark new mark o p ≡ (if is_page key o p then now else has_mark old mark o p)
  pub others : (k o p : ℕ) → k ≤ all_marks → (k ≡ mark → ⊥) → has_mark new k o p ≡ has_mark old k o p

-- a page has all marks now
pub record Touches (key : PageKey) (old new : PlaceTable) : Type 0 where
  pub kept : KeepsPlaces old new
  pub marks : (k o p : ℕ) → k ≤ all_marks → has_mark new k o p ≡ (if is_page key o p then true else has_mark old k o p)

-- no page of the object has the mark from one on
abbrev pub NoMarkFrom : PlaceTable → ℕ → ℕ → ℕ → Type 0
NoMarkFrom table mark object from = (q : ℕ) → from ≤ q → has_mark table mark object q ≡ false

-- the first page of a group of which a bit is set
pub record IsLowest (table : PlaceTable) (group : GroupKey) (bits : ℕ) (place : Place) : Type 0 where
  pub some : 0 < bits
  pub object : place.key.object ≡ group.object
  pub page : place.key.page.0 ≡ group.group * 64 + trailing_zeros w64 bits
  pub at : place.at ≡ spot_in table group.object.0 group.group (trailing_zeros w64 bits)

-- the object of a walk, and the page that comes next
abbrev pub object_of : Walk → ObjectId
object_of walk = walk.object

abbrev pub from_of : Walk → ℕ
from_of walk = walk.from

-- a walk knows the end of its object
abbrev pub IsWalk : PlaceTable → Walk → Type 0
IsWalk table walk = walk.end ≡ end_of walk.object.0 table.objects

-- the first page of the object that has the mark, from one on
pub record IsNextPlace (table : PlaceTable) (mark : ℕ) (object : ObjectId) (from : ℕ) (place : Place) : Type 0 where
  pub own : place.key.object ≡ object
  pub low : from ≤ place.key.page.0
  pub there : place_in table object.0 place.key.page.0 ≡ Some place.at
  pub first : (q : ℕ) → from ≤ q → q < place.key.page.0 → has_mark table mark object.0 q ≡ false

-- the groups of each object are below its end, and a page with a mark stands in the list
pub record AreGrouped (groups : List (GroupKey × Group)) (objects : List (ObjectId × ObjectPages)) : Type 0 where
  pub low : (o : ℕ) → end_of o objects ≤ 2 ^ 26
  pub within : (o g : ℕ) (group : Group) → group_at o g groups ≡ Some group → g < end_of o objects
  pub placed : (k o p : ℕ) → k ≤ all_marks → has_mark_among groups k o p ≡ true → has_mark_among groups all_marks o p ≡ true
