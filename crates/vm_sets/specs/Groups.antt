-- A set of pages, some of them marked, by groups of 64 pages of an object.
use Rattle.std.specs.Map.{lookup}
use Rattle.std.specs.Option.{unwrap_or}
use Rattle.std.specs.Prelude.{ℕ, ◌≡◌, ◌≤◌, ◌<◌, ◌==◌, ◌&&◌, ◌^◌, Bool, true, false, List, Option, Some, if◌then◌else◌}
use Rattle.vm_sets.specs.Bits.{in_bits}
use Rattle.vm_sets.specs.declared.page_groups.Group.{Group}
use Rattle.vm_sets.specs.declared.group_key.GroupKey.{GroupKey}

-- the groups with their pages, and how many further pages there is room for
pub record PageSet : Type 0 where
  pub groups : List (GroupKey × Group)
  pub spare : ℕ

abbrev pub group_at : ℕ → ℕ → List (GroupKey × Group) → Option Group
group_at object group groups = lookup (λ key. object == key.object.0 && group == key.group) groups

abbrev pub no_pages : Group
no_pages = record { pages = 0; marked = 0 }

-- a group, with no page where it is not kept
abbrev pub group_in : PageSet → ℕ → ℕ → Group
group_in set object group = unwrap_or (group_at object group set.groups) no_pages

-- the bits of a group's marked pages, or of all that are in
abbrev pub bits_in : Bool → Group → ℕ
bits_in true group = group.marked
bits_in false group = group.pages

-- whether a page is among the marked ones, or among all that are in
abbrev pub is_among : Bool → PageSet → ℕ → ℕ → Bool
is_among marked set object page = in_bits (λ group. bits_in marked (group_in set object group)) page

-- whether a page is in
abbrev pub is_in : PageSet → ℕ → ℕ → Bool
is_in set object page = is_among false set object page

-- whether a page is marked
abbrev pub is_marked : PageSet → ℕ → ℕ → Bool
is_marked set object page = is_among true set object page

-- one page is among them now, or is not, and each other page as it was
pub record PutsAmong (marked : Bool) (object page : ℕ) (now : Bool) (old new : PageSet) : Type 0 where
  pub at : (o p : ℕ) → is_among marked new o p ≡ (if object == o && page == p then now else is_among marked old o p)

abbrev pub PutsIn : ℕ → ℕ → Bool → PageSet → PageSet → Type 0
PutsIn object page now old new = PutsAmong false object page now old new

abbrev pub PutsMark : ℕ → ℕ → Bool → PageSet → PageSet → Type 0
PutsMark object page now old new = PutsAmong true object page now old new

-- no page of the object is among them from one on
abbrev pub NoneAmong : Bool → PageSet → ℕ → ℕ → Type 0
NoneAmong marked set object from = (q : ℕ) → from ≤ q → is_among marked set object q ≡ false

abbrev pub NoneFrom : PageSet → ℕ → ℕ → Type 0
NoneFrom set object from = NoneAmong false set object from

abbrev pub NoneMarkedFrom : PageSet → ℕ → ℕ → Type 0
NoneMarkedFrom set object from = NoneAmong true set object from

-- the first page of the object that is among them, from one on
pub record IsFirstAmong (marked : Bool) (set : PageSet) (object from page : ℕ) : Type 0 where
  pub low : from ≤ page
  pub there : is_among marked set object page ≡ true
  pub first : (q : ℕ) → from ≤ q → q < page → is_among marked set object q ≡ false

abbrev pub IsFirstIn : PageSet → ℕ → ℕ → ℕ → Type 0
IsFirstIn set object from page = IsFirstAmong false set object from page

abbrev pub IsFirstMarked : PageSet → ℕ → ℕ → ℕ → Type 0
IsFirstMarked set object from page = IsFirstAmong true set object from page

-- the groups stand below an end
pub record AreBelow (bound : ℕ) (groups : List (GroupKey × Group)) : Type 0 where
  pub end : bound ≤ 2 ^ 26
  pub at : (o g : ℕ) (group : Group) → group_at o g groups ≡ Some group → g < bound
