-- The declared objects stay as they were declared, where others are made.
use Rattle.vm_kernel.proofs.Common.{Event, Header, List, ObjectId, RegionId, ap, arith, if◌then◌else◌, named, region_of, ℕ, ◌<◌, ◌==◌, ◌||◌, ◌∙◌, ◌∷◌, ◌≡◌, ◌≤◌}
use Rattle.std.proofs.Common.{false}
use Rattle.vm_kernel.specs.Matches.{IsAsDeclared}
use Rattle.vm_model.specs.Regions.{is_copy, object_pages}
use Rattle.vm_state.proofs.Fresh.{other_test}
use Rattle.vm_model.specs.declared.event.Event.TheVariants as event

-- each declared object is as it was declared
abbrev pub AreAsDeclared : Header → List Event → Type 0
AreAsDeclared header past = (o : ℕ) → o < named header → IsAsDeclared header o (is_copy o past) (object_pages header o past)

-- it is another than a temporary one
other_object : (header : Header) (o n : ℕ) → o < named header → named header ≤ n → (o == n) ≡ false
other_object header o n less least = other_test o n (λ same. omega (arith, same, less, least))

-- a region is made over a new object
pub declared_made : (header : Header) (past : List Event) (region : RegionId) (object : ObjectId) (pages : ℕ) → named header ≤ object.0
    → AreAsDeclared header past → AreAsDeclared header (event.RegionMade region object pages ∷ past)
declared_made header past region object pages least was o less =
    record {
      copy = (was o less).copy;
      pages = ap (λ b. if b then pages else object_pages header o past) (other_object header o object.0 less least) ∙ (was o less).pages;
    }

-- a region gets a new object of its own
pub declared_shadowed : (header : Header) (past : List Event) (region : RegionId) (object old : ObjectId) → named header ≤ object.0
    → AreAsDeclared header past → AreAsDeclared header (event.Shadowed region object old ∷ past)
declared_shadowed header past region object old least was o less =
    record {
      copy = (was o less).copy;
      pages =
          ap (λ b. if b then (region_of header region.0 past).pages else object_pages header o past) (other_object header o object.0 less least)
          ∙ (was o less).pages;
    }

-- a file gets a copy object
pub declared_delayed : (header : Header) (past : List Event) (region source : RegionId) (offset pages : ℕ) (copy : ObjectId) → named header ≤ copy.0
    → AreAsDeclared header past → AreAsDeclared header (event.Delayed region source offset pages copy ∷ past)
declared_delayed header past region source offset pages copy least was o less =
    let other = other_object header o copy.0 less least in
    record {
      copy = ap (λ b. b || is_copy o past) other ∙ (was o less).copy;
      pages = ap (λ b. if b then object_pages header source.0 past else object_pages header o past) other ∙ (was o less).pages;
    }
