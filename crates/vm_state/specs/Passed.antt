-- What an access has passed over on its way to the place where it waits, and that nothing has come there since.
use Rattle.std.specs.Prelude.{ℕ, zero, suc, ◌≡◌, ◌≤◌, ◌⊎◌, ◌&&◌, Bool, true, false, List}
use Rattle.vm_base.specs.declared.ids.PageKey.{PageKey}
use Rattle.vm_fault.specs.Walks.{IsAt, IsUnder}
use Rattle.vm_legal.specs.Pushes.{is_pushed}
use Rattle.vm_legal.specs.Returned.{OnlyReturned, was_returned}
use Rattle.vm_legal.specs.Walks.{page_on}
use Rattle.vm_maps.specs.Maps.{Mapped}
use Rattle.vm_model.specs.declared.event.Event.{Event}
use Rattle.vm_model.specs.declared.script.Header.{Header}
use Rattle.vm_model.specs.Local.{Local, is_known_absent}
use Rattle.vm_model.specs.Named.{named}
use Rattle.vm_model.specs.Regions.{is_copy}
use Rattle.vm_shadow.specs.Chains.{ChainTable}
use Rattle.vm_state.specs.Places.{place_of}
use Rattle.vm_waits.specs.declared.waiting.On.{On}
use Rattle.vm_waits.specs.declared.waiting.On.TheVariants as on
use Rattle.vm_waits.specs.declared.waiting.Want.{Want}

-- a page isn't here, and its pager has none to give: it was never returned to it, or it is missing and isn't asked
pub record IsAway (page : Local) (returned : Bool) : Type 0 where
  pub away : page.here ≡ false
  pub why : (returned ≡ false) ⊎ ((page.asked ≡ false) × (page.absent ≡ true))

-- so it is at a place of a temporary object, unless its pager gives what wasn't returned
abbrev pub StaysAway : Header → ℕ → List Event → PageKey → Type 0
StaysAway header h past key =
    (named header ≤ key.object.0) × (OnlyReturned header h past
    → IsAway (page_on header h key.object.0 key.page.0 past) (was_returned h key.object.0 key.page.0 past))

-- nothing is at the place, nor asked, and its pager may have it
pub record IsOpenTo (header : Header) (key : PageKey) (page : Local) : Type 0 where
  pub away : page.here ≡ false
  pub unasked : page.asked ≡ false
  pub unknown : is_known_absent header (place_of key.object.0 key.page.0) page ≡ false

-- of a place where an access waits for its pager: that nothing was copied up into it, and what else holds while that is so
pub record Unmet : Type 1 where
  pub unpushed : Type 0
  pub vacant : Type 0

-- a store may push its page into the place of a copy object while its pager isn't ready; until then the place is open
abbrev pub IsUnmet : Header → ℕ → List Event → PageKey → Unmet
IsUnmet header h past key =
    record {
      unpushed = (is_copy key.object.0 past && is_pushed h key.object.0 key.page.0 past) ≡ false;
      vacant = IsOpenTo header key (page_on header h key.object.0 key.page.0 past);
    }

-- so many places further down a chain stands another
abbrev pub LeadsTo : ChainTable → ℕ → PageKey → PageKey → Type 0
LeadsTo chains zero from to = from ≡ to
LeadsTo chains (suc n) from to = (next : PageKey) × IsUnder chains from next × LeadsTo chains n next to

-- one of the places of the page that an access of a task is about: its place in the region's top object, or one further down the chain
pub record IsPlaceOf (maps : Mapped) (chains : ChainTable) (task : ℕ) (what : Want) (key : PageKey) : Type 0 where
  pub top : PageKey
  pub at : IsAt maps chains task what top
  pub steps : ℕ
  pub leads : LeadsTo chains steps top key

-- so it does, and each place above it is like this
abbrev pub LeadsOver : (PageKey → Type 0) → ChainTable → ℕ → PageKey → PageKey → Type 0
LeadsOver stays chains zero from to = from ≡ to
LeadsOver stays chains (suc n) from to = stays from × ((next : PageKey) × IsUnder chains from next × LeadsOver stays chains n next to)

-- the place is one of the page that an access of a task is about, and each above it is like this
pub record IsPlaceBehind (stays : PageKey → Type 0) (maps : Mapped) (chains : ChainTable) (task : ℕ) (what : Want) (key : PageKey) : Type 0 where
  pub top : PageKey
  pub at : IsAt maps chains task what top
  pub steps : ℕ
  pub leads : LeadsOver stays chains steps top key

-- What an access has passed over that waits for this. Where it waits for a pager, the place itself is open too; and where its page was pushed there
-- meanwhile, no more is said of the places above.
abbrev pub Passed : (stays : PageKey → Type 0) (unmet : PageKey → Unmet) → Mapped → ChainTable → ℕ → Want → On → Type 0
Passed stays unmet maps chains task what on.Again = Unit {0}
Passed stays unmet maps chains task what (on.Ready object) =
    (key : PageKey) × IsPlaceOf maps chains task what key × (key.object ≡ object)
    × ((unmet key).unpushed → IsPlaceBehind stays maps chains task what key × (unmet key).vacant)
Passed stays unmet maps chains task what (on.Page key) = IsPlaceBehind stays maps chains task what key
Passed stays unmet maps chains task what (on.Push key) = Unit {0}
Passed stays unmet maps chains task what on.Frame = Unit {0}
