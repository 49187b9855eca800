-- What a page's part says of a host is what the host has of the page.
use Rattle.std.specs.Prelude.{ℕ, ◌≡◌, ◌≢◌, true, List, [], ◌∷◌, Option, Some, None, if◌then◌else◌}
use Rattle.vm_model.specs.declared.event.Event.{Event}
use Rattle.vm_model.specs.declared.event.Event.TheVariants as event
use Rattle.vm_model.specs.Local.{Local}
use Rattle.vm_model.specs.Side.{Side, right_of}

-- the right to a page: none where it isn't here
abbrev pub right_now : Local → ℕ
right_now page = if page.here then right_of page.lock else 0

-- a side's page is the host's page, and its live control the host's
pub record SideIsLocal (live : Option ℕ) (s : Side) (page : Local) : Type 0 where
  pub right : s.right ≡ right_now page
  pub lock : page.here ≡ true → s.lock ≡ page.lock
  pub bytes : page.here ≡ true → s.bytes ≡ page.bytes
  pub dirty : page.here ≡ true → s.dirty ≡ page.dirty
  pub precious : page.here ≡ true → s.precious ≡ page.precious
  pub unlocking : page.here ≡ true → s.unlocking ≡ page.unlocking
  pub asked : s.asked ≡ page.asked
  pub absent : s.absent ≡ page.absent
  pub control : (if s.live then Some s.control else None) ≡ live

-- no merge names the object, nor one from which a page was raised or copied to it, up to then
abbrev pub IsUnmerged : ℕ → List Event → Type 0
IsUnmerged o [] = Unit {0}
IsUnmerged o (event.Merged upper lower ∷ past) = (o ≢ upper.0) × (o ≢ lower.0) × IsUnmerged o past
IsUnmerged o (event.Raised at lower lower_page upper upper_page ∷ past) = (o ≡ upper.0 → IsUnmerged lower.0 past) × IsUnmerged o past
IsUnmerged o (event.CopiedPage task page object object_page target ∷ past) = (o ≡ target.0 → IsUnmerged object.0 past) × IsUnmerged o past
IsUnmerged o (e ∷ past) = IsUnmerged o past
