-- Which copy of a file is owed the page that a store is about to change.
use Rattle.std.specs.Prelude.{ℕ, ◌≡◌, ◌==◌, ◌&&◌, ◌||◌, Bool, true, false, List, [], ◌∷◌, Some}
use Rattle.vm_model.specs.declared.event.Event.{Event}
use Rattle.vm_model.specs.declared.event.Event.TheVariants as event
use Rattle.vm_model.specs.declared.script.Header.{Header}
use Rattle.vm_model.specs.Regions.{newest_copy}
use Rattle.vm_legal.specs.Outside.{is_file}
use Rattle.vm_legal.specs.Walks.{Reach}

-- the host has copied a page up into this place
abbrev pub is_pushed : ℕ → ℕ → ℕ → List Event → Bool
is_pushed host object page [] = false
is_pushed host object page (event.Raised at lower lower_page upper upper_page ∷ past) =
    (at.0 == host && (upper.0 == object && upper_page.0 == page)) || is_pushed host object page past
is_pushed host object page (e ∷ past) = is_pushed host object page past

-- a store on the file's page owes it to the newest copy of the file, which lives on the host, and into whose place nothing was copied up
pub record OwesPush (header : Header) (host object page copy : ℕ) (past : List Event) : Type 0 where
  pub file : is_file header object ≡ true
  pub newest : newest_copy object past ≡ Some copy
  pub lives : Reach header host copy past
  pub unpushed : is_pushed host copy page past ≡ false
