-- Which page each frame leads to, as long as no frame is given to a second page.
use Rattle.std.specs.Map.{lookup}
use Rattle.std.specs.Prelude.{ℕ, ◌==◌, Bool, List, Option}
use Rattle.vm_base.specs.declared.ids.FrameNo.{FrameNo}
use Rattle.vm_base.specs.declared.ids.PageKey.{PageKey}

-- the page of each frame, whether a frame was given to a second page, and how many further frames there is room for
pub record OwnerMap : Type 0 where
  pub pages : List (FrameNo × PageKey)
  pub shared : Bool
  pub spare : ℕ

-- the page that a frame leads to
abbrev pub leads_to : OwnerMap → ℕ → Option PageKey
leads_to owners f = lookup (λ id. f == id.0) owners.pages
