-- The file of which a region was copied is the one from which its top object comes.
use Rattle.std.proofs.Common.{ℕ, ◌≡◌, ◌<◌, ◌≤◌, List, [], ◌∷◌, true, Some, None, refl, sym, ap, subst, ◌∙◌, arith, ⊎_elim}
use Rattle.std.proofs.Common.{if◌then◌else◌}
use Rattle.std.proofs.lemmas.Bool.{cases_lt}
use Rattle.std.specs.Prelude.{◌==◌}
use native.Mathlib.Decide.{ℕ_discrete}
use Rattle.vm_model.specs.declared.event.Event.{Event}
use Rattle.vm_model.specs.declared.event.Event.TheVariants as event
use Rattle.vm_model.specs.declared.script.Header.{Header}
use Rattle.vm_model.specs.Named.{named}
use Rattle.vm_model.specs.Regions.{comes_from, next_object, next_region, region_of}
use Rattle.vm_model.specs.Rows.{found_row}
use Rattle.vm_legal.specs.Outside.{Outside, is_private, is_private_from}
use Rattle.vm_legal.specs.Walks.{IsTop}
use Rattle.vm_flat.proofs.Classes.{deeds, ground}
use Rattle.vm_flat.proofs.Covers.{declared_alike, is_covered, later_alike, stem}
use Rattle.vm_flat.proofs.Deeds as D
use Rattle.vm_flat.proofs.Entries.{Entries, OwnedAt}
use Rattle.vm_flat.proofs.Numbers.{NumberedAt}
use Rattle.vm_flat.proofs.Ports.{Worlds, unmade}
use Rattle.vm_flat.proofs.Regions.{if_no, if_yes}
use Rattle.vm_flat.proofs.Sustained.{Sustained}
use Rattle.vm_flat.proofs.Ties.{objects_is, regions_is, row_is}

pub record Origins (header : Header) (past : List Event) : Type 0 where
  pub later : (r : ℕ) → named header ≤ r → r < next_region header past → comes_from r past ≡ stem header (region_of header r past).top past
  pub unmade : (r : ℕ) → next_region header past ≤ r → comes_from r past ≡ None

pub origins_start : (header : Header) → Origins header []
origins_start header = record { later = λ r above below. refl; unmade = λ r high. refl }

top_made : (header : Header) (outside : Outside) (r : ℕ) (past : List Event) → Worlds header outside past → r < next_region header past
    → (region_of header r past).top < next_object header past
top_made header outside r past w less =
    subst (λ (x : ℕ). x < next_object header past) (ap (λ (x : D.Row). x.top) (row_is header outside 0 r past))
    (subst (λ (m : ℕ). (D.row (ground header outside) r (deeds header outside 0 past)).top < m) (objects_is header outside 0 past)
    ((w 0).shape.tops_made r (omega (arith, less, regions_is header outside 0 past))))

later_next : (header : Header) (outside : Outside) (e : Event) (past : List Event) → NumberedAt header past → Worlds header outside past
    → Entries header outside past → Sustained header outside e past → Origins header past → (r : ℕ) → named header ≤ r → r < next_region header (e ∷ past)
    → comes_from r (e ∷ past) ≡ stem header (region_of header r (e ∷ past)).top (e ∷ past)
later_next header outside (event.RegionMade region object pages) past n w entries c o r above below = elim (ℕ_discrete r region.0) [
  | yes e ↦ o.unmade r (omega (arith, e, c.0)) ∙ sym (unmade header outside object.0 past w (omega (arith, c.1)))
      ∙ ap (λ k. stem header k past) (sym (if_yes r region.0 object.0 (region_of header r past).top e))
  | no apart ↦ o.later r above (omega (arith, below, apart, c.0))
      ∙ ap (λ k. stem header k past) (sym (if_no r region.0 object.0 (region_of header r past).top apart))
]
later_next header outside (event.RegionCopied region source offset pages) past n w entries c o r above below = elim (ℕ_discrete r region.0) [
  | yes e ↦ if_yes r region.0 (comes_from source.0 past) (comes_from r past) e ∙ o.later source.0 c.temporary source_made
      ∙ ap (λ k. stem header k past) (sym (if_yes r region.0 (region_of header source.0 past).top (region_of header r past).top e))
  | no apart ↦ if_no r region.0 (comes_from source.0 past) (comes_from r past) apart ∙ o.later r above (omega (arith, below, apart, c.next))
      ∙ ap (λ k. stem header k past) (sym (if_no r region.0 (region_of header source.0 past).top (region_of header r past).top apart))
]
  where
    source_made : source.0 < next_region header past
    source_made =
        let made = (found_row (OwnedAt header outside past c.at.host) c.address _ c.at.entry (entries c.task c.at.host c.at.lives) c.at.found).is.made in
        omega (arith, made, c.source_is)
later_next header outside (event.Delayed region source offset pages copy) past n w entries c o r above below = elim (ℕ_discrete r region.0) [
  | yes e ↦ if_yes r region.0 (Some source.0) (comes_from r past) e ∙ sym (if_yes copy.0 copy.0 (Some source.0) (stem header copy.0 past) refl)
      ∙ ap (λ k. if k == copy.0 then Some source.0 else stem header k past) (sym (if_yes r region.0 copy.0 (region_of header r past).top e))
  | no apart ↦
      let made : r < next_region header past = omega (arith, below, apart, c.next) in
      if_no r region.0 (Some source.0) (comes_from r past) apart ∙ o.later r above made
      ∙ sym (if_no (region_of header r past).top copy.0 (Some source.0) (stem header (region_of header r past).top past)
      (λ e. omega (arith, e, top_made header outside r past w made, c.new)))
      ∙ ap (λ k. if k == copy.0 then Some source.0 else stem header k past) (sym (if_no r region.0 copy.0 (region_of header r past).top apart))
]
later_next header outside (event.Shadowed region new old) past n w entries c o r above below = elim (ℕ_discrete r region.0) [
  | yes e ↦ o.later r above below ∙ ap (λ k. stem header (region_of header k past).top past) e
      ∙ sym (if_yes new.0 new.0 (stem header (region_of header region.0 past).top past) (stem header new.0 past) refl)
      ∙ ap (λ k. if k == new.0 then stem header (region_of header region.0 past).top past else stem header k past)
      (sym (if_yes r region.0 new.0 (region_of header r past).top e))
  | no apart ↦ o.later r above below
      ∙ sym (if_no (region_of header r past).top new.0 (stem header (region_of header region.0 past).top past)
      (stem header (region_of header r past).top past) (λ e. omega (arith, e, top_made header outside r past w below, c.next)))
      ∙ ap (λ k. if k == new.0 then stem header (region_of header region.0 past).top past else stem header k past)
      (sym (if_no r region.0 new.0 (region_of header r past).top apart))
]
later_next header outside e past n w entries c o r above below = o.later r above below

unmade_next : (header : Header) (outside : Outside) (e : Event) (past : List Event) → Sustained header outside e past → Origins header past → (r : ℕ)
    → next_region header (e ∷ past) ≤ r → comes_from r (e ∷ past) ≡ None
unmade_next header outside (event.RegionMade region object pages) past c o r high = o.unmade r (omega (arith, high))
unmade_next header outside (event.RegionCopied region source offset pages) past c o r high =
    if_no r region.0 (comes_from source.0 past) (comes_from r past) (λ e. omega (arith, e, c.next, high)) ∙ o.unmade r (omega (arith, high))
unmade_next header outside (event.Delayed region source offset pages copy) past c o r high =
    if_no r region.0 (Some source.0) (comes_from r past) (λ e. omega (arith, e, c.next, high)) ∙ o.unmade r (omega (arith, high))
unmade_next header outside e past c o r high = o.unmade r high

pub origins_next : (header : Header) (outside : Outside) (e : Event) (past : List Event) → NumberedAt header past → Worlds header outside past
    → Entries header outside past → Sustained header outside e past → Origins header past → Origins header (e ∷ past)
origins_next header outside e past n w entries c o =
    record { later = later_next header outside e past n w entries c o; unmade = unmade_next header outside e past c o }

-- a region is private where its top object is covered
pub region_private : (header : Header) (outside : Outside) (r i o p : ℕ) (past : List Event) → NumberedAt header past → Origins header past
    → r < next_region header past → IsTop (region_of header r past) i o p → is_covered header outside o past ≡ true
    → is_private header outside r past ≡ true
region_private header outside r i o p past n origins made top ours = ⊎_elim
    (λ less. declared_alike header outside r (comes_from r past) (stem header o past) less
    ∙ subst (λ (k : ℕ). is_private_from header outside k (stem header o past) ≡ true) (sym top.object ∙ n.declared_top r less) ours)
    (λ le. later_alike header outside r o (comes_from r past) (stem header o past) le (omega (arith, n.temporary r le made, top.object))
    (origins.later r le made ∙ ap (λ k. stem header k past) top.object) ∙ ours)
    (cases_lt r (named header))
