-- What the pager of a file took last is the flat map's page, where nothing changed is left on the host, and nothing is on its way up.
use Rattle.std.proofs.Common.{ℕ, ◌≡◌, ◌+◌, ◌<◌, List, [], ◌∷◌, Bool, true, false, Option, Some, None, refl, sym, ap, subst, ◌∙◌, arith, if◌then◌else◌}
use Rattle.std.proofs.lemmas.Bool.Decides.{nat_tests}
use Rattle.vm_model.specs.declared.event.Event.{Event}
use Rattle.vm_model.specs.declared.event.Event.TheVariants as event
use Rattle.vm_model.specs.declared.script.Header.{Header}
use Rattle.vm_model.specs.Channels.{queue, up_port}
use Rattle.vm_model.specs.Controls.{last_control, live_control}
use Rattle.vm_model.specs.Local.{Local}
use Rattle.vm_model.specs.Moments.{EachEvent}
use Rattle.vm_model.specs.Named.{declared_pages, named}
use Rattle.vm_model.specs.Regions.{comes_from, region_of}
use Rattle.vm_legal.specs.Bytes.{CopiesCurrent}
use Rattle.vm_legal.specs.Flat.{flat_page}
use Rattle.vm_legal.specs.Licences.{HasCause, pager_has}
use Rattle.vm_legal.specs.Outside.{Outside, is_file, is_private, is_said, start_page}
use Rattle.vm_legal.specs.Pagers.{last_return, newer}
use Rattle.vm_legal.specs.Used as V
use Rattle.vm_legal.specs.Walks.{IsTop, page_on}
use Rattle.vm_flat.specs.Locals.{SpotIsLocal}
use Rattle.vm_flat.specs.Places.{spot}
use Rattle.vm_flat.specs.Spot.{Spot}
use Rattle.vm_flat.proofs.Allowed.{content}
use Rattle.vm_flat.proofs.Causes as C
use Rattle.vm_flat.proofs.Classes.{deeds, ground}
use Rattle.vm_flat.proofs.Deeds as D
use Rattle.vm_flat.proofs.Holds.{Holds, tops}
use Rattle.vm_flat.proofs.Law.{holds}
use Rattle.vm_flat.proofs.Letters.{up_words}
use Rattle.vm_flat.proofs.Locals.{spot_is_local}
use Rattle.vm_flat.proofs.Pagers.{kept_is}
use Rattle.vm_flat.proofs.Covers.{file_covered, stem}
use Rattle.vm_flat.proofs.Ports.{sound_of}
use Rattle.vm_flat.proofs.Queues.{latest}
use Rattle.vm_flat.proofs.Regions.{if_no}
use Rattle.vm_flat.proofs.Ties.{spot_is}
use Rattle.vm_flat.proofs.Translation.{sustained}
use Rattle.vm_flat.proofs.Using.{by_cause, counted}
use Rattle.vm_flat.proofs.World.{World, placed, reach_top, view}
use Rattle.vm_legal.proofs.Numbering.{named_regions}

-- a declared object has the pages that were declared
pub pages_declared : (header : Header) (outside : Outside) (r : ℕ) (past : List Event) → EachEvent (HasCause header outside) past → r < named header
    → (region_of header r past).pages ≡ declared_pages header r
pages_declared header outside r [] caused below = refl
pages_declared header outside r (event.RegionMade new object pages ∷ past) caused below =
    by_cause header outside (event.RegionMade new object pages) past caused.0
    (λ doing c. if_no r new.0 pages (region_of header r past).pages (λ same. omega (arith, same, below, c.0, named_regions header past))
    ∙ pages_declared header outside r past caused.1 below)
pages_declared header outside r (event.RegionCopied new source offset pages ∷ past) caused below =
    by_cause header outside (event.RegionCopied new source offset pages) past caused.0
    (λ doing c. if_no r new.0 pages (region_of header r past).pages (λ same. omega (arith, same, below, c.next, named_regions header past))
    ∙ pages_declared header outside r past caused.1 below)
pages_declared header outside r (event.Delayed new source offset pages copy ∷ past) caused below =
    by_cause header outside (event.Delayed new source offset pages copy) past caused.0
    (λ doing c. if_no r new.0 pages (region_of header r past).pages (λ same. omega (arith, same, below, c.next, named_regions header past))
    ∙ pages_declared header outside r past caused.1 below)
pages_declared header outside r (e ∷ past) caused below = pages_declared header outside r past caused.1 below

-- unless a changed page is here, its content is what was returned last
content_clean : (s : Spot) (page : Local) → s.here ≡ page.here → s.dirty ≡ page.dirty → (page.here ≡ true → page.dirty ≡ false) → content s ≡ s.returned
content_clean s page here dirty clean = by page.here page.dirty here dirty clean
  where
    by : (b c : Bool) → s.here ≡ b → s.dirty ≡ c → (b ≡ true → c ≡ false) → content s ≡ s.returned
    by true true is also clean = absurd (let bad : true ≡ false = clean refl in cc)
    by true false is also clean = rw (is, also) refl
    by false c is also clean = rw is refl

has_some : (was : Option (List ℕ)) (b : Bool) (first : List ℕ) → b ≡ true → (bytes : List ℕ) × (newer was (if b then Some first else None) ≡ Some bytes)
has_some None true first file = (first, refl)
has_some (Some bytes) true first file = (bytes, refl)
has_some was false first file = absurd (let bad : false ≡ true = file in cc)

pub settled : (header : Header) (outside : Outside) (history : List Event) → EachEvent (HasCause header outside) history
    → EachEvent (CopiesCurrent header outside) history → (host o p : ℕ) → is_file header o ≡ true → is_said header outside o ≡ false
    → V.in_use header host o history ≡ true → p < declared_pages header o → queue (up_port host o) history ≡ []
    → ((page_on header host o p history).here ≡ true → (page_on header host o p history).dirty ≡ false)
    → pager_has header outside host o p history ≡ Some (flat_page header outside o p history)
settled header outside history caused current host o p file silent used inside empty clean =
    by (has_some (last_return host o p history) (is_file header o) (start_page header outside o p) file)
  where
    h : Holds header outside history
    h = holds header outside history (sustained header outside history caused) current

    private : is_private header outside o history ≡ true
    private = file_covered header outside o (comes_from o history) file

    below : o < named header
    below = grind (arith, nat_tests)

    s : Spot
    s = spot header outside host o p history

    i : SpotIsLocal (is_file header o) (last_control host o history) (live_control host o history) s (page_on header host o p history)
    i = spot_is_local header outside history host o p

    -- all returns were taken
    taken : s.kept ≡ s.returned
    taken = subst (λ q. latest q s.kept ≡ s.returned) (h.ups host o p ∙ ap (up_words p) empty) (sound_of header outside host o p history h.worlds
        (file_covered header outside o (stem header o history) file)).last

    top : IsTop (region_of header o history) p o p
    top = record { object = h.numbered.declared_top o below; page = let shift = h.numbered.declared_shift o below in omega (arith, shift) }

    at : C.Tops (ground header outside) o p o p (deeds header outside host history)
    at =
        tops header outside host o p o p history (counted header outside host o history caused private used) top
        (subst (λ (n : ℕ). p < n) (sym (pages_declared header outside o history caused below)) inside)

    w : World (ground header outside) (deeds header outside host history)
    w = h.worlds host

    shows : (bytes : List ℕ) → content (D.spot (ground header outside) o p (deeds header outside host history)) ≡ Some bytes
        → view (ground header outside) o p (deeds header outside host history) ≡ bytes
    shows bytes is =
        let reach = reach_top (ground header outside) o p o p (deeds header outside host history) w.shape
        at in ((placed (ground header outside) o p (deeds header outside host history) w reach).fits reach).solid bytes is

    flat : D.flat (ground header outside) o p (deeds header outside host history) ≡ view (ground header outside) o p (deeds header outside host history)
    flat =
        w.regional o p at.used at.inside ∙ ap (λ k. view (ground header outside) k
        ((D.row (ground header outside) o (deeds header outside host history)).shift + p) (deeds header outside host history)) at.object
        ∙ ap (λ q. view (ground header outside) o q (deeds header outside host history)) at.page

    by : (bytes : List ℕ) × (pager_has header outside host o p history ≡ Some bytes)
        → pager_has header outside host o p history ≡ Some (flat_page header outside o p history)
    by (bytes, has) =
        let is : content (D.spot (ground header outside) o p (deeds header outside host history)) ≡ Some bytes =
        ap content (spot_is header outside host o p history) ∙ content_clean s (page_on header host o p history) i.here i.dirty clean ∙ sym taken
        ∙ kept_is header outside host o p history silent ∙ has in
        has ∙ ap Some (sym (shows bytes is) ∙ sym flat ∙ h.flats host o p)
