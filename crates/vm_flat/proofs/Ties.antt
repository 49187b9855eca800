-- What the events leave is what their deeds leave.
use Rattle.std.proofs.Common.{◌≡◌, ℕ, List, [], ◌∷◌, Bool, true, refl, arith, if◌then◌else◌, ◌∙◌, ap, Option, Some, None, ◌+◌}
use Rattle.std.specs.Prelude.{◌==◌, ◌&&◌, ◌||◌, nat_lt, not}
use Rattle.vm_model.specs.declared.event.Event.{Event}
use Rattle.vm_model.specs.declared.event.Event.TheVariants as event
use Rattle.vm_model.specs.declared.message.Channel.TheVariants.{Up, Down}
use Rattle.vm_model.specs.declared.message.Message.{Message}
use Rattle.vm_model.specs.declared.message.Message.TheVariants as message
use Rattle.vm_model.specs.declared.script.Header.{Header}
use Rattle.vm_model.specs.Named.{declared, named}
use Rattle.vm_legal.specs.Outside.{zeros, is_file_kept, is_from_told, is_said}
use Rattle.vm_legal.specs.Pushes.{is_pushed}
use Rattle.vm_legal.specs.Living.{lives_on}
use Rattle.vm_model.specs.Homes.{object_home}
use Rattle.vm_model.specs.Local.{is_on}
use Rattle.vm_model.specs.Regions.{next_region, next_object, Region, region_of, Backing, backing_of, is_copy, is_newest, newest_copy, object_pages}
use Rattle.vm_legal.specs.Used.{made_here}
use Rattle.vm_flat.proofs.Uses.{in_use}
use Rattle.vm_flat.proofs.Covers.{is_covered, stem}
use Rattle.vm_flat.specs.Words.{SpotEffect, Raises, Nothing}
use Rattle.vm_flat.specs.Spot.{Spot, merged_effect, spot_after}
use Rattle.vm_model.specs.Controls.{is_control, last_control, live_control}
use Rattle.vm_flat.specs.Places.{effect_sent_up, effect_taken_up, effect_sent_down, effect_taken_down, effect_of, at_place, spot}
use Rattle.vm_flat.proofs.Sustained.{control}
use Rattle.vm_legal.specs.Outside.{Outside}
use Rattle.vm_flat.proofs.Deeds as D
use Rattle.vm_flat.proofs.Classes.{ground, up_deed, taken_up_deed, down_deed, taken_down_deed, deed, deeds, up_case, taken_up_case, down_case, taken_down_case}

abbrev pub as_row : Bool → Region → D.Row
as_row used region = record { used = used; mark = region.mark; top = region.top; shift = region.shift; pages = region.pages }

abbrev pub as_link : Backing → D.Link
as_link backing = record { backed = backing.backed; under = backing.under; shift = backing.shift }

pub row_is : (header : Header) (outside : Outside) (host r : ℕ) (past : List Event)
    → D.row (ground header outside) r (deeds header outside host past) ≡ as_row (in_use header outside host r past) (region_of header r past)
row_is header outside host r [] = refl
row_is header outside host r (event.RegionMade region object pages ∷ past) =
    ap (λ w. D.made_row (r == region.0) (made_here host past && outside.paging) object.0 pages w) (row_is header outside host r past)
row_is header outside host r (event.RegionCopied region source offset pages ∷ past) =
    ap (λ w. D.cow_row (r == region.0) (r == source.0) offset pages w (D.row (ground header outside) r (deeds header outside host past)))
    (row_is header outside host source.0 past)
    ∙ ap (λ w. D.cow_row (r == region.0) (r == source.0) offset pages (as_row (in_use header outside host source.0 past) (region_of header source.0 past)) w)
    (row_is header outside host r past)
row_is header outside host r (event.Delayed region source offset pages copy ∷ past) =
    ap (λ w. D.delayed_row (r == region.0) (outside.paging && is_from_told header outside (Some source.0)) copy.0 offset pages w (D.row
    (ground header outside) r (deeds header outside host past)))
    (row_is header outside host source.0 past)
    ∙ ap (λ w. D.delayed_row (r == region.0) (outside.paging && is_from_told header outside (Some source.0)) copy.0 offset pages (as_row
    (in_use header outside host source.0 past) (region_of header source.0 past)) w)
    (row_is header outside host r past)
row_is header outside host r (event.Entered task address bytes region offset prot inherit ∷ past) =
    ap (λ w. D.row_move r (deed header outside host (event.Entered task address bytes region offset prot inherit) past) (λ k. w))
    (row_is header outside host r past)
row_is header outside host r (event.Removed task address bytes ∷ past) =
    ap (λ w. D.row_move r (deed header outside host (event.Removed task address bytes) past) (λ k. w)) (row_is header outside host r past)
row_is header outside host r (event.TaskEnded task ∷ past) =
    ap (λ w. D.row_move r (deed header outside host (event.TaskEnded task) past) (λ k. w)) (row_is header outside host r past)
row_is header outside host r (event.Failed task object page ∷ past) =
    ap (λ w. D.row_move r (deed header outside host (event.Failed task object page) past) (λ k. w)) (row_is header outside host r past)
row_is header outside host r (event.Shadowed region new old ∷ past) = ap (λ w. D.shadow_row (r == region.0) new.0 w) (row_is header outside host r past)
row_is header outside host r (event.Unmarked region ∷ past) = ap (λ w. D.unmarked_row (r == region.0) w) (row_is header outside host r past)
row_is header outside host r (event.Sent (Up at object) m ∷ past) =
    up_case (λ d. D.row (ground header outside) r (d ∷ deeds header outside host past) ≡ D.row (ground header outside) r (deeds header outside host past))
    (λ own o. refl) (λ own lives o p. refl) (λ own o p keep bytes. refl) (λ own o. refl) refl (at.0 == host) (live_control host object.0 past) object.0 m
    ∙ row_is header outside host r past
row_is header outside host r (event.Sent (Down at object number) m ∷ past) =
    down_case (λ d. D.row (ground header outside) r (d ∷ deeds header outside host past) ≡ D.row (ground header outside) r (deeds header outside host past))
    (at.0 == host && number == last_control host object.0 past) (is_said header outside object.0) (λ o p word. refl) refl object.0 m
    ∙ row_is header outside host r past
row_is header outside host r (event.Taken (Up at object) m ∷ past) =
    taken_up_case (λ d. D.row (ground header outside) r (d ∷ deeds header outside host past) ≡ D.row (ground header outside) r
    (deeds header outside host past))
    (λ own o p. refl) (λ own o p bytes. refl) refl (at.0 == host) object.0 m
    ∙ row_is header outside host r past
row_is header outside host r (event.Taken (Down at object number) m ∷ past) =
    taken_down_case (λ d. D.row (ground header outside) r (d ∷ deeds header outside host past) ≡ D.row (ground header outside) r
    (deeds header outside host past)) (λ own o p word. refl) refl (at.0 == host && number == last_control host object.0 past) object.0 m
    ∙ row_is header outside host r past
row_is header outside host r (e ∷ past) = row_is header outside host r past

pub regions_is : (header : Header) (outside : Outside) (host : ℕ) (past : List Event)
    → D.regions (ground header outside) (deeds header outside host past) ≡ next_region header past
regions_is header outside host [] = refl
regions_is header outside host (event.RegionMade region object pages ∷ past) = omega (arith, regions_is header outside host past)
regions_is header outside host (event.RegionCopied region source offset pages ∷ past) = omega (arith, regions_is header outside host past)
regions_is header outside host (event.Delayed region source offset pages copy ∷ past) = omega (arith, regions_is header outside host past)
regions_is header outside host (event.Sent (Up at object) m ∷ past) =
    up_case (λ d. D.regions (ground header outside) (d ∷ deeds header outside host past) ≡ D.regions (ground header outside) (deeds header outside host past))
    (λ own o. refl) (λ own lives o p. refl) (λ own o p keep bytes. refl) (λ own o. refl) refl (at.0 == host) (live_control host object.0 past) object.0 m
    ∙ regions_is header outside host past
regions_is header outside host (event.Sent (Down at object number) m ∷ past) =
    down_case (λ d. D.regions (ground header outside) (d ∷ deeds header outside host past) ≡ D.regions (ground header outside)
    (deeds header outside host past))
    (at.0 == host && number == last_control host object.0 past) (is_said header outside object.0) (λ o p word. refl) refl object.0 m
    ∙ regions_is header outside host past
regions_is header outside host (event.Taken (Up at object) m ∷ past) =
    taken_up_case (λ d. D.regions (ground header outside) (d ∷ deeds header outside host past) ≡ D.regions (ground header outside)
    (deeds header outside host past)) (λ own o p. refl) (λ own o p bytes. refl) refl (at.0 == host) object.0 m
    ∙ regions_is header outside host past
regions_is header outside host (event.Taken (Down at object number) m ∷ past) =
    taken_down_case (λ d. D.regions (ground header outside) (d ∷ deeds header outside host past) ≡ D.regions (ground header outside)
    (deeds header outside host past)) (λ own o p word. refl) refl (at.0 == host && number == last_control host object.0 past) object.0 m
    ∙ regions_is header outside host past
regions_is header outside host (e ∷ past) = regions_is header outside host past

pub objects_is : (header : Header) (outside : Outside) (host : ℕ) (past : List Event)
    → D.objects (ground header outside) (deeds header outside host past) ≡ next_object header past
objects_is header outside host [] = refl
objects_is header outside host (event.RegionMade region object pages ∷ past) = omega (arith, objects_is header outside host past)
objects_is header outside host (event.Delayed region source offset pages copy ∷ past) = omega (arith, objects_is header outside host past)
objects_is header outside host (event.Shadowed region new old ∷ past) = omega (arith, objects_is header outside host past)
objects_is header outside host (event.Sent (Up at object) m ∷ past) =
    up_case (λ d. D.objects (ground header outside) (d ∷ deeds header outside host past) ≡ D.objects (ground header outside) (deeds header outside host past))
    (λ own o. refl) (λ own lives o p. refl) (λ own o p keep bytes. refl) (λ own o. refl) refl (at.0 == host) (live_control host object.0 past) object.0 m
    ∙ objects_is header outside host past
objects_is header outside host (event.Sent (Down at object number) m ∷ past) =
    down_case (λ d. D.objects (ground header outside) (d ∷ deeds header outside host past) ≡ D.objects (ground header outside)
    (deeds header outside host past))
    (at.0 == host && number == last_control host object.0 past) (is_said header outside object.0) (λ o p word. refl) refl object.0 m
    ∙ objects_is header outside host past
objects_is header outside host (event.Taken (Up at object) m ∷ past) =
    taken_up_case (λ d. D.objects (ground header outside) (d ∷ deeds header outside host past) ≡ D.objects (ground header outside)
    (deeds header outside host past)) (λ own o p. refl) (λ own o p bytes. refl) refl (at.0 == host) object.0 m
    ∙ objects_is header outside host past
objects_is header outside host (event.Taken (Down at object number) m ∷ past) =
    taken_down_case (λ d. D.objects (ground header outside) (d ∷ deeds header outside host past) ≡ D.objects (ground header outside)
    (deeds header outside host past)) (λ own o p word. refl) refl (at.0 == host && number == last_control host object.0 past) object.0 m
    ∙ objects_is header outside host past
objects_is header outside host (e ∷ past) = objects_is header outside host past

abbrev over : Bool → D.Row → D.Link → D.Link
over b row was = record { backed = if b then true else was.backed; under = if b then row.top else was.under; shift = if b then row.shift else was.shift }

pub newest_is : (header : Header) (outside : Outside) (host f : ℕ) (past : List Event)
    → D.newest (ground header outside) f (deeds header outside host past) ≡ newest_copy f past
newest_is header outside host f [] = refl
newest_is header outside host f (event.Delayed region source offset pages copy ∷ past) =
    ap (λ n. if f == source.0 then Some copy.0 else n) (newest_is header outside host f past)
newest_is header outside host f (event.Sent (Up at object) m ∷ past) =
    up_case (λ d. D.newest (ground header outside) f (d ∷ deeds header outside host past)
    ≡ D.newest (ground header outside) f (deeds header outside host past))
    (λ own o. refl) (λ own lives o p. refl) (λ own o p keep bytes. refl) (λ own o. refl) refl (at.0 == host) (live_control host object.0 past) object.0 m
    ∙ newest_is header outside host f past
newest_is header outside host f (event.Sent (Down at object number) m ∷ past) =
    down_case (λ d. D.newest (ground header outside) f (d ∷ deeds header outside host past)
    ≡ D.newest (ground header outside) f (deeds header outside host past))
    (at.0 == host && number == last_control host object.0 past) (is_said header outside object.0) (λ o p word. refl) refl object.0 m
    ∙ newest_is header outside host f past
newest_is header outside host f (event.Taken (Up at object) m ∷ past) =
    taken_up_case (λ d. D.newest (ground header outside) f (d ∷ deeds header outside host past)
    ≡ D.newest (ground header outside) f (deeds header outside host past))
    (λ own o p. refl) (λ own o p bytes. refl) refl (at.0 == host) object.0 m
    ∙ newest_is header outside host f past
newest_is header outside host f (event.Taken (Down at object number) m ∷ past) =
    taken_down_case (λ d. D.newest (ground header outside) f (d ∷ deeds header outside host past)
    ≡ D.newest (ground header outside) f (deeds header outside host past))
    (λ own o p word. refl) refl (at.0 == host && number == last_control host object.0 past) object.0 m
    ∙ newest_is header outside host f past
newest_is header outside host f (e ∷ past) = newest_is header outside host f past

pub copy_is : (header : Header) (outside : Outside) (host o : ℕ) (past : List Event)
    → D.is_copy (ground header outside) o (deeds header outside host past) ≡ is_copy o past
copy_is header outside host o [] = refl
copy_is header outside host o (event.Delayed region source offset pages copy ∷ past) = ap (λ b. o == copy.0 || b) (copy_is header outside host o past)
copy_is header outside host o (event.Sent (Up at object) m ∷ past) =
    up_case (λ d. D.is_copy (ground header outside) o (d ∷ deeds header outside host past)
    ≡ D.is_copy (ground header outside) o (deeds header outside host past))
    (λ own o. refl) (λ own lives o p. refl) (λ own o p keep bytes. refl) (λ own o. refl) refl (at.0 == host) (live_control host object.0 past) object.0 m
    ∙ copy_is header outside host o past
copy_is header outside host o (event.Sent (Down at object number) m ∷ past) =
    down_case (λ d. D.is_copy (ground header outside) o (d ∷ deeds header outside host past)
    ≡ D.is_copy (ground header outside) o (deeds header outside host past))
    (at.0 == host && number == last_control host object.0 past) (is_said header outside object.0) (λ o p word. refl) refl object.0 m
    ∙ copy_is header outside host o past
copy_is header outside host o (event.Taken (Up at object) m ∷ past) =
    taken_up_case (λ d. D.is_copy (ground header outside) o (d ∷ deeds header outside host past)
    ≡ D.is_copy (ground header outside) o (deeds header outside host past))
    (λ own o p. refl) (λ own o p bytes. refl) refl (at.0 == host) object.0 m
    ∙ copy_is header outside host o past
copy_is header outside host o (event.Taken (Down at object number) m ∷ past) =
    taken_down_case (λ d. D.is_copy (ground header outside) o (d ∷ deeds header outside host past)
    ≡ D.is_copy (ground header outside) o (deeds header outside host past))
    (λ own o p word. refl) refl (at.0 == host && number == last_control host object.0 past) object.0 m
    ∙ copy_is header outside host o past
copy_is header outside host o (e ∷ past) = copy_is header outside host o past

pub pushed_is : (header : Header) (outside : Outside) (host o p : ℕ) (past : List Event)
    → D.is_pushed (ground header outside) o p (deeds header outside host past) ≡ is_pushed host o p past
pushed_is header outside host o p [] = refl
pushed_is header outside host o p (event.Raised at lower lower_page upper upper_page ∷ past) =
    ap (λ b. (at.0 == host && (upper.0 == o && upper_page.0 == p)) || b) (pushed_is header outside host o p past)
pushed_is header outside host o p (event.Sent (Up at object) m ∷ past) =
    up_case (λ d. D.is_pushed (ground header outside) o p (d ∷ deeds header outside host past)
    ≡ D.is_pushed (ground header outside) o p (deeds header outside host past))
    (λ own o. refl) (λ own lives o p. refl) (λ own o p keep bytes. refl) (λ own o. refl) refl (at.0 == host) (live_control host object.0 past) object.0 m
    ∙ pushed_is header outside host o p past
pushed_is header outside host o p (event.Sent (Down at object number) m ∷ past) =
    down_case (λ d. D.is_pushed (ground header outside) o p (d ∷ deeds header outside host past)
    ≡ D.is_pushed (ground header outside) o p (deeds header outside host past))
    (at.0 == host && number == last_control host object.0 past) (is_said header outside object.0) (λ o p word. refl) refl object.0 m
    ∙ pushed_is header outside host o p past
pushed_is header outside host o p (event.Taken (Up at object) m ∷ past) =
    taken_up_case (λ d. D.is_pushed (ground header outside) o p (d ∷ deeds header outside host past)
    ≡ D.is_pushed (ground header outside) o p (deeds header outside host past))
    (λ own o p. refl) (λ own o p bytes. refl) refl (at.0 == host) object.0 m
    ∙ pushed_is header outside host o p past
pushed_is header outside host o p (event.Taken (Down at object number) m ∷ past) =
    taken_down_case (λ d. D.is_pushed (ground header outside) o p (d ∷ deeds header outside host past)
    ≡ D.is_pushed (ground header outside) o p (deeds header outside host past))
    (λ own o p word. refl) refl (at.0 == host && number == last_control host object.0 past) object.0 m
    ∙ pushed_is header outside host o p past
pushed_is header outside host o p (e ∷ past) = pushed_is header outside host o p past

pub stem_is : (header : Header) (outside : Outside) (host o : ℕ) (past : List Event)
    → D.stem (ground header outside) o (deeds header outside host past) ≡ stem header o past
stem_is header outside host o [] = refl
stem_is header outside host o (event.Delayed region source offset pages copy ∷ past) =
    ap (λ s. if o == copy.0 then Some source.0 else s) (stem_is header outside host o past)
stem_is header outside host o (event.Shadowed region new old ∷ past) =
    ap (λ (w : D.Row). if o == new.0 then D.stem (ground header outside) w.top (deeds header outside host past) else D.stem (ground header outside) o
    (deeds header outside host past)) (row_is header outside host region.0 past)
    ∙ ap (λ s. if o == new.0 then s else D.stem (ground header outside) o (deeds header outside host past))
    (stem_is header outside host (region_of header region.0 past).top past)
    ∙ ap (λ s. if o == new.0 then stem header (region_of header region.0 past).top past else s) (stem_is header outside host o past)
stem_is header outside host o (event.Sent (Up at object) m ∷ past) =
    up_case (λ d. D.stem (ground header outside) o (d ∷ deeds header outside host past)
    ≡ D.stem (ground header outside) o (deeds header outside host past))
    (λ own o. refl) (λ own lives o p. refl) (λ own o p keep bytes. refl) (λ own o. refl) refl (at.0 == host) (live_control host object.0 past) object.0 m
    ∙ stem_is header outside host o past
stem_is header outside host o (event.Sent (Down at object number) m ∷ past) =
    down_case (λ d. D.stem (ground header outside) o (d ∷ deeds header outside host past)
    ≡ D.stem (ground header outside) o (deeds header outside host past))
    (at.0 == host && number == last_control host object.0 past) (is_said header outside object.0) (λ o p word. refl) refl object.0 m
    ∙ stem_is header outside host o past
stem_is header outside host o (event.Taken (Up at object) m ∷ past) =
    taken_up_case (λ d. D.stem (ground header outside) o (d ∷ deeds header outside host past)
    ≡ D.stem (ground header outside) o (deeds header outside host past))
    (λ own o p. refl) (λ own o p bytes. refl) refl (at.0 == host) object.0 m
    ∙ stem_is header outside host o past
stem_is header outside host o (event.Taken (Down at object number) m ∷ past) =
    taken_down_case (λ d. D.stem (ground header outside) o (d ∷ deeds header outside host past)
    ≡ D.stem (ground header outside) o (deeds header outside host past))
    (λ own o p word. refl) refl (at.0 == host && number == last_control host object.0 past) object.0 m
    ∙ stem_is header outside host o past
stem_is header outside host o (e ∷ past) = stem_is header outside host o past

told_is : (header : Header) (outside : Outside) (from : Option ℕ) → D.told (ground header outside) from ≡ is_from_told header outside from
told_is header outside None = refl
told_is header outside (Some file) = refl

pub covered_is : (header : Header) (outside : Outside) (host o : ℕ) (past : List Event)
    → D.covered (ground header outside) o (deeds header outside host past) ≡ is_covered header outside o past
covered_is header outside host o past =
    ap (λ b. (not (nat_lt o (named header)) && (outside.paging && b)) || (nat_lt o (named header) && is_file_kept (declared header o)))
    (ap (λ s. D.told (ground header outside) s) (stem_is header outside host o past) ∙ told_is header outside (stem header o past))

pub link_is : (header : Header) (outside : Outside) (host o : ℕ) (past : List Event)
    → D.link (ground header outside) o (deeds header outside host past) ≡ as_link (backing_of header o past)
link_is header outside host o [] = refl
link_is header outside host o (event.Delayed region source offset pages copy ∷ past) =
    ap (λ n. D.pushed (o == copy.0) (is_newest o n) source.0 copy.0 (D.link (ground header outside) o (deeds header outside host past)))
    (newest_is header outside host source.0 past)
    ∙ ap (λ (l : D.Link). D.pushed (o == copy.0) (is_newest o (newest_copy source.0 past)) source.0 copy.0 l) (link_is header outside host o past)
link_is header outside host o (event.Shadowed region new old ∷ past) =
    ap (λ (w : D.Row). over (o == new.0) w (D.link (ground header outside) o (deeds header outside host past))) (row_is header outside host region.0 past)
    ∙ ap (λ (l : D.Link). over (o == new.0) (as_row (in_use header outside host region.0 past) (region_of header region.0 past)) l)
    (link_is header outside host o past)
link_is header outside host o (event.Merged upper lower ∷ past) =
    ap (λ (l : D.Link). D.joined (o == upper.0) l (D.link (ground header outside) o (deeds header outside host past)))
    (link_is header outside host lower.0 past)
    ∙ ap (λ (l : D.Link). D.joined (o == upper.0) (as_link (backing_of header lower.0 past)) l) (link_is header outside host o past)
link_is header outside host o (event.Sent (Up at object) m ∷ past) =
    up_case (λ d. D.link (ground header outside) o (d ∷ deeds header outside host past) ≡ D.link (ground header outside) o (deeds header outside host past))
    (λ own o. refl) (λ own lives o p. refl) (λ own o p keep bytes. refl) (λ own o. refl) refl (at.0 == host) (live_control host object.0 past) object.0 m
    ∙ link_is header outside host o past
link_is header outside host o (event.Sent (Down at object number) m ∷ past) =
    down_case (λ d. D.link (ground header outside) o (d ∷ deeds header outside host past) ≡ D.link (ground header outside) o (deeds header outside host past))
    (at.0 == host && number == last_control host object.0 past) (is_said header outside object.0) (λ o p word. refl) refl object.0 m
    ∙ link_is header outside host o past
link_is header outside host o (event.Taken (Up at object) m ∷ past) =
    taken_up_case (λ d. D.link (ground header outside) o (d ∷ deeds header outside host past) ≡ D.link (ground header outside) o
    (deeds header outside host past)) (λ own o p. refl) (λ own o p bytes. refl) refl (at.0 == host) object.0 m
    ∙ link_is header outside host o past
link_is header outside host o (event.Taken (Down at object number) m ∷ past) =
    taken_down_case (λ d. D.link (ground header outside) o (d ∷ deeds header outside host past) ≡ D.link (ground header outside) o
    (deeds header outside host past)) (λ own o p word. refl) refl (at.0 == host && number == last_control host object.0 past) object.0 m
    ∙ link_is header outside host o past
link_is header outside host o (e ∷ past) = link_is header outside host o past

pub pages_is : (header : Header) (outside : Outside) (host o : ℕ) (past : List Event)
    → D.pages (ground header outside) o (deeds header outside host past) ≡ object_pages header o past
pages_is header outside host o [] = refl
pages_is header outside host o (event.RegionMade region object pages ∷ past) =
    ap (λ (n : ℕ). if o == object.0 then pages else n) (pages_is header outside host o past)
pages_is header outside host o (event.Delayed region source offset pages copy ∷ past) =
    ap (λ (n : ℕ). if o == copy.0 then n else D.pages (ground header outside) o (deeds header outside host past)) (pages_is header outside host source.0 past)
    ∙ ap (λ (n : ℕ). if o == copy.0 then object_pages header source.0 past else n) (pages_is header outside host o past)
pages_is header outside host o (event.Shadowed region new old ∷ past) =
    ap (λ (w : D.Row). if o == new.0 then w.pages else D.pages (ground header outside) o (deeds header outside host past))
    (row_is header outside host region.0 past)
    ∙ ap (λ (n : ℕ). if o == new.0 then (region_of header region.0 past).pages else n) (pages_is header outside host o past)
pages_is header outside host o (event.Sent (Up at object) m ∷ past) =
    up_case (λ d. D.pages (ground header outside) o (d ∷ deeds header outside host past) ≡ D.pages (ground header outside) o (deeds header outside host past))
    (λ own o. refl) (λ own lives o p. refl) (λ own o p keep bytes. refl) (λ own o. refl) refl (at.0 == host) (live_control host object.0 past) object.0 m
    ∙ pages_is header outside host o past
pages_is header outside host o (event.Sent (Down at object number) m ∷ past) =
    down_case (λ d. D.pages (ground header outside) o (d ∷ deeds header outside host past) ≡ D.pages (ground header outside) o
    (deeds header outside host past))
    (at.0 == host && number == last_control host object.0 past) (is_said header outside object.0) (λ o p word. refl) refl object.0 m
    ∙ pages_is header outside host o past
pages_is header outside host o (event.Taken (Up at object) m ∷ past) =
    taken_up_case (λ d. D.pages (ground header outside) o (d ∷ deeds header outside host past) ≡ D.pages (ground header outside) o
    (deeds header outside host past)) (λ own o p. refl) (λ own o p bytes. refl) refl (at.0 == host) object.0 m
    ∙ pages_is header outside host o past
pages_is header outside host o (event.Taken (Down at object number) m ∷ past) =
    taken_down_case (λ d. D.pages (ground header outside) o (d ∷ deeds header outside host past) ≡ D.pages (ground header outside) o
    (deeds header outside host past)) (λ own o p word. refl) refl (at.0 == host && number == last_control host object.0 past) object.0 m
    ∙ pages_is header outside host o past
pages_is header outside host o (e ∷ past) = pages_is header outside host o past

-- places

up_effect : (o p : ℕ) (own : Bool) (live : Option ℕ) (object : ℕ) (m : Message) (spots : ℕ → ℕ → Spot)
    → D.effect o p (up_deed own live object m) spots ≡ effect_sent_up o p own live object m
up_effect o p own live object (message.Init control size) spots = refl
up_effect o p own live object (message.Create control size) spots = refl
up_effect o p own live object (message.Request control page access) spots = refl
up_effect o p own live object (message.Return control page dirty keep bytes) spots = refl
up_effect o p own live object (message.Terminate control) spots = refl
up_effect o p own live object other spots = refl

taken_up_effect : (o p : ℕ) (own : Bool) (object : ℕ) (m : Message) (spots : ℕ → ℕ → Spot)
    → D.effect o p (taken_up_deed own object m) spots ≡ effect_taken_up o p own object m
taken_up_effect o p own object (message.Request control page access) spots = refl
taken_up_effect o p own object (message.Return control page dirty keep bytes) spots = refl
taken_up_effect o p own object other spots = refl

down_effect : (o p : ℕ) (own tells : Bool) (object : ℕ) (m : Message) (spots : ℕ → ℕ → Spot)
    → D.effect o p (down_deed own tells object m) spots ≡ effect_sent_down o p own tells object m
down_effect o p own tells object (message.Supply page lock precious bytes) spots = refl
down_effect o p own tells object (message.Unavailable page) spots = refl
down_effect o p own tells object (message.Error page reason) spots = refl
down_effect o p own tells object other spots = refl

taken_down_effect : (o p : ℕ) (own : Bool) (object : ℕ) (m : Message) (spots : ℕ → ℕ → Spot)
    → D.effect o p (taken_down_deed own object m) spots ≡ effect_taken_down o p own object m
taken_down_effect o p own object (message.Supply page lock precious bytes) spots = refl
taken_down_effect o p own object (message.Unavailable page) spots = refl
taken_down_effect o p own object (message.Error page reason) spots = refl
taken_down_effect o p own object other spots = refl

moves : (header : Header) (s t : Spot) (e f : SpotEffect) → s ≡ t → e ≡ f → spot_after (zeros header) s e ≡ spot_after (zeros header) t f
moves header s t e f same like = ap (λ x. spot_after (zeros header) x e) same ∙ ap (λ x. spot_after (zeros header) t x) like

pub spot_is : (header : Header) (outside : Outside) (host o p : ℕ) (past : List Event)
    → D.spot (ground header outside) o p (deeds header outside host past) ≡ spot header outside host o p past
spot_is header outside host o p [] = refl
spot_is header outside host o p (event.Raised at lower lower_page upper upper_page ∷ past) =
    moves header _ _ _ _ (spot_is header outside host o p past) (ap (λ (s : Spot). at_place o p (at.0 == host) upper.0 upper_page.0 (Raises s.bytes) Nothing)
    (spot_is header outside host lower.0 lower_page.0 past))
spot_is header outside host o p (event.CopiedPage task page object object_page target ∷ past) =
    moves header _ _ _ _ (spot_is header outside host o p past) (ap (λ (s : Spot). at_place o p (lives_on host task.0 past) target.0 page.0 (Raises s.bytes)
    Nothing) (spot_is header outside host object.0 object_page.0 past))
spot_is header outside host o p (event.Merged upper lower ∷ past) =
    moves header _ _ _ _ (spot_is header outside host o p past) (ap (λ (s : Spot). if is_on host (object_home upper.0 past) then merged_effect o p upper.0
    lower.0 (backing_of header upper.0 past).shift (object_pages header upper.0 past) (object_pages header lower.0 past) s
    (D.spot (ground header outside) lower.0 ((backing_of header upper.0 past).shift + p) (deeds header outside host past)) else Nothing)
    (spot_is header outside host o p past)
    ∙ ap (λ (s : Spot). if is_on host (object_home upper.0 past) then merged_effect o p upper.0 lower.0 (backing_of header upper.0 past).shift
    (object_pages header upper.0 past) (object_pages header lower.0 past) (spot header outside host o p past) s else Nothing)
    (spot_is header outside host lower.0 ((backing_of header upper.0 past).shift + p) past))
spot_is header outside host o p (event.Sent (Up at object) m ∷ past) =
    moves header _ _ _ _ (spot_is header outside host o p past) (up_effect o p (at.0 == host) (live_control host object.0 past) object.0 m
    (λ k q. D.spot (ground header outside) k q (deeds header outside host past)))
spot_is header outside host o p (event.Sent (Down at object number) m ∷ past) =
    moves header _ _ _ _ (spot_is header outside host o p past) (down_effect o p (at.0 == host && number == last_control host object.0 past)
    (is_said header outside object.0) object.0 m (λ k q. D.spot (ground header outside) k q (deeds header outside host past)))
spot_is header outside host o p (event.Taken (Up at object) m ∷ past) =
    moves header _ _ _ _ (spot_is header outside host o p past) (taken_up_effect o p (at.0 == host) object.0 m
    (λ k q. D.spot (ground header outside) k q (deeds header outside host past)))
spot_is header outside host o p (event.Taken (Down at object number) m ∷ past) =
    moves header _ _ _ _ (spot_is header outside host o p past) (taken_down_effect o p (at.0 == host && number == last_control host object.0 past) object.0 m
    (λ k q. D.spot (ground header outside) k q (deeds header outside host past)))
spot_is header outside host o p (e ∷ past) =
    ap (λ s. spot_after (zeros header) s (effect_of header (λ k. is_said header outside k) host o p e past (λ k q. spot header outside host k q past)))
    (spot_is header outside host o p past)

pub control_tie : (header : Header) (outside : Outside) (host o : ℕ) (past : List Event)
    → D.control (ground header outside) o (deeds header outside host past) ≡ control header host o past
control_tie header outside host o [] = refl
control_tie header outside host o (event.Sent (Up at object) (message.Init number size) ∷ past) =
    ap (λ n. if at.0 == host && object.0 == o then 1 else n) (control_tie header outside host o past)
control_tie header outside host o (event.Sent (Up at object) (message.Create number size) ∷ past) =
    ap (λ n. if at.0 == host && object.0 == o then 1 else n) (control_tie header outside host o past)
control_tie header outside host o (event.Sent (Up at object) (message.Terminate number) ∷ past) =
    ap (λ n. if (at.0 == host && is_control number (live_control host object.0 past)) && object.0 == o then
    (if D.is_file (ground header outside) o then 0 else 2) else n) (control_tie header outside host o past)
control_tie header outside host o (event.Sent (Up at object) m ∷ past) = control_tie header outside host o past
control_tie header outside host o (event.Sent (Down at object number) m ∷ past) =
    down_case (λ d. D.control (ground header outside) o (d ∷ deeds header outside host past) ≡ D.control (ground header outside) o
    (deeds header outside host past)) (at.0 == host && number == last_control host object.0 past) (is_said header outside object.0) (λ o p word. refl) refl
    object.0 m
    ∙ control_tie header outside host o past
control_tie header outside host o (event.Taken (Up at object) m ∷ past) =
    taken_up_case (λ d. D.control (ground header outside) o (d ∷ deeds header outside host past) ≡ D.control (ground header outside) o
    (deeds header outside host past)) (λ own o p. refl) (λ own o p bytes. refl) refl (at.0 == host) object.0 m
    ∙ control_tie header outside host o past
control_tie header outside host o (event.Taken (Down at object number) m ∷ past) =
    taken_down_case (λ d. D.control (ground header outside) o (d ∷ deeds header outside host past) ≡ D.control (ground header outside) o
    (deeds header outside host past)) (λ own o p word. refl) refl (at.0 == host && number == last_control host object.0 past) object.0 m
    ∙ control_tie header outside host o past
control_tie header outside host o (e ∷ past) = control_tie header outside host o past
