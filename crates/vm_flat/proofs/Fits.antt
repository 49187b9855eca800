-- Each page of a region is a page of its top object, and each page of an object has a page of the object below.
use Rattle.std.proofs.Common.{ℕ, zero, suc, ◌≡◌, ◌≢◌, ◌+◌, ◌/◌, ◌<◌, ◌≤◌, List, [], ◌∷◌, Bool, true, false, Option, Some, None, refl, sym, ap}
use Rattle.std.proofs.Common.{subst, ◌∙◌, arith, if◌then◌else◌}
use Rattle.std.proofs.lemmas.Bool.Decides.{nat_tests}
use Rattle.std.specs.Prelude.{◌==◌}
use Rattle.vm_base.specs.declared.ids.ObjectId.{ObjectId}
use Rattle.vm_base.specs.declared.ids.RegionId.{RegionId}
use Rattle.vm_model.specs.declared.event.Event.{Event}
use Rattle.vm_model.specs.declared.event.Event.TheVariants as event
use Rattle.vm_model.specs.declared.script.Header.{Header}
use Rattle.vm_model.specs.Named.{declared_pages, named}
use Rattle.vm_model.specs.Regions.{backing_of, is_newest, newest_copy, next_object, next_region, object_pages, region_of}
use Rattle.vm_model.specs.Rows.{FoundRow, found_row}
use Rattle.vm_legal.proofs.Files.{file_named}
use Rattle.vm_legal.specs.Accesses.{At}
use Rattle.vm_legal.specs.Licences as L
use Rattle.vm_legal.specs.Outside.{Outside}
use Rattle.vm_legal.specs.Walks.{Sight, Walks}
use Rattle.vm_flat.proofs.Entries.{Entries, OwnedAt}
use Rattle.vm_flat.proofs.Housed.{Made, made_of}
use Rattle.vm_flat.proofs.Numbers.{NumberedAt}
use Rattle.vm_flat.proofs.Ports.{Worlds}
use Rattle.vm_flat.proofs.Regions.{if_no, if_yes}
use Rattle.vm_flat.proofs.Sustained.{Sustained}
use Rattle.vm_flat.proofs.Ties.{newest_is, pages_is}

pub record Fits (header : Header) (past : List Event) : Type 0 where
  pub tops : (r i : ℕ) → r < next_region header past → i < (region_of header r past).pages
      → (region_of header r past).shift + i < object_pages header (region_of header r past).top past
  pub under : (o p : ℕ) → (backing_of header o past).backed ≡ true → p < object_pages header o past
      → (backing_of header o past).shift + p < object_pages header (backing_of header o past).under past
  pub declared : (o : ℕ) → o < named header → object_pages header o past ≡ declared_pages header o

no_shift : (i n : ℕ) → i < n → 0 + i < n
no_shift i n less = omega (arith, less)

pub fits_start : (header : Header) → Fits header []
fits_start header = record { tops = λ r i made inside. no_shift i _ inside; under = λ o p backed. absurd (cc); declared = λ o below. refl }

-- a walk ends inside
pub walk_inside : (header : Header) (sights : ℕ → ℕ → Sight) (past : List Event) → Fits header past → (n o p l lp : ℕ)
    → p < object_pages header o past → Walks sights (λ k. backing_of header k past) n o p l lp → lp < object_pages header l past
walk_inside header sights past fits zero o p l lp inside walk =
    subst (λ (k : ℕ). lp < object_pages header k past) walk.0 (omega (arith, inside, walk.1))
walk_inside header sights past fits (suc n) o p l lp inside walk =
    walk_inside header sights past fits n (backing_of header o past).under ((backing_of header o past).shift + p) l lp (fits.under o p walk.1 inside) walk.2

-- the newest copy of a file has the file's pages
newest_pages : (header : Header) (outside : Outside) (f v : ℕ) (past : List Event) → Worlds header outside past → newest_copy f past ≡ Some v
    → object_pages header v past ≡ object_pages header f past
newest_pages header outside f v past w is =
    sym (pages_is header outside 0 v past)
    ∙ ((w 0).stems.newest_is f v (newest_is header outside 0 f past ∙ is)).same_pages
    ∙ pages_is header outside 0 f past

found : (header : Header) (outside : Outside) (task address : ℕ) (past : List Event) → Entries header outside past → (at : At header task address past)
    → FoundRow (OwnedAt header outside past at.host) address at.entry
found header outside task address past entries at =
    found_row (OwnedAt header outside past at.host) address _ at.entry (entries task at.host at.lives) at.found

-- a page of an object that is there, among those of a new one
old_page : (o new pages was p : ℕ) → o ≢ new → p < was → p < (if o == new then pages else was)
old_page o new pages was p apart less = subst (λ (n : ℕ). p < n) (sym (if_no o new pages was apart)) less

tops_made : (header : Header) (outside : Outside) (region : RegionId) (object : ObjectId) (pages : ℕ) (past : List Event) → object.0 ≡ next_object header past
    → region.0 ≡ next_region header past → Made header outside past → Fits header past → (r i : ℕ) → r < next_region header past + 1
    → i < (region_of header r (event.RegionMade region object pages ∷ past)).pages
    → (region_of header r (event.RegionMade region object pages ∷ past)).shift + i
    < object_pages header (region_of header r (event.RegionMade region object pages ∷ past)).top (event.RegionMade region object pages ∷ past)
tops_made header outside region object pages past new is m fits r i made inside = by (r == region.0) refl inside
  where
    apart : (a b : ℕ) → (a == b) ≡ false → a ≢ b
    apart a b isnt = grind (arith, nat_tests)

    by : (b : Bool) → (r == region.0) ≡ b → i < (if b then pages else (region_of header r past).pages)
        → (if b then 0 else (region_of header r past).shift) + i
        < object_pages header (if b then object.0 else (region_of header r past).top) (event.RegionMade region object pages ∷ past)
    by true same less =
        no_shift i _ (subst (λ (n : ℕ). i < n) (sym (if_yes object.0 object.0 pages (object_pages header object.0 past) refl)) less)
    by false other less =
        let old : r < next_region header past = omega (arith, made, is, apart r region.0 other) in
        old_page (region_of header r past).top object.0 pages _ _ (λ e. omega (arith, e, m.tops r old, new)) (fits.tops r i old less)

tops_copied : (header : Header) (outside : Outside) (region source : RegionId) (offset pages : ℕ) (past : List Event)
    → L.CopiesRegion header region.0 source.0 offset pages past → Entries header outside past → Fits header past → (r i : ℕ)
    → r < next_region header past + 1 → i < (region_of header r (event.RegionCopied region source offset pages ∷ past)).pages
    → (region_of header r (event.RegionCopied region source offset pages ∷ past)).shift + i
    < object_pages header (region_of header r (event.RegionCopied region source offset pages ∷ past)).top past
tops_copied header outside region source offset pages past c entries fits r i made inside = by (r == region.0) refl inside
  where
    apart : (a b : ℕ) → (a == b) ≡ false → a ≢ b
    apart a b isnt = grind (arith, nat_tests)

    row : FoundRow (OwnedAt header outside past c.at.host) c.address c.at.entry
    row = found header outside c.task c.address past entries c.at

    by : (b : Bool) → (r == region.0) ≡ b → i < (if b then pages else (region_of header r past).pages)
        → (if b then (region_of header source.0 past).shift + offset else (region_of header r past).shift) + i
        < object_pages header (if b then (region_of header source.0 past).top else (region_of header r past).top) past
    by true same less =
        let within : c.at.entry.offset + c.at.entry.bytes / header.size ≤ (region_of header c.at.entry.region.0 past).pages = row.is.inside.whole in
        let here : (region_of header source.0 past).pages ≡ (region_of header c.at.entry.region.0 past).pages = ap (λ k. (region_of header k past).pages)
        c.source_is in
        let below = fits.tops source.0 (offset + i) (omega (arith, row.is.made, c.source_is)) (omega (arith, less, c.inside, within, here)) in
        omega (arith, below)
    by false other less = fits.tops r i (omega (arith, made, c.next, apart r region.0 other)) less

tops_delayed : (header : Header) (outside : Outside) (region source : RegionId) (offset pages : ℕ) (copy : ObjectId) (past : List Event)
    → L.CopiesFile header region.0 source.0 offset pages copy.0 past → NumberedAt header past → Made header outside past → Entries header outside past
    → Fits header past → (r i : ℕ) → r < next_region header past + 1 → i < (region_of header r (event.Delayed region source offset pages copy ∷ past)).pages
    → (region_of header r (event.Delayed region source offset pages copy ∷ past)).shift + i
    < object_pages header (region_of header r (event.Delayed region source offset pages copy ∷ past)).top
    (event.Delayed region source offset pages copy ∷ past)
tops_delayed header outside region source offset pages copy past c n m entries fits r i made inside = by (r == region.0) refl inside
  where
    apart : (a b : ℕ) → (a == b) ≡ false → a ≢ b
    apart a b isnt = grind (arith, nat_tests)

    row : FoundRow (OwnedAt header outside past c.at.host) c.address c.at.entry
    row = found header outside c.task c.address past entries c.at

    by : (b : Bool) → (r == region.0) ≡ b → i < (if b then pages else (region_of header r past).pages)
        → (if b then offset else (region_of header r past).shift) + i
        < object_pages header (if b then copy.0 else (region_of header r past).top) (event.Delayed region source offset pages copy ∷ past)
    by true same less =
        let within : c.at.entry.offset + c.at.entry.bytes / header.size ≤ (region_of header c.at.entry.region.0 past).pages = row.is.inside.whole in
        let here : (region_of header source.0 past).pages ≡ (region_of header c.at.entry.region.0 past).pages = ap (λ k. (region_of header k past).pages)
        c.source_is in
        let top : object_pages header (region_of header source.0 past).top past ≡ object_pages header source.0 past = ap (λ k. object_pages header k past)
        (n.declared_top source.0 (file_named header source.0 c.file)) in
        let below = fits.tops source.0 (offset + i) (omega (arith, row.is.made, c.source_is)) (omega (arith, less, c.inside, within, here)) in
        subst (λ (k : ℕ). offset + i < k) (sym (if_yes copy.0 copy.0 (object_pages header source.0 past) (object_pages header copy.0 past) refl))
        (omega (arith, below, n.declared_shift source.0 (file_named header source.0 c.file), top))
    by false other less =
        let old : r < next_region header past = omega (arith, made, c.next, apart r region.0 other) in
        old_page (region_of header r past).top copy.0 (object_pages header source.0 past) _ _ (λ e. omega (arith, e, m.tops r old, c.new))
        (fits.tops r i old less)

under_delayed : (header : Header) (outside : Outside) (region source : RegionId) (offset pages : ℕ) (copy : ObjectId) (past : List Event)
    → L.CopiesFile header region.0 source.0 offset pages copy.0 past → NumberedAt header past → Worlds header outside past → Made header outside past
    → Fits header past → (o p : ℕ) → (backing_of header o (event.Delayed region source offset pages copy ∷ past)).backed ≡ true
    → p < object_pages header o (event.Delayed region source offset pages copy ∷ past)
    → (backing_of header o (event.Delayed region source offset pages copy ∷ past)).shift + p
    < object_pages header (backing_of header o (event.Delayed region source offset pages copy ∷ past)).under
    (event.Delayed region source offset pages copy ∷ past)
under_delayed header outside region source offset pages copy past c n w m fits o p backed inside = by_copy (o == copy.0) refl backed inside
  where
    apart : (a b : ℕ) → (a == b) ≡ false → a ≢ b
    apart a b isnt = grind (arith, nat_tests)

    newest_at : (x : Option ℕ) → is_newest o x ≡ true → x ≡ Some o
    newest_at None is = absurd (let bad : false ≡ true = is in cc)
    newest_at (Some v) is = let same : o ≡ v = grind (arith, nat_tests) in ap (λ (z : ℕ). Some z) (sym same)

    by_newest : (b : Bool) → is_newest o (newest_copy source.0 past) ≡ b → (if b then true else (backing_of header o past).backed) ≡ true
        → p < object_pages header o past
        → (if b then 0 else (backing_of header o past).shift) + p
        < object_pages header (if b then copy.0 else (backing_of header o past).under) (event.Delayed region source offset pages copy ∷ past)
    by_newest true is on less =
        no_shift p _ (subst (λ (k : ℕ). p < k)
        (sym (if_yes copy.0 copy.0 (object_pages header source.0 past) (object_pages header copy.0 past) refl))
        (omega (arith, less, newest_pages header outside source.0 o past w (newest_at (newest_copy source.0 past) is))))
    by_newest false is on less =
        old_page (backing_of header o past).under copy.0 (object_pages header source.0 past) _ _ (λ e. omega (arith, e, m.under o on, c.new))
        (fits.under o p on less)

    by_copy : (b : Bool) → (o == copy.0) ≡ b
        → (if b then true else (if is_newest o (newest_copy source.0 past) then true else (backing_of header o past).backed)) ≡ true
        → p < (if b then object_pages header source.0 past else object_pages header o past)
        → (if b then 0 else (if is_newest o (newest_copy source.0 past) then 0 else (backing_of header o past).shift)) + p
        < object_pages header (if b then source.0 else (if is_newest o (newest_copy source.0 past) then copy.0 else (backing_of header o past).under))
        (event.Delayed region source offset pages copy ∷ past)
    by_copy true same on less =
        no_shift p _ (old_page source.0 copy.0 (object_pages header source.0 past) (object_pages header source.0 past) p
        (λ e. omega (arith, e, file_named header source.0 c.file, c.new, n.later_objects)) less)
    by_copy false other on less = by_newest (is_newest o (newest_copy source.0 past)) refl on less

tops_shadowed : (header : Header) (outside : Outside) (region : RegionId) (new old : ObjectId) (past : List Event) → new.0 ≡ next_object header past
    → Made header outside past → Fits header past → (r i : ℕ) → r < next_region header past
    → i < (region_of header r (event.Shadowed region new old ∷ past)).pages
    → (region_of header r (event.Shadowed region new old ∷ past)).shift + i
    < object_pages header (region_of header r (event.Shadowed region new old ∷ past)).top (event.Shadowed region new old ∷ past)
tops_shadowed header outside region new old past fresh m fits r i made inside = by (r == region.0) refl
  where
    by : (b : Bool) → (r == region.0) ≡ b → (if b then 0 else (region_of header r past).shift) + i
        < object_pages header (if b then new.0 else (region_of header r past).top) (event.Shadowed region new old ∷ past)
    by true same =
        let e : r ≡ region.0 = grind (arith, nat_tests) in
        no_shift i _ (subst (λ (k : ℕ). i < k) (sym (if_yes new.0 new.0 (region_of header region.0 past).pages (object_pages header new.0 past) refl))
        (subst (λ (k : ℕ). i < (region_of header k past).pages) e inside))
    by false other =
        old_page (region_of header r past).top new.0 (region_of header region.0 past).pages _ _ (λ e. omega (arith, e, m.tops r made, fresh))
        (fits.tops r i made inside)

under_shadowed : (header : Header) (outside : Outside) (region : RegionId) (new old : ObjectId) (past : List Event) → new.0 ≡ next_object header past
    → region.0 < next_region header past → Made header outside past → Fits header past → (o p : ℕ)
    → (backing_of header o (event.Shadowed region new old ∷ past)).backed ≡ true
    → p < object_pages header o (event.Shadowed region new old ∷ past)
    → (backing_of header o (event.Shadowed region new old ∷ past)).shift + p
    < object_pages header (backing_of header o (event.Shadowed region new old ∷ past)).under (event.Shadowed region new old ∷ past)
under_shadowed header outside region new old past fresh made m fits o p backed inside = by (o == new.0) refl backed inside
  where
    by : (b : Bool) → (o == new.0) ≡ b → (if b then true else (backing_of header o past).backed) ≡ true
        → p < (if b then (region_of header region.0 past).pages else object_pages header o past)
        → (if b then (region_of header region.0 past).shift else (backing_of header o past).shift) + p
        < object_pages header (if b then (region_of header region.0 past).top else (backing_of header o past).under) (event.Shadowed region new old ∷ past)
    by true same on less =
        old_page (region_of header region.0 past).top new.0 (region_of header region.0 past).pages _ _
        (λ e. omega (arith, e, m.tops region.0 made, fresh)) (fits.tops region.0 p made less)
    by false other on less =
        old_page (backing_of header o past).under new.0 (region_of header region.0 past).pages _ _ (λ e. omega (arith, e, m.under o on, fresh))
        (fits.under o p on less)

under_merged : (header : Header) (upper lower : ObjectId) (past : List Event) → (backing_of header upper.0 past).backed ≡ true
    → (backing_of header upper.0 past).under ≡ lower.0 → Fits header past → (o p : ℕ)
    → (backing_of header o (event.Merged upper lower ∷ past)).backed ≡ true → p < object_pages header o past
    → (backing_of header o (event.Merged upper lower ∷ past)).shift + p
    < object_pages header (backing_of header o (event.Merged upper lower ∷ past)).under past
under_merged header upper lower past on under fits o p backed inside = by (o == upper.0) refl backed
  where
    by : (b : Bool) → (o == upper.0) ≡ b → (if b then (backing_of header lower.0 past).backed else (backing_of header o past).backed) ≡ true
        → (if b then (backing_of header lower.0 past).shift + (backing_of header o past).shift else (backing_of header o past).shift) + p
        < object_pages header (if b then (backing_of header lower.0 past).under else (backing_of header o past).under) past
    by true same there =
        let e : o ≡ upper.0 = grind (arith, nat_tests) in
        let first : (backing_of header o past).shift + p < object_pages header lower.0 past = subst (λ (k : ℕ). (backing_of header o past).shift + p <
        object_pages header k past) (ap (λ k. (backing_of header k past).under) e ∙ under)
        (fits.under o p (ap (λ k. (backing_of header k past).backed) e ∙ on) inside) in
        let second = fits.under lower.0 ((backing_of header o past).shift + p) there first in
        omega (arith, second)
    by false other there = fits.under o p there inside

tops_next : (header : Header) (outside : Outside) (e : Event) (past : List Event) → NumberedAt header past → Made header outside past
    → Entries header outside past → Sustained header outside e past → Fits header past → (r i : ℕ) → r < next_region header (e ∷ past)
    → i < (region_of header r (e ∷ past)).pages
    → (region_of header r (e ∷ past)).shift + i < object_pages header (region_of header r (e ∷ past)).top (e ∷ past)
tops_next header outside (event.RegionMade region object pages) past n m entries c fits r i made inside =
    tops_made header outside region object pages past c.1 c.0 m fits r i made inside
tops_next header outside (event.RegionCopied region source offset pages) past n m entries c fits r i made inside =
    tops_copied header outside region source offset pages past c entries fits r i made inside
tops_next header outside (event.Delayed region source offset pages copy) past n m entries c fits r i made inside =
    tops_delayed header outside region source offset pages copy past c n m entries fits r i made inside
tops_next header outside (event.Shadowed region new old) past n m entries c fits r i made inside =
    tops_shadowed header outside region new old past c.next m fits r i made inside
tops_next header outside e past n m entries c fits r i made inside = fits.tops r i made inside

under_next : (header : Header) (outside : Outside) (e : Event) (past : List Event) → NumberedAt header past → Worlds header outside past
    → Made header outside past → Entries header outside past → Sustained header outside e past → Fits header past → (o p : ℕ)
    → (backing_of header o (e ∷ past)).backed ≡ true → p < object_pages header o (e ∷ past)
    → (backing_of header o (e ∷ past)).shift + p < object_pages header (backing_of header o (e ∷ past)).under (e ∷ past)
under_next header outside (event.RegionMade region object pages) past n w m entries c fits o p backed inside =
    old_page (backing_of header o past).under object.0 pages _ _ (λ e. omega (arith, e, m.under o backed, c.1))
    (fits.under o p backed (subst (λ (k : ℕ). p < k) (if_no o object.0 pages (object_pages header o past) (λ e. omega (arith, e, m.backed o backed, c.1)))
    inside))
under_next header outside (event.Delayed region source offset pages copy) past n w m entries c fits o p backed inside =
    under_delayed header outside region source offset pages copy past c n w m fits o p backed inside
under_next header outside (event.Shadowed region new old) past n w m entries c fits o p backed inside =
    under_shadowed header outside region new old past c.next
    (let row = found header outside c.task c.address past entries c.waits.at in omega (arith, row.is.made, c.region_is)) m fits o p backed inside
under_next header outside (event.Merged upper lower) past n w m entries c fits o p backed inside =
    under_merged header upper lower past c.pair.backed c.pair.under fits o p backed inside
under_next header outside e past n w m entries c fits o p backed inside = fits.under o p backed inside

declared_next : (header : Header) (outside : Outside) (e : Event) (past : List Event) → NumberedAt header past → Sustained header outside e past
    → Fits header past → (o : ℕ) → o < named header → object_pages header o (e ∷ past) ≡ declared_pages header o
declared_next header outside (event.RegionMade region object pages) past n c fits o below =
    if_no o object.0 pages (object_pages header o past) (λ e. omega (arith, e, below, c.1, n.later_objects)) ∙ fits.declared o below
declared_next header outside (event.Delayed region source offset pages copy) past n c fits o below =
    if_no o copy.0 (object_pages header source.0 past) (object_pages header o past) (λ e. omega (arith, e, below, c.new, n.later_objects))
    ∙ fits.declared o below
declared_next header outside (event.Shadowed region new old) past n c fits o below =
    if_no o new.0 (region_of header region.0 past).pages (object_pages header o past) (λ e. omega (arith, e, below, c.next, n.later_objects))
    ∙ fits.declared o below
declared_next header outside e past n c fits o below = fits.declared o below

pub fits_next : (header : Header) (outside : Outside) (e : Event) (past : List Event) → NumberedAt header past → Worlds header outside past
    → Entries header outside past → Sustained header outside e past → Fits header past → Fits header (e ∷ past)
fits_next header outside e past n w entries c fits =
    let m : Made header outside past = made_of header outside past w in
    record {
      tops = tops_next header outside e past n m entries c fits;
      under = under_next header outside e past n w m entries c fits;
      declared = declared_next header outside e past n c fits;
    }
