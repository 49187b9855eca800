-- Where each event has its cause, an entry has pages of its region, a region pages of its top object, and an object pages of the one below.
use Rattle.std.proofs.Common.{ℕ, ◌≡◌, ◌≢◌, ◌+◌, ◌-◌, ◌/◌, ◌%◌, ◌<◌, ◌≤◌, List, [], ◌∷◌, Bool, true, false, Option, Some, None, refl, sym, ap, subst, ◌∙◌, arith}
use Rattle.std.proofs.Common.{if◌then◌else◌}
use Rattle.std.proofs.lemmas.Bool.Decides.{nat_tests}
use Rattle.std.specs.Prelude.{◌==◌}
use Rattle.vm_base.specs.declared.entry.Entry.{Entry}
use Rattle.vm_base.specs.declared.ids.ObjectId.{ObjectId}
use Rattle.vm_base.specs.declared.ids.RegionId.{RegionId}
use Rattle.vm_base.specs.Entries.{entered, page_at, rewritten}
use Rattle.vm_model.specs.declared.event.Event.{Event}
use Rattle.vm_model.specs.declared.event.Event.TheVariants as event
use Rattle.vm_model.specs.declared.script.Header.{Header}
use Rattle.vm_model.specs.Moments.{EachEvent}
use Rattle.vm_model.specs.Named.{named}
use Rattle.vm_model.specs.Regions.{backing_of, is_newest, newest_copy, next_object, next_region, object_pages, region_of}
use Rattle.vm_model.specs.Rows.{AllRows, FoundRow, HoldsOfParts, Inside, found_row, inside_part, page_below, rows_entered, rows_map, rows_rewritten}
use Rattle.vm_model.specs.Tasks.{entries_of}
use Rattle.vm_legal.proofs.Files.{file_named}
use Rattle.vm_legal.specs.Accesses.{At, Comes}
use Rattle.vm_legal.specs.Licences as L
use Rattle.vm_legal.specs.Licences.{HasCause}
use Rattle.vm_legal.specs.Outside.{Outside}
use Rattle.vm_legal.specs.Walks.{sight}
use Rattle.vm_flat.proofs.Fits.{Fits, fits_start, walk_inside}
use Rattle.vm_flat.proofs.Numbers.{NumberedAt}
use Rattle.vm_flat.proofs.Regions.{if_no, if_yes}
use Rattle.vm_shared.proofs.Numbering.{Numbering, at_made, numbering}

-- numbers

apart : (a b : ℕ) → (a == b) ≡ false → a ≢ b
apart a b isnt = grind (arith, nat_tests)

same_number : (a b : ℕ) → (a == b) ≡ true → a ≡ b
same_number a b is = grind (arith, nat_tests)

-- Entries.

-- an entry is on a region that was made, and on pages that this has
abbrev pub IsOnPages : ℕ → (ℕ → ℕ) → ℕ → Entry → Type 0
IsOnPages size pages next row = (row.region.0 < next) × Inside size (pages row.region.0) row

abbrev pub OnPages : Header → List Event → Type 0
OnPages header past =
    (task : ℕ) → AllRows (IsOnPages header.size (λ r. (region_of header r past).pages) (next_region header past)) (entries_of header.size task past)

-- and so are its parts
on_parts : (size : ℕ) (pages : ℕ → ℕ) (next : ℕ) → HoldsOfParts size (IsOnPages size pages next)
on_parts size pages next row start end is low less high = (is.0, inside_part size (pages row.region.0) row start end is.1 low less high)

on_none_if : (b : Bool) (P : Entry → Type 0) (rows : List Entry) → AllRows P rows → AllRows P (if b then [] else rows)
on_none_if true P rows all = tt
on_none_if false P rows all = all

on_entered_if : (b : Bool) (P : Entry → Type 0) (new : Entry) (rows : List Entry) → P new → AllRows P rows
    → AllRows P (if b then entered new rows else rows)
on_entered_if true P new rows is all = rows_entered P new rows is all
on_entered_if false P new rows is all = all

on_rewritten_if : (b : Bool) (size : ℕ) (pages : ℕ → ℕ) (next : ℕ) (becomes : Entry → List Entry) (address bytes : ℕ) (rows : List Entry)
    → ((row : Entry) → IsOnPages size pages next row → AllRows (IsOnPages size pages next) (becomes row)) → AllRows (IsOnPages size pages next) rows
    → AllRows (IsOnPages size pages next) (if b then rewritten becomes size address bytes rows else rows)
on_rewritten_if true size pages next becomes address bytes rows each all =
    rows_rewritten size (IsOnPages size pages next) becomes (on_parts size pages next) each address bytes rows all
on_rewritten_if false size pages next becomes address bytes rows each all = all

-- a new region leaves the entries on the others
on_more : (size : ℕ) (pages : ℕ → ℕ) (next new count : ℕ) (rows : List Entry) → new ≡ next → AllRows (IsOnPages size pages next) rows
    → AllRows (IsOnPages size (λ r. if r == new then count else pages r) (next + 1)) rows
on_more size pages next new count rows is all =
    rows_map (IsOnPages size pages next) (IsOnPages size (λ r. if r == new then count else pages r) (next + 1))
    (λ row on. (
      omega (arith, on.0),
      subst (λ (n : ℕ). Inside size n row) (sym (if_no row.region.0 new count (pages row.region.0) (λ e. omega (arith, e, on.0, is)))) on.1,
    ))
    rows all

-- an entry of whole pages that its region has
entered_inside : (size pages : ℕ) (row : Entry) → row.bytes % size ≡ 0 → row.offset + row.bytes / size ≤ pages → Inside size pages row
entered_inside size pages row whole within =
    record {
      whole = within;
      each = λ a low high. let under = page_below size (a - row.address) row.bytes (omega (arith, low, high)) whole in omega (arith, under, within);
    }

-- each event leaves them so
rows_next : (header : Header) (outside : Outside) (e : Event) (past : List Event) → HasCause header outside e past → OnPages header past
    → OnPages header (e ∷ past)
rows_next header outside (event.TaskMade made host) past c all task = on_none_if (made.0 == task) _ (entries_of header.size task past) (all task)
rows_next header outside (event.TaskEnded gone) past c all task = on_none_if (gone.0 == task) _ (entries_of header.size task past) (all task)
rows_next header outside (event.RegionMade region object pages) past c all task =
    on_more header.size (λ r. (region_of header r past).pages) (next_region header past) region.0 pages (entries_of header.size task past) c.1.0 (all task)
rows_next header outside (event.RegionCopied region source offset pages) past c all task =
    on_more header.size (λ r. (region_of header r past).pages) (next_region header past) region.0 pages (entries_of header.size task past) c.1.next (all task)
rows_next header outside (event.Delayed region source offset pages copy) past c all task =
    on_more header.size (λ r. (region_of header r past).pages) (next_region header past) region.0 pages (entries_of header.size task past) c.1.next (all task)
rows_next header outside (event.Entered owner address bytes region offset prot inherit) past c all task =
    on_entered_if (owner.0 == task) _
    (record { address = address; bytes = bytes; region = region; offset = offset; prot = prot; inherit = inherit }) (entries_of header.size task past) (
      c.1.made,
      entered_inside header.size (region_of header region.0 past).pages
          (record { address = address; bytes = bytes; region = region; offset = offset; prot = prot; inherit = inherit }) c.1.whole c.1.inside,
    ) (all task)
rows_next header outside (event.Removed owner address bytes) past c all task =
    on_rewritten_if (owner.0 == task) header.size (λ r. (region_of header r past).pages) (next_region header past) (λ row. []) address bytes
    (entries_of header.size task past) (λ row is. tt) (all task)
rows_next header outside (event.Protected owner address bytes prot) past c all task =
    on_rewritten_if (owner.0 == task) header.size (λ r. (region_of header r past).pages) (next_region header past) (λ row. record row { prot = prot } ∷ [])
    address bytes (entries_of header.size task past)
    (λ row is. ((is.0, record { whole = is.1.whole; each = is.1.each }), tt)) (all task)
rows_next header outside (event.Inherited owner address bytes inherit) past c all task =
    on_rewritten_if (owner.0 == task) header.size (λ r. (region_of header r past).pages) (next_region header past)
    (λ row. record row { inherit = inherit } ∷ []) address bytes (entries_of header.size task past)
    (λ row is. ((is.0, record { whole = is.1.whole; each = is.1.each }), tt)) (all task)
rows_next header outside e past c all task = all task

-- the entry that an address leads to
entry_found : (header : Header) (task address : ℕ) (past : List Event) → OnPages header past → (at : At header task address past)
    → FoundRow (IsOnPages header.size (λ r. (region_of header r past).pages) (next_region header past)) address at.entry
entry_found header task address past rows at = found_row _ address (entries_of header.size task past) at.entry (rows task) at.found

-- Numbers.

-- what regions and objects stand on was made
pub record Standing (header : Header) (past : List Event) : Type 0 where
  pub tops : (r : ℕ) → r < next_region header past → (region_of header r past).top < next_object header past
  pub backed : (o : ℕ) → (backing_of header o past).backed ≡ true → o < next_object header past
  pub under : (o : ℕ) → (backing_of header o past).backed ≡ true → (backing_of header o past).under < next_object header past
  pub newest : (f v : ℕ) → newest_copy f past ≡ Some v → v < next_object header past
  pub copied : (f v : ℕ) → newest_copy f past ≡ Some v → f < named header

standing_start : (header : Header) → Standing header []
standing_start header =
    record {
      tops = λ r made. made;
      backed = λ o backed. absurd (cc);
      under = λ o backed. absurd (cc);
      newest = λ f v is. absurd (cc);
      copied = λ f v is. absurd (cc);
    }

-- one more object, and all that was there before
standing_region_made : (header : Header) (region : RegionId) (object : ObjectId) (pages : ℕ) (past : List Event) → region.0 ≡ next_region header past
    → object.0 ≡ next_object header past → Standing header past → Standing header (event.RegionMade region object pages ∷ past)
standing_region_made header region object pages past is new was =
    record {
      tops = λ r made. by (r == region.0) r refl made;
      backed = λ o on. omega (arith, was.backed o on);
      under = λ o on. omega (arith, was.under o on);
      newest = λ f v copy. omega (arith, was.newest f v copy);
      copied = was.copied;
    }
  where
    by : (b : Bool) → (r : ℕ) → (r == region.0) ≡ b → r < next_region header past + 1 → (if b then object.0 else (region_of header r past).top)
        < next_object header past + 1
    by true r same made = omega (arith, new)
    by false r other made = let old = was.tops r (omega (arith, made, is, apart r region.0 other)) in omega (arith, old)

standing_region_copied : (header : Header) (region source : RegionId) (offset pages : ℕ) (past : List Event) → region.0 ≡ next_region header past
    → source.0 < next_region header past → Standing header past → Standing header (event.RegionCopied region source offset pages ∷ past)
standing_region_copied header region source offset pages past is there was =
    record {
      tops = λ r made. by (r == region.0) r refl made;
      backed = was.backed;
      under = was.under;
      newest = was.newest;
      copied = was.copied;
    }
  where
    by : (b : Bool) → (r : ℕ) → (r == region.0) ≡ b → r < next_region header past + 1
        → (if b then (region_of header source.0 past).top else (region_of header r past).top) < next_object header past
    by true r same made = was.tops source.0 there
    by false r other made = was.tops r (omega (arith, made, is, apart r region.0 other))

-- a copy that is the newest

newest_at : (o : ℕ) (x : Option ℕ) → is_newest o x ≡ true → x ≡ Some o
newest_at o None is = absurd (let bad : false ≡ true = is in cc)
newest_at o (Some v) is = ap (λ (z : ℕ). Some z) (sym (same_number o v is))

same_some : (a b : ℕ) → ◌≡◌ {A = Option ℕ} (Some a) (Some b) → a ≡ b
same_some a b e = cc

standing_delayed : (header : Header) (region source : RegionId) (offset pages : ℕ) (copy : ObjectId) (past : List Event)
    → L.CopiesFile header region.0 source.0 offset pages copy.0 past → named header ≤ next_object header past → Standing header past
    → Standing header (event.Delayed region source offset pages copy ∷ past)
standing_delayed header region source offset pages copy past c first was =
    record {
      tops = λ r made. by_region (r == region.0) r refl made;
      backed = λ o on. by_backed (o == copy.0) (is_newest o (newest_copy source.0 past)) o refl refl on;
      under = λ o on. by_under (o == copy.0) (is_newest o (newest_copy source.0 past)) o refl refl on;
      newest = λ f v copy_is. by_newest (f == source.0) f v copy_is;
      copied = λ f v copy_is. by_copied (f == source.0) f v refl copy_is;
    }
  where
    by_region : (b : Bool) → (r : ℕ) → (r == region.0) ≡ b → r < next_region header past + 1
        → (if b then copy.0 else (region_of header r past).top) < next_object header past + 1
    by_region true r same made = omega (arith, c.new)
    by_region false r other made = let old = was.tops r (omega (arith, made, c.next, apart r region.0 other)) in omega (arith, old)

    by_backed : (b n : Bool) → (o : ℕ) → (o == copy.0) ≡ b → is_newest o (newest_copy source.0 past) ≡ n
        → (if b then true else (if n then true else (backing_of header o past).backed)) ≡ true → o < next_object header past + 1
    by_backed true n o same is on = omega (arith, same_number o copy.0 same, c.new)
    by_backed false true o other is on = omega (arith, was.newest source.0 o (newest_at o (newest_copy source.0 past) is))
    by_backed false false o other isnt on = omega (arith, was.backed o on)

    by_under : (b n : Bool) → (o : ℕ) → (o == copy.0) ≡ b → is_newest o (newest_copy source.0 past) ≡ n
        → (if b then true else (if n then true else (backing_of header o past).backed)) ≡ true
        → (if b then source.0 else (if n then copy.0 else (backing_of header o past).under)) < next_object header past + 1
    by_under true n o same is on = omega (arith, file_named header source.0 c.file, first)
    by_under false true o other is on = omega (arith, c.new)
    by_under false false o other isnt on = omega (arith, was.under o on)

    by_newest : (b : Bool) → (f v : ℕ) → (if b then Some copy.0 else newest_copy f past) ≡ Some v → v < next_object header past + 1
    by_newest true f v is = omega (arith, same_some copy.0 v is, c.new)
    by_newest false f v is = omega (arith, was.newest f v is)

    by_copied : (b : Bool) → (f v : ℕ) → (f == source.0) ≡ b → (if b then Some copy.0 else newest_copy f past) ≡ Some v → f < named header
    by_copied true f v same is = omega (arith, same_number f source.0 same, file_named header source.0 c.file)
    by_copied false f v other is = was.copied f v is

standing_shadowed : (header : Header) (region : RegionId) (new old : ObjectId) (past : List Event) → new.0 ≡ next_object header past
    → region.0 < next_region header past → Standing header past → Standing header (event.Shadowed region new old ∷ past)
standing_shadowed header region new old past is there was =
    record {
      tops = λ r made. by_region (r == region.0) r made;
      backed = λ o on. by_backed (o == new.0) o refl on;
      under = λ o on. by_under (o == new.0) o on;
      newest = λ f v copy. omega (arith, was.newest f v copy);
      copied = was.copied;
    }
  where
    by_region : (b : Bool) → (r : ℕ) → r < next_region header past → (if b then new.0 else (region_of header r past).top) < next_object header past + 1
    by_region true r made = omega (arith, is)
    by_region false r made = omega (arith, was.tops r made)

    by_backed : (b : Bool) → (o : ℕ) → (o == new.0) ≡ b → (if b then true else (backing_of header o past).backed) ≡ true → o < next_object header past + 1
    by_backed true o same on = omega (arith, same_number o new.0 same, is)
    by_backed false o other on = omega (arith, was.backed o on)

    by_under : (b : Bool) → (o : ℕ) → (if b then true else (backing_of header o past).backed) ≡ true
        → (if b then (region_of header region.0 past).top else (backing_of header o past).under) < next_object header past + 1
    by_under true o on = omega (arith, was.tops region.0 there)
    by_under false o on = omega (arith, was.under o on)

standing_merged : (header : Header) (upper lower : ObjectId) (past : List Event) → (backing_of header upper.0 past).backed ≡ true → Standing header past
    → Standing header (event.Merged upper lower ∷ past)
standing_merged header upper lower past on was =
    record {
      tops = was.tops;
      backed = λ o is. by_backed (o == upper.0) o refl is;
      under = λ o is. by_under (o == upper.0) o is;
      newest = was.newest;
      copied = was.copied;
    }
  where
    by_backed : (b : Bool) → (o : ℕ) → (o == upper.0) ≡ b → (if b then (backing_of header lower.0 past).backed else (backing_of header o past).backed) ≡ true
        → o < next_object header past
    by_backed true o same is = omega (arith, same_number o upper.0 same, was.backed upper.0 on)
    by_backed false o other is = was.backed o is

    by_under : (b : Bool) → (o : ℕ) → (if b then (backing_of header lower.0 past).backed else (backing_of header o past).backed) ≡ true
        → (if b then (backing_of header lower.0 past).under else (backing_of header o past).under) < next_object header past
    by_under true o is = was.under lower.0 is
    by_under false o is = was.under o is

-- each event leaves them so
standing_next : (header : Header) (outside : Outside) (e : Event) (past : List Event) → Numbering header past → HasCause header outside e past
    → Standing header past → Standing header (e ∷ past)
standing_next header outside (event.RegionMade region object pages) past n c was = standing_region_made header region object pages past c.1.0 c.1.1 was
standing_next header outside (event.RegionCopied region source offset pages) past n c was =
    standing_region_copied header region source offset pages past c.1.next
    (subst (λ k. k < next_region header past) (sym c.1.source_is) (at_made header c.1.task c.1.address past n.made c.1.at)) was
standing_next header outside (event.Delayed region source offset pages copy) past n c was =
    standing_delayed header region source offset pages copy past c.1 n.numbered.later_objects was
standing_next header outside (event.Shadowed region new old) past n c was =
    standing_shadowed header region new old past c.1.next
    (subst (λ k. k < next_region header past) (sym c.1.region_is) (at_made header c.1.task _ past n.made c.1.waits.at)) was
standing_next header outside (event.Merged upper lower) past n c was = standing_merged header upper lower past c.1.pair.backed was
standing_next header outside e past n c was =
    record { tops = was.tops; backed = was.backed; under = was.under; newest = was.newest; copied = was.copied }

-- Pages.

-- an object that was there keeps its pages
pages_stay : (header : Header) (outside : Outside) (e : Event) (past : List Event) → HasCause header outside e past → (o : ℕ) → o < next_object header past
    → object_pages header o (e ∷ past) ≡ object_pages header o past
pages_stay header outside (event.RegionMade region object pages) past c o there =
    if_no o object.0 pages (object_pages header o past) (λ e. omega (arith, e, c.1.1, there))
pages_stay header outside (event.Delayed region source offset pages copy) past c o there =
    if_no o copy.0 (object_pages header source.0 past) (object_pages header o past) (λ e. omega (arith, e, c.1.new, there))
pages_stay header outside (event.Shadowed region new old) past c o there =
    if_no o new.0 (region_of header region.0 past).pages (object_pages header o past) (λ e. omega (arith, e, c.1.next, there))
pages_stay header outside e past c o there = refl

no_shift : (i n : ℕ) → i < n → 0 + i < n
no_shift i n less = omega (arith, less)

-- a page of an object that was there
still_below : (header : Header) (outside : Outside) (e : Event) (past : List Event) → HasCause header outside e past → (o p : ℕ) → o < next_object header past
    → p < object_pages header o past → p < object_pages header o (e ∷ past)
still_below header outside e past c o p there less = subst (λ (n : ℕ). p < n) (sym (pages_stay header outside e past c o there)) less

-- the newest copy of a file has the file's pages
abbrev pub CopiesAlike : Header → List Event → Type 0
CopiesAlike header past = (f v : ℕ) → newest_copy f past ≡ Some v → object_pages header v past ≡ object_pages header f past

alike_stays : (header : Header) (outside : Outside) (e : Event) (past : List Event) → HasCause header outside e past → named header ≤ next_object header past
    → Standing header past → CopiesAlike header past → (f v : ℕ) → newest_copy f past ≡ Some v
    → object_pages header v (e ∷ past) ≡ object_pages header f (e ∷ past)
alike_stays header outside e past c first s was f v is =
    pages_stay header outside e past c v (s.newest f v is) ∙ was f v is
    ∙ sym (pages_stay header outside e past c f (omega (arith, s.copied f v is, first)))

alike_next : (header : Header) (outside : Outside) (e : Event) (past : List Event) → HasCause header outside e past → named header ≤ next_object header past
    → Standing header past → CopiesAlike header past → CopiesAlike header (e ∷ past)
alike_next header outside (event.RegionMade region object pages) past c first s was f v is =
    alike_stays header outside (event.RegionMade region object pages) past c first s was f v is
alike_next header outside (event.Shadowed region new old) past c first s was f v is =
    alike_stays header outside (event.Shadowed region new old) past c first s was f v is
alike_next header outside (event.Delayed region source offset pages copy) past c first s was f v is = by (f == source.0) refl is
  where
    by : (b : Bool) → (f == source.0) ≡ b → (if b then Some copy.0 else newest_copy f past) ≡ Some v
        → object_pages header v (event.Delayed region source offset pages copy ∷ past)
        ≡ object_pages header f (event.Delayed region source offset pages copy ∷ past)
    by true same now =
        if_yes v copy.0 (object_pages header source.0 past) (object_pages header v past) (sym (same_some copy.0 v now))
        ∙ (ap (λ k. object_pages header k past) (sym (same_number f source.0 same))
        ∙ sym (pages_stay header outside (event.Delayed region source offset pages copy) past c f
        (omega (arith, same_number f source.0 same, file_named header source.0 c.1.file, first))))
    by false other now = alike_stays header outside (event.Delayed region source offset pages copy) past c first s was f v now
alike_next header outside e past c first s was f v is = was f v is

-- regions

tops_made : (header : Header) (outside : Outside) (region : RegionId) (object : ObjectId) (pages : ℕ) (past : List Event)
    → HasCause header outside (event.RegionMade region object pages) past → Standing header past → Fits header past → (r i : ℕ)
    → r < next_region header past + 1 → i < (region_of header r (event.RegionMade region object pages ∷ past)).pages
    → (region_of header r (event.RegionMade region object pages ∷ past)).shift + i
    < object_pages header (region_of header r (event.RegionMade region object pages ∷ past)).top (event.RegionMade region object pages ∷ past)
tops_made header outside region object pages past c s fits r i made inside = by (r == region.0) refl inside
  where
    by : (b : Bool) → (r == region.0) ≡ b → i < (if b then pages else (region_of header r past).pages)
        → (if b then 0 else (region_of header r past).shift) + i
        < object_pages header (if b then object.0 else (region_of header r past).top) (event.RegionMade region object pages ∷ past)
    by true same less =
        no_shift i _ (subst (λ (n : ℕ). i < n) (sym (if_yes object.0 object.0 pages (object_pages header object.0 past) refl)) less)
    by false other less =
        let old : r < next_region header past = omega (arith, made, c.1.0, apart r region.0 other) in
        still_below header outside (event.RegionMade region object pages) past c (region_of header r past).top _ (s.tops r old) (fits.tops r i old less)

-- the pages that are copied of an entry are pages of its region's top object
copied_inside : (header : Header) (task address source offset pages i : ℕ) (past : List Event) → OnPages header past → Fits header past
    → (at : At header task address past) → source ≡ at.entry.region.0 → offset + pages ≤ at.entry.offset + at.entry.bytes / header.size → i < pages
    → (region_of header source past).shift + (offset + i) < object_pages header (region_of header source past).top past
copied_inside header task address source offset pages i past rows fits at is within less =
    let row = entry_found header task address past rows at in
    let whole : at.entry.offset + at.entry.bytes / header.size ≤ (region_of header at.entry.region.0 past).pages = row.is.1.whole in
    let same : (region_of header source past).pages ≡ (region_of header at.entry.region.0 past).pages = ap (λ k. (region_of header k past).pages) is in
    fits.tops source (offset + i) (omega (arith, row.is.0, is)) (omega (arith, less, within, whole, same))

tops_copied : (header : Header) (region source : RegionId) (offset pages : ℕ) (past : List Event)
    → L.CopiesRegion header region.0 source.0 offset pages past → OnPages header past → Fits header past → (r i : ℕ)
    → r < next_region header past + 1 → i < (region_of header r (event.RegionCopied region source offset pages ∷ past)).pages
    → (region_of header r (event.RegionCopied region source offset pages ∷ past)).shift + i
    < object_pages header (region_of header r (event.RegionCopied region source offset pages ∷ past)).top past
tops_copied header region source offset pages past c rows fits r i made inside = by (r == region.0) refl inside
  where
    by : (b : Bool) → (r == region.0) ≡ b → i < (if b then pages else (region_of header r past).pages)
        → (if b then (region_of header source.0 past).shift + offset else (region_of header r past).shift) + i
        < object_pages header (if b then (region_of header source.0 past).top else (region_of header r past).top) past
    by true same less =
        let below = copied_inside header c.task c.address source.0 offset pages i past rows fits c.at c.source_is c.inside less in omega (arith, below)
    by false other less = fits.tops r i (omega (arith, made, c.next, apart r region.0 other)) less

tops_delayed : (header : Header) (outside : Outside) (region source : RegionId) (offset pages : ℕ) (copy : ObjectId) (past : List Event)
    → HasCause header outside (event.Delayed region source offset pages copy) past → NumberedAt header past → Standing header past → OnPages header past
    → Fits header past → (r i : ℕ) → r < next_region header past + 1 → i < (region_of header r (event.Delayed region source offset pages copy ∷ past)).pages
    → (region_of header r (event.Delayed region source offset pages copy ∷ past)).shift + i
    < object_pages header (region_of header r (event.Delayed region source offset pages copy ∷ past)).top
    (event.Delayed region source offset pages copy ∷ past)
tops_delayed header outside region source offset pages copy past c n s rows fits r i made inside = by (r == region.0) refl inside
  where
    by : (b : Bool) → (r == region.0) ≡ b → i < (if b then pages else (region_of header r past).pages)
        → (if b then offset else (region_of header r past).shift) + i
        < object_pages header (if b then copy.0 else (region_of header r past).top) (event.Delayed region source offset pages copy ∷ past)
    by true same less =
        let small = file_named header source.0 c.1.file in
        let top : object_pages header (region_of header source.0 past).top past ≡ object_pages header source.0 past = ap (λ k. object_pages header k past)
        (n.declared_top source.0 small) in
        let below = copied_inside header c.1.task c.1.address source.0 offset pages i past rows fits c.1.at c.1.source_is c.1.inside less in
        subst (λ (k : ℕ). offset + i < k) (sym (if_yes copy.0 copy.0 (object_pages header source.0 past) (object_pages header copy.0 past) refl))
        (omega (arith, below, n.declared_shift source.0 small, top))
    by false other less =
        let old : r < next_region header past = omega (arith, made, c.1.next, apart r region.0 other) in
        still_below header outside (event.Delayed region source offset pages copy) past c (region_of header r past).top _ (s.tops r old)
        (fits.tops r i old less)

tops_shadowed : (header : Header) (outside : Outside) (region : RegionId) (new old : ObjectId) (past : List Event)
    → HasCause header outside (event.Shadowed region new old) past → Standing header past → Fits header past → (r i : ℕ) → r < next_region header past
    → i < (region_of header r (event.Shadowed region new old ∷ past)).pages
    → (region_of header r (event.Shadowed region new old ∷ past)).shift + i
    < object_pages header (region_of header r (event.Shadowed region new old ∷ past)).top (event.Shadowed region new old ∷ past)
tops_shadowed header outside region new old past c s fits r i made inside = by (r == region.0) refl
  where
    by : (b : Bool) → (r == region.0) ≡ b → (if b then 0 else (region_of header r past).shift) + i
        < object_pages header (if b then new.0 else (region_of header r past).top) (event.Shadowed region new old ∷ past)
    by true same =
        no_shift i _ (subst (λ (k : ℕ). i < k) (sym (if_yes new.0 new.0 (region_of header region.0 past).pages (object_pages header new.0 past) refl))
        (subst (λ (k : ℕ). i < (region_of header k past).pages) (same_number r region.0 same) inside))
    by false other =
        still_below header outside (event.Shadowed region new old) past c (region_of header r past).top _ (s.tops r made) (fits.tops r i made inside)

tops_next : (header : Header) (outside : Outside) (e : Event) (past : List Event) → NumberedAt header past → Standing header past
    → OnPages header past → HasCause header outside e past → Fits header past → (r i : ℕ) → r < next_region header (e ∷ past)
    → i < (region_of header r (e ∷ past)).pages
    → (region_of header r (e ∷ past)).shift + i < object_pages header (region_of header r (e ∷ past)).top (e ∷ past)
tops_next header outside (event.RegionMade region object pages) past n s rows c fits r i made inside =
    tops_made header outside region object pages past c s fits r i made inside
tops_next header outside (event.RegionCopied region source offset pages) past n s rows c fits r i made inside =
    tops_copied header region source offset pages past c.1 rows fits r i made inside
tops_next header outside (event.Delayed region source offset pages copy) past n s rows c fits r i made inside =
    tops_delayed header outside region source offset pages copy past c n s rows fits r i made inside
tops_next header outside (event.Shadowed region new old) past n s rows c fits r i made inside =
    tops_shadowed header outside region new old past c s fits r i made inside
tops_next header outside e past n s rows c fits r i made inside = fits.tops r i made inside

-- objects

under_delayed : (header : Header) (outside : Outside) (region source : RegionId) (offset pages : ℕ) (copy : ObjectId) (past : List Event)
    → HasCause header outside (event.Delayed region source offset pages copy) past → named header ≤ next_object header past → Standing header past
    → CopiesAlike header past → Fits header past → (o p : ℕ) → (backing_of header o (event.Delayed region source offset pages copy ∷ past)).backed ≡ true
    → p < object_pages header o (event.Delayed region source offset pages copy ∷ past)
    → (backing_of header o (event.Delayed region source offset pages copy ∷ past)).shift + p
    < object_pages header (backing_of header o (event.Delayed region source offset pages copy ∷ past)).under
    (event.Delayed region source offset pages copy ∷ past)
under_delayed header outside region source offset pages copy past c first s alike fits o p backed inside = by_copy (o == copy.0) refl backed inside
  where
    by_newest : (b : Bool) → is_newest o (newest_copy source.0 past) ≡ b → (if b then true else (backing_of header o past).backed) ≡ true
        → p < object_pages header o past
        → (if b then 0 else (backing_of header o past).shift) + p
        < object_pages header (if b then copy.0 else (backing_of header o past).under) (event.Delayed region source offset pages copy ∷ past)
    by_newest true is on less =
        no_shift p _ (subst (λ (k : ℕ). p < k)
        (sym (if_yes copy.0 copy.0 (object_pages header source.0 past) (object_pages header copy.0 past) refl))
        (omega (arith, less, alike source.0 o (newest_at o (newest_copy source.0 past) is))))
    by_newest false is on less =
        still_below header outside (event.Delayed region source offset pages copy) past c (backing_of header o past).under _ (s.under o on)
        (fits.under o p on less)

    by_copy : (b : Bool) → (o == copy.0) ≡ b
        → (if b then true else (if is_newest o (newest_copy source.0 past) then true else (backing_of header o past).backed)) ≡ true
        → p < (if b then object_pages header source.0 past else object_pages header o past)
        → (if b then 0 else (if is_newest o (newest_copy source.0 past) then 0 else (backing_of header o past).shift)) + p
        < object_pages header (if b then source.0 else (if is_newest o (newest_copy source.0 past) then copy.0 else (backing_of header o past).under))
        (event.Delayed region source offset pages copy ∷ past)
    by_copy true same on less =
        no_shift p _ (still_below header outside (event.Delayed region source offset pages copy) past c source.0 p
        (omega (arith, file_named header source.0 c.1.file, first)) less)
    by_copy false other on less = by_newest (is_newest o (newest_copy source.0 past)) refl on less

under_shadowed : (header : Header) (outside : Outside) (region : RegionId) (new old : ObjectId) (past : List Event)
    → HasCause header outside (event.Shadowed region new old) past → region.0 < next_region header past → Standing header past → Fits header past → (o p : ℕ)
    → (backing_of header o (event.Shadowed region new old ∷ past)).backed ≡ true
    → p < object_pages header o (event.Shadowed region new old ∷ past)
    → (backing_of header o (event.Shadowed region new old ∷ past)).shift + p
    < object_pages header (backing_of header o (event.Shadowed region new old ∷ past)).under (event.Shadowed region new old ∷ past)
under_shadowed header outside region new old past c made s fits o p backed inside = by (o == new.0) backed inside
  where
    by : (b : Bool) → (if b then true else (backing_of header o past).backed) ≡ true
        → p < (if b then (region_of header region.0 past).pages else object_pages header o past)
        → (if b then (region_of header region.0 past).shift else (backing_of header o past).shift) + p
        < object_pages header (if b then (region_of header region.0 past).top else (backing_of header o past).under) (event.Shadowed region new old ∷ past)
    by true on less =
        still_below header outside (event.Shadowed region new old) past c (region_of header region.0 past).top _ (s.tops region.0 made)
        (fits.tops region.0 p made less)
    by false on less =
        still_below header outside (event.Shadowed region new old) past c (backing_of header o past).under _ (s.under o on) (fits.under o p on less)

under_merged : (header : Header) (upper lower : ObjectId) (past : List Event) → (backing_of header upper.0 past).backed ≡ true
    → (backing_of header upper.0 past).under ≡ lower.0 → Fits header past → (o p : ℕ)
    → (backing_of header o (event.Merged upper lower ∷ past)).backed ≡ true → p < object_pages header o past
    → (backing_of header o (event.Merged upper lower ∷ past)).shift + p
    < object_pages header (backing_of header o (event.Merged upper lower ∷ past)).under past
under_merged header upper lower past on under fits o p backed inside = by (o == upper.0) refl backed
  where
    by : (b : Bool) → (o == upper.0) ≡ b → (if b then (backing_of header lower.0 past).backed else (backing_of header o past).backed) ≡ true
        → (if b then (backing_of header lower.0 past).shift + (backing_of header o past).shift else (backing_of header o past).shift) + p
        < object_pages header (if b then (backing_of header lower.0 past).under else (backing_of header o past).under) past
    by true same there =
        let e : o ≡ upper.0 = same_number o upper.0 same in
        let first : (backing_of header o past).shift + p < object_pages header lower.0 past = subst (λ (k : ℕ). (backing_of header o past).shift + p <
        object_pages header k past) (ap (λ k. (backing_of header k past).under) e ∙ under)
        (fits.under o p (ap (λ k. (backing_of header k past).backed) e ∙ on) inside) in
        let second = fits.under lower.0 ((backing_of header o past).shift + p) there first in
        omega (arith, second)
    by false other there = fits.under o p there inside

under_next : (header : Header) (outside : Outside) (e : Event) (past : List Event) → Numbering header past → Standing header past → CopiesAlike header past
    → HasCause header outside e past → Fits header past → (o p : ℕ) → (backing_of header o (e ∷ past)).backed ≡ true → p < object_pages header o (e ∷ past)
    → (backing_of header o (e ∷ past)).shift + p < object_pages header (backing_of header o (e ∷ past)).under (e ∷ past)
under_next header outside (event.RegionMade region object pages) past n s alike c fits o p backed inside =
    still_below header outside (event.RegionMade region object pages) past c (backing_of header o past).under _ (s.under o backed)
    (fits.under o p backed (subst (λ (k : ℕ). p < k) (pages_stay header outside (event.RegionMade region object pages) past c o (s.backed o backed)) inside))
under_next header outside (event.Delayed region source offset pages copy) past n s alike c fits o p backed inside =
    under_delayed header outside region source offset pages copy past c n.numbered.later_objects s alike fits o p backed inside
under_next header outside (event.Shadowed region new old) past n s alike c fits o p backed inside =
    under_shadowed header outside region new old past c
    (subst (λ k. k < next_region header past) (sym c.1.region_is) (at_made header c.1.task _ past n.made c.1.waits.at)) s fits o p backed inside
under_next header outside (event.Merged upper lower) past n s alike c fits o p backed inside =
    under_merged header upper lower past c.1.pair.backed c.1.pair.under fits o p backed inside
under_next header outside e past n s alike c fits o p backed inside = fits.under o p backed inside

-- Every moment.

pub record Extents (header : Header) (past : List Event) : Type 0 where
  pub rows : OnPages header past
  pub standing : Standing header past
  pub alike : CopiesAlike header past
  pub fits : Fits header past

pub extents : (header : Header) (outside : Outside) (past : List Event) → EachEvent (HasCause header outside) past → Extents header past
extents header outside [] caused =
    record { rows = λ task. tt; standing = standing_start header; alike = λ f v is. absurd (cc); fits = fits_start header }
extents header outside (e ∷ past) caused =
    let was : Extents header past = extents header outside past caused.1 in
    let n : Numbering header past = numbering header outside past caused.1 in
    let first = n.numbered.later_objects in
    record {
      rows = rows_next header outside e past caused.0 was.rows;
      standing = standing_next header outside e past n caused.0 was.standing;
      alike = alike_next header outside e past caused.0 first was.standing was.alike;
      fits = record {
        tops = tops_next header outside e past n.numbered was.standing was.rows caused.0 was.fits;
        under = under_next header outside e past n was.standing was.alike caused.0 was.fits;
        declared = λ o small. pages_stay header outside e past caused.0 o (omega (arith, small, first)) ∙ was.fits.declared o small;
      };
    }

-- the walk of an access comes to a page of the object where it stops
pub comes_inside : (header : Header) (task address host o p : ℕ) (past : List Event) → Extents header past → (at : At header task address past)
    → Comes header host at.entry.region.0 (page_at header.size address at.entry) o p past → p < object_pages header o past
comes_inside header task address host o p past x at comes =
    let row = entry_found header task address past x.rows at in
    let inside = row.is.1.each address row.from row.below in
    let on = x.fits.tops at.entry.region.0 (page_at header.size address at.entry) row.is.0 inside in
    let top : comes.top_page < object_pages header comes.top past = subst (λ (k : ℕ). comes.top_page < object_pages header k past) comes.is_top.object
    (omega (arith, on, comes.is_top.page)) in
    walk_inside header (λ k q. sight header host k q past) past x.fits comes.steps comes.top comes.top_page o p top comes.walks
