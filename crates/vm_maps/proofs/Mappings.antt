-- What addresses are mapped to when entries are cut at the ends of a range.
use Rattle.std.proofs.Common.{ℕ, zero, suc, ◌≡◌, ◌+◌, ◌-◌, ◌*◌, ◌/◌, ◌%◌, ◌<◌, ◌≤◌, ◌^◌, true, false, List, [], ◌∷◌, ◌++◌, Option, Some, None, refl, sym, ◌∙◌}
use Rattle.std.proofs.Common.{ap, ⊎_elim, arith}
use Rattle.std.proofs.Math.Nat.{add-mul-div_right, div-zero, zero-mod}
use Rattle.std.proofs.lemmas.Bool.{cases_lt}
use Rattle.std.proofs.lemmas.Bool.Decides.{nat_tests}
use Rattle.std.specs.List.{flat_map}
use Rattle.std.specs.Option.{option_map}
use Rattle.std.specs.Prelude.{nat_le, nat_lt, max, min, unwrap_or, if◌then◌else◌, ◌&&◌}
use Rattle.vm_base.specs.Entries.{AllWholePages, AreEntries, InOrder, entered, meets_range, Mapping, cut, is_range, is_within, mapping, mapping_at, page_at}
use Rattle.vm_base.specs.Entries.{rewritten}
use Rattle.vm_base.specs.declared.entry.Entry.{Entry}
use Rattle.vm_maps.specs.Maps.{ChangesOnly, Mapped, Remaps, mapping_in, rows_in}
use Rattle.vm_maps.specs.Rows.{becomes, becomes_by, changed_by}
use Rattle.vm_maps.specs.declared.change.MapChange.{MapChange}
use Rattle.vm_maps.specs.declared.change.MapKind.{MapKind}
use Rattle.vm_maps.specs.declared.change.MapKind.TheVariants as kind
use Rattle.vm_maps.proofs.Entering.{clear}
use Rattle.vm_maps.proofs.Found.{none_at}
use Rattle.vm_maps.proofs.Multiples.{pages_of, whole_add, whole_sub}
use Rattle.vm_maps.proofs.Order.{ends_rise}
use Rattle.vm_maps.proofs.Range.{range_is}

abbrev either : Option Mapping → Option Mapping → Option Mapping
either None other = other
either (Some one) other = Some one

maps_append : (size at : ℕ) (rows more : List Entry) → mapping_at size at (rows ++ more) ≡ either (mapping_at size at rows) (mapping_at size at more)
maps_append size at [] more = refl
maps_append size at (row ∷ rows) more = let rest = maps_append size at rows more in grind (arith, nat_tests, rest)

-- pages behind whole pages are counted apart
pub pages_apart : (size whole more : ℕ) → whole % size ≡ 0 → (whole + more) / size ≡ whole / size + more / size
pages_apart zero whole more multiple = rw (div-zero (whole + more), div-zero whole, div-zero more) (omega arith)
pages_apart (suc size) whole more multiple =
    let pages = pages_of (suc size) whole multiple in
    let sum : whole + more ≡ more + whole / suc size * suc size = omega arith in
    let split : (more + whole / suc size * suc size) / suc size ≡ more / suc size + whole / suc size = add-mul-div_right more (whole / suc size)
    (omega arith) in
    ap (λ z. z / suc size) sum ∙ (split ∙ omega arith)

-- a part of an entry has the pages that the entry has there
same_page : (size at start : ℕ) (row part : Entry) → row.address ≤ start → start ≤ at → (start - row.address) % size ≡ 0 → part.address ≡ start
    → part.offset ≡ row.offset + (start - row.address) / size → page_at size at part ≡ page_at size at row
same_page size at start row part low within multiple address offset =
    let apart = pages_apart size (start - row.address) (at - start) multiple in
    let whole : start - row.address + (at - start) ≡ at - row.address = omega arith in
    let pages : (at - row.address) / size ≡ (start - row.address) / size + (at - start) / size = sym (ap (λ z. z / size) whole) ∙ apart in
    let here : (at - part.address) / size ≡ (at - start) / size = ap (λ z. (at - z) / size) address in
    omega (arith, pages, offset, here)

abbrev one : ℕ → ℕ → Entry → Option Mapping
one size at row = mapping_at size at (row ∷ [])

whole_start : (size from : ℕ) (row : Entry) → row.address % size ≡ 0 → from % size ≡ 0 → (max from row.address - row.address) % size ≡ 0
whole_start size from row whole multiple =
    ⊎_elim
    (λ less. let e : max from row.address - row.address ≡ row.address - row.address = omega arith in rw e
    (whole_sub size row.address row.address (omega arith) whole whole))
    (λ le. let e : max from row.address - row.address ≡ from - row.address = omega arith in rw e (whole_sub size from row.address le multiple whole))
    (cases_lt from row.address)

-- an entry maps an address as another that has its page there
same_mapping : (size at : ℕ) (row part : Entry) → part.region ≡ row.region → part.prot ≡ row.prot → part.inherit ≡ row.inherit
    → page_at size at part ≡ page_at size at row → mapping size at part ≡ mapping size at row
same_mapping size at row part region prot inherit page = cc

one_in : (size at : ℕ) (row : Entry) → row.address ≤ at → at < row.address + row.bytes → one size at row ≡ Some (mapping size at row)
one_in size at row low high = grind (arith, nat_tests)

one_out : (size at : ℕ) (row : Entry) → (row.address ≤ at → row.address + row.bytes ≤ at) → one size at row ≡ None
one_out size at row out = grind (arith, nat_tests)

maps_cut : (size from to at : ℕ) (row : Entry) → row.address % size ≡ 0 → from % size ≡ 0
    → mapping_at size at (cut size from to row) ≡ (if nat_le from at && nat_lt at to then one size at row else None)
maps_cut size from to at row whole multiple =
    let start = max from row.address in
    let end = min to (row.address + row.bytes) in
    let part : Entry = record row { address = start; bytes = end - start; offset = row.offset + (start - row.address) / size } in
    let none : end ≤ start → mapping_at size at (cut size from to row) ≡ (if nat_le from at && nat_lt at to then one size at row else None)
    = λ ge. grind (arith, nat_tests) in
    let some : start < end → mapping_at size at (cut size from to row) ≡ one size at part
    = λ less. grind (arith, nat_tests) in
    let inside : start < end → start ≤ at → at < end → one size at part ≡ (if nat_le from at && nat_lt at to then one size at row else None)
    = λ less low high.
    let page = same_page size at start row part (omega arith) low (whole_start size from row whole multiple) refl refl in
    let same = same_mapping size at row part refl refl refl page in
    let test : (nat_le from at && nat_lt at to) ≡ true = grind (arith, nat_tests) in
    rw test (one_in size at part low (omega arith) ∙ (ap (λ z. Some z) same ∙ sym (one_in size at row (omega arith) (omega arith)))) in
    let outside : start < end → (start ≤ at → end ≤ at) → one size at part ≡ (if nat_le from at && nat_lt at to then one size at row else None)
    = λ less out. one_out size at part (λ low. omega (arith, out low)) ∙ grind (arith, nat_tests, out) in
    ⊎_elim
    (λ less. some less ∙ ⊎_elim
    (λ before. outside less (λ low. absurd (omega arith)))
    (λ low. ⊎_elim (λ high. inside less low high) (λ behind. outside less (λ _. behind)) (cases_lt at end))
    (cases_lt at start))
    none
    (cases_lt start end)

maps_becomes : (kind : MapKind) (change : MapChange) (size at : ℕ) (rows : List Entry)
    → mapping_at size at (flat_map (becomes_by kind change) rows) ≡ changed_by kind change (mapping_at size at rows)
maps_becomes kind.Enter change size at [] = refl
maps_becomes kind.Remove change size at [] = refl
maps_becomes kind.Protect change size at [] = refl
maps_becomes kind.Inherit change size at [] = refl
maps_becomes kind.Enter change size at (row ∷ rows) = let rest = maps_becomes kind.Enter change size at rows in grind (arith, nat_tests, rest)
maps_becomes kind.Remove change size at (row ∷ rows) = maps_becomes kind.Remove change size at rows
maps_becomes kind.Protect change size at (row ∷ rows) = let rest = maps_becomes kind.Protect change size at rows in grind (arith, nat_tests, rest)
maps_becomes kind.Inherit change size at (row ∷ rows) = let rest = maps_becomes kind.Inherit change size at rows in grind (arith, nat_tests, rest)

changed_none : (kind : MapKind) (change : MapChange) → changed_by kind change None ≡ None
changed_none kind.Enter change = refl
changed_none kind.Remove change = refl
changed_none kind.Protect change = refl
changed_none kind.Inherit change = refl

abbrev remapped : MapChange → ℕ → ℕ → ℕ → Option Mapping → Option Mapping
remapped change start bytes at old = if is_within start bytes at then changed_by change.kind change old else old

either_none : (one : Option Mapping) → either one None ≡ one
either_none None = refl
either_none (Some one) = refl

-- the parts of one entry, and behind them those of the others
abbrev parts_map : MapChange → ℕ → ℕ → ℕ → ℕ → Option Mapping → Option Mapping → Option Mapping
parts_map change start bytes at top here rest =
    either (if nat_le 0 at && nat_lt at start then here else None)
    (either (changed_by change.kind change (if nat_le start at && nat_lt at (start + bytes) then here else None))
    (either (if nat_le (start + bytes) at && nat_lt at top then here else None) rest))

parts_none : (change : MapChange) (start bytes at top : ℕ) (rest : Option Mapping) → parts_map change start bytes at top None rest ≡ rest
parts_none change start bytes at top rest = let none = changed_none change.kind change in grind (arith, nat_tests, none)

parts_some : (change : MapChange) (start bytes at top : ℕ) (here : Mapping) → at < top
    → parts_map change start bytes at top (Some here) None ≡ remapped change start bytes at (Some here)
parts_some change start bytes at top here low =
    let none = changed_none change.kind change in
    let drop_none = either_none (changed_by change.kind change (Some here)) in
    grind (arith, nat_tests, none, drop_none)

either_four : (a b c d first second third fourth : Option Mapping) → a ≡ first → b ≡ second → c ≡ third → d ≡ fourth
    → either a (either b (either c d)) ≡ either first (either second (either third fourth))
either_four a b c d first second third fourth p q r s = cc

-- an address in an entry is in no later one
later_none : (size at from to : ℕ) (rows : List Entry) → InOrder from to rows → at < from → mapping_at size at rows ≡ None
later_none size at from to rows order less = ap (option_map (mapping size at)) (none_at at from to rows order less)

pub maps_rewritten : (change : MapChange) (size start bytes at from to : ℕ) (rows : List Entry) → start % size ≡ 0 → bytes % size ≡ 0 → to ≤ 2 ^ 32
    → InOrder from to rows → AllWholePages size rows
    → mapping_at size at (rewritten (becomes change) size start bytes rows) ≡ remapped change start bytes at (mapping_at size at rows)
maps_rewritten change size start bytes at from to [] first last top order whole = let none = changed_none change.kind change in grind (arith, nat_tests, none)
maps_rewritten change size start bytes at from to (row ∷ rows) first last top order whole =
    let high : row.address + row.bytes ≤ 2 ^ 32 = omega (arith, ends_rise (row.address + row.bytes) to rows order.1.1) in
    let end : (start + bytes) % size ≡ 0 = whole_add size start bytes first ∙ last in
    let more = rewritten (becomes change) size start bytes rows in
    let front = cut size 0 start row in
    let middle = flat_map (becomes change) (cut size start (start + bytes) row) in
    let behind = cut size (start + bytes) (2 ^ 32) row in
    let rest = maps_rewritten change size start bytes at (row.address + row.bytes) to rows first last top order.1.1 whole.1 in
    let one_front = maps_cut size 0 start at row whole.0.address (zero-mod size) in
    let one_middle = maps_becomes change.kind change size at (cut size start (start + bytes) row)
    ∙ ap (changed_by change.kind change) (maps_cut size start (start + bytes) at row whole.0.address first) in
    let one_behind = maps_cut size (start + bytes) (2 ^ 32) at row whole.0.address end in
    let after = remapped change start bytes at (mapping_at size at rows) in
    let all : mapping_at size at (rewritten (becomes change) size start bytes (row ∷ rows)) ≡ parts_map change start bytes at (2 ^ 32) (one size at row) after
    = maps_append size at front (middle ++ (behind ++ more))
    ∙ (ap (either (mapping_at size at front)) (maps_append size at middle (behind ++ more)
    ∙ ap (either (mapping_at size at middle)) (maps_append size at behind more))
    ∙ either_four _ _ _ _ _ _ _ _ one_front one_middle one_behind rest) in
    let inside : row.address ≤ at → at < row.address + row.bytes
    → mapping_at size at (rewritten (becomes change) size start bytes (row ∷ rows)) ≡ remapped change start bytes at (mapping_at size at (row ∷ rows))
    = λ low less.
    let here = one_in size at row low less in
    let none = later_none size at (row.address + row.bytes) to rows order.1.1 less in
    let gone : after ≡ None = let changed = changed_none change.kind change in grind (arith, nat_tests, none, changed) in
    let found : mapping_at size at (row ∷ rows) ≡ Some (mapping size at row) = grind (arith, nat_tests) in
    all ∙ rw (here, gone, found) (parts_some change start bytes at (2 ^ 32) (mapping size at row) (omega arith)) in
    let outside : (row.address ≤ at → row.address + row.bytes ≤ at)
    → mapping_at size at (rewritten (becomes change) size start bytes (row ∷ rows)) ≡ remapped change start bytes at (mapping_at size at (row ∷ rows))
    = λ out.
    let here = one_out size at row out in
    let found : mapping_at size at (row ∷ rows) ≡ mapping_at size at rows = grind (arith, nat_tests, out) in
    all ∙ rw (here, found) (parts_none change start bytes at (2 ^ 32) after) in
    ⊎_elim
    (λ before. outside (λ low. absurd (omega arith)))
    (λ low. ⊎_elim (λ less. inside low less) (λ past. outside (λ _. past)) (cases_lt at (row.address + row.bytes)))
    (cases_lt at row.address)

pub maps_entered : (size at : ℕ) (new : Entry) (rows : List Entry) → meets_range new.address new.bytes rows ≡ false
    → mapping_at size at (entered new rows) ≡ (if is_within new.address new.bytes at then Some (mapping size at new) else mapping_at size at rows)
maps_entered size at new [] free = grind (arith, nat_tests)
maps_entered size at new (row ∷ rows) free =
    let apart = clear new row rows free in
    let later = maps_entered size at new rows apart.rest in
    let not_both : row.address ≤ at → at < row.address + row.bytes → new.address ≤ at → new.address + new.bytes ≤ at
    = λ low high start. let far = apart.behind (omega arith) in omega arith in
    ⊎_elim
    (λ (less : new.address < row.address). let yes : nat_lt new.address row.address ≡ true = grind (arith, nat_tests) in rw yes (grind (arith, nat_tests)))
    (λ (le : row.address ≤ new.address). let no : nat_lt new.address row.address ≡ false = grind (arith, nat_tests) in rw no
    (grind (arith, nat_tests, later, not_both)))
    (cases_lt new.address row.address)

-- what the entries that a task has after a change map an address to
seen_after : (old new : Mapped) (task at : ℕ) (rows : List Entry) → ChangesOnly old new task (Some rows) → mapping_in task at new ≡ mapping_at old.size at rows
seen_after old new task at rows changes =
    ap (λ z. mapping_at z at (rows_in task new)) changes.size ∙ ap (λ z. mapping_at old.size at (unwrap_or z [])) changes.changed

pub rewritten_map : (old new : Mapped) (task : ℕ) (change : MapChange) → is_range old.size change.address change.bytes ≡ true
    → AreEntries old.size (rows_in task old)
    → ChangesOnly old new task (Some (rewritten (becomes change) old.size change.address change.bytes (rows_in task old)))
    → Remaps (λ at. changed_by change.kind change) old new task change
rewritten_map old new task change test are changes at =
    let range = range_is old.size change.address change.bytes test in
    seen_after old new task at (rewritten (becomes change) old.size change.address change.bytes (rows_in task old)) changes
    ∙ maps_rewritten change old.size change.address change.bytes at 0 (2 ^ 32) (rows_in task old) range.start range.whole (omega arith) are.in_order are.whole

pub entered_map : (old new : Mapped) (task : ℕ) (change : MapChange) (row : Entry) → row.address ≡ change.address → row.bytes ≡ change.bytes
    → meets_range change.address change.bytes (rows_in task old) ≡ false
    → ChangesOnly old new task (Some (entered row (rows_in task old)))
    → Remaps (λ at before. Some (mapping old.size at row)) old new task change
entered_map old new task change row address bytes free changes at =
    rw (← address, ← bytes) (seen_after old new task at (entered row (rows_in task old)) changes
    ∙ maps_entered old.size at row (rows_in task old) (rw (address, bytes) free))
