-- What a change of one task's table leaves.
use Rattle.std.proofs.Common.{ℕ, ◌≡◌, ◌+◌, ◌<◌, ◌≤◌, ◌==◌, ◌^◌, true, false, List, ◌++◌, length, take, drop, length-append, Some, None, sym, ◌∙◌, ap, arith}
use Rattle.std.proofs.lemmas.List.{length-drop, length-reverse, length-take-le}
use Rattle.std.proofs.lemmas.Option.{same_Some}
use Rattle.std.specs.Prelude.{IsSomeAnd, if◌then◌else◌}
use Rattle.vm_base.specs.Entries.{by_address, entered, is_range, mapping, meets_range, most_entries, rewritten}
use Rattle.vm_base.specs.Listing.{Listed}
use Rattle.vm_base.specs.declared.entry.Entry.{Entry}
use Rattle.vm_base.specs.declared.ids.TaskId.{TaskId}
use Rattle.vm_maps.specs.Judge.{judged}
use Rattle.vm_maps.specs.Maps.{ChangesOnly, IsNewEntry, Mapped, Remaps, entries_in, rows_in}
use Rattle.vm_maps.specs.Rows.{becomes, changed_by}
use Rattle.vm_maps.specs.Tables.{AreTables, IsTable, table_of}
use Rattle.vm_maps.specs.declared.change.MapChange.{MapChange}
use Rattle.vm_maps.specs.declared.change.MapKind.TheVariants as kind
use Rattle.vm_maps.proofs.Allowed.{IsFree, enter_allowed, new_entry}
use Rattle.vm_maps.proofs.Entering.{length_entered, order_entered, whole_entered}
use Rattle.vm_maps.proofs.Kept.{order_rewritten, whole_rewritten}
use Rattle.vm_maps.proofs.Mappings.{entered_map, rewritten_map}
use Rattle.vm_maps.proofs.Range.{range_is}
use Rattle.vm_maps.proofs.Tasks.{IsTableOf, edited, seen, table_read}

-- the table with a new entry
pub entered_table : (size : ℕ) (change : MapChange) (row : Entry) (old new : Listed Entry) → IsTable size old → IsFree size change (by_address old)
    → IsNewEntry size change row
    → by_address new ≡ entered row (by_address old) → most_entries ≤ length new.items + new.room → IsTable size new
entered_table size change row old new was free one is room =
    let some : 0 < row.bytes = omega (arith, one.bytes, free.range.some) in
    let high : row.address + row.bytes ≤ 2 ^ 32 = omega (arith, one.address, one.bytes, free.range.end) in
    let clear : meets_range row.address row.bytes (by_address old) ≡ false = rw (one.address, one.bytes) free.free in
    let count = length_entered row (by_address old) in
    record {
      entries = rw is record {
        in_order = order_entered 0 (2 ^ 32) row (by_address old) was.entries.in_order (omega arith) high some clear;
        whole =
            whole_entered size row (by_address old) was.entries.whole record {
              address = rw one.address free.range.start;
              bytes = rw one.bytes free.range.whole;
              pages = one.pages;
            };
        few = omega (arith, count, free.few);
      };
      room = room;
    }

-- the table with its entries cut at the ends of a range
pub rewritten_table : (size : ℕ) (change : MapChange) (old new : Listed Entry) → IsTable size old → is_range size change.address change.bytes ≡ true
    → length (rewritten (becomes change) size change.address change.bytes (by_address old)) ≤ most_entries
    → by_address new ≡ rewritten (becomes change) size change.address change.bytes (by_address old) → most_entries ≤ length new.items + new.room
    → IsTable size new
rewritten_table size change old new was test few is room =
    let range = range_is size change.address change.bytes test in
    record {
      entries = rw is record {
        in_order = order_rewritten change size change.address change.bytes 0 (2 ^ 32) (by_address old) range.end (omega arith) was.entries.in_order;
        whole =
            whole_rewritten change size change.address change.bytes 0 (2 ^ 32) (by_address old) range.start range.whole (omega arith) was.entries.in_order
            was.entries.whole;
        few = few;
      };
      room = room;
    }

-- what is known where an entry is put into a task's table
pub record Enters (bytes : ℕ) (maps : Mapped) (task : ℕ) (change : MapChange) (row : Entry) (table : Listed Entry) : Type 0 where
  pub read : IsTableOf bytes maps task table
  pub free : IsFree bytes change (by_address table)
  pub one : IsNewEntry bytes change row
  pub some : 0 < row.bytes
  pub clear : meets_range row.address row.bytes (by_address table) ≡ false
  pub few : length table.items < most_entries

pub enters : (size : ℕ) (tables : List (TaskId × Listed Entry)) (maps : Mapped) (task : ℕ) (change : MapChange) (row : Entry) (table : Listed Entry)
    → seen size tables ≡ maps → AreTables size tables → table_of task tables ≡ Some table
    → change.kind ≡ kind.Enter → judged maps.size change (rows_in task maps) ≡ None → change.entry ≡ Some row
    → IsSomeAnd change.entry (IsNewEntry maps.size change) → Enters size maps task change row table
enters size tables maps task change row table view kept found enter none is new =
    let read = table_read size tables maps task table view kept found in
    let free = enter_allowed size change (by_address table) enter (rw (read.size, read.rows) at none) in
    let one = new_entry maps.size size change row read.size is new in
    record {
      read = read;
      free = free;
      one = one;
      some = omega (arith, one.bytes, free.range.some);
      clear = rw (one.address, one.bytes) free.free;
      few = omega (arith, free.few, length-reverse table.items);
    }

pub record HasEntered (bytes : ℕ) (tables : List (TaskId × Listed Entry)) (maps : Mapped) (task : ℕ) (change : MapChange) (row : Entry) : Type 0 where
  pub kept : AreTables bytes tables
  pub changes : ChangesOnly maps (seen bytes tables) task (Some (entered row (rows_in task maps)))
  pub mapped : Remaps (λ at was. Some (mapping maps.size at row)) maps (seen bytes tables) task change

pub has_entered : (size : ℕ) (old tables : List (TaskId × Listed Entry)) (maps : Mapped) (task : ℕ) (change : MapChange) (row : Entry)
    (was table : Listed Entry) → seen size old ≡ maps → AreTables size old → Enters size maps task change row was
    → by_address table ≡ entered row (by_address was) → most_entries ≤ length table.items + table.room
    → ((other : ℕ) → table_of other tables ≡ (if task == other then Some table else table_of other old)) → HasEntered size tables maps task change row
has_entered size old tables maps task change row was table view kept step is room each =
    let edit = edited size old tables maps task (Some table) view kept (entered_table size change row was table step.read.kept step.free step.one is room)
    each in
    let rows : by_address table ≡ entered row (rows_in task maps) = rw step.read.rows is in
    let changes : ChangesOnly maps (seen size tables) task (Some (entered row (rows_in task maps))) = rw rows at edit.changes in
    record {
      kept = edit.kept;
      changes = changes;
      mapped = entered_map maps (seen size tables) task change row step.one.address step.one.bytes (rw step.read.rows step.free.free) changes;
    }

length_parts : (from to : ℕ) (rows kept : List Entry) → from ≤ to → to ≤ length rows
    → length (take from rows ++ (kept ++ drop to rows)) + to ≡ from + (length kept + length rows)
length_parts from to rows kept order within =
    omega (
      arith,
      length-append (take from rows) (kept ++ drop to rows),
      length-append kept (drop to rows),
      length-take-le from rows (omega arith),
      length-drop to rows,
    )

-- what is known where what a change leaves of the entries that meet its range comes in their place
pub record Rewrites (bytes : ℕ) (maps : Mapped) (task : ℕ) (change : MapChange) (table : Listed Entry) (from to : ℕ) (kept : Listed Entry) : Type 0 where
  pub read : IsTableOf bytes maps task table
  pub within : to ≤ length table.items
  pub is : take from (by_address table) ++ (by_address kept ++ drop to (by_address table)) ≡ rewritten (becomes change) bytes change.address change.bytes
      (by_address table)
  pub fits : length kept.items + from ≤ table.room + to

pub rewrites : (size : ℕ) (tables : List (TaskId × Listed Entry)) (maps : Mapped) (task : ℕ) (change : MapChange) (table found : Listed Entry) (from to : ℕ)
    (kept : Listed Entry) → seen size tables ≡ maps → AreTables size tables → table_of task tables ≡ Some table
    → entries_in task maps ≡ Some (by_address found) → from ≤ to → to ≤ length found.items
    → take from (by_address found) ++ (by_address kept ++ drop to (by_address found)) ≡ rewritten (becomes change) size change.address change.bytes
    (by_address found)
    → length (rewritten (becomes change) maps.size change.address change.bytes (rows_in task maps)) ≤ most_entries
    → Rewrites size maps task change table from to kept
rewrites size tables maps task change table found from to kept view sound there seen order within made few =
    let read = table_read size tables maps task table view sound there in
    let same : by_address found ≡ by_address table = same_Some (by_address found) (by_address table) (sym seen ∙ read.is) in
    let inside : to ≤ length table.items = omega (arith, within, ap length same, length-reverse found.items, length-reverse table.items) in
    let is : take from (by_address table) ++ (by_address kept ++ drop to (by_address table)) ≡ rewritten (becomes change) size change.address change.bytes
    (by_address table) = rw same at made in
    let most : length (rewritten (becomes change) size change.address change.bytes (by_address table)) ≤ most_entries = rw (read.size, read.rows) at few in
    let parts = length_parts from to (by_address table) (by_address kept) order (omega (arith, inside, length-reverse table.items)) in
    record {
      read = read;
      within = inside;
      is = is;
      fits = omega (arith, parts, ap length is, most, read.kept.room, length-reverse table.items, length-reverse kept.items);
    }

pub record HasRewritten (bytes : ℕ) (tables : List (TaskId × Listed Entry)) (maps : Mapped) (task : ℕ) (change : MapChange) : Type 0 where
  pub kept : AreTables bytes tables
  pub changes : ChangesOnly maps (seen bytes tables) task (Some (rewritten (becomes change) maps.size change.address change.bytes (rows_in task maps)))
  pub mapped : Remaps (λ at. changed_by change.kind change) maps (seen bytes tables) task change

-- a task's table with its entries cut at the ends of a range, and changed in it
pub has_set : (size : ℕ) (old tables : List (TaskId × Listed Entry)) (maps : Mapped) (task : ℕ) (change : MapChange) (was table : Listed Entry)
    → seen size old ≡ maps → AreTables size old → IsTableOf size maps task was → is_range maps.size change.address change.bytes ≡ true
    → length (rewritten (becomes change) maps.size change.address change.bytes (rows_in task maps)) ≤ most_entries
    → by_address table ≡ rewritten (becomes change) size change.address change.bytes (by_address was)
    → length was.items + was.room ≤ length table.items + table.room
    → ((other : ℕ) → table_of other tables ≡ (if task == other then Some table else table_of other old)) → HasRewritten size tables maps task change
has_set size old tables maps task change was table view sound read test few is room each =
    let whole = rewritten_table size change was table read.kept (rw read.size at test) (rw (read.size, read.rows) at few) is
    (omega (arith, read.kept.room, room)) in
    let edit = edited size old tables maps task (Some table) view sound whole each in
    let rows : by_address table ≡ rewritten (becomes change) maps.size change.address change.bytes (rows_in task maps) = rw (read.size, read.rows) is in
    let changes : ChangesOnly maps (seen size tables) task (Some (rewritten (becomes change) maps.size change.address change.bytes
    (rows_in task maps))) = rw rows at edit.changes in
    record { kept = edit.kept; changes = changes; mapped = rewritten_map maps (seen size tables) task change test read.sound changes }

pub has_rewritten : (size : ℕ) (old tables : List (TaskId × Listed Entry)) (maps : Mapped) (task : ℕ) (change : MapChange) (was : Listed Entry) (from to : ℕ)
    (kept table : Listed Entry) → seen size old ≡ maps → AreTables size old
    → Rewrites size maps task change was from to kept → is_range maps.size change.address change.bytes ≡ true
    → length (rewritten (becomes change) maps.size change.address change.bytes (rows_in task maps)) ≤ most_entries
    → by_address table ≡ take from (by_address was) ++ (by_address kept ++ drop to (by_address was))
    → length was.items + was.room ≤ length table.items + table.room
    → ((other : ℕ) → table_of other tables ≡ (if task == other then Some table else table_of other old)) → HasRewritten size tables maps task change
has_rewritten size old tables maps task change was from to kept table view sound step test few put room each =
    has_set size old tables maps task change was table view sound step.read test few (put ∙ step.is) room each
