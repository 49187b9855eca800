-- What the tables of all tasks tell of one task's, and what an edit of it leaves.
use Rattle.std.proofs.Common.{ℕ, ◌≡◌, ◌≤◌, ◌==◌, Bool, true, false, List, [], ◌∷◌, Option, Some, None, MutBor, refl, sym, ◌∙◌, ap, arith}
use Rattle.std.proofs.lemmas.Bool.Decides.{nat_tests}
use Rattle.std.specs.Option.{option_copied_mut, option_map}
use Rattle.std.specs.Prelude.{IfSome, IsSome, is_some, unwrap_or, if◌then◌else◌}
use Rattle.vm_base.specs.Entries.{AreEntries, by_address, most_entries}
use Rattle.vm_base.specs.Listing.{Listed}
use Rattle.vm_base.specs.declared.entry.Entry.{Entry}
use Rattle.vm_base.specs.declared.ids.TaskId.{TaskId}
use Rattle.vm_maps.specs.Maps.{ChangesOnly, Mapped, entries_among, entries_in, rows_in}
use Rattle.vm_maps.specs.Tables.{AreTables, IsTable, table_of, task_rows}

abbrev pub seen : ℕ → List (TaskId × Listed Entry) → Mapped
seen size tables = record { size = size; tasks = task_rows tables }

-- a task's entries are those of its table
rows_of_table : (task : ℕ) (tables : List (TaskId × Listed Entry)) → entries_among task (task_rows tables) ≡ option_map by_address (table_of task tables)
rows_of_table task [] = refl
rows_of_table task (table ∷ tables) = let rest = rows_of_table task tables in grind (arith, nat_tests, rest)

pub has_table : (size : ℕ) (tables : List (TaskId × Listed Entry)) (maps : Mapped) (task : ℕ) → seen size tables ≡ maps
    → is_some (table_of task tables) ≡ is_some (entries_in task maps)
has_table size tables maps task view = rw (← view, rows_of_table task tables) (known (table_of task tables))
  where
    known : (o : Option (Listed Entry)) → is_some o ≡ is_some (option_map by_address o)
    known None = refl
    known (Some table) = refl

pub some_of : {A : Type 0} (o : Option A) (x : A) → o ≡ Some x → IsSome o
some_of o x is = rw is refl

-- a reference to a table that is there is there
pub table_is : {A : Type 0} (o : Option (MutBor A)) (was : Option A) → option_copied_mut o ≡ was → IsSome was → IsSome o
table_is None was is there = rw (← is) at there
table_is (Some table) was is there = refl

pub empty_table : (size : ℕ) (table : Listed Entry) → table.items ≡ [] → most_entries ≤ table.room → IsTable size table
empty_table size table none room = record {
  entries = rw none record { in_order = omega arith; whole = tt; few = omega arith };
  room = omega arith;
}

-- what is read of a task's table
pub record IsTableOf (bytes : ℕ) (maps : Mapped) (task : ℕ) (table : Listed Entry) : Type 0 where
  pub size : maps.size ≡ bytes
  pub kept : IsTable bytes table
  pub is : entries_in task maps ≡ Some (by_address table)
  pub rows : rows_in task maps ≡ by_address table
  pub sound : AreEntries maps.size (rows_in task maps)

pub table_read : (size : ℕ) (tables : List (TaskId × Listed Entry)) (maps : Mapped) (task : ℕ) (table : Listed Entry) → seen size tables ≡ maps
    → AreTables size tables → table_of task tables ≡ Some table → IsTableOf size maps task table
table_read size tables maps task table view kept is =
    let one = kept task table is in
    let found : entries_among task (task_rows tables) ≡ Some (by_address table) = rows_of_table task tables ∙ ap (option_map by_address) is in
    let rows : unwrap_or (entries_among task (task_rows tables)) [] ≡ by_address table = ap (λ z. unwrap_or z []) found in
    rw (← view) record { size = refl; kept = one; is = found; rows = rows; sound = rw rows one.entries }

changes_only : (old new : Mapped) (task : ℕ) (rows : Option (List Entry)) → new.size ≡ old.size
    → ((other : ℕ) → entries_in other new ≡ (if task == other then rows else entries_in other old)) → ChangesOnly old new task rows
changes_only old new task rows size each = record {
  size = size;
  changed = let yes : (task == task) ≡ true = grind (arith, nat_tests) in rw yes at (each task);
  others = λ other apart. let no : (task == other) ≡ false = grind (arith, nat_tests) in rw no at (each other);
}

kept_one : (size : ℕ) (named : Bool) (now was table : Option (Listed Entry)) (found : Listed Entry) → now ≡ (if named then table else was) → now ≡ Some found
    → IfSome table (IsTable size) → (was ≡ Some found → IsTable size found) → IsTable size found
kept_one size true now was table found at is one other = let there : table ≡ Some found = sym at ∙ is in rw there at one
kept_one size false now was table found at is one other = other (sym at ∙ is)

-- what an edit of one task's table leaves
pub record Edited (size : ℕ) (tables : List (TaskId × Listed Entry)) (maps : Mapped) (task : ℕ) (table : Option (Listed Entry)) : Type 0 where
  pub kept : AreTables size tables
  pub changes : ChangesOnly maps (seen size tables) task (option_map by_address table)

pub edited : (size : ℕ) (old new : List (TaskId × Listed Entry)) (maps : Mapped) (task : ℕ) (table : Option (Listed Entry)) → seen size old ≡ maps
    → AreTables size old → IfSome table (IsTable size)
    → ((other : ℕ) → table_of other new ≡ (if task == other then table else table_of other old)) → Edited size new maps task table
edited size old new maps task table view kept one each =
    let rows : (other : ℕ) → entries_among other (task_rows new) ≡ (if task == other then option_map by_address table else entries_among other (task_rows old))
    = λ other. let at = each other in let now = rows_of_table other new in let was = rows_of_table other old in grind (arith, nat_tests, at, now, was) in
    record {
      kept = λ other found is. kept_one size (task == other) (table_of other new) (table_of other old) table found (each other) is one (kept other found);
      changes = rw (← view) (changes_only (seen size old) (seen size new) task (option_map by_address table) refl rows);
    }
