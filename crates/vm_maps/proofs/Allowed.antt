-- What no refusal tells of a change.
use Rattle.std.proofs.Common.{ℕ, ◌≡◌, ◌+◌, ◌<◌, Bool, true, false, not, List, length, Option, Some, None, subst, arith}
use Rattle.std.proofs.lemmas.Bool.Decides.{nat_tests}
use Rattle.std.proofs.lemmas.Option.{same_Some}
use Rattle.std.specs.Prelude.{IsSomeAnd, if◌then◌else◌, nat_lt}
use Rattle.vm_base.specs.Entries.{is_range, meets_range, most_entries}
use Rattle.vm_base.specs.declared.code.Code.{Code}
use Rattle.vm_base.specs.declared.code.Code.TheVariants as code
use Rattle.vm_base.specs.declared.entry.Entry.{Entry}
use Rattle.vm_maps.specs.Judge.{count_after, is_occupied, is_unmapped, judged}
use Rattle.vm_maps.specs.Maps.{IsNewEntry}
use Rattle.vm_maps.specs.declared.change.MapChange.{MapChange}
use Rattle.vm_maps.specs.declared.change.MapKind.TheVariants as kind
use Rattle.vm_maps.proofs.Range.{IsRange, range_is}

record NoTest (a b c d : Bool) : Type 0 where
  pub first : a ≡ true
  pub second : b ≡ false
  pub third : c ≡ false
  pub fourth : d ≡ false

no_test : (a b c d : Bool) (w x y z : Code) → (if not a then Some w else (if b then Some x else (if c then Some y else (if d then Some z else None)))) ≡ None
    → NoTest a b c d
no_test a b c d w x y z none = record { first = grind arith; second = grind arith; third = grind arith; fourth = grind arith }

-- a new entry is allowed
pub record IsFree (size : ℕ) (change : MapChange) (rows : List Entry) : Type 0 where
  pub range : IsRange size change.address change.bytes
  pub free : meets_range change.address change.bytes rows ≡ false
  pub few : length rows < most_entries

pub enter_allowed : (size : ℕ) (change : MapChange) (rows : List Entry) → change.kind ≡ kind.Enter → judged size change rows ≡ None → IsFree size change rows
enter_allowed size change rows enter none =
    let tests = no_test (is_range size change.address change.bytes) (is_unmapped change.kind size change.address change.bytes rows)
    (is_occupied change.kind change.address change.bytes rows) (nat_lt most_entries (count_after change.kind size change rows)) code.InvalidArgument
    code.InvalidAddress code.NoSpace code.TableFull none in
    let few : nat_lt most_entries (length rows + 1) ≡ false = rw enter at tests.fourth in
    record {
      range = range_is size change.address change.bytes tests.first;
      free = rw enter at tests.third;
      few = grind (arith, nat_tests);
    }

is_and : (o : Option Entry) (row : Entry) (P : Entry → Type 0) → o ≡ Some row → IsSomeAnd o P → P row
is_and None row P is holds = absurd holds
is_and (Some x) row P is holds = subst P (same_Some x row is) holds

pub new_entry : (bytes size : ℕ) (change : MapChange) (row : Entry) → bytes ≡ size → change.entry ≡ Some row → IsSomeAnd change.entry (IsNewEntry bytes change)
    → IsNewEntry size change row
new_entry bytes size change row same is new = subst (λ (n : ℕ). IsNewEntry n change row) same (is_and change.entry row (IsNewEntry bytes change) is new)
