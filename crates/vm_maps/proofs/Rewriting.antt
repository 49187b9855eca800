-- A loop that rewrites one entry after another.
use Rattle.std.proofs.Common.{ℕ, ◌≡◌, ◌+◌, ◌<◌, ◌≤◌, ◌^◌, List, [], ◌∷◌, ◌++◌, drop, Some, append_assoc, append-nil}
use Rattle.std.specs.List.{flat_map}
use Rattle.std.specs.Prelude.{slice_get}
use Rattle.vm_base.specs.Entries.{cut, parts_in, rewritten}
use Rattle.vm_base.specs.declared.entry.Entry.{Entry}
use Rattle.vm_maps.specs.Rows.{becomes, rewritten_one}
use Rattle.vm_maps.specs.declared.change.MapChange.{MapChange}
use Rattle.vm_maps.proofs.Outside.{cut_all, cut_behind, cut_front}
use Rattle.vm_maps.proofs.Walk.{drop_one}

abbrev left : ℕ → MapChange → List Entry → List Entry
left size change rows = rewritten (becomes change) size change.address change.bytes rows

pub kept_more : (size : ℕ) (change : MapChange) (rows : List Entry) (i : ℕ) (row : Entry) (so_far more all : List Entry) → slice_get rows i ≡ Some row
    → more ≡ so_far ++ rewritten_one size change row
    → so_far ++ rewritten (becomes change) size change.address change.bytes (drop i rows) ≡ all
    → more ++ rewritten (becomes change) size change.address change.bytes (drop (i + 1) rows) ≡ all
kept_more size change rows i row so_far more all is grown kept =
    let one = drop_one i rows row is in
    let opened : so_far ++ left size change (row ∷ drop (i + 1) rows) ≡ all = rw one at kept in
    rw grown (simp append_assoc opened)

pub taken_more : (size address bytes : ℕ) (rows : List Entry) (i : ℕ) (row : Entry) (so_far more all : List Entry) → slice_get rows i ≡ Some row
    → more ≡ so_far ++ cut size address (address + bytes) row
    → so_far ++ parts_in size address bytes (drop i rows) ≡ all
    → more ++ parts_in size address bytes (drop (i + 1) rows) ≡ all
taken_more size address bytes rows i row so_far more all is grown taken =
    let one = drop_one i rows row is in
    let opened : so_far ++ parts_in size address bytes (row ∷ drop (i + 1) rows) ≡ all = rw one at taken in
    rw grown (simp append_assoc opened)

-- of an entry in the range nothing is cut off
pub rewritten_inside : (size : ℕ) (change : MapChange) (row : Entry) → 0 < row.bytes → change.address ≤ row.address
    → row.address + row.bytes ≤ change.address + change.bytes → rewritten_one size change row ≡ flat_map (becomes change) (row ∷ [])
rewritten_inside size change row some low high = rw (
  cut_behind size 0 change.address row low,
  cut_all size change.address (change.address + change.bytes) row some low high,
  cut_front size (change.address + change.bytes) (2 ^ 32) row high,
) (append-nil (flat_map (becomes change) (row ∷ [])))
