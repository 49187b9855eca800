-- Entries on a region, as rows come and are rewritten.
use Rattle.std.proofs.Common.{ℕ, ◌+◌, ◌-◌, ◌/◌, ◌^◌, ◌<◌, ◌≡◌, ◌==◌, ◌||◌, Bool, true, false, List, [], ◌∷◌, ◌++◌, Some, None}
use Rattle.std.proofs.Common.{refl, ap, sym, ◌∙◌, arith, inl, inr, if◌then◌else◌}
use Rattle.std.proofs.lemmas.Bool.{cases_lt}
use Rattle.std.proofs.lemmas.Bool.Decides.{nat_tests}
use Rattle.std.specs.List.{flat_map}
use Rattle.std.specs.Prelude.{◌⊎◌, max, min, nat_lt}
use Rattle.vm_base.specs.declared.entry.Entry.{Entry}
use Rattle.vm_base.specs.Entries.{cut, entered, inherited, protected, removed, rewritten}
use Rattle.vm_flat.proofs.Heads.{RangedRow}
use Rattle.vm_flat.proofs.Regions.{if_no}
use Rattle.vm_legal.specs.Licences.{HasCause}
use Rattle.vm_legal.specs.Outside.{Outside}
use Rattle.vm_model.specs.Moments.{EachEvent}
use Rattle.vm_model.specs.Rows.{AllRows}
use Rattle.vm_model.specs.Tasks.{entries_of, has_entry, host_of}
use Rattle.vm_model.specs.declared.event.Event.{Event}
use Rattle.vm_model.specs.declared.event.Event.TheVariants as event
use Rattle.vm_model.specs.declared.script.Header.{Header}

pub or_left : (a b : Bool) → a ≡ true → (a || b) ≡ true
or_left true b is = refl
or_left false b is = absurd (let bad : false ≡ true = is in cc)

pub or_right : (a b : Bool) → b ≡ true → (a || b) ≡ true
or_right true b is = refl
or_right false b is = is

-- an entry on the region is among more rows

among_left : (r : ℕ) (rows more : List Entry) → has_entry r rows ≡ true → has_entry r (rows ++ more) ≡ true
among_left r [] more has = absurd (let bad : false ≡ true = has in cc)
among_left r (row ∷ rows) more has = by (row.region.0 == r) (among_left r rows more) has
  where
    by : (b : Bool) → (has_entry r rows ≡ true → has_entry r (rows ++ more) ≡ true) → (b || has_entry r rows) ≡ true → (b || has_entry r (rows ++ more)) ≡ true
    by true later is = refl
    by false later is = later is

among_right : (r : ℕ) (rows more : List Entry) → has_entry r more ≡ true → has_entry r (rows ++ more) ≡ true
among_right r [] more has = has
among_right r (row ∷ rows) more has = or_right (row.region.0 == r) (has_entry r (rows ++ more)) (among_right r rows more has)

-- the rows are the new one and the old ones, in some order
pub among_entered : (r : ℕ) (new : Entry) (rows : List Entry) → has_entry r (new ∷ rows) ≡ true → has_entry r (entered new rows) ≡ true
among_entered r new [] has = has
among_entered r new (row ∷ rows) has = by (nat_lt new.address row.address) (among_entered r new rows) has
  where
    turned : (b c : Bool) → (b || (c || has_entry r rows)) ≡ true → (c ≡ true) ⊎ ((b || has_entry r rows) ≡ true)
    turned b true is = inl refl
    turned true false is = inr refl
    turned false false is = inr is

    by : (less : Bool) → (has_entry r (new ∷ rows) ≡ true → has_entry r (entered new rows) ≡ true) → has_entry r (new ∷ row ∷ rows) ≡ true
        → has_entry r (if less then new ∷ row ∷ rows else row ∷ entered new rows) ≡ true
    by true later is = is
    by false later is = elim (turned (new.region.0 == r) (row.region.0 == r) is) [
      | inl here ↦ or_left (row.region.0 == r) (has_entry r (entered new rows)) here
      | inr other ↦ or_right (row.region.0 == r) (has_entry r (entered new rows)) (later other)
    ]

-- entries that are rewritten keep their regions

lt_true : (a b : ℕ) → a < b → nat_lt a b ≡ true
lt_true a b less = grind (arith, nat_tests)

cut_has : (r size from to : ℕ) (row : Entry) → (row.region.0 == r) ≡ true → max from row.address < min to (row.address + row.bytes)
    → has_entry r (cut size from to row) ≡ true
cut_has r size from to row same less =
    by (nat_lt (max from row.address) (min to (row.address + row.bytes))) (lt_true (max from row.address) (min to (row.address + row.bytes)) less)
  where
    part : Entry
    part =
        record row {
          address = max from row.address;
          bytes = min to (row.address + row.bytes) - max from row.address;
          offset = row.offset + (max from row.address - row.address) / size;
        }

    by : (b : Bool) → b ≡ true → has_entry r (if b then part ∷ [] else []) ≡ true
    by true is = or_left (row.region.0 == r) false same
    by false is = absurd (cc)

cut_becomes : (r size from to : ℕ) (f : Entry → Entry) (row : Entry) → ((row : Entry) → (f row).region.0 ≡ row.region.0) → (row.region.0 == r) ≡ true
    → max from row.address < min to (row.address + row.bytes) → has_entry r (flat_map (λ row. f row ∷ []) (cut size from to row)) ≡ true
cut_becomes r size from to f row keeps same less =
    by (nat_lt (max from row.address) (min to (row.address + row.bytes))) (lt_true (max from row.address) (min to (row.address + row.bytes)) less)
  where
    part : Entry
    part =
        record row {
          address = max from row.address;
          bytes = min to (row.address + row.bytes) - max from row.address;
          offset = row.offset + (max from row.address - row.address) / size;
        }

    by : (b : Bool) → b ≡ true → has_entry r (flat_map (λ row. f row ∷ []) (if b then part ∷ [] else [])) ≡ true
    by true is = or_left ((f part).region.0 == r) false (ap (λ (k : ℕ). k == r) (keeps part) ∙ same)
    by false is = absurd (cc)

pub rewritten_has : (r size address bytes : ℕ) (f : Entry → Entry) → ((row : Entry) → (f row).region.0 ≡ row.region.0) → (rows : List Entry)
    → AllRows RangedRow rows → has_entry r rows ≡ true → has_entry r (rewritten (λ row. f row ∷ []) size address bytes rows) ≡ true
rewritten_has r size address bytes f keeps [] all has = has
rewritten_has r size address bytes f keeps (row ∷ rows) all has =
    by (row.region.0 == r) refl (rewritten_has r size address bytes f keeps rows all.1) has
  where
    front : List Entry
    front = cut size 0 address row

    middle : List Entry
    middle = flat_map (λ row. f row ∷ []) (cut size address (address + bytes) row)

    back : List Entry
    back = cut size (address + bytes) (2 ^ 32) row

    rest : List Entry
    rest = rewritten (λ row. f row ∷ []) size address bytes rows

    own : (row.region.0 == r) ≡ true → has_entry r (front ++ (middle ++ (back ++ rest))) ≡ true
    own same = elim (cases_lt row.address address) [
      | inl low ↦ among_left r front (middle ++ (back ++ rest)) (cut_has r size 0 address row same (omega (arith, low, all.0.some)))
      | inr high ↦ elim (cases_lt row.address (address + bytes)) [
        | inl inside ↦ among_right r front (middle ++ (back ++ rest)) (among_left r middle (back ++ rest)
            (cut_becomes r size address (address + bytes) f row keeps same (omega (arith, high, inside, all.0.some))))
        | inr behind ↦ among_right r front (middle ++ (back ++ rest)) (among_right r middle (back ++ rest) (among_left r back rest
            (cut_has r size (address + bytes) (2 ^ 32) row same (omega (arith, behind, all.0.some, all.0.end)))))
      ]
    ]

    by : (b : Bool) → (row.region.0 == r) ≡ b → (has_entry r rows ≡ true → has_entry r rest ≡ true) → (b || has_entry r rows) ≡ true
        → has_entry r (front ++ (middle ++ (back ++ rest))) ≡ true
    by true same later is = own same
    by false same later is =
        among_right r front (middle ++ (back ++ rest)) (among_right r middle (back ++ rest) (among_right r back rest (later is)))

pub if_has : (b : Bool) (r : ℕ) (some none : List Entry) → (has_entry r none ≡ true → has_entry r some ≡ true) → has_entry r none ≡ true
    → has_entry r (if b then some else none) ≡ true
if_has true r some none more has = more has
if_has false r some none more has = has

-- a task that doesn't live has no entries

either : (b : Bool) → ◌≡◌ {A = List Entry} (if b then [] else []) []
either true = refl
either false = refl

pub dead_entries : (header : Header) (outside : Outside) (task : ℕ) (past : List Event) → EachEvent (HasCause header outside) past → host_of task past ≡ None
    → entries_of header.size task past ≡ []
dead_entries header outside task [] caused dead = refl
dead_entries header outside task (event.TaskMade made host ∷ past) caused dead =
    by (made.0 == task) (dead_entries header outside task past caused.1) dead
  where
    by : (b : Bool) → (host_of task past ≡ None → entries_of header.size task past ≡ []) → (if b then Some host.0 else host_of task past) ≡ None
        → (if b then [] else entries_of header.size task past) ≡ []
    by true later is = refl
    by false later is = later is
dead_entries header outside task (event.TaskEnded gone ∷ past) caused dead =
    by (gone.0 == task) (dead_entries header outside task past caused.1) dead
  where
    by : (b : Bool) → (host_of task past ≡ None → entries_of header.size task past ≡ []) → (if b then None else host_of task past) ≡ None
        → (if b then [] else entries_of header.size task past) ≡ []
    by true later is = refl
    by false later is = later is
dead_entries header outside task (event.Entered owner address bytes region offset prot inherit ∷ past) caused dead =
    if_no owner.0 task (entered row (entries_of header.size task past)) (entries_of header.size task past)
    (λ same. let some : host_of owner.0 past ≡ Some caused.0.1.host = caused.0.1.lives in
    let none : host_of owner.0 past ≡ None = ap (λ (k : ℕ). host_of k past) same ∙ dead in
    let bad : Some caused.0.1.host ≡ None = sym some ∙ none in cc)
    ∙ dead_entries header outside task past caused.1 dead
  where
    row : Entry
    row = record { address = address; bytes = bytes; region = region; offset = offset; prot = prot; inherit = inherit }
dead_entries header outside task (event.Removed owner address bytes ∷ past) caused dead =
    ap (λ (rows : List Entry). if owner.0 == task then removed header.size address bytes rows else rows) (dead_entries header outside task past caused.1 dead)
    ∙ either (owner.0 == task)
dead_entries header outside task (event.Protected owner address bytes prot ∷ past) caused dead =
    ap (λ (rows : List Entry). if owner.0 == task then protected header.size address bytes prot rows else rows)
    (dead_entries header outside task past caused.1 dead) ∙ either (owner.0 == task)
dead_entries header outside task (event.Inherited owner address bytes inherit ∷ past) caused dead =
    ap (λ (rows : List Entry). if owner.0 == task then inherited header.size address bytes inherit rows else rows)
    (dead_entries header outside task past caused.1 dead) ∙ either (owner.0 == task)
dead_entries header outside task (e ∷ past) caused dead = dead_entries header outside task past caused.1 dead
