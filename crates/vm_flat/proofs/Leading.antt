-- A temporary region that is in use has an entry, or was copied just now, or its top object stands on nothing.
use Rattle.std.proofs.Common.{ℕ, ◌+◌, ◌-◌, ◌/◌, ◌^◌, ◌<◌, ◌≤◌, ◌≡◌, ◌==◌, ◌||◌, ◌&&◌, not, Bool, true, false, List, [], ◌∷◌, ◌++◌, Option, Some, None}
use Rattle.std.proofs.Common.{refl, ap, sym, ◌∙◌, subst, arith, inl, inr, if◌then◌else◌}
use Rattle.std.proofs.lemmas.Bool.{cases_lt}
use Rattle.std.proofs.lemmas.Bool.Decides.{nat_tests}
use Rattle.std.specs.List.{flat_map}
use Rattle.std.specs.Prelude.{◌≢◌, ◌⊎◌, max, min, nat_lt}
use native.Mathlib.Decide.{ℕ_discrete}
use Rattle.vm_base.specs.declared.entry.Entry.{Entry}
use Rattle.vm_base.specs.Entries.{cut, entered, entry_at, inherited, protected, removed, rewritten}
use Rattle.vm_model.specs.declared.event.Event.{Event}
use Rattle.vm_model.specs.declared.event.Event.TheVariants as event
use Rattle.vm_model.specs.declared.script.Header.{Header}
use Rattle.vm_model.specs.Moments.{EachEvent}
use Rattle.vm_model.specs.Named.{named}
use Rattle.vm_model.specs.Regions.{backing_of, is_copy, is_newest, joined, newest_copy, next_object, next_region, over, pushed, region_of}
use Rattle.vm_model.specs.Rows.{AllRows, found_row, rows_known}
use Rattle.vm_model.specs.Tasks.{entries_of, has_entry, host_of}
use Rattle.vm_model.specs.Waiting.{Access, Copying, Loading, Storing, Target, begins_copy, copy_target, fills, waiting}
use Rattle.vm_legal.proofs.Files.{file_named}
use Rattle.vm_legal.specs.Bytes.{CopiesCurrent}
use Rattle.vm_legal.specs.Homes.{enters}
use Rattle.vm_legal.specs.Licences.{HasCause}
use Rattle.vm_legal.specs.Living.{lives_on, tasks}
use Rattle.vm_legal.specs.Outside.{Outside}
use Rattle.vm_legal.specs.Used.{in_use, is_held, is_kept, made_here}
use Rattle.vm_flat.proofs.Heads.{Orderly, RangedRow, copier, is_new_copy, ranged}
use Rattle.vm_flat.proofs.Holds.{Holds}
use Rattle.vm_flat.proofs.Housed.{made_of}
use Rattle.vm_flat.proofs.Law.{holds}
use Rattle.vm_flat.proofs.Regions.{eq_no, eq_yes, if_no, if_yes}
use Rattle.vm_flat.proofs.Translation.{sustained}

pub clash : {A : Type 0} (b : Bool) → b ≡ false → b ≡ true → A
clash b isnt is = absurd (let bad : true ≡ false = sym is ∙ isnt in cc)

first : (a b : Bool) → (a && b) ≡ true → a ≡ true
first true b is = refl
first false b is = is

second : (a b : Bool) → (a && b) ≡ true → b ≡ true
second true b is = is
second false b is = absurd (let bad : false ≡ true = is in cc)

or_left : (a b : Bool) → a ≡ true → (a || b) ≡ true
or_left true b is = refl
or_left false b is = absurd (let bad : false ≡ true = is in cc)

or_right : (a b : Bool) → b ≡ true → (a || b) ≡ true
or_right true b is = refl
or_right false b is = is

-- a region that is in use was made

made_by : (b : Bool) (x y : Bool) (r next : ℕ) → (b ≡ true → r < next) → (y ≡ true → r < next) → (if b then x else y) ≡ true → r < next
made_by true x y r next one two is = one refl
made_by false x y r next one two is = two is

number_is : (a b : ℕ) → (a == b) ≡ true → a ≡ b
number_is a b is = grind (arith, nat_tests)

above : (a b : ℕ) → a < b → a < b + 1
above a b less = omega (arith, less)

number_new : (r new next : ℕ) → new ≡ next → (r == new) ≡ true → r < next + 1
number_new r new next number is = omega (arith, number_is r new is, number)

pub used_made : (header : Header) (outside : Outside) (host r : ℕ) (past : List Event) → EachEvent (HasCause header outside) past
    → in_use header host r past ≡ true → r < next_region header past
used_made header outside host r [] caused used = file_named header r used
used_made header outside host r (event.RegionMade new object pages ∷ past) caused used =
    made_by (r == new.0) (made_here host past) (in_use header host r past) r (next_region header past + 1)
    (number_new r new.0 (next_region header past) caused.0.1.0)
    (λ is. above r (next_region header past) (used_made header outside host r past caused.1 is)) used
used_made header outside host r (event.RegionCopied new source offset pages ∷ past) caused used =
    made_by (r == new.0) (in_use header host source.0 past) (in_use header host r past) r (next_region header past + 1)
    (number_new r new.0 (next_region header past) caused.0.1.next)
    (λ is. above r (next_region header past) (used_made header outside host r past caused.1 is)) used
used_made header outside host r (event.Delayed new source offset pages copy ∷ past) caused used =
    made_by (r == new.0) (in_use header host source.0 past) (in_use header host r past) r (next_region header past + 1)
    (number_new r new.0 (next_region header past) caused.0.1.next)
    (λ is. above r (next_region header past) (used_made header outside host r past caused.1 is)) used
used_made header outside host r (event.Entered task address bytes region offset prot inherit ∷ past) caused used =
    used_made header outside host r past caused.1 (second (not (r == region.0) || lives_on host task.0 past) (in_use header host r past) used)
used_made header outside host r (event.Removed task address bytes ∷ past) caused used =
    used_made header outside host r past caused.1 (second (is_kept header r (event.Removed task address bytes ∷ past)) (in_use header host r past) used)
used_made header outside host r (event.TaskEnded task ∷ past) caused used =
    used_made header outside host r past caused.1 (second (is_kept header r (event.TaskEnded task ∷ past)) (in_use header host r past) used)
used_made header outside host r (event.Failed task object page ∷ past) caused used =
    used_made header outside host r past caused.1 (second (is_kept header r (event.Failed task object page ∷ past)) (in_use header host r past) used)
used_made header outside host r (e ∷ past) caused used = used_made header outside host r past caused.1 used

-- the object stands on nothing, and is no copy of a file

pub record IsBare (backed copy : Bool) (next o : ℕ) : Type 0 where
  pub bare : backed ≡ false
  pub plain : copy ≡ false
  pub made : o < next

abbrev pub Bare : Header → ℕ → List Event → Type 0
Bare header o past = IsBare (backing_of header o past).backed (is_copy o past) (next_object header past) o

newest_copied : (f v : ℕ) (past : List Event) → newest_copy f past ≡ Some v → is_copy v past ≡ true
newest_copied f v [] is = absurd (cc)
newest_copied f v (event.Delayed region source offset pages copy ∷ past) is = by (f == source.0) (newest_copied f v past) is
  where
    by : (b : Bool) → (newest_copy f past ≡ Some v → is_copy v past ≡ true) → (if b then Some copy.0 else newest_copy f past) ≡ Some v
        → (v == copy.0 || is_copy v past) ≡ true
    by true later now = let same : copy.0 ≡ v = cc in or_left (v == copy.0) (is_copy v past) (eq_yes v copy.0 (sym same))
    by false later was = or_right (v == copy.0) (is_copy v past) (later was)
newest_copied f v (e ∷ past) is = newest_copied f v past is

not_newest : (o f : ℕ) (past : List Event) → is_copy o past ≡ false → is_newest o (newest_copy f past) ≡ false
not_newest o f past plain = by (newest_copy f past) refl
  where
    by : (x : Option ℕ) → newest_copy f past ≡ x → is_newest o x ≡ false
    by None is = refl
    by (Some v) is = elim (ℕ_discrete o v) [
      | yes e ↦ clash (is_copy o past) plain (subst (λ (k : ℕ). is_copy k past ≡ true) (sym e) (newest_copied f v past is))
      | no other ↦ eq_no o v other
    ]

neither : (a b : Bool) → a ≡ false → b ≡ false → (a || b) ≡ false
neither a b one two = rw (one, two) refl

bare_next : (header : Header) (outside : Outside) (e : Event) (past : List Event) → HasCause header outside e past → (o : ℕ) → Bare header o past
    → Bare header o (e ∷ past)
bare_next header outside (event.RegionMade region object pages) past cause o was =
    record { bare = was.bare; plain = was.plain; made = above o (next_object header past) was.made }
bare_next header outside (event.Delayed region source offset pages copy) past cause o was =
    let number = cause.1.new in
    let other : (o == copy.0) ≡ false = eq_no o copy.0 (λ e. omega (arith, e, number, was.made)) in
    record {
      bare =
          ap (λ b. (pushed b (is_newest o (newest_copy source.0 past)) source.0 copy.0 (backing_of header o past)).backed) other
          ∙ (ap (λ b. (pushed false b source.0 copy.0 (backing_of header o past)).backed) (not_newest o source.0 past was.plain) ∙ was.bare);
      plain = neither (o == copy.0) (is_copy o past) other was.plain;
      made = above o (next_object header past) was.made;
    }
bare_next header outside (event.Shadowed region new old) past cause o was =
    let number = cause.1.next in
    let other : (o == new.0) ≡ false = eq_no o new.0 (λ e. omega (arith, e, number, was.made)) in
    record {
      bare = ap (λ b. (over b (region_of header region.0 past) (backing_of header o past)).backed) other ∙ was.bare;
      plain = was.plain;
      made = above o (next_object header past) was.made;
    }
bare_next header outside (event.Merged upper lower) past cause o was =
    let backed = cause.1.pair.backed in
    let other : (o == upper.0) ≡ false = eq_no o upper.0
    (λ e. clash (backing_of header o past).backed was.bare (ap (λ (k : ℕ). (backing_of header k past).backed) e ∙ backed)) in
    record {
      bare = ap (λ b. (joined b (backing_of header lower.0 past) (backing_of header o past)).backed) other ∙ was.bare;
      plain = was.plain;
      made = was.made;
    }
bare_next header outside e past cause o was = was

-- what is made now
bare_new : (header : Header) (outside : Outside) (past : List Event) → Holds header outside past → (o : ℕ) → o ≡ next_object header past
    → IsBare (backing_of header o past).backed (is_copy o past) (next_object header past + 1) o
bare_new header outside past h o number =
    record { bare = unbacked (backing_of header o past).backed refl; plain = uncopied (is_copy o past) refl; made = omega (arith, number) }
  where
    unbacked : (b : Bool) → (backing_of header o past).backed ≡ b → b ≡ false
    unbacked false is = refl
    unbacked true is = absurd (omega (arith, (made_of header outside past h.worlds).backed o is, number))

    uncopied : (b : Bool) → is_copy o past ≡ b → b ≡ false
    uncopied false is = refl
    uncopied true is = absurd (omega (arith, h.numbered.copied o is, number))

-- what a slow copy fills
pub target_bare : (header : Header) (outside : Outside) (task : ℕ) (t : Target) (past : List Event) → EachEvent (HasCause header outside) past
    → EachEvent (CopiesCurrent header outside) past → copy_target task past ≡ Some t → Bare header t.object past
target_bare header outside task t [] caused current is = absurd (cc)
target_bare header outside task t (event.BegunCopy owner address bytes to ∷ past) caused current is =
    by (owner.0 == task) (target_bare header outside task t past caused.1 current.1) is
  where
    by : (b : Bool) → (copy_target task past ≡ Some t → Bare header t.object past) → (if b then None else copy_target task past) ≡ Some t
        → Bare header t.object past
    by true later none = absurd (cc)
    by false later was = later was
target_bare header outside task t (event.RegionMade region object pages ∷ past) caused current is =
    by (begins_copy task past) (target_bare header outside task t past caused.1 current.1) is
  where
    by : (b : Bool) → (copy_target task past ≡ Some t → Bare header t.object past)
        → (if b then Some (record { region = region.0; object = object.0 }) else copy_target task past) ≡ Some t
        → Bare header t.object (event.RegionMade region object pages ∷ past)
    by true later now =
        let target : Target = record { region = region.0; object = object.0 } in
        let same : target ≡ t = cc in
        subst (λ (u : Target). Bare header u.object (event.RegionMade region object pages ∷ past)) same
        (bare_new header outside past (holds header outside past (sustained header outside past caused.1) current.1) object.0 caused.0.1.1)
    by false later was = bare_next header outside (event.RegionMade region object pages) past caused.0 t.object (later was)
target_bare header outside task t (e ∷ past) caused current is =
    bare_next header outside e past caused.0 t.object (target_bare header outside task t past caused.1 current.1 is)

either : (b : Bool) → ◌≡◌ {A = List Entry} (if b then [] else []) []
either true = refl
either false = refl

-- a task that doesn't live has no entries
dead_entries : (header : Header) (outside : Outside) (task : ℕ) (past : List Event) → EachEvent (HasCause header outside) past → host_of task past ≡ None
    → entries_of header.size task past ≡ []
dead_entries header outside task [] caused dead = refl
dead_entries header outside task (event.TaskMade made host ∷ past) caused dead =
    by (made.0 == task) (dead_entries header outside task past caused.1) dead
  where
    by : (b : Bool) → (host_of task past ≡ None → entries_of header.size task past ≡ []) → (if b then Some host.0 else host_of task past) ≡ None
        → (if b then [] else entries_of header.size task past) ≡ []
    by true later is = refl
    by false later is = later is
dead_entries header outside task (event.TaskEnded gone ∷ past) caused dead =
    by (gone.0 == task) (dead_entries header outside task past caused.1) dead
  where
    by : (b : Bool) → (host_of task past ≡ None → entries_of header.size task past ≡ []) → (if b then None else host_of task past) ≡ None
        → (if b then [] else entries_of header.size task past) ≡ []
    by true later is = refl
    by false later is = later is
dead_entries header outside task (event.Entered owner address bytes region offset prot inherit ∷ past) caused dead =
    if_no owner.0 task (entered row (entries_of header.size task past)) (entries_of header.size task past)
    (λ same. let some : host_of owner.0 past ≡ Some caused.0.1.host = caused.0.1.lives in
    let none : host_of owner.0 past ≡ None = ap (λ (k : ℕ). host_of k past) same ∙ dead in
    let bad : Some caused.0.1.host ≡ None = sym some ∙ none in cc)
    ∙ dead_entries header outside task past caused.1 dead
  where
    row : Entry
    row = record { address = address; bytes = bytes; region = region; offset = offset; prot = prot; inherit = inherit }
dead_entries header outside task (event.Removed owner address bytes ∷ past) caused dead =
    ap (λ (rows : List Entry). if owner.0 == task then removed header.size address bytes rows else rows) (dead_entries header outside task past caused.1 dead)
    ∙ either (owner.0 == task)
dead_entries header outside task (event.Protected owner address bytes prot ∷ past) caused dead =
    ap (λ (rows : List Entry). if owner.0 == task then protected header.size address bytes prot rows else rows)
    (dead_entries header outside task past caused.1 dead) ∙ either (owner.0 == task)
dead_entries header outside task (event.Inherited owner address bytes inherit ∷ past) caused dead =
    ap (λ (rows : List Entry). if owner.0 == task then inherited header.size address bytes inherit rows else rows)
    (dead_entries header outside task past caused.1 dead) ∙ either (owner.0 == task)
dead_entries header outside task (e ∷ past) caused dead = dead_entries header outside task past caused.1 dead

-- entries

pub record EntryOn (hosts : ℕ → Option ℕ) (entries : ℕ → List Entry) (r : ℕ) : Type 0 where
  pub task : ℕ
  pub host : ℕ
  pub lives : hosts task ≡ Some host
  pub has : has_entry r (entries task) ≡ true

-- a living task has an entry on the region
abbrev pub HasEntry : Header → ℕ → List Event → Type 0
HasEntry header r past = EntryOn (λ task. host_of task past) (λ task. entries_of header.size task past) r

among_left : (r : ℕ) (rows more : List Entry) → has_entry r rows ≡ true → has_entry r (rows ++ more) ≡ true
among_left r [] more has = absurd (let bad : false ≡ true = has in cc)
among_left r (row ∷ rows) more has = by (row.region.0 == r) (among_left r rows more) has
  where
    by : (b : Bool) → (has_entry r rows ≡ true → has_entry r (rows ++ more) ≡ true) → (b || has_entry r rows) ≡ true → (b || has_entry r (rows ++ more)) ≡ true
    by true later is = refl
    by false later is = later is

among_right : (r : ℕ) (rows more : List Entry) → has_entry r more ≡ true → has_entry r (rows ++ more) ≡ true
among_right r [] more has = has
among_right r (row ∷ rows) more has = or_right (row.region.0 == r) (has_entry r (rows ++ more)) (among_right r rows more has)

-- the rows are the new one and the old ones, in some order
among_entered : (r : ℕ) (new : Entry) (rows : List Entry) → has_entry r (new ∷ rows) ≡ true → has_entry r (entered new rows) ≡ true
among_entered r new [] has = has
among_entered r new (row ∷ rows) has = by (nat_lt new.address row.address) (among_entered r new rows) has
  where
    turned : (b c : Bool) → (b || (c || has_entry r rows)) ≡ true → (c ≡ true) ⊎ ((b || has_entry r rows) ≡ true)
    turned b true is = inl refl
    turned true false is = inr refl
    turned false false is = inr is

    by : (less : Bool) → (has_entry r (new ∷ rows) ≡ true → has_entry r (entered new rows) ≡ true) → has_entry r (new ∷ row ∷ rows) ≡ true
        → has_entry r (if less then new ∷ row ∷ rows else row ∷ entered new rows) ≡ true
    by true later is = is
    by false later is = elim (turned (new.region.0 == r) (row.region.0 == r) is) [
      | inl here ↦ or_left (row.region.0 == r) (has_entry r (entered new rows)) here
      | inr other ↦ or_right (row.region.0 == r) (has_entry r (entered new rows)) (later other)
    ]

found_has : (address : ℕ) (rows : List Entry) (row : Entry) → AllRows RangedRow rows → entry_at address rows ≡ Some row → has_entry row.region.0 rows ≡ true
found_has address rows row all found =
    (found_row (λ row. RangedRow row × (has_entry row.region.0 rows ≡ true)) address rows row (rows_known RangedRow rows all) found).is.1

-- entries that are rewritten keep their regions

lt_true : (a b : ℕ) → a < b → nat_lt a b ≡ true
lt_true a b less = grind (arith, nat_tests)

cut_has : (r size from to : ℕ) (row : Entry) → (row.region.0 == r) ≡ true → max from row.address < min to (row.address + row.bytes)
    → has_entry r (cut size from to row) ≡ true
cut_has r size from to row same less =
    by (nat_lt (max from row.address) (min to (row.address + row.bytes))) (lt_true (max from row.address) (min to (row.address + row.bytes)) less)
  where
    part : Entry
    part =
        record row {
          address = max from row.address;
          bytes = min to (row.address + row.bytes) - max from row.address;
          offset = row.offset + (max from row.address - row.address) / size;
        }

    by : (b : Bool) → b ≡ true → has_entry r (if b then part ∷ [] else []) ≡ true
    by true is = or_left (row.region.0 == r) false same
    by false is = absurd (cc)

cut_becomes : (r size from to : ℕ) (f : Entry → Entry) (row : Entry) → ((row : Entry) → (f row).region.0 ≡ row.region.0) → (row.region.0 == r) ≡ true
    → max from row.address < min to (row.address + row.bytes) → has_entry r (flat_map (λ row. f row ∷ []) (cut size from to row)) ≡ true
cut_becomes r size from to f row keeps same less =
    by (nat_lt (max from row.address) (min to (row.address + row.bytes))) (lt_true (max from row.address) (min to (row.address + row.bytes)) less)
  where
    part : Entry
    part =
        record row {
          address = max from row.address;
          bytes = min to (row.address + row.bytes) - max from row.address;
          offset = row.offset + (max from row.address - row.address) / size;
        }

    by : (b : Bool) → b ≡ true → has_entry r (flat_map (λ row. f row ∷ []) (if b then part ∷ [] else [])) ≡ true
    by true is = or_left ((f part).region.0 == r) false (ap (λ (k : ℕ). k == r) (keeps part) ∙ same)
    by false is = absurd (cc)

rewritten_has : (r size address bytes : ℕ) (f : Entry → Entry) → ((row : Entry) → (f row).region.0 ≡ row.region.0) → (rows : List Entry)
    → AllRows RangedRow rows → has_entry r rows ≡ true → has_entry r (rewritten (λ row. f row ∷ []) size address bytes rows) ≡ true
rewritten_has r size address bytes f keeps [] all has = has
rewritten_has r size address bytes f keeps (row ∷ rows) all has =
    by (row.region.0 == r) refl (rewritten_has r size address bytes f keeps rows all.1) has
  where
    front : List Entry
    front = cut size 0 address row

    middle : List Entry
    middle = flat_map (λ row. f row ∷ []) (cut size address (address + bytes) row)

    back : List Entry
    back = cut size (address + bytes) (2 ^ 32) row

    rest : List Entry
    rest = rewritten (λ row. f row ∷ []) size address bytes rows

    own : (row.region.0 == r) ≡ true → has_entry r (front ++ (middle ++ (back ++ rest))) ≡ true
    own same = elim (cases_lt row.address address) [
      | inl low ↦ among_left r front (middle ++ (back ++ rest)) (cut_has r size 0 address row same (omega (arith, low, all.0.some)))
      | inr high ↦ elim (cases_lt row.address (address + bytes)) [
        | inl inside ↦ among_right r front (middle ++ (back ++ rest)) (among_left r middle (back ++ rest)
            (cut_becomes r size address (address + bytes) f row keeps same (omega (arith, high, inside, all.0.some))))
        | inr behind ↦ among_right r front (middle ++ (back ++ rest)) (among_right r middle (back ++ rest) (among_left r back rest
            (cut_has r size (address + bytes) (2 ^ 32) row same (omega (arith, behind, all.0.some, all.0.end)))))
      ]
    ]

    by : (b : Bool) → (row.region.0 == r) ≡ b → (has_entry r rows ≡ true → has_entry r rest ≡ true) → (b || has_entry r rows) ≡ true
        → has_entry r (front ++ (middle ++ (back ++ rest))) ≡ true
    by true same later is = own same
    by false same later is =
        among_right r front (middle ++ (back ++ rest)) (among_right r middle (back ++ rest) (among_right r back rest (later is)))

if_has : (b : Bool) (r : ℕ) (some none : List Entry) → (has_entry r none ≡ true → has_entry r some ≡ true) → has_entry r none ≡ true
    → has_entry r (if b then some else none) ≡ true
if_has true r some none more has = more has
if_has false r some none more has = has

-- what holds a region that is kept

either_true : (a b : Bool) → (a || b) ≡ true → (a ≡ true) ⊎ (b ≡ true)
either_true true b is = inl refl
either_true false b is = inr is

record Holder (size r : ℕ) (past : List Event) : Type 0 where
  task : ℕ
  is : (has_entry r (entries_of size task past) ≡ true) ⊎ (fills r (waiting task past) (copy_target task past) ≡ true)

holder : (size r : ℕ) (others : List ℕ) (past : List Event) → is_held size r others past ≡ true → Holder size r past
holder size r [] past held = absurd (let bad : false ≡ true = held in cc)
holder size r (task ∷ others) past held = elim (either_true (has || fill) (is_held size r others past) held) [
  | inl own ↦ record { task = task; is = either_true has fill own }
  | inr other ↦ holder size r others past other
]
  where
    has : Bool
    has = has_entry r (entries_of size task past)

    fill : Bool
    fill = fills r (waiting task past) (copy_target task past)

record Fill (r task : ℕ) (past : List Event) : Type 0 where
  address : ℕ
  bytes : ℕ
  to : ℕ
  target : Target
  waits : waiting task past ≡ Some (Copying address bytes to)
  filled : copy_target task past ≡ Some target
  region_is : target.region ≡ r

fill_of : (r task : ℕ) (past : List Event) → fills r (waiting task past) (copy_target task past) ≡ true → Fill r task past
fill_of r task past is = by (waiting task past) (copy_target task past) refl refl is
  where
    by : (x : Option Access) (y : Option Target) → waiting task past ≡ x → copy_target task past ≡ y → fills r x y ≡ true → Fill r task past
    by None y w f is = absurd (let bad : false ≡ true = is in cc)
    by (Some (Loading address bytes)) y w f is = absurd (let bad : false ≡ true = is in cc)
    by (Some (Storing address bytes value)) y w f is = absurd (let bad : false ≡ true = is in cc)
    by (Some (Copying address bytes to)) None w f is = absurd (let bad : false ≡ true = is in cc)
    by (Some (Copying address bytes to)) (Some target) w f is =
        record {
          address = address;
          bytes = bytes;
          to = to;
          target = target;
          waits = w;
          filled = f;
          region_is = number_is target.region r is;
        }

-- the region that a living task's slow copy fills
pub filled_bare : (header : Header) (outside : Outside) (task host address bytes to : ℕ) (t : Target) (past : List Event)
    → EachEvent (HasCause header outside) past → EachEvent (CopiesCurrent header outside) past → host_of task past ≡ Some host
    → waiting task past ≡ Some (Copying address bytes to) → copy_target task past ≡ Some t → Bare header (region_of header t.region past).top past
filled_bare header outside task host address bytes to t past caused current lives waits filled =
    let f = (holds header outside past (sustained header outside past caused) current).filling task host address bytes to t lives waits filled in
    subst (λ (o : ℕ). Bare header o past) (sym f.top) (target_bare header outside task t past caused current filled)

living : {A : Type 0} (x : Option ℕ) → (x ≡ None → A) → ((host : ℕ) → x ≡ Some host → A) → A
living None dead lives = dead refl
living (Some host) dead lives = lives host refl

kept_state : (header : Header) (outside : Outside) (r : ℕ) (past : List Event) → EachEvent (HasCause header outside) past
    → EachEvent (CopiesCurrent header outside) past → EachEvent Orderly past → named header ≤ r → is_kept header r past ≡ true
    → Bare header (region_of header r past).top past ⊎ HasEntry header r past
kept_state header outside r past caused current each late kept = by (holder header.size r (tasks past) past held)
  where
    held : is_held header.size r (tasks past) past ≡ true
    held = elim (either_true (nat_lt r (named header)) (is_held header.size r (tasks past) past) kept) [
      | inl less ↦ absurd (let low : r < named header = grind (arith, nat_tests) in omega (arith, low, late))
      | inr is ↦ is
    ]

    by : Holder header.size r past → Bare header (region_of header r past).top past ⊎ HasEntry header r past
    by who = elim who.is [
      | inl has ↦ living (host_of who.task past)
          (λ dead. absurd (let bad : false ≡ true = ap (has_entry r) (sym (dead_entries header outside who.task past caused dead)) ∙ has in cc))
          (λ host lives. inr (record { task = who.task; host = host; lives = lives; has = has }))
      | inr fill ↦
          let f : Fill r who.task past = fill_of r who.task past fill in
          living (host_of who.task past)
          (λ dead. absurd ((copier who.task f.address f.bytes f.to past each f.waits).0 dead))
          (λ host lives. inl (subst (λ (k : ℕ). Bare header (region_of header k past).top past) f.region_is
          (filled_bare header outside who.task host f.address f.bytes f.to f.target past caused current lives f.waits f.filled)))
    ]

-- each event

-- the region's top object stands on nothing, or a living task has an entry on it, or it was copied just now
abbrev pub State : Header → ℕ → List Event → Type 0
State header r past = Bare header (region_of header r past).top past ⊎ (HasEntry header r past ⊎ (is_new_copy r past ≡ true))

later : (header : Header) (outside : Outside) (r : ℕ) (e : Event) (past : List Event) → HasCause header outside e past → Orderly e past
    → enters r e ≡ false → (region_of header r (e ∷ past)).top ≡ (region_of header r past).top → (HasEntry header r past → HasEntry header r (e ∷ past))
    → State header r past → State header r (e ∷ past)
later header outside r e past cause keeps none top more (inl bare) =
    inl (subst (λ (o : ℕ). Bare header o (e ∷ past)) (sym top) (bare_next header outside e past cause (region_of header r past).top bare))
later header outside r e past cause keeps none top more (inr (inl has)) = inr (inl (more has))
later header outside r e past cause keeps none top more (inr (inr new)) = clash (enters r e) none (keeps.0 r new)

kept_later : (header : Header) (r : ℕ) (past : List Event) → Bare header (region_of header r past).top past ⊎ HasEntry header r past → State header r past
kept_later header r past (inl bare) = inl bare
kept_later header r past (inr has) = inr (inl has)

pub state : (header : Header) (outside : Outside) (past : List Event) → EachEvent (HasCause header outside) past
    → EachEvent (CopiesCurrent header outside) past → EachEvent Orderly past → (host r : ℕ) → named header ≤ r → in_use header host r past ≡ true
    → State header r past
state header outside [] caused current each host r late used = absurd (omega (arith, file_named header r used, late))
state header outside (event.RegionMade region object pages ∷ past) caused current each host r late used = elim (ℕ_discrete r region.0) [
  | yes e ↦ inl (subst (λ (o : ℕ). Bare header o (event.RegionMade region object pages ∷ past))
      (sym (if_yes r region.0 object.0 (region_of header r past).top e))
      (bare_new header outside past (holds header outside past (sustained header outside past caused.1) current.1) object.0 caused.0.1.1))
  | no apart ↦ later header outside r (event.RegionMade region object pages) past caused.0 each.0 refl
      (if_no r region.0 object.0 (region_of header r past).top apart) (λ has. has)
      (state header outside past caused.1 current.1 each.1 host r late
      (sym (if_no r region.0 (made_here host past) (in_use header host r past) apart) ∙ used))
]
state header outside (event.RegionCopied region source offset pages ∷ past) caused current each host r late used = elim (ℕ_discrete r region.0) [
  | yes e ↦ inr (inr (eq_yes r region.0 e))
  | no apart ↦ later header outside r (event.RegionCopied region source offset pages) past caused.0 each.0 refl
      (if_no r region.0 (region_of header source.0 past).top (region_of header r past).top apart) (λ has. has)
      (state header outside past caused.1 current.1 each.1 host r late
      (sym (if_no r region.0 (in_use header host source.0 past) (in_use header host r past) apart) ∙ used))
]
state header outside (event.Delayed region source offset pages copy ∷ past) caused current each host r late used = elim (ℕ_discrete r region.0) [
  | yes e ↦ inr (inr (eq_yes r region.0 e))
  | no apart ↦ later header outside r (event.Delayed region source offset pages copy) past caused.0 each.0 refl
      (if_no r region.0 copy.0 (region_of header r past).top apart) (λ has. has)
      (state header outside past caused.1 current.1 each.1 host r late
      (sym (if_no r region.0 (in_use header host source.0 past) (in_use header host r past) apart) ∙ used))
]
state header outside (event.Shadowed region new old ∷ past) caused current each host r late used = elim (ℕ_discrete r region.0) [
  | yes e ↦
      let c = caused.0.1 in
      let has = found_has _ (entries_of header.size c.task past) c.waits.at.entry (ranged header.size c.task past each.1) c.waits.at.found in
      inr (inl (record {
        task = c.task;
        host = c.waits.at.host;
        lives = c.waits.at.lives;
        has = subst (λ (k : ℕ). has_entry k (entries_of header.size c.task past) ≡ true) (sym c.region_is ∙ sym e) has;
      }))
  | no apart ↦ later header outside r (event.Shadowed region new old) past caused.0 each.0 refl
      (if_no r region.0 new.0 (region_of header r past).top apart) (λ has. has)
      (state header outside past caused.1 current.1 each.1 host r late used)
]
state header outside (event.Entered task address bytes region offset prot inherit ∷ past) caused current each host r late used =
    by (state header outside past caused.1 current.1 each.1 host r late (second (not (r == region.0) || lives_on host task.0 past) (in_use header host r past)
    used))
  where
    row : Entry
    row = record { address = address; bytes = bytes; region = region; offset = offset; prot = prot; inherit = inherit }

    by : State header r past → State header r (event.Entered task address bytes region offset prot inherit ∷ past)
    by (inl bare) = inl bare
    by (inr (inl has)) =
        inr (inl (record {
          task = has.task;
          host = has.host;
          lives = has.lives;
          has =
              if_has (task.0 == has.task) r (entered row (entries_of header.size has.task past)) (entries_of header.size has.task past)
              (λ was. among_entered r row (entries_of header.size has.task past) (or_right (region.0 == r) _ was)) has.has;
        }))
    by (inr (inr new)) =
        let same : r ≡ region.0 = number_is r region.0 (each.0.0 r new) in
        inr (inl (record {
          task = task.0;
          host = caused.0.1.host;
          lives = caused.0.1.lives;
          has =
              ap (has_entry r) (if_yes task.0 task.0 (entered row (entries_of header.size task.0 past)) (entries_of header.size task.0 past) refl)
              ∙ among_entered r row (entries_of header.size task.0 past)
              (or_left (region.0 == r) (has_entry r (entries_of header.size task.0 past)) (eq_yes region.0 r (sym same)));
        }))
state header outside (event.Removed task address bytes ∷ past) caused current each host r late used =
    let now = event.Removed task address bytes ∷ past in
    kept_later header r now (kept_state header outside r now caused current each late (first (is_kept header r now) (in_use header host r past) used))
state header outside (event.TaskEnded task ∷ past) caused current each host r late used =
    let now = event.TaskEnded task ∷ past in
    kept_later header r now (kept_state header outside r now caused current each late (first (is_kept header r now) (in_use header host r past) used))
state header outside (event.Failed task object page ∷ past) caused current each host r late used =
    let now = event.Failed task object page ∷ past in
    kept_later header r now (kept_state header outside r now caused current each late (first (is_kept header r now) (in_use header host r past) used))
state header outside (event.TaskMade made at ∷ past) caused current each host r late used =
    later header outside r (event.TaskMade made at) past caused.0 each.0 refl refl
    (λ has. record {
      task = has.task;
      host = has.host;
      lives = if_no made.0 has.task (Some at.0) (host_of has.task past) (old has.task has.host has.lives) ∙ has.lives;
      has =
          ap (has_entry r) (if_no made.0 has.task [] (entries_of header.size has.task past) (old has.task has.host has.lives)) ∙ has.has;
    })
    (state header outside past caused.1 current.1 each.1 host r late used)
  where
    old : (task h : ℕ) → host_of task past ≡ Some h → made.0 ≢ task
    old task h lives same = let bad : None ≡ Some h = sym each.0.1 ∙ ap (λ (k : ℕ). host_of k past) same ∙ lives in cc
state header outside (event.Protected task address bytes prot ∷ past) caused current each host r late used =
    later header outside r (event.Protected task address bytes prot) past caused.0 each.0 refl refl
    (λ has. record {
      task = has.task;
      host = has.host;
      lives = has.lives;
      has =
          if_has (task.0 == has.task) r (protected header.size address bytes prot (entries_of header.size has.task past))
          (entries_of header.size has.task past)
          (rewritten_has r header.size address bytes (λ row. record row { prot = prot }) (λ row. refl) (entries_of header.size has.task past)
          (ranged header.size has.task past each.1)) has.has;
    })
    (state header outside past caused.1 current.1 each.1 host r late used)
state header outside (event.Inherited task address bytes inherit ∷ past) caused current each host r late used =
    later header outside r (event.Inherited task address bytes inherit) past caused.0 each.0 refl refl
    (λ has. record {
      task = has.task;
      host = has.host;
      lives = has.lives;
      has =
          if_has (task.0 == has.task) r (inherited header.size address bytes inherit (entries_of header.size has.task past))
          (entries_of header.size has.task past)
          (rewritten_has r header.size address bytes (λ row. record row { inherit = inherit }) (λ row. refl) (entries_of header.size has.task past)
          (ranged header.size has.task past each.1)) has.has;
    })
    (state header outside past caused.1 current.1 each.1 host r late used)
state header outside (e ∷ past) caused current each host r late used =
    later header outside r e past caused.0 each.0 refl refl (λ has. has) (state header outside past caused.1 current.1 each.1 host r late used)
