-- Tasks of other hosts go on to hold none of a host's regions.
use Rattle.std.proofs.Common.{◌≡◌, ℕ, ◌+◌, ◌<◌, ◌≤◌, ◌==◌, ◌&&◌, ◌||◌, not, Bool, true, false, List, [], ◌∷◌, ◌++◌, Option, Some, None, refl, sym, ◌∙◌, arith}
use Rattle.std.proofs.Common.{inl, inr}
use Rattle.std.proofs.lemmas.Bool.Decides.{eqb_tells, nat_tests}
use Rattle.std.specs.Prelude.{if◌then◌else◌, ◌⊎◌}
use Rattle.vm_base.specs.declared.entry.Entry.{Entry}
use Rattle.vm_base.specs.declared.ids.Inherit.{Inherit}
use Rattle.vm_base.specs.declared.ids.Prot.{Prot}
use Rattle.vm_base.specs.Entries.{entered, inherited, protected, removed}
use Rattle.vm_model.specs.declared.event.Event.{Event}
use Rattle.vm_model.specs.declared.event.Event.TheVariants as event
use Rattle.vm_model.specs.declared.script.Header.{Header}
use Rattle.vm_model.specs.Regions.{next_region}
use Rattle.vm_model.specs.Rows.{AllRows, rows_entered, rows_rewritten}
use Rattle.vm_model.specs.Tasks.{entries_of, has_entry}
use Rattle.vm_model.specs.Waiting.{Access, Copying, Loading, Storing, Target, begins_copy, copy_target, fills, is_target, waiting}
use Rattle.vm_legal.specs.Homes.{begins_here}
use Rattle.vm_legal.specs.Licences.{HasCause}
use Rattle.vm_legal.specs.Living.{lives_on}
use Rattle.vm_legal.specs.Outside.{Outside}
use Rattle.vm_legal.specs.Stretches.{EachIn}
use Rattle.vm_legal.specs.Used.{in_use, is_kept, made_here}
use Rattle.vm_abroad.specs.Sound.{IsAbroad, holds}
use Rattle.vm_abroad.proofs.Sounds.{both_left, unlike}
use Rattle.vm_abroad.proofs.Tasks.{lives_abroad}

-- the region is in use on the host, or isn't made yet
abbrev pub IsOurs : Header → ℕ → ℕ → List Event → Type 0
IsOurs header h r past = (in_use header h r past ≡ true) ⊎ (next_region header past ≤ r)

-- who doesn't live on the host holds none of these
abbrev pub ApartElsewhere : Header → ℕ → List Event → Type 0
ApartElsewhere header h past = (task r : ℕ) → lives_on h task past ≡ false → IsOurs header h r past → holds header.size task r past ≡ false

-- a task neither has an entry on the region nor fills it
record HoldsNone (size task r : ℕ) (past : List Event) : Type 0 where
  entries : has_entry r (entries_of size task past) ≡ false
  filled : fills r (waiting task past) (copy_target task past) ≡ false

neither : (a b : Bool) → a ≡ false → b ≡ false → (a || b) ≡ false
neither a b one two = rw (one, two) refl

left_false : (a b : Bool) → (a || b) ≡ false → a ≡ false
left_false true b is = is
left_false false b is = refl

right_false : (a b : Bool) → (a || b) ≡ false → b ≡ false
right_false true b is = absurd (let bad : true ≡ false = is in cc)
right_false false b is = is

-- the entries of a list are on other regions

abbrev AllOther : ℕ → List Entry → Type 0
AllOther r rows = AllRows (λ row. (row.region.0 == r) ≡ false) rows

all_other : (r : ℕ) (rows : List Entry) → has_entry r rows ≡ false → AllOther r rows
all_other r [] none = tt
all_other r (row ∷ rows) none =
    (left_false (row.region.0 == r) (has_entry r rows) none, all_other r rows (right_false (row.region.0 == r) (has_entry r rows) none))

none_of_all : (r : ℕ) (rows : List Entry) → AllOther r rows → has_entry r rows ≡ false
none_of_all r [] all = refl
none_of_all r (row ∷ rows) all = neither (row.region.0 == r) (has_entry r rows) all.0 (none_of_all r rows all.1)

none_entered : (r : ℕ) (new : Entry) (rows : List Entry) → (new.region.0 == r) ≡ false → has_entry r rows ≡ false → has_entry r (entered new rows) ≡ false
none_entered r new rows other none = none_of_all r (entered new rows) (rows_entered (λ row. (row.region.0 == r) ≡ false) new rows other (all_other r rows none))

none_removed : (r size address bytes : ℕ) (rows : List Entry) → has_entry r rows ≡ false → has_entry r (removed size address bytes rows) ≡ false
none_removed r size address bytes rows none =
    none_of_all r (removed size address bytes rows)
    (rows_rewritten size (λ row. (row.region.0 == r) ≡ false) (λ row. []) (λ row start end is low less high. is) (λ row is. tt) address bytes rows
    (all_other r rows none))

none_protected : (r size address bytes : ℕ) (prot : Prot) (rows : List Entry) → has_entry r rows ≡ false
    → has_entry r (protected size address bytes prot rows) ≡ false
none_protected r size address bytes prot rows none =
    none_of_all r (protected size address bytes prot rows)
    (rows_rewritten size (λ row. (row.region.0 == r) ≡ false) (λ row. record row { prot = prot } ∷ []) (λ row start end is low less high. is)
    (λ row is. (is, tt)) address bytes rows (all_other r rows none))

none_inherited : (r size address bytes : ℕ) (inherit : Inherit) (rows : List Entry) → has_entry r rows ≡ false
    → has_entry r (inherited size address bytes inherit rows) ≡ false
none_inherited r size address bytes inherit rows none =
    none_of_all r (inherited size address bytes inherit rows)
    (rows_rewritten size (λ row. (row.region.0 == r) ≡ false) (λ row. record row { inherit = inherit } ∷ []) (λ row start end is low less high. is)
    (λ row is. (is, tt)) address bytes rows (all_other r rows none))

-- what one task has changed, or not

entries_if : (b : Bool) (r : ℕ) (new rows : List Entry) → has_entry r new ≡ false → has_entry r rows ≡ false → has_entry r (if b then new else rows) ≡ false
entries_if true r new rows one two = one
entries_if false r new rows one two = two

filled_if : (b : Bool) (r : ℕ) (new was : Option Access) (target : Option Target) → fills r new target ≡ false → fills r was target ≡ false
    → fills r (if b then new else was) target ≡ false
filled_if true r new was target one two = one
filled_if false r new was target one two = two

filled_begun : (b : Bool) (r address bytes to : ℕ) (was : Option Access) (target : Option Target) → fills r was target ≡ false
    → fills r (if b then Some (Copying address bytes to) else was) (if b then None else target) ≡ false
filled_begun true r address bytes to was target is = refl
filled_begun false r address bytes to was target is = is

pub filled_other : (r : ℕ) (x : Option Access) (target : Option Target) → is_target r target ≡ false → fills r x target ≡ false
filled_other r None target other = refl
filled_other r (Some (Copying address bytes to)) target other = other
filled_other r (Some (Loading address bytes)) target other = refl
filled_other r (Some (Storing address bytes value)) target other = refl

-- a region of the host behind an event was so in front of it

ours_kept : (header : Header) (h r : ℕ) (kept : Bool) (past : List Event) → ((kept && in_use header h r past) ≡ true) ⊎ (next_region header past ≤ r)
    → IsOurs header h r past
ours_kept header h r true past ours = ours
ours_kept header h r false past (inl used) = absurd (let bad : false ≡ true = used in cc)
ours_kept header h r false past (inr high) = inr high

ours_made : (header : Header) (h r n : ℕ) (b here : Bool) (past : List Event) → (r == n) ≡ b → n ≡ next_region header past
    → ((if b then here else in_use header h r past) ≡ true) ⊎ (next_region header past + 1 ≤ r) → IsOurs header h r past
ours_made header h r n true here past is number ours = let it : r ≡ n = grind (arith, nat_tests) in inr (omega (arith, it, number))
ours_made header h r n false here past is number (inl used) = inl used
ours_made header h r n false here past is number (inr high) = inr (omega (arith, high))

was_ours : (header : Header) (outside : Outside) (h r : ℕ) (e : Event) (past : List Event) → HasCause header outside e past → IsOurs header h r (e ∷ past)
    → IsOurs header h r past
was_ours header outside h r (event.RegionMade new object pages) past cause ours =
    ours_made header h r new.0 (r == new.0) (made_here h past) past refl cause.1.0 ours
was_ours header outside h r (event.RegionCopied new source offset pages) past cause ours =
    ours_made header h r new.0 (r == new.0) (in_use header h source.0 past) past refl cause.1.next ours
was_ours header outside h r (event.Delayed new source offset pages copy) past cause ours =
    ours_made header h r new.0 (r == new.0) (in_use header h source.0 past) past refl cause.1.next ours
was_ours header outside h r (event.Entered task address bytes region offset prot inherit) past cause ours =
    ours_kept header h r (not (r == region.0) || lives_on h task.0 past) past ours
was_ours header outside h r (event.Removed task address bytes) past cause ours =
    ours_kept header h r (is_kept header r (event.Removed task address bytes ∷ past)) past ours
was_ours header outside h r (event.TaskEnded task) past cause ours = ours_kept header h r (is_kept header r (event.TaskEnded task ∷ past)) past ours
was_ours header outside h r (event.Failed task object page) past cause ours =
    ours_kept header h r (is_kept header r (event.Failed task object page ∷ past)) past ours
was_ours header outside h r other past cause ours = ours

-- an entry elsewhere is on none of these
entry_apart : (header : Header) (h r region : ℕ) (here : Bool) (past : List Event) → here ≡ false → region < next_region header past
    → (((not (r == region) || here) && in_use header h r past) ≡ true) ⊎ (next_region header past ≤ r) → (region == r) ≡ false
entry_apart header h r region here past away made ours = unlike region r (λ same. either same ours)
  where
    test : region ≡ r → (not (r == region) || here) ≡ false
    test same = elim (eqb_tells r region) [ inl is ↦ rw (is.0, away) refl | inr apart ↦ absurd (apart.1 (sym same)) ]

    either : region ≡ r → (((not (r == region) || here) && in_use header h r past) ≡ true) ⊎ (next_region header past ≤ r) → ⊥
    either same (inl used) = let bad : true ≡ false = sym (both_left (not (r == region) || here) (in_use header h r past) used) ∙ test same in cc
    either same (inr high) = omega (arith, same, made, high)

-- a slow copy elsewhere fills none of these
target_apart : (header : Header) (h r task n : ℕ) (past : List Event) → begins_here h past ≡ false → begins_copy task past ≡ true → n ≡ next_region header past
    → ((if r == n then made_here h past else in_use header h r past) ≡ true) ⊎ (next_region header past + 1 ≤ r) → (n == r) ≡ false
target_apart header h r task n past away begins number ours = unlike n r (λ same. either same ours)
  where
    not_here : (past : List Event) → begins_here h past ≡ false → begins_copy task past ≡ true → made_here h past ≡ false
    not_here (event.BegunCopy owner address bytes to ∷ past) away begins = away
    not_here [] away begins = absurd (let bad : false ≡ true = begins in cc)
    not_here (e ∷ past) away begins = absurd (let bad : false ≡ true = begins in cc)

    either : n ≡ r → ((if r == n then made_here h past else in_use header h r past) ≡ true) ⊎ (next_region header past + 1 ≤ r) → ⊥
    either same (inl used) = elim (eqb_tells r n) [
      | inl is ↦ let now : made_here h past ≡ true = rw is.0 at used in let bad : true ≡ false = sym now ∙ not_here past away begins in cc
      | inr apart ↦ apart.1 (sym same)
    ]
    either same (inr high) = omega (arith, same, number, high)

target_if : (r n object : ℕ) (b : Bool) (x : Option Access) (was : Option Target) → (b ≡ true → (n == r) ≡ false) → fills r x was ≡ false
    → fills r x (if b then Some (record { region = n; object = object }) else was) ≡ false
target_if r n object true x was other is = filled_other r x (Some (record { region = n; object = object })) (other refl)
target_if r n object false x was other is = is

-- what a task elsewhere holds behind an event elsewhere

holds_next : (header : Header) (outside : Outside) (h task r : ℕ) (e : Event) (past : List Event) → IsAbroad header outside h e past
    → IsOurs header h r (e ∷ past) → HoldsNone header.size task r past → HoldsNone header.size task r (e ∷ past)
holds_next header outside h task r (event.TaskMade made host) past abroad ours was =
    record {
      entries = entries_if (made.0 == task) r [] (entries_of header.size task past) refl was.entries;
      filled = filled_if (made.0 == task) r None (waiting task past) (copy_target task past) refl was.filled;
    }
holds_next header outside h task r (event.TaskEnded gone) past abroad ours was =
    record {
      entries = entries_if (gone.0 == task) r [] (entries_of header.size task past) refl was.entries;
      filled = filled_if (gone.0 == task) r None (waiting task past) (copy_target task past) refl was.filled;
    }
holds_next header outside h task r (event.Entered owner address bytes region offset prot inherit) past abroad ours was =
    let rows = entries_of header.size task past in
    let row : Entry = record { address = address; bytes = bytes; region = region; offset = offset; prot = prot; inherit = inherit } in
    let other = entry_apart header h r region.0 (lives_on h owner.0 past) past abroad.foreign abroad.cause.1.made ours in
    record { entries = entries_if (owner.0 == task) r (entered row rows) rows (none_entered r row rows other was.entries) was.entries; filled = was.filled }
holds_next header outside h task r (event.Removed owner address bytes) past abroad ours was =
    let rows = entries_of header.size task past in
    record {
      entries = entries_if (owner.0 == task) r (removed header.size address bytes rows) rows (none_removed r header.size address bytes rows was.entries)
          was.entries;
      filled = was.filled;
    }
holds_next header outside h task r (event.Protected owner address bytes prot) past abroad ours was =
    let rows = entries_of header.size task past in
    record {
      entries = entries_if (owner.0 == task) r (protected header.size address bytes prot rows) rows
          (none_protected r header.size address bytes prot rows was.entries) was.entries;
      filled = was.filled;
    }
holds_next header outside h task r (event.Inherited owner address bytes inherit) past abroad ours was =
    let rows = entries_of header.size task past in
    record {
      entries = entries_if (owner.0 == task) r (inherited header.size address bytes inherit rows) rows
          (none_inherited r header.size address bytes inherit rows was.entries) was.entries;
      filled = was.filled;
    }
holds_next header outside h task r (event.BegunLoad owner address bytes) past abroad ours was =
    record {
      entries = was.entries;
      filled = filled_if (owner.0 == task) r (Some (Loading address bytes)) (waiting task past) (copy_target task past) refl
          was.filled;
    }
holds_next header outside h task r (event.BegunStore owner address bytes value) past abroad ours was =
    record {
      entries = was.entries;
      filled = filled_if (owner.0 == task) r (Some (Storing address bytes value)) (waiting task past) (copy_target task past) refl
          was.filled;
    }
holds_next header outside h task r (event.BegunCopy owner address bytes to) past abroad ours was =
    record { entries = was.entries; filled = filled_begun (owner.0 == task) r address bytes to (waiting task past) (copy_target task past) was.filled }
holds_next header outside h task r (event.RegionMade new object pages) past abroad ours was =
    record {
      entries = was.entries;
      filled =
          target_if r new.0 object.0 (begins_copy task past) (waiting task past) (copy_target task past)
          (λ begins. target_apart header h r task new.0 past abroad.foreign begins abroad.cause.1.0 ours)
          was.filled;
    }
holds_next header outside h task r (event.Loaded owner object page value) past abroad ours was =
    record { entries = was.entries; filled = filled_if (owner.0 == task) r None (waiting task past) (copy_target task past) refl was.filled }
holds_next header outside h task r (event.Stored owner object page at bytes value) past abroad ours was =
    record { entries = was.entries; filled = filled_if (owner.0 == task) r None (waiting task past) (copy_target task past) refl was.filled }
holds_next header outside h task r (event.CopyEnded owner) past abroad ours was =
    record { entries = was.entries; filled = filled_if (owner.0 == task) r None (waiting task past) (copy_target task past) refl was.filled }
holds_next header outside h task r (event.Failed owner object page) past abroad ours was =
    record { entries = was.entries; filled = filled_if (owner.0 == task) r None (waiting task past) (copy_target task past) refl was.filled }
holds_next header outside h task r other past abroad ours was = record { entries = was.entries; filled = was.filled }

apart_next : (header : Header) (outside : Outside) (h : ℕ) (e : Event) (past : List Event) → IsAbroad header outside h e past → ApartElsewhere header h past
    → ApartElsewhere header h (e ∷ past)
apart_next header outside h e past abroad apart task r away ours =
    let old = apart task r (sym (lives_abroad header h e past abroad.foreign task) ∙ away) (was_ours header outside h r e past abroad.cause ours) in
    let entries = has_entry r (entries_of header.size task past) in
    let filled = fills r (waiting task past) (copy_target task past) in
    let new = holds_next header outside h task r e past abroad ours (record {
      entries = left_false entries filled old;
      filled = right_false entries filled old;
    }) in
    neither (has_entry r (entries_of header.size task (e ∷ past))) (fills r (waiting task (e ∷ past)) (copy_target task (e ∷ past))) new.entries new.filled

pub apart_abroad : (header : Header) (outside : Outside) (h : ℕ) (events past : List Event) → EachIn (IsAbroad header outside h) events past
    → ApartElsewhere header h past → ApartElsewhere header h (events ++ past)
apart_abroad header outside h [] past abroad apart = apart
apart_abroad header outside h (e ∷ events) past abroad apart =
    apart_next header outside h e (events ++ past) abroad.0 (apart_abroad header outside h events past abroad.1 apart)
