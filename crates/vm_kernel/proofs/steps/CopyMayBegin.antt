-- A slow copy that isn't refused may begin: the pages of its range lie in one entry, and their place is free.
use Rattle.vm_kernel.proofs.Common.{Bool, Entry, Event, Header, Ids, InOrder, IsAllowed, List, Mapped, None, Parts, Some, Starts, TaskId, [], ap, arith}
use Rattle.vm_kernel.proofs.Common.{entries_in, entries_of, entry, entry_at, false, if◌then◌else◌, is_range, is_some, marked_regions, named, nat_le}
use Rattle.vm_kernel.proofs.Common.{nat_lt, nat_tests, next_object, next_region, refl, region_of, rows_in, some_is, subst, suc, sym, true, waiting, zero, ℕ}
use Rattle.vm_kernel.proofs.Common.{◌%◌, ◌&&◌, ◌*◌, ◌+◌, ◌/◌, ◌<◌, ◌^◌, ◌∙◌, ◌∷◌, ◌≡◌, ◌≤◌}
use Rattle.std.proofs.Math.Nat.{mul-lt-mul_of_pos_right}
use Rattle.std.proofs.lemmas.Bool.{not-false, or_parts}
use Rattle.std.specs.Prelude.{not, ◌||◌}
use Rattle.vm_kernel.proofs.space.PagedRegions.{paged_among}
use Rattle.vm_kernel.specs.Refusing.{is_paged as is_paged_among}
use Rattle.vm_legal.specs.Licences.{is_paged}
use Rattle.vm_model.specs.declared.script.Declared.{Declared}
use Rattle.vm_base.specs.Limits.{most_objects, most_pages, most_regions}
use Rattle.vm_base.specs.Pages.{page_positive}
use Rattle.vm_base.specs.declared.ids.Access.TheVariants as need
use Rattle.vm_maps.proofs.Multiples.{pages_of}
use Rattle.vm_kernel.proofs.space.RegionCopied.{no_row}
use Rattle.vm_kernel.proofs.space.RangeCopied.{cost_by, is_full_copy, may_place}
use Rattle.vm_kernel.proofs.abroad.OwnHost.{rows_here}
use Rattle.vm_legal.proofs.Heads.{to_itself}
use Rattle.vm_legal.specs.Outside.{is_file, is_wild}
use Rattle.vm_model.specs.declared.command.Command.TheVariants as command
use Rattle.vm_state.proofs.Marks.{regions_marked}
use Rattle.vm_state.specs.Filling.{IsCopied, IsFreeFor}

-- An address behind another in its entry is in the same entry.

found_high : (from to address : ℕ) (rows : List Entry) (row : Entry) → InOrder from to rows → entry_at address rows ≡ Some row → from ≤ address
found_high from to address [] row order found = absurd (let bad : None ≡ Some row = found in cc)
found_high from to address (own ∷ rows) row order found =
    by (nat_le own.address address) refl (λ rest. found_high (own.address + own.bytes) to address rows row order.1.1 rest)
  where
    by : (b : Bool) → nat_le own.address address ≡ b → (entry_at address rows ≡ Some row → own.address + own.bytes ≤ address) → from ≤ address
    by true is more = let low = order.0 in let test : own.address ≤ address = grind (arith, nat_tests) in omega (arith, low, test)
    by false is more =
        let high = more (sym (ap (λ b. if b && nat_lt address (own.address + own.bytes) then Some own else entry_at address rows) is) ∙ found) in
        let low = order.0 in
        omega (arith, low, high)

found_behind : (from to address later : ℕ) (rows : List Entry) (row : Entry) → InOrder from to rows → entry_at address rows ≡ Some row → address ≤ later
    → later < row.address + row.bytes → entry_at later rows ≡ Some row
found_behind from to address later [] row order found le less = absurd (let bad : None ≡ Some row = found in cc)
found_behind from to address later (own ∷ rows) row order found le less =
    by (nat_le own.address address && nat_lt address (own.address + own.bytes)) refl found
    (λ now. found_behind (own.address + own.bytes) to address later rows row order.1.1 now le less)
  where
    by : (b : Bool) → (nat_le own.address address && nat_lt address (own.address + own.bytes)) ≡ b → (if b then Some own else entry_at address rows) ≡ Some row
        → (entry_at address rows ≡ Some row → entry_at later rows ≡ Some row)
        → (if nat_le own.address later && nat_lt later (own.address + own.bytes) then Some own else entry_at later rows) ≡ Some row
    by true is now more =
        let same : own ≡ row = some_is own row now in
        let end : later < own.address + own.bytes = subst (λ (z : Entry). later < z.address + z.bytes) (sym same) less in
        let here : (nat_le own.address later && nat_lt later (own.address + own.bytes)) ≡ true = grind (arith, nat_tests) in
        ap (λ b. if b then Some own else entry_at later rows) here ∙ now
    by false is now more =
        let high = found_high (own.address + own.bytes) to address rows row order.1.1 now in
        let test : (nat_le own.address later && nat_lt later (own.address + own.bytes)) ≡ false = grind (arith, nat_tests) in
        ap (λ b. if b then Some own else entry_at later rows) test ∙ more now

-- what a slow copy that isn't refused has
pub record MayBegin (header : Header) (task address bytes to : ℕ) (past : List Event) (k : Parts) (ids : Ids) : Type 0 where
  pub row : Entry
  pub lives : entries_in task k.maps ≡ Some (rows_in task k.maps)
  pub found : entry_at address (rows_in task k.maps) ≡ Some row
  pub allowed : IsAllowed k.maps task address need.Load
  pub slow : is_paged header row.region.0 ≡ false
  pub declared : row.region.0 < named header
  pub copied : IsCopied header k.maps task address (bytes / header.size)
  pub even : address % header.size ≡ 0
  pub whole : bytes / header.size * header.size ≡ bytes
  pub some : 0 < bytes / header.size
  pub short : bytes / header.size ≤ most_pages
  pub below : address + bytes ≤ 2 ^ 32
  pub place : IsFreeFor k.maps task to (bytes / header.size)
  pub idle : waiting task past ≡ None
  pub absent : entry k.waits.rows task ≡ None
  pub regions : ids.next_region < most_regions
  pub marks : ids.next_object + ids.marks < most_objects

some_pages : (pages size bytes : ℕ) → pages * size ≡ bytes → 0 < bytes → 0 < pages
some_pages zero size bytes is some = absurd (omega (arith, is, some))
some_pages (suc n) size bytes is some = omega arith

-- the pages of the range lie in the one entry that its first page has
copied_range : (header : Header) (maps : Mapped) (task address bytes : ℕ) (row : Entry) → maps.size ≡ header.size → 0 < header.size
    → InOrder 0 (2 ^ 32) (rows_in task maps) → entry_at address (rows_in task maps) ≡ Some row → row.region.0 < named header
    → is_wild header row.region.0 ≡ false → bytes / header.size * header.size ≡ bytes → address + bytes ≤ row.address + row.bytes
    → IsCopied header maps task address (bytes / header.size)
copied_range header maps task address bytes row sized some order found declared supplied whole ends =
    record {
      entry = row;
      declared = declared;
      supplied = supplied;
      whole = λ p less. subst (λ (z : ℕ). entry_at (address + p * z) (rows_in task maps) ≡ Some row) (sym sized)
          (let below : p * header.size < bytes / header.size * header.size = mul-lt-mul_of_pos_right less some in
          found_behind 0 (2 ^ 32) address (address + p * header.size) (rows_in task maps) row order found (omega arith) (omega (arith, below, whole, ends)));
    }

-- a region whose copies aren't delayed is a declared object's, but no file's
pub slow_declared : (header : Header) (r : ℕ) → is_paged header r ≡ false → (nat_lt r (named header) ≡ true) × (is_file header r ≡ false)
slow_declared header r slow =
    let both = or_parts (not (nat_lt r (named header))) (is_file header r) slow in (not-false (nat_lt r (named header)) both.0, both.1)

pub may_begin : (header : Header) (h : ℕ) (task : TaskId) (address bytes to : ℕ) (past : List Event) (k : Parts) (ids : Ids) (before : List Event)
    → Starts header h (command.Copy task address bytes task to) past k ids before
    → ((row : Entry) → entry_at address (rows_in task.0 k.maps) ≡ Some row → is_paged_among k.declared.items row.region.0 ≡ false)
    → InOrder 0 (2 ^ 32) (rows_in task.0 k.maps) → MayBegin header task.0 address bytes to past k ids
may_begin header h task address bytes to past k ids before s is_slow order =
    let m = s.rests.matches in
    let size = header.size in
    let pages = bytes / size in
    let p = may_place header h task address bytes task to past k ids before s in
    let r = p.entry.region.0 in
    let slow : is_paged header r ≡ false =
    sym (ap (λ (z : List Declared). is_paged_among z r) m.core.setting.objects ∙ paged_among header r) ∙ is_slow p.entry p.found in
    let both = slow_declared header r slow in
    let test = both.0 in
    let declared : r < named header = grind (arith, nat_tests) in
    let there : entry_at address (entries_of size task.0 past) ≡ Some p.entry = ap (entry_at address) (rows_here m.core.spaces.tasks p.lives) ∙ p.found in
    let own = to_itself header past task address bytes task to p.entry s.accepted there in
    let from : is_range size address bytes ≡ true = p.from in
    let even_bytes : bytes % size ≡ 0 = grind (arith, nat_tests) in
    let some_bytes : 0 < bytes = grind (arith, nat_tests) in
    let whole = pages_of size bytes even_bytes in
    let few = p.few in
    let mark = (region_of header r past).mark in
    let cost : cost_by (is_file header r) (nat_lt r (named header) || mark) ≡ 1 = ap (λ b. cost_by b (nat_lt r (named header) || mark)) both.1
    ∙ ap (λ b. cost_by false (b || mark)) test in
    let full = sym (is_full_copy header r past mark refl
    ∙ ap (λ (z : ℕ). nat_le most_regions (next_region header past) || nat_lt most_objects (next_object header past + marked_regions header past + z)) cost)
    ∙ p.full in
    let counts = or_parts (nat_le most_regions (next_region header past)) (nat_lt most_objects (next_object header past + marked_regions header past + 1))
    full in
    let regions : nat_le most_regions (next_region header past) ≡ false = counts.0 in
    let objects : nat_lt most_objects (next_object header past + marked_regions header past + 1) ≡ false = counts.1 in
    let next = m.core.objects.regions.region in
    let number = m.core.objects.regions.object in
    let marked : ids.marks ≡ marked_regions header past = m.core.objects.regions.marks ∙ sym (regions_marked header past) in
    record {
      row = p.entry;
      lives = p.lives;
      found = p.found;
      allowed = p.allowed;
      slow = slow;
      declared = declared;
      copied =
          copied_range header k.maps task.0 address bytes p.entry m.core.spaces.tasks.sized (page_positive size m.core.setting.ranged.size) order p.found
          declared own.0 whole p.ends;
      even = grind (arith, nat_tests);
      whole = whole;
      some = some_pages pages size bytes whole some_bytes;
      short = p.short;
      below = grind (arith, nat_tests);
      place =
          record {
            range = rw (m.core.spaces.tasks.sized, whole) p.range;
            free = rw (m.core.spaces.tasks.sized, whole) p.free;
            room = grind (arith, nat_tests);
          };
      idle = p.idle;
      absent = no_row k.maps.size (entry k.waits.rows task.0) (waiting task.0 past) (s.rests.waits.is task.0 (ap is_some p.lives)) p.idle;
      regions = grind (arith, nat_tests);
      marks = grind (arith, nat_tests);
    }
