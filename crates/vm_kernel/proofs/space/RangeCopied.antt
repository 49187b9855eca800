-- The copy of a range that isn't refused has what an entry on a copy needs, and has run once that is made.
use Rattle.vm_kernel.proofs.Common.{Access, Bool, Entry, Event, Header, Ids, IsAllowed, IsInside, List, None, Option, Outside, Parts, Place, Ran, Rests, Some}
use Rattle.vm_kernel.proofs.Common.{Starts, TaskId, [], allows, ap, arith, code_where, entries_in, entries_of, entry, entry_at, false, found_row, got, head}
use Rattle.vm_kernel.proofs.Common.{host_of, if◌then◌else◌, is_none, is_on, is_range, is_some, length, marks_of, meets_range, most_entries, named, nat_le}
use Rattle.vm_kernel.proofs.Common.{nat_tests, next_object, next_region, page_at, pages_in, place_at, refl, region_of, region_pages, rows_in, subst, sym, true}
use Rattle.vm_kernel.proofs.Common.{waiting, whole_entry, ℕ, ◌%◌, ◌&&◌, ◌+◌, ◌-◌, ◌/◌, ◌<◌, ◌==◌, ◌^◌, ◌||◌, ◌∙◌, ◌∷◌, ◌≡◌, ◌≤◌}
use Rattle.vm_kernel.proofs.space.RegionsFilled.{entry_some}
use Rattle.vm_state.proofs.Places.{on_its_region}
use Rattle.std.proofs.Common.{nat_lt, not}
use Rattle.vm_base.specs.declared.ids.ObjectId.{ObjectId}
use Rattle.vm_base.specs.declared.code.Code.TheVariants as code
use Rattle.vm_base.specs.declared.ids.RegionId.{RegionId}
use Rattle.vm_base.specs.Limits.{most_objects, most_pages, most_regions}
use Rattle.vm_base.specs.declared.ids.Access.TheVariants as need
use Rattle.vm_model.specs.Rows.{div_grows, div_sum}
use Rattle.vm_model.specs.declared.command.Command.TheVariants as command
use Rattle.vm_model.specs.declared.event.Event.TheVariants as event
use Rattle.vm_state.proofs.Marks.{regions_marked}
use Rattle.vm_kernel.specs.Forking.{CanCopy, EntersCopy, entry_on}
use Rattle.vm_legal.specs.Follows.{copied_late, copy_head}
use Rattle.vm_legal.specs.Outside.{is_file, is_file_kept}
use Rattle.vm_legal.specs.Refusal as refusing
use Rattle.vm_model.specs.Named.{declared}
use Rattle.vm_legal.specs.Refusal.{is_uncopied}
use Rattle.vm_kernel.proofs.steps.HeadAlone.{grows_head, ran_head}
use Rattle.vm_kernel.proofs.steps.QueueServed.{works_at_rest}
use Rattle.vm_legal.proofs.Heads.{passed}
use Rattle.vm_kernel.proofs.abroad.OwnHost.{lives_here, lives_in, rows_here}
use Rattle.vm_kernel.proofs.space.RegionRows.{region_row}
use Rattle.std.proofs.lemmas.Bool.{and_parts, not-false, or_parts}
use Rattle.vm_model.specs.Regions.{marked_regions}
use Rattle.vm_kernel.proofs.space.RegionCopied.{IsFrom, MayCopy, can_copy, copied, file_of, heads_copied, rests_copied, told_copied}
use Rattle.vm_kernel.proofs.space.RegionDelayed.{MayDelay, can_delay, heads_delayed, told_delayed, works_delayed}
use Rattle.vm_kernel.proofs.space.PagedRegions.{paged_among}
use Rattle.vm_kernel.specs.Begun.{HasBegun}
use Rattle.vm_kernel.specs.Changes.{CanEnter}
use Rattle.vm_kernel.specs.Delaying.{CanDelay, EntersDelayed, delayed}
use Rattle.vm_kernel.specs.Refusing.{is_paged}
use Rattle.vm_model.specs.declared.script.Declared.{Declared}

-- what a copy of a region takes of the objects: of a file, and of one that gets no mark
abbrev pub cost_by : Bool → Bool → ℕ
cost_by file markless = if file then 2 else if markless then 1 else 2

pub is_full_copy : (header : Header) (source : ℕ) (past : List Event) (marked : Bool) → (region_of header source past).mark ≡ marked
    → refusing.is_copy_full header source past ≡ (nat_le most_regions (next_region header past) || nat_lt most_objects
    (next_object header past + marked_regions header past + cost_by (is_file header source) (nat_lt source (named header) || marked)))
is_full_copy header source past marked mark = by (is_file header source) refl (nat_lt source (named header)) refl marked mark
  where
    by : (a : Bool) → is_file header source ≡ a → (b : Bool) → nat_lt source (named header) ≡ b → (c : Bool) → (region_of header source past).mark ≡ c
        → refusing.is_copy_full header source past ≡ (nat_le most_regions (next_region header past) || nat_lt most_objects
        (next_object header past + marked_regions header past + cost_by a (b || c)))
    by true file b below c is = rw file refl
    by false file true below c is = rw (file, below) refl
    by false file false below true is = rw (file, below, is) refl
    by false file false below false is = rw (file, below, is) refl

-- the numbers of a range

pub range_of : (size address bytes : ℕ) → is_range size address bytes ≡ true → (bytes % size ≡ 0) × (0 < bytes)
range_of size address bytes is = (grind (arith, nat_tests), grind (arith, nat_tests))

-- an entry from which a range can be copied, to a task with these entries
record IsSource (header : Header) (address bytes to : ℕ) (rows : List Entry) (past : List Event) (x : Option Entry) : Type 0 where
  entry : Entry
  is : x ≡ Some entry
  ends : address + bytes ≤ entry.address + entry.bytes
  allowed : allows need.Load entry.prot ≡ true
  free : meets_range to bytes rows ≡ false
  few : nat_lt most_entries (length rows + 1) ≡ false
  full : refusing.is_copy_full header entry.region.0 past ≡ false

source_of : (header : Header) (address bytes target to : ℕ) (past : List Event) (x : Option Entry)
    → refusing.copy_refusal header address bytes target to past x ≡ None → IsSource header address bytes to (entries_of header.size target past) past x
source_of header address bytes target to past None fine = absurd (let bad : Some code.InvalidAddress ≡ None = fine in cc)
source_of header address bytes target to past (Some entry) fine =
    let rows = entries_of header.size target past in
    let last = code_where (nat_lt most_entries (length rows + 1) || refusing.is_copy_full header entry.region.0 past) code.TableFull None in
    let next = code_where (meets_range to bytes rows) code.NoSpace last in
    let more = code_where (not (allows need.Load entry.prot)) code.ProtectionFailure next in
    let one = passed (nat_lt (entry.address + entry.bytes) (address + bytes)) code.InvalidAddress more fine in
    let two = passed (not (allows need.Load entry.prot)) code.ProtectionFailure next one.1 in
    let three = passed (meets_range to bytes rows) code.NoSpace last two.1 in
    let four = passed (nat_lt most_entries (length rows + 1) || refusing.is_copy_full header entry.region.0 past) code.TableFull None three.1 in
    let both = or_parts (nat_lt most_entries (length rows + 1)) (refusing.is_copy_full header entry.region.0 past) four.0 in
    let behind = one.0 in
    record {
      entry = entry;
      is = refl;
      ends = grind (arith, nat_tests);
      allowed = not-false (allows need.Load entry.prot) two.0;
      free = three.0;
      few = both.0;
      full = both.1;
    }

-- what a copy that may be run has: a symmetric one is of a temporary region, and a delayed one of a file's
pub record MayPlace (header : Header) (task address bytes : ℕ) (target : ℕ) (to : ℕ) (past : List Event) (k : Parts) : Type 0 where
  pub entry : Entry
  pub lives : entries_in task k.maps ≡ Some (rows_in task k.maps)
  pub found : entry_at address (rows_in task k.maps) ≡ Some entry
  pub allowed : IsAllowed k.maps task address need.Load
  pub from : is_range header.size address bytes ≡ true
  pub range : is_range header.size to bytes ≡ true
  pub short : bytes / header.size ≤ most_pages
  pub ends : address + bytes ≤ entry.address + entry.bytes
  pub idle : waiting target past ≡ None
  pub free : meets_range to bytes (rows_in target k.maps) ≡ false
  pub few : nat_lt most_entries (length (rows_in target k.maps) + 1) ≡ false
  pub full : refusing.is_copy_full header entry.region.0 past ≡ false
  pub may : nat_lt entry.region.0 (named header) ≡ false
      → MayCopy header target entry.region (page_at k.maps.size address entry) (whole_entry to bytes entry.region) past k
  pub delays : is_file header entry.region.0 ≡ true
      → MayDelay header target entry.region (page_at k.maps.size address entry) (whole_entry to bytes entry.region) past k

pub may_place : (header : Header) (h : ℕ) (task : TaskId) (address bytes : ℕ) (target : TaskId) (to : ℕ) (past : List Event) (k : Parts) (ids : Ids)
    (events : List Event) → Starts header h (command.Copy task address bytes target to) past k ids events
    → MayPlace header task.0 address bytes target.0 to past k
may_place header h task address bytes target to past k ids events s =
    let m = s.rests.matches in
    let size = header.size in
    let own = entries_of size task.0 past in
    let rows = entries_of size target.0 past in
    let last = refusing.copy_refusal header address bytes target.0 to past (entry_at address own) in
    let numbers = not (is_range size address bytes && is_range size to bytes) || (nat_lt most_pages (bytes / size) ||
    (not (refusing.same_host (host_of task.0 past) (host_of target.0 past)) || is_uncopied header (task.0 == target.0) (entry_at address own))) in
    let next = code_where numbers code.InvalidArgument last in
    let waits = is_some (waiting task.0 past) || is_some (waiting target.0 past) in
    let one = passed (is_none (host_of task.0 past) || is_none (host_of target.0 past)) code.NoSuchName (code_where waits code.Blocked next) s.accepted in
    let two = passed waits code.Blocked next one.1 in
    let three = passed numbers code.InvalidArgument last two.1 in
    let tests = or_parts (not (is_range size address bytes && is_range size to bytes))
    (nat_lt most_pages (bytes / size) || (not (refusing.same_host (host_of task.0 past) (host_of target.0 past)) || is_uncopied header (task.0 == target.0)
    (entry_at address own))) three.0 in
    let ranges = and_parts (is_range size address bytes) (is_range size to bytes) (not-false (is_range size address bytes && is_range size to bytes) tests.0) in
    let sized = or_parts (nat_lt most_pages (bytes / size)) (not (refusing.same_host (host_of task.0 past) (host_of target.0 past)) || is_uncopied header
    (task.0 == target.0) (entry_at address own)) tests.1 in
    let hosts = or_parts (not (refusing.same_host (host_of task.0 past) (host_of target.0 past)))
    (is_uncopied header (task.0 == target.0) (entry_at address own)) sized.1 in
    let source = source_of header address bytes target.0 to past (entry_at address own) three.1 in
    let lives = lives_in task.0 m.core.spaces.tasks s.acts in
    let home : is_on h (host_of target.0 past) ≡ true = subst (λ (z : Option ℕ). refusing.same_host z (host_of target.0 past) ≡ true)
    (lives_here m.core.spaces.tasks lives)
    (not-false (refusing.same_host (host_of task.0 past) (host_of target.0 past)) hosts.0) in
    let there = lives_in target.0 m.core.spaces.tasks home in
    let entry = source.entry in
    let found : entry_at address (rows_in task.0 k.maps) ≡ Some entry = ap (entry_at address) (sym (rows_here m.core.spaces.tasks lives)) ∙ source.is in
    let is_inside = found_row (IsInside size k.chains) address (rows_in task.0 k.maps) entry (m.core.spaces.entries.inside task.0) found in
    let inside = is_inside.is.inside.whole in
    let region = region_row k.chains entry.region.0 is_inside.is.region in
    let pages : region_pages k.chains entry.region.0 ≡ region.0.pages = ap pages_in region.1 in
    let free : meets_range to bytes (rows_in target.0 k.maps) ≡ false = ap (meets_range to bytes) (sym (rows_here m.core.spaces.tasks there)) ∙ source.free in
    let few : nat_lt most_entries (length (rows_in target.0 k.maps) + 1) ≡ false = ap (λ (z : List Entry). nat_lt most_entries (length z + 1))
    (sym (rows_here m.core.spaces.tasks there)) ∙ source.few in
    let short : nat_lt most_pages (bytes / size) ≡ false = sized.0 in
    let some = range_of size to bytes ranges.1 in
    let sum = div_sum size (address - entry.address) bytes in
    let start = is_inside.from in
    let ends = source.ends in
    let grows = div_grows size (address - entry.address + bytes) entry.bytes (omega (arith, start, ends)) in
    let within : page_at size address entry + bytes / size ≤ entry.offset + entry.bytes / size = omega (arith, sum, grows) in
    let target_free : CanEnter target.0 (whole_entry to bytes entry.region) k = rw (m.core.spaces.tasks.sized, ranges.1, free, few) refl in
    let pages_few : bytes / size < 2 ^ 32 = let most : bytes / size ≤ most_pages = grind (arith, nat_tests) in omega (arith, most) in
    let counted : 0 < region.0.entries = entry_some size entry.region.0 task.0 k.maps k.chains [] region.0 m.core.spaces.entries region.1
    (on_its_region address (rows_in task.0 k.maps) entry found) in
    let within_region : page_at k.maps.size address entry + bytes / size ≤ region.0.pages =
    subst (λ (z : ℕ). page_at z address entry + bytes / size ≤ region.0.pages) (sym m.core.spaces.tasks.sized)
    (omega (arith, within, inside, pages)) in
    let from : IsFrom header entry.region.0 (page_at k.maps.size address entry) (bytes / size) past = record {
      task = task.0;
      address = address;
      at = record { host = h; entry = entry; lives = lives_here m.core.spaces.tasks lives; found = source.is };
      source_is = refl;
      inside = subst (λ (z : ℕ). page_at z address entry + bytes / size ≤ entry.offset + entry.bytes / size) (sym m.core.spaces.tasks.sized) within;
    } in
    record {
      entry = entry;
      lives = lives;
      found = found;
      allowed = record { entry = entry; lives = lives; found = found; allowed = source.allowed };
      from = ranges.0;
      range = ranges.1;
      short = grind (arith, nat_tests);
      ends = ends;
      idle = idle_both (waiting task.0 past) (waiting target.0 past) two.0;
      free = free;
      few = few;
      full = source.full;
      may = λ unnamed.
          let mark = (region_of header entry.region.0 past).mark in
          let room = few_by entry (ap (λ b. cost_by (b && is_file_kept (declared header entry.region.0)) (b || mark)) unnamed) source.full in
          record {
            lives = there;
            idle = idle_both (waiting task.0 past) (waiting target.0 past) two.0;
            free = target_free;
            pages = pages_few;
            region = region.0;
            there = region.1;
            counted = counted;
            temporary = grind (arith, nat_tests);
            inside = within_region;
            regions = room.0;
            objects = room.1;
            from = from;
          };
      delays = λ file.
          let low = nat_lt entry.region.0 (named header) || (region_of header entry.region.0 past).mark in
          let room = few_by entry (ap (λ b. cost_by b low) file) source.full in
          let objects = room.1 in
          record {
            lives = there;
            idle = idle_both (waiting task.0 past) (waiting target.0 past) two.0;
            free = target_free;
            pages = pages_few;
            region = region.0;
            there = region.1;
            counted = counted;
            file = file;
            inside = within_region;
            regions = room.0;
            objects = omega (arith, objects);
            from = from;
          };
    }
  where
    -- the copy takes so many objects, for which there is room
    few_by : {cost : ℕ} (entry : Entry)
        → cost_by (is_file header entry.region.0) (nat_lt entry.region.0 (named header) || (region_of header entry.region.0 past).mark) ≡ cost
        → refusing.is_copy_full header entry.region.0 past ≡ false
        → (next_region header past + 1 ≤ most_regions) × (next_object header past + (marks_of header past + cost) ≤ most_objects)
    few_by {cost} entry is fits =
        let full = sym (is_full_copy header entry.region.0 past (region_of header entry.region.0 past).mark refl
        ∙ ap (λ (z : ℕ). nat_le most_regions (next_region header past) || nat_lt most_objects (next_object header past + marked_regions header past + z)) is)
        ∙ fits in
        let counts = or_parts (nat_le most_regions (next_region header past)) (nat_lt most_objects
        (next_object header past + marked_regions header past + cost)) full in
        let regions = counts.0 in
        let objects = counts.1 in
        let same = regions_marked header past in
        (grind (arith, nat_tests), grind (arith, nat_tests))

    idle_both : (x y : Option Access) → (is_some x || is_some y) ≡ false → y ≡ None
    idle_both (Some x) y e = absurd (let bad : true ≡ false = e in cc)
    idle_both None None e = refl
    idle_both None (Some y) e = absurd (let bad : true ≡ false = e in cc)

-- the region that the code found is no declared object's
plain_source : {header : Header} {h : ℕ} {k : Parts} {ids : Ids} {past : List Event} (address : ℕ) (entry : Entry) (place : Place) → Rests header h k ids past
    → place ≡ place_at k.maps.size address entry → length k.declared.items ≤ place.region.0 → nat_lt entry.region.0 (named header) ≡ false
plain_source {header = header} {k = k} address entry place rests is least =
    let same : place.region.0 ≡ entry.region.0 = ap (λ z. z.region.0) is in
    let all : length k.declared.items ≡ named header = ap length rests.matches.core.setting.objects in
    let temporary : named header ≤ entry.region.0 = omega (arith, same, all, least) in
    grind (arith, nat_tests)

-- both are in place
pub can_place : (header : Header) (h : ℕ) (task : TaskId) (address bytes : ℕ) (target : TaskId) (to : ℕ) (past : List Event) (k : Parts) (ids : Ids)
    (events : List Event) (place : Place) (range : Entry) → Starts header h (command.Copy task address bytes target to) past k ids events
    → ((entry : Entry) → entry_at address (rows_in task.0 k.maps) ≡ Some entry → place ≡ place_at k.maps.size address entry)
    → length k.declared.items ≤ place.region.0 → range ≡ whole_entry to bytes place.region → CanCopy target.0 place.region place.page.0 range k ids
can_place header h task address bytes target to past k ids events place range s is least made =
    let p = may_place header h task address bytes target to past k ids events s in
    subst (λ (z : Entry). CanCopy target.0 place.region place.page.0 z k ids) (sym made)
    (subst (λ (z : Place). CanCopy target.0 z.region z.page.0 (whole_entry to bytes z.region) k ids) (sym (is p.entry p.found))
    (can_copy header h target.0 p.entry.region (page_at k.maps.size address p.entry) (whole_entry to bytes p.entry.region) past k ids (works_at_rest s.rests)
    (p.may (plain_source address p.entry place s.rests (is p.entry p.found) least))))

-- the two events with which a slow copy begins
abbrev pub begun_copy : TaskId → ℕ → ℕ → ℕ → RegionId → ObjectId → ℕ → List Event
begun_copy task address bytes to region object pages = event.BegunCopy task address bytes to ∷ event.RegionMade region object pages ∷ []

pub ran_copy : (header : Header) (h : ℕ) (outside : Outside) (task : TaskId) (address bytes : ℕ) (target : TaskId) (to : ℕ) (past : List Event) (k k2 : Parts)
    (ids ids2 : Ids) (before after : List Event) (place : Place) (range : Entry)
    → Starts header h (command.Copy task address bytes target to) past k ids before
    → ((entry : Entry) → entry_at address (rows_in task.0 k.maps) ≡ Some entry → place ≡ place_at k.maps.size address entry)
    → length k.declared.items ≤ place.region.0 → range ≡ whole_entry to bytes place.region
    → EntersCopy target place.region place.page.0 range k k2 ids ids2 before after
    → Ran header h outside (command.Copy task address bytes target to) past k2 ids2 after
ran_copy header h outside task address bytes target to past k k2 ids ids2 before after place range s is least made entered_copy =
    let m = s.rests.matches in
    let doing = command.Copy task address bytes target to in
    let p = may_place header h task address bytes target to past k ids before s in
    let unnamed = plain_source address p.entry place s.rests (is p.entry p.found) least in
    let may = p.may unnamed in
    let source = p.entry.region in
    let page = page_at k.maps.size address p.entry in
    let row = whole_entry to bytes source in
    let c : EntersCopy target source page row k k2 ids ids2 before after =
    subst (λ (z : Place). EntersCopy target z.region z.page.0 (whole_entry to bytes z.region) k k2 ids ids2 before after) (is p.entry p.found)
    (subst (λ (z : Entry). EntersCopy target place.region place.page.0 z k k2 ids ids2 before after) made entered_copy) in
    let number : c.copy.0 ≡ next_region header past = c.number ∙ m.core.objects.regions.region in
    let named_copy : c.copy ≡ record { 0 = next_region header past } = λ i. record { 0 = number i } in
    let events : List Event = got target (entry_on row c.copy) ∷ copied c.copy source page (bytes / header.size) ∷ [] in
    let first : List Event = copied c.copy source page (bytes / header.size) ∷ got target (entry_on row c.copy) ∷ [] in
    let told : after ≡ events = told_copied header h target source page row past k k2 ids ids2 before after (works_at_rest s.rests) c
    ∙ ap (λ z. got target (entry_on row c.copy) ∷ copied c.copy source page (bytes / header.size) ∷ z) s.nothing in
    let same : entry_at address (entries_of header.size task.0 past) ≡ Some p.entry = ap (entry_at address) (rows_here m.core.spaces.tasks p.lives) ∙ p.found in
    let written : head header past doing ≡ Some first =
    ap (copy_head header (next_region header past) (next_object header past) task address bytes target to) same
    ∙ (ap (λ b. Some (if b && not (b && is_file_kept (declared header source.0)) then begun_copy task address bytes to (record { 0 = next_region header past })
    (record { 0 = next_object header past }) (bytes / header.size) else copied_late (b && is_file_kept (declared header source.0)) (next_region header past)
    (next_object header past) source (page_at header.size address p.entry) (bytes / header.size) ∷ got target
    (entry_on row (record { 0 = next_region header past })) ∷ [])) unnamed
    ∙ (ap (λ (z : ℕ). Some (copied (record { 0 = next_region header past }) source (page_at z address p.entry) (bytes / header.size) ∷ got target
    (entry_on row (record { 0 = next_region header past })) ∷ [])) (sym m.core.spaces.tasks.sized)
    ∙ ap (λ (z : RegionId). Some (copied z source page (bytes / header.size) ∷ got target (entry_on row z) ∷ [])) (sym named_copy))) in
    subst (λ (z : List Event). Ran header h outside doing past k2 ids2 z) (sym told)
    (ran_head header h outside doing past k2 ids2 events first written refl
    (heads_copied header h outside doing target c.copy source page row past [] k ids (works_at_rest s.rests) may number
    (record { licensed = tt; own_bytes = tt; frames = tt; inner = tt; said = tt; mine = tt })) tt
    (rests_copied header h outside doing target source page row past k k2 ids ids2 before after s.rests may c))

-- the region that the code found is a file's
file_source : {header : Header} {h : ℕ} {k : Parts} {ids : Ids} {past : List Event} (address : ℕ) (entry : Entry) (place : Place) → Rests header h k ids past
    → place ≡ place_at k.maps.size address entry → is_paged k.declared.items place.region.0 ≡ true → place.region.0 < length k.declared.items
    → is_file header entry.region.0 ≡ true
file_source {header = header} {k = k} address entry place rests is paged less =
    let objects = rests.matches.core.setting.objects in
    let all : length k.declared.items ≡ named header = ap length objects in
    let same : place.region.0 ≡ entry.region.0 = ap (λ z. z.region.0) is in
    let late = sym (ap (λ (z : List Declared). is_paged z entry.region.0) objects ∙ paged_among header entry.region.0)
    ∙ (ap (is_paged k.declared.items) (sym same) ∙ paged) in
    file_of header entry.region.0 (omega (arith, same, all, less)) late

-- a delayed copy is in place
pub can_place_late : (header : Header) (h : ℕ) (task : TaskId) (address bytes : ℕ) (target : TaskId) (to : ℕ) (past : List Event) (k : Parts) (ids : Ids)
    (events : List Event) (place : Place) (range : Entry) → Starts header h (command.Copy task address bytes target to) past k ids events
    → ((entry : Entry) → entry_at address (rows_in task.0 k.maps) ≡ Some entry → place ≡ place_at k.maps.size address entry)
    → is_paged k.declared.items place.region.0 ≡ true → place.region.0 < length k.declared.items → range ≡ whole_entry to bytes place.region
    → CanDelay target.0 place.region range k ids
can_place_late header h task address bytes target to past k ids events place range s is paged less made =
    let p = may_place header h task address bytes target to past k ids events s in
    subst (λ (z : Entry). CanDelay target.0 place.region z k ids) (sym made)
    (subst (λ (z : Place). CanDelay target.0 z.region (whole_entry to bytes z.region) k ids) (sym (is p.entry p.found))
    (can_delay header h target.0 p.entry.region (page_at k.maps.size address p.entry) (whole_entry to bytes p.entry.region) past k ids
    (works_at_rest s.rests) (p.delays (file_source address p.entry place s.rests (is p.entry p.found) paged less))))

-- the head of a copy of a file's pages
late_head : (slow file : Bool) (begun : List Event) (next object : ℕ) (source : RegionId) (offset pages : ℕ) (own : Event) → file ≡ true
    → (if slow && not file then begun else copied_late file next object source offset pages ∷ own ∷ [])
    ≡ delayed (record { 0 = next }) source offset pages (record { 0 = object }) ∷ own ∷ []
late_head true true begun next object source offset pages own is = refl
late_head false true begun next object source offset pages own is = refl
late_head slow false begun next object source offset pages own is = absurd (let bad : false ≡ true = is in cc)

-- its head is told, and who waited to push a page of the file is to be run again
pub begun_late : (header : Header) (h : ℕ) (outside : Outside) (task : TaskId) (address bytes : ℕ) (target : TaskId) (to : ℕ) (past : List Event)
    (k k2 : Parts) (ids ids2 : Ids) (before after : List Event) (place : Place) (range : Entry)
    → Starts header h (command.Copy task address bytes target to) past k ids before
    → ((entry : Entry) → entry_at address (rows_in task.0 k.maps) ≡ Some entry → place ≡ place_at k.maps.size address entry)
    → is_paged k.declared.items place.region.0 ≡ true → place.region.0 < length k.declared.items → range ≡ whole_entry to bytes place.region
    → EntersDelayed target place.region place.page.0 range k k2 ids ids2 before after
    → HasBegun header h outside (command.Copy task address bytes target to) past k2 ids2 after
begun_late header h outside task address bytes target to past k k2 ids ids2 before after place range s is paged less made entered =
    let m = s.rests.matches in
    let works = works_at_rest s.rests in
    let doing = command.Copy task address bytes target to in
    let p = may_place header h task address bytes target to past k ids before s in
    let file = file_source address p.entry place s.rests (is p.entry p.found) paged less in
    let may = p.delays file in
    let source = p.entry.region in
    let page = page_at k.maps.size address p.entry in
    let pages = bytes / header.size in
    let row = whole_entry to bytes source in
    let c : EntersDelayed target source page row k k2 ids ids2 before after =
    subst (λ (z : Place). EntersDelayed target z.region z.page.0 (whole_entry to bytes z.region) k k2 ids ids2 before after) (is p.entry p.found)
    (subst (λ (z : Entry). EntersDelayed target place.region place.page.0 z k k2 ids ids2 before after) made entered) in
    let number : c.region.0 ≡ next_region header past = c.number ∙ m.core.objects.regions.region in
    let object : c.copy.0 ≡ next_object header past = c.object ∙ m.core.objects.regions.object in
    let named_region : c.region ≡ record { 0 = next_region header past } = λ i. record { 0 = number i } in
    let named_copy : c.copy ≡ record { 0 = next_object header past } = λ i. record { 0 = object i } in
    let events : List Event = got target (entry_on row c.region) ∷ delayed c.region source page pages c.copy ∷ [] in
    let first : List Event = delayed c.region source page pages c.copy ∷ got target (entry_on row c.region) ∷ [] in
    let told : after ≡ events = told_delayed header h target source page row past k k2 ids ids2 before after works c
    ∙ ap (λ z. got target (entry_on row c.region) ∷ delayed c.region source page pages c.copy ∷ z) s.nothing in
    let same : entry_at address (entries_of header.size task.0 past) ≡ Some p.entry = ap (entry_at address) (rows_here m.core.spaces.tasks p.lives) ∙ p.found in
    let slow = begun_copy task address bytes to (record { 0 = next_region header past }) (record { 0 = next_object header past }) pages in
    let written : head header past doing ≡ Some first =
    ap (copy_head header (next_region header past) (next_object header past) task address bytes target to) same
    ∙ (ap Some (late_head (nat_lt source.0 (named header)) (is_file header source.0) slow (next_region header past) (next_object header past) source
    (page_at header.size address p.entry) pages (got target (entry_on row (record { 0 = next_region header past }))) file)
    ∙ (ap (λ (z : ℕ). Some (delayed (record { 0 = next_region header past }) source (page_at z address p.entry) pages
    (record { 0 = next_object header past }) ∷ got target (entry_on row (record { 0 = next_region header past })) ∷ [])) (sym m.core.spaces.tasks.sized)
    ∙ (ap (λ (z : RegionId). Some (delayed z source page pages (record { 0 = next_object header past }) ∷ got target (entry_on row z) ∷ [])) (sym named_region)
    ∙ ap (λ (z : ObjectId). Some (delayed c.region source page pages z ∷ got target (entry_on row c.region) ∷ [])) (sym named_copy)))) in
    subst (λ (z : List Event). HasBegun header h outside doing past k2 ids2 z) (sym told)
    (record {
      works = works_delayed header h outside doing target source page row past k k2 ids ids2 before after works may c;
      grows = grows_head header h outside doing past events first written refl
          (heads_delayed header h outside doing target c.region source c.copy page row past [] k ids works may number object
          (record { licensed = tt; own_bytes = tt; frames = tt; inner = tt; said = tt; mine = tt }));
      done = λ all. tt;
    })
