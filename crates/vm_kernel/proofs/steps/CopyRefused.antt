-- The refusal of a copy is that of its history.
use Rattle.vm_kernel.proofs.Common.{Bool, Code, Entry, Event, Header, Ids, IsInside, List, None, Option, Parts, RegionRow, Rests, Some, TaskId}
use Rattle.vm_kernel.proofs.Common.{Waiting, ap, code_of, code_where, entries_of, entry, entry_at, false, found_row, has_region, host_of}
use Rattle.vm_kernel.proofs.Common.{is_marked, is_range, is_some, length, lives_on, marked_regions, named, nat_le, nat_lt, next_object}
use Rattle.vm_kernel.proofs.Common.{next_region}
use Rattle.vm_kernel.proofs.Common.{not, refl, refusal, region_at, region_of, rows_in, sym, true, waiting, waiting_in, ℕ, ◌&&◌, ◌+◌, ◌/◌}
use Rattle.vm_kernel.proofs.Common.{◌==◌, ◌||◌, ◌∙◌, ◌≡◌}
use Rattle.vm_base.specs.Limits.{most_objects, most_pages, most_regions}
use Rattle.vm_base.specs.declared.code.Code.TheVariants as code
use Rattle.vm_legal.specs.Refusal as refusing
use Rattle.vm_model.specs.declared.command.Command.TheVariants as command
use Rattle.vm_kernel.specs.Refusing.{copy_cost, is_copy_full, is_uncopied, source_code}
use Rattle.vm_kernel.proofs.space.PagedRegions.{file_among, uncopied_among}
use Rattle.vm_model.specs.declared.script.Declared.{Declared}
use Rattle.vm_kernel.proofs.space.RangeCopied.{cost_by, is_full_copy}
use Rattle.vm_kernel.proofs.abroad.OwnHost.{lives_in, on_is, own_host, rows_here}
use Rattle.vm_kernel.proofs.space.RegionRows.{region_row}
use Rattle.vm_state.proofs.Marks.{regions_marked}

-- lists of tests with two in one

code_both : (a b : Bool) (why : Code) (later : Option Code) → code_where (a || b) why later ≡ code_where a why (code_where b why later)
code_both true b why later = refl
code_both false b why later = refl

tests_are : (a b c : Bool) (why : Code) (later : Option Code)
    → code_where (a || (b || (false || c))) why later ≡ code_where (a || b) why (code_where c why later)
tests_are true b c why later = refl
tests_are false true c why later = refl
tests_are false false c why later = refl

-- the kernel marks the region as the history does
marked_is : (k : Parts) (r : ℕ) (row : RegionRow) → region_at k.chains r ≡ Some row → is_marked k.chains r ≡ row.marked
marked_is k r row there = rw there refl

-- as many objects are declared as the kernel has declarations
pub declared_are : {header : Header} {h : ℕ} {k : Parts} {ids : Ids} {past : List Event} → Rests header h k ids past → length k.declared.items ≡ named header
declared_are rests = ap length rests.matches.core.setting.objects

full_same : (header : Header) (h : ℕ) (k : Parts) (ids : Ids) (past : List Event) (r : ℕ) → Rests header h k ids past → has_region k.chains r ≡ true
    → refusing.is_copy_full header r past ≡ is_copy_full k.declared.items k.chains ids r
full_same header h k ids past r rests there =
    let m = rests.matches in
    let row = region_row k.chains r there in
    let mark : (region_of header r past).mark ≡ is_marked k.chains r = ap (λ z. z.mark) (m.core.objects.regions.rows r row.0 row.1)
    ∙ sym (marked_is k r row.0 row.1) in
    is_full_copy header r past (is_marked k.chains r) mark
    ∙ (ap (λ b. nat_le most_regions (next_region header past) || nat_lt most_objects
    (next_object header past + marked_regions header past + cost_by b (nat_lt r (named header) || is_marked k.chains r))) (sym (file_among header r))
    ∙ (ap (λ (z : ℕ). nat_le most_regions z || nat_lt most_objects (next_object header past + marked_regions header
    past + copy_cost header.objects.items k.chains r)) (sym m.core.objects.regions.region)
    ∙ (ap (λ (z : ℕ). nat_le most_regions ids.next_region || nat_lt most_objects (z + marked_regions header
    past + copy_cost header.objects.items k.chains r)) (sym m.core.objects.regions.object)
    ∙ (ap (λ (z : ℕ). nat_le most_regions ids.next_region || nat_lt most_objects (ids.next_object + z + copy_cost header.objects.items k.chains r))
    (regions_marked header past ∙ sym m.core.objects.regions.marks)
    ∙ ap (λ (z : List Declared). is_copy_full z k.chains ids r) (sym m.core.setting.objects)))))

uncopied_same : (header : Header) (h : ℕ) (k : Parts) (ids : Ids) (past : List Event) (own : Bool) (row : Entry) → Rests header h k ids past
    → refusing.is_uncopied header own (Some row) ≡ is_uncopied k.declared.items own row.region.0
uncopied_same header h k ids past own row rests =
    sym (ap (λ (z : List Declared). is_uncopied z own row.region.0) rests.matches.core.setting.objects ∙ uncopied_among header own row)

source_same : (header : Header) (h : ℕ) (k : Parts) (ids : Ids) (past : List Event) (task target address bytes to : ℕ) (own : Bool) (x : Option Entry)
    → Rests header h k ids past → entries_of header.size target past ≡ rows_in target k.maps → entry_at address (rows_in task k.maps) ≡ x
    → code_where (refusing.is_uncopied header own x) code.InvalidArgument (refusing.copy_refusal header address bytes target to past x) ≡ source_code k ids own
    (rows_in target k.maps) address bytes to x
source_same header h k ids past task target address bytes to own None rests same found = refl
source_same header h k ids past task target address bytes to own (Some row) rests same found =
    let is = found_row (IsInside header.size k.chains) address (rows_in task k.maps) row (rests.matches.core.spaces.entries.inside task) found in
    rw (uncopied_same header h k ids past own row rests, same, full_same header h k ids past row.region.0 rests is.is.region) refl

some_waits : (size : ℕ) (o : Option Waiting) → is_some (waiting_in size o) ≡ is_some o
some_waits size None = refl
some_waits size (Some w) = refl

pub waits_are : (header : Header) (h : ℕ) (k : Parts) (ids : Ids) (past : List Event) (task : ℕ) → Rests header h k ids past → lives_on h task past ≡ true
    → is_some (waiting task past) ≡ is_some (entry k.waits.rows task)
waits_are header h k ids past task rests acts =
    ap (λ z. is_some z) (rests.waits.is task (ap (λ z. is_some z) (lives_in task rests.matches.core.spaces.tasks acts)))
    ∙ some_waits k.maps.size (entry k.waits.rows task)

pub copy_refused : (header : Header) (h : ℕ) (k : Parts) (ids : Ids) (past : List Event) (elsewhere : Bool) (task : TaskId) (address bytes : ℕ)
    (target : TaskId) (to : ℕ) → Rests header h k ids past → lives_on h task.0 past ≡ true → lives_on h target.0 past ≡ true
    → refusal header past (command.Copy task address bytes target to) ≡ code_of k ids elsewhere (command.Copy task address bytes target to)
copy_refused header h k ids past elsewhere task address bytes target to rests acts there =
    let m = rests.matches in
    let size = header.size in
    let own : entries_of size task.0 past ≡ rows_in task.0 k.maps = rows_here m.core.spaces.tasks (lives_in task.0 m.core.spaces.tasks acts) in
    let rows : entries_of size target.0 past ≡ rows_in target.0 k.maps = rows_here m.core.spaces.tasks (lives_in target.0 m.core.spaces.tasks there) in
    let found = source_same header h k ids past task.0 target.0 address bytes to (task.0 == target.0) (entry_at address (rows_in task.0 k.maps)) rests rows
    refl in
    let ranges = not (is_range size address bytes && is_range size to bytes) in
    let large = nat_lt most_pages (bytes / size) in
    let mine = entry_at address (rows_in task.0 k.maps) in
    rw (
      on_is h (host_of task.0 past) acts,
      on_is h (host_of target.0 past) there,
      own_host h,
      waits_are header h k ids past task.0 rests acts,
      waits_are header h k ids past target.0 rests there,
      own,
      m.core.spaces.tasks.sized,
    )
    (code_both (is_some (entry k.waits.rows task.0)) (is_some (entry k.waits.rows target.0)) code.Blocked _
    ∙ ap (λ (z : Option Code). code_where (is_some (entry k.waits.rows task.0)) code.Blocked
    (code_where (is_some (entry k.waits.rows target.0)) code.Blocked z))
    (tests_are ranges large (refusing.is_uncopied header (task.0 == target.0) mine) code.InvalidArgument
    (refusing.copy_refusal header address bytes target.0 to past mine)
    ∙ ap (code_where (ranges || large) code.InvalidArgument) found))
