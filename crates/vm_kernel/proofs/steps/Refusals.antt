-- The refusals of a kernel are those of its history.
use Rattle.vm_kernel.proofs.Common.{AllRows, Bool, Code, Command, Declared, Entry, Event, HasTasks, Header, HostId, Ids, InRange, Inherit, IsAccessSize}
use Rattle.vm_kernel.proofs.Common.{IsForHere, IsInside, IsSome, List, Mapped, None, ObjectId, Option, Parts, Region, Rests, Some, TaskId, [], acting}
use Rattle.vm_kernel.proofs.Common.{acting_in, acts_on, ap, arith, code_of, code_where, copies_from, entries_in, false, frames_free, frames_wired}
use Rattle.vm_kernel.proofs.Common.{has_copy_mark, has_region, host_of, is_copied, is_marked, is_on, is_range, is_some, kernel_runs, length, lives_on}
use Rattle.vm_kernel.proofs.Common.{marked_regions, meets_uncopied, named, new_marks, next_object, object_total, refl, refusal, reverse, rows_in, rows_map}
use Rattle.vm_kernel.proofs.Common.{slice_get, subst, sym, takes_name, true, ℕ, ◌&&◌, ◌+◌, ◌<◌, ◌==◌, ◌||◌, ◌∙◌, ◌∷◌, ◌≡◌}
use Rattle.std.proofs.Common.{nat_lt, if◌then◌else◌, not}
use Rattle.vm_base.specs.declared.code.Code.TheVariants as code
use Rattle.vm_model.specs.declared.command.Command.TheVariants as command
use Rattle.vm_legal.specs.Refusal as refusing
use Rattle.vm_legal.specs.Refusal.{is_elsewhere}
use Rattle.vm_model.specs.Named.{declared_pages, pages_kept}
use Rattle.vm_kernel.specs.Begun.{targets_here}
use Rattle.vm_kernel.proofs.space.PagedRegions.{meets_among}
use Rattle.vm_kernel.specs.Refusing.{maps_elsewhere, pages_declared, takes_no_mark}
use Rattle.vm_kernel.proofs.steps.CopyRefused.{copy_refused, declared_are, waits_are}
use Rattle.vm_kernel.proofs.steps.EventsGrow.{free_is}
use Rattle.vm_kernel.proofs.abroad.OwnHost.{host_same, lives_in, on_is, rows_here}
use Rattle.vm_kernel.proofs.space.RegionRows.{region_row}
use Rattle.vm_state.proofs.Marks.{regions_marked}

-- a task that lives here has its entries in the maps
has_entries : {h size : ℕ} {maps : Mapped} {host_at : ℕ → Option ℕ} {rows_at : ℕ → List Entry} (task : ℕ) → HasTasks h size maps host_at rows_at
    → is_on h (host_at task) ≡ true → IsSome (entries_in task maps)
has_entries task has home = subst (λ (z : Option (List Entry)). IsSome z) (sym (lives_in task has home)) refl

-- and they are the history's
entries_same : {h size : ℕ} {maps : Mapped} {host_at : ℕ → Option ℕ} {rows_at : ℕ → List Entry} (task : ℕ) → HasTasks h size maps host_at rows_at
    → is_on h (host_at task) ≡ true → rows_at task ≡ rows_in task maps
entries_same task has home = rows_here has (lives_in task has home)

-- what the tests of a command take for granted

some_size : (n : ℕ) → IsAccessSize n → 0 < n
some_size n is = grind arith

pub for_here : (header : Header) (h : ℕ) (k : Parts) (ids : Ids) (past : List Event) (doing : Command) → Rests header h k ids past → acts_on h doing past ≡ true
    → targets_here h doing past ≡ true → InRange header doing → IsForHere k.maps (length k.declared.items) doing
for_here header h k ids past (command.Fork task child) rests acts both range = has_entries task.0 rests.matches.core.spaces.tasks acts
for_here header h k ids past (command.Allocate task address bytes) rests acts both range = has_entries task.0 rests.matches.core.spaces.tasks acts
for_here header h k ids past (command.Map task address bytes object offset) rests acts both range =
    (has_entries task.0 rests.matches.core.spaces.tasks acts, subst (λ (z : ℕ). object.0 < z) (sym (declared_are rests)) range.1)
for_here header h k ids past (command.Deallocate task address bytes) rests acts both range = has_entries task.0 rests.matches.core.spaces.tasks acts
for_here header h k ids past (command.Protect task address bytes prot) rests acts both range = has_entries task.0 rests.matches.core.spaces.tasks acts
for_here header h k ids past (command.Inherit task address bytes inherit) rests acts both range = has_entries task.0 rests.matches.core.spaces.tasks acts
for_here header h k ids past (command.Load task address size) rests acts both range =
    (has_entries task.0 rests.matches.core.spaces.tasks acts, some_size size range.size)
for_here header h k ids past (command.Store task address size value) rests acts both range =
    (has_entries task.0 rests.matches.core.spaces.tasks acts, some_size size range.0.size)
for_here header h k ids past (command.Copy task address bytes target to) rests acts both range =
    (has_entries task.0 rests.matches.core.spaces.tasks acts, has_entries target.0 rests.matches.core.spaces.tasks both)
for_here header h k ids past other rests acts both range = tt

-- whether a task that lives here can act

acting_is : (header : Header) (h : ℕ) (k : Parts) (ids : Ids) (past : List Event) (task : ℕ) (later mine : Option Code) → Rests header h k ids past
    → lives_on h task past ≡ true → later ≡ mine → acting past task later ≡ acting_in k task mine
acting_is header h k ids past task later mine rests acts same = rw (on_is h (host_of task past) acts, waits_are header h k ids past task rests acts, same) refl

-- the objects that there are, with those that marked regions may still get
objects_are : (header : Header) (h : ℕ) (k : Parts) (ids : Ids) (past : List Event) → Rests header h k ids past
    → next_object header past + marked_regions header past ≡ object_total ids
objects_are header h k ids past rests =
    let regions = rests.matches.core.objects.regions in
    omega (arith, regions.object, regions.marks, regions_marked header past)

-- why a range is not allocated

allocate_code : (header : Header) (h : ℕ) (k : Parts) (ids : Ids) (past : List Event) (elsewhere : Bool) (task : TaskId) (address bytes : ℕ)
    → Rests header h k ids past → lives_on h task.0 past ≡ true
    → refusal header past (command.Allocate task address bytes) ≡ code_of k ids elsewhere (command.Allocate task address bytes)
allocate_code header h k ids past elsewhere task address bytes rests acts =
    let m = rests.matches in
    acting_is header h k ids past task.0 _ _ rests acts
    (rw (m.core.setting.sized, entries_same task.0 m.core.spaces.tasks acts, objects_are header h k ids past rests, ← m.core.objects.regions.region) refl)

-- why a declared object is not mapped

map_refused : (header : Header) (h : ℕ) (k : Parts) (ids : Ids) (past : List Event) (elsewhere : Bool) (task : TaskId) (address bytes : ℕ) (object : ObjectId)
    (offset : ℕ) → Rests header h k ids past → lives_on h task.0 past ≡ true
    → elsewhere ≡ is_elsewhere header object.0 (Some h) past
    → refusal header past (command.Map task address bytes object offset) ≡ code_of k ids elsewhere (command.Map task address bytes object offset)
map_refused header h k ids past elsewhere task address bytes object offset rests acts away =
    let m = rests.matches in
    let pages : declared_pages header object.0 ≡ pages_declared k object.0 = ap (λ (z : List Declared). pages_kept (slice_get (reverse z) object.0))
    (sym m.core.setting.objects) in
    acting_is header h k ids past task.0 _ _ rests acts
    (rw (m.core.setting.sized, entries_same task.0 m.core.spaces.tasks acts, on_is h (host_of task.0 past) acts, pages, away) refl)

-- why an inheritance is refused

-- a list of tests with two in one, the later first
code_swap : (a b : Bool) (why : Code) (later : Option Code) → code_where (a || b) why later ≡ code_where b why (code_where a why later)
code_swap true true why later = refl
code_swap true false why later = refl
code_swap false b why later = refl

inherit_code : (header : Header) (h : ℕ) (k : Parts) (ids : Ids) (past : List Event) (elsewhere : Bool) (task : TaskId) (address bytes : ℕ) (inherit : Inherit)
    → Rests header h k ids past → lives_on h task.0 past ≡ true
    → refusal header past (command.Inherit task address bytes inherit) ≡ code_of k ids elsewhere (command.Inherit task address bytes inherit)
inherit_code header h k ids past elsewhere task address bytes inherit rests acts =
    let m = rests.matches in
    let rows = rows_in task.0 k.maps in
    acting_is header h k ids past task.0 _ _ rests acts
    (rw (
      entries_same task.0 m.core.spaces.tasks acts,
      m.core.spaces.tasks.sized,
      m.core.setting.objects,
      meets_among header address bytes rows,
    ) (code_swap (not (is_range header.size address bytes)) (is_copied inherit && meets_uncopied header address bytes rows)
    code.InvalidArgument _))

-- why a fork is refused

-- a fork marks as many regions where those of its entries have the same marks
marks_same : (one two : ℕ → Bool) (rows : List Entry) → AllRows (λ row. one row.region.0 ≡ two row.region.0) rows → new_marks one rows ≡ new_marks two rows
marks_same one two [] all = refl
marks_same one two (row ∷ rows) all =
    ap (λ b. if is_copied row.inherit && (not (copies_from row.region.0 rows) && not b) then new_marks one rows + 1 else new_marks one rows) all.0
    ∙ ap (λ n. if is_copied row.inherit && (not (copies_from row.region.0 rows) && not (two row.region.0)) then n + 1 else n) (marks_same one two rows all.1)

-- the history gives marks to the regions to which the kernel does
mark_is : (header : Header) (h : ℕ) (k : Parts) (ids : Ids) (past : List Event) (r : ℕ) → Rests header h k ids past → has_region k.chains r ≡ true
    → refusing.takes_no_mark header past r ≡ takes_no_mark (length k.declared.items) k.chains r
mark_is header h k ids past r rests there =
    let row = region_row k.chains r there in
    let mark : has_copy_mark header past r ≡ row.0.marked = ap (λ (z : Region). z.mark) (rests.matches.core.objects.regions.rows r row.0 row.1) in
    ap (λ b. nat_lt r (named header) || b) (mark ∙ sym (rw row.1 refl))
    ∙ ap (λ (z : ℕ). nat_lt r z || is_marked k.chains r) (sym (declared_are rests))

marks_are : (header : Header) (h : ℕ) (k : Parts) (ids : Ids) (past : List Event) (task : ℕ) → Rests header h k ids past
    → new_marks (refusing.takes_no_mark header past) (rows_in task k.maps) ≡ new_marks (takes_no_mark (length k.declared.items) k.chains) (rows_in task k.maps)
marks_are header h k ids past task rests =
    marks_same (refusing.takes_no_mark header past) (takes_no_mark (length k.declared.items) k.chains) (rows_in task k.maps)
    (rows_map (IsInside header.size k.chains)
    (λ row. refusing.takes_no_mark header past row.region.0 ≡ takes_no_mark (length k.declared.items) k.chains row.region.0)
    (λ row inside. mark_is header h k ids past row.region.0 rests inside.region) (rows_in task k.maps) (rests.matches.core.spaces.entries.inside task))

fork_code : (header : Header) (h : ℕ) (k : Parts) (ids : Ids) (past : List Event) (elsewhere : Bool) (task child : TaskId) → Rests header h k ids past
    → lives_on h task.0 past ≡ true → is_some (host_of child.0 past) ≡ false
    → refusal header past (command.Fork task child) ≡ code_of k ids elsewhere (command.Fork task child)
fork_code header h k ids past elsewhere task child rests acts unnamed =
    let m = rests.matches in
    rw (
      on_is h (host_of task.0 past) acts,
      unnamed,
      waits_are header h k ids past task.0 rests acts,
      entries_same task.0 m.core.spaces.tasks acts,
      objects_are header h k ids past rests,
      ← m.core.objects.regions.region,
      marks_are header h k ids past task.0 rests,
      declared_are rests,
    ) refl

-- why frames are not wired, or not unwired

wire_code : (header : Header) (h : ℕ) (k : Parts) (ids : Ids) (past : List Event) (elsewhere : Bool) (host : HostId) (count : ℕ) → Rests header h k ids past
    → (host.0 == h) ≡ true
    → refusal header past (command.Wire host count) ≡ code_of k ids elsewhere (command.Wire host count)
wire_code header h k ids past elsewhere host count rests acts =
    ap (λ (z : ℕ). code_where (nat_lt z count) code.ResourceShortage None)
    (ap (λ (z : HostId). frames_free header z.0 past) (host_same host h acts) ∙ free_is header h k.memory.frames past rests.matches.core.pages.counted)

unwire_code : (header : Header) (h : ℕ) (k : Parts) (ids : Ids) (past : List Event) (elsewhere : Bool) (host : HostId) (count : ℕ) → Rests header h k ids past
    → (host.0 == h) ≡ true
    → refusal header past (command.Unwire host count) ≡ code_of k ids elsewhere (command.Unwire host count)
unwire_code header h k ids past elsewhere host count rests acts =
    ap (λ (z : ℕ). code_where (nat_lt z count) code.InvalidArgument None) (ap (λ (z : HostId). frames_wired z.0 past) (host_same host h acts)
    ∙ rests.matches.core.pages.counted.wired)

-- the code of a command that acts on the host, and whose new names are free
pub refusal_is : (header : Header) (h : ℕ) (k : Parts) (ids : Ids) (past : List Event) (elsewhere : Bool) (doing : Command) → Rests header h k ids past
    → acts_on h doing past ≡ true → targets_here h doing past ≡ true → kernel_runs doing ≡ true → takes_name doing past ≡ false
    → elsewhere ≡ maps_elsewhere header h doing past
    → refusal header past doing ≡ code_of k ids elsewhere doing
refusal_is header h k ids past elsewhere (command.Task task host) rests acts both built unnamed away = rw unnamed refl
refusal_is header h k ids past elsewhere (command.Fork task child) rests acts both built unnamed away =
    fork_code header h k ids past elsewhere task child rests acts unnamed
refusal_is header h k ids past elsewhere (command.Exit task) rests acts both built unnamed away = acting_is header h k ids past task.0 None None rests acts refl
refusal_is header h k ids past elsewhere (command.Allocate task address bytes) rests acts both built unnamed away =
    allocate_code header h k ids past elsewhere task address bytes rests acts
refusal_is header h k ids past elsewhere (command.Map task address bytes object offset) rests acts both built unnamed away =
    map_refused header h k ids past elsewhere task address bytes object offset rests acts away
refusal_is header h k ids past elsewhere (command.Deallocate task address bytes) rests acts both built unnamed away =
    acting_is header h k ids past task.0 _ _ rests acts (rw (entries_same task.0 rests.matches.core.spaces.tasks acts, rests.matches.core.spaces.tasks.sized)
    refl)
refusal_is header h k ids past elsewhere (command.Protect task address bytes prot) rests acts both built unnamed away =
    acting_is header h k ids past task.0 _ _ rests acts (rw (entries_same task.0 rests.matches.core.spaces.tasks acts, rests.matches.core.spaces.tasks.sized)
    refl)
refusal_is header h k ids past elsewhere (command.Inherit task address bytes inherit) rests acts both built unnamed away =
    inherit_code header h k ids past elsewhere task address bytes inherit rests acts
refusal_is header h k ids past elsewhere (command.Load task address size) rests acts both built unnamed away =
    acting_is header h k ids past task.0 _ _ rests acts (rw (entries_same task.0 rests.matches.core.spaces.tasks acts) refl)
refusal_is header h k ids past elsewhere (command.Store task address size value) rests acts both built unnamed away =
    acting_is header h k ids past task.0 _ _ rests acts (rw (entries_same task.0 rests.matches.core.spaces.tasks acts) refl)
refusal_is header h k ids past elsewhere (command.Copy task address bytes target to) rests acts both built unnamed away =
    copy_refused header h k ids past elsewhere task address bytes target to rests acts both
refusal_is header h k ids past elsewhere (command.Pageout host count) rests acts both built unnamed away = refl
refusal_is header h k ids past elsewhere (command.Wire host count) rests acts both built unnamed away =
    wire_code header h k ids past elsewhere host count rests acts
refusal_is header h k ids past elsewhere (command.Unwire host count) rests acts both built unnamed away =
    unwire_code header h k ids past elsewhere host count rests acts
refusal_is header h k ids past elsewhere other rests acts both built unnamed away = absurd (let bad : false ≡ true = built in cc)

-- the parts have the size of a page that the maps have
pub maps_sized : {header : Header} {h : ℕ} {k : Parts} {ids : Ids} {past : List Event} → Rests header h k ids past → k.maps.size ≡ k.size
maps_sized rests = rests.matches.core.spaces.tasks.sized ∙ sym rests.matches.core.setting.sized
