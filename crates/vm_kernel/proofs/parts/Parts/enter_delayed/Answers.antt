use Rattle.vm_kernel.proofs.Common.{MapChange, Mapped, ObjectId, ObjectRow, Parts, PutsRegion, RegionId, Some, WaitTable, ap, arith, entered, entering}
use Rattle.vm_kernel.proofs.Common.{entries_in, frame_count, got, length, refl, rows_in, subst, sym, ℕ, ◌/◌, ◌<◌, ◌^◌, ◌∙◌, ◌∷◌, ◌≡◌}
use Rattle.std.specs.Prelude.{IsSome, IsSomeAnd}
use Rattle.vm_kernel.proofs.space.CopyObjectMade.{stands_regions}
use Rattle.vm_kernel.proofs.space.RangeAllocated.{changes_entered}
use Rattle.vm_kernel.proofs.steps.EventsGrow.{on_ok}
use Rattle.vm_kernel.proofs.steps.PushersFreed.{freed_copies, freed_length}
use Rattle.vm_kernel.specs.Delaying.{CanDelayFile, MakesCopy, delayed, delayed_row}
use Rattle.vm_kernel.specs.Forking.{entry_on}
use Rattle.vm_kernel.specs.Freeing.{FreesPushers}
use Rattle.vm_kernel.specs.Rooms.{if_copies}
use Rattle.vm_maps.specs.Judge.{judged}
use Rattle.vm_maps.specs.Maps.{ChangesOnly, IsNewEntry}
use Rattle.vm_waits.specs.Waits.{count_copies}
use Rattle.vm_kernel.proofs.parts.Parts.enter_delayed.Goals as goal

-- where those who wait to push are freed first, the copy object is made as it would have been

can_freed : (file : ℕ) (row : ObjectRow) (k mid : Parts) (copy : ℕ) → mid ≡ record k { waits = mid.waits } → CanDelayFile file row k copy
    → CanDelayFile file row mid copy
can_freed file row k mid copy is can =
    subst (λ (z : Parts). CanDelayFile file row z copy) (sym is)
    (record {
      known = can.known;
      pages = can.pages;
      references = can.references;
      older = can.older;
      unknown = can.unknown;
      below = can.below;
      fits = can.fits;
      number = can.number;
    })

made_freed : (file copy : ObjectId) (row : ObjectRow) (k mid new : Parts) → mid ≡ record k { waits = mid.waits } → CanDelayFile file.0 row k copy.0
    → ((z : ObjectRow) → CanDelayFile file.0 z mid copy.0 → MakesCopy file copy z mid new) → MakesCopy file copy row (record k { waits = mid.waits }) new
made_freed file copy row k mid new is can makes =
    subst (λ (z : Parts). MakesCopy file copy row z new) is (makes row (can_freed file.0 row k mid copy.0 is can))

pub make_region-requires : goal.make_region-requires
make_region-requires c =
    let makes = made_freed _ _ c.requires.file c.args.self.now c.free_pushers.new.self c.make_copy_object.new.self c.free_pushers.ensures.is c.requires.delays
    c.in_ok-make_copy_object.ensures.makes in
    ap (λ f. f c.args.ids.now.next_region) (stands_regions makes.stands) ∙ c.requires.below c.args.ids.now.next_region (omega arith)

pub enter-requires-clause-there : goal.enter-requires-clause-there
enter-requires-clause-there c =
    let makes = made_freed _ _ c.requires.file c.args.self.now c.free_pushers.new.self c.make_copy_object.new.self c.free_pushers.ensures.is c.requires.delays
    c.in_ok-make_copy_object.ensures.makes in
    subst (λ (z : Mapped). IsSome (entries_in c.args.task.0 z)) (sym (ap (λ (z : Parts). z.maps) makes.same)) c.requires.lives

pub enter-requires-clause-judged : goal.enter-requires-clause-judged
enter-requires-clause-judged c =
    let makes = made_freed _ _ c.requires.file c.args.self.now c.free_pushers.new.self c.make_copy_object.new.self c.free_pushers.ensures.is c.requires.delays
    c.in_ok-make_copy_object.ensures.makes in
    let maps = c.make_copy_object.new.self.maps in
    ap (λ (z : MapChange). judged maps.size z (rows_in c.args.task.0 maps)) c.entering.ensures
    ∙ (ap (λ (z : Parts). judged z.maps.size (entering c.args.range) (rows_in c.args.task.0 z.maps)) makes.same ∙ c.requires.free)

pub enter-requires-clause-entry : goal.enter-requires-clause-entry
enter-requires-clause-entry c =
    let makes = made_freed _ _ c.requires.file c.args.self.now c.free_pushers.new.self c.make_copy_object.new.self c.free_pushers.ensures.is c.requires.delays
    c.in_ok-make_copy_object.ensures.makes in
    let sized : c.make_copy_object.new.self.maps.size ≡ c.args.self.now.size = ap (λ (z : Parts). z.maps.size) makes.same ∙ c.requires.sized in
    let few : c.args.range.bytes / c.make_copy_object.new.self.maps.size < 2 ^ 32 = subst (λ (z : ℕ). c.args.range.bytes / z < 2 ^ 32) (sym sized)
    c.requires.pages in
    subst (λ (z : MapChange). IsSomeAnd z.entry (IsNewEntry c.make_copy_object.new.self.maps.size z)) (sym c.entering.ensures)
    (record { address = refl; bytes = refl; pages = omega (arith, few) })

pub returns-clause-enters : goal.returns-clause-enters
returns-clause-enters c =
    let makes = made_freed _ _ c.requires.file c.args.self.now c.free_pushers.new.self c.make_copy_object.new.self c.free_pushers.ensures.is c.requires.delays
    c.in_ok-make_copy_object.ensures.makes in
    let region : RegionId = record { 0 = c.args.ids.now.next_region } in
    let copy : ObjectId = record { 0 = c.args.ids.now.next_object } in
    let row = c.args.range in
    let mid = c.make_copy_object.new.self in
    let pages = ap (λ (z : ℕ). row.bytes / z) (c.from.ensures ∙ c.bytes.ensures.value) in
    let maps = changes_entered mid.maps c.enter.new.self c.args.task.0 c.entering.result (entry_on row region) c.entering.ensures
    c.in_ok-enter.ensures.changes in
    on_ok c.push-2.result _ _
    (λ told. record {
      host = ap (λ (z : Parts). z.host) makes.same;
      size = ap (λ (z : Parts). z.size) makes.same;
      declared = ap (λ (z : Parts). z.declared) makes.same;
      laundry = ap (λ (z : Parts). z.laundry) makes.same;
      waits = subst (λ (z : WaitTable). FreesPushers c.args.source.0 c.args.self.now.copies c.args.self.now.waits z)
          (sym (ap (λ (z : Parts). z.waits) makes.same)) c.free_pushers.ensures.frees;
      region = region;
      number = refl;
      copy = copy;
      object = refl;
      file = c.requires.file;
      known = c.requires.delays.known;
      begins = makes.begins;
      mid = mid.chains;
      stands = makes.stands;
      made = subst (λ (z : ℕ). PutsRegion c.args.ids.now.next_region (Some (delayed_row copy c.args.offset z)) mid.chains c.make_region.new.self) pages
          c.in_ok-make_region.ensures.ok;
      memory = ap (λ (z : Parts). z.memory) makes.same;
      absent = makes.absent;
      maps = subst (λ (z : Mapped). ChangesOnly z c.enter.new.self c.args.task.0 (Some (entered (entry_on row region) (rows_in c.args.task.0 z))))
          (ap (λ (z : Parts). z.maps) makes.same) maps;
      ids = refl;
      told = told
          ∙ (ap (λ z. z ∷ c.push.new.self.items) c.entered.ensures
          ∙ ap (λ z. got c.args.task (entry_on row region) ∷ z)
          (c.in_ok-push.ensures.ok ∙ ap (λ (z : ℕ). delayed region c.args.source c.args.offset z copy ∷ c.args.log.now.items) pages));
    })
    c.push-2.ensures.ok

pub returns-clause-spends : goal.returns-clause-spends
returns-clause-spends c =
    let same = (made_freed _ _ c.requires.file c.args.self.now c.free_pushers.new.self c.make_copy_object.new.self c.free_pushers.ensures.is c.requires.delays
    c.in_ok-make_copy_object.ensures.makes).same in
    let freed = c.free_pushers.ensures.frees in
    let waits = ap (λ (z : Parts). length z.waits.rows) same
    ∙ freed_length c.args.source.0 c.args.self.now.copies c.args.self.now.waits c.free_pushers.new.self.waits freed in
    let frames = ap (λ (z : Parts). if_copies (count_copies z.waits.rows) (frame_count z.memory.frames)) same
    ∙ ap (λ (n : ℕ). if_copies n (frame_count c.args.self.now.memory.frames))
    (freed_copies c.args.source.0 c.args.self.now.copies c.args.self.now.waits c.free_pushers.new.self.waits freed) in
    let before = c.free_pushers.ensures.is in
    let room = ap (λ (z : Parts). z.copies.room) before in
    let objects = ap (λ (z : Parts). z.memory.objects.rows) before in
    let shadows = ap (λ (z : Parts). z.chains.spare) before in
    let rows = ap (λ (z : Parts). z.memory.resident.spare) same in
    let made = c.in_ok-make_copy_object.ensures.marked ∙ ap (λ (z : Parts). z.chains.marked) before in
    let marked = c.in_ok-make_region.ensures.marked in
    let first = ap length c.in_ok-push.ensures.ok in
    on_ok c.push-2.result _ _
    (λ told. let second = ap length told in record {
      told = omega (arith, first, second, waits, frames, made, marked);
      room = omega (arith, c.push.ensures.room, c.push-2.ensures.room, waits, frames, made, marked);
      rows = omega (arith, rows, waits, frames, made, marked);
      shadows = omega (arith, c.make_copy_object.ensures.shadows, c.make_region.ensures.spare, shadows, made, marked);
      objects = omega (arith, c.make_copy_object.ensures.rows, objects, made, marked);
      copies = omega (arith, c.in_ok-make_copy_object.ensures.room, room);
    })
    c.push-2.ensures.ok

pub returns-clause-spare : goal.returns-clause-spare
returns-clause-spare c =
    let same = (made_freed _ _ c.requires.file c.args.self.now c.free_pushers.new.self c.make_copy_object.new.self c.free_pushers.ensures.is c.requires.delays
    c.in_ok-make_copy_object.ensures.makes).same in
    on_ok c.push-2.result _ _ (λ told. record { buffers = ap (λ (z : Parts). z.memory.buffers) same }) c.push-2.ensures.ok
