use Rattle.vm_kernel.proofs.Common.{ap, entry, false, frame_count, HostParts, Ids, length, length-append, List, Parts, refl, true, Waiting, WaitTable, ◌*◌, ◌+◌}
use Rattle.vm_kernel.proofs.Common.{◌/◌, ◌∙◌, ◌≡◌, arith}
use Rattle.vm_kernel.proofs.steps.CopyBegins.{copy_absent, copy_quiet, has_begun}
use Rattle.vm_kernel.proofs.steps.HeadAlone.{begun_ran}
use Rattle.vm_kernel.proofs.steps.EventsGrow.{on_ok}
use Rattle.vm_kernel.proofs.lists.ListsAsTold.{lists_same, plays_both, plays_told}
use Rattle.vm_kernel.proofs.steps.QueueServed.{three_ok}
use Rattle.vm_kernel.proofs.steps.FramesInTurn.{restarts_behind}
use Rattle.vm_kernel.proofs.room.PartsOfStep.{any_ok, few_behind, room_behind, told_behind}
use Rattle.vm_kernel.proofs.room.RunPays.{copies_all}
use Rattle.vm_copies.specs.Copies.{CopyTable}
use Rattle.vm_kernel.specs.Rooms.{Spends}
use Rattle.vm_waits.specs.Waits.{count_copies}
use Rattle.vm_kernel.proofs.parts.Parts.begin_copy.Given as given
use Rattle.vm_kernel.proofs.parts.Parts.begin_copy.Goals as goal

pub overflow_add-ids : goal.overflow_add-ids
overflow_add-ids g c =
    let few = (copy_absent g.given.header g.given.host g.given.past c.requires.0 c.requires.1.0 c.requires.1.1.0 c.requires.1.1.1).1 in
    omega (arith, few)

pub begin-requires-clause-absent : goal.begin-requires-clause-absent
begin-requires-clause-absent g c =
    ap (λ (z : List Waiting). entry z c.args.task.0) (ap (λ z. z.rows) c.in_ok-make_range.ensures.made.waits ∙ c.reserve.ensures.rows)
    ∙ (copy_absent g.given.header g.given.host g.given.past c.requires.0 c.requires.1.0 c.requires.1.1.0 c.requires.1.1.1).0

pub restart-requires : goal.restart-requires
restart-requires g c =
    (has_begun g.given.header g.given.host g.given.outside g.given.past c.requires.1.0 c.requires.1.1.0 c.requires.1.1.1
    (record {
      is = c.requires.0;
      pages_are = ap (λ z. c.args.bytes / z) (c.from.ensures ∙ c.bytes.ensures.value);
      made = c.in_ok-make_range.ensures.made;
      rows = c.reserve.ensures.rows;
      told = c.in_ok-push.ensures.ok;
      region_told = c.in_ok-push-2.ensures.ok;
      puts = c.begin.ensures.entry;
      pushed = c.begin.ensures.rows;
    })).works

pub returns-clause-ran : goal.returns-clause-ran
returns-clause-ran g c =
    let begun =
    has_begun {waits = c.begin.new.self} g.given.header g.given.host g.given.outside g.given.past c.requires.1.0 c.requires.1.1.0 c.requires.1.1.1
    (record {
      is = c.requires.0;
      pages_are = ap (λ z. c.args.bytes / z) (c.from.ensures ∙ c.bytes.ensures.value);
      made = c.in_ok-make_range.ensures.made;
      rows = c.reserve.ensures.rows;
      told = c.in_ok-push.ensures.ok;
      region_told = c.in_ok-push-2.ensures.ok;
      puts = c.begin.ensures.entry;
      pushed = c.begin.ensures.rows;
    }) in
    three_ok c.restart.result _ _ _ _ (λ rests goes first. begun_ran begun rests goes) c.restart.ensures.rests c.restart.ensures.goes c.restart.ensures.first

pub returns-clause-plays : goal.returns-clause-plays
returns-clause-plays g c =
    let made = c.in_ok-make_range.ensures.made in
    on_ok c.restart.result _ _
    (λ more. plays_both (plays_told c.in_ok-push.ensures.ok refl)
    (plays_both (plays_told c.in_ok-push-2.ensures.ok (lists_same c.args.self.now c.make_range.new.self (ap (λ z. z.resident) made.memory)
    (ap (λ z. z.queues) made.memory))) more))
    c.restart.ensures.plays

pub returns-clause-restarts : goal.returns-clause-restarts
returns-clause-restarts g c =
    let queue = c.begin.ensures.queue ∙ (ap (λ z. z.queue) c.in_ok-make_range.ensures.made.waits ∙ c.reserve.ensures.queue) in
    let quiet = copy_quiet queue c.in_ok-push.ensures.ok c.in_ok-push-2.ensures.ok in
    on_ok c.restart.result _ _
    (restarts_behind g.given.header g.given.host c.restart.new.self.waits.rows g.given.past c.args.self.now.waits.queue c.begin.new.self.queue
    c.restart.new.self.waits.queue c.args.log.now.items c.push-2.new.self.items c.restart.new.log.items c.requires.1.0.nothing quiet)
    c.restart.ensures.restarts

-- the parts in front of the accesses that are run
abbrev mid : (g : given.Over) (c : goal.After-restart g) → Parts
mid g c = record c.make_range.new.self { waits = c.begin.new.self }

abbrev numbers : (g : given.Over) (c : goal.After-restart g) → Ids
numbers g c = record c.args.ids.now { next_region = c.args.ids.now.next_region + 1; next_object = c.args.ids.now.next_object + 1 }

more_rows : (g : given.Over) (c : goal.After-restart g) → length c.begin.new.self.rows ≡ length c.args.self.now.waits.rows + 1
more_rows g c =
    ap length c.begin.ensures.rows
    ∙ (length-append c.make_range.new.self.waits.rows _
    ∙ ap (λ z. length z + 1) (ap (λ (z : WaitTable). z.rows) c.in_ok-make_range.ensures.made.waits ∙ c.reserve.ensures.rows))

-- the beginning takes two events, and a region over an object
begun : (g : given.Over) (c : goal.After-restart g)
    → Spends (2 * frame_count c.args.self.now.memory.frames + 5) (2 * frame_count c.args.self.now.memory.frames + 5) 0 c.args.self.now c.args.log.now (mid g c)
    c.push-2.new.self
begun g c =
    let made = c.in_ok-make_range.ensures.made in
    let waits = more_rows g c in
    let frames = ap (λ (z : HostParts). frame_count z.frames) made.memory in
    let copied = copies_all (count_copies c.begin.new.self.rows) (frame_count c.make_range.new.self.memory.frames) in
    let marked = c.make_range.ensures.marked in
    let copies = ap (λ (z : CopyTable). z.room) made.copied in
    let rows = ap (λ (z : HostParts). z.resident.spare) made.memory in
    let first = ap length c.in_ok-push.ensures.ok in
    let second = ap length c.in_ok-push-2.ensures.ok in record {
      told = omega (arith, first, second, waits, frames, copied, marked);
      room = omega (arith, c.push.ensures.room, c.push-2.ensures.room, waits, frames, copied, marked);
      rows = omega (arith, rows, waits, frames, copied, marked);
      shadows = omega (arith, c.make_range.ensures.shadows, marked);
      objects = omega (arith, c.make_range.ensures.objects, marked);
      copies = omega (arith, copies);
    }

pub returns-clause-few : goal.returns-clause-few
returns-clause-few g c =
    let few = told_behind c.args.self.now (mid g c) c.args.log.now c.push-2.new.self _ _ (2 * frame_count c.args.self.now.memory.frames + 5) (omega arith)
    (begun g c) in
    on_ok c.restart.result _ _ (λ more. few_behind more few) c.restart.ensures.few

pub returns-clause-room : goal.returns-clause-room
returns-clause-room g c = λ more had access.
    let runs = c.restart.ensures.room more (room_behind c.args.self.now (mid g c) c.args.log.now c.push-2.new.self _ _ more (begun g c) had) in
    (any_ok c.restart.result _ runs.1, runs.0)

pub returns-in_err-reserve-clause-room : goal.returns-in_err-reserve-clause-room
returns-in_err-reserve-clause-room g c = λ more had access. absurd (let bad : false ≡ true = c.in_err-reserve.ensures.succeeds (omega (arith, access)) in cc)

pub returns-in_err-make_range-clause-room : goal.returns-in_err-make_range-clause-room
returns-in_err-make_range-clause-room g c =
    λ more had access. absurd (let bad : false ≡ true = c.in_err-make_range.ensures.succeeds (omega (arith, had.tables.objects))
    (omega (arith, had.tables.shadows)) in cc)

pub returns-in_err-push-clause-room : goal.returns-in_err-push-clause-room
returns-in_err-push-clause-room g c = λ more had access. absurd (let bad : false ≡ true = c.in_err-push.ensures.succeeds (omega (arith, had.log)) in cc)

pub returns-in_err-push-2-clause-room : goal.returns-in_err-push-2-clause-room
returns-in_err-push-2-clause-room g c =
    λ more had access. absurd (let bad : false ≡ true = c.in_err-push-2.ensures.succeeds (omega (arith, had.log, c.push.ensures.room)) in cc)

pub returns-clause-spare : goal.returns-clause-spare
returns-clause-spare g c =
    let made = ap (λ (z : HostParts). z.buffers.count) c.in_ok-make_range.ensures.made.memory in
    on_ok c.restart.result _ _ (λ keeps. let buffers = ap (λ z. z.count) keeps.buffers in omega (arith, made, buffers)) c.restart.ensures.spare
