use Rattle.vm_kernel.proofs.Common.{OnOk, ap, arith, entering, false, got, length, sym, true, ◌∙◌, ◌∷◌, ◌≡◌}
use Rattle.vm_kernel.proofs.steps.EventsGrow.{on_ok}
use Rattle.vm_kernel.proofs.room.MappingSpends.{held_opens, held_same, opens_if, opens_little}
use Rattle.vm_kernel.proofs.controls.DeclaredMapped.{MapsTo, enters_judged, enters_there, few_lead, few_refer, holds_is, known_held, maps_to, plays_map}
use Rattle.vm_kernel.proofs.controls.DeclaredMapped.{quiet_map, ran_map}
use Rattle.vm_kernel.proofs.space.RangeAllocated.{changes_entered}
use Rattle.vm_kernel.proofs.room.CallsSpend.{never_err}
use Rattle.vm_kernel.specs.Mapping.{shared_entry}
use Rattle.vm_kernel.proofs.parts.Parts.map.Given.{Over}
use Rattle.vm_kernel.proofs.parts.Parts.map.Goals as goal

pub hold-requires-clause-few : goal.hold-requires-clause-few
hold-requires-clause-few g c = few_lead g.given.header g.given.host g.given.past c.args.self.now c.args.ids.now c.args.object.0 c.requires.rests

pub hold-requires-clause-referred : goal.hold-requires-clause-referred
hold-requires-clause-referred g c =
    few_refer g.given.header g.given.host g.given.past c.args.self.now c.args.ids.now c.args.object.0 c.requires.rests c.requires.range.1

pub enter-requires-clause-there : goal.enter-requires-clause-there
enter-requires-clause-there g c =
    enters_there g.given.header g.given.host c.args.task c.args.address c.args.bytes c.args.object c.args.offset g.given.past c.args.self.now c.hold.new.self
    c.args.ids.now c.args.log.now.items c.requires c.in_ok-hold.ensures.holds

pub enter-requires-clause-judged : goal.enter-requires-clause-judged
enter-requires-clause-judged g c =
    enters_judged g.given.header g.given.host c.args.task c.args.address c.args.bytes c.args.object c.args.offset g.given.past c.args.self.now c.hold.new.self
    c.args.ids.now c.args.log.now.items c.shared_entry-entry.result c.entering.result c.requires
    c.in_ok-hold.ensures.holds c.shared_entry-entry.ensures c.entering.ensures

pub open-requires : goal.open-requires
open-requires g c =
    record {
      known = known_held g.given.header g.given.host c.args.task c.args.address c.args.bytes c.args.object c.args.offset g.given.past c.args.self.now
          c.hold.new.self c.args.ids.now c.args.log.now.items c.requires c.in_ok-hold.ensures.holds;
    }

-- what the mapping has done
maps : (g : Over) (c : goal.After-open g)
    → OnOk c.open.result (MapsTo g.given.header g.given.host c.args.task (shared_entry c.args.address c.args.bytes c.args.object c.args.offset) c.args.object
    g.given.past c.args.self.now c.open.new.self c.args.log.now.items c.open.new.log.items)
maps g c =
    let entry = c.shared_entry-entry.ensures in
    let changes = changes_entered c.hold.new.self.maps c.enter.new.self c.args.task.0 c.entering.result _ (c.entering.ensures ∙ ap entering entry)
    c.in_ok-enter.ensures.changes in
    on_ok c.open.result _ _
    (maps_to g.given.header g.given.host c.args.task c.args.address c.args.bytes c.args.object c.args.offset g.given.past c.args.self.now c.hold.new.self
    c.open.new.self c.args.ids.now c.args.log.now.items _ c.open.new.log.items c.enter.new.self c.requires
    c.in_ok-hold.ensures.holds changes (c.in_ok-push.ensures.ok ∙ ap (λ z. z ∷ c.args.log.now.items) (c.entered.ensures ∙ ap (got c.args.task) entry)))
    c.open.ensures.opens

pub returns-clause-ran : goal.returns-clause-ran
returns-clause-ran g c =
    on_ok c.open.result _ _
    (ran_map g.given.header g.given.host g.given.outside c.args.task c.args.address c.args.bytes c.args.object c.args.offset g.given.past c.args.self.now
    c.open.new.self c.args.ids.now c.args.log.now.items c.open.new.log.items c.requires) (maps g c)

pub returns-clause-plays : goal.returns-clause-plays
returns-clause-plays g c = on_ok c.open.result _ _ (λ does. plays_map does) (maps g c)

pub returns-clause-quiet : goal.returns-clause-quiet
returns-clause-quiet g c = on_ok c.open.result _ _ (λ does. quiet_map does) (maps g c)

pub returns-then-not-can_open-clause-succeeds : goal.returns-then-not-can_open-clause-succeeds
returns-then-not-can_open-clause-succeeds g c =
    λ roomy few. absurd (let can = opens_if _ few in let bad : false ≡ true = sym c.if-not-can_open.true ∙ (c.can_open.ensures ∙ can) in cc)

pub returns-clause-spends : goal.returns-clause-spends
returns-clause-spends g c =
    let held = held_same (holds_is g.given.header g.given.host c.args.task c.args.address c.args.bytes c.args.object c.args.offset g.given.past c.args.self.now
    c.hold.new.self c.args.ids.now c.args.log.now.items c.requires c.in_ok-hold.ensures.holds).1 in
    let first = ap length c.in_ok-push.ensures.ok in
    let there = known_held g.given.header g.given.host c.args.task c.args.address c.args.bytes c.args.object c.args.offset g.given.past c.args.self.now
    c.hold.new.self c.args.ids.now c.args.log.now.items c.requires c.in_ok-hold.ensures.holds in
    on_ok c.open.result _ _
    (λ opens. let little = opens_little c.args.object _ _ c.open.new.self c.push.new.self.items c.open.new.log.items there opens in record {
      told = omega (arith, first, held.waits, held.frames, little.held.waits, little.held.frames, little.told, c.hold.ensures.marked, little.marked);
      room =
          omega (
            arith,
            c.push.ensures.room,
            c.open.ensures.room,
            held.waits,
            held.frames,
            little.held.waits,
            little.held.frames,
            c.hold.ensures.marked,
            little.marked,
          );
      rows = omega (arith, held.waits, held.frames, held.rows, little.held.waits, little.held.frames, little.held.rows, c.hold.ensures.marked, little.marked);
      shadows = omega (arith, c.hold.ensures.shadows, little.shadows, c.hold.ensures.marked, little.marked);
      objects = omega (arith, c.hold.ensures.objects, c.open.ensures.objects, c.hold.ensures.marked, little.marked);
      copies = omega (arith, held.copies, little.held.copies);
    })
    c.open.ensures.opens

pub returns-in_err-hold-clause-succeeds : goal.returns-in_err-hold-clause-succeeds
returns-in_err-hold-clause-succeeds g c =
    λ roomy few. absurd (let bad : false ≡ true = c.in_err-hold.ensures.succeeds (omega (arith, roomy.objects)) (omega (arith, roomy.shadows)) in cc)

pub returns-in_err-hold-clause-err : goal.returns-in_err-hold-clause-err
returns-in_err-hold-clause-err g c =
    λ roomy. absurd (let bad : false ≡ true = c.in_err-hold.ensures.succeeds (omega (arith, roomy.objects)) (omega (arith, roomy.shadows)) in cc)

pub returns-in_err-push-clause-succeeds : goal.returns-in_err-push-clause-succeeds
returns-in_err-push-clause-succeeds g c = λ roomy few. absurd (let bad : false ≡ true = c.in_err-push.ensures.succeeds (omega (arith, roomy.log)) in cc)

pub returns-in_err-push-clause-err : goal.returns-in_err-push-clause-err
returns-in_err-push-clause-err g c = λ roomy. absurd (let bad : false ≡ true = c.in_err-push.ensures.succeeds (omega (arith, roomy.log)) in cc)

pub returns-clause-succeeds : goal.returns-clause-succeeds
returns-clause-succeeds g c = λ roomy few.
    c.open.ensures.can (held_opens (holds_is g.given.header g.given.host c.args.task c.args.address c.args.bytes c.args.object c.args.offset g.given.past
    c.args.self.now c.hold.new.self c.args.ids.now c.args.log.now.items c.requires c.in_ok-hold.ensures.holds).1
    (sym c.can_open.ensures ∙ c.if-not-can_open.false)) (omega (arith, roomy.log, c.push.ensures.room))

pub returns-clause-err : goal.returns-clause-err
returns-clause-err g c = λ roomy.
    never_err c.open.result _ (c.open.ensures.can (held_opens (holds_is g.given.header g.given.host c.args.task c.args.address c.args.bytes c.args.object
    c.args.offset g.given.past c.args.self.now c.hold.new.self c.args.ids.now c.args.log.now.items c.requires c.in_ok-hold.ensures.holds).1
    (sym c.can_open.ensures ∙ c.if-not-can_open.false)) (omega (arith, roomy.log, c.push.ensures.room)))

pub returns-clause-spare : goal.returns-clause-spare
returns-clause-spare g c =
    let held = held_same (holds_is g.given.header g.given.host c.args.task c.args.address c.args.bytes c.args.object c.args.offset g.given.past c.args.self.now
    c.hold.new.self c.args.ids.now c.args.log.now.items c.requires c.in_ok-hold.ensures.holds).1 in
    let there = known_held g.given.header g.given.host c.args.task c.args.address c.args.bytes c.args.object c.args.offset g.given.past c.args.self.now
    c.hold.new.self c.args.ids.now c.args.log.now.items c.requires c.in_ok-hold.ensures.holds in
    on_ok c.open.result _ _
    (λ opens. let little = opens_little c.args.object _ _ c.open.new.self c.push.new.self.items c.open.new.log.items there opens in record {
      buffers = little.held.buffers ∙ held.buffers;
    })
    c.open.ensures.opens
