use Rattle.vm_kernel.proofs.Common.{ap, sym, ◌∙◌}
use Rattle.vm_kernel.proofs.controls.ObjectEmptied.{empties, empty_spends, may_release, released_dead, released_flag, released_none}
use Rattle.vm_state.specs.References.{is_live_in}
use Rattle.vm_kernel.proofs.parts.Parts.empty.Goals as goal

pub unreachable-requires : goal.unreachable-requires
unreachable-requires g c =
    let e = empties g.given.outside g.given.command c.args.object c.args.control c.requires.0 c.requires.1.0 c.requires.1.1.0
    c.requires.1.1.1.0 c.requires.1.1.1.1 c.in_ok-destroy.ensures.destroys c.in_ok-destroy.ensures.buffers in
    let bad = sym c.in_default.is ∙ (c.find.ensures ∙ e.now) in
    cc

pub unrefer-requires-clause-some : goal.unrefer-requires-clause-some
unrefer-requires-clause-some g c =
    let e = empties g.given.outside g.given.command c.args.object c.args.control c.requires.0 c.requires.1.0 c.requires.1.1.0
    c.requires.1.1.1.0 c.requires.1.1.1.1 c.in_ok-destroy.ensures.destroys c.in_ok-destroy.ensures.buffers in
    may_release c.destroy.new.parts.objects c.set_cache.new.self e.known c.args.object e.now (sym c.find.ensures ∙ c.in-Some.is)
    c.if-known.true c.set_cache.ensures.object e.counts

pub returns-then-known-clause-works : goal.returns-then-known-clause-works
returns-then-known-clause-works g c =
    let e = empties g.given.outside g.given.command c.args.object c.args.control c.requires.0 c.requires.1.0 c.requires.1.1.0
    c.requires.1.1.1.0 c.requires.1.1.1.1 c.in_ok-destroy.ensures.destroys c.in_ok-destroy.ensures.buffers in
    let let_go = released_flag c.destroy.new.parts.objects c.set_cache.new.self e.known c.args.object e.now (sym c.find.ensures ∙ c.in-Some.is)
    c.if-known.true c.set_cache.ensures.object c.set_cache.ensures.marks c.unrefer.ensures.left c.unrefer.ensures.object c.unrefer.ensures.marks in
    λ waits wakes. e.undone let_go.put let_go.marks let_go.less waits wakes

pub returns-then-known-clause-ended : goal.returns-then-known-clause-ended
returns-then-known-clause-ended g c =
    let e = empties g.given.outside g.given.command c.args.object c.args.control c.requires.0 c.requires.1.0 c.requires.1.1.0
    c.requires.1.1.1.0 c.requires.1.1.1.1 c.in_ok-destroy.ensures.destroys c.in_ok-destroy.ensures.buffers in
    released_dead (released_flag c.destroy.new.parts.objects c.set_cache.new.self e.known c.args.object e.now (sym c.find.ensures ∙ c.in-Some.is)
    c.if-known.true c.set_cache.ensures.object c.set_cache.ensures.marks c.unrefer.ensures.left c.unrefer.ensures.object c.unrefer.ensures.marks)

pub returns-then-known-clause-goes : goal.returns-then-known-clause-goes
returns-then-known-clause-goes g c =
    (empties g.given.outside g.given.command c.args.object c.args.control c.requires.0 c.requires.1.0 c.requires.1.1.0
    c.requires.1.1.1.0 c.requires.1.1.1.1 c.in_ok-destroy.ensures.destroys c.in_ok-destroy.ensures.buffers).goes

pub returns-then-known-clause-only : goal.returns-then-known-clause-only
returns-then-known-clause-only g c =
    (empties g.given.outside g.given.command c.args.object c.args.control c.requires.0 c.requires.1.0 c.requires.1.1.0
    c.requires.1.1.1.0 c.requires.1.1.1.1 c.in_ok-destroy.ensures.destroys c.in_ok-destroy.ensures.buffers).only

pub returns-then-known-clause-emptied : goal.returns-then-known-clause-emptied
returns-then-known-clause-emptied g c =
    (empties g.given.outside g.given.command c.args.object c.args.control c.requires.0 c.requires.1.0 c.requires.1.1.0
    c.requires.1.1.1.0 c.requires.1.1.1.1 c.in_ok-destroy.ensures.destroys c.in_ok-destroy.ensures.buffers).emptied

pub returns-then-known-clause-plays : goal.returns-then-known-clause-plays
returns-then-known-clause-plays g c =
    (empties g.given.outside g.given.command c.args.object c.args.control c.requires.0 c.requires.1.0 c.requires.1.1.0
    c.requires.1.1.1.0 c.requires.1.1.1.1 c.in_ok-destroy.ensures.destroys c.in_ok-destroy.ensures.buffers).plays

pub returns-then-known-clause-spends : goal.returns-then-known-clause-spends
returns-then-known-clause-spends g c =
    let e = empties g.given.outside g.given.command c.args.object c.args.control c.requires.0 c.requires.1.0 c.requires.1.1.0
    c.requires.1.1.1.0 c.requires.1.1.1.1 c.in_ok-destroy.ensures.destroys c.in_ok-destroy.ensures.buffers in
    empty_spends c.args.self.now c.destroy.new.parts c.unrefer.new.self c.args.log.now c.destroy.new.log e.frames c.in_ok-destroy.ensures.log
    c.in_ok-destroy.ensures.told c.in_ok-destroy.ensures.spare (c.unrefer.ensures.rooms.rows ∙ (c.set_cache.ensures.rooms.rows ∙ c.in_ok-destroy.ensures.rows))

pub returns-else-known-clause-works : goal.returns-else-known-clause-works
returns-else-known-clause-works g c =
    let e = empties g.given.outside g.given.command c.args.object c.args.control c.requires.0 c.requires.1.0 c.requires.1.1.0
    c.requires.1.1.1.0 c.requires.1.1.1.1 c.in_ok-destroy.ensures.destroys c.in_ok-destroy.ensures.buffers in
    let let_go = released_none e.known c.args.object e.now (sym c.find.ensures ∙ c.in-Some.is) c.if-known.false in
    λ waits wakes. e.undone let_go.put let_go.marks let_go.less waits wakes

pub returns-else-known-clause-ended : goal.returns-else-known-clause-ended
returns-else-known-clause-ended g c =
    let e = empties g.given.outside g.given.command c.args.object c.args.control c.requires.0 c.requires.1.0 c.requires.1.1.0
    c.requires.1.1.1.0 c.requires.1.1.1.1 c.in_ok-destroy.ensures.destroys c.in_ok-destroy.ensures.buffers in
    ap is_live_in e.now

pub returns-else-known-clause-goes : goal.returns-else-known-clause-goes
returns-else-known-clause-goes g c =
    (empties g.given.outside g.given.command c.args.object c.args.control c.requires.0 c.requires.1.0 c.requires.1.1.0
    c.requires.1.1.1.0 c.requires.1.1.1.1 c.in_ok-destroy.ensures.destroys c.in_ok-destroy.ensures.buffers).goes

pub returns-else-known-clause-only : goal.returns-else-known-clause-only
returns-else-known-clause-only g c =
    (empties g.given.outside g.given.command c.args.object c.args.control c.requires.0 c.requires.1.0 c.requires.1.1.0
    c.requires.1.1.1.0 c.requires.1.1.1.1 c.in_ok-destroy.ensures.destroys c.in_ok-destroy.ensures.buffers).only

pub returns-else-known-clause-emptied : goal.returns-else-known-clause-emptied
returns-else-known-clause-emptied g c =
    (empties g.given.outside g.given.command c.args.object c.args.control c.requires.0 c.requires.1.0 c.requires.1.1.0
    c.requires.1.1.1.0 c.requires.1.1.1.1 c.in_ok-destroy.ensures.destroys c.in_ok-destroy.ensures.buffers).emptied

pub returns-else-known-clause-plays : goal.returns-else-known-clause-plays
returns-else-known-clause-plays g c =
    (empties g.given.outside g.given.command c.args.object c.args.control c.requires.0 c.requires.1.0 c.requires.1.1.0
    c.requires.1.1.1.0 c.requires.1.1.1.1 c.in_ok-destroy.ensures.destroys c.in_ok-destroy.ensures.buffers).plays

pub returns-else-known-clause-spends : goal.returns-else-known-clause-spends
returns-else-known-clause-spends g c =
    let e = empties g.given.outside g.given.command c.args.object c.args.control c.requires.0 c.requires.1.0 c.requires.1.1.0
    c.requires.1.1.1.0 c.requires.1.1.1.1 c.in_ok-destroy.ensures.destroys c.in_ok-destroy.ensures.buffers in
    empty_spends c.args.self.now c.destroy.new.parts c.destroy.new.parts.objects c.args.log.now c.destroy.new.log e.frames c.in_ok-destroy.ensures.log
    c.in_ok-destroy.ensures.told c.in_ok-destroy.ensures.spare c.in_ok-destroy.ensures.rows
