use Rattle.vm_kernel.proofs.space.LosersMerge.{bare_left, thin_finished}
use Rattle.vm_kernel.proofs.space.ObjectsEnd.{can_finish, object_ended}
use Rattle.vm_kernel.proofs.space.WhatStoodUnder.{object_under}
use Rattle.vm_kernel.proofs.Common.{EndsObject, Event, Ids, List, Parts, arith, false, true, ℕ, ◌++◌, ◌∙◌, ◌≡◌}
use Rattle.vm_kernel.proofs.room.EndsSpend.{ended_spends, enough_buffers, buffers_left, ends_made}
use Rattle.vm_terminate.specs.Counts.{EndBelow}
use Rattle.vm_kernel.proofs.parts.Parts.end_object.Given as given
use Rattle.vm_kernel.proofs.parts.Parts.end_object.Goals as goal

pub finish-requires : goal.finish-requires
finish-requires g c =
    can_finish g.given.header g.given.host g.given.past g.given.who c.args.self.now c.args.ids.now g.given.rest c.args.object.0 c.args.log.now.items
    c.requires c.stand_once.ensures

pub returns-clause-whole : goal.returns-clause-whole
returns-clause-whole g c =
    (object_ended g.given.header g.given.host g.given.outside g.given.command g.given.past g.given.who
    c.args.self.now c.args.ids.now g.given.rest c.args.object c.args.log.now.items c.finish.new.log.items c.finish.new.parts c.finish.new.chains
    c.finish.new.copies c.finish.new.laundry c.requires c.in_ok-left.ensures.finished.0).whole
    c.in_ok-left.ensures.fit c.in_ok-left.ensures.size

pub returns-clause-goes : goal.returns-clause-goes
returns-clause-goes g c =
    (object_ended g.given.header g.given.host g.given.outside g.given.command g.given.past g.given.who
    c.args.self.now c.args.ids.now g.given.rest c.args.object c.args.log.now.items c.finish.new.log.items c.finish.new.parts c.finish.new.chains
    c.finish.new.copies c.finish.new.laundry c.requires c.in_ok-left.ensures.finished.0).goes

pub returns-clause-plays : goal.returns-clause-plays
returns-clause-plays g c =
    (object_ended g.given.header g.given.host g.given.outside g.given.command g.given.past g.given.who
    c.args.self.now c.args.ids.now g.given.rest c.args.object c.args.log.now.items c.finish.new.log.items c.finish.new.parts c.finish.new.chains
    c.finish.new.copies c.finish.new.laundry c.requires c.in_ok-left.ensures.finished.0).plays

pub returns-clause-only : goal.returns-clause-only
returns-clause-only g c =
    (object_ended g.given.header g.given.host g.given.outside g.given.command g.given.past g.given.who
    c.args.self.now c.args.ids.now g.given.rest c.args.object c.args.log.now.items c.finish.new.log.items c.finish.new.parts c.finish.new.chains
    c.finish.new.copies c.finish.new.laundry c.requires c.in_ok-left.ensures.finished.0).only

pub returns-clause-pages : goal.returns-clause-pages
returns-clause-pages g c =
    (object_ended g.given.header g.given.host g.given.outside g.given.command g.given.past g.given.who
    c.args.self.now c.args.ids.now g.given.rest c.args.object c.args.log.now.items c.finish.new.log.items c.finish.new.parts c.finish.new.chains
    c.finish.new.copies c.finish.new.laundry c.requires c.in_ok-left.ensures.finished.0).pages

pub returns-clause-under : goal.returns-clause-under
returns-clause-under g c =
    object_under g.given.header g.given.host g.given.past g.given.who c.args.self.now c.args.ids.now g.given.rest c.args.object
    c.args.log.now.items c.finish.new.log.items c.finish.new.parts c.finish.new.chains c.finish.new.copies c.finish.new.laundry c.requires
    c.in_ok-left.ensures.finished.0

-- what ends was made
made : (g : given.Over) (k : Parts) (ids : Ids) (object : ℕ) (events : List Event)
    → EndsObject g.given.header g.given.host g.given.who k ids g.given.rest object (events ++ g.given.past)
    → EndBelow ids.next_object k.chains k.memory.objects object
made g k ids object events e = ends_made g.given.header g.given.host (events ++ g.given.past) g.given.who k ids g.given.rest object e

pub returns-clause-spends : goal.returns-clause-spends
returns-clause-spends g c =
    let whole = (object_ended g.given.header g.given.host g.given.outside g.given.command g.given.past g.given.who
    c.args.self.now c.args.ids.now g.given.rest c.args.object c.args.log.now.items c.finish.new.log.items c.finish.new.parts c.finish.new.chains
    c.finish.new.copies c.finish.new.laundry c.requires c.in_ok-left.ensures.finished.0).whole
    c.in_ok-left.ensures.fit c.in_ok-left.ensures.size in
    ended_spends g.given.header g.given.host g.given.past g.given.who c.args.self.now c.args.ids.now g.given.rest c.finish.new.parts
    c.finish.new.chains c.finish.new.copies c.finish.new.laundry c.args.log.now c.finish.new.log c.requires.runs.matches whole
    (c.in_ok-left.ensures.uses c.args.ids.now.next_object (made g c.args.self.now c.args.ids.now c.args.object.0 c.args.log.now.items c.requires))
    (c.in_ok-left.ensures.told c.args.ids.now.next_object (made g c.args.self.now c.args.ids.now c.args.object.0 c.args.log.now.items c.requires))
    c.in_ok-left.ensures.room

pub returns-in_err-left-clause-succeeds : goal.returns-in_err-left-clause-succeeds
returns-in_err-left-clause-succeeds g c = λ room buffers.
    let bad : false ≡ true = c.in_err-left.ensures.succeeds c.args.ids.now.next_object
    (made g c.args.self.now c.args.ids.now c.args.object.0 c.args.log.now.items c.requires)
    (omega (arith, room.log)) (enough_buffers g.given.header g.given.host c.args.self.now c.args.ids.now g.given.rest (c.args.log.now.items ++ g.given.past)
    c.args.object.0 c.requires.runs.matches buffers) in
    absurd (cc)

pub returns-clause-buffers : goal.returns-clause-buffers
returns-clause-buffers g c = λ had.
    buffers_left g.given.header g.given.host c.args.self.now c.args.ids.now g.given.rest (c.args.log.now.items ++ g.given.past)
    c.args.object.0 c.args.ids.now.next_object c.finish.new.parts c.finish.new.chains c.finish.new.copies c.finish.new.laundry _ _ c.requires.runs.matches
    (c.in_ok-left.ensures.uses c.args.ids.now.next_object (made g c.args.self.now c.args.ids.now c.args.object.0 c.args.log.now.items c.requires))
    c.in_ok-left.ensures.saved had

pub returns-clause-loser : goal.returns-clause-loser
returns-clause-loser g c = λ losers more all own thin.
    let ends = c.in_ok-left.ensures.finished in
    thin_finished ends.0 c.requires.row c.requires.known c.requires.none losers more all (λ o is. own o (ends.1 ∙ is)) thin

pub returns-clause-bare : goal.returns-clause-bare
returns-clause-bare g c = λ bare. let ends = c.in_ok-left.ensures.finished in ends.1 ∙ bare_left ends.0 bare
