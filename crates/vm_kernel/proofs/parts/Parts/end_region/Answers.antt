use Rattle.vm_kernel.proofs.Common.{Still, arith, refl, subst, ℕ, ◌++◌}
use Rattle.std.specs.Prelude.{OnOk}
use Rattle.vm_kernel.specs.Endings.{EndsBelow}
use Rattle.vm_kernel.proofs.space.LosersMerge.{bare_behind, last_reference, thin_region}
use Rattle.vm_kernel.proofs.space.ObjectsEnd.{only_none}
use Rattle.vm_kernel.proofs.steps.EventsGrow.{goes_none, if_ok, on_ok}
use Rattle.vm_kernel.proofs.space.RegionEnds.{LosesRegion, ends_top, loses_region, top_referred, top_told, whole_region}
use Rattle.vm_terminate.proofs.Under.{referred_some, referred_there}
use Rattle.vm_kernel.proofs.space.WhatStoodUnder.{below_none}
use Rattle.vm_kernel.proofs.room.EndsSpend.{region_spends, roomy_on}
use Rattle.vm_kernel.proofs.room.CallsSpend.{spends_both}
use Rattle.vm_kernel.specs.Rooms.{Spends, leaving}
use Rattle.vm_kernel.proofs.parts.Parts.end_region.Given as given
use Rattle.vm_kernel.proofs.parts.Parts.end_region.Goals as goal
use Rattle.vm_kernel.proofs.parts.Parts.end_region.Goals.{After-unrefer}

pub unrefer-requires-clause-there : goal.unrefer-requires-clause-there
unrefer-requires-clause-there g c =
    referred_there c.args.self.now.memory.objects c.drop_region-object.result.0
    (top_referred g.given.header g.given.host g.given.past g.given.who c.args.self.now c.args.ids.now g.given.rest c.args.region.0 c.args.log.now.items
    c.drop_region-object.result c.requires c.drop_region-object.ensures.top)

pub unrefer-requires-clause-some : goal.unrefer-requires-clause-some
unrefer-requires-clause-some g c =
    referred_some c.args.self.now.memory.objects c.drop_region-object.result.0
    (top_referred g.given.header g.given.host g.given.past g.given.who c.args.self.now c.args.ids.now g.given.rest c.args.region.0 c.args.log.now.items
    c.drop_region-object.result c.requires c.drop_region-object.ensures.top)

pub returns-then-unrefer-gt0-clause-whole : goal.returns-then-unrefer-gt0-clause-whole
returns-then-unrefer-gt0-clause-whole g c =
    let object = c.drop_region-object.result in
    let loses = loses_region g.given.header g.given.host g.given.past g.given.who c.args.self.now c.args.ids.now g.given.rest c.args.region.0 c.unrefer.result
    c.args.log.now.items object c.drop_region-object.new.self c.unrefer.new.self c.requires c.drop_region-object.ensures.top
    c.drop_region-object.ensures.dropped c.unrefer.ensures.left c.unrefer.ensures.object c.unrefer.ensures.marks in
    whole_region g.given.header g.given.host g.given.past g.given.who c.args.self.now c.args.ids.now g.given.rest c.args.region.0 c.unrefer.result
    c.args.log.now.items object c.drop_region-object.new.self c.unrefer.new.self c.requires loses c.if-unrefer-gt0.true

pub returns-then-unrefer-gt0-clause-plays : goal.returns-then-unrefer-gt0-clause-plays
returns-then-unrefer-gt0-clause-plays g c = Still

pub end_object-requires : goal.end_object-requires
end_object-requires g c =
    let object = c.drop_region-object.result in
    let loses = loses_region g.given.header g.given.host g.given.past g.given.who c.args.self.now c.args.ids.now g.given.rest c.args.region.0 c.unrefer.result
    c.args.log.now.items object c.drop_region-object.new.self c.unrefer.new.self c.requires c.drop_region-object.ensures.top
    c.drop_region-object.ensures.dropped c.unrefer.ensures.left c.unrefer.ensures.object c.unrefer.ensures.marks in
    let none = c.if-unrefer-gt0.false in
    ends_top g.given.header g.given.host g.given.past g.given.who c.args.self.now c.args.ids.now g.given.rest c.args.region.0 c.unrefer.result
    c.args.log.now.items object c.drop_region-object.new.self c.unrefer.new.self c.requires loses (omega (arith, none))

pub returns-then-unrefer-gt0-clause-goes : goal.returns-then-unrefer-gt0-clause-goes
returns-then-unrefer-gt0-clause-goes g c = goes_none g.given.header g.given.host g.given.outside g.given.command g.given.past c.args.log.now.items

pub returns-then-unrefer-gt0-clause-only : goal.returns-then-unrefer-gt0-clause-only
returns-then-unrefer-gt0-clause-only g c = only_none c.args.log.now.items

pub returns-then-unrefer-gt0-clause-under : goal.returns-then-unrefer-gt0-clause-under
returns-then-unrefer-gt0-clause-under g c = below_none g.given.header _ _ c.args.log.now.items

pub returns-clause-under : goal.returns-clause-under
returns-clause-under g c =
    subst (λ (z : ℕ). OnOk c.end_object.result (EndsBelow g.given.header (c.args.log.now.items ++ g.given.past) z c.args.log.now.items
    c.end_object.new.log.items))
    (top_told g.given.header g.given.host g.given.past g.given.who c.args.self.now c.args.ids.now g.given.rest c.args.region.0 c.args.log.now.items
    c.drop_region-object.result c.requires c.drop_region-object.ensures.top) c.end_object.ensures.under

-- nothing is spent before an object ends
first_spends : (g : given.Over) (c : After-unrefer g) → Spends (leaving c.args.self.now c.args.ids.now) 0
    (leaving (record c.args.self.now { memory = record c.args.self.now.memory { objects = c.unrefer.new.self }; chains = c.drop_region-object.new.self })
    c.args.ids.now)
    c.args.self.now c.args.log.now (record c.args.self.now {
      memory = record c.args.self.now.memory { objects = c.unrefer.new.self };
      chains = c.drop_region-object.new.self;
    }) c.args.log.now
first_spends g c =
    let object = c.drop_region-object.result in
    region_spends c.args.self.now c.args.ids.now c.args.region.0 c.unrefer.result object c.drop_region-object.new.self c.unrefer.new.self c.args.log.now
    (loses_region g.given.header g.given.host g.given.past g.given.who c.args.self.now c.args.ids.now g.given.rest c.args.region.0 c.unrefer.result
    c.args.log.now.items object c.drop_region-object.new.self c.unrefer.new.self c.requires c.drop_region-object.ensures.top
    c.drop_region-object.ensures.dropped c.unrefer.ensures.left c.unrefer.ensures.object c.unrefer.ensures.marks)
    c.drop_region-object.ensures.spare c.drop_region-object.ensures.marked c.unrefer.ensures.rooms

pub returns-then-unrefer-gt0-clause-spends : goal.returns-then-unrefer-gt0-clause-spends
returns-then-unrefer-gt0-clause-spends g c = first_spends g (goal.at.returns-then-unrefer-gt0-clause-spends g c).After-unrefer

pub returns-clause-spends : goal.returns-clause-spends
returns-clause-spends g c =
    on_ok c.end_object.result _ _
    (λ more. spends_both c.args.self.now (record c.args.self.now {
      memory = record c.args.self.now.memory { objects = c.unrefer.new.self };
      chains = c.drop_region-object.new.self;
    }) c.end_object.new.self c.args.log.now c.args.log.now c.end_object.new.log _ _ _
    (first_spends g (goal.at.returns-clause-spends g c).After-unrefer) more)
    c.end_object.ensures.spends

pub returns-clause-succeeds : goal.returns-clause-succeeds
returns-clause-succeeds g c = λ room buffers.
    c.end_object.ensures.succeeds (roomy_on c.args.self.now (record c.args.self.now
    { memory = record c.args.self.now.memory { objects = c.unrefer.new.self }; chains = c.drop_region-object.new.self }) c.args.log.now c.args.log.now _ _
    (first_spends g (goal.at.returns-clause-succeeds g c).After-unrefer) room) buffers

-- what the end of the region alone leaves
lost : (g : given.Over) (c : After-unrefer g) → LosesRegion c.args.self.now c.args.region.0 c.unrefer.result c.drop_region-object.result
    c.drop_region-object.new.self c.unrefer.new.self
lost g c =
    loses_region g.given.header g.given.host g.given.past g.given.who c.args.self.now c.args.ids.now g.given.rest c.args.region.0 c.unrefer.result
    c.args.log.now.items c.drop_region-object.result c.drop_region-object.new.self c.unrefer.new.self c.requires c.drop_region-object.ensures.top
    c.drop_region-object.ensures.dropped c.unrefer.ensures.left c.unrefer.ensures.object c.unrefer.ensures.marks

pub returns-then-unrefer-gt0-clause-loser : goal.returns-then-unrefer-gt0-clause-loser
returns-then-unrefer-gt0-clause-loser g c = λ losers more all own thin.
    let turn = (goal.at.returns-then-unrefer-gt0-clause-loser g c).After-unrefer in
    thin_region c.args.self.now c.args.region.0 c.unrefer.result c.drop_region-object.result c.drop_region-object.new.self c.unrefer.new.self losers more
    (lost g turn) all (λ one. own c.drop_region-object.result refl) thin

pub returns-clause-loser : goal.returns-clause-loser
returns-clause-loser g c =
    let turn = (goal.at.returns-clause-loser g c).After-unrefer in
    if_ok c.end_object.result (λ left so losers more all own thin. so losers more all own
    (thin_region c.args.self.now c.args.region.0 c.unrefer.result c.drop_region-object.result c.drop_region-object.new.self c.unrefer.new.self losers losers
    (lost g turn) (λ x has. has) (λ one. let none = c.if-unrefer-gt0.false in absurd (omega (arith, one, none))) thin))
    c.end_object.ensures.loser

-- the region was all that referred to its top, which is no shadow
pub returns-then-unrefer-gt0-clause-bare : goal.returns-then-unrefer-gt0-clause-bare
returns-then-unrefer-gt0-clause-bare g c = λ bare.
    let none = last_reference (lost g (goal.at.returns-then-unrefer-gt0-clause-bare g c).After-unrefer) bare in
    let some = c.if-unrefer-gt0.true in
    absurd (omega (arith, none, some))

pub returns-clause-bare : goal.returns-clause-bare
returns-clause-bare g c = λ bare. c.end_object.ensures.bare (bare_behind (lost g (goal.at.returns-clause-bare g c).After-unrefer) bare)
