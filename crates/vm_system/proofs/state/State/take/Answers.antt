use Rattle.vm_system.proofs.Common.{Channel, Down, Some, Up, ap, ◌∙◌}
use Rattle.vm_system.proofs.Backed.{fit_spared}
use Rattle.vm_system.proofs.Taken.{may_found, may_there}
use Rattle.vm_system.proofs.state.State.take.Goals as goal

pub channel-channel-requires : goal.channel-channel-requires
channel-channel-requires g c = may_there g.given c.args.line c.args.number c.requires.1.1.0.0 c.args.self.now c.requires.1.1.0.1

pub take_up-requires : goal.take_up-requires
take_up-requires g c κs within =
    let may = c.requires.1.1.0 in
    let s = c.args.self.now in (
      within.0,
      (
        within.1,
        (
          may_found g.given c.args.line c.args.number may.0 (Up c.in-Up.host c.in-Up.object) s may.1
              (c.channel-channel.ensures.channel ∙ ap (λ (z : Channel). Some z) c.in-Up.is),
          c.requires.1.1.1,
        ),
      ),
    )

pub take_down-requires : goal.take_down-requires
take_down-requires g c =
    let may = c.requires.1.1.0 in
    let s = c.args.self.now in
    may_found g.given c.args.line c.args.number may.0 (Down c.in-Down.host c.in-Down.object c.in-Down.control) s may.1
    (c.channel-channel.ensures.channel ∙ ap (λ (z : Channel). Some z) c.in-Down.is)

pub returns-in-Down-clause-backings : goal.returns-in-Down-clause-backings
returns-in-Down-clause-backings g c = λ start fit. fit_spared _ _ start _ _ _ _ c.take_down.ensures.spares fit
