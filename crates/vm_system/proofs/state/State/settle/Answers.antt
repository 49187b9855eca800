use Rattle.vm_system.proofs.Common.{[]}
use Rattle.vm_model.specs.declared.command.Command.TheVariants as command
use Rattle.vm_system.proofs.Beginning.{logged, makes_lined, one_more, same_hosts, spares_told, told_none}
use Rattle.vm_system.proofs.Roomed.{on_err, only_reserved, spares_roomed, still_reserved}
use Rattle.vm_system.proofs.state.State.settle.Goals as goal

pub returns-clause-line : goal.returns-clause-line
returns-clause-line g c = one_more _ _ _ _ c.in_ok-reserve.ensures.history c.tell.ensures.history

pub returns-clause-made : goal.returns-clause-made
returns-clause-made g c =
    let hosts = same_hosts _ _ _ c.in_ok-reserve.ensures.hosts c.tell.ensures.hosts in
    makes_lined g.given.header g.given.outside c.args.line c.args.count c.args.self.now c.tell.new.self c.requires hosts c.tell.ensures.posts
    (one_more _ _ _ _ c.in_ok-reserve.ensures.history c.tell.ensures.history)

pub returns-clause-spares : goal.returns-clause-spares
returns-clause-spares g c =
    let hosts = same_hosts _ _ _ c.in_ok-reserve.ensures.hosts c.tell.ensures.hosts in
    let s = c.args.self.now in
    spares_told g.given.header g.given.outside c.args.line [] s.hosts s c.tell.new.self
    (told_none g.given.header g.given.outside (command.Settle c.args.count) c.args.line s c.requires) (logged _ _ hosts)
    (one_more _ _ _ _ c.in_ok-reserve.ensures.history c.tell.ensures.history)

pub returns-in_err-reserve-clause-spares : goal.returns-in_err-reserve-clause-spares
returns-in_err-reserve-clause-spares g c =
    let e = c.reserve.ensures in
    spares_roomed g.given.header g.given.outside c.args.self.now c.reserve.new.self
    (only_reserved c.args.self.now c.reserve.new.self e.hosts e.history e.made e.numbers e.letters e.buffers)

pub returns-in_err-reserve-clause-err : goal.returns-in_err-reserve-clause-err
returns-in_err-reserve-clause-err g c =
    on_err _
    (let e = c.reserve.ensures in
    still_reserved g.given.header g.given.outside c.args.self.now c.reserve.new.self e.hosts e.history e.made e.numbers e.letters e.buffers c.requires)
