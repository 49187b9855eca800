use Rattle.vm_hosts.proofs.Common.{AllRest, HostTable, IsReady, [], refl, subst, sym}
use Rattle.vm_hosts.proofs.Behind.{behind_kept, behind_washed, held_out, laundered_front}
use Rattle.vm_hosts.proofs.Dues.{ready_same}
use Rattle.vm_hosts.proofs.Tables.{found}
use Rattle.vm_hosts.proofs.hosts.Hosts.behind.Goals as goal

pub laundered-requires : goal.laundered-requires
laundered-requires g c =
    let given = g.given in
    let hosts : HostTable = record { kernels = c.self.inside.kernels.items; ids = c.self.inside.ids } in
    let all : AllRest given.header hosts given.past = subst (λ (z : HostTable). AllRest given.header z given.past) (sym c.self.view_is) c.requires.0 in
    let k = c.index_mut.result.now in
    let at = found given.header hosts given.past c.args.host.0 k all c.requires.1.known c.index_mut.ensures.value in (
      at.rests,
      (
        laundered_front given.header given.outside given.command c.args.host given.past given.front c.args.washed k.host.0 c.if-washed.true at.number
            c.requires.1,
        held_out given.header given.outside given.command c.args.host given.past given.front c.args.washed k hosts.ids c.if-washed.true c.requires.1
            (all.rests c.args.host.0 k at.at),
      ),
    )

pub returns-then-washed-clause-rests : goal.returns-then-washed-clause-rests
returns-then-washed-clause-rests g c =
    let given = g.given in
    let hosts : HostTable = record { kernels = c.self.inside.kernels.items; ids = c.self.inside.ids } in
    let all : AllRest given.header hosts given.past = subst (λ (z : HostTable). AllRest given.header z given.past) (sym c.self.view_is) c.requires.0 in
    let k = c.index_mut.result.now in
    let at = found given.header hosts given.past c.args.host.0 k all c.requires.1.known c.index_mut.ensures.value in
    behind_washed given.header given.outside given.command c.args.host given.past given.front c.args.washed hosts k.host.0 c.laundered.new.self hosts.ids []
    c.if-washed.true at.number c.requires.1 all
    c.laundered.ensures.passed refl

pub returns-then-washed-clause-ready : goal.returns-then-washed-clause-ready
returns-then-washed-clause-ready g c = λ acting breadth events room able.
    let given = g.given in
    let hosts : HostTable = record { kernels = c.self.inside.kernels.items; ids = c.self.inside.ids } in
    let all : AllRest given.header hosts given.past = subst (λ (z : HostTable). AllRest given.header z given.past) (sym c.self.view_is) c.requires.0 in
    let k = c.index_mut.result.now in
    let at = found given.header hosts given.past c.args.host.0 k all c.requires.1.known c.index_mut.ensures.value in
    ready_same acting breadth hosts c.args.host.0 k c.laundered.new.self events room at.at c.laundered.ensures.waits (c.laundered.ensures.ready breadth)
    (c.laundered.ensures.most breadth)
    (subst (λ (z : HostTable). IsReady acting breadth events z room) (sym c.self.view_is) able)

pub returns-else-washed-clause-rests : goal.returns-else-washed-clause-rests
returns-else-washed-clause-rests g c =
    behind_kept g.given.header g.given.outside g.given.command c.args.host g.given.past g.given.front c.args.washed c.args.self.now c.if-washed.false
    c.requires.1 c.requires.0
