use Rattle.vm_hosts.proofs.Common.{AllRest, HostTable, ap, arith, entries_in, false, is_some, length, subst, sym, true, ◌+◌, ◌<◌, ◌∙◌, ◌≡◌}
use Rattle.vm_hosts.proofs.Homes.{NotBelow, home_found, home_nowhere, not_below_more}
use Rattle.vm_hosts.proofs.Tables.{found}
use Rattle.vm_hosts.proofs.hosts.Hosts.home.Goals as goal

pub returns-then-has : goal.returns-then-has
returns-then-has g c =
    let hosts : HostTable = record { kernels = c.self.inside.kernels.items; ids = c.self.inside.ids } in
    let all : AllRest g.given.header hosts g.given.past = subst (λ (z : HostTable). AllRest g.given.header z g.given.past) (sym c.self.view_is) c.requires in
    let count = all.count in
    let known : c.search.host < length g.given.header.frames.items = omega (arith, count) in
    let at = found g.given.header hosts g.given.past c.search.host c.index.result.now all known c.index.ensures in
    let here : is_some (entries_in c.args.task.0 c.index.result.now.maps) ≡ true = ap (λ m. is_some (entries_in c.args.task.0 m)) (sym c.maps.ensures)
    ∙ (sym c.has.ensures ∙ c.if-has.true) in
    sym (home_found g.given.header hosts g.given.past c.args.task.0 c.search.host c.index.result.now all at.at here)

pub search-preserved : goal.search-preserved
search-preserved g c =
    let hosts : HostTable = record { kernels = c.self.inside.kernels.items; ids = c.self.inside.ids } in
    let all : AllRest g.given.header hosts g.given.past = subst (λ (z : HostTable). AllRest g.given.header z g.given.past) (sym c.self.view_is) c.requires in
    let count = all.count in
    let known : c.search.host < length g.given.header.frames.items = omega (arith, count) in
    let at = found g.given.header hosts g.given.past c.search.host c.index.result.now all known c.index.ensures in
    let none : is_some (entries_in c.args.task.0 c.index.result.now.maps) ≡ false = ap (λ m. is_some (entries_in c.args.task.0 m)) (sym c.maps.ensures)
    ∙ (sym c.has.ensures ∙ c.if-has.false) in
    let was : NotBelow c.search.host hosts c.args.task.0 = subst (λ (z : HostTable). NotBelow c.search.host z c.args.task.0) (sym c.self.view_is)
    c.search.invariant in
    subst (λ (z : HostTable). NotBelow (c.search.host + 1) z c.args.task.0) c.self.view_is
    (not_below_more hosts c.args.task.0 c.search.host c.index.result.now at.at none was)

pub returns : goal.returns
returns g c =
    let hosts : HostTable = record { kernels = c.self.inside.kernels.items; ids = c.self.inside.ids } in
    let all : AllRest g.given.header hosts g.given.past = subst (λ (z : HostTable). AllRest g.given.header z g.given.past) (sym c.self.view_is) c.requires in
    let count = all.count in
    let was : NotBelow c.search.host hosts c.args.task.0 = subst (λ (z : HostTable). NotBelow c.search.host z c.args.task.0) (sym c.self.view_is)
    c.search.invariant in
    sym (home_nowhere g.given.header hosts g.given.past c.args.task.0 c.search.host all was (omega (arith, count)))
