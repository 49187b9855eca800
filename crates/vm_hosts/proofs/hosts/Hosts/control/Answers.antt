use Rattle.vm_hosts.proofs.Common.{AllRest, Event, Header, HostTable, List, None, ObjectRow, Option, Parts, Some, ap, if◌then◌else◌, object_at, slice_get}
use Rattle.vm_hosts.proofs.Common.{subst, sym, ℕ, ◌∙◌, ◌≡◌}
use Rattle.vm_model.specs.Controls.{live_control}
use Rattle.vm_state.specs.Pagers.{live_in}
use Rattle.vm_hosts.proofs.Tables.{found}
use Rattle.vm_hosts.proofs.hosts.Hosts.control.Goals as goal

-- what its host knows of an object says which control of it lives
lives_known : (header : Header) (hosts : HostTable) (past : List Event) (h : ℕ) (k : Parts) (o : ℕ) (known : Option ObjectRow) → AllRest header hosts past
    → slice_get hosts.kernels h ≡ Some k → known ≡ object_at k.memory.objects o
    → live_in known ≡ live_control h o past
lives_known header hosts past h k o known all at is = ap live_in is ∙ sym ((all.rests h k at).matches.core.controls.live o)

pub returns-then-known : goal.returns-then-known
returns-then-known g c =
    let given = g.given in
    let hosts : HostTable = record { kernels = c.self.inside.kernels.items; ids = c.self.inside.ids } in
    let all : AllRest given.header hosts given.past = subst (λ (z : HostTable). AllRest given.header z given.past) (sym c.self.view_is) c.requires.0 in
    let at = found given.header hosts given.past c.args.host.0 c.index.result.now all c.requires.1 c.index.ensures in
    let is = lives_known given.header hosts given.past c.args.host.0 c.index.result.now c.args.object.0 (Some c.in-Some.known) all at.at
    (sym c.in-Some.is ∙ c.object.ensures) in
    sym (ap (λ z. if z then Some c.in-Some.known.control else None) c.if-known.true) ∙ is

pub returns-else-known : goal.returns-else-known
returns-else-known g c =
    let given = g.given in
    let hosts : HostTable = record { kernels = c.self.inside.kernels.items; ids = c.self.inside.ids } in
    let all : AllRest given.header hosts given.past = subst (λ (z : HostTable). AllRest given.header z given.past) (sym c.self.view_is) c.requires.0 in
    let at = found given.header hosts given.past c.args.host.0 c.index.result.now all c.requires.1 c.index.ensures in
    let is = lives_known given.header hosts given.past c.args.host.0 c.index.result.now c.args.object.0 (Some c.in-Some.known) all at.at
    (sym c.in-Some.is ∙ c.object.ensures) in
    sym (ap (λ z. if z then Some c.in-Some.known.control else None) c.if-known.false) ∙ is

pub returns-in-None : goal.returns-in-None
returns-in-None g c =
    let given = g.given in
    let hosts : HostTable = record { kernels = c.self.inside.kernels.items; ids = c.self.inside.ids } in
    let all : AllRest given.header hosts given.past = subst (λ (z : HostTable). AllRest given.header z given.past) (sym c.self.view_is) c.requires.0 in
    let at = found given.header hosts given.past c.args.host.0 c.index.result.now all c.requires.1 c.index.ensures in
    lives_known given.header hosts given.past c.args.host.0 c.index.result.now c.args.object.0 None all at.at (sym c.in-None.is ∙ c.object.ensures)
