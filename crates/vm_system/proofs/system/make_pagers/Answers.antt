use Rattle.vm_system.proofs.Common.{SlotTable, ap, arith, length, subst, sym, ◌+◌, ◌∙◌, ◌≡◌}
use Rattle.vm_system.proofs.Starting.{AreMade, made_more, none_made}
use Rattle.vm_system.proofs.system.make_pagers.Goals as goal

pub hosts-init : goal.hosts-init
hosts-init c = subst (AreMade c.args.header.now 0) (sym c.new-pagers.ensures.items) (none_made c.args.header.now)

pub new-requires-clause-host : goal.new-requires-clause-host
new-requires-clause-host c =
    let count = c.len-host-end.ensures in
    let test = c.hosts-test.true in
    let hosts = c.requires.ranged.hosts in
    omega (arith, count, test, hosts.1)

pub hosts-preserved : goal.hosts-preserved
hosts-preserved c =
    subst (AreMade c.args.header.now (c.hosts.host + 1)) (sym c.in_ok-push.ensures.items)
    (made_more c.args.header.now c.hosts.host c.hosts.pagers.items c.in_ok-pager.pager c.hosts.invariant c.in_ok-pager.ensures.value)

pub returns-clause-numbered : goal.returns-clause-numbered
returns-clause-numbered c =
    let count = c.len-host-end.ensures in
    let test = c.hosts-test.false in
    let below = c.hosts.auto.host-end in
    let all : c.hosts.host ≡ length c.args.header.now.frames.items = omega (arith, count, test, below) in
    record { count = c.hosts.invariant.count ∙ all; hosts = λ h pager at. ap (λ (z : SlotTable). z.host) (c.hosts.invariant.empty h pager at) }

pub returns-clause-empty : goal.returns-clause-empty
returns-clause-empty c = c.hosts.invariant.empty
