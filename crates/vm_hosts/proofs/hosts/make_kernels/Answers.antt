use Rattle.vm_hosts.proofs.Common.{AreNew, arith, inl, length, subst, sym, ◌+◌, ◌≡◌}
use Rattle.vm_hosts.proofs.Newest.{new_more, none_new}
use Rattle.vm_hosts.proofs.hosts.make_kernels.Goals as goal

pub hosts-init : goal.hosts-init
hosts-init c = subst (AreNew c.args.header.now 0) (sym c.new-kernels.ensures.items) (none_new c.args.header.now)

pub new-requires : goal.new-requires
new-requires c =
    let count = c.len-host-end.ensures in
    let test = c.hosts-test.true in
    record { ranged = c.requires.ranged; host = omega (arith, count, test) }

pub hosts-preserved : goal.hosts-preserved
hosts-preserved c =
    subst (AreNew c.args.header.now (c.hosts.host + 1)) (sym c.in_ok-push.ensures.items)
    (new_more c.args.header.now c.hosts.host c.hosts.kernels.items c.in_ok-kernel.kernel c.hosts.invariant c.in_ok-kernel.ensures.rests
    (inl c.in_ok-kernel.ensures.queue))

pub returns : goal.returns
returns c =
    let count = c.len-host-end.ensures in
    let test = c.hosts-test.false in
    let below = c.hosts.auto.host-end in
    let all : c.hosts.host ≡ length c.args.header.now.frames.items = omega (arith, count, test, below) in
    record { made = subst (λ n. AreNew c.args.header.now n c.hosts.kernels.items) all c.hosts.invariant }
