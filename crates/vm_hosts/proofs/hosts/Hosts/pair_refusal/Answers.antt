use Rattle.vm_hosts.proofs.Common.{HostId, acts_on, ap, host_of, refusal, sym, ◌∙◌}
use Rattle.std.specs.Prelude.{option_map}
use Rattle.vm_hosts.proofs.Homes.{home_is}
use Rattle.vm_hosts.proofs.Pairs.{both_fail, not_so, pair_apart}
use Rattle.vm_hosts.proofs.hosts.Hosts.pair_refusal.Goals as goal

pub returns-then-ne : goal.returns-then-ne
returns-then-ne g c =
    let here = home_is c.args.host.0 (host_of c.in-Copy.task.0 g.given.past) (ap (λ z. acts_on c.args.host.0 z g.given.past) (sym c.in-Copy.is)
    ∙ c.requires.1.acts) in
    let there = sym c.home.ensures ∙ ap (option_map (λ (h : HostId). h.0)) c.in-Some.is in
    ap (refusal g.given.header g.given.past) c.in-Copy.is ∙
    pair_apart g.given.header g.given.past c.in-Copy.task c.in-Copy.address c.in-Copy.bytes c.in-Copy.target c.in-Copy.to c.args.host.0 c.in-Some.other.0 here
    there
    (both_fail _ _ (sym c.waits.ensures ∙ c.if-waits.false) (sym c.waits-else-waits.ensures ∙ c.if-waits-2.false)) (not_so _ (sym c.ne.ensures ∙ c.if-ne.true))
