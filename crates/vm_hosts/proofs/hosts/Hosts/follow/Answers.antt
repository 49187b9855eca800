use Rattle.vm_hosts.proofs.Common.{AllRest, Event, List, length, subst, sym, ◌++◌}
use Rattle.vm_hosts.proofs.Dues.{can_serve, none_more, served_few}
use Rattle.vm_hosts.proofs.Taking.{passed_alone}
use Rattle.vm_hosts.proofs.hosts.Hosts.follow.Goals as goal

pub serve_all-requires : goal.serve_all-requires
serve_all-requires g c =
    let given = g.given in
    let rests = c.behind.ensures.rests in
    let some = c.requires.1.1.1 in (
      subst (λ (z : List Event). AllRest given.header c.behind.new.self (z ++ (given.front ++ given.past))) (sym c.requires.1.1.0) rests,
      can_serve some.0 some.1.0 c.behind.new.self some.1.1.0 c.args.log.now.room
          (c.behind.ensures.ready some.0 some.1.0 some.1.1.0 c.args.log.now.room some.1.1.1),
    )

pub returns : goal.returns
returns g c =
    let given = g.given in
    record {
      passed =
          passed_alone given.header given.outside given.command (given.front ++ given.past) c.args.log.now.items c.serve_all.new.self c.serve_all.new.log.items
          c.requires.1.1.0 c.serve_all.ensures.went;
      few = λ acting breadth events ready.
          none_more (length c.serve_all.new.log.items) events c.args.log.now.items c.requires.1.1.0 c.serve_all.ensures.few
          (served_few acting breadth c.behind.new.self events c.args.log.now.room (c.behind.ensures.ready acting breadth events c.args.log.now.room ready));
    }
