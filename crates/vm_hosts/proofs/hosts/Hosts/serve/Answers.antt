use Rattle.vm_hosts.proofs.Common.{length}
use Rattle.vm_hosts.proofs.Dues.{can_serve, more_few, served_few}
use Rattle.vm_hosts.proofs.hosts.Hosts.serve.Goals as goal

pub serve_all-requires : goal.serve_all-requires
serve_all-requires g c =
    (c.requires.0, can_serve c.requires.1.0 c.requires.1.1.0 c.args.self.now c.requires.1.1.1.0 c.args.log.now.room c.requires.1.1.1.1)

pub returns-clause-few : goal.returns-clause-few
returns-clause-few g c = λ acting breadth events ready.
    more_few (length c.args.log.now.items) (length c.serve_all.new.log.items) events c.serve_all.ensures.few
    (served_few acting breadth c.args.self.now events c.args.log.now.room ready)
