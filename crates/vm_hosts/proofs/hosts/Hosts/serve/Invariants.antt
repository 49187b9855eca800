use Rattle.vm_hosts.proofs.hosts.Hosts.serve.Given as goal

abbrev pub ghost-serve_all : goal.ghost-serve_all
ghost-serve_all g a = g.given
