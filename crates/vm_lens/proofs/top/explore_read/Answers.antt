use Rattle.vm_lens.proofs.top.explore_read.Goals as goal

pub returns-in-Ok-clause-done : goal.returns-in-Ok-clause-done
returns-in-Ok-clause-done g c = λ done. (c.in-Ok.explored, c.tell_explored.ensures.held, c.in-Ok.ensures, c.tell_explored.ensures.done done)
