use Rattle.vm_coherence.proofs.Crossing.{crossing_done, crossing_licensed, crossing_prompt, crossing_quiet, crossing_served}
use Rattle.vm_coherence.proofs.crossing_run.Goals as goal

pub returns-clause-licensed : goal.returns-clause-licensed
returns-clause-licensed c = crossing_licensed

pub returns-clause-done : goal.returns-clause-done
returns-clause-done c = crossing_done

pub returns-clause-served : goal.returns-clause-served
returns-clause-served c = crossing_served

pub returns-clause-prompt : goal.returns-clause-prompt
returns-clause-prompt c = crossing_prompt

pub returns-clause-quiet : goal.returns-clause-quiet
returns-clause-quiet c = crossing_quiet
