use Rattle.vm_coherence.proofs.Law.{throughout_writer}
use Rattle.vm_coherence.proofs.Still.{answered, still}
use Rattle.vm_coherence.proofs.Whole.{loads, page_legal, throughout_bytes}
use Rattle.vm_coherence.proofs.coherence_law.Goals as goal

pub returns-clause-one_writer : goal.returns-clause-one_writer
returns-clause-one_writer c = throughout_writer

pub returns-clause-same_bytes : goal.returns-clause-same_bytes
returns-clause-same_bytes c = throughout_bytes

pub returns-clause-loads : goal.returns-clause-loads
returns-clause-loads c = loads

pub returns-clause-legal : goal.returns-clause-legal
returns-clause-legal c = page_legal

pub returns-clause-answered : goal.returns-clause-answered
returns-clause-answered c = answered

pub returns-clause-nobody_waits : goal.returns-clause-nobody_waits
returns-clause-nobody_waits c = still
