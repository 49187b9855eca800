use Rattle.vm_quiet.proofs.Quiet.{for_frames}
use Rattle.vm_quiet.proofs.without_wild_objects_frames_alone_are_awaited.Goals as goal

pub returns : goal.returns
returns c = for_frames
