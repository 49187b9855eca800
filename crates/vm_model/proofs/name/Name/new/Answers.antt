use Rattle.std.proofs.Common.{rules}
use Rattle.vm_model.proofs.Ascii.{kept_whole}
use Rattle.vm_model.proofs.name.Name.new.Goals as goal

pub invariant_of-result : goal.invariant_of-result
invariant_of-result c = kept_whole c.args.text.now _ c.copy_from_slice.ensures.after (search rules)
