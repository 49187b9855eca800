use Rattle.std.proofs.Common.{arith}
use Rattle.std.proofs.lemmas.Map.Text.{text_keys}
use Rattle.vm_outside.proofs.areas.Areas.write.Goals as goal

pub returns-in_err-overwrite-clause-others : goal.returns-in_err-overwrite-clause-others
returns-in_err-overwrite-clause-others c = grind (arith, text_keys)

pub returns-in_err-overwrite-clause-err : goal.returns-in_err-overwrite-clause-err
returns-in_err-overwrite-clause-err c = grind (arith, text_keys)

pub returns-in-Some-clause-others : goal.returns-in-Some-clause-others
returns-in-Some-clause-others c = grind (arith, text_keys)
