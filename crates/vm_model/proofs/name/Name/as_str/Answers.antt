use Rattle.std.proofs.lemmas.Str.{IsUtf8-from_ascii}
use Rattle.vm_model.proofs.Ascii.{name_is_ascii}
use Rattle.vm_model.proofs.name.Name.as_str.Goals as goal

pub returns-in-Err-clause-text : goal.returns-in-Err-clause-text
returns-in-Err-clause-text c = absurd (c.in-Err.ensures.cases.0 (IsUtf8-from_ascii _ (name_is_ascii _ c.self.invariant.name)))

pub returns-in-Err-clause-name : goal.returns-in-Err-clause-name
returns-in-Err-clause-name c = absurd (c.in-Err.ensures.cases.0 (IsUtf8-from_ascii _ (name_is_ascii _ c.self.invariant.name)))
