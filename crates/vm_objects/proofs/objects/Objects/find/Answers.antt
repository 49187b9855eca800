use Rattle.std.proofs.Common.{◌≡◌, ◌∙◌, sym, rules}
use Rattle.vm_objects.proofs.Kept.{found}
use Rattle.vm_objects.specs.Marks.{row_of}
use Rattle.vm_objects.proofs.objects.Objects.find.Goals as goal

pub returns : goal.returns
returns c =
    let is : c.copied.result ≡ row_of c.self.inside.rows.entries c.args.id.0 = search rules in
    is ∙ sym (found _ _ _ _ _ c.self.view_is c.args.id.0)
