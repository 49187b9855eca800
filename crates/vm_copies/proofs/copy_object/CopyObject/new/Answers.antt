use Rattle.std.proofs.Common.{ap, Bool, List}
use Rattle.vm_copies.proofs.Words.{none_in}
use Rattle.vm_copies.specs.Copies.{CopyRow}
use Rattle.vm_copies.proofs.copy_object.CopyObject.new.Goals as goal

pub returns : goal.returns
returns c =
    let row : List Bool → CopyRow = λ had. record { source = c.args.source; pages = c.args.pages; had = had } in
    ap row (none_in c.args.pages 64)
