use Rattle.std.proofs.Common.{rules}
use Rattle.vm_text.specs.Script.{script_of, IsRead}
use Rattle.vm_text.proofs.Kept.{script_declares, script_kept}
use Rattle.vm_text.proofs.reader.read_script.Goals as goal

pub returns-clause-ranges : goal.returns-clause-ranges
returns-clause-ranges c =
    let exact : IsRead c.finish.result (script_of c.args.bytes.now) = search rules in
    script_kept c.finish.result c.args.bytes.now exact

pub returns-clause-declares : goal.returns-clause-declares
returns-clause-declares c =
    let exact : IsRead c.finish.result (script_of c.args.bytes.now) = search rules in
    script_declares c.finish.result c.args.bytes.now exact
