use Rattle.std.proofs.Common.{ap, sym, ◌∙◌}
use Rattle.vm_text.specs.Script.{script_of}
use Rattle.vm_top.proofs.Ends.{read_from}
use Rattle.vm_lens.proofs.top.lens_main.Goals as goal

pub returns-in-Ok-read_script-clause-done : goal.returns-in-Ok-read_script-clause-done
returns-in-Ok-read_script-clause-done g c = λ done.
    let was = c.explore_read.ensures.done done in
    let spells = ap script_of (sym c.deref.ensures.value) ∙ c.in-Ok-read_script.ensures.exact in (
      sym c.is_explore.ensures ∙ c.if-not-is_explore.false,
      record {
        script = c.in-Ok-read_script.script;
        read = read_from (g.S.Source.left c.args.script.now) _ c.in-Ok.bytes.items c.in-Ok-read_script.script c.in-Ok.ensures.whole spells;
        found = was.0;
        held = was.1;
        is = was.2;
        written = was.3;
      },
    )
