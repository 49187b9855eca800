use Rattle.std.proofs.Common.{◌+◌, ◌∷◌, ap, sym, ◌∙◌}
use Rattle.vm_gen.specs.Drawn.{drawn, drawn_line, command_of}
use Rattle.vm_gen.proofs.Drawing.{next_line, next_words}
use Rattle.vm_gen.proofs.made.add_drawn_lines.Goals as goal

pub loop-i-preserved : goal.loop-i-preserved
loop-i-preserved c =
    let line = c.next-draw.ensures ∙ ap drawn c.loop-i.invariant.words in
    let command = c.command.ensures ∙ ap (λ p. command_of p.0) line in
    record {
      words = ap (λ p. p.1) line ∙ sym (next_words c.args.number c.loop-i.i);
      commands = c.in_ok-push.ensures.ok
          ∙ (ap (λ z. record { line = 23 + c.loop-i.i; command = z } ∷ c.loop-i.commands.items) command
          ∙ (ap (λ z. record { line = 23 + c.loop-i.i; command = drawn_line c.args.number c.loop-i.i } ∷ z) c.loop-i.invariant.commands
          ∙ sym (next_line (drawn_line c.args.number) 23 c.loop-i.i c.args.commands.now.items)));
    }
