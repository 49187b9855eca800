use Rattle.std.proofs.Common.{◌≡◌, ◌+◌, ◌∷◌, length, refl, ap, ◌∙◌}
use Rattle.vm_gen.specs.Drawn.{drawn_line}
use Rattle.vm_gen.specs.Made.{add_lines, made_commands}
use Rattle.vm_gen.proofs.Kept.{keeps_ranges, made_count}
use Rattle.vm_model.specs.declared.command.Command.TheVariants.{Settle}
use Rattle.vm_gen.proofs.made.make_script.Goals as goal

pub returns-clause-count : goal.returns-clause-count
returns-clause-count c =
    let commands : c.push.new.self.items ≡ made_commands c.args.number c.args.lines = c.in_ok-push.ensures.ok
    ∙ ap (λ z. record { line = c.args.lines + 23; command = Settle 1000000 } ∷ z)
    (c.in_ok-add_drawn_lines.ensures ∙ ap (add_lines (drawn_line c.args.number) 23 c.args.lines) c.in_ok-commands.ensures) in
    ap length commands ∙ made_count c.args.number c.args.lines

pub returns-clause-ranges : goal.returns-clause-ranges
returns-clause-ranges c =
    let commands : c.push.new.self.items ≡ made_commands c.args.number c.args.lines = c.in_ok-push.ensures.ok
    ∙ ap (λ z. record { line = c.args.lines + 23; command = Settle 1000000 } ∷ z)
    (c.in_ok-add_drawn_lines.ensures ∙ ap (add_lines (drawn_line c.args.number) 23 c.args.lines) c.in_ok-commands.ensures) in
    keeps_ranges c.args.number c.args.lines _ c.requires.1 (record { header = c.in_ok-header.ensures; commands = commands; lines = refl })
