-- The text is that of the made script's commands, behind the header's lines.
use Rattle.std.proofs.Common.{◌≡◌, ◌++◌, reverse, ap, ◌∙◌}
use Rattle.std.specs.List.{flat_map}
use Rattle.vm_script.proofs.Reading.{made_is_read}
use Rattle.vm_script.specs.Text.{command_line, made_text}
use Rattle.vm_text.specs.Script.{script_of}
use Rattle.vm_script.proofs.made.made_text.Goals as goal

pub returns-clause-reads : goal.returns-clause-reads
returns-clause-reads c =
    let commands = c.in_ok-script.script.commands.items in
    let text : c.put_commands.new.text.items ≡ made_text commands
    = c.in_ok-put_commands.ensures ∙ ap (λ z. z ++ flat_map command_line (reverse commands)) c.in_ok-text.ensures.items in
    ap script_of text ∙ made_is_read c.args.number c.args.lines _ c.requires.1 c.in_ok-script.ensures.made
