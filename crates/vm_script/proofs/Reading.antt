-- The text of a made script is read as that script.
use Rattle.std.proofs.Common.{◌≡◌, ℕ, ◌+◌, ◌-◌, ◌≤◌, false, nat_lt, List, [], ◌∷◌, ◌++◌, length, length-append, Ok, reverse, refl, ap, ◌∙◌, arith}
use Rattle.std.proofs.lemmas.Bool.Decides.{nat_tests}
use Rattle.std.proofs.lemmas.List.{length-reverse, reverse-reverse}
use Rattle.std.specs.Prelude.{codes}
use Rattle.std.specs.List.{flat_map}
use Rattle.vm_gen.proofs.Kept.{added_count, made_count}
use Rattle.vm_gen.specs.Drawn.{drawn_line}
use Rattle.vm_gen.specs.Made.{add_lines, task_line, map_line, allocate_line, opening_commands, made_commands, IsMade}
use Rattle.vm_model.specs.declared.command.Numbered.{Numbered}
use Rattle.vm_model.specs.declared.script.Script.{Script}
use Rattle.vm_script.proofs.Lines.{FollowOn, follow_more, follow_added, lines_put, lines_are_read, length_put}
use Rattle.vm_script.proofs.Spelt.{reading_of, task_spelt, map_spelt, allocate_spelt, settle_spelt, drawn_spelt}
use Rattle.vm_script.specs.Text.{command_line, header_text, made_text}
use Rattle.vm_text.specs.Script.{nothing_read, lines_read, script_of, whole_of, whole_script}
use Rattle.vm_text.specs.Words.{lines_of}

header_lines : (rest : List ℕ)
    → lines_of (header_text ++ rest) ≡ codes "page 64" ∷ codes "hosts 3 8" ∷ codes "slots 512" ∷ codes "shared a 4" ∷ lines_of rest
header_lines rest = refl

header_read : (lines : List (List ℕ))
    → lines_read 1 nothing_read (codes "page 64" ∷ codes "hosts 3 8" ∷ codes "slots 512" ∷ codes "shared a 4" ∷ lines)
    ≡ lines_read 5 (reading_of []) lines
header_read lines = refl

tasks_follow : FollowOn 5 (reverse (add_lines task_line 5 6 []))
tasks_follow = follow_added 5 task_line 5 6 [] tt (omega arith) task_spelt

maps_follow : FollowOn 5 (reverse (add_lines map_line 11 6 (add_lines task_line 5 6 [])))
maps_follow = follow_added 5 map_line 11 6 (add_lines task_line 5 6 []) tasks_follow (omega arith) map_spelt

opening_follows : FollowOn 5 (reverse opening_commands)
opening_follows = follow_added 5 allocate_line 17 6 (add_lines map_line 11 6 (add_lines task_line 5 6 [])) maps_follow (omega arith) allocate_spelt

made_follow : (number drawn : ℕ) → FollowOn 5 (reverse (made_commands number drawn))
made_follow number drawn =
    let count = added_count (drawn_line number) 23 drawn opening_commands in
    follow_more 5 _ (add_lines (drawn_line number) 23 drawn opening_commands)
    (follow_added 5 (drawn_line number) 23 drawn opening_commands opening_follows (omega arith) (λ line less. drawn_spelt number line))
    (omega (arith, count)) (settle_spelt 1000000 (omega arith))

whole_text : (commands : List Numbered) → FollowOn 5 (reverse commands) → length commands ≤ 10019
    → script_of (made_text commands) ≡ Ok (whole_of (reading_of commands) (length commands + 4))
whole_text commands all few =
    let count = length-reverse commands in
    let size = length_put 5 (reverse commands) all in
    let small : nat_lt 1048576 (length (header_text ++ flat_map command_line (reverse commands))) ≡ false = rw length-append (grind (arith, nat_tests)) in
    let lines : 5 + length (reverse commands) - 1 ≡ length commands + 4 = omega (arith, count) in
    rw small (ap (lines_read 1 nothing_read) (header_lines (flat_map command_line (reverse commands)))
    ∙ (header_read (lines_of (flat_map command_line (reverse commands)))
    ∙ (ap (lines_read 5 (reading_of [])) (lines_put 5 (reverse commands) all)
    ∙ (lines_are_read 5 (reverse commands) [] all (omega (arith, count, few))
    ∙ (ap (λ z. Ok (whole_of (reading_of z) (5 + length (reverse commands) - 1))) (reverse-reverse commands)
    ∙ ap (λ z. Ok (whole_of (reading_of commands) z)) lines)))))

pub made_is_read : (number drawn : ℕ) (script : Script) → drawn ≤ 10000 → IsMade number drawn script
    → script_of (made_text script.commands.items) ≡ Ok (whole_script script)
made_is_read number drawn script few made =
    let header = made.header in
    let count = made_count number drawn in
    let lines : length (made_commands number drawn) + 4 ≡ drawn + 23 = omega (arith, count) in
    rw (header.size, header.slots, header.frames, header.objects, made.commands, made.lines)
    (whole_text (made_commands number drawn) (made_follow number drawn) (omega (arith, count, few))
    ∙ ap (λ z. Ok (whole_of (reading_of (made_commands number drawn)) z)) lines)
