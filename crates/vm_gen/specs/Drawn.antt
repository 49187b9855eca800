-- The drawn lines of a made script: each is made of four words of a generator.
use Rattle.std.specs.Prelude.{ℕ, zero, suc, ◌+◌, ◌*◌, ◌%◌, ◌==◌, nat_le, if◌then◌else◌}
use Rattle.rand_core.specs.Pcg32Seed.{pcg32_seed}
use Rattle.rand_pcg.specs.Lcg.{Lcg}
use Rattle.rand_pcg.specs.Pcg.{pcg32, pcg32_of_seed}
use Rattle.vm_gen.specs.declared.drawn.Draw.{Draw}
use Rattle.vm_model.specs.declared.command.Command.{Command}
use Rattle.vm_model.specs.declared.command.Command.TheVariants.{Load, Store, Pageout, Fork, Exit, Copy, Settle}

-- the numbers of a line from its four words, and the generator behind these
abbrev pub drawn : Lcg → Draw × Lcg
drawn words =
    let first = pcg32 words in
    let second = pcg32 first.1 in
    let third = pcg32 second.1 in
    let fourth = pcg32 third.1 in
    (record { kind = first.0 % 16; task = second.0 % 16; place = third.0 % 64; value = fourth.0 % 256 }, fourth.1)

abbrev pub load_at : ℕ → ℕ → Command
load_at task address = Load (record { 0 = task }) address 4

abbrev pub store_at : ℕ → ℕ → ℕ → Command
store_at task address value = Store (record { 0 = task }) address 4 value

-- from memory of the task's own, or from the shared object
abbrev pub copy_to : ℕ → ℕ → ℕ → Command
copy_to task value to = Copy (record { 0 = task }) (if value % 2 == 0 then 4096 else 0) 256 (record { 0 = task }) to

-- the line that these numbers make
abbrev pub command_of : Draw → Command
command_of draw =
    if nat_le draw.kind 2 then load_at draw.task (4 * draw.place)
    else if nat_le draw.kind 5 then store_at draw.task (4 * draw.place) draw.value
    else if nat_le draw.kind 7 then load_at draw.task (4096 + 4 * draw.place)
    else if nat_le draw.kind 9 then store_at draw.task (4096 + 4 * draw.place) draw.value
    else if draw.kind == 10 then Pageout (record { 0 = draw.task % 3 }) 2
    else if draw.kind == 11 then Fork (record { 0 = draw.task }) (record { 0 = 6 + draw.place % 10 })
    else if draw.kind == 12 then Exit (record { 0 = 6 + draw.place % 10 })
    else if draw.kind == 13 then copy_to draw.task draw.value (8192 + 256 * draw.place)
    else Settle 5

-- the generator in front of a drawn line; they are counted from 0 on
abbrev pub words_at : ℕ → ℕ → Lcg
words_at number zero = pcg32_of_seed (pcg32_seed 16 number)
words_at number (suc line) = (drawn (words_at number line)).1

abbrev pub drawn_line : ℕ → ℕ → Command
drawn_line number line = command_of (drawn (words_at number line)).0
