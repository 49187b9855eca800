-- Each command of a made script is read from its line.
use Rattle.std.proofs.Common.{◌≡◌, ℕ, ◌%◌, ◌^◌, ◌<◌, ◌≤◌, ◌==◌, Bool, true, false, nat_le, cond, if◌then◌else◌, List, [], ◌∷◌, length, Some, Ok, refl, arith}
use Rattle.std.specs.Prelude.{codes}
use Rattle.std.specs.Fmt.{decimal}
use Rattle.vm_gen.proofs.Kept.{IsDraw, drawn_kept}
use Rattle.vm_gen.specs.Drawn.{drawn, command_of, load_at, store_at, words_at, drawn_line}
use Rattle.vm_gen.specs.Made.{task_line, map_line, allocate_line, shared_object}
use Rattle.vm_gen.specs.declared.drawn.Draw.{Draw}
use Rattle.vm_model.specs.declared.command.Command.{Command}
use Rattle.vm_model.specs.declared.command.Command.TheVariants.{Pageout, Fork, Exit, Copy, Settle}
use Rattle.vm_model.specs.declared.command.Numbered.{Numbered}
use Rattle.vm_script.proofs.Numbers.{between, below, number_is, word_is}
use Rattle.vm_script.proofs.Words.{IsWord, AreWords, is_black, black}
use Rattle.vm_script.specs.Text.{command_words}
use Rattle.vm_text.specs.Forms.{task_of, access_size}
use Rattle.vm_text.specs.Script.{Reading, line_read}
use Rattle.vm_text.specs.Words.{number_below, number_between}

-- what was read when the header was, and these commands
abbrev pub reading_of : List Numbered → Reading
reading_of commands = record {
  heading = record { size = Some 64; slots = Some 512; frames = 8 ∷ 8 ∷ 8 ∷ []; objects = shared_object ∷ [] };
  commands = commands;
}

-- the command is read from its words, which make a line
pub record IsSpelt (command : Command) : Type 0 where
  pub words : AreWords (command_words command)
  pub few : length (command_words command) ≤ 6
  pub read : (line : ℕ) (before : List Numbered)
      → line_read line (reading_of before) (command_words command) ≡ Ok (reading_of (record { line = line; command = command } ∷ before))

-- ---- words, and what they are read as

letters : (word : List ℕ) → is_black word ≡ true → 0 < length word → length word ≤ 10 → IsWord word
letters word is some short = record { black = black word is; some = some; short = short }

task_is : (task : ℕ) → task < 1024 → task_of (decimal task) ≡ Ok (record { 0 = task })
task_is task less = rw (below 1024 task (omega (arith, less)) less) refl

address_is : (address : ℕ) → address < 32768 → number_below (2 ^ 32) (decimal address) ≡ Ok address
address_is address less = below (2 ^ 32) address (omega (arith, less)) (omega (arith, less))

bytes_are : number_between 0 (2 ^ 32) (decimal 256) ≡ Ok 256
bytes_are = between 0 (2 ^ 32) 256 (omega arith) (omega arith) (omega arith)

four_is : access_size (decimal 4) ≡ Ok 4
four_is = rw (number_is 4 (omega arith)) refl

-- ---- the first lines

pub task_spelt : (t : ℕ) → t < 6 → IsSpelt (task_line t)
task_spelt t less =
    let host : t % 3 < 3 = omega arith in
    record {
      words = (letters (codes "task") refl (omega arith) (omega arith), (word_is t (omega (arith, less)), (word_is (t % 3) (omega (arith, host)), tt)));
      few = omega arith;
      read = λ line before. rw (task_is t (omega (arith, less)), below 3 (t % 3) (omega (arith, host)) host) refl;
    }

pub map_spelt : (t : ℕ) → t < 6 → IsSpelt (map_line t)
map_spelt t less = record {
  words = (
    letters (codes "map") refl (omega arith) (omega arith),
    (
      word_is t (omega (arith, less)),
      (
        word_is 0 (omega arith),
        (word_is 256 (omega arith), (letters (codes "a") refl (omega arith) (omega arith), (word_is 0 (omega arith), tt))),
      ),
    ),
  );
  few = omega arith;
  read = λ line before.
      rw (task_is t (omega (arith, less)), address_is 0 (omega arith), bytes_are, between 0 4096 0 (omega arith) (omega arith) (omega arith)) refl;
}

pub allocate_spelt : (t : ℕ) → t < 6 → IsSpelt (allocate_line t)
allocate_spelt t less = record {
  words = (
    letters (codes "allocate") refl (omega arith) (omega arith),
    (word_is t (omega (arith, less)), (word_is 4096 (omega arith), (word_is 256 (omega arith), tt))),
  );
  few = omega arith;
  read = λ line before. rw (task_is t (omega (arith, less)), address_is 4096 (omega arith), bytes_are) refl;
}

-- ---- drawn lines

load_spelt : (task address : ℕ) → task < 16 → address < 32768 → IsSpelt (load_at task address)
load_spelt task address one two = record {
  words = (
    letters (codes "load") refl (omega arith) (omega arith),
    (word_is task (omega (arith, one)), (word_is address (omega (arith, two)), (word_is 4 (omega arith), tt))),
  );
  few = omega arith;
  read = λ line before. rw (task_is task (omega (arith, one)), address_is address two, four_is) refl;
}

value_is : (value : ℕ) → value < 256 → number_between 0 4294967295 (decimal value) ≡ Ok value
value_is value less = between 0 4294967295 value (omega (arith, less)) (omega arith) (omega (arith, less))

store_spelt : (task address value : ℕ) → task < 16 → address < 32768 → value < 256 → IsSpelt (store_at task address value)
store_spelt task address value one two three = record {
  words = (
    letters (codes "store") refl (omega arith) (omega arith),
    (word_is task (omega (arith, one)), (word_is address (omega (arith, two)), (word_is 4 (omega arith), (word_is value (omega (arith, three)), tt)))),
  );
  few = omega arith;
  read = λ line before. rw (task_is task (omega (arith, one)), address_is address two, four_is, value_is value three) refl;
}

pageout_spelt : (host : ℕ) → host < 3 → IsSpelt (Pageout (record { 0 = host }) 2)
pageout_spelt host less = record {
  words = (letters (codes "pageout") refl (omega arith) (omega arith), (word_is host (omega (arith, less)), (word_is 2 (omega arith), tt)));
  few = omega arith;
  read = λ line before. rw (below 3 host (omega (arith, less)) less, between 0 4096 2 (omega arith) (omega arith) (omega arith)) refl;
}

fork_spelt : (task child : ℕ) → task < 16 → child < 16 → IsSpelt (Fork (record { 0 = task }) (record { 0 = child }))
fork_spelt task child one two = record {
  words = (letters (codes "fork") refl (omega arith) (omega arith), (word_is task (omega (arith, one)), (word_is child (omega (arith, two)), tt)));
  few = omega arith;
  read = λ line before. rw (task_is task (omega (arith, one)), task_is child (omega (arith, two))) refl;
}

exit_spelt : (task : ℕ) → task < 16 → IsSpelt (Exit (record { 0 = task }))
exit_spelt task less = record {
  words = (letters (codes "exit") refl (omega arith) (omega arith), (word_is task (omega (arith, less)), tt));
  few = omega arith;
  read = λ line before. rw (task_is task (omega (arith, less))) refl;
}

copy_spelt : (task address to : ℕ) → task < 16 → address < 32768 → to < 32768
    → IsSpelt (Copy (record { 0 = task }) address 256 (record { 0 = task }) to)
copy_spelt task address to one two three =
    let owner = word_is task (omega (arith, one)) in
    record {
      words = (
        letters (codes "copy") refl (omega arith) (omega arith),
        (owner, (word_is address (omega (arith, two)), (word_is 256 (omega arith), (owner, (word_is to (omega (arith, three)), tt))))),
      );
      few = omega arith;
      read = λ line before. rw (task_is task (omega (arith, one)), address_is address two, bytes_are, address_is to three) refl;
    }

pub settle_spelt : (count : ℕ) → count ≤ 1000000 → IsSpelt (Settle count)
settle_spelt count less = record {
  words = (letters (codes "settle") refl (omega arith) (omega arith), (word_is count (omega (arith, less)), tt));
  few = omega arith;
  read = λ line before. rw (between 0 1000000 count (omega (arith, less)) (omega arith) less) refl;
}

either : (t : Bool) (one other : Command) → IsSpelt one → IsSpelt other → IsSpelt (cond t one other)
either true one other is isnt = is
either false one other is isnt = isnt

from_below : (value : ℕ) → (if value % 2 == 0 then 4096 else 0) < 32768
from_below value = elim (value % 2 == 0) as (λ t. cond t 4096 0 < 32768) [ true ↦ omega arith | false ↦ omega arith ]

command_spelt : (draw : Draw) → IsDraw draw → IsSpelt (command_of draw)
command_spelt draw is =
    let t = is.task in
    let p = is.place in
    either (nat_le draw.kind 2) _ _ (load_spelt _ _ t (omega (arith, p)))
    (either (nat_le draw.kind 5) _ _ (store_spelt _ _ _ t (omega (arith, p)) is.value)
    (either (nat_le draw.kind 7) _ _ (load_spelt _ _ t (omega (arith, p)))
    (either (nat_le draw.kind 9) _ _ (store_spelt _ _ _ t (omega (arith, p)) is.value)
    (either (draw.kind == 10) _ _ (pageout_spelt _ (omega arith))
    (either (draw.kind == 11) _ _ (fork_spelt _ _ t (omega arith))
    (either (draw.kind == 12) _ _ (exit_spelt _ (omega arith))
    (either (draw.kind == 13) _ _ (copy_spelt _ _ _ t (from_below draw.value) (omega (arith, p))) (settle_spelt 5 (omega arith)))))))))

pub drawn_spelt : (number line : ℕ) → IsSpelt (drawn_line number line)
drawn_spelt number line = command_spelt (drawn (words_at number line)).0 (drawn_kept (words_at number line))
