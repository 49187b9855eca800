-- A made script keeps the ranges that scripts keep.
use Rattle.std.proofs.Common.{◌≡◌, ◌≢◌, ℕ, zero, suc, ◌+◌, ◌%◌, ◌<◌, ◌≤◌, ◌^◌, ◌==◌, inl, inr, Bool, true, false, nat_le, cond, if◌then◌else◌, List, [], ◌∷◌}
use Rattle.std.proofs.Common.{length, refl, subst, arith}
use Rattle.std.proofs.lemmas.List.Elements.{All-nil, All-cons}
use Rattle.std.proofs.lemmas.List.Kept.{AllPairs-cons}
use Rattle.std.specs.List.{All}
use Rattle.rand_pcg.specs.Lcg.{Lcg}
use Rattle.vm_gen.specs.Drawn.{drawn, command_of, load_at, store_at, copy_to, words_at, drawn_line}
use Rattle.vm_gen.specs.Made.{add_lines, task_line, map_line, allocate_line, opening_commands, made_commands, shared_object, IsMade}
use Rattle.vm_gen.specs.declared.drawn.Draw.{Draw}
use Rattle.vm_model.specs.Named.{AreNamedOnce}
use Rattle.vm_model.specs.Ranges.{IsBetween, IsCommand, RiseBelow, KeepsRanges}
use Rattle.vm_model.specs.declared.command.Command.{Command}
use Rattle.vm_model.specs.declared.command.Command.TheVariants.{Pageout, Fork, Exit}
use Rattle.vm_model.specs.declared.command.Numbered.{Numbered}
use Rattle.vm_model.specs.declared.script.Script.{Script}

-- ---- lines that are added

rising : (command : ℕ → Command) (first n : ℕ) (before : List Numbered) → 0 < first → RiseBelow first before
    → RiseBelow (first + n) (add_lines command first n before)
rising command first zero before some rises = let same : first ≡ first + 0 = omega arith in subst (λ z. RiseBelow z before) same rises
rising command first (suc n) before some rises = (omega (arith, some), omega arith, rising command first n before some rises)

inside : (P : Command → Type 0) (command : ℕ → Command) (first n : ℕ) (before : List Numbered) → ((i : ℕ) → i < n → P (command i))
    → All (λ numbered. P numbered.command) before → All (λ numbered. P numbered.command) (add_lines command first n before)
inside P command first zero before each all = all
inside P command first (suc n) before each all =
    All-cons (λ numbered. P numbered.command) _ _ (each n (omega arith)) (inside P command first n before (λ i less. each i (omega (arith, less))) all)

pub added_count : (command : ℕ → Command) (first n : ℕ) (before : List Numbered) → length (add_lines command first n before) ≡ length before + n
added_count command first zero before = omega arith
added_count command first (suc n) before = let e = added_count command first n before in omega (arith, e)

-- ---- the commands of three hosts and one object, with pages of 64 bytes

abbrev IsOfMade : Command → Type 0
IsOfMade command = IsCommand 3 1 64 command

pub record IsDraw (draw : Draw) : Type 0 where
  pub task : draw.task < 16
  pub place : draw.place < 64
  pub value : draw.value < 256

either : (t : Bool) (one other : Command) → IsOfMade one → IsOfMade other → IsOfMade (cond t one other)
either true one other is isnt = is
either false one other is isnt = isnt

loaded : (task address : ℕ) → task < 16 → address < 16384 → IsOfMade (load_at task address)
loaded task address one two = record { task = omega (arith, one); address = omega (arith, two); size = inr (inr (inl refl)) }

stored : (task address value : ℕ) → task < 16 → address < 16384 → value < 256 → IsOfMade (store_at task address value)
stored task address value one two three =
    (record { task = omega (arith, one); address = omega (arith, two); size = inr (inr (inl refl)) }, omega (arith, three))

from_below : (value : ℕ) → (if value % 2 == 0 then 4096 else 0) < 2 ^ 32
from_below value = elim (value % 2 == 0) as (λ t. cond t 4096 0 < 2 ^ 32) [ true ↦ omega arith | false ↦ omega arith ]

copied : (task value to : ℕ) → task < 16 → to < 32768 → IsOfMade (copy_to task value to)
copied task value to one two = (record { task = omega (arith, one); address = from_below value; bytes = omega arith }, omega (arith, one), omega (arith, two))

paged_out : (task : ℕ) → IsOfMade (Pageout (record { 0 = task % 3 }) 2)
paged_out task = (omega arith, omega arith)

forked : (task place : ℕ) → task < 16 → IsOfMade (Fork (record { 0 = task }) (record { 0 = 6 + place % 10 }))
forked task place one = (omega (arith, one), omega arith)

exited : (place : ℕ) → IsOfMade (Exit (record { 0 = 6 + place % 10 }))
exited place = omega arith

command_kept : (draw : Draw) → IsDraw draw → IsOfMade (command_of draw)
command_kept draw is =
    let t = is.task in
    let p = is.place in
    either (nat_le draw.kind 2) _ _ (loaded _ _ t (omega (arith, p)))
    (either (nat_le draw.kind 5) _ _ (stored _ _ _ t (omega (arith, p)) is.value)
    (either (nat_le draw.kind 7) _ _ (loaded _ _ t (omega (arith, p)))
    (either (nat_le draw.kind 9) _ _ (stored _ _ _ t (omega (arith, p)) is.value)
    (either (draw.kind == 10) _ _ (paged_out draw.task)
    (either (draw.kind == 11) _ _ (forked draw.task draw.place t)
    (either (draw.kind == 12) _ _ (exited draw.place)
    (either (draw.kind == 13) _ _ (copied _ _ _ t (omega (arith, p))) (omega arith))))))))

draw_kept : (first second third fourth : ℕ) → IsDraw (record { kind = first % 16; task = second % 16; place = third % 64; value = fourth % 256 })
draw_kept first second third fourth = record { task = omega arith; place = omega arith; value = omega arith }

pub drawn_kept : (words : Lcg) → IsDraw (drawn words).0
drawn_kept words = draw_kept _ _ _ _

-- ---- the whole script

opening_kept : All (λ numbered. IsOfMade numbered.command) opening_commands
opening_kept =
    inside IsOfMade allocate_line 17 6 (add_lines map_line 11 6 (add_lines task_line 5 6 []))
    (λ t less. record { task = omega (arith, less); address = omega arith; bytes = omega arith })
    (inside IsOfMade map_line 11 6 (add_lines task_line 5 6 []) (λ t less. (
      record { task = omega (arith, less); address = omega arith; bytes = omega arith },
      omega arith,
      omega arith,
    ))
    (inside IsOfMade task_line 5 6 [] (λ t less. (omega (arith, less), omega arith)) (All-nil (λ numbered. IsOfMade numbered.command))))

made_kept : (number lines : ℕ) → All (λ numbered. IsOfMade numbered.command) (made_commands number lines)
made_kept number lines =
    All-cons (λ numbered. IsOfMade numbered.command) _ _ (omega arith)
    (inside IsOfMade (drawn_line number) 23 lines opening_commands (λ line less. command_kept (drawn (words_at number line)).0
    (drawn_kept (words_at number line))) opening_kept)

opening_rises : RiseBelow 23 opening_commands
opening_rises =
    rising allocate_line 17 6 (add_lines map_line 11 6 (add_lines task_line 5 6 [])) (omega arith)
    (rising map_line 11 6 (add_lines task_line 5 6 []) (omega arith) (rising task_line 5 6 [] (omega arith) tt))

made_rises : (number lines : ℕ) → RiseBelow (lines + 23 + 1) (made_commands number lines)
made_rises number lines =
    let same : 23 + lines ≡ lines + 23 = omega arith in (
      omega arith,
      omega arith,
      subst (λ z. RiseBelow z (add_lines (drawn_line number) 23 lines opening_commands)) same
          (rising (drawn_line number) 23 lines opening_commands (omega arith) opening_rises),
    )

-- as many as the lines without the header's
pub made_count : (number lines : ℕ) → length (made_commands number lines) ≡ lines + 19
made_count number lines = let e = added_count (drawn_line number) 23 lines opening_commands in omega (arith, e)

pub keeps_ranges : (number lines : ℕ) (script : Script) → lines ≤ 10000 → IsMade number lines script → KeepsRanges script
keeps_ranges number lines script few made =
    let header = made.header in
    record {
      size = rw header.size (inr (inr (inl refl)));
      slots = rw header.slots (omega arith);
      hosts = rw header.frames (omega arith, omega arith);
      frames = rw header.frames three_frames;
      objects = rw header.objects (omega arith);
      pages = rw header.objects one_object;
      names = rw header.objects one_name;
      commands = rw (header.frames, header.objects, header.size, made.commands) (made_kept number lines);
      rising = rw (made.commands, made.lines) (made_rises number lines);
      lines = rw made.lines (omega (arith, few));
    }
  where
    eight : IsBetween 2 4096 8
    eight = (omega arith, omega arith)

    three_frames : All (IsBetween 2 4096) (8 ∷ 8 ∷ 8 ∷ [])
    three_frames =
        All-cons (IsBetween 2 4096) 8 (8 ∷ 8 ∷ []) eight (All-cons (IsBetween 2 4096) 8 (8 ∷ []) eight
        (All-cons (IsBetween 2 4096) 8 [] eight (All-nil (IsBetween 2 4096))))

    four : IsBetween 1 4096 4
    four = (omega arith, omega arith)

    one_object : All (λ object. IsBetween 1 4096 object.pages) (shared_object ∷ [])
    one_object = All-cons (λ object. IsBetween 1 4096 object.pages) shared_object [] four (All-nil (λ object. IsBetween 1 4096 object.pages))

    no_name : AreNamedOnce []
    no_name = λ i j d before within. absurd (omega (arith, within))

    one_name : AreNamedOnce (shared_object ∷ [])
    one_name = AllPairs-cons (λ newer older. newer.name ≢ older.name) shared_object [] (All-nil (λ older. shared_object.name ≢ older.name)) no_name
