-- What the header lines and the lines of a whole script keep, once they are read.
use Rattle.std.proofs.Common.{◌≡◌, ◌≢◌, ℕ, suc, ◌+◌, ◌-◌, ◌<◌, ◌≤◌, ◌==◌, ◌||◌, inr, Bool, true, false, nat_le, nat_lt, List, [], ◌∷◌, length, length-set}
use Rattle.std.proofs.Common.{get_or, reverse, slice_set, Option, Some, None, is_some, Result, Ok, Err, IfOk, refl, sym, ◌∙◌, cond, subst, arith}
use Rattle.std.proofs.lemmas.Bool.{or_parts, true≢false}
use Rattle.std.proofs.lemmas.Bool.Decides.{nat_tests}
use Rattle.std.proofs.lemmas.Grind.{get_or-set_at}
use Rattle.std.proofs.lemmas.List.{length-replicate, length-reverse, reverse-reverse, get_or-set_other}
use Rattle.std.proofs.lemmas.List.Elements.{All-nil, All-cons, All-replicate}
use Rattle.std.proofs.lemmas.List.Kept.{AllPairs-cons}
use Rattle.std.proofs.lemmas.Slice.Eq.{bytes_eq-Decides}
use Rattle.std.specs.List.{All}
use Rattle.std.specs.Option.{unwrap_or}
use Rattle.std.specs.Str.{bytes_eq}
use Rattle.vm_base.proofs.Lists.{all_reversed}
use Rattle.vm_base.specs.Pages.{IsPageSize}
use Rattle.vm_base.specs.declared.ids.ObjectKind.{ObjectKind}
use Rattle.vm_base.specs.declared.ids.ObjectKind.TheVariants as kinds
use Rattle.vm_model.specs.Name.{is_name}
use Rattle.vm_model.specs.Named.{AreNamedOnce}
use Rattle.vm_model.specs.Ranges.{IsBetween, IsCommand, RiseBelow, KeepsRanges}
use Rattle.vm_model.specs.declared.command.Numbered.{Numbered}
use Rattle.vm_model.specs.declared.fault.ScriptFault.{ScriptFault}
use Rattle.vm_model.specs.declared.fault.ScriptFault.TheVariants.{UnknownWord}
use Rattle.vm_model.specs.declared.script.Declared.{Declared}
use Rattle.vm_model.specs.declared.script.Script.{Script}
use Rattle.vm_text.specs.declared.error.ScriptError.{ScriptError}
use Rattle.vm_text.specs.declared.error.ScriptError.TheVariants as errors
use Rattle.vm_text.specs.declared.meaning.HeaderWord.{HeaderWord}
use Rattle.vm_text.specs.declared.meaning.HeaderWord.TheVariants as heads
use Rattle.vm_text.specs.declared.meaning.CommandWord.{CommandWord}
use Rattle.vm_text.specs.Words.{is_comment, word_in, words_of, lines_of, one_word, two_words}
use Rattle.vm_text.specs.Forms.{Heading, size_of, declared_at, new_name, header_words, command_words, stands_already, object_line, header_form}
use Rattle.vm_text.specs.Script.{Reading, Whole, nothing_read, header_line, command_line, line_read, lines_read, script_of, whole_script, DeclaresNoTemporary}
use Rattle.vm_text.specs.Script.{IsRead}
use Rattle.vm_text.proofs.Ranges.{Reads, read, stopped, ◌andthen◌, any, tested, untested, either, between, upto, page_sized, hosted, InReach, command_kept}

record HeadingKept (heading : Heading) : Type 0 where
  size : IsPageSize (size_of heading)
  slots : unwrap_or heading.slots 1024 ≤ 65536
  hosts : length heading.frames ≤ 8
  frames : All (IsBetween 2 4096) heading.frames
  objects : length heading.objects ≤ 8192
  pages : All (λ object. IsBetween 1 4096 object.pages) heading.objects
  kinds : All (λ object. object.kind ≢ kinds.Temp) heading.objects
  names : AreNamedOnce heading.objects

record ReadingKept (number : ℕ) (reading : Reading) : Type 0 where
  heading : HeadingKept reading.heading
  commands : All (λ numbered. InReach reading.heading numbered.command) reading.commands
  rising : RiseBelow number reading.commands

-- ---- header lines

All-set : {X : Type 0} (P : X → Type 0) (xs : List X) (i : ℕ) (x : X) → All P xs → P x → All P (slice_set xs i x)
All-set P xs i x all is = λ k d less.
    let within : k < length xs = omega (arith, less, length-set xs i x) in
    elim (k == i) as (λ t. (k == i) ≡ t → P (get_or (slice_set xs i x) k d)) [
      | true ↦ λ same. let there : k ≡ i = grind (arith, nat_tests) in rw (get_or-set_at xs i k x d there (omega arith)) is
      | false ↦ λ other. let away : k ≢ i = grind (arith, nat_tests) in rw (get_or-set_other xs i k x d away) (all k d within)
    ] refl

few : (n : ℕ) → nat_le 8192 n ≡ false → n < 8192
few n isnt = grind (arith, nat_tests)

-- no object has a name that isn't declared
undeclared : (name : List ℕ) (objects : List Declared) → is_some (declared_at name objects) ≡ false → All (λ older. name ≢ older.name) objects
undeclared name [] isnt = All-nil (λ older. name ≢ older.name)
undeclared name (object ∷ objects) isnt = by_test (bytes_eq object.name name) refl isnt (undeclared name objects)
  where
    by_test : (t : Bool) → bytes_eq object.name name ≡ t → is_some (cond t (Some (length objects)) (declared_at name objects)) ≡ false
        → (is_some (declared_at name objects) ≡ false → All (λ older. name ≢ older.name) objects) → All (λ older. name ≢ older.name) (object ∷ objects)
    by_test true is found rest = absurd (true≢false found)
    by_test false is none rest =
        All-cons (λ older. name ≢ older.name) object objects (λ same. true≢false (sym ((bytes_eq-Decides object.name name).1 (sym same)) ∙ is)) (rest none)

new_kept : (heading : Heading) (word : List ℕ) → Reads (λ name. (length heading.objects < 8192) × All (λ older. name ≢ older.name) heading.objects)
    (new_name heading word)
new_kept heading word = tested (is_name word) _ _ λ _. untested (is_some (declared_at word heading.objects) || nat_le 8192 (length heading.objects)) _ _ λ isnt.
    let parts = or_parts (is_some (declared_at word heading.objects)) (nat_le 8192 (length heading.objects)) isnt in
    read (few (length heading.objects) parts.1, undeclared word heading.objects parts.0)

object_kept : (kind : ObjectKind) (heading : Heading) (line : List (List ℕ)) → kind ≢ kinds.Temp → HeadingKept heading
    → Reads HeadingKept (object_line kind heading line)
object_kept kind heading line made kept = any (two_words line) andthen λ w _. new_kept heading w.0 andthen λ name room. between 1 4096 w.1 andthen λ pages is.
    read (record {
      size = kept.size;
      slots = kept.slots;
      hosts = kept.hosts;
      frames = kept.frames;
      objects = room.0;
      pages = All-cons (λ object. IsBetween 1 4096 object.pages) _ _ is kept.pages;
      kinds = All-cons (λ object. object.kind ≢ kinds.Temp) _ _ made kept.kinds;
      names = AllPairs-cons (λ newer older. newer.name ≢ older.name) _ heading.objects room.1 kept.names;
    })

header_kept : (heading : Heading) (word : HeaderWord) (line : List (List ℕ)) → HeadingKept heading → Reads HeadingKept (header_form heading word line)
header_kept heading heads.Hosts line kept = any (two_words line) andthen λ w _. between 1 8 w.0 andthen λ hosts one. between 2 4096 w.1 andthen λ frames two.
    read (record {
      size = kept.size;
      slots = kept.slots;
      hosts = rw length-replicate one.1;
      frames = All-replicate (IsBetween 2 4096) hosts frames two;
      objects = kept.objects;
      pages = kept.pages;
      kinds = kept.kinds;
      names = kept.names;
    })
header_kept heading heads.Frames line kept =
    tested (nat_lt 0 (length heading.frames)) _ _ λ _. any (two_words line) andthen λ w _. hosted heading w.0 andthen λ host one. between 2 4096 w.1 andthen
    λ frames two.
    read (record {
      size = kept.size;
      slots = kept.slots;
      hosts = rw length-set kept.hosts;
      frames = All-set (IsBetween 2 4096) heading.frames host.0 frames kept.frames two;
      objects = kept.objects;
      pages = kept.pages;
      kinds = kept.kinds;
      names = kept.names;
    })
header_kept heading heads.Page line kept = any (one_word line) andthen λ w _. page_sized w andthen λ size is.
    read (record {
      size = is;
      slots = kept.slots;
      hosts = kept.hosts;
      frames = kept.frames;
      objects = kept.objects;
      pages = kept.pages;
      kinds = kept.kinds;
      names = kept.names;
    })
header_kept heading heads.Slots line kept = any (one_word line) andthen λ w _. upto 65536 w andthen λ slots is.
    read (record {
      size = kept.size;
      slots = is;
      hosts = kept.hosts;
      frames = kept.frames;
      objects = kept.objects;
      pages = kept.pages;
      kinds = kept.kinds;
      names = kept.names;
    })
header_kept heading heads.File line kept = object_kept kinds.File heading line (λ is. absurd (cc)) kept
header_kept heading heads.Shared line kept = object_kept kinds.Shared heading line (λ is. absurd (cc)) kept
header_kept heading heads.Wild line kept = object_kept kinds.Wild heading line (λ is. absurd (cc)) kept

-- ---- lines

-- the commands stand under a header that changes no more
late_kept : (number : ℕ) (heading : Heading) (commands : List Numbered) (word : HeaderWord) (line : List (List ℕ)) → HeadingKept heading
    → Reads (ReadingKept number) (header_line (record { heading = heading; commands = commands }) word line)
late_kept number heading [] word line kept = untested (stands_already heading word) _ _ λ _. header_kept heading word line kept andthen λ more is.
    read (record { heading = is; commands = All-nil (λ numbered. InReach more numbered.command); rising = tt })
late_kept number heading (command ∷ commands) word line kept =
    let some : nat_lt 0 (suc (length commands)) ≡ true = grind (arith, nat_tests) in
    rw some stopped

later : (number : ℕ) (commands : List Numbered) → RiseBelow number commands → RiseBelow (number + 1) commands
later number [] rising = tt
later number (command ∷ commands) rising = (rising.0, omega (arith, rising.1), rising.2)

passed : (number : ℕ) (reading : Reading) → ReadingKept number reading → ReadingKept (number + 1) reading
passed number reading kept = record { heading = kept.heading; commands = kept.commands; rising = later number reading.commands kept.rising }

command_line_kept : (number : ℕ) (reading : Reading) (word : CommandWord) (line : List (List ℕ)) → 0 < number → ReadingKept number reading
    → Reads (ReadingKept (number + 1)) (command_line number reading word line)
command_line_kept number reading word line some kept =
    tested (nat_lt 0 (length reading.heading.frames)) _ _ λ _. command_kept reading.heading word line andthen λ command is.
    read (record {
      heading = kept.heading;
      commands = All-cons (λ numbered. InReach reading.heading numbered.command) _ _ is kept.commands;
      rising = (some, omega arith, kept.rising);
    })

worded : (number : ℕ) (reading : Reading) (command : Option CommandWord) (header : Option HeaderWord) (line : List (List ℕ)) → 0 < number
    → ReadingKept number reading
    → Reads (ReadingKept (number + 1)) (elim command as (λ _. Result Reading ScriptFault) [
      | Some meaning ↦ command_line number reading meaning line
      | None ↦ elim header as (λ _. Result Reading ScriptFault) [
        | Some meaning ↦ header_line reading meaning line
        | None ↦ Err UnknownWord
      ]
    ])
worded number reading (Some meaning) header line some kept = command_line_kept number reading meaning line some kept
worded number reading None (Some meaning) line some kept = late_kept (number + 1) reading.heading reading.commands meaning line kept.heading
worded number reading None None line some kept = stopped

line_kept : (number : ℕ) (reading : Reading) (line : List (List ℕ)) → 0 < number → ReadingKept number reading
    → Reads (ReadingKept (number + 1)) (line_read number reading line)
line_kept number reading [] some kept = read (passed number reading kept)
line_kept number reading (word ∷ line) some kept = either (is_comment word) _ _ (read (passed number reading kept))
    (worded number reading (word_in command_words word) (word_in header_words word) line some kept)

-- ---- a whole script

record WholeKept (whole : Whole) : Type 0 where
  size : IsPageSize whole.size
  slots : whole.slots ≤ 65536
  hosts : IsBetween 1 8 (length whole.frames)
  frames : All (IsBetween 2 4096) whole.frames
  objects : length whole.objects ≤ 8192
  pages : All (λ object. IsBetween 1 4096 object.pages) whole.objects
  kinds : All (λ object. object.kind ≢ kinds.Temp) whole.objects
  names : AreNamedOnce whole.objects
  commands : All (λ numbered. IsCommand (length whole.frames) (length whole.objects) whole.size numbered.command) whole.commands
  rising : RiseBelow (whole.lines + 1) whole.commands
  lines : whole.lines ≤ 20000

followed : (number : ℕ) (lines : List (List ℕ)) (line : Result Reading ScriptFault) → Reads (ReadingKept (number + 1)) line
    → ((more : Reading) → ReadingKept (number + 1) more → Reads WholeKept (lines_read (number + 1) more lines))
    → Reads WholeKept (elim line as (λ _. Result Whole (ℕ × ScriptFault)) [ Ok more ↦ lines_read (number + 1) more lines | Err fault ↦ Err (number, fault) ])
followed number lines (Ok more) (read kept) next = next more kept
followed number lines (Err fault) stopped next = stopped

lines_kept : (lines : List (List ℕ)) (number : ℕ) (reading : Reading) → 0 < number → number ≤ 20001 → ReadingKept number reading
    → Reads WholeKept (lines_read number reading lines)
lines_kept [] number reading some few kept = tested (nat_lt 0 (length reading.heading.frames)) _ _ λ is.
    let same : number - 1 + 1 ≡ number = omega arith in
    let least : 1 ≤ length reading.heading.frames = grind (arith, nat_tests) in
    read (record {
      size = kept.heading.size;
      slots = kept.heading.slots;
      hosts = (least, kept.heading.hosts);
      frames = kept.heading.frames;
      objects = kept.heading.objects;
      pages = kept.heading.pages;
      kinds = kept.heading.kinds;
      names = kept.heading.names;
      commands = kept.commands;
      rising = subst (λ z. RiseBelow z reading.commands) (sym same) kept.rising;
      lines = omega arith;
    })
lines_kept (line ∷ lines) number reading some few kept = untested (nat_lt 20000 number) _ _ λ isnt.
    let room : number + 1 ≤ 20001 = grind (arith, nat_tests) in
    followed number lines (line_read number reading (words_of line)) (line_kept number reading (words_of line) some kept) λ more is. lines_kept lines
    (number + 1) more (omega arith) room is

none_kept : ReadingKept 1 nothing_read
none_kept = record {
  heading = record {
    size = inr (inr (inr (inr (inr (inr (inr (inr refl)))))));
    slots = omega arith;
    hosts = omega arith;
    frames = All-nil (IsBetween 2 4096);
    objects = omega arith;
    pages = All-nil (λ object. IsBetween 1 4096 object.pages);
    kinds = All-nil (λ object. object.kind ≢ kinds.Temp);
    names = λ i j d before within. absurd (omega (arith, within));
  };
  commands = All-nil (λ numbered. InReach nothing_read.heading numbered.command);
  rising = tt;
}

whole_kept : (bytes : List ℕ) → Reads WholeKept (script_of bytes)
whole_kept bytes = untested (nat_lt 1048576 (length bytes)) _ _ λ _. lines_kept (lines_of bytes) 1 nothing_read (omega arith) (omega arith) none_kept

value_of : {A E : Type 0} {P : A → Type 0} {x : A} → Reads {E = E} P (Ok x) → P x
value_of (read is) = is

-- each declared object has a pager of its own
pub script_declares : (read : Result Script ScriptError) (bytes : List ℕ) → IsRead read (script_of bytes)
    → IfOk read (λ script. DeclaresNoTemporary script.header)
script_declares (Ok script) bytes is =
    let kept : WholeKept (whole_script script) = value_of (subst (λ r. Reads WholeKept r) is (whole_kept bytes)) in
    kept.kinds
script_declares (Err errors.NoMemory) bytes is = tt
script_declares (Err (errors.Bad line kind)) bytes is = tt

pub script_kept : (read : Result Script ScriptError) (bytes : List ℕ) → IsRead read (script_of bytes) → IfOk read KeepsRanges
script_kept (Ok script) bytes is =
    let kept : WholeKept (whole_script script) = value_of (subst (λ r. Reads WholeKept r) is (whole_kept bytes)) in
    let hosts = length-reverse script.header.frames.items in
    record {
      size = kept.size;
      slots = kept.slots;
      hosts = subst (IsBetween 1 8) hosts kept.hosts;
      frames =
          subst (All (IsBetween 2 4096)) (reverse-reverse script.header.frames.items)
          (all_reversed (IsBetween 2 4096) (reverse script.header.frames.items) kept.frames);
      objects = kept.objects;
      pages = kept.pages;
      names = kept.names;
      commands =
          subst (λ n. All (λ numbered. IsCommand n (length script.header.objects.items) script.header.size numbered.command) script.commands.items) hosts
          kept.commands;
      rising = kept.rising;
      lines = kept.lines;
    }
script_kept (Err errors.NoMemory) bytes is = tt
script_kept (Err (errors.Bad line kind)) bytes is = tt
