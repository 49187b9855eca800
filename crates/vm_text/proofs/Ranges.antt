-- What the fields and the commands of a line keep, once they are read.
use Rattle.std.proofs.Common.{Bool, Err, IfSome, List, None, Ok, Option, Result, Some, [], arith, cond, false, inl, inr, length, length-append, nat_le, nat_lt}
use Rattle.std.proofs.Common.{refl, replicate, subst, suc, true, ℕ, ◌&&◌, ◌-◌, ◌<◌, ◌==◌, ◌^◌, ◌∷◌, ◌≡◌, ◌≤◌, ◌⊎◌}
use Rattle.std.proofs.lemmas.Bool.{and_parts}
use Rattle.std.proofs.lemmas.Bool.Decides.{nat_tests}
use Rattle.std.proofs.lemmas.List.{length-replicate}
use Rattle.std.specs.List.{AllByRecursion}
use Rattle.std.specs.Str.{bytes_eq}
use Rattle.vm_base.specs.Pages.{IsPageSize, IsAccessSize}
use Rattle.vm_base.specs.declared.ids.ObjectId.{ObjectId}
use Rattle.vm_model.specs.Ranges.{IsBetween, IsTask, IsHost, IsDeclared, IsRange, IsChannel, IsCommand}
use Rattle.vm_model.specs.declared.command.Command.{Command}
use Rattle.vm_model.specs.declared.command.Command.TheVariants as commands
use Rattle.vm_model.specs.declared.fault.ScriptFault.{ScriptFault}
use Rattle.vm_model.specs.declared.fault.ScriptFault.TheVariants.{UnknownWord}
use Rattle.vm_model.specs.declared.script.Declared.{Declared}
use Rattle.vm_text.specs.declared.meaning.CommandWord.{CommandWord}
use Rattle.vm_text.specs.declared.meaning.CommandWord.TheVariants as says
use Rattle.vm_text.specs.declared.meaning.MessageWord.{MessageWord}
use Rattle.vm_text.specs.declared.meaning.MessageWord.TheVariants as sends
use Rattle.vm_text.specs.Words
use Rattle.vm_text.specs.Words.{are_pairs, is_dot, number_below, number_between, number_of, page_bytes_of, page_with, pair_bytes, pieces, within, word_in}
use Rattle.vm_text.specs.Words.{◌>>=◌}
use Rattle.vm_text.specs.Forms
use Rattle.vm_text.specs.Forms.{Heading, access_size, channel_of, command_form, declared_at, down_of, host_count, host_in_word, lock_in_words, message_form}
use Rattle.vm_text.specs.Forms.{message_words, new_name, nothing_said, object_of, one_of, page_number, page_size, range_of, receiver_of, size_of, task_of}
use Rattle.vm_text.specs.Forms.{three_parts, two_parts, up_of}

-- what is read, if anything is, is so
pub data Reads {A E : Type 0} (P : A → Type 0) : Result A E → Type 0 where
  read : {x : A} → P x → Reads P (Ok x)
  stopped : {fault : E} → Reads P (Err fault)

infixr 10 ◌andthen◌
pub ◌andthen◌ : {A B : Type 0} {P : A → Type 0} {Q : B → Type 0} {r : Result A ScriptFault} {f : A → Result B ScriptFault} → Reads P r
    → ((x : A) → P x → Reads Q (f x)) → Reads Q (r >>= f)
(read p) andthen next = next _ p
stopped andthen next = stopped

pub any : {A E : Type 0} (r : Result A E) → Reads (λ x. Unit {0}) r
any (Ok x) = read tt
any (Err fault) = stopped

pub tested : {A E : Type 0} {P : A → Type 0} (t : Bool) (r : Result A E) (fault : E) → (t ≡ true → Reads P r) → Reads P (cond t r (Err fault))
tested true r fault next = next refl
tested false r fault next = stopped

pub untested : {A E : Type 0} {P : A → Type 0} (t : Bool) (r : Result A E) (fault : E) → (t ≡ false → Reads P r) → Reads P (cond t (Err fault) r)
untested true r fault next = stopped
untested false r fault next = next refl

pub either : {A E : Type 0} {P : A → Type 0} (t : Bool) (r s : Result A E) → Reads P r → Reads P s → Reads P (cond t r s)
either true r s one two = one
either false r s one two = two

-- ---- numbers

pub below : (limit : ℕ) (word : List ℕ) → Reads (λ number. number < limit) (number_below limit word)
below limit word = any (number_of word) andthen λ number _. tested (nat_lt number limit) _ _ λ is. read (grind (arith, nat_tests))

pub between : (least most : ℕ) (word : List ℕ) → Reads (IsBetween least most) (number_between least most word)
between least most word = any (number_of word) andthen λ number _. tested (nat_le least number && nat_le number most) _ _ λ is.
    let parts = and_parts (nat_le least number) (nat_le number most) is in
    let low = parts.0 in
    let high = parts.1 in
    read (grind (arith, nat_tests), grind (arith, nat_tests))

pub upto : (most : ℕ) (word : List ℕ) → Reads (λ number. number ≤ most) (number_between 0 most word)
upto most word = any (number_of word) andthen λ number _. tested (nat_le 0 number && nat_le number most) _ _ λ is.
    let parts = and_parts (nat_le 0 number) (nat_le number most) is in
    let high = parts.1 in
    read (grind (arith, nat_tests))

listed : (P : ℕ → Type 0) (ns : List ℕ) (number : ℕ) → AllByRecursion P ns → Reads P (one_of ns number)
listed P [] number all = stopped
listed P (n ∷ ns) number all = elim (number == n) as (λ t. (number == n) ≡ t → Reads P (cond t (Ok number) (one_of ns number))) [
  | true ↦ λ is. let same : n ≡ number = grind (arith, nat_tests) in read (subst P same all.0)
  | false ↦ λ is. listed P ns number all.1
] refl

pub page_sized : (word : List ℕ) → Reads IsPageSize (page_size word)
page_sized word = any (number_of word) andthen λ number _. listed IsPageSize (16 ∷ 32 ∷ 64 ∷ 128 ∷ 256 ∷ 512 ∷ 1024 ∷ 2048 ∷ 4096 ∷ []) number (
  inl refl,
  (
    inr (inl refl),
    (
      inr (inr (inl refl)),
      (
        inr (inr (inr (inl refl))),
        (
          inr (inr (inr (inr (inl refl)))),
          (
            inr (inr (inr (inr (inr (inl refl))))),
            (
              inr (inr (inr (inr (inr (inr (inl refl)))))),
              (inr (inr (inr (inr (inr (inr (inr (inl refl))))))), (inr (inr (inr (inr (inr (inr (inr (inr refl))))))), tt)),
            ),
          ),
        ),
      ),
    ),
  ),
)

pub access_sized : (word : List ℕ) → Reads IsAccessSize (access_size word)
access_sized word =
    any (number_of word) andthen λ number _. listed IsAccessSize (1 ∷ 2 ∷ 4 ∷ 8 ∷ []) number
    (inl refl, (inr (inl refl), (inr (inr (inl refl)), (inr (inr (inr refl)), tt))))

pub locked : (word : List ℕ) → Reads (λ lock. (lock ≤ 3) ⊎ (lock ≡ 8)) (lock_in_words word)
locked word = any (number_of word) andthen λ number _. listed (λ lock. (lock ≤ 3) ⊎ (lock ≡ 8)) (0 ∷ 1 ∷ 2 ∷ 3 ∷ 8 ∷ []) number
    (inl (omega arith), (inl (omega arith), (inl (omega arith), (inl (omega arith), (inr refl, tt)))))

-- a value that so many bytes can spell
spellable : (size value : ℕ) → IsAccessSize size → value ≤ 256 ^ size - 1 → value < 256 ^ size
spellable size value (inl is) most = let h : value ≤ 256 ^ 1 - 1 = rw is at most in rw is (omega arith)
spellable size value (inr (inl is)) most = let h : value ≤ 256 ^ 2 - 1 = rw is at most in rw is (omega arith)
spellable size value (inr (inr (inl is))) most = let h : value ≤ 256 ^ 4 - 1 = rw is at most in rw is (omega arith)
spellable size value (inr (inr (inr is))) most = let h : value ≤ 256 ^ 8 - 1 = rw is at most in rw is (omega arith)

-- ---- fields

tasked : (word : List ℕ) → Reads IsTask (task_of word)
tasked word = below 1024 word andthen λ task is. read is

pub hosted : (heading : Heading) (word : List ℕ) → Reads (IsHost (length heading.frames)) (host_in_word heading word)
hosted heading word = below (length heading.frames) word andthen λ host is. read is

paged : (most : ℕ) (word : List ℕ) → Reads (λ page. page.0 ≤ most) (page_number most word)
paged most word = upto most word andthen λ page is. read is

longer : (o : Option ℕ) (n : ℕ) → IfSome o (λ k. k < n) → IfSome o (λ k. k < suc n)
longer None n less = tt
longer (Some k) n less = omega arith

found : (name : List ℕ) (objects : List Declared) → IfSome (declared_at name objects) (λ k. k < length objects)
found name [] = tt
found name (object ∷ objects) =
    elim (bytes_eq object.name name) as (λ t. IfSome (cond t (Some (length objects)) (declared_at name objects)) (λ k. k < length (object ∷ objects))) [
      | true ↦ omega arith
      | false ↦ longer (declared_at name objects) (length objects) (found name objects)
    ]

named : (heading : Heading) (word : List ℕ) → Reads (IsDeclared (length heading.objects)) (object_of heading word)
named heading word =
    elim (declared_at word heading.objects) as (λ o. IfSome o (λ k. k < length heading.objects)
    → Reads (IsDeclared (length heading.objects)) (elim o as (λ _. Result ObjectId ScriptFault)
    [ None ↦ Err UnknownWord | Some object ↦ Ok (record { 0 = object }) ])) [
      | None ↦ λ is. stopped
      | Some object ↦ λ is. read is
    ] (found word heading.objects)

ranged : (task address bytes : List ℕ) → Reads (λ range. IsRange range.0 range.1 range.2) (range_of task address bytes)
ranged task address bytes = tasked task andthen λ owner one. below (2 ^ 32) address andthen λ start two. upto (2 ^ 32) bytes andthen λ size three.
    read (record { task = one; address = two; bytes = three })

raised : (heading : Heading) (word : List ℕ) → Reads (IsChannel (length heading.frames)) (up_of heading word)
raised heading word =
    any (two_parts (pieces is_dot word)) andthen λ p _. hosted heading p.0 andthen λ host one. below 8192 p.1 andthen λ object two. read (one, two)

lowered : (heading : Heading) (word : List ℕ) → Reads (IsChannel (length heading.frames)) (down_of heading word)
lowered heading word = any (three_parts (pieces is_dot word)) andthen λ p _. hosted heading p.0 andthen λ host one. below 8192 p.1 andthen λ object two.
    below (2 ^ 32) p.2 andthen λ control three. read (one, two, three)

channelled : (heading : Heading) (word : List ℕ) → Reads (IsChannel (length heading.frames)) (channel_of heading word)
channelled heading [] = stopped
channelled heading (letter ∷ word) = either (letter == 117) _ _ (raised heading word) (either (letter == 100) _ _ (lowered heading word) stopped)

received : (heading : Heading) (host name : List ℕ) → Reads (λ to. IsHost (length heading.frames) to.0 × IsDeclared (length heading.objects) to.1)
    (receiver_of heading host name)
received heading host name = hosted heading host andthen λ h one. named heading name andthen λ o two. read (one, two)

padded : (size : ℕ) (bytes : List ℕ) → length bytes ≤ size → length (page_with size bytes) ≡ size
padded size bytes short = rw (length-append bytes (replicate (size - length bytes) 0), length-replicate {A = ℕ} (size - length bytes) 0) (omega arith)

whole_page : (size : ℕ) (word : List ℕ) → Reads (λ bytes. length bytes ≡ size) (page_bytes_of size word)
whole_page size word = either (bytes_eq word (45 ∷ [])) _ _ (read (padded size [] (omega arith))) (tested (are_pairs word) _ _ λ _.
    tested (nat_le (length (pair_bytes word)) size) _ _ λ is. read (padded size (pair_bytes word) (grind (arith, nat_tests))))

-- ---- commands

abbrev pub InReach : Heading → Command → Type 0
InReach heading command = IsCommand (length heading.frames) (length heading.objects) (size_of heading) command

counted : (heading : Heading) (line : List (List ℕ)) → Reads (λ of. IsHost (length heading.frames) of.0 × (of.1 ≤ 4096)) (host_count heading line)
counted heading line = any (Words.two_words line) andthen λ w _. hosted heading w.0 andthen λ host one. upto 4096 w.1 andthen λ count two. read (one, two)

ready_kept : (heading : Heading) (host name : List ℕ) (line : List (List ℕ)) → Reads (InReach heading) (Forms.ready_said heading host name line)
ready_kept heading host name line =
    any (Words.two_words line) andthen λ w _. received heading host name andthen λ to is. any (Words.flag_of w.0) andthen λ cache _.
    upto 3 w.1 andthen λ strategy one. read (is.0, is.1, one)

supply_kept : (heading : Heading) (host name : List ℕ) (line : List (List ℕ)) → Reads (InReach heading) (Forms.supply_said heading host name line)
supply_kept heading host name line = any (Words.four_words line) andthen λ w _. received heading host name andthen λ to is. paged 4095 w.0 andthen λ page one.
    upto 3 w.1 andthen λ lock two. any (Words.flag_of w.2) andthen λ precious _. whole_page (size_of heading) w.3 andthen λ bytes three. read
    (is.0, is.1, (one, two, three))

unavailable_kept : (heading : Heading) (host name : List ℕ) (line : List (List ℕ)) → Reads (InReach heading) (Forms.unavailable_said heading host name line)
unavailable_kept heading host name line =
    any (Words.one_word line) andthen λ w _. received heading host name andthen λ to is. paged 4095 w andthen λ page one. read (is.0, is.1, one)

error_kept : (heading : Heading) (host name : List ℕ) (line : List (List ℕ)) → Reads (InReach heading) (Forms.error_said heading host name line)
error_kept heading host name line = any (Words.two_words line) andthen λ w _. received heading host name andthen λ to is. paged 4095 w.0 andthen λ page one.
    below (2 ^ 32) w.1 andthen λ reason two. read (is.0, is.1, (one, two))

lock_kept : (heading : Heading) (host name : List ℕ) (line : List (List ℕ)) → Reads (InReach heading) (Forms.lock_said heading host name line)
lock_kept heading host name line = any (Words.six_words line) andthen λ w _. received heading host name andthen λ to is. paged 4095 w.0 andthen λ page one.
    upto 4096 w.1 andthen λ count two. upto 2 w.2 andthen λ returns three. any (Words.flag_of w.3) andthen λ flush _. locked w.4 andthen λ lock four.
    any (Words.flag_of w.5) andthen λ reply _. read (is.0, is.1, (one, two, three, four))

attributes_kept : (heading : Heading) (host name : List ℕ) (line : List (List ℕ)) → Reads (InReach heading) (Forms.attributes_said heading host name line)
attributes_kept heading host name line =
    any (Words.three_words line) andthen λ w _. received heading host name andthen λ to is. any (Words.flag_of w.0) andthen λ cache _.
    upto 3 w.1 andthen λ strategy one. any (Words.flag_of w.2) andthen λ reply _. read (is.0, is.1, one)

destroy_kept : (heading : Heading) (host name : List ℕ) (line : List (List ℕ)) → Reads (InReach heading) (Forms.destroy_said heading host name line)
destroy_kept heading host name line =
    any (Words.one_word line) andthen λ w _. received heading host name andthen λ to is. below (2 ^ 32) w andthen λ reason one. read (is.0, is.1, one)

message_kept : (heading : Heading) (word : MessageWord) (host name : List ℕ) (line : List (List ℕ))
    → Reads (InReach heading) (message_form heading word host name line)
message_kept heading sends.Ready host name line = ready_kept heading host name line
message_kept heading sends.Supply host name line = supply_kept heading host name line
message_kept heading sends.Unavailable host name line = unavailable_kept heading host name line
message_kept heading sends.Error host name line = error_kept heading host name line
message_kept heading sends.Lock host name line = lock_kept heading host name line
message_kept heading sends.Attributes host name line = attributes_kept heading host name line
message_kept heading sends.Destroy host name line = destroy_kept heading host name line

say_kept : (heading : Heading) (line : List (List ℕ)) → Reads (InReach heading) (Forms.say_line heading line)
say_kept heading [] = stopped
say_kept heading (host ∷ []) = stopped
say_kept heading (host ∷ name ∷ []) = stopped
say_kept heading (host ∷ name ∷ word ∷ line) = elim (word_in message_words word) as (λ o. Reads (InReach heading) (elim o as (λ _. Result Command ScriptFault) [
  | None ↦ nothing_said heading host name
  | Some meaning ↦ message_form heading meaning host name line
])) [
  | None ↦ received heading host name andthen λ to is. stopped
  | Some meaning ↦ message_kept heading meaning host name line
]

armed : (heading : Heading) (files : Bool) (count : ℕ) → IsBetween 1 1000000 count
    → Reads {E = ScriptFault} (InReach heading) (Ok (cond files (commands.FailFiles count) (commands.FailPaging count)))
armed heading true count is = read is
armed heading false count is = read is

fail_kept : (heading : Heading) (line : List (List ℕ)) → Reads (InReach heading) (Forms.fail_line line)
fail_kept heading line =
    any (Words.two_words line) andthen λ w _. any (Forms.is_files w.0) andthen λ files _. between 1 1000000 w.1 andthen λ count is. armed heading files count is

pub command_kept : (heading : Heading) (word : CommandWord) (line : List (List ℕ)) → Reads (InReach heading) (command_form heading word line)
command_kept heading says.Task line =
    any (Words.two_words line) andthen λ w _. tasked w.0 andthen λ task one. hosted heading w.1 andthen λ host two. read (one, two)
command_kept heading says.Fork line = any (Words.two_words line) andthen λ w _. tasked w.0 andthen λ task one. tasked w.1 andthen λ child two. read (one, two)
command_kept heading says.Exit line = any (Words.one_word line) andthen λ w _. tasked w andthen λ task one. read one
command_kept heading says.Allocate line = any (Words.three_words line) andthen λ w _. ranged w.0 w.1 w.2 andthen λ range one. read one
command_kept heading says.Map line = any (Words.five_words line) andthen λ w _. ranged w.0 w.1 w.2 andthen λ range one. named heading w.3 andthen λ object two.
    upto 4096 w.4 andthen λ offset three. read (one, two, three)
command_kept heading says.Deallocate line = any (Words.three_words line) andthen λ w _. ranged w.0 w.1 w.2 andthen λ range one. read one
command_kept heading says.Protect line =
    any (Words.four_words line) andthen λ w _. ranged w.0 w.1 w.2 andthen λ range one. any (Forms.prot_of w.3) andthen λ prot _. read one
command_kept heading says.Inherit line =
    any (Words.four_words line) andthen λ w _. ranged w.0 w.1 w.2 andthen λ range one. any (Forms.inherit_of w.3) andthen λ inherit _. read one
command_kept heading says.Load line = any (Words.three_words line) andthen λ w _. tasked w.0 andthen λ task one. below (2 ^ 32) w.1 andthen λ address two.
    access_sized w.2 andthen λ size three. read (record { task = one; address = two; size = three })
command_kept heading says.Store line = any (Words.four_words line) andthen λ w _. tasked w.0 andthen λ task one. below (2 ^ 32) w.1 andthen λ address two.
    access_sized w.2 andthen λ size three. upto (256 ^ size - 1) w.3 andthen λ value four. read
    (record { task = one; address = two; size = three }, spellable size value three four)
command_kept heading says.Copy line = any (Words.five_words line) andthen λ w _. ranged w.0 w.1 w.2 andthen λ range one. tasked w.3 andthen λ target two.
    below (2 ^ 32) w.4 andthen λ to three. read (one, two, three)
command_kept heading says.Take line = any (Words.one_word line) andthen λ w _. channelled heading w andthen λ channel one. read one
command_kept heading says.Settle line = any (Words.one_word line) andthen λ w _. upto 1000000 w andthen λ count one. read one
command_kept heading says.Pageout line = counted heading line andthen λ of one. read one
command_kept heading says.Clean line = any (Words.four_words line) andthen λ w _. named heading w.0 andthen λ object one. paged 4096 w.1 andthen λ page two.
    upto 4096 w.2 andthen λ count three. any (Words.flag_of w.3) andthen λ flush _. read (one, two, three)
command_kept heading says.Cache line =
    any (Words.two_words line) andthen λ w _. named heading w.0 andthen λ object one. any (Words.flag_of w.1) andthen λ cache _. read one
command_kept heading says.Wire line = counted heading line andthen λ of one. read one
command_kept heading says.Unwire line = counted heading line andthen λ of one. read one
command_kept heading says.Fail line = fail_kept heading line
command_kept heading says.Say line = say_kept heading line
