-- Temporary regions are used on one host, and what is declared stays as it was.
use Rattle.std.proofs.Common.{◌≡◌, ℕ, ◌+◌, ◌<◌, ◌≤◌, ◌==◌, ◌&&◌, ◌||◌, Bool, true, false, not, List, [], ◌∷◌, Option, Some, None, refl, ap, sym, ◌∙◌, arith}
use Rattle.std.proofs.lemmas.Bool.Decides.{nat_tests}
use Rattle.std.specs.Prelude.{if◌then◌else◌, nat_lt}
use Rattle.vm_base.specs.declared.entry.Entry.{Entry}
use Rattle.vm_base.specs.declared.ids.Inherit.{Inherit}
use Rattle.vm_base.specs.declared.ids.Prot.{Prot}
use Rattle.vm_base.specs.declared.ids.RegionId.{RegionId}
use Rattle.vm_base.specs.declared.ids.TaskId.{TaskId}
use Rattle.vm_base.specs.Entries.{entered, inherited, protected, removed}
use Rattle.vm_model.specs.declared.event.Event.{Event}
use Rattle.vm_model.specs.declared.event.Event.TheVariants as event
use Rattle.vm_model.specs.declared.script.Header.{Header}
use Rattle.vm_model.specs.Homes.{home_of}
use Rattle.vm_model.specs.Local.{is_on}
use Rattle.vm_model.specs.Moments.{EachEvent}
use Rattle.vm_model.specs.Named.{named}
use Rattle.vm_model.specs.Regions.{backing_of, made, next_object, next_region, region_of}
use Rattle.vm_model.specs.Rows.{AllRows, found_row, rows_entered, rows_map, rows_rewritten}
use Rattle.vm_model.specs.Tasks.{entries_of, host_of}
use Rattle.vm_legal.specs.Accesses.{At}
use Rattle.vm_legal.specs.Homes.{EntersNext, enters, is_open, is_used, starts_copy}
use Rattle.vm_legal.specs.Licences.{CopiesFile, HasCause}
use Rattle.vm_legal.specs.Living.{lives_on}
use Rattle.vm_legal.specs.Outside.{Outside, is_file}
use Rattle.vm_legal.specs.Used.{in_use, is_kept, made_here}
use Rattle.vm_abroad.specs.Sound.{IsFiled, Sound}
use Rattle.vm_abroad.proofs.Home.{home_stays, home_used, homes_next, homes_start, not_newest, same_some}
pub use Rattle.vm_abroad.proofs.Numbers.{objects_rise, regions_rise, unlike}

-- tests

pub both_left : (a b : Bool) → (a && b) ≡ true → a ≡ true
both_left true b is = refl
both_left false b is = is

both_right : (a b : Bool) → (a && b) ≡ true → b ≡ true
both_right true b is = is
both_right false b is = absurd (let bad : false ≡ true = is in cc)

no_not : (b : Bool) → not b ≡ true → b ≡ false
no_not false is = refl
no_not true is = absurd (let bad : false ≡ true = is in cc)

-- in use, and used

pub use_of : (header : Header) (h r : ℕ) (past : List Event) → is_used header h r past ≡ true → in_use header h r past ≡ true
use_of header h r past is = both_left (in_use header h r past) (not (is_open r past)) is

pub shut_of : (header : Header) (h r : ℕ) (past : List Event) → is_used header h r past ≡ true → is_open r past ≡ false
shut_of header h r past is = no_not (is_open r past) (both_right (in_use header h r past) (not (is_open r past)) is)

pub used_of : (header : Header) (h r : ℕ) (past : List Event) → is_open r past ≡ false → in_use header h r past ≡ true → is_used header h r past ≡ true
used_of header h r past shut is = rw (shut, is) refl

-- behind a region that was made stands its entry
pub shut_before : (r : ℕ) (e : Event) (past : List Event) → EntersNext e past → enters r e ≡ false → is_open r past ≡ false
shut_before r e past next other = by_test (is_open r past) refl
  where
    by_test : (b : Bool) → is_open r past ≡ b → b ≡ false
    by_test false is = refl
    by_test true is = absurd (let bad : true ≡ false = sym (next r is) ∙ other in cc)

-- a task lives on one host
pub one_home : (g h task : ℕ) (past : List Event) → lives_on g task past ≡ true → lives_on h task past ≡ true → g ≡ h
one_home g h task past first second = go (host_of task past) first second
  where
    go : (x : Option ℕ) → is_on g x ≡ true → is_on h x ≡ true → g ≡ h
    go None one two = absurd (let bad : false ≡ true = one in cc)
    go (Some own) one two = grind (arith, nat_tests)

-- a region in use was made

made_next : (header : Header) (outside : Outside) (e : Event) (past : List Event) → Sound header past → HasCause header outside e past → (h r : ℕ)
    → named header ≤ r → in_use header h r (e ∷ past) ≡ true → r < next_region header (e ∷ past)
made_next header outside (event.RegionMade new object pages) past sound cause h r temporary used = by_test (r == new.0) refl used
  where
    by_test : (b : Bool) → (r == new.0) ≡ b → (if b then made_here h past else in_use header h r past) ≡ true → r < next_region header past + 1
    by_test true is now = let it : r ≡ new.0 = grind (arith, nat_tests) in let number = cause.1.0 in omega (arith, it, number)
    by_test false is now = let old = sound.made h r temporary now in omega (arith, old)
made_next header outside (event.RegionCopied new source offset pages) past sound cause h r temporary used = by_test (r == new.0) refl used
  where
    by_test : (b : Bool) → (r == new.0) ≡ b → (if b then in_use header h source.0 past else in_use header h r past) ≡ true → r < next_region header past + 1
    by_test true is now = let it : r ≡ new.0 = grind (arith, nat_tests) in let number = cause.1.next in omega (arith, it, number)
    by_test false is now = let old = sound.made h r temporary now in omega (arith, old)
made_next header outside (event.Delayed new source offset pages copy) past sound cause h r temporary used = by_test (r == new.0) refl used
  where
    by_test : (b : Bool) → (r == new.0) ≡ b → (if b then in_use header h source.0 past else in_use header h r past) ≡ true → r < next_region header past + 1
    by_test true is now = let it : r ≡ new.0 = grind (arith, nat_tests) in let number = cause.1.next in omega (arith, it, number)
    by_test false is now = let old = sound.made h r temporary now in omega (arith, old)
made_next header outside (event.Entered task address bytes entered offset prot inherit) past sound cause h r temporary used =
    sound.made h r temporary (both_right (not (r == entered.0) || lives_on h task.0 past) (in_use header h r past) used)
made_next header outside (event.Removed task address bytes) past sound cause h r temporary used =
    sound.made h r temporary (both_right (is_kept header r (event.Removed task address bytes ∷ past)) (in_use header h r past) used)
made_next header outside (event.TaskEnded task) past sound cause h r temporary used =
    sound.made h r temporary (both_right (is_kept header r (event.TaskEnded task ∷ past)) (in_use header h r past) used)
made_next header outside (event.Failed task object page) past sound cause h r temporary used =
    sound.made h r temporary (both_right (is_kept header r (event.Failed task object page ∷ past)) (in_use header h r past) used)
made_next header outside other past sound cause h r temporary used = sound.made h r temporary used

-- on one host

-- an entry on a file is on its home
pub filed_home : (header : Header) (task address : ℕ) (past : List Event) → Sound header past → (at : At header task address past)
    → is_file header at.entry.region.0 ≡ true → home_of at.entry.region.0 past ≡ Some at.host
filed_home header task address past sound at file =
    (found_row (λ row. IsFiled header at.host row.region.0 past) address (entries_of header.size task past) at.entry (sound.filed task at.host at.lives)
    at.found).is file

-- a task has an entry on a file: the file is in use on its host alone
pub filed_on : (header : Header) (h task address : ℕ) (past : List Event) → Sound header past → (at : At header task address past)
    → is_file header at.entry.region.0 ≡ true → in_use header h at.entry.region.0 past ≡ true → h ≡ at.host
filed_on header h task address past sound at file used =
    sound.homes.stay h at.host at.entry.region.0 used (filed_home header task address past sound at file)

-- so is one that is copied
pub copied_on : (header : Header) (h region source offset pages copy : ℕ) (past : List Event) → Sound header past
    → (copies : CopiesFile header region source offset pages copy past) → in_use header h source past ≡ true → h ≡ copies.at.host
copied_on header h region source offset pages copy past sound copies used =
    filed_on header h copies.task copies.address past sound copies.at (ap (is_file header) (sym copies.source_is) ∙ copies.file)
    (ap (λ z. in_use header h z past) (sym copies.source_is) ∙ used)

made_apart : (g h : ℕ) (past : List Event) → (made_here g past && not (not (starts_copy past))) ≡ true
    → (made_here h past && not (not (starts_copy past))) ≡ true → g ≡ h
made_apart g h (event.BegunCopy task address bytes to ∷ past) one two =
    one_home g h task.0 past (both_left (lives_on g task.0 past) true one) (both_left (lives_on h task.0 past) true two)
made_apart g h [] one two = absurd (let bad : false ≡ true = one in cc)
made_apart g h (e ∷ past) one two = absurd (let bad : false ≡ true = one in cc)

-- an event that makes no region, and enters this one on no host, leaves at most what was used
was_used : (header : Header) (h r : ℕ) (e : Event) (past : List Event) → EntersNext e past → enters r e ≡ false → (in_use header h r past && true) ≡ true
    → is_used header h r past ≡ true
was_used header h r e past next other is = used_of header h r past (shut_before r e past next other) (both_left (in_use header h r past) true is)

kept_used : (header : Header) (h r : ℕ) (kept : Bool) (e : Event) (past : List Event) → EntersNext e past → enters r e ≡ false
    → ((kept && in_use header h r past) && true) ≡ true → is_used header h r past ≡ true
kept_used header h r kept e past next other is =
    used_of header h r past (shut_before r e past next other) (both_right kept (in_use header h r past) (both_left (kept && in_use header h r past) true is))

apart_next : (header : Header) (outside : Outside) (e : Event) (past : List Event) → Sound header past → HasCause header outside e past → EntersNext e past
    → (g h r : ℕ) → named header ≤ r → is_used header g r (e ∷ past) ≡ true → is_used header h r (e ∷ past) ≡ true → g ≡ h
apart_next header outside (event.RegionMade new object pages) past sound cause next g h r temporary one two = by_test (r == new.0) one two
  where
    by_test : (b : Bool) → ((if b then made_here g past else in_use header g r past) && not (b && not (starts_copy past))) ≡ true
        → ((if b then made_here h past else in_use header h r past) && not (b && not (starts_copy past))) ≡ true → g ≡ h
    by_test true one two = made_apart g h past one two
    by_test false one two =
        sound.apart g h r temporary (was_used header g r (event.RegionMade new object pages) past next refl one)
        (was_used header h r (event.RegionMade new object pages) past next refl two)
apart_next header outside (event.RegionCopied new source offset pages) past sound cause next g h r temporary one two = by_test (r == new.0) one two
  where
    by_test : (b : Bool) → ((if b then in_use header g source.0 past else in_use header g r past) && true) ≡ true
        → ((if b then in_use header h source.0 past else in_use header h r past) && true) ≡ true → g ≡ h
    by_test true one two =
        sound.apart g h source.0 cause.1.temporary (was_used header g source.0 (event.RegionCopied new source offset pages) past next refl one)
        (was_used header h source.0 (event.RegionCopied new source offset pages) past next refl two)
    by_test false one two =
        sound.apart g h r temporary (was_used header g r (event.RegionCopied new source offset pages) past next refl one)
        (was_used header h r (event.RegionCopied new source offset pages) past next refl two)
apart_next header outside (event.Delayed new source offset pages copy) past sound cause next g h r temporary one two = by_test (r == new.0) one two
  where
    e : Event
    e = event.Delayed new source offset pages copy

    by_test : (b : Bool) → ((if b then in_use header g source.0 past else in_use header g r past) && true) ≡ true
        → ((if b then in_use header h source.0 past else in_use header h r past) && true) ≡ true → g ≡ h
    by_test true one two =
        copied_on header g new.0 source.0 offset pages copy.0 past sound cause.1 (both_left (in_use header g source.0 past) true one)
        ∙ sym (copied_on header h new.0 source.0 offset pages copy.0 past sound cause.1 (both_left (in_use header h source.0 past) true two))
    by_test false one two = sound.apart g h r temporary (was_used header g r e past next refl one) (was_used header h r e past next refl two)
apart_next header outside (event.Entered task address bytes entered offset prot inherit) past sound cause next g h r temporary one two =
    by_test (r == entered.0) refl one two
  where
    by_test : (b : Bool) → (r == entered.0) ≡ b → (((not b || lives_on g task.0 past) && in_use header g r past) && true) ≡ true
        → (((not b || lives_on h task.0 past) && in_use header h r past) && true) ≡ true → g ≡ h
    by_test true is one two =
        one_home g h task.0 past (both_left (lives_on g task.0 past) (in_use header g r past)
        (both_left (lives_on g task.0 past && in_use header g r past) true one))
        (both_left (lives_on h task.0 past) (in_use header h r past) (both_left (lives_on h task.0 past && in_use header h r past) true two))
    by_test false is one two =
        let e : Event = event.Entered task address bytes entered offset prot inherit in
        sound.apart g h r temporary (was_used header g r e past next is one) (was_used header h r e past next is two)
apart_next header outside (event.Removed task address bytes) past sound cause next g h r temporary one two =
    let e : Event = event.Removed task address bytes in
    let kept : Bool = is_kept header r (e ∷ past) in
    sound.apart g h r temporary (kept_used header g r kept e past next refl one) (kept_used header h r kept e past next refl two)
apart_next header outside (event.TaskEnded task) past sound cause next g h r temporary one two =
    let e : Event = event.TaskEnded task in
    let kept : Bool = is_kept header r (e ∷ past) in
    sound.apart g h r temporary (kept_used header g r kept e past next refl one) (kept_used header h r kept e past next refl two)
apart_next header outside (event.Failed task object page) past sound cause next g h r temporary one two =
    let e : Event = event.Failed task object page in
    let kept : Bool = is_kept header r (e ∷ past) in
    sound.apart g h r temporary (kept_used header g r kept e past next refl one) (kept_used header h r kept e past next refl two)
apart_next header outside other past sound cause next g h r temporary one two =
    sound.apart g h r temporary (was_used header g r other past next refl one) (was_used header h r other past next refl two)

-- what is declared

-- no mark is left where a mark may have gone
pub cleared : {mark : Bool} (gone : Bool) → mark ≡ false → (if gone then false else mark) ≡ false
cleared true none = refl
cleared false none = none

unmarked_next : (header : Header) (outside : Outside) (e : Event) (past : List Event) → Sound header past → HasCause header outside e past → (r : ℕ)
    → r < named header → (region_of header r (e ∷ past)).mark ≡ false
unmarked_next header outside (event.RegionMade new object pages) past sound cause r declared =
    let number = cause.1.0 in
    let more = sound.named_regions in
    let other : (r == new.0) ≡ false = unlike r new.0 (λ same. omega (arith, same, number, more, declared)) in
    rw other (sound.unmarked r declared)
unmarked_next header outside (event.RegionCopied new source offset pages) past sound cause r declared =
    let number = cause.1.next in
    let more = sound.named_regions in
    let temporary = cause.1.temporary in
    let other : (r == new.0) ≡ false = unlike r new.0 (λ same. omega (arith, same, number, more, declared)) in
    let apart : (r == source.0) ≡ false = unlike r source.0 (λ same. omega (arith, same, temporary, declared)) in
    rw (other, apart) (sound.unmarked r declared)
unmarked_next header outside (event.Delayed new source offset pages copy) past sound cause r declared =
    let number = cause.1.next in
    let more = sound.named_regions in
    let other : (r == new.0) ≡ false = unlike r new.0 (λ same. omega (arith, same, number, more, declared)) in
    rw other (sound.unmarked r declared)
unmarked_next header outside (event.Shadowed changed new old) past sound cause r declared = cleared (r == changed.0) (sound.unmarked r declared)
unmarked_next header outside (event.Unmarked changed) past sound cause r declared = cleared (r == changed.0) (sound.unmarked r declared)
unmarked_next header outside other past sound cause r declared = sound.unmarked r declared

-- a region that gets a shadow is marked, so it is none of these
pub no_shadow : (header : Header) (r changed : ℕ) (past : List Event) → Sound header past → r < named header → (region_of header changed past).mark ≡ true
    → (r == changed) ≡ false
no_shadow header r changed past sound declared marked =
    unlike r changed (λ same. let bad : false ≡ true = sym (sound.unmarked r declared)
    ∙ (ap (λ z. (region_of header z past).mark) same ∙ marked) in absurd (cc))

tops_next : (header : Header) (outside : Outside) (e : Event) (past : List Event) → Sound header past → HasCause header outside e past → (r : ℕ)
    → r < named header → (region_of header r (e ∷ past)).top ≡ r
tops_next header outside (event.RegionMade new object pages) past sound cause r declared =
    let number = cause.1.0 in
    let more = sound.named_regions in
    let other : (r == new.0) ≡ false = unlike r new.0 (λ same. omega (arith, same, number, more, declared)) in
    rw other (sound.tops r declared)
tops_next header outside (event.RegionCopied new source offset pages) past sound cause r declared =
    let number = cause.1.next in
    let more = sound.named_regions in
    let other : (r == new.0) ≡ false = unlike r new.0 (λ same. omega (arith, same, number, more, declared)) in
    rw other (sound.tops r declared)
tops_next header outside (event.Delayed new source offset pages copy) past sound cause r declared =
    let number = cause.1.next in
    let more = sound.named_regions in
    let other : (r == new.0) ≡ false = unlike r new.0 (λ same. omega (arith, same, number, more, declared)) in
    rw other (sound.tops r declared)
tops_next header outside (event.Shadowed changed new old) past sound cause r declared =
    let other : (r == changed.0) ≡ false = no_shadow header r changed.0 past sound declared cause.1.marked in
    rw other (sound.tops r declared)
tops_next header outside other past sound cause r declared = sound.tops r declared

bare_next : (header : Header) (outside : Outside) (e : Event) (past : List Event) → Sound header past → HasCause header outside e past → (o : ℕ)
    → o < named header → (backing_of header o (e ∷ past)).backed ≡ false
bare_next header outside (event.Shadowed changed new old) past sound cause o declared =
    let number = cause.1.next in
    let more = sound.named_objects in
    let other : (o == new.0) ≡ false = unlike o new.0 (λ same. omega (arith, same, number, more, declared)) in
    rw other (sound.bare o declared)
bare_next header outside (event.Merged upper lower) past sound cause o declared =
    let pair = cause.1.pair in
    let other : (o == upper.0) ≡ false = unlike o upper.0 (λ same. absurd (let bad : false ≡ true = sym (sound.bare o declared)
    ∙ (ap (λ z. (backing_of header z past).backed) same ∙ pair.backed) in cc)) in
    rw other (sound.bare o declared)
bare_next header outside (event.Delayed new source offset pages copy) past sound cause o declared =
    let number = cause.1.new in
    let more = sound.named_objects in
    let other : (o == copy.0) ≡ false = unlike o copy.0 (λ same. omega (arith, same, number, more, declared)) in
    rw (other, not_newest header o source.0 past sound.homes (sound.bare o declared)) (sound.bare o declared)
bare_next header outside other past sound cause o declared = sound.bare o declared

-- entries on files

filed_entered : (header : Header) (outside : Outside) (owner : TaskId) (address bytes : ℕ) (region : RegionId) (offset : ℕ) (prot : Prot) (inherit : Inherit)
    (past : List Event) → Sound header past → HasCause header outside (event.Entered owner address bytes region offset prot inherit) past
    → (host : ℕ) → host_of owner.0 past ≡ Some host
    → IsFiled header host region.0 (event.Entered owner address bytes region offset prot inherit ∷ past)
filed_entered header outside owner address bytes region offset prot inherit past sound cause host lives file =
    let one : cause.1.host ≡ host = same_some cause.1.host host (sym cause.1.lives ∙ lives) in
    home_used header host owner address bytes region offset prot inherit past sound.homes
    (ap (λ z. in_use header z region.0 past) (sym one) ∙ cause.1.file file) lives

abbrev Filed : Header → ℕ → List Event → List Entry → Type 0
Filed header host past rows = AllRows (λ row. IsFiled header host row.region.0 past) rows

filed_later : (header : Header) (host : ℕ) (e : Event) (past : List Event) (rows : List Entry) → Filed header host past rows → Filed header host (e ∷ past) rows
filed_later header host e past rows filed =
    rows_map (λ row. IsFiled header host row.region.0 past) (λ row. IsFiled header host row.region.0 (e ∷ past))
    (λ row is file. home_stays row.region.0 host e past (is file)) rows filed

filed_next : (header : Header) (outside : Outside) (e : Event) (past : List Event) → Sound header past → HasCause header outside e past → (task host : ℕ)
    → host_of task (e ∷ past) ≡ Some host → Filed header host (e ∷ past) (entries_of header.size task (e ∷ past))
filed_next header outside (event.TaskMade made at) past sound cause task host lives = by_test (made.0 == task) lives
  where
    by_test : (b : Bool) → (if b then Some at.0 else host_of task past) ≡ Some host
        → Filed header host (event.TaskMade made at ∷ past) (if b then [] else entries_of header.size task past)
    by_test true lives = tt
    by_test false lives = filed_later header host (event.TaskMade made at) past (entries_of header.size task past) (sound.filed task host lives)
filed_next header outside (event.TaskEnded gone) past sound cause task host lives = by_test (gone.0 == task) lives
  where
    by_test : (b : Bool) → (if b then None else host_of task past) ≡ Some host
        → Filed header host (event.TaskEnded gone ∷ past) (if b then [] else entries_of header.size task past)
    by_test true lives = tt
    by_test false lives = filed_later header host (event.TaskEnded gone) past (entries_of header.size task past) (sound.filed task host lives)
filed_next header outside (event.Entered owner address bytes region offset prot inherit) past sound cause task host lives = by_test (owner.0 == task) refl
  where
    e : Event
    e = event.Entered owner address bytes region offset prot inherit

    new : Entry
    new = record { address = address; bytes = bytes; region = region; offset = offset; prot = prot; inherit = inherit }

    later : Filed header host (e ∷ past) (entries_of header.size task past)
    later = filed_later header host e past (entries_of header.size task past) (sound.filed task host lives)

    by_test : (b : Bool) → (owner.0 == task) ≡ b
        → Filed header host (e ∷ past) (if b then entered new (entries_of header.size task past) else entries_of header.size task past)
    by_test true is =
        let same : task ≡ owner.0 = grind (arith, nat_tests) in
        rows_entered (λ row. IsFiled header host row.region.0 (e ∷ past)) new (entries_of header.size task past)
        (filed_entered header outside owner address bytes region offset prot inherit past sound cause host (ap (λ z. host_of z past) (sym same) ∙ lives)) later
    by_test false is = later
filed_next header outside (event.Removed owner address bytes) past sound cause task host lives = by_test (owner.0 == task)
  where
    e : Event
    e = event.Removed owner address bytes

    later : Filed header host (e ∷ past) (entries_of header.size task past)
    later = filed_later header host e past (entries_of header.size task past) (sound.filed task host lives)

    by_test : (b : Bool) → Filed header host (e ∷ past) (if b then removed header.size address bytes (entries_of header.size task past) else entries_of
        header.size task past)
    by_test true =
        rows_rewritten header.size (λ row. IsFiled header host row.region.0 (e ∷ past)) (λ row. []) (λ row start end is low less high. is) (λ row is. tt)
        address bytes (entries_of header.size task past) later
    by_test false = later
filed_next header outside (event.Protected owner address bytes prot) past sound cause task host lives = by_test (owner.0 == task)
  where
    e : Event
    e = event.Protected owner address bytes prot

    later : Filed header host (e ∷ past) (entries_of header.size task past)
    later = filed_later header host e past (entries_of header.size task past) (sound.filed task host lives)

    by_test : (b : Bool) → Filed header host (e ∷ past) (if b then protected header.size address bytes prot (entries_of header.size task past) else entries_of
        header.size task past)
    by_test true =
        rows_rewritten header.size (λ row. IsFiled header host row.region.0 (e ∷ past)) (λ row. record row { prot = prot } ∷ [])
        (λ row start end is low less high. is) (λ row is. (is, tt)) address bytes (entries_of header.size task past) later
    by_test false = later
filed_next header outside (event.Inherited owner address bytes inherit) past sound cause task host lives = by_test (owner.0 == task)
  where
    e : Event
    e = event.Inherited owner address bytes inherit

    later : Filed header host (e ∷ past) (entries_of header.size task past)
    later = filed_later header host e past (entries_of header.size task past) (sound.filed task host lives)

    by_test : (b : Bool) → Filed header host (e ∷ past) (if b then inherited header.size address bytes inherit (entries_of header.size task past) else
        entries_of header.size task past)
    by_test true =
        rows_rewritten header.size (λ row. IsFiled header host row.region.0 (e ∷ past)) (λ row. record row { inherit = inherit } ∷ [])
        (λ row start end is low less high. is) (λ row is. (is, tt)) address bytes (entries_of header.size task past) later
    by_test false = later
filed_next header outside other past sound cause task host lives =
    filed_later header host other past (entries_of header.size task past) (sound.filed task host lives)

-- a region that is made is over a new object

opens_next : (header : Header) (outside : Outside) (e : Event) (past : List Event) → Sound header past → HasCause header outside e past → (r : ℕ)
    → is_open r (e ∷ past) ≡ true → (backing_of header (region_of header r (e ∷ past)).top (e ∷ past)).backed ≡ false
opens_next header outside (event.RegionMade region object pages) past sound cause r opened =
    let test : (r == region.0) ≡ true = both_left (r == region.0) (not (starts_copy past)) opened in
    let next : object.0 ≡ next_object header past = cause.1.1 in
    ap (λ b. (backing_of header (made b object.0 pages (region_of header r past)).top past).backed) test ∙ sound.homes.unmade object.0 (omega (arith, next))
opens_next header outside other past sound cause r opened = absurd (let bad : false ≡ true = opened in cc)

pub sound_next : (header : Header) (outside : Outside) (e : Event) (past : List Event) → Sound header past → HasCause header outside e past → EntersNext e past
    → Sound header (e ∷ past)
sound_next header outside e past sound cause next = record {
  named_regions = let rise = regions_rise header e past in let was = sound.named_regions in omega (arith, rise, was);
  named_objects = let rise = objects_rise header e past in let was = sound.named_objects in omega (arith, rise, was);
  made = made_next header outside e past sound cause;
  apart = apart_next header outside e past sound cause next;
  unmarked = unmarked_next header outside e past sound cause;
  tops = tops_next header outside e past sound cause;
  bare = bare_next header outside e past sound cause;
  homes = homes_next header outside e past cause sound.homes;
  filed = filed_next header outside e past sound cause;
  opens = opens_next header outside e past sound cause;
}

pub sound_start : (header : Header) → Sound header []
sound_start header = record {
  named_regions = omega arith;
  named_objects = omega arith;
  made = made_first;
  apart = λ g h r temporary one two. let small = made_first g r temporary (both_left (is_file header r) true one) in absurd (omega (arith, small, temporary));
  unmarked = λ r declared. refl;
  tops = λ r declared. refl;
  bare = λ o declared. refl;
  homes = homes_start header;
  filed = λ task host lives. absurd (let bad : None ≡ Some host = lives in cc);
  opens = λ r opened. absurd (let bad : false ≡ true = opened in cc);
}
  where
    made_first : (h r : ℕ) → named header ≤ r → is_file header r ≡ true → r < named header
    made_first h r temporary file = let less = both_left (nat_lt r (named header)) _ file in grind (arith, nat_tests)

pub sound_of : (header : Header) (outside : Outside) (past : List Event) → EachEvent (HasCause header outside) past → EachEvent EntersNext past
    → Sound header past
sound_of header outside [] causes next = sound_start header
sound_of header outside (e ∷ past) causes next = sound_next header outside e past (sound_of header outside past causes.1 next.1) causes.0 next.0
