-- What was read is what the source had, and how a run ends tells the status.
use Rattle.std.proofs.Common.{◌≡◌, ℕ, ◌<◌, ◌≤◌, ◌^◌, ◌⊎◌, inl, inr, List, [], ◌++◌, length, true, refl, ap, sym, ◌∙◌, subst, arith, Some, Option, Ok, Err}
use Rattle.std.proofs.Common.{nat_lt}
use Rattle.std.specs.Prelude.{IfSome, IsErrOf, OnOk, Result}
use Rattle.vm_base.specs.declared.failure.WriteStop.{WriteStop}
use Rattle.vm_base.specs.declared.failure.WriteStop.TheVariants as stop
use Rattle.std.specs.Io.KnownBytes.{Appends, Consumes, IsAtEnd}
use Rattle.std.proofs.KnownBytes.{Consumes-all}
use Rattle.std.proofs.lemmas.Bool.Decides.{nat_tests}
use Rattle.vm_model.specs.declared.event.Event.{Event}
use Rattle.vm_model.specs.declared.fault.ScriptFault.{ScriptFault}
use Rattle.vm_model.specs.declared.fault.ScriptFault.TheVariants as fault
use Rattle.vm_base.specs.Limits.{most_pages}
use Rattle.vm_model.specs.declared.script.Declared.{Declared}
use Rattle.vm_model.specs.declared.script.Header.{Header}
use Rattle.vm_model.specs.declared.script.Script.{Script}
use Rattle.vm_model.specs.Named.{named}
use Rattle.vm_model.proofs.Names.{named_once}
use Rattle.pg_file.specs.Stands.{name_kept}
use Rattle.std.specs.List.{All}
use Rattle.vm_model.specs.Ranges.{IsBetween, KeepsRanges}
use Rattle.vm_text.specs.Script.{DeclaresNoTemporary, Whole, script_of, whole_script}
use Rattle.vm_top.specs.declared.top.Status.{Status}
use Rattle.vm_top.specs.declared.top.Status.TheVariants as status
use Rattle.vm_top.specs.declared.words.Report.{Report}
use Rattle.vm_top.specs.declared.words.Report.TheVariants as reports
use Rattle.vm_top.specs.Ending.{EndsAs, RunHasEnded, Tells, status_after}
use Rattle.vm_top.specs.Reading.{ReadWhole}
use Rattle.vm_top.specs.Run.{IsOutOfEvents, IsRunnable, IsWholeRun, report_text}
use Rattle.vm_legal.specs.Legal.{CanonicalSoFar}
use Rattle.vm_legal.specs.Outside.{Outside}
use Rattle.vm_top.specs.Top.{IsBad, IsReadFrom, IsBadFrom, NothingRun, IsRunDone, IsEventLimit, IsOutputFault, IsNoMemory, WroteFailed, bad_text}
use Rattle.vm_top.specs.Writing.{WroteStart}
use Rattle.vm_legal.proofs.Files.{file_named}
use Rattle.vm_top.proofs.Closing.{full_so_far, whole_so_far}
use Rattle.vm_top.proofs.Readings.{no_longer}
use Rattle.vm_top.proofs.Writings.{start_all}

long_bad : (bytes : List ℕ) → 1048576 < length bytes → script_of bytes ≡ Err (0, fault.TooLong)
long_bad bytes long = let test : nat_lt 1048576 (length bytes) ≡ true = grind (arith, nat_tests) in rw test refl

whole_read : (told after : Option (List ℕ)) (bytes whole : List ℕ) → Consumes told after bytes → IsAtEnd after → told ≡ Some whole → bytes ≡ whole
whole_read told after bytes whole consumed end is =
    let all : IfSome told (λ xs. bytes ≡ [] ++ xs) = Consumes-all told after bytes [] bytes consumed end refl in
    subst (λ (z : Option (List ℕ)). IfSome z (λ xs. bytes ≡ [] ++ xs)) is all

-- the bytes of the source, and those that were read of them, spell the same
read_same : (told after : Option (List ℕ)) (bytes whole : List ℕ) → ReadWhole told after bytes → told ≡ Some whole → script_of whole ≡ script_of bytes
read_same told after bytes whole read is =
    let sizes : (length bytes ≤ 1048576) ⊎ (1048576 < length bytes) = grind arith in
    elim sizes [
      | inl short ↦ ap script_of (sym (whole_read told after bytes whole read.consumed (read.all short) is))
      | inr long ↦
          let consumed : Consumes (Some whole) after bytes = subst (λ (z : Option (List ℕ)). Consumes z after bytes) is read.consumed in
          let longer = no_longer after bytes whole consumed in
          long_bad whole (omega arith) ∙ sym (long_bad bytes long)
    ]

-- they are the same, where they spell a script
script_read : (told after : Option (List ℕ)) (bytes whole : List ℕ) (script : Whole) → ReadWhole told after bytes → script_of bytes ≡ Ok script
    → told ≡ Some whole → bytes ≡ whole
script_read told after bytes whole script read spells is =
    let sizes : (length bytes ≤ 1048576) ⊎ (1048576 < length bytes) = grind arith in
    elim sizes [
      | inl short ↦ whole_read told after bytes whole read.consumed (read.all short) is
      | inr long ↦ let long_is = long_bad bytes long in absurd (cc)
    ]

pub read_from : (told after : Option (List ℕ)) (bytes : List ℕ) (script : Script) → ReadWhole told after bytes → script_of bytes ≡ Ok (whole_script script)
    → IsReadFrom told script
read_from told after bytes script read spells = λ whole is. read_same told after bytes whole read is ∙ spells

pub bad_from : (told after : Option (List ℕ)) (bytes : List ℕ) (line : ℕ) (kind : ScriptFault) → ReadWhole told after bytes → script_of bytes ≡ Err (line, kind)
    → IsBadFrom told line kind
bad_from told after bytes line kind read spells = λ whole is. read_same told after bytes whole read is ∙ spells

pub done_of : (told before after : Option (List ℕ)) (outside : Header → Outside) (report : Report) (run : Script) (script : Option Script) (h : List Event)
    (s : Status)
    → IsReadFrom told run → RunHasEnded report run (outside run.header) script h before after s → s ≡ status.Done
    → IsRunDone told outside report script h before after
done_of told before after outside report run script h s read has is =
    let ends = subst (EndsAs report run (outside run.header) h before after) is has.ends in
    record { run = run; held = record { held = has.held; read = read }; whole = ends.0; written = ends.1 }

pub full_of : (told before after : Option (List ℕ)) (outside : Header → Outside) (report : Report) (run : Script) (script : Option Script) (h : List Event)
    (s : Status)
    → IsReadFrom told run → RunHasEnded report run (outside run.header) script h before after s → s ≡ status.EventLimit
    → IsEventLimit told outside report script h before after
full_of told before after outside report run script h s read has is =
    let ends = subst (EndsAs report run (outside run.header) h before after) is has.ends in
    record { run = run; held = record { held = has.held; read = read }; full = ends.0; written = ends.1 }

pub output_of : (told before after : Option (List ℕ)) (outside : Header → Outside) (report : Report) (run : Script) (script : Option Script) (h : List Event)
    (s : Status)
    → IsReadFrom told run → RunHasEnded report run (outside run.header) script h before after s → s ≡ status.OutputFault
    → IsOutputFault told outside report script h before after
output_of told before after outside report run script h s read has is =
    let ends = subst (EndsAs report run (outside run.header) h before after) is has.ends in
    inl (record { run = run; held = record { held = has.held; read = read }; failed = ends })

pub memory_of : (told before after : Option (List ℕ)) (outside : Header → Outside) (report : Report) (run : Script) (script : Option Script) (h : List Event)
    (s : Status)
    → IsReadFrom told run → RunHasEnded report run (outside run.header) script h before after s → s ≡ status.NoMemory
    → IsNoMemory told outside report script h before after
memory_of told before after outside report run script h s read has is =
    let ends = subst (EndsAs report run (outside run.header) h before after) is has.ends in
    inr (inl (record { run = run; held = record { held = has.held; read = read }; legal = ends.0 }, ends.1))

-- the first fault was told
pub bad_of : (told before after : Option (List ℕ)) (line named : ℕ) (kind other : ScriptFault) (script : Option Script) (h : List Event) (s : Status)
    → NothingRun script h → IsBadFrom told line kind
    → Tells (status.BadScript line kind) (bad_text line kind) before after s → s ≡ status.BadScript named other → IsBad told named other script h before after
bad_of told before after line named kind other script h s nothing bad (inl wrote) is =
    let one : line ≡ named = cc in
    let two : kind ≡ other = cc in
    subst (λ z. IsBad told z other script h before after) one (subst (λ z. IsBad told line z script h before after) two
    (record { nothing = nothing; bad = bad; written = wrote.1 }))
bad_of told before after line named kind other script h s nothing bad (inr (inl failed, wrote)) is = absurd (cc)
bad_of told before after line named kind other script h s nothing bad (inr (inr none, wrote)) is = absurd (cc)

-- the script that is held was read, and keeps its ranges
pub held_ranges : (script : Option Script) (run : Script) → script ≡ Some run → KeepsRanges run → IfSome script KeepsRanges
held_ranges script run held keeps = rw held keeps

-- other ends have no such status
pub never_usage : (report : Report) (run : Script) (outside : Outside) (script : Option Script) (h : List Event) (before after : Option (List ℕ)) (s : Status)
    → RunHasEnded report run outside script h before after s → s ≡ status.Usage → ⊥
never_usage report run outside script h before after s has is = subst (EndsAs report run outside h before after) is has.ends

pub never_read : (report : Report) (run : Script) (outside : Outside) (script : Option Script) (h : List Event) (before after : Option (List ℕ)) (s : Status)
    → RunHasEnded report run outside script h before after s → s ≡ status.ReadFault → ⊥
never_read report run outside script h before after s has is = subst (EndsAs report run outside h before after) is has.ends

pub never_bad : (report : Report) (run : Script) (outside : Outside) (script : Option Script) (h : List Event) (before after : Option (List ℕ)) (s : Status)
    (line : ℕ) (kind : ScriptFault) → RunHasEnded report run outside script h before after s → s ≡ status.BadScript line kind → ⊥
never_bad report run outside script h before after s line kind has is = subst (EndsAs report run outside h before after) is has.ends

-- whatever telling a text ends with, a first part of it was written
pub tells_start : (told status : Status) (text : List ℕ) (before after : Option (List ℕ)) → Tells told text before after status → WroteStart before after text
tells_start told status text before after (inl wrote) = start_all before after text wrote.1
tells_start told status text before after (inr wrote) = wrote.1

few_frames : (frames : List ℕ) → All (IsBetween 2 4096) frames → All (λ f. f < 2 ^ 32) frames
few_frames frames within i d below = let most = (within i d below).1 in omega arith

few_pages : (objects : List Declared) → All (λ object. IsBetween 1 most_pages object.pages) objects
    → All (λ (object : Declared). object.pages ≤ most_pages) objects
few_pages objects within i d below = (within i d below).1

-- a script that keeps its ranges, and declares no temporary object, can be run
pub runnable : (script : Script) → KeepsRanges script → DeclaresNoTemporary script.header → IsRunnable script
runnable script keeps declares = record {
  served = record {
    ranged = record {
      size = keeps.size;
      hosts = keeps.hosts;
      few = few_frames script.header.frames.items keeps.frames;
      objects = keeps.objects;
      kinds = declares;
      pages = few_pages script.header.objects.items keeps.pages;
    };
    names =
        λ one other first second same. named_once script.header name_kept (λ object. refl) keeps.names one other (file_named script.header one first)
        (file_named script.header other second) same;
  };
  slots = keeps.slots;
  ranges = keeps.commands;
}

summary_failed : (report : Report) (run : Script) (outside : Outside) (h : List Event) (start after : Option (List ℕ)) → CanonicalSoFar run outside h
    → (report ≡ reports.Summary) × WroteStart start after (report_text report h) → WroteFailed report run outside h start after
summary_failed report run outside h start after legal wrote =
    subst (λ z. WroteFailed z run outside h start after) (sym wrote.0) (legal, subst (λ z. WroteStart start after (report_text z h)) wrote.0 wrote.1)

-- what was left of a whole run was written, or a write failed
pub done_ends : (report : Report) (run : Script) (outside : Outside) (h : List Event) (start after : Option (List ℕ)) (wrote : Result (Unit {0}) WriteStop)
    → IsWholeRun run outside h
    → OnOk wrote (Appends start after (report_text report h))
    → (IsErrOf wrote stop.Failed → (report ≡ reports.Summary) × WroteStart start after (report_text report h))
    → (IsErrOf wrote stop.NoMemory → WroteStart start after (report_text report h)) → EndsAs report run outside h start after (status_after wrote status.Done)
done_ends report run outside h start after (Ok done) whole written failed memory = (whole, written)
done_ends report run outside h start after (Err stop.Failed) whole written failed memory =
    summary_failed report run outside h start after (whole_so_far run outside h whole) (failed refl)
done_ends report run outside h start after (Err stop.NoMemory) whole written failed memory = (whole_so_far run outside h whole, memory refl)

-- and of a run that came to a full history
pub full_ends : (report : Report) (run : Script) (outside : Outside) (h : List Event) (start after : Option (List ℕ)) (wrote : Result (Unit {0}) WriteStop)
    → IsOutOfEvents run outside h
    → OnOk wrote (Appends start after (report_text report h))
    → (IsErrOf wrote stop.Failed → (report ≡ reports.Summary) × WroteStart start after (report_text report h))
    → (IsErrOf wrote stop.NoMemory → WroteStart start after (report_text report h))
    → EndsAs report run outside h start after (status_after wrote status.EventLimit)
full_ends report run outside h start after (Ok done) full written failed memory = (full, written)
full_ends report run outside h start after (Err stop.Failed) full written failed memory =
    summary_failed report run outside h start after (full_so_far run outside h full) (failed refl)
full_ends report run outside h start after (Err stop.NoMemory) full written failed memory = (full_so_far run outside h full, memory refl)
