-- The tasks of a host, under an event that is nothing to it.
use Rattle.std.proofs.Common.{◌≡◌, ℕ, ◌==◌, ◌||◌, Bool, true, false, List, [], ◌∷◌, Some, None, refl, ap, sym, ◌∙◌, arith}
use Rattle.std.proofs.lemmas.Bool.Decides.{nat_tests}
use Rattle.std.specs.Prelude.{if◌then◌else◌}
use Rattle.vm_base.specs.declared.ids.HostId.{HostId}
use Rattle.vm_base.specs.declared.ids.TaskId.{TaskId}
use Rattle.vm_model.specs.declared.event.Event.{Event}
use Rattle.vm_model.specs.declared.event.Event.TheVariants as event
use Rattle.vm_model.specs.declared.script.Header.{Header}
use Rattle.vm_model.specs.Local.{is_on}
use Rattle.vm_model.specs.Tasks.{host_of}
use Rattle.vm_model.specs.Waiting.{begins_copy}
use Rattle.vm_legal.specs.Homes.{begins_here, is_home}
use Rattle.vm_legal.specs.Living.{lives_on}
use Rattle.vm_abroad.specs.Same.{MoreTasks, SameTask}

-- a task of the host is no other
apart : (h task other : ℕ) (past : List Event) → lives_on h task past ≡ true → lives_on h other past ≡ false → (other == task) ≡ false
apart h task other past own foreign = by_test (other == task) refl
  where
    by_test : (b : Bool) → (other == task) ≡ b → b ≡ false
    by_test false is = refl
    by_test true is =
        let same : other ≡ task = grind (arith, nat_tests) in
        let bad : true ≡ false = sym own ∙ (ap (λ z. lives_on h z past) (sym same) ∙ foreign) in
        absurd (cc)

-- whoever begins on another host is no task of this one
no_or : (a b : Bool) → (a || b) ≡ false → b ≡ false
no_or true b is = absurd (let bad : true ≡ false = is in cc)
no_or false b is = is

begins_not : (h task : ℕ) (past : List Event) → lives_on h task past ≡ true → begins_here h past ≡ false → begins_copy task past ≡ false
begins_not h task [] own is = refl
begins_not h task (event.BegunCopy owner address bytes to ∷ past) own is = apart h task owner.0 past own is
begins_not h task (e ∷ past) own is = refl

pub task_abroad : (header : Header) (h : ℕ) (e : Event) (past : List Event) → is_home header h e past ≡ false → (task : ℕ) → lives_on h task past ≡ true
    → SameTask header.size task past (e ∷ past)
task_abroad header h (event.TaskMade made host) past is task own =
    let other = apart h task made.0 past own (no_or (host.0 == h) (lives_on h made.0 past) is) in
    record { host = rw other refl; entries = rw other refl; waiting = rw other refl; next = refl; begun = refl; target = refl }
task_abroad header h (event.TaskEnded gone) past is task own =
    let other = apart h task gone.0 past own is in record {
      host = rw other refl;
      entries = rw other refl;
      waiting = rw other refl;
      next = refl;
      begun = refl;
      target = refl;
    }
task_abroad header h (event.RegionMade region object pages) past is task own =
    let none = begins_not h task past own is in record { host = refl; entries = refl; waiting = refl; next = refl; begun = refl; target = rw none refl }
task_abroad header h (event.Entered owner address bytes region offset prot inherit) past is task own =
    let other = apart h task owner.0 past own is in record { host = refl; entries = rw other refl; waiting = refl; next = refl; begun = refl; target = refl }
task_abroad header h (event.Removed owner address bytes) past is task own =
    let other = apart h task owner.0 past own is in record { host = refl; entries = rw other refl; waiting = refl; next = refl; begun = refl; target = refl }
task_abroad header h (event.Protected owner address bytes prot) past is task own =
    let other = apart h task owner.0 past own is in record { host = refl; entries = rw other refl; waiting = refl; next = refl; begun = refl; target = refl }
task_abroad header h (event.Inherited owner address bytes inherit) past is task own =
    let other = apart h task owner.0 past own is in record { host = refl; entries = rw other refl; waiting = refl; next = refl; begun = refl; target = refl }
task_abroad header h (event.BegunLoad owner address size) past is task own =
    let other = apart h task owner.0 past own is in record {
      host = refl;
      entries = refl;
      waiting = rw other refl;
      next = refl;
      begun = rw other refl;
      target = refl;
    }
task_abroad header h (event.BegunStore owner address size value) past is task own =
    let other = apart h task owner.0 past own is in record {
      host = refl;
      entries = refl;
      waiting = rw other refl;
      next = refl;
      begun = rw other refl;
      target = refl;
    }
task_abroad header h (event.BegunCopy owner address bytes to) past is task own =
    let other = apart h task owner.0 past own is in record {
      host = refl;
      entries = refl;
      waiting = rw other refl;
      next = rw other refl;
      begun = rw other refl;
      target = rw other refl;
    }
task_abroad header h (event.Loaded owner object page value) past is task own =
    let other = apart h task owner.0 past own is in record { host = refl; entries = refl; waiting = rw other refl; next = refl; begun = refl; target = refl }
task_abroad header h (event.Stored owner object page at size value) past is task own =
    let other = apart h task owner.0 past own is in record { host = refl; entries = refl; waiting = rw other refl; next = refl; begun = refl; target = refl }
task_abroad header h (event.CopiedPage owner page object object_page target) past is task own =
    let other = apart h task owner.0 past own is in record { host = refl; entries = refl; waiting = refl; next = rw other refl; begun = refl; target = refl }
task_abroad header h (event.CopyEnded owner) past is task own =
    let other = apart h task owner.0 past own is in record { host = refl; entries = refl; waiting = rw other refl; next = refl; begun = refl; target = refl }
task_abroad header h (event.Failed owner object page) past is task own =
    let other = apart h task owner.0 past own is in record { host = refl; entries = refl; waiting = rw other refl; next = refl; begun = refl; target = refl }
task_abroad header h other past is task own = record { host = refl; entries = refl; waiting = refl; next = refl; begun = refl; target = refl }

-- who lives on the host

made_lives : (h task : ℕ) (made : TaskId) (host : HostId) (past : List Event) (b : Bool) → (host.0 == h || lives_on h made.0 past) ≡ false
    → (made.0 == task) ≡ b
    → is_on h (if b then Some host.0 else host_of task past) ≡ lives_on h task past
made_lives h task made host past false is same = refl
made_lives h task made host past true is same =
    let it : made.0 ≡ task = grind (arith, nat_tests) in
    let none : lives_on h task past ≡ false = ap (λ z. lives_on h z past) (sym it) ∙ no_or (host.0 == h) (lives_on h made.0 past) is in
    first (host.0 == h) (lives_on h made.0 past) is ∙ sym none
  where
    first : (a b : Bool) → (a || b) ≡ false → a ≡ false
    first true b is = is
    first false b is = refl

ended_lives : (h task : ℕ) (gone : TaskId) (past : List Event) (b : Bool) → lives_on h gone.0 past ≡ false → (gone.0 == task) ≡ b
    → is_on h (if b then None else host_of task past) ≡ lives_on h task past
ended_lives h task gone past false is same = refl
ended_lives h task gone past true is same = let it : gone.0 ≡ task = grind (arith, nat_tests) in sym is ∙ ap (λ z. lives_on h z past) it

pub lives_abroad : (header : Header) (h : ℕ) (e : Event) (past : List Event) → is_home header h e past ≡ false → (task : ℕ)
    → lives_on h task (e ∷ past) ≡ lives_on h task past
lives_abroad header h (event.TaskMade made host) past is task = made_lives h task made host past (made.0 == task) is refl
lives_abroad header h (event.TaskEnded gone) past is task = ended_lives h task gone past (gone.0 == task) is refl
lives_abroad header h other past is task = refl

pub more_tasks : (e : Event) (past : List Event) → MoreTasks past (e ∷ past)
more_tasks (event.TaskMade made host) past = record { made = made.0 ∷ []; is = refl }
more_tasks other past = record { made = []; is = refl }
