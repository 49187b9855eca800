-- Why a copy from a task to another is refused before its ranges are judged: their names, their accesses, and their hosts.
use Rattle.vm_hosts.proofs.Common.{Bool, Code, Event, Header, HostId, List, MatchOption, None, Option, Some, ap, false, host_of, is_on, is_some, length, not}
use Rattle.vm_hosts.proofs.Common.{refl, refusal, sym, true, ℕ, ◌<◌, ◌==◌, ◌∙◌, ◌≡◌}
use Rattle.std.specs.Prelude.{is_none, option_map, ◌||◌}
use Rattle.vm_base.specs.declared.code.Code.TheVariants.{Blocked, InvalidArgument, NoSuchName}
use Rattle.vm_base.specs.declared.ids.TaskId.{TaskId}
use Rattle.vm_legal.specs.Refusal.{code_where, same_host}
use Rattle.vm_model.specs.Waiting.{waiting}
use Rattle.vm_model.specs.declared.command.Command.TheVariants as command
use Rattle.vm_hosts.specs.Steps.{ActsOn}
use Rattle.vm_hosts.proofs.Tables.{same_number}

-- the first test that holds gives its code
test_holds : (test : Bool) (code : Code) (later : Option Code) → test ≡ true → code_where test code later ≡ Some code
test_holds test code later is = rw is refl

test_fails : (test : Bool) (code : Code) (later : Option Code) → test ≡ false → code_where test code later ≡ later
test_fails test code later is = rw is refl

second_holds : (a b : Bool) → b ≡ true → (a || b) ≡ true
second_holds true b is = refl
second_holds false b is = is

first_holds : (a b : Bool) → a ≡ true → (a || b) ≡ true
first_holds a b is = rw is refl

pub both_fail : (a b : Bool) → a ≡ false → b ≡ false → (a || b) ≡ false
both_fail a b first second = rw (first, second) refl

pub not_so : (b : Bool) → not b ≡ true → b ≡ false
not_so true is = absurd (let bad : false ≡ true = is in cc)
not_so false is = refl

module _ (header : Header) (past : List Event) (task : TaskId) (address bytes : ℕ) (target : TaskId) (to : ℕ) where
  -- a copy acts on the host of its task
  pub copy_home : (x : Option HostId) → option_map (λ (h : HostId). h.0) x ≡ host_of task.0 past
      → ((h : ℕ) → host_of task.0 past ≡ Some h → h < length header.frames.items)
      → MatchOption x (refusal header past (command.Copy task address bytes target to) ≡ Some NoSuchName)
      (λ (h : HostId). ActsOn header h.0 (command.Copy task address bytes target to) past)
  copy_home None is known = test_holds _ NoSuchName _ (first_holds _ _ (ap is_none (sym is)))
  copy_home (Some h) is known = record { known = known h.0 (sym is); acts = ap (is_on h.0) (sym is) ∙ same_number h.0 }

  -- its target doesn't live
  pub pair_nowhere : host_of target.0 past ≡ None → refusal header past (command.Copy task address bytes target to) ≡ Some NoSuchName
  pair_nowhere none = test_holds _ NoSuchName _ (second_holds _ _ (ap is_none none))

  -- both live, and one of them waits
  pub pair_blocked : (h g : ℕ) → host_of task.0 past ≡ Some h → host_of target.0 past ≡ Some g
      → (is_some (waiting task.0 past) || is_some (waiting target.0 past)) ≡ true
      → refusal header past (command.Copy task address bytes target to) ≡ Some Blocked
  pair_blocked h g here there waits = test_fails _ NoSuchName _ (both_fail _ _ (ap is_none here) (ap is_none there)) ∙ test_holds _ Blocked _ waits

  -- none does, but they live on different hosts
  pub pair_apart : (h g : ℕ) → host_of task.0 past ≡ Some h → host_of target.0 past ≡ Some g
      → (is_some (waiting task.0 past) || is_some (waiting target.0 past)) ≡ false → (g == h) ≡ false
      → refusal header past (command.Copy task address bytes target to) ≡ Some InvalidArgument
  pair_apart h g here there waits apart =
      test_fails _ NoSuchName _ (both_fail _ _ (ap is_none here) (ap is_none there)) ∙
      (test_fails _ Blocked _ waits ∙ test_holds _ InvalidArgument _ (second_holds _ _ (second_holds _ _ (first_holds _ _ (ap not other)))))
    where
      other : same_host (host_of task.0 past) (host_of target.0 past) ≡ false
      other = rw (here, there) apart
