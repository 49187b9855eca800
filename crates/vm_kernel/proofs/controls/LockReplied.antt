-- A lock request that the step took is done still, whatever comes behind that, and so is the end of an object.
use Rattle.std.specs.Prelude.{true}
use Rattle.vm_kernel.proofs.Common.{Event, Header, List, None, Some, [], refl, subst, sym, ℕ, ◌∙◌, ◌∷◌, ◌≡◌}
use Rattle.vm_kernel.specs.Abroad.{IsNobodys}
use Rattle.vm_kernel.specs.Matches.{IsReplied}
use Rattle.vm_legal.proofs.Inside.{before_more, since_more}
use Rattle.vm_legal.proofs.Paying.{destroy_more, lock_more}
use Rattle.vm_legal.specs.Accesses.{Waits}
use Rattle.vm_legal.specs.Destroyed.{destroy_taken}
use Rattle.vm_legal.specs.Licences.{LockRequest, lock_taken}
use Rattle.vm_model.specs.declared.message.Message.TheVariants as message
use Rattle.vm_legal.specs.Steps.{before_step, completes, fails_of, since}
use Rattle.vm_model.specs.Waiting.{Access}
use Rattle.vm_legal.specs.Stretches.{IsInner}
use Rattle.vm_model.specs.declared.event.Event.TheVariants as event
use Rattle.vm_model.specs.declared.message.Channel.TheVariants.{Up, Down}

pub replied_behind : {header : Header} {e : Event} {past : List Event} → IsInner e → IsReplied header past → IsReplied header (e ∷ past)
replied_behind {header = header} {e = e} {past = past} inner was =
    record {
      at = λ request is own. since_more (completes request.host request.object) (e ∷ []) past (inner, tt)
          (was.at request (sym (lock_more (e ∷ []) past (inner, tt)) ∙ is) own);
      fallen = λ host object task access waits is on over. since_more (fails_of task object) (e ∷ []) past (inner, tt)
          (fell host object task access waits on over (sym (destroy_more (e ∷ []) past (inner, tt)) ∙ is));
    }
  where
    same : before_step (e ∷ past) ≡ before_step past
    same = before_more (e ∷ []) past (inner, tt)

    fell : (host object task : ℕ) (access : Access) (waits : Waits header task access (before_step (e ∷ past))) → waits.at.host ≡ host
        → waits.at.entry.region.0 ≡ object → destroy_taken past ≡ Some (record { host = host; object = object }) → since (fails_of task object) past ≡ true
    fell host object task access waits on over taken =
        let then = subst (λ (z : List Event). (w : Waits header task access z) × ((w.at.host ≡ host) × (w.at.entry.region.0 ≡ object))) same
        (waits, (on, over)) in
        was.fallen host object task access then.0 taken then.1.0 then.1.1

-- where it took none, and no end, there is nothing to tell
pub replied_none : {header : Header} {past : List Event} → lock_taken past ≡ None → destroy_taken past ≡ None → IsReplied header past
replied_none none whole =
    record {
      at = λ request is own. absurd (let bad : None ≡ Some request = sym none ∙ is in cc);
      fallen = λ host object task access waits is on over. absurd (let bad : None ≡ Some (record { host = host; object = object }) = sym whole ∙ is in cc);
    }

-- a step that took a lock request took no end
no_end : {request : LockRequest} (past : List Event) → lock_taken past ≡ Some request → destroy_taken past ≡ None
no_end {request = request} [] is = refl
no_end (event.Line line ∷ past) is = refl
no_end {request = request} (event.Taken (Down host object control) (message.Destroy reason) ∷ past) is =
    absurd (let bad : None ≡ Some request = is in cc)
no_end (event.Taken channel other ∷ past) is = refl
no_end (e ∷ past) is = no_end past is

pub replied_lock : {header : Header} {past : List Event} {request : LockRequest} → lock_taken past ≡ Some request
    → ((asked : LockRequest) → lock_taken past ≡ Some asked → asked.reply ≡ true → since (completes asked.host asked.object) past ≡ true)
    → IsReplied header past
replied_lock {past = past} taken replies =
    record {
      at = replies;
      fallen = λ host object task access waits is on over.
          absurd (let bad : None ≡ Some (record { host = host; object = object }) = sym (no_end past taken) ∙ is in cc);
    }

-- so is it behind what is nobody's
pub nobody_replied : {header : Header} (e : Event) (past : List Event) → IsNobodys e → IsReplied header past → IsReplied header (e ∷ past)
nobody_replied (event.Line line) past nobody was = replied_none refl refl
nobody_replied (event.Refused code) past nobody was = replied_behind tt was
nobody_replied (event.Sent (Down host object control) m) past nobody was = replied_behind tt was
nobody_replied (event.Taken (Up host object) m) past nobody was = replied_none refl refl
nobody_replied (event.DeviceFailed who way object page) past nobody was = replied_behind tt was
nobody_replied (event.NoSlot object page) past nobody was = replied_behind tt was
nobody_replied other past nobody was = absurd nobody
