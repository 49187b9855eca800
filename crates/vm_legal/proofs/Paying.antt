-- What a step owes stays paid when further events of it come.
use Rattle.std.proofs.Common.{refl, sym, ◌∙◌, ◌≡◌, ℕ, true, List, ◌++◌, None, subst, not, ◌∷◌, false, []}
use Rattle.vm_legal.proofs.Inside.{absence_more, before_more, error_more, since_more, taken_more}
use Rattle.vm_model.specs.declared.event.Event.{Event}
use Rattle.vm_model.specs.declared.event.Event.TheVariants as event
use Rattle.vm_model.specs.declared.script.Header.{Header}
use Rattle.vm_legal.specs.Cached.{attributes_taken}
use Rattle.vm_legal.specs.Debts.{IsPaid, HasLocked}
use Rattle.vm_legal.specs.Destroyed.{HasDestroyed, destroy_taken}
use Rattle.vm_legal.specs.Accesses.{Waits}
use Rattle.vm_model.specs.Waiting.{Access}
use Rattle.vm_legal.specs.Frames.{frames_free}
use Rattle.vm_legal.specs.InTurn.{EndsAll, EndsWaiters, WaitsAt}
use Rattle.vm_legal.specs.Licences.{LockRequest, gives_back, lock_taken, owed, zeroes}
use Rattle.vm_legal.specs.Pagers.{LacksSlot}
use Rattle.vm_legal.specs.Steps.{answers, before_step, changes, completes, drops_page, ends_control, fails_access, fails_of, fails_task, lacks_slot, readies}
use Rattle.vm_legal.specs.Steps.{returns_page}
use Rattle.vm_legal.specs.Walks.{page_on}
use Rattle.vm_legal.specs.Stretches.{AllInner, IsInner}

-- those who waited for the page of an error have ended still
waiters_more : (header : Header) (host object page : ℕ) (events past : List Event) → AllInner events → EndsWaiters header host object page past
    → EndsWaiters header host object page (events ++ past)
waiters_more header host object page events past inner was = λ task stops frees.
    let same = before_more events past inner in
    since_more (fails_task task object page) events past inner
    (was task (subst (λ (z : List Event). WaitsAt header host task object page z) same stops)
    (subst (λ (z : List Event). frames_free header host z ≡ 0 → ⊥) same frees))

pub ends_more : (header : Header) (events past : List Event) → AllInner events → EndsAll header past → EndsAll header (events ++ past)
ends_more header events past inner ends host object page is =
    waiters_more header host object page events past inner (ends host object page (sym (error_more header events past inner) ∙ is))

attributes_inner : (e : Event) (past : List Event) → IsInner e → attributes_taken (e ∷ past) ≡ attributes_taken past
attributes_inner (event.Line line) past inner = absurd inner
attributes_inner (event.Taken channel m) past inner = absurd inner
attributes_inner other past inner = refl

pub attributes_more : (events past : List Event) → AllInner events → attributes_taken (events ++ past) ≡ attributes_taken past
attributes_more [] past inner = refl
attributes_more (e ∷ events) past inner = attributes_inner e (events ++ past) inner.0 ∙ attributes_more events past inner.1

destroy_inner : (e : Event) (past : List Event) → IsInner e → destroy_taken (e ∷ past) ≡ destroy_taken past
destroy_inner (event.Line line) past inner = absurd inner
destroy_inner (event.Taken channel m) past inner = absurd inner
destroy_inner other past inner = refl

pub destroy_more : (events past : List Event) → AllInner events → destroy_taken (events ++ past) ≡ destroy_taken past
destroy_more [] past inner = refl
destroy_more (e ∷ events) past inner = destroy_inner e (events ++ past) inner.0 ∙ destroy_more events past inner.1

lock_inner : (e : Event) (past : List Event) → IsInner e → lock_taken (e ∷ past) ≡ lock_taken past
lock_inner (event.Line line) past inner = absurd inner
lock_inner (event.Taken channel m) past inner = absurd inner
lock_inner other past inner = refl

pub lock_more : (events past : List Event) → AllInner events → lock_taken (events ++ past) ≡ lock_taken past
lock_more [] past inner = refl
lock_more (e ∷ events) past inner = lock_inner e (events ++ past) inner.0 ∙ lock_more events past inner.1

-- a lock_request that was obeyed has been still
pub locked_more : (header : Header) (request : LockRequest) (events past : List Event) → AllInner events → HasLocked header request past
    → HasLocked header request (events ++ past)
locked_more header request events past inner had =
    let same = before_more events past inner in
    record {
      pages = λ page from below here.
          let was = had.pages page from below (subst (λ (z : List Event). (page_on header request.host request.object page z).here ≡ true) same here) in
          record {
            back = λ due.
                since_more (returns_page request.host request.object page (not request.flush)) events past inner
                (was.back (subst (λ (z : List Event). gives_back request.returns (page_on header request.host request.object page z).dirty
                (page_on header request.host request.object page z).precious ≡ true) same due));
            dropped = λ kept flushes.
                since_more (drops_page request.host request.object page) events past inner
                (was.dropped (subst (λ (z : List Event). gives_back request.returns (page_on header request.host request.object page z).dirty
                (page_on header request.host request.object page z).precious ≡ false) same kept) flushes);
          };
      reply = λ wanted. since_more (completes request.host request.object) events past inner (had.reply wanted);
    }

-- an access waited on the object's region
record WaitedOn (header : Header) (host object task : ℕ) (access : Access) (past : List Event) : Type 0 where
  waits : Waits header task access past
  on_host : waits.at.host ≡ host
  region_is : waits.at.entry.region.0 ≡ object

-- an end that was done is done still
pub destroyed_more : (header : Header) (host object : ℕ) (events past : List Event) → AllInner events → HasDestroyed header host object past
    → HasDestroyed header host object (events ++ past)
destroyed_more header host object events past inner had =
    let same = before_more events past inner in
    record {
      pages = λ page here. since_more (drops_page host object page) events past inner
          (had.pages page (subst (λ (z : List Event). (page_on header host object page z).here ≡ true) same here));
      ended = since_more (ends_control host object) events past inner had.ended;
      failed = λ task access waits on region.
          let was : WaitedOn header host object task access (before_step past) = subst (λ (z : List Event). WaitedOn header host object task access z) same
          (record { waits = waits; on_host = on; region_is = region }) in
          since_more (fails_of task object) events past inner (had.failed task access was.waits was.on_host was.region_is);
    }

pub paid_more : (header : Header) (events past : List Event) → AllInner events → IsPaid header past → owed (events ++ past) ≡ None
    → IsPaid header (events ++ past)
paid_more header events past inner paid none =
    let same = taken_more events past inner in
    record {
      none_owed = none;
      init = λ host object control size paged is. since_more (readies object) events past inner (paid.init host object control size paged (sym same ∙ is));
      create = λ host object control size paged is. since_more (readies object) events past inner (paid.create host object control size paged (sym same ∙ is));
      request =
          λ host object control page access paged is. since_more (answers object page) events past inner
          (paid.request host object control page access paged (sym same ∙ is));
      error =
          λ host object page is. since_more (fails_access object page) events past inner
          (paid.error host object page (sym (error_more header events past inner) ∙ is));
      absence =
          λ host object page declared is. since_more (zeroes object page) events past inner
          (paid.absence host object page declared (sym (absence_more header events past inner) ∙ is));
      lock = λ request is. locked_more header request events past inner (paid.lock request (sym (lock_more events past inner) ∙ is));
      change = λ request is wanted.
          since_more (changes request.host request.object) events past inner (paid.change request (sym (attributes_more events past inner) ∙ is) wanted);
      destroy = λ host object wild is.
          destroyed_more header host object events past inner (paid.destroy host object wild (sym (destroy_more events past inner) ∙ is));
      slot = λ host object control page dirty keep bytes temporary is lacks.
          since_more (lacks_slot object page) events past inner
          (paid.slot host object control page dirty keep bytes temporary (sym same ∙ is)
          (subst (λ (z : List Event). LacksSlot header host object page z) (before_more events past inner) lacks));
    }
