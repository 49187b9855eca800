-- A step that began with a taking.
use Rattle.vm_hosts.proofs.Common.{AllInner, AllRest, Command, Down, EndsAll, EndsInTurn, Event, EventsFollow, Header, HostId, HostTable, Ids, IsAbsencePaid}
use Rattle.vm_hosts.proofs.Common.{IsChangePaid, IsErrorPaid, IsLockPaid, LegalEvents, LicensedInTurn, List, Message, MomentsIn, ObjectId, Outside, PartInTurn}
use Rattle.vm_hosts.proofs.Common.{Parts, Passed, Rests, ServeInTurn, Suffice, Went, [], absence_more, ap, append-nil, append_assoc, attributes_more}
use Rattle.vm_hosts.proofs.Common.{frames_abroad, length, lock_more, locked_more, paid_more, since_more, subst, sym, zeroes, ℕ, ◌++◌, ◌<◌, ◌∙◌, ◌∷◌, ◌≡◌, ◌≢◌}
use Rattle.vm_model.specs.declared.event.Event.TheVariants as event
use Rattle.vm_hosts.specs.Steps as steps
use Rattle.vm_hosts.proofs.Acting.{Acts, acting_rests, acts_both, acts_one, only_of, others}
use Rattle.vm_hosts.proofs.Serving.{acts_goes, follows_goes, turns_part, turns_went}
use Rattle.vm_hosts.proofs.Stretches.{follows_both, follows_none}
use Rattle.vm_hosts.proofs.Tables.{all_suffice, put, same_number}
use Rattle.vm_kernel.specs.Destroying.{IsDestroyPaid}
use Rattle.vm_legal.proofs.Paying.{destroy_more, destroyed_more, ends_more}
use Rattle.vm_legal.specs.Steps.{changes}

-- the events of a kernel alone, behind nothing
goes_alone : (header : Header) (h : ℕ) (outside : Outside) (doing : Command) (past events : List Event)
    → (goes : LegalEvents header h outside doing past [] events) → events ≡ goes.more
goes_alone header h outside doing past events goes = goes.is ∙ append-nil goes.more

module _ (header : Header) (outside : Outside) (doing : Command) (past front events : List Event) (hosts : HostTable) (host : HostId) (object : ObjectId)
    (control : ℕ) (m : Message) (k : Parts) (ids : Ids) (known : host.0 < length header.frames.items) (all : AllRest header hosts past)
    (licensed : LicensedInTurn header outside doing (event.Taken (Down host object control) m) past)
    (is : front ≡ event.Taken (Down host object control) m ∷ []) (passed : Passed header host.0 outside doing (front ++ past) k ids events) where
  taking : Acts header host.0 outside doing past front
  taking =
      subst (Acts header host.0 outside doing past) (sym is) (acts_one header hosts host.0 outside doing past (event.Taken (Down host object control) m) all
      known licensed (same_number host.0) tt tt tt)

  alone : events ≡ passed.goes.more
  alone = goes_alone header host.0 outside doing (front ++ past) events passed.goes

  acts : Acts header host.0 outside doing (front ++ past) events
  acts =
      subst (Acts header host.0 outside doing (front ++ past)) (sym alone) (acts_goes header host.0 outside doing (front ++ past) [] events known passed.goes)

  pub taken_rests : AllRest header (put hosts host.0 k ids) (events ++ (front ++ past))
  taken_rests =
      let same = append_assoc events front past in
      subst (AllRest header (put hosts host.0 k ids)) same
      (acting_rests header host.0 outside doing hosts past (events ++ front) all (acts_both header host.0 outside doing past front events taking acts) k ids
      (subst (Rests header host.0 k ids) (sym same) passed.rests))

  -- the frames of the others are as they were
  suffice : (g : ℕ) → g ≢ host.0 → Suffice header g (front ++ past)
  suffice g apart =
      let before : MomentsIn (Suffice header g) front past = frames_abroad header outside g front past
      (others header host.0 outside doing past front taking g apart) (all_suffice header hosts past all g) in
      let one : MomentsIn (Suffice header g) (event.Taken (Down host object control) m ∷ []) past = subst
      (λ (z : List Event). MomentsIn (Suffice header g) z past) is before in
      subst (λ (z : List Event). Suffice header g (z ++ past)) (sym is) one.0

  pub taken_follows : EventsFollow header outside doing (front ++ past) events
  taken_follows =
      subst (EventsFollow header outside doing (front ++ past)) (sym alone) (follows_goes header host.0 outside doing (front ++ past) [] events known suffice
      passed.goes)

  -- all hosts serve behind what this one did
  pub taken_turns : (last : HostTable) (new : List Event) → Went header outside doing (front ++ past) events last new → PartInTurn header (front ++ past) new
  taken_turns last new went =
      let own = only_of header host.0 events (front ++ past) acts.mine in
      let ends : EndsInTurn header host.0 (front ++ past) new = turns_went header outside doing host.0 (front ++ past) events last new own went in
      let one : PartInTurn header ((event.Taken (Down host object control) m ∷ []) ++ past) new = subst
      (λ (z : List Event). EndsInTurn header host.0 (z ++ past) new) is ends in
      subst (λ (z : List Event). PartInTurn header (z ++ past) new) (sym is) one

-- the rest of the step serves the queues
pub passed_on : (header : Header) (outside : Outside) (doing : Command) (past events : List Event) (hosts : HostTable) (new : List Event)
    → EventsFollow header outside doing past events → PartInTurn header past new → Went header outside doing past events hosts new
    → steps.HostsPart header outside doing past hosts new
passed_on header outside doing past events hosts new follows turns went =
    record {
      ended = went.ended;
      follows = subst (EventsFollow header outside doing past) (sym went.is)
          (follows_both header outside doing past events went.more follows went.follows);
      turns = turns;
    }

-- all of it, where nothing stands before
pub passed_alone : (header : Header) (outside : Outside) (doing : Command) (past events : List Event) (hosts : HostTable) (new : List Event) → events ≡ []
    → Went header outside doing past events hosts new → steps.HostsPart header outside doing past hosts new
passed_alone header outside doing past events hosts new none was =
    let went : Went header outside doing past [] hosts new = subst (λ (z : List Event). Went header outside doing past z hosts new) none was in
    let same : new ≡ went.more = went.is ∙ append-nil went.more in
    let turns : ServeInTurn header past (length header.frames.items) new = subst (λ (z : List Event). ServeInTurn header past (length header.frames.items) z)
    (sym same) went.turns in
    passed_on header outside doing past [] hosts new (follows_none header outside doing past) (turns_part header past new turns) went

-- what an error owes stays paid

-- behind what the hosts served
goes_behind : (P : List Event → Type 0) (past old new more : List Event) → new ≡ more ++ old → P (more ++ (old ++ past)) → P (new ++ past)
goes_behind P past old new more is p = subst P (sym (ap (λ z. z ++ past) is ∙ append_assoc more old past)) p

pub paid_went : (header : Header) (outside : Outside) (doing : Command) (past old new : List Event) (hosts : HostTable)
    → Went header outside doing past old hosts new → IsErrorPaid header (old ++ past) → IsErrorPaid header (new ++ past)
paid_went header outside doing past old new hosts went paid =
    goes_behind (IsErrorPaid header) past old new went.more went.is (paid_more header went.more (old ++ past) went.follows.stretch.inner paid)

pub ends_went : (header : Header) (outside : Outside) (doing : Command) (past old new : List Event) (hosts : HostTable)
    → Went header outside doing past old hosts new → EndsAll header (old ++ past) → EndsAll header (new ++ past)
ends_went header outside doing past old new hosts went ends =
    goes_behind (EndsAll header) past old new went.more went.is (ends_more header went.more (old ++ past) went.follows.stretch.inner ends)

-- so are zeros, where there is no page, what a lock request owes, what a change of attributes owes, and what the end of an object owes

absence_paid : (header : Header) (more past : List Event) → AllInner more → IsAbsencePaid header past → IsAbsencePaid header (more ++ past)
absence_paid header more past inner paid =
    λ host object page declared is. since_more (zeroes object page) more past inner
    (paid host object page declared (sym (absence_more header more past inner) ∙ is))

lock_paid : (header : Header) (more past : List Event) → AllInner more → IsLockPaid header past → IsLockPaid header (more ++ past)
lock_paid header more past inner paid = λ request is. locked_more header request more past inner (paid request (sym (lock_more more past inner) ∙ is))

change_paid : (more past : List Event) → AllInner more → IsChangePaid past → IsChangePaid (more ++ past)
change_paid more past inner paid = λ request is wanted.
    since_more (changes request.host request.object) more past inner (paid request (sym (attributes_more more past inner) ∙ is) wanted)

destroy_paid : (header : Header) (more past : List Event) → AllInner more → IsDestroyPaid header past → IsDestroyPaid header (more ++ past)
destroy_paid header more past inner paid =
    λ host object wild is. destroyed_more header host object more past inner (paid host object wild (sym (destroy_more more past inner) ∙ is))

pub zeroed_went : (header : Header) (outside : Outside) (doing : Command) (past old new : List Event) (hosts : HostTable)
    → Went header outside doing past old hosts new → IsAbsencePaid header (old ++ past) → IsAbsencePaid header (new ++ past)
zeroed_went header outside doing past old new hosts went paid =
    goes_behind (IsAbsencePaid header) past old new went.more went.is (absence_paid header went.more (old ++ past) went.follows.stretch.inner paid)

pub locked_went : (header : Header) (outside : Outside) (doing : Command) (past old new : List Event) (hosts : HostTable)
    → Went header outside doing past old hosts new → IsLockPaid header (old ++ past) → IsLockPaid header (new ++ past)
locked_went header outside doing past old new hosts went paid =
    goes_behind (IsLockPaid header) past old new went.more went.is (lock_paid header went.more (old ++ past) went.follows.stretch.inner paid)

pub changed_went : (header : Header) (outside : Outside) (doing : Command) (past old new : List Event) (hosts : HostTable)
    → Went header outside doing past old hosts new → IsChangePaid (old ++ past) → IsChangePaid (new ++ past)
changed_went header outside doing past old new hosts went paid =
    goes_behind IsChangePaid past old new went.more went.is (change_paid went.more (old ++ past) went.follows.stretch.inner paid)

pub destroyed_went : (header : Header) (outside : Outside) (doing : Command) (past old new : List Event) (hosts : HostTable)
    → Went header outside doing past old hosts new → IsDestroyPaid header (old ++ past) → IsDestroyPaid header (new ++ past)
destroyed_went header outside doing past old new hosts went paid =
    goes_behind (IsDestroyPaid header) past old new went.more went.is (destroy_paid header went.more (old ++ past) went.follows.stretch.inner paid)
