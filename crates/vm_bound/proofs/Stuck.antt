-- Where whoever waits has a frame, no first control of a temporary object is made: the return that has to stand behind it has no cause.
use Rattle.std.proofs.Common.{ℕ, ◌≡◌, ◌++◌, ◌∙◌, ◌⊎◌, Bool, List, [], ◌∷◌, Some, inl, inr, ap, arith, refl, subst, sym}
use Rattle.vm_base.specs.declared.ids.HostId.{HostId}
use Rattle.vm_base.specs.declared.ids.ObjectId.{ObjectId}
use Rattle.vm_bound.proofs.Controls.{lock_never}
use Rattle.vm_bound.proofs.Moving.{no_copy_return, no_return, unowed_down}
use Rattle.vm_bound.proofs.Paying.{CreatesNone}
use Rattle.vm_bound.specs.Letters.{object_on}
use Rattle.vm_bound.specs.Settles.{host_on, AllHaveFrames}
use Rattle.vm_legal.specs.Frames.{frames_free}
use Rattle.vm_legal.specs.Licences.{AllLicensed, Created, Creates, Ended, HasCause, Licensed, Reclaimed, ReturnCause, ReturnOn, Wanted, owed}
use Rattle.vm_legal.specs.Outside.{Outside}
use Rattle.vm_legal.specs.Reclaims.{PagesOut, Starves}
use Rattle.vm_legal.specs.Stretches.{EachOf, MomentsIn}
use Rattle.vm_model.specs.Moments.{EachEvent}
use Rattle.vm_model.specs.Waiting.{copy_target, waiting}
use Rattle.vm_model.specs.declared.command.Command.{Command}
use Rattle.vm_model.specs.declared.command.Command.TheVariants as command
use Rattle.vm_model.specs.declared.event.Event.{Event}
use Rattle.vm_model.specs.declared.event.Event.TheVariants as event
use Rattle.vm_model.specs.declared.message.Channel.{Channel}
use Rattle.vm_model.specs.declared.message.Channel.TheVariants.{Up, Down}
use Rattle.vm_model.specs.declared.message.Message.TheVariants as message
use Rattle.vm_model.specs.declared.script.Header.{Header}

-- a settle reclaims nothing where whoever waits has a frame
starves_not : (header : Header) (count host : ℕ) (past : List Event) → AllHaveFrames header past
    → PagesOut (command.Settle count) host past ⊎ Starves header host past → ⊥
starves_not header count host past frames (inl pages) = pages
starves_not header count host past frames (inr starves) =
    let wants = starves.wants in
    let some = frames wants.task wants.access wants.waits in
    let none = ap (λ (h : ℕ). frames_free header h past) wants.on_host ∙ starves.none in
    omega (arith, some, none)

abbrev rest_of : List Event → List Event
rest_of [] = []
rest_of (e ∷ past) = past

return_not : (header : Header) (outside : Outside) (count : ℕ) (host : HostId) (object : ObjectId) (control size h o page : ℕ) (keep : Bool)
    (past : List Event) → EachEvent (HasCause header outside) past → AllHaveFrames header past
    → AllHaveFrames header (event.Sent (Up host object) (message.Create control size) ∷ past) → Creates header host.0 control object.0 size past → h ≡ host.0
    → o ≡ object.0 → ReturnCause header (command.Settle count) h o page keep (event.Sent (Up host object) (message.Create control size) ∷ past) → ⊥
return_not header outside count host object control size h o page keep past each frames later creates at of (Reclaimed kept reclaims) =
    starves_not header count h (event.Sent (Up host object) (message.Create control size) ∷ past) later reclaims.may
return_not header outside count host object control size h o page keep past each frames later creates at of (Created number bytes rest is kept reclaims) =
    starves_not header count h rest (subst (AllHaveFrames header) (ap (λ (z : List Event). rest_of z) is) frames) reclaims.may
return_not header outside count host object control size h o page keep past each frames later creates at of (Wanted returns flush locked due kept) =
    lock_never header outside host.0 object.0 _ past each locked.taken at of creates.never
return_not header outside count host object control size h o page keep past each frames later creates at of (Ended kept declared unheld) =
    let temporary = creates.temporary in
    absurd (omega (arith, declared, temporary, of))

-- behind a first control nothing may stand
pub created_is_stuck : (header : Header) (outside : Outside) (n : ℕ) (host : HostId) (object : ObjectId) (control size : ℕ) (e : Event) (rest : List Event)
    → EachEvent (HasCause header outside) rest → AllHaveFrames header rest
    → AllHaveFrames header (event.Sent (Up host object) (message.Create control size) ∷ rest) → Creates header host.0 control object.0 size rest
    → Licensed header outside (command.Settle n) e (event.Sent (Up host object) (message.Create control size) ∷ rest) → ⊥
created_is_stuck header outside n host object control size (event.Sent (Up at to) (message.Return number page dirty keep bytes)) rest each frames later creates
    licensed =
    return_not header outside n host object control size at.0 to.0 page.0 keep rest each frames later creates (ap (λ (c : Channel). host_on c) licensed.1)
    (ap (λ (c : Channel). object_on c) licensed.1) licensed.0.why
created_is_stuck header outside n host object control size (event.Sent (Down at to number) (message.Return k page dirty keep bytes)) rest each frames later
    creates licensed = absurd (let bad : Down at to number ≡ Up host object = licensed.1 in cc)
created_is_stuck header outside n host object control size e rest each frames later creates licensed = absurd licensed.1

-- no return is owed
abbrev pub IsUnowed : List Event → Type 0
IsUnowed past = (channel : Channel) → owed past ≡ Some (ReturnOn channel) → ⊥

-- so what another event stands behind makes none
pub unowed_before : (header : Header) (outside : Outside) (n : ℕ) (e earlier : Event) (past : List Event) → EachEvent (HasCause header outside) past
    → AllHaveFrames header past → AllHaveFrames header (earlier ∷ past) → Licensed header outside (command.Settle n) earlier past
    → Licensed header outside (command.Settle n) e (earlier ∷ past) → IsUnowed (earlier ∷ past)
unowed_before header outside n e (event.Sent (Up host object) (message.Create control size)) past each frames later licensed next =
    absurd (created_is_stuck header outside n host object control size e past each frames later licensed.0 next)
unowed_before header outside n e (event.Sent (Down host object number) m) past each frames later licensed next =
    λ channel is. no_return channel (sym (unowed_down header outside n host object number m past licensed.0) ∙ is)
unowed_before header outside n e (event.CopyEnded task) past each frames later licensed next =
    no_copy_return task (waiting task.0 past) (copy_target task.0 past)
unowed_before header outside n e earlier past each frames later licensed next = no_return

creates_none : (e : Event) (past : List Event) → IsUnowed (e ∷ past) → CreatesNone e
creates_none (event.Sent (Up host object) (message.Create control size)) past none = none (Up host object) refl
creates_none e past none = tt

frames_at : (header : Header) (events past : List Event) → MomentsIn (AllHaveFrames header) events past → AllHaveFrames header past
    → AllHaveFrames header (events ++ past)
frames_at header [] past moments frames = frames
frames_at header (e ∷ events) past moments frames = moments.0

caused_all : (header : Header) (outside : Outside) (why : Command) (events past : List Event) → AllLicensed header outside why events past
    → EachEvent (HasCause header outside) past → EachEvent (HasCause header outside) (events ++ past)
caused_all header outside why [] past licensed each = each
caused_all header outside why (e ∷ events) past licensed each = ((why, licensed.0.0), caused_all header outside why events past licensed.1 each)

pub none_created : (header : Header) (outside : Outside) (n : ℕ) (events past : List Event) → AllLicensed header outside (command.Settle n) events past
    → EachEvent (HasCause header outside) past → AllHaveFrames header past → MomentsIn (AllHaveFrames header) events past → IsUnowed (events ++ past)
    → EachOf CreatesNone events
none_created header outside n [] past licensed each frames moments none = tt
none_created header outside n (e ∷ []) past licensed each frames moments none = (creates_none e past none, tt)
none_created header outside n (e ∷ earlier ∷ events) past licensed each frames moments none = (
  creates_none e (earlier ∷ (events ++ past)) none,
  none_created header outside n (earlier ∷ events) past licensed.1 each frames moments.1
      (unowed_before header outside n e earlier (events ++ past) (caused_all header outside (command.Settle n) events past licensed.1.1 each)
      (frames_at header events past moments.1.1 frames) moments.1.0 licensed.1.0 licensed.0),
)
