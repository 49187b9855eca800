-- A command's events grow by one that has its cause, carries the right bytes and finds its frame.
use Rattle.vm_kernel.proofs.Common.{AllInTurn, AllInner, CausedInTurn, Command, CreatesHere, EachIn, Err, Event, FrameTable, Grows, HasFrames, Header, IfSome}
use Rattle.vm_kernel.proofs.Common.{IsConsequence, IsInner, IsLined, IsMine, IsOnlyOfHost, IsPaid, IsSettled, KernelSays, LegalEvents, LicensedInTurn, List}
use Rattle.vm_kernel.proofs.Common.{MomentsIn, None, Ok, OnOk, Option, Outside, OwnBytes, Result, Suffice, [], absence_more, absence_taken, ap, append_assoc}
use Rattle.vm_kernel.proofs.Common.{arith, each_both, error_more, error_taken, frames_free, frames_held, frames_used, frames_wired, free, inner_both}
use Rattle.vm_kernel.proofs.Common.{licensed_both, moments_both, no_request, none_locked, none_of, of_both, owed, refl, reverse, slice_get, subst, sym}
use Rattle.vm_kernel.proofs.Common.{taken_letter, taken_more, unwrap_or, ℕ, ◌++◌, ◌-◌, ◌∙◌, ◌∷◌, ◌≡◌, ◌≤◌}
use Rattle.std.specs.Prelude.{IfOk}
use Rattle.vm_legal.proofs.Owing.{behind_none}
use Rattle.vm_kernel.proofs.abroad.OwnEvents.{mine_of}
use Rattle.vm_legal.proofs.Locks.{no_change, none_changed, none_destroyed}

pub suffices : (header : Header) (h : ℕ) (fs : FrameTable) (past : List Event)
    → HasFrames (slice_get (reverse header.frames.items) h) fs (frames_held header h past) (frames_wired h past) → Suffice header h past
suffices header h fs past has =
    subst (λ (z : Option ℕ). IfSome z (λ frames. frames_used header h past ≤ frames)) (sym has.total) (omega (arith, has.held, has.wired, has.fits))

-- the frames that a history leaves free are those of the kernel
pub free_is : (header : Header) (h : ℕ) (fs : FrameTable) (past : List Event)
    → HasFrames (slice_get (reverse header.frames.items) h) fs (frames_held header h past) (frames_wired h past) → frames_free header h past ≡ free fs
free_is header h fs past has = ap (λ z. unwrap_or z 0 - frames_used header h past) has.total ∙ omega (arith, has.held, has.wired)

-- nothing is owed in front
pub licensed : (header : Header) (outside : Outside) (doing : Command) (e : Event) (past : List Event) → owed past ≡ None
    → CausedInTurn header outside doing e past → LicensedInTurn header outside doing e past
licensed header outside doing e past none cause = (cause, behind_none e past none)

-- what holds of an event that follows from a command's head
pub record Follows (header : Header) (h : ℕ) (outside : Outside) (doing : Command) (e : Event) (past : List Event) : Type 0 where
  pub consequence : IsConsequence e past
  pub cause : CausedInTurn header outside doing e past
  pub own_bytes : OwnBytes header e past
  pub frames : Suffice header h (e ∷ past)
  pub inner : IsInner e
  pub said : KernelSays h header.size e
  pub own : IsOnlyOfHost header h e past
  pub creates : CreatesHere header h e past

pub grows_more : (header : Header) (h : ℕ) (outside : Outside) (doing : Command) (past events : List Event) (e : Event)
    → Grows header h outside doing past events → IsSettled (events ++ past) → Follows header h outside doing e (events ++ past)
    → Grows header h outside doing past (e ∷ events)
grows_more header h outside doing past events e grows settled all =
    let same : events ++ past ≡ grows.more ++ (reverse grows.first ++ past) = ap (λ z. z ++ past) grows.is
    ∙ append_assoc grows.more (reverse grows.first) past in
    record {
      first = grows.first;
      more = e ∷ grows.more;
      head = grows.head;
      is = ap (λ z. e ∷ z) grows.is;
      follows = (subst (λ (z : List Event). IsConsequence e z) same all.consequence, grows.follows);
      licensed = (licensed header outside doing e (events ++ past) settled.none_owed all.cause, grows.licensed);
      own_bytes = (all.own_bytes, grows.own_bytes);
      frames = (all.frames, grows.frames);
      inner = (all.inner, grows.inner);
      said = (all.said, grows.said);
      mine = (mine_of header h e (events ++ past) settled.shut all.own all.creates, grows.mine);
    }

-- nothing was added
pub goes_none : (header : Header) (h : ℕ) (outside : Outside) (doing : Command) (past old : List Event) → LegalEvents header h outside doing past old old
goes_none header h outside doing past old =
    record { more = []; is = refl; follows = tt; licensed = tt; own_bytes = tt; frames = tt; inner = tt; said = tt; mine = tt }

-- one event more
pub goes_more : (header : Header) (h : ℕ) (outside : Outside) (doing : Command) (past old events : List Event) (e : Event)
    → LegalEvents header h outside doing past old events → IsSettled (events ++ past) → Follows header h outside doing e (events ++ past)
    → LegalEvents header h outside doing past old (e ∷ events)
goes_more header h outside doing past old events e goes settled all =
    let same : events ++ past ≡ goes.more ++ (old ++ past) = ap (λ z. z ++ past) goes.is ∙ append_assoc goes.more old past in
    record {
      more = e ∷ goes.more;
      is = ap (λ z. e ∷ z) goes.is;
      follows = (subst (λ (z : List Event). IsConsequence e z) same all.consequence, goes.follows);
      licensed = (
        subst (λ (z : List Event). LicensedInTurn header outside doing e z) same
            (licensed header outside doing e (events ++ past) settled.none_owed all.cause),
        goes.licensed,
      );
      own_bytes = (subst (λ (z : List Event). OwnBytes header e z) same all.own_bytes, goes.own_bytes);
      frames = (subst (λ (z : List Event). Suffice header h (e ∷ z)) same all.frames, goes.frames);
      inner = (all.inner, goes.inner);
      said = (all.said, goes.said);
      mine = (subst (λ (z : List Event). IsMine header h e z) same (mine_of header h e (events ++ past) settled.shut all.own all.creates), goes.mine);
    }

-- one event
pub goes_one : (header : Header) (h : ℕ) (outside : Outside) (doing : Command) (past old : List Event) (e : Event) → IsSettled (old ++ past)
    → Follows header h outside doing e (old ++ past) → LegalEvents header h outside doing past old (e ∷ old)
goes_one header h outside doing past old e settled all = goes_more header h outside doing past old old e (goes_none header h outside doing past old) settled all

-- one stretch behind another
pub goes_both : (header : Header) (h : ℕ) (outside : Outside) (doing : Command) (past old mid new : List Event)
    → LegalEvents header h outside doing past old mid → LegalEvents header h outside doing past mid new → LegalEvents header h outside doing past old new
goes_both header h outside doing past old mid new one two =
    let same : mid ++ past ≡ one.more ++ (old ++ past) = ap (λ z. z ++ past) one.is ∙ append_assoc one.more old past in
    record {
      more = two.more ++ one.more;
      is = two.is ∙ (ap (λ z. two.more ++ z) one.is ∙ sym (append_assoc two.more one.more old));
      follows =
          each_both IsConsequence two.more one.more (old ++ past) (subst (λ (z : List Event). EachIn IsConsequence two.more z) same two.follows) one.follows;
      licensed =
          licensed_both header outside doing two.more one.more (old ++ past) (subst (λ (z : List Event). AllInTurn header outside doing two.more z) same
          two.licensed) one.licensed;
      own_bytes =
          each_both (OwnBytes header) two.more one.more (old ++ past) (subst (λ (z : List Event). EachIn (OwnBytes header) two.more z) same two.own_bytes)
          one.own_bytes;
      frames =
          moments_both (Suffice header h) two.more one.more (old ++ past) (subst (λ (z : List Event). MomentsIn (Suffice header h) two.more z) same two.frames)
          one.frames;
      inner = inner_both two.more one.more two.inner one.inner;
      said = of_both (KernelSays h header.size) two.more one.more two.said one.said;
      mine =
          each_both (IsMine header h) two.more one.more (old ++ past) (subst (λ (z : List Event). EachIn (IsMine header h) two.more z) same two.mine) one.mine;
    }

-- what a command's step does goes on
pub grows_goes : (header : Header) (h : ℕ) (outside : Outside) (doing : Command) (past old new : List Event) → Grows header h outside doing past old
    → LegalEvents header h outside doing past old new → Grows header h outside doing past new
grows_goes header h outside doing past old new grows goes =
    let same : old ++ past ≡ grows.more ++ (reverse grows.first ++ past) = ap (λ z. z ++ past) grows.is ∙ append_assoc grows.more (reverse grows.first) past in
    subst (λ (z : List Event). Grows header h outside doing past z) (sym goes.is)
    (record {
      first = grows.first;
      more = goes.more ++ grows.more;
      head = grows.head;
      is = ap (λ z. goes.more ++ z) grows.is ∙ sym (append_assoc goes.more grows.more (reverse grows.first));
      follows =
          each_both IsConsequence goes.more grows.more (reverse grows.first ++ past)
          (subst (λ (z : List Event). EachIn IsConsequence goes.more z) same goes.follows) grows.follows;
      licensed = licensed_both header outside doing goes.more old past goes.licensed grows.licensed;
      own_bytes = each_both (OwnBytes header) goes.more old past goes.own_bytes grows.own_bytes;
      frames = moments_both (Suffice header h) goes.more old past goes.frames grows.frames;
      inner = inner_both goes.more old goes.inner grows.inner;
      said = of_both (KernelSays h header.size) goes.more old goes.said grows.said;
      mine = each_both (IsMine header h) goes.more old past goes.mine grows.mine;
    })

-- a command's step took no message
pub record IsPlainStep (header : Header) (past : List Event) : Type 0 where
  pub taken : taken_letter past ≡ None
  pub error : error_taken header past ≡ None
  pub absence : absence_taken header past ≡ None

pub plain_step : (header : Header) (past events : List Event) → IsLined past → AllInner events → IsPlainStep header (events ++ past)
plain_step header past events lined inner = record {
  taken = taken_more events past inner ∙ ap taken_letter lined.is;
  error = error_more header events past inner ∙ ap (error_taken header) lined.is;
  absence = absence_more header events past inner ∙ ap (absence_taken header) lined.is;
}

-- such a step owes nothing
pub paid_of : (header : Header) (past events : List Event) → IsLined past → AllInner events → owed (events ++ past) ≡ None → IsPaid header (events ++ past)
paid_of header past events lined inner none =
    let plain = plain_step header past events lined inner in
    record {
      none_owed = none;
      init = λ host object control size paged is. none_of _ _ plain.taken is;
      create = λ host object control size paged is. none_of _ _ plain.taken is;
      request = λ host object control page access paged is. none_of _ _ plain.taken is;
      error = λ host object page is. none_of _ _ plain.error is;
      absence = λ host object page declared is. none_of _ _ plain.absence is;
      lock = λ request is. no_request request (events ++ past) (none_locked (events ++ past) plain.taken) is;
      change = λ request is wanted. no_change request (events ++ past) (none_changed (events ++ past) plain.taken) is;
      destroy = λ host object wild is. none_of _ _ (none_destroyed (events ++ past) plain.taken) is;
      slot = λ host object control page dirty keep bytes temporary is lacks. none_of _ _ plain.taken is;
    }

-- what follows where a call was Ok
pub on_ok : {A B : Type 0} (r : Result A B) (P Q : Type 0) → (P → Q) → OnOk r P → OnOk r Q
on_ok (Ok x) P Q f p = f p
on_ok (Err e) P Q f p = tt

-- and of its answer
pub if_ok : {A B : Type 0} {P Q : A → Type 0} (r : Result A B) → ((x : A) → P x → Q x) → IfOk r P → IfOk r Q
if_ok (Ok x) f p = f x p
if_ok (Err e) f p = tt

pub each_ok : {A B : Type 0} (r : Result A B) (P : Type 0) (Q : A → Type 0) → (P → (x : A) → Q x) → OnOk r P → IfOk r Q
each_ok (Ok x) P Q f p = f p x
each_ok (Err e) P Q f p = tt

pub both_ok : {A B : Type 0} (r : Result A B) (P : Type 0) (Q R : A → Type 0) → (P → (x : A) → Q x → R x) → OnOk r P → IfOk r Q → IfOk r R
both_ok (Ok x) P Q R f p q = f p x q
both_ok (Err e) P Q R f p q = tt

pub ok_of : {A B : Type 0} (r : Result A B) (P : A → Type 0) (Q : Type 0) → ((x : A) → P x → Q) → IfOk r P → OnOk r Q
ok_of (Ok x) P Q f p = f x p
ok_of (Err e) P Q f p = tt
