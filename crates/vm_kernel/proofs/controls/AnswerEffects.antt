-- What a message of a pager that a host takes is to its pages, frames and pagers.
use Rattle.vm_kernel.proofs.Common.{Bool, Down, absence_taken, Elsewhere, Event, FrameTable, Header, IsPlainRow, List, Local, LocalEffect, Message, None}
use Rattle.vm_kernel.proofs.Common.{ObjectId, ObjectTable, PageNo, PageRow, PutsAbsent, Some, TakesError, TakesNothing, TakesPage, [], absent_at, ap, away}
use Rattle.vm_kernel.proofs.Common.{eqb_tells, error_taken, false, frames_held, host_id, if◌then◌else◌, inl, inr, is_control, is_ready, live_control, local}
use Rattle.vm_kernel.proofs.Common.{local_after, local_of_row, lock_number, not, page_in, place_of, refl, subst, sym, taken_effect, true, ℕ, ◌&&◌, ◌==◌, ◌∙◌}
use Rattle.vm_kernel.proofs.Common.{◌∷◌, ◌≡◌}
use Rattle.vm_model.specs.declared.event.Event.TheVariants as event
use Rattle.vm_model.specs.declared.message.Message.TheVariants as message
use Rattle.vm_kernel.proofs.memory.PagesShown.{itself}
use Rattle.vm_kernel.proofs.abroad.OwnHost.{own_host}
use Rattle.std.proofs.lemmas.Bool.{and_right}

-- the event that a message for a control of an object is taken
abbrev pub hears : ℕ → ObjectId → ℕ → Message → Event
hears h object control m = event.Taken (Down (host_id h) object control) m

-- where an effect is on a page of the object

pub on_page : {A : Type 0} (o o2 : ℕ) (live live2 page : Bool) (x y : A) → live ≡ true → (o ≡ o2 → live2 ≡ live)
    → (if o == o2 && live2 then (if page then x else y) else y) ≡ (if o == o2 && page then x else y)
on_page o o2 live live2 page x y lives same = elim (eqb_tells o o2) [
  | inl is ↦ rw (is.0, same is.1 ∙ lives) refl
  | inr apart ↦ rw apart.0 refl
]

pub nowhere : (o o2 : ℕ) (live live2 : Bool) → live ≡ false → (o ≡ o2 → live2 ≡ live) → (o == o2 && live2) ≡ false
nowhere o o2 live live2 dead same = elim (eqb_tells o o2) [
  | inl is ↦ rw (is.0, same is.1 ∙ dead) refl
  | inr apart ↦ rw apart.0 refl
]

-- the message changes nothing
pub record IsNothing (header : Header) (h : ℕ) (object : ObjectId) (control : ℕ) (m : Message) (past : List Event) : Type 0 where
  pub pages : (o p : ℕ) → local header h (place_of o p) (hears h object control m ∷ past) ≡ local header h (place_of o p) past
  pub held : frames_held header h (hears h object control m ∷ past) ≡ frames_held header h past
  pub ready : (o live : ℕ) → live_control h o past ≡ Some live → is_ready h o (hears h object control m ∷ past) ≡ is_ready h o past
  pub error : error_taken header (hears h object control m ∷ past) ≡ None
  pub absence : absence_taken header (hears h object control m ∷ past) ≡ None

-- the control named lives
abbrev pub lives : ℕ → ObjectId → ℕ → List Event → Bool
lives h object control past = is_control control (live_control h object.0 past)

same_live : (h : ℕ) (o o2 control : ℕ) (past : List Event) → o ≡ o2 → is_control control (live_control h o2 past) ≡ is_control control (live_control h o past)
same_live h o o2 control past same = ap (λ z. is_control control (live_control h z past)) (sym same)

-- the message is for a control that doesn't live

dead_pages : (header : Header) (h : ℕ) (object : ObjectId) (control : ℕ) (m : Message) (past : List Event) → lives h object control past ≡ false
    → (o p : ℕ) → local header h (place_of o p) (hears h object control m ∷ past) ≡ local header h (place_of o p) past
dead_pages header h object control m past dead o p =
    rw (own_host h) (ap (λ b. local_after header.size (if b then taken_effect p m else Elsewhere) (local header h (place_of o p) past))
    (nowhere object.0 o (lives h object control past) (is_control control (live_control h o past)) dead (same_live h object.0 o control past)))

dead_held : (header : Header) (h : ℕ) (object : ObjectId) (control : ℕ) (m : Message) (past : List Event) → lives h object control past ≡ false
    → frames_held header h (hears h object control m ∷ past) ≡ frames_held header h past
dead_held header h object control (message.Unavailable page) past dead = rw (own_host h, dead) refl
dead_held header h object control (message.Error page reason) past dead = rw (own_host h, dead) refl
dead_held header h object control other past dead = refl

dead_ready : (h : ℕ) (object : ObjectId) (control : ℕ) (m : Message) (past : List Event) → lives h object control past ≡ false → (o : ℕ)
    → is_ready h o (hears h object control m ∷ past) ≡ is_ready h o past
dead_ready h object control (message.Ready cache strategy) past dead o =
    rw (own_host h) (ap (λ b. if b then true else is_ready h o past)
    (nowhere object.0 o (lives h object control past) (is_control control (live_control h o past)) dead (same_live h object.0 o control past)))
dead_ready h object control other past dead o = refl

dead_error : (h : ℕ) (header : Header) (object : ObjectId) (control : ℕ) (m : Message) (past : List Event) → lives h object control past ≡ false
    → error_taken header (hears h object control m ∷ past) ≡ None
dead_error h header object control (message.Error page reason) past dead = rw dead refl
dead_error h header object control other past dead = refl

dead_absence : (h : ℕ) (header : Header) (object : ObjectId) (control : ℕ) (m : Message) (past : List Event) → lives h object control past ≡ false
    → absence_taken header (hears h object control m ∷ past) ≡ None
dead_absence h header object control (message.Unavailable page) past dead = rw dead refl
dead_absence h header object control other past dead = refl

pub nothing_dead : (header : Header) (h : ℕ) (object : ObjectId) (control : ℕ) (m : Message) (past : List Event) → lives h object control past ≡ false
    → IsNothing header h object control m past
nothing_dead header h object control m past dead =
    record {
      pages = dead_pages header h object control m past dead;
      held = dead_held header h object control m past dead;
      ready = λ o live is. dead_ready h object control m past dead o;
      error = dead_error h header object control m past dead;
      absence = dead_absence h header object control m past dead;
    }

-- the message is about a page that isn't asked

still : (size : ℕ) (effect : LocalEffect) (o o2 p p2 : ℕ) (live : Bool) (was : Local) → (o ≡ o2 → p ≡ p2 → local_after size effect was ≡ was)
    → local_after size (if o == o2 && live then (if p == p2 then effect else Elsewhere) else Elsewhere) was ≡ was
still size effect o o2 p p2 live was same = elim (eqb_tells o o2) [
  | inl is ↦ elim (eqb_tells p p2) [
    | inl also ↦ rw (is.0, also.0) (either live (same is.1 also.1))
    | inr apart ↦ rw (is.0, apart.0) (same_both live)
  ]
  | inr apart ↦ rw apart.0 refl
]
  where
    either : (b : Bool) → local_after size effect was ≡ was → local_after size (if b then effect else Elsewhere) was ≡ was
    either true is = is
    either false is = refl

    same_both : (b : Bool) → local_after size (if b then Elsewhere else Elsewhere) was ≡ was
    same_both true = refl
    same_both false = refl

page_stays : (size lock : ℕ) (precious : Bool) (bytes : List ℕ) (was : Local) → was.asked ≡ false → local_after size (TakesPage lock precious bytes) was ≡ was
page_stays size lock precious bytes was none = rw none refl

nothing_stays : (size : ℕ) (was : Local) → was.asked ≡ false → local_after size TakesNothing was ≡ was
nothing_stays size was none = rw none refl

error_stays : (size : ℕ) (was : Local) → was.asked ≡ false → local_after size TakesError was ≡ was
error_stays size was none = ap (λ z. record was { asked = z }) (sym none)

-- of a page
abbrev asks : ℕ → Header → ObjectId → ℕ → List Event → Bool
asks h header object page past = (local header h (place_of object.0 page) past).asked

asked_there : (h : ℕ) (header : Header) (object : ObjectId) (page o p : ℕ) (past : List Event) → asks h header object page past ≡ false → object.0 ≡ o
    → page ≡ p
    → (local header h (place_of o p) past).asked ≡ false
asked_there h header object page o p past none same also =
    subst (λ (z : ℕ). (local header h (place_of o z) past).asked ≡ false) also (subst (λ (z : ℕ). (local header h (place_of z page) past).asked ≡ false) same
    none)

pub unsupplied : (header : Header) (h : ℕ) (object : ObjectId) (control : ℕ) (page : PageNo) (lock : ℕ) (precious : Bool) (bytes : List ℕ) (past : List Event)
    → asks h header object page.0 past ≡ false
    → IsNothing header h object control (message.Supply page lock precious bytes) past
unsupplied header h object control page lock precious bytes past none =
    record {
      pages =
          λ o p. rw (own_host h) (still header.size (TakesPage lock precious bytes) object.0 o page.0 p (is_control control (live_control h o past))
          (local header h (place_of o p) past)
          (λ same also. page_stays header.size lock precious bytes (local header h (place_of o p) past)
          (asked_there h header object page.0 o p past none same also)));
      held = refl;
      ready = λ o live is. refl;
      error = refl;
      absence = refl;
    }

pub unlacked : (header : Header) (h : ℕ) (object : ObjectId) (control : ℕ) (page : PageNo) (past : List Event) → asks h header object page.0 past ≡ false
    → IsNothing header h object control (message.Unavailable page) past
unlacked header h object control page past none =
    record {
      pages =
          λ o p. rw (own_host h) (still header.size TakesNothing object.0 o page.0 p (is_control control (live_control h o past))
          (local header h (place_of o p) past)
          (λ same also. nothing_stays header.size (local header h (place_of o p) past) (asked_there h header object page.0 o p past none same also)));
      held = rw (own_host h, and_right (lives h object control past) (asks h header object page.0 past) none) refl;
      ready = λ o live is. refl;
      error = refl;
      absence = rw (and_right (lives h object control past) (asks h header object page.0 past) none) refl;
    }

pub unfailed : (header : Header) (h : ℕ) (object : ObjectId) (control : ℕ) (page : PageNo) (reason : ℕ) (past : List Event)
    → asks h header object page.0 past ≡ false → IsNothing header h object control (message.Error page reason) past
unfailed header h object control page reason past none =
    record {
      pages =
          λ o p. rw (own_host h) (still header.size TakesError object.0 o page.0 p (is_control control (live_control h o past))
          (local header h (place_of o p) past)
          (λ same also. error_stays header.size (local header h (place_of o p) past) (asked_there h header object page.0 o p past none same also)));
      held = rw (own_host h, and_right (lives h object control past) (asks h header object page.0 past) none) refl;
      ready = λ o live is. refl;
      error = rw (and_right (lives h object control past) (asks h header object page.0 past) none) refl;
      absence = refl;
    }

-- what changes nothing either way
pub same_effect : (size : ℕ) (b : Bool) (was : Local) → local_after size (if b then Elsewhere else Elsewhere) was ≡ was
same_effect size true was = refl
same_effect size false was = refl

-- the pager was ready
pub ready_again : (header : Header) (h : ℕ) (object : ObjectId) (control : ℕ) (cache : Bool) (strategy : ℕ) (past : List Event)
    → is_ready h object.0 past ≡ true → IsNothing header h object control (message.Ready cache strategy) past
ready_again header h object control cache strategy past ready =
    record {
      pages =
          λ o p. rw (own_host h) (same_effect header.size (object.0 == o && is_control control (live_control h o past))
          (local header h (place_of o p) past));
      held = refl;
      ready = λ o live is. elim (eqb_tells object.0 o) [
        | inl same ↦ rw (own_host h, same.0) (either (is_control control (live_control h o past)) (is_ready h o past)
            (subst (λ (z : ℕ). is_ready h z past ≡ true) same.1 ready))
        | inr apart ↦ rw (own_host h, apart.0) refl
      ];
      error = refl;
      absence = refl;
    }
  where
    either : (b was : Bool) → was ≡ true → (if b then true else was) ≡ was
    either true was is = sym is
    either false was is = refl

-- what is shown of a page that is asked
pub asked_shows : (fs : FrameTable) (was : PageRow) (lacked : Bool) → IsPlainRow was → was.here ≡ false
    → local_of_row fs (Some was) lacked ≡ record away { asked = true; absent = lacked }
asked_shows fs was lacked plain away_now =
    ap (λ z. record {
      here = z;
      bytes = if z then page_in fs was.frame.0 else [];
      lock = lock_number was.lock;
      dirty = if z then was.dirty else false;
      precious = was.precious;
      asked = not z;
      unlocking = was.unlock_sent;
      absent = lacked;
    }) away_now
    ∙ (ap (λ z. record away { lock = lock_number z; precious = was.precious; asked = true; unlocking = was.unlock_sent; absent = lacked }) plain.lock
    ∙ (ap (λ z. record away { precious = z; asked = true; unlocking = was.unlock_sent; absent = lacked }) plain.precious
    ∙ ap (λ z. record away { asked = true; unlocking = z; absent = lacked }) plain.unlock_sent))

-- a page is asked no more, and its pager is known to have none, or not

-- what is known of a page behind that
pub record IsLeft (size : ℕ) (effect : LocalEffect) (os os2 : ObjectTable) (o p : ℕ) : Type 0 where
  pub here : local_after size effect (record away { asked = true; absent = absent_at os o p }) ≡ record away { absent = absent_at os2 o p }
  pub others : (o2 p2 : ℕ) → (o == o2 && p == p2) ≡ false → absent_at os2 o2 p2 ≡ absent_at os o2 p2

pub left_lacked : (size : ℕ) (os os2 : ObjectTable) (o p : ℕ) → PutsAbsent o p true os os2 → IsLeft size TakesNothing os os2 o p
left_lacked size os os2 o p put =
    record {
      here = ap (λ z. record away { absent = z }) (sym (put.at o p ∙ rw (itself o, itself p) refl));
      others = λ o2 p2 apart. put.at o2 p2 ∙ ap (λ b. if b then true else absent_at os o2 p2) apart;
    }

pub left_failed : (size : ℕ) (os os2 : ObjectTable) (o p : ℕ) → os2 ≡ os → IsLeft size TakesError os os2 o p
left_failed size os os2 o p same =
    record {
      here = ap (λ z. record away { absent = absent_at z o p }) (sym same);
      others = λ o2 p2 apart. ap (λ z. absent_at z o2 p2) same;
    }
