-- What a message of a pager comes to, once it is heard.
use Rattle.vm_kernel.proofs.Common.{AnswerEffects, AnswerOutcome, Asked, Bool, Command, Discarded, EndsNobody, Event, Failed, FailsNow, Fit, FrameTable}
use Rattle.vm_kernel.proofs.Common.{HasAsker, Header, HostParts, Ids, IsAbsencePaid, IsAnswer, IsAnswered, IsBrought, Lacked, LegalEvents, List, Message, None}
use Rattle.vm_kernel.proofs.Common.{ObjectId, ObjectKind, ObjectRow, ObjectTable, Option, Outside, PageNo, PageRow, PagerState, Parts, Readied, Rests, Some}
use Rattle.vm_kernel.proofs.Common.{Supplied, Temp, Woken, Zeroed, [], absence_taken, absent_at, ap, arith, asked_row, false, if◌then◌else◌, inl, inr}
use Rattle.vm_kernel.proofs.Common.{is_control, is_ready_state, is_some, key_of, live_control, live_in, live_outcome, local, local_of_row, named, not}
use Rattle.vm_kernel.proofs.Common.{object_at, outcome_of, place_of, ready_in, ready_outcome, refl, row_at, some_is, subst, sym, true, unavailable_outcome, ℕ}
use Rattle.vm_kernel.proofs.Common.{◌&&◌, ◌++◌, ◌<◌, ◌==◌, ◌||◌, ◌∙◌, ◌∷◌, ◌≡◌, ◌≢◌, ◌≤◌}
use Rattle.vm_model.specs.declared.message.Message.TheVariants as message
use Rattle.vm_objects.specs.declared.row.PagerState.TheVariants as state
use Rattle.vm_kernel.proofs.controls.AnswerEffects.{IsNothing, hears, lives, nothing_dead, ready_again, unfailed, unlacked, unsupplied}
use Rattle.vm_kernel.proofs.abroad.OwnHost.{named_host, own_host}
use Rattle.std.proofs.lemmas.Bool.{and_parts}
use Rattle.vm_base.specs.declared.ids.ObjectKind.TheVariants as kinds
use Rattle.vm_kernel.proofs.steps.EventsGrow.{goes_none, goes_one}
use Rattle.vm_kernel.proofs.controls.DeclaredKinds.{declared_kind}
use Rattle.vm_model.specs.declared.event.Event.TheVariants as event
use Rattle.vm_abroad.proofs.Regions.{kind_cases}
use Rattle.vm_supply.specs.Answers as supply
use Rattle.vm_kernel.proofs.controls.WordTaken.{Changed, TakesNoOrder, changed_none, changed_ready, heard, stays_heard, stays_zeroed, works_of, zeros}
use Rattle.vm_kernel.proofs.controls.PageAnswered.{changed_failed, changed_lacked, changed_supplied, changed_zeroed, filled_follows, lacking}
use Rattle.vm_kernel.specs.Matches.{WorksBut}
use Rattle.vm_kernel.specs.Taking.{IsOfPushed}
use Rattle.vm_legal.specs.Cached.{is_cached}
use Rattle.vm_legal.specs.Steps.{is_ready_message}

-- it is not for the live control
pub dead_none : (os : ObjectTable) (o control : ℕ) (live_at : Option ℕ) → live_at ≡ live_in (object_at os o) → object_at os o ≡ None
    → is_control control live_at ≡ false
dead_none os o control live_at is none = ap (is_control control) (is ∙ ap live_in none)

pub live_test : (control : ℕ) (known : ObjectRow) → is_control control (live_in (Some known)) ≡ (known.live && known.control == control)
live_test control known = by_live known.live
  where
    by_live : (b : Bool) → is_control control (if b then Some known.control else None) ≡ (b && known.control == control)
    by_live true = refl
    by_live false = refl

pub lives_is : {header : Header} {h : ℕ} {k : Parts} {ids : Ids} {past : List Event} → Rests header h k ids past → (object : ObjectId) (control : ℕ)
    (known : ObjectRow) → object_at k.memory.objects object.0 ≡ Some known → lives h object control past ≡ (known.live && known.control == control)
lives_is rests object control known found = ap (is_control control) (rests.matches.core.controls.live object.0 ∙ ap live_in found) ∙ live_test control known

-- a page that isn't asked
unasked_shows : (fs : FrameTable) (x : Option PageRow) (lacked : Bool) → asked_row x ≡ None → (local_of_row fs x lacked).asked ≡ false
unasked_shows fs None lacked none = refl
unasked_shows fs (Some row) lacked none = by_here row.here none
  where
    by_here : (b : Bool) → (if b then None else Some row) ≡ None → not b ≡ false
    by_here true is = refl
    by_here false is = absurd (let bad : Some row ≡ None = is in cc)

-- the step took no word that a pager has no page, but of a temporary object

pub no_absence : (header : Header) (past : List Event) → absence_taken header past ≡ None → IsAbsencePaid header past
no_absence header past none =
    λ host object page declared is. absurd (let bad : None ≡ Some (record { host = host; object = object; page = page }) = sym none ∙ is in cc)

-- a page of a host's object
abbrev asked_at : ℕ → ℕ → ℕ → Asked
asked_at host object page = record { host = host; object = object; page = page }

-- the page of which it was taken
absence_is : (h : ℕ) (header : Header) (object : ObjectId) (control : ℕ) (page : PageNo) (past : List Event) (host o p : ℕ)
    → absence_taken header (hears h object control (message.Unavailable page) ∷ past) ≡ Some (asked_at host o p)
    → asked_at h object.0 page.0 ≡ asked_at host o p
absence_is h header object control page past host o p is = by (lives h object control past && (local header h (place_of object.0 page.0) past).asked) is
  where
    by : (b : Bool) → (if b then Some (asked_at h object.0 page.0) else None) ≡ Some (asked_at host o p) → asked_at h object.0 page.0 ≡ asked_at host o p
    by true same = some_is (asked_at h object.0 page.0) (asked_at host o p) same
    by false none = absurd (let bad : None ≡ Some (asked_at host o p) = none in cc)

lacked_absence : (header : Header) (h : ℕ) (object : ObjectId) (control : ℕ) (page : PageNo) (past : List Event) → named header ≤ object.0
    → IsAbsencePaid header (hears h object control (message.Unavailable page) ∷ past)
lacked_absence header h object control page past temporary = λ host o p declared is.
    let same : object.0 ≡ o = ap (λ (z : Asked). z.object) (absence_is h header object control page past host o p is) in
    absurd (omega (arith, temporary, declared, same))

zeroed_absence : (header : Header) (h : ℕ) (object : ObjectId) (control : ℕ) (page : PageNo) (past : List Event)
    → IsAbsencePaid header (zeros h object page ∷ hears h object control (message.Unavailable page) ∷ past)
zeroed_absence header h object control page past = λ host o p declared is.
    subst (λ (z : Asked). ((object.0 == z.object && page.0 == z.page) || false) ≡ true) (absence_is h header object control page past host o p is)
    (rw (own_host object.0, own_host page.0) refl)

-- the message has been heard, and what it brought followed; flags are as they were
pub record Heard (header : Header) (h : ℕ) (outside : Outside) (doing : Command) (k : Parts) (ids : Ids) (who : Woken) (new : HostParts)
    (flags : ℕ → Bool) (after past : List Event) : Type 0 where
  pub works : WorksBut header h (heard k new) ids who flags (after ++ past)
  pub fails : FailsNow header h who (after ++ past)
  pub fresh : EndsNobody who (after ++ past)
  pub asker : HasAsker who k.waits.rows
  pub answered : IsAnswered who new.resident
  pub goes : LegalEvents header h outside doing past [] after
  pub brought : IsBrought after
  pub paid : IsAbsencePaid header (after ++ past)

-- a message to one of the host's objects, and the kernel that hears it
record Hearing (header : Header) (h : ℕ) (k : Parts) (ids : Ids) (new : HostParts) (past : List Event) : Type 0 where
  rests : Rests header h k ids past
  fit : Fit new
  buffers : new.buffers ≡ k.memory.buffers

heard_still : (header : Header) (h : ℕ) (outside : Outside) (doing : Command) (k : Parts) (ids : Ids) (who : Woken) (new : HostParts) (after past : List Event)
    (object : ObjectId) (control : ℕ) (m : Message) → Hearing header h k ids new past → TakesNoOrder (hears h object control m ∷ past) → after ≡ []
    → Changed header h k ids who new past (hears h object control m ∷ past) → IsAbsencePaid header (hears h object control m ∷ past)
    → Heard header h outside doing k ids who new (λ o. is_cached h o past) after (hears h object control m ∷ past)
heard_still header h outside doing k ids who new after past object control m was unlocked none c paid =
    subst (λ (z : List Event). Heard header h outside doing k ids who new (λ o. is_cached h o past) z (hears h object control m ∷ past)) (sym none)
    (record {
      works =
          works_of header h k ids who new past (hears h object control m ∷ past) was.rests (stays_heard header h k ids past object control m was.rests unlocked)
          was.fit was.buffers c;
      fails = c.fails;
      fresh = c.fresh;
      asker = c.asker;
      answered = c.answered;
      goes = goes_none header h outside doing (hears h object control m ∷ past) [];
      brought = tt;
      paid = paid;
    })

heard_zeros : (header : Header) (h : ℕ) (outside : Outside) (doing : Command) (k : Parts) (ids : Ids) (after past : List Event) (object : ObjectId)
    (control : ℕ) (page : PageNo) (who : Woken) (new : HostParts) → Hearing header h k ids new past
    → supply.Zeroes k.host (key_of object page) who k.memory new [] after → lives h object control past ≡ true → object.0 < named header
    → Heard header h outside doing k ids who new (λ o. is_cached h o past) after (hears h object control (message.Unavailable page) ∷ past)
heard_zeros header h outside doing k ids after past object control page who new was zeroes lives_now declared =
    let told : after ≡ zeros h object page ∷ [] = zeroes.events
    ∙ ap (λ z. event.Zeroed z object page ∷ []) (named_host k.host h was.rests.matches.core.setting.numbered) in
    let c = changed_zeroed header h k ids k.host after past object control page who new was.rests zeroes lives_now declared in
    let lacks = lacking header h k past object control page zeroes.was was.rests.matches.core.pages.shown zeroes.asked lives_now in
    subst (λ (z : List Event). Heard header h outside doing k ids who new (λ o. is_cached h o past) z
    (hears h object control (message.Unavailable page) ∷ past)) (sym told)
    (record {
      works =
          works_of header h k ids who new past (zeros h object page ∷ hears h object control (message.Unavailable page) ∷ past) was.rests
          (stays_zeroed header h k past (hears h object control (message.Unavailable page) ∷ past) object page
          (stays_heard header h k ids past object control (message.Unavailable page) was.rests (refl, refl))) was.fit was.buffers c;
      fails = c.fails;
      fresh = c.fresh;
      asker = c.asker;
      answered = c.answered;
      goes =
          goes_one header h outside doing (hears h object control (message.Unavailable page) ∷ past) [] (zeros h object page)
          (record { none_owed = refl; shut = λ region. refl })
          (filled_follows header h outside doing new.frames past object control page lacks lives_now declared c.frames);
      brought = tt;
      paid = zeroed_absence header h object control page past;
    })

-- an answer is neither a lock request nor the end of an object
answer_unlocked : (h : ℕ) (object : ObjectId) (control size : ℕ) (m : Message) (past : List Event) → IsAnswer size m
    → TakesNoOrder (hears h object control m ∷ past)
answer_unlocked h object control size (message.Ready cache strategy) past is = (refl, refl)
answer_unlocked h object control size (message.Supply page lock precious bytes) past is = (refl, refl)
answer_unlocked h object control size (message.Unavailable page) past is = (refl, refl)
answer_unlocked h object control size (message.Error page reason) past is = (refl, refl)
answer_unlocked h object control size other past is = absurd is

hears_it : (header : Header) (h : ℕ) (outside : Outside) (doing : Command) (k : Parts) (ids : Ids) (after past : List Event) (object : ObjectId) (control : ℕ)
    (m : Message) (who : Woken) (new : HostParts)
    → Hearing header h k ids new past → IsAnswer k.size m → IsOfPushed h object.0 m past
    → AnswerEffects k.host object (outcome_of (object_at k.memory.objects object.0) control (row_at k.memory.resident object.0) m) who k.memory new [] after
    → Heard header h outside doing k ids who new (λ o. is_cached h o past) after (hears h object control m ∷ past)
hears_it header h outside doing k ids after past object control m who new was temp pushed answered =
    by_known (object_at k.memory.objects object.0) refl answered
  where
    rests : Rests header h k ids past
    rests = was.rests

    Answers : AnswerOutcome → Type 0
    Answers outcome = AnswerEffects k.host object outcome who k.memory new [] after

    -- what is heard of a message
    Hear : Message → Type 0
    Hear said = Heard header h outside doing k ids who new (λ o. is_cached h o past) after (hears h object control said ∷ past)

    still : (said : Message) → TakesNoOrder (hears h object control said ∷ past) → after ≡ []
        → Changed header h k ids who new past (hears h object control said ∷ past) → IsAbsencePaid header (hears h object control said ∷ past) → Hear said
    still said unlocked none c paid = heard_still header h outside doing k ids who new after past object control said was unlocked none c paid

    discards : (said : Message) → TakesNoOrder (hears h object control said ∷ past) → IsNothing header h object control said past → Answers Discarded
        → Hear said
    discards said unlocked nothing done =
        still said unlocked done.2
        (subst (λ (z : HostParts). Changed header h k ids who z past (hears h object control said ∷ past)) (sym done.1)
        (subst (λ (z : Woken). Changed header h k ids z k.memory past (hears h object control said ∷ past)) (sym done.0)
        (changed_none header h k ids past object control said rests nothing)))
        (no_absence header (hears h object control said ∷ past) nothing.absence)

    ready_now : (known : ObjectRow) (cache : Bool) (strategy : ℕ) → object_at k.memory.objects object.0 ≡ Some known → known.live ≡ true
        → lives h object control past ≡ true → Answers Readied → Hear (message.Ready cache strategy)
    ready_now known cache strategy found live lives_now done =
        let same : known ≡ done.known = some_is known done.known (sym found ∙ done.found) in
        still (message.Ready cache strategy) (refl, refl) done.events (changed_ready header h k ids [] after past object control cache strategy who new rests
        done
        (sym (ap (λ z. z.live) same) ∙ live) lives_now)
        (no_absence header (hears h object control (message.Ready cache strategy) ∷ past) refl)

    by_state : (known : ObjectRow) (cache : Bool) (strategy : ℕ) (pager : PagerState) → known.state ≡ pager → object_at k.memory.objects object.0 ≡ Some known
        → known.live ≡ true → lives h object control past ≡ true
        → live_control h object.0 past ≡ Some known.control → Answers (ready_outcome pager) → Hear (message.Ready cache strategy)
    by_state known cache strategy state.Without is found live lives_now number done = ready_now known cache strategy found live lives_now done
    by_state known cache strategy state.Sent is found live lives_now number done = ready_now known cache strategy found live lives_now done
    by_state known cache strategy state.Ready is found live lives_now number done =
        discards (message.Ready cache strategy) (refl, refl)
        (ready_again header h object control cache strategy past (rests.matches.core.controls.ready object.0 known.control number
        ∙ (ap ready_in found ∙ ap is_ready_state is))) done

    -- a page that is asked, or not
    by_asked : (page : PageNo) (outcome : AnswerOutcome) (said : Message) (x : Option PageRow) → TakesNoOrder (hears h object control said ∷ past)
        → asked_row (row_at k.memory.resident object.0 page.0) ≡ x
        → ((local header h (place_of object.0 page.0) past).asked ≡ false → IsNothing header h object control said past)
        → ((row : PageRow) → asked_row (row_at k.memory.resident object.0 page.0) ≡ Some row → Answers outcome → Hear said)
        → Answers (if is_some x then outcome else Discarded) → Hear said
    by_asked page outcome said None unlocked is nothing counts_now done =
        discards said unlocked (nothing (ap (λ z. z.asked) (rests.matches.core.pages.shown.shown object.0 page.0)
        ∙ unasked_shows k.memory.frames (row_at k.memory.resident object.0 page.0) (absent_at k.memory.objects object.0 page.0) is)) done
    by_asked page outcome said (Some row) unlocked is nothing counts_now done = counts_now row is done

    lacked_now : (page : PageNo) → lives h object control past ≡ true → named header ≤ object.0 → Answers (Lacked page) → Hear (message.Unavailable page)
    lacked_now page lives_now temporary lacks =
        still (message.Unavailable page) (refl, refl) lacks.events (changed_lacked header h k ids [] after past object control page who new rests lacks
        lives_now
        temporary) (lacked_absence header h object control page past temporary)

    zeroed_now : (known : ObjectRow) (page : PageNo) (kind : ObjectKind) → known.kind ≡ kind → kind ≢ Temp → object_at k.memory.objects object.0 ≡ Some known
        → lives h object control past ≡ true → Answers (Zeroed page) → Hear (message.Unavailable page)
    zeroed_now known page kind is other found lives_now zeroes = elim (kind_cases header object.0) [
      | inl declared ↦ heard_zeros header h outside doing k ids after past object control page who new was zeroes lives_now declared
      | inr temporary ↦ absurd (other (sym is ∙ ((rests.matches.core.objects.kinds.kinds object.0 known found).temporary temporary).kind))
    ]

    -- by the object's kind
    by_kind : (known : ObjectRow) (page : PageNo) (kind : ObjectKind) → known.kind ≡ kind → object_at k.memory.objects object.0 ≡ Some known
        → lives h object control past ≡ true → Answers (unavailable_outcome kind page) → Hear (message.Unavailable page)
    by_kind known page kinds.Temp is found lives_now done = elim (kind_cases header object.0) [
      | inl declared ↦ absurd (declared_kind header object.0 rests.matches.core.setting.ranged declared
          (sym ((rests.matches.core.objects.kinds.kinds object.0 known found).declared declared).kind ∙ is))
      | inr temporary ↦ lacked_now page lives_now temporary done
    ]
    by_kind known page kinds.File is found lives_now done =
        zeroed_now known page kinds.File is (λ bad. (let clash : kinds.File ≡ kinds.Temp = bad in cc)) found lives_now done
    by_kind known page kinds.Shared is found lives_now done =
        zeroed_now known page kinds.Shared is (λ bad. (let clash : kinds.Shared ≡ kinds.Temp = bad in cc)) found lives_now done
    by_kind known page kinds.Wild is found lives_now done =
        zeroed_now known page kinds.Wild is (λ bad. (let clash : kinds.Wild ≡ kinds.Temp = bad in cc)) found lives_now done

    by_message : (known : ObjectRow) (said : Message) → IsAnswer k.size said → IsOfPushed h object.0 said past
        → object_at k.memory.objects object.0 ≡ Some known → known.live ≡ true
        → lives h object control past ≡ true → live_control h object.0 past ≡ Some known.control
        → Answers (live_outcome known (row_at k.memory.resident object.0) said) → Hear said
    by_message known (message.Ready cache strategy) said_is before found live lives_now number done =
        by_state known cache strategy known.state refl found live lives_now number done
    by_message known (message.Supply page lock precious bytes) said_is before found live lives_now number done =
        by_asked page (Supplied page lock precious bytes) (message.Supply page lock precious bytes) (asked_row (row_at k.memory.resident object.0 page.0))
        (refl, refl) refl (unsupplied header h object control page lock precious bytes past)
        (λ row asked supplies. still (message.Supply page lock precious bytes) (refl, refl) supplies.events
        (changed_supplied header h k ids [] after past object control page lock precious bytes who new rests supplies lives_now said_is.0 before)
        (no_absence header (hears h object control (message.Supply page lock precious bytes) ∷ past) refl)) done
    by_message known (message.Unavailable page) said_is before found live lives_now number done =
        by_asked page (unavailable_outcome known.kind page) (message.Unavailable page) (asked_row (row_at k.memory.resident object.0 page.0)) (refl, refl) refl
        (unlacked header h object control page past)
        (λ row asked none. by_kind known page known.kind refl found lives_now none) done
    by_message known (message.Error page reason) said_is before found live lives_now number done =
        by_asked page (Failed page) (message.Error page reason) (asked_row (row_at k.memory.resident object.0 page.0)) (refl, refl) refl
        (unfailed header h object control page reason past)
        (λ row asked fails. still (message.Error page reason) (refl, refl) fails.events
        (changed_failed header h k ids [] after past object control page reason who new
        rests fails lives_now)
        (no_absence header (hears h object control (message.Error page reason) ∷ past) refl)) done
    by_message known other said_is before found live lives_now number done = absurd said_is

    by_test : (known : ObjectRow) (b : Bool) → (known.live && known.control == control) ≡ b → object_at k.memory.objects object.0 ≡ Some known
        → Answers (if b then live_outcome known (row_at k.memory.resident object.0) m else Discarded) → Hear m
    by_test known true is found done =
        let live = (and_parts known.live (known.control == control) is).0 in
        by_message known m temp pushed found live (lives_is rests object control known found ∙ is) (rests.matches.core.controls.live object.0
        ∙ (ap live_in found ∙ ap (λ b. if b then Some known.control else None) live)) done
    by_test known false is found done =
        discards m (answer_unlocked h object control k.size m past temp)
        (nothing_dead header h object control m past (lives_is rests object control known found ∙ is)) done

    by_known : (x : Option ObjectRow) → object_at k.memory.objects object.0 ≡ x → Answers (outcome_of x control (row_at k.memory.resident object.0) m) → Hear m
    by_known None found done =
        discards m (answer_unlocked h object control k.size m past temp) (nothing_dead header h object control m past
        (dead_none k.memory.objects object.0 control (live_control h object.0 past) (rests.matches.core.controls.live object.0) found)) done
    by_known (Some known) found done = by_test known (known.live && known.control == control) refl found done

pub hears_done : (header : Header) (h : ℕ) (outside : Outside) (doing : Command) (k : Parts) (ids : Ids) (before after past front : List Event)
    (object : ObjectId) (control : ℕ) (m : Message) (who : Woken) (new : HostParts)
    → Rests header h k ids past → front ≡ hears h object control m ∷ [] → IsAnswer k.size m → IsOfPushed h object.0 m past → before ≡ [] → Fit new
    → new.buffers ≡ k.memory.buffers
    → AnswerEffects k.host object (outcome_of (object_at k.memory.objects object.0) control (row_at k.memory.resident object.0) m) who k.memory new before after
    → Heard header h outside doing k ids who new (λ o. is_cached h o past) after (front ++ past)
hears_done header h outside doing k ids before after past front object control m who new rests is temp pushed none fit same answered =
    subst (λ (z : List Event). Heard header h outside doing k ids who new (λ o. is_cached h o past) after (z ++ past)) (sym is)
    (hears_it header h outside doing k ids after past object control m who new (record { rests = rests; fit = fit; buffers = same }) temp pushed
    (subst (λ (z : List Event). AnswerEffects k.host object (outcome_of (object_at k.memory.objects object.0) control (row_at k.memory.resident object.0) m) who
    k.memory new z after) none answered))

-- no flag changes by another answer than that the pager is ready
pub flags_heard : (h o size : ℕ) (past front after : List Event) (object : ObjectId) (control : ℕ) (m : Message) → front ≡ hears h object control m ∷ []
    → IsAnswer size m → is_ready_message m ≡ false → IsBrought after → is_cached h o (after ++ (front ++ past)) ≡ is_cached h o past
flags_heard h o size past front [] object control m told answer other brought =
    ap (λ z. is_cached h o (z ++ past)) told ∙ by m answer other
  where
    by : (x : Message) → IsAnswer size x → is_ready_message x ≡ false → is_cached h o (hears h object control x ∷ past) ≡ is_cached h o past
    by (message.Ready cache strategy) is unready = absurd (let bad : true ≡ false = unready in cc)
    by (message.Supply page lock precious bytes) is unready = refl
    by (message.Unavailable page) is unready = refl
    by (message.Error page reason) is unready = refl
    by said is unready = absurd is
flags_heard h o size past front (event.Zeroed host at page ∷ []) object control m told answer other brought =
    flags_heard h o size past front [] object control m told answer other tt
flags_heard h o size past front events object control m told answer other brought = absurd brought

-- the message is one that the host can take, and its parts fit
