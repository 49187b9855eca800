-- A pager says whether its object stays without an entry: by a first ready, or by a change of attributes, which is told back where it wants that.
use Rattle.vm_kernel.proofs.space.EntriesGone.{endings_quiet}
use Rattle.vm_legal.proofs.Stretched.{of_both}
use Rattle.vm_kernel.proofs.Common.{AllInner, AnswerBrings, AnswerEffects, Bool, Command, Discarded, EachOf, Elsewhere, EndsNobody, Err, Event, FailsNow, Fit}
use Rattle.vm_kernel.proofs.Common.{HasAsker, Header, HostParts, Ids, IsAnswered, LegalEvents, List, Message, None, ObjectId, ObjectRow, ObjectTable, Ok, OnOk}
use Rattle.vm_kernel.proofs.Common.{Option, Outside, PageKey, PageRow, PagerState, Paging, Parts, Plays, Readied, ResidentTable, Rests, Result, Some, Still}
use Rattle.vm_kernel.proofs.Common.{Waiting, Woken, Works, [], ap, append_assoc, arith, eqb_tells, error_taken, false, frame_count, host_id, if◌then◌else◌, inl}
use Rattle.vm_kernel.proofs.Common.{inr, is_control, is_ready, length, live_control, live_in, local, object_at, outcome_of, paging, place_of, ready_in}
use Rattle.vm_kernel.proofs.Common.{ready_outcome, refl, row_at, since, since_more, some_is, subst, sym, true, ℕ, ◌&&◌, ◌++◌, ◌+◌, ◌<◌, ◌==◌, ◌∙◌, ◌∷◌, ◌≡◌}
use Rattle.vm_kernel.proofs.Common.{◌≢◌, ◌≤◌, ◌⊎◌}
use Rattle.vm_kernel.proofs.abroad.OwnEvents.{own_named}
use Rattle.vm_kernel.proofs.abroad.OwnHost.{own_host, named_host}
use Rattle.vm_kernel.proofs.controls.AnswerEffects.{IsNothing, hears, lives, same_effect}
use Rattle.vm_kernel.proofs.controls.LockHeeded.{IsLive, live_of}
use Rattle.vm_kernel.proofs.controls.WordTaken.{changed_none, stays_heard, works_flagged, works_of}
use Rattle.vm_kernel.proofs.steps.EventsGrow.{goes_one, suffices, goes_none, goes_both}
use Rattle.vm_kernel.specs.Caching.{IsToKeep, SaysStay}
use Rattle.vm_kernel.specs.Matches.{WorksBut}
use Rattle.vm_legal.specs.Cached.{Attributes, attributes_taken, is_cached}
use Rattle.vm_model.specs.declared.event.Event.TheVariants as event
use Rattle.vm_model.specs.declared.message.Channel.TheVariants.{Up}
use Rattle.vm_model.specs.declared.message.Message.TheVariants as message
use Rattle.vm_objects.specs.declared.row.PagerState.TheVariants as state
use Rattle.vm_supply.specs.declared.woken.Woken.TheVariants as woken
use Rattle.vm_state.specs.Places.{known_local}
use Rattle.vm_kernel.specs.Taking.{IsChangePaid, is_attributes, KeepsAskers}
use Rattle.vm_state.proofs.Knowing.{known_put}
use Rattle.vm_kernel.proofs.controls.LockReplied.{replied_behind}
use Rattle.vm_legal.specs.Steps.{changes, absence_taken}
use Rattle.vm_legal.proofs.Locks.{no_change, no_request}
use Rattle.vm_state.specs.Pagers.{is_ready_state}
use Rattle.vm_state.proofs.Bypassing.{waits_quiet}
use Rattle.vm_kernel.specs.Rooms.{may_end, heeding, returning, HasBuffers, if_copies, leaving, Spends}
use Rattle.vm_state.proofs.Passing.{quiet_if}
use Rattle.vm_legal.proofs.Paying.{attributes_more, lock_more}
use Rattle.std.proofs.lemmas.Bool.{and_parts}
use Rattle.vm_kernel.specs.Sweeping.{EndsOnly}
use Rattle.vm_kernel.proofs.memory.PagesShown.{itself}
use Rattle.vm_kernel.proofs.lists.ListsAsTold.{plays_one, plays_both}
use Rattle.vm_kernel.specs.Turns.{RunsNone}
use Rattle.vm_legal.specs.Licences.{lock_taken}
use Rattle.vm_kernel.proofs.controls.WordHeard.{no_absence, lives_is, dead_none, hears_done}
use Rattle.vm_kernel.proofs.controls.LockDone.{inner_of}
use Rattle.vm_legal.proofs.Inside.{error_more, absence_more}
use Rattle.vm_terminate.specs.Counts.{live_below}
use Rattle.std.specs.Prelude.{IfOk}
use Rattle.vm_waits.specs.Waits.{count_copies}
use Rattle.vm_parts.specs.Listed.{listed_pages}
use Rattle.vm_terminate.proofs.Living.{same_put}
use Rattle.vm_base.specs.Listing.{Listed}

-- the flag of the object is set, and no other one
pub record Sets (h : ℕ) (objects : ObjectTable) (object : ObjectId) (cache : Bool) (past now : List Event) : Type 0 where
  pub known : ObjectRow
  pub found : object_at objects object.0 ≡ Some known
  pub live : known.live ≡ true
  pub others : (o : ℕ) → object.0 ≢ o → is_cached h o now ≡ is_cached h o past
  pub said : is_cached h object.0 now ≡ cache

pub to_keep : {header : Header} {h : ℕ} {k : Parts} {ids : Ids} {who : Woken} {object : ObjectId} {cache : Bool} {past now : List Event}
    → WorksBut header h k ids who (λ o. is_cached h o past) now → Sets h k.memory.objects object cache past now
    → IsToKeep header h k ids who object cache now
to_keep {h = h} {past = past} works sets = record {
  flags = λ o. is_cached h o past;
  works = works;
  known = sets.known;
  found = sets.found;
  live = sets.live;
  others = λ o apart. sym (sets.others o apart);
  said = λ declared. sets.said;
}

-- a change of attributes that was asked of a host's control
abbrev asked : ℕ → ObjectId → ℕ → Bool → ℕ → Bool → Attributes
asked h object control cache strategy reply =
    record { host = h; object = object.0; control = control; cache = cache; strategy = strategy; reply = reply }

-- a ready

module _ (h : ℕ) (object : ObjectId) (control : ℕ) (cache : Bool) (strategy : ℕ) (past : List Event) where
  abbrev readies_now : List Event
  readies_now = hears h object control (message.Ready cache strategy) ∷ past

  -- it is for a control that doesn't live
  ready_dead : lives h object control past ≡ false → (o : ℕ) → is_cached h o readies_now ≡ is_cached h o past
  ready_dead dead o = rw (own_host h) (elim (eqb_tells object.0 o) [
    | inl this ↦ rw (this.0, subst (λ (z : ℕ). is_control control (live_control h z past) ≡ false) this.1 dead) refl
    | inr apart ↦ rw apart.0 refl
  ])

  -- the pager was ready
  ready_again : lives h object control past ≡ true → is_ready h object.0 past ≡ true → (o : ℕ) → is_cached h o readies_now ≡ is_cached h o past
  ready_again live ready o = rw (own_host h) (elim (eqb_tells object.0 o) [
    | inl this ↦ rw (
      this.0,
      subst (λ (z : ℕ). is_control control (live_control h z past) ≡ true) this.1 live,
      subst (λ (z : ℕ). is_ready h z past ≡ true) this.1 ready,
    ) refl
    | inr apart ↦ rw apart.0 refl
  ])

  -- it is the first one
  ready_first : lives h object control past ≡ true → is_ready h object.0 past ≡ false → is_cached h object.0 readies_now ≡ cache
  ready_first live unready = rw (own_host h, own_host object.0, live, unready) refl

  ready_others : (o : ℕ) → object.0 ≢ o → is_cached h o readies_now ≡ is_cached h o past
  ready_others o apart = rw (own_host h) (elim (eqb_tells object.0 o) [ inl this ↦ absurd (apart this.1) | inr other ↦ rw other.0 refl ])

-- what it comes to
pub data ReadySaid (h : ℕ) (object : ObjectId) (control : ℕ) (cache : Bool) (strategy : ℕ) (past : List Event) (k : Parts) (who : Woken) (new : HostParts) :
    Type 0 where
  Silent : who ≡ woken.Nobody → ((o : ℕ) → is_cached h o (hears h object control (message.Ready cache strategy) ∷ past) ≡ is_cached h o past)
      → ReadySaid h object control cache strategy past k who new
  First : who ≡ woken.ReadyOf object → Sets h new.objects object cache past (hears h object control (message.Ready cache strategy) ∷ past)
      → ReadySaid h object control cache strategy past k who new

-- nothing but what is known of objects changes, and as many controls live
pub record KeepsBut (old new : HostParts) : Type 0 where
  pub rest : new ≡ record old { objects = new.objects }
  pub live : (n : ℕ) → live_below new.objects n ≡ live_below old.objects n
  pub rows : new.objects.rows ≡ old.objects.rows

pub ready_said : (header : Header) (h : ℕ) (k : Parts) (ids : Ids) (past before after : List Event) (object : ObjectId) (control : ℕ) (cache : Bool)
    (strategy : ℕ) (who : Woken) (new : HostParts) → Rests header h k ids past
    → AnswerEffects k.host object (outcome_of (object_at k.memory.objects object.0) control (row_at k.memory.resident object.0) (message.Ready cache strategy))
    who
    k.memory new before after
    → ReadySaid h object control cache strategy past k who new × ((after ≡ before) × KeepsBut k.memory new)
ready_said header h k ids past before after object control cache strategy who new rests answered = by_known (object_at k.memory.objects object.0) refl answered
  where
    Answers : Type 0
    Answers = ReadySaid h object control cache strategy past k who new × ((after ≡ before) × KeepsBut k.memory new)

    silent : ((o : ℕ) → is_cached h o (hears h object control (message.Ready cache strategy) ∷ past) ≡ is_cached h o past)
        → AnswerEffects k.host object Discarded who k.memory new before after → Answers
    silent same done = (
      Silent done.0 same,
      (
        done.2,
        record {
          rest = done.1 ∙ ap (λ (z : HostParts). record k.memory { objects = z.objects }) (sym done.1);
          live = λ n. ap (λ (z : HostParts). live_below z.objects n) done.1;
          rows = ap (λ (z : HostParts). z.objects.rows) done.1;
        },
      ),
    )

    first : (known : ObjectRow) → object_at k.memory.objects object.0 ≡ Some known → known.live ≡ true → lives h object control past ≡ true
        → is_ready h object.0 past ≡ false → AnswerEffects k.host object Readied who k.memory new before after → Answers
    first known found live lives_now unready done =
        let same : known ≡ done.known = some_is known done.known (sym found ∙ done.found) in (
          First done.woken (record {
            known = record done.known { state = state.Ready };
            found = known_put object.0 (record done.known { state = state.Ready }) k.memory.objects new.objects done.ready;
            live = sym (ap (λ z. z.live) same) ∙ live;
            others = ready_others h object control cache strategy past;
            said = ready_first h object control cache strategy past lives_now unready;
          }),
          (
            done.events,
            record {
              rest = done.rest;
              live = λ n.
                  same_put k.memory.objects new.objects object.0 done.known (record done.known { state = state.Ready }) done.found done.ready refl n;
              rows = done.rooms.rows;
            },
          ),
        )

    by_state : (known : ObjectRow) (pager : PagerState) → known.state ≡ pager → object_at k.memory.objects object.0 ≡ Some known → known.live ≡ true
        → lives h object control past ≡ true → is_ready h object.0 past ≡ ready_in (Some known)
        → AnswerEffects k.host object (ready_outcome pager) who k.memory new before after → Answers
    by_state known state.Without is found live lives_now ready done = first known found live lives_now (ready ∙ ap is_ready_state is) done
    by_state known state.Sent is found live lives_now ready done = first known found live lives_now (ready ∙ ap is_ready_state is) done
    by_state known state.Ready is found live lives_now ready done =
        silent (ready_again h object control cache strategy past lives_now (ready ∙ ap is_ready_state is)) done

    by_test : (known : ObjectRow) (b : Bool) → (known.live && known.control == control) ≡ b → object_at k.memory.objects object.0 ≡ Some known
        → AnswerEffects k.host object (if b then ready_outcome known.state else Discarded) who k.memory new before after → Answers
    by_test known true is found done =
        let live = (and_parts known.live (known.control == control) is).0 in
        let number = rests.matches.core.controls.live object.0 ∙ (ap live_in found ∙ ap (λ b. if b then Some known.control else None) live) in
        by_state known known.state refl found live (lives_is rests object control known found ∙ is)
        (rests.matches.core.controls.ready object.0 known.control number ∙ ap ready_in found) done
    by_test known false is found done = silent (ready_dead h object control cache strategy past (lives_is rests object control known found ∙ is)) done

    by_known : (x : Option ObjectRow) → object_at k.memory.objects object.0 ≡ x
        → AnswerEffects k.host object (outcome_of x control (row_at k.memory.resident object.0) (message.Ready cache strategy)) who k.memory new before after
        → Answers
    by_known None found done =
        silent
        (ready_dead h object control cache strategy past
        (dead_none k.memory.objects object.0 control (live_control h object.0 past) (rests.matches.core.controls.live object.0) found)) done
    by_known (Some known) found done = by_test known (known.live && known.control == control) refl found done

-- a change of attributes

module _ (h : ℕ) (object : ObjectId) (control : ℕ) (cache : Bool) (strategy : ℕ) (reply : Bool) (past : List Event) where
  abbrev pub changes_now : List Event
  changes_now = hears h object control (message.Attributes cache strategy reply) ∷ past

  -- it is for a control that doesn't live
  pub change_dead : lives h object control past ≡ false → (o : ℕ) → is_cached h o changes_now ≡ is_cached h o past
  change_dead dead o = rw (own_host h) (elim (eqb_tells object.0 o) [
    | inl this ↦ rw (this.0, subst (λ (z : ℕ). is_control control (live_control h z past) ≡ false) this.1 dead) refl
    | inr apart ↦ rw apart.0 refl
  ])

  pub change_sets : (objects : ObjectTable) (known : ObjectRow) → object_at objects object.0 ≡ Some known → known.live ≡ true
      → lives h object control past ≡ true → Sets h objects object cache past changes_now
  change_sets objects known found live lives_now = record {
    known = known;
    found = found;
    live = live;
    others = λ o apart. rw (own_host h) (elim (eqb_tells object.0 o) [ inl this ↦ absurd (apart this.1) | inr other ↦ rw other.0 refl ]);
    said = rw (own_host h, own_host object.0, lives_now) refl;
  }

  -- it is nothing to pages, frames and pagers
  pub change_nothing : (header : Header) → IsNothing header h object control (message.Attributes cache strategy reply) past
  change_nothing header = record {
    pages = λ o p. rw (own_host h) (same_effect header.size (object.0 == o && is_control control (live_control h o past)) (local header h (place_of o p) past));
    held = refl;
    ready = λ o live is. refl;
    error = refl;
    absence = refl;
  }

  -- the kernel stands for the history behind it, but for the flag
  pub change_taken : {header : Header} {k : Parts} {ids : Ids} → Rests header h k ids past
      → WorksBut header h k ids woken.Nobody (λ o. is_cached h o past) changes_now
  change_taken {header = header} {k = k} {ids = ids} rests =
      works_of header h k ids woken.Nobody k.memory past changes_now rests
      (stays_heard header h k ids past object control (message.Attributes cache strategy reply) rests (refl, refl)) rests.matches.core.fits.parts refl
      (changed_none header h k ids past object control (message.Attributes cache strategy reply) rests (change_nothing header))

-- that it is done is told
abbrev pub changed : ℕ → ObjectId → ℕ → Bool → ℕ → Event
changed h object control cache strategy = event.Sent (Up (host_id h) object) (message.Changed control cache strategy)

pub works_told : {header : Header} {h : ℕ} {k : Parts} {ids : Ids} {who : Woken} {flags : ℕ → Bool} {past : List Event} (object : ObjectId) (control : ℕ)
    (cache : Bool) (strategy : ℕ) → WorksBut header h k ids who flags past
    → WorksBut header h k ids who flags (changed h object control cache strategy ∷ past)
works_told {header = header} {h = h} {k = k} {past = past} object control cache strategy works =
    let c = works.core in
    record {
      core = record {
        setting = c.setting;
        calm = c.calm;
        fits = c.fits;
        spaces = c.spaces;
        objects = c.objects;
        copied = c.copied;
        controls = c.controls;
        flags = c.flags;
        pages = record {
          shown = record {
            shown = λ o p. ap (known_local header o p) (rw (own_host h)
                (same_effect header.size (object.0 == o) (local header h (place_of o p) past))) ∙ c.pages.shown.shown o p;
          };
          washed = c.pages.washed;
          counted = c.pages.counted;
        };
      };
      settled = record { none_owed = refl; shut = λ region. refl };
      replied = replied_behind tt works.replied;
      used = works.used;
      referred = works.referred;
      thin = works.thin;
      waits =
          waits_quiet header h (changed h object control cache strategy) past
          (λ place. quiet_if (h == h && object.0 == place.object.0) Elsewhere Elsewhere tt tt) works.waits;
      order = works.order;
    }

pub told_goes : {header : Header} {h : ℕ} {outside : Outside} {doing : Command} {k : Parts} {ids : Ids} {who : Woken} {flags : ℕ → Bool} {past : List Event}
    (object : ObjectId) (control : ℕ) (cache : Bool) (strategy : ℕ) → WorksBut header h k ids who flags past → live_control h object.0 past ≡ Some control
    → attributes_taken past ≡ Some (record { host = h; object = object.0; control = control; cache = cache; strategy = strategy; reply = true })
    → since (changes h object.0) past ≡ false → LegalEvents header h outside doing past [] (changed h object control cache strategy ∷ [])
told_goes {header = header} {h = h} {outside = outside} {doing = doing} {k = k} {past = past} object control cache strategy works live taken once =
    goes_one header h outside doing past [] (changed h object control cache strategy) works.settled (record {
      consequence = tt;
      cause = record { live = live; taken = taken; once = once };
      own_bytes = tt;
      frames = suffices header h k.memory.frames (changed h object control cache strategy ∷ past) works.core.pages.counted;
      inner = tt;
      said = refl;
      own = own_named h;
      creates = tt;
    })

-- what was told stays told

pub change_goes : (header : Header) (h : ℕ) (outside : Outside) (doing : Command) (past old new : List Event) → LegalEvents header h outside doing past old new
    → IsChangePaid (old ++ past) → IsChangePaid (new ++ past)
change_goes header h outside doing past old new goes paid = λ request is wanted.
    subst (λ (z : List Event). since (changes request.host request.object) z ≡ true) (sym told)
    (since_more (changes request.host request.object) goes.more (old ++ past) goes.inner
    (paid request (sym (attributes_more goes.more (old ++ past) goes.inner) ∙ (sym (ap attributes_taken told) ∙ is)) wanted))
  where
    told : new ++ past ≡ goes.more ++ (old ++ past)
    told = ap (λ z. z ++ past) goes.is ∙ append_assoc goes.more old past

-- where none was taken nothing is to be told
pub none_changed : (header : Header) (h : ℕ) (outside : Outside) (doing : Command) (past front after : List Event) → attributes_taken (front ++ past) ≡ None
    → LegalEvents header h outside doing (front ++ past) [] after → IsChangePaid (after ++ (front ++ past))
none_changed header h outside doing past front after none goes =
    change_goes header h outside doing (front ++ past) [] after goes (λ request is wanted. no_change request (front ++ past) none is)

-- what the call that heeds words says of it

pub stay_fails : (header : Header) (h : ℕ) (past : List Event) {object : ObjectId} (who : Woken) → (who ≡ woken.Nobody) ⊎ (who ≡ woken.ReadyOf object)
    → error_taken header past ≡ None → FailsNow header h who past
stay_fails header h past woken.Nobody is none = none
stay_fails header h past (woken.ReadyOf other) is none = none
stay_fails header h past (woken.Page key) is none = none
stay_fails header h past (woken.Fails key) (inl bad) none = absurd (let clash : woken.Fails key ≡ woken.Nobody = bad in cc)
stay_fails header h past {object = object} (woken.Fails key) (inr bad) none = absurd (let clash : woken.Fails key ≡ woken.ReadyOf object = bad in cc)

-- it wakes those who wait for the pager, or nobody
pub record StayWakes (who : Woken) : Type 0 where
  pub fresh : (past : List Event) → EndsNobody who past
  pub asker : (rows : List Waiting) → HasAsker who rows
  pub answered : (resident : ResidentTable) → IsAnswered who resident
  pub askers : (old new : List Waiting) → KeepsAskers who old new
  pub unfailed : (key : PageKey) → who ≡ woken.Fails key → ⊥

pub stay_wakes : {object : ObjectId} (who : Woken) → (who ≡ woken.Nobody) ⊎ (who ≡ woken.ReadyOf object) → StayWakes who
stay_wakes who (inl is) = subst StayWakes (sym is) (record {
  fresh = λ past. tt;
  asker = λ rows. tt;
  answered = λ resident. record { at = λ o p row found awaits. refl };
  askers = λ old new. tt;
  unfailed = λ key bad. (let clash : woken.Nobody ≡ woken.Fails key = bad in cc);
})
stay_wakes {object = object} who (inr is) = subst StayWakes (sym is) (record {
  fresh = λ past. tt;
  asker = λ rows. tt;
  answered = λ resident. record { at = λ o p row found awaits. refl };
  askers = λ old new. tt;
  unfailed = λ key bad. (let clash : woken.ReadyOf object ≡ woken.Fails key = bad in cc);
})

-- and brings no page
pub brings_none : (object : ObjectId) (x : Option ObjectRow) (control : ℕ) (rows : ℕ → Option PageRow) (m : Message) (s : Paging) → may_end m ≡ true
    → AnswerBrings object (outcome_of x control rows m) s s
brings_none object None control rows m s ends = refl
brings_none object (Some known) control rows (message.Ready cache strategy) s ends = by_test (known.live && known.control == control)
  where
    by_state : (pager : PagerState) → AnswerBrings object (ready_outcome pager) s s
    by_state state.Without = refl
    by_state state.Sent = refl
    by_state state.Ready = refl

    by_test : (b : Bool) → AnswerBrings object (if b then ready_outcome known.state else Discarded) s s
    by_test true = by_state known.state
    by_test false = refl
brings_none object (Some known) control rows (message.Attributes cache strategy reply) s ends = by_test (known.live && known.control == control)
  where
    by_test : (b : Bool) → AnswerBrings object (if b then Discarded else Discarded) s s
    by_test true = refl
    by_test false = refl
brings_none object (Some known) control rows other s ends = absurd (let bad : false ≡ true = ends in cc)

-- what a pager's word came to, once the flag is set

-- what the step took, of which nothing is owed but the completion
pub record TookStay (header : Header) (past events : List Event) : Type 0 where
  pub error : error_taken header past ≡ None
  pub absence : absence_taken header past ≡ None
  pub lock : lock_taken past ≡ None
  pub change : IsChangePaid (events ++ past)

-- behind some events that ran no access come ends
pub said_done : {header : Header} {h : ℕ} {outside : Outside} {doing : Command} {object : ObjectId} {who : Woken} (old mid new : Parts) {ids : Ids}
    {past events after : List Event} → (who ≡ woken.Nobody) ⊎ (who ≡ woken.ReadyOf object) → TookStay header past events
    → LegalEvents header h outside doing past [] events → EachOf RunsNone events → Plays header past [] (paging old) events (paging mid)
    → mid.waits ≡ old.waits → Works header h new ids who (after ++ past) → LegalEvents header h outside doing past events after → new.waits ≡ mid.waits
    → Plays header past events (paging mid) after (paging new) → EndsOnly events after
    → SaysStay header h outside doing object who old new ids past after
said_done {header = header} {h = h} {outside = outside} {doing = doing} old mid new {past = past} {events = events} {after = after} wakes took first quiet
    played same works
    goes waits plays only =
    record {
      wakes = wakes;
      works = works;
      waits = waits ∙ same;
      goes = all;
      quiet = subst (λ (z : List Event). EachOf RunsNone z) (sym only.is) (of_both RunsNone only.more events (endings_quiet only.more only.each) quiet);
      unfailed = error_more header after past inner ∙ took.error;
      zeroed = no_absence header (after ++ past) (absence_more header after past inner ∙ took.absence);
      locked = λ request is. no_request request (after ++ past) (lock_more after past inner ∙ took.lock) is;
      changed = change_goes header h outside doing past events after goes took.change;
      plays = plays_both played plays;
    }
  where
    all : LegalEvents header h outside doing past [] after
    all = goes_both header h outside doing past [] events after first goes

    inner : AllInner after
    inner = inner_of all

-- from the start of the call

-- the message changes attributes
pub record IsAttributes (m : Message) : Type 0 where
  pub cache : Bool
  pub strategy : ℕ
  pub reply : Bool
  pub is : m ≡ message.Attributes cache strategy reply

attributes_of : (m : Message) → is_attributes m ≡ true → IsAttributes m
attributes_of (message.Attributes cache strategy reply) is = record { cache = cache; strategy = strategy; reply = reply; is = refl }
attributes_of other is = absurd (let bad : false ≡ true = is in cc)

-- it was for another control
pub change_none : (header : Header) (h : ℕ) (outside : Outside) (doing : Command) (k : Parts) (ids : Ids) (past front after : List Event) (object : ObjectId)
    (control : ℕ) (m : Message) → Rests header h k ids past → front ≡ hears h object control m ∷ [] → is_attributes m ≡ true → after ≡ []
    → is_control control (live_in (object_at k.memory.objects object.0)) ≡ false
    → SaysStay header h outside doing object woken.Nobody k k ids (front ++ past) after
change_none header h outside doing k ids past front after object control m rests told word nothing dead =
    let it = attributes_of m word in
    subst (λ (z : List Event). SaysStay header h outside doing object woken.Nobody k k ids (front ++ past) z) (sym nothing)
    (subst (λ (z : List Event). SaysStay header h outside doing object woken.Nobody k k ids (z ++ past) []) (sym told)
    (subst (λ (z : Message). SaysStay header h outside doing object woken.Nobody k k ids (hears h object control z ∷ past) []) (sym it.is)
    (record {
      wakes = inl refl;
      works =
          works_flagged (change_taken h object control it.cache it.strategy it.reply past rests)
          (λ o less. change_dead h object control it.cache it.strategy it.reply past dead_now o);
      waits = refl;
      goes = goes_none header h outside doing (changes_now h object control it.cache it.strategy it.reply past) [];
      quiet = tt;
      unfailed = refl;
      zeroed = no_absence header (changes_now h object control it.cache it.strategy it.reply past) refl;
      locked = λ request is. no_request request (changes_now h object control it.cache it.strategy it.reply past) refl is;
      changed =
          λ request is wanted. no_change request (changes_now h object control it.cache it.strategy it.reply past) (rw dead_now refl) is;
      plays = Still;
    })))
  where
    dead_now : lives h object control past ≡ false
    dead_now = ap (is_control control) (rests.matches.core.controls.live object.0) ∙ dead

-- what is told first where it is for the live one
pub record ChangeSaid (header : Header) (h : ℕ) (outside : Outside) (doing : Command) (k : Parts) (ids : Ids) (object : ObjectId) (cache : Bool)
    (past events : List Event) : Type 0 where
  pub keep : IsToKeep header h k ids woken.Nobody object cache (events ++ past)
  pub took : TookStay header past events
  pub goes : LegalEvents header h outside doing past [] events
  pub quiet : EachOf RunsNone events
  pub plays : Plays header past [] (paging k) events (paging k)

module _ (header : Header) (h : ℕ) (outside : Outside) (doing : Command) (k : Parts) (ids : Ids) (past : List Event) (object : ObjectId) (control : ℕ)
    (cache : Bool) (strategy : ℕ) (rests : Rests header h k ids past)
    (live : IsLive (object_at k.memory.objects object.0) control) where
  number : live_control h object.0 past ≡ Some control
  number =
      rests.matches.core.controls.live object.0 ∙ (ap live_in live.is ∙ (ap (λ b. if b then Some live.known.control else None) live.live ∙ ap Some live.number))

  lives_now : lives h object control past ≡ true
  lives_now = ap (is_control control) number ∙ itself control

  -- nothing is to be told
  change_silent : ChangeSaid header h outside doing k ids object cache (changes_now h object control cache strategy false past) []
  change_silent = record {
    keep =
        to_keep (change_taken h object control cache strategy false past rests)
        (change_sets h object control cache strategy false past k.memory.objects live.known live.is live.live lives_now);
    took = record {
      error = refl;
      absence = refl;
      lock = refl;
      change = λ request is wanted.
          let it = some_is (asked h object control cache strategy false) request (sym (rw lives_now refl) ∙ is) in
          absurd (let bad : false ≡ true = ap (λ z. z.reply) it ∙ wanted in cc);
    };
    goes = goes_none header h outside doing (changes_now h object control cache strategy false past) [];
    quiet = tt;
    plays = Still;
  }

  -- the pager is told that it is done
  change_told : ChangeSaid header h outside doing k ids object cache (changes_now h object control cache strategy true past)
      (changed h object control cache strategy ∷ [])
  change_told =
      let now = changes_now h object control cache strategy true past in
      let works = change_taken h object control cache strategy true past rests in
      let sets = change_sets h object control cache strategy true past k.memory.objects live.known live.is live.live lives_now in
      let taken : attributes_taken now ≡ Some (asked h object control cache strategy true) = rw lives_now refl in
      record {
        keep = to_keep {past = past} (works_told object control cache strategy works)
            (record { known = sets.known; found = sets.found; live = sets.live; others = sets.others; said = sets.said });
        took = record {
          error = refl;
          absence = refl;
          lock = refl;
          change = λ request is wanted.
              subst (λ (z : Attributes). since (changes z.host z.object) (changed h object control cache strategy ∷ now) ≡ true)
              (some_is (asked h object control cache strategy true) request (sym taken ∙ is)) (rw (own_host h, own_host object.0) refl);
        };
        goes = told_goes object control cache strategy works number taken refl;
        quiet = (tt, tt);
        plays =
            plays_one header now [] (changed h object control cache strategy ∷ []) (changed h object control cache strategy) (paging k) (paging k) refl refl;
      }

-- the one or the other, from the start of the call
pub change_live : (header : Header) (h : ℕ) (outside : Outside) (doing : Command) (k : Parts) (ids : Ids) (past front events : List Event) (object : ObjectId)
    (control : ℕ) (cache : Bool) (strategy : ℕ) (reply : Bool) → Rests header h k ids past
    → front ≡ hears h object control (message.Attributes cache strategy reply) ∷ []
    → is_control control (live_in (object_at k.memory.objects object.0)) ≡ true
    → ((reply ≡ false) × (events ≡ []))
    ⊎ ((reply ≡ true) × (events ≡ event.Sent (Up k.host object) (message.Changed control cache strategy) ∷ []))
    → ChangeSaid header h outside doing k ids object cache (front ++ past) events
change_live header h outside doing k ids past front events object control cache strategy reply rests told live said =
    subst (λ (z : List Event). ChangeSaid header h outside doing k ids object cache (z ++ past) events) (sym told) (elim said [
      | inl silent ↦
          subst (λ (z : Bool). ChangeSaid header h outside doing k ids object cache (changes_now h object control cache strategy z past) events) (sym silent.0)
          (subst (λ (z : List Event). ChangeSaid header h outside doing k ids object cache (changes_now h object control cache strategy false past) z)
          (sym silent.1) (change_silent header h outside doing k ids past object control cache strategy rests is))
      | inr wanted ↦
          subst (λ (z : Bool). ChangeSaid header h outside doing k ids object cache (changes_now h object control cache strategy z past) events) (sym wanted.0)
          (subst (λ (z : List Event). ChangeSaid header h outside doing k ids object cache (changes_now h object control cache strategy true past) z)
          (ap (λ z. event.Sent (Up z object) (message.Changed control cache strategy) ∷ []) (sym (named_host k.host h rests.matches.core.setting.numbered))
          ∙ sym wanted.1) (change_told header h outside doing k ids past object control cache strategy rests is))
    ])
  where
    is : IsLive (object_at k.memory.objects object.0) control
    is = live_of (object_at k.memory.objects object.0) control live

-- what follows where a call was Ok, from five of its facts
pub keeps_ok : {A B : Type 0} (r : Result A B) {P Q R S T U : Type 0} → (P → Q → R → S → T → U) → OnOk r P → OnOk r Q → OnOk r R → OnOk r S → OnOk r T
    → OnOk r U
keeps_ok (Ok x) f p q r s t = f p q r s t
keeps_ok (Err e) f p q r s t = tt

-- a ready, from the start of the call
pub record ReadyHeard (header : Header) (h : ℕ) (outside : Outside) (doing : Command) (k : Parts) (ids : Ids) (object : ObjectId) (cache : Bool) (who : Woken)
    (new : HostParts) (past before events : List Event) : Type 0 where
  pub keep : (other : ObjectId) → who ≡ woken.ReadyOf other
      → IsToKeep header h (record k { memory = new }) ids (woken.ReadyOf object) object cache (events ++ past)
  pub still : ((other : ObjectId) → who ≡ woken.ReadyOf other → ⊥) → Works header h (record k { memory = new }) ids who (events ++ past)
  pub wakes : (who ≡ woken.Nobody) ⊎ (who ≡ woken.ReadyOf object)
  pub took : TookStay header past events
  pub goes : LegalEvents header h outside doing past [] events
  pub quiet : EachOf RunsNone events
  pub plays : Plays header past [] (paging k) events (paging (record k { memory = new }))
  pub keeps : KeepsBut k.memory new
  pub told : events ≡ before

pub ready_heard : (header : Header) (h : ℕ) (outside : Outside) (doing : Command) (k : Parts) (ids : Ids) (before after past front : List Event)
    (object : ObjectId) (control : ℕ) (cache : Bool) (strategy : ℕ) (m : Message) (who : Woken) (new : HostParts) → Rests header h k ids past
    → front ≡ hears h object control m ∷ [] → m ≡ message.Ready cache strategy → before ≡ [] → Fit new → new.buffers ≡ k.memory.buffers
    → AnswerEffects k.host object (outcome_of (object_at k.memory.objects object.0) control (row_at k.memory.resident object.0) m) who k.memory new before after
    → ReadyHeard header h outside doing k ids object cache who new (front ++ past) before after
ready_heard header h outside doing k ids before after past front object control cache strategy m who new rests told is none fit same answered =
    subst (λ (z : List Event). ReadyHeard header h outside doing k ids object cache who new (front ++ past) before z) (sym (it.1.0 ∙ none))
    (subst (λ (z : List Event). ReadyHeard header h outside doing k ids object cache who new (z ++ past) before [])
    (sym (told ∙ ap (λ z. hears h object control z ∷ []) is))
    (record {
      keep = λ other wakes. keep other wakes it.0;
      still = λ unready. still unready it.0;
      wakes = wakes it.0;
      took = record {
        error = refl;
        absence = refl;
        lock = refl;
        change = λ request taken wanted. no_change request now refl taken;
      };
      goes = goes_none header h outside doing now [];
      quiet = tt;
      plays = subst (λ (z : Paging). Plays header now [] (paging k) [] z) (sym (ap (λ (z : HostParts). paging (record k { memory = z })) it.1.1.rest)) Still;
      keeps = it.1.1;
      told = sym none;
    }))
  where
    now : List Event
    now = hears h object control (message.Ready cache strategy) ∷ past

    effects : AnswerEffects k.host object (outcome_of (object_at k.memory.objects object.0) control (row_at k.memory.resident object.0)
        (message.Ready cache strategy)) who k.memory new before after
    effects = subst (λ (z : Message). AnswerEffects k.host object (outcome_of (object_at k.memory.objects object.0) control (row_at k.memory.resident object.0)
        z) who k.memory new before after) is answered

    it : ReadySaid h object control cache strategy past k who new × ((after ≡ before) × KeepsBut k.memory new)
    it = ready_said header h k ids past before after object control cache strategy who new rests effects

    works : WorksBut header h (record k { memory = new }) ids who (λ o. is_cached h o past) now
    works = subst (λ (z : List Event). WorksBut header h (record k { memory = new }) ids who (λ o. is_cached h o past) (z ++ now)) (it.1.0 ∙ none)
        (hears_done header h outside doing k ids before after past (hears h object control (message.Ready cache strategy) ∷ []) object control
        (message.Ready cache strategy) who new rests refl tt tt none fit same effects).works

    keep : (other : ObjectId) → who ≡ woken.ReadyOf other → ReadySaid h object control cache strategy past k who new
        → IsToKeep header h (record k { memory = new }) ids (woken.ReadyOf object) object cache now
    keep other wakes (Silent nobody unchanged) = absurd (let bad : woken.Nobody ≡ woken.ReadyOf other = sym nobody ∙ wakes in cc)
    keep other wakes (First whom sets) =
        to_keep (subst (λ (z : Woken). WorksBut header h (record k { memory = new }) ids z (λ o. is_cached h o past) now) whom works) sets

    still : ((other : ObjectId) → who ≡ woken.ReadyOf other → ⊥) → ReadySaid h object control cache strategy past k who new
        → Works header h (record k { memory = new }) ids who now
    still unready (Silent nobody unchanged) = works_flagged works (λ o less. unchanged o)
    still unready (First whom sets) = absurd (unready object whom)

    wakes : ReadySaid h object control cache strategy past k who new → (who ≡ woken.Nobody) ⊎ (who ≡ woken.ReadyOf object)
    wakes (Silent nobody unchanged) = inl nobody
    wakes (First whom sets) = inr whom

-- what it costs
pub ready_spends : {k : Parts} {new : HostParts} (ids : Ids) (before after : Listed Event) → KeepsBut k.memory new → after.items ≡ before.items
    → before.room ≤ after.room + 1 → k.memory.resident.spare ≤ new.resident.spare
    → Spends (1 + leaving k ids) 0 (leaving (record k { memory = new }) ids) k before (record k { memory = new }) after
ready_spends {k = k} {new = new} ids before after keeps told room spare =
    let live = keeps.live ids.next_object in
    let rows = keeps.rows in
    let listed = ap (λ (z : HostParts). listed_pages z.queues) keeps.rest in
    let frames = ap (λ (z : HostParts). if_copies (count_copies k.waits.rows) (frame_count z.frames)) keeps.rest in
    let same = ap length told in
    record {
      told = omega (arith, live, listed, frames, same);
      room = omega (arith, live, listed, frames, room);
      rows = omega (arith, frames, spare);
      shadows = omega arith;
      objects = omega (arith, rows);
      copies = omega arith;
    }

-- whoever waits for a pager waits for the one that said so
pub ready_whom : (who : Woken) (other object : ObjectId) → who ≡ woken.ReadyOf other → (who ≡ woken.Nobody) ⊎ (who ≡ woken.ReadyOf object)
    → who ≡ woken.ReadyOf object
ready_whom who other object is (inl nobody) = absurd (let bad : woken.Nobody ≡ woken.ReadyOf other = sym nobody ∙ is in cc)
ready_whom who other object is (inr whom) = whom

-- there are as many buffers, for as many pages
pub buffers_kept : (k : Parts) (new : HostParts) → listed_pages new.queues ≡ listed_pages k.memory.queues → new.buffers.count ≡ k.memory.buffers.count
    → HasBuffers k → HasBuffers (record k { memory = new })
buffers_kept k new listed count has =
    subst (λ (n : ℕ). (if length k.declared.items == 0 then 0 else n) + 1 ≤ new.buffers.count) (sym listed)
    (subst (λ (n : ℕ). returning k + 1 ≤ n) (sym count) has)

-- nothing ended behind that
pub said_still : {header : Header} {h : ℕ} {outside : Outside} {doing : Command} {object : ObjectId} {who : Woken} (old new : Parts) {ids : Ids}
    {past events : List Event} → (who ≡ woken.Nobody) ⊎ (who ≡ woken.ReadyOf object) → TookStay header past events
    → LegalEvents header h outside doing past [] events → EachOf RunsNone events → Plays header past [] (paging old) events (paging new)
    → new.waits ≡ old.waits → Works header h new ids who (events ++ past) → SaysStay header h outside doing object who old new ids past events
said_still {header = header} {h = h} {outside = outside} {doing = doing} old new {past = past} {events = events} wakes took goes quiet plays same works =
    record {
      wakes = wakes;
      works = works;
      waits = same;
      goes = goes;
      quiet = quiet;
      unfailed = error_more header events past inner ∙ took.error;
      zeroed = no_absence header (events ++ past) (absence_more header events past inner ∙ took.absence);
      locked = λ request is. no_request request (events ++ past) (lock_more events past inner ∙ took.lock) is;
      changed = took.change;
      plays = plays;
    }
  where
    inner : AllInner events
    inner = inner_of goes

-- another message than a change of attributes takes none
pub other_change : (m : Message) → ((cache : Bool) (strategy : ℕ) (reply : Bool) → m ≡ message.Attributes cache strategy reply → ⊥) → is_attributes m ≡ false
other_change (message.Attributes cache strategy reply) other = absurd (other cache strategy reply refl)
other_change said other = refl

pub none_taken : (h : ℕ) (past front : List Event) (object : ObjectId) (control : ℕ) (m : Message) → front ≡ hears h object control m ∷ []
    → is_attributes m ≡ false → attributes_taken (front ++ past) ≡ None
none_taken h past front object control m told other = ap (λ z. attributes_taken (z ++ past)) told ∙ by m other
  where
    by : (x : Message) → is_attributes x ≡ false → attributes_taken (hears h object control x ∷ past) ≡ None
    by (message.Attributes cache strategy reply) none = absurd (let bad : true ≡ false = none in cc)
    by said none = refl

-- what such a word tells at most
pub heeds_all : (m : Message) (k : Parts) (ids : Ids) → may_end m ≡ true → heeding m k ids ≡ 1 + leaving k ids
heeds_all (message.Ready cache strategy) k ids ends = refl
heeds_all (message.Attributes cache strategy reply) k ids ends = refl
heeds_all other k ids ends = absurd (let bad : false ≡ true = ends in cc)

pub some_buffers : (k : Parts) → HasBuffers k → 0 < k.memory.buffers.count
some_buffers k has = omega (arith, has)

-- what follows from what is said of the answer, and doesn't look at it
pub ok_if : {A B Q : Type 0} {P : A → Type 0} (r : Result A B) → ((x : A) → P x → Q) → IfOk r P → OnOk r Q
ok_if (Ok x) f p = f x p
ok_if (Err e) f p = tt
