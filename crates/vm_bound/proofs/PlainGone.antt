-- What a place of memory that isn't shared costs behind a page that goes, and behind what a host says.
use Rattle.std.proofs.Common.{ℕ, zero, suc, ◌≡◌, ◌+◌, ◌==◌, ◌&&◌, ◌<◌, ◌≤◌, not, Bool, true, false, List, ◌∷◌, Option, Some, None, if◌then◌else◌}
use Rattle.std.proofs.Common.{ap, sym, refl, subst, ◌∙◌}
use Rattle.std.proofs.Common.{arith, inl, inr}
use Rattle.std.proofs.lemmas.Bool.{and_from, and_parts}
use Rattle.std.proofs.lemmas.Bool.Decides.{nat_tests}
use Rattle.std.specs.Prelude.{is_some, nat_le, nat_lt}
use Rattle.vm_base.specs.Limits.{most_tasks}
use Rattle.vm_base.specs.declared.ids.HostId.{HostId}
use Rattle.vm_base.specs.declared.ids.ObjectId.{ObjectId}
use Rattle.vm_base.specs.declared.ids.PageNo.{PageNo}
use Rattle.vm_bound.proofs.Going.{AllHaveFrames}
use Rattle.vm_bound.proofs.HeldPlaces.{wanted_held, wanted_reached}
use Rattle.vm_bound.proofs.Owing.{Follows, inner_weight, is_due}
use Rattle.vm_bound.proofs.Paying.{is_flushed_page}
use Rattle.vm_bound.proofs.PlainPlaces.{Costs, Shuts, costs_kept, is_later, opened, opened_live, opened_unasked, shuts_if, still_if, weight_kept}
use Rattle.vm_bound.proofs.PlainPlaces.{weight_two}
use Rattle.vm_bound.proofs.PlainPlaces.{weight_under}
use Rattle.vm_bound.proofs.Wanting.{any_same, is_wanted_of}
use Rattle.vm_bound.specs.Accesses.{is_wanted}
use Rattle.vm_bound.specs.Settles.{IsOnHosts}
use Rattle.vm_legal.specs.Licences.{Asks, Created, Discarded, DropCause, Drops, Flushed, GivesBack, HasCause, IsLocked, ReturnCause, ReturnOn}
use Rattle.vm_legal.specs.Licences.{Unreached, Wanted}
use Rattle.vm_legal.specs.Licences.{lock_taken, owed, up}
use Rattle.vm_legal.specs.Outside.{Outside, is_shared, is_wild}
use Rattle.vm_legal.specs.Reclaims.{Reclaims}
use Rattle.vm_legal.specs.Frames.{frames_free}
use Rattle.vm_legal.specs.Steps.{absence_taken}
use Rattle.vm_legal.specs.Walks.{Leads, Sight, Walks, page_on, sight}
use Rattle.vm_model.specs.Controls.{is_control, live_control, without_control}
use Rattle.vm_model.specs.Local as effect
use Rattle.vm_model.specs.Local.{Elsewhere, Local, LocalEffect, local_after}
use Rattle.vm_model.specs.Moments.{EachEvent}
use Rattle.vm_model.specs.Regions.{Backing, backing_of}
use Rattle.vm_model.specs.declared.command.Command.TheVariants as command
use Rattle.vm_model.specs.declared.event.Event.{Event}
use Rattle.vm_model.specs.declared.event.Event.TheVariants as event
use Rattle.vm_model.specs.declared.message.Channel.TheVariants.{Up}
use Rattle.vm_model.specs.declared.message.Message.{Message}
use Rattle.vm_model.specs.declared.message.Message.TheVariants as message
use Rattle.vm_model.specs.declared.script.Header.{Header}

-- Places.

-- 2 at one place, and nothing elsewhere
abbrev pub two_at : ℕ → ℕ → ℕ → ℕ → ℕ → ℕ → ℕ
two_at host object page h o p = if host == h && (object == o && page == p) then 2 else 0

pub record IsPlace (host object page h o p : ℕ) : Type 0 where
  pub host_is : host ≡ h
  pub object_is : object ≡ o
  pub page_is : page ≡ p

same_number : (a b : ℕ) → (a == b) ≡ true → a ≡ b
same_number a b is = grind (arith, nat_tests)

pub place_is : (host object page h o p : ℕ) → (host == h && (object == o && page == p)) ≡ true → IsPlace host object page h o p
place_is host object page h o p is =
    let first = and_parts (host == h) (object == o && page == p) is in
    let rest = and_parts (object == o) (page == p) first.1 in
    record { host_is = same_number host h first.0; object_is = same_number object o rest.0; page_is = same_number page p rest.1 }

clash : {A : Type 0} (b : Bool) → b ≡ true → b ≡ false → A
clash b is isnt = absurd (cc)

-- behind an event that leaves who waits, and where, the same is wanted
wanted_same : (header : Header) (h o p : ℕ) (host : HostId) (object : ObjectId) (m : Message) (past : List Event)
    → is_wanted header h o p (event.Sent (Up host object) m ∷ past) ≡ true → is_wanted header h o p past ≡ true
wanted_same header h o p host object m past is = sym (any_same header (λ access. true) most_tasks h o p (event.Sent (Up host object) m) past tt) ∙ is

-- 2 more at one place, where the event may open that
pub weight_opened : (header : Header) (h o p : ℕ) (now past : List Event) (opens own : Bool) → is_wild header o ≡ false → is_shared header o ≡ false
    → ((own ≡ true → opens ≡ false) → Costs header h o p now → Costs header h o p past)
    → inner_weight header h o p now ≤ inner_weight header h o p past + (if opens then if own then 2 else 0 else 0)
weight_opened header h o p now past true true tame plain kept =
    weight_under header h o p (inner_weight header h o p past + 2) now tame plain (λ costs. omega arith)
weight_opened header h o p now past true false tame plain kept =
    weight_under header h o p (inner_weight header h o p past + 0) now tame plain
    (λ costs. let two = weight_two header h o p past tame plain (kept (λ is. absurd (cc)) costs) in omega (arith, two))
weight_opened header h o p now past false own tame plain kept =
    weight_under header h o p (inner_weight header h o p past + 0) now tame plain
    (λ costs. let two = weight_two header h o p past tame plain (kept (λ is. refl) costs) in omega (arith, two))

-- Pages that go.

-- nobody lacks a frame, so nothing is reclaimed
none_reclaimed : (header : Header) (count host object page : ℕ) (past : List Event) → AllHaveFrames header past
    → Reclaims header (command.Settle count) host object page past → ⊥
none_reclaimed header count host object page past frames c = elim c.may [
  | inl pages ↦ pages
  | inr starves ↦
      let some = frames starves.wants.task starves.wants.access starves.wants.waits in
      let none : frames_free header starves.wants.waits.at.host past ≡ 0 =
      subst (λ (k : ℕ). frames_free header k past ≡ 0) (sym starves.wants.on_host) starves.none in
      omega (arith, some, none)
]

-- a page that a flush is over
flushed_is : (host object page returns : ℕ) (past : List Event) → IsLocked host object page returns true past
    → is_flushed_page host object page (lock_taken past) ≡ true
flushed_is host object page returns past c =
    ap (is_flushed_page host object page) c.taken ∙ over host object page c.first c.count c.from c.below
  where
    over : (host object page first count : ℕ) → first ≤ page → page < first + count
        → (host == host && (object == object && (nat_le first page && nat_lt page (first + count)))) ≡ true
    over host object page first count from below = grind (arith, nat_tests)

-- a page that is wanted goes by a flush alone
drop_why : (header : Header) (outside : Outside) (count host object page : ℕ) (past : List Event) → EachEvent (HasCause header outside) past
    → AllHaveFrames header past → is_wild header object ≡ false → is_wanted header host object page past ≡ true
    → Drops header (command.Settle count) host object page past → is_flushed_page host object page (lock_taken past) ≡ true
drop_why header outside count host object page past caused frames tame wanted c = by c.why
  where
    by : DropCause header (command.Settle count) host object page (page_on header host object page past) past
        → is_flushed_page host object page (lock_taken past) ≡ true
    by (DropCause.Reclaimed clean plain reclaims) = absurd (none_reclaimed header count host object page past frames reclaims)
    by (Unreached later unreached) = absurd (unreached (wanted_reached header outside host object page past caused wanted later))
    by (Flushed returns locked given) = flushed_is host object page returns past locked
    by (Discarded destroyed rising) = clash (is_wild header object) destroyed.wild tame
    by (DropCause.Ended clean plain declared unheld) = absurd (wanted_held header outside host object page past caused wanted unheld)

pub dropped_costs : (header : Header) (outside : Outside) (count h o p : ℕ) (host : HostId) (object : ObjectId) (page : PageNo) (past : List Event)
    → Follows header outside count (event.Dropped host object page) past → is_wild header o ≡ false
    → ((host.0 == h && (object.0 == o && page.0 == p)) ≡ true → is_flushed_page host.0 object.0 page.0 (lock_taken past) ≡ false)
    → Costs header h o p (event.Dropped host object page ∷ past) → Costs header h o p past
dropped_costs header outside count h o p host object page past f tame apart =
    costs_kept header h o p (event.Dropped host object page) past refl refl
    (λ is. sym (any_same header (λ access. true) most_tasks h o p (event.Dropped host object page) past tt) ∙ is)
    (λ wanted. still_if header h o p (host.0 == h && (object.0 == o && page.0 == p)) effect.Drops past (λ is. never is wanted))
  where
    never : (host.0 == h && (object.0 == o && page.0 == p)) ≡ true → is_wanted header h o p past ≡ true → ⊥
    never is wanted =
        let here = place_is host.0 object.0 page.0 h o p is in
        clash (is_flushed_page host.0 object.0 page.0 (lock_taken past))
        (drop_why header outside count host.0 object.0 page.0 past f.causes f.frames (subst (λ (k : ℕ). is_wild header k ≡ false) (sym here.object_is) tame)
        (subst (λ (k : ℕ). is_wanted header k object.0 page.0 past ≡ true) (sym here.host_is)
        (subst (λ (k : ℕ). is_wanted header h k page.0 past ≡ true) (sym here.object_is)
        (subst (λ (k : ℕ). is_wanted header h o k past ≡ true) (sym here.page_is) wanted)))
        f.licensed.0)
        (apart is)

-- a page that is wanted and goes back stays, but by a flush
return_why : (header : Header) (outside : Outside) (count host object page : ℕ) (keep : Bool) (past : List Event) → EachEvent (HasCause header outside) past
    → AllHaveFrames header past → (owed past ≡ Some (ReturnOn (up host object)) → ⊥) → is_wanted header host object page past ≡ true
    → is_flushed_page host object page (lock_taken past) ≡ false → ReturnCause header (command.Settle count) host object page keep past → keep ≡ true
return_why header outside count host object page keep past caused frames unowed wanted kept (ReturnCause.Reclaimed gone reclaims) =
    absurd (none_reclaimed header count host object page past frames reclaims)
return_why header outside count host object page keep past caused frames unowed wanted kept (Created control size rest is gone reclaims) =
    absurd (unowed (ap owed is))
return_why header outside count host object page keep past caused frames unowed wanted kept (Wanted returns true locked given is) =
    clash (is_flushed_page host object page (lock_taken past)) (flushed_is host object page returns past locked) kept
return_why header outside count host object page keep past caused frames unowed wanted kept (Wanted returns false locked given is) = is
return_why header outside count host object page keep past caused frames unowed wanted kept (ReturnCause.Ended gone declared unheld) =
    absurd (wanted_held header outside host object page past caused wanted unheld)

shuts_return : (keep : Bool) (was : Local) → keep ≡ true → was.here ≡ true → Shuts (effect.Returns keep) was
shuts_return true was is here = here
shuts_return false was is here = absurd (let bad : false ≡ true = is in cc)

pub returned_costs : (header : Header) (outside : Outside) (count h o p : ℕ) (host : HostId) (object : ObjectId) (control : ℕ) (page : PageNo)
    (dirty keep : Bool) (bytes : List ℕ) (past : List Event)
    → Follows header outside count (event.Sent (Up host object) (message.Return control page dirty keep bytes)) past
    → ((host.0 == h && (object.0 == o && page.0 == p)) ≡ true → is_flushed_page host.0 object.0 page.0 (lock_taken past) ≡ false)
    → Costs header h o p (event.Sent (Up host object) (message.Return control page dirty keep bytes) ∷ past) → Costs header h o p past
returned_costs header outside count h o p host object control page dirty keep bytes past f apart =
    costs_kept header h o p (event.Sent (Up host object) (message.Return control page dirty keep bytes)) past refl refl
    (wanted_same header h o p host object (message.Return control page dirty keep bytes) past)
    (λ wanted. still_if header h o p (host.0 == h && object.0 == o) (if page.0 == p then effect.Returns keep else Elsewhere) past
    (λ one. shuts_if (page.0 == p) (effect.Returns keep) (page_on header h o p past)
    (λ two. let parts = and_parts (host.0 == h) (object.0 == o) one in
    stays wanted (and_from (host.0 == h) (object.0 == o && page.0 == p) parts.0 (and_from (object.0 == o) (page.0 == p) parts.1 two)))))
  where
    gives : GivesBack header (command.Settle count) host.0 control object.0 page.0 dirty keep bytes past
    gives = f.licensed.0

    stays : is_wanted header h o p past ≡ true → (host.0 == h && (object.0 == o && page.0 == p)) ≡ true
        → Shuts (effect.Returns keep) (page_on header h o p past)
    stays wanted is =
        let here = place_is host.0 object.0 page.0 h o p is in
        shuts_return keep (page_on header h o p past)
        (return_why header outside count host.0 object.0 page.0 keep past f.causes f.frames (f.going.unowed (up host.0 object.0))
        (subst (λ (k : ℕ). is_wanted header k object.0 page.0 past ≡ true) (sym here.host_is)
        (subst (λ (k : ℕ). is_wanted header h k page.0 past ≡ true) (sym here.object_is)
        (subst (λ (k : ℕ). is_wanted header h o k past ≡ true) (sym here.page_is) wanted)))
        (apart is) gives.why)
        (subst (λ (k : ℕ). (page_on header k o p past).here ≡ true) here.host_is
        (subst (λ (k : ℕ). (page_on header host.0 k p past).here ≡ true) here.object_is
        (subst (λ (k : ℕ). (page_on header host.0 object.0 k past).here ≡ true) here.page_is gives.here)))

-- What else a host says.

pub unlock_costs : (header : Header) (h o p : ℕ) (host : HostId) (object : ObjectId) (control : ℕ) (page : PageNo) (access : ℕ) (past : List Event)
    → Costs header h o p (event.Sent (Up host object) (message.Unlock control page access) ∷ past) → Costs header h o p past
unlock_costs header h o p host object control page access past =
    costs_kept header h o p (event.Sent (Up host object) (message.Unlock control page access)) past refl refl
    (wanted_same header h o p host object (message.Unlock control page access) past)
    (λ wanted. still_if header h o p (host.0 == h && object.0 == o) (if page.0 == p then effect.Unlocks else Elsewhere) past
    (λ one. shuts_if (page.0 == p) effect.Unlocks (page_on header h o p past) (λ two. tt)))

pub completed_costs : (header : Header) (h o p : ℕ) (host : HostId) (object : ObjectId) (control : ℕ) (page : PageNo) (count : ℕ) (past : List Event)
    → Costs header h o p (event.Sent (Up host object) (message.Completed control page count) ∷ past) → Costs header h o p past
completed_costs header h o p host object control page count past =
    costs_kept header h o p (event.Sent (Up host object) (message.Completed control page count)) past refl refl
    (wanted_same header h o p host object (message.Completed control page count) past)
    (λ wanted. still_if header h o p (host.0 == h && object.0 == o) Elsewhere past (λ one. tt))

pub changed_costs : (header : Header) (h o p : ℕ) (host : HostId) (object : ObjectId) (control : ℕ) (cache : Bool) (strategy : ℕ) (past : List Event)
    → Costs header h o p (event.Sent (Up host object) (message.Changed control cache strategy) ∷ past) → Costs header h o p past
changed_costs header h o p host object control cache strategy past =
    costs_kept header h o p (event.Sent (Up host object) (message.Changed control cache strategy)) past refl refl
    (wanted_same header h o p host object (message.Changed control cache strategy) past)
    (λ wanted. still_if header h o p (host.0 == h && object.0 == o) Elsewhere past (λ one. tt))

-- an object that ends has no control any more

no_some : (control : ℕ) (x : Option ℕ) → x ≡ Some control → is_some (without_control control x) ≡ false
no_some control x is =
    ap (λ (y : Option ℕ). is_some (without_control control y)) is ∙ by (control == control) (grind (arith, nat_tests))
  where
    by : (b : Bool) → b ≡ true → is_some (if b then None else Some control) ≡ false
    by true is = refl
    by false is = absurd (let bad : false ≡ true = is in cc)

pub terminate_costs : (header : Header) (h o p : ℕ) (host : HostId) (object : ObjectId) (control : ℕ) (past : List Event)
    → live_control host.0 object.0 past ≡ Some control
    → Costs header h o p (event.Sent (Up host object) (message.Terminate control) ∷ past) → Costs header h o p past
terminate_costs header h o p host object control past live =
    costs_kept header h o p (event.Sent (Up host object) (message.Terminate control)) past refl refl
    (wanted_same header h o p host object (message.Terminate control) past)
    (λ wanted. by (host.0 == h && object.0 == o) refl)
  where
    ends : LocalEffect
    ends = if is_control control (live_control h o past) then effect.Ends else Elsewhere

    by : (b : Bool) → (host.0 == h && object.0 == o) ≡ b
        → opened (is_later header o) (local_after header.size (if b then ends else Elsewhere) (page_on header h o p past))
        (is_some (if b then without_control control (live_control h o past) else live_control h o past)) ≡ true
        → opened (is_later header o) (page_on header h o p past) (is_some (live_control h o past)) ≡ true
    by true is now =
        let parts = and_parts (host.0 == h) (object.0 == o) is in
        let here : live_control h o past ≡ Some control =
        subst (λ (k : ℕ). live_control k o past ≡ Some control) (same_number host.0 h parts.0)
        (subst (λ (k : ℕ). live_control host.0 k past ≡ Some control) (same_number object.0 o parts.1) live) in
        clash (is_some (without_control control (live_control h o past)))
        (opened_live (is_later header o) (local_after header.size ends (page_on header h o p past)) (is_some (without_control control (live_control h o past)))
        now)
        (no_some control (live_control h o past) here)
    by false isnt now = now

-- A request.

pub request_costs : (header : Header) (h o p : ℕ) (host : HostId) (object : ObjectId) (control : ℕ) (page : PageNo) (access : ℕ) (past : List Event)
    → Costs header h o p (event.Sent (Up host object) (message.Request control page access) ∷ past) → Costs header h o p past
request_costs header h o p host object control page access past =
    costs_kept header h o p (event.Sent (Up host object) (message.Request control page access)) past refl refl
    (wanted_same header h o p host object (message.Request control page access) past)
    (λ wanted. still_if header h o p (host.0 == h && object.0 == o) (if page.0 == p && is_control control (live_control h o past) then effect.Asks
    else Elsewhere) past
    (λ one. shuts_if (page.0 == p && is_control control (live_control h o past)) effect.Asks (page_on header h o p past) (λ two. tt)))

pub walks_lead : (sights : ℕ → ℕ → Sight) (backings : ℕ → Backing) (n top top_page o p : ℕ) → Walks sights backings n top top_page o p
    → Leads backings n top top_page o p
walks_lead sights backings zero top top_page o p walks = walks
walks_lead sights backings (suc n) top top_page o p walks =
    (walks.1, walks_lead sights backings n (backings top).under ((backings top).shift + top_page) o p walks.2)

-- what is asked for cost something, where it wasn't due
pub asked_costs : (header : Header) (outside : Outside) (host control object page access : ℕ) (past : List Event) → EachEvent (HasCause header outside) past
    → EachEvent (IsOnHosts header) past → Asks header host control object page access past
    → is_due header host object page (absence_taken header past) past ≡ false → Costs header host object page past
asked_costs header outside host control object page access past caused hosts c due =
    record {
      due = due;
      opens = opens (page_on header host object page past).here (page_on header host object page past).asked (live_control host object past)
          _ c.away c.unasked c.live c.known;
      wanted = subst (λ (k : ℕ). is_wanted header k object page past ≡ true) c.on_host
          (is_wanted_of header outside c.task object page c.access past caused hosts c.waits
          (record {
            top = c.comes.top;
            top_page = c.comes.top_page;
            steps = c.comes.steps;
            is_top = c.comes.is_top;
            leads = walks_lead (λ k q. sight header host k q past) (λ k. backing_of header k past) c.comes.steps c.comes.top c.comes.top_page object page
                c.comes.walks;
          }));
    }
  where
    opens : (here asked : Bool) (live : Option ℕ) (absent : Bool) → here ≡ false → asked ≡ false → live ≡ Some control → absent ≡ false
        → (not here && (not asked && (is_some live && not absent))) ≡ true
    opens here asked live absent away unasked lives known = rw (away, unasked, lives, known) refl

-- so it pays for the request
pub request_weight : (header : Header) (outside : Outside) (h o p : ℕ) (host : HostId) (object : ObjectId) (control : ℕ) (page : PageNo) (access : ℕ)
    (past : List Event) → EachEvent (HasCause header outside) past → EachEvent (IsOnHosts header) past
    → Asks header host.0 control object.0 page.0 access past
    → (is_shared header object.0 ≡ false → is_due header host.0 object.0 page.0 (absence_taken header past) past ≡ false)
    → is_wild header o ≡ false → is_shared header o ≡ false
    → inner_weight header h o p (event.Sent (Up host object) (message.Request control page access) ∷ past) + two_at host.0 object.0 page.0 h o p
    ≤ inner_weight header h o p past
request_weight header outside h o p host object control page access past caused hosts c due tame plain =
    by (host.0 == h && (object.0 == o && page.0 == p)) refl
  where
    e : Event
    e = event.Sent (Up host object) (message.Request control page access)

    asked : (b d : Bool) → b ≡ true → d ≡ true
        → opened (is_later header o) (local_after header.size (if b then if d then effect.Asks else Elsewhere else Elsewhere) (page_on header h o p past))
        (is_some (live_control h o past)) ≡ true → ⊥
    asked true true one two now =
        clash true refl (opened_unasked (is_later header o) (record (page_on header h o p past) { asked = true }) (is_some (live_control h o past)) now)
    asked true false one two now = absurd (let bad : false ≡ true = two in cc)
    asked false d one two now = absurd (let bad : false ≡ true = one in cc)

    counts : (x : Option ℕ) → x ≡ Some control → is_control control x ≡ true
    counts x is = ap (is_control control) is ∙ itself control
      where
        itself : (n : ℕ) → (n == n) ≡ true
        itself n = grind (arith, nat_tests)

    by : (b : Bool) → (host.0 == h && (object.0 == o && page.0 == p)) ≡ b
        → inner_weight header h o p (e ∷ past) + (if b then 2 else 0) ≤ inner_weight header h o p past
    by true is =
        let here = place_is host.0 object.0 page.0 h o p is in
        let first = and_parts (host.0 == h) (object.0 == o && page.0 == p) is in
        let rest = and_parts (object.0 == o) (page.0 == p) first.1 in
        let live : live_control h o past ≡ Some control =
        subst (λ (k : ℕ). live_control k o past ≡ Some control) here.host_is
        (subst (λ (k : ℕ). live_control host.0 k past ≡ Some control) here.object_is c.live) in
        let costs : Costs header h o p past =
        subst (λ (k : ℕ). Costs header k o p past) here.host_is
        (subst (λ (k : ℕ). Costs header host.0 k p past) here.object_is
        (subst (λ (k : ℕ). Costs header host.0 object.0 k past) here.page_is
        (asked_costs header outside host.0 control object.0 page.0 access past caused hosts c
        (due (subst (λ (k : ℕ). is_shared header k ≡ false) (sym here.object_is) plain))))) in
        let two = weight_two header h o p past tame plain costs in
        let none = weight_under header h o p 0 (e ∷ past) tame plain
        (λ now. absurd (asked (host.0 == h && object.0 == o) (page.0 == p && is_control control (live_control h o past))
        (and_from (host.0 == h) (object.0 == o) first.0 rest.0)
        (and_from (page.0 == p) (is_control control (live_control h o past)) rest.1 (counts (live_control h o past) live)) now.opens)) in
        omega (arith, two, none)
    by false isnt =
        let less = weight_kept header h o p (e ∷ past) past tame plain (request_costs header h o p host object control page access past) in
        omega (arith, less)
