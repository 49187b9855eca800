-- When a step has ended nothing is due, and no page is left that its flush was over.
use Rattle.std.proofs.Common.{ℕ, zero, suc, ◌≡◌, ◌≤◌, ◌<◌, ◌+◌, ◌*◌, List, [], ◌∷◌, Bool, true, false, Option, None, Some, refl, sym, subst, ◌∙◌, arith}
use Rattle.std.proofs.Common.{if◌then◌else◌}
use Rattle.std.proofs.lemmas.Bool.Decides.{nat_tests}
use Rattle.std.specs.Prelude.{◌==◌, ◌&&◌, ◌||◌, nat_lt, not}
use Rattle.vm_bound.proofs.Distinct.{places_lower}
use Rattle.vm_bound.proofs.OpenPages.{flushed_away}
use Rattle.vm_bound.proofs.Owing.{inner_places, inner_weight, is_due, turns}
use Rattle.vm_bound.proofs.Paying.{is_flushed_page}
use Rattle.vm_bound.proofs.SharedMoves.{here_before}
use Rattle.vm_bound.specs.Accesses.{is_wanted, is_wanted_to_write, turn_weight}
use Rattle.vm_bound.specs.Letters.{host_count}
use Rattle.vm_bound.specs.Places.{asked_for, is_open, place_weight, places, write_turns}
use Rattle.vm_legal.specs.Debts.{HasObeyed, IsPaid, was_on}
use Rattle.vm_legal.specs.Licences.{HasCause, LockRequest, gives_back, lock_taken, zeroes}
use Rattle.vm_legal.specs.Outside.{Outside, is_shared, is_wild}
use Rattle.vm_legal.specs.Steps.{Asked, absence_taken, before_step, drops_page, gives_page, is_kept_return, is_return, returns_page, since}
use Rattle.vm_legal.specs.Walks.{page_on, sight}
use Rattle.vm_shared.proofs.Declared.{shared_declared}
use Rattle.vm_model.specs.Controls.{is_control, live_control}
use Rattle.vm_model.specs.Local.{Elsewhere, Local, TakesLock, local_after}
use Rattle.vm_model.specs.Moments.{EachEvent}
use Rattle.vm_model.specs.Named.{named}
use Rattle.vm_model.specs.Regions.{next_object, object_pages}
use Rattle.vm_model.specs.Words.{in_range}
use Rattle.vm_model.specs.declared.event.Event.{Event}
use Rattle.vm_model.specs.declared.event.Event.TheVariants as event
use Rattle.vm_model.specs.declared.message.Channel.TheVariants.{Up, Down}
use Rattle.vm_model.specs.declared.message.Message.{Message}
use Rattle.vm_model.specs.declared.message.Message.TheVariants as message
use Rattle.vm_model.specs.declared.script.Header.{Header}

-- Events that tell of a page that it goes.

since_less : (one other : Event → Bool) → ((e : Event) → one e ≡ true → other e ≡ true) → (past : List Event) → since one past ≡ true → since other past ≡ true
since_less one other less [] is = absurd (let bad : false ≡ true = is in cc)
since_less one other less (event.Line line ∷ past) is = absurd (let bad : false ≡ true = is in cc)
since_less one other less (event.Taken channel m ∷ past) is = absurd (let bad : false ≡ true = is in cc)
since_less one other less (e ∷ past) is = by (one e) refl (since one past) refl is (since_less one other less past)
  where
    left : (a b : Bool) → a ≡ true → (a || b) ≡ true
    left true b is = refl
    left false b is = absurd (let bad : false ≡ true = is in cc)

    right : (a b : Bool) → b ≡ true → (a || b) ≡ true
    right true b is = refl
    right false b is = is

    by : (a : Bool) → one e ≡ a → (b : Bool) → since one past ≡ b → (a || b) ≡ true → (since one past ≡ true → since other past ≡ true)
        → (other e || since other past) ≡ true
    by true now b before is more = left (other e) (since other past) (less e now)
    by false now true before is more = right (other e) (since other past) (more before)
    by false now false before is more = absurd (let bad : false ≡ true = is in cc)

kept_return : (p : ℕ) (kept : Bool) (m : Message) → is_kept_return p kept m ≡ true → is_return p m ≡ true
kept_return p true (message.Return control page dirty keep bytes) is = first (page.0 == p) keep is
  where
    first : (a b : Bool) → (a && b) ≡ true → a ≡ true
    first true b is = refl
    first false b is = absurd (let bad : false ≡ true = is in cc)
kept_return p false (message.Return control page dirty keep bytes) is = first (page.0 == p) (not keep) is
  where
    first : (a b : Bool) → (a && b) ≡ true → a ≡ true
    first true b is = refl
    first false b is = absurd (let bad : false ≡ true = is in cc)
kept_return p true m is = absurd (let bad : false ≡ true = is in cc)
kept_return p false m is = absurd (let bad : false ≡ true = is in cc)

returned_given : (h o p : ℕ) (kept : Bool) (e : Event) → returns_page h o p kept e ≡ true → gives_page h o p e ≡ true
returned_given h o p kept (event.Sent (Up host object) m) is = by (host.0 == h) (object.0 == o) (is_kept_return p kept m) (is_return p m) (kept_return p kept m) is
  where
    by : (a b c d : Bool) → (c ≡ true → d ≡ true) → (a && (b && c)) ≡ true → (a && (b && d)) ≡ true
    by true true c d more is = more is
    by true false c d more is = absurd (let bad : false ≡ true = is in cc)
    by false b c d more is = absurd (let bad : false ≡ true = is in cc)
returned_given h o p kept e is = absurd (let bad : false ≡ true = is in cc)

dropped_given : (h o p : ℕ) (e : Event) → drops_page h o p e ≡ true → gives_page h o p e ≡ true
dropped_given h o p (event.Dropped host object page) is = is
dropped_given h o p e is = absurd (let bad : false ≡ true = is in cc)

-- A page of shared memory that is here in a step that took a lock was here when it took that.

lock_here : (size : ℕ) (b : Bool) (lock : ℕ) (flush : Bool) (was : Local) → (local_after size (if b then TakesLock lock flush else Elsewhere) was).here ≡ was.here
lock_here size true lock flush was = by was.here
  where
    by : (b : Bool) → (if b then record was { lock = if flush || lock == 8 then was.lock else lock; unlocking = false } else was).here ≡ was.here
    by true = refl
    by false = refl
lock_here size false lock flush was = refl

was_here : (header : Header) (outside : Outside) (past : List Event) (request : LockRequest) → EachEvent (HasCause header outside) past
    → lock_taken past ≡ Some request → (h o p : ℕ) → is_shared header o ≡ true → (page_on header h o p past).here ≡ true
    → (page_on header h o p (before_step past)).here ≡ true
was_here header outside [] request causes taken h o p shared here = here
was_here header outside (event.Line line ∷ past) request causes taken h o p shared here = absurd (cc)
was_here header outside (event.Taken (Down host object control) (message.Lock page count returns flush lock reply) ∷ past) request causes taken h o p shared here =
    by (host.0 == h && (object.0 == o && is_control control (live_control h o past))) here
  where
    by : (b : Bool)
        → (local_after header.size (if b then (if in_range p page.0 count then TakesLock lock flush else Elsewhere) else Elsewhere) (page_on header h o p past)).here
        ≡ true → (page_on header h o p past).here ≡ true
    by true is = sym (lock_here header.size (in_range p page.0 count) lock flush (page_on header h o p past)) ∙ is
    by false is = is
was_here header outside (event.Taken channel m ∷ past) request causes taken h o p shared here = absurd (cc)
was_here header outside (e ∷ past) request causes taken h o p shared here =
    was_here header outside past request causes.1 taken h o p shared (here_before header outside e past causes.1 causes.0 tt h o p shared here)

-- so none is left that the flush was over
flush_ended : (header : Header) (outside : Outside) (past : List Event) → EachEvent (HasCause header outside) past → IsPaid header past → (h o p : ℕ)
    → is_shared header o ≡ true → o < named header → is_flushed_page h o p (lock_taken past) ≡ true → (page_on header h o p past).here ≡ false
flush_ended header outside past causes paid h o p shared declared flushed = by (page_on header h o p past).here refl (lock_taken past) refl flushed
  where
    over : (request : LockRequest) → lock_taken past ≡ Some request → is_flushed_page h o p (Some request) ≡ true → (page_on header h o p past).here ≡ true
        → (page_on header h o p past).here ≡ false
    over request taken is here =
        let parts = flushed_parts request is in
        let mine : (was_on header request p past).here ≡ true =
        subst (λ (k : ℕ). (page_on header k request.object p (before_step past)).here ≡ true) (sym parts.1)
        (subst (λ (k : ℕ). (page_on header h k p (before_step past)).here ≡ true) (sym parts.2)
        (was_here header outside past request causes taken h o p shared here)) in
        let obeyed = (paid.lock request taken).pages p parts.3 parts.4 mine in
        let given : since (gives_page request.host request.object p) past ≡ true = gone request (gives_back request.returns (was_on header request p past).dirty
        (was_on header request p past).precious) refl obeyed parts.0 in
        flushed_away header outside past causes h o p declared flushed
        (subst (λ (k : ℕ). since (gives_page k o p) past ≡ true) parts.1 (subst (λ (k : ℕ). since (gives_page request.host k p) past ≡ true) parts.2 given))
      where
        flushed_parts : (request : LockRequest) → is_flushed_page h o p (Some request) ≡ true
            → (request.flush ≡ true) × (request.host ≡ h) × (request.object ≡ o) × (request.page ≤ p) × (p < request.page + request.count)
        flushed_parts request is =
            (grind (arith, nat_tests), grind (arith, nat_tests), grind (arith, nat_tests), grind (arith, nat_tests), grind (arith, nat_tests))

        gone : (request : LockRequest) (b : Bool) → gives_back request.returns (was_on header request p past).dirty (was_on header request p past).precious ≡ b
            → HasObeyed header request p past → request.flush ≡ true → since (gives_page request.host request.object p) past ≡ true
        gone request true back obeyed flush =
            since_less (returns_page request.host request.object p (not request.flush)) (gives_page request.host request.object p)
            (returned_given request.host request.object p (not request.flush)) past (obeyed.back back)
        gone request false back obeyed flush =
            since_less (drops_page request.host request.object p) (gives_page request.host request.object p) (dropped_given request.host request.object p) past
            (obeyed.dropped back flush)

    by : (b : Bool) → (page_on header h o p past).here ≡ b → (taken : Option LockRequest) → lock_taken past ≡ taken → is_flushed_page h o p taken ≡ true
        → (page_on header h o p past).here ≡ false
    by false here taken is flushed = here
    by true here None is flushed = absurd (let bad : false ≡ true = flushed in cc)
    by true here (Some request) is flushed = over request is flushed here

-- Nothing is due.

not_due : (header : Header) (h o p : ℕ) (past : List Event) → IsPaid header past → is_due header h o p (absence_taken header past) past ≡ false
not_due header h o p past paid = by (absence_taken header past) refl
  where
    same : (a b : ℕ) → (a == b) ≡ true → a ≡ b
    same a b is = grind (arith, nat_tests)

    by : (asked : Option Asked) → absence_taken header past ≡ asked → is_due header h o p asked past ≡ false
    by None is = refl
    by (Some asked) is = at (asked.host == h) refl (asked.object == o) refl (asked.page == p) refl (nat_lt o (named header)) refl (since (zeroes o p) past) refl
      where
        at : (a : Bool) → (asked.host == h) ≡ a → (b : Bool) → (asked.object == o) ≡ b → (c : Bool) → (asked.page == p) ≡ c → (d : Bool)
            → nat_lt o (named header) ≡ d → (e : Bool) → since (zeroes o p) past ≡ e → ((a && (b && c)) && (d && not e)) ≡ false
        at true one true two true three true below false unzeroed =
            let declared : asked.object < named header = grind (arith, nat_tests) in
            let zeroed : since (zeroes asked.object asked.page) past ≡ true = paid.absence asked.host asked.object asked.page declared is in
            let here : since (zeroes o p) past ≡ true =
            subst (λ (k : ℕ). since (zeroes k p) past ≡ true) (same asked.object o two)
            (subst (λ (k : ℕ). since (zeroes asked.object k) past ≡ true) (same asked.page p three) zeroed) in
            absurd (let bad : false ≡ true = sym unzeroed ∙ here in cc)
        at true one true two true three true below true zeroed = refl
        at true one true two true three false below e zeroed = refl
        at true one true two false three d below e zeroed = refl
        at true one false two c three d below e zeroed = refl
        at false one b two c three d below e zeroed = refl

-- so each place costs what it costs inside
place_ended : (header : Header) (outside : Outside) (past : List Event) → EachEvent (HasCause header outside) past → IsPaid header past → (h o p : ℕ)
    → place_weight header h o p past ≤ inner_weight header h o p past
place_ended header outside past causes paid h o p = by (is_wild header o) (is_shared header o) refl
  where
    turns_same : (b : Bool) (access : ℕ) (page : Local) → (b ≡ true → page.here ≡ false) → write_turns access page ≤ turns b access page
    turns_same false access page away = omega arith
    turns_same true access page away = let gone = away refl in rw gone (omega arith)

    shared_same : is_shared header o ≡ true → (b : Bool)
        → (if b then turn_weight header * write_turns (asked_for h o p past) (page_on header h o p past) else 0)
        ≤ (if b then turn_weight header * turns (is_flushed_page h o p (lock_taken past)) (asked_for h o p past) (page_on header h o p past) else 0)
    shared_same shared true =
        times (turn_weight header) (write_turns (asked_for h o p past) (page_on header h o p past))
        (turns (is_flushed_page h o p (lock_taken past)) (asked_for h o p past) (page_on header h o p past))
        (turns_same (is_flushed_page h o p (lock_taken past)) (asked_for h o p past) (page_on header h o p past)
        (λ flushed. flush_ended header outside past causes paid h o p shared (shared_declared header o shared) flushed))
      where
        times : (k a b : ℕ) → a ≤ b → k * a ≤ k * b
        times zero a b le = omega arith
        times (suc k) a b le = let rest = times k a b le in omega (arith, le, rest)
    shared_same shared false = omega arith

    plain_same : (a : Bool) → (if a then 2 else 0)
        ≤ (if not (is_due header h o p (absence_taken header past) past) && a then 2 else 0)
    plain_same a = due (is_due header h o p (absence_taken header past) past) (not_due header h o p past paid) a
      where
        due : (d : Bool) → d ≡ false → (a : Bool) → (if a then 2 else 0) ≤ (if not d && a then 2 else 0)
        due false is true = omega arith
        due false is false = omega arith
        due true is a = absurd (let bad : true ≡ false = is in cc)

    by : (wild shared : Bool) → is_shared header o ≡ shared
        → (if wild then 0 else if shared
        then (if is_wanted_to_write header h o p past then turn_weight header * write_turns (asked_for h o p past) (page_on header h o p past) else 0)
        else if is_open (sight header h o p past) && is_wanted header h o p past then 2 else 0)
        ≤ (if wild then 0 else if shared
        then (if is_wanted_to_write header h o p past
        then turn_weight header * turns (is_flushed_page h o p (lock_taken past)) (asked_for h o p past) (page_on header h o p past) else 0)
        else if not (is_due header h o p (absence_taken header past) past) && (is_open (sight header h o p past) && is_wanted header h o p past) then 2 else 0)
    by true shared is = omega arith
    by false true is = shared_same is (is_wanted_to_write header h o p past)
    by false false is = plain_same (is_open (sight header h o p past) && is_wanted header h o p past)

-- and so do all of them
pub places_ended : (header : Header) (outside : Outside) (past : List Event) → EachEvent (HasCause header outside) past → IsPaid header past
    → places header past ≤ inner_places header past
places_ended header outside past causes paid =
    places_lower (host_count header) (next_object header past) (λ o. object_pages header o past) (λ h o p. place_weight header h o p past)
    (λ h o p. inner_weight header h o p past) (λ h o p. place_ended header outside past causes paid h o p)
