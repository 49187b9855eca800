-- A history in which nothing is on its way leaves waiting only those who wait for frames, or for a pager that the script drives.
use Rattle.std.proofs.Common.{inl, inr, ℕ, suc, ◌≡◌, ◌∙◌, List, [], ◌∷◌, length, Bool, true, false, refl, sym, ap, subst, arith, Option, Some, None}
use Rattle.std.proofs.Common.{if◌then◌else◌}
use Rattle.std.proofs.lemmas.Bool.{cases_lt}
use Rattle.std.proofs.lemmas.Bool.Decides.{nat_tests}
use Rattle.std.proofs.lemmas.List.Elements.{All-cons, All-head}
use Rattle.std.specs.Prelude.{◌==◌, ◌&&◌, ◌||◌, not, nat_lt, ◌+◌, ◌-◌, ◌<◌, ◌≤◌, ◌⊎◌, ◌≢◌, All}
use Rattle.vm_base.specs.declared.ids.ObjectKind.{ObjectKind}
use Rattle.vm_base.specs.declared.ids.ObjectKind.TheVariants.{Temp, File, Shared, Wild}
use Rattle.vm_legal.proofs.LockNames.{unnamed}
use Rattle.vm_legal.proofs.Unshared.{file_unshared, paged_tame, temporary_unshared}
use Rattle.vm_model.specs.declared.event.Event.{Event}
use Rattle.vm_model.specs.declared.script.Declared.{Declared}
use Rattle.vm_model.specs.declared.script.Header.{Header}
use Rattle.vm_model.specs.Named.{declared, named}
use Rattle.vm_model.specs.Controls.{live_control}
use Rattle.vm_model.specs.Local.{Place, is_on}
use Rattle.vm_model.specs.Waiting.{Access, is_store}
use Rattle.vm_legal.specs.Accesses.{Waits, WaitsUnlocked, is_ready, names, page_of}
use Rattle.vm_model.specs.Moments.{BeforeSteps, EachEvent}
use Rattle.vm_legal.specs.Debts.{IsPaid}
use Rattle.vm_legal.specs.Licences.{HasCause, is_paged}
use Rattle.vm_legal.specs.Living.{lives_on}
use Rattle.vm_legal.specs.Undelivered.{undelivered}
use Rattle.vm_legal.specs.Frames.{frames_free, frames_held, frames_of, frames_wired, returns_out}
use Rattle.vm_legal.specs.Outside.{NoneIsTemporary, Outside, is_file, is_file_kept, is_file_kind, is_shared, is_shared_kind, is_wild, is_wild_kind, kind_in}
use Rattle.vm_legal.proofs.Copies.{copy_temporary}
use Rattle.vm_legal.specs.Prompt.{AnAnswer, AReady, AnUnlock, AtPlace, Awaits, AwaitsPage, ForPush, IsExhausted, HostIsFull, Prompt, WaitsForPager}
use Rattle.vm_legal.specs.Steps.{answers, is_answer, is_ready_message as says_ready, readies}
use Rattle.vm_legal.specs.Walks.{page_on}
use Rattle.vm_quiet.specs.Carried.{is_request, opens}
use Rattle.vm_quiet.specs.Places.{AllPaged, times}
use Rattle.vm_quiet.specs.Quiet.{IsHeldWild, IsShortOfFrames, NobodyWaitsInVain, NoneIsWild, OnlyFramesAreAwaited, OnlyWildAreAwaited, SharedAreAnswered}
use Rattle.vm_quiet.specs.Quiet.{WaitsForWild, WaitsOnWild}
use Rattle.vm_quiet.proofs.Letters.{never, outs}
use Rattle.vm_quiet.proofs.Places.{length_without, one_if, own_place, times_without, without_place}
use Rattle.vm_quiet.proofs.Sane.{Base, base_of, paged}
use Rattle.vm_quiet.proofs.Counting.{Count, count_of, framed}
use Rattle.vm_quiet.proofs.Unlocked.{no_lock}
use Rattle.vm_quiet.proofs.Ways.{way_none}
use Rattle.vm_quiet.proofs.Awaited.{asks_of, done_opening, done_request, opens_of}

-- where nothing is undelivered each live control is ready, but for wild objects'
pub ready_now : (header : Header) (outside : Outside) (history : List Event) (host o control : ℕ) → EachEvent (HasCause header outside) history
    → BeforeSteps (IsPaid header) history → IsPaid header history → undelivered history ≡ []
    → is_wild header o ≡ false → live_control host o history ≡ Some control → is_ready host o history ≡ true
ready_now header outside history host o control causes steps paid delivered ours live = by (is_ready host o history) refl
  where
    by : (b : Bool) → is_ready host o history ≡ b → is_ready host o history ≡ true
    by true is = is
    by false is =
        absurd (way_none (opens control) says_ready (readies o) host o control history delivered (done_opening header history paid host o control ours)
        (opens_of header outside host history causes steps o control ours live is))

-- a temporary object has a pager
temporary_paged : (header : Header) (o : ℕ) → named header ≤ o → is_paged header o ≡ true
temporary_paged header o above = ap (λ b. not b || is_file header o) (not_below o (named header) above)
  where
    not_below : (a b : ℕ) → b ≤ a → nat_lt a b ≡ false
    not_below a b high = grind (arith, nat_tests)

-- an object is temporary or a file's, or a shared one, or a wild one
kinds_of : (header : Header) (o : ℕ) → NoneIsTemporary header → (is_paged header o ≡ true) ⊎ ((is_shared header o ≡ true) ⊎ (is_wild header o ≡ true))
kinds_of header o none = by (nat_lt o (named header)) refl
  where
    below : (a b : ℕ) → nat_lt a b ≡ true → a < b
    below a b is = grind (arith, nat_tests)

    found : (row : Option Declared) → kind_in row ≢ Temp → (is_file_kept row ≡ true)
        ⊎ ((is_shared_kind (kind_in row) ≡ true) ⊎ (is_wild_kind (kind_in row) ≡ true))
    found None none = absurd (none refl)
    found (Some object) none = at object.kind none
      where
        at : (kind : ObjectKind) → kind ≢ Temp → (is_file_kind kind ≡ true) ⊎ ((is_shared_kind kind ≡ true) ⊎ (is_wild_kind kind ≡ true))
        at Temp none = absurd (none refl)
        at File none = inl refl
        at Shared none = inr (inl refl)
        at Wild none = inr (inr refl)

    by : (b : Bool) → nat_lt o (named header) ≡ b
        → ((not b || (b && is_file_kept (declared header o))) ≡ true)
        ⊎ ((is_shared_kind (if b then kind_in (declared header o) else Temp) ≡ true)
        ⊎ (is_wild_kind (if b then kind_in (declared header o) else Temp) ≡ true))
    by false is = inl refl
    by true is =
        found (declared header o) (subst (λ (b : Bool). (if b then kind_in (declared header o) else Temp) ≢ Temp) is (none o (below o (named header) is)))

-- Of places among which each stands at most once, and each is kept or is the spare one, all but one are kept.

record Rest (W : Place → Type 0) (all : List Place) : Type 0 where
  kept : List Place
  each : All W kept
  once : (o p : ℕ) → times o p kept ≤ 1
  few : length all ≤ length kept + 1

counted : (b : Bool) (k : ℕ) → b ≡ true → (if b then suc k else k) ≡ suc k
counted true k is = refl
counted false k is = never is

grown : (b : Bool) (k : ℕ) → 0 < k → 0 < (if b then suc k else k)
grown true k some = omega arith
grown false k some = some

-- what holds of each place that stands among some holds of all of them
all_standing : (W : Place → Type 0) (places : List Place) → ((o p : ℕ) → 0 < times o p places → W (record { object = o; page = p })) → All W places
all_standing W [] each = λ k d below. absurd (omega (arith, below))
all_standing W (x ∷ xs) each =
    All-cons W x xs (each x.object x.page (omega (
      arith,
      counted (x.object == x.object && x.page == x.page) (times x.object x.page xs) (own_place x.object x.page),
    )))
    (all_standing W xs (λ o p some. each o p (grown (x.object == o && x.page == p) (times o p xs) some)))

fewer : (b : Bool) (k j : ℕ) → j ≡ (if b then k - 1 else k) → j ≤ k
fewer true k j is = omega (arith, is)
fewer false k j is = omega (arith, is)

-- the spare one stands no more where it is taken out
out : (b : Bool) (k j : ℕ) → b ≡ true → j ≡ (if b then k - 1 else k) → k ≤ 1 → 0 < j → ⊥
out true k j is less once some = absurd (omega (arith, less, once, some))
out false k j is less once some = never is

keep_rest : (W : Place → Type 0) (spare : Option Place) (all : List Place) → ((o p : ℕ) → times o p all ≤ 1)
    → ((o p : ℕ) → 0 < times o p all → W (record { object = o; page = p }) ⊎ (spare ≡ Some (record { object = o; page = p }))) → Rest W all
keep_rest W None all once each = record { kept = all; each = all_standing W all (λ o p some. kept o p (each o p some)); once = once; few = omega arith }
  where
    kept : (o p : ℕ) → W (record { object = o; page = p }) ⊎ (◌≡◌ {A = Option Place} None (Some (record { object = o; page = p })))
        → W (record { object = o; page = p })
    kept o p (inl w) = w
    kept o p (inr is) = absurd (cc)
keep_rest W (Some x) all once each = by (nat_lt 0 (times x.object x.page all)) refl
  where
    kept : (o p : ℕ) → W (record { object = o; page = p }) ⊎ (Some x ≡ Some (record { object = o; page = p })) → (x.object ≡ o → x.page ≡ p → ⊥)
        → W (record { object = o; page = p })
    kept o p (inl w) apart = w
    kept o p (inr is) apart =
        let same : x ≡ record { object = o; page = p } = cc in absurd (apart (ap (λ (z : Place). z.object) same) (ap (λ (z : Place). z.page) same))

    none : (o p : ℕ) → nat_lt 0 (times x.object x.page all) ≡ false → 0 < times o p all → x.object ≡ o → x.page ≡ p → ⊥
    none o p is some object page =
        let zero : times x.object x.page all ≡ 0 = grind (arith, nat_tests, is) in
        let same : times x.object x.page all ≡ times o p all = ap (λ z. times z x.page all) object ∙ ap (λ z. times o z all) page in
        absurd (omega (arith, zero, same, some))

    gone : (o p : ℕ) → 0 < times o p (without_place x.object x.page all) → x.object ≡ o → x.page ≡ p → ⊥
    gone o p some object page =
        out (x.object == o && x.page == p) (times o p all) (times o p (without_place x.object x.page all)) (grind (arith, nat_tests, object, page))
        (times_without x.object x.page o p all) (once o p) some

    by : (b : Bool) → nat_lt 0 (times x.object x.page all) ≡ b → Rest W all
    by false is = record { kept = all; each = all_standing W all (λ o p some. kept o p (each o p some) (none o p is some)); once = once; few = omega arith }
    by true is =
        let some : 1 ≤ times x.object x.page all = grind (arith, nat_tests, is) in
        let all_but : List Place = without_place x.object x.page all in
        let less : (o p : ℕ) → times o p all_but ≤ times o p all = λ o p. fewer (x.object == o && x.page == p) (times o p all) (times o p all_but)
        (times_without x.object x.page o p all) in
        record {
          kept = all_but;
          each = all_standing W all_but (λ o p stays. kept o p (each o p (omega (arith, less o p, stays))) (gone o p stays));
          once = λ o p. omega (arith, less o p, once o p);
          few = omega (arith, length_without x.object x.page all some);
        }

record IsQuiet (header : Header) (outside : Outside) (history : List Event) : Type 0 where
  kinds : NoneIsTemporary header
  causes : EachEvent (HasCause header outside) history
  steps : BeforeSteps (IsPaid header) history
  paid : IsPaid header history
  shared : SharedAreAnswered header history
  delivered : undelivered history ≡ []

-- an object that is neither paged nor shared is wild
neither_is_wild : (header : Header) (o : ℕ) → NoneIsTemporary header → (is_paged header o ≡ true → ⊥) → (is_shared header o ≡ true → ⊥)
    → is_wild header o ≡ true
neither_is_wild header o kinds unpaged unshared = elim (kinds_of header o kinds) [
  | inl paged ↦ absurd (unpaged paged)
  | inr (inl shared) ↦ absurd (unshared shared)
  | inr (inr wild) ↦ wild
]

-- a page that is asked is a wild object's
asked_wild : (header : Header) (outside : Outside) (history : List Event) (host o p : ℕ) → IsQuiet header outside history
    → (page_on header host o p history).asked ≡ true → is_wild header o ≡ true
asked_wild header outside history host o p quiet is =
    neither_is_wild header o quiet.kinds
    (λ ours.
    let a = asks_of header outside host history quiet.causes quiet.steps o p ours is in
    way_none (is_request a.0 p) (is_answer p) (answers o p) host o a.0 history quiet.delivered
    (done_request header history quiet.paid host o a.0 p ours) a.2)
    (λ shared. never (sym (quiet.shared.asked host o p shared) ∙ is))

-- so is a page that is here, locked against somebody, with an unlock outstanding
locked_wild : (header : Header) (outside : Outside) (history : List Event) (host o p : ℕ) (store : Bool) → IsQuiet header outside history
    → (page_on header host o p history).here ≡ true → names (page_on header host o p history).lock store ≡ true
    → (page_on header host o p history).unlocking ≡ true → is_wild header o ≡ true
locked_wild header outside history host o p store quiet here named unlocking =
    neither_is_wild header o quiet.kinds
    (λ ours. unnamed (page_on header host o p history).lock store ((no_lock header outside host o history ours quiet.causes).locks p) named)
    (λ shared. never (sym (quiet.shared.unlocking host o p shared here) ∙ unlocking))

awaits_wild : (header : Header) (outside : Outside) (history : List Event) (host : ℕ) (store : Bool) (o p : ℕ) → IsQuiet header outside history
    → Awaits header host store o p history → is_wild header o ≡ true
awaits_wild header outside history host store o p quiet (AnAnswer is) = asked_wild header outside history host o p quiet is
awaits_wild header outside history host store o p quiet (AReady control live is) = by (is_wild header o) refl
  where
    by : (b : Bool) → is_wild header o ≡ b → is_wild header o ≡ true
    by true wild = wild
    by false tame = never (sym is ∙ ready_now header outside history host o control quiet.causes quiet.steps quiet.paid quiet.delivered tame live)
awaits_wild header outside history host store o p quiet (AnUnlock here named unlocking) =
    locked_wild header outside history host o p store quiet here named unlocking

usable : (of held wired n : ℕ) → of - (held + wired) ≡ 0 → held ≤ n + 1 → of - wired - n < 2
usable of held wired n none few = omega arith

-- of a host that is full all pages with a frame but one are held for a pager that the script drives
full_short : (header : Header) (outside : Outside) (history : List Event) (host : ℕ) → IsQuiet header outside history → Base header host history
    → Count header host history → HostIsFull header host history → IsShortOfFrames header host history
full_short header outside history host quiet base count full = by full.why
  where
    none_out : returns_out host history ≡ 0
    none_out = base.returns ∙ ap (outs host) quiet.delivered

    places : List Place
    places = count.held.places

    most : (b : Bool) (k : ℕ) → k ≡ one_if b → k ≤ 1
    most true k e = omega (arith, e)
    most false k e = omega (arith, e)

    has : (b : Bool) (k : ℕ) → k ≡ one_if b → 0 < k → b ≡ true
    has true k e some = refl
    has false k e some = absurd (omega (arith, e, some))

    held : (spare : Option Place) → ((o p : ℕ) → (page_on header host o p history).here ≡ true → WaitsUnlocked header host o p history
        ⊎ (spare ≡ Some (record { object = o; page = p })))
        → (o p : ℕ) → framed header host history o p ≡ true → IsHeldWild header host history (record { object = o; page = p })
        ⊎ (spare ≡ Some (record { object = o; page = p }))
    held spare each o p is = pick (page_on header host o p history).here (page_on header host o p history).asked refl refl is
      where
        waited : WaitsUnlocked header host o p history ⊎ (spare ≡ Some (record { object = o; page = p }))
            → IsHeldWild header host history (record { object = o; page = p }) ⊎ (spare ≡ Some (record { object = o; page = p }))
        waited (inl w) = inl (record { wild = locked_wild header outside history host o p (is_store w.access) quiet w.here w.named w.unlocking; why = inr w })
        waited (inr same) = inr same

        pick : (a b : Bool) → (page_on header host o p history).here ≡ a → (page_on header host o p history).asked ≡ b → (a || b) ≡ true
            → IsHeldWild header host history (record { object = o; page = p }) ⊎ (spare ≡ Some (record { object = o; page = p }))
        pick true b here asked is = waited (each o p here)
        pick false true here asked is = inl (record { wild = asked_wild header outside history host o p quiet asked; why = inl asked })
        pick false false here asked is = never is

    by : (0 < returns_out host history) ⊎ IsExhausted header host history history → IsShortOfFrames header host history
    by (inl out) = absurd (omega (arith, out, none_out))
    by (inr e) =
        let r : Rest (IsHeldWild header host history) places =
        keep_rest (IsHeldWild header host history) e.spare places (λ o p. most (framed header host history o p) (times o p places) (count.held.each o p))
        (λ o p some. held e.spare e.held o p (has (framed header host history o p) (times o p places) (count.held.each o p) some)) in
        let few : frames_held header host history ≤ length r.kept + 1 = omega (arith, r.few, count.held.count, count.sum, none_out) in
        record {
          none = full.none;
          wild = r.kept;
          held = r.each;
          once = r.once;
          usable = usable (frames_of header host) (frames_held header host history) (frames_wired host history) (length r.kept) full.none few;
        }

one_short : (header : Header) (outside : Outside) (history : List Event) (host task : ℕ) (access : Access) → IsQuiet header outside history
    → WaitsForPager header host task access history ⊎ HostIsFull header host history
    → WaitsForWild header host task access history ⊎ IsShortOfFrames header host history
one_short header outside history host task access q (inl w) = by w.what
  where
    by : AwaitsPage header host access w.waits.at.entry.region.0 (page_of header task access history w.waits.at.entry) history
        → WaitsForWild header host task access history ⊎ IsShortOfFrames header host history
    by (AtPlace object page place what) =
        inl (record {
          what = record { waits = w.waits; on_host = w.on_host; object = object; page = page; place = place; what = what };
          wild = awaits_wild header outside history host (is_store access) object page q what;
        })
    by (ForPush object page copy store top owes asked) =
        let temporary = copy_temporary header outside object copy history q.causes owes.newest in
        never (sym (paged_tame header copy (temporary_paged header copy temporary)) ∙ asked_wild header outside history host copy page q asked)
one_short header outside history host task access q (inr full) =
    inr (full_short header outside history host q (base_of header outside host history q.causes) (count_of header outside host history q.causes) full)

-- who lives on a host waits there
pub leads_there : (header : Header) (host task : ℕ) (access : Access) (history : List Event) → (waits : Waits header task access history)
    → lives_on host task history ≡ true → waits.at.host ≡ host
leads_there header host task access history waits lives = same waits.at.host (subst (λ (found : Option ℕ). is_on host found ≡ true) waits.at.lives lives)
  where
    same : (own : ℕ) → (own == host) ≡ true → own ≡ host
    same own is = grind (arith, nat_tests)

pub only_wild : (header : Header) (outside : Outside) (history : List Event) → NoneIsTemporary header → EachEvent (HasCause header outside) history
    → BeforeSteps (IsPaid header) history → IsPaid header history → SharedAreAnswered header history → Prompt header history → undelivered history ≡ []
    → OnlyWildAreAwaited header history
only_wild header outside history kinds causes steps paid shared prompt delivered =
    let q : IsQuiet header outside history = record { kinds = kinds; causes = causes; steps = steps; paid = paid; shared = shared; delivered = delivered } in
    record {
      short = λ host task access below waiting lives. (
          let waits : Waits header task access history = (prompt host below).leads task access waiting lives in
          one_short header outside history host task access q ((prompt host below).waits task access waits
          (leads_there header host task access history waits lives))
          );
    }

-- where each declared object is a file, none is temporary, shared or wild

paged_kinds : (header : Header) → AllPaged header → NoneIsTemporary header
paged_kinds header all o below = by (nat_lt o (named header)) (declared header o) (all o below)
  where
    at : (kind : ObjectKind) → is_file_kind kind ≡ true → kind ≢ Temp
    at Temp is = never is
    at File is = λ same. absurd (cc)
    at Shared is = never is
    at Wild is = never is

    by : (b : Bool) (row : Option Declared) → (b && is_file_kept row) ≡ true → (if b then kind_in row else Temp) ≢ Temp
    by true None is = never is
    by true (Some object) is = at object.kind is
    by false row is = never is

none_shared : (header : Header) (o : ℕ) → AllPaged header → is_shared header o ≡ true → ⊥
none_shared header o all shared = elim (cases_lt o (named header)) [
  | inl below ↦ never (sym (file_unshared header o (all o below)) ∙ shared)
  | inr above ↦ never (sym (temporary_unshared header o above) ∙ shared)
]

-- nobody waits in vain where whoever waits for a wild object's page waits on that object
pub none_in_vain : (header : Header) (history : List Event) → OnlyWildAreAwaited header history
    → ((host task : ℕ) (access : Access) → WaitsForWild header host task access history → WaitsOnWild header host task access history)
    → NobodyWaitsInVain header history
none_in_vain header history only on =
    record { short = λ host task access below waiting lives. by host task access (only.short host task access below waiting lives) }
  where
    by : (host task : ℕ) (access : Access) → WaitsForWild header host task access history ⊎ IsShortOfFrames header host history
        → WaitsOnWild header host task access history ⊎ IsShortOfFrames header host history
    by host task access (inl for) = inl (on host task access for)
    by host task access (inr frames) = inr frames

pub quiet : (header : Header) (outside : Outside) (history : List Event) → AllPaged header → EachEvent (HasCause header outside) history
    → BeforeSteps (IsPaid header) history → IsPaid header history → Prompt header history → undelivered history ≡ [] → NobodyWaitsInVain header history
quiet header outside history all causes steps paid prompt delivered =
    none_in_vain header history only
    (λ host task access for. never (sym (paged_tame header for.what.object (paged header all for.what.object)) ∙ for.wild))
  where
    only : OnlyWildAreAwaited header history
    only =
        only_wild header outside history (paged_kinds header all) causes steps paid
        (record {
          asked = λ host o p shared. absurd (none_shared header o all shared);
          unlocking = λ host o p shared here. absurd (none_shared header o all shared);
        }) prompt delivered

-- where no object is wild, no frame is held for a pager that the script drives

no_wild : (header : Header) (host : ℕ) (past : List Event) (places : List Place) → NoneIsWild header → All (IsHeldWild header host past) places
    → length places ≡ 0
no_wild header host past [] tame held = refl
no_wild header host past (x ∷ xs) tame held = never (sym (tame x.object) ∙ (All-head (IsHeldWild header host past) x xs held).wild)

pub for_frames : (header : Header) (history : List Event) → NoneIsWild header → NobodyWaitsInVain header history → OnlyFramesAreAwaited header history
for_frames header history tame vain =
    record { short = λ host task access below waiting lives. frames host (short host task access (vain.short host task access below waiting lives)) }
  where
    short : (host task : ℕ) (access : Access) → WaitsOnWild header host task access history ⊎ IsShortOfFrames header host history
        → IsShortOfFrames header host history
    short host task access (inl on) = never (sym (tame on.waits.at.entry.region.0) ∙ on.wild)
    short host task access (inr full) = full

    frames : (host : ℕ) → IsShortOfFrames header host history → (frames_free header host history ≡ 0) × (frames_of header host - frames_wired host history < 2)
    frames host s = (s.none, omega (arith, s.usable, no_wild header host history s.wild tame s.held))
