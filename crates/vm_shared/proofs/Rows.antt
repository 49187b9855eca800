-- What a host does of a shared page, over plain facts of the page and of the page's part.
use Rattle.std.proofs.Common.{◌≡◌, ℕ, zero, suc, ◌+◌, ◌<◌, ◌%◌, ◌&&◌, ◌||◌, ◌∙◌, List, [], ◌∷◌, Bool, true, false, Option, Some, None, if◌then◌else◌, refl, ap}
use Rattle.std.proofs.Common.{sym, subst, arith, inl, inr}
use Rattle.std.proofs.lemmas.Bool.Decides.{nat_tests}
use Rattle.std.specs.Prelude.{not, nat_lt, slice_range}
use Rattle.vm_base.specs.Pages.{little_endian}
use Rattle.vm_model.specs.declared.message.Message.{Message}
use Rattle.vm_model.specs.Bytes.{number_at}
use Rattle.vm_model.specs.Channels.{down_words, up_words, with_down, with_word}
use Rattle.vm_model.specs.Controls.{is_control}
use Rattle.vm_model.specs.Local.{CanRead, CanWrite, Local}
use Rattle.vm_model.specs.PageLicences.{HostMay, MayLoad, MayStore, has_reason}
use Rattle.vm_model.specs.Server.{first}
use Rattle.vm_model.specs.Side.{Side, has_alone, kind_of, right_of}
use Rattle.vm_model.specs.Waiters.{Waiter, any_store}
use Rattle.vm_model.specs.Words.{UpWord, Asking, Unlocking, Returning, Doing, Ending, OtherUp, DownWord, Supplying, Locking, Lacking, Failing, Readying}
use Rattle.vm_model.specs.Words.{OtherDown, Opens, SendsUp, TakenUp, TakesDown, Drops, down_word, up_word}
use Rattle.vm_legal.specs.Accesses.{names}
use Rattle.vm_legal.specs.Licences.{IsDoneAt, LockRequest, gives_back, is_answered_over}
use Rattle.vm_coherence.specs.Locals.{SideIsLocal}
use Rattle.vm_coherence.proofs.Locals.{can_read_is, can_write_is}
use Rattle.vm_quiet.proofs.Letters.{never}
use Rattle.vm_shared.proofs.Kept.{IsShareds}
use Rattle.vm_shared.proofs.Servers.{IsLock, IsServersLock}
use Rattle.vm_shared.proofs.Stepped.{Stepped, step_in}

-- the side of a page

pub dead_side : (s : Side) (page : Local) (live : Option ℕ) → SideIsLocal live s page → live ≡ None → s.live ≡ false
dead_side s page live i none = by s.live s.control (i.control ∙ none)
  where
    by : (b : Bool) (n : ℕ) → (if b then Some n else None) ≡ None → b ≡ false
    by true n is = cc
    by false n is = refl

pub record IsLive (s : Side) (control : ℕ) : Type 0 where
  pub on : s.live ≡ true
  pub is : s.control ≡ control

pub live_side : (s : Side) (page : Local) (live : Option ℕ) (control : ℕ) → SideIsLocal live s page → live ≡ Some control → IsLive s control
live_side s page live control i some = record { on = on s.live s.control (i.control ∙ some); is = is s.live s.control (i.control ∙ some) }
  where
    on : (b : Bool) (n : ℕ) → (if b then Some n else None) ≡ Some control → b ≡ true
    on true n e = refl
    on false n e = cc

    is : (b : Bool) (n : ℕ) → (if b then Some n else None) ≡ Some control → n ≡ control
    is true n e = cc
    is false n e = cc

pub right_away : (s : Side) (page : Local) (live : Option ℕ) → SideIsLocal live s page → page.here ≡ false → s.right ≡ 0
right_away s page live i away = i.right ∙ ap (λ b. if b then right_of page.lock else 0) away

pub right_here : (s : Side) (page : Local) (live : Option ℕ) → SideIsLocal live s page → page.here ≡ true → s.right ≡ right_of page.lock
right_here s page live i here = i.right ∙ ap (λ b. if b then right_of page.lock else 0) here

some_right : (lock : ℕ) → 0 < right_of lock
some_right zero = omega arith
some_right (suc lock) = omega arith

pub has_right : (s : Side) (page : Local) (live : Option ℕ) → SideIsLocal live s page → page.here ≡ true → 0 < s.right
has_right s page live i here = omega (arith, right_here s page live i here, some_right page.lock)

-- a control begins
pub opens_row : (ws : List Waiter) (rs : List ℕ) (s : Side) (page : Local) (live : Option ℕ) (control last : ℕ) → SideIsLocal live s page → live ≡ None
    → s.control ≡ last → control ≡ suc last → HostMay ws rs s (Opens control false)
opens_row ws rs s page live control last i none same number = (dead_side s page live i none, omega (arith, same, number))

-- a page is asked for
pub asks_row : (ws : List Waiter) (rs : List ℕ) (s : Side) (page : Local) (live : Option ℕ) (control access n : ℕ) (now : Bool) → SideIsLocal live s page
    → Stepped now n s → live ≡ Some control → now ≡ true → page.here ≡ false → page.asked ≡ false → has_reason access ws rs ≡ true
    → HostMay ws rs s (SendsUp control (Asking control access))
asks_row ws rs s page live control access n now i steps lives ready away unasked reason =
    let own : IsLive s control = live_side s page live control i lives in
    (own.on, own.is, (right_away s page live i away, i.asked ∙ unasked, steps.ready own.on ∙ ready, sym own.is, reason))

-- an unlock is asked for

-- a lock that names some access, but prohibits no reading, prohibits writing to a store
pub names_store : (lock : ℕ) (store : Bool) → IsLock lock → names lock store ≡ true → (store ≡ true) × (right_of lock ≡ 1)
names_store lock store (inl none) named = absurd (go store (subst (λ n. names n store ≡ true) none named))
  where
    go : (b : Bool) → names 0 b ≡ true → ⊥
    go true is = let bad : false ≡ true = is in cc
    go false is = let bad : false ≡ true = is in cc
names_store lock store (inr writing) named = (go store (subst (λ n. names n store ≡ true) writing named), ap right_of writing)
  where
    go : (b : Bool) → names 2 b ≡ true → b ≡ true
    go true is = refl
    go false is = is

-- no step is left where the lock's completion was sent
pub behind_step : (h o p : ℕ) (lock : Option LockRequest) (done : Bool) (live : Option ℕ) → (is_answered_over h o p lock ≡ true → done ≡ true)
    → step_in h o p lock done live ≡ 0
behind_step h o p None done live behind = refl
behind_step h o p (Some r) done live behind = by (is_answered_over h o p (Some r)) done (is_control r.control live) (kind_of r.flush) behind
  where
    by : (over done lives : Bool) (k : ℕ) → (over ≡ true → done ≡ true) → (if over && (not done && lives) then k else 0) ≡ 0
    by true true lives k is = refl
    by true false lives k is = never (is refl)
    by false done lives k is = refl

pub unlocks_row : (ws : List Waiter) (rs : List ℕ) (h o p : ℕ) (s : Side) (page : Local) (live : Option ℕ) (control access : ℕ) (now store done : Bool)
    (lock : Option LockRequest) → SideIsLocal live s page → IsShareds page → Stepped now (step_in h o p lock done live) s
    → live ≡ Some control → page.here ≡ true → names page.lock store ≡ true → page.unlocking ≡ false → (is_answered_over h o p lock ≡ true → done ≡ true)
    → access ≡ 3 → any_store ws ≡ true → HostMay ws rs s (SendsUp control (Unlocking access))
unlocks_row ws rs h o p s page live control access now store done lock i shared steps lives here named none behind number some =
    let own : IsLive s control = live_side s page live control i lives in (
      own.on,
      own.is,
      (
        right_here s page live i here ∙ (names_store page.lock store shared.lock named).1,
        i.unlocking here ∙ none,
        steps.step
            ∙ behind_step h o p lock done live behind,
        number,
        some,
      ),
    )

-- a page goes back

pub dirty_due : (dirty precious : Bool) → precious ≡ false → (dirty || precious) ≡ true → dirty ≡ true
dirty_due true precious plain due = refl
dirty_due false precious plain due = sym plain ∙ due

-- a lock without flush that gives pages back has a reply
pub kept_reply : (count returns lock : ℕ) (reply dirty precious : Bool) → IsServersLock count returns false lock reply
    → gives_back returns dirty precious ≡ true → reply ≡ true
kept_reply count returns lock true dirty precious is gives = refl
kept_reply count returns lock false dirty precious is gives = never (sym (ap (λ n. gives_back n dirty precious) is.1) ∙ gives)

pub returns_row : (ws : List Waiter) (rs : List ℕ) (s : Side) (page : Local) (live : Option ℕ) (control n : ℕ) (now dirty keep : Bool) (bytes : List ℕ)
    → SideIsLocal live s page → IsShareds page → Stepped now n s → live ≡ Some control → page.here ≡ true → (page.dirty || page.precious) ≡ true
    → bytes ≡ page.bytes → dirty ≡ page.dirty → (keep ≡ true → n ≡ 1) → HostMay ws rs s (SendsUp control (Returning dirty keep bytes))
returns_row ws rs s page live control n now dirty keep bytes i shared steps lives here due same flag kept =
    let own : IsLive s control = live_side s page live control i lives in
    let changed : page.dirty ≡ true = dirty_due page.dirty page.precious shared.plain due in
    (own.on, own.is, (has_right s page live i here, i.dirty here ∙ changed, flag ∙ changed, same ∙ sym (i.bytes here), λ is. steps.step ∙ kept is))

-- a lock is done

-- what a lock that returns changed pages leaves is unchanged
pub not_given : (dirty precious : Bool) → gives_back 1 dirty precious ≡ false → dirty ≡ false
not_given true precious is = is
not_given false precious is = refl

pub done_flag : (page : Local) (returns : ℕ) (flush : Bool) → returns ≡ 1 → IsDoneAt returns flush page → page.here ≡ true → page.dirty ≡ false
done_flag page returns flush one done here =
    not_given page.dirty page.precious (subst (λ n. gives_back n page.dirty page.precious ≡ false) one (done here).1)

not_alone : (s : Side) (page : Local) (live : Option ℕ) → SideIsLocal live s page → (page.here ≡ true → page.dirty ≡ false) → has_alone s ≡ false
not_alone s page live i clean = by page.here refl
  where
    none : (right : ℕ) (dirty : Bool) → right ≡ 0 → (nat_lt 0 right && dirty) ≡ false
    none right dirty is = grind (arith, nat_tests)

    unchanged : (b dirty : Bool) → dirty ≡ false → (b && dirty) ≡ false
    unchanged true dirty is = is
    unchanged false dirty is = refl

    by : (b : Bool) → page.here ≡ b → has_alone s ≡ false
    by true here = unchanged (nat_lt 0 s.right) s.dirty (i.dirty here ∙ clean here)
    by false away = none s.right s.dirty (right_away s page live i away)

flushed_right : (s : Side) (page : Local) (live : Option ℕ) (returns : ℕ) (flush : Bool) → SideIsLocal live s page → IsDoneAt returns flush page
    → kind_of flush ≡ 2 → s.right ≡ 0
flushed_right s page live returns false i done two = absurd (let bad : ◌≡◌ {A = ℕ} 1 2 = two in omega (arith, bad))
flushed_right s page live returns true i done two = by page.here refl
  where
    by : (b : Bool) → page.here ≡ b → s.right ≡ 0
    by true here = never (sym (done here).0)
    by false away = right_away s page live i away

pub some_kind : (flush : Bool) → 0 < kind_of flush
some_kind true = omega arith
some_kind false = omega arith

pub completes_row : (ws : List Waiter) (rs : List ℕ) (s : Side) (page : Local) (live : Option ℕ) (control count returns n : ℕ) (now flush : Bool)
    → SideIsLocal live s page → Stepped now n s → live ≡ Some control → count ≡ 1 → returns ≡ 1 → n ≡ kind_of flush → IsDoneAt returns flush page
    → HostMay ws rs s (SendsUp control (Doing control count))
completes_row ws rs s page live control count returns n now flush i steps lives one kind is done =
    let own : IsLive s control = live_side s page live control i lives in (
      own.on,
      own.is,
      (
        own.is,
        one,
        omega (arith, steps.step, is, some_kind flush),
        λ two. flushed_right s page live returns flush i done (sym is ∙ (sym steps.step ∙ two)),
        not_alone s page live i (λ here. done_flag page returns flush kind done here),
      ),
    )

-- the control ends
pub ends_row : (ws : List Waiter) (rs : List ℕ) (s : Side) (page : Local) (live : Option ℕ) (control : ℕ) → SideIsLocal live s page → live ≡ Some control
    → page.here ≡ false → page.asked ≡ false → HostMay ws rs s (SendsUp control (Ending control))
ends_row ws rs s page live control i lives away unasked =
    let own : IsLive s control = live_side s page live control i lives in (own.on, own.is, (own.is, right_away s page live i away, i.asked ∙ unasked))

-- the page goes without a word
pub drops_row : (ws : List Waiter) (rs : List ℕ) (s : Side) (page : Local) (live : Option ℕ) → SideIsLocal live s page → page.here ≡ true → page.dirty ≡ false
    → HostMay ws rs s Drops
drops_row ws rs s page live i here clean = (has_right s page live i here, i.dirty here ∙ clean)

-- the step of a lock over the page that isn't done, to a control that lives
pub locked_step : (h o p : ℕ) (r : LockRequest) (lock : Option LockRequest) (done : Bool) (live : Option ℕ) → lock ≡ Some r
    → is_answered_over h o p (Some r) ≡ true → done ≡ false → is_control r.control live ≡ true → step_in h o p lock done live ≡ kind_of r.flush
locked_step h o p r lock done live is over undone lives =
    ap (λ (l : Option LockRequest). step_in h o p l done live) is ∙ by (is_answered_over h o p (Some r)) done (is_control r.control live) over undone lives
  where
    by : (a d c : Bool) → a ≡ true → d ≡ false → c ≡ true → (if a && (not d && c) then kind_of r.flush else 0) ≡ kind_of r.flush
    by true false true one two three = refl
    by true false false one two three = never three
    by true true c one two three = never (sym two)
    by false d c one two three = never one

-- what is taken is the first of its channel

pub hears_row : (ws : List Waiter) (rs : List ℕ) (s : Side) (p : ℕ) (q : List Message) (m : Message) → s.up ≡ up_words p q → first q ≡ Some m
    → HostMay ws rs s (TakenUp (up_word p m))
hears_row ws rs s p [] m same head = absurd (cc)
hears_row ws rs s p (x ∷ q) m same head = let is : x ≡ m = cc in by (up_word p m) (same ∙ ap (λ (y : Message). with_word (up_word p y) (up_words p q)) is)
  where
    by : (w : UpWord) → s.up ≡ with_word w (up_words p q) → HostMay ws rs s (TakenUp w)
    by (Asking asker access) e = ap (λ l. first l) e
    by (Unlocking access) e = ap (λ l. first l) e
    by (Returning dirty keep bytes) e = ap (λ l. first l) e
    by (Doing control count) e = ap (λ l. first l) e
    by (Ending control) e = ap (λ l. first l) e
    by OtherUp e = tt

pub takes_row : (ws : List Waiter) (rs : List ℕ) (s : Side) (p control : ℕ) (q : List Message) (m : Message)
    → (s.control ≡ control → s.live ≡ true → s.down ≡ down_words p q) → first q ≡ Some m → HostMay ws rs s (TakesDown control (down_word p m))
takes_row ws rs s p control [] m same head = absurd (cc)
takes_row ws rs s p control (x ∷ q) m same head =
    let is : x ≡ m = cc in by (down_word p m) (λ own on. same own on ∙ ap (λ (y : Message). with_down (down_word p y) (down_words p q)) is)
  where
    by : (w : DownWord) → (s.control ≡ control → s.live ≡ true → s.down ≡ with_down w (down_words p q)) → HostMay ws rs s (TakesDown control w)
    by (Supplying lock precious bytes) e = λ own on. ap (λ l. first l) (e own on)
    by (Locking count returns flush lock reply) e = λ own on. ap (λ l. first l) (e own on)
    by Lacking e = λ own on. ap (λ l. first l) (e own on)
    by Failing e = λ own on. ap (λ l. first l) (e own on)
    by Readying e = tt
    by OtherDown e = tt

-- accesses

pub load_row : (size : ℕ) (w : Option Waiter) (v : Waiter) (s : Side) (page : Local) (live : Option ℕ) (value address bytes : ℕ) → SideIsLocal live s page
    → CanRead page → value ≡ number_at page.bytes size address bytes → w ≡ Some v → v.store ≡ false → v.at ≡ address % size → v.size ≡ bytes
    → MayLoad w s value
load_row size w v s page live value address bytes i can number is load at many =
    subst (λ (x : Option Waiter). MayLoad x s value) (sym is) (
      load,
      can_read_is live s page i can,
      number ∙ ap (λ b. number_at b size address bytes) (sym (i.bytes can.here))
          ∙ ap (λ n. little_endian (slice_range s.bytes n (n + bytes))) (sym at) ∙ ap (λ n. little_endian (slice_range s.bytes v.at (v.at + n))) (sym many),
    )

pub store_row : (w : Option Waiter) (v : Waiter) (s : Side) (page : Local) (live : Option ℕ) (at size value : ℕ) → SideIsLocal live s page → CanWrite page
    → w ≡ Some v → v.store ≡ true → at ≡ v.at → size ≡ v.size → value ≡ v.value → MayStore w s at size value
store_row w v s page live at size value i can is store place many same =
    subst (λ (x : Option Waiter). MayStore x s at size value) (sym is) (store, can_write_is live s page i can, place, many, same)
