-- Each event that has its cause has one in the part of each shared page.
use Rattle.std.proofs.Common.{Bool, List, None, Option, Some, [], ap, arith, false, if◌then◌else◌, refl, replicate, subst, sym, true, ℕ, ◌%◌, ◌&&◌, ◌+◌, ◌/◌}
use Rattle.std.proofs.Common.{◌<◌, ◌==◌, ◌∙◌, ◌∷◌, ◌≡◌, ◌≤◌}
use Rattle.std.proofs.lemmas.Bool.Decides.{nat_tests}
use Rattle.vm_model.specs.declared.command.Command.{Command}
use Rattle.vm_model.specs.declared.event.Event.{Event}
use Rattle.vm_model.specs.declared.event.Event.TheVariants as event
use Rattle.vm_model.specs.declared.message.Channel.TheVariants.{Up, Down}
use Rattle.vm_model.specs.declared.message.Message.{Message}
use Rattle.vm_model.specs.declared.message.Message.TheVariants as message
use Rattle.vm_model.specs.declared.script.Header.{Header}
use Rattle.vm_model.specs.Bytes.{number_at}
use Rattle.vm_model.specs.Channels.{down_queue, down_words, up_queue}
use Rattle.vm_model.specs.Controls.{is_control, last_control, live_control}
use Rattle.vm_model.specs.Local.{CanRead, CanWrite}
use Rattle.vm_model.specs.Moments.{EachEvent}
use Rattle.vm_model.specs.PageLicences.{ActsLicensed, Cause, ReplyCause}
use Rattle.vm_model.specs.PagePart.{page_part}
use Rattle.vm_model.specs.Server.{first}
use Rattle.vm_model.specs.Side.{Side, side}
use Rattle.vm_model.specs.TaskPlace.{means_page, task_host}
use Rattle.vm_model.specs.Tasks.{host_of}
use Rattle.vm_model.specs.Waiters.{readers, waiter_of, waiters}
use Rattle.vm_model.specs.Waiting.{Access, Copying, Loading, is_store, next_page, waiting}
use Rattle.vm_model.specs.Words.{Act, ActEffect, Asking, Begins, Copies, Doing, Drops, Ending, EndsCopy, Fails, Loads, Locking, Nothing, Opens, OtherDown}
use Rattle.vm_model.specs.Words.{OtherUp, Puts, Returning, SendsUp, SentDown, StepBegins, Stores, Supplying, TakenUp, TakesDown, Unlocking, UpWord, act_of}
use Rattle.vm_model.specs.Words.{down_word, in_range, sent_act_effect, up_word}
use Rattle.vm_legal.specs.Accesses.{HasPageLeft}
use Rattle.vm_legal.specs.Bytes.{AnswersOwn, OwnBytes, PutsOwn}
use Rattle.vm_legal.specs.Licences as L
use Rattle.vm_legal.proofs.Unshared.{shared_tame}
use Rattle.vm_legal.specs.Destroyed.{IsDestroyed}
use Rattle.vm_legal.specs.Licences.{HasCause, LockRequest, MaySendUp, ReturnCause, ServerSends, gives_back, is_answered_over, lock_taken}
use Rattle.vm_legal.specs.Outside.{Outside, is_shared, kind_of as kind_of_object}
use Rattle.vm_legal.specs.Steps.{completes, since}
use Rattle.vm_legal.specs.Walks.{page_on}
use Rattle.vm_coherence.specs.Locals.{SideIsLocal}
use Rattle.vm_coherence.proofs.Channels.{page_queue}
use Rattle.vm_coherence.proofs.Descent.{page_control, page_descent}
use Rattle.vm_coherence.proofs.Locals.{host_lives, side_is_local}
use Rattle.vm_flat.proofs.Locals.{each_founded}
use Rattle.vm_quiet.proofs.Letters.{never}
use Rattle.vm_shared.proofs.Declared.{shared_declared}
use Rattle.vm_shared.proofs.Kept.{IsShareds, lives_of, shareds_of, still_lives, uncopied, unmerged, unraised, unzeroed}
use Rattle.vm_shared.proofs.Order.{down_in_order, up_in_order}
use Rattle.vm_shared.proofs.Rows.{asks_row, completes_row, drops_row, ends_row, hears_row, kept_reply, load_row, locked_step, names_store, not_given, opens_row}
use Rattle.vm_shared.proofs.Rows.{returns_row, store_row, takes_row, unlocks_row}
use Rattle.vm_shared.proofs.Servers.{IsElsewhere, IsServersLock, IsServersRequest, lock_is, none_fails, shared_sends}
use Rattle.vm_shared.proofs.Stepped.{SteppedAt, step_in, stepped_of}
use Rattle.vm_shared.proofs.Waiters.{asks_reason, loads_waiter, stores_waiter, unlocks_store}

-- what is known of a shared page and its part at a host

pub record Known (header : Header) (h o p : ℕ) (past : List Event) : Type 0 where
  pub is : SideIsLocal (live_control h o past) (side h (page_part header.size o p past)) (page_on header h o p past)
  pub shared : IsShareds (page_on header h o p past)
  pub steps : SteppedAt header h o p past

known : (header : Header) (outside : Outside) (past : List Event) → EachEvent (HasCause header outside) past → (h o p : ℕ) → is_shared header o ≡ true
    → Known header h o p past
known header outside past caused h o p shared =
    record {
      is = side_is_local header past h o p (unmerged header outside past caused o shared) (each_founded header outside past caused);
      shared = shareds_of header outside past caused h o p shared;
      steps = stepped_of header outside past caused h o p shared;
    }

itself : (n : ℕ) → (n == n) ≡ true
itself n = grind (arith, nat_tests)

number_is : (a b : ℕ) → (a == b) ≡ true → a ≡ b
number_is a b is = grind (arith, nat_tests)

-- a lock that a step took over the page

over_own : (h o p : ℕ) (r : LockRequest) → r.reply ≡ true → r.host ≡ h → r.object ≡ o → in_range p r.page r.count ≡ true
    → is_answered_over h o p (Some r) ≡ true
over_own h o p r reply host object in_ = rw (reply, in_) (mine r.host r.object h o host object)
  where
    mine : (a b h o : ℕ) → a ≡ h → b ≡ o → (true && (a == h && (b == o && true))) ≡ true
    mine a b h o same its = grind (arith, nat_tests)

between : (p first count : ℕ) → first ≤ p → p < first + count → in_range p first count ≡ true
between p first count from to = grind (arith, nat_tests)

alive : (h o : ℕ) (r : LockRequest) (live : Option ℕ) → still_lives h o (Some r) live ≡ true → r.host ≡ h → r.object ≡ o → is_control r.control live ≡ true
alive h o r live still host object = by (r.host == h && r.object == o) (mine r.host r.object h o host object) still
  where
    mine : (a b h o : ℕ) → a ≡ h → b ≡ o → (a == h && b == o) ≡ true
    mine a b h o same its = grind (arith, nat_tests)

    by : (b : Bool) → b ≡ true → (if b then is_control r.control live else true) ≡ true → is_control r.control live ≡ true
    by true one is = is
    by false one is = never one

servers_lock : (header : Header) (outside : Outside) (past : List Event) → EachEvent (HasCause header outside) past → (r : LockRequest)
    → lock_taken past ≡ Some r → is_shared header r.object ≡ true → IsServersLock r.count r.returns r.flush r.lock r.reply
servers_lock header outside past caused r taken shared =
    let is : IsServersRequest (Some r) header = subst (λ l. IsServersRequest l header) taken (lock_is header outside past caused) in is shared

-- a page that goes back and stays is a clean lock's
kept_step : (header : Header) (outside : Outside) (doing : Command) (past : List Event) → EachEvent (HasCause header outside) past → (h o p : ℕ) (keep : Bool)
    → is_shared header o ≡ true → (page_on header h o p past).here ≡ true → ReturnCause header doing h o p keep past → keep ≡ true
    → step_in h o p (lock_taken past) (since (completes h o) past) (live_control h o past) ≡ 1
kept_step header outside doing past caused h o p keep shared here (ReturnCause.Reclaimed gone is) kept = never (sym gone ∙ kept)
kept_step header outside doing past caused h o p keep shared here (ReturnCause.Created control size rest front gone is) kept = never (sym gone ∙ kept)
kept_step header outside doing past caused h o p keep shared here (ReturnCause.Ended gone declared unheld) kept = never (sym gone ∙ kept)
kept_step header outside doing past caused h o p keep shared here (ReturnCause.Wanted returns true locked gives is) kept = never (sym is ∙ kept)
kept_step header outside doing past caused h o p keep shared here (ReturnCause.Wanted returns false locked gives is) kept =
    let r : LockRequest = record {
      host = h;
      object = o;
      control = locked.control;
      page = locked.first;
      count = locked.count;
      returns = returns;
      flush = false;
      lock = locked.lock;
      reply = locked.reply;
    } in
    let words : IsServersLock locked.count returns false locked.lock locked.reply = servers_lock header outside past caused r locked.taken shared in
    let reply : locked.reply ≡ true = kept_reply locked.count returns locked.lock locked.reply (page_on header h o p past).dirty
    (page_on header h o p past).precious words gives in
    let lives : is_control locked.control (live_control h o past) ≡ true = alive h o r (live_control h o past)
    (subst (λ l. still_lives h o l (live_control h o past) ≡ true) locked.taken (lives_of header outside past caused h o p shared here)) refl refl in
    locked_step h o p r (lock_taken past) (since (completes h o) past) (live_control h o past) locked.taken
    (over_own h o p r reply refl refl (between p locked.first locked.count locked.from locked.below)) locked.undone lives

-- what a host sends about the page

at_place : (header : Header) (h : ℕ) (e : ActEffect) (past : List Event) (a b o : ℕ) → (a == b) ≡ true → Cause header.size h e (page_part header.size o a past)
    → Cause header.size h e (page_part header.size o b past)
at_place header h e past a b o same c = subst (λ k. Cause header.size h e (page_part header.size o k past)) (number_is a b same) c

word_row : (header : Header) (h o p control : ℕ) (b : Bool) (w : UpWord) (past : List Event)
    → (b ≡ true → Cause header.size h (SendsUp control w) (page_part header.size o p past))
    → Cause header.size h (SendsUp control (if b then w else OtherUp)) (page_part header.size o p past)
word_row header h o p control true w past is = is refl
word_row header h o p control false w past is = tt

page_left : (header : Header) (task : ℕ) (access : Access) (past : List Event) → HasPageLeft header.size access (next_page task past) → (address bytes to : ℕ)
    → access ≡ Copying address bytes to → next_page task past < bytes / header.size
page_left header task access past left address bytes to is = subst (λ a. HasPageLeft header.size a (next_page task past)) is left

returns_sent : (header : Header) (outside : Outside) (doing : Command) (h o p control : ℕ) (dirty keep : Bool) (bytes : List ℕ) (past : List Event)
    → EachEvent (HasCause header outside) past → is_shared header o ≡ true → L.GivesBack header doing h control o p dirty keep bytes past
    → Cause header.size h (SendsUp control (Returning dirty keep bytes)) (page_part header.size o p past)
returns_sent header outside doing h o p control dirty keep bytes past caused shared c =
    let k : Known header h o p past = known header outside past caused h o p shared in
    returns_row (waiters h (page_part header.size o p past)) (readers h (page_part header.size o p past)) (side h (page_part header.size o p past))
    (page_on header h o p past) (live_control h o past) control _ _ dirty keep bytes k.is k.shared k.steps c.live c.here c.due c.same c.flag
    (kept_step header outside doing past caused h o p keep shared c.here c.why)

completes_sent : (header : Header) (outside : Outside) (h o p control page count : ℕ) (past : List Event) → EachEvent (HasCause header outside) past
    → is_shared header o ≡ true → L.Completes header h control o page count past → in_range p page count ≡ true
    → Cause header.size h (SendsUp control (Doing control count)) (page_part header.size o p past)
completes_sent header outside h o p control page count past caused shared c within =
    let k : Known header h o p past = known header outside past caused h o p shared in
    let r : LockRequest = record {
      host = h;
      object = o;
      control = control;
      page = page;
      count = count;
      returns = c.returns;
      flush = c.flush;
      lock = c.lock;
      reply = true;
    } in
    let words : (count ≡ 1) × (c.returns ≡ 1) = one c.flush (servers_lock header outside past caused r c.taken shared) in
    let lives : is_control control (live_control h o past) ≡ true = subst (λ l. is_control control l ≡ true) (sym c.live) (itself control) in
    completes_row (waiters h (page_part header.size o p past)) (readers h (page_part header.size o p past)) (side h (page_part header.size o p past))
    (page_on header h o p past) (live_control h o past) control count c.returns _ _ c.flush k.is k.steps c.live words.0 words.1
    (locked_step h o p r (lock_taken past) (since (completes h o) past) (live_control h o past) c.taken (over_own h o p r refl refl refl within) c.once lives)
    (c.done p (from p page count within) (to p page count within))
  where
    one : (flush : Bool) → IsServersLock count c.returns flush c.lock true → (count ≡ 1) × (c.returns ≡ 1)
    one true is = (is.0, is.1)
    one false is = (is.0, is.1)

    from : (p page count : ℕ) → in_range p page count ≡ true → page ≤ p
    from p page count is = grind (arith, nat_tests)

    to : (p page count : ℕ) → in_range p page count ≡ true → p < page + count
    to p page count is = grind (arith, nat_tests)

asks_sent : (header : Header) (outside : Outside) (h o p control access : ℕ) (past : List Event) → EachEvent (HasCause header outside) past
    → is_shared header o ≡ true → L.Asks header h control o p access past
    → Cause header.size h (SendsUp control (Asking control access)) (page_part header.size o p past)
asks_sent header outside h o p control access past caused shared c =
    let k : Known header h o p past = known header outside past caused h o p shared in
    asks_row (waiters h (page_part header.size o p past)) (readers h (page_part header.size o p past)) (side h (page_part header.size o p past))
    (page_on header h o p past) (live_control h o past) control access _ _ k.is k.steps c.live c.ready c.away c.unasked
    (asks_reason header outside h control o p access past caused shared c (page_left header c.task c.access past c.waits.left))

unlocks_sent : (header : Header) (outside : Outside) (h o p control access : ℕ) (past : List Event) → EachEvent (HasCause header outside) past
    → is_shared header o ≡ true → L.Unlocks header h control o p access past
    → Cause header.size h (SendsUp control (Unlocking access)) (page_part header.size o p past)
unlocks_sent header outside h o p control access past caused shared c =
    let k : Known header h o p past = known header outside past caused h o p shared in
    let store : is_store c.access ≡ true = (names_store (page_on header h o p past).lock (is_store c.access) k.shared.lock c.named).0 in
    let writes = unlocks_store header outside h control o p access past caused shared c store in
    unlocks_row (waiters h (page_part header.size o p past)) (readers h (page_part header.size o p past)) h o p (side h (page_part header.size o p past))
    (page_on header h o p past) (live_control h o past) control access _ (is_store c.access) (since (completes h o) past) (lock_taken past) k.is k.shared
    k.steps c.live c.here c.named c.none c.behind writes.0 writes.1

opens_sent : (header : Header) (outside : Outside) (h o p control size : ℕ) (past : List Event) → EachEvent (HasCause header outside) past
    → is_shared header o ≡ true → L.Opens header h control o size past → Cause header.size h (Opens control false) (page_part header.size o p past)
opens_sent header outside h o p control size past caused shared c =
    let k : Known header h o p past = known header outside past caused h o p shared in
    opens_row (waiters h (page_part header.size o p past)) (readers h (page_part header.size o p past)) (side h (page_part header.size o p past))
    (page_on header h o p past) (live_control h o past) control (last_control h o past) k.is c.none
    (page_control header.size past h o p (down_in_order header outside past caused)) c.number

-- its server destroys no object
shared_destroyed : {A : Type 0} (header : Header) (h o : ℕ) (past : List Event) → is_shared header o ≡ true → IsDestroyed header h o past → A
shared_destroyed header h o past shared destroyed = absurd (let bad : false ≡ true = sym (shared_tame header o shared) ∙ destroyed.wild in cc)

ends_unasked : (header : Header) (h o : ℕ) (past : List Event) → is_shared header o ≡ true → L.EndCause header h o past → (page : ℕ)
    → (page_on header h o page past).asked ≡ false
ends_unasked header h o past shared (L.Unreachable temporary unreached unasked) page = unasked page
ends_unasked header h o past shared (L.Unheld declared unheld unasked) page = unasked page
ends_unasked header h o past shared (L.Destroyed destroyed) page = shared_destroyed header h o past shared destroyed

ends_sent : (header : Header) (outside : Outside) (h o p control : ℕ) (past : List Event) → EachEvent (HasCause header outside) past → is_shared header o ≡ true
    → L.Ends header h control o past → Cause header.size h (SendsUp control (Ending control)) (page_part header.size o p past)
ends_sent header outside h o p control past caused shared c =
    let k : Known header h o p past = known header outside past caused h o p shared in
    ends_row (waiters h (page_part header.size o p past)) (readers h (page_part header.size o p past)) (side h (page_part header.size o p past))
    (page_on header h o p past) (live_control h o past) control k.is c.live (c.away p) (ends_unasked header h o past shared c.why p)

up_sent : (header : Header) (outside : Outside) (doing : Command) (h o p : ℕ) (m : Message) (past : List Event) → EachEvent (HasCause header outside) past
    → is_shared header o ≡ true → MaySendUp header doing h o m past → Cause header.size h (sent_act_effect p m) (page_part header.size o p past)
up_sent header outside doing h o p (message.Init control size) past caused shared c = opens_sent header outside h o p control size past caused shared c
up_sent header outside doing h o p (message.Create control size) past caused shared c =
    let less = shared_declared header o shared in let above = c.temporary in absurd (omega (arith, less, above))
up_sent header outside doing h o p (message.Request control page access) past caused shared c =
    word_row header h o p control (page.0 == p) (Asking control access) past (λ is. at_place header h (SendsUp control (Asking control access)) past page.0 p o
    is (asks_sent header outside h o page.0 control access past caused shared c))
up_sent header outside doing h o p (message.Unlock control page access) past caused shared c =
    word_row header h o p control (page.0 == p) (Unlocking access) past (λ is. at_place header h (SendsUp control (Unlocking access)) past page.0 p o is
    (unlocks_sent header outside h o page.0 control access past caused shared c))
up_sent header outside doing h o p (message.Return control page dirty keep bytes) past caused shared c =
    word_row header h o p control (page.0 == p) (Returning dirty keep bytes) past
    (λ is. at_place header h (SendsUp control (Returning dirty keep bytes)) past page.0 p o is
    (returns_sent header outside doing h o page.0 control dirty keep bytes past caused shared c))
up_sent header outside doing h o p (message.Completed control page count) past caused shared c =
    word_row header h o p control (in_range p page.0 count) (Doing control count) past
    (λ is. completes_sent header outside h o p control page.0 count past caused shared c is)
up_sent header outside doing h o p (message.Terminate control) past caused shared c = ends_sent header outside h o p control past caused shared c
up_sent header outside doing h o p (message.Changed control cache strategy) past caused shared c = tt
up_sent header outside doing h o p m past caused shared c = absurd c

-- what the server sends

down_sent : (header : Header) (h o p control : ℕ) (m : Message) (past : List Event) → ServerSends header h o control m past
    → Cause header.size h (SentDown control (down_word p m)) (page_part header.size o p past)
down_sent header h o p control (message.Supply page lock precious bytes) past c = by (page.0 == p) refl
  where
    by : (b : Bool) → (page.0 == p) ≡ b → Cause header.size h (SentDown control (if b then Supplying lock precious bytes else OtherDown))
        (page_part header.size o p past)
    by true is = subst (λ q. Cause header.size h (SentDown control (Supplying lock precious bytes)) (page_part header.size o q past)) (number_is page.0 p is) c
    by false is = tt
down_sent header h o p control (message.Lock page count returns flush lock reply) past c = by (in_range p page.0 count) refl
  where
    one : (flush reply : Bool) → ReplyCause header.size h control (Locking count returns flush lock reply) (page_part header.size o page.0 past) → count ≡ 1
    one flush true is = is.1
    one flush false is = is.1

    only : (page count : ℕ) → count ≡ 1 → in_range p page count ≡ true → page ≡ p
    only page count is within = grind (arith, nat_tests)

    by : (b : Bool) → in_range p page.0 count ≡ b → Cause header.size h (SentDown control (if b then Locking count returns flush lock reply else OtherDown))
        (page_part header.size o p past)
    by true is =
        subst (λ q. Cause header.size h (SentDown control (Locking count returns flush lock reply)) (page_part header.size o q past))
        (only page.0 count (one flush reply c) is) c
    by false is = tt
down_sent header h o p control (message.Ready cache strategy) past c = tt
down_sent header h o p control m past c = absurd c

-- a page goes without a word
drop_clean : (header : Header) (outside : Outside) (doing : Command) (h o p : ℕ) (past : List Event) → EachEvent (HasCause header outside) past
    → is_shared header o ≡ true → L.DropCause header doing h o p (page_on header h o p past) past → (page_on header h o p past).dirty ≡ false
drop_clean header outside doing h o p past caused shared (L.DropCause.Reclaimed clean plain reclaims) = clean
drop_clean header outside doing h o p past caused shared (L.DropCause.Ended clean plain declared unheld) = clean
drop_clean header outside doing h o p past caused shared (L.DropCause.Discarded destroyed rising) = shared_destroyed header h o past shared destroyed
drop_clean header outside doing h o p past caused shared (L.DropCause.Unreached temporary unreached) =
    let less = shared_declared header o shared in absurd (omega (arith, less, temporary))
drop_clean header outside doing h o p past caused shared (L.DropCause.Flushed returns locked none) =
    let r : LockRequest = record {
      host = h;
      object = o;
      control = locked.control;
      page = locked.first;
      count = locked.count;
      returns = returns;
      flush = true;
      lock = locked.lock;
      reply = locked.reply;
    } in
    let one : returns ≡ 1 = kind locked.reply (servers_lock header outside past caused r locked.taken shared) in
    not_given (page_on header h o p past).dirty (page_on header h o p past).precious (subst
    (λ n. gives_back n (page_on header h o p past).dirty (page_on header h o p past).precious ≡ false) one none)
  where
    kind : (reply : Bool) → IsServersLock locked.count returns true locked.lock reply → returns ≡ 1
    kind true is = is.1
    kind false is = absurd is

dropped : (header : Header) (outside : Outside) (doing : Command) (h o p : ℕ) (past : List Event) → EachEvent (HasCause header outside) past
    → is_shared header o ≡ true → L.Drops header doing h o p past → Cause header.size h Drops (page_part header.size o p past)
dropped header outside doing h o p past caused shared c =
    let k : Known header h o p past = known header outside past caused h o p shared in
    drops_row (waiters h (page_part header.size o p past)) (readers h (page_part header.size o p past)) (side h (page_part header.size o p past))
    (page_on header h o p past) (live_control h o past) k.is c.here (drop_clean header outside doing h o p past caused shared c.why)

-- accesses

host_number : Option ℕ → ℕ
host_number None = 0
host_number (Some h) = h

same_host : (task a b : ℕ) (past : List Event) → host_of task past ≡ Some a → host_of task past ≡ Some b → a ≡ b
same_host task a b past one two = let is : ◌≡◌ {A = Option ℕ} (Some a) (Some b) = sym one ∙ two in cc

record SameLoad (a b c d : ℕ) : Type 0 where
  address : a ≡ c
  bytes : b ≡ d

same_load : (a b c d : ℕ) (w : Option Access) → w ≡ Some (Loading a b) → w ≡ Some (Loading c d) → SameLoad a b c d
same_load a b c d w one two = let is : Some (Loading a b) ≡ Some (Loading c d) = sym one ∙ two in record { address = cc; bytes = cc }

loaded : (header : Header) (outside : Outside) (task o p value : ℕ) (past : List Event) → EachEvent (HasCause header outside) past → is_shared header o ≡ true
    → L.Loads header task o p past → AnswersOwn header task o p value past
    → Cause header.size (task_host task past) (Loads task value) (page_part header.size o p past)
loaded header outside task o p value past caused shared c own =
    let host : own.waits.at.host ≡ c.waits.at.host = same_host task own.waits.at.host c.waits.at.host past own.waits.at.lives c.waits.at.lives in
    let same : SameLoad own.address own.bytes c.address c.bytes = same_load own.address own.bytes c.address c.bytes (waiting task past) own.waits.waits
    c.waits.waits in
    let k : Known header c.waits.at.host o p past = known header outside past caused c.waits.at.host o p shared in
    let can : CanRead (page_on header c.waits.at.host o p past) = subst (λ h. CanRead (page_on header h o p past)) host own.readable in
    let number : value ≡ number_at (page_on header c.waits.at.host o p past).bytes header.size c.address c.bytes =
    own.number ∙ ap (λ h. number_at (page_on header h o p past).bytes header.size own.address own.bytes) host
    ∙ ap (λ a. number_at (page_on header c.waits.at.host o p past).bytes header.size a own.bytes) same.address
    ∙ ap (λ b. number_at (page_on header c.waits.at.host o p past).bytes header.size c.address b) same.bytes in
    subst (λ h. Cause header.size h (Loads task value) (page_part header.size o p past)) (sym (host_lives task c.waits.at.host past c.waits.at.lives))
    (load_row header.size (waiter_of task (waiters c.waits.at.host (page_part header.size o p past))) _ (side c.waits.at.host (page_part header.size o p past))
    (page_on header c.waits.at.host o p past) (live_control c.waits.at.host o past) value c.address c.bytes k.is can number
    (loads_waiter header outside task o p past caused shared c) refl refl refl)

stored : (header : Header) (outside : Outside) (task o p at bytes value : ℕ) (past : List Event) → EachEvent (HasCause header outside) past
    → is_shared header o ≡ true → L.Stores header task o p at bytes value past → PutsOwn header task o p at bytes value past
    → Cause header.size (task_host task past) (Stores task at bytes value) (page_part header.size o p past)
stored header outside task o p at bytes value past caused shared c own =
    let host : own.waits.at.host ≡ c.waits.at.host = same_host task own.waits.at.host c.waits.at.host past own.waits.at.lives c.waits.at.lives in
    let k : Known header c.waits.at.host o p past = known header outside past caused c.waits.at.host o p shared in
    let can : CanWrite (page_on header c.waits.at.host o p past) = subst (λ h. CanWrite (page_on header h o p past)) host own.writable in
    subst (λ h. Cause header.size h (Stores task at bytes value) (page_part header.size o p past)) (sym (host_lives task c.waits.at.host past c.waits.at.lives))
    (store_row (waiter_of task (waiters c.waits.at.host (page_part header.size o p past))) _ (side c.waits.at.host (page_part header.size o p past))
    (page_on header c.waits.at.host o p past) (live_control c.waits.at.host o past) at bytes value k.is can
    (stores_waiter header outside task o p at bytes value past caused shared c) refl c.place refl refl)

no_failure : (header : Header) (outside : Outside) (task o p : ℕ) (past : List Event) → EachEvent (HasCause header outside) past → is_shared header o ≡ true
    → L.Fails header task o p past → ⊥
no_failure header outside task o p past caused shared (L.Unserved c) = absurd (let bad : false ≡ true = sym (shared_tame header o shared) ∙ c.wild in cc)
no_failure header outside task o p past caused shared (L.ByError c) =
    let is : IsElsewhere (Some (record { host = c.waits.at.host; object = o; page = p })) header = subst (λ a. IsElsewhere a header) c.error
    (none_fails header outside past caused) in is shared

-- an event of the place

cause_if : (size h : ℕ) (b : Bool) (e f : ActEffect) (acts : List Act) → (b ≡ true → Cause size h e acts) → (b ≡ false → Cause size h f acts)
    → Cause size h (if b then e else f) acts
cause_if size h true e f acts yes_ no_ = yes_ refl
cause_if size h false e f acts yes_ no_ = no_ refl

-- the tests of the place
left_is : (a b c d : ℕ) → (a == b && c == d) ≡ true → a ≡ b
left_is a b c d is = grind (arith, nat_tests)

right_is : (a b c d : ℕ) → (a == b && c == d) ≡ true → c ≡ d
right_is a b c d is = grind (arith, nat_tests)

-- of an event that is about a place the cause is told there, and read at this one
at_object : (header : Header) (h : ℕ) (e : ActEffect) (a o p : ℕ) (past : List Event) → a ≡ o → is_shared header o ≡ true
    → (is_shared header a ≡ true → Cause header.size h e (page_part header.size a p past)) → Cause header.size h e (page_part header.size o p past)
at_object header h e a o p past same shared c =
    subst (λ k. Cause header.size h e (page_part header.size k p past)) same (c (subst (λ k. is_shared header k ≡ true) (sym same) shared))

at_page : (header : Header) (h : ℕ) (e : ActEffect) (a b o p : ℕ) (past : List Event) → a ≡ o → b ≡ p → is_shared header o ≡ true
    → (is_shared header a ≡ true → Cause header.size h e (page_part header.size a b past)) → Cause header.size h e (page_part header.size o p past)
at_page header h e a b o p past same too shared c =
    at_object header h e a o p past same shared (λ its. subst (λ q. Cause header.size h e (page_part header.size a q past)) too (c its))

-- what the event is to the page, on top of the page's part
abbrev pub NextLicensed : Header → ℕ → ℕ → Event → List Event → Type 0
NextLicensed header o p e past =
    let act = act_of header.size o p (λ task. task_host task past) (λ task address. means_page header.size o p task address past)
    (λ host object page. (side host (page_part header.size object page past)).bytes) e in
    Cause header.size act.host act.effect (page_part header.size o p past)

pub page_cause : (header : Header) (outside : Outside) (o p : ℕ) (e : Event) (past : List Event) → EachEvent (HasCause header outside) past
    → HasCause header outside e past → OwnBytes header e past → is_shared header o ≡ true → NextLicensed header o p e past
page_cause header outside o p (event.Sent (Up host object) m) past caused c own shared =
    cause_if header.size host.0 (object.0 == o) (sent_act_effect p m) Nothing (page_part header.size o p past)
    (λ is. at_object header host.0 (sent_act_effect p m) object.0 o p past (number_is object.0 o is) shared
    (λ its. up_sent header outside c.0 host.0 object.0 p m past caused its c.1)) (λ is. tt)
page_cause header outside o p (event.Sent (Down host object control) m) past caused c own shared =
    cause_if header.size host.0 (object.0 == o) (SentDown control (down_word p m)) Nothing (page_part header.size o p past)
    (λ is. at_object header host.0 (SentDown control (down_word p m)) object.0 o p past (number_is object.0 o is) shared
    (λ its. down_sent header host.0 object.0 p control m past (shared_sends (kind_of_object header object.0) header outside c.0 host.0 object.0 control m
    past its c.1))) (λ is. tt)
page_cause header outside o p (event.Taken (Up host object) m) past caused c own shared =
    cause_if header.size host.0 (object.0 == o) (TakenUp (up_word p m)) StepBegins (page_part header.size o p past)
    (λ is. at_object header host.0 (TakenUp (up_word p m)) object.0 o p past (number_is object.0 o is) shared
    (λ its. hears_row (waiters host.0 (page_part header.size object.0 p past)) (readers host.0 (page_part header.size object.0 p past))
    (side host.0 (page_part header.size object.0 p past)) p (up_queue host.0 object.0 past) m
    (page_queue header.size past host.0 object.0 p (up_in_order header outside past caused)) c.1.0)) (λ is. tt)
page_cause header outside o p (event.Taken (Down host object control) m) past caused c own shared =
    cause_if header.size host.0 (object.0 == o) (TakesDown control (down_word p m)) StepBegins (page_part header.size o p past)
    (λ is. at_object header host.0 (TakesDown control (down_word p m)) object.0 o p past (number_is object.0 o is) shared
    (λ its.
    let s : Side = side host.0 (page_part header.size object.0 p past) in
    takes_row (waiters host.0 (page_part header.size object.0 p past)) (readers host.0 (page_part header.size object.0 p past)) s p control
    (down_queue host.0 object.0 control past) m
    (λ same on. page_descent header.size past host.0 object.0 p (down_in_order header outside past caused) on
    ∙ ap (λ k. down_words p (down_queue host.0 object.0 k past)) same) c.1.0)) (λ is. tt)
page_cause header outside o p (event.Dropped host object page) past caused c own shared =
    cause_if header.size host.0 (object.0 == o && page.0 == p) Drops Nothing (page_part header.size o p past)
    (λ is. at_page header host.0 Drops object.0 page.0 o p past (left_is object.0 o page.0 p is) (right_is object.0 o page.0 p is) shared
    (λ its. dropped header outside c.0 host.0 object.0 page.0 past caused its c.1)) (λ is. tt)
page_cause header outside o p (event.Zeroed host object page) past caused c own shared =
    cause_if header.size host.0 (object.0 == o && page.0 == p) (Puts (replicate header.size 0) false) Nothing (page_part header.size o p past)
    (λ is. unzeroed header outside host.0 object.0 page.0 past caused (subst (λ k. is_shared header k ≡ true) (sym (left_is object.0 o page.0 p is)) shared)
    c.1) (λ is. tt)
page_cause header outside o p (event.Raised host lower lower_page upper upper_page) past caused c own shared =
    cause_if header.size host.0 (upper.0 == o && upper_page.0 == p) (Puts (side host.0 (page_part header.size lower.0 lower_page.0 past)).bytes true) Nothing
    (page_part header.size o p past)
    (λ is. unraised header outside host.0 lower.0 lower_page.0 upper.0 upper_page.0 past caused
    (subst (λ k. is_shared header k ≡ true) (sym (left_is upper.0 o upper_page.0 p is)) shared) c.1) (λ is. tt)
page_cause header outside o p (event.CopiedPage task page object object_page target) past caused c own shared =
    cause_if header.size (task_host task.0 past) (target.0 == o && page.0 == p) (Puts
    (side (task_host task.0 past) (page_part header.size object.0 object_page.0 past)).bytes true)
    (if object.0 == o && object_page.0 == p then Copies task.0 else Nothing) (page_part header.size o p past)
    (λ is. uncopied header outside task.0 page.0 object.0 object_page.0 target.0 past caused
    (subst (λ k. is_shared header k ≡ true) (sym (left_is target.0 o page.0 p is)) shared) c.1)
    (λ is. cause_if header.size (task_host task.0 past) (object.0 == o && object_page.0 == p) (Copies task.0) Nothing (page_part header.size o p past)
    (λ one. tt) (λ one. tt))
page_cause header outside o p (event.Loaded task object page value) past caused c own shared =
    cause_if header.size (task_host task.0 past) (object.0 == o && page.0 == p) (Loads task.0 value) Nothing (page_part header.size o p past)
    (λ is. at_page header (task_host task.0 past) (Loads task.0 value) object.0 page.0 o p past (left_is object.0 o page.0 p is)
    (right_is object.0 o page.0 p is) shared (λ its. loaded header outside task.0 object.0 page.0 value past caused its c.1 own)) (λ is. tt)
page_cause header outside o p (event.Stored task object page at bytes value) past caused c own shared =
    cause_if header.size (task_host task.0 past) (object.0 == o && page.0 == p) (Stores task.0 at bytes value) Nothing (page_part header.size o p past)
    (λ is. at_page header (task_host task.0 past) (Stores task.0 at bytes value) object.0 page.0 o p past (left_is object.0 o page.0 p is)
    (right_is object.0 o page.0 p is) shared (λ its. stored header outside task.0 object.0 page.0 at bytes value past caused its c.1 own)) (λ is. tt)
page_cause header outside o p (event.Failed task object page) past caused c own shared =
    cause_if header.size (task_host task.0 past) (object.0 == o && page.0 == p) (Fails task.0) (EndsCopy task.0) (page_part header.size o p past)
    (λ is. no_failure header outside task.0 object.0 page.0 past caused (subst (λ k. is_shared header k ≡ true) (sym (left_is object.0 o page.0 p is)) shared)
    c.1) (λ is. tt)
page_cause header outside o p (event.BegunLoad task address bytes) past caused c own shared =
    cause_if header.size (task_host task.0 past) (means_page header.size o p task.0 address past) (Begins task.0 false (address % header.size) bytes 0) Nothing
    (page_part header.size o p past) (λ is. tt) (λ is. tt)
page_cause header outside o p (event.BegunStore task address bytes value) past caused c own shared =
    cause_if header.size (task_host task.0 past) (means_page header.size o p task.0 address past) (Begins task.0 true (address % header.size) bytes value)
    Nothing (page_part header.size o p past) (λ is. tt) (λ is. tt)
page_cause header outside o p e past caused c own shared = tt

pub licensed : (header : Header) (outside : Outside) (history : List Event) → EachEvent (HasCause header outside) history → EachEvent (OwnBytes header) history
    → (o p : ℕ) → is_shared header o ≡ true → ActsLicensed header.size (page_part header.size o p history)
licensed header outside [] caused own o p shared = tt
licensed header outside (e ∷ past) caused own o p shared =
    (page_cause header outside o p e past caused.1 caused.0 own.0 shared, licensed header outside past caused.1 own.1 o p shared)
