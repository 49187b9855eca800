-- What the step took pays for what follows: no event but a store raises the credit, and which message it was.
use Rattle.std.proofs.Common.{ℕ, ◌≤◌, ◌<◌, ◌≡◌, ◌+◌, ◌*◌, Bool, true, false, List, [], ◌∷◌, arith, refl, ap, sym, subst, ◌∙◌}
use Rattle.std.proofs.lemmas.Bool.Decides.{nat_tests}
use Rattle.std.specs.Prelude.{◌==◌, ◌&&◌, ◌-◌, if◌then◌else◌, Option, Some, None}
use Rattle.vm_base.specs.declared.ids.ObjectId.{ObjectId}
use Rattle.vm_base.specs.declared.ids.PageNo.{PageNo}
use Rattle.vm_base.specs.declared.ids.TaskId.{TaskId}
use Rattle.vm_bound.proofs.OpenPages.{IsOnDeclared, Keeps, LocksDeclared, LocksOn, all_stay, and_left, and_right, end_kept, letter_kept, no_some}
use Rattle.vm_bound.proofs.OpenPages.{none_third, page_kept, pages_stay, since_kept, stored_pages, sum_falls, unless_falls, unless_kept}
use Rattle.vm_bound.proofs.Paying.{credit, credit_on, down_credit, frees, frees_on, is_flushed_page, is_locked_page, letter_credit, one_unless}
use Rattle.vm_bound.proofs.Paying.{open_end, open_page, open_pages, page_unit, up_credit}
use Rattle.vm_legal.specs.Cached.{Attributes, attributes_taken}
use Rattle.vm_legal.specs.Destroyed.{HostObject, destroy_taken}
use Rattle.vm_legal.specs.Licences.{LockRequest, lock_taken}
use Rattle.vm_legal.specs.Outside.{is_shared}
use Rattle.vm_legal.specs.Stretches.{IsInner}
use Rattle.vm_legal.specs.Steps.{Letter, answers, changes, completes, ends_control, readies, since, taken_letter}
use Rattle.vm_model.specs.Controls.{is_control, live_control}
use Rattle.vm_model.specs.Named.{declared_pages, named}
use Rattle.vm_model.specs.declared.event.Event.{Event}
use Rattle.vm_model.specs.declared.event.Event.TheVariants as event
use Rattle.vm_model.specs.declared.message.Channel.{Channel}
use Rattle.vm_model.specs.declared.message.Channel.TheVariants.{Up, Down}
use Rattle.vm_model.specs.declared.message.Message.{Message}
use Rattle.vm_model.specs.declared.message.Message.TheVariants as message
use Rattle.vm_model.specs.declared.script.Header.{Header}
use Rattle.vm_quiet.proofs.Letters.{never}

-- No event but a store raises the credit.

ready_kept : (pages : ℕ) (now was : Bool) → (was ≡ true → now ≡ true) → (if now then 0 else pages + 3) ≤ (if was then 0 else pages + 3)
ready_kept pages true was grows = omega arith
ready_kept pages false true grows = never (grows refl)
ready_kept pages false false grows = omega arith

if_kept : (b : Bool) (now was : ℕ) → now ≤ was → (if b then 0 else now) ≤ (if b then 0 else was)
if_kept true now was le = omega arith
if_kept false now was le = le

-- the pages of a lock, at what each counts, and its reply, where it has one
both_kept : (shared b : Bool) (pages pages_was more more_was : ℕ) → pages ≤ pages_was → more ≤ more_was
    → page_unit shared * pages + (if b then more else 0) ≤ page_unit shared * pages_was + (if b then more_was else 0)
both_kept true true pages pages_was more more_was one two = omega (arith, one, two)
both_kept true false pages pages_was more more_was one two = omega (arith, one)
both_kept false true pages pages_was more more_was one two = omega (arith, one, two)
both_kept false false pages pages_was more more_was one two = omega (arith, one)

one_pays : (shared b : Bool) (pages pages_was more more_was : ℕ) → pages + 1 ≤ pages_was → more ≤ more_was
    → page_unit shared * pages + (if b then more else 0) + page_unit shared ≤ page_unit shared * pages_was + (if b then more_was else 0)
one_pays true true pages pages_was more more_was one two = omega (arith, one, two)
one_pays true false pages pages_was more more_was one two = omega (arith, one)
one_pays false true pages pages_was more more_was one two = omega (arith, one, two)
one_pays false false pages pages_was more more_was one two = omega (arith, one)

one_opens : (shared b : Bool) (pages pages_was more more_was : ℕ) → pages ≤ pages_was + 1 → more ≤ more_was
    → page_unit shared * pages + (if b then more else 0) ≤ page_unit shared * pages_was + (if b then more_was else 0) + 3
one_opens true true pages pages_was more more_was one two = omega (arith, one, two)
one_opens true false pages pages_was more more_was one two = omega (arith, one)
one_opens false true pages pages_was more more_was one two = omega (arith, one, two)
one_opens false false pages pages_was more more_was one two = omega (arith, one)

up_kept : (header : Header) (o : ℕ) (m : Message) (e : Event) (past : List Event) → IsInner e → up_credit header o m (e ∷ past) ≤ up_credit header o m past
up_kept header o (message.Init control size) e past inner =
    ready_kept (declared_pages header o) (since (readies o) (e ∷ past)) (since (readies o) past) (since_kept (readies o) e past inner)
up_kept header o (message.Create control size) e past inner =
    ready_kept (declared_pages header o) (since (readies o) (e ∷ past)) (since (readies o) past) (since_kept (readies o) e past inner)
up_kept header o (message.Request control page access) e past inner =
    if_kept (is_shared header o) (one_unless (since (answers o page.0) (e ∷ past))) (one_unless (since (answers o page.0) past))
    (unless_kept (answers o page.0) e past inner)
up_kept header o other e past inner = omega arith

down_kept : (header : Header) (h o : ℕ) (m : Message) (e : Event) (past : List Event) → Keeps header e past → IsOnDeclared header o m
    → down_credit header h o m (e ∷ past) ≤ down_credit header h o m past
down_kept header h o (message.Lock page count returns flush lock reply) e past keeps declared =
    both_kept (is_shared header o) reply (open_pages header h o page.0 count (e ∷ past)) (open_pages header h o page.0 count past)
    (one_unless (since (completes h o) (e ∷ past))) (one_unless (since (completes h o) past))
    (pages_stay header h o page.0 count e past keeps declared) (unless_kept (completes h o) e past keeps.inner)
down_kept header h o (message.Ready cache strategy) e past keeps declared = end_kept header h o e past keeps
down_kept header h o (message.Attributes cache strategy reply) e past keeps declared =
    let pages = end_kept header h o e past keeps in
    let more = unless_kept (changes h o) e past keeps.inner in
    omega (arith, pages, more)
down_kept header h o (message.Destroy reason) e past keeps declared = unless_kept (ends_control h o) e past keeps.inner
down_kept header h o other e past keeps declared = omega arith

letter_credit_kept : (header : Header) (letter : Option Letter) (e : Event) (past : List Event) → Keeps header e past → LocksDeclared header letter
    → letter_credit header letter (e ∷ past) ≤ letter_credit header letter past
letter_credit_kept header None e past keeps locks = omega arith
letter_credit_kept header (Some letter) e past keeps locks = by letter.channel locks
  where
    by : (channel : Channel) → LocksOn header channel letter.message
        → credit_on header channel letter.message (e ∷ past) ≤ credit_on header channel letter.message past
    by (Up host object) on = up_kept header object.0 letter.message e past keeps.inner
    by (Down host object control) on = down_kept header host.0 object.0 letter.message e past keeps on

pub credit_kept : (header : Header) (e : Event) (past : List Event) → Keeps header e past → credit header (e ∷ past) ≤ credit header past
credit_kept header e past keeps =
    subst (λ letter. letter_credit header letter (e ∷ past) ≤ credit header past) (sym (letter_kept e past keeps.inner))
    (letter_credit_kept header (taken_letter past) e past keeps keeps.locks)

-- A store raises it by what one page counts.

end_opens : (header : Header) (h o : ℕ) (task : TaskId) (object : ObjectId) (page : PageNo) (at size value : ℕ) (past : List Event)
    → open_end header h o (event.Stored task object page at size value ∷ past) ≤ open_end header h o past + 1
end_opens header h o task object page at size value past =
    let pages = stored_pages header h o 0 (declared_pages header o) task object page at size value past in
    let rest = unless_kept (ends_control h o) (event.Stored task object page at size value) past tt in
    omega (arith, pages, rest)

down_opens : (header : Header) (h o : ℕ) (m : Message) (task : TaskId) (object : ObjectId) (page : PageNo) (at size value : ℕ) (past : List Event)
    → down_credit header h o m (event.Stored task object page at size value ∷ past) ≤ down_credit header h o m past + 3
down_opens header h o (message.Lock first count returns flush lock reply) task object page at size value past =
    let e = event.Stored task object page at size value in
    one_opens (is_shared header o) reply (open_pages header h o first.0 count (e ∷ past)) (open_pages header h o first.0 count past)
    (one_unless (since (completes h o) (e ∷ past))) (one_unless (since (completes h o) past))
    (stored_pages header h o first.0 count task object page at size value past) (unless_kept (completes h o) e past tt)
down_opens header h o (message.Ready cache strategy) task object page at size value past =
    let pages = end_opens header h o task object page at size value past in
    omega (arith, pages)
down_opens header h o (message.Attributes cache strategy reply) task object page at size value past =
    let pages = end_opens header h o task object page at size value past in
    let more = unless_kept (changes h o) (event.Stored task object page at size value) past tt in
    omega (arith, pages, more)
down_opens header h o (message.Destroy reason) task object page at size value past =
    let rest = unless_kept (ends_control h o) (event.Stored task object page at size value) past tt in
    omega (arith, rest)
down_opens header h o other task object page at size value past = omega arith

pub credit_stored : (header : Header) (task : TaskId) (object : ObjectId) (page : PageNo) (at size value : ℕ) (past : List Event)
    → credit header (event.Stored task object page at size value ∷ past) ≤ credit header past + 3
credit_stored header task object page at size value past = by (taken_letter past)
  where
    on : (channel : Channel) (m : Message)
        → credit_on header channel m (event.Stored task object page at size value ∷ past) ≤ credit_on header channel m past + 3
    on (Up host about) m =
        let le = up_kept header about.0 m (event.Stored task object page at size value) past tt in
        omega (arith, le)
    on (Down host about control) m = down_opens header host.0 about.0 m task object page at size value past

    by : (letter : Option Letter) → letter_credit header letter (event.Stored task object page at size value ∷ past) ≤ letter_credit header letter past + 3
    by None = omega arith
    by (Some letter) = on letter.channel letter.message

-- what the letter that the step took pays, the credit pays
pub paid : (header : Header) (letter : Letter) (due : ℕ) (e : Event) (past : List Event) → Keeps header e past → taken_letter past ≡ Some letter
    → credit_on header letter.channel letter.message (e ∷ past) + due ≤ credit_on header letter.channel letter.message past
    → credit header (e ∷ past) + due ≤ credit header past
paid header letter due e past keeps is le =
    subst (λ taken. letter_credit header taken (e ∷ past) + due ≤ credit header past) (sym (letter_kept e past keeps.inner ∙ is))
    (subst (λ taken. credit_on header letter.channel letter.message (e ∷ past) + due ≤ letter_credit header taken past) (sym is) le)

-- Which message the step took.

taken_if : {A : Type 0} (letter : A → Letter) (b : Bool) (x request : A) → (if b then Some x else None) ≡ Some request
    → Some (letter x) ≡ Some (letter request)
taken_if letter true x request is = let same : x ≡ request = cc in ap (λ y. Some (letter y)) same
taken_if letter false x request is = no_some is

abbrev pub lock_letter : LockRequest → Letter
lock_letter r =
    record {
      channel = Down (record { 0 = r.host }) (record { 0 = r.object }) r.control;
      message = message.Lock (record { 0 = r.page }) r.count r.returns r.flush r.lock r.reply;
    }

pub lock_was : (past : List Event) (request : LockRequest) → lock_taken past ≡ Some request → taken_letter past ≡ Some (lock_letter request)
lock_was [] request is = no_some is
lock_was (event.Line line ∷ past) request is = no_some is
lock_was (event.Taken (Down host object control) (message.Lock page count returns flush lock reply) ∷ past) request is =
    taken_if lock_letter (is_control control (live_control host.0 object.0 past))
    (record {
      host = host.0;
      object = object.0;
      control = control;
      page = page.0;
      count = count;
      returns = returns;
      flush = flush;
      lock = lock;
      reply = reply;
    }) request is
lock_was (event.Taken (Down host object control) other ∷ past) request is = no_some is
lock_was (event.Taken (Up host object) m ∷ past) request is = no_some is
lock_was (e ∷ past) request is = lock_was past request is

abbrev pub change_letter : Attributes → Letter
change_letter r =
    record {
      channel = Down (record { 0 = r.host }) (record { 0 = r.object }) r.control;
      message = message.Attributes r.cache r.strategy r.reply;
    }

pub change_was : (past : List Event) (request : Attributes) → attributes_taken past ≡ Some request → taken_letter past ≡ Some (change_letter request)
change_was [] request is = no_some is
change_was (event.Line line ∷ past) request is = no_some is
change_was (event.Taken (Down host object control) (message.Attributes cache strategy reply) ∷ past) request is =
    taken_if change_letter (is_control control (live_control host.0 object.0 past))
    (record { host = host.0; object = object.0; control = control; cache = cache; strategy = strategy; reply = reply }) request is
change_was (event.Taken (Down host object control) other ∷ past) request is = no_some is
change_was (event.Taken (Up host object) m ∷ past) request is = no_some is
change_was (e ∷ past) request is = change_was past request is

-- the letter is the end of the object on the host
pub record IsEnd (ended : HostObject) (past : List Event) : Type 0 where
  pub control : ℕ
  pub reason : ℕ
  pub taken : taken_letter past
      ≡ Some (record { channel = Down (record { 0 = ended.host }) (record { 0 = ended.object }) control; message = message.Destroy reason })

end_if : (b : Bool) (control reason : ℕ) (x ended : HostObject) (taken : Option Letter)
    → taken ≡ Some (record { channel = Down (record { 0 = x.host }) (record { 0 = x.object }) control; message = message.Destroy reason })
    → (if b then Some x else None) ≡ Some ended
    → taken ≡ Some (record { channel = Down (record { 0 = ended.host }) (record { 0 = ended.object }) control; message = message.Destroy reason })
end_if true control reason x ended taken was is =
    let same : x ≡ ended = cc in
    was ∙ ap (λ y. Some (record { channel = Down (record { 0 = y.host }) (record { 0 = y.object }) control; message = message.Destroy reason })) same
end_if false control reason x ended taken was is = no_some is

pub end_was : (past : List Event) (ended : HostObject) → destroy_taken past ≡ Some ended → IsEnd ended past
end_was [] ended is = no_some is
end_was (event.Line line ∷ past) ended is = no_some is
end_was (event.Taken (Down host object control) (message.Destroy reason) ∷ past) ended is =
    record {
      control = control;
      reason = reason;
      taken = end_if (is_control control (live_control host.0 object.0 past)) control reason (record { host = host.0; object = object.0 }) ended
          (Some (record { channel = Down host object control; message = message.Destroy reason })) refl is;
    }
end_was (event.Taken (Down host object control) other ∷ past) ended is = no_some is
end_was (event.Taken (Up host object) m ∷ past) ended is = no_some is
end_was (e ∷ past) ended is = let it = end_was past ended is in record { control = it.control; reason = it.reason; taken = it.taken }

-- One page, or the end, of those that the message left open.

pub pages_fall : (header : Header) (h o first count page : ℕ) (e : Event) (past : List Event) → Keeps header e past → o < named header
    → first ≤ page → page < first + count → open_page header h o page (e ∷ past) + 1 ≤ open_page header h o page past
    → open_pages header h o first count (e ∷ past) + 1 ≤ open_pages header h o first count past
pages_fall header h o first count page e past keeps declared from below falls =
    sum_falls count (page - first) (λ i. open_page header h o (first + i) (e ∷ past)) (λ i. open_page header h o (first + i) past)
    (λ i. page_kept header h o (first + i) e past keeps declared) (omega (arith, from, below))
    (let it : page ≡ first + (page - first) = omega (arith, from) in
    subst (λ k. open_page header h o k (e ∷ past) + 1 ≤ open_page header h o k past) it falls)

pub lock_pays : (header : Header) (h o first count page : ℕ) (reply : Bool) (e : Event) (past : List Event) → Keeps header e past → o < named header
    → first ≤ page → page < first + count → open_page header h o page (e ∷ past) + 1 ≤ open_page header h o page past
    → page_unit (is_shared header o) * open_pages header h o first count (e ∷ past)
    + (if reply then one_unless (since (completes h o) (e ∷ past)) else 0) + page_unit (is_shared header o)
    ≤ page_unit (is_shared header o) * open_pages header h o first count past + (if reply then one_unless (since (completes h o) past) else 0)
lock_pays header h o first count page reply e past keeps declared from below falls =
    one_pays (is_shared header o) reply (open_pages header h o first count (e ∷ past)) (open_pages header h o first count past)
    (one_unless (since (completes h o) (e ∷ past))) (one_unless (since (completes h o) past))
    (pages_fall header h o first count page e past keeps declared from below falls) (unless_kept (completes h o) e past keeps.inner)

-- the step's lock is over the page
record IsOver (h o q : ℕ) (request : LockRequest) : Type 0 where
  host : request.host ≡ h
  object : request.object ≡ o
  from : request.page ≤ q
  below : q < request.page + request.count

is_over : (h o q : ℕ) (request : LockRequest) → is_locked_page h o q (Some request) ≡ true → IsOver h o q request
is_over h o q request is =
    record {
      host = grind (arith, nat_tests, is);
      object = grind (arith, nat_tests, is);
      from = grind (arith, nat_tests, is);
      below = grind (arith, nat_tests, is);
    }

over_pays : (header : Header) (h o q : ℕ) (request : LockRequest) (e : Event) (past : List Event) → Keeps header e past
    → lock_taken past ≡ Some request → IsOver h o q request → open_page header h o q (e ∷ past) + 1 ≤ open_page header h o q past
    → credit header (e ∷ past) + page_unit (is_shared header o) ≤ credit header past
over_pays header h o q request e past keeps locked over falls =
    let taken = lock_was past request locked in
    let declared = subst (λ (letter : Option Letter). LocksDeclared header letter) taken keeps.locks in
    let here : open_page header request.host request.object q (e ∷ past) + 1 ≤ open_page header request.host request.object q past =
    subst (λ a. open_page header a request.object q (e ∷ past) + 1 ≤ open_page header a request.object q past) (sym over.host)
    (subst (λ a. open_page header h a q (e ∷ past) + 1 ≤ open_page header h a q past) (sym over.object) falls) in
    subst (λ a. credit header (e ∷ past) + page_unit (is_shared header a) ≤ credit header past) over.object
    (paid header (lock_letter request) (page_unit (is_shared header request.object)) e past keeps taken
    (lock_pays header request.host request.object request.page request.count q request.reply e past keeps declared over.from over.below here))

-- it pays for a page of it that is open no more
pub locked_paid : (header : Header) (h o q : ℕ) (e : Event) (past : List Event) → Keeps header e past → is_locked_page h o q (lock_taken past) ≡ true
    → open_page header h o q (e ∷ past) + 1 ≤ open_page header h o q past → credit header (e ∷ past) + page_unit (is_shared header o) ≤ credit header past
locked_paid header h o q e past keeps is falls = by (lock_taken past) refl is
  where
    by : (taken : Option LockRequest) → lock_taken past ≡ taken → is_locked_page h o q taken ≡ true
        → credit header (e ∷ past) + page_unit (is_shared header o) ≤ credit header past
    by None none on = never on
    by (Some request) some on = over_pays header h o q request e past keeps some (is_over h o q request on) falls

-- a flush is a lock
pub flushed_locked : (h o q : ℕ) (taken : Option LockRequest) → is_flushed_page h o q taken ≡ true → is_locked_page h o q taken ≡ true
flushed_locked h o q None is = is
flushed_locked h o q (Some request) is = and_right request.flush (is_locked_page h o q (Some request)) is

-- it is over pages of declared objects alone
pub locked_declared : (header : Header) (h o q : ℕ) (e : Event) (past : List Event) → Keeps header e past → is_locked_page h o q (lock_taken past) ≡ true
    → o < named header
locked_declared header h o q e past keeps is = by (lock_taken past) refl is
  where
    by : (taken : Option LockRequest) → lock_taken past ≡ taken → is_locked_page h o q taken ≡ true → o < named header
    by None none on = never on
    by (Some request) some on =
        subst (λ a. a < named header) (is_over h o q request on).object
        (subst (λ (letter : Option Letter). LocksDeclared header letter) (lock_was past request some) keeps.locks)

-- a page of an object that ends, and the end itself
pub page_ends : (header : Header) (h o page : ℕ) (e : Event) (past : List Event) → Keeps header e past → o < named header → page < declared_pages header o
    → open_page header h o page (e ∷ past) + 1 ≤ open_page header h o page past → open_end header h o (e ∷ past) + 1 ≤ open_end header h o past
page_ends header h o page e past keeps declared below falls =
    let pages = pages_fall header h o 0 (declared_pages header o) page e past keeps declared (omega arith) (omega (arith, below)) falls in
    let rest = unless_kept (ends_control h o) e past keeps.inner in
    omega (arith, pages, rest)

pub control_ends : (header : Header) (h o : ℕ) (e : Event) (past : List Event) → Keeps header e past → ends_control h o e ≡ true
    → since (ends_control h o) past ≡ false
    → open_end header h o (e ∷ past) + 1 ≤ open_end header h o past
control_ends header h o e past keeps is none =
    let pages = all_stay header h o e past keeps in
    let rest = unless_falls (ends_control h o) e past keeps.inner is none in
    omega (arith, pages, rest)

-- The step took a message by which the object may end on the host: it pays for a page of it, and for its end.

same_number : (a b : ℕ) → (a == b) ≡ true → b ≡ a
same_number a b is = grind (arith, nat_tests)

ends_at : (header : Header) (h o host object : ℕ) (e : Event) (past : List Event) (free : Bool) → (host == h && (object == o && free)) ≡ true
    → open_end header h o (e ∷ past) + 1 ≤ open_end header h o past → open_end header host object (e ∷ past) + 1 ≤ open_end header host object past
ends_at header h o host object e past free is le =
    let hosts = same_number host h (and_left (host == h) (object == o && free) is) in
    let objects = same_number object o (and_left (object == o) free (and_right (host == h) (object == o && free) is)) in
    subst (λ k. open_end header k object (e ∷ past) + 1 ≤ open_end header k object past) hosts
    (subst (λ k. open_end header h k (e ∷ past) + 1 ≤ open_end header h k past) objects le)

frees_pays : (header : Header) (h o : ℕ) (channel : Channel) (m : Message) (e : Event) (past : List Event) → Keeps header e past → frees_on h o channel m ≡ true
    → open_end header h o (e ∷ past) + 1 ≤ open_end header h o past → credit_on header channel m (e ∷ past) + 1 ≤ credit_on header channel m past
frees_pays header h o (Up host object) m e past keeps is le = never is
frees_pays header h o (Down host object control) (message.Ready cache strategy) e past keeps is le = ends_at header h o host.0 object.0 e past true is le
frees_pays header h o (Down host object control) (message.Attributes cache strategy reply) e past keeps is le =
    let pages = ends_at header h o host.0 object.0 e past true is le in
    let more = unless_kept (changes host.0 object.0) e past keeps.inner in
    omega (arith, pages, more)
frees_pays header h o (Down host object control) other e past keeps is le = none_third (host.0 == h) (object.0 == o) is

pub end_pays : (header : Header) (h o : ℕ) (e : Event) (past : List Event) → Keeps header e past → frees h o (taken_letter past) ≡ true
    → open_end header h o (e ∷ past) + 1 ≤ open_end header h o past → credit header (e ∷ past) + 1 ≤ credit header past
end_pays header h o e past keeps is le = by (taken_letter past) refl is
  where
    by : (letter : Option Letter) → taken_letter past ≡ letter → frees h o letter ≡ true → credit header (e ∷ past) + 1 ≤ credit header past
    by None was none = never none
    by (Some letter) was some =
        paid header letter 1 e past keeps was (frees_pays header h o letter.channel letter.message e past keeps some le)
