-- What the table of messages says of an answer is what the answer comes to.
use Rattle.std.proofs.Common.{ℕ, ◌≡◌, ◌≢◌, ◌<◌, ◌==◌, ◌&&◌, Bool, true, false, List, refl, sym, ap, subst, ◌∙◌, arith, ⊎_elim, inl, inr}
use Rattle.std.proofs.lemmas.Bool.{cases_Bool}
use Rattle.std.proofs.lemmas.Bool.Decides.{nat_tests}
use Rattle.std.specs.Prelude.{◌⊎◌, Option, Some, None, if◌then◌else◌, is_some, nat_lt}
use Rattle.vm_base.specs.declared.ids.Lock.{Lock}
use Rattle.vm_base.specs.declared.ids.ObjectId.{ObjectId}
use Rattle.vm_base.specs.declared.ids.PageNo.{PageNo}
use Rattle.vm_model.specs.declared.message.Message.{Message}
use Rattle.vm_model.specs.declared.message.Message.TheVariants as message
use Rattle.vm_objects.specs.Objects.{object_at}
use Rattle.vm_objects.specs.declared.row.ObjectRow.{ObjectRow}
use Rattle.vm_parts.specs.Changes.{asked_row, unlocked}
use Rattle.vm_parts.specs.Fits.{Fit, pages_of_row}
use Rattle.vm_parts.specs.declared.parts.HostParts.{HostParts}
use Rattle.vm_resident.specs.Resident.{row_at}
use Rattle.vm_resident.specs.declared.page_row.PageRow.{PageRow}
use Rattle.vm_parts.specs.Locks.{lock_numbered}
use Rattle.vm_supply.specs.Answers.{AnswerOutcome, Discarded, Failed, Supplied, outcome_of, outcome_on, unavailable_outcome, where_asked}
use Rattle.vm_supply.specs.States.{locked_state, page_state, row_state, supply_kind}
use Rattle.vm_tables.specs.Messages.{act_at, if_asked}
use Rattle.vm_tables.specs.declared.acts.Act.{Act}
use Rattle.vm_tables.specs.declared.acts.Act.TheVariants as act
use Rattle.vm_tables.specs.declared.acts.MessageKind.{MessageKind}
use Rattle.vm_tables.specs.declared.acts.MessageKind.TheVariants as kind
use Rattle.vm_tables.specs.declared.acts.PageState.{PageState}
use Rattle.vm_tables.specs.declared.acts.PageState.TheVariants as state

locked_here : (lock : Lock) → locked_state lock ≡ state.Asked → ⊥
locked_here lock is = grind arith

row_asked : (row : Option PageRow) → row_state row ≡ state.Asked → is_some (asked_row row) ≡ true
row_asked None is = grind arith
row_asked (Some row) is = grind (arith, locked_here)

asked_row_is : (row : Option PageRow) → is_some (asked_row row) ≡ true → row_state row ≡ state.Asked
asked_row_is None is = grind arith
asked_row_is (Some row) is = grind arith

asked_counts : (known : ObjectRow) (control page : ℕ) (row : Option PageRow) → page_state known control page row ≡ state.Asked
    → (known.live && known.control == control ≡ true) × (is_some (asked_row row) ≡ true)
asked_counts known control page row is = grind (arith, row_asked)

counts_asked : (known : ObjectRow) (control page : ℕ) (row : Option PageRow) → page < known.pages → known.live && known.control == control ≡ true
    → is_some (asked_row row) ≡ true → page_state known control page row ≡ state.Asked
counts_asked known control page row inside live asked =
    let short : nat_lt page known.pages ≡ true = grind (arith, nat_tests) in rw (live, short) (asked_row_is row asked)

marks_unlocked : (read write : Bool) (s : PageState) → act_at (supply_kind (record { read = read; write = write })) s ≡ act.PutUnlocked
    → record { read = read; write = write } ≡ unlocked
marks_unlocked false false s is = refl
marks_unlocked false true state.Asked is = grind arith
marks_unlocked true write state.Asked is = grind arith
marks_unlocked read write s is = grind arith

-- a page comes unlocked where the supply's lock prohibits nothing
put_unlocked : (lock : Lock) (s : PageState) → act_at (supply_kind lock) s ≡ act.PutUnlocked → lock ≡ unlocked
put_unlocked lock s is = marks_unlocked lock.read lock.write s is

marks_asked : (read write : Bool) (s : PageState) → act_at (supply_kind (record { read = read; write = write })) s ≢ act.Discard → s ≡ state.Asked
marks_asked false false state.Asked counts = refl
marks_asked false true state.Asked counts = refl
marks_asked true write state.Asked counts = refl
marks_asked read write s counts = absurd (counts refl)

marks_put : (read write : Bool) → (act_at (supply_kind (record { read = read; write = write })) state.Asked ≡ act.PutUnlocked)
    ⊎ (act_at (supply_kind (record { read = read; write = write })) state.Asked ≡ act.PutLocked)
marks_put false false = inl refl
marks_put false true = inr refl
marks_put true write = inr refl

-- where the host knows the object, and the state of the page of an answer is this
pub record Looked (parts : HostParts) (object : ObjectId) (control : ℕ) (page : PageNo) (known : ObjectRow) (s : PageState) : Type 0 where
  pub found : object_at parts.objects object.0 ≡ Some known
  pub state : s ≡ page_state known control page.0 (row_at parts.resident object.0 page.0)

pub looked : (parts : HostParts) (object : ObjectId) (control : ℕ) (page : PageNo) (known : ObjectRow) (s : PageState) (found : Option ObjectRow)
    (row : Option PageRow)
    → found ≡ object_at parts.objects object.0 → found ≡ Some known → row ≡ row_at parts.resident object.0 page.0 → s ≡ page_state known control page.0 row
    → Looked parts object control page known s
looked parts object control page known s found row at is there now =
    record { found = sym at ∙ is; state = now ∙ ap (λ r. page_state known control page.0 r) there }

-- what an answer comes to that counts where its page is asked
asked_outcome : (parts : HostParts) (object : ObjectId) (control : ℕ) (page : PageNo) (known : ObjectRow) (s : PageState) (outcome : AnswerOutcome)
    → Looked parts object control page known s → s ≡ state.Asked
    → (if known.live && known.control == control then where_asked (row_at parts.resident object.0 page.0) outcome else Discarded) ≡ outcome
asked_outcome parts object control page known s outcome at is =
    let both = asked_counts known control page.0 (row_at parts.resident object.0 page.0) (sym at.state ∙ is) in rw (both.0, both.1) refl

row_inside : (parts : HostParts) (object : ObjectId) (page : PageNo) (known : ObjectRow) (row : Option PageRow) → Fit parts
    → object_at parts.objects object.0 ≡ Some known → row_at parts.resident object.0 page.0 ≡ row → is_some (asked_row row) ≡ true → page.0 < known.pages
row_inside parts object page known None fit found is asked = grind arith
row_inside parts object page known (Some row) fit found is asked = subst (λ o. page.0 < pages_of_row o) found (fit.inside object.0 page.0 row is)

inside_of : (parts : HostParts) (object : ObjectId) (page : PageNo) (known : ObjectRow) → Fit parts → object_at parts.objects object.0 ≡ Some known
    → is_some (asked_row (row_at parts.resident object.0 page.0)) ≡ true → page.0 < known.pages
inside_of parts object page known fit found asked =
    row_inside parts object page known (row_at parts.resident object.0 page.0) fit found refl asked

-- and where it isn't
other_outcome : (parts : HostParts) (object : ObjectId) (control : ℕ) (page : PageNo) (known : ObjectRow) (s : PageState) (outcome : AnswerOutcome) → Fit parts
    → Looked parts object control page known s → s ≢ state.Asked
    → (if known.live && known.control == control then where_asked (row_at parts.resident object.0 page.0) outcome else Discarded) ≡ Discarded
other_outcome parts object control page known s outcome fit at apart =
    ⊎_elim
    (λ (live : known.live && known.control == control ≡ true).
    ⊎_elim
    (λ (asked : is_some (asked_row (row_at parts.resident object.0 page.0)) ≡ true). absurd
    (apart (at.state ∙ counts_asked known control page.0 (row_at parts.resident object.0 page.0) (inside_of parts object page known fit at.found asked) live
    asked)))
    (λ (asleep : is_some (asked_row (row_at parts.resident object.0 page.0)) ≡ false). rw (live, asleep) refl)
    (cases_Bool (is_some (asked_row (row_at parts.resident object.0 page.0)))))
    (λ (dead : known.live && known.control == control ≡ false). rw dead refl)
    (cases_Bool (known.live && known.control == control))

supplied : (parts : HostParts) (object : ObjectId) (control : ℕ) (page : PageNo) (known : ObjectRow) (s : PageState) (lock : ℕ) (precious : Bool)
    (bytes : List ℕ) (m : Message)
    → Looked parts object control page known s → m ≡ message.Supply page lock precious bytes → s ≡ state.Asked
    → outcome_on parts object control m ≡ Supplied page lock precious bytes
supplied parts object control page known s lock precious bytes m at is asked =
    ap (λ z. outcome_on parts object control z) is ∙ ap (λ o. outcome_of o control (row_at parts.resident object.0) (message.Supply page lock precious bytes))
    at.found ∙ asked_outcome parts object control page known s (Supplied page lock precious bytes) at asked

-- a supply that prohibits nothing comes to a page that comes unlocked
pub unlocked_supply : (parts : HostParts) (object : ObjectId) (control : ℕ) (page : PageNo) (known : ObjectRow) (s : PageState) (lock : ℕ) (precious : Bool)
    (bytes : List ℕ) (m : Message) (l : Lock) (k : MessageKind) (a : Act)
    → Looked parts object control page known s → m ≡ message.Supply page lock precious bytes → l ≡ lock_numbered lock → k ≡ supply_kind l → a ≡ act_at k s
    → a ≡ act.PutUnlocked
    → (outcome_on parts object control m ≡ Supplied page lock precious bytes) × (unlocked ≡ lock_numbered lock)
unlocked_supply parts object control page known s lock precious bytes m l k a at is locks kind_is act_is puts =
    let counts : act_at (supply_kind l) s ≡ act.PutUnlocked = ap (λ z. act_at z s) (sym kind_is) ∙ sym act_is ∙ puts in
    let asked : s ≡ state.Asked = marks_asked l.read l.write s (λ (none : act_at (supply_kind l) s ≡ act.Discard). grind arith) in
    (supplied parts object control page known s lock precious bytes m at is asked, sym (put_unlocked l s counts) ∙ locks)

-- a supply that prohibits something comes to a page that comes locked
pub locked_supply : (parts : HostParts) (object : ObjectId) (control : ℕ) (page : PageNo) (known : ObjectRow) (s : PageState) (lock : ℕ) (precious : Bool)
    (bytes : List ℕ) (m : Message) (l : Lock) (k : MessageKind) (a : Act)
    → Looked parts object control page known s → m ≡ message.Supply page lock precious bytes → k ≡ supply_kind l → a ≡ act_at k s → a ≡ act.PutLocked
    → outcome_on parts object control m ≡ Supplied page lock precious bytes
locked_supply parts object control page known s lock precious bytes m l k a at is kind_is act_is puts =
    let counts : act_at (supply_kind l) s ≡ act.PutLocked = ap (λ z. act_at z s) (sym kind_is) ∙ sym act_is ∙ puts in
    let asked : s ≡ state.Asked = marks_asked l.read l.write s (λ (none : act_at (supply_kind l) s ≡ act.Discard). grind arith) in
    supplied parts object control page known s lock precious bytes m at is asked

-- a supply of a page that isn't asked comes to nothing
pub other_supply : (parts : HostParts) (object : ObjectId) (control : ℕ) (page : PageNo) (known : ObjectRow) (s : PageState) (lock : ℕ) (precious : Bool)
    (bytes : List ℕ) (m : Message) (l : Lock) (k : MessageKind) (a : Act)
    → Fit parts → Looked parts object control page known s → m ≡ message.Supply page lock precious bytes → k ≡ supply_kind l → a ≡ act_at k s
    → a ≢ act.PutUnlocked → a ≢ act.PutLocked
    → outcome_on parts object control m ≡ Discarded
other_supply parts object control page known s lock precious bytes m l k a fit at is kind_is act_is not_unlocked not_locked =
    let acts : a ≡ act_at (supply_kind l) s = act_is ∙ ap (λ z. act_at z s) kind_is in
    let apart : s ≢ state.Asked = (λ (asked : s ≡ state.Asked).
    ⊎_elim
    (λ (one : act_at (supply_kind l) state.Asked ≡ act.PutUnlocked). not_unlocked (acts ∙ ap (λ z. act_at (supply_kind l) z) asked ∙ one))
    (λ (one : act_at (supply_kind l) state.Asked ≡ act.PutLocked). not_locked (acts ∙ ap (λ z. act_at (supply_kind l) z) asked ∙ one))
    (marks_put l.read l.write)) in
    ap (λ z. outcome_on parts object control z) is ∙ ap (λ o. outcome_of o control (row_at parts.resident object.0) (message.Supply page lock precious bytes))
    at.found ∙ other_outcome parts object control page known s (Supplied page lock precious bytes) fit at apart

if_asked_is : (counted a : Act) (s : PageState) → a ≡ if_asked counted s → a ≢ act.Discard → s ≡ state.Asked
if_asked_is counted a state.Asked is apart = refl
if_asked_is counted a s is apart = absurd (apart is)

-- a page that can't be given comes to an error
pub failed : (parts : HostParts) (object : ObjectId) (control : ℕ) (page : PageNo) (known : ObjectRow) (s : PageState) (reason : ℕ) (m : Message) (a : Act)
    → Looked parts object control page known s → m ≡ message.Error page reason → a ≡ act_at kind.Error s → a ≡ act.Fail
    → outcome_on parts object control m ≡ Failed page
failed parts object control page known s reason m a at is act_is fails =
    let asked : s ≡ state.Asked = if_asked_is act.Fail a s act_is (λ none. grind arith) in
    ap (λ z. outcome_on parts object control z) is ∙ ap (λ o. outcome_of o control (row_at parts.resident object.0) (message.Error page reason)) at.found
    ∙ asked_outcome parts object control page known s (Failed page) at asked

-- a page that the pager doesn't have comes to what the object's kind says
pub unavailable : (parts : HostParts) (object : ObjectId) (control : ℕ) (page : PageNo) (known : ObjectRow) (s : PageState) (m : Message) (a : Act)
    → Looked parts object control page known s → m ≡ message.Unavailable page → a ≡ act_at kind.Unavailable s → a ≡ act.NoteAbsent
    → outcome_on parts object control m ≡ unavailable_outcome known.kind page
unavailable parts object control page known s m a at is act_is notes =
    let asked : s ≡ state.Asked = if_asked_is act.NoteAbsent a s act_is (λ none. grind arith) in
    ap (λ z. outcome_on parts object control z) is ∙ ap (λ o. outcome_of o control (row_at parts.resident object.0) (message.Unavailable page)) at.found
    ∙ asked_outcome parts object control page known s (unavailable_outcome known.kind page) at asked
