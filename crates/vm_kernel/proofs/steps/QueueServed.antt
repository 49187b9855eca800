-- Accesses are run again, and the frame queue is served.
use Rattle.vm_kernel.proofs.Common.{Attempts, Bool, Command, Err, Event, HasQueue, Header, Ids, LegalEvents, List, Ok, OnOk, Outside, Parts, PromptAt, Rests}
use Rattle.vm_kernel.proofs.Common.{Option, PageKey, Result, Served, Waiting, Works, ap, arith, claimed, count_again, frame_count, is_frame, queued, refl}
use Rattle.vm_kernel.proofs.Common.{some_is, subst, sym, true, ℕ, ◌*◌, ◌++◌, ◌+◌, ◌<◌, ◌∙◌, ◌≡◌, ◌≤◌}
use Rattle.std.proofs.Math.Nat.{add-mul}
use Rattle.vm_kernel.specs.Serving.{pages_to_copy}
use Rattle.vm_waits.specs.Waits.{one}
use Rattle.vm_supply.specs.declared.woken.Woken.TheVariants as woken
use Rattle.vm_kernel.specs.declared.attempt.Attempt.{Attempt}
use Rattle.vm_kernel.specs.declared.attempt.Attempt.TheVariants as attempt

-- what follows from two facts, where a call was Ok
pub both_ok : {A B : Type 0} (r : Result A B) (P Q R : Type 0) → (P → Q → R) → OnOk r P → OnOk r Q → OnOk r R
both_ok (Ok x) P Q R f p q = f p q
both_ok (Err e) P Q R f p q = tt

-- what follows from three
pub three_ok : {A B : Type 0} (r : Result A B) (P Q R S : Type 0) → (P → Q → R → S) → OnOk r P → OnOk r Q → OnOk r R → OnOk r S
three_ok (Ok x) P Q R S f p q s = f p q s
three_ok (Err e) P Q R S f p q s = tt

-- the queue was served
pub served_ok : {A B : Type 0} (r : Result A B) (header : Header) (h : ℕ) (outside : Outside) (doing : Command) (past old : List Event) (k : Parts) (ids : Ids)
    (new : List Event)
    → OnOk r (Rests header h k ids (new ++ past)) → OnOk r (LegalEvents header h outside doing past old new) → OnOk r (HasQueue header h k (new ++ past))
    → OnOk r (PromptAt header h (new ++ past)) → OnOk r (Served header h outside doing past old k ids new)
served_ok (Ok x) header h outside doing past old k ids new rests goes queue prompt = record { rests = rests; goes = goes; queue = queue; prompt = prompt }
served_ok (Err e) header h outside doing past old k ids new rests goes queue prompt = tt

-- at the end of a step
pub works_at_rest : {header : Header} {h : ℕ} {k : Parts} {ids : Ids} {past : List Event} → Rests header h k ids past → Works header h k ids woken.Nobody past
works_at_rest rests =
    record { matches = rests.matches; used = rests.used; referred = rests.referred; thin = rests.thin; waits = rests.waits; order = rests.order }

-- nothing is left that is to be run again
pub rests_of : (header : Header) (h : ℕ) (k : Parts) (ids : Ids) (past : List Event) → Works header h k ids woken.Nobody past → count_again k.waits.rows ≡ 0
    → Rests header h k ids past
rests_of header h k ids past works idle =
    record {
      matches = works.matches;
      used = works.used;
      referred = works.referred;
      thin = works.thin;
      waits = works.waits;
      order = works.order;
      idle = idle;
    }

-- running an access leaves no other to be run again
pub attempts_idle : (header : Header) (h : ℕ) (was : Waiting) (may_claim : Bool) (answer : Attempt) (old new : Parts) (before after : List Event)
    → Attempts header h was may_claim answer old new before after → count_again old.waits.rows ≡ 0 → count_again new.waits.rows ≡ 0
attempts_idle header h was may_claim (attempt.Wants source) old new before after joins idle = let step = joins.again in omega arith
attempts_idle header h was may_claim attempt.Ran old new before after ran idle = let step = ran.again in omega arith

less_left : (n m f c d p q : ℕ) → n + 1 ≡ m → d ≤ f → q ≤ p → n * (f + 1) + d + q < m * (f + 1) + c + p
less_left n m f c d p q same fits few =
    let one : m * (f + 1) ≡ n * (f + 1) + 1 * (f + 1) = ap (λ z. z * (f + 1)) (sym same) ∙ add-mul n 1 (f + 1) in
    omega (arith, one)

-- one that ended, or waits for something else than a frame, leaves less to be served
pub served_less : (header : Header) (h : ℕ) (was : Waiting) (answer : Attempt) (old new : Parts) (ids ids2 : Ids) (before after : List Event)
    → Rests header h old ids before → Works header h new ids2 woken.Nobody after → is_frame was.on ≡ true
    → Attempts header h was true answer old new before after → ((source : Option PageKey) → answer ≡ attempt.Wants source → ⊥)
    → queued new.waits.rows * (frame_count new.memory.frames + 1) + claimed new.memory.frames + pages_to_copy new.waits.rows
    < queued old.waits.rows * (frame_count old.memory.frames + 1) + claimed old.memory.frames + pages_to_copy old.waits.rows
served_less header h was (attempt.Wants source) old new ids ids2 before after rests works queues wants other = absurd (other source refl)
served_less header h was attempt.Ran old new ids ids2 before after rests works queues ran other =
    let now = works.matches.core.pages.counted in
    let same : frame_count old.memory.frames ≡ frame_count new.memory.frames = some_is (frame_count old.memory.frames) (frame_count new.memory.frames)
    (sym rests.matches.core.pages.counted.total ∙ now.total) in
    let fits = now.fits in
    let left : queued new.waits.rows + 1 ≡ queued old.waits.rows = ap (λ (b : Bool). queued new.waits.rows + one b) (sym queues) ∙ ran.queued in
    subst (λ (z : ℕ). queued new.waits.rows * (frame_count new.memory.frames + 1) + claimed new.memory.frames + pages_to_copy new.waits.rows
    < queued old.waits.rows * (z + 1) + claimed old.memory.frames + pages_to_copy old.waits.rows) (sym same)
    (less_left (queued new.waits.rows) (queued old.waits.rows) (frame_count new.memory.frames) (claimed old.memory.frames) (claimed new.memory.frames)
    (pages_to_copy old.waits.rows) (pages_to_copy new.waits.rows) left (omega arith) ran.left)
