-- A lock_request is completed once, and no sooner than its pages are back.
use Rattle.std.proofs.Common.{◌≡◌, ℕ, ◌+◌, ◌<◌, ◌≤◌, ◌||◌, Bool, true, false, List, Option, Some, sym, ap, ◌∙◌}
use Rattle.vm_base.specs.declared.ids.HostId.{HostId}
use Rattle.vm_base.specs.declared.ids.ObjectId.{ObjectId}
use Rattle.vm_base.specs.declared.ids.PageNo.{PageNo}
use Rattle.vm_model.specs.declared.command.Command.{Command}
use Rattle.vm_model.specs.declared.event.Event.{Event}
use Rattle.vm_model.specs.declared.event.Event.TheVariants as event
use Rattle.vm_model.specs.declared.message.Channel.TheVariants.{Up}
use Rattle.vm_model.specs.declared.message.Message.TheVariants as message
use Rattle.vm_model.specs.declared.script.Header.{Header}
use Rattle.vm_legal.specs.Licences.{Caused, LockRequest, gives_back, is_answered_over, lock_taken}
use Rattle.vm_legal.specs.Outside.{Outside}
use Rattle.vm_legal.specs.Steps.{completes, since}
use Rattle.vm_legal.specs.Walks.{page_on}

neither : (a b : Bool) → (a || b) ≡ true → a ≡ false → b ≡ false → ⊥
neither true b one first second = let bad : true ≡ false = first in cc
neither false b one first second = let bad : true ≡ false = sym one ∙ second in cc

same : (a b : LockRequest) → ◌≡◌ {A = Option LockRequest} (Some a) (Some b) → a ≡ b
same a b e = cc

pub once : (header : Header) (outside : Outside) (doing : Command) (host : HostId) (object : ObjectId) (control count : ℕ) (first : PageNo) (past : List Event)
    → since (completes host.0 object.0) past ≡ true
    → Caused header outside doing (event.Sent (Up host object) (message.Completed control first count)) past → ⊥
once header outside doing host object control count first past was c = let bad : true ≡ false = sym was ∙ c.once in cc

pub unasked : (header : Header) (outside : Outside) (doing : Command) (host : HostId) (object : ObjectId) (control count : ℕ) (first : PageNo)
    (past : List Event) (request : LockRequest) → lock_taken past ≡ Some request → request.reply ≡ false
    → Caused header outside doing (event.Sent (Up host object) (message.Completed control first count)) past → ⊥
unasked header outside doing host object control count first past request took silent c =
    let is : request ≡ _ = same request _ (sym took ∙ c.taken) in
    let bad : true ≡ false = sym (ap (λ (r : LockRequest). r.reply) is) ∙ silent in cc

pub done : (header : Header) (outside : Outside) (doing : Command) (host : HostId) (object : ObjectId) (control count page : ℕ) (first : PageNo)
    (past : List Event) (request : LockRequest) → lock_taken past ≡ Some request
    → first.0 ≤ page → page < first.0 + count → (page_on header host.0 object.0 page past).here ≡ true
    → (request.flush || gives_back request.returns (page_on header host.0 object.0 page past).dirty (page_on header host.0 object.0 page past).precious) ≡ true
    → Caused header outside doing (event.Sent (Up host object) (message.Completed control first count)) past → ⊥
done header outside doing host object control count page first past request took from below here wanted c =
    let is : request ≡ _ = same request _ (sym took ∙ c.taken) in
    let left = c.done page from below here in
    neither request.flush (gives_back request.returns (page_on header host.0 object.0 page past).dirty (page_on header host.0 object.0 page past).precious)
    wanted
    (ap (λ (r : LockRequest). r.flush) is ∙ left.0)
    (ap (λ (r : LockRequest). gives_back r.returns (page_on header host.0 object.0 page past).dirty (page_on header host.0 object.0 page past).precious) is
    ∙ left.1)

pub behind : (header : Header) (outside : Outside) (doing : Command) (host : HostId) (object : ObjectId) (control access : ℕ) (page : PageNo)
    (past : List Event) → is_answered_over host.0 object.0 page.0 (lock_taken past) ≡ true
    → since (completes host.0 object.0) past ≡ false → Caused header outside doing (event.Sent (Up host object) (message.Unlock control page access)) past → ⊥
behind header outside doing host object control access page past over not_yet c = let bad : true ≡ false = sym (c.behind over) ∙ not_yet in cc
