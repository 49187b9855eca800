-- What a step owes when it ends.
use Rattle.std.specs.Prelude.{ℕ, ◌+◌, ◌<◌, ◌≤◌, ◌≡◌, List, true, false, not, Bool, Some, None}
use Rattle.vm_model.specs.declared.event.Event.{Event}
use Rattle.vm_model.specs.declared.message.Message.TheVariants as message
use Rattle.vm_model.specs.declared.script.Header.{Header}
use Rattle.vm_model.specs.Local.{Local}
use Rattle.vm_model.specs.Named.{named}
use Rattle.vm_legal.specs.Cached.{Attributes, attributes_taken}
use Rattle.vm_legal.specs.Destroyed.{HasDestroyed, destroy_taken}
use Rattle.vm_legal.specs.Licences.{LockRequest, gives_back, is_paged, lock_taken, owed, up, zeroes}
use Rattle.vm_legal.specs.Outside.{is_wild}
use Rattle.vm_legal.specs.Pagers.{LacksSlot}
use Rattle.vm_legal.specs.Steps.{absence_taken, answers, before_step, changes, completes, drops_page, error_taken, fails_access, lacks_slot, readies}
use Rattle.vm_legal.specs.Steps.{returns_page, since, taken_letter}
use Rattle.vm_legal.specs.Walks.{page_on}

-- what the host had of a page when the step took a lock_request
abbrev pub was_on : Header → LockRequest → ℕ → List Event → Local
was_on header request page past = page_on header request.host request.object page (before_step past)

-- a page that the lock_request gives back was returned since, with a copy kept but by a flush; a flush drops any other
pub record HasObeyed (header : Header) (request : LockRequest) (page : ℕ) (past : List Event) : Type 0 where
  pub back : gives_back request.returns (was_on header request page past).dirty (was_on header request page past).precious ≡ true
      → since (returns_page request.host request.object page (not request.flush)) past ≡ true
  pub dropped : gives_back request.returns (was_on header request page past).dirty (was_on header request page past).precious ≡ false
      → request.flush ≡ true → since (drops_page request.host request.object page) past ≡ true

-- each page of its range that was here when a lock_request was taken has been given back, or has gone, as its kind says, and the reply was sent
pub record HasLocked (header : Header) (request : LockRequest) (past : List Event) : Type 0 where
  pub pages : (page : ℕ) → request.page ≤ page → page < request.page + request.count → (was_on header request page past).here ≡ true
      → HasObeyed header request page past
  pub reply : request.reply ≡ true → since (completes request.host request.object) past ≡ true

pub record IsPaid (header : Header) (past : List Event) : Type 0 where
  -- an object's first control is never made without the return behind it, and no slow copy ends without its entry
  pub none_owed : owed past ≡ None
  -- a pager that was told of an object is ready; a wild object has none
  pub init : (host object control size : ℕ) → is_wild header object ≡ false
      → taken_letter past ≡ Some (record { channel = up host object; message = message.Init control size }) → since (readies object) past ≡ true
  pub create : (host object control size : ℕ) → is_wild header object ≡ false
      → taken_letter past ≡ Some (record { channel = up host object; message = message.Create control size }) → since (readies object) past ≡ true
  -- a request is answered; the server of shared memory may do so later
  pub request : (host object control page access : ℕ) → is_paged header object ≡ true
      → taken_letter past ≡ Some (record { channel = up host object; message = message.Request control (record { 0 = page }) access })
      → since (answers object page) past ≡ true
  -- an error ends some access
  pub error : (host object page : ℕ) → error_taken header past ≡ Some (record { host = host; object = object; page = page })
      → since (fails_access object page) past ≡ true
  -- a lock_request is obeyed
  pub lock : (request : LockRequest) → lock_taken past ≡ Some request → HasLocked header request past
  -- a change of attributes that wants a reply has it
  pub change : (request : Attributes) → attributes_taken past ≡ Some request → request.reply ≡ true → since (changes request.host request.object) past ≡ true
  -- the end of a wild object by its pager is done
  pub destroy : (host object : ℕ) → is_wild header object ≡ true → destroy_taken past ≡ Some (record { host = host; object = object })
      → HasDestroyed header host object past
  -- where a pager has no page of a declared object, zeros come
  pub absence : (host object page : ℕ) → object < named header → absence_taken header past ≡ Some (record { host = host; object = object; page = page })
      → since (zeroes object page) past ≡ true
  -- a returned page for which there is no slot is told of
  pub slot : (host object control page : ℕ) (dirty keep : Bool) (bytes : List ℕ) → named header ≤ object
      → taken_letter past ≡ Some (record { channel = up host object; message = message.Return control (record { 0 = page }) dirty keep bytes })
      → LacksSlot header host object page (before_step past) → since (lacks_slot object page) past ≡ true
