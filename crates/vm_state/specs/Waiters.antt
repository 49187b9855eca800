-- The accesses that wait on a host, as its kernel keeps them, and what each waits for.
use Rattle.std.specs.Prelude.{ℕ, zero, suc, ◌*◌, ◌≤◌, ◌≡◌, ◌||◌, ◌⊎◌, not, Bool, true, false, List, [], ◌∷◌, Option, Some, None, is_some}
use Rattle.vm_base.specs.declared.ids.PageKey.{PageKey}
use Rattle.vm_maps.specs.Maps.{Mapped, entries_in}
use Rattle.vm_model.specs.Waiting.{Access, Copying, Loading, Storing}
use Rattle.vm_objects.specs.Objects.{ObjectTable, object_at}
use Rattle.vm_objects.specs.declared.row.ObjectRow.{ObjectRow}
use Rattle.vm_objects.specs.declared.row.PagerState.TheVariants as state
use Rattle.vm_resident.specs.Resident.{ResidentTable, page_key, row_at}
use Rattle.vm_resident.specs.declared.page_row.PageRow.{PageRow}
use Rattle.vm_copies.specs.Copies.{CopyTable}
use Rattle.vm_fault.specs.Pushes.{owed_at}
use Rattle.vm_fault.specs.Walks.{IsAt, IsUnder, is_storing, keeps_out}
use Rattle.vm_shadow.specs.Chains.{ChainTable}
use Rattle.vm_supply.specs.declared.woken.Woken.{Woken}
use Rattle.vm_supply.specs.declared.woken.Woken.TheVariants as woken
use Rattle.vm_waits.specs.Waits.{entry, woken_page, woken_ready}
use Rattle.vm_waits.specs.Wants.{IsSizedWant, address_in, need_in}
use Rattle.vm_waits.specs.declared.waiting.Destination.{Destination}
use Rattle.vm_waits.specs.declared.waiting.On.{On}
use Rattle.vm_waits.specs.declared.waiting.On.TheVariants as on
use Rattle.vm_waits.specs.declared.waiting.Waiting.{Waiting}
use Rattle.vm_waits.specs.declared.waiting.Want.{Want}
use Rattle.vm_waits.specs.declared.waiting.Want.TheVariants as want
use Rattle.vm_maps.specs.Judge.{IsAllowed}
pub use Rattle.vm_state.specs.Passed.{IsPlaceOf, LeadsTo}
use Rattle.vm_state.specs.Passed.{Passed, Unmet}
use Rattle.vm_state.specs.Pagers.{ready_in}

-- where a slow copy's pages are to be mapped
abbrev pub copies_to : Option Destination → ℕ
copies_to None = 0
copies_to (Some destination) = destination.address

-- the access as the history has it: pages are of this size, and a slow copy goes to this address
abbrev pub access_in : ℕ → ℕ → Want → Access
access_in size to (want.Load address bytes) = Loading address bytes
access_in size to (want.Store address bytes value) = Storing address bytes value
access_in size to (want.CopyTo address pages target next) = Copying address (pages * size) to

abbrev pub waiting_in : ℕ → Option Waiting → Option Access
waiting_in size None = None
waiting_in size (Some w) = Some (access_in size (copies_to w.destination) w.want)

-- the page is asked: it has a row and isn't here
pub record IsAsked (resident : ResidentTable) (o p : ℕ) : Type 0 where
  pub row : PageRow
  pub found : row_at resident o p ≡ Some row
  pub away : row.here ≡ false

-- an unlock of the page is outstanding, whose lock keeps the access out
pub record IsLockedFor (resident : ResidentTable) (what : Want) (o p : ℕ) : Type 0 where
  pub row : PageRow
  pub found : row_at resident o p ≡ Some row
  pub here : row.here ≡ true
  pub locked : keeps_out row.lock (is_storing what) ≡ true
  pub sent : row.unlock_sent ≡ true

-- the object's pager was told of it, and isn't ready
pub record IsPagerTold (objects : ObjectTable) (o : ℕ) : Type 0 where
  pub row : ObjectRow
  pub found : object_at objects o ≡ Some row
  pub sent : row.state ≡ state.Sent

-- a store owes the page of its top place to a place that is asked
pub record WaitsToPush (maps : Mapped) (chains : ChainTable) (copies : CopyTable) (resident : ResidentTable) (task : ℕ) (what : Want) (key : PageKey) : Type 0
  where
    pub stores : is_storing what ≡ true
    pub top : PageKey
    pub at : IsAt maps chains task what top
    pub owed : owed_at copies top ≡ Some key
    pub asked : IsAsked resident key.object.0 key.page.0

-- what holds while an access waits for this
abbrev pub Reason : Mapped → ChainTable → CopyTable → ResidentTable → ObjectTable → ℕ → Want → On → Type 0
Reason maps chains copies resident objects task what on.Again = Unit {0}
Reason maps chains copies resident objects task what (on.Ready object) =
    (key : PageKey) × IsPlaceOf maps chains task what key × (key.object ≡ object) × IsPagerTold objects object.0
Reason maps chains copies resident objects task what (on.Page key) =
    IsPlaceOf maps chains task what key × (IsAsked resident key.object.0 key.page.0 ⊎ IsLockedFor resident what key.object.0 key.page.0)
Reason maps chains copies resident objects task what (on.Push key) = WaitsToPush maps chains copies resident task what key
Reason maps chains copies resident objects task what on.Frame = Unit {0}

-- the accesses of the rows began one behind the other, from an event on
abbrev pub BeganInOrder : (ℕ → ℕ) → ℕ → List Waiting → Type 0
BeganInOrder begun from [] = Unit {0}
BeganInOrder begun from (w ∷ ws) = (from ≤ begun w.task.0) × BeganInOrder begun (suc (begun w.task.0)) ws

-- somebody's word on the page is outstanding: it is asked, or an unlock of it
abbrev pub is_awaited : PageRow → Bool
is_awaited row = not row.here || row.unlock_sent

-- a row of the table of waiting accesses waits for the page
pub record Asker (rows : List Waiting) (o p : ℕ) : Type 0 where
  pub task : ℕ
  pub row : Waiting
  pub is : entry rows task ≡ Some row
  pub waits : row.on ≡ on.Page (page_key o p)

-- whom an answer wakes
abbrev pub is_woken : Woken → On → Bool
is_woken woken.Nobody reason = false
is_woken (woken.ReadyOf object) reason = woken_ready object.0 reason
is_woken (woken.Page key) reason = woken_page key reason
is_woken (woken.Fails key) reason = woken_page key reason

-- The accesses of tasks here that wait in the history wait here, each with an entry that allows it, within a page; each has a reason, but those that are to be
-- woken may have lost theirs, and the others have passed over places where nothing has come since; and somebody waits for each page that is asked, whose pager
-- is ready, and for each unlock that is outstanding.
pub record HasWaiters (maps : Mapped) (chains : ChainTable) (copies : CopyTable) (resident : ResidentTable) (objects : ObjectTable) (rows : List Waiting)
    (who : On → Bool)
    (waiting_at : ℕ → Option Access) (stays : PageKey → Type 0) (unmet : PageKey → Unmet) : Type 0 where
  pub is : (t : ℕ) → is_some (entries_in t maps) ≡ true → waiting_at t ≡ waiting_in maps.size (entry rows t)
  pub allowed : (t : ℕ) (w : Waiting) → entry rows t ≡ Some w → IsAllowed maps t (address_in maps.size w.want) (need_in w.want)
  pub sized : (t : ℕ) (w : Waiting) → entry rows t ≡ Some w → IsSizedWant maps.size w.want
  pub reasons : (t : ℕ) (w : Waiting) → entry rows t ≡ Some w → who w.on ≡ false → Reason maps chains copies resident objects t w.want w.on
  pub passed : (t : ℕ) (w : Waiting) → entry rows t ≡ Some w → who w.on ≡ false → Passed stays unmet maps chains t w.want w.on
  pub aims : (t : ℕ) (w : Waiting) (key : PageKey) → entry rows t ≡ Some w → w.on ≡ on.Page key → IsPlaceOf maps chains t w.want key
  pub askers : (o p : ℕ) (row : PageRow) → row_at resident o p ≡ Some row → is_awaited row ≡ true → Asker rows o p
  pub ready : (o p : ℕ) (row : PageRow) → row_at resident o p ≡ Some row → row.here ≡ false → ready_in (object_at objects o) ≡ true
