-- Stores that wait to push their pages: what they wait for is so still while other pages come and go.
use Rattle.std.proofs.Common.{Bool, List, None, Option, Some, ap, false, sym, true, ℕ, ◌∙◌, ◌≡◌}
use Rattle.vm_base.specs.declared.ids.ObjectId.{ObjectId}
use Rattle.vm_base.specs.declared.ids.PageKey.{PageKey}
use Rattle.vm_copies.specs.Copies.{CopyTable, newest_at}
use Rattle.vm_fault.specs.Faults.{AwaitsPush}
use Rattle.vm_fault.specs.Pushes.{owed_at, owed_of}
use Rattle.vm_fault.specs.Walks.{IsAt}
use Rattle.vm_maps.specs.Maps.{Mapped}
use Rattle.vm_parts.specs.declared.parts.HostParts.{HostParts}
use Rattle.vm_resident.specs.Resident.{ResidentTable, page_key, row_at}
use Rattle.vm_shadow.specs.Chains.{ChainTable}
use Rattle.vm_state.specs.Waiters.{IsAsked, WaitsToPush}
use Rattle.vm_waits.specs.Waits.{entry}
use Rattle.vm_waits.specs.declared.waiting.On.{On}
use Rattle.vm_waits.specs.declared.waiting.On.TheVariants as on
use Rattle.vm_waits.specs.declared.waiting.Waiting.{Waiting}
use Rattle.vm_waits.specs.declared.waiting.Want.{Want}

-- of those that aren't to be woken nobody waits to push this page
pub record PushesNone (copies : CopyTable) (rows : List Waiting) (who : On → Bool) (o p : ℕ) : Type 0 where
  pub at : (t : ℕ) (w : Waiting) (key : PageKey) → entry rows t ≡ Some w → who w.on ≡ false → w.on ≡ on.Push key → owed_at copies (page_key o p) ≡ Some key → ⊥

-- a page of which there is no copy is owed nowhere
pub owes_nothing : (copies : CopyTable) (top key : PageKey) → newest_at copies top.object.0 ≡ None → owed_at copies top ≡ Some key → ⊥
owes_nothing copies top key none owed = let bad : None ≡ Some key = sym (ap (λ (z : Option ObjectId). owed_of copies top.page z) none) ∙ owed in cc

-- so nobody pushes it
pub pushes_none : (copies : CopyTable) (rows : List Waiting) (who : On → Bool) (o p : ℕ) → newest_at copies o ≡ None → PushesNone copies rows who o p
pushes_none copies rows who o p none = record { at = λ t w key is asleep waits owed. owes_nothing copies (page_key o p) key none owed }

-- who is to be woken pushes nothing
pub pushes_awake : (copies : CopyTable) (rows : List Waiting) (who : On → Bool) (o p : ℕ) → ((key : PageKey) → owed_at copies (page_key o p) ≡ Some key
    → who (on.Push key) ≡ true) → PushesNone copies rows who o p
pushes_awake copies rows who o p woken =
    record { at = λ t w key is asleep waits owed. let bad : true ≡ false = sym (woken key owed) ∙ (ap who (sym waits) ∙ asleep) in cc }

pub asked_same : (rs rs2 : ResidentTable) (o p : ℕ) → row_at rs2 o p ≡ row_at rs o p → IsAsked rs o p → IsAsked rs2 o p
asked_same rs rs2 o p same asked = record { row = asked.row; found = same ∙ asked.found; away = asked.away }

-- a store waits to push its page still, where that has its top place still, and is owed to the same place, and that is asked
pub push_stays : {maps maps2 : Mapped} {cs cs2 : ChainTable} {copies copies2 : CopyTable} {rs rs2 : ResidentTable} {task : ℕ} {what : Want} {key : PageKey}
    → (push : WaitsToPush maps cs copies rs task what key) → IsAt maps2 cs2 task what push.top → owed_at copies2 push.top ≡ Some key
    → IsAsked rs2 key.object.0 key.page.0 → WaitsToPush maps2 cs2 copies2 rs2 task what key
push_stays push at owed asked = record { stores = push.stores; top = push.top; at = at; owed = owed; asked = asked }

-- so it is where all pages are those that they were
pub push_same : {maps maps2 : Mapped} {cs cs2 : ChainTable} {copies copies2 : CopyTable} {rs : ResidentTable} {task : ℕ} {what : Want} {key : PageKey}
    → (push : WaitsToPush maps cs copies rs task what key) → IsAt maps2 cs2 task what push.top → owed_at copies2 push.top ≡ Some key
    → WaitsToPush maps2 cs2 copies2 rs task what key
push_same push at owed = push_stays push at owed push.asked

-- where a fault finds that a store is to wait so
pub push_awaited : (maps : Mapped) (chains : ChainTable) (copies : CopyTable) (parts : HostParts) (task : ℕ) (what : Want) (top place : PageKey)
    → IsAt maps chains task what top → AwaitsPush what top place parts chains copies → WaitsToPush maps chains copies parts.resident task what place
push_awaited maps chains copies parts task what top place at waits =
    record {
      stores = waits.stores;
      top = top;
      at = at;
      owed = waits.owed;
      asked = record { row = waits.asked; found = waits.found; away = waits.away };
    }
