-- Whom a page's lock keeps out, by the lock's number in the history.
use Rattle.std.proofs.Common.{Bool, List, Some, ap, false, inl, inr, refl, sym, true, ℕ, ◌&&◌, ◌+◌, ◌==◌, ◌||◌, ◌∙◌, ◌≡◌}
use Rattle.std.specs.Prelude.{if◌then◌else◌, ◌⊎◌}
use Rattle.vm_base.specs.declared.ids.Lock.{Lock}
use Rattle.vm_fault.specs.Walks.{is_storing, keeps_out, writes_at}
use Rattle.vm_legal.specs.Accesses.{names}
use Rattle.vm_legal.specs.Prompt.{AnUnlock, Awaits}
use Rattle.vm_legal.specs.Walks.{page_on}
use Rattle.vm_model.specs.Waiting.{is_store}
use Rattle.vm_model.specs.declared.event.Event.{Event}
use Rattle.vm_model.specs.declared.script.Header.{Header}
use Rattle.vm_parts.specs.Changes.{unlocked}
use Rattle.vm_parts.specs.declared.parts.HostParts.{HostParts}
use Rattle.vm_resident.specs.Resident.{row_at}
use Rattle.vm_resident.specs.declared.page_row.PageRow.{PageRow}
use Rattle.vm_shadow.specs.Chains.{ChainTable}
use Rattle.vm_state.proofs.Shown.{IsShown, awaits_page, shows_row}
use Rattle.vm_state.proofs.Waiting.{IsAwaitedBy}
use Rattle.vm_state.specs.Places.{lock_number}
use Rattle.vm_state.specs.Waiters.{IsLockedFor, access_in}
use Rattle.vm_waits.specs.declared.waiting.Want.{Want}
use Rattle.vm_waits.specs.declared.waiting.Want.TheVariants as want

pub names_kept : (lock : Lock) (writes : Bool) → names (lock_number lock) writes ≡ keeps_out lock writes
names_kept lock writes = by lock.read lock.write writes
  where
    by : (r w writes : Bool) → names ((if r then 1 else 0) + (if w then 2 else 0)) writes ≡ (r || (writes && w))
    by true true true = refl
    by true true false = refl
    by true false true = refl
    by true false false = refl
    by false true true = refl
    by false true false = refl
    by false false true = refl
    by false false false = refl

-- a reader that isn't kept out finds no lock, or one for writers
pub open_number : (lock : Lock) → keeps_out lock false ≡ false → (lock_number lock ≡ 0) ⊎ (lock_number lock ≡ 2)
open_number lock is = by lock.read lock.write is
  where
    by : (r w : Bool) → (r || (false && w)) ≡ false → (((if r then 1 else 0) + (if w then 2 else 0)) ≡ 0) ⊎ (((if r then 1 else 0) + (if w then 2 else 0)) ≡ 2)
    by true w is = absurd (let bad : true ≡ false = is in cc)
    by false true is = inr refl
    by false false is = inl refl

-- a writer finds none
pub free_number : (lock : Lock) → keeps_out lock true ≡ false → lock_number lock ≡ 0
free_number lock is = by lock.read lock.write is
  where
    by : (r w : Bool) → (r || (true && w)) ≡ false → ((if r then 1 else 0) + (if w then 2 else 0)) ≡ 0
    by true w is = absurd (let bad : true ≡ false = is in cc)
    by false true is = absurd (let bad : true ≡ false = is in cc)
    by false false is = refl

-- whom it keeps out at a place of its walk, it keeps out anywhere
pub kept_anywhere : (lock : Lock) (what : Want) (steps : ℕ) → keeps_out lock (writes_at what steps) ≡ true → keeps_out lock (is_storing what) ≡ true
kept_anywhere lock what steps is = by lock.read (is_storing what) (steps == 0) is
  where
    by : (r a b : Bool) → (r || ((a && b) && lock.write)) ≡ true → (r || (a && lock.write)) ≡ true
    by true a b is = refl
    by false true true is = is
    by false true false is = absurd (let bad : false ≡ true = is in cc)
    by false false b is = is

-- where nothing is locked, nobody is kept out
pub plain_open : (lock : Lock) (writes : Bool) → lock ≡ unlocked → keeps_out lock writes ≡ false
plain_open lock true is = ap (λ z. keeps_out z true) is
plain_open lock false is = ap (λ z. keeps_out z false) is

-- so whoever is kept out finds a lock
pub kept_locked : {B : Type 0} (lock : Lock) (writes : Bool) → keeps_out lock writes ≡ true → lock ≡ unlocked → B
kept_locked lock writes is none = absurd (let bad : false ≡ true = sym (plain_open lock writes none) ∙ is in cc)

-- it stores as the history has it
pub storing_is : (size to : ℕ) (what : Want) → is_store (access_in size to what) ≡ is_storing what
storing_is size to (want.Load address n) = refl
storing_is size to (want.Store address n value) = refl
storing_is size to (want.CopyTo address pages target next) = refl

-- it names the access
pub names_at : {header : Header} {h : ℕ} {parts : HostParts} {chains : ChainTable} {past : List Event} → IsShown header h parts chains past
    → (size to o p : ℕ) (what : Want) (row : PageRow) → row_at parts.resident o p ≡ Some row → row.here ≡ true → keeps_out row.lock (is_storing what) ≡ true
    → names (page_on header h o p past).lock (is_store (access_in size to what)) ≡ true
names_at s size to o p what row found here locked =
    ap (λ n. names n (is_store (access_in size to what))) (shows_row s o p row found here).lock
    ∙ (ap (names (lock_number row.lock)) (storing_is size to what) ∙ (names_kept row.lock (is_storing what) ∙ locked))

-- so does that of a page for whose unlock it waits
pub named_at : {header : Header} {h : ℕ} {parts : HostParts} {chains : ChainTable} {past : List Event} → IsShown header h parts chains past
    → (size to o p : ℕ) (what : Want) → IsLockedFor parts.resident what o p → names (page_on header h o p past).lock (is_store (access_in size to what)) ≡ true
named_at s size to o p what locked =
    names_at s size to o p what locked.row locked.found locked.here locked.locked

-- a page that is here with such a lock is one for whose unlock the access waits
pub awaits_word : {header : Header} {h : ℕ} {parts : HostParts} {chains : ChainTable} {past : List Event} → IsShown header h parts chains past
    → (size to o p : ℕ) (what : Want) → IsAwaitedBy parts.resident what o p → Awaits header h (is_store (access_in size to what)) o p past
awaits_word s size to o p what awaits = elim awaits [
  | inl asked ↦ awaits_page s o p asked (is_store (access_in size to what))
  | inr locked ↦
      let shows = shows_row s o p locked.row locked.found locked.here in
      AnUnlock shows.here (named_at s size to o p what locked) (shows.unlocking ∙ locked.sent)
]
