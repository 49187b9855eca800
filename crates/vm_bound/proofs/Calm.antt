-- Where the step took a lock nobody on its host waits for a page of shared memory that may go: each event inside the step keeps that.
use Rattle.std.proofs.Common.{ℕ, ◌+◌, ◌*◌, ◌/◌, ◌<◌, ◌≤◌, ◌≡◌, ◌∙◌, true, false, List, ◌∷◌, Option, Some, ap, sym, refl, subst, arith}
use Rattle.std.proofs.Common.{inl, inr}
use Rattle.vm_base.specs.Entries.{entry_at}
use Rattle.vm_base.specs.declared.entry.Entry.{Entry}
use Rattle.vm_bound.proofs.Owing.{Follows, IsCalm}
use Rattle.vm_bound.proofs.SharedMoves.{Goes, IsAsked, IsUnlocked, Moved, Stays}
use Rattle.vm_bound.proofs.SharedPlaces.{IsCalmToWrite, cause_of, lock_stays, moves}
use Rattle.vm_bound.proofs.Writing.{WentOn, found_same, no_true, page_back, store_copies, waits_back, waits_on}
use Rattle.vm_legal.specs.Accesses.{HasPageLeft, Waits, names, page_of}
use Rattle.vm_legal.specs.Licences.{lock_taken}
use Rattle.vm_legal.specs.Outside.{Outside, is_shared}
use Rattle.vm_legal.specs.Walks.{page_on}
use Rattle.vm_model.specs.Local.{Local}
use Rattle.vm_model.specs.Tasks.{entries_of, host_of}
use Rattle.vm_model.specs.Waiting.{Access, Copying, address_of, next_page, waiting}
use Rattle.vm_model.specs.declared.event.Event.{Event}
use Rattle.vm_model.specs.declared.script.Header.{Header}
use Rattle.vm_shared.proofs.Declared.{declared_top_own}
use Rattle.vm_shared.proofs.Numbering.{IsOwn, numbering}
use Rattle.vm_shared.proofs.Waiters.{IsSame, same}

-- each page that a slow copy has left is on the region of the present one
abbrev pub KeepsRegion : Header → List Event → Type 0
KeepsRegion header past =
    (task address bytes to later : ℕ) (entry : Entry) → (waits : Waits header task (Copying address bytes to) past) → next_page task past ≤ later
    → later < bytes / header.size → entry_at (address + later * header.size) (entries_of header.size task past) ≡ Some entry
    → entry.region.0 ≡ waits.at.entry.region.0

-- the page to which a slow copy went on
pub record NextPage (header : Header) (task address bytes : ℕ) (entry : Entry) (past : List Event) : Type 0 where
  pub left : next_page task past + 1 < bytes / header.size
  pub found : entry_at (address + (next_page task past + 1) * header.size) (entries_of header.size task past) ≡ Some entry

pub same_access : (x : Option Access) (a b : Access) → x ≡ Some a → x ≡ Some b → a ≡ b
same_access x a b one two = let is : ◌≡◌ {A = Option Access} (Some a) (Some b) = sym one ∙ two in cc

pub same_number : (x : Option ℕ) (a b : ℕ) → x ≡ Some a → x ≡ Some b → a ≡ b
same_number x a b one two = let is : ◌≡◌ {A = Option ℕ} (Some a) (Some b) = sym one ∙ two in cc

pub same_entry : (x : Option Entry) (a b : Entry) → x ≡ Some a → x ≡ Some b → a ≡ b
same_entry x a b one two = let is : ◌≡◌ {A = Option Entry} (Some a) (Some b) = sym one ∙ two in cc

pub went_access : (header : Header) (task : ℕ) (access : Access) (e : Event) (past : List Event) → (on : WentOn header task e past)
    → waiting task (e ∷ past) ≡ Some access → access ≡ Copying on.cause.address on.cause.bytes on.cause.to
went_access header task access e past on waits =
    same_access (waiting task past) access (Copying on.cause.address on.cause.bytes on.cause.to) (sym on.waits ∙ waits) on.cause.waits.waits

pub went_next : (header : Header) (task : ℕ) (access : Access) (e : Event) (past : List Event) → (on : WentOn header task e past)
    → (waits : Waits header task access (e ∷ past)) → NextPage header task on.cause.address on.cause.bytes waits.at.entry past
went_next header task access e past on waits =
    let is = went_access header task access e past on waits.waits in
    let left : HasPageLeft header.size (Copying on.cause.address on.cause.bytes on.cause.to) (next_page task past + 1) =
    subst (λ (n : ℕ). HasPageLeft header.size (Copying on.cause.address on.cause.bytes on.cause.to) n) on.next
    (subst (λ (a : Access). HasPageLeft header.size a (next_page task (e ∷ past))) is waits.left) in
    record {
      left = left;
      found = found_same header.size (Copying on.cause.address on.cause.bytes on.cause.to) waits.at.entry (next_page task (e ∷ past)) (next_page task past + 1)
          (entries_of header.size task (e ∷ past)) (entries_of header.size task past) on.next on.entries
          (subst (λ (a : Access). entry_at (address_of header.size (next_page task (e ∷ past)) a) (entries_of header.size task (e ∷ past))
          ≡ Some waits.at.entry) is waits.at.found);
    }

pub next_region_same : (header : Header) (task : ℕ) (access : Access) (e : Event) (past : List Event) → KeepsRegion header past
    → (on : WentOn header task e past) → (waits : Waits header task access (e ∷ past)) → waits.at.entry.region.0 ≡ on.cause.waits.at.entry.region.0
next_region_same header task access e past keeps on waits =
    let it = went_next header task access e past on waits in
    keeps task on.cause.address on.cause.bytes on.cause.to (next_page task past + 1) waits.at.entry on.cause.waits (omega arith) it.left it.found

-- the page that is copied is here, and it is the region's own
pub copied_here : (header : Header) (outside : Outside) (count : ℕ) (task : ℕ) (e : Event) (past : List Event) → Follows header outside count e past
    → (on : WentOn header task e past)
    → (page_on header on.cause.waits.at.host on.cause.waits.at.entry.region.0
    (page_of header task (Copying on.cause.address on.cause.bytes on.cause.to) past on.cause.waits.at.entry) past).here ≡ true
copied_here header outside count task e past f on =
    let c = on.cause in
    let own : IsOwn c.waits.at.entry.region.0 (page_of header task (Copying c.address c.bytes c.to) past c.waits.at.entry) on.object on.page =
    declared_top_own header past c.waits.at.entry.region.0 (page_of header task (Copying c.address c.bytes c.to) past c.waits.at.entry) on.object on.page
    (numbering header outside past f.causes).numbered c.declared c.is_top in
    subst (λ (x : ℕ). (page_on header c.waits.at.host x (page_of header task (Copying c.address c.bytes c.to) past c.waits.at.entry) past).here ≡ true)
    (sym own.region) (subst (λ (x : ℕ). (page_on header c.waits.at.host on.object x past).here ≡ true) (sym own.page) c.here)

still_away : (header : Header) (h o p : ℕ) (past : List Event) (now : Local) (asked pays opens : ℕ) → Moved header h o p past now asked pays opens
    → (page_on header h o p past).here ≡ false → now.here ≡ false
still_away header h o p past now asked pays opens (Stays same for_ none free) away = same.here ∙ away
still_away header h o p past now asked pays opens (IsAsked was unasked gone now_asked writes paid opened) away = gone
still_away header h o p past now asked pays opens (IsUnlocked here locked none stands same out writes kept paid free) away = no_true (sym away ∙ here)
still_away header h o p past now asked pays opens (Goes here gone unasked for_ none free why) away = gone

still_locked : (header : Header) (h o p : ℕ) (past : List Event) (now : Local) (asked pays opens : ℕ) → Moved header h o p past now asked pays opens
    → ((page_on header h o p past).here ≡ true → names (page_on header h o p past).lock true ≡ true) → now.here ≡ true → names now.lock true ≡ true
still_locked header h o p past now asked pays opens (Stays same for_ none free) was here =
    subst (λ (k : ℕ). names k true ≡ true) (sym same.lock) (was (sym same.here ∙ here))
still_locked header h o p past now asked pays opens (IsAsked away unasked gone now_asked writes paid opened) was here = no_true (sym gone ∙ here)
still_locked header h o p past now asked pays opens (IsUnlocked stood locked none stands same out writes kept paid free) was here =
    subst (λ (k : ℕ). names k true ≡ true) (sym same) locked
still_locked header h o p past now asked pays opens (Goes stood gone unasked for_ none free why) was here = no_true (sym gone ∙ here)

-- of a page that waits as before
pub calm_next : (header : Header) (outside : Outside) (count : ℕ) (e : Event) (past : List Event) → Follows header outside count e past
    → KeepsRegion header past → IsCalm header (e ∷ past)
calm_next header outside count e past f keeps request task access taken waits on_host shared reads =
    elim (waits_on header outside task access e past (cause_of header outside count e past f) f.may f.inner waits.waits) [
      | inl same ↦ as_before same
      | inr on ↦ went on
    ]
  where
    locked : lock_taken past ≡ Some request
    locked = sym (lock_stays e past f.inner) ∙ taken

    as_before : IsSame header.size task past (e ∷ past)
        → (page_on header waits.at.host waits.at.entry.region.0 (page_of header task access (e ∷ past) waits.at.entry) (e ∷ past)).here ≡ false
    as_before same =
        let was = f.calm request task access locked (waits_back header task access past (e ∷ past) same waits) on_host shared reads in
        let here : (page_on header waits.at.host waits.at.entry.region.0 (page_of header task access (e ∷ past) waits.at.entry) past).here ≡ false =
        subst (λ (q : ℕ). (page_on header waits.at.host waits.at.entry.region.0 q past).here ≡ false)
        (sym (page_back header task access past (e ∷ past) waits.at.entry same.next)) was in
        still_away header waits.at.host waits.at.entry.region.0 (page_of header task access (e ∷ past) waits.at.entry) past _ _ _ _
        (moves header outside count waits.at.host waits.at.entry.region.0 (page_of header task access (e ∷ past) waits.at.entry) e past f shared) here

    went : WentOn header task e past
        → (page_on header waits.at.host waits.at.entry.region.0 (page_of header task access (e ∷ past) waits.at.entry) (e ∷ past)).here ≡ false
    went on =
        let region = next_region_same header task access e past keeps on waits in
        let host = same_number (host_of task past) on.cause.waits.at.host waits.at.host on.cause.waits.at.lives (sym on.host ∙ waits.at.lives) in
        let away = f.calm request task (Copying on.cause.address on.cause.bytes on.cause.to) locked on.cause.waits (host ∙ on_host)
        (subst (λ (k : ℕ). is_shared header k ≡ true) region shared) refl in
        no_true (sym away ∙ copied_here header outside count task e past f on)

pub calm_to_write_next : (header : Header) (outside : Outside) (count : ℕ) (e : Event) (past : List Event) → Follows header outside count e past
    → IsCalmToWrite header past → IsCalmToWrite header (e ∷ past)
calm_to_write_next header outside count e past f calm request task access taken flush waits on_host shared store here =
    elim (waits_on header outside task access e past (cause_of header outside count e past f) f.may f.inner waits.waits) [
      | inl same ↦ as_before same
      | inr on ↦
          no_true (sym (store_copies access on.cause.address on.cause.bytes on.cause.to (ap Some (went_access header task access e past on waits.waits)))
          ∙ store)
    ]
  where
    locked : lock_taken past ≡ Some request
    locked = sym (lock_stays e past f.inner) ∙ taken

    as_before : IsSame header.size task past (e ∷ past)
        → names (page_on header waits.at.host waits.at.entry.region.0 (page_of header task access (e ∷ past) waits.at.entry) (e ∷ past)).lock true ≡ true
    as_before same =
        let back = page_back header task access past (e ∷ past) waits.at.entry same.next in
        still_locked header waits.at.host waits.at.entry.region.0 (page_of header task access (e ∷ past) waits.at.entry) past _ _ _ _
        (moves header outside count waits.at.host waits.at.entry.region.0 (page_of header task access (e ∷ past) waits.at.entry) e past f shared)
        (λ stood.
        subst (λ (q : ℕ). names (page_on header waits.at.host waits.at.entry.region.0 q past).lock true ≡ true) (sym back)
        (calm request task access locked flush (waits_back header task access past (e ∷ past) same waits) on_host shared store
        (subst (λ (q : ℕ). (page_on header waits.at.host waits.at.entry.region.0 q past).here ≡ true) back stood)))
        here
