-- Inside a command's step, where nothing is left to be swept: what is referred to is reached, and nothing else is on the host.
use Rattle.vm_kernel.proofs.Common.{Bool, Event, FrameTable, Header, Ids, IsSwept, List, Matches, None, ObjectRow, Option, PageRow, Parts, Reach, RegionRow}
use Rattle.vm_kernel.proofs.Common.{Rests, Some, [], absent_at, all_tasks, ap, arith, count_by, entries_in, false, has_entry, if◌then◌else◌, in_use, inl, inr}
use Rattle.vm_kernel.proofs.Common.{live_in, local_of_row, named, object_at, page_on, refl, region_at, row_at, rows_in, subst, sym, true, ℕ, ◌<◌, ◌≤◌, ◌∙◌, ◌≡◌}
use Rattle.vm_kernel.proofs.abroad.OthersEvents.{with_entry}
use Rattle.vm_kernel.proofs.space.EntriesCounted.{by_some}
use Rattle.vm_kernel.proofs.space.RegionsFilled.{filled_temporary, row_use}
use Rattle.vm_kernel.specs.Sweeping.{IsWhole}
use Rattle.vm_legal.specs.Swept.{IsUnheld}
use Rattle.vm_legal.specs.Walks.{Below}
use Rattle.vm_model.specs.Regions.{backing_of, region_of}
use Rattle.vm_state.proofs.Declared.{over_declared}
use Rattle.vm_state.proofs.Reaching.{temporary_up, under_up}
use Rattle.vm_state.proofs.Referring.{OfRegion, OfShadow, referrer_of}
use Rattle.vm_supply.specs.declared.woken.Woken.TheVariants as woken
use Rattle.vm_terminate.specs.Finishes.{IsReferred}
use Rattle.vm_state.specs.Pagers.{cached_in}

-- so it is at a step's end
pub whole_of : {header : Header} {h : ℕ} {k : Parts} {ids : Ids} {past : List Event} → Rests header h k ids past → IsWhole header h woken.Nobody k ids [] past
whole_of rests =
    record {
      runs = record { matches = rests.matches; waits = rests.waits; order = rests.order };
      used = rests.used;
      referred = rests.referred;
    }

-- what is on the host has a row
here_row : (fs : FrameTable) (x : Option PageRow) (lacked : Bool) → (local_of_row fs x lacked).here ≡ true → (row : PageRow) × (x ≡ Some row)
here_row fs None lacked bad = absurd (let no : false ≡ true = bad in cc)
here_row fs (Some row) lacked is = (row, refl)

-- the temporary regions that a kernel knows are in use
pub regions_used : (header : Header) (h : ℕ) (k : Parts) (ids : Ids) (past : List Event) → IsWhole header h woken.Nobody k ids [] past
    → (r : ℕ) (row : RegionRow) → named header ≤ r
    → region_at k.chains r ≡ Some row → in_use header h r past ≡ true
regions_used header h k ids past whole r row temporary found =
    let m = whole.runs.matches in
    (m.core.spaces.uses.used r temporary).is (row_use r row m.core.spaces.entries found whole.used)

-- a temporary object to which something refers is in the chain of one of them
reaches : (header : Header) (h : ℕ) (k : Parts) (ids : Ids) (past : List Event) (object : ℕ) → IsWhole header h woken.Nobody k ids [] past
    → named header ≤ object
    → IsReferred k.memory.objects object → Reach header h object past
reaches header h k ids past object whole temporary referred =
    temporary_up whole.runs.matches.core.objects.regions whole.runs.matches.core.objects.kinds whole.runs.matches.core.spaces.homes.1 whole.referred.shadows
    (λ r. in_use header h r past)
    (λ r row least found. regions_used header h k ids past whole r row least found) object temporary referred

-- a declared object to which something refers is held: a task here has an entry on its region
held : (header : Header) (h : ℕ) (k : Parts) (ids : Ids) (past : List Event) (object : ℕ) → IsWhole header h woken.Nobody k ids [] past → object < named header
    → IsReferred k.memory.objects object → IsUnheld header h object past → ⊥
held header h k ids past object whole less referred unheld = elim (referrer_of m.core.objects.regions object referred uncached) [
  | OfRegion r row found top ↦
      let own : r ≡ object = over_declared m.core.objects.regions m.core.objects.kinds m.core.spaces.homes.1 r row found (omega (arith, top, less)) ∙ top in
      let some : 0 < count_by all_tasks r k.maps = elim (row_use r row m.core.spaces.entries found whole.used) [
        | inl count ↦ count
        | inr filled ↦ let high = filled_temporary r whole.used.copies m.core.spaces.homes.1 filled in absurd (omega (arith, high, own, less))
      ] in
      let task = by_some all_tasks r k.maps some in
      let here = with_entry r (entries_in task.0 k.maps) task.1 in
      let none = unheld.unmapped task.0 (m.core.spaces.tasks.hosts task.0 ∙ here) in
      let has : has_entry object (rows_in task.0 k.maps) ≡ true = subst (λ (z : ℕ). has_entry z (rows_in task.0 k.maps) ≡ true) own task.1 in
      let bad : false ≡ true = sym none ∙ (ap (has_entry object) (m.core.spaces.tasks.rows task.0 here) ∙ has) in
      cc
  | OfShadow s row found under ↦
      let up = under_up m.core.objects.regions m.core.objects.kinds m.core.spaces.homes.1 whole.referred.shadows (λ r. in_use header h r past)
      (λ r region least there. regions_used header h k ids past whole r region least there) s row found in
      unheld.unreached up.0 up.1 up.2 up.3 (subst (λ (z : ℕ). Below (λ o. backing_of header o past) up.1 (region_of header up.0 past).top z) under up.4)
]
  where
    m : Matches header h k ids [] past
    m = whole.runs.matches

    uncached : referred.row.cache ≡ false
    uncached = sym (ap cached_in referred.known) ∙ (sym (m.core.flags object less) ∙ unheld.uncached)

pub swept : (header : Header) (h : ℕ) (k : Parts) (ids : Ids) (past : List Event) → IsWhole header h woken.Nobody k ids [] past → IsSwept header h past
swept header h k ids past whole =
    record {
      pages =
          λ object page temporary away. gone object page (λ referred. away (reaches header h k ids past object whole temporary referred))
          (page_on header h object page past).here refl;
      controls =
          λ object temporary away. whole.runs.matches.core.controls.live object
          ∙ ended object (λ referred. away (reaches header h k ids past object whole temporary referred)) (object_at k.memory.objects object) refl;
      declared_pages =
          λ object page less unheld. gone object page (λ referred. held header h k ids past object whole less referred unheld)
          (page_on header h object page past).here refl;
      declared_controls =
          λ object less unheld. whole.runs.matches.core.controls.live object
          ∙ ended object (λ referred. held header h k ids past object whole less referred unheld) (object_at k.memory.objects object) refl;
    }
  where
    gone : (object page : ℕ) → (IsReferred k.memory.objects object → ⊥) → (b : Bool) → (page_on header h object page past).here ≡ b → b ≡ false
    gone object page away false is = refl
    gone object page away true is =
        let m = whole.runs.matches in
        let row = here_row k.memory.frames (row_at k.memory.resident object page) (absent_at k.memory.objects object page)
        (ap (λ z. z.here) (sym (m.core.pages.shown.shown object page)) ∙ is) in
        absurd (away (whole.referred.pages object page row.0 row.1))

    dead : (object : ℕ) → (IsReferred k.memory.objects object → ⊥) → (row : ObjectRow) → object_at k.memory.objects object ≡ Some row → (b : Bool)
        → row.live ≡ b → (if b then Some row.control else None) ≡ None
    dead object away row found false is = refl
    dead object away row found true is = absurd (away (record { row = row; known = found; some = whole.referred.live object row found is }))

    ended : (object : ℕ) → (IsReferred k.memory.objects object → ⊥) → (x : Option ObjectRow) → object_at k.memory.objects object ≡ x → live_in x ≡ None
    ended object away None is = refl
    ended object away (Some row) is = dead object away row is row.live refl
