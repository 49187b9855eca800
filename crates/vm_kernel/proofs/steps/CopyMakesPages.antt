-- A slow copy is run: it makes page after page, and what holds where it stops.
use Rattle.vm_kernel.proofs.Common.{address_in, eqb_tells, if◌then◌else◌, inl, inr, ◌%◌, ◌==◌, Bool, Command, Event, Header, HostId, Ids, IsAt, LegalEvents}
use Rattle.vm_kernel.proofs.Common.{List, ObjectId, Outside, PageKey, PageRow, Parts, Some, TaskId, WaitTable, Waiting, Want, Works, ap, arith, entry, false}
use Rattle.vm_kernel.proofs.Common.{map, nat_tests, refl, subst, sym, true, ℕ, ◌++◌, ◌+◌, ◌<◌, ◌∙◌, ◌∷◌, ◌≡◌}
use Rattle.vm_fault.specs.Faults.{AfterZeros, AtOnce, CopiesPage, Copied, Ended, FaultState, Faulted, GoesOn, Raised, Runs, Stops, goes_on, want_after}
use Rattle.vm_fault.specs.Walks.{Finds, keeps_out}
use Rattle.vm_fault.specs.declared.step.FaultStep.{FaultStep}
use Rattle.vm_fault.specs.declared.step.FaultStep.TheVariants as step
use Rattle.vm_kernel.proofs.steps.CopyGoesOn.{copy_follows, copy_goes_on, page_copied}
use Rattle.vm_kernel.proofs.memory.PagesShown.{itself}
use Rattle.vm_kernel.proofs.steps.EventsGrow.{goes_both, goes_none, goes_one}
use Rattle.vm_kernel.proofs.steps.RowsInOrder.{KeepsOrder, PutsInOrder, order_twice, puts_twice, rewanted_back, rewanted_keeps}
use Rattle.vm_kernel.proofs.steps.FaultStates.{at_state, state_of, with_state}
use Rattle.vm_kernel.specs.Serving.{runs_now}
use Rattle.vm_maps.specs.Maps.{Mapped}
use Rattle.vm_model.specs.declared.event.Event.TheVariants as event
use Rattle.vm_supply.specs.declared.woken.Woken.TheVariants as woken
use Rattle.vm_waits.proofs.Tables.{puts_rewanted}
use Rattle.vm_waits.specs.Waits.{rewanted, with_want}
use Rattle.vm_waits.specs.Wants.{with_page_done}
use Rattle.vm_waits.specs.declared.waiting.Want.TheVariants as want
use Rattle.vm_fault.specs.Faults.{Pushed}

-- a run of a slow copy has made its next page
pub record MakesPage (maps : Mapped) (task : TaskId) (address pages : ℕ) (target : ObjectId) (next : ℕ) (old new : FaultState) : Type 0 where
  pub top : PageKey
  pub at : IsAt maps old.chains task.0 (want.CopyTo address pages target next) top
  pub steps : ℕ
  pub key : PageKey
  pub row : PageRow
  pub finds : Finds old.parts old.chains steps top key row
  pub open_to : keeps_out row.lock false ≡ false
  pub copies : CopiesPage task key row target next old.parts new.parts old.events new.events
  pub chains : new.chains ≡ old.chains
  pub kept : new.copies ≡ old.copies
  pub ids : new.ids ≡ old.ids

pub makes_page : {maps : Mapped} {host : HostId} {task : TaskId} {may : Bool} {value : ℕ} {old new : FaultState} (address pages : ℕ) (target : ObjectId)
    (next : ℕ) → Faulted maps host task (want.CopyTo address pages target next) may (step.Done value) old new
    → MakesPage maps task address pages target next old new
makes_page {maps = maps} {host = host} {task = task} {may = may} {value = value} {old = old} {new = new} address pages target next f =
    by f.mid f.prepares f.at f.comes f.chains f.ids
  where
    what : Want
    what = want.CopyTo address pages target next

    one_page : (at : IsAt maps old.chains task.0 what f.top) → new.chains ≡ old.chains → new.copies ≡ old.copies → new.ids ≡ old.ids
        → (a p : ℕ) (t : ObjectId) (n : ℕ)
        → what ≡ want.CopyTo a p t n → (steps : ℕ) (key : PageKey) (row : PageRow) → Finds old.parts old.chains steps f.top key row
        → keeps_out row.lock false ≡ false → CopiesPage task key row t n old.parts new.parts old.events new.events
        → MakesPage maps task address pages target next old new
    one_page at chains kept ids a p t n is steps key row finds out copies =
        record {
          top = f.top;
          at = at;
          steps = steps;
          key = key;
          row = row;
          finds = finds;
          open_to = out;
          copies =
              subst (λ (z : ObjectId). CopiesPage task key row z next old.parts new.parts old.events new.events) (target_of is)
              (subst (λ (z : ℕ). CopiesPage task key row t z old.parts new.parts old.events new.events) (next_of is) copies);
          chains = chains;
          kept = kept;
          ids = ids;
        }
      where
        target_of : want.CopyTo address pages target next ≡ want.CopyTo a p t n → t ≡ target
        target_of same = cc

        next_of : want.CopyTo address pages target next ≡ want.CopyTo a p t n → n ≡ next
        next_of same = cc

    ends : (at_byte : ℕ) → IsAt maps old.chains task.0 what f.top
        → Ended host task what f.top at_byte value old.parts new.parts old.chains old.copies new.copies old.events new.events → new.chains ≡ old.chains
        → new.ids ≡ old.ids
        → MakesPage maps task address pages target next old new
    ends at_byte at (AtOnce steps key row finds none out owes e hits same told) chains ids = absurd hits
    ends at_byte at (Raised steps key row finds stores out frame copied hit raises keeps e hits touched notes told) chains ids =
        absurd (let bad : false ≡ true = stores in cc)
    ends at_byte at (Pushed row finds stores out place owed none frame copied raises keeps e hits notes told) chains ids =
        absurd (let bad : false ≡ true = stores in cc)
    ends at_byte at (AfterZeros sinks frame brought brings keeps e hits notes told) chains ids = absurd hits
    ends at_byte at (Copied a p n t is steps key row finds out none copies same) chains ids =
        one_page at chains same ids a p t n is steps key row finds out copies

    by : (mid : FaultState) → mid ≡ old → IsAt maps mid.chains task.0 what f.top
        → Ended host task what f.top (address_in maps.size what % old.parts.buffers.size) value mid.parts new.parts mid.chains mid.copies new.copies mid.events
        new.events
        → new.chains ≡ mid.chains → new.ids ≡ mid.ids → MakesPage maps task address pages target next old new
    by mid same at comes chains ids =
        subst (λ (z : FaultState). IsAt maps z.chains task.0 what f.top
        → Ended host task what f.top (address_in maps.size what % old.parts.buffers.size) value z.parts new.parts z.chains z.copies new.copies z.events
        new.events
        → new.chains ≡ z.chains → new.ids ≡ z.ids → MakesPage maps task address pages target next old new) (sym same)
        (λ at2 comes2 chains2 ids2. ends (address_in maps.size what % old.parts.buffers.size) at2 comes2 chains2 ids2) at comes chains ids

-- a slow copy that has made so many more pages
abbrev pub after_pages : ℕ → Want → Want
after_pages n (want.CopyTo address pages target next) = want.CopyTo address pages target (next + n)
after_pages n other = other

-- the kernel where the access was run the last time, behind the pages that it made; its row there is as it would be if it had been noted
pub record RunsTo (header : Header) (h : ℕ) (outside : Outside) (doing : Command) (past events : List Event) (k : Parts) (w : Waiting) (may : Bool)
    (answer : FaultStep) (last : Want) (new : FaultState) : Type 0 where
  pub made : ℕ
  pub what : Want
  pub is_what : what ≡ after_pages made w.want
  pub mid : FaultState
  pub waits : WaitTable
  pub put : PutsInOrder w.task.0 (Some (with_want w what)) k.waits.rows waits.rows
  pub back : KeepsOrder waits.rows k.waits.rows
  pub is : entry waits.rows w.task.0 ≡ Some (with_want w what)
  pub works : Works header h (record (with_state k mid) { waits = waits }) mid.ids woken.Nobody (mid.events ++ past)
  pub goes : LegalEvents header h outside doing past events mid.events
  pub ran : Faulted k.maps k.host w.task what may answer mid new
  pub over : goes_on answer what ≡ false
  pub last_is : last ≡ want_after answer what

none_made : (what : Want) → what ≡ after_pages 0 what
none_made (want.Load address size) = refl
none_made (want.Store address size value) = refl
none_made (want.CopyTo address pages target next) = ap (want.CopyTo address pages target) (let same : next ≡ next + 0 = omega arith in same)

one_more : (n : ℕ) (what : Want) → with_page_done (after_pages n what) ≡ after_pages (n + 1) what
one_more n (want.Load address size) = refl
one_more n (want.Store address size value) = refl
one_more n (want.CopyTo address pages target next) = ap (want.CopyTo address pages target) (let same : next + n + 1 ≡ next + (n + 1) = omega arith in same)

-- a task's row is as it was
puts_same : (t : ℕ) (w : Waiting) (rows : List Waiting) → entry rows t ≡ Some w → PutsInOrder t (Some w) rows rows
puts_same t w rows is = record { entry = record { at = at }; order = record { keeps = λ begun from order. order } }
  where
    at : (u : ℕ) → entry rows u ≡ (if t == u then Some w else entry rows u)
    at u = elim (eqb_tells t u) [
      | inl same ↦ ap (entry rows) (sym same.1) ∙ (is ∙ ap (λ b. if b then Some w else entry rows u) (sym same.0))
      | inr apart ↦ ap (λ b. if b then Some w else entry rows u) (sym apart.0)
    ]

-- or wants something else
pub puts_want : (w : Waiting) (what : Want) (rows : List Waiting) → entry rows w.task.0 ≡ Some w
    → PutsInOrder w.task.0 (Some (with_want w what)) rows (map (rewanted w.task.0 what) rows)
puts_want w what rows is =
    record { entry = puts_rewanted w.task.0 what rows w is; order = rewanted_keeps w.task.0 what rows (map (rewanted w.task.0 what) rows) refl }

pub puts_itself : (t : ℕ) (x : Waiting) (old new : List Waiting) → PutsInOrder t (Some x) old new → entry new t ≡ Some x
puts_itself t x old new put = put.entry.at t ∙ by (t == t) (itself t)
  where
    by : (b : Bool) → b ≡ true → (if b then Some x else entry old t) ≡ Some x
    by true is = refl
    by false is = absurd (let bad : false ≡ true = is in cc)

pub runs_to : (header : Header) (h : ℕ) (outside : Outside) (doing : Command) (past events : List Event) (k : Parts) (ids : Ids) (w : Waiting) (may : Bool)
    (answer : FaultStep) (last : Want) (new : FaultState) → Works header h k ids woken.Nobody (events ++ past)
    → entry k.waits.rows w.task.0 ≡ Some w → runs_now w.on ≡ true → Runs k.maps k.host w.task may answer w.want last (state_of k ids events) new
    → RunsTo header h outside doing past events k w may answer last new
runs_to header h outside doing past events k ids w may answer last new works is now runs =
    go 0 w.want last (state_of k ids events) new runs (none_made w.want) k.waits (puts_same w.task.0 w k.waits.rows is)
    (record { keeps = λ begun from order. order }) works (goes_none header h outside doing past events)
  where
    go : (made : ℕ) (what last2 : Want) (old new2 : FaultState) → Runs k.maps k.host w.task may answer what last2 old new2 → what ≡ after_pages made w.want
        → (waits : WaitTable) → PutsInOrder w.task.0 (Some (with_want w what)) k.waits.rows waits.rows → KeepsOrder waits.rows k.waits.rows
        → Works header h (record (with_state k old) { waits = waits }) old.ids woken.Nobody (old.events ++ past)
        → LegalEvents header h outside doing past events old.events → RunsTo header h outside doing past events k w may answer last2 new2
    go made what last2 old new2 (Stops _ _ _ faulted over) is_what waits put back held goes =
        record {
          made = made;
          what = what;
          is_what = is_what;
          mid = old;
          waits = waits;
          put = put;
          back = back;
          is = puts_itself w.task.0 (with_want w what) k.waits.rows waits.rows put;
          works = held;
          goes = goes;
          ran = faulted;
          over = over;
          last_is = refl;
        }
    go made (want.Load address size) last2 old new2 (GoesOn _ _ value _ mid _ faulted more rest) is_what waits put back held goes =
        absurd (let bad : false ≡ true = more in cc)
    go made (want.Store address size number) last2 old new2 (GoesOn _ _ value _ mid _ faulted more rest) is_what waits put back held goes =
        absurd (let bad : false ≡ true = more in cc)
    go made (want.CopyTo address pages target next) last2 old new2 (GoesOn _ _ value _ mid _ faulted more rest) is_what waits put back held goes =
        let less : next + 1 < pages = grind (arith, nat_tests) in
        let page = makes_page address pages target next faulted in
        let k0 = record (with_state k old) { waits = waits } in
        let w0 = with_want w (want.CopyTo address pages target next) in
        let there = puts_itself w.task.0 w0 k.waits.rows waits.rows put in
        let moment = old.events ++ past in
        let e = event.CopiedPage w.task (record { 0 = next }) page.key.object page.key.page target in
        let copying = page_copied header h moment k0 old.ids w0 address pages target next page.key page.row mid.parts old.events mid.events held there now refl
        page.finds.found page.finds.here page.copies in
        let next_want = want.CopyTo address pages target (next + 1) in
        let waits1 = record waits { rows = map (rewanted w.task.0 next_want) waits.rows } in
        let put1 = puts_want w0 next_want waits.rows there in
        let held1 = copy_goes_on header h (e ∷ moment) (record k0 { memory = mid.parts }) old.ids w0 address pages target next waits1 copying less now put1 in
        let follows = copy_follows header h outside doing moment k0 old.ids w0 page.top address pages target next page.steps page.key page.row mid.parts
        old.events mid.events held there now refl page.at page.finds page.open_to page.copies in
        let one = goes_one header h outside doing past old.events e held.matches.settled follows in
        go (made + 1) next_want last2 mid new2 rest (ap with_page_done is_what ∙ one_more made w.want) waits1
        (puts_twice w.task.0 (Some w0) (Some (with_want w next_want)) k.waits.rows waits.rows waits1.rows put put1)
        (order_twice waits1.rows waits.rows k.waits.rows (rewanted_back w.task.0 next_want waits.rows) back)
        (at_state header h past k mid old.chains old.copies old.ids (e ∷ old.events) waits1 page.chains page.kept page.ids page.copies.told held1)
        (subst (λ (z : List Event). LegalEvents header h outside doing past events z) (sym page.copies.told)
        (goes_both header h outside doing past events old.events (e ∷ old.events) goes one))
