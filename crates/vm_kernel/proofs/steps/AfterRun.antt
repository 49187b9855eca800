-- What holds where an access was run, a slow copy page by page: it waits, wants a frame, or has ended.
use Rattle.vm_kernel.proofs.Common.{Bool, ChainTable, Command, EndsNext, Event, FindsPage, Header, HostParts, Ids, IfSome, JoinsQueue, LegalEvents, List, None}
use Rattle.vm_kernel.proofs.Common.{ObjectId, On, Option, Outside, PageKey, Paging, Parts, Plays, PutsEntry, RunsOnce, Some, TaskId, Then, WaitTable, Waiting}
use Rattle.vm_kernel.proofs.Common.{Want, Works, ap, append_assoc, arith, count_again, entry, false, free, inl, inr, map, nat_lt, nat_tests, one_again}
use Rattle.vm_kernel.proofs.Common.{one_frame, paging, queue_without, queued, refl, rows_without, subst, sym, true, turned, with_on, ℕ, ◌*◌, ◌++◌, ◌+◌, ◌-◌}
use Rattle.vm_kernel.proofs.Common.{◌<◌, ◌∙◌, ◌∷◌, ◌≡◌, ◌⊎◌}
use Rattle.vm_copies.specs.Copies.{CopyTable}
use Rattle.vm_fault.specs.Faults.{FaultState, Faulted, Runs, has_more, want_after}
use Rattle.vm_fault.specs.declared.step.FaultStep.{FaultStep}
use Rattle.vm_fault.specs.declared.step.FaultStep.TheVariants as step
use Rattle.vm_kernel.proofs.steps.AccessEnds.{Reaches}
use Rattle.vm_kernel.proofs.steps.AccessRun.{Wanting, done_reaches, page_reaches, queued_reaches, ready_reaches, wanting_of, word_reaches}
use Rattle.vm_kernel.proofs.Common.{if◌then◌else◌, length}
use Rattle.vm_kernel.specs.Destroying.{place_led}
use Rattle.vm_kernel.proofs.steps.CopyEnds.{can_end_copy, copy_ended, maps_filled}
use Rattle.vm_kernel.proofs.steps.CopyGoesOn.{Copying, copy_follows, page_copied, sized_of, slow_of}
use Rattle.vm_kernel.proofs.steps.EventsGrow.{goes_both, goes_one}
use Rattle.vm_kernel.proofs.steps.LoadsAndStores.{stops_once}
use Rattle.vm_kernel.proofs.steps.RowsInOrder.{PutsInOrder, puts_over, puts_twice, rewanted_keeps, turned_keeps, without_keeps}
use Rattle.vm_kernel.proofs.steps.CopyMakesPages.{RunsTo, after_pages, makes_page, puts_itself, runs_to}
use Rattle.vm_kernel.proofs.steps.FaultStates.{state_of, with_state}
use Rattle.vm_kernel.specs.Serving.{is_pushing, pages_to_copy, runs_now, waits_at}
use Rattle.vm_kernel.specs.Slow.{CanEndCopy, CanEndWant, DidNothing, EndsCopyIn, EndsWant, filled_entry}
use Rattle.vm_model.specs.declared.event.Event.TheVariants as event
use Rattle.vm_supply.specs.declared.woken.Woken.TheVariants as woken
use Rattle.vm_waits.specs.Waits.{rewanted, with_want}
use Rattle.vm_waits.specs.Wants.{IsOfNumber}
use Rattle.vm_waits.specs.declared.waiting.Destination.{Destination}
use Rattle.vm_waits.specs.declared.waiting.On.TheVariants as on
use Rattle.vm_waits.specs.declared.waiting.Want.TheVariants as want
use Rattle.vm_fault.specs.Rooms.{pages_left}
use Rattle.vm_fault.specs.Walks.{is_copying}
use Rattle.vm_kernel.proofs.steps.FramesClaimed.{once_done, once_filled}
use Rattle.vm_kernel.proofs.steps.FoundPageEnds.{ends_next, number_of_found}
use Rattle.vm_kernel.proofs.steps.PagesLeft.{joins_claimed}
use Rattle.vm_kernel.specs.Forking.{got}
use Rattle.vm_kernel.proofs.steps.WhereAccessLeads.{access_served, copy_served}
use Rattle.vm_kernel.specs.Destroying.{unserved}

-- the kernel of the last run
abbrev pub kernel_there : (k : Parts) {header : Header} {h : ℕ} {outside : Outside} {doing : Command} {past events : List Event} {w : Waiting} {may : Bool}
    {answer : FaultStep} {last : Want} {new : FaultState} → RunsTo header h outside doing past events k w may answer last new → Parts
kernel_there k r = record (with_state k r.mid) { waits = r.waits }

-- what the last run reaches is reached
onward : (header : Header) (h : ℕ) (outside : Outside) (doing : Command) (past events mid : List Event) (k : Parts) (ids : Ids) (after : List Event)
    → LegalEvents header h outside doing past events mid → Reaches header h outside doing past mid k ids after
    → Reaches header h outside doing past events k ids after
onward header h outside doing past events mid k ids after goes r =
    record { works = r.works; goes = goes_both header h outside doing past events mid after goes r.goes }

-- it waits for its object's pager
pub ready_runs : (header : Header) (h : ℕ) (outside : Outside) (doing : Command) (past : List Event) (k : Parts) (ids : Ids) (w : Waiting) (may : Bool)
    (object : ObjectId) (last : Want) (events : List Event) (new : FaultState) (waits2 : WaitTable)
    → Works header h k ids woken.Nobody (events ++ past) → entry k.waits.rows w.task.0 ≡ Some w → runs_now w.on ≡ true
    → Runs k.maps k.host w.task may (step.WaitReady object) w.want last (state_of k ids events) new
    → PutsInOrder w.task.0 (Some (with_on (with_want w last) (on.Ready object))) k.waits.rows waits2.rows
    → Reaches header h outside doing past events (record (with_state k new) { waits = waits2 }) new.ids new.events
ready_runs header h outside doing past k ids w may object last events new waits2 works is now runs put =
    let r = runs_to header h outside doing past events k ids w may (step.WaitReady object) last new works is now runs in
    let put2 = subst (λ (z : Want). PutsInOrder w.task.0 (Some (with_on (with_want w z) (on.Ready object))) k.waits.rows waits2.rows) r.last_is put in
    onward header h outside doing past events r.mid.events (record (with_state k new) { waits = waits2 }) new.ids new.events r.goes
    (ready_reaches header h outside doing past (kernel_there k r) r.mid.ids (with_want w r.what) may object r.mid.events new waits2 r.works r.is now r.ran
    (puts_over w.task.0 (Some (with_want w r.what)) (Some (with_on (with_want w r.what) (on.Ready object))) k.waits.rows r.waits.rows waits2.rows r.put
    r.back put2))

last_waits : (answer : FaultStep) (key : PageKey) (what : Want) → (answer ≡ step.Ask key) ⊎ (answer ≡ step.Unlock key)
    → want_after answer what ≡ what
last_waits answer key what (inl is) = ap (λ z. want_after z what) is
last_waits answer key what (inr is) = ap (λ z. want_after z what) is

-- its page is asked, or an unlock of it is outstanding
pub page_runs : (header : Header) (h : ℕ) (outside : Outside) (doing : Command) (past : List Event) (k : Parts) (ids : Ids) (w : Waiting) (may : Bool)
    (answer : FaultStep) (key : PageKey) (last : Want) (events : List Event) (new : FaultState) (waits2 : WaitTable)
    → Works header h k ids woken.Nobody (events ++ past) → entry k.waits.rows w.task.0 ≡ Some w → runs_now w.on ≡ true
    → Runs k.maps k.host w.task may answer w.want last (state_of k ids events) new
    → (answer ≡ step.Ask key) ⊎ (answer ≡ step.Unlock key)
    → PutsInOrder w.task.0 (Some (with_on (with_want w last) (on.Page key))) k.waits.rows waits2.rows
    → Reaches header h outside doing past events (record (with_state k new) { waits = waits2 }) new.ids new.events
page_runs header h outside doing past k ids w may answer key last events new waits2 works is now runs why put =
    let r = runs_to header h outside doing past events k ids w may answer last new works is now runs in
    let put2 = subst (λ (z : Want). PutsInOrder w.task.0 (Some (with_on (with_want w z) (on.Page key))) k.waits.rows waits2.rows)
    (r.last_is ∙ last_waits answer key r.what why) put in
    onward header h outside doing past events r.mid.events (record (with_state k new) { waits = waits2 }) new.ids new.events r.goes
    (page_reaches header h outside doing past (kernel_there k r) r.mid.ids (with_want w r.what) may answer key r.mid.events new waits2 r.works r.is now r.ran
    why (puts_over w.task.0 (Some (with_want w r.what)) (Some (with_on (with_want w r.what) (on.Page key))) k.waits.rows r.waits.rows waits2.rows r.put
    r.back put2))

-- a slow copy that has made more pages leads where it did
led_after : (k : Parts) (w : Waiting) (n : ℕ) (what : Want) → place_led k.maps w.task.0 (after_pages n what) ≡ place_led k.maps w.task.0 what
led_after k w n (want.Load address size) = refl
led_after k w n (want.Store address size value) = refl
led_after k w n (want.CopyTo address pages target next) = refl

-- somebody's word on a page is outstanding that it waits for
pub word_runs : (header : Header) (h : ℕ) (outside : Outside) (doing : Command) (past : List Event) (k : Parts) (ids : Ids) (w : Waiting) (may : Bool)
    (key : PageKey) (last : Want) (events : List Event) (new : FaultState) (waits2 : WaitTable)
    → Works header h k ids woken.Nobody (events ++ past) → entry k.waits.rows w.task.0 ≡ Some w → runs_now w.on ≡ true
    → Runs k.maps k.host w.task may (step.WaitAnswer key) w.want last (state_of k ids events) new
    → PutsInOrder w.task.0 (Some (with_on (with_want w last) (waits_at k w key))) k.waits.rows waits2.rows
    → Reaches header h outside doing past events (record (with_state k new) { waits = waits2 }) new.ids new.events
word_runs header h outside doing past k ids w may key last events new waits2 works is now runs put =
    let r = runs_to header h outside doing past events k ids w may (step.WaitAnswer key) last new works is now runs in
    let led : place_led k.maps w.task.0 w.want ≡ place_led k.maps w.task.0 r.what = sym (ap (place_led k.maps w.task.0) r.is_what
    ∙ led_after k w r.made w.want) in
    let same : waits_at k w key ≡ waits_at (kernel_there k r) (with_want w r.what) key =
    ap (λ z. if is_pushing (length k.declared.items) key z then on.Push key else on.Page key) led in
    let put2 = subst (λ (z : Want). PutsInOrder w.task.0 (Some (with_on (with_want w z) (waits_at k w key))) k.waits.rows waits2.rows) r.last_is put in
    let put3 = subst (λ (z : On). PutsInOrder w.task.0 (Some (with_on (with_want w r.what) z)) k.waits.rows waits2.rows) same put2 in
    let reason = waits_at (kernel_there k r) (with_want w r.what) key in
    onward header h outside doing past events r.mid.events (record (with_state k new) { waits = waits2 }) new.ids new.events r.goes
    (word_reaches header h outside doing past (kernel_there k r) r.mid.ids (with_want w r.what) may key r.mid.events new waits2 r.works r.is now r.ran
    (puts_over w.task.0 (Some (with_want w r.what)) (Some (with_on (with_want w r.what) reason)) k.waits.rows r.waits.rows waits2.rows r.put r.back put3))

-- it wants a frame: it stands in the queue, or joins it
pub queued_runs : (header : Header) (h : ℕ) (outside : Outside) (doing : Command) (past : List Event) (k : Parts) (ids : Ids) (w : Waiting) (may : Bool)
    (source : Option PageKey) (last : Want) (events : List Event) (new : FaultState) (waits2 : WaitTable)
    → Works header h k ids woken.Nobody (events ++ past) → entry k.waits.rows w.task.0 ≡ Some w → runs_now w.on ≡ true
    → Runs k.maps k.host w.task may (step.NeedFrame source) w.want last (state_of k ids events) new
    → PutsInOrder w.task.0 (Some (with_on (with_want w last) on.Frame)) k.waits.rows waits2.rows
    → Reaches header h outside doing past events (record (with_state k new) { waits = waits2 }) new.ids new.events
queued_runs header h outside doing past k ids w may source last events new waits2 works is now runs put =
    let r = runs_to header h outside doing past events k ids w may (step.NeedFrame source) last new works is now runs in
    let put2 = subst (λ (z : Want). PutsInOrder w.task.0 (Some (with_on (with_want w z) on.Frame)) k.waits.rows waits2.rows) r.last_is put in
    onward header h outside doing past events r.mid.events (record (with_state k new) { waits = waits2 }) new.ids new.events r.goes
    (queued_reaches header h outside doing past (kernel_there k r) r.mid.ids (with_want w r.what) may source r.mid.events new waits2 r.works r.is now r.ran
    (puts_over w.task.0 (Some (with_want w r.what)) (Some (with_on (with_want w r.what) on.Frame)) k.waits.rows r.waits.rows waits2.rows r.put r.back put2))

pub wants_there : (header : Header) (h : ℕ) (outside : Outside) (doing : Command) (past : List Event) (k : Parts) (ids : Ids) (w : Waiting) (may : Bool)
    (source : Option PageKey) (last : Want) (events : List Event) (new : FaultState) (waits2 : WaitTable)
    → Works header h k ids woken.Nobody (events ++ past) → entry k.waits.rows w.task.0 ≡ Some w → runs_now w.on ≡ true → unserved k w ≡ None
    → Runs k.maps k.host w.task may (step.NeedFrame source) w.want last (state_of k ids events) new
    → Wanting header h w may source (record (with_state k new) { waits = waits2 }) (new.events ++ past)
wants_there header h outside doing past k ids w may source last events new waits2 works is now served runs = by w.want refl
  where
    plain : IsOfNumber w.want → Wanting header h w may source (record (with_state k new) { waits = waits2 }) (new.events ++ past)
    plain number =
        wanting_of header h outside doing past k ids w may source events new waits2 works is now (access_served w works is served) (stops_once number runs)

    by : (what : Want) → w.want ≡ what → Wanting header h w may source (record (with_state k new) { waits = waits2 }) (new.events ++ past)
    by (want.Load address size) same = plain (subst IsOfNumber (sym same) tt)
    by (want.Store address size value) same = plain (subst IsOfNumber (sym same) tt)
    by (want.CopyTo address pages target next) same =
        let r = runs_to header h outside doing past events k ids w may (step.NeedFrame source) last new works is now runs in
        let copying : is_copying r.what ≡ true = ap is_copying (r.is_what ∙ ap (after_pages r.made) same) in
        let there = wanting_of header h outside doing past (kernel_there k r) r.mid.ids (with_want w r.what) may source r.mid.events new waits2 r.works r.is now
        (copy_served (with_want w r.what) r.works r.is copying) r.ran in
        record { wants = there.wants; mine = there.mine; to_copy = there.to_copy; exact = there.exact; none = there.none }

-- it has ended

-- a slow copy has made its last page
pub record CopiesLast (header : Header) (h : ℕ) (outside : Outside) (doing : Command) (past events : List Event) (k : Parts) (w : Waiting) (new : FaultState)
    (address pages : ℕ) (target : ObjectId) : Type 0 where
  pub next : ℕ
  pub waits : WaitTable
  pub copying : Copying header h (record (with_state k new) { waits = waits }) new.ids (new.events ++ past)
      (with_want w (want.CopyTo address pages target next)) address pages target next
  pub last : next + 1 ≡ pages
  pub goes : LegalEvents header h outside doing past events new.events
  pub over : (x : Option Waiting) (rows : List Waiting) → PutsInOrder w.task.0 x k.waits.rows rows → PutsInOrder w.task.0 x waits.rows rows

at_copying : (header : Header) (h : ℕ) (past : List Event) (k : Parts) (new : FaultState) (chains : ChainTable) (copies : CopyTable) (ids : Ids)
    (events : List Event) (waits : WaitTable) (w : Waiting) (address pages : ℕ) (target : ObjectId) (next : ℕ) → new.chains ≡ chains → new.copies ≡ copies
    → new.ids ≡ ids
    → new.events ≡ events
    → Copying header h (record k { memory = new.parts; chains = chains; copies = copies; waits = waits }) ids (events ++ past) w address pages target next
    → Copying header h (record (with_state k new) { waits = waits }) new.ids (new.events ++ past) w address pages target next
at_copying header h past k new chains copies ids events waits w address pages target next same_chains same_copies same_ids told copying =
    subst (λ (z : List Event). Copying header h (record (with_state k new) { waits = waits }) new.ids (z ++ past) w address pages target next) (sym told)
    (subst (λ (z : Ids). Copying header h (record (with_state k new) { waits = waits }) z (events ++ past) w address pages target next) (sym same_ids)
    (subst (λ (z : CopyTable). Copying header h (record k { memory = new.parts; chains = new.chains; copies = z; waits = waits }) ids (events ++ past) w address
    pages target next) (sym same_copies)
    (subst (λ (z : ChainTable). Copying header h (record k { memory = new.parts; chains = z; copies = copies; waits = waits }) ids (events ++ past) w address
    pages target next) (sym same_chains) copying)))

-- the page behind which there is none is the last one
last_page : (next pages : ℕ) → nat_lt (next + 1) pages ≡ false → next < pages → next + 1 ≡ pages
last_page next pages none left = grind (arith, nat_tests)

copies_last : (header : Header) (h : ℕ) (outside : Outside) (doing : Command) (past : List Event) (k : Parts) (ids : Ids) (w : Waiting) (may : Bool) (value : ℕ)
    (last : Want) (events : List Event) (new : FaultState) (address pages : ℕ) (target : ObjectId) (first : ℕ) → w.want ≡ want.CopyTo address pages target first
    → Works header h k ids woken.Nobody (events ++ past) → entry k.waits.rows w.task.0 ≡ Some w → runs_now w.on ≡ true
    → Runs k.maps k.host w.task may (step.Done value) w.want last (state_of k ids events) new
    → CopiesLast header h outside doing past events k w new address pages target
copies_last header h outside doing past k ids w may value last events new address pages target first copy works is now runs =
    let r = runs_to header h outside doing past events k ids w may (step.Done value) last new works is now runs in
    let next = first + r.made in
    let what = want.CopyTo address pages target next in
    let same : r.what ≡ what = r.is_what ∙ ap (after_pages r.made) copy in
    let w2 = with_want w what in
    let there : entry r.waits.rows w.task.0 ≡ Some w2 = r.is ∙ ap (λ z. Some (with_want w z)) same in
    let ran : Faulted k.maps k.host w.task what may (step.Done value) r.mid new = subst
    (λ (z : Want). Faulted k.maps k.host w.task z may (step.Done value) r.mid new) same r.ran in
    let none : nat_lt (next + 1) pages ≡ false = subst (λ (z : Want). has_more z ≡ false) same r.over in
    let left : next < pages = (sized_of r.works there refl).1 in
    let page = makes_page address pages target next ran in
    let moment = r.mid.events ++ past in
    let e = event.CopiedPage w.task (record { 0 = next }) page.key.object page.key.page target in
    let copying = page_copied header h moment (kernel_there k r) r.mid.ids w2 address pages target next page.key page.row new.parts r.mid.events new.events
    r.works there now refl page.finds.found page.finds.here page.copies in
    let follows = copy_follows header h outside doing moment (kernel_there k r) r.mid.ids w2 page.top address pages target next page.steps page.key page.row
    new.parts r.mid.events new.events r.works there now refl page.at page.finds page.open_to page.copies in
    let one = goes_one header h outside doing past r.mid.events e r.works.matches.settled follows in
    record {
      next = next;
      waits = r.waits;
      copying =
          at_copying header h past k new r.mid.chains r.mid.copies r.mid.ids (e ∷ r.mid.events) r.waits w2 address pages target next page.chains page.kept
          page.ids
          page.copies.told
          copying;
      last = last_page next pages none left;
      goes =
          subst (λ (z : List Event). LegalEvents header h outside doing past events z) (sym page.copies.told)
          (goes_both header h outside doing past events r.mid.events (e ∷ r.mid.events) r.goes one);
      over = λ x rows put. puts_over w.task.0 (Some (with_want w r.what)) x k.waits.rows r.waits.rows rows r.put r.back put;
    }

-- whichever its next page is
same_end : (task : TaskId) (address pages : ℕ) (target : ObjectId) (first next : ℕ) (destination : Option Destination) (k k2 : Parts)
    (before after : List Event) → EndsWant task (want.CopyTo address pages target first) destination k k2 before after
    → EndsWant task (want.CopyTo address pages target next) destination k k2 before after
same_end task address pages target first next None k k2 before after did = did
same_end task address pages target first next (Some to) k k2 before after did = did

same_can : (task address pages : ℕ) (target : ObjectId) (first next : ℕ) (destination : Option Destination) (k : Parts)
    → CanEndWant task (want.CopyTo address pages target next) destination k → CanEndWant task (want.CopyTo address pages target first) destination k
same_can task address pages target first next None k can = can
same_can task address pages target first next (Some to) k can = can

-- the row goes, and what a slow copy filled can be mapped
pub can_end : (header : Header) (h : ℕ) (outside : Outside) (doing : Command) (past : List Event) (k : Parts) (ids : Ids) (w : Waiting) (may : Bool) (value : ℕ)
    (last : Want) (events : List Event) (new : FaultState) (waits2 : WaitTable)
    → Works header h k ids woken.Nobody (events ++ past) → entry k.waits.rows w.task.0 ≡ Some w → runs_now w.on ≡ true
    → Runs k.maps k.host w.task may (step.Done value) w.want last (state_of k ids events) new → CanEndCopy w (record (with_state k new) { waits = waits2 })
can_end header h outside doing past k ids w may value last events new waits2 works is now runs =
    subst (λ (z : Want). CanEndWant w.task.0 z w.destination (record (with_state k new) { waits = waits2 })) refl (by w.want refl)
  where
    by : (what : Want) → w.want ≡ what → CanEndWant w.task.0 what w.destination (record (with_state k new) { waits = waits2 })
    by (want.Load address size) same = tt
    by (want.Store address size number) same = tt
    by (want.CopyTo address pages target first) same =
        let c = copies_last header h outside doing past k ids w may value last events new address pages target first same works is now runs in
        same_can w.task.0 address pages target first c.next w.destination (record (with_state k new) { waits = waits2 })
        (can_end_copy header h (record (with_state k new) { waits = c.waits }) new.ids (new.events ++ past)
        (with_want w (want.CopyTo address pages target c.next)) address pages target c.next waits2 c.copying)

-- it has ended, and what a slow copy filled is mapped
pub done_runs : (header : Header) (h : ℕ) (outside : Outside) (doing : Command) (past : List Event) (k k2 : Parts) (ids : Ids) (w : Waiting) (may : Bool)
    (value : ℕ) (last : Want) (events : List Event) (new : FaultState) (waits2 : WaitTable) (after : List Event)
    → Works header h k ids woken.Nobody (events ++ past) → entry k.waits.rows w.task.0 ≡ Some w → runs_now w.on ≡ true
    → unserved k w ≡ None → Runs k.maps k.host w.task may (step.Done value) w.want last (state_of k ids events) new
    → PutsInOrder w.task.0 None k.waits.rows waits2.rows → EndsCopyIn w (record (with_state k new) { waits = waits2 }) k2 new.events after
    → Reaches header h outside doing past events k2 new.ids after
done_runs header h outside doing past k k2 ids w may value last events new waits2 after works is now served runs put did = by w.want refl did
  where
    plain : IsOfNumber w.want → DidNothing (record (with_state k new) { waits = waits2 }) k2 new.events after
        → Reaches header h outside doing past events k2 new.ids after
    plain number nothing =
        subst (λ (z : Parts). Reaches header h outside doing past events z new.ids after) (sym nothing.same)
        (subst (λ (z : List Event). Reaches header h outside doing past events (record (with_state k new) { waits = waits2 }) new.ids z) (sym nothing.told)
        (done_reaches header h outside doing past k ids w may value events new waits2 number works is now (access_served w works is served)
        (stops_once number runs) put))

    by : (what : Want) → w.want ≡ what → EndsWant w.task what w.destination (record (with_state k new) { waits = waits2 }) k2 new.events after
        → Reaches header h outside doing past events k2 new.ids after
    by (want.Load address size) same nothing = plain (subst IsOfNumber (sym same) tt) nothing
    by (want.Store address size number) same nothing = plain (subst IsOfNumber (sym same) tt) nothing
    by (want.CopyTo address pages target first) same ends =
        let c = copies_last header h outside doing past k ids w may value last events new address pages target first same works is now runs in
        let ended = copy_ended header h outside doing (record (with_state k new) { waits = c.waits }) k2 new.ids past
        (with_want w (want.CopyTo address pages target c.next)) address pages target c.next waits2 new.events after c.copying c.last now
        (c.over None waits2.rows put)
        (same_end w.task address pages target first c.next w.destination (record (with_state k new) { waits = waits2 }) k2 new.events after ends) in
        record { works = ended.works; goes = goes_both header h outside doing past events new.events after c.goes ended.goes }

-- what else it leaves

-- a kernel's waits, laundry and pages are as they were, and nobody was run
pub record KeepsRest (w : Waiting) (k k2 : Parts) (before after : List Event) : Type 0 where
  pub waits : k2.waits ≡ k.waits
  pub laundry : k2.laundry ≡ k.laundry
  pub plays : (header : Header) (past first : List Event) (old : Paging) → Plays header past first old before (paging k)
      → Plays header past first old after (paging k2)

pub keeps_rest : (w : Waiting) (k k2 : Parts) (before after : List Event) → EndsCopyIn w k k2 before after → KeepsRest w k k2 before after
keeps_rest w k k2 before after did = by w.want w.destination did
  where
    nothing : DidNothing k k2 before after → KeepsRest w k k2 before after
    nothing none =
        record {
          waits = ap (λ (z : Parts). z.waits) none.same;
          laundry = ap (λ (z : Parts). z.laundry) none.same;
          plays =
              λ header past first old plays. subst (λ (z : List Event). Plays header past first old z (paging k2)) (sym none.told)
              (subst (λ (z : Parts). Plays header past first old before (paging z)) (sym none.same) plays);
        }

    by : (what : Want) (destination : Option Destination) → EndsWant w.task what destination k k2 before after → KeepsRest w k k2 before after
    by (want.Load address size) destination none = nothing none
    by (want.Store address size value) destination none = nothing none
    by (want.CopyTo address pages target next) None none = nothing none
    by (want.CopyTo address pages target next) (Some to) ends =
        record {
          waits = ends.waits;
          laundry = ends.laundry;
          plays = λ header past first old plays.
              let last : ◌≡◌ {A = Paging} (paging k2) (paging k) = ap (λ (z : HostParts). paging (record k { memory = z })) ends.memory in
              subst (λ (z : List Event). Plays header past first old z (paging k2)) (sym ends.told)
              (subst (λ (z : Paging). Plays header past first old (got w.task (filled_entry k.size pages to) ∷ event.CopyEnded w.task ∷ before) z) (sym last)
              (Then (got w.task (filled_entry k.size pages to)) (event.CopyEnded w.task ∷ before) (paging k) (paging k)
              (Then (event.CopyEnded w.task) before (paging k) (paging k) plays refl) refl));
        }

-- where a load or a store found its page, nothing came behind its end
pub ends_last : (header : Header) (h : ℕ) (past : List Event) (k k2 : Parts) (ids : Ids) (w : Waiting) (may : Bool) (value : ℕ) (last : Want)
    (events after : List Event) (new : FaultState) (waits2 : WaitTable) → Works header h k ids woken.Nobody (events ++ past)
    → entry k.waits.rows w.task.0 ≡ Some w
    → Runs k.maps k.host w.task may (step.Done value) w.want last (state_of k ids events) new
    → EndsCopyIn w (record (with_state k new) { waits = waits2 }) k2 new.events after → FindsPage header w.task.0 (events ++ past)
    → EndsNext w.task.0 events after
ends_last header h past k k2 ids w may value last events after new waits2 works is runs did finds =
    let ends = ends_next header h past k ids w may (step.Done value) last events new works is runs finds in
    subst (λ (z : List Event). EndsNext w.task.0 events z) (sym (told_plain w.want w.destination
    (number_of_found header h (events ++ past) k ids w works is finds) did)) ends
  where
    told_plain : (what : Want) (destination : Option Destination) → IsOfNumber what
        → EndsWant w.task what destination (record (with_state k new) { waits = waits2 }) k2 new.events after → after ≡ new.events
    told_plain (want.Load address size) destination number none = none.told
    told_plain (want.Store address size number2) destination number none = none.told
    told_plain (want.CopyTo address pages target next) destination number none = absurd number

-- it was run once, and has ended
pub once_ended : (header : Header) (h : ℕ) (past : List Event) (k k2 : Parts) (ids : Ids) (w : Waiting) (may : Bool) (value : ℕ) (last : Want)
    (events after : List Event) (new : FaultState) (waits2 : WaitTable) → Works header h k ids woken.Nobody (events ++ past)
    → entry k.waits.rows w.task.0 ≡ Some w
    → Runs k.maps k.host w.task may (step.Done value) w.want last (state_of k ids events) new → (may ≡ false → free new.parts.frames ≡ free k.memory.frames)
    → PutsEntry w.task.0 None k.waits.rows waits2.rows → waits2.queue ≡ queue_without w.task.0 k.waits.queue
    → EndsCopyIn w (record (with_state k new) { waits = waits2 }) k2 new.events after → RunsOnce w may false k.waits k2.waits events after
once_ended header h past k k2 ids w may value last events after new waits2 works is runs kept put queue did =
    subst (λ (z : WaitTable). RunsOnce w may false k.waits z events after) (sym (keeps_rest w (record (with_state k new) { waits = waits2 }) k2 new.events after
    did).waits) (by w.want refl did)
  where
    plain : is_copying w.want ≡ false → DidNothing (record (with_state k new) { waits = waits2 }) k2 new.events after
        → RunsOnce w may false k.waits waits2 events after
    plain other nothing =
        subst (λ (z : List Event). RunsOnce w may false k.waits waits2 events z) (sym nothing.told)
        (once_done w may value k.waits waits2 other runs kept put queue)

    goes_to : (address pages first : ℕ) (target : ObjectId) → w.want ≡ want.CopyTo address pages target first → (to : Destination) × (w.destination ≡ Some to)
    goes_to address pages first target same = let slow = slow_of works is same in (slow.to, slow.goes)

    by : (what : Want) → w.want ≡ what → EndsWant w.task what w.destination (record (with_state k new) { waits = waits2 }) k2 new.events after
        → RunsOnce w may false k.waits waits2 events after
    by (want.Load address size) same nothing = plain (ap is_copying same) nothing
    by (want.Store address size number) same nothing = plain (ap is_copying same) nothing
    by (want.CopyTo address pages target first) same ends =
        let goes = goes_to address pages first target same in
        let filled = maps_filled w address pages target first goes.0 (record (with_state k new) { waits = waits2 }) k2 new.events after same goes.1 did in
        once_filled w may value k.waits waits2 goes.0.address (pages * k.size) goes.0.region after (ap is_copying same) runs kept filled.told put queue

-- it wants a frame, and stands in the queue
pub joins_queue : (header : Header) (h : ℕ) (outside : Outside) (doing : Command) (past : List Event) (k : Parts) (ids : Ids) (w : Waiting) (may : Bool)
    (source : Option PageKey) (last : Want) (events : List Event) (new : FaultState) (waits2 : WaitTable)
    → Works header h k ids woken.Nobody (events ++ past) → entry k.waits.rows w.task.0 ≡ Some w → runs_now w.on ≡ true
    → unserved k w ≡ None → Runs k.maps k.host w.task may (step.NeedFrame source) w.want last (state_of k ids events) new
    → RunsOnce w may true k.waits waits2 events new.events
    → count_again waits2.rows + one_again w.on ≡ count_again k.waits.rows → queued waits2.rows ≡ queued k.waits.rows + (1 - one_frame w.on)
    → pages_to_copy waits2.rows + pages_left w.want ≡ pages_to_copy k.waits.rows + pages_left last
    → JoinsQueue header h w may source k (record (with_state k new) { waits = waits2 }) (events ++ past) (new.events ++ past)
joins_queue header h outside doing past k ids w may source last events new waits2 works is now served runs once agains queues left =
    let there = wants_there header h outside doing past k ids w may source last events new waits2 works is now served runs in
    record {
      claims = once.claims;
      front = once.more;
      prepared = once.nothing refl;
      same = ap (λ z. z ++ past) once.told ∙ append_assoc once.more events past;
      wants = there.wants;
      mine = there.mine;
      to_copy = there.to_copy;
      exact = there.exact;
      none = there.none;
      again = agains;
      queued = queues;
      claimed = joins_claimed k.waits.rows waits2.rows runs left;
      laundry = refl;
    }

-- a task's row, where something is said of it
pub if_row : (rows : List Waiting) (t : ℕ) (w : Waiting) (P : Waiting → Type 0) → entry rows t ≡ Some w → IfSome (entry rows t) P → P w
if_row rows t w P is holds = subst (λ z. IfSome z P) is holds

-- the want that is left to do was noted
pub noted : (w : Waiting) (last : Want) (rows new : List Waiting) → entry rows w.task.0 ≡ Some w
    → IfSome (entry rows w.task.0) (λ was. PutsEntry w.task.0 (Some (with_want was last)) rows new) → new ≡ map (rewanted w.task.0 last) rows
    → PutsInOrder w.task.0 (Some (with_want w last)) rows new
noted w last rows new is puts mapped =
    record {
      entry = if_row rows w.task.0 w (λ was. PutsEntry w.task.0 (Some (with_want was last)) rows new) is puts;
      order = rewanted_keeps w.task.0 last rows new mapped;
    }

pub noted_row : (w : Waiting) (last : Want) (rows new : List Waiting) → PutsInOrder w.task.0 (Some (with_want w last)) rows new
    → entry new w.task.0 ≡ Some (with_want w last)
noted_row w last rows new put = puts_itself w.task.0 (with_want w last) rows new put

-- and then what it waits for
pub noted_turned : (w : Waiting) (last : Want) (reason : On) (rows mid new : List Waiting) → PutsInOrder w.task.0 (Some (with_want w last)) rows mid
    → IfSome (entry mid w.task.0) (λ was. PutsEntry w.task.0 (Some (with_on was reason)) mid new) → new ≡ map (turned w.task.0 reason) mid
    → PutsInOrder w.task.0 (Some (with_on (with_want w last) reason)) rows new
noted_turned w last reason rows mid new put puts mapped =
    puts_twice w.task.0 (Some (with_want w last)) (Some (with_on (with_want w last) reason)) rows mid new put
    (record {
      entry = if_row mid w.task.0 (with_want w last) (λ was. PutsEntry w.task.0 (Some (with_on was reason)) mid new) (noted_row w last rows mid put)
          puts;
      order = turned_keeps w.task.0 reason mid new mapped;
    })

-- or that it is over
pub noted_gone : (w : Waiting) (last : Want) (rows mid new : List Waiting) → PutsInOrder w.task.0 (Some (with_want w last)) rows mid
    → PutsEntry w.task.0 None mid new → new ≡ rows_without w.task.0 mid → PutsInOrder w.task.0 None rows new
noted_gone w last rows mid new put puts mapped =
    puts_twice w.task.0 (Some (with_want w last)) None rows mid new put (record { entry = puts; order = without_keeps w.task.0 mid new mapped })
