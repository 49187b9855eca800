-- An access that finds its page ends at once.
use Rattle.vm_kernel.proofs.Common.{Backing, Bool, Comes, Command, EndsNext, Event, FindsPage, FrameNo, GoesNext, Header, HostId, HostParts, Ids, IsAt, IsEnd}
use Rattle.vm_kernel.proofs.Common.{IsNext, IsNextAccess, IsOfNumber, IsTop, LegalEvents, List, Loading, Option, Outside, PageKey, PageRow, Parts, RegionRow}
use Rattle.vm_kernel.proofs.Common.{Sight, Some, Storing, TaskId, ToRead, ToWrite, Waiting, Waits, Walks, Want, Works, [], access_in, address_in, ap}
use Rattle.vm_kernel.proofs.Common.{append_assoc, backing_of, copies_to, count_again, entries_of, entry, entry_at, false, has_pager, inl, inr, is_again}
use Rattle.vm_kernel.proofs.Common.{is_some, page_at, page_on, refl, region_of, sight, some_is, subst, suc, sym, true, waiting, waiting_in, zero, ℕ, ◌%◌, ◌&&◌}
use Rattle.vm_kernel.proofs.Common.{◌++◌, ◌∙◌, ◌∷◌, ◌≡◌, ◌⊎◌}
use Rattle.vm_base.specs.declared.entry.Entry.{Entry}
use Rattle.vm_fault.specs.Faults.{AfterZeros, AtOnce, Copied, Ended, FaultState, Faulted, Hits, Needs, Nowhere, Prepares, Raised, Runs, ToAsk, ToCopy, ToRaise}
use Rattle.vm_fault.specs.Faults as fault
use Rattle.vm_fault.specs.Walks.{Finds, is_storing, keeps_out, top_place, writes_at}
use Rattle.vm_fault.specs.declared.step.FaultStep.{FaultStep}
use Rattle.vm_fault.specs.declared.step.FaultStep.TheVariants as step
use Rattle.vm_kernel.proofs.steps.AccessRun.{state_of}
use Rattle.vm_kernel.proofs.memory.WalkLands.{Lands, never_asked, never_comes, never_sinks, not_passed, stop_same}
use Rattle.vm_kernel.proofs.steps.WhereAccessLeads.{Leads, leads_of}
use Rattle.vm_kernel.proofs.steps.LoadsAndStores.{no_copy, stops_once}
use Rattle.vm_model.specs.declared.event.Event.TheVariants as event
use Rattle.vm_shadow.specs.Chains.{ChainTable}
use Rattle.vm_state.proofs.Shown.{IsShown, shows_row}
use Rattle.vm_state.proofs.Walks.{walks_of}
use Rattle.vm_supply.specs.declared.woken.Woken.TheVariants as woken
use Rattle.vm_terminate.specs.Finishes.{IsReferred}
use Rattle.vm_waits.specs.declared.waiting.Want.TheVariants as want
use Rattle.vm_kernel.proofs.memory.WalksShown.{shown_at}
use Rattle.vm_state.proofs.Locks.{kept_anywhere, names_kept}
use Rattle.vm_legal.specs.Accesses.{names}
use Rattle.vm_legal.specs.InTurn.{IsFailureOf}
use Rattle.std.proofs.lemmas.Bool.{and_left, and_right}
use Rattle.vm_model.specs.Waiting.{Copying}
use Rattle.std.specs.Prelude.{◌*◌}
use Rattle.std.specs.Prelude.{None}
use Rattle.vm_kernel.proofs.memory.PagesPushed.{unowed_here}
use Rattle.vm_legal.specs.Pushes.{OwesPush}
use Rattle.vm_fault.specs.Faults.{Pushed, ToPush}
use Rattle.vm_fault.specs.Pushes.{owed_at}
use Rattle.vm_copies.specs.Copies.{CopyTable}

pub some_same : {A : Type 0} (x y : A) → Some x ≡ Some y → x ≡ y
some_same x y e = cc

-- a chain with nothing under it has one place
pub walk_ends : (sights : ℕ → ℕ → Sight) (backings : ℕ → Backing) (steps o p l lp : ℕ) → (backings o).backed ≡ false → Walks sights backings steps o p l lp
    → (o ≡ l) × (p ≡ lp)
walk_ends sights backings zero o p l lp bare walks = walks
walk_ends sights backings (suc n) o p l lp bare walks = absurd (let bad : true ≡ false = sym walks.1 ∙ bare in cc)

-- where a waiting access finds its page: its walk ends there, that of a store at the top place
pub record FindsAt (header : Header) (h : ℕ) (past : List Event) (what : Want) (top : PageKey) : Type 0 where
  pub number : IsOfNumber what
  pub steps : ℕ
  pub object : ℕ
  pub page : ℕ
  pub walks : Walks (λ k q. sight header h k q past) (λ k. backing_of header k past) steps top.object.0 top.page.0 object page
  pub here : (page_on header h object page past).here ≡ true
  pub first : is_storing what ≡ true → steps ≡ 0
  pub open_to : names (page_on header h object page past).lock (is_storing what) ≡ false

-- the access is the one that waits, on the host of its task, at the entry that holds its address

-- a load
read_at : (header : Header) (h : ℕ) (past : List Event) (k : Parts) (task address bytes object page : ℕ) (what : Want) (top : PageKey)
    (at : IsAt k.maps k.chains task what top) → Leads header h past k task what top at → (waits : Waits header task (Loading address bytes) past)
    → Comes header waits.at.host waits.at.entry.region.0 (page_at header.size address waits.at.entry) object page past
    → (page_on header waits.at.host object page past).here ≡ true → names (page_on header waits.at.host object page past).lock false ≡ false
    → FindsAt header h past what top
read_at header h past k task address bytes object page what top at to waits comes here open_to =
    by what refl
  where
    load_address : (a n a2 n2 : ℕ) → Some (Loading a n) ≡ Some (Loading a2 n2) → a ≡ a2
    load_address a n a2 n2 same = cc

    by : (want2 : Want) → what ≡ want2 → FindsAt header h past what top
    by (want.CopyTo a pages target next) is =
        absurd (let bad : Some (Copying a (pages * k.maps.size) to.destination) ≡ Some (Loading address bytes) = sym
        (to.waits ∙ ap (λ z. Some (access_in k.maps.size to.destination z)) is) ∙ waits.waits in cc)
    by (want.Store a n v) is =
        absurd (let bad : Some (Storing a n v) ≡ Some (Loading address bytes) = sym (to.waits ∙ ap (λ z. Some (access_in k.maps.size to.destination z)) is)
        ∙ waits.waits in cc)
    by (want.Load a n) is =
        let access : Some (Loading a n) ≡ Some (Loading address bytes) = sym (to.waits ∙ ap (λ z. Some (access_in k.maps.size to.destination z)) is)
        ∙ waits.waits in
        let same : address_in k.maps.size what ≡ address = ap (address_in k.maps.size) is ∙ load_address a n address bytes access in
        let host : waits.at.host ≡ h = some_is waits.at.host h (sym waits.at.lives ∙ to.lives) in
        let entries : waits.at.entry ≡ at.entry = some_is waits.at.entry at.entry
        (sym waits.at.found ∙ (ap (λ z. entry_at z (entries_of header.size task past)) (sym same) ∙ to.found)) in
        let comes2 : Comes header h at.entry.region.0 (page_at header.size (address_in k.maps.size what) at.entry) object page past =
        subst (λ (z : ℕ). Comes header h at.entry.region.0 (page_at header.size z at.entry) object page past) (sym same)
        (subst (λ (z : Entry). Comes header h z.region.0 (page_at header.size address z) object page past) entries
        (subst (λ (z : ℕ). Comes header z waits.at.entry.region.0 (page_at header.size address waits.at.entry) object page past) host comes)) in
        let top_object : comes2.top ≡ top.object.0 = sym comes2.is_top.object ∙ to.is_top.object in
        let top_page : comes2.top_page ≡ top.page.0 = sym comes2.is_top.page ∙ to.is_top.page in
        record {
          number = subst IsOfNumber (sym is) tt;
          steps = comes2.steps;
          object = object;
          page = page;
          walks = subst (λ (z : ℕ). Walks (λ k q. sight header h k q past) (λ k. backing_of header k past) comes2.steps z top.page.0 object page) top_object
              (subst (λ (z : ℕ). Walks (λ k q. sight header h k q past) (λ k. backing_of header k past) comes2.steps comes2.top z object page) top_page
              comes2.walks);
          here = subst (λ (z : ℕ). (page_on header z object page past).here ≡ true) host here;
          first = λ stores. absurd (let bad : false ≡ true = sym (ap is_storing is) ∙ stores in cc);
          open_to =
              ap (names (page_on header h object page past).lock) (ap is_storing is)
              ∙ subst (λ (z : ℕ). names (page_on header z object page past).lock false ≡ false) host open_to;
        }

-- a store, and that its region has no mark
record WritesAt (header : Header) (h : ℕ) (past : List Event) (what : Want) (top : PageKey) (region : ℕ) : Type 0 where
  pub finds : FindsAt header h past what top
  pub unmarked : (region_of header region past).mark ≡ false
  pub paid : (copy : ℕ) → OwesPush header h top.object.0 top.page.0 copy past → ⊥

write_at : (header : Header) (h : ℕ) (past : List Event) (k : Parts) (task address bytes value object page : ℕ) (what : Want) (top : PageKey)
    (at : IsAt k.maps k.chains task what top) → Leads header h past k task what top at
    → (waits : Waits header task (Storing address bytes value) past)
    → IsTop (region_of header waits.at.entry.region.0 past) (page_at header.size address waits.at.entry) object page
    → (region_of header waits.at.entry.region.0 past).mark ≡ false
    → (page_on header waits.at.host object page past).here ≡ true → names (page_on header waits.at.host object page past).lock true ≡ false
    → ((copy : ℕ) → OwesPush header waits.at.host object page copy past → ⊥)
    → WritesAt header h past what top at.entry.region.0
write_at header h past k task address bytes value object page what top at to waits is_top unmarked here open_to paid =
    by what refl
  where
    store_address : (a n v a2 n2 v2 : ℕ) → Some (Storing a n v) ≡ Some (Storing a2 n2 v2) → a ≡ a2
    store_address a n v a2 n2 v2 same = cc

    by : (want2 : Want) → what ≡ want2 → WritesAt header h past what top at.entry.region.0
    by (want.CopyTo a pages target next) is =
        absurd (let bad : Some (Copying a (pages * k.maps.size) to.destination) ≡ Some (Storing address bytes value) = sym
        (to.waits ∙ ap (λ z. Some (access_in k.maps.size to.destination z)) is) ∙ waits.waits in cc)
    by (want.Load a n) is =
        absurd (let bad : Some (Loading a n) ≡ Some (Storing address bytes value) = sym (to.waits ∙ ap (λ z. Some (access_in k.maps.size to.destination z)) is)
        ∙ waits.waits in cc)
    by (want.Store a n v) is =
        let access : Some (Storing a n v) ≡ Some (Storing address bytes value) = sym (to.waits ∙ ap (λ z. Some (access_in k.maps.size to.destination z)) is)
        ∙ waits.waits in
        let same : address_in k.maps.size what ≡ address = ap (address_in k.maps.size) is ∙ store_address a n v address bytes value access in
        let host : waits.at.host ≡ h = some_is waits.at.host h (sym waits.at.lives ∙ to.lives) in
        let entries : waits.at.entry ≡ at.entry = some_is waits.at.entry at.entry
        (sym waits.at.found ∙ (ap (λ z. entry_at z (entries_of header.size task past)) (sym same) ∙ to.found)) in
        let top2 : IsTop (region_of header at.entry.region.0 past) (page_at header.size (address_in k.maps.size what) at.entry) object page =
        subst (λ (z : ℕ). IsTop (region_of header at.entry.region.0 past) (page_at header.size z at.entry) object page) (sym same)
        (subst (λ (z : Entry). IsTop (region_of header z.region.0 past) (page_at header.size address z) object page) entries is_top) in
        record {
          finds = record {
            number = subst IsOfNumber (sym is) tt;
            steps = 0;
            object = object;
            page = page;
            walks = (sym to.is_top.object ∙ top2.object, sym to.is_top.page ∙ top2.page);
            here = subst (λ (z : ℕ). (page_on header z object page past).here ≡ true) host here;
            first = λ stores. refl;
            open_to =
                ap (names (page_on header h object page past).lock) (ap is_storing is)
                ∙ subst (λ (z : ℕ). names (page_on header z object page past).lock true ≡ false) host open_to;
          };
          unmarked = subst (λ (z : Entry). (region_of header z.region.0 past).mark ≡ false) entries unmarked;
          paid = λ copy owes. paid copy (subst (λ (z : ℕ). OwesPush header z object page copy past) (sym host)
              (subst (λ (z : ℕ). OwesPush header h z page copy past) (sym to.is_top.object ∙ top2.object)
              (subst (λ (z : ℕ). OwesPush header h top.object.0 z copy past) (sym to.is_top.page ∙ top2.page) owes)));
        }

-- where it finds its page, the region of a store has no mark
pub record FindsFirst (header : Header) (h : ℕ) (past : List Event) (what : Want) (top : PageKey) (row : RegionRow) : Type 0 where
  pub finds : FindsAt header h past what top
  pub bare : (is_storing what && row.marked) ≡ false
  pub paid : is_storing what ≡ true → (copy : ℕ) → OwesPush header h top.object.0 top.page.0 copy past → ⊥

pub finds_first : (header : Header) (h : ℕ) (past : List Event) (k : Parts) (task : ℕ) (what : Want) (top : PageKey) (at : IsAt k.maps k.chains task what top)
    → Leads header h past k task what top at → FindsPage header task past
    → FindsFirst header h past what top at.row
finds_first header h past k task what top at to (ToRead address bytes object page waits comes here open_it) =
    record {
      finds = read_at header h past k task address bytes object page what top at to waits comes here open_it;
      bare = and_left (is_storing what) at.row.marked (loads what refl);
      paid = λ stores. absurd (let bad : false ≡ true = sym (loads what refl) ∙ stores in cc);
    }
  where
    loads : (want2 : Want) → what ≡ want2 → is_storing what ≡ false
    loads (want.CopyTo a pages target next) is = ap is_storing is
    loads (want.Load a n) is = ap is_storing is
    loads (want.Store a n v) is =
        absurd (let bad : Some (Storing a n v) ≡ Some (Loading address bytes) = sym (to.waits ∙ ap (λ z. Some (access_in k.maps.size to.destination z)) is)
        ∙ waits.waits in cc)
finds_first header h past k task what top at to (ToWrite address bytes value object page waits is_top unmarked here open_it paid) =
    let writes = write_at header h past k task address bytes value object page what top at to waits is_top unmarked here open_it
    paid in
    record {
      finds = writes.finds;
      bare = and_right (is_storing what) at.row.marked (sym to.marks ∙ writes.unmarked);
      paid = λ stores. writes.paid;
    }

-- what the kernel's walk comes to is what the history's does

record Found (header : Header) (h : ℕ) (past : List Event) (parts : HostParts) (chains : ChainTable) (copies : CopyTable) (what : Want) (top : PageKey) : Type 0
  where
    pub number : IsOfNumber what
    pub shown : IsShown header h parts chains past
    pub referred : IsReferred parts.objects top.object.0
    pub finds : FindsAt header h past what top
    pub unowed : is_storing what ≡ true → owed_at copies top ≡ None

lands : {header : Header} {h : ℕ} {past : List Event} {parts : HostParts} {chains : ChainTable} {copies : CopyTable} {what : Want}
    {top : PageKey} → Found header h past parts chains copies what top → Lands header h past parts chains top
lands f =
    record {
      shown = f.shown;
      referred = f.referred;
      at = record {
        steps = f.finds.steps;
        object = f.finds.object;
        page = f.finds.page;
        walks = f.finds.walks;
        here = f.finds.here;
      };
    }

-- no lock keeps the access out where it is
never_locked : {header : Header} {h : ℕ} {past : List Event} {parts : HostParts} {chains : ChainTable} {copies : CopyTable} {what : Want}
    {top : PageKey} → Found header h past parts chains copies what top → (n : ℕ) (key : PageKey) (row : PageRow) → Finds parts chains n top key row
    → keeps_out row.lock (writes_at what n) ≡ true → ⊥
never_locked {header = header} {h = h} {past = past} {what = what} {top = top} f n key row finds locked =
    let shows = shows_row f.shown key.object.0 key.page.0 row finds.found finds.here in
    let same = stop_same (λ k q. sight header h k q past) (λ k. backing_of header k past) n f.finds.steps top.object.0 top.page.0 key.object.0 key.page.0
    f.finds.object f.finds.page (walks_of f.shown n top key finds.walks) f.finds.walks
    (not_passed header h past key.object.0 key.page.0 shows.here) (not_passed header h past f.finds.object f.finds.page f.finds.here) in
    let open_to : names (page_on header h key.object.0 key.page.0 past).lock (is_storing what) ≡ false =
    subst (λ (z : ℕ). names (page_on header h z key.page.0 past).lock (is_storing what) ≡ false) (sym same.1)
    (subst (λ (z : ℕ). names (page_on header h f.finds.object z past).lock (is_storing what) ≡ false) (sym same.2) f.finds.open_to) in
    let names_it : names (page_on header h key.object.0 key.page.0 past).lock (is_storing what) ≡ true =
    ap (λ z. names z (is_storing what)) shows.lock ∙ (names_kept row.lock (is_storing what) ∙ kept_anywhere row.lock what n locked) in
    let bad : false ≡ true = sym open_to ∙ names_it in
    cc

-- a store finds it in the top place
never_below : {header : Header} {h : ℕ} {past : List Event} {parts : HostParts} {chains : ChainTable} {copies : CopyTable} {what : Want}
    {top : PageKey} → Found header h past parts chains copies what top → (n : ℕ) (key : PageKey) (row : PageRow) → Finds parts chains (suc n) top key row
    → is_storing what ≡ true → ⊥
never_below {header = header} {h = h} {past = past} {top = top} f n key row below stores =
    let same = stop_same (λ k q. sight header h k q past) (λ k. backing_of header k past) (suc n) f.finds.steps top.object.0 top.page.0 key.object.0 key.page.0
    f.finds.object f.finds.page (walks_of f.shown (suc n) top key below.walks) f.finds.walks
    (not_passed header h past key.object.0 key.page.0 (shows_row f.shown key.object.0 key.page.0 row below.found below.here).here)
    (not_passed header h past f.finds.object f.finds.page f.finds.here) in
    let bad : suc n ≡ 0 = same.0 ∙ f.finds.first stores in
    cc

-- and owes it nowhere
owes_none : {found : Option PageKey} {place : PageKey} → found ≡ None → found ≡ Some place → ⊥
owes_none {place = place} none owed = let bad : None ≡ Some place = sym none ∙ owed in cc

-- so it ends with that page

hits_next : (task : TaskId) (what : Want) (key : PageKey) (frame : FrameNo) (at value : ℕ) (e : Event) (old new : HostParts) (before after : List Event)
    → Hits task what key frame at value e old new → after ≡ e ∷ before → EndsNext task.0 before after
hits_next task (want.Load address n) key frame at value e old new before after hits told =
    record { later = []; end = event.Loaded task key.object key.page value; is = told ∙ ap (λ z. z ∷ before) hits.2; ends = refl }
hits_next task (want.Store address n number) key frame at value e old new before after hits told =
    record { later = []; end = event.Stored task key.object key.page at n number; is = told ∙ ap (λ z. z ∷ before) hits.2; ends = refl }
hits_next task (want.CopyTo address pages target next) key frame at value e old new before after hits told = absurd hits

never : {A : Type 0} → ⊥ → A
never bad = absurd bad

ended_next : {header : Header} {h : ℕ} {past : List Event} {what : Want} {top : PageKey} {had have : CopyTable} (host : HostId) (task : TaskId) (at value : ℕ)
    (old new : HostParts) (chains : ChainTable) (before after : List Event) → Found header h past old chains had what top
    → Ended host task what top at value old new chains had have before after → EndsNext task.0 before after
ended_next {what = what} host task at value old new chains before after f (AtOnce steps key row finds none out owes e hits same told) =
    hits_next task what key row.frame at value e old new before after hits told
ended_next host task at value old new chains before after f
    (Raised steps key row finds stores out frame copied hit raises keeps e hits touched notes told) = never (never_below f steps key row finds stores)
ended_next host task at value old new chains before after f (Pushed row finds stores out place owed none frame copied raises keeps e hits notes told) =
    never (owes_none (f.unowed stores) owed)
ended_next host task at value old new chains before after f (AfterZeros sinks frame brought brings keeps e hits notes told) =
    never (never_sinks (lands f) sinks)
ended_next {what = what} host task at value old new chains before after f
    (Copied address pages next target is steps key row finds out is_none copies same) =
    never (subst IsOfNumber is f.number)

never_needs : {header : Header} {h : ℕ} {past : List Event} {parts : HostParts} {chains : ChainTable} {copies : CopyTable} {what : Want} {top : PageKey}
    {source : Option PageKey} → Found header h past parts chains copies what top → Needs what top parts chains copies source → ⊥
never_needs f (Nowhere sinks) = never_sinks (lands f) sinks
never_needs f (ToAsk steps key object comes ready) = never_comes (lands f) steps key object comes (ap has_pager ready)
never_needs f (ToPush row finds stores out place owed none) = owes_none (f.unowed stores) owed
never_needs f (ToRaise steps key row finds stores out) = never_below f steps key row finds stores
never_needs {what = what} f (ToCopy steps key row finds copying out) = no_copy what f.number copying

comes_next : {header : Header} {h : ℕ} {past : List Event} {what : Want} {top : PageKey} (host : HostId) (task : TaskId) (may : Bool) (at : ℕ)
    (answer : FaultStep) (old new : FaultState) → Found header h past old.parts old.chains old.copies what top
    → fault.Comes host task what may top at answer old new → EndsNext task.0 old.events new.events
comes_next host task may at (step.Done value) old new f comes = ended_next host task at value old.parts new.parts old.chains old.events new.events f comes
comes_next host task may at (step.Ask key) old new f comes =
    never (never_comes (lands f) comes.0.steps key comes.0.object comes.0.comes (ap has_pager comes.0.ready))
comes_next {what = what} host task may at (step.Unlock key) old new f comes =
    never (never_locked f comes.0.steps key comes.0.row comes.0.finds comes.0.locked)
comes_next host task may at (step.WaitReady object) old new f comes =
    let why = comes.0 in
    never (never_comes (lands f) why.0 why.1 why.2 why.3 (ap has_pager why.4))
comes_next {what = what} {top = top} host task may at (step.WaitAnswer key) old new f comes = elim comes.0 [
  | inl awaits ↦ elim awaits.why [
    | inl locked ↦ never (never_locked f awaits.steps key awaits.row locked.0 locked.1)
    | inr stops ↦ never (never_asked (lands f) awaits.steps key awaits.row stops)
  ]
  | inr push ↦ never (owes_none (f.unowed push.stores) push.owed)
]
comes_next host task may at (step.NeedFrame source) old new f comes = never (never_needs f comes.0)

-- an access that is run once and finds its page ends
ends_once : (header : Header) (h : ℕ) (past : List Event) (k : Parts) (ids : Ids) (w : Waiting) (may : Bool) (answer : FaultStep) (events : List Event)
    (new : FaultState) → Works header h k ids woken.Nobody (events ++ past) → entry k.waits.rows w.task.0 ≡ Some w
    → Faulted k.maps k.host w.task w.want may answer (state_of k ids events) new → FindsPage header w.task.0 (events ++ past)
    → EndsNext w.task.0 events new.events
ends_once header h past k ids w may answer events new works is f finds =
    by (is_storing w.want && f.row.marked) refl f.prepares
  where
    moment : List Event
    moment = events ++ past

    before : PageKey
    before = top_place f.row (page_at k.maps.size (address_in k.maps.size w.want) f.entry)

    at : IsAt k.maps k.chains w.task.0 w.want before
    at = record { entry = f.entry; found = f.found; row = f.row; region = f.region; is = refl }

    to : Leads header h moment k w.task.0 w.want before at
    to = leads_of header h k ids moment woken.Nobody w.task.0 w before works.matches works.waits works.used.copies is at

    first : FindsFirst header h moment w.want before f.row
    first = finds_first header h moment k w.task.0 w.want before at to finds

    by : (b : Bool) → (is_storing w.want && f.row.marked) ≡ b → Prepares b f.entry.region f.row (state_of k ids events) f.mid
        → EndsNext w.task.0 events new.events
    by true test made = absurd (let bad : false ≡ true = sym first.bare ∙ test in cc)
    by false test same =
        let at_mid : IsAt k.maps k.chains w.task.0 w.want f.top = subst (λ (z : FaultState). IsAt k.maps z.chains w.task.0 w.want f.top) same f.at in
        let found2 = finds_first header h moment k w.task.0 w.want f.top at_mid (leads_of header h k ids moment woken.Nobody w.task.0 w f.top works.matches
        works.waits works.used.copies is at_mid) finds in
        let referred = (leads_of header h k ids moment woken.Nobody w.task.0 w f.top works.matches works.waits works.used.copies is at_mid).referred in
        let comes : fault.Comes k.host w.task w.want may f.top (address_in k.maps.size w.want % k.memory.buffers.size) answer (state_of k ids events) new =
        subst (λ (z : FaultState). fault.Comes k.host w.task w.want may f.top (address_in k.maps.size w.want % k.memory.buffers.size) answer z new) same
        f.comes in
        comes_next k.host w.task may (address_in k.maps.size w.want % k.memory.buffers.size) answer (state_of k ids events) new
        (record {
          number = found2.finds.number;
          shown = shown_at works.matches;
          referred = referred;
          finds = found2.finds;
          unowed = λ stores. unowed_here works.matches works.used works.referred f.top (found2.paid stores);
        })
        comes

-- only a load or a store finds its page
number_found : (header : Header) (past : List Event) (size to task : ℕ) (what : Want) → waiting task past ≡ Some (access_in size to what)
    → FindsPage header task past → IsOfNumber what
number_found header past size to task (want.Load address n) is finds = tt
number_found header past size to task (want.Store address n value) is finds = tt
number_found header past size to task (want.CopyTo address pages target next) is (ToRead a n object page waits comes here open_it) =
    absurd (let bad : Some (Copying address (pages * size) to) ≡ Some (Loading a n) = sym is ∙ waits.waits in cc)
number_found header past size to task (want.CopyTo address pages target next) is (ToWrite a n value object page waits is_top unmarked here open_it paid) =
    absurd (let bad : Some (Copying address (pages * size) to) ≡ Some (Storing a n value) = sym is ∙ waits.waits in cc)

pub number_of_found : (header : Header) (h : ℕ) (past : List Event) (k : Parts) (ids : Ids) (w : Waiting) → Works header h k ids woken.Nobody past
    → entry k.waits.rows w.task.0 ≡ Some w → FindsPage header w.task.0 past → IsOfNumber w.want
number_of_found header h past k ids w works is finds =
    number_found header past k.maps.size (copies_to w.destination) w.task.0 w.want
    (works.waits.is w.task.0 (ap is_some (works.waits.allowed w.task.0 w is).lives) ∙ ap (waiting_in k.maps.size) is) finds

-- an access that is run and finds its page ends
pub ends_next : (header : Header) (h : ℕ) (past : List Event) (k : Parts) (ids : Ids) (w : Waiting) (may : Bool) (answer : FaultStep) (last : Want)
    (events : List Event) (new : FaultState) → Works header h k ids woken.Nobody (events ++ past) → entry k.waits.rows w.task.0 ≡ Some w
    → Runs k.maps k.host w.task may answer w.want last (state_of k ids events) new → FindsPage header w.task.0 (events ++ past)
    → EndsNext w.task.0 events new.events
ends_next header h past k ids w may answer last events new works is runs finds =
    ends_once header h past k ids w may answer events new works is (stops_once (number_of_found header h (events ++ past) k ids w works is finds) runs) finds

-- what comes later doesn't change that
next_more : (Ends : Event → Type 0) (before events more : List Event) → IsNext Ends before events → IsNext Ends before (more ++ events)
next_more Ends before events more e =
    record {
      later = more ++ e.later;
      end = e.end;
      is = ap (λ (z : List Event). more ++ z) e.is ∙ sym (append_assoc more e.later (e.end ∷ before));
      ends = e.ends;
    }

pub goes_more : (header : Header) (task : ℕ) (past before events more : List Event) → GoesNext header task past before events
    → GoesNext header task past before (more ++ events)
goes_more header task past before events more g =
    record {
      finds = λ finds. next_more (IsEnd task) before events more (g.finds finds);
      meets = λ meets. next_more (IsFailureOf task) before events more (g.meets meets);
    }

-- those that were to be run again are run: the first one, which alone is to be, or nothing was done yet
abbrev pub FirstOf : Header → ℕ → List Event → List Waiting → List Waiting → List Event → List Event → Type 0
FirstOf header task past first rows before events = GoesNext header task past before events ⊎ ((rows ≡ first) × (events ≡ before))

pub first_more : (header : Header) (h : ℕ) (outside : Outside) (doing : Command) (past : List Event) (task : ℕ) (first rows rows2 : List Waiting) (w : Waiting)
    (before events after : List Event) → FirstOf header task past first rows before events → IsNextAccess task first
    → entry rows w.task.0 ≡ Some w → is_again w.on ≡ true → LegalEvents header h outside doing past events after
    → GoesNext header w.task.0 past events after → FirstOf header task past first rows2 before after
first_more header h outside doing past task first rows rows2 w before events after (inl gone) next found on_again goes runs =
    inl (subst (λ (z : List Event). GoesNext header task past before z) (sym goes.is) (goes_more header task past before events goes.more gone))
first_more header h outside doing past task first rows rows2 w before events after (inr none) next found on_again goes runs =
    let same : w.task.0 ≡ task = next.only w.task.0 w (ap (λ (z : List Waiting). entry z w.task.0) (sym none.0) ∙ found) on_again in
    inl (subst (λ (z : List Event). GoesNext header task past z after) none.1 (subst (λ (z : ℕ). GoesNext header z past events after) same runs))

pub first_done : (header : Header) (task : ℕ) (past : List Event) (first rows : List Waiting) (before events : List Event)
    → FirstOf header task past first rows before events → IsNextAccess task first → count_again rows ≡ 0 → GoesNext header task past before events
first_done header task past first rows before events (inl gone) next none = gone
first_done header task past first rows before events (inr nothing) next none = absurd (next.some (ap count_again (sym nothing.0) ∙ none))
