-- The page that an access is to copy which wants a frame: the tables tell it where there is one, and no other.
use Rattle.vm_kernel.proofs.Common.{Access, Bool, Comes, Entry, Event, HasSlow, HasWaits, Header, Ids, IfSome, IsAt, IsTop, List, Loading, Matches, None}
use Rattle.vm_kernel.proofs.Common.{Option, PageKey, Parts, Passes, Some, Storing, TaskId, Waiting, Waits, Walks, Want, WantsFrame, Woken, [], access_in, ap}
use Rattle.vm_kernel.proofs.Common.{arith, entry, false, first_in_queue, has_pager, if◌then◌else◌, is_store, nat_lt, nat_tests, page_key, page_of, page_on}
use Rattle.vm_kernel.proofs.Common.{refl, region_of, sight, some_is, subst, suc, sym, true, waiting, ℕ, ◌&&◌, ◌||◌, ◌∙◌, ◌≡◌, ◌≢◌}
use Rattle.std.proofs.lemmas.Bool.{or_right}
use Rattle.vm_fault.specs.Faults.{Needs, Nowhere, ToAsk, ToCopy, ToPush, ToRaise}
use Rattle.vm_fault.specs.Sources.{Reads, is_due, source_at}
use Rattle.vm_fault.specs.Stops.{Stops}
use Rattle.vm_fault.specs.Walks.{is_copying, is_storing}
use Rattle.vm_fault.specs.declared.walking.Stop.{Stop}
use Rattle.vm_fault.specs.declared.walking.Stop.TheVariants as stop
use Rattle.vm_legal.specs.Accesses as legal
use Rattle.vm_legal.specs.Walks.{Sinks}
use Rattle.vm_model.specs.Regions.{backing_of}
use Rattle.vm_model.specs.Waiting.{Copying}
use Rattle.vm_objects.specs.declared.row.PagerState.{PagerState}
use Rattle.vm_objects.specs.declared.row.PagerState.TheVariants as state
use Rattle.vm_waits.specs.declared.waiting.Want.TheVariants as want
use Rattle.vm_kernel.specs.Plays.{IsToCopyPage, SparesSource}
use Rattle.vm_kernel.specs.Serving.{IsTheSource}
use Rattle.vm_kernel.proofs.memory.WalkLands.{EndsHere, Lands, found_there, never_asked, never_comes, never_sinks, not_passed, sinks_past, stop_same}
use Rattle.vm_kernel.proofs.memory.PagesPushed.{due_told}
use Rattle.vm_kernel.proofs.memory.SourceOfCopy.{copies_now}
use Rattle.vm_fault.specs.Pushes.{owed_at}
use Rattle.vm_legal.specs.Pushes.{OwesPush}
use Rattle.vm_kernel.proofs.steps.WhereAccessLeads.{Leads, it_waits, leads_of, top_at}
use Rattle.vm_kernel.proofs.memory.WalksShown.{shown_at}
use Rattle.vm_state.proofs.Shown.{IsShown}

-- what the history has to be pushed is due
abbrev pub AreDue : Header → ℕ → List Event → (ℕ → ℕ → Bool) → Type 0
AreDue header h past due = (o p c : ℕ) → OwesPush header h o p c past → (page_on header h c p past).asked ≡ false → due o p ≡ true

-- the walk of an access ends at a page that is here, which it copies
record EndsAtSource (header : Header) (h : ℕ) (past : List Event) (what : Want) (due : ℕ → ℕ → Bool) (top : PageKey) (o p : ℕ) : Type 0 where
  at : EndsHere header h past top
  object : at.object ≡ o
  page : at.page ≡ p
  copies : copies_now what (due o p) at.steps ≡ true

-- a slow copy copies, and so does a store below
is_slow : (size to address bytes goes : ℕ) (what : Want) → access_in size to what ≡ Copying address bytes goes → is_copying what ≡ true
is_slow size to address bytes goes (want.Load a n) is = absurd (let bad : Loading a n ≡ Copying address bytes goes = is in cc)
is_slow size to address bytes goes (want.Store a n value) is = absurd (let bad : Storing a n value ≡ Copying address bytes goes = is in cc)
is_slow size to address bytes goes (want.CopyTo a pages target next) is = refl

is_stored : (size to : ℕ) (what : Want) → is_store (access_in size to what) ≡ true → is_storing what ≡ true
is_stored size to (want.Load a n) is = is
is_stored size to (want.Store a n value) is = refl
is_stored size to (want.CopyTo a pages target next) is = is

below_top : (what : Want) (due : Bool) (n : ℕ) → is_storing what ≡ true → copies_now what due (suc n) ≡ true
below_top (want.Load a m) due n is = absurd (let bad : false ≡ true = is in cc)
below_top (want.Store a m value) due n is = let some : nat_lt 0 (suc n) ≡ true = grind (arith, nat_tests) in ap (λ b. (true && (b || due)) || false) some
below_top (want.CopyTo a pages target next) due n is = refl

-- so does a store whose page is due
at_due : (what : Want) (due : Bool) (n : ℕ) → is_storing what ≡ true → due ≡ true → copies_now what due n ≡ true
at_due (want.Load a m) due n is so = absurd (let bad : false ≡ true = is in cc)
at_due (want.Store a m value) due n is so =
    ap (λ b. (true && b) || false) (or_right (nat_lt 0 n) due so)
at_due (want.CopyTo a pages target next) due n is so = refl

-- two walks from the top end at one place, where both end at pages that are here
same_end : {header : Header} {h : ℕ} {past : List Event} {top : PageKey} → (at : EndsHere header h past top) (m l lp : ℕ)
    → Walks (λ k q. sight header h k q past) (λ k. backing_of header k past) m top.object.0 top.page.0 l lp
    → (Passes (sight header h l lp past) → ⊥) → (m ≡ at.steps) × (l ≡ at.object) × (lp ≡ at.page)
same_end {header = header} {h = h} {past = past} {top = top} at m l lp walks stops =
    stop_same (λ k q. sight header h k q past) (λ k. backing_of header k past) m at.steps top.object.0 top.page.0 l lp at.object at.page walks at.walks stops
    (not_passed header h past at.object at.page at.here)

-- whoever wants a frame, and whose walk ends at a page that is here, is to copy that
wants_to_copy : {header : Header} {h : ℕ} {past : List Event} {top : PageKey} (size to task region page : ℕ) (what : Want) (due : ℕ → ℕ → Bool)
    → AreDue header h past due
    → (at : EndsHere header h past top) → IsTop (region_of header region past) page top.object.0 top.page.0
    → WantsFrame header h task (access_in size to what) region page past → copies_now what (due at.object at.page) at.steps ≡ true
wants_to_copy {header = header} {h = h} {past = past} {top = top} size to task region page what due told at is_top
    (legal.Nowhere served o p steps its_top sinks) =
    absurd (let there = subst (λ (z : ℕ). Sinks (λ k q. sight header h k q past) (λ k. backing_of header k past) steps z top.page.0)
    (sym its_top.object ∙ is_top.object) (subst (λ (z : ℕ). Sinks (λ k q. sight header h k q past) (λ k. backing_of header k past) steps o z)
    (sym its_top.page ∙ is_top.page) sinks) in
    sinks_past (λ k q. sight header h k q past) (λ k. backing_of header k past) steps at.steps top.object.0 top.page.0 at.object at.page there at.walks
    (not_passed header h past at.object at.page at.here))
wants_to_copy {header = header} {h = h} {past = past} {top = top} size to task region page what due told at is_top
    (legal.Elsewhere object object_page comes away unasked may ready) =
    let same = same_end at comes.steps object object_page (from_top comes.top comes.top_page comes.steps (sym comes.is_top.object ∙ is_top.object)
    (sym comes.is_top.page ∙ is_top.page) comes.walks)
    (λ passes. (let bad : false ≡ true = sym passes.without ∙ may in cc)) in
    let here : (page_on header h object object_page past).here ≡ true =
    subst (λ (z : ℕ). (page_on header h z object_page past).here ≡ true) (sym same.1)
    (subst (λ (z : ℕ). (page_on header h at.object z past).here ≡ true) (sym same.2) at.here) in
    absurd (let bad : false ≡ true = sym away ∙ here in cc)
  where
    from_top : (o p steps : ℕ) → o ≡ top.object.0 → p ≡ top.page.0
        → Walks (λ k q. sight header h k q past) (λ k. backing_of header k past) steps o p object object_page
        → Walks (λ k q. sight header h k q past) (λ k. backing_of header k past) steps top.object.0 top.page.0 object object_page
    from_top o p steps objects pages walks =
        subst (λ (z : ℕ). Walks (λ k q. sight header h k q past) (λ k. backing_of header k past) steps z top.page.0 object object_page) objects
        (subst (λ (z : ℕ). Walks (λ k q. sight header h k q past) (λ k. backing_of header k past) steps o z object object_page) pages walks)
wants_to_copy size to task region page what due told at is_top (legal.Copies object object_page comes here address bytes goes is) =
    or_right (is_storing what && (nat_lt 0 at.steps || due at.object at.page)) (is_copying what) (is_slow size to address bytes goes what is)
wants_to_copy {header = header} {h = h} {past = past} {top = top} size to task region page what due told at is_top
    (legal.Raises o p steps object object_page its_top walks here stores) =
    let walks2 = subst (λ (z : ℕ). Walks (λ k q. sight header h k q past) (λ k. backing_of header k past) (suc steps) z top.page.0 object object_page)
    (sym its_top.object ∙ is_top.object)
    (subst (λ (z : ℕ). Walks (λ k q. sight header h k q past) (λ k. backing_of header k past) (suc steps) o z object object_page)
    (sym its_top.page ∙ is_top.page) walks) in
    let same = same_end at (suc steps) object object_page walks2 (not_passed header h past object object_page here) in
    subst (λ (z : ℕ). copies_now what (due at.object at.page) z ≡ true) same.0
    (below_top what (due at.object at.page) steps (is_stored size to what stores))
wants_to_copy {header = header} {h = h} {past = past} size to task region page what due told at is_top
    (legal.Pushes object object_page copy its_top here stores owes unasked) =
    let same = same_end at 0 object object_page (sym is_top.object ∙ its_top.object, sym is_top.page ∙ its_top.page)
    (not_passed header h past object object_page here) in
    let so : due at.object at.page ≡ true = sym (ap (λ (z : ℕ). due z at.page) same.1)
    ∙ (sym (ap (due object) same.2) ∙ told object object_page copy owes unasked) in
    at_due what (due at.object at.page) at.steps (is_stored size to what stores) so

-- the page that a task is to copy is where its access leads
ends_at_source : (header : Header) (h : ℕ) (past : List Event) (k : Parts) (task : TaskId) (what : Want) (top : PageKey)
    (at : IsAt k.maps k.chains task.0 what top) (due : ℕ → ℕ → Bool) → Leads header h past k task.0 what top at → AreDue header h past due → (o p : ℕ)
    → IsToCopyPage header h task o p past → EndsAtSource header h past what due top o p
ends_at_source header h past k task what top at due to told o p copies =
    go copies.source.task copies.source.access copies.of (some_is copies.source.access (access_in k.maps.size to.destination what)
    (sym copies.source.waits.waits ∙ (ap (λ z. waiting z past) copies.of ∙ to.waits))) copies.source.waits copies.source.on_host copies.source.comes
    copies.source.wants
  where
    mine : Access
    mine = access_in k.maps.size to.destination what

    it : Waits header task.0 mine past
    it = it_waits header h past k task.0 what top at to

    end : (waits : Waits header task.0 mine past) → Comes header h waits.at.entry.region.0 (page_of header task.0 mine past waits.at.entry) o p past
        → WantsFrame header h task.0 mine waits.at.entry.region.0 (page_of header task.0 mine past waits.at.entry) past
        → EndsAtSource header h past what due top o p
    end waits comes wants =
        let entries : waits.at.entry ≡ at.entry = some_is waits.at.entry at.entry (sym waits.at.found ∙ it.at.found) in
        let comes2 = subst (λ (z : Entry). Comes header h z.region.0 (page_of header task.0 mine past z) o p past) entries comes in
        let wants2 = subst (λ (z : Entry). WantsFrame header h task.0 mine z.region.0 (page_of header task.0 mine past z) past) entries wants in
        let is_top = top_at header h past k task.0 what top at to in
        let ends : EndsHere header h past top = record {
          steps = comes2.steps;
          object = o;
          page = p;
          walks =
              subst (λ (z : ℕ). Walks (λ k q. sight header h k q past) (λ k. backing_of header k past) comes2.steps z top.page.0 o p)
              (sym comes2.is_top.object ∙ is_top.object)
              (subst (λ (z : ℕ). Walks (λ k q. sight header h k q past) (λ k. backing_of header k past) comes2.steps comes2.top z o p)
              (sym comes2.is_top.page ∙ is_top.page) comes2.walks);
          here = copies.here;
        } in
        record {
          at = ends;
          object = refl;
          page = refl;
          copies = wants_to_copy k.maps.size to.destination task.0 at.entry.region.0 (page_of header task.0 mine past at.entry) what due told ends is_top
              wants2;
        }

    go : (t : ℕ) (access : Access) → t ≡ task.0 → access ≡ mine → (waits : Waits header t access past) → waits.at.host ≡ h
        → Comes header h waits.at.entry.region.0 (page_of header t access past waits.at.entry) o p past
        → WantsFrame header h t access waits.at.entry.region.0 (page_of header t access past waits.at.entry) past → EndsAtSource header h past what due top o p
    go t access same is =
        subst (λ (z : ℕ). (waits : Waits header z access past) → waits.at.host ≡ h
        → Comes header h waits.at.entry.region.0 (page_of header z access past waits.at.entry) o p past
        → WantsFrame header h z access waits.at.entry.region.0 (page_of header z access past waits.at.entry) past → EndsAtSource header h past what due top o p)
        (sym same)
        (subst (λ (z : Access). (waits : Waits header task.0 z past) → waits.at.host ≡ h
        → Comes header h waits.at.entry.region.0 (page_of header task.0 z past waits.at.entry) o p past
        → WantsFrame header h task.0 z waits.at.entry.region.0 (page_of header task.0 z past waits.at.entry) past → EndsAtSource header h past what due top o p)
        (sym is)
        (λ waits host comes wants. end waits comes wants))

-- the tables tell that page

key_is : (key : PageKey) (o p : ℕ) → key.object.0 ≡ o → key.page.0 ≡ p → key ≡ page_key o p
key_is key o p object page = λ i. page_key (object i) (page i)

-- what an access needs a frame for
pub needs_it : (header : Header) (h : ℕ) (past : List Event) (k : Parts) (task : TaskId) (what : Want) (top : PageKey)
    (at : IsAt k.maps k.chains task.0 what top) (source : Option PageKey) → Leads header h past k task.0 what top at
    → AreDue header h past (λ o p. is_due k.memory.resident (owed_at k.copies (page_key o p))) → IsShown header h k.memory k.chains past
    → Needs what top k.memory k.chains k.copies source → (o p : ℕ)
    → IsToCopyPage header h task o p past → source ≡ Some (page_key o p)
needs_it header h past k task what top at source to told shown needs o p copies =
    by needs
  where
    due : ℕ → ℕ → Bool
    due o2 p2 = is_due k.memory.resident (owed_at k.copies (page_key o2 p2))

    ends : EndsAtSource header h past what due top o p
    ends = ends_at_source header h past k task what top at due to told o p copies

    lands : Lands header h past k.memory k.chains top
    lands = record { shown = shown; referred = to.referred; at = ends.at }

    by : {source2 : Option PageKey} → Needs what top k.memory k.chains k.copies source2 → source2 ≡ Some (page_key o p)
    by (Nowhere sinks) = absurd (never_sinks lands sinks)
    by (ToAsk steps key object comes ready) = absurd (never_comes lands steps key object comes (ap has_pager ready))
    by (ToCopy steps key row finds copying out) =
        let same = found_there lands steps key row finds in ap Some (key_is key o p (same.object ∙ ends.object) (same.page ∙ ends.page))
    by (ToPush row finds stores out place owed none) =
        let same = found_there lands 0 top row finds in ap Some (key_is top o p (same.object ∙ ends.object) (same.page ∙ ends.page))
    by (ToRaise steps key row finds stores out) =
        let same = found_there lands (suc steps) key row finds in ap Some (key_is key o p (same.object ∙ ends.object) (same.page ∙ ends.page))

-- what it would read
told_pager : (pager : PagerState) → pager ≢ state.Without → has_pager pager ≡ true
told_pager state.Without other = absurd (other refl)
told_pager state.Sent other = refl
told_pager state.Ready other = refl

pub reads_it : (header : Header) (h : ℕ) (past : List Event) (k : Parts) (ids : Ids) (who : Woken) (w : Waiting) (source : Option PageKey)
    → Matches header h k ids [] past → HasWaits header h k who past → HasSlow header k past → entry k.waits.rows w.task.0 ≡ Some w
    → Reads k.maps k.memory k.chains k.copies w.task.0 w.want source → (o p : ℕ) → IsToCopyPage header h w.task o p past → source ≡ Some (page_key o p)
reads_it header h past k ids who w source m waits slow found reads o p copies =
    reads.is ∙ by reads.stop reads.stops
  where
    to : Leads header h past k w.task.0 w.want reads.top reads.at
    to = leads_of header h k ids past who w.task.0 w reads.top m waits slow found reads.at

    due : ℕ → ℕ → Bool
    due o2 p2 = is_due k.memory.resident (owed_at k.copies (page_key o2 p2))

    ends : EndsAtSource header h past w.want due reads.top o p
    ends = ends_at_source header h past k w.task w.want reads.top reads.at due to (due_told m slow) o p copies

    lands : Lands header h past k.memory k.chains reads.top
    lands = record { shown = shown_at m; referred = to.referred; at = ends.at }

    by : (s : Stop) → Stops k.memory k.chains reads.top s → source_at k.memory.resident k.copies w.want s ≡ Some (page_key o p)
    by (stop.Found key row steps) finds =
        let same = found_there lands steps key row finds in
        let its : key ≡ page_key o p = key_is key o p (same.object ∙ ends.object) (same.page ∙ ends.page) in
        ap (λ (b : Bool). if b then Some key else None) (ap (λ (z : PageKey). copies_now w.want (is_due k.memory.resident (owed_at k.copies z)) steps) its
        ∙ (ap (copies_now w.want (due o p)) same.steps_are ∙ ends.copies))
        ∙ ap Some its
    by (stop.Asked key) stops = absurd (never_asked lands stops.0 key stops.1 stops.2)
    by (stop.MayCome key object steps) stops = absurd (never_comes lands steps key object stops.0 (told_pager object.state stops.2))
    by stop.Nowhere stops = absurd (never_sinks lands stops)

-- and so it is the source of the front
pub front_source : (header : Header) (h : ℕ) (source : Option PageKey) (queue : List TaskId) (front : TaskId) (past : List Event)
    → first_in_queue queue ≡ Some front → IfSome source (λ key. IsToCopyPage header h front key.object.0 key.page.0 past)
    → ((o p : ℕ) → IsToCopyPage header h front o p past → source ≡ Some (page_key o p)) → IsTheSource header h (SparesSource (first_in_queue queue)) source past
front_source header h source queue front past first is only =
    subst (λ (z : Option TaskId). IsTheSource header h (SparesSource z) source past) (sym first) (record { is = is; only = only })

-- nobody queues, and so nobody is to copy
pub nobody_copies : (header : Header) (h : ℕ) (queue : List TaskId) (past : List Event) → queue ≡ []
    → IsTheSource header h (SparesSource (first_in_queue queue)) None past
nobody_copies header h queue past none =
    subst (λ (z : List TaskId). IsTheSource header h (SparesSource (first_in_queue z)) None past) (sym none) (record { is = tt; only = λ o p bad. absurd bad })
