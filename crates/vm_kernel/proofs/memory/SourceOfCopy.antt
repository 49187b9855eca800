-- The page that an access in the frame queue is to copy.
use Rattle.vm_kernel.proofs.Common.{Bool, Entry, Event, HasSlow, HasWaits, Header, Ids, IfSome, IsAllowed, IsInside, IsSizedWant, List, Matches, None, Option}
use Rattle.vm_kernel.proofs.Common.{PageKey, PageRow, Parts, Some, TaskId, Waiting, Want, Woken, [], access_in, address_in, ap, arith, copies_to, entries_of}
use Rattle.vm_kernel.proofs.Common.{entry, entry_at, false, found_row, is_some, need_in, next_page, page_at, page_of, pages_in, refl, region_pages, rows_in}
use Rattle.vm_kernel.proofs.Common.{subst, suc, sym, true, waiting_in, zero, if◌then◌else◌, nat_lt, ℕ, ◌&&◌, ◌||◌, ◌*◌, ◌<◌, ◌∙◌, ◌≡◌}
use Rattle.vm_fault.specs.Sources.{CanWalk, Reads, is_due, source_at}
use Rattle.vm_fault.specs.Stops.{Stops}
use Rattle.vm_fault.specs.Walks.{Finds, WalksTo, is_copying, is_storing, top_place}
use Rattle.vm_fault.specs.declared.walking.Stop.{Stop}
use Rattle.vm_fault.specs.declared.walking.Stop.TheVariants as stop
use Rattle.vm_legal.specs.Accesses.{Comes, Copies, Pushes, Raises, WantsFrame}
use Rattle.vm_legal.specs.Walks.{IsTop, Walks, page_on, sight}
use Rattle.vm_model.specs.Regions.{backing_of, region_of}
use Rattle.vm_waits.specs.declared.waiting.Want.TheVariants as want
use Rattle.vm_kernel.specs.Plays.{IsToCopyPage}
use Rattle.vm_kernel.specs.Serving.{IsHere, IsToCopy}
use Rattle.vm_kernel.proofs.abroad.OwnHost.{lives_here, rows_here}
use Rattle.vm_state.proofs.Filling.{copies_next}
use Rattle.vm_state.proofs.Shown.{shows_row}
use Rattle.vm_state.proofs.Walks.{comes_of}
use Rattle.vm_kernel.proofs.memory.WalksShown.{page_left, page_of_want, shown_at, want_address}
use Rattle.vm_kernel.proofs.space.RegionRows.{region_row}
use Rattle.vm_base.specs.Pages.{page_positive}
use Rattle.vm_fault.specs.Pushes.{owed_at}
use Rattle.vm_kernel.proofs.Common.{AllReferred, UsesAll, row_at}
use Rattle.vm_kernel.proofs.memory.PagesPushed.{due_to, owes_here, same_page}
use Rattle.vm_legal.specs.Pushes.{OwesPush}
use Rattle.vm_state.proofs.Shown.{misses}

-- an access that an entry allows can be followed down its chain
pub walks_down : (header : Header) (h : ℕ) (k : Parts) (ids : Ids) (past : List Event) (lost : List Entry) (task : ℕ) (what : Want)
    → Matches header h k ids lost past → IsAllowed k.maps task (address_in k.maps.size what) (need_in what) → IsSizedWant k.maps.size what
    → CanWalk k.maps k.memory k.chains task what
walks_down header h k ids past lost task what m allowed sized_want =
    let address = address_in k.maps.size what in
    let e = allowed.entry in
    let found = found_row (IsInside header.size k.chains) address (rows_in task k.maps) e (m.core.spaces.entries.inside task) allowed.found in
    let region = region_row k.chains e.region.0 found.is.region in
    let below : page_at header.size address e < region_pages k.chains e.region.0 = found.is.inside.each address found.from found.below in
    let pages : region_pages k.chains e.region.0 ≡ region.0.pages = ap pages_in region.1 in
    let sized : page_at k.maps.size address e ≡ page_at header.size address e = ap (λ z. page_at z address e) m.core.spaces.tasks.sized in
    record {
      size = m.core.spaces.tasks.sized ∙ sym (m.core.fits.buffers ∙ m.core.setting.sized);
      allowed = allowed;
      sized = sized_want;
      entry = e;
      found = allowed.found;
      row = region.0;
      region = region.1;
      inside = omega (arith, below, pages, sized);
      fits = m.core.objects.regions.fits;
    }

-- the history has a page owed to a copy for which it isn't asked
pub record PushesNow (header : Header) (h object page : ℕ) (past : List Event) : Type 0 where
  pub copy : ℕ
  pub owes : OwesPush header h object page copy past
  pub unasked : (page_on header h copy page past).asked ≡ false

-- an access copies what its walk finds so far down: a store below its top place, or what is due, a slow copy anywhere
abbrev pub copies_now : Want → Bool → ℕ → Bool
copies_now what due steps = (is_storing what && (nat_lt 0 steps || due)) || is_copying what

-- a store whose walk finds its page below its top place, or that is to push it, wants a frame for a copy, and a slow copy for its next page
pub wants_copy : (header : Header) (h size task to region page : ℕ) (past : List Event) (what : Want) (due : Bool)
    (steps top top_page object object_page : ℕ)
    → copies_now what due steps ≡ true → (due ≡ true → PushesNow header h object object_page past) → IsTop (region_of header region past) page top top_page
    → Walks (λ k q. sight header h k q past) (λ k. backing_of header k past) steps top top_page object object_page
    → (page_on header h object object_page past).here ≡ true → WantsFrame header h task (access_in size to what) region page past
wants_copy header h size task to region page past (want.Load address n) due steps top top_page object object_page is push is_top walks here =
    absurd (let bad : false ≡ true = is in cc)
wants_copy header h size task to region page past (want.Store address n value) true zero top top_page object object_page is push is_top walks here =
    let its = push refl in
    Pushes object object_page its.copy (record { object = is_top.object ∙ walks.0; page = is_top.page ∙ walks.1 }) here refl its.owes its.unasked
wants_copy header h size task to region page past (want.Store address n value) false zero top top_page object object_page is push is_top walks here =
    absurd (let bad : false ≡ true = is in cc)
wants_copy header h size task to region page past (want.Store address n value) due (suc steps) top top_page object object_page is push is_top walks here =
    Raises top top_page steps object object_page is_top walks here refl
wants_copy header h size task to region page past (want.CopyTo address pages target next) due steps top top_page object object_page is push is_top walks here =
    Copies object object_page (record { top = top; top_page = top_page; steps = steps; is_top = is_top; walks = walks }) here address (pages * size) to refl

-- so the page is one that an access is to copy
source_is : (header : Header) (h : ℕ) (k : Parts) (ids : Ids) (past : List Event) (who : Woken) (w : Waiting) (source : Option PageKey) (key : PageKey)
    (row : PageRow) (due : Bool) (steps : ℕ) → Matches header h k ids [] past → HasWaits header h k who past → HasSlow header k past
    → entry k.waits.rows w.task.0 ≡ Some w → (reads : Reads k.maps k.memory k.chains k.copies w.task.0 w.want source)
    → Finds k.memory k.chains steps reads.top key row
    → copies_now w.want due steps ≡ true → (due ≡ true → PushesNow header h key.object.0 key.page.0 past)
    → IsToCopyPage header h w.task key.object.0 key.page.0 past
source_is header h k ids past who w source key row due steps m waits copies found reads finds copied push =
    let s = shown_at m in
    let task = w.task.0 in
    let what = w.want in
    let at = reads.at in
    let e = at.entry in
    let lives = (waits.allowed task w found).lives in
    let size = k.maps.size in
    let to = copies_to w.destination in
    let agrees = copies_next copies task w found in
    let index = page_of header task (access_in size to what) past e in
    let place = at.is ∙ ap (top_place at.row) (page_of_want task to what e m agrees) in
    let walks : WalksTo k.memory k.chains steps (top_place at.row index) key = subst (λ (z : PageKey). WalksTo k.memory k.chains steps z key) place
    finds.walks in
    let comes : Comes header h e.region.0 index key.object.0 key.page.0 past = comes_of s e.region.0 at.row at.region index steps key walks in
    let here = (shows_row s key.object.0 key.page.0 row finds.found finds.here).here in
    record {
      source = record {
        task = task;
        access = access_in size to what;
        waits = record {
          waits = waits.is task (ap is_some lives) ∙ ap (waiting_in size) found;
          at = record {
            host = h;
            entry = e;
            lives = lives_here m.core.spaces.tasks lives;
            found =
                ap (λ z. entry_at z (entries_of header.size task past)) (want_address size header.size (next_page task past) to what m.core.spaces.tasks.sized
                agrees)
                ∙ (ap (entry_at (address_in size what)) (rows_here m.core.spaces.tasks lives) ∙ at.found);
          };
          left =
              page_left size header.size (next_page task past) to what m.core.spaces.tasks.sized (page_positive header.size m.core.setting.ranged.size)
              (waits.sized task w found)
              agrees;
        };
        on_host = refl;
        comes = comes;
        wants =
            wants_copy header h size task to e.region.0 index past what due steps comes.top comes.top_page key.object.0 key.page.0 copied push comes.is_top
            comes.walks here;
      };
      of = refl;
      here = here;
    }

-- a page that is due by the tables is to be pushed
pub pushes_now : {header : Header} {h : ℕ} {k : Parts} {ids : Ids} {past : List Event} → Matches header h k ids [] past → UsesAll header k past
    → AllReferred k.chains k.memory.objects k.memory.resident → (key place : PageKey) → owed_at k.copies key ≡ Some place
    → row_at k.memory.resident place.object.0 place.page.0 ≡ None → PushesNow header h key.object.0 key.page.0 past
pushes_now {header = header} {h = h} {k = k} {past = past} m used referred key place owed none =
    record {
      copy = place.object.0;
      owes = owes_here m used referred key place owed;
      unasked = subst (λ (p : ℕ). (page_on header h place.object.0 p past).asked ≡ false) (same_page k.copies key place owed)
          (misses (shown_at m) place.object.0 place.page.0 none).unasked;
    }

-- what an access would copy that waits
pub to_copy : (header : Header) (h : ℕ) (k : Parts) (ids : Ids) (past : List Event) (who : Woken) (w : Waiting) (source : Option PageKey)
    → Matches header h k ids [] past → UsesAll header k past → AllReferred k.chains k.memory.objects k.memory.resident → HasWaits header h k who past
    → entry k.waits.rows w.task.0 ≡ Some w → Reads k.maps k.memory k.chains k.copies w.task.0 w.want source
    → IfSome source (λ key. IsToCopyPage header h w.task key.object.0 key.page.0 past × IsHere k key)
to_copy header h k ids past who w source m used referred waits found reads =
    subst (λ (z : Option PageKey). IfSome z (λ key. IsToCopyPage header h w.task key.object.0 key.page.0 past × IsHere k key)) (sym reads.is)
    (go reads.stop reads.stops)
  where
    push : (key : PageKey) → is_due k.memory.resident (owed_at k.copies key) ≡ true → PushesNow header h key.object.0 key.page.0 past
    push key due =
        let to = due_to k.memory.resident k.copies key due in
        pushes_now m used referred key to.place to.owed to.none

    below : (b : Bool) (steps : ℕ) (key : PageKey) (row : PageRow) → copies_now w.want (is_due k.memory.resident (owed_at k.copies key)) steps ≡ b
        → Finds k.memory k.chains steps reads.top key row
        → IfSome (if b then Some key else None) (λ key. IsToCopyPage header h w.task key.object.0 key.page.0 past × IsHere k key)
    below false steps key row is finds = tt
    below true steps key row is finds = (
      source_is header h k ids past who w source key row (is_due k.memory.resident (owed_at k.copies key)) steps m waits used.copies found reads finds is
          (push key),
      (row, finds.found, finds.here),
    )

    go : (s : Stop) → Stops k.memory k.chains reads.top s
        → IfSome (source_at k.memory.resident k.copies w.want s) (λ key. IsToCopyPage header h w.task key.object.0 key.page.0 past × IsHere k key)
    go (stop.Found key row steps) finds =
        below (copies_now w.want (is_due k.memory.resident (owed_at k.copies key)) steps) steps key row refl finds
    go (stop.Asked key) stops = tt
    go (stop.MayCome key object steps) stops = tt
    go stop.Nowhere stops = tt

-- which is here
pub copies_source : (header : Header) (h : ℕ) (past : List Event) (k : Parts) (task : TaskId) (source : Option PageKey)
    → IfSome source (λ key. IsToCopyPage header h task key.object.0 key.page.0 past × IsHere k key) → IsToCopy header h k source past
copies_source header h past k task None none = tt
copies_source header h past k task (Some key) copies = (copies.0.source, copies.1)

pub only_copies : (header : Header) (h : ℕ) (past : List Event) (k : Parts) (task : TaskId) (source : Option PageKey)
    → IfSome source (λ key. IsToCopyPage header h task key.object.0 key.page.0 past × IsHere k key)
    → IfSome source (λ key. IsToCopyPage header h task key.object.0 key.page.0 past)
only_copies header h past k task None none = tt
only_copies header h past k task (Some key) copies = copies.0
