-- What a page shows to a walk, by the rows of its host: it is here, asked or missing, and then its pager may have it or not.
use Rattle.std.proofs.Common.{Bool, List, None, Option, Some, [], ap, false, inl, inr, refl, sym, true, ℕ, ◌&&◌, ◌∙◌, ◌<◌, ◌≡◌}
use Rattle.std.specs.Prelude.{if◌then◌else◌, is_some, not, ◌⊎◌}
use Rattle.vm_fault.specs.Walks.{MayCome, PassesOver}
use Rattle.vm_frames.specs.Frames.{page_in}
use Rattle.vm_legal.specs.Accesses.{is_ready}
use Rattle.vm_legal.specs.Prompt.{AReady, AnAnswer, Awaits}
use Rattle.vm_legal.specs.Walks.{Passes, page_on, sight}
use Rattle.vm_model.specs.Controls.{live_control}
use Rattle.vm_model.specs.Local.{Local, is_known_absent, local}
use Rattle.vm_model.specs.Named.{named}
use Rattle.vm_model.specs.Regions.{backing_of, region_of}
use Rattle.vm_model.specs.declared.event.Event.{Event}
use Rattle.vm_model.specs.declared.script.Header.{Header}
use Rattle.vm_objects.specs.Objects.{ObjectTable, absent_at, object_at}
use Rattle.vm_objects.specs.declared.row.ObjectRow.{ObjectRow}
use Rattle.vm_objects.specs.declared.row.PagerState.{PagerState}
use Rattle.vm_objects.specs.declared.row.PagerState.TheVariants as state
use Rattle.vm_parts.specs.declared.parts.HostParts.{HostParts}
use Rattle.vm_resident.specs.Resident.{row_at}
use Rattle.vm_resident.specs.declared.page_row.PageRow.{PageRow}
use Rattle.vm_shadow.specs.Chains.{ChainTable, region_at, shadow_at}
use Rattle.vm_shadow.specs.declared.region_row.RegionRow.{RegionRow}
use Rattle.vm_shadow.specs.declared.shadow_row.ShadowRow.{ShadowRow}
use Rattle.vm_base.specs.declared.ids.PageKey.{PageKey}
use Rattle.vm_state.specs.Pagers.{has_pager, is_ready_state, live_in, ready_in}
use Rattle.vm_state.specs.Places.{known_local, local_of_row, lock_number, place_of}
use Rattle.vm_state.specs.Stands.{HasPages}
use Rattle.vm_state.specs.Waiters.{IsAsked}
use Rattle.vm_terminate.specs.Finishes.{IsReferred}

-- what a host has of pages, controls and chains, as a history says it; no page of a declared object is known to be missing
pub record IsShown (header : Header) (h : ℕ) (parts : HostParts) (chains : ChainTable) (past : List Event) : Type 0 where
  pub present : (o p : ℕ) → o < named header → absent_at parts.objects o p ≡ false
  pub pages : HasPages parts.frames parts.resident parts.objects (λ o p. known_local header o p (local header h (place_of o p) past))
  pub live : (o : ℕ) → live_control h o past ≡ live_in (object_at parts.objects o)
  pub ready : (o control : ℕ) → live_control h o past ≡ Some control → is_ready h o past ≡ ready_in (object_at parts.objects o)
  pub lives : (o : ℕ) (known : ObjectRow) → object_at parts.objects o ≡ Some known → known.live ≡ has_pager known.state
  pub rows : (r : ℕ) (row : RegionRow) → region_at chains r ≡ Some row
      → region_of header r past ≡ record { mark = row.marked; top = row.top.0; shift = row.shift; pages = row.pages }
  pub shadows : (o : ℕ) (row : ShadowRow) → shadow_at chains o ≡ Some row
      → backing_of header o past ≡ record { backed = true; under = row.under.0; shift = row.shift }
  pub bottoms : (o : ℕ) → IsReferred parts.objects o → shadow_at chains o ≡ None → (backing_of header o past).backed ≡ false
  pub under_referred : (o : ℕ) (row : ShadowRow) → shadow_at chains o ≡ Some row → IsReferred parts.objects row.under.0
  pub top_referred : (r : ℕ) (row : RegionRow) → region_at chains r ≡ Some row → IsReferred parts.objects row.top.0

-- what the row of a page says of it is what the host has of it
seen_as : {header : Header} {h : ℕ} {parts : HostParts} {chains : ChainTable} {past : List Event} → IsShown header h parts chains past
    → (o p : ℕ) (x : Option PageRow) → row_at parts.resident o p ≡ x
    → known_local header o p (page_on header h o p past) ≡ local_of_row parts.frames x (absent_at parts.objects o p)
seen_as {parts = parts} s o p x found = s.pages.shown o p ∙ ap (λ z. local_of_row parts.frames z (absent_at parts.objects o p)) found

-- the page is here, with what its row and its frame say
pub record ShowsRow (header : Header) (h : ℕ) (parts : HostParts) (past : List Event) (o p : ℕ) (row : PageRow) : Type 0 where
  pub here : (page_on header h o p past).here ≡ true
  pub bytes : (page_on header h o p past).bytes ≡ page_in parts.frames row.frame.0
  pub lock : (page_on header h o p past).lock ≡ lock_number row.lock
  pub dirty : (page_on header h o p past).dirty ≡ row.dirty
  pub precious : (page_on header h o p past).precious ≡ row.precious
  pub unlocking : (page_on header h o p past).unlocking ≡ row.unlock_sent
  pub unasked : (page_on header h o p past).asked ≡ false

pub shows_row : {header : Header} {h : ℕ} {parts : HostParts} {chains : ChainTable} {past : List Event} → IsShown header h parts chains past
    → (o p : ℕ) (row : PageRow) → row_at parts.resident o p ≡ Some row → row.here ≡ true
    → ShowsRow header h parts past o p row
shows_row {header = header} {h = h} {parts = parts} {past = past} s o p row found here =
    let is : known_local header o p (page_on header h o p past) ≡ local_of_row parts.frames (Some row) (absent_at parts.objects o p) = seen_as s o p (Some row)
    found in
    record {
      here = ap (λ (z : Local). z.here) is ∙ here;
      bytes = ap (λ (z : Local). z.bytes) is ∙ ap (λ b. if b then page_in parts.frames row.frame.0 else []) here;
      lock = ap (λ (z : Local). z.lock) is;
      dirty = ap (λ (z : Local). z.dirty) is ∙ ap (λ b. if b then row.dirty else false) here;
      precious = ap (λ (z : Local). z.precious) is;
      unlocking = ap (λ (z : Local). z.unlocking) is;
      unasked = ap (λ (z : Local). z.asked) is ∙ ap not here;
    }

-- the page is asked, and not here
pub record AsksRow (header : Header) (h : ℕ) (past : List Event) (o p : ℕ) : Type 0 where
  pub asked : (page_on header h o p past).asked ≡ true
  pub away : (page_on header h o p past).here ≡ false

pub asks_row : {header : Header} {h : ℕ} {parts : HostParts} {chains : ChainTable} {past : List Event} → IsShown header h parts chains past
    → (o p : ℕ) (row : PageRow) → row_at parts.resident o p ≡ Some row → row.here ≡ false → AsksRow header h past o p
asks_row {header = header} {h = h} {parts = parts} {past = past} s o p row found away =
    let is : known_local header o p (page_on header h o p past) ≡ local_of_row parts.frames (Some row) (absent_at parts.objects o p) = seen_as s o p (Some row)
    found in
    record { asked = ap (λ (z : Local). z.asked) is ∙ ap not away; away = ap (λ (z : Local). z.here) is ∙ away }

-- the page is neither here nor asked; and what is known of its pager
pub record Misses (header : Header) (h : ℕ) (past : List Event) (o p : ℕ) (lacked : Bool) : Type 0 where
  pub away : (page_on header h o p past).here ≡ false
  pub unasked : (page_on header h o p past).asked ≡ false
  pub known : is_known_absent header (place_of o p) (page_on header h o p past) ≡ lacked

pub misses : {header : Header} {h : ℕ} {parts : HostParts} {chains : ChainTable} {past : List Event} → IsShown header h parts chains past → (o p : ℕ)
    → row_at parts.resident o p ≡ None → Misses header h past o p (absent_at parts.objects o p)
misses {header = header} {h = h} {parts = parts} {past = past} s o p found =
    let is : known_local header o p (page_on header h o p past) ≡ local_of_row parts.frames None (absent_at parts.objects o p) = seen_as s o p None found in
    record {
      away = ap (λ (z : Local). z.here) is;
      unasked = ap (λ (z : Local). z.asked) is;
      known = ap (λ (z : Local). z.absent) is;
    }

-- the control of an object whose pager was told lives, and no other does
pub told_live : {header : Header} {h : ℕ} {parts : HostParts} {chains : ChainTable} {past : List Event} → IsShown header h parts chains past
    → (o : ℕ) (row : ObjectRow) → object_at parts.objects o ≡ Some row → has_pager row.state ≡ true
    → live_control h o past ≡ Some row.control
told_live s o row known told = s.live o ∙ (ap live_in known ∙ ap (λ b. if b then Some row.control else None) (s.lives o row known ∙ told))

pub untold_dead : {header : Header} {h : ℕ} {parts : HostParts} {chains : ChainTable} {past : List Event} → IsShown header h parts chains past
    → (o : ℕ) (row : ObjectRow) → object_at parts.objects o ≡ Some row → row.state ≡ state.Without
    → live_control h o past ≡ None
untold_dead s o row known without = s.live o ∙ (ap live_in known ∙ ap (λ b. if b then Some row.control else None) (s.lives o row known ∙ ap has_pager without))

-- whether a pager that was told is ready, by its row
pub told_ready : {header : Header} {h : ℕ} {parts : HostParts} {chains : ChainTable} {past : List Event} → IsShown header h parts chains past
    → (o : ℕ) (row : ObjectRow) → object_at parts.objects o ≡ Some row → has_pager row.state ≡ true
    → is_ready h o past ≡ is_ready_state row.state
told_ready s o row known told = s.ready o row.control (told_live s o row known told) ∙ ap ready_in known

-- the row of an object whose pager is ready
pub record IsReadyRow (objects : ObjectTable) (o : ℕ) : Type 0 where
  pub row : ObjectRow
  pub known : object_at objects o ≡ Some row
  pub is : row.state ≡ state.Ready

pub ready_row : (objects : ObjectTable) (o : ℕ) → ready_in (object_at objects o) ≡ true → IsReadyRow objects o
ready_row objects o ready = go (object_at objects o) refl
  where
    ready_state : (s : PagerState) → is_ready_state s ≡ true → s ≡ state.Ready
    ready_state state.Without bad = absurd (let no : false ≡ true = bad in cc)
    ready_state state.Sent bad = absurd (let no : false ≡ true = bad in cc)
    ready_state state.Ready is = refl

    go : (x : Option ObjectRow) → object_at objects o ≡ x → IsReadyRow objects o
    go None none = absurd (let no : false ≡ true = sym (ap ready_in none) ∙ ready in cc)
    go (Some row) known = record { row = row; known = known; is = ready_state row.state (sym (ap ready_in known) ∙ ready) }

-- no pager may have a page where no control lives, or where the page is known absent
lacking : (live : Option ℕ) (known : Bool) → (live ≡ None) ⊎ (known ≡ true) → (is_some live && not known) ≡ false
lacking live known (inl none) = ap (λ z. is_some z && not known) none
lacking live known (inr is) = ap (λ b. is_some live && not b) is ∙ never (is_some live)
  where
    never : (b : Bool) → (b && false) ≡ false
    never true = refl
    never false = refl

-- what the walk of a host passes over, the walk of the history does too
pub passes_of : {header : Header} {h : ℕ} {parts : HostParts} {chains : ChainTable} {past : List Event} → IsShown header h parts chains past → (key : PageKey)
    → PassesOver parts key → Passes (sight header h key.object.0 key.page.0 past)
passes_of {header = header} {h = h} {parts = parts} {past = past} s key over =
    let missing = misses s key.object.0 key.page.0 over.absent in
    record {
      away = missing.away;
      unasked = missing.unasked;
      without =
          lacking (live_control h key.object.0 past) (is_known_absent header (place_of key.object.0 key.page.0) (page_on header h key.object.0 key.page.0 past))
          (why missing over.none);
    }
  where
    why : Misses header h past key.object.0 key.page.0 (absent_at parts.objects key.object.0 key.page.0) → (over.row.state ≡ state.Without)
        ⊎ (absent_at parts.objects key.object.0 key.page.0 ≡ true)
        → (live_control h key.object.0 past ≡ None) ⊎ (is_known_absent header (place_of key.object.0 key.page.0)
        (page_on header h key.object.0 key.page.0 past) ≡ true)
    why missing (inl without) = inl (untold_dead s key.object.0 over.row over.known without)
    why missing (inr lacked) = inr (missing.known ∙ lacked)

-- the pager of a missing page is ready, and may have it
pub record MayAnswer (header : Header) (h : ℕ) (past : List Event) (key : PageKey) (control : ℕ) : Type 0 where
  pub live : live_control h key.object.0 past ≡ Some control
  pub ready : is_ready h key.object.0 past ≡ true
  pub away : (page_on header h key.object.0 key.page.0 past).here ≡ false
  pub unasked : (page_on header h key.object.0 key.page.0 past).asked ≡ false
  pub known : is_known_absent header (place_of key.object.0 key.page.0) (page_on header h key.object.0 key.page.0 past) ≡ false
  pub may_have : (sight header h key.object.0 key.page.0 past).may_have ≡ true

pub may_ask : {header : Header} {h : ℕ} {parts : HostParts} {chains : ChainTable} {past : List Event} → IsShown header h parts chains past
    → (steps : ℕ) (top key : PageKey) (object : ObjectRow) → MayCome parts chains steps top key object → object.state ≡ state.Ready
    → MayAnswer header h past key object.control
may_ask {header = header} {h = h} {past = past} s steps top key object comes ready =
    let missing = misses s key.object.0 key.page.0 comes.absent in
    let told : has_pager object.state ≡ true = ap has_pager ready in
    let live = told_live s key.object.0 object comes.known told in
    let known = missing.known ∙ comes.may_have in
    record {
      live = live;
      ready = told_ready s key.object.0 object comes.known told ∙ ap is_ready_state ready;
      away = missing.away;
      unasked = missing.unasked;
      known = known;
      may_have =
          ap (λ z. is_some z && not (is_known_absent header (place_of key.object.0 key.page.0) (page_on header h key.object.0 key.page.0 past))) live
          ∙ ap not known;
    }

-- an access waits for a pager that was told of its object, and isn't ready
pub awaits_ready : {header : Header} {h : ℕ} {parts : HostParts} {chains : ChainTable} {past : List Event} → IsShown header h parts chains past
    → (o : ℕ) (row : ObjectRow) → object_at parts.objects o ≡ Some row → row.state ≡ state.Sent → (store : Bool) (p : ℕ)
    → Awaits header h store o p past
awaits_ready s o row known sent store p =
    let told : has_pager row.state ≡ true = ap has_pager sent in
    AReady row.control (told_live s o row known told) (told_ready s o row known told ∙ ap is_ready_state sent)

-- an access waits for a page that is asked
pub awaits_page : {header : Header} {h : ℕ} {parts : HostParts} {chains : ChainTable} {past : List Event} → IsShown header h parts chains past → (o p : ℕ)
    → IsAsked parts.resident o p → (store : Bool) → Awaits header h store o p past
awaits_page s o p asked store = AnAnswer (asks_row s o p asked.row asked.found asked.away).asked
