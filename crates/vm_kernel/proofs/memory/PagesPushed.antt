-- Pages that are pushed up into copy objects: what the history says is owed, what the tables say, and what is known of the places.
use Rattle.vm_kernel.proofs.Common.{AllReferred, Bool, ChainTable, Event, HasSlow, HaveHomes, Header, Ids, List, Matches, None, ObjectId, ObjectTable, Option}
use Rattle.vm_kernel.proofs.Common.{PageKey, PageRow, Parts, Some, UsesAll, [], ap, arith, false, inl, inr, named, page_key, page_on, refl, region_of}
use Rattle.vm_kernel.proofs.Common.{Changes, FrameNo, IsAt, IsOfNumber, Mapped, PutsRow, Queues, SameObjects, Want, address_in, if◌then◌else◌, length, nat_lt}
use Rattle.vm_kernel.proofs.Common.{nat_tests, suc, zero, ◌&&◌, ◌==◌}
use Rattle.std.proofs.Math.Bool.{and-false}
use Rattle.std.specs.Option.{option_map}
use Rattle.vm_abroad.proofs.Home.{copy_temporary}
use Rattle.vm_abroad.proofs.Own.{itself}
use Rattle.vm_abroad.proofs.Regions.{kind_cases}
use Rattle.vm_kernel.specs.Destroying.{place_led}
use Rattle.vm_kernel.specs.Serving.{is_pushing}
use Rattle.vm_legal.proofs.Files.{file_named, file_paged}
use Rattle.vm_legal.proofs.Unshared.{paged_tame}
use Rattle.vm_legal.specs.Walks.{Below}
use Rattle.vm_model.specs.Regions.{is_copy}
use Rattle.vm_objects.specs.declared.row.ObjectRow.{ObjectRow}
use Rattle.vm_state.proofs.Referring.{refers_shadow}
use Rattle.vm_state.proofs.Walks.{descends_of}
use Rattle.vm_state.specs.Pagers.{has_pager}
use Rattle.vm_state.specs.Stands.{IsUnderKind}
use Rattle.vm_maps.specs.Judge.{place_at}
use Rattle.vm_state.proofs.Declared.{over_declared, shadow_temporary, whole_row}
use Rattle.vm_state.specs.Waiters.{WaitsToPush}
use Rattle.vm_waits.specs.declared.waiting.Want.TheVariants as want
use Rattle.vm_kernel.proofs.Common.{backing_of, is_some, not, row_at, some_is, subst, sym, true, ℕ, ◌+◌, ◌<◌, ◌∙◌, ◌≡◌, ◌≤◌}
use Rattle.vm_copies.specs.Copies.{CopyRow, CopyTable, among, copy_at, had_at, newest_at}
use Rattle.vm_fault.specs.Pushes.{CopiesFit, Notes, OfCopy, OfOther, StandsOn, owed_at, owed_of}
use Rattle.vm_fault.specs.Sources.{is_due}
use Rattle.vm_fault.specs.Walks.{IsUnder, PassesOver, Sinks, WalksTo, is_storing}
use Rattle.vm_kernel.proofs.memory.WalksShown.{shown_at}
use Rattle.vm_kernel.proofs.Common.{IsSome, ObjectRow, object_at, object_pages, pages_of_row}
use Rattle.vm_kernel.proofs.space.ObjectEnds.{used_there}
use Rattle.vm_kernel.proofs.space.RegionsFilled.{row_use}
use Rattle.vm_kernel.specs.Matches.{Copied, ObjectFacts}
use Rattle.vm_legal.specs.Pushes.{OwesPush}
use Rattle.vm_merge.specs.Merges.{IsThin}
use Rattle.vm_parts.proofs.Rows.{one_case}
use Rattle.vm_parts.specs.Changes.{is_here}
use Rattle.vm_parts.specs.declared.parts.HostParts.{HostParts}
use Rattle.vm_resident.specs.Resident.{ResidentTable}
use Rattle.vm_shadow.specs.Chains.{shadow_at}
use Rattle.vm_shadow.specs.declared.shadow_row.ShadowRow.{ShadowRow}
use Rattle.vm_state.proofs.CopyFits.{OfNone, fits_came, fits_changed, fits_row, newest_row}
use Rattle.vm_state.proofs.CopyObjects.{PushesInto, copies_noted, copies_same, no_row, owed_some, owed_told, push_told, told_owed}
use Rattle.vm_state.proofs.Filling.{IsUnfilled, filled_there}
use Rattle.vm_state.proofs.Shown.{asks_row}
use Rattle.vm_state.proofs.Targets.{target_unshadowed}
use Rattle.vm_state.specs.Filling.{filled_row}
use Rattle.vm_state.specs.Stands.{HasRegions}
use Rattle.vm_terminate.specs.Finishes.{IsReferred}

-- what the history says is owed is owed by the tables
pub owed_here : {header : Header} {h : ℕ} {k : Parts} {ids : Ids} {past : List Event} → Matches header h k ids [] past → HasSlow header k past
    → (o p c : ℕ) → OwesPush header h o p c past → owed_at k.copies (page_key o p) ≡ Some (page_key c p)
owed_here {header = header} {h = h} {k = k} {ids = ids} {past = past} m slow o p c owes =
    owed_told m.core.objects.regions m.core.spaces.homes.1 (λ r temporary used. used_there header h k ids [] past r m slow temporary used)
    m.core.copied.known o p c owes

-- and the other way round
pub owes_here : {header : Header} {h : ℕ} {k : Parts} {ids : Ids} {past : List Event} → Matches header h k ids [] past → UsesAll header k past
    → AllReferred k.chains k.memory.objects k.memory.resident → (key place : PageKey) → owed_at k.copies key ≡ Some place
    → OwesPush header h key.object.0 key.page.0 place.object.0 past
owes_here m used referred key place owed =
    told_owed m.core.objects.regions m.core.objects.kinds m.core.spaces.homes.1 referred.shadows
    (λ r row temporary found. (m.core.spaces.uses.used r temporary).is (row_use r row m.core.spaces.entries found used))
    m.core.copied.known m.core.copied.fits.stands key.object.0 key.page.0 place owed

-- the place is that of the same page of the copy object, which stands on the page's object
pub stands_there : {copies : CopyTable} {parts : HostParts} {chains : ChainTable} (key place : PageKey) → CopiesFit copies parts chains
    → owed_at copies key ≡ Some place → StandsOn parts chains key.object.0 place.object.0
stands_there {copies = copies} key place fit owed = fit.stands key.object.0 place.object (owed_some copies key place owed).0

pub same_page : (copies : CopyTable) (key place : PageKey) → owed_at copies key ≡ Some place → place.page.0 ≡ key.page.0
same_page copies key place owed = ap (λ (z : PageKey). z.page.0) (owed_some copies key place owed).1.1

-- no page is there
pub owed_away : {copies : CopyTable} {parts : HostParts} {chains : ChainTable} (key place : PageKey) (row : PageRow) → CopiesFit copies parts chains
    → owed_at copies key ≡ Some place → row_at parts.resident place.object.0 place.page.0 ≡ Some row → row.here ≡ true → ⊥
owed_away {copies = copies} key place row fit owed found here =
    let was = owed_some copies key place owed in
    let its = newest_row fit.living key.object.0 place.object was.0 in
    let had : had_at copies place.object.0 place.page.0 ≡ true = (fit.fits place.object.0 its.0 its.1).had place.page.0 row found here in
    let bad : false ≡ true = sym was.1.0 ∙ (ap (had_at copies place.object.0) (sym (same_page copies key place owed)) ∙ had) in
    cc

-- so the page is due where the history has the place unasked
pub due_told : {header : Header} {h : ℕ} {k : Parts} {ids : Ids} {past : List Event} → Matches header h k ids [] past → HasSlow header k past
    → (o p c : ℕ) → OwesPush header h o p c past → (page_on header h c p past).asked ≡ false
    → is_due k.memory.resident (owed_at k.copies (page_key o p)) ≡ true
due_told {k = k} m slow o p c owes unasked =
    ap (is_due k.memory.resident) owed ∙ ap (λ b. not b) (none (row_at k.memory.resident c p) refl)
  where
    owed : owed_at k.copies (page_key o p) ≡ Some (page_key c p)
    owed = owed_here m slow o p c owes

    away : (row : PageRow) → row_at k.memory.resident c p ≡ Some row → (b : Bool) → row.here ≡ b → is_some (row_at k.memory.resident c p) ≡ false
    away row found true here = absurd (owed_away (page_key o p) (page_key c p) row m.core.copied.fits owed found here)
    away row found false gone =
        absurd (let bad : false ≡ true = sym unasked ∙ (asks_row (shown_at m) c p row found gone).asked in cc)

    none : (x : Option PageRow) → row_at k.memory.resident c p ≡ x → is_some (row_at k.memory.resident c p) ≡ false
    none None is = ap is_some is
    none (Some row) is = away row is row.here refl

-- where a page is due
pub record IsDueTo (resident : ResidentTable) (copies : CopyTable) (key : PageKey) : Type 0 where
  pub place : PageKey
  pub owed : owed_at copies key ≡ Some place
  pub none : row_at resident place.object.0 place.page.0 ≡ None

pub due_to : (resident : ResidentTable) (copies : CopyTable) (key : PageKey) → is_due resident (owed_at copies key) ≡ true → IsDueTo resident copies key
due_to resident copies key due = by (owed_at copies key) refl due
  where
    absent : (x : Option PageRow) → not (is_some x) ≡ true → x ≡ None
    absent None is = refl
    absent (Some row) is = absurd (let bad : false ≡ true = is in cc)

    by : (x : Option PageKey) → owed_at copies key ≡ x → is_due resident x ≡ true → IsDueTo resident copies key
    by None owed is = absurd (let bad : false ≡ true = is in cc)
    by (Some place) owed is = record { place = place; owed = owed; none = absent (row_at resident place.object.0 place.page.0) is }

-- no access that waits fills a region over a shadow
pub shadow_unfilled : {header : Header} {ids : Ids} {regions_made objects_made marked : ℕ} (k : Parts) (past : List Event) (o : ℕ) (row : ShadowRow)
    → UsesAll header k past
    → HasRegions k.chains k.memory.objects ids (λ r. region_of header r past) (λ x. backing_of header x past) regions_made objects_made marked
    → HaveHomes header past → shadow_at k.chains o ≡ Some row → IsUnfilled k.chains o
shadow_unfilled k past o row used regions homes found r object pages region alone same = elim (used.regions r (filled_row object pages) region) [
  | inl some ↦ let none : 0 < 0 = some in omega (arith, none)
  | inr filled ↦
      let is = filled_there used.copies filled.task r filled.fills in
      let its : object ≡ is.object = ap (λ z. z.top) (some_is (filled_row object pages) (filled_row is.object is.pages) (sym region ∙ is.region)) in
      let none : shadow_at k.chains is.object.0 ≡ None =
      target_unshadowed past regions homes filled.task (record { region = r; object = is.object.0 }) is.made in
      let bad : None ≡ Some row = sym none ∙ (ap (λ (z : ObjectId). shadow_at k.chains z.0) (sym its) ∙ (ap (shadow_at k.chains) (sym same) ∙ found)) in
      cc
]

-- a page that is noted makes no object a copy, nor ends one
pub noted_plain : {copies copies2 : CopyTable} (key : PageKey) (o : ℕ) → Notes key copies copies2 → copy_at copies2 o ≡ None → copy_at copies o ≡ None
noted_plain key o (OfOther plain same) none = ap (λ (z : CopyTable). copy_at z o) (sym same) ∙ none
noted_plain {copies = copies} {copies2 = copies2} key o (OfCopy row found put noted newest room) none =
    elim (one_case key.object.0 o _ (copy_at copies o) (copy_at copies2 o) (put.at o)) [
      | inl this ↦ absurd (no_row (copy_at copies2 o) _ none this.1)
      | inr other ↦ sym other.1 ∙ none
    ]

pub thin_noted : {copies copies2 : CopyTable} {chains : ChainTable} {objects : ObjectTable} (key : PageKey) → Notes key copies copies2
    → IsThin copies chains objects → IsThin copies2 chains objects
thin_noted key notes thin upper lower can =
    thin upper lower (record {
      link = can.link;
      over = can.over;
      under = can.under;
      upper_row = can.upper_row;
      upper_known = can.upper_known;
      lower_row = can.lower_row;
      lower_known = can.lower_known;
      sole = can.sole;
      upper_never = can.upper_never;
      lower_never = can.lower_never;
      plain = noted_plain key lower notes can.plain;
    })

-- the place to which a page is owed is right above the page's own
pub place_under : {copies : CopyTable} {parts : HostParts} {chains : ChainTable} (key place : PageKey) → CopiesFit copies parts chains
    → owed_at copies key ≡ Some place → IsUnder chains place key
place_under {copies = copies} key place fit owed =
    let on = stands_there key place fit owed in
    let page : key.page.0 ≡ place.page.0 + on.row.shift = (let same = same_page copies key place owed in let none = on.shift in omega (arith, same, none)) in
    record { row = on.row; found = on.found; is = λ i. record { object = record { 0 = sym on.under i }; page = record { 0 = page i } } }

-- an object that has a page is known
pub known_within : (os : ObjectTable) (o p : ℕ) → p < object_pages os o → IsSome (object_at os o)
known_within os o p less = by (object_at os o) less
  where
    by : (x : Option ObjectRow) → p < pages_of_row x → IsSome x
    by None below = absurd (omega (arith, below))
    by (Some row) below = refl

-- a page that is noted for an object that is no copy changes nothing
pub noted_same : {copies copies2 : CopyTable} (key : PageKey) → Notes key copies copies2 → copy_at copies key.object.0 ≡ None → copies2 ≡ copies
noted_same key (OfOther none same) plain = same
noted_same {copies = copies} key (OfCopy row found put noted newest room) plain = no_row (copy_at copies key.object.0) row plain found

module _ {copies : CopyTable} {memory memory2 : HostParts} {chains : ChainTable} {s : ObjectFacts} {pushed : ℕ → ℕ → Bool} where
  -- a page comes to a place of an object that is no copy
  pub copied_beside : (key : PageKey) (x : Option PageRow) → SameObjects memory.objects memory2.objects
      → PutsRow key.object.0 key.page.0 x memory.resident memory2.resident → copy_at copies key.object.0 ≡ None
      → Copied copies memory chains s pushed → Copied copies memory2 chains s pushed
  copied_beside key x same put plain was =
      record { known = copies_same same was.known; fits = fits_row key.object.0 key.page.0 x same put (λ page is here. OfNone plain) was.fits }

  -- a page is copied up to a place, and noted
  pub copied_came : {copies2 : CopyTable} {pushed2 : ℕ → ℕ → Bool} (key : PageKey) (x : Option PageRow) → SameObjects memory.objects memory2.objects
      → PutsRow key.object.0 key.page.0 x memory.resident memory2.resident → IsSome (object_at memory2.objects key.object.0) → Notes key copies copies2
      → PushesInto key pushed pushed2 → Copied copies memory chains s pushed → Copied copies2 memory2 chains s pushed2
  copied_came key x same put known notes pushes was =
      record { known = copies_noted key known notes pushes (copies_same same was.known); fits = fits_came key x same put notes was.fits }

  -- the row of a page changes, which was here if it is so now
  pub copied_changed : (key : PageKey) (frame : FrameNo) (was now : Option PageRow) (held : Bool) (bytes : List ℕ) (lists : Queues)
      → SameObjects memory.objects memory2.objects → Changes key frame was now held bytes lists memory memory2 → (is_here now ≡ true → is_here was ≡ true)
      → Copied copies memory chains s pushed → Copied copies memory2 chains s pushed
  copied_changed key frame was_row now held bytes lists same changes before was =
      record {
        known = copies_same same was.known;
        fits = fits_changed key frame was_row now held bytes lists same changes before was.fits;
      }

-- what an access waits for that is told to wait for a page: for that page where its walk led there, and to push its own where it owes it to that place

led_at : (maps : Mapped) (chains : ChainTable) (task : ℕ) (what : Want) (top : PageKey) → IsOfNumber what → (at : IsAt maps chains task what top)
    → place_led maps task what ≡ Some (place_at maps.size (address_in maps.size what) at.entry)
led_at maps chains task (want.Load address size) top number at = ap (option_map (place_at maps.size address)) at.found
led_at maps chains task (want.Store address size value) top number at = ap (option_map (place_at maps.size address)) at.found
led_at maps chains task (want.CopyTo address pages target next) top number at = absurd number

pub page_unpushing : {header : Header} {h : ℕ} {k : Parts} {ids : Ids} {past : List Event} {task : ℕ} {top : PageKey} (what : Want) (n : ℕ) (key : PageKey)
    → Matches header h k ids [] past → IsAt k.maps k.chains task what top → WalksTo k.memory k.chains n top key
    → is_pushing (length k.declared.items) key (place_led k.maps task what) ≡ false
page_unpushing {header = header} {k = k} {task = task} {top = top} what n key m at walks = by what refl
  where
    r : ℕ
    r = at.entry.region.0

    all : length k.declared.items ≡ named header
    all = ap length m.core.setting.objects

    at_top : top.object.0 ≡ at.row.top.0
    at_top = ap (λ (z : PageKey). z.object.0) at.is

    whole : r < named header → top.object.0 ≡ r
    whole declared = at_top ∙ (whole_row m.core.objects.regions m.core.spaces.homes.1 r at.row declared at.region).top

    stays_there : (n2 : ℕ) → WalksTo k.memory k.chains n2 top key → r < named header → key.object.0 ≡ r
    stays_there zero walks2 declared = ap (λ (z : PageKey). z.object.0) (sym walks2) ∙ whole declared
    stays_there (suc n2) walks2 declared =
        let under : IsUnder k.chains top walks2.1.0 = walks2.1.1 in
        let least = shadow_temporary m.core.objects.regions m.core.spaces.homes.1 top.object.0 under.row under.found in
        let same = whole declared in
        absurd (omega (arith, least, same, declared))

    core : (nat_lt r (length k.declared.items) && not (r == key.object.0)) ≡ false
    core = elim (kind_cases header r) [
      | inl declared ↦
          let same : (r == key.object.0) ≡ true = subst (λ (z : ℕ). (r == z) ≡ true) (sym (stays_there n walks declared)) (itself r) in
          ap (λ b. nat_lt r (length k.declared.items) && not b) same ∙ and-false (nat_lt r (length k.declared.items))
      | inr temporary ↦
          let high : nat_lt r (length k.declared.items) ≡ false = grind (arith, nat_tests, all, temporary) in
          ap (λ b. b && not (r == key.object.0)) high
    ]

    plain : (what2 : Want) → what ≡ what2 → IsOfNumber what2 → is_pushing (length k.declared.items) key (place_led k.maps task what2) ≡ false
    plain what2 same number =
        let at2 : IsAt k.maps k.chains task what2 top = subst (λ (z : Want). IsAt k.maps k.chains task z top) same at in
        let led = led_at k.maps k.chains task what top (subst IsOfNumber (sym same) number) at in
        ap (is_pushing (length k.declared.items) key) (ap (place_led k.maps task) (sym same) ∙ led) ∙ core

    by : (what2 : Want) → what ≡ what2 → is_pushing (length k.declared.items) key (place_led k.maps task what) ≡ false
    by (want.Load address size) same =
        ap (λ (z : Want). is_pushing (length k.declared.items) key (place_led k.maps task z)) same ∙ plain (want.Load address size) same tt
    by (want.Store address size value) same =
        ap (λ (z : Want). is_pushing (length k.declared.items) key (place_led k.maps task z)) same ∙ plain (want.Store address size value) same tt
    by (want.CopyTo address pages target next) same =
        ap (λ (z : Want). is_pushing (length k.declared.items) key (place_led k.maps task z)) same

pub push_pushing : {header : Header} {h : ℕ} {k : Parts} {ids : Ids} {past : List Event} {task : ℕ} {top : PageKey} (what : Want) (key : PageKey)
    → Matches header h k ids [] past → UsesAll header k past → AllReferred k.chains k.memory.objects k.memory.resident
    → IsAt k.maps k.chains task what top → is_storing what ≡ true → owed_at k.copies top ≡ Some key
    → is_pushing (length k.declared.items) key (place_led k.maps task what) ≡ true
push_pushing {header = header} {k = k} {past = past} {task = task} {top = top} what key m used referred at stores owed =
    ap (is_pushing (length k.declared.items) key) (led_at k.maps k.chains task what top (number what stores) at) ∙ core
  where
    number : (what2 : Want) → is_storing what2 ≡ true → IsOfNumber what2
    number (want.Load address size) is = tt
    number (want.Store address size value) is = tt
    number (want.CopyTo address pages target next) is = absurd (let bad : false ≡ true = is in cc)

    r : ℕ
    r = at.entry.region.0

    all : length k.declared.items ≡ named header
    all = ap length m.core.setting.objects

    core : (nat_lt r (length k.declared.items) && not (r == key.object.0)) ≡ true
    core =
        let owes = owes_here m used referred top key owed in
        let file = file_named header top.object.0 owes.file in
        let at_top : top.object.0 ≡ at.row.top.0 = ap (λ (z : PageKey). z.object.0) at.is in
        let own : r ≡ at.row.top.0 = over_declared m.core.objects.regions m.core.objects.kinds m.core.spaces.homes.1 r at.row at.region
        (omega (arith, file, at_top)) in
        let least = copy_temporary header top.object.0 key.object.0 past m.core.spaces.homes.1 owes.newest in
        let low : nat_lt r (length k.declared.items) ≡ true = grind (arith, nat_tests, all, file, at_top, own) in
        let apart : (r == key.object.0) ≡ false = grind (arith, nat_tests, file, at_top, own, least) in
        ap (λ b. b && not (r == key.object.0)) low ∙ ap (λ b. not b) apart

-- the store has paid behind its push
pub paid_noted : {copies copies2 : CopyTable} {parts : HostParts} {chains : ChainTable} (key place : PageKey) → CopiesFit copies parts chains
    → owed_at copies key ≡ Some place → Notes place copies copies2 → owed_at copies2 key ≡ None
paid_noted {copies = copies} key place fit owed (OfOther none same) =
    let its = newest_row fit.living key.object.0 place.object (owed_some copies key place owed).0 in
    no_row (copy_at copies place.object.0) its.0 none its.1
paid_noted {copies = copies} {copies2 = copies2} key place fit owed (OfCopy row found put noted newest room) =
    let was = owed_some copies key place owed in
    let first : newest_at copies2 key.object.0 ≡ Some place.object = ap (among key.object.0) newest ∙ was.0 in
    let had : had_at copies2 place.object.0 key.page.0 ≡ true = noted.at place.object.0 key.page.0
    ∙ (ap (λ b. if b && (place.page.0 == key.page.0) then true else had_at copies place.object.0 key.page.0) (itself place.object.0)
    ∙ ap (λ b. if b then true else had_at copies place.object.0 key.page.0)
    (subst (λ (z : ℕ). (place.page.0 == z) ≡ true) (same_page copies key place owed) (itself place.page.0))) in
    ap (owed_of copies2 key.page) first ∙ ap (λ b. if b then None else Some (record { object = place.object; page = key.page })) had

-- and the history doesn't say that it owes
pub paid_here : {header : Header} {h : ℕ} {k : Parts} {ids : Ids} {past : List Event} → Matches header h k ids [] past → HasSlow header k past
    → (key : PageKey) → owed_at k.copies key ≡ None → (copy : ℕ) → OwesPush header h key.object.0 key.page.0 copy past → ⊥
paid_here {k = k} m slow key none copy owes =
    let bad : None ≡ Some (page_key copy key.page.0) = sym none ∙ owed_here m slow key.object.0 key.page.0 copy owes in cc

-- where it doesn't, nothing is owed
pub unowed_here : {header : Header} {h : ℕ} {k : Parts} {ids : Ids} {past : List Event} → Matches header h k ids [] past → UsesAll header k past
    → AllReferred k.chains k.memory.objects k.memory.resident → (key : PageKey)
    → ((copy : ℕ) → OwesPush header h key.object.0 key.page.0 copy past → ⊥) → owed_at k.copies key ≡ None
unowed_here {k = k} m used referred key paid = by (owed_at k.copies key) refl
  where
    by : (x : Option PageKey) → owed_at k.copies key ≡ x → x ≡ None
    by None owed = refl
    by (Some place) owed = absurd (paid place.object.0 (owes_here m used referred key place owed))

-- a store that waits to push its page owes it, and the place is asked
pub push_here : {header : Header} {h : ℕ} {k : Parts} {ids : Ids} {past : List Event} → Matches header h k ids [] past → UsesAll header k past
    → AllReferred k.chains k.memory.objects k.memory.resident → (task : ℕ) (what : Want) (key : PageKey)
    → (push : WaitsToPush k.maps k.chains k.copies k.memory.resident task what key)
    → OwesPush header h push.top.object.0 push.top.page.0 key.object.0 past × ((page_on header h key.object.0 push.top.page.0 past).asked ≡ true)
push_here {k = k} m used referred task what key push =
    push_told (shown_at m) m.core.objects.regions m.core.objects.kinds m.core.spaces.homes.1 referred.shadows
    (λ r row temporary found. (m.core.spaces.uses.used r temporary).is (row_use r row m.core.spaces.entries found used))
    m.core.copied.known m.core.copied.fits.stands k.maps task what key push

-- the walk that finds a page nowhere passes over its top place
pub passes_top : (parts : HostParts) (chains : ChainTable) (top : PageKey) → Sinks parts chains top → PassesOver parts top
passes_top parts chains top sinks = by sinks.steps sinks.walks
  where
    by : (steps : ℕ) → WalksTo parts chains steps top sinks.last → PassesOver parts top
    by zero walks = subst (PassesOver parts) (sym walks) sinks.passes
    by (suc steps) walks = walks.0

-- a walk passes over no place of a file to which something refers: its pager, which is there, may have each of its pages
passed_temporary : {header : Header} {h : ℕ} {k : Parts} {ids : Ids} {past : List Event} → Matches header h k ids [] past → (key : PageKey)
    → PassesOver k.memory key → IsReferred k.memory.objects key.object.0 → IsUnderKind header key.object.0 → named header ≤ key.object.0
passed_temporary {header = header} {k = k} m key over referred kind = elim kind [
  | inl temporary ↦ temporary
  | inr file ↦
      let declared = file_named header key.object.0 file in
      elim over.none [
        | inl without ↦
            let is = m.core.objects.kinds.kinds key.object.0 over.row over.known in
            let same : referred.row ≡ over.row = some_is referred.row over.row (sym referred.known ∙ over.known) in
            let live = (is.declared declared).told (paged_tame header key.object.0 (file_paged header key.object.0 file))
            (subst (λ (z : ObjectRow). 0 < z.references) same referred.some) in
            absurd (let bad : false ≡ true = sym (is.lives ∙ ap has_pager without) ∙ live in cc)
        | inr lacked ↦ absurd (let bad : false ≡ true = sym (m.core.objects.kinds.present key.object.0 key.page.0 declared) ∙ lacked in cc)
      ]
]

-- so where a walk finds a page nowhere, all objects below are temporary
pub sinks_temporary : {header : Header} {h : ℕ} {k : Parts} {ids : Ids} {past : List Event} → Matches header h k ids [] past → (top : PageKey)
    → Sinks k.memory k.chains top → IsReferred k.memory.objects top.object.0 → IsUnderKind header top.object.0 → (depth below : ℕ)
    → Below (λ o. backing_of header o past) depth top.object.0 below → named header ≤ below
sinks_temporary {header = header} {k = k} {past = past} m top sinks referred kind = go sinks.steps top sinks.walks referred kind
  where
    go : (n : ℕ) (from : PageKey) → WalksTo k.memory k.chains n from sinks.last → IsReferred k.memory.objects from.object.0 → IsUnderKind header from.object.0
        → (depth below : ℕ) → Below (λ o. backing_of header o past) depth from.object.0 below → named header ≤ below
    go zero from walks is its zero below same =
        subst (λ (z : ℕ). named header ≤ z) same (passed_temporary m from (subst (PassesOver k.memory) (sym walks) sinks.passes) is its)
    go zero from walks is its (suc depth) below leads =
        let none : shadow_at k.chains from.object.0 ≡ None = ap (λ (z : PageKey). shadow_at k.chains z.object.0) walks ∙ sinks.bottom in
        absurd (let bad : false ≡ true = sym (m.core.objects.regions.bottoms from.object.0 is none) ∙ leads.0 in cc)
    go (suc n) from walks is its zero below same = subst (λ (z : ℕ). named header ≤ z) same (passed_temporary m from walks.0 is its)
    go (suc n) from walks is its (suc depth) below leads =
        let under = walks.1.1 in
        let down = descends_of (shown_at m) from walks.1.0 under in
        let next : (backing_of header from.object.0 past).under ≡ walks.1.0.object.0 = sym down.object in
        let object : walks.1.0.object.0 ≡ under.row.under.0 = ap (λ (z : PageKey). z.object.0) under.is in
        go n walks.1.0 walks.1.2
        (subst (λ (z : ℕ). IsReferred k.memory.objects z) (sym object) (refers_shadow m.core.objects.regions from.object.0 under.row under.found))
        (subst (λ (z : ℕ). IsUnderKind header z) (sym object) (m.core.objects.kinds.unders from.object.0 under.row under.found)) depth below
        (subst (λ (z : ℕ). Below (λ o. backing_of header o past) depth z below) next leads.1)

-- zeros come to no copy object: there is always a declared object below one
pub sinks_plain : {header : Header} {h : ℕ} {k : Parts} {ids : Ids} {past : List Event} → Matches header h k ids [] past → (top : PageKey)
    → Sinks k.memory k.chains top → IsReferred k.memory.objects top.object.0 → copy_at k.copies top.object.0 ≡ None
sinks_plain {header = header} {k = k} {past = past} m top sinks referred = by (copy_at k.copies top.object.0) refl
  where
    go : (n : ℕ) (from : PageKey) → WalksTo k.memory k.chains n from sinks.last → IsReferred k.memory.objects from.object.0
        → is_copy from.object.0 past ≡ true → ⊥
    go zero from walks is copy =
        let none : shadow_at k.chains from.object.0 ≡ None = ap (λ (z : PageKey). shadow_at k.chains z.object.0) walks ∙ sinks.bottom in
        let bad : false ≡ true = sym (m.core.objects.regions.bottoms from.object.0 is none) ∙ (m.core.spaces.homes.1.lined from.object.0 copy).backed in
        cc
    go (suc n) from walks is copy =
        let under = walks.1.1 in
        let down = descends_of (shown_at m) from walks.1.0 under in
        let next : (backing_of header from.object.0 past).under ≡ walks.1.0.object.0 = sym down.object in
        let object : walks.1.0.object.0 ≡ under.row.under.0 = ap (λ (z : PageKey). z.object.0) under.is in
        let its = subst (λ (z : ℕ). IsReferred k.memory.objects z) (sym object)
        (refers_shadow m.core.objects.regions from.object.0 under.row under.found) in
        elim ((m.core.spaces.homes.1.lined from.object.0 copy).over) [
          | inl declared ↦
              let kind = subst (λ (z : ℕ). IsUnderKind header z) (sym object) (m.core.objects.kinds.unders from.object.0 under.row under.found) in
              let least = passed_temporary m walks.1.0 (passes_top k.memory k.chains walks.1.0 rest) its kind in
              omega (arith, declared, next, least)
          | inr more ↦ go n walks.1.0 walks.1.2 its (subst (λ (z : ℕ). is_copy z past ≡ true) next more)
        ]
      where
        rest : Sinks k.memory k.chains walks.1.0
        rest = record { steps = n; last = sinks.last; walks = walks.1.2; passes = sinks.passes; bottom = sinks.bottom }

    by : (x : Option CopyRow) → copy_at k.copies top.object.0 ≡ x → x ≡ None
    by None found = refl
    by (Some row) found = absurd (go sinks.steps top sinks.walks referred (m.core.copied.known.copy top.object.0 row found))
