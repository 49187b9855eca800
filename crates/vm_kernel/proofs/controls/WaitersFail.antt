-- Those who wait for a page that its pager can't give are ended.
use Rattle.vm_kernel.proofs.Common.{AllInner, AllReferred, Asked, Asker, BeganInOrder, Bool, ChainTable, Command, EachOf, EndsEach, EndsNobody, EndsOnly}
use Rattle.vm_kernel.proofs.Common.{EndsRegion, Event, Fails, FailsNow, HasCopies, HasEnded, HasFailed, HasSlow, HasUse, HasWaits, Header, Ids, IfSome}
use Rattle.vm_kernel.proofs.Common.{IsAbsencePaid, IsAmid, IsAnswered, IsEnding, IsErrorPaid, IsFilledIn, IsWhole, LegalEvents, List, Mapped, Matches, None, On}
use Rattle.vm_kernel.proofs.Common.{OnlyLoses, Option, Outside, PageKey, PageRow, Parts, PutsEntry, ResidentTable, Some, TaskId, WaitTable, Waiting, Woken}
use Rattle.vm_kernel.proofs.Common.{Works, [], absence_more, absence_taken, access_in, address_in, ap, append_assoc, begun_at, copies_to, copy_target}
use Rattle.vm_kernel.proofs.Common.{entries_in, entries_in_row, entries_of, entry, entry_at, eqb_tells, error_more, error_taken, fails_access, fails_task}
use Rattle.vm_kernel.proofs.Common.{false, fills_in, holds, if◌then◌else◌, in_use, inl, inr, next_page, next_region, oldest_row, or_true, page_key, puts_cases}
use Rattle.vm_kernel.proofs.Common.{refl, row_at, rows_in, since, since_more, some_is, subst, sym, true, waiting, waiting_in, waits_page, ℕ, ◌++◌, ◌<◌, ◌==◌}
use Rattle.vm_kernel.proofs.Common.{◌||◌, ◌∙◌, ◌∷◌, ◌≡◌, ◌≢◌, ◌⊎◌}
use Rattle.vm_kernel.proofs.space.RegionsInUse.{FillsHere, fills_here, holds_waits, uses_none}
use Rattle.vm_state.proofs.Filling.{Filled, filled_there, used_over, copies_next}
use Rattle.vm_legal.specs.Licences.{ByError, zeroes}
use Rattle.std.proofs.Common.{is_some}
use Rattle.vm_model.specs.Waiting.{Target}
use Rattle.vm_model.specs.declared.event.Event.TheVariants as event
use Rattle.vm_model.specs.declared.message.Channel.TheVariants.{Up}
use Rattle.vm_model.specs.declared.message.Message.TheVariants as message
use Rattle.vm_state.specs.Filling.{filled_row, is_destination}
use Rattle.vm_waits.specs.declared.waiting.Destination.{Destination}
use Rattle.vm_legal.specs.Living.{tasks as made_tasks}
use Rattle.vm_supply.specs.declared.woken.Woken.TheVariants as who
use Rattle.vm_waits.specs.declared.waiting.On.TheVariants as on
use Rattle.vm_kernel.proofs.steps.EventsGrow.{Follows, goes_both, goes_more, suffices}
use Rattle.vm_kernel.proofs.steps.RowsInOrder.{PutsInOrder, oldest_first}
use Rattle.vm_kernel.proofs.memory.WalksShown.{page_left, place_at, want_address}
use Rattle.vm_kernel.proofs.abroad.OwnHost.{lives_here, rows_here}
use Rattle.vm_state.proofs.Waited.{AreTold}
use Rattle.vm_kernel.proofs.abroad.OwnEvents.{own_lives}
use Rattle.vm_kernel.proofs.controls.LockReplied.{replied_behind}
use Rattle.vm_base.specs.Pages.{page_positive}
use Rattle.vm_legal.specs.InTurn.{FailureInTurn}
use Rattle.vm_kernel.proofs.space.RegionHomes.{homes_caused}
use Rattle.vm_kernel.specs.Sweeping.{IsBareTop}
use Rattle.vm_merge.specs.Merges.{IsThin}
use Rattle.vm_objects.specs.Objects.{object_at}
use Rattle.vm_objects.specs.declared.row.ObjectRow.{ObjectRow}
use Rattle.vm_shadow.specs.declared.region_row.RegionRow.{RegionRow}
use Rattle.vm_state.proofs.Referring.{only_one, row_of}
use Rattle.vm_state.proofs.Targets.{target_unshadowed}
use Rattle.vm_kernel.proofs.space.RegionsFilled.{filled_temporary}
use Rattle.vm_state.proofs.Declared.{uncached_temporary}
use Rattle.vm_base.specs.declared.entry.Entry.{Entry}
use Rattle.vm_kernel.specs.Matches.{Core, HasOrder, control_facts, memory_facts, space_facts}
use Rattle.vm_legal.specs.Accesses.{Waits}
use Rattle.vm_state.specs.Waiters.{is_awaited}
use Rattle.vm_waits.specs.Waits.{is_frame}

-- who waits for the page
pub waits_for : (key : PageKey) (reason : On) → waits_page key reason ≡ true → reason ≡ on.Page key
waits_for key on.Again is = absurd (let bad : false ≡ true = is in cc)
waits_for key (on.Ready object) is = absurd (let bad : false ≡ true = is in cc)
waits_for key (on.Page other) is = elim (eqb_tells other.object.0 key.object.0) [
  | inl one ↦ elim (eqb_tells other.page.0 key.page.0) [
    | inl two ↦ λ i. on.Page (page_key (one.1 i) (two.1 i))
    | inr apart ↦ absurd (let bad : false ≡ true = rw (one.0, apart.0) at is in cc)
  ]
  | inr apart ↦ absurd (let bad : false ≡ true = rw apart.0 at is in cc)
]
waits_for key (on.Push other) is = absurd (let bad : false ≡ true = is in cc)
waits_for key on.Frame is = absurd (let bad : false ≡ true = is in cc)

-- and not for a frame
pub page_unqueued : (key : PageKey) (reason : On) → waits_page key reason ≡ true → is_frame reason ≡ false
page_unqueued key reason waits = ap is_frame (waits_for key reason waits)

itself : (key : PageKey) → waits_page key (on.Page key) ≡ true
itself key = elim (eqb_tells key.object.0 key.object.0) [
  | inl one ↦ elim (eqb_tells key.page.0 key.page.0) [
    | inl two ↦ rw (one.0, two.0) refl
    | inr apart ↦ absurd (apart.1 refl)
  ]
  | inr apart ↦ absurd (apart.1 refl)
]

-- the tables of a kernel behind a history
abbrev pub Standing : Header → ℕ → Parts → Ids → List Event → Type 0
Standing header h k ids past = Core header h k ids [] (space_facts header past) (control_facts h past) (memory_facts header h past)

-- those whom the error has ended began earlier than each who still waits for the page
abbrev pub EndsBefore : PageKey → List Waiting → List Event → Type 0
EndsBefore key rows past =
    (u t : ℕ) (w : Waiting) → since (fails_task u key.object.0 key.page.0) past ≡ true → entry rows t ≡ Some w → waits_page key w.on ≡ true
    → begun_at u past < begun_at t past

-- an access that waits is one of the history
abbrev pub waits_here : (header : Header) (h : ℕ) (k : Parts) (ids : Ids) (past : List Event) (who : Woken) (w : Waiting) (e : Entry)
    → Standing header h k ids past → HasWaits header h k who past → HasSlow header k past → entry k.waits.rows w.task.0 ≡ Some w
    → entry_at (address_in k.maps.size w.want) (rows_in w.task.0 k.maps) ≡ Some e
    → Waits header w.task.0 (access_in k.maps.size (copies_to w.destination) w.want) past
waits_here header h k ids past who w e core has copies found at =
    let allowed = has.allowed w.task.0 w found in
    let agrees = copies_next copies w.task.0 w found in
    record {
      waits = has.is w.task.0 (ap is_some allowed.lives) ∙ ap (waiting_in k.maps.size) found;
      at =
          record {
            host = h;
            entry = e;
            lives = lives_here core.spaces.tasks allowed.lives;
            found =
                ap (λ z. entry_at z (entries_of header.size w.task.0 past))
                (want_address k.maps.size header.size (next_page w.task.0 past) (copies_to w.destination) w.want core.spaces.tasks.sized agrees)
                ∙ (ap (entry_at (address_in k.maps.size w.want)) (rows_here core.spaces.tasks allowed.lives) ∙ at);
          };
      left =
          page_left k.maps.size header.size (next_page w.task.0 past) (copies_to w.destination) w.want core.spaces.tasks.sized
          (page_positive header.size core.setting.ranged.size) (has.sized w.task.0 w found) agrees;
    }

fails_cause : (header : Header) (h : ℕ) (k : Parts) (ids : Ids) (past : List Event) (key : PageKey) (w : Waiting) → Works header h k ids (who.Fails key) past
    → FailsNow header h (who.Fails key) past
    → entry k.waits.rows w.task.0 ≡ Some w → w.on ≡ on.Page key → EndsBefore key k.waits.rows past
    → (fails : Fails header w.task.0 key.object.0 key.page.0 past) × FailureInTurn header w.task.0 key.object.0 key.page.0 past fails
fails_cause header h k ids past key w works fails found waits before =
    let was = works.matches in
    let place = works.waits.aims w.task.0 w key found waits in
    let agrees = copies_next works.used.copies w.task.0 w found in (
      ByError (record {
        access = access_in k.maps.size (copies_to w.destination) w.want;
        waits = waits_here header h k ids past (who.Fails key) w place.at.entry was.core works.waits works.used.copies found place.at.found;
        error = fails;
        place = place_at was (copies_to w.destination) agrees place;
      }),
      λ other ended. before other w.task.0 w ended found (ap (waits_page key) waits ∙ itself key),
    )

-- the table without its row
waits_less : (maps : Mapped) (task : ℕ) (rows rows2 : List Waiting) (past : List Event) → AreTold maps rows (λ t. waiting t past)
    → PutsEntry task None rows rows2
    → AreTold maps rows2 (λ t. if task == t then None else waiting t past)
waits_less maps task rows rows2 past is puts t here = elim (eqb_tells task t) [
  | inl same ↦ rw same.0 (sym (ap (waiting_in maps.size) (puts.at t ∙ ap (λ b. if b then None else entry rows t) same.0)))
  | inr apart ↦ rw apart.0 (is t here ∙ sym (ap (waiting_in maps.size) (puts.at t ∙ ap (λ b. if b then None else entry rows t) apart.0)))
]

stood : (task t : ℕ) (rows rows2 : List Waiting) (w : Waiting) → PutsEntry task None rows rows2 → entry rows2 t ≡ Some w → entry rows t ≡ Some w
stood task t rows rows2 w puts found =
    puts_cases task t None rows rows2 w puts found (λ same is. absurd (let bad : None ≡ Some w = is in cc)) (λ apart was. was)

pub stays : (task t : ℕ) (rows rows2 : List Waiting) (w : Waiting) → PutsEntry task None rows rows2 → (task ≡ t → ⊥) → entry rows t ≡ Some w
    → entry rows2 t ≡ Some w
stays task t rows rows2 w puts apart found = elim (eqb_tells task t) [
  | inl same ↦ absurd (apart same.1)
  | inr other ↦ puts.at t ∙ (ap (λ b. if b then None else entry rows t) other.0 ∙ found)
]

-- the oldest that waits is ended, so the others began later
ends_before : (key : PageKey) (w : Waiting) (rows rows2 : List Waiting) (past : List Event) → EndsBefore key rows past
    → BeganInOrder (λ t. begun_at t past) 0 rows → oldest_row (waits_page key) rows ≡ Some w → PutsEntry w.task.0 None rows rows2
    → EndsBefore key rows2 (event.Failed w.task key.object key.page ∷ past)
ends_before key w rows rows2 past before order first puts u t v ended found passes = elim (eqb_tells w.task.0 u) [
  | inl same ↦
      subst (λ (z : ℕ). begun_at z past < begun_at t past) same.1
      (oldest_first (λ z. begun_at z past) (waits_page key) 0 t rows w v order first (stood w.task.0 t rows rows2 v puts found) passes (gone t found))
  | inr apart ↦ before u t v (rw apart.0 at ended) (stood w.task.0 t rows rows2 v puts found) passes
]
  where
    gone : (t : ℕ) → entry rows2 t ≡ Some v → w.task.0 ≡ t → ⊥
    gone t found same = elim (eqb_tells w.task.0 t) [
      | inl is ↦ let bad : None ≡ Some v = sym (puts.at t ∙ ap (λ b. if b then None else entry rows t) is.0) ∙ found in cc
      | inr apart ↦ apart.1 same
    ]

-- nobody was ended yet
pub before_none : (key : PageKey) (rows : List Waiting) (past : List Event) → EndsNobody (who.Fails key) past → EndsBefore key rows past
before_none key rows past none u t w ended found passes = absurd (let bad : false ≡ true = sym (none u) ∙ ended in cc)

-- what the others fill

pub fills_apart : (task t r : ℕ) (rows rows2 : List Waiting) → PutsEntry task None rows rows2 → fills_in r (entry rows2 t) ≡ true → (task ≡ t → ⊥)
    × (fills_in r (entry rows t) ≡ true)
fills_apart task t r rows rows2 puts is = elim (eqb_tells task t) [
  | inl same ↦ absurd (let bad : false ≡ true = sym (ap (fills_in r) (puts.at t ∙ ap (λ b. if b then None else entry rows t) same.0)) ∙ is in cc)
  | inr apart ↦ (apart.1, sym (ap (fills_in r) (puts.at t ∙ ap (λ b. if b then None else entry rows t) apart.0)) ∙ is)
]

fills_still : (task t r : ℕ) (rows rows2 : List Waiting) → PutsEntry task None rows rows2 → (task ≡ t → ⊥) → fills_in r (entry rows t) ≡ true
    → fills_in r (entry rows2 t) ≡ true
fills_still task t r rows rows2 puts apart is = elim (eqb_tells task t) [
  | inl same ↦ absurd (apart same.1)
  | inr other ↦ ap (fills_in r) (puts.at t ∙ ap (λ b. if b then None else entry rows t) other.0) ∙ is
]

pub copies_without : {header : Header} {maps : Mapped} {cs : ChainTable} {rs : ResidentTable} {next_at : ℕ → ℕ} {target_at : ℕ → Option Target} (task : ℕ)
    (rows rows2 : List Waiting) → HasCopies header maps cs rs rows next_at target_at → PutsEntry task None rows rows2
    → HasCopies header maps cs rs rows2 next_at target_at
copies_without task rows rows2 copies puts =
    record {
      each = λ t w found. copies.each t w (stood task t rows rows2 w puts found);
      apart = λ t u r one two. copies.apart t u r (fills_apart task t r rows rows2 puts one).1 (fills_apart task u r rows rows2 puts two).1;
    }

-- An access fails: its row goes, and all else stands as it did.

uses_failed : (header : Header) (h : ℕ) (k : Parts) (ids : Ids) (past : List Event) (key : PageKey) (task : TaskId) (rows : List Waiting)
    → Standing header h k ids past
    → FillsHere k.maps rows (event.Failed task key.object key.page ∷ past) → ((r : ℕ) → IsFilledIn rows r → IsFilledIn k.waits.rows r)
    → entries_in task.0 k.maps ≡ Some (rows_in task.0 k.maps)
    → HasUse header k.maps rows (λ r. in_use header h r (event.Failed task key.object key.page ∷ past)) (made_tasks past)
    (λ t r. holds header.size t r (event.Failed task key.object key.page ∷ past)) (next_region header past)
uses_failed header h k ids past key task rows core filled back lives =
    uses_none header k.maps k.waits.rows rows (λ r. in_use header h r past) (λ t r. holds header.size t r past) (next_region header past)
    (event.Failed task key.object key.page ∷ past) core.spaces.uses back
    (record { rows = λ t here. core.spaces.tasks.rows t here; filled = filled }) core.spaces.entries.most
    (λ t r none. holds_waits header.size task.0 t r k.maps (rows_in task.0 k.maps) past None lives none)

-- what stands then, where each page that is awaited has an asker left
pub record StandsFailed (header : Header) (h : ℕ) (outside : Outside) (doing : Command) (k : Parts) (ids : Ids) (who : Woken) (e : Event) (table : WaitTable)
    (past : List Event) : Type 0 where
  pub core : Standing header h (record k { waits = table }) ids (e ∷ past)
  pub copies : HasSlow header (record k { waits = table }) (e ∷ past)
  pub waits : HasWaits header h (record k { waits = table }) who (e ∷ past)
  pub order : HasOrder (record k { waits = table }) (e ∷ past)
  pub follows : Follows header h outside doing e past

pub stands_failed : (header : Header) (h : ℕ) (outside : Outside) (doing : Command) (past : List Event) (key : PageKey) (k : Parts) (ids : Ids) (who : Woken)
    (w : Waiting) (waits : WaitTable) → Standing header h k ids past → HasWaits header h k who past → HasSlow header k past → HasOrder k past
    → (fails : Fails header w.task.0 key.object.0 key.page.0 past) × FailureInTurn header w.task.0 key.object.0 key.page.0 past fails
    → entry k.waits.rows w.task.0 ≡ Some w → PutsInOrder w.task.0 None k.waits.rows waits.rows
    → ((o p : ℕ) (row : PageRow) → row_at k.memory.resident o p ≡ Some row → is_awaited row ≡ true → Asker waits.rows o p)
    → StandsFailed header h outside doing k ids who (event.Failed w.task key.object key.page) waits past
stands_failed header h outside doing past key k ids who w waits core has slow order cause found both askers =
    let puts = both.entry in
    let e = event.Failed w.task key.object key.page in
    let rows = k.waits.rows in
    let copies = copies_without w.task.0 rows waits.rows slow puts in
    let has2 : HasWaits header h (record k { waits = waits }) who (e ∷ past) = record {
      is = waits_less k.maps w.task.0 rows waits.rows past has.is puts;
      allowed = λ t v at. has.allowed t v (stood w.task.0 t rows waits.rows v puts at);
      sized = λ t v at. has.sized t v (stood w.task.0 t rows waits.rows v puts at);
      reasons = λ t v at still. has.reasons t v (stood w.task.0 t rows waits.rows v puts at) still;
      passed = λ t v at still. has.passed t v (stood w.task.0 t rows waits.rows v puts at) still;
      aims = λ t v other at waits_on. has.aims t v other (stood w.task.0 t rows waits.rows v puts at) waits_on;
      askers = askers;
      ready = has.ready;
    } in
    record {
      core = record {
        setting = core.setting;
        calm = core.calm;
        fits = core.fits;
        spaces = record {
          tasks = core.spaces.tasks;
          entries = core.spaces.entries;
          shared = core.spaces.shared;
          uses = uses_failed header h k ids past key w.task waits.rows core (fills_here {past = e ∷ past} has2 copies)
              (λ r filled. record { task = filled.task; fills = (fills_apart w.task.0 filled.task r rows waits.rows puts filled.fills).1 })
              (has.allowed w.task.0 w found).lives;
          homes = homes_caused header outside h k.chains e past (doing, cause.0) core.spaces.homes;
        };
        objects = core.objects;
        copied = core.copied;
        controls = core.controls;
        flags = core.flags;
        pages = core.pages;
      };
      copies = copies;
      waits = has2;
      order = both.order.keeps (λ t. begun_at t past) 0 order;
      follows = record {
        consequence = tt;
        cause = cause;
        own_bytes = tt;
        frames = suffices header h k.memory.frames (e ∷ past) core.pages.counted;
        inner = tt;
        said = tt;
        own = own_lives h w.task.0 past (lives_here core.spaces.tasks (has.allowed w.task.0 w found).lives);
        creates = tt;
      };
    }

-- what holds while they are ended
pub record Failing (header : Header) (h : ℕ) (outside : Outside) (doing : Command) (past old events : List Event) (key : PageKey) (k : Parts) (ids : Ids) : Type
    0 where
  pub works : Works header h k ids (who.Fails key) (events ++ past)
  pub fails : FailsNow header h (who.Fails key) (events ++ past)
  pub answered : IsAnswered (who.Fails key) k.memory.resident
  pub before : EndsBefore key k.waits.rows (events ++ past)
  pub goes : LegalEvents header h outside doing past old events

-- and behind the end of one, while the region that it filled may be left
pub record FailedOne (header : Header) (h : ℕ) (outside : Outside) (doing : Command) (past old events : List Event) (key : PageKey) (k : Parts) (ids : Ids) :
    Type 0 where
  pub runs : IsAmid header h (who.Fails key) k ids [] (events ++ past)
  pub copies : HasSlow header k (events ++ past)
  pub referred : AllReferred k.chains k.memory.objects k.memory.resident
  pub thin : IsThin k.copies k.chains k.memory.objects
  pub fails : FailsNow header h (who.Fails key) (events ++ past)
  pub answered : IsAnswered (who.Fails key) k.memory.resident
  pub before : EndsBefore key k.waits.rows (events ++ past)
  pub goes : LegalEvents header h outside doing past old events

-- one is ended
pub failed_one : (header : Header) (h : ℕ) (outside : Outside) (doing : Command) (past old events : List Event) (key : PageKey) (k : Parts) (ids : Ids)
    (w : Waiting) (waits : WaitTable)
    → Failing header h outside doing past old events key k ids → entry k.waits.rows w.task.0 ≡ Some w → waits_page key w.on ≡ true
    → oldest_row (waits_page key) k.waits.rows ≡ Some w → PutsInOrder w.task.0 None k.waits.rows waits.rows
    → FailedOne header h outside doing past old (event.Failed w.task key.object key.page ∷ events) key (record k { waits = waits }) ids
failed_one header h outside doing past old events key k ids w waits f found passes first both =
    let was = f.works.matches in
    let moment = events ++ past in
    let e = event.Failed w.task key.object key.page in
    let has = f.works.waits in
    let stands = stands_failed header h outside doing moment key k ids (who.Fails key) w waits was.core has f.works.used.copies f.works.order
    (fails_cause header h k ids moment key w f.works f.fails found (waits_for key w.on passes) f.before) found both
    (λ o p row at away. asker_stays o p (has.askers o p row at away) (f.answered.at o p row at away)) in
    record {
      runs = record {
        matches = record {
          core = stands.core;
          settled = record { none_owed = refl; shut = λ region. refl };
          replied = replied_behind tt was.replied;
        };
        waits = stands.waits;
        order = stands.order;
      };
      copies = stands.copies;
      referred = f.works.referred;
      thin = f.works.thin;
      fails = f.fails;
      answered = f.answered;
      before = ends_before key w k.waits.rows waits.rows moment f.before f.works.order first both.entry;
      goes = goes_more header h outside doing past old events e f.goes was.settled stands.follows;
    }
  where
    asker_stays : (o p : ℕ) → Asker k.waits.rows o p → waits_page key (on.Page (page_key o p)) ≡ false → Asker waits.rows o p
    asker_stays o p asker still =
        record {
          task = asker.task;
          row = asker.row;
          is = stays w.task.0 asker.task k.waits.rows waits.rows asker.row both.entry (λ same.
              let row : w ≡ asker.row = some_is w asker.row (sym found ∙ (ap (entry k.waits.rows) same ∙ asker.is)) in
              let bad : true ≡ false = sym passes ∙ (ap (λ z. waits_page key z.on) row ∙ (ap (waits_page key) asker.waits ∙ still)) in
              cc) asker.is;
          waits = asker.waits;
        }

-- it filled nothing
pub failed_plain : (header : Header) (h : ℕ) (outside : Outside) (doing : Command) (past old events : List Event) (key : PageKey) (k : Parts) (ids : Ids)
    (w : Waiting) (waits : WaitTable)
    → Failing header h outside doing past old events key k ids → entry k.waits.rows w.task.0 ≡ Some w → w.destination ≡ None
    → PutsEntry w.task.0 None k.waits.rows waits.rows
    → FailedOne header h outside doing past old (event.Failed w.task key.object key.page ∷ events) key (record k { waits = waits }) ids
    → Failing header h outside doing past old (event.Failed w.task key.object key.page ∷ events) key (record k { waits = waits }) ids
failed_plain header h outside doing past old events key k ids w waits f found none puts one =
    record {
      works =
          record {
            matches = one.runs.matches;
            used = used_over w.task.0 w k.waits.rows waits.rows f.works.used found none puts;
            referred = one.referred;
            thin = one.thin;
            waits = one.runs.waits;
            order = one.runs.order;
          };
      fails = one.fails;
      answered = one.answered;
      before = one.before;
      goes = one.goes;
    }

-- the region that it filled has no entries, and nobody fills it any more
pub ends_filled : (header : Header) (h : ℕ) (outside : Outside) (doing : Command) (past old events : List Event) (key : PageKey) (k : Parts) (ids : Ids)
    (w : Waiting) (to : Destination) (waits : WaitTable)
    → Failing header h outside doing past old events key k ids → entry k.waits.rows w.task.0 ≡ Some w → w.destination ≡ Some to
    → PutsEntry w.task.0 None k.waits.rows waits.rows
    → FailedOne header h outside doing past old (event.Failed w.task key.object key.page ∷ events) key (record k { waits = waits }) ids
    → EndsRegion header h (who.Fails key) (record k { waits = waits }) ids [] to.region.0 (event.Failed w.task key.object key.page ∷ (events ++ past))
ends_filled header h outside doing past old events key k ids w to waits f found goes puts one =
    record {
      runs = one.runs;
      there = ap is_some there.region;
      none = ap entries_in_row there.region;
      others = λ r row apart at. elim (f.works.used.regions r row at) [
        | inl some ↦ inl some
        | inr filled ↦ inr (record {
          task = filled.task;
          fills = fills_still w.task.0 filled.task r k.waits.rows waits.rows puts
              (λ same. other r apart (ap (λ z. fills_in r (entry k.waits.rows z)) same ∙ filled.fills)) filled.fills;
        })
      ];
      copies = one.copies;
      unfilled = λ task. by_test task (fills_in to.region.0 (entry waits.rows task)) refl;
      referred = one.referred;
    }
  where
    filled_by : (r : ℕ) → fills_in r (entry k.waits.rows w.task.0) ≡ (to.region.0 == r)
    filled_by r = ap (fills_in r) found ∙ ap (is_destination r) goes

    mine : fills_in to.region.0 (entry k.waits.rows w.task.0) ≡ true
    mine = filled_by to.region.0 ∙ elim (eqb_tells to.region.0 to.region.0) [ inl same ↦ same.0 | inr apart ↦ absurd (apart.1 refl) ]

    there : Filled k.chains (copy_target w.task.0 (events ++ past)) to.region.0
    there = filled_there f.works.used.copies w.task.0 to.region.0 mine

    other : (r : ℕ) → r ≢ to.region.0 → fills_in r (entry k.waits.rows w.task.0) ≡ true → ⊥
    other r apart is = elim (eqb_tells to.region.0 r) [
      | inl same ↦ apart (sym same.1)
      | inr far ↦ let bad : false ≡ true = sym far.0 ∙ (sym (filled_by r) ∙ is) in cc
    ]

    by_test : (task : ℕ) (b : Bool) → fills_in to.region.0 (entry waits.rows task) ≡ b → b ≡ false
    by_test task false is = refl
    by_test task true is =
        let was = fills_apart w.task.0 task to.region.0 k.waits.rows waits.rows puts is in
        absurd (was.0 (f.works.used.copies.apart w.task.0 task to.region.0 mine was.1))

-- its top is no shadow, and it is all that refers to that
pub bare_filled : (header : Header) (h : ℕ) (outside : Outside) (doing : Command) (past old events : List Event) (key : PageKey) (k : Parts) (ids : Ids)
    (w : Waiting) (to : Destination) (waits : WaitTable)
    → Failing header h outside doing past old events key k ids → entry k.waits.rows w.task.0 ≡ Some w → w.destination ≡ Some to
    → IsBareTop to.region.0 (record k { waits = waits })
bare_filled header h outside doing past old events key k ids w to waits f found goes =
    record {
      row = row;
      found = there.region;
      known = known.0;
      top = known.1;
      one =
          only_one m.core.objects.regions to.region.0 row known.0 there.region known.1 uncached (record { tops = there.alone.tops; bare = there.alone.unders });
      bare =
          target_unshadowed (events ++ past) m.core.objects.regions m.core.spaces.homes.1 w.task.0 (record { region = to.region.0; object = there.object.0 })
          there.made;
    }
  where
    m : Matches header h k ids [] (events ++ past)
    m = f.works.matches

    mine : fills_in to.region.0 (entry k.waits.rows w.task.0) ≡ true
    mine = ap (fills_in to.region.0) found ∙ (ap (is_destination to.region.0) goes
        ∙ elim (eqb_tells to.region.0 to.region.0) [ inl same ↦ same.0 | inr apart ↦ absurd (apart.1 refl) ])

    there : Filled k.chains (copy_target w.task.0 (events ++ past)) to.region.0
    there = filled_there f.works.used.copies w.task.0 to.region.0 mine

    row : RegionRow
    row = filled_row there.object there.pages

    known : (known : ObjectRow) × (object_at k.memory.objects there.object.0 ≡ Some known)
    known = row_of (object_at k.memory.objects there.object.0) (m.core.objects.regions.tops to.region.0 row there.region)

    uncached : known.0.cache ≡ false
    uncached = uncached_temporary m.core.objects.kinds there.object.0 known.0
        (m.core.objects.kinds.tops to.region.0 row (filled_temporary to.region.0 f.works.used.copies m.core.spaces.homes.1
        (record { task = w.task.0; fills = mine }))
        there.region) known.1

-- what ends pages and controls ends no access

since_ended : (u o p : ℕ) (more past : List Event) → EachOf IsEnding more → since (fails_task u o p) (more ++ past) ≡ since (fails_task u o p) past
since_ended u o p [] past all = refl
since_ended u o p (e ∷ more) past all = one e all.0 ∙ since_ended u o p more past all.1
  where
    one : (e : Event) → IsEnding e → since (fails_task u o p) (e ∷ (more ++ past)) ≡ since (fails_task u o p) (more ++ past)
    one (event.Dropped host object page) is = refl
    one (event.Sent (Up host object) (message.Return control page dirty keep bytes)) is = refl
    one (event.Sent (Up host object) (message.Terminate control)) is = refl
    one other is = absurd is

begun_ended : (t : ℕ) (more past : List Event) → EachOf IsEnding more → begun_at t (more ++ past) ≡ begun_at t past
begun_ended t [] past all = refl
begun_ended t (e ∷ more) past all = one e all.0 ∙ begun_ended t more past all.1
  where
    one : (e : Event) → IsEnding e → begun_at t (e ∷ (more ++ past)) ≡ begun_at t (more ++ past)
    one (event.Dropped host object page) is = refl
    one (event.Sent (Up host object) (message.Return control page dirty keep bytes)) is = refl
    one (event.Sent (Up host object) (message.Terminate control)) is = refl
    one other is = absurd is

-- the events of an end, with what stood in front
more_ended : (past old new : List Event) (only : EndsOnly old new) → new ++ past ≡ only.more ++ (old ++ past)
more_ended past old new only = ap (λ z. z ++ past) only.is ∙ append_assoc only.more old past

before_ended : (key : PageKey) (rows : List Waiting) (past old new : List Event) → EndsOnly old new → EndsBefore key rows (old ++ past)
    → EndsBefore key rows (new ++ past)
before_ended key rows past old new only before =
    subst (λ (z : List Event). EndsBefore key rows z) (sym (more_ended past old new only))
    (λ u t w ended found passes. rw (begun_ended u only.more (old ++ past) only.each, begun_ended t only.more (old ++ past) only.each)
    (before u t w (sym (since_ended u key.object.0 key.page.0 only.more (old ++ past) only.each) ∙ ended) found passes))

-- what the step took stays what it took
error_goes : (header : Header) (h : ℕ) (outside : Outside) (doing : Command) (past old new : List Event) → LegalEvents header h outside doing past old new
    → error_taken header (new ++ past) ≡ error_taken header (old ++ past)
error_goes header h outside doing past old new goes =
    ap (λ z. error_taken header (z ++ past)) goes.is
    ∙ (ap (error_taken header) (append_assoc goes.more old past) ∙ error_more header goes.more (old ++ past) goes.inner)

-- what the region left has gone too
pub failed_ended : (header : Header) (h : ℕ) (outside : Outside) (doing : Command) (past old events after : List Event) (key : PageKey) (k k2 : Parts)
    (ids : Ids)
    → FailedOne header h outside doing past old events key k ids → IsWhole header h (who.Fails key) k2 ids [] (after ++ past)
    → LegalEvents header h outside doing past events after → k2.waits ≡ k.waits → OnlyLoses k.memory.resident k2.memory.resident → EndsOnly events after
    → IsThin k2.copies k2.chains k2.memory.objects → Failing header h outside doing past old after key k2 ids
failed_ended header h outside doing past old events after key k k2 ids one whole goes same pages only thin =
    record {
      works =
          record {
            matches = whole.runs.matches;
            used = whole.used;
            referred = whole.referred;
            thin = thin;
            waits = whole.runs.waits;
            order = whole.runs.order;
          };
      fails = error_goes header h outside doing past events after goes ∙ one.fails;
      answered = record { at = λ o p row found awaits. one.answered.at o p row (pages o p row found) awaits };
      before = subst (λ (z : WaitTable). EndsBefore key z.rows (after ++ past)) (sym same) (before_ended key k.waits.rows past events after only one.before);
      goes = goes_both header h outside doing past old events after one.goes goes;
    }

pub since_now : (key : PageKey) (task : TaskId) (past : List Event)
    → since (fails_access key.object.0 key.page.0) (event.Failed task key.object key.page ∷ past) ≡ true
since_now key task past = ap (λ b. b || since (fails_access key.object.0 key.page.0) past) (itself key)

pub since_goes : (test : Event → Bool) (header : Header) (h : ℕ) (outside : Outside) (doing : Command) (past old new : List Event)
    → LegalEvents header h outside doing past old new → since test (old ++ past) ≡ true → since test (new ++ past) ≡ true
since_goes test header h outside doing past old new goes is =
    subst (λ (z : List Event). since test z ≡ true) (sym (append_assoc goes.more old past) ∙ ap (λ z. z ++ past) (sym goes.is))
    (since_more test goes.more (old ++ past) goes.inner is)

-- each who waited for the page is ended, or waits still

ends_now : (key : PageKey) (task : TaskId) (t : ℕ) (past : List Event) → task.0 ≡ t
    → since (fails_task t key.object.0 key.page.0) (event.Failed task key.object key.page ∷ past) ≡ true
ends_now key task t past same = elim (eqb_tells task.0 t) [
  | inl is ↦
      let now : fails_task t key.object.0 key.page.0 (event.Failed task key.object key.page) ≡ true = rw is.0 (itself key) in
      ap (λ b. b || since (fails_task t key.object.0 key.page.0) past) now
  | inr apart ↦ absurd (apart.1 same)
]

abbrev pub EndsOr : PageKey → List Waiting → List Waiting → List Event → Type 0
EndsOr key first rows past =
    (t : ℕ) (w : Waiting) → entry first t ≡ Some w → w.on ≡ on.Page key → (since (fails_task t key.object.0 key.page.0) past ≡ true) ⊎ (entry rows t ≡ Some w)

pub ends_or : (key : PageKey) (w : Waiting) (first rows rows2 : List Waiting) (past : List Event) → EndsOr key first rows past
    → PutsEntry w.task.0 None rows rows2 → EndsOr key first rows2 (event.Failed w.task key.object key.page ∷ past)
ends_or key w first rows rows2 past was puts t v found waits = elim (was t v found waits) [
  | inl ended ↦ inl (or_true (fails_task t key.object.0 key.page.0 (event.Failed w.task key.object key.page))
      (since (fails_task t key.object.0 key.page.0) past) ended)
  | inr there ↦ elim (eqb_tells w.task.0 t) [
    | inl same ↦ inl (ends_now key w.task t past same.1)
    | inr apart ↦ inr (stays w.task.0 t rows rows2 v puts apart.1 there)
  ]
]

-- so it is behind what ends no access
pub or_ended : (key : PageKey) (first rows rows2 : List Waiting) (past old new : List Event) → EndsOnly old new → rows2 ≡ rows
    → EndsOr key first rows (old ++ past) → EndsOr key first rows2 (new ++ past)
or_ended key first rows rows2 past old new only same was t v found waits = elim (was t v found waits) [
  | inl ended ↦ inl (ap (since (fails_task t key.object.0 key.page.0)) (more_ended past old new only)
      ∙ (since_ended t key.object.0 key.page.0 only.more (old ++ past) only.each ∙ ended))
  | inr there ↦ inr (ap (λ z. entry z t) same ∙ there)
]

pub ends_all : (key : PageKey) (first rows : List Waiting) (past : List Event) → EndsOr key first rows past
    → ((t : ℕ) → IfSome (entry rows t) (λ w. waits_page key w.on ≡ false)) → HasEnded (who.Fails key) first past
ends_all key first rows past was none t w found waits = elim (was t w found waits) [
  | inl ended ↦ ended
  | inr there ↦
      let off : waits_page key w.on ≡ false = rw there at (none t) in
      absurd (let bad : true ≡ false = sym (itself key) ∙ (ap (waits_page key) (sym waits) ∙ off) in cc)
]

-- the error that a step took is paid, and that stays so

pub paid_more : (header : Header) (more past : List Event) → AllInner more → IsErrorPaid header past → IsErrorPaid header (more ++ past)
paid_more header more past inner paid =
    λ host object page is. since_more (fails_access object page) more past inner (paid host object page (sym (error_more header more past inner) ∙ is))

pub paid_goes : (header : Header) (h : ℕ) (outside : Outside) (doing : Command) (past old new : List Event) → LegalEvents header h outside doing past old new
    → IsErrorPaid header (old ++ past) → IsErrorPaid header (new ++ past)
paid_goes header h outside doing past old new goes paid =
    subst (λ (z : List Event). IsErrorPaid header z) (sym (append_assoc goes.more old past) ∙ ap (λ z. z ++ past) (sym goes.is))
    (paid_more header goes.more (old ++ past) goes.inner paid)

-- the page of the error
asked_same : {x y : Asked} → Some x ≡ Some y → x ≡ y
asked_same {x = x} {y = y} is = some_is x y is

none_paid : (header : Header) (past : List Event) → error_taken header past ≡ None → IsErrorPaid header past
none_paid header past none = λ host object page is. absurd (let bad : None ≡ Some (record { host = host; object = object; page = page }) = sym none ∙ is in cc)

pub paid_failed : (header : Header) (h : ℕ) (outside : Outside) (doing : Command) (woke : Woken) (past old new : List Event)
    → FailsNow header h woke (old ++ past) → LegalEvents header h outside doing past old new → HasFailed woke (new ++ past) → IsErrorPaid header (new ++ past)
paid_failed header h outside doing who.Nobody past old new fails goes failed =
    paid_goes header h outside doing past old new goes (none_paid header (old ++ past) fails)
paid_failed header h outside doing (who.ReadyOf object) past old new fails goes failed =
    paid_goes header h outside doing past old new goes (none_paid header (old ++ past) fails)
paid_failed header h outside doing (who.Page key) past old new fails goes failed =
    paid_goes header h outside doing past old new goes (none_paid header (old ++ past) fails)
paid_failed header h outside doing (who.Fails key) past old new fails goes failed = λ host object page is.
    let same : record { host = h; object = key.object.0; page = key.page.0 } ≡ record { host = host; object = object; page = page } = asked_same
    (sym fails ∙ (sym (error_goes header h outside doing past old new goes) ∙ is)) in
    subst (λ (z : Asked). since (fails_access z.object z.page) (new ++ past) ≡ true) same failed

-- zeros that have come stay so too
pub absence_goes : (header : Header) (h : ℕ) (outside : Outside) (doing : Command) (past old new : List Event) → LegalEvents header h outside doing past old new
    → IsAbsencePaid header (old ++ past) → IsAbsencePaid header (new ++ past)
absence_goes header h outside doing past old new goes paid = λ host object page declared is.
    subst (λ (z : List Event). since (zeroes object page) z ≡ true) (sym told)
    (since_more (zeroes object page) goes.more (old ++ past) goes.inner
    (paid host object page declared (sym (absence_more header goes.more (old ++ past) goes.inner) ∙ (sym (ap (absence_taken header) told) ∙ is))))
  where
    told : new ++ past ≡ goes.more ++ (old ++ past)
    told = ap (λ z. z ++ past) goes.is ∙ append_assoc goes.more old past

-- and each who waited has ended

each_more : (header : Header) (rows : List Waiting) (more past : List Event) → AllInner more → EndsEach header rows past → EndsEach header rows (more ++ past)
each_more header rows more past inner each =
    λ host object page t w is found waits. since_more (fails_task t object page) more past inner
    (each host object page t w (sym (error_more header more past inner) ∙ is) found waits)

pub each_goes : (header : Header) (h : ℕ) (outside : Outside) (doing : Command) (rows : List Waiting) (past old new : List Event)
    → LegalEvents header h outside doing past old new → EndsEach header rows (old ++ past) → EndsEach header rows (new ++ past)
each_goes header h outside doing rows past old new goes each =
    subst (λ (z : List Event). EndsEach header rows z) (sym (append_assoc goes.more old past) ∙ ap (λ z. z ++ past) (sym goes.is))
    (each_more header rows goes.more (old ++ past) goes.inner each)

no_error : (header : Header) (rows : List Waiting) (past : List Event) → error_taken header past ≡ None → EndsEach header rows past
no_error header rows past none =
    λ host object page t w is found waits. absurd (let bad : None ≡ Some (record { host = host; object = object; page = page }) = sym none ∙ is in cc)

pub each_failed : (header : Header) (h : ℕ) (outside : Outside) (doing : Command) (woke : Woken) (rows : List Waiting) (past old new : List Event)
    → FailsNow header h woke (old ++ past) → LegalEvents header h outside doing past old new → HasEnded woke rows (new ++ past)
    → EndsEach header rows (new ++ past)
each_failed header h outside doing who.Nobody rows past old new fails goes ended =
    each_goes header h outside doing rows past old new goes (no_error header rows (old ++ past) fails)
each_failed header h outside doing (who.ReadyOf object) rows past old new fails goes ended =
    each_goes header h outside doing rows past old new goes (no_error header rows (old ++ past) fails)
each_failed header h outside doing (who.Page key) rows past old new fails goes ended =
    each_goes header h outside doing rows past old new goes (no_error header rows (old ++ past) fails)
each_failed header h outside doing (who.Fails key) rows past old new fails goes ended = λ host object page t w is found waits.
    let same : record { host = h; object = key.object.0; page = key.page.0 } ≡ record { host = host; object = object; page = page } = asked_same
    (sym fails ∙ (sym (error_goes header h outside doing past old new goes) ∙ is)) in
    subst (λ (z : Asked). w.on ≡ on.Page (page_key z.object z.page) → since (fails_task t z.object z.page) (new ++ past) ≡ true) same (ended t w found) waits
