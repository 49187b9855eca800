-- The pages that are spared where one is reclaimed: the one that the front of the frame queue is to copy, and those for whose unlocks accesses wait.
use Rattle.vm_kernel.proofs.Common.{Bool, Event, FreesOrReturns, HasWaits, Header, Ids, IfSome, List, Matches, None, Option, PageKey, PageRow, Parts, Reason}
use Rattle.vm_kernel.proofs.Common.{Reclaim, Rests, Some, Waiting, Waits, [], access_in, address_in, ap, copies_to, entries_of, entry, entry_at, eqb_tells}
use Rattle.vm_kernel.proofs.Common.{false, if◌then◌else◌, inl, inr, is_some, next_page, owner_of, page_key, paging, refl, row_at, some_is, subst, sym, true}
use Rattle.vm_kernel.proofs.Common.{arith, nat_tests, waiting_in, ℕ, ◌++◌, ◌==◌, ◌||◌, ◌∙◌, ◌∷◌, ◌≡◌, ◌⊎◌}
use Rattle.std.proofs.lemmas.Bool.{or_right}
use Rattle.vm_base.specs.declared.ids.FrameNo.{FrameNo}
use Rattle.vm_kernel.proofs.abroad.OwnHost.{lives_here, rows_here}
use Rattle.vm_kernel.proofs.memory.PagesShown.{itself}
use Rattle.vm_base.specs.Pages.{page_positive}
use Rattle.vm_kernel.proofs.memory.WalksShown.{page_left, shown_at, waiting_place, want_address}
use Rattle.vm_kernel.specs.Plays.{AreSpared, EachSpared, IsKeptSource, IsSpared, Sparing, frame_here}
use Rattle.std.specs.Prelude.{IsSomeAnd, MatchOption}
use Rattle.vm_kernel.specs.Serving.{FreesBut, IsHere, IsTheSource, IsToCopy, SkipLocked, awaits_unlock, frame_spared, frames_locked, frames_spared}
use Rattle.vm_kernel.specs.Serving.{is_unlocking, led_unlocking, option_list, spares_frame}
use Rattle.vm_queues.specs.Kept.{is_frame as is_frame_of}
use Rattle.vm_kernel.specs.Taking.{page_waited}
use Rattle.vm_legal.specs.Accesses.{WaitsUnlocked}
use Rattle.vm_queues.proofs.Apart.{skipped_append}
use Rattle.vm_queues.specs.Queues.{SkipsSame, is_skipped}
use Rattle.vm_resident.specs.Resident.{NoRowHas, ResidentTable}
use Rattle.vm_state.proofs.Locks.{named_at}
use Rattle.vm_state.proofs.Shown.{shows_row}
use Rattle.vm_state.proofs.Waiting.{IsAwaitedBy, sent_awaited}
use Rattle.vm_state.specs.Waiters.{Asker, IsLockedFor}
use Rattle.vm_supply.specs.declared.woken.Woken.TheVariants as woken
use Rattle.vm_waits.specs.Waits.{EachOnce}
use Rattle.vm_waits.specs.declared.waiting.On.{On}
use Rattle.vm_waits.specs.declared.waiting.On.TheVariants as on
use Rattle.vm_state.proofs.Filling.{copies_next}
use Rattle.vm_kernel.specs.Matches.{HasSlow}

-- who waits here, as licences want it
abbrev pub here_waits : (header : Header) (h : ℕ) (k : Parts) (ids : Ids) (past : List Event) (task : ℕ) (w : Waiting) → Matches header h k ids [] past
    → HasWaits header h k woken.Nobody past → HasSlow header k past → entry k.waits.rows task ≡ Some w
    → Waits header task (access_in k.maps.size (copies_to w.destination) w.want) past
here_waits header h k ids past task w m waits copies found =
    let allowed = waits.allowed task w found in
    record {
      waits = waits.is task (ap is_some allowed.lives) ∙ ap (waiting_in k.maps.size) found;
      at = record {
        host = h;
        entry = allowed.entry;
        lives = lives_here m.core.spaces.tasks allowed.lives;
        found =
            ap (λ z. entry_at z (entries_of header.size task past)) (want_address k.maps.size header.size (next_page task past) (copies_to w.destination) w.want
            m.core.spaces.tasks.sized (copies_next copies task w found))
            ∙ (ap (entry_at (address_in k.maps.size w.want)) (rows_here m.core.spaces.tasks allowed.lives) ∙ allowed.found);
      };
      left =
          page_left k.maps.size header.size (next_page task past) (copies_to w.destination) w.want m.core.spaces.tasks.sized
          (page_positive header.size m.core.setting.ranged.size)
          (waits.sized task w found) (copies_next copies task w found);
    }

-- a page is asked, or not
not_away : (rs : ResidentTable) (o p : ℕ) (row : PageRow) (w : Waiting) → row_at rs o p ≡ Some row → row.here ≡ true → IsAwaitedBy rs w.want o p
    → IsLockedFor rs w.want o p
not_away rs o p row w found here (inl asked) =
    absurd (let bad : true ≡ false = sym here ∙ (ap (λ (z : PageRow). z.here) (some_is row asked.row (sym found ∙ asked.found)) ∙ asked.away) in cc)
not_away rs o p row w found here (inr locked) = locked

-- who waits for a page that is here waits for its unlock
pub waits_for_unlock : (header : Header) (h : ℕ) (k : Parts) (ids : Ids) (past : List Event) (o p task : ℕ) (row : PageRow) (w : Waiting)
    → Matches header h k ids [] past → HasWaits header h k woken.Nobody past → HasSlow header k past → row_at k.memory.resident o p ≡ Some row → row.here ≡ true
    → entry k.waits.rows task ≡ Some w → w.on ≡ on.Page (page_key o p) → WaitsUnlocked header h o p past
waits_for_unlock header h k ids past o p task row w m waits copies found here there on_page =
    let s = shown_at m in
    let reason : Reason k.maps k.chains k.copies k.memory.resident k.memory.objects task w.want (on.Page (page_key o p)) =
    subst (λ (z : On). Reason k.maps k.chains k.copies k.memory.resident k.memory.objects task w.want z) on_page (waits.reasons task w there refl) in
    let locked = not_away k.memory.resident o p row w found here reason.1 in
    let shows = shows_row s o p locked.row locked.found locked.here in
    record {
      task = task;
      access = access_in k.maps.size (copies_to w.destination) w.want;
      waits = here_waits header h k ids past task w m waits copies there;
      on_host = refl;
      place =
          waiting_place m (copies_to w.destination) (copies_next copies task w there) reason.0 (ap is_some (waits.allowed task w there).lives)
          (here_waits header h k ids past task w m waits copies there);
      here = shows.here;
      named = named_at s k.maps.size (copies_to w.destination) o p w.want locked;
      unlocking = shows.unlocking ∙ locked.sent;
    }

-- somebody does, where an unlock is outstanding
pub waits_unlocked : (header : Header) (h : ℕ) (k : Parts) (ids : Ids) (past : List Event) (o p : ℕ) (row : PageRow) → Matches header h k ids [] past
    → HasWaits header h k woken.Nobody past → HasSlow header k past → row_at k.memory.resident o p ≡ Some row → row.here ≡ true → row.unlock_sent ≡ true
    → WaitsUnlocked header h o p past
waits_unlocked header h k ids past o p row m waits copies found here sent =
    let asker : Asker k.waits.rows o p = waits.askers o p row found (sent_awaited row sent) in
    waits_for_unlock header h k ids past o p asker.task row asker.row m waits copies found here asker.is asker.waits

-- the frames that are skipped

here_row : (x : Option PageRow) (f : FrameNo) → frame_here x ≡ Some f → (row : PageRow) × (x ≡ Some row) × (row.here ≡ true) × (row.frame ≡ f)
here_row None f is = absurd (let bad : None ≡ Some f = is in cc)
here_row (Some row) f is = by row.here refl is
  where
    by : (b : Bool) → row.here ≡ b → (if b then Some row.frame else None) ≡ Some f → (r : PageRow) × (Some row ≡ Some r) × (r.here ≡ true) × (r.frame ≡ f)
    by true here same = (row, refl, here, some_is row.frame f same)
    by false here same = absurd (let bad : None ≡ Some f = same in cc)

-- a frame that is skipped is that of a page that is here
pub record IsSkippedFor (rs : ResidentTable) (spared : Option PageKey) (rows : List Waiting) (f : ℕ) : Type 0 where
  pub key : PageKey
  pub row : PageRow
  pub found : row_at rs key.object.0 key.page.0 ≡ Some row
  pub here : row.here ≡ true
  pub frame : row.frame.0 ≡ f
  pub why : (spared ≡ Some key) ⊎ ((t : ℕ) × (w : Waiting) × (entry rows t ≡ Some w) × (w.on ≡ on.Page key))

one_or_other : (a b : Bool) → (a || b) ≡ true → (a ≡ true) ⊎ (b ≡ true)
one_or_other true b is = inl refl
one_or_other false b is = inr is

equal_frames : (m n : ℕ) → (m == n) ≡ true → m ≡ n
equal_frames m n is = elim (eqb_tells m n) [ inl same ↦ same.1 | inr apart ↦ absurd (let bad : false ≡ true = sym apart.0 ∙ is in cc) ]

listed_one : (x : Option FrameNo) (f : ℕ) → is_skipped (option_list x) f ≡ true → (g : FrameNo) × (x ≡ Some g) × (g.0 ≡ f)
listed_one None f is = absurd (let bad : false ≡ true = is in cc)
listed_one (Some g) f is =
    elim (one_or_other (g.0 == f) false is) [ inl same ↦ (g, refl, equal_frames g.0 f same) | inr bad ↦ absurd (let no : false ≡ true = bad in cc) ]

one_listed : (x : Option FrameNo) (g : FrameNo) → x ≡ Some g → is_skipped (option_list x) g.0 ≡ true
one_listed x g is = ap (λ z. is_skipped (option_list z) g.0) is ∙ ap (λ b. b || false) (itself g.0)

-- the frame of the page for which an access waits
waited_frame : (rs : ResidentTable) (reason : On) (f : FrameNo) → frame_spared rs (page_waited reason) ≡ Some f → (key : PageKey) × (reason ≡ on.Page key)
    × (frame_here (row_at rs key.object.0 key.page.0) ≡ Some f)
waited_frame rs (on.Page key) f is = (key, refl, is)
waited_frame rs on.Again f is = absurd (let bad : None ≡ Some f = is in cc)
waited_frame rs (on.Ready object) f is = absurd (let bad : None ≡ Some f = is in cc)
waited_frame rs (on.Push key) f is = absurd (let bad : None ≡ Some f = is in cc)
waited_frame rs on.Frame f is = absurd (let bad : None ≡ Some f = is in cc)

-- rows that stand behind another stand in the whole list
pub later_stand : (w : Waiting) (ws rows : List Waiting) → EachOnce (w ∷ ws) → ((t : ℕ) (v : Waiting) → entry (w ∷ ws) t ≡ Some v → entry rows t ≡ Some v)
    → (t : ℕ) (v : Waiting) → entry ws t ≡ Some v → entry rows t ≡ Some v
later_stand w ws rows once stand t v is = elim (eqb_tells w.task.0 t) [
  | inl same ↦ absurd (let bad : None ≡ Some v = sym once.0 ∙ (ap (entry ws) same.1 ∙ is) in cc)
  | inr apart ↦ stand t v (ap (λ b. if b then Some w else entry ws t) apart.0 ∙ is)
]

first_stands : (w : Waiting) (ws rows : List Waiting) → ((t : ℕ) (v : Waiting) → entry (w ∷ ws) t ≡ Some v → entry rows t ≡ Some v)
    → entry rows w.task.0 ≡ Some w
first_stands w ws rows stand = stand w.task.0 w (ap (λ b. if b then Some w else entry ws w.task.0) (itself w.task.0))

skipped_locked : (rs : ResidentTable) (spared : Option PageKey) (ws rows : List Waiting) (f : ℕ) → EachOnce ws
    → ((t : ℕ) (v : Waiting) → entry ws t ≡ Some v → entry rows t ≡ Some v) → is_skipped (frames_locked rs ws) f ≡ true → IsSkippedFor rs spared rows f
skipped_locked rs spared [] rows f once stand is = absurd (let bad : false ≡ true = is in cc)
skipped_locked rs spared (w ∷ ws) rows f once stand is =
    elim (one_or_other _ _ (sym (skipped_append (option_list (frame_spared rs (page_waited w.on))) (frames_locked rs ws) f) ∙ is)) [
      | inl first ↦
          let one = listed_one (frame_spared rs (page_waited w.on)) f first in
          let page = waited_frame rs w.on one.0 one.1 in
          let row = here_row (row_at rs page.0.object.0 page.0.page.0) one.0 page.2 in
          record {
            key = page.0;
            row = row.0;
            found = row.1;
            here = row.2;
            frame = ap (λ (z : FrameNo). z.0) row.3 ∙ one.2;
            why = inr (w.task.0, w, first_stands w ws rows stand, page.1);
          }
      | inr later ↦ skipped_locked rs spared ws rows f once.1 (later_stand w ws rows once stand) later
    ]

pub skipped_for : (rs : ResidentTable) (spared : Option PageKey) (rows : List Waiting) (f : ℕ) → EachOnce rows
    → is_skipped (frames_spared rs spared rows) f ≡ true → IsSkippedFor rs spared rows f
skipped_for rs spared rows f once is =
    elim (one_or_other _ _ (sym (skipped_append (option_list (frame_spared rs spared)) (frames_locked rs rows) f) ∙ is)) [
      | inl first ↦ one_page spared first refl
      | inr later ↦ skipped_locked rs spared rows rows f once (λ t v there. there) later
    ]
  where
    one_page : (x : Option PageKey) → is_skipped (option_list (frame_spared rs x)) f ≡ true → spared ≡ x → IsSkippedFor rs spared rows f
    one_page None first same = absurd (let bad : false ≡ true = first in cc)
    one_page (Some key) first same =
        let one = listed_one (frame_spared rs (Some key)) f first in
        let row = here_row (row_at rs key.object.0 key.page.0) one.0 one.1 in
        record { key = key; row = row.0; found = row.1; here = row.2; frame = ap (λ (z : FrameNo). z.0) row.3 ∙ one.2; why = inl same }

-- the frame of a page that is here
here_frame : (row : PageRow) → row.here ≡ true → frame_here (Some row) ≡ Some row.frame
here_frame row here = ap (λ b. if b then Some row.frame else None) here

-- it is skipped where somebody waits for the page
locked_skipped : (rs : ResidentTable) (o p t : ℕ) (row : PageRow) (v : Waiting) (ws : List Waiting) → row_at rs o p ≡ Some row → row.here ≡ true
    → entry ws t ≡ Some v → v.on ≡ on.Page (page_key o p) → is_skipped (frames_locked rs ws) row.frame.0 ≡ true
locked_skipped rs o p t row v [] found here is on_page = absurd (let bad : None ≡ Some v = is in cc)
locked_skipped rs o p t row v (w ∷ ws) found here is on_page =
    skipped_append (option_list (frame_spared rs (page_waited w.on))) (frames_locked rs ws) row.frame.0
    ∙ elim (eqb_tells w.task.0 t) [
      | inl same ↦
          let it : w ≡ v = some_is w v (sym (ap (λ b. if b then Some w else entry ws t) same.0) ∙ is) in
          ap (λ b. b || is_skipped (frames_locked rs ws) row.frame.0) (one_listed (frame_spared rs (page_waited w.on)) row.frame
          (ap (λ (z : Waiting). frame_spared rs (page_waited z.on)) it
          ∙ (ap (λ z. frame_spared rs (page_waited z)) on_page ∙ (ap frame_here found ∙ here_frame row here))))
      | inr apart ↦
          or_right (is_skipped (option_list (frame_spared rs (page_waited w.on))) row.frame.0) (is_skipped (frames_locked rs ws) row.frame.0)
          (locked_skipped rs o p t row v ws found here (sym (ap (λ b. if b then Some w else entry ws t) apart.0) ∙ is) on_page)
    ]

sent_here : (header : Header) (h : ℕ) (k : Parts) (ids : Ids) (past : List Event) (o p : ℕ) (row : PageRow) → Matches header h k ids [] past
    → row_at k.memory.resident o p ≡ Some row → row.unlock_sent ≡ true → row.here ≡ true
sent_here header h k ids past o p row m found sent = by row.here refl
  where
    by : (b : Bool) → row.here ≡ b → b ≡ true
    by true is = refl
    by false is = absurd (let bad : false ≡ true = sym (m.core.fits.plain o p row found is).unlock_sent ∙ sent in cc)

-- so each page is spared for whose unlock somebody waits
pub skips_locked : (header : Header) (h : ℕ) (k : Parts) (ids : Ids) (past : List Event) (spared : Option PageKey) → Matches header h k ids [] past
    → HasWaits header h k woken.Nobody past → SkipLocked k.memory.resident (frames_spared k.memory.resident spared k.waits.rows)
skips_locked header h k ids past spared m waits o p row found sent =
    let asker : Asker k.waits.rows o p = waits.askers o p row found (sent_awaited row sent) in
    skipped_append (option_list (frame_spared k.memory.resident spared)) (frames_locked k.memory.resident k.waits.rows) row.frame.0
    ∙ or_right (is_skipped (option_list (frame_spared k.memory.resident spared)) row.frame.0)
    (is_skipped (frames_locked k.memory.resident k.waits.rows) row.frame.0)
    (locked_skipped k.memory.resident o p asker.task row asker.row k.waits.rows found (sent_here header h k ids past o p row m found sent) asker.is asker.waits)

-- and so is the page that is to be copied
pub skips_one : (k : Parts) (key : PageKey) (here : IsHere k key) → is_skipped (frames_spared k.memory.resident (Some key) k.waits.rows) here.0.frame.0 ≡ true
skips_one k key here =
    let rs = k.memory.resident in
    skipped_append (option_list (frame_spared rs (Some key))) (frames_locked rs k.waits.rows) here.0.frame.0
    ∙ ap (λ b. b || is_skipped (frames_locked rs k.waits.rows) here.0.frame.0) (one_listed (frame_spared rs (Some key)) here.0.frame
    (ap frame_here here.1 ∙ here_frame here.0 here.2))

-- and no other is

-- one more page may be spared
spared_more : (header : Header) (h : ℕ) (by : Sparing) (k : Parts) (past : List Event) (reason : On) (rest : List FrameNo) (x : Option FrameNo)
    → frame_spared k.memory.resident (page_waited reason) ≡ x
    → ((key : PageKey) (row : PageRow) → reason ≡ on.Page key → row_at k.memory.resident key.object.0 key.page.0 ≡ Some row → row.here ≡ true
    → WaitsUnlocked header h key.object.0 key.page.0 past)
    → EachSpared header h by past (paging k).frame_at rest → EachSpared header h by past (paging k).frame_at (option_list x ++ rest)
spared_more header h by k past reason rest None is waits others = others
spared_more header h by k past reason rest (Some f) is waits others =
    let page = waited_frame k.memory.resident reason f is in
    let row = here_row (row_at k.memory.resident page.0.object.0 page.0.page.0) f page.2 in
    ((page.0.object.0, page.0.page.0, inr (waits page.0 row.0 page.1 row.1 row.2), page.2), others)

spared_locked : (header : Header) (h : ℕ) (by : Sparing) (k : Parts) (ids : Ids) (past : List Event) (ws : List Waiting) → Matches header h k ids [] past
    → HasWaits header h k woken.Nobody past → HasSlow header k past → EachOnce ws
    → ((t : ℕ) (v : Waiting) → entry ws t ≡ Some v → entry k.waits.rows t ≡ Some v)
    → EachSpared header h by past (paging k).frame_at (frames_locked k.memory.resident ws)
spared_locked header h by k ids past [] m waits copies once stand = tt
spared_locked header h by k ids past (w ∷ ws) m waits copies once stand =
    spared_more header h by k past w.on (frames_locked k.memory.resident ws) (frame_spared k.memory.resident (page_waited w.on)) refl
    (λ key row on_page found here. waits_for_unlock header h k ids past key.object.0 key.page.0 w.task.0 row w m waits copies found here
    (first_stands w ws k.waits.rows stand) on_page)
    (spared_locked header h by k ids past ws m waits copies once.1 (later_stand w ws k.waits.rows once stand))

each_spared : (header : Header) (h : ℕ) (k : Parts) (ids : Ids) (past : List Event) (by : Sparing) (spared : Option PageKey) → Matches header h k ids [] past
    → HasWaits header h k woken.Nobody past → HasSlow header k past → EachOnce k.waits.rows → IsToCopy header h k spared past
    → IfSome spared (λ key. IsKeptSource header h by key.object.0 key.page.0 past)
    → EachSpared header h by past (paging k).frame_at (frames_spared k.memory.resident spared k.waits.rows)
each_spared header h k ids past by None m waits copies once to_copy source =
    spared_locked header h by k ids past k.waits.rows m waits copies once (λ t v there. there)
each_spared header h k ids past by (Some key) m waits copies once to_copy source =
    let here = to_copy.1 in
    let frame = ap frame_here here.1 ∙ here_frame here.0 here.2 in
    subst (λ (z : Option FrameNo). EachSpared header h by past (paging k).frame_at (option_list z ++ frames_locked k.memory.resident k.waits.rows)) (sym frame)
    ((key.object.0, key.page.0, inl source, frame), spared_locked header h by k ids past k.waits.rows m waits copies once (λ t v there. there))

-- each page that is spared is skipped where it is here
skips_spared : (header : Header) (h : ℕ) (k : Parts) (ids : Ids) (past : List Event) (by : Sparing) (spared : Option PageKey) → Matches header h k ids [] past
    → HasWaits header h k woken.Nobody past → ((o p : ℕ) → IsKeptSource header h by o p past → spared ≡ Some (page_key o p))
    → (o p : ℕ) (frame : FrameNo) → IsSpared header h by o p past → (paging k).frame_at o p ≡ Some frame
    → is_skipped (frames_spared k.memory.resident spared k.waits.rows) frame.0 ≡ true
skips_spared header h k ids past by spared m waits only o p frame why is =
    let row = here_row (row_at k.memory.resident o p) frame is in
    subst (λ (z : FrameNo). is_skipped (frames_spared k.memory.resident spared k.waits.rows) z.0 ≡ true) row.3 (elim why [
      | inl source ↦ subst (λ (z : Option PageKey). is_skipped (frames_spared k.memory.resident z k.waits.rows) row.0.frame.0 ≡ true) (sym (only o p source))
          (skips_one k (page_key o p) (row.0, row.1, row.2))
      | inr locked ↦ skips_locked header h k ids past spared m waits o p row.0 row.1
          (sym (shows_row (shown_at m) o p row.0 row.1 row.2).unlocking ∙ locked.unlocking)
    ])

pub are_spared : (header : Header) (h : ℕ) (k : Parts) (ids : Ids) (past : List Event) (by : Sparing) (spared : Option PageKey) → Matches header h k ids [] past
    → HasWaits header h k woken.Nobody past → HasSlow header k past → EachOnce k.waits.rows → IsToCopy header h k spared past
    → IsTheSource header h by spared past → AreSpared header h by past (paging k).frame_at (frames_spared k.memory.resident spared k.waits.rows)
are_spared header h k ids past by spared m waits copies once to_copy source =
    record {
      each = each_spared header h k ids past by spared m waits copies once to_copy source.is;
      all = skips_spared header h k ids past by spared m waits source.only;
    }

-- what a reclaim leaves, by the pages that are spared

-- why a page is skipped: it is the one, or an unlock of it is outstanding
why_skipped : (header : Header) (h : ℕ) (k : Parts) (ids : Ids) (past : List Event) (spared : Option PageKey) (f : ℕ) → Matches header h k ids [] past
    → HasWaits header h k woken.Nobody past → (is : IsSkippedFor k.memory.resident spared k.waits.rows f) → (spared ≡ Some is.key) ⊎ (is.row.unlock_sent ≡ true)
why_skipped header h k ids past spared f m waits is = elim is.why [
  | inl one ↦ inl one
  | inr who ↦
      let reason : Reason k.maps k.chains k.copies k.memory.resident k.memory.objects who.0 who.1.want (on.Page is.key) =
      subst (λ (z : On). Reason k.maps k.chains k.copies k.memory.resident k.memory.objects who.0 who.1.want z) who.3 (waits.reasons who.0 who.1 who.2 refl) in
      let locked = not_away k.memory.resident is.key.object.0 is.key.page.0 is.row who.1 is.found is.here reason.1 in
      inr (ap (λ (z : PageRow). z.unlock_sent) (some_is is.row locked.row (sym is.found ∙ locked.found)) ∙ locked.sent)
]

pub frees_or_returns : (header : Header) (h : ℕ) (k k2 : Parts) (ids : Ids) (spared : Option PageKey) (answer : Reclaim) (before after : List Event)
    → Rests header h k ids before → Rests header h k2 ids after → EachOnce k.waits.rows → IsToCopy header h k spared before
    → FreesBut h (frames_spared k.memory.resident spared k.waits.rows) answer k k2 before after → FreesOrReturns h spared answer k k2 before after
frees_or_returns header h k k2 ids spared answer before after rests rests2 once to_copy r =
    record {
      waits = r.waits;
      freed = r.freed;
      returned = r.returned;
      nothing = λ none. let all = r.nothing none in (all.0, (λ o p row found here. spares o p row found (all.1 o p row found here)), all.2);
      kept = λ o p row found here why. r.kept o p row found here (skips o p row found here why);
    }
  where
    m : Matches header h k ids [] before
    m = rests.matches

    spares : (o p : ℕ) (row : PageRow) → row_at k2.memory.resident o p ≡ Some row
        → is_skipped (frames_spared k.memory.resident spared k.waits.rows) row.frame.0 ≡ true → (spared ≡ Some (page_key o p)) ⊎ (row.unlock_sent ≡ true)
    spares o p row found skipped =
        let is = skipped_for k.memory.resident spared k.waits.rows row.frame.0 once skipped in
        let still = r.kept is.key.object.0 is.key.page.0 is.row is.found is.here (subst
        (λ (z : ℕ). is_skipped (frames_spared k.memory.resident spared k.waits.rows) z ≡ true) (sym is.frame) skipped) in
        let owned = rests2.matches.core.fits.parts.owned in
        let same : is.key ≡ page_key o p =
        some_is is.key (page_key o p) (sym (owned.at is.key.object.0 is.key.page.0 is.row still)
        ∙ (ap (owner_of k2.memory.resident) is.frame ∙ owned.at o p row found)) in
        let rows : is.row ≡ row = some_is is.row row (sym still ∙ (ap (λ (z : PageKey). row_at k2.memory.resident z.object.0 z.page.0) same ∙ found)) in
        elim (why_skipped header h k ids before spared row.frame.0 m rests.waits is)
        [ inl one ↦ inl (one ∙ ap Some same) | inr sent ↦ inr (ap (λ (z : PageRow). z.unlock_sent) (sym rows) ∙ sent) ]

    skips : (o p : ℕ) (row : PageRow) → row_at k.memory.resident o p ≡ Some row → row.here ≡ true → (spared ≡ Some (page_key o p)) ⊎ (row.unlock_sent ≡ true)
        → is_skipped (frames_spared k.memory.resident spared k.waits.rows) row.frame.0 ≡ true
    skips o p row found here (inl one) =
        subst (λ (z : Option PageKey). is_skipped (frames_spared k.memory.resident z k.waits.rows) row.frame.0 ≡ true) (sym one)
        (skips_one k (page_key o p) (row, found, here))
    skips o p row found here (inr sent) = skips_locked header h k ids before spared m rests.waits o p row found sent

-- the page that is to be copied is here still
pub keeps_spared : (header : Header) (h : ℕ) (k k2 : Parts) (spared : Option PageKey) (answer : Reclaim) (before after : List Event)
    → IsToCopy header h k spared before → FreesBut h (frames_spared k.memory.resident spared k.waits.rows) answer k k2 before after
    → IfSome spared (λ it. IsHere k2 it)
keeps_spared header h k k2 None answer before after to_copy r = tt
keeps_spared header h k k2 (Some key) answer before after to_copy r =
    let here = to_copy.1 in
    (here.0, r.kept key.object.0 key.page.0 here.0 here.1 here.2 (skips_one k key here), here.2)

-- a reclaim spares a frame just where it is skipped

same_tests : (a b : Bool) → (a ≡ true → b ≡ true) → (b ≡ true → a ≡ true) → a ≡ b
same_tests true true there back = refl
same_tests false false there back = refl
same_tests true false there back = sym (there refl)
same_tests false true there back = back refl

listed_frame : (x : Option FrameNo) (f : ℕ) (rest : List FrameNo) → is_frame_of x f ≡ true → is_skipped (option_list x ++ rest) f ≡ true
listed_frame None f rest is = absurd (let bad : false ≡ true = is in cc)
listed_frame (Some g) f rest is = ap (λ b. b || is_skipped rest f) is

or_left : (a b : Bool) → a ≡ true → (a || b) ≡ true
or_left a b is = ap (λ z. z || b) is

-- why it spares a frame
data WhySpared (rs : ResidentTable) (one : Option FrameNo) (f : ℕ) : Type 0 where
  IsOne : is_frame_of one f ≡ true → WhySpared rs one f
  IsSent : (key : PageKey) (row : PageRow) → owner_of rs f ≡ Some key → row_at rs key.object.0 key.page.0 ≡ Some row → row.unlock_sent ≡ true → WhySpared rs one f

why_spared : (rs : ResidentTable) (one : Option FrameNo) (f : ℕ) → spares_frame rs one f ≡ true → WhySpared rs one f
why_spared rs one f is = by (is_frame_of one f) (awaits_unlock rs f) refl refl is
  where
    row_of : (key : PageKey) (x : Option PageRow) → owner_of rs f ≡ Some key → row_at rs key.object.0 key.page.0 ≡ x → is_unlocking x ≡ true
        → WhySpared rs one f
    row_of key None owner found sent = absurd (let bad : false ≡ true = sent in cc)
    row_of key (Some row) owner found sent = IsSent key row owner found sent

    led : (x : Option PageKey) → owner_of rs f ≡ x → led_unlocking rs x ≡ true → WhySpared rs one f
    led None owner sent = absurd (let bad : false ≡ true = sent in cc)
    led (Some key) owner sent = row_of key (row_at rs key.object.0 key.page.0) owner refl sent

    by : (a b : Bool) → is_frame_of one f ≡ a → awaits_unlock rs f ≡ b → (a || b) ≡ true → WhySpared rs one f
    by true b first later is = IsOne first
    by false true first later is = led (owner_of rs f) refl later
    by false false first later is = absurd (let bad : false ≡ true = is in cc)

-- the frame that leads to a page is that of its row
abbrev pub LeadsBack : ResidentTable → Type 0
LeadsBack rs = (f : ℕ) → MatchOption (owner_of rs f) (NoRowHas rs f) (λ key. IsSomeAnd (row_at rs key.object.0 key.page.0) (λ row. row.frame.0 ≡ f))

row_led : (rs : ResidentTable) (f : ℕ) (key : PageKey) (row : PageRow) → LeadsBack rs → owner_of rs f ≡ Some key → row_at rs key.object.0 key.page.0 ≡ Some row
    → row.frame.0 ≡ f
row_led rs f key row leads owner found = by (owner_of rs f) (row_at rs key.object.0 key.page.0) owner found (leads f)
  where
    by : (x : Option PageKey) (y : Option PageRow) → x ≡ Some key → y ≡ Some row
        → MatchOption x (NoRowHas rs f) (λ k. IsSomeAnd (row_at rs k.object.0 k.page.0) (λ r. r.frame.0 ≡ f)) → row.frame.0 ≡ f
    by None y is has law = absurd (let bad : None ≡ Some key = is in cc)
    by (Some k) y is has law =
        let same : k ≡ key = some_is k key is in
        let its : IsSomeAnd (row_at rs key.object.0 key.page.0) (λ r. r.frame.0 ≡ f) =
        subst (λ (z : PageKey). IsSomeAnd (row_at rs z.object.0 z.page.0) (λ r. r.frame.0 ≡ f)) same law in
        subst (λ (z : Option PageRow). IsSomeAnd z (λ r. r.frame.0 ≡ f)) found its

pub skips_same : (header : Header) (h : ℕ) (k : Parts) (ids : Ids) (past : List Event) (spared : Option PageKey) → Rests header h k ids past
    → EachOnce k.waits.rows → LeadsBack k.memory.resident
    → SkipsSame (frames_spared k.memory.resident spared k.waits.rows) (spares_frame k.memory.resident (frame_spared k.memory.resident spared)) k.memory.queues
skips_same header h k ids past spared rests once leads f queued =
    same_tests (is_skipped (frames_spared rs spared k.waits.rows) f) (spares_frame rs (frame_spared rs spared) f) there back
  where
    rs : ResidentTable
    rs = k.memory.resident

    there : is_skipped (frames_spared rs spared k.waits.rows) f ≡ true → spares_frame rs (frame_spared rs spared) f ≡ true
    there is =
        let why = skipped_for rs spared k.waits.rows f once is in
        elim (why_skipped header h k ids past spared f rests.matches rests.waits why) [
          | inl one ↦
              or_left (is_frame_of (frame_spared rs spared) f) (awaits_unlock rs f)
              (ap (λ z. is_frame_of (frame_spared rs z) f) one ∙ (ap (λ z. is_frame_of z f) (ap frame_here why.found ∙ here_frame why.row why.here)
              ∙ frame_itself why.row.frame f why.frame))
          | inr sent ↦
              or_right (is_frame_of (frame_spared rs spared) f) (awaits_unlock rs f)
              (ap (led_unlocking rs) (ap (owner_of rs) (sym why.frame)
              ∙ rests.matches.core.fits.parts.owned.at why.key.object.0 why.key.page.0 why.row why.found)
              ∙ (ap is_unlocking why.found ∙ sent))
        ]
      where
        frame_itself : (g : FrameNo) (n : ℕ) → g.0 ≡ n → (g.0 == n) ≡ true
        frame_itself g n same = grind (arith, nat_tests)

    back : spares_frame rs (frame_spared rs spared) f ≡ true → is_skipped (frames_spared rs spared k.waits.rows) f ≡ true
    back is = by (why_spared rs (frame_spared rs spared) f is)
      where
        by : WhySpared rs (frame_spared rs spared) f → is_skipped (frames_spared rs spared k.waits.rows) f ≡ true
        by (IsOne one) = listed_frame (frame_spared rs spared) f (frames_locked rs k.waits.rows) one
        by (IsSent key row owner found sent) =
            subst (λ (z : ℕ). is_skipped (frames_spared rs spared k.waits.rows) z ≡ true) (row_led rs f key row leads owner found)
            (skips_locked header h k ids past spared rests.matches rests.waits key.object.0 key.page.0 row found sent)
