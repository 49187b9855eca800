-- The accesses that wait, once one of them waits for something else or is over, or a page has come or was asked for.
use Rattle.std.proofs.Common.{Bool, List, None, Option, Some, ap, false, inl, inr, refl, subst, suc, sym, true, ℕ, ◌==◌, ◌||◌, ◌∙◌, ◌≡◌}
use Rattle.std.proofs.lemmas.Bool.Decides.{eqb_tells}
use Rattle.std.proofs.lemmas.Bool.{or_right}
use Rattle.std.specs.Prelude.{if◌then◌else◌, not, ◌⊎◌}
use Rattle.vm_base.specs.declared.ids.Lock.{Lock}
use Rattle.vm_copies.specs.Copies.{CopyTable}
use Rattle.vm_fault.specs.Walks.{is_storing, keeps_out}
use Rattle.vm_base.specs.declared.ids.ObjectId.{ObjectId}
use Rattle.vm_base.specs.declared.ids.PageKey.{PageKey}
use Rattle.vm_maps.specs.Judge.{IsAllowed}
use Rattle.vm_maps.specs.Maps.{Mapped}
use Rattle.vm_model.specs.Waiting.{Access}
use Rattle.vm_objects.specs.Objects.{ObjectTable, object_at}
use Rattle.vm_parts.proofs.Rows.{row_cases, some_is}
use Rattle.vm_resident.specs.Resident.{PutsRow, ResidentTable, page_key, row_at}
use Rattle.vm_resident.specs.declared.page_row.PageRow.{PageRow}
use Rattle.vm_shadow.specs.Chains.{ChainTable}
use Rattle.vm_state.specs.Pagers.{ready_in}
use Rattle.vm_state.proofs.Passing.{Later, StopsAt, behind_place, passed_now}
use Rattle.vm_state.proofs.Pushing.{asked_same, push_stays}
use Rattle.vm_state.specs.Passed.{IsPlaceBehind, LeadsOver, Passed, Unmet}
use Rattle.vm_state.specs.Waiters.{Asker, HasWaiters, IsAsked, IsLockedFor, IsPlaceOf, Reason, WaitsToPush, is_awaited, is_woken, waiting_in}
use Rattle.vm_supply.specs.declared.woken.Woken.TheVariants as woken
use Rattle.vm_waits.proofs.Entries.{puts_cases, puts_elsewhere, puts_here}
use Rattle.vm_waits.specs.Waits.{PutsEntry, entry, is_again, is_frame, with_on}
use Rattle.vm_waits.specs.Wants.{IsSizedWant, address_in, need_in}
use Rattle.vm_waits.specs.declared.waiting.On.{On}
use Rattle.vm_waits.specs.declared.waiting.On.TheVariants as on
use Rattle.vm_waits.specs.declared.waiting.Waiting.{Waiting}
use Rattle.vm_waits.specs.declared.waiting.Want.{Want}
use Rattle.vm_state.proofs.Waited.{AreTold}

-- where nothing has come to the places that were passed over, and to those that wait for their pager
pub waits_seen : {copies : CopyTable} {stays stays2 : PageKey → Type 0} {unmet unmet2 : PageKey → Unmet} (maps : Mapped) (chains : ChainTable)
    (rs : ResidentTable) (os : ObjectTable) (rows : List Waiting) (who : On → Bool) (at : ℕ → Option Access)
    → HasWaiters maps chains copies rs os rows who at stays unmet
    → ((t : ℕ) (w : Waiting) → entry rows t ≡ Some w → who w.on ≡ false → Reason maps chains copies rs os t w.want w.on → (to : PageKey) → StopsAt unmet w.on to
    → (m : ℕ) (from : PageKey) → IsPlaceOf maps chains t w.want from → LeadsOver stays chains (suc m) from to → stays2 from)
    → ((t : ℕ) (w : Waiting) → entry rows t ≡ Some w → who w.on ≡ false → Reason maps chains copies rs os t w.want w.on → (object : ObjectId)
    → w.on ≡ on.Ready object → (to : PageKey) → to.object ≡ object → IsPlaceOf maps chains t w.want to → Later (unmet to) (unmet2 to))
    → HasWaiters maps chains copies rs os rows who at stays2 unmet2
waits_seen {stays = stays} {stays2 = stays2} {unmet = unmet} {unmet2 = unmet2} maps chains rs os rows who at has above there =
    record {
      is = has.is;
      allowed = has.allowed;
      sized = has.sized;
      reasons = has.reasons;
      passed =
          λ t w found asleep. passed_now stays stays2 unmet unmet2 maps chains t w.want w.on (above t w found asleep (has.reasons t w found asleep))
          (there t w found asleep (has.reasons t w found asleep)) (has.passed t w found asleep);
      aims = has.aims;
      askers = has.askers;
      ready = has.ready;
    }

-- the access waits for no page of which a word is outstanding
pub record AsksNone (resident : ResidentTable) (reason : On) : Type 0 where
  pub at : (o p : ℕ) (row : PageRow) → row_at resident o p ≡ Some row → is_awaited row ≡ true → reason ≡ on.Page (page_key o p) → ⊥

-- who is to be run again waits for no page
pub asks_none_again : (rs : ResidentTable) (reason : On) → is_again reason ≡ true → AsksNone rs reason
asks_none_again rs reason is = record { at = λ o p row found away same. absurd (let bad : false ≡ true = ap is_again (sym same) ∙ is in cc) }

-- nor does who waits for a frame
pub asks_none_frame : (rs : ResidentTable) (reason : On) → is_frame reason ≡ true → AsksNone rs reason
asks_none_frame rs reason is = record { at = λ o p row found away same. absurd (let bad : false ≡ true = ap is_frame (sym same) ∙ is in cc) }

-- nor does who waits to push
pub asks_none_push : (rs : ResidentTable) (reason : On) (key : PageKey) → reason ≡ on.Push key → AsksNone rs reason
asks_none_push rs reason key is = record { at = λ o p row found away same. absurd (let bad : on.Push key ≡ on.Page (page_key o p) = sym is ∙ same in cc) }

-- of the page, if it has a row, no word is outstanding: it is here, and no unlock was sent
pub record IsUnawaited (found : Option PageRow) : Type 0 where
  pub none : (row : PageRow) → found ≡ Some row → is_awaited row ≡ false

pub none_unawaited : (found : Option PageRow) → found ≡ None → IsUnawaited found
none_unawaited found none = record { none = λ row is. absurd (let bad : None ≡ Some row = sym none ∙ is in cc) }

pub awaited_not : (row : PageRow) → row.here ≡ true → row.unlock_sent ≡ false → is_awaited row ≡ false
awaited_not row here sent = ap (λ z. not z || row.unlock_sent) here ∙ sent

pub here_unawaited : (found : Option PageRow) (row : PageRow) → found ≡ Some row → row.here ≡ true → row.unlock_sent ≡ false → IsUnawaited found
here_unawaited found row some here sent = record { none = λ other is. ap is_awaited (some_is other row (sym is ∙ some)) ∙ awaited_not row here sent }

pub unawaited_here : (row : PageRow) → is_awaited row ≡ false → (row.here ≡ true) × (row.unlock_sent ≡ false)
unawaited_here row none = by row.here row.unlock_sent none
  where
    by : (a b : Bool) → (not a || b) ≡ false → (a ≡ true) × (b ≡ false)
    by true false none = (refl, refl)
    by true true none = absurd (let bad : true ≡ false = none in cc)
    by false b none = absurd (let bad : true ≡ false = none in cc)

-- it is no page of which one is
pub awaited_apart : {B : Type 0} (found : Option PageRow) (row : PageRow) → IsUnawaited found → found ≡ Some row → is_awaited row ≡ true → B
awaited_apart found row not is awaits = absurd (let bad : true ≡ false = sym awaits ∙ not.none row is in cc)

pub away_awaited : (row : PageRow) → row.here ≡ false → is_awaited row ≡ true
away_awaited row away = ap (λ z. not z || row.unlock_sent) away

pub sent_awaited : (row : PageRow) → row.unlock_sent ≡ true → is_awaited row ≡ true
sent_awaited row sent = ap (λ z. not row.here || z) sent ∙ or_right (not row.here) true refl

pub row_moved : (rs : ResidentTable) (o p o2 p2 : ℕ) → o ≡ o2 → p ≡ p2 → row_at rs o p ≡ row_at rs o2 p2
row_moved rs o p o2 p2 same also = ap (λ z. row_at rs z p) same ∙ ap (λ z. row_at rs o2 z) also

-- what is awaited at a place: the page is asked, or an unlock that would let the access in
abbrev pub IsAwaitedBy : ResidentTable → Want → ℕ → ℕ → Type 0
IsAwaitedBy rs what o p = IsAsked rs o p ⊎ IsLockedFor rs what o p

pub asked_is : (rs : ResidentTable) (what : Want) (o p : ℕ) (row : PageRow) → row_at rs o p ≡ Some row → row.here ≡ false → IsAwaitedBy rs what o p
asked_is rs what o p row found away = inl (record { row = row; found = found; away = away })

-- the page has a row that awaits a word
pub awaited_row : {B : Type 0} (rs : ResidentTable) (what : Want) (o p : ℕ) → IsAwaitedBy rs what o p
    → ((row : PageRow) → row_at rs o p ≡ Some row → is_awaited row ≡ true → B) → B
awaited_row rs what o p awaits go = elim awaits [
  | inl asked ↦ go asked.row asked.found (away_awaited asked.row asked.away)
  | inr locked ↦ go locked.row locked.found (sent_awaited locked.row locked.sent)
]

-- it is so while another page has another row
pub awaited_elsewhere : (o p : ℕ) (x : Option PageRow) (rs rs2 : ResidentTable) (what : Want) (o2 p2 : ℕ) → row_at rs2 o2 p2 ≡ row_at rs o2 p2
    → IsAwaitedBy rs what o2 p2 → IsAwaitedBy rs2 what o2 p2
awaited_elsewhere o p x rs rs2 what o2 p2 same awaits = elim awaits [
  | inl asked ↦ inl (record { row = asked.row; found = same ∙ asked.found; away = asked.away })
  | inr locked ↦ inr (record { row = locked.row; found = same ∙ locked.found; here = locked.here; locked = locked.locked; sent = locked.sent })
]

-- a page of which a word is outstanding stays so while another changes
pub awaited_kept : (o p : ℕ) (x : Option PageRow) (rs rs2 : ResidentTable) (what : Want) (o2 p2 : ℕ) → PutsRow o p x rs rs2 → IsUnawaited (row_at rs o p)
    → IsAwaitedBy rs what o2 p2 → IsAwaitedBy rs2 what o2 p2
awaited_kept o p x rs rs2 what o2 p2 put not awaits = elim (row_cases o p x rs rs2 put o2 p2) [
  | inl now ↦ awaited_row rs what o2 p2 awaits (λ row found is. awaited_apart (row_at rs o p) row not (row_moved rs o p o2 p2 now.object now.page ∙ found) is)
  | inr other ↦ awaited_elsewhere o p x rs rs2 what o2 p2 other.is awaits
]

-- what an access waits for is so still
pub reason_kept : (maps : Mapped) (chains : ChainTable) (copies : CopyTable) (rs rs2 : ResidentTable) (os : ObjectTable) (t : ℕ) (what : Want) (reason : On)
    → ((key : PageKey) → reason ≡ on.Page key → IsAwaitedBy rs what key.object.0 key.page.0 → IsAwaitedBy rs2 what key.object.0 key.page.0)
    → ((key : PageKey) → reason ≡ on.Push key → WaitsToPush maps chains copies rs t what key → WaitsToPush maps chains copies rs2 t what key)
    → Reason maps chains copies rs os t what reason → Reason maps chains copies rs2 os t what reason
reason_kept maps chains copies rs rs2 os t what on.Again kept pushes is = tt
reason_kept maps chains copies rs rs2 os t what (on.Ready object) kept pushes is = is
reason_kept maps chains copies rs rs2 os t what (on.Page key) kept pushes is = (is.0, kept key refl is.1)
reason_kept maps chains copies rs rs2 os t what (on.Push key) kept pushes is = pushes key refl is
reason_kept maps chains copies rs rs2 os t what on.Frame kept pushes is = tt

-- all that wait for a word of a page are to be woken, for the page itself or to push another into its place
pub record WakesAll (who : On → Bool) (o p : ℕ) : Type 0 where
  pub page : who (on.Page (page_key o p)) ≡ true
  pub push : who (on.Push (page_key o p)) ≡ true

-- whoever awaits the word of a page loses it, if somebody does, and is to be woken
abbrev pub IsWokenFor : (On → Bool) → Option PageRow → ℕ → ℕ → Type 0
IsWokenFor who found o p = IsUnawaited found ⊎ WakesAll who o p

-- a page has another row, or none; no word of it is outstanding now, nor was before but for those that are to be woken
pub waiters_page : {copies : CopyTable} {stays : PageKey → Type 0} {unmet : PageKey → Unmet} (maps : Mapped) (chains : ChainTable) (rs rs2 : ResidentTable)
    (os : ObjectTable)
    (rows : List Waiting) (who : On → Bool) (at : ℕ → Option Access) (o p : ℕ) (x : Option PageRow)
    → HasWaiters maps chains copies rs os rows who at stays unmet → PutsRow o p x rs rs2 → IsWokenFor who (row_at rs o p) o p → IsUnawaited x
    → HasWaiters maps chains copies rs2 os rows who at stays unmet
waiters_page {copies = copies} maps chains rs rs2 os rows who at o p x has put before now =
    record {
      is = has.is;
      allowed = has.allowed;
      sized = has.sized;
      reasons =
          λ t w is asleep. reason_kept maps chains copies rs rs2 os t w.want w.on
          (λ key same awaits. stays w.want key (ap who (sym same) ∙ asleep) awaits)
          (λ key same push. push_stays push push.at push.owed (asked key (ap who (sym same) ∙ asleep) push.asked)) (has.reasons t w is asleep);
      passed = has.passed;
      aims = has.aims;
      askers = λ o2 p2 row found awaits. elim (row_cases o p x rs rs2 put o2 p2) [
        | inl here ↦ awaited_apart x row now (sym here.is ∙ found) awaits
        | inr other ↦ has.askers o2 p2 row (sym other.is ∙ found) awaits
      ];
      ready = λ o2 p2 row found away. elim (row_cases o p x rs rs2 put o2 p2) [
        | inl here ↦ awaited_apart x row now (sym here.is ∙ found) (away_awaited row away)
        | inr other ↦ has.ready o2 p2 row (sym other.is ∙ found) away
      ];
    }
  where
    stays : (what : Want) (key : PageKey) → who (on.Page key) ≡ false → IsAwaitedBy rs what key.object.0 key.page.0
        → IsAwaitedBy rs2 what key.object.0 key.page.0
    stays what key asleep awaits = elim (row_cases o p x rs rs2 put key.object.0 key.page.0) [
      | inl here ↦ elim before [
        | inl none ↦ awaited_row rs what key.object.0 key.page.0 awaits (λ row found is. awaited_apart (row_at rs o p) row none
            (row_moved rs o p key.object.0 key.page.0 here.object here.page ∙ found) is)
        | inr all ↦
            absurd (let bad : true ≡ false = sym all.page
            ∙ (ap (λ z. who (on.Page (page_key z p))) here.object ∙ (ap (λ z. who (on.Page (page_key key.object.0 z))) here.page ∙ asleep)) in cc)
      ]
      | inr other ↦ awaited_elsewhere o p x rs rs2 what key.object.0 key.page.0 other.is awaits
    ]

    -- the place into which it is to be pushed is asked still
    asked : (key : PageKey) → who (on.Push key) ≡ false → IsAsked rs key.object.0 key.page.0 → IsAsked rs2 key.object.0 key.page.0
    asked key asleep is = elim (row_cases o p x rs rs2 put key.object.0 key.page.0) [
      | inl here ↦ elim before [
        | inl none ↦ awaited_apart (row_at rs o p) is.row none (row_moved rs o p key.object.0 key.page.0 here.object here.page ∙ is.found)
            (away_awaited is.row is.away)
        | inr all ↦
            absurd (let bad : true ≡ false = sym all.push
            ∙ (ap (λ z. who (on.Push (page_key z p))) here.object ∙ (ap (λ z. who (on.Push (page_key key.object.0 z))) here.page ∙ asleep)) in cc)
      ]
      | inr other ↦ asked_same rs rs2 key.object.0 key.page.0 other.is is
    ]

-- what the row of an access has to be, but for its reason
pub record Suits (maps : Mapped) (task : ℕ) (w : Waiting) : Type 0 where
  pub allowed : IsAllowed maps task (address_in maps.size w.want) (need_in w.want)
  pub sized : IsSizedWant maps.size w.want

-- whom the others ask for is asked for still
pub asker_kept : (rows rows2 : List Waiting) (t : ℕ) (was : Waiting) (x : Option Waiting) (o p : ℕ) → PutsEntry t x rows rows2 → entry rows t ≡ Some was
    → (was.on ≡ on.Page (page_key o p) → ⊥) → Asker rows o p → Asker rows2 o p
asker_kept rows rows2 t was x o p put is not asker = elim (eqb_tells t asker.task) [
  | inl same ↦
      let it : was ≡ asker.row = some_is was asker.row (sym is ∙ (ap (λ z. entry rows z) same.1 ∙ asker.is)) in
      absurd (not (ap (λ (z : Waiting). z.on) it ∙ asker.waits))
  | inr apart ↦ record { task = asker.task; row = asker.row; is = puts_elsewhere t asker.task x rows rows2 put apart.1 ∙ asker.is; waits = asker.waits }
]

-- what accesses wait for is so still: words that are outstanding, and places that are asked
pub record KeepsWords (rs rs2 : ResidentTable) : Type 0 where
  pub awaited : (what : Want) (o p : ℕ) → IsAwaitedBy rs what o p → IsAwaitedBy rs2 what o p
  pub asked : (o p : ℕ) → IsAsked rs o p → IsAsked rs2 o p

pub words_same : (rs : ResidentTable) → KeepsWords rs rs
words_same rs = record { awaited = λ what o p is. is; asked = λ o p is. is }

-- one page has another row, of which no word was outstanding
pub words_put : (o p : ℕ) (x : Option PageRow) (rs rs2 : ResidentTable) → PutsRow o p x rs rs2 → IsUnawaited (row_at rs o p)
    → KeepsWords rs rs2
words_put o p x rs rs2 put not =
    record {
      awaited = λ what o2 p2 is. awaited_kept o p x rs rs2 what o2 p2 put not is;
      asked = λ o2 p2 is. elim (row_cases o p x rs rs2 put o2 p2) [
        | inl here ↦ awaited_apart (row_at rs o p) is.row not (row_moved rs o p o2 p2 here.object here.page ∙ is.found) (away_awaited is.row is.away)
        | inr other ↦ asked_same rs rs2 o2 p2 other.is is
      ];
    }

-- one access is over, or waits for something else, and words that were outstanding are so still
pub waiters_put : {copies : CopyTable} {stays : PageKey → Type 0} {unmet : PageKey → Unmet} (maps : Mapped) (chains : ChainTable) (rs rs2 : ResidentTable)
    (os : ObjectTable)
    (rows rows2 : List Waiting) (at at2 : ℕ → Option Access) (t : ℕ) (x : Option Waiting)
    → HasWaiters maps chains copies rs os rows (is_woken woken.Nobody) at stays unmet → PutsEntry t x rows rows2
    → AreTold maps rows2 at2
    → ((w : Waiting) → x ≡ Some w → Suits maps t w) → ((w : Waiting) → x ≡ Some w → Reason maps chains copies rs2 os t w.want w.on)
    → ((w : Waiting) → x ≡ Some w → Passed stays unmet maps chains t w.want w.on)
    → KeepsWords rs rs2 → ((o p : ℕ) (row : PageRow) → row_at rs2 o p ≡ Some row → is_awaited row ≡ true → Asker rows2 o p)
    → ((o p : ℕ) (row : PageRow) → row_at rs2 o p ≡ Some row → row.here ≡ false → ready_in (object_at os o) ≡ true)
    → HasWaiters maps chains copies rs2 os rows2 (is_woken woken.Nobody) at2 stays unmet
waiters_put {copies = copies} {stays = stays} {unmet = unmet} maps chains rs rs2 os rows rows2 at at2 t x has put told suits reason passed kept askers ready =
    record {
      is = told;
      allowed = λ u w is. puts_cases {P = IsAllowed maps u (address_in maps.size w.want) (need_in w.want)} t u x rows rows2 w put is
          (λ same it. subst (λ (z : ℕ). IsAllowed maps z (address_in maps.size w.want) (need_in w.want)) same (suits w it).allowed)
          (λ apart was. has.allowed u w was);
      sized =
          λ u w is. puts_cases {P = IsSizedWant maps.size w.want} t u x rows rows2 w put is (λ same it. (suits w it).sized) (λ apart was. has.sized u w was);
      reasons = λ u w is asleep. puts_cases {P = Reason maps chains copies rs2 os u w.want w.on} t u x rows rows2 w put is
          (λ same it. subst (λ (z : ℕ). Reason maps chains copies rs2 os z w.want w.on) same (reason w it))
          (λ apart was. reason_kept maps chains copies rs rs2 os u w.want w.on (λ key why. kept.awaited w.want key.object.0 key.page.0)
          (λ key why push. push_stays push push.at push.owed (kept.asked key.object.0 key.page.0 push.asked))
          (has.reasons u w was refl));
      passed = λ u w is asleep. puts_cases {P = Passed stays unmet maps chains u w.want w.on} t u x rows rows2 w put is
          (λ same it. subst (λ (z : ℕ). Passed stays unmet maps chains z w.want w.on) same (passed w it))
          (λ apart was. has.passed u w was refl);
      aims = λ u w key is waits. puts_cases {P = IsPlaceOf maps chains u w.want key} t u x rows rows2 w put is
          (λ same it. subst (λ (z : ℕ). IsPlaceOf maps chains z w.want key) same (aimed t w.want w.on key waits (reason w it)))
          (λ apart was. has.aims u w key was waits);
      askers = askers;
      ready = ready;
    }
  where
    aimed : (u : ℕ) (what : Want) (why : On) (key : PageKey) → why ≡ on.Page key → Reason maps chains copies rs2 os u what why
        → IsPlaceOf maps chains u what key
    aimed u what why key same is =
        let so : Reason maps chains copies rs2 os u what (on.Page key) = subst (λ (z : On). Reason maps chains copies rs2 os u what z) same is in so.0

pub over_is : (maps : Mapped) (rows rows2 : List Waiting) (t : ℕ) (at at2 : ℕ → Option Access) → AreTold maps rows at → PutsEntry t None rows rows2
    → ((u : ℕ) → at2 u ≡ (if t == u then None else at u)) → AreTold maps rows2 at2
over_is maps rows rows2 t at at2 is put ends u here = elim (eqb_tells t u) [
  | inl same ↦ ends u ∙ (ap (λ b. if b then None else at u) same.0
      ∙ sym (ap (waiting_in maps.size) (put.at u ∙ ap (λ b. if b then None else entry rows u) same.0)))
  | inr apart ↦ ends u ∙ (ap (λ b. if b then None else at u) apart.0
      ∙ (is u here ∙ sym (ap (waiting_in maps.size) (put.at u ∙ ap (λ b. if b then None else entry rows u) apart.0))))
]

-- an access is over that waits for no page of which a word is outstanding
pub waiters_over : {copies : CopyTable} {stays : PageKey → Type 0} {unmet : PageKey → Unmet} (maps : Mapped) (chains : ChainTable) (rs : ResidentTable)
    (os : ObjectTable)
    (rows rows2 : List Waiting) (at at2 : ℕ → Option Access) (t : ℕ) (was : Waiting)
    → HasWaiters maps chains copies rs os rows (is_woken woken.Nobody) at stays unmet → entry rows t ≡ Some was → AsksNone rs was.on
    → PutsEntry t None rows rows2
    → ((u : ℕ) → at2 u ≡ (if t == u then None else at u))
    → HasWaiters maps chains copies rs os rows2 (is_woken woken.Nobody) at2 stays unmet
waiters_over maps chains rs os rows rows2 at at2 t was has is none put ends =
    waiters_put maps chains rs rs os rows rows2 at at2 t None has put (over_is maps rows rows2 t at at2 has.is put ends)
    (λ w it. absurd (let bad : None ≡ Some w = it in cc))
    (λ w it. absurd (let bad : None ≡ Some w = it in cc))
    (λ w it. absurd (let bad : None ≡ Some w = it in cc))
    (words_same rs)
    (λ o p row found away. asker_kept rows rows2 t was None o p put is (λ reason. none.at o p row found away reason) (has.askers o p row found away))
    has.ready

pub turned_is : (maps : Mapped) (rows rows2 : List Waiting) (t : ℕ) (was : Waiting) (reason : On) (at : ℕ → Option Access) → AreTold maps rows at
    → entry rows t ≡ Some was → PutsEntry t (Some (with_on was reason)) rows rows2 → AreTold maps rows2 at
turned_is maps rows rows2 t was reason at is there put u here = elim (eqb_tells t u) [
  | inl same ↦
      let it : entry rows u ≡ Some was = ap (λ z. entry rows z) (sym same.1) ∙ there in
      is u here ∙ (ap (waiting_in maps.size) it ∙ sym (ap (waiting_in maps.size) (put.at u
      ∙ ap (λ b. if b then Some (with_on was reason) else entry rows u) same.0)))
  | inr apart ↦ is u here ∙ sym (ap (waiting_in maps.size) (put.at u ∙ ap (λ b. if b then Some (with_on was reason) else entry rows u) apart.0))
]

turned_suits : {copies : CopyTable} {stays : PageKey → Type 0} {unmet : PageKey → Unmet} (maps : Mapped) (chains : ChainTable) (rs : ResidentTable)
    (os : ObjectTable)
    (rows : List Waiting) (who : On → Bool) (at : ℕ → Option Access) (t : ℕ) (was w : Waiting) (reason : On)
    → HasWaiters maps chains copies rs os rows who at stays unmet → entry rows t ≡ Some was → Some (with_on was reason) ≡ Some w → Suits maps t w
turned_suits maps chains rs os rows who at t was w reason has there same =
    subst (λ (z : Waiting). Suits maps t z) (some_is (with_on was reason) w same) (record { allowed = has.allowed t was there; sized = has.sized t was there })

turned_reason : (maps : Mapped) (chains : ChainTable) (copies : CopyTable) (rs : ResidentTable) (os : ObjectTable) (t : ℕ) (was w : Waiting) (reason : On)
    → Reason maps chains copies rs os t was.want reason → Some (with_on was reason) ≡ Some w
    → Reason maps chains copies rs os t w.want w.on
turned_reason maps chains copies rs os t was w reason holds same =
    subst (λ (z : Waiting). Reason maps chains copies rs os t z.want z.on) (some_is (with_on was reason) w same) holds

turned_passed : (stays : PageKey → Type 0) (unmet : PageKey → Unmet) (maps : Mapped) (chains : ChainTable) (t : ℕ) (was w : Waiting) (reason : On)
    → Passed stays unmet maps chains t was.want reason → Some (with_on was reason) ≡ Some w
    → Passed stays unmet maps chains t w.want w.on
turned_passed stays unmet maps chains t was w reason holds same =
    subst (λ (z : Waiting). Passed stays unmet maps chains t z.want z.on) (some_is (with_on was reason) w same) holds

-- an access waits for something else; before, for no page of which a word is outstanding
pub waiters_turned : {copies : CopyTable} {stays : PageKey → Type 0} {unmet : PageKey → Unmet} (maps : Mapped) (chains : ChainTable) (rs : ResidentTable)
    (os : ObjectTable)
    (rows rows2 : List Waiting) (at : ℕ → Option Access) (t : ℕ) (was : Waiting) (reason : On)
    → HasWaiters maps chains copies rs os rows (is_woken woken.Nobody) at stays unmet → entry rows t ≡ Some was → AsksNone rs was.on
    → PutsEntry t (Some (with_on was reason)) rows rows2 → Reason maps chains copies rs os t was.want reason
    → Passed stays unmet maps chains t was.want reason → HasWaiters maps chains copies rs os rows2 (is_woken woken.Nobody) at stays unmet
waiters_turned {copies = copies} {stays = stays} {unmet = unmet} maps chains rs os rows rows2 at t was reason has is none put holds passed =
    waiters_put maps chains rs rs os rows rows2 at at t (Some (with_on was reason)) has put (turned_is maps rows rows2 t was reason at has.is is put)
    (λ w it. turned_suits maps chains rs os rows (is_woken woken.Nobody) at t was w reason has is it)
    (λ w it. turned_reason maps chains copies rs os t was w reason holds it)
    (λ w it. turned_passed stays unmet maps chains t was w reason passed it)
    (words_same rs)
    (λ o p row found away. asker_kept rows rows2 t was (Some (with_on was reason)) o p put is (λ why. none.at o p row found away why)
    (has.askers o p row found away))
    has.ready

-- a store waits for a place into which it is to push its page
pub waiters_pushing : {copies : CopyTable} {stays : PageKey → Type 0} {unmet : PageKey → Unmet} (maps : Mapped) (chains : ChainTable) (rs : ResidentTable)
    (os : ObjectTable)
    (rows rows2 : List Waiting) (at : ℕ → Option Access) (t : ℕ) (was : Waiting) (key : PageKey)
    → HasWaiters maps chains copies rs os rows (is_woken woken.Nobody) at stays unmet → entry rows t ≡ Some was → AsksNone rs was.on
    → PutsEntry t (Some (with_on was (on.Push key))) rows rows2 → WaitsToPush maps chains copies rs t was.want key
    → HasWaiters maps chains copies rs os rows2 (is_woken woken.Nobody) at stays unmet
waiters_pushing maps chains rs os rows rows2 at t was key has is none put push =
    waiters_turned maps chains rs os rows rows2 at t was (on.Push key) has is none put push tt

-- an access waits for a page that is asked
pub its_asker : (rows rows2 : List Waiting) (t : ℕ) (was : Waiting) (key : PageKey) (o p : ℕ) → PutsEntry t (Some (with_on was (on.Page key))) rows rows2
    → key.object.0 ≡ o → key.page.0 ≡ p → Asker rows2 o p
its_asker rows rows2 t was key o p put same also =
    record {
      task = t;
      row = with_on was (on.Page key);
      is = puts_here t (Some (with_on was (on.Page key))) rows rows2 put;
      waits = ap (λ z. on.Page (page_key z key.page.0)) same ∙ ap (λ z. on.Page (page_key o z)) also;
    }

-- an access waits for a page of which a word was outstanding before
pub waiters_joined : {copies : CopyTable} {stays : PageKey → Type 0} {unmet : PageKey → Unmet} (maps : Mapped) (chains : ChainTable) (rs : ResidentTable)
    (os : ObjectTable)
    (rows rows2 : List Waiting) (at : ℕ → Option Access) (t : ℕ) (was : Waiting) (key : PageKey)
    → HasWaiters maps chains copies rs os rows (is_woken woken.Nobody) at stays unmet → entry rows t ≡ Some was → AsksNone rs was.on
    → IsPlaceBehind stays maps chains t was.want key → IsAwaitedBy rs was.want key.object.0 key.page.0
    → PutsEntry t (Some (with_on was (on.Page key))) rows rows2
    → HasWaiters maps chains copies rs os rows2 (is_woken woken.Nobody) at stays unmet
waiters_joined maps chains rs os rows rows2 at t was key has is none behind awaits put =
    waiters_turned maps chains rs os rows rows2 at t was (on.Page key) has is none put (behind_place behind, awaits) behind

-- a word of a page is asked for of which none was outstanding, for an access that waits for it now
pub waiters_asked : {copies : CopyTable} {stays : PageKey → Type 0} {unmet : PageKey → Unmet} (maps : Mapped) (chains : ChainTable) (rs rs2 : ResidentTable)
    (os : ObjectTable)
    (rows rows2 : List Waiting) (at : ℕ → Option Access) (t : ℕ) (was : Waiting) (key : PageKey) (row : PageRow)
    → HasWaiters maps chains copies rs os rows (is_woken woken.Nobody) at stays unmet → entry rows t ≡ Some was → AsksNone rs was.on
    → IsPlaceBehind stays maps chains t was.want key → IsUnawaited (row_at rs key.object.0 key.page.0)
    → PutsRow key.object.0 key.page.0 (Some row) rs rs2
    → IsAwaitedBy rs2 was.want key.object.0 key.page.0 → PutsEntry t (Some (with_on was (on.Page key))) rows rows2
    → (row.here ≡ false → ready_in (object_at os key.object.0) ≡ true)
    → HasWaiters maps chains copies rs2 os rows2 (is_woken woken.Nobody) at stays unmet
waiters_asked {copies = copies} {stays = stays} {unmet = unmet} maps chains rs rs2 os rows rows2 at t was key row has is none behind fresh put awaits turns
    ready =
    waiters_put maps chains rs rs2 os rows rows2 at at t (Some (with_on was (on.Page key))) has turns
    (turned_is maps rows rows2 t was (on.Page key) at has.is is turns)
    (λ w it. turned_suits maps chains rs os rows (is_woken woken.Nobody) at t was w (on.Page key) has is it)
    (λ w it. turned_reason maps chains copies rs2 os t was w (on.Page key) (behind_place behind, awaits) it)
    (λ w it. turned_passed stays unmet maps chains t was w (on.Page key) behind it)
    (words_put key.object.0 key.page.0 (Some row) rs rs2 put fresh)
    (λ o p r found waits. elim (row_cases key.object.0 key.page.0 (Some row) rs rs2 put o p) [
      | inl now ↦ its_asker rows rows2 t was key o p turns now.object now.page
      | inr other ↦
          let was_found = sym other.is ∙ found in
          asker_kept rows rows2 t was (Some (with_on was (on.Page key))) o p turns is (λ reason. none.at o p r was_found waits reason)
          (has.askers o p r was_found waits)
    ])
    (λ o p r found gone. elim (row_cases key.object.0 key.page.0 (Some row) rs rs2 put o p) [
      | inl now ↦ subst (λ (z : ℕ). ready_in (object_at os z) ≡ true) now.object (ready (ap (λ z. z.here) (some_is row r (sym now.is ∙ found)) ∙ gone))
      | inr other ↦ has.ready o p r (sym other.is ∙ found) gone
    ])

-- who keeps a reader out keeps everybody out
kept_out_all : (lock : Lock) (writes : Bool) → keeps_out lock writes ≡ true → keeps_out lock true ≡ true
kept_out_all lock true is = is
kept_out_all lock false is = by lock.read is
  where
    by : (b : Bool) → (b || false) ≡ true → (b || lock.write) ≡ true
    by true is = refl
    by false is = absurd (let bad : false ≡ true = is in cc)

-- the row that a page has now
pub put_now : (o p : ℕ) (x : Option PageRow) (rs rs2 : ResidentTable) → PutsRow o p x rs rs2 → row_at rs2 o p ≡ x
put_now o p x rs rs2 put = elim (row_cases o p x rs rs2 put o p) [
  | inl now ↦ now.is
  | inr other ↦ absurd (other.apart refl refl)
]

-- whose lock keeps nobody out has no unlock outstanding: for each that is, somebody waits whom the lock keeps out
pub open_unsent : {copies : CopyTable} {stays : PageKey → Type 0} {unmet : PageKey → Unmet} (maps : Mapped) (chains : ChainTable) (rs : ResidentTable)
    (os : ObjectTable)
    (rows : List Waiting) (at : ℕ → Option Access) (o p : ℕ) (row : PageRow) → HasWaiters maps chains copies rs os rows (is_woken woken.Nobody) at stays unmet
    → row_at rs o p ≡ Some row → row.here ≡ true → keeps_out row.lock true ≡ false → row.unlock_sent ≡ false
open_unsent {copies = copies} maps chains rs os rows at o p row has found here open_to = by_test row.unlock_sent refl
  where
    none : (what : Want) → IsAwaitedBy rs what o p → ⊥
    none what awaits = elim awaits [
      | inl asked ↦ let bad : true ≡ false = sym here ∙ (ap (λ (z : PageRow). z.here) (some_is row asked.row (sym found ∙ asked.found)) ∙ asked.away) in cc
      | inr locked ↦
          let same : row ≡ locked.row = some_is row locked.row (sym found ∙ locked.found) in
          let bad : true ≡ false = sym (kept_out_all row.lock (is_storing what) (ap (λ (z : PageRow). keeps_out z.lock (is_storing what)) same ∙ locked.locked))
          ∙ open_to in
          cc
    ]

    by_test : (b : Bool) → row.unlock_sent ≡ b → b ≡ false
    by_test false unsent = refl
    by_test true sent =
        let asker : Asker rows o p = has.askers o p row found (sent_awaited row sent) in
        let reason : Reason maps chains copies rs os asker.task asker.row.want asker.row.on = has.reasons asker.task asker.row asker.is refl in
        let so : Reason maps chains copies rs os asker.task asker.row.want (on.Page (page_key o p)) = subst
        (λ (z : On). Reason maps chains copies rs os asker.task asker.row.want z) asker.waits reason in
        absurd (none asker.row.want so.1)
