-- What each call leaves of the table.
use Rattle.std.proofs.Common.{ℕ, ◌≡◌, ◌==◌, true, false, List, Option, Some, None, refl, sym, ◌∙◌, ap, subst, ⊎_elim, arith}
use Rattle.indexmap.specs.IndexMap.{insert_entry}
use Rattle.std.proofs.lemmas.Bool.{cases_Bool, cases_eq, false≢true}
use Rattle.std.proofs.lemmas.Bool.Decides.{nat_tests}
use Rattle.std.proofs.lemmas.Option.{none-some, same_Some}
use Rattle.std.specs.List.{IsDistinct}
use Rattle.std.specs.Map.{keys_of, set_value}
use Rattle.std.specs.Prelude.{IsSome, IsSomeAnd, MatchOption, is_some, if◌then◌else◌}
use Rattle.vm_base.proofs.Keys.{itself, key_is, page_read}
use Rattle.vm_base.specs.Keys.{is_page}
use Rattle.vm_base.specs.declared.ids.PageKey.{PageKey}
use Rattle.vm_resident.proofs.Entries.{WritesEntry, entry_at, row_entry, row_put, seen}
use Rattle.vm_resident.proofs.Owners.{owner_has, owner_inserted, owner_none, owner_set}
use Rattle.vm_resident.specs.Kept.{IsLed, pages_of, same_page}
use Rattle.vm_resident.specs.Owners.{OwnerMap, leads_to}
use Rattle.vm_resident.specs.Resident.{IsOwned, NoRowHas, PutsOwner, PutsRow, ResidentTable, owner_among, owner_of, page_key, row_among, row_at}
use Rattle.vm_resident.specs.declared.page_row.PageRow.{PageRow}

-- a row that another page has stays
other_stays : (old new : ResidentTable) (key other : PageKey) (was row : PageRow) → PutsRow key.object.0 key.page.0 None old new
    → row_at old key.object.0 key.page.0 ≡ Some was
    → row_at old other.object.0 other.page.0 ≡ Some row → (was.frame.0 ≡ row.frame.0 → ⊥) → row_at new other.object.0 other.page.0 ≡ Some row
other_stays old new key other was row puts stood is differ =
    ⊎_elim
    (λ (here : is_page key other.object.0 other.page.0 ≡ true).
    let read = page_read key other.object.0 other.page.0 here in
    let mine : row_at old other.object.0 other.page.0 ≡ Some was = rw (read.object, read.page) at stood in
    absurd (differ (ap (λ (z : PageRow). z.frame.0) (same_Some was row (sym mine ∙ is)))))
    (λ (apart : is_page key other.object.0 other.page.0 ≡ false). rw apart at (puts.at other.object.0 other.page.0) ∙ is)
    (cases_Bool (is_page key other.object.0 other.page.0))

-- a row that is left was there, and its frame led to its page
record Left (old : ResidentTable) (key other : PageKey) (g : ℕ) : Type 0 where
  leads : owner_of old g ≡ Some other
  apart : is_page key other.object.0 other.page.0 ≡ false

left : (old new : ResidentTable) (key other : PageKey) (row : PageRow) (g : ℕ) → PutsRow key.object.0 key.page.0 None old new → IsOwned old
    → row_at new other.object.0 other.page.0 ≡ Some row → row.frame.0 ≡ g → Left old key other g
left old new key other row g puts owned is frame =
    let now = sym (puts.at other.object.0 other.page.0) ∙ is in
    ⊎_elim
    (λ (here : is_page key other.object.0 other.page.0 ≡ true). absurd (none-some row (rw here at now)))
    (λ (apart : is_page key other.object.0 other.page.0 ≡ false). record {
      leads = ap (owner_of old) (sym frame)
          ∙ owned.at other.object.0 other.page.0 row (rw apart at now);
      apart = apart;
    })
    (cases_Bool (is_page key other.object.0 other.page.0))

-- where each row has a frame of its own, the frame of a row that is taken out leads to no page, and each other to where it led
owner_taken : (entries kept : List (PageKey × PageRow)) (s t : ℕ) (key : PageKey) (was : PageRow) → IsDistinct same_page (keys_of entries)
    → IsDistinct same_page (keys_of kept)
    → PutsRow key.object.0 key.page.0 None (seen entries s) (seen kept t) → row_at (seen entries s) key.object.0 key.page.0 ≡ Some was
    → IsOwned (seen entries s) → PutsOwner was.frame.0 None (seen entries s) (seen kept t)
owner_taken entries kept s t key was distinct unique puts stood owned = record {
  at = λ g. ⊎_elim
      (λ (same : was.frame.0 ≡ g).
      let yes : (was.frame.0 == g) ≡ true = grind (arith, nat_tests) in
      rw yes (gone g same (owner_among g (pages_of kept)) refl))
      (λ (differ : was.frame.0 ≡ g → ⊥).
      let no : (was.frame.0 == g) ≡ false = grind (arith, nat_tests) in
      rw no (stays g differ (owner_among g (pages_of kept)) (owner_among g (pages_of entries)) refl refl))
      (cases_eq was.frame.0 g);
}
  where
    old : ResidentTable
    old = seen entries s

    new : ResidentTable
    new = seen kept t

    mine : owner_of old was.frame.0 ≡ Some key
    mine = owned.at key.object.0 key.page.0 was stood

    gone : (g : ℕ) → was.frame.0 ≡ g → (leads : Option PageKey) → owner_among g (pages_of kept) ≡ leads → leads ≡ None
    gone g same None is = refl
    gone g same (Some other) is =
        let has = owner_has g other kept unique is in
        let stood = left old new key other has.row g puts owned has.at has.frame in
        let both : other ≡ key = same_Some other key (sym stood.leads ∙ ap (owner_of old) (sym same) ∙ mine) in
        absurd (false≢true (sym (rw both at stood.apart) ∙ itself key))

    stays : (g : ℕ) → (was.frame.0 ≡ g → ⊥) → (leads led : Option PageKey) → owner_among g (pages_of kept) ≡ leads → owner_among g (pages_of entries) ≡ led
        → leads ≡ led
    stays g differ None None is was_led = refl
    stays g differ (Some other) led is was_led =
        let has = owner_has g other kept unique is in
        let stood = left old new key other has.row g puts owned has.at has.frame in
        sym stood.leads ∙ was_led
    stays g differ None (Some other) is was_led =
        let has = owner_has g other entries distinct was_led in
        let stands = other_stays old new key other was has.row puts stood has.at (λ e. differ (e ∙ has.frame)) in
        absurd (owner_none g other.object.0 other.page.0 has.row (pages_of kept) is stands has.frame)

-- a page that has a row with a frame
record Held (table : ResidentTable) (key : PageKey) (f : ℕ) : Type 0 where
  was : PageRow
  row : row_at table key.object.0 key.page.0 ≡ Some was
  frame : was.frame.0 ≡ f

held_read : (table : ResidentTable) (key : PageKey) (f : ℕ) (row : Option PageRow) → row_at table key.object.0 key.page.0 ≡ row
    → IsSomeAnd row (λ was. was.frame.0 ≡ f) → Held table key f
held_read table key f None is frame = absurd frame
held_read table key f (Some was) is frame = record { was = was; row = is; frame = frame }

held : (table : ResidentTable) (key : PageKey) (f : ℕ) → IsSomeAnd (row_at table key.object.0 key.page.0) (λ was. was.frame.0 ≡ f) → Held table key f
held table key f is = held_read table key f (row_at table key.object.0 key.page.0) refl is

-- what a call leaves of a table where it gives a page this row, whose frame leads to the page then
pub record Puts (key : PageKey) (row : PageRow) (old new : ResidentTable) : Type 0 where
  pub rows : PutsRow key.object.0 key.page.0 (Some row) old new
  pub frames : owner_of old row.frame.0 ≡ None → PutsOwner row.frame.0 (Some key) old new
  pub owned : IsOwned old → owner_of old row.frame.0 ≡ None → IsOwned new

owned_inserted : (old new : ResidentTable) (key : PageKey) (row : PageRow) → PutsRow key.object.0 key.page.0 (Some row) old new
    → PutsOwner row.frame.0 (Some key) old new → owner_of old row.frame.0 ≡ None → IsOwned old → IsOwned new
owned_inserted old new key row rows frames free owned = record {
  at = λ o p r is. ⊎_elim
      (λ (here : is_page key o p ≡ true).
      let read = page_read key o p here in
      let one : row ≡ r = same_Some row r (sym (rw here at (rows.at o p)) ∙ is) in
      let yes : (row.frame.0 == row.frame.0) ≡ true = grind (arith, nat_tests) in
      let leads : owner_of new row.frame.0 ≡ Some key = rw yes at (frames.at row.frame.0) in
      rw (← one) (leads ∙ ap Some (sym (key_is key o p read.object read.page))))
      (λ (apart : is_page key o p ≡ false).
      let led = owned.at o p r (sym (rw apart at (rows.at o p)) ∙ is) in
      ⊎_elim
      (λ (same : row.frame.0 ≡ r.frame.0). absurd (none-some (page_key o p) (sym free ∙ ap (owner_of old) same ∙ led)))
      (λ (differ : row.frame.0 ≡ r.frame.0 → ⊥).
      let other : (row.frame.0 == r.frame.0) ≡ false = grind (arith, nat_tests) in
      rw other at (frames.at r.frame.0) ∙ led)
      (cases_eq row.frame.0 r.frame.0))
      (cases_Bool (is_page key o p));
}

pub inserted : (entries left : List (PageKey × PageRow)) (s t : ℕ) (key : PageKey) (row : PageRow) → row_at (seen entries s) key.object.0 key.page.0 ≡ None
    → WritesEntry key (Some row) entries left → left ≡ insert_entry same_page entries key row
    → Puts key row (seen entries s) (seen left t)
inserted entries left s t key row none writes is =
    let rows = row_put entries left key (Some row) s t writes in
    let absent = sym (row_entry key.object.0 key.page.0 entries) ∙ none in
    let frames : owner_of (seen entries s) row.frame.0 ≡ None → PutsOwner row.frame.0 (Some key) (seen entries s) (seen left t)
    = λ free. record { at = λ g. rw is (owner_inserted g key row entries absent free) } in
    record { rows = rows; frames = frames; owned = λ owned free. owned_inserted (seen entries s) (seen left t) key row rows (frames free) free owned }

pub entry_there : (entries : List (PageKey × PageRow)) (s : ℕ) (key : PageKey) (f : ℕ)
    → IsSomeAnd (row_at (seen entries s) key.object.0 key.page.0) (λ was. was.frame.0 ≡ f) → IsSome (entry_at key.object.0 key.page.0 entries)
entry_there entries s key f stood = let was = held (seen entries s) key f stood in ap is_some (sym (row_entry key.object.0 key.page.0 entries) ∙ was.row)

-- what a call leaves of a table where it changes the row of a page, which keeps its frame
pub record Changes (key : PageKey) (row : PageRow) (old new : ResidentTable) : Type 0 where
  pub rows : PutsRow key.object.0 key.page.0 (Some row) old new
  pub frames : (f : ℕ) → owner_of new f ≡ owner_of old f
  pub owned : IsOwned old → IsOwned new

owned_changed : (old new : ResidentTable) (key : PageKey) (was row : PageRow) → PutsRow key.object.0 key.page.0 (Some row) old new
    → ((f : ℕ) → owner_of new f ≡ owner_of old f) → row_at old key.object.0 key.page.0 ≡ Some was → was.frame.0 ≡ row.frame.0 → IsOwned old → IsOwned new
owned_changed old new key was row rows frames stood same owned = record {
  at = λ o p r is. ⊎_elim
      (λ (here : is_page key o p ≡ true).
      let read = page_read key o p here in
      let one : row ≡ r = same_Some row r (sym (rw here at (rows.at o p)) ∙ is) in
      let led : owner_of old was.frame.0 ≡ Some key = owned.at key.object.0 key.page.0 was stood in
      rw (← one) (frames row.frame.0 ∙ ap (owner_of old) (sym same) ∙ led ∙ ap Some (sym (key_is key o p read.object read.page))))
      (λ (apart : is_page key o p ≡ false). frames r.frame.0 ∙ owned.at o p r (sym (rw apart at (rows.at o p)) ∙ is))
      (cases_Bool (is_page key o p));
}

pub changed : (entries left : List (PageKey × PageRow)) (s t : ℕ) (key : PageKey) (row : PageRow)
    → IsSomeAnd (row_at (seen entries s) key.object.0 key.page.0) (λ was. was.frame.0 ≡ row.frame.0) → WritesEntry key (Some row) entries left
    → left ≡ set_value (same_page key) entries row → Changes key row (seen entries s) (seen left t)
changed entries left s t key row stood writes is =
    let was = held (seen entries s) key row.frame.0 stood in
    let rows = row_put entries left key (Some row) s t writes in
    let there = sym (row_entry key.object.0 key.page.0 entries) ∙ was.row in
    let frames : (f : ℕ) → owner_of (seen left t) f ≡ owner_of (seen entries s) f = λ f. rw is
    (owner_set f (same_page key) was.was row entries there was.frame) in
    record { rows = rows; frames = frames; owned = owned_changed (seen entries s) (seen left t) key was.was row rows frames was.row was.frame }

-- what a call leaves of a table where it takes out a row
pub record Takes (key : PageKey) (row : PageRow) (old new : ResidentTable) : Type 0 where
  pub rows : PutsRow key.object.0 key.page.0 None old new
  pub frames : IsOwned old → PutsOwner row.frame.0 None old new
  pub owned : IsOwned old → IsOwned new

owned_taken : (old new : ResidentTable) (key : PageKey) (was : PageRow) → PutsRow key.object.0 key.page.0 None old new → PutsOwner was.frame.0 None old new
    → row_at old key.object.0 key.page.0 ≡ Some was → IsOwned old → IsOwned new
owned_taken old new key was rows frames stood owned = record {
  at = λ o p r is. ⊎_elim
      (λ (here : is_page key o p ≡ true). absurd (none-some r (sym (rw here at (rows.at o p)) ∙ is)))
      (λ (apart : is_page key o p ≡ false).
      let led = owned.at o p r (sym (rw apart at (rows.at o p)) ∙ is) in
      let other : (was.frame.0 ≡ r.frame.0 → ⊥)
      = λ same.
      let mine : owner_of old was.frame.0 ≡ Some key = owned.at key.object.0 key.page.0 was stood in
      let one : key ≡ page_key o p = same_Some key (page_key o p) (sym mine ∙ ap (owner_of old) same ∙ led) in
      false≢true (sym apart ∙ subst (λ (z : PageKey). is_page key z.object.0 z.page.0 ≡ true) one (itself key)) in
      let no : (was.frame.0 == r.frame.0) ≡ false = grind (arith, nat_tests) in
      rw no at (frames.at r.frame.0) ∙ led)
      (cases_Bool (is_page key o p));
}

pub taken : (entries left : List (PageKey × PageRow)) (s t : ℕ) (key : PageKey) (row : PageRow) → IsDistinct same_page (keys_of entries)
    → IsDistinct same_page (keys_of left) → row_at (seen entries s) key.object.0 key.page.0 ≡ Some row
    → WritesEntry key None entries left → Takes key row (seen entries s) (seen left t)
taken entries left s t key row distinct unique stood writes =
    let rows = row_put entries left key None s t writes in
    let frames : IsOwned (seen entries s) → PutsOwner row.frame.0 None (seen entries s) (seen left t) = owner_taken entries left s t key row distinct unique
    rows stood in
    record { rows = rows; frames = frames; owned = λ owned. owned_taken (seen entries s) (seen left t) key row rows (frames owned) stood owned }

some_and : (row : Option PageRow) (has : PageRow) (f : ℕ) → row ≡ Some has → has.frame.0 ≡ f → IsSomeAnd row (λ z. z.frame.0 ≡ f)
some_and row has f is frame = rw is frame

-- the page that a frame leads to has a row with it, and where it leads to none, no row has it
pub owner_row : (entries : List (PageKey × PageRow)) (spare f : ℕ) (table : ResidentTable) (leads : Option PageKey) → seen entries spare ≡ table
    → IsDistinct same_page (keys_of entries) → leads ≡ owner_among f (pages_of entries)
    → MatchOption leads (NoRowHas table f) (λ key. IsSomeAnd (row_at table key.object.0 key.page.0) (λ row. row.frame.0 ≡ f))
owner_row entries spare f table None view unique is = λ o p row stood same. owner_none f o p row (pages_of entries) (sym is) (rw (← view) at stood) same
owner_row entries spare f table (Some key) view unique is =
    let has = owner_has f key entries unique (sym is) in
    rw (← view) (some_and (row_among key.object.0 key.page.0 (pages_of entries)) has.row f has.at has.frame)

-- so the frames lead back after each write too
pub led_inserted : (entries left : List (PageKey × PageRow)) (key : PageKey) (row : PageRow) (owners now : OwnerMap)
    → Puts key row (seen entries 0) (seen left 0) → IsLed entries owners → leads_to owners row.frame.0 ≡ None
    → ((f : ℕ) → leads_to now f ≡ (if row.frame.0 == f then Some key else leads_to owners f)) → IsLed left now
led_inserted entries left key row owners now puts led none leads =
    let free = sym (led.at row.frame.0) ∙ none in
    let frames = puts.frames free in
    record {
      owned = puts.owned led.owned free;
      at = λ f. leads f ∙ ap (λ z. if row.frame.0 == f then Some key else z) (led.at f) ∙ sym (frames.at f);
    }

pub led_changed : (entries left : List (PageKey × PageRow)) (key : PageKey) (row : PageRow) (owners : OwnerMap) → Changes key row (seen entries 0) (seen left 0)
    → IsLed entries owners → IsLed left owners
led_changed entries left key row owners changes led = record {
  owned = changes.owned led.owned;
  at = λ f. led.at f ∙ sym (changes.frames f);
}

pub led_taken : (entries left : List (PageKey × PageRow)) (key : PageKey) (row : PageRow) (owners now : OwnerMap) → Takes key row (seen entries 0) (seen left 0)
    → IsLed entries owners
    → ((f : ℕ) → leads_to now f ≡ (if row.frame.0 == f then None else leads_to owners f)) → IsLed left now
led_taken entries left key row owners now takes led leads =
    let frames = takes.frames led.owned in
    record {
      owned = takes.owned led.owned;
      at = λ f. leads f ∙ ap (λ z. if row.frame.0 == f then None else z) (led.at f) ∙ sym (frames.at f);
    }
