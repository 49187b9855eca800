-- A temporary region on which a task has an entry is in use on its host; so what is wanted on a host is held there.
use Rattle.std.proofs.Common.{ℕ, zero, suc, ◌≡◌, ◌+◌, ◌==◌, ◌&&◌, ◌||◌, not, ◌<◌, ◌≤◌, Bool, true, false, List, [], ◌∷◌, Option, Some, None}
use Rattle.std.proofs.Common.{if◌then◌else◌, ap, sym, refl, subst}
use Rattle.std.proofs.Common.{◌∙◌, inl, inr, arith}
use Rattle.std.proofs.lemmas.Bool.{and_from, cases_lt}
use Rattle.std.proofs.lemmas.Bool.Decides.{nat_tests}
use Rattle.vm_abroad.proofs.Home.{home_stays, home_used, on_own, same_some}
use Rattle.vm_abroad.specs.Home.{HaveHomes}
use Rattle.vm_base.specs.Entries.{entered, rewritten}
use Rattle.vm_base.specs.Limits.{most_tasks}
use Rattle.vm_base.specs.declared.entry.Entry.{Entry}
use Rattle.vm_bound.proofs.Depths.{linked}
use Rattle.vm_bound.proofs.Wanting.{Wanting, any_is, wants_is}
use Rattle.vm_bound.specs.Accesses.{is_wanted}
use Rattle.vm_flat.proofs.Held.{kept}
use Rattle.vm_legal.specs.Accesses.{At, HasPlace}
use Rattle.vm_legal.specs.Licences.{Enters, HasCause}
use Rattle.vm_legal.specs.Living.{lives_on}
use Rattle.vm_legal.specs.Outside.{Outside}
use Rattle.vm_legal.specs.Swept.{IsUnheld}
use Rattle.vm_legal.specs.Used.{in_use, is_kept}
use Rattle.vm_legal.specs.Walks.{Below, Leads, Reach}
use Rattle.vm_model.specs.Homes.{home_of}
use Rattle.vm_model.specs.Local.{is_on}
use Rattle.vm_model.specs.Moments.{EachEvent}
use Rattle.vm_model.specs.Named.{named}
use Rattle.vm_model.specs.Regions.{Backing, backing_of, next_region, region_of}
use Rattle.vm_model.specs.Rows.{AllRows, found_row, rows_entered, rows_known, rows_map, rows_rewritten}
use Rattle.vm_model.specs.Tasks.{entries_of, has_entry, host_of}
use Rattle.vm_model.specs.declared.event.Event.{Event}
use Rattle.vm_model.specs.declared.event.Event.TheVariants as event
use Rattle.vm_model.specs.declared.script.Header.{Header}
use Rattle.vm_shared.proofs.Declared.{place_from_declared}
use Rattle.vm_shared.proofs.Numbering.{numbering}

-- Entries.

-- the region was made; and a temporary one is in use on the host, which is its home
abbrev UsedOn : Header → ℕ → ℕ → List Event → Type 0
UsedOn header h r past =
    (r < next_region header past) × (named header ≤ r → (in_use header h r past ≡ true) × (home_of r past ≡ Some h))

abbrev RowsUsed : Header → ℕ → List Event → List Entry → Type 0
RowsUsed header h past rows = AllRows (λ row. UsedOn header h row.region.0 past) rows

abbrev AllUsed : Header → List Event → Type 0
AllUsed header past = (task h : ℕ) → host_of task past ≡ Some h → RowsUsed header h past (entries_of header.size task past)

-- so it is where only held regions stay in use

abbrev KeptOn : Header → ℕ → Event → ℕ → List Event → Type 0
KeptOn header h e r past =
    (r < next_region header past)
    × (named header ≤ r → ((is_kept header r (e ∷ past) && in_use header h r past) ≡ true) × (home_of r past ≡ Some h))

keep_rows : (header : Header) (e : Event) (past : List Event) (task h : ℕ) → host_of task (e ∷ past) ≡ Some h
    → RowsUsed header h past (entries_of header.size task (e ∷ past))
    → AllRows (λ row. KeptOn header h e row.region.0 past) (entries_of header.size task (e ∷ past))
keep_rows header e past task h lives all =
    rows_map (λ row. UsedOn header h row.region.0 past × (has_entry row.region.0 (entries_of header.size task (e ∷ past)) ≡ true))
    (λ row. KeptOn header h e row.region.0 past)
    (λ row is. (
      is.0.0,
      λ later. (
        and_from (is_kept header row.region.0 (e ∷ past)) (in_use header h row.region.0 past) (kept header row.region.0 task h (e ∷ past) lives is.1)
            (is.0.1 later).0,
        (is.0.1 later).1,
      ),
    ))
    (entries_of header.size task (e ∷ past)) (rows_known (λ row. UsedOn header h row.region.0 past) (entries_of header.size task (e ∷ past)) all)

-- each event that entries, or uses, feel

none_if : (b : Bool) (P : Entry → Type 0) (x h : ℕ) (was : Option ℕ) (rows : List Entry) → (if b then Some x else was) ≡ Some h
    → (was ≡ Some h → AllRows P rows) → AllRows P (if b then [] else rows)
none_if true P x h was rows lives all = tt
none_if false P x h was rows lives all = all lives

ended_if : (b : Bool) (P : Entry → Type 0) (h : ℕ) (was : Option ℕ) (rows : List Entry) → (if b then None else was) ≡ Some h
    → (was ≡ Some h → AllRows P rows) → AllRows P (if b then [] else rows)
ended_if true P h was rows lives all = tt
ended_if false P h was rows lives all = all lives

rewritten_if : (b : Bool) (header : Header) (h : ℕ) (past : List Event) (becomes : Entry → List Entry) (address bytes : ℕ) (rows : List Entry)
    → ((row : Entry) → UsedOn header h row.region.0 past → RowsUsed header h past (becomes row)) → RowsUsed header h past rows
    → RowsUsed header h past (if b then rewritten becomes header.size address bytes rows else rows)
rewritten_if true header h past becomes address bytes rows each all =
    rows_rewritten header.size (λ row. UsedOn header h row.region.0 past) becomes (λ row start end is low less high. is) each address bytes rows all
rewritten_if false header h past becomes address bytes rows each all = all

-- another region than one that is made now
not_new : (a b n : ℕ) → a < n → b ≡ n → (a == b) ≡ false
not_new a b n less is = grind (arith, nat_tests)

turned : (a b : ℕ) → (a == b) ≡ false → (b == a) ≡ false
turned a b is = grind (arith, nat_tests)

made_rows : (header : Header) (h : ℕ) (e : Event) (past : List Event) (rows : List Entry)
    → ((r : ℕ) → UsedOn header h r past → UsedOn header h r (e ∷ past)) → RowsUsed header h past rows → RowsUsed header h (e ∷ past) rows
made_rows header h e past rows each all =
    rows_map (λ row. UsedOn header h row.region.0 past) (λ row. UsedOn header h row.region.0 (e ∷ past)) (λ row is. each row.region.0 is) rows all

-- an entry that comes leaves its region in use on the host of the task, where it was

lives_here : (task h : ℕ) (past : List Event) → host_of task past ≡ Some h → lives_on h task past ≡ true
lives_here task h past lives = ap (is_on h) lives ∙ on_own h

or_not : (same lives : Bool) → (same ≡ true → lives ≡ true) → (not same || lives) ≡ true
or_not true lives is = is refl
or_not false lives is = refl

entered_old : (header : Header) (e : Event) (task bytes region offset h r : ℕ) (past : List Event) → HaveHomes header past
    → Enters header task bytes region offset past → (named header ≤ r → (in_use header h r past ≡ true) × (home_of r past ≡ Some h)) → named header ≤ r
    → ((not (r == region) || lives_on h task past) && in_use header h r past) ≡ true
entered_old header e task bytes region offset h r past homes c is later =
    and_from (not (r == region) || lives_on h task past) (in_use header h r past)
    (or_not (r == region) (lives_on h task past)
    (λ same. let region_is : r ≡ region = grind (arith, nat_tests) in
    let used : in_use header c.host r past ≡ true =
    subst (λ (k : ℕ). in_use header c.host k past ≡ true) (sym region_is) (c.used (omega (arith, later, region_is))) in
    let host_is : c.host ≡ h = homes.stay c.host h r used (is later).1 in
    lives_here task h past (c.lives ∙ ap Some host_is))) (is later).0

entered_row : (b : Bool) (P : Entry → Type 0) (new : Entry) (rows : List Entry) → (b ≡ true → P new) → AllRows P rows
    → AllRows P (if b then entered new rows else rows)
entered_row true P new rows is all = rows_entered P new rows (is refl) all
entered_row false P new rows is all = all

used_next : (header : Header) (outside : Outside) (e : Event) (past : List Event) → HasCause header outside e past → HaveHomes header past
    → AllUsed header past → AllUsed header (e ∷ past)
used_next header outside (event.TaskMade made at) past c homes all task h lives =
    none_if (made.0 == task) _ at.0 h (host_of task past) (entries_of header.size task past) lives (all task h)
used_next header outside (event.TaskEnded gone) past c homes all task h lives =
    keep_rows header (event.TaskEnded gone) past task h lives
    (ended_if (gone.0 == task) (λ row. UsedOn header h row.region.0 past) h (host_of task past) (entries_of header.size task past) lives (all task h))
used_next header outside (event.Failed owner object page) past c homes all task h lives =
    keep_rows header (event.Failed owner object page) past task h lives (all task h lives)
used_next header outside (event.Removed owner address bytes) past c homes all task h lives =
    keep_rows header (event.Removed owner address bytes) past task h lives
    (rewritten_if (owner.0 == task) header h past (λ row. []) address bytes (entries_of header.size task past) (λ row is. tt) (all task h lives))
used_next header outside (event.Protected owner address bytes prot) past c homes all task h lives =
    rewritten_if (owner.0 == task) header h past (λ row. record row { prot = prot } ∷ []) address bytes (entries_of header.size task past)
    (λ row is. (is, tt)) (all task h lives)
used_next header outside (event.Inherited owner address bytes inherit) past c homes all task h lives =
    rewritten_if (owner.0 == task) header h past (λ row. record row { inherit = inherit } ∷ []) address bytes (entries_of header.size task past)
    (λ row is. (is, tt)) (all task h lives)
used_next header outside (event.RegionMade region object pages) past c homes all task h lives =
    made_rows header h (event.RegionMade region object pages) past (entries_of header.size task past)
    (λ r is. let other = not_new r region.0 (next_region header past) is.0 c.1.0 in (
      omega (arith, is.0),
      λ later. (rw other (is.1 later).0, rw (turned r region.0 other) (is.1 later).1),
    )) (all task h lives)
used_next header outside (event.RegionCopied region source offset pages) past c homes all task h lives =
    made_rows header h (event.RegionCopied region source offset pages) past (entries_of header.size task past)
    (λ r is. let other = not_new r region.0 (next_region header past) is.0 c.1.next in (
      omega (arith, is.0),
      λ later. (rw other (is.1 later).0, (is.1 later).1),
    ))
    (all task h lives)
used_next header outside (event.Delayed region source offset pages copy) past c homes all task h lives =
    made_rows header h (event.Delayed region source offset pages copy) past (entries_of header.size task past)
    (λ r is. let other = not_new r region.0 (next_region header past) is.0 c.1.next in (
      omega (arith, is.0),
      λ later. (rw other (is.1 later).0, (is.1 later).1),
    ))
    (all task h lives)
used_next header outside (event.Entered owner address bytes region offset prot inherit) past c homes all task h lives =
    entered_row (owner.0 == task) (λ row. UsedOn header h row.region.0 (e ∷ past))
    (record { address = address; bytes = bytes; region = region; offset = offset; prot = prot; inherit = inherit }) (entries_of header.size task past) new
    (made_rows header h e past (entries_of header.size task past)
    (λ r is. (
      is.0,
      λ later. (
        entered_old header e owner.0 bytes region.0 offset h r past homes c.1 is.1 later,
        home_stays r h e past (is.1 later).1,
      ),
    )) (all task h lives))
  where
    e : Event
    e = event.Entered owner address bytes region offset prot inherit

    new : (owner.0 == task) ≡ true → UsedOn header h region.0 (e ∷ past)
    new own =
        let task_is : owner.0 ≡ task = grind (arith, nat_tests) in
        let here : host_of owner.0 past ≡ Some h = subst (λ (k : ℕ). host_of k past ≡ Some h) (sym task_is) lives in
        let host_is : c.1.host ≡ h = same_some c.1.host h (sym c.1.lives ∙ here) in (
          c.1.made,
          λ later. let used : in_use header h region.0 past ≡ true = subst (λ (k : ℕ). in_use header k region.0 past ≡ true) host_is (c.1.used later) in (
            and_from (not (region.0 == region.0) || lives_on h owner.0 past) (in_use header h region.0 past)
                (or_not (region.0 == region.0) (lives_on h owner.0 past) (λ same. lives_here owner.0 h past here)) used,
            home_used header h owner address bytes region offset prot inherit past homes used here,
          ),
        )
used_next header outside e past c homes all task h lives = all task h lives

all_used : (header : Header) (outside : Outside) (past : List Event) → EachEvent (HasCause header outside) past → AllUsed header past
all_used header outside [] caused task h lives = tt
all_used header outside (e ∷ past) caused task h lives =
    used_next header outside e past caused.0 (linked header outside past caused.1).homes (all_used header outside past caused.1) task h lives

-- a temporary region to which an address leads is in use on the host of the task
pub entry_used : (header : Header) (outside : Outside) (task address : ℕ) (past : List Event) → EachEvent (HasCause header outside) past
    → (at : At header task address past) → named header ≤ at.entry.region.0 → in_use header at.host at.entry.region.0 past ≡ true
entry_used header outside task address past caused at later =
    ((found_row (λ row. UsedOn header at.host row.region.0 past) address (entries_of header.size task past) at.entry
    (all_used header outside past caused task at.host at.lives) at.found).is.1 later).0

-- What is wanted on a host is held there: a region in use leads to it, or, of a declared object, an entry does.

trivial : (rows : List Entry) → AllRows (λ row. Unit {0}) rows
trivial [] = tt
trivial (row ∷ rows) = (tt, trivial rows)

entry_has : (header : Header) (task address : ℕ) (past : List Event) → (at : At header task address past)
    → has_entry at.entry.region.0 (entries_of header.size task past) ≡ true
entry_has header task address past at =
    (found_row (λ row. Unit {0} × (has_entry row.region.0 (entries_of header.size task past) ≡ true)) address (entries_of header.size task past) at.entry
    (rows_known (λ row. Unit {0}) (entries_of header.size task past) (trivial (entries_of header.size task past))) at.found).is.1

leads_below : (backings : ℕ → Backing) (n a b o p : ℕ) → Leads backings n a b o p → Below backings n a o
leads_below backings zero a b o p leads = leads.0
leads_below backings (suc n) a b o p leads = (leads.0, leads_below backings n (backings a).under ((backings a).shift + b) o p leads.1)

place_below : (header : Header) (r page o p : ℕ) (past : List Event) → (place : HasPlace header r page o p past)
    → Below (λ k. backing_of header k past) place.steps (region_of header r past).top o
place_below header r page o p past place =
    subst (λ (k : ℕ). Below (λ k. backing_of header k past) place.steps k o) (sym place.is_top.object)
    (leads_below (λ k. backing_of header k past) place.steps place.top place.top_page o p place.leads)

wanting_of : (header : Header) (h o p : ℕ) (past : List Event) → is_wanted header h o p past ≡ true
    → (task : ℕ) × Wanting header (λ access. true) task h o p past
wanting_of header h o p past wanted =
    let it = any_is header (λ access. true) most_tasks h o p past wanted in
    (it.0, wants_is header (λ access. true) it.0 h o p past it.2)

pub wanted_reached : (header : Header) (outside : Outside) (h o p : ℕ) (past : List Event) → EachEvent (HasCause header outside) past
    → is_wanted header h o p past ≡ true → named header ≤ o → Reach header h o past
wanted_reached header outside h o p past caused wanted later = by (wanting_of header h o p past wanted)
  where
    by : (task : ℕ) × Wanting header (λ access. true) task h o p past → Reach header h o past
    by (task, w) = elim (cases_lt w.waits.at.entry.region.0 (named header)) [
      | inl small ↦
          let own = place_from_declared header past w.waits.at.entry.region.0 _ o p (numbering header outside past caused).numbered small w.place in
          absurd (omega (arith, small, own.region, later))
      | inr high ↦
          let used = entry_used header outside task _ past caused w.waits.at high in (
            w.waits.at.entry.region.0,
            w.place.steps,
            subst (λ (k : ℕ). in_use header k w.waits.at.entry.region.0 past ≡ true) w.on_host used,
            place_below header w.waits.at.entry.region.0 _ o p past w.place,
          )
    ]

pub wanted_held : (header : Header) (outside : Outside) (h o p : ℕ) (past : List Event) → EachEvent (HasCause header outside) past
    → is_wanted header h o p past ≡ true → IsUnheld header h o past → ⊥
wanted_held header outside h o p past caused wanted unheld = by (wanting_of header h o p past wanted)
  where
    clash : (b : Bool) → b ≡ true → b ≡ false → ⊥
    clash b is isnt = cc

    by : (task : ℕ) × Wanting header (λ access. true) task h o p past → ⊥
    by (task, w) = elim (cases_lt w.waits.at.entry.region.0 (named header)) [
      | inl small ↦
          let own = place_from_declared header past w.waits.at.entry.region.0 _ o p (numbering header outside past caused).numbered small w.place in
          let lives = lives_here task h past (w.waits.at.lives ∙ ap Some w.on_host) in
          clash (has_entry o (entries_of header.size task past))
          (subst (λ (k : ℕ). has_entry k (entries_of header.size task past) ≡ true) own.region (entry_has header task _ past w.waits.at))
          (unheld.unmapped task lives)
      | inr high ↦
          let used = entry_used header outside task _ past caused w.waits.at high in
          unheld.unreached w.waits.at.entry.region.0 w.place.steps high
          (subst (λ (k : ℕ). in_use header k w.waits.at.entry.region.0 past ≡ true) w.on_host used)
          (place_below header w.waits.at.entry.region.0 _ o p past w.place)
    ]
