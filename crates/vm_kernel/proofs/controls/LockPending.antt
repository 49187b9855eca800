-- A lock request is taken at once for all pages of its range, and its host goes through them one after another: the rows as they will be, of those that it
-- hasn't come to.
use Rattle.vm_kernel.proofs.Common.{Bool, Changes, Fit, FrameNo, FrameTable, HostParts, List, None, Option, PageKey, PageRow, Queues, ResidentTable, Some}
use Rattle.vm_kernel.proofs.Common.{TakesLock, [], ap, arith, eqb_tells, false, if◌then◌else◌, inl, inr, led, local_after, local_of_row, lock_number, nat_tests}
use Rattle.vm_kernel.proofs.Common.{owner_of, refl, row_at, some_is, subst, sym, true, ℕ, suc, ◌&&◌, ◌<◌, ◌==◌, ◌||◌, ◌∙◌, ◌∷◌, ◌≡◌, ◌⊎◌}
use Rattle.std.specs.Prelude.{map, nat_le, option_map}
use Rattle.std.proofs.lemmas.Bool.{and_parts}
use Rattle.vm_base.specs.declared.ids.Lock.{Lock}
use Rattle.vm_frames.specs.Frames.{is_claimed}
use Rattle.vm_kernel.proofs.controls.UnlockAsked.{equal_of}
use Rattle.vm_queues.specs.Queues.{is_queued}
use Rattle.vm_kernel.specs.Plays.{frame_here}
use Rattle.vm_locks.specs.Requests.{lock_wanted}
use Rattle.vm_model.specs.Words.{in_range}
use Rattle.vm_parts.specs.Locks.{lock_after, lock_numbered, lock_of-prohibits}
use Rattle.vm_resident.specs.Resident.{owner_among, row_among}
use Rattle.vm_resident.specs.declared.resident_page.ResidentPage.{ResidentPage}

-- rows of a table are others
abbrev pub repaged : (ℕ → ℕ → PageRow → PageRow) → List ResidentPage → List ResidentPage
repaged f pages = map (λ (page : ResidentPage). record page { row = f page.key.object.0 page.key.page.0 page.row }) pages

abbrev pub retabled : (ℕ → ℕ → PageRow → PageRow) → ResidentTable → ResidentTable
retabled f table = record table { rows = repaged f table.rows }

pub row_repaged : (f : ℕ → ℕ → PageRow → PageRow) (table : ResidentTable) (o p : ℕ) → row_at (retabled f table) o p ≡ option_map (f o p) (row_at table o p)
row_repaged f table o p = by table.rows
  where
    by : (pages : List ResidentPage) → row_among o p (repaged f pages) ≡ option_map (f o p) (row_among o p pages)
    by [] = refl
    by (page ∷ pages) = elim (eqb_tells page.key.object.0 o) [
      | inl one ↦ elim (eqb_tells page.key.page.0 p) [
        | inl two ↦ rw (one.0, two.0) (ap (λ z. Some (f z page.key.page.0 page.row)) one.1 ∙ ap (λ z. Some (f o z page.row)) two.1)
        | inr apart ↦ rw (one.0, apart.0) (by pages)
      ]
      | inr apart ↦ rw apart.0 (by pages)
    ]

-- no frame leads elsewhere, where the rows have the same frames
pub owner_repaged : (f : ℕ → ℕ → PageRow → PageRow) (table : ResidentTable) (g : ℕ) → ((o p : ℕ) (row : PageRow) → (f o p row).frame ≡ row.frame)
    → owner_of (retabled f table) g ≡ owner_of table g
owner_repaged f table g same = by table.rows
  where
    by : (pages : List ResidentPage) → owner_among g (repaged f pages) ≡ owner_among g pages
    by [] = refl
    by (page ∷ pages) =
        ap (λ (z : FrameNo). if z.0 == g then Some page.key else owner_among g (repaged f pages)) (same page.key.object.0 page.key.page.0 page.row)
        ∙ ap (λ z. if page.row.frame.0 == g then Some page.key else z) (by pages)

pub repaged_same : (f : ℕ → ℕ → PageRow → PageRow) (table : ResidentTable) → ((o p : ℕ) (row : PageRow) → f o p row ≡ row) → retabled f table ≡ table
repaged_same f table same = ap (λ z. record table { rows = z }) (by table.rows)
  where
    by : (pages : List ResidentPage) → repaged f pages ≡ pages
    by [] = refl
    by (page ∷ pages) = ap (λ z. (record page { row = z }) ∷ repaged f pages) (same page.key.object.0 page.key.page.0 page.row) ∙ ap (λ z. page ∷ z) (by pages)

-- a row of the other table is that of a row
pub row_back : (f : ℕ → ℕ → PageRow → PageRow) (table : ResidentTable) (o p : ℕ) (now : PageRow) → row_at (retabled f table) o p ≡ Some now → (row : PageRow)
    × (row_at table o p ≡ Some row) × (now ≡ f o p row)
row_back f table o p now is = by (row_at table o p) refl (sym (row_repaged f table o p) ∙ is)
  where
    by : (x : Option PageRow) → row_at table o p ≡ x → option_map (f o p) x ≡ Some now → (row : PageRow) × (row_at table o p ≡ Some row) × (now ≡ f o p row)
    by None found same = absurd (let bad : None ≡ Some now = same in cc)
    by (Some row) found same = (row, found, some_is now (f o p row) (sym same))

-- the pages from one on to which a lock request has not come
pub record Ahead : Type 0 where
  pub object : ℕ
  pub page : ℕ
  pub count : ℕ
  pub flush : Bool
  pub lock : ℕ
  pub from : ℕ

abbrev pub is_ahead : Ahead → ℕ → ℕ → Bool
is_ahead a o p = a.object == o && (in_range p a.page a.count && nat_le a.from p)

-- a flush leaves the locks as they are
abbrev pub lock_ahead : Ahead → Option Lock
lock_ahead a = if a.flush then None else lock_wanted a.lock

-- a row as it will be
abbrev pub aimed : Ahead → PageRow → PageRow
aimed a row = record row { lock = lock_after (lock_ahead a) row.lock; unlock_sent = false }

abbrev pub pended : Ahead → ℕ → ℕ → PageRow → PageRow
pended a o p row = if row.here && is_ahead a o p then aimed a row else row

pub pended_frame : (a : Ahead) (o p : ℕ) (row : PageRow) → (pended a o p row).frame ≡ row.frame
pended_frame a o p row = by (row.here && is_ahead a o p)
  where
    by : (b : Bool) → (if b then aimed a row else row).frame ≡ row.frame
    by true = refl
    by false = refl

pub pended_here : (a : Ahead) (o p : ℕ) (row : PageRow) → (pended a o p row).here ≡ row.here
pended_here a o p row = by (row.here && is_ahead a o p)
  where
    by : (b : Bool) → (if b then aimed a row else row).here ≡ row.here
    by true = refl
    by false = refl

-- to which it has come
pub pended_behind : (a : Ahead) (o p : ℕ) (row : PageRow) → is_ahead a o p ≡ false → pended a o p row ≡ row
pended_behind a o p row behind = ap (λ b. if row.here && b then aimed a row else row) behind ∙ by row.here
  where
    by : (b : Bool) → (if b && false then aimed a row else row) ≡ row
    by true = refl
    by false = refl

pub pended_away : (a : Ahead) (o p : ℕ) (row : PageRow) → row.here ≡ false → pended a o p row ≡ row
pended_away a o p row away = ap (λ b. if b && is_ahead a o p then aimed a row else row) away

pub pended_aimed : (a : Ahead) (o p : ℕ) (row : PageRow) → row.here ≡ true → is_ahead a o p ≡ true → pended a o p row ≡ aimed a row
pended_aimed a o p row here ahead = ap (λ b. if b && is_ahead a o p then aimed a row else row) here ∙ ap (λ b. if b then aimed a row else row) ahead

-- the parts with those rows
abbrev pub pend : Ahead → HostParts → HostParts
pend a parts = record parts { resident = retabled (pended a) parts.resident }

pub fit_pended : (a : Ahead) (parts : HostParts) → Fit parts → Fit (pend a parts)
fit_pended a parts fit =
    record {
      owned = record {
        at = λ o p now is.
            let was = row_back (pended a) parts.resident o p now is in
            owner_repaged (pended a) parts.resident now.frame.0 (pended_frame a)
            ∙ (ap (λ (z : FrameNo). owner_of parts.resident z.0) (same_frame o p now was.0 was.2) ∙ fit.owned.at o p was.0 was.1);
      };
      held =
          λ o p now is. let was = row_back (pended a) parts.resident o p now is in ap (λ (z : FrameNo). is_claimed parts.frames z.0)
          (same_frame o p now was.0 was.2) ∙ fit.held o p was.0 was.1;
      listed = λ o p now is. let was = row_back (pended a) parts.resident o p now is in
          ap (λ (z : FrameNo). is_queued parts.queues z.0) (same_frame o p now was.0 was.2)
          ∙ (fit.listed o p was.0 was.1 ∙ sym (ap (λ (z : PageRow). z.here) was.2 ∙ pended_here a o p was.0));
      unlisted = λ f none. fit.unlisted f (sym (owner_repaged (pended a) parts.resident f (pended_frame a)) ∙ none);
      unowned = λ f free_now. owner_repaged (pended a) parts.resident f (pended_frame a) ∙ fit.unowned f free_now;
      inside = λ o p now is. let was = row_back (pended a) parts.resident o p now is in fit.inside o p was.0 was.1;
      all_sized = fit.all_sized;
      count = fit.count;
      pages = fit.pages;
    }
  where
    same_frame : (o p : ℕ) (now row : PageRow) → now ≡ pended a o p row → now.frame ≡ row.frame
    same_frame o p now row is = ap (λ (z : PageRow). z.frame) is ∙ pended_frame a o p row

-- what is on the lists is there still
pub frame_pended : (a : Ahead) (table : ResidentTable) (o p : ℕ) → frame_here (row_at (retabled (pended a) table) o p) ≡ frame_here (row_at table o p)
frame_pended a table o p = ap frame_here (row_repaged (pended a) table o p) ∙ by (row_at table o p)
  where
    by : (x : Option PageRow) → frame_here (option_map (pended a o p) x) ≡ frame_here x
    by None = refl
    by (Some row) =
        ap (λ b. if b then Some (pended a o p row).frame else None) (pended_here a o p row)
        ∙ ap (λ z. if row.here then Some z else None) (pended_frame a o p row)

-- a page comes to what the request makes of it: the others stay ahead, or behind

ahead_apart : (a : Ahead) (o p : ℕ) → (a.object == o && a.from == p) ≡ false → is_ahead (record a { from = suc a.from }) o p ≡ is_ahead a o p
ahead_apart a o p apart = by (a.object == o) refl
  where
    by : (b : Bool) → (a.object == o) ≡ b → (b && (in_range p a.page a.count && nat_le (suc a.from) p)) ≡ (b && (in_range p a.page a.count && nat_le a.from p))
    by false is = refl
    by true is =
        let other : (a.from == p) ≡ false = sym (ap (λ b. b && a.from == p) is) ∙ apart in
        let same : nat_le (suc a.from) p ≡ nat_le a.from p = grind (arith, nat_tests, other) in
        ap (λ b. in_range p a.page a.count && b) same

ahead_itself : (a : Ahead) (o : ℕ) → is_ahead (record a { from = suc a.from }) o a.from ≡ false
ahead_itself a o = ap (λ b. a.object == o && (in_range a.from a.page a.count && b)) low ∙ by (a.object == o) (in_range a.from a.page a.count)
  where
    low : nat_le (suc a.from) a.from ≡ false
    low = grind (arith, nat_tests)

    by : (b c : Bool) → (b && (c && false)) ≡ false
    by true true = refl
    by true false = refl
    by false c = refl

equal_page : (o p o2 p2 : ℕ) → (o == o2 && p == p2) ≡ true → p ≡ p2
equal_page o p o2 p2 is = equal_of p p2 (and_parts (o == o2) (p == p2) is).1

-- a change of a page that is next is one of its row as it will be
pub changes_pended : (a : Ahead) (key : PageKey) (row : PageRow) (now : Option PageRow) (held : Bool) (bytes : List ℕ) (lists : Queues) (old new : HostParts)
    → a.object ≡ key.object.0 → a.from ≡ key.page.0 → is_ahead a key.object.0 key.page.0 ≡ true → row.here ≡ true
    → Changes key row.frame (Some row) now held bytes lists old new
    → Changes key row.frame (Some (aimed a row)) now held bytes lists (pend a old) (pend (record a { from = suc a.from }) new)
changes_pended a key row now held bytes lists old new object page ahead here c =
    record {
      found =
          row_repaged (pended a) old.resident key.object.0 key.page.0
          ∙ (ap (option_map (pended a key.object.0 key.page.0)) c.found ∙ ap Some (pended_aimed a key.object.0 key.page.0 row here ahead));
      was_in = c.was_in;
      inside = c.inside;
      had = c.had;
      owned = owner_repaged (pended a) old.resident row.frame.0 (pended_frame a) ∙ c.owned;
      listed = c.listed;
      row = record { at = rows };
      now_in = c.now_in;
      owner = record {
        at =
            λ g. owner_repaged (pended a2) new.resident g (pended_frame a2)
            ∙ (c.owner.at g ∙ sym (ap (λ z. if row.frame.0 == g then led key now else z) (owner_repaged (pended a) old.resident g (pended_frame a))));
      };
      frames = c.frames;
      page = c.page;
      claim = c.claim;
      claims = c.claims;
      left = c.left;
      queues = c.queues;
      lists_are = c.lists_are;
    }
  where
    a2 : Ahead
    a2 = record a { from = suc a.from }

    behind : (o : ℕ) (x : Option PageRow) → option_map (pended a2 o a.from) x ≡ x
    behind o None = refl
    behind o (Some r) = ap Some (pended_behind a2 o a.from r (ahead_itself a o))

    other : (o p : ℕ) (x : Option PageRow) → (a.object == o && a.from == p) ≡ false → option_map (pended a2 o p) x ≡ option_map (pended a o p) x
    other o p None apart = refl
    other o p (Some r) apart = ap (λ b. Some (if r.here && b then aimed a r else r)) (ahead_apart a o p apart)

    by_test : (o p : ℕ) (b : Bool) → (key.object.0 == o && key.page.0 == p) ≡ b
        → option_map (pended a2 o p) (if b then now else row_at old.resident o p) ≡ (if b then now else row_at (pend a old).resident o p)
    by_test o p true is =
        let at : a.from ≡ p = page ∙ equal_page key.object.0 key.page.0 o p is in
        subst (λ (z : ℕ). option_map (pended a2 o z) now ≡ now) at (behind o now)
    by_test o p false is =
        other o p (row_at old.resident o p) (ap (λ z. z == o && a.from == p) object ∙ (ap (λ z. key.object.0 == o && z == p) page ∙ is))
        ∙ sym (row_repaged (pended a) old.resident o p)

    rows : (o p : ℕ) → row_at (pend a2 new).resident o p ≡ (if key.object.0 == o && key.page.0 == p then now else row_at (pend a old).resident o p)
    rows o p =
        row_repaged (pended a2) new.resident o p ∙ (ap (option_map (pended a2 o p)) (c.row.at o p) ∙ by_test o p (key.object.0 == o && key.page.0 == p) refl)

-- what the history has of the pages, once the request was taken

number_ahead : (flush : Bool) (lock : ℕ) (own : Lock) → (lock < 4) ⊎ (lock ≡ 8)
    → lock_number (lock_after (if flush then None else lock_wanted lock) own) ≡ (if flush || lock == 8 then lock_number own else lock)
number_ahead true lock own few = refl
number_ahead false lock own few = by (lock == 8) refl
  where
    by : (b : Bool) → (lock == 8) ≡ b → lock_number (lock_after (if b then None else Some (lock_numbered lock)) own) ≡ (if b then lock_number own else lock)
    by true is = refl
    by false is = elim few [ inl less ↦ lock_of-prohibits lock less | inr bad ↦ absurd (let no : true ≡ false = sym (ap (λ z. z == 8) bad) ∙ is in cc) ]

pub shown_pended : (size : ℕ) (a : Ahead) (fs : FrameTable) (o p : ℕ) (x : Option PageRow) (lacked : Bool) → (a.lock < 4) ⊎ (a.lock ≡ 8)
    → (if is_ahead a o p then local_after size (TakesLock a.lock a.flush) (local_of_row fs x lacked) else local_of_row fs x lacked) ≡ local_of_row fs
    (option_map (pended a o p) x) lacked
shown_pended size a fs o p None lacked few = by (is_ahead a o p)
  where
    by : (b : Bool) → (if b then local_after size (TakesLock a.lock a.flush) (local_of_row fs None lacked) else local_of_row fs None lacked) ≡ local_of_row fs
        None lacked
    by true = refl
    by false = refl
shown_pended size a fs o p (Some row) lacked few = by (is_ahead a o p) row.here refl
  where
    by : (b here : Bool) → row.here ≡ here → (if b then local_after size (TakesLock a.lock a.flush) (local_of_row fs (Some row) lacked) else local_of_row fs
        (Some row) lacked) ≡ local_of_row fs (Some (if row.here && b then aimed a row else row)) lacked
    by true true is =
        ap (λ z. if z then record (local_of_row fs (Some row) lacked) {
          lock = if a.flush || a.lock == 8 then lock_number row.lock else a.lock;
          unlocking = false;
        } else local_of_row fs (Some row) lacked) is
        ∙ (ap (λ n. record (local_of_row fs (Some row) lacked) { lock = n; unlocking = false }) (sym (number_ahead a.flush a.lock row.lock few))
        ∙ sym (ap (λ z. local_of_row fs (Some (if z && true then aimed a row else row)) lacked) is))
    by true false is =
        ap (λ z. if z then record (local_of_row fs (Some row) lacked) {
          lock = if a.flush || a.lock == 8 then lock_number row.lock else a.lock;
          unlocking = false;
        } else local_of_row fs (Some row) lacked) is
        ∙ sym (ap (λ z. local_of_row fs (Some (if z && true then aimed a row else row)) lacked) is)
    by false true is = sym (ap (λ z. local_of_row fs (Some (if z && false then aimed a row else row)) lacked) is)
    by false false is = sym (ap (λ z. local_of_row fs (Some (if z && false then aimed a row else row)) lacked) is)
