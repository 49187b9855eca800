-- What the merge of an object's pages comes to in the tables of its host.
use Rattle.std.proofs.Common.{length-set}
use Rattle.std.proofs.Common.{◌≡◌, ◌∙◌, ℕ, suc, zero, ◌+◌, ◌<◌, ◌≤◌, ◌==◌, ◌&&◌, Bool, true, false, not, Option, Some, None, ap, arith, inl, inr, refl, subst}
use Rattle.std.proofs.Common.{sym}
use Rattle.std.proofs.lemmas.Bool.{cases_lt}
use Rattle.std.proofs.lemmas.Bool.Decides.{eqb_tells, nat_tests}
use Rattle.std.specs.Prelude.{IsSome, ◌-◌, if◌then◌else◌, length, nat_lt}
use Rattle.vm_base.specs.declared.ids.FrameNo.{FrameNo}
use Rattle.vm_base.specs.declared.ids.ObjectId.{ObjectId}
use Rattle.vm_base.specs.declared.ids.PageKey.{PageKey}
use Rattle.vm_base.specs.declared.ids.PageNo.{PageNo}
use Rattle.vm_frames.specs.Frames.{FrameTable, claimed, frame_count, is_claimed, page_in}
use Rattle.vm_legal.specs.Frames.{pages_gone}
use Rattle.vm_model.specs.Local.{moves_up}
use Rattle.vm_parts.proofs.Merging.{left_of, lower_rows}
use Rattle.vm_parts.proofs.Rows.{some_is}
use Rattle.vm_parts.specs.Changes.{Discards, ShiftsPage, is_here}
use Rattle.vm_parts.specs.Merging.{Goes, MovesUp, Next, NoMore, PageMerges, PagesMerge}
use Rattle.vm_parts.specs.declared.parts.HostParts.{HostParts}
use Rattle.vm_resident.specs.Resident.{IsOwned, ResidentTable, owner_of, page_key, row_at}
use Rattle.vm_resident.specs.declared.page_row.PageRow.{PageRow}
use Rattle.vm_state.proofs.Fresh.{other_test, same_test}
use Rattle.vm_state.proofs.MergedPages.{AreHere}
use Rattle.vm_state.specs.Merging.{MergesRows, its_own_or}
use Rattle.vm_state.specs.Stands.{IsWashed}

-- the row of the lower's page under a page of the upper
abbrev under_row : ResidentTable → ℕ → ℕ → ℕ → ℕ → Option PageRow
under_row rs lower shift pages p = if nat_lt p pages then row_at rs lower (shift + p) else None

-- one page of the lower moves up, or goes: a page of the upper has its own row or that of the page under it, as before
pub record OneMerges (upper lower shift pages page : ℕ) (old new : ResidentTable) : Type 0 where
  pub low : (p : ℕ) → row_at new lower p ≡ (if page == p then None else row_at old lower p)
  pub up : (p : ℕ) → its_own_or (row_at new upper p) (under_row new lower shift pages p) ≡ its_own_or (row_at old upper p) (under_row old lower shift pages p)
  pub others : (o p : ℕ) → (upper ≡ o → ⊥) → (lower ≡ o → ⊥) → row_at new o p ≡ row_at old o p

own_some : (own under under2 : Option PageRow) → IsSome own → its_own_or own under ≡ its_own_or own under2
own_some None under under2 some = absurd (let bad : false ≡ true = some in cc)
own_some (Some own) under under2 some = refl

moved_row : (upper lower : ObjectId) (page to : PageNo) (row : PageRow) (old new : HostParts) → (upper.0 ≡ lower.0 → ⊥)
    → ShiftsPage (record { object = lower; page = page }) (record { object = upper; page = to }) row old new
    → (p : ℕ) → row_at new.resident upper.0 p ≡ (if to.0 == p then Some row else row_at old.resident upper.0 p)
moved_row upper lower page to row old new apart shifts p =
    shifts.rows upper.0 p
    ∙ (ap (λ b. if b && to.0 == p then Some row else (if lower.0 == upper.0 && page.0 == p then None else row_at old.resident upper.0 p))
    (same_test upper.0 upper.0 refl)
    ∙ ap (λ b. if to.0 == p then Some row else (if b && page.0 == p then None else row_at old.resident upper.0 p))
    (other_test lower.0 upper.0 (λ same. apart (sym same))))

moved_up : (upper lower : ObjectId) (shift pages : ℕ) (page to : PageNo) (row : PageRow) (old new : HostParts) → (upper.0 ≡ lower.0 → ⊥)
    → page.0 ≡ shift + to.0 → to.0 < pages → ShiftsPage (record { object = lower; page = page }) (record { object = upper; page = to }) row old new
    → OneMerges upper.0 lower.0 shift pages page.0 old.resident new.resident
moved_up upper lower shift pages page to row old new apart is less shifts =
    let low_row = lower_rows upper lower shift pages page row old new apart (MovesUp to is less shifts) in
    record {
      low = low_row;
      up = λ p. elim (eqb_tells to.0 p) [
        | inl same ↦
            ap (λ x. its_own_or x (under_row new.resident lower.0 shift pages p))
            (up_row p ∙ ap (λ b. if b then Some row else row_at old.resident upper.0 p) same.0)
            ∙ sym (ap (λ x. its_own_or x (under_row old.resident lower.0 shift pages p)) (subst (λ (z : ℕ). row_at old.resident upper.0 z ≡ None) same.1
            shifts.vacant)
            ∙ (ap (λ b. if b then row_at old.resident lower.0 (shift + p) else None) (below p (subst (λ (z : ℕ). z < pages) same.1 less))
            ∙ (ap (row_at old.resident lower.0) (let equal = same.1 in omega (arith, equal, is)) ∙ shifts.found)))
        | inr other ↦
            ap (λ x. its_own_or x (under_row new.resident lower.0 shift pages p))
            (up_row p ∙ ap (λ b. if b then Some row else row_at old.resident upper.0 p) other.0)
            ∙ ap (λ x. its_own_or (row_at old.resident upper.0 p) (if nat_lt p pages then x else None))
            (low_row (shift + p) ∙ ap (λ b. if b then None else row_at old.resident lower.0 (shift + p))
            (other_test page.0 (shift + p) (λ same. other.1 (omega (arith, same, is)))))
      ];
      others = λ o p above below.
          shifts.rows o p
          ∙ (ap (λ b. if b && to.0 == p then Some row else (if lower.0 == o && page.0 == p then None else row_at old.resident o p)) (other_test upper.0 o above)
          ∙ ap (λ b. if b && page.0 == p then None else row_at old.resident o p) (other_test lower.0 o below));
    }
  where
    below : (p : ℕ) → p < pages → nat_lt p pages ≡ true
    below p small = grind (arith, nat_tests, small)

    up_row : (p : ℕ) → row_at new.resident upper.0 p ≡ (if to.0 == p then Some row else row_at old.resident upper.0 p)
    up_row p = moved_row upper lower page to row old new apart shifts p

gone_away : (upper lower : ObjectId) (shift pages : ℕ) (page : PageNo) (row : PageRow) (old new : HostParts) → (upper.0 ≡ lower.0 → ⊥)
    → ((p : ℕ) → page.0 ≡ shift + p → p < pages → IsSome (row_at old.resident upper.0 p)) → Discards (record { object = lower; page = page }) row old new
    → OneMerges upper.0 lower.0 shift pages page.0 old.resident new.resident
gone_away upper lower shift pages page row old new apart why discards =
    let low_row = lower_rows upper lower shift pages page row old new apart (Goes why discards) in
    record {
      low = low_row;
      up = λ p. ap (λ x. its_own_or x (under_row new.resident lower.0 shift pages p)) (up_row p) ∙ elim (cases_lt p pages) [
        | inl inside ↦ elim (eqb_tells page.0 (shift + p)) [
          | inl same ↦ own_some (row_at old.resident upper.0 p) _ _ (why p same.1 inside)
          | inr other ↦
              ap (λ x. its_own_or (row_at old.resident upper.0 p) (if nat_lt p pages then x else None))
              (low_row (shift + p) ∙ ap (λ b. if b then None else row_at old.resident lower.0 (shift + p)) other.0)
        ]
        | inr outside ↦
            let off : nat_lt p pages ≡ false = grind (arith, nat_tests, outside) in
            ap (λ b. its_own_or (row_at old.resident upper.0 p) (if b then row_at new.resident lower.0 (shift + p) else None)) off
            ∙ sym (ap (λ b. its_own_or (row_at old.resident upper.0 p) (if b then row_at old.resident lower.0 (shift + p) else None)) off)
      ];
      others = λ o p above below. discards.row.at o p ∙ ap (λ b. if b && page.0 == p then None else row_at old.resident o p) (other_test lower.0 o below);
    }
  where
    up_row : (p : ℕ) → row_at new.resident upper.0 p ≡ row_at old.resident upper.0 p
    up_row p =
        discards.row.at upper.0 p
        ∙ ap (λ b. if b && page.0 == p then None else row_at old.resident upper.0 p) (other_test lower.0 upper.0 (λ same. apart (sym same)))

pub one_merges : (upper lower : ObjectId) (shift pages : ℕ) (page : PageNo) (row : PageRow) (old new : HostParts) → (upper.0 ≡ lower.0 → ⊥)
    → PageMerges upper shift pages (record { object = lower; page = page }) row old new
    → OneMerges upper.0 lower.0 shift pages page.0 old.resident new.resident
one_merges upper lower shift pages page row old new apart (MovesUp to is less shifts) =
    moved_up upper lower shift pages page to row old new apart is less shifts
one_merges upper lower shift pages page row old new apart (Goes why discards) = gone_away upper lower shift pages page row old new apart why discards

-- and all of them, once none of the lower's pages has a row in front

own_alone : (own : Option PageRow) → its_own_or own None ≡ own
own_alone None = refl
own_alone (Some own) = refl

either_same : {A : Type 0} (b : Bool) (x : A) → (if b then x else x) ≡ x
either_same true x = refl
either_same false x = refl

-- a page's row is the upper's, the lower's or another's
rows_by : {A : Type 0} (upper lower o : ℕ) (found above below other : A) → (upper ≡ o → found ≡ above) → ((upper ≡ o → ⊥) → lower ≡ o → found ≡ below)
    → ((upper ≡ o → ⊥) → (lower ≡ o → ⊥) → found ≡ other) → found ≡ (if upper == o then above else (if lower == o then below else other))
rows_by upper lower o found above below other up low off_both = elim (eqb_tells upper o) [
  | inl same ↦ up same.1 ∙ sym (ap (λ b. if b then above else (if lower == o then below else other)) same.0)
  | inr apart ↦ elim (eqb_tells lower o) [
    | inl same ↦
        low apart.1 same.1
        ∙ sym (ap (λ b. if b then above else (if lower == o then below else other)) apart.0 ∙ ap (λ b. if b then below else other) same.0)
    | inr off ↦
        off_both apart.1 off.1
        ∙ sym (ap (λ b. if b then above else (if lower == o then below else other)) apart.0 ∙ ap (λ b. if b then below else other) off.0)
  ]
]

-- what has become of the tables behind the merge of all pages of an object
pub record PagesMerged (upper lower shift pages : ℕ) (old new : HostParts) : Type 0 where
  pub rows : MergesRows upper lower shift pages old.resident new.resident
  pub bytes : (g : ℕ) → page_in new.frames g ≡ page_in old.frames g
  pub many : frame_count new.frames ≡ frame_count old.frames
  pub wired : new.frames.wired ≡ old.frames.wired

-- the frames keep their bytes, are as many and as many are wired
record SameFrames (old new : FrameTable) : Type 0 where
  pub bytes : (g : ℕ) → page_in new g ≡ page_in old g
  pub many : frame_count new ≡ frame_count old
  pub wired : new.wired ≡ old.wired

one_frames : (upper lower : ObjectId) (shift pages : ℕ) (page : PageNo) (row : PageRow) (old new : HostParts)
    → PageMerges upper shift pages (record { object = lower; page = page }) row old new → SameFrames old.frames new.frames
one_frames upper lower shift pages page row old new (MovesUp to is less shifts) =
    record { bytes = λ g. ap (λ z. page_in z g) shifts.frames; many = ap frame_count shifts.frames; wired = ap (λ (z : FrameTable). z.wired) shifts.frames }
one_frames upper lower shift pages page row old new (Goes why discards) =
    record {
      bytes = λ g. discards.page.at g ∙ elim (eqb_tells row.frame.0 g) [
        | inl same ↦
            ap (λ b. if b then page_in old.frames row.frame.0 else page_in old.frames g) same.0 ∙ ap (page_in old.frames) same.1
        | inr other ↦ ap (λ b. if b then page_in old.frames row.frame.0 else page_in old.frames g) other.0
      ];
      many = ap (λ (z : FrameTable). length z.claims) discards.frames ∙ length-set old.frames.claims row.frame.0 false;
      wired = ap (λ (z : FrameTable). z.wired) discards.frames;
    }

none_merged : (upper lower : ObjectId) (shift pages : ℕ) (s : HostParts) → ((p : ℕ) → row_at s.resident lower.0 p ≡ None)
    → PagesMerged upper.0 lower.0 shift pages s s
none_merged upper lower shift pages s empty =
    record {
      rows = record {
        at = λ o p. rows_by upper.0 lower.0 o (row_at s.resident o p)
            (its_own_or (row_at s.resident upper.0 p) (under_row s.resident lower.0 shift pages p)) None (row_at s.resident o p)
            (λ same.
            ap (λ z. row_at s.resident z p) (sym same)
            ∙ sym (ap (its_own_or (row_at s.resident upper.0 p)) (ap (λ x. if nat_lt p pages then x else None) (empty (shift + p))
            ∙ either_same (nat_lt p pages) None) ∙ own_alone (row_at s.resident upper.0 p)))
            (λ above same. ap (λ z. row_at s.resident z p) (sym same) ∙ empty p)
            (λ above below. refl);
      };
      bytes = λ g. refl;
      many = refl;
      wired = refl;
    }

next_merged : (upper lower : ObjectId) (shift pages : ℕ) (page : PageNo) (row : PageRow) (old mid new : HostParts) → (upper.0 ≡ lower.0 → ⊥)
    → PageMerges upper shift pages (record { object = lower; page = page }) row old mid → PagesMerged upper.0 lower.0 shift pages mid new
    → PagesMerged upper.0 lower.0 shift pages old new
next_merged upper lower shift pages page row old mid new apart merges all =
    record {
      rows = record {
        at = λ o p. rows_by upper.0 lower.0 o (row_at new.resident o p)
            (its_own_or (row_at old.resident upper.0 p) (under_row old.resident lower.0 shift pages p)) None (row_at old.resident o p)
            (λ same. behind o p ∙ (ap (λ b. if b then above_mid p else (if lower.0 == o then None else row_at mid.resident o p)) (same_test upper.0 o same)
            ∙ one.up p))
            (λ above same.
            behind o p
            ∙ (ap (λ b. if b then above_mid p else (if lower.0 == o then None else row_at mid.resident o p)) (other_test upper.0 o above)
            ∙ ap (λ b. if b then None else row_at mid.resident o p) (same_test lower.0 o same)))
            (λ above below.
            behind o p
            ∙ (ap (λ b. if b then above_mid p else (if lower.0 == o then None else row_at mid.resident o p)) (other_test upper.0 o above)
            ∙ (ap (λ b. if b then None else row_at mid.resident o p) (other_test lower.0 o below) ∙ one.others o p above below)));
      };
      bytes = λ g. all.bytes g ∙ same.bytes g;
      many = all.many ∙ same.many;
      wired = all.wired ∙ same.wired;
    }
  where
    one : OneMerges upper.0 lower.0 shift pages page.0 old.resident mid.resident
    one = one_merges upper lower shift pages page row old mid apart merges

    same : SameFrames old.frames mid.frames
    same = one_frames upper lower shift pages page row old mid merges

    above_mid : ℕ → Option PageRow
    above_mid p = its_own_or (row_at mid.resident upper.0 p) (under_row mid.resident lower.0 shift pages p)

    behind : (o p : ℕ) → row_at new.resident o p ≡ (if upper.0 == o then above_mid p else (if lower.0 == o then None else row_at mid.resident o p))
    behind o p = all.rows.at o p

-- none of the lower's pages up to the one that is merged has a row
clear_next : (upper lower : ObjectId) (shift pages from : ℕ) (page : PageNo) (row : PageRow) (old mid : HostParts) → (upper.0 ≡ lower.0 → ⊥)
    → ((p : ℕ) → p < from → row_at old.resident lower.0 p ≡ None) → ((p : ℕ) → from ≤ p → p < page.0 → row_at old.resident lower.0 p ≡ None)
    → PageMerges upper shift pages (record { object = lower; page = page }) row old mid → (p : ℕ) → p < page.0 + 1 → row_at mid.resident lower.0 p ≡ None
clear_next upper lower shift pages from page row old mid apart clear none merges p small =
    (one_merges upper lower shift pages page row old mid apart merges).low p
    ∙ elim (eqb_tells page.0 p) [
      | inl is ↦ ap (λ b. if b then None else row_at old.resident lower.0 p) is.0
      | inr other ↦
          ap (λ b. if b then None else row_at old.resident lower.0 p) other.0
          ∙ elim (cases_lt p from) [
            | inl below ↦ clear p below
            | inr high ↦ none p high (elim (cases_lt p page.0) [ inl less ↦ less | inr more ↦ absurd (other.1 (omega (arith, more, small))) ])
          ]
    ]

pub tables_merged : (upper lower : ObjectId) (shift pages from : ℕ) (old new : HostParts) → (upper.0 ≡ lower.0 → ⊥)
    → ((p : ℕ) → p < from → row_at old.resident lower.0 p ≡ None) → PagesMerge upper lower shift pages from old new
    → PagesMerged upper.0 lower.0 shift pages old new
tables_merged upper lower shift pages from old new apart clear (NoMore _ _ none) =
    none_merged upper lower shift pages old (λ p. elim (cases_lt p from) [ inl small ↦ clear p small | inr high ↦ none p high ])
tables_merged upper lower shift pages from old new apart clear (Next _ page row _ mid _ least none found objects merges rest) =
    next_merged upper lower shift pages page row old mid new apart merges
    (tables_merged upper lower shift pages (page.0 + 1) mid new apart (clear_next upper lower shift pages from page row old mid apart clear none merges) rest)

-- how many frames go free

-- a page of the lower is here, and doesn't move up
abbrev stays_below : (ℕ → ℕ → Bool) → ℕ → ℕ → ℕ → ℕ → ℕ → Bool
stays_below here upper lower shift pages k = here lower k && not (moves_up here upper shift pages k)

gone_same : (a b : ℕ → ℕ → Bool) (upper lower shift pages n : ℕ)
    → ((k : ℕ) → k < n → stays_below a upper lower shift pages k ≡ stays_below b upper lower shift pages k)
    → pages_gone a upper lower shift pages n ≡ pages_gone b upper lower shift pages n
gone_same a b upper lower shift pages zero same = refl
gone_same a b upper lower shift pages (suc n) same =
    ap (λ t. if t then pages_gone a upper lower shift pages n + 1 else pages_gone a upper lower shift pages n) (same n (omega arith))
    ∙ ap (λ g. if stays_below b upper lower shift pages n then g + 1 else g) (gone_same a b upper lower shift pages n
    (λ k small. same k (omega (arith, small))))

gone_less : (a b : ℕ → ℕ → Bool) (upper lower shift pages n k : ℕ) → k < n → stays_below a upper lower shift pages k ≡ true
    → stays_below b upper lower shift pages k ≡ false
    → ((j : ℕ) → (k ≡ j → ⊥) → stays_below a upper lower shift pages j ≡ stays_below b upper lower shift pages j)
    → pages_gone a upper lower shift pages n ≡ pages_gone b upper lower shift pages n + 1
gone_less a b upper lower shift pages zero k small stays gone same = absurd (omega (arith, small))
gone_less a b upper lower shift pages (suc n) k small stays gone same = elim (eqb_tells k n) [
  | inl is ↦
      ap (λ t. if t then pages_gone a upper lower shift pages n + 1 else pages_gone a upper lower shift pages n)
      (ap (stays_below a upper lower shift pages) (sym is.1) ∙ stays)
      ∙ (ap (λ g. g + 1) (gone_same a b upper lower shift pages n (λ j less. same j (λ e. let equal = is.1 in omega (arith, e, equal, less))))
      ∙ sym (ap (λ t. (if t then pages_gone b upper lower shift pages n + 1 else pages_gone b upper lower shift pages n) + 1)
      (ap (stays_below b upper lower shift pages) (sym is.1) ∙ gone)))
  | inr other ↦
      ap (λ t. if t then pages_gone a upper lower shift pages n + 1 else pages_gone a upper lower shift pages n) (same n other.1)
      ∙ one_more _ _ (stays_below b upper lower shift pages n) (gone_less a b upper lower shift pages n k
      (elim (cases_lt k n) [ inl less ↦ less | inr more ↦ absurd (other.1 (omega (arith, more, small))) ]) stays gone same)
]
  where
    one_more : (x y : ℕ) (b : Bool) → x ≡ y + 1 → (if b then x + 1 else x) ≡ (if b then y + 1 else y) + 1
    one_more x y true is = ap (λ z. z + 1) is
    one_more x y false is = is

gone_none : (a : ℕ → ℕ → Bool) (upper lower shift pages n : ℕ) → ((k : ℕ) → a lower k ≡ false) → pages_gone a upper lower shift pages n ≡ 0
gone_none a upper lower shift pages zero none = refl
gone_none a upper lower shift pages (suc n) none =
    ap (λ t. if t && not (moves_up a upper shift pages n) then pages_gone a upper lower shift pages n + 1 else pages_gone a upper lower shift pages n) (none n)
    ∙ gone_none a upper lower shift pages n none

-- which pages have a row that is here
abbrev pub here_at : ResidentTable → ℕ → ℕ → Bool
here_at rs o p = is_here (row_at rs o p)

is_here_some : (x : Option PageRow) → IsSome x → ((row : PageRow) → x ≡ Some row → row.here ≡ true) → is_here x ≡ true
is_here_some None some here = absurd (let bad : false ≡ true = some in cc)
is_here_some (Some row) some here = here row refl

-- what moves up is here, and the upper has room for it
moving : (high inside held : Bool) → high ≡ false → inside ≡ true → held ≡ false → (true && not (not high && (inside && not held))) ≡ false
moving high inside held a b c = rw (a, b, c) refl

-- what goes is here, and lies outside the upper or is there too
going : (low inside held : Bool) → (low ≡ false → inside ≡ true → held ≡ true) → (true && not (not low && (inside && not held))) ≡ true
going true inside held known = refl
going false false held known = refl
going false true held known = rw (known refl refl) refl

-- in front of the shift nothing moves up
in_front : (here low a b : Bool) → low ≡ true → (here && not (not low && a)) ≡ (here && not (not low && b))
in_front here low a b is = rw is refl

one_claims : (upper lower : ObjectId) (shift pages : ℕ) (page : PageNo) (row : PageRow) (old new : HostParts) (n : ℕ) → (upper.0 ≡ lower.0 → ⊥)
    → AreHere old.resident upper.0 lower.0 → page.0 < n → PageMerges upper shift pages (record { object = lower; page = page }) row old new
    → claimed new.frames + pages_gone (here_at old.resident) upper.0 lower.0 shift pages n
    ≡ claimed old.frames + pages_gone (here_at new.resident) upper.0 lower.0 shift pages n
one_claims upper lower shift pages page row old new n apart here small (MovesUp to is less shifts) =
    ap (λ z. claimed z + pages_gone (here_at old.resident) upper.0 lower.0 shift pages n) shifts.frames
    ∙ ap (λ z. claimed old.frames + z) (gone_same (here_at old.resident) (here_at new.resident) upper.0 lower.0 shift pages n (λ k below. test k))
  where
    one : OneMerges upper.0 lower.0 shift pages page.0 old.resident new.resident
    one = moved_up upper lower shift pages page to row old new apart is less shifts

    other_up : (q : ℕ) → (to.0 ≡ q → ⊥) → here_at new.resident upper.0 q ≡ here_at old.resident upper.0 q
    other_up q off =
        ap is_here (moved_row upper lower page to row old new apart shifts q
        ∙ ap (λ b. if b then Some row else row_at old.resident upper.0 q) (other_test to.0 q off))

    test : (k : ℕ) → stays_below (here_at old.resident) upper.0 lower.0 shift pages k ≡ stays_below (here_at new.resident) upper.0 lower.0 shift pages k
    test k = elim (eqb_tells page.0 k) [
      | inl same ↦
          ap (λ b. b && not (moves_up (here_at old.resident) upper.0 shift pages k))
          (ap is_here (subst (λ (z : ℕ). row_at old.resident lower.0 z ≡ Some row) same.1 shifts.found) ∙ here.below page.0 row shifts.found)
          ∙ (moving (nat_lt k shift) (nat_lt (k - shift) pages) (here_at old.resident upper.0 (k - shift))
          (let equal = same.1 in let high : shift ≤ k = omega (arith, equal, is) in grind (arith, nat_tests, high))
          (let equal = same.1 in let inside : k - shift < pages = omega (arith, equal, is, less) in grind (arith, nat_tests, inside))
          (ap is_here (ap (row_at old.resident upper.0) (let equal = same.1 in omega (arith, equal, is)) ∙ shifts.vacant))
          ∙ sym (ap (λ b. b && not (moves_up (here_at new.resident) upper.0 shift pages k))
          (ap is_here (one.low k ∙ ap (λ b. if b then None else row_at old.resident lower.0 k) same.0))))
      | inr other ↦
          ap (λ b. b && not (moves_up (here_at old.resident) upper.0 shift pages k))
          (sym (ap is_here (one.low k ∙ ap (λ b. if b then None else row_at old.resident lower.0 k) other.0)))
          ∙ elim (cases_lt k shift) [
            | inl front ↦
                in_front (here_at new.resident lower.0 k) (nat_lt k shift) _ _ (grind (arith, nat_tests, front))
            | inr high ↦
                ap (λ b. here_at new.resident lower.0 k && not (not (nat_lt k shift) && (nat_lt (k - shift) pages && not b)))
                (sym (other_up (k - shift) (λ same. other.1 (omega (arith, same, is, high)))))
          ]
    ]
one_claims upper lower shift pages page row old new n apart here small (Goes why discards) =
    let fewer : claimed new.frames + 1 ≡ claimed old.frames + 0 = discards.claims in
    let less : pages_gone (here_at old.resident) upper.0 lower.0 shift pages n ≡ pages_gone (here_at new.resident) upper.0 lower.0 shift pages n + 1 =
    gone_less (here_at old.resident) (here_at new.resident) upper.0 lower.0 shift pages n page.0 small stays gone same in
    omega (arith, fewer, less)
  where
    one : OneMerges upper.0 lower.0 shift pages page.0 old.resident new.resident
    one = gone_away upper lower shift pages page row old new apart why discards

    up_same : (q : ℕ) → here_at new.resident upper.0 q ≡ here_at old.resident upper.0 q
    up_same q =
        ap is_here (discards.row.at upper.0 q
        ∙ ap (λ b. if b && page.0 == q then None else row_at old.resident upper.0 q) (other_test lower.0 upper.0 (λ same. apart (sym same))))

    stays : stays_below (here_at old.resident) upper.0 lower.0 shift pages page.0 ≡ true
    stays =
        ap (λ b. b && not (moves_up (here_at old.resident) upper.0 shift pages page.0)) (ap is_here discards.found ∙ here.below page.0 row discards.found)
        ∙ going (nat_lt page.0 shift) (nat_lt (page.0 - shift) pages) (here_at old.resident upper.0 (page.0 - shift))
        (λ high inside. is_here_some (row_at old.resident upper.0 (page.0 - shift))
        (why (page.0 - shift) (elim (cases_lt page.0 shift) [
          | inl front ↦ absurd (let bad : true ≡ false = sym (lt_true page.0 shift front) ∙ high in cc)
          | inr above ↦ omega (arith, above)
        ]) (elim (cases_lt (page.0 - shift) pages) [
          | inl less ↦ less
          | inr more ↦ absurd (let off : nat_lt (page.0 - shift) pages ≡ false = grind (arith, nat_tests, more) in
              let bad : true ≡ false = sym inside ∙ off in cc)
        ]))
        (λ found is. here.above (page.0 - shift) found is))
      where
        lt_true : (a b : ℕ) → a < b → nat_lt a b ≡ true
        lt_true a b small_one = grind (arith, nat_tests, small_one)

    gone : stays_below (here_at new.resident) upper.0 lower.0 shift pages page.0 ≡ false
    gone =
        ap (λ b. b && not (moves_up (here_at new.resident) upper.0 shift pages page.0))
        (ap is_here (one.low page.0 ∙ ap (λ b. if b then None else row_at old.resident lower.0 page.0) (same_test page.0 page.0 refl)))

    same : (j : ℕ) → (page.0 ≡ j → ⊥)
        → stays_below (here_at old.resident) upper.0 lower.0 shift pages j ≡ stays_below (here_at new.resident) upper.0 lower.0 shift pages j
    same j off =
        ap (λ b. b && not (moves_up (here_at old.resident) upper.0 shift pages j))
        (sym (ap is_here (one.low j ∙ ap (λ b. if b then None else row_at old.resident lower.0 j) (other_test page.0 j off))))
        ∙ ap (λ b. here_at new.resident lower.0 j && not (not (nat_lt j shift) && (nat_lt (j - shift) pages && not b))) (sym (up_same (j - shift)))

-- what goes on behind each page

pub one_here : (upper lower : ObjectId) (shift pages : ℕ) (page : PageNo) (row : PageRow) (old new : HostParts) → (upper.0 ≡ lower.0 → ⊥)
    → row_at old.resident lower.0 page.0 ≡ Some row → PageMerges upper shift pages (record { object = lower; page = page }) row old new
    → AreHere old.resident upper.0 lower.0 → AreHere new.resident upper.0 lower.0
one_here upper lower shift pages page row old new apart found merges here = record { above = above merges; below = below }
  where
    one : OneMerges upper.0 lower.0 shift pages page.0 old.resident new.resident
    one = one_merges upper lower shift pages page row old new apart merges

    below : (p : ℕ) (other : PageRow) → row_at new.resident lower.0 p ≡ Some other → other.here ≡ true
    below p other is = here.below p other (left_of (page.0 == p) _ (sym (one.low p) ∙ is))

    above : PageMerges upper shift pages (record { object = lower; page = page }) row old new → (p : ℕ) (other : PageRow)
        → row_at new.resident upper.0 p ≡ Some other → other.here ≡ true
    above (MovesUp to is less shifts) p other found_now =
        by (to.0 == p) (sym (moved_row upper lower page to row old new apart shifts p) ∙ found_now)
      where
        by : (b : Bool) → (if b then Some row else row_at old.resident upper.0 p) ≡ Some other → other.here ≡ true
        by true its = ap (λ (z : PageRow). z.here) (sym (some_is row other its)) ∙ here.below page.0 row found
        by false was = here.above p other was
    above (Goes why discards) p other found_now =
        here.above p other (left_of (lower.0 == upper.0 && page.0 == p) _ (sym (discards.row.at upper.0 p) ∙ found_now))

-- a frame that is no page's is another one than the row's
unowned_apart : (rs : ResidentTable) (o p g : ℕ) (row : PageRow) → IsOwned rs → row_at rs o p ≡ Some row → owner_of rs g ≡ None → row.frame.0 ≡ g → ⊥
unowned_apart rs o p g row owned found none same =
    let bad : Some (page_key o p) ≡ None = sym (owned.at o p row found) ∙ (ap (owner_of rs) same ∙ none) in cc

one_owned : (upper lower : ObjectId) (shift pages : ℕ) (page : PageNo) (row : PageRow) (old new : HostParts) → (upper.0 ≡ lower.0 → ⊥)
    → row_at old.resident lower.0 page.0 ≡ Some row → PageMerges upper shift pages (record { object = lower; page = page }) row old new
    → IsOwned old.resident → IsOwned new.resident
one_owned upper lower shift pages page row old new apart found (MovesUp to is less shifts) owned =
    record {
      at = λ o p other there. elim (eqb_tells to.0 p) [
        | inl same ↦ elim (eqb_tells upper.0 o) [
          | inl also ↦
              let its : row ≡ other = some_is row other (sym (shifts.rows o p ∙ rw (also.0, same.0) refl) ∙ there) in
              ap (λ (z : PageRow). owner_of new.resident z.frame.0) (sym its)
              ∙ (shifts.owner.at row.frame.0 ∙ (ap (λ b. if b then Some (page_key upper.0 to.0) else owner_of old.resident row.frame.0)
              (same_test row.frame.0 row.frame.0 refl) ∙ rw (also.1, same.1) refl))
          | inr off ↦ still o p other (sym (shifts.rows o p ∙ rw off.0 refl) ∙ there)
        ]
        | inr off ↦ still o p other (sym (shifts.rows o p ∙ ap (λ b. if b then Some row else was o p) (both_off (upper.0 == o) off.0)) ∙ there)
      ];
    }
  where
    was : (o p : ℕ) → Option PageRow
    was o p = if lower.0 == o && page.0 == p then None else row_at old.resident o p

    both_off : (a : Bool) {b : Bool} → b ≡ false → (a && b) ≡ false
    both_off true is_off = is_off
    both_off false is_off = refl

    still : (o p : ℕ) (other : PageRow) → was o p ≡ Some other → owner_of new.resident other.frame.0 ≡ Some (page_key o p)
    still o p other there = by (lower.0 == o && page.0 == p) refl there
      where
        by : (b : Bool) → (lower.0 == o && page.0 == p) ≡ b → (if b then None else row_at old.resident o p) ≡ Some other
            → owner_of new.resident other.frame.0 ≡ Some (page_key o p)
        by true its none = absurd (let bad : None ≡ Some other = none in cc)
        by false its there_was =
            shifts.owner.at other.frame.0
            ∙ (ap (λ b. if b then Some (page_key upper.0 to.0) else owner_of old.resident other.frame.0) (other_test row.frame.0 other.frame.0
            (λ same. apart_keys (sym (owned.at lower.0 page.0 row found) ∙ (ap (owner_of old.resident) same ∙ owned.at o p other there_was))))
            ∙ owned.at o p other there_was)
          where
            apart_keys : Some (page_key lower.0 page.0) ≡ Some (page_key o p) → ⊥
            apart_keys same =
                let key : page_key lower.0 page.0 ≡ page_key o p = some_is (page_key lower.0 page.0) (page_key o p) same in
                let bad : true ≡ false = sym (rw (
                  same_test lower.0 o (ap (λ (z : PageKey). z.object.0) key),
                  same_test page.0 p
                      (ap (λ (z : PageKey). z.page.0) key),
                ) refl) ∙ its in cc
one_owned upper lower shift pages page row old new apart found (Goes why discards) owned =
    record { at = λ o p other there. by o p other (lower.0 == o && page.0 == p) refl (sym (discards.row.at o p) ∙ there) }
  where
    by : (o p : ℕ) (other : PageRow) (b : Bool) → (lower.0 == o && page.0 == p) ≡ b → (if b then None else row_at old.resident o p) ≡ Some other
        → owner_of new.resident other.frame.0 ≡ Some (page_key o p)
    by o p other true its none = absurd (let bad : None ≡ Some other = none in cc)
    by o p other false its there_was =
        discards.owner.at other.frame.0
        ∙ (ap (λ b. if b then None else owner_of old.resident other.frame.0) (other_test row.frame.0 other.frame.0
        (λ same. apart_keys (sym (owned.at lower.0 page.0 row found) ∙ (ap (owner_of old.resident) same ∙ owned.at o p other there_was))))
        ∙ owned.at o p other there_was)
      where
        apart_keys : Some (page_key lower.0 page.0) ≡ Some (page_key o p) → ⊥
        apart_keys same =
            let key : page_key lower.0 page.0 ≡ page_key o p = some_is (page_key lower.0 page.0) (page_key o p) same in
            let bad : true ≡ false = sym (rw (
              same_test lower.0 o (ap (λ (z : PageKey). z.object.0) key),
              same_test page.0 p
                  (ap (λ (z : PageKey). z.page.0) key),
            ) refl) ∙ its in cc

-- the frame of a return that is out is no page's still
one_washed : (upper lower : ObjectId) (shift pages : ℕ) (page : PageNo) (row : PageRow) (old new : HostParts) (f : FrameNo)
    → row_at old.resident lower.0 page.0 ≡ Some row → PageMerges upper shift pages (record { object = lower; page = page }) row old new
    → IsOwned old.resident → IsWashed old.frames old.resident f → IsWashed new.frames new.resident f
one_washed upper lower shift pages page row old new f found (MovesUp to is less shifts) owned washed =
    record {
      claimed = ap (λ z. is_claimed z f.0) shifts.frames ∙ washed.claimed;
      unowned = shifts.owner.at f.0
          ∙ (ap (λ b. if b then Some (page_key upper.0 to.0) else owner_of old.resident f.0) (other_test row.frame.0 f.0
          (unowned_apart old.resident lower.0 page.0 f.0 row owned found washed.unowned)) ∙ washed.unowned);
    }
one_washed upper lower shift pages page row old new f found (Goes why discards) owned washed =
    let off : (row.frame.0 == f.0) ≡ false = other_test row.frame.0 f.0 (unowned_apart old.resident lower.0 page.0 f.0 row owned found washed.unowned) in
    record {
      claimed = discards.claim.at f.0 ∙ (ap (λ b. if b then false else is_claimed old.frames f.0) off ∙ washed.claimed);
      unowned = discards.owner.at f.0 ∙ (ap (λ b. if b then None else owner_of old.resident f.0) off ∙ washed.unowned);
    }

-- all of them: frames go free as the history counts them
pub claims_merged : (upper lower : ObjectId) (shift pages from n : ℕ) (old new : HostParts) → (upper.0 ≡ lower.0 → ⊥)
    → ((p : ℕ) → p < from → row_at old.resident lower.0 p ≡ None) → ((p : ℕ) (row : PageRow) → row_at old.resident lower.0 p ≡ Some row → p < n)
    → AreHere old.resident upper.0 lower.0 → PagesMerge upper lower shift pages from old new
    → claimed new.frames + pages_gone (here_at old.resident) upper.0 lower.0 shift pages n ≡ claimed old.frames
claims_merged upper lower shift pages from n old new apart clear inside here (NoMore _ _ none) =
    let nothing = gone_none (here_at old.resident) upper.0 lower.0 shift pages n (λ k. ap is_here (elim (cases_lt k from) [
      | inl small ↦ clear k small
      | inr high ↦ none k high
    ])) in
    omega (arith, nothing)
claims_merged upper lower shift pages from n old new apart clear inside here (Next _ page row _ mid _ least none found objects merges rest) =
    let one = one_claims upper lower shift pages page row old mid n apart here (inside page.0 row found) merges in
    let more = claims_merged upper lower shift pages (page.0 + 1) n mid new apart
    (clear_next upper lower shift pages from page row old mid apart clear none merges)
    (λ p other there. inside p other (was_there p other there)) (one_here upper lower shift pages page row old mid apart found merges here) rest in
    omega (arith, one, more)
  where
    was_there : (p : ℕ) (other : PageRow) → row_at mid.resident lower.0 p ≡ Some other → row_at old.resident lower.0 p ≡ Some other
    was_there p other there =
        by (page.0 == p) (sym ((one_merges upper lower shift pages page row old mid apart merges).low p) ∙ there)
      where
        by : (b : Bool) → (if b then None else row_at old.resident lower.0 p) ≡ Some other → row_at old.resident lower.0 p ≡ Some other
        by true nothing = absurd (let bad : None ≡ Some other = nothing in cc)
        by false was = was

pub washed_merged : (upper lower : ObjectId) (shift pages from : ℕ) (old new : HostParts) (f : FrameNo) → (upper.0 ≡ lower.0 → ⊥) → IsOwned old.resident
    → PagesMerge upper lower shift pages from old new → IsWashed old.frames old.resident f → IsWashed new.frames new.resident f
washed_merged upper lower shift pages from old new f apart owned (NoMore _ _ none) washed = washed
washed_merged upper lower shift pages from old new f apart owned (Next _ page row _ mid _ least none found objects merges rest) washed =
    washed_merged upper lower shift pages (page.0 + 1) mid new f apart (one_owned upper lower shift pages page row old mid apart found merges owned) rest
    (one_washed upper lower shift pages page row old mid f found merges owned washed)
