-- What a fork still needs of regions, and of objects with those that marked regions may get.
use Rattle.vm_kernel.proofs.Common.{Bool, Entry, Event, Header, List, [], ap, arith, copies, copies_from, eqb_tells, false, has_copy_mark, if◌then◌else◌, inl}
use Rattle.vm_kernel.proofs.Common.{inr, is_copied, is_fork_full, marked_in, marked_regions, marks_of, named, nat_lt, nat_tests, new_marks, next_object}
use Rattle.vm_kernel.proofs.Common.{next_region, not, refl, region_of, subst, sym, true, ℕ, ◌&&◌, ◌+◌, ◌<◌, ◌==◌, ◌||◌, ◌∙◌, ◌∷◌, ◌≡◌, ◌≤◌}
use Rattle.vm_base.specs.declared.ids.RegionId.{RegionId}
use Rattle.vm_base.specs.Limits.{most_objects, most_regions}
use Rattle.vm_base.specs.declared.ids.ObjectId.{ObjectId}
use Rattle.vm_kernel.specs.Delaying.{delayed}
use Rattle.vm_legal.specs.Refusal.{takes_no_mark}
use Rattle.vm_model.specs.Tasks.{copies_below}
use Rattle.vm_state.proofs.Marks.{marked_copied, marked_delayed, marks_still, regions_marked}
use Rattle.vm_kernel.proofs.space.RegionCopied.{copied}
use Rattle.std.proofs.lemmas.Bool.{and_parts, or_parts, or_right}

-- regions that are marked in more cases leave fewer to mark

mark_less : (copied from a b : Bool) (n m : ℕ) → (a ≡ true → b ≡ true) → m ≤ n
    → (if copied && (not from && not b) then m + 1 else m) ≤ (if copied && (not from && not a) then n + 1 else n)
mark_less false from a b n m more le = le
mark_less true true a b n m more le = le
mark_less true false false false n m more le = omega (arith, le)
mark_less true false false true n m more le = omega (arith, le)
mark_less true false true true n m more le = le
mark_less true false true false n m more le = absurd (let bad : false ≡ true = more refl in cc)

pub marks_less : (a b : ℕ → Bool) (rows : List Entry) → ((r : ℕ) → a r ≡ true → b r ≡ true) → new_marks b rows ≤ new_marks a rows
marks_less a b [] more = omega arith
marks_less a b (row ∷ rows) more =
    mark_less (is_copied row.inherit) (copies_from row.region.0 rows) (a row.region.0) (b row.region.0) (new_marks a rows) (new_marks b rows)
    (more row.region.0) (marks_less a b rows more)

-- a region that is to be marked, and is marked already, is one less
pub marks_once : (a b : ℕ → Bool) (r : ℕ) (rows : List Entry) → ((q : ℕ) → a q ≡ true → b q ≡ true) → a r ≡ false → b r ≡ true → copies_from r rows ≡ true
    → new_marks b rows + 1 ≤ new_marks a rows
marks_once a b r [] more isnt is from = absurd (let bad : false ≡ true = from in cc)
marks_once a b r (row ∷ rows) more isnt is from = by (λ found. marks_once a b r rows more isnt is found) (copies_from r rows) refl
  where
    head : (first later : Bool) → (first || later) ≡ true → later ≡ false → first ≡ true
    head first true e none = absurd (let bad : true ≡ false = none in cc)
    head true false e none = refl
    head false false e none = e

    step : (copied from x y : Bool) (n m : ℕ) → (x ≡ true → y ≡ true) → m + 1 ≤ n
        → (if copied && (not from && not y) then m + 1 else m) + 1 ≤ (if copied && (not from && not x) then n + 1 else n)
    step false from x y n m up le = le
    step true true x y n m up le = le
    step true false false false n m up le = omega (arith, le)
    step true false false true n m up le = omega (arith, le)
    step true false true true n m up le = le
    step true false true false n m up le = absurd (let bad : false ≡ true = up refl in cc)

    own : (x y from copied : Bool) (n m : ℕ) → copied ≡ true → from ≡ false → x ≡ false → y ≡ true → m ≤ n
        → (if copied && (not from && not y) then m + 1 else m) + 1 ≤ (if copied && (not from && not x) then n + 1 else n)
    own x y from copied n m one two three four le = rw (one, two, three, four) (omega (arith, le))

    by : (copies_from r rows ≡ true → new_marks b rows + 1 ≤ new_marks a rows) → (later : Bool) → copies_from r rows ≡ later
        → new_marks b (row ∷ rows) + 1 ≤ new_marks a (row ∷ rows)
    by rest true found =
        step (is_copied row.inherit) (copies_from row.region.0 rows) (a row.region.0) (b row.region.0) (new_marks a rows) (new_marks b rows) (more row.region.0)
        (rest found)
    by rest false none =
        let this = and_parts (is_copied row.inherit) (row.region.0 == r) (head (is_copied row.inherit && row.region.0 == r) (copies_from r rows) from none) in
        elim (eqb_tells row.region.0 r) [
          | inl same ↦
              own (a row.region.0) (b row.region.0) (copies_from row.region.0 rows) (is_copied row.inherit) (new_marks a rows) (new_marks b rows) this.0
              (ap (λ z. copies_from z rows) same.1 ∙ none) (ap a same.1 ∙ isnt) (ap b same.1 ∙ is) (marks_less a b rows more)
          | inr apart ↦ absurd (let bad : false ≡ true = sym apart.0 ∙ this.1 in cc)
        ]

-- the fork of these entries fits
pub record HasRoom (header : Header) (rows : List Entry) (past : List Event) : Type 0 where
  pub regions : next_region header past + copies rows ≤ most_regions
  pub objects : next_object header past + marks_of header past + copies rows + new_marks (takes_no_mark header past) rows + copies_below (named header) rows
      ≤ most_objects

pub room_of : (header : Header) (rows : List Entry) (past : List Event) → is_fork_full header rows past ≡ false → HasRoom header rows past
room_of header rows past fits =
    let both = or_parts (nat_lt most_regions (next_region header past + copies rows))
    (nat_lt most_objects (next_object header past + marked_regions header past + copies rows + new_marks (takes_no_mark header past) rows
    + copies_below (named header) rows)) fits in
    record {
      regions = few most_regions (next_region header past + copies rows) both.0;
      objects =
          subst (λ (z : ℕ). next_object header past + z + copies rows + new_marks (takes_no_mark header past) rows + copies_below (named header) rows
          ≤ most_objects)
          (regions_marked header past)
          (few most_objects (next_object header past + marked_regions header past + copies rows + new_marks (takes_no_mark header past) rows
          + copies_below (named header) rows) both.1);
    }
  where
    few : (most n : ℕ) → nat_lt most n ≡ false → n ≤ most
    few most n is = grind (arith, nat_tests)

-- an event that makes no region or object, and marks none
pub room_more : (header : Header) (rows : List Entry) (past past2 : List Event) → next_region header past2 ≡ next_region header past
    → next_object header past2 ≡ next_object header past → ((r : ℕ) → (region_of header r past2).mark ≡ (region_of header r past).mark)
    → HasRoom header rows past → HasRoom header rows past2
room_more header rows past past2 regions objects same room =
    let marked : marks_of header past2 ≡ marks_of header past = marks_still (next_region header past2) (λ r. region_of header r past)
    (λ r. region_of header r past2) same ∙ ap (λ z. marked_in z (λ r. region_of header r past)) regions in
    let tests : takes_no_mark header past2 ≡ takes_no_mark header past = λ i r. nat_lt r (named header) || same r i in
    let new : new_marks (takes_no_mark header past2) rows ≡ new_marks (takes_no_mark header past) rows = ap (λ f. new_marks f rows) tests in
    record { regions = omega (arith, room.regions, regions); objects = omega (arith, room.objects, objects, marked, new) }

-- an entry that isn't copied needs nothing
pub room_other : (header : Header) (row : Entry) (rows : List Entry) (past : List Event) → is_copied row.inherit ≡ false → HasRoom header (row ∷ rows) past
    → HasRoom header rows past
room_other header row rows past isnt room =
    let count : copies (row ∷ rows) ≡ copies rows = rw isnt refl in
    let new : new_marks (takes_no_mark header past) (row ∷ rows) ≡ new_marks (takes_no_mark header past) rows = rw isnt refl in
    let below : copies_below (named header) (row ∷ rows) ≡ copies_below (named header) rows = rw isnt refl in
    record { regions = omega (arith, room.regions, count); objects = omega (arith, room.objects, count, new, below) }

-- a region keeps what it has where others get marks

marked_still : (a b c : Bool) → c ≡ true → (if a then true else (if b then true else c)) ≡ true
marked_still true b c is = refl
marked_still false true c is = refl
marked_still false false c is = is

or_more : (a b c : Bool) → (b ≡ true → c ≡ true) → (a || b) ≡ true → (a || c) ≡ true
or_more true b c more is = refl
or_more false b c more is = more is

skipped : (b : Bool) (n : ℕ) → (if b && false then n + 1 else n) ≡ n
skipped true n = refl
skipped false n = refl

-- one on temporary memory that is copied needs its region, its mark, and one for its source where that had none
pub room_copied : (header : Header) (row : Entry) (rows : List Entry) (past : List Event) (copy : RegionId) (pages : ℕ) → is_copied row.inherit ≡ true
    → named header ≤ row.region.0
    → copy.0 ≡ next_region header past → row.region.0 < next_region header past → HasRoom header (row ∷ rows) past
    → HasRoom header rows (copied copy row.region row.offset pages ∷ past)
room_copied header row rows past copy pages is temporary number less room =
    let now = copied copy row.region row.offset pages in
    let count : copies (row ∷ rows) ≡ copies rows + 1 = rw is refl in
    let marks = marked_copied header past copy row.region row.offset pages number less in
    let below : copies_below (named header) (row ∷ rows) ≡ copies_below (named header) rows = rw (is, above) refl in
    let cost = by (has_copy_mark header past row.region.0) (copies_from row.region.0 rows) refl refl in
    record { regions = omega (arith, room.regions, count); objects = omega (arith, room.objects, count, marks, cost, below) }
  where
    above : nat_lt row.region.0 (named header) ≡ false
    above = grind (arith, nat_tests)

    more : (q : ℕ) → takes_no_mark header past q ≡ true → takes_no_mark header (copied copy row.region row.offset pages ∷ past) q ≡ true
    more q =
        or_more (nat_lt q (named header)) (has_copy_mark header past q) (has_copy_mark header (copied copy row.region row.offset pages ∷ past) q)
        (λ marked. marked_still (q == copy.0) (q == row.region.0) (has_copy_mark header past q) marked)

    own : takes_no_mark header (copied copy row.region row.offset pages ∷ past) row.region.0 ≡ true
    own =
        or_right (nat_lt row.region.0 (named header)) (has_copy_mark header (copied copy row.region row.offset pages ∷ past) row.region.0)
        (goes (row.region.0 == copy.0) (row.region.0 == row.region.0) (has_copy_mark header past row.region.0)
        (elim (eqb_tells row.region.0 row.region.0) [ inl same ↦ same.0 | inr apart ↦ absurd (apart.1 refl) ]))
      where
        goes : (a b c : Bool) → b ≡ true → (if a then true else (if b then true else c)) ≡ true
        goes true b c is = refl
        goes false true c is = refl
        goes false false c is = absurd (let bad : false ≡ true = is in cc)

    -- whether its source takes a mark
    its : (marked : Bool) → has_copy_mark header past row.region.0 ≡ marked → takes_no_mark header past row.region.0 ≡ marked
    its marked is = ap (λ b. b || has_copy_mark header past row.region.0) above ∙ is

    by : (marked from : Bool) → has_copy_mark header past row.region.0 ≡ marked → copies_from row.region.0 rows ≡ from
        → (if marked then 1 else 2) + new_marks (takes_no_mark header (copied copy row.region row.offset pages ∷ past)) rows ≤ new_marks
        (takes_no_mark header past) (row ∷ rows) + 1
    by true from marked later =
        let first : new_marks (takes_no_mark header past) (row ∷ rows) ≡ new_marks (takes_no_mark header past) rows = rw (is, its true marked, later)
        (skipped (not from) (new_marks (takes_no_mark header past) rows)) in
        let less = marks_less (takes_no_mark header past) (takes_no_mark header (copied copy row.region row.offset pages ∷ past)) rows more in
        omega (arith, first, less)
    by false true marked later =
        let first : new_marks (takes_no_mark header past) (row ∷ rows) ≡ new_marks (takes_no_mark header past) rows = rw (is, later) refl in
        let once = marks_once (takes_no_mark header past) (takes_no_mark header (copied copy row.region row.offset pages ∷ past)) row.region.0 rows more
        (its false marked) own later in
        omega (arith, first, once)
    by false false marked later =
        let first : new_marks (takes_no_mark header past) (row ∷ rows) ≡ new_marks (takes_no_mark header past) rows + 1 =
        rw (is, its false marked, later) refl in
        let less = marks_less (takes_no_mark header past) (takes_no_mark header (copied copy row.region row.offset pages ∷ past)) rows more in
        omega (arith, first, less)

-- one on a file needs its region, its mark, and its copy object
pub room_delayed : (header : Header) (row : Entry) (rows : List Entry) (past : List Event) (region : RegionId) (pages : ℕ) (copy : ObjectId)
    → is_copied row.inherit ≡ true → row.region.0 < named header → region.0 ≡ next_region header past → HasRoom header (row ∷ rows) past
    → HasRoom header rows (delayed region row.region row.offset pages copy ∷ past)
room_delayed header row rows past region pages copy is file number room =
    let now = delayed region row.region row.offset pages copy ∷ past in
    let low : nat_lt row.region.0 (named header) ≡ true = grind (arith, nat_tests) in
    let count : copies (row ∷ rows) ≡ copies rows + 1 = rw is refl in
    let below : copies_below (named header) (row ∷ rows) ≡ copies_below (named header) rows + 1 = rw (is, low) refl in
    let marks = marked_delayed header past region row.region row.offset pages copy number in
    let own : takes_no_mark header past row.region.0 ≡ true = ap (λ b. b || has_copy_mark header past row.region.0) low in
    let first : new_marks (takes_no_mark header past) (row ∷ rows) ≡ new_marks (takes_no_mark header past) rows =
    rw (is, own) (skipped (not (copies_from row.region.0 rows)) (new_marks (takes_no_mark header past) rows)) in
    let less = marks_less (takes_no_mark header past) (takes_no_mark header now) rows more in
    record { regions = omega (arith, room.regions, count); objects = omega (arith, room.objects, count, below, marks, first, less) }
  where
    kept : (b c : Bool) → c ≡ true → (if b then true else c) ≡ true
    kept true c is = refl
    kept false c is = is

    more : (q : ℕ) → takes_no_mark header past q ≡ true → takes_no_mark header (delayed region row.region row.offset pages copy ∷ past) q ≡ true
    more q =
        or_more (nat_lt q (named header)) (has_copy_mark header past q)
        (has_copy_mark header (delayed region row.region row.offset pages copy ∷ past) q)
        (λ marked. kept (q == region.0) (has_copy_mark header past q) marked)
