-- What a walk over the pages of an object leaves of them.
use Rattle.std.proofs.Common.{ℕ, zero, suc, ◌≡◌, ◌≢◌, ◌<◌, ◌≤◌, ◌+◌, true, false, List, [], ◌∷◌, ◌++◌, set, Option}
use Rattle.std.proofs.Common.{Some, None, refl, sym, ◌∙◌, ap, subst, ⊎_elim, add-one, append_assoc, arith}
use native.Mathlib.Decide.{ℕ_discrete}
use Rattle.std.proofs.lemmas.Bool.{cases_Bool, cases_lt}
use Rattle.std.proofs.lemmas.Option.{none-some, same_Some, slice_get_within}
use Rattle.std.specs.Prelude.{slice_get}
use Rattle.vm_base.proofs.Keys.{page_read}
use Rattle.vm_base.specs.Keys.{is_page}
use Rattle.vm_base.specs.declared.ids.PageKey.{PageKey}
use Rattle.vm_model.specs.declared.event.Event.{Event}
use Rattle.vm_model.specs.declared.message.Message.{Message}
use Rattle.sms_server.proofs.Placed.{AreApart, among_at, each_set}
use Rattle.sms_server.proofs.Walking.{NextRow, NoRow}
use Rattle.sms_server.specs.Answers.{RowAfter, row_events}
use Rattle.sms_server.specs.Kept.{IsSameRow, RowsAfter, RowsAreSame, events_below, events_if, is_quiet}
use Rattle.sms_server.specs.Table.{row_among}
use Rattle.sms_server.specs.declared.page_row.PageRow.{PageRow}

-- a row of the object that stands in front of the walk's page has changed so, and each other is as it was
abbrev pub IsPassed : (PageRow → PageRow → Type 0) → ℕ → ℕ → Option PageRow → Option PageRow → Type 0
IsPassed change o from None None = Unit {0}
IsPassed change o from (Some x) (Some y) =
    (y.key ≡ x.key) × (x.key.object.0 ≡ o → x.key.page.0 < from → change x y) × ((x.key.object.0 ≡ o → from ≤ x.key.page.0) → y ≡ x)
IsPassed change o from old new = ⊥

pub record ArePassed (change : PageRow → PageRow → Type 0) (o from : ℕ) (old rows : List PageRow) : Type 0 where
  pub each : (j : ℕ) → IsPassed change o from (slice_get old j) (slice_get rows j)

pub passed_start : (change : PageRow → PageRow → Type 0) (o : ℕ) (old : List PageRow) → ArePassed change o 0 old old
passed_start change o old = record { each = λ j. by (slice_get old j) }
  where
    by : (r : Option PageRow) → IsPassed change o 0 r r
    by None = tt
    by (Some x) = (refl, (λ own less. absurd (omega arith)), (λ rest. refl))

-- a row to which the walk hasn't come is as it was

was_of : (change : PageRow → PageRow → Type 0) (o from : ℕ) (old new : Option PageRow) (x : PageRow) → IsPassed change o from old new → new ≡ Some x
    → (x.key.object.0 ≡ o → from ≤ x.key.page.0) → old ≡ Some x
was_of change o from None None x passed is rest = absurd (none-some x is)
was_of change o from None (Some y) x passed is rest = absurd passed
was_of change o from (Some z) None x passed is rest = absurd passed
was_of change o from (Some z) (Some y) x passed is rest =
    let same : y ≡ x = same_Some y x is in
    let key : x.key ≡ z.key = ap (λ (r : PageRow). r.key) (sym same) ∙ passed.0 in
    ap Some (sym (passed.2 (subst (λ (k : PageKey). k.object.0 ≡ o → from ≤ k.page.0) key rest)) ∙ same)

pub was_there : (change : PageRow → PageRow → Type 0) (o from : ℕ) (old rows : List PageRow) (i : ℕ) (x : PageRow) → ArePassed change o from old rows
    → slice_get rows i ≡ Some x → (x.key.object.0 ≡ o → from ≤ x.key.page.0) → slice_get old i ≡ Some x
was_there change o from old rows i x passed is rest = was_of change o from (slice_get old i) (slice_get rows i) x (passed.each i) is rest

is_of : (change : PageRow → PageRow → Type 0) (o from : ℕ) (old new : Option PageRow) (z : PageRow) → IsPassed change o from old new → old ≡ Some z
    → (z.key.object.0 ≡ o → from ≤ z.key.page.0) → new ≡ Some z
is_of change o from None new z passed is rest = absurd (none-some z is)
is_of change o from (Some x) None z passed is rest = absurd passed
is_of change o from (Some x) (Some y) z passed is rest =
    let same : x ≡ z = same_Some x z is in
    ap Some (passed.2 (subst (λ (r : PageRow). r.key.object.0 ≡ o → from ≤ r.key.page.0) (sym same) rest) ∙ same)

pub is_there : (change : PageRow → PageRow → Type 0) (o from : ℕ) (old rows : List PageRow) (j : ℕ) (z : PageRow) → ArePassed change o from old rows
    → slice_get old j ≡ Some z → (z.key.object.0 ≡ o → from ≤ z.key.page.0) → slice_get rows j ≡ Some z
is_there change o from old rows j z passed is rest = is_of change o from (slice_get old j) (slice_get rows j) z (passed.each j) is rest

-- the walk comes to one row more

pub passed_more : (change : PageRow → PageRow → Type 0) (k o from : ℕ) (old rows : List PageRow) (i q : ℕ) (x y : PageRow) → ArePassed change o from old rows
    → NextRow k o from rows i q x → ((z : PageRow) → is_quiet k z.directory ≡ true → change z z) → y.key ≡ x.key → change x y
    → ArePassed change o (q + 1) old (set rows i y)
passed_more change k o from old rows i q x y passed next still key made = record {
  each =
      each_set (λ j r. IsPassed change o (q + 1) (slice_get old j) r) rows i y (slice_get_within rows i x next.at)
      (subst (λ (r : Option PageRow). IsPassed change o (q + 1) r (Some y))
      (sym (was_there change o from old rows i x passed next.at (λ own. omega (arith, next.low, next.page))))
      (key, (λ own less. made), (λ rest. absurd (omega (arith, rest next.own, next.page)))))
      (λ j other. by j other (slice_get old j) (slice_get rows j) refl refl (passed.each j));
} where
  by : (j : ℕ) → (j ≡ i → ⊥) → (a b : Option PageRow) → slice_get old j ≡ a → slice_get rows j ≡ b → IsPassed change o from a b
      → IsPassed change o (q + 1) a b
  by j other None None was is p = tt
  by j other None (Some b) was is p = absurd p
  by j other (Some a) None was is p = absurd p
  by j other (Some a) (Some b) was is p = (
    p.0,
    (λ own less. ⊎_elim
        (λ (before : a.key.page.0 < from). p.1 own before)
        (λ (low : from ≤ a.key.page.0).
        let same : b ≡ a = p.2 (λ own. low) in
        let here : slice_get rows j ≡ Some a = is ∙ ap Some same in
        let front : a.key.page.0 < q = ⊎_elim
        (λ (before : a.key.page.0 < q). before)
        (λ (high : q ≤ a.key.page.0). absurd (other (next.apart j i a x here next.at (own ∙ sym next.own) (omega (arith, high, less, next.page)))))
        (cases_lt a.key.page.0 q) in
        subst (change a) (sym same) (still a (next.quiet j a here own low front)))
        (cases_lt a.key.page.0 from)),
    (λ rest. p.2 (λ own. omega (arith, rest own, next.low))),
  )

-- at its end all rows of the object have changed so

abbrev pub IsChanged : (PageRow → PageRow → Type 0) → ℕ → Option PageRow → Option PageRow → Type 0
IsChanged change o None None = Unit {0}
IsChanged change o (Some x) (Some y) = (x.key.object.0 ≡ o → change x y) × (x.key.object.0 ≢ o → y ≡ x)
IsChanged change o old new = ⊥

pub passed_end : (change : PageRow → PageRow → Type 0) (k o from : ℕ) (old rows : List PageRow) → ArePassed change o from old rows → NoRow k o from rows
    → ((z : PageRow) → is_quiet k z.directory ≡ true → change z z) → (j : ℕ) → IsChanged change o (slice_get old j) (slice_get rows j)
passed_end change k o from old rows passed last still j = by (slice_get old j) (slice_get rows j) refl (passed.each j)
  where
    by : (a b : Option PageRow) → slice_get rows j ≡ b → IsPassed change o from a b → IsChanged change o a b
    by None None is p = tt
    by None (Some b) is p = absurd p
    by (Some a) None is p = absurd p
    by (Some a) (Some b) is p = (
      (λ own. ⊎_elim
          (λ (before : a.key.page.0 < from). p.1 own before)
          (λ (low : from ≤ a.key.page.0).
          let same : b ≡ a = p.2 (λ own. low) in
          subst (change a) (sym same) (still a (last.quiet j a (is ∙ ap Some same) own low)))
          (cases_lt a.key.page.0 from)),
      (λ other. p.2 (λ own. absurd (other own))),
    )

-- rows that are the same but for the memory at hand

pub same_row_itself : (r : Option PageRow) → IsSameRow r r
same_row_itself None = tt
same_row_itself (Some x) = (refl, record { holds = refl; awaits = refl; line = refl; bytes = refl }, refl)

-- a row that has its memory now
pub record IsMadeReady (ready : PageRow → Type 0) (x y : PageRow) : Type 0 where
  pub same : IsSameRow (Some x) (Some y)
  pub is : ready y

same_changed : (ready : PageRow → Type 0) (o : ℕ) (a b : Option PageRow) → IsChanged (IsMadeReady ready) o a b → IsSameRow a b
same_changed ready o None None c = tt
same_changed ready o None (Some y) c = absurd c
same_changed ready o (Some x) None c = absurd c
same_changed ready o (Some x) (Some y) c = elim (ℕ_discrete x.key.object.0 o) [
  | yes own ↦ let made = c.0 own in made.same
  | no other ↦ subst (λ (z : PageRow). IsSameRow (Some x) (Some z)) (sym (c.1 other)) (same_row_itself (Some x))
]

pub all_same : (ready : PageRow → Type 0) (o : ℕ) (old rows : List PageRow) → ((j : ℕ) → IsChanged (IsMadeReady ready) o (slice_get old j) (slice_get rows j))
    → RowsAreSame old rows
all_same ready o old rows changed k = same_changed ready o (slice_get old k) (slice_get rows k) (changed k)

-- in the middle of the walk too
same_passed : (ready : PageRow → Type 0) (o from : ℕ) (a b : Option PageRow) → IsPassed (IsMadeReady ready) o from a b → IsSameRow a b
same_passed ready o from None None c = tt
same_passed ready o from None (Some y) c = absurd c
same_passed ready o from (Some x) None c = absurd c
same_passed ready o from (Some x) (Some y) c = elim (ℕ_discrete x.key.object.0 o) [
  | yes own ↦ ⊎_elim
      (λ (less : x.key.page.0 < from). let made = c.1 own less in made.same)
      (λ (low : from ≤ x.key.page.0).
      subst (λ (z : PageRow). IsSameRow (Some x) (Some z)) (sym (c.2 (λ own. low))) (same_row_itself (Some x)))
      (cases_lt x.key.page.0 from)
  | no other ↦ subst (λ (z : PageRow). IsSameRow (Some x) (Some z)) (sym (c.2 (λ own. absurd (other own)))) (same_row_itself (Some x))
]

pub still_same : (ready : PageRow → Type 0) (o from : ℕ) (old rows : List PageRow) → ArePassed (IsMadeReady ready) o from old rows → RowsAreSame old rows
still_same ready o from old rows passed k = same_passed ready o from (slice_get old k) (slice_get rows k) (passed.each k)

-- a row of the object is ready
abbrev pub IsReadyIn : (PageRow → Type 0) → ℕ → Option PageRow → Type 0
IsReadyIn ready o None = Unit {0}
IsReadyIn ready o (Some row) = row.key.object.0 ≡ o → ready row

pub all_ready : (ready : PageRow → Type 0) (o : ℕ) (old rows : List PageRow) → ((j : ℕ) → IsChanged (IsMadeReady ready) o (slice_get old j) (slice_get rows j))
    → (k : ℕ) → IsReadyIn ready o (slice_get rows k)
all_ready ready o old rows changed k = by (slice_get old k) (slice_get rows k) (changed k)
  where
    by : (a b : Option PageRow) → IsChanged (IsMadeReady ready) o a b → IsReadyIn ready o b
    by None None c = tt
    by None (Some y) c = absurd c
    by (Some x) None c = absurd c
    by (Some x) (Some y) c = λ own. elim (ℕ_discrete x.key.object.0 o) [
      | yes was ↦ let made = c.0 was in made.is
      | no other ↦ absurd (other (ap (λ (z : PageRow). z.key.object.0) (sym (c.1 other)) ∙ own))
    ]

-- a row is ready by what is known of all
pub ready_at : (P : Option PageRow → Type 0) (rows : List PageRow) (i : ℕ) (x : PageRow) → ((k : ℕ) → P (slice_get rows k)) → slice_get rows i ≡ Some x → P (Some x)
ready_at P rows i x all is = subst P is (all i)

pub rows_after : (h : ℕ) (m : Message) (o : ℕ) (old rows : List PageRow)
    → ((j : ℕ) → IsChanged (RowAfter h m) o (slice_get old j) (slice_get rows j)) → RowsAfter h m o old rows
rows_after h m o old rows changed k = changed k

-- the events of the pages to which the walk has come

among_somewhere : (o p : ℕ) (rows : List PageRow) (z : PageRow) → row_among o p rows ≡ Some z
    → (j : ℕ) × (slice_get rows j ≡ Some z) × (z.key.object.0 ≡ o) × (z.key.page.0 ≡ p)
among_somewhere o p [] z is = absurd (none-some z is)
among_somewhere o p (x ∷ xs) z is =
    ⊎_elim
    (λ (here : is_page x.key o p ≡ true).
    let same : x ≡ z = same_Some x z (rw here at is) in
    let read = page_read x.key o p here in
    let key : (z.key.object.0 ≡ o) × (z.key.page.0 ≡ p) = subst (λ (r : PageRow). (r.key.object.0 ≡ o) × (r.key.page.0 ≡ p)) same (read.object, read.page) in
    (0, ap Some same, key.0, key.1))
    (λ (apart : is_page x.key o p ≡ false). let rest = among_somewhere o p xs z (rw apart at is) in (suc rest.0, rest.1, rest.2, rest.3))
    (cases_Bool (is_page x.key o p))

-- a page whose row, if it has one, is quiet has no events
no_events : (h : ℕ) (m : Message) (o p : ℕ) (old : List PageRow)
    → ((j : ℕ) (z : PageRow) → slice_get old j ≡ Some z → z.key.object.0 ≡ o → z.key.page.0 ≡ p → row_events h m z ≡ []) → events_if h m (row_among o p old) ≡ []
no_events h m o p old none = by (row_among o p old) refl
  where
    by : (r : Option PageRow) → row_among o p old ≡ r → events_if h m r ≡ []
    by None is = refl
    by (Some z) is = let there = among_somewhere o p old z is in none there.0 z there.1 there.2 there.3

skip_events : (h : ℕ) (m : Message) (o from n : ℕ) (old : List PageRow) → from ≤ n
    → ((p : ℕ) → from ≤ p → p < n → events_if h m (row_among o p old) ≡ []) → events_below h m o old n ≡ events_below h m o old from
skip_events h m o from zero old le none = let e : from ≡ 0 = omega arith in rw e refl
skip_events h m o from (suc n) old le none =
    ⊎_elim
    (λ (less : n < from). let e : from ≡ suc n = omega arith in rw e refl)
    (λ (low : from ≤ n).
    let here = none n low (omega arith) in
    let rest = skip_events h m o from n old low (λ p le less. none p le (omega arith)) in
    rw here rest)
    (cases_lt n from)

pub told_more : (change : PageRow → PageRow → Type 0) (h : ℕ) (m : Message) (k o from : ℕ) (old rows : List PageRow) (i q : ℕ) (x : PageRow)
    (first events more : List Event) → ArePassed change o from old rows → AreApart old → NextRow k o from rows i q x
    → ((z : PageRow) → is_quiet k z.directory ≡ true → row_events h m z ≡ []) → events ≡ events_below h m o old from ++ first
    → more ≡ row_events h m x ++ events → more ≡ events_below h m o old (q + 1) ++ first
told_more change h m k o from old rows i q x first events more passed apart next silent told is =
    let was = was_there change o from old rows i x passed next.at (λ own. omega (arith, next.low, next.page)) in
    let among : row_among o q old ≡ Some x = subst (λ (n : ℕ). row_among n q old ≡ Some x) next.own
    (subst (λ (n : ℕ). row_among x.key.object.0 n old ≡ Some x) next.page (among_at i x old apart was)) in
    let skip : events_below h m o old q ≡ events_below h m o old from = skip_events h m o from q old next.low
    (λ p le less. no_events h m o p old (λ j z at own page.
    let here = is_there change o from old rows j z passed at (λ own. omega (arith, page, le)) in
    silent z (next.quiet j z here own (omega (arith, page, le)) (omega (arith, page, less))))) in
    is ∙ (ap (λ (es : List Event). row_events h m x ++ es) told
    ∙ (rw add-one (rw (among, skip) (sym (append_assoc (row_events h m x) (events_below h m o old from) first)))))

pub told_end : (change : PageRow → PageRow → Type 0) (h : ℕ) (m : Message) (k o from : ℕ) (old rows : List PageRow) → ArePassed change o from old rows
    → NoRow k o from rows → ((z : PageRow) → is_quiet k z.directory ≡ true → row_events h m z ≡ [])
    → (p : ℕ) → from ≤ p → events_if h m (row_among o p old) ≡ []
told_end change h m k o from old rows passed last silent p le =
    no_events h m o p old (λ j z at own page.
    let here = is_there change o from old rows j z passed at (λ own. omega (arith, page, le)) in
    silent z (last.quiet j z here own (omega (arith, page, le))))

same_row_then : (a b c : Option PageRow) → IsSameRow a b → IsSameRow b c → IsSameRow a c
same_row_then None None None one two = tt
same_row_then None None (Some z) one two = two
same_row_then None (Some y) c one two = absurd one
same_row_then (Some x) None c one two = absurd one
same_row_then (Some x) (Some y) None one two = two
same_row_then (Some x) (Some y) (Some z) one two = (
  two.0 ∙ one.0,
  record {
    holds = two.1.holds ∙ one.1.holds;
    awaits = two.1.awaits ∙ one.1.awaits;
    line = two.1.line ∙ one.1.line;
    bytes = two.1.bytes
        ∙ one.1.bytes;
  },
  two.2 ∙ one.2,
)

-- where one more row has changed its memory
pub still_same_with : (ready : PageRow → Type 0) (o from : ℕ) (old rows : List PageRow) (i : ℕ) (x y : PageRow)
    → ArePassed (IsMadeReady ready) o from old rows → slice_get rows i ≡ Some x → IsSameRow (Some x) (Some y) → RowsAreSame old (set rows i y)
still_same_with ready o from old rows i x y passed is same =
    let so_far = still_same ready o from old rows passed in
    each_set (λ k r. IsSameRow (slice_get old k) r) rows i y (slice_get_within rows i x is)
    (same_row_then (slice_get old i) (Some x) (Some y) (subst (IsSameRow (slice_get old i)) is (so_far i)) same)
    (λ k other. so_far k)
