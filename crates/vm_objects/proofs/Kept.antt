-- How an object and its marks are found, and what a change leaves of them.
use Rattle.std.proofs.Common.{ℕ, ◌≡◌, ◌<◌, ◌≤◌, ◌==◌, ◌&&◌, Bool, true, false, List, [], ◌∷◌, Option, Some, None, Result, Ok, Err, refl, sym, ◌∙◌, ap, arith}
use Rattle.std.proofs.lemmas.Bool.{false≢true}
use Rattle.std.proofs.lemmas.Bool.Decides.{nat_tests}
use Rattle.std.specs.Borrow.{MutBor}
use Rattle.std.specs.List.{list_any}
use Rattle.std.specs.Option.{option_copied_mut}
use Rattle.std.specs.Prelude.{IfSome, IsOk, IsSome, IsSomeAnd, OnOk, if◌then◌else◌}
use Rattle.vm_base.specs.Keys.{is_page}
use Rattle.vm_base.specs.declared.ids.ObjectId.{ObjectId}
use Rattle.vm_base.specs.declared.ids.PageKey.{PageKey}
use Rattle.vm_objects.specs.Marks.{AreMarks, row_of}
use Rattle.vm_objects.specs.Objects.{ObjectTable, PutsAbsent, PutsObject, SameMarks, absent_among, object_among, object_at}
use Rattle.vm_objects.specs.declared.row.ObjectRow.{ObjectRow}

pub object_is : (o : ℕ) (entries : List (ObjectId × ObjectRow)) → object_among o entries ≡ row_of entries o
object_is o [] = refl
object_is o (entry ∷ entries) = grind (arith, nat_tests, object_is o entries)

-- whether a page is in the set
abbrev pub mark_of : List PageKey → ℕ → ℕ → Bool
mark_of absent o p = list_any (λ key. o == key.object.0 && p == key.page.0) absent

pub mark_is : (o p : ℕ) (absent : List PageKey) → absent_among o p absent ≡ mark_of absent o p
mark_is o p [] = refl
mark_is o p (key ∷ absent) = grind (arith, nat_tests, mark_is o p absent)

-- what holds of a call that succeeds
pub ok_has : {T E P : Type 0} (r : Result T E) → IsOk r → OnOk r P → P
ok_has (Ok x) ok has = has
ok_has (Err e) ok has = absurd (false≢true ok)

-- what is kept, as contracts see it
abbrev pub table_of : List (ObjectId × ObjectRow) → List PageKey → ℕ → ℕ → ObjectTable
table_of entries absent rows marks = record { entries = entries; absent = absent; rows = rows; marks = marks }

-- of an object that is not there no page is marked
pub none_absent : (o p : ℕ) (entries : List (ObjectId × ObjectRow)) (absent : List PageKey) (spare promised : ℕ) → AreMarks entries absent spare promised
    → object_among o entries ≡ None → absent_among o p absent ≡ false
none_absent o p entries absent spare promised are none = by (absent_among o p absent) refl
  where
    by : (b : Bool) → absent_among o p absent ≡ b → b ≡ false
    by false is = refl
    by true is = absurd (rw none at (are.inside o p is))

-- and none behind the end of one that is
pub past_end : (o p : ℕ) (entries : List (ObjectId × ObjectRow)) (absent : List PageKey) (spare promised : ℕ) → AreMarks entries absent spare promised
    → IfSome (object_among o entries) (λ row. row.pages ≤ p → absent_among o p absent ≡ false)
past_end o p entries absent spare promised are = by (object_among o entries) refl
  where
    by_mark : (row : ObjectRow) → object_among o entries ≡ Some row → row.pages ≤ p → (b : Bool) → absent_among o p absent ≡ b → b ≡ false
    by_mark row is past false marked = refl
    by_mark row is past true marked = let less = rw is at (are.inside o p marked) in absurd (omega (arith, past, less))

    by : (found : Option ObjectRow) → object_among o entries ≡ found → IfSome found (λ row. row.pages ≤ p → absent_among o p absent ≡ false)
    by None is = tt
    by (Some row) is = λ past. by_mark row is past (absent_among o p absent) refl

-- the map has this row at an object now, and at each other what it had
abbrev pub WritesRow : ℕ → ObjectRow → List (ObjectId × ObjectRow) → List (ObjectId × ObjectRow) → Type 0
WritesRow id row old new = (o : ObjectId) → row_of new o.0 ≡ (if id == o.0 then Some row else row_of old o.0)

-- what an object's new row leaves
pub record Changed (edited : List (ObjectId × ObjectRow)) (absent : List PageKey) (spare promised : ℕ) (id : ℕ) (row : ObjectRow) (old new : ObjectTable) : Type
    0 where
  pub kept : AreMarks edited absent spare promised
  pub object : PutsObject id (Some row) old new
  pub marks : SameMarks old new

written : (entries edited : List (ObjectId × ObjectRow)) (id : ℕ) (row : ObjectRow) → WritesRow id row entries edited → (o : ℕ)
    → object_among o edited ≡ (if id == o then Some row else object_among o entries)
written entries edited id row writes o = object_is o edited ∙ writes (record { 0 = o }) ∙ ap (λ z. if id == o then Some row else z) (sym (object_is o entries))

-- an object is put whose marks, if it has any, lie below its pages
pub put : (entries edited : List (ObjectId × ObjectRow)) (absent : List PageKey) (spare promised rows marks rows2 marks2 id : ℕ) (row : ObjectRow)
    → AreMarks entries absent spare promised → WritesRow id row entries edited
    → ((p : ℕ) → absent_among id p absent ≡ true → p < row.pages)
    → Changed edited absent spare promised id row (table_of entries absent rows marks) (table_of edited absent rows2 marks2)
put entries edited absent spare promised rows marks rows2 marks2 id row are writes below = record {
  kept = record { inside = λ o p marked. by o p marked (id == o) refl; room = are.room };
  object = record { at = written entries edited id row writes };
  marks = record { at = λ o p. refl };
}
  where
    by : (o p : ℕ) → absent_among o p absent ≡ true → (b : Bool) → (id == o) ≡ b → IsSomeAnd (object_among o edited) (λ row. p < row.pages)
    by o p marked true same = let is : id ≡ o = grind (arith, nat_tests, same) in rw (written entries edited id row writes o, same) (below p (rw is marked))
    by o p marked false apart = rw (written entries edited id row writes o, apart) (are.inside o p marked)

-- a new object, of which no page is marked
pub made : (entries edited : List (ObjectId × ObjectRow)) (absent : List PageKey) (spare promised rows marks rows2 marks2 id : ℕ) (row : ObjectRow)
    → AreMarks entries absent spare promised → object_among id entries ≡ None → WritesRow id row entries edited
    → Changed edited absent spare promised id row (table_of entries absent rows marks) (table_of edited absent rows2 marks2)
made entries edited absent spare promised rows marks rows2 marks2 id row are none writes =
    put entries edited absent spare promised rows marks rows2 marks2 id row are writes
    (λ p marked. absurd (false≢true (sym (none_absent id p entries absent spare promised are none) ∙ marked)))

module _ (entries : List (ObjectId × ObjectRow)) (absent : List PageKey) (rows marks : ℕ) (table : ObjectTable)
    (view : table_of entries absent rows marks ≡ table) where
  pub found : (o : ℕ) → object_at table o ≡ row_of entries o
  found o = rw (← view) (object_is o entries)

  pub there : (o : ℕ) → IsSome (object_at table o) → IsSome (row_of entries o)
  there o some = rw (found o) at some

  -- of an object that was lent
  pub told : (o : ℕ) (lent : Option (MutBor ObjectRow)) (row : MutBor ObjectRow) → option_copied_mut lent ≡ row_of entries o → lent ≡ Some row
      → object_at table o ≡ Some row.now
  told o lent row value is = found o ∙ sym value ∙ ap option_copied_mut is

  -- an object that is there gets another row of as many pages
  pub changed : (edited : List (ObjectId × ObjectRow)) (spare promised rows2 marks2 id : ℕ) (lent : Option (MutBor ObjectRow)) (was : MutBor ObjectRow)
      (row : ObjectRow)
      → AreMarks entries absent spare promised → option_copied_mut lent ≡ row_of entries id → lent ≡ Some was → row.pages ≡ was.now.pages
      → (IsSome (row_of entries id) → WritesRow id row entries edited) → Changed edited absent spare promised id row table (table_of edited absent rows2 marks2)
  changed edited spare promised rows2 marks2 id lent was row are value is size writes =
      let stood : row_of entries id ≡ Some was.now = sym value ∙ ap option_copied_mut is in
      let below : (p : ℕ) → absent_among id p absent ≡ true
      → p < row.pages = (λ p marked. let less = rw (object_is id entries, stood) at (are.inside id p marked) in omega (arith, less, size)) in
      rw (← view) (put entries edited absent spare promised rows marks rows2 marks2 id row are (writes (rw stood refl)) below)

-- the set has this page or not now, and each other as it did
abbrev pub WritesMark : PageKey → Bool → List PageKey → List PageKey → Type 0
WritesMark key b old new =
    (q : PageKey) → mark_of new q.object.0 q.page.0 ≡ (if key.object.0 == q.object.0 && key.page.0 == q.page.0 then b else mark_of old q.object.0 q.page.0)

pub marked : (entries entries2 : List (ObjectId × ObjectRow)) (absent edited : List PageKey) (rows marks rows2 marks2 : ℕ) (key : PageKey) (b : Bool)
    → WritesMark key b absent edited
    → PutsAbsent key.object.0 key.page.0 b (table_of entries absent rows marks) (table_of entries2 edited rows2 marks2)
marked entries entries2 absent edited rows marks rows2 marks2 key b writes = record {
  at =
      λ o p. mark_is o p edited ∙ writes (record { object = record { 0 = o }; page = record { 0 = p } })
      ∙ ap (λ z. if is_page key o p then b else z) (sym (mark_is o p absent));
}

-- a mark that is put lies below the pages of its object
pub marks_put : (entries : List (ObjectId × ObjectRow)) (absent edited : List PageKey) (spare promised spare2 promised2 : ℕ) (key : PageKey) (b : Bool)
    → AreMarks entries absent spare promised → WritesMark key b absent edited
    → (b ≡ true → IsSomeAnd (object_among key.object.0 entries) (λ row. key.page.0 < row.pages)) → promised2 ≤ spare2 → AreMarks entries edited spare2 promised2
marks_put entries absent edited spare promised spare2 promised2 key b are writes inside room =
    record { inside = λ o p is. by o p (is_page key o p) refl (sym ((marked entries entries absent edited 0 0 0 0 key b writes).at o p) ∙ is); room = room }
  where
    by : (o p : ℕ) (same : Bool) → is_page key o p ≡ same → (if is_page key o p then b else absent_among o p absent) ≡ true
        → IsSomeAnd (object_among o entries) (λ row. p < row.pages)
    by o p true same is =
        let one : key.object.0 ≡ o = grind (arith, nat_tests, same) in
        let two : key.page.0 ≡ p = grind (arith, nat_tests, same) in
        let it : b ≡ true = rw same at is in
        rw (one, two) at (inside it)
    by o p false same is = are.inside o p (rw same at is)
