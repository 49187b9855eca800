-- What an edit of the pages leaves of the table.
use Rattle.std.proofs.Common.{ℕ, zero, suc, ◌≡◌, ◌<◌, ◌≤◌, ◌+◌, ◌*◌, ◌==◌, Bool, true, false, if◌then◌else◌, List, [], ◌∷◌, ◌++◌, length, get_or, set, replicate, Option}
use Rattle.std.proofs.Common.{Some, None, refl, sym, ◌∙◌, ap, subst, ⊎_elim, arith}
use Rattle.std.proofs.lemmas.Bool.{cases_Bool, false≢true}
use Rattle.std.proofs.lemmas.Bool.Decides.{nat_tests}
use Rattle.std.proofs.lemmas.Option.{get_or_from_slice_get, none-some, same_Some, slice_get_within}
use Rattle.std.specs.Prelude.{◌&&◌, slice_get, slice_index}
use Rattle.sms_pages.specs.Directory.{Directory, IsNewDirectory, IsSame, most_replies}
use Rattle.vm_base.proofs.Keys.{itself, page_read}
use Rattle.vm_base.specs.Keys.{is_page}
use Rattle.vm_base.specs.declared.ids.PageKey.{PageKey}
use Rattle.std.specs.Option.{option_map_or}
use Rattle.vm_base.specs.declared.ids.ObjectId.{ObjectId}
use Rattle.vm_sets.specs.Places.{KeepsPlaces, PlaceTable, PutsPlace, all_marks, has_mark, known_of, pages_in, place_in}
use Rattle.vm_sets.specs.declared.page_places.ObjectPages.{ObjectPages}
use Rattle.vm_model.specs.declared.event.Event.{Event}
use Rattle.sms_server.proofs.Idle.{same_quiet}
use Rattle.sms_server.proofs.Passing.{same_row_itself}
use Rattle.sms_server.proofs.Placed.{among_at, are_apart, each_pushed, each_set, placed_changed, row_pushed, row_there}
use Rattle.sms_server.specs.Kept.{AreWhole, ArePlaced, HasMemory, IsKept, IsMarked, IsRowAt, IsRowOf, IsSameRow, RowsAreSame, StandsThere, end_replies, end_replies_among}
use Rattle.sms_server.specs.Kept.{is_quiet, pages_among, waiting_among}
use Rattle.sms_server.specs.Table.{IsPrepared, IsPreparedOf, IsSamePage, IsSameTable, ServerTable, directory_in, heard_in, replies_among, row_among}
use Rattle.sms_server.specs.declared.page_row.PageRow.{PageRow}

-- a page that is named

whole_pushed : (size : ℕ) (new : PageRow) (rows : List PageRow) → AreWhole size rows → length new.directory.bytes ≡ size → length new.heard ≡ 8
    → AreWhole size (rows ++ new ∷ [])
whole_pushed size new [] whole bytes eight = (bytes, eight, tt)
whole_pushed size new (x ∷ xs) whole bytes eight = (whole.0, whole.1, whole_pushed size new xs whole.2 bytes eight)

none_heard : (n h : ℕ) → slice_index (replicate n 0) h ≡ 0
none_heard zero h = refl
none_heard (suc n) zero = refl
none_heard (suc n) (suc h) = none_heard n h

-- what is left where a page is named
pub record Named (size : ℕ) (rows left : List PageRow) : Type 0 where
  pub whole : AreWhole size left
  pub same : (old new : ServerTable) → old.size ≡ size → old.rows ≡ rows → new.size ≡ size → new.rows ≡ left → IsSameTable old new

new_page : (size : ℕ) (new : PageRow) (o p : ℕ) (before now : Option PageRow) → IsNewDirectory size new.directory → new.heard ≡ replicate 8 0
    → (is_page new.key o p ≡ true → before ≡ None) → now ≡ (if is_page new.key o p then Some new else before)
    → IsSame (directory_in size before) (directory_in size now) × ((h : ℕ) → heard_in now h ≡ heard_in before h)
new_page size new o p before now is_new heard absent is =
    ⊎_elim
    (λ (here : is_page new.key o p ≡ true).
    let none = absent here in
    let at : now ≡ Some new = rw here at is in
    rw (at, none) (
      record { holds = is_new.holds; awaits = is_new.awaits; line = is_new.line; bytes = is_new.bytes },
      (λ h. ap (λ (hs : List ℕ). slice_index hs h) heard ∙ none_heard 8 h),
    ))
    (λ (apart : is_page new.key o p ≡ false).
    let at : now ≡ before = rw apart at is in
    rw at (record { holds = refl; awaits = refl; line = refl; bytes = refl }, (λ h. refl)))
    (cases_Bool (is_page new.key o p))

count_zeros : (n : ℕ) → length {A = ℕ} (replicate n 0) ≡ n
count_zeros zero = refl
count_zeros (suc n) = let rest = count_zeros n in omega (arith, rest)

same_page_of : (size : ℕ) (old now : ServerTable) (o p : ℕ) (rows : List PageRow) → old.size ≡ size → old.rows ≡ rows → now.size ≡ size
    → IsSame (directory_in size (row_among o p rows)) (directory_in size (row_among o p now.rows))
    × ((h : ℕ) → heard_in (row_among o p now.rows) h ≡ heard_in (row_among o p rows) h) → IsSamePage o p old now
same_page_of size old now o p rows one two three page = record { directory = rw (one, two, three) page.0; heard = rw two page.1 }

pub named : (size : ℕ) (rows left : List PageRow) (new : PageRow) → AreWhole size rows → row_among new.key.object.0 new.key.page.0 rows ≡ None
    → left ≡ rows ++ new ∷ [] → IsNewDirectory size new.directory → new.heard ≡ replicate 8 0 → Named size rows left
named size rows left new whole absent is is_new heard =
    let bytes : length new.directory.bytes ≡ size = ap length is_new.bytes ∙ count_zeros size in
    let eight : length new.heard ≡ 8 = ap length heard in
    let absent_at : (o p : ℕ) → is_page new.key o p ≡ true
    → row_among o p rows ≡ None = λ o p here. let read = page_read new.key o p here in rw (read.object, read.page) at absent in
    rw is (record {
      whole = whole_pushed size new rows whole bytes eight;
      same = λ old now one two three four. record {
        size = three ∙ sym one;
        pages = λ o p.
            let page = new_page size new o p (row_among o p rows) (row_among o p now.rows) is_new heard (absent_at o p)
            (ap (row_among o p) four ∙ row_pushed o p new rows absent) in
            same_page_of size old now o p rows one two three page;
      };
    })

-- a row, if there is one, is of another page
abbrev IsOfOther : PageKey → Option PageRow → Type 0
IsOfOther key None = Unit {0}
IsOfOther key (Some row) = is_page key row.key.object.0 row.key.page.0 ≡ false

-- the page stands at the end of the list
pub placed_pushed : (places left : PlaceTable) (rows : List PageRow) (key : PageKey) (new : PageRow) → ArePlaced places rows → new.key ≡ key
    → PutsPlace key (length rows) places left → row_among key.object.0 key.page.0 rows ≡ None → ArePlaced left (rows ++ new ∷ [])
placed_pushed places left rows key new placed same puts absent = record {
  leads = λ o p i stood.
      each_pushed (λ i r. place_in left o p ≡ Some i → IsRowOf o p r) rows new (λ stood. own o p stood) (λ i apart stood. other o p i apart stood) i stood;
  stand =
      each_pushed (StandsThere left) rows new
      (subst (λ (z : PageKey). place_in left z.object.0 z.page.0 ≡ Some (length rows)) (sym same) there)
      (λ i apart. stays i (slice_get rows i) refl (placed.stand i));
  marked = λ i k le.
      each_pushed (λ i r. IsMarked left k r) rows new
      (subst (λ (z : PageKey). has_mark left k z.object.0 z.page.0 ≡ false → is_quiet k new.directory ≡ true) (sym same)
      (λ unmarked. absurd (false≢true (sym unmarked ∙ rw (itself key) at (puts.marks k key.object.0 key.page.0 le)))))
      (λ i apart. unmarked k le (slice_get rows i) (differs i (slice_get rows i) refl) (placed.marked i k le))
      i;
} where
  there : place_in left key.object.0 key.page.0 ≡ Some (length rows)
  there = rw (itself key) at (puts.places key.object.0 key.page.0)

  -- another page
  at_other : (o p : ℕ) → is_page key o p ≡ false → place_in left o p ≡ place_in places o p
  at_other o p apart = rw apart at (puts.places o p)

  own : (o p : ℕ) → place_in left o p ≡ Some (length rows) → IsRowOf o p (Some new)
  own o p stood =
      ⊎_elim
      (λ (here : is_page key o p ≡ true). let read = page_read key o p here in rw same (read.object, read.page))
      (λ (apart : is_page key o p ≡ false).
      let f = row_there o p (length rows) (slice_get rows (length rows)) (placed.leads o p (length rows) (sym (at_other o p apart) ∙ stood)) in
      let within = slice_get_within rows (length rows) f.0 f.1 in
      absurd (omega arith))
      (cases_Bool (is_page key o p))

  other : (o p i : ℕ) → (i ≡ length rows → ⊥) → place_in left o p ≡ Some i → IsRowOf o p (slice_get rows i)
  other o p i apart stood =
      ⊎_elim
      (λ (here : is_page key o p ≡ true).
      let at : place_in left o p ≡ Some (length rows) = rw here at (puts.places o p) in
      absurd (apart (same_Some i (length rows) (sym stood ∙ at))))
      (λ (differ : is_page key o p ≡ false). placed.leads o p i (sym (at_other o p differ) ∙ stood))
      (cases_Bool (is_page key o p))

  -- no row before is of the page
  differs : (i : ℕ) (r : Option PageRow) → slice_get rows i ≡ r → IsOfOther key r
  differs i None is = tt
  differs i (Some z) is =
      ⊎_elim
      (λ (here : is_page key z.key.object.0 z.key.page.0 ≡ true).
      let read = page_read key z.key.object.0 z.key.page.0 here in
      let among = among_at i z rows (are_apart places rows placed) is in
      absurd (none-some z (sym (rw (read.object, read.page) at absent) ∙ among)))
      (λ (apart : is_page key z.key.object.0 z.key.page.0 ≡ false). apart)
      (cases_Bool (is_page key z.key.object.0 z.key.page.0))

  stays : (i : ℕ) (r : Option PageRow) → slice_get rows i ≡ r → StandsThere places i r → StandsThere left i r
  stays i None is stood = tt
  stays i (Some z) is stood = at_other z.key.object.0 z.key.page.0 (differs i (Some z) is) ∙ stood

  unmarked : (k : ℕ) → k ≤ all_marks → (r : Option PageRow) → IsOfOther key r → IsMarked places k r → IsMarked left k r
  unmarked k le None apart marked = tt
  unmarked k le (Some z) apart marked = λ un. marked (sym (rw apart at (puts.marks k z.key.object.0 z.key.page.0 le)) ∙ un)

-- there is a page more of its object
pub counted_pushed : (places left : PlaceTable) (rows : List PageRow) (key : PageKey) (new : PageRow) → ((o : ℕ) → pages_in places o ≡ pages_among o rows)
    → new.key ≡ key → PutsPlace key (length rows) places left → (o : ℕ) → pages_in left o ≡ pages_among o (rows ++ new ∷ [])
counted_pushed places left rows key new counted same puts o =
    let object : (new.key.object.0 == o) ≡ (key.object.0 == o) = ap (λ (z : PageKey). z.object.0 == o) same in
    let more : pages_among o (rows ++ new ∷ []) ≡ pages_among o rows + (if key.object.0 == o then 1 else 0) = rw object at (pushed rows) in
    let was = counted o in
    let now = puts.pages o in
    omega (arith, more, was, now)
  where
    pushed : (rows : List PageRow) → pages_among o (rows ++ new ∷ []) ≡ pages_among o rows + (if new.key.object.0 == o then 1 else 0)
    pushed [] = omega arith
    pushed (x ∷ xs) = let rest = pushed xs in omega (arith, rest)

-- the replies of one page are among those of its object
pub one_of : (o : ℕ) (rows : List PageRow) (i : ℕ) (x : PageRow) → slice_get rows i ≡ Some x → x.key.object.0 ≡ o
    → most_replies x.directory ≤ replies_among o rows
one_of o [] i x is own = absurd (none-some x is)
one_of o (y ∷ ys) zero x is own =
    let same : y ≡ x = same_Some y x is in
    let of : (x.key.object.0 == o) ≡ true = grind (arith, nat_tests) in
    rw (same, of) (omega arith)
one_of o (y ∷ ys) (suc i) x is own = let rest = one_of o ys i x is own in omega (arith, rest)

pub same_table_itself : (table : ServerTable) → IsSameTable table table
same_table_itself table =
    record { size = refl; pages = λ o p. record { directory = record { holds = refl; awaits = refl; line = refl; bytes = refl }; heard = λ h. refl } }

pub same_table_then : (a b c : ServerTable) → IsSameTable a b → IsSameTable b c → IsSameTable a c
same_table_then a b c one two = record {
  size = two.size ∙ one.size;
  pages = λ o p.
      let first = one.pages o p in
      let second = two.pages o p in
      record {
        directory =
            record {
              holds = second.directory.holds ∙ first.directory.holds;
              awaits = second.directory.awaits ∙ first.directory.awaits;
              line = second.directory.line ∙ first.directory.line;
              bytes = second.directory.bytes ∙ first.directory.bytes;
            };
        heard = λ h. second.heard h ∙ first.heard h;
      };
}

-- rows that are as they were but for the memory at hand

same_replies : (o : ℕ) (x y : PageRow) (m n : ℕ) → IsSameRow (Some x) (Some y) → n ≡ m
    → (if y.key.object.0 == o then most_replies y.directory else 0) + n ≡ (if x.key.object.0 == o then most_replies x.directory else 0) + m
same_replies o x y m n same is = rw (same.0, same.1.line, is) refl

pub whole_same : (size : ℕ) (old new : List PageRow) → RowsAreSame old new → AreWhole size old → AreWhole size new
whole_same size [] [] same whole = tt
whole_same size [] (y ∷ ys) same whole = absurd (same 0)
whole_same size (x ∷ xs) [] same whole = absurd (same 0)
whole_same size (x ∷ xs) (y ∷ ys) same whole =
    let first = same 0 in
    (ap length first.1.bytes ∙ whole.0, ap length first.2 ∙ whole.1, whole_same size xs ys (λ k. same (suc k)) whole.2)

pub replies_same : (o : ℕ) (old new : List PageRow) → RowsAreSame old new → replies_among o new ≡ replies_among o old
replies_same o [] [] same = refl
replies_same o [] (y ∷ ys) same = absurd (same 0)
replies_same o (x ∷ xs) [] same = absurd (same 0)
replies_same o (x ∷ xs) (y ∷ ys) same = same_replies o x y (replies_among o xs) (replies_among o ys) (same 0) (replies_same o xs ys (λ k. same (suc k)))

pub row_same : (o p : ℕ) (old new : List PageRow) → RowsAreSame old new → IsSameRow (row_among o p old) (row_among o p new)
row_same o p [] [] same = tt
row_same o p [] (y ∷ ys) same = absurd (same 0)
row_same o p (x ∷ xs) [] same = absurd (same 0)
row_same o p (x ∷ xs) (y ∷ ys) same =
    let first = same 0 in
    let test : is_page y.key o p ≡ is_page x.key o p = ap (λ (key : PageKey). is_page key o p) first.0 in
    rw test (by (is_page x.key o p) (row_same o p xs ys (λ k. same (suc k))))
  where
    by : (b : Bool) → IsSameRow (row_among o p xs) (row_among o p ys)
        → IsSameRow (if b then Some x else row_among o p xs) (if b then Some y else row_among o p ys)
    by true rest = same 0
    by false rest = rest

same_in : (size : ℕ) (old new : Option PageRow) → IsSameRow old new → IsSame (directory_in size old) (directory_in size new)
    × ((h : ℕ) → heard_in new h ≡ heard_in old h)
same_in size None None same = (record { holds = refl; awaits = refl; line = refl; bytes = refl }, (λ h. refl))
same_in size None (Some y) same = absurd same
same_in size (Some x) None same = absurd same
same_in size (Some x) (Some y) same = (same.1, (λ h. ap (λ (hs : List ℕ). slice_index hs h) same.2))

pub table_same : (old new : ServerTable) (rows : List PageRow) → old.rows ≡ rows → new.size ≡ old.size → RowsAreSame rows new.rows → IsSameTable old new
table_same old new rows one two same = record {
  size = two;
  pages =
      λ o p. same_page_of old.size old new o p rows refl one two (same_in old.size (row_among o p rows) (row_among o p new.rows)
      (row_same o p rows new.rows same));
}

pub rows_set : (rows : List PageRow) (i : ℕ) (x y : PageRow) → slice_get rows i ≡ Some x → IsSameRow (Some x) (Some y) → RowsAreSame rows (set rows i y)
rows_set rows i x y is same =
    each_set (λ k r. IsSameRow (slice_get rows k) r) rows i y (slice_get_within rows i x is)
    (subst (λ (r : Option PageRow). IsSameRow r (Some y)) (sym is) same) (λ k other. same_row_itself (slice_get rows k))

-- a page that is named has its memory where its object has
pub has_memory : (table : ServerTable) (rows : List PageRow) (key : PageKey) (i : ℕ) (x : PageRow) → table.rows ≡ rows → slice_get rows i ≡ Some x
    → x.key ≡ key → IsPrepared key.object.0 table → HasMemory table.room (slice_get rows i)
has_memory table rows key i x seen is same prepared =
    let own : x.key.object.0 ≡ key.object.0 = ap (λ (k : PageKey). k.object.0) same in
    let one = one_of key.object.0 rows i x is own in
    let all = ap (replies_among key.object.0) seen in
    let ready : IsPreparedOf key.object.0 (Some x) = subst (IsPreparedOf key.object.0) (ap (λ (l : List PageRow). slice_get l i) seen ∙ is)
    (prepared.pages i) in
    subst (HasMemory table.room) (sym is) (ready own, omega (arith, prepared.events, one, all))

-- the row at the place of a page
pub record StandsAt (rows : List PageRow) (key : PageKey) (i : ℕ) (x : PageRow) : Type 0 where
  pub within : i < length rows
  pub is : slice_get rows i ≡ Some x
  pub key_same : x.key ≡ key

pub found_now : (rows : List PageRow) (key : PageKey) (i : ℕ) (x : PageRow) → IsRowAt key i rows → x ≡ get_or rows i x → StandsAt rows key i x
found_now rows key i x f read =
    let same : x ≡ f.row = read ∙ get_or_from_slice_get rows i f.row x f.at in
    record {
      within = slice_get_within rows i f.row f.at;
      is = f.at ∙ ap Some (sym same);
      key_same = ap (λ (z : PageRow). z.key) same ∙ f.key_is;
    }

-- what is at hand for a further page
pub record IsAtHand (ready listed placed few : Bool) : Type 0 where
  pub has_directory : ready ≡ true
  pub has_row : listed ≡ true
  pub has_place : placed ≡ true
  pub has_number : few ≡ true

pub at_hand : (ready listed placed few : Bool) → (ready && listed && placed && few) ≡ true → IsAtHand ready listed placed few
at_hand true true true true is = record { has_directory = refl; has_row = refl; has_place = refl; has_number = refl }
at_hand true true true false is = absurd (false≢true is)
at_hand true true false few is = absurd (false≢true is)
at_hand true false placed few is = absurd (false≢true is)
at_hand false listed placed few is = absurd (false≢true is)

-- an object has no more pages than there are rows
pub pages_few : (o : ℕ) (rows : List PageRow) → pages_among o rows ≤ length rows
pages_few o [] = omega arith
pages_few o (x ∷ xs) = let rest = pages_few o xs in let first = by (x.key.object.0 == o) in omega (arith, rest, first)
  where
    by : (b : Bool) → (if b then 1 else 0) ≤ 1
    by true = omega arith
    by false = omega arith

-- rows of the same pages are as many

abbrev pub HasSameKey : Option PageRow → Option PageRow → Type 0
HasSameKey None None = Unit {0}
HasSameKey (Some x) (Some y) = y.key ≡ x.key
HasSameKey old new = ⊥

abbrev counts_for : ℕ → PageKey → ℕ
counts_for o key = if key.object.0 == o then 1 else 0

pub pages_alike : (o : ℕ) (old new : List PageRow) → ((k : ℕ) → HasSameKey (slice_get old k) (slice_get new k)) → pages_among o new ≡ pages_among o old
pages_alike o [] [] alike = refl
pages_alike o [] (y ∷ ys) alike = absurd (alike 0)
pages_alike o (x ∷ xs) [] alike = absurd (alike 0)
pages_alike o (x ∷ xs) (y ∷ ys) alike =
    let rest = pages_alike o xs ys (λ k. alike (suc k)) in
    let key : y.key ≡ x.key = alike 0 in
    let first = ap (counts_for o) key in
    omega (arith, rest, first)

same_key_of : (a b : Option PageRow) → IsSameRow a b → HasSameKey a b
same_key_of None None same = tt
same_key_of None (Some y) same = absurd same
same_key_of (Some x) None same = absurd same
same_key_of (Some x) (Some y) same = same.0

pub counted_same : (places : PlaceTable) (old new : List PageRow) → ((o : ℕ) → pages_in places o ≡ pages_among o old) → RowsAreSame old new
    → (o : ℕ) → pages_in places o ≡ pages_among o new
counted_same places old new counted same o =
    counted o ∙ sym (pages_alike o old new (λ k. same_key_of (slice_get old k) (slice_get new k) (same k)))

-- one row has its memory now
pub kept_same : (size : ℕ) (rows : List PageRow) (places : PlaceTable) (spare : Option Directory) (events left : List Event) (i : ℕ) (x y : PageRow)
    → IsKept size rows places spare events → slice_get rows i ≡ Some x → IsSameRow (Some x) (Some y) → left ≡ []
    → IsKept size (set rows i y) places spare left
kept_same size rows places spare events left i x y kept is same none =
    let alike = rows_set rows i x y is same in
    record {
      placed = placed_changed places rows i x y kept.placed is same.0 (λ k. same_quiet k x.directory y.directory same.1);
      counted = counted_same places rows (set rows i y) kept.counted alike;
      whole = whole_same size rows (set rows i y) alike kept.whole;
      new = kept.new;
      none = none;
    }

pub counted_left : (places left : PlaceTable) (rows : List PageRow) → left.objects ≡ places.objects → ((o : ℕ) → pages_in places o ≡ pages_among o rows)
    → (o : ℕ) → pages_in left o ≡ pages_among o rows
counted_left places left rows objects counted o =
    ap (λ (known : List (ObjectId × ObjectPages)). option_map_or (λ (k : ObjectPages). k.pages) (known_of o known) 0) objects ∙ counted o

pub counted_kept : (places left : PlaceTable) (old new : List PageRow) → left.objects ≡ places.objects → ((o : ℕ) → pages_in places o ≡ pages_among o old)
    → ((k : ℕ) → HasSameKey (slice_get old k) (slice_get new k)) → (o : ℕ) → pages_in left o ≡ pages_among o new
counted_kept places left old new objects counted alike o =
    counted_left places left old objects counted o ∙ sym (pages_alike o old new alike)

pub keys_set : (rows : List PageRow) (i : ℕ) (x y : PageRow) → slice_get rows i ≡ Some x → y.key ≡ x.key
    → (k : ℕ) → HasSameKey (slice_get rows k) (slice_get (set rows i y) k)
keys_set rows i x y is key =
    each_set (λ k r. HasSameKey (slice_get rows k) r) rows i y (slice_get_within rows i x is)
    (subst (λ (r : Option PageRow). HasSameKey r (Some y)) (sym is) key) (λ k other. of_itself (slice_get rows k))
  where
    of_itself : (r : Option PageRow) → HasSameKey r r
    of_itself None = tt
    of_itself (Some z) = refl

-- a walk has left the rows the same but for their memory
pub kept_walked : (size : ℕ) (rows now : List PageRow) (places left : PlaceTable) (spare : Option Directory) (events after : List Event)
    → IsKept size rows places spare events → ArePlaced left now → KeepsPlaces places left → RowsAreSame rows now → after ≡ []
    → IsKept size now left spare after
kept_walked size rows now places left spare events after kept placed keeps same none = record {
  placed = placed;
  counted = counted_kept places left rows now keeps.objects kept.counted (λ k. same_key_of (slice_get rows k) (slice_get now k) (same k));
  whole = whole_same size rows now same kept.whole;
  new = kept.new;
  none = none;
}

-- the most replies, by those who wait and by pages
pub replies_split : (o : ℕ) (rows : List PageRow) → replies_among o rows ≡ waiting_among o rows + 9 * pages_among o rows
replies_split o [] = refl
replies_split o (x ∷ xs) = let rest = replies_split o xs in by (x.key.object.0 == o) rest
  where
    by : (b : Bool) → replies_among o xs ≡ waiting_among o xs + 9 * pages_among o xs
        → (if b then most_replies x.directory else 0) + replies_among o xs
        ≡ (if b then length x.directory.line else 0) + waiting_among o xs + 9 * ((if b then 1 else 0) + pages_among o xs)
    by true rest = omega (arith, rest)
    by false rest = omega (arith, rest)

-- those of an end are the same too
pub end_replies_same : (h o : ℕ) (old new : List PageRow) → RowsAreSame old new → end_replies_among h o new ≡ end_replies_among h o old
end_replies_same h o [] [] same = refl
end_replies_same h o [] (y ∷ ys) same = absurd (same 0)
end_replies_same h o (x ∷ xs) [] same = absurd (same 0)
end_replies_same h o (x ∷ xs) (y ∷ ys) same =
    let rest = end_replies_same h o xs ys (λ k. same (suc k)) in
    by (same 0) rest
  where
    by : IsSameRow (Some x) (Some y) → end_replies_among h o ys ≡ end_replies_among h o xs
        → (if y.key.object.0 == o then end_replies h y else 0) + end_replies_among h o ys
        ≡ (if x.key.object.0 == o then end_replies h x else 0) + end_replies_among h o xs
    by row rest = rw (row.0, row.1.line, row.1.holds, row.1.awaits, rest) refl
