-- What holds in the middle of a walk over the pages of an object.
use Rattle.std.proofs.Common.{ℕ, ◌≡◌, ◌<◌, ◌≤◌, ◌+◌, ◌++◌, ◌==◌, Bool, true, false, if◌then◌else◌, List, [], ◌∷◌, length, get_or, set, Some, refl, sym, ◌∙◌, ap}
use Rattle.std.proofs.Common.{subst, arith}
use Rattle.std.proofs.lemmas.Bool.{false≢true}
use Rattle.std.specs.Prelude.{slice_get}
use Rattle.sms_pages.specs.Directory.{Directory, is_idle, most_replies}
use Rattle.vm_base.specs.declared.ids.ObjectId.{ObjectId}
use Rattle.vm_model.specs.declared.event.Event.{Event}
use Rattle.vm_model.specs.declared.message.Message.{Message}
use Rattle.vm_sets.specs.Places.{IsNextPlace, IsWalk, KeepsPlaces, NoMarkFrom, PlaceTable, all_marks, end_of, from_of, object_of}
use Rattle.vm_sets.specs.declared.page_places.ObjectPages.{ObjectPages}
use Rattle.vm_sets.specs.declared.page_places.Place.{Place}
use Rattle.vm_sets.specs.declared.page_places.Walk.{Walk}
use Rattle.sms_server.proofs.Idle.{idle_events, idle_row, no_end_replies, quiet_host}
use Rattle.sms_server.proofs.Passing.{ArePassed, IsMadeReady, IsReadyIn, all_ready, passed_end, passed_more, passed_start, rows_after, same_row_itself}
use Rattle.sms_server.proofs.Passing.{told_end, told_more, was_there}
use Rattle.sms_server.proofs.Placed.{AreApart, IsPageOf}
use Rattle.sms_server.proofs.Walking.{NextRow, NoRow, next_row, next_within, no_row, sum_whole, weight_end, weight_from, weight_more, weight_set}
use Rattle.sms_server.specs.Answers.{IsEnd, RowAfter, row_events}
use Rattle.sms_server.specs.Kept.{ArePlaced, AreReadyToEnd, EventsInTurn, IsReadyOf, IsReadyToEnd, IsSameRow, RowsAfter, end_replies, end_replies_among}
use Rattle.sms_server.specs.Kept.{events_below, is_quiet, sum_among}
use Rattle.sms_server.specs.Table.{ArePrepared, IsPreparedOf, replies_among}
use Rattle.sms_server.specs.declared.page_row.PageRow.{PageRow}

-- the pages stand where they did, and the walk goes over those of the object
pub record Walks (object : ObjectId) (rows : List PageRow) (started places : PlaceTable) (to : Walk) : Type 0 where
  pub placed : ArePlaced places rows
  pub kept : KeepsPlaces started places
  pub walk : IsWalk places to
  pub own : object_of to ≡ object

abbrev pub waiting_of : PageRow → ℕ
waiting_of row = length row.directory.line

abbrev pub replies_of : PageRow → ℕ
replies_of row = most_replies row.directory

abbrev pub IsReady : PageRow → Type 0
IsReady row = row.directory.prepared ≡ true

-- of the pages to which the walk has come it is known how many replies they have at most, and they have their memory
pub record Reserving (weight : PageRow → ℕ) (ready : PageRow → Type 0) (o from : ℕ) (old rows : List PageRow) (most : ℕ) : Type 0 where
  pub passed : ArePassed (IsMadeReady ready) o from old rows
  pub counted : most + weight_from weight o from rows ≡ weight_from weight o 0 old

-- their events are told, and for the others there is room
pub record Ending (h : ℕ) (m : Message) (o from : ℕ) (old rows : List PageRow) (first events : List Event) (room : ℕ) : Type 0 where
  pub passed : ArePassed (RowAfter h m) o from old rows
  pub told : events ≡ events_below h m o old from ++ first
  pub fits : weight_from (end_replies h) o from rows ≤ room
  pub few : length events + weight_from (end_replies h) o from rows ≤ length first + weight_from (end_replies h) o 0 old

own_place : (object : ObjectId) (rows : List PageRow) (started places : PlaceTable) (walk : Walk) (k : ℕ) (place : Place)
    → Walks object rows started places walk → IsNextPlace places k (object_of walk) (from_of walk) place → IsNextPlace places k object (from_of walk) place
own_place object rows started places walk k place walks next = subst (λ (id : ObjectId). IsNextPlace places k id (from_of walk) place) walks.own next

pub within : (object : ObjectId) (rows : List PageRow) (started places : PlaceTable) (walk : Walk) (k : ℕ) (place : Place)
    → Walks object rows started places walk → IsNextPlace places k (object_of walk) (from_of walk) place → place.at < length rows
within object rows started places walk k place walks next =
    next_within places rows k object (from_of walk) place walks.placed (own_place object rows started places walk k place walks next)

-- the row to which the walk comes
pub record Reaches (k : ℕ) (object : ObjectId) (rows : List PageRow) (walk : Walk) (place : Place) (x : PageRow) : Type 0 where
  pub row : NextRow k object.0 (from_of walk) rows place.at place.key.page.0 x
  pub of : IsPageOf place.key x

pub reaches : (object : ObjectId) (rows : List PageRow) (started places : PlaceTable) (walk : Walk) (k : ℕ) (place : Place) (d x : PageRow)
    → Walks object rows started places walk → k ≤ all_marks → IsNextPlace places k (object_of walk) (from_of walk) place → x ≡ get_or rows place.at d
    → Reaches k object rows walk place x
reaches object rows started places walk k place d x walks le next read =
    let row = next_row places rows k object (from_of walk) place d x walks.placed le (own_place object rows started places walk k place walks next) read in
    record {
      row = row;
      of = record { object = row.own ∙ ap (λ (id : ObjectId). id.0) (sym (next.own ∙ walks.own)); page = row.page };
    }

pub stops : (object : ObjectId) (rows : List PageRow) (started places : PlaceTable) (walk : Walk) (k : ℕ) → Walks object rows started places walk
    → k ≤ all_marks → NoMarkFrom places k (object_of walk).0 (from_of walk) → NoRow k object.0 (from_of walk) rows
stops object rows started places walk k walks le none =
    no_row places rows k object.0 (from_of walk) walks.placed le (subst (λ (id : ObjectId). NoMarkFrom places k id.0 (from_of walk)) walks.own none)

pub walks_start : (object : ObjectId) (rows : List PageRow) (places : PlaceTable) (walk : Walk) → ArePlaced places rows → object_of walk ≡ object
    → IsWalk places walk → Walks object rows places places walk
walks_start object rows places walk placed own is = record {
  placed = placed;
  kept = record { places = λ o p. refl; objects = refl; spare = refl };
  walk = is;
  own = own;
}

pub walks_on : (object : ObjectId) (rows now : List PageRow) (started places left : PlaceTable) (walk after : Walk) → Walks object rows started places walk
    → ArePlaced left now → KeepsPlaces places left → object_of after ≡ object_of walk → IsWalk places after → Walks object now started left after
walks_on object rows now started places left walk after walks placed kept own is = record {
  placed = placed;
  kept = record {
    places = λ o p. kept.places o p ∙ walks.kept.places o p;
    objects = kept.objects ∙ walks.kept.objects;
    spare = kept.spare ∙ walks.kept.spare;
  };
  walk = is ∙ ap (λ (objects : List (ObjectId × ObjectPages)). end_of (object_of after).0 objects) (sym kept.objects);
  own = own ∙ walks.own;
}

-- The memory of the pages.

pub reserving_start : (w : PageRow → ℕ) (ready : PageRow → Type 0) (o from : ℕ) (old : List PageRow) → from ≡ 0 → Reserving w ready o from old old 0
reserving_start w ready o from old is = rw is (record { passed = passed_start (IsMadeReady ready) o old; counted = omega arith })

pub reserving_more : (w : PageRow → ℕ) (ready : PageRow → Type 0) (k o from after : ℕ) (old rows : List PageRow) (i q : ℕ) (x y : PageRow) (most more : ℕ)
    → Reserving w ready o from old rows most → NextRow k o from rows i q x → ((z : PageRow) → is_quiet k z.directory ≡ true → w z ≡ 0)
    → ((z : PageRow) → is_quiet k z.directory ≡ true → ready z) → IsSameRow (Some x) (Some y) → ready y → more ≡ most + w x → after ≡ q + 1
    → Reserving w ready o after old (set rows i y) more
reserving_more w ready k o from after old rows i q x y most more r row none still same now is on =
    let weighs = weight_more w k o from rows i q x row none in
    let left = weight_set w o (q + 1) rows i x y row.at same.0 (omega (arith, row.page)) in
    rw on (record {
      passed = passed_more (IsMadeReady ready) k o from old rows i q x y r.passed row
          (λ z quiet. record { same = same_row_itself (Some z); is = still z quiet }) same.0 (record { same = same; is = now });
      counted = omega (arith, r.counted, weighs, left, is);
    })

pub reserving_room : (w : PageRow → ℕ) (ready : PageRow → Type 0) (k o from : ℕ) (old rows : List PageRow) (i q : ℕ) (x : PageRow) (most : ℕ)
    → Reserving w ready o from old rows most → NextRow k o from rows i q x → ((z : PageRow) → is_quiet k z.directory ≡ true → w z ≡ 0)
    → most + w x ≤ weight_from w o 0 old
reserving_room w ready k o from old rows i q x most r row none =
    let weighs = weight_more w k o from rows i q x row none in
    omega (arith, r.counted, weighs)

pub reserving_end : (w : PageRow → ℕ) (ready : PageRow → Type 0) (k o from : ℕ) (old rows : List PageRow) (most : ℕ) → Reserving w ready o from old rows most
    → NoRow k o from rows → ((z : PageRow) → is_quiet k z.directory ≡ true → w z ≡ 0) → most ≡ weight_from w o 0 old
reserving_end w ready k o from old rows most r last none = let zero_left = weight_end w k o from rows last none in omega (arith, r.counted, zero_left)

-- all pages of the object are ready then
pub ready_end : (w : PageRow → ℕ) (ready : PageRow → Type 0) (k o from : ℕ) (old rows : List PageRow) (most : ℕ) → Reserving w ready o from old rows most
    → NoRow k o from rows → ((z : PageRow) → is_quiet k z.directory ≡ true → ready z) → (j : ℕ) → IsReadyIn ready o (slice_get rows j)
ready_end w ready k o from old rows most r last still =
    all_ready ready o old rows (passed_end (IsMadeReady ready) k o from old rows r.passed last
    (λ z quiet. record { same = same_row_itself (Some z); is = still z quiet }))

-- a page to which the walk comes has its memory where all of the object had
pub prepared_there : (ready : PageRow → Type 0) (k o from : ℕ) (old rows : List PageRow) (i q : ℕ) (x : PageRow) → ArePassed (IsMadeReady ready) o from old rows
    → NextRow k o from rows i q x → ArePrepared o old → x.directory.prepared ≡ true
prepared_there ready k o from old rows i q x passed row prepared =
    let was = was_there (IsMadeReady ready) o from old rows i x passed row.at (λ own. omega (arith, row.low, row.page)) in
    subst (IsPreparedOf o) was (prepared i) row.own

-- the replies of the object's pages, as sums
pub replies_sum : (o : ℕ) (rows : List PageRow) → replies_among o rows ≡ weight_from replies_of o 0 rows
replies_sum o rows = by rows ∙ sum_whole replies_of o rows
  where
    by : (rows : List PageRow) → replies_among o rows ≡ sum_among replies_of o rows
    by [] = refl
    by (x ∷ xs) = ap (λ n. (if x.key.object.0 == o then most_replies x.directory else 0) + n) (by xs)

pub end_replies_few : (h o : ℕ) (rows : List PageRow) → weight_from (end_replies h) o 0 rows ≤ replies_among o rows
end_replies_few h o rows = let whole = sum_whole (end_replies h) o rows in let few = by rows in omega (arith, whole, few)
  where
    less : (d : Directory) → (if is_idle h d then 0 else most_replies d) ≤ most_replies d
    less d = one (is_idle h d)
      where
        one : (b : Bool) → (if b then 0 else most_replies d) ≤ most_replies d
        one true = omega arith
        one false = omega arith

    own : (b : Bool) (m n : ℕ) → m ≤ n → (if b then m else 0) ≤ (if b then n else 0)
    own true m n le = le
    own false m n le = omega arith

    by : (rows : List PageRow) → sum_among (end_replies h) o rows ≤ replies_among o rows
    by [] = omega arith
    by (x ∷ xs) =
        let rest = by xs in
        let first = own (x.key.object.0 == o) (end_replies h x) (most_replies x.directory) (less x.directory) in
        omega (arith, rest, first)

-- what is never quiet
pub never : {P : Type 0} (d : Directory) → is_quiet 9 d ≡ true → P
never d is = absurd (false≢true is)

-- The ends of the pages.

pub ending_start : (h : ℕ) (m : Message) (o from : ℕ) (old : List PageRow) (events : List Event) (room : ℕ) → from ≡ 0 → end_replies_among h o old ≤ room
    → Ending h m o from old old events events room
ending_start h m o from old events room is fits =
    let whole = sum_whole (end_replies h) o old in
    rw is (record {
      passed = passed_start (RowAfter h m) o old;
      told = refl;
      fits = omega (arith, whole, fits);
      few = omega arith;
    })

pub ending_more : (h : ℕ) (m : Message) (o from after : ℕ) (old rows : List PageRow) (i q : ℕ) (x y : PageRow) (first events more : List Event) (room less : ℕ)
    → Ending h m o from old rows first events room → NextRow h o from rows i q x → AreApart old → IsEnd m → h < 8 → RowAfter h m x y
    → more ≡ row_events h m x ++ events → length more ≤ length events + end_replies h x → room ≤ less + end_replies h x → after ≡ q + 1
    → Ending h m o after old (set rows i y) first more less
ending_more h m o from after old rows i q x y first events more room less e row apart end low made told few fits on =
    let weighs = weight_more (end_replies h) h o from rows i q x row (λ z is. no_end_replies h z low is) in
    let left = weight_set (end_replies h) o (q + 1) rows i x y row.at made.key (omega (arith, row.page)) in
    let silent : (z : PageRow) → is_quiet h z.directory ≡ true → row_events h m z ≡ [] = λ z is. idle_events h m z end (quiet_host h z.directory low is) in
    let still : (z : PageRow) → is_quiet h z.directory ≡ true → RowAfter h m z z = λ z is. idle_row h m z end (quiet_host h z.directory low is) in
    rw on (record {
      passed = passed_more (RowAfter h m) h o from old rows i q x y e.passed row still made.key made;
      told = told_more (RowAfter h m) h m h o from old rows i q x first events more e.passed apart row silent e.told told;
      fits = omega (arith, e.fits, weighs, left, fits);
      few = omega (arith, e.few, weighs, left, few);
    })

-- the row to which the walk comes has its memory, and there is room for its events
pub ending_ready : (h : ℕ) (m : Message) (o from : ℕ) (old rows : List PageRow) (i q : ℕ) (x : PageRow) (first events : List Event) (room : ℕ)
    → Ending h m o from old rows first events room → NextRow h o from rows i q x → AreReadyToEnd h o old → IsReadyToEnd h x
ending_ready h m o from old rows i q x first events room e row ready =
    let was = was_there (RowAfter h m) o from old rows i x e.passed row.at (λ own. omega (arith, row.low, row.page)) in
    subst (IsReadyOf h o) was (ready i) row.own

pub ending_room : (h : ℕ) (m : Message) (o from : ℕ) (old rows : List PageRow) (i q : ℕ) (x : PageRow) (first events : List Event) (room : ℕ)
    → Ending h m o from old rows first events room → NextRow h o from rows i q x → h < 8 → end_replies h x ≤ room
ending_room h m o from old rows i q x first events room e row low =
    let weighs = weight_more (end_replies h) h o from rows i q x row (λ z is. no_end_replies h z low is) in
    omega (arith, e.fits, weighs)

pub record Ended (h : ℕ) (m : Message) (o : ℕ) (old rows : List PageRow) (first events : List Event) : Type 0 where
  pub rows_are : RowsAfter h m o old rows
  pub told : EventsInTurn h m o old first events
  pub few : length events ≤ length first + end_replies_among h o old

pub ending_end : (h : ℕ) (m : Message) (o from : ℕ) (old rows : List PageRow) (first events : List Event) (room : ℕ)
    → Ending h m o from old rows first events room → NoRow h o from rows → IsEnd m → h < 8 → Ended h m o old rows first events
ending_end h m o from old rows first events room e last end low =
    let silent : (z : PageRow) → is_quiet h z.directory ≡ true → row_events h m z ≡ [] = λ z is. idle_events h m z end (quiet_host h z.directory low is) in
    let still : (z : PageRow) → is_quiet h z.directory ≡ true → RowAfter h m z z = λ z is. idle_row h m z end (quiet_host h z.directory low is) in
    let whole = sum_whole (end_replies h) o old in
    record {
      rows_are = rows_after h m o old rows (passed_end (RowAfter h m) h o from old rows e.passed last still);
      told = record { bound = from; none = told_end (RowAfter h m) h m h o from old rows e.passed last silent; are = e.told };
      few = omega (arith, whole, e.few);
    }
