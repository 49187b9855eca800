-- What a page's answer is to the table.
use Rattle.std.proofs.Common.{ℕ, zero, suc, ◌≡◌, ◌≢◌, ◌<◌, ◌≤◌, ◌+◌, ◌==◌, Bool, true, false, if◌then◌else◌, List, [], ◌∷◌, ◌++◌, length, replicate, set}
use Rattle.std.proofs.Common.{Option, Some, None, refl, sym, ◌∙◌, ap, subst, ⊎_elim, append_assoc, arith}
use Rattle.std.proofs.lemmas.Bool.{cases_Bool, cases_lt, false≢true}
use Rattle.std.proofs.lemmas.Bool.Decides.{nat_tests}
use Rattle.std.proofs.lemmas.List.{append-nil, get_or-set_other, get_or-set_same}
use Rattle.std.proofs.lemmas.Option.{none-some, same_Some}
use Rattle.std.specs.Prelude.{slice_get, slice_index, slice_set}
use native.Mathlib.Decide.{ℕ_discrete}
use Rattle.sms_pages.specs.Directory.{Directory, IsSame, most_replies}
use Rattle.sms_pages.specs.declared.reply.Reply.{Reply}
use Rattle.vm_base.proofs.Keys.{page_read}
use Rattle.vm_base.specs.Keys.{is_page}
use Rattle.vm_base.specs.declared.ids.ObjectId.{ObjectId}
use Rattle.vm_base.specs.declared.ids.PageKey.{PageKey}
use Rattle.vm_model.specs.Server.{Wanting}
use Rattle.vm_model.specs.Words.{UpWord, Asking, Unlocking, Returning, Doing, Ending, OtherUp, in_range, up_word}
use Rattle.vm_model.specs.declared.event.Event.{Event}
use Rattle.vm_model.specs.declared.message.Message.{Message}
use Rattle.vm_model.specs.declared.message.Message.TheVariants as message
use Rattle.sms_server.proofs.Naming.{HasSameKey}
use Rattle.sms_server.proofs.Placed.{AreApart, among_at, row_set}
use Rattle.sms_server.proofs.Words.{both_words, row_whole, row_words}
use Rattle.sms_server.specs.Answers.{AnswerEvents, DirectoryAfter, IsAbout, IsEnd, IsOfOnePage, PageAfter, ReturnsWhole, RisesFrom, RowAfter, ServerAnswer}
use Rattle.sms_server.specs.Answers.{AreServerWords, heard_by, is_among, heard_row, page_events, page_no, replies_to, reply_events, row_events, stretches}
use Rattle.sms_server.specs.Kept.{AreWhole, EventsInTurn, IsRowAfter, RowsAfter, events_below, events_if}
use Rattle.sms_server.specs.Table.{IsSamePage, IsSameTable, ServerTable, directory_at, directory_in, heard_at, most_events, new_directory, replies_among}
use Rattle.sms_server.specs.Table.{row_among}
use Rattle.sms_server.specs.declared.page_row.PageRow.{PageRow}

-- a table that is the same but for the memory at hand answers the same

abbrev with_memory : Directory → Bool → Directory
with_memory d b = record d { prepared = b }

same_is : (old new : Directory) → IsSame old new → new ≡ with_memory old new.prepared
same_is old new same =
    ap (λ (x : List ℕ). record new { holds = x }) same.holds
    ∙ (ap (λ (x : List ℕ). record new { holds = old.holds; awaits = x }) same.awaits
    ∙ (ap (λ (x : List Wanting). record new { holds = old.holds; awaits = old.awaits; line = x }) same.line
    ∙ ap (λ (x : List ℕ). record new { holds = old.holds; awaits = old.awaits; line = old.line; bytes = x }) same.bytes))

after_memory : (h : ℕ) (w : UpWord) (d new : Directory) (b : Bool) → DirectoryAfter h w (with_memory d b) new → DirectoryAfter h w d new
after_memory h (Asking control access) d new b after = record { exact = after.exact; bytes = after.bytes }
after_memory h (Unlocking access) d new b after = record { exact = after.exact; bytes = after.bytes }
after_memory h (Returning dirty keep bytes) d new b after = record { exact = after.exact; bytes = after.bytes }
after_memory h (Doing control count) d new b after = record { exact = after.exact; bytes = after.bytes }
after_memory h (Ending control) d new b after = record { exact = after.exact; bytes = after.bytes }
after_memory h OtherUp d new b after = record { holds = after.holds; awaits = after.awaits; line = after.line; bytes = after.bytes }

replies_memory : (h : ℕ) (w : UpWord) (d : Directory) (b : Bool) → replies_to h w (with_memory d b) ≡ replies_to h w d
replies_memory h (Asking control access) d b = refl
replies_memory h (Unlocking access) d b = refl
replies_memory h (Returning dirty keep bytes) d b = refl
replies_memory h (Doing control count) d b = refl
replies_memory h (Ending control) d b = refl
replies_memory h OtherUp d b = refl

after_same : (h : ℕ) (w : UpWord) (old now new : Directory) → IsSame old now → DirectoryAfter h w now new → DirectoryAfter h w old new
after_same h w old now new same after = after_memory h w old new now.prepared (subst (λ (d : Directory). DirectoryAfter h w d new) (same_is old now same) after)

replies_same_word : (h : ℕ) (w : UpWord) (old now : Directory) → IsSame old now → replies_to h w now ≡ replies_to h w old
replies_same_word h w old now same = ap (replies_to h w) (same_is old now same) ∙ replies_memory h w old now.prepared

heard_by_same : (h : ℕ) (w : UpWord) (old now : ℕ → ℕ) → ((g : ℕ) → now g ≡ old g) → (g : ℕ) → heard_by h w now g ≡ heard_by h w old g
heard_by_same h (Asking control access) old now same g = ap (λ (n : ℕ). if h == g then control else n) (same g)
heard_by_same h (Unlocking access) old now same g = same g
heard_by_same h (Returning dirty keep bytes) old now same g = same g
heard_by_same h (Doing control count) old now same g = same g
heard_by_same h (Ending control) old now same g = same g
heard_by_same h OtherUp old now same g = same g

events_heard : (object : ObjectId) (p : ℕ) (old now : ℕ → ℕ) (rs : List Reply) → ((g : ℕ) → now g ≡ old g)
    → reply_events object (page_no p) now rs ≡ reply_events object (page_no p) old rs
events_heard object p old now rs same = ap (λ (f : ℕ → ℕ). reply_events object (page_no p) f rs) (λ i g. same g i)

page_events_same : (old now : ServerTable) (h : ℕ) (object : ObjectId) (m : Message) (p : ℕ) → IsSamePage object.0 p old now
    → page_events now h object m p ≡ page_events old h object m p
page_events_same old now h object m p same =
    ap (reply_events object (page_no p) (heard_by h (up_word p m) (heard_at now object.0 p)))
    (replies_same_word h (up_word p m) (directory_at old object.0 p) (directory_at now object.0 p) same.directory)
    ∙ events_heard object p (heard_by h (up_word p m) (heard_at old object.0 p)) (heard_by h (up_word p m) (heard_at now object.0 p))
    (replies_to h (up_word p m) (directory_at old object.0 p)) (heard_by_same h (up_word p m) (heard_at old object.0 p) (heard_at now object.0 p)
    same.heard)

stretches_same : (old now : ServerTable) (h : ℕ) (object : ObjectId) (m : Message) (ps : List ℕ) → IsSameTable old now
    → stretches now h object m ps ≡ stretches old h object m ps
stretches_same old now h object m [] same = refl
stretches_same old now h object m (p ∷ ps) same =
    ap (λ (es : List Event). es ++ page_events now h object m p) (stretches_same old now h object m ps same)
    ∙ ap (λ (es : List Event). stretches old h object m ps ++ es) (page_events_same old now h object m p (same.pages object.0 p))

page_after_same : (h o : ℕ) (m : Message) (p : ℕ) (old now new : ServerTable) → IsSamePage o p old now → PageAfter h o m p now new → PageAfter h o m p old new
page_after_same h o m p old now new same after = record {
  directory = after_same h (up_word p m) (directory_at old o p) (directory_at now o p) (directory_at new o p) same.directory after.directory;
  heard = λ g. after.heard g ∙ heard_by_same h (up_word p m) (heard_at old o p) (heard_at now o p) same.heard g;
}

-- the heard controls, as a row keeps them
heard_row_is : (h : ℕ) (w : UpWord) (heard : List ℕ) → h < length heard → (g : ℕ) → slice_index (heard_row h w heard) g ≡ heard_by h w (slice_index heard) g
heard_row_is h (Asking control access) heard within g = elim (ℕ_discrete g h) [
  | yes e ↦ subst (λ (k : ℕ). slice_index (slice_set heard h control) k ≡ (if h == k then control else slice_index heard k)) (sym e)
      (let yes_is : (h == h) ≡ true = grind (arith, nat_tests) in rw yes_is (get_or-set_same heard h control 0 within))
  | no e ↦ let no_is : (h == g) ≡ false = grind (arith, nat_tests) in rw no_is (get_or-set_other heard h g control 0 e)
]
heard_row_is h (Unlocking access) heard within g = refl
heard_row_is h (Returning dirty keep bytes) heard within g = refl
heard_row_is h (Doing control count) heard within g = refl
heard_row_is h (Ending control) heard within g = refl
heard_row_is h OtherUp heard within g = refl

-- one page's answer, in the table's words
pub row_events_are : (table : ServerTable) (h : ℕ) (object : ObjectId) (m : Message) (x : PageRow) → row_among object.0 x.key.page.0 table.rows ≡ Some x
    → x.key.object ≡ object → h < length x.heard → row_events h m x ≡ page_events table h object m x.key.page.0
row_events_are table h object m x among own within =
    rw (own, among) (events_heard object x.key.page.0 (heard_by h (up_word x.key.page.0 m) (slice_index x.heard))
    (slice_index (heard_row h (up_word x.key.page.0 m) x.heard)) (replies_to h (up_word x.key.page.0 m) x.directory)
    (heard_row_is h (up_word x.key.page.0 m) x.heard within))

-- the page that a message of one page speaks of

other_word : (m : Message) (p q : ℕ) → IsAbout p m → IsOfOnePage m → (p == q) ≡ false → up_word q m ≡ OtherUp
other_word (message.Request control page access) p q about one apart = let e = about.0 in rw e (rw apart refl)
other_word (message.Unlock control page access) p q about one apart = let e : page.0 ≡ p = about in rw e (rw apart refl)
other_word (message.Return control page dirty keep bytes) p q about one apart = let e : page.0 ≡ p = about in rw e (rw apart refl)
other_word (message.Completed control page count) p q about one apart =
    let e = about.0 in let n = about.1 in let out : in_range q page.0 count ≡ false = grind (arith, nat_tests) in rw out refl
other_word (message.Terminate control) p q about one apart = absurd one
other_word (message.Init control size) p q about one apart = absurd about
other_word (message.Create control size) p q about one apart = absurd about
other_word (message.Ready cache strategy) p q about one apart = absurd about
other_word (message.Supply page lock precious bytes) p q about one apart = absurd about
other_word (message.Unavailable page) p q about one apart = absurd about
other_word (message.Error page reason) p q about one apart = absurd about
other_word (message.Lock page count returns flush lock reply) p q about one apart = absurd about
other_word (message.Attributes cache strategy reply) p q about one apart = absurd about
other_word (message.Destroy reason) p q about one apart = absurd about
other_word (message.Changed control cache strategy) p q about one apart = absurd about

answer_of : (table : ServerTable) (h : ℕ) (object : ObjectId) (m : Message) (p : ℕ) (events : List Event) → IsAbout p m → IsOfOnePage m
    → events ≡ page_events table h object m p → AnswerEvents table h object m events
answer_of table h object (message.Request control page access) p events about one is =
    is ∙ ap (page_events table h object (message.Request control page access)) (sym about.0)
answer_of table h object (message.Unlock control page access) p events about one is =
    is ∙ ap (page_events table h object (message.Unlock control page access)) (sym about)
answer_of table h object (message.Return control page dirty keep bytes) p events about one is =
    is ∙ ap (page_events table h object (message.Return control page dirty keep bytes)) (sym about)
answer_of table h object (message.Completed control page count) p events about one is =
    is ∙ ap (page_events table h object (message.Completed control page count)) (sym about.0)
answer_of table h object (message.Terminate control) p events about one is = absurd one
answer_of table h object (message.Init control size) p events about one is = absurd about
answer_of table h object (message.Create control size) p events about one is = absurd about
answer_of table h object (message.Ready cache strategy) p events about one is = absurd about
answer_of table h object (message.Supply page lock precious bytes) p events about one is = absurd about
answer_of table h object (message.Unavailable page) p events about one is = absurd about
answer_of table h object (message.Error page reason) p events about one is = absurd about
answer_of table h object (message.Lock page count returns flush lock reply) p events about one is = absurd about
answer_of table h object (message.Attributes cache strategy reply) p events about one is = absurd about
answer_of table h object (message.Destroy reason) p events about one is = absurd about
answer_of table h object (message.Changed control cache strategy) p events about one is = absurd about

pub whole_at : (size i : ℕ) (x : PageRow) (rows : List PageRow) → AreWhole size rows → slice_get rows i ≡ Some x → (length x.directory.bytes ≡ size)
    × (length x.heard ≡ 8)
whole_at size i x [] whole is = absurd (none-some x is)
whole_at size zero x (y ∷ ys) whole is = subst (λ (z : PageRow). (length z.directory.bytes ≡ size) × (length z.heard ≡ 8)) (same_Some y x is) (whole.0, whole.1)
whole_at size (suc i) x (y ∷ ys) whole is = whole_at size i x ys whole.2 is

pub whole_set : (size i : ℕ) (new : PageRow) (rows : List PageRow) → AreWhole size rows → length new.directory.bytes ≡ size → length new.heard ≡ 8
    → AreWhole size (set rows i new)
whole_set size zero new [] whole bytes eight = tt
whole_set size (suc i) new [] whole bytes eight = tt
whole_set size zero new (y ∷ ys) whole bytes eight = (bytes, eight, whole.2)
whole_set size (suc i) new (y ∷ ys) whole bytes eight = (whole.0, whole.1, whole_set size i new ys whole.2 bytes eight)

-- the answer of one page
pub record Answers (h : ℕ) (object : ObjectId) (page : ℕ) (m : Message) (rows : List PageRow) (i : ℕ) (x y : PageRow) : Type 0 where
  pub apart : AreApart rows
  pub is : slice_get rows i ≡ Some x
  pub own : x.key.object ≡ object
  pub at_page : x.key.page.0 ≡ page
  pub about : IsAbout page m
  pub one : IsOfOnePage m
  pub after : RowAfter h m x y
  pub within : h < length x.heard

-- a page that is the same in two tables, one after another
page_joined : (o p : ℕ) (old table now : ServerTable) → IsSamePage o p old table → IsSamePage o p table now → IsSamePage o p old now
page_joined o p old table now one two = record {
  directory = record {
    holds = two.directory.holds ∙ one.directory.holds;
    awaits = two.directory.awaits ∙ one.directory.awaits;
    line = two.directory.line ∙ one.directory.line;
    bytes = two.directory.bytes ∙ one.directory.bytes;
  };
  heard = λ g. two.heard g ∙ one.heard g;
}

page_itself : (o p : ℕ) (table now : ServerTable) → now.size ≡ table.size → row_among o p now.rows ≡ row_among o p table.rows → IsSamePage o p table now
page_itself o p table now size row =
    record { directory = rw (size, row) (record { holds = refl; awaits = refl; line = refl; bytes = refl }); heard = λ g. rw row refl }

other_page_after : (h o p : ℕ) (m : Message) (table now : ServerTable) → up_word p m ≡ OtherUp → now.size ≡ table.size
    → row_among o p now.rows ≡ row_among o p table.rows → PageAfter h o m p table now
other_page_after h o p m table now other size row =
    let same = page_itself o p table now size row in
    record {
      directory = subst (λ (w : UpWord). DirectoryAfter h w (directory_at table o p) (directory_at now o p)) (sym other) same.directory;
      heard = λ g. subst (λ (w : UpWord). heard_at now o p g ≡ heard_by h w (heard_at table o p) g) (sym other) (same.heard g);
    }

own_page_after : (h o p : ℕ) (m : Message) (table now : ServerTable) (x y : PageRow) → row_among o p table.rows ≡ Some x → row_among o p now.rows ≡ Some y
    → DirectoryAfter h (up_word p m) x.directory y.directory → y.heard ≡ heard_row h (up_word p m) x.heard → h < length x.heard
    → PageAfter h o m p table now
own_page_after h o p m table now x y was is after heard within = record {
  directory = rw (was, is) after;
  heard = λ g. rw (was, is) (ap (λ (hs : List ℕ). slice_index hs g) heard ∙ heard_row_is h (up_word p m) x.heard within g);
}

pub one_answer : (h : ℕ) (object : ObjectId) (page : ℕ) (m : Message) (rows : List PageRow) (i : ℕ) (x y : PageRow) (old table now : ServerTable)
    (events : List Event) → Answers h object page m rows i x y → IsSameTable old table → table.rows ≡ rows → now.size ≡ table.size → now.rows ≡ set rows i y
    → events ≡ row_events h m x → ServerAnswer h object m old now events
one_answer h object page m rows i x y old table now events a same seen sized set_is told = record {
  size = sized ∙ same.size;
  pages = λ p. page_after_same h object.0 m p old table now (same.pages object.0 p) (own p);
  others = λ o p other. page_joined o p old table now (same.pages o p) (page_itself o p table now sized (left o p ∙ rw (elsewhere o p other) refl));
  told =
      answer_of old h object m page events a.about a.one (told
      ∙ (row_events_are table h object m x among_x a.own a.within
      ∙ (ap (page_events table h object m) a.at_page ∙ page_events_same old table h object m page (same.pages object.0 page))));
} where
  key_same : x.key ≡ y.key
  key_same = sym a.after.key

  of : x.key.object.0 ≡ object.0
  of = ap (λ (z : ObjectId). z.0) a.own

  among_page : (p : ℕ) → x.key.page.0 ≡ p → row_among object.0 p table.rows ≡ Some x
  among_page p e =
      subst (λ (k : ℕ). row_among object.0 k table.rows ≡ Some x) e (subst (λ (k : ℕ). row_among k x.key.page.0 table.rows ≡ Some x) of
      (subst (λ (l : List PageRow). row_among x.key.object.0 x.key.page.0 l ≡ Some x) (sym seen) (among_at i x rows a.apart a.is)))

  among_x : row_among object.0 x.key.page.0 table.rows ≡ Some x
  among_x = among_page x.key.page.0 refl

  left : (o p : ℕ) → row_among o p now.rows ≡ (if is_page y.key o p then Some y else row_among o p table.rows)
  left o p =
      ap (row_among o p) set_is ∙ (row_set i o p x y rows a.apart a.is key_same
      ∙ ap (λ (l : List PageRow). if is_page y.key o p then Some y else row_among o p l) (sym seen))

  test : (o p : ℕ) → is_page y.key o p ≡ is_page x.key o p
  test o p = ap (λ (key : PageKey). is_page key o p) a.after.key

  elsewhere : (o p : ℕ) → o ≢ object.0 → is_page y.key o p ≡ false
  elsewhere o p other = test o p ∙ grind (arith, nat_tests, of)

  own : (p : ℕ) → PageAfter h object.0 m p table now
  own p =
      ⊎_elim
      (λ (here : (x.key.page.0 == p) ≡ true).
      let e : x.key.page.0 ≡ p = grind (arith, nat_tests, here) in
      let is_it : is_page y.key object.0 p ≡ true = test object.0 p ∙ grind (arith, nat_tests, of, here) in
      own_page_after h object.0 p m table now x y (among_page p e) (left object.0 p ∙ rw is_it refl)
      (subst (λ (k : ℕ). DirectoryAfter h (up_word k m) x.directory y.directory) e a.after.directory)
      (subst (λ (k : ℕ). y.heard ≡ heard_row h (up_word k m) x.heard) e a.after.heard) a.within)
      (λ (apart : (x.key.page.0 == p) ≡ false).
      let not_it : is_page y.key object.0 p ≡ false = test object.0 p ∙ grind (arith, nat_tests, apart) in
      other_page_after h object.0 p m table now (other_word m page p a.about a.one (ap (λ (k : ℕ). k == p) (sym a.at_page) ∙ apart)) sized
      (left object.0 p ∙ rw not_it refl))
      (cases_Bool (x.key.page.0 == p))

-- the replies of one page are among those of its object; a new page's are nine

pub one_among : (o p : ℕ) (rows : List PageRow) (x : PageRow) → row_among o p rows ≡ Some x → most_replies x.directory ≤ replies_among o rows
one_among o p [] x is = absurd (none-some x is)
one_among o p (y ∷ ys) x is =
    ⊎_elim
    (λ (here : is_page y.key o p ≡ true).
    let e : y ≡ x = same_Some y x (rw here at is) in
    let read = page_read y.key o p here in
    let own : (y.key.object.0 == o) ≡ true = (let f = read.object in grind (arith, nat_tests)) in
    rw own (subst (λ (z : PageRow). most_replies z.directory ≤ most_replies y.directory + replies_among o ys) e (omega arith)))
    (λ (apart : is_page y.key o p ≡ false). let rest = one_among o p ys x (rw apart at is) in omega (arith, rest))
    (cases_Bool (is_page y.key o p))

pub most_of_page : (table : ServerTable) (o p : ℕ) → most_replies (directory_at table o p) ≤ most_events o table
most_of_page table o p = by (row_among o p table.rows) refl
  where
    by : (r : Option PageRow) → row_among o p table.rows ≡ r → most_replies (directory_at table o p) ≤ most_events o table
    by None is = rw is (omega arith)
    by (Some x) is = let one = one_among o p table.rows x is in rw is (omega (arith, one))

pub most_of_row : (old table : ServerTable) (rows : List PageRow) (i : ℕ) (x : PageRow) → IsSameTable old table → table.rows ≡ rows → AreApart rows
    → slice_get rows i ≡ Some x → most_replies x.directory ≤ most_events x.key.object.0 old
most_of_row old table rows i x same seen apart is =
    let among : row_among x.key.object.0 x.key.page.0 table.rows ≡ Some x = ap (row_among x.key.object.0 x.key.page.0) seen ∙ among_at i x rows apart is in
    let here : directory_at table x.key.object.0 x.key.page.0 ≡ x.directory = ap (directory_in table.size) among in
    let page = same.pages x.key.object.0 x.key.page.0 in
    let lines = ap length page.directory.line in
    let now = ap most_replies here in
    let most = most_of_page old x.key.object.0 x.key.page.0 in
    omega (arith, lines, now, most)

-- the end of a control, for all pages of its object

after_key : (h : ℕ) (m : Message) (o : ℕ) (x y : PageRow) → IsRowAfter h m o (Some x) (Some y) → y.key ≡ x.key
after_key h m o x y after = elim (ℕ_discrete x.key.object.0 o) [
  | yes e ↦ let a = after.0 e in a.key
  | no e ↦ ap (λ (z : PageRow). z.key) (after.1 e)
]

row_after : (h : ℕ) (m : Message) (o p : ℕ) (old new : List PageRow) → RowsAfter h m o old new → IsRowAfter h m o (row_among o p old) (row_among o p new)
row_after h m o p [] [] after = tt
row_after h m o p [] (y ∷ ys) after = absurd (after 0)
row_after h m o p (x ∷ xs) [] after = absurd (after 0)
row_after h m o p (x ∷ xs) (y ∷ ys) after =
    let test : is_page y.key o p ≡ is_page x.key o p = ap (λ (key : PageKey). is_page key o p) (after_key h m o x y (after 0)) in
    rw test (by (is_page x.key o p) (row_after h m o p xs ys (λ k. after (suc k))))
  where
    by : (b : Bool) → IsRowAfter h m o (row_among o p xs) (row_among o p ys)
        → IsRowAfter h m o (if b then Some x else row_among o p xs) (if b then Some y else row_among o p ys)
    by true rest = after 0
    by false rest = rest

row_elsewhere : (h : ℕ) (m : Message) (o q p : ℕ) (old new : List PageRow) → RowsAfter h m o old new → q ≢ o → row_among q p new ≡ row_among q p old
row_elsewhere h m o q p [] [] after other = refl
row_elsewhere h m o q p [] (y ∷ ys) after other = absurd (after 0)
row_elsewhere h m o q p (x ∷ xs) [] after other = absurd (after 0)
row_elsewhere h m o q p (x ∷ xs) (y ∷ ys) after other =
    let rest = row_elsewhere h m o q p xs ys (λ k. after (suc k)) other in
    let test : is_page y.key q p ≡ is_page x.key q p = ap (λ (key : PageKey). is_page key q p) (after_key h m o x y (after 0)) in
    ⊎_elim
    (λ (here : is_page x.key q p ≡ true).
    let read = page_read x.key q p here in
    let same = (after 0).1 (λ e. other (sym read.object ∙ e)) in
    rw (test, here) (ap Some same))
    (λ (apart : is_page x.key q p ≡ false). rw (test, apart) rest)
    (cases_Bool (is_page x.key q p))

-- so the rows are of the same pages
pub after_same_keys : (h : ℕ) (m : Message) (o : ℕ) (old new : List PageRow) → RowsAfter h m o old new
    → (k : ℕ) → HasSameKey (slice_get old k) (slice_get new k)
after_same_keys h m o old new after k = by (slice_get old k) (slice_get new k) (after k)
  where
    by : (a b : Option PageRow) → IsRowAfter h m o a b → HasSameKey a b
    by None None c = tt
    by None (Some y) c = absurd c
    by (Some x) None c = absurd c
    by (Some x) (Some y) c = after_key h m o x y c

row_after_whole : (size h : ℕ) (m : Message) (o : ℕ) (x y : PageRow) → IsRowAfter h m o (Some x) (Some y) → ReturnsWhole size m
    → length x.directory.bytes ≡ size → length x.heard ≡ 8 → (length y.directory.bytes ≡ size) × (length y.heard ≡ 8)
row_after_whole size h m o x y after whole long eight = elim (ℕ_discrete x.key.object.0 o) [
  | yes e ↦ row_whole size h m x y (after.0 e) whole long eight
  | no e ↦ subst (λ (z : PageRow). (length z.directory.bytes ≡ size) × (length z.heard ≡ 8)) (sym (after.1 e)) (long, eight)
]

pub whole_after : (size h : ℕ) (m : Message) (o : ℕ) (old new : List PageRow) → RowsAfter h m o old new → ReturnsWhole size m → AreWhole size old
    → AreWhole size new
whole_after size h m o [] [] after returns whole = tt
whole_after size h m o [] (y ∷ ys) after returns whole = absurd (after 0)
whole_after size h m o (x ∷ xs) [] after returns whole = absurd (after 0)
whole_after size h m o (x ∷ xs) (y ∷ ys) after returns whole =
    let first = row_after_whole size h m o x y (after 0) returns whole.0 whole.1 in
    (first.0, first.1, whole_after size h m o xs ys (λ k. after (suc k)) returns whole.2)

-- what is known of a page's row
record Known (size o p : ℕ) (x : PageRow) : Type 0 where
  own : x.key.object.0 ≡ o
  at_page : x.key.page.0 ≡ p
  bytes : length x.directory.bytes ≡ size
  eight : length x.heard ≡ 8

known : (size o p : ℕ) (rows : List PageRow) (x : PageRow) → AreWhole size rows → row_among o p rows ≡ Some x → Known size o p x
known size o p [] x whole is = absurd (none-some x is)
known size o p (y ∷ ys) x whole is =
    ⊎_elim
    (λ (here : is_page y.key o p ≡ true).
    let e : y ≡ x = same_Some y x (rw here at is) in
    let read = page_read y.key o p here in
    subst (Known size o p) e (record { own = read.object; at_page = read.page; bytes = whole.0; eight = whole.1 }))
    (λ (apart : is_page y.key o p ≡ false). known size o p ys x whole.2 (rw apart at is))
    (cases_Bool (is_page y.key o p))

-- a new page that a host's end comes to
set_zeros : (n h : ℕ) → slice_set {A = ℕ} (replicate n 0) h 0 ≡ replicate n 0
set_zeros zero zero = refl
set_zeros zero (suc h) = refl
set_zeros (suc n) zero = refl
set_zeros (suc n) (suc h) = ap (λ (xs : List ℕ). 0 ∷ xs) (set_zeros n h)

new_ended : (h control size : ℕ) → DirectoryAfter h (Ending control) (new_directory size) (new_directory size)
new_ended h control size = record { exact = rw (set_zeros 8 h) refl; bytes = refl }

same_id : (a b : ObjectId) → a.0 ≡ b.0 → a ≡ b
same_id a b e = ap (λ (n : ℕ). let id : ObjectId = record { 0 = n } in id) e

-- the events of one page are words of the server, and so are those of all pages

page_words : (size h : ℕ) (object : ObjectId) (m : Message) (rows : List PageRow) (p : ℕ) → ReturnsWhole size m → AreWhole size rows
    → AreServerWords size object (events_if h m (row_among object.0 p rows))
page_words size h object m rows p returns whole = by (row_among object.0 p rows) refl
  where
    by : (r : Option PageRow) → row_among object.0 p rows ≡ r → AreServerWords size object (events_if h m r)
    by None is = tt
    by (Some x) is =
        let k = known size object.0 p rows x whole is in
        subst (λ (o : ObjectId). AreServerWords size o (row_events h m x)) (same_id x.key.object object k.own) (row_words size h m x returns k.bytes)

below_words : (size h : ℕ) (object : ObjectId) (m : Message) (rows : List PageRow) (n : ℕ) → ReturnsWhole size m → AreWhole size rows
    → AreServerWords size object (events_below h m object.0 rows n)
below_words size h object m rows zero returns whole = tt
below_words size h object m rows (suc n) returns whole =
    both_words size object (events_if h m (row_among object.0 n rows)) (events_below h m object.0 rows n) (page_words size h object m rows n returns whole)
    (below_words size h object m rows n returns whole)

pub end_words : (size h : ℕ) (object : ObjectId) (m : Message) (rows : List PageRow) (events : List Event) → ReturnsWhole size m → AreWhole size rows
    → EventsInTurn h m object.0 rows [] events → AreServerWords size object events
end_words size h object m rows events returns whole told =
    subst (AreServerWords size object) (sym (told.are ∙ append-nil (events_below h m object.0 rows told.bound)))
    (below_words size h object m rows told.bound returns whole)

-- all pages below one

abbrev range : ℕ → ℕ → List ℕ
range from zero = []
range from (suc n) = from ∷ range (suc from) n

range_rises : (from n : ℕ) → RisesFrom from (range from n)
range_rises from zero = tt
range_rises from (suc n) = (omega arith, range_rises (suc from) n)

in_range_of : (from n p : ℕ) → from ≤ p → p < from + n → is_among p (range from n) ≡ true
in_range_of from zero p low less = absurd (omega arith)
in_range_of from (suc n) p low less =
    ⊎_elim
    (λ (here : (from == p) ≡ true). rw here refl)
    (λ (apart : (from == p) ≡ false).
    let next : suc from ≤ p = (let differ : from ≢ p = grind (arith, nat_tests, apart) in omega arith) in
    rw apart (in_range_of (suc from) n p next (omega arith)))
    (cases_Bool (from == p))

one_more : (table : ServerTable) (h : ℕ) (object : ObjectId) (m : Message) (from n : ℕ)
    → stretches table h object m (range from (suc n)) ≡ page_events table h object m (from + n) ++ stretches table h object m (range from n)
one_more table h object m from zero =
    let e : from + 0 ≡ from = omega arith in
    rw e (sym (append-nil (page_events table h object m from)))
one_more table h object m from (suc n) =
    let e : suc from + n ≡ from + suc n = omega arith in
    let rest = one_more table h object m (suc from) n in
    ap (λ (es : List Event). es ++ page_events table h object m from) (rest ∙ ap (λ k. page_events table h object m k
    ++ stretches table h object m (range (suc from) n)) e)
    ∙ append_assoc (page_events table h object m (from + suc n)) (stretches table h object m (range (suc from) n)) (page_events table h object m from)

-- the events of a page, in the table's words
page_is : (size h : ℕ) (object : ObjectId) (control p : ℕ) (rows : List PageRow) (table : ServerTable) → table.rows ≡ rows → AreWhole size rows → h < 8
    → page_events table h object (message.Terminate control) p ≡ events_if h (message.Terminate control) (row_among object.0 p rows)
page_is size h object control p rows table seen whole low = by (row_among object.0 p rows) refl
  where
    by : (r : Option PageRow) → row_among object.0 p rows ≡ r
        → page_events table h object (message.Terminate control) p ≡ events_if h (message.Terminate control) r
    by None is = let none : row_among object.0 p table.rows ≡ None = ap (row_among object.0 p) seen ∙ is in rw none refl
    by (Some x) is =
        let k = known size object.0 p rows x whole is in
        let among : row_among object.0 p table.rows ≡ Some x = ap (row_among object.0 p) seen ∙ is in
        let there : row_among object.0 x.key.page.0 table.rows ≡ Some x = subst (λ (n : ℕ). row_among object.0 n table.rows ≡ Some x) (sym k.at_page) among in
        ap (page_events table h object (message.Terminate control)) (sym k.at_page)
        ∙ sym (row_events_are table h object (message.Terminate control) x there (same_id x.key.object object k.own) (omega (arith, k.eight, low)))

below_is : (size h : ℕ) (object : ObjectId) (control n : ℕ) (rows : List PageRow) (table : ServerTable) → table.rows ≡ rows → AreWhole size rows → h < 8
    → stretches table h object (message.Terminate control) (range 0 n) ≡ events_below h (message.Terminate control) object.0 rows n
below_is size h object control zero rows table seen whole low = refl
below_is size h object control (suc n) rows table seen whole low =
    let e : 0 + n ≡ n = omega arith in
    one_more table h object (message.Terminate control) 0 n
    ∙ (rw (e, page_is size h object control n rows table seen whole low, below_is size h object control n rows table seen whole low) refl)

pub end_answer : (h : ℕ) (object : ObjectId) (control : ℕ) (rows left : List PageRow) (old table now : ServerTable) (events : List Event)
    → IsSameTable old table → table.rows ≡ rows → now.size ≡ table.size → now.rows ≡ left → AreWhole table.size rows → h < 8
    → RowsAfter h (message.Terminate control) object.0 rows left → EventsInTurn h (message.Terminate control) object.0 rows [] events
    → ServerAnswer h object (message.Terminate control) old now events
end_answer h object control rows left old table now events same seen sized left_is whole low after told = record {
  size = sized ∙ same.size;
  pages = λ p. page_after_same h object.0 m p old table now (same.pages object.0 p) (own p);
  others =
      λ o p other. page_joined o p old table now (same.pages o p) (page_itself o p table now sized (ap (row_among o p) left_is
      ∙ (row_elsewhere h m object.0 o p rows left after other ∙ ap (row_among o p) (sym seen))));
  told = record {
    pages = range 0 told.bound;
    rising = range_rises 0 told.bound;
    silent = λ p none. sym (page_events_same old table h object m p (same.pages object.0 p)) ∙ silent p none;
    are = told.are
        ∙ (append-nil (events_below h m object.0 rows told.bound)
        ∙ (sym (below_is table.size h object control told.bound rows table seen whole low) ∙ stretches_same old table h object m (range 0 told.bound) same));
  };
} where
  m : Message
  m = message.Terminate control

  silent : (p : ℕ) → is_among p (range 0 told.bound) ≡ false → page_events table h object (message.Terminate control) p ≡ []
  silent p none =
      ⊎_elim
      (λ (less : p < told.bound). absurd (false≢true (sym none ∙ in_range_of 0 told.bound p (omega arith) (omega arith))))
      (λ (past : told.bound ≤ p). page_is table.size h object control p rows table seen whole low ∙ told.none p past)
      (cases_lt p told.bound)

  by : (p : ℕ) (was is : Option PageRow) → row_among object.0 p rows ≡ was → row_among object.0 p left ≡ is
      → IsRowAfter h (message.Terminate control) object.0 was is → PageAfter h object.0 (message.Terminate control) p table now
  by p None None was is a = record {
    directory =
        let one : directory_at table object.0 p ≡ new_directory table.size = ap (directory_in table.size) (ap (row_among object.0 p) seen ∙ was) in
        let two : directory_at now object.0 p ≡ new_directory table.size = ap (λ (n : ℕ). directory_in n (row_among object.0 p now.rows)) sized
        ∙ ap (directory_in table.size) (ap (row_among object.0 p) left_is ∙ is) in
        subst (λ (d : Directory). DirectoryAfter h (Ending control) d (directory_at now object.0 p)) (sym one)
        (subst (DirectoryAfter h (Ending control) (new_directory table.size)) (sym two) (new_ended h control table.size));
    heard = λ g. rw (ap (row_among object.0 p) seen ∙ was, ap (row_among object.0 p) left_is ∙ is) refl;
  }
  by p None (Some y) was is a = absurd a
  by p (Some x) None was is a = absurd a
  by p (Some x) (Some y) was is a =
      let k = known table.size object.0 p rows x whole was in
      let done = a.0 k.own in
      own_page_after h object.0 p (message.Terminate control) table now x y (ap (row_among object.0 p) seen ∙ was) (ap (row_among object.0 p) left_is ∙ is)
      done.directory done.heard (omega (arith, k.eight, low))

  own : (p : ℕ) → PageAfter h object.0 (message.Terminate control) p table now
  own p = by p (row_among object.0 p rows) (row_among object.0 p left) refl refl (row_after h (message.Terminate control) object.0 p rows left after)

pub end_answer_of : (h : ℕ) (object : ObjectId) (m : Message) (rows left : List PageRow) (old table now : ServerTable) (events : List Event) → IsEnd m
    → IsSameTable old table → table.rows ≡ rows → now.size ≡ table.size → now.rows ≡ left → AreWhole table.size rows → h < 8
    → RowsAfter h m object.0 rows left → EventsInTurn h m object.0 rows [] events → ServerAnswer h object m old now events
end_answer_of h object (message.Terminate control) rows left old table now events end same seen sized left_is whole low after told =
    end_answer h object control rows left old table now events same seen sized left_is whole low after told
end_answer_of h object m rows left old table now events end same seen sized left_is whole low after told = absurd end

pub end_returns : (size : ℕ) (m : Message) → IsEnd m → ReturnsWhole size m
end_returns size (message.Terminate control) end = tt
end_returns size m end = absurd end
