-- Why a deed may happen, as far as one host's temporary and file memory goes.
use Rattle.std.specs.Prelude.{ℕ, zero, suc, ◌+◌, ◌<◌, ◌≤◌, ◌≡◌, ◌≢◌, ◌⊎◌, ◌&&◌, List, [], ◌∷◌, Bool, true, false, Some, None}
use Rattle.vm_flat.specs.Words.{Requests, Returns, TakesRequest, TakesReturn, Answers, Takes}
use Rattle.vm_flat.specs.Spot.{Spot}
use Rattle.vm_flat.proofs.Allowed.{Passed, May, content}
use Rattle.vm_flat.proofs.Deeds.{is_copy, is_pushed, newest, told}
use Rattle.vm_flat.proofs.Deeds.{Ground, is_file, covered, Deed, Line, Region, Cow, Kept, Shadowed, Unmarked, Zeroed, Raised, Stored, Dropped, Created, Asked}
use Rattle.vm_flat.proofs.Deeds.{Copied, Delayed, Merged, pages}
use Rattle.vm_flat.proofs.Deeds.{Returned, TookRequest, TookReturn, Answered, Took, Terminated, Elsewhere, Row, row, regions, objects, Link, link, spot}
use Rattle.vm_flat.proofs.Deeds.{control, flat}

-- u is the n-th object below o
abbrev pub Below : (ℕ → Link) → ℕ → ℕ → ℕ → Type 0
Below links zero o u = o ≡ u
Below links (suc n) o u = ((links o).backed ≡ true) × Below links n (links o).under u

-- (l, lp) is the n-th place below (o, p)
abbrev pub Path : (ℕ → Link) → ℕ → ℕ → ℕ → ℕ → ℕ → Type 0
Path links zero o p l lp = (o ≡ l) × (p ≡ lp)
Path links (suc n) o p l lp = ((links o).backed ≡ true) × Path links n (links o).under ((links o).shift + p) l lp

-- in the chain of a region in use
abbrev pub Reaches : (ℕ → Row) → (ℕ → Link) → ℕ → Type 0
Reaches rows links o = (r : ℕ) × (n : ℕ) × ((rows r).used ≡ true) × Below links n (rows r).top o

abbrev pub Reach : Ground → ℕ → List Deed → Type 0
Reach z o past = Reaches (λ r. row z r past) (λ k. link z k past) o

-- (l, lp) is the n-th place of the chain from (o, p), and the walk passes over all before it
abbrev pub Walks : Ground → ℕ → ℕ → ℕ → ℕ → ℕ → List Deed → Type 0
Walks z zero o p l lp past = (o ≡ l) × (p ≡ lp)
Walks z (suc n) o p l lp past =
    Passed (spot z o p past) × ((link z o past).backed ≡ true) × Walks z n (link z o past).under ((link z o past).shift + p) l lp past

-- the walk from (o, p) passes over n places more and then over the last
abbrev pub Sinks : Ground → ℕ → ℕ → ℕ → List Deed → Type 0
Sinks z zero o p past = Passed (spot z o p past) × ((link z o past).backed ≡ false)
Sinks z (suc n) o p past = Passed (spot z o p past) × ((link z o past).backed ≡ true) × Sinks z n (link z o past).under ((link z o past).shift + p) past

-- the region is in use and (o, p) is its top place for the page
pub record Tops (z : Ground) (r i o p : ℕ) (past : List Deed) : Type 0 where
  pub used : (row z r past).used ≡ true
  pub object : (row z r past).top ≡ o
  pub page : (row z r past).shift + i ≡ p
  pub inside : i < (row z r past).pages

-- the place's object is on the host, and is a file or temporary
pub record Ours (z : Ground) (own : Bool) (object : ℕ) (past : List Deed) : Type 0 where
  pub on_host : own ≡ true
  pub covered : covered z object past ≡ true

-- the step took the pager's word that a file has no such page
pub record Void (s : Spot) : Type 0 where
  pub void : s.void ≡ true
  pub away : s.here ≡ false
  pub unasked : s.asked ≡ false

-- the walk from the top place of a page finds it nowhere
pub record Bottoms (z : Ground) (object page : ℕ) (past : List Deed) : Type 0 where
  pub region : ℕ
  pub index : ℕ
  pub steps : ℕ
  pub tops : Tops z region index object page past
  pub sinks : Sinks z steps object page past

-- below the top place of a page the walk finds the page here
pub record Finds (z : Ground) (lower lower_page upper upper_page : ℕ) (past : List Deed) : Type 0 where
  pub region : ℕ
  pub index : ℕ
  pub steps : ℕ
  pub tops : Tops z region index upper upper_page past
  pub walks : Walks z (suc steps) upper upper_page lower lower_page past
  pub here : (spot z lower lower_page past).here ≡ true

-- a file's page that is here comes into the newest copy of the file, into which it didn't come yet
pub record Pushes (z : Ground) (lower lower_page upper upper_page : ℕ) (past : List Deed) : Type 0 where
  pub file : is_file z lower ≡ true
  pub region : ℕ
  pub index : ℕ
  pub tops : Tops z region index lower lower_page past
  pub newest : newest z lower past ≡ Some upper
  pub same_page : upper_page ≡ lower_page
  pub here : (spot z lower lower_page past).here ≡ true
  pub away : (spot z upper upper_page past).here ≡ false
  pub unasked : (spot z upper upper_page past).asked ≡ false
  pub unpushed : is_pushed z upper upper_page past ≡ false

pub record StoresThere (z : Ground) (region index object page : ℕ) (past : List Deed) : Type 0 where
  pub tops : Tops z region index object page past
  pub unmarked : (row z region past).mark ≡ false
  pub here : (spot z object page past).here ≡ true
  -- what stands on a file has the page of its own
  pub pushed : is_file z object ≡ true → (v q : ℕ) → Reach z v past → (link z v past).backed ≡ true → (link z v past).under ≡ object
      → (link z v past).shift + q ≡ page → content (spot z v q past) ≢ None

pub record CopiesThere (z : Ground) (source index object page region i upper upper_page : ℕ) (past : List Deed) : Type 0 where
  pub tops : Tops z region i upper upper_page past
  pub unmarked : (row z region past).mark ≡ false
  pub away : (spot z upper upper_page past).here ≡ false
  pub unasked : (spot z upper upper_page past).asked ≡ false
  pub plain : (spot z upper upper_page past).file ≡ false
  pub no_copy : is_copy z upper past ≡ false
  -- the page that is copied is the source's
  pub same : flat z source index past ≡ (spot z object page past).bytes

-- a region that is not in use here, and a place that is not ours
pub record Foreign (z : Ground) (own : Bool) (region object : ℕ) (past : List Deed) : Type 0 where
  pub unused : (row z region past).used ≡ false
  pub apart : own ≡ true → covered z object past ≡ false

-- a file's region is the file's alone
pub record OwnRegion (z : Ground) (object : ℕ) (past : List Deed) : Type 0 where
  pub file : is_file z object ≡ true
  pub top : (row z object past).top ≡ object
  pub shift : (row z object past).shift ≡ 0
  pub alone : (r : ℕ) → (row z r past).used ≡ true → r ≢ object → (row z r past).top ≢ object
  pub bare : (o : ℕ) → Reach z o past → (link z o past).backed ≡ true → (link z o past).under ≢ object

-- a region's top is no other's, and nothing stands on it
pub record TopAlone (z : Ground) (region : ℕ) (past : List Deed) : Type 0 where
  pub tops : (r : ℕ) → (row z r past).used ≡ true → r ≢ region → (row z r past).top ≢ (row z region past).top
  pub bare : (v : ℕ) → Reach z v past → (link z v past).backed ≡ true → (link z v past).under ≢ (row z region past).top

-- the lower object is no region's top, and of what is reached the upper alone stands on it; neither ever had a control
pub record Pair (z : Ground) (upper lower : ℕ) (past : List Deed) : Type 0 where
  pub no_top : (r : ℕ) → (row z r past).used ≡ true → (row z r past).top ≢ lower
  pub sole : (v : ℕ) → Reach z v past → (link z v past).backed ≡ true → (link z v past).under ≡ lower → v ≡ upper
  pub upper_never : control z upper past ≡ 0
  pub lower_never : control z lower past ≡ 0

-- the upper object stands on the lower: where both are at home they are a pair, and elsewhere the upper isn't reached
pub record Joins (z : Ground) (own : Bool) (upper lower shift upper_pages lower_pages : ℕ) (past : List Deed) : Type 0 where
  pub backed : (link z upper past).backed ≡ true
  pub under : (link z upper past).under ≡ lower
  pub shift_is : (link z upper past).shift ≡ shift
  pub upper_pages_is : pages z upper past ≡ upper_pages
  pub lower_pages_is : pages z lower past ≡ lower_pages
  pub upper_plain : is_file z upper ≡ false
  pub lower_plain : is_file z lower ≡ false
  pub no_copy : is_copy z lower past ≡ false
  pub pair : own ≡ true → Pair z upper lower past
  pub foreign : own ≡ false → Reach z upper past → ⊥

-- a copy of a file stands over it, and is of pages of its region
pub record Delays (z : Ground) (tells : Bool) (region source off count copy : ℕ) (past : List Deed) : Type 0 where
  pub next : region ≡ regions z past
  pub new : copy ≡ objects z past
  pub file : is_file z source ≡ true
  pub top : (row z source past).top ≡ source
  pub shift : (row z source past).shift ≡ 0
  pub inside : off + count ≤ (row z source past).pages
  pub told : tells ≡ true → (z.paging && told z (Some source)) ≡ true

abbrev pub Cause : Ground → Deed → List Deed → Type 0
Cause z Line past = Unit {0}
Cause z (Region own region object count) past = (region ≡ regions z past) × (object ≡ objects z past) × (own ≡ true → z.paging ≡ true)
Cause z (Cow region source off count) past = (region ≡ regions z past) × (source < regions z past) × (off + count ≤ (row z source past).pages)
Cause z (Delayed tells region source off count copy) past = Delays z tells region source off count copy past
Cause z (Kept held) past = Unit {0}
Cause z (Shadowed region new) past =
    (new ≡ objects z past) × (region < regions z past) × ((row z region past).mark ≡ true) × (z.named ≤ (row z region past).top)
Cause z (Unmarked region) past = (row z region past).used ≡ true → TopAlone z region past
Cause z (Merged own upper lower shift upper_pages lower_pages) past = Joins z own upper lower shift upper_pages lower_pages past
Cause z (Zeroed own object page) past = Ours z own object past → ((is_file z object ≡ true) × Void (spot z object page past)) ⊎ Bottoms z object page past
Cause z (Raised own lower lower_page upper upper_page) past =
    Ours z own upper past → Finds z lower lower_page upper upper_page past ⊎ Pushes z lower lower_page upper upper_page past
Cause z (Stored own region index object page at bytes) past =
    (Ours z own object past × StoresThere z region index object page past) ⊎ Foreign z own region object past
Cause z (Copied own source index object page region i upper upper_page) past =
    (Ours z own upper past × CopiesThere z source index object page region i upper upper_page past) ⊎ Foreign z own region upper past
Cause z (Dropped own object page) past =
    Ours z own object past → ((spot z object page past).here ≡ true) × (((spot z object page past).dirty ≡ false) ⊎ (Reach z object past → ⊥))
Cause z (Created own object) past = Ours z own object past → (object < objects z past) × (control z object past ≡ 0)
Cause z (Asked own lives object page) past = Ours z own object past → May z.zeros (spot z object page past) (Requests lives)
Cause z (Returned own object page keep bytes) past = Ours z own object past → May z.zeros (spot z object page past) (Returns keep bytes)
Cause z (TookRequest own object page) past = Ours z own object past → May z.zeros (spot z object page past) TakesRequest
Cause z (TookReturn own object page bytes) past = Ours z own object past → May z.zeros (spot z object page past) (TakesReturn bytes)
Cause z (Answered own tells object page word) past =
    (Ours z own object past → May z.zeros (spot z object page past) (Answers tells word))
    × (tells ≡ true → (Ours z own object past × OwnRegion z object past) ⊎ Foreign z own object object past)
Cause z (Took own object page word) past = Ours z own object past → May z.zeros (spot z object page past) (Takes word)
Cause z (Terminated own object) past =
    Ours z own object past
    → ((Reach z object past → ⊥) ⊎ (is_file z object ≡ true)) × (control z object past ≡ 1)
    × ((p : ℕ) → ((spot z object p past).here ≡ false) × ((spot z object p past).asked ≡ false))
Cause z Elsewhere past = Unit {0}

abbrev pub AllCaused : Ground → List Deed → Type 0
AllCaused z [] = Unit {0}
AllCaused z (e ∷ past) = Cause z e past × AllCaused z past
