-- What events are to the temporary and file memory of one host, and what they leave there: regions,
-- objects, places, and the flat map. Lists have the newest first.
use Rattle.std.specs.Prelude.{not, nat_lt, ℕ, suc, ◌+◌, ◌==◌, List, [], ◌∷◌, Bool, true, false, if◌then◌else◌, ◌&&◌, ◌||◌, Option, Some, None}
use Rattle.vm_base.specs.Pages.{with_bytes}
use Rattle.vm_model.specs.Regions.{is_newest}
use Rattle.vm_flat.specs.Words.{SpotDownWord, Supplying, Unavailing, Erring, SpotEffect, Creates, Requests, Returns, TakesRequest, TakesReturn, Answers, Takes}
use Rattle.vm_flat.specs.Words.{Zeroes, Raises, Stores, Drops, Ends, StepEnds, Nothing}
use Rattle.vm_flat.specs.Spot.{Spot, first_spot, merged_effect, spot_after}

-- What does not change: the page of zeros; how many objects are declared, and which of them are
-- files; whether these are told; the bytes of the files' pages at the start, and the pages of the declared objects.
pub record Ground : Type 0 where
  pub zeros : List ℕ
  pub named : ℕ
  pub file : ℕ → Bool
  pub paging : Bool
  pub untold : Bool
  pub start : ℕ → ℕ → List ℕ
  pub length : ℕ → ℕ

abbrev pub is_file : Ground → ℕ → Bool
is_file z o = nat_lt o z.named && z.file o

-- the file tells what it holds at the start, if there is one
abbrev pub told : Ground → Option ℕ → Bool
told z None = true
told z (Some f) = not (z.untold && is_file z f)

-- `own` says that it happens on the host; on other hosts it changes regions, what stands on what, and the flat map alone
pub data Deed : Type 0 where
  -- a step begins
  Line : Deed
  -- a region over a new object; it may be in use on the host
  Region : (own : Bool) → (region : ℕ) → (object : ℕ) → (count : ℕ) → Deed
  Cow : (region : ℕ) → (source : ℕ) → (off : ℕ) → (count : ℕ) → Deed
  -- a region over a new object that is a copy of a file; `tells`: the outside tells what it holds
  Delayed : (tells : Bool) → (region : ℕ) → (source : ℕ) → (off : ℕ) → (count : ℕ) → (copy : ℕ) → Deed
  -- of the regions only those that are held stay in use on the host
  Kept : (held : ℕ → Bool) → Deed
  Shadowed : (region : ℕ) → (new : ℕ) → Deed
  Unmarked : (region : ℕ) → Deed
  -- the lower object is merged into the upper, its one shadow, whose page 0 is over the lower's page `shift`
  Merged : (own : Bool) → (upper : ℕ) → (lower : ℕ) → (shift : ℕ) → (upper_pages : ℕ) → (lower_pages : ℕ) → Deed
  Zeroed : (own : Bool) → (object : ℕ) → (page : ℕ) → Deed
  Raised : (own : Bool) → (lower : ℕ) → (lower_page : ℕ) → (upper : ℕ) → (upper_page : ℕ) → Deed
  -- a page of a region is stored to, in a page of an object
  Stored : (own : Bool) → (region : ℕ) → (index : ℕ) → (object : ℕ) → (page : ℕ) → (at : ℕ) → (bytes : List ℕ) → Deed
  -- a slow copy makes a page of a source region the page `i` of a region
  Copied : (own : Bool) → (source : ℕ) → (index : ℕ) → (object : ℕ) → (page : ℕ) → (region : ℕ) → (i : ℕ) → (upper : ℕ) → (upper_page : ℕ) → Deed
  Dropped : (own : Bool) → (object : ℕ) → (page : ℕ) → Deed
  Created : (own : Bool) → (object : ℕ) → Deed
  Asked : (own : Bool) → (lives : Bool) → (object : ℕ) → (page : ℕ) → Deed
  Returned : (own : Bool) → (object : ℕ) → (page : ℕ) → (keep : Bool) → (bytes : List ℕ) → Deed
  TookRequest : (own : Bool) → (object : ℕ) → (page : ℕ) → Deed
  TookReturn : (own : Bool) → (object : ℕ) → (page : ℕ) → (bytes : List ℕ) → Deed
  -- `tells`: it gives the object's region the page that it says
  Answered : (own : Bool) → (tells : Bool) → (object : ℕ) → (page : ℕ) → (word : SpotDownWord) → Deed
  Took : (own : Bool) → (object : ℕ) → (page : ℕ) → (word : SpotDownWord) → Deed
  Terminated : (own : Bool) → (object : ℕ) → Deed
  Elsewhere : Deed

-- regions

-- a region: whether it is in use on the host, its copy mark, its top object, its shift, its pages
pub record Row : Type 0 where
  pub used : Bool
  pub mark : Bool
  pub top : ℕ
  pub shift : ℕ
  pub pages : ℕ

abbrev pub made_row : Bool → Bool → ℕ → ℕ → Row → Row
made_row b own object count old =
    record {
      used = if b then own else old.used;
      mark = if b then false else old.mark;
      top = if b then object else old.top;
      shift = if b then 0 else old.shift;
      pages = if b then count else old.pages;
    }

abbrev pub cow_row : Bool → Bool → ℕ → ℕ → Row → Row → Row
cow_row b c off count source old =
    record {
      used = if b then source.used else old.used;
      mark = if b then true else (if c then true else old.mark);
      top = if b then source.top else old.top;
      shift = if b then source.shift + off else old.shift;
      pages = if b then count else old.pages;
    }

abbrev pub delayed_row : Bool → Bool → ℕ → ℕ → ℕ → Row → Row → Row
delayed_row b tells copy off count source old =
    record {
      used = if b then source.used && tells else old.used;
      mark = if b then true else old.mark;
      top = if b then copy else old.top;
      shift = if b then off else old.shift;
      pages = if b then count else old.pages;
    }

abbrev pub kept_row : Bool → Row → Row
kept_row b old = record { used = b && old.used; mark = old.mark; top = old.top; shift = old.shift; pages = old.pages }

abbrev pub shadow_row : Bool → ℕ → Row → Row
shadow_row b new old =
    record {
      used = old.used;
      mark = if b then false else old.mark;
      top = if b then new else old.top;
      shift = if b then 0 else old.shift;
      pages = old.pages;
    }

abbrev pub unmarked_row : Bool → Row → Row
unmarked_row b old = record { used = old.used; mark = if b then false else old.mark; top = old.top; shift = old.shift; pages = old.pages }

abbrev pub row_move : ℕ → Deed → (ℕ → Row) → Row
row_move r (Region own region object count) rows = made_row (r == region) own object count (rows r)
row_move r (Cow region source off count) rows = cow_row (r == region) (r == source) off count (rows source) (rows r)
row_move r (Delayed tells region source off count copy) rows = delayed_row (r == region) tells copy off count (rows source) (rows r)
row_move r (Kept held) rows = kept_row (held r) (rows r)
row_move r (Shadowed region new) rows = shadow_row (r == region) new (rows r)
row_move r (Unmarked region) rows = unmarked_row (r == region) (rows r)
row_move r e rows = rows r

abbrev pub row : Ground → ℕ → List Deed → Row
row z r [] = record { used = is_file z r; mark = false; top = r; shift = 0; pages = z.length r }
row z r (e ∷ past) = row_move r e (λ k. row z k past)

-- the next numbers
abbrev pub regions : Ground → List Deed → ℕ
regions z [] = z.named
regions z (Region own region object count ∷ past) = suc (regions z past)
regions z (Cow region source off count ∷ past) = suc (regions z past)
regions z (Delayed tells region source off count copy ∷ past) = suc (regions z past)
regions z (e ∷ past) = regions z past

abbrev pub objects : Ground → List Deed → ℕ
objects z [] = z.named
objects z (Region own region object count ∷ past) = suc (objects z past)
objects z (Delayed tells region source off count copy ∷ past) = suc (objects z past)
objects z (Shadowed region new ∷ past) = suc (objects z past)
objects z (e ∷ past) = objects z past

-- the backing object of an object
pub record Link : Type 0 where
  pub backed : Bool
  pub under : ℕ
  pub shift : ℕ

-- an object that its backing object is merged into stands on what that stood on
abbrev pub joined : Bool → Link → Link → Link
joined b lower was =
    record {
      backed = if b then lower.backed else was.backed;
      under = if b then lower.under else was.under;
      shift = if b then lower.shift + was.shift else was.shift;
    }

-- a new copy of a file stands over the file, and under the copy that was the newest until then
abbrev pub pushed : Bool → Bool → ℕ → ℕ → Link → Link
pushed b newest file copy was =
    record {
      backed = if b then true else (if newest then true else was.backed);
      under = if b then file else (if newest then copy else was.under);
      shift = if b then 0 else (if newest then 0 else was.shift);
    }

-- the newest of the copies of a file, if there is one
abbrev pub newest : Ground → ℕ → List Deed → Option ℕ
newest z f [] = None
newest z f (Delayed tells region source off count copy ∷ past) = if f == source then Some copy else newest z f past
newest z f (e ∷ past) = newest z f past

-- an object that was made as the copy of a file
abbrev pub is_copy : Ground → ℕ → List Deed → Bool
is_copy z o [] = false
is_copy z o (Delayed tells region source off count copy ∷ past) = o == copy || is_copy z o past
is_copy z o (e ∷ past) = is_copy z o past

abbrev pub link : Ground → ℕ → List Deed → Link
link z o [] = record { backed = false; under = 0; shift = 0 }
link z o (Delayed tells region source off count copy ∷ past) = pushed (o == copy) (is_newest o (newest z source past)) source copy (link z o past)
link z o (Shadowed region new ∷ past) =
    record {
      backed = if o == new then true else (link z o past).backed;
      under = if o == new then (row z region past).top else (link z o past).under;
      shift = if o == new then (row z region past).shift else (link z o past).shift;
    }
link z o (Merged own upper lower shift upper_pages lower_pages ∷ past) = joined (o == upper) (link z lower past) (link z o past)
link z o (e ∷ past) = link z o past

-- an object's pages
abbrev pub pages : Ground → ℕ → List Deed → ℕ
pages z o [] = z.length o
pages z o (Region own region object count ∷ past) = if o == object then count else pages z o past
pages z o (Delayed tells region source off count copy ∷ past) = if o == copy then pages z source past else pages z o past
pages z o (Shadowed region new ∷ past) = if o == new then (row z region past).pages else pages z o past
pages z o (e ∷ past) = pages z o past

-- the file from which an object's pages come, by way of the objects under it
abbrev pub stem : Ground → ℕ → List Deed → Option ℕ
stem z o [] = None
stem z o (Delayed tells region source off count copy ∷ past) = if o == copy then Some source else stem z o past
stem z o (Shadowed region new ∷ past) = if o == new then stem z (row z region past).top past else stem z o past
stem z o (e ∷ past) = stem z o past

-- a file, or a temporary object of which the outside tells what it holds
abbrev pub covered : Ground → ℕ → List Deed → Bool
covered z o past = (not (nat_lt o z.named) && (z.paging && told z (stem z o past))) || (nat_lt o z.named && z.file o)

-- places

-- a page was copied up into the place
abbrev pub is_pushed : Ground → ℕ → ℕ → List Deed → Bool
is_pushed z o p [] = false
is_pushed z o p (Raised own lower lower_page upper upper_page ∷ past) = (own && (upper == o && upper_page == p)) || is_pushed z o p past
is_pushed z o p (e ∷ past) = is_pushed z o p past

abbrev pub at_place : ℕ → ℕ → Bool → ℕ → ℕ → SpotEffect → SpotEffect → SpotEffect
at_place o p own object page mine other = if own && (object == o && page == p) then mine else other

abbrev pub effect : ℕ → ℕ → Deed → (ℕ → ℕ → Spot) → SpotEffect
effect o p Line spots = StepEnds
effect o p (Zeroed own object page) spots = at_place o p own object page Zeroes Nothing
effect o p (Raised own lower lower_page upper upper_page) spots = at_place o p own upper upper_page (Raises (spots lower lower_page).bytes) Nothing
effect o p (Stored own region index object page at bytes) spots = at_place o p own object page (Stores at bytes) Nothing
effect o p (Copied own source index object page region i upper upper_page) spots = at_place o p own upper upper_page (Raises (spots object page).bytes) Nothing
effect o p (Dropped own object page) spots = at_place o p own object page Drops Nothing
effect o p (Created own object) spots = if own && object == o then Creates else Nothing
effect o p (Asked own lives object page) spots = at_place o p own object page (Requests lives) Nothing
effect o p (Returned own object page keep bytes) spots = at_place o p own object page (Returns keep bytes) Nothing
effect o p (TookRequest own object page) spots = at_place o p own object page TakesRequest StepEnds
effect o p (TookReturn own object page bytes) spots = at_place o p own object page (TakesReturn bytes) StepEnds
effect o p (Answered own tells object page word) spots = at_place o p own object page (Answers tells word) Nothing
effect o p (Took own object page word) spots = at_place o p own object page (Takes word) StepEnds
effect o p (Merged own upper lower shift upper_pages lower_pages) spots =
    if own then merged_effect o p upper lower shift upper_pages lower_pages (spots o p) (spots lower (shift + p)) else Nothing
effect o p (Terminated own object) spots = if own && object == o then Ends else Nothing
effect o p e spots = Nothing

abbrev pub spot : Ground → ℕ → ℕ → List Deed → Spot
spot z o p [] = first_spot (is_file z o) (z.start o p)
spot z o p (e ∷ past) = spot_after z.zeros (spot z o p past) (effect o p e (λ k q. spot z k q past))

-- an object's control: 0 none, 1 live, 2 ended for ever
abbrev pub control : Ground → ℕ → List Deed → ℕ
control z o [] = 0
control z o (Created own object ∷ past) = if own && object == o then 1 else control z o past
control z o (Terminated own object ∷ past) = if own && object == o then (if is_file z o then 0 else 2) else control z o past
control z o (e ∷ past) = control z o past

-- the page that an answer gives
abbrev pub said : List ℕ → SpotDownWord → List ℕ → List ℕ
said z (Supplying bytes) was = bytes
said z Unavailing was = z
said z Erring was = was

-- the flat map: a region's page with eager copies
abbrev pub flat : Ground → ℕ → ℕ → List Deed → List ℕ
flat z r i [] = if is_file z r then z.start r i else z.zeros
flat z r i (Region own region object count ∷ past) = if r == region then z.zeros else flat z r i past
flat z r i (Cow region source off count ∷ past) = if r == region then flat z source (off + i) past else flat z r i past
flat z r i (Delayed tells region source off count copy ∷ past) = if r == region then flat z source (off + i) past else flat z r i past
flat z r i (Copied own source index object page region j upper upper_page ∷ past) = if r == region && i == j then flat z source index past else flat z r i past
flat z r i (Stored own region index object page at bytes ∷ past) = if r == region && i == index then with_bytes at bytes (flat z r i past) else flat z r i past
flat z r i (Answered own tells object page word ∷ past) = if tells && (r == object && i == page) then said z.zeros word (flat z r i past) else flat z r i past
flat z r i (e ∷ past) = flat z r i past
