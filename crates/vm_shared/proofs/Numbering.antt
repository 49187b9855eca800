-- Which numbers regions and objects have, and that a declared object stands in the chain of its own region alone.
use Rattle.std.proofs.Common.{◌≡◌, ℕ, zero, suc, ◌+◌, ◌<◌, ◌≤◌, ◌==◌, ◌∙◌, List, [], ◌∷◌, Bool, true, false, Option, Some, None, if◌then◌else◌, refl, ap, sym}
use Rattle.std.proofs.Common.{inl, inr, subst, ⊎_elim, arith}
use Rattle.std.specs.Prelude.{◌&&◌, ◌||◌, ◌⊎◌, nat_lt, not}
use Rattle.std.proofs.lemmas.Bool.Decides.{nat_tests}
use Rattle.std.proofs.lemmas.Bool.{cases_lt}
use Rattle.vm_base.specs.declared.entry.Entry.{Entry}
use Rattle.vm_base.specs.Entries.{entered, rewritten}
use Rattle.vm_model.specs.declared.event.Event.{Event}
use Rattle.vm_model.specs.declared.event.Event.TheVariants as event
use Rattle.vm_model.specs.declared.script.Header.{Header}
use Rattle.vm_model.specs.Moments.{EachEvent}
use Rattle.vm_model.specs.Named.{declared, named}
use Rattle.vm_model.specs.Regions.{backing_of, is_newest, newest_copy, next_region, region_of}
use Rattle.vm_model.specs.Rows.{AllRows, HoldsOfParts, found_row, rows_entered, rows_map, rows_rewritten}
use Rattle.vm_model.specs.Tasks.{entries_of}
use Rattle.vm_model.specs.Waiting.{Target, begins_copy, copy_target}
use Rattle.vm_legal.specs.Accesses.{At, Comes}
use Rattle.vm_legal.specs.Licences.{HasCause}
use Rattle.vm_legal.specs.Living.{lives_on}
use Rattle.vm_legal.specs.Outside.{Outside, is_file, is_file_kept}
use Rattle.vm_legal.specs.Used.{in_use, is_kept}
use Rattle.vm_legal.proofs.Numbering.{named_regions}
use Rattle.vm_legal.specs.Walks.{IsTop, Leads, Sight, Walks, sight}
use Rattle.vm_flat.proofs.Numbers.{NumberedAt, numbered_merged, numbered_region_copied, numbered_region_made, numbered_shadowed, numbered_start}
use Rattle.vm_flat.proofs.Numbers.{marked_later, numbered_delayed, numbered_unmarked}

-- each entry is on a region that was made
abbrev pub AllMade : Header → List Event → Type 0
AllMade header past = (task : ℕ) → AllRows (λ row. row.region.0 < next_region header past) (entries_of header.size task past)

-- a slow copy fills a temporary object
abbrev pub FillsLater : Header → List Event → Type 0
FillsLater header past = (task : ℕ) (target : Target) → copy_target task past ≡ Some target → named header ≤ target.object

-- what stands under others is temporary or a file
abbrev pub IsLower : Header → ℕ → Type 0
IsLower header o = (named header ≤ o) ⊎ (is_file header o ≡ true)

abbrev pub AllLower : Header → List Event → Type 0
AllLower header past = (o : ℕ) → (backing_of header o past).backed ≡ true → IsLower header (backing_of header o past).under

pub record Numbering (header : Header) (past : List Event) : Type 0 where
  pub numbered : NumberedAt header past
  pub lower : AllLower header past
  pub made : AllMade header past
  pub fills : FillsLater header past

parts_made : (size n : ℕ) → HoldsOfParts size (λ row. row.region.0 < n)
parts_made size n row start end is low less high = is

more_made : (n k : ℕ) (rows : List Entry) → n ≤ k → AllRows (λ row. row.region.0 < n) rows → AllRows (λ row. row.region.0 < k) rows
more_made n k rows le all = rows_map (λ row. row.region.0 < n) (λ row. row.region.0 < k) (λ row is. omega (arith, is)) rows all

none_if : (b : Bool) (n : ℕ) (rows : List Entry) → AllRows (λ row. row.region.0 < n) rows → AllRows (λ row. row.region.0 < n) (if b then [] else rows)
none_if true n rows all = tt
none_if false n rows all = all

entered_if : (b : Bool) (n : ℕ) (new : Entry) (rows : List Entry) → new.region.0 < n → AllRows (λ row. row.region.0 < n) rows
    → AllRows (λ row. row.region.0 < n) (if b then entered new rows else rows)
entered_if true n new rows is all = rows_entered (λ row. row.region.0 < n) new rows is all
entered_if false n new rows is all = all

rewritten_if : (b : Bool) (size n : ℕ) (becomes : Entry → List Entry) (address bytes : ℕ) (rows : List Entry)
    → ((row : Entry) → row.region.0 < n → AllRows (λ r. r.region.0 < n) (becomes row)) → AllRows (λ row. row.region.0 < n) rows
    → AllRows (λ row. row.region.0 < n) (if b then rewritten becomes size address bytes rows else rows)
rewritten_if true size n becomes address bytes rows each all =
    rows_rewritten size (λ row. row.region.0 < n) becomes (parts_made size n) each address bytes rows all
rewritten_if false size n becomes address bytes rows each all = all

-- where an address leads is on a region that was made
pub at_made : (header : Header) (task address : ℕ) (past : List Event) → AllMade header past → (at : At header task address past)
    → at.entry.region.0 < next_region header past
at_made header task address past made at =
    (found_row (λ row. row.region.0 < next_region header past) address (entries_of header.size task past) at.entry (made task) at.found).is

second : (a b : Bool) → (a && b) ≡ true → b ≡ true
second true b is = is
second false b is = absurd (let bad : false ≡ true = is in cc)

made_next : (header : Header) (outside : Outside) (e : Event) (past : List Event) → AllMade header past → HasCause header outside e past
    → AllMade header (e ∷ past)
made_next header outside (event.TaskMade made host) past all c task =
    none_if (made.0 == task) (next_region header past) (entries_of header.size task past) (all task)
made_next header outside (event.TaskEnded gone) past all c task =
    none_if (gone.0 == task) (next_region header past) (entries_of header.size task past) (all task)
made_next header outside (event.RegionMade region object pages) past all c task =
    more_made (next_region header past) (next_region header past + 1) (entries_of header.size task past) (omega arith) (all task)
made_next header outside (event.RegionCopied region source offset pages) past all c task =
    more_made (next_region header past) (next_region header past + 1) (entries_of header.size task past) (omega arith) (all task)
made_next header outside (event.Delayed region source offset pages copy) past all c task =
    more_made (next_region header past) (next_region header past + 1) (entries_of header.size task past) (omega arith) (all task)
made_next header outside (event.Entered owner address bytes region offset prot inherit) past all c task =
    entered_if (owner.0 == task) (next_region header past) _ (entries_of header.size task past) c.1.made (all task)
made_next header outside (event.Removed owner address bytes) past all c task =
    rewritten_if (owner.0 == task) header.size (next_region header past) (λ row. []) address bytes (entries_of header.size task past) (λ row is. tt) (all task)
made_next header outside (event.Protected owner address bytes prot) past all c task =
    rewritten_if (owner.0 == task) header.size (next_region header past) (λ row. record row { prot = prot } ∷ []) address bytes
    (entries_of header.size task past) (λ row is. (is, tt)) (all task)
made_next header outside (event.Inherited owner address bytes inherit) past all c task =
    rewritten_if (owner.0 == task) header.size (next_region header past) (λ row. record row { inherit = inherit } ∷ []) address bytes
    (entries_of header.size task past) (λ row is. (is, tt)) (all task)
made_next header outside e past all c task = all task

numbered_next : (header : Header) (outside : Outside) (e : Event) (past : List Event) → NumberedAt header past → AllMade header past
    → HasCause header outside e past → NumberedAt header (e ∷ past)
numbered_next header outside (event.RegionMade region object pages) past n all c = numbered_region_made header region object pages past n c.1.0 c.1.1
numbered_next header outside (event.RegionCopied region source offset pages) past n all c =
    numbered_region_copied header region source offset pages past n c.1.next c.1.temporary
    (subst (λ k. k < next_region header past) (sym c.1.source_is) (at_made header c.1.task c.1.address past all c.1.at))
numbered_next header outside (event.Delayed region source offset pages copy) past n all c =
    numbered_delayed header region source offset pages copy past n c.1.next c.1.new
numbered_next header outside (event.Shadowed region new old) past n all c =
    numbered_shadowed header region new old past n c.1.next c.1.marked (subst (λ k. k < next_region header past) (sym c.1.region_is)
    (at_made header c.1.task _ past all c.1.waits.at))
numbered_next header outside (event.Unmarked region) past n all c = numbered_unmarked header region past n
numbered_next header outside (event.Merged upper lower) past n all c = numbered_merged header upper lower past n c.1.pair.backed
numbered_next header outside e past n all c = n

target_none : (t : Target) → ◌≡◌ {A = Option Target} None (Some t) → ⊥
target_none t e = cc

object_in : Option Target → ℕ
object_in None = 0
object_in (Some t) = t.object

fills_next : (header : Header) (outside : Outside) (e : Event) (past : List Event) → NumberedAt header past → FillsLater header past
    → HasCause header outside e past → FillsLater header (e ∷ past)
fills_next header outside (event.BegunCopy owner address bytes to) past n fills c task target is = by (owner.0 == task) is
  where
    by : (b : Bool) → (if b then None else copy_target task past) ≡ Some target → named header ≤ target.object
    by true e = absurd (target_none target e)
    by false e = fills task target e
fills_next header outside (event.RegionMade region object pages) past n fills c task target is = by (begins_copy task past) is
  where
    by : (b : Bool) → (if b then Some (record { region = region.0; object = object.0 }) else copy_target task past) ≡ Some target → named header ≤ target.object
    by true e =
        let same : record { region = region.0; object = object.0 } ≡ target = cc in omega (arith, c.1.1, n.later_objects, ap (λ (t : Target). t.object) same)
    by false e = fills task target e
fills_next header outside e past n fills c task target is = fills task target is

lower_if : (header : Header) (b was : Bool) (under new : ℕ) → IsLower header new → (was ≡ true → IsLower header under)
    → (if b then true else was) ≡ true → IsLower header (if b then new else under)
lower_if header true was under new is old backed = is
lower_if header false was under new is old backed = old backed

lower_joined : (header : Header) (b below was : Bool) (under lower : ℕ) → (below ≡ true → IsLower header lower) → (was ≡ true → IsLower header under)
    → (if b then below else was) ≡ true → IsLower header (if b then lower else under)
lower_joined header true below was under lower joined old backed = joined backed
lower_joined header false below was under lower joined old backed = old backed

lower_next : (header : Header) (outside : Outside) (e : Event) (past : List Event) → Numbering header past → HasCause header outside e past
    → AllLower header (e ∷ past)
lower_next header outside (event.Shadowed region new old) past n c o =
    let marked = c.1.marked in
    let made = subst (λ k. k < next_region header past) (sym c.1.region_is) (at_made header c.1.task _ past n.made c.1.waits.at) in
    let later = n.numbered.temporary region.0 (marked_later header region.0 past n.numbered marked) made in
    lower_if header (o == new.0) (backing_of header o past).backed (backing_of header o past).under (region_of header region.0 past).top (inl later) (n.lower o)
lower_next header outside (event.Delayed region source offset pages copy) past n c o =
    let first = n.numbered.later_objects in
    lower_if header (o == copy.0) (if is_newest o (newest_copy source.0 past) then true else (backing_of header o past).backed)
    (if is_newest o (newest_copy source.0 past) then copy.0 else (backing_of header o past).under) source.0 (inr c.1.file)
    (lower_if header (is_newest o (newest_copy source.0 past)) (backing_of header o past).backed (backing_of header o past).under copy.0
    (inl (omega (arith, c.1.new, first))) (n.lower o))
lower_next header outside (event.Merged upper lower) past n c o =
    lower_joined header (o == upper.0) (backing_of header lower.0 past).backed (backing_of header o past).backed (backing_of header o past).under
    (backing_of header lower.0 past).under (n.lower lower.0) (n.lower o)
lower_next header outside e past n c o = n.lower o

pub numbering : (header : Header) (outside : Outside) (past : List Event) → EachEvent (HasCause header outside) past → Numbering header past
numbering header outside [] caused =
    record { numbered = numbered_start header; lower = λ o backed. absurd (cc); made = λ task. tt; fills = λ task target is. absurd (target_none target is) }
numbering header outside (e ∷ past) caused =
    let was : Numbering header past = numbering header outside past caused.1 in
    record {
      numbered = numbered_next header outside e past was.numbered was.made caused.0;
      lower = lower_next header outside e past was caused.0;
      made = made_next header outside e past was.made caused.0;
      fills = fills_next header outside e past was.numbered was.fills caused.0;
    }

-- below an object stand temporary ones and files alone
pub leads_later : (header : Header) (past : List Event) → Numbering header past → (n a b o p : ℕ) → IsLower header a
    → Leads (λ k. backing_of header k past) n a b o p → IsLower header o
leads_later header past num zero a b o p above is = subst (IsLower header) is.0 above
leads_later header past num (suc n) a b o p above is =
    leads_later header past num n (backing_of header a past).under ((backing_of header a past).shift + b) o p (num.lower a is.0) is.1

pub walks_later : (header : Header) (sights : ℕ → ℕ → Sight) (past : List Event) → Numbering header past → (n a b o p : ℕ) → IsLower header a
    → Walks sights (λ k. backing_of header k past) n a b o p → IsLower header o
walks_later header sights past num zero a b o p above is = subst (IsLower header) is.0 above
walks_later header sights past num (suc n) a b o p above is =
    walks_later header sights past num n (backing_of header a past).under ((backing_of header a past).shift + b) o p (num.lower a is.1) is.2

-- a declared object that is no file stands under none
pub not_lower : (header : Header) (o : ℕ) → o < named header → is_file header o ≡ false → IsLower header o → ⊥
not_lower header o declared plain lower = ⊎_elim
    (λ above. omega (arith, above, declared))
    (λ file. let bad : true ≡ false = sym file ∙ plain in cc)
    lower

-- the place is the page of the region with its number
pub record IsOwn (r q o p : ℕ) : Type 0 where
  pub region : r ≡ o
  pub page : q ≡ p

pub top_own : (header : Header) (past : List Event) (r q o p : ℕ) → NumberedAt header past → o < named header → r < next_region header past
    → IsTop (region_of header r past) q o p → IsOwn r q o p
top_own header past r q o p num declared made top = ⊎_elim
    (λ less.
    let same : r ≡ o = sym (num.declared_top r less) ∙ top.object in
    record { region = same; page = omega (arith, num.declared_shift r less, top.page) })
    (λ le. absurd (omega (arith, num.temporary r le made, top.object, declared)))
    (cases_lt r (named header))

-- a walk that comes to a declared object stays at the top of its region
pub record ComesOwn (r q n o p : ℕ) : Type 0 where
  pub own : IsOwn r q o p
  pub steps : n ≡ 0

pub comes_own : (header : Header) (past : List Event) (host r q o p : ℕ) → Numbering header past → o < named header → is_file header o ≡ false
    → r < next_region header past → (comes : Comes header host r q o p past) → ComesOwn r q comes.steps o p
comes_own header past host r q o p num declared plain made comes = by comes.steps comes.walks
  where
    by : (n : ℕ) → Walks (λ k j. sight header host k j past) (λ k. backing_of header k past) n comes.top comes.top_page o p → ComesOwn r q n o p
    by zero walk =
        let top : IsTop (region_of header r past) q o p = record { object = comes.is_top.object ∙ walk.0; page = comes.is_top.page ∙ walk.1 } in
        record { own = top_own header past r q o p num.numbered declared made top; steps = refl }
    by (suc n) walk =
        absurd (not_lower header o declared plain (walks_later header (λ k j. sight header host k j past) past num n (backing_of header comes.top past).under
        ((backing_of header comes.top past).shift + comes.top_page) o p (num.lower comes.top walk.1) walk.2))

-- where no region was made none but the declared ones is in use
still_used : (header : Header) (h r : ℕ) (past : List Event) → next_region header past ≡ named header → in_use header h r past ≡ true
    → is_file header r ≡ true
still_used header h r [] none used = used
still_used header h r (event.RegionMade new object pages ∷ past) none used = absurd (omega (arith, named_regions header past, none))
still_used header h r (event.RegionCopied new source offset pages ∷ past) none used = absurd (omega (arith, named_regions header past, none))
still_used header h r (event.Delayed new source offset pages copy ∷ past) none used = absurd (omega (arith, named_regions header past, none))
still_used header h r (event.Entered task address bytes entered offset prot inherit ∷ past) none used =
    still_used header h r past none (second (not (r == entered.0) || lives_on h task.0 past) _ used)
still_used header h r (event.Removed task address bytes ∷ past) none used =
    still_used header h r past none (second (is_kept header r (event.Removed task address bytes ∷ past)) _ used)
still_used header h r (event.TaskEnded task ∷ past) none used =
    still_used header h r past none (second (is_kept header r (event.TaskEnded task ∷ past)) _ used)
still_used header h r (event.Failed task object page ∷ past) none used =
    still_used header h r past none (second (is_kept header r (event.Failed task object page ∷ past)) _ used)
still_used header h r (e ∷ past) none used = still_used header h r past none used

pub unused : (header : Header) (h r : ℕ) (past : List Event) → next_region header past ≡ named header → named header ≤ r → in_use header h r past ≡ true → ⊥
unused header h r past none later used = by (nat_lt r (named header)) refl (still_used header h r past none used)
  where
    by : (b : Bool) → nat_lt r (named header) ≡ b → b && is_file_kept (declared header r) ≡ true → ⊥
    by true less is = let small : r < named header = grind (arith, nat_tests) in omega (arith, small, later)
    by false less is = cc
