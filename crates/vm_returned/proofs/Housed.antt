-- A copy of a file is on the host where its file is at home: tasks of other hosts have no entry on a region over it.
use Rattle.std.proofs.Common.{◌≡◌, ℕ, ◌<◌, ◌≤◌, ◌==◌, ◌||◌, Bool, true, false, not, List, [], ◌∷◌, Some, None, refl, ap, subst, sym, ◌∙◌, arith}
use Rattle.std.proofs.Common.{inl, inr}
use Rattle.std.proofs.lemmas.Bool.{and_parts, cases_lt}
use Rattle.std.proofs.lemmas.Bool.Decides.{nat_tests}
use Rattle.std.specs.Prelude.{if◌then◌else◌}
use Rattle.vm_base.specs.declared.entry.Entry.{Entry}
use Rattle.vm_base.specs.declared.ids.Inherit.{Inherit}
use Rattle.vm_base.specs.declared.ids.ObjectId.{ObjectId}
use Rattle.vm_base.specs.declared.ids.Prot.{Prot}
use Rattle.vm_base.specs.declared.ids.RegionId.{RegionId}
use Rattle.vm_base.specs.declared.ids.TaskId.{TaskId}
use Rattle.vm_base.specs.Entries.{entered, inherited, protected, removed}
use Rattle.vm_model.specs.declared.event.Event.{Event}
use Rattle.vm_model.specs.declared.event.Event.TheVariants as event
use Rattle.vm_model.specs.declared.script.Header.{Header}
use Rattle.vm_model.specs.Homes.{first_of, home_in, home_of, object_home, region_for}
use Rattle.vm_model.specs.Moments.{EachEvent}
use Rattle.vm_model.specs.Named.{named}
use Rattle.vm_model.specs.Regions.{Region, is_copy, next_object, next_region, region_of}
use Rattle.vm_model.specs.Rows.{AllRows, found_row, rows_entered, rows_map, rows_rewritten}
use Rattle.vm_model.specs.Tasks.{entries_of, host_of}
use Rattle.vm_legal.proofs.Files.{file_named, not_file}
use Rattle.vm_legal.proofs.Homes.{home_stays, object_stays, same_some}
use Rattle.vm_legal.proofs.Numbering.{named_objects}
use Rattle.vm_legal.specs.Accesses.{At}
use Rattle.vm_legal.specs.Licences.{CopiesFile, Finding, HasCause, Pushing, Raises}
use Rattle.vm_legal.specs.Living.{lives_on}
use Rattle.vm_legal.specs.Outside.{Outside, is_file}
use Rattle.vm_legal.specs.Used.{in_use, is_kept, made_here}
use Rattle.vm_legal.specs.Walks.{IsTop}
use Rattle.vm_abroad.specs.Home.{HaveHomes}
use Rattle.vm_abroad.proofs.Home.{copy_made, home_used, homes_next, homes_start}
use Rattle.vm_abroad.proofs.Own.{itself}
use Rattle.vm_abroad.proofs.Numbers.{objects_rise, regions_rise, unlike}
use Rattle.vm_quiet.proofs.Letters.{never}

-- ---- copies of files

-- a copy of a file was made
pub copy_low : (header : Header) (o : ℕ) (past : List Event) → HaveHomes header past → is_copy o past ≡ true → o < next_object header past
copy_low header o past homes is = elim (cases_lt o (next_object header past)) [
  | inl less ↦ less
  | inr high ↦ never (sym (homes.unmade o high) ∙ (homes.lined o is).backed)
]

-- and it is temporary
pub copy_high : (header : Header) (o : ℕ) (past : List Event) → HaveHomes header past → is_copy o past ≡ true → named header ≤ o
copy_high header o past homes is = elim (cases_lt o (named header)) [
  | inl declared ↦ never (sym (homes.bare o declared) ∙ (homes.lined o is).backed)
  | inr temporary ↦ temporary
]

-- an object that was made becomes no copy later
pub copy_before : (header : Header) (outside : Outside) (o : ℕ) (e : Event) (past : List Event) → HasCause header outside e past
    → o < next_object header past → is_copy o (e ∷ past) ≡ true → is_copy o past ≡ true
copy_before header outside o (event.Delayed region source offset pages copy) past cause less is =
    let number = cause.1.new in
    let other : (o == copy.0) ≡ false = unlike o copy.0 (λ same. omega (arith, same, number, less)) in
    ap (λ b. b || is_copy o past) (sym other) ∙ is
copy_before header outside o e past cause less is = is

-- the object was made; and if it is a copy of a file, it is at home on the host
pub record IsOwn (header : Header) (h o : ℕ) (past : List Event) : Type 0 where
  pub made : o < next_object header past
  pub home : is_copy o past ≡ true → object_home o past ≡ Some h

pub own_later : (header : Header) (outside : Outside) (h o : ℕ) (e : Event) (past : List Event) → HasCause header outside e past → IsOwn header h o past
    → IsOwn header h o (e ∷ past)
own_later header outside h o e past cause own =
    record {
      made = let less = own.made in let rise = objects_rise header e past in omega (arith, less, rise);
      home = λ copy. object_stays o h e past (own.home (copy_before header outside o e past cause own.made copy));
    }

-- an object that isn't made yet is no copy
new_own : (header : Header) (h o : ℕ) (e : Event) (past : List Event) → HaveHomes header past → o ≡ next_object header past → o < next_object header (e ∷ past)
    → (is_copy o (e ∷ past) ≡ true → is_copy o past ≡ true) → IsOwn header h o (e ∷ past)
new_own header h o e past homes number less before =
    record {
      made = less;
      home = λ copy. absurd (let low = copy_low header o past homes (before copy) in omega (arith, low, number));
    }

-- ---- the tops of regions

-- that of a temporary region is temporary
pub tops_high : (header : Header) (outside : Outside) (r : ℕ) (past : List Event) → EachEvent (HasCause header outside) past → named header ≤ r
    → named header ≤ (region_of header r past).top
tops_high header outside r [] causes high = high
tops_high header outside r (event.RegionMade new object pages ∷ past) causes high = by (r == new.0) (tops_high header outside r past causes.1 high)
  where
    by : (b : Bool) → named header ≤ (region_of header r past).top → named header ≤ (if b then object.0 else (region_of header r past).top)
    by true before = let number = causes.0.1.1 in omega (arith, number, named_objects header past)
    by false before = before
tops_high header outside r (event.RegionCopied new source offset pages ∷ past) causes high =
    by (r == new.0) (tops_high header outside r past causes.1 high) (tops_high header outside source.0 past causes.1 causes.0.1.temporary)
  where
    by : (b : Bool) → named header ≤ (region_of header r past).top → named header ≤ (region_of header source.0 past).top
        → named header ≤ (if b then (region_of header source.0 past).top else (region_of header r past).top)
    by true before from = from
    by false before from = before
tops_high header outside r (event.Delayed new source offset pages copy ∷ past) causes high = by (r == new.0) (tops_high header outside r past causes.1 high)
  where
    by : (b : Bool) → named header ≤ (region_of header r past).top → named header ≤ (if b then copy.0 else (region_of header r past).top)
    by true before = let number = causes.0.1.new in omega (arith, number, named_objects header past)
    by false before = before
tops_high header outside r (event.Shadowed changed new old ∷ past) causes high = by (r == changed.0) (tops_high header outside r past causes.1 high)
  where
    by : (b : Bool) → named header ≤ (region_of header r past).top → named header ≤ (if b then new.0 else (region_of header r past).top)
    by true before = let number = causes.0.1.next in omega (arith, number, named_objects header past)
    by false before = before
tops_high header outside r (e ∷ past) causes high = tops_high header outside r past causes.1 high

abbrev OwnTop : Header → ℕ → ℕ → List Event → Type 0
OwnTop header h r past = IsOwn header h (region_of header r past).top past

top_later : (header : Header) (outside : Outside) (h r : ℕ) (e : Event) (past : List Event) → HasCause header outside e past → HaveHomes header past
    → r < next_region header past → OwnTop header h r past → OwnTop header h r (e ∷ past)
top_later header outside h r (event.RegionMade new object pages) past cause homes less own =
    let number = cause.1.0 in
    let other : (r == new.0) ≡ false = unlike r new.0 (λ same. omega (arith, same, number, less)) in
    subst (λ (b : Bool). IsOwn header h (if b then object.0 else (region_of header r past).top) (event.RegionMade new object pages ∷ past)) (sym other)
    (own_later header outside h (region_of header r past).top (event.RegionMade new object pages) past cause own)
top_later header outside h r (event.RegionCopied new source offset pages) past cause homes less own =
    let number = cause.1.next in
    let other : (r == new.0) ≡ false = unlike r new.0 (λ same. omega (arith, same, number, less)) in
    subst (λ (b : Bool). IsOwn header h (if b then (region_of header source.0 past).top else (region_of header r past).top)
    (event.RegionCopied new source offset pages ∷ past)) (sym other)
    (own_later header outside h (region_of header r past).top (event.RegionCopied new source offset pages) past cause own)
top_later header outside h r (event.Delayed new source offset pages copy) past cause homes less own =
    let number = cause.1.next in
    let other : (r == new.0) ≡ false = unlike r new.0 (λ same. omega (arith, same, number, less)) in
    subst (λ (b : Bool). IsOwn header h (if b then copy.0 else (region_of header r past).top) (event.Delayed new source offset pages copy ∷ past)) (sym other)
    (own_later header outside h (region_of header r past).top (event.Delayed new source offset pages copy) past cause own)
top_later header outside h r (event.Shadowed changed new old) past cause homes less own =
    by (r == changed.0) (own_later header outside h (region_of header r past).top (event.Shadowed changed new old) past cause own)
  where
    by : (b : Bool) → IsOwn header h (region_of header r past).top (event.Shadowed changed new old ∷ past)
        → IsOwn header h (if b then new.0 else (region_of header r past).top) (event.Shadowed changed new old ∷ past)
    by true later =
        let number : new.0 ≡ next_object header past = cause.1.next in
        new_own header h new.0 (event.Shadowed changed new old) past homes number (omega (arith, number)) (λ is. is)
    by false later = later
top_later header outside h r e past cause homes less own = own_later header outside h (region_of header r past).top e past cause own

-- ---- regions that are in use, and entries

-- a region that is in use on the host
record IsUsedHere (header : Header) (h r : ℕ) (past : List Event) : Type 0 where
  made : r < next_region header past
  top : OwnTop header h r past

-- a region on which a task of the host has an entry: a file is at home there
pub record IsRowHere (header : Header) (h r : ℕ) (past : List Event) : Type 0 where
  pub made : r < next_region header past
  pub file : is_file header r ≡ true → home_of r past ≡ Some h
  pub top : named header ≤ r → OwnTop header h r past

abbrev RowsHere : Header → ℕ → List Event → List Entry → Type 0
RowsHere header h past rows = AllRows (λ row. IsRowHere header h row.region.0 past) rows

pub record Housed (header : Header) (past : List Event) : Type 0 where
  pub homes : HaveHomes header past
  used : (h r : ℕ) → named header ≤ r → in_use header h r past ≡ true → IsUsedHere header h r past
  rows : (task h : ℕ) → host_of task past ≡ Some h → RowsHere header h past (entries_of header.size task past)

-- where a task has an entry
pub row_of : (header : Header) (task address : ℕ) (past : List Event) → Housed header past → (at : At header task address past)
    → IsRowHere header at.host at.entry.region.0 past
row_of header task address past housed at =
    (found_row (λ row. IsRowHere header at.host row.region.0 past) address (entries_of header.size task past) at.entry (housed.rows task at.host at.lives)
    at.found).is

used_later : (header : Header) (outside : Outside) (h r : ℕ) (e : Event) (past : List Event) → HasCause header outside e past → HaveHomes header past
    → IsUsedHere header h r past → IsUsedHere header h r (e ∷ past)
used_later header outside h r e past cause homes used =
    record {
      made = let less = used.made in let rise = regions_rise header e past in omega (arith, less, rise);
      top = top_later header outside h r e past cause homes used.made used.top;
    }

-- the copy of a file that has an entry is at home on the host of that
delayed_own : (header : Header) (outside : Outside) (h : ℕ) (region source : RegionId) (offset pages : ℕ) (copy : ObjectId) (past : List Event)
    → Housed header past → CopiesFile header region.0 source.0 offset pages copy.0 past → in_use header h source.0 past ≡ true
    → IsOwn header h copy.0 (event.Delayed region source offset pages copy ∷ past)
delayed_own header outside h region source offset pages copy past housed c used =
    record {
      made = let number = c.new in omega (arith, number);
      home = λ is. made_for ∙ (filed ∙ ap (λ (n : ℕ). Some n) (sym same));
    }
  where
    filed : home_of source.0 past ≡ Some c.at.host
    filed =
        subst (λ (r : ℕ). is_file header r ≡ true → home_of r past ≡ Some c.at.host) (sym c.source_is)
        (row_of header c.task c.address past housed c.at).file c.file

    same : h ≡ c.at.host
    same = housed.homes.stay h c.at.host source.0 used filed

    made_for : object_home copy.0 (event.Delayed region source offset pages copy ∷ past) ≡ home_of source.0 past
    made_for =
        let number = c.new in
        ap (λ b. home_in (λ r. home_of r past) (if b then first_of (region_for copy.0 past) (Some source.0) else region_for copy.0 past)) (itself copy.0)
        ∙ ap (λ z. home_in (λ r. home_of r past) (first_of z (Some source.0))) (housed.homes.objects copy.0 (omega (arith, number)))

used_next : (header : Header) (outside : Outside) (e : Event) (past : List Event) → HasCause header outside e past → Housed header past → (h r : ℕ)
    → named header ≤ r → in_use header h r (e ∷ past) ≡ true → IsUsedHere header h r (e ∷ past)
used_next header outside (event.RegionMade new object pages) past cause housed h r high used = by (r == new.0) refl used
  where
    e : Event
    e = event.RegionMade new object pages

    by : (b : Bool) → (r == new.0) ≡ b → (if b then made_here h past else in_use header h r past) ≡ true → IsUsedHere header h r (e ∷ past)
    by true is now =
        let same : r ≡ new.0 = grind (arith, nat_tests) in
        let number = cause.1.0 in
        let next : object.0 ≡ next_object header past = cause.1.1 in
        record {
          made = omega (arith, same, number);
          top =
              subst (λ (b : Bool). IsOwn header h (if b then object.0 else (region_of header r past).top) (e ∷ past)) (sym is)
              (new_own header h object.0 e past housed.homes next (omega (arith, next)) (λ copy. copy));
        }
    by false is now = used_later header outside h r e past cause housed.homes (housed.used h r high now)
used_next header outside (event.RegionCopied new source offset pages) past cause housed h r high used = by (r == new.0) refl used
  where
    e : Event
    e = event.RegionCopied new source offset pages

    by : (b : Bool) → (r == new.0) ≡ b → (if b then in_use header h source.0 past else in_use header h r past) ≡ true → IsUsedHere header h r (e ∷ past)
    by true is now =
        let same : r ≡ new.0 = grind (arith, nat_tests) in
        let number = cause.1.next in
        record {
          made = omega (arith, same, number);
          top =
              subst (λ (b : Bool). IsOwn header h (if b then (region_of header source.0 past).top else (region_of header r past).top) (e ∷ past)) (sym is)
              (own_later header outside h (region_of header source.0 past).top e past cause (housed.used h source.0 cause.1.temporary now).top);
        }
    by false is now = used_later header outside h r e past cause housed.homes (housed.used h r high now)
used_next header outside (event.Delayed new source offset pages copy) past cause housed h r high used = by (r == new.0) refl used
  where
    e : Event
    e = event.Delayed new source offset pages copy

    by : (b : Bool) → (r == new.0) ≡ b → (if b then in_use header h source.0 past else in_use header h r past) ≡ true → IsUsedHere header h r (e ∷ past)
    by true is now =
        let same : r ≡ new.0 = grind (arith, nat_tests) in
        let number = cause.1.next in
        record {
          made = omega (arith, same, number);
          top =
              subst (λ (b : Bool). IsOwn header h (if b then copy.0 else (region_of header r past).top) (e ∷ past)) (sym is)
              (delayed_own header outside h new source offset pages copy past housed cause.1 now);
        }
    by false is now = used_later header outside h r e past cause housed.homes (housed.used h r high now)
used_next header outside (event.Entered task address bytes entered offset prot inherit) past cause housed h r high used =
    used_later header outside h r (event.Entered task address bytes entered offset prot inherit) past cause housed.homes
    (housed.used h r high (and_parts (not (r == entered.0) || lives_on h task.0 past) (in_use header h r past) used).1)
used_next header outside (event.Removed task address bytes) past cause housed h r high used =
    used_later header outside h r (event.Removed task address bytes) past cause housed.homes
    (housed.used h r high (and_parts (is_kept header r (event.Removed task address bytes ∷ past)) (in_use header h r past) used).1)
used_next header outside (event.TaskEnded task) past cause housed h r high used =
    used_later header outside h r (event.TaskEnded task) past cause housed.homes
    (housed.used h r high (and_parts (is_kept header r (event.TaskEnded task ∷ past)) (in_use header h r past) used).1)
used_next header outside (event.Failed task object page) past cause housed h r high used =
    used_later header outside h r (event.Failed task object page) past cause housed.homes
    (housed.used h r high (and_parts (is_kept header r (event.Failed task object page ∷ past)) (in_use header h r past) used).1)
used_next header outside e past cause housed h r high used = used_later header outside h r e past cause housed.homes (housed.used h r high used)

rows_later : (header : Header) (outside : Outside) (h : ℕ) (e : Event) (past : List Event) (rows : List Entry) → HasCause header outside e past
    → HaveHomes header past → RowsHere header h past rows → RowsHere header h (e ∷ past) rows
rows_later header outside h e past rows cause homes all =
    rows_map (λ row. IsRowHere header h row.region.0 past) (λ row. IsRowHere header h row.region.0 (e ∷ past)) (λ row is. record {
      made = let less = is.made in let rise = regions_rise header e past in omega (arith, less, rise);
      file = λ file. home_stays row.region.0 h e past (is.file file);
      top = λ high. top_later header outside h row.region.0 e past cause homes is.made (is.top high);
    }) rows all

-- a new entry is on a region that is in use on its host
row_entered : (header : Header) (outside : Outside) (owner : TaskId) (address bytes : ℕ) (region : RegionId) (offset : ℕ) (prot : Prot) (inherit : Inherit)
    (past : List Event) → Housed header past → HasCause header outside (event.Entered owner address bytes region offset prot inherit) past
    → (h : ℕ) → host_of owner.0 past ≡ Some h → IsRowHere header h region.0 (event.Entered owner address bytes region offset prot inherit ∷ past)
row_entered header outside owner address bytes region offset prot inherit past housed cause h lives =
    record {
      made = cause.1.made;
      file =
          λ file. home_used header h owner address bytes region offset prot inherit past housed.homes
          (ap (λ z. in_use header z region.0 past) (sym one) ∙ cause.1.file file) lives;
      top =
          λ high. top_later header outside h region.0 (event.Entered owner address bytes region offset prot inherit) past cause housed.homes cause.1.made
          (housed.used h region.0 high (ap (λ z. in_use header z region.0 past) (sym one) ∙ cause.1.used high)).top;
    }
  where
    one : cause.1.host ≡ h
    one = same_some cause.1.host h (sym cause.1.lives ∙ lives)

rows_next : (header : Header) (outside : Outside) (e : Event) (past : List Event) → HasCause header outside e past → Housed header past → (task h : ℕ)
    → host_of task (e ∷ past) ≡ Some h → RowsHere header h (e ∷ past) (entries_of header.size task (e ∷ past))
rows_next header outside (event.TaskMade made at) past cause housed task h lives = by (made.0 == task) lives
  where
    by : (b : Bool) → (if b then Some at.0 else host_of task past) ≡ Some h
        → RowsHere header h (event.TaskMade made at ∷ past) (if b then [] else entries_of header.size task past)
    by true lives = tt
    by false lives =
        rows_later header outside h (event.TaskMade made at) past (entries_of header.size task past) cause housed.homes (housed.rows task h lives)
rows_next header outside (event.TaskEnded gone) past cause housed task h lives = by (gone.0 == task) lives
  where
    by : (b : Bool) → (if b then None else host_of task past) ≡ Some h
        → RowsHere header h (event.TaskEnded gone ∷ past) (if b then [] else entries_of header.size task past)
    by true lives = tt
    by false lives =
        rows_later header outside h (event.TaskEnded gone) past (entries_of header.size task past) cause housed.homes (housed.rows task h lives)
rows_next header outside (event.Entered owner address bytes region offset prot inherit) past cause housed task h lives = by (owner.0 == task) refl
  where
    e : Event
    e = event.Entered owner address bytes region offset prot inherit

    new : Entry
    new = record { address = address; bytes = bytes; region = region; offset = offset; prot = prot; inherit = inherit }

    later : RowsHere header h (e ∷ past) (entries_of header.size task past)
    later = rows_later header outside h e past (entries_of header.size task past) cause housed.homes (housed.rows task h lives)

    by : (b : Bool) → (owner.0 == task) ≡ b
        → RowsHere header h (e ∷ past) (if b then entered new (entries_of header.size task past) else entries_of header.size task past)
    by true is =
        let same : task ≡ owner.0 = grind (arith, nat_tests) in
        rows_entered (λ row. IsRowHere header h row.region.0 (e ∷ past)) new (entries_of header.size task past)
        (row_entered header outside owner address bytes region offset prot inherit past housed cause h (ap (λ z. host_of z past) (sym same) ∙ lives)) later
    by false is = later
rows_next header outside (event.Removed owner address bytes) past cause housed task h lives = by (owner.0 == task)
  where
    e : Event
    e = event.Removed owner address bytes

    later : RowsHere header h (e ∷ past) (entries_of header.size task past)
    later = rows_later header outside h e past (entries_of header.size task past) cause housed.homes (housed.rows task h lives)

    by : (b : Bool) → RowsHere header h (e ∷ past) (if b then removed header.size address bytes (entries_of header.size task past) else entries_of
        header.size task past)
    by true =
        rows_rewritten header.size (λ row. IsRowHere header h row.region.0 (e ∷ past)) (λ row. []) (λ row start end is low less high. is) (λ row is. tt)
        address bytes (entries_of header.size task past) later
    by false = later
rows_next header outside (event.Protected owner address bytes prot) past cause housed task h lives = by (owner.0 == task)
  where
    e : Event
    e = event.Protected owner address bytes prot

    later : RowsHere header h (e ∷ past) (entries_of header.size task past)
    later = rows_later header outside h e past (entries_of header.size task past) cause housed.homes (housed.rows task h lives)

    by : (b : Bool) → RowsHere header h (e ∷ past) (if b then protected header.size address bytes prot (entries_of header.size task past) else entries_of
        header.size task past)
    by true =
        rows_rewritten header.size (λ row. IsRowHere header h row.region.0 (e ∷ past)) (λ row. record row { prot = prot } ∷ [])
        (λ row start end is low less high. is) (λ row is. (is, tt)) address bytes (entries_of header.size task past) later
    by false = later
rows_next header outside (event.Inherited owner address bytes inherit) past cause housed task h lives = by (owner.0 == task)
  where
    e : Event
    e = event.Inherited owner address bytes inherit

    later : RowsHere header h (e ∷ past) (entries_of header.size task past)
    later = rows_later header outside h e past (entries_of header.size task past) cause housed.homes (housed.rows task h lives)

    by : (b : Bool) → RowsHere header h (e ∷ past) (if b then inherited header.size address bytes inherit (entries_of header.size task past) else entries_of
        header.size task past)
    by true =
        rows_rewritten header.size (λ row. IsRowHere header h row.region.0 (e ∷ past)) (λ row. record row { inherit = inherit } ∷ [])
        (λ row start end is low less high. is) (λ row is. (is, tt)) address bytes (entries_of header.size task past) later
    by false = later
rows_next header outside e past cause housed task h lives =
    rows_later header outside h e past (entries_of header.size task past) cause housed.homes (housed.rows task h lives)

-- so it is behind all events that have their causes
pub housed_of : (header : Header) (outside : Outside) (past : List Event) → EachEvent (HasCause header outside) past → Housed header past
housed_of header outside [] causes =
    record {
      homes = homes_start header;
      used = λ h r high used. never (sym (not_file header r high) ∙ used);
      rows = λ task h lives. absurd (let bad : None ≡ Some h = lives in cc);
    }
housed_of header outside (e ∷ past) causes =
    let was : Housed header past = housed_of header outside past causes.1 in
    record {
      homes = homes_next header outside e past causes.0 was.homes;
      used = used_next header outside e past causes.0 was;
      rows = rows_next header outside e past causes.0 was;
    }

-- ---- where a page is copied up

-- the top object of a page of such a region
pub top_own : (header : Header) (h r index o p : ℕ) (past : List Event) → HaveHomes header past → IsRowHere header h r past
    → IsTop (region_of header r past) index o p → IsOwn header h o past
top_own header h r index o p past homes row top = elim (cases_lt r (named header)) [
  | inl declared ↦
      let same : r ≡ o = ap (λ (x : Region). x.top) (sym (homes.whole r declared)) ∙ top.object in
      record {
        made = omega (arith, same, declared, named_objects header past);
        home = λ copy. absurd (let high = copy_high header o past homes copy in omega (arith, same, declared, high));
      }
  | inr temporary ↦ subst (λ (z : ℕ). IsOwn header h z past) top.object (row.top temporary)
]

-- a file that is the top of a page is at home there
file_home : (header : Header) (outside : Outside) (h r index o p : ℕ) (past : List Event) → EachEvent (HasCause header outside) past → HaveHomes header past
    → IsRowHere header h r past → IsTop (region_of header r past) index o p → is_file header o ≡ true → home_of o past ≡ Some h
file_home header outside h r index o p past causes homes row top file = elim (cases_lt r (named header)) [
  | inl declared ↦
      let same : r ≡ o = ap (λ (x : Region). x.top) (sym (homes.whole r declared)) ∙ top.object in
      subst (λ (z : ℕ). is_file header z ≡ true → home_of z past ≡ Some h) same row.file file
  | inr temporary ↦
      let high = tops_high header outside r past causes temporary in
      let its = top.object in
      absurd (let low = file_named header o file in omega (arith, high, its, low))
]

-- whatever a page is copied up to
pub raised_own : (header : Header) (outside : Outside) (h lower lower_page upper upper_page : ℕ) (past : List Event) → EachEvent (HasCause header outside) past
    → Housed header past → Raises header h lower lower_page upper upper_page past → IsOwn header h upper past
raised_own header outside h lower lower_page upper upper_page past causes housed (Finding c) =
    subst (λ (z : ℕ). IsOwn header z upper past) c.on_host
    (top_own header c.waits.at.host c.waits.at.entry.region.0 _ upper upper_page past housed.homes (row_of header c.task _ past housed c.waits.at) c.is_top)
raised_own header outside h lower lower_page upper upper_page past causes housed (Pushing c) =
    record {
      made = copy_made header lower upper past housed.homes c.owes.newest;
      home =
          λ copy. ap (home_in (λ r. home_of r past)) (housed.homes.copies lower upper c.owes.newest).made
          ∙ (file_home header outside c.waits.at.host c.waits.at.entry.region.0 _ lower lower_page past causes housed.homes
          (row_of header c.task _ past housed c.waits.at) c.is_top c.owes.file
          ∙ ap (λ (n : ℕ). Some n) c.on_host);
    }
