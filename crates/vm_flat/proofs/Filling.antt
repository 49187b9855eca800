-- The region that a waiting slow copy fills is as it was made, and nobody else has anything of it.
use Rattle.std.proofs.Common.{ℕ, ◌≡◌, ◌≢◌, ◌+◌, ◌<◌, ◌≤◌, List, [], ◌∷◌, Bool, true, false, refl, sym, ap, subst, ◌∙◌, arith, Option, Some, None, if◌then◌else◌}
use Rattle.std.proofs.lemmas.Bool.Decides.{nat_tests}
use Rattle.std.specs.Prelude.{◌==◌, ◌&&◌, ◌||◌, not}
use Rattle.vm_base.specs.declared.entry.Entry.{Entry}
use Rattle.vm_base.specs.Entries.{entered, removed, protected, inherited}
use Rattle.vm_base.specs.declared.ids.RegionId.{RegionId}
use Rattle.vm_base.specs.declared.ids.ObjectId.{ObjectId}
use Rattle.vm_model.specs.declared.event.Event.{Event}
use Rattle.vm_model.specs.declared.event.Event.TheVariants as event
use Rattle.vm_model.specs.declared.script.Header.{Header}
use Rattle.vm_model.specs.Tasks.{host_of, entries_of}
use Rattle.vm_model.specs.Named.{named}
use Rattle.vm_legal.specs.Outside.{Outside, is_from_told}
use Rattle.vm_model.specs.Local.{is_on}
use Rattle.vm_legal.specs.Living.{lives_on, tasks}
use Rattle.vm_model.specs.Waiting.{Access, Loading, Storing, Copying, waiting, begins_copy, Target, copy_target, fills}
use Rattle.vm_model.specs.Regions.{next_region, next_object, Region, is_copy, region_of}
use Rattle.vm_legal.specs.Used.{made_here, is_kept, is_filled}
use Rattle.vm_flat.proofs.Uses.{in_use}
use Rattle.vm_legal.specs.Flat.{made_over}
use Rattle.vm_legal.specs.Licences as L
use Rattle.vm_legal.specs.Accesses as A
use Rattle.vm_flat.proofs.Sustained.{Sustained}
use Rattle.vm_flat.proofs.Regions.{if_no, if_yes}
use Rattle.vm_model.specs.Rows.{AllRows, rows_map, rows_rewritten, rows_entered, found_row}
use Rattle.vm_flat.proofs.Entries.{Entries, OwnedAt}
use Rattle.vm_flat.proofs.Held.{filled_now, kept_filled}
use Rattle.vm_flat.proofs.Numbers.{NumberedAt}

-- no living task has an entry on the region
abbrev pub NoEntry : (ℕ → Option ℕ) → (ℕ → List Entry) → ℕ → Type 0
NoEntry hosts entries region = (task host : ℕ) → hosts task ≡ Some host → AllRows (λ row. row.region.0 ≢ region) (entries task)

pub record Filled (paging : Bool) (first next_region next_object : ℕ) (over : ℕ → Option ℕ) (copies : ℕ → Bool) (regions : ℕ → Region) (used : ℕ → ℕ
    → Bool) (hosts : ℕ → Option ℕ)
    (entries : ℕ → List Entry) (host : ℕ) (t : Target) : Type 0 where
  pub later : first ≤ t.region
  pub made : t.region < next_region
  pub object_made : t.object < next_object
  pub is_over : over t.object ≡ Some t.region
  pub no_copy : copies t.object ≡ false
  pub top : (regions t.region).top ≡ t.object
  pub shift : (regions t.region).shift ≡ 0
  pub mark : (regions t.region).mark ≡ false
  pub used_here : paging ≡ true → used host t.region ≡ true
  pub alone : (other : ℕ) → (other ≡ host → ⊥) → used other t.region ≡ false
  pub no_entry : NoEntry hosts entries t.region

abbrev pub FilledAt : Header → Outside → List Event → ℕ → Target → Type 0
FilledAt header outside past host t =
    Filled outside.paging (named header) (next_region header past) (next_object header past) (λ o. made_over o past) (λ o. is_copy o past)
    (λ r. region_of header r past)
    (λ h r. in_use header outside h r past) (λ task. host_of task past) (λ task. entries_of header.size task past) host t

abbrev pub Filling : Header → Outside → List Event → Type 0
Filling header outside past =
    (task host address bytes to : ℕ) (t : Target) → host_of task past ≡ Some host → waiting task past ≡ Some (Copying address bytes to)
    → copy_target task past ≡ Some t → FilledAt header outside past host t

none_target : (t : Target) → ◌≡◌ {A = Option Target} None (Some t) → ⊥
none_target t e = cc

none_access : (a : Access) → ◌≡◌ {A = Option Access} None (Some a) → ⊥
none_access a e = cc

loading_copying : (a n address bytes to : ℕ) → ◌≡◌ {A = Option Access} (Some (Loading a n)) (Some (Copying address bytes to)) → ⊥
loading_copying a n address bytes to e = cc

storing_copying : (a n v address bytes to : ℕ) → ◌≡◌ {A = Option Access} (Some (Storing a n v)) (Some (Copying address bytes to)) → ⊥
storing_copying a n v address bytes to e = cc

some_target : (t u : Target) → ◌≡◌ {A = Option Target} (Some t) (Some u) → t ≡ u
some_target t u e = cc

-- an access that has ended or is of another kind fills nothing
ended : {A : Type 0} (b : Bool) (past target : Option Access) (other : Option Access) (a : Access) → (b ≡ true → other ≡ Some a → ⊥)
    → (if b then other else past) ≡ Some a → (b ≡ false → past ≡ Some a → A) → A
ended true past target other a never waits more = absurd (never refl waits)
ended false past target other a never waits more = more refl waits

-- the copy fills its target
it_fills : (task address bytes to : ℕ) (t : Target) (past : List Event) → waiting task past ≡ Some (Copying address bytes to) → copy_target task past ≡ Some t
    → fills t.region (waiting task past) (copy_target task past) ≡ true
it_fills task address bytes to t past waits target =
    ap (λ a. fills t.region a (copy_target task past)) waits ∙ ap (λ o. fills t.region (Some (Copying address bytes to)) o) target ∙ same t.region
  where
    same : (r : ℕ) → (r == r) ≡ true
    same r = grind (arith, nat_tests)

both : (a b : Bool) → a ≡ true → b ≡ true → (a && b) ≡ true
both true b is also = also
both false b is also = absurd (cc)

never : (a b : Bool) → b ≡ false → (a && b) ≡ false
never true b is = is
never false b is = refl

-- where only held regions stay in use
kept_still : (header : Header) (outside : Outside) (e : Event) (past : List Event) (task host address bytes to : ℕ) (t : Target)
    → host_of task (e ∷ past) ≡ Some host → waiting task (e ∷ past) ≡ Some (Copying address bytes to) → copy_target task (e ∷ past) ≡ Some t
    → (hosts : ℕ → Option ℕ) (entries : ℕ → List Entry) → FilledAt header outside past host t → NoEntry hosts entries t.region
    → Filled outside.paging (named header) (next_region header past) (next_object header past) (λ o. made_over o past) (λ o. is_copy o past)
    (λ r. region_of header r past)
    (λ h r. is_kept header r (e ∷ past) && in_use header outside h r past) hosts entries host t
kept_still header outside e past task host address bytes to t lives waits target hosts entries f none =
    record {
      later = f.later;
      made = f.made;
      object_made = f.object_made;
      is_over = f.is_over;
      no_copy = f.no_copy;
      top = f.top;
      shift = f.shift;
      mark = f.mark;
      used_here =
          λ told. both (is_kept header t.region (e ∷ past)) (in_use header outside host t.region past)
          (kept_filled header t.region task host (e ∷ past) lives (it_fills task address bytes to t (e ∷ past) waits target)) (f.used_here told);
      alone = λ other apart. never (is_kept header t.region (e ∷ past)) (in_use header outside other t.region past) (f.alone other apart);
      no_entry = none;
    }

with_entries : (header : Header) (outside : Outside) (past : List Event) (host : ℕ) (t : Target) (hosts : ℕ → Option ℕ) (entries : ℕ → List Entry)
    → FilledAt header outside past host t → NoEntry hosts entries t.region
    → Filled outside.paging (named header) (next_region header past) (next_object header past) (λ o. made_over o past) (λ o. is_copy o past)
    (λ r. region_of header r past)
    (λ h r. in_use header outside h r past) hosts entries host t
with_entries header outside past host t hosts entries f none =
    record {
      later = f.later;
      made = f.made;
      object_made = f.object_made;
      is_over = f.is_over;
      no_copy = f.no_copy;
      top = f.top;
      shift = f.shift;
      mark = f.mark;
      used_here = f.used_here;
      alone = f.alone;
      no_entry = none;
    }

-- the region of an entry is filled by nobody
entry_apart : (header : Header) (task address : ℕ) (past : List Event) (at : A.At header task address past) (r : ℕ)
    → NoEntry (λ task. host_of task past) (λ task. entries_of header.size task past) r → at.entry.region.0 ≢ r
entry_apart header task address past at r none =
    (found_row (λ row. row.region.0 ≢ r) address (entries_of header.size task past) at.entry (none task at.host at.lives) at.found).is

-- a region that is made for a slow copy

begun_here : (task host h : ℕ) (past : List Event) → begins_copy task past ≡ true → host_of task past ≡ Some host → made_here h past ≡ (host == h)
begun_here task host h (event.BegunCopy owner address bytes to ∷ past) is lives =
    let e : owner.0 ≡ task = grind (arith, nat_tests) in
    ap (λ k. is_on h (host_of k past)) e ∙ ap (λ o. is_on h o) lives
begun_here task host h [] is lives = absurd (cc)
begun_here task host h (e ∷ past) is lives = absurd (false_true is)
  where
    false_true : false ≡ true → ⊥
    false_true e = cc

made_filling : (header : Header) (outside : Outside) (region : RegionId) (object : ObjectId) (pages : ℕ) (past : List Event) → NumberedAt header past
    → Entries header outside past → region.0 ≡ next_region header past → object.0 ≡ next_object header past → Filling header outside past
    → Filling header outside (event.RegionMade region object pages ∷ past)
made_filling header outside region object pages past n entries is new filling task host address bytes to t lives waits target =
    by (begins_copy task past) refl target
  where
    fresh : begins_copy task past ≡ true → FilledAt header outside (event.RegionMade region object pages ∷ past) host
        (record { region = region.0; object = object.0 })
    fresh begun =
        record {
          later = omega (arith, is, n.later_regions);
          made = omega (arith, is);
          object_made = omega (arith, new);
          is_over = if_yes object.0 object.0 (Some region.0) (made_over object.0 past) refl;
          no_copy = unmade (is_copy object.0 past) refl;
          top = if_yes region.0 region.0 object.0 (region_of header region.0 past).top refl;
          shift = if_yes region.0 region.0 0 (region_of header region.0 past).shift refl;
          mark = if_yes region.0 region.0 false (region_of header region.0 past).mark refl;
          used_here =
              λ told. if_yes region.0 region.0 (made_here host past && outside.paging) (in_use header outside host region.0 past) refl
              ∙ both (made_here host past) outside.paging (begun_here task host host past begun lives ∙ same host) told;
          alone =
              λ other apart. if_yes region.0 region.0 (made_here other past && outside.paging) (in_use header outside other region.0 past) refl
              ∙ off (made_here other past) outside.paging (begun_here task host other past begun lives ∙ differ host other apart);
          no_entry =
              λ k h lives. rows_map (OwnedAt header outside past h) (λ row. row.region.0 ≢ region.0) (λ row ok e. omega (arith, ok.made, e, is))
              (entries_of header.size k past) (entries k h lives);
        }
      where
        same : (h : ℕ) → (h == h) ≡ true
        same h = grind (arith, nat_tests)

        unmade : (b : Bool) → is_copy object.0 past ≡ b → b ≡ false
        unmade false isnt = refl
        unmade true copy = absurd (omega (arith, n.copied object.0 copy, new))

        off : (a b : Bool) → a ≡ false → (a && b) ≡ false
        off true b is = absurd (cc)
        off false b is = refl

        differ : (h o : ℕ) → (o ≡ h → ⊥) → (h == o) ≡ false
        differ h o apart = grind (arith, nat_tests)

    old : copy_target task past ≡ Some t → FilledAt header outside (event.RegionMade region object pages ∷ past) host t
    old target =
        let f : FilledAt header outside past host t = filling task host address bytes to t lives waits target in
        let apart : t.region ≢ region.0 = λ e. omega (arith, e, f.made, is) in
        record {
          later = f.later;
          made = omega (arith, f.made);
          object_made = omega (arith, f.object_made);
          is_over = if_no t.object object.0 (Some region.0) (made_over t.object past) (λ e. omega (arith, e, f.object_made, new)) ∙ f.is_over;
          no_copy = f.no_copy;
          top = if_no t.region region.0 object.0 (region_of header t.region past).top apart ∙ f.top;
          shift = if_no t.region region.0 0 (region_of header t.region past).shift apart ∙ f.shift;
          mark = if_no t.region region.0 false (region_of header t.region past).mark apart ∙ f.mark;
          used_here =
              λ told. if_no t.region region.0 (made_here host past && outside.paging) (in_use header outside host t.region past) apart ∙ f.used_here told;
          alone =
              λ other else_. if_no t.region region.0 (made_here other past && outside.paging) (in_use header outside other t.region past) apart
              ∙ f.alone other else_;
          no_entry = f.no_entry;
        }

    by : (b : Bool) → begins_copy task past ≡ b → (if b then Some (record { region = region.0; object = object.0 }) else copy_target task past) ≡ Some t
        → FilledAt header outside (event.RegionMade region object pages ∷ past) host t
    by true begun e = subst (λ (u : Target). FilledAt header outside (event.RegionMade region object pages ∷ past) host u) (some_target _ _ e) (fresh begun)
    by false begun e = old e

copied_filling : (header : Header) (outside : Outside) (region source : RegionId) (offset pages : ℕ) (past : List Event)
    → L.CopiesRegion header region.0 source.0 offset pages past → Filling header outside past
    → Filling header outside (event.RegionCopied region source offset pages ∷ past)
copied_filling header outside region source offset pages past c filling task host address bytes to t lives waits target =
    let f : FilledAt header outside past host t = filling task host address bytes to t lives waits target in
    let apart : t.region ≢ region.0 = λ e. omega (arith, e, f.made, c.next) in
    let else_source : t.region ≢ source.0 = λ e. entry_apart header c.task c.address past c.at t.region f.no_entry (sym c.source_is ∙ sym e) in
    record {
      later = f.later;
      made = omega (arith, f.made);
      object_made = f.object_made;
      is_over = f.is_over;
      no_copy = f.no_copy;
      top = if_no t.region region.0 (region_of header source.0 past).top (region_of header t.region past).top apart ∙ f.top;
      shift = if_no t.region region.0 ((region_of header source.0 past).shift + offset) (region_of header t.region past).shift apart ∙ f.shift;
      mark =
          if_no t.region region.0 true (if t.region == source.0 then true else (region_of header t.region past).mark) apart
          ∙ if_no t.region source.0 true (region_of header t.region past).mark else_source ∙ f.mark;
      used_here =
          λ told. if_no t.region region.0 (in_use header outside host source.0 past) (in_use header outside host t.region past) apart ∙ f.used_here told;
      alone =
          λ other away. if_no t.region region.0 (in_use header outside other source.0 past) (in_use header outside other t.region past) apart
          ∙ f.alone other away;
      no_entry = f.no_entry;
    }

delayed_filling : (header : Header) (outside : Outside) (region source : RegionId) (offset pages : ℕ) (copy : ObjectId) (past : List Event)
    → L.CopiesFile header region.0 source.0 offset pages copy.0 past → Filling header outside past
    → Filling header outside (event.Delayed region source offset pages copy ∷ past)
delayed_filling header outside region source offset pages copy past c filling task host address bytes to t lives waits target =
    let f : FilledAt header outside past host t = filling task host address bytes to t lives waits target in
    let apart : t.region ≢ region.0 = λ e. omega (arith, e, f.made, c.next) in
    record {
      later = f.later;
      made = omega (arith, f.made);
      object_made = omega (arith, f.object_made);
      is_over = f.is_over;
      no_copy = neither (t.object == copy.0) (is_copy t.object past) (differ t.object copy.0 (λ e. omega (arith, e, f.object_made, c.new))) f.no_copy;
      top = if_no t.region region.0 copy.0 (region_of header t.region past).top apart ∙ f.top;
      shift = if_no t.region region.0 offset (region_of header t.region past).shift apart ∙ f.shift;
      mark = if_no t.region region.0 true (region_of header t.region past).mark apart ∙ f.mark;
      used_here = λ paging. if_no t.region region.0 (told host) (in_use header outside host t.region past) apart ∙ f.used_here paging;
      alone = λ other away. if_no t.region region.0 (told other) (in_use header outside other t.region past) apart ∙ f.alone other away;
      no_entry = f.no_entry;
    }
  where
    told : ℕ → Bool
    told h = in_use header outside h source.0 past && (outside.paging && is_from_told header outside (Some source.0))

    neither : (a b : Bool) → a ≡ false → b ≡ false → (a || b) ≡ false
    neither a b one two = rw (one, two) refl

    differ : (a b : ℕ) → a ≢ b → (a == b) ≡ false
    differ a b apart = grind (arith, nat_tests)

shadowed_filling : (header : Header) (outside : Outside) (region : RegionId) (new old : ObjectId) (past : List Event)
    → L.Shadows header region.0 new.0 old.0 past → Filling header outside past → Filling header outside (event.Shadowed region new old ∷ past)
shadowed_filling header outside region new old past c filling task host address bytes to t lives waits target =
    let f : FilledAt header outside past host t = filling task host address bytes to t lives waits target in
    let apart : t.region ≢ region.0 = λ e. entry_apart header c.task c.address past c.waits.at t.region f.no_entry (sym c.region_is ∙ sym e) in
    record {
      later = f.later;
      made = f.made;
      object_made = omega (arith, f.object_made);
      is_over = f.is_over;
      no_copy = f.no_copy;
      top = if_no t.region region.0 new.0 (region_of header t.region past).top apart ∙ f.top;
      shift = if_no t.region region.0 0 (region_of header t.region past).shift apart ∙ f.shift;
      mark = if_no t.region region.0 false (region_of header t.region past).mark apart ∙ f.mark;
      used_here = f.used_here;
      alone = f.alone;
      no_entry = f.no_entry;
    }

unmarked_filling : (header : Header) (outside : Outside) (region : RegionId) (past : List Event) → Filling header outside past
    → Filling header outside (event.Unmarked region ∷ past)
unmarked_filling header outside region past filling task host address bytes to t lives waits target =
    let f : FilledAt header outside past host t = filling task host address bytes to t lives waits target in
    record {
      later = f.later;
      made = f.made;
      object_made = f.object_made;
      is_over = f.is_over;
      no_copy = f.no_copy;
      top = f.top;
      shift = f.shift;
      mark = plain (t.region == region.0) (region_of header t.region past).mark f.mark;
      used_here = f.used_here;
      alone = f.alone;
      no_entry = f.no_entry;
    }
  where
    plain : (b mark : Bool) → mark ≡ false → (if b then false else mark) ≡ false
    plain true mark is = refl
    plain false mark is = is

-- entries

rows_if : (P : Entry → Type 0) (b : Bool) (some none : List Entry) → AllRows P some → AllRows P none → AllRows P (if b then some else none)
rows_if P true some none yes_ no_ = yes_
rows_if P false some none yes_ no_ = no_

pub filling_next : (header : Header) (outside : Outside) (e : Event) (past : List Event) → NumberedAt header past → Entries header outside past
    → Sustained header outside e past → Filling header outside past → Filling header outside (e ∷ past)
filling_next header outside (event.RegionMade region object pages) past n entries c filling task host address bytes to t lives waits target =
    made_filling header outside region object pages past n entries c.0 c.1 filling task host address bytes to t lives waits target
filling_next header outside (event.RegionCopied region source offset pages) past n entries c filling task host address bytes to t lives waits target =
    copied_filling header outside region source offset pages past c filling task host address bytes to t lives waits target
filling_next header outside (event.Delayed region source offset pages copy) past n entries c filling task host address bytes to t lives waits target =
    delayed_filling header outside region source offset pages copy past c filling task host address bytes to t lives waits target
filling_next header outside (event.Shadowed region new old) past n entries c filling task host address bytes to t lives waits target =
    shadowed_filling header outside region new old past c filling task host address bytes to t lives waits target
filling_next header outside (event.Unmarked region) past n entries c filling task host address bytes to t lives waits target =
    unmarked_filling header outside region past filling task host address bytes to t lives waits target
filling_next header outside (event.BegunLoad owner a size) past n entries c filling task host address bytes to t lives waits target =
    ended (owner.0 == task) (waiting task past) None (Some (Loading a size)) (Copying address bytes to) (λ is. loading_copying a size address bytes to) waits
    (λ is before. filling task host address bytes to t lives before target)
filling_next header outside (event.BegunStore owner a size value) past n entries c filling task host address bytes to t lives waits target =
    ended (owner.0 == task) (waiting task past) None (Some (Storing a size value)) (Copying address bytes to)
    (λ is. storing_copying a size value address bytes to) waits (λ is before. filling task host address bytes to t lives before target)
filling_next header outside (event.BegunCopy owner a size there) past n entries c filling task host address bytes to t lives waits target =
    by (owner.0 == task) waits target
  where
    by : (b : Bool) → (if b then Some (Copying a size there) else waiting task past) ≡ Some (Copying address bytes to)
        → (if b then None else copy_target task past) ≡ Some t → FilledAt header outside past host t
    by true w e = absurd (none_target t e)
    by false w e = filling task host address bytes to t lives w e
filling_next header outside (event.Loaded owner object page value) past n entries c filling task host address bytes to t lives waits target =
    ended (owner.0 == task) (waiting task past) None None (Copying address bytes to) (λ is. none_access (Copying address bytes to)) waits
    (λ is before. filling task host address bytes to t lives before target)
filling_next header outside (event.Stored owner object page at size value) past n entries c filling task host address bytes to t lives waits target =
    ended (owner.0 == task) (waiting task past) None None (Copying address bytes to) (λ is. none_access (Copying address bytes to)) waits
    (λ is before. filling task host address bytes to t lives before target)
filling_next header outside (event.CopyEnded owner) past n entries c filling task host address bytes to t lives waits target =
    ended (owner.0 == task) (waiting task past) None None (Copying address bytes to) (λ is. none_access (Copying address bytes to)) waits
    (λ is before. filling task host address bytes to t lives before target)
filling_next header outside (event.Failed owner object page) past n entries c filling task host address bytes to t lives waits target =
    let f : FilledAt header outside past host t = ended (owner.0 == task) (waiting task past) None None (Copying address bytes to)
    (λ is. none_access (Copying address bytes to)) waits (λ is before. filling task host address bytes to t lives before target) in
    kept_still header outside (event.Failed owner object page) past task host address bytes to t lives waits target (λ task. host_of task past)
    (λ task. entries_of header.size task past) f f.no_entry
filling_next header outside (event.TaskEnded gone) past n entries c filling task host address bytes to t lives waits target =
    let f : FilledAt header outside past host t = by (gone.0 == task) lives waits in
    kept_still header outside (event.TaskEnded gone) past task host address bytes to t lives waits target (λ task. host_of task (event.TaskEnded gone ∷ past))
    (λ task. entries_of header.size task (event.TaskEnded gone ∷ past)) f
    (λ k h living. none_of k h (gone.0 == k) living f.no_entry)
  where
    by : (b : Bool) → (if b then None else host_of task past) ≡ Some host → (if b then None else waiting task past) ≡ Some (Copying address bytes to)
        → FilledAt header outside past host t
    by true l w = absurd (none_access (Copying address bytes to) w)
    by false l w = filling task host address bytes to t l w target

    none_of : (k h : ℕ) (b : Bool) → (if b then None else host_of k past) ≡ Some h
        → NoEntry (λ task. host_of task past) (λ task. entries_of header.size task past) t.region
        → AllRows (λ row. row.region.0 ≢ t.region) (if b then [] else entries_of header.size k past)
    none_of k h true l none = tt
    none_of k h false l none = none k h l
filling_next header outside (event.TaskMade made at) past n entries c filling task host address bytes to t lives waits target =
    let f : FilledAt header outside past host t = by (made.0 == task) lives waits in
    with_entries header outside past host t (λ task. host_of task (event.TaskMade made at ∷ past))
    (λ task. entries_of header.size task (event.TaskMade made at ∷ past)) f (λ k h living. none_of k h (made.0 == k) living f.no_entry)
  where
    by : (b : Bool) → (if b then Some at.0 else host_of task past) ≡ Some host → (if b then None else waiting task past) ≡ Some (Copying address bytes to)
        → FilledAt header outside past host t
    by true l w = absurd (none_access (Copying address bytes to) w)
    by false l w = filling task host address bytes to t l w target

    none_of : (k h : ℕ) (b : Bool) → (if b then Some at.0 else host_of k past) ≡ Some h
        → NoEntry (λ task. host_of task past) (λ task. entries_of header.size task past) t.region
        → AllRows (λ row. row.region.0 ≢ t.region) (if b then [] else entries_of header.size k past)
    none_of k h true l none = tt
    none_of k h false l none = none k h l
filling_next header outside (event.Removed owner a size) past n entries c filling task host address bytes to t lives waits target =
    let f : FilledAt header outside past host t = filling task host address bytes to t lives waits target in
    kept_still header outside (event.Removed owner a size) past task host address bytes to t lives waits target (λ task. host_of task past)
    (λ task. entries_of header.size task (event.Removed owner a size ∷ past)) f
    (λ k h living. rows_if (λ row. row.region.0 ≢ t.region) (owner.0 == k) (removed header.size a size (entries_of header.size k past))
    (entries_of header.size k past)
    (rows_rewritten header.size (λ row. row.region.0 ≢ t.region) (λ row. []) (λ row start end is low less high. is) (λ row is. tt) a size
    (entries_of header.size k past) (f.no_entry k h living)) (f.no_entry k h living))
filling_next header outside (event.Protected owner a size prot) past n entries c filling task host address bytes to t lives waits target =
    let f : FilledAt header outside past host t = filling task host address bytes to t lives waits target in
    with_entries header outside past host t (λ task. host_of task past) (λ task. entries_of header.size task (event.Protected owner a size prot ∷ past)) f
    (λ k h living. rows_if (λ row. row.region.0 ≢ t.region) (owner.0 == k) (protected header.size a size prot (entries_of header.size k past))
    (entries_of header.size k past)
    (rows_rewritten header.size (λ row. row.region.0 ≢ t.region) (λ row. record row { prot = prot } ∷ []) (λ row start end is low less high. is)
    (λ row is. (is, tt)) a size (entries_of header.size k past) (f.no_entry k h living)) (f.no_entry k h living))
filling_next header outside (event.Inherited owner a size inherit) past n entries c filling task host address bytes to t lives waits target =
    let f : FilledAt header outside past host t = filling task host address bytes to t lives waits target in
    with_entries header outside past host t (λ task. host_of task past) (λ task. entries_of header.size task (event.Inherited owner a size inherit ∷ past)) f
    (λ k h living. rows_if (λ row. row.region.0 ≢ t.region) (owner.0 == k) (inherited header.size a size inherit (entries_of header.size k past))
    (entries_of header.size k past)
    (rows_rewritten header.size (λ row. row.region.0 ≢ t.region) (λ row. record row { inherit = inherit } ∷ []) (λ row start end is low less high. is)
    (λ row is. (is, tt)) a size (entries_of header.size k past) (f.no_entry k h living)) (f.no_entry k h living))
filling_next header outside (event.Entered owner a size region offset prot inherit) past n entries c filling task host address bytes to t lives waits target =
    let f : FilledAt header outside past host t = filling task host address bytes to t lives waits target in
    let apart : region.0 ≢ t.region = λ e. filled_not (subst (λ (r : ℕ). is_filled r (tasks past) past ≡ false) e c.unfilled)
    (filled_now t.region task host past lives (it_fills task address bytes to t past waits target)) in
    record {
      later = f.later;
      made = f.made;
      object_made = f.object_made;
      is_over = f.is_over;
      no_copy = f.no_copy;
      top = f.top;
      shift = f.shift;
      mark = f.mark;
      used_here =
          λ told. both (not (t.region == region.0) || lives_on host owner.0 past) (in_use header outside host t.region past)
          (differs t.region region.0 (lives_on host owner.0 past) apart) (f.used_here told);
      alone = λ other away. never (not (t.region == region.0) || lives_on other owner.0 past) (in_use header outside other t.region past)
          (f.alone other away);
      no_entry =
          λ k h living. rows_if (λ row. row.region.0 ≢ t.region) (owner.0 == k) (entered
          (record { address = a; bytes = size; region = region; offset = offset; prot = prot; inherit = inherit }) (entries_of header.size k past))
          (entries_of header.size k past)
          (rows_entered (λ row. row.region.0 ≢ t.region) (record {
            address = a;
            bytes = size;
            region = region;
            offset = offset;
            prot = prot;
            inherit = inherit;
          }) (entries_of header.size k past) apart (f.no_entry k h living)) (f.no_entry k h living);
    }
  where
    filled_not : is_filled t.region (tasks past) past ≡ false → is_filled t.region (tasks past) past ≡ true → ⊥
    filled_not isnt is = clash (is_filled t.region (tasks past) past) isnt is
      where
        clash : (b : Bool) → b ≡ false → b ≡ true → ⊥
        clash b isnt is = cc

    differs : (r s : ℕ) (b : Bool) → s ≢ r → (not (r == s) || b) ≡ true
    differs r s b apart = grind (arith, nat_tests)
filling_next header outside e past n entries c filling task host address bytes to t lives waits target = filling task host address bytes to t lives waits target
