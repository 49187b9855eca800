-- What the groups of commands keep to: behind a region that is a copy stands its entry, a task that is made is new, who begins a slow copy lives,
-- and an entry is of a range.
use Rattle.std.proofs.Common.{ℕ, ◌+◌, ◌-◌, ◌/◌, ◌^◌, ◌<◌, ◌≤◌, ◌≡◌, ◌==◌, ◌||◌, ◌&&◌, not, Bool, true, false, List, [], ◌∷◌, ◌++◌, reverse, Option, Some, None}
use Rattle.std.proofs.Common.{MatchOption, append_assoc, refl, ap, sym, ◌∙◌, subst, arith, length, inl, inr, if◌then◌else◌}
use Rattle.std.proofs.lemmas.Bool.Decides.{nat_tests}
use mathlib.Core.List.{reverse_aux}
use Rattle.std.specs.Prelude.{◌⊎◌, is_none, is_some, nat_lt}
use Rattle.vm_base.specs.declared.code.Code.{Code}
use Rattle.vm_base.specs.declared.code.Code.TheVariants as code
use Rattle.vm_base.specs.declared.entry.Entry.{Entry}
use Rattle.vm_base.specs.declared.ids.HostId.{HostId}
use Rattle.vm_base.specs.declared.ids.Inherit.{Inherit}
use Rattle.vm_base.specs.declared.ids.Inherit.TheVariants.{Copy, Never, Share}
use Rattle.vm_base.specs.declared.ids.ObjectId.{ObjectId}
use Rattle.vm_base.specs.declared.ids.PageNo.{PageNo}
use Rattle.vm_base.specs.declared.ids.Prot.{Prot}
use Rattle.vm_base.specs.declared.ids.RegionId.{RegionId}
use Rattle.vm_base.specs.declared.ids.TaskId.{TaskId}
use Rattle.vm_base.specs.Entries.{entered, entry_at, inherited, is_range, page_at, protected, removed}
use Rattle.vm_base.specs.Limits.{most_pages}
use Rattle.vm_model.specs.declared.command.Command.{Command}
use Rattle.vm_model.specs.declared.command.Command.TheVariants as command
use Rattle.vm_model.specs.declared.command.Numbered.{Numbered}
use Rattle.vm_model.specs.declared.event.Event.{Event}
use Rattle.vm_model.specs.declared.event.Event.TheVariants as event
use Rattle.vm_model.specs.declared.message.Channel.{Channel}
use Rattle.vm_model.specs.declared.message.Channel.TheVariants.{Down, Up}
use Rattle.vm_model.specs.declared.message.Message.{Message}
use Rattle.vm_model.specs.declared.message.Message.TheVariants as message
use Rattle.vm_model.specs.declared.script.Header.{Header}
use Rattle.vm_model.specs.Channels.{queue}
use Rattle.vm_model.specs.Controls.{last_control, live_control}
use Rattle.vm_model.specs.Moments.{EachEvent}
use Rattle.vm_model.specs.Named.{declared_pages, named}
use Rattle.vm_model.specs.Regions.{next_object, next_region}
use Rattle.vm_model.specs.Rows.{AllRows, HoldsOfParts, rows_entered, rows_rewritten}
use Rattle.vm_model.specs.Server.{first as oldest}
use Rattle.vm_model.specs.Tasks.{entries_of, host_of}
use Rattle.vm_model.specs.Waiting.{Access, Copying, Loading, Storing, Target, copy_target, waiting}
use Rattle.vm_legal.proofs.Heads.{passed}
use Rattle.vm_legal.specs.Follows.{Follows, FollowsAnyCut, IsBegun, IsConsequence, IsGroup, IsRun, cache_head, clean_head, copied_late, copy_head, fork_head}
use Rattle.vm_legal.specs.Follows.{head, inherits, inherits_all, map_head, next_behind, object_behind, opening, say_head, take_head}
use Rattle.vm_legal.specs.Frames.{frames_wired}
use Rattle.vm_legal.specs.Homes.{enters}
use Rattle.vm_legal.specs.Licences.{AllLicensed, IsOwed, Pays, entry_of}
use Rattle.vm_legal.specs.Outside.{Outside, is_file}
use Rattle.vm_legal.specs.Pagers.{Known, known_below}
use Rattle.vm_legal.specs.Refusal.{acting, code_where, refusal}
use Rattle.vm_legal.specs.Stretches.{EachIn}

-- the newest event makes the region, as a copy
abbrev pub is_new_copy : ℕ → List Event → Bool
is_new_copy region (event.RegionCopied new source offset pages ∷ past) = region == new.0
is_new_copy region (event.Delayed new source offset pages copy ∷ past) = region == new.0
is_new_copy region other = false

pub record Ranged (address bytes : ℕ) : Type 0 where
  pub some : 0 < bytes
  pub end : address + bytes ≤ 2 ^ 32

abbrev Keeps : Event → List Event → Type 0
Keeps (event.TaskMade task host) past = host_of task.0 past ≡ None
Keeps (event.BegunCopy task address bytes to) past = (host_of task.0 past ≡ None → ⊥) × Ranged to bytes
Keeps (event.Entered task address bytes region offset prot inherit) past = Ranged address bytes
Keeps other past = Unit {0}

abbrev pub Orderly : Event → List Event → Type 0
Orderly e past = ((region : ℕ) → is_new_copy region past ≡ true → enters region e ≡ true) × Keeps e past

-- no copy waits for its entry
abbrev Shut : List Event → Type 0
Shut past = (region : ℕ) → is_new_copy region past ≡ false

record Tidy (past : List Event) : Type 0 where
  each : EachEvent Orderly past
  shut : Shut past

clash : {A : Type 0} (b : Bool) → b ≡ false → b ≡ true → A
clash b isnt is = absurd (let bad : true ≡ false = sym is ∙ isnt in cc)

next : (e : Event) (past : List Event) → Shut past → (region : ℕ) → is_new_copy region past ≡ true → enters region e ≡ true
next e past shut region is = clash (is_new_copy region past) (shut region) is

-- entries are of ranges

abbrev pub RangedRow : Entry → Type 0
RangedRow row = Ranged row.address row.bytes

ranged_parts : (size : ℕ) → HoldsOfParts size RangedRow
ranged_parts size row start end is low less high = record { some = omega (arith, less); end = omega (arith, is.end, less, high) }

rows_if : (b : Bool) (some none : List Entry) → AllRows RangedRow some → AllRows RangedRow none → AllRows RangedRow (if b then some else none)
rows_if true some none one two = one
rows_if false some none one two = two

pub ranged : (size task : ℕ) (past : List Event) → EachEvent Orderly past → AllRows RangedRow (entries_of size task past)
ranged size task [] each = tt
ranged size task (event.TaskMade made host ∷ past) each = rows_if (made.0 == task) [] (entries_of size task past) tt (ranged size task past each.1)
ranged size task (event.TaskEnded gone ∷ past) each = rows_if (gone.0 == task) [] (entries_of size task past) tt (ranged size task past each.1)
ranged size task (event.Entered owner address bytes region offset prot inherit ∷ past) each =
    let rows = entries_of size task past in
    let row : Entry = record { address = address; bytes = bytes; region = region; offset = offset; prot = prot; inherit = inherit } in
    let was = ranged size task past each.1 in
    rows_if (owner.0 == task) (entered row rows) rows (rows_entered RangedRow row rows each.0.1 was) was
ranged size task (event.Removed owner address bytes ∷ past) each =
    let rows = entries_of size task past in
    let was = ranged size task past each.1 in
    rows_if (owner.0 == task) (removed size address bytes rows) rows
    (rows_rewritten size RangedRow (λ row. []) (ranged_parts size) (λ row is. tt) address bytes rows was) was
ranged size task (event.Protected owner address bytes prot ∷ past) each =
    let rows = entries_of size task past in
    let was = ranged size task past each.1 in
    rows_if (owner.0 == task) (protected size address bytes prot rows) rows
    (rows_rewritten size RangedRow (λ row. record row { prot = prot } ∷ []) (ranged_parts size)
    (λ row is. (record { some = is.some; end = is.end }, tt)) address bytes rows was) was
ranged size task (event.Inherited owner address bytes inherit ∷ past) each =
    let rows = entries_of size task past in
    let was = ranged size task past each.1 in
    rows_if (owner.0 == task) (inherited size address bytes inherit rows) rows
    (rows_rewritten size RangedRow (λ row. record row { inherit = inherit } ∷ []) (ranged_parts size)
    (λ row is. (record { some = is.some; end = is.end }, tt)) address bytes rows was) was
ranged size task (e ∷ past) each = ranged size task past each.1

-- who waits with a slow copy lives, and fills a range

abbrev pub IsCopier : Option ℕ → ℕ → ℕ → Type 0
IsCopier host to bytes = (host ≡ None → ⊥) × Ranged to bytes

none_waits : {A : Type 0} (a : Access) → ◌≡◌ {A = Option Access} None (Some a) → A
none_waits a is = absurd (cc)

otherwise : {A : Type 0} (b : Bool) (x y : Option Access) (a : Access) → (x ≡ Some a → A) → (y ≡ Some a → A) → (if b then x else y) ≡ Some a → A
otherwise true x y a one two is = one is
otherwise false x y a one two is = two is

pub copier : (task address bytes to : ℕ) (past : List Event) → EachEvent Orderly past → waiting task past ≡ Some (Copying address bytes to)
    → IsCopier (host_of task past) to bytes
copier task address bytes to [] each is = none_waits (Copying address bytes to) is
copier task address bytes to (event.TaskMade made host ∷ past) each is = by (made.0 == task) (copier task address bytes to past each.1) is
  where
    by : (b : Bool) → (waiting task past ≡ Some (Copying address bytes to) → IsCopier (host_of task past) to bytes)
        → (if b then None else waiting task past) ≡ Some (Copying address bytes to) → IsCopier (if b then Some host.0 else host_of task past) to bytes
    by true later w = none_waits (Copying address bytes to) w
    by false later w = later w
copier task address bytes to (event.TaskEnded gone ∷ past) each is = by (gone.0 == task) (copier task address bytes to past each.1) is
  where
    by : (b : Bool) → (waiting task past ≡ Some (Copying address bytes to) → IsCopier (host_of task past) to bytes)
        → (if b then None else waiting task past) ≡ Some (Copying address bytes to) → IsCopier (if b then None else host_of task past) to bytes
    by true later w = none_waits (Copying address bytes to) w
    by false later w = later w
copier task address bytes to (event.BegunLoad owner from size ∷ past) each is =
    otherwise (owner.0 == task) (Some (Loading from size)) (waiting task past) (Copying address bytes to) (λ w. absurd (cc))
    (copier task address bytes to past each.1) is
copier task address bytes to (event.BegunStore owner from size value ∷ past) each is =
    otherwise (owner.0 == task) (Some (Storing from size value)) (waiting task past) (Copying address bytes to) (λ w. absurd (cc))
    (copier task address bytes to past each.1) is
copier task address bytes to (event.BegunCopy owner from size there ∷ past) each is =
    by (owner.0 == task) refl (copier task address bytes to past each.1) is
  where
    by : (b : Bool) → (owner.0 == task) ≡ b → (waiting task past ≡ Some (Copying address bytes to) → IsCopier (host_of task past) to bytes)
        → (if b then Some (Copying from size there) else waiting task past) ≡ Some (Copying address bytes to) → IsCopier (host_of task past) to bytes
    by true same later w =
        let owner_is : owner.0 ≡ task = grind (arith, nat_tests) in
        let there_is : there ≡ to = cc in
        let size_is : size ≡ bytes = cc in
        subst (λ (t : ℕ). IsCopier (host_of t past) to bytes) owner_is (
          each.0.1.0,
          subst (λ (a : ℕ). Ranged a bytes) there_is (subst (λ (n : ℕ). Ranged there n) size_is each.0.1.1),
        )
    by false same later w = later w
copier task address bytes to (event.Loaded owner object page value ∷ past) each is =
    otherwise (owner.0 == task) None (waiting task past) (Copying address bytes to) (none_waits (Copying address bytes to))
    (copier task address bytes to past each.1) is
copier task address bytes to (event.Stored owner object page at size value ∷ past) each is =
    otherwise (owner.0 == task) None (waiting task past) (Copying address bytes to) (none_waits (Copying address bytes to))
    (copier task address bytes to past each.1) is
copier task address bytes to (event.CopyEnded owner ∷ past) each is =
    otherwise (owner.0 == task) None (waiting task past) (Copying address bytes to) (none_waits (Copying address bytes to))
    (copier task address bytes to past each.1) is
copier task address bytes to (event.Failed owner object page ∷ past) each is =
    otherwise (owner.0 == task) None (waiting task past) (Copying address bytes to) (none_waits (Copying address bytes to))
    (copier task address bytes to past each.1) is
copier task address bytes to (e ∷ past) each is = copier task address bytes to past each.1 is

-- an entry that is owed is that of a slow copy which just ended
pub record EndedCopy (task address bytes region : ℕ) (past : List Event) : Type 0 where
  pub owner : TaskId
  pub before : List Event
  pub is : past ≡ event.CopyEnded owner ∷ before
  pub owner_is : owner.0 ≡ task
  pub from : ℕ
  pub waits : waiting owner.0 before ≡ Some (Copying from bytes address)
  pub target : Target
  pub filled : copy_target owner.0 before ≡ Some target
  pub region_is : target.region ≡ region

pub owed_entry : (task : TaskId) (address bytes : ℕ) (region : RegionId) (offset : ℕ) (prot : Prot) (inherit : Inherit) (past : List Event)
    → IsOwed (event.Entered task address bytes region offset prot inherit) past → EndedCopy task.0 address bytes region.0 past
owed_entry task address bytes region offset prot inherit [] is = absurd is
owed_entry task address bytes region offset prot inherit (event.CopyEnded owner ∷ before) is =
    by (waiting owner.0 before) (copy_target owner.0 before) refl refl is
  where
    e : Event
    e = event.Entered task address bytes region offset prot inherit

    by : (x : Option Access) (y : Option Target) → waiting owner.0 before ≡ x → copy_target owner.0 before ≡ y
        → MatchOption (entry_of owner x y) ⊥ (λ due. Pays due e) → EndedCopy task.0 address bytes region.0 (event.CopyEnded owner ∷ before)
    by None y w f paid = absurd paid
    by (Some (Loading from size)) y w f paid = absurd paid
    by (Some (Storing from size value)) y w f paid = absurd paid
    by (Some (Copying from size to)) None w f paid = absurd paid
    by (Some (Copying from size to)) (Some target) w f paid =
        let task_is : task ≡ owner = cc in
        let address_is : address ≡ to = cc in
        let bytes_is : bytes ≡ size = cc in
        let made : RegionId = record { 0 = target.region } in
        let region_is : region ≡ made = cc in
        record {
          owner = owner;
          before = before;
          is = refl;
          owner_is = ap (λ (t : TaskId). t.0) (sym task_is);
          from = from;
          waits = w ∙ ap (λ (n : ℕ). Some (Copying from n to)) (sym bytes_is) ∙ ap (λ (a : ℕ). Some (Copying from bytes a)) (sym address_is);
          target = target;
          filled = f;
          region_is = ap (λ (r : RegionId). r.0) (sym region_is);
        }
owed_entry task address bytes region offset prot inherit (event.Sent channel (message.Create control size) ∷ past) is = absurd is
owed_entry task address bytes region offset prot inherit (event.Sent channel m ∷ past) is = absurd is
owed_entry task address bytes region offset prot inherit (e ∷ past) is = absurd is

-- what follows from heads

consequence_keeps : (e : Event) (past : List Event) → IsConsequence e past → EachEvent Orderly past → Keeps e past
consequence_keeps (event.TaskMade task host) past is each = absurd is
consequence_keeps (event.BegunCopy task address bytes to) past is each = absurd is
consequence_keeps (event.Entered task address bytes region offset prot inherit) past is each =
    let c = owed_entry task address bytes region offset prot inherit past is in
    let front : EachEvent Orderly (event.CopyEnded c.owner ∷ c.before) = subst (EachEvent Orderly) c.is each in
    (copier c.owner.0 c.from bytes address c.before front.1 c.waits).1
consequence_keeps other past is each = tt

consequence_shut : (e : Event) (past : List Event) → IsConsequence e past → Shut (e ∷ past)
consequence_shut (event.RegionCopied region source offset pages) past is = absurd is
consequence_shut (event.Delayed region source offset pages copy) past is = absurd is
consequence_shut other past is = λ region. refl

consequences : (events past : List Event) → EachIn IsConsequence events past → Tidy past → Tidy (events ++ past)
consequences [] past follow was = was
consequences (e ∷ events) past follow was =
    let later = consequences events past follow.1 was in
    record {
      each = ((next e (events ++ past) later.shut, consequence_keeps e (events ++ past) follow.0 later.each), later.each);
      shut = consequence_shut e (events ++ past) follow.0;
    }

-- heads, in the order of writing

abbrev Runs : List Event → List Event → Type 0
Runs [] past = Shut past
Runs (e ∷ events) past = Orderly e past × Runs events (e ∷ past)

run : (events past : List Event) → Runs events past → EachEvent Orderly past → Tidy (reverse_aux events past)
run [] past runs each = record { each = each; shut = runs }
run (e ∷ events) past runs each = run events (e ∷ past) runs.1 (runs.0, each)

turned : (events more past : List Event) → reverse_aux events more ++ past ≡ reverse_aux events (more ++ past)
turned [] more past = refl
turned (e ∷ events) more past = turned events (e ∷ more) past

-- one event behind a line
one : (e : Event) (first : List Event) (line : ℕ) (before : List Event) → Keeps e (event.Line line ∷ before) → Shut (e ∷ event.Line line ∷ before)
    → Some (e ∷ []) ≡ Some first → Runs first (event.Line line ∷ before)
one e first line before keeps shut is =
    let same : e ∷ [] ≡ first = cc in
    subst (λ (z : List Event). Runs z (event.Line line ∷ before)) same ((next e (event.Line line ∷ before) (λ region. refl), keeps), shut)

-- two of them, of which the first isn't a copy
two : (e f : Event) (first : List Event) (line : ℕ) (before : List Event) → Keeps e (event.Line line ∷ before) → Shut (e ∷ event.Line line ∷ before)
    → Keeps f (e ∷ event.Line line ∷ before) → Shut (f ∷ e ∷ event.Line line ∷ before)
    → Some (e ∷ f ∷ []) ≡ Some first → Runs first (event.Line line ∷ before)
two e f first line before keeps shut later last is =
    let same : e ∷ f ∷ [] ≡ first = cc in
    subst (λ (z : List Event). Runs z (event.Line line ∷ before)) same (
      (next e (event.Line line ∷ before) (λ region. refl), keeps),
      ((next f (e ∷ event.Line line ∷ before) shut, later), last),
    )

nothing : (first : List Event) (line : ℕ) (before : List Event) → Some [] ≡ Some first → Runs first (event.Line line ∷ before)
nothing first line before is =
    let same : [] ≡ first = cc in subst (λ (z : List Event). Runs z (event.Line line ∷ before)) same (λ region. refl)

no_head : (first past : List Event) → None ≡ Some first → Runs first past
no_head first past is = absurd (cc)

-- tests that were passed

off : (b : Bool) → not b ≡ false → b ≡ true
off true is = refl
off false is = absurd (let bad : true ≡ false = is in cc)

neither : (a b : Bool) → (a || b) ≡ false → (a ≡ false) × (b ≡ false)
neither true b is = absurd (let bad : true ≡ false = is in cc)
neither false b is = (refl, is)

no_host : (x : Option ℕ) → is_some x ≡ false → x ≡ None
no_host None is = refl
no_host (Some h) is = absurd (let bad : true ≡ false = is in cc)

some_host : (x : Option ℕ) → is_none x ≡ false → x ≡ None → ⊥
some_host None is none = let bad : true ≡ false = is in cc
some_host (Some h) is none = cc

both : (a b : Bool) → (a && b) ≡ true → (a ≡ true) × (b ≡ true)
both true b is = (refl, is)
both false b is = absurd (let bad : false ≡ true = is in cc)

is_ranged : (size address bytes : ℕ) → is_range size address bytes ≡ true → Ranged address bytes
is_ranged size address bytes is = record { some = grind (arith, nat_tests); end = grind (arith, nat_tests) }

-- a region that is copied, and its entry
copied_runs : (delayed : Bool) (number object : ℕ) (source : RegionId) (offset pages : ℕ) (task : TaskId) (address bytes : ℕ) (prot : Prot) (inherit : Inherit)
    (rest past : List Event) → Ranged address bytes → Shut past → ((later : List Event) → Shut later → Runs rest later)
    → Runs (copied_late delayed number object source offset pages ∷ event.Entered task address bytes (record { 0 = number }) 0 prot inherit ∷ rest) past
copied_runs true number object source offset pages task address bytes prot inherit rest past range shut more =
    let new : Event = event.Delayed (record { 0 = number }) source offset pages (record { 0 = object }) in
    let entry : Event = event.Entered task address bytes (record { 0 = number }) 0 prot inherit in
    ((next new past shut, tt), (((λ region is. is), range), more (entry ∷ new ∷ past) (λ region. refl)))
copied_runs false number object source offset pages task address bytes prot inherit rest past range shut more =
    let new : Event = event.RegionCopied (record { 0 = number }) source offset pages in
    let entry : Event = event.Entered task address bytes (record { 0 = number }) 0 prot inherit in
    ((next new past shut, tt), (((λ region is. is), range), more (entry ∷ new ∷ past) (λ region. refl)))

-- the entries that a child inherits
inherited_runs : (kind : Inherit) (header : Header) (child : TaskId) (number object : ℕ) (row : Entry) (rest past : List Event) → RangedRow row → Shut past
    → ((later : List Event) → Shut later → Runs rest later) → Runs (inherits kind header child number object row ++ rest) past
inherited_runs Share header child number object row rest past range shut more =
    let entry : Event = event.Entered child row.address row.bytes row.region row.offset row.prot row.inherit in
    ((next entry past shut, range), more (entry ∷ past) (λ region. refl))
inherited_runs Copy header child number object row rest past range shut more =
    copied_runs (nat_lt row.region.0 (named header)) number object row.region row.offset (row.bytes / header.size) child row.address row.bytes row.prot
    row.inherit rest past range shut more
inherited_runs Never header child number object row rest past range shut more = more past shut

all_inherited : (header : Header) (child : TaskId) (number object : ℕ) (rows : List Entry) (past : List Event) → AllRows RangedRow rows → Shut past
    → Runs (inherits_all header child number object rows) past
all_inherited header child number object [] past ranges shut = shut
all_inherited header child number object (row ∷ rows) past ranges shut =
    let region = next_behind row.inherit number in
    let behind = object_behind row.inherit header row.region object in
    inherited_runs row.inherit header child number object row (inherits_all header child region behind rows) past ranges.0 shut
    (λ later is. all_inherited header child region behind rows later ranges.1 is)

forked : (header : Header) (number object : ℕ) (child : TaskId) (x : Option ℕ) (rows : List Entry) (first : List Event) (line : ℕ) (before : List Event)
    → host_of child.0 before ≡ None → AllRows RangedRow rows → fork_head header number object child x rows ≡ Some first
    → Runs first (event.Line line ∷ before)
forked header number object child None rows first line before fresh ranges is = no_head first (event.Line line ∷ before) is
forked header number object child (Some host) rows first line before fresh ranges is =
    let made : Event = event.TaskMade child (record { 0 = host }) in
    let same : made ∷ inherits_all header child number object rows ≡ first = cc in
    subst (λ (z : List Event). Runs z (event.Line line ∷ before)) same (
      (next made (event.Line line ∷ before) (λ region. refl), fresh),
      all_inherited header child number object rows (made ∷ event.Line line ∷ before) ranges (λ region. refl),
    )

copied : (header : Header) (number object : ℕ) (task : TaskId) (address bytes : ℕ) (target : TaskId) (to : ℕ) (x : Option Entry) (first : List Event) (line : ℕ)
    (before : List Event) → (host_of task.0 before ≡ None → ⊥) → Ranged to bytes
    → copy_head header number object task address bytes target to x ≡ Some first → Runs first (event.Line line ∷ before)
copied header number object task address bytes target to None first line before lives range is = no_head first (event.Line line ∷ before) is
copied header number object task address bytes target to (Some row) first line before lives range is =
    by (nat_lt row.region.0 (named header) && not (is_file header row.region.0)) is
  where
    begun : Event
    begun = event.BegunCopy task address bytes to

    made : Event
    made = event.RegionMade (record { 0 = number }) (record { 0 = object }) (bytes / header.size)

    new : Event
    new = copied_late (is_file header row.region.0) number object row.region (page_at header.size address row) (bytes / header.size)

    entry : Event
    entry = event.Entered target to bytes (record { 0 = number }) 0 (record { read = true; write = true }) Copy

    by : (b : Bool) → Some (if b then begun ∷ made ∷ [] else new ∷ entry ∷ []) ≡ Some first → Runs first (event.Line line ∷ before)
    by true is = two begun made first line before (lives, range) (λ region. refl) tt (λ region. refl) is
    by false is =
        let same : new ∷ entry ∷ [] ≡ first = cc in
        subst (λ (z : List Event). Runs z (event.Line line ∷ before)) same
        (copied_runs (is_file header row.region.0) number object row.region (page_at header.size address row) (bytes / header.size) target to bytes
        (record { read = true; write = true }) Copy [] (event.Line line ∷ before) range (λ region. refl) (λ later shut. shut))

taken : (channel : Channel) (x : Option Message) (first : List Event) (line : ℕ) (before : List Event) → take_head channel x ≡ Some first
    → Runs first (event.Line line ∷ before)
taken channel None first line before is = no_head first (event.Line line ∷ before) is
taken channel (Some m) first line before is = one (event.Taken channel m) first line before tt (λ region. refl) is

said : (host : HostId) (object : ObjectId) (m : Message) (x : Option ℕ) (first : List Event) (line : ℕ) (before : List Event)
    → say_head host object m x ≡ Some first → Runs first (event.Line line ∷ before)
said host object m None first line before is = no_head first (event.Line line ∷ before) is
said host object m (Some control) first line before is = one (event.Sent (Down host object control) m) first line before tt (λ region. refl) is

opened : (host : ℕ) (object : ObjectId) (number size : ℕ) (x : Option ℕ) (past : List Event) → Shut past → Runs (opening host object number size x) past
opened host object number size None past shut =
    let init : Event = event.Sent (Up (record { 0 = host }) object) (message.Init number size) in ((next init past shut, tt), (λ region. refl))
opened host object number size (Some control) past shut = shut

mapped : (header : Header) (task : TaskId) (address bytes : ℕ) (object : ObjectId) (offset : ℕ) (x : Option ℕ) (first : List Event) (line : ℕ)
    (before : List Event) → Ranged address bytes → map_head header task address bytes object offset before x ≡ Some first
    → Runs first (event.Line line ∷ before)
mapped header task address bytes object offset None first line before range is = no_head first (event.Line line ∷ before) is
mapped header task address bytes object offset (Some host) first line before range is =
    let entry : Event = event.Entered task address bytes (record { 0 = object.0 }) offset (record { read = true; write = true }) Share in
    let more : List Event = opening host object (last_control host object.0 before + 1) header.size (live_control host object.0 before) in
    let same : entry ∷ more ≡ first = cc in
    subst (λ (z : List Event). Runs z (event.Line line ∷ before)) same (
      (next entry (event.Line line ∷ before) (λ region. refl), range),
      opened host object (last_control host object.0 before + 1) header.size (live_control host object.0 before) (entry ∷ event.Line line ∷ before)
          (λ region. refl),
    )

cleaned : (object : ObjectId) (page : PageNo) (count : ℕ) (flush : Bool) (x : Option Known) (first : List Event) (line : ℕ) (before : List Event)
    → Some (clean_head object page count flush x) ≡ Some first → Runs first (event.Line line ∷ before)
cleaned object page count flush None first line before is = nothing first line before is
cleaned object page count flush (Some known) first line before is =
    one (event.Sent (Down (record { 0 = known.host }) object known.control) (message.Lock page count 2 flush 8 true)) first line before tt (λ region. refl) is

cached : (object : ObjectId) (cache : Bool) (x : Option Known) (first : List Event) (line : ℕ) (before : List Event)
    → Some (cache_head object cache x) ≡ Some first → Runs first (event.Line line ∷ before)
cached object cache None first line before is = nothing first line before is
cached object cache (Some known) first line before is =
    one (event.Sent (Down (record { 0 = known.host }) object known.control) (message.Attributes cache 2 true)) first line before tt (λ region. refl) is

-- the first three tests of a copy
record MayCopy (past : List Event) (task : TaskId) (bytes to : ℕ) : Type 0 where
  lives : host_of task.0 past ≡ None → ⊥
  range : Ranged to bytes

may_copy : (header : Header) (past : List Event) (task : TaskId) (address bytes : ℕ) (target : TaskId) (to : ℕ)
    → refusal header past (command.Copy task address bytes target to) ≡ None → MayCopy past task bytes to
may_copy header past task address bytes target to accepted =
    let from = is_range header.size address bytes in
    let there = is_range header.size to bytes in
    let lives = passed (is_none (host_of task.0 past) || is_none (host_of target.0 past)) code.NoSuchName _ accepted in
    let idle = passed (is_some (waiting task.0 past) || is_some (waiting target.0 past)) code.Blocked _ lives.1 in
    let numbers = passed (not (from && there) || _) code.InvalidArgument _ idle.1 in
    record {
      lives = some_host (host_of task.0 past) (neither (is_none (host_of task.0 past)) (is_none (host_of target.0 past)) lives.0).0;
      range = is_ranged header.size to bytes (both from there (off (from && there) (neither (not (from && there)) _ numbers.0).0)).1;
    }

acting_passed : (past : List Event) (task : ℕ) (later : Option Code) → acting past task later ≡ None → later ≡ None
acting_passed past task later accepted =
    (passed (is_some (waiting task past)) code.Blocked later (passed (is_none (host_of task past)) code.NoSuchName _ accepted).1).1

-- a range that passed the first test
range_passed : (size address bytes : ℕ) (other : Bool) (why : Code) (later : Option Code)
    → code_where (not (is_range size address bytes) || other) why later ≡ None → Ranged address bytes
range_passed size address bytes other why later accepted =
    is_ranged size address bytes (off (is_range size address bytes)
    (neither (not (is_range size address bytes)) other (passed (not (is_range size address bytes) || other) why later accepted).0).0)

head_runs : (header : Header) (before : List Event) (line : ℕ) (doing : Command) (first : List Event) → refusal header before doing ≡ None
    → EachEvent Orderly before → head header before doing ≡ Some first → Runs first (event.Line line ∷ before)
head_runs header before line (command.Allocate task address bytes) first accepted each is =
    two (event.RegionMade (record { 0 = next_region header before }) (record { 0 = next_object header before }) (bytes / header.size))
    (event.Entered task address bytes (record { 0 = next_region header before }) 0 (record { read = true; write = true }) Copy) first line before tt
    (λ region. refl)
    (range_passed header.size address bytes (nat_lt most_pages (bytes / header.size)) code.InvalidArgument _ (acting_passed before task.0 _ accepted))
    (λ region. refl) is
head_runs header before line (command.Task task host) first accepted each is =
    one (event.TaskMade task host) first line before
    (no_host (host_of task.0 before) (passed (is_some (host_of task.0 before)) code.NameTaken None accepted).0) (λ region. refl) is
head_runs header before line (command.Load task address size) first accepted each is =
    one (event.BegunLoad task address size) first line before tt (λ region. refl) is
head_runs header before line (command.Store task address size value) first accepted each is =
    one (event.BegunStore task address size value) first line before tt (λ region. refl) is
head_runs header before line (command.Fork task child) first accepted each is =
    forked header (next_region header before) (next_object header before) child (host_of task.0 before) (entries_of header.size task.0 before) first line before
    (no_host (host_of child.0 before) (passed (is_some (host_of child.0 before)) code.NameTaken _
    (passed (is_none (host_of task.0 before)) code.NoSuchName _ accepted).1).0)
    (ranged header.size task.0 before each) is
head_runs header before line (command.Copy task address bytes target to) first accepted each is =
    let may = may_copy header before task address bytes target to accepted in
    copied header (next_region header before) (next_object header before) task address bytes target to
    (entry_at address (entries_of header.size task.0 before)) first line before may.lives may.range is
head_runs header before line (command.Exit task) first accepted each is = one (event.TaskEnded task) first line before tt (λ region. refl) is
head_runs header before line (command.Deallocate task address bytes) first accepted each is =
    one (event.Removed task address bytes) first line before tt (λ region. refl) is
head_runs header before line (command.Protect task address bytes prot) first accepted each is =
    one (event.Protected task address bytes prot) first line before tt (λ region. refl) is
head_runs header before line (command.Inherit task address bytes inherit) first accepted each is =
    one (event.Inherited task address bytes inherit) first line before tt (λ region. refl) is
head_runs header before line (command.Take channel) first accepted each is = taken channel (oldest (queue channel before)) first line before is
head_runs header before line (command.Settle count) first accepted each is = nothing first line before is
head_runs header before line (command.Wire host count) first accepted each is =
    one (event.Wired host (frames_wired host.0 before + count)) first line before tt (λ region. refl) is
head_runs header before line (command.Unwire host count) first accepted each is =
    one (event.Wired host (frames_wired host.0 before - count)) first line before tt (λ region. refl) is
head_runs header before line (command.Pageout host count) first accepted each is = nothing first line before is
head_runs header before line (command.FailFiles count) first accepted each is = nothing first line before is
head_runs header before line (command.FailPaging count) first accepted each is = nothing first line before is
head_runs header before line (command.Say host object m) first accepted each is =
    said host object m (live_control host.0 object.0 before) first line before is
head_runs header before line (command.Map task address bytes object offset) first accepted each is =
    mapped header task address bytes object offset (host_of task.0 before) first line before
    (range_passed header.size address bytes (nat_lt (declared_pages header object.0) (offset + bytes / header.size)) code.InvalidArgument _
    (acting_passed before task.0 _ accepted)) is
head_runs header before line (command.Clean object page count flush) first accepted each is =
    cleaned object page count flush (known_below (length header.frames.items) object.0 before) first line before is
head_runs header before line (command.Cache object cache) first accepted each is =
    cached object cache (known_below (length header.frames.items) object.0 before) first line before is

-- a head, behind its line
head_tidy : (header : Header) (past : List Event) (numbered : Numbered) (first : List Event) → refusal header past numbered.command ≡ None
    → head header past numbered.command ≡ Some first → Tidy past → Tidy (reverse first ++ event.Line numbered.line ∷ past)
head_tidy header past numbered first accepted is was =
    let line : EachEvent Orderly (event.Line numbered.line ∷ past) = ((next (event.Line numbered.line) past was.shut, tt), was.each) in
    subst Tidy (sym (turned first [] (event.Line numbered.line ∷ past)))
    (run first (event.Line numbered.line ∷ past) (head_runs header past numbered.line numbered.command first accepted was.each is) line)

-- groups

refused_tidy : (past : List Event) (line : ℕ) (code : Code) → Tidy past → Tidy (event.Refused code ∷ event.Line line ∷ past)
refused_tidy past line code was =
    record {
      each = ((next (event.Refused code) (event.Line line ∷ past) (λ region. refl), tt), ((next (event.Line line) past was.shut, tt), was.each));
      shut = λ region. refl;
    }

group_tidy : (header : Header) (outside : Outside) (past : List Event) (numbered : Numbered) (group : List Event) (refused : Option Code)
    (x : Option (List Event)) → refusal header past numbered.command ≡ refused → head header past numbered.command ≡ x
    → MatchOption refused (MatchOption x ⊥ (λ events. IsRun header outside past numbered events group)) (λ code. group ≡ event.Refused code ∷ [])
    → Tidy past → Tidy (group ++ event.Line numbered.line ∷ past)
group_tidy header outside past numbered group None None accepted is made was = absurd made
group_tidy header outside past numbered group None (Some first) accepted is made was =
    let whole = consequences made.more (reverse first ++ event.Line numbered.line ∷ past) made.follows
    (head_tidy header past numbered first accepted is was) in
    subst Tidy (sym (append_assoc made.more (reverse first) (event.Line numbered.line ∷ past))
    ∙ ap (λ z. z ++ event.Line numbered.line ∷ past) (sym made.is)) whole
group_tidy header outside past numbered group (Some code) x accepted is made was =
    subst (λ (g : List Event). Tidy (g ++ event.Line numbered.line ∷ past)) (sym made) (refused_tidy past numbered.line code was)

with_group : (header : Header) (outside : Outside) (past : List Event) (numbered : Numbered) (group history : List Event)
    → history ≡ group ++ event.Line numbered.line ∷ past → IsGroup header outside past numbered group → Tidy past → Tidy history
with_group header outside past numbered group history is made was =
    subst Tidy (sym is) (group_tidy header outside past numbered group (refusal header past numbered.command)
    (head header past numbered.command) refl refl made was)

whole_tidy : (header : Header) (outside : Outside) (commands : List Numbered) (history : List Event) → Follows header outside commands history → Tidy history
whole_tidy header outside [] history is = subst Tidy (sym is) (record { each = tt; shut = λ region. refl })
whole_tidy header outside (numbered ∷ before) history (past, group, is, made, done, follows) =
    with_group header outside past numbered group history is made (whole_tidy header outside before past follows)

-- wherever the history ends

each_behind : (front past : List Event) → EachEvent Orderly (front ++ past) → EachEvent Orderly past
each_behind [] past each = each
each_behind (e ∷ front) past each = each_behind front past each.1

begun_orderly : (header : Header) (outside : Outside) (past : List Event) (numbered : Numbered) (group : List Event) (refused : Option Code)
    (x : Option (List Event)) → refusal header past numbered.command ≡ refused → head header past numbered.command ≡ x
    → MatchOption refused
    (MatchOption x ⊥ (λ first. IsRun header outside past numbered first group
    ⊎ (IsBegun first group × AllLicensed header outside numbered.command group (event.Line numbered.line ∷ past))))
    (λ code. (group ≡ []) ⊎ (group ≡ event.Refused code ∷ []))
    → Tidy past → EachEvent Orderly (group ++ event.Line numbered.line ∷ past)
begun_orderly header outside past numbered group None None accepted is made was = absurd made
begun_orderly header outside past numbered group None (Some first) accepted is (inl made) was =
    (group_tidy header outside past numbered group None (Some first) accepted is made was).each
begun_orderly header outside past numbered group None (Some first) accepted is (inr begun) was =
    let behind = event.Line numbered.line ∷ past in
    each_behind begun.0.rest (group ++ behind) (subst (EachEvent Orderly) (ap (λ z. z ++ behind) begun.0.is
    ∙ append_assoc begun.0.rest group behind) (head_tidy header past numbered first accepted is was).each)
begun_orderly header outside past numbered group (Some code) x accepted is (inl none) was =
    subst (λ (g : List Event). EachEvent Orderly (g ++ event.Line numbered.line ∷ past)) (sym none)
    ((next (event.Line numbered.line) past was.shut, tt), was.each)
begun_orderly header outside past numbered group (Some code) x accepted is (inr made) was =
    (group_tidy header outside past numbered group (Some code) x accepted is made was).each

pub orderly : (header : Header) (outside : Outside) (commands : List Numbered) (history : List Event) → FollowsAnyCut header outside commands history
    → EachEvent Orderly history
orderly header outside [] history is = subst (EachEvent Orderly) (sym is) tt
orderly header outside (numbered ∷ before) history (past, group, is, made, follows) =
    subst (EachEvent Orderly) (sym is) (begun_orderly header outside past numbered group (refusal header past numbered.command)
    (head header past numbered.command) refl refl made (whole_tidy header outside before past follows))
