-- A load or store begins: its task waits, and the access is to be run.
use Rattle.vm_kernel.proofs.memory.CoreChanges.{core_holds}
use Rattle.vm_kernel.proofs.Common.{Access, AllUsed, Asker, BeganInOrder, Bool, ChainTable, Code, Command, Entry, Event, GoesNext, Grows, HasWaiters}
use Rattle.vm_kernel.proofs.Common.{Header, Ids, IsAllowed, IsDoneInTurn, IsLined, IsNextAccess, IsOfNumber, IsSizedWant, LegalEvents, List, Mapped, Matches}
use Rattle.vm_kernel.proofs.Common.{None, ObjectTable, On, Option, Outside, Parts, PutsEntry, Ran, Reason, ResidentTable, Rests, RunsFirst, Some, Starts}
use Rattle.vm_kernel.proofs.Common.{TaskId, WaitTable, Waiting, Want, Works, [], access_in, access_refusal, acting, acts_on, address_in, allows, ap, arith}
use Rattle.vm_kernel.proofs.Common.{begun_at, code_where, copies_to, copy_target, count_again, entries_in, entries_of, entry, entry_at, eqb_tells, false}
use Rattle.vm_kernel.proofs.Common.{fills_in, host_of, if◌then◌else◌, inl, inr, is_none, is_some, is_woken, length, lives_on, need_in, next_page, none_again}
use Rattle.vm_kernel.proofs.Common.{not, puts_cases, puts_elsewhere, refl, refusal, rows_in, some_is, subst, sym, true, waiting, waiting_in, ℕ, ◌%◌, ◌++◌, ◌+◌}
use Rattle.vm_kernel.proofs.Common.{◌<◌, ◌==◌, ◌∙◌, ◌∷◌, ◌≡◌}
use Rattle.vm_state.proofs.Filling.{SameFills, copies_put, fills_put, regions_filled, uses_refilled}
use Rattle.vm_state.specs.Filling.{FitsCopy}
use Rattle.vm_base.specs.declared.code.Code.TheVariants as code
use Rattle.vm_base.specs.declared.ids.Access.{Access as Need}
use Rattle.vm_base.specs.declared.ids.Access.TheVariants as need
use Rattle.vm_model.specs.declared.event.Event.TheVariants as event
use Rattle.vm_model.specs.declared.command.Command.TheVariants as command
use Rattle.vm_supply.specs.declared.woken.Woken.TheVariants as woken
use Rattle.vm_waits.specs.declared.waiting.On.TheVariants as on
use Rattle.vm_waits.specs.declared.waiting.Want.TheVariants as want
use Rattle.vm_kernel.proofs.space.EntriesChanged.{acts}
use Rattle.vm_kernel.proofs.steps.EventsGrow.{grows_goes, suffices}
use Rattle.vm_kernel.proofs.steps.RowsInOrder.{begun_below, begun_order}
use Rattle.vm_kernel.proofs.steps.HeadAlone.{grows_one}
use Rattle.vm_legal.proofs.Heads.{passed}
use Rattle.vm_kernel.proofs.space.TaskMade.{idle_of}
use Rattle.vm_kernel.proofs.abroad.OwnHost.{lives_in, rows_here}
use Rattle.vm_kernel.proofs.space.RegionsInUse.{uses_still, holds_waits}
use Rattle.vm_kernel.proofs.abroad.OwnEvents.{own_task}
use Rattle.vm_kernel.proofs.controls.LockReplied.{replied_behind}
use Rattle.vm_base.specs.declared.ids.PageKey.{PageKey}
use Rattle.vm_state.specs.Passed.{IsUnmet, Passed, StaysAway, Unmet}
use Rattle.vm_copies.specs.Copies.{CopyTable}

-- what tests find of an access that isn't refused

-- the task of a command that isn't refused lives, and doesn't wait
pub record IsActing (past : List Event) (task : ℕ) (later : Option Code) : Type 0 where
  pub lives : is_none (host_of task past) ≡ false
  pub idle : is_some (waiting task past) ≡ false
  pub passes : later ≡ None

pub acting_of : (past : List Event) (task : ℕ) (later : Option Code) → acting past task later ≡ None → IsActing past task later
acting_of past task later fine =
    let one = passed (is_none (host_of task past)) code.NoSuchName (code_where (is_some (waiting task past)) code.Blocked later) fine in
    let two = passed (is_some (waiting task past)) code.Blocked later one.1 in
    record { lives = one.0; idle = two.0; passes = two.1 }

found_of : (what : Need) (x : Option Entry) → access_refusal what x ≡ None → (entry : Entry) × (x ≡ Some entry) × (allows what entry.prot ≡ true)
found_of what None fine = absurd (let bad : Some code.InvalidAddress ≡ None = fine in cc)
found_of what (Some entry) fine = (entry, refl, go (allows what entry.prot) fine)
  where
    go : (b : Bool) → (if b then None else Some code.ProtectionFailure) ≡ None → b ≡ true
    go true is = refl
    go false is = absurd (let bad : Some code.ProtectionFailure ≡ None = is in cc)

-- an access that isn't refused is allowed, and within a page
pub record IsFine (k : Parts) (past : List Event) (task address n : ℕ) (need : Need) : Type 0 where
  pub idle : is_some (waiting task past) ≡ false
  pub even : address % n ≡ 0
  pub allowed : IsAllowed k.maps task address need

pub fine_of : (header : Header) (h : ℕ) (k : Parts) (ids : Ids) (past : List Event) (task address n : ℕ) (need : Need) → Matches header h k ids [] past
    → lives_on h task past ≡ true
    → acting past task (code_where (not (address % n == 0)) code.InvalidArgument (access_refusal need
    (entry_at address (entries_of header.size task past)))) ≡ None → IsFine k past task address n need
fine_of header h k ids past task address n need m here fine =
    let acts = acting_of past task (code_where (not (address % n == 0)) code.InvalidArgument
    (access_refusal need (entry_at address (entries_of header.size task past)))) fine in
    let test = passed (not (address % n == 0)) code.InvalidArgument (access_refusal need (entry_at address (entries_of header.size task past))) acts.passes in
    let found = found_of need (entry_at address (entries_of header.size task past)) test.1 in
    let lives = lives_in task m.core.spaces.tasks here in
    record {
      idle = acts.idle;
      even = elim (eqb_tells (address % n) 0) [
        | inl same ↦ same.1
        | inr apart ↦ absurd (let bad : true ≡ false = rw apart.0 at test.0 in cc)
      ];
      allowed =
          record {
            entry = found.0;
            lives = lives;
            found = ap (entry_at address) (sym (rows_here m.core.spaces.tasks lives)) ∙ found.1;
            allowed = found.2;
          };
    }

-- a load or a store

pub data Number : Type 0 where
  Loads : (address size : ℕ) → Number
  Stores : (address size value : ℕ) → Number

abbrev pub want_of : Number → Want
want_of (Loads address size) = want.Load address size
want_of (Stores address size value) = want.Store address size value

of_number : (what : Number) → IsOfNumber (want_of what)
of_number (Loads address size) = tt
of_number (Stores address size value) = tt

-- the command that asks for it, and the event of its beginning

abbrev pub asks : TaskId → Number → Command
asks task (Loads address size) = command.Load task address size
asks task (Stores address size value) = command.Store task address size value

abbrev pub begun : TaskId → Number → Event
begun task (Loads address size) = event.BegunLoad task address size
begun task (Stores address size value) = event.BegunStore task address size value

-- the row of an access that is to be run
abbrev pub begun_row : TaskId → Number → Waiting
begun_row task what = record { task = task; want = want_of what; on = on.Again; destination = None }

-- what is known of an access that begins
pub record CanBegin (k : Parts) (past : List Event) (task : ℕ) (what : Number) : Type 0 where
  pub idle : is_some (waiting task past) ≡ false
  pub allowed : IsAllowed k.maps task (address_in k.maps.size (want_of what)) (need_in (want_of what))
  pub sized : IsSizedWant k.maps.size (want_of what)

pub can_begin : (header : Header) (h : ℕ) (task : TaskId) (what : Number) (past : List Event) (k : Parts) (ids : Ids) (before : List Event)
    → Starts header h (asks task what) past k ids before → CanBegin k past task.0 what
can_begin header h task (Loads address size) past k ids before s =
    let fine = fine_of header h k ids past task.0 address size need.Load s.rests.matches s.acts s.accepted in
    record { idle = fine.idle; allowed = fine.allowed; sized = (s.range.size, fine.even) }
can_begin header h task (Stores address size value) past k ids before s =
    let fine = fine_of header h k ids past task.0 address size need.Store s.rests.matches s.acts s.accepted in
    record { idle = fine.idle; allowed = fine.allowed; sized = (s.range.0.size, fine.even, s.range.1) }

pub absent_row : (header : Header) (h : ℕ) (task : TaskId) (what : Number) (past : List Event) (k : Parts) (ids : Ids) (before : List Event)
    → Starts header h (asks task what) past k ids before → entry k.waits.rows task.0 ≡ None
absent_row header h task what past k ids before s =
    idle_of k.maps.size (entry k.waits.rows task.0) (waiting task.0 past) (s.rests.waits.is task.0
    (ap is_some (can_begin header h task what past k ids before s).allowed.lives)) (can_begin header h task what past k ids before s).idle

-- the history in which an access has begun
begun_matches : (header : Header) (h : ℕ) (k : Parts) (ids : Ids) (past : List Event) (waits : WaitTable) (task : TaskId) (what : Number) (rows : List Entry)
    → SameFills k.waits.rows waits.rows → Matches header h k ids [] past → entries_in task.0 k.maps ≡ Some rows
    → Matches header h (record k { waits = waits }) ids [] (begun task what ∷ past)
begun_matches header h k ids past waits task (Loads address size) rows same m lives =
    record {
      core = core_holds m.core
          (uses_refilled k.waits.rows waits.rows same (uses_still header k.maps _ _ _ _ _ m.core.spaces.uses
          (λ t r none. holds_waits header.size task.0 t r k.maps rows past _ lives none)));
      settled = record { none_owed = refl; shut = λ region. refl };
      replied = replied_behind tt m.replied;
    }
begun_matches header h k ids past waits task (Stores address size value) rows same m lives =
    record {
      core = core_holds m.core
          (uses_refilled k.waits.rows waits.rows same (uses_still header k.maps _ _ _ _ _ m.core.spaces.uses
          (λ t r none. holds_waits header.size task.0 t r k.maps rows past _ lives none)));
      settled = record { none_owed = refl; shut = λ region. refl };
      replied = replied_behind tt m.replied;
    }

begun_waiting : (pages : ℕ) (task : TaskId) (what : Number) (past : List Event) (t : ℕ)
    → waiting t (begun task what ∷ past) ≡ (if task.0 == t then Some (access_in pages 0 (want_of what)) else waiting t past)
begun_waiting pages task (Loads address size) past t = refl
begun_waiting pages task (Stores address size value) past t = refl

begun_when : (task : TaskId) (what : Number) (past : List Event) (t : ℕ)
    → begun_at t (begun task what ∷ past) ≡ (if task.0 == t then length past else begun_at t past)
begun_when task (Loads address size) past t = refl
begun_when task (Stores address size value) past t = refl

pub lined_below : (t : ℕ) (past : List Event) → IsLined past → begun_at t past < length past
lined_below t past is = subst (λ (z : List Event). begun_at t z < length z) (sym is.is) (begun_below t (event.Line is.line) is.before)

begun_grows : (header : Header) (h : ℕ) (outside : Outside) (k : Parts) (ids : Ids) (past : List Event) (task : TaskId) (what : Number)
    → Matches header h k ids [] past → refusal header past (asks task what) ≡ None → acts_on h (asks task what) past ≡ true
    → Grows header h outside (asks task what) past (begun task what ∷ [])
begun_grows header h outside k ids past task (Loads address size) m fine here =
    grows_one header h outside (command.Load task address size) past (event.BegunLoad task address size) refl
    (record {
      settled = m.settled;
      cause = acts task.0 past _ fine;
      own_bytes = tt;
      frames = suffices header h k.memory.frames past m.core.pages.counted;
      inner = tt;
      said = tt;
      own = own_task h task.0 past here;
      creates = tt;
    })
begun_grows header h outside k ids past task (Stores address size value) m fine here =
    grows_one header h outside (command.Store task address size value) past (event.BegunStore task address size value) refl
    (record {
      settled = m.settled;
      cause = acts task.0 past _ fine;
      own_bytes = tt;
      frames = suffices header h k.memory.frames past m.core.pages.counted;
      inner = tt;
      said = tt;
      own = own_task h task.0 past here;
      creates = tt;
    })

-- a task that didn't wait waits with an access that is to be run
pub waits_added : {copies : CopyTable} {stays : PageKey → Type 0} {unmet : PageKey → Unmet} (maps : Mapped) (chains : ChainTable) (resident : ResidentTable)
    (objects : ObjectTable)
    (rows new : List Waiting) (w : Waiting) (was : ℕ → Option Access) (now : ℕ → Option Access)
    → HasWaiters maps chains copies resident objects rows (is_woken woken.Nobody) was stays unmet → PutsEntry w.task.0 (Some w) rows new
    → entry rows w.task.0 ≡ None
    → w.on ≡ on.Again → IsAllowed maps w.task.0 (address_in maps.size w.want) (need_in w.want) → IsSizedWant maps.size w.want
    → ((t : ℕ) → now t ≡ (if w.task.0 == t then Some (access_in maps.size (copies_to w.destination) w.want) else was t))
    → HasWaiters maps chains copies resident objects new (is_woken woken.Nobody) now stays unmet
waits_added {copies = copies} {stays = stays} {unmet = unmet} maps chains resident objects rows new w was now has puts none again allowed sized is =
    record {
      is = λ t here. is t ∙ (both (w.task.0 == t) t here ∙ ap (waiting_in maps.size) (sym (puts.at t)));
      allowed = λ t v found. puts_cases w.task.0 t (Some w) rows new v puts found
          (λ same row. subst (λ (z : Waiting). IsAllowed maps t (address_in maps.size z.want) (need_in z.want)) (some_is w v row)
          (subst (λ (z : ℕ). IsAllowed maps z (address_in maps.size w.want) (need_in w.want)) same allowed))
          (λ apart old. has.allowed t v old);
      sized = λ t v found. puts_cases w.task.0 t (Some w) rows new v puts found
          (λ same row. subst (λ (z : Waiting). IsSizedWant maps.size z.want) (some_is w v row) sized)
          (λ apart old. has.sized t v old);
      reasons = λ t v found unwoken. puts_cases w.task.0 t (Some w) rows new v puts found
          (λ same row. subst (λ (z : On). Reason maps chains copies resident objects t v.want z) (sym again ∙ ap (λ (z : Waiting). z.on) (some_is w v row)) tt)
          (λ apart old. has.reasons t v old unwoken);
      passed = λ t v found unwoken. puts_cases w.task.0 t (Some w) rows new v puts found
          (λ same row. subst (λ (z : On). Passed stays unmet maps chains t v.want z) (sym again ∙ ap (λ (z : Waiting). z.on) (some_is w v row)) tt)
          (λ apart old. has.passed t v old unwoken);
      aims = λ t v key found on_page. puts_cases w.task.0 t (Some w) rows new v puts found
          (λ same row. absurd (let bad : on.Again ≡ on.Page key = sym again ∙ (ap (λ (z : Waiting). z.on) (some_is w v row) ∙ on_page) in cc))
          (λ apart old. has.aims t v key old on_page);
      askers = λ o p row found away. asks_still o p (has.askers o p row found away);
      ready = has.ready;
    }
  where
    some_is : (x y : Waiting) → Some x ≡ Some y → x ≡ y
    some_is x y e = cc

    both : (b : Bool) (t : ℕ) → is_some (entries_in t maps) ≡ true
        → (if b then Some (access_in maps.size (copies_to w.destination) w.want) else was t) ≡ waiting_in maps.size (if b then Some w else entry rows t)
    both true t here = refl
    both false t here = has.is t here

    asks_still : (o p : ℕ) → Asker rows o p → Asker new o p
    asks_still o p asker =
        record {
          task = asker.task;
          row = asker.row;
          is =
              puts_elsewhere w.task.0 asker.task (Some w) rows new puts (λ same. let bad : None ≡ Some asker.row = sym none
              ∙ (ap (entry rows) same ∙ asker.is) in cc) ∙ asker.is;
          waits = asker.waits;
        }

pub waits_begun : {copies : CopyTable} {stays : PageKey → Type 0} {unmet : PageKey → Unmet} (maps : Mapped) (chains : ChainTable) (resident : ResidentTable)
    (objects : ObjectTable)
    (rows new : List Waiting) (task : TaskId) (what : Number) (was : ℕ → Option Access) (now : ℕ → Option Access)
    → HasWaiters maps chains copies resident objects rows (is_woken woken.Nobody) was stays unmet → PutsEntry task.0 (Some (begun_row task what)) rows new
    → entry rows task.0 ≡ None → IsAllowed maps task.0 (address_in maps.size (want_of what)) (need_in (want_of what)) → IsSizedWant maps.size (want_of what)
    → ((t : ℕ) → now t ≡ (if task.0 == t then Some (access_in maps.size 0 (want_of what)) else was t))
    → HasWaiters maps chains copies resident objects new (is_woken woken.Nobody) now stays unmet
waits_begun maps chains resident objects rows new task what was now has puts none allowed sized is =
    waits_added maps chains resident objects rows new (begun_row task what) was now has puts none refl allowed sized is

-- a load or a store that begins fills nothing
begun_fills : (rows new : List Waiting) (task : TaskId) (what : Number) → PutsEntry task.0 (Some (begun_row task what)) rows new → entry rows task.0 ≡ None
    → SameFills rows new
begun_fills rows new task what puts none = fills_put task.0 (Some (begun_row task what)) rows new puts (λ r. sym (ap (fills_in r) none))

used_begun : (header : Header) (maps : Mapped) (cs : ChainTable) (rs : ResidentTable) (past : List Event) (rows new : List Waiting) (task : TaskId)
    (what : Number) → AllUsed header maps cs rs rows (λ t. next_page t past) (λ t. copy_target t past) → PutsEntry task.0 (Some (begun_row task what)) rows new
    → entry rows task.0 ≡ None
    → AllUsed header maps cs rs new (λ t. next_page t (begun task what ∷ past)) (λ t. copy_target t (begun task what ∷ past))
used_begun header maps cs rs past rows new task (Loads address size) used puts none =
    record {
      regions = regions_filled cs rows new (begun_fills rows new task (Loads address size) puts none) used.regions;
      copies =
          copies_put task.0 (Some (begun_row task (Loads address size))) rows new used.copies puts (λ r. sym (ap (fills_in r) none))
          (λ w is. subst (λ (z : Waiting). FitsCopy header maps cs rs task.0 z.want z.destination (next_page task.0 past) (copy_target task.0 past))
          (some_is (begun_row task (Loads address size)) w is) refl);
    }
used_begun header maps cs rs past rows new task (Stores address size value) used puts none =
    record {
      regions = regions_filled cs rows new (begun_fills rows new task (Stores address size value) puts none) used.regions;
      copies =
          copies_put task.0 (Some (begun_row task (Stores address size value))) rows new used.copies puts (λ r. sym (ap (fills_in r) none))
          (λ w is. subst (λ (z : Waiting). FitsCopy header maps cs rs task.0 z.want z.destination (next_page task.0 past) (copy_target task.0 past))
          (some_is (begun_row task (Stores address size value)) w is) refl);
    }

begun_log : (task : TaskId) (what : Number) (before log : List Event) → before ≡ [] → log ≡ begun task what ∷ before → log ≡ begun task what ∷ []
begun_log task what before log none told = told ∙ ap (λ (z : List Event). begun task what ∷ z) none

-- to pages its beginning is nothing
waits_after : {copies : CopyTable} {maps : Mapped} {chains : ChainTable} {resident : ResidentTable} {objects : ObjectTable} {rows : List Waiting}
    {who : On → Bool}
    {at : ℕ → Option Access} (header : Header) (h : ℕ) (task : TaskId) (what : Number) (past : List Event)
    → HasWaiters maps chains copies resident objects rows who at (StaysAway header h past) (IsUnmet header h past)
    → HasWaiters maps chains copies resident objects rows who at (StaysAway header h (begun task what ∷ past)) (IsUnmet header h (begun task what ∷ past))
waits_after header h task (Loads address size) past has = has
waits_after header h task (Stores address size value) past has = has

pub begun_works : (header : Header) (h : ℕ) (doing : Command) (task : TaskId) (what : Number) (past : List Event) (k : Parts) (ids : Ids)
    (before log : List Event) (reserved waits : WaitTable) → doing ≡ asks task what → Starts header h doing past k ids before
    → log ≡ begun task what ∷ before → reserved.rows ≡ k.waits.rows → PutsEntry task.0 (Some (begun_row task what)) reserved.rows waits.rows
    → waits.rows ≡ reserved.rows ++ begun_row task what ∷ [] → Works header h (record k { waits = waits }) ids woken.Nobody (log ++ past)
begun_works header h doing task what past k ids before log reserved waits is starts told same puts pushed =
    let s : Starts header h (asks task what) past k ids before = subst (λ (z : Command). Starts header h z past k ids before) is starts in
    let can = can_begin header h task what past k ids before s in
    let puts_here : PutsEntry task.0 (Some (begun_row task what)) k.waits.rows waits.rows = subst
    (λ (z : List Waiting). PutsEntry task.0 (Some (begun_row task what)) z waits.rows) same puts in
    let absent = absent_row header h task what past k ids before s in
    let order : BeganInOrder (λ t. begun_at t (begun task what ∷ past)) 0 waits.rows =
    subst (λ (z : List Waiting). BeganInOrder (λ t. begun_at t (begun task what ∷ past)) 0 z) (sym (pushed ∙ ap (λ z. z ++ begun_row task what ∷ []) same))
    (begun_order (λ t. begun_at t past) (λ t. begun_at t (begun task what ∷ past)) (begun_row task what) (length past) 0 k.waits.rows
    (absent_row header h task what past k ids before s) (begun_when task what past) (λ t. lined_below t past s.begins) (omega arith) s.rests.order) in
    subst (λ (z : List Event). Works header h (record k { waits = waits }) ids woken.Nobody (z ++ past)) (sym (begun_log task what before log s.nothing told))
    (record {
      matches =
          begun_matches header h k ids past waits task what (rows_in task.0 k.maps) (begun_fills k.waits.rows waits.rows task what puts_here absent)
          s.rests.matches can.allowed.lives;
      used = used_begun header k.maps k.chains k.memory.resident past k.waits.rows waits.rows task what s.rests.used puts_here absent;
      referred = s.rests.referred;
      thin = s.rests.thin;
      order = order;
      waits =
          waits_after header h task what past (waits_begun k.maps k.chains k.memory.resident k.memory.objects k.waits.rows waits.rows task what
          (λ t. waiting t past) (λ t. waiting t (begun task what ∷ past)) s.rests.waits puts_here (absent_row header h task what past k ids before s)
          can.allowed can.sized (begun_waiting k.maps.size task what past));
    })

-- it is the only one that is to be run
pub begun_next : (task : TaskId) (what : Number) (rows new : List Waiting) → count_again rows ≡ 0 → count_again new ≡ count_again rows + 1
    → PutsEntry task.0 (Some (begun_row task what)) rows new → IsNextAccess task.0 new
begun_next task what rows new idle one puts =
    record {
      some = λ none. omega arith;
      only = λ t w found on_again. puts_cases task.0 t (Some (begun_row task what)) rows new w puts found
          (λ same row. sym same)
          (λ apart old. absurd (let bad : false ≡ true = sym (none_again rows t w idle old) ∙ on_again in cc));
    }

begun_done : (header : Header) (task : TaskId) (what : Number) (past events : List Event)
    → GoesNext header task.0 past (begun task what ∷ []) events → IsDoneInTurn header (asks task what) events past
begun_done header task (Loads address size) past events goes = goes
begun_done header task (Stores address size value) past events goes = goes

-- the access was run, and all that were to be
pub begun_ran : (header : Header) (h : ℕ) (outside : Outside) (doing : Command) (task : TaskId) (what : Number) (past : List Event) (k new : Parts)
    (ids ids2 : Ids) (before log after : List Event) (rows : List Waiting) → doing ≡ asks task what
    → Starts header h doing past k ids before → log ≡ begun task what ∷ before → IsNextAccess task.0 rows → Rests header h new ids2 (after ++ past)
    → LegalEvents header h outside doing past log after → RunsFirst header rows past log after
    → Ran header h outside doing past new ids2 after
begun_ran header h outside doing task what past k new ids ids2 before log after rows is starts told next rests goes runs =
    let first : Grows header h outside (asks task what) past (begun task what ∷ []) = begun_grows header h outside k ids past task what starts.rests.matches
    (subst (λ (z : Command). refusal header past z ≡ None) is starts.accepted) (subst (λ (z : Command). acts_on h z past ≡ true) is starts.acts) in
    let same = begun_log task what before log starts.nothing told in
    let grows : Grows header h outside doing past log =
    subst (λ (z : Command). Grows header h outside z past log) (sym is) (subst (λ (z : List Event). Grows header h outside (asks task what) past z) (sym same)
    first) in
    let gone : GoesNext header task.0 past (begun task what ∷ []) after = subst (λ (z : List Event). GoesNext header task.0 past z after) same
    (runs task.0 next) in
    record {
      rests = rests;
      grows = grows_goes header h outside doing past log after grows goes;
      done = subst (λ (z : Command). IsDoneInTurn header z after past) (sym is) (begun_done header task what past after gone);
    }
