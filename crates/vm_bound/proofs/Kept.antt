-- A temporary region in use has an entry, or a slow copy fills it; or it was made just now; or its entry comes next, behind a slow copy that ended.
use Rattle.std.proofs.Common.{ℕ, ◌≡◌, ◌≤◌, ◌<◌, ◌==◌, ◌&&◌, ◌||◌, ◌∙◌, ◌⊎◌, not, Bool, true, false, List, [], ◌∷◌, Option, Some, None}
use Rattle.std.proofs.Common.{MatchOption, inl, inr, ap, arith, refl, subst, sym, if◌then◌else◌}
use Rattle.std.proofs.lemmas.Bool.Decides.{nat_tests}
use Rattle.std.specs.Prelude.{nat_lt}
use native.Mathlib.Decide.{ℕ_discrete}
use Rattle.vm_abroad.specs.Sound.{holds}
use Rattle.vm_base.specs.Entries.{entered, inherited, protected}
use Rattle.vm_base.specs.declared.entry.Entry.{Entry}
use Rattle.vm_base.specs.declared.ids.HostId.{HostId}
use Rattle.vm_base.specs.declared.ids.ObjectId.{ObjectId}
use Rattle.vm_base.specs.declared.ids.PageNo.{PageNo}
use Rattle.vm_base.specs.declared.ids.RegionId.{RegionId}
use Rattle.vm_base.specs.declared.ids.TaskId.{TaskId}
use Rattle.vm_bound.proofs.EntryRows.{among_entered, dead_entries, if_has, or_left, or_right, rewritten_has}
use Rattle.vm_bound.proofs.Grown.{Grown, IsNew, before, clash, first, not_new, second}
use Rattle.vm_flat.proofs.Heads.{copier, ranged}
use Rattle.vm_flat.proofs.Held.{kept, kept_filled}
use Rattle.vm_flat.proofs.Regions.{eq_yes, if_no, if_yes}
use Rattle.vm_legal.proofs.Files.{file_named}
use Rattle.vm_legal.proofs.Homes.{on_host}
use Rattle.vm_legal.specs.Homes.{enters}
use Rattle.vm_legal.specs.Licences.{EntryOf, Filled, IsBehind, Owed, Pays, entry_of, owed}
use Rattle.vm_legal.specs.Living.{lives_on, tasks}
use Rattle.vm_legal.specs.Outside.{Outside}
use Rattle.vm_legal.specs.Used.{in_use, is_held, is_kept, made_here}
use Rattle.vm_model.specs.Named.{named}
use Rattle.vm_model.specs.Tasks.{entries_of, has_entry, host_of}
use Rattle.vm_model.specs.Waiting.{Access, Copying, Loading, Storing, Target, begins_copy, copy_target, fills, waiting}
use Rattle.vm_model.specs.declared.event.Event.{Event}
use Rattle.vm_model.specs.declared.event.Event.TheVariants as event
use Rattle.vm_model.specs.declared.script.Header.{Header}

-- behind the end of a slow copy, which filled the region
pub record IsOwing (r : ℕ) (past : List Event) : Type 0 where
  pub filled : Filled
  pub owes : owed past ≡ Some (EntryOf filled)
  pub region_is : filled.region ≡ r

pub not_owing : {A : Type 0} (r : ℕ) (e : Event) (past : List Event) → IsBehind e past → enters r e ≡ false → IsOwing r past → A
not_owing r e past stands other owing = clash (enters r e) other (ap (enters r) paid ∙ eq_yes r owing.filled.region (sym owing.region_is))
  where
    paid : Pays (EntryOf owing.filled) e
    paid = subst (λ (x : Option Owed). MatchOption x (Unit {0}) (λ due. Pays due e)) owing.owes stands

abbrev pub Held : Header → ℕ → List Event → Type 0
Held header r past = is_held header.size r (tasks past) past ≡ true

abbrev pub Holding : Header → ℕ → List Event → Type 0
Holding header r past = Held header r past ⊎ (IsNew r past ⊎ IsOwing r past)

-- who holds it, holds it still

or_more : (a b c d : Bool) → (a ≡ true → c ≡ true) → (b ≡ true → d ≡ true) → (a || b) ≡ true → (c || d) ≡ true
or_more true b c d one two is = or_left c d (one refl)
or_more false b c d one two is = or_right c d (two is)

held_more : (size r : ℕ) (ts : List ℕ) (now past : List Event) → ((t : ℕ) → holds size t r past ≡ true → holds size t r now ≡ true)
    → is_held size r ts past ≡ true → is_held size r ts now ≡ true
held_more size r [] now past more held = held
held_more size r (t ∷ ts) now past more held =
    or_more (holds size t r past) (is_held size r ts past) (holds size t r now) (is_held size r ts now) (more t) (held_more size r ts now past more) held

later : (header : Header) (outside : Outside) (r : ℕ) (e : Event) (past : List Event) → Grown header outside (e ∷ past) → enters r e ≡ false
    → (Held header r past → Holding header r (e ∷ past)) → Holding header r past → Holding header r (e ∷ past)
later header outside r e past grown other more (inl held) = more held
later header outside r e past grown other more (inr (inl new)) = not_new r e past grown.enters.0 grown.orderly.0 other new
later header outside r e past grown other more (inr (inr owing)) = not_owing r e past grown.behind.0 other owing

held_of : (header : Header) (r : ℕ) (past : List Event) → named header ≤ r → is_kept header r past ≡ true → Held header r past
held_of header r past late is = by (nat_lt r (named header)) refl is
  where
    by : (b : Bool) → nat_lt r (named header) ≡ b → (b || is_held header.size r (tasks past) past) ≡ true → Held header r past
    by true less held = absurd (let low : r < named header = grind (arith, nat_tests) in omega (arith, low, late))
    by false less held = held

-- accesses that begin and end

-- an access that fills nothing begins or ends
holds_if : (r : ℕ) (has b : Bool) (x y : Option Access) (target : Option Target) → (b ≡ true → fills r y target ≡ false) → (has || fills r y target) ≡ true
    → (has || fills r (if b then x else y) target) ≡ true
holds_if r true b x y target none is = refl
holds_if r false false x y target none is = is
holds_if r false true x y target none is = clash (fills r y target) (none refl) is

fills_none : (r : ℕ) (x : Option Access) (target : Option Target) → x ≡ None → fills r x target ≡ false
fills_none r x target is = ap (λ (y : Option Access). fills r y target) is

task_is : (owner t : ℕ) → (owner == t) ≡ true → owner ≡ t
task_is owner t is = grind (arith, nat_tests)

at_task : (r owner t : ℕ) (past : List Event) → fills r (waiting owner past) (copy_target owner past) ≡ false → (owner == t) ≡ true
    → fills r (waiting t past) (copy_target t past) ≡ false
at_task r owner t past none same = subst (λ (k : ℕ). fills r (waiting k past) (copy_target k past) ≡ false) (task_is owner t same) none

-- a slow copy that began just now fills nothing yet
unfilled : (x : Option Access) (r : ℕ) → fills r x None ≡ false
unfilled None r = refl
unfilled (Some (Loading address bytes)) r = refl
unfilled (Some (Storing address bytes value)) r = refl
unfilled (Some (Copying address bytes to)) r = refl

begun_unfilled : (r t : ℕ) (past : List Event) → begins_copy t past ≡ true → fills r (waiting t past) (copy_target t past) ≡ false
begun_unfilled r t (event.BegunCopy owner address bytes to ∷ past) begun =
    ap (λ (x : Option Target). fills r (waiting t (event.BegunCopy owner address bytes to ∷ past)) x)
    (ap (λ (b : Bool). if b then None else copy_target t past) begun)
    ∙ unfilled (waiting t (event.BegunCopy owner address bytes to ∷ past)) r
begun_unfilled r t [] begun = absurd (let bad : false ≡ true = begun in cc)
begun_unfilled r t (e ∷ past) begun = absurd (let bad : false ≡ true = begun in cc)

-- the target of a slow copy that fills nothing changes
holds_target : (r : ℕ) (has b : Bool) (access : Option Access) (x y : Option Target) → (b ≡ true → fills r access y ≡ false) → (has || fills r access y) ≡ true
    → (has || fills r access (if b then x else y)) ≡ true
holds_target r true b access x y none is = refl
holds_target r false false access x y none is = is
holds_target r false true access x y none is = clash (fills r access y) (none refl) is

-- both change
holds_begun : (r : ℕ) (has b : Bool) (x y : Option Access) (u v : Option Target) → (b ≡ true → fills r y v ≡ false) → (has || fills r y v) ≡ true
    → (has || fills r (if b then x else y) (if b then u else v)) ≡ true
holds_begun r true b x y u v none is = refl
holds_begun r false false x y u v none is = is
holds_begun r false true x y u v none is = clash (fills r y v) (none refl) is

-- a slow copy that filled the region ends: its entry comes next
owing_of : (r : ℕ) (owner : TaskId) (past : List Event) → fills r (waiting owner.0 past) (copy_target owner.0 past) ≡ true
    → IsOwing r (event.CopyEnded owner ∷ past)
owing_of r owner past is = by (waiting owner.0 past) (copy_target owner.0 past) refl refl is
  where
    by : (x : Option Access) (y : Option Target) → waiting owner.0 past ≡ x → copy_target owner.0 past ≡ y → fills r x y ≡ true
        → IsOwing r (event.CopyEnded owner ∷ past)
    by None y w f is = absurd (let bad : false ≡ true = is in cc)
    by (Some (Loading address bytes)) y w f is = absurd (let bad : false ≡ true = is in cc)
    by (Some (Storing address bytes value)) y w f is = absurd (let bad : false ≡ true = is in cc)
    by (Some (Copying address bytes to)) None w f is = absurd (let bad : false ≡ true = is in cc)
    by (Some (Copying address bytes to)) (Some target) w f is =
        record {
          filled = record { task = owner; address = to; bytes = bytes; region = target.region };
          owes = ap (λ (x : Option Access). entry_of owner x (copy_target owner.0 past)) w
              ∙ ap (λ (y : Option Target). entry_of owner (Some (Copying address bytes to)) y) f;
          region_is = task_is target.region r is;
        }

ended_holding : (header : Header) (r : ℕ) (owner : TaskId) (past : List Event) → Held header r past → Holding header r (event.CopyEnded owner ∷ past)
ended_holding header r owner past held = by (fills r (waiting owner.0 past) (copy_target owner.0 past)) refl
  where
    now : List Event
    now = event.CopyEnded owner ∷ past

    by : (b : Bool) → fills r (waiting owner.0 past) (copy_target owner.0 past) ≡ b → Holding header r now
    by true is = inr (inr (owing_of r owner past is))
    by false is =
        inl (held_more header.size r (tasks past) now past
        (λ t was. holds_if r (has_entry r (entries_of header.size t past)) (owner.0 == t) None (waiting t past) (copy_target t past)
        (at_task r owner.0 t past is) was) held)

-- a task that is made held nothing before
made_unheld : (header : Header) (outside : Outside) (r task : ℕ) (past : List Event) → Grown header outside past → host_of task past ≡ None
    → holds header.size task r past ≡ false
made_unheld header outside r task past grown dead =
    ap (λ (rows : List Entry). has_entry r rows || fills r (waiting task past) (copy_target task past))
    (dead_entries header outside task past grown.causes dead)
    ∙ by (waiting task past) (copy_target task past) refl
  where
    by : (x : Option Access) (y : Option Target) → waiting task past ≡ x → fills r x y ≡ false
    by None y w = refl
    by (Some (Loading address bytes)) y w = refl
    by (Some (Storing address bytes value)) y w = refl
    by (Some (Copying address bytes to)) y w = absurd ((copier task address bytes to past grown.orderly w).0 dead)

made_holding : (header : Header) (outside : Outside) (r : ℕ) (made : TaskId) (host : HostId) (past : List Event) → Grown header outside past
    → host_of made.0 past ≡ None → Held header r past → Held header r (event.TaskMade made host ∷ past)
made_holding header outside r made host past grown dead held =
    or_right (holds header.size made.0 r now) (is_held header.size r (tasks past) now) (held_more header.size r (tasks past) now past more held)
  where
    now : List Event
    now = event.TaskMade made host ∷ past

    more : (t : ℕ) → holds header.size t r past ≡ true → holds header.size t r now ≡ true
    more t was = by (made.0 == t) refl
      where
        by : (b : Bool) → (made.0 == t) ≡ b
            → (has_entry r (if b then [] else entries_of header.size t past) || fills r (if b then None else waiting t past) (copy_target t past)) ≡ true
        by true same =
            clash (holds header.size t r past)
            (subst (λ (k : ℕ). holds header.size k r past ≡ false) (task_is made.0 t same) (made_unheld header outside r made.0 past grown dead)) was
        by false other = was

-- entries

rows_holding : (header : Header) (r : ℕ) (owner : ℕ) (rows : (t : ℕ) → List Entry) (now past : List Event)
    → ((t : ℕ) → has_entry r (entries_of header.size t past) ≡ true → has_entry r (rows t) ≡ true)
    → ((t : ℕ) → holds header.size t r now ≡ (has_entry r (if owner == t then rows t else entries_of header.size t past)
    || fills r (waiting t past) (copy_target t past)))
    → is_held header.size r (tasks past) past ≡ true → is_held header.size r (tasks past) now ≡ true
rows_holding header r owner rows now past more is held =
    held_more header.size r (tasks past) now past
    (λ t was. is t ∙ or_more (has_entry r (entries_of header.size t past)) (fills r (waiting t past) (copy_target t past))
    (has_entry r (if owner == t then rows t else entries_of header.size t past)) (fills r (waiting t past) (copy_target t past))
    (if_has (owner == t) r (rows t) (entries_of header.size t past) (more t)) (λ fill. fill) was) held

both_true : (a : Bool) → a ≡ true → (a && true) ≡ true
both_true true is = refl
both_true false is = absurd (let bad : false ≡ true = is in cc)

abbrev region_entered : Event → ℕ
region_entered (event.Entered task address bytes region offset prot inherit) = region.0
region_entered other = 0

-- who gets an entry on the region holds it
entered_holding : (header : Header) (outside : Outside) (r : ℕ) (task : TaskId) (row : Entry) (past : List Event)
    → let now : List Event = event.Entered task row.address row.bytes row.region row.offset row.prot row.inherit ∷ past in
    Grown header outside now → named header ≤ r → Holding header r past → Held header r now
entered_holding header outside r task row past grown late was = by was
  where
    e : Event
    e = event.Entered task row.address row.bytes row.region row.offset row.prot row.inherit

    rows : ℕ → List Entry
    rows t = entered row (entries_of header.size t past)

    here : r ≡ row.region.0 → Held header r (e ∷ past)
    here same =
        held_of header r (e ∷ past) late (kept header r task.0 grown.causes.0.1.host (e ∷ past) grown.causes.0.1.lives
        (ap (has_entry r) (if_yes task.0 task.0 (rows task.0) (entries_of header.size task.0 past) refl)
        ∙ among_entered r row (entries_of header.size task.0 past)
        (or_left (row.region.0 == r) (has_entry r (entries_of header.size task.0 past)) (eq_yes row.region.0 r (sym same)))))

    by : Holding header r past → Held header r (e ∷ past)
    by (inl held) =
        rows_holding header r task.0 rows (e ∷ past) past
        (λ t has. among_entered r row (entries_of header.size t past) (or_right (row.region.0 == r) (has_entry r (entries_of header.size t past)) has))
        (λ t. refl) held
    by (inr (inl (inl is))) = here (task_is r row.region.0 (grown.enters.0 r is))
    by (inr (inl (inr is))) = here (task_is r row.region.0 (grown.orderly.0.0 r is))
    by (inr (inr owing)) = here (sym owing.region_is ∙ sym (ap (λ (x : Event). region_entered x) paid))
      where
        paid : Pays (EntryOf owing.filled) e
        paid = subst (λ (x : Option Owed). MatchOption x (Unit {0}) (λ due. Pays due e)) owing.owes grown.behind.0

-- a region that is made is filled by the slow copy that began just now, or its entry comes next
fresh_holding : (header : Header) (region : RegionId) (object : ObjectId) (pages h : ℕ) (past : List Event) → named header ≤ region.0
    → made_here h past ≡ true → Holding header region.0 (event.RegionMade region object pages ∷ past)
fresh_holding header region object pages h (event.BegunCopy task address bytes to ∷ past) late here =
    inl (held_of header region.0 now late (kept_filled header region.0 task.0 h now (on_host h (host_of task.0 past) here) fill))
  where
    now : List Event
    now = event.RegionMade region object pages ∷ event.BegunCopy task address bytes to ∷ past

    target : Target
    target = record { region = region.0; object = object.0 }

    itself : (n : ℕ) → (n == n) ≡ true
    itself n = eq_yes n n refl

    fill : fills region.0 (waiting task.0 now) (copy_target task.0 now) ≡ true
    fill =
        ap (λ (b : Bool). fills region.0 (if b then Some (Copying address bytes to) else waiting task.0 past)
        (if b then Some target else (if b then None else copy_target task.0 past))) (itself task.0)
        ∙ itself region.0
fresh_holding header region object pages h [] late here = inr (inl (inl (both_true (region.0 == region.0) (eq_yes region.0 region.0 refl))))
fresh_holding header region object pages h (e ∷ past) late here = inr (inl (inl (both_true (region.0 == region.0) (eq_yes region.0 region.0 refl))))

pub holding : (header : Header) (outside : Outside) (past : List Event) → Grown header outside past → (h r : ℕ) → named header ≤ r
    → in_use header h r past ≡ true → Holding header r past
holding header outside [] grown h r late used = let small = file_named header r used in absurd (omega (arith, small, late))
holding header outside (event.RegionMade region object pages ∷ past) grown h r late used = elim (ℕ_discrete r region.0) [
  | yes e ↦ subst (λ (k : ℕ). Holding header k (event.RegionMade region object pages ∷ past)) (sym e)
      (fresh_holding header region object pages h past (subst (λ (k : ℕ). named header ≤ k) e late)
      (sym (if_yes r region.0 (made_here h past) (in_use header h r past) e) ∙ used))
  | no apart ↦ later header outside r (event.RegionMade region object pages) past grown refl
      (λ held. inl (held_more header.size r (tasks past) (event.RegionMade region object pages ∷ past) past
      (λ t was. holds_target r (has_entry r (entries_of header.size t past)) (begins_copy t past) (waiting t past)
      (Some (record { region = region.0; object = object.0 })) (copy_target t past) (begun_unfilled r t past) was) held))
      (holding header outside past (before header outside (event.RegionMade region object pages) past grown) h r late
      (sym (if_no r region.0 (made_here h past) (in_use header h r past) apart) ∙ used))
]
holding header outside (event.RegionCopied region source offset pages ∷ past) grown h r late used = elim (ℕ_discrete r region.0) [
  | yes e ↦ inr (inl (inr (eq_yes r region.0 e)))
  | no apart ↦ later header outside r (event.RegionCopied region source offset pages) past grown refl
      (λ held. inl (held_more header.size r (tasks past) (event.RegionCopied region source offset pages ∷ past) past (λ t was. was) held))
      (holding header outside past (before header outside (event.RegionCopied region source offset pages) past grown) h r late
      (sym (if_no r region.0 (in_use header h source.0 past) (in_use header h r past) apart) ∙ used))
]
holding header outside (event.Delayed region source offset pages copy ∷ past) grown h r late used = elim (ℕ_discrete r region.0) [
  | yes e ↦ inr (inl (inr (eq_yes r region.0 e)))
  | no apart ↦ later header outside r (event.Delayed region source offset pages copy) past grown refl
      (λ held. inl (held_more header.size r (tasks past) (event.Delayed region source offset pages copy ∷ past) past (λ t was. was) held))
      (holding header outside past (before header outside (event.Delayed region source offset pages copy) past grown) h r late
      (sym (if_no r region.0 (in_use header h source.0 past) (in_use header h r past) apart) ∙ used))
]
holding header outside (event.Entered task address bytes region offset prot inherit ∷ past) grown h r late used =
    inl (entered_holding header outside r task (record {
      address = address;
      bytes = bytes;
      region = region;
      offset = offset;
      prot = prot;
      inherit = inherit;
    }) past grown late
    (holding header outside past (before header outside (event.Entered task address bytes region offset prot inherit) past grown) h r late
    (second (not (r == region.0) || lives_on h task.0 past) (in_use header h r past) used)))
holding header outside (event.Removed task address bytes ∷ past) grown h r late used =
    let now = event.Removed task address bytes ∷ past in inl (held_of header r now late (first (is_kept header r now) (in_use header h r past) used))
holding header outside (event.TaskEnded task ∷ past) grown h r late used =
    let now = event.TaskEnded task ∷ past in inl (held_of header r now late (first (is_kept header r now) (in_use header h r past) used))
holding header outside (event.Failed task object page ∷ past) grown h r late used =
    let now = event.Failed task object page ∷ past in inl (held_of header r now late (first (is_kept header r now) (in_use header h r past) used))
holding header outside (event.TaskMade made host ∷ past) grown h r late used =
    let was = before header outside (event.TaskMade made host) past grown in
    later header outside r (event.TaskMade made host) past grown refl
    (λ held. inl (made_holding header outside r made host past was grown.orderly.0.1 held)) (holding header outside past was h r late used)
holding header outside (event.Protected task address bytes prot ∷ past) grown h r late used =
    later header outside r (event.Protected task address bytes prot) past grown refl
    (λ held. inl (rows_holding header r task.0 (λ t. protected header.size address bytes prot (entries_of header.size t past))
    (event.Protected task address bytes prot ∷ past) past
    (λ t has. rewritten_has r header.size address bytes (λ row. record row { prot = prot }) (λ row. refl) (entries_of header.size t past)
    (ranged header.size t past grown.orderly.1) has) (λ t. refl) held))
    (holding header outside past (before header outside (event.Protected task address bytes prot) past grown) h r late used)
holding header outside (event.Inherited task address bytes inherit ∷ past) grown h r late used =
    later header outside r (event.Inherited task address bytes inherit) past grown refl
    (λ held. inl (rows_holding header r task.0 (λ t. inherited header.size address bytes inherit (entries_of header.size t past))
    (event.Inherited task address bytes inherit ∷ past) past
    (λ t has. rewritten_has r header.size address bytes (λ row. record row { inherit = inherit }) (λ row. refl) (entries_of header.size t past)
    (ranged header.size t past grown.orderly.1) has) (λ t. refl) held))
    (holding header outside past (before header outside (event.Inherited task address bytes inherit) past grown) h r late used)
holding header outside (event.BegunLoad owner address bytes ∷ past) grown h r late used =
    later header outside r (event.BegunLoad owner address bytes) past grown refl
    (λ held. inl (held_more header.size r (tasks past) (event.BegunLoad owner address bytes ∷ past) past
    (λ t was. holds_if r (has_entry r (entries_of header.size t past)) (owner.0 == t) (Some (Loading address bytes)) (waiting t past) (copy_target t past)
    (at_task r owner.0 t past (fills_none r (waiting owner.0 past) (copy_target owner.0 past) grown.causes.0.1)) was) held))
    (holding header outside past (before header outside (event.BegunLoad owner address bytes) past grown) h r late used)
holding header outside (event.BegunStore owner address bytes value ∷ past) grown h r late used =
    later header outside r (event.BegunStore owner address bytes value) past grown refl
    (λ held. inl (held_more header.size r (tasks past) (event.BegunStore owner address bytes value ∷ past) past
    (λ t was. holds_if r (has_entry r (entries_of header.size t past)) (owner.0 == t) (Some (Storing address bytes value)) (waiting t past) (copy_target t past)
    (at_task r owner.0 t past (fills_none r (waiting owner.0 past) (copy_target owner.0 past) grown.causes.0.1)) was) held))
    (holding header outside past (before header outside (event.BegunStore owner address bytes value) past grown) h r late used)
holding header outside (event.BegunCopy owner address bytes to ∷ past) grown h r late used =
    later header outside r (event.BegunCopy owner address bytes to) past grown refl
    (λ held. inl (held_more header.size r (tasks past) (event.BegunCopy owner address bytes to ∷ past) past
    (λ t was. holds_begun r (has_entry r (entries_of header.size t past)) (owner.0 == t) (Some (Copying address bytes to)) (waiting t past) None
    (copy_target t past)
    (at_task r owner.0 t past (fills_none r (waiting owner.0 past) (copy_target owner.0 past) grown.causes.0.1)) was) held))
    (holding header outside past (before header outside (event.BegunCopy owner address bytes to) past grown) h r late used)
holding header outside (event.Loaded owner object page value ∷ past) grown h r late used =
    later header outside r (event.Loaded owner object page value) past grown refl
    (λ held. inl (held_more header.size r (tasks past) (event.Loaded owner object page value ∷ past) past
    (λ t was. holds_if r (has_entry r (entries_of header.size t past)) (owner.0 == t) None (waiting t past) (copy_target t past)
    (at_task r owner.0 t past (ap (λ (x : Option Access). fills r x (copy_target owner.0 past)) grown.causes.0.1.waits.waits)) was) held))
    (holding header outside past (before header outside (event.Loaded owner object page value) past grown) h r late used)
holding header outside (event.Stored owner object page at bytes value ∷ past) grown h r late used =
    later header outside r (event.Stored owner object page at bytes value) past grown refl
    (λ held. inl (held_more header.size r (tasks past) (event.Stored owner object page at bytes value ∷ past) past
    (λ t was. holds_if r (has_entry r (entries_of header.size t past)) (owner.0 == t) None (waiting t past) (copy_target t past)
    (at_task r owner.0 t past (ap (λ (x : Option Access). fills r x (copy_target owner.0 past)) grown.causes.0.1.waits.waits)) was) held))
    (holding header outside past (before header outside (event.Stored owner object page at bytes value) past grown) h r late used)
holding header outside (event.CopyEnded owner ∷ past) grown h r late used =
    later header outside r (event.CopyEnded owner) past grown refl (λ held. ended_holding header r owner past held)
    (holding header outside past (before header outside (event.CopyEnded owner) past grown) h r late used)
holding header outside (e ∷ past) grown h r late used =
    later header outside r e past grown refl (λ held. inl (held_more header.size r (tasks past) (e ∷ past) past (λ t was. was) held))
    (holding header outside past (before header outside e past grown) h r late used)

-- an access that fails leaves what it did not fill
pub fails_still : (header : Header) (r : ℕ) (owner : TaskId) (object : ObjectId) (page : PageNo) (past : List Event)
    → fills r (waiting owner.0 past) (copy_target owner.0 past) ≡ false → Held header r past → is_kept header r (event.Failed owner object page ∷ past) ≡ true
fails_still header r owner object page past none held =
    or_right (nat_lt r (named header)) (is_held header.size r (tasks past) now) (held_more header.size r (tasks past) now past
    (λ t was. holds_if r (has_entry r (entries_of header.size t past)) (owner.0 == t) None (waiting t past) (copy_target t past) (at_task r owner.0 t past none)
    was) held)
  where
    now : List Event
    now = event.Failed owner object page ∷ past
