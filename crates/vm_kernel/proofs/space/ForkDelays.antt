-- An entry of a forked task that is on a file and is copied: the child gets one on a delayed copy.
use Rattle.vm_kernel.proofs.Common.{AreEntries, EachOf, Entry, Event, Header, Ids, List, Outside, Parts, Plays, QueueIsStill, RunsNone, Some, TaskId, Works, []}
use Rattle.vm_kernel.proofs.Common.{ap, arith, copies, drop, false, got, length, paging}
use Rattle.vm_kernel.proofs.Common.{if◌then◌else◌, is_copied, named, nat_tests, next_object, next_region, refl, slice_get, subst, sym, true, ℕ, ◌++◌}
use Rattle.vm_kernel.proofs.Common.{◌+◌, ◌/◌, ◌<◌, ◌∙◌, ◌∷◌, ◌≡◌, ◌≤◌}
use Rattle.std.proofs.Common.{nat_lt}
use Rattle.std.specs.Prelude.{Bool}
use Rattle.vm_base.specs.declared.ids.Inherit.TheVariants as inherit
use Rattle.vm_base.specs.declared.ids.ObjectId.{ObjectId}
use Rattle.vm_base.specs.declared.ids.RegionId.{RegionId}
use Rattle.vm_kernel.proofs.space.ChildEntries.{told_next}
use Rattle.vm_kernel.proofs.space.ForkShares.{HasForked, forked, gave_next, is_next, leads_next, left_next, room_next}
use Rattle.vm_kernel.proofs.space.RegionDelayed.{MayDelay, heads_delayed, told_delayed, works_delayed}
use Rattle.vm_kernel.proofs.steps.RoomOfFork.{HasRoom, room_delayed, room_more}
use Rattle.vm_kernel.proofs.lists.ListsAsTold.{lists_same, plays_both, plays_told}
use Rattle.vm_supply.specs.declared.woken.Woken.TheVariants as woken
use Rattle.vm_kernel.specs.Delaying.{EntersDelayed, delayed}
use Rattle.vm_kernel.specs.Forking.{entry_on}
use Rattle.vm_legal.specs.Follows.{copied_late, inherits, next_behind, object_behind}
use Rattle.vm_legal.specs.Outside.{is_file}
use Rattle.vm_model.specs.Tasks.{copies_below}
use Rattle.vm_model.specs.declared.command.Command.TheVariants as command

-- the next entry may be copied, if it is on a declared region: that is a file's
pub may_delay : (header : Header) (h : ℕ) (outside : Outside) (task child : TaskId) (rows : List Entry) (i : ℕ) (row : Entry) (past : List Event) (k : Parts)
    (ids : Ids) (events : List Event) → HasForked header h outside task child rows i past k ids events
    → AreEntries k.maps.size rows → slice_get rows i ≡ Some row → row.inherit ≡ inherit.Copy → row.region.0 < named header
    → MayDelay header child.0 row.region row.offset row (events ++ past) k
may_delay header h outside task child rows i row past k ids events f sound found is declared =
    let before = events ++ past in
    let rest = drop (i + 1) rows in
    let next = is_next header h outside task child rows i row past k ids events f sound found in
    let leads = leads_next header h outside task child rows i row past k ids events f sound found in
    let low : nat_lt row.region.0 (named header) ≡ true = grind (arith, nat_tests) in
    let room : HasRoom header (row ∷ rest) before = room_next f found in
    let count : copies (row ∷ rest) ≡ copies rest + 1 = rw (ap is_copied is) refl in
    let below : copies_below (named header) (row ∷ rest) ≡ copies_below (named header) rest + 1 = rw (ap is_copied is, low) refl in
    record {
      lives = f.lives;
      idle = f.idle;
      free = next.free;
      pages = leads.pages;
      region = leads.region;
      there = leads.there;
      counted = leads.counted;
      file = by (is_file header row.region.0) refl (next.shared declared);
      inside = leads.inside;
      regions = omega (arith, room.regions, count);
      objects = omega (arith, room.objects, count, below);
      from = leads.from;
    }
  where
    by : (b : Bool) → is_file header row.region.0 ≡ b → (is_file header row.region.0 ≡ false → row.inherit ≡ inherit.Copy → ⊥)
        → is_file header row.region.0 ≡ true
    by true file shared = file
    by false other shared = absurd (shared other is)

-- an entry more was copied so
pub fork_delayed : (header : Header) (h : ℕ) (outside : Outside) (task child : TaskId) (rows : List Entry) (i : ℕ) (row : Entry) (past : List Event)
    (k k2 : Parts) (ids ids2 : Ids) (events after : List Event) → HasForked header h outside task child rows i past k ids events
    → AreEntries k.maps.size rows → slice_get rows i ≡ Some row → row.inherit ≡ inherit.Copy → row.region.0 < named header
    → EntersDelayed child row.region row.offset row k k2 ids ids2 events after → HasForked header h outside task child rows (i + 1) past k2 ids2 after
fork_delayed header h outside task child rows i row past k k2 ids ids2 events after f sound found is declared s =
    let m = f.works.matches in
    let doing = command.Fork task child in
    let before = events ++ past in
    let pages = row.bytes / header.size in
    let new = entry_on row s.region in
    let rest = drop (i + 1) rows in
    let one : Event = delayed s.region row.region row.offset pages s.copy in
    let e = got child new in
    let next = is_next header h outside task child rows i row past k ids events f sound found in
    let may = may_delay header h outside task child rows i row past k ids events f sound found is declared in
    let number : s.region.0 ≡ next_region header before = s.number ∙ m.core.objects.regions.region in
    let object : s.copy.0 ≡ next_object header before = s.object ∙ m.core.objects.regions.object in
    let named_region : record { 0 = ids.next_region } ≡ s.region = λ j. record { 0 = sym s.number j } in
    let named_copy : record { 0 = ids.next_object } ≡ s.copy = λ j. record { 0 = sym s.object j } in
    let low : nat_lt row.region.0 (named header) ≡ true = grind (arith, nat_tests) in
    let told = told_next header child ids.next_region ids2.next_region ids.next_object ids2.next_object row rest (forked header h child rows past)
    (one ∷ e ∷ []) events (e ∷ one ∷ events)
    (ap (λ z. inherits z header child ids.next_region ids.next_object row) is
    ∙ (ap (λ b. copied_late b ids.next_region ids.next_object row.region row.offset pages ∷ got child (entry_on row (record { 0 = ids.next_region })) ∷ []) low
    ∙ (ap (λ (z : RegionId). delayed z row.region row.offset pages (record { 0 = ids.next_object }) ∷ got child (entry_on row z) ∷ []) named_region
    ∙ ap (λ (z : ObjectId). delayed s.region row.region row.offset pages z ∷ got child new ∷ []) named_copy)))
    (ap (λ z. next_behind z ids.next_region) is ∙ sym (ap (λ z. z.next_region) s.ids))
    (ap (λ z. object_behind z header row.region ids.next_object) is ∙ (ap (λ b. if b then ids.next_object + 1 else ids.next_object) low
    ∙ sym (ap (λ z. z.next_object) s.ids)))
    (left_next f found) refl in
    subst (λ (z : List Event). HasForked header h outside task child rows (i + 1) past k2 ids2 z)
    (sym (told_delayed header h child row.region row.offset row before k k2 ids ids2 events after f.works s))
    (gave_next row new f next refl refl s.maps
    (works_delayed header h outside doing child row.region row.offset row before k k2 ids ids2 events after f.works may s)
    (heads_delayed header h outside doing child s.region row.region s.copy row.offset row past events k ids f.works may number object f.heads) f.idle
    (room_more header rest (one ∷ before) (e ∷ one ∷ before) refl refl (λ r. refl)
    (room_delayed header row rest before s.region pages s.copy (ap is_copied is) declared number
    (room_next f found)))
    told)

-- the code tells the declared regions by the number of declared objects

pub declared_source : {header : Header} {h : ℕ} {k : Parts} {ids : Ids} {past : List Event} {count source : ℕ} → Works header h k ids woken.Nobody past
    → count ≡ length k.declared.items → source < count → source < named header
declared_source works count less = let all = ap length works.matches.core.setting.objects in omega (arith, count, less, all)

pub temporary_source : {header : Header} {h : ℕ} {k : Parts} {ids : Ids} {past : List Event} {count source : ℕ} → Works header h k ids woken.Nobody past
    → count ≡ length k.declared.items → count ≤ source → named header ≤ source
temporary_source works count least = let all = ap length works.matches.core.setting.objects in omega (arith, count, least, all)

-- nobody has run where a delayed copy is made, and no page has moved

pub delayed_quiet : {task : TaskId} {source : RegionId} {offset : ℕ} {range : Entry} {old new : Parts} {ids ids2 : Ids} {before after : List Event}
    → EntersDelayed task source offset range old new ids ids2 before after → QueueIsStill old.waits.queue new.waits.queue before after
delayed_quiet entered = record { queue = entered.waits.queue; none = λ all. subst (EachOf RunsNone) (sym entered.told) (tt, (tt, all)) }

pub delayed_plays : {header : Header} {past : List Event} {task : TaskId} {source : RegionId} {offset : ℕ} {range : Entry} {old new : Parts} {ids ids2 : Ids}
    {before after : List Event} → EntersDelayed task source offset range old new ids ids2 before after
    → Plays header past before (paging old) after (paging new)
delayed_plays {old = old} {new = new} entered =
    plays_both (plays_told refl refl) (plays_told entered.told (lists_same old new (ap (λ z. z.resident) entered.memory)
    (ap (λ z. z.queues) entered.memory)))
