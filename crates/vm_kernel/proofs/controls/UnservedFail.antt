-- Accesses on an object without a control fail, the oldest first.
use Rattle.vm_kernel.proofs.Common.{Bool, Event, Header, List, None, Option, PageKey, Parts, PutsEntry, Some, TaskId, Waiting, ap, arith, begun_at, entry}
use Rattle.vm_kernel.proofs.Common.{eqb_tells, false, if◌then◌else◌, inl, inr, length, nat_lt, not, or_true, since, some_is, sym, true, ℕ, ◌&&◌, ◌==◌, ◌||◌}
use Rattle.vm_kernel.proofs.Common.{◌∙◌, ◌∷◌, ◌≡◌}
use Rattle.std.proofs.lemmas.Option.{none-some}
use Rattle.vm_base.specs.Listing.{Listed}
use Rattle.vm_kernel.proofs.memory.PagesShown.{itself}
use Rattle.vm_kernel.proofs.steps.FramesInTurn.{again_other}
use Rattle.vm_kernel.proofs.steps.RowsInOrder.{oldest_first}
use Rattle.vm_kernel.specs.Destroying.{AllUnserved, FailsOnly, HaveFallen, StandOrFell, is_on, is_place_on, place_led, unserved, unserved_at}
use Rattle.vm_kernel.specs.Matches.{HasOrder}
use Rattle.vm_kernel.specs.Rooms.{Spends}
use Rattle.vm_legal.specs.InTurn.{FallsInTurn}
use Rattle.vm_legal.specs.Steps.{fails_of}
use Rattle.vm_maps.specs.declared.place.Place.{Place}
use Rattle.vm_model.specs.declared.event.Event.TheVariants as event
use Rattle.vm_objects.specs.Objects.{object_at}
use Rattle.vm_state.specs.References.{is_live_in}
use Rattle.vm_waits.proofs.Entries.{none_again, puts_elsewhere, puts_here}
use Rattle.vm_waits.proofs.Lines.{same_others}
use Rattle.vm_waits.specs.Kept.{AreQueued}
use Rattle.vm_waits.specs.Waits.{count_again, is_again, oldest_row, queue_without, waits_for_frame}

-- the page is of the object on which the access is
unserved_on : (k : Parts) (object : ℕ) (w : Waiting) (key : PageKey) → unserved k w ≡ Some key → is_on k.maps object w ≡ true → key.object.0 ≡ object
unserved_on k object w key is on_it = by (place_led k.maps w.task.0 w.want) is on_it
  where
    of_place : (place : Place) (b : Bool)
        → (if b then Some (record { object = record { 0 = place.region.0 }; page = place.page }) else None) ≡ Some key → key.object.0 ≡ place.region.0
    of_place place true told =
        ap (λ (z : PageKey). z.object.0) (sym (some_is (record { object = record { 0 = place.region.0 }; page = place.page }) key told))
    of_place place false told = absurd (let bad : None ≡ Some key = told in cc)

    by : (x : Option Place) → unserved_at k x ≡ Some key → is_place_on object x ≡ true → key.object.0 ≡ object
    by None told here = absurd (let bad : false ≡ true = here in cc)
    by (Some place) told here =
        of_place place (nat_lt place.region.0 (length k.declared.items) && not (is_live_in (object_at k.memory.objects place.region.0))) told
        ∙ elim (eqb_tells place.region.0 object) [
          | inl same ↦ same.1
          | inr apart ↦ absurd (let bad : false ≡ true = sym apart.0 ∙ here in cc)
        ]

-- who began earlier has failed
pub falls_in_turn : (header : Header) (k : Parts) (past : List Event) (w : Waiting) (object : ℕ) → StandOrFell header k past → HasOrder k past
    → oldest_row is_again k.waits.rows ≡ Some w → FallsInTurn header w.task.0 object past
falls_in_turn header k past w object standing order oldest = λ host other access waits taken on_host region earlier.
    elim (standing host object other access waits taken on_host region) [
      | inl stands ↦ elim (eqb_tells w.task.0 other) [
        | inl same ↦ absurd (let one = ap (λ (t : ℕ). begun_at t past) same.1 in omega (arith, one, earlier))
        | inr apart ↦
            let first = oldest_first (λ (t : ℕ). begun_at t past) is_again 0 other k.waits.rows w stands.row order oldest stands.is stands.again apart.1 in
            absurd (omega (arith, first, earlier))
      ]
      | inr fell ↦ fell
    ]

-- when one has failed the others are on such an object still
pub unserved_left : (k new : Parts) (task : ℕ) → AllUnserved k → new ≡ record k { waits = new.waits } → PutsEntry task None k.waits.rows new.waits.rows
    → AllUnserved new
unserved_left k new task were same puts = λ t w is again. elim (eqb_tells task t) [
  | inl here ↦ absurd (none-some w (sym (puts_here task None k.waits.rows new.waits.rows puts) ∙ (ap (entry new.waits.rows) here.1 ∙ is)))
  | inr apart ↦
      let was = were t w (sym (puts_elsewhere task t None k.waits.rows new.waits.rows puts apart.1) ∙ is) again in
      (was.0, ap (λ (z : Parts). unserved z w) same ∙ was.1)
]

-- and it has failed
failed_now : (task : TaskId) (key : PageKey) (t object : ℕ) (past : List Event) → task.0 ≡ t → key.object.0 ≡ object
    → since (fails_of t object) (event.Failed task key.object key.page ∷ past) ≡ true
failed_now task key t object past same of =
    let one : (task.0 == t) ≡ true = ap (λ (n : ℕ). n == t) same ∙ itself t in
    let two : (key.object.0 == object) ≡ true = ap (λ (n : ℕ). n == object) of ∙ itself object in
    ap (λ (b : Bool). b && (key.object.0 == object) || since (fails_of t object) past) one
    ∙ ap (λ (b : Bool). b || since (fails_of t object) past) two

pub standing_left : (header : Header) (k new : Parts) (past : List Event) (w : Waiting) (key : PageKey) → StandOrFell header k past
    → new ≡ record k { waits = new.waits } → PutsEntry w.task.0 None k.waits.rows new.waits.rows → entry k.waits.rows w.task.0 ≡ Some w
    → unserved k w ≡ Some key → StandOrFell header new (event.Failed w.task key.object key.page ∷ past)
standing_left header k new past w key standing same puts is told = λ host object task access waits taken on_host region.
    elim (standing host object task access waits taken on_host region) [
      | inl stands ↦ elim (eqb_tells w.task.0 task) [
        | inl here ↦
            let it : w ≡ stands.row = some_is w stands.row (sym is ∙ (ap (entry k.waits.rows) here.1 ∙ stands.is)) in
            inr (failed_now w.task key task object past here.1 (unserved_on k object w key told (ap (is_on k.maps object) it ∙ stands.over)))
        | inr apart ↦
            inl (record {
              row = stands.row;
              is = puts_elsewhere w.task.0 task None k.waits.rows new.waits.rows puts apart.1 ∙ stands.is;
              over = ap (λ (z : Parts). is_on z.maps object stands.row) same ∙ stands.over;
              again = stands.again;
            })
      ]
      | inr fell ↦ inr (or_true (fails_of task object (event.Failed w.task key.object key.page)) (since (fails_of task object) past) fell)
    ]

-- when none is to be run again all have
pub have_fallen : (header : Header) (k : Parts) (past : List Event) → StandOrFell header k past → count_again k.waits.rows ≡ 0 → HaveFallen header past
have_fallen header k past standing none = λ host object task access waits taken on_host region.
    elim (standing host object task access waits taken on_host region) [
      | inl stands ↦ absurd (let bad : true ≡ false = sym stands.again ∙ none_again k.waits.rows task stands.row none stands.is in cc)
      | inr fell ↦ fell
    ]

-- whoever is to be run again doesn't queue
pub queue_kept : (rows : List Waiting) (queue new : List TaskId) (w : Waiting) → AreQueued rows queue → entry rows w.task.0 ≡ Some w → is_again w.on ≡ true
    → new ≡ queue_without w.task.0 queue → new ≡ queue
queue_kept rows queue new w line is again left =
    left ∙ same_others w.task.0 queue (line.listed w.task.0 ∙ (ap waits_for_frame is ∙ again_other w.on again))

pub fails_more : (old new after : List Event) (task : TaskId) (key : PageKey) → FailsOnly old new → after ≡ event.Failed task key.object key.page ∷ new
    → FailsOnly old after
fails_more old new after task key only told =
    record {
      more = event.Failed task key.object key.page ∷ only.more;
      is = told ∙ ap (λ (z : List Event). event.Failed task key.object key.page ∷ z) only.is;
      each = (tt, only.each);
    }

-- what is in hand and left is so much less
pub spends_level : (n : ℕ) (old new : Parts) (before after : Listed Event) → Spends n 0 n old before new after → Spends 0 0 0 old before new after
spends_level n old new before after is =
    record { told = omega (arith, is.told); room = omega (arith, is.room); rows = is.rows; shadows = is.shadows; objects = is.objects; copies = is.copies }
