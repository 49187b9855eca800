-- What the places of memory that isn't shared cost behind each event inside a step: a request pays for its place, and few events open one.
use Rattle.std.proofs.Common.{ℕ, ◌≡◌, ◌+◌, ◌==◌, ◌&&◌, ◌≤◌, not, Bool, true, false, List, ◌∷◌, Option, None, if◌then◌else◌, ap, sym, refl, subst}
use Rattle.std.proofs.Common.{◌∙◌}
use Rattle.std.proofs.Common.{arith, inl, inr}
use Rattle.std.proofs.lemmas.Bool.{and_parts}
use Rattle.std.proofs.lemmas.Bool.Decides.{nat_tests}
use Rattle.std.specs.Prelude.{is_some, nat_lt}
use Rattle.vm_base.specs.declared.ids.Inherit.{Inherit}
use Rattle.vm_base.specs.declared.ids.ObjectId.{ObjectId}
use Rattle.vm_base.specs.declared.ids.PageNo.{PageNo}
use Rattle.vm_base.specs.declared.ids.Prot.{Prot}
use Rattle.vm_base.specs.declared.ids.RegionId.{RegionId}
use Rattle.vm_base.specs.declared.ids.TaskId.{TaskId}
use Rattle.vm_bound.proofs.MadeObjects.{never_live, only_made}
use Rattle.vm_bound.proofs.Owing.{Follows, inner_weight, is_due}
use Rattle.vm_bound.proofs.Paying.{is_flushed_page}
use Rattle.vm_bound.proofs.PlainChains.{merged_wanted, shadowed_wanted}
use Rattle.vm_bound.proofs.PlainCopies.{CopyFromOne, copied_wanted, entered_wanted, next_copied}
use Rattle.vm_bound.proofs.PlainGone.{changed_costs, completed_costs, dropped_costs, request_weight, returned_costs, terminate_costs, two_at}
use Rattle.vm_bound.proofs.PlainGone.{unlock_costs}
use Rattle.vm_bound.proofs.PlainGone.{weight_opened}
use Rattle.vm_bound.proofs.PlainPlaces.{Costs, Shuts, copy_ended_costs, costs_kept, device_failed_costs, failed_costs, is_later, loaded_costs}
use Rattle.vm_bound.proofs.PlainPlaces.{no_slot_costs}
use Rattle.vm_bound.proofs.PlainPlaces.{opened_live, raised_costs, sent_down_costs, still_if, stored_costs, unmarked_costs, weight_kept}
use Rattle.vm_bound.proofs.PlainPlaces.{weight_two, weight_under}
use Rattle.vm_bound.proofs.PlainPlaces.{zeroed_costs}
use Rattle.vm_legal.proofs.Homes.{on_host, same_some}
use Rattle.vm_legal.specs.Licences.{CopiesPage, HasCause, Shadows, lock_taken}
use Rattle.vm_legal.specs.Merges.{Merges}
use Rattle.vm_legal.specs.Outside.{Outside, is_shared, is_wild}
use Rattle.vm_legal.specs.Steps.{absence_taken}
use Rattle.vm_legal.specs.Walks.{page_on, sight}
use Rattle.vm_bound.specs.Places.{is_open}
use Rattle.vm_model.specs.Controls.{live_control}
use Rattle.vm_model.specs.Homes.{object_home}
use Rattle.vm_model.specs.Local as effect
use Rattle.vm_model.specs.Local.{Elsewhere, Local, LocalEffect, Place, is_on, local, merge_effect}
use Rattle.vm_model.specs.Moments.{EachEvent}
use Rattle.vm_model.specs.Regions.{backing_of, next_object, object_pages}
use Rattle.vm_model.specs.Tasks.{host_of}
use Rattle.vm_model.specs.Waiting.{waiting}
use Rattle.vm_model.specs.declared.event.Event.{Event}
use Rattle.vm_model.specs.declared.event.Event.TheVariants as event
use Rattle.vm_model.specs.declared.message.Channel.TheVariants.{Down, Up}
use Rattle.vm_model.specs.declared.message.Message.TheVariants as message
use Rattle.vm_model.specs.declared.script.Header.{Header}

clash : {A : Type 0} (b : Bool) → b ≡ true → b ≡ false → A
clash b is isnt = absurd (cc)

same_number : (a b : ℕ) → (a == b) ≡ true → a ≡ b
same_number a b is = grind (arith, nat_tests)

-- An object that was never made costs nothing.

dead : (header : Header) (h o p : ℕ) (past : List Event) → live_control h o past ≡ None → is_open (sight header h o p past) ≡ true → ⊥
dead header h o p past none is =
    clash (is_some (live_control h o past)) (opened_live (is_later header o) (page_on header h o p past) (is_some (live_control h o past)) is)
    (ap (λ (x : Option ℕ). is_some x) none)

pub unmade_weight : (header : Header) (outside : Outside) (h o p : ℕ) (past : List Event) → EachEvent (HasCause header outside) past
    → is_wild header o ≡ false → is_shared header o ≡ false → next_object header past ≤ o → inner_weight header h o p past ≤ 0
unmade_weight header outside h o p past caused tame plain high =
    weight_under header h o p 0 past tame plain
    (λ costs. absurd (dead header h o p past ((only_made header outside past caused).controls h o high) costs.opens))

-- Chains that change.

pub shadowed_costs : (header : Header) (outside : Outside) (h o p : ℕ) (region : RegionId) (new old : ObjectId) (past : List Event)
    → EachEvent (HasCause header outside) past → Shadows header region.0 new.0 old.0 past
    → Costs header h o p (event.Shadowed region new old ∷ past) → Costs header h o p past
shadowed_costs header outside h o p region new old past caused c costs =
    costs_kept header h o p (event.Shadowed region new old) past refl refl
    (shadowed_wanted header outside h o p region new old past caused c.next
    (λ same. dead header h o p past ((only_made header outside past caused).controls h o (let next = c.next in omega (arith, same, next))) costs.opens))
    (λ wanted is. is) costs

-- of two objects that are merged a page comes to the upper, or the lower's place is gone
merge_shuts : (upper lower shift upper_pages lower_pages : ℕ) (place : Place) (others : Place → Local) (was : Local) → (place.object ≡ lower → ⊥)
    → Shuts (merge_effect upper lower shift upper_pages lower_pages place others) was
merge_shuts upper lower shift upper_pages lower_pages place others was other = by (place.object == upper)
  where
    moved : Local
    moved = others (record { object = lower; page = shift + place.page })

    up : (a b c : Bool) → Shuts (if a && (b && (moved.here && c)) then effect.Moves moved else Elsewhere) was
    up a b c = comes (a && (b && (moved.here && c))) refl
      where
        comes : (d : Bool) → (a && (b && (moved.here && c))) ≡ d → Shuts (if d then effect.Moves moved else Elsewhere) was
        comes true is = (and_parts moved.here c (and_parts b (moved.here && c) (and_parts a (b && (moved.here && c)) is).1).1).0
        comes false is = tt

    down : (a b : Bool) → (a ≡ true → ⊥) → Shuts (if a && b then effect.Drops else Elsewhere) was
    down true b isnt = absurd (isnt refl)
    down false b isnt = tt

    rises : LocalEffect
    rises = if nat_lt place.page upper_pages && (nat_lt (shift + place.page) lower_pages && (moved.here && not (others place).here)) then effect.Moves moved
        else Elsewhere

    falls : LocalEffect
    falls = if place.object == lower && nat_lt place.page lower_pages then effect.Drops else Elsewhere

    by : (b : Bool) → Shuts (if b then rises else falls) was
    by true = up (nat_lt place.page upper_pages) (nat_lt (shift + place.page) lower_pages) (not (others place).here)
    by false = down (place.object == lower) (nat_lt place.page lower_pages) (λ is. other (same_number place.object lower is))

pub merged_costs : (header : Header) (outside : Outside) (h o p : ℕ) (upper lower : ObjectId) (past : List Event)
    → EachEvent (HasCause header outside) past → Merges header upper.0 lower.0 past
    → Costs header h o p (event.Merged upper lower ∷ past) → Costs header h o p past
merged_costs header outside h o p upper lower past caused c =
    costs_kept header h o p (event.Merged upper lower) past refl refl
    (merged_wanted header outside h o p upper lower past caused c.pair.backed c.pair.under)
    (λ wanted now. still_if header h o p (is_on h (object_home upper.0 past)) merged past
    (λ on. merge_shuts upper.0 lower.0 (backing_of header upper.0 past).shift (object_pages header upper.0 past) (object_pages header lower.0 past)
    (record { object = o; page = p }) (λ source. local header h source past) (page_on header h o p past)
    (λ same. clash (is_some (live_control h o past))
    (opened_live (is_later header o) (page_on header h o p (event.Merged upper lower ∷ past)) (is_some (live_control h o past)) now)
    (ap (λ (x : Option ℕ). is_some x) (none on same)))) now)
  where
    merged : LocalEffect
    merged =
        merge_effect upper.0 lower.0 (backing_of header upper.0 past).shift (object_pages header upper.0 past) (object_pages header lower.0 past)
        (record { object = o; page = p }) (λ source. local header h source past)

    none : is_on h (object_home upper.0 past) ≡ true → o ≡ lower.0 → live_control h o past ≡ None
    none on same =
        let host_is : c.host ≡ h = same_some c.host h (sym c.home ∙ on_host h (object_home upper.0 past) on) in
        subst (λ (k : ℕ). live_control k o past ≡ None) host_is
        (subst (λ (k : ℕ). live_control c.host k past ≡ None) (sym same) (never_live header outside past caused c.host lower.0 c.pair.lower_never))

-- Entries and slow copies.

pub entered_costs : (header : Header) (outside : Outside) (h o p : ℕ) (owner : TaskId) (address bytes : ℕ) (region : RegionId) (offset : ℕ) (prot : Prot)
    (inherit : Inherit) (past : List Event) → EachEvent (HasCause header outside) past → waiting owner.0 past ≡ None
    → Costs header h o p (event.Entered owner address bytes region offset prot inherit ∷ past) → Costs header h o p past
entered_costs header outside h o p owner address bytes region offset prot inherit past caused idle =
    costs_kept header h o p (event.Entered owner address bytes region offset prot inherit) past refl refl
    (entered_wanted header outside h o p owner address bytes region offset prot inherit past caused idle) (λ wanted is. is)

-- the place of the next page of a slow copy may cost something
pub copied_weight : (header : Header) (outside : Outside) (h o p : ℕ) (task : TaskId) (page : PageNo) (object : ObjectId) (object_page : PageNo)
    (target : ObjectId) (past : List Event) → EachEvent (HasCause header outside) past → CopyFromOne header past
    → CopiesPage header task.0 page.0 object.0 object_page.0 target.0 past → is_wild header o ≡ false → is_shared header o ≡ false
    → inner_weight header h o p (event.CopiedPage task page object object_page target ∷ past)
    ≤ inner_weight header h o p past + (if is_on h (host_of task.0 past) && (object.0 == o && next_copied header task.0 page.0 past == p) then 2 else 0)
copied_weight header outside h o p task page object object_page target past caused one c tame plain =
    weight_under header h o p _ (event.CopiedPage task page object object_page target ∷ past) tame plain
    (λ costs. elim (copied_wanted header outside h o p task page object object_page target past caused one c costs.wanted) [
      | inl was ↦ more _ (weight_two header h o p past tame plain
          (costs_kept header h o p (event.CopiedPage task page object object_page target) past refl refl (λ now. was)
          (λ wanted. still_if header h o p (is_on h (host_of task.0 past) && (target.0 == o && page.0 == p))
          (effect.Raises (page_on header h object.0 object_page.0 past).bytes) past (λ is. tt)) costs))
      | inr is ↦ next (is_on h (host_of task.0 past) && (object.0 == o && next_copied header task.0 page.0 past == p)) is
    ])
  where
    more : (n : ℕ) → 2 ≤ inner_weight header h o p past → 2 ≤ inner_weight header h o p past + n
    more n two = omega (arith, two)

    next : (b : Bool) → b ≡ true → 2 ≤ inner_weight header h o p past + (if b then 2 else 0)
    next true is = omega arith
    next false is = absurd (let bad : false ≡ true = is in cc)

-- The law.

plain_kept : (header : Header) (h o p : ℕ) (now past : List Event) → is_wild header o ≡ false → is_shared header o ≡ false
    → (Costs header h o p now → Costs header h o p past) → inner_weight header h o p now + 0 ≤ inner_weight header h o p past + 0
plain_kept header h o p now past tame plain kept = let less = weight_kept header h o p now past tame plain kept in omega (arith, less)

-- what a request pays at its place
abbrev pub plain_pays : Event → ℕ → ℕ → ℕ → ℕ
plain_pays (event.Sent (Up host object) (message.Request control page access)) h o p = two_at host.0 object.0 page.0 h o p
plain_pays other h o p = 0

-- what a place costs anew that a flush takes away, or that a slow copy goes on to
abbrev pub plain_opens : Header → Event → List Event → ℕ → ℕ → ℕ → ℕ
plain_opens header (event.Sent (Up host object) (message.Return control page dirty keep bytes)) past h o p =
    if is_flushed_page host.0 object.0 page.0 (lock_taken past) then two_at host.0 object.0 page.0 h o p else 0
plain_opens header (event.Dropped host object page) past h o p =
    if is_flushed_page host.0 object.0 page.0 (lock_taken past) then two_at host.0 object.0 page.0 h o p else 0
plain_opens header (event.CopiedPage task page object object_page target) past h o p =
    if is_on h (host_of task.0 past) && (object.0 == o && next_copied header task.0 page.0 past == p) then 2 else 0
plain_opens header other past h o p = 0

-- of memory that isn't shared no page is asked for where zeros are to come in the step
abbrev pub AsksUndue : Header → Event → List Event → Type 0
AsksUndue header (event.Sent (Up host object) (message.Request control page access)) past =
    is_shared header object.0 ≡ false → is_due header host.0 object.0 page.0 (absence_taken header past) past ≡ false
AsksUndue header other past = Unit {0}

-- no place costs more, but those that the event opens; and that of a request costs 2 less
pub plain_law : (header : Header) (outside : Outside) (count h o p : ℕ) (e : Event) (past : List Event) → Follows header outside count e past
    → CopyFromOne header past → AsksUndue header e past → is_wild header o ≡ false → is_shared header o ≡ false
    → inner_weight header h o p (e ∷ past) + plain_pays e h o p ≤ inner_weight header h o p past + plain_opens header e past h o p
plain_law header outside count h o p (event.Loaded task object page value) past f one undue tame plain =
    plain_kept header h o p _ past tame plain (loaded_costs header h o p task object page value past)
plain_law header outside count h o p (event.Stored task object page at size value) past f one undue tame plain =
    plain_kept header h o p _ past tame plain (stored_costs header h o p task object page at size value past)
plain_law header outside count h o p (event.CopyEnded task) past f one undue tame plain =
    plain_kept header h o p _ past tame plain (copy_ended_costs header h o p task past)
plain_law header outside count h o p (event.Failed task object page) past f one undue tame plain =
    plain_kept header h o p _ past tame plain (failed_costs header h o p task object page past)
plain_law header outside count h o p (event.CopiedPage task page object object_page target) past f one undue tame plain =
    let less = copied_weight header outside h o p task page object object_page target past f.causes one f.licensed.0 tame plain in omega (arith, less)
plain_law header outside count h o p (event.Entered owner address bytes region offset prot inherit) past f one undue tame plain =
    plain_kept header h o p _ past tame plain
    (entered_costs header outside h o p owner address bytes region offset prot inherit past f.causes f.licensed.0.idle)
plain_law header outside count h o p (event.Shadowed region new old) past f one undue tame plain =
    plain_kept header h o p _ past tame plain (shadowed_costs header outside h o p region new old past f.causes f.licensed.0)
plain_law header outside count h o p (event.Unmarked region) past f one undue tame plain =
    plain_kept header h o p _ past tame plain (unmarked_costs header h o p region past)
plain_law header outside count h o p (event.Merged upper lower) past f one undue tame plain =
    plain_kept header h o p _ past tame plain (merged_costs header outside h o p upper lower past f.causes f.licensed.0)
plain_law header outside count h o p (event.Zeroed host object page) past f one undue tame plain =
    plain_kept header h o p _ past tame plain (zeroed_costs header h o p host object page past f.licensed.0)
plain_law header outside count h o p (event.Raised host lower lower_page upper upper_page) past f one undue tame plain =
    plain_kept header h o p _ past tame plain (raised_costs header h o p host lower lower_page upper upper_page past)
plain_law header outside count h o p (event.Dropped host object page) past f one undue tame plain =
    let less = weight_opened header h o p (event.Dropped host object page ∷ past) past (is_flushed_page host.0 object.0 page.0 (lock_taken past))
    (host.0 == h && (object.0 == o && page.0 == p)) tame plain (λ apart. dropped_costs header outside count h o p host object page past f tame apart) in
    omega (arith, less)
plain_law header outside count h o p (event.DeviceFailed who way object page) past f one undue tame plain =
    plain_kept header h o p _ past tame plain (device_failed_costs header h o p who way object page past)
plain_law header outside count h o p (event.NoSlot object page) past f one undue tame plain =
    plain_kept header h o p _ past tame plain (no_slot_costs header h o p object page past)
plain_law header outside count h o p (event.Sent (Down host object control) m) past f one undue tame plain =
    plain_kept header h o p _ past tame plain (sent_down_costs header h o p host object control m past)
plain_law header outside count h o p (event.Sent (Up host object) (message.Request control page access)) past f one undue tame plain =
    let less = request_weight header outside h o p host object control page access past f.causes f.hosts.1 f.licensed.0 undue tame plain in omega (arith, less)
plain_law header outside count h o p (event.Sent (Up host object) (message.Return control page dirty keep bytes)) past f one undue tame plain =
    let less = weight_opened header h o p (event.Sent (Up host object) (message.Return control page dirty keep bytes) ∷ past) past
    (is_flushed_page host.0 object.0 page.0 (lock_taken past)) (host.0 == h && (object.0 == o && page.0 == p)) tame plain
    (λ apart. returned_costs header outside count h o p host object control page dirty keep bytes past f apart) in
    omega (arith, less)
plain_law header outside count h o p (event.Sent (Up host object) (message.Unlock control page access)) past f one undue tame plain =
    plain_kept header h o p _ past tame plain (unlock_costs header h o p host object control page access past)
plain_law header outside count h o p (event.Sent (Up host object) (message.Completed control page pages)) past f one undue tame plain =
    plain_kept header h o p _ past tame plain (completed_costs header h o p host object control page pages past)
plain_law header outside count h o p (event.Sent (Up host object) (message.Changed control cache strategy)) past f one undue tame plain =
    plain_kept header h o p _ past tame plain (changed_costs header h o p host object control cache strategy past)
plain_law header outside count h o p (event.Sent (Up host object) (message.Terminate control)) past f one undue tame plain =
    plain_kept header h o p _ past tame plain (terminate_costs header h o p host object control past f.licensed.0.live)
plain_law header outside count h o p (event.Sent (Up host object) (message.Init control size)) past f one undue tame plain = absurd f.may.1
plain_law header outside count h o p (event.Sent (Up host object) (message.Create control size)) past f one undue tame plain = absurd f.creates
plain_law header outside count h o p (event.Sent (Up host object) m) past f one undue tame plain = absurd f.licensed.0
plain_law header outside count h o p (event.Taken channel m) past f one undue tame plain = absurd f.inner
plain_law header outside count h o p e past f one undue tame plain = absurd f.may.0
