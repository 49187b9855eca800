-- A place of which the pager said that there is no such page, and that is asked again before zeros come: the step can't end so.
use Rattle.std.proofs.Common.{ℕ, ◌≡◌, ◌<◌, List, ◌∷◌, Bool, true, false, Option, None, Some, inl, inr, refl, sym, ap, subst, ◌∙◌, arith, if◌then◌else◌}
use Rattle.std.proofs.lemmas.Bool.Decides.{nat_tests}
use Rattle.std.specs.Prelude.{◌==◌, ◌&&◌, ◌||◌}
use Rattle.vm_base.specs.declared.ids.HostId.{HostId}
use Rattle.vm_base.specs.declared.ids.ObjectId.{ObjectId}
use Rattle.vm_bound.proofs.Owing.{Follows}
use Rattle.vm_bound.proofs.Paying.{CreatesNone}
use Rattle.vm_bound.specs.Settles.{MayCome}
use Rattle.vm_legal.specs.Debts.{IsPaid}
use Rattle.vm_legal.specs.Licences.{Bottoms, Destroyed, EndCause, Fills, Unheld, Unreachable, zeroes}
use Rattle.vm_legal.specs.Outside.{Outside, is_wild}
use Rattle.vm_legal.specs.Steps.{Asked, absence_taken, since}
use Rattle.vm_legal.specs.Stretches.{IsInner}
use Rattle.vm_legal.specs.Walks.{page_on}
use Rattle.vm_model.specs.Controls.{is_control, live_control}
use Rattle.vm_model.specs.Homes.{object_home}
use Rattle.vm_model.specs.Local.{Asks, Begins, Drops, Elsewhere, Ends as EndsHere, Local, LocalEffect, Moves, Place, Raises, Returns, Stores, TakesError, TakesLock}
use Rattle.vm_model.specs.Local.{TakesNothing, TakesPage, Unlocks, Zeroes, effect, is_on, is_place, local, local_after, merge_effect, sent_effect}
use Rattle.vm_model.specs.Named.{named}
use Rattle.vm_model.specs.Regions.{backing_of, object_pages}
use Rattle.vm_model.specs.Tasks.{host_of}
use Rattle.vm_model.specs.declared.event.Event.{Event}
use Rattle.vm_model.specs.declared.event.Event.TheVariants as event
use Rattle.vm_model.specs.declared.message.Channel.TheVariants.{Up}
use Rattle.vm_model.specs.declared.message.Message.{Message}
use Rattle.vm_model.specs.declared.message.Message.TheVariants as message
use Rattle.vm_model.specs.declared.script.Header.{Header}

pub record IsDoomed (header : Header) (past : List Event) : Type 0 where
  pub host : ℕ
  pub object : ℕ
  pub page : ℕ
  pub void : absence_taken header past ≡ Some (record { host = host; object = object; page = page })
  pub declared : object < named header
  pub supplied : is_wild header object ≡ false
  pub unzeroed : since (zeroes object page) past ≡ false
  pub asked : (page_on header host object page past).asked ≡ true

-- What leaves a page asked.

abbrev leaves_asked : LocalEffect → Bool
leaves_asked (TakesPage lock precious bytes) = false
leaves_asked TakesNothing = false
leaves_asked TakesError = false
leaves_asked Begins = false
leaves_asked EndsHere = false
leaves_asked other = true

asked_after : (size : ℕ) (e : LocalEffect) (was : Local) → leaves_asked e ≡ true → was.asked ≡ true → (local_after size e was).asked ≡ true
asked_after size Zeroes was leaves is = is
asked_after size (Raises bytes) was leaves is = is
asked_after size (Stores at bytes) was leaves is = is
asked_after size Drops was leaves is = is
asked_after size (Moves page) was leaves is = is
asked_after size (Returns true) was leaves is = is
asked_after size (Returns false) was leaves is = is
asked_after size Asks was leaves is = refl
asked_after size Unlocks was leaves is = is
asked_after size (TakesPage lock precious bytes) was leaves is = absurd (let bad : false ≡ true = leaves in cc)
asked_after size TakesNothing was leaves is = absurd (let bad : false ≡ true = leaves in cc)
asked_after size TakesError was leaves is = absurd (let bad : false ≡ true = leaves in cc)
asked_after size (TakesLock lock flush) was leaves is = by was.here
  where
    by : (b : Bool) → (if b then record was { lock = if flush || lock == 8 then was.lock else lock; unlocking = false } else was).asked ≡ true
    by true = is
    by false = is
asked_after size Begins was leaves is = absurd (let bad : false ≡ true = leaves in cc)
asked_after size EndsHere was leaves is = absurd (let bad : false ≡ true = leaves in cc)
asked_after size Elsewhere was leaves is = is

either_leaves : (b : Bool) (e : LocalEffect) → leaves_asked e ≡ true → leaves_asked (if b then e else Elsewhere) ≡ true
either_leaves true e leaves = leaves
either_leaves false e leaves = refl

-- what a host sends leaves it asked, but what begins or ends a control
sent_leaves : (header : Header) (n page : ℕ) (live : Option ℕ) (host : HostId) (object : ObjectId) (m : Message) (past : List Event)
    → MayCome (event.Sent (Up host object) m) past → CreatesNone (event.Sent (Up host object) m)
    → ((control : ℕ) → m ≡ message.Terminate control → ⊥) → leaves_asked (sent_effect page live m) ≡ true
sent_leaves header n page live host object (message.Init control size) past may creates ends = absurd may.1
sent_leaves header n page live host object (message.Create control size) past may creates ends = absurd creates
sent_leaves header n page live host object (message.Terminate control) past may creates ends = absurd (ends control refl)
sent_leaves header n page live host object (message.Request control at access) past may creates ends =
    either_leaves (at.0 == page && is_control control live) Asks refl
sent_leaves header n page live host object (message.Unlock control at access) past may creates ends = either_leaves (at.0 == page) Unlocks refl
sent_leaves header n page live host object (message.Return control at dirty keep bytes) past may creates ends = either_leaves (at.0 == page) (Returns keep) refl
sent_leaves header n page live host object m past may creates ends = refl

merge_leaves : (upper lower shift upper_pages lower_pages : ℕ) (place : Place) (others : Place → Local)
    → leaves_asked (merge_effect upper lower shift upper_pages lower_pages place others) ≡ true
merge_leaves upper lower shift upper_pages lower_pages place others = grind arith

-- the end of a control ends nothing that is asked, but by the pager of a wild object
end_leaves : (header : Header) (outside : Outside) (n h o p : ℕ) (host : HostId) (object : ObjectId) (control : ℕ) (past : List Event)
    → Follows header outside n (event.Sent (Up host object) (message.Terminate control)) past → o < named header → is_wild header o ≡ false
    → (page_on header h o p past).asked ≡ true
    → leaves_asked (if host.0 == h && object.0 == o then sent_effect p (live_control h o past) (message.Terminate control) else Elsewhere) ≡ true
end_leaves header outside n h o p host object control past follows declared supplied asked = by (host.0 == h) refl (object.0 == o) refl
  where
    same : (a b : ℕ) → (a == b) ≡ true → a ≡ b
    same a b is = grind (arith, nat_tests)

    never : host.0 ≡ h → object.0 ≡ o → EndCause header host.0 object.0 past → ⊥
    never first second (Unreachable temporary unreached unasked) = omega (arith, temporary, declared, second)
    never first second (Unheld below unheld unasked) =
        let none : (page_on header h o p past).asked ≡ false =
        subst (λ (k : ℕ). (page_on header k o p past).asked ≡ false) first
        (subst (λ (k : ℕ). (page_on header host.0 k p past).asked ≡ false) second (unasked p)) in
        let bad : true ≡ false = sym asked ∙ none in
        cc
    never first second (Destroyed destroyed) =
        let wild : is_wild header o ≡ true = subst (λ (k : ℕ). is_wild header k ≡ true) second destroyed.wild in
        let bad : true ≡ false = sym wild ∙ supplied in
        cc

    by : (a : Bool) → (host.0 == h) ≡ a → (b : Bool) → (object.0 == o) ≡ b
        → leaves_asked (if a && b then sent_effect p (live_control h o past) (message.Terminate control) else Elsewhere) ≡ true
    by true first true second = absurd (never (same host.0 h first) (same object.0 o second) follows.licensed.0.why)
    by true first false second = refl
    by false first b second = refl

-- each event of a step leaves it asked
effect_leaves : (header : Header) (outside : Outside) (n h o p : ℕ) (e : Event) (past : List Event) → Follows header outside n e past → o < named header
    → is_wild header o ≡ false → (page_on header h o p past).asked ≡ true
    → leaves_asked (effect header h (record { object = o; page = p }) (λ source. local header h source past) e past) ≡ true
effect_leaves header outside n h o p (event.Zeroed at object page) past follows declared supplied asked =
    either_leaves (at.0 == h && is_place (record { object = o; page = p }) object.0 page.0) Zeroes refl
effect_leaves header outside n h o p (event.Raised at lower lower_page upper upper_page) past follows declared supplied asked =
    either_leaves (at.0 == h && is_place (record { object = o; page = p }) upper.0 upper_page.0)
    (Raises (local header h (record { object = lower.0; page = lower_page.0 }) past).bytes) refl
effect_leaves header outside n h o p (event.CopiedPage task page object object_page target) past follows declared supplied asked =
    either_leaves (is_on h (host_of task.0 past) && is_place (record { object = o; page = p }) target.0 page.0)
    (Raises (local header h (record { object = object.0; page = object_page.0 }) past).bytes) refl
effect_leaves header outside n h o p (event.Stored task object page at size value) past follows declared supplied asked =
    either_leaves (is_on h (host_of task.0 past) && is_place (record { object = o; page = p }) object.0 page.0) _ refl
effect_leaves header outside n h o p (event.Dropped at object page) past follows declared supplied asked =
    either_leaves (at.0 == h && is_place (record { object = o; page = p }) object.0 page.0) Drops refl
effect_leaves header outside n h o p (event.Merged upper lower) past follows declared supplied asked =
    either_leaves (is_on h (object_home upper.0 past)) _
    (merge_leaves upper.0 lower.0 (backing_of header upper.0 past).shift (object_pages header upper.0 past) (object_pages header lower.0 past)
    (record { object = o; page = p }) (λ source. local header h source past))
effect_leaves header outside n h o p (event.Sent (Up host object) (message.Terminate control)) past follows declared supplied asked =
    end_leaves header outside n h o p host object control past follows declared supplied asked
effect_leaves header outside n h o p (event.Sent (Up host object) m) past follows declared supplied asked =
    either_leaves (host.0 == h && object.0 == o) (sent_effect p (live_control h o past) m)
    (sent_leaves header n p (live_control h o past) host object m past follows.may follows.creates (λ control is. absurd (cc)))
effect_leaves header outside n h o p (event.Taken channel m) past follows declared supplied asked = absurd follows.inner
effect_leaves header outside n h o p e past follows declared supplied asked = refl

pub stays_asked : (header : Header) (outside : Outside) (n h o p : ℕ) (e : Event) (past : List Event) → Follows header outside n e past → o < named header
    → is_wild header o ≡ false → (page_on header h o p past).asked ≡ true → (page_on header h o p (e ∷ past)).asked ≡ true
stays_asked header outside n h o p e past follows declared supplied asked =
    asked_after header.size (effect header h (record { object = o; page = p }) (λ source. local header h source past) e past) (page_on header h o p past)
    (effect_leaves header outside n h o p e past follows declared supplied asked) asked

-- zeros don't come to it
no_zeros : (header : Header) (outside : Outside) (n : ℕ) (e : Event) (past : List Event) → Follows header outside n e past → (doomed : IsDoomed header past)
    → zeroes doomed.object doomed.page e ≡ false
no_zeros header outside n (event.Zeroed host object page) past follows doomed = by (object.0 == doomed.object) refl (page.0 == doomed.page) refl
  where
    same : (a b : ℕ) → (a == b) ≡ true → a ≡ b
    same a b is = grind (arith, nat_tests)

    host_in : Option Asked → ℕ
    host_in None = 0
    host_in (Some asked) = asked.host

    filled : object.0 ≡ doomed.object → page.0 ≡ doomed.page → Fills header host.0 object.0 page.0 past → ⊥
    filled second third fills =
        let first : host.0 ≡ doomed.host = ap host_in (sym fills.void ∙ doomed.void) in
        let none : (page_on header doomed.host doomed.object doomed.page past).asked ≡ false =
        subst (λ (k : ℕ). (page_on header k doomed.object doomed.page past).asked ≡ false) first
        (subst (λ (k : ℕ). (page_on header host.0 k doomed.page past).asked ≡ false) second
        (subst (λ (k : ℕ). (page_on header host.0 object.0 k past).asked ≡ false) third fills.unasked)) in
        let bad : true ≡ false = sym doomed.asked ∙ none in
        cc

    bottom : object.0 ≡ doomed.object → Bottoms header host.0 object.0 page.0 past → ⊥
    bottom second bottoms = let temporary = bottoms.temporary in let below = doomed.declared in omega (arith, temporary, below, second)

    by : (a : Bool) → (object.0 == doomed.object) ≡ a → (b : Bool) → (page.0 == doomed.page) ≡ b → (a && b) ≡ false
    by true second true third = elim follows.licensed.0 [
      | inl fills ↦ absurd (filled (same object.0 doomed.object second) (same page.0 doomed.page third) fills)
      | inr bottoms ↦ absurd (bottom (same object.0 doomed.object second) bottoms)
    ]
    by true second false third = refl
    by false second b third = refl
no_zeros header outside n e past follows doomed = refl

-- so it stays doomed
pub doomed_next : (header : Header) (outside : Outside) (n : ℕ) (e : Event) (past : List Event) → Follows header outside n e past → IsDoomed header past
    → IsDoomed header (e ∷ past)
doomed_next header outside n e past follows doomed =
    record {
      host = doomed.host;
      object = doomed.object;
      page = doomed.page;
      void = void e (record { host = doomed.host; object = doomed.object; page = doomed.page }) follows.inner doomed.void;
      declared = doomed.declared;
      supplied = doomed.supplied;
      unzeroed = unzeroed e doomed.object doomed.page follows.inner (no_zeros header outside n e past follows doomed) doomed.unzeroed;
      asked = stays_asked header outside n doomed.host doomed.object doomed.page e past follows doomed.declared doomed.supplied doomed.asked;
    }
  where
    void : (e : Event) (a : Asked) → IsInner e → absence_taken header past ≡ Some a → absence_taken header (e ∷ past) ≡ Some a
    void (event.Line line) a inner is = absurd inner
    void (event.Taken channel m) a inner is = absurd inner
    void e a inner is = is

    unzeroed : (e : Event) (o p : ℕ) → IsInner e → zeroes o p e ≡ false → since (zeroes o p) past ≡ false → since (zeroes o p) (e ∷ past) ≡ false
    unzeroed (event.Line line) o p inner none was = absurd inner
    unzeroed (event.Taken channel m) o p inner none was = absurd inner
    unzeroed e o p inner none was = subst (λ (b : Bool). (b || since (zeroes o p) past) ≡ false) (sym none) was

-- and no step ends so
pub never_doomed : (header : Header) (past : List Event) → IsPaid header past → IsDoomed header past → ⊥
never_doomed header past paid doomed =
    let bad : true ≡ false = sym (paid.absence doomed.host doomed.object doomed.page doomed.declared doomed.void) ∙ doomed.unzeroed in cc
