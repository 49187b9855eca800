-- From one page of a slow copy to the next.
use Rattle.std.proofs.Common.{◌≡◌, ℕ, ◌+◌, ◌-◌, ◌^◌, ◌<◌, ◌≤◌, ◌==◌, ◌&&◌, Bool, true, false, List, Some, None, length, refl, ap, sym, ◌∙◌, subst, arith}
use Rattle.std.proofs.lemmas.Bool.{false≢true}
use Rattle.std.proofs.lemmas.Bool.Decides.{nat_tests}
use Rattle.std.proofs.lemmas.Option.{same_Some}
use Rattle.std.specs.Prelude.{if◌then◌else◌}
use Rattle.vm_base.specs.Buffers.{BufferStore}
use Rattle.vm_base.specs.Entries.{allows}
use Rattle.vm_base.specs.declared.entry.Entry.{Entry}
use Rattle.vm_base.specs.declared.ids.HostId.{HostId}
use Rattle.vm_base.specs.declared.ids.ObjectId.{ObjectId}
use Rattle.vm_base.specs.declared.ids.PageKey.{PageKey}
use Rattle.vm_base.specs.declared.ids.TaskId.{TaskId}
use Rattle.vm_copies.specs.Copies.{CopyTable, copy_at}
use Rattle.vm_fault.specs.Faults.{AfterZeros, AtOnce, CanFault, Copied, CopiesPage, CopiesTo, Ended, FaultState, Faulted, GoesOn, Pushed, Raised, Runs, goes_on}
use Rattle.vm_fault.specs.Faults.{has_one, want_after}
use Rattle.vm_fault.specs.Rooms.{HasRoom, TakesRoom}
use Rattle.vm_fault.specs.declared.step.FaultStep.{FaultStep}
use Rattle.vm_fault.specs.declared.step.FaultStep.TheVariants as step
use Rattle.vm_frames.specs.Frames.{FrameTable, free}
use Rattle.vm_maps.specs.Maps.{Mapped}
use Rattle.vm_model.specs.declared.event.Event.{Event}
use Rattle.vm_objects.specs.Objects.{ObjectTable, absent_at, object_at}
use Rattle.vm_parts.specs.Changes.{clean_row, unlocked}
use Rattle.vm_parts.specs.Fits.{object_pages}
use Rattle.vm_parts.specs.declared.parts.HostParts.{HostParts}
use Rattle.vm_resident.specs.Resident.{PutsRow, ResidentTable, row_at}
use Rattle.vm_resident.specs.declared.page_row.PageRow.{PageRow}
use Rattle.vm_shadow.specs.Chains.{ChainTable, IsOnlyTop, ObjectsBelow, region_at, shadow_at}
use Rattle.vm_shadow.specs.declared.ids.Ids.{Ids}
use Rattle.vm_waits.specs.declared.waiting.Want.{Want}
use Rattle.vm_waits.specs.declared.waiting.Want.TheVariants as want
use Rattle.vm_base.specs.declared.ids.Access.TheVariants.{Load}

-- what a slow copy's page leaves of the parts
record MakesPage (target : ObjectId) (next : ℕ) (old new : HostParts) : Type 0 where
  pub objects : new.objects ≡ old.objects
  pub buffers : new.buffers ≡ old.buffers
  pub row : PageRow
  pub rows : PutsRow target.0 next (Some row) old.resident new.resident
  pub claimed : free new.frames + 1 ≡ free old.frames

made_page : (task : TaskId) (key : PageKey) (row : PageRow) (target : ObjectId) (next : ℕ) (old new : HostParts) (before after : List Event)
    → CopiesPage task key row target next old new before after → MakesPage target next old new
made_page task key row target next old new before after c =
    record {
      objects = ap (λ (z : HostParts). z.objects) c.source.is ∙ (ap (λ (z : HostParts). z.objects) c.marks.is ∙ c.plan.objects);
      buffers = ap (λ (z : HostParts). z.buffers) c.source.is ∙ (ap (λ (z : HostParts). z.buffers) c.marks.is ∙ c.plan.buffers);
      row = record (clean_row c.frame unlocked false) { dirty = true };
      rows =
          subst (λ (z : ResidentTable). PutsRow target.0 next (Some (record (clean_row c.frame unlocked false) { dirty = true })) old.resident z)
          (sym (ap (λ (z : HostParts). z.resident) c.source.is ∙ ap (λ (z : HostParts). z.resident) c.marks.is)) c.page.row;
      claimed =
          subst (λ (z : FrameTable). free z + 1 ≡ free old.frames) (sym (ap (λ (z : HostParts). z.frames) c.source.is
          ∙ ap (λ (z : HostParts). z.frames) c.marks.is)) (omega (arith, c.page.left));
    }

-- of a slow copy, its target and its next page
abbrev target_in : Want → ObjectId → ObjectId
target_in (want.Load address size) other = other
target_in (want.Store address size value) other = other
target_in (want.CopyTo address pages target next) other = target

abbrev next_in : Want → ℕ
next_in (want.Load address size) = 0
next_in (want.Store address size value) = 0
next_in (want.CopyTo address pages target next) = next

ended_page : (host : HostId) (task : TaskId) (address pages next : ℕ) (target : ObjectId) (top : PageKey) (at value : ℕ) (old new : HostParts)
    (chains : ChainTable) (had have : CopyTable) (before after : List Event)
    → Ended host task (want.CopyTo address pages target next) top at value old new chains had have before after → MakesPage target next old new
ended_page host task address pages next target top at value old new chains had have before after
    (AtOnce steps key row finds alone out owed e hits same told) = absurd hits
ended_page host task address pages next target top at value old new chains had have before after
    (Raised steps key row finds stores out frame copied hit raises plan e hits source notes told) = absurd (false≢true stores)
ended_page host task address pages next target top at value old new chains had have before after
    (Pushed row finds stores out place owed absent frame copied raises plan e hits notes told) = absurd (false≢true stores)
ended_page host task address pages next target top at value old new chains had have before after
    (AfterZeros sinks frame brought brings plan e hits notes told) = absurd hits
ended_page host task address pages next target top at value old new chains had have before after
    (Copied a p n t is steps key row finds out zero made same) =
    let page = made_page task key row t n old new before after made in
    subst (λ (z : ObjectId). MakesPage z next old new) (sym (ap (λ (z : Want). target_in z target) is))
    (subst (λ (z : ℕ). MakesPage t z old new) (sym (ap next_in is)) page)

-- it has told one event
ended_told : (host : HostId) (task : TaskId) (address pages next : ℕ) (target : ObjectId) (top : PageKey) (at value : ℕ) (old new : HostParts)
    (chains : ChainTable) (had have : CopyTable) (before after : List Event)
    → Ended host task (want.CopyTo address pages target next) top at value old new chains had have before after → length after ≡ length before + 1
ended_told host task address pages next target top at value old new chains had have before after
    (AtOnce steps key row finds alone out owed e hits same told) = absurd hits
ended_told host task address pages next target top at value old new chains had have before after
    (Raised steps key row finds stores out frame copied hit raises plan e hits source notes told) = absurd (false≢true stores)
ended_told host task address pages next target top at value old new chains had have before after
    (Pushed row finds stores out place owed absent frame copied raises plan e hits notes told) = absurd (false≢true stores)
ended_told host task address pages next target top at value old new chains had have before after
    (AfterZeros sinks frame brought brings plan e hits notes told) = absurd hits
ended_told host task address pages next target top at value old new chains had have before after
    (Copied a p n t is steps key row finds out zero made same) =
    ap (λ (es : List Event). length es) made.told ∙ omega arith

-- it has noted nothing
ended_notes : (host : HostId) (task : TaskId) (address pages next : ℕ) (target : ObjectId) (top : PageKey) (at value : ℕ) (old new : HostParts)
    (chains : ChainTable) (had have : CopyTable) (before after : List Event)
    → Ended host task (want.CopyTo address pages target next) top at value old new chains had have before after → have ≡ had
ended_notes host task address pages next target top at value old new chains had have before after
    (AtOnce steps key row finds alone out owed e hits same told) = absurd hits
ended_notes host task address pages next target top at value old new chains had have before after
    (Raised steps key row finds stores out frame copied hit raises plan e hits source notes told) = absurd (false≢true stores)
ended_notes host task address pages next target top at value old new chains had have before after
    (Pushed row finds stores out place owed absent frame copied raises plan e hits notes told) = absurd (false≢true stores)
ended_notes host task address pages next target top at value old new chains had have before after
    (AfterZeros sinks frame brought brings plan e hits notes told) = absurd hits
ended_notes host task address pages next target top at value old new chains had have before after
    (Copied a p n t is steps key row finds out zero made same) = same

-- and of the rest
record MakesNext (target : ObjectId) (next : ℕ) (old new : FaultState) : Type 0 where
  pub chains : new.chains ≡ old.chains
  pub ids : new.ids ≡ old.ids
  pub page : MakesPage target next old.parts new.parts
  pub told : length new.events ≡ length old.events + 1
  pub copies : new.copies ≡ old.copies

made_next : (maps : Mapped) (host : HostId) (task : TaskId) (may_claim : Bool) (value address pages next : ℕ) (target : ObjectId) (old new : FaultState)
    → Faulted maps host task (want.CopyTo address pages target next) may_claim (step.Done value) old new → MakesNext target next old new
made_next maps host task may_claim value address pages next target old new f =
    record {
      chains = f.chains ∙ ap (λ (z : FaultState). z.chains) f.prepares;
      ids = f.ids ∙ ap (λ (z : FaultState). z.ids) f.prepares;
      page =
          subst (λ (z : FaultState). MakesPage target next z.parts new.parts) f.prepares
          (ended_page host task address pages next target f.top _ value f.mid.parts new.parts f.mid.chains f.mid.copies new.copies f.mid.events new.events
          f.comes);
      told =
          ended_told host task address pages next target f.top _ value f.mid.parts new.parts f.mid.chains f.mid.copies new.copies f.mid.events new.events
          f.comes
          ∙ ap (λ (z : FaultState). length z.events + 1) f.prepares;
      copies =
          ended_notes host task address pages next target f.top _ value f.mid.parts new.parts f.mid.chains f.mid.copies new.copies f.mid.events new.events
          f.comes
          ∙ ap (λ (z : FaultState). z.copies) f.prepares;
    }

else_where : {A : Type 0} (b c : Bool) (x y : A) → c ≡ false → (if b && c then x else y) ≡ y
else_where true c x y apart = ap (λ (z : Bool). if z then x else y) apart
else_where false c x y apart = refl

unmade_then : (target : ObjectId) (next : ℕ) (old new : HostParts) → MakesPage target next old new → (p : ℕ) → next + 1 ≤ p
    → row_at old.resident target.0 p ≡ None → row_at new.resident target.0 p ≡ None
unmade_then target next old new made p less none =
    let apart : (next == p) ≡ false = grind (arith, nat_tests) in
    made.rows.at target.0 p ∙ (else_where (target.0 == target.0) (next == p) (Some made.row) (row_at old.resident target.0 p) apart ∙ none)

copies_then : (source target : ObjectId) (pages next : ℕ) (old new : FaultState) → MakesNext target next old new
    → CopiesTo source target pages next old.parts old.chains → CopiesTo source target pages (next + 1) new.parts new.chains
copies_then source target pages next old new made can =
    let objects = made.page.objects in
    record {
      bottom = ap (λ (z : ChainTable). shadow_at z source.0) made.chains ∙ can.bottom;
      told = λ row is. can.told row (sym (ap (λ (z : ObjectTable). object_at z source.0) objects) ∙ is);
      present = λ p. ap (λ (z : ObjectTable). absent_at z source.0 p) objects ∙ can.present p;
      inside = subst (λ (z : ObjectTable). pages ≤ object_pages z target.0) (sym objects) can.inside;
      unmade = λ p less. unmade_then target next old.parts new.parts made.page p less (can.unmade p (omega (arith, less)));
    }

-- its next page can be copied
next_can : (maps : Mapped) (host : HostId) (task : TaskId) (may_claim : Bool) (value address pages next : ℕ) (target : ObjectId) (old new : FaultState)
    → CanFault maps old task.0 (want.CopyTo address pages target next)
    → Faulted maps host task (want.CopyTo address pages target next) may_claim (step.Done value) old new → next + 1 < pages
    → CanFault maps new task.0 (want.CopyTo address pages target (next + 1))
next_can maps host task may_claim value address pages next target old new can f less =
    let made = made_next maps host task may_claim value address pages next target old new f in
    let found = (can.inside (next + 1) less).0 in
    let same : can.allowed.entry ≡ can.entry = same_Some can.allowed.entry can.entry (sym can.allowed.found ∙ can.found) in
    let ids = made.ids in
    record {
      fit = f.fit;
      chains = f.fits;
      size = can.size ∙ sym (ap (λ (z : BufferStore). z.size) made.page.buffers);
      allowed =
          record {
            entry = can.entry;
            lives = can.allowed.lives;
            found = found;
            allowed = subst (λ (z : Entry). allows Load z.prot ≡ true) same can.allowed.allowed;
          };
      sized = (can.sized.0, less, can.sized.2);
      entry = can.entry;
      found = found;
      row = can.row;
      region = ap (λ (z : ChainTable). region_at z can.entry.region.0) made.chains ∙ can.region;
      inside = can.inside;
      copied = f.copied;
      fresh = ap (λ (z : CopyTable). copy_at z target.0) made.copies ∙ can.fresh;
      copies = copies_then can.row.top target pages next old new made can.copies;
      counted = λ marked. subst (λ (z : Ids). 0 < z.marks) (sym ids) (can.counted marked);
      referred = λ marked one. subst (λ (z : ChainTable). IsOnlyTop can.entry.region.0 can.row.top.0 z) (sym made.chains)
          (can.referred marked (sym (ap (λ (z : ObjectTable). has_one (object_at z can.row.top.0)) made.page.objects) ∙ one));
      named =
          subst (λ (z : ChainTable). ObjectsBelow new.ids.next_object z) (sym made.chains)
          (subst (λ (z : Ids). ObjectsBelow z.next_object old.chains) (sym ids) can.named);
      unmade = λ o below. ap (λ (z : ObjectTable). object_at z o) made.page.objects ∙ can.unmade o (subst (λ (z : Ids). z.next_object ≤ o) ids below);
      few = subst (λ (z : Ids). z.next_object < 2 ^ 32 - 1) (sym ids) can.few;
    }

-- an access that goes on is a slow copy, and has copied a page
record IsCopied (answer : FaultStep) (what : Want) : Type 0 where
  pub value : ℕ
  pub done : answer ≡ step.Done value
  pub address : ℕ
  pub pages : ℕ
  pub next : ℕ
  pub target : ObjectId
  pub is : what ≡ want.CopyTo address pages target next
  pub less : next + 1 < pages

copied : (answer : FaultStep) (what : Want) → goes_on answer what ≡ true → IsCopied answer what
copied (step.Done value) (want.Load address size) more = absurd (false≢true more)
copied (step.Done value) (want.Store address size number) more = absurd (false≢true more)
copied (step.Done value) (want.CopyTo address pages target next) more =
    record { value = value; done = refl; address = address; pages = pages; next = next; target = target; is = refl; less = grind (arith, nat_tests) }
copied (step.Ask key) what more = absurd (false≢true more)
copied (step.Unlock key) what more = absurd (false≢true more)
copied (step.WaitReady object) what more = absurd (false≢true more)
copied (step.WaitAnswer key) what more = absurd (false≢true more)
copied (step.NeedFrame source) what more = absurd (false≢true more)

-- what holds of the copy of a page holds of what goes on
as_copied : (P : FaultStep → Want → Type 0) (answer : FaultStep) (what : Want) → (is : IsCopied answer what) → P answer what
    → P (step.Done is.value) (want.CopyTo is.address is.pages is.target is.next)
as_copied P answer what is holds = subst (λ (a : FaultStep). P a (want.CopyTo is.address is.pages is.target is.next)) is.done (subst (P answer) is.is holds)

from_copied : (P : FaultStep → Want → Type 0) (answer : FaultStep) (what : Want) → (is : IsCopied answer what)
    → P (step.Done is.value) (want.CopyTo is.address is.pages is.target is.next) → P answer what
from_copied P answer what is holds =
    subst (P answer) (sym is.is) (subst (λ (a : FaultStep). P a (want.CopyTo is.address is.pages is.target is.next)) (sym is.done) holds)

pub can_then : (maps : Mapped) (host : HostId) (task : TaskId) (may_claim : Bool) (answer : FaultStep) (what : Want) (old new : FaultState)
    → CanFault maps old task.0 what → Faulted maps host task what may_claim answer old new → goes_on answer what ≡ true
    → CanFault maps new task.0 (want_after answer what)
can_then maps host task may_claim answer what old new can f more =
    let is = copied answer what more in
    from_copied (λ a w. CanFault maps new task.0 (want_after a w)) answer what is
    (next_can maps host task may_claim is.value is.address is.pages is.next is.target old new (as_copied (λ a w. CanFault maps old task.0 w) answer what is can)
    (as_copied (λ a w. Faulted maps host task w may_claim a old new) answer what is f) is.less)

-- what the rest comes to, the whole does
pub runs_then : (maps : Mapped) (host : HostId) (task : TaskId) (may_claim : Bool) (answer : FaultStep) (what : Want) (old mid : FaultState)
    → Faulted maps host task what may_claim answer old mid → goes_on answer what ≡ true
    → (final : FaultStep) (last : Want) (new : FaultState) → Runs maps host task may_claim final (want_after answer what) last mid new
    → Runs maps host task may_claim final what last old new
runs_then maps host task may_claim answer what old mid f more final last new rest =
    let is = copied answer what more in
    GoesOn what last is.value old mid new (subst (λ (a : FaultStep). Faulted maps host task what may_claim a old mid) is.done f)
    (subst (λ (a : FaultStep). goes_on a what ≡ true) is.done more)
    (subst (λ (a : FaultStep). Runs maps host task may_claim final (want_after a what) last mid new) is.done rest)

next_room : (maps : Mapped) (host : HostId) (task : TaskId) (may_claim : Bool) (value address pages next : ℕ) (target : ObjectId) (old new : FaultState)
    (room rest : ℕ)
    → Faulted maps host task (want.CopyTo address pages target next) may_claim (step.Done value) old new → next + 1 < pages → TakesRoom old new room rest
    → HasRoom (want.CopyTo address pages target next) old.parts old.chains room
    → HasRoom (want.CopyTo address pages target (next + 1)) new.parts new.chains rest
next_room maps host task may_claim value address pages next target old new room rest f less takes has =
    let made = made_next maps host task may_claim value address pages next target old new f in
    let one : length new.events ≡ length old.events + 1 = made.told in
    let marked : new.chains.marked ≡ old.chains.marked = ap (λ (z : ChainTable). z.marked) made.chains in
    let shadows : new.chains.spare ≡ old.chains.spare = ap (λ (z : ChainTable). z.spare) made.chains in
    let objects : new.parts.objects.rows ≡ old.parts.objects.rows = ap (λ (z : ObjectTable). z.rows) made.page.objects in
    record {
      log = omega (arith, has.log, less, takes.log, one, made.page.claimed);
      rows = omega (arith, has.rows, less, takes.rows, one, made.page.claimed);
      shadows = omega (arith, has.shadows, marked, shadows);
      objects = omega (arith, has.objects, marked, objects);
    }

pub room_then : (maps : Mapped) (host : HostId) (task : TaskId) (may_claim : Bool) (answer : FaultStep) (what : Want) (old new : FaultState) (room rest : ℕ)
    → Faulted maps host task what may_claim answer old new → goes_on answer what ≡ true → TakesRoom old new room rest
    → HasRoom what old.parts old.chains room → HasRoom (want_after answer what) new.parts new.chains rest
room_then maps host task may_claim answer what old new room rest f more takes has =
    let is = copied answer what more in
    from_copied (λ a w. HasRoom (want_after a w) new.parts new.chains rest) answer what is
    (next_room maps host task may_claim is.value is.address is.pages is.next is.target old new room rest
    (as_copied (λ a w. Faulted maps host task w may_claim a old new) answer what is f) is.less
    takes (as_copied (λ a w. HasRoom w old.parts old.chains room) answer what is has))
