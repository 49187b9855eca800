use Rattle.std.proofs.Common.{◌≡◌, ◌∙◌, ℕ, ◌+◌, ◌<◌, ◌≤◌, Bool, true, false, Some, inl, inr, refl, sym, ap, arith}
use Rattle.std.specs.Prelude.{◌≢◌}
use Rattle.vm_base.specs.declared.ids.ObjectKind.{ObjectKind}
use Rattle.vm_base.specs.declared.ids.ObjectKind.TheVariants.{Temp}
use Rattle.vm_objects.specs.Objects.{object_at}
use Rattle.vm_objects.specs.declared.row.ObjectRow.{ObjectRow}
use Rattle.vm_terminate.proofs.Found.{temporary}
use Rattle.vm_terminate.specs.Finishes.{EndsWith, FinishState}
use Rattle.vm_terminate.proofs.Walking.{GoesOn, IsBare, at_first, come_on, ends_further, ends_there, goes_lower, goes_on, still_known, under_referred}
use Rattle.vm_terminate.proofs.Living.{some_below}
use Rattle.vm_terminate.proofs.Rooms.{TakesTurn, turn_told, turn_uses, uses_none}
use Rattle.vm_terminate.specs.Counts.{is_live_row, live_below}
use Rattle.vm_parts.specs.Listed.{listed_pages}
use Rattle.vm_shadow.specs.Chains.{height}
use Rattle.vm_terminate.specs.Steps.{finish_state}
use Rattle.vm_terminate.proofs.finishing.finish.Given.{Over}
use Rattle.vm_terminate.proofs.finishing.finish.Goals as goal
use Rattle.vm_terminate.proofs.finishing.finish.Goals.{After-leave_under, After-leave_copies, In-Some-leave_under}

pub down-init : goal.down-init
down-init g c =
    record {
      come = at_first _ _ c.requires;
      so_far = λ end more. (more, refl);
      uses = λ n less. uses_none n _ _ _;
      saved = λ each. omega arith;
      told = λ n less. omega arith;
      room = omega arith;
      size = refl;
    }

pub end_control-requires-clause-known : goal.end_control-requires-clause-known
end_control-requires-clause-known g c =
    let now = finish_state c.down.parts c.down.chains c.down.copies (g.L.Holder.held c.down.laundry) (g.L.Holder.room c.down.laundry) c.down.log.items in
    let bare = finish_state c.end_pages.new.parts c.down.chains c.down.copies (g.L.Holder.held c.end_pages.new.laundry)
    (g.L.Holder.room c.end_pages.new.laundry) c.end_pages.new.log.items in
    still_known c.args.host c.down.ending c.in-Some.known now bare (sym c.in-Some.ensures) (c.in_ok-end_pages.ensures.leave c.down.chains c.down.copies)

-- where the pages of an object can't leave, the object isn't temporary, and there are buffers
no_buffers : (kind : ObjectKind) (enough : Type 0) (result : Bool) → result ≡ false → (kind ≡ Temp → result ≡ true) → (kind ≢ Temp → enough)
    → (enough → result ≡ true) → ⊥
no_buffers kind enough result fails dropped needs succeeds = elim (temporary kind) [
  | inl is ↦ let bad : false ≡ true = sym fails ∙ dropped is in absurd (cc)
  | inr other ↦ let bad : false ≡ true = sym fails ∙ succeeds (needs other) in absurd (cc)
]

pub returns-in_err-end_pages-clause-succeeds : goal.returns-in_err-end_pages-clause-succeeds
returns-in_err-end_pages-clause-succeeds g c = λ n less events pages.
    let come = c.down.invariant.come in
    let uses = c.down.invariant.uses n less in
    let both : Some come.row ≡ Some c.in-Some.known = sym come.known ∙ sym c.in-Some.ensures in
    let known : come.row ≡ c.in-Some.known = cc in
    let kind : come.stood.kind ≡ c.in-Some.known.kind = sym come.kind ∙ ap (λ z. z.kind) known in
    let fits : listed_pages c.down.parts.queues ≤ c.down.log.room = omega (arith, uses.log, events) in
    absurd (no_buffers c.in-Some.known.kind (listed_pages c.args.parts.now.queues ≤ c.args.parts.now.buffers.count) false refl
    (λ is. c.in_err-end_pages.ensures.dropped is fits)
    (λ other. pages c.down.ending.0 come.stood come.ends come.was (λ is. other (sym kind ∙ is)))
    (λ enough. c.in_err-end_pages.ensures.succeeds fits (omega (arith, uses.buffers, enough))))

-- a control that can't be ended lives, and then there is room for its end
no_room : (live : Bool) (result : Bool) (listed living room : ℕ) → (live ≡ true → 0 < living) → listed + living ≤ room → result ≡ false
    → (0 < room → result ≡ true) → (live ≡ false → result ≡ true) → ⊥
no_room true result listed living room some fits fails succeeds idle =
    let one = some refl in let bad : false ≡ true = sym fails ∙ succeeds (omega arith) in absurd (cc)
no_room false result listed living room some fits fails succeeds idle = let bad : false ≡ true = sym fails ∙ idle refl in absurd (cc)

pub returns-in_err-end_control-clause-succeeds : goal.returns-in_err-end_control-clause-succeeds
returns-in_err-end_control-clause-succeeds g c = λ n less events pages.
    let uses = c.down.invariant.uses n less in
    let now = finish_state c.down.parts c.down.chains c.down.copies (g.L.Holder.held c.down.laundry) (g.L.Holder.room c.down.laundry) c.down.log.items in
    let lives = λ (live : c.in-Some.known.live ≡ true). some_below c.down.parts.objects c.down.ending.0 n (less c.down.ending.0 c.down.invariant.come.ends)
    (ap is_live_row (sym c.in-Some.ensures) ∙ live) in
    absurd (no_room c.in-Some.known.live false (listed_pages c.end_pages.new.parts.queues) (live_below c.down.parts.objects n) c.end_pages.new.log.room lives
    (omega (arith, uses.log, events, c.in_ok-end_pages.ensures.log)) refl c.in_err-end_control.ensures.succeeds c.in_err-end_control.ensures.idle)

-- the start, the state at an object's turn, the one without its pages, and the one without its control
abbrev start : (g : Over) → After-leave_copies g → FinishState
start g c =
    finish_state c.args.parts.now c.args.chains.now c.args.copies.now (g.L.Holder.held c.args.laundry.now) (g.L.Holder.room c.args.laundry.now)
    c.args.log.now.items

abbrev now : (g : Over) → After-leave_copies g → FinishState
now g c = finish_state c.down.parts c.down.chains c.down.copies (g.L.Holder.held c.down.laundry) (g.L.Holder.room c.down.laundry) c.down.log.items

abbrev bare : (g : Over) → After-leave_copies g → FinishState
bare g c =
    finish_state c.end_pages.new.parts c.down.chains c.down.copies (g.L.Holder.held c.end_pages.new.laundry) (g.L.Holder.room c.end_pages.new.laundry)
    c.end_pages.new.log.items

abbrev quiet : (g : Over) → After-leave_copies g → FinishState
quiet g c =
    finish_state c.end_control.new.parts c.down.chains c.down.copies (g.L.Holder.held c.end_pages.new.laundry) (g.L.Holder.room c.end_pages.new.laundry)
    c.end_control.new.log.items

-- where it is a copy object no more
abbrev silent : (g : Over) → After-leave_copies g → FinishState
silent g c =
    finish_state c.end_control.new.parts c.down.chains c.leave_copies.new.copies (g.L.Holder.held c.end_pages.new.laundry)
    (g.L.Holder.room c.end_pages.new.laundry) c.end_control.new.log.items

is_bare : (g : Over) (c : After-leave_copies g) → IsBare c.args.host c.down.ending c.in-Some.known (now g c) (bare g c) (quiet g c) (silent g c)
is_bare g c =
    record {
      known_is = sym c.in-Some.ensures;
      pages = c.in_ok-end_pages.ensures.leave c.down.chains c.down.copies;
      control =
          c.in_ok-end_control.ensures.ends c.down.chains c.down.copies (g.L.Holder.held c.end_pages.new.laundry) (g.L.Holder.room c.end_pages.new.laundry);
      copies = c.leave_copies.ensures.leaves;
      rest = refl;
    }

pub leave_under-requires-clause-referred : goal.leave_under-requires-clause-referred
leave_under-requires-clause-referred g c =
    let turn = (goal.at.leave_under-requires-clause-referred g c).After-leave_copies in
    under_referred c.args.host c.args.object.0 c.down.ending c.in-Some.known (start g turn) (now g turn) (bare g turn) (quiet g turn) (silent g turn) c.requires
    c.down.invariant.come (is_bare g turn)

pub returns-in_default-leave_under-clause-finished : goal.returns-in_default-leave_under-clause-finished
returns-in_default-leave_under-clause-finished g c =
    let turn = (goal.at.returns-in_default-leave_under-clause-finished g c).After-leave_copies in
    let new = finish_state c.leave_under.new.parts c.leave_under.new.chains c.leave_copies.new.copies (g.L.Holder.held c.end_pages.new.laundry)
    (g.L.Holder.room c.end_pages.new.laundry) c.end_control.new.log.items in
    let there = ends_there c.args.host c.down.ending c.in-Some.known c.leave_under.result c.stands_on-below.result (now g turn) (bare g turn) (quiet g turn)
    (silent g turn) new (is_bare g turn)
    (c.leave_under.ensures.under c.leave_copies.new.copies (g.L.Holder.held c.end_pages.new.laundry)
    (g.L.Holder.room c.end_pages.new.laundry) c.end_control.new.log.items)
    c.in_default-leave_under.is c.stands_on-below.ensures in
    let whole = c.down.invariant.so_far new there.0 in
    (whole.0, there.1 ∙ sym whole.1)

-- the state behind a turn
abbrev behind : (g : Over) → After-leave_under g → FinishState
behind g c =
    finish_state c.leave_under.new.parts c.leave_under.new.chains c.leave_copies.new.copies (g.L.Holder.held c.end_pages.new.laundry)
    (g.L.Holder.room c.end_pages.new.laundry) c.end_control.new.log.items

takes_turn : (g : Over) (c : After-leave_under g) → TakesTurn c.in-Some.known
    (finish_state c.down.parts c.down.chains c.down.copies (g.L.Holder.held c.down.laundry) (g.L.Holder.room c.down.laundry) c.down.log.items)
    (finish_state c.end_pages.new.parts c.down.chains c.down.copies (g.L.Holder.held c.end_pages.new.laundry) (g.L.Holder.room c.end_pages.new.laundry)
    c.end_pages.new.log.items)
    (behind g c) c.down.log.room c.end_pages.new.log.room c.end_control.new.log.room
takes_turn g c =
    let buffers : c.leave_under.new.parts.buffers ≡ c.end_pages.new.parts.buffers = c.leave_under.ensures.buffers ∙ c.in_ok-end_control.ensures.buffers in
    let count = ap (λ z. z.count) buffers in
    record {
      log = c.in_ok-end_pages.ensures.log;
      told = c.in_ok-end_control.ensures.log;
      silent = c.in_ok-end_control.ensures.quiet;
      buffers = omega (arith, c.in_ok-end_pages.ensures.buffers, count);
      rows = omega (arith, c.in_ok-end_pages.ensures.spare, c.in_ok-end_control.ensures.spare, c.leave_under.ensures.spare);
      objects = omega (arith, c.in_ok-end_pages.ensures.rows, c.in_ok-end_control.ensures.rows, c.leave_under.ensures.rows);
      shadows = c.leave_under.ensures.shadows;
      marked = c.leave_under.ensures.marked;
      fewer = c.in_ok-end_pages.ensures.fewer;
    }

pub returns-in_default-leave_under-clause-uses : goal.returns-in_default-leave_under-clause-uses
returns-in_default-leave_under-clause-uses g c = λ n less.
    let turn = (goal.at.returns-in_default-leave_under-clause-uses g c).After-leave_copies in
    turn_uses c.args.host c.down.ending c.leave_under.result c.in-Some.known c.args.parts.now c.args.chains.now (now g turn) (bare g turn) (quiet g turn)
    (silent g turn) (behind g (goal.at.returns-in_default-leave_under-clause-uses g c).After-leave_under)
    c.args.log.now.room c.down.log.room c.end_pages.new.log.room c.end_control.new.log.room n (less c.down.ending.0 c.down.invariant.come.ends) (is_bare g turn)
    (c.leave_under.ensures.under c.leave_copies.new.copies (g.L.Holder.held c.end_pages.new.laundry)
    (g.L.Holder.room c.end_pages.new.laundry) c.end_control.new.log.items)
    (takes_turn g (goal.at.returns-in_default-leave_under-clause-uses g c).After-leave_under)
    (c.down.invariant.uses n less)

-- where each object that ends is temporary no buffer is taken at a turn
saved_turn : (g : Over) (c : After-leave_under g)
    → ((o : ℕ) (row : ObjectRow) → EndsWith c.args.chains.now c.args.parts.now.objects c.args.object.0 o → object_at c.args.parts.now.objects o ≡ Some row
    → row.kind ≡ Temp)
    → c.args.parts.now.buffers.count ≤ c.leave_under.new.parts.buffers.count
saved_turn g c each =
    let come = c.down.invariant.come in
    let both : Some come.row ≡ Some c.in-Some.known = sym come.known ∙ sym c.in-Some.ensures in
    let known : come.row ≡ c.in-Some.known = cc in
    let kind : come.stood.kind ≡ c.in-Some.known.kind = sym come.kind ∙ ap (λ z. z.kind) known in
    let left = c.in_ok-end_pages.ensures.saved (sym kind ∙ each c.down.ending.0 come.stood come.ends come.was) in
    let before = c.down.invariant.saved each in
    let buffers : c.leave_under.new.parts.buffers ≡ c.end_pages.new.parts.buffers = c.leave_under.ensures.buffers ∙ c.in_ok-end_control.ensures.buffers in
    let count = ap (λ z. z.count) buffers in
    omega (arith, left, before, count)

pub returns-in_default-leave_under-clause-saved : goal.returns-in_default-leave_under-clause-saved
returns-in_default-leave_under-clause-saved g c = λ each. saved_turn g (goal.at.returns-in_default-leave_under-clause-saved g c).After-leave_under each

pub returns-in_default-leave_under-clause-told : goal.returns-in_default-leave_under-clause-told
returns-in_default-leave_under-clause-told g c = λ n less.
    let turn = (goal.at.returns-in_default-leave_under-clause-told g c).After-leave_copies in
    let one = turn_told c.args.host c.down.ending c.leave_under.result c.in-Some.known (now g turn) (bare g turn) (quiet g turn) (silent g turn)
    (behind g (goal.at.returns-in_default-leave_under-clause-told g c).After-leave_under) n
    (less c.down.ending.0 c.down.invariant.come.ends) (is_bare g turn)
    (c.leave_under.ensures.under c.leave_copies.new.copies (g.L.Holder.held c.end_pages.new.laundry)
    (g.L.Holder.room c.end_pages.new.laundry) c.end_control.new.log.items) in
    let before = c.down.invariant.told n less in
    omega (arith, one, before)

-- the state when what stood under the object has lost its last reference
abbrev next : (g : Over) → In-Some-leave_under g → FinishState
next g c =
    finish_state c.leave_under.new.parts c.leave_under.new.chains c.leave_copies.new.copies (g.L.Holder.held c.end_pages.new.laundry)
    (g.L.Holder.room c.end_pages.new.laundry) c.end_control.new.log.items

on : (g : Over) (c : In-Some-leave_under g) → GoesOn c.down.ending c.in-Some-leave_under.under
    (finish_state c.end_control.new.parts c.down.chains c.leave_copies.new.copies (g.L.Holder.held c.end_pages.new.laundry)
    (g.L.Holder.room c.end_pages.new.laundry) c.end_control.new.log.items) (next g c)
on g c =
    goes_on _ c.leave_under.result _ _ _ (c.leave_under.ensures.under c.leave_copies.new.copies (g.L.Holder.held c.end_pages.new.laundry)
    (g.L.Holder.room c.end_pages.new.laundry) c.end_control.new.log.items) c.in-Some-leave_under.is

pub down-smaller : goal.down-smaller
down-smaller g c =
    let go = on g c in
    let turn = (goal.at.down-smaller g c).After-leave_copies in
    let same : c.in-Some-leave_under.under.0 ≡ go.row.under.0 = ap (λ z. z.0) go.is in
    let heights = ap (height c.args.chains.now) same in
    let less = goes_lower c.args.host c.args.object.0 c.down.ending c.in-Some-leave_under.under c.in-Some.known (start g turn) (now g turn) (bare g turn)
    (quiet g turn) (silent g turn) (next g c) c.down.invariant.come (is_bare g turn) go in
    omega (arith, less, heights)

pub down-preserved : goal.down-preserved
down-preserved g c =
    let turn = (goal.at.down-preserved g c).After-leave_copies in
    let buffers : c.leave_under.new.parts.buffers ≡ c.end_pages.new.parts.buffers = c.leave_under.ensures.buffers ∙ c.in_ok-end_control.ensures.buffers in
    record {
      come =
          come_on c.args.host c.args.object.0 c.down.ending c.in-Some-leave_under.under c.in-Some.known (start g turn) (now g turn) (bare g turn) (quiet g turn)
          (silent g turn) (next g c) c.down.invariant.come (is_bare g turn) (on g c) c.leave_under.ensures.fit;
      so_far = λ end more.
          let further = ends_further c.args.host c.down.ending c.in-Some-leave_under.under c.in-Some.known (now g turn) (bare g turn) (quiet g turn)
          (silent g turn) (next g c) end (is_bare g turn) (on g c) more in
          let whole = c.down.invariant.so_far end further.0 in
          (whole.0, whole.1 ∙ further.1);
      uses =
          λ n less. turn_uses c.args.host c.down.ending c.leave_under.result c.in-Some.known c.args.parts.now c.args.chains.now (now g turn) (bare g turn)
          (quiet g turn) (silent g turn) (next g c)
          c.args.log.now.room c.down.log.room c.end_pages.new.log.room c.end_control.new.log.room n (less c.down.ending.0 c.down.invariant.come.ends)
          (is_bare g turn)
          (c.leave_under.ensures.under c.leave_copies.new.copies (g.L.Holder.held c.end_pages.new.laundry)
          (g.L.Holder.room c.end_pages.new.laundry) c.end_control.new.log.items)
          (takes_turn g (goal.at.down-preserved g c).After-leave_under) (c.down.invariant.uses n less);
      saved = λ each. saved_turn g (goal.at.down-preserved g c).After-leave_under each;
      told = λ n less.
          let one = turn_told c.args.host c.down.ending c.leave_under.result c.in-Some.known (now g turn) (bare g turn) (quiet g turn) (silent g turn)
          (next g c) n (less c.down.ending.0 c.down.invariant.come.ends) (is_bare g turn)
          (c.leave_under.ensures.under c.leave_copies.new.copies (g.L.Holder.held c.end_pages.new.laundry)
          (g.L.Holder.room c.end_pages.new.laundry) c.end_control.new.log.items) in
          let before = c.down.invariant.told n less in
          omega (arith, one, before);
      room = omega (arith, c.leave_copies.ensures.room, c.down.invariant.room);
      size = ap (λ z. z.size) buffers ∙ (c.in_ok-end_pages.ensures.size ∙ c.down.invariant.size);
    }
