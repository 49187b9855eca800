use Rattle.std.proofs.Common.{Any, Bool, List, ap, below_more, subst, sym, ℕ, ◌+◌, ◌∙◌, ◌≡◌}
use Rattle.std.specs.Prelude.{slice_index_or, ◌&&◌}
use Rattle.std.specs.Global.{Vec}
use Rattle.std.specs.List.{All}
use Rattle.std.proofs.lemmas.List.{get_or_default}
use Rattle.vm_lens.specs.Exploring.{Gives, IsShown}
use Rattle.vm_lens.proofs.exploring.explore_orders.Goals as goal
use Rattle.vm_lens.proofs.exploring.explore_orders.Goals.{then-shared, else-shared}

pub loop-order-preserved : goal.loop-order-preserved
loop-order-preserved c =
    let script = c.args.script.now in
    let start = c.args.start.now.items in
    let all = c.args.all.now in
    let index = c.loop-order.order-index in
    let on = c.in_ok-on.on in
    let new = c.explore_order.new.table in
    let both : (c.loop-order.shared && on) ≡ c.if-shared.shared = elim c.if-shared.branch [
      | then-shared w ↦ ap (λ z. z && on) w.if-shared.true ∙ sym w.shared-is
      | else-shared w ↦ ap (λ z. z && on) w.if-shared.false ∙ (sym w.if-shared.false ∙ sym w.shared-is)
    ] in
    let P : Bool → Type 0 = λ b. All (IsShown script c.args.setup start b) new in
    let Q : List ℕ → Type 0 = λ order. Any (Gives script c.args.setup start order) new in
    let R : ℕ → Type 0 = λ k. (d : Vec ℕ) → Q (slice_index_or all k d).items in
    let same : (d : Vec ℕ) → c.deref.result.now ≡ (slice_index_or all index d).items = λ d.
    c.deref.ensures.value ∙ ap (λ (z : Vec ℕ). z.items) (c.order-item.is ∙ get_or_default all index c.order-item.result d c.loop-order-test.true) in
    record {
      shown = subst P both (c.in_ok-on.ensures.shown c.loop-order.shared c.loop-order.invariant.shown);
      given = λ k d less.
          below_more R index (λ k less d. c.in_ok-on.ensures.kept (slice_index_or all k d).items (c.loop-order.invariant.given k d less))
          (λ d. subst Q (same d) c.in_ok-on.ensures.gives) k less d;
      times = c.in_ok-on.ensures.times ∙ ap (λ z. z + 1) c.loop-order.invariant.times;
    }
