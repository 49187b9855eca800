use Rattle.std.proofs.Common.{ℕ, ◌≡◌, ◌∙◌, ◌++◌, [], ◌∷◌, List, ap, subst, sym}
use Rattle.std.specs.Global.{Vec}
use Rattle.vm_explore.specs.Tables.{AreRows, place}
use Rattle.vm_explore.specs.declared.counts.Row.{Row}
use Rattle.vm_explore.proofs.Counted.{known_added}
use Rattle.vm_explore.proofs.counts.Table.add.Goals as goal

pub invariant_of-self-2 : goal.invariant_of-self-2
invariant_of-self-2 c =
    let keys = c.self.inside.outcomes.keys in
    let rows = c.self.inside.rows.items in
    let values = c.args.values in
    let row : Row = record { values = c.in_ok-to_vec.field-0; times = 1; order = c.in_ok-to_vec-2.field-0 } in
    let none = ap (place values.items) c.self.view_is ∙ c.requires in
    let same = c.in_ok-to_vec.ensures.items_if_clones_equal (λ x y k. k) ∙ c.deref.ensures.value in
    let pushed : c.push.new.self.items ≡ c.reserve.new.self.items ++ row ∷ [] = rw c.unwrap.ensures at c.push.ensures.items in
    let all : c.push.new.self.items ≡ rows ++ row ∷ [] = pushed ∙ ap (λ (z : List Row). z ++ row ∷ []) c.reserve.ensures.items in
    let P : List (Vec ℕ) → List Row → Type 0 = λ known of_rows. AreRows known of_rows in
    let Q : List Row → Type 0 = λ z. P c.insert.new.self.keys z in
    let R : List (Vec ℕ) → Type 0 = λ z. P z (rows ++ row ∷ []) in
    subst Q (sym all) (subst R (sym c.in_ok-insert.ensures.keys) (known_added keys rows values row c.self.invariant none same))
