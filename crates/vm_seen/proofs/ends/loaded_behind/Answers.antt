use Rattle.std.proofs.Common.{◌≡◌, ap, sym, ◌∙◌, [], ◌∷◌, ◌++◌, refl, reverse, Some}
use Rattle.vm_free.specs.Outcomes.{loaded}
use Rattle.vm_seen.specs.Behind.{later_of, oldest_items}
use Rattle.vm_seen.specs.Ends.{values_of, with_load}
use Rattle.vm_seen.proofs.Behind.{later_step}
use Rattle.vm_seen.proofs.Loads.{values_push}
use Rattle.vm_seen.proofs.ends.loaded_behind.Goals as goal
use Rattle.vm_seen.proofs.ends.loaded_behind.Goals.{in-Some+in_ok-push, in_default}

pub loop-i-preserved : goal.loop-i-preserved
loop-i-preserved c = λ t.
    let h = c.args.history.now.items in
    let past = later_of c.args.from (oldest_items c.loop-i.i h) in
    let step = ap (loaded t) (later_step h c.args.from c.loop-i.i c.at.result.now c.loop-i.auto.i c.at.ensures) in
    elim c.match-load_of.branch [
      | in-Some+in_ok-push w ↦
          let is : c.match-load_of.loads.items ≡ c.loop-i.loads.items ++ w.in-Some.load ∷ [] = rw w.loads-is w.in_ok-push.ensures.items in
          ap (λ z. reverse (values_of t z)) is ∙ (values_push t c.loop-i.loads.items w.in-Some.load
          ∙ (ap (with_load t (Some w.in-Some.load)) (c.loop-i.invariant t) ∙ (sym (w.in-Some.ensures t past) ∙ sym step)))
      | in_default w ↦
          let is : c.match-load_of.loads.items ≡ c.loop-i.loads.items = rw w.loads-is refl in
          ap (λ z. reverse (values_of t z)) is ∙ (c.loop-i.invariant t ∙ (sym (w.in_default.ensures t past) ∙ sym step))
    ]
