use Rattle.std.proofs.Common.{ap, sym, ◌∙◌, refl, length, true}
use Rattle.vm_queues.specs.Queues.{is_queued}
use Rattle.vm_parts.proofs.Changing.{holds, length_with, rows_changed}
use Rattle.vm_parts.proofs.Fitting.{fit_changed}
use Rattle.vm_parts.proofs.Rows.{same_case}
use Rattle.vm_parts.proofs.parts.HostParts.write.Goals as goal

pub put-requires-clause-inside : goal.put-requires-clause-inside
put-requires-clause-inside c =
    let has = holds c.args.self.now _ _ c.in-Some.row c.requires.fit (sym c.get.ensures ∙ c.in-Some.is) in
    rw (c.bytes_mut.ensures.value, has.sized) c.requires.inside

pub returns-clause-fit : goal.returns-clause-fit
returns-clause-fit c =
    let fit = c.requires.fit in
    let row = c.in-Some.row in
    let found = sym c.get.ensures ∙ c.in-Some.is in
    let has = holds c.args.self.now _ _ row fit found in
    let size = ap length c.bytes_mut.ensures.value ∙ has.sized in
    let whole = ap length c.put.ensures ∙ length_with c.args.at c.args.size c.args.value c.bytes_mut.result.now (rw size c.requires.inside) in
    fit_changed c.args.key row.frame _ _ _ _ _ c.args.self.now _ fit
    (rows_changed c.args.key row (record row { dirty = true }) c.put.new.self c.args.self.now.queues c.args.self.now _ fit found refl c.set.ensures.rows
    c.set.ensures.frames refl refl
    (same_case (is_queued c.args.self.now.queues) (is_queued c.args.self.now.queues) row.here row.frame.0 (λ g. refl) (fit.listed _ _ row found)))
    (λ some. refl) (λ some. fit.inside _ _ row found) (whole ∙ size) refl refl refl
