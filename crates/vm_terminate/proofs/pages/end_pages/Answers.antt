use Rattle.std.proofs.lemmas.Option.{MatchOption-at_some}
use Rattle.std.proofs.Common.{◌≡◌, ◌∙◌, true, false, [], refl, arith}
use Rattle.vm_base.specs.declared.ids.PageKey.{PageKey}
use Rattle.vm_copies.specs.Copies.{CopyTable}
use Rattle.vm_parts.proofs.Lists.{some_here}
use Rattle.vm_parts.proofs.Rows.{row_there}
use Rattle.vm_shadow.specs.Chains.{ChainTable}
use Rattle.vm_terminate.proofs.Leaving.{has_gone, one_more, others_here}
use Rattle.vm_terminate.specs.Finishes.{NoMore}
use Rattle.vm_terminate.specs.Steps.{finish_state}
use Rattle.vm_terminate.proofs.pages.end_pages.Goals as goal

no_chains : ChainTable
no_chains = record { regions = []; shadows = []; marked = 0; spare = 0 }

no_copies : CopyTable
no_copies = record { newest = []; copies = []; room = 0 }

pub end_page-requires-clause-room : goal.end_page-requires-clause-room
end_page-requires-clause-room g c =
    let kept = c.pages.invariant in
    let row = row_there _ c.in-Some.ensures.there in
    let some = some_here c.pages.parts c.args.object.0 c.in-Some.page.0 row.0 kept.fit row.1 (kept.here c.in-Some.page.0 row.0 row.1) in
    omega (arith, kept.room, some)

pub returns-in_err-end_page-clause-succeeds : goal.returns-in_err-end_page-clause-succeeds
returns-in_err-end_page-clause-succeeds g c = λ log buffers.
    let kept = c.pages.invariant in
    let row = row_there _ c.in-Some.ensures.there in
    let some = some_here c.pages.parts c.args.object.0 c.in-Some.page.0 row.0 kept.fit row.1 (kept.here c.in-Some.page.0 row.0 row.1) in
    let bad : false ≡ true = c.in_err-end_page.ensures.succeeds (omega (arith, kept.log, some, log)) (omega (arith, kept.buffers, some, buffers)) in
    absurd (cc)

pub returns-in_err-end_page-clause-dropped : goal.returns-in_err-end_page-clause-dropped
returns-in_err-end_page-clause-dropped g c = λ temporary log.
    let kept = c.pages.invariant in
    let row = row_there _ c.in-Some.ensures.there in
    let some = some_here c.pages.parts c.args.object.0 c.in-Some.page.0 row.0 kept.fit row.1 (kept.here c.in-Some.page.0 row.0 row.1) in
    let bad : false ≡ true = c.in_err-end_page.ensures.dropped temporary (omega (arith, kept.log, some, log)) in
    absurd (cc)

pub pages-preserved : goal.pages-preserved
pages-preserved g c =
    let kept = c.pages.invariant in
    let row = row_there _ c.in-Some.ensures.there in
    let here = kept.here c.in-Some.page.0 row.0 row.1 in
    let leaves = MatchOption-at_some _ _ row.0 row.1 c.in_ok-end_page.ensures.leaves in
    let old = λ (chains : ChainTable) (copies : CopyTable). finish_state c.pages.parts chains copies (g.L.Holder.held c.pages.laundry)
    (g.L.Holder.room c.pages.laundry) c.pages.log.items in
    let new = λ (chains : ChainTable) (copies : CopyTable). finish_state c.end_page.new.parts chains copies (g.L.Holder.held c.end_page.new.laundry)
    (g.L.Holder.room c.end_page.new.laundry) c.end_page.new.log.items in
    let key : PageKey = record { object = c.args.object; page = c.in-Some.page } in
    let gone = has_gone c.args.host key c.args.known row.0 (old no_chains no_copies) (new no_chains no_copies) here (leaves no_chains no_copies) in
    record {
      fit = c.in_ok-end_page.ensures.fit;
      known = gone.objects.at c.args.object.0 ∙ kept.known;
      here = others_here _ _ _ _ gone.rows kept.here;
      room = omega (arith, kept.room, gone.lists, gone.room);
      size = c.in_ok-end_page.ensures.size ∙ kept.size;
      log = omega (arith, kept.log, gone.lists, c.in_ok-end_page.ensures.log);
      buffers = omega (arith, kept.buffers, gone.lists, c.in_ok-end_page.ensures.buffers);
      saved = λ temporary. let before = kept.saved temporary in let more = c.in_ok-end_page.ensures.saved temporary in omega (arith, before, more);
      spare = omega (arith, kept.spare, c.in_ok-end_page.ensures.spare);
      rows = omega (arith, kept.rows, c.in_ok-end_page.ensures.rows);
      fewer = omega (arith, kept.fewer, gone.lists);
      leave =
          λ chains copies end more. kept.leave chains copies end (one_more c.args.host c.args.object c.args.known c.pages.from.0 c.in-Some.page row.0
          (old chains copies) (new chains copies) end c.in-Some.ensures row.1 here refl refl (leaves chains copies) more);
    }

pub returns-clause-leave : goal.returns-clause-leave
returns-clause-leave g c = λ chains copies. c.pages.invariant.leave chains copies _ (NoMore _ _ c.in_default.ensures)
