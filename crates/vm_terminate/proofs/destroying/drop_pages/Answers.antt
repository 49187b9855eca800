use Rattle.std.proofs.Common.{◌≡◌, ◌∙◌, false, true, Some, refl, sym, ap, arith}
use Rattle.std.proofs.lemmas.Option.{MatchOption-at_some}
use Rattle.vm_base.specs.declared.ids.PageKey.{PageKey}
use Rattle.vm_parts.proofs.Lists.{listed_less, some_here}
use Rattle.vm_parts.specs.Changes.{Discards, is_here}
use Rattle.vm_parts.specs.Fits.{object_pages}
use Rattle.vm_resident.specs.Resident.{row_at}
use Rattle.vm_terminate.proofs.Dropping.{below_none, drops_one, none_above, none_gone, none_passed, one_gone, passes_over, same_ahead, some_here_below}
use Rattle.vm_terminate.specs.Destroys.{NoneHere}
use Rattle.vm_terminate.specs.Steps.{finish_state}
use Rattle.vm_terminate.proofs.destroying.drop_pages.Goals as goal
use Rattle.vm_terminate.proofs.destroying.drop_pages.Goals.{then-row+in_ok-push, else-row}

pub returns-in_default-clause-drops : goal.returns-in_default-clause-drops
returns-in_default-clause-drops c = λ chains copies held room.
    c.pages.invariant.drops chains copies held room _ (NoneHere _ _ (λ p low. ap is_here (c.in_default.ensures p low)))

pub returns-clause-drops : goal.returns-clause-drops
returns-clause-drops c = λ chains copies held room.
    let kept = c.pages.invariant in
    let count = ap (λ z. object_pages z c.args.object.0) kept.objects in
    let none = none_above c.pages.parts c.args.object.0 c.pages.from.0 kept.fit (omega (arith, count, c.requires.pages, c.pages-test.false)) in
    kept.drops chains copies held room _ (NoneHere _ _ (λ p low. ap is_here (none p low)))

pub returns-in_err-push-clause-succeeds : goal.returns-in_err-push-clause-succeeds
returns-in_err-push-clause-succeeds c = λ n none enough.
    let kept = c.pages.invariant in
    let page = c.in-Some.page.0 in
    let row = c.in-Some-get.row in
    let found : row_at c.pages.parts.resident c.args.object.0 page ≡ Some row = sym c.get.ensures ∙ c.in-Some-get.is in
    let was = sym (kept.ahead page c.in-Some.ensures.low) ∙ found in
    let less = below_none c.args.parts.now.resident c.args.object.0 n page row none was c.if-row.true in
    let some = some_here_below c.pages.parts.resident c.args.object.0 page n row less found c.if-row.true in
    let left = kept.left n none in
    let bad : false ≡ true = c.in_err-push.ensures.succeeds (omega (arith, some, left, enough)) in
    absurd (cc)

pub returns-in_err-push-clause-roomy : goal.returns-in_err-push-clause-roomy
returns-in_err-push-clause-roomy c = λ enough.
    let kept = c.pages.invariant in
    let found : row_at c.pages.parts.resident c.args.object.0 c.in-Some.page.0 ≡ Some c.in-Some-get.row = sym c.get.ensures ∙ c.in-Some-get.is in
    let some = some_here c.pages.parts c.args.object.0 c.in-Some.page.0 c.in-Some-get.row kept.fit found c.if-row.true in
    let bad : false ≡ true = c.in_err-push.ensures.succeeds (omega (arith, kept.log, some, enough)) in
    absurd (cc)

pub pages-preserved : goal.pages-preserved
pages-preserved c =
    let kept = c.pages.invariant in
    let from = c.pages.from.0 in
    let page = c.in-Some.page in
    let row = c.in-Some-get.row in
    let object = c.args.object.0 in
    let next = c.in-Some.ensures in
    let found : row_at c.pages.parts.resident object page.0 ≡ Some row = sym c.get.ensures ∙ c.in-Some-get.is in
    elim c.if-row.branch [
      | then-row+in_ok-push w ↦
          let key : PageKey = record { object = c.args.object; page = page } in
          let here = w.if-row.true in
          let gone : Discards key row c.pages.parts w.discard.new.self = MatchOption-at_some _ _ row found w.discard.ensures.discards in
          let lists = listed_less row.frame.0 c.pages.parts.queues w.discard.new.self.queues (gone.listed ∙ here) gone.queues in
          let more = w.in_ok-push.ensures.room in
          rw (w.parts-is, w.log-is) record {
            fit = w.discard.ensures.fit;
            objects = w.discard.ensures.objects ∙ kept.objects;
            buffers = w.discard.ensures.buffers ∙ kept.buffers;
            behind = none_gone c.pages.parts.resident w.discard.new.self.resident object from page.0 kept.behind next gone.row;
            ahead = λ p low. same_ahead c.pages.parts.resident w.discard.new.self.resident object page.0 gone.row p low
                ∙ kept.ahead p (let least = next.low in omega arith);
            log = omega (arith, kept.log, lists, more);
            left = λ n none.
                let was = sym (kept.ahead page.0 next.low) ∙ found in
                let less = below_none c.args.parts.now.resident object n page.0 row none was here in
                let one = one_gone c.pages.parts.resident w.discard.new.self.resident object page.0 n row less found here gone.row in
                let before = kept.left n none in
                omega (arith, one, before, more);
            told = rw w.in_ok-push.ensures.ok (omega (arith, kept.told, lists));
            fewer = omega (arith, kept.fewer, lists);
            spare = omega (arith, kept.spare, w.discard.ensures.room);
            drops = λ chains copies held room end rest.
                kept.drops chains copies held room end (drops_one c.args.host c.args.object from page row
                (finish_state c.pages.parts chains copies held room c.pages.log.items)
                (finish_state w.discard.new.self chains copies held room w.push.new.self.items) end
                next found (record {
                  here = here;
                  page = gone;
                  rest = record { objects = w.discard.ensures.objects; buffers = w.discard.ensures.buffers; is = refl };
                  events = w.in_ok-push.ensures.ok;
                }) rest);
          }
      | else-row w ↦ rw (w.parts-is, w.log-is) record {
        fit = kept.fit;
        objects = kept.objects;
        buffers = kept.buffers;
        behind = none_passed c.pages.parts.resident object from page.0 row kept.behind next found w.if-row.false;
        ahead = λ p low. kept.ahead p (let least = next.low in omega arith);
        log = kept.log;
        left = kept.left;
        told = kept.told;
        fewer = kept.fewer;
        spare = kept.spare;
        drops = λ chains copies held room end rest.
            kept.drops chains copies held room end (passes_over c.args.host c.args.object from page row
            (finish_state c.pages.parts chains copies held room c.pages.log.items) end next found w.if-row.false rest);
      }
    ]
