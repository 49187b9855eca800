use Rattle.std.proofs.Common.{◌≡◌, ◌∙◌, false, [], ◌∷◌, refl, sym, ap, arith, inl, inr, None}
use Rattle.std.proofs.lemmas.Option.{MatchOption-at_some}
use Rattle.vm_base.specs.declared.ids.PageKey.{PageKey}
use Rattle.vm_parts.proofs.Rows.{row_cases, row_there}
use Rattle.vm_parts.specs.Changes.{Cancels, is_here}
use Rattle.vm_parts.specs.Fits.{object_pages}
use Rattle.vm_terminate.proofs.Dropping.{cancels_one, none_above}
use Rattle.vm_terminate.specs.Destroys.{NoneAsked}
use Rattle.vm_terminate.specs.Steps.{finish_state}
use Rattle.vm_terminate.proofs.destroying.cancel_pages.Goals as goal

pub returns-in_default-clause-cancels : goal.returns-in_default-clause-cancels
returns-in_default-clause-cancels c = λ chains copies held room events.
    c.asked.invariant.cancels chains copies held room events [] _ (NoneAsked _ _ c.in_default.ensures)

pub returns-clause-cancels : goal.returns-clause-cancels
returns-clause-cancels c = λ chains copies held room events.
    let kept = c.asked.invariant in
    let count = ap (λ z. object_pages z c.args.object.0) kept.objects in
    let none = none_above c.asked.parts c.args.object.0 c.asked.from.0 kept.fit (omega (arith, count, c.requires.pages, c.asked-test.false)) in
    kept.cancels chains copies held room events [] _ (NoneAsked _ _ none)

pub asked-preserved : goal.asked-preserved
asked-preserved c =
    let kept = c.asked.invariant in
    let object = c.args.object.0 in
    let page = c.in-Some.page in
    let key : PageKey = record { object = c.args.object; page = page } in
    let row = row_there _ c.in-Some.ensures.there in
    let gone : Cancels key row.0 c.asked.parts c.cancel.new.self = MatchOption-at_some _ _ row.0 row.1 c.cancel.ensures.cancels in
    let away : row.0.here ≡ false = sym (ap is_here row.1) ∙ kept.none page.0 in
    record {
      fit = c.cancel.ensures.fit;
      objects = c.cancel.ensures.objects ∙ kept.objects;
      buffers = c.cancel.ensures.buffers ∙ kept.buffers;
      queues = gone.queues ∙ kept.queues;
      none = λ p. elim (row_cases object page.0 None c.asked.parts.resident c.cancel.new.self.resident gone.row object p)
          [ inl this ↦ ap is_here this.is | inr other ↦ ap is_here other.is ∙ kept.none p ];
      spare = omega (arith, kept.spare, c.cancel.ensures.room);
      cancels = λ chains copies held room events more end rest.
          kept.cancels chains copies held room events (page.0 ∷ more) end (cancels_one c.args.object c.asked.from.0 page more row.0
          (finish_state c.asked.parts chains copies held room events) (finish_state c.cancel.new.self chains copies held room events) end
          c.in-Some.ensures row.1 (record {
            away = away;
            page = gone;
            rest = record { objects = c.cancel.ensures.objects; buffers = c.cancel.ensures.buffers; is = refl };
            events = refl;
          }) rest);
    }
