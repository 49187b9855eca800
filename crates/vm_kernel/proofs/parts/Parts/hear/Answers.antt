use Rattle.vm_kernel.proofs.Common.{IsAnswer, arith, false, subst, sym, true, ℕ, ◌++◌, ◌≡◌}
use Rattle.vm_kernel.proofs.lists.PageJoins.{answer_plays}
use Rattle.vm_kernel.proofs.controls.WordHeard.{Heard, flags_heard, hears_done}
use Rattle.vm_kernel.proofs.controls.WordTaken.{heard, works_flagged}
use Rattle.vm_kernel.specs.Matches.{Works}
use Rattle.vm_legal.specs.Cached.{is_cached}
use Rattle.vm_kernel.proofs.room.EndsSpend.{heard_spends}
use Rattle.vm_kernel.proofs.controls.FailureBuffers.{failing_dies, failing_kept}
use Rattle.vm_kernel.proofs.parts.Parts.hear.Given as given
use Rattle.vm_kernel.proofs.parts.Parts.hear.Goals as goal

-- the message was heard
all_done : (g : given.Over) (c : goal.In_ok-woken g) → Heard g.given.header g.given.host g.given.outside g.given.command c.args.self.now c.args.ids.now
    c.in_ok-woken.woken c.answer.new.parts (λ o. is_cached g.given.host o g.given.past) c.answer.new.log.items (g.given.front ++ g.given.past)
all_done g c =
    hears_done g.given.header g.given.host g.given.outside g.given.command c.args.self.now c.args.ids.now c.args.log.now.items c.answer.new.log.items
    g.given.past g.given.front c.args.object c.args.control c.args.message.now c.in_ok-woken.woken c.answer.new.parts
    c.requires.0 c.requires.1.0 c.requires.1.1.0 c.requires.1.1.1.1.1 c.requires.1.1.1.1.0 c.in_ok-woken.ensures.fit c.in_ok-woken.ensures.buffers
    c.in_ok-woken.ensures.answered

-- and flags are those of the history
all_works : (g : given.Over) (c : goal.In_ok-woken g) → Works g.given.header g.given.host (heard c.args.self.now c.answer.new.parts) c.args.ids.now
    c.in_ok-woken.woken (c.answer.new.log.items ++ (g.given.front ++ g.given.past))
all_works g c =
    let all = all_done g c in
    works_flagged all.works
    (λ o less. flags_heard g.given.host o c.args.self.now.size g.given.past g.given.front c.answer.new.log.items c.args.object c.args.control c.args.message.now
    c.requires.1.0 c.requires.1.1.0 c.requires.1.1.1.0 all.brought)

pub answer-requires-clause-answer : goal.answer-requires-clause-answer
answer-requires-clause-answer g c = subst (λ (z : ℕ). IsAnswer z c.args.message.now) (sym c.requires.0.matches.core.fits.buffers) c.requires.1.1.0

pub returns-clause-works : goal.returns-clause-works
returns-clause-works g c = all_works g c

pub returns-clause-fails : goal.returns-clause-fails
returns-clause-fails g c = (all_done g c).fails

pub returns-clause-fresh : goal.returns-clause-fresh
returns-clause-fresh g c = (all_done g c).fresh

pub returns-clause-asker : goal.returns-clause-asker
returns-clause-asker g c = (all_done g c).asker

pub returns-clause-answered : goal.returns-clause-answered
returns-clause-answered g c = (all_done g c).answered

pub returns-clause-goes : goal.returns-clause-goes
returns-clause-goes g c = (all_done g c).goes

pub returns-clause-brought : goal.returns-clause-brought
returns-clause-brought g c = (all_done g c).brought

pub returns-clause-zeroed : goal.returns-clause-zeroed
returns-clause-zeroed g c = (all_done g c).paid

pub returns-clause-plays : goal.returns-clause-plays
returns-clause-plays g c =
    answer_plays g.given.header (g.given.front ++ g.given.past) c.args.self.now.host c.args.object _ c.in_ok-woken.woken c.args.self.now c.args.log.now.items
    c.answer.new.log.items c.answer.new.parts c.in_ok-woken.ensures.answered c.requires.1.1.1.1.0

pub returns-clause-spends : goal.returns-clause-spends
returns-clause-spends g c =
    let all = all_done g c in
    heard_spends g.given.header g.given.host g.given.past (c.answer.new.log.items ++ (g.given.front ++ g.given.past)) c.args.self.now c.args.ids.now
    c.answer.new.parts c.args.log.now c.answer.new.log
    c.requires.0.matches (all_works g c).matches all.brought c.in_ok-woken.ensures.rooms.1 c.in_ok-woken.ensures.spare c.in_ok-woken.ensures.rooms.0

pub returns-clause-buffers : goal.returns-clause-buffers
returns-clause-buffers g c = c.in_ok-woken.ensures.buffers

pub returns-in_err-woken-clause-succeeds : goal.returns-in_err-woken-clause-succeeds
returns-in_err-woken-clause-succeeds g c = λ room marks. let bad : false ≡ true = c.in_err-woken.ensures.succeeds (omega (arith, room.log)) marks in absurd (cc)

pub returns-clause-failing : goal.returns-clause-failing
returns-clause-failing g c =
    λ key is. failing_kept c.args.self.now.host c.args.object _ c.in_ok-woken.woken key c.args.self.now c.answer.new.parts c.args.log.now.items
    c.answer.new.log.items c.in_ok-woken.ensures.answered is c.in_ok-woken.ensures.buffers

pub returns-clause-dies : goal.returns-clause-dies
returns-clause-dies g c = λ key is.
    failing_dies c.args.self.now.size c.args.self.now.host c.args.object _ c.args.control _ c.args.message.now c.in_ok-woken.woken key c.args.self.now
    c.answer.new.parts c.args.log.now.items c.answer.new.log.items c.requires.1.1.0 c.in_ok-woken.ensures.answered is
