use Rattle.std.proofs.Common.{sym, arith}
use Rattle.vm_terminate.proofs.Under.{Unrefers, ends, fit_unreferred, referred_some, referred_there, stays}
use Rattle.vm_terminate.proofs.finishing.leave_under.Goals as goal
use Rattle.vm_terminate.proofs.finishing.leave_under.Goals.{After-unrefer-left}

pub unrefer-left-requires-clause-there : goal.unrefer-left-requires-clause-there
unrefer-left-requires-clause-there c = referred_there _ _ (c.requires.referred c.in_ok-row.ensures.ranked c.in_ok-row.row (sym c.in_ok-row.ensures.value))

pub unrefer-left-requires-clause-some : goal.unrefer-left-requires-clause-some
unrefer-left-requires-clause-some c = referred_some _ _ (c.requires.referred c.in_ok-row.ensures.ranked c.in_ok-row.row (sym c.in_ok-row.ensures.value))

unrefers : (c : After-unrefer-left) → Unrefers c.args.object c.in_ok-row.row c.unrefer-left.result c.args.parts.now c.unrefer-left.new.self c.args.chains.now
    c.drop_object.new.self
unrefers c =
    record {
      found = c.in_ok-row.ensures.value;
      dropped = c.drop_object.ensures.dropped;
      referred = c.requires.referred c.in_ok-row.ensures.ranked c.in_ok-row.row (sym c.in_ok-row.ensures.value);
      left_is = c.unrefer-left.ensures.left;
      put = c.unrefer-left.ensures.object;
      marks = c.unrefer-left.ensures.marks;
    }

pub returns-then-left-eq0-clause-under : goal.returns-then-left-eq0-clause-under
returns-then-left-eq0-clause-under c =
    ends _ _ _ _ _ _ _ (unrefers (goal.at.returns-then-left-eq0-clause-under c).After-unrefer-left) (omega arith) c.in_ok-row.ensures.ranked

pub returns-then-left-eq0-clause-fit : goal.returns-then-left-eq0-clause-fit
returns-then-left-eq0-clause-fit c = fit_unreferred _ _ _ _ _ _ _ (unrefers (goal.at.returns-then-left-eq0-clause-fit c).After-unrefer-left) c.requires.fit

pub returns-else-left-eq0-clause-under : goal.returns-else-left-eq0-clause-under
returns-else-left-eq0-clause-under c = stays _ _ _ _ _ _ _ (unrefers (goal.at.returns-else-left-eq0-clause-under c).After-unrefer-left) (omega arith)

pub returns-else-left-eq0-clause-fit : goal.returns-else-left-eq0-clause-fit
returns-else-left-eq0-clause-fit c = fit_unreferred _ _ _ _ _ _ _ (unrefers (goal.at.returns-else-left-eq0-clause-fit c).After-unrefer-left) c.requires.fit
