use Rattle.vm_base.proofs.Results.{on_ok}
use Rattle.vm_merge.proofs.Making.{Calls, merges_into}
use Rattle.vm_merge.proofs.merging.merge_into.Goals as goal
use Rattle.vm_merge.proofs.merging.merge_into.Goals.{After-unrefer}

calls : (c : After-unrefer) → Calls c.args.upper c.args.lower c.in-Some.link c.unrefer.result c.args.parts.now c.merge_pages.new.self c.unrefer.new.self
    c.args.chains.now c.merge.new.self
calls c =
    record {
      found = c.in-Some.ensures.value;
      pages = c.merge_pages.ensures.merge;
      same = c.merge_pages.ensures.objects;
      chain = c.merge.ensures.merges;
      left_is = c.unrefer.ensures.left;
      put = c.unrefer.ensures.object;
      marks = c.unrefer.ensures.marks;
    }

pub returns-clause-merges : goal.returns-clause-merges
returns-clause-merges c = λ copies can least.
    merges_into c.args.upper c.args.lower c.in-Some.link c.unrefer.result c.args.parts.now c.merge_pages.new.self c.unrefer.new.self
    c.args.chains.now c.merge.new.self c.args.log.now.items c.push.new.self.items can
    (calls (goal.at.returns-clause-merges c).After-unrefer)
    (on_ok c.push.result _ c.push.ensures.ok (c.push.ensures.succeeds c.requires.room)) least
