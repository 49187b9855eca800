use Rattle.std.specs.Prelude.{[], ◌++◌}
use Rattle.vm_supply.specs.declared.woken.Woken.TheVariants as woken
use Rattle.vm_kernel.proofs.memory.SourceIsTold.{front_source, reads_it}
use Rattle.vm_kernel.proofs.memory.SourceOfCopy.{copies_source, only_copies, to_copy, walks_down}
use Rattle.vm_kernel.proofs.parts.Parts.source.Goals as goal

pub source-requires : goal.source-requires
source-requires g c =
    walks_down g.given.header g.given.host c.args.self.now c.args.ids.now (c.args.log.now.items ++ g.given.past) [] c.in_ok-waiting.waiting.task.0
    c.in_ok-waiting.waiting.want c.requires.matches
    (c.requires.waits.allowed c.in_ok-waiting.waiting.task.0 c.in_ok-waiting.waiting c.in_ok-waiting.ensures.row.0)
    (c.requires.waits.sized c.in_ok-waiting.waiting.task.0 c.in_ok-waiting.waiting c.in_ok-waiting.ensures.row.0)

pub returns-clause-to_copy : goal.returns-clause-to_copy
returns-clause-to_copy g c =
    let past = c.args.log.now.items ++ g.given.past in
    let w = c.in_ok-waiting.waiting in
    copies_source g.given.header g.given.host past c.args.self.now w.task c.source.result
    (to_copy g.given.header g.given.host c.args.self.now c.args.ids.now past woken.Nobody w c.source.result c.requires.matches c.requires.used
    c.requires.referred c.requires.waits c.in_ok-waiting.ensures.row.0 c.source.ensures)

pub returns-clause-source : goal.returns-clause-source
returns-clause-source g c =
    let past = c.args.log.now.items ++ g.given.past in
    let w = c.in_ok-waiting.waiting in
    front_source g.given.header g.given.host c.source.result c.args.self.now.waits.queue w.task past c.in_ok-waiting.ensures.first
    (only_copies g.given.header g.given.host past c.args.self.now w.task c.source.result
    (to_copy g.given.header g.given.host c.args.self.now c.args.ids.now past woken.Nobody w c.source.result c.requires.matches c.requires.used
    c.requires.referred c.requires.waits c.in_ok-waiting.ensures.row.0 c.source.ensures))
    (reads_it g.given.header g.given.host past c.args.self.now c.args.ids.now woken.Nobody w c.source.result c.requires.matches c.requires.waits
    c.requires.used.copies c.in_ok-waiting.ensures.row.0 c.source.ensures)
