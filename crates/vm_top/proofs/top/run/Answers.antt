use Rattle.std.proofs.Common.{inr, Err, ap, sym, ◌∙◌}
use Rattle.vm_text.specs.Script.{script_of}
use Rattle.vm_top.specs.declared.top.Status.TheVariants.{BadScript}
use Rattle.vm_top.specs.Ending.{Tells}
use Rattle.vm_top.specs.Top.{bad_text}
use Rattle.vm_top.proofs.Ends.{bad_from, bad_of, done_of, full_of, held_ranges, memory_of, never_read, output_of, read_from, runnable, tells_start}
use Rattle.vm_top.proofs.Readings.{failed_leaves, read_leaves, stopped_leaves, tells_no_read}
use Rattle.vm_top.proofs.top.run.Goals as goal

pub returns-in-Err-Bad-clause-output : goal.returns-in-Err-Bad-clause-output
returns-in-Err-Bad-clause-output g c = λ is.
    let spells = ap script_of (sym c.deref.ensures.value) ∙ (rw c.in-Err-Bad.field-0-is at c.in-Err-Bad.ensures.exact) in
    let bad = bad_from (g.S.Source.left c.args.source.now) _ c.in-Ok.bytes.items c.in-Err-Bad.line c.in-Err-Bad.kind c.in-Ok.ensures.whole spells in
    let told : Tells (BadScript c.in-Err-Bad.line c.in-Err-Bad.kind) (bad_text c.in-Err-Bad.line c.in-Err-Bad.kind) (g.K.Sink.written c.args.out.now)
    (g.K.Sink.written c.tell_bad-status.new.out) c.tell_bad-status.result = rw c.in-Err-Bad.field-0-is at c.tell_bad-status.ensures.told in
    inr (c.ended-in-Err-Bad.ensures.nothing, c.in-Err-Bad.line, c.in-Err-Bad.kind, bad, tells_start _ _ _ _ _ told)

pub returns-in-Err-Bad-clause-memory : goal.returns-in-Err-Bad-clause-memory
returns-in-Err-Bad-clause-memory g c = λ is.
    let spells = ap script_of (sym c.deref.ensures.value) ∙ (rw c.in-Err-Bad.field-0-is at c.in-Err-Bad.ensures.exact) in
    let bad = bad_from (g.S.Source.left c.args.source.now) _ c.in-Ok.bytes.items c.in-Err-Bad.line c.in-Err-Bad.kind c.in-Ok.ensures.whole spells in
    let told : Tells (BadScript c.in-Err-Bad.line c.in-Err-Bad.kind) (bad_text c.in-Err-Bad.line c.in-Err-Bad.kind) (g.K.Sink.written c.args.out.now)
    (g.K.Sink.written c.tell_bad-status.new.out) c.tell_bad-status.result = rw c.in-Err-Bad.field-0-is at c.tell_bad-status.ensures.told in
    inr (inr (c.ended-in-Err-Bad.ensures.nothing, c.in-Err-Bad.line, c.in-Err-Bad.kind, bad, tells_start _ _ _ _ _ told))

pub returns-in-Err-Bad-clause-bad : goal.returns-in-Err-Bad-clause-bad
returns-in-Err-Bad-clause-bad g c = λ line kind is.
    let spells = ap script_of (sym c.deref.ensures.value) ∙ (rw c.in-Err-Bad.field-0-is at c.in-Err-Bad.ensures.exact) in
    let bad = bad_from (g.S.Source.left c.args.source.now) _ c.in-Ok.bytes.items c.in-Err-Bad.line c.in-Err-Bad.kind c.in-Ok.ensures.whole spells in
    let told : Tells (BadScript c.in-Err-Bad.line c.in-Err-Bad.kind) (bad_text c.in-Err-Bad.line c.in-Err-Bad.kind) (g.K.Sink.written c.args.out.now)
    (g.K.Sink.written c.tell_bad-status.new.out) c.tell_bad-status.result = rw c.in-Err-Bad.field-0-is at c.tell_bad-status.ensures.told in
    bad_of _ _ _ c.in-Err-Bad.line line c.in-Err-Bad.kind kind _ _ c.tell_bad-status.result c.ended-in-Err-Bad.ensures.nothing bad told
    (sym c.ended-in-Err-Bad.ensures.status ∙ is)

pub returns-in-Err-Failed-clause-source : goal.returns-in-Err-Failed-clause-source
returns-in-Err-Failed-clause-source g c =
    failed_leaves _ _ _ _ (c.read_all.ensures.failed (c.in-Err-Failed.is ∙ ap Err c.in-Err-Failed.field-0-is)) c.ended.ensures.status

pub returns-in-Err-NoMemory-clause-source : goal.returns-in-Err-NoMemory-clause-source
returns-in-Err-NoMemory-clause-source g c =
    stopped_leaves _ _ _ _ (c.read_all.ensures.stopped (c.in-Err-NoMemory.is ∙ ap Err c.in-Err-NoMemory.field-0-is)) c.ended-in-Err-NoMemory.ensures.status
    c.ended-in-Err-NoMemory.ensures.nothing.none

pub returns-in-Err-Bad-clause-source : goal.returns-in-Err-Bad-clause-source
returns-in-Err-Bad-clause-source g c =
    let other = tells_no_read _ c.tell_bad-status.result _ _ _ c.tell_bad-status.ensures.told (λ e. absurd (cc)) in
    read_leaves (g.S.Source.left c.args.source.now) _ c.in-Ok.bytes.items _ _ c.in-Ok.ensures.whole (λ is. other (sym c.ended-in-Err-Bad.ensures.status ∙ is))

pub returns-clause-source : goal.returns-clause-source
returns-clause-source g c =
    read_leaves (g.S.Source.left c.args.source.now) _ c.in-Ok.bytes.items _ _ c.in-Ok.ensures.whole
    (never_read c.args.report c.in-Ok-read_script.script _ _ _ _ _ _ c.run_read.ensures.ended)

pub run_read-requires-clause-run : goal.run_read-requires-clause-run
run_read-requires-clause-run g c = runnable c.in-Ok-read_script.script c.in-Ok-read_script.ensures.ranges c.in-Ok-read_script.ensures.declares

pub returns-clause-ranges : goal.returns-clause-ranges
returns-clause-ranges g c = held_ranges _ c.in-Ok-read_script.script c.run_read.ensures.ended.held c.in-Ok-read_script.ensures.ranges

pub returns-clause-done : goal.returns-clause-done
returns-clause-done g c =
    let spells = ap script_of (sym c.deref.ensures.value) ∙ c.in-Ok-read_script.ensures.exact in
    let read = read_from (g.S.Source.left c.args.source.now) _ c.in-Ok.bytes.items c.in-Ok-read_script.script c.in-Ok.ensures.whole spells in
    done_of _ _ _ _ c.args.report c.in-Ok-read_script.script _ _ _ read c.run_read.ensures.ended

pub returns-clause-output : goal.returns-clause-output
returns-clause-output g c =
    let spells = ap script_of (sym c.deref.ensures.value) ∙ c.in-Ok-read_script.ensures.exact in
    let read = read_from (g.S.Source.left c.args.source.now) _ c.in-Ok.bytes.items c.in-Ok-read_script.script c.in-Ok.ensures.whole spells in
    output_of _ _ _ _ c.args.report c.in-Ok-read_script.script _ _ _ read c.run_read.ensures.ended

pub returns-clause-memory : goal.returns-clause-memory
returns-clause-memory g c =
    let spells = ap script_of (sym c.deref.ensures.value) ∙ c.in-Ok-read_script.ensures.exact in
    let read = read_from (g.S.Source.left c.args.source.now) _ c.in-Ok.bytes.items c.in-Ok-read_script.script c.in-Ok.ensures.whole spells in
    memory_of _ _ _ _ c.args.report c.in-Ok-read_script.script _ _ _ read c.run_read.ensures.ended

pub returns-clause-full : goal.returns-clause-full
returns-clause-full g c =
    let spells = ap script_of (sym c.deref.ensures.value) ∙ c.in-Ok-read_script.ensures.exact in
    let read = read_from (g.S.Source.left c.args.source.now) _ c.in-Ok.bytes.items c.in-Ok-read_script.script c.in-Ok.ensures.whole spells in
    full_of _ _ _ _ c.args.report c.in-Ok-read_script.script _ _ _ read c.run_read.ensures.ended
