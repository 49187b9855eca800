use Rattle.std.proofs.Common.{◌≡◌, Some, refl}
use Rattle.std.specs.Prelude.{slice_get}
use Rattle.std.proofs.lemmas.Option.{slice_get_read}
use Rattle.sms_proto.proofs.Adding.{on_ok}
use Rattle.sms_proto.proofs.Seeing.{present_of, stage_stands, saw_left}
use Rattle.sms_proto.proofs.stage.Stage.leave.Goals as goal

pub returns-clause-stands : goal.returns-clause-stands
returns-clause-stands c =
    stage_stands c.args.self.now.size c.args.self.now.kernels.items c.args.self.now.directory c.args.self.now.events.items c.leave.new.events.items
    c.args.host.0 c.index_mut.result.now c.leave.new.self c.requires.host
    (slice_get_read c.args.self.now.kernels.items _ c.args.host.0 c.index_mut.result.now refl c.requires.host c.index_mut.ensures.value)
    c.requires.stands c.leave.ensures.fits c.leave.ensures.prompt c.leave.ensures.licensed c.leave.ensures.same.0 c.leave.ensures.same.1 c.leave.ensures.moved

pub returns-clause-takes : goal.returns-clause-takes
returns-clause-takes c =
    let is : slice_get c.args.self.now.kernels.items c.args.host.0 ≡ Some c.index_mut.result.now = slice_get_read c.args.self.now.kernels.items _ c.args.host.0
    c.index_mut.result.now refl c.requires.host c.index_mut.ensures.value in
    let present = present_of c.args.self.now.size c.args.host.0 c.args.self.now.kernels.items c.args.self.now.directory c.args.self.now.events.items
    c.index_mut.result.now c.requires.stands is in
    on_ok c.leave.result _ _ (saw_left c.args.self.now.size c.args.host.0 c.args.self.now.events.items c.leave.new.events.items c.index_mut.result.now present)
    c.leave.ensures.exact
