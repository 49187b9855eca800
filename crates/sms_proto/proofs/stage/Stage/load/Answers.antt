use Rattle.std.proofs.Common.{◌≡◌, Some, refl, false}
use Rattle.std.specs.Prelude.{slice_get}
use Rattle.std.proofs.lemmas.Option.{slice_get_read}
use Rattle.sms_proto.proofs.Adding.{on_ok}
use Rattle.sms_proto.proofs.Seeing.{present_of, stage_stands, saw_access}
use Rattle.sms_proto.proofs.stage.Stage.load.Goals as goal

pub returns-clause-stands : goal.returns-clause-stands
returns-clause-stands c =
    stage_stands c.args.self.now.size c.args.self.now.kernels.items c.args.self.now.directory c.args.self.now.events.items c.access.new.events.items
    c.args.host.0 c.index_mut.result.now c.access.new.self c.requires.host
    (slice_get_read c.args.self.now.kernels.items _ c.args.host.0 c.index_mut.result.now refl c.requires.host c.index_mut.ensures.value)
    c.requires.stands c.access.ensures.fits c.access.ensures.prompt c.access.ensures.licensed c.access.ensures.same.0 c.access.ensures.same.1
    c.access.ensures.moved

pub returns-clause-takes : goal.returns-clause-takes
returns-clause-takes c =
    let is : slice_get c.args.self.now.kernels.items c.args.host.0 ≡ Some c.index_mut.result.now = slice_get_read c.args.self.now.kernels.items _ c.args.host.0
    c.index_mut.result.now refl c.requires.host c.index_mut.ensures.value in
    let present = present_of c.args.self.now.size c.args.host.0 c.args.self.now.kernels.items c.args.self.now.directory c.args.self.now.events.items
    c.index_mut.result.now c.requires.stands is in
    on_ok c.access.result _ _ (saw_access c.args.self.now.size c.args.host c.args.self.now.events.items c.access.new.events.items c.index_mut.result.now false 0
    present) c.access.ensures.goes
