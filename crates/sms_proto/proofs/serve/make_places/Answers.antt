use Rattle.std.proofs.Common.{◌<◌, ◌∙◌, refl, length, length-set, arith}
use Rattle.std.proofs.lemmas.Option.{slice_get_read, slice_get_within}
use Rattle.sms_proto.specs.declared.kernel.Kernel.{Kernel}
use Rattle.sms_proto.proofs.Answering.{set_same, set_places_below}
use Rattle.sms_proto.proofs.serve.make_places.Goals as goal

pub returns-in_err-make_places-clause-each : goal.returns-in_err-make_places-clause-each
returns-in_err-make_places-clause-each c = λ size history each.
    let within : c.loop-g.g < length c.loop-g.kernels.items = omega (
      arith,
      c.loop-g-test.true,
      c.loop-g.kernels.ok.0,
      c.len-g-end.ensures,
      c.loop-g.invariant.same,
      c.args.kernels.now.ok.0,
    ) in
    set_same size history c.loop-g.kernels.items c.loop-g.g c.index_mut.result.now c.make_places.new.self within
    (slice_get_read c.loop-g.kernels.items _ c.loop-g.g c.index_mut.result.now refl within c.index_mut.ensures.value) c.make_places.ensures.fits
    c.make_places.ensures.page (c.loop-g.invariant.each size history each)

pub loop-g-preserved : goal.loop-g-preserved
loop-g-preserved c =
    let within : c.loop-g.g < length c.loop-g.kernels.items = omega (
      arith,
      c.loop-g-test.true,
      c.loop-g.kernels.ok.0,
      c.len-g-end.ensures,
      c.loop-g.invariant.same,
      c.args.kernels.now.ok.0,
    ) in
    record {
      same = length-set {A = Kernel} c.loop-g.kernels.items c.loop-g.g c.make_places.new.self ∙ c.loop-g.invariant.same;
      each =
          λ size history each. set_same size history c.loop-g.kernels.items c.loop-g.g c.index_mut.result.now c.make_places.new.self within
          (slice_get_read c.loop-g.kernels.items _ c.loop-g.g c.index_mut.result.now refl within c.index_mut.ensures.value) c.make_places.ensures.fits
          c.make_places.ensures.page (c.loop-g.invariant.each size history each);
      places =
          set_places_below c.args.count c.loop-g.g c.loop-g.kernels.items c.make_places.new.self within c.loop-g.invariant.places
          c.in_ok-make_places.ensures.places;
    }

pub returns-clause-places : goal.returns-clause-places
returns-clause-places c =
    λ g k is. c.loop-g.invariant.places g k (omega (
      arith,
      slice_get_within c.loop-g.kernels.items g k is,
      c.loop-g-test.false,
      c.loop-g.invariant.same,
      c.len-g-end.ensures,
      c.args.kernels.now.ok.0,
    )) is
