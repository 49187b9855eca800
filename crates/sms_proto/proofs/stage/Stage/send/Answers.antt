use Rattle.std.proofs.Common.{refl, ◌∙◌}
use Rattle.sms_proto.specs.Adds.{Same, ServerDoes}
use Rattle.sms_proto.proofs.Adding.{adds_more}
use Rattle.sms_proto.proofs.stage.Stage.send.Goals as goal

pub each-init : goal.each-init
each-init c =
    record {
      answering = c.requires.answering;
      spare = c.requires.spare;
      pages = c.requires.pages;
      events = c.requires.events;
      places = c.requires.places;
      adds = Same;
      same_size = refl;
      same_hosts = refl;
    }

pub each-preserved : goal.each-preserved
each-preserved c =
    record {
      answering = c.in_ok-send_one.ensures.answering;
      spare = c.send_one.ensures.spare;
      pages = c.send_one.ensures.pages;
      events = c.send_one.ensures.events;
      places = c.in_ok-send_one.ensures.places;
      adds = adds_more ServerDoes _ _ _ c.in_ok-send_one.ensures.adds c.each.invariant.adds;
      same_size = c.send_one.ensures.same.0 ∙ c.each.invariant.same_size;
      same_hosts = c.send_one.ensures.same.1 ∙ c.each.invariant.same_hosts;
    }
