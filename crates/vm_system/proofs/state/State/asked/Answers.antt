use Rattle.vm_system.proofs.Common.{Command, None, ap, is_some, refl, refusal, subst, ◌≡◌}
use Rattle.vm_model.specs.Ranges.{InRange}
use Rattle.vm_kernel.proofs.steps.EventsGrow.{if_ok}
use Rattle.vm_system.proofs.Beginning.{there_at}
use Rattle.vm_system.proofs.Cleaning.{asked_is, cached_file, clean_few, cleaned_file, stay_few, stay_is}
use Rattle.vm_system.proofs.Spoken.{heeded}
use Rattle.vm_system.proofs.state.State.asked.Goals as goal

pub returns-in-Clean : goal.returns-in-Clean
returns-in-Clean g c =
    let s = c.args.self.now in
    let clean = c.in-Clean in
    let stands = c.requires.0 in
    let range = subst (λ (z : Command). InRange g.given.header z) clean.is c.requires.1.1.0 in
    let accepted = subst (λ (z : Command). refusal g.given.header s.history.items z ≡ None) clean.is c.requires.1.1.1.1 in
    let file = cleaned_file g.given.header s.history.items clean.object clean.page clean.count clean.flush accepted in
    let there = there_at s.files.items clean.object.0 c.index.result.now _ stands.agrees.files.count range.0 c.index.ensures in
    record {
      head = if_ok c.clean.result (λ events says. rw (c.requires.1.0.1, clean.is)
          (asked_is g.given.header g.given.outside s clean.object clean.page clean.count clean.flush c.requires.1.0.0 c.index.result.now events.items stands
          file
          there says)) c.clean.ensures;
      few = if_ok c.clean.result (λ events says. clean_few c.index.result.now.known c.index.result.now.object clean.page
          clean.count clean.flush events.items says) c.clean.ensures;
    }

pub returns-in-Cache : goal.returns-in-Cache
returns-in-Cache g c =
    let s = c.args.self.now in
    let stay = c.in-Cache in
    let stands = c.requires.0 in
    let range = subst (λ (z : Command). InRange g.given.header z) stay.is c.requires.1.1.0 in
    let accepted = subst (λ (z : Command). refusal g.given.header s.history.items z ≡ None) stay.is c.requires.1.1.1.1 in
    let file = cached_file g.given.header s.history.items stay.object stay.cache accepted in
    let there = there_at s.files.items stay.object.0 c.index-in-Cache.result.now _ stands.agrees.files.count range c.index-in-Cache.ensures in
    record {
      head = if_ok c.cache.result (λ events says. rw (c.requires.1.0.1, stay.is)
          (stay_is g.given.header g.given.outside s stay.object stay.cache c.requires.1.0.0 c.index-in-Cache.result.now events.items stands file there says))
          c.cache.ensures;
      few =
          if_ok c.cache.result (λ events says. stay_few c.index-in-Cache.result.now.known c.index-in-Cache.result.now.object stay.cache events.items says)
          c.cache.ensures;
    }

pub say-requires : goal.say-requires
say-requires g c =
    let s = c.args.self.now in
    let said = c.in-Say in
    let stands = c.requires.0 in
    let range = subst (λ (z : Command). InRange g.given.header z) said.is c.requires.1.1.0 in
    let accepted = subst (λ (z : Command). refusal g.given.header s.history.items z ≡ None) said.is c.requires.1.1.1.1 in
    let heed = heeded g.given.header s.history.items said.host said.object said.message accepted in
    (stands, (refl, (range.0, (rw stands.agrees.size range.2, ap is_some heed.lives))))

pub returns-in-Say : goal.returns-in-Say
returns-in-Say g c =
    let said = c.in-Say in record {
      head = if_ok c.say.result (λ events says. rw (c.requires.1.0.1, said.is) says) c.say.ensures.head;
      few = c.say.ensures.few;
    }
