use Rattle.vm_kernel.proofs.Common.{ap, sym, inl, refl, ◌++◌, ◌∙◌, ◌∷◌, [], Down, host_id, inr}
use Rattle.vm_model.specs.declared.event.Event.TheVariants as event
use Rattle.vm_model.specs.declared.message.Channel.TheVariants.{Up}
use Rattle.vm_model.specs.declared.message.Message.TheVariants as message
use Rattle.vm_kernel.proofs.controls.StaySaid.{ChangeSaid, change_live, change_none, said_done, keeps_ok}
use Rattle.vm_kernel.proofs.parts.Parts.change.Given as given
use Rattle.vm_kernel.proofs.parts.Parts.change.Goals as goal
use Rattle.vm_kernel.proofs.parts.Parts.change.Goals.{After-keep-arg-2-1, then-reply+in_ok-push, else-reply}

pub returns-then-not-is_live-clause-says : goal.returns-then-not-is_live-clause-says
returns-then-not-is_live-clause-says g c =
    change_none g.given.header g.given.host g.given.outside g.given.command c.args.self.now c.args.ids.now g.given.past g.given.front c.args.log.now.items
    c.args.object c.args.control c.args.message.now c.requires.0 c.requires.1.0 c.requires.1.1.0 c.requires.1.1.1
    (sym c.is_live.ensures ∙ c.if-not-is_live.true)

-- it was for the live control
said : (g : given.Over) (c : goal.After-keep-arg-2-1 g) → ChangeSaid g.given.header g.given.host g.given.outside g.given.command c.args.self.now c.args.ids.now
    c.args.object c.in-Attributes.cache (g.given.front ++ g.given.past) c.if-reply.log.items
said g c =
    change_live g.given.header g.given.host g.given.outside g.given.command c.args.self.now c.args.ids.now g.given.past g.given.front
    c.if-reply.log.items c.args.object c.args.control c.in-Attributes.cache c.in-Attributes.strategy c.in-Attributes.reply c.requires.0
    (c.requires.1.0 ∙ ap (λ z. event.Taken (Down (host_id g.given.host) c.args.object c.args.control) z ∷ []) c.in-Attributes.is)
    (sym c.is_live.ensures ∙ c.if-not-is_live.false)
    (elim c.if-reply.branch [
      | then-reply+in_ok-push w ↦ inr (
        w.if-reply.true,
        ap (λ z. z.items) w.log-is ∙ (w.in_ok-push.ensures.ok ∙ ap (λ z. event.Sent (Up c.args.self.now.host
            c.args.object) (message.Changed c.args.control c.in-Attributes.cache c.in-Attributes.strategy) ∷ z) c.requires.1.1.1),
      )
      | else-reply w ↦ inl (w.if-reply.false, ap (λ z. z.items) w.log-is ∙ c.requires.1.1.1)
    ])

pub keep-requires : goal.keep-requires
keep-requires g c = (said g c).keep

pub returns-clause-says : goal.returns-clause-says
returns-clause-says g c =
    let all = said g (goal.at.returns-clause-says g c).After-keep-arg-2-1 in
    keeps_ok c.keep.result (λ works goes waits plays only. said_done c.args.self.now c.args.self.now c.keep.new.self (inl refl) all.took all.goes all.quiet
    all.plays refl works goes waits plays only)
    c.keep.ensures.works c.keep.ensures.goes c.keep.ensures.waits c.keep.ensures.plays c.keep.ensures.only
