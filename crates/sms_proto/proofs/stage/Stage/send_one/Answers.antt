use Rattle.std.proofs.Common.{◌≡◌, ◌<◌, ◌∙◌, ap, sym, subst, refl, Some, ℕ, ◌∷◌, length, arith}
use Rattle.std.specs.Prelude.{slice_get}
use Rattle.std.proofs.lemmas.Option.{slice_get_read}
use Rattle.vm_base.specs.declared.ids.HostId.{HostId}
use Rattle.sms_proto.specs.declared.letter.Order.{Order}
use Rattle.sms_proto.specs.declared.letter.Order.TheVariants as order
use Rattle.sms_proto.specs.Adds.{ServerDoes}
use Rattle.sms_proto.specs.Letters.{order_sent}
use Rattle.sms_proto.specs.Kernels.{IsWholeOrder}
use Rattle.sms_proto.specs.Worlds.{Present, StandsAt, IsSupplied}
use Rattle.sms_proto.proofs.Adding.{added}
use Rattle.sms_proto.proofs.Answering.{supplied_long, answer_whole, reply_within, answering_sent, set_places}
use Rattle.sms_proto.proofs.stage.Stage.send_one.Goals as goal

pub message_of-requires-clause-long : goal.message_of-requires-clause-long
message_of-requires-clause-long c =
    subst (λ (o : Order). IsSupplied o c.args.self.now.spare.items) (sym c.order_of-order.ensures)
    (supplied_long c.args.self.now.size _ c.args.self.now.spare.items (answer_whole _ _ _ _ _ _ c.requires.answering) c.requires.spare)

pub index_mut-requires : goal.index_mut-requires
index_mut-requires c =
    let within : c.host_of-host.result.0 < length c.args.self.now.kernels.items = subst (λ (h : HostId). h.0 < length c.args.self.now.kernels.items)
    (sym c.host_of-host.ensures) (reply_within _ _ _ _ _ _ c.requires.answering) in
    omega (arith, c.args.self.now.kernels.ok.0)

pub post-requires-clause-place : goal.post-requires-clause-place
post-requires-clause-place c =
    let within : c.host_of-host.result.0 < length c.args.self.now.kernels.items = subst (λ (h : HostId). h.0 < length c.args.self.now.kernels.items)
    (sym c.host_of-host.ensures) (reply_within _ _ _ _ _ _ c.requires.answering) in
    let is : slice_get c.args.self.now.kernels.items c.host_of-host.result.0 ≡ Some c.index_mut.result.now = slice_get_read c.args.self.now.kernels.items _
    c.host_of-host.result.0 c.index_mut.result.now refl within c.index_mut.ensures.value in
    omega (arith, c.requires.places c.host_of-host.result.0 c.index_mut.result.now is)

pub post-requires-clause-whole : goal.post-requires-clause-whole
post-requires-clause-whole c =
    let within : c.host_of-host.result.0 < length c.args.self.now.kernels.items = subst (λ (h : HostId). h.0 < length c.args.self.now.kernels.items)
    (sym c.host_of-host.ensures) (reply_within _ _ _ _ _ _ c.requires.answering) in
    let is : slice_get c.args.self.now.kernels.items c.host_of-host.result.0 ≡ Some c.index_mut.result.now = slice_get_read c.args.self.now.kernels.items _
    c.host_of-host.result.0 c.index_mut.result.now refl within c.index_mut.ensures.value in
    let p : Present c.args.self.now.size c.host_of-host.result.0 c.args.self.now.events.items c.index_mut.result.now = subst
    (λ o. StandsAt c.args.self.now.size c.host_of-host.result.0 c.args.self.now.events.items o) is (c.requires.answering.each c.host_of-host.result.0) in
    subst (λ (n : ℕ). IsWholeOrder n c.order_of-order.result) (sym p.same_size) (subst (λ (o : Order). IsWholeOrder c.args.self.now.size o)
    (sym c.order_of-order.ensures) (answer_whole _ _ _ _ _ _ c.requires.answering))

pub post-requires-clause-fits : goal.post-requires-clause-fits
post-requires-clause-fits c =
    let within : c.host_of-host.result.0 < length c.args.self.now.kernels.items = subst (λ (h : HostId). h.0 < length c.args.self.now.kernels.items)
    (sym c.host_of-host.ensures) (reply_within _ _ _ _ _ _ c.requires.answering) in
    let is : slice_get c.args.self.now.kernels.items c.host_of-host.result.0 ≡ Some c.index_mut.result.now = slice_get_read c.args.self.now.kernels.items _
    c.host_of-host.result.0 c.index_mut.result.now refl within c.index_mut.ensures.value in
    let p : Present c.args.self.now.size c.host_of-host.result.0 c.args.self.now.events.items c.index_mut.result.now = subst
    (λ o. StandsAt c.args.self.now.size c.host_of-host.result.0 c.args.self.now.events.items o) is (c.requires.answering.each c.host_of-host.result.0) in
    p.fits

pub returns-clause-answering : goal.returns-clause-answering
returns-clause-answering c =
    let within : c.host_of-host.result.0 < length c.args.self.now.kernels.items = subst (λ (h : HostId). h.0 < length c.args.self.now.kernels.items)
    (sym c.host_of-host.ensures) (reply_within _ _ _ _ _ _ c.requires.answering) in
    let is : slice_get c.args.self.now.kernels.items c.host_of-host.result.0 ≡ Some c.index_mut.result.now = slice_get_read c.args.self.now.kernels.items _
    c.host_of-host.result.0 c.index_mut.result.now refl within c.index_mut.ensures.value in
    answering_sent c.args.self.now.size c.host_of-host.result.0 c.args.self.now.kernels.items c.args.self.now.directory c.args.rest.now.items c.args.reply
    c.args.self.now.events.items c.post.new.events.items c.index_mut.result.now c.post.new.self within is (ap (λ (h : HostId). h.0) c.host_of-host.ensures)
    c.requires.answering
    (c.in_ok-post.ensures.exact ∙ ap (λ (o : Order). order_sent c.index_mut.result.now.host c.index_mut.result.now.heard o ∷ c.args.self.now.events.items)
    c.order_of-order.ensures)
    c.in_ok-post.ensures.fits c.post.ensures.page c.post.ensures.heard

pub returns-clause-spare : goal.returns-clause-spare
returns-clause-spare c =
    c.message_of.ensures.long c.args.self.now.size (subst (λ (o : Order). IsWholeOrder c.args.self.now.size o) (sym c.order_of-order.ensures)
    (answer_whole _ _ _ _ _ _ c.requires.answering)) c.requires.spare

pub returns-clause-places : goal.returns-clause-places
returns-clause-places c =
    let within : c.host_of-host.result.0 < length c.args.self.now.kernels.items = subst (λ (h : HostId). h.0 < length c.args.self.now.kernels.items)
    (sym c.host_of-host.ensures) (reply_within _ _ _ _ _ _ c.requires.answering) in
    let is : slice_get c.args.self.now.kernels.items c.host_of-host.result.0 ≡ Some c.index_mut.result.now = slice_get_read c.args.self.now.kernels.items _
    c.host_of-host.result.0 c.index_mut.result.now refl within c.index_mut.ensures.value in
    set_places (length c.args.rest.now.items) c.args.self.now.kernels.items c.host_of-host.result.0 c.post.new.self within c.requires.places
    (omega (arith, c.requires.places c.host_of-host.result.0 c.index_mut.result.now is, c.post.ensures.posts.0, c.post.ensures.posts.1))

pub returns-clause-adds : goal.returns-clause-adds
returns-clause-adds c = added ServerDoes _ _ _ c.in_ok-post.ensures.exact (does c.order_of-order.result) where
  does : (o : Order) → ServerDoes (order_sent c.index_mut.result.now.host c.index_mut.result.now.heard o)
  does (order.Supply writes bytes) = (refl, refl)
  does order.Flush = (refl, refl)
  does order.Clean = (refl, refl)
  does order.Unlock = (refl, refl)
