use Rattle.std.proofs.Common.{◌≡◌, ◌∙◌, ap, sym, subst, refl, Some, ◌∷◌, length, arith, map}
use Rattle.std.specs.Prelude.{slice_get}
use Rattle.std.proofs.lemmas.Option.{slice_get_read}
use Rattle.std.proofs.lemmas.Grind.{common_steps}
use Rattle.vm_model.specs.declared.message.Message.{Message}
use Rattle.vm_model.specs.declared.message.Channel.TheVariants.{Up}
use Rattle.vm_model.specs.declared.event.Event.TheVariants.{Taken}
use Rattle.vm_model.specs.Channels.{up_queue}
use Rattle.vm_model.specs.Server.{first}
use Rattle.vm_model.specs.Side.{rest}
use Rattle.sms_proto.specs.declared.kernel.Kernel.{Kernel}
use Rattle.sms_proto.specs.Letters.{heard_by, letter_message}
use Rattle.sms_proto.proofs.Seeing.{present_of}
use Rattle.sms_proto.proofs.Answering.{same_kernel, first_items, answering_heard, set_places_fewer, taken_is}
use Rattle.sms_proto.proofs.stage.Stage.hear.Goals as goal

pub returns-clause-answering : goal.returns-clause-answering
returns-clause-answering c =
    let within = c.requires.host in
    let is : slice_get c.args.self.now.kernels.items c.args.host.0 ≡ Some c.index_mut.result.now = slice_get_read c.args.self.now.kernels.items _ c.args.host.0
    c.index_mut.result.now refl within c.index_mut.ensures.value in
    let was : slice_get c.args.self.now.kernels.items c.args.host.0 ≡ Some c.index.result.now = slice_get_read c.args.self.now.kernels.items _ c.args.host.0
    c.index.result.now refl within c.index.ensures in
    let also : slice_get c.args.self.now.kernels.items c.args.host.0 ≡ Some c.index-2.result.now = slice_get_read c.args.self.now.kernels.items _ c.args.host.0
    c.index-2.result.now refl within c.index-2.ensures in
    let k_is : c.index.result.now ≡ c.index_mut.result.now = same_kernel _ c.index.result.now c.index_mut.result.now was is in
    let k_also : c.index-2.result.now ≡ c.index_mut.result.now = same_kernel _ c.index-2.result.now c.index_mut.result.now also is in
    let read : first c.index.result.now.up.items ≡ Some c.in-Some.letter.now = grind (arith, common_steps) in
    let front : first c.index_mut.result.now.up.items ≡ Some c.in-Some.letter.now = subst (λ (k : Kernel). first k.up.items ≡ Some c.in-Some.letter.now) k_is
    read in
    let p = present_of c.args.self.now.size c.args.host.0 c.args.self.now.kernels.items c.args.self.now.directory c.args.self.now.events.items
    c.index_mut.result.now c.requires.stands is in
    let heard : c.heard-heard.result ≡ heard_by c.index_mut.result.now.heard c.in-Some.letter.now = c.heard-heard.ensures
    ∙ ap (λ (k : Kernel). heard_by k.heard c.in-Some.letter.now) k_also in
    answering_heard c.args.self.now.size c.args.host.0 c.args.self.now.kernels.items c.args.self.now.directory c.note.new.directory
    c.in_ok-replies.replies.items c.args.self.now.events.items c.hear.new.events.items c.index_mut.result.now c.hear.new.self c.in-Some.letter.now
    (rest c.index_mut.result.now.up.items) within is c.requires.stands (first_items c.index_mut.result.now.up.items c.in-Some.letter.now front)
    (c.in_ok-hear.ensures.exact ∙ ap (λ (m : Message). Taken (Up c.index_mut.result.now.host (record { 0 = 0 })) m ∷ c.args.self.now.events.items)
    c.in_ok-message.ensures)
    (c.in_ok-hear.ensures.fits c.in-Some.letter.now p.fits front c.in_ok-message.ensures heard)
    c.hear.ensures.page c.in_ok-replies.ensures.exact

pub returns-clause-places : goal.returns-clause-places
returns-clause-places c =
    let within = c.requires.host in
    let is : slice_get c.args.self.now.kernels.items c.args.host.0 ≡ Some c.index_mut.result.now = slice_get_read c.args.self.now.kernels.items _ c.args.host.0
    c.index_mut.result.now refl within c.index_mut.ensures.value in
    let was : slice_get c.args.self.now.kernels.items c.args.host.0 ≡ Some c.index.result.now = slice_get_read c.args.self.now.kernels.items _ c.args.host.0
    c.index.result.now refl within c.index.ensures in
    let also : slice_get c.args.self.now.kernels.items c.args.host.0 ≡ Some c.index-2.result.now = slice_get_read c.args.self.now.kernels.items _ c.args.host.0
    c.index-2.result.now refl within c.index-2.ensures in
    let k_is : c.index.result.now ≡ c.index_mut.result.now = same_kernel _ c.index.result.now c.index_mut.result.now was is in
    let k_also : c.index-2.result.now ≡ c.index_mut.result.now = same_kernel _ c.index-2.result.now c.index_mut.result.now also is in
    let read : first c.index.result.now.up.items ≡ Some c.in-Some.letter.now = grind (arith, common_steps) in
    let front : first c.index_mut.result.now.up.items ≡ Some c.in-Some.letter.now = subst (λ (k : Kernel). first k.up.items ≡ Some c.in-Some.letter.now) k_is
    read in
    let p = present_of c.args.self.now.size c.args.host.0 c.args.self.now.kernels.items c.args.self.now.directory c.args.self.now.events.items
    c.index_mut.result.now c.requires.stands is in
    let heard : c.heard-heard.result ≡ heard_by c.index_mut.result.now.heard c.in-Some.letter.now = c.heard-heard.ensures
    ∙ ap (λ (k : Kernel). heard_by k.heard c.in-Some.letter.now) k_also in
    set_places_fewer (length c.in_ok-replies.replies.items) _ c.args.self.now.kernels.items c.args.host.0 c.index_mut.result.now c.hear.new.self
    c.in_ok-replies.ensures.few within is c.requires.places c.hear.ensures.posts.0 c.hear.ensures.posts.1

pub returns-clause-taken : goal.returns-clause-taken
returns-clause-taken c =
    let within = c.requires.host in
    let is : slice_get c.args.self.now.kernels.items c.args.host.0 ≡ Some c.index_mut.result.now = slice_get_read c.args.self.now.kernels.items _ c.args.host.0
    c.index_mut.result.now refl within c.index_mut.ensures.value in
    let was : slice_get c.args.self.now.kernels.items c.args.host.0 ≡ Some c.index.result.now = slice_get_read c.args.self.now.kernels.items _ c.args.host.0
    c.index.result.now refl within c.index.ensures in
    let also : slice_get c.args.self.now.kernels.items c.args.host.0 ≡ Some c.index-2.result.now = slice_get_read c.args.self.now.kernels.items _ c.args.host.0
    c.index-2.result.now refl within c.index-2.ensures in
    let k_is : c.index.result.now ≡ c.index_mut.result.now = same_kernel _ c.index.result.now c.index_mut.result.now was is in
    let k_also : c.index-2.result.now ≡ c.index_mut.result.now = same_kernel _ c.index-2.result.now c.index_mut.result.now also is in
    let read : first c.index.result.now.up.items ≡ Some c.in-Some.letter.now = grind (arith, common_steps) in
    let front : first c.index_mut.result.now.up.items ≡ Some c.in-Some.letter.now = subst (λ (k : Kernel). first k.up.items ≡ Some c.in-Some.letter.now) k_is
    read in
    let p = present_of c.args.self.now.size c.args.host.0 c.args.self.now.kernels.items c.args.self.now.directory c.args.self.now.events.items
    c.index_mut.result.now c.requires.stands is in
    let heard : c.heard-heard.result ≡ heard_by c.index_mut.result.now.heard c.in-Some.letter.now = c.heard-heard.ensures
    ∙ ap (λ (k : Kernel). heard_by k.heard c.in-Some.letter.now) k_also in
    taken_is c.args.host c.index_mut.result.now.host (up_queue c.args.host.0 0 c.args.self.now.events.items)
    (map letter_message (rest c.index_mut.result.now.up.items)) c.in_ok-message.message c.args.self.now.events.items c.hear.new.events.items
    (sym (ap (λ n. up_queue n 0 c.args.self.now.events.items) p.same_host)
    ∙ (p.fits.sent ∙ (ap (map letter_message) (first_items c.index_mut.result.now.up.items c.in-Some.letter.now front)
    ∙ ap (λ (m : Message). m ∷ map letter_message (rest c.index_mut.result.now.up.items)) (sym c.in_ok-message.ensures))))
    (ap (λ n. record { 0 = n }) p.same_host) c.in_ok-hear.ensures.exact
