use Rattle.vm_system.proofs.Common.{BufferStore, Channel, Message, PortTable, Some, ap, first, lined, queue, same_Some, subst, sym, ℕ, ◌∙◌, ◌∷◌, ◌≡◌}
use Rattle.vm_model.specs.declared.event.Event.TheVariants as event
use Rattle.vm_system.proofs.Posting.{first_read, first_taken, none_taken, posts_taken}
use Rattle.vm_ports.specs.Ports as ports
use Rattle.vm_system.proofs.state.State.take_first.Goals as goal

pub unreachable-requires : goal.unreachable-requires
unreachable-requires c =
    let channel = c.channel-channel.result in
    c.requires.some channel c.channel-channel.ensures.channel
    (none_taken channel c.args.number.0 c.args.self.now c.args.self.now.history.items c.channel-channel.ensures.number c.requires.posts
    c.in_default.ensures.taken)

-- the message is the first of its channel
pub sent-requires : goal.sent-requires
sent-requires c =
    let channel = c.channel-channel.result in
    let s = c.args.self.now in
    let f = first_taken channel c.in-Some.index c.args.number.0 (ports.queue c.args.number.0 c.take.new.self.letters) s s.history.items
    c.channel-channel.ensures.number c.requires.posts c.in-Some.ensures.taken in
    (channel, f.0, f.1.sent)

pub copy-message-requires-clause-size : goal.copy-message-requires-clause-size
copy-message-requires-clause-size c =
    let channel = c.channel-channel.result in
    let s = c.args.self.now in
    let f = first_read channel c.in-Some.index c.args.number.0 (ports.queue c.args.number.0 c.take.new.self.letters) c.sent.result.now s s.history.items
    c.channel-channel.ensures.number c.requires.posts c.in-Some.ensures.taken c.sent.ensures in
    f.page

pub returns-clause-posts : goal.returns-clause-posts
returns-clause-posts c =
    let channel = c.channel-channel.result in
    let m = c.copy-message.result in
    let same = c.start.ensures.same in
    posts_taken channel m c.args.number.0 c.args.line c.args.self.now _ c.args.self.now.history.items c.push.new.self.items c.channel-channel.ensures.number
    c.requires.posts
    (c.in-Ok.ensures.ok ∙ ap (λ past. event.Taken channel m ∷ past) c.start.ensures.history)
    (ap (λ (table : PortTable ℕ). table.letters) same.ports ∙ c.take.ensures.letters)
    (ap (λ (table : PortTable ℕ). table.channels) same.ports ∙ c.take.ensures.channels)
    same.channels
    (ap (λ (store : BufferStore). store.size) same.buffers ∙ c.copy-message.ensures.size)
    c.start.ensures.hosts.size

pub returns-clause-history : goal.returns-clause-history
returns-clause-history c = λ channel is.
    let mine = c.channel-channel.result in
    let s = c.args.self.now in
    let past = s.history.items in
    let m = c.copy-message.result in
    let same : mine ≡ channel = same_Some mine channel (sym c.channel-channel.ensures.channel ∙ is) in
    let f = first_read mine c.in-Some.index c.args.number.0 (ports.queue c.args.number.0 c.take.new.self.letters) c.sent.result.now s past
    c.channel-channel.ensures.number c.requires.posts c.in-Some.ensures.taken c.sent.ensures in
    let head : first (queue mine past) ≡ Some m = f.front ∙ ap (λ (z : Message). Some z) (sym c.copy-message.ensures.same) in
    let all : c.push.new.self.items ≡ event.Taken mine m ∷ lined c.args.line past = c.in-Ok.ensures.ok
    ∙ ap (λ past. event.Taken mine m ∷ past) c.start.ensures.history in
    subst (λ (k : Channel). (x : Message) × (first (queue k past) ≡ Some x) × (c.push.new.self.items ≡ event.Taken k x ∷ lined c.args.line past)) same
    (m, head, all)
