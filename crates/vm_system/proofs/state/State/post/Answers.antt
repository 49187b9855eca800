use Rattle.vm_system.proofs.Common.{Delivered, Event, Posts, subst, sym, ℕ, ◌∙◌, ◌∷◌}
use Rattle.vm_system.proofs.Made.{fresh_made, made_sent, numbers_made}
use Rattle.vm_system.proofs.Posting.{posts_sent}
use Rattle.vm_system.proofs.state.State.post.Goals as goal

pub deliver-requires-clause-fresh : goal.deliver-requires-clause-fresh
deliver-requires-clause-fresh c =
    let may = c.requires.can in
    let can = rw c.in-Sent.is at may.1.can in
    fresh_made c.in-Sent.channel c.in-Sent.message may.0 c.args.self.now.channels.made can.1 may.1.posts.channels

pub deliver-requires-clause-known : goal.deliver-requires-clause-known
deliver-requires-clause-known c =
    let may = c.requires.can in
    let can = rw c.in-Sent.is at may.1.can in
    numbers_made c.in-Sent.channel c.in-Sent.channel c.in-Sent.message may.0 c.args.self.now.channels.made can.1 (may.1.posts.channels c.in-Sent.channel)
    ∙ made_sent c.in-Sent.channel c.in-Sent.message may.0 can.1

pub returns-clause-posts : goal.returns-clause-posts
returns-clause-posts c = λ past may.
    let can = rw c.in-Sent.is at may.can in
    let sent = subst (λ (n : ℕ). Delivered c.in-Sent.channel c.in-Sent.message n c.args.self.now c.deliver.new.self) may.at c.deliver.ensures in
    subst (λ (e : Event). Posts c.deliver.new.self (e ∷ past)) (sym c.in-Sent.is)
    (posts_sent c.in-Sent.channel c.in-Sent.message c.args.self.now c.deliver.new.self past can.0 can.1 may.posts sent)
