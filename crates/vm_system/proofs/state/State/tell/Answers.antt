use Rattle.vm_system.proofs.Common.{Event, List, Listed, Posts, ap, arith, subst, sym, ◌∙◌, ◌∷◌}
use Rattle.vm_system.proofs.state.State.tell.Goals as goal

pub post-requires-clause-can : goal.post-requires-clause-can
post-requires-clause-can c = (c.args.self.now.history.items, record { posts = c.requires.posts; can = c.requires.can; at = c.len-index.ensures })

pub returns-clause-posts : goal.returns-clause-posts
returns-clause-posts c =
    let told = c.post.ensures.posts c.args.self.now.history.items (record { posts = c.requires.posts; can = c.requires.can; at = c.len-index.ensures }) in
    let t = record c.post.new.self { history = c.push.new.self } in
    let now : Posts t (c.args.event ∷ c.args.self.now.history.items) = record {
      channels = told.channels;
      count = told.count;
      letters = told.letters;
      pages = told.pages;
      buffers = told.buffers;
    } in
    subst (λ (all : List Event). Posts t all) (sym (c.in-Ok.ensures.ok ∙ ap (λ (h : Listed Event). c.args.event ∷ h.items) c.post.ensures.history)) now

pub returns-clause-room : goal.returns-clause-room
returns-clause-room c = λ n has.
    let mid = c.post.ensures.room n has in
    record {
      history = omega (arith, has.history, ap (λ (h : Listed Event). h.room) c.post.ensures.history, c.push.ensures.room);
      channels = mid.channels;
      numbers = mid.numbers;
      letters = mid.letters;
    }
