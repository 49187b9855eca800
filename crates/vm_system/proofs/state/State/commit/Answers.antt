use Rattle.std.proofs.lemmas.List.{length-reverse, reverse-reverse}
use Rattle.std.specs.Prelude.{drop}
use Rattle.vm_system.proofs.Common.{CanTellAll, Event, HasRoom, List, Listed, Posts, ap, arith, length, refl, reverse, subst, sym, ℕ, ◌+◌, ◌∙◌, ◌∷◌, ◌≡◌}
use Rattle.vm_system.proofs.Posting.{told, told_at, told_long}
use Rattle.vm_system.proofs.state.State.commit.Goals as goal

pub all-init : goal.all-init
all-init c =
    let s = c.args.self.now in
    let events = c.args.events.now.items in
    record {
      posts = c.requires.posts;
      can = subst (λ (all : List Event). CanTellAll s.size all s.history.items) (sym (reverse-reverse events)) c.requires.can;
      rest = λ n all. subst (λ (k : ℕ). HasRoom (n + k) s) (sym (length-reverse events)) all;
      hosts = record { size = refl; hosts = refl; pagers = refl; declared = refl; files = refl; server = refl; log = refl };
      history = refl;
    }

pub post-requires-clause-can : goal.post-requires-clause-can
post-requires-clause-can c =
    let events = c.args.events.now.items in
    let past = c.all.self.history.items in
    let next = told_at c.all.i c.at.result.now events c.all.self.size past c.at.ensures c.all.invariant.can in (
      told c.all.i events past,
      record {
        posts = c.all.invariant.posts;
        can = next.can;
        at = c.index_behind-index.ensures
            ∙ sym (told_long c.all.i events past next.few);
      },
    )

pub all-preserved : goal.all-preserved
all-preserved c =
    let events = c.args.events.now.items in
    let s = c.all.self in
    let t = c.post.new.self in
    let past = s.history.items in
    let e = c.at.result.now in
    let next = told_at c.all.i e events s.size past c.at.ensures c.all.invariant.can in
    let is : told (c.all.i + 1) events t.history.items ≡ e ∷ told c.all.i events past = ap (λ (h : Listed Event). told (c.all.i + 1) events h.items)
    c.post.ensures.history ∙ next.grows in
    let long = ap length next.left in
    let was = c.all.invariant.hosts in
    let now = c.post.ensures.hosts in
    record {
      posts =
          subst (λ (all : List Event). Posts t all) (sym is) (c.post.ensures.posts (told c.all.i events past)
          (record { posts = c.all.invariant.posts; can = next.can; at = c.index_behind-index.ensures ∙ sym (told_long c.all.i events past next.few) }));
      can =
          subst (λ (n : ℕ). CanTellAll n (reverse (drop (c.all.i + 1) (reverse events))) (told (c.all.i + 1) events t.history.items)) (sym now.size)
          (subst (λ (all : List Event). CanTellAll s.size (reverse (drop (c.all.i + 1) (reverse events))) all) (sym is) next.rest);
      rest =
          λ n all. c.post.ensures.room (n + length (drop (c.all.i + 1) (reverse events)))
          (subst (λ (k : ℕ). HasRoom k s) (omega (arith, long)) (c.all.invariant.rest n all));
      hosts =
          record {
            size = now.size ∙ was.size;
            hosts = now.hosts ∙ was.hosts;
            pagers = now.pagers ∙ was.pagers;
            declared = now.declared ∙ was.declared;
            files = now.files ∙ was.files;
            server = now.server ∙ was.server;
            log = now.log ∙ was.log;
          };
      history = c.post.ensures.history ∙ c.all.invariant.history;
    }

pub returns-clause-room : goal.returns-clause-room
returns-clause-room c = λ n has.
    let mid = c.all.invariant.rest n has in
    let same = ap (λ (h : Listed Event). h.room) c.all.invariant.history in
    record {
      history = omega (arith, has.history, same, c.append.ensures.room);
      channels = omega (arith, mid.channels);
      numbers = omega (arith, mid.numbers);
      letters = omega (arith, mid.letters);
    }
