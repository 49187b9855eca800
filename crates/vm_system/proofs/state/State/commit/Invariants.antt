use Rattle.std.specs.Prelude.{drop}
use Rattle.vm_system.proofs.Common.{CanTellAll, HasRoom, Posts, SameHosts, length, reverse, ℕ, ◌+◌, ◌≡◌}
use Rattle.vm_system.proofs.Posting.{told}
use Rattle.vm_system.proofs.state.State.commit.Given as goal

abbrev pub invariant-all : goal.invariant-all
invariant-all l = record {
  posts : Posts l.self (told l.i l.fn.events.items l.self.history.items);
  can : CanTellAll l.self.size (reverse (drop l.i (reverse l.fn.events.items))) (told l.i l.fn.events.items l.self.history.items);
  rest : (n : ℕ) → HasRoom (n + length l.fn.events.items) l.fn.self → HasRoom (n + length (drop l.i (reverse l.fn.events.items))) l.self;
  hosts : SameHosts l.fn.self l.self;
  history : l.self.history ≡ l.fn.self.history;
}
