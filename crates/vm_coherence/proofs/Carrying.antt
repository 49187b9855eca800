-- What is awaited is on its way, or with the server, in words instead of counts.
use Rattle.std.proofs.Common.{◌≡◌, ◌∙◌, ℕ, zero, suc, ◌+◌, ◌<◌, ◌≤◌, List, [], ◌∷◌, arith, Bool, true, false, inl, inr, refl, sym, if◌then◌else◌}
use Rattle.std.specs.Prelude.{◌||◌, ◌⊎◌}
use Rattle.std.specs.List.{list_any}
use Rattle.std.proofs.lemmas.Bool.Decides.{nat_tests}
use Rattle.vm_model.specs.Words.{UpWord, Act, DownWord}
use Rattle.vm_model.specs.Coherence.{StepsDone}
use Rattle.vm_model.specs.PageLicences.{ActsLicensed}
use Rattle.vm_model.specs.Side.{Side, side}
use Rattle.vm_model.specs.Server.{Wanting, line}
use Rattle.vm_coherence.specs.Carried as spec
use Rattle.vm_coherence.proofs.Carried.{Carried}
use Rattle.vm_coherence.proofs.Law.{World, world}
use Rattle.vm_coherence.proofs.Line.{request, total, upgrade}
use Rattle.vm_coherence.proofs.Queues.{any_reply, asks, ends, sum_down, sum_up, supplies}
use Rattle.vm_coherence.proofs.Sound.{Sound}
use Rattle.vm_coherence.proofs.Still.{upgrades, waits}
use Rattle.vm_coherence.proofs.Ways.{does_of, locks, strange, unlocks, unlocks_left}

-- what is counted is there

either_true : (a b : Bool) (m n : ℕ) → (0 < m → a ≡ true) → (0 < n → b ≡ true) → 0 < m + n → (a || b) ≡ true
either_true true b m n one more some = refl
either_true false b zero n one more some = more (omega (arith, some))
either_true false b (suc m) n one more some = absurd (let bad : false ≡ true = one (omega arith) in cc)

up_is : (f : UpWord → ℕ) (test : UpWord → Bool) → ((w : UpWord) → 0 < f w → test w ≡ true) → (q : List UpWord) → 0 < sum_up f q → list_any test q ≡ true
up_is f test is [] some = absurd (omega (arith, some))
up_is f test is (w ∷ q) some = either_true (test w) (list_any test q) (f w) (sum_up f q) (is w) (up_is f test is q) some

down_is : (f : DownWord → ℕ) (test : DownWord → Bool) → ((w : DownWord) → 0 < f w → test w ≡ true) → (q : List DownWord) → 0 < sum_down f q
    → list_any test q ≡ true
down_is f test is [] some = absurd (omega (arith, some))
down_is f test is (w ∷ q) some = either_true (test w) (list_any test q) (f w) (sum_down f q) (is w) (down_is f test is q) some

line_is : (f : Wanting → ℕ) (test : Wanting → Bool) → ((w : Wanting) → 0 < f w → test w ≡ true) → (ws : List Wanting) → 0 < total f ws → list_any test ws ≡ true
line_is f test is [] some = absurd (omega (arith, some))
line_is f test is (w ∷ ws) some = either_true (test w) (list_any test ws) (f w) (total f ws) (is w) (line_is f test is ws) some

-- what is there is counted

down_counts : (f : DownWord → ℕ) (test : DownWord → Bool) → ((w : DownWord) → test w ≡ true → 0 < f w) → (q : List DownWord) → list_any test q ≡ true
    → 0 < sum_down f q
down_counts f test is [] some = absurd (let bad : false ≡ true = some in cc)
down_counts f test is (w ∷ q) some = by (test w) (list_any test q) (f w) (sum_down f q) (is w) (down_counts f test is q) some
  where
    by : (a b : Bool) (m n : ℕ) → (a ≡ true → 0 < m) → (b ≡ true → 0 < n) → (a || b) ≡ true → 0 < m + n
    by true b m n one more some = omega (arith, one refl)
    by false b m n one more some = omega (arith, more some)

-- a request of this control, as a number
abbrev pub asks_of : ℕ → UpWord → ℕ
asks_of k w = if spec.asks_as k w then 1 else 0

asks_split : (k : ℕ) (w : UpWord) → asks w ≤ asks_of k w + strange k w
asks_split k w = grind (arith, nat_tests)

asks_sum : (k : ℕ) (q : List UpWord) → sum_up asks q ≤ sum_up (asks_of k) q + sum_up (strange k) q
asks_sum k [] = omega arith
asks_sum k (w ∷ q) = omega (arith, asks_split k w, asks_sum k q)

left_le : (q : List UpWord) → unlocks_left q ≤ sum_up unlocks q
left_le [] = omega arith
left_le (w ∷ q) = one w q (left_le q)
  where
    one : (w : UpWord) (q : List UpWord) → unlocks_left q ≤ sum_up unlocks q → unlocks_left (w ∷ q) ≤ sum_up unlocks (w ∷ q)
    one w q le = grind arith

-- a sum that isn't zero has a part that isn't

first_of_two : (m n : ℕ) → 0 < m + n → (0 < m) ⊎ (0 < n)
first_of_two zero n some = inr (omega (arith, some))
first_of_two (suc m) n some = inl (omega arith)

asks_test : (k : ℕ) (w : UpWord) → 0 < asks_of k w → spec.asks_as k w ≡ true
asks_test k w some = grind (arith, nat_tests)

unlocks_test : (w : UpWord) → 0 < unlocks w → spec.unlocks w ≡ true
unlocks_test w some = grind arith

does_test : (k : ℕ) (w : UpWord) → 0 < does_of k w → spec.does_as k w ≡ true
does_test k w some = grind (arith, nat_tests)

ends_test : (k : ℕ) (w : UpWord) → 0 < ends k w → spec.ends_as k w ≡ true
ends_test k w some = grind (arith, nat_tests)

supplies_test : (w : DownWord) → 0 < supplies w → spec.supplies w ≡ true
supplies_test w some = grind arith

locks_test : (w : DownWord) → 0 < locks w → spec.locks w ≡ true
locks_test w some = grind arith

reply_test : (w : DownWord) → 0 < any_reply w → spec.recalls w ≡ true
reply_test w some = grind arith

recall_counts : (w : DownWord) → spec.recalls w ≡ true → 0 < any_reply w
recall_counts w is = grind arith

request_test : (h : ℕ) (w : Wanting) → 0 < request h w → spec.requests h w ≡ true
request_test h w some = grind (arith, nat_tests)

upgrade_test : (h : ℕ) (w : Wanting) → 0 < upgrade h w → spec.upgrades h w ≡ true
upgrade_test h w some = grind (arith, nat_tests)

pub carried : (size : ℕ) (past : List Act) → ActsLicensed size past → StepsDone past → (h : ℕ) → spec.IsCarriedAt h past
carried size past licensed done h =
    record {
      asked = λ is. asked (first_of_two (sum_up asks s.up + s.pending) (sum_down supplies s.down) (k.asked_carried is));
      unlocking = λ is here. unlocking (first_of_two (unlocks_left s.up + upgrades h past) (sum_down locks s.down) (k.unlock_carried is here));
      awaited =
          λ some. awaited (first_of_two (sum_down any_reply s.down + s.step) (sum_up (does_of s.awaited_control) s.up + sum_up (ends s.awaited_control) s.up)
          (k.awaited_carried some));
      living = λ is. lives s.live refl is;
      having = λ some. has s.live refl some;
      reached =
          λ is. let some : 0 < sum_down any_reply s.down + s.step = omega (
            arith,
            down_counts any_reply spec.recalls recall_counts s.down is,
          ) in (ok.mine_live some, ok.mine some);
    }
  where
    s : Side
    s = side h past

    w : World past
    w = world size past licensed

    ok : Sound s
    ok = w.each h

    k : Carried s (upgrades h past)
    k = (waits size past licensed done).each h

    lives : (b : Bool) → s.live ≡ b → s.asked ≡ true → s.live ≡ true
    lives true e is = e
    lives false e is = absurd (let bad : false ≡ true = sym (ok.gone_asked e) ∙ is in cc)

    has : (b : Bool) → s.live ≡ b → 0 < s.right → s.live ≡ true
    has true e some = e
    has false e some = absurd (omega (arith, ok.gone_right e, some))

    asking : 0 < sum_up asks s.up → list_any (spec.asks_as s.control) s.up ≡ true
    asking some = up_is (asks_of s.control) (spec.asks_as s.control) (asks_test s.control) s.up (omega (arith, some, asks_sum s.control s.up, k.no_strange))

    asked_up : (0 < sum_up asks s.up) ⊎ (0 < s.pending) → (list_any (spec.asks_as s.control) s.up ≡ true)
        ⊎ ((list_any (spec.requests h) (line past) ≡ true) ⊎ (list_any spec.supplies s.down ≡ true))
    asked_up (inl some) = inl (asking some)
    asked_up (inr some) = inr (inl (line_is (request h) (spec.requests h) (request_test h) (line past) (omega (arith, some, w.counted h))))

    asked : (0 < sum_up asks s.up + s.pending) ⊎ (0 < sum_down supplies s.down) → (list_any (spec.asks_as s.control) s.up ≡ true)
        ⊎ ((list_any (spec.requests h) (line past) ≡ true) ⊎ (list_any spec.supplies s.down ≡ true))
    asked (inl some) = asked_up (first_of_two (sum_up asks s.up) s.pending some)
    asked (inr some) = inr (inr (down_is supplies spec.supplies supplies_test s.down some))

    unlocking_up : (0 < unlocks_left s.up) ⊎ (0 < upgrades h past) → (list_any spec.unlocks s.up ≡ true)
        ⊎ ((list_any (spec.upgrades h) (line past) ≡ true) ⊎ (list_any spec.locks s.down ≡ true))
    unlocking_up (inl some) = inl (up_is unlocks spec.unlocks unlocks_test s.up (omega (arith, some, left_le s.up)))
    unlocking_up (inr some) = inr (inl (line_is (upgrade h) (spec.upgrades h) (upgrade_test h) (line past) some))

    unlocking : (0 < unlocks_left s.up + upgrades h past) ⊎ (0 < sum_down locks s.down) → (list_any spec.unlocks s.up ≡ true)
        ⊎ ((list_any (spec.upgrades h) (line past) ≡ true) ⊎ (list_any spec.locks s.down ≡ true))
    unlocking (inl some) = unlocking_up (first_of_two (unlocks_left s.up) (upgrades h past) some)
    unlocking (inr some) = inr (inr (down_is locks spec.locks locks_test s.down some))

    awaited_down : (0 < sum_down any_reply s.down) ⊎ (0 < s.step) → (list_any spec.recalls s.down ≡ true)
        ⊎ ((0 < s.step) ⊎ ((list_any (spec.does_as s.awaited_control) s.up ≡ true) ⊎ (list_any (spec.ends_as s.awaited_control) s.up ≡ true)))
    awaited_down (inl some) = inl (down_is any_reply spec.recalls reply_test s.down some)
    awaited_down (inr some) = inr (inl some)

    awaited_up : (0 < sum_up (does_of s.awaited_control) s.up) ⊎ (0 < sum_up (ends s.awaited_control) s.up) → (list_any spec.recalls s.down ≡ true)
        ⊎ ((0 < s.step) ⊎ ((list_any (spec.does_as s.awaited_control) s.up ≡ true) ⊎ (list_any (spec.ends_as s.awaited_control) s.up ≡ true)))
    awaited_up (inl some) = inr (inr (inl (up_is (does_of s.awaited_control) (spec.does_as s.awaited_control) (does_test s.awaited_control) s.up some)))
    awaited_up (inr some) = inr (inr (inr (up_is (ends s.awaited_control) (spec.ends_as s.awaited_control) (ends_test s.awaited_control) s.up some)))

    awaited : (0 < sum_down any_reply s.down + s.step) ⊎ (0 < sum_up (does_of s.awaited_control) s.up + sum_up (ends s.awaited_control) s.up)
        → (list_any spec.recalls s.down ≡ true) ⊎ ((0 < s.step)
        ⊎ ((list_any (spec.does_as s.awaited_control) s.up ≡ true) ⊎ (list_any (spec.ends_as s.awaited_control) s.up ≡ true)))
    awaited (inl some) = awaited_down (first_of_two (sum_down any_reply s.down) s.step some)
    awaited (inr some) = awaited_up (first_of_two (sum_up (does_of s.awaited_control) s.up) (sum_up (ends s.awaited_control) s.up) some)
