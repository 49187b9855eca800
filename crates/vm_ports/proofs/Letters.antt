-- What a letter at the end, and the first of a channel taken out, leave of each channel.
use Rattle.std.proofs.Common.{ℕ, ◌≡◌, ◌≢◌, ◌+◌, ◌<◌, ◌==◌, Bool, true, false, List, [], ◌∷◌, ◌++◌, refl, arith}
use Rattle.std.proofs.lemmas.Bool.Decides.{nat_tests}
use Rattle.vm_ports.specs.declared.letter.Letter.{Letter}
use Rattle.vm_ports.specs.Ports.{AllAdded, queue, without_first}

module _ {M : Type 0} where
  -- a letter at the end
  pub queue_push : (ch : ℕ) (letters : List (Letter M)) (letter : Letter M) → letter.channel.0 ≡ ch
      → queue ch (letters ++ letter ∷ []) ≡ queue ch letters ++ letter.message ∷ []
  queue_push ch [] letter is = grind (arith, nat_tests)
  queue_push ch (first ∷ letters) letter is = let rest = queue_push ch letters letter is in grind (arith, nat_tests)

  pub others_push : (letters : List (Letter M)) (letter : Letter M) (other : ℕ) → other ≢ letter.channel.0
      → queue other (letters ++ letter ∷ []) ≡ queue other letters
  others_push [] letter other apart = grind (arith, nat_tests)
  others_push (first ∷ letters) letter other apart = let rest = others_push letters letter other apart in grind (arith, nat_tests)

  pub added_push : (n : ℕ) (letters : List (Letter M)) (letter : Letter M) → AllAdded n letters → letter.channel.0 < n → AllAdded n (letters ++ letter ∷ [])
  added_push n [] letter all less = (less, tt)
  added_push n (first ∷ letters) letter all less = (all.0, added_push n letters letter all.1 less)

  pub added_more : (n : ℕ) (letters : List (Letter M)) → AllAdded n letters → AllAdded (n + 1) letters
  added_more n [] all = tt
  added_more n (first ∷ letters) all = (omega (arith, all.0), added_more n letters all.1)

  -- a channel that was not added is empty
  pub none_new : (n : ℕ) (letters : List (Letter M)) → AllAdded n letters → queue n letters ≡ []
  none_new n [] all = refl
  none_new n (first ∷ letters) all =
      let rest = none_new n letters all.1 in
      let less : first.channel.0 < n = all.0 in
      grind (arith, nat_tests)

  -- the first letter of a channel taken out
  pub others_without : (ch : ℕ) (letters : List (Letter M)) (other : ℕ) → other ≢ ch → queue other (without_first ch letters) ≡ queue other letters
  others_without ch [] other apart = refl
  others_without ch (first ∷ letters) other apart = let rest = others_without ch letters other apart in grind (arith, nat_tests)

  without_step : (test : Bool) (n ch : ℕ) (first : Letter M) (letters : List (Letter M)) → (first.channel.0 == ch) ≡ test → AllAdded n (first ∷ letters)
      → AllAdded n (without_first ch letters) → AllAdded n (without_first ch (first ∷ letters))
  without_step true n ch first letters is all rest = rw is all.1
  without_step false n ch first letters is all rest = rw is (all.0, rest)

  pub added_without : (n ch : ℕ) (letters : List (Letter M)) → AllAdded n letters → AllAdded n (without_first ch letters)
  added_without n ch [] all = tt
  added_without n ch (first ∷ letters) all = without_step (first.channel.0 == ch) n ch first letters refl all (added_without n ch letters all.1)
