-- The numbers of channels.
use Rattle.vm_system.proofs.Common.{AllByRecursion, Bool, Channel, Down, List, None, Option, Some, Up, [], ap, arith, channel_number, cond, eq-value, false}
use Rattle.vm_system.proofs.Common.{is_channel, is_some, length, list_any, nat_lt, nat_tests, none-some, option_map, position, position_or_len, refl, rules}
use Rattle.vm_system.proofs.Common.{same_Some, same_channel, slice_get, slice_get_within, subst, suc, sym, true, zero, ℕ, ◌++◌, ◌+◌, ◌<◌, ◌||◌, ◌∙◌, ◌∷◌, ◌≡◌}
use Rattle.std.specs.List.{IsDistinct}
use Rattle.std.proofs.Common.{get_or}
use Rattle.std.specs.Prelude.{if◌then◌else◌, not}

pub is_same : (c : Channel) → is_channel c c ≡ true
is_same (Up host object) = grind (arith, nat_tests)
is_same (Down host object control) = grind (arith, nat_tests)

-- a number stays when channels are added
pub number_kept : (c : Channel) (made more : List Channel) (n : ℕ) → channel_number c made ≡ Some n → channel_number c (made ++ more) ≡ Some n
number_kept c [] more n is = absurd (none-some n is)
number_kept c (d ∷ made) more n is = step (is_channel c d) (channel_number c made) (channel_number c (made ++ more)) (number_kept c made more) is
  where
    step : (b : Bool) (o p : Option ℕ) → ((k : ℕ) → o ≡ Some k → p ≡ Some k) → (if b then Some 0 else option_map suc o) ≡ Some n
        → (if b then Some 0 else option_map suc p) ≡ Some n
    step true o p keeps is = is
    step false None p keeps is = absurd (none-some n is)
    step false (Some k) p keeps is = ap (option_map suc) (keeps k refl) ∙ is

-- a new channel has the next number
pub number_end : (c d : Channel) (made : List Channel) → channel_number c made ≡ None
    → channel_number c (made ++ d ∷ []) ≡ (if is_channel c d then Some (length made) else None)
number_end c d [] is = refl
number_end c d (e ∷ made) is =
    step (is_channel c e) (is_channel c d) (channel_number c made) (channel_number c (made ++ d ∷ [])) (length made) (number_end c d made) is
  where
    step : (b a : Bool) (o p : Option ℕ) (n : ℕ) → (o ≡ None → p ≡ (if a then Some n else None)) → (if b then Some 0 else option_map suc o) ≡ None
        → (if b then Some 0 else option_map suc p) ≡ (if a then Some (suc n) else None)
    step true a o p n new is = absurd (none-some 0 (sym is))
    step false a (Some k) p n new is = absurd (none-some (suc k) (sym is))
    step false true None p n new is = ap (option_map suc) (new refl)
    step false false None p n new is = ap (option_map suc) (new refl)

-- a number leads to its channel
pub number_read : (c : Channel) (made : List Channel) (n : ℕ) → channel_number c made ≡ Some n → slice_get made n ≡ Some c
number_read c [] n is = absurd (none-some n is)
number_read c (d ∷ made) n is = by (is_channel c d) refl (λ k e. number_read c made k e) is
  where
    inner : (o : Option ℕ) → channel_number c made ≡ o → ((k : ℕ) → channel_number c made ≡ Some k → slice_get made k ≡ Some c) → option_map suc o ≡ Some n
        → slice_get (d ∷ made) n ≡ Some c
    inner None e more is = absurd (none-some n is)
    inner (Some k) e more is = subst (λ (j : ℕ). slice_get (d ∷ made) j ≡ Some c) (same_Some (suc k) n is) (more k e)

    by : (b : Bool) → is_channel c d ≡ b → ((k : ℕ) → channel_number c made ≡ Some k → slice_get made k ≡ Some c)
        → (if b then Some 0 else option_map suc (channel_number c made)) ≡ Some n → slice_get (d ∷ made) n ≡ Some c
    by true e more is = subst (λ (j : ℕ). slice_get (d ∷ made) j ≡ Some c) (same_Some 0 n is) (ap Some (same_channel c d e))
    by false e more is = inner (channel_number c made) refl more is

pub number_within : (c : Channel) (made : List Channel) (n : ℕ) → channel_number c made ≡ Some n → n < length made
number_within c made n is = slice_get_within made n c (number_read c made n is)

-- two channels with one number are the same
pub same_number : (c d : Channel) (made : List Channel) (n : ℕ) → channel_number c made ≡ Some n → channel_number d made ≡ Some n → c ≡ d
same_number c d made n is other = same_Some c d (sym (number_read c made n is) ∙ number_read d made n other)

-- which channels have a number, when one is added
pub has_number_end : (c d : Channel) (made : List Channel) → is_some (channel_number c (made ++ d ∷ [])) ≡ (is_channel c d || is_some (channel_number c made))
has_number_end c d made = by (channel_number c made) refl
  where
    either : (b : Bool) → true ≡ (b || true)
    either true = refl
    either false = refl

    one : (b : Bool) (n : ℕ) → is_some (if b then Some n else None) ≡ (b || false)
    one true n = refl
    one false n = refl

    by : (o : Option ℕ) → channel_number c made ≡ o → is_some (channel_number c (made ++ d ∷ [])) ≡ (is_channel c d || is_some o)
    by (Some n) e = ap is_some (number_kept c made (d ∷ []) n e) ∙ either (is_channel c d)
    by None e = ap is_some (number_end c d made e) ∙ one (is_channel c d) (length made)

-- `==` of channels is `is_channel`, either way round
equal_is : (c d : Channel) → eq-value.it c d ≡ is_channel c d
equal_is c d = search rules

equal_back : (c d : Channel) → eq-value.it d c ≡ is_channel c d
equal_back c d = search rules

-- a channel has a number where it is in the list, and the number is its index
pub number_listed : (c : Channel) (made : List Channel) → list_any (eq-value.it c) made ≡ is_some (channel_number c made)
number_listed c [] = refl
number_listed c (d ∷ made) = let e = equal_is c d in let more = number_listed c made in grind arith

pub number_position : (c : Channel) (made : List Channel) → position (eq-value.it c) made ≡ channel_number c made
number_position c [] = refl
number_position c (d ∷ made) =
    step (eq-value.it c d) (is_channel c d) (position_or_len (eq-value.it c) made) (length made) (channel_number c made) (equal_is c d) (number_position c made)
  where
    step : (b a : Bool) (i n : ℕ) (o : Option ℕ) → b ≡ a → cond (nat_lt i n) (Some i) None ≡ o
        → cond (nat_lt (cond (not b) (1 + i) 0) (suc n)) (Some (cond (not b) (1 + i) 0)) None ≡ (if a then Some 0 else option_map suc o)
    step b a i n o e is = grind (arith, nat_tests)

-- among distinct channels the one at an index has that number
apart : (c d : Channel) (n : ℕ) (made : List Channel) → AllByRecursion (λ other. eq-value.it c other ≡ false) made → n < length made
    → is_channel (get_or made n d) c ≡ false
apart c d n [] others within = absurd (omega arith)
apart c d zero (e ∷ made) others within = sym (equal_back e c) ∙ others.0
apart c d (suc n) (e ∷ made) others within = apart c d n made others.1 (omega arith)

pub number_at : (d : Channel) (n : ℕ) (made : List Channel) → IsDistinct eq-value.it made → n < length made → channel_number (get_or made n d) made ≡ Some n
unfolding IsDistinct
number_at d n [] distinct within = absurd (omega arith)
number_at d zero (c ∷ made) distinct within = rw (is_same c) refl
number_at d (suc n) (c ∷ made) distinct within = rw (apart c d n made distinct.0 (omega arith), number_at d n made distinct.1 (omega arith)) refl
