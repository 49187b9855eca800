-- The nodes of letters, and what a further letter changes in them.
use Rattle.std.proofs.Common.{ℕ, ◌≡◌, ◌+◌, ◌==◌, ◌&&◌, Bool, true, false, List, [], ◌∷◌, ◌++◌, length, Option, Some, None, refl, sym, ◌∙◌, subst, ap, arith}
use Rattle.std.proofs.Common.{length-append}
use Rattle.std.proofs.lemmas.Bool.Decides.{nat_tests}
use Rattle.std.specs.Prelude.{if◌then◌else◌}
use Rattle.vm_ports.specs.declared.links.Ends.{Ends}
use Rattle.vm_ports.specs.declared.node.Node.{Node}
use Rattle.vm_ports.specs.Kept.{ends_from, ends_on, first_or, is_key, is_none_key, key_or, last_behind, last_of, with_newer, with_next}
use Rattle.vm_ports.specs.Nodes.{KeysApart, Place, first_key, first_on, has_key, letters_of, node_at, node_behind}

pub same_number : (a : ℕ) → (a == a) ≡ true
same_number a = grind (arith, nat_tests)

-- the key of the next letter of a channel, where one more comes behind
abbrev pub grown_next : ℕ → ℕ → ℕ → Option ℕ → Option ℕ
grown_next ch key channel None = if channel == ch then Some key else None
grown_next ch key channel (Some next) = Some next

turned : (a b : ℕ) → (a == b) ≡ (b == a)
turned a b = grind (arith, nat_tests)

and_true : (b : Bool) → (b && true) ≡ b
and_true true = refl
and_true false = refl

and_false : (b : Bool) → (b && false) ≡ false
and_false true = refl
and_false false = refl

-- the last node of a channel is the one without a next
last_from : (ends : Option Ends) (first k : ℕ) → (first == k) ≡ false → is_key (last_of ends) k ≡ false → is_key (Some (ends_from first ends).last) k ≡ false
last_from None first k apart rest = apart
last_from (Some ends) first k apart rest = rest

-- the first of a channel is the first of its ends
abbrev pub first_of : Option Ends → Option ℕ
first_of None = None
first_of (Some ends) = Some ends.first

first_of_from : (ends : Option Ends) (first : ℕ) → first_of (Some (ends_from first ends)) ≡ Some first
first_of_from None first = refl
first_of_from (Some ends) first = refl

-- the last of the ends, where the first letter of the channel has this key
last_none : (ends : Option Ends) (first k : ℕ) → (first == k) ≡ true → is_key (last_of ends) k ≡ false
    → is_key (Some (ends_from first ends).last) k ≡ is_none_key (first_of ends)
last_none None first k is apart = is
last_none (Some ends) first k is apart = apart

last_more : (ends : Option Ends) (first k : ℕ) (b : Bool) → (first == k) ≡ false → is_key (last_of ends) k ≡ b → is_key (Some (ends_from first ends).last) k ≡ b
last_more None first k b apart is = apart ∙ is
last_more (Some ends) first k b apart is = is

-- the ends of each channel, where one more letter comes behind
abbrev pub ends_grown : ℕ → ℕ → ℕ → Option Ends → Option Ends
ends_grown ch key c ends = if ch == c then Some (record { first = first_or ends key; last = key }) else ends

from_grown : (ends : Option Ends) (first key : ℕ) → ends_from first (Some (record { first = first_or ends key; last = key })) ≡ record {
  first = first_or
      (Some (ends_from first ends)) key;
  last = key;
}
from_grown None first key = refl
from_grown (Some ends) first key = refl

module _ {M : Type 0} where
  pub differs : (ps : List (Place M)) (a b : ℕ) → has_key ps a ≡ false → has_key ps b ≡ true → (a == b) ≡ false
  differs ps a b lacks has = grind (arith, nat_tests, lacks, has)

  -- a key without a letter has no node, and one with a letter has one
  none_at : (test : Bool) (older : Option ℕ) (p : Place M) (ps : List (Place M)) (k : ℕ) → (p.key == k) ≡ test
      → ((o : Option ℕ) → has_key ps k ≡ false → node_behind o ps k ≡ None) → has_key (p ∷ ps) k ≡ false → node_behind older (p ∷ ps) k ≡ None
  none_at true older p ps k is rest lacks = let wrong = rw is at lacks in absurd (cc)
  none_at false older p ps k is rest lacks = let other = rw is at lacks in rw is (rest (Some p.key) other)

  pub no_node : (older : Option ℕ) (ps : List (Place M)) (k : ℕ) → has_key ps k ≡ false → node_behind older ps k ≡ None
  no_node older [] k lacks = refl
  no_node older (p ∷ ps) k lacks = none_at (p.key == k) older p ps k refl (λ o. no_node o ps k) lacks

  key_step : (test : Bool) (older : Option ℕ) (p : Place M) (ps : List (Place M)) (k : ℕ) (node : Node M) → (p.key == k) ≡ test
      → ((o : Option ℕ) → node_behind o ps k ≡ Some node → has_key ps k ≡ true) → node_behind older (p ∷ ps) k ≡ Some node → has_key (p ∷ ps) k ≡ true
  key_step true older p ps k node is rest there = rw is refl
  key_step false older p ps k node is rest there = let other = rw is at there in rw is (rest (Some p.key) other)

  pub node_has_key : (older : Option ℕ) (ps : List (Place M)) (k : ℕ) (node : Node M) → node_behind older ps k ≡ Some node → has_key ps k ≡ true
  node_has_key older [] k node there = absurd (cc)
  node_has_key older (p ∷ ps) k node there = key_step (p.key == k) older p ps k node refl (λ o. node_has_key o ps k node) there

  abbrev pub IsNode : Option (Node M) → Type 0
  IsNode found = (node : Node M) × (found ≡ Some node)

  has_step : (test : Bool) (older : Option ℕ) (p : Place M) (ps : List (Place M)) (k : ℕ) → (p.key == k) ≡ test
      → ((o : Option ℕ) → has_key ps k ≡ true → IsNode (node_behind o ps k)) → has_key (p ∷ ps) k ≡ true → IsNode (node_behind older (p ∷ ps) k)
  has_step true older p ps k is rest has = (
    record { channel = p.letter.channel; message = p.letter.message; next = first_on p.letter.channel.0 ps; older = older; newer = first_key ps },
    rw is refl,
  )
  has_step false older p ps k is rest has = let other = rw is at has in rw is (rest (Some p.key) other)

  pub has_node : (older : Option ℕ) (ps : List (Place M)) (k : ℕ) → has_key ps k ≡ true → IsNode (node_behind older ps k)
  has_node older [] k has = absurd (cc)
  has_node older (p ∷ ps) k has = has_step (p.key == k) older p ps k refl (λ o. has_node o ps k) has

  -- a further letter
  pub push_first : (ps : List (Place M)) (e : Place M) → first_key (ps ++ e ∷ []) ≡ Some (key_or (first_key ps) e.key)
  push_first [] e = refl
  push_first (p ∷ ps) e = refl

  pub push_last : (older : Option ℕ) (ps : List (Place M)) (e : Place M) → last_behind older (ps ++ e ∷ []) ≡ Some e.key
  push_last older [] e = refl
  push_last older (p ∷ ps) e = push_last (Some p.key) ps e

  abbrev pub grown : ℕ → ℕ → Node M → Node M
  grown ch key node = record node { next = grown_next ch key node.channel.0 node.next; newer = Some (key_or node.newer key) }

  push_next_step : (test : Bool) (c : ℕ) (p : Place M) (ps : List (Place M)) (e : Place M) → (p.letter.channel.0 == c) ≡ test
      → first_on c (ps ++ e ∷ []) ≡ grown_next e.letter.channel.0 e.key c (first_on c ps)
      → first_on c ((p ∷ ps) ++ e ∷ []) ≡ grown_next e.letter.channel.0 e.key c (first_on c (p ∷ ps))
  push_next_step true c p ps e is rest = rw is refl
  push_next_step false c p ps e is rest = rw is rest

  push_next : (c : ℕ) (ps : List (Place M)) (e : Place M) → first_on c (ps ++ e ∷ []) ≡ grown_next e.letter.channel.0 e.key c (first_on c ps)
  push_next c [] e = rw (turned c e.letter.channel.0) refl
  push_next c (p ∷ ps) e = push_next_step (p.letter.channel.0 == c) c p ps e refl (push_next c ps e)

  abbrev pub pushed : Place M → Option ℕ → ℕ → Option (Node M) → Option (Node M)
  pushed e older k None =
      if e.key == k
      then Some (record { channel = e.letter.channel; message = e.letter.message; next = None; older = older; newer = None })
      else None
  pushed e older k (Some node) = Some (grown e.letter.channel.0 e.key node)

  push_step : (test : Bool) (older : Option ℕ) (p : Place M) (ps : List (Place M)) (e : Place M) (k : ℕ) → (p.key == k) ≡ test
      → node_behind (Some p.key) (ps ++ e ∷ []) k ≡ pushed e (last_behind (Some p.key) ps) k (node_behind (Some p.key) ps k)
      → node_behind older ((p ∷ ps) ++ e ∷ []) k ≡ pushed e (last_behind older (p ∷ ps)) k (node_behind older (p ∷ ps) k)
  push_step true older p ps e k is rest = rw (is, push_next p.letter.channel.0 ps e, push_first ps e) refl
  push_step false older p ps e k is rest = rw is rest

  pub push_node : (older : Option ℕ) (ps : List (Place M)) (e : Place M) (k : ℕ)
      → node_behind older (ps ++ e ∷ []) k ≡ pushed e (last_behind older ps) k (node_behind older ps k)
  push_node older [] e k = refl
  push_node older (p ∷ ps) e k = push_step (p.key == k) older p ps e k refl (push_node (Some p.key) ps e k)

  -- the last node is the one without a newer
  last_apart : (j : ℕ) (ps : List (Place M)) (k : ℕ) → has_key ps k ≡ false → (j == k) ≡ false → is_key (last_behind (Some j) ps) k ≡ false
  last_apart j [] k lacks apart = apart
  last_apart j (p ∷ ps) k lacks apart = last_apart p.key ps k (grind (arith, nat_tests, lacks)) (grind (arith, nat_tests, lacks))

  last_here : (older : Option ℕ) (p : Place M) (ps : List (Place M)) (k : ℕ) → (p.key == k) ≡ true → has_key ps p.key ≡ false
      → is_key (last_behind older (p ∷ ps)) k ≡ is_none_key (first_key ps)
  last_here older p [] k is apart = is
  last_here older p (q ∷ ps) k is apart =
      let same : p.key ≡ k = grind (arith, nat_tests, is) in
      let lacks : has_key (q ∷ ps) k ≡ false = rw same at apart in
      last_apart q.key ps k (grind (arith, nat_tests, lacks)) (grind (arith, nat_tests, lacks))

  last_later : (older : Option ℕ) (p : Place M) (ps : List (Place M)) (k : ℕ) (node : Node M) → node_behind (Some p.key) ps k ≡ Some node
      → ((o : Option ℕ) → is_key (last_behind o ps) k ≡ is_none_key node.newer) → is_key (last_behind older (p ∷ ps)) k ≡ is_none_key node.newer
  last_later older p ps k node there rest = rest (Some p.key)

  last_step : (test : Bool) (older from : Option ℕ) (p : Place M) (ps : List (Place M)) (k : ℕ) (node : Node M) → (p.key == k) ≡ test → KeysApart (p ∷ ps)
      → (node_behind (Some p.key) ps k ≡ Some node → is_key (last_behind (Some p.key) ps) k ≡ is_none_key node.newer)
      → node_behind older (p ∷ ps) k ≡ Some node → is_key (last_behind from (p ∷ ps)) k ≡ is_none_key node.newer
  last_step true older from p ps k node is apart rest there =
      let node_is = rw is at there in
      let newer : first_key ps ≡ node.newer = cc in
      rw (← newer) (last_here from p ps k is apart.0)
  last_step false older from p ps k node is apart rest there = let other = rw is at there in rest other

  pub last_is : (older from : Option ℕ) (ps : List (Place M)) (k : ℕ) (node : Node M) → KeysApart ps → node_behind older ps k ≡ Some node
      → is_key (last_behind from ps) k ≡ is_none_key node.newer
  last_is older from [] k node apart there = absurd (cc)
  last_is older from (p ∷ ps) k node apart there =
      last_step (p.key == k) older from p ps k node refl apart (last_is (Some p.key) (Some p.key) ps k node apart.1) there

  last_on_step : (test : Bool) (ch : ℕ) (p : Place M) (ps : List (Place M)) (k : ℕ) → (p.letter.channel.0 == ch) ≡ test → (p.key == k) ≡ false
      → is_key (last_of (ends_on ch ps)) k ≡ false → is_key (last_of (ends_on ch (p ∷ ps))) k ≡ false
  last_on_step true ch p ps k is apart rest = rw is (last_from (ends_on ch ps) p.key k apart rest)
  last_on_step false ch p ps k is apart rest = rw is rest

  last_on_apart : (ch : ℕ) (ps : List (Place M)) (k : ℕ) → has_key ps k ≡ false → is_key (last_of (ends_on ch ps)) k ≡ false
  last_on_apart ch [] k lacks = refl
  last_on_apart ch (p ∷ ps) k lacks =
      last_on_step (p.letter.channel.0 == ch) ch p ps k refl (grind (arith, nat_tests, lacks)) (last_on_apart ch ps k (grind (arith, nat_tests, lacks)))

  first_is_step : (test : Bool) (ch : ℕ) (p : Place M) (ps : List (Place M)) → (p.letter.channel.0 == ch) ≡ test → first_of (ends_on ch ps) ≡ first_on ch ps
      → first_of (ends_on ch (p ∷ ps)) ≡ first_on ch (p ∷ ps)
  first_is_step true ch p ps is rest = rw is (first_of_from (ends_on ch ps) p.key)
  first_is_step false ch p ps is rest = rw is rest

  pub first_is : (ch : ℕ) (ps : List (Place M)) → first_of (ends_on ch ps) ≡ first_on ch ps
  first_is ch [] = refl
  first_is ch (p ∷ ps) = first_is_step (p.letter.channel.0 == ch) ch p ps refl (first_is ch ps)

  last_on_here : (test : Bool) (ch : ℕ) (p : Place M) (ps : List (Place M)) (k : ℕ) → (p.letter.channel.0 == ch) ≡ test → (p.key == k) ≡ true
      → has_key ps k ≡ false
      → is_key (last_of (ends_on ch (p ∷ ps))) k ≡ (is_none_key (first_on p.letter.channel.0 ps) && (p.letter.channel.0 == ch))
  last_on_here true ch p ps k is here lacks =
      let same : p.letter.channel.0 ≡ ch = grind (arith, nat_tests, is) in
      rw (is, same, ← first_is ch ps) (last_none (ends_on ch ps) p.key k here (last_on_apart ch ps k lacks)
      ∙ sym (and_true (is_none_key (first_of (ends_on ch ps)))))
  last_on_here false ch p ps k is here lacks = rw is (last_on_apart ch ps k lacks ∙ sym (and_false (is_none_key (first_on p.letter.channel.0 ps))))

  last_on_more : (test : Bool) (ch : ℕ) (p : Place M) (ps : List (Place M)) (k : ℕ) (b : Bool) → (p.letter.channel.0 == ch) ≡ test → (p.key == k) ≡ false
      → is_key (last_of (ends_on ch ps)) k ≡ b → is_key (last_of (ends_on ch (p ∷ ps))) k ≡ b
  last_on_more true ch p ps k b is apart rest = rw is (last_more (ends_on ch ps) p.key k b apart rest)
  last_on_more false ch p ps k b is apart rest = rw is rest

  last_on_by : (test : Bool) (older : Option ℕ) (ch : ℕ) (p : Place M) (ps : List (Place M)) (k : ℕ) (node : Node M) → (p.key == k) ≡ test → KeysApart (p ∷ ps)
      → (node_behind (Some p.key) ps k ≡ Some node → is_key (last_of (ends_on ch ps)) k ≡ (is_none_key node.next && (node.channel.0 == ch)))
      → node_behind older (p ∷ ps) k ≡ Some node → is_key (last_of (ends_on ch (p ∷ ps))) k ≡ (is_none_key node.next && (node.channel.0 == ch))
  last_on_by true older ch p ps k node is apart rest there =
      let node_is = rw is at there in
      let next : first_on p.letter.channel.0 ps ≡ node.next = cc in
      let channel : p.letter.channel ≡ node.channel = cc in
      let same : p.key ≡ k = grind (arith, nat_tests, is) in
      let lacks : has_key ps k ≡ false = rw same at apart.0 in
      rw (← next, ← channel) (last_on_here (p.letter.channel.0 == ch) ch p ps k refl is lacks)
  last_on_by false older ch p ps k node is apart rest there =
      let other = rw is at there in last_on_more (p.letter.channel.0 == ch) ch p ps k (is_none_key node.next && (node.channel.0 == ch)) refl is (rest other)

  pub last_on_is : (older : Option ℕ) (ch : ℕ) (ps : List (Place M)) (k : ℕ) (node : Node M) → KeysApart ps → node_behind older ps k ≡ Some node
      → is_key (last_of (ends_on ch ps)) k ≡ (is_none_key node.next && (node.channel.0 == ch))
  last_on_is older ch [] k node apart there = absurd (cc)
  last_on_is older ch (p ∷ ps) k node apart there = last_on_by (p.key == k) older ch p ps k node refl apart (last_on_is (Some p.key) ch ps k node apart.1) there

  push_ends_step : (test grows : Bool) (c : ℕ) (p : Place M) (ps : List (Place M)) (e : Place M) → (p.letter.channel.0 == c) ≡ test
      → (e.letter.channel.0 == c) ≡ grows
      → ends_on c (ps ++ e ∷ []) ≡ ends_grown e.letter.channel.0 e.key c (ends_on c ps)
      → ends_on c ((p ∷ ps) ++ e ∷ []) ≡ ends_grown e.letter.channel.0 e.key c (ends_on c (p ∷ ps))
  push_ends_step true true c p ps e is more rest = rw (is, rest, more) (ap (λ z. Some z) (from_grown (ends_on c ps) p.key e.key))
  push_ends_step true false c p ps e is more rest = rw (is, rest, more) refl
  push_ends_step false grows c p ps e is more rest = rw is rest

  pub push_ends : (c : ℕ) (ps : List (Place M)) (e : Place M) → ends_on c (ps ++ e ∷ []) ≡ ends_grown e.letter.channel.0 e.key c (ends_on c ps)
  push_ends c [] e = refl
  push_ends c (p ∷ ps) e = push_ends_step (p.letter.channel.0 == c) (e.letter.channel.0 == c) c p ps e refl refl (push_ends c ps e)

  push_key : (ps : List (Place M)) (e : Place M) (k : ℕ) → has_key ps k ≡ false → (e.key == k) ≡ false → has_key (ps ++ e ∷ []) k ≡ false
  push_key [] e k lacks apart = grind (arith, nat_tests, apart)
  push_key (p ∷ ps) e k lacks apart = let rest = push_key ps e k (grind (arith, nat_tests, lacks)) apart in grind (arith, nat_tests, lacks, rest)

  pub push_apart : (ps : List (Place M)) (e : Place M) → KeysApart ps → has_key ps e.key ≡ false → KeysApart (ps ++ e ∷ [])
  push_apart [] e apart lacks = (refl, tt)
  push_apart (p ∷ ps) e apart lacks = (push_key ps e p.key apart.0 (grind (arith, nat_tests, lacks)), push_apart ps e apart.1 (grind (arith, nat_tests, lacks)))

  pub push_count : (ps : List (Place M)) (e : Place M) → length (ps ++ e ∷ []) ≡ length ps + 1
  push_count ps e = grind (arith, length-append)

  pub push_letters : (ps : List (Place M)) (e : Place M) → letters_of (ps ++ e ∷ []) ≡ letters_of ps ++ e.letter ∷ []
  push_letters [] e = refl
  push_letters (p ∷ ps) e = rw (push_letters ps e) refl

  -- the writes of an append
  last_lacks : (ps : List (Place M)) (k : ℕ) → has_key ps k ≡ false → is_key (last_behind None ps) k ≡ false
  last_lacks [] k lacks = refl
  last_lacks (p ∷ ps) k lacks = last_apart p.key ps k (grind (arith, nat_tests, lacks)) (grind (arith, nat_tests, lacks))

  newer_other : (at newer : Option ℕ) (nodes : ℕ → Option (Node M)) (k : ℕ) → is_key at k ≡ false → with_newer at newer nodes k ≡ nodes k
  newer_other at newer nodes k is = rw is refl

  next_other : (at next : Option ℕ) (nodes : ℕ → Option (Node M)) (k : ℕ) → is_key at k ≡ false → with_next at next nodes k ≡ nodes k
  next_other at next nodes k is = rw is refl

  none_by : (test : Bool) (at newer : Option ℕ) (nodes : ℕ → Option (Node M)) (k : ℕ) → is_key at k ≡ test → nodes k ≡ None → with_newer at newer nodes k ≡ None
  none_by true at newer nodes k is none = rw (is, none) refl
  none_by false at newer nodes k is none = rw (is, none) refl

  none_next : (test : Bool) (at next : Option ℕ) (nodes : ℕ → Option (Node M)) (k : ℕ) → is_key at k ≡ test → nodes k ≡ None → with_next at next nodes k ≡ None
  none_next true at next nodes k is none = rw (is, none) refl
  none_next false at next nodes k is none = rw (is, none) refl

  newer_by : (newer at : Option ℕ) (key : ℕ) (nodes : ℕ → Option (Node M)) (k : ℕ) (node : Node M) → node.newer ≡ newer → nodes k ≡ Some node
      → is_key at k ≡ is_none_key newer
      → with_newer at (Some key) nodes k ≡ Some (record node { newer = Some (key_or newer key) })
  newer_by None at key nodes k node is there told = rw (told, there) refl
  newer_by (Some j) at key nodes k node is there told = rw (told, there, ← is) refl

  next_by : (next at : Option ℕ) (ch key : ℕ) (nodes : ℕ → Option (Node M)) (k : ℕ) (node : Node M) (test : Bool) → node.next ≡ next → nodes k ≡ Some node
      → (node.channel.0 == ch) ≡ test
      → is_key at k ≡ (is_none_key next && (node.channel.0 == ch))
      → with_next at (Some key) nodes k ≡ Some (record node { next = grown_next ch key node.channel.0 next })
  next_by None at ch key nodes k node true is there same told = rw (told, same, there) refl
  next_by None at ch key nodes k node false is there same told = rw (told, same, there, ← is) refl
  next_by (Some j) at ch key nodes k node test is there same told = rw (told, there, ← is) refl

  abbrev pub fresh : Place M → Option ℕ → Node M
  fresh e older = record { channel = e.letter.channel; message = e.letter.message; next = None; older = older; newer = None }

  module _ (ps : List (Place M)) (e : Place M) (mid : ℕ → Option (Node M)) (apart : KeysApart ps) (lacks : has_key ps e.key ≡ false)
      (put : (o : ℕ) → mid o ≡ (if e.key == o then Some (fresh e (last_behind None ps)) else node_at ps o)) where
    abbrev written : ℕ → Option (Node M)
    written k = with_next (last_of (ends_on e.letter.channel.0 ps)) (Some e.key) (with_newer (last_behind None ps) (Some e.key) mid) k

    written_none : (test : Bool) (k : ℕ) → (e.key == k) ≡ test → node_at ps k ≡ None → written k ≡ node_at (ps ++ e ∷ []) k
    written_none true k is none =
        let same : e.key ≡ k = grind (arith, nat_tests, is) in
        let other : has_key ps k ≡ false = subst (λ z. has_key ps z ≡ false) same lacks in
        next_other (last_of (ends_on e.letter.channel.0 ps)) (Some e.key) (with_newer (last_behind None ps) (Some e.key) mid) k
        (last_on_apart e.letter.channel.0 ps k other)
        ∙ newer_other (last_behind None ps) (Some e.key) mid k (last_lacks ps k other)
        ∙ put k ∙ rw (is, push_node None ps e k, none, is) refl
    written_none false k is none =
        let mid_none : mid k ≡ None = put k ∙ rw is none in
        none_next (is_key (last_of (ends_on e.letter.channel.0 ps)) k) _ (Some e.key) (with_newer (last_behind None ps) (Some e.key) mid) k refl
        (none_by (is_key (last_behind None ps) k) _ (Some e.key) mid k refl mid_none)
        ∙ rw (push_node None ps e k, none, is) refl

    written_some : (k : ℕ) (node : Node M) → node_at ps k ≡ Some node → written k ≡ node_at (ps ++ e ∷ []) k
    written_some k node there =
        let other : (e.key == k) ≡ false = differs ps e.key k lacks (node_has_key None ps k node there) in
        let mid_some : mid k ≡ Some node = put k ∙ rw other there in
        let newer = newer_by node.newer (last_behind None ps) e.key mid k node refl mid_some (last_is None None ps k node apart there) in
        next_by node.next (last_of (ends_on e.letter.channel.0 ps)) e.letter.channel.0 e.key (with_newer (last_behind None ps) (Some e.key) mid) k _
        (node.channel.0 == e.letter.channel.0) refl newer refl (last_on_is None e.letter.channel.0 ps k node apart there)
        ∙ rw (push_node None ps e k, there) refl

    written_by : (found : Option (Node M)) (k : ℕ) → node_at ps k ≡ found → written k ≡ node_at (ps ++ e ∷ []) k
    written_by None k is = written_none (e.key == k) k refl is
    written_by (Some node) k is = written_some k node is

    pub appended_node : (k : ℕ) → written k ≡ node_at (ps ++ e ∷ []) k
    appended_node k = written_by (node_at ps k) k refl
