-- What is left of the nodes where the first letter of a channel is taken out.
use Rattle.std.proofs.Common.{ℕ, ◌≡◌, ◌+◌, ◌==◌, Bool, true, false, List, [], ◌∷◌, length, Option, Some, None, refl, sym, subst, ap, arith}
use Rattle.std.proofs.lemmas.Bool.Decides.{nat_tests}
use Rattle.std.specs.Prelude.{if◌then◌else◌}
use Rattle.vm_ports.specs.declared.links.Ends.{Ends}
use Rattle.vm_ports.specs.declared.node.Node.{Node}
use Rattle.vm_ports.specs.Kept.{ends_after, ends_from, ends_on, is_key, is_none_key, last_behind, newer_put, older_put, places_without}
use Rattle.vm_ports.specs.Nodes.{KeysApart, Place, first_key, first_on, has_key, letters_of, node_behind}
use Rattle.vm_ports.specs.Ports.{oldest, queue, without_first}
use Rattle.vm_ports.proofs.Places.{differs, first_is, first_of, no_node, same_number}

ends_left : (ends : Option Ends) (first : ℕ) → ends ≡ ends_after (first_of ends) (Some (ends_from first ends))
ends_left None first = refl
ends_left (Some ends) first = refl

module _ {M : Type 0} where
  -- where the letter in front is taken, and where it is another
  pub record IsHead (older : Option ℕ) (ch : ℕ) (p : Place M) (ps : List (Place M)) (r : ℕ) (node : Node M) : Type 0 where
    pub key : r ≡ p.key
    pub is : node ≡ record {
      channel = p.letter.channel;
      message = p.letter.message;
      next = first_on p.letter.channel.0 ps;
      older = older;
      newer = first_key ps;
    }

  pub record IsLater (older : Option ℕ) (ch : ℕ) (p : Place M) (ps : List (Place M)) (r : ℕ) (node : Node M) : Type 0 where
    pub first : first_on ch ps ≡ Some r
    pub there : node_behind (Some p.key) ps r ≡ Some node
    pub apart : (p.key == r) ≡ false

  first_has_step : (test : Bool) (ch : ℕ) (p : Place M) (ps : List (Place M)) (r : ℕ) → (p.letter.channel.0 == ch) ≡ test
      → (first_on ch ps ≡ Some r → has_key ps r ≡ true) → first_on ch (p ∷ ps) ≡ Some r → has_key (p ∷ ps) r ≡ true
  first_has_step true ch p ps r is rest first =
      let here = rw is at first in
      let same : p.key ≡ r = cc in
      rw (same, same_number r) refl
  first_has_step false ch p ps r is rest first =
      let later = rw is at first in
      let has : has_key ps r ≡ true = rest later in
      grind (arith, nat_tests, has)

  pub first_has : (ch : ℕ) (ps : List (Place M)) (r : ℕ) → first_on ch ps ≡ Some r → has_key ps r ≡ true
  first_has ch [] r first = absurd (cc)
  first_has ch (p ∷ ps) r first = first_has_step (p.letter.channel.0 == ch) ch p ps r refl (first_has ch ps r) first

  head_of : (older : Option ℕ) (ch : ℕ) (p : Place M) (ps : List (Place M)) (r : ℕ) (node : Node M) → (p.letter.channel.0 == ch) ≡ true
      → first_on ch (p ∷ ps) ≡ Some r → node_behind older (p ∷ ps) r ≡ Some node → IsHead older ch p ps r node
  head_of older ch p ps r node is first there =
      let here = rw is at first in
      let same : p.key ≡ r = cc in
      let found = rw (← same, same_number p.key) at there in
      record { key = sym same; is = cc }

  later_of : (older : Option ℕ) (ch : ℕ) (p : Place M) (ps : List (Place M)) (r : ℕ) (node : Node M) → (p.letter.channel.0 == ch) ≡ false → KeysApart (p ∷ ps)
      → first_on ch (p ∷ ps) ≡ Some r → node_behind older (p ∷ ps) r ≡ Some node → IsLater older ch p ps r node
  later_of older ch p ps r node is apart first there =
      let later = rw is at first in
      let other : (p.key == r) ≡ false = differs ps p.key r apart.0 (first_has ch ps r later) in
      record { first = later; there = rw other at there; apart = other }

  -- the messages of the channel
  queue_step : (test : Bool) (older : Option ℕ) (ch : ℕ) (p : Place M) (ps : List (Place M)) (r : ℕ) (node : Node M) → (p.letter.channel.0 == ch) ≡ test
      → KeysApart (p ∷ ps)
      → (first_on ch ps ≡ Some r → node_behind (Some p.key) ps r ≡ Some node
      → queue ch (letters_of ps) ≡ node.message ∷ queue ch (letters_of (places_without ch ps)))
      → first_on ch (p ∷ ps) ≡ Some r → node_behind older (p ∷ ps) r ≡ Some node
      → queue ch (letters_of (p ∷ ps)) ≡ node.message ∷ queue ch (letters_of (places_without ch (p ∷ ps)))
  queue_step true older ch p ps r node is apart rest first there =
      let head = head_of older ch p ps r node is first there in rw (is, head.is) refl
  queue_step false older ch p ps r node is apart rest first there =
      let later = later_of older ch p ps r node is apart first there in rw (is, is) (rest later.first later.there)

  pub queue_first : (older : Option ℕ) (ch : ℕ) (ps : List (Place M)) (r : ℕ) (node : Node M) → KeysApart ps → first_on ch ps ≡ Some r
      → node_behind older ps r ≡ Some node
      → queue ch (letters_of ps) ≡ node.message ∷ queue ch (letters_of (places_without ch ps))
  queue_first older ch [] r node apart first there = absurd (cc)
  queue_first older ch (p ∷ ps) r node apart first there =
      queue_step (p.letter.channel.0 == ch) older ch p ps r node refl apart (queue_first (Some p.key) ch ps r node apart.1) first there

  -- an empty channel
  pub record HasNone (ch : ℕ) (ps : List (Place M)) : Type 0 where
    pub empty : queue ch (letters_of ps) ≡ []
    pub same : places_without ch ps ≡ ps

  none_step : (test : Bool) (ch : ℕ) (p : Place M) (ps : List (Place M)) → (p.letter.channel.0 == ch) ≡ test → (first_on ch ps ≡ None → HasNone ch ps)
      → first_on ch (p ∷ ps) ≡ None → HasNone ch (p ∷ ps)
  none_step true ch p ps is rest none = let here = rw is at none in absurd (cc)
  none_step false ch p ps is rest none =
      let more = rest (rw is at none) in record { empty = rw is more.empty; same = rw is (ap (λ z. p ∷ z) more.same) }

  pub has_none : (ch : ℕ) (ps : List (Place M)) → first_on ch ps ≡ None → HasNone ch ps
  has_none ch [] none = record { empty = refl; same = refl }
  has_none ch (p ∷ ps) none = none_step (p.letter.channel.0 == ch) ch p ps refl (has_none ch ps) none

  letters_step : (test : Bool) (ch : ℕ) (p : Place M) (ps : List (Place M)) → (p.letter.channel.0 == ch) ≡ test
      → letters_of (places_without ch ps) ≡ without_first ch (letters_of ps) → letters_of (places_without ch (p ∷ ps)) ≡ without_first ch (letters_of (p ∷ ps))
  letters_step true ch p ps is rest = rw is refl
  letters_step false ch p ps is rest = rw is (ap (λ z. p.letter ∷ z) rest)

  pub letters_without : (ch : ℕ) (ps : List (Place M)) → letters_of (places_without ch ps) ≡ without_first ch (letters_of ps)
  letters_without ch [] = refl
  letters_without ch (p ∷ ps) = letters_step (p.letter.channel.0 == ch) ch p ps refl (letters_without ch ps)

  -- the keys that are left
  lacks_step : (test : Bool) (ch : ℕ) (p : Place M) (ps : List (Place M)) (k : ℕ) → (p.letter.channel.0 == ch) ≡ test
      → (has_key ps k ≡ false → has_key (places_without ch ps) k ≡ false) → has_key (p ∷ ps) k ≡ false → has_key (places_without ch (p ∷ ps)) k ≡ false
  lacks_step true ch p ps k is rest lacks = rw is (grind (arith, nat_tests, lacks))
  lacks_step false ch p ps k is rest lacks =
      let more : has_key (places_without ch ps) k ≡ false = rest (grind (arith, nat_tests, lacks)) in rw is (grind (arith, nat_tests, lacks, more))

  lacks_without : (ch : ℕ) (ps : List (Place M)) (k : ℕ) → has_key ps k ≡ false → has_key (places_without ch ps) k ≡ false
  lacks_without ch [] k lacks = refl
  lacks_without ch (p ∷ ps) k lacks = lacks_step (p.letter.channel.0 == ch) ch p ps k refl (lacks_without ch ps k) lacks

  apart_step : (test : Bool) (ch : ℕ) (p : Place M) (ps : List (Place M)) → (p.letter.channel.0 == ch) ≡ test → KeysApart (p ∷ ps)
      → KeysApart (places_without ch ps)
      → KeysApart (places_without ch (p ∷ ps))
  apart_step true ch p ps is apart rest = rw is apart.1
  apart_step false ch p ps is apart rest = rw is (lacks_without ch ps p.key apart.0, rest)

  pub apart_without : (ch : ℕ) (ps : List (Place M)) → KeysApart ps → KeysApart (places_without ch ps)
  apart_without ch [] apart = tt
  apart_without ch (p ∷ ps) apart = apart_step (p.letter.channel.0 == ch) ch p ps refl apart (apart_without ch ps apart.1)

  count_step : (test : Bool) (ch : ℕ) (p : Place M) (ps : List (Place M)) (r : ℕ) → (p.letter.channel.0 == ch) ≡ test
      → (first_on ch ps ≡ Some r → length (places_without ch ps) + 1 ≡ length ps) → first_on ch (p ∷ ps) ≡ Some r
      → length (places_without ch (p ∷ ps)) + 1 ≡ length (p ∷ ps)
  count_step true ch p ps r is rest first = rw is (omega arith)
  count_step false ch p ps r is rest first = let more = rest (rw is at first) in rw is (omega (arith, more))

  pub count_without : (ch : ℕ) (ps : List (Place M)) (r : ℕ) → first_on ch ps ≡ Some r → length (places_without ch ps) + 1 ≡ length ps
  count_without ch [] r first = absurd (cc)
  count_without ch (p ∷ ps) r first = count_step (p.letter.channel.0 == ch) ch p ps r refl (count_without ch ps r) first

  -- the ends of each channel
  ends_step : (test here : Bool) (older : Option ℕ) (ch c : ℕ) (p : Place M) (ps : List (Place M)) (r : ℕ) (node : Node M) → (p.letter.channel.0 == ch) ≡ test
      → (ch == c) ≡ here
      → KeysApart (p ∷ ps)
      → (first_on ch ps ≡ Some r → node_behind (Some p.key) ps r ≡ Some node
      → ends_on c (places_without ch ps) ≡ (if ch == c then ends_after node.next (ends_on c ps) else ends_on c ps))
      → first_on ch (p ∷ ps) ≡ Some r → node_behind older (p ∷ ps) r ≡ Some node
      → ends_on c (places_without ch (p ∷ ps)) ≡ (if ch == c then ends_after node.next (ends_on c (p ∷ ps)) else ends_on c (p ∷ ps))
  ends_step true true older ch c p ps r node is this apart rest first there =
      let head = head_of older ch p ps r node is first there in
      let one : p.letter.channel.0 ≡ ch = grind (arith, nat_tests, is) in
      let two : ch ≡ c = grind (arith, nat_tests, this) in
      let both : (p.letter.channel.0 == c) ≡ true = rw (← two) is in
      rw (is, this, both, head.is, one, two, ← first_is c ps) (ends_left (ends_on c ps) p.key)
  ends_step true false older ch c p ps r node is this apart rest first there =
      let one : p.letter.channel.0 ≡ ch = grind (arith, nat_tests, is) in
      let other : (p.letter.channel.0 == c) ≡ false = rw one this in
      rw (is, this, other) refl
  ends_step false true older ch c p ps r node is this apart rest first there =
      let later = later_of older ch p ps r node is apart first there in
      let two : ch ≡ c = grind (arith, nat_tests, this) in
      let other : (p.letter.channel.0 == c) ≡ false = rw (← two) is in
      let more = rw this at (rest later.first later.there) in
      rw (is, this, other) more
  ends_step false false older ch c p ps r node is this apart rest first there =
      let later = later_of older ch p ps r node is apart first there in
      let more = rw this at (rest later.first later.there) in
      rw (is, this, more) refl

  pub ends_without : (older : Option ℕ) (ch c : ℕ) (ps : List (Place M)) (r : ℕ) (node : Node M) → KeysApart ps → first_on ch ps ≡ Some r
      → node_behind older ps r ≡ Some node
      → ends_on c (places_without ch ps) ≡ (if ch == c then ends_after node.next (ends_on c ps) else ends_on c ps)
  ends_without older ch c [] r node apart first there = absurd (cc)
  ends_without older ch c (p ∷ ps) r node apart first there =
      ends_step (p.letter.channel.0 == ch) (ch == c) older ch c p ps r node refl refl apart (ends_without (Some p.key) ch c ps r node apart.1) first there

  -- the first and the last of all
  older_step : (test : Bool) (j : ℕ) (p : Place M) (ps : List (Place M)) (r : ℕ) (node : Node M) (k : ℕ) → (p.key == r) ≡ test
      → (node_behind (Some p.key) ps r ≡ Some node → is_key node.older k ≡ false) → node_behind (Some j) (p ∷ ps) r ≡ Some node → (j == k) ≡ false
      → is_key node.older k ≡ false
  older_step true j p ps r node k is rest there apart =
      let found = rw is at there in
      let older : node.older ≡ Some j = cc in
      rw older apart
  older_step false j p ps r node k is rest there apart = rest (rw is at there)

  older_in : (j : ℕ) (ps : List (Place M)) (r : ℕ) (node : Node M) (k : ℕ) → node_behind (Some j) ps r ≡ Some node → (j == k) ≡ false → has_key ps k ≡ false
      → is_key node.older k ≡ false
  older_in j [] r node k there apart lacks = absurd (cc)
  older_in j (p ∷ ps) r node k there apart lacks =
      older_step (p.key == r) j p ps r node k refl (λ more. older_in p.key ps r node k more (grind (arith, nat_tests, lacks)) (grind (arith, nat_tests, lacks)))
      there apart

  first_lacks : (ps : List (Place M)) (k : ℕ) → has_key ps k ≡ false → is_key (first_key ps) k ≡ false
  first_lacks [] k lacks = refl
  first_lacks (p ∷ ps) k lacks = grind (arith, nat_tests, lacks)

  newer_step : (test : Bool) (older : Option ℕ) (p : Place M) (ps : List (Place M)) (r : ℕ) (node : Node M) (k : ℕ) → (p.key == r) ≡ test
      → (node_behind (Some p.key) ps r ≡ Some node → is_key node.newer k ≡ false) → node_behind older (p ∷ ps) r ≡ Some node → has_key ps k ≡ false
      → is_key node.newer k ≡ false
  newer_step true older p ps r node k is rest there lacks =
      let found = rw is at there in
      let newer : node.newer ≡ first_key ps = cc in
      rw newer (first_lacks ps k lacks)
  newer_step false older p ps r node k is rest there lacks = rest (rw is at there)

  newer_in : (older : Option ℕ) (ps : List (Place M)) (r : ℕ) (node : Node M) (k : ℕ) → node_behind older ps r ≡ Some node → has_key ps k ≡ false
      → is_key node.newer k ≡ false
  newer_in older [] r node k there lacks = absurd (cc)
  newer_in older (p ∷ ps) r node k there lacks =
      let less : has_key ps k ≡ false = grind (arith, nat_tests, lacks) in
      newer_step (p.key == r) older p ps r node k refl (λ more. newer_in (Some p.key) ps r node k more less) there less

  some_step : (test : Bool) (j : ℕ) (p : Place M) (ps : List (Place M)) (r : ℕ) (node : Node M) → (p.key == r) ≡ test
      → (node_behind (Some p.key) ps r ≡ Some node → is_none_key node.older ≡ false) → node_behind (Some j) (p ∷ ps) r ≡ Some node
      → is_none_key node.older ≡ false
  some_step true j p ps r node is rest there =
      let found = rw is at there in
      let older : node.older ≡ Some j = cc in
      rw older refl
  some_step false j p ps r node is rest there = rest (rw is at there)

  some_older : (j : ℕ) (ps : List (Place M)) (r : ℕ) (node : Node M) → node_behind (Some j) ps r ≡ Some node → is_none_key node.older ≡ false
  some_older j [] r node there = absurd (cc)
  some_older j (p ∷ ps) r node there = some_step (p.key == r) j p ps r node refl (some_older p.key ps r node) there

  first_step : (test : Bool) (ch : ℕ) (p : Place M) (ps : List (Place M)) (r : ℕ) (node : Node M) → (p.letter.channel.0 == ch) ≡ test → KeysApart (p ∷ ps)
      → first_on ch (p ∷ ps) ≡ Some r → node_behind None (p ∷ ps) r ≡ Some node
      → first_key (places_without ch (p ∷ ps)) ≡ (if is_none_key node.older then node.newer else Some p.key)
  first_step true ch p ps r node is apart first there = let head = head_of None ch p ps r node is first there in rw (is, head.is) refl
  first_step false ch p ps r node is apart first there =
      let later = later_of None ch p ps r node is apart first there in
      let some : is_none_key node.older ≡ false = some_older p.key ps r node later.there in
      rw (is, some) refl

  pub first_without : (ch : ℕ) (ps : List (Place M)) (r : ℕ) (node : Node M) → KeysApart ps → first_on ch ps ≡ Some r → node_behind None ps r ≡ Some node
      → first_key (places_without ch ps) ≡ (if is_none_key node.older then node.newer else first_key ps)
  first_without ch [] r node apart first there = absurd (cc)
  first_without ch (p ∷ ps) r node apart first there = first_step (p.letter.channel.0 == ch) ch p ps r node refl apart first there

  last_left : (older : Option ℕ) (j : ℕ) (ps : List (Place M)) → last_behind older ps ≡ (if is_none_key (first_key ps) then older else last_behind (Some j) ps)
  last_left older j [] = refl
  last_left older j (p ∷ ps) = refl

  last_step : (test : Bool) (older : Option ℕ) (ch : ℕ) (p : Place M) (ps : List (Place M)) (r : ℕ) (node : Node M) → (p.letter.channel.0 == ch) ≡ test
      → KeysApart (p ∷ ps)
      → (first_on ch ps ≡ Some r → node_behind (Some p.key) ps r ≡ Some node
      → last_behind (Some p.key) (places_without ch ps) ≡ (if is_none_key node.newer then node.older else last_behind (Some p.key) ps))
      → first_on ch (p ∷ ps) ≡ Some r → node_behind older (p ∷ ps) r ≡ Some node
      → last_behind older (places_without ch (p ∷ ps)) ≡ (if is_none_key node.newer then node.older else last_behind older (p ∷ ps))
  last_step true older ch p ps r node is apart rest first there =
      let head = head_of older ch p ps r node is first there in rw (is, head.is) (last_left older p.key ps)
  last_step false older ch p ps r node is apart rest first there =
      let later = later_of older ch p ps r node is apart first there in rw is (rest later.first later.there)

  pub last_without : (older : Option ℕ) (ch : ℕ) (ps : List (Place M)) (r : ℕ) (node : Node M) → KeysApart ps → first_on ch ps ≡ Some r
      → node_behind older ps r ≡ Some node
      → last_behind older (places_without ch ps) ≡ (if is_none_key node.newer then node.older else last_behind older ps)
  last_without older ch [] r node apart first there = absurd (cc)
  last_without older ch (p ∷ ps) r node apart first there =
      last_step (p.letter.channel.0 == ch) older ch p ps r node refl apart (last_without (Some p.key) ch ps r node apart.1) first there

  -- the nodes: the neighbours of the one that goes are linked to one another
  abbrev pub relinked : Node M → ℕ → Option (Node M) → Option (Node M)
  relinked gone k found =
      if is_key gone.newer k
      then older_put gone.older (if is_key gone.older k then newer_put gone.newer found else found)
      else (if is_key gone.older k then newer_put gone.newer found else found)

  -- no letter behind has the key of this older one
  abbrev pub IsOutside : Option ℕ → List (Place M) → Type 0
  IsOutside older ps = (k : ℕ) → is_key older k ≡ true → has_key ps k ≡ false

  newer_none : (test : Bool) (older : Option ℕ) (newer : Option ℕ) (k : ℕ) (ps : List (Place M)) (j : Option ℕ) → is_key older k ≡ test → IsOutside older ps
      → (if is_key older k then newer_put newer (node_behind j ps k) else node_behind j ps k) ≡ node_behind j ps k
  newer_none true older newer k ps j is outside =
      let none : node_behind j ps k ≡ None = no_node j ps k (outside k is) in rw (is, none) refl
  newer_none false older newer k ps j is outside = rw is refl

  rehead_step : (test : Bool) (older : Option ℕ) (j : ℕ) (q : Place M) (ps : List (Place M)) (k : ℕ) → (q.key == k) ≡ test
      → (if q.key == k then older_put older (node_behind (Some j) (q ∷ ps) k) else node_behind (Some j) (q ∷ ps) k) ≡ node_behind older (q ∷ ps) k
  rehead_step true older j q ps k is = rw is refl
  rehead_step false older j q ps k is = rw is refl

  rehead : (older : Option ℕ) (j : ℕ) (ps : List (Place M)) (k : ℕ)
      → (if is_key (first_key ps) k then older_put older (node_behind (Some j) ps k) else node_behind (Some j) ps k) ≡ node_behind older ps k
  rehead older j [] k = refl
  rehead older j (q ∷ ps) k = rehead_step (q.key == k) older j q ps k refl

  inner_head : (test : Bool) (older : Option ℕ) (p : Place M) (ps : List (Place M)) (k : ℕ) → (p.key == k) ≡ test → KeysApart (p ∷ ps)
      → (if p.key == k then None else node_behind older (p ∷ ps) k) ≡ node_behind (Some p.key) ps k
  inner_head true older p ps k is apart =
      let same : p.key ≡ k = grind (arith, nat_tests, is) in
      let lacks : has_key ps k ≡ false = subst (λ z. has_key ps z ≡ false) same apart.0 in
      rw is (sym (no_node (Some p.key) ps k lacks))
  inner_head false older p ps k is apart = rw is refl

  head_goes : (older : Option ℕ) (ch : ℕ) (p : Place M) (ps : List (Place M)) (r : ℕ) (node : Node M) (k : ℕ) → IsHead older ch p ps r node → KeysApart (p ∷ ps)
      → IsOutside older (p ∷ ps)
      → node_behind older ps k ≡ relinked node k (if r == k then None else node_behind older (p ∷ ps) k)
  head_goes older ch p ps r node k head apart outside =
      let less : IsOutside older ps = λ o is. let lacks = outside o is in grind (arith, nat_tests, lacks) in
      rw (head.is, head.key, inner_head (p.key == k) older p ps k refl apart, newer_none (is_key older k) older (first_key ps) k ps (Some p.key) refl less)
      (sym (rehead older p.key ps k))

  -- the letter in front stays
  other_first : (test : Bool) (ch c : ℕ) (p : Place M) (ps : List (Place M)) → (p.letter.channel.0 == ch) ≡ test → (c == ch) ≡ false
      → first_on c (places_without ch ps) ≡ first_on c ps → first_on c (places_without ch (p ∷ ps)) ≡ first_on c (p ∷ ps)
  other_first true ch c p ps is apart rest =
      let one : p.letter.channel.0 ≡ ch = grind (arith, nat_tests, is) in
      let other : (p.letter.channel.0 == c) ≡ false = grind (arith, nat_tests, apart, one) in
      rw (is, other) refl
  other_first false ch c p ps is apart rest = rw (is, rest) refl

  first_other : (ch c : ℕ) (ps : List (Place M)) → (c == ch) ≡ false → first_on c (places_without ch ps) ≡ first_on c ps
  first_other ch c [] apart = refl
  first_other ch c (p ∷ ps) apart = other_first (p.letter.channel.0 == ch) ch c p ps refl apart (first_other ch c ps apart)

  -- the one behind the front
  behind_step : (test : Bool) (ch j : ℕ) (p : Place M) (ps : List (Place M)) (r : ℕ) (node : Node M) → (p.letter.channel.0 == ch) ≡ test → KeysApart (p ∷ ps)
      → has_key (p ∷ ps) j ≡ false
      → first_on ch (p ∷ ps) ≡ Some r → node_behind (Some j) (p ∷ ps) r ≡ Some node
      → first_key (places_without ch (p ∷ ps)) ≡ (if is_key node.older j then node.newer else first_key (p ∷ ps))
  behind_step true ch j p ps r node is apart lacks first there =
      let head = head_of (Some j) ch p ps r node is first there in rw (is, head.is, same_number j) refl
  behind_step false ch j p ps r node is apart lacks first there =
      let later = later_of (Some j) ch p ps r node is apart first there in
      let less : has_key ps j ≡ false = grind (arith, nat_tests, lacks) in
      let other : (p.key == j) ≡ false = grind (arith, nat_tests, lacks) in
      rw (is, older_in p.key ps r node j later.there other less) refl

  behind : (ch j : ℕ) (ps : List (Place M)) (r : ℕ) (node : Node M) → KeysApart ps → has_key ps j ≡ false → first_on ch ps ≡ Some r
      → node_behind (Some j) ps r ≡ Some node
      → first_key (places_without ch ps) ≡ (if is_key node.older j then node.newer else first_key ps)
  behind ch j [] r node apart lacks first there = absurd (cc)
  behind ch j (p ∷ ps) r node apart lacks first there = behind_step (p.letter.channel.0 == ch) ch j p ps r node refl apart lacks first there

  put_if : (test : Bool) (newer : Option ℕ) (node : Node M)
      → (if test then newer_put newer (Some node) else Some node) ≡ Some (record node { newer = (if test then newer else node.newer) })
  put_if true newer node = refl
  put_if false newer node = refl

  front_stays : (older : Option ℕ) (ch : ℕ) (p : Place M) (ps : List (Place M)) (r : ℕ) (node : Node M) → (p.letter.channel.0 == ch) ≡ false
      → IsLater older ch p ps r node → KeysApart (p ∷ ps)
      → node_behind older (p ∷ places_without ch ps) p.key ≡ relinked node p.key (if r == p.key then None else node_behind older (p ∷ ps) p.key)
  front_stays older ch p ps r node is later apart =
      let turned : (r == p.key) ≡ false = grind (arith, nat_tests, later.apart) in
      let newer : is_key node.newer p.key ≡ false = newer_in (Some p.key) ps r node p.key later.there apart.0 in
      rw (
        turned,
        same_number p.key,
        newer,
        put_if (is_key node.older p.key) node.newer
            (record { channel = p.letter.channel; message = p.letter.message; next = first_on p.letter.channel.0 ps; older = older; newer = first_key ps }),
        ← behind ch p.key ps r node apart.1 apart.0 later.first later.there,
        first_other ch p.letter.channel.0 ps is,
      ) refl

  stays_step : (test : Bool) (older : Option ℕ) (ch : ℕ) (p : Place M) (ps : List (Place M)) (r : ℕ) (node : Node M) (k : ℕ) → (p.key == k) ≡ test
      → (p.letter.channel.0 == ch) ≡ false → IsLater older ch p ps r node → KeysApart (p ∷ ps)
      → node_behind (Some p.key) (places_without ch ps) k ≡ relinked node k (if r == k then None else node_behind (Some p.key) ps k)
      → node_behind older (p ∷ places_without ch ps) k ≡ relinked node k (if r == k then None else node_behind older (p ∷ ps) k)
  stays_step true older ch p ps r node k here is later apart rest =
      let same : p.key ≡ k = grind (arith, nat_tests, here) in
      subst (λ z. node_behind older (p ∷ places_without ch ps) z ≡ relinked node z (if r == z then None else node_behind older (p ∷ ps) z)) same
      (front_stays older ch p ps r node is later apart)
  stays_step false older ch p ps r node k here is later apart rest = rw here rest

  outside_behind : (p : Place M) (ps : List (Place M)) → KeysApart (p ∷ ps) → IsOutside (Some p.key) ps
  outside_behind p ps apart k is =
      let same : p.key ≡ k = grind (arith, nat_tests, is) in subst (λ z. has_key ps z ≡ false) same apart.0

  nodes_step : (test : Bool) (older : Option ℕ) (ch : ℕ) (p : Place M) (ps : List (Place M)) (r : ℕ) (node : Node M) (k : ℕ) → (p.letter.channel.0 == ch) ≡ test
      → KeysApart (p ∷ ps) → IsOutside older (p ∷ ps)
      → (first_on ch ps ≡ Some r → node_behind (Some p.key) ps r ≡ Some node
      → node_behind (Some p.key) (places_without ch ps) k ≡ relinked node k (if r == k then None else node_behind (Some p.key) ps k))
      → first_on ch (p ∷ ps) ≡ Some r → node_behind older (p ∷ ps) r ≡ Some node
      → node_behind older (places_without ch (p ∷ ps)) k ≡ relinked node k (if r == k then None else node_behind older (p ∷ ps) k)
  nodes_step true older ch p ps r node k is apart outside rest first there =
      rw is (head_goes older ch p ps r node k (head_of older ch p ps r node is first there) apart outside)
  nodes_step false older ch p ps r node k is apart outside rest first there =
      let later = later_of older ch p ps r node is apart first there in
      rw is (stays_step (p.key == k) older ch p ps r node k refl is later apart (rest later.first later.there))

  pub nodes_without : (older : Option ℕ) (ch : ℕ) (ps : List (Place M)) (r : ℕ) (node : Node M) (k : ℕ) → KeysApart ps → IsOutside older ps
      → first_on ch ps ≡ Some r → node_behind older ps r ≡ Some node
      → node_behind older (places_without ch ps) k ≡ relinked node k (if r == k then None else node_behind older ps k)
  nodes_without older ch [] r node k apart outside first there = absurd (cc)
  nodes_without older ch (p ∷ ps) r node k apart outside first there =
      nodes_step (p.letter.channel.0 == ch) older ch p ps r node k refl apart outside
      (nodes_without (Some p.key) ch ps r node k apart.1 (outside_behind p ps apart)) first there

  pub oldest_is : (ps : List (Place M)) (r : ℕ) (node : Node M) → first_key ps ≡ Some r → node_behind None ps r ≡ Some node
      → oldest (letters_of ps) ≡ Some node.channel
  oldest_is [] r node first there = absurd (cc)
  oldest_is (p ∷ ps) r node first there =
      let same : p.key ≡ r = cc in
      let found = rw (← same, same_number p.key) at there in cc

  pub no_oldest : (ps : List (Place M)) → first_key ps ≡ None → ps ≡ []
  no_oldest [] none = refl
  no_oldest (p ∷ ps) none = absurd (cc)
