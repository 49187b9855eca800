-- The walk along the nodes gives the letters that stand there.
use Rattle.std.proofs.Common.{ℕ, zero, suc, ◌≡◌, ◌≢◌, ◌+◌, ◌==◌, Bool, true, false, List, [], ◌∷◌, ◌++◌, length, Option, Some, None, refl, sym, ◌∙◌, subst, ap}
use Rattle.std.proofs.Common.{arith}
use Rattle.std.proofs.lemmas.Bool.Decides.{nat_tests}
use Rattle.std.specs.Map.{lookup}
use Rattle.std.specs.Prelude.{if◌then◌else◌}
use Rattle.slab.specs.Slab.{get, slab_len}
use Rattle.vm_ports.specs.declared.links.Ends.{Ends}
use Rattle.vm_ports.specs.declared.links.Links.{Links}
use Rattle.vm_ports.specs.declared.node.Node.{Node}
use Rattle.vm_ports.specs.Kept.{AreLinked, Linked, ends_after, ends_on, first_or, is_none_key, key_or, last_behind, last_of, places, places_without, with_newer}
use Rattle.vm_ports.specs.Kept.{with_next, with_older}
use Rattle.vm_ports.specs.Nodes.{KeysApart, Place, along, first_key, first_on, has_key, node_at, node_behind, place_of}
use Rattle.vm_ports.proofs.Places.{appended_node, differs, first_is, first_of, fresh, has_node, push_apart, push_count, push_ends, push_first, push_last}
use Rattle.vm_ports.proofs.Places.{same_number}
use Rattle.vm_ports.proofs.Removed.{HasNone, apart_without, count_without, ends_without, first_has, first_without, has_none, last_without, nodes_without}

module _ {M : Type 0} where
  along_step : (nodes : ℕ → Option (Node M)) (n key : ℕ) (node : Node M) (rest : List (Place M)) → nodes key ≡ Some node → along nodes n node.newer ≡ rest
      → along nodes (suc n) (Some key) ≡ place_of key node ∷ rest
  unfolding along
  along_step nodes n key node rest is more = rw (is, more) refl

  along_none : (nodes : ℕ → Option (Node M)) (from : Option ℕ) → along nodes zero from ≡ []
  unfolding along
  along_none nodes from = refl

  -- nodes that have these letters give them
  pub along_is : (nodes : ℕ → Option (Node M)) (older : Option ℕ) (ps : List (Place M)) → KeysApart ps
      → ((k : ℕ) → has_key ps k ≡ true → nodes k ≡ node_behind older ps k) → along nodes (length ps) (first_key ps) ≡ ps
  along_is nodes older [] apart there = along_none nodes None
  along_is nodes older (p ∷ ps) apart there =
      let here : nodes p.key ≡ Some (record {
        channel = p.letter.channel;
        message = p.letter.message;
        next = first_on p.letter.channel.0 ps;
        older = older;
        newer = first_key ps;
      })
      = there p.key (rw (same_number p.key) refl) ∙ rw (same_number p.key) refl in
      let rest : along nodes (length ps) (first_key ps) ≡ ps = along_is nodes (Some p.key) ps apart.1 (λ k has.
      let other : (p.key == k) ≡ false = differs ps p.key k apart.0 has in
      there k (rw other has) ∙ rw other refl) in
      along_step nodes (length ps) p.key _ ps here rest

  pub places_are : (links : Links M) (ps : List (Place M)) → Linked links ps → places links ≡ ps
  places_are links ps linked =
      rw (linked.count, linked.first) (along_is (get links.nodes) None ps linked.apart (λ k has. linked.nodes k))

  pub are_linked : (links : Links M) (ps : List (Place M)) → Linked links ps → AreLinked links
  are_linked links ps linked = subst (Linked links) (sym (places_are links ps linked)) linked

  -- what an append does
  pub record Appends (ps : List (Place M)) (e : Place M) (old new : Links M) : Type 0 where
    pub mid : ℕ → Option (Node M)
    pub absent : get old.nodes e.key ≡ None
    pub put : mid e.key ≡ Some (fresh e old.last)
    pub others : (o : ℕ) → o ≢ e.key → mid o ≡ get old.nodes o
    pub nodes : (k : ℕ) → get new.nodes k ≡ with_next (last_of (ends_on e.letter.channel.0 ps)) (Some e.key) (with_newer old.last (Some e.key) mid) k
    pub count : slab_len new.nodes ≡ slab_len old.nodes + 1
    pub first : new.first ≡ Some (key_or old.first e.key)
    pub last : new.last ≡ Some e.key
    pub ends : (c : ℕ) → lookup (λ id. c == id.0) new.ends.entries
        ≡ (if e.letter.channel.0 == c then Some (record { first = first_or (ends_on e.letter.channel.0 ps) e.key; last = e.key }) else lookup (λ id. c == id.0)
        old.ends.entries)

  absent_key : (ps : List (Place M)) (test : Bool) (k : ℕ) → has_key ps k ≡ test → node_at ps k ≡ None → has_key ps k ≡ false
  absent_key ps true k is none = let there = has_node None ps k is in let both : Some there.0 ≡ None = sym there.1 ∙ none in absurd (cc)
  absent_key ps false k is none = is

  mid_node : (ps : List (Place M)) (e : Place M) (old new : Links M) (a : Appends ps e old new) → Linked old ps → (test : Bool) (o : ℕ) → (e.key == o) ≡ test
      → a.mid o ≡ (if e.key == o then Some (fresh e (last_behind None ps)) else node_at ps o)
  mid_node ps e old new a linked true o is =
      let same : e.key ≡ o = grind (arith, nat_tests, is) in
      rw (is, ← same, ← linked.last) a.put
  mid_node ps e old new a linked false o is =
      let apart : o ≢ e.key = λ same. grind (arith, nat_tests, is, same) in
      rw is (a.others o apart ∙ linked.nodes o)

  ends_by : (test : Bool) (ps : List (Place M)) (e : Place M) (old new : Links M) → Appends ps e old new → Linked old ps → (c : ℕ)
      → (e.letter.channel.0 == c) ≡ test
      → lookup (λ id. c == id.0) new.ends.entries ≡ ends_on c (ps ++ e ∷ [])
  ends_by true ps e old new a linked c is =
      let same : e.letter.channel.0 ≡ c = grind (arith, nat_tests, is) in
      a.ends c ∙ rw (push_ends c ps e, is, same) refl
  ends_by false ps e old new a linked c is = a.ends c ∙ rw (push_ends c ps e, is) (linked.ends c)

  pub appended : (ps : List (Place M)) (e : Place M) (old new : Links M) → Linked old ps → Appends ps e old new → Linked new (ps ++ e ∷ [])
  appended ps e old new linked a =
      let lacks : has_key ps e.key ≡ false = absent_key ps (has_key ps e.key) e.key refl (sym (linked.nodes e.key) ∙ a.absent) in
      record {
        count = a.count ∙ ap (λ n. n + 1) linked.count ∙ sym (push_count ps e);
        nodes = λ k. a.nodes k ∙ rw linked.last (appended_node ps e a.mid linked.apart lacks (λ o. mid_node ps e old new a linked (e.key == o) o refl) k);
        apart = push_apart ps e linked.apart lacks;
        first = a.first ∙ rw (push_first ps e, linked.first) refl;
        last = a.last ∙ sym (push_last None ps e);
        ends = λ c. ends_by (e.letter.channel.0 == c) ps e old new a linked c refl;
      }

  -- what a taking does: the first node of a channel, under this key, goes
  pub record Takes (ps : List (Place M)) (ch r : ℕ) (node : Node M) (old new : Links M) : Type 0 where
    pub first_is : first_on ch ps ≡ Some r
    pub there : get old.nodes r ≡ Some node
    pub nodes : (k : ℕ) → get new.nodes k ≡ with_older node.newer node.older (with_newer node.older node.newer (λ o. if r == o then None else get old.nodes o))
        k
    pub count : slab_len new.nodes + 1 ≡ slab_len old.nodes
    pub first : new.first ≡ (if is_none_key node.older then node.newer else old.first)
    pub last : new.last ≡ (if is_none_key node.newer then node.older else old.last)
    pub ends : (c : ℕ) → lookup (λ id. c == id.0) new.ends.entries
        ≡ (if ch == c then ends_after node.next (lookup (λ id. c == id.0) old.ends.entries) else lookup (λ id. c == id.0) old.ends.entries)

  pub taken : (ps : List (Place M)) (ch r : ℕ) (node : Node M) (old new : Links M) → Linked old ps → Takes ps ch r node old new
      → Linked new (places_without ch ps)
  taken ps ch r node old new linked t =
      let there : node_at ps r ≡ Some node = sym (linked.nodes r) ∙ t.there in
      record {
        count = omega (arith, t.count, linked.count, count_without ch ps r t.first_is);
        nodes = λ k. t.nodes k ∙ rw (linked.nodes k) (sym (nodes_without None ch ps r node k linked.apart (λ o is. absurd (cc)) t.first_is there));
        apart = apart_without ch ps linked.apart;
        first = t.first ∙ rw linked.first (sym (first_without ch ps r node linked.apart t.first_is there));
        last = t.last ∙ rw linked.last (sym (last_without None ch ps r node linked.apart t.first_is there));
        ends = λ c. t.ends c ∙ rw (linked.ends c) (sym (ends_without None ch c ps r node linked.apart t.first_is there));
      }

  -- the first node of a channel that has ends
  pub first_node : (ps : List (Place M)) (links : Links M) (ch : ℕ) (ends : Ends) → Linked links ps → ends_on ch ps ≡ Some ends → (node : Node M)
      × (get links.nodes ends.first ≡ Some node)
  first_node ps links ch ends linked is =
      let found = has_node None ps ends.first (first_has ch ps ends.first (sym (first_is ch ps) ∙ ap first_of is)) in
      (found.0, linked.nodes ends.first ∙ found.1)

  pub no_ends : (ps : List (Place M)) (ch : ℕ) → ends_on ch ps ≡ None → HasNone ch ps
  no_ends ps ch none = has_none ch ps (sym (first_is ch ps) ∙ ap first_of none)

  oldest_of : (ps : List (Place M)) (r : ℕ) → first_key ps ≡ Some r → has_key ps r ≡ true
  oldest_of [] r first = absurd (cc)
  oldest_of (p ∷ ps) r first = let same : p.key ≡ r = cc in rw (same, same_number r) refl

  pub oldest_node : (ps : List (Place M)) (links : Links M) (r : ℕ) → Linked links ps → links.first ≡ Some r → (node : Node M) × (get links.nodes r ≡ Some node)
  oldest_node ps links r linked is =
      let found = has_node None ps r (oldest_of ps r (sym linked.first ∙ is)) in (found.0, linked.nodes r ∙ found.1)
