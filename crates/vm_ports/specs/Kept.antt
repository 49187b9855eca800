-- How the nodes are kept: what each of them, the ends of all and the ends of each channel are.
use Rattle.std.specs.Prelude.{ℕ, ◌≡◌, ◌-◌, ◌==◌, Bool, true, false, List, [], ◌∷◌, length, min, Option, Some, None, if◌then◌else◌}
use Rattle.std.specs.Map.{lookup}
use Rattle.indexmap.specs.IndexMap.{spare}
use Rattle.slab.specs.Slab.{get, slab_len}
use Rattle.vm_ports.specs.declared.links.Ends.{Ends}
use Rattle.vm_ports.specs.declared.links.Links.{Links}
use Rattle.vm_ports.specs.declared.node.Node.{Node}
use Rattle.vm_ports.specs.Nodes.{KeysApart, Place, along, first_key, node_at}

abbrev pub is_key : Option ℕ → ℕ → Bool
is_key None key = false
is_key (Some other) key = other == key

-- the ends of a channel whose first letter is this, with the ends of the others behind it
abbrev pub ends_from : ℕ → Option Ends → Ends
ends_from first None = record { first = first; last = first }
ends_from first (Some ends) = record { first = first; last = ends.last }

abbrev pub first_or : Option Ends → ℕ → ℕ
first_or None key = key
first_or (Some ends) key = ends.first

abbrev pub last_of : Option Ends → Option ℕ
last_of None = None
last_of (Some ends) = Some ends.last

-- the first of these, or else the second
abbrev pub key_or : Option ℕ → ℕ → ℕ
key_or None other = other
key_or (Some key) other = key

abbrev pub is_none_key : Option ℕ → Bool
is_none_key None = true
is_none_key (Some key) = false

-- the ends once the first is gone, behind which this one comes
abbrev pub ends_after : Option ℕ → Option Ends → Option Ends
ends_after None ends = None
ends_after (Some next) None = None
ends_after (Some next) (Some ends) = Some (record ends { first = next })

module _ {M : Type 0} where
  abbrev pub newer_put : Option ℕ → Option (Node M) → Option (Node M)
  newer_put newer None = None
  newer_put newer (Some node) = Some (record node { newer = newer })

  abbrev pub older_put : Option ℕ → Option (Node M) → Option (Node M)
  older_put older None = None
  older_put older (Some node) = Some (record node { older = older })

  abbrev pub next_put : Option ℕ → Option (Node M) → Option (Node M)
  next_put next None = None
  next_put next (Some node) = Some (record node { next = next })

  -- the nodes, where the one under this key has another link
  abbrev pub with_newer : Option ℕ → Option ℕ → (ℕ → Option (Node M)) → ℕ → Option (Node M)
  with_newer at newer nodes key = if is_key at key then newer_put newer (nodes key) else nodes key

  abbrev pub with_older : Option ℕ → Option ℕ → (ℕ → Option (Node M)) → ℕ → Option (Node M)
  with_older at older nodes key = if is_key at key then older_put older (nodes key) else nodes key

  abbrev pub with_next : Option ℕ → Option ℕ → (ℕ → Option (Node M)) → ℕ → Option (Node M)
  with_next at next nodes key = if is_key at key then next_put next (nodes key) else nodes key

  -- the key of the last, or this one where there is none
  abbrev pub last_behind : Option ℕ → List (Place M) → Option ℕ
  last_behind older [] = older
  last_behind older (place ∷ places) = last_behind (Some place.key) places

  -- the ends of a channel, where it has a letter
  abbrev pub ends_on : ℕ → List (Place M) → Option Ends
  ends_on ch [] = None
  ends_on ch (place ∷ places) =
      if place.letter.channel.0 == ch then Some (ends_from place.key (ends_on ch places)) else ends_on ch places

  -- the letters without the first of a channel
  abbrev pub places_without : ℕ → List (Place M) → List (Place M)
  places_without ch [] = []
  places_without ch (place ∷ places) = if place.letter.channel.0 == ch then places else place ∷ places_without ch places

  abbrev pub places : Links M → List (Place M)
  places links = along (get links.nodes) (slab_len links.nodes) links.first

  -- these letters stand in the nodes, and no others
  pub record Linked (links : Links M) (places : List (Place M)) : Type 0 where
    pub count : slab_len links.nodes ≡ length places
    pub nodes : (key : ℕ) → get links.nodes key ≡ node_at places key
    pub apart : KeysApart places
    pub first : links.first ≡ first_key places
    pub last : links.last ≡ last_behind None places
    pub ends : (ch : ℕ) → lookup (λ id. ch == id.0) links.ends.entries ≡ ends_on ch places

  abbrev pub AreLinked : Links M → Type 0
  AreLinked links = Linked links (places links)

  -- how many more letters fit without memory
  abbrev pub room_of : Links M → ℕ
  room_of links = min (links.nodes.capacity - slab_len links.nodes) (spare links.ends)
