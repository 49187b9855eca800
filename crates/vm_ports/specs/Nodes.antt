-- The nodes of the undelivered letters, each under its key and linked to others by their keys.
use Rattle.std.specs.Prelude.{ℕ, zero, suc, ◌≡◌, ◌==◌, ◌||◌, Bool, false, List, [], ◌∷◌, map, Option, Some, None, if◌then◌else◌}
use Rattle.std.specs.Option.{option_map_or}
use Rattle.vm_ports.specs.declared.letter.Letter.{Letter}
use Rattle.vm_ports.specs.declared.node.Node.{Node}

-- a letter and the key of its node
pub record Place (M : Type 0) : Type 0 where
  pub key : ℕ
  pub letter : Letter M

module _ {M : Type 0} where
  abbrev pub letter_of : Place M → Letter M
  letter_of place = place.letter

  abbrev pub letters_of : List (Place M) → List (Letter M)
  letters_of places = map letter_of places

  -- the key of the first
  abbrev pub first_key : List (Place M) → Option ℕ
  first_key [] = None
  first_key (place ∷ places) = Some place.key

  -- the key of the first letter of a channel
  abbrev pub first_on : ℕ → List (Place M) → Option ℕ
  first_on ch [] = None
  first_on ch (place ∷ places) = if place.letter.channel.0 == ch then Some place.key else first_on ch places

  -- the node under a key, where the letters stand behind this older one
  abbrev pub node_behind : Option ℕ → List (Place M) → ℕ → Option (Node M)
  node_behind older [] key = None
  node_behind older (place ∷ places) key =
      if place.key == key
      then Some (record {
        channel = place.letter.channel;
        message = place.letter.message;
        next = first_on place.letter.channel.0 places;
        older = older;
        newer = first_key places;
      })
      else node_behind (Some place.key) places key

  -- the node under a key, where a letter has it
  abbrev pub node_at : List (Place M) → ℕ → Option (Node M)
  node_at places key = node_behind None places key

  -- a letter has this key
  abbrev pub has_key : List (Place M) → ℕ → Bool
  has_key [] key = false
  has_key (place ∷ places) key = (place.key == key) || has_key places key

  -- no two letters have one key
  abbrev pub KeysApart : List (Place M) → Type 0
  KeysApart [] = Unit {0}
  KeysApart (place ∷ places) = (has_key places place.key ≡ false) × KeysApart places

  abbrev pub place_of : ℕ → Node M → Place M
  place_of key node = record { key = key; letter = record { channel = node.channel; message = node.message } }

  -- so many letters from a key on, along the newer ones
  unfoldable pub along : (ℕ → Option (Node M)) → ℕ → Option ℕ → List (Place M)
  along nodes zero from = []
  along nodes (suc n) None = []
  along nodes (suc n) (Some key) = option_map_or (λ node. place_of key node ∷ along nodes n node.newer) (nodes key) []
