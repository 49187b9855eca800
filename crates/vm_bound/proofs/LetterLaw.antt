-- What the undelivered messages weigh, behind a message that is sent and behind one that is taken.
use Rattle.std.proofs.Common.{◌≡◌, ◌+◌, List, [], ◌∷◌, ◌++◌, Bool, true, false, Some, refl, sym, ap, ◌∙◌, arith, if◌then◌else◌}
use Rattle.vm_bound.specs.Letters.{letter_weight, letters, weights}
use Rattle.vm_legal.specs.Steps.{Letter}
use Rattle.vm_legal.specs.Undelivered.{undelivered, without_first}
use Rattle.vm_model.specs.Channels.{is_channel, queue}
use Rattle.vm_model.specs.Server.{first}
use Rattle.vm_model.specs.declared.event.Event.{Event}
use Rattle.vm_model.specs.declared.event.Event.TheVariants as event
use Rattle.vm_model.specs.declared.message.Channel.{Channel}
use Rattle.vm_model.specs.declared.message.Message.{Message}
use Rattle.vm_model.specs.declared.script.Header.{Header}
use Rattle.vm_quiet.proofs.Letters.{first_is, same_channel}
use Rattle.vm_quiet.specs.Letters.{messages_on}

-- one more letter
weights_end : (header : Header) (all : List Letter) (letter : Letter) → weights header (all ++ letter ∷ []) ≡ weights header all + letter_weight header letter
weights_end header [] letter = omega arith
weights_end header (one ∷ rest) letter = let more = weights_end header rest letter in omega (arith, more)

-- a message that is sent weighs what it weighs
pub letters_sent : (header : Header) (channel : Channel) (m : Message) (past : List Event)
    → letters header (event.Sent channel m ∷ past) ≡ letters header past + letter_weight header (record { channel = channel; message = m })
letters_sent header channel m past = weights_end header (undelivered past) (record { channel = channel; message = m })

-- the first of a channel no longer counts
weights_without : (header : Header) (channel : Channel) (m : Message) (all : List Letter) → first (messages_on channel all) ≡ Some m
    → weights header (without_first channel all) + letter_weight header (record { channel = channel; message = m }) ≡ weights header all
weights_without header channel m [] is = absurd (cc)
weights_without header channel m (letter ∷ rest) is = by (is_channel channel letter.channel) refl is (weights_without header channel m rest)
  where
    inner : (x y : Message) (q : List Message) → first (x ∷ q) ≡ Some y → x ≡ y
    inner x y q e = cc

    it : is_channel channel letter.channel ≡ true → letter.message ≡ m
        → letter_weight header (record { channel = channel; message = m }) ≡ letter_weight header letter
    it same is =
        ap (λ (k : Channel). letter_weight header (record { channel = k; message = m })) (sym (same_channel channel letter.channel same))
        ∙ ap (λ (k : Message). letter_weight header (record { channel = letter.channel; message = k })) (sym is)

    by : (b : Bool) → is_channel channel letter.channel ≡ b → first (if b then letter.message ∷ messages_on channel rest else messages_on channel rest) ≡ Some m
        → (first (messages_on channel rest) ≡ Some m
        → weights header (without_first channel rest) + letter_weight header (record { channel = channel; message = m }) ≡ weights header rest)
        → weights header (if b then rest else letter ∷ without_first channel rest) + letter_weight header (record { channel = channel; message = m })
        ≡ letter_weight header letter + weights header rest
    by true same head more =
        let one = it same (inner letter.message m (messages_on channel rest) head) in
        omega (arith, one)
    by false other head more = let below = more head in omega (arith, below)

-- a message that is taken weighs no more
pub letters_taken : (header : Header) (channel : Channel) (m : Message) (past : List Event) → first (queue channel past) ≡ Some m
    → letters header (event.Taken channel m ∷ past) + letter_weight header (record { channel = channel; message = m }) ≡ letters header past
letters_taken header channel m past head = weights_without header channel m (undelivered past) (first_is channel m past head)
