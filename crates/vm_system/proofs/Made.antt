-- Which channels were made, once a message is sent.
use Rattle.vm_system.proofs.Common.{AreFresh, Bool, CanSend, Channel, Down, Event, HostId, List, Message, None, ObjectId, Option, Some, Up, [], ap, append-nil}
use Rattle.vm_system.proofs.Common.{append_assoc, arith, channel_number, false, false≢true, is_channel, is_made, is_of_control, is_some, made_by, nat_tests}
use Rattle.vm_system.proofs.Common.{opened, or_left, refl, same_channel, sym, true, ℕ, ◌&&◌, ◌++◌, ◌==◌, ◌||◌, ◌∙◌, ◌∷◌, ◌≡◌}
use Rattle.vm_model.specs.declared.event.Event.TheVariants as event
use Rattle.vm_model.specs.declared.message.Message.TheVariants as message
use Rattle.vm_system.proofs.Numbers.{has_number_end, number_end}

-- the two channels of a control
of_control : (c : Channel) (h : HostId) (o : ObjectId) (k : ℕ) (b : Bool)
    → (is_channel c (Down h o k) || (is_channel c (Up h o) || b)) ≡ (is_of_control c h.0 o.0 k || b)
of_control (Up host object) h o k b = grind (arith, nat_tests)
of_control (Down host object control) h o k b = grind (arith, nat_tests)

has_numbers_end : (c d e : Channel) (made : List Channel)
    → is_some (channel_number c (made ++ d ∷ e ∷ [])) ≡ (is_channel c e || (is_channel c d || is_some (channel_number c made)))
has_numbers_end c d e made =
    ap (λ (all : List Channel). is_some (channel_number c all)) (sym (append_assoc made (d ∷ []) (e ∷ [])))
    ∙ has_number_end c e (made ++ d ∷ [])
    ∙ ap (λ (b : Bool). is_channel c e || b) (has_number_end c d made)

same_end : (c : Channel) (made : List Channel) (b : Bool) → is_some (channel_number c made) ≡ b → is_some (channel_number c (made ++ [])) ≡ b
same_end c made b is = ap (λ (all : List Channel). is_some (channel_number c all)) (append-nil made) ∙ is

absorbed : (x b : Bool) → (x ≡ true → b ≡ true) → b ≡ (x || b)
absorbed true b known = known refl
absorbed false b known = refl

-- the channels of a control, and the one up where it isn't there
opened_made : (c : Channel) (host : HostId) (object : ObjectId) (control : ℕ) (made : List Channel) (b : Bool)
    → is_some (channel_number (Up host object) made) ≡ b
    → is_some (channel_number c (made ++ opened b (Up host object) (Down host object control))) ≡ (is_of_control c host.0 object.0 control || is_some
    (channel_number c made))
opened_made c host object control made false is =
    has_numbers_end c (Up host object) (Down host object control) made ∙ of_control c host object control (is_some (channel_number c made))
opened_made c host object control made true is =
    has_number_end c (Down host object control) made
    ∙ ap (λ (b : Bool). is_channel c (Down host object control) || b) (absorbed (is_channel c (Up host object)) (is_some (channel_number c made)) known)
    ∙ of_control c host object control (is_some (channel_number c made))
  where
    known : is_channel c (Up host object) ≡ true → is_some (channel_number c made) ≡ true
    known e = ap (λ (d : Channel). is_some (channel_number d made)) (sym (same_channel c (Up host object) e)) ∙ is

-- numbers go to the channels that were made
pub numbers_made : (c channel : Channel) (m : Message) (past : List Event) (made : List Channel) → CanSend channel m past
    → is_some (channel_number c made) ≡ is_made c past
    → is_some (channel_number c (made ++ made_by made channel m)) ≡ is_made c (event.Sent channel m ∷ past)
numbers_made c (Up host object) (message.Create control size) past made can is =
    opened_made c host object control made (is_some (channel_number (Up host object) made)) refl
    ∙ ap (λ (b : Bool). is_of_control c host.0 object.0 control || b) is
numbers_made c (Up host object) (message.Init control size) past made can is =
    opened_made c host object control made (is_some (channel_number (Up host object) made)) refl
    ∙ ap (λ (b : Bool). is_of_control c host.0 object.0 control || b) is
numbers_made c (Up host object) m past made can is = same_end c made (is_made c past) is
numbers_made c (Down host object control) m past made can is = same_end c made (is_made c past) is

own_made : (host : HostId) (object : ObjectId) (past : List Event) → ((host.0 == host.0 && object.0 == object.0) || is_made (Up host object) past) ≡ true
own_made host object past =
    let is : (host.0 == host.0 && object.0 == object.0) ≡ true = grind (arith, nat_tests) in or_left (host.0 == host.0 && object.0 == object.0)
    (is_made (Up host object) past) is

-- the channel of a message is made then
pub made_sent : (channel : Channel) (m : Message) (past : List Event) → CanSend channel m past → is_made channel (event.Sent channel m ∷ past) ≡ true
made_sent (Up host object) (message.Create control size) past can = own_made host object past
made_sent (Up host object) (message.Init control size) past can = own_made host object past
made_sent (Up host object) m past can = can
made_sent (Down host object control) m past can = can

no_number : (o : Option ℕ) → is_some o ≡ false → o ≡ None
no_number None is = refl
no_number (Some n) is = absurd (false≢true (sym is))

opened_fresh : (host : HostId) (object : ObjectId) (control : ℕ) (made : List Channel) (b : Bool) → is_some (channel_number (Up host object) made) ≡ b
    → channel_number (Down host object control) made ≡ None
    → AreFresh (opened b (Up host object) (Down host object control)) made
opened_fresh host object control made true is down = (down, tt)
opened_fresh host object control made false is down =
    (no_number (channel_number (Up host object) made) is, (number_end (Down host object control) (Up host object) made down, tt))

-- those that a message makes were not made before
pub fresh_made : (channel : Channel) (m : Message) (past : List Event) (made : List Channel) → CanSend channel m past
    → ((c : Channel) → is_some (channel_number c made) ≡ is_made c past) → AreFresh (made_by made channel m) made
fresh_made (Up host object) (message.Create control size) past made can is =
    opened_fresh host object control made (is_some (channel_number (Up host object) made)) refl
    (no_number (channel_number (Down host object control) made) (is (Down host object control) ∙ can))
fresh_made (Up host object) (message.Init control size) past made can is =
    opened_fresh host object control made (is_some (channel_number (Up host object) made)) refl
    (no_number (channel_number (Down host object control) made) (is (Down host object control) ∙ can))
fresh_made (Up host object) m past made can is = tt
fresh_made (Down host object control) m past made can is = tt
