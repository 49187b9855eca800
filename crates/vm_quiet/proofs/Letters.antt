-- Channels among undelivered letters, and the returns among them.
use Rattle.std.proofs.Common.{ℕ, suc, ◌≡◌, List, [], ◌∷◌, ◌++◌, Bool, true, false, refl, sym, ap, subst, ◌∙◌, arith, Some, if◌then◌else◌}
use Rattle.std.proofs.lemmas.Bool.Decides.{nat_tests}
use Rattle.std.specs.Prelude.{◌==◌, ◌&&◌, ◌+◌, ◌-◌, ◌<◌, not}
use Rattle.vm_model.specs.declared.event.Event.{Event}
use Rattle.vm_model.specs.declared.event.Event.TheVariants as event
use Rattle.vm_model.specs.declared.message.Channel.{Channel}
use Rattle.vm_model.specs.declared.message.Channel.TheVariants.{Up, Down}
use Rattle.vm_model.specs.declared.message.Message.{Message}
use Rattle.vm_model.specs.declared.message.Message.TheVariants as message
use Rattle.vm_model.specs.Channels.{is_channel, queue}
use Rattle.vm_model.specs.Server.{first}
use Rattle.vm_model.specs.Side.{rest}
use Rattle.vm_legal.specs.Frames.{returns_out}
use Rattle.vm_legal.specs.Steps.{Letter}
use Rattle.vm_legal.specs.Undelivered.{undelivered, without_first}
use Rattle.vm_model.proofs.Ports.{down_port_is, port_is}
use Rattle.vm_quiet.specs.Letters.{messages_on}

pub never : {A : Type 0} → false ≡ true → A
never e = absurd (let bad : false ≡ true = e in cc)

-- `is_channel` is equality
pub same_channel : (c d : Channel) → is_channel c d ≡ true → d ≡ c
same_channel (Up h o) (Up host object) is = port_is host object h.0 o.0 (grind (arith, nat_tests)) (grind (arith, nat_tests))
same_channel (Down h o k) (Down host object control) is =
    down_port_is host object control h.0 o.0 k (grind (arith, nat_tests)) (grind (arith, nat_tests)) (grind (arith, nat_tests))
same_channel (Up h o) (Down host object control) is = never is
same_channel (Down h o k) (Up host object) is = never is

messages_end : (c : Channel) (ls : List Letter) (l : Letter)
    → messages_on c (ls ++ l ∷ []) ≡ (if is_channel c l.channel then messages_on c ls ++ l.message ∷ [] else messages_on c ls)
messages_end c [] l = refl
messages_end c (k ∷ ls) l =
    one (is_channel c k.channel) (is_channel c l.channel) k.message l.message (messages_on c ls) (messages_on c (ls ++ l ∷ [])) (messages_end c ls l)
  where
    one : (a b : Bool) (m n : Message) (q r : List Message) → r ≡ (if b then q ++ n ∷ [] else q)
        → (if a then m ∷ r else r) ≡ (if b then (if a then m ∷ q else q) ++ n ∷ [] else (if a then m ∷ q else q))
    one true true m n q r e = ap (λ x. m ∷ x) e
    one true false m n q r e = ap (λ x. m ∷ x) e
    one false true m n q r e = e
    one false false m n q r e = e

same_test : (c d : Channel) → is_channel c d ≡ true → (k : Channel) → is_channel c k ≡ is_channel d k
same_test c d is k = ap (λ (x : Channel). is_channel x k) (sym (same_channel c d is))

pub messages_without : (c d : Channel) (ls : List Letter)
    → messages_on c (without_first d ls) ≡ (if is_channel c d then rest (messages_on c ls) else messages_on c ls)
messages_without c d [] = none (is_channel c d)
  where
    none : (b : Bool) → let q : List Message = [] in q ≡ (if b then rest q else q)
    none true = refl
    none false = refl
messages_without c d (l ∷ ls) = by (is_channel d l.channel) refl (messages_without c d ls)
  where
    hit : (y z : Bool) (m : Message) (q : List Message) → y ≡ z → q ≡ (if z then rest (if y then m ∷ q else q) else (if y then m ∷ q else q))
    hit true true m q e = refl
    hit false false m q e = refl
    hit true false m q e = never (sym e)
    hit false true m q e = never e

    miss : (y z : Bool) (m : Message) (q w : List Message) → (y ≡ true → z ≡ true → ⊥) → w ≡ (if z then rest q else q)
        → (if y then m ∷ w else w) ≡ (if z then rest (if y then m ∷ q else q) else (if y then m ∷ q else q))
    miss true true m q w apart e = absurd (apart refl refl)
    miss true false m q w apart e = ap (λ x. m ∷ x) e
    miss false true m q w apart e = e
    miss false false m q w apart e = e

    apart : is_channel d l.channel ≡ false → is_channel c l.channel ≡ true → is_channel c d ≡ true → ⊥
    apart other y z = never (sym other ∙ sym (same_test c d z l.channel) ∙ y)

    by : (x : Bool) → is_channel d l.channel ≡ x → messages_on c (without_first d ls) ≡ (if is_channel c d then rest (messages_on c ls) else messages_on c ls)
        → messages_on c (if x then ls else l ∷ without_first d ls) ≡ (if is_channel c d then rest (messages_on c (l ∷ ls)) else messages_on c (l ∷ ls))
    by true e more =
        hit (is_channel c l.channel) (is_channel c d) l.message (messages_on c ls) (ap (λ (k : Channel). is_channel c k) (same_channel d l.channel e))
    by false e more = miss (is_channel c l.channel) (is_channel c d) l.message (messages_on c ls) (messages_on c (without_first d ls)) (apart e) more

pub queue_is : (c : Channel) (past : List Event) → queue c past ≡ messages_on c (undelivered past)
queue_is c [] = refl
queue_is c (event.Sent d m ∷ past) =
    ap (λ (q : List Message). if is_channel c d then q ++ m ∷ [] else q) (queue_is c past)
    ∙ sym (messages_end c (undelivered past) (record { channel = d; message = m }))
queue_is c (event.Taken d m ∷ past) =
    ap (λ (q : List Message). if is_channel c d then rest q else q) (queue_is c past) ∙ sym (messages_without c d (undelivered past))
queue_is c (e ∷ past) = queue_is c past

pub first_is : (c : Channel) (m : Message) (past : List Event) → first (queue c past) ≡ Some m → first (messages_on c (undelivered past)) ≡ Some m
first_is c m past is = subst (λ (q : List Message). first q ≡ Some m) (queue_is c past) is

pub is_first : (c : Channel) (m : Message) (past : List Event) → first (messages_on c (undelivered past)) ≡ Some m → first (queue c past) ≡ Some m
is_first c m past is = subst (λ (q : List Message). first q ≡ Some m) (sym (queue_is c past)) is

pub none_queued : (c : Channel) (past : List Event) → undelivered past ≡ [] → queue c past ≡ []
none_queued c past none = queue_is c past ∙ ap (messages_on c) none

-- the message is a return without a copy, from the host
abbrev pub is_out : ℕ → Channel → Message → Bool
is_out host (Up at object) (message.Return control page dirty keep bytes) = at.0 == host && not keep
is_out host channel other = false

abbrev pub outs : ℕ → List Letter → ℕ
outs host [] = 0
outs host (l ∷ ls) = if is_out host l.channel l.message then suc (outs host ls) else outs host ls

outs_end : (host : ℕ) (ls : List Letter) (l : Letter) → outs host (ls ++ l ∷ []) ≡ (if is_out host l.channel l.message then suc (outs host ls) else outs host
    ls)
outs_end host [] l = refl
outs_end host (k ∷ ls) l =
    one (is_out host k.channel k.message) (is_out host l.channel l.message) (outs host ls) (outs host (ls ++ l ∷ [])) (outs_end host ls l)
  where
    one : (a b : Bool) (n k : ℕ) → k ≡ (if b then suc n else n)
        → (if a then suc k else k) ≡ (if b then suc (if a then suc n else n) else (if a then suc n else n))
    one true true n k e = ap (λ x. suc x) e
    one true false n k e = ap (λ x. suc x) e
    one false true n k e = e
    one false false n k e = e

outs_without : (host : ℕ) (d : Channel) (m : Message) (ls : List Letter) → first (messages_on d ls) ≡ Some m
    → outs host ls ≡ (if is_out host d m then suc (outs host (without_first d ls)) else outs host (without_first d ls))
outs_without host d m [] is = absurd (cc)
outs_without host d m (l ∷ ls) is = by (is_channel d l.channel) refl is (outs_without host d m ls)
  where
    inner : (x y : Message) (q : List Message) → first (x ∷ q) ≡ Some y → x ≡ y
    inner x y q e = cc

    miss : (a b : Bool) (n k : ℕ) → n ≡ (if b then suc k else k)
        → (if a then suc n else n) ≡ (if b then suc (if a then suc k else k) else (if a then suc k else k))
    miss true true n k e = ap (λ x. suc x) e
    miss true false n k e = ap (λ x. suc x) e
    miss false true n k e = e
    miss false false n k e = e

    by : (x : Bool) → is_channel d l.channel ≡ x → first (if x then l.message ∷ messages_on d ls else messages_on d ls) ≡ Some m
        → (first (messages_on d ls) ≡ Some m → outs host ls ≡ (if is_out host d m then suc (outs host (without_first d ls)) else outs host
        (without_first d ls)))
        → outs host (l ∷ ls) ≡ (if is_out host d m then suc (outs host (if x then ls else l ∷ without_first d ls)) else outs host
        (if x then ls else l ∷ without_first d ls))
    by true e head more =
        ap (λ (k : Channel). if is_out host k l.message then suc (outs host ls) else outs host ls) (same_channel d l.channel e)
        ∙ ap (λ (k : Message). if is_out host d k then suc (outs host ls) else outs host ls) (inner l.message m (messages_on d ls) head)
    by false e head more = miss (is_out host l.channel l.message) (is_out host d m) (outs host ls) (outs host (without_first d ls)) (more head)

-- the count of returns is that of the letters
pub outs_sent : (host : ℕ) (c : Channel) (m : Message) (past : List Event) → returns_out host past ≡ outs host (undelivered past)
    → returns_out host (event.Sent c m ∷ past) ≡ outs host (undelivered (event.Sent c m ∷ past))
outs_sent host (Up at object) (message.Return control page dirty keep bytes) past is =
    one (at.0 == host && not keep) (returns_out host past) (outs host (undelivered past)) is
    ∙ sym (outs_end host (undelivered past) (record { channel = Up at object; message = message.Return control page dirty keep bytes }))
  where
    one : (b : Bool) (n k : ℕ) → n ≡ k → (if b then n + 1 else n) ≡ (if b then suc k else k)
    one true n k e = omega (arith, e)
    one false n k e = e
outs_sent host (Up at object) m past is = is ∙ sym (outs_end host (undelivered past) (record { channel = Up at object; message = m }))
outs_sent host (Down at object control) m past is = is ∙ sym (outs_end host (undelivered past) (record { channel = Down at object control; message = m }))

pub outs_taken : (host : ℕ) (c : Channel) (m : Message) (past : List Event) → first (queue c past) ≡ Some m
    → returns_out host past ≡ outs host (undelivered past) → returns_out host (event.Taken c m ∷ past) ≡ outs host (undelivered (event.Taken c m ∷ past))
outs_taken host (Up at object) (message.Return control page dirty keep bytes) past head is =
    one (at.0 == host && not keep) (returns_out host past) (outs host (undelivered
    (event.Taken (Up at object) (message.Return control page dirty keep bytes) ∷ past)))
    (is ∙ outs_without host (Up at object) (message.Return control page dirty keep bytes) (undelivered past)
    (first_is (Up at object) (message.Return control page dirty keep bytes) past head))
  where
    one : (b : Bool) (n k : ℕ) → n ≡ (if b then suc k else k) → (if b then n - 1 else n) ≡ k
    one true n k e = omega (arith, e)
    one false n k e = e
outs_taken host (Up at object) m past head is = is ∙ outs_without host (Up at object) m (undelivered past) (first_is (Up at object) m past head)
outs_taken host (Down at object control) m past head is =
    is ∙ outs_without host (Down at object control) m (undelivered past) (first_is (Down at object control) m past head)

-- a return that is taken was out
pub some_out : (host : ℕ) (c : Channel) (m : Message) (past : List Event) → first (queue c past) ≡ Some m → is_out host c m ≡ true
    → returns_out host past ≡ outs host (undelivered past) → 0 < returns_out host past
some_out host c m past head out is =
    one (is_out host c m) (returns_out host past) (outs host (without_first c (undelivered past))) out
    (is ∙ outs_without host c m (undelivered past) (first_is c m past head))
  where
    one : (b : Bool) (n k : ℕ) → b ≡ true → n ≡ (if b then suc k else k) → 0 < n
    one true n k b e = omega (arith, e)
    one false n k b e = never b
