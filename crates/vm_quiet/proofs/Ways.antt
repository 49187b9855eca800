-- What a host awaits is on its way: in its channel up, in the channel down, or with the pager that just took it.
use Rattle.std.proofs.Common.{inl, inr, ℕ, ◌≡◌, ◌∙◌, List, [], ◌∷◌, ◌++◌, Bool, true, false, refl, sym, ap, subst, Option, Some, None, if◌then◌else◌}
use Rattle.std.specs.Prelude.{◌||◌, ◌⊎◌}
use Rattle.vm_model.specs.declared.event.Event.{Event}
use Rattle.vm_model.specs.declared.event.Event.TheVariants as event
use Rattle.vm_model.specs.declared.message.Channel.{Channel}
use Rattle.vm_model.specs.declared.message.Channel.TheVariants.{Up, Down}
use Rattle.vm_model.specs.declared.message.Message.{Message}
use Rattle.vm_model.specs.Channels.{is_channel, queue, up_port, down_port}
use Rattle.vm_model.specs.Server.{first}
use Rattle.vm_model.specs.Side.{rest}
use Rattle.vm_legal.specs.Steps.{Letter, since, taken_letter}
use Rattle.vm_legal.specs.Undelivered.{undelivered}
use Rattle.vm_quiet.proofs.Letters.{never, none_queued, same_channel}

abbrev pub some_such : (Message → Bool) → List Message → Bool
some_such test [] = false
some_such test (m ∷ q) = test m || some_such test q

or_true : (b : Bool) → (b || true) ≡ true
or_true true = refl
or_true false = refl

some_more : (b : Bool) (test : Message → Bool) (q : List Message) (m : Message) → some_such test q ≡ true → some_such test (if b then q ++ m ∷ [] else q) ≡ true
some_more false test q m is = is
some_more true test q m is = end q is
  where
    step : (a b c : Bool) → (b ≡ true → c ≡ true) → (a || b) ≡ true → (a || c) ≡ true
    step true b c more e = refl
    step false b c more e = more e

    end : (q : List Message) → some_such test q ≡ true → some_such test (q ++ m ∷ []) ≡ true
    end [] is = never is
    end (x ∷ q) is = step (test x) (some_such test q) (some_such test (q ++ m ∷ [])) (end q) is

pub some_last : (b : Bool) (test : Message → Bool) (q : List Message) (m : Message) → b ≡ true → test m ≡ true
    → some_such test (if b then q ++ m ∷ [] else q) ≡ true
some_last false test q m e is = never e
some_last true test q m e is = end q
  where
    end : (q : List Message) → some_such test (q ++ m ∷ []) ≡ true
    end [] = ap (λ b. b || false) is
    end (x ∷ q) = ap (λ b. test x || b) (end q) ∙ or_true (test x)

some_rest : (b : Bool) (test : Message → Bool) (q : List Message) (m : Message) → (b ≡ true → first q ≡ Some m) → some_such test q ≡ true
    → (some_such test (if b then rest q else q) ≡ true) ⊎ ((b ≡ true) × (test m ≡ true))
some_rest false test q m head is = inl is
some_rest true test [] m head is = never is
some_rest true test (x ∷ q) m head is = by (test x) refl is
  where
    same : first (x ∷ q) ≡ Some m → x ≡ m
    same e = cc

    by : (b : Bool) → test x ≡ b → (b || some_such test q) ≡ true → (some_such test q ≡ true) ⊎ ((true ≡ true) × (test m ≡ true))
    by true e is = inr (refl, ap test (sym (same (head refl))) ∙ e)
    by false e is = inl is

none_such : (test : Message → Bool) (q : List Message) → q ≡ [] → some_such test q ≡ true → ⊥
none_such test [] e is = never is
none_such test (x ∷ q) e is = absurd (cc)

-- A message up, or the answer of the pager to it, is undelivered; or the step took the message, and did not do yet what is to be done.
abbrev pub OnTheWay : (Message → Bool) → (Message → Bool) → (Event → Bool) → ℕ → ℕ → ℕ → List Event → Type 0
OnTheWay up down done h o k past =
    (some_such up (queue (up_port h o) past) ≡ true)
    ⊎ ((some_such down (queue (down_port h o k) past) ≡ true)
    ⊎ ((m : Message) × (taken_letter past ≡ Some (record { channel = up_port h o; message = m })) × (up m ≡ true) × (since done past ≡ false)))

-- the step did it
abbrev pub IsDone : (Message → Bool) → (Event → Bool) → ℕ → ℕ → List Event → Type 0
IsDone up done h o past = (m : Message) → taken_letter past ≡ Some (record { channel = up_port h o; message = m }) → up m ≡ true → since done past ≡ true

pub way_sent : (up down : Message → Bool) (done : Event → Bool) (h o k : ℕ) (c : Channel) (m : Message) (past : List Event)
    → (done (event.Sent c m) ≡ true → (n : Message) → taken_letter past ≡ Some (record { channel = up_port h o; message = n }) → up n ≡ true
    → (is_channel (down_port h o k) c ≡ true) × (down m ≡ true))
    → OnTheWay up down done h o k past → OnTheWay up down done h o k (event.Sent c m ∷ past)
way_sent up down done h o k c m past answered (inl q) = inl (some_more (is_channel (up_port h o) c) up (queue (up_port h o) past) m q)
way_sent up down done h o k c m past answered (inr (inl q)) = inr (inl (some_more (is_channel (down_port h o k) c) down (queue (down_port h o k) past) m q))
way_sent up down done h o k c m past answered (inr (inr t)) = by (done (event.Sent c m)) refl
  where
    by : (b : Bool) → done (event.Sent c m) ≡ b → OnTheWay up down done h o k (event.Sent c m ∷ past)
    by true e = let a = answered e t.0 t.1 t.2 in inr (inl (some_last (is_channel (down_port h o k) c) down (queue (down_port h o k) past) m a.0 a.1))
    by false e = inr (inr (t.0, t.1, t.2, ap (λ b. b || since done past) e ∙ t.3))

pub way_taken : (up down : Message → Bool) (done : Event → Bool) (h o k : ℕ) (c : Channel) (m : Message) (past : List Event) → first (queue c past) ≡ Some m
    → IsDone up done h o past
    → (is_channel (down_port h o k) c ≡ true → down m ≡ true → ⊥) → OnTheWay up down done h o k past → OnTheWay up down done h o k (event.Taken c m ∷ past)
way_taken up down done h o k c m past head paid unanswered (inl q) = by (some_rest (is_channel (up_port h o) c) up (queue (up_port h o) past) m own q)
  where
    own : is_channel (up_port h o) c ≡ true → first (queue (up_port h o) past) ≡ Some m
    own is = subst (λ (d : Channel). first (queue d past) ≡ Some m) (same_channel (up_port h o) c is) head

    by : (some_such up (if is_channel (up_port h o) c then rest (queue (up_port h o) past) else queue (up_port h o) past) ≡ true)
        ⊎ ((is_channel (up_port h o) c ≡ true) × (up m ≡ true)) → OnTheWay up down done h o k (event.Taken c m ∷ past)
    by (inl is) = inl is
    by (inr is) =
        inr (inr (m, ap (λ (d : Channel). let l : Letter = record { channel = d; message = m } in Some l) (same_channel (up_port h o) c is.0), is.1, refl))
way_taken up down done h o k c m past head paid unanswered (inr (inl q)) =
    by (some_rest (is_channel (down_port h o k) c) down (queue (down_port h o k) past) m own q)
  where
    own : is_channel (down_port h o k) c ≡ true → first (queue (down_port h o k) past) ≡ Some m
    own is = subst (λ (d : Channel). first (queue d past) ≡ Some m) (same_channel (down_port h o k) c is) head

    by : (some_such down (if is_channel (down_port h o k) c then rest (queue (down_port h o k) past) else queue (down_port h o k) past) ≡ true)
        ⊎ ((is_channel (down_port h o k) c ≡ true) × (down m ≡ true)) → OnTheWay up down done h o k (event.Taken c m ∷ past)
    by (inl is) = inr (inl is)
    by (inr is) = absurd (unanswered is.0 is.1)
way_taken up down done h o k c m past head paid unanswered (inr (inr t)) = never (sym t.3 ∙ paid t.0 t.1 t.2)

pub way_line : (up down : Message → Bool) (done : Event → Bool) (h o k line : ℕ) (past : List Event) → IsDone up done h o past
    → OnTheWay up down done h o k past → OnTheWay up down done h o k (event.Line line ∷ past)
way_line up down done h o k line past paid (inl q) = inl q
way_line up down done h o k line past paid (inr (inl q)) = inr (inl q)
way_line up down done h o k line past paid (inr (inr t)) = never (sym t.3 ∙ paid t.0 t.1 t.2)

-- where nothing is undelivered nothing is on the way
pub way_none : (up down : Message → Bool) (done : Event → Bool) (h o k : ℕ) (past : List Event) → undelivered past ≡ [] → IsDone up done h o past
    → OnTheWay up down done h o k past → ⊥
way_none up down done h o k past none paid (inl q) = none_such up (queue (up_port h o) past) (none_queued (up_port h o) past none) q
way_none up down done h o k past none paid (inr (inl q)) = none_such down (queue (down_port h o k) past) (none_queued (down_port h o k) past none) q
way_none up down done h o k past none paid (inr (inr t)) = never (sym t.3 ∙ paid t.0 t.1 t.2)

-- what a letter says, for comparing two that were taken
abbrev pub host_in : Option Letter → ℕ
host_in None = 0
host_in (Some l) = of l.channel
  where
    of : Channel → ℕ
    of (Up host object) = host.0
    of (Down host object control) = host.0

abbrev pub object_in : Option Letter → ℕ
object_in None = 0
object_in (Some l) = of l.channel
  where
    of : Channel → ℕ
    of (Up host object) = object.0
    of (Down host object control) = object.0

abbrev pub test_in : (Message → Bool) → Option Letter → Bool
test_in test None = false
test_in test (Some l) = test l.message

-- two letters up that the step took are one
pub same_taken : (h o a b : ℕ) (m n : Message) (test : Message → Bool) (past : List Event)
    → taken_letter past ≡ Some (record { channel = up_port h o; message = m }) → taken_letter past ≡ Some (record { channel = up_port a b; message = n })
    → test m ≡ true
    → (a ≡ h) × (b ≡ o) × (test n ≡ true)
same_taken h o a b m n test past e f is = (
  ap (λ (l : Option Letter). host_in l) (sym f ∙ e),
  ap (λ (l : Option Letter). object_in l) (sym f ∙ e),
  ap (λ (l : Option Letter). test_in test l) (sym f ∙ e) ∙ is,
)
