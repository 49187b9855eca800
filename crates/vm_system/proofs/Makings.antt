-- Channels are made with the controls of their objects.
use Rattle.vm_system.proofs.Common.{Bool, Down, Event, HasMade, HostId, IsWordUp, List, Message, None, ObjectId, Option, PageNo, Some, Up, [], arith, false}
use Rattle.vm_system.proofs.Common.{first, host_id, if◌then◌else◌, inl, inr, is_end, is_ended, is_made, known_after, known_control, last_control, live_control}
use Rattle.vm_system.proofs.Common.{nat_tests, never, queue, refl, rest, subst, sym, true, up, without_control, ℕ, ◌&&◌, ◌+◌, ◌++◌, ◌<◌, ◌==◌, ◌||◌, ◌∙◌, ◌∷◌}
use Rattle.vm_system.proofs.Common.{◌≡◌, ◌⊎◌}
use Rattle.vm_model.specs.declared.event.Event.TheVariants as event
use Rattle.vm_quiet.proofs.Sane.{at_place}
use Rattle.vm_model.specs.declared.message.Message.TheVariants as message

pub own : (o : ℕ) → o == o ≡ true
own o = grind (arith, nat_tests)

same_test : (m n : ℕ) → m == n ≡ n == m
same_test m n = grind (arith, nat_tests)

-- what `HasMade` says, of plain values
pub record Facts (live : Option ℕ) (last : ℕ) (ended : Bool) (q : List Message) (port : Bool) (down : ℕ → Bool) (known : Option ℕ) : Type 0 where
  pub live_made : (control : ℕ) → live ≡ Some control → (port ≡ true) × (down control ≡ true)
  pub never_made : last ≡ 0 → (port ≡ false) × ((control : ℕ) → down control ≡ false)
  pub begun : ended ≡ true → last ≡ 0 → ⊥
  pub quiet : port ≡ false → q ≡ []
  pub unmade : (control : ℕ) → last < control → down control ≡ false
  pub unknown : port ≡ false → known ≡ None
  pub told : (control : ℕ) → known ≡ Some control → down control ≡ true

-- of an object on a host
abbrev FactsAt : ℕ → ℕ → List Event → Type 0
FactsAt h o past =
    Facts (live_control h o past) (last_control h o past) (is_ended h o past) (queue (up h o) past) (is_made (up h o) past)
    (λ k. is_made (Down (host_id h) (record { 0 = o }) k) past) (known_control h o past)

facts_of : (h o : ℕ) (past : List Event) → HasMade h o past → FactsAt h o past
facts_of h o past made =
    record {
      live_made = made.live;
      never_made = made.never;
      begun = made.ended;
      quiet = made.quiet;
      unmade = made.unmade;
      unknown = made.unknown;
      told = made.known;
    }

has_made : (h o : ℕ) (past : List Event) → FactsAt h o past → HasMade h o past
has_made h o past facts =
    record {
      live = facts.live_made;
      never = facts.never_made;
      ended = facts.begun;
      quiet = facts.quiet;
      unmade = facts.unmade;
      unknown = facts.unknown;
      known = facts.told;
    }

-- a message of a living control
facts_said : (b : Bool) (live now : Option ℕ) (last control : ℕ) (ended : Bool) (q : List Message) (m : Message) (port : Bool) (down : ℕ → Bool)
    (known : Option ℕ) → Facts live last ended q port down known
    → (b ≡ true → live ≡ Some control) → ((k : ℕ) → now ≡ Some k → live ≡ Some k) → Facts now last ended (if b then q ++ m ∷ [] else q) port down known
facts_said false live now last control ended q m port down known old lives fewer =
    record {
      live_made = λ k at. old.live_made k (fewer k at);
      never_made = old.never_made;
      begun = old.begun;
      quiet = old.quiet;
      unmade = old.unmade;
      unknown = old.unknown;
      told = old.told;
    }
facts_said true live now last control ended q m port down known old lives fewer = record {
  live_made = λ k at. old.live_made k (fewer k at);
  never_made = old.never_made;
  begun = old.begun;
  quiet = λ none. never (sym none ∙ (old.live_made control (lives refl)).0);
  unmade = old.unmade;
  unknown = old.unknown;
  told = old.told;
}

-- the next control of an object
facts_opened : (a b : Bool) (live : Option ℕ) (last control : ℕ) (ended : Bool) (q : List Message) (m : Message) (port : Bool) (down : ℕ → Bool)
    (known : Option ℕ) → Facts live last ended q port down known
    → ((a && b) ≡ true → control ≡ last + 1)
    → Facts (if a && b then Some control else live) (if a && b then control else last) ended (if a && b then q ++ m ∷ [] else q) ((a && b) || port)
    (λ k. (a && (b && k == control)) || down k) known
facts_opened false b live last control ended q m port down known old next = old
facts_opened true false live last control ended q m port down known old next = old
facts_opened true true live last control ended q m port down known old next = record {
  live_made =
      λ k at. (refl, subst (λ (n : ℕ). (n == control) || down n ≡ true) (inner k at) (subst (λ (x : Bool). x || down control ≡ true) (sym (own control)) refl));
  never_made = λ zero. absurd (some zero);
  begun = λ gone zero. some zero;
  quiet = λ none. never (sym none);
  unmade = λ k above. subst (λ (x : Bool). x || down k ≡ false) (sym (apart k above)) (old.unmade k (let is = next refl in omega (arith, is, above)));
  unknown = λ none. never (sym none);
  told = λ k at. either (k == control) (down k) (old.told k at);
}
  where
    either : (b c : Bool) → c ≡ true → b || c ≡ true
    either true c is = refl
    either false c is = is

    inner : (k : ℕ) → Some control ≡ Some k → control ≡ k
    inner k e = cc

    some : control ≡ 0 → ⊥
    some zero = let is = next refl in omega (arith, is, zero)

    apart : (k : ℕ) → control < k → k == control ≡ false
    apart k above = grind (arith, nat_tests)

-- a message on the way up has a channel
full : (q : List Message) (m : Message) (port : Bool) → (port ≡ false → q ≡ []) → first q ≡ Some m → port ≡ true
full q m true quiet head = refl
full q m false quiet head = absurd (let bad : first {A = Message} [] ≡ Some m = subst (λ (x : List Message). first x ≡ Some m) (quiet refl) head in cc)

pub is_open : (h o : ℕ) (m : Message) (past : List Event) → HasMade h o past → first (queue (up h o) past) ≡ Some m → is_made (up h o) past ≡ true
is_open h o m past made head = full (queue (up h o) past) m (is_made (up h o) past) made.quiet head

-- a control that lives after another's end lived before
fewer : (b : Bool) (control : ℕ) (live : Option ℕ) (k : ℕ) → (if b then without_control control live else live) ≡ Some k → live ≡ Some k
fewer false control live k at = at
fewer true control None k at = at
fewer true control (Some number) k at = one (number == control) at
  where
    one : (c : Bool) → (if c then None else Some number) ≡ Some k → Some number ≡ Some k
    one true e = absurd (let bad : None ≡ Some k = e in cc)
    one false e = e

-- a control that is known now was told by this word, or was known before
known_by : (m : Message) (was : Option ℕ) (k : ℕ) → known_after m was ≡ Some k → (known_after m None ≡ Some k) ⊎ (was ≡ Some k)
known_by (message.Init control size) was k at = inl at
known_by (message.Create control size) was k at = inl at
known_by (message.Terminate control) was k at = inr (fewer true control was k at)
known_by other was k at = inr at

-- the first message is taken
facts_taken : (b : Bool) (live : Option ℕ) (last : ℕ) (ended : Bool) (q : List Message) (m : Message) (port : Bool) (down : ℕ → Bool) (known : Option ℕ)
    → Facts live last ended q port down known
    → (b ≡ true → first q ≡ Some m) → (b ≡ true → (k : ℕ) → known_after m None ≡ Some k → down k ≡ true)
    → Facts live last (if b then is_end m || ended else ended) (if b then rest q else q) port down (if b then known_after m known else known)
facts_taken false live last ended q m port down known old head word = old
facts_taken true live last ended q m port down known old head word = record {
  live_made = old.live_made;
  never_made = old.never_made;
  begun = λ gone zero. never (sym (old.never_made zero).0 ∙ made);
  quiet = λ none. never (sym none ∙ made);
  unmade = old.unmade;
  unknown = λ none. never (sym none ∙ made);
  told = λ k at. elim (known_by m known k at) [ inl now ↦ word refl k now | inr was ↦ old.told k was ];
}
  where
    made : port ≡ true
    made = full q m port old.quiet (head refl)

-- an end that is taken
pub ended_is : (h o : ℕ) (host : HostId) (object : ObjectId) (m : Message) (past : List Event)
    → is_ended h o (event.Taken (Up host object) m ∷ past) ≡ (if host.0 == h && object.0 == o then is_end m || is_ended h o past else is_ended h o past)
ended_is h o host object (message.Terminate control) past = one (host.0 == h && object.0 == o) (is_ended h o past)
  where
    one : (b e : Bool) → b || e ≡ (if b then true else e)
    one true e = refl
    one false e = refl
ended_is h o host object m past = one (host.0 == h && object.0 == o) (is_ended h o past)
  where
    one : (b e : Bool) → e ≡ (if b then e else e)
    one true e = refl
    one false e = refl

-- the control of an object is its number's
pub of_number : (host : HostId) (object : ObjectId) (h o control : ℕ) (past : List Event) → live_control host.0 object.0 past ≡ Some control
    → (host.0 == h && object.0 == o) ≡ true → live_control h o past ≡ Some control
of_number host object h o control past lives is = at_place (λ a n. live_control a n past ≡ Some control) host.0 object.0 h o is lives

pub made_requested : (host : HostId) (object : ObjectId) (control access : ℕ) (page : PageNo) (past : List Event) (h o : ℕ) → HasMade h o past
    → live_control host.0 object.0 past ≡ Some control
    → HasMade h o (event.Sent (Up host object) (message.Request control page access) ∷ past)
made_requested host object control access page past h o made lives = has_made h o (event.Sent (Up host object) (message.Request control page access) ∷ past)
    (facts_said (host.0 == h && object.0 == o) (live_control h o past) (live_control h o past) (last_control h o past) control (is_ended h o past)
    (queue (up h o) past) (message.Request control page access) (is_made (up h o) past)
    (λ k. is_made (Down (host_id h) (record { 0 = o }) k) past) (known_control h o past) (facts_of h o past made) (of_number host object h o control past lives)
    (λ k at. at))

pub made_unlocked : (host : HostId) (object : ObjectId) (control access : ℕ) (page : PageNo) (past : List Event) (h o : ℕ) → HasMade h o past
    → live_control host.0 object.0 past ≡ Some control
    → HasMade h o (event.Sent (Up host object) (message.Unlock control page access) ∷ past)
made_unlocked host object control access page past h o made lives = has_made h o (event.Sent (Up host object) (message.Unlock control page access) ∷ past)
    (facts_said (host.0 == h && object.0 == o) (live_control h o past) (live_control h o past) (last_control h o past) control (is_ended h o past)
    (queue (up h o) past) (message.Unlock control page access) (is_made (up h o) past)
    (λ k. is_made (Down (host_id h) (record { 0 = o }) k) past) (known_control h o past) (facts_of h o past made) (of_number host object h o control past lives)
    (λ k at. at))

pub made_completed : (host : HostId) (object : ObjectId) (control count : ℕ) (page : PageNo) (past : List Event) (h o : ℕ) → HasMade h o past
    → live_control host.0 object.0 past ≡ Some control
    → HasMade h o (event.Sent (Up host object) (message.Completed control page count) ∷ past)
made_completed host object control count page past h o made lives = has_made h o (event.Sent (Up host object) (message.Completed control page count) ∷ past)
    (facts_said (host.0 == h && object.0 == o) (live_control h o past) (live_control h o past) (last_control h o past) control (is_ended h o past)
    (queue (up h o) past) (message.Completed control page count) (is_made (up h o) past)
    (λ k. is_made (Down (host_id h) (record { 0 = o }) k) past) (known_control h o past) (facts_of h o past made) (of_number host object h o control past lives)
    (λ k at. at))

pub made_changed : (host : HostId) (object : ObjectId) (control : ℕ) (cache : Bool) (strategy : ℕ) (past : List Event) (h o : ℕ) → HasMade h o past
    → live_control host.0 object.0 past ≡ Some control
    → HasMade h o (event.Sent (Up host object) (message.Changed control cache strategy) ∷ past)
made_changed host object control cache strategy past h o made lives =
    has_made h o (event.Sent (Up host object) (message.Changed control cache strategy) ∷ past)
    (facts_said (host.0 == h && object.0 == o) (live_control h o past) (live_control h o past) (last_control h o past) control (is_ended h o past)
    (queue (up h o) past) (message.Changed control cache strategy) (is_made (up h o) past)
    (λ k. is_made (Down (host_id h) (record { 0 = o }) k) past) (known_control h o past) (facts_of h o past made) (of_number host object h o control past lives)
    (λ k at. at))

pub made_returned : (host : HostId) (object : ObjectId) (control : ℕ) (page : PageNo) (dirty keep : Bool) (bytes : List ℕ) (past : List Event) (h o : ℕ)
    → HasMade h o past → live_control host.0 object.0 past ≡ Some control
    → HasMade h o (event.Sent (Up host object) (message.Return control page dirty keep bytes) ∷ past)
made_returned host object control page dirty keep bytes past h o made lives =
    has_made h o (event.Sent (Up host object) (message.Return control page dirty keep bytes) ∷ past)
    (facts_said (host.0 == h && object.0 == o) (live_control h o past) (live_control h o past) (last_control h o past) control (is_ended h o past)
    (queue (up h o) past) (message.Return control page dirty keep bytes) (is_made (up h o) past)
    (λ k. is_made (Down (host_id h) (record { 0 = o }) k) past) (known_control h o past) (facts_of h o past made) (of_number host object h o control past lives)
    (λ k at. at))

pub made_terminated : (host : HostId) (object : ObjectId) (control : ℕ) (past : List Event) (h o : ℕ) → HasMade h o past
    → live_control host.0 object.0 past ≡ Some control
    → HasMade h o (event.Sent (Up host object) (message.Terminate control) ∷ past)
made_terminated host object control past h o made lives = has_made h o (event.Sent (Up host object) (message.Terminate control) ∷ past)
    (facts_said (host.0 == h && object.0 == o) (live_control h o past) (live_control h o (event.Sent (Up host object) (message.Terminate control) ∷ past))
    (last_control h o past) control (is_ended h o past) (queue (up h o) past) (message.Terminate control) (is_made (up h o) past)
    (λ k. is_made (Down (host_id h) (record { 0 = o }) k) past) (known_control h o past) (facts_of h o past made) (of_number host object h o control past lives)
    (fewer (host.0 == h && object.0 == o) control (live_control h o past)))

-- the channel of a new control is made, and the one up

pub made_created : (host : HostId) (object : ObjectId) (control size : ℕ) (past : List Event) (h o : ℕ) → HasMade h o past
    → control ≡ last_control host.0 object.0 past + 1
    → HasMade h o (event.Sent (Up host object) (message.Create control size) ∷ past)
made_created host object control size past h o made next = has_made h o (event.Sent (Up host object) (message.Create control size) ∷ past)
    (subst (λ (x : Bool). Opened x (o == object.0)) (same_test host.0 h) (subst (λ (y : Bool). Opened (host.0 == h) y) (same_test object.0 o)
    (facts_opened (host.0 == h) (object.0 == o) (live_control h o past) (last_control h o past) control (is_ended h o past) (queue (up h o) past)
    (message.Create control size) (is_made (up h o) past)
    (λ k. is_made (Down (host_id h) (record { 0 = o }) k) past) (known_control h o past) (facts_of h o past made)
    (λ is. at_place (λ a n. control ≡ last_control a n past + 1) host.0 object.0 h o is next))))
  where
    Opened : Bool → Bool → Type 0
    Opened x y =
        Facts (if host.0 == h && object.0 == o then Some control else live_control h o past)
        (if host.0 == h && object.0 == o then control else last_control h o past) (is_ended h o past)
        (if host.0 == h && object.0 == o then queue (up h o) past ++ (message.Create control size) ∷ [] else queue (up h o) past)
        ((x && y) || is_made (up h o) past)
        (λ k. (x && (y && k == control)) || is_made (Down (host_id h) (record { 0 = o }) k) past) (known_control h o past)

pub made_opened : (host : HostId) (object : ObjectId) (control size : ℕ) (past : List Event) (h o : ℕ) → HasMade h o past
    → control ≡ last_control host.0 object.0 past + 1
    → HasMade h o (event.Sent (Up host object) (message.Init control size) ∷ past)
made_opened host object control size past h o made next = has_made h o (event.Sent (Up host object) (message.Init control size) ∷ past)
    (subst (λ (x : Bool). Opened x (o == object.0)) (same_test host.0 h) (subst (λ (y : Bool). Opened (host.0 == h) y) (same_test object.0 o)
    (facts_opened (host.0 == h) (object.0 == o) (live_control h o past) (last_control h o past) control (is_ended h o past) (queue (up h o) past)
    (message.Init control size) (is_made (up h o) past)
    (λ k. is_made (Down (host_id h) (record { 0 = o }) k) past) (known_control h o past) (facts_of h o past made)
    (λ is. at_place (λ a n. control ≡ last_control a n past + 1) host.0 object.0 h o is next))))
  where
    Opened : Bool → Bool → Type 0
    Opened x y =
        Facts (if host.0 == h && object.0 == o then Some control else live_control h o past)
        (if host.0 == h && object.0 == o then control else last_control h o past) (is_ended h o past)
        (if host.0 == h && object.0 == o then queue (up h o) past ++ (message.Init control size) ∷ [] else queue (up h o) past)
        ((x && y) || is_made (up h o) past)
        (λ k. (x && (y && k == control)) || is_made (Down (host_id h) (record { 0 = o }) k) past) (known_control h o past)

-- what a kernel says of a control that it tells of
word_known : (size : ℕ) (made : ℕ → Bool) (m : Message) → IsWordUp size made m → (k : ℕ) → known_after m None ≡ Some k → made k ≡ true
word_known size made (message.Init control bytes) word k at = subst (λ (n : ℕ). made n ≡ true) (let is : Some control ≡ Some k = at in cc) word
word_known size made (message.Create control bytes) word k at = subst (λ (n : ℕ). made n ≡ true) (let is : Some control ≡ Some k = at in cc) word
word_known size made (message.Terminate control) word k at = absurd (let bad : None ≡ Some k = at in cc)
word_known size made other word k at = absurd (let bad : None ≡ Some k = at in cc)

pub made_taken : (host : HostId) (object : ObjectId) (m : Message) (size : ℕ) (past : List Event) (h o : ℕ) → HasMade h o past
    → first (queue (Up host object) past) ≡ Some m
    → IsWordUp size (λ control. is_made (Down host object control) past) m → HasMade h o (event.Taken (Up host object) m ∷ past)
made_taken host object m size past h o made head word = has_made h o (event.Taken (Up host object) m ∷ past)
    (subst (λ (x : Bool). Facts (live_control h o past) (last_control h o past) x
    (if host.0 == h && object.0 == o then rest (queue (up h o) past) else queue (up h o) past) (is_made (up h o) past)
    (λ k. is_made (Down (host_id h) (record { 0 = o }) k) past) (if host.0 == h && object.0 == o then known_after m (known_control h o past) else known_control
    h o past))
    (sym (ended_is h o host object m past))
    (facts_taken (host.0 == h && object.0 == o) (live_control h o past) (last_control h o past) (is_ended h o past) (queue (up h o) past) m
    (is_made (up h o) past) (λ k. is_made (Down (host_id h) (record { 0 = o }) k) past)
    (known_control h o past) (facts_of h o past made) (λ is. at_place (λ a n. first (queue (up a n) past) ≡ Some m) host.0 object.0 h o is head)
    (λ is k at. at_place (λ a n. is_made (Down (host_id a) (record { 0 = n }) k) past ≡ true) host.0 object.0 h o is
    (word_known size (λ control. is_made (Down host object control) past) m word k at))))

-- the event is no message to a pager, and none that a pager takes
abbrev pub LeavesControls : Event → Type 0
LeavesControls (event.Sent (Up host object) m) = ⊥
LeavesControls (event.Taken (Up host object) m) = ⊥
LeavesControls other = Unit {0}

pub made_kept : (e : Event) (past : List Event) (h o : ℕ) → LeavesControls e → HasMade h o past → HasMade h o (e ∷ past)
made_kept (event.Sent (Up host object) m) past h o leaves was = absurd leaves
made_kept (event.Taken (Up host object) m) past h o leaves was = absurd leaves
made_kept (event.Sent (Down host object control) m) past h o leaves was =
    record { live = was.live; never = was.never; ended = was.ended; quiet = was.quiet; unmade = was.unmade; unknown = was.unknown; known = was.known }
made_kept (event.Taken (Down host object control) m) past h o leaves was =
    record { live = was.live; never = was.never; ended = was.ended; quiet = was.quiet; unmade = was.unmade; unknown = was.unknown; known = was.known }
made_kept e past h o leaves was =
    record { live = was.live; never = was.never; ended = was.ended; quiet = was.quiet; unmade = was.unmade; unknown = was.unknown; known = was.known }

pub made_none : (h o : ℕ) → HasMade h o []
made_none h o = record {
  live = λ control at. absurd (let bad : None ≡ Some control = at in cc);
  never = λ zero. (refl, λ control. refl);
  ended = λ gone zero. never gone;
  quiet = λ none. refl;
  unmade = λ control above. refl;
  unknown = λ none. refl;
  known = λ control at. absurd (let bad : None ≡ Some control = at in cc);
}
