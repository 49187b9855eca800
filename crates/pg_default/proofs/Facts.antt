-- What the history says of a host's slots, returns and losses once a message was taken and answered.
use Rattle.std.proofs.Common.{ℕ, ◌≡◌, ◌≤◌, ◌==◌, ◌&&◌, ◌||◌, not, nat_lt, Bool, true, false, List, ◌∷◌, Option, Some, None, refl, ◌∙◌, ap, arith, if◌then◌else◌}
use Rattle.std.proofs.lemmas.Bool.Decides.{nat_tests}
use Rattle.vm_model.specs.declared.event.Event.{Event}
use Rattle.vm_model.specs.declared.event.Event.TheVariants as event
use Rattle.vm_model.specs.declared.message.Message.{Message}
use Rattle.vm_model.specs.declared.message.Message.TheVariants as message
use Rattle.vm_model.specs.declared.script.Header.{Header}
use Rattle.vm_model.specs.Named.{named}
use Rattle.vm_legal.proofs.Answering.{lost_now}
use Rattle.vm_legal.specs.Licences.{up}
use Rattle.vm_legal.specs.Pagers.{is_lost, last_return, newer, slot_of, slots, slots_after, slotted}
use Rattle.pg_default.specs.Stands.{is_ended, is_heard_elsewhere}
use Rattle.pg_default.proofs.Rows.{itself, same_if}

own_host : (header : Header) (host o : ℕ) → named header ≤ o → (host == host && not (nat_lt o (named header))) ≡ true
own_host header host o temporary = grind (arith, nat_tests)

pub own_slots : (header : Header) (host o : ℕ) (m : Message) (past : List Event) → named header ≤ o
    → slots header host (event.Taken (up host o) m ∷ past) ≡ slots_after header.slots o m (slots header host past)
own_slots header host o m past temporary = rw (own_host header host o temporary) refl

-- the host itself is no other host
pub own_away : (host o q : ℕ) (past : List Event) → ((not (host == host) && o == q) || is_heard_elsewhere host q past) ≡ is_heard_elsewhere host q past
own_away host o q past = rw (itself host) refl

-- pagers of other hosts have heard of the same objects
abbrev pub HearsSame : ℕ → List Event → List Event → Type 0
HearsSame host past now = (q : ℕ) → is_heard_elsewhere host q now ≡ is_heard_elsewhere host q past

-- nothing of this is other than before
pub record Same (header : Header) (host : ℕ) (past now : List Event) : Type 0 where
  pub rows : slots header host now ≡ slots header host past
  pub ended : (q : ℕ) → is_ended host q now ≡ is_ended host q past
  pub away : HearsSame host past now
  pub last : (q r : ℕ) → last_return host q r now ≡ last_return host q r past
  pub lost : (q r : ℕ) → is_lost q r now ≡ is_lost q r past

-- neither a return nor an end
abbrev pub IsQuiet : Message → Type 0
IsQuiet (message.Init control size) = Unit {0}
IsQuiet (message.Create control size) = Unit {0}
IsQuiet (message.Request control page access) = Unit {0}
IsQuiet (message.Unlock control page access) = Unit {0}
IsQuiet (message.Completed control page count) = Unit {0}
IsQuiet (message.Changed control cache strategy) = Unit {0}
IsQuiet m = ⊥

pub same_taken : (header : Header) (host o : ℕ) (m : Message) (past : List Event) → IsQuiet m → Same header host past (event.Taken (up host o) m ∷ past)
same_taken header host o (message.Init control size) past quiet =
    record { rows = same_if _ _; ended = λ q. refl; away = λ q. own_away host o q past; last = λ q r. same_if _ _; lost = λ q r. refl }
same_taken header host o (message.Create control size) past quiet =
    record { rows = same_if _ _; ended = λ q. refl; away = λ q. own_away host o q past; last = λ q r. same_if _ _; lost = λ q r. refl }
same_taken header host o (message.Request control page access) past quiet =
    record { rows = same_if _ _; ended = λ q. refl; away = λ q. own_away host o q past; last = λ q r. same_if _ _; lost = λ q r. refl }
same_taken header host o (message.Unlock control page access) past quiet =
    record { rows = same_if _ _; ended = λ q. refl; away = λ q. own_away host o q past; last = λ q r. same_if _ _; lost = λ q r. refl }
same_taken header host o (message.Completed control page count) past quiet =
    record { rows = same_if _ _; ended = λ q. refl; away = λ q. own_away host o q past; last = λ q r. same_if _ _; lost = λ q r. refl }
same_taken header host o (message.Changed control cache strategy) past quiet =
    record { rows = same_if _ _; ended = λ q. refl; away = λ q. own_away host o q past; last = λ q r. same_if _ _; lost = λ q r. refl }
same_taken header host o (message.Return control page dirty keep bytes) past quiet = elim quiet [ ]
same_taken header host o (message.Terminate control) past quiet = elim quiet [ ]
same_taken header host o (message.Ready cache strategy) past quiet = elim quiet [ ]
same_taken header host o (message.Supply page lock precious bytes) past quiet = elim quiet [ ]
same_taken header host o (message.Unavailable page) past quiet = elim quiet [ ]
same_taken header host o (message.Error page reason) past quiet = elim quiet [ ]
same_taken header host o (message.Lock page count returns flush lock reply) past quiet = elim quiet [ ]
same_taken header host o (message.Attributes cache strategy reply) past quiet = elim quiet [ ]
same_taken header host o (message.Destroy reason) past quiet = elim quiet [ ]

-- one page was returned, and is lost or not
pub record Put (header : Header) (host o p : ℕ) (bytes : List ℕ) (lost : Bool) (past now : List Event) : Type 0 where
  pub rows : slots header host now ≡ slotted header.slots o p (slot_of o p (slots header host past)) (slots header host past)
  pub ended : (q : ℕ) → is_ended host q now ≡ is_ended host q past
  pub away : HearsSame host past now
  pub last : (q r : ℕ) → last_return host q r now ≡ (if o == q && p == r then Some bytes else last_return host q r past)
  pub gone : (q r : ℕ) → is_lost q r now ≡ (if o == q && p == r then lost else is_lost q r past)

last_put : (host o p q r : ℕ) (bytes : List ℕ) (was : Option (List ℕ))
    → (if host == host && o == q then newer (if p == r then Some bytes else None) was else was) ≡ (if o == q && p == r then Some bytes else was)
last_put host o p q r bytes was = rw (itself host) (by (o == q) (p == r))
  where
    by : (a b : Bool) → (if a then newer (if b then Some bytes else None) was else was) ≡ (if a && b then Some bytes else was)
    by true true = refl
    by true false = refl
    by false b = refl

-- the event tells that the page is lost
pub record TellsLost (o p : ℕ) (e : Event) : Type 0 where
  pub rows : (header : Header) (host : ℕ) (past : List Event) → slots header host (e ∷ past) ≡ slots header host past
  pub ended : (host q : ℕ) (past : List Event) → is_ended host q (e ∷ past) ≡ is_ended host q past
  pub away : (host q : ℕ) (past : List Event) → is_heard_elsewhere host q (e ∷ past) ≡ is_heard_elsewhere host q past
  pub last : (host q r : ℕ) (past : List Event) → last_return host q r (e ∷ past) ≡ last_return host q r past
  pub lost : (q r : ℕ) (past : List Event) → is_lost q r (e ∷ past) ≡ ((o == q && p == r) || is_lost q r past)

pub put_kept : (header : Header) (host o p : ℕ) (control : ℕ) (dirty keep : Bool) (bytes : List ℕ) (past : List Event) → named header ≤ o
    → Put header host o p bytes false past (event.Taken (up host o) (message.Return control (record { 0 = p }) dirty keep bytes) ∷ past)
put_kept header host o p control dirty keep bytes past temporary =
    record {
      rows = own_slots header host o (message.Return control (record { 0 = p }) dirty keep bytes) past temporary;
      ended = λ q. refl;
      away = λ q. own_away host o q past;
      last = λ q r. last_put host o p q r bytes (last_return host q r past);
      gone = λ q r. refl;
    }

pub put_lost : (header : Header) (host o p : ℕ) (control : ℕ) (dirty keep : Bool) (bytes : List ℕ) (e : Event) (past : List Event) → named header ≤ o
    → TellsLost o p e
    → Put header host o p bytes true past (e ∷ event.Taken (up host o) (message.Return control (record { 0 = p }) dirty keep bytes) ∷ past)
put_lost header host o p control dirty keep bytes e past temporary tells =
    let first : List Event = event.Taken (up host o) (message.Return control (record { 0 = p }) dirty keep bytes) ∷ past in
    let put = put_kept header host o p control dirty keep bytes past temporary in
    record {
      rows = tells.rows header host first ∙ put.rows;
      ended = λ q. tells.ended host q first ∙ put.ended q;
      away = λ q. tells.away host q first ∙ put.away q;
      last = λ q r. tells.last host q r first ∙ put.last q r;
      gone = λ q r. tells.lost q r first ∙ ap (λ (t : Bool). (o == q && p == r) || t) (put.gone q r) ∙ lost_now (o == q && p == r) (is_lost q r past);
    }
