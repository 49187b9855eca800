-- The numbers of controls: the live one is the last, and none that a message names is greater.
use Rattle.std.proofs.Common.{◌≡◌, ℕ, ◌≤◌, ◌==◌, ◌&&◌, List, [], ◌∷◌, ◌++◌, Bool, true, false, Option, Some, None, if◌then◌else◌, refl, ap, sym, subst, arith}
use Rattle.vm_base.specs.declared.ids.HostId.{HostId}
use Rattle.vm_base.specs.declared.ids.ObjectId.{ObjectId}
use Rattle.vm_model.specs.declared.command.Command.{Command}
use Rattle.vm_model.specs.declared.event.Event.{Event}
use Rattle.vm_model.specs.declared.event.Event.TheVariants as event
use Rattle.vm_model.specs.declared.message.Channel.{Channel}
use Rattle.vm_model.specs.declared.message.Channel.TheVariants.{Up}
use Rattle.vm_model.specs.declared.message.Message.{Message}
use Rattle.vm_model.specs.declared.message.Message.TheVariants as message
use Rattle.vm_model.specs.declared.script.Header.{Header}
use Rattle.vm_model.specs.Channels.{queue, up_port}
use Rattle.vm_model.specs.Controls.{last_control, live_control, without_control}
use Rattle.vm_model.specs.Moments.{EachEvent}
use Rattle.vm_model.specs.Server.{first}
use Rattle.vm_model.specs.Side.{rest}
use Rattle.vm_legal.specs.Licences.{HasCause, MaySendUp}
use Rattle.vm_legal.specs.Outside.{Outside}
use Rattle.vm_legal.specs.Pagers.{known_after, known_control}
use Rattle.vm_legal.specs.Steps.{Letter, taken_letter}
use Rattle.vm_quiet.proofs.Letters.{never}
use Rattle.vm_quiet.proofs.Sane.{at_place}

-- the control that a message begins, or for which it asks
abbrev pub speaker : Message → ℕ
speaker (message.Init control size) = control
speaker (message.Create control size) = control
speaker (message.Request control page access) = control
speaker other = 0

abbrev pub UpTo : ℕ → List Message → Type 0
UpTo n [] = Unit {0}
UpTo n (m ∷ q) = (speaker m ≤ n) × UpTo n q

more : (n k : ℕ) (q : List Message) → n ≤ k → UpTo n q → UpTo k q
more n k [] le all = tt
more n k (m ∷ q) le all = (omega (arith, all.0), more n k q le all.1)

with_end : (n : ℕ) (q : List Message) (m : Message) → UpTo n q → speaker m ≤ n → UpTo n (q ++ m ∷ [])
with_end n [] m all le = (le, tt)
with_end n (x ∷ q) m all le = (all.0, with_end n q m all.1 le)

sent_up_to : (b : Bool) (n k : ℕ) (q : List Message) (m : Message) → n ≤ k → UpTo n q → (b ≡ true → speaker m ≤ k) → UpTo k (if b then q ++ m ∷ [] else q)
sent_up_to true n k q m le all is = with_end k q m (more n k q le all) (is refl)
sent_up_to false n k q m le all is = more n k q le all

taken_up_to : (b : Bool) (n : ℕ) (q : List Message) → UpTo n q → UpTo n (if b then rest q else q)
taken_up_to true n [] all = tt
taken_up_to true n (m ∷ q) all = all.1
taken_up_to false n q all = all

pub first_up_to : (n : ℕ) (q : List Message) (m : Message) → UpTo n q → first q ≡ Some m → speaker m ≤ n
first_up_to n [] m all is = absurd (cc)
first_up_to n (x ∷ q) m all is = let same : x ≡ m = cc in subst (λ (y : Message). speaker y ≤ n) same all.0

-- the numbers of the controls of every host and object
pub record Numbers (past : List Event) : Type 0 where
  pub live : (h o k : ℕ) → live_control h o past ≡ Some k → k ≡ last_control h o past
  pub sent : (h o : ℕ) → UpTo (last_control h o past) (queue (up_port h o) past)
  pub taken : (h o : ℕ) (m : Message) → taken_letter past ≡ Some (record { channel = up_port h o; message = m }) → speaker m ≤ last_control h o past
  pub known : (h o k : ℕ) → known_control h o past ≡ Some k → k ≤ last_control h o past

some_is : (a b : ℕ) → ◌≡◌ {A = Option ℕ} (Some a) (Some b) → a ≡ b
some_is a b e = cc

grow_if : (b : Bool) (control last : ℕ) → (b ≡ true → last ≤ control) → last ≤ (if b then control else last)
grow_if true control last is = is refl
grow_if false control last is = omega arith

-- a control that begins has a greater number than those before it
pub last_grows : (header : Header) (outside : Outside) (e : Event) (past : List Event) → HasCause header outside e past → (h o : ℕ)
    → last_control h o past ≤ last_control h o (e ∷ past)
last_grows header outside (event.Sent (Up host object) (message.Init control size)) past c h o =
    grow_if (host.0 == h && object.0 == o) control (last_control h o past) (λ is. at_place (λ g k. last_control g k past ≤ control) host.0 object.0 h o is
    (omega (arith, c.1.number)))
last_grows header outside (event.Sent (Up host object) (message.Create control size)) past c h o =
    grow_if (host.0 == h && object.0 == o) control (last_control h o past) (λ is. at_place (λ g k. last_control g k past ≤ control) host.0 object.0 h o is
    (omega (arith, c.1.never)))
last_grows header outside e past c h o = omega arith

live_begun : (b : Bool) (control last k : ℕ) (live : Option ℕ) → (live ≡ Some k → k ≡ last) → (if b then Some control else live) ≡ Some k
    → k ≡ (if b then control else last)
live_begun true control last k live was is = sym (some_is control k is)
live_begun false control last k live was is = was is

live_ended : (b : Bool) (control last k : ℕ) (live : Option ℕ) → (live ≡ Some k → k ≡ last) → (if b then without_control control live else live) ≡ Some k
    → k ≡ last
live_ended false control last k live was is = was is
live_ended true control last k None was is = was is
live_ended true control last k (Some n) was is = by (n == control) is
  where
    by : (b : Bool) → (if b then None else Some n) ≡ Some k → k ≡ last
    by true e = absurd (let bad : ◌≡◌ {A = Option ℕ} None (Some k) = e in cc)
    by false e = was e

live_next : (header : Header) (outside : Outside) (e : Event) (past : List Event) → Numbers past → HasCause header outside e past → (h o k : ℕ)
    → live_control h o (e ∷ past) ≡ Some k → k ≡ last_control h o (e ∷ past)
live_next header outside (event.Sent (Up host object) (message.Init control size)) past n c h o k =
    live_begun (host.0 == h && object.0 == o) control (last_control h o past) k (live_control h o past) (n.live h o k)
live_next header outside (event.Sent (Up host object) (message.Create control size)) past n c h o k =
    live_begun (host.0 == h && object.0 == o) control (last_control h o past) k (live_control h o past) (n.live h o k)
live_next header outside (event.Sent (Up host object) (message.Terminate control)) past n c h o k =
    live_ended (host.0 == h && object.0 == o) control (last_control h o past) k (live_control h o past) (n.live h o k)
live_next header outside e past n c h o k = n.live h o k

own_if : (b : Bool) (control last : ℕ) → b ≡ true → control ≤ (if b then control else last)
own_if true control last is = omega arith
own_if false control last is = never is

-- what is sent names a control that began
sent_said : (header : Header) (doing : Command) (host : HostId) (object : ObjectId) (m : Message) (past : List Event) → Numbers past
    → MaySendUp header doing host.0 object.0 m past → (h o : ℕ) → (host.0 == h && object.0 == o) ≡ true
    → speaker m ≤ last_control h o (event.Sent (Up host object) m ∷ past)
sent_said header doing host object (message.Init control size) past n c h o is = own_if (host.0 == h && object.0 == o) control (last_control h o past) is
sent_said header doing host object (message.Create control size) past n c h o is = own_if (host.0 == h && object.0 == o) control (last_control h o past) is
sent_said header doing host object (message.Request control page access) past n c h o is =
    at_place (λ g k. control ≤ last_control g k past) host.0 object.0 h o is (omega (arith, n.live host.0 object.0 control c.live))
sent_said header doing host object m past n c h o is = omega arith

sent_next : (header : Header) (outside : Outside) (e : Event) (past : List Event) → Numbers past → HasCause header outside e past → (h o : ℕ)
    → UpTo (last_control h o (e ∷ past)) (queue (up_port h o) (e ∷ past))
sent_next header outside (event.Sent (Up host object) m) past n c h o =
    sent_up_to (host.0 == h && object.0 == o) (last_control h o past) _ (queue (up_port h o) past) m
    (last_grows header outside (event.Sent (Up host object) m) past c h o) (n.sent h o) (sent_said header c.0 host object m past n c.1 h o)
sent_next header outside (event.Taken (Up host object) m) past n c h o =
    taken_up_to (host.0 == h && object.0 == o) (last_control h o past) (queue (up_port h o) past) (n.sent h o)
sent_next header outside e past n c h o = n.sent h o

abbrev channel_in : Option Letter → Channel → Channel
channel_in None other = other
channel_in (Some letter) other = letter.channel

abbrev message_in : Option Letter → Message → Message
message_in None other = other
message_in (Some letter) other = letter.message

taken_next : (header : Header) (outside : Outside) (e : Event) (past : List Event) → Numbers past → HasCause header outside e past → (h o : ℕ) (m : Message)
    → taken_letter (e ∷ past) ≡ Some (record { channel = up_port h o; message = m }) → speaker m ≤ last_control h o (e ∷ past)
taken_next header outside (event.Line line) past n c h o m is =
    absurd (let bad : ◌≡◌ {A = Option Letter} None (Some (record { channel = up_port h o; message = m })) = is in cc)
taken_next header outside (event.Taken channel said) past n c h o m is =
    let same : said ≡ m = ap (λ l. message_in l m) is in
    let on : channel ≡ up_port h o = ap (λ l. channel_in l channel) is in
    let head : first (queue (up_port h o) past) ≡ Some said = subst (λ (d : Channel). first (queue d past) ≡ Some said) on c.1.0 in
    subst (λ (x : Message). speaker x ≤ last_control h o past) same (first_up_to (last_control h o past) (queue (up_port h o) past) said (n.sent h o) head)
taken_next header outside (event.Sent channel said) past n c h o m is =
    omega (arith, n.taken h o m is, last_grows header outside (event.Sent channel said) past c h o)
taken_next header outside e past n c h o m is = n.taken h o m is

known_if : (b : Bool) (m : Message) (was : Option ℕ) (last k : ℕ) → (b ≡ true → speaker m ≤ last) → ((j : ℕ) → was ≡ Some j → j ≤ last)
    → (if b then known_after m was else was) ≡ Some k → k ≤ last
known_if false m was last k said small is = small k is
known_if true (message.Init control size) was last k said small is = omega (arith, some_is control k is, said refl)
known_if true (message.Create control size) was last k said small is = omega (arith, some_is control k is, said refl)
known_if true (message.Terminate control) None last k said small is = small k is
known_if true (message.Terminate control) (Some n) last k said small is = by (n == control) is
  where
    by : (b : Bool) → (if b then None else Some n) ≡ Some k → k ≤ last
    by true e = absurd (let bad : ◌≡◌ {A = Option ℕ} None (Some k) = e in cc)
    by false e = small k e
known_if true m was last k said small is = small k is

known_next : (header : Header) (outside : Outside) (e : Event) (past : List Event) → Numbers past → HasCause header outside e past → (h o k : ℕ)
    → known_control h o (e ∷ past) ≡ Some k → k ≤ last_control h o (e ∷ past)
known_next header outside (event.Taken (Up host object) m) past n c h o k is =
    known_if (host.0 == h && object.0 == o) m (known_control h o past) (last_control h o past) k
    (λ same. first_up_to (last_control h o past) (queue (up_port h o) past) m (n.sent h o)
    (at_place (λ g j. first (queue (up_port g j) past) ≡ Some m) host.0 object.0 h o same c.1.0)) (n.known h o) is
known_next header outside (event.Sent channel said) past n c h o k is =
    omega (arith, n.known h o k is, last_grows header outside (event.Sent channel said) past c h o)
known_next header outside e past n c h o k is = n.known h o k is

pub numbers_of : (header : Header) (outside : Outside) (past : List Event) → EachEvent (HasCause header outside) past → Numbers past
numbers_of header outside [] caused =
    record {
      live = λ h o k is. absurd (let bad : ◌≡◌ {A = Option ℕ} None (Some k) = is in cc);
      sent = λ h o. tt;
      taken = λ h o m is. absurd (let bad : ◌≡◌ {A = Option Letter} None (Some (record { channel = up_port h o; message = m })) = is in cc);
      known = λ h o k is. absurd (let bad : ◌≡◌ {A = Option ℕ} None (Some k) = is in cc);
    }
numbers_of header outside (e ∷ past) caused =
    let n : Numbers past = numbers_of header outside past caused.1 in
    record {
      live = live_next header outside e past n caused.0;
      sent = sent_next header outside e past n caused.0;
      taken = taken_next header outside e past n caused.0;
      known = known_next header outside e past n caused.0;
    }
