-- Each channel is in order: what is taken is the oldest, nothing is sent to a control before it begins, and controls have rising numbers.
use Rattle.std.proofs.Common.{◌≡◌, ℕ, ◌≤◌, ◌==◌, ◌&&◌, ◌/◌, List, [], ◌∷◌, Bool, true, false, Some, if◌then◌else◌, refl, arith, inl, inr}
use Rattle.std.proofs.lemmas.Bool.Decides.{nat_tests}
use Rattle.vm_base.specs.declared.ids.HostId.{HostId}
use Rattle.vm_base.specs.declared.ids.ObjectId.{ObjectId}
use Rattle.vm_base.specs.declared.ids.ObjectKind.{ObjectKind}
use Rattle.vm_base.specs.declared.ids.ObjectKind.TheVariants.{Temp, File, Shared, Wild}
use Rattle.vm_model.specs.declared.command.Command.{Command}
use Rattle.vm_model.specs.declared.command.Command.TheVariants as command
use Rattle.vm_model.specs.declared.event.Event.{Event}
use Rattle.vm_model.specs.declared.event.Event.TheVariants as event
use Rattle.vm_model.specs.declared.message.Channel.TheVariants.{Up, Down}
use Rattle.vm_model.specs.declared.message.Message.{Message}
use Rattle.vm_model.specs.declared.message.Message.TheVariants as message
use Rattle.vm_model.specs.declared.script.Header.{Header}
use Rattle.vm_model.specs.Channels.{DownFirst, DownInOrder, TakesFirst, UpInOrder, queue, up_port}
use Rattle.vm_model.specs.Controls.{last_control}
use Rattle.vm_model.specs.Moments.{EachEvent}
use Rattle.vm_model.specs.PagePart.{page_part}
use Rattle.vm_model.specs.Server.{first}
use Rattle.vm_model.specs.Side.{Side, side, side_after}
use Rattle.vm_model.specs.TaskPlace.{means_page, task_host}
use Rattle.vm_model.specs.Words.{Asking, Unlocking, Returning, OtherUp, ActEffect, TakenUp, BeginsCopy, EndsCopy, StepBegins, Nothing, sent_act_effect}
use Rattle.vm_model.specs.Words.{times_meant, to_others, up_word}
use Rattle.vm_legal.specs.Licences.{HasCause, MaySendDown, MaySendUp, PagerSends, Says, ServerSends}
use Rattle.vm_legal.specs.Outside.{Outside, kind_of}
use Rattle.vm_quiet.proofs.Sane.{at_place}
use Rattle.vm_shared.proofs.Speakers.{Numbers, first_up_to, last_grows, numbers_of, speaker}

takes_first : (header : Header) (outside : Outside) (e : Event) (past : List Event) → HasCause header outside e past → TakesFirst e past
takes_first header outside (event.Taken (Up host object) m) past c = c.1.0
takes_first header outside (event.Taken (Down host object control) m) past c = tt
takes_first header outside e past c = tt

pub up_in_order : (header : Header) (outside : Outside) (past : List Event) → EachEvent (HasCause header outside) past → UpInOrder past
up_in_order header outside [] caused = tt
up_in_order header outside (e ∷ past) caused = (takes_first header outside e past caused.0, up_in_order header outside past caused.1)

-- the control that the server heard last is none that didn't begin

-- what takes no request
abbrev pub IsDeaf : ActEffect → Type 0
IsDeaf (TakenUp word) = ⊥
IsDeaf e = Unit {0}

deaf : (e : ActEffect) (s : Side) → IsDeaf e → (side_after s e).heard ≡ s.heard
deaf e s is = grind (arith, nat_tests)

deaf_others : (e : ActEffect) (s : Side) → (side_after s (to_others e)).heard ≡ s.heard
deaf_others e s = grind arith

deaf_act : (n h host : ℕ) (e : ActEffect) (s : Side) → IsDeaf e → s.heard ≤ n → (side_after s (if host == h then e else to_others e)).heard ≤ n
deaf_act n h host e s is small = by (host == h)
  where
    by : (b : Bool) → (side_after s (if b then e else to_others e)).heard ≤ n
    by true = omega (arith, deaf e s is, small)
    by false = omega (arith, deaf_others e s, small)

deaf_if : (b : Bool) (e f : ActEffect) → IsDeaf e → IsDeaf f → IsDeaf (if b then e else f)
deaf_if true e f one two = one
deaf_if false e f one two = two

deaf_sent : (p : ℕ) (m : Message) → IsDeaf (sent_act_effect p m)
deaf_sent p (message.Init control size) = tt
deaf_sent p (message.Create control size) = tt
deaf_sent p m = tt

hears : (p n : ℕ) (m : Message) (s : Side) → speaker m ≤ n → s.heard ≤ n → (side_after s (TakenUp (up_word p m))).heard ≤ n
hears p n (message.Request control page access) s said small = by (page.0 == p)
  where
    by : (b : Bool) → (side_after s (TakenUp (if b then Asking control access else OtherUp))).heard ≤ n
    by true = said
    by false = small
hears p n (message.Unlock control page access) s said small = by (page.0 == p)
  where
    by : (b : Bool) → (side_after s (TakenUp (if b then Unlocking access else OtherUp))).heard ≤ n
    by true = small
    by false = small
hears p n (message.Return control page dirty keep bytes) s said small = by (page.0 == p)
  where
    by : (b : Bool) → (side_after s (TakenUp (if b then Returning dirty keep bytes else OtherUp))).heard ≤ n
    by true = small
    by false = small
hears p n m s said small = grind (arith, nat_tests)

hears_act : (p n : ℕ) (a b : Bool) (m : Message) (s : Side) → (a && b ≡ true → speaker m ≤ n) → s.heard ≤ n
    → (side_after s (if a then (if b then TakenUp (up_word p m) else StepBegins) else to_others (if b then TakenUp (up_word p m) else StepBegins))).heard ≤ n
hears_act p n true true m s said small = hears p n m s (said refl) small
hears_act p n true false m s said small = small
hears_act p n false true m s said small = small
hears_act p n false false m s said small = small

heard_next : (header : Header) (outside : Outside) (e : Event) (past : List Event) → Numbers past → HasCause header outside e past → (h o p : ℕ)
    → (side h (page_part header.size o p past)).heard ≤ last_control h o past → (side h (page_part header.size o p (e ∷ past))).heard ≤ last_control h o past
heard_next header outside (event.Sent (Up host object) m) past n c h o p small = deaf_act _ h host.0 _ _ (deaf_if (object.0 == o) _ _ (deaf_sent p m) tt) small
heard_next header outside (event.Sent (Down host object control) m) past n c h o p small = deaf_act _ h host.0 _ _ (deaf_if (object.0 == o) _ _ tt tt) small
heard_next header outside (event.Taken (Up host object) m) past n c h o p small =
    hears_act p (last_control h o past) (host.0 == h) (object.0 == o) m (side h (page_part header.size o p past))
    (λ same. first_up_to (last_control h o past) (queue (up_port h o) past) m (n.sent h o)
    (at_place (λ g j. first (queue (up_port g j) past) ≡ Some m) host.0 object.0 h o same c.1.0)) small
heard_next header outside (event.Taken (Down host object control) m) past n c h o p small = deaf_act _ h host.0 _ _ (deaf_if (object.0 == o) _ _ tt tt) small
heard_next header outside (event.Dropped host object page) past n c h o p small =
    deaf_act _ h host.0 _ _ (deaf_if (object.0 == o && page.0 == p) _ _ tt tt) small
heard_next header outside (event.Zeroed host object page) past n c h o p small =
    deaf_act _ h host.0 _ _ (deaf_if (object.0 == o && page.0 == p) _ _ tt tt) small
heard_next header outside (event.Raised host lower lower_page upper upper_page) past n c h o p small =
    deaf_act _ h host.0 _ _ (deaf_if (upper.0 == o && upper_page.0 == p) _ _ tt tt) small
heard_next header outside (event.BegunCopy task address bytes to) past n c h o p small =
    deaf_act _ h (task_host task.0 past) (BeginsCopy task.0 (times_meant header.size (λ at. means_page header.size o p task.0 at past) address
    (bytes / header.size))) _ tt small
heard_next header outside (event.CopiedPage task page object object_page target) past n c h o p small =
    deaf_act _ h (task_host task.0 past) _ _ (deaf_if (target.0 == o && page.0 == p) _ _ tt (deaf_if (object.0 == o && object_page.0 == p) _ _ tt tt)) small
heard_next header outside (event.CopyEnded task) past n c h o p small = deaf_act _ h (task_host task.0 past) (EndsCopy task.0) _ tt small
heard_next header outside (event.BegunLoad task address bytes) past n c h o p small =
    deaf_act _ h (task_host task.0 past) _ _ (deaf_if (means_page header.size o p task.0 address past) _ _ tt tt) small
heard_next header outside (event.BegunStore task address bytes value) past n c h o p small =
    deaf_act _ h (task_host task.0 past) _ _ (deaf_if (means_page header.size o p task.0 address past) _ _ tt tt) small
heard_next header outside (event.Loaded task object page value) past n c h o p small =
    deaf_act _ h (task_host task.0 past) _ _ (deaf_if (object.0 == o && page.0 == p) _ _ tt tt) small
heard_next header outside (event.Stored task object page at bytes value) past n c h o p small =
    deaf_act _ h (task_host task.0 past) _ _ (deaf_if (object.0 == o && page.0 == p) _ _ tt tt) small
heard_next header outside (event.Failed task object page) past n c h o p small =
    deaf_act _ h (task_host task.0 past) _ _ (deaf_if (object.0 == o && page.0 == p) _ _ tt tt) small
heard_next header outside (event.Line line) past n c h o p small = deaf_act _ h 0 StepBegins _ tt small
heard_next header outside e past n c h o p small = deaf_act _ h 0 Nothing _ tt small

pub heard_small : (header : Header) (outside : Outside) (past : List Event) → EachEvent (HasCause header outside) past → (h o p : ℕ)
    → (side h (page_part header.size o p past)).heard ≤ last_control h o past
heard_small header outside [] caused h o p = omega arith
heard_small header outside (e ∷ past) caused h o p =
    omega (
      arith,
      heard_next header outside e past (numbers_of header outside past caused.1) caused.0 h o p (heard_small header outside past caused.1 h o p),
      last_grows header outside e past caused.0 h o,
    )

-- what is sent down

pager_small : (header : Header) (outside : Outside) (why : Command) (host object control : ℕ) (m : Message) (past : List Event) → Numbers past
    → MaySendDown header outside why host object control m past → control ≤ last_control host object past
pager_small header outside why host object control (message.Supply page lock precious bytes) past n c = n.taken host object _ c.0.taken
pager_small header outside why host object control (message.Unavailable page) past n c = n.taken host object _ c.0.taken
pager_small header outside why host object control (message.Error page reason) past n c = n.taken host object _ c.0.taken
pager_small header outside why host object control (message.Ready cache strategy) past n c =
    elim c.3 [ inl is ↦ n.taken host object _ is.0 | inr is ↦ n.taken host object _ is.0 ]
pager_small header outside why host object control (message.Lock page count returns flush lock reply) past n c = n.known host object control c.4
pager_small header outside why host object control (message.Attributes cache strategy reply) past n c = n.known host object control c.3
pager_small header outside why host object control m past n c = absurd c

server_small : (header : Header) (outside : Outside) (host object control : ℕ) (m : Message) (past : List Event) → EachEvent (HasCause header outside) past
    → Numbers past → ServerSends header host object control m past → control ≤ last_control host object past
server_small header outside host object control (message.Supply page lock precious bytes) past caused n c =
    omega (arith, c.0, heard_small header outside past caused host object page.0)
server_small header outside host object control (message.Lock page count returns flush lock true) past caused n c =
    omega (arith, c.0, heard_small header outside past caused host object page.0)
server_small header outside host object control (message.Lock page count returns flush lock false) past caused n c =
    omega (arith, c.0, heard_small header outside past caused host object page.0)
server_small header outside host object control (message.Ready cache strategy) past caused n c = n.taken host object _ c.3
server_small header outside host object control m past caused n c = absurd c

said_small : (why : Command) (host object control : ℕ) (m : Message) (past : List Event) → Numbers past → Says why host object control m past
    → control ≤ last_control host object past
said_small (command.Say at wild said) host object control m past n c = omega (arith, n.live host object control c.3)
said_small why host object control m past n c = absurd c

sent_small : (kind : ObjectKind) (header : Header) (outside : Outside) (why : Command) (host object control : ℕ) (m : Message) (past : List Event)
    → EachEvent (HasCause header outside) past → Numbers past → PagerSends kind header outside why host object control m past
    → control ≤ last_control host object past
sent_small Temp header outside why host object control m past caused n c = pager_small header outside why host object control m past n c
sent_small File header outside why host object control m past caused n c = pager_small header outside why host object control m past n c
sent_small Shared header outside why host object control m past caused n c = server_small header outside host object control m past caused n c
sent_small Wild header outside why host object control m past caused n c = said_small why host object control m past n c

opens_first : (header : Header) (why : Command) (host : HostId) (object : ObjectId) (m : Message) (past : List Event)
    → MaySendUp header why host.0 object.0 m past → DownFirst (event.Sent (Up host object) m) past
opens_first header why host object (message.Init control size) past c = omega (arith, c.number)
opens_first header why host object (message.Create control size) past c = omega (arith, c.number, c.never)
opens_first header why host object (message.Request control page access) past c = tt
opens_first header why host object (message.Return control page dirty keep bytes) past c = tt
opens_first header why host object (message.Unlock control page access) past c = tt
opens_first header why host object (message.Completed control page count) past c = tt
opens_first header why host object (message.Terminate control) past c = tt
opens_first header why host object (message.Changed control cache strategy) past c = tt
opens_first header why host object m past c = absurd c

down_first : (header : Header) (outside : Outside) (e : Event) (past : List Event) → EachEvent (HasCause header outside) past → HasCause header outside e past
    → DownFirst e past
down_first header outside (event.Sent (Up host object) m) past caused c = opens_first header c.0 host object m past c.1
down_first header outside (event.Sent (Down host object control) m) past caused c =
    sent_small (kind_of header object.0) header outside c.0 host.0 object.0 control m past caused (numbers_of header outside past caused) c.1
down_first header outside (event.Taken (Up host object) m) past caused c = tt
down_first header outside (event.Taken (Down host object control) m) past caused c = c.1.0
down_first header outside e past caused c = tt

pub down_in_order : (header : Header) (outside : Outside) (past : List Event) → EachEvent (HasCause header outside) past → DownInOrder past
down_in_order header outside [] caused = tt
down_in_order header outside (e ∷ past) caused = (down_first header outside e past caused.1 caused.0, down_in_order header outside past caused.1)
