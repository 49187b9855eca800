-- The pages, controls and frames of a host, under an event that is nothing to it.
use Rattle.std.proofs.Common.{◌≡◌, ℕ, ◌==◌, ◌&&◌, Bool, false, List, ◌∷◌, Option, refl, ap}
use Rattle.vm_base.specs.declared.ids.HostId.{HostId}
use Rattle.vm_base.specs.declared.ids.ObjectId.{ObjectId}
use Rattle.vm_model.specs.declared.event.Event.{Event}
use Rattle.vm_model.specs.declared.event.Event.TheVariants as event
use Rattle.vm_model.specs.declared.message.Channel.TheVariants.{Up, Down}
use Rattle.vm_model.specs.declared.message.Message.{Message}
use Rattle.vm_model.specs.declared.message.Message.TheVariants as message
use Rattle.vm_model.specs.declared.script.Header.{Header}
use Rattle.vm_model.specs.Controls.{control_after, is_control, last_control, live_after, live_control}
use Rattle.vm_model.specs.Local.{Elsewhere, Local, Place, effect, local, local_after}
use Rattle.vm_legal.specs.Accesses.{is_ready}
use Rattle.vm_legal.specs.Cached.{is_cached}
use Rattle.vm_legal.specs.Frames.{Keeps, change, frames_after, frames_held, frames_wired, given_at_end, returns_out, sent_up_change, taken_down_change}
use Rattle.vm_legal.specs.Frames.{taken_up_change}
use Rattle.vm_legal.specs.Homes.{gives_frame, is_home}
use Rattle.vm_legal.specs.Pushes.{is_pushed}
use Rattle.vm_abroad.specs.Same.{SamePages}

-- places

effect_abroad : (header : Header) (h : ℕ) (place : Place) (others : Place → Local) (e : Event) (past : List Event) → is_home header h e past ≡ false
    → effect header h place others e past ≡ Elsewhere
effect_abroad header h place others (event.Zeroed at object page) past is = rw is refl
effect_abroad header h place others (event.Raised at lower lower_page upper upper_page) past is = rw is refl
effect_abroad header h place others (event.CopiedPage task page object object_page target) past is = rw is refl
effect_abroad header h place others (event.Stored task object page at size value) past is = rw is refl
effect_abroad header h place others (event.Dropped at object page) past is = rw is refl
effect_abroad header h place others (event.Sent (Up at object) m) past is = rw is refl
effect_abroad header h place others (event.Sent (Down at object control) m) past is = refl
effect_abroad header h place others (event.Taken (Up at object) m) past is = refl
effect_abroad header h place others (event.Taken (Down at object control) m) past is = rw is refl
effect_abroad header h place others (event.Merged upper lower) past is = rw is refl
effect_abroad header h place others other past is = refl

pub local_abroad : (header : Header) (h : ℕ) (e : Event) (past : List Event) → is_home header h e past ≡ false → (place : Place)
    → local header h place (e ∷ past) ≡ local header h place past
local_abroad header h e past is place =
    ap (λ z. local_after header.size z (local header h place past)) (effect_abroad header h place (λ source. local header h source past) e past is)

-- controls

live_sent : (h o : ℕ) (at : HostId) (object : ObjectId) (m : Message) (live : Option ℕ) → (at.0 == h) ≡ false
    → live_after h o (event.Sent (Up at object) m) live ≡ live
live_sent h o at object (message.Init control size) live is = rw is refl
live_sent h o at object (message.Create control size) live is = rw is refl
live_sent h o at object (message.Terminate control) live is = rw is refl
live_sent h o at object other live is = refl

pub live_abroad : (header : Header) (h : ℕ) (e : Event) (past : List Event) → is_home header h e past ≡ false → (o : ℕ)
    → live_control h o (e ∷ past) ≡ live_control h o past
live_abroad header h (event.Sent (Up at object) m) past is o = live_sent h o at object m (live_control h o past) is
live_abroad header h (event.Sent (Down at object control) m) past is o = refl
live_abroad header h other past is o = refl

last_sent : (h o : ℕ) (at : HostId) (object : ObjectId) (m : Message) (last : ℕ) → (at.0 == h) ≡ false
    → control_after h o (event.Sent (Up at object) m) last ≡ last
last_sent h o at object (message.Init control size) last is = rw is refl
last_sent h o at object (message.Create control size) last is = rw is refl
last_sent h o at object other last is = refl

pub last_abroad : (header : Header) (h : ℕ) (e : Event) (past : List Event) → is_home header h e past ≡ false → (o : ℕ)
    → last_control h o (e ∷ past) ≡ last_control h o past
last_abroad header h (event.Sent (Up at object) m) past is o = last_sent h o at object m (last_control h o past) is
last_abroad header h (event.Sent (Down at object control) m) past is o = refl
last_abroad header h other past is o = refl

ready_sent : (h o : ℕ) (at : HostId) (object : ObjectId) (m : Message) (past : List Event) → (at.0 == h) ≡ false
    → is_ready h o (event.Sent (Up at object) m ∷ past) ≡ is_ready h o past
ready_sent h o at object (message.Init control size) past is = rw is refl
ready_sent h o at object (message.Create control size) past is = rw is refl
ready_sent h o at object other past is = refl

ready_taken : (h o : ℕ) (at : HostId) (object : ObjectId) (control : ℕ) (m : Message) (past : List Event) → (at.0 == h) ≡ false
    → is_ready h o (event.Taken (Down at object control) m ∷ past) ≡ is_ready h o past
ready_taken h o at object control (message.Ready cache strategy) past is = rw is refl
ready_taken h o at object control other past is = refl

pub ready_abroad : (header : Header) (h : ℕ) (e : Event) (past : List Event) → is_home header h e past ≡ false → (o : ℕ)
    → is_ready h o (e ∷ past) ≡ is_ready h o past
ready_abroad header h (event.Sent (Up at object) m) past is o = ready_sent h o at object m past is
ready_abroad header h (event.Sent (Down at object control) m) past is o = refl
ready_abroad header h (event.Taken (Up at object) m) past is o = refl
ready_abroad header h (event.Taken (Down at object control) m) past is o = ready_taken h o at object control m past is
ready_abroad header h other past is o = refl

cached_sent : (h o : ℕ) (at : HostId) (object : ObjectId) (m : Message) (past : List Event) → (at.0 == h) ≡ false
    → is_cached h o (event.Sent (Up at object) m ∷ past) ≡ is_cached h o past
cached_sent h o at object (message.Init control size) past is = rw is refl
cached_sent h o at object (message.Create control size) past is = rw is refl
cached_sent h o at object (message.Terminate control) past is = rw is refl
cached_sent h o at object other past is = refl

cached_taken : (h o : ℕ) (at : HostId) (object : ObjectId) (control : ℕ) (m : Message) (past : List Event) → (at.0 == h) ≡ false
    → is_cached h o (event.Taken (Down at object control) m ∷ past) ≡ is_cached h o past
cached_taken h o at object control (message.Ready cache strategy) past is = rw is refl
cached_taken h o at object control (message.Attributes cache strategy reply) past is = rw is refl
cached_taken h o at object control other past is = refl

pub cached_abroad : (header : Header) (h : ℕ) (e : Event) (past : List Event) → is_home header h e past ≡ false → (o : ℕ)
    → is_cached h o (e ∷ past) ≡ is_cached h o past
cached_abroad header h (event.Sent (Up at object) m) past is o = cached_sent h o at object m past is
cached_abroad header h (event.Sent (Down at object control) m) past is o = refl
cached_abroad header h (event.Taken (Up at object) m) past is o = refl
cached_abroad header h (event.Taken (Down at object control) m) past is o = cached_taken h o at object control m past is
cached_abroad header h other past is o = refl

-- frames

change_sent : (b : Bool) (asked : ℕ) (m : Message) → b ≡ false → sent_up_change b asked m ≡ Keeps
change_sent b asked (message.Request control page access) is = rw is refl
change_sent b asked (message.Terminate control) is = rw is refl
change_sent b asked other is = refl

change_returned : (b : Bool) (m : Message) → (b && gives_frame m) ≡ false → taken_up_change b m ≡ Keeps
change_returned b (message.Return control page dirty keep bytes) is = rw is refl
change_returned b other is = refl

change_answered : (b : Bool) (own : ℕ → Bool) (m : Message) → b ≡ false → taken_down_change (λ page. b && own page) m ≡ Keeps
change_answered b own (message.Unavailable page) is = rw is refl
change_answered b own (message.Error page reason) is = rw is refl
change_answered b own other is = refl

change_abroad : (header : Header) (h : ℕ) (e : Event) (past : List Event) → is_home header h e past ≡ false → change header h e past ≡ Keeps
change_abroad header h (event.Zeroed at object page) past is = rw is refl
change_abroad header h (event.Raised at lower lower_page upper upper_page) past is = rw is refl
change_abroad header h (event.CopiedPage task page object object_page target) past is = rw is refl
change_abroad header h (event.Dropped at object page) past is = rw is refl
change_abroad header h (event.Sent (Up at object) m) past is = change_sent (at.0 == h) (given_at_end header h object.0 past) m is
change_abroad header h (event.Sent (Down at object control) m) past is = refl
change_abroad header h (event.Taken (Up at object) m) past is = change_returned (at.0 == h) m is
change_abroad header h (event.Taken (Down at object control) m) past is =
    change_answered (at.0 == h) (λ page. is_control control (live_control h object.0 past) &&
    (local header h (record { object = object.0; page = page }) past).asked) m is
change_abroad header h (event.Merged upper lower) past is = rw is refl
change_abroad header h other past is = refl

pub held_abroad : (header : Header) (h : ℕ) (e : Event) (past : List Event) → is_home header h e past ≡ false
    → frames_held header h (e ∷ past) ≡ frames_held header h past
held_abroad header h e past is = ap (λ z. frames_after z (frames_held header h past)) (change_abroad header h e past is)

pub wired_abroad : (header : Header) (h : ℕ) (e : Event) (past : List Event) → is_home header h e past ≡ false → frames_wired h (e ∷ past) ≡ frames_wired h past
wired_abroad header h (event.Wired at count) past is = rw is refl
wired_abroad header h other past is = refl

out_sent : (h : ℕ) (at : HostId) (object : ObjectId) (m : Message) (past : List Event) → (at.0 == h) ≡ false
    → returns_out h (event.Sent (Up at object) m ∷ past) ≡ returns_out h past
out_sent h at object (message.Return control page dirty keep bytes) past is = rw is refl
out_sent h at object other past is = refl

out_taken : (h : ℕ) (at : HostId) (object : ObjectId) (m : Message) (past : List Event) → (at.0 == h && gives_frame m) ≡ false
    → returns_out h (event.Taken (Up at object) m ∷ past) ≡ returns_out h past
out_taken h at object (message.Return control page dirty keep bytes) past is = rw is refl
out_taken h at object other past is = refl

pub out_abroad : (header : Header) (h : ℕ) (e : Event) (past : List Event) → is_home header h e past ≡ false → returns_out h (e ∷ past) ≡ returns_out h past
out_abroad header h (event.Sent (Up at object) m) past is = out_sent h at object m past is
out_abroad header h (event.Sent (Down at object control) m) past is = refl
out_abroad header h (event.Taken (Up at object) m) past is = out_taken h at object m past is
out_abroad header h (event.Taken (Down at object control) m) past is = refl
out_abroad header h other past is = refl

pub pushed_abroad : (header : Header) (h : ℕ) (e : Event) (past : List Event) → is_home header h e past ≡ false → (o page : ℕ)
    → is_pushed h o page (e ∷ past) ≡ is_pushed h o page past
pushed_abroad header h (event.Raised at lower lower_page upper upper_page) past is o page = rw is refl
pushed_abroad header h other past is o page = refl

pub pages_abroad : (header : Header) (h : ℕ) (e : Event) (past : List Event) → is_home header h e past ≡ false → SamePages header h past (e ∷ past)
pages_abroad header h e past is = record {
  local = local_abroad header h e past is;
  live = live_abroad header h e past is;
  last = last_abroad header h e past is;
  ready = ready_abroad header h e past is;
  cached = cached_abroad header h e past is;
  held = held_abroad header h e past is;
  wired = wired_abroad header h e past is;
  out = out_abroad header h e past is;
  pushed = pushed_abroad header h e past is;
}
