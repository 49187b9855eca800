-- An event of a host, read at that host: the test whose it is computes away.
use Rattle.std.proofs.Common.{Bool, List, Option, ap, arith, false, if◌then◌else◌, refl, true, ℕ, ◌&&◌, ◌==◌, ◌∷◌, ◌≡◌}
use Rattle.std.proofs.lemmas.Bool.Decides.{nat_tests}
use Rattle.vm_base.specs.declared.ids.HostId.{HostId}
use Rattle.vm_base.specs.declared.ids.ObjectId.{ObjectId}
use Rattle.vm_model.specs.declared.event.Event.{Event}
use Rattle.vm_model.specs.declared.event.Event.TheVariants as event
use Rattle.vm_model.specs.declared.message.Channel.TheVariants.{Up, Down}
use Rattle.vm_model.specs.declared.message.Message.{Message}
use Rattle.vm_model.specs.declared.message.Message.TheVariants as message
use Rattle.vm_model.specs.declared.script.Header.{Header}
use Rattle.vm_model.specs.Controls.{control_after, is_control, last_control, live_after, live_control}
use Rattle.vm_model.specs.Local.{Local, Place, effect, local, local_after}
use Rattle.vm_model.specs.Regions.{backing_of, object_pages}
use Rattle.vm_legal.specs.Accesses.{is_ready}
use Rattle.vm_legal.specs.Cached.{is_cached}
use Rattle.vm_legal.specs.Frames.{change, frames_after, frames_held, frames_wired, given_at_end, returns_out, sent_up_change, taken_down_change}
use Rattle.vm_legal.specs.Frames.{taken_up_change}
use Rattle.vm_legal.specs.Homes.{gives_frame, is_home}
use Rattle.vm_abroad.specs.Own.{own_cached, own_change, own_effect, own_last, own_live, own_out, own_ready, own_wired}

both_left : (a b : Bool) → (a && b) ≡ true → a ≡ true
both_left true b is = refl
both_left false b is = is

-- a host's own number, as its events have it
pub itself : (n : ℕ) → (n == n) ≡ true
itself n = grind (arith, nat_tests)

-- places

pub effect_own : (header : Header) (h : ℕ) (place : Place) (others : Place → Local) (e : Event) (past : List Event) → is_home header h e past ≡ true
    → effect header h place others e past ≡ own_effect (λ o. backing_of header o past) (λ o. object_pages header o past) place others
    (live_control h place.object past) e
effect_own header h place others (event.Zeroed at object page) past is = rw is refl
effect_own header h place others (event.Raised at lower lower_page upper upper_page) past is = rw is refl
effect_own header h place others (event.CopiedPage task page object object_page target) past is = rw is refl
effect_own header h place others (event.Stored task object page at size value) past is = rw is refl
effect_own header h place others (event.Dropped at object page) past is = rw is refl
effect_own header h place others (event.Sent (Up at object) m) past is = rw is refl
effect_own header h place others (event.Sent (Down at object control) m) past is = refl
effect_own header h place others (event.Taken (Up at object) m) past is = refl
effect_own header h place others (event.Taken (Down at object control) m) past is = rw is refl
effect_own header h place others (event.Merged upper lower) past is = rw is refl
effect_own header h place others other past is = refl

pub local_own : (header : Header) (h : ℕ) (e : Event) (past : List Event) → is_home header h e past ≡ true → (place : Place)
    → local header h place (e ∷ past) ≡ local_after header.size (own_effect (λ o. backing_of header o past) (λ o. object_pages header o past) place
    (λ source. local header h source past)
    (live_control h place.object past) e) (local header h place past)
local_own header h e past is place =
    ap (λ z. local_after header.size z (local header h place past)) (effect_own header h place (λ source. local header h source past) e past is)

-- controls

live_sent : (h o : ℕ) (at : HostId) (object : ObjectId) (m : Message) (live : Option ℕ) → (at.0 == h) ≡ true
    → live_after h o (event.Sent (Up at object) m) live ≡ own_live o (event.Sent (Up at object) m) live
live_sent h o at object (message.Init control size) live is = rw is refl
live_sent h o at object (message.Create control size) live is = rw is refl
live_sent h o at object (message.Terminate control) live is = rw is refl
live_sent h o at object other live is = refl

pub live_own : (header : Header) (h : ℕ) (e : Event) (past : List Event) → is_home header h e past ≡ true → (o : ℕ)
    → live_control h o (e ∷ past) ≡ own_live o e (live_control h o past)
live_own header h (event.Sent (Up at object) m) past is o = live_sent h o at object m (live_control h o past) is
live_own header h (event.Sent (Down at object control) m) past is o = refl
live_own header h other past is o = refl

last_sent : (h o : ℕ) (at : HostId) (object : ObjectId) (m : Message) (last : ℕ) → (at.0 == h) ≡ true
    → control_after h o (event.Sent (Up at object) m) last ≡ own_last o (event.Sent (Up at object) m) last
last_sent h o at object (message.Init control size) last is = rw is refl
last_sent h o at object (message.Create control size) last is = rw is refl
last_sent h o at object other last is = refl

pub last_own : (header : Header) (h : ℕ) (e : Event) (past : List Event) → is_home header h e past ≡ true → (o : ℕ)
    → last_control h o (e ∷ past) ≡ own_last o e (last_control h o past)
last_own header h (event.Sent (Up at object) m) past is o = last_sent h o at object m (last_control h o past) is
last_own header h (event.Sent (Down at object control) m) past is o = refl
last_own header h other past is o = refl

ready_sent : (h o : ℕ) (at : HostId) (object : ObjectId) (m : Message) (past : List Event) → (at.0 == h) ≡ true
    → is_ready h o (event.Sent (Up at object) m ∷ past) ≡ own_ready o (live_control h o past) (event.Sent (Up at object) m) (is_ready h o past)
ready_sent h o at object (message.Init control size) past is = rw is refl
ready_sent h o at object (message.Create control size) past is = rw is refl
ready_sent h o at object other past is = refl

ready_taken : (h o : ℕ) (at : HostId) (object : ObjectId) (control : ℕ) (m : Message) (past : List Event) → (at.0 == h) ≡ true
    → is_ready h o (event.Taken (Down at object control) m ∷ past) ≡ own_ready o (live_control h o past) (event.Taken (Down at object control) m)
    (is_ready h o past)
ready_taken h o at object control (message.Ready cache strategy) past is = rw is refl
ready_taken h o at object control other past is = refl

pub ready_own : (header : Header) (h : ℕ) (e : Event) (past : List Event) → is_home header h e past ≡ true → (o : ℕ)
    → is_ready h o (e ∷ past) ≡ own_ready o (live_control h o past) e (is_ready h o past)
ready_own header h (event.Sent (Up at object) m) past is o = ready_sent h o at object m past is
ready_own header h (event.Sent (Down at object control) m) past is o = refl
ready_own header h (event.Taken (Up at object) m) past is o = refl
ready_own header h (event.Taken (Down at object control) m) past is o = ready_taken h o at object control m past is
ready_own header h other past is o = refl

cached_sent : (h o : ℕ) (at : HostId) (object : ObjectId) (m : Message) (past : List Event) → (at.0 == h) ≡ true
    → is_cached h o (event.Sent (Up at object) m ∷ past)
    ≡ own_cached o (live_control h o past) (is_ready h o past) (event.Sent (Up at object) m) (is_cached h o past)
cached_sent h o at object (message.Init control size) past is = rw is refl
cached_sent h o at object (message.Create control size) past is = rw is refl
cached_sent h o at object (message.Terminate control) past is = rw is refl
cached_sent h o at object other past is = refl

cached_taken : (h o : ℕ) (at : HostId) (object : ObjectId) (control : ℕ) (m : Message) (past : List Event) → (at.0 == h) ≡ true
    → is_cached h o (event.Taken (Down at object control) m ∷ past)
    ≡ own_cached o (live_control h o past) (is_ready h o past) (event.Taken (Down at object control) m) (is_cached h o past)
cached_taken h o at object control (message.Ready cache strategy) past is = rw is refl
cached_taken h o at object control (message.Attributes cache strategy reply) past is = rw is refl
cached_taken h o at object control other past is = refl

pub cached_own : (header : Header) (h : ℕ) (e : Event) (past : List Event) → is_home header h e past ≡ true → (o : ℕ)
    → is_cached h o (e ∷ past) ≡ own_cached o (live_control h o past) (is_ready h o past) e (is_cached h o past)
cached_own header h (event.Sent (Up at object) m) past is o = cached_sent h o at object m past is
cached_own header h (event.Sent (Down at object control) m) past is o = refl
cached_own header h (event.Taken (Up at object) m) past is o = refl
cached_own header h (event.Taken (Down at object control) m) past is o = cached_taken h o at object control m past is
cached_own header h other past is o = refl

-- frames

change_taken : (b : Bool) (own : ℕ → Bool) (m : Message) → b ≡ true → taken_down_change (λ page. b && own page) m ≡ taken_down_change own m
change_taken b own (message.Unavailable page) is = rw is refl
change_taken b own (message.Error page reason) is = rw is refl
change_taken b own other is = refl

pub change_own : (header : Header) (h : ℕ) (e : Event) (past : List Event) → is_home header h e past ≡ true
    → change header h e past ≡ own_change (λ o. backing_of header o past) (λ o. object_pages header o past)
    (λ o page. (local header h (record { object = o; page = page }) past).here) (λ o control page. is_control control (live_control h o past) &&
    (local header h (record { object = o; page = page }) past).asked) (λ o. given_at_end header h o past) e
change_own header h (event.Zeroed at object page) past is = rw is refl
change_own header h (event.Raised at lower lower_page upper upper_page) past is = rw is refl
change_own header h (event.CopiedPage task page object object_page target) past is = rw is refl
change_own header h (event.Dropped at object page) past is = rw is refl
change_own header h (event.Sent (Up at object) m) past is = ap (λ z. sent_up_change z (given_at_end header h object.0 past) m) is
change_own header h (event.Sent (Down at object control) m) past is = refl
change_own header h (event.Taken (Up at object) m) past is = ap (λ z. taken_up_change z m) (both_left (at.0 == h) (gives_frame m) is)
change_own header h (event.Taken (Down at object control) m) past is =
    change_taken (at.0 == h) (λ page. is_control control (live_control h object.0 past) &&
    (local header h (record { object = object.0; page = page }) past).asked) m is
change_own header h (event.Merged upper lower) past is = rw is refl
change_own header h other past is = refl

pub held_own : (header : Header) (h : ℕ) (e : Event) (past : List Event) → is_home header h e past ≡ true
    → frames_held header h (e ∷ past)
    ≡ frames_after (own_change (λ o. backing_of header o past) (λ o. object_pages header o past)
    (λ o page. (local header h (record { object = o; page = page }) past).here) (λ o control page. is_control control (live_control h o past) &&
    (local header h (record { object = o; page = page }) past).asked) (λ o. given_at_end header h o past) e) (frames_held header h past)
held_own header h e past is = ap (λ z. frames_after z (frames_held header h past)) (change_own header h e past is)

pub wired_own : (header : Header) (h : ℕ) (e : Event) (past : List Event) → is_home header h e past ≡ true
    → frames_wired h (e ∷ past) ≡ own_wired e (frames_wired h past)
wired_own header h (event.Wired at count) past is = rw is refl
wired_own header h other past is = refl

out_sent : (h : ℕ) (at : HostId) (object : ObjectId) (m : Message) (past : List Event) → (at.0 == h) ≡ true
    → returns_out h (event.Sent (Up at object) m ∷ past) ≡ own_out (event.Sent (Up at object) m) (returns_out h past)
out_sent h at object (message.Return control page dirty keep bytes) past is = rw is refl
out_sent h at object other past is = refl

out_taken : (h : ℕ) (at : HostId) (object : ObjectId) (m : Message) (past : List Event) → (at.0 == h) ≡ true
    → returns_out h (event.Taken (Up at object) m ∷ past) ≡ own_out (event.Taken (Up at object) m) (returns_out h past)
out_taken h at object (message.Return control page dirty keep bytes) past is = rw is refl
out_taken h at object other past is = refl

pub out_own : (header : Header) (h : ℕ) (e : Event) (past : List Event) → is_home header h e past ≡ true
    → returns_out h (e ∷ past) ≡ own_out e (returns_out h past)
out_own header h (event.Sent (Up at object) m) past is = out_sent h at object m past is
out_own header h (event.Sent (Down at object control) m) past is = refl
out_own header h (event.Taken (Up at object) m) past is = out_taken h at object m past (both_left (at.0 == h) (gives_frame m) is)
out_own header h (event.Taken (Down at object control) m) past is = refl
out_own header h other past is = refl
