-- The frames of a host that are in use, wired and free.
use Rattle.std.specs.Prelude.{ℕ, zero, suc, ◌+◌, ◌-◌, ◌≤◌, ◌==◌, ◌&&◌, not, Bool, false, List, [], ◌∷◌, if◌then◌else◌, IfSome, reverse, slice_get, unwrap_or}
use Rattle.vm_model.specs.declared.event.Event.{Event}
use Rattle.vm_model.specs.declared.event.Event.TheVariants as event
use Rattle.vm_model.specs.declared.message.Channel.TheVariants.{Up, Down}
use Rattle.vm_model.specs.declared.message.Message.{Message}
use Rattle.vm_model.specs.declared.message.Message.TheVariants as message
use Rattle.vm_model.specs.declared.script.Header.{Header}
use Rattle.vm_model.specs.Controls.{is_control, live_control}
use Rattle.vm_model.specs.Homes.{object_home}
use Rattle.vm_model.specs.Local.{is_on, local, moves_up}
use Rattle.vm_model.specs.Regions.{backing_of, object_pages}
use Rattle.vm_legal.specs.Destroyed.{destroy_taken, is_destroyed}
use Rattle.vm_legal.specs.Living.{lives_on}

-- what an event does to the frames in use
pub data FrameChange : Type 0 where
  Takes : FrameChange
  Gives : FrameChange
  GivesSome : (count : ℕ) → FrameChange
  Keeps : FrameChange

abbrev pub change_where : Bool → FrameChange → FrameChange
change_where test change = if test then change else Keeps

-- the message answers the request for a page of those that are asked
abbrev pub is_answered : (ℕ → Bool) → Message → Bool
is_answered asked (message.Supply page lock precious bytes) = asked page.0
is_answered asked (message.Unavailable page) = asked page.0
is_answered asked (message.Error page reason) = asked page.0
is_answered asked other = false

-- how many pages of an object are asked behind what a host says of it
abbrev pub asked_behind : Message → ℕ → ℕ
asked_behind (message.Request control page access) asked = asked + 1
asked_behind (message.Init control size) asked = 0
asked_behind (message.Create control size) asked = 0
asked_behind (message.Terminate control) asked = 0
asked_behind other asked = asked

-- how many pages of an object are asked on a host: each request asks for one, its answer takes one back, and the end of a control all
abbrev pub asked_pages : Header → ℕ → ℕ → List Event → ℕ
asked_pages header h o [] = 0
asked_pages header h o (event.Sent (Up host object) m ∷ past) =
    if host.0 == h && object.0 == o then asked_behind m (asked_pages header h o past) else asked_pages header h o past
asked_pages header h o (event.Taken (Down host object control) m ∷ past) =
    if (host.0 == h && (object.0 == o && is_control control (live_control h o past)))
    && is_answered (λ page. (local header h (record { object = o; page = page }) past).asked) m
    then asked_pages header h o past - 1
    else asked_pages header h o past
asked_pages header h o (e ∷ past) = asked_pages header h o past

-- what the end of the object's control gives back: where its pager destroyed it, the frames of what is asked; nothing is asked else
abbrev pub given_at_end : Header → ℕ → ℕ → List Event → ℕ
given_at_end header h o past = if is_destroyed h o (destroy_taken past) then asked_pages header h o past else 0

-- A request takes the frame for its page. A return that keeps no copy gives its frame back when its pager takes it. The end of a control that
-- its pager destroyed gives the frames of the pages back that are asked of it.
abbrev pub sent_up_change : Bool → ℕ → Message → FrameChange
sent_up_change here given (message.Request control page access) = change_where here Takes
sent_up_change here given (message.Terminate control) = change_where here (GivesSome given)
sent_up_change here given other = Keeps

abbrev pub taken_up_change : Bool → Message → FrameChange
taken_up_change here (message.Return control page dirty keep bytes) = change_where (here && not keep) Gives
taken_up_change here other = Keeps

-- What a pager supplies stands in the frame that was asked for; where it has none, or fails, that frame is given back. Whether the
-- page is asked comes in as a function.
abbrev pub taken_down_change : (ℕ → Bool) → Message → FrameChange
taken_down_change asked (message.Unavailable page) = change_where (asked page.0) Gives
taken_down_change asked (message.Error page reason) = change_where (asked page.0) Gives
taken_down_change asked other = Keeps

-- how many of the lower's first n pages are here and don't move up where it is merged into the upper
abbrev pub pages_gone : (ℕ → ℕ → Bool) → ℕ → ℕ → ℕ → ℕ → ℕ → ℕ
pages_gone here upper lower shift upper_pages zero = 0
pages_gone here upper lower shift upper_pages (suc n) =
    if here lower n && not (moves_up here upper shift upper_pages n)
    then pages_gone here upper lower shift upper_pages n + 1
    else pages_gone here upper lower shift upper_pages n

abbrev pub change : Header → ℕ → Event → List Event → FrameChange
change header host (event.Zeroed at object page) past = change_where (at.0 == host) Takes
change header host (event.Raised at lower lower_page upper upper_page) past = change_where (at.0 == host) Takes
change header host (event.CopiedPage task page object object_page target) past = change_where (lives_on host task.0 past) Takes
change header host (event.Dropped at object page) past = change_where (at.0 == host) Gives
change header host (event.Merged upper lower) past =
    change_where (is_on host (object_home upper.0 past)) (GivesSome (pages_gone (λ o p. (local header host (record { object = o; page = p }) past).here)
    upper.0 lower.0 (backing_of header upper.0 past).shift (object_pages header upper.0 past) (object_pages header lower.0 past)))
change header host (event.Sent (Up at object) m) past = sent_up_change (at.0 == host) (given_at_end header host object.0 past) m
change header host (event.Taken (Up at object) m) past = taken_up_change (at.0 == host) m
change header host (event.Taken (Down at object control) m) past =
    taken_down_change (λ page. at.0 == host && (is_control control (live_control host object.0 past) &&
    (local header host (record { object = object.0; page = page }) past).asked)) m
change header host e past = Keeps

abbrev pub frames_after : FrameChange → ℕ → ℕ
frames_after Takes held = held + 1
frames_after Gives held = held - 1
frames_after (GivesSome count) held = held - count
frames_after Keeps held = held

-- the frames of pages that are here or asked, and of returns that their pagers did not take yet
abbrev pub frames_held : Header → ℕ → List Event → ℕ
frames_held header host [] = 0
frames_held header host (e ∷ past) = frames_after (change header host e past) (frames_held header host past)

-- how many are wired: what was told last
abbrev pub frames_wired : ℕ → List Event → ℕ
frames_wired host [] = 0
frames_wired host (event.Wired at count ∷ past) = if at.0 == host then count else frames_wired host past
frames_wired host (e ∷ past) = frames_wired host past

abbrev pub frames_used : Header → ℕ → List Event → ℕ
frames_used header host past = frames_held header host past + frames_wired host past

-- a host uses no more frames than it has
abbrev pub Suffice : Header → ℕ → List Event → Type 0
Suffice header host past = IfSome (slice_get (reverse header.frames.items) host) (λ frames. frames_used header host past ≤ frames)

-- no host does
abbrev pub FramesSuffice : Header → List Event → Type 0
FramesSuffice header past = (host : ℕ) → Suffice header host past

abbrev pub frames_of : Header → ℕ → ℕ
frames_of header host = unwrap_or (slice_get (reverse header.frames.items) host) 0

abbrev pub frames_free : Header → ℕ → List Event → ℕ
frames_free header host past = frames_of header host - frames_used header host past

-- the returns without a copy that the host sent and whose pagers did not take them yet
abbrev pub returns_out : ℕ → List Event → ℕ
returns_out host [] = 0
returns_out host (event.Sent (Up at object) (message.Return control page dirty keep bytes) ∷ past) =
    if at.0 == host && not keep then returns_out host past + 1 else returns_out host past
returns_out host (event.Taken (Up at object) (message.Return control page dirty keep bytes) ∷ past) =
    if at.0 == host && not keep then returns_out host past - 1 else returns_out host past
returns_out host (e ∷ past) = returns_out host past
