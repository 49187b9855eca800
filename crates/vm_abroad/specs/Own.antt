-- What an event of a host does to the host's own facts: nothing is asked of whose it is.
use Rattle.std.specs.Prelude.{ℕ, ◌+◌, ◌-◌, ◌==◌, ◌&&◌, not, Bool, true, false, Option, Some, if◌then◌else◌}
use Rattle.vm_base.specs.Pages.{little_endian_bytes}
use Rattle.vm_model.specs.declared.event.Event.{Event}
use Rattle.vm_model.specs.declared.event.Event.TheVariants as event
use Rattle.vm_model.specs.declared.message.Channel.TheVariants.{Up, Down}
use Rattle.vm_model.specs.declared.message.Message.TheVariants as message
use Rattle.vm_model.specs.Controls.{is_control, without_control}
use Rattle.vm_model.specs.Local.{Drops, Elsewhere, Local, LocalEffect, Place, Raises, Stores, Zeroes, is_place, merge_effect, sent_effect, taken_effect}
use Rattle.vm_model.specs.Regions.{Backing}
use Rattle.vm_legal.specs.Frames.{FrameChange, Gives, GivesSome, Keeps, Takes, pages_gone, sent_up_change, taken_down_change, taken_up_change}

-- to a place of the host, with what the host has of the others, and the live control of its object; what objects stand on, and their pages, come in as
-- functions
abbrev pub own_effect : (ℕ → Backing) → (ℕ → ℕ) → Place → (Place → Local) → Option ℕ → Event → LocalEffect
own_effect links lengths place others live (event.Zeroed at object page) = if is_place place object.0 page.0 then Zeroes else Elsewhere
own_effect links lengths place others live (event.Raised at lower lower_page upper upper_page) =
    if is_place place upper.0 upper_page.0 then Raises (others (record { object = lower.0; page = lower_page.0 })).bytes else Elsewhere
own_effect links lengths place others live (event.CopiedPage task page object object_page target) =
    if is_place place target.0 page.0 then Raises (others (record { object = object.0; page = object_page.0 })).bytes else Elsewhere
own_effect links lengths place others live (event.Stored task object page at size value) =
    if is_place place object.0 page.0 then Stores at (little_endian_bytes size value) else Elsewhere
own_effect links lengths place others live (event.Dropped at object page) = if is_place place object.0 page.0 then Drops else Elsewhere
own_effect links lengths place others live (event.Sent (Up at object) m) = if object.0 == place.object then sent_effect place.page live m else Elsewhere
own_effect links lengths place others live (event.Taken (Down at object control) m) =
    if object.0 == place.object && is_control control live then taken_effect place.page m else Elsewhere
own_effect links lengths place others live (event.Merged upper lower) =
    merge_effect upper.0 lower.0 (links upper.0).shift (lengths upper.0) (lengths lower.0) place others
own_effect links lengths place others live other = Elsewhere

-- to its frames; which pages are here, whether its live control of an object has asked for one, and what the end of
-- that gives back, come in as functions too
abbrev pub own_change : (ℕ → Backing) → (ℕ → ℕ) → (ℕ → ℕ → Bool) → (ℕ → ℕ → ℕ → Bool) → (ℕ → ℕ) → Event → FrameChange
own_change links lengths here asked given (event.Zeroed at object page) = Takes
own_change links lengths here asked given (event.Raised at lower lower_page upper upper_page) = Takes
own_change links lengths here asked given (event.CopiedPage task page object object_page target) = Takes
own_change links lengths here asked given (event.Dropped at object page) = Gives
own_change links lengths here asked given (event.Sent (Up at object) m) = sent_up_change true (given object.0) m
own_change links lengths here asked given (event.Taken (Up at object) m) = taken_up_change true m
own_change links lengths here asked given (event.Taken (Down at object control) m) = taken_down_change (asked object.0 control) m
own_change links lengths here asked given (event.Merged upper lower) =
    GivesSome (pages_gone here upper.0 lower.0 (links upper.0).shift (lengths upper.0) (lengths lower.0))
own_change links lengths here asked given other = Keeps

-- to the live control of an object, the last one, whether that is ready, and whether the object stays when its last entry goes
abbrev pub own_live : ℕ → Event → Option ℕ → Option ℕ
own_live o (event.Sent (Up host object) (message.Init control size)) live = if object.0 == o then Some control else live
own_live o (event.Sent (Up host object) (message.Create control size)) live = if object.0 == o then Some control else live
own_live o (event.Sent (Up host object) (message.Terminate control)) live = if object.0 == o then without_control control live else live
own_live o other live = live

abbrev pub own_last : ℕ → Event → ℕ → ℕ
own_last o (event.Sent (Up host object) (message.Init control size)) last = if object.0 == o then control else last
own_last o (event.Sent (Up host object) (message.Create control size)) last = if object.0 == o then control else last
own_last o other last = last

abbrev pub own_ready : ℕ → Option ℕ → Event → Bool → Bool
own_ready o live (event.Sent (Up host object) (message.Init control size)) was = if object.0 == o then false else was
own_ready o live (event.Sent (Up host object) (message.Create control size)) was = if object.0 == o then false else was
own_ready o live (event.Taken (Down host object control) (message.Ready cache strategy)) was = if object.0 == o && is_control control live then true else was
own_ready o live other was = was

abbrev pub own_cached : ℕ → Option ℕ → Bool → Event → Bool → Bool
own_cached o live ready (event.Sent (Up host object) (message.Init control size)) was = if object.0 == o then false else was
own_cached o live ready (event.Sent (Up host object) (message.Create control size)) was = if object.0 == o then false else was
own_cached o live ready (event.Sent (Up host object) (message.Terminate control)) was = if object.0 == o then false else was
own_cached o live ready (event.Taken (Down host object control) (message.Ready cache strategy)) was =
    if object.0 == o && (is_control control live && not ready) then cache else was
own_cached o live ready (event.Taken (Down host object control) (message.Attributes cache strategy reply)) was =
    if object.0 == o && is_control control live then cache else was
own_cached o live ready other was = was

-- to the frames that are wired, and the returns that are out
abbrev pub own_wired : Event → ℕ → ℕ
own_wired (event.Wired at count) was = count
own_wired other was = was

abbrev pub own_out : Event → ℕ → ℕ
own_out (event.Sent (Up at object) (message.Return control page dirty keep bytes)) out = if not keep then out + 1 else out
own_out (event.Taken (Up at object) (message.Return control page dirty keep bytes)) out = if not keep then out - 1 else out
own_out other out = out
