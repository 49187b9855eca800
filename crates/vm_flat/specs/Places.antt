-- What a host has of a page of an object, what is on the way about it, and what the host's pager has:
-- each event is classified once, and moves one record.
use Rattle.std.specs.Prelude.{ℕ, ◌+◌, List, [], ◌∷◌, if◌then◌else◌, ◌==◌, ◌&&◌, Bool, Option}
use Rattle.vm_base.specs.Pages.{little_endian_bytes}
use Rattle.vm_model.specs.declared.event.Event.{Event}
use Rattle.vm_model.specs.declared.event.Event.TheVariants as event
use Rattle.vm_model.specs.declared.message.Channel.TheVariants.{Up, Down}
use Rattle.vm_model.specs.declared.message.Message.{Message}
use Rattle.vm_model.specs.declared.message.Message.TheVariants as message
use Rattle.vm_model.specs.declared.script.Header.{Header}
use Rattle.vm_model.specs.Controls.{is_control, last_control, live_control}
use Rattle.vm_model.specs.Homes.{object_home}
use Rattle.vm_model.specs.Local.{is_on}
use Rattle.vm_model.specs.Regions.{backing_of, object_pages}
use Rattle.vm_legal.specs.Outside.{Outside, is_file, is_said, start_page, zeros}
use Rattle.vm_legal.specs.Living.{lives_on}
use Rattle.vm_flat.specs.Words.{Supplying, Unavailing, Erring, SpotEffect, Creates, Requests, Returns, TakesRequest, TakesReturn, Answers, Takes, Zeroes}
use Rattle.vm_flat.specs.Words.{Raises, Stores, Drops, Ends, StepEnds, Nothing}
use Rattle.vm_flat.specs.Spot.{Spot, first_spot, merged_effect, spot_after}

-- the effect of what is about page `page` of `object`, on page p of o; on all others that of `other`
abbrev pub at_place : ℕ → ℕ → Bool → ℕ → ℕ → SpotEffect → SpotEffect → SpotEffect
at_place o p own object page mine other = if own && (object == o && page == p) then mine else other

-- the host's live control of the object comes in
abbrev pub effect_sent_up : ℕ → ℕ → Bool → Option ℕ → ℕ → Message → SpotEffect
effect_sent_up o p own live object (message.Init control size) = if own && object == o then Creates else Nothing
effect_sent_up o p own live object (message.Create control size) = if own && object == o then Creates else Nothing
effect_sent_up o p own live object (message.Request control page access) = at_place o p own object page.0 (Requests (is_control control live)) Nothing
effect_sent_up o p own live object (message.Return control page dirty keep bytes) = at_place o p own object page.0 (Returns keep bytes) Nothing
effect_sent_up o p own live object (message.Terminate control) = if (own && is_control control live) && object == o then Ends else Nothing
effect_sent_up o p own live object other = Nothing

abbrev pub effect_taken_up : ℕ → ℕ → Bool → ℕ → Message → SpotEffect
effect_taken_up o p own object (message.Request control page access) = at_place o p own object page.0 TakesRequest StepEnds
effect_taken_up o p own object (message.Return control page dirty keep bytes) = at_place o p own object page.0 (TakesReturn bytes) StepEnds
effect_taken_up o p own object other = StepEnds

abbrev pub effect_sent_down : ℕ → ℕ → Bool → Bool → ℕ → Message → SpotEffect
effect_sent_down o p own tells object (message.Supply page lock precious bytes) = at_place o p own object page.0 (Answers tells (Supplying bytes)) Nothing
effect_sent_down o p own tells object (message.Unavailable page) = at_place o p own object page.0 (Answers tells Unavailing) Nothing
effect_sent_down o p own tells object (message.Error page reason) = at_place o p own object page.0 (Answers tells Erring) Nothing
effect_sent_down o p own tells object other = Nothing

abbrev pub effect_taken_down : ℕ → ℕ → Bool → ℕ → Message → SpotEffect
effect_taken_down o p own object (message.Supply page lock precious bytes) = at_place o p own object page.0 (Takes (Supplying bytes)) StepEnds
effect_taken_down o p own object (message.Unavailable page) = at_place o p own object page.0 (Takes Unavailing) StepEnds
effect_taken_down o p own object (message.Error page reason) = at_place o p own object page.0 (Takes Erring) StepEnds
effect_taken_down o p own object other = StepEnds

-- What an event is to page p of object o on the host. What the host has of the other places comes in as a function.
-- So does, of which objects the answers say what their files have. Of the answers those to the host's newest control count.
abbrev pub effect_of : Header → (ℕ → Bool) → ℕ → ℕ → ℕ → Event → List Event → (ℕ → ℕ → Spot) → SpotEffect
effect_of header says host o p (event.Line line) past spots = StepEnds
effect_of header says host o p (event.Zeroed at object page) past spots = at_place o p (at.0 == host) object.0 page.0 Zeroes Nothing
effect_of header says host o p (event.Raised at lower lower_page upper upper_page) past spots =
    at_place o p (at.0 == host) upper.0 upper_page.0 (Raises (spots lower.0 lower_page.0).bytes) Nothing
effect_of header says host o p (event.Stored task object page at size value) past spots =
    at_place o p (lives_on host task.0 past) object.0 page.0 (Stores at (little_endian_bytes size value)) Nothing
effect_of header says host o p (event.CopiedPage task page object object_page target) past spots =
    at_place o p (lives_on host task.0 past) target.0 page.0 (Raises (spots object.0 object_page.0).bytes) Nothing
effect_of header says host o p (event.Dropped at object page) past spots = at_place o p (at.0 == host) object.0 page.0 Drops Nothing
effect_of header says host o p (event.Merged upper lower) past spots =
    if is_on host (object_home upper.0 past)
    then
    merged_effect o p upper.0 lower.0 (backing_of header upper.0 past).shift (object_pages header upper.0 past) (object_pages header lower.0 past) (spots o p)
    (spots lower.0 ((backing_of header upper.0 past).shift + p))
    else Nothing
effect_of header says host o p (event.Sent (Up at object) m) past spots = effect_sent_up o p (at.0 == host) (live_control host object.0 past) object.0 m
effect_of header says host o p (event.Sent (Down at object control) m) past spots =
    effect_sent_down o p (at.0 == host && control == last_control host object.0 past) (says object.0) object.0 m
effect_of header says host o p (event.Taken (Up at object) m) past spots = effect_taken_up o p (at.0 == host) object.0 m
effect_of header says host o p (event.Taken (Down at object control) m) past spots =
    effect_taken_down o p (at.0 == host && control == last_control host object.0 past) object.0 m
effect_of header says host o p e past spots = Nothing

abbrev pub spot : Header → Outside → ℕ → ℕ → ℕ → List Event → Spot
spot header outside host o p [] = first_spot (is_file header o) (start_page header outside o p)
spot header outside host o p (e ∷ past) =
    spot_after (zeros header) (spot header outside host o p past) (effect_of header (λ k. is_said header outside k) host o p e past
    (λ k q. spot header outside host k q past))
