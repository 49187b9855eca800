-- What the places may still cost for which accesses wait: a place is asked for once, by whoever comes there first.
use Rattle.std.specs.Prelude.{ℕ, ◌*◌, ◌==◌, ◌&&◌, not, Bool, true, List, [], ◌∷◌, if◌then◌else◌}
use Rattle.vm_bound.specs.Accesses.{is_wanted, is_wanted_to_write, turn_weight}
use Rattle.vm_bound.specs.Letters.{host_count}
use Rattle.vm_bound.specs.Lines.{sum_below}
use Rattle.vm_legal.specs.Accesses.{names}
use Rattle.vm_legal.specs.Outside.{is_shared, is_wild}
use Rattle.vm_legal.specs.Walks.{Sight, page_on, sight}
use Rattle.vm_model.specs.Local.{Local}
use Rattle.vm_model.specs.Regions.{next_object, object_pages}
use Rattle.vm_model.specs.declared.event.Event.{Event}
use Rattle.vm_model.specs.declared.event.Event.TheVariants as event
use Rattle.vm_model.specs.declared.message.Channel.TheVariants.{Up}
use Rattle.vm_model.specs.declared.message.Message.TheVariants as message
use Rattle.vm_model.specs.declared.script.Header.{Header}

-- the access of the last request of a host for a page, and 0 where there was none
abbrev pub asked_for : ℕ → ℕ → ℕ → List Event → ℕ
asked_for h o p [] = 0
asked_for h o p (event.Sent (Up host object) (message.Request control page access) ∷ past) =
    if host.0 == h && (object.0 == o && page.0 == p) then access else asked_for h o p past
asked_for h o p (e ∷ past) = asked_for h o p past

-- the page may be asked for: it is neither here nor asked, and its pager may have it
abbrev pub is_open : Sight → Bool
is_open seen = not seen.page.here && (not seen.page.asked && seen.may_have)

-- the turns at the server that a page of shared memory costs for those who wait to write it: an unlock, behind which it may be called back, and a request
abbrev pub write_turns : ℕ → Local → ℕ
write_turns access page =
    if page.here
    then if names page.lock true then (if page.unlocking then 1 else 2) else 0
    else if page.asked then (if access == 3 then 0 else 2)
    else 1

-- a place on a host; the pagers of wild objects are not counted on
abbrev pub place_weight : Header → ℕ → ℕ → ℕ → List Event → ℕ
place_weight header h o p past =
    if is_wild header o then 0
    else if is_shared header o
    then if is_wanted_to_write header h o p past then turn_weight header * write_turns (asked_for h o p past) (page_on header h o p past) else 0
    else if is_open (sight header h o p past) && is_wanted header h o p past then 2
    else 0

abbrev pub object_weight : Header → ℕ → ℕ → List Event → ℕ
object_weight header h o past = sum_below (object_pages header o past) (λ p. place_weight header h o p past)

-- all places
abbrev pub places : Header → List Event → ℕ
places header past = sum_below (host_count header) (λ h. sum_below (next_object header past) (λ o. object_weight header h o past))
