-- Whether an object stays on a host that has no entry on it, and what a change of its attributes says.
use Rattle.std.specs.Prelude.{ℕ, ◌==◌, ◌&&◌, ◌≡◌, not, List, [], ◌∷◌, Bool, true, false, Option, Some, None, if◌then◌else◌}
use Rattle.vm_model.specs.declared.event.Event.{Event}
use Rattle.vm_model.specs.declared.event.Event.TheVariants as event
use Rattle.vm_model.specs.declared.message.Channel.TheVariants.{Up, Down}
use Rattle.vm_model.specs.declared.message.Message.TheVariants as message
use Rattle.vm_model.specs.Controls.{is_control, live_control}
use Rattle.vm_legal.specs.Accesses.{is_ready}
use Rattle.vm_legal.specs.Steps.{changes, since}

-- The flag of the control of an object that lives on the host: its first ready sets it, and so does each change of attributes; a control begins without it.
abbrev pub is_cached : ℕ → ℕ → List Event → Bool
is_cached h o [] = false
is_cached h o (event.Sent (Up host object) (message.Init control size) ∷ past) = if host.0 == h && object.0 == o then false else is_cached h o past
is_cached h o (event.Sent (Up host object) (message.Create control size) ∷ past) = if host.0 == h && object.0 == o then false else is_cached h o past
is_cached h o (event.Sent (Up host object) (message.Terminate control) ∷ past) = if host.0 == h && object.0 == o then false else is_cached h o past
is_cached h o (event.Taken (Down host object control) (message.Ready cache strategy) ∷ past) =
    if host.0 == h && (object.0 == o && (is_control control (live_control h o past) && not (is_ready h o past))) then cache else is_cached h o past
is_cached h o (event.Taken (Down host object control) (message.Attributes cache strategy reply) ∷ past) =
    if host.0 == h && (object.0 == o && is_control control (live_control h o past)) then cache else is_cached h o past
is_cached h o (e ∷ past) = is_cached h o past

-- a change_attributes to a control
pub record Attributes : Type 0 where
  pub host : ℕ
  pub object : ℕ
  pub control : ℕ
  pub cache : Bool
  pub strategy : ℕ
  pub reply : Bool

-- what the present step took, if that was a change_attributes, of a control that lived
abbrev pub attributes_taken : List Event → Option Attributes
attributes_taken [] = None
attributes_taken (event.Line line ∷ past) = None
attributes_taken (event.Taken (Down host object control) (message.Attributes cache strategy reply) ∷ past) =
    if is_control control (live_control host.0 object.0 past)
    then Some (record { host = host.0; object = object.0; control = control; cache = cache; strategy = strategy; reply = reply })
    else None
attributes_taken (event.Taken channel other ∷ past) = None
attributes_taken (e ∷ past) = attributes_taken past

-- a change_attributes that wants a reply is done, and the host says so once
pub record Changes (host control object : ℕ) (cache : Bool) (strategy : ℕ) (past : List Event) : Type 0 where
  pub live : live_control host object past ≡ Some control
  pub taken : attributes_taken past ≡ Some (record { host = host; object = object; control = control; cache = cache; strategy = strategy; reply = true })
  pub once : since (changes host object) past ≡ false
