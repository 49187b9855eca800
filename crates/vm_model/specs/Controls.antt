-- The controls of an object on a host: the one that began last, and the one that lives.
use Rattle.std.specs.Prelude.{ℕ, ◌==◌, ◌&&◌, List, [], ◌∷◌, Bool, false, Option, Some, None, if◌then◌else◌}
use Rattle.vm_model.specs.declared.message.Channel.TheVariants.{Up}
use Rattle.vm_model.specs.declared.message.Message.TheVariants as message
use Rattle.vm_model.specs.declared.event.Event.{Event}
use Rattle.vm_model.specs.declared.event.Event.TheVariants as event

-- the control that host h began last for object o
abbrev pub control_after : ℕ → ℕ → Event → ℕ → ℕ
control_after h o (event.Sent (Up host object) (message.Init control size)) last =
    if host.0 == h && object.0 == o then control else last
control_after h o (event.Sent (Up host object) (message.Create control size)) last =
    if host.0 == h && object.0 == o then control else last
control_after h o e last = last

abbrev pub last_control : ℕ → ℕ → List Event → ℕ
last_control h o [] = 0
last_control h o (e ∷ past) = control_after h o e (last_control h o past)

-- it is the control with this number
abbrev pub is_control : ℕ → Option ℕ → Bool
is_control control None = false
is_control control (Some number) = number == control

-- the control with this number ends
abbrev pub without_control : ℕ → Option ℕ → Option ℕ
without_control control None = None
without_control control (Some number) = if number == control then None else Some number

abbrev pub live_after : ℕ → ℕ → Event → Option ℕ → Option ℕ
live_after h o (event.Sent (Up host object) (message.Init control size)) live =
    if host.0 == h && object.0 == o then Some control else live
live_after h o (event.Sent (Up host object) (message.Create control size)) live =
    if host.0 == h && object.0 == o then Some control else live
live_after h o (event.Sent (Up host object) (message.Terminate control)) live =
    if host.0 == h && object.0 == o then without_control control live else live
live_after h o e live = live

-- the control of object o that lives on host h: from its init or create until its terminate is sent
abbrev pub live_control : ℕ → ℕ → List Event → Option ℕ
live_control h o [] = None
live_control h o (e ∷ past) = live_after h o e (live_control h o past)
