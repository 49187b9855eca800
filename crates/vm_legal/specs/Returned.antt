-- Pages that went to their pagers and came back.
use Rattle.std.specs.Prelude.{ℕ, ◌≡◌, ◌≤◌, ◌<◌, ◌==◌, ◌&&◌, ◌||◌, Bool, true, false, List, [], ◌∷◌}
use Rattle.vm_model.specs.declared.event.Event.{Event}
use Rattle.vm_model.specs.declared.event.Event.TheVariants as event
use Rattle.vm_model.specs.declared.message.Channel.TheVariants.{Down, Up}
use Rattle.vm_model.specs.declared.message.Message.TheVariants as message
use Rattle.vm_model.specs.declared.script.Header.{Header}
use Rattle.vm_model.specs.Controls.{last_control}
use Rattle.vm_model.specs.Named.{named}
use Rattle.vm_legal.specs.Outside.{is_file}

-- the host has returned the page to its pager
abbrev pub was_returned : ℕ → ℕ → ℕ → List Event → Bool
was_returned h o p [] = false
was_returned h o p (event.Sent (Up host object) (message.Return control page dirty keep bytes) ∷ past) =
    (host.0 == h && (object.0 == o && page.0 == p)) || was_returned h o p past
was_returned h o p (e ∷ past) = was_returned h o p past

-- The pagers of temporary memory give the host only what it had returned, and lock nothing; nor do those of files lock anything. Controls are numbered from
-- one, and a page is returned to a control. Only temporary objects are merged into others.
abbrev pub OnlyReturned : Header → ℕ → List Event → Type 0
OnlyReturned header h [] = Unit {0}
OnlyReturned header h (event.Taken (Down host object control) (message.Supply page lock precious bytes) ∷ past) =
    (host.0 ≡ h → named header ≤ object.0 → (lock ≡ 0) × (was_returned h object.0 page.0 past ≡ true))
    × (host.0 ≡ h → is_file header object.0 ≡ true → lock ≡ 0) × OnlyReturned header h past
OnlyReturned header h (event.Taken (Down host object control) (message.Lock page count returns flush lock reply) ∷ past) =
    (host.0 ≡ h → object.0 < named header) × (host.0 ≡ h → is_file header object.0 ≡ true → lock ≡ 8) × OnlyReturned header h past
OnlyReturned header h (event.Sent (Up host object) (message.Init control size) ∷ past) = (host.0 ≡ h → 0 < control) × OnlyReturned header h past
OnlyReturned header h (event.Sent (Up host object) (message.Create control size) ∷ past) = (host.0 ≡ h → 0 < control) × OnlyReturned header h past
OnlyReturned header h (event.Sent (Up host object) (message.Return control page dirty keep bytes) ∷ past) =
    (host.0 ≡ h → 0 < last_control h object.0 past) × OnlyReturned header h past
OnlyReturned header h (event.Merged upper lower ∷ past) = (named header ≤ lower.0) × OnlyReturned header h past
OnlyReturned header h (e ∷ past) = OnlyReturned header h past
