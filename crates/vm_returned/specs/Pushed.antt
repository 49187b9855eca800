-- Which pages of a copy of a file its pager speaks of.
use Rattle.std.specs.Prelude.{ℕ, ◌≡◌, true, List}
use Rattle.vm_model.specs.declared.event.Event.{Event}
use Rattle.vm_model.specs.declared.event.Event.TheVariants as event
use Rattle.vm_model.specs.declared.message.Channel.TheVariants.{Down}
use Rattle.vm_model.specs.declared.message.Message.{Message}
use Rattle.vm_model.specs.declared.message.Message.TheVariants as message
use Rattle.vm_model.specs.Regions.{is_copy}
use Rattle.vm_legal.specs.Pushes.{is_pushed}

-- of a copy of a file its pager gives the host, or can't give, a page that the host had copied up into it
abbrev pub OfPushed : ℕ → ℕ → Message → List Event → Type 0
OfPushed h object (message.Supply page lock precious bytes) past = is_copy object past ≡ true → is_pushed h object page.0 past ≡ true
OfPushed h object (message.Error page reason) past = is_copy object past ≡ true → is_pushed h object page.0 past ≡ true
OfPushed h object other past = Unit {0}

-- so it is with what a host takes
abbrev pub TakesPushed : Event → List Event → Type 0
TakesPushed (event.Taken (Down host object control) m) past = OfPushed host.0 object.0 m past
TakesPushed other past = Unit {0}
