-- Why a page is reclaimed.
use Rattle.std.specs.Prelude.{ℕ, ◌<◌, ◌≡◌, ◌⊎◌, List, [], ◌∷◌}
use Rattle.vm_model.specs.declared.event.Event.{Event}
use Rattle.vm_model.specs.declared.event.Event.TheVariants as event
use Rattle.vm_model.specs.declared.command.Command.{Command}
use Rattle.vm_model.specs.declared.command.Command.TheVariants as command
use Rattle.vm_model.specs.declared.message.Channel.TheVariants.{Up}
use Rattle.vm_model.specs.declared.message.Message.TheVariants as message
use Rattle.vm_model.specs.declared.script.Header.{Header}
use Rattle.vm_legal.specs.Accesses.{Wants, WaitsUnlocked}
use Rattle.vm_legal.specs.Frames.{frames_free, returns_out}
use Rattle.vm_legal.specs.Steps.{departures}

-- the event takes a page from the host, or makes the control for its return
abbrev pub IsReclaim : ℕ → Event → Type 0
IsReclaim host (event.Dropped at object page) = at.0 ≡ host
IsReclaim host (event.Sent (Up at object) (message.Create control size)) = at.0 ≡ host
IsReclaim host (event.Sent (Up at object) (message.Return control page dirty keep bytes)) = at.0 ≡ host
IsReclaim host other = ⊥

-- behind the line of the present command nothing but reclaims of the host stands yet
abbrev pub ReclaimsOnly : ℕ → List Event → Type 0
ReclaimsOnly host [] = ⊥
ReclaimsOnly host (event.Line line ∷ past) = Unit {0}
ReclaimsOnly host (e ∷ past) = IsReclaim host e × ReclaimsOnly host past

-- a pageout reclaims so many pages of its host, before anything else is done
abbrev pub PagesOut : Command → ℕ → List Event → Type 0
PagesOut (command.Pageout at count) host past = (at.0 ≡ host) × (departures host past < count) × ReclaimsOnly host past
PagesOut other host past = ⊥

-- somebody on the host wants a frame, none is free, and none is on its way back
pub record Starves (header : Header) (host : ℕ) (past : List Event) : Type 0 where
  pub none : frames_free header host past ≡ 0
  pub waited : returns_out host past ≡ 0
  pub wants : Wants header host past

-- a page of a host is reclaimed in the step of a command
pub record Reclaims (header : Header) (why : Command) (host object page : ℕ) (past : List Event) : Type 0 where
  -- no access waits for it
  pub spared : WaitsUnlocked header host object page past → ⊥
  pub may : PagesOut why host past ⊎ Starves header host past
