-- What is awaited is on its way.
use Rattle.std.specs.Prelude.{ℕ, ◌≡◌, ◌⊎◌, ◌==◌, ◌&&◌, Any, Bool, true, false, List, Some}
use Rattle.vm_model.specs.declared.event.Event.{Event}
use Rattle.vm_model.specs.declared.message.Channel.{Channel}
use Rattle.vm_model.specs.declared.message.Message.{Message}
use Rattle.vm_model.specs.declared.message.Message.TheVariants as message
use Rattle.vm_model.specs.declared.script.Header.{Header}
use Rattle.vm_model.specs.Channels.{queue, up_port, down_port}
use Rattle.vm_model.specs.Controls.{live_control}
use Rattle.vm_legal.specs.Accesses.{is_ready}
use Rattle.vm_legal.specs.Licences.{is_paged}
use Rattle.vm_legal.specs.Outside.{is_wild}
use Rattle.vm_legal.specs.Steps.{is_answer, is_ready_message as says_ready}
use Rattle.vm_legal.specs.Walks.{page_on}

-- the request of a control for a page
abbrev pub is_request : ℕ → ℕ → Message → Bool
is_request k p (message.Request control page access) = control == k && page.0 == p
is_request k p other = false

-- the message up that tells the pager of a control
abbrev pub opens : ℕ → Message → Bool
opens k (message.Init control size) = control == k
opens k (message.Create control size) = control == k
opens k other = false

-- some message that was sent on the channel, and not taken, is such
abbrev pub IsUndelivered : (Message → Bool) → Channel → List Event → Type 0
IsUndelivered such channel history = Any (λ m. such m ≡ true) (queue channel history)

-- whom the pagers of temporary memory and of files are asked by has a message on its way, and so has each control that waits for its pager
pub record IsCarried (header : Header) (history : List Event) : Type 0 where
  -- of each page of temporary memory or of a file that is asked the request of the live control is undelivered, or an answer to it
  pub asked : (host object page : ℕ) → is_paged header object ≡ true → (page_on header host object page history).asked ≡ true
      → (control : ℕ) × (live_control host object history ≡ Some control)
      × (IsUndelivered (is_request control page) (up_port host object) history ⊎ IsUndelivered (is_answer page) (down_port host object control) history)
  -- of each live control that isn't ready, but for wild objects', its init or create is undelivered, or a ready
  pub opening : (host object control : ℕ) → is_wild header object ≡ false → live_control host object history ≡ Some control
      → is_ready host object history ≡ false
      → IsUndelivered (opens control) (up_port host object) history ⊎ IsUndelivered says_ready (down_port host object control) history
