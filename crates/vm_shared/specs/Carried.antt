-- What is asked of the server of shared memory is on its way to it, in its line, or answered.
use Rattle.std.specs.Prelude.{ℕ, ◌≡◌, ◌≢◌, ◌<◌, ◌⊎◌, ◌==◌, ◌&&◌, Any, Bool, true, false, List, [], Some}
use Rattle.vm_model.specs.declared.event.Event.{Event}
use Rattle.vm_model.specs.declared.message.Message.{Message}
use Rattle.vm_model.specs.declared.message.Message.TheVariants as message
use Rattle.vm_model.specs.declared.script.Header.{Header}
use Rattle.vm_model.specs.Channels.{down_port, up_port}
use Rattle.vm_model.specs.Controls.{live_control}
use Rattle.vm_model.specs.PagePart.{page_part}
use Rattle.vm_model.specs.Server.{Wanting, line}
use Rattle.vm_model.specs.Side.{side}
use Rattle.vm_model.specs.Words.{in_range}
use Rattle.vm_legal.specs.Outside.{is_shared}
use Rattle.vm_legal.specs.Steps.{is_answer}
use Rattle.vm_legal.specs.Walks.{page_on}
use Rattle.vm_coherence.specs.Carried.{requests, upgrades}
use Rattle.vm_quiet.specs.Carried.{IsUndelivered, is_request}

-- an unlock for the page
abbrev pub is_unlock : ℕ → Message → Bool
is_unlock p (message.Unlock control page access) = page.0 == p
is_unlock p other = false

-- a lock over the page
abbrev pub is_lock : ℕ → Message → Bool
is_lock p (message.Lock page count returns flush lock reply) = in_range p page.0 count
is_lock p other = false

-- a lock over the page that wants a reply
abbrev pub is_recall : ℕ → Message → Bool
is_recall p (message.Lock page count returns flush lock reply) = reply && in_range p page.0 count
is_recall p other = false

-- the control has done a lock over the page, or ends
abbrev pub is_reply : ℕ → ℕ → Message → Bool
is_reply k p (message.Completed control page count) = control == k && in_range p page.0 count
is_reply k p (message.Terminate control) = control == k
is_reply k p other = false

-- the server's line for a page of an object
abbrev pub line_of : Header → ℕ → ℕ → List Event → List Wanting
line_of header object page past = line (page_part header.size object page past)

-- somebody stands in it who is such
abbrev pub IsInLine : (Wanting → Bool) → List Wanting → Type 0
IsInLine such wanting = Any (λ w. such w ≡ true) wanting

pub record SharedAreCarried (header : Header) (history : List Event) : Type 0 where
  -- of each page of a shared object that is asked the request of the live control is undelivered or stands in the server's line, or an answer is undelivered
  pub asked : (host object page : ℕ) → is_shared header object ≡ true → (page_on header host object page history).asked ≡ true
      → (control : ℕ) × (live_control host object history ≡ Some control)
      × (IsUndelivered (is_request control page) (up_port host object) history
      ⊎ (IsInLine (requests host) (line_of header object page history) ⊎ IsUndelivered (is_answer page) (down_port host object control) history))
  -- of each that is here with an unlock outstanding that is undelivered or stands in the line as an upgrade, or a lock is undelivered
  pub unlocking : (host object page : ℕ) → is_shared header object ≡ true → (page_on header host object page history).here ≡ true
      → (page_on header host object page history).unlocking ≡ true
      → (control : ℕ) × (live_control host object history ≡ Some control)
      × (IsUndelivered (is_unlock page) (up_port host object) history
      ⊎ (IsInLine (upgrades host) (line_of header object page history) ⊎ IsUndelivered (is_lock page) (down_port host object control) history))
  -- of each host that is awaited for a page, also where its control has ended, the lock with a reply is undelivered on the channel to the control for which it
  -- is awaited, or that this control has done it, or its end
  pub awaited : (host object page : ℕ) → is_shared header object ≡ true → 0 < (side host (page_part header.size object page history)).awaits
      → IsUndelivered (is_recall page) (down_port host object (side host (page_part header.size object page history)).awaited_control) history
      ⊎ IsUndelivered (is_reply (side host (page_part header.size object page history)).awaited_control page) (up_port host object) history
  -- where anybody stands in line, a lock with a reply is undelivered, or that a control has done it, or its end
  pub standing : (object page : ℕ) → is_shared header object ≡ true → line_of header object page history ≢ []
      → (host : ℕ) × (control : ℕ) × (IsUndelivered (is_recall page) (down_port host object control) history
      ⊎ IsUndelivered (is_reply control page) (up_port host object) history)
