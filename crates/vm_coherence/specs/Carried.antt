-- Whom a host waits for, and who waits for a host: what is awaited is on its way, or with the server.
use Rattle.std.specs.Prelude.{ℕ, ◌≡◌, ◌⊎◌, ◌<◌, ◌==◌, ◌&&◌, not, Bool, true, false, List}
use Rattle.std.specs.List.{list_any}
use Rattle.vm_model.specs.Words.{UpWord, Asking, Unlocking, Doing, Ending, DownWord, Supplying, Locking, Act}
use Rattle.vm_model.specs.Side.{side}
use Rattle.vm_model.specs.Server.{Wanting, line}

-- a request of this control
abbrev pub asks_as : ℕ → UpWord → Bool
asks_as k (Asking control access) = control == k
asks_as k other = false

abbrev pub unlocks : UpWord → Bool
unlocks (Unlocking access) = true
unlocks other = false

-- a lock of this control is done
abbrev pub does_as : ℕ → UpWord → Bool
does_as k (Doing control count) = control == k
does_as k other = false

-- this control ends
abbrev pub ends_as : ℕ → UpWord → Bool
ends_as k (Ending control) = control == k
ends_as k other = false

abbrev pub supplies : DownWord → Bool
supplies (Supplying lock precious bytes) = true
supplies other = false

abbrev pub locks : DownWord → Bool
locks (Locking count returns flush lock reply) = true
locks other = false

-- a lock that wants a reply
abbrev pub recalls : DownWord → Bool
recalls (Locking count returns flush lock reply) = reply
recalls other = false

-- a request of the host stands in the server's line
abbrev pub requests : ℕ → Wanting → Bool
requests h w = w.host == h && not w.upgrade

-- an upgrade of the host does
abbrev pub upgrades : ℕ → Wanting → Bool
upgrades h w = w.host == h && w.upgrade

pub record IsCarriedAt (h : ℕ) (past : List Act) : Type 0 where
  -- where the page is asked, the live control's request is on its way or in the server's line, or a supply is on its way
  pub asked : (side h past).asked ≡ true
      → (list_any (asks_as (side h past).control) (side h past).up ≡ true)
      ⊎ ((list_any (requests h) (line past) ≡ true) ⊎ (list_any supplies (side h past).down ≡ true))
  -- where the page is here and an unlock is outstanding, it is on its way or in the line as an upgrade, or a lock is on its way
  pub unlocking : (side h past).unlocking ≡ true → 0 < (side h past).right
      → (list_any unlocks (side h past).up ≡ true) ⊎ ((list_any (upgrades h) (line past) ≡ true) ⊎ (list_any locks (side h past).down ≡ true))
  -- where the host is awaited, the lock is on its way to it or being done, or that it is done, or the end of the control, on its way back
  pub awaited : 0 < (side h past).awaits
      → (list_any recalls (side h past).down ≡ true) ⊎ ((0 < (side h past).step)
      ⊎ ((list_any (does_as (side h past).awaited_control) (side h past).up ≡ true)
      ⊎ (list_any (ends_as (side h past).awaited_control) (side h past).up ≡ true)))
  -- only a live control asks and has pages, and it is the live one for which the host is awaited while the lock is on its way
  pub living : (side h past).asked ≡ true → (side h past).live ≡ true
  pub having : 0 < (side h past).right → (side h past).live ≡ true
  pub reached : list_any recalls (side h past).down ≡ true → ((side h past).live ≡ true) × ((side h past).awaited_control ≡ (side h past).control)
