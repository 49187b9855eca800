-- A kernel's event is of its host, whosever it is.
use Rattle.vm_kernel.proofs.Common.{Bool, CreatesHere, Event, Header, IsMine, IsOnlyOfHost, IsShut, List, None, Option, Some, ap, arith, false, host_of, is_on}
use Rattle.vm_kernel.proofs.Common.{is_some, lives_on, nat_tests, one_home, sym, true, ℕ, ◌==◌, ◌||◌, ◌∙◌, ◌≡◌}
use Rattle.vm_kernel.proofs.abroad.OwnHost.{own_host}

-- it names the host
pub own_named : (h g : ℕ) → (h == g) ≡ true → g ≡ h
own_named h g is = grind (arith, nat_tests)

-- it is of a task that lives there
pub own_task : (h task : ℕ) (past : List Event) → lives_on h task past ≡ true → (g : ℕ) → lives_on g task past ≡ true → g ≡ h
own_task h task past lives g is = one_home g h task past is lives

pub own_lives : (h task : ℕ) (past : List Event) → host_of task past ≡ Some h → (g : ℕ) → lives_on g task past ≡ true → g ≡ h
own_lives h task past lives = own_task h task past (ap (is_on h) lives ∙ own_host h)

-- it makes a task there, and none with that number lives
pub own_new : (h task : ℕ) (past : List Event) → is_some (host_of task past) ≡ false → (g : ℕ) → ((h == g) || lives_on g task past) ≡ true → g ≡ h
own_new h task past free g is = own_named h g (either (h == g) (host_of task past) free is)
  where
    either : (b : Bool) (host : Option ℕ) → is_some host ≡ false → (b || is_on g host) ≡ true → b ≡ true
    either true host none is = is
    either false None none is = is
    either false (Some other) none is = absurd (let bad : true ≡ false = none in cc)

-- where no region waits for its entry, none needs to stand next
pub mine_of : (header : Header) (h : ℕ) (e : Event) (past : List Event) → IsShut past → IsOnlyOfHost header h e past → CreatesHere header h e past
    → IsMine header h e past
mine_of header h e past shut own creates =
    record { enters = λ region is. absurd (let bad : false ≡ true = sym (shut region) ∙ is in cc); own = own; creates = creates }
