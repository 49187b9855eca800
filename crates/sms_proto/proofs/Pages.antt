-- Eight bytes at the front of a page, and the one access that waits.
use Rattle.std.proofs.Common.{◌≡◌, ◌≤◌, ℕ, arith, Some, List, [], ◌∷◌, length, length-append, length-drop}
use Rattle.std.proofs.lemmas.Bool.Decides.{nat_tests}
use Rattle.vm_base.specs.Pages.{IsPageSize, with_bytes, little_endian_bytes}
use Rattle.vm_model.specs.Waiters.{Waiter, waiter_of}

pub one_waits : (task : ℕ) (w : Waiter) → w.task ≡ task → waiter_of task (w ∷ []) ≡ Some w
one_waits task w is = grind (arith, nat_tests)

-- a store leaves the page's length
pub stored_whole : (value : ℕ) (bytes : List ℕ) → 8 ≤ length bytes → length (with_bytes 0 (little_endian_bytes 8 value) bytes) ≡ length bytes
stored_whole value bytes le = grind (arith, length-append, length-drop)

pub load_within : (size : ℕ) → IsPageSize size → 8 ≤ size
load_within size page = grind arith
