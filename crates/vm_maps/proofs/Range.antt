-- What the test of a range tells.
use Rattle.std.proofs.Common.{ℕ, ◌≡◌, ◌+◌, ◌%◌, ◌<◌, ◌≤◌, ◌^◌, true, arith}
use Rattle.std.proofs.lemmas.Bool.Decides.{nat_tests}
use Rattle.vm_base.specs.Entries.{is_range}

pub record IsRange (size address bytes : ℕ) : Type 0 where
  pub start : address % size ≡ 0
  pub whole : bytes % size ≡ 0
  pub some : 0 < bytes
  pub end : address + bytes ≤ 2 ^ 32

pub range_is : (size address bytes : ℕ) → is_range size address bytes ≡ true → IsRange size address bytes
range_is size address bytes test = record {
  start = grind (arith, nat_tests);
  whole = grind (arith, nat_tests);
  some = grind (arith, nat_tests);
  end = grind (arith, nat_tests);
}
