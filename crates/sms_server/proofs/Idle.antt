-- A page that the end of a host's control leaves as it is.
use Rattle.std.proofs.Common.{ℕ, zero, suc, ◌≡◌, ◌<◌, ◌==◌, Bool, true, false, if◌then◌else◌, List, [], ◌∷◌, length, refl, sym, ◌∙◌, ap, arith}
use Rattle.std.proofs.lemmas.Bool.{false≢true}
use Rattle.std.proofs.lemmas.Bool.Decides.{nat_tests}
use Rattle.std.specs.Prelude.{◌&&◌, slice_index, slice_set}
use Rattle.sms_pages.specs.Directory.{Directory, IsSame, is_idle, most_replies}
use Rattle.vm_model.specs.Server.{Wanting}
use Rattle.vm_model.specs.Words.{Ending}
use Rattle.vm_model.specs.declared.message.Message.{Message}
use Rattle.vm_model.specs.declared.message.Message.TheVariants as message
use Rattle.sms_server.specs.Answers.{DirectoryAfter, IsEnd, RowAfter, replies_to, row_events}
use Rattle.sms_server.specs.Kept.{IsReadyToEnd, end_replies, is_quiet}
use Rattle.sms_server.specs.declared.page_row.PageRow.{PageRow}

set_zero : (xs : List ℕ) (h : ℕ) → slice_index xs h ≡ 0 → slice_set xs h 0 ≡ xs
set_zero [] zero is = refl
set_zero [] (suc h) is = refl
set_zero (x ∷ xs) zero is = ap (λ n. n ∷ xs) (sym is)
set_zero (x ∷ xs) (suc h) is = ap (λ l. x ∷ l) (set_zero xs h is)

no_length : (ws : List Wanting) → (length ws == 0) ≡ true → ws ≡ []
no_length [] is = refl
no_length (w ∷ ws) is = absurd (let n : length (w ∷ ws) ≡ 0 = grind (arith, nat_tests, is) in omega (arith, n))

-- what an idle directory is
record Idle (h : ℕ) (d : Directory) : Type 0 where
  line : d.line ≡ []
  holds : slice_set d.holds h 0 ≡ d.holds
  awaits : slice_set d.awaits h 0 ≡ d.awaits

both : (a b : Bool) → (a && b) ≡ true → (a ≡ true) × (b ≡ true)
both true true is = (refl, refl)
both true false is = absurd (false≢true is)
both false b is = absurd (false≢true is)

idle_read : (h : ℕ) (d : Directory) → is_idle h d ≡ true → Idle h d
idle_read h d is =
    let two = both (length d.line == 0 && slice_index d.holds h == 0) (slice_index d.awaits h == 0) is in
    let one = both (length d.line == 0) (slice_index d.holds h == 0) two.0 in
    record {
      line = no_length d.line one.0;
      holds = set_zero d.holds h (grind (arith, nat_tests, one.1));
      awaits = set_zero d.awaits h (grind (arith, nat_tests, two.1));
    }

idle_replies : (h control : ℕ) (d : Directory) → is_idle h d ≡ true → replies_to h (Ending control) d ≡ []
idle_replies h control d is = let idle = idle_read h d is in rw idle.line refl

idle_after : (h control : ℕ) (d : Directory) → is_idle h d ≡ true → DirectoryAfter h (Ending control) d d
idle_after h control d is =
    let idle = idle_read h d is in
    record { exact = rw (idle.line, idle.holds, idle.awaits) refl; bytes = refl }

pub idle_row : (h : ℕ) (m : Message) (x : PageRow) → IsEnd m → is_idle h x.directory ≡ true → RowAfter h m x x
idle_row h (message.Terminate control) x end is = record { key = refl; directory = idle_after h control x.directory is; heard = refl }
idle_row h m x end is = absurd end

pub idle_events : (h : ℕ) (m : Message) (x : PageRow) → IsEnd m → is_idle h x.directory ≡ true → row_events h m x ≡ []
idle_events h (message.Terminate control) x end is = rw (idle_replies h control x.directory is) refl
idle_events h m x end is = absurd end

-- a page without the mark of a host is idle
pub quiet_host : (h : ℕ) (d : Directory) → h < 8 → is_quiet h d ≡ true → is_idle h d ≡ true
quiet_host h d low is =
    let one : (h == 9) ≡ false = grind (arith, nat_tests) in
    let two : (h == 8) ≡ false = grind (arith, nat_tests) in
    rw (one, two) at is

pub host_quiet : (h : ℕ) (d : Directory) → h < 8 → is_idle h d ≡ true → is_quiet h d ≡ true
host_quiet h d low is =
    let one : (h == 9) ≡ false = grind (arith, nat_tests) in
    let two : (h == 8) ≡ false = grind (arith, nat_tests) in
    rw (one, two) is

pub no_end_replies : (h : ℕ) (x : PageRow) → h < 8 → is_quiet h x.directory ≡ true → end_replies h x ≡ 0
no_end_replies h x low is = rw (quiet_host h x.directory low is) refl

pub idle_ready : (h : ℕ) (x : PageRow) → h < 8 → is_quiet h x.directory ≡ true → IsReadyToEnd h x
idle_ready h x low is busy = absurd (false≢true (sym busy ∙ quiet_host h x.directory low is))

-- and a page at which there are none is idle
pub no_replies_idle : (h : ℕ) (x : PageRow) → end_replies h x ≡ 0 → is_idle h x.directory ≡ true
no_replies_idle h x none = by (is_idle h x.directory) none
  where
    by : (b : Bool) → (if b then 0 else most_replies x.directory) ≡ 0 → b ≡ true
    by true n = refl
    by false n = absurd (omega arith)

-- a directory that is the same but for the memory at hand is as quiet
pub same_quiet : (k : ℕ) (x y : Directory) → IsSame x y → is_quiet k y ≡ is_quiet k x
same_quiet k x y same = rw (same.line, same.holds, same.awaits) refl

-- a page for which nobody waits
pub quiet_nobody : (d : Directory) → is_quiet 8 d ≡ true → length d.line ≡ 0
quiet_nobody d is = grind (arith, nat_tests, is)

pub nobody_quiet : (d : Directory) → length d.line ≡ 0 → is_quiet 8 d ≡ true
nobody_quiet d is = grind (arith, nat_tests, is)
