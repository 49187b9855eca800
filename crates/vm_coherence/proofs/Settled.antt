-- A host that has saved all after an act had saved all before it.
use Rattle.std.proofs.Common.{◌≡◌, ℕ, List, arith, Bool, true, false, Some, if◌then◌else◌}
use Rattle.std.proofs.lemmas.Bool.Decides.{nat_tests}
use Rattle.vm_model.specs.Words.{UpWord, Asking, Unlocking, Returning, Doing, Ending, OtherUp, DownWord, Supplying, Locking, Lacking, Failing, Readying}
use Rattle.vm_model.specs.Words.{OtherDown, ActEffect, Opens, SendsUp, TakenUp, SentDown, TakesDown, Puts, Drops, Stores}
use Rattle.vm_model.specs.Side.{Side, side_sent_up, side_taken_up, is_open_to, side_sent_down, side_taken_down, side_after}
use Rattle.vm_model.specs.Waiters.{Waiter}
use Rattle.vm_model.specs.Server.{first}
use Rattle.vm_model.specs.PageLicences.{MaySend, HostMay}
use Rattle.vm_coherence.proofs.Queues.{sum_up_end, drain_up}
use Rattle.vm_coherence.proofs.Sound.{MayAnswer, Fair, Sound}
use Rattle.vm_coherence.proofs.Law.{keep}
use Rattle.vm_coherence.proofs.Orderly.{Orderly}
use Rattle.vm_coherence.proofs.Truth.{Settled, Silent}

settled_sent : (ws : List Waiter) (rs : List ℕ) (w : UpWord) (s : Side) → Settled (side_sent_up s w) → MaySend ws rs s w → Settled s
settled_sent ws rs w s is may = grind (arith, nat_tests, sum_up_end)

settled_asking : (s : Side) (asker access : ℕ) → Sound s → Orderly s → first s.up ≡ Some (Asking asker access) → Settled (side_taken_up s (Asking asker access))
    → Settled s
settled_asking s asker access ok o head is = grind (arith, nat_tests, drain_up)

settled_unlocking : (s : Side) (access : ℕ) → Sound s → Orderly s → first s.up ≡ Some (Unlocking access) → Settled (side_taken_up s (Unlocking access))
    → Settled s
settled_unlocking s access ok o head is = grind (arith, nat_tests)

settled_doing : (s : Side) (control count : ℕ) → Sound s → Orderly s → first s.up ≡ Some (Doing control count) → Settled (side_taken_up s (Doing control count))
    → Settled s
settled_doing s control count ok o head is = grind (arith, nat_tests)

settled_ending : (s : Side) (control : ℕ) → Sound s → Orderly s → first s.up ≡ Some (Ending control) → Settled (side_taken_up s (Ending control)) → Settled s
settled_ending s control ok o head is = grind (arith, nat_tests, drain_up)

settled_answer : (w : DownWord) (control : ℕ) (s : Side) → Sound s → MayAnswer s w → Settled (side_sent_down s control w) → Settled s
settled_answer (Supplying lock precious bytes) control s ok may is = λ writes. absurd (grind (arith, ok.pending_none may.1))
settled_answer (Locking count returns flush lock true) control s ok may is = settled_order count returns flush lock control s may is where
  settled_order : (count returns : ℕ) (flush : Bool) (lock control : ℕ) (s : Side) → MayAnswer s (Locking count returns flush lock true)
      → Settled (side_sent_down s control (Locking count returns flush lock true)) → Settled s
  settled_order count returns flush lock control s may is = grind (arith, nat_tests)
settled_answer (Locking count returns flush lock false) control s ok may is = λ writes. absurd (omega (arith, may.4))
settled_answer Lacking control s ok may is = absurd may
settled_answer Failing control s ok may is = absurd may
settled_answer Readying control s ok may is = is
settled_answer OtherDown control s ok may is = is

settled_supplied : (s : Side) (lock : ℕ) (precious : Bool) (bytes : List ℕ) → Sound s → Settled (side_taken_down s (Supplying lock precious bytes)) → Settled s
settled_supplied s lock precious bytes ok is = grind (arith, nat_tests)

settled_locked : (s : Side) (count returns lock : ℕ) (flush reply : Bool) → Sound s → Settled (side_taken_down s (Locking count returns flush lock reply))
    → Settled s
settled_locked s count returns lock flush reply ok is = grind (arith, nat_tests)

settled_hears : (w : DownWord) (s : Side) → Sound s → Settled (side_taken_down s w) → Settled s
settled_hears (Supplying lock precious bytes) s ok is = settled_supplied s lock precious bytes ok is
settled_hears (Locking count returns flush lock reply) s ok is = settled_locked s count returns lock flush reply ok is
settled_hears w s ok is = is

settled_takes : (w : DownWord) (s : Side) (b : Bool) → Sound s → Settled (if b then side_taken_down s w else record s { step = 0 }) → Settled s
settled_takes w s true ok is = settled_hears w s ok is
settled_takes w s false ok is = is

settled_drops : (s : Side) → s.dirty ≡ false → Settled (record s { right = 0 }) → Settled s
settled_drops s clean is = grind (arith, nat_tests)

settled_send : (ws : List Waiter) (rs : List ℕ) (w : UpWord) (control : ℕ) (s : Side) → HostMay ws rs s (SendsUp control w) → Settled (side_sent_up s w)
    → Settled s
settled_send ws rs OtherUp control s may is = is
settled_send ws rs w control s may is = settled_sent ws rs w s is may.2

pub settled_own : (e : ActEffect) (ws : List Waiter) (rs : List ℕ) (s : Side) → Sound s → Orderly s → Fair ws rs s e → Silent e → Settled (side_after s e)
    → Settled s
settled_own (Opens control ready) ws rs s ok o may silent is = is
settled_own (SendsUp control w) ws rs s ok o may silent is = settled_send ws rs w control s may is
settled_own (TakenUp (Asking asker access)) ws rs s ok o may silent is = settled_asking s asker access ok o may is
settled_own (TakenUp (Unlocking access)) ws rs s ok o may silent is = settled_unlocking s access ok o may is
settled_own (TakenUp (Returning dirty keep bytes)) ws rs s ok o may silent is = absurd silent
settled_own (TakenUp (Doing control count)) ws rs s ok o may silent is = settled_doing s control count ok o may is
settled_own (TakenUp (Ending control)) ws rs s ok o may silent is = settled_ending s control ok o may is
settled_own (TakenUp OtherUp) ws rs s ok o may silent is = is
settled_own (SentDown control w) ws rs s ok o may silent is = settled_answer w control s ok may is
settled_own (TakesDown control w) ws rs s ok o may silent is = settled_takes w s (is_open_to s control) ok is
settled_own (Puts bytes dirty) ws rs s ok o may silent is = absurd may
settled_own Drops ws rs s ok o may silent is = settled_drops s may.1 is
settled_own (Stores task at size value) ws rs s ok o may silent is = absurd silent
settled_own e ws rs s ok o may silent is = is
