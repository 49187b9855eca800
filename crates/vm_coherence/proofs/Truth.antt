-- The page's bytes are the same wherever they can be read.
use Rattle.std.proofs.Common.{◌≡◌, ℕ, ◌<◌, ◌≤◌, ◌∙◌, subst, List, [], ◌∷◌, ◌++◌, arith, Bool, true, false, Option, Some, None, if◌then◌else◌, refl, ap}
use Rattle.std.proofs.lemmas.Bool.Decides.{nat_tests}
use Rattle.vm_base.specs.Pages.{little_endian_bytes, with_bytes}
use Rattle.vm_model.specs.Words.{UpWord, Asking, Unlocking, Returning, Doing, Ending, OtherUp, DownWord, Supplying, Locking, Lacking, Failing, Readying}
use Rattle.vm_model.specs.Words.{OtherDown, ActEffect, Opens, SendsUp, TakenUp, SentDown, TakesDown, Puts, Drops, Begins, Loads, Stores, Fails, BeginsCopy}
use Rattle.vm_model.specs.Words.{Copies, EndsCopy, StepBegins, Nothing, to_others}
use Rattle.vm_model.specs.Side.{Side, has_alone, side_sent_up, side_taken_up, is_open_to, put_down, side_sent_down, locked, supplied, side_taken_down}
use Rattle.vm_model.specs.Side.{side_after}
use Rattle.vm_model.specs.Waiters.{Waiter, waiter_of}
use Rattle.vm_model.specs.Server.{first, current_after}
use Rattle.vm_model.specs.PageLicences.{MaySend, MayStore, HostMay}
use Rattle.vm_model.specs.Coherence.{SaysDown, CarryDown, Carries}
use Rattle.vm_coherence.proofs.Queues.{sum_up, saves, supplies, sum_down, drain, drain_up, carry_up_end, carry_down_end, carry_up_rest, carry_down_rest}
use Rattle.vm_coherence.proofs.Queues.{carry_up_none, carry_down_none, drain_supplies}
use Rattle.vm_coherence.proofs.Sound.{Fair, Sound}
use Rattle.vm_coherence.proofs.Law.{keep, writes}
use Rattle.vm_coherence.proofs.Orderly.{Orderly}

carry_put : (page : List ℕ) (s : Side) (control : ℕ) (w : DownWord) → CarryDown page s.down → SaysDown page w → CarryDown page (put_down s control w)
carry_put page s control w c says =
    elim (is_open_to s control) as (λ b. CarryDown page (if b then s.down ++ w ∷ [] else s.down)) [ true ↦ carry_down_end page s.down w c says | false ↦ c ]

carry_sent : (ws : List Waiter) (rs : List ℕ) (w : UpWord) (page : List ℕ) (s : Side) → MaySend ws rs s w → Carries page s → Carries page (side_sent_up s w)
carry_sent ws rs (Asking asker access) page s may c =
    record { here = c.here; coming = c.coming; going = carry_up_end page s.up (Asking asker access) c.going tt }
carry_sent ws rs (Unlocking access) page s may c = record { here = c.here; coming = c.coming; going = carry_up_end page s.up (Unlocking access) c.going tt }
carry_sent ws rs (Returning dirty keep bytes) page s may c =
    record {
      here = λ some. c.here may.0;
      coming = c.coming;
      going = carry_up_end page s.up (Returning dirty keep bytes) c.going (may.3 ∙ c.here may.0);
    }
carry_sent ws rs (Doing control count) page s may c =
    record { here = c.here; coming = c.coming; going = carry_up_end page s.up (Doing control count) c.going tt }
carry_sent ws rs (Ending control) page s may c = record { here = c.here; coming = tt; going = carry_up_end page s.up (Ending control) c.going tt }
carry_sent ws rs OtherUp page s may c = c

carry_taken : (w : UpWord) (page : List ℕ) (s : Side) → Carries page s → Carries page (side_taken_up s w)
carry_taken (Asking asker access) page s c = record { here = c.here; coming = c.coming; going = carry_up_rest page s.up c.going }
carry_taken (Unlocking access) page s c = record { here = c.here; coming = c.coming; going = carry_up_rest page s.up c.going }
carry_taken (Returning dirty keep bytes) page s c = record { here = c.here; coming = c.coming; going = carry_up_rest page s.up c.going }
carry_taken (Doing control count) page s c = record { here = c.here; coming = c.coming; going = carry_up_rest page s.up c.going }
carry_taken (Ending control) page s c = record { here = c.here; coming = c.coming; going = carry_up_rest page s.up c.going }
carry_taken OtherUp page s c = record { here = c.here; coming = c.coming; going = c.going }

carry_answer : (w : DownWord) (control : ℕ) (page : List ℕ) (s : Side) → SaysDown page w → Carries page s → Carries page (side_sent_down s control w)
carry_answer (Supplying lock precious bytes) control page s says c =
    record { here = c.here; coming = carry_put page s control (Supplying lock precious bytes) c.coming says; going = c.going }
carry_answer (Locking count returns flush lock reply) control page s says c =
    record { here = c.here; coming = carry_put page s control (Locking count returns flush lock reply) c.coming tt; going = c.going }
carry_answer Lacking control page s says c = record { here = c.here; coming = carry_put page s control Lacking c.coming tt; going = c.going }
carry_answer Failing control page s says c = record { here = c.here; coming = carry_put page s control Failing c.coming tt; going = c.going }
carry_answer Readying control page s says c = c
carry_answer OtherDown control page s says c = c

supply_here : (page : List ℕ) (s : Side) (lock : ℕ) (bytes : List ℕ) → Sound s → bytes ≡ page → (0 < s.right → s.bytes ≡ page)
    → 0 < supplied s.right s.asked lock → (if s.asked then bytes else s.bytes) ≡ page
supply_here page s lock bytes ok is here some = grind arith

first_says : (page : List ℕ) (q : List DownWord) (w : DownWord) → first q ≡ Some w → CarryDown page q → SaysDown page w
first_says page [] w is c = absurd (cc)
first_says page (v ∷ q) w is c = let e : v ≡ w = cc in subst (λ (u : DownWord). SaysDown page u) e c.0

locked_here : (right lock : ℕ) (flush : Bool) → 0 < locked right flush lock → 0 < right
locked_here right lock flush some = grind (arith, nat_tests)

carry_hears : (w : DownWord) (page : List ℕ) (s : Side) → Sound s → first s.down ≡ Some w → Carries page s → Carries page (side_taken_down s w)
carry_hears (Supplying lock precious bytes) page s ok is c =
    record {
      here = supply_here page s lock bytes ok (first_says page s.down (Supplying lock precious bytes) is c.coming) c.here;
      coming = carry_down_rest page s.down c.coming;
      going = c.going;
    }
carry_hears (Locking count returns flush lock reply) page s ok is c =
    record { here = λ some. c.here (locked_here s.right lock flush some); coming = carry_down_rest page s.down c.coming; going = c.going }
carry_hears Lacking page s ok is c = record { here = c.here; coming = carry_down_rest page s.down c.coming; going = c.going }
carry_hears Failing page s ok is c = record { here = c.here; coming = carry_down_rest page s.down c.coming; going = c.going }
carry_hears Readying page s ok is c = record { here = c.here; coming = c.coming; going = c.going }
carry_hears OtherDown page s ok is c = record { here = c.here; coming = c.coming; going = c.going }

carry_step : (page : List ℕ) (s : Side) → Carries page s → Carries page (record s { step = 0 })
carry_step page s c = record { here = c.here; coming = c.coming; going = c.going }

carry_taking : (ws : List Waiter) (rs : List ℕ) (w : DownWord) (control : ℕ) (page : List ℕ) (s : Side) (b : Bool) → is_open_to s control ≡ b → Sound s
    → HostMay ws rs s (TakesDown control w) → Carries page s → Carries page (if b then side_taken_down s w else record s { step = 0 })
carry_taking ws rs w control page s false is ok may c = carry_step page s c
carry_taking ws rs OtherDown control page s true is ok may c = carry_step page s c
carry_taking ws rs Readying control page s true is ok may c = record { here = c.here; coming = c.coming; going = c.going }
carry_taking ws rs w control page s true is ok may c =
    let live : s.live ≡ true = grind (arith, nat_tests) in
    let mine : s.control ≡ control = grind (arith, nat_tests) in
    carry_hears w page s ok (may mine live) c

-- who can write has sent no return, and nothing is coming
writer_returns : (s : Side) → Sound s → Orderly s → s.right ≡ 2 → sum_up saves s.up ≡ 0
writer_returns s ok o writes = o.returns_write (let up : s.right ≤ drain s.down s.right = drain_up s.down s.right in omega (arith, ok.covered, ok.bounded))

writer_supplies : (s : Side) → Sound s → s.right ≡ 2 → sum_down supplies s.down ≡ 0
writer_supplies s ok writes = grind (arith, nat_tests)

carry_stores : (page : List ℕ) (s : Side) (task at size value : ℕ) → Sound s → Orderly s → s.right ≡ 2 → Carries page s
    → Carries (with_bytes at (little_endian_bytes size value) page) (side_after s (Stores task at size value))
carry_stores page s task at size value ok o can c =
    record {
      here = λ some. ap (with_bytes at (little_endian_bytes size value)) (c.here some);
      coming = carry_down_none (with_bytes at (little_endian_bytes size value) page) s.down (writer_supplies s ok can);
      going = carry_up_none (with_bytes at (little_endian_bytes size value) page) s.up (writer_returns s ok o can);
    }

-- what is said downwards is what the page is
abbrev pub SaysTruth : List ℕ → ActEffect → Type 0
SaysTruth page (SentDown control w) = SaysDown page w
SaysTruth page e = Unit {0}

carry_send : (ws : List Waiter) (rs : List ℕ) (w : UpWord) (control : ℕ) (page : List ℕ) (s : Side) → HostMay ws rs s (SendsUp control w) → Carries page s
    → Carries page (side_sent_up s w)
carry_send ws rs OtherUp control page s may c = c
carry_send ws rs w control page s may c = carry_sent ws rs w page s may.2 c

-- a store is of a page that the host can write
pub can_store : (o : Option Waiter) (s : Side) (at size value : ℕ) → MayStore o s at size value → s.right ≡ 2
can_store None s at size value may = absurd may
can_store (Some w) s at size value may = writes s may.1

pub carry : (e : ActEffect) (ws : List Waiter) (rs : List ℕ) (page : List ℕ) (s : Side) → Sound s → Orderly s → Fair ws rs s e → SaysTruth page e
    → Carries page s → Carries (current_after e page) (side_after s e)
carry (Opens control ready) ws rs page s ok o may says c = record { here = c.here; coming = tt; going = c.going }
carry (SendsUp control w) ws rs page s ok o may says c = carry_send ws rs w control page s may c
carry (TakenUp w) ws rs page s ok o may says c = carry_taken w page s c
carry (SentDown control w) ws rs page s ok o may says c = carry_answer w control page s says c
carry (TakesDown control w) ws rs page s ok o may says c = carry_taking ws rs w control page s (is_open_to s control) refl ok may c
carry (Puts bytes dirty) ws rs page s ok o may says c = absurd may
carry Drops ws rs page s ok o may says c = record { here = λ some. absurd (omega arith); coming = c.coming; going = c.going }
carry (Begins task store at size value) ws rs page s ok o may says c = c
carry (Loads task value) ws rs page s ok o may says c = c
carry (Stores task at size value) ws rs page s ok o may says c =
    carry_stores page s task at size value ok o (can_store (waiter_of task ws) s at size value may) c
carry (Fails task) ws rs page s ok o may says c = c
carry (BeginsCopy task times) ws rs page s ok o may says c = c
carry (Copies task) ws rs page s ok o may says c = c
carry (EndsCopy task) ws rs page s ok o may says c = c
carry StepBegins ws rs page s ok o may says c = carry_step page s c
carry Nothing ws rs page s ok o may says c = c

-- another host's store: nothing of the page is here, and nothing is on its way
pub carry_bare : (page : List ℕ) (s : Side) → Sound s → Orderly s → s.holds ≡ 0 → Carries page s
carry_bare page s ok o none =
    let nothing : drain s.down s.right ≡ 0 = omega (arith, ok.covered) in
    let away : s.right ≡ 0 = omega (arith, drain_up s.down s.right) in
    record {
      here = λ some. absurd (omega arith);
      coming = carry_down_none page s.down (drain_supplies s.down s.right nothing);
      going = carry_up_none page s.up (grind (arith, o.returns_hold));
    }

-- the effect is a store
abbrev pub IsStore : ActEffect → Type 0
IsStore (Stores task at size value) = Unit {0}
IsStore e = ⊥

pub carry_others : (e : ActEffect) (page : List ℕ) (s : Side) → Sound s → Orderly s → (IsStore e → s.holds ≡ 0) → Carries page s
    → Carries (current_after e page) (side_after s (to_others e))
carry_others (TakenUp w) page s ok o bare c = carry_step page s c
carry_others (TakesDown control w) page s ok o bare c = carry_step page s c
carry_others (Stores task at size value) page s ok o bare c = carry_bare (with_bytes at (little_endian_bytes size value) page) s ok o (bare tt)
carry_others StepBegins page s ok o bare c = carry_step page s c
carry_others e page s ok o bare c = c

-- the server's bytes are the page's, but for a host that can write and has saved nothing yet

abbrev pub Settled : Side → Type 0
Settled s = s.holds ≡ 2 → (has_alone s ≡ false) × (sum_up saves s.up ≡ 0)

-- the act changes neither the page nor the server's bytes
abbrev pub Silent : ActEffect → Type 0
Silent (Stores task at size value) = ⊥
Silent (TakenUp (Returning dirty keep bytes)) = ⊥
Silent e = Unit {0}

pub settled_others : (e : ActEffect) (s : Side) → Settled (side_after s (to_others e)) → Settled s
settled_others (TakenUp w) s is = is
settled_others (TakesDown control w) s is = is
settled_others StepBegins s is = is
settled_others e s is = is
