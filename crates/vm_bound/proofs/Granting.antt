-- What the server of shared memory supplies is what the host asked for last: to read, or to write.
use Rattle.std.proofs.Common.{◌≡◌, ℕ, ◌+◌, ◌≤◌, ◌≢◌, subst, sym, List, [], ◌∷◌, ◌++◌, arith, Some, Bool, true, false}
use Rattle.std.proofs.Common.{if◌then◌else◌, refl}
use Rattle.std.specs.Prelude.{◌==◌, ◌&&◌}
use Rattle.std.proofs.lemmas.Bool.Decides.{nat_tests}
use native.Mathlib.Decide.{ℕ_discrete}
use Rattle.vm_model.specs.Words.{UpWord, Asking, Unlocking, Returning, Doing, Ending, OtherUp, DownWord, Supplying, Locking, Lacking, Failing, Readying}
use Rattle.vm_model.specs.Words.{OtherDown, ActEffect, Opens, SendsUp, TakenUp, SentDown, TakesDown, Puts, Act, effect_on, to_others}
use Rattle.vm_model.specs.Side.{Side, is_open_to, rest, side, side_after, side_sent_up, side_taken_down}
use Rattle.vm_model.specs.Waiters.{Waiter, waiters, readers}
use Rattle.vm_model.specs.Server.{Wanting, first, joined, line, stays, trimmed_line, without_request}
use Rattle.vm_model.specs.PageLicences.{ActsLicensed, Cause, HostMay, SupplyRow}
use Rattle.vm_coherence.proofs.Line.{request, total, total_end}
use Rattle.vm_coherence.proofs.Queues.{asks, sum_down, sum_down_end, sum_up, sum_up_end, sum_up_le, supplies}
use Rattle.vm_coherence.proofs.Sound.{Fair, Sound, one_if}
use Rattle.vm_coherence.proofs.Law.{World, cause, own_effect, other_effect, world}

-- the lock with which a page comes that was asked for so
abbrev pub granted : ℕ → ℕ
granted access = if access == 3 then 0 else 2

-- words that don't fit what was asked for last
abbrev pub wrong_up : ℕ → UpWord → ℕ
wrong_up a (Asking asker access) = if access == a then 0 else 1
wrong_up a w = 0

abbrev pub wrong_wish : ℕ → ℕ → Wanting → ℕ
wrong_wish h a w = if w.host == h then (if w.upgrade then 0 else (if w.access == a then 0 else 1)) else 0

abbrev pub wrong_down : ℕ → DownWord → ℕ
wrong_down a (Supplying lock precious bytes) = if lock == granted a then 0 else 1
wrong_down a w = 0

-- the access of the host's last request
abbrev pub asked_after : ActEffect → ℕ → ℕ
asked_after (SendsUp control (Asking asker access)) was = access
asked_after e was = was

abbrev pub asked_as : ℕ → List Act → ℕ
asked_as h [] = 0
asked_as h (a ∷ past) = asked_after (effect_on h a) (asked_as h past)

-- nothing on the way doesn't fit
pub record IsFitting (h a : ℕ) (s : Side) (ws : List Wanting) : Type 0 where
  pub going : sum_up (wrong_up a) s.up ≡ 0
  pub standing : total (wrong_wish h a) ws ≡ 0
  pub coming : sum_down (wrong_down a) s.down ≡ 0

-- what there is none of fits

up_few : (a : ℕ) (q : List UpWord) → sum_up (wrong_up a) q ≤ sum_up asks q
up_few a q = sum_up_le (wrong_up a) asks q (λ w. one w)
  where
    one : (w : UpWord) → wrong_up a w ≤ asks w
    one w = grind (arith, nat_tests)

down_few : (a : ℕ) (q : List DownWord) → sum_down (wrong_down a) q ≤ sum_down supplies q
down_few a [] = omega arith
down_few a (w ∷ q) = let rest = down_few a q in let one = one_few w in omega (arith, rest, one)
  where
    one_few : (w : DownWord) → wrong_down a w ≤ supplies w
    one_few w = grind (arith, nat_tests)

wish_few : (h a : ℕ) (ws : List Wanting) → total (wrong_wish h a) ws ≤ total (request h) ws
wish_few h a [] = omega arith
wish_few h a (w ∷ ws) = let rest = wish_few h a ws in let one = one_few w in omega (arith, rest, one)
  where
    one_few : (w : Wanting) → wrong_wish h a w ≤ request h w
    one_few w = grind (arith, nat_tests)

-- the line

trimmed_few : (h a k holds : ℕ) (ws : List Wanting) → total (wrong_wish h a) (trimmed_line k holds ws) ≤ total (wrong_wish h a) ws
trimmed_few h a k holds [] = omega arith
trimmed_few h a k holds (w ∷ ws) = let rest = trimmed_few h a k holds ws in by (stays k holds w) rest
  where
    by : (b : Bool) → total (wrong_wish h a) (trimmed_line k holds ws) ≤ total (wrong_wish h a) ws
        → total (wrong_wish h a) (if b then w ∷ trimmed_line k holds ws else trimmed_line k holds ws) ≤ wrong_wish h a w + total (wrong_wish h a) ws
    by true le = omega (arith, le)
    by false le = omega (arith, le)

without_few : (h a k : ℕ) (ws : List Wanting) → total (wrong_wish h a) (without_request k ws) ≤ total (wrong_wish h a) ws
without_few h a k [] = omega arith
without_few h a k (w ∷ ws) = let rest = without_few h a k ws in by (w.host == k) w.upgrade rest
  where
    by : (b c : Bool) → total (wrong_wish h a) (without_request k ws) ≤ total (wrong_wish h a) ws
        → total (wrong_wish h a) (if b then (if c then w ∷ without_request k ws else ws) else w ∷ without_request k ws)
        ≤ wrong_wish h a w + total (wrong_wish h a) ws
    by true true le = omega (arith, le)
    by true false le = omega arith
    by false c le = omega (arith, le)

-- another host's act adds none of this host
joined_few : (h a k : ℕ) (e : ActEffect) (s : Side) (ws : List Wanting) → h ≢ k → total (wrong_wish h a) (joined s k e ws) ≤ total (wrong_wish h a) ws
joined_few h a k (TakenUp (Asking asker access)) s ws apart =
    let more = total_end (wrong_wish h a) ws (record { host = k; upgrade = false; access = access }) in
    let none = not_mine h a k access apart in
    omega (arith, more, none)
  where
    not_mine : (h a k access : ℕ) → h ≢ k → wrong_wish h a (record { host = k; upgrade = false; access = access }) ≡ 0
    not_mine h a k access apart = grind (arith, nat_tests)
joined_few h a k (TakenUp (Unlocking access)) s ws apart = by (s.holds == 1) (s.awaits == 0)
  where
    not_mine : (h a k : ℕ) → h ≢ k → wrong_wish h a (record { host = k; upgrade = true; access = 3 }) ≡ 0
    not_mine h a k apart = grind (arith, nat_tests)

    by : (b c : Bool) → total (wrong_wish h a) (if b && c then ws ++ record { host = k; upgrade = true; access = 3 } ∷ [] else ws) ≤ total (wrong_wish h a) ws
    by true true =
        let more = total_end (wrong_wish h a) ws (record { host = k; upgrade = true; access = 3 }) in
        let none = not_mine h a k apart in
        omega (arith, more, none)
    by true false = omega arith
    by false c = omega arith
joined_few h a k (SentDown control (Supplying lock precious bytes)) s ws apart = without_few h a k ws
joined_few h a k e s ws apart = omega arith

-- The host's own acts.

-- a request, where nothing was asked
fitting_asking : (h a : ℕ) (s : Side) (ws : List Wanting) (asker access : ℕ) → Sound s → total (request h) ws ≡ s.pending → s.asked ≡ false
    → IsFitting h access (side_sent_up s (Asking asker access)) ws
fitting_asking h a s ws asker access ok counted asked =
    let few : (sum_up asks s.up + s.pending) + sum_down supplies s.down ≤ 0 = none ((sum_up asks s.up + s.pending) + sum_down supplies s.down) s.asked ok.asking
    asked in
    let up = up_few access s.up in
    let end = sum_up_end (wrong_up access) s.up (Asking asker access) in
    let same = fits access asker in
    let down = down_few access s.down in
    let wish = wish_few h access ws in
    record { going = omega (arith, few, up, end, same); standing = omega (arith, few, wish, counted); coming = omega (arith, few, down) }
  where
    none : (n : ℕ) (b : Bool) → n ≤ one_if b → b ≡ false → n ≤ 0
    none n b le is = subst (λ (c : Bool). n ≤ one_if c) is le

    fits : (access asker : ℕ) → wrong_up access (Asking asker access) ≡ 0
    fits access asker = grind (arith, nat_tests)

fitting_sent : (ws : List Waiter) (rs : List ℕ) (h a : ℕ) (s : Side) (wants : List Wanting) (control : ℕ) (w : UpWord) → Sound s
    → total (request h) wants ≡ s.pending → IsFitting h a s wants → HostMay ws rs s (SendsUp control w)
    → IsFitting h (asked_after (SendsUp control w) a) (side_sent_up s w) wants
fitting_sent ws rs h a s wants control (Asking asker access) ok counted f may = fitting_asking h a s wants asker access ok counted may.2.1
fitting_sent ws rs h a s wants control (Unlocking access) ok counted f may =
    let end = sum_up_end (wrong_up a) s.up (Unlocking access) in let was = f.going in
    record { going = omega (arith, end, was); standing = f.standing; coming = f.coming }
fitting_sent ws rs h a s wants control (Returning dirty keep bytes) ok counted f may =
    let end = sum_up_end (wrong_up a) s.up (Returning dirty keep bytes) in let was = f.going in
    record { going = omega (arith, end, was); standing = f.standing; coming = f.coming }
fitting_sent ws rs h a s wants control (Doing told count) ok counted f may =
    let end = sum_up_end (wrong_up a) s.up (Doing told count) in let was = f.going in
    record { going = omega (arith, end, was); standing = f.standing; coming = f.coming }
fitting_sent ws rs h a s wants control (Ending told) ok counted f may =
    let end = sum_up_end (wrong_up a) s.up (Ending told) in let was = f.going in
    record { going = omega (arith, end, was); standing = f.standing; coming = refl }
fitting_sent ws rs h a s wants control OtherUp ok counted f may = record { going = f.going; standing = f.standing; coming = f.coming }

-- what the server takes
up_rest : (a : ℕ) (q : List UpWord) → sum_up (wrong_up a) (rest q) ≤ sum_up (wrong_up a) q
up_rest a [] = omega arith
up_rest a (w ∷ q) = omega arith

down_rest : (a : ℕ) (q : List DownWord) → sum_down (wrong_down a) (rest q) ≤ sum_down (wrong_down a) q
down_rest a [] = omega arith
down_rest a (w ∷ q) = omega arith

up_first : (a : ℕ) (q : List UpWord) (w : UpWord) → first q ≡ Some w → wrong_up a w ≤ sum_up (wrong_up a) q
up_first a [] w is = absurd (cc)
up_first a (v ∷ q) w is = let same : v ≡ w = cc in subst (λ (x : UpWord). wrong_up a x ≤ wrong_up a v + sum_up (wrong_up a) q) same (omega arith)

-- a request joins the line as it was asked
asked_joins : (h a : ℕ) (s : Side) (wants : List Wanting) (asker access : ℕ) → IsFitting h a s wants → first s.up ≡ Some (Asking asker access)
    → total (wrong_wish h a) (wants ++ record { host = h; upgrade = false; access = access } ∷ []) ≡ 0
asked_joins h a s wants asker access f is =
    let end = total_end (wrong_wish h a) wants (record { host = h; upgrade = false; access = access }) in
    let few = up_first a s.up (Asking asker access) is in
    let none = same access (omega (arith, few, f.going)) in
    let was = f.standing in
    omega (arith, end, none, was)
  where
    same : (access : ℕ) → wrong_up a (Asking asker access) ≡ 0 → wrong_wish h a (record { host = h; upgrade = false; access = access }) ≡ 0
    same access none = grind (arith, nat_tests)

fitting_taken : (h a : ℕ) (s : Side) (wants : List Wanting) (w : UpWord) (ws : List Waiter) (rs : List ℕ) → IsFitting h a s wants → HostMay ws rs s (TakenUp w)
    → (sum_up (wrong_up a) (side_after s (TakenUp w)).up ≡ 0) × (total (wrong_wish h a) (joined s h (TakenUp w) wants) ≡ 0)
fitting_taken h a s wants (Asking asker access) ws rs f may =
    (omega (arith, up_rest a s.up, f.going), asked_joins h a s wants asker access f may)
fitting_taken h a s wants (Unlocking access) ws rs f may = (omega (arith, up_rest a s.up, f.going), by (s.holds == 1) (s.awaits == 0))
  where
    upgrade_fits : wrong_wish h a (record { host = h; upgrade = true; access = 3 }) ≡ 0
    upgrade_fits = grind (arith, nat_tests)

    by : (b c : Bool) → total (wrong_wish h a) (if b && c then wants ++ record { host = h; upgrade = true; access = 3 } ∷ [] else wants) ≡ 0
    by true true =
        let end = total_end (wrong_wish h a) wants (record { host = h; upgrade = true; access = 3 }) in
        omega (arith, end, upgrade_fits, f.standing)
    by true false = f.standing
    by false c = f.standing
fitting_taken h a s wants (Returning dirty keep bytes) ws rs f may = (omega (arith, up_rest a s.up, f.going), f.standing)
fitting_taken h a s wants (Doing control count) ws rs f may = (omega (arith, up_rest a s.up, f.going), f.standing)
fitting_taken h a s wants (Ending control) ws rs f may = (omega (arith, up_rest a s.up, f.going), f.standing)
fitting_taken h a s wants OtherUp ws rs f may = (f.going, f.standing)

-- what the server sends
put_fits : (a control : ℕ) (s : Side) (w : DownWord) → sum_down (wrong_down a) s.down ≡ 0 → wrong_down a w ≡ 0
    → sum_down (wrong_down a) (if is_open_to s control then s.down ++ w ∷ [] else s.down) ≡ 0
put_fits a control s w was fits = by (is_open_to s control)
  where
    by : (b : Bool) → sum_down (wrong_down a) (if b then s.down ++ w ∷ [] else s.down) ≡ 0
    by true = let end = sum_down_end (wrong_down a) s.down w in omega (arith, end, was, fits)
    by false = was

supply_fits : (h a lock : ℕ) (wants : List Wanting) (precious : Bool) (bytes : List ℕ) (past : List Act) → total (wrong_wish h a) wants ≡ 0
    → SupplyRow h lock past (first wants) → wrong_down a (Supplying lock precious bytes) ≡ 0
supply_fits h a lock [] precious bytes past none row = absurd row
supply_fits h a lock (w ∷ wants) precious bytes past none row = by w (omega (arith, none)) row.0 row.1 row.2
  where
    by : (w : Wanting) → wrong_wish h a w ≡ 0 → w.host ≡ h → w.upgrade ≡ false → lock ≡ (if w.access == 3 then 0 else 2)
        → wrong_down a (Supplying lock precious bytes) ≡ 0
    by w fits mine plain is = grind (arith, nat_tests)

-- any act of the host's own
fitting_own : (size : ℕ) (h a : ℕ) (e : ActEffect) (past : List Act) → World past → IsFitting h a (side h past) (line past) → Cause size h e past
    → Fair (waiters h past) (readers h past) (side h past) e
    → IsFitting h (asked_after e a) (side_after (side h past) e) (joined (side h past) h e (line past))
fitting_own size h a (Opens control ready) past w f c may = record { going = f.going; standing = f.standing; coming = refl }
fitting_own size h a (SendsUp control word) past w f c may =
    fitting_sent (waiters h past) (readers h past) h a (side h past) (line past) control word (w.each h) (w.counted h) f may
fitting_own size h a (TakenUp word) past w f c may =
    let next = fitting_taken h a (side h past) (line past) word (waiters h past) (readers h past) f may in
    record { going = next.0; standing = next.1; coming = same word (side h past) f.coming }
  where
    same : (word : UpWord) (s : Side) → sum_down (wrong_down a) s.down ≡ 0 → sum_down (wrong_down a) (side_after s (TakenUp word)).down ≡ 0
    same (Asking asker access) s is = is
    same (Unlocking access) s is = is
    same (Returning dirty keep bytes) s is = is
    same (Doing control count) s is = is
    same (Ending control) s is = is
    same OtherUp s is = is
fitting_own size h a (SentDown control (Supplying lock precious bytes)) past w f c may =
    record {
      going = f.going;
      standing = omega (arith, without_few h a h (line past), f.standing);
      coming = put_fits a control (side h past) (Supplying lock precious bytes) f.coming
          (supply_fits h a lock (line past) precious bytes past f.standing c.4);
    }
fitting_own size h a (SentDown control (Locking count returns flush lock reply)) past w f c may =
    record { going = f.going; standing = f.standing; coming = put_fits a control (side h past) (Locking count returns flush lock reply) f.coming refl }
fitting_own size h a (SentDown control Lacking) past w f c may = absurd may
fitting_own size h a (SentDown control Failing) past w f c may = absurd may
fitting_own size h a (SentDown control Readying) past w f c may = record { going = f.going; standing = f.standing; coming = f.coming }
fitting_own size h a (SentDown control OtherDown) past w f c may = record { going = f.going; standing = f.standing; coming = f.coming }
fitting_own size h a (TakesDown control word) past w f c may = by (is_open_to (side h past) control) word
  where
    taken : (word : DownWord) (s : Side) → IsFitting h a s (line past) → IsFitting h a (side_taken_down s word) (line past)
    taken (Supplying lock precious bytes) s f = record { going = f.going; standing = f.standing; coming = omega (arith, down_rest a s.down, f.coming) }
    taken (Locking count returns flush lock reply) s f =
        record { going = f.going; standing = f.standing; coming = omega (arith, down_rest a s.down, f.coming) }
    taken Lacking s f = record { going = f.going; standing = f.standing; coming = omega (arith, down_rest a s.down, f.coming) }
    taken Failing s f = record { going = f.going; standing = f.standing; coming = omega (arith, down_rest a s.down, f.coming) }
    taken Readying s f = record { going = f.going; standing = f.standing; coming = f.coming }
    taken OtherDown s f = record { going = f.going; standing = f.standing; coming = f.coming }

    by : (b : Bool) (word : DownWord) → IsFitting h a (if b then side_taken_down (side h past) word else record (side h past) { step = 0 }) (line past)
    by true word = taken word (side h past) f
    by false word = record { going = f.going; standing = f.standing; coming = f.coming }
fitting_own size h a (Puts bytes dirty) past w f c may = absurd may
fitting_own size h a e past w f c may = record { going = f.going; standing = f.standing; coming = f.coming }

-- another host's
fitting_others : (h a k : ℕ) (e : ActEffect) (s other : Side) (wants : List Wanting) → h ≢ k → IsFitting h a s wants
    → IsFitting h a (side_after s (to_others e)) (joined other k e wants)
fitting_others h a k e s other wants apart f =
    record {
      going = going e;
      standing = omega (arith, joined_few h a k e other wants apart, f.standing);
      coming = coming e;
    }
  where
    going : (e : ActEffect) → sum_up (wrong_up a) (side_after s (to_others e)).up ≡ 0
    going (TakenUp w) = f.going
    going (TakesDown control w) = f.going
    going e = f.going

    coming : (e : ActEffect) → sum_down (wrong_down a) (side_after s (to_others e)).down ≡ 0
    coming (TakenUp w) = f.coming
    coming (TakesDown control w) = f.coming
    coming e = f.coming

-- the line is trimmed
fitting_trimmed : (h a k holds : ℕ) (s : Side) (wants : List Wanting) → IsFitting h a s wants → IsFitting h a s (trimmed_line k holds wants)
fitting_trimmed h a k holds s wants f =
    record { going = f.going; standing = omega (arith, trimmed_few h a k holds wants, f.standing); coming = f.coming }

others_ask : (e : ActEffect) (a : ℕ) → asked_after (to_others e) a ≡ a
others_ask (TakenUp w) a = refl
others_ask (TakesDown control w) a = refl
others_ask e a = refl

fitting_after : (size : ℕ) (b : Act) (past : List Act) → World past → ((h : ℕ) → IsFitting h (asked_as h past) (side h past) (line past))
    → Cause size b.host b.effect past → (h : ℕ) → IsFitting h (asked_as h (b ∷ past)) (side h (b ∷ past)) (line (b ∷ past))
fitting_after size b past w fits c h =
    fitting_trimmed h (asked_as h (b ∷ past)) b.host (side b.host (b ∷ past)).holds (side h (b ∷ past)) (joined (side b.host past) b.host b.effect (line past))
    (elim (ℕ_discrete b.host h) [ yes e ↦ own h e | no e ↦ other h e ])
  where
    mine : IsFitting b.host (asked_as b.host (b ∷ past)) (side b.host (b ∷ past)) (joined (side b.host past) b.host b.effect (line past))
    mine =
        subst (λ (e : ActEffect). IsFitting b.host (asked_after e (asked_as b.host past)) (side_after (side b.host past) e)
        (joined (side b.host past) b.host b.effect (line past))) (sym (own_effect b))
        (fitting_own size b.host (asked_as b.host past) b.effect past w (fits b.host) c (cause size b.host b.effect past w c))

    own : (h : ℕ) → b.host ≡ h → IsFitting h (asked_as h (b ∷ past)) (side h (b ∷ past)) (joined (side b.host past) b.host b.effect (line past))
    own h e =
        subst (λ (g : ℕ). IsFitting g (asked_as g (b ∷ past)) (side g (b ∷ past)) (joined (side b.host past) b.host b.effect (line past))) e mine

    other : (h : ℕ) → b.host ≢ h → IsFitting h (asked_as h (b ∷ past)) (side h (b ∷ past)) (joined (side b.host past) b.host b.effect (line past))
    other h e =
        subst (λ (f : ActEffect). IsFitting h (asked_after f (asked_as h past)) (side_after (side h past) f)
        (joined (side b.host past) b.host b.effect (line past))) (sym (other_effect h b e))
        (subst (λ (n : ℕ). IsFitting h n (side_after (side h past) (to_others b.effect)) (joined (side b.host past) b.host b.effect (line past)))
        (sym (others_ask b.effect (asked_as h past)))
        (fitting_others h (asked_as h past) b.host b.effect (side h past) (side b.host past) (line past) (λ g. e (sym g)) (fits h)))

pub fitting : (size : ℕ) (past : List Act) → ActsLicensed size past → (h : ℕ) → IsFitting h (asked_as h past) (side h past) (line past)
fitting size [] licensed h = record { going = refl; standing = refl; coming = refl }
fitting size (b ∷ past) licensed h = fitting_after size b past (world size past licensed.1) (fitting size past licensed.1) licensed.0 h

-- the page that comes next is locked as the last request wanted
pub supply_is_granted : (size h lock : ℕ) (precious : Bool) (bytes : List ℕ) (past : List Act) → ActsLicensed size past
    → first (side h past).down ≡ Some (Supplying lock precious bytes) → lock ≡ granted (asked_as h past)
supply_is_granted size h lock precious bytes past licensed is = by (side h past).down (fitting size past licensed h).coming is
  where
    by : (q : List DownWord) → sum_down (wrong_down (asked_as h past)) q ≡ 0 → first q ≡ Some (Supplying lock precious bytes) → lock ≡ granted (asked_as h past)
    by q none is = grind (arith, nat_tests)
