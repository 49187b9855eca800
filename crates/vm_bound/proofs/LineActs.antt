-- What each act of a page makes of the weight of its line.
use Rattle.std.proofs.Common.{ℕ, zero, suc, ◌≡◌, ◌≢◌, ◌+◌, ◌*◌, ◌<◌, ◌≤◌, ◌==◌, ◌∙◌, ◌++◌, Bool, true, false, List, [], ◌∷◌}
use Rattle.std.proofs.Common.{Some, ap, arith, refl, subst, sym}
use Rattle.std.proofs.Common.{if◌then◌else◌, inl, inr, length}
use Rattle.std.proofs.Math.Nat.{mul-add, mul-le-mul_left}
use Rattle.std.proofs.lemmas.Bool.Decides.{nat_tests}
use Rattle.std.proofs.lemmas.Grind.{common_steps}
use Rattle.std.specs.Prelude.{nat_lt, not, ◌&&◌, ◌⊎◌}
use native.Mathlib.Decide.{ℕ_discrete}
use Rattle.sms_pages.specs.Directory.{is_recalled}
use Rattle.vm_bound.specs.Letters.{wish_weight}
use Rattle.vm_bound.specs.Lines.{line_weight, recallable}
use Rattle.vm_coherence.proofs.Law.{other_side, own_side}
use Rattle.vm_model.proofs.Others.{others_holds}
use Rattle.vm_model.specs.PageLicences.{ActsLicensed, Cause, NobodyAwaited, RecallRow, ReplyCause, SupplyRow, UpgradeRow}
use Rattle.vm_model.specs.Server.{Wanting, first, joined, line, stays, trimmed_line, wants_write, without_request}
use Rattle.vm_model.specs.Side.{Side, after_done, is_open_to, kind_of, side, side_after, side_sent_up, side_taken_down}
use Rattle.vm_model.specs.Words.{Act, ActEffect, Asking, Begins, BeginsCopy, Copies, Doing, DownWord, Drops, Ending, EndsCopy, Failing, Fails, Lacking, Loads}
use Rattle.vm_model.specs.Words.{Locking, Nothing, Opens, OtherDown, OtherUp, Puts, Readying, Returning, SendsUp, SentDown, StepBegins, Stores}
use Rattle.vm_model.specs.Words.{Supplying, TakenUp, TakesDown, Unlocking, UpWord, to_others}

-- the weight of a page's line
abbrev pub weight : ℕ → List Act → ℕ
weight hosts past = line_weight hosts past (line past)

-- 1 where the one who wants the page calls it back from a host of this row, 0 where not
abbrev pub calls : Wanting → ℕ → ℕ → ℕ → ℕ
calls w host holds awaits = if is_recalled w host holds awaits then 1 else 0

abbrev pub called : Wanting → ℕ → List Act → ℕ
called w host past = calls w host (side host past).holds (side host past).awaits

-- What is recallable.

called_once : (w : Wanting) (host holds awaits : ℕ) → calls w host holds awaits ≤ 1
called_once w host holds awaits = by (is_recalled w host holds awaits)
  where
    by : (b : Bool) → (if b then 1 else 0) ≤ 1
    by true = omega arith
    by false = omega arith

own_uncalled : (w : Wanting) (host holds awaits : ℕ) → host ≡ w.host → calls w host holds awaits ≡ 0
own_uncalled w host holds awaits is = grind (arith, nat_tests)

-- no more than before where no host is called that wasn't
recallable_less : (w : Wanting) (after before : List Act) (n : ℕ) → ((g : ℕ) → called w g after ≤ called w g before)
    → recallable w after n ≤ recallable w before n
recallable_less w after before zero less = omega arith
recallable_less w after before (suc n) less =
    let one = less n in
    let rest = recallable_less w after before n less in
    omega (arith, one, rest)

-- and fewer where one is called no longer
recallable_fewer : (w : Wanting) (after before : List Act) (n host : ℕ) → host < n → ((g : ℕ) → called w g after ≤ called w g before)
    → called w host after ≡ 0 → called w host before ≡ 1 → recallable w after n + 1 ≤ recallable w before n
recallable_fewer w after before zero host small less now was = absurd (omega (arith, small))
recallable_fewer w after before (suc n) host small less now was = elim (ℕ_discrete host n) [
  | yes is ↦
      let rest = recallable_less w after before n less in
      let none : called w n after ≡ 0 = subst (λ g. called w g after ≡ 0) is now in
      let one : called w n before ≡ 1 = subst (λ g. called w g before ≡ 1) is was in
      omega (arith, none, one, rest)
  | no isnt ↦
      let one = less n in
      let rest = recallable_fewer w after before n host (omega (arith, small, isnt)) less now was in
      omega (arith, one, rest)
]

-- its own host is never called
recallable_spare : (w : Wanting) (past : List Act) (n : ℕ) → recallable w past n + (if nat_lt w.host n then 1 else 0) ≤ n
recallable_spare w past zero = grind (arith, nat_tests)
recallable_spare w past (suc n) = by (recallable w past n) (recallable_spare w past n)
  where
    one : (a k : ℕ) → (n ≡ w.host → k ≡ 0) → k ≤ 1 → a + (if nat_lt w.host n then 1 else 0) ≤ n → k + a + (if nat_lt w.host (suc n) then 1 else 0) ≤ suc n
    one a k own few le = grind (arith, nat_tests)

    by : (a : ℕ) → a + (if nat_lt w.host n then 1 else 0) ≤ n → called w n past + a + (if nat_lt w.host (suc n) then 1 else 0) ≤ suc n
    by a le = one a (called w n past) (own_uncalled w n (side n past).holds (side n past).awaits) (called_once w n (side n past).holds (side n past).awaits) le

recallable_most : (w : Wanting) (past : List Act) (hosts : ℕ) → w.host < hosts → recallable w past hosts + 1 ≤ hosts
recallable_most w past hosts small = by (recallable w past hosts) (recallable_spare w past hosts)
  where
    by : (a : ℕ) → a + (if nat_lt w.host hosts then 1 else 0) ≤ hosts → a + 1 ≤ hosts
    by a le = grind (arith, nat_tests)

-- The line.

-- all who stand in it are on these hosts
abbrev pub AreBelow : ℕ → List Wanting → Type 0
AreBelow hosts [] = Unit {0}
AreBelow hosts (w ∷ ws) = (w.host < hosts) × AreBelow hosts ws

-- each costs at most what one who joins does
line_most : (hosts : ℕ) (past : List Act) (ws : List Wanting) → AreBelow hosts ws → line_weight hosts past ws ≤ wish_weight hosts * length ws
line_most hosts past [] small = omega arith
line_most hosts past (w ∷ ws) small =
    let few = recallable_most w past hosts small.0 in
    let parts = mul-add (wish_weight hosts) 1 (length ws) in
    omega (arith, few, parts)

trimmed_shorter : (h holds : ℕ) (ws : List Wanting) → length (trimmed_line h holds ws) ≤ length ws
trimmed_shorter h holds [] = omega arith
trimmed_shorter h holds (w ∷ ws) = by (stays h holds w) (trimmed_shorter h holds ws)
  where
    by : (b : Bool) → length (trimmed_line h holds ws) ≤ length ws
        → length (if b then w ∷ trimmed_line h holds ws else trimmed_line h holds ws) ≤ suc (length ws)
    by true le = omega (arith, le)
    by false le = omega (arith, le)

trimmed_below : (hosts h holds : ℕ) (ws : List Wanting) → AreBelow hosts ws → AreBelow hosts (trimmed_line h holds ws)
trimmed_below hosts h holds [] small = tt
trimmed_below hosts h holds (w ∷ ws) small = by (stays h holds w) (trimmed_below hosts h holds ws small.1)
  where
    by : (b : Bool) → AreBelow hosts (trimmed_line h holds ws) → AreBelow hosts (if b then w ∷ trimmed_line h holds ws else trimmed_line h holds ws)
    by true rest = (small.0, rest)
    by false rest = rest

trimmed_most : (hosts h holds : ℕ) (past : List Act) (ws : List Wanting) → AreBelow hosts ws
    → line_weight hosts past (trimmed_line h holds ws) ≤ wish_weight hosts * length ws
trimmed_most hosts h holds past ws small =
    let most = line_most hosts past (trimmed_line h holds ws) (trimmed_below hosts h holds ws small) in
    let shorter = mul-le-mul_left (wish_weight hosts) (trimmed_shorter h holds ws) in
    omega (arith, most, shorter)

-- the weight where those leave who no longer stay, and the front calls so many hosts less
front_less : (hosts h holds k : ℕ) (after before : List Act) (w : Wanting) (ws : List Wanting) → AreBelow hosts ws → k ≤ 1
    → recallable w after hosts + k ≤ recallable w before hosts
    → line_weight hosts after (trimmed_line h holds (w ∷ ws)) + 3 * k ≤ line_weight hosts before (w ∷ ws)
front_less hosts h holds k after before w ws small one front = by (stays h holds w)
  where
    by : (b : Bool)
        → line_weight hosts after (if b then w ∷ trimmed_line h holds ws else trimmed_line h holds ws) + 3 * k ≤ line_weight hosts before (w ∷ ws)
    by true =
        let shorter = mul-le-mul_left (wish_weight hosts) (trimmed_shorter h holds ws) in
        omega (arith, front, shorter)
    by false =
        let most = trimmed_most hosts h holds after ws small in
        omega (arith, most, one)

-- so where no host is called that wasn't
line_less : (hosts h holds : ℕ) (after before : List Act) (ws : List Wanting) → AreBelow hosts ws
    → ((w : Wanting) → first ws ≡ Some w → (g : ℕ) → called w g after ≤ called w g before)
    → line_weight hosts after (trimmed_line h holds ws) ≤ line_weight hosts before ws
line_less hosts h holds after before [] small less = omega arith
line_less hosts h holds after before (w ∷ ws) small less =
    let front = recallable_less w after before hosts (less w refl) in
    let all = front_less hosts h holds 0 after before w ws small.1 (omega arith) (omega (arith, front)) in
    omega (arith, all)

-- one who joins adds at most that
end_most : (hosts : ℕ) (past : List Act) (ws : List Wanting) (v : Wanting) → v.host < hosts
    → line_weight hosts past (ws ++ v ∷ []) ≤ line_weight hosts past ws + wish_weight hosts
end_most hosts past [] v small =
    let few = recallable_most v past hosts small in
    omega (arith, few)
end_most hosts past (w ∷ ws) v small =
    let longer : length (ws ++ v ∷ []) ≡ length ws + 1 = grind (arith, common_steps) in
    let parts = mul-add (wish_weight hosts) (length ws) 1 in
    let same : wish_weight hosts * length (ws ++ v ∷ []) ≡ wish_weight hosts * (length ws + 1) = ap (λ n. wish_weight hosts * n) longer in
    omega (arith, parts, same)

end_below : (hosts : ℕ) (ws : List Wanting) (v : Wanting) → v.host < hosts → AreBelow hosts ws → AreBelow hosts (ws ++ v ∷ [])
end_below hosts [] v one small = (one, tt)
end_below hosts (w ∷ ws) v one small = (small.0, end_below hosts ws v one small.1)

without_below : (hosts h : ℕ) (ws : List Wanting) → AreBelow hosts ws → AreBelow hosts (without_request h ws)
without_below hosts h [] small = tt
without_below hosts h (w ∷ ws) small = by (w.host == h) w.upgrade (without_below hosts h ws small.1)
  where
    by : (a b : Bool) → AreBelow hosts (without_request h ws)
        → AreBelow hosts (if a then (if b then w ∷ without_request h ws else ws) else w ∷ without_request h ws)
    by true true rest = (small.0, rest)
    by true false rest = small.1
    by false b rest = (small.0, rest)

-- The rows of the hosts.

-- what the server takes is of one of these hosts
abbrev pub HeardOn : ℕ → ℕ → ActEffect → Type 0
HeardOn hosts host (TakenUp word) = host < hosts
HeardOn hosts host e = Unit {0}

abbrev pub AllHeard : ℕ → List Act → Type 0
AllHeard hosts [] = Unit {0}
AllHeard hosts (a ∷ past) = HeardOn hosts a.host a.effect × AllHeard hosts past

-- the front wants to read
abbrev pub FrontReads : List Wanting → Type 0
FrontReads [] = ⊥
FrontReads (w ∷ ws) = wants_write w ≡ false

-- the act gives nobody the page
abbrev pub GivesNone : ActEffect → Type 0
GivesNone (SentDown control (Supplying lock precious bytes)) = ⊥
GivesNone (SentDown control (Locking count returns flush lock reply)) = (reply ≡ true) × (returns ≡ 1)
GivesNone e = Unit {0}

abbrev act : ℕ → ActEffect → Act
act h e = record { host = h; effect = e }

others_awaits : (e : ActEffect) (s : Side) → (side_after s (to_others e)).awaits ≡ s.awaits
others_awaits e s = grind arith

other_holds : (g : ℕ) (a : Act) (past : List Act) → a.host ≢ g → (side g (a ∷ past)).holds ≡ (side g past).holds
other_holds g a past apart = ap (λ (s : Side). s.holds) (other_side g a past apart) ∙ others_holds a.effect (side g past)

other_awaits : (g : ℕ) (a : Act) (past : List Act) → a.host ≢ g → (side g (a ∷ past)).awaits ≡ (side g past).awaits
other_awaits g a past apart = ap (λ (s : Side). s.awaits) (other_side g a past apart) ∙ others_awaits a.effect (side g past)

-- a host that holds nothing is not called, nor one that is awaited
none_uncalled : (w : Wanting) (host awaits : ℕ) → calls w host 0 awaits ≡ 0
none_uncalled w host awaits = grind (arith, nat_tests)

awaited_uncalled : (w : Wanting) (host holds awaits : ℕ) → 0 < awaits → calls w host holds awaits ≡ 0
awaited_uncalled w host holds awaits some = grind (arith, nat_tests)

-- nor one that reads, for a front that reads
reading_uncalled : (w : Wanting) (host : ℕ) → wants_write w ≡ false → calls w host 1 0 ≡ 0
reading_uncalled w host reads = by (wants_write w) (host == w.host) reads
  where
    value : Bool → Bool → ℕ
    value b own = if not own && (true && (if b then true else false)) then 1 else 0

    by : (b own : Bool) → b ≡ false → value b own ≡ 0
    by true own is = let bad : true ≡ false = is in cc
    by false true is = refl
    by false false is = refl

-- one that is done holds nothing, or reads for a front that reads
done_less : (w : Wanting) (host holds awaits : ℕ) → (awaits ≡ 1 → wants_write w ≡ false)
    → calls w host (after_done awaits holds) 0 ≤ calls w host holds awaits
done_less w host holds zero reads = omega arith
done_less w host zero (suc zero) reads = omega (arith, none_uncalled w host 0)
done_less w host (suc n) (suc zero) reads =
    subst (λ k. calls w host k 0 ≤ calls w host (suc n) 1) (sym (lowered n)) (omega (arith, reading_uncalled w host (reads refl)))
  where
    lowered : (n : ℕ) → after_done 1 (suc n) ≡ 1
    lowered zero = refl
    lowered (suc n) = refl
done_less w host holds (suc (suc n)) reads = omega (arith, none_uncalled w host 0)

row_less : (w : Wanting) (h : ℕ) (e : ActEffect) (s : Side) → GivesNone e → (s.awaits ≡ 1 → wants_write w ≡ false)
    → calls w h (side_after s e).holds (side_after s e).awaits ≤ calls w h s.holds s.awaits
row_less w h (Opens control ready) s none reads = omega arith
row_less w h (SendsUp control (Asking asker access)) s none reads = omega arith
row_less w h (SendsUp control (Unlocking access)) s none reads = omega arith
row_less w h (SendsUp control (Returning dirty keep bytes)) s none reads = omega arith
row_less w h (SendsUp control (Doing told count)) s none reads = omega arith
row_less w h (SendsUp control (Ending told)) s none reads = omega arith
row_less w h (SendsUp control OtherUp) s none reads = omega arith
row_less w h (TakenUp (Asking asker access)) s none reads = omega (arith, none_uncalled w h s.awaits)
row_less w h (TakenUp (Unlocking access)) s none reads = omega arith
row_less w h (TakenUp (Returning dirty true bytes)) s none reads = omega arith
row_less w h (TakenUp (Returning dirty false bytes)) s none reads = omega (arith, none_uncalled w h s.awaits)
row_less w h (TakenUp (Doing control count)) s none reads = by (s.awaited_control == control)
  where
    by : (b : Bool) → calls w h (if b then after_done s.awaits s.holds else s.holds) (if b then 0 else s.awaits) ≤ calls w h s.holds s.awaits
    by true = done_less w h s.holds s.awaits reads
    by false = omega arith
row_less w h (TakenUp (Ending control)) s none reads = omega (arith, none_uncalled w h (if s.awaited_control == control then 0 else s.awaits))
row_less w h (TakenUp OtherUp) s none reads = omega arith
row_less w h (SentDown control (Supplying lock precious bytes)) s none reads = absurd none
row_less w h (SentDown control (Locking count returns flush lock reply)) s none reads =
    omega (arith, awaited_uncalled w h (if returns == 0 then 2 else s.holds) (if reply then kind_of flush else s.awaits) (some reply none.0 flush))
  where
    some : (b : Bool) → b ≡ true → (flush : Bool) → 0 < (if b then kind_of flush else s.awaits)
    some true is true = omega arith
    some true is false = omega arith
    some false is flush = absurd (let bad : false ≡ true = is in cc)
row_less w h (SentDown control Lacking) s none reads = omega arith
row_less w h (SentDown control Failing) s none reads = omega arith
row_less w h (SentDown control Readying) s none reads = omega arith
row_less w h (SentDown control OtherDown) s none reads = omega arith
row_less w h (TakesDown control word) s none reads = by word (is_open_to s control)
  where
    taken_down : DownWord → Bool → Side
    taken_down word b = if b then side_taken_down s word else record s { step = 0 }

    by : (word : DownWord) (b : Bool) → calls w h (taken_down word b).holds (taken_down word b).awaits ≤ calls w h s.holds s.awaits
    by word b = grind arith
row_less w h (Puts bytes dirty) s none reads = omega arith
row_less w h Drops s none reads = omega arith
row_less w h (Begins task store at size value) s none reads = omega arith
row_less w h (Loads task value) s none reads = omega arith
row_less w h (Stores task at size value) s none reads = omega arith
row_less w h (Fails task) s none reads = omega arith
row_less w h (BeginsCopy task times) s none reads = omega arith
row_less w h (Copies task) s none reads = omega arith
row_less w h (EndsCopy task) s none reads = omega arith
row_less w h StepBegins s none reads = omega arith
row_less w h Nothing s none reads = omega arith

-- no host is called that wasn't
each_less : (a : Act) (past : List Act) (w : Wanting) → GivesNone a.effect → ((side a.host past).awaits ≡ 1 → wants_write w ≡ false) → (g : ℕ)
    → called w g (a ∷ past) ≤ called w g past
each_less a past w none reads g = elim (ℕ_discrete a.host g) [
  | yes is ↦ subst (λ k. called w k (a ∷ past) ≤ called w k past) is
      (subst (λ (s : Side). calls w a.host s.holds s.awaits ≤ called w a.host past) (sym (own_side a past))
      (row_less w a.host a.effect (side a.host past) none reads))
  | no isnt ↦ both (side g (a ∷ past)).holds (side g past).holds (side g (a ∷ past)).awaits (side g past).awaits (other_holds g a past isnt)
      (other_awaits g a past isnt)
]
  where
    both : (m n i j : ℕ) → m ≡ n → i ≡ j → calls w g m i ≤ calls w g n j
    both m n i j one two = subst (λ k. calls w g m i ≤ calls w g k j) one (subst (λ k. calls w g m i ≤ calls w g m k) two (omega arith))

-- What holds of a page's line at every moment.

pub record Stands (hosts : ℕ) (past : List Act) : Type 0 where
  pub below : AreBelow hosts (line past)
  pub holders : (g : ℕ) → 0 < (side g past).holds → g < hosts
  -- who is awaited for a lock without flush is so for a front that reads
  pub reading : (g : ℕ) → (side g past).awaits ≡ 1 → FrontReads (line past)

front_reads : (ws : List Wanting) (w : Wanting) → FrontReads ws → first ws ≡ Some w → wants_write w ≡ false
front_reads [] w reads is = absurd reads
front_reads (v ∷ ws) w reads is = let same : v ≡ w = cc in subst (λ (x : Wanting). wants_write x ≡ false) same reads

end_reads : (ws : List Wanting) (v : Wanting) → FrontReads ws → FrontReads (ws ++ v ∷ [])
end_reads [] v reads = absurd reads
end_reads (w ∷ ws) v reads = reads

-- the line before those leave who no longer stay
abbrev next_line : Act → List Act → List Wanting
next_line a past = joined (side a.host past) a.host a.effect (line past)

next_below : (hosts h : ℕ) (e : ActEffect) (s : Side) (ws : List Wanting) → HeardOn hosts h e → AreBelow hosts ws → AreBelow hosts (joined s h e ws)
next_below hosts h (TakenUp (Asking asker access)) s ws heard small = end_below hosts ws (record { host = h; upgrade = false; access = access }) heard small
next_below hosts h (TakenUp (Unlocking access)) s ws heard small = by (s.holds == 1 && s.awaits == 0)
  where
    by : (b : Bool) → AreBelow hosts (if b then ws ++ record { host = h; upgrade = true; access = 3 } ∷ [] else ws)
    by true = end_below hosts ws (record { host = h; upgrade = true; access = 3 }) heard small
    by false = small
next_below hosts h (SentDown control (Supplying lock precious bytes)) s ws heard small = without_below hosts h ws small
next_below hosts h (TakenUp (Returning dirty keep bytes)) s ws heard small = small
next_below hosts h (TakenUp (Doing control count)) s ws heard small = small
next_below hosts h (TakenUp (Ending control)) s ws heard small = small
next_below hosts h (TakenUp OtherUp) s ws heard small = small
next_below hosts h (SentDown control (Locking count returns flush lock reply)) s ws heard small = small
next_below hosts h (SentDown control Lacking) s ws heard small = small
next_below hosts h (SentDown control Failing) s ws heard small = small
next_below hosts h (SentDown control Readying) s ws heard small = small
next_below hosts h (SentDown control OtherDown) s ws heard small = small
next_below hosts h e s ws heard small = small

next_reads : (h : ℕ) (e : ActEffect) (s : Side) (ws : List Wanting) → GivesNone e → FrontReads ws → FrontReads (joined s h e ws)
next_reads h (TakenUp (Asking asker access)) s ws none reads = end_reads ws (record { host = h; upgrade = false; access = access }) reads
next_reads h (TakenUp (Unlocking access)) s ws none reads = by (s.holds == 1 && s.awaits == 0)
  where
    by : (b : Bool) → FrontReads (if b then ws ++ record { host = h; upgrade = true; access = 3 } ∷ [] else ws)
    by true = end_reads ws (record { host = h; upgrade = true; access = 3 }) reads
    by false = reads
next_reads h (SentDown control (Supplying lock precious bytes)) s ws none reads = absurd none
next_reads h (TakenUp (Returning dirty keep bytes)) s ws none reads = reads
next_reads h (TakenUp (Doing control count)) s ws none reads = reads
next_reads h (TakenUp (Ending control)) s ws none reads = reads
next_reads h (TakenUp OtherUp) s ws none reads = reads
next_reads h (SentDown control (Locking count returns flush lock reply)) s ws none reads = reads
next_reads h (SentDown control Lacking) s ws none reads = reads
next_reads h (SentDown control Failing) s ws none reads = reads
next_reads h (SentDown control Readying) s ws none reads = reads
next_reads h (SentDown control OtherDown) s ws none reads = reads
next_reads h e s ws none reads = reads

-- such a front stays
trimmed_reads : (h holds : ℕ) (ws : List Wanting) → FrontReads ws → FrontReads (trimmed_line h holds ws)
trimmed_reads h holds [] reads = absurd reads
trimmed_reads h holds (w ∷ ws) reads = by (w.host == h) w.upgrade reads
  where
    by : (own up : Bool) → (if up then true else w.access == 3) ≡ false → FrontReads (if (if own then (if up then holds == 1 else true) else true)
        then w ∷ trimmed_line h holds ws else trimmed_line h holds ws)
    by own true is = absurd (let bad : true ≡ false = is in cc)
    by true false is = reads
    by false false is = reads

-- who is given the page is the front
supply_below : (hosts h lock : ℕ) (past : List Act) (ws : List Wanting) → AreBelow hosts ws → SupplyRow h lock past (first ws) → h < hosts
supply_below hosts h lock past [] small row = absurd row
supply_below hosts h lock past (w ∷ ws) small row = subst (λ k. k < hosts) row.0 small.0

upgrade_below : (hosts h : ℕ) (ws : List Wanting) → AreBelow hosts ws → UpgradeRow h (first ws) → h < hosts
upgrade_below hosts h [] small row = absurd row
upgrade_below hosts h (w ∷ ws) small row = subst (λ k. k < hosts) row.0 small.0

recall_reads : (h lock holds : ℕ) (ws : List Wanting) → RecallRow h false lock holds (first ws) → FrontReads ws
recall_reads h lock holds [] row = absurd row
recall_reads h lock holds (w ∷ ws) row = row.2

-- who holds the page after an act held it before, or was the front
own_holder : (size hosts h : ℕ) (e : ActEffect) (past : List Act) → Cause size h e past → Stands hosts past
    → 0 < (side_after (side h past) e).holds → h < hosts
own_holder size hosts h (Opens control ready) past c k some = k.holders h some
own_holder size hosts h (SendsUp control word) past c k some = k.holders h (same word (side h past) some)
  where
    same : (word : UpWord) (s : Side) → 0 < (side_sent_up s word).holds → 0 < s.holds
    same word s some = grind arith
own_holder size hosts h (TakenUp word) past c k some = k.holders h (same word (side h past) some)
  where
    same : (word : UpWord) (s : Side) → 0 < (side_after s (TakenUp word)).holds → 0 < s.holds
    same word s some = grind (arith, nat_tests)
own_holder size hosts h (SentDown control (Supplying lock precious bytes)) past c k some = supply_below hosts h lock past (line past) k.below c.4
own_holder size hosts h (SentDown control (Locking count returns flush lock true)) past c k some = k.holders h c.4
own_holder size hosts h (SentDown control (Locking count returns flush lock false)) past c k some = upgrade_below hosts h (line past) k.below c.7
own_holder size hosts h (SentDown control Lacking) past c k some = k.holders h some
own_holder size hosts h (SentDown control Failing) past c k some = k.holders h some
own_holder size hosts h (SentDown control Readying) past c k some = k.holders h some
own_holder size hosts h (SentDown control OtherDown) past c k some = k.holders h some
own_holder size hosts h (TakesDown control word) past c k some = k.holders h (same word (side h past) (is_open_to (side h past) control) some)
  where
    same : (word : DownWord) (s : Side) (b : Bool) → 0 < (if b then side_taken_down s word else record s { step = 0 }).holds → 0 < s.holds
    same word s b some = grind arith
own_holder size hosts h (Puts bytes dirty) past c k some = k.holders h some
own_holder size hosts h Drops past c k some = k.holders h some
own_holder size hosts h (Begins task store at bytes value) past c k some = k.holders h some
own_holder size hosts h (Loads task value) past c k some = k.holders h some
own_holder size hosts h (Stores task at bytes value) past c k some = k.holders h some
own_holder size hosts h (Fails task) past c k some = k.holders h some
own_holder size hosts h (BeginsCopy task times) past c k some = k.holders h some
own_holder size hosts h (Copies task) past c k some = k.holders h some
own_holder size hosts h (EndsCopy task) past c k some = k.holders h some
own_holder size hosts h StepBegins past c k some = k.holders h some
own_holder size hosts h Nothing past c k some = k.holders h some

-- who is awaited for a lock without flush was so, or is sent it for a front that reads; where a page is given nobody is awaited
own_awaited : (size h : ℕ) (e : ActEffect) (past : List Act) → Cause size h e past → GivesNone e → (side_after (side h past) e).awaits ≡ 1
    → ((side h past).awaits ≡ 1 → FrontReads (line past)) → FrontReads (line past)
own_awaited size h (Opens control ready) past c none is old = old is
own_awaited size h (SendsUp control word) past c none is old = old (same word (side h past) is)
  where
    same : (word : UpWord) (s : Side) → (side_sent_up s word).awaits ≡ 1 → s.awaits ≡ 1
    same word s is = grind arith
own_awaited size h (TakenUp word) past c none is old = old (same word (side h past) is)
  where
    same : (word : UpWord) (s : Side) → (side_after s (TakenUp word)).awaits ≡ 1 → s.awaits ≡ 1
    same word s is = grind (arith, nat_tests)
own_awaited size h (SentDown control (Supplying lock precious bytes)) past c none is old = absurd none
own_awaited size h (SentDown control (Locking count returns true lock true)) past c none is old =
    absurd (let bad : ◌≡◌ {A = ℕ} 2 1 = is in omega (arith, bad))
own_awaited size h (SentDown control (Locking count returns false lock true)) past c none is old = recall_reads h lock (side h past).holds (line past) c.5
own_awaited size h (SentDown control (Locking count returns flush lock false)) past c none is old = absurd (let bad : false ≡ true = none.0 in cc)
own_awaited size h (SentDown control Lacking) past c none is old = old is
own_awaited size h (SentDown control Failing) past c none is old = old is
own_awaited size h (SentDown control Readying) past c none is old = old is
own_awaited size h (SentDown control OtherDown) past c none is old = old is
own_awaited size h (TakesDown control word) past c none is old = old (same word (side h past) (is_open_to (side h past) control) is)
  where
    same : (word : DownWord) (s : Side) (b : Bool) → (if b then side_taken_down s word else record s { step = 0 }).awaits ≡ 1 → s.awaits ≡ 1
    same word s b is = grind arith
own_awaited size h (Puts bytes dirty) past c none is old = old is
own_awaited size h Drops past c none is old = old is
own_awaited size h (Begins task store at bytes value) past c none is old = old is
own_awaited size h (Loads task value) past c none is old = old is
own_awaited size h (Stores task at bytes value) past c none is old = old is
own_awaited size h (Fails task) past c none is old = old is
own_awaited size h (BeginsCopy task times) past c none is old = old is
own_awaited size h (Copies task) past c none is old = old is
own_awaited size h (EndsCopy task) past c none is old = old is
own_awaited size h StepBegins past c none is old = old is
own_awaited size h Nothing past c none is old = old is

-- an act gives nobody the page, or nobody is awaited before and after
gives_or : (size h : ℕ) (e : ActEffect) (past : List Act) → Cause size h e past
    → GivesNone e ⊎ (NobodyAwaited past × ((s : Side) → (side_after s e).awaits ≡ s.awaits))
gives_or size h (SentDown control (Supplying lock precious bytes)) past c = inr (c.2, λ s. refl)
gives_or size h (SentDown control (Locking count returns flush lock true)) past c = inl (refl, c.2)
gives_or size h (SentDown control (Locking count returns flush lock false)) past c = inr (c.5, λ s. refl)
gives_or size h (SentDown control Lacking) past c = inl tt
gives_or size h (SentDown control Failing) past c = inl tt
gives_or size h (SentDown control Readying) past c = inl tt
gives_or size h (SentDown control OtherDown) past c = inl tt
gives_or size h e past c = inl tt

none_awaited : (a : Act) (past : List Act) → NobodyAwaited past → ((s : Side) → (side_after s a.effect).awaits ≡ s.awaits) → (g : ℕ)
    → (side g (a ∷ past)).awaits ≡ 0
none_awaited a past unawaited same g = elim (ℕ_discrete a.host g) [
  | yes is ↦ subst (λ k. (side k (a ∷ past)).awaits ≡ 0) is
      (ap (λ (s : Side). s.awaits) (own_side a past) ∙ same (side a.host past) ∙ unawaited a.host)
  | no isnt ↦ other_awaits g a past isnt ∙ unawaited g
]

-- the front reads still
reads_on : (a : Act) (past : List Act) → GivesNone a.effect → FrontReads (line past) → FrontReads (line (a ∷ past))
reads_on a past none reads =
    trimmed_reads a.host (side a.host (a ∷ past)).holds (next_line a past) (next_reads a.host a.effect (side a.host past) (line past) none reads)

read_before : (size hosts : ℕ) (a : Act) (past : List Act) → Cause size a.host a.effect past → Stands hosts past → GivesNone a.effect → (g : ℕ)
    → (side g (a ∷ past)).awaits ≡ 1 → FrontReads (line past)
read_before size hosts a past c k none g one = elim (ℕ_discrete a.host g) [
  | yes is ↦ own_awaited size a.host a.effect past c none
      (sym (ap (λ (s : Side). s.awaits) (own_side a past)) ∙ subst (λ j. (side j (a ∷ past)).awaits ≡ 1) (sym is) one) (k.reading a.host)
  | no isnt ↦ k.reading g (sym (other_awaits g a past isnt) ∙ one)
]

reading_after : (size hosts : ℕ) (a : Act) (past : List Act) → Cause size a.host a.effect past → Stands hosts past → (g : ℕ)
    → (side g (a ∷ past)).awaits ≡ 1 → FrontReads (line (a ∷ past))
reading_after size hosts a past c k g one = elim (gives_or size a.host a.effect past c) [
  | inl none ↦ reads_on a past none (read_before size hosts a past c k none g one)
  | inr unawaited ↦
      let none : (side g (a ∷ past)).awaits ≡ 0 = none_awaited a past unawaited.0 unawaited.1 g in
      absurd (omega (arith, one, none))
]

holders_after : (size hosts : ℕ) (a : Act) (past : List Act) → Cause size a.host a.effect past → Stands hosts past → (g : ℕ)
    → 0 < (side g (a ∷ past)).holds → g < hosts
holders_after size hosts a past c k g some = elim (ℕ_discrete a.host g) [
  | yes is ↦ subst (λ j. j < hosts) is (own_holder size hosts a.host a.effect past c k
      (subst (λ n. 0 < n) (ap (λ (s : Side). s.holds) (own_side a past)) (subst (λ j. 0 < (side j (a ∷ past)).holds) (sym is) some)))
  | no isnt ↦ k.holders g (subst (λ n. 0 < n) (other_holds g a past isnt) some)
]

pub stands : (size hosts : ℕ) (past : List Act) → ActsLicensed size past → AllHeard hosts past → Stands hosts past
stands size hosts [] licensed heard =
    record {
      below = tt;
      holders = λ g some. absurd (omega (arith, some));
      reading = λ g one. absurd (let bad : ◌≡◌ {A = ℕ} 0 1 = one in omega (arith, bad));
    }
stands size hosts (a ∷ past) licensed heard =
    let k : Stands hosts past = stands size hosts past licensed.1 heard.1 in
    record {
      below = trimmed_below hosts a.host (side a.host (a ∷ past)).holds (next_line a past)
          (next_below hosts a.host a.effect (side a.host past) (line past) heard.0 k.below);
      holders = holders_after size hosts a past licensed.0 k;
      reading = reading_after size hosts a past licensed.0 k;
    }

-- The law of one page.

-- what an act adds at most
abbrev pub taken : ℕ → ActEffect → ℕ
taken hosts (TakenUp (Asking asker access)) = wish_weight hosts
taken hosts (TakenUp (Unlocking access)) = wish_weight hosts
taken hosts e = 0

-- what an act takes away at least
abbrev pub sent : ActEffect → ℕ
sent (SentDown control (Supplying lock precious bytes)) = 1
sent (SentDown control (Locking count returns flush lock reply)) = count + 2
sent e = 0

-- where nobody is given the page the line loses nothing but those who leave
ungiven : (hosts : ℕ) (a : Act) (past : List Act) (ws : List Wanting) → GivesNone a.effect → Stands hosts past → AreBelow hosts ws
    → (FrontReads (line past) → FrontReads ws) → next_line a past ≡ ws → weight hosts (a ∷ past) ≤ line_weight hosts past ws
ungiven hosts a past ws none k small reads is =
    subst (λ vs. line_weight hosts (a ∷ past) (trimmed_line a.host (side a.host (a ∷ past)).holds vs) ≤ line_weight hosts past ws) (sym is)
    (line_less hosts a.host (side a.host (a ∷ past)).holds (a ∷ past) past ws small
    (λ w front. each_less a past w none (λ one. front_reads ws w (reads (k.reading a.host one)) front)))

joins_end : (hosts : ℕ) (a : Act) (past : List Act) (v : Wanting) → GivesNone a.effect → Stands hosts past → v.host < hosts
    → next_line a past ≡ line past ++ v ∷ [] → weight hosts (a ∷ past) ≤ weight hosts past + wish_weight hosts
joins_end hosts a past v none k small is =
    let less = ungiven hosts a past (line past ++ v ∷ []) none k (end_below hosts (line past) v small k.below) (end_reads (line past) v) is in
    let more = end_most hosts past (line past) v small in
    omega (arith, less, more)

joins_none : (hosts : ℕ) (a : Act) (past : List Act) → GivesNone a.effect → Stands hosts past → next_line a past ≡ line past
    → weight hosts (a ∷ past) ≤ weight hosts past
joins_none hosts a past none k is = ungiven hosts a past (line past) none k k.below (λ reads. reads) is

unlocks : (hosts h access : ℕ) (past : List Act) → h < hosts → Stands hosts past
    → weight hosts (act h (TakenUp (Unlocking access)) ∷ past) ≤ weight hosts past + wish_weight hosts
unlocks hosts h access past heard k = by ((side h past).holds == 1 && (side h past).awaits == 0) refl
  where
    v : Wanting
    v = record { host = h; upgrade = true; access = 3 }

    by : (b : Bool) → ((side h past).holds == 1 && (side h past).awaits == 0) ≡ b
        → weight hosts (act h (TakenUp (Unlocking access)) ∷ past) ≤ weight hosts past + wish_weight hosts
    by true is = joins_end hosts (act h (TakenUp (Unlocking access))) past v tt k heard (ap (λ (b : Bool). if b then line past ++ v ∷ [] else line past) is)
    by false is =
        let less = joins_none hosts (act h (TakenUp (Unlocking access))) past tt k (ap (λ (b : Bool). if b then line past ++ v ∷ [] else line past) is) in
        omega (arith, less)

-- What is sent. A supply takes the front's request out of the line.
supplied_front : (hosts h holds lock : ℕ) (after before past : List Act) (ws : List Wanting) → AreBelow hosts ws → SupplyRow h lock past (first ws)
    → line_weight hosts after (trimmed_line h holds (without_request h ws)) + 1 ≤ line_weight hosts before ws
supplied_front hosts h holds lock after before past [] small row = absurd row
supplied_front hosts h holds lock after before past (w ∷ ws) small row = by (w.host == h) w.upgrade (found w.host h row.0) row.1
  where
    found : (a b : ℕ) → a ≡ b → (a == b) ≡ true
    found a b is = grind (arith, nat_tests)

    by : (own up : Bool) → own ≡ true → up ≡ false → line_weight hosts after (trimmed_line h holds (if own then (if up then w ∷ without_request h ws else ws)
        else w ∷ without_request h ws)) + 1 ≤ line_weight hosts before (w ∷ ws)
    by true false one two = let most = trimmed_most hosts h holds after ws small.1 in omega (arith, most)
    by true true one two = absurd (let bad : true ≡ false = two in cc)
    by false up one two = absurd (let bad : false ≡ true = one in cc)

-- a lock without a reply lets the front's upgrade leave
upgraded_front : (hosts h holds : ℕ) (after before : List Act) (ws : List Wanting) → AreBelow hosts ws → UpgradeRow h (first ws) → holds ≡ 2
    → line_weight hosts after (trimmed_line h holds ws) + 3 ≤ line_weight hosts before ws
upgraded_front hosts h holds after before [] small row two = absurd row
upgraded_front hosts h holds after before (w ∷ ws) small row two =
    by (stays h holds w) (left w.host h holds w.upgrade row.0 row.1 two) (trimmed_most hosts h holds after ws small.1)
  where
    left : (a b holds : ℕ) (up : Bool) → a ≡ b → up ≡ true → holds ≡ 2 → (if a == b then (if up then holds == 1 else true) else true) ≡ false
    left a b holds up is one two = grind (arith, nat_tests)

    by : (b : Bool) → b ≡ false → line_weight hosts after (trimmed_line h holds ws) ≤ wish_weight hosts * length ws
        → line_weight hosts after (if b then w ∷ trimmed_line h holds ws else trimmed_line h holds ws) + 3 ≤ line_weight hosts before (w ∷ ws)
    by true is most = absurd (let bad : true ≡ false = is in cc)
    by false is most = omega (arith, most)

-- a lock with a reply calls back a host that the front wants called
abbrev recalls_from : (own write some two : Bool) → ℕ
recalls_from own write some two = if not own && (true && (if write then some else two)) then 1 else 0

recall_called : (w : Wanting) (h holds : ℕ) (flush : Bool) (lock : ℕ) → 0 < holds → RecallRow h flush lock holds (Some w) → calls w h holds 0 ≡ 1
recall_called w h holds flush lock some row =
    by flush (h == w.host) (wants_write w) (nat_lt 0 holds) (holds == 2) (apart flush row) some_is (write flush row) (two flush row)
  where
    apart_is : (a b : ℕ) → b ≢ a → (a == b) ≡ false
    apart_is a b isnt = grind (arith, nat_tests)

    apart : (flush : Bool) → RecallRow h flush lock holds (Some w) → (h == w.host) ≡ false
    apart true row = apart_is h w.host row.0
    apart false row = apart_is h w.host row.0

    some_is : nat_lt 0 holds ≡ true
    some_is = grind (arith, nat_tests)

    write : (flush : Bool) → RecallRow h flush lock holds (Some w) → wants_write w ≡ flush
    write true row = row.2
    write false row = row.2

    two_is : (n : ℕ) → n ≡ 2 → (n == 2) ≡ true
    two_is n is = grind (arith, nat_tests)

    two : (flush : Bool) → RecallRow h flush lock holds (Some w) → flush ≡ false → (holds == 2) ≡ true
    two true row is = absurd (let bad : true ≡ false = is in cc)
    two false row is = two_is holds row.3

    by : (flush own writes some twice : Bool) → own ≡ false → some ≡ true → writes ≡ flush → (flush ≡ false → twice ≡ true)
        → recalls_from own writes some twice ≡ 1
    by flush true writes some twice one there is was = absurd (let bad : true ≡ false = one in cc)
    by flush false writes false twice one there is was = absurd (let bad : false ≡ true = there in cc)
    by true false true true twice one there is was = refl
    by true false false true twice one there is was = absurd (let bad : false ≡ true = is in cc)
    by false false true true twice one there is was = absurd (let bad : true ≡ false = is in cc)
    by false false false true twice one there is was = ap (λ (b : Bool). recalls_from false false true b) (was refl)

recalled_front : (hosts h holds : ℕ) (flush : Bool) (lock : ℕ) (after before : List Act) (ws : List Wanting) → AreBelow hosts ws → h < hosts
    → 0 < (side h before).holds → (side h before).awaits ≡ 0 → 0 < (side h after).awaits → RecallRow h flush lock (side h before).holds (first ws)
    → ((w : Wanting) → first ws ≡ Some w → (g : ℕ) → called w g after ≤ called w g before)
    → line_weight hosts after (trimmed_line h holds ws) + 3 ≤ line_weight hosts before ws
recalled_front hosts h holds true lock after before [] small below some none now row less = absurd row
recalled_front hosts h holds false lock after before [] small below some none now row less = absurd row
recalled_front hosts h holds flush lock after before (w ∷ ws) small below some none now row less =
    let is : calls w h (side h before).holds (side h before).awaits ≡ 1 =
    subst (λ n. calls w h (side h before).holds n ≡ 1) (sym none) (recall_called w h (side h before).holds flush lock some row) in
    let gone = awaited_uncalled w h (side h after).holds (side h after).awaits now in
    let front = recallable_fewer w after before hosts h below (less w refl) gone is in
    front_less hosts h holds 1 after before w ws small.1 (omega arith) front

-- What an act adds is at most what one who joins costs, and what it sends is paid by the line.
recalls_pay : (size hosts h control count returns : ℕ) (flush : Bool) (lock : ℕ) (past : List Act)
    → ReplyCause size h control (Locking count returns flush lock true) past → Stands hosts past
    → weight hosts (act h (SentDown control (Locking count returns flush lock true)) ∷ past) + (count + 2) ≤ weight hosts past
recalls_pay size hosts h control count returns flush lock past c k =
    let a : Act = act h (SentDown control (Locking count returns flush lock true)) in
    let paid = recalled_front hosts h (side h (a ∷ past)).holds flush lock (a ∷ past) past (line past) k.below (k.holders h c.4) c.4 c.3 now c.5
    (λ w front. each_less a past w (refl, c.2) (λ one. front_reads (line past) w (k.reading h one) front)) in
    let one = c.1 in
    omega (arith, paid, one)
  where
    kind_some : (b : Bool) → 0 < kind_of b
    kind_some true = omega arith
    kind_some false = omega arith

    now : 0 < (side h (act h (SentDown control (Locking count returns flush lock true)) ∷ past)).awaits
    now = subst (λ (s : Side). 0 < s.awaits) (sym (own_side (act h (SentDown control (Locking count returns flush lock true))) past)) (kind_some flush)

upgrades_pay : (size hosts h control count returns : ℕ) (flush : Bool) (lock : ℕ) (past : List Act)
    → ReplyCause size h control (Locking count returns flush lock false) past → Stands hosts past
    → weight hosts (act h (SentDown control (Locking count returns flush lock false)) ∷ past) + (count + 2) ≤ weight hosts past
upgrades_pay size hosts h control count returns flush lock past c k =
    let a : Act = act h (SentDown control (Locking count returns flush lock false)) in
    let paid = upgraded_front hosts h (side h (a ∷ past)).holds (a ∷ past) past (line past) k.below c.7
    (ap (λ (s : Side). s.holds) (own_side a past) ∙ two returns (side h past).holds c.2) in
    let one = c.1 in
    omega (arith, paid, one)
  where
    two : (n holds : ℕ) → n ≡ 0 → (if n == 0 then 2 else holds) ≡ 2
    two n holds is = grind (arith, nat_tests)

supplies_pay : (size hosts h control lock : ℕ) (precious : Bool) (bytes : List ℕ) (past : List Act)
    → ReplyCause size h control (Supplying lock precious bytes) past → Stands hosts past
    → weight hosts (act h (SentDown control (Supplying lock precious bytes)) ∷ past) + 1 ≤ weight hosts past
supplies_pay size hosts h control lock precious bytes past c k =
    let a : Act = act h (SentDown control (Supplying lock precious bytes)) in
    supplied_front hosts h (side h (a ∷ past)).holds lock (a ∷ past) past past (line past) k.below c.4

plain : (hosts h : ℕ) (e : ActEffect) (past : List Act) → GivesNone e → Stands hosts past → joined (side h past) h e (line past) ≡ line past
    → weight hosts (act h e ∷ past) + 0 ≤ weight hosts past + 0
plain hosts h e past none k is = let less = joins_none hosts (act h e) past none k is in omega (arith, less)

act_pays : (size hosts h : ℕ) (e : ActEffect) (past : List Act) → Cause size h e past → HeardOn hosts h e → Stands hosts past
    → weight hosts (act h e ∷ past) + sent e ≤ weight hosts past + taken hosts e
act_pays size hosts h (TakenUp (Asking asker access)) past c heard k =
    let more = joins_end hosts (act h (TakenUp (Asking asker access))) past (record { host = h; upgrade = false; access = access }) tt k heard refl in
    omega (arith, more)
act_pays size hosts h (TakenUp (Unlocking access)) past c heard k = let more = unlocks hosts h access past heard k in omega (arith, more)
act_pays size hosts h (TakenUp (Returning dirty keep bytes)) past c heard k = plain hosts h (TakenUp (Returning dirty keep bytes)) past tt k refl
act_pays size hosts h (TakenUp (Doing control count)) past c heard k = plain hosts h (TakenUp (Doing control count)) past tt k refl
act_pays size hosts h (TakenUp (Ending control)) past c heard k = plain hosts h (TakenUp (Ending control)) past tt k refl
act_pays size hosts h (TakenUp OtherUp) past c heard k = plain hosts h (TakenUp OtherUp) past tt k refl
act_pays size hosts h (SentDown control (Supplying lock precious bytes)) past c heard k =
    let paid = supplies_pay size hosts h control lock precious bytes past c k in omega (arith, paid)
act_pays size hosts h (SentDown control (Locking count returns flush lock true)) past c heard k =
    let paid = recalls_pay size hosts h control count returns flush lock past c k in omega (arith, paid)
act_pays size hosts h (SentDown control (Locking count returns flush lock false)) past c heard k =
    let paid = upgrades_pay size hosts h control count returns flush lock past c k in omega (arith, paid)
act_pays size hosts h (SentDown control Lacking) past c heard k = plain hosts h (SentDown control Lacking) past tt k refl
act_pays size hosts h (SentDown control Failing) past c heard k = plain hosts h (SentDown control Failing) past tt k refl
act_pays size hosts h (SentDown control Readying) past c heard k = plain hosts h (SentDown control Readying) past tt k refl
act_pays size hosts h (SentDown control OtherDown) past c heard k = plain hosts h (SentDown control OtherDown) past tt k refl
act_pays size hosts h e past c heard k = plain hosts h e past tt k refl

pub page_pays : (size hosts : ℕ) (a : Act) (past : List Act) → ActsLicensed size (a ∷ past) → AllHeard hosts (a ∷ past)
    → weight hosts (a ∷ past) + sent a.effect ≤ weight hosts past + taken hosts a.effect
page_pays size hosts a past licensed heard = act_pays size hosts a.host a.effect past licensed.0 heard.0 (stands size hosts past licensed.1 heard.1)
