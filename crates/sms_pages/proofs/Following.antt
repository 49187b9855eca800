-- Each reply of a directory that stands for its history has a cause, and the directory stands for the history with it.
use Rattle.std.proofs.Common.{◌≡◌, ◌≢◌, ◌<◌, ◌≤◌, ◌==◌, ◌&&◌, ◌||◌, ℕ, zero, suc, List, [], ◌∷◌, ◌++◌, length, arith, refl, ap, subst, sym, ◌∙◌, Bool, true}
use Rattle.std.proofs.Common.{false, not, if◌then◌else◌, Some, inl, inr, ◌⊎◌}
use Rattle.std.specs.Prelude.{slice_index, slice_set}
use Rattle.std.specs.List.{list_all}
use Rattle.std.proofs.lemmas.Bool.Decides.{nat_tests}
use Rattle.std.proofs.lemmas.List.{get_or-set_same, get_or-set_other, get_or_past, length-set}
use native.Mathlib.Decide.{ℕ_discrete}
use Rattle.vm_model.specs.Words.{Act, SentDown, Supplying, Locking}
use Rattle.vm_model.specs.Side.{Side, side, right_of, kind_of}
use Rattle.vm_model.specs.Server.{Wanting, wants_write, first, line, trimmed_line, without_request}
use Rattle.vm_model.specs.PageLicences.{ActsLicensed, SupplyRow, UpgradeRow, RecallRow, OthersHold}
use Rattle.sms_pages.specs.declared.reply.Reply.{Reply}
use Rattle.sms_pages.specs.declared.reply.Reply.TheVariants.{Supply, Flush, CleanLock, Unlock}
use Rattle.sms_pages.specs.declared.holding.Turn.{Turn}
use Rattle.sms_pages.specs.declared.holding.Turn.TheVariants.{Leaves, Recalls, Waits, Grants}
use Rattle.sms_pages.specs.Directory.{is_recalled, any_recalled, leaves, turn, recall, recall_kind, recalls, recalled, grant, granted, Directory, Outcome}
use Rattle.sms_pages.specs.Directory.{served, IsServedDirectory}
use Rattle.vm_model.specs.Server.{NoUpgrade, NoRequest}
use Rattle.sms_pages.specs.Stands.{AllAreRecalled, count_wanting, DirectoryStands, StandsFor, lock_number, reply_act, reply_acts, Hears, ServingFollows}
use Rattle.sms_pages.specs.Stands.{RepliesHaveCause}
use Rattle.vm_model.specs.Coherence.{SomebodyIsAwaited}
use Rattle.sms_pages.proofs.Facts.{own_side, holds_set, awaits_set, holds_kept, awaits_kept, heard_kept, counted_none, counted_same, all_none}
use Rattle.sms_pages.proofs.Recalls.{recalled_above}

-- what is known so far: each reply that was sent had its cause, and the lists stand for the history with them
pub record State (size : ℕ) (heard : ℕ → ℕ) (bytes : List ℕ) (holds awaits : List ℕ) (wants : List Wanting) (past : List Act) : Type 0 where
  pub licensed : ActsLicensed size past
  pub stands : DirectoryStands size holds awaits bytes wants past
  pub hears : Hears heard past

-- the turn's cases

turn_leaves : (w : Wanting) (holds awaits : List ℕ) → turn w holds awaits ≡ Leaves → leaves w holds ≡ true
turn_leaves w holds awaits is = by (leaves w holds) refl where
  by : (l : Bool) → leaves w holds ≡ l → l ≡ true
  by true e = refl
  by false e = let at = rw e at is in absurd (grind (arith, at))

turn_stays : (w : Wanting) (holds awaits : List ℕ) (t : Turn) → t ≢ Leaves → turn w holds awaits ≡ t → leaves w holds ≡ false
turn_stays w holds awaits t apart is = by (leaves w holds) refl where
  by : (l : Bool) → leaves w holds ≡ l → l ≡ false
  by true e = let at = rw e at is in absurd (apart (sym at))
  by false e = refl

turn_recalls : (w : Wanting) (holds awaits : List ℕ) → turn w holds awaits ≡ Recalls → any_recalled w holds awaits 8 ≡ true
turn_recalls w holds awaits is = by (any_recalled w holds awaits 8) refl where
  by : (r : Bool) → any_recalled w holds awaits 8 ≡ r → r ≡ true
  by true e = refl
  by false e = let at = rw e at is in absurd (grind (arith, at))

turn_grants : (w : Wanting) (holds awaits : List ℕ) → turn w holds awaits ≡ Grants → (any_recalled w holds awaits 8 ≡ false)
    × (list_all (λ kind. kind == 0) awaits ≡ true)
turn_grants w holds awaits is = (by (any_recalled w holds awaits 8) refl, all (list_all (λ kind. kind == 0) awaits) refl) where
  by : (r : Bool) → any_recalled w holds awaits 8 ≡ r → r ≡ false
  by true e = let at = rw e at is in absurd (grind (arith, at))
  by false e = refl

  all : (a : Bool) → list_all (λ kind. kind == 0) awaits ≡ a → a ≡ true
  all true e = refl
  all false e = let at = rw e at is in absurd (grind (arith, at))

turn_waits : (w : Wanting) (holds awaits : List ℕ) → turn w holds awaits ≡ Waits → list_all (λ kind. kind == 0) awaits ≡ false
turn_waits w holds awaits is = by (list_all (λ kind. kind == 0) awaits) refl where
  by : (a : Bool) → list_all (λ kind. kind == 0) awaits ≡ a → a ≡ false
  by true e = let at = rw e at is in absurd (grind (arith, at))
  by false e = refl

-- who waits has nobody left to recall
turn_settles : (w : Wanting) (holds awaits : List ℕ) → turn w holds awaits ≡ Waits → any_recalled w holds awaits 8 ≡ false
turn_settles w holds awaits is = by (any_recalled w holds awaits 8) refl where
  by : (r : Bool) → any_recalled w holds awaits 8 ≡ r → r ≡ false
  by true e = let at = rw e at is in absurd (grind (arith, at))
  by false e = refl

-- who leaves doesn't count, and who stays is the first of the line

not_counted : (w : Wanting) (holds : List ℕ) (ws : List Wanting) → leaves w holds ≡ true → count_wanting holds (w ∷ ws) ≡ count_wanting holds ws
not_counted w holds ws is = one w (slice_index holds w.host) (count_wanting holds ws) is where
  one : (w : Wanting) (a : ℕ) (cs : List Wanting) → (w.upgrade && not (a == 1)) ≡ true → (if (if w.upgrade then a == 1 else true) then w ∷ cs else cs) ≡ cs
  one w a cs is = grind (arith, nat_tests)

is_counted : (w : Wanting) (holds : List ℕ) (ws : List Wanting) → leaves w holds ≡ false → count_wanting holds (w ∷ ws) ≡ w ∷ count_wanting holds ws
is_counted w holds ws is = one w (slice_index holds w.host) (count_wanting holds ws) is where
  one : (w : Wanting) (a : ℕ) (cs : List Wanting) → (w.upgrade && not (a == 1)) ≡ false → (if (if w.upgrade then a == 1 else true) then w ∷ cs else cs) ≡ w ∷ cs
  one w a cs is = grind (arith, nat_tests)

upgrade_reads : (w : Wanting) (holds : List ℕ) → leaves w holds ≡ false → w.upgrade ≡ true → slice_index holds w.host ≡ 1
upgrade_reads w holds is up = grind (arith, nat_tests)

-- how much the others may hold
abbrev room_for : Bool → ℕ
room_for writes = if writes then 0 else 1

-- nobody else is recalled, so the others hold no more than the front allows

any_none : (w : Wanting) (holds awaits : List ℕ) (n : ℕ) → any_recalled w holds awaits n ≡ false → (g : ℕ) → g < n
    → is_recalled w g (slice_index holds g) (slice_index awaits g) ≡ false
any_none w holds awaits zero none g lt = absurd (omega arith)
any_none w holds awaits (suc n) none g lt = elim (ℕ_discrete g n) [
  | yes is ↦ subst (λ (k : ℕ). is_recalled w k (slice_index holds k) (slice_index awaits k) ≡ false) (sym is)
      (last (any_recalled w holds awaits n) (is_recalled w n (slice_index holds n) (slice_index awaits n)) none)
  | no apart ↦ any_none w holds awaits n (front (any_recalled w holds awaits n) (is_recalled w n (slice_index holds n) (slice_index awaits n)) none) g
      (omega arith)
] where
  last : (b c : Bool) → (b || c) ≡ false → c ≡ false
  last b c is = grind arith

  front : (b c : Bool) → (b || c) ≡ false → b ≡ false
  front b c is = grind arith

allowed : (w : Wanting) (g hold await : ℕ) → is_recalled w g hold await ≡ false → await ≡ 0 → g ≢ w.host → hold ≤ 2 → hold ≤ room_for (wants_write w)
allowed w g hold await none free apart le = grind (arith, nat_tests)

others_allowed : (size : ℕ) (w : Wanting) (holds awaits bytes : List ℕ) (ws : List Wanting) (past : List Act) → DirectoryStands size holds awaits bytes ws past
    → any_recalled w holds awaits 8 ≡ false → list_all (λ kind. kind == 0) awaits ≡ true → OthersHold (room_for (wants_write w)) w.host past
others_allowed size w holds awaits bytes ws past s none free g apart =
    let same : (side g past).holds ≡ slice_index holds g = s.same_holds g in
    rw same (elim (lt_or g) [
      | inl lt ↦ allowed w g (slice_index holds g) (slice_index awaits g) (any_none w holds awaits 8 none g lt) (all_none awaits free g) apart (s.bounded g)
      | inr ge ↦ let nothing : slice_index holds g ≡ 0 = get_or_past holds g 0 (omega (arith, s.eight_hold)) in omega arith
    ]) where
      lt_or : (g : ℕ) → (g < 8) ⊎ (8 ≤ g)
      lt_or g = grind arith

-- what is set at one host

set_bounded : (holds : List ℕ) (k v : ℕ) → k < length holds → v ≤ 2 → ((g : ℕ) → slice_index holds g ≤ 2) → (g : ℕ) → slice_index (slice_set holds k v) g ≤ 2
set_bounded holds k v lt small le g = elim (ℕ_discrete g k) [
  | yes is ↦ let e : slice_index (slice_set holds k v) g ≡ v =
      subst (λ (h : ℕ). slice_index (slice_set holds k v) h ≡ v) (sym is) (get_or-set_same holds k v 0 lt) in omega arith
  | no apart ↦ let e : slice_index (slice_set holds k v) g ≡ slice_index holds g = get_or-set_other holds k g v 0 apart in omega (arith, le g)
]

set_waiting : (holds : List ℕ) (k v : ℕ) (w : Wanting) (ws : List Wanting) → NoRequest k ws → ((g : ℕ) → 0 < slice_index holds g → NoRequest g (w ∷ ws))
    → (g : ℕ) → 0 < slice_index (slice_set holds k v) g → NoRequest g ws
set_waiting holds k v w ws none was g some = elim (ℕ_discrete g k) [
  | yes is ↦ subst (λ (h : ℕ). NoRequest h ws) (sym is) none
  | no apart ↦ let e : slice_index (slice_set holds k v) g ≡ slice_index holds g = get_or-set_other holds k g v 0 apart in (was g (omega arith)).1
]

set_writing : (holds : List ℕ) (k v : ℕ) (w : Wanting) (ws : List Wanting) → NoUpgrade k ws → ((g : ℕ) → slice_index holds g ≡ 2 → NoUpgrade g (w ∷ ws))
    → (g : ℕ) → slice_index (slice_set holds k v) g ≡ 2 → NoUpgrade g ws
set_writing holds k v w ws none was g two = elim (ℕ_discrete g k) [
  | yes is ↦ subst (λ (h : ℕ). NoUpgrade h ws) (sym is) none
  | no apart ↦ let e : slice_index (slice_set holds k v) g ≡ slice_index holds g = get_or-set_other holds k g v 0 apart in (was g (omega arith)).1
]

small_grant : (w : Wanting) → granted w ≤ 2
small_grant w = grind arith

-- a grant

-- the supply of the front's request
after_supply : (size lock : ℕ) (heard : ℕ → ℕ) (bytes holds awaits : List ℕ) (w : Wanting) (ws : List Wanting) (past : List Act)
    → State size heard bytes holds awaits (w ∷ ws) past → leaves w holds ≡ false → any_recalled w holds awaits 8 ≡ false
    → list_all (λ kind. kind == 0) awaits ≡ true
    → w.upgrade ≡ false → lock ≡ (if w.access == 3 then 0 else 2)
    → State size heard bytes (slice_set holds w.host (granted w)) awaits ws (record
    { host = w.host; effect = SentDown (heard w.host) (Supplying lock false bytes) } ∷ past)
after_supply size lock heard bytes holds awaits w ws past s stays none free request is =
    record {
      licensed = ((s.hears w.host, refl, (λ g. s.stands.same_awaits g ∙ all_none awaits free g), sym s.stands.same_bytes, row), s.licensed);
      stands = record {
        same_holds =
            holds_set w.host (SentDown (heard w.host) (Supplying lock false bytes)) (granted w) holds past inside (gives w lock request is) s.stands.same_holds;
        same_awaits = awaits_kept w.host (SentDown (heard w.host) (Supplying lock false bytes)) awaits past refl s.stands.same_awaits;
        same_line =
            ap (λ (l : List Wanting). trimmed_line w.host (side w.host (act ∷ past)).holds (without_request w.host l)) front
            ∙ (ap (λ (l : List Wanting). trimmed_line w.host (side w.host (act ∷ past)).holds l) (front_gone w (count_wanting holds ws) request)
            ∙ counted_none w.host (side w.host (act ∷ past)).holds holds (slice_set holds w.host (granted w)) ws s.stands.in_turn.1
            (λ g apart. get_or-set_other holds w.host g (granted w) 0 apart));
        same_bytes = s.stands.same_bytes;
        eight_hold = length-set holds w.host (granted w) ∙ s.stands.eight_hold;
        eight_await = s.stands.eight_await;
        bounded = set_bounded holds w.host (granted w) inside (small_grant w) s.stands.bounded;
        in_turn = s.stands.in_turn.3;
        waiting = set_waiting holds w.host (granted w) w ws (s.stands.in_turn.2 request) s.stands.waiting;
        writing = set_writing holds w.host (granted w) w ws s.stands.in_turn.1 s.stands.writing;
      };
      hears = heard_kept heard w.host (heard w.host) (Supplying lock false bytes) past s.hears;
    } where
      act : Act
      act = record { host = w.host; effect = SentDown (heard w.host) (Supplying lock false bytes) }

      inside : w.host < length holds
      inside = omega (arith, s.stands.eight_hold, s.stands.in_turn.0)

      front : line past ≡ w ∷ count_wanting holds ws
      front = s.stands.same_line ∙ is_counted w holds ws stays

      front_gone : (w : Wanting) (cs : List Wanting) → w.upgrade ≡ false → without_request w.host (w ∷ cs) ≡ cs
      front_gone w cs request = grind (arith, nat_tests)

      room : (w : Wanting) → w.upgrade ≡ false → room_for (wants_write w) ≡ room_for (w.access == 3)
      room w request = grind arith

      row : SupplyRow w.host lock past (first (line past))
      row =
          subst (λ (l : List Wanting). SupplyRow w.host lock past (first l)) (sym front) (
            refl,
            request,
            is,
            subst (λ (n : ℕ). OthersHold n w.host past) (room w request)
                (others_allowed size w holds awaits bytes (w ∷ ws) past s.stands none free),
          )

      gives : (w : Wanting) (lock : ℕ) → w.upgrade ≡ false → lock ≡ (if w.access == 3 then 0 else 2) → right_of lock ≡ granted w
      gives w lock request is = grind (arith, nat_tests)

-- the unlock of the front's upgrade
after_unlock : (size : ℕ) (heard : ℕ → ℕ) (bytes holds awaits : List ℕ) (w : Wanting) (ws : List Wanting) (past : List Act)
    → State size heard bytes holds awaits (w ∷ ws) past → leaves w holds ≡ false → any_recalled w holds awaits 8 ≡ false
    → list_all (λ kind. kind == 0) awaits ≡ true
    → w.upgrade ≡ true
    → State size heard bytes (slice_set holds w.host (granted w)) awaits ws (record
    { host = w.host; effect = SentDown (heard w.host) (Locking 1 0 false 0 false) } ∷ past)
after_unlock size heard bytes holds awaits w ws past s stays none free up =
    record {
      licensed = ((s.hears w.host, refl, refl, refl, refl, (λ g. s.stands.same_awaits g ∙ all_none awaits free g), alone, row), s.licensed);
      stands = record {
        same_holds = holds_set w.host (SentDown (heard w.host) (Locking 1 0 false 0 false)) (granted w) holds past inside (gives w up) s.stands.same_holds;
        same_awaits = awaits_kept w.host (SentDown (heard w.host) (Locking 1 0 false 0 false)) awaits past refl s.stands.same_awaits;
        same_line =
            ap (λ (l : List Wanting). trimmed_line w.host (side w.host (act ∷ past)).holds l) front
            ∙ (front_gone w (side w.host (act ∷ past)).holds (count_wanting holds ws) up writes
            ∙ counted_none w.host (side w.host (act ∷ past)).holds holds (slice_set holds w.host (granted w)) ws s.stands.in_turn.1
            (λ g apart. get_or-set_other holds w.host g (granted w) 0 apart));
        same_bytes = s.stands.same_bytes;
        eight_hold = length-set holds w.host (granted w) ∙ s.stands.eight_hold;
        eight_await = s.stands.eight_await;
        bounded = set_bounded holds w.host (granted w) inside (small_grant w) s.stands.bounded;
        in_turn = s.stands.in_turn.3;
        waiting = set_waiting holds w.host (granted w) w ws (s.stands.waiting w.host reads).1 s.stands.waiting;
        writing = set_writing holds w.host (granted w) w ws s.stands.in_turn.1 s.stands.writing;
      };
      hears = heard_kept heard w.host (heard w.host) (Locking 1 0 false 0 false) past s.hears;
    } where
      act : Act
      act = record { host = w.host; effect = SentDown (heard w.host) (Locking 1 0 false 0 false) }

      inside : w.host < length holds
      inside = omega (arith, s.stands.eight_hold, s.stands.in_turn.0)

      reads : 0 < slice_index holds w.host
      reads = omega (arith, upgrade_reads w holds stays up)

      front : line past ≡ w ∷ count_wanting holds ws
      front = s.stands.same_line ∙ is_counted w holds ws stays

      front_gone : (w : Wanting) (x : ℕ) (cs : List Wanting) → w.upgrade ≡ true → x ≡ 2 → trimmed_line w.host x (w ∷ cs) ≡ trimmed_line w.host x cs
      front_gone w x cs up two = grind (arith, nat_tests)

      none_room : (w : Wanting) → w.upgrade ≡ true → room_for (wants_write w) ≡ 0
      none_room w up = grind arith

      alone : OthersHold 0 w.host past
      alone = subst (λ (n : ℕ). OthersHold n w.host past) (none_room w up) (others_allowed size w holds awaits bytes (w ∷ ws) past s.stands none free)

      row : UpgradeRow w.host (first (line past))
      row = subst (λ (l : List Wanting). UpgradeRow w.host (first l)) (sym front) (refl, up)

      gives : (w : Wanting) → w.upgrade ≡ true → 2 ≡ granted w
      gives w up = grind arith

      writes : (side w.host (act ∷ past)).holds ≡ 2
      writes = ap (λ (t : Side). t.holds) (own_side w.host (SentDown (heard w.host) (Locking 1 0 false 0 false)) past)

-- the recalls

abbrev recall_act : (ℕ → ℕ) → ℕ → ℕ → Bool → Act
recall_act heard n lock flush = record { host = n; effect = SentDown (heard n) (Locking 1 1 flush lock true) }

-- one recall
after_recall : (size n lock kind : ℕ) (flush : Bool) (heard : ℕ → ℕ) (bytes holds awaits : List ℕ) (w : Wanting) (ws : List Wanting) (past : List Act)
    → State size heard bytes holds awaits (w ∷ ws) past → leaves w holds ≡ false → n < 8 → slice_index awaits n ≡ 0 → 0 < slice_index holds n
    → RecallRow n flush lock (slice_index holds n) (Some w) → kind_of flush ≡ kind
    → State size heard bytes holds (slice_set awaits n kind) (w ∷ ws) (recall_act heard n lock flush ∷ past)
after_recall size n lock kind flush heard bytes holds awaits w ws past s stays lt free some row is =
    record {
      licensed = ((s.hears n, refl, refl, s.stands.same_awaits n ∙ free, subst (λ (m : ℕ). 0 < m) (sym (s.stands.same_holds n)) some, answers), s.licensed);
      stands = record {
        same_holds = same_holds;
        same_awaits =
            awaits_set n (SentDown (heard n) (Locking 1 1 flush lock true)) kind awaits past (omega (arith, s.stands.eight_await)) is s.stands.same_awaits;
        same_line =
            ap (λ (l : List Wanting). trimmed_line n (side n (recall_act heard n lock flush ∷ past)).holds l) s.stands.same_line
            ∙ counted_same n (side n (recall_act heard n lock flush ∷ past)).holds holds (w ∷ ws) (sym (same_holds n));
        same_bytes = s.stands.same_bytes;
        eight_hold = s.stands.eight_hold;
        eight_await = length-set awaits n kind ∙ s.stands.eight_await;
        bounded = s.stands.bounded;
        in_turn = s.stands.in_turn;
        waiting = s.stands.waiting;
        writing = s.stands.writing;
      };
      hears = heard_kept heard n (heard n) (Locking 1 1 flush lock true) past s.hears;
    } where
      front : line past ≡ w ∷ count_wanting holds ws
      front = s.stands.same_line ∙ is_counted w holds ws stays

      answers : RecallRow n flush lock (side n past).holds (first (line past))
      answers =
          subst (λ (l : List Wanting). RecallRow n flush lock (side n past).holds (first l)) (sym front)
          (subst (λ (m : ℕ). RecallRow n flush lock m (Some w)) (sym (s.stands.same_holds n)) row)

      same_holds : (g : ℕ) → (side g (recall_act heard n lock flush ∷ past)).holds ≡ slice_index holds g
      same_holds = holds_kept n (SentDown (heard n) (Locking 1 1 flush lock true)) holds past refl s.stands.same_holds

-- who is recalled

recalled_facts : (w : Wanting) (n hold await : ℕ) → is_recalled w n hold await ≡ true → (w.host ≢ n) × (await ≡ 0) × (0 < hold)
    × (wants_write w ≡ false → hold ≡ 2)
recalled_facts w n hold await is =
    (λ same. absurd (grind (arith, nat_tests)), grind (arith, nat_tests), grind (arith, nat_tests), λ reads. grind (arith, nat_tests))

after_recall_of : (size n : ℕ) (b : Bool) (heard : ℕ → ℕ) (bytes holds awaits : List ℕ) (w : Wanting) (ws : List Wanting) (past : List Act)
    → State size heard bytes holds awaits (w ∷ ws) past → leaves w holds ≡ false → n < 8 → is_recalled w n (slice_index holds n) (slice_index awaits n) ≡ true
    → wants_write w ≡ b
    → State size heard bytes holds (slice_set awaits n (if b then 2 else 1)) (w ∷ ws)
    (reply_act heard (if b then Flush (record { 0 = n }) else CleanLock (record { 0 = n })) ∷ past)
after_recall_of size n true heard bytes holds awaits w ws past s stays lt is writes =
    let f = recalled_facts w n (slice_index holds n) (slice_index awaits n) is in
    after_recall size n 8 2 true heard bytes holds awaits w ws past s stays lt f.1 f.2 (f.0, refl, writes) refl
after_recall_of size n false heard bytes holds awaits w ws past s stays lt is reads =
    let f = recalled_facts w n (slice_index holds n) (slice_index awaits n) is in
    after_recall size n 2 1 false heard bytes holds awaits w ws past s stays lt f.1 f.2 (f.0, refl, reads, f.3 reads) refl

recall_step : (size n : ℕ) (b : Bool) (heard : ℕ → ℕ) (bytes holds awaits : List ℕ) (w : Wanting) (ws : List Wanting) (rs : List Reply) (past : List Act)
    → State size heard bytes holds awaits (w ∷ ws) (reply_acts heard rs ++ past) → leaves w holds ≡ false → n < 8
    → is_recalled w n (slice_index holds n) (slice_index awaits n) ≡ b
    → State size heard bytes holds (if b then slice_set awaits n (recall_kind w) else awaits) (w ∷ ws)
    (reply_acts heard (if b then recall w n ∷ rs else rs) ++ past)
recall_step size n true heard bytes holds awaits w ws rs past s stays lt is =
    after_recall_of size n (wants_write w) heard bytes holds awaits w ws (reply_acts heard rs ++ past) s stays lt is refl
recall_step size n false heard bytes holds awaits w ws rs past s stays lt is = s

after_recalls : (size : ℕ) (heard : ℕ → ℕ) (bytes holds awaits : List ℕ) (w : Wanting) (ws : List Wanting) (past : List Act) (n : ℕ)
    → State size heard bytes holds awaits (w ∷ ws) past → leaves w holds ≡ false → n ≤ 8
    → State size heard bytes holds (recalled w holds awaits n) (w ∷ ws) (reply_acts heard (recalls w holds awaits n) ++ past)
after_recalls size heard bytes holds awaits w ws past zero s stays le = s
after_recalls size heard bytes holds awaits w ws past (suc n) s stays le =
    let before = after_recalls size heard bytes holds awaits w ws past n s stays (omega arith) in
    let same : slice_index (recalled w holds awaits n) n ≡ slice_index awaits n = recalled_above w holds awaits n n (omega arith) in
    recall_step size n (is_recalled w n (slice_index holds n) (slice_index awaits n)) heard bytes holds (recalled w holds awaits n) w ws
    (recalls w holds awaits n) past before stays (omega arith)
    (ap (λ (m : ℕ). is_recalled w n (slice_index holds n) m) same)

-- the whole line

acts_append : (heard : ℕ → ℕ) (rs qs : List Reply) (past : List Act)
    → reply_acts heard (rs ++ qs) ++ past ≡ reply_acts heard rs ++ (reply_acts heard qs ++ past)
acts_append heard [] qs past = refl
acts_append heard (r ∷ rs) qs past = ap (λ (l : List Act). reply_act heard r ∷ l) (acts_append heard rs qs past)

after_grant : (size : ℕ) (b : Bool) (heard : ℕ → ℕ) (bytes holds awaits : List ℕ) (w : Wanting) (ws : List Wanting) (past : List Act)
    → State size heard bytes holds awaits (w ∷ ws) past → leaves w holds ≡ false → any_recalled w holds awaits 8 ≡ false
    → list_all (λ kind. kind == 0) awaits ≡ true
    → w.upgrade ≡ b
    → State size heard bytes (slice_set holds w.host (granted w)) awaits ws (reply_act heard
    (if b then Unlock (record { 0 = w.host }) else Supply (record { 0 = w.host }) (record { read = false; write = not (wants_write w) }) bytes) ∷ past)
after_grant size true heard bytes holds awaits w ws past s stays none free up = after_unlock size heard bytes holds awaits w ws past s stays none free up
after_grant size false heard bytes holds awaits w ws past s stays none free request =
    after_supply size (lock_number (record { read = false; write = not (wants_write w) })) heard bytes holds awaits w ws past s stays none free request
    (lock_is w request) where
      lock_is : (w : Wanting) → w.upgrade ≡ false → lock_number (record { read = false; write = not (wants_write w) }) ≡ (if w.access == 3 then 0 else 2)
      lock_is w request = grind (arith, nat_tests)

left : (size : ℕ) (heard : ℕ → ℕ) (bytes holds awaits : List ℕ) (w : Wanting) (ws : List Wanting) (past : List Act)
    → State size heard bytes holds awaits (w ∷ ws) past → leaves w holds ≡ true → State size heard bytes holds awaits ws past
left size heard bytes holds awaits w ws past s is =
    record {
      licensed = s.licensed;
      stands = record {
        same_holds = s.stands.same_holds;
        same_awaits = s.stands.same_awaits;
        same_line = s.stands.same_line ∙ not_counted w holds ws is;
        same_bytes = s.stands.same_bytes;
        eight_hold = s.stands.eight_hold;
        eight_await = s.stands.eight_await;
        bounded = s.stands.bounded;
        in_turn = s.stands.in_turn.3;
        waiting = λ h some. (s.stands.waiting h some).1;
        writing = λ h two. (s.stands.writing h two).1;
      };
      hears = s.hears;
    }

pub served_follows : (size : ℕ) (heard : ℕ → ℕ) (bytes holds awaits : List ℕ) (wants : List Wanting) (sent : List Reply) (past : List Act)
    → State size heard bytes holds awaits wants (reply_acts heard sent ++ past) → ServingFollows size heard bytes (served sent holds awaits bytes wants) past
served_follows size heard bytes holds awaits [] sent past s = record { licensed = s.licensed; stands = s.stands }
served_follows size heard bytes holds awaits (w ∷ ws) sent past s =
    by_turn (turn w holds awaits) refl
    (λ t. served_follows size heard bytes holds awaits ws sent past t)
    (λ t. served_follows size heard bytes (slice_set holds w.host (granted w)) awaits ws (grant w bytes ∷ sent) past t) where
      by_turn : (t : Turn) → turn w holds awaits ≡ t
          → (State size heard bytes holds awaits ws (reply_acts heard sent ++ past) → ServingFollows size heard bytes (served sent holds awaits bytes ws) past)
          → (State size heard bytes (slice_set holds w.host (granted w)) awaits ws (reply_acts heard (grant w bytes ∷ sent) ++ past)
          → ServingFollows size heard bytes (served (grant w bytes ∷ sent) (slice_set holds w.host (granted w)) awaits bytes ws) past)
          → ServingFollows size heard bytes (elim t as (λ t. Outcome) [
            | Leaves ↦ served sent holds awaits bytes ws
            | Recalls ↦ record { holds = holds; awaits = recalled w holds awaits 8; line = w ∷ ws; replies = recalls w holds awaits 8 ++ sent }
            | Waits ↦ record { holds = holds; awaits = awaits; line = w ∷ ws; replies = sent }
            | Grants ↦ served (grant w bytes ∷ sent) (slice_set holds w.host (granted w)) awaits bytes ws
          ]) past
      by_turn Leaves is on given = on (left size heard bytes holds awaits w ws (reply_acts heard sent ++ past) s (turn_leaves w holds awaits is))
      by_turn Recalls is on given =
          let r = after_recalls size heard bytes holds awaits w ws (reply_acts heard sent ++ past) 8 s (turn_stays w holds awaits Recalls (λ e. absurd (cc)) is)
          (omega arith) in
          let e = acts_append heard (recalls w holds awaits 8) sent past in
          record {
            licensed = subst (λ (l : List Act). ActsLicensed size l) (sym e) r.licensed;
            stands = subst (λ (l : List Act). DirectoryStands size holds (recalled w holds awaits 8) bytes (w ∷ ws) l) (sym e) r.stands;
          }
      by_turn Waits is on given = record { licensed = s.licensed; stands = s.stands }
      by_turn Grants is on given =
          let f = turn_grants w holds awaits is in
          given (after_grant size w.upgrade heard bytes holds awaits w ws (reply_acts heard sent ++ past) s
          (turn_stays w holds awaits Grants (λ e. absurd (cc)) is) f.0 f.1 refl)

-- where somebody still waits, some host is awaited

recalled_long : (w : Wanting) (holds awaits : List ℕ) (n : ℕ) → length awaits ≡ 8 → length (recalled w holds awaits n) ≡ 8
recalled_long w holds awaits zero eight = eight
recalled_long w holds awaits (suc n) eight =
    keeps (is_recalled w n (slice_index holds n) (slice_index awaits n)) (recalled w holds awaits n) n (recall_kind w) (recalled_long w holds awaits n eight)
  where
    keeps : (b : Bool) (xs : List ℕ) (m kind : ℕ) → length xs ≡ 8 → length (if b then slice_set xs m kind else xs) ≡ 8
    keeps true xs m kind is = length-set xs m kind ∙ is
    keeps false xs m kind is = is

is_awaited : (w : Wanting) (holds awaits : List ℕ) (n : ℕ) → length awaits ≡ 8 → suc n ≤ 8
    → 0 < slice_index (slice_set (recalled w holds awaits n) n (recall_kind w)) n
is_awaited w holds awaits n eight le =
    let e : slice_index (slice_set (recalled w holds awaits n) n (recall_kind w)) n ≡ recall_kind w = get_or-set_same (recalled w holds awaits n) n
    (recall_kind w) 0 (omega (arith, recalled_long w holds awaits n eight)) in
    omega (arith, some_kind w) where
      some_kind : (w : Wanting) → 0 < recall_kind w
      some_kind w = grind arith

some_recalled : (w : Wanting) (holds awaits : List ℕ) (n : ℕ) → length awaits ≡ 8 → n ≤ 8 → any_recalled w holds awaits n ≡ true → (g : ℕ)
    × (0 < slice_index (recalled w holds awaits n) g)
some_recalled w holds awaits zero eight le any = absurd (cc)
some_recalled w holds awaits (suc n) eight le any =
    by_host (is_recalled w n (slice_index holds n) (slice_index awaits n)) (any_recalled w holds awaits n) any
    (some_recalled w holds awaits n eight (omega arith)) where
      by_host : (b c : Bool) → (c || b) ≡ true → (c ≡ true → (g : ℕ) × (0 < slice_index (recalled w holds awaits n) g)) → (g : ℕ)
          × (0 < slice_index (if b then slice_set (recalled w holds awaits n) n (recall_kind w) else recalled w holds awaits n) g)
      by_host true c is before = (n, is_awaited w holds awaits n eight le)
      by_host false true is before = before refl
      by_host false false is before = absurd (cc)

not_all_none : (awaits : List ℕ) → list_all (λ kind. kind == 0) awaits ≡ false → (g : ℕ) × (0 < slice_index awaits g)
not_all_none [] is = absurd (cc)
not_all_none (a ∷ more) is = elim (ℕ_discrete a 0) [
  | yes none ↦ let r = not_all_none more (rest_not a (list_all (λ kind. kind == 0) more) none is) in (suc r.0, r.1)
  | no some ↦ (0, omega arith)
] where
  rest_not : (a : ℕ) (c : Bool) → a ≡ 0 → (a == 0 && c) ≡ false → c ≡ false
  rest_not a c none is = grind (arith, nat_tests)

abbrev Awaited : Outcome → Type 0
Awaited s = s.line ≢ [] → (g : ℕ) × (0 < slice_index s.awaits g)

pub served_awaited : (sent : List Reply) (holds awaits bytes : List ℕ) (wants : List Wanting) → length awaits ≡ 8
    → (served sent holds awaits bytes wants).line ≢ [] → (g : ℕ) × (0 < slice_index (served sent holds awaits bytes wants).awaits g)
served_awaited sent holds awaits bytes [] eight = λ some. absurd (some refl)
served_awaited sent holds awaits bytes (w ∷ ws) eight =
    by_turn (turn w holds awaits) refl (served_awaited sent holds awaits bytes ws eight)
    (served_awaited (grant w bytes ∷ sent) (slice_set holds w.host (granted w)) awaits bytes ws eight) where
      by_turn : (t : Turn) → turn w holds awaits ≡ t → Awaited (served sent holds awaits bytes ws)
          → Awaited (served (grant w bytes ∷ sent) (slice_set holds w.host (granted w)) awaits bytes ws)
          → Awaited (elim t as (λ t. Outcome) [
            | Leaves ↦ served sent holds awaits bytes ws
            | Recalls ↦ record { holds = holds; awaits = recalled w holds awaits 8; line = w ∷ ws; replies = recalls w holds awaits 8 ++ sent }
            | Waits ↦ record { holds = holds; awaits = awaits; line = w ∷ ws; replies = sent }
            | Grants ↦ served (grant w bytes ∷ sent) (slice_set holds w.host (granted w)) awaits bytes ws
          ])
      by_turn Leaves is on given = on
      by_turn Recalls is on given = λ some. some_recalled w holds awaits 8 eight (omega arith) (turn_recalls w holds awaits is)
      by_turn Waits is on given = λ some. not_all_none awaits (turn_waits w holds awaits is)
      by_turn Grants is on given = given

-- and each host that stands in the way of the first in line

-- the front stays, and nobody is left whom it would recall
abbrev HasRecalled : Outcome → Type 0
HasRecalled s =
    (w : Wanting) → first s.line ≡ Some w → (leaves w s.holds ≡ false)
    × ((g : ℕ) → g < 8 → is_recalled w g (slice_index s.holds g) (slice_index s.awaits g) ≡ false)

none_twice : (w : Wanting) (g hold await : ℕ) → 0 < await → is_recalled w g hold await ≡ false
none_twice w g hold await some = grind (arith, nat_tests)

none_left : (w : Wanting) (holds awaits : List ℕ) (n : ℕ) → length awaits ≡ 8 → n ≤ 8 → (g : ℕ) → g < n
    → is_recalled w g (slice_index holds g) (slice_index (recalled w holds awaits n) g) ≡ false
none_left w holds awaits zero eight le g lt = absurd (omega arith)
none_left w holds awaits (suc n) eight le g lt =
    by_host (is_recalled w n (slice_index holds n) (slice_index awaits n)) refl (λ below. none_left w holds awaits n eight (omega arith) g below) where
      kept : slice_index (recalled w holds awaits n) n ≡ slice_index awaits n
      kept = recalled_above w holds awaits n n (omega arith)

      by_host : (b : Bool) → is_recalled w n (slice_index holds n) (slice_index awaits n) ≡ b
          → (g < n → is_recalled w g (slice_index holds g) (slice_index (recalled w holds awaits n) g) ≡ false)
          → is_recalled w g (slice_index holds g) (slice_index (if b then slice_set (recalled w holds awaits n) n (recall_kind w) else recalled w holds awaits
          n)
          g) ≡ false
      by_host true is before = elim (ℕ_discrete g n) [
        | yes same ↦ subst (λ (k : ℕ). is_recalled w k (slice_index holds k) (slice_index (slice_set (recalled w holds awaits n) n (recall_kind w)) k) ≡ false)
            (sym same) (none_twice w n (slice_index holds n) (slice_index (slice_set (recalled w holds awaits n) n (recall_kind w)) n)
            (is_awaited w holds awaits n eight le))
        | no apart ↦ subst (λ (m : ℕ). is_recalled w g (slice_index holds g) m ≡ false)
            (sym (get_or-set_other (recalled w holds awaits n) n g (recall_kind w) 0 apart)) (before (omega arith))
      ]
      by_host false is before = elim (ℕ_discrete g n) [
        | yes same ↦ subst (λ (k : ℕ). is_recalled w k (slice_index holds k) (slice_index (recalled w holds awaits n) k) ≡ false) (sym same)
            (subst (λ (m : ℕ). is_recalled w n (slice_index holds n) m ≡ false) (sym kept) is)
        | no apart ↦ before (omega arith)
      ]

-- what holds of the one in front
of_front : (P : Wanting → Type 0) (w v : Wanting) (ws : List Wanting) → P w → first (w ∷ ws) ≡ Some v → P v
of_front P w v ws holds is = let e : w ≡ v = cc in subst P e holds

served_recalled : (sent : List Reply) (holds awaits bytes : List ℕ) (wants : List Wanting) → length awaits ≡ 8
    → HasRecalled (served sent holds awaits bytes wants)
served_recalled sent holds awaits bytes [] eight = λ w is. absurd (cc)
served_recalled sent holds awaits bytes (w ∷ ws) eight =
    by_turn (turn w holds awaits) refl (served_recalled sent holds awaits bytes ws eight)
    (served_recalled (grant w bytes ∷ sent) (slice_set holds w.host (granted w)) awaits bytes ws eight) where
      stays : (t : Turn) → t ≢ Leaves → turn w holds awaits ≡ t → leaves w holds ≡ false
      stays t apart is = turn_stays w holds awaits t apart is

      by_turn : (t : Turn) → turn w holds awaits ≡ t → HasRecalled (served sent holds awaits bytes ws)
          → HasRecalled (served (grant w bytes ∷ sent) (slice_set holds w.host (granted w)) awaits bytes ws)
          → HasRecalled (elim t as (λ t. Outcome) [
            | Leaves ↦ served sent holds awaits bytes ws
            | Recalls ↦ record { holds = holds; awaits = recalled w holds awaits 8; line = w ∷ ws; replies = recalls w holds awaits 8 ++ sent }
            | Waits ↦ record { holds = holds; awaits = awaits; line = w ∷ ws; replies = sent }
            | Grants ↦ served (grant w bytes ∷ sent) (slice_set holds w.host (granted w)) awaits bytes ws
          ])
      by_turn Leaves is on given = on
      by_turn Recalls is on given =
          λ v front. of_front (λ (u : Wanting). (leaves u holds ≡ false)
          × ((g : ℕ) → g < 8 → is_recalled u g (slice_index holds g) (slice_index (recalled w holds awaits 8) g) ≡ false)) w v ws
          (stays Recalls (λ e. absurd (cc)) is, none_left w holds awaits 8 eight (omega arith)) front
      by_turn Waits is on given =
          λ v front. of_front (λ (u : Wanting). (leaves u holds ≡ false)
          × ((g : ℕ) → g < 8 → is_recalled u g (slice_index holds g) (slice_index awaits g) ≡ false)) w v ws
          (stays Waits (λ e. absurd (cc)) is, any_none w holds awaits 8 (turn_settles w holds awaits is)) front
      by_turn Grants is on given = given

-- the first that counts is the first in line, where that one stays
front_counted : (holds : List ℕ) (wants : List Wanting) (w : Wanting) → ((v : Wanting) → first wants ≡ Some v → leaves v holds ≡ false)
    → first (count_wanting holds wants) ≡ Some w → first wants ≡ Some w
front_counted holds [] w stays is = is
front_counted holds (v ∷ vs) w stays is = ap (λ (l : List Wanting). first l) (sym (is_counted v holds vs (stays v refl))) ∙ is

must_await : (w : Wanting) (g hold await : ℕ) → is_recalled w g hold await ≡ false → is_recalled w g hold 0 ≡ true → 0 < await
must_await w g hold await none way = elim (ℕ_discrete await 0) [
  | yes free ↦ absurd (grind (arith, nat_tests))
  | no some ↦ omega arith
]

-- who holds nothing stands in nobody's way
nothing_recalled : (w : Wanting) (g hold : ℕ) → hold ≡ 0 → is_recalled w g hold 0 ≡ true → ⊥
nothing_recalled w g hold none way = grind (arith, nat_tests)

all_recalled : (size : ℕ) (bytes : List ℕ) (s : Outcome) (past : List Act) → DirectoryStands size s.holds s.awaits bytes s.line past → HasRecalled s
    → AllAreRecalled past
all_recalled size bytes s past stands recalled host w is way =
    let front : first s.line ≡ Some w = front_counted s.holds s.line w (λ v at. (recalled v at).0)
    (ap (λ (l : List Wanting). first l) (sym stands.same_line) ∙ is) in
    let here : is_recalled w host (slice_index s.holds host) 0 ≡ true = subst (λ (n : ℕ). is_recalled w host n 0 ≡ true) (stands.same_holds host) way in
    subst (λ (n : ℕ). 0 < n) (sym (stands.same_awaits host)) (elim (lt_or host) [
      | inl lt ↦ must_await w host (slice_index s.holds host) (slice_index s.awaits host) ((recalled w front).1 host lt) here
      | inr ge ↦ absurd (nothing_recalled w host (slice_index s.holds host) (get_or_past s.holds host 0 (omega (arith, stands.eight_hold))) here)
    ]) where
      lt_or : (g : ℕ) → (g < 8) ⊎ (8 ≤ g)
      lt_or g = grind arith

-- the law of serving

some_counted : (holds : List ℕ) (wants : List Wanting) → count_wanting holds wants ≢ [] → wants ≢ []
some_counted holds [] some is = some refl
some_counted holds (w ∷ ws) some is = absurd (cc)

pub serving : (size : ℕ) (heard : ℕ → ℕ) (changed after : Directory) (replies : List Reply) (past : List Act)
    → ActsLicensed size past → StandsFor size changed past → Hears heard past → IsServedDirectory changed after replies
    → RepliesHaveCause size heard after replies past
serving size heard changed after replies past licensed stands hears is =
    record {
      licensed = f.licensed;
      stands =
          subst (λ (bytes : List ℕ). DirectoryStands size after.holds after.awaits bytes after.line (reply_acts heard replies ++ past)) (sym is.bytes) f.stands;
      served = served_past;
      recalled =
          all_recalled size changed.bytes done (reply_acts heard replies ++ past) f.stands
          (subst HasRecalled (sym is.exact) (served_recalled [] changed.holds changed.awaits changed.bytes changed.line stands.eight_await));
    } where
      done : Outcome
      done = record { holds = after.holds; awaits = after.awaits; line = after.line; replies = replies }

      f : ServingFollows size heard changed.bytes (record { holds = after.holds; awaits = after.awaits; line = after.line; replies = replies }) past
      f =
          subst (λ (s : Outcome). ServingFollows size heard changed.bytes s past) (sym is.exact)
          (served_follows size heard changed.bytes changed.holds changed.awaits changed.line [] past
          (record { licensed = licensed; stands = stands; hears = hears }))

      waits : after.line ≢ [] → (g : ℕ) × (0 < slice_index after.awaits g)
      waits =
          subst (λ (s : Outcome). s.line ≢ [] → (g : ℕ) × (0 < slice_index s.awaits g)) (sym is.exact)
          (served_awaited [] changed.holds changed.awaits changed.bytes changed.line stands.eight_await)

      served_past : SomebodyIsAwaited (reply_acts heard replies ++ past)
      served_past some =
          let g = waits (some_counted after.holds after.line (λ none. some (f.stands.same_line ∙ none))) in
          (g.0, subst (λ (n : ℕ). 0 < n) (sym (f.stands.same_awaits g.0)) g.1)
