-- What the directory notes of each message that the server takes is what the history says of it.
use Rattle.std.proofs.Common.{◌≡◌, ◌≢◌, ◌<◌, ◌≤◌, ◌==◌, ◌&&◌, ℕ, List, [], ◌∷◌, ◌++◌, length, arith, refl, ap, subst, sym, ◌∙◌, Bool, true, false}
use Rattle.std.proofs.Common.{if◌then◌else◌}
use Rattle.std.specs.Prelude.{slice_index, slice_set, replicate}
use Rattle.std.proofs.lemmas.Bool.Decides.{nat_tests}
use Rattle.std.proofs.lemmas.List.{get_or-set_same, get_or-set_other, length-set}
use native.Mathlib.Decide.{ℕ_discrete}
use Rattle.vm_model.specs.Words.{Act, ActEffect, TakenUp, Asking, Unlocking, Returning, Doing, Ending}
use Rattle.vm_model.specs.Side.{Side, side, side_after, after_done}
use Rattle.vm_model.specs.Server.{Wanting, line, trimmed_line, joined, kept}
use Rattle.sms_pages.specs.Directory.{Directory, requested, unlock_heard, saved, finished, left_by, ended, IsNewDirectory}
use Rattle.vm_model.specs.Server.{NoUpgrade, NoRequest}
use Rattle.sms_pages.specs.Stands.{counts, count_wanting, LineIsInTurn, DirectoryStands, StandsFor, taking_act}
use Rattle.sms_pages.proofs.Facts.{own_side, holds_set, awaits_set, holds_kept, awaits_kept, counted_lost, counted_none, counted_same, all_none}

-- what joins at the end

trimmed_append : (h x : ℕ) (ws vs : List Wanting) → trimmed_line h x (ws ++ vs) ≡ trimmed_line h x ws ++ trimmed_line h x vs
trimmed_append h x [] vs = refl
trimmed_append h x (w ∷ ws) vs = one h x w (trimmed_line h x ws) (trimmed_line h x (ws ++ vs)) (trimmed_line h x vs) (trimmed_append h x ws vs) where
  one : (h x : ℕ) (w : Wanting) (ts us vs : List Wanting) → us ≡ ts ++ vs
      → (if (if w.host == h then (if w.upgrade then x == 1 else true) else true) then w ∷ us else us) ≡ (if
      (if w.host == h then (if w.upgrade then x == 1 else true) else true) then w ∷ ts else ts) ++ vs
  one h x w ts us vs is = grind (arith, nat_tests)

counted_append : (holds : List ℕ) (ws vs : List Wanting) → count_wanting holds (ws ++ vs) ≡ count_wanting holds ws ++ count_wanting holds vs
counted_append holds [] vs = refl
counted_append holds (w ∷ ws) vs =
    one (counts holds w) w (count_wanting holds ws) (count_wanting holds (ws ++ vs)) (count_wanting holds vs) (counted_append holds ws vs) where
      one : (b : Bool) (w : Wanting) (ts us vs : List Wanting) → us ≡ ts ++ vs → (if b then w ∷ us else us) ≡ (if b then w ∷ ts else ts) ++ vs
      one true w ts us vs is = ap (λ (l : List Wanting). w ∷ l) is
      one false w ts us vs is = is

no_request_end : (g : ℕ) (ws : List Wanting) (v : Wanting) → NoRequest g ws → (v.upgrade ≡ false → v.host ≢ g) → NoRequest g (ws ++ v ∷ [])
no_request_end g [] v none apart = (apart, tt)
no_request_end g (w ∷ ws) v none apart = (none.0, no_request_end g ws v none.1 apart)

no_upgrade_end : (g : ℕ) (ws : List Wanting) (v : Wanting) → NoUpgrade g ws → (v.upgrade ≡ true → v.host ≢ g) → NoUpgrade g (ws ++ v ∷ [])
no_upgrade_end g [] v none apart = (apart, tt)
no_upgrade_end g (w ∷ ws) v none apart = (none.0, no_upgrade_end g ws v none.1 apart)

apart_from : (g h : ℕ) → g ≢ h → h ≢ g
apart_from g h apart is = apart (sym is)

-- a request of a host that has none in the line
request_in_turn : (h access : ℕ) (ws : List Wanting) → h < 8 → LineIsInTurn ws → NoRequest h ws
    → LineIsInTurn (ws ++ record { host = h; upgrade = false; access = access } ∷ [])
request_in_turn h access [] lt turns none = (lt, tt, (λ request. tt), tt)
request_in_turn h access (w ∷ ws) lt turns none = (
  turns.0,
  no_upgrade_end w.host ws record { host = h; upgrade = false; access = access } turns.1 (λ up. absurd (cc)),
  (λ request. no_request_end w.host ws record { host = h; upgrade = false; access = access } (turns.2 request)
      (λ other. apart_from w.host h (none.0 request))),
  request_in_turn h access ws lt turns.3 none.1,
)

-- an upgrade of a host that has nothing in the line
upgrade_in_turn : (h access : ℕ) (ws : List Wanting) → h < 8 → LineIsInTurn ws → NoRequest h ws → NoUpgrade h ws
    → LineIsInTurn (ws ++ record { host = h; upgrade = true; access = access } ∷ [])
upgrade_in_turn h access [] lt turns none alone = (lt, tt, (λ request. tt), tt)
upgrade_in_turn h access (w ∷ ws) lt turns none alone = (
  turns.0,
  no_upgrade_end w.host ws record { host = h; upgrade = true; access = access } turns.1 (λ up is. elim_upgrade w h none.0 alone.0 is),
  (λ request. no_request_end w.host ws record { host = h; upgrade = true; access = access } (turns.2 request) (λ other. absurd (cc))),
  upgrade_in_turn h access ws lt turns.3 none.1 alone.1,
) where
  elim_upgrade : (w : Wanting) (h : ℕ) → (w.upgrade ≡ false → w.host ≢ h) → (w.upgrade ≡ true → w.host ≢ h) → h ≡ w.host → ⊥
  elim_upgrade w h request up is = by_kind w.upgrade refl where
    by_kind : (b : Bool) → w.upgrade ≡ b → ⊥
    by_kind true e = up e (sym is)
    by_kind false e = request e (sym is)

set_apart : (holds : List ℕ) (h v : ℕ) (g : ℕ) → g ≢ h → slice_index (slice_set holds h v) g ≡ slice_index holds g
set_apart holds h v g apart = get_or-set_other holds h g v 0 apart

lowered : (holds : List ℕ) (h v : ℕ) → h < length holds → v ≤ slice_index holds h → ((g : ℕ) → slice_index holds g ≤ 2) → (g : ℕ)
    → slice_index (slice_set holds h v) g ≤ slice_index holds g
lowered holds h v lt le small g = elim (ℕ_discrete g h) [
  | yes is ↦ subst (λ (k : ℕ). slice_index (slice_set holds h v) k ≤ slice_index holds k) (sym is)
      (let e : slice_index (slice_set holds h v) h ≡ v = get_or-set_same holds h v 0 lt in omega arith)
  | no apart ↦ let e : slice_index (slice_set holds h v) g ≡ slice_index holds g = set_apart holds h v g apart in omega arith
]

counted_equal : (holds new : List ℕ) (ws : List Wanting) → ((g : ℕ) → slice_index holds g ≡ slice_index new g) → count_wanting holds ws ≡ count_wanting new ws
counted_equal holds new [] same = refl
counted_equal holds new (w ∷ ws) same =
    one w (slice_index holds w.host) (slice_index new w.host) (count_wanting holds ws) (count_wanting new ws) (same w.host) (counted_equal holds new ws same)
  where
    one : (w : Wanting) (a b : ℕ) (cs ns : List Wanting) → a ≡ b → cs ≡ ns
        → (if (if w.upgrade then a == 1 else true) then w ∷ cs else cs) ≡ (if (if w.upgrade then b == 1 else true) then w ∷ ns else ns)
    one w a b cs ns is same = grind (arith, nat_tests)

-- what counts of the line, once the host holds v and no more than before
trims : (size h v : ℕ) (holds awaits bytes : List ℕ) (wants : List Wanting) (past : List Act) → DirectoryStands size holds awaits bytes wants past
    → h < length holds → v ≤ slice_index holds h → trimmed_line h v (count_wanting holds wants) ≡ count_wanting (slice_set holds h v) wants
trims size h v holds awaits bytes wants past s inside le = elim (ℕ_discrete v 1) [
  | yes one ↦ elim (ℕ_discrete (slice_index holds h) 1) [
    | yes read ↦ counted_same h v holds wants (read ∙ sym one) ∙ counted_equal holds (slice_set holds h v) wants (λ g. elim (ℕ_discrete g h) [
      | yes is ↦ subst (λ (k : ℕ). slice_index holds k ≡ slice_index (slice_set holds h v) k) (sym is)
          (read ∙ (sym one ∙ sym (get_or-set_same holds h v 0 inside)))
      | no apart ↦ sym (set_apart holds h v g apart)
    ])
    | no other ↦ counted_none h v holds (slice_set holds h v) wants (s.writing h (omega (arith, s.bounded h))) (set_apart holds h v)
  ]
  | no other ↦ counted_lost h v holds (slice_set holds h v) wants other (set_apart holds h v) (get_or-set_same holds h v 0 inside)
]

-- a message after which the host holds v, no more than before, and nobody joins the line
after_lowered : (size h v : ℕ) (e : ActEffect) (holds awaits new_awaits bytes new_bytes : List ℕ) (wants : List Wanting) (past : List Act)
    → DirectoryStands size holds awaits bytes wants past → h < 8 → v ≤ slice_index holds h → (side_after (side h past) e).holds ≡ v
    → ((g : ℕ) → (side g (record { host = h; effect = e } ∷ past)).awaits ≡ slice_index new_awaits g) → length new_awaits ≡ 8
    → joined (side h past) h e (line past) ≡ line past → kept size (record { host = h; effect = e } ∷ past) ≡ new_bytes
    → DirectoryStands size (slice_set holds h v) new_awaits new_bytes wants (record { host = h; effect = e } ∷ past)
after_lowered size h v e holds awaits new_awaits bytes new_bytes wants past s lt le own new_same eight none_joins saved =
    record {
      same_holds = holds_set h e v holds past inside own s.same_holds;
      same_awaits = new_same;
      same_line =
          ap (λ (l : List Wanting). trimmed_line h (side h (act ∷ past)).holds l) (none_joins ∙ s.same_line)
          ∙ subst (λ (x : ℕ). trimmed_line h x (count_wanting holds wants) ≡ count_wanting (slice_set holds h v) wants) (sym now)
          (trims size h v holds awaits bytes wants past s inside le);
      same_bytes = saved;
      eight_hold = length-set holds h v ∙ s.eight_hold;
      eight_await = eight;
      bounded = λ g. omega (arith, lowered holds h v inside le s.bounded g, s.bounded g);
      in_turn = s.in_turn;
      waiting = λ g some. s.waiting g (omega (arith, lowered holds h v inside le s.bounded g));
      writing = λ g two. s.writing g (omega (arith, lowered holds h v inside le s.bounded g, s.bounded g));
    } where
      act : Act
      act = record { host = h; effect = e }

      inside : h < length holds
      inside = omega (arith, s.eight_hold)

      now : (side h (act ∷ past)).holds ≡ v
      now = ap (λ (t : Side). t.holds) (own_side h e past) ∙ own

-- a request
pub after_request : (size h control access : ℕ) (d : Directory) (past : List Act) → StandsFor size d past → h < 8 → NoRequest h d.line
    → StandsFor size (requested h access d) (record { host = h; effect = TakenUp (Asking control access) } ∷ past)
after_request size h control access d past s lt none =
    record {
      same_holds = holds_set h e 0 d.holds past inside refl s.same_holds;
      same_awaits = awaits_kept h e d.awaits past refl s.same_awaits;
      same_line =
          ap (λ (l : List Wanting). trimmed_line h (side h (act ∷ past)).holds (l ++ r ∷ [])) s.same_line
          ∙ subst (λ (x : ℕ). trimmed_line h x (count_wanting d.holds d.line ++ r ∷ []) ≡ count_wanting (slice_set d.holds h 0) (d.line ++ r ∷ [])) (sym now)
          joins;
      same_bytes = s.same_bytes;
      eight_hold = length-set d.holds h 0 ∙ s.eight_hold;
      eight_await = s.eight_await;
      bounded = λ g. omega (arith, lowered d.holds h 0 inside (omega arith) s.bounded g, s.bounded g);
      in_turn = request_in_turn h access d.line lt s.in_turn none;
      waiting =
          λ g some. no_request_end g d.line r (s.waiting g (omega (arith, lowered d.holds h 0 inside (omega arith) s.bounded g)))
          (λ request is. absurd (gone g is some));
      writing =
          λ g two. no_upgrade_end g d.line r (s.writing g (omega (arith, lowered d.holds h 0 inside (omega arith) s.bounded g, s.bounded g)))
          (λ up. absurd (cc));
    } where
      e : ActEffect
      e = TakenUp (Asking control access)

      act : Act
      act = record { host = h; effect = TakenUp (Asking control access) }

      r : Wanting
      r = record { host = h; upgrade = false; access = access }

      inside : h < length d.holds
      inside = omega (arith, s.eight_hold)

      now : (side h (act ∷ past)).holds ≡ 0
      now = ap (λ (t : Side). t.holds) (own_side h (TakenUp (Asking control access)) past)

      stay_one : (h x : ℕ) (r : Wanting) → r.upgrade ≡ false → trimmed_line h x (r ∷ []) ≡ r ∷ []
      stay_one h x r request = grind (arith, nat_tests)

      joins : trimmed_line h 0 (count_wanting d.holds d.line ++ r ∷ []) ≡ count_wanting (slice_set d.holds h 0) (d.line ++ r ∷ [])
      joins =
          trimmed_append h 0 (count_wanting d.holds d.line) (r ∷ [])
          ∙ (ap (λ (l : List Wanting). l ++ trimmed_line h 0 (r ∷ [])) (trims size h 0 d.holds d.awaits d.bytes d.line past s inside (omega arith))
          ∙ (ap (λ (l : List Wanting). count_wanting (slice_set d.holds h 0) d.line ++ l) (stay_one h 0 r refl)
          ∙ sym (counted_append (slice_set d.holds h 0) d.line (r ∷ []))))

      gone : (g : ℕ) → h ≡ g → 0 < slice_index (slice_set d.holds h 0) g → ⊥
      gone g is some =
          let none_now : slice_index (slice_set d.holds h 0) g ≡ 0 = subst (λ (k : ℕ). slice_index (slice_set d.holds h 0) k ≡ 0) is
          (get_or-set_same d.holds h 0 0 inside) in omega arith

-- an unlock that joins the line
after_upgrade : (size h access : ℕ) (d : Directory) (past : List Act) → StandsFor size d past → h < 8 → NoUpgrade h d.line → slice_index d.holds h ≡ 1
    → slice_index d.awaits h ≡ 0
    → DirectoryStands size d.holds d.awaits d.bytes (d.line ++ record { host = h; upgrade = true; access = 3 } ∷ [])
    (record { host = h; effect = TakenUp (Unlocking access) } ∷ past)
after_upgrade size h access d past s lt none reads free =
    record {
      same_holds = holds_kept h e d.holds past refl s.same_holds;
      same_awaits = awaits_kept h e d.awaits past refl s.same_awaits;
      same_line =
          ap (λ (l : List Wanting). trimmed_line h (side h (act ∷ past)).holds l)
          (does_join (side h past).holds (side h past).awaits (line past) u (s.same_holds h ∙ reads) (s.same_awaits h ∙ free))
          ∙ (ap (λ (l : List Wanting). trimmed_line h (side h (act ∷ past)).holds (l ++ u ∷ [])) s.same_line
          ∙ (ap (λ (l : List Wanting). trimmed_line h (side h (act ∷ past)).holds l) (sym counts_too)
          ∙ (counted_same h (side h (act ∷ past)).holds d.holds (d.line ++ u ∷ []) (sym now))));
      same_bytes = s.same_bytes;
      eight_hold = s.eight_hold;
      eight_await = s.eight_await;
      bounded = s.bounded;
      in_turn = upgrade_in_turn h 3 d.line lt s.in_turn (s.waiting h (omega arith)) none;
      waiting = λ g some. no_request_end g d.line u (s.waiting g some) (λ request. absurd (cc));
      writing = λ g two. no_upgrade_end g d.line u (s.writing g two) (λ up is. absurd (not_both g is two));
    } where
      e : ActEffect
      e = TakenUp (Unlocking access)

      act : Act
      act = record { host = h; effect = TakenUp (Unlocking access) }

      u : Wanting
      u = record { host = h; upgrade = true; access = 3 }

      now : (side h (act ∷ past)).holds ≡ slice_index d.holds h
      now = ap (λ (t : Side). t.holds) (own_side h (TakenUp (Unlocking access)) past) ∙ s.same_holds h

      does_join : (holds awaits : ℕ) (ws : List Wanting) (v : Wanting) → holds ≡ 1 → awaits ≡ 0
          → (if holds == 1 && awaits == 0 then ws ++ v ∷ [] else ws) ≡ ws ++ v ∷ []
      does_join holds awaits ws v one free = grind (arith, nat_tests)

      one_counts : (a : ℕ) (v : Wanting) → a ≡ 1 → (if (if v.upgrade then a == 1 else true) then v ∷ [] else []) ≡ v ∷ []
      one_counts a v one = grind (arith, nat_tests)

      counts_too : count_wanting d.holds (d.line ++ u ∷ []) ≡ count_wanting d.holds d.line ++ u ∷ []
      counts_too =
          counted_append d.holds d.line (u ∷ []) ∙ ap (λ (l : List Wanting). count_wanting d.holds d.line ++ l) (one_counts (slice_index d.holds h) u reads)

      not_both : (g : ℕ) → h ≡ g → slice_index d.holds g ≡ 2 → ⊥
      not_both g is two = let one_now : slice_index d.holds g ≡ 1 = subst (λ (k : ℕ). slice_index d.holds k ≡ 1) is reads in omega arith

-- a message that changes neither what the host holds nor whether it is awaited
after_same : (size h : ℕ) (e : ActEffect) (holds awaits bytes new_bytes : List ℕ) (wants : List Wanting) (past : List Act)
    → DirectoryStands size holds awaits bytes wants past → (side_after (side h past) e).holds ≡ (side h past).holds
    → (side_after (side h past) e).awaits ≡ (side h past).awaits
    → joined (side h past) h e (line past) ≡ line past → kept size (record { host = h; effect = e } ∷ past) ≡ new_bytes
    → DirectoryStands size holds awaits new_bytes wants (record { host = h; effect = e } ∷ past)
after_same size h e holds awaits bytes new_bytes wants past s own_holds own_awaits none_joins saved =
    record {
      same_holds = holds_kept h e holds past own_holds s.same_holds;
      same_awaits = awaits_kept h e awaits past own_awaits s.same_awaits;
      same_line =
          ap (λ (l : List Wanting). trimmed_line h (side h (record { host = h; effect = e } ∷ past)).holds l) (none_joins ∙ s.same_line)
          ∙ counted_same h (side h (record { host = h; effect = e } ∷ past)).holds holds wants (sym now);
      same_bytes = saved;
      eight_hold = s.eight_hold;
      eight_await = s.eight_await;
      bounded = s.bounded;
      in_turn = s.in_turn;
      waiting = s.waiting;
      writing = s.writing;
    } where
      now : (side h (record { host = h; effect = e } ∷ past)).holds ≡ slice_index holds h
      now = ap (λ (t : Side). t.holds) (own_side h e past) ∙ (own_holds ∙ s.same_holds h)

-- an unlock
pub after_unlock : (size h access : ℕ) (d : Directory) (past : List Act) → StandsFor size d past → h < 8
    → (slice_index d.holds h ≡ 1 → slice_index d.awaits h ≡ 0 → NoUpgrade h d.line)
    → StandsFor size (unlock_heard h d) (record { host = h; effect = TakenUp (Unlocking access) } ∷ past)
after_unlock size h access d past s lt none = by_case (slice_index d.holds h == 1 && slice_index d.awaits h == 0) refl where
  joins : (a b : ℕ) → (a == 1 && b == 0) ≡ true → (a ≡ 1) × (b ≡ 0)
  joins a b is = (grind (arith, nat_tests), grind (arith, nat_tests))

  stays : (a b c d : ℕ) (ws : List Wanting) (v : Wanting) → a ≡ c → b ≡ d → (c == 1 && d == 0) ≡ false → (if a == 1 && b == 0 then ws ++ v ∷ [] else ws) ≡ ws
  stays a b c d ws v same free is = grind (arith, nat_tests)

  by_case : (b : Bool) → (slice_index d.holds h == 1 && slice_index d.awaits h == 0) ≡ b
      → DirectoryStands size d.holds d.awaits d.bytes (if b then d.line ++ record { host = h; upgrade = true; access = 3 } ∷ [] else d.line)
      (record { host = h; effect = TakenUp (Unlocking access) } ∷ past)
  by_case true is = let f = joins (slice_index d.holds h) (slice_index d.awaits h) is in after_upgrade size h access d past s lt (none f.0 f.1) f.0 f.1
  by_case false is =
      after_same size h (TakenUp (Unlocking access)) d.holds d.awaits d.bytes d.bytes d.line past s refl refl
      (stays (side h past).holds (side h past).awaits (slice_index d.holds h) (slice_index d.awaits h) (line past)
      record { host = h; upgrade = true; access = 3 } (s.same_holds h) (s.same_awaits h) is) s.same_bytes

-- a return
pub after_return : (size h : ℕ) (dirty keep : Bool) (bytes : List ℕ) (d : Directory) (past : List Act) → StandsFor size d past → h < 8
    → StandsFor size (saved h keep bytes d) (record { host = h; effect = TakenUp (Returning dirty keep bytes) } ∷ past)
after_return size h dirty true bytes d past s lt =
    after_same size h (TakenUp (Returning dirty true bytes)) d.holds d.awaits d.bytes bytes d.line past s refl refl refl refl
after_return size h dirty false bytes d past s lt =
    after_lowered size h 0 (TakenUp (Returning dirty false bytes)) d.holds d.awaits d.awaits d.bytes bytes d.line past s lt (omega arith) refl
    (awaits_kept h (TakenUp (Returning dirty false bytes)) d.awaits past refl s.same_awaits) s.eight_await refl refl

awaits_now : (t : Side) (control a : ℕ) → t.awaits ≡ a → (0 < a → t.awaited_control ≡ control) → (if t.awaited_control == control then 0 else t.awaits) ≡ 0
awaits_now t control a same mine = grind (arith, nat_tests)

-- a completion, and the end of a control: where the host is awaited, of the control for which it is
pub after_completed : (size h control count : ℕ) (d : Directory) (past : List Act) → StandsFor size d past → h < 8
    → (0 < slice_index d.awaits h → (side h past).awaited_control ≡ control)
    → StandsFor size (finished h d) (record { host = h; effect = TakenUp (Doing control count) } ∷ past)
after_completed size h control count d past s lt mine =
    after_lowered size h (left_by (slice_index d.awaits h) (slice_index d.holds h)) (TakenUp (Doing control count)) d.holds d.awaits (slice_set d.awaits h 0)
    d.bytes d.bytes d.line past s lt
    (lower (slice_index d.awaits h) (slice_index d.holds h))
    (holds_now (side h past) control (slice_index d.awaits h) (slice_index d.holds h) (s.same_awaits h) (s.same_holds h) (s.bounded h) mine)
    (awaits_set h (TakenUp (Doing control count)) 0 d.awaits past (omega (arith, s.eight_await))
    (awaits_now (side h past) control (slice_index d.awaits h) (s.same_awaits h) mine) s.same_awaits)
    (length-set d.awaits h 0 ∙ s.eight_await) refl s.same_bytes where
      lower : (a b : ℕ) → left_by a b ≤ b
      lower a b = grind (arith, nat_tests)

      holds_now : (t : Side) (control a b : ℕ) → t.awaits ≡ a → t.holds ≡ b → b ≤ 2 → (0 < a → t.awaited_control ≡ control)
          → (if t.awaited_control == control then after_done t.awaits t.holds else t.holds) ≡ left_by a b
      holds_now t control a b same held le mine = grind (arith, nat_tests)

pub after_end : (size h control : ℕ) (d : Directory) (past : List Act) → StandsFor size d past → h < 8
    → (0 < slice_index d.awaits h → (side h past).awaited_control ≡ control)
    → StandsFor size (ended h d) (record { host = h; effect = TakenUp (Ending control) } ∷ past)
after_end size h control d past s lt mine =
    after_lowered size h 0 (TakenUp (Ending control)) d.holds d.awaits (slice_set d.awaits h 0) d.bytes d.bytes d.line past s lt (omega arith) refl
    (awaits_set h (TakenUp (Ending control)) 0 d.awaits past (omega (arith, s.eight_await))
    (awaits_now (side h past) control (slice_index d.awaits h) (s.same_awaits h) mine) s.same_awaits)
    (length-set d.awaits h 0 ∙ s.eight_await) refl s.same_bytes

-- a new directory, before any event
pub begins : (size : ℕ) (d : Directory) → IsNewDirectory size d → StandsFor size d []
begins size d new =
    record {
      same_holds = λ h. sym (zeros d.holds new.holds h);
      same_awaits = λ h. sym (zeros d.awaits new.awaits h);
      same_line = sym (ap (count_wanting d.holds) new.line);
      same_bytes = sym new.bytes;
      eight_hold = ap (λ (l : List ℕ). length l) new.holds;
      eight_await = ap (λ (l : List ℕ). length l) new.awaits;
      bounded = λ h. omega (arith, zeros d.holds new.holds h);
      in_turn = subst (λ (l : List Wanting). LineIsInTurn l) (sym new.line) tt;
      waiting = λ h some. absurd (omega (arith, zeros d.holds new.holds h));
      writing = λ h two. absurd (omega (arith, zeros d.holds new.holds h));
    } where
      zeros : (xs : List ℕ) → xs ≡ replicate 8 0 → (h : ℕ) → slice_index xs h ≡ 0
      zeros xs is h = ap (λ (l : List ℕ). slice_index l h) is ∙ all_none (replicate 8 0) refl h

-- the same, with premises on the history alone

request_apart : (holds : List ℕ) (h : ℕ) (ws : List Wanting) → NoRequest h (count_wanting holds ws) → NoRequest h ws
request_apart holds h [] none = tt
request_apart holds h (w ∷ ws) none = by_case (counts holds w) refl (request_apart holds h ws) none where
  by_case : (b : Bool) → counts holds w ≡ b → (NoRequest h (count_wanting holds ws) → NoRequest h ws)
      → NoRequest h (if b then w ∷ count_wanting holds ws else count_wanting holds ws) → NoRequest h (w ∷ ws)
  by_case true is rest apart = (apart.0, rest apart.1)
  by_case false is rest apart = ((λ request. absurd (no_count w (slice_index holds w.host) request is)), rest apart) where
    no_count : (w : Wanting) (a : ℕ) → w.upgrade ≡ false → (if w.upgrade then a == 1 else true) ≡ false → ⊥
    no_count w a request is = grind arith

upgrade_apart : (holds : List ℕ) (h : ℕ) (ws : List Wanting) → slice_index holds h ≡ 1 → NoUpgrade h (count_wanting holds ws) → NoUpgrade h ws
upgrade_apart holds h [] reads none = tt
upgrade_apart holds h (w ∷ ws) reads none = by_case (counts holds w) refl (upgrade_apart holds h ws reads) none where
  by_case : (b : Bool) → counts holds w ≡ b → (NoUpgrade h (count_wanting holds ws) → NoUpgrade h ws)
      → NoUpgrade h (if b then w ∷ count_wanting holds ws else count_wanting holds ws) → NoUpgrade h (w ∷ ws)
  by_case true is rest apart = (apart.0, rest apart.1)
  by_case false is rest apart =
      ((λ up same. absurd (not_counted w (slice_index holds w.host) up (ap (λ (k : ℕ). slice_index holds k) same ∙ reads) is)), rest apart) where
        not_counted : (w : Wanting) (a : ℕ) → w.upgrade ≡ true → a ≡ 1 → (if w.upgrade then a == 1 else true) ≡ false → ⊥
        not_counted w a up one is = grind (arith, nat_tests)

pub request_taken : (size h control access : ℕ) (d : Directory) (past : List Act) → StandsFor size d past → h < 8 → NoRequest h (line past)
    → StandsFor size (requested h access d) (taking_act h (Asking control access) ∷ past)
request_taken size h control access d past s lt none =
    after_request size h control access d past s lt (request_apart d.holds h d.line (subst (λ (l : List Wanting). NoRequest h l) s.same_line none))

pub unlock_taken : (size h access : ℕ) (d : Directory) (past : List Act) → StandsFor size d past → h < 8 → NoUpgrade h (line past)
    → StandsFor size (unlock_heard h d) (taking_act h (Unlocking access) ∷ past)
unlock_taken size h access d past s lt none =
    after_unlock size h access d past s lt (λ reads free. upgrade_apart d.holds h d.line reads (subst (λ (l : List Wanting). NoUpgrade h l) s.same_line none))

pub completed_taken : (size h control count : ℕ) (d : Directory) (past : List Act) → StandsFor size d past → h < 8
    → (0 < (side h past).awaits → (side h past).awaited_control ≡ control) → StandsFor size (finished h d) (taking_act h (Doing control count) ∷ past)
completed_taken size h control count d past s lt mine =
    after_completed size h control count d past s lt (λ some. mine (subst (λ (n : ℕ). 0 < n) (sym (s.same_awaits h)) some))

pub end_taken : (size h control : ℕ) (d : Directory) (past : List Act) → StandsFor size d past → h < 8
    → (0 < (side h past).awaits → (side h past).awaited_control ≡ control) → StandsFor size (ended h d) (taking_act h (Ending control) ∷ past)
end_taken size h control d past s lt mine = after_end size h control d past s lt (λ some. mine (subst (λ (n : ℕ). 0 < n) (sym (s.same_awaits h)) some))
