-- What queues hold: counts, and what draining one can lead to.
use Rattle.std.proofs.Common.{◌≡◌, ℕ, zero, suc, ◌+◌, ◌<◌, ◌≤◌, List, [], ◌∷◌, ◌++◌, arith, true, false, if◌then◌else◌, refl, ◌==◌}
use Rattle.std.specs.Prelude.{nat_lt}
use Rattle.std.proofs.lemmas.Bool.Decides.{nat_tests}
use Rattle.vm_model.specs.Words.{UpWord, Asking, Returning, Doing, Ending, DownWord, Supplying, Locking, Lacking, Failing}
use Rattle.vm_model.specs.Side.{right_of, kind_of, rest}
use Rattle.vm_model.specs.Coherence.{SaysUp, SaysDown, CarryUp, CarryDown}

-- upwards

-- 1 for a request
abbrev pub asks : UpWord → ℕ
asks (Asking asker access) = 1
asks w = 0

-- 1 for a word at which the server's holding ends
abbrev pub ender : UpWord → ℕ
ender (Asking asker access) = 1
ender (Returning dirty false bytes) = 1
ender (Ending control) = 1
ender w = 0

abbrev pub does : UpWord → ℕ
does (Doing control count) = 1
does w = 0

-- 1 for the end of this control
abbrev pub ends : ℕ → UpWord → ℕ
ends k (Ending control) = if control == k then 1 else 0
ends k w = 0

-- 1 for the end of a later control
abbrev pub over : ℕ → UpWord → ℕ
over k (Ending control) = if nat_lt k control then 1 else 0
over k w = 0

abbrev pub sum_up : (UpWord → ℕ) → List UpWord → ℕ
sum_up f [] = 0
sum_up f (w ∷ q) = f w + sum_up f q

pub sum_up_end : (f : UpWord → ℕ) (q : List UpWord) (w : UpWord) → sum_up f (q ++ w ∷ []) ≡ sum_up f q + f w
sum_up_end f [] w = omega arith
sum_up_end f (v ∷ q) w = omega (arith, sum_up_end f q w)

pub sum_up_le : (f g : UpWord → ℕ) (q : List UpWord) → ((w : UpWord) → f w ≤ g w) → sum_up f q ≤ sum_up g q
sum_up_le f g [] le = omega arith
sum_up_le f g (v ∷ q) le = omega (arith, sum_up_le f g q le, le v)

over_le : (k : ℕ) (w : UpWord) → over (k + 1) w ≤ over k w
over_le k w = grind (arith, nat_tests)

ends_le : (k : ℕ) (w : UpWord) → ends (k + 1) w ≤ over k w
ends_le k w = grind (arith, nat_tests)

pub over_more : (k : ℕ) (q : List UpWord) → sum_up (over (k + 1)) q ≤ sum_up (over k) q
over_more k q = sum_up_le (over (k + 1)) (over k) q (over_le k)

pub ends_more : (k : ℕ) (q : List UpWord) → sum_up (ends (k + 1)) q ≤ sum_up (over k) q
ends_more k q = sum_up_le (ends (k + 1)) (over k) q (ends_le k)

-- enders behind the last request, or all where there is none
abbrev pub late_step : ℕ → ℕ → ℕ → ℕ
late_step zero here behind = here + behind
late_step (suc n) here behind = behind

-- a return, or the end of a control
abbrev pub leaves : UpWord → ℕ
leaves (Returning dirty keep bytes) = 1
leaves (Ending control) = 1
leaves w = 0

abbrev pub late : List UpWord → ℕ
late [] = 0
late (w ∷ q) = late_step (sum_up asks q) (leaves w) (late q)

pub ender_is : (w : UpWord) → ender w ≤ asks w + leaves w
ender_is w = grind arith

-- 1 for a return
abbrev pub saves : UpWord → ℕ
saves (Returning dirty keep bytes) = 1
saves w = 0

-- 1 for a return that keeps the page
abbrev pub keeps : UpWord → ℕ
keeps (Returning dirty true bytes) = 1
keeps w = 0

saves_is : (w : UpWord) → saves w ≤ leaves w
saves_is w = grind arith

keeps_is : (w : UpWord) → keeps w ≤ saves w
keeps_is w = grind arith

pub keeps_le : (q : List UpWord) → sum_up keeps q ≤ sum_up saves q
keeps_le q = sum_up_le keeps saves q keeps_is

return_is : (w : UpWord) → saves w ≤ ender w + keeps w
return_is w = grind arith

-- a return keeps the page or is an ender
pub returns_le : (q : List UpWord) → sum_up saves q ≤ sum_up ender q + sum_up keeps q
returns_le [] = omega arith
returns_le (w ∷ q) = omega (arith, returns_le q, return_is w)

late_step_suc : (n here behind : ℕ) → 0 < n → late_step n here behind ≡ behind
late_step_suc n here behind pos = grind arith

pub late_end : (q : List UpWord) (w : UpWord) → asks w ≡ 0 → late (q ++ w ∷ []) ≡ late q + leaves w
late_end [] w none = omega arith
late_end (v ∷ q) w none = rw (sum_up_end asks q w, none) (grind (arith, late_end q w none))

pub late_ask : (q : List UpWord) (asker access : ℕ) → late (q ++ Asking asker access ∷ []) ≡ 0
late_ask [] asker access = refl
late_ask (v ∷ q) asker access =
    rw (sum_up_end asks q (Asking asker access)) (rw (late_step_suc (sum_up asks q + 1) (leaves v) (late (q ++ Asking asker access ∷ [])) (omega arith))
    (late_ask q asker access))

pub late_all : (q : List UpWord) → sum_up asks q ≡ 0 → sum_up ender q ≤ late q
late_all [] none = omega arith
late_all (v ∷ q) none =
    let rest_none : sum_up asks q ≡ 0 = omega arith in
    let v_none : asks v ≡ 0 = omega arith in
    let e : ender v ≤ asks v + leaves v = ender_is v in
    let ih : sum_up ender q ≤ late q = late_all q rest_none in
    rw rest_none (omega arith)

pub late_returns : (q : List UpWord) → sum_up asks q ≡ 0 → sum_up saves q ≤ late q
late_returns [] none = omega arith
late_returns (v ∷ q) none =
    let rest_none : sum_up asks q ≡ 0 = omega arith in
    let e : saves v ≤ leaves v = saves_is v in
    let ih : sum_up saves q ≤ late q = late_returns q rest_none in
    rw rest_none (omega arith)

-- what is said done behind the end of this control
abbrev pub if_any : ℕ → ℕ → ℕ
if_any zero n = 0
if_any (suc m) n = n

abbrev pub stray : ℕ → List UpWord → ℕ
stray k [] = 0
stray k (w ∷ q) = if_any (ends k w) (sum_up does q) + stray k q

if_any_0 : (m : ℕ) → if_any m 0 ≡ 0
if_any_0 m = grind arith

pub stray_none : (k : ℕ) (q : List UpWord) → sum_up does q ≡ 0 → stray k q ≡ 0
stray_none k [] none = refl
stray_none k (v ∷ q) none =
    let rest_none : sum_up does q ≡ 0 = omega arith in
    rw rest_none (omega (arith, if_any_0 (ends k v), stray_none k q rest_none))

pub stray_end : (k : ℕ) (q : List UpWord) (w : UpWord) → does w ≡ 0 → stray k (q ++ w ∷ []) ≡ stray k q
stray_end k [] w none = omega (arith, if_any_0 (ends k w))
stray_end k (v ∷ q) w none =
    rw (sum_up_end does q w, none) (let e : sum_up does q + 0 ≡ sum_up does q = omega arith in rw e (omega (arith, stray_end k q w none)))

if_any_none : (m n : ℕ) → m ≡ 0 → if_any m n ≡ 0
if_any_none m n e = grind arith

-- where the control has not ended, what is said done now is not stray
pub stray_live : (k : ℕ) (q : List UpWord) (w : UpWord) → sum_up (ends k) q ≡ 0 → ends k w ≡ 0 → stray k (q ++ w ∷ []) ≡ 0
stray_live k [] w none end_none = omega (arith, if_any_none (ends k w) 0 end_none)
stray_live k (v ∷ q) w none end_none =
    let v_none : ends k v ≡ 0 = omega arith in
    let rest_none : sum_up (ends k) q ≡ 0 = omega arith in
    omega (arith, if_any_none (ends k v) (sum_up does (q ++ w ∷ [])) v_none, stray_live k q w rest_none end_none)

-- words of one kind behind words of another
abbrev pub behind : (UpWord → ℕ) → (UpWord → ℕ) → List UpWord → ℕ
behind f g [] = 0
behind f g (w ∷ q) = if_any (f w) (sum_up g q) + behind f g q

pub behind_none : (f g : UpWord → ℕ) (q : List UpWord) → sum_up g q ≡ 0 → behind f g q ≡ 0
behind_none f g [] none = refl
behind_none f g (v ∷ q) none =
    let rest_none : sum_up g q ≡ 0 = omega arith in
    rw rest_none (omega (arith, if_any_0 (f v), behind_none f g q rest_none))

pub behind_end : (f g : UpWord → ℕ) (q : List UpWord) (w : UpWord) → g w ≡ 0 → behind f g (q ++ w ∷ []) ≡ behind f g q
behind_end f g [] w none = omega (arith, if_any_0 (f w))
behind_end f g (v ∷ q) w none = rw (sum_up_end g q w, none) (let e : sum_up g q + 0 ≡ sum_up g q = omega arith in rw e (omega (arith, behind_end f g q w none)))

pub behind_new : (f g : UpWord → ℕ) (q : List UpWord) (w : UpWord) → sum_up f q ≡ 0 → behind f g (q ++ w ∷ []) ≡ 0
behind_new f g [] w none = omega (arith, if_any_0 (f w))
behind_new f g (v ∷ q) w none =
    let v_none : f v ≡ 0 = omega arith in
    let rest_none : sum_up f q ≡ 0 = omega arith in
    omega (arith, if_any_none (f v) (sum_up g (q ++ w ∷ [])) v_none, behind_new f g q w rest_none)

-- downwards

-- 1 for a word that may give more
abbrev pub grant : DownWord → ℕ
grant (Supplying lock precious bytes) = 1
grant (Locking count returns false zero reply) = 1
grant w = 0

abbrev pub supplies : DownWord → ℕ
supplies (Supplying lock precious bytes) = 1
supplies w = 0

-- 1 for a lock with a reply of this kind
abbrev pub replies : ℕ → DownWord → ℕ
replies a (Locking count returns flush lock true) = if kind_of flush == a then 1 else 0
replies a w = 0

abbrev pub any_reply : DownWord → ℕ
any_reply (Locking count returns flush lock true) = 1
any_reply w = 0

reply_le : (a : ℕ) (w : DownWord) → replies a w ≤ any_reply w
reply_le a w = grind (arith, nat_tests)

abbrev pub sum_down : (DownWord → ℕ) → List DownWord → ℕ
sum_down f [] = 0
sum_down f (w ∷ q) = f w + sum_down f q

-- 1 for a message that the server of a shared page never sends
abbrev pub odd : DownWord → ℕ
odd (Locking count returns false lock true) = if lock == 2 then 0 else 1
odd (Locking count returns true lock false) = 1
odd (Locking count returns false (suc lock) false) = 1
odd Lacking = 1
odd Failing = 1
odd w = 0

pub replies_le : (a : ℕ) (q : List DownWord) → sum_down (replies a) q ≤ sum_down any_reply q
replies_le a [] = omega arith
replies_le a (w ∷ q) = omega (arith, replies_le a q, reply_le a w)

pub sum_down_end : (f : DownWord → ℕ) (q : List DownWord) (w : DownWord) → sum_down f (q ++ w ∷ []) ≡ sum_down f q + f w
sum_down_end f [] w = omega arith
sum_down_end f (v ∷ q) w = omega (arith, sum_down_end f q w)

-- grants behind the last lock with a reply, or all where there is none
abbrev pub loose : List DownWord → ℕ
loose [] = 0
loose (w ∷ q) = late_step (sum_down any_reply q) (grant w) (loose q)

pub loose_end : (q : List DownWord) (w : DownWord) → any_reply w ≡ 1 → grant w ≡ 0 → loose (q ++ w ∷ []) ≡ 0
loose_end [] w one none = omega arith
loose_end (v ∷ q) w one none =
    rw (sum_down_end any_reply q w, one) (rw (late_step_suc (sum_down any_reply q + 1) (grant v) (loose (q ++ w ∷ [])) (omega arith)) (loose_end q w one none))

pub loose_all : (q : List DownWord) → sum_down any_reply q ≡ 0 → loose q ≡ sum_down grant q
loose_all [] none = refl
loose_all (v ∷ q) none =
    let rest_none : sum_down any_reply q ≡ 0 = omega arith in
    rw rest_none (omega (arith, loose_all q rest_none))

-- the right that a word may lead to
abbrev pub larger : ℕ → ℕ → ℕ
larger a b = if nat_lt a b then b else a

abbrev pub raised : ℕ → ℕ
raised zero = 0
raised (suc right) = larger (suc right) 2

abbrev pub raise : DownWord → ℕ → ℕ
raise (Supplying lock precious bytes) right = larger right (right_of lock)
raise (Locking count returns false zero reply) right = raised right
raise w right = right

abbrev pub drain : List DownWord → ℕ → ℕ
drain [] right = right
drain (w ∷ q) right = drain q (raise w right)

pub drain_end : (q : List DownWord) (w : DownWord) (right : ℕ) → drain (q ++ w ∷ []) right ≡ raise w (drain q right)
drain_end [] w right = refl
drain_end (v ∷ q) w right = drain_end q w (raise v right)

raise_le : (w : DownWord) (m n : ℕ) → m ≤ n → raise w m ≤ raise w n
raise_le w m n le = grind (arith, nat_tests)

pub raise_up : (w : DownWord) (right : ℕ) → right ≤ raise w right
raise_up w right = grind (arith, nat_tests)

pub drain_le : (q : List DownWord) (m n : ℕ) → m ≤ n → drain q m ≤ drain q n
drain_le [] m n le = le
drain_le (w ∷ q) m n le = drain_le q (raise w m) (raise w n) (raise_le w m n le)

pub drain_up : (q : List DownWord) (right : ℕ) → right ≤ drain q right
drain_up [] right = omega arith
drain_up (w ∷ q) right = omega (arith, drain_up q (raise w right), raise_up w right)

raise_none : (w : DownWord) (right : ℕ) → grant w ≡ 0 → raise w right ≡ right
raise_none w right none = grind (arith, nat_tests)

pub drain_none : (q : List DownWord) (right : ℕ) → sum_down grant q ≡ 0 → drain q right ≡ right
drain_none [] right none = refl
drain_none (w ∷ q) right none =
    let w_none : grant w ≡ 0 = omega arith in
    let q_none : sum_down grant q ≡ 0 = omega arith in
    rw (raise_none w right w_none) (drain_none q right q_none)

raise_0 : (w : DownWord) → supplies w ≡ 0 → raise w 0 ≡ 0
raise_0 w none = grind (arith, nat_tests)

-- a page that is not here does not come without a supply
pub drain_0 : (q : List DownWord) → sum_down supplies q ≡ 0 → drain q 0 ≡ 0
drain_0 [] none = refl
drain_0 (w ∷ q) none =
    let w_none : supplies w ≡ 0 = omega arith in
    let q_none : sum_down supplies q ≡ 0 = omega arith in
    rw (raise_0 w w_none) (drain_0 q q_none)

-- bytes on the way

pub carry_up_end : (page : List ℕ) (q : List UpWord) (w : UpWord) → CarryUp page q → SaysUp page w → CarryUp page (q ++ w ∷ [])
carry_up_end page [] w c says = (says, tt)
carry_up_end page (v ∷ q) w c says = (c.0, carry_up_end page q w c.1 says)

pub carry_down_end : (page : List ℕ) (q : List DownWord) (w : DownWord) → CarryDown page q → SaysDown page w → CarryDown page (q ++ w ∷ [])
carry_down_end page [] w c says = (says, tt)
carry_down_end page (v ∷ q) w c says = (c.0, carry_down_end page q w c.1 says)

pub carry_up_rest : (page : List ℕ) (q : List UpWord) → CarryUp page q → CarryUp page (rest q)
carry_up_rest page [] c = tt
carry_up_rest page (v ∷ q) c = c.1

pub carry_down_rest : (page : List ℕ) (q : List DownWord) → CarryDown page q → CarryDown page (rest q)
carry_down_rest page [] c = tt
carry_down_rest page (v ∷ q) c = c.1

says_up_none : (page : List ℕ) (w : UpWord) → saves w ≡ 0 → SaysUp page w
says_up_none page (Returning dirty keep bytes) none = absurd (omega arith)
says_up_none page w none = tt

says_down_none : (page : List ℕ) (w : DownWord) → supplies w ≡ 0 → SaysDown page w
says_down_none page (Supplying lock precious bytes) none = absurd (omega arith)
says_down_none page w none = tt

pub carry_up_none : (page : List ℕ) (q : List UpWord) → sum_up saves q ≡ 0 → CarryUp page q
carry_up_none page [] none = tt
carry_up_none page (v ∷ q) none = (says_up_none page v (omega arith), carry_up_none page q (omega arith))

pub carry_down_none : (page : List ℕ) (q : List DownWord) → sum_down supplies q ≡ 0 → CarryDown page q
carry_down_none page [] none = tt
carry_down_none page (v ∷ q) none = (says_down_none page v (omega arith), carry_down_none page q (omega arith))

raise_supply : (w : DownWord) (right : ℕ) → raise w right ≡ 0 → supplies w ≡ 0
raise_supply w right none = grind (arith, nat_tests)

pub drain_supplies : (q : List DownWord) (right : ℕ) → drain q right ≡ 0 → sum_down supplies q ≡ 0
drain_supplies [] right none = refl
drain_supplies (w ∷ q) right none =
    let w_none : raise w right ≡ 0 = omega (arith, drain_up q (raise w right)) in
    omega (arith, drain_supplies q (raise w right) none, raise_supply w right w_none)
