-- The frames that returns hold, once a page has left its frame.
use Rattle.vm_kernel.proofs.Common.{All, All-append, All-cons, All-head, All-nil, All-tail, Bool, Changes, EachApart, FrameNo, FrameTable, HasLaundry}
use Rattle.vm_kernel.proofs.Common.{HostParts, IsWashed, LaundryList, List, None, PageKey, PageRow, Queues, ResidentTable, Some, [], ap, arith, claimed}
use Rattle.vm_kernel.proofs.Common.{count_claims, count_released, eqb_tells, false, frame_count, get_or, get_or-set_other, if_true, inl, inr, is_claimed}
use Rattle.vm_kernel.proofs.Common.{is_skipped, length, length-append, nat_tests, owner_of, refl, set, subst, sym, true, ℕ, ◌++◌, ◌+◌, ◌<◌, ◌==◌, ◌∙◌, ◌∷◌, ◌≡◌}
use Rattle.vm_kernel.proofs.Common.{◌≤◌}
use Rattle.vm_kernel.proofs.memory.PagesShown.{itself, laundry_changed}
use Rattle.std.proofs.lemmas.Bool.{or_left, or_parts, or_right}

-- a frame that is held is one of those that are claimed, and no page's
pub washed_at : (fs : FrameTable) (rs : ResidentTable) (held : List FrameNo) (g : ℕ) → All (IsWashed fs rs) held → is_skipped held g ≡ true
    → IsWashed fs rs (record { 0 = g })
washed_at fs rs [] g all there = absurd (let bad : false ≡ true = there in cc)
washed_at fs rs (f ∷ held) g all there = elim (eqb_tells f.0 g) [
  | inl same ↦ subst (λ (z : ℕ). IsWashed fs rs (record { 0 = z })) same.1 (All-head (IsWashed fs rs) f held all)
  | inr apart ↦ washed_at fs rs held g (All-tail (IsWashed fs rs) f held all) (rw apart.0 at there)
]

-- so a page's frame is not held
pub unheld : (fs : FrameTable) (rs : ResidentTable) (held : List FrameNo) (f : ℕ) (key : PageKey) → All (IsWashed fs rs) held → owner_of rs f ≡ Some key
    → is_skipped held f ≡ false
unheld fs rs held f key all owner = go (is_skipped held f) refl
  where
    go : (b : Bool) → is_skipped held f ≡ b → is_skipped held f ≡ false
    go true is = absurd (let bad : None ≡ Some key = sym (washed_at fs rs held f all is).unowned ∙ owner in cc)
    go false is = is

-- frames that stand there once each, and are claimed, are no more than there are claims
pub each_counted : (claims : List Bool) (fs : List FrameNo) → ((g : ℕ) → is_skipped fs g ≡ true → get_or claims g false ≡ true) → EachApart fs
    → length fs ≤ count_claims claims
each_counted claims [] all apart = omega arith
each_counted claims (f ∷ fs) all apart =
    let mine : get_or claims f.0 false ≡ true = all f.0 (or_left (f.0 == f.0) (is_skipped fs f.0) (itself f.0)) in
    let fewer = each_counted (set claims f.0 false) fs others apart.1 in
    let count = count_released claims f.0 mine in
    omega (arith, fewer, count)
  where
    others : (g : ℕ) → is_skipped fs g ≡ true → get_or (set claims f.0 false) g false ≡ true
    others g there = elim (eqb_tells f.0 g) [
      | inl same ↦ absurd (let bad : false ≡ true = sym apart.0 ∙ (ap (is_skipped fs) same.1 ∙ there) in cc)
      | inr apart ↦ get_or-set_other claims f.0 g false false (λ e. apart.1 (sym e)) ∙ all g (or_right (f.0 == g) (is_skipped fs g) there)
    ]

-- while some page has a frame there is room for one more
pub laundry_room : (fs : FrameTable) (rs : ResidentTable) (laundry : LaundryList) (out f : ℕ) (key : PageKey) → HasLaundry fs rs laundry out
    → claimed fs ≤ frame_count fs → is_claimed fs f ≡ true → owner_of rs f ≡ Some key → 0 < laundry.room
laundry_room fs rs laundry out f key has most mine owner =
    let count = each_counted fs.claims (record { 0 = f } ∷ laundry.held) all (unheld fs rs laundry.held f key has.washed owner, has.apart) in
    omega (arith, count, has.room, most)
  where
    all : (g : ℕ) → is_skipped (record { 0 = f } ∷ laundry.held) g ≡ true → get_or fs.claims g false ≡ true
    all g there = elim (eqb_tells f g) [
      | inl same ↦ subst (λ (z : ℕ). is_claimed fs z ≡ true) same.1 mine
      | inr apart ↦ (washed_at fs rs laundry.held g has.washed (rw apart.0 at there)).claimed
    ]

-- each stands there once still, behind them one that did not
apart_push : (held : List FrameNo) (f : FrameNo) → EachApart held → is_skipped held f.0 ≡ false → EachApart (held ++ f ∷ [])
apart_push [] f apart new = (refl, tt)
apart_push (g ∷ held) f apart new = (unskipped held apart.0, apart_push held f apart.1 (or_parts (g.0 == f.0) (is_skipped held f.0) new).1)
  where
    turned : (a b : ℕ) → (a == b) ≡ false → (b == a) ≡ false
    turned a b is = grind (arith, nat_tests)

    unskipped : (held : List FrameNo) → is_skipped held g.0 ≡ false → is_skipped (held ++ f ∷ []) g.0 ≡ false
    unskipped [] none = rw (turned g.0 f.0 (or_parts (g.0 == f.0) (is_skipped held f.0) new).0) refl
    unskipped (moment ∷ rest) none =
        rw (or_parts (moment.0 == g.0) (is_skipped rest g.0) none).0 (unskipped rest (or_parts (moment.0 == g.0) (is_skipped rest g.0) none).1)

-- a page has gone to its pager, and its frame is held
pub laundry_returned : (key : PageKey) (row : PageRow) (bytes : List ℕ) (lists : Queues) (old new : HostParts) (laundry laundry2 : LaundryList) (out : ℕ)
    → HasLaundry old.frames old.resident laundry out → Changes key row.frame (Some row) None true bytes lists old new
    → laundry2.held ≡ laundry.held ++ row.frame ∷ [] → laundry2.room + 1 ≡ laundry.room → HasLaundry new.frames new.resident laundry2 (out + 1)
laundry_returned key row bytes lists old new laundry laundry2 out has c held room =
    let fresh = unheld old.frames old.resident laundry.held row.frame.0 key has.washed c.owned in
    let still = laundry_changed key row.frame (Some row) None true bytes lists old new laundry out has c in
    let long : length laundry2.held ≡ length laundry.held + 1 = ap length held ∙ length-append laundry.held (row.frame ∷ []) in
    record {
      count = omega (arith, has.count, long);
      room = omega (arith, still.room, long, room);
      washed =
          subst (All (IsWashed new.frames new.resident)) (sym held) (All-append (IsWashed new.frames new.resident) laundry.held (row.frame ∷ []) still.washed
          (All-cons (IsWashed new.frames new.resident) row.frame [] last (All-nil (IsWashed new.frames new.resident))));
      apart = subst EachApart (sym held) (apart_push laundry.held row.frame has.apart fresh);
    }
  where
    last : IsWashed new.frames new.resident row.frame
    last = record {
      claimed = if_true row.frame.0 true (is_claimed old.frames row.frame.0) (is_claimed new.frames row.frame.0) (c.claim.at row.frame.0);
      unowned = if_true row.frame.0 None (owner_of old.resident row.frame.0) (owner_of new.resident row.frame.0) (c.owner.at row.frame.0);
    }
