-- How many frames have a page that is kept: what a change of one page makes of that, and that no such frame is free.
use Rattle.vm_kernel.proofs.Common.{Bool, Changes, Fit, FrameNo, HostParts, List, None, Option, PageKey, PageRow, PutsRow, Queues, ResidentTable, Some, [], ap}
use Rattle.vm_kernel.proofs.Common.{arith, claimed, count_claims, eqb_tells, false, frame_count, free, get_or, if◌then◌else◌, inl, inr, is_claimed, led, length}
use Rattle.vm_kernel.proofs.Common.{owner_of, refl, row_at, row_cases, suc, sym, true, zero, ℕ, ◌&&◌, ◌||◌, ◌+◌, ◌<◌, ◌==◌, ◌∙◌, ◌∷◌, ◌≡◌, ◌≤◌}
use Rattle.vm_kernel.proofs.memory.PagesShown.{itself}
use Rattle.vm_kernel.specs.Rooms.{is_kept, keeps_at, kept_below, loose_frames}
use Rattle.vm_parts.specs.Changes.{IsIn}
use Rattle.vm_waits.specs.Waits.{one}

-- a row in another frame is none of a page that is kept in this one
kept_elsewhere : (f : ℕ) (frame : FrameNo) (row : Option PageRow) → IsIn frame row → (frame.0 == f) ≡ false → is_kept f row ≡ false
kept_elsewhere f frame None is apart = refl
kept_elsewhere f frame (Some row) is apart =
    ap (λ (z : FrameNo). z.0 == f && (row.here && (row.dirty || row.precious))) is ∙ ap (λ b. b && (row.here && (row.dirty || row.precious))) apart

-- the page to which a frame leads is as its row says
kept_led : (resident : ResidentTable) (f : ℕ) (key : PageKey) (x : Option PageRow) → row_at resident key.object.0 key.page.0 ≡ x
    → keeps_at resident f (led key x) ≡ is_kept f x
kept_led resident f key None is = refl
kept_led resident f key (Some row) is = ap (is_kept f) is

-- what a change of one page says of another frame
still_elsewhere : (key : PageKey) (frame : FrameNo) (was now : Option PageRow) (old new : ResidentTable) → row_at old key.object.0 key.page.0 ≡ was
    → IsIn frame was → IsIn frame now → PutsRow key.object.0 key.page.0 now old new
    → (f : ℕ) → (frame.0 == f) ≡ false → (owner : Option PageKey) → keeps_at new f owner ≡ keeps_at old f owner
still_elsewhere key frame was now old new found was_in now_in put f apart None = refl
still_elsewhere key frame was now old new found was_in now_in put f apart (Some other) =
    elim (row_cases key.object.0 key.page.0 now old new put other.object.0 other.page.0) [
      | inl here ↦
          ap (is_kept f) here.is ∙ kept_elsewhere f frame now now_in apart
          ∙ sym (ap (λ o. is_kept f (row_at old o other.page.0)) (sym here.object) ∙ ap (λ p. is_kept f (row_at old key.object.0 p)) (sym here.page)
          ∙ ap (is_kept f) found ∙ kept_elsewhere f frame was was_in apart)
      | inr beside ↦ ap (is_kept f) beside.is
    ]

-- a frame that isn't that of the change
kept_apart : {key : PageKey} {frame : FrameNo} {was now : Option PageRow} {held : Bool} {bytes : List ℕ} {lists : Queues} {old new : HostParts}
    → Changes key frame was now held bytes lists old new → (f : ℕ) → (frame.0 == f) ≡ false
    → keeps_at new.resident f (owner_of new.resident f) ≡ keeps_at old.resident f (owner_of old.resident f)
kept_apart {key} {frame} {was} {now} {held} {bytes} {lists} {old} {new} c f apart =
    ap (keeps_at new.resident f) (c.owner.at f ∙ ap (λ b. if b then led key now else owner_of old.resident f) apart)
    ∙ still_elsewhere key frame was now old.resident new.resident c.found c.was_in c.now_in c.row f apart (owner_of old.resident f)

-- that one, before and behind it
kept_was : {key : PageKey} {frame : FrameNo} {was now : Option PageRow} {held : Bool} {bytes : List ℕ} {lists : Queues} {old new : HostParts}
    → Changes key frame was now held bytes lists old new → keeps_at old.resident frame.0 (owner_of old.resident frame.0) ≡ is_kept frame.0 was
kept_was {key} {frame} {was} {now} {held} {bytes} {lists} {old} {new} c =
    ap (keeps_at old.resident frame.0) c.owned ∙ kept_led old.resident frame.0 key was c.found

put_there : (key : PageKey) (now : Option PageRow) (old new : ResidentTable) → PutsRow key.object.0 key.page.0 now old new
    → row_at new key.object.0 key.page.0 ≡ now
put_there key now old new put =
    put.at key.object.0 key.page.0 ∙ ap (λ b. if b && key.page.0 == key.page.0 then now else row_at old key.object.0 key.page.0) (itself key.object.0)
    ∙ ap (λ (b : Bool). if b then now else row_at old key.object.0 key.page.0) (itself key.page.0)

kept_now : {key : PageKey} {frame : FrameNo} {was now : Option PageRow} {held : Bool} {bytes : List ℕ} {lists : Queues} {old new : HostParts}
    → Changes key frame was now held bytes lists old new → keeps_at new.resident frame.0 (owner_of new.resident frame.0) ≡ is_kept frame.0 now
kept_now {key} {frame} {was} {now} {held} {bytes} {lists} {old} {new} c =
    ap (keeps_at new.resident frame.0) (c.owner.at frame.0 ∙ ap (λ b. if b then led key now else owner_of old.resident frame.0) (itself frame.0))
    ∙ kept_led new.resident frame.0 key now (put_there key now old.resident new.resident c.row)

-- below the frame of a change as many are kept as before
kept_before : {key : PageKey} {frame : FrameNo} {was now : Option PageRow} {held : Bool} {bytes : List ℕ} {lists : Queues} {old new : HostParts}
    → Changes key frame was now held bytes lists old new → (n : ℕ) → n ≤ frame.0
    → kept_below new.resident n ≡ kept_below old.resident n
kept_before c zero less = refl
kept_before {key} {frame} {was} {now} {held} {bytes} {lists} {old} {new} c (suc n) less = elim (eqb_tells frame.0 n) [
  | inl same ↦ absurd (let is = same.1 in omega (arith, is, less))
  | inr apart ↦
      let here : one (keeps_at new.resident n (owner_of new.resident n)) ≡ one (keeps_at old.resident n (owner_of old.resident n)) = ap one
      (kept_apart c n apart.0) in
      let rest : kept_below new.resident n ≡ kept_below old.resident n = kept_before c n (omega (arith, less)) in
      omega (arith, here, rest)
]

-- a change of one page makes as much of the number of those that are kept as of that page
pub kept_one : {key : PageKey} {frame : FrameNo} {was now : Option PageRow} {held : Bool} {bytes : List ℕ} {lists : Queues} {old new : HostParts}
    → Changes key frame was now held bytes lists old new → (n : ℕ) → frame.0 < n
    → kept_below new.resident n + one (is_kept frame.0 was) ≡ kept_below old.resident n + one (is_kept frame.0 now)
kept_one c zero less = absurd (omega (arith, less))
kept_one {key} {frame} {was} {now} {held} {bytes} {lists} {old} {new} c (suc n) less = elim (eqb_tells frame.0 n) [
  | inl same ↦
      let is : frame.0 ≡ n = same.1 in
      let first : one (keeps_at new.resident n (owner_of new.resident n)) ≡ one (is_kept frame.0 now) = ap
      (λ f. one (keeps_at new.resident f (owner_of new.resident f))) (sym is) ∙ ap one (kept_now c) in
      let last : one (keeps_at old.resident n (owner_of old.resident n)) ≡ one (is_kept frame.0 was) = ap
      (λ f. one (keeps_at old.resident f (owner_of old.resident f))) (sym is) ∙ ap one (kept_was c) in
      let rest : kept_below new.resident n ≡ kept_below old.resident n = kept_before c n (omega (arith, is)) in
      omega (arith, first, last, rest)
  | inr apart ↦
      let here : one (keeps_at new.resident n (owner_of new.resident n)) ≡ one (keeps_at old.resident n (owner_of old.resident n)) = ap one
      (kept_apart c n apart.0) in
      let low : frame.0 < n = below frame.0 n less apart.1 in
      let rest : kept_below new.resident n + one (is_kept frame.0 was) ≡ kept_below old.resident n + one (is_kept frame.0 now) = kept_one c n low in
      omega (arith, here, rest)
]
  where
    below : (f n : ℕ) → f < suc n → (f ≡ n → ⊥) → f < n
    below f n less apart = omega (arith, less, apart)

-- no more are kept than there are
one_most : (b : Bool) → one b ≤ 1
one_most true = omega arith
one_most false = omega arith

pub kept_most : (resident : ResidentTable) (n : ℕ) → kept_below resident n ≤ n
kept_most resident zero = omega arith
kept_most resident (suc n) =
    let here = one_most (keeps_at resident n (owner_of resident n)) in
    let rest = kept_most resident n in
    omega (arith, here, rest)

-- those that pass a test, of the numbers below one
abbrev passing : (ℕ → Bool) → ℕ → ℕ
passing p zero = 0
passing p (suc n) = one (p n) + passing p n

passing_first : (p : ℕ → Bool) (n : ℕ) → passing p (suc n) ≡ one (p 0) + passing (λ i. p (suc i)) n
passing_first p zero = refl
passing_first p (suc n) =
    let rest = passing_first p n in
    omega (arith, rest)

one_claim : (claim : Bool) (n : ℕ) → (if claim then suc n else n) ≡ one claim + n
one_claim true n = omega arith
one_claim false n = omega arith

claims_passing : (claims : List Bool) → count_claims claims ≡ passing (λ f. get_or claims f false) (length claims)
claims_passing [] = refl
claims_passing (claim ∷ claims) =
    let this = one_claim claim (count_claims claims) in
    let rest = claims_passing claims in
    let first = passing_first (λ f. get_or (claim ∷ claims) f false) (length claims) in
    omega (arith, this, rest, first)

-- a page that is kept has a claimed frame
kept_claimed : (parts : HostParts) (f : ℕ) → Fit parts → one (keeps_at parts.resident f (owner_of parts.resident f)) ≤ one (is_claimed parts.frames f)
kept_claimed parts f fit = by (is_claimed parts.frames f) refl
  where
    by : (b : Bool) → is_claimed parts.frames f ≡ b → one (keeps_at parts.resident f (owner_of parts.resident f)) ≤ one (is_claimed parts.frames f)
    by true is =
        let most = one_most (keeps_at parts.resident f (owner_of parts.resident f)) in
        let here : one (is_claimed parts.frames f) ≡ 1 = ap one is in
        omega (arith, most, here)
    by false is =
        let none : one (keeps_at parts.resident f (owner_of parts.resident f)) ≡ 0 = ap (λ z. one (keeps_at parts.resident f z)) (fit.unowned f is) in
        omega (arith, none)

kept_passing : (parts : HostParts) → Fit parts → (n : ℕ) → kept_below parts.resident n ≤ passing (λ f. is_claimed parts.frames f) n
kept_passing parts fit zero = omega arith
kept_passing parts fit (suc n) =
    let here = kept_claimed parts n fit in
    let rest = kept_passing parts fit n in
    omega (arith, here, rest)

pub kept_held : (parts : HostParts) → Fit parts → kept_below parts.resident (frame_count parts.frames) ≤ claimed parts.frames
kept_held parts fit =
    let some = kept_passing parts fit (frame_count parts.frames) in
    let all = claims_passing parts.frames.claims in
    omega (arith, some, all)

-- each frame that is free has no page that is kept
pub free_loose : (parts : HostParts) → Fit parts → free parts.frames ≤ loose_frames parts
free_loose parts fit =
    let held = kept_held parts fit in
    omega (arith, held)
