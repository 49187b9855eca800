-- What words of bits hold after a write to one, and where their first bit is from a page on.
use Rattle.std.proofs.Common.{ℕ, ◌≡◌, ◌≢◌, ◌<◌, ◌≤◌, ◌+◌, ◌*◌, ◌/◌, ◌%◌, ◌-◌, ◌^◌, ◌==◌, Bool, true, false, inl, inr, sym, ◌∙◌, ap, arith, w64, refl}
use Rattle.std.proofs.lemmas.Bool.Decides.{eqb_tells, leb_tells}
use Rattle.std.proofs.lemmas.Nat.{and_le_r}
use Rattle.std.proofs.lemmas.Nat.Bits.{bit_at-lt, bit_at-trailing_zeros, bit_at-zero, bit_at_and, bit_at_clear_other, bit_at_clear_same}
use Rattle.std.proofs.lemmas.Nat.Bits.{bit_at_mask_below, bit_at_mask_inside, bit_at_ones, bit_at_set_other, bit_at_set_same, ones_shl}
use Rattle.std.specs.Int.{bit_at, trailing_zeros}
use Rattle.std.specs.Prelude.{◌&&◌, bit_and, bit_or, if◌then◌else◌}
use Rattle.vm_base.specs.declared.ids.ObjectId.{ObjectId}
use Rattle.vm_base.specs.declared.ids.PageKey.{PageKey}
use Rattle.vm_sets.specs.Bits.{WritesBit, in_bits}
use Rattle.vm_sets.specs.declared.group_key.GroupKey.{GroupKey}

pub bit_set : (n k : ℕ) → k < 64 → WritesBit k true n (bit_or n (1 * 2 ^ k % 2 ^ 64))
bit_set n k within = record {
  same = ap (λ z. z == 1) (bit_at_set_same w64 n k within);
  other = λ i less apart. bit_at_set_other w64 n k within i apart;
}

pub bit_cleared : (n k : ℕ) → k < 64 → WritesBit k false n (bit_and n (2 ^ 64 - 1 - 1 * 2 ^ k % 2 ^ 64))
bit_cleared n k within = record {
  same = ap (λ z. z == 1) (bit_at_clear_same w64 n k within);
  other = λ i less apart. bit_at_clear_other w64 n k within i less apart;
}

-- the word of one group is another now, in one bit
pub bits_put : (old new : ℕ → ℕ → ℕ) (key : PageKey) (group : GroupKey) (bits : ℕ) (now : Bool) → group.object ≡ key.object
    → group.group ≡ key.page.0 / 64 → WritesBit (key.page.0 % 64) now (old group.object.0 group.group) bits
    → ((o g : ℕ) → new o g ≡ (if group.object.0 == o && group.group == g then bits else old o g))
    → (o p : ℕ) → in_bits (new o) p ≡ (if key.object.0 == o && key.page.0 == p then now else in_bits (old o) p)
bits_put old new key group bits now object of bit writes o p = elim (eqb_tells group.object.0 o) [
  | inl one ↦
      let mine : (key.object.0 == o) ≡ true = ap (λ (z : ObjectId). z.0 == o) (sym object) ∙ one.0 in
      elim (eqb_tells group.group (p / 64)) [
        | inl two ↦
            let here : new o (p / 64) ≡ bits = rw (one.0, two.0) at (writes o (p / 64)) in
            elim (eqb_tells key.page.0 p) [
              | inl same ↦ rw (mine, same.0, here) (ap (λ z. bit_at bits (z % 64) == 1) (sym same.1) ∙ bit.same)
              | inr apart ↦
                  let differ : p % 64 ≢ key.page.0 % 64 = λ e. apart.1 (omega (arith, e, two.1, of)) in
                  let less : p % 64 < 64 = omega arith in
                  let stood : old group.object.0 group.group ≡ old o (p / 64) = ap (λ z. old z group.group) one.1 ∙ ap (old o) two.1 in
                  rw (mine, apart.0, here) (ap (λ z. z == 1) (bit.other (p % 64) less differ ∙ ap (λ z. bit_at z (p % 64)) stood))
            ]
        | inr other ↦
            let stays : new o (p / 64) ≡ old o (p / 64) = rw (one.0, other.0) at (writes o (p / 64)) in
            let apart : (key.page.0 == p) ≡ false = elim (eqb_tells key.page.0 p) [
              | inl same ↦ absurd (other.1 (of ∙ ap (λ z. z / 64) same.1))
              | inr apart ↦ apart.0
            ] in
            rw (mine, apart) (ap (λ z. bit_at z (p % 64) == 1) stays)
      ]
  | inr other ↦
      let mine : (key.object.0 == o) ≡ false = ap (λ (z : ObjectId). z.0 == o) (sym object) ∙ other.0 in
      let stays : new o (p / 64) ≡ old o (p / 64) = rw other.0 at (writes o (p / 64)) in
      rw mine (ap (λ z. bit_at z (p % 64) == 1) stays)
]

pub in_group : (word : ℕ → ℕ) (q group i : ℕ) → q ≡ group * 64 + i → i < 64 → in_bits word q ≡ (bit_at (word group) i == 1)
in_group word q group i is less =
    let one : q / 64 ≡ group = omega arith in
    let two : q % 64 ≡ i = omega arith in
    ap (λ z. bit_at (word z) (q % 64) == 1) one ∙ ap (λ z. bit_at (word group) z == 1) two

-- a search has come to this group: these are its bits that may still be the first, and no page in front of it is
pub record Seeks (word : ℕ → ℕ) (from group bits : ℕ) : Type 0 where
  pub low : from < (group + 1) * 64
  pub fits : group < 2 ^ 26
  pub bound : bits < 2 ^ 64
  pub none : (q : ℕ) → from ≤ q → q < group * 64 → in_bits word q ≡ false
  pub here : (i : ℕ) → i < 64 → from ≤ group * 64 + i → bit_at bits i ≡ bit_at (word group) i
  pub front : (i : ℕ) → i < 64 → group * 64 + i < from → bit_at bits i ≡ 0

pub seek_start : (word : ℕ → ℕ) (from : ℕ) → from / 64 < 2 ^ 26
    → Seeks word from (from / 64) (bit_and (word (from / 64)) ((2 ^ 64 - 1) * 2 ^ (from % 64) % 2 ^ 64))
seek_start word from fits =
    let less : from % 64 < 64 = omega arith in
    let mask = ones_shl 64 (from % 64) (omega (arith, less)) in
    let bits = word (from / 64) in
    rw mask record {
      low = omega arith;
      fits = fits;
      bound = omega (arith, and_le_r bits (2 ^ 64 - 2 ^ (from % 64)));
      none = λ q le past. absurd (omega arith);
      here = λ i within le.
          let one = bit_at_mask_inside (from % 64) 64 i (omega arith) within in
          let small = bit_at-lt bits i in
          bit_at_and bits (2 ^ 64 - 2 ^ (from % 64)) i ∙ (rw one (omega (arith, small)));
      front = λ i within past.
          let zero = bit_at_mask_below (from % 64) 64 i (omega arith) in
          bit_at_and bits (2 ^ 64 - 2 ^ (from % 64)) i ∙ (rw zero (omega arith));
    }

-- no page of a group is the first where no bit is left of it
passed : (word : ℕ → ℕ) (from group : ℕ) → Seeks word from group 0 → (q : ℕ) → from ≤ q → q < (group + 1) * 64 → in_bits word q ≡ false
passed word from group seeks q le past =
    elim (leb_tells (group * 64) q) [
      | inl inside ↦
          let within : q % 64 < 64 = omega arith in
          let place : q ≡ group * 64 + q % 64 = omega (arith, inside.1) in
          in_group word q group (q % 64) place within ∙ ap (λ z. z == 1) (sym (seeks.here (q % 64) within (omega (arith, place))) ∙ bit_at-zero (q % 64))
      | inr before ↦ seeks.none q le before.1
    ]

pub seek_on : (word : ℕ → ℕ) (from group bits : ℕ) → Seeks word from group 0 → group + 1 < 2 ^ 26 → bits < 2 ^ 64
    → ((i : ℕ) → i < 64 → bit_at bits i ≡ bit_at (word (group + 1)) i) → Seeks word from (group + 1) bits
seek_on word from group bits seeks fits bound same = record {
  low = omega (arith, seeks.low);
  fits = fits;
  bound = bound;
  none = passed word from group seeks;
  here = λ i within le. same i within;
  front = λ i within past. absurd (omega (arith, seeks.low));
}

-- all bits of a word
pub all_bits : (bits i : ℕ) → i < 64 → bit_at (bit_and bits (2 ^ 64 - 1)) i ≡ bit_at bits i
all_bits bits i within =
    let one = bit_at_ones 64 i within in
    let small = bit_at-lt bits i in
    bit_at_and bits (2 ^ 64 - 1) i ∙ (rw one (omega (arith, small)))

pub seek_end : (word : ℕ → ℕ) (from group : ℕ) → Seeks word from group 0 → ((g : ℕ) → group + 1 ≤ g → word g ≡ 0)
    → (q : ℕ) → from ≤ q → in_bits word q ≡ false
seek_end word from group seeks none q le =
    elim (leb_tells ((group + 1) * 64) q) [
      | inl behind ↦ ap (λ z. bit_at z (q % 64) == 1) (none (q / 64) (omega (arith, behind.1))) ∙ ap (λ z. z == 1) (bit_at-zero (q % 64))
      | inr inside ↦ passed word from group seeks q le inside.1
    ]

pub seek_fits : (word : ℕ → ℕ) (from group bits : ℕ) → Seeks word from group bits → 0 < bits → group * 64 + trailing_zeros w64 bits < 2 ^ 32
seek_fits word from group bits seeks some = let lowest = bit_at-trailing_zeros w64 bits some seeks.bound in omega (arith, seeks.fits, lowest.0)

-- the first page whose bit is set, from one on
pub record IsFirstBit (word : ℕ → ℕ) (from page : ℕ) : Type 0 where
  pub low : from ≤ page
  pub there : in_bits word page ≡ true
  pub first : (q : ℕ) → from ≤ q → q < page → in_bits word q ≡ false

pub seek_found : (word : ℕ → ℕ) (from group bits : ℕ) → Seeks word from group bits → 0 < bits → IsFirstBit word from (group * 64 + trailing_zeros w64 bits)
seek_found word from group bits seeks some =
    let lowest = bit_at-trailing_zeros w64 bits some seeks.bound in
    let first = trailing_zeros w64 bits in
    let low : from ≤ group * 64 + first = elim (leb_tells from (group * 64 + first)) [
      | inl le ↦ le.1
      | inr before ↦ absurd (omega (arith, seeks.front first lowest.0 before.1, lowest.1))
    ] in
    record {
      low = low;
      there = in_group word (group * 64 + first) group first refl lowest.0 ∙ ap (λ z. z == 1) (sym (seeks.here first lowest.0 low) ∙ lowest.1);
      first = λ q le less. elim (leb_tells (group * 64) q) [
        | inl inside ↦
            let within : q % 64 < 64 = omega arith in
            let place : q ≡ group * 64 + q % 64 = omega (arith, inside.1, less, lowest.0) in
            in_group word q group (q % 64) place within
            ∙ ap (λ z. z == 1) (sym (seeks.here (q % 64) within (omega (arith, place))) ∙ lowest.2 (q % 64) (omega (arith, place, less)))
        | inr before ↦ seeks.none q le before.1
      ];
    }
