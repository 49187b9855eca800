-- What is read from an area after a write.
use Rattle.std.proofs.Common.{ℕ, zero, suc, ◌≡◌, ◌+◌, ◌-◌, ◌<◌, ◌≤◌, ◌⊎◌, inl, inr, max, List, [], ◌∷◌, ◌++◌, length, take, drop, replicate, slice_index, refl}
use Rattle.std.proofs.Common.{sym, ap, ◌∙◌, arith, length-append}
use Rattle.std.proofs.Math.ListN.{get_or-append}
use Rattle.std.proofs.lemmas.List.{get_or-take, get_or-drop, get_or-append_right, length-take, length-drop, length-replicate}
use Rattle.std.proofs.lemmas.Grind.{same_number_lists}
use Rattle.vm_outside.specs.Areas.{read_at, lengthened, write_at, Torn}

zero_byte : (n i : ℕ) → slice_index (replicate n 0) i ≡ 0
zero_byte zero i = refl
zero_byte (suc n) zero = refl
zero_byte (suc n) (suc i) = zero_byte n i

-- zeros behind the bytes change no byte
padded_byte : (bytes : List ℕ) (n i : ℕ) → slice_index (bytes ++ replicate n 0) i ≡ slice_index bytes i
padded_byte [] n i = zero_byte n i
padded_byte (b ∷ bytes) n zero = refl
padded_byte (b ∷ bytes) n (suc i) = padded_byte bytes n i

pub length-read_at : (bytes : List ℕ) (at n : ℕ) → length (read_at bytes at n) ≡ n
length-read_at bytes at n =
    omega (arith, length-take n (drop at bytes ++ replicate n 0), length-append (drop at bytes) (replicate n 0), length-replicate {A = ℕ} n 0)

pub read_at-byte : (bytes : List ℕ) (at n i : ℕ) → i < n
    → slice_index (read_at bytes at n) i ≡ slice_index bytes (at + i)
read_at-byte bytes at n i less = get_or-take n (drop at bytes ++ replicate n 0) i 0 less ∙ (padded_byte (drop at bytes) n i ∙ get_or-drop at bytes i 0)

-- two areas with the same bytes in a range are read alike there
pub read_at-same : (xs ys : List ℕ) (at n : ℕ) → ((i : ℕ) → i < n → slice_index xs (at + i) ≡ slice_index ys (at + i))
    → read_at xs at n ≡ read_at ys at n
read_at-same xs ys at n same =
    same_number_lists (read_at xs at n) (read_at ys at n) (length-read_at xs at n ∙ sym (length-read_at ys at n))
    (λ i less. let inside : i < n = omega (arith, length-read_at xs at n) in read_at-byte xs at n i inside
    ∙ (same i inside ∙ sym (read_at-byte ys at n i inside)))

-- a write that failed leaves what is read elsewhere
pub read_at-torn : (old : List ℕ) (at n : ℕ) (new : List ℕ) → Torn old at n new → (from m : ℕ)
    → (from + m ≤ at) ⊎ (at + n ≤ from) → read_at new from m ≡ read_at old from m
read_at-torn old at n new torn from m apart =
    read_at-same new old from m (λ i less. torn.outside (from + i) (grind arith))

length-lengthened : (old : List ℕ) (n : ℕ) → length (lengthened old n) ≡ max (length old) n
length-lengthened old n = let k = length-replicate {A = ℕ} (n - length old) 0 in let s = length-append old (replicate (n - length old) 0) in grind arith

length-front : (old : List ℕ) (at : ℕ) (bytes : List ℕ) → length (take at (lengthened old (at + length bytes))) ≡ at
length-front old at bytes = let t = length-take at (lengthened old (at + length bytes)) in let s = length-lengthened old (at + length bytes) in grind arith

length-through : (old : List ℕ) (at : ℕ) (bytes : List ℕ)
    → length (take at (lengthened old (at + length bytes)) ++ bytes) ≡ at + length bytes
length-through old at bytes = length-append (take at (lengthened old (at + length bytes))) bytes ∙ ap (λ z. z + length bytes) (length-front old at bytes)

pub length-write_at : (old : List ℕ) (at : ℕ) (bytes : List ℕ)
    → length (write_at old at bytes) ≡ max (length old) (at + length bytes)
length-write_at old at bytes =
    let long = lengthened old (at + length bytes) in
    let a = length-append (take at long ++ bytes) (drop (at + length bytes) long) in
    let t = length-through old at bytes in
    let d = length-drop (at + length bytes) long in
    let s = length-lengthened old (at + length bytes) in
    grind arith

byte_before : (old : List ℕ) (at : ℕ) (bytes : List ℕ) (i : ℕ) → i < at
    → slice_index (write_at old at bytes) i ≡ slice_index old i
byte_before old at bytes i less =
    let long = lengthened old (at + length bytes) in
    let through : i < length (take at long ++ bytes) = omega (arith, length-through old at bytes) in
    let front : i < length (take at long) = omega (arith, length-front old at bytes) in
    get_or-append (take at long ++ bytes) (drop (at + length bytes) long) 0 i through
    ∙ (get_or-append (take at long) bytes 0 i front ∙ (get_or-take at long i 0 less ∙ padded_byte old (at + length bytes - length old) i))

byte_behind : (old : List ℕ) (at : ℕ) (bytes : List ℕ) (i : ℕ) → at + length bytes ≤ i
    → slice_index (write_at old at bytes) i ≡ slice_index old i
byte_behind old at bytes i past =
    let long = lengthened old (at + length bytes) in
    let sum : at + length bytes + (i - (at + length bytes)) ≡ i = omega arith in
    get_or-append_right (take at long ++ bytes) (drop (at + length bytes) long) (at + length bytes) i 0 (length-through old at bytes) past
    ∙ (get_or-drop (at + length bytes) long (i - (at + length bytes)) 0
    ∙ (ap (λ z. slice_index long z) sum ∙ padded_byte old (at + length bytes - length old) i))

byte_within : (old : List ℕ) (at : ℕ) (bytes : List ℕ) (i : ℕ) → i < length bytes
    → slice_index (write_at old at bytes) (at + i) ≡ slice_index bytes i
byte_within old at bytes i less =
    let long = lengthened old (at + length bytes) in
    let through : at + i < length (take at long ++ bytes) = omega (arith, length-through old at bytes) in
    let back : at + i - at ≡ i = omega arith in
    let front : at ≤ at + i = omega arith in
    get_or-append (take at long ++ bytes) (drop (at + length bytes) long) 0 (at + i) through
    ∙ (get_or-append_right (take at long) bytes at (at + i) 0 (length-front old at bytes) front ∙ ap (λ z. slice_index bytes z) back)

-- a whole write is one of those that a failed one may leave
pub torn_whole : (old : List ℕ) (at : ℕ) (bytes : List ℕ) → Torn old at (length bytes) (write_at old at bytes)
torn_whole old at bytes = record {
  least = let s = length-write_at old at bytes in grind arith;
  most = let s = length-write_at old at bytes in grind arith;
  outside = λ i apart. elim apart [ inl less ↦ byte_before old at bytes i less | inr past ↦ byte_behind old at bytes i past ];
}

-- what was written is read
pub read_at-written : (old : List ℕ) (at : ℕ) (bytes : List ℕ)
    → read_at (write_at old at bytes) at (length bytes) ≡ bytes
read_at-written old at bytes =
    same_number_lists (read_at (write_at old at bytes) at (length bytes)) bytes (length-read_at (write_at old at bytes) at (length bytes))
    (λ i less. let inside : i < length bytes = omega (arith, length-read_at (write_at old at bytes) at (length bytes)) in
    read_at-byte (write_at old at bytes) at (length bytes) i inside ∙ byte_within old at bytes i inside)

-- a write leaves what is read elsewhere
pub read_at-elsewhere : (old : List ℕ) (at : ℕ) (bytes : List ℕ) (from m : ℕ)
    → (from + m ≤ at) ⊎ (at + length bytes ≤ from) → read_at (write_at old at bytes) from m ≡ read_at old from m
read_at-elsewhere old at bytes from m apart =
    read_at-torn old at (length bytes) (write_at old at bytes) (torn_whole old at bytes) from m apart
