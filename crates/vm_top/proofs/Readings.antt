-- What is left of a source's bytes when some were read.
use Rattle.std.proofs.Common.{◌≡◌, ◌<◌, ◌≤◌, ◌⊎◌, ℕ, inl, inr, List, [], ◌∷◌, ◌++◌, length, drop, take, refl, ap, sym, ◌∙◌, subst, arith, Some, None, Option}
use Rattle.std.proofs.Common.{length-append, length-take}
use Rattle.std.specs.Prelude.{◌≢◌}
use Rattle.std.specs.Io.KnownBytes.{Consumes, IsAtEnd, Keeps}
use Rattle.std.proofs.KnownBytes.{Consumes-kept, Consumes-trans}
use Rattle.vm_model.specs.declared.script.Script.{Script}
use Rattle.vm_top.specs.declared.top.Status.{Status}
use Rattle.vm_top.specs.declared.top.Status.TheVariants as status
use Rattle.vm_top.specs.Ending.{Tells}
use Rattle.vm_top.specs.Reading.{LeavesBehind, LeavesBytes, LeavesNone, ReadAtMost, ReadWhole}
use Rattle.vm_top.specs.Top.{OfBytes}

-- a read failed, and took nothing
pub read_kept : (a b c : Option (List ℕ)) (bytes : List ℕ) → Consumes a b bytes → Keeps b c → length bytes ≤ 1048576 → ReadAtMost 1048576 a c
read_kept a b c bytes consumed kept few = record { bytes = bytes; consumed = Consumes-kept a b c bytes consumed kept; few = few }

-- some more were read
pub read_more : (a b c : Option (List ℕ)) (bytes piece : List ℕ) (n : ℕ) → Consumes a b bytes → Consumes b c (take n piece) → length bytes ≤ 1048576
    → length piece ≤ 4096 → ReadAtMost 1052672 a c
read_more a b c bytes piece n consumed next few small = record {
  bytes = bytes ++ take n piece;
  consumed = Consumes-trans a b c bytes (take n piece) consumed next;
  few = omega (arith, few, small, length-append bytes (take n piece), length-take n piece);
}

drop_front : (bytes more : List ℕ) → drop (length bytes) (bytes ++ more) ≡ more
drop_front [] more = refl
drop_front (x ∷ bytes) more = drop_front bytes more

-- what was read and what is left
left_is : (after : Option (List ℕ)) (bytes whole : List ℕ) → Consumes (Some whole) after bytes → after ≡ Some (drop (length bytes) whole)
left_is None bytes whole consumed = absurd consumed
left_is (Some rest) bytes whole consumed = ap Some (sym (ap (drop (length bytes)) consumed ∙ drop_front bytes rest))

lengths : (after : Option (List ℕ)) (bytes whole : List ℕ) → Consumes (Some whole) after bytes → IsAtEnd after → (length whole ≡ length bytes)
    × (after ≡ Some [])
lengths None bytes whole consumed end = absurd consumed
lengths (Some rest) bytes whole consumed end = (omega (arith, ap length consumed, length-append bytes rest, ap length end), ap Some end)

pub no_longer : (after : Option (List ℕ)) (bytes whole : List ℕ) → Consumes (Some whole) after bytes → length bytes ≤ length whole
no_longer None bytes whole consumed = absurd consumed
no_longer (Some rest) bytes whole consumed = omega (arith, ap length consumed, length-append bytes rest)

leaves_behind : (most : ℕ) (after : Option (List ℕ)) (whole : List ℕ) → ReadAtMost most (Some whole) after → LeavesBehind most whole after
leaves_behind most after whole read = record { read = length read.bytes; few = read.few; is = left_is after read.bytes whole read.consumed }

leaves_none : (after : Option (List ℕ)) (bytes whole : List ℕ) → ReadWhole (Some whole) after bytes → LeavesNone whole after
leaves_none after bytes whole read = record {
  short = λ short. (lengths after bytes whole read.consumed (read.all (omega (arith, short, no_longer after bytes whole read.consumed)))).1;
  long = λ long. (length bytes, long_read long, read.few, left_is after bytes whole read.consumed);
}
  where
    long_read : 1048576 < length whole → 1048576 < length bytes
    long_read long =
        let sizes : (length bytes ≤ 1048576) ⊎ (1048576 < length bytes) = grind arith in
        elim sizes [
          | inl short ↦ absurd (omega (arith, long, short, (lengths after bytes whole read.consumed (read.all short)).0))
          | inr more ↦ more
        ]

-- a read failed
pub failed_leaves : (told after : Option (List ℕ)) (script : Option Script) (s : Status) → ReadAtMost 1048576 told after → s ≡ status.ReadFault
    → OfBytes told (λ bytes. LeavesBytes s script bytes after)
failed_leaves told after script s read is = λ bytes here.
    subst (λ z. LeavesBytes z script bytes after) (sym is) (leaves_behind 1048576 after bytes
    (subst (λ (z : Option (List ℕ)). ReadAtMost 1048576 z after) here read))

-- memory ended while the source was read
pub stopped_leaves : (told after : Option (List ℕ)) (script : Option Script) (s : Status) → ReadAtMost 1052672 told after → s ≡ status.NoMemory → script ≡ None
    → OfBytes told (λ bytes. LeavesBytes s script bytes after)
stopped_leaves told after script s read is none = λ bytes here.
    subst (λ z. LeavesBytes z script bytes after) (sym is)
    (subst (λ (z : Option Script). LeavesBytes status.NoMemory z bytes after) (sym none)
    (leaves_behind 1052672 after bytes (subst (λ (z : Option (List ℕ)). ReadAtMost 1052672 z after) here read)))

-- the source was read whole
whole_leaves : (after : Option (List ℕ)) (bytes whole : List ℕ) (script : Option Script) (s : Status) → ReadWhole (Some whole) after bytes
    → s ≢ status.ReadFault → LeavesBytes s script whole after
whole_leaves after bytes whole script status.ReadFault read other = absurd (other refl)
whole_leaves after bytes whole None status.NoMemory read other = record { read = length bytes; few = read.few; is = left_is after bytes whole read.consumed }
whole_leaves after bytes whole (Some run) status.NoMemory read other = leaves_none after bytes whole read
whole_leaves after bytes whole script status.Done read other = leaves_none after bytes whole read
whole_leaves after bytes whole script status.EventLimit read other = leaves_none after bytes whole read
whole_leaves after bytes whole script status.OutputFault read other = leaves_none after bytes whole read
whole_leaves after bytes whole script status.Usage read other = leaves_none after bytes whole read
whole_leaves after bytes whole script (status.BadScript line kind) read other = leaves_none after bytes whole read

pub read_leaves : (told after : Option (List ℕ)) (bytes : List ℕ) (script : Option Script) (s : Status) → ReadWhole told after bytes → s ≢ status.ReadFault
    → OfBytes told (λ whole. LeavesBytes s script whole after)
read_leaves told after bytes script s read other =
    λ whole here. whole_leaves after bytes whole script s (subst (λ (z : Option (List ℕ)). ReadWhole z after bytes) here read) other

-- what is told is no failed read
pub tells_no_read : (told s : Status) (text : List ℕ) (before after : Option (List ℕ)) → Tells told text before after s → told ≢ status.ReadFault
    → s ≢ status.ReadFault
tells_no_read told s text before after (inl wrote) other is = other (sym wrote.0 ∙ is)
tells_no_read told s text before after (inr (inl failed, wrote)) other is = absurd (cc)
tells_no_read told s text before after (inr (inr none, wrote)) other is = absurd (cc)
