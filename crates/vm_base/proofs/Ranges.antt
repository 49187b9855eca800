-- A range of a list with other items in its place.
use Rattle.std.proofs.Common.{ℕ, ◌≡◌, ◌+◌, ◌-◌, ◌≤◌, List, ◌++◌, length, take, drop, sym, ◌∙◌, ap, append_assoc, reverse, arith}
use Rattle.std.proofs.Math.Seq.{drop-append_seam, take-append-add, take-append_seam}
use Rattle.std.proofs.lemmas.List.{length-drop, length-take, reverse-reverse, take-append-drop, take-append-le}
use Rattle.vm_base.specs.Listing.{Listed}

-- the items of a list, the oldest first
pub seen_items : {T : Type 0} (xs : List T) (room : ℕ) (list : Listed T) → record { items = reverse xs; room = room } ≡ list → reverse list.items ≡ xs
seen_items xs room list seen = rw (← seen) (reverse-reverse xs)

take_less : {T : Type 0} (from to : ℕ) (xs : List T) → from ≤ to → to ≤ length xs → take from (take to xs) ≡ take from xs
take_less from to xs less within =
    sym (take-append-le from (take to xs) (drop to xs) (omega (arith, length-take to xs))) ∙ ap (take from) (take-append-drop to xs)

-- the items behind the range come in front, those of the range go, the others come, and those in front go back
pub replaced : {T : Type 0} (xs ys turned left joined back : List T) (from to behind : ℕ) → from ≤ to → to ≤ length xs → behind ≡ length xs - to
    → turned ≡ drop to xs ++ take to xs → left ≡ take (behind + from) turned → joined ≡ left ++ ys → back ≡ drop behind joined ++ take behind joined
    → back ≡ take from xs ++ (ys ++ drop to xs)
replaced xs ys turned left joined back from to behind less within count turns cuts joins ends =
    let tail = drop to xs in
    let counted : behind ≡ length tail = omega (arith, length-drop to xs, count) in
    let one : left ≡ tail ++ take from xs = cuts ∙ (rw (turns, counted) (take-append-add tail (take to xs) from)
    ∙ ap (λ z. tail ++ z) (take_less from to xs less within)) in
    let two : joined ≡ tail ++ (take from xs ++ ys) = joins ∙ (ap (λ z. z ++ ys) one ∙ append_assoc tail (take from xs) ys) in
    let front : drop behind joined ≡ take from xs ++ ys = rw (two, counted) (drop-append_seam tail (take from xs ++ ys)) in
    let last : take behind joined ≡ tail = rw (two, counted) (take-append_seam tail (take from xs ++ ys)) in
    ends ∙ (rw (front, last) (append_assoc (take from xs) ys tail))
