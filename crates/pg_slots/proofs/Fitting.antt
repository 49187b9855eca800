-- What slots and backing fit after a call.
use Rattle.std.proofs.Common.{ℕ, ◌≡◌, ◌≢◌, ◌+◌, ◌*◌, ◌≤◌, ◌<◌, ◌==◌, ◌&&◌, ◌⊎◌, ◌++◌, inl, inr, Bool, true, false, List, [], ◌∷◌, length, take, drop, Option}
use Rattle.std.proofs.Common.{Some, None, Result, Ok, Err, refl, sym, ◌∙◌, ap, subst, ⊎_elim, arith}
use Rattle.std.proofs.lemmas.Bool.{cases_Bool, cases_order, false≢true}
use Rattle.std.proofs.lemmas.Option.{same_Some}
use Rattle.std.specs.Result.{is_err}
use Rattle.std.specs.Prelude.{IsSome, unwrap_or}
use Rattle.pg_slots.proofs.Choices.{Gets, shown}
use Rattle.pg_slots.specs.Contents.{AgreesWithContent, CarriesContent, Content, IsAreaTold, IsHeldAs, Kept, Lost, SlotsFit, Stored, area_name, same_content}
use Rattle.pg_slots.specs.Contents.{with_stored}
use Rattle.pg_slots.specs.Kept.{PutsRow, SlotMarks}
use Rattle.pg_slots.specs.Slots.{HeldRows, PutsHeld, SlotTable, held_among, held_at, held_slot}
use Rattle.pg_slots.specs.declared.slot_row.Held.{Held}
use Rattle.pg_slots.specs.declared.slot_row.Held.TheVariants as held
use Rattle.vm_base.specs.declared.failure.Failed.{Failed}
use Rattle.vm_base.specs.declared.failure.WriteStop.TheVariants as stop
use Rattle.vm_base.specs.declared.ids.PageKey.{PageKey}
use Rattle.vm_outside.specs.Areas.{AfterFault, ReadTold, SameAreas, Told, WriteTold, read_at, write_at}
use Rattle.vm_outside.specs.Bytes.{read_at-elsewhere, read_at-torn, read_at-written}

-- what is told, where something is
pub record IsThere (told : Told) : Type 0 where
  pub was : Option (List ℕ)
  pub is : told ≡ Some was

pub there : (told : Told) → IsSome told → IsThere told
there None some = absurd (false≢true some)
there (Some was) some = record { was = was; is = refl }

-- where the area is told, a slot is read as before
pub record ReadsAlike (before after : List ℕ → Told) (name : List ℕ) (size s : ℕ) : Type 0 where
  pub at : (was now : Option (List ℕ)) → before name ≡ Some was → after name ≡ Some now
      → read_at (unwrap_or now []) (s * size) size ≡ read_at (unwrap_or was []) (s * size) size

alike_same : (before after : List ℕ → Told) (name : List ℕ) (size s : ℕ) → SameAreas before after → ReadsAlike before after name size s
alike_same before after name size s same = record {
  at = λ was now told tells. let one : was ≡ now = same_Some was now (sym (same name was told) ∙ tells) in rw one refl;
}

slot_before : (s t size : ℕ) → s < t → s * size + size ≤ t * size
slot_before s t size less = grind arith

slots_apart : (s t size n : ℕ) → n ≡ size → s ≢ t → (t * size + size ≤ s * size) ⊎ (s * size + n ≤ t * size)
slots_apart s t size n same differ =
    ⊎_elim
    (λ (e : s ≡ t). absurd (differ e))
    (⊎_elim
    (λ (less : s < t). inr (rw same (slot_before s t size less)))
    (λ (more : t < s). inl (slot_before t s size more)))
    (cases_order s t)

alike_written : (before after : List ℕ → Told) (name : List ℕ) (size s t : ℕ) (bytes : List ℕ) → WriteTold before after name (s * size) bytes (Ok tt)
    → length bytes ≡ size → s ≢ t → ReadsAlike before after name size t
alike_written before after name size s t bytes wrote whole differ = record {
  at = λ was now told tells.
      let one : Some (write_at (unwrap_or was []) (s * size) bytes) ≡ now = same_Some (Some (write_at (unwrap_or was []) (s * size) bytes)) now
      (sym (wrote.written was told) ∙ tells) in
      rw (← one) (read_at-elsewhere (unwrap_or was []) (s * size) bytes (t * size) size (slots_apart s t size (length bytes) whole differ));
}

torn_read : (was now : Option (List ℕ)) (at n from m : ℕ) → AfterFault was at n now → (from + m ≤ at) ⊎ (at + n ≤ from)
    → read_at (unwrap_or now []) from m ≡ read_at (unwrap_or was []) from m
torn_read was None at n from m none apart = rw none refl
torn_read was (Some bytes) at n from m torn apart = read_at-torn (unwrap_or was []) at n bytes torn from m apart

alike_torn : (before after : List ℕ → Told) (name : List ℕ) (size s t : ℕ) (bytes : List ℕ) → WriteTold before after name (s * size) bytes (Err stop.Failed)
    → length bytes ≡ size → s ≢ t → ReadsAlike before after name size t
alike_torn before after name size s t bytes wrote whole differ = record {
  at = λ was now told tells.
      let left = wrote.failed was told refl in
      let one : left.0 ≡ now = same_Some left.0 now (sym left.1 ∙ tells) in
      rw (← one) (torn_read was left.0 (s * size) (length bytes) (t * size) size left.2 (slots_apart s t size (length bytes) whole differ));
}

written_here : (before after : List ℕ → Told) (name : List ℕ) (size s : ℕ) (bytes : List ℕ) → WriteTold before after name (s * size) bytes (Ok tt)
    → length bytes ≡ size
    → (was now : Option (List ℕ)) → before name ≡ Some was → after name ≡ Some now → read_at (unwrap_or now []) (s * size) size ≡ bytes
written_here before after name size s bytes wrote whole was now told tells =
    let one : Some (write_at (unwrap_or was []) (s * size) bytes) ≡ now = same_Some (Some (write_at (unwrap_or was []) (s * size) bytes)) now
    (sym (wrote.written was told) ∙ tells) in
    rw (← one) (subst (λ (n : ℕ). read_at (write_at (unwrap_or was []) (s * size) bytes) (s * size) n ≡ bytes) whole
    (read_at-written (unwrap_or was []) (s * size) bytes))

same_held : (c d m n : ℕ) (h k : Option Held) (x y : Option Stored) → d ≡ c → n ≡ m → k ≡ h → y ≡ x → IsHeldAs c m h x → IsHeldAs d n k y
same_held c d m n h k x y one two three four is = rw (one, two, three, four) is

agrees_put : (old new : SlotTable) (o p : ℕ) (has : Held) (stored : Stored) (content : Content) → PutsHeld o p has old new
    → IsHeldAs old.count old.size (Some has) (Some stored) → AgreesWithContent old content → AgreesWithContent new (with_stored o p stored content)
agrees_put old new o p has stored content puts is agrees = record {
  at = λ q r. ⊎_elim
      (λ (here : (o == q && p == r) ≡ true).
      same_held old.count new.count old.size new.size (Some has) (held_at new q r) (Some stored) (with_stored o p stored content q r) puts.count puts.size
      (rw here at (puts.at q r)) (rw here refl) is)
      (λ (apart : (o == q && p == r) ≡ false).
      same_held old.count new.count old.size new.size (held_at old q r) (held_at new q r) (content q r) (with_stored o p stored content q r) puts.count
      puts.size (rw apart at (puts.at q r)) (rw apart refl) (agrees.at q r))
      (cases_Bool (o == q && p == r));
}

-- the other pages are read as before
abbrev pub OthersAlike : (List ℕ → Told) → (List ℕ → Told) → SlotTable → ℕ → ℕ → Type 0
OthersAlike before after old o p =
    (q r t : ℕ) → (o == q && p == r) ≡ false → held_at old q r ≡ Some (held.Kept t) → ReadsAlike before after (area_name old.host) old.size t

-- the page itself is read as it was put
abbrev pub ReadsPut : (List ℕ → Told) → (List ℕ → Told) → SlotTable → Held → Stored → Type 0
ReadsPut before after old has stored =
    (t : ℕ) (bytes : List ℕ) → has ≡ held.Kept t → stored ≡ Kept bytes → (was now : Option (List ℕ)) → before (area_name old.host) ≡ Some was
    → after (area_name old.host) ≡ Some now → read_at (unwrap_or now []) (t * old.size) old.size ≡ bytes

has_put : (before after : List ℕ → Told) (old new : SlotTable) (o p : ℕ) (has : Held) (stored : Stored) (content : Content) → PutsHeld o p has old new
    → OthersAlike before after old o p → ReadsPut before after old has stored → IsAreaTold before old → SlotsFit before old content
    → (q r t : ℕ) (bytes : List ℕ) → held_at new q r ≡ Some (held.Kept t) → with_stored o p stored content q r ≡ Some (Kept bytes) → (now : Option (List ℕ))
    → after (area_name old.host) ≡ Some now → read_at (unwrap_or now []) (t * old.size) old.size ≡ bytes
has_put before after old new o p has stored content puts others here told fits q r t bytes holds is now tells =
    let first = there (before (area_name old.host)) told in
    ⊎_elim
    (λ (same : (o == q && p == r) ≡ true).
    here t bytes (same_Some has (held.Kept t) (sym (rw same at (puts.at q r)) ∙ holds)) (same_Some stored (Kept bytes) (rw same at is)) first.was now first.is
    tells)
    (λ (apart : (o == q && p == r) ≡ false).
    let was : held_at old q r ≡ Some (held.Kept t) = sym (rw apart at (puts.at q r)) ∙ holds in
    (others q r t apart was).at first.was now first.is tells ∙ fits.bytes q r t bytes was (rw apart at is) first.was first.is)
    (cases_Bool (o == q && p == r))

carried_put : (before after : List ℕ → Told) (old new : SlotTable) (o p : ℕ) (has : Held) (stored : Stored) → PutsHeld o p has old new
    → IsHeldAs old.count old.size (Some has) (Some stored) → OthersAlike before after old o p → ReadsPut before after old has stored
    → CarriesContent before after old new (with_stored o p stored)
carried_put before after old new o p has stored puts is others here = record {
  agrees = λ content agrees. agrees_put old new o p has stored content puts is agrees;
  fits = λ content told fits. record {
    agrees = agrees_put old new o p has stored content puts is fits.agrees;
    bytes = λ q r t bytes holds stored_is now tells.
        rw puts.size (has_put before after old new o p has stored content puts others here told fits q r t bytes holds stored_is now (rw puts.host at tells));
  };
}

puts_held : (host size : ℕ) (old new : HeldRows) (taken left : SlotMarks) (o p : ℕ) (has : Held) → PutsRow o p has old new → left.count ≡ taken.count
    → PutsHeld o p has (shown host size old taken) (shown host size new left)
puts_held host size old new taken left o p has puts same = record { host = refl; size = refl; count = same; at = puts.at }

pub carried_lost : (areas : List ℕ → Told) (host size : ℕ) (old between new : HeldRows) (taken : SlotMarks) (slots : SlotTable) (key : PageKey)
    → shown host size old taken ≡ slots → between ≡ old → PutsRow key.object.0 key.page.0 held.Lost between new
    → CarriesContent areas areas slots (shown host size new taken) (with_stored key.object.0 key.page.0 Lost)
carried_lost areas host size old between new taken slots key view same puts =
    rw (← view) (carried_put areas areas (shown host size old taken) (shown host size new taken) key.object.0 key.page.0 held.Lost Lost
    (puts_held host size old new taken taken key.object.0 key.page.0 held.Lost (rw same at puts) refl) tt
    (λ q r t apart was. alike_same areas areas (area_name host) size t (λ name was told. told))
    (λ t bytes one two. absurd (cc two)))

-- the slot of a page is not that of another
differs : (old : HeldRows) (taken : SlotMarks) (key : PageKey) (s q r t : ℕ) → Gets old taken key s → (key.object.0 == q && key.page.0 == r) ≡ false
    → held_among q r old ≡ Some (held.Kept t) → s ≢ t
differs old taken key s q r t get apart was same = false≢true (sym apart ∙ get.may.only q r (ap held_slot was ∙ ap Some (sym same)))

pub carried_kept : (before after : List ℕ → Told) (host size : ℕ) (old between new : HeldRows) (taken left : SlotMarks) (slots : SlotTable) (key : PageKey)
    (s : ℕ) (bytes : List ℕ) → shown host size old taken ≡ slots → between ≡ old
    → PutsRow key.object.0 key.page.0 (held.Kept s) between new → left.count ≡ taken.count → Gets old taken key s → length bytes ≡ slots.size
    → WriteTold before after (area_name host) (s * size) bytes (Ok tt)
    → CarriesContent before after slots (shown host size new left) (with_stored key.object.0 key.page.0 (Kept bytes))
carried_kept before after host size old between new taken left slots key s bytes view same puts count get whole wrote =
    let fits : length bytes ≡ size = whole ∙ ap (λ (z : SlotTable). z.size) (sym view) in
    rw (← view) (carried_put before after (shown host size old taken) (shown host size new left) key.object.0 key.page.0 (held.Kept s) (Kept bytes)
    (puts_held host size old new taken left key.object.0 key.page.0 (held.Kept s) (rw same at puts) count) (get.inside, fits)
    (λ q r t apart was. alike_written before after (area_name host) size s t bytes wrote fits (differs old taken key s q r t get apart was))
    (λ t kept one two was now told tells.
    let slot : s ≡ t = cc one in
    let stored : bytes ≡ kept = cc two in
    rw (← slot, ← stored) (written_here before after (area_name host) size s bytes wrote fits was now told tells)))

pub carried_torn : (before after : List ℕ → Told) (host size : ℕ) (old between new : HeldRows) (taken left : SlotMarks) (slots : SlotTable) (key : PageKey)
    (s : ℕ) (bytes : List ℕ) → shown host size old taken ≡ slots → between ≡ old
    → PutsRow key.object.0 key.page.0 (held.Torn s) between new → left.count ≡ taken.count → Gets old taken key s → length bytes ≡ slots.size
    → WriteTold before after (area_name host) (s * size) bytes (Err stop.Failed)
    → CarriesContent before after slots (shown host size new left) (with_stored key.object.0 key.page.0 Lost)
carried_torn before after host size old between new taken left slots key s bytes view same puts count get whole wrote =
    let fits : length bytes ≡ size = whole ∙ ap (λ (z : SlotTable). z.size) (sym view) in
    rw (← view) (carried_put before after (shown host size old taken) (shown host size new left) key.object.0 key.page.0 (held.Torn s) Lost
    (puts_held host size old new taken left key.object.0 key.page.0 (held.Torn s) (rw same at puts) count) tt
    (λ q r t apart was. alike_torn before after (area_name host) size s t bytes wrote fits (differs old taken key s q r t get apart was))
    (λ t kept one two. absurd (cc two)))

pub carried_same : (before after : List ℕ → Told) (slots : SlotTable) → SameAreas before after → CarriesContent before after slots slots same_content
carried_same before after slots same = record {
  agrees = λ content agrees. agrees;
  fits = λ content told fits. record {
    agrees = fits.agrees;
    bytes = λ q r t bytes holds is now tells.
        let first = there (before (area_name slots.host)) told in
        (alike_same before after (area_name slots.host) slots.size t same).at first.was now first.is tells ∙ fits.bytes q r t bytes holds is first.was first.is;
  };
}

-- the bytes that were stored of a kept page
pub record IsKept (content : Option Stored) : Type 0 where
  pub bytes : List ℕ
  pub is : content ≡ Some (Kept bytes)

kept_of : (count size s : ℕ) (content : Option Stored) → IsHeldAs count size (Some (held.Kept s)) content → IsKept content
kept_of count size s None is = absurd is
kept_of count size s (Some (Kept bytes)) is = record { bytes = bytes; is = refl }
kept_of count size s (Some Lost) is = absurd is

-- a page that is read has the bytes that were stored of it
pub given : (before after : List ℕ → Told) (slots : SlotTable) (o p s : ℕ) (buffer page : List ℕ) (content : Content) → held_at slots o p ≡ Some (held.Kept s)
    → ReadTold before after (area_name slots.host) (s * slots.size) buffer (Ok tt) → length buffer ≡ slots.size → page ≡ buffer
    → IsAreaTold before slots → SlotsFit before slots content → content o p ≡ Some (Kept page)
given before after slots o p s buffer page content has read whole same told fits =
    let first = there (before (area_name slots.host)) told in
    let kept = kept_of slots.count slots.size s (content o p) (rw has at (fits.agrees.at o p)) in
    let stored = fits.bytes o p s kept.bytes has kept.is first.was first.is in
    let seen : buffer ≡ read_at (unwrap_or first.was []) (s * slots.size) slots.size = rw whole at (read.filled first.was first.is) in
    kept.is ∙ ap (λ (z : List ℕ). Some (Kept z)) (sym (same ∙ (seen ∙ stored)))

pub kept_at : (host size : ℕ) (rows : HeldRows) (taken : SlotMarks) (slots : SlotTable) (o p s : ℕ) (found : Option Held) (has : Held)
    → shown host size rows taken ≡ slots → found ≡ held_among o p rows → found ≡ Some has → has ≡ held.Kept s → held_at slots o p ≡ Some (held.Kept s)
kept_at host size rows taken slots o p s found has view is some kept = rw (← view) (sym is ∙ (some ∙ ap Some kept))

ok_of : (result : Result (Unit {0}) Failed) → is_err result ≡ false → result ≡ Ok tt
ok_of (Ok done) is = refl
ok_of (Err e) is = absurd (false≢true (sym is))

pub read_told : (before after : List ℕ → Told) (host size : ℕ) (rows : HeldRows) (taken : SlotMarks) (slots : SlotTable) (s at : ℕ) (name buffer : List ℕ)
    (result : Result (Unit {0}) Failed) (test : Bool)
    → shown host size rows taken ≡ slots → name ≡ area_name host → at ≡ s * size → test ≡ is_err result → test ≡ false
    → ReadTold before after name at buffer result → ReadTold before after (area_name slots.host) (s * slots.size) buffer (Ok tt)
read_told before after host size rows taken slots s at name buffer result test view named place told failed read =
    let done : result ≡ Ok tt = ok_of result (sym told ∙ failed) in
    rw (← view) (rw (named, place, done) at read)

front : (xs ys : List ℕ) → take (length xs) (xs ++ ys) ≡ xs
front [] ys = refl
front (x ∷ xs) ys = ap (λ (z : List ℕ). x ∷ z) (front xs ys)

-- where a whole page of bytes is written back, the page has these bytes
pub whole_page : (n : ℕ) (buffer items page : List ℕ) → length buffer ≡ n → page ≡ take n (buffer ++ drop (length buffer) items) → page ≡ buffer
whole_page n buffer items page long is = is ∙ rw (← long) (front buffer (drop (length buffer) items))
