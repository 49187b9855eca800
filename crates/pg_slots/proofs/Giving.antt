-- Slots of pages, as they are given back one by one.
use Rattle.std.proofs.Common.{ℕ, ◌≡◌, ◌<◌, ◌==◌, true, false, List, [], ◌∷◌, ◌++◌, length, Option, Some, None, if◌then◌else◌, refl, sym, ◌∙◌, ap, ⊎_elim, arith}
use Rattle.std.proofs.lemmas.Bool.{cases_Bool}
use Rattle.std.proofs.lemmas.Bool.Decides.{nat_tests}
use Rattle.std.proofs.lemmas.Option.{none-some}
use Rattle.std.specs.Map.{lookup}
use Rattle.std.specs.Prelude.{MatchOption}
use Rattle.indexmap.specs.IndexMap.{IndexMap, index_map_len}
use Rattle.pg_slots.proofs.Tables.{found_last}
use Rattle.pg_slots.specs.Kept.{AreGivable, FreesSlots, SlotMarks, is_taken, slot_in_map}
use Rattle.pg_slots.specs.Slots.{held_slot}
use Rattle.pg_slots.specs.declared.slot_row.Held.{Held}
use Rattle.vm_base.specs.declared.ids.PageNo.{PageNo}

no_entries : {A : Type 0} (es : List A) → (0 < length es → ⊥) → es ≡ []
no_entries [] none = refl
no_entries (e ∷ es) none = absurd (none (omega arith))

itself : (p : ℕ) → (p == p) ≡ true
itself p = grind (arith, nat_tests)

-- the slots of pages were given back but for those of the pages that are left
pub record IsGiving (slot left : ℕ → Option ℕ) (old now : SlotMarks) : Type 0 where
  pub count : now.count ≡ old.count
  pub was : (s : ℕ) → is_taken now s ≡ true → is_taken old s ≡ true
  pub among : (p s : ℕ) → left p ≡ Some s → slot p ≡ Some s
  pub there : (p s : ℕ) → left p ≡ Some s → is_taken now s ≡ true
  pub freed : (p s : ℕ) → is_taken now s ≡ true → slot p ≡ Some s → left p ≡ Some s
  pub kept : (s : ℕ) → is_taken old s ≡ true → ((p : ℕ) → slot p ≡ Some s → ⊥) → is_taken now s ≡ true

-- a page more goes
pub gone : (slot left rest : ℕ → Option ℕ) (page : ℕ) (own : Option ℕ) (old now new : SlotMarks) → AreGivable slot old → IsGiving slot left old now
    → left page ≡ own
    → ((p : ℕ) → rest p ≡ (if page == p then None else left p))
    → MatchOption own (new ≡ now) (λ t. (new.count ≡ now.count) × ((s : ℕ) → is_taken new s ≡ (if t == s then false else is_taken now s)))
    → IsGiving slot rest old new
gone slot left rest page None old now new can giving own goes gives =
    rw gives record {
      count = giving.count;
      was = giving.was;
      among = λ p s is. giving.among p s (grind (arith, goes p, is));
      there = λ p s is. giving.there p s (grind (arith, goes p, is));
      freed = λ p s is has.
          let was = giving.freed p s is has in
          let other : (page == p) ≡ false = grind (arith, nat_tests, own, was) in
          rw other at (goes p) ∙ was;
      kept = giving.kept;
    }
gone slot left rest page (Some t) old now new can giving own goes gives = record {
  count = gives.0 ∙ giving.count;
  was = λ s is. giving.was s (grind (arith, gives.1 s, is));
  among = λ p s is. giving.among p s (grind (arith, goes p, is));
  there = λ p s is.
      let had : left p ≡ Some s = grind (arith, goes p, is) in
      let mine = giving.among page t own in
      let theirs = giving.among p s had in
      let taken = giving.there p s had in
      let one : t ≡ s → page ≡ p = λ e. can.apart page p t mine (theirs ∙ ap Some (sym e)) in
      grind (arith, nat_tests, goes p, is, gives.1 s, taken, one);
  freed = λ p s is has.
      let taken : is_taken now s ≡ true = grind (arith, gives.1 s, is) in
      let was = giving.freed p s taken has in
      let other : (t == s) ≡ false = grind (arith, gives.1 s, is) in
      let apart : (page == p) ≡ false = grind (arith, nat_tests, own, was, other) in
      rw apart at (goes p) ∙ was;
  kept = λ s is none.
      let taken = giving.kept s is none in
      let other : t ≡ s → ⊥ = λ e. none page (giving.among page t own ∙ ap Some e) in
      grind (arith, nat_tests, gives.1 s, taken, other);
}

pub given_back : (slot left : ℕ → Option ℕ) (old now : SlotMarks) → IsGiving slot left old now → ((p : ℕ) → left p ≡ None) → FreesSlots slot old now
given_back slot left old now giving none = record {
  count = giving.count;
  left = giving.was;
  freed = λ p s is has. none-some s (sym (none p) ∙ giving.freed p s is has);
  kept = giving.kept;
}

-- no page has a slot
pub none_given : (slot : ℕ → Option ℕ) (slots : SlotMarks) → ((p : ℕ) → slot p ≡ None) → FreesSlots slot slots slots
none_given slot slots none = record {
  count = refl;
  left = λ s is. is;
  freed = λ p s is has. none-some s (sym (none p) ∙ has);
  kept = λ s is other. is;
}

module _ {S : Type 0} (old new : IndexMap PageNo Held S) where
  -- the slot of the last page
  pub slot_last : (page : PageNo) (held : Held) → old.entries ≡ new.entries ++ (page, held) ∷ [] → lookup (λ n. page.0 == n.0) new.entries ≡ None
      → slot_in_map (Some old) page.0 ≡ held_slot (Some held)
  slot_last page held is none =
      let found : lookup (λ n. page.0 == n.0) old.entries ≡ Some held = rw is (found_last (λ n. page.0 == n.0) new.entries page held none (itself page.0)) in
      ap held_slot found

  -- the slots without that page
  pub slots_left : (page : ℕ) → ((p : ℕ) → lookup (λ n. p == n.0) new.entries ≡ (if page == p then None else lookup (λ n. p == n.0) old.entries)) → (p : ℕ)
      → slot_in_map (Some new) p ≡ (if page == p then None else slot_in_map (Some old) p)
  slots_left page goes p =
      rw (goes p)
      (⊎_elim
      (λ (here : (page == p) ≡ true). rw here refl)
      (λ (apart : (page == p) ≡ false). rw apart refl)
      (cases_Bool (page == p)))

pub none_left : {S : Type 0} (left : IndexMap PageNo Held S) → (0 < index_map_len left → ⊥) → (p : ℕ) → slot_in_map (Some left) p ≡ None
none_left left none p = let empty : left.entries ≡ [] = no_entries left.entries none in rw empty refl
