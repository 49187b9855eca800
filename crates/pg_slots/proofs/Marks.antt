-- The slots that are taken, as pages get slots and give them up.
use Rattle.std.proofs.Common.{ℕ, ◌≡◌, ◌==◌, Bool, true, false, Option, Some, None, if◌then◌else◌, sym, ◌∙◌, ap, ⊎_elim, arith}
use Rattle.std.proofs.lemmas.Bool.{cases_Bool, false≢true}
use Rattle.std.proofs.lemmas.Bool.Decides.{nat_tests}
use Rattle.std.proofs.lemmas.Option.{none-some, same_Some}
use Rattle.pg_slots.specs.Kept.{AreMarked, DropsRows, FreesSlots, HasRow, PutsRow, SlotMarks, is_taken, slot_among}
use Rattle.pg_slots.specs.Slots.{HeldRows, held_slot}
use Rattle.pg_slots.specs.declared.slot_row.Held.{Held}
use Rattle.pg_slots.specs.declared.slot_row.Held.TheVariants.{Lost}
use Rattle.vm_base.proofs.Keys.{itself, page_read}
use Rattle.vm_base.specs.Keys.{is_page}
use Rattle.vm_base.specs.declared.ids.PageKey.{PageKey}

-- the slots after a row was put
slot_here : (key : PageKey) (held : Held) (old new : HeldRows) (o p : ℕ) → PutsRow key.object.0 key.page.0 held old new → is_page key o p ≡ true
    → slot_among o p new ≡ held_slot (Some held)
slot_here key held old new o p puts here = ap held_slot (rw here at (puts.at o p))

slot_apart : (key : PageKey) (held : Held) (old new : HeldRows) (o p : ℕ) → PutsRow key.object.0 key.page.0 held old new → is_page key o p ≡ false
    → slot_among o p new ≡ slot_among o p old
slot_apart key held old new o p puts apart = ap held_slot (rw apart at (puts.at o p))

-- the slot of the page that was put
pub slot_put : (key : PageKey) (held : Held) (old new : HeldRows) (s t : ℕ) → PutsRow key.object.0 key.page.0 held old new → held_slot (Some held) ≡ Some s
    → slot_among key.object.0 key.page.0 new ≡ Some t → s ≡ t
slot_put key held old new s t puts slot has = same_Some s t (sym slot ∙ (sym (slot_here key held old new key.object.0 key.page.0 puts (itself key)) ∙ has))

-- a page may have this slot: no other page has it, and the page has no other
pub record MayHave (rows : HeldRows) (key : PageKey) (s : ℕ) : Type 0 where
  pub only : (o p : ℕ) → slot_among o p rows ≡ Some s → is_page key o p ≡ true
  pub own : (t : ℕ) → slot_among key.object.0 key.page.0 rows ≡ Some t → t ≡ s

-- one slot is taken now, and each other is as it was
abbrev pub Takes : ℕ → (ℕ → Bool) → (ℕ → Bool) → Type 0
Takes s old new = (t : ℕ) → new t ≡ (if s == t then true else old t)

owned_put : (key : PageKey) (held : Held) (s : ℕ) (old new : HeldRows) (taken left : ℕ → Bool) → PutsRow key.object.0 key.page.0 held old new
    → held_slot (Some held) ≡ Some s → MayHave old key s → AreMarked old taken → Takes s taken left
    → (t : ℕ) → left t ≡ true → HasRow new t
owned_put key held s old new taken left puts slot may marks takes t is =
    ⊎_elim
    (λ (same : (s == t) ≡ true).
    let mine : s ≡ t = grind (arith, nat_tests) in
    record { object = key.object.0; page = key.page.0; at = slot_here key held old new key.object.0 key.page.0 puts (itself key) ∙ (slot ∙ ap Some mine) })
    (λ (differ : (s == t) ≡ false).
    let row = marks.owned t (sym (rw differ at (takes t)) ∙ is) in
    ⊎_elim
    (λ (here : is_page key row.object row.page ≡ true).
    let read = page_read key row.object row.page here in
    let mine : t ≡ s = may.own t (rw (read.object, read.page) row.at) in
    absurd (grind (arith, nat_tests)))
    (λ (apart : is_page key row.object row.page ≡ false). record {
      object = row.object;
      page = row.page;
      at = slot_apart key held old new row.object row.page puts apart ∙ row.at;
    })
    (cases_Bool (is_page key row.object row.page)))
    (cases_Bool (s == t))

apart_put : (key : PageKey) (held : Held) (s : ℕ) (old new : HeldRows) (taken : ℕ → Bool) → PutsRow key.object.0 key.page.0 held old new
    → held_slot (Some held) ≡ Some s → MayHave old key s → AreMarked old taken
    → (o p q r t : ℕ) → slot_among o p new ≡ Some t → slot_among q r new ≡ Some t → (o ≡ q) × (p ≡ r)
apart_put key held s old new taken puts slot may marks o p q r t one two =
    ⊎_elim
    (λ (here : is_page key o p ≡ true).
    let first = page_read key o p here in
    let mine : s ≡ t = same_Some s t (sym slot ∙ (sym (slot_here key held old new o p puts here) ∙ one)) in
    ⊎_elim
    (λ (also : is_page key q r ≡ true). let second = page_read key q r also in (sym first.object ∙ second.object, sym first.page ∙ second.page))
    (λ (apart : is_page key q r ≡ false).
    absurd (false≢true (sym apart ∙ may.only q r (sym (slot_apart key held old new q r puts apart) ∙ (two ∙ ap Some (sym mine))))))
    (cases_Bool (is_page key q r)))
    (λ (apart : is_page key o p ≡ false).
    let first = sym (slot_apart key held old new o p puts apart) ∙ one in
    ⊎_elim
    (λ (here : is_page key q r ≡ true).
    let mine : s ≡ t = same_Some s t (sym slot ∙ (sym (slot_here key held old new q r puts here) ∙ two)) in
    absurd (false≢true (sym apart ∙ may.only o p (first ∙ ap Some (sym mine)))))
    (λ (also : is_page key q r ≡ false). marks.apart o p q r t first (sym (slot_apart key held old new q r puts also) ∙ two))
    (cases_Bool (is_page key q r)))
    (cases_Bool (is_page key o p))

pub marks_put : (key : PageKey) (held : Held) (s : ℕ) (old new : HeldRows) (taken left : ℕ → Bool) → PutsRow key.object.0 key.page.0 held old new
    → held_slot (Some held) ≡ Some s → MayHave old key s → Takes s taken left → AreMarked old taken → AreMarked new left
marks_put key held s old new taken left puts slot may takes marks = record {
  marked = λ o p t is. ⊎_elim
      (λ (here : is_page key o p ≡ true).
      let mine : s ≡ t = same_Some s t (sym slot ∙ (sym (slot_here key held old new o p puts here) ∙ is)) in
      grind (arith, nat_tests, takes t))
      (λ (apart : is_page key o p ≡ false).
      let was : taken t ≡ true = marks.marked o p t (sym (slot_apart key held old new o p puts apart) ∙ is) in
      grind (arith, nat_tests, takes t))
      (cases_Bool (is_page key o p));
  owned = owned_put key held s old new taken left puts slot may marks takes;
  apart = apart_put key held s old new taken puts slot may marks;
}

-- a page that had no slot is lost, and has none
pub marks_lost : (key : PageKey) (old new : HeldRows) (taken : ℕ → Bool) → PutsRow key.object.0 key.page.0 Lost old new
    → slot_among key.object.0 key.page.0 old ≡ None → AreMarked old taken → AreMarked new taken
marks_lost key old new taken puts none marks =
    let same : (o p : ℕ) → slot_among o p new ≡ slot_among o p old
    = λ o p. ⊎_elim
    (λ (here : is_page key o p ≡ true).
    let read = page_read key o p here in
    slot_here key Lost old new o p puts here ∙ sym (rw (read.object, read.page) at none))
    (λ (apart : is_page key o p ≡ false). slot_apart key Lost old new o p puts apart)
    (cases_Bool (is_page key o p)) in
    record {
      marked = λ o p s is. marks.marked o p s (sym (same o p) ∙ is);
      owned = λ s is. let row = marks.owned s is in record { object = row.object; page = row.page; at = same row.object row.page ∙ row.at };
      apart = λ o p q r s one two. marks.apart o p q r s (sym (same o p) ∙ one) (sym (same q r) ∙ two);
    }

slot_gone : (object : ℕ) (old new : HeldRows) (o p s : ℕ) → DropsRows object old new → slot_among o p new ≡ Some s → (object == o) ≡ false
slot_gone object old new o p s drops is =
    ⊎_elim
    (λ (here : (object == o) ≡ true). absurd (none-some s (sym (ap held_slot (rw here at (drops.at o p))) ∙ is)))
    (λ (apart : (object == o) ≡ false). apart)
    (cases_Bool (object == o))

slot_stays : (object : ℕ) (old new : HeldRows) (o p : ℕ) → DropsRows object old new → (object == o) ≡ false → slot_among o p new ≡ slot_among o p old
slot_stays object old new o p drops apart = ap held_slot (rw apart at (drops.at o p))

-- the slot of a row that stays
slot_was : (object : ℕ) (old new : HeldRows) (o p s : ℕ) → DropsRows object old new → slot_among o p new ≡ Some s → slot_among o p old ≡ Some s
slot_was object old new o p s drops is = sym (slot_stays object old new o p drops (slot_gone object old new o p s drops is)) ∙ is

pub marks_dropped : (object : ℕ) (slot : ℕ → Option ℕ) (old new : HeldRows) (taken left : SlotMarks) → DropsRows object old new
    → ((p : ℕ) → slot p ≡ slot_among object p old) → FreesSlots slot taken left → AreMarked old (is_taken taken) → AreMarked new (is_taken left)
marks_dropped object slot old new taken left drops seen frees marks = record {
  marked = λ o p s is.
      let was = slot_was object old new o p s drops is in
      let other = slot_gone object old new o p s drops is in
      frees.kept s (marks.marked o p s was) (λ q has. let same = marks.apart o p object q s was (sym (seen q) ∙ has) in let e = same.0 in absurd
      (grind (arith, nat_tests)));
  owned = λ s is.
      let row = marks.owned s (frees.left s is) in
      ⊎_elim
      (λ (here : (object == row.object) ≡ true).
      let same : object ≡ row.object = grind (arith, nat_tests) in
      absurd (frees.freed row.page s is (seen row.page ∙ rw same row.at)))
      (λ (apart : (object == row.object) ≡ false). record {
        object = row.object;
        page = row.page;
        at = slot_stays object old new row.object row.page drops apart
            ∙ row.at;
      })
      (cases_Bool (object == row.object));
  apart = λ o p q r s one two. marks.apart o p q r s (slot_was object old new o p s drops one) (slot_was object old new q r s drops two);
}
