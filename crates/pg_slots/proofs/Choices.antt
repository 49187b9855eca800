-- The slot that a put goes to, and what a put or a drop leaves of the slots.
use Rattle.std.proofs.Common.{ℕ, ◌≡◌, ◌<◌, true, false, Option, Some, None, ⊎_elim, inl, inr, refl, sym, ◌∙◌, ap, arith}
use Rattle.std.proofs.lemmas.Bool.{cases_Bool, false≢true}
use Rattle.std.proofs.lemmas.Bool.Decides.{nat_tests}
use Rattle.std.proofs.lemmas.Option.{none-some, same_Some}
use Rattle.std.specs.Prelude.{MatchOption}
use Rattle.pg_slots.proofs.Marks.{MayHave, Takes, marks_dropped, marks_lost, marks_put}
use Rattle.pg_slots.specs.Kept.{AllMarked, AreMarked, AreSlotRows, DropsRows, FreesSlots, IsUnmarked, MayTake, PutsRow, SlotMarks, is_taken, slot_among}
use Rattle.pg_slots.specs.Slots.{GoesTo, HasNoSlot, HeldRows, IsLowestFree, SlotTable, held_slot}
use Rattle.pg_slots.specs.declared.slot_row.Held.{Held}
use Rattle.pg_slots.specs.declared.slot_row.Held.TheVariants.{Lost}
use Rattle.vm_base.proofs.Keys.{itself}
use Rattle.vm_base.specs.declared.ids.PageKey.{PageKey}

abbrev pub shown : ℕ → ℕ → HeldRows → SlotMarks → SlotTable
shown host size rows slots = record { host = host; size = size; count = slots.count; rows = rows }

chosen : (host size : ℕ) (rows : HeldRows) (slots : SlotMarks) (o p : ℕ) (result : Option ℕ) → AreMarked rows (is_taken slots) → slot_among o p rows ≡ None
    → MatchOption result (AllMarked slots) (IsUnmarked slots)
    → MatchOption result (HasNoSlot (shown host size rows slots) o p) (GoesTo (shown host size rows slots) o p)
chosen host size rows slots o p None marks none all =
    (none, λ s less. let row = marks.owned s (all s less) in record { object = row.object; page = row.page; at = row.at })
chosen host size rows slots o p (Some s) marks none low = rw none (record {
  inside = low.inside;
  free = λ is. false≢true (sym low.free ∙ marks.marked is.object is.page s is.at);
  lowest = λ t less. let row = marks.owned t (low.lowest t less) in record { object = row.object; page = row.page; at = row.at };
})

pub goes : (host size : ℕ) (rows : HeldRows) (slots : SlotMarks) (table : SlotTable) (o p : ℕ) (own result : Option ℕ) → shown host size rows slots ≡ table
    → AreMarked rows (is_taken slots) → own ≡ slot_among o p rows → own ≡ None
    → MatchOption result (AllMarked slots) (IsUnmarked slots) → MatchOption result (HasNoSlot table o p) (GoesTo table o p)
goes host size rows slots table o p own result view marks is none ends = rw (← view) (chosen host size rows slots o p result marks (sym is ∙ none) ends)

pub no_slot : (host size : ℕ) (rows : HeldRows) (slots : SlotMarks) (table : SlotTable) (o p : ℕ) → shown host size rows slots ≡ table → HasNoSlot table o p
    → slot_among o p rows ≡ None
no_slot host size rows slots table o p view none = let both : HasNoSlot (shown host size rows slots) o p = rw (← view) at none in both.0

-- a slot that a page may be put in
pub record Gets (rows : HeldRows) (slots : SlotMarks) (key : PageKey) (s : ℕ) : Type 0 where
  pub inside : s < slots.count
  pub take : MayTake slots s
  pub may : MayHave rows key s

-- the lowest free slot, as the rows have it, is not taken
unmarked : (host size : ℕ) (rows : HeldRows) (slots : SlotMarks) (s : ℕ) → AreMarked rows (is_taken slots) → IsLowestFree (shown host size rows slots) s
    → IsUnmarked slots s
unmarked host size rows slots s marks low = record {
  inside = low.inside;
  free = ⊎_elim
      (λ (yes : is_taken slots s ≡ true). let row = marks.owned s yes in absurd (low.free (record { object = row.object; page = row.page; at = row.at })))
      (λ (no : is_taken slots s ≡ false). no)
      (cases_Bool (is_taken slots s));
  lowest = λ t less. let row = low.lowest t less in marks.marked row.object row.page t row.at;
}

gets_read : (host size : ℕ) (rows : HeldRows) (slots : SlotMarks) (key : PageKey) (s : ℕ) (own : Option ℕ) → AreSlotRows host rows slots
    → slot_among key.object.0 key.page.0 rows ≡ own → MatchOption own (IsLowestFree (shown host size rows slots) s) (λ t. s ≡ t)
    → Gets rows slots key s
gets_read host size rows slots key s None kept is low = record {
  inside = low.inside;
  take = inr (unmarked host size rows slots s kept.marks low);
  may = record {
    only = λ o p has. absurd (low.free (record { object = o; page = p; at = has }));
    own = λ t has. absurd (none-some t (sym is ∙ has));
  };
}
gets_read host size rows slots key s (Some t) kept is same =
    let has : slot_among key.object.0 key.page.0 rows ≡ Some s = is ∙ ap Some (sym same) in
    let taken = kept.marks.marked key.object.0 key.page.0 s has in
    record {
      inside = kept.inside s taken;
      take = inl taken;
      may = record {
        only = λ o p other. let one = kept.marks.apart key.object.0 key.page.0 o p s has other in rw (← one.0, ← one.1) (itself key);
        own = λ u has. same_Some u s (sym has ∙ (is ∙ ap Some (sym same)));
      };
    }

pub gets : (host size : ℕ) (rows : HeldRows) (slots : SlotMarks) (table : SlotTable) (key : PageKey) (s : ℕ) → shown host size rows slots ≡ table
    → AreSlotRows host rows slots → GoesTo table key.object.0 key.page.0 s → Gets rows slots key s
gets host size rows slots table key s view kept goes =
    gets_read host size rows slots key s (slot_among key.object.0 key.page.0 rows) kept refl (rw (← view) at goes)

pub kept_put : (host : ℕ) (key : PageKey) (held : Held) (s : ℕ) (old between new : HeldRows) (slots left : SlotMarks) → between ≡ old
    → PutsRow key.object.0 key.page.0 held between new → held_slot (Some held) ≡ Some s → left.count ≡ slots.count
    → Takes s (is_taken slots) (is_taken left) → Gets old slots key s → AreSlotRows host old slots → AreSlotRows host new left
kept_put host key held s old between new slots left same puts slot count takes get kept = record {
  host_low = kept.host_low;
  inside = λ t is. let m = kept.inside t in let n = get.inside in grind (arith, nat_tests, takes t);
  marks = marks_put key held s old new (is_taken slots) (is_taken left) (rw same at puts) slot get.may takes kept.marks;
}

pub kept_lost : (host : ℕ) (key : PageKey) (old between new : HeldRows) (slots : SlotMarks) → between ≡ old → PutsRow key.object.0 key.page.0 Lost between new
    → slot_among key.object.0 key.page.0 old ≡ None → AreSlotRows host old slots → AreSlotRows host new slots
kept_lost host key old between new slots same puts none kept = record {
  host_low = kept.host_low;
  inside = kept.inside;
  marks = marks_lost key old new (is_taken slots) (rw same at puts) none kept.marks;
}

pub kept_dropped : (host object : ℕ) (slot : ℕ → Option ℕ) (old new : HeldRows) (slots left : SlotMarks) → DropsRows object old new
    → ((p : ℕ) → slot p ≡ slot_among object p old) → FreesSlots slot slots left → AreSlotRows host old slots → AreSlotRows host new left
kept_dropped host object slot old new slots left drops seen frees kept = record {
  host_low = kept.host_low;
  inside = λ s is. rw frees.count (kept.inside s (frees.left s is));
  marks = marks_dropped object slot old new slots left drops seen frees kept.marks;
}
