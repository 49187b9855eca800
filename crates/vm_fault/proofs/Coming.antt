-- Copy objects fit still, where a page came to one place, or to none.
use Rattle.std.proofs.Common.{◌≡◌, ℕ, ◌==◌, ◌&&◌, Bool, true, false, List, Option, Some, None, refl, ap, sym, ◌∙◌, subst, inl, inr, arith}
use Rattle.std.proofs.lemmas.Bool.{false≢true}
use Rattle.std.proofs.lemmas.Bool.Decides.{nat_tests}
use Rattle.std.specs.Prelude.{◌⊎◌, if◌then◌else◌, IfSome, is_some, slice_set}
use Rattle.vm_base.specs.declared.ids.FrameNo.{FrameNo}
use Rattle.vm_base.specs.declared.ids.ObjectId.{ObjectId}
use Rattle.vm_base.specs.declared.ids.PageKey.{PageKey}
use Rattle.vm_base.specs.declared.ids.TaskId.{TaskId}
use Rattle.vm_copies.specs.Copies.{AreNewest, CopyRow, CopyTable, IsCopyOf, PutsCopy, among, copy_at, had_at, newest_at}
use Rattle.vm_fault.specs.Faults.{Hits, References}
use Rattle.vm_fault.specs.Pushes.{CopiesFit, CopyFits, Notes, OfCopy, OfOther}
use Rattle.vm_model.specs.declared.event.Event.{Event}
use Rattle.vm_objects.specs.Objects.{ObjectTable, object_at}
use Rattle.vm_parts.specs.Changes.{Changes, is_here}
use Rattle.vm_parts.specs.Fits.{object_pages}
use Rattle.vm_parts.specs.declared.parts.HostParts.{HostParts}
use Rattle.vm_parts.proofs.Rows.{one_case, row_cases, some_is, stood}
use Rattle.vm_queues.specs.Queues.{Queues}
use Rattle.vm_resident.specs.Resident.{row_at}
use Rattle.vm_resident.specs.declared.page_row.PageRow.{PageRow}
use Rattle.vm_shadow.specs.Chains.{ChainTable}
use Rattle.vm_waits.specs.declared.waiting.Want.{Want}
use Rattle.vm_waits.specs.declared.waiting.Want.TheVariants as want

-- no page has come
pub record NoneComes (old new : HostParts) : Type 0 where
  pub objects : new.objects ≡ old.objects
  pub here : (o p : ℕ) → is_here (row_at new.resident o p) ≡ true → is_here (row_at old.resident o p) ≡ true

-- a page has come to this place, or none
pub record OneComes (key : PageKey) (old new : HostParts) : Type 0 where
  pub objects : new.objects ≡ old.objects
  pub here : (o p : ℕ) → is_here (row_at new.resident o p) ≡ true → ((key.object.0 ≡ o) × (key.page.0 ≡ p)) ⊎ (is_here (row_at old.resident o p) ≡ true)

pub one_then : (key : PageKey) (old mid new : HostParts) → OneComes key old mid → NoneComes mid new → OneComes key old new
one_then key old mid new first second =
    record { objects = second.objects ∙ first.objects; here = λ o p is. first.here o p (second.here o p is) }

pub none_then : (old mid new : HostParts) → NoneComes old mid → NoneComes mid new → NoneComes old new
none_then old mid new first second =
    record { objects = second.objects ∙ first.objects; here = λ o p is. first.here o p (second.here o p is) }

pub one_comes : (key : PageKey) (frame : FrameNo) (was now : Option PageRow) (held : Bool) (bytes : List ℕ) (lists : Queues) (old new : HostParts)
    → Changes key frame was now held bytes lists old new → new.objects ≡ old.objects → OneComes key old new
one_comes key frame was now held bytes lists old new changes objects =
    record {
      objects = objects;
      here = λ o p is. elim (row_cases key.object.0 key.page.0 now old.resident new.resident changes.row o p) [
        | inl put ↦ inl (put.object, put.page)
        | inr other ↦ inr (sym (ap is_here other.is) ∙ is)
      ];
    }

-- the page whose row has changed hasn't come by that
pub none_comes : (key : PageKey) (frame : FrameNo) (was now : Option PageRow) (held : Bool) (bytes : List ℕ) (lists : Queues) (old new : HostParts)
    → Changes key frame was now held bytes lists old new → new.objects ≡ old.objects → (is_here now ≡ true → is_here was ≡ true) → NoneComes old new
none_comes key frame was now held bytes lists old new changes objects before =
    record {
      objects = objects;
      here = λ o p is. elim (row_cases key.object.0 key.page.0 now old.resident new.resident changes.row o p) [
        | inl put ↦
            ap is_here (stood old.resident key.object.0 key.page.0 o p was put.object put.page changes.found) ∙ before (sym (ap is_here put.is) ∙ is)
        | inr other ↦ sym (ap is_here other.is) ∙ is
      ];
    }

pub none_referenced : (frame : FrameNo) (old new : HostParts) → References frame old new → NoneComes old new
none_referenced frame old new marks =
    record {
      objects = ap (λ (z : HostParts). z.objects) marks.is;
      here = λ o p is. sym (ap (λ (z : HostParts). is_here (row_at z.resident o p)) marks.is) ∙ is;
    }

-- an access that ends with a page that is here
pub none_hit : (task : TaskId) (what : Want) (key : PageKey) (frame : FrameNo) (at value : ℕ) (e : Event) (old new : HostParts)
    → Hits task what key frame at value e old new → NoneComes old new
none_hit task (want.Load address size) key frame at value e old new hits = none_referenced frame old new hits.1
none_hit task (want.Store address size number) key frame at value e old new hits =
    let mid = hits.1.0 in
    let writes = hits.1.1 in
    none_then old mid new (none_comes key writes.row.frame _ _ _ _ _ old mid writes.page writes.plan.objects (λ is. is))
    (none_referenced frame mid new hits.1.2)
none_hit task (want.CopyTo address pages target next) key frame at value e old new hits = absurd hits

here_row : (x : Option PageRow) → is_here x ≡ true → (row : PageRow) × (x ≡ Some row) × (row.here ≡ true)
here_row None is = absurd (false≢true is)
here_row (Some row) is = (row, refl, is)

-- a copy object has had a page of it that is here
pub had_here : (copies : CopyTable) (parts : HostParts) (c : ℕ) (row : CopyRow) (p : ℕ) → CopyFits copies parts c row
    → is_here (row_at parts.resident c p) ≡ true → had_at copies c p ≡ true
had_here copies parts c row p fits is = let stands = here_row _ is in fits.had p stands.0 stands.1 stands.2

-- the copy objects are the same, but for what they have had
record SameRows (had have : CopyTable) : Type 0 where
  pub living : AreNewest have
  pub newest : have.newest ≡ had.newest
  pub rows : (c : ℕ) (row : CopyRow) → copy_at have c ≡ Some row → (was : CopyRow) × (copy_at had c ≡ Some was) × (was.pages ≡ row.pages)

fit_then : (had have : CopyTable) (old new : HostParts) (chains : ChainTable) → CopiesFit had old chains → new.objects ≡ old.objects → SameRows had have
    → ((c p : ℕ) (row : CopyRow) → copy_at have c ≡ Some row → is_here (row_at new.resident c p) ≡ true → had_at have c p ≡ true)
    → CopiesFit have new chains
fit_then had have old new chains fit objects same here =
    record {
      living = same.living;
      fits = λ c row is.
          let was = same.rows c row is in
          let fits = fit.fits c was.0 was.1 in
          record {
            known = ap (λ (z : ObjectTable). is_some (object_at z c)) objects ∙ fits.known;
            pages = ap (λ (z : ObjectTable). object_pages z c) objects ∙ (fits.pages ∙ was.2);
            had = λ p page found yes. here c p row is (ap is_here found ∙ yes);
          };
      stands = λ s c is.
          let stands = fit.stands s c (sym (ap (λ z. among s z) same.newest) ∙ is) in
          record {
            row = stands.row;
            found = stands.found;
            under = stands.under;
            shift = stands.shift;
            pages = ap (λ (z : ObjectTable). object_pages z c.0) objects ∙ (stands.pages ∙ sym (ap (λ (z : ObjectTable). object_pages z s) objects));
          };
    }

same_rows : (copies : CopyTable) → AreNewest copies → SameRows copies copies
same_rows copies living = record { living = living; newest = refl; rows = λ c row is. (row, is, refl) }

-- no page came
pub fit_kept : (copies : CopyTable) (old new : HostParts) (chains : ChainTable) → CopiesFit copies old chains → NoneComes old new → CopiesFit copies new chains
fit_kept copies old new chains fit comes =
    fit_then copies copies old new chains fit comes.objects (same_rows copies fit.living)
    (λ c p row is here. had_here copies old c row p (fit.fits c row is) (comes.here c p here))

noted_rows : (key : PageKey) (row : CopyRow) (had have : CopyTable) → AreNewest had → copy_at had key.object.0 ≡ Some row
    → PutsCopy key.object.0 (Some (record row { had = slice_set row.had key.page.0 true })) had have → have.newest ≡ had.newest → SameRows had have
noted_rows key row had have living found puts newest =
    record {
      living = record {
        at = λ s. subst (λ z. IfSome z (λ c. IsCopyOf s (copy_at have c.0))) (sym (ap (λ z. among s z) newest))
            (newest_of s (newest_at had s) (living.at s));
      };
      newest = newest;
      rows = λ c now is. elim (one_case key.object.0 c (Some noted) (copy_at had c) (copy_at have c) (puts.at c)) [
        | inl this ↦ (row, sym (ap (copy_at had) this.0) ∙ found, ap (λ (z : CopyRow). z.pages) (some_is noted now (sym this.1 ∙ is)))
        | inr other ↦ (now, sym other.1 ∙ is, refl)
      ];
    }
  where
    noted : CopyRow
    noted = record row { had = slice_set row.had key.page.0 true }

    of : (s c : ℕ) → IsCopyOf s (copy_at had c) → IsCopyOf s (copy_at have c)
    of s c is = elim (one_case key.object.0 c (Some noted) (copy_at had c) (copy_at have c) (puts.at c)) [
      | inl this ↦
          let mine : IsCopyOf s (Some row) = subst (IsCopyOf s) (sym (ap (copy_at had) this.0) ∙ found) is in
          subst (IsCopyOf s) (sym this.1) mine
      | inr other ↦ subst (IsCopyOf s) (sym other.1) is
    ]

    newest_of : (s : ℕ) (x : Option ObjectId) → IfSome x (λ c. IsCopyOf s (copy_at had c.0)) → IfSome x (λ c. IsCopyOf s (copy_at have c.0))
    newest_of s None is = tt
    newest_of s (Some c) is = of s c.0 is

-- a page came, and was noted where its object is a copy object
pub fit_noted : (key : PageKey) (had have : CopyTable) (old new : HostParts) (chains : ChainTable) → CopiesFit had old chains → OneComes key old new
    → Notes key had have → CopiesFit have new chains
fit_noted key had have old new chains fit comes (OfCopy row found puts marks newest room) =
    fit_then had have old new chains fit comes.objects rows (λ c p now is here. noted c p now is (comes.here c p here))
  where
    rows : SameRows had have
    rows = noted_rows key row had have fit.living found puts newest

    both : (b x : Bool) → x ≡ true → (if b then true else x) ≡ true
    both true x is = refl
    both false x is = is

    noted : (c p : ℕ) (now : CopyRow) → copy_at have c ≡ Some now
        → ((key.object.0 ≡ c) × (key.page.0 ≡ p)) ⊎ (is_here (row_at old.resident c p) ≡ true) → had_at have c p ≡ true
    noted c p now is (inl this) =
        let test : (key.object.0 == c && key.page.0 == p) ≡ true = grind (arith, nat_tests, this.0, this.1) in
        marks.at c p ∙ ap (λ (b : Bool). if b then true else had_at had c p) test
    noted c p now is (inr before) =
        let was = rows.rows c now is in
        let stood = had_here had old c was.0 p (fit.fits c was.0 was.1) before in
        marks.at c p ∙ both (key.object.0 == c && key.page.0 == p) (had_at had c p) stood
fit_noted key had have old new chains fit comes (OfOther none same) =
    subst (λ (z : CopyTable). CopiesFit z new chains) (sym same)
    (fit_then had had old new chains fit comes.objects (same_rows had fit.living) (λ c p row is here. noted c p row is (comes.here c p here)))
  where
    noted : (c p : ℕ) (row : CopyRow) → copy_at had c ≡ Some row
        → ((key.object.0 ≡ c) × (key.page.0 ≡ p)) ⊎ (is_here (row_at old.resident c p) ≡ true) → had_at had c p ≡ true
    noted c p row is (inl this) = let bad : None ≡ Some row = sym none ∙ (ap (copy_at had) this.0 ∙ is) in cc
    noted c p row is (inr before) = had_here had old c row p (fit.fits c row is) before
