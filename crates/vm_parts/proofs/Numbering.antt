-- The controls of a host's objects, once an object's row has changed.
use Rattle.std.proofs.Common.{◌≡◌, ℕ, ◌-◌, ◌<◌, ◌^◌, true, [], ap, sym, ◌∙◌, subst, Some, None, inl, inr}
use Rattle.std.specs.Prelude.{◌≢◌}
use Rattle.vm_objects.specs.Objects.{ObjectTable, PutsObject, object_among, object_at}
use Rattle.vm_objects.specs.declared.row.ObjectRow.{ObjectRow}
use Rattle.vm_objects.specs.declared.row.PagerState.TheVariants as state
use Rattle.vm_parts.specs.Controls.{AllLive, HasNumbers}
use Rattle.vm_parts.proofs.Rows.{one_case, some_is}

pub live_none : (os : ObjectTable) → os.entries ≡ [] → AllLive os
live_none os none = record { at = λ o row is told. absurd (let bad : None ≡ Some row = sym (ap (object_among o) none) ∙ is in cc) }

pub numbers_none : (os : ObjectTable) → os.entries ≡ [] → HasNumbers os
numbers_none os none = record { at = λ o row is. absurd (let bad : None ≡ Some row = sym (ap (object_among o) none) ∙ is in cc) }

pub live_put : (os os2 : ObjectTable) (id : ℕ) (row : ObjectRow) → AllLive os → (row.state ≢ state.Without → row.live ≡ true) → PutsObject id (Some row) os os2
    → AllLive os2
live_put os os2 id row live is_live put =
    record {
      at = λ o r is told. elim (one_case id o (Some row) (object_at os o) (object_at os2 o) (put.at o)) [
        | inl now ↦
            let its : row ≡ r = some_is row r (sym now.1 ∙ is) in
            sym (ap (λ z. z.live) its) ∙ is_live (λ e. told (sym (ap (λ z. z.state) its) ∙ e))
        | inr that ↦ live.at o r (sym that.1 ∙ is) told
      ];
    }

pub numbers_put : (os os2 : ObjectTable) (id : ℕ) (row : ObjectRow) → HasNumbers os → row.control < 2 ^ 32 - 1 → PutsObject id (Some row) os os2
    → HasNumbers os2
numbers_put os os2 id row numbers few put =
    record {
      at = λ o r is. elim (one_case id o (Some row) (object_at os o) (object_at os2 o) (put.at o)) [
        | inl now ↦ subst (λ (z : ObjectRow). z.control < 2 ^ 32 - 1) (some_is row r (sym now.1 ∙ is)) few
        | inr that ↦ numbers.at o r (sym that.1 ∙ is)
      ];
    }
