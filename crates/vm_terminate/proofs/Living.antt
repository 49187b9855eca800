-- How many controls live, as objects change.
use Rattle.std.proofs.Common.{◌≡◌, ◌∙◌, ℕ, zero, suc, ◌+◌, ◌<◌, Bool, true, false, Option, Some, if◌then◌else◌, inl, inr, refl, sym, ap, arith}
use Rattle.std.proofs.lemmas.Bool.Decides.{eqb_tells}
use Rattle.vm_base.specs.declared.ids.HostId.{HostId}
use Rattle.vm_base.specs.declared.ids.ObjectId.{ObjectId}
use Rattle.vm_objects.specs.Objects.{ObjectTable, PutsObject, object_at}
use Rattle.vm_objects.specs.declared.row.ObjectRow.{ObjectRow}
use Rattle.vm_parts.proofs.Rows.{one_case}
use Rattle.vm_shadow.specs.declared.shadow_row.ShadowRow.{ShadowRow}
use Rattle.vm_terminate.specs.Counts.{is_live_row, live_below}
use Rattle.vm_terminate.specs.Finishes.{ControlEnds, FinishState, IsTold, LosesUnder, NoControl}
use Rattle.vm_terminate.specs.Steps.{Ends, LeavesUnder, Nothing, Stays}

-- an object's share of the controls that live
abbrev pub lives : ObjectTable → ℕ → ℕ
lives objects o = if is_live_row (object_at objects o) then 1 else 0

-- as many controls live where each object's share is the same
pub same_below : (old new : ObjectTable) (n : ℕ) → ((o : ℕ) → o < n → is_live_row (object_at new o) ≡ is_live_row (object_at old o))
    → live_below new n ≡ live_below old n
same_below old new zero same = refl
same_below old new (suc o) same =
    let rest = same_below old new o (λ other less. same other (omega arith)) in
    let one : lives new o ≡ lives old o = ap (λ (b : Bool). if b then 1 else 0) (same o (omega arith)) in
    omega (arith, rest, one)

-- one control less lives
pub one_below : (old new : ObjectTable) (object n : ℕ) → object < n → is_live_row (object_at old object) ≡ true → is_live_row (object_at new object) ≡ false
    → ((o : ℕ) → (object ≡ o → ⊥) → is_live_row (object_at new o) ≡ is_live_row (object_at old o)) → live_below new n + 1 ≡ live_below old n
one_below old new object zero less was now same = absurd (omega arith)
one_below old new object (suc o) less was now same = elim (eqb_tells object o) [
  | inl is ↦
      let rest = same_below old new o (λ other below. same other (λ e. let at = is.1 in omega arith)) in
      let before : lives old o ≡ 1 = ap (λ (b : Bool). if b then 1 else 0) (ap (λ z. is_live_row (object_at old z)) (sym is.1) ∙ was) in
      let after : lives new o ≡ 0 = ap (λ (b : Bool). if b then 1 else 0) (ap (λ z. is_live_row (object_at new z)) (sym is.1) ∙ now) in
      omega (arith, rest, before, after)
  | inr apart ↦
      let rest = one_below old new object o (let other = apart.1 in omega arith) was now same in
      let one : lives new o ≡ lives old o = ap (λ (b : Bool). if b then 1 else 0) (same o apart.1) in
      omega (arith, rest, one)
]

-- where a control lives, one does
pub some_below : (objects : ObjectTable) (object n : ℕ) → object < n → is_live_row (object_at objects object) ≡ true → 0 < live_below objects n
some_below objects object zero less is = absurd (omega arith)
some_below objects object (suc o) less is = elim (eqb_tells object o) [
  | inl same ↦ let one : lives objects o ≡ 1 =
      ap (λ (b : Bool). if b then 1 else 0) (ap (λ z. is_live_row (object_at objects z)) (sym same.1) ∙ is) in omega (arith, one)
  | inr apart ↦ let rest = some_below objects object o (let other = apart.1 in omega arith) is in omega (arith, rest)
]

-- an object's row is put that lives as the one before did
pub same_put : (old new : ObjectTable) (o : ℕ) (was now : ObjectRow) → object_at old o ≡ Some was → PutsObject o (Some now) old new → now.live ≡ was.live
    → (n : ℕ) → live_below new n ≡ live_below old n
same_put old new o was now known put same n =
    same_below old new n (λ other less. elim (one_case o other (Some now) (object_at old other) (object_at new other) (put.at other)) [
      | inl this ↦ ap is_live_row this.1 ∙ (same ∙ sym (ap is_live_row (ap (object_at old) (sym this.0) ∙ known)))
      | inr that ↦ ap is_live_row that.1
    ])

-- what stood under an object keeps its control
losing_keeps : (object : ObjectId) (row : ShadowRow) (known : ObjectRow) (left : ℕ) (old new : FinishState) → LosesUnder object row known left old new → (n : ℕ)
    → live_below new.parts.objects n ≡ live_below old.parts.objects n
losing_keeps object row known left old new loses n =
    same_put old.parts.objects new.parts.objects row.under.0 known (record known { references = left }) loses.under loses.objects refl n

pub leaving_keeps : (object : ObjectId) (next : Option ObjectId) (old new : FinishState) → LeavesUnder object next old new → (n : ℕ)
    → live_below new.parts.objects n ≡ live_below old.parts.objects n
leaving_keeps object next old new (Nothing none no_shadow same) n = ap (λ z. live_below z.parts.objects n) same
leaving_keeps object next old new (Stays row known left none loses some) n = losing_keeps object row known left old new loses n
leaving_keeps object next old new (Ends row known goes loses less) n = losing_keeps object row known 0 old new loses n

-- a control that lives ends, and no other
pub ending_takes : (host : HostId) (object : ObjectId) (known : ObjectRow) (old new : FinishState) → ControlEnds host object known old new
    → object_at old.parts.objects object.0 ≡ Some known → (n : ℕ) → object.0 < n
    → live_below new.parts.objects n + (if known.live then 1 else 0) ≡ live_below old.parts.objects n
ending_takes host object known old new (NoControl dead same) is n less = rw (same, dead) (omega arith)
ending_takes host object known old new (IsTold live keeps put events) is n less =
    rw live (one_below old.parts.objects new.parts.objects object.0 n less (ap is_live_row is ∙ live)
    (elim (one_case object.0 object.0 _ _ _ (put.at object.0)) [ inl same ↦ ap is_live_row same.1 | inr apart ↦ absurd (apart.0 refl) ])
    (λ o apart. elim (one_case object.0 o _ _ _ (put.at o)) [ inl same ↦ absurd (apart same.0) | inr that ↦ ap is_live_row that.1 ]))
