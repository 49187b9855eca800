-- Of which memory the flat map speaks where pagers supply each declared object.
use Rattle.std.proofs.Common.{◌≡◌, ℕ, ◌<◌, ◌≤◌, ◌⊎◌, inl, inr, ◌&&◌, ◌||◌, not, Bool, true, false, cond, refl, ap, ◌∙◌, List, Option, Some, None}
use Rattle.std.proofs.lemmas.Bool.{cases_lt, lt-ltb, le-ltb}
use Rattle.std.specs.List.{All}
use Rattle.vm_base.specs.declared.ids.ObjectKind.{ObjectKind}
use Rattle.vm_base.specs.declared.ids.ObjectKind.TheVariants as kinds
use Rattle.vm_model.specs.declared.script.Declared.{Declared}
use Rattle.vm_model.specs.declared.script.Header.{Header}
use Rattle.vm_model.specs.Named.{declared, named}
use Rattle.vm_model.proofs.Names.{each_declared}
use Rattle.vm_model.specs.Regions.{comes_from}
use Rattle.vm_model.specs.declared.event.Event.{Event}
use Rattle.vm_legal.specs.Outside.{Outside, is_file_kept, is_file_kind, is_flat, is_from_told, is_said, is_shared_kind, kind_in}

-- the flat map speaks of a kind of objects that pagers supply
supplied_flat : (kind : ObjectKind) → (kind ≡ kinds.File) ⊎ (kind ≡ kinds.Shared) → (is_file_kind kind || is_shared_kind kind) ≡ true
supplied_flat kind (inl file) = rw file refl
supplied_flat kind (inr shared) = rw shared refl

-- the flat map's test, by whether a region is a declared object's, and which
abbrev flat : Bool → Option Declared → Bool → Bool
flat less object paging = ((not less && paging) || (less && is_file_kept object)) || is_shared_kind (cond less (kind_in object) kinds.Temp)

-- where each declared object is a file's or shared, and the paging area and all files are told, the flat map speaks of all memory
pub all_flat : (header : Header) (outside : Outside) → outside.paging ≡ true → ((file : ℕ) → is_said header outside file ≡ false)
    → All (λ object. (object.kind ≡ kinds.File) ⊎ (object.kind ≡ kinds.Shared)) header.objects.items → (region : ℕ) (past : List Event)
    → is_flat header outside region past ≡ true
all_flat header outside told files supplied region past = each (cases_lt region (named header))
  where
    from : Bool
    from = is_from_told header outside (comes_from region past)

    from_told : (file : Option ℕ) → is_from_told header outside file ≡ true
    from_told None = refl
    from_told (Some file) = ap not (files file)

    within_is : (less : region < named header) → flat true (declared header region) (outside.paging && from) ≡ true
    within_is less =
        let found = each_declared (λ object. (object.kind ≡ kinds.File) ⊎ (object.kind ≡ kinds.Shared)) header region supplied less in
        ap (λ d. flat true d (outside.paging && from)) found.1 ∙ supplied_flat found.0.kind found.2

    each : (region < named header) ⊎ (named header ≤ region) → is_flat header outside region past ≡ true
    each (inl within) = ap (λ b. flat b (declared header region) (outside.paging && from)) (lt-ltb region (named header) within) ∙ within_is within
    each (inr beyond) =
        ap (λ b. flat b (declared header region) (outside.paging && from)) (le-ltb region (named header) beyond)
        ∙ (ap (λ p. flat false (declared header region) (p && from)) told
        ∙ ap (λ p. flat false (declared header region) p) (from_told (comes_from region past)))
