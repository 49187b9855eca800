-- Which files a host knows, where objects are known otherwise and regions get homes.
use Rattle.std.proofs.Common.{List, Option, Some, ap, arith, false, inl, inr, subst, sym, true, ℕ, ◌<◌, ◌≤◌, ◌∙◌, ◌∷◌, ◌≡◌}
use Rattle.std.proofs.lemmas.Bool.Decides.{eqb_tells}
use Rattle.std.specs.Prelude.{is_some}
use Rattle.vm_abroad.proofs.Home.{file_named, home_apart, homes_kept, on_own}
use Rattle.vm_base.specs.declared.entry.Entry.{Entry}
use Rattle.vm_base.specs.declared.ids.TaskId.{TaskId}
use Rattle.vm_legal.proofs.Files.{file_paged}
use Rattle.vm_legal.proofs.Served.{later_paged}
use Rattle.vm_legal.proofs.Unshared.{paged_tame}
use Rattle.vm_legal.specs.Outside.{is_file, is_wild}
use Rattle.vm_model.specs.declared.event.Event.{Event}
use Rattle.vm_model.specs.declared.event.Event.TheVariants as event
use Rattle.vm_model.specs.declared.script.Header.{Header}
use Rattle.vm_model.specs.Homes.{home_of}
use Rattle.vm_model.specs.Local.{is_on}
use Rattle.vm_model.specs.Named.{named}
use Rattle.vm_objects.specs.Objects.{ObjectTable, PutsObject, SameObjects, object_at}
use Rattle.vm_objects.specs.declared.row.ObjectRow.{ObjectRow}
use Rattle.vm_parts.proofs.Rows.{one_case}
use Rattle.vm_shadow.specs.Chains.{ChainTable}
use Rattle.vm_state.specs.Pagers.{has_pager}
use Rattle.vm_state.specs.Stands.{HasKinds, IsUnderKind, KnowsFiles}

-- an object that is known is known otherwise
pub files_put : (header : Header) (h o : ℕ) (row new : ObjectRow) (os os2 : ObjectTable) (home_from : ℕ → Option ℕ) → object_at os o ≡ Some row
    → PutsObject o (Some new) os os2 → KnowsFiles header h os home_from → KnowsFiles header h os2 home_from
files_put header h o row new os os2 home_from found put files x file =
    files x file ∙ elim (one_case o x (Some new) (object_at os x) (object_at os2 x) (put.at x)) [
      | inl this ↦ ap is_some (ap (object_at os) (sym this.0) ∙ found) ∙ sym (ap is_some this.1)
      | inr other ↦ ap is_some (sym other.1)
    ]

-- a temporary object comes, goes or is known otherwise
pub files_temporary : (header : Header) (h o : ℕ) (row : Option ObjectRow) (os os2 : ObjectTable) (home_from : ℕ → Option ℕ) → named header ≤ o
    → PutsObject o row os os2 → KnowsFiles header h os home_from → KnowsFiles header h os2 home_from
files_temporary header h o row os os2 home_from least put files x file = files x file ∙ elim (one_case o x row (object_at os x) (object_at os2 x) (put.at x)) [
  | inl this ↦ absurd (let less = file_named header x file in let same = this.0 in omega (arith, less, same, least))
  | inr other ↦ ap is_some (sym other.1)
]

-- an object is known, and a file is the host's from now on
pub files_mapped : (header : Header) (h o : ℕ) (new : ObjectRow) (os os2 : ObjectTable) (home_from home_from2 : ℕ → Option ℕ) → PutsObject o (Some new) os os2
    → (is_file header o ≡ true → home_from2 o ≡ Some h) → ((x : ℕ) → (o ≡ x → ⊥) → home_from2 x ≡ home_from x)
    → KnowsFiles header h os home_from → KnowsFiles header h os2 home_from2
files_mapped header h o new os os2 home_from home_from2 put here others files x file =
    elim (one_case o x (Some new) (object_at os x) (object_at os2 x) (put.at x)) [
      | inl this ↦ ap (is_on h) (ap home_from2 (sym this.0) ∙ here (subst (λ (z : ℕ). is_file header z ≡ true) (sym this.0) file))
          ∙ (on_own h ∙ sym (ap is_some this.1))
      | inr other ↦ ap (is_on h) (others x other.0) ∙ (files x file ∙ ap is_some (sym other.1))
    ]

-- the same objects are known
pub files_same : (header : Header) (h : ℕ) (os os2 : ObjectTable) (home_from : ℕ → Option ℕ) → SameObjects os os2 → KnowsFiles header h os home_from
    → KnowsFiles header h os2 home_from
files_same header h os os2 home_from same files x file = files x file ∙ ap is_some (sym (same.at x))

-- what is temporary is no file
pub no_file : (header : Header) (r : ℕ) → named header ≤ r → is_file header r ≡ true → ⊥
no_file header r least file = let less = file_named header r file in omega (arith, less, least)

-- and what is under a shadow isn't wild
pub under_tame : (header : Header) (o : ℕ) → IsUnderKind header o → is_wild header o ≡ false
under_tame header o kind = paged_tame header o (elim kind [ inl least ↦ later_paged header o least | inr file ↦ file_paged header o file ])

-- a file to which something refers has a pager
pub file_has_pager : {header : Header} {objects : ObjectTable} {chains : ChainTable} → HasKinds header objects chains → (o : ℕ) (known : ObjectRow)
    → is_file header o ≡ true → object_at objects o ≡ Some known → 0 < known.references → has_pager known.state ≡ true
file_has_pager {header = header} kinds o known file found some =
    let is = kinds.kinds o known found in
    sym is.lives ∙ (is.declared (file_named header o file)).told (under_tame header o (inr file)) some

-- a task gets an entry, on a region that is the host's already where it is a file's
pub files_entered : (header : Header) (h : ℕ) (task : TaskId) (row : Entry) (os : ObjectTable) (past : List Event)
    → (is_file header row.region.0 ≡ true → home_of row.region.0 past ≡ Some h) → KnowsFiles header h os (λ o. home_of o past)
    → KnowsFiles header h os (λ o. home_of o (event.Entered task row.address row.bytes row.region row.offset row.prot row.inherit ∷ past))
files_entered header h task row os past own files x file = ap (is_on h) (elim (eqb_tells row.region.0 x) [
  | inl same ↦ homes_kept h x task row.address row.bytes row.region row.offset row.prot row.inherit past
      (own (subst (λ (z : ℕ). is_file header z ≡ true) (sym same.1) file))
  | inr apart ↦ home_apart x task row.address row.bytes row.region row.offset row.prot row.inherit past apart.1
]) ∙ files x file
