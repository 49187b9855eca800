-- Where no object is shared nothing is asked of loads of shared memory; which objects are neither shared nor wild.
use Rattle.std.proofs.Common.{ℕ, ◌≡◌, ◌∙◌, ◌<◌, ◌≤◌, List, [], ◌∷◌, Bool, true, false, nat_lt, refl, ap, sym, arith, ◌&&◌, Option, Some, None, if◌then◌else◌}
use Rattle.std.proofs.lemmas.Bool.Decides.{nat_tests}
use Rattle.vm_base.specs.declared.ids.ObjectKind.{ObjectKind}
use Rattle.vm_base.specs.declared.ids.ObjectKind.TheVariants.{File, Shared, Temp, Wild}
use Rattle.vm_model.specs.declared.event.Event.{Event}
use Rattle.vm_model.specs.declared.event.Event.TheVariants as event
use Rattle.vm_model.specs.declared.script.Declared.{Declared}
use Rattle.vm_model.specs.declared.script.Header.{Header}
use Rattle.vm_model.specs.Moments.{EachEvent}
use Rattle.vm_model.specs.Named.{declared, named}
use Rattle.std.specs.Prelude.{not, ◌||◌}
use Rattle.vm_legal.specs.Licences.{is_paged}
use Rattle.vm_legal.specs.Bytes.{LoadsCurrent}
use Rattle.vm_legal.specs.Outside.{Outside, is_file, is_file_kept, is_file_kind, is_shared, is_shared_kind, is_wild, is_wild_kind, kind_in, kind_of}

-- no object is shared
abbrev pub NoneIsShared : Header → Type 0
NoneIsShared header = (o : ℕ) → is_shared header o ≡ false

unshared : (header : Header) (outside : Outside) (e : Event) (past : List Event) → NoneIsShared header → LoadsCurrent header outside e past
unshared header outside (event.Loaded task object page value) past none =
    λ address bytes waits shared. absurd (let bad : true ≡ false = sym shared ∙ none waits.at.entry.region.0 in cc)
unshared header outside other past none = tt

pub loads_unshared : (header : Header) (outside : Outside) (past : List Event) → NoneIsShared header → EachEvent (LoadsCurrent header outside) past
loads_unshared header outside [] none = tt
loads_unshared header outside (e ∷ past) none = (unshared header outside e past none, loads_unshared header outside past none)

-- no temporary object is shared
pub temporary_unshared : (header : Header) (o : ℕ) → named header ≤ o → is_shared header o ≡ false
temporary_unshared header o above = ap (λ b. is_shared_kind (if b then kind_in (declared header o) else Temp)) not_below
  where
    not_below : nat_lt o (named header) ≡ false
    not_below = grind (arith, nat_tests)

-- so none is, where no declared one is
pub none_shared : (header : Header) → ((o : ℕ) → o < named header → is_shared header o ≡ false) → NoneIsShared header
none_shared header below o = by_number (nat_lt o (named header)) refl
  where
    by_number : (b : Bool) → nat_lt o (named header) ≡ b → is_shared header o ≡ false
    by_number true is = below o (grind (arith, nat_tests))
    by_number false is = temporary_unshared header o (grind (arith, nat_tests))

-- no file is
pub file_unshared : (header : Header) (o : ℕ) → is_file header o ≡ true → is_shared header o ≡ false
file_unshared header o file = by_row (nat_lt o (named header)) (declared header o) file
  where
    by_kind : (kind : ObjectKind) → is_file_kind kind ≡ true → is_shared_kind kind ≡ false
    by_kind Temp is = refl
    by_kind File is = refl
    by_kind Shared is = absurd (let bad : false ≡ true = is in cc)
    by_kind Wild is = refl

    by_row : (below : Bool) (row : Option Declared) → below && is_file_kept row ≡ true → is_shared_kind (if below then kind_in row else Temp) ≡ false
    by_row true None is = refl
    by_row true (Some object) is = by_kind object.kind is
    by_row false row is = refl

-- neither a temporary object is wild, nor a file
pub paged_tame : (header : Header) (o : ℕ) → is_paged header o ≡ true → is_wild header o ≡ false
paged_tame header o paged = by_row (nat_lt o (named header)) (declared header o) paged
  where
    by_kind : (kind : ObjectKind) → is_file_kind kind ≡ true → is_wild_kind kind ≡ false
    by_kind Temp is = refl
    by_kind File is = refl
    by_kind Shared is = refl
    by_kind Wild is = absurd (let bad : false ≡ true = is in cc)

    by_row : (below : Bool) (row : Option Declared) → not below || (below && is_file_kept row) ≡ true
        → is_wild_kind (if below then kind_in row else Temp) ≡ false
    by_row true None is = refl
    by_row true (Some object) is = by_kind object.kind is
    by_row false row is = refl

-- no shared object is
pub shared_tame : (header : Header) (o : ℕ) → is_shared header o ≡ true → is_wild header o ≡ false
shared_tame header o shared = by (kind_of header o) shared
  where
    by : (kind : ObjectKind) → is_shared_kind kind ≡ true → is_wild_kind kind ≡ false
    by Temp is = refl
    by File is = refl
    by Shared is = refl
    by Wild is = absurd (let bad : false ≡ true = is in cc)

-- a wild object is declared
pub wild_named : (header : Header) (o : ℕ) → is_wild header o ≡ true → o < named header
wild_named header o wild = by_number (nat_lt o (named header)) refl
  where
    by_number : (b : Bool) → nat_lt o (named header) ≡ b → o < named header
    by_number true is = grind (arith, nat_tests)
    by_number false is =
        absurd (let bad : false ≡ true = sym (ap (λ b. is_wild_kind (if b then kind_in (declared header o) else Temp)) is) ∙ wild in cc)
