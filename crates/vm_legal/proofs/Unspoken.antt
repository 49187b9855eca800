-- Of which events the definitions say nothing, by what the events are about.
use Rattle.std.proofs.Common.{◌≡◌, false, List, refl}
use Rattle.vm_model.specs.declared.event.Event.{Event}
use Rattle.vm_model.specs.declared.event.Event.TheVariants as event
use Rattle.vm_model.specs.declared.script.Header.{Header}
use Rattle.vm_model.specs.Kinds.{Accesses, Entries, Lines, Pages, Takings, about}
use Rattle.vm_model.specs.Summary.{is_line, is_loaded, is_stored}
use Rattle.vm_model.proofs.Unspoken.{is_copied_page, is_raised, of_accesses, of_lines, of_pages, of_takings}
use Rattle.vm_legal.specs.Bytes.{CopiesCurrent, FlatBytes, LoadsCurrent, OwnBytes}
use Rattle.vm_legal.specs.Follows.{IsConsequence, MayFollow}
use Rattle.vm_legal.specs.Outside.{Outside}
use Rattle.vm_legal.specs.Stretches.{IsInner}

-- own bytes are those of accesses and pages: of loads, stores and what is copied
pub own_bytes_elsewhere : (header : Header) (e : Event) → (about e ≡ Accesses → ⊥) → (about e ≡ Pages → ⊥) → (past : List Event)
    → OwnBytes header e past ≡ Unit {0}
own_bytes_elsewhere header (event.Loaded task object page value) no_access no_page past = absurd (no_access refl)
own_bytes_elsewhere header (event.Stored task object page at size value) no_access no_page past = absurd (no_access refl)
own_bytes_elsewhere header (event.CopiedPage task page object object_page target) no_access no_page past = absurd (no_access refl)
own_bytes_elsewhere header (event.Raised host lower lower_page upper upper_page) no_access no_page past = absurd (no_page refl)
own_bytes_elsewhere header other no_access no_page past = refl

pub own_bytes_of_accesses : (header : Header) (past : List Event) (e : Event) → about e ≡ Accesses → is_loaded e ≡ false → is_stored e ≡ false
    → is_copied_page e ≡ false → OwnBytes header e past ≡ Unit {0}
own_bytes_of_accesses header past =
    of_accesses (λ e. is_loaded e ≡ false → is_stored e ≡ false → is_copied_page e ≡ false → OwnBytes header e past ≡ Unit {0})
    (λ task object page value unloaded unstored uncopied. absurd (cc))
    (λ task object page at size value unloaded unstored uncopied. absurd (cc))
    (λ task page object object_page target unloaded unstored uncopied. absurd (cc))
    (λ task unloaded unstored uncopied. refl)
    (λ task object page unloaded unstored uncopied. refl)

pub own_bytes_of_pages : (header : Header) (past : List Event) (e : Event) → about e ≡ Pages → is_raised e ≡ false → OwnBytes header e past ≡ Unit {0}
own_bytes_of_pages header past =
    of_pages (λ e. is_raised e ≡ false → OwnBytes header e past ≡ Unit {0})
    (λ host object page unraised. refl)
    (λ host object page unraised. refl)
    (λ host lower lower_page upper upper_page unraised. absurd (cc))

-- the flat map's bytes are loaded
pub flat_bytes_elsewhere : (header : Header) (outside : Outside) (e : Event) → (about e ≡ Accesses → ⊥) → (past : List Event)
    → FlatBytes header outside e past ≡ Unit {0}
flat_bytes_elsewhere header outside (event.Loaded task object page value) no_access past = absurd (no_access refl)
flat_bytes_elsewhere header outside other no_access past = refl

pub flat_bytes_of_accesses : (header : Header) (outside : Outside) (past : List Event) (e : Event) → about e ≡ Accesses → is_loaded e ≡ false
    → FlatBytes header outside e past ≡ Unit {0}
flat_bytes_of_accesses header outside past =
    of_accesses (λ e. is_loaded e ≡ false → FlatBytes header outside e past ≡ Unit {0})
    (λ task object page value unloaded. absurd (cc))
    (λ task object page at size value unloaded. refl)
    (λ task page object object_page target unloaded. refl)
    (λ task unloaded. refl)
    (λ task object page unloaded. refl)

pub loads_current_elsewhere : (header : Header) (outside : Outside) (e : Event) → (about e ≡ Accesses → ⊥) → (past : List Event)
    → LoadsCurrent header outside e past ≡ Unit {0}
loads_current_elsewhere header outside (event.Loaded task object page value) no_access past = absurd (no_access refl)
loads_current_elsewhere header outside other no_access past = refl

pub loads_current_of_accesses : (header : Header) (outside : Outside) (past : List Event) (e : Event) → about e ≡ Accesses → is_loaded e ≡ false
    → LoadsCurrent header outside e past ≡ Unit {0}
loads_current_of_accesses header outside past =
    of_accesses (λ e. is_loaded e ≡ false → LoadsCurrent header outside e past ≡ Unit {0})
    (λ task object page value unloaded. absurd (cc))
    (λ task object page at size value unloaded. refl)
    (λ task page object object_page target unloaded. refl)
    (λ task unloaded. refl)
    (λ task object page unloaded. refl)

-- or copied, page by page
pub copies_current_elsewhere : (header : Header) (outside : Outside) (e : Event) → (about e ≡ Accesses → ⊥) → (past : List Event)
    → CopiesCurrent header outside e past ≡ Unit {0}
copies_current_elsewhere header outside (event.CopiedPage task page object object_page target) no_access past = absurd (no_access refl)
copies_current_elsewhere header outside other no_access past = refl

pub copies_current_of_accesses : (header : Header) (outside : Outside) (past : List Event) (e : Event) → about e ≡ Accesses → is_copied_page e ≡ false
    → CopiesCurrent header outside e past ≡ Unit {0}
copies_current_of_accesses header outside past =
    of_accesses (λ e. is_copied_page e ≡ false → CopiesCurrent header outside e past ≡ Unit {0})
    (λ task object page value uncopied. refl)
    (λ task object page at size value uncopied. refl)
    (λ task page object object_page target uncopied. absurd (cc))
    (λ task uncopied. refl)
    (λ task object page uncopied. refl)

-- a step begins with a line or a taking
pub is_inner_elsewhere : (e : Event) → (about e ≡ Lines → ⊥) → (about e ≡ Takings → ⊥) → IsInner e ≡ Unit {0}
is_inner_elsewhere (event.Line line) no_line untaken = absurd (no_line refl)
is_inner_elsewhere (event.Taken channel m) no_line untaken = absurd (untaken refl)
is_inner_elsewhere other no_line untaken = refl

pub is_inner_of_lines : (e : Event) → about e ≡ Lines → is_line e ≡ false → IsInner e ≡ Unit {0}
is_inner_of_lines = of_lines (λ e. is_line e ≡ false → IsInner e ≡ Unit {0}) (λ line unlined. absurd (cc)) (λ code unlined. refl)

pub is_inner_of_takings : (e : Event) → about e ≡ Takings → IsInner e ≡ ⊥
is_inner_of_takings = of_takings (λ e. IsInner e ≡ ⊥) (λ channel m. refl)

-- but for entries, what an event is about says whether it follows
pub is_consequence_elsewhere : (e : Event) → (about e ≡ Entries → ⊥) → (past : List Event) → IsConsequence e past ≡ MayFollow (about e)
is_consequence_elsewhere (event.Entered task address bytes region offset prot inherit) no_entry past = absurd (no_entry refl)
is_consequence_elsewhere other no_entry past = refl
