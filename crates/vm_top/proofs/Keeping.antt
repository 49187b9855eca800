-- What the paging area and the files keep, in terms of the history alone.
use Rattle.std.proofs.Common.{◌≡◌, ℕ, ◌*◌, ◌<◌, Bool, true, false, List, [], ◌∷◌, Option, Some, None, refl, ap, sym, ◌∙◌, subst, arith, nat_lt, inl, inr, ◌≤◌}
use Rattle.std.specs.Prelude.{IsSome, suc, zero, ◌&&◌, ◌||◌, if◌then◌else◌, length, is_some, not, slice_get, unwrap_or}
use Rattle.std.specs.List.{All}
use Rattle.std.proofs.lemmas.List.Elements.{All-nil, All-cons}
use Rattle.std.proofs.lemmas.Bool.{and_parts}
use Rattle.std.proofs.lemmas.Bool.Decides.{nat_tests}
use Rattle.std.proofs.lemmas.Option.{slice_get_cases, slice_get_within}
use Rattle.vm_model.specs.declared.event.Event.{Event}
use Rattle.vm_model.specs.declared.script.Declared.{Declared}
use Rattle.vm_model.specs.declared.script.Header.{Header}
use Rattle.vm_model.specs.Named.{declared, named}
use Rattle.vm_model.proofs.Names.{each_declared}
use Rattle.vm_legal.specs.Licences.{tells}
use Rattle.vm_legal.specs.Outside.{Outside, Told as FilesTold, Untold, are_untold, is_file, is_file_kept, is_file_kind}
use Rattle.vm_legal.specs.Pagers.{is_lost, last_return, slot_at}
use Rattle.vm_legal.proofs.Files.{file_named}
use Rattle.vm_outside.specs.Areas.{Told, read_at}
use Rattle.pg_file.specs.Stands.{IsStartTold, name_kept, name_of}
use Rattle.pg_slots.specs.Contents.{IsHeldAs, Kept, area_name}
use Rattle.pg_slots.specs.Slots.{SlotTable, held_at, held_slot}
use Rattle.pg_slots.specs.declared.slot_row.Held.{Held}
use Rattle.pg_slots.specs.declared.slot_row.Held.TheVariants as held
use Rattle.pg_default.specs.Stands.{PagerStands, content_of, is_ended}
use Rattle.vm_system.specs.Keeping.{FilesAreTold, FilesCarry, PagingHasPages, PagingKeepsPages}
use Rattle.vm_system.proofs.Starting.{carry_none}
use Rattle.vm_system.specs.Stands.{AllTold, AreNumbered, PagingIsKept as SystemKept}
use Rattle.vm_top.specs.Run.{are_told, areas_told, is_told, outside_of, told_of as bytes_told}
use Rattle.vm_system.specs.declared.state.State.{State}

-- a page that has a slot, and of which bytes were stored, is kept there
kept_of : (count size : ℕ) (has : Option Held) (s : ℕ) (bytes : List ℕ) → IsHeldAs count size has (Some (Kept bytes)) → held_slot has ≡ Some s
    → has ≡ Some (held.Kept s)
kept_of count size None s bytes is slot = absurd is
kept_of count size (Some (held.Kept t)) s bytes is slot = let same : t ≡ s = cc in ap (λ z. Some (held.Kept z)) same
kept_of count size (Some (held.Torn t)) s bytes is slot = absurd is
kept_of count size (Some held.Lost) s bytes is slot = absurd is

no_slot : (has : Option Held) (s : ℕ) → has ≡ None → held_slot has ≡ Some s → ⊥
no_slot has s none is = let bad : None ≡ Some s = sym (ap held_slot none) ∙ is in cc

-- a page that has a slot is a temporary object's that hasn't ended
stored_at : (slots : SlotTable) (header : Header) (host : ℕ) (h : List Event) (o p s : ℕ) (bytes : List ℕ) → PagerStands header host slots h
    → held_slot (held_at slots o p) ≡ Some s → last_return host o p h ≡ Some bytes → is_lost o p h ≡ false
    → content_of header host h o p ≡ Some (Kept bytes)
stored_at slots header host h o p s bytes stands slot returned fine = by_tests (nat_lt o (named header)) (is_ended host o h) refl refl
  where
    by_tests : (a b : Bool) → nat_lt o (named header) ≡ a → is_ended host o h ≡ b → content_of header host h o p ≡ Some (Kept bytes)
    by_tests true b is ended =
        let below : o < named header = grind (arith, nat_tests) in absurd (no_slot (held_at slots o p) s (stands.declared o p below) slot)
    by_tests false true is ended = absurd (no_slot (held_at slots o p) s (stands.ended o p ended) slot)
    by_tests false false is ended = rw (is, ended, returned, fine) refl

-- where the paging area of a host told before, it tells, and has the bytes of each page that was returned and isn't lost
pub kept_pages : (header : Header) (host : ℕ) (outside : Outside) (areas : List ℕ → Told) (s : State) (pager : SlotTable)
    → slice_get s.pagers.items host ≡ Some pager → SystemKept header outside areas s → PagingKeepsPages header host outside areas s.history.items
kept_pages header host outside areas s pager found kept = record { at = λ paging. by (areas (area_name host)) refl paging }
  where
    stands : PagerStands header host pager s.history.items
    stands = kept.pagers.stand host pager found

    tells : outside.paging ≡ true → IsSome (areas (area_name host))
    tells paging = subst (λ z. IsSome (areas (area_name z))) stands.host_is (kept.told paging host pager found)

    at_page : outside.paging ≡ true → (was : Option (List ℕ)) → areas (area_name host) ≡ Some was → (o p at : ℕ) (bytes : List ℕ)
        → slot_at header host o p s.history.items ≡ Some at → is_lost o p s.history.items ≡ false
        → last_return host o p s.history.items ≡ Some bytes → read_at (unwrap_or was []) (at * header.size) header.size ≡ bytes
    at_page paging was told o p at bytes slotted fine returned =
        let fits = kept.fits paging host pager found in
        let slot : held_slot (held_at pager o p) ≡ Some at = stands.slot o p ∙ slotted in
        let stored = stored_at pager header host s.history.items o p at bytes stands slot returned fine in
        let agrees = subst (IsHeldAs pager.count pager.size (held_at pager o p)) stored (fits.agrees.at o p) in
        let here = kept_of pager.count pager.size (held_at pager o p) at bytes agrees slot in
        let named_so : areas (area_name pager.host) ≡ Some was = ap (λ z. areas (area_name z)) stands.host_is ∙ told in
        subst (λ z. read_at (unwrap_or was []) (at * z) z ≡ bytes) stands.size (fits.bytes o p at bytes here stored was named_so)

    by : (t : Option (Option (List ℕ))) → areas (area_name host) ≡ t → outside.paging ≡ true → PagingHasPages header host areas s.history.items
    by None is paging = absurd (let some = tells paging in let bad : false ≡ true = ap is_some (sym is) ∙ some in cc)
    by (Some was) is paging = (was, is, at_page paging was is)

-- the pager of a host
pub pager_of : (pagers : List SlotTable) (host : ℕ) → host < length pagers → (pager : SlotTable) × (slice_get pagers host ≡ Some pager)
pager_of pagers host below = elim (slice_get_cases pagers host).1 [
  | inl found ↦ (found.0, found.2)
  | inr none ↦ absurd (let past : length pagers ≤ host = none.0 in omega (arith, below, past))
]

-- where the areas of so many hosts are told, that of each of them is
area_told : (areas : List ℕ → Told) (hosts host : ℕ) → areas_told areas hosts ≡ true → host < hosts → is_some (areas (area_name host)) ≡ true
area_told areas zero host told below = absurd (omega (arith, below))
area_told areas (suc hosts) host told below =
    let parts = and_parts (areas_told areas hosts) (is_some (areas (area_name hosts))) told in
    by_number (nat_lt host hosts) refl (λ less. area_told areas hosts host parts.0 less)
  where
    by_number : (b : Bool) → nat_lt host hosts ≡ b → (host < hosts → is_some (areas (area_name host)) ≡ true) → is_some (areas (area_name host)) ≡ true
    by_number true is lower = lower (grind (arith, nat_tests))
    by_number false is lower =
        let last : is_some (areas (area_name hosts)) ≡ true = (and_parts (areas_told areas hosts) (is_some (areas (area_name hosts))) told).1 in
        let above : hosts ≤ host = grind (arith, nat_tests) in
        let same : hosts ≡ host = omega (arith, above, below) in
        subst (λ z. is_some (areas (area_name z)) ≡ true) same last

-- the paging areas of the pagers are told, where the outside says so
pub all_told : (header : Header) (files areas : List ℕ → Told) (pagers : List SlotTable) → AreNumbered header pagers
    → (outside_of files areas header).paging ≡ true → AllTold areas pagers
all_told header files areas pagers numbered paging h pager found =
    let below : h < length header.frames.items = subst (λ z. h < z) numbered.count (slice_get_within pagers h pager found) in
    subst (λ z. is_some (areas (area_name z)) ≡ true) (sym (numbered.hosts h pager found)) (area_told areas (length header.frames.items) h paging below)

-- nothing was returned yet
pub kept_none : (header : Header) (files areas : List ℕ → Told) (h : List Event) → h ≡ [] → (host : ℕ) → host < length header.frames.items
    → PagingKeepsPages header host (outside_of files areas header) areas h
kept_none header files areas h none host below =
    subst (PagingKeepsPages header host (outside_of files areas header) areas) (sym none)
    (record { at = λ paging. by (areas (area_name host)) refl (area_told areas (length header.frames.items) host paging below) })
  where
    by : (t : Option (Option (List ℕ))) → areas (area_name host) ≡ t → is_some (areas (area_name host)) ≡ true → PagingHasPages header host areas []
    by None is some = absurd (let bad : false ≡ true = ap is_some (sym is) ∙ some in cc)
    by (Some was) is some = (was, is, λ o p s bytes slotted. absurd (cc))

pub files_none : (header : Header) (areas : List ℕ → Told) (h : List Event) → h ≡ [] → FilesCarry header areas areas h
files_none header areas h none = subst (FilesCarry header areas areas) (sym none) (carry_none header areas)

-- each declared file tells, where all do
all_tell : (areas : List ℕ → Told) (objects : List Declared) → are_told areas objects ≡ true → All (λ object. is_told areas object ≡ true) objects
all_tell areas [] is = All-nil (λ object. is_told areas object ≡ true)
all_tell areas (object ∷ objects) is =
    let parts = and_parts (is_told areas object) (are_told areas objects) is in
    All-cons (λ older. is_told areas older ≡ true) object objects parts.0 (all_tell areas objects parts.1)

-- a file of which the tale is asked tells
tells_file : (file some : Bool) → file ≡ true → not file || some ≡ true → some ≡ true
tells_file true some is told = told
tells_file false some is told = absurd (let bad : false ≡ true = is in cc)

told_some : (t : Told) → is_some t ≡ true → (was : Option (List ℕ)) × (t ≡ Some was)
told_some None some = absurd (cc)
told_some (Some was) some = (was, refl)

file_told : (header : Header) (areas : List ℕ → Told) (o : ℕ) → are_told areas header.objects.items ≡ true → is_file header o ≡ true → (was : Option (List ℕ))
    × (areas (name_of header o) ≡ Some was)
file_told header areas o told file =
    let found = each_declared (λ object. is_told areas object ≡ true) header o (all_tell areas header.objects.items told) (file_named header o file) in
    let named_so : name_of header o ≡ found.0.name = ap name_kept found.1 in
    let kept : is_file_kind found.0.kind ≡ true = sym (ap is_file_kept found.1)
    ∙ (and_parts (nat_lt o (named header)) (is_file_kept (declared header o)) file).1 in
    told_some (areas (name_of header o)) (subst (λ z. is_some (areas z) ≡ true) (sym named_so)
    (tells_file (is_file_kind found.0.kind) (is_some (areas found.0.name)) kept found.2))

-- what is told where
told_apart : (told file paging : Bool) (pages : ℕ → ℕ → List ℕ) → file ≡ true → told ≡ false
    → (if file then not (are_untold (if told then FilesTold pages else Untold) && file) else paging) ≡ true → ⊥
told_apart true file paging pages is none tells = absurd (cc)
told_apart false false paging pages is none tells = absurd (cc)
told_apart false true paging pages is none tells = absurd (cc)

told_same : (told : Bool) (pages : ℕ → ℕ → List ℕ) → told ≡ true → (if told then FilesTold pages else Untold) ≡ FilesTold pages
told_same true pages is = refl
told_same false pages is = absurd (cc)

-- what is told of the files at the start is what they held
pub files_told : (header : Header) (files areas : List ℕ → Told) → FilesAreTold header (outside_of files areas header) files
files_told header files areas = record { at = λ o tells file. by (are_told files header.objects.items) refl o tells file }
  where
    pages : ℕ → ℕ → List ℕ
    pages object page = read_at (unwrap_or (bytes_told (files (name_of header object))) []) (page * header.size) header.size

    by : (b : Bool) → are_told files header.objects.items ≡ b → (o : ℕ) → tells header (outside_of files areas header) o ≡ true → is_file header o ≡ true
        → (was : Option (List ℕ)) × (files (name_of header o) ≡ Some was) × IsStartTold header (outside_of files areas header) o was
    by false none o says file =
        absurd (told_apart (are_told files header.objects.items) (is_file header o) (outside_of files areas header).paging pages file none says)
    by true all o says file =
        let found = file_told header files o all file in (
          found.0,
          found.1,
          record {
            pages = pages;
            told = told_same (are_told files header.objects.items) pages all;
            page = λ p. ap (λ z. read_at (unwrap_or (bytes_told z) []) (p * header.size) header.size) found.1;
          },
        )
