-- What is read of a shared page is the flat map's page: by a slow copy, and by a load.
use Rattle.std.proofs.Common.{ℕ, ◌≡◌, ◌+◌, ◌*◌, ◌<◌, List, [], ◌∷◌, Bool, true, false, Option, Some, refl, sym, ap, subst, ◌∙◌, arith}
use Rattle.std.proofs.lemmas.Bool.Decides.{nat_tests}
use Rattle.std.specs.Prelude.{◌≢◌, ◌==◌, ◌&&◌, ◌||◌, not, nat_lt}
use Rattle.vm_base.specs.declared.entry.Entry.{Entry}
use Rattle.vm_base.specs.declared.ids.ObjectKind.{ObjectKind}
use Rattle.vm_base.specs.declared.ids.ObjectKind.TheVariants.{File, Shared, Temp, Wild}
use Rattle.vm_base.specs.Entries.{entry_at, page_at}
use Rattle.vm_model.specs.Bytes.{number_at}
use Rattle.vm_model.specs.declared.event.Event.{Event}
use Rattle.vm_model.specs.declared.event.Event.TheVariants as event
use Rattle.vm_model.specs.declared.script.Header.{Header}
use Rattle.vm_model.specs.Local.{is_on}
use Rattle.vm_model.specs.Moments.{EachEvent}
use Rattle.vm_model.specs.Named.{declared, named}
use Rattle.vm_model.specs.Tasks.{entries_of, host_of}
use Rattle.vm_model.specs.Waiting.{Access, Loading, next_page}
use Rattle.vm_legal.specs.Accesses.{Waits}
use Rattle.vm_legal.specs.Bytes.{AnswersOwn, CopiesCurrent, FlatBytes, LoadsCurrent, OwnBytes}
use Rattle.vm_legal.specs.Flat.{flat_page}
use Rattle.vm_legal.specs.Licences as L
use Rattle.vm_legal.specs.Licences.{HasCause}
use Rattle.vm_legal.specs.Living.{lives_on}
use Rattle.vm_legal.specs.Outside.{NoneIsTemporary, Outside, is_file, is_file_kind, is_from_told, is_private, is_shared, is_shared_kind, is_wild, is_wild_kind}
use Rattle.vm_legal.specs.Outside.{kind_of}
use Rattle.vm_model.specs.Regions.{comes_from}
use Rattle.vm_legal.specs.Walks.{page_on}
use Rattle.vm_legal.proofs.Files.{file_kind}
use Rattle.vm_flat.proofs.Loads.{answers}
use Rattle.vm_shared.proofs.Declared.{comes_from_declared, declared_top_own, shared_declared}
use Rattle.vm_shared.proofs.Flat.{current_is_flat}
use Rattle.vm_shared.proofs.Numbering.{numbering}
use Rattle.vm_shared.proofs.Pages.{same_bytes}

-- kinds

shared_kind : (kind : ObjectKind) → kind ≢ Temp → is_wild_kind kind ≡ false → is_file_kind kind ≡ false → is_shared_kind kind ≡ true
shared_kind Temp made tame plain = absurd (made refl)
shared_kind File made tame plain = absurd (let bad : true ≡ false = plain in cc)
shared_kind Shared made tame plain = refl
shared_kind Wild made tame plain = absurd (let bad : true ≡ false = tame in cc)

neither : (a b : Bool) → (a || b) ≡ false → b ≡ false
neither true b is = absurd (let bad : true ≡ false = is in cc)
neither false b is = is

-- a declared object that is neither a file nor wild is shared
is_shared_one : (header : Header) (outside : Outside) (o : ℕ) (past : List Event) → NoneIsTemporary header → o < named header → is_wild header o ≡ false
    → is_private header outside o past ≡ false → is_shared header o ≡ true
is_shared_one header outside o past kinds small tame others =
    shared_kind (kind_of header o) (kinds o small) tame (file_kind header o
    ∙ neither (not (nat_lt o (named header)) && (outside.paging && is_from_told header outside (comes_from o past))) (is_file header o) others)

-- hosts

host_is : (h g task : ℕ) (past : List Event) → host_of task past ≡ Some g → lives_on h task past ≡ true → g ≡ h
host_is h g task past lives on = let same : (g == h) ≡ true = sym (ap (is_on h) lives) ∙ on in grind (arith, nat_tests)

some_same : {A : Type 0} (a b : A) → Some a ≡ Some b → a ≡ b
some_same a b is = cc

-- what a host that has a shared page has is the flat map's page
flat_here : (header : Header) (outside : Outside) (past : List Event) (h o p : ℕ) → EachEvent (HasCause header outside) past → EachEvent (OwnBytes header) past
    → is_shared header o ≡ true → (page_on header h o p past).here ≡ true
    → (page_on header h o p past).bytes ≡ flat_page header outside o p past
flat_here header outside past h o p caused own shared here =
    same_bytes header outside past caused own h o p shared here ∙ sym (current_is_flat header outside past caused o p shared)

-- slow copies

copied_current : (header : Header) (outside : Outside) (past : List Event) (task index object page target host : ℕ) → NoneIsTemporary header
    → EachEvent (HasCause header outside) past → EachEvent (OwnBytes header) past → L.CopiesPage header task index object page target past
    → is_private header outside object past ≡ false → lives_on host task past ≡ true
    → (page_on header host object page past).bytes ≡ flat_page header outside object page past
copied_current header outside past task index object page target host kinds caused own c others lives =
    let k = numbering header outside past caused in
    let place = (declared_top_own header past c.waits.at.entry.region.0 (page_at header.size (c.address + next_page task past * header.size) c.waits.at.entry)
    object page k.numbered c.declared c.is_top).region in
    let small : object < named header = subst (λ (o : ℕ). o < named header) place c.declared in
    let tame : is_wild header object ≡ false = subst (λ (o : ℕ). is_wild header o ≡ false) place c.supplied in
    let on : c.waits.at.host ≡ host = host_is host c.waits.at.host task past c.waits.at.lives lives in
    let here : (page_on header host object page past).here ≡ true = subst (λ (h : ℕ). (page_on header h object page past).here ≡ true) on c.here in
    flat_here header outside past host object page caused own (is_shared_one header outside object past kinds small tame others) here

copy_current : (header : Header) (outside : Outside) (e : Event) (past : List Event) → NoneIsTemporary header → EachEvent (HasCause header outside) past
    → EachEvent (OwnBytes header) past → HasCause header outside e past → CopiesCurrent header outside e past
copy_current header outside (event.CopiedPage task index object page target) past kinds caused own cause =
    λ others host lives. copied_current header outside past task.0 index.0 object.0 page.0 target.0 host kinds caused own cause.1 others lives
copy_current header outside other past kinds caused own cause = tt

pub copies_current : (header : Header) (outside : Outside) (history : List Event) → NoneIsTemporary header → EachEvent (HasCause header outside) history
    → EachEvent (OwnBytes header) history → EachEvent (CopiesCurrent header outside) history
copies_current header outside [] kinds caused own = tt
copies_current header outside (e ∷ past) kinds caused own =
    (copy_current header outside e past kinds caused.1 own.1 caused.0, copies_current header outside past kinds caused.1 own.1)

-- loads

abbrev load_address : Option Access → ℕ
load_address (Some (Loading address bytes)) = address
load_address other = 0

abbrev load_size : Option Access → ℕ
load_size (Some (Loading address bytes)) = bytes
load_size other = 0

-- a task waits with one load, on one host, at one entry
record IsOneLoad (header : Header) (task address bytes more size : ℕ) (past : List Event) (one : Waits header task (Loading address bytes) past)
    (other : Waits header task (Loading more size) past) : Type 0 where
  place : address ≡ more
  number : bytes ≡ size
  host : one.at.host ≡ other.at.host
  entry : one.at.entry ≡ other.at.entry

one_load : (header : Header) (task address bytes more size : ℕ) (past : List Event) (one : Waits header task (Loading address bytes) past)
    (other : Waits header task (Loading more size) past) → IsOneLoad header task address bytes more size past one other
one_load header task address bytes more size past one other =
    let same : Some (Loading address bytes) ≡ Some (Loading more size) = sym one.waits ∙ other.waits in
    let at : address ≡ more = ap load_address same in
    record {
      place = at;
      number = ap load_size same;
      host = some_same one.at.host other.at.host (sym one.at.lives ∙ other.at.lives);
      entry = some_same one.at.entry other.at.entry (sym one.at.found ∙ (ap (λ a. entry_at a (entries_of header.size task past)) at ∙ other.at.found));
    }

loaded_current : (header : Header) (outside : Outside) (past : List Event) (task object page value address bytes : ℕ) → EachEvent (HasCause header outside) past
    → EachEvent (OwnBytes header) past → L.Loads header task object page past → AnswersOwn header task object page value past
    → (waits : Waits header task (Loading address bytes) past) → is_shared header waits.at.entry.region.0 ≡ true
    → value ≡ number_at (flat_page header outside waits.at.entry.region.0 (page_at header.size address waits.at.entry) past) header.size address bytes
loaded_current header outside past task object page value address bytes caused own c answer waits shared =
    let k = numbering header outside past caused in
    let found = one_load header task c.address c.bytes address bytes past c.waits waits in
    let said = one_load header task answer.address answer.bytes address bytes past answer.waits waits in
    let r : ℕ = c.waits.at.entry.region.0 in
    let q : ℕ = page_at header.size c.address c.waits.at.entry in
    let region : r ≡ waits.at.entry.region.0 = ap (λ (entry : Entry). entry.region.0) found.entry in
    let index : q ≡ page_at header.size address waits.at.entry = ap (λ a. page_at header.size a c.waits.at.entry) found.place
    ∙ ap (λ (entry : Entry). page_at header.size address entry) found.entry in
    let its : is_shared header r ≡ true = ap (λ n. is_shared header n) region ∙ shared in
    let place = comes_from_declared header past c.waits.at.host r q object page k.numbered (shared_declared header r its) c.comes in
    let shared_object : is_shared header object ≡ true = ap (λ n. is_shared header n) (sym place.region) ∙ its in
    let bytes_are : (page_on header c.waits.at.host object page past).bytes ≡ flat_page header outside object page past = flat_here header outside past
    c.waits.at.host object page caused own shared_object c.here in
    let hosts : answer.waits.at.host ≡ c.waits.at.host = said.host ∙ sym found.host in
    let flat : flat_page header outside object page past ≡ flat_page header outside waits.at.entry.region.0 (page_at header.size address waits.at.entry) past =
    ap (λ o. flat_page header outside o page past) (sym place.region ∙ region)
    ∙ ap (λ p. flat_page header outside waits.at.entry.region.0 p past) (sym place.page ∙ index) in
    answer.number
    ∙ (ap (λ a. number_at (page_on header answer.waits.at.host object page past).bytes header.size a answer.bytes) said.place
    ∙ (ap (λ n. number_at (page_on header answer.waits.at.host object page past).bytes header.size address n) said.number
    ∙ (ap (λ h. number_at (page_on header h object page past).bytes header.size address bytes) hosts
    ∙ ap (λ x. number_at x header.size address bytes) (bytes_are ∙ flat))))

load_current : (header : Header) (outside : Outside) (e : Event) (past : List Event) → EachEvent (HasCause header outside) past
    → EachEvent (OwnBytes header) past → HasCause header outside e past → OwnBytes header e past → LoadsCurrent header outside e past
load_current header outside (event.Loaded task object page value) past caused own cause answer =
    λ address bytes waits shared. loaded_current header outside past task.0 object.0 page.0 value address bytes caused own cause.1 answer waits shared
load_current header outside other past caused own cause answer = tt

pub loads_current : (header : Header) (outside : Outside) (history : List Event) → EachEvent (HasCause header outside) history
    → EachEvent (OwnBytes header) history → EachEvent (LoadsCurrent header outside) history
loads_current header outside [] caused own = tt
loads_current header outside (e ∷ past) caused own =
    (load_current header outside e past caused.1 own.1 caused.0 own.0, loads_current header outside past caused.1 own.1)

-- where each load answers from its own host's page it answers the flat map's bytes
pub flat_of : (header : Header) (outside : Outside) (history : List Event) → NoneIsTemporary header → EachEvent (HasCause header outside) history
    → EachEvent (OwnBytes header) history → EachEvent (FlatBytes header outside) history
flat_of header outside history kinds caused own =
    answers header outside history caused own (copies_current header outside history kinds caused own) (loads_current header outside history caused own)
