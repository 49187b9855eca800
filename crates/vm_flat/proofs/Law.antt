-- Every load of a sustained history answers the flat map.
use Rattle.std.proofs.Common.{ℕ, ◌≡◌, ◌+◌, ◌%◌, ◌||◌, List, [], ◌∷◌, Bool, true, false, refl, sym, ap, subst, ◌∙◌, arith, Option, Some, None, if◌then◌else◌}
use Rattle.std.proofs.lemmas.Bool.Decides.{nat_tests}
use Rattle.std.specs.Prelude.{◌==◌, ◌&&◌, ◌||◌, not}
use Rattle.vm_base.specs.Pages.{little_endian_bytes, with_bytes}
use Rattle.vm_base.specs.declared.ids.HostId.{HostId}
use Rattle.vm_base.specs.declared.ids.ObjectId.{ObjectId}
use Rattle.vm_model.specs.declared.event.Event.{Event}
use Rattle.vm_model.specs.declared.event.Event.TheVariants as event
use Rattle.vm_model.specs.declared.message.Channel.TheVariants.{Up, Down}
use Rattle.vm_model.specs.declared.message.Message.{Message}
use Rattle.vm_model.specs.declared.message.Message.TheVariants as message
use Rattle.vm_model.specs.declared.script.Header.{Header}
use Rattle.vm_model.specs.Moments.{EachEvent}
use Rattle.vm_base.specs.Entries.{page_at}
use Rattle.vm_model.specs.Bytes.{number_at}
use Rattle.vm_model.specs.Tasks.{host_of}
use Rattle.vm_model.specs.Waiting.{Access, Loading, waiting}
use Rattle.vm_legal.specs.Outside.{Outside, is_from_told, is_private, is_private_from, is_file, is_said, is_shared}
use Rattle.vm_legal.specs.Living.{lives_on}
use Rattle.vm_legal.specs.Used.{is_kept, made_here}
use Rattle.vm_flat.proofs.Uses.{in_use}
use Rattle.vm_model.specs.Controls.{is_control, last_control, live_control}
use Rattle.vm_legal.specs.Walks.{page_on}
use Rattle.vm_flat.proofs.Sustained.{control}
use Rattle.vm_legal.specs.Flat.{StoreChange, change_of, bytes_after_store, made_over, is_number, bytes_after_answer, flat_page}
use Rattle.vm_legal.specs.Licences as L
use Rattle.vm_flat.proofs.Sustained as S
use Rattle.vm_flat.proofs.Sustained.{Sustained, AllSustained}
use Rattle.vm_legal.specs.Bytes.{OwnBytes, CopiesCurrent, FlatBytes, LoadsCurrent}
use Rattle.vm_flat.proofs.Deeds as D
use Rattle.vm_flat.proofs.Causes as C
use Rattle.vm_flat.proofs.Regions.{if_no, if_yes}
use Rattle.vm_flat.proofs.World.{load}
use Rattle.vm_flat.proofs.Worlds.{after, start}
use Rattle.vm_flat.proofs.Classes.{ground, deed, deeds, down_deed, region_in, page_in, number_or_zero, up_case, taken_up_case, taken_down_case}
use Rattle.vm_flat.proofs.Entries.{Entries, PrivateUsed, entries_task_made, entries_task_ended, entries_failed, entries_removed, entries_protected}
use Rattle.vm_flat.proofs.Entries.{entries_delayed, entries_inherited, entries_region_made, entries_region_copied, entries_entered}
use Rattle.vm_flat.proofs.Filling.{Filling, filling_next}
use Rattle.vm_flat.proofs.Fits.{fits_next, fits_start}
use Rattle.vm_flat.proofs.Numbers.{NumberedAt, numbered_start, numbered_region_made, numbered_region_copied, numbered_shadowed, numbered_unmarked}
use Rattle.vm_flat.proofs.Housed.{housed_next, housed_start}
use Rattle.vm_flat.proofs.Numbers.{numbered_delayed, numbered_merged}
use Rattle.vm_flat.proofs.Covers.{file_covered, is_covered, later_alike, stem, told_private}
use Rattle.vm_flat.proofs.Origins.{origins_next, origins_start}
use Rattle.vm_legal.proofs.Files.{file_named}
use Rattle.vm_model.specs.Regions.{comes_from}
use native.Mathlib.Decide.{ℕ_discrete}
use Rattle.vm_flat.proofs.Ports.{ups_start, ups_next, numbers_next, asked_next, downs_start, downs_next, locks_start, locks_next, private_there}
use Rattle.vm_flat.proofs.Holds.{Holds, Homes, Flats, bytes_are, here_is, led, tops, walks}
use Rattle.vm_flat.proofs.Caused.{cause, change_is, source_made, shadowed_made}

-- the flat map is that of the deeds

two : {A : Type 0} (b : Bool) (x y u v : A) → x ≡ u → y ≡ v → (if b then x else y) ≡ (if b then u else v)
two true x y u v e f = e
two false x y u v e f = f

said_same : (header : Header) (outside : Outside) (host r i : ℕ) (own says : Bool) (object : ℕ) (m : Message) (past : List Event) → Flats header outside past
    → D.flat (ground header outside) r i (down_deed own says object m ∷ deeds header outside host past) ≡ bytes_after_answer header says r i object m
    (flat_page header outside r i past)
said_same header outside host r i own says object (message.Supply page lock precious bytes) past flats =
    two (says && (r == object && i == page.0)) _ _ _ _ refl (flats host r i)
said_same header outside host r i own says object (message.Unavailable page) past flats =
    two (says && (r == object && i == page.0)) _ _ _ _ refl (flats host r i)
said_same header outside host r i own says object (message.Error page reason) past flats =
    two (says && (r == object && i == page.0)) _ _ _ _ (flats host r i) (flats host r i)
    ∙ either (says && (r == object && i == page.0)) (flat_page header outside r i past)
  where
    either : {A : Type 0} (b : Bool) (x : A) → (if b then x else x) ≡ x
    either true x = refl
    either false x = refl
said_same header outside host r i own says object m past flats = flats host r i

flat_stored : (header : Header) (outside : Outside) (host r i : ℕ) (own : Bool) (task object page at size value : ℕ) (past : List Event)
    → Flats header outside past → L.Stores header task object page at size value past
    → D.flat (ground header outside) r i (D.Stored own (region_in (change_of header.size task past)) (page_in (change_of header.size task past)) object page
    at (little_endian_bytes size value) ∷ deeds header outside host past)
    ≡ bytes_after_store r i (change_of header.size task past) (flat_page header outside r i past)
flat_stored header outside host r i own task object page at size value past flats c =
    subst (λ (o : Option StoreChange). D.flat (ground header outside) r i (D.Stored own (region_in o) (page_in o) object page
    at (little_endian_bytes size value) ∷ deeds header outside host past) ≡ bytes_after_store r i o (flat_page header outside r i past))
    (sym (change_is header task c.address size value past c.waits))
    (two (r == c.waits.at.entry.region.0 && i == page_at header.size c.address c.waits.at.entry) _ _ _ _
    (ap (λ x. with_bytes x (little_endian_bytes size value) (D.flat (ground header outside) r i (deeds header outside host past))) c.place
    ∙ ap (λ x. with_bytes (c.address % header.size) (little_endian_bytes size value) x) (flats host r i))
    (flats host r i))

flat_copied : (header : Header) (outside : Outside) (host r i : ℕ) (own : Bool) (region index object page target : ℕ) (past : List Event)
    → Flats header outside past → made_over target past ≡ Some region
    → D.flat (ground header outside) r i (D.Copied own object page object page (number_or_zero (made_over target past)) index target index ∷ deeds header
    outside host past)
    ≡ (if is_number r (made_over target past) && i == index then flat_page header outside object page past else flat_page header outside r i past)
flat_copied header outside host r i own region index object page target past flats is =
    subst (λ (o : Option ℕ). D.flat (ground header outside) r i (D.Copied own object page object page (number_or_zero o) index target index ∷ deeds header
    outside host past) ≡ (if is_number r o && i == index then flat_page header outside object page past else flat_page header outside r i past))
    (sym is)
    (two (r == region && i == index) _ _ _ _ (flats host object page) (flats host r i))

flats_next : (header : Header) (outside : Outside) (e : Event) (past : List Event) → Filling header outside past → Flats header outside past
    → Sustained header outside e past → Flats header outside (e ∷ past)
flats_next header outside (event.RegionMade region object pages) past filling flats c host r i = two (r == region.0) _ _ _ _ refl (flats host r i)
flats_next header outside (event.RegionCopied region source offset pages) past filling flats c host r i =
    two (r == region.0) _ _ _ _ (flats host source.0 (offset + i)) (flats host r i)
flats_next header outside (event.Delayed region source offset pages copy) past filling flats c host r i =
    two (r == region.0) _ _ _ _ (flats host source.0 (offset + i)) (flats host r i)
flats_next header outside (event.Stored task object page at size value) past filling flats c host r i =
    flat_stored header outside host r i (lives_on host task.0 past) task.0 object.0 page.0 at size value past flats c
flats_next header outside (event.CopiedPage task page object object_page target) past filling flats c host r i =
    flat_copied header outside host r i (lives_on host task.0 past) c.region page.0 object.0 object_page.0 target.0 past flats
    (filling task.0 c.waits.at.host c.address c.bytes c.to (record { region = c.region; object = target.0 }) c.waits.at.lives c.waits.waits c.filled).is_over
flats_next header outside (event.Sent (Up at object) m) past filling flats c host r i =
    up_case (λ d. D.flat (ground header outside) r i (d ∷ deeds header outside host past) ≡ D.flat (ground header outside) r i
    (deeds header outside host past))
    (λ own o. refl) (λ own lives o p. refl) (λ own o p keep bytes. refl) (λ own o. refl) refl (at.0 == host) (live_control host object.0 past) object.0 m
    ∙ flats host r i
flats_next header outside (event.Sent (Down at object n) m) past filling flats c host r i =
    said_same header outside host r i (at.0 == host && n == last_control host object.0 past) (is_said header outside object.0) object.0 m past flats
flats_next header outside (event.Taken (Up at object) m) past filling flats c host r i =
    taken_up_case (λ d. D.flat (ground header outside) r i (d ∷ deeds header outside host past) ≡ D.flat (ground header outside) r i
    (deeds header outside host past)) (λ own o p. refl) (λ own o p bytes. refl) refl (at.0 == host) object.0 m
    ∙ flats host r i
flats_next header outside (event.Taken (Down at object n) m) past filling flats c host r i =
    taken_down_case (λ d. D.flat (ground header outside) r i (d ∷ deeds header outside host past) ≡ D.flat (ground header outside) r i
    (deeds header outside host past)) (λ own o p word. refl) refl (at.0 == host && n == last_control host object.0 past) object.0 m
    ∙ flats host r i
flats_next header outside e past filling flats c host r i = flats host r i

-- the other parts

second : (a b : Bool) → (a && b) ≡ true → b ≡ true
second true b is = is
second false b is = absurd (cc)

first : (a b : Bool) → (a && b) ≡ true → a ≡ true
first true b is = refl
first false b is = is

new_private : (header : Header) (outside : Outside) (r region : ℕ) (a b : Bool) (from was : Option ℕ)
    → (a ≡ true → is_private_from header outside region from ≡ true) → (b ≡ true → is_private_from header outside r was ≡ true)
    → (if r == region then a else b) ≡ true → is_private_from header outside r (if r == region then from else was) ≡ true
new_private header outside r region a b from was now old used = by (r == region) refl used
  where
    by : (t : Bool) → (r == region) ≡ t → (if t then a else b) ≡ true → is_private_from header outside r (if t then from else was) ≡ true
    by true is e =
        let r_is : r ≡ region = grind (arith, nat_tests) in subst (λ (k : ℕ). is_private_from header outside k from ≡ true) (sym r_is) (now e)
    by false is e = old e

private_next : (header : Header) (outside : Outside) (e : Event) (past : List Event) → Holds header outside past → Sustained header outside e past
    → PrivateUsed header outside (e ∷ past)
private_next header outside (event.RegionMade region object pages) past h c host r used = elim (ℕ_discrete r region.0) [
  | yes e ↦ told_private header outside r (comes_from r past) (omega (arith, e, c.0, h.numbered.later_regions))
      (second (made_here host past) outside.paging (sym (if_yes r region.0 (made_here host past && outside.paging) (in_use header outside host r past) e)
      ∙ used)) (ap (λ x. is_from_told header outside x) (h.origins.unmade r (omega (arith, e, c.0))))
  | no apart ↦ h.private_used host r (sym (if_no r region.0 (made_here host past && outside.paging) (in_use header outside host r past) apart) ∙ used)
]
private_next header outside (event.RegionCopied region source offset pages) past h c host r used =
    new_private header outside r region.0 (in_use header outside host source.0 past) (in_use header outside host r past) (comes_from source.0 past)
    (comes_from r past)
    (λ e. later_alike header outside region.0 source.0 (comes_from source.0 past) (comes_from source.0 past)
    (omega (arith, c.next, h.numbered.later_regions)) c.temporary refl ∙ h.private_used host source.0 e)
    (h.private_used host r) used
private_next header outside (event.Delayed region source offset pages copy) past h c host r used =
    new_private header outside r region.0 (in_use header outside host source.0 past && (outside.paging && is_from_told header outside (Some source.0)))
    (in_use header outside host r past) (Some source.0) (comes_from r past)
    (λ e. told_private header outside region.0 (Some source.0) (omega (arith, c.next, h.numbered.later_regions))
    (first outside.paging _ (second (in_use header outside host source.0 past) _ e))
    (second outside.paging _ (second (in_use header outside host source.0 past) _ e)))
    (h.private_used host r) used
private_next header outside (event.Entered task address bytes region offset prot inherit) past h c host r used =
    h.private_used host r (second (not (r == region.0) || lives_on host task.0 past) (in_use header outside host r past) used)
private_next header outside (event.Removed task address bytes) past h c host r used =
    h.private_used host r (second (is_kept header r (event.Removed task address bytes ∷ past)) (in_use header outside host r past) used)
private_next header outside (event.TaskEnded task) past h c host r used =
    h.private_used host r (second (is_kept header r (event.TaskEnded task ∷ past)) (in_use header outside host r past) used)
private_next header outside (event.Failed task object page) past h c host r used =
    h.private_used host r (second (is_kept header r (event.Failed task object page ∷ past)) (in_use header outside host r past) used)
private_next header outside e past h c host r used = h.private_used host r used

private_start : (header : Header) (outside : Outside) → PrivateUsed header outside []
private_start header outside host r used = grind (arith, nat_tests)

entries_next : (header : Header) (outside : Outside) (e : Event) (past : List Event) → Holds header outside past → Sustained header outside e past
    → Entries header outside (e ∷ past)
entries_next header outside (event.TaskMade made at) past h c task host lives = entries_task_made header outside made at past h.entries task host lives
entries_next header outside (event.TaskEnded gone) past h c task host lives = entries_task_ended header outside gone past h.entries task host lives
entries_next header outside (event.Failed owner object page) past h c task host lives =
    entries_failed header outside owner object page past h.entries task host lives
entries_next header outside (event.Removed owner address bytes) past h c task host lives =
    entries_removed header outside owner address bytes past h.entries task host lives
entries_next header outside (event.Protected owner address bytes prot) past h c task host lives =
    entries_protected header outside owner address bytes prot past h.entries task host lives
entries_next header outside (event.Inherited owner address bytes inherit) past h c task host lives =
    entries_inherited header outside owner address bytes inherit past h.entries task host lives
entries_next header outside (event.RegionMade region object pages) past h c task host lives =
    entries_region_made header outside region object pages past c.0 h.entries task host lives
entries_next header outside (event.RegionCopied region source offset pages) past h c task host lives =
    entries_region_copied header outside region source offset pages past c.next h.entries task host lives
entries_next header outside (event.Delayed region source offset pages copy) past h c task host lives =
    entries_delayed header outside region source offset pages copy past c.next h.entries task host lives
entries_next header outside (event.Entered owner address bytes region offset prot inherit) past h c task host lives =
    entries_entered header outside owner address bytes region offset prot inherit past c h.entries task host lives
entries_next header outside e past h c task host lives = h.entries task host lives

-- a file's home

never : (a b : Bool) → b ≡ false → (a && b) ≡ false
never true b is = is
never false b is = refl

zero_one : (f : Bool) → ◌≡◌ {A = ℕ} (if f then 0 else 2) 1 → ⊥
zero_one true e = omega (arith, e)
zero_one false e = omega (arith, e)

opened_home : (header : Header) (outside : Outside) (at object g o h : ℕ) (past : List Event) → Holds header outside past → (at == g && object == o) ≡ true
    → S.Opens header at object past → (h ≡ g → ⊥) → in_use header outside h o past ≡ false
opened_home header outside at object g o h past w is c apart =
    let row = led header outside c.task c.address past w.entries c.at in
    let host_is : at ≡ g = grind (arith, nat_tests) in
    let object_is : o ≡ object = grind (arith, nat_tests) in
    let off : in_use header outside h c.at.entry.region.0 past ≡ false = row.is.alone h (λ e. apart (e ∙ c.on_host ∙ host_is)) in
    subst (λ (k : ℕ). in_use header outside h k past ≡ false) (c.region ∙ sym object_is) off

begun_home : (b : Bool) (was : ℕ) (used : Bool) → (if b then 1 else was) ≡ 1 → (b ≡ true → used ≡ false) → (was ≡ 1 → used ≡ false) → used ≡ false
begun_home true was used live now before = now refl
begun_home false was used live now before = before live

homes_sent : (header : Header) (outside : Outside) (at : HostId) (object : ObjectId) (m : Message) (past : List Event) → Holds header outside past
    → (is_covered header outside object.0 past ≡ true → S.MaySendUp header outside at.0 object.0 m past) → Homes header outside (event.Sent
    (Up at object) m ∷ past)
homes_sent header outside at object (message.Init number size) past w c g o file live h apart =
    begun_home (at.0 == g && object.0 == o) (control header g o past) (in_use header outside h o past) live
    (λ is. opened_home header outside at.0 object.0 g o h past w is (c (private_there header outside past at.0 object.0 g o is
    (file_covered header outside o (stem header o past) file))) apart)
    (λ e. w.homes g o file e h apart)
homes_sent header outside at object (message.Create number size) past w c g o file live h apart =
    begun_home (at.0 == g && object.0 == o) (control header g o past) (in_use header outside h o past) live
    (λ is. let above = (c (private_there header outside past at.0 object.0 g o is (file_covered header outside o
    (stem header o past) file))).1 in let same : o ≡ object.0 = grind (arith, nat_tests) in absurd
    (omega (arith, above, same, file_named header o file)))
    (λ e. w.homes g o file e h apart)
homes_sent header outside at object (message.Terminate number) past w c g o file live h apart =
    by ((at.0 == g && is_control number (live_control g object.0 past)) && object.0 == o) live
  where
    by : (b : Bool) → (if b then (if is_file header o then 0 else 2) else control header g o past) ≡ 1 → in_use header outside h o past ≡ false
    by true e = absurd (zero_one (is_file header o) e)
    by false e = w.homes g o file e h apart
homes_sent header outside at object m past w c g o file live h apart = w.homes g o file live h apart

homes_next : (header : Header) (outside : Outside) (e : Event) (past : List Event) → Holds header outside past → Sustained header outside e past
    → Homes header outside (e ∷ past)
homes_next header outside (event.RegionMade region object pages) past w c g o file live h apart =
    if_no o region.0 (made_here h past && outside.paging) (in_use header outside h o past) (λ e. omega
    (arith, file_named header o file, e, c.0, w.numbered.later_regions))
    ∙ w.homes g o file live h apart
homes_next header outside (event.RegionCopied region source offset pages) past w c g o file live h apart =
    if_no o region.0 (in_use header outside h source.0 past) (in_use header outside h o past) (λ e. omega
    (arith, file_named header o file, e, c.next, w.numbered.later_regions))
    ∙ w.homes g o file live h apart
homes_next header outside (event.Delayed region source offset pages copy) past w c g o file live h apart =
    if_no o region.0 (in_use header outside h source.0 past && (outside.paging && is_from_told header outside (Some source.0)))
    (in_use header outside h o past) (λ e. omega (arith, file_named header o file, e, c.next, w.numbered.later_regions))
    ∙ w.homes g o file live h apart
homes_next header outside (event.Entered task address bytes region offset prot inherit) past w c g o file live h apart =
    never (not (o == region.0) || lives_on h task.0 past) (in_use header outside h o past) (w.homes g o file live h apart)
homes_next header outside (event.Removed task address bytes) past w c g o file live h apart =
    never (is_kept header o (event.Removed task address bytes ∷ past)) (in_use header outside h o past) (w.homes g o file live h apart)
homes_next header outside (event.TaskEnded task) past w c g o file live h apart =
    never (is_kept header o (event.TaskEnded task ∷ past)) (in_use header outside h o past) (w.homes g o file live h apart)
homes_next header outside (event.Failed task object page) past w c g o file live h apart =
    never (is_kept header o (event.Failed task object page ∷ past)) (in_use header outside h o past) (w.homes g o file live h apart)
homes_next header outside (event.Sent (Up at object) m) past w c g o file live h apart =
    homes_sent header outside at object m past w c g o file live h apart
homes_next header outside (event.Sent (Down at object n) m) past w c g o file live h apart = w.homes g o file live h apart
homes_next header outside e past w c g o file live h apart = w.homes g o file live h apart

no_host : (h : ℕ) → ◌≡◌ {A = Option ℕ} None (Some h) → ⊥
no_host h e = cc

numbered_next : (header : Header) (outside : Outside) (e : Event) (past : List Event) → Holds header outside past → Sustained header outside e past
    → NumberedAt header (e ∷ past)
numbered_next header outside (event.RegionMade region object pages) past h c = numbered_region_made header region object pages past h.numbered c.0 c.1
numbered_next header outside (event.RegionCopied region source offset pages) past h c =
    numbered_region_copied header region source offset pages past h.numbered c.next c.temporary
    (source_made header outside region.0 source.0 offset pages past h c)
numbered_next header outside (event.Delayed region source offset pages copy) past h c =
    numbered_delayed header region source offset pages copy past h.numbered c.next c.new
numbered_next header outside (event.Shadowed region new old) past h c =
    numbered_shadowed header region new old past h.numbered c.next c.marked (shadowed_made header outside region.0 new.0 old.0 past h c)
numbered_next header outside (event.Unmarked region) past h c = numbered_unmarked header region past h.numbered
numbered_next header outside (event.Merged upper lower) past h c = numbered_merged header upper lower past h.numbered c.pair.backed
numbered_next header outside e past h c = h.numbered

pub holds : (header : Header) (outside : Outside) (past : List Event) → AllSustained header outside past → EachEvent (CopiesCurrent header outside) past
    → Holds header outside past
holds header outside [] sustained current =
    record {
      worlds = λ host. start (ground header outside);
      flats = λ host r i. refl;
      numbered = numbered_start header;
      origins = origins_start header;
      fits = fits_start header;
      private_used = private_start header outside;
      entries = λ task host lives. absurd (no_host host lives);
      filling = λ task host address bytes to t lives waits target. absurd (no_host host lives);
      ups = ups_start header outside;
      up_numbers = λ h o ours. tt;
      asked = λ h o n p ours taken step. absurd (cc);
      downs = downs_start header outside;
      locks = locks_start header outside;
      homes = λ g o file live h apart. absurd (omega (arith, live));
      housed = housed_start header outside;
    }
holds header outside (e ∷ past) sustained current =
    let h : Holds header outside past = holds header outside past sustained.1 current.1 in
    record {
      worlds =
          λ host. after (ground header outside) (deed header outside host e past) (deeds header outside host past) (h.worlds host)
          (cause header outside host e past h sustained.0 current.0);
      flats = flats_next header outside e past h.filling h.flats sustained.0;
      numbered = numbered_next header outside e past h sustained.0;
      origins = origins_next header outside e past h.numbered h.worlds h.entries sustained.0 h.origins;
      fits = fits_next header outside e past h.numbered h.worlds h.entries sustained.0 h.fits;
      private_used = private_next header outside e past h sustained.0;
      entries = entries_next header outside e past h sustained.0;
      filling = filling_next header outside e past h.numbered h.entries sustained.0 h.filling;
      ups = ups_next header outside e past h.ups sustained.0;
      up_numbers = numbers_next header outside e past h.worlds h.ups h.up_numbers sustained.0;
      asked = asked_next header outside e past h.worlds h.up_numbers h.asked sustained.0;
      downs = downs_next header outside e past h.worlds h.asked h.downs sustained.0;
      locks = locks_next header outside e past h.worlds h.locks sustained.0;
      homes = homes_next header outside e past h sustained.0;
      housed = housed_next header outside e past h.numbered h.worlds h.entries sustained.0 h.housed;
    }

-- a load waits at one address, on one host

record SameLoad (at count other_at other_count : ℕ) : Type 0 where
  pub address : other_at ≡ at
  pub bytes : other_count ≡ count

same_load : (task address bytes other_address other_bytes : ℕ) (past : List Event) → waiting task past ≡ Some (Loading address bytes)
    → waiting task past ≡ Some (Loading other_address other_bytes) → SameLoad address bytes other_address other_bytes
same_load task address bytes other_address other_bytes past one two =
    let is : Some (Loading other_address other_bytes) ≡ Some (Loading address bytes) = sym two ∙ one in
    record { address = ap (λ a. address_in a) is; bytes = ap (λ a. bytes_in a) is }
  where
    address_in : Option Access → ℕ
    address_in (Some (Loading address bytes)) = address
    address_in other = 0

    bytes_in : Option Access → ℕ
    bytes_in (Some (Loading address bytes)) = bytes
    bytes_in other = 0

same_host : (task host other : ℕ) (past : List Event) → host_of task past ≡ Some host → host_of task past ≡ Some other → other ≡ host
same_host task host other past one two = ap (λ (h : Option ℕ). number_or_zero h) (sym two ∙ one)

loaded : (header : Header) (outside : Outside) (e : Event) (past : List Event) → Holds header outside past → Sustained header outside e past
    → OwnBytes header e past → LoadsCurrent header outside e past → FlatBytes header outside e past
loaded header outside (event.Loaded task object page value) past h c own shared =
    record { address = c.address; bytes = c.bytes; waits = c.waits; number = by_kind (is_private header outside c.waits.at.entry.region.0 past) refl }
  where
    alike : SameLoad c.address c.bytes own.address own.bytes
    alike = same_load task.0 c.address c.bytes own.address own.bytes past c.waits.waits own.waits.waits

    number : value ≡ number_at (page_on header c.waits.at.host object.0 page.0 past).bytes header.size c.address c.bytes
    number =
        own.number ∙ ap (λ (host : ℕ). number_at (page_on header host object.0 page.0 past).bytes header.size own.address own.bytes)
        (same_host task.0 c.waits.at.host own.waits.at.host past c.waits.at.lives own.waits.at.lives)
        ∙ ap (λ (a : ℕ). number_at (page_on header c.waits.at.host object.0 page.0 past).bytes header.size a own.bytes) alike.address
        ∙ ap (λ (b : ℕ). number_at (page_on header c.waits.at.host object.0 page.0 past).bytes header.size c.address b) alike.bytes

    same : is_private header outside c.waits.at.entry.region.0 past ≡ true
        → (page_on header c.waits.at.host object.0 page.0 past).bytes ≡ flat_page header outside c.waits.at.entry.region.0
        (page_at header.size c.address c.waits.at.entry) past
    same ours =
        let row = led header outside task.0 c.address past h.entries c.waits.at in
        let at : C.Tops (ground header outside) c.waits.at.entry.region.0 (page_at header.size c.address c.waits.at.entry) c.comes.top c.comes.top_page
        (deeds header outside c.waits.at.host past) =
        tops header outside c.waits.at.host c.waits.at.entry.region.0 (page_at header.size c.address c.waits.at.entry) c.comes.top c.comes.top_page past
        (row.is.used_here ours) c.comes.is_top (row.is.inside.each c.address row.from row.below) in
        let got = load (ground header outside) c.waits.at.entry.region.0 (page_at header.size c.address c.waits.at.entry) c.comes.steps c.comes.top
        c.comes.top_page object.0 page.0 (deeds header outside c.waits.at.host past) (h.worlds c.waits.at.host) at
        (walks header outside c.waits.at.host past h.numbered c.comes.steps c.comes.top c.comes.top_page object.0 page.0 c.comes.walks)
        (here_is header outside c.waits.at.host object.0 page.0 true past c.here) in
        sym (bytes_are header outside c.waits.at.host object.0 page.0 past) ∙ got
        ∙ h.flats c.waits.at.host c.waits.at.entry.region.0 (page_at header.size c.address c.waits.at.entry)

    by_kind : (private : Bool) → is_private header outside c.waits.at.entry.region.0 past ≡ private
        → private || is_shared header c.waits.at.entry.region.0 ≡ true
        → value ≡ number_at (flat_page header outside c.waits.at.entry.region.0 (page_at header.size c.address c.waits.at.entry) past) header.size c.address
        c.bytes
    by_kind true is flat = number ∙ ap (λ x. number_at x header.size c.address c.bytes) (same is)
    by_kind false is flat = shared c.address c.bytes c.waits flat
loaded header outside e past h c own shared = tt

pub law : (header : Header) (outside : Outside) (history : List Event) → AllSustained header outside history → EachEvent (OwnBytes header) history
    → EachEvent (CopiesCurrent header outside) history → EachEvent (LoadsCurrent header outside) history → EachEvent (FlatBytes header outside) history
law header outside [] sustained own current loads = tt
law header outside (e ∷ past) sustained own current loads = (
  loaded header outside e past (holds header outside past sustained.1 current.1) sustained.0 own.0 loads.0,
  law header outside past sustained.1 own.1 current.1 loads.1,
)
