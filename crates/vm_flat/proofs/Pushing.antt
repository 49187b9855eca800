-- Copies of files, and what is copied up into them, are deeds that have their causes.
use Rattle.std.proofs.Common.{ℕ, ◌≡◌, ◌≢◌, ◌+◌, ◌/◌, ◌≤◌, List, Bool, true, false, refl, sym, ap, subst, ◌∙◌, arith, Some, None}
use Rattle.std.specs.Prelude.{◌&&◌, not}
use Rattle.vm_base.specs.Entries.{page_at}
use Rattle.vm_model.specs.declared.event.Event.{Event}
use Rattle.vm_model.specs.declared.script.Header.{Header}
use Rattle.vm_model.specs.Named.{named}
use Rattle.vm_model.specs.Regions.{region_of}
use Rattle.vm_legal.proofs.Files.{file_named}
use Rattle.vm_legal.specs.Licences as L
use Rattle.vm_legal.specs.Outside.{Outside, is_file, is_from_told, is_private, is_said}
use Rattle.vm_legal.specs.Pushes.{OwesPush, is_pushed}
use Rattle.vm_legal.specs.Walks.{page_on}
use Rattle.vm_flat.proofs.Allowed.{content}
use Rattle.vm_flat.proofs.Causes as C
use Rattle.vm_flat.proofs.Classes.{deeds, ground}
use Rattle.vm_flat.proofs.Covers.{file_covered, is_covered, later_from, stem}
use Rattle.vm_flat.proofs.Deeds as D
use Rattle.vm_flat.proofs.Holds.{Holds, asked_is, here_is, led, reach, tops}
use Rattle.vm_flat.proofs.Origins.{region_private}
use Rattle.vm_flat.proofs.Ties.{as_row, covered_is, newest_is, objects_is, pushed_is, regions_is, row_is, stem_is}
use Rattle.vm_flat.proofs.Uses.{in_use}
use Rattle.vm_flat.proofs.Using.{reached as legally}
use Rattle.vm_flat.proofs.World.{newest_copy_is, pushed_content, reach_covered, stands_newest}

pub covers : (header : Header) (outside : Outside) (host o : ℕ) (past : List Event)
    → D.covered (ground header outside) o (deeds header outside host past) ≡ true → is_covered header outside o past ≡ true
covers header outside host o past is = sym (covered_is header outside host o past) ∙ is

pub delayed_cause : (header : Header) (outside : Outside) (host region source offset pages copy : ℕ) (past : List Event) → Holds header outside past
    → L.CopiesFile header region source offset pages copy past
    → C.Delays (ground header outside) (outside.paging && is_from_told header outside (Some source)) region source offset pages copy
    (deeds header outside host past)
delayed_cause header outside host region source offset pages copy past h c =
    let row = led header outside c.task c.address past h.entries c.at in
    let within : c.at.entry.offset + c.at.entry.bytes / header.size ≤ (region_of header c.at.entry.region.0 past).pages = row.is.inside.whole in
    let here : (region_of header source past).pages ≡ (region_of header c.at.entry.region.0 past).pages = ap (λ k. (region_of header k past).pages)
    c.source_is in
    let same : D.row (ground header outside) source (deeds header outside host past) ≡ as_row (in_use header outside host source past)
    (region_of header source past) = row_is header outside host source past in
    record {
      next = c.next ∙ sym (regions_is header outside host past);
      new = c.new ∙ sym (objects_is header outside host past);
      file = c.file;
      top = ap (λ (w : D.Row). w.top) same ∙ h.numbered.declared_top source (file_named header source c.file);
      shift = ap (λ (w : D.Row). w.shift) same ∙ h.numbered.declared_shift source (file_named header source c.file);
      inside = subst (λ (n : ℕ). offset + pages ≤ n) (sym (ap (λ (w : D.Row). w.pages) same)) (omega (arith, c.inside, within, here));
      told = λ tells. tells;
    }

-- a store on a file pushes its page into the newest copy
pub pushes : (header : Header) (outside : Outside) (host at lower lower_page upper upper_page : ℕ) (past : List Event) → Holds header outside past
    → at ≡ host → L.PushesUp header at lower lower_page upper upper_page past
    → C.Pushes (ground header outside) lower lower_page upper upper_page (deeds header outside host past)
pushes header outside host at lower lower_page upper upper_page past h is c =
    let row = led header outside c.task c.address past h.entries c.waits.at in
    let private : is_private header outside c.waits.at.entry.region.0 past ≡ true = region_private header outside c.waits.at.entry.region.0
    (page_at header.size c.address c.waits.at.entry) lower lower_page past h.numbered h.origins row.is.made c.is_top
    (file_covered header outside lower (stem header lower past) c.owes.file) in
    let used : in_use header outside host c.waits.at.entry.region.0 past ≡ true = subst
    (λ (k : ℕ). in_use header outside k c.waits.at.entry.region.0 past ≡ true) (c.on_host ∙ is) (row.is.used_here private) in
    record {
      file = c.owes.file;
      region = c.waits.at.entry.region.0;
      index = page_at header.size c.address c.waits.at.entry;
      tops =
          tops header outside host c.waits.at.entry.region.0 (page_at header.size c.address c.waits.at.entry) lower lower_page past used c.is_top
          (row.is.inside.each c.address row.from row.below);
      newest = newest_is header outside host lower past ∙ c.owes.newest;
      same_page = c.same_page;
      here = here_is header outside host lower lower_page true past (subst (λ (k : ℕ). (page_on header k lower lower_page past).here ≡ true) is c.here);
      away = here_is header outside host upper upper_page false past (subst (λ (k : ℕ). (page_on header k upper upper_page past).here ≡ false) is c.away);
      unasked = asked_is header outside host upper upper_page false past (subst (λ (k : ℕ). (page_on header k upper upper_page past).asked ≡ false) is
          c.unasked);
      unpushed = pushed_is header outside host upper upper_page past ∙ subst (λ (q : ℕ). is_pushed host upper q past ≡ false) (sym c.same_page)
          (subst (λ (k : ℕ). is_pushed k upper lower_page past ≡ false) is c.owes.unpushed);
    }

-- what stands on a file has the page of its own, if the file owes that page to no copy
pub shares : (header : Header) (outside : Outside) (host object page : ℕ) (past : List Event) → Holds header outside past
    → ((copy : ℕ) → OwesPush header host object page copy past → ⊥) → is_file header object ≡ true → (v q : ℕ)
    → C.Reach (ground header outside) v (deeds header outside host past) → (D.link (ground header outside) v (deeds header outside host past)).backed ≡ true
    → (D.link (ground header outside) v (deeds header outside host past)).under ≡ object
    → (D.link (ground header outside) v (deeds header outside host past)).shift + q ≡ page
    → content (D.spot (ground header outside) v q (deeds header outside host past)) ≢ None
shares header outside host object page past h paid file v q reached backed under place =
    pushed_content (ground header outside) v q (deeds header outside host past) (h.worlds host)
    (reach_covered (ground header outside) v (deeds header outside host past) (h.worlds host).shape reached) copy.0
    (pushed_is header outside host v q past ∙ by (is_pushed host v q past) refl) reached
  where
    newest : D.newest (ground header outside) object (deeds header outside host past) ≡ Some v
    newest = stands_newest (ground header outside) object v (deeds header outside host past) (h.worlds host) (file_named header object file) backed under

    copy : (D.is_copy (ground header outside) v (deeds header outside host past) ≡ true)
        × ((D.link (ground header outside) v (deeds header outside host past)).under ≡ object)
        × ((D.link (ground header outside) v (deeds header outside host past)).shift ≡ 0)
        × (D.stem (ground header outside) v (deeds header outside host past) ≡ Some object)
    copy = newest_copy_is (ground header outside) object v (deeds header outside host past) (h.worlds host) newest

    same : q ≡ page
    same = omega (arith, place, copy.2)

    by : (b : Bool) → is_pushed host v q past ≡ b → is_pushed host v q past ≡ true
    by true is = is
    by false isnt =
        absurd (paid v (record {
          file = file;
          newest = sym (newest_is header outside host object past) ∙ newest;
          lives = legally header outside host v past (reach header outside host v past reached);
          unpushed = subst (λ (k : ℕ). is_pushed host v k past ≡ false) same isnt;
        }))

-- nothing that is reached stands on a file that is not told
pub untold_bare : (header : Header) (outside : Outside) (host object : ℕ) (past : List Event) (o : ℕ) → Holds header outside past
    → is_said header outside object ≡ true → C.Reach (ground header outside) o (deeds header outside host past)
    → (D.link (ground header outside) o (deeds header outside host past)).backed ≡ true
    → (D.link (ground header outside) o (deeds header outside host past)).under ≡ object → ⊥
untold_bare header outside host object past o h said reached backed under = clash (is_said header outside object) said told
  where
    file : is_file header object ≡ true
    file = grind arith

    clash : (b : Bool) → b ≡ true → not b ≡ true → ⊥
    clash b is isnt = cc

    newest : D.newest (ground header outside) object (deeds header outside host past) ≡ Some o
    newest = stands_newest (ground header outside) object o (deeds header outside host past) (h.worlds host) (file_named header object file) backed under

    source : stem header o past ≡ Some object
    source =
        sym (stem_is header outside host o past)
        ∙ (newest_copy_is (ground header outside) object o (deeds header outside host past) (h.worlds host) newest).3

    late : named header ≤ o
    late = h.numbered.newest object o (sym (newest_is header outside host object past) ∙ newest)

    told : not (is_said header outside object) ≡ true
    told =
        ap (λ x. is_from_told header outside x) (sym source)
        ∙ later_from header outside o (stem header o past) late
        (covers header outside host o past (reach_covered (ground header outside) o (deeds header outside host past) (h.worlds host).shape reached))
