-- What is wanted behind an entry that comes, and behind a page that a slow copy makes: this goes on to its next page.
use Rattle.std.proofs.Common.{ℕ, ◌≡◌, ◌+◌, ◌*◌, ◌==◌, ◌&&◌, ◌<◌, ◌⊎◌, Bool, true, false, List, ◌∷◌, Option, Some, None, if◌then◌else◌, ap}
use Rattle.std.proofs.Common.{sym, refl, subst, ◌∙◌}
use Rattle.std.proofs.Common.{arith, inl, inr}
use Rattle.std.proofs.lemmas.Bool.{and_from}
use Rattle.std.proofs.lemmas.Bool.Decides.{nat_tests}
use Rattle.vm_abroad.proofs.Home.{on_own}
use Rattle.vm_base.specs.Entries.{entered, entry_at, page_at}
use Rattle.vm_base.specs.Limits.{most_tasks}
use Rattle.vm_base.specs.declared.entry.Entry.{Entry}
use Rattle.vm_base.specs.declared.ids.Inherit.{Inherit}
use Rattle.vm_base.specs.declared.ids.ObjectId.{ObjectId}
use Rattle.vm_base.specs.declared.ids.PageNo.{PageNo}
use Rattle.vm_base.specs.declared.ids.Prot.{Prot}
use Rattle.vm_base.specs.declared.ids.RegionId.{RegionId}
use Rattle.vm_base.specs.declared.ids.TaskId.{TaskId}
pub use Rattle.vm_bound.specs.Settles.{CopyFromOne}
use Rattle.vm_bound.proofs.PlainChains.{Wanted, wanted_by, wanted_moved}
use Rattle.vm_bound.proofs.Wanting.{any_is, wants_is}
use Rattle.vm_bound.specs.Accesses.{is_wanted}
use Rattle.vm_legal.specs.Accesses.{HasPageLeft, HasPlace}
use Rattle.vm_legal.specs.Licences.{CopiesPage, HasCause}
use Rattle.vm_legal.specs.Outside.{Outside}
use Rattle.vm_model.specs.Local.{is_on}
use Rattle.vm_model.specs.Moments.{EachEvent}
use Rattle.vm_model.specs.Named.{named}
use Rattle.vm_model.specs.Tasks.{entries_of, host_of}
use Rattle.vm_model.specs.Waiting.{Access, Copying, address_of, next_page, waiting}
use Rattle.vm_model.specs.declared.event.Event.{Event}
use Rattle.vm_model.specs.declared.event.Event.TheVariants as event
use Rattle.vm_model.specs.declared.script.Header.{Header}
use Rattle.vm_shared.proofs.Declared.{declared_top_own, place_from_declared}
use Rattle.vm_shared.proofs.Numbering.{numbering}

same_number : (a b : ℕ) → (a == b) ≡ true → a ≡ b
same_number a b is = grind (arith, nat_tests)

-- An entry.

none_waits : (access : Access) (x : Option Access) → x ≡ None → x ≡ Some access → ⊥
none_waits access x none is = cc

pub entered_wanted : (header : Header) (outside : Outside) (h o p : ℕ) (owner : TaskId) (address bytes : ℕ) (region : RegionId) (offset : ℕ) (prot : Prot)
    (inherit : Inherit) (past : List Event) → EachEvent (HasCause header outside) past → waiting owner.0 past ≡ None
    → is_wanted header h o p (event.Entered owner address bytes region offset prot inherit ∷ past) ≡ true → is_wanted header h o p past ≡ true
entered_wanted header outside h o p owner address bytes region offset prot inherit past caused idle =
    wanted_moved header outside h o p (event.Entered owner address bytes region offset prot inherit) past caused
    (λ task w. record {
      access = w.access;
      waits = record {
        waits = w.waits.waits;
        at = record {
          host = w.waits.at.host;
          entry = w.waits.at.entry;
          lives = w.waits.at.lives;
          found = found task w.access w.waits.at.entry w.waits.waits (owner.0 == task) refl w.waits.at.found;
        };
        left = w.waits.left;
      };
      on_host = w.on_host;
      kind = refl;
      place = record { top = w.place.top; top_page = w.place.top_page; steps = w.place.steps; is_top = w.place.is_top; leads = w.place.leads };
    })
  where
    found : (task : ℕ) (access : Access) (entry : Entry) → waiting task past ≡ Some access → (b : Bool) → (owner.0 == task) ≡ b
        → entry_at (address_of header.size (next_page task past) access) (if b then entered
        (record { address = address; bytes = bytes; region = region; offset = offset; prot = prot; inherit = inherit }) (entries_of header.size task past)
        else entries_of header.size task past) ≡ Some entry
        → entry_at (address_of header.size (next_page task past) access) (entries_of header.size task past) ≡ Some entry
    found task access entry waits true own is =
        let same : owner.0 ≡ task = grind (arith, nat_tests) in
        absurd (none_waits access (waiting task past) (subst (λ (k : ℕ). waiting k past ≡ None) same idle) waits)
    found task access entry waits false other is = is

-- Slow copies.

-- the page of its region that comes behind one of a slow copy

abbrev page_led : ℕ → ℕ → Option Entry → ℕ
page_led size address None = 0
page_led size address (Some entry) = page_at size address entry

abbrev page_behind : Header → ℕ → ℕ → Option Access → List Event → ℕ
page_behind header task index (Some (Copying address bytes to)) past =
    page_led header.size (address + (index + 1) * header.size) (entry_at (address + (index + 1) * header.size) (entries_of header.size task past))
page_behind header task index other past = 0

abbrev pub next_copied : Header → ℕ → ℕ → List Event → ℕ
next_copied header task index past = page_behind header task index (waiting task past) past

-- a task that waits on the host wants the place for one of the pages of its access
record WantsAt (header : Header) (task h o p n : ℕ) (access : Access) (past : List Event) : Type 0 where
  waits : waiting task past ≡ Some access
  lives : host_of task past ≡ Some h
  entry : Entry
  found : entry_at (address_of header.size n access) (entries_of header.size task past) ≡ Some entry
  left : HasPageLeft header.size access n
  place : HasPlace header entry.region.0 (page_at header.size (address_of header.size n access) entry) o p past

wants_behind : (header : Header) (task h o p : ℕ) (owner : TaskId) (page : PageNo) (object : ObjectId) (object_page : PageNo) (target : ObjectId)
    (past : List Event) → (w : Wanted header task h o p (event.CopiedPage owner page object object_page target ∷ past))
    → WantsAt header task h o p (if owner.0 == task then page.0 + 1 else next_page task past) w.access past
wants_behind header task h o p owner page object object_page target past w =
    record {
      waits = w.waits.waits;
      lives = w.waits.at.lives ∙ ap Some w.on_host;
      entry = w.waits.at.entry;
      found = w.waits.at.found;
      left = w.waits.left;
      place = record { top = w.place.top; top_page = w.place.top_page; steps = w.place.steps; is_top = w.place.is_top; leads = w.place.leads };
    }

-- any other task wants what it wanted
wants_before : (header : Header) (task h o p : ℕ) (access : Access) (past : List Event) → WantsAt header task h o p (next_page task past) access past
    → Wanted header task h o p past
wants_before header task h o p access past w =
    record {
      access = access;
      waits = record { waits = w.waits; at = record { host = h; entry = w.entry; lives = w.lives; found = w.found }; left = w.left };
      on_host = refl;
      kind = refl;
      place = w.place;
    }

-- that of the copy wants the next page of its region
wants_next : (header : Header) (outside : Outside) (h o p task index object page target : ℕ) (access : Access) (past : List Event)
    → EachEvent (HasCause header outside) past → CopyFromOne header past → CopiesPage header task index object page target past
    → WantsAt header task h o p (index + 1) access past
    → (is_on h (host_of task past) && (object == o && next_copied header task index past == p)) ≡ true
wants_next header outside h o p task index object page target access past caused one c wants =
    let same : access ≡ Copying c.address c.bytes c.to = some_same access (Copying c.address c.bytes c.to) (sym wants.waits ∙ c.waits.waits) in
    by (subst (λ (a : Access). WantsAt header task h o p (index + 1) a past) same wants)
  where
    some_same : (a b : Access) → ◌≡◌ {A = Option Access} (Some a) (Some b) → a ≡ b
    some_same a b is = cc

    equal : (a b : ℕ) → a ≡ b → (a == b) ≡ true
    equal a b is = grind (arith, nat_tests)

    by : WantsAt header task h o p (index + 1) (Copying c.address c.bytes c.to) past
        → (is_on h (host_of task past) && (object == o && next_copied header task index past == p)) ≡ true
    by w =
        let region : c.waits.at.entry.region.0 ≡ w.entry.region.0 =
        one task c.address c.bytes c.to (next_page task past) (index + 1) c.waits.at.entry w.entry c.waits.waits c.waits.left w.left c.waits.at.found
        w.found in
        let num = (numbering header outside past caused).numbered in
        let own = place_from_declared header past w.entry.region.0 _ o p num (subst (λ (k : ℕ). k < named header) region c.declared) w.place in
        let top = declared_top_own header past c.waits.at.entry.region.0 _ object page num c.declared c.is_top in
        let next : next_copied header task index past ≡ page_at header.size (c.address + (index + 1) * header.size) w.entry =
        ap (λ (x : Option Access). page_behind header task index x past) c.waits.waits
        ∙ ap (page_led header.size (c.address + (index + 1) * header.size)) w.found in
        and_from (is_on h (host_of task past)) (object == o && next_copied header task index past == p) (ap (is_on h) w.lives ∙ on_own h)
        (and_from (object == o) (next_copied header task index past == p) (equal object o (sym top.region ∙ (region ∙ own.region)))
        (equal (next_copied header task index past) p (next ∙ own.page)))

pub copied_wanted : (header : Header) (outside : Outside) (h o p : ℕ) (owner : TaskId) (page : PageNo) (object : ObjectId) (object_page : PageNo)
    (target : ObjectId) (past : List Event) → EachEvent (HasCause header outside) past → CopyFromOne header past
    → CopiesPage header owner.0 page.0 object.0 object_page.0 target.0 past
    → is_wanted header h o p (event.CopiedPage owner page object object_page target ∷ past) ≡ true
    → (is_wanted header h o p past ≡ true)
    ⊎ ((is_on h (host_of owner.0 past) && (object.0 == o && next_copied header owner.0 page.0 past == p)) ≡ true)
copied_wanted header outside h o p owner page object object_page target past caused one c wanted =
    let it = any_is header (λ access. true) most_tasks h o p (event.CopiedPage owner page object object_page target ∷ past) wanted in
    let w : Wanted header it.0 h o p (event.CopiedPage owner page object object_page target ∷ past) =
    wants_is header (λ access. true) it.0 h o p (event.CopiedPage owner page object object_page target ∷ past) it.2 in
    by it.0 it.1 w.access (owner.0 == it.0) refl (wants_behind header it.0 h o p owner page object object_page target past w)
  where
    by : (task : ℕ) → task < most_tasks → (access : Access) → (b : Bool) → (owner.0 == task) ≡ b
        → WantsAt header task h o p (if b then page.0 + 1 else next_page task past) access past
        → (is_wanted header h o p past ≡ true)
        ⊎ ((is_on h (host_of owner.0 past) && (object.0 == o && next_copied header owner.0 page.0 past == p)) ≡ true)
    by task less access true own w =
        let same : task ≡ owner.0 = sym (same_number owner.0 task own) in
        inr (wants_next header outside h o p owner.0 page.0 object.0 object_page.0 target.0 access past caused one c
        (subst (λ (k : ℕ). WantsAt header k h o p (page.0 + 1) access past) same w))
    by task less access false other w =
        inl (wanted_by header outside most_tasks task h o p past caused less (wants_before header task h o p access past w))
