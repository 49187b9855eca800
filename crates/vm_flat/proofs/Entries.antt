-- The entries of each task are on regions that are in use on its host and on no other, and on pages that these have.
use Rattle.std.proofs.Common.{ℕ, ◌≡◌, ◌≢◌, ◌+◌, ◌-◌, ◌/◌, ◌<◌, ◌≤◌, List, [], ◌∷◌, Bool, true, false, refl, sym, ap, subst, ◌∙◌, arith, Option, Some, None}
use Rattle.std.proofs.Common.{if◌then◌else◌}
use Rattle.std.proofs.lemmas.Bool.Decides.{nat_tests}
use Rattle.std.specs.Prelude.{◌==◌, ◌&&◌, ◌||◌, not}
use native.Mathlib.Decide.{ℕ_discrete}
use Rattle.vm_base.specs.declared.entry.Entry.{Entry}
use Rattle.vm_base.specs.declared.ids.RegionId.{RegionId}
use Rattle.vm_base.specs.declared.ids.TaskId.{TaskId}
use Rattle.vm_base.specs.declared.ids.HostId.{HostId}
use Rattle.vm_base.specs.declared.ids.ObjectId.{ObjectId}
use Rattle.vm_base.specs.declared.ids.PageNo.{PageNo}
use Rattle.vm_base.specs.declared.ids.Prot.{Prot}
use Rattle.vm_base.specs.declared.ids.Inherit.{Inherit}
use Rattle.vm_base.specs.Entries.{entered, removed, protected, inherited}
use Rattle.vm_model.specs.declared.event.Event.{Event}
use Rattle.vm_model.specs.declared.event.Event.TheVariants as event
use Rattle.vm_model.specs.declared.script.Header.{Header}
use Rattle.vm_model.specs.Tasks.{host_of, entries_of, has_entry}
use Rattle.vm_legal.specs.Outside.{Outside, is_from_told, is_private, is_private_from}
use Rattle.vm_model.specs.Homes.{copying_host, first_of, home_of}
use Rattle.vm_model.specs.Local.{is_on}
use Rattle.vm_legal.specs.Living.{lives_on}
use Rattle.vm_model.specs.Regions.{comes_from, next_region, region_of}
use Rattle.vm_legal.specs.Used.{made_here, is_kept}
use Rattle.vm_flat.proofs.Uses.{in_use}
use Rattle.vm_flat.proofs.Sustained.{Enters}
use Rattle.vm_flat.proofs.Regions.{if_no, if_yes}
use Rattle.vm_model.specs.Rows.{AllRows, rows_map, rows_rewritten, rows_entered, rows_known, HoldsOfParts, Inside, inside_part, page_below}
use Rattle.vm_flat.proofs.Held.{kept}

pub record Owned (size : ℕ) (private : ℕ → Bool) (used : ℕ → ℕ → Bool) (pages : ℕ → ℕ) (home : ℕ → Option ℕ) (next : ℕ)
    (host : ℕ) (row : Entry) : Type 0 where
  pub made : row.region.0 < next
  pub inside : Inside size (pages row.region.0) row
  pub used_here : private row.region.0 ≡ true → used host row.region.0 ≡ true
  pub alone : (other : ℕ) → (other ≡ host → ⊥) → used other row.region.0 ≡ false
  pub homed : home row.region.0 ≡ None → ⊥

abbrev pub OwnedAt : Header → Outside → List Event → ℕ → Entry → Type 0
OwnedAt header outside past host row =
    Owned header.size (λ r. is_private header outside r past) (λ h r. in_use header outside h r past) (λ r. (region_of header r past).pages)
    (λ r. home_of r past) (next_region header past) host row

abbrev pub Entries : Header → Outside → List Event → Type 0
Entries header outside past = (task host : ℕ) → host_of task past ≡ Some host → AllRows (OwnedAt header outside past host) (entries_of header.size task past)

abbrev pub PrivateUsed : Header → Outside → List Event → Type 0
PrivateUsed header outside past = (h r : ℕ) → in_use header outside h r past ≡ true → is_private header outside r past ≡ true

both : (a b : Bool) → a ≡ true → b ≡ true → (a && b) ≡ true
both true b is also = also
both false b is also = absurd (cc)

never : (a b : Bool) → b ≡ false → (a && b) ≡ false
never true b is = is
never false b is = refl

clash : (b : Bool) → b ≡ false → b ≡ true → ⊥
clash b isnt is = cc

some_is : (a b : ℕ) → ◌≡◌ {A = Option ℕ} (Some a) (Some b) → a ≡ b
some_is a b e = cc

is_some_host : (h g : ℕ) (o : Option ℕ) → o ≡ Some g → is_on h o ≡ (g == h)
is_some_host h g o e = ap (is_on h) e

lives_here : (task h : ℕ) (past : List Event) → host_of task past ≡ Some h → lives_on h task past ≡ true
lives_here task h past lives = let e : is_on h (host_of task past) ≡ (h == h) = is_some_host h h (host_of task past) lives in grind (arith, nat_tests)

lives_else : (task h g : ℕ) (past : List Event) → host_of task past ≡ Some g → h ≢ g → lives_on h task past ≡ false
lives_else task h g past lives apart = let e : is_on h (host_of task past) ≡ (g == h) = is_some_host h g (host_of task past) lives in grind (arith, nat_tests)

-- a region that has a home keeps it, and an entry gives it one

unhomed : (b : Bool) (was x : Option ℕ) → (if b then first_of was x else was) ≡ None → was ≡ None
unhomed false was x none = none
unhomed true None x none = refl
unhomed true (Some h) x none = none

no_host : (h : ℕ) (was x : Option ℕ) → x ≡ Some h → first_of was x ≡ None → ⊥
no_host h None x is none = absurd (let bad : ◌≡◌ {A = Option ℕ} (Some h) None = sym is ∙ none in cc)
no_host h (Some g) x is none = absurd (let bad : ◌≡◌ {A = Option ℕ} (Some g) None = none in cc)

-- parts of entries, and entries with another protection or inheritance

pub owned_parts : (header : Header) (outside : Outside) (past : List Event) (host : ℕ) → HoldsOfParts header.size (OwnedAt header outside past host)
owned_parts header outside past host row start end is low less high =
    record {
      made = is.made;
      inside = inside_part header.size (region_of header row.region.0 past).pages row start end is.inside low less high;
      used_here = is.used_here;
      alone = is.alone;
      homed = is.homed;
    }

owned_prot : (header : Header) (outside : Outside) (past : List Event) (host : ℕ) (prot : Prot) (row : Entry) → OwnedAt header outside past host row
    → AllRows (OwnedAt header outside past host) (record row { prot = prot } ∷ [])
owned_prot header outside past host prot row is = (
  record {
    made = is.made;
    inside = record { whole = is.inside.whole; each = is.inside.each };
    used_here = is.used_here;
    alone = is.alone;
    homed = is.homed;
  },
  tt,
)

owned_inherit : (header : Header) (outside : Outside) (past : List Event) (host : ℕ) (inherit : Inherit) (row : Entry) → OwnedAt header outside past host row
    → AllRows (OwnedAt header outside past host) (record row { inherit = inherit } ∷ [])
owned_inherit header outside past host inherit row is = (
  record {
    made = is.made;
    inside = record { whole = is.inside.whole; each = is.inside.each };
    used_here = is.used_here;
    alone = is.alone;
    homed = is.homed;
  },
  tt,
)

-- where only held regions stay in use

abbrev pub OwnedKept : Header → Outside → Event → List Event → ℕ → Entry → Type 0
OwnedKept header outside e past host row =
    Owned header.size (λ r. is_private header outside r past) (λ h r. is_kept header r (e ∷ past) && in_use header outside h r past)
    (λ r. (region_of header r past).pages) (λ r. home_of r past) (next_region header past) host row

keep_rows : (header : Header) (outside : Outside) (e : Event) (past : List Event) (task host : ℕ) → host_of task (e ∷ past) ≡ Some host
    → AllRows (OwnedAt header outside past host) (entries_of header.size task (e ∷ past))
    → AllRows (OwnedKept header outside e past host) (entries_of header.size task (e ∷ past))
keep_rows header outside e past task host lives all =
    rows_map (λ row. OwnedAt header outside past host row × (has_entry row.region.0 (entries_of header.size task (e ∷ past)) ≡ true))
    (OwnedKept header outside e past host)
    (λ row is.
    record {
      made = is.0.made;
      inside = is.0.inside;
      used_here =
          λ ours. both (is_kept header row.region.0 (e ∷ past)) (in_use header outside host row.region.0 past)
          (kept header row.region.0 task host (e ∷ past) lives is.1) (is.0.used_here ours);
      alone = λ other apart. never (is_kept header row.region.0 (e ∷ past)) (in_use header outside other row.region.0 past) (is.0.alone other apart);
      homed = is.0.homed;
    })
    (entries_of header.size task (e ∷ past)) (rows_known (OwnedAt header outside past host) (entries_of header.size task (e ∷ past)) all)

-- each event that the entries feel

pub entries_task_made : (header : Header) (outside : Outside) (made : TaskId) (at : HostId) (past : List Event) → Entries header outside past
    → Entries header outside (event.TaskMade made at ∷ past)
entries_task_made header outside made at past all task host lives = by_test (made.0 == task) lives
  where
    by_test : (b : Bool) → (if b then Some at.0 else host_of task past) ≡ Some host
        → AllRows (OwnedAt header outside past host) (if b then [] else entries_of header.size task past)
    by_test true e = tt
    by_test false e = all task host e

pub entries_task_ended : (header : Header) (outside : Outside) (gone : TaskId) (past : List Event) → Entries header outside past
    → Entries header outside (event.TaskEnded gone ∷ past)
entries_task_ended header outside gone past all task host lives =
    keep_rows header outside (event.TaskEnded gone) past task host lives (by_test (gone.0 == task) lives)
  where
    by_test : (b : Bool) → (if b then None else host_of task past) ≡ Some host
        → AllRows (OwnedAt header outside past host) (if b then [] else entries_of header.size task past)
    by_test true e = tt
    by_test false e = all task host e

pub entries_failed : (header : Header) (outside : Outside) (owner : TaskId) (object : ObjectId) (page : PageNo) (past : List Event)
    → Entries header outside past → Entries header outside (event.Failed owner object page ∷ past)
entries_failed header outside owner object page past all task host lives =
    keep_rows header outside (event.Failed owner object page) past task host lives (all task host lives)

pub entries_removed : (header : Header) (outside : Outside) (owner : TaskId) (address bytes : ℕ) (past : List Event) → Entries header outside past
    → Entries header outside (event.Removed owner address bytes ∷ past)
entries_removed header outside owner address bytes past all task host lives =
    keep_rows header outside (event.Removed owner address bytes) past task host lives (by_test (owner.0 == task))
  where
    by_test : (b : Bool) → AllRows (OwnedAt header outside past host) (if b then removed header.size address bytes (entries_of header.size task past) else
        entries_of header.size task past)
    by_test true =
        rows_rewritten header.size (OwnedAt header outside past host) (λ row. []) (owned_parts header outside past host) (λ row is. tt) address bytes
        (entries_of header.size task past) (all task host lives)
    by_test false = all task host lives

pub entries_protected : (header : Header) (outside : Outside) (owner : TaskId) (address bytes : ℕ) (prot : Prot) (past : List Event)
    → Entries header outside past → Entries header outside (event.Protected owner address bytes prot ∷ past)
entries_protected header outside owner address bytes prot past all task host lives = by_test (owner.0 == task)
  where
    by_test : (b : Bool) → AllRows (OwnedAt header outside past host) (if b then protected header.size address bytes prot
        (entries_of header.size task past) else entries_of header.size task past)
    by_test true =
        rows_rewritten header.size (OwnedAt header outside past host) (λ row. record row { prot = prot } ∷ []) (owned_parts header outside past host)
        (owned_prot header outside past host prot) address bytes (entries_of header.size task past) (all task host lives)
    by_test false = all task host lives

pub entries_inherited : (header : Header) (outside : Outside) (owner : TaskId) (address bytes : ℕ) (inherit : Inherit) (past : List Event)
    → Entries header outside past → Entries header outside (event.Inherited owner address bytes inherit ∷ past)
entries_inherited header outside owner address bytes inherit past all task host lives = by_test (owner.0 == task)
  where
    by_test : (b : Bool) → AllRows (OwnedAt header outside past host) (if b then inherited header.size address bytes inherit
        (entries_of header.size task past) else entries_of header.size task past)
    by_test true =
        rows_rewritten header.size (OwnedAt header outside past host) (λ row. record row { inherit = inherit } ∷ []) (owned_parts header outside past host)
        (owned_inherit header outside past host inherit) address bytes (entries_of header.size task past) (all task host lives)
    by_test false = all task host lives

pub entries_region_made : (header : Header) (outside : Outside) (region : RegionId) (object : ObjectId) (pages : ℕ) (past : List Event)
    → region.0 ≡ next_region header past → Entries header outside past → Entries header outside (event.RegionMade region object pages ∷ past)
entries_region_made header outside region object pages past is all task host lives =
    rows_map (OwnedAt header outside past host) (OwnedAt header outside (event.RegionMade region object pages ∷ past) host)
    (λ row ok.
    let apart : row.region.0 ≢ region.0 = λ e. omega (arith, e, ok.made, is) in
    record {
      made = omega (arith, ok.made);
      inside = subst (λ (n : ℕ). Inside header.size n row) (sym (if_no row.region.0 region.0 pages (region_of header row.region.0 past).pages apart)) ok.inside;
      used_here =
          λ ours. if_no row.region.0 region.0 (made_here host past && outside.paging) (in_use header outside host row.region.0 past) apart ∙ ok.used_here ours;
      alone =
          λ other else_. if_no row.region.0 region.0 (made_here other past && outside.paging) (in_use header outside other row.region.0 past) apart
          ∙ ok.alone other else_;
      homed = λ none. ok.homed (sym (if_no region.0 row.region.0 (first_of (home_of row.region.0 past) (copying_host past)) (home_of row.region.0 past)
          (λ e. apart (sym e))) ∙ none);
    })
    (entries_of header.size task past) (all task host lives)

-- a region that was there before is private as it was
private_before : (header : Header) (outside : Outside) (r new : ℕ) (from was : Option ℕ) → r ≢ new
    → is_private_from header outside r (if r == new then from else was) ≡ true → is_private_from header outside r was ≡ true
private_before header outside r new from was apart ours =
    subst (λ (x : Option ℕ). is_private_from header outside r x ≡ true) (if_no r new from was apart) ours

pub entries_region_copied : (header : Header) (outside : Outside) (region source : RegionId) (offset pages : ℕ) (past : List Event)
    → region.0 ≡ next_region header past → Entries header outside past → Entries header outside (event.RegionCopied region source offset pages ∷ past)
entries_region_copied header outside region source offset pages past is all task host lives =
    rows_map (OwnedAt header outside past host) (OwnedAt header outside (event.RegionCopied region source offset pages ∷ past) host)
    (λ row ok.
    let apart : row.region.0 ≢ region.0 = λ e. omega (arith, e, ok.made, is) in
    record {
      made = omega (arith, ok.made);
      inside = subst (λ (n : ℕ). Inside header.size n row) (sym (if_no row.region.0 region.0 pages (region_of header row.region.0 past).pages apart)) ok.inside;
      used_here =
          λ ours. if_no row.region.0 region.0 (in_use header outside host source.0 past) (in_use header outside host row.region.0 past) apart
          ∙ ok.used_here (private_before header outside row.region.0 region.0 (comes_from source.0 past)
          (comes_from row.region.0 past) apart ours);
      alone =
          λ other else_. if_no row.region.0 region.0 (in_use header outside other source.0 past) (in_use header outside other row.region.0 past) apart
          ∙ ok.alone other else_;
      homed = ok.homed;
    })
    (entries_of header.size task past) (all task host lives)

pub entries_delayed : (header : Header) (outside : Outside) (region source : RegionId) (offset pages : ℕ) (copy : ObjectId) (past : List Event)
    → region.0 ≡ next_region header past → Entries header outside past → Entries header outside (event.Delayed region source offset pages copy ∷ past)
entries_delayed header outside region source offset pages copy past is all task host lives =
    rows_map (OwnedAt header outside past host) (OwnedAt header outside (event.Delayed region source offset pages copy ∷ past) host)
    (λ row ok.
    let apart : row.region.0 ≢ region.0 = λ e. omega (arith, e, ok.made, is) in
    record {
      made = omega (arith, ok.made);
      inside = subst (λ (n : ℕ). Inside header.size n row) (sym (if_no row.region.0 region.0 pages (region_of header row.region.0 past).pages apart)) ok.inside;
      used_here =
          λ ours. if_no row.region.0 region.0 (told host) (in_use header outside host row.region.0 past) apart
          ∙ ok.used_here (private_before header outside row.region.0 region.0 (Some source.0)
          (comes_from row.region.0 past) apart ours);
      alone =
          λ other else_. if_no row.region.0 region.0 (told other) (in_use header outside other row.region.0 past) apart
          ∙ ok.alone other else_;
      homed = ok.homed;
    })
    (entries_of header.size task past) (all task host lives)
  where
    told : ℕ → Bool
    told h = in_use header outside h source.0 past && (outside.paging && is_from_told header outside (Some source.0))

-- an entry comes

pub entries_entered : (header : Header) (outside : Outside) (owner : TaskId) (address bytes : ℕ) (region : RegionId) (offset : ℕ) (prot : Prot)
    (inherit : Inherit) (past : List Event) → Enters header outside owner.0 bytes region.0 offset past → Entries header outside past
    → Entries header outside (event.Entered owner address bytes region offset prot inherit ∷ past)
entries_entered header outside owner address bytes region offset prot inherit past c all task host lives = by_test (owner.0 == task) refl
  where
    stays : (r : ℕ) → (region.0 ≡ r → lives_on host owner.0 past ≡ true) → (not (r == region.0) || lives_on host owner.0 past) ≡ true
    stays r here = elim (ℕ_discrete r region.0) [
      | yes e ↦ let h = here (sym e) in grind arith
      | no apart ↦ grind (arith, nat_tests)
    ]

    step : (row : Entry) → OwnedAt header outside past host row
        → OwnedAt header outside (event.Entered owner address bytes region offset prot inherit ∷ past) host row
    step row ok =
        record {
          made = ok.made;
          inside = ok.inside;
          used_here =
              λ ours. both (not (row.region.0 == region.0) || lives_on host owner.0 past) (in_use header outside host row.region.0 past)
              (stays row.region.0 (same ours)) (ok.used_here ours);
          alone =
              λ other apart. never (not (row.region.0 == region.0) || lives_on other owner.0 past) (in_use header outside other row.region.0 past)
              (ok.alone other apart);
          homed = λ none. ok.homed (unhomed (region.0 == row.region.0) (home_of row.region.0 past) (host_of owner.0 past) none);
        }
      where
        same : is_private header outside row.region.0 past ≡ true → region.0 ≡ row.region.0 → lives_on host owner.0 past ≡ true
        same ours e = elim (ℕ_discrete c.host host) [
          | yes h ↦ lives_here owner.0 host past (subst (λ (k : ℕ). host_of owner.0 past ≡ Some k) h c.lives)
          | no apart ↦ absurd (clash (in_use header outside c.host row.region.0 past) (ok.alone c.host apart)
              (subst (λ (k : ℕ). is_private header outside k past ≡ true → in_use header outside c.host k past ≡ true) e c.used ours))
        ]

    by_test : (b : Bool) → (owner.0 == task) ≡ b → AllRows (OwnedAt header outside (event.Entered owner address bytes region offset prot inherit ∷ past) host)
        (if b then entered (record { address = address; bytes = bytes; region = region; offset = offset; prot = prot; inherit = inherit })
        (entries_of header.size task past) else entries_of header.size task past)
    by_test false is =
        rows_map (OwnedAt header outside past host) (OwnedAt header outside (event.Entered owner address bytes region offset prot inherit ∷ past) host) step
        (entries_of header.size task past) (all task host lives)
    by_test true is =
        rows_entered (OwnedAt header outside (event.Entered owner address bytes region offset prot inherit ∷ past) host)
        (record { address = address; bytes = bytes; region = region; offset = offset; prot = prot; inherit = inherit }) (entries_of header.size task past)
        (record {
          made = c.made;
          inside = record { whole = c.inside; each = each };
          used_here =
              λ ours. both (not (region.0 == region.0) || lives_on host owner.0 past) (in_use header outside host region.0 past)
              (stays region.0 (λ e. lives_here owner.0 host past here)) (subst (λ (k : ℕ). in_use header outside k region.0 past ≡ true) host_is (c.used ours));
          alone = λ other apart. elsewhere other apart;
          homed = λ none. no_host host (home_of region.0 past) (host_of owner.0 past) here
              (sym (if_yes region.0 region.0 (first_of (home_of region.0 past) (host_of owner.0 past)) (home_of region.0 past) refl) ∙ none);
        })
        (rows_map (OwnedAt header outside past host) (OwnedAt header outside (event.Entered owner address bytes region offset prot inherit ∷ past) host) step
        (entries_of header.size task past) (all task host lives))
      where
        task_is : owner.0 ≡ task
        task_is = grind (arith, nat_tests)

        here : host_of owner.0 past ≡ Some host
        here = subst (λ (k : ℕ). host_of k past ≡ Some host) (sym task_is) lives

        host_is : c.host ≡ host
        host_is = some_is c.host host (sym c.lives ∙ here)

        each : (a : ℕ) → address ≤ a → a < address + bytes → offset + (a - address) / header.size < (region_of header region.0 past).pages
        each a low high = let under = page_below header.size (a - address) bytes (omega arith) c.whole in omega (arith, under, c.inside)

        elsewhere : (other : ℕ) → (other ≡ host → ⊥) → ((not (region.0 == region.0) || lives_on other owner.0 past) && in_use header outside other region.0
            past) ≡ false
        elsewhere other apart =
            let gone : lives_on other owner.0 past ≡ false = lives_else owner.0 other host past here apart in
            let same : (region.0 == region.0) ≡ true = grind (arith, nat_tests) in
            grind arith
