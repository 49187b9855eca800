-- Entries that have gone leave the counts.
use Rattle.vm_kernel.proofs.space.EntriesRewritten.{objects_recounted, recount_homes, recount_inside, recount_known, recount_referred}
use Rattle.vm_kernel.proofs.Common.{ChainTable, Command, EachOf, EndsOnly, EndsRegion, Entry, Event, HasEntries, HasSlow, Header, Ids, IsEnding, IsFilledIn}
use Rattle.vm_kernel.proofs.Common.{IsInStep, IsWhole, LegalEvents, List, Mapped, Outside, Parts, PutsEntries, QueueIsStill, RegionRow, RunsNobody, RunsNone}
use Rattle.vm_kernel.proofs.Common.{Some, Sweeps, TaskId, WaitTable, Waiting, [], ap, append_assoc, arith, count_again, count_on, drop, entries_in_row}
use Rattle.vm_kernel.proofs.Common.{eqb_tells, if◌then◌else◌, inl, inr, is_woken, of_both, refl, region_at, region_entries, rows_in, slice_get, subst, suc, sym}
use Rattle.vm_kernel.proofs.Common.{waiting, zero, ℕ, ◌++◌, ◌+◌, ◌-◌, ◌<◌, ◌==◌, ◌∙◌, ◌∷◌, ◌≡◌, ◌≢◌, ◌≤◌, ◌⊎◌}
use Rattle.vm_kernel.proofs.space.RegionsFilled.{counted_unfilled, recount_filled}
use Rattle.vm_state.proofs.Filling.{copies_kept, rows_unmade}
use Rattle.vm_model.specs.declared.event.Event.TheVariants as event
use Rattle.vm_model.specs.declared.message.Channel.TheVariants.{Up}
use Rattle.vm_model.specs.declared.message.Message.TheVariants as message
use Rattle.vm_supply.specs.declared.woken.Woken.TheVariants as woken
use Rattle.vm_kernel.proofs.steps.EventsGrow.{grows_goes}
use Rattle.vm_kernel.proofs.memory.PagesShown.{itself}
use Rattle.vm_state.proofs.Changing.{Recounts, row_before}
use Rattle.vm_kernel.proofs.space.CountsChanged.{entries_are, has_same, next_row, recounts_put}
use Rattle.vm_kernel.proofs.space.RegionRows.{region_row, tops_recounted}
use Rattle.vm_kernel.proofs.space.CopiesEnd.{copied_regions}
use Rattle.vm_kernel.proofs.space.RegionCases.{region_cases}
use Rattle.vm_state.proofs.Waited.{waits_kept}

-- what its region counts then
abbrev pub count_less : ChainTable → ℕ → ℕ → ℕ
count_less cs region r = if region == r then region_entries cs region - 1 else region_entries cs r

pub some_left : (header : Header) (h : ℕ) (outside : Outside) (doing : Command) (past : List Event) (k : Parts) (ids : Ids) (entry : Entry) (rest : List Entry)
    (events : List Event) → Sweeps header h outside doing past k ids (entry ∷ rest) events → 1 ≤ region_entries k.chains entry.region.0
some_left header h outside doing past k ids entry rest events s =
    let row = region_row k.chains entry.region.0 s.runs.matches.core.spaces.entries.known.0 in
    let counts = s.runs.matches.core.spaces.entries.counts entry.region.0 row.0 row.1 in
    let one : count_on entry.region.0 (entry ∷ rest) ≡ 1 + count_on entry.region.0 rest = rw (itself entry.region.0) refl in
    let is = ap entries_in_row row.1 in
    omega arith

counts_less : (size : ℕ) (maps : Mapped) (cs cs2 : ChainTable) (entry : Entry) (rest : List Entry) → Recounts (count_less cs entry.region.0) cs cs2
    → HasEntries size maps cs (entry ∷ rest) → HasEntries size maps cs2 rest
counts_less size maps cs cs2 entry rest is has =
    record {
      inside = λ task. recount_inside (count_less cs entry.region.0) size cs cs2 is (rows_in task maps) (has.inside task);
      known = recount_known (count_less cs entry.region.0) cs cs2 is rest has.known.1;
      most = has.most;
      few = has.few;
      counts = λ r row found.
          let b = row_before (count_less cs entry.region.0) cs cs2 is r row found in
          let now = ap (λ z. z.entries) b.is in
          let were = ap entries_in_row b.found in
          let old = has.counts r b.was b.found in
          elim (eqb_tells entry.region.0 r) [
            | inl same ↦
                let one : count_on r (entry ∷ rest) ≡ 1 + count_on r rest = rw same.0 refl in
                let less : count_less cs entry.region.0 r ≡ region_entries cs entry.region.0 - 1 = rw same.0 refl in
                let that : region_entries cs entry.region.0 ≡ region_entries cs r = ap (region_entries cs) same.1 in
                omega arith
            | inr apart ↦
                let one : count_on r (entry ∷ rest) ≡ 0 + count_on r rest = rw apart.0 refl in
                let less : count_less cs entry.region.0 r ≡ region_entries cs r = rw apart.0 refl in
                omega arith
          ];
    }

runs_less : (header : Header) (h : ℕ) (outside : Outside) (doing : Command) (past : List Event) (k : Parts) (ids : Ids) (entry : Entry) (rest : List Entry)
    (events : List Event) (chains : ChainTable) → IsInStep header h outside doing past k ids (entry ∷ rest) events
    → PutsEntries entry.region.0 (region_entries k.chains entry.region.0 - 1) k.chains chains
    → IsInStep header h outside doing past (record k { chains = chains }) ids rest events
runs_less header h outside doing past k ids entry rest events chains s put =
    let m = s.matches in
    let moment = events ++ past in
    let count = count_less k.chains entry.region.0 in
    let is : Recounts count k.chains chains = recounts_put entry.region.0 (region_entries k.chains entry.region.0 - 1) k.chains chains put in
    record {
      begins = s.begins;
      matches = record {
        core = record {
          setting = m.core.setting;
          calm = m.core.calm;
          fits = m.core.fits;
          spaces = record {
            tasks = m.core.spaces.tasks;
            entries = counts_less header.size k.maps k.chains chains entry rest is m.core.spaces.entries;
            shared = m.core.spaces.shared;
            uses = m.core.spaces.uses;
            homes = recount_homes count header h k.chains chains moment is m.core.spaces.homes;
          };
          objects = objects_recounted count is m.core.objects;
          copied = copied_regions put.shadows m.core.copied;
          controls = m.core.controls;
          flags = m.core.flags;
          pages = m.core.pages;
        };
        settled = m.settled;
        replied = m.replied;
      };
      waits =
          waits_kept k.maps k.maps k.chains chains k.memory.resident k.memory.objects k.waits.rows (is_woken woken.Nobody) (λ t. waiting t moment) s.waits
          (λ t w found. record { size = refl; entries = refl }) (tops_recounted count k.chains chains is) s.waits.is;
      order = s.order;
      idle = s.idle;
      grows = s.grows;
    }

-- other regions have as many entries
others_less : (cs cs2 : ChainTable) (region : ℕ) → PutsEntries region (region_entries cs region - 1) cs cs2 → (list : List Waiting)
    → ((r : ℕ) (row : RegionRow) → region_at cs r ≡ Some row → (0 < row.entries) ⊎ IsFilledIn list r) → (r : ℕ) (row : RegionRow) → r ≢ region
    → region_at cs2 r ≡ Some row → (0 < row.entries) ⊎ IsFilledIn list r
others_less cs cs2 region put list used r row apart found = elim (region_cases region _ cs cs2 put r) [
  | inl this ↦ absurd (apart (sym this.0))
  | inr other ↦ used r row (sym other.1 ∙ found)
]

copies_less : (header : Header) (h : ℕ) (outside : Outside) (doing : Command) (past : List Event) (k : Parts) (ids : Ids) (entry : Entry) (rest : List Entry)
    (events : List Event) (chains : ChainTable) → Sweeps header h outside doing past k ids (entry ∷ rest) events
    → PutsEntries entry.region.0 (region_entries k.chains entry.region.0 - 1) k.chains chains → HasSlow header (record k { chains = chains }) (events ++ past)
copies_less header h outside doing past k ids entry rest events chains s put =
    let some = some_left header h outside doing past k ids entry rest events s in
    copies_kept k.maps k.maps k.chains chains k.memory.resident k.memory.resident s.used.copies (λ t w found. record { size = refl; entries = refl })
    (recount_filled (count_less k.chains entry.region.0) k.chains chains (recounts_put entry.region.0 (region_entries k.chains entry.region.0 - 1) k.chains
    chains put)
    (λ r there none. elim (eqb_tells entry.region.0 r) [
      | inl same ↦ let that : region_entries k.chains entry.region.0 ≡ region_entries k.chains r =
          ap (region_entries k.chains) same.1 in absurd (omega (arith, some, that, none))
      | inr apart ↦ ap (λ b. if b then region_entries k.chains entry.region.0 - 1 else region_entries k.chains r) apart.0 ∙ none
    ]))
    (rows_unmade k.chains k.memory.resident)

-- the region has others
pub sweeps_less : (header : Header) (h : ℕ) (outside : Outside) (doing : Command) (past : List Event) (k : Parts) (ids : Ids) (entry : Entry)
    (rest : List Entry) (events : List Event) (chains : ChainTable) → Sweeps header h outside doing past k ids (entry ∷ rest) events
    → PutsEntries entry.region.0 (region_entries k.chains entry.region.0 - 1) k.chains chains → (region_entries k.chains entry.region.0 ≡ 1 → ⊥)
    → Sweeps header h outside doing past (record k { chains = chains }) ids rest events
sweeps_less header h outside doing past k ids entry rest events chains s put more =
    record {
      runs = runs_less header h outside doing past k ids entry rest events chains s.runs put;
      used = record {
        regions = λ r row found. elim (eqb_tells r entry.region.0) [
          | inl same ↦
              let b = row_before (count_less k.chains entry.region.0) k.chains chains
              (recounts_put entry.region.0 (region_entries k.chains entry.region.0 - 1) k.chains chains put) r row found in
              let now = ap (λ z. z.entries) b.is in
              let less : count_less k.chains entry.region.0 r ≡ region_entries k.chains entry.region.0 - 1 = subst
              (λ (z : ℕ). count_less k.chains entry.region.0 z ≡ region_entries k.chains entry.region.0 - 1) (sym same.1)
              (rw (itself entry.region.0) refl) in
              let some = some_left header h outside doing past k ids entry rest events s in
              inl (by_count (region_entries k.chains entry.region.0) row.entries more some (omega arith))
          | inr apart ↦ others_less k.chains chains entry.region.0 put k.waits.rows s.used.regions r row apart.1 found
        ];
        copies = copies_less header h outside doing past k ids entry rest events chains s put;
      };
      referred =
          recount_referred (count_less k.chains entry.region.0) k.chains chains k.memory.objects k.memory.resident
          (recounts_put entry.region.0 (region_entries k.chains entry.region.0 - 1) k.chains chains put) s.referred;
    }
  where
    by_count : (n m : ℕ) → (n ≡ 1 → ⊥) → 1 ≤ n → m ≡ n - 1 → 0 < m
    by_count zero m more some is = absurd (omega arith)
    by_count (suc zero) m more some is = absurd (more refl)
    by_count (suc (suc n)) m more some is = omega arith

-- it was the last of its region
pub ends_less : (header : Header) (h : ℕ) (outside : Outside) (doing : Command) (past : List Event) (k : Parts) (ids : Ids) (entry : Entry) (rest : List Entry)
    (events : List Event) (chains : ChainTable) → Sweeps header h outside doing past k ids (entry ∷ rest) events
    → PutsEntries entry.region.0 (region_entries k.chains entry.region.0 - 1) k.chains chains → region_entries k.chains entry.region.0 ≡ 1
    → EndsRegion header h woken.Nobody (record k { chains = chains }) ids rest entry.region.0 (events ++ past)
ends_less header h outside doing past k ids entry rest events chains s put last =
    let count = count_less k.chains entry.region.0 in
    let is : Recounts count k.chains chains = recounts_put entry.region.0 (region_entries k.chains entry.region.0 - 1) k.chains chains put in
    let there = has_same count k.chains chains is entry.region.0 ∙ s.runs.matches.core.spaces.entries.known.0 in
    let are = entries_are count k.chains chains is entry.region.0 s.runs.matches.core.spaces.entries.known.0 in
    let less : count entry.region.0 ≡ region_entries k.chains entry.region.0 - 1 = rw (itself entry.region.0) refl in
    let runs = runs_less header h outside doing past k ids entry rest events chains s.runs put in
    record {
      runs = record { matches = runs.matches; waits = runs.waits; order = runs.order };
      there = there;
      none = omega arith;
      others = others_less k.chains chains entry.region.0 put k.waits.rows s.used.regions;
      copies = copies_less header h outside doing past k ids entry rest events chains s put;
      unfilled =
          let row = region_row k.chains entry.region.0 s.runs.matches.core.spaces.entries.known.0 in let is_row = ap entries_in_row
          row.1 in let some = some_left header h
          outside doing past k ids entry rest events s in counted_unfilled entry.region.0 row.0 s.used.copies row.1 (omega (arith, is_row, some));
      referred =
          recount_referred (count_less k.chains entry.region.0) k.chains chains k.memory.objects k.memory.resident
          (recounts_put entry.region.0 (region_entries k.chains entry.region.0 - 1) k.chains chains put) s.referred;
    }

-- the entry at an index is the next
pub sweeps_next : (header : Header) (h : ℕ) (outside : Outside) (doing : Command) (past : List Event) (k : Parts) (ids : Ids) (rows rest : List Entry) (i : ℕ)
    (entry : Entry) (events : List Event) → slice_get rows i ≡ Some entry → rest ≡ drop (i + 1) rows
    → Sweeps header h outside doing past k ids (drop i rows) events → Sweeps header h outside doing past k ids (entry ∷ rest) events
sweeps_next header h outside doing past k ids rows rest i entry events found is s =
    subst (λ (z : List Entry). Sweeps header h outside doing past k ids z events) (next_row rows i entry found ∙ ap (λ z. entry ∷ z) (sym is)) s

-- its region has ended
pub sweeps_on : {header : Header} {h : ℕ} {outside : Outside} {doing : Command} {past : List Event} {k k2 : Parts} {ids : Ids} {gone rest : List Entry}
    {old new : List Event} → Sweeps header h outside doing past k ids gone old → IsWhole header h woken.Nobody k2 ids rest (new ++ past)
    → LegalEvents header h outside doing past old new → k2.waits ≡ k.waits → Sweeps header h outside doing past k2 ids rest new
sweeps_on {header = header} {h = h} {outside = outside} {doing = doing} {past = past} {old = old} {new = new} s whole goes same =
    record {
      runs = record {
        begins = s.runs.begins;
        matches = whole.runs.matches;
        waits = whole.runs.waits;
        order = whole.runs.order;
        idle = ap (λ z. count_again z.rows) same ∙ s.runs.idle;
        grows = grows_goes header h outside doing past old new s.runs.grows goes;
      };
      used = whole.used;
      referred = whole.referred;
    }

-- what ends something runs nobody

ending_quiet : (e : Event) → IsEnding e → RunsNone e
ending_quiet (event.Dropped host object page) is = tt
ending_quiet (event.Sent (Up host object) (message.Return control page dirty keep bytes)) is = tt
ending_quiet (event.Sent (Up host object) (message.Terminate control)) is = tt
ending_quiet other is = absurd is

pub endings_quiet : (events : List Event) → EachOf IsEnding events → EachOf RunsNone events
endings_quiet [] all = tt
endings_quiet (e ∷ events) all = (ending_quiet e all.0, endings_quiet events all.1)

pub ends_nobody : (old new : WaitTable) (before after : List Event) → new ≡ old → EndsOnly before after → RunsNobody old.queue new.queue before after
ends_nobody old new before after same only =
    record { queue = ap (λ z. z.queue) same; more = only.more; told = only.is; none = endings_quiet only.more only.each }

pub ends_still : (old new : WaitTable) (before after : List Event) → new ≡ old → EndsOnly before after → QueueIsStill old.queue new.queue before after
ends_still old new before after same only =
    let nobody = ends_nobody old new before after same only in record {
      queue = nobody.queue;
      none = λ all. subst (EachOf RunsNone) (sym nobody.told) (of_both RunsNone nobody.more before nobody.none all);
    }

-- one stretch behind another
pub nobody_both : (a b c : List TaskId) (before mid after : List Event) → RunsNobody a b before mid → RunsNobody b c mid after → RunsNobody a c before after
nobody_both a b c before mid after one two =
    record {
      queue = two.queue ∙ one.queue;
      more = two.more ++ one.more;
      told = two.told ∙ (ap (λ z. two.more ++ z) one.told ∙ sym (append_assoc two.more one.more before));
      none = of_both RunsNone two.more one.more two.none one.none;
    }
