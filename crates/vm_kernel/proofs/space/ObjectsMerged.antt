-- An object is merged into its shadow inside a command's step: the kernel stands for the history with that told, and so it goes on until none can be merged.
use Rattle.std.proofs.Common.{List, None, Option, Some, [], ◌∷◌, ◌++◌, ◌∙◌, ◌≡◌, ◌<◌, ◌≤◌, ◌+◌, ℕ, ap, arith, false, inl, inr, refl, subst, sym, true}
use Rattle.std.proofs.lemmas.Bool.{cases_lt}
use Rattle.std.specs.Prelude.{is_some}
use Rattle.std.proofs.lemmas.Bool.Decides.{eqb_tells}
use Rattle.vm_base.specs.Limits.{most_pages}
use Rattle.vm_base.specs.declared.ids.ObjectId.{ObjectId}
use Rattle.vm_copies.specs.Copies.{CopyRow, CopyTable, copy_at}
use Rattle.vm_kernel.proofs.Common.{append_assoc, of_both}
use Rattle.vm_kernel.proofs.controls.LockReplied.{replied_behind}
use Rattle.vm_kernel.proofs.lists.ListsAsTold.{paging_in, plays_both, plays_told}
use Rattle.vm_kernel.proofs.lists.PagesJoined.{pages_join}
use Rattle.vm_kernel.proofs.space.NothingLeft.{regions_used, swept}
use Rattle.vm_kernel.proofs.space.ObjectEnds.{entries_kept, used_there}
use Rattle.vm_kernel.proofs.space.RegionHomes.{homes_caused}
use Rattle.vm_kernel.proofs.steps.EventsGrow.{grows_more, suffices}
use Rattle.vm_kernel.specs.Endings.{IsMerge, MergesOnly}
use Rattle.vm_kernel.specs.Fits.{IsPlainRow}
use Rattle.vm_kernel.specs.Matches.{Matches}
use Rattle.vm_kernel.specs.Plays.{Does, PagesJoin, Plays, Still}
use Rattle.vm_kernel.specs.Sweeping.{IsWhole, Sweeps}
use Rattle.vm_kernel.specs.declared.parts.Parts.{Parts}
use Rattle.vm_legal.specs.Frames.{frames_held, frames_wired, pages_gone, returns_out}
use Rattle.vm_legal.specs.Homes.{IsOnlyOfHost}
use Rattle.vm_legal.specs.Licences.{HasCause}
use Rattle.vm_legal.specs.Merges.{Merges}
use Rattle.vm_legal.specs.Outside.{Outside}
use Rattle.vm_merge.specs.Standing.{MayMerge}
use Rattle.vm_merge.specs.Merges.{CanMerge, IsThin, MergeInTurn, MergeState, MergesInto, NoneLeft, OneFirst}
use Rattle.vm_model.specs.Homes.{home_of, object_home}
use Rattle.vm_model.specs.Local.{is_on}
use Rattle.vm_model.specs.Named.{named}
use Rattle.vm_model.specs.Regions.{Backing, backing_of, is_copy, next_object, next_region, object_pages}
use Rattle.vm_model.specs.Waiting.{waiting}
use Rattle.vm_model.specs.declared.command.Command.{Command}
use Rattle.vm_model.specs.declared.event.Event.{Event}
use Rattle.vm_model.specs.declared.event.Event.TheVariants as event
use Rattle.vm_model.specs.declared.script.Header.{Header}
use Rattle.vm_objects.specs.Objects.{ObjectTable, object_at}
use Rattle.vm_objects.specs.declared.row.ObjectRow.{ObjectRow}
use Rattle.vm_parts.proofs.Rows.{some_is}
use Rattle.vm_parts.specs.Fits.{Fit, pages_of_row}
use Rattle.vm_parts.specs.Merging.{PagesMerge}
use Rattle.vm_parts.specs.declared.parts.HostParts.{HostParts}
use Rattle.vm_resident.specs.declared.page_row.PageRow.{PageRow}
use Rattle.vm_shadow.specs.Chains.{ChainTable}
use Rattle.vm_shadow.specs.declared.ids.Ids.{Ids}
use Rattle.vm_state.proofs.Declared.{shadow_temporary}
use Rattle.vm_state.proofs.FramesMerged.{frames_merged, held_merged, laundry_merged}
use Rattle.vm_state.proofs.KnownPages.{object_few}
use Rattle.vm_kernel.proofs.space.CopiesEnd.{copied_merged}
use Rattle.vm_state.proofs.MergedPages.{AreHere, all_here, here_untold, shown_merged}
use Rattle.vm_state.proofs.MergedWaits.{waits_merged}
use Rattle.vm_state.proofs.Merging.{controls_merged, files_merged, homes_merged, kinds_merged, merged_apart, never_told, pages_merged, regions_merged}
use Rattle.vm_state.proofs.Filling.{IsUnfilled}
use Rattle.vm_state.proofs.Moving.{Rose, RowWas, Stayed, referred_merged, row_was, upper_unfilled, used_merged}
use Rattle.vm_state.proofs.PagesMerged.{PagesMerged, claims_merged, here_at, tables_merged}
use Rattle.vm_state.proofs.Pairs.{KnowsPairs, merges_told}
use Rattle.vm_state.proofs.Referring.{sole_region, sole_shadow}
use Rattle.vm_state.proofs.Targets.{target_unshadowed}
use Rattle.vm_state.specs.Counts.{marks_of}
use Rattle.vm_state.specs.Merging.{MergesObjects}
use Rattle.vm_state.specs.Pagers.{has_pager, cached_in}
use Rattle.vm_state.specs.Waiters.{is_woken}
use Rattle.vm_supply.specs.declared.woken.Woken.TheVariants as woken
use Rattle.vm_terminate.specs.Finishes.{IsReferred}
use Rattle.vm_kernel.proofs.controls.FlagsKept.{flags_put}

-- the kernel with these parts and chains
abbrev pub with_state : Parts → MergeState → Parts
with_state k s = record k { memory = s.parts; chains = s.chains; copies = s.copies }

-- one merge, of a kernel that sweeps and has nothing left to sweep
module _ {header : Header} {h : ℕ} {outside : Outside} {doing : Command} {past : List Event} {ids : Ids} {upper lower : ObjectId} (k : Parts) (old : MergeState)
    (moved : HostParts) (os2 : ObjectTable) (cs2 : ChainTable) (sweeps : Sweeps header h outside doing past (with_state k old) ids [] old.events)
    (merges : MergesObjects upper.0 lower.0 old.chains cs2 old.copies old.parts.objects os2)
    (pages : PagesMerge upper lower merges.can.link.shift merges.can.upper_row.pages 0 old.parts moved) (same : moved.objects ≡ old.parts.objects)
    (fit : Fit (record moved { objects = os2 })) (buffers : moved.buffers ≡ old.parts.buffers) where
  m : Matches header h (with_state k old) ids [] (old.events ++ past)
  m = sweeps.runs.matches

  apart : upper.0 ≡ lower.0 → ⊥
  apart = merged_apart m.core.objects.regions.ranked merges.can

  temporary : named header ≤ upper.0
  temporary = shadow_temporary m.core.objects.regions m.core.spaces.homes.1 upper.0 merges.can.link merges.can.over

  home : object_home upper.0 (old.events ++ past) ≡ Some h
  home = m.core.controls.home upper.0 merges.can.upper_row temporary merges.can.upper_known

  here : AreHere old.parts.resident upper.0 lower.0
  here = all_here m.core.objects.kinds temporary sweeps.referred sweeps.runs.waits.ready merges.can

  tables : PagesMerged upper.0 lower.0 merges.can.link.shift merges.can.upper_row.pages old.parts moved
  tables = tables_merged upper lower merges.can.link.shift merges.can.upper_row.pages 0 old.parts moved apart (λ p small. absurd (omega (arith, small))) pages

  whole : IsWhole header h woken.Nobody (with_state k old) ids [] (old.events ++ past)
  whole = record {
    runs = record { matches = m; waits = sweeps.runs.waits; order = sweeps.runs.order };
    used = sweeps.used;
    referred = sweeps.referred;
  }

  knows : KnowsPairs header h old.chains old.copies old.parts.objects ids (next_region header (old.events ++ past)) (next_object header (old.events ++ past))
      (marks_of header (old.events ++ past)) (old.events ++ past)
  knows = record {
    regions = m.core.objects.regions;
    kinds = m.core.objects.kinds;
    homes = m.core.spaces.homes.1;
    last = m.core.controls.last;
    shadows = sweeps.referred.shadows;
    all = λ r row least found. regions_used header h (with_state k old) ids (old.events ++ past) whole r row least found;
    there = λ r least used. used_there header h (with_state k old) ids [] (old.events ++ past) r m sweeps.used.copies least used;
    copies = λ o row found some. m.core.copied.known.are o (record { row = row; known = found; some = some });
  }

  cause : ((u l : ℕ) → CanMerge old.copies old.chains old.parts.objects u l → lower.0 ≤ l) → Merges header upper.0 lower.0 (old.events ++ past)
  cause least =
      merges_told knows (λ o row less found. m.core.controls.home o row less found) (swept header h (with_state k old) ids (old.events ++ past) whole) upper.0
      lower.0
      merges.can least

  -- The upper is no copy object: a copy stands on a declared object or another copy, and the lower is neither.
  plain_upper : copy_at old.copies upper.0 ≡ None
  plain_upper = by (copy_at old.copies upper.0) refl
    where
      below : (backing_of header upper.0 (old.events ++ past)).under ≡ lower.0
      below =
          ap (λ (z : Backing). z.under) (m.core.objects.regions.shadows upper.0 merges.can.link merges.can.over) ∙ merges.can.under

      no_copy : is_copy lower.0 (old.events ++ past) ≡ false
      no_copy =
          let sole = merges.can.sole in
          knows.copies lower.0 merges.can.lower_row merges.can.lower_known (omega (arith, sole)) ∙ ap is_some merges.can.plain

      by : (x : Option CopyRow) → copy_at old.copies upper.0 ≡ x → x ≡ None
      by None is = refl
      by (Some row) is = elim (m.core.spaces.homes.1.lined upper.0 (m.core.copied.known.copy upper.0 row is)).over [
        | inl low ↦
            let number = ((m.core.objects.kinds.kinds lower.0 merges.can.lower_row merges.can.lower_known).declared (omega (arith, low, below))).number in
            let never = merges.can.lower_never in
            absurd (omega (arith, number, never))
        | inr copy ↦
            absurd (let bad : false ≡ true = sym no_copy ∙ (ap (λ z. is_copy z (old.events ++ past)) (sym below) ∙ copy) in cc)
      ]

  plain_row : (o p : ℕ) (row : PageRow)
      → RowWas upper.0 lower.0 merges.can.link.shift merges.can.upper_row.pages old.parts.resident o p row → row.here ≡ false → IsPlainRow row
  plain_row o p row (Stayed off was) away = m.core.fits.plain o p row was away
  plain_row o p row (Rose same none less was) away = m.core.fits.plain lower.0 (merges.can.link.shift + p) row was away

  own : IsOnlyOfHost header h (event.Merged upper lower) (old.events ++ past)
  own g on = elim (eqb_tells h g) [
    | inl same ↦ sym same.1
    | inr other ↦ absurd (let bad : false ≡ true = sym other.0 ∙ (ap (is_on g) (sym home) ∙ on) in cc)
  ]

  matches_now : HasCause header outside (event.Merged upper lower) (old.events ++ past)
      → Matches header h (record k { memory = record moved { objects = os2 }; chains = cs2; copies = old.copies }) ids []
      (event.Merged upper lower ∷ (old.events ++ past))
  matches_now why = record {
    core = record {
      setting = m.core.setting;
      calm = m.core.calm;
      fits = record {
        parts = fit;
        plain = λ o p row found away. plain_row o p row (row_was apart tables.rows o p row found) away;
        buffers = ap (λ z. z.size) buffers ∙ m.core.fits.buffers;
      };
      spaces = record {
        tasks = m.core.spaces.tasks;
        entries = entries_kept header.size k.maps old.chains cs2 [] (λ r. ap (λ f. f r) merges.chain.regions) m.core.spaces.entries;
        shared = m.core.spaces.shared;
        uses = m.core.spaces.uses;
        homes = homes_caused header outside h cs2 (event.Merged upper lower) (old.events ++ past) why (
          homes_merged header h upper.0 lower.0 old.chains cs2 old.parts.objects os2 (λ r. home_of r (old.events ++ past)) merges m.core.spaces.homes.0,
          m.core.spaces.homes.1,
        );
      };
      objects = record {
        regions = regions_merged header (old.events ++ past) upper lower old.chains cs2 old.parts.objects os2 ids _ _ _ merges m.core.objects.regions;
        kinds = kinds_merged header upper.0 lower.0 old.chains cs2 old.parts.objects os2 merges m.core.objects.kinds;
        files = files_merged header h upper.0 lower.0 old.chains cs2 old.parts.objects os2 (λ o. home_of o (old.events ++ past)) merges m.core.objects.files;
        sizes =
            pages_merged (named header) upper.0 lower.0 old.chains cs2 old.parts.objects os2 (λ o. object_pages header o (old.events ++ past)) merges
            m.core.objects.sizes;
        undelayed = m.core.objects.undelayed;
      };
      copied =
          let now = copied_merged upper lower os2 merges pages same plain_upper m.core.copied in record { known = now.known; fits = now.fits };
      controls = controls_merged upper.0 lower.0 old.chains cs2 old.parts.objects os2 merges m.core.controls;
      flags = flags_put lower.0 (record merges.can.lower_row { references = 0 }) merges.object (ap cached_in merges.can.lower_known) m.core.flags;
      pages = record {
        shown = shown_merged header h (old.events ++ past) upper lower old.chains cs2 old.parts.objects os2 old.parts.resident moved.resident old.parts.frames
            moved.frames merges tables.rows (record { at = λ o p row found. tables.bytes row.frame.0 }) m.core.objects.regions m.core.objects.kinds
            m.core.spaces.homes.1 m.core.objects.sizes home here
            m.core.fits.parts.inside m.core.pages.shown;
        washed =
            laundry_merged upper lower merges.can.link.shift merges.can.upper_row.pages 0 old.parts moved k.laundry (returns_out h (old.events ++ past)) apart
            m.core.fits.parts.owned pages tables m.core.pages.washed;
        counted = frames_merged (frames_held header h (old.events ++ past)) (frames_held header h (event.Merged upper lower ∷ (old.events ++ past)))
            (frames_wired h (old.events ++ past))
            (pages_gone (here_at old.parts.resident) upper.0 lower.0 merges.can.link.shift merges.can.upper_row.pages merges.can.lower_row.pages) old.parts
            moved
            tables
            (claims_merged upper lower merges.can.link.shift merges.can.upper_row.pages 0 merges.can.lower_row.pages old.parts moved apart
            (λ p small. absurd (omega (arith, small)))
            (λ p row found. subst (λ (z : ℕ). p < z) (ap pages_of_row merges.can.lower_known) (m.core.fits.parts.inside lower.0 p row found)) here pages)
            (held_merged header h (old.events ++ past) upper lower old.chains old.parts.objects old.parts.resident old.parts.frames merges.can
            m.core.objects.regions m.core.objects.kinds
            m.core.spaces.homes.1 m.core.objects.sizes home m.core.pages.shown) m.core.pages.counted;
      };
    };
    settled = record { none_owed = refl; shut = λ region. refl };
    replied = replied_behind tt m.replied;
  }

  unfilled : IsUnfilled old.chains upper.0
  unfilled =
      upper_unfilled upper.0 merges.can.link merges.can.over
      (λ t w target found is. target_unshadowed (old.events ++ past) m.core.objects.regions m.core.spaces.homes.1 t target is) sweeps.used

  pub sweeps_now : ((u l : ℕ) → CanMerge old.copies old.chains old.parts.objects u l → lower.0 ≤ l)
      → Sweeps header h outside doing past (record k { memory = record moved { objects = os2 }; chains = cs2; copies = old.copies }) ids []
      (event.Merged upper lower ∷ old.events)
  sweeps_now least =
      let after = matches_now (doing, cause least) in
      record {
        runs = record {
          begins = sweeps.runs.begins;
          matches = after;
          waits =
              waits_merged header h (old.events ++ past) upper lower k.maps old.chains cs2 old.parts.objects os2 old.parts.resident moved.resident k.waits.rows
              (is_woken woken.Nobody) (λ task. waiting task (old.events ++ past)) merges tables.rows m.core.objects.regions m.core.objects.kinds
              m.core.spaces.homes.1 sweeps.referred m.core.objects.sizes home
              (λ why. refl) sweeps.runs.waits;
          order = sweeps.runs.order;
          idle = sweeps.runs.idle;
          grows =
              grows_more header h outside doing past old.events (event.Merged upper lower) sweeps.runs.grows m.settled (record {
                consequence = tt;
                cause = cause least;
                own_bytes = tt;
                frames = suffices header h moved.frames (event.Merged upper lower ∷ (old.events ++ past)) after.core.pages.counted;
                inner = tt;
                said = tt;
                own = own;
                creates = tt;
              });
        };
        used =
            used_merged upper.0 lower.0 merges.can.link.shift merges.can.upper_row.pages old.chains cs2 old.parts.objects os2 old.parts.resident moved.resident
            merges tables.rows m.core.objects.regions.ranked unfilled sweeps.used;
        referred =
            referred_merged header upper.0 lower.0 merges.can.link.shift merges.can.upper_row.pages old.chains cs2 old.parts.objects os2 old.parts.resident
            moved.resident merges tables.rows m.core.objects.regions.ranked m.core.objects.kinds sweeps.referred;
      }

-- one after the other, until none can be

pub one_merged : {header : Header} {h : ℕ} {outside : Outside} {doing : Command} {past : List Event} {ids : Ids} (k : Parts) (upper lower : ObjectId)
    (old new : MergeState) → Sweeps header h outside doing past (with_state k old) ids [] old.events → MergesInto upper lower old new → Fit new.parts
    → new.parts.buffers ≡ old.parts.buffers → Sweeps header h outside doing past (with_state k new) ids [] new.events
one_merged {header = header} {h = h} {outside = outside} {doing = doing} {past = past} {ids = ids} k upper lower old new sweeps merges fit buffers =
    subst (λ (z : CopyTable). Sweeps header h outside doing past (record k { memory = new.parts; chains = new.chains; copies = z }) ids [] new.events)
    (sym merges.copied)
    (subst (λ (z : HostParts). Sweeps header h outside doing past (record k { memory = z; chains = new.chains; copies = old.copies }) ids [] new.events)
    (sym merges.rest)
    (subst (λ (z : List Event). Sweeps header h outside doing past (record k {
      memory = record merges.moved { objects = new.parts.objects };
      chains = new.chains;
      copies = old.copies;
    }) ids [] z) (sym merges.told)
    (sweeps_now k old merges.moved new.parts.objects new.chains sweeps (record {
      can = merges.can;
      chain = merges.chain;
      object = merges.object;
      marks = merges.marks;
    }) merges.pages merges.same
    (subst Fit merges.rest fit) (sym (ap (λ (z : HostParts). z.buffers) merges.rest) ∙ buffers) merges.least)))

-- what it does to the lists of pages
one_does : {header : Header} {h : ℕ} {outside : Outside} {doing : Command} {past : List Event} {ids : Ids} (k : Parts) (upper lower : ObjectId)
    (old new : MergeState) → Sweeps header h outside doing past (with_state k old) ids [] old.events → MergesInto upper lower old new
    → Does header (old.events ++ past) (event.Merged upper lower) (paging_in old.parts) (paging_in new.parts)
one_does {header = header} {past = past} k upper lower old new sweeps merges =
    let m = sweeps.runs.matches in
    let can = merges.can in
    let temporary = shadow_temporary m.core.objects.regions m.core.spaces.homes.1 upper.0 can.link can.over in
    subst (λ (z : HostParts). Does header (old.events ++ past) (event.Merged upper lower) (paging_in old.parts) (paging_in z)) (sym merges.rest)
    (subst (λ (n : ℕ). PagesJoin upper.0 lower.0 n (object_pages header upper.0 (old.events ++ past)) 0 (paging_in old.parts) (paging_in merges.moved))
    (sym (ap (λ (z : Backing). z.shift) (m.core.objects.regions.shadows upper.0 can.link can.over)))
    (subst (λ (n : ℕ). PagesJoin upper.0 lower.0 can.link.shift n 0 (paging_in old.parts) (paging_in merges.moved))
    (m.core.objects.sizes.at upper.0 can.upper_row temporary can.upper_known)
    (pages_join upper lower can.link.shift can.upper_row.pages 0 old.parts merges.moved (merged_apart m.core.objects.regions.ranked can)
    (all_here m.core.objects.kinds temporary sweeps.referred sweeps.runs.waits.ready can) merges.pages)))

-- what has happened once none can be merged any more
pub record AllMerged (header : Header) (h : ℕ) (outside : Outside) (doing : Command) (past : List Event) (k : Parts) (ids : Ids) (old new : MergeState) : Type 0
  where
    pub sweeps : Sweeps header h outside doing past (with_state k new) ids [] new.events
    pub thin : IsThin new.copies new.chains new.parts.objects
    pub plays : Plays header past old.events (paging_in old.parts) new.events (paging_in new.parts)
    pub only : MergesOnly old.events new.events

pub all_merged : {header : Header} {h : ℕ} {outside : Outside} {doing : Command} {past : List Event} {ids : Ids} (k : Parts) (old new : MergeState)
    → MergeInTurn old new → Sweeps header h outside doing past (with_state k old) ids [] old.events
    → AllMerged header h outside doing past k ids old new
all_merged k old new (NoneLeft _ thin) sweeps =
    record { sweeps = sweeps; thin = thin; plays = Still; only = record { more = []; is = refl; each = tt } }
all_merged k old new (OneFirst upper lower _ mid _ merges fit buffers more) sweeps =
    let rest = all_merged k mid new more (one_merged k upper lower old mid sweeps merges fit buffers) in
    record {
      sweeps = rest.sweeps;
      thin = rest.thin;
      plays = plays_both (plays_told merges.told (one_does k upper lower old mid sweeps merges)) rest.plays;
      only = record {
        more = rest.only.more ++ event.Merged upper lower ∷ [];
        is = rest.only.is ∙ (ap (λ z. rest.only.more ++ z) merges.told ∙ sym (append_assoc rest.only.more (event.Merged upper lower ∷ []) old.events));
        each = of_both IsMerge rest.only.more (event.Merged upper lower ∷ []) rest.only.each (tt, tt);
      };
    }

-- such a kernel may merge

pub may_merge : {header : Header} {h : ℕ} {outside : Outside} {doing : Command} {past : List Event} {ids : Ids} (k : Parts) (events : List Event)
    → Sweeps header h outside doing past k ids [] events → MayMerge most_pages k.memory k.chains k.copies
may_merge {header = header} {h = h} {past = past} {ids = ids} k events sweeps =
    record {
      fit = m.core.fits.parts;
      here = λ o known found never p row there. here_untold k.memory.resident k.memory.objects o known found
          (quiet o known found never (elim (cases_lt o (named header)) [
            | inl declared ↦ absurd (let number = ((m.core.objects.kinds.kinds o known found).declared declared).number in omega (arith, number, never))
            | inr least ↦ least
          ]) (sweeps.referred.pages o p row there)) sweeps.runs.waits.ready p row there;
      most = object_few m.core.objects.sizes;
      few = omega arith;
      shadows = m.core.objects.regions.fits.unders;
      counts = λ u l can. record {
        bare = λ r row found top. sole_region m.core.objects.regions l can.lower_row can.lower_known can.sole u can.link can.over can.under r row found top;
        shadows =
            λ o row found under. sole_shadow m.core.objects.regions l can.lower_row can.lower_known can.sole u can.link can.over can.under o row found under;
      };
    }
  where
    m : Matches header h k ids [] (events ++ past)
    m = sweeps.runs.matches

    quiet : (o : ℕ) (known : ObjectRow) → object_at k.memory.objects o ≡ Some known → known.control ≡ 0 → named header ≤ o → IsReferred k.memory.objects o
        → has_pager known.state ≡ false
    quiet o known found never least referred =
        never_told header o known least (m.core.objects.kinds.kinds o known found)
        (subst (λ (z : ObjectRow). 0 < z.references) (some_is referred.row known (sym referred.known ∙ found)) referred.some) never
