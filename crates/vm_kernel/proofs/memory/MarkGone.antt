-- What is left of the kernel where a store's region loses its mark.
use Rattle.vm_kernel.proofs.Common.{ChainTable, Command, Event, Header, HostParts, Ids, List, Matches, ObjectTable, Outside, Parts, Region, RegionRow, Some}
use Rattle.vm_kernel.proofs.Common.{Works, [], ap, arith, false, inl, inr, is_woken, marks_of, next_object, next_region, refl, region_at, subst, sym, true}
use Rattle.vm_kernel.proofs.Common.{waiting, ℕ, ◌+◌, ◌-◌, ◌<◌, ◌∙◌, ◌∷◌, ◌≡◌}
use Rattle.vm_kernel.proofs.controls.LockReplied.{replied_behind}
use Rattle.vm_kernel.proofs.memory.ShadowMade.{KeepsRegions, entries_kept, keeps_put}
use Rattle.vm_kernel.proofs.space.RegionsFilled.{unmarked_filled}
use Rattle.vm_kernel.proofs.space.StillThin.{thin_chains}
use Rattle.vm_kernel.proofs.space.RegionHomes.{homes_caused, homes_put}
use Rattle.vm_legal.specs.Licences.{Unmarks}
use Rattle.vm_base.specs.declared.ids.RegionId.{RegionId}
use Rattle.vm_fault.specs.Faults.{FaultState, LosesMark}
use Rattle.vm_fault.specs.Walks.{ChainsFit}
use Rattle.vm_model.specs.declared.event.Event.TheVariants as event
use Rattle.vm_shadow.specs.Chains.{PutsRegion}
use Rattle.vm_state.proofs.CopyFits.{fits_region}
use Rattle.vm_state.proofs.Filling.{copies_kept, rows_unmade}
use Rattle.vm_state.proofs.Marks.{marked_unmarked}
use Rattle.vm_state.proofs.Referring.{small_region}
use Rattle.vm_state.proofs.Unmarking.{kinds_unmarked, referred_unmarked, regions_unmarked, waits_unmarked}
use Rattle.vm_supply.specs.declared.woken.Woken.TheVariants as woken

keeps_unmarked : (region : ℕ) (row : RegionRow) (old new : ChainTable) → PutsRegion region (Some (record row { marked = false })) old new
    → region_at old region ≡ Some row → KeepsRegions old new
keeps_unmarked region row old new put there = keeps_put region row (record row { marked = false }) old new there put.at refl refl

-- nothing but the mark and its count changes
unmarked_with : (header : Header) (h : ℕ) (outside : Outside) (doing : Command) (past : List Event) (k : Parts) (ids : Ids) (region : RegionId)
    (row : RegionRow) (chains : ChainTable)
    → Works header h k ids woken.Nobody past → region_at k.chains region.0 ≡ Some row → 0 < row.entries → row.marked ≡ true
    → PutsRegion region.0 (Some (record row { marked = false })) k.chains chains → ChainsFit chains k.memory.objects → Unmarks header region.0 past
    → Works header h (record k { chains = chains }) (record ids { marks = ids.marks - 1 }) woken.Nobody (event.Unmarked region ∷ past)
unmarked_with header h outside doing past k ids region row chains works there counted marked put fits cause =
    record {
      matches = record {
        core = record {
          setting = m.core.setting;
          calm = m.core.calm;
          fits = m.core.fits;
          spaces = record {
            tasks = m.core.spaces.tasks;
            entries = entries_kept header.size k chains m.core.spaces.entries keeps;
            shared = m.core.spaces.shared;
            uses = m.core.spaces.uses;
            homes =
                homes_put header h k.chains chains region.0 (record row { marked = false }) (e ∷ past) put.at
                (λ paged. m.core.spaces.homes.0 region.0 row paged there)
                (homes_caused header outside h k.chains e past (doing, cause) m.core.spaces.homes);
          };
          objects = record {
            regions =
                regions_unmarked header past region row k.chains chains k.memory.objects ids (record ids { marks = ids.marks - 1 }) (next_region header past)
                (next_object header past) (marks_of header past) (marks_of header (e ∷ past)) put there fits refl refl marks_now (omega (arith, one_less))
                m.core.objects.regions;
            kinds = kinds_unmarked header region.0 row k.memory.objects k.chains chains put there m.core.objects.kinds;
            files = m.core.objects.files;
            sizes = m.core.objects.sizes;
            undelayed = m.core.objects.undelayed;
          };
          copied = record { known = m.core.copied.known; fits = fits_region region.0 _ put m.core.copied.fits };
          controls = m.core.controls;
          flags = m.core.flags;
          pages = m.core.pages;
        };
        settled = record { none_owed = refl; shut = λ r. refl };
        replied = replied_behind tt m.replied;
      };
      used = record {
        regions = λ r found is. let was = keeps.row r found is in elim (works.used.regions r was.0 was.1) [
          | inl some ↦ inl (subst (λ (z : ℕ). 0 < z) (sym was.2) some)
          | inr filled ↦ inr filled
        ];
        copies =
            copies_kept k.maps k.maps k.chains chains k.memory.resident k.memory.resident works.used.copies
            (λ t w found. record { size = refl; entries = refl }) (unmarked_filled region.0 row k.chains chains there counted put)
            (rows_unmade k.chains k.memory.resident);
      };
      referred = referred_unmarked region.0 row k.chains chains k.memory.objects k.memory.resident put works.referred;
      thin = thin_chains k.chains chains k.memory.objects (λ o. ap (λ z. z o) put.shadows) works.thin;
      waits =
          waits_unmarked k.maps k.chains chains k.memory.resident k.memory.objects k.waits.rows (is_woken woken.Nobody) (λ u. waiting u past) region.0 row
          works.waits there put;
      order = works.order;
    }
  where
    m : Matches header h k ids [] past
    m = works.matches

    e : Event
    e = event.Unmarked region

    keeps : KeepsRegions k.chains chains
    keeps = keeps_unmarked region.0 row k.chains chains put there

    one_less : marks_of header (e ∷ past) + 1 ≡ marks_of header past
    one_less =
        marked_unmarked header past region (small_region m.core.objects.regions region.0 row there)
        (ap (λ (z : Region). z.mark) (m.core.objects.regions.rows region.0 row there) ∙ marked)

    marks_now : ids.marks - 1 ≡ marks_of header (e ∷ past)
    marks_now = omega (arith, one_less, m.core.objects.regions.marks)

pub works_unmarked : (header : Header) (h : ℕ) (outside : Outside) (doing : Command) (past : List Event) (k : Parts) (ids : Ids) (region : RegionId)
    (row : RegionRow) (old new : FaultState)
    → Works header h k ids woken.Nobody past → old.parts ≡ k.memory → old.chains ≡ k.chains → old.ids ≡ ids
    → region_at k.chains region.0 ≡ Some row → 0 < row.entries → row.marked ≡ true → LosesMark region row old new → Unmarks header region.0 past
    → Works header h (record k { memory = new.parts; chains = new.chains }) new.ids woken.Nobody (event.Unmarked region ∷ past)
works_unmarked header h outside doing past k ids region row old new works memory chains numbers there counted marked loses cause =
    let e : Event = event.Unmarked region in
    let parts : new.parts ≡ k.memory = loses.parts ∙ memory in
    let ids_now : new.ids ≡ record ids { marks = ids.marks - 1 } = loses.ids ∙ ap (λ (z : Ids). record z { marks = z.marks - 1 }) numbers in
    subst (λ (z : Ids). Works header h (record k { memory = new.parts; chains = new.chains }) z woken.Nobody (e ∷ past)) (sym ids_now)
    (subst (λ (z : HostParts). Works header h (record k { memory = z; chains = new.chains }) (record ids { marks = ids.marks - 1 }) woken.Nobody (e ∷ past))
    (sym parts)
    (unmarked_with header h outside doing past k ids region row new.chains works there counted marked
    (subst (λ (z : ChainTable). PutsRegion region.0 (Some (record row { marked = false })) z new.chains) chains loses.chains)
    (subst (λ (z : ObjectTable). ChainsFit new.chains z) (ap (λ (z : HostParts). z.objects) parts) loses.fits) cause))
