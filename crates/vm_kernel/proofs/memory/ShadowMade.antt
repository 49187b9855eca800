-- What a shadow leaves of the kernel, which a store's region gets first where that is marked.
use Rattle.vm_kernel.proofs.memory.CoreChanges.{pages_known_so}
use Rattle.vm_state.proofs.KnownPages.{object_few, sizes_shadowed}
use Rattle.vm_model.specs.Regions.{is_copy}
use Rattle.vm_state.proofs.PlainObjects.{unmade_plain}
use Rattle.vm_kernel.proofs.Common.{ChainTable, Command, Event, HasEntries, Header, HostParts, Ids, Inside, IsInside, List, Matches, None, ObjectId}
use Rattle.vm_kernel.proofs.Common.{ObjectTable, Outside, Parts, PutsObject, Region, RegionRow, SameMarks, Some, Works, [], ap, arith, false, has_region}
use Rattle.vm_kernel.proofs.Common.{home_of, if◌then◌else◌, inl, inr, is_some, is_woken, marks_of, next_object, next_region, object_at, one_case, pages_in}
use Rattle.vm_kernel.proofs.Common.{refl, region_at, region_pages, rows_in, rows_map, some_is, subst, sym, true, waiting, ℕ, ◌+◌, ◌-◌, ◌<◌, ◌==◌, ◌∙◌, ◌∷◌, ◌≡◌}
use Rattle.vm_kernel.proofs.Common.{◌≤◌, ◌⊎◌}
use Rattle.vm_kernel.proofs.space.DeclaredPages.{declared_shadowed}
use Rattle.vm_kernel.proofs.space.RegionsFilled.{shadowed_filled, unknown_unfilled}
use Rattle.vm_kernel.proofs.space.StillThin.{thin_shadowed}
use Rattle.vm_state.proofs.Filling.{copies_kept, rows_unmade}
use Rattle.vm_abroad.proofs.Home.{home_shadowed, named_objects, object_stays}
use Rattle.vm_base.specs.Limits.{most_objects}
use Rattle.vm_base.specs.declared.ids.RegionId.{RegionId}
use Rattle.vm_fault.specs.Faults.{FaultState, MakesShadow, has_one}
use Rattle.vm_fault.specs.Walks.{ChainsFit}
use Rattle.vm_model.specs.declared.event.Event.TheVariants as event
use Rattle.vm_parts.specs.Fits.{Fit}
use Rattle.vm_shadow.specs.Chains.{ObjectsBelow, ShadowsRegion}
use Rattle.vm_model.specs.Named.{named}
use Rattle.vm_legal.proofs.Served.{later_paged as paged_temporary}
use Rattle.vm_state.proofs.Declared.{kind_new, kinds_put, kinds_shadowed, marked_temporary}
use Rattle.vm_state.proofs.Files.{files_temporary}
use Rattle.vm_state.proofs.Marks.{marked_shadowed}
use Rattle.vm_state.proofs.Places.{waits_shadowed}
use Rattle.vm_state.proofs.Referred.{comes_served, referred_shadowed}
use Rattle.vm_state.proofs.Referring.{objects_below, small_region}
use Rattle.vm_state.proofs.Shadowing.{regions_shadowed}
use Rattle.vm_state.proofs.Told.{knows_made}
use Rattle.vm_supply.specs.declared.woken.Woken.TheVariants as woken
use Rattle.vm_kernel.proofs.space.TaskMade.{controls_made, new_object}
use Rattle.vm_kernel.proofs.controls.LockReplied.{replied_behind}
use Rattle.vm_kernel.proofs.memory.PlacesPassed.{fresh_away}
use Rattle.vm_kernel.proofs.space.RegionHomes.{homes_caused, homes_put}
use Rattle.vm_legal.specs.Licences.{Shadows}
use Rattle.vm_kernel.proofs.controls.FlagsKept.{flags_temporary}
use Rattle.vm_abroad.proofs.Home.{copy_made}
use Rattle.vm_state.proofs.CopyFits.{fits_new, fits_shadowed, plain_no_newest, unknown_plain}
use Rattle.vm_state.proofs.CopyObjects.{copies_new, temporary_uncopied}

-- each region is as it was, but for its top and its mark
pub record KeepsRegions (old new : ChainTable) : Type 0 where
  pub has : (r : ℕ) → has_region new r ≡ has_region old r
  pub pages : (r : ℕ) → region_pages new r ≡ region_pages old r
  pub row : (r : ℕ) (row : RegionRow) → region_at new r ≡ Some row → (was : RegionRow) × (region_at old r ≡ Some was) × (row.entries ≡ was.entries)

-- one region has another row, over as many pages and with as many entries
pub keeps_put : (region : ℕ) (row now : RegionRow) (old new : ChainTable) → region_at old region ≡ Some row
    → ((r : ℕ) → region_at new r ≡ (if region == r then Some now else region_at old r)) → now.pages ≡ row.pages → now.entries ≡ row.entries
    → KeepsRegions old new
keeps_put region row now old new there put pages entries =
    record {
      has = λ r. elim (cases r) [
        | inl this ↦ ap is_some this.1 ∙ sym (ap is_some (was r this.0))
        | inr other ↦ ap is_some other.1
      ];
      pages = λ r. elim (cases r) [
        | inl this ↦ ap pages_in this.1 ∙ (pages ∙ sym (ap pages_in (was r this.0)))
        | inr other ↦ ap pages_in other.1
      ];
      row = λ r found is. elim (cases r) [
        | inl this ↦ (row, was r this.0, ap (λ (z : RegionRow). z.entries) (some_is found now (sym is ∙ this.1)) ∙ entries)
        | inr other ↦ (found, sym other.1 ∙ is, refl)
      ];
    }
  where
    cases : (r : ℕ) → ((region ≡ r) × (region_at new r ≡ Some now)) ⊎ ((region ≡ r → ⊥) × (region_at new r ≡ region_at old r))
    cases r = one_case region r (Some now) (region_at old r) (region_at new r) (put r)

    was : (r : ℕ) → region ≡ r → region_at old r ≡ Some row
    was r same = subst (λ (z : ℕ). region_at old z ≡ Some row) same there

pub keeps_shadowed : (region : ℕ) (object : ObjectId) (row : RegionRow) (old new : ChainTable) → ShadowsRegion region object row old new
    → region_at old region ≡ Some row → KeepsRegions old new
keeps_shadowed region object row old new made there =
    keeps_put region row (record row { top = object; shift = 0; marked = false }) old new there made.at refl refl

-- the entries lie within their regions still, and are counted
pub entries_kept : (size : ℕ) (k : Parts) (new : ChainTable) → HasEntries size k.maps k.chains [] → KeepsRegions k.chains new → HasEntries size k.maps new []
entries_kept size k new has keeps =
    record {
      inside = λ task. rows_map (IsInside size k.chains) (IsInside size new)
          (λ row is. record {
            region = keeps.has row.region.0 ∙ is.region;
            some = is.some;
            below = is.below;
            inside = subst (λ (z : ℕ). Inside size z row) (sym (keeps.pages row.region.0)) is.inside;
          })
          (rows_in task k.maps) (has.inside task);
      known = tt;
      most = has.most;
      few = has.few;
      counts = λ r row is. let was = keeps.row r row is in was.2 ∙ has.counts r was.0 was.1;
    }

-- a region gets an object of its own, over its old top, which has another reference
pub shadowed_with : (header : Header) (h : ℕ) (outside : Outside) (doing : Command) (past : List Event) (k : Parts) (ids : Ids) (region : RegionId)
    (object : ObjectId) (row : RegionRow) (chains : ChainTable) (objects : ObjectTable) → Works header h k ids woken.Nobody past
    → region_at k.chains region.0 ≡ Some row → 0 < row.entries → row.marked ≡ true → has_one (object_at k.memory.objects row.top.0) ≡ false
    → object.0 ≡ ids.next_object
    → ShadowsRegion region.0 object row k.chains chains → PutsObject object.0 (Some (new_object row.pages)) k.memory.objects objects
    → SameMarks k.memory.objects objects → Fit (record k.memory { objects = objects }) → ChainsFit chains objects
    → Shadows header region.0 object.0 row.top.0 past
    → Works header h (record k { memory = record k.memory { objects = objects }; chains = chains })
    (record ids { next_object = ids.next_object + 1; marks = ids.marks - 1 }) woken.Nobody (event.Shadowed region object row.top ∷ past)
shadowed_with header h outside doing past k ids region object row chains objects works there counted marked shared next made put same fit fits cause =
    record {
      matches = record {
        core = record {
          setting = m.core.setting;
          calm = m.core.calm;
          fits = record { parts = fit; plain = m.core.fits.plain; buffers = m.core.fits.buffers };
          spaces = record {
            tasks = m.core.spaces.tasks;
            entries = entries_kept header.size k chains m.core.spaces.entries keeps;
            shared = m.core.spaces.shared;
            uses = m.core.spaces.uses;
            homes = homes_put header h k.chains chains region.0 (record row { top = object; shift = 0; marked = false }) (e ∷ past) made.at
                (λ paged. m.core.spaces.homes.0 region.0 row paged there) (homes_caused header outside h k.chains e past (doing, cause) m.core.spaces.homes);
          };
          objects = record {
            regions = regions_shadowed header past region object row (new_object row.pages) k.chains chains k.memory.objects objects ids
                (record ids { next_object = ids.next_object + 1; marks = ids.marks - 1 })
                (next_region header past) (next_object header past) (marks_of header past) (marks_of header (e ∷ past)) made there number refl put fits
                refl refl marks_now few_now m.core.objects.regions;
            kinds = kinds_shadowed header region.0 object row objects k.chains chains made there temporary new
                (kinds_put header object.0 (new_object row.pages) k.memory.objects objects k.chains put same
                (kind_new header object.0 (new_object row.pages) row.pages new refl) m.core.objects.kinds);
            files = files_temporary header h object.0 (Some (new_object row.pages)) k.memory.objects objects (λ o. home_of o past) new put m.core.objects.files;
            sizes = sizes_shadowed header past (named header) region object row.top (new_object row.pages) k.memory.objects objects put
                (let within = m.core.objects.regions.fits.tops region.0 row there in let most = object_few m.core.objects.sizes row.top.0 in omega
                (arith, within, most))
                (sym (ap (λ (z : Region). z.pages) (m.core.objects.regions.rows region.0 row there))) m.core.objects.sizes;
            undelayed = declared_shadowed header past region object row.top new m.core.objects.undelayed;
          };
          copied = record {
            known = copies_new object.0 (new_object row.pages) k.memory.objects objects put plain
                (λ f is. (let less = copy_made header f object.0 past m.core.spaces.homes.1 is in omega (arith, less, at_least))) m.core.copied.known;
            fits = fits_shadowed region.0 object row made
                (plain_no_newest object.0 m.core.copied.fits.living (unknown_plain object.0 m.core.copied.fits unknown))
                (fits_new object.0 (new_object row.pages) unknown
                (temporary_uncopied header h past object.0 m.core.copied.known m.core.spaces.homes.1 new) put refl m.core.copied.fits);
          };
          controls = controls_made k.memory.objects objects _ _ _ object.0 row.pages m.core.controls unknown put (λ o home. object_stays o h e past home)
              (home_shadowed h region object row.top past (m.core.spaces.homes.1.objects object.0 at_least)
              (m.core.spaces.homes.0 region.0 row (paged_temporary header region.0 temporary) there));
          flags = flags_temporary object.0 (Some (new_object row.pages)) new put m.core.flags;
          pages = pages_known_so same m.core.pages;
        };
        settled = record { none_owed = refl; shut = λ r. refl };
        replied = replied_behind tt m.replied;
      };
      used = record {
        regions = λ r found is. let was = keeps.row r found is in elim (works.used.regions r was.0 was.1) [
          | inl some ↦ inl (subst (λ (z : ℕ). 0 < z) (sym was.2) some)
          | inr filled ↦ inr filled
        ];
        copies =
            copies_kept k.maps k.maps k.chains chains k.memory.resident k.memory.resident works.used.copies
            (λ t w found. record { size = refl; entries = refl })
            (shadowed_filled region.0 object row k.chains chains there counted made
            (unknown_unfilled k.chains k.memory.objects object.0 m.core.objects.regions.tops unknown)) (rows_unmade k.chains k.memory.resident);
      };
      referred =
          referred_shadowed region.0 object row (new_object row.pages) k.chains chains k.memory.objects objects k.memory.resident made put (omega arith)
          (comes_served unknown) works.referred;
      thin =
          thin_shadowed region.0 object row (new_object row.pages) k.chains chains k.memory.objects objects there below shared made put works.thin;
      waits =
          waits_shadowed k.maps k.chains chains k.memory.resident k.memory.objects objects k.waits.rows (is_woken woken.Nobody) (λ u. waiting u past) region.0
          object row works.waits there made
          below
          (fresh_away header h k ids past m works.referred object new unknown)
          (knows_made k.memory.objects objects object.0 (new_object row.pages) unknown put)
          (temporary_uncopied header h past row.top.0 m.core.copied.known m.core.spaces.homes.1
          (m.core.objects.kinds.tops region.0 row temporary there));
      order = works.order;
    }
  where
    m : Matches header h k ids [] past
    m = works.matches

    e : Event
    e = event.Shadowed region object row.top

    number : object.0 ≡ next_object header past
    number = next ∙ m.core.objects.regions.object

    temporary : named header ≤ region.0
    temporary = marked_temporary m.core.objects.regions m.core.spaces.homes.1 region.0 row there marked

    new : named header ≤ object.0
    new = let more = named_objects header past in omega (arith, more, number)

    at_least : next_object header past ≤ object.0
    at_least = omega (arith, number)

    unknown : object_at k.memory.objects object.0 ≡ None
    unknown = m.core.objects.regions.unknown object.0 at_least

    plain : is_copy object.0 past ≡ false
    plain = unmade_plain object.0 past (m.core.spaces.homes.1.objects object.0 at_least)

    below : ObjectsBelow object.0 k.chains
    below = subst (λ (z : ℕ). ObjectsBelow z k.chains) (sym number) (objects_below m.core.objects.regions)

    keeps : KeepsRegions k.chains chains
    keeps = keeps_shadowed region.0 object row k.chains chains made there

    one_less : marks_of header (e ∷ past) + 1 ≡ marks_of header past
    one_less =
        marked_shadowed header past region object row.top (small_region m.core.objects.regions region.0 row there)
        (ap (λ (z : Region). z.mark) (m.core.objects.regions.rows region.0 row there) ∙ marked)

    marks_now : ids.marks - 1 ≡ marks_of header (e ∷ past)
    marks_now = omega (arith, one_less, m.core.objects.regions.marks)

    few_now : next_object header past + 1 + marks_of header (e ∷ past) ≤ most_objects
    few_now = let few = m.core.objects.regions.few in omega (arith, one_less, few)

pub works_shadowed : (header : Header) (h : ℕ) (outside : Outside) (doing : Command) (past : List Event) (k : Parts) (ids : Ids) (region : RegionId)
    (row : RegionRow) (old new : FaultState)
    → Works header h k ids woken.Nobody past → old.parts ≡ k.memory → old.chains ≡ k.chains → old.ids ≡ ids
    → region_at k.chains region.0 ≡ Some row → 0 < row.entries → row.marked ≡ true → (made : MakesShadow region row old new)
    → Shadows header region.0 made.object.0 row.top.0 past
    → Works header h (record k { memory = new.parts; chains = new.chains }) new.ids woken.Nobody (event.Shadowed region made.object row.top ∷ past)
works_shadowed header h outside doing past k ids region row old new works memory chains numbers there counted marked made cause =
    let e : Event = event.Shadowed region made.object row.top in
    let objects : ObjectTable = new.parts.objects in
    let parts : new.parts ≡ record k.memory { objects = objects } = made.parts ∙ ap (λ (z : HostParts). record z { objects = objects }) memory in
    let ids_now : new.ids ≡ record ids { next_object = ids.next_object + 1; marks = ids.marks - 1 } = made.ids
    ∙ ap (λ (z : Ids). record z { next_object = z.next_object + 1; marks = z.marks - 1 }) numbers in
    subst (λ (z : Ids). Works header h (record k { memory = new.parts; chains = new.chains }) z woken.Nobody (e ∷ past)) (sym ids_now)
    (subst (λ (z : HostParts). Works header h (record k { memory = z; chains = new.chains })
    (record ids { next_object = ids.next_object + 1; marks = ids.marks - 1 }) woken.Nobody (e ∷ past)) (sym parts)
    (shadowed_with header h outside doing past k ids region made.object row new.chains objects works there counted marked
    (subst (λ (z : HostParts). has_one (object_at z.objects row.top.0) ≡ false) memory made.shared)
    (made.next ∙ ap (λ (z : Ids). z.next_object) numbers)
    (subst (λ (z : ChainTable). ShadowsRegion region.0 made.object row z new.chains) chains made.chains)
    (subst (λ (z : HostParts). PutsObject made.object.0 (Some (new_object row.pages)) z.objects objects) memory made.objects)
    (subst (λ (z : HostParts). SameMarks z.objects objects) memory made.marks)
    (subst (λ (z : HostParts). Fit z) parts made.fit)
    made.fits cause))
