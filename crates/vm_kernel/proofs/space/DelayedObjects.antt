-- A file gets a copy object: what the tables stand for of kinds, pages, controls, copies and accesses that wait.
use Rattle.vm_kernel.proofs.Common.{Access, AllReferred, Bool, ChainTable, Event, Fit, HasControls, HasKinds, HasWaiters, Header, HostParts, IsReferred, IsSome}
use Rattle.vm_kernel.proofs.Common.{List, Mapped, None, ObjectId, ObjectRow, ObjectTable, On, Option, PageKey, PageRow, RegionId, RegionRow, ResidentTable}
use Rattle.vm_kernel.proofs.Common.{SameMarks, ShadowRow, Some, Waiting, ap, arith, fit_within, if_true, if◌then◌else◌, inl, inr, is_some, named, object_at}
use Rattle.vm_kernel.proofs.Common.{object_pages, one_case, pages_of_row, refl, region_at, row_at, shadow_at, some_is, subst, sym, true, ℕ, ◌+◌, ◌<◌, ◌∙◌, ◌∷◌}
use Rattle.vm_kernel.proofs.Common.{◌≡◌, ◌≤◌, ◌⊎◌}
use Rattle.vm_copies.specs.Copies.{ClearsHad, CopyRow, CopyTable, PutsCopy, PutsNewest, copy_at, newest_at}
use Rattle.vm_fault.specs.Pushes.{CopiesFit}
use Rattle.vm_kernel.proofs.controls.FlagsKept.{flags_put, flags_temporary}
use Rattle.vm_kernel.proofs.space.CopyObjectMade.{stands_regions}
use Rattle.vm_kernel.proofs.space.DelayedTables.{DelaysFile, OfCopy, OfOlder, OfOther, UnderNow, copy_apart, copy_known, copy_pages, copy_referred, older_apart}
use Rattle.vm_kernel.proofs.space.DelayedTables.{pages_behind, put_copy, referred_behind, refers_again, refers_to, under_now, with_copy}
use Rattle.vm_kernel.proofs.space.RegionEnds.{controls_referred}
use Rattle.vm_kernel.proofs.space.TaskMade.{controls_made}
use Rattle.vm_kernel.specs.Delaying.{OnFile, Stands, Under, copy_row}
use Rattle.vm_kernel.specs.Matches.{Copied, ObjectFacts}
use Rattle.vm_legal.specs.Outside.{is_file}
use Rattle.vm_merge.specs.Merges.{IsThin}
use Rattle.vm_shadow.specs.Chains.{Rebases}
use Rattle.vm_state.proofs.CopyFits.{begun_older, fits_begun, fits_new, fits_put, fits_rebased, plain_no_newest, unknown_plain, unknown_uncopied}
use Rattle.vm_state.proofs.Referring.{row_of}
use Rattle.vm_state.proofs.CopyObjects.{BeginsCopy, IsNewCopy, copies_begun, copies_put}
use Rattle.vm_state.proofs.Declared.{kind_new, kind_referred, kinds_put, kinds_rebased}
use Rattle.vm_state.proofs.Files.{files_put, files_temporary}
use Rattle.vm_state.proofs.Filling.{KeepsFilled, top_unfilled}
use Rattle.vm_state.proofs.Fresh.{other_test, same_test, some_apart}
use Rattle.vm_state.proofs.Knowing.{known_cases}
use Rattle.vm_state.proofs.KnownPages.{sizes_new, sizes_put}
use Rattle.vm_state.proofs.Owing.{waits_copied}
use Rattle.vm_state.proofs.Pushing.{PushesNone}
use Rattle.vm_state.proofs.Rebased.{waits_rebased}
use Rattle.vm_state.proofs.Referred.{comes_served, referred_chains, referred_known, stays_served}
use Rattle.vm_state.proofs.Told.{knows_made, waits_known, waits_referred}
use Rattle.vm_state.proofs.Waited.{KeepsPlaces, waits_kept}
use Rattle.vm_state.specs.Filling.{filled_row}
use Rattle.vm_state.specs.Pagers.{cached_in}
use Rattle.vm_state.specs.Passed.{Unmet}
use Rattle.vm_state.specs.Stands.{HasFlags, IsUnderKind, KnowsFiles, KnowsPages}
use Rattle.vm_model.specs.Regions as R
use Rattle.vm_model.specs.declared.event.Event.TheVariants as event

-- an object was known, and is it but for its references; if it is no file's, for nothing
record WasKnown (file : ℕ) (objects : ObjectTable) (x : ℕ) (now : ObjectRow) : Type 0 where
  was : ObjectRow
  known : object_at objects x ≡ Some was
  control : now.control ≡ was.control
  same : (file ≡ x) ⊎ (now ≡ was)

refers_other : (file copy : ObjectId) (older : Option ObjectId) (x : ℕ) → refers_to file copy older ≡ x → (copy.0 ≡ x → ⊥) → file.0 ≡ x
refers_other file copy None x same apart = same
refers_other file copy (Some older) x same apart = absurd (apart same)

-- an object that stood on nothing stands on a file now: all else stands on what it stood on
keeps_stood : {file copy : ObjectId} {cs cs2 : ChainTable} → Rebases copy.0 file cs cs2 → shadow_at cs copy.0 ≡ None → KeepsPlaces cs cs2
keeps_stood {file = file} {copy = copy} {cs = cs} {cs2 = cs2} stands none =
    record {
      tops = λ r row found. record { row_now = row; found = ap (λ f. f r) stands.regions ∙ found; top = refl; shift = refl };
      shadows = λ o shadow found. elim (one_case copy.0 o (Some (record { under = file; shift = 0 })) (shadow_at cs o) (shadow_at cs2 o) (stands.at o)) [
        | inl this ↦ absurd (let bad : None ≡ Some shadow = sym none ∙ (ap (shadow_at cs) this.0 ∙ found) in cc)
        | inr other ↦ other.1 ∙ found
      ];
    }

module _ {file copy : ObjectId} {row : ObjectRow} {older : Option ObjectId} {newest : Option ℕ} {cs cs2 : ChainTable} {os os2 : ObjectTable}
    (d : DelaysFile file copy row older newest cs os) (s : Stands file copy row cs cs2 os os2 older) where
  was_known : (x : ℕ) (now : ObjectRow) → (copy.0 ≡ x → ⊥) → object_at os2 x ≡ Some now → WasKnown file.0 os x now
  was_known x now apart found =
      let again = refers_again d s in
      elim (known_cases (refers_to file copy older) (record again.row { references = again.row.references + 1 }) (with_copy copy row os) os2 again.put x) [
        | inl this ↦
            let is : record again.row { references = again.row.references + 1 } ≡ now = some_is _ now (sym this.1 ∙ found) in
            record {
              was = again.row;
              known = sym still ∙ (ap (object_at (with_copy copy row os)) (sym this.0) ∙ again.known);
              control = sym (ap (λ (z : ObjectRow). z.control) is);
              same = inl (refers_other file copy older x this.0 apart);
            }
        | inr other ↦ record { was = now; known = sym still ∙ (sym other.1 ∙ found); control = refl; same = inr refl }
      ]
    where
      still : object_at (with_copy copy row os) x ≡ object_at os x
      still = ap (λ b. if b then Some (copy_row row 1) else object_at os x) (other_test copy.0 x apart)

  -- the file has a control still
  file_controlled : (now : ObjectRow) (x : ℕ) → file.0 ≡ x → object_at os2 x ≡ Some now → now.control ≡ row.control
  file_controlled now x same found =
      let was = was_known x now (λ e. copy_apart d s (e ∙ sym same)) found in
      was.control ∙ ap (λ (z : ObjectRow). z.control) (some_is was.was row (sym was.known ∙ (ap (object_at os) (sym same) ∙ d.known)))

  -- no pair of objects can be merged: of the new ones the lower is a file, or a copy object
  pub thin_delayed : {copies copies2 : CopyTable} {its : CopyRow} → PutsCopy copy.0 (Some its) copies copies2 → 0 < row.control
      → ((o : ℕ) (shadow : ShadowRow) → shadow_at cs o ≡ Some shadow → IsSome (object_at os o) × IsSome (object_at os shadow.under.0))
      → IsThin copies cs os → IsThin copies2 cs2 os2
  thin_delayed {copies = copies} {copies2 = copies2} {its = its} put controlled unders thin u l can = by (under_now s u)
    where
      not_file : (now : ObjectRow) → file.0 ≡ l → object_at os2 l ≡ Some now → now.control ≡ 0 → ⊥
      not_file now same found none = let is = file_controlled now l same found in omega (arith, is, none, controlled)

      plain_before : (copy.0 ≡ l → ⊥) → copy_at copies l ≡ None
      plain_before apart = elim (one_case copy.0 l (Some its) (copy_at copies l) (copy_at copies2 l) (put.at l)) [
        | inl this ↦ absurd (apart this.0)
        | inr other ↦ sym other.1 ∙ can.plain
      ]

      by : UnderNow file copy older cs cs2 u → ⊥
      by (OfCopy same is) =
          let low : file.0 ≡ l =
          ap (λ (z : ShadowRow). z.under.0) (some_is (record { under = file; shift = 0 }) can.link (sym is ∙ can.over)) ∙ can.under in
          not_file can.lower_row low can.lower_known can.lower_never
      by (OfOlder was older_is same is) =
          let low : copy.0 ≡ l =
          ap (λ (z : ShadowRow). z.under.0) (some_is (record { under = copy; shift = 0 }) can.link (sym is ∙ can.over)) ∙ can.under in
          let bad : None ≡ Some its = sym can.plain ∙ (ap (copy_at copies2) (sym low)
          ∙ if_true copy.0 (Some its) (copy_at copies copy.0) (copy_at copies2 copy.0) (put.at copy.0)) in
          cc
      by (OfOther apart other is) =
          let link : shadow_at cs u ≡ Some can.link = sym is ∙ can.over in
          let known = unders u can.link link in
          let low_apart : copy.0 ≡ l → ⊥ = λ e. some_apart os can.link.under.0 copy.0 known.1 d.unknown (can.under ∙ sym e) in
          let up = was_known u can.upper_row apart can.upper_known in
          let low = was_known l can.lower_row low_apart can.lower_known in
          elim low.same [
            | inl same ↦ not_file can.lower_row same can.lower_known can.lower_never
            | inr same ↦
                thin u l (record {
                  link = can.link;
                  over = link;
                  under = can.under;
                  upper_row = up.was;
                  upper_known = up.known;
                  lower_row = low.was;
                  lower_known = low.known;
                  sole = sym (ap (λ (z : ObjectRow). z.references) same) ∙ can.sole;
                  upper_never = sym up.control ∙ can.upper_never;
                  lower_never = sym low.control ∙ can.lower_never;
                  plain = plain_before low_apart;
                })
          ]

  -- a region that a slow copy fills stays over an object of its own: it is neither the file nor the new copy object
  pub filled_delayed : (r : ℕ) (region : RegionRow) → region_at cs r ≡ Some region → 0 < region.entries → region.top.0 ≡ file.0
      → ((q : ℕ) (found_row : RegionRow) → region_at cs q ≡ Some found_row → IsSome (object_at os found_row.top.0)) → KeepsFilled cs cs2
  filled_delayed r region there some top tops q object pages filled alone = (
    ap (λ f. f q) (stands_regions s) ∙ filled,
    record {
      tops = λ p found_row found same. alone.tops p found_row (sym (ap (λ f. f p) (stands_regions s)) ∙ found) same;
      unders = λ x shadow found under. by x shadow found under (under_now s x);
    },
  )
    where
      by : (x : ℕ) (shadow : ShadowRow) → shadow_at cs2 x ≡ Some shadow → shadow.under.0 ≡ object.0 → UnderNow file copy older cs cs2 x → ⊥
      by x shadow found under (OfCopy same is) =
          top_unfilled cs r region there some q object pages filled alone
          (top ∙ (ap (λ (z : ShadowRow). z.under.0) (some_is (record { under = file; shift = 0 }) shadow (sym is ∙ found)) ∙ under))
      by x shadow found under (OfOlder was older_is same is) =
          some_apart os object.0 copy.0 (tops q (filled_row object pages) filled) d.unknown
          (sym under ∙ sym (ap (λ (z : ShadowRow). z.under.0) (some_is (record { under = copy; shift = 0 }) shadow (sym is ∙ found))))
      by x shadow found under (OfOther apart other is) = alone.unders x shadow (sym is ∙ found) under

  -- something refers to each object in use
  pub referred_delayed : {rs : ResidentTable} → AllReferred cs os rs → AllReferred cs2 os2 rs
  referred_delayed {rs = rs} all =
      let again = refers_again d s in
      referred_chains cs cs2 os2 rs (λ x shadow found. by x shadow found (under_now s x))
      (referred_known (refers_to file copy older) _ cs (with_copy copy row os) os2 rs again.put (λ is. omega arith) (λ live. omega arith)
      (stays_served again.known refl refl)
      (referred_known copy.0 (copy_row row 1) cs os (with_copy copy row os) rs (put_copy copy row os) (λ is. omega arith) (λ live. omega arith)
      (comes_served d.unknown) all))
    where
      by : (x : ℕ) (shadow : ShadowRow) → shadow_at cs2 x ≡ Some shadow → UnderNow file copy older cs cs2 x → (shadow_at cs x ≡ Some shadow) ⊎ IsReferred os2 x
      by x shadow found (OfCopy same is) = inr (subst (λ (z : ℕ). IsReferred os2 z) same (copy_referred d s))
      by x shadow found (OfOlder was older_is same is) =
          inr (subst (λ (z : ℕ). IsReferred os2 z) same
          (referred_behind d s was.0 (d.shadows was.0 (record { under = file; shift = 0 }) (d.stood was older_is))))
      by x shadow found (OfOther apart other is) = inl (sym is ∙ found)

-- The same, of what objects stand for by themselves.

-- the copy object is temporary, and stands on the file; the one that was the newest until then stands on it
kinds_stood : {file copy : ObjectId} {row : ObjectRow} {older : Option ObjectId} {cs cs2 : ChainTable} {os os2 objects : ObjectTable} (header : Header)
    → Stands file copy row cs cs2 os os2 older → IsUnderKind header file.0 → named header ≤ copy.0 → HasKinds header objects cs → HasKinds header objects cs2
kinds_stood {file = file} {copy = copy} {cs = cs} {cs2 = cs2} {objects = objects} header (OnFile stands mid put refers) kind least has =
    kinds_rebased header copy.0 file objects cs cs2 stands kind has
kinds_stood {file = file} {copy = copy} {cs = cs} {cs2 = cs2} {objects = objects} header (Under was mid stands rebases put) kind least has =
    kinds_rebased header was.0 copy objects mid cs2 rebases (inl least) (kinds_rebased header copy.0 file objects cs mid stands kind has)

module _ {file copy : ObjectId} {row : ObjectRow} {older : Option ObjectId} {newest : Option ℕ} {cs cs2 : ChainTable} {os os2 : ObjectTable}
    (d : DelaysFile file copy row older newest cs os) (s : Stands file copy row cs cs2 os os2 older) where
  pub kinds_delayed : (header : Header) → named header ≤ copy.0 → is_file header file.0 ≡ true → SameMarks os os2 → HasKinds header os cs
      → HasKinds header os2 cs2
  kinds_delayed header least is_one marks has =
      let again = refers_again d s in
      let first = kinds_put header copy.0 (copy_row row 1) os (with_copy copy row os) cs (put_copy copy row os) (record { at = λ o p. refl })
      (kind_new header copy.0 (copy_row row 1) row.pages least refl) has in
      kinds_stood header s (inr is_one) least
      (kinds_put header (refers_to file copy older) _ (with_copy copy row os) os2 cs again.put (record { at = marks.at })
      (kind_referred header (refers_to file copy older) again.row (again.row.references + 1) again.some
      (first.kinds (refers_to file copy older) again.row again.known)) first)

  -- the files that the host knows are the same
  pub files_delayed : (header : Header) (h : ℕ) (home_from : ℕ → Option ℕ) → named header ≤ copy.0 → KnowsFiles header h os home_from
      → KnowsFiles header h os2 home_from
  files_delayed header h home_from least files =
      let again = refers_again d s in
      files_put header h (refers_to file copy older) again.row _ (with_copy copy row os) os2 home_from again.known again.put
      (files_temporary header h copy.0 (Some (copy_row row 1)) os (with_copy copy row os) home_from least (put_copy copy row os) files)

  -- the copy object has the pages of the file
  pub sizes_delayed : (header : Header) (past : List Event) (region source : RegionId) (offset pages : ℕ) → row.pages ≡ R.object_pages header source.0 past
      → KnowsPages (named header) os (λ o. R.object_pages header o past)
      → KnowsPages (named header) os2 (λ o. R.object_pages header o (event.Delayed region source offset pages copy ∷ past))
  sizes_delayed header past region source offset pages its has =
      let again = refers_again d s in
      sizes_put (named header) (refers_to file copy older) again.row _ (with_copy copy row os) os2 _ again.known refl again.put
      (sizes_new (named header) copy.0 (copy_row row 1) os (with_copy copy row os) (λ o. R.object_pages header o past) _ (put_copy copy row os)
      (has.few file.0 row d.known)
      (λ le. its ∙ sym (ap (λ b. if b then R.object_pages header source.0 past else R.object_pages header copy.0 past) (same_test copy.0 copy.0 refl)))
      (λ x apart. ap (λ b. if b then R.object_pages header source.0 past else R.object_pages header x past) (other_test x copy.0 (λ e. apart (sym e)))) has)

  -- it has no control
  pub controls_delayed : {least h : ℕ} {home_at home_at2 : ℕ → Option ℕ} {last_at : ℕ → ℕ} {live_at : ℕ → Option ℕ} {ready_at : ℕ → Bool}
      → HasControls least h os last_at live_at ready_at home_at → ((o : ℕ) → home_at o ≡ Some h → home_at2 o ≡ Some h) → home_at2 copy.0 ≡ Some h
      → HasControls least h os2 last_at live_at ready_at home_at2
  controls_delayed {last_at = last_at} {live_at = live_at} {ready_at = ready_at} has stay home =
      let again = refers_again d s in
      controls_referred (refers_to file copy older) (again.row.references + 1) again.row (with_copy copy row os) os2 last_at live_at ready_at again.known
      again.put
      (controls_made os (with_copy copy row os) last_at live_at ready_at copy.0 row.pages has d.unknown (put_copy copy row os) stay home)

  pub flags_delayed : {least : ℕ} {cached_at : ℕ → Bool} → least ≤ copy.0 → HasFlags least os cached_at → HasFlags least os2 cached_at
  flags_delayed least has =
      let again = refers_again d s in
      flags_put (refers_to file copy older) _ again.put (ap cached_in again.known)
      (flags_temporary copy.0 (Some (copy_row row 1)) least (put_copy copy row os) has)

-- no page is of an object that isn't known
pub empty_unknown : {cs : ChainTable} {os : ObjectTable} {rs : ResidentTable} (o : ℕ) → object_at os o ≡ None → AllReferred cs os rs → (p : ℕ)
    → row_at rs o p ≡ None
empty_unknown {os = os} {rs = rs} o none all p = by (row_at rs o p) refl
  where
    by : (x : Option PageRow) → row_at rs o p ≡ x → x ≡ None
    by None is = refl
    by (Some found_row) is = let its = all.pages o p found_row is in absurd (let bad : None ≡ Some its.row = sym none ∙ its.known in cc)

module _ {file copy : ObjectId} {row : ObjectRow} {older : Option ObjectId} {newest : Option ℕ} {cs cs2 : ChainTable} {parts : HostParts} {os2 : ObjectTable}
    (d : DelaysFile file copy row older newest cs parts.objects) (s : Stands file copy row cs cs2 parts.objects os2 older) where
  -- the pages are as they were
  pub fit_delayed : Fit parts → AllReferred cs parts.objects parts.resident → Fit (record parts { objects = os2 })
  fit_delayed fit all =
      fit_within parts os2 fit (λ o p found_row found. subst (λ (z : ℕ). p < z) (sym (pages_behind d s o (ap is_some (all.pages o p found_row found).known)))
      (fit.inside o p found_row found))

-- the copy objects, and what they stand on
copies_stood : {file copy : ObjectId} {row : ObjectRow} {older : Option ObjectId} {cs cs2 : ChainTable} {parts : HostParts} {os os2 : ObjectTable}
    {copies copies2 : CopyTable} {its : CopyRow} (known : ObjectRow) → Stands file copy row cs cs2 os os2 older → newest_at copies file.0 ≡ older
    → copy_at copies copy.0 ≡ None → BeginsCopy file copy its copies copies2 → its.source.0 ≡ file.0 → object_at parts.objects copy.0 ≡ Some known
    → known.pages ≡ its.pages → ((p : ℕ) → row_at parts.resident copy.0 p ≡ None) → object_pages parts.objects copy.0 ≡ object_pages parts.objects file.0
    → CopiesFit copies parts cs → CopiesFit copies2 parts cs2
copies_stood {file = file} {copy = copy} {cs = cs} {cs2 = cs2} {its = its} known (OnFile stands mid put refers) newest none begins source found pages empty same
    fit =
    fits_begun file copy its known none begins source found pages empty
    (record {
      row = record { under = file; shift = 0 };
      found = if_true copy.0 (Some (record { under = file; shift = 0 })) (shadow_at cs copy.0) (shadow_at cs2 copy.0) (stands.at copy.0);
      under = refl;
      shift = refl;
      pages = same;
    })
    (fits_rebased copy.0 file stands (plain_no_newest copy.0 fit.living none) fit)
copies_stood {file = file} {copy = copy} {cs = cs} {cs2 = cs2} {its = its} known (Under was mid stands rebases put) newest none begins source found pages empty
    same fit =
    fits_rebased was.0 copy rebases (begun_older file copy was its fit.living none begins newest)
    (fits_begun file copy its known none begins source found pages empty
    (record {
      row = record { under = file; shift = 0 };
      found = if_true copy.0 (Some (record { under = file; shift = 0 })) (shadow_at cs copy.0) (shadow_at mid copy.0) (stands.at copy.0);
      under = refl;
      shift = refl;
      pages = same;
    })
    (fits_rebased copy.0 file stands (plain_no_newest copy.0 fit.living none) fit))

module _ {file copy : ObjectId} {row : ObjectRow} {older : Option ObjectId} {newest : Option ℕ} {cs cs2 : ChainTable} {parts : HostParts} {os2 : ObjectTable}
    (d : DelaysFile file copy row older newest cs parts.objects) (s : Stands file copy row cs cs2 parts.objects os2 older) where
  pub copied_delayed : {copies copies2 : CopyTable} {its : CopyRow} {f f2 : ObjectFacts} {pushed pushed2 : ℕ → ℕ → Bool} → newest_at copies file.0 ≡ older
      → BeginsCopy file copy its copies copies2 → its.source.0 ≡ file.0 → row.pages ≡ its.pages
      → IsNewCopy file.0 copy.0 f.copy f2.copy f.newest f2.newest pushed pushed2
      → ((o : ℕ) (shadow : ShadowRow) → shadow_at cs o ≡ Some shadow → IsSome (object_at parts.objects shadow.under.0))
      → AllReferred cs parts.objects parts.resident
      → Copied copies parts cs f pushed → Copied copies2 (record parts { objects = os2 }) cs2 f2 pushed2
  copied_delayed {copies = copies} {its = its} newest begins source pages says unders all was =
      let again = refers_again d s in
      let plain = unknown_plain copy.0 was.fits d.unknown in
      let first : CopiesFit copies (record parts { objects = with_copy copy row parts.objects }) cs =
      fits_new copy.0 (copy_row row 1) d.unknown (unknown_uncopied copy.0 was.fits unders d.unknown) (put_copy copy row parts.objects) refl was.fits in
      let second : CopiesFit copies (record parts { objects = os2 }) cs =
      fits_put (refers_to file copy older) again.row _ again.known refl again.put refl first in
      let known = row_of (object_at os2 copy.0) (copy_known d s) in
      let sized : known.0.pages ≡ row.pages = sym (ap pages_of_row known.1) ∙ copy_pages d s in
      record {
        known =
            copies_put (refers_to file copy older) _ (with_copy copy row parts.objects) os2 again.put
            (λ more. record { row = again.row; known = again.known; some = again.some })
            (copies_begun file copy its (copy_row row 1) parts.objects (with_copy copy row parts.objects) (put_copy copy row parts.objects) begins says
            was.known);
        fits =
            copies_stood known.0 s newest plain begins source known.1 (sized ∙ pages) (empty_unknown copy.0 d.unknown all)
            (copy_pages d s ∙ sym (pages_behind d s file.0 (ap is_some d.known) ∙ ap pages_of_row d.known)) second;
      }

-- who waits has the places that it had, and one more where the older copy object is among them
waits_stood : {file copy : ObjectId} {row : ObjectRow} {older : Option ObjectId} {cs cs2 : ChainTable} {os os2 objects : ObjectTable} {copies : CopyTable}
    {stays : PageKey → Type 0} {unmet : PageKey → Unmet} (maps : Mapped) (rs : ResidentTable) (rows : List Waiting) (who : On → Bool)
    (waiting_at : ℕ → Option Access) → Stands file copy row cs cs2 os os2 older → shadow_at cs copy.0 ≡ None
    → ((was : ObjectId) → older ≡ Some was → shadow_at cs was.0 ≡ Some (record { under = file; shift = 0 }))
    → ((was : ObjectId) → older ≡ Some was → was.0 ≡ copy.0 → ⊥) → ((page : ℕ) → stays (record { object = copy; page = record { 0 = page } }))
    → HasWaiters maps cs copies rs objects rows who waiting_at stays unmet → HasWaiters maps cs2 copies rs objects rows who waiting_at stays unmet
waits_stood {cs = cs} {cs2 = cs2} {objects = objects} maps rs rows who waiting_at (OnFile stands mid put refers) none stood apart bare has =
    waits_kept maps maps cs cs2 rs objects rows who waiting_at has (λ t w found. record { size = refl; entries = refl }) (keeps_stood stands none) has.is
waits_stood {file = file} {copy = copy} {cs = cs} {cs2 = cs2} {objects = objects} maps rs rows who waiting_at (Under was mid stands rebases put) none stood
    apart bare has =
    waits_rebased
    (record {
      changes = rebases;
      was = (keeps_stood stands none).shadows was.0 (record { under = file; shift = 0 }) (stood was refl);
      over = if_true copy.0 (Some (record { under = file; shift = 0 })) (shadow_at cs copy.0) (shadow_at mid copy.0) (stands.at copy.0);
      apart = apart was refl;
    }) maps rs objects rows who waiting_at
    (waits_kept maps maps cs mid rs objects rows who waiting_at has (λ t w found. record { size = refl; entries = refl }) (keeps_stood stands none) has.is) bare

module _ {file copy : ObjectId} {row : ObjectRow} {older : Option ObjectId} {newest : Option ℕ} {cs cs2 : ChainTable} {os os2 : ObjectTable}
    (d : DelaysFile file copy row older newest cs os) (s : Stands file copy row cs cs2 os os2 older) where
  pub waits_delayed : {copies copies2 : CopyTable} {stays : PageKey → Type 0} {unmet : PageKey → Unmet} (maps : Mapped) (rs : ResidentTable)
      (rows : List Waiting) (who : On → Bool) (waiting_at : ℕ → Option Access) → shadow_at cs copy.0 ≡ None
      → PutsNewest file.0 (Some copy) copies copies2 → ClearsHad copy.0 copies copies2
      → ((p : ℕ) → PushesNone copies rows who file.0 p) → ((page : ℕ) → stays (record { object = copy; page = record { 0 = page } }))
      → HasWaiters maps cs copies rs os rows who waiting_at stays unmet → HasWaiters maps cs2 copies2 rs os2 rows who waiting_at stays unmet
  waits_delayed maps rs rows who waiting_at none newest clears pushes bare has =
      let again = refers_again d s in
      waits_stood maps rs rows who waiting_at s none d.stood (older_apart d s) bare
      (waits_referred maps cs rs (with_copy copy row os) os2 rows who waiting_at (refers_to file copy older) (again.row.references + 1) again.row
      (waits_known maps cs rs os (with_copy copy row os) rows who waiting_at
      (waits_copied maps cs rs os rows who waiting_at file.0 copy has newest clears pushes)
      (knows_made os (with_copy copy row os) copy.0 (copy_row row 1) d.unknown (put_copy copy row os)))
      again.known again.put)
