-- A temporary object is reached on its home alone, but while no task has an entry on the region that it was made for.
use Rattle.std.proofs.Common.{◌≡◌, ◌≤◌, ◌<◌, ℕ, zero, suc, Bool, true, false, List, [], ◌∷◌, Option, Some, None, ap, refl, subst, sym, ◌∙◌, arith, inl, inr}
use Rattle.std.proofs.lemmas.Bool.Decides.{nat_tests}
use Rattle.std.specs.Prelude.{◌==◌, if◌then◌else◌}
use native.Mathlib.Decide.{ℕ_discrete}
use Rattle.vm_base.specs.declared.ids.Inherit.{Inherit}
use Rattle.vm_base.specs.declared.ids.ObjectId.{ObjectId}
use Rattle.vm_base.specs.declared.ids.Prot.{Prot}
use Rattle.vm_base.specs.declared.ids.RegionId.{RegionId}
use Rattle.vm_base.specs.declared.ids.TaskId.{TaskId}
use Rattle.vm_bound.proofs.Grown.{Grown, before, entered_here, holds_grown, second, sound_grown}
use Rattle.vm_flat.proofs.Entries.{OwnedAt}
use Rattle.vm_flat.proofs.Housed.{IsHoused, made_of}
use Rattle.vm_flat.proofs.Leading.{used_made}
use Rattle.vm_flat.proofs.Numbers.{NumberedAt, numbered_delayed}
use Rattle.vm_flat.proofs.Regions.{eq_no, eq_yes, if_no, if_yes}
use Rattle.vm_legal.proofs.Files.{file_named}
use Rattle.vm_legal.proofs.Homes.{made_there, object_stays, region_stays, same_some}
use Rattle.vm_legal.specs.Accesses.{At}
use Rattle.vm_legal.specs.Outside.{Outside}
use Rattle.vm_legal.specs.Used.{in_use, is_kept, made_here}
use Rattle.vm_legal.specs.Walks.{Below}
use Rattle.vm_model.specs.Homes.{copying_host, first_of, home_in, home_of, region_for}
use Rattle.vm_model.specs.Named.{named}
use Rattle.vm_model.specs.Regions.{Backing, backing_of, is_newest, joined, newest_copy, next_object, next_region, over, pushed, region_of}
use Rattle.vm_model.specs.Rows.{found_row}
use Rattle.vm_model.specs.Tasks.{host_of}
use Rattle.vm_model.specs.declared.event.Event.{Event}
use Rattle.vm_model.specs.declared.event.Event.TheVariants as event
use Rattle.vm_model.specs.declared.script.Header.{Header}

-- which numbers were given, where regions are at home, and what is reached on a host
record IsLain (header : Header) (past : List Event) : Type 0 where
  regions : (r : ℕ) → next_region header past ≤ r → home_of r past ≡ None
  objects : (o : ℕ) → next_object header past ≤ o → region_for o past ≡ None
  stay : (g h r : ℕ) → in_use header g r past ≡ true → home_of r past ≡ Some h → g ≡ h
  copies : (f v : ℕ) → newest_copy f past ≡ Some v → region_for v past ≡ Some f
  used : (g r : ℕ) → in_use header g r past ≡ true → r < next_region header past
  tops : (r : ℕ) → r < next_region header past → (region_of header r past).top < next_object header past
  backed : (o : ℕ) → (backing_of header o past).backed ≡ true → o < next_object header past
  under : (o : ℕ) → (backing_of header o past).backed ≡ true → (backing_of header o past).under < next_object header past
  reached : (g r n u : ℕ) → in_use header g r past ≡ true → Below (λ k. backing_of header k past) n (region_of header r past).top u
      → named header ≤ u → IsHoused g r u past

-- homes

housed_stays : (g r u : ℕ) (e : Event) (past : List Event) → home_of r (e ∷ past) ≡ home_of r past → IsHoused g r u past → IsHoused g r u (e ∷ past)
housed_stays g r u e past same (inl fresh) = inl (same ∙ fresh.0, region_stays u r e past fresh.1)
housed_stays g r u e past same (inr home) = inr (object_stays u g e past home)

-- what was made for a region that is at home here
housed_at : (g r u : ℕ) (past : List Event) → region_for u past ≡ Some r → home_of r past ≡ Some g → IsHoused g r u past
housed_at g r u past made home = inr (ap (home_in (λ r. home_of r past)) made ∙ home)

-- what was made for it just now
housed_new : (g r u : ℕ) (past : List Event) → region_for u past ≡ Some r → ((h : ℕ) → home_of r past ≡ Some h → g ≡ h) → IsHoused g r u past
housed_new g r u past made stays = by (home_of r past) refl
  where
    by : (x : Option ℕ) → home_of r past ≡ x → IsHoused g r u past
    by None none = inl (none, made)
    by (Some h) home = housed_at g r u past made (home ∙ ap (λ (n : ℕ). Some n) (sym (stays h home)))

-- chains

-- nothing is below an object that has no backing object
pub below_bare : (backings : ℕ → Backing) (n o u : ℕ) → ((backings o).backed ≡ true → ⊥) → Below backings n o u → o ≡ u
below_bare backings zero o u bare is = is
below_bare backings (suc n) o u bare is = absurd (bare is.0)

-- below an object that is there, links of new ones are not seen
below_old : (old new : ℕ → Backing) (m n o u : ℕ) → o < m → ((k : ℕ) → k < m → new k ≡ old k) → ((k : ℕ) → (old k).backed ≡ true → (old k).under < m)
    → Below new n o u → Below old n o u
below_old old new m zero o u small same born is = is
below_old old new m (suc n) o u small same born is =
    let backed : (old o).backed ≡ true = subst (λ (x : Backing). x.backed ≡ true) (same o small) is.0 in
    let next : Below new n (old o).under u = subst (λ (x : Backing). Below new n x.under u) (same o small) is.1 in
    (backed, below_old old new m n (old o).under u (born o backed) same born next)

-- what is below where two objects were merged was below before
below_merged : (old : ℕ → Backing) (upper lower n o u : ℕ) → (old upper).backed ≡ true → (old upper).under ≡ lower
    → Below (λ k. joined (k == upper) (old lower) (old k)) n o u → (m : ℕ) × Below old m o u
below_merged old upper lower zero o u on under is = (0, is)
below_merged old upper lower (suc n) o u on under is = elim (ℕ_discrete o upper) [
  | yes e ↦
      let mine : joined (o == upper) (old lower) (old o) ≡ joined true (old lower) (old o) = ap (λ (b : Bool). joined b (old lower) (old o))
      (eq_yes o upper e) in
      let backed : (old lower).backed ≡ true = sym (ap (λ (x : Backing). x.backed) mine) ∙ is.0 in
      let was : (m : ℕ) × Below old m (old lower).under u = below_merged old upper lower n (old lower).under u on under (subst
      (λ (x : Backing). Below (λ k. joined (k == upper) (old lower) (old k)) n x.under u) mine is.1) in (
        suc (suc was.0),
        subst (λ (k : ℕ). Below old (suc (suc was.0)) k u) (sym e)
            (on, subst (λ (k : ℕ). Below old (suc was.0) k u) (sym under) (backed, was.1)),
      )
  | no apart ↦
      let same : joined (o == upper) (old lower) (old o) ≡ old o = ap (λ (b : Bool). joined b (old lower) (old o)) (eq_no o upper apart) in
      let was : (m : ℕ) × Below old m (old o).under u = below_merged old upper lower n (old o).under u on under (subst
      (λ (x : Backing). Below (λ k. joined (k == upper) (old lower) (old k)) n x.under u) same is.1) in
      (suc was.0, (subst (λ (x : Backing). x.backed ≡ true) same is.0, was.1))
]

-- a region that is made, in use on this host
made_home : (header : Header) (region : RegionId) (object : ObjectId) (pages g h r : ℕ) (past : List Event)
    → region.0 ≡ next_region header past → IsLain header past → r ≡ region.0
    → in_use header g r (event.RegionMade region object pages ∷ past) ≡ true → home_of r (event.RegionMade region object pages ∷ past) ≡ Some h → g ≡ h
made_home header region object pages g h r past number was e used home =
    made_there g h past
    (sym (if_yes r region.0 (made_here g past) (in_use header g r past) e) ∙ used)
    (sym (ap (λ x. first_of x (copying_host past)) (was.regions r (omega (arith, e, number))))
    ∙ sym (if_yes region.0 r (first_of (home_of r past) (copying_host past)) (home_of r past) (sym e)) ∙ home)

-- what is reached

reached_made : (header : Header) (region : RegionId) (object : ObjectId) (pages g r n u : ℕ) (past : List Event)
    → region.0 ≡ next_region header past → object.0 ≡ next_object header past → IsLain header past
    → in_use header g r (event.RegionMade region object pages ∷ past) ≡ true
    → Below (λ k. backing_of header k past) n (region_of header r (event.RegionMade region object pages ∷ past)).top u → named header ≤ u
    → IsHoused g r u (event.RegionMade region object pages ∷ past)
reached_made header region object pages g r n u past number new was used below above = elim (ℕ_discrete r region.0) [
  | yes e ↦
      let from : Below (λ k. backing_of header k past) n object.0 u = subst (λ (t : ℕ). Below (λ k. backing_of header k past) n t u)
      (if_yes r region.0 object.0 (region_of header r past).top e) below in
      let same : object.0 ≡ u = below_bare (λ k. backing_of header k past) n object.0 u (λ on. absurd (omega (arith, new, was.backed object.0 on))) from in
      housed_new g r u (event.RegionMade region object pages ∷ past)
      (if_yes object.0 u (first_of (region_for u past) (Some region.0)) (region_for u past) same
      ∙ ap (λ x. first_of x (Some region.0)) (was.objects u (omega (arith, same, new))) ∙ ap (λ (k : ℕ). Some k) (sym e))
      (λ h home. made_home header region object pages g h r past number was e used home)
  | no apart ↦ housed_stays g r u (event.RegionMade region object pages) past
      (if_no region.0 r (first_of (home_of r past) (copying_host past)) (home_of r past) (λ e. apart (sym e)))
      (was.reached g r n u (sym (if_no r region.0 (made_here g past) (in_use header g r past) apart) ∙ used)
      (subst (λ (t : ℕ). Below (λ k. backing_of header k past) n t u) (if_no r region.0 object.0 (region_of header r past).top apart) below) above)
]

-- a region that is copied has an entry, and so a home
reached_copied : (header : Header) (region source : RegionId) (offset pages g r n u : ℕ) (past : List Event)
    → (home_of source.0 past ≡ None → ⊥) → IsLain header past
    → in_use header g r (event.RegionCopied region source offset pages ∷ past) ≡ true
    → Below (λ k. backing_of header k past) n (region_of header r (event.RegionCopied region source offset pages ∷ past)).top u → named header ≤ u
    → IsHoused g r u (event.RegionCopied region source offset pages ∷ past)
reached_copied header region source offset pages g r n u past homed was used below above = elim (ℕ_discrete r region.0) [
  | yes e ↦
      elim (was.reached g source.0 n u (sym (if_yes r region.0 (in_use header g source.0 past) (in_use header g r past) e) ∙ used)
      (subst (λ (t : ℕ). Below (λ k. backing_of header k past) n t u)
      (if_yes r region.0 (region_of header source.0 past).top (region_of header r past).top e) below) above) [
        | inl fresh ↦ absurd (homed fresh.0)
        | inr home ↦ inr (object_stays u g (event.RegionCopied region source offset pages) past home)
      ]
  | no apart ↦ housed_stays g r u (event.RegionCopied region source offset pages) past refl
      (was.reached g r n u (sym (if_no r region.0 (in_use header g source.0 past) (in_use header g r past) apart) ∙ used)
      (subst (λ (t : ℕ). Below (λ k. backing_of header k past) n t u)
      (if_no r region.0 (region_of header source.0 past).top (region_of header r past).top apart) below) above)
]

reached_entered : (header : Header) (task : TaskId) (address bytes : ℕ) (region : RegionId) (offset : ℕ) (prot : Prot) (inherit : Inherit)
    (g r n u : ℕ) (past : List Event) → IsLain header past
    → in_use header g r (event.Entered task address bytes region offset prot inherit ∷ past) ≡ true
    → Below (λ k. backing_of header k past) n (region_of header r past).top u → named header ≤ u
    → IsHoused g r u (event.Entered task address bytes region offset prot inherit ∷ past)
reached_entered header task address bytes region offset prot inherit g r n u past was used below above = elim (ℕ_discrete r region.0) [
  | yes e ↦ here e before
  | no apart ↦ housed_stays g r u (event.Entered task address bytes region offset prot inherit) past
      (if_no region.0 r (first_of (home_of r past) (host_of task.0 past)) (home_of r past) (λ e. apart (sym e))) before
]
  where
    before : IsHoused g r u past
    before = was.reached g r n u (second _ (in_use header g r past) used) below above

    here : r ≡ region.0 → IsHoused g r u past → IsHoused g r u (event.Entered task address bytes region offset prot inherit ∷ past)
    here e (inr home) = inr (object_stays u g (event.Entered task address bytes region offset prot inherit) past home)
    here e (inl fresh) =
        housed_at g r u (event.Entered task address bytes region offset prot inherit ∷ past) fresh.1
        (if_yes region.0 r (first_of (home_of r past) (host_of task.0 past)) (home_of r past) (sym e)
        ∙ ap (λ x. first_of x (host_of task.0 past)) fresh.0 ∙ entered_here header task.0 region.0 g r past e used)

reached_shadowed : (header : Header) (region : RegionId) (new old : ObjectId) (g r n u : ℕ) (past : List Event)
    → new.0 ≡ next_object header past → IsLain header past → in_use header g r past ≡ true
    → Below (λ k. backing_of header k (event.Shadowed region new old ∷ past)) n (region_of header r (event.Shadowed region new old ∷ past)).top u
    → named header ≤ u → IsHoused g r u (event.Shadowed region new old ∷ past)
reached_shadowed header region new old g r n u past number was used below above = elim (ℕ_discrete r region.0) [
  | yes e ↦ own e n (subst (λ (t : ℕ). Below (λ k. backing_of header k (event.Shadowed region new old ∷ past)) n t u)
      (if_yes r region.0 new.0 (region_of header r past).top e) below)
  | no apart ↦ down n (subst (λ (t : ℕ). Below (λ k. backing_of header k (event.Shadowed region new old ∷ past)) n t u)
      (if_no r region.0 new.0 (region_of header r past).top apart) below)
]
  where
    same : (k : ℕ) → k < next_object header past → backing_of header k (event.Shadowed region new old ∷ past) ≡ backing_of header k past
    same k less =
        ap (λ (b : Bool). over b (region_of header region.0 past) (backing_of header k past)) (eq_no k new.0 (λ e. omega (arith, e, less, number)))

    down : (n : ℕ) → Below (λ k. backing_of header k (event.Shadowed region new old ∷ past)) n (region_of header r past).top u
        → IsHoused g r u (event.Shadowed region new old ∷ past)
    down n is =
        housed_stays g r u (event.Shadowed region new old) past refl (was.reached g r n u used (below_old (λ k. backing_of header k past)
        (λ k. backing_of header k (event.Shadowed region new old ∷ past)) (next_object header past) n (region_of header r past).top u
        (was.tops r (was.used g r used)) same was.under is) above)

    own : r ≡ region.0 → (n : ℕ) → Below (λ k. backing_of header k (event.Shadowed region new old ∷ past)) n new.0 u
        → IsHoused g r u (event.Shadowed region new old ∷ past)
    own e zero is =
        housed_new g r u (event.Shadowed region new old ∷ past)
        (if_yes new.0 u (first_of (region_for u past) (Some region.0)) (region_for u past) is
        ∙ ap (λ x. first_of x (Some region.0)) (was.objects u (omega (arith, is, number))) ∙ ap (λ (k : ℕ). Some k) (sym e))
        (λ h home. was.stay g h r used home)
    own e (suc n) is =
        down n (subst (λ (t : ℕ). Below (λ k. backing_of header k (event.Shadowed region new old ∷ past)) n t u)
        (if_yes new.0 new.0 (region_of header region.0 past).top (backing_of header new.0 past).under refl
        ∙ ap (λ k. (region_of header k past).top) (sym e)) is.1)

-- copies of files

-- a region that is in use, and has a home, is at home there
home_there : (header : Header) (g r : ℕ) (past : List Event) → IsLain header past → (home_of r past ≡ None → ⊥)
    → in_use header g r past ≡ true → home_of r past ≡ Some g
home_there header g r past was homed used = by (home_of r past) refl
  where
    by : (x : Option ℕ) → home_of r past ≡ x → home_of r past ≡ Some g
    by None none = absurd (homed none)
    by (Some h) is = is ∙ ap (λ (k : ℕ). Some k) (sym (was.stay g h r used is))

-- the newest copy of a file is at home where the file is
newest_home : (header : Header) (g r f v : ℕ) (past : List Event) → IsLain header past → newest_copy f past ≡ Some v
    → (home_of f past ≡ None → ⊥) → IsHoused g r v past → home_of f past ≡ Some g
newest_home header g r f v past was is homed (inl fresh) =
    absurd (homed (ap (λ k. home_of k past) (same_some f r (sym (was.copies f v is) ∙ fresh.1)) ∙ fresh.0))
newest_home header g r f v past was is homed (inr home) = sym (ap (home_in (λ k. home_of k past)) (was.copies f v is)) ∙ home

copy_home : (g r : ℕ) (region source : RegionId) (offset pages : ℕ) (copy : ObjectId) (past : List Event) → region_for copy.0 past ≡ None
    → home_of source.0 past ≡ Some g → IsHoused g r copy.0 (event.Delayed region source offset pages copy ∷ past)
copy_home g r region source offset pages copy past fresh home =
    inr (ap (home_in (λ k. home_of k past)) (if_yes copy.0 copy.0 (first_of (region_for copy.0 past) (Some source.0)) (region_for copy.0 past) refl
    ∙ ap (λ x. first_of x (Some source.0)) fresh) ∙ home)

pub below_step : (backings : ℕ → Backing) (n o u : ℕ) → Below backings n o u → (backings u).backed ≡ true → Below backings (suc n) o (backings u).under
below_step backings zero o u is backed =
    subst (λ (k : ℕ). Below backings 1 o (backings k).under) is (subst (λ (k : ℕ). (backings k).backed ≡ true) (sym is) backed, refl)
below_step backings (suc n) o u is backed = (is.0, below_step backings n (backings o).under u is.1 backed)

reached_delayed : (header : Header) (region source : RegionId) (offset pages : ℕ) (copy : ObjectId) (g r n u : ℕ) (past : List Event)
    → copy.0 ≡ next_object header past → source.0 < named header → (home_of source.0 past ≡ None → ⊥) → NumberedAt header past
    → NumberedAt header (event.Delayed region source offset pages copy ∷ past) → IsLain header past
    → in_use header g r (event.Delayed region source offset pages copy ∷ past) ≡ true
    → Below (λ k. backing_of header k (event.Delayed region source offset pages copy ∷ past)) n
    (region_of header r (event.Delayed region source offset pages copy ∷ past)).top u → named header ≤ u
    → IsHoused g r u (event.Delayed region source offset pages copy ∷ past)
reached_delayed header region source offset pages copy g r n u past new file homed numbers later was used below above =
    elim (ℕ_discrete r region.0) [
      | yes e ↦ copied n (subst (λ (t : ℕ). Below after n t u) (if_yes r region.0 copy.0 (region_of header r past).top e) below)
          (home_there header g source.0 past was homed
          (sym (if_yes r region.0 (in_use header g source.0 past) (in_use header g r past) e) ∙ used))
      | no apart ↦
          let here : in_use header g r past ≡ true = sym (if_no r region.0 (in_use header g source.0 past)
          (in_use header g r past) apart) ∙ used in
          down here n (region_of header r past).top 0 (was.tops r (was.used g r here)) refl
          (subst (λ (t : ℕ). Below after n t u) (if_no r region.0 copy.0 (region_of header r past).top apart) below)
    ]
  where
    after : ℕ → Backing
    after k = backing_of header k (event.Delayed region source offset pages copy ∷ past)

    -- below the copy is the file alone
    copied : (n : ℕ) → Below after n copy.0 u → home_of source.0 past ≡ Some g → IsHoused g r u (event.Delayed region source offset pages copy ∷ past)
    copied zero is home =
        subst (λ (k : ℕ). IsHoused g r k (event.Delayed region source offset pages copy ∷ past)) is
        (copy_home g r region source offset pages copy past (was.objects copy.0 (omega (arith, new))) home)
    copied (suc n) is home =
        let from : Below after n source.0 u = subst (λ (t : ℕ). Below after n t u) (if_yes copy.0 copy.0 source.0
        (if is_newest copy.0 (newest_copy source.0 past) then copy.0 else (backing_of header copy.0 past).under) refl) is.1 in
        let same : source.0 ≡ u = below_bare after n source.0 u (λ on. absurd (omega (arith, file, later.upper source.0 on))) from in
        absurd (omega (arith, same, file, above))

    old : (k : ℕ) → k < next_object header past → is_newest k (newest_copy source.0 past) ≡ false → after k ≡ backing_of header k past
    old k less other =
        ap (λ (b : Bool). pushed b (is_newest k (newest_copy source.0 past)) source.0 copy.0 (backing_of header k past))
        (eq_no k copy.0 (λ e. omega (arith, e, less, new)))
        ∙ ap (λ (b : Bool). pushed false b source.0 copy.0 (backing_of header k past)) other

    turned : (k : ℕ) → k < next_object header past → is_newest k (newest_copy source.0 past) ≡ true → (after k).under ≡ copy.0
    turned k less is =
        ap (λ (b : Bool). (pushed b (is_newest k (newest_copy source.0 past)) source.0 copy.0 (backing_of header k past)).under)
        (eq_no k copy.0 (λ e. omega (arith, e, less, new)))
        ∙ ap (λ (b : Bool). (pushed false b source.0 copy.0 (backing_of header k past)).under) is

    newest_is : (k : ℕ) (x : Option ℕ) → is_newest k x ≡ true → x ≡ Some k
    newest_is k None is = absurd (let bad : false ≡ true = is in cc)
    newest_is k (Some v) is = let same : k ≡ v = grind (arith, nat_tests) in ap (λ (z : ℕ). Some z) (sym same)

    -- at the copy that was the newest the chain goes by way of the new one
    turn : in_use header g r past ≡ true → (n o k : ℕ) → o < next_object header past
        → Below (λ j. backing_of header j past) k (region_of header r past).top o → Below after (suc n) o u
        → (is_newest o (newest_copy source.0 past) ≡ false → (backing_of header o past).backed ≡ true
        → IsHoused g r u (event.Delayed region source offset pages copy ∷ past))
        → IsHoused g r u (event.Delayed region source offset pages copy ∷ past)
    turn here n o k less chain is more = by (is_newest o (newest_copy source.0 past)) refl
      where
        by : (b : Bool) → is_newest o (newest_copy source.0 past) ≡ b → IsHoused g r u (event.Delayed region source offset pages copy ∷ past)
        by true on =
            let newest : newest_copy source.0 past ≡ Some o = newest_is o (newest_copy source.0 past) on in
            copied n (subst (λ (t : ℕ). Below after n t u) (turned o less on) is.1) (newest_home header g r source.0 o past was newest homed
            (was.reached g r k o here chain (numbers.newest source.0 o newest)))
        by false off = more off (subst (λ (x : Backing). x.backed ≡ true) (old o less off) is.0)

    down : in_use header g r past ≡ true → (n o k : ℕ) → o < next_object header past
        → Below (λ j. backing_of header j past) k (region_of header r past).top o → Below after n o u
        → IsHoused g r u (event.Delayed region source offset pages copy ∷ past)
    down here zero o k less chain is =
        housed_stays g r u (event.Delayed region source offset pages copy) past refl (was.reached g r k u here
        (subst (λ (t : ℕ). Below (λ j. backing_of header j past) k (region_of header r past).top t) is chain) above)
    down here (suc n) o k less chain is =
        turn here n o k less chain is
        (λ off backed. down here n (backing_of header o past).under (suc k) (was.under o backed)
        (below_step (λ j. backing_of header j past) k (region_of header r past).top o chain backed)
        (subst (λ (x : Backing). Below after n x.under u) (old o less off) is.1))

-- each entry is on a region that has a home
homed : (header : Header) (outside : Outside) (task address source : ℕ) (past : List Event) → Grown header outside past → (at : At header task address past)
    → source ≡ at.entry.region.0 → home_of source past ≡ None → ⊥
homed header outside task address source past grown at is none =
    let owned = (holds_grown header outside past grown).entries task at.host at.lives in
    (found_row (OwnedAt header outside past at.host) address _ at.entry owned at.found).is.homed (ap (λ k. home_of k past) (sym is) ∙ none)

lain : (header : Header) (outside : Outside) (past : List Event) → Grown header outside past
    → ((g r n u : ℕ) → in_use header g r past ≡ true → Below (λ k. backing_of header k past) n (region_of header r past).top u → named header ≤ u
    → IsHoused g r u past) → IsLain header past
lain header outside past grown reached =
    let sound = sound_grown header outside past grown in
    let made = made_of header outside past (holds_grown header outside past grown).worlds in
    record {
      regions = sound.homes.regions;
      objects = sound.homes.objects;
      stay = sound.homes.stay;
      copies = λ f v is. (sound.homes.copies f v is).made;
      used = λ g r is. used_made header outside g r past grown.causes is;
      tops = made.tops;
      backed = made.backed;
      under = made.under;
      reached = reached;
    }

pub reached : (header : Header) (outside : Outside) (past : List Event) → Grown header outside past → (g r n u : ℕ) → in_use header g r past ≡ true
    → Below (λ k. backing_of header k past) n (region_of header r past).top u → named header ≤ u → IsHoused g r u past
reached header outside [] grown g r n u used below above =
    let same : r ≡ u = below_bare (λ k. backing_of header k []) n r u (λ on. absurd (let bad : false ≡ true = on in cc)) below in
    let small = file_named header r used in
    absurd (omega (arith, same, small, above))
reached header outside (event.RegionMade region object pages ∷ past) grown g r n u used below above =
    let past_grown = before header outside (event.RegionMade region object pages) past grown in
    let c = grown.causes.0.1 in
    reached_made header region object pages g r n u past c.0 c.1 (lain header outside past past_grown (reached header outside past past_grown)) used below above
reached header outside (event.RegionCopied region source offset pages ∷ past) grown g r n u used below above =
    let past_grown = before header outside (event.RegionCopied region source offset pages) past grown in
    let c = grown.causes.0.1 in
    reached_copied header region source offset pages g r n u past (homed header outside c.task c.address source.0 past past_grown c.at c.source_is)
    (lain header outside past past_grown (reached header outside past past_grown)) used below above
reached header outside (event.Delayed region source offset pages copy ∷ past) grown g r n u used below above =
    let past_grown = before header outside (event.Delayed region source offset pages copy) past grown in
    let c = grown.causes.0.1 in
    let numbers = (holds_grown header outside past past_grown).numbered in
    reached_delayed header region source offset pages copy g r n u past c.new (file_named header source.0 c.file)
    (homed header outside c.task c.address source.0 past past_grown c.at c.source_is) numbers
    (numbered_delayed header region source offset pages copy past numbers c.next c.new)
    (lain header outside past past_grown (reached header outside past past_grown)) used below above
reached header outside (event.Entered task address bytes region offset prot inherit ∷ past) grown g r n u used below above =
    let past_grown = before header outside (event.Entered task address bytes region offset prot inherit) past grown in
    reached_entered header task address bytes region offset prot inherit g r n u past
    (lain header outside past past_grown (reached header outside past past_grown)) used below above
reached header outside (event.Shadowed region new old ∷ past) grown g r n u used below above =
    let past_grown = before header outside (event.Shadowed region new old) past grown in
    reached_shadowed header region new old g r n u past grown.causes.0.1.next
    (lain header outside past past_grown (reached header outside past past_grown)) used below above
reached header outside (event.Merged upper lower ∷ past) grown g r n u used below above =
    let pair = grown.causes.0.1.pair in
    let was = below_merged (λ k. backing_of header k past) upper.0 lower.0 n (region_of header r past).top u pair.backed pair.under below in
    housed_stays g r u (event.Merged upper lower) past refl
    (reached header outside past (before header outside (event.Merged upper lower) past grown) g r was.0 u used was.1 above)
reached header outside (event.Removed task address bytes ∷ past) grown g r n u used below above =
    housed_stays g r u (event.Removed task address bytes) past refl
    (reached header outside past (before header outside (event.Removed task address bytes) past grown) g r n u
    (second (is_kept header r (event.Removed task address bytes ∷ past)) (in_use header g r past) used) below above)
reached header outside (event.TaskEnded task ∷ past) grown g r n u used below above =
    housed_stays g r u (event.TaskEnded task) past refl
    (reached header outside past (before header outside (event.TaskEnded task) past grown) g r n u
    (second (is_kept header r (event.TaskEnded task ∷ past)) (in_use header g r past) used) below above)
reached header outside (event.Failed task object page ∷ past) grown g r n u used below above =
    housed_stays g r u (event.Failed task object page) past refl
    (reached header outside past (before header outside (event.Failed task object page) past grown) g r n u
    (second (is_kept header r (event.Failed task object page ∷ past)) (in_use header g r past) used) below above)
reached header outside (e ∷ past) grown g r n u used below above =
    reached header outside past (before header outside e past grown) g r n u used below above
