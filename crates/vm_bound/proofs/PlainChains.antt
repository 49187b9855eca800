-- What is wanted behind the events that change chains, entries, or the pages of slow copies.
use Rattle.std.proofs.Common.{ℕ, zero, suc, ◌≡◌, ◌+◌, ◌==◌, ◌<◌, ◌≤◌, Bool, true, false, List, ◌∷◌, ap, sym, refl, subst}
use Rattle.std.proofs.Common.{arith, inl, inr}
use Rattle.std.proofs.lemmas.Bool.Decides.{eqb_tells, nat_tests}
use Rattle.vm_base.specs.Limits.{most_tasks}
use Rattle.vm_base.specs.declared.ids.ObjectId.{ObjectId}
use Rattle.vm_base.specs.declared.ids.RegionId.{RegionId}
use Rattle.vm_bound.proofs.Depths.{Closed, Linked, linked}
use Rattle.vm_bound.proofs.Wanting.{Wanting, any_is, any_of, wants_is, wants_of}
use Rattle.vm_bound.specs.Accesses.{any_wants, is_wanted, wants}
use Rattle.vm_legal.specs.Accesses.{At, HasPlace}
use Rattle.vm_legal.specs.Licences.{HasCause}
use Rattle.vm_legal.specs.Outside.{Outside}
use Rattle.vm_legal.specs.Walks.{Leads}
use Rattle.vm_model.specs.Moments.{EachEvent}
use Rattle.vm_model.specs.Regions.{Backing, Region, backing_of, joined, next_object, next_region, over, region_of, shadowed}
use Rattle.vm_model.specs.Waiting.{address_of, next_page}
use Rattle.vm_model.specs.declared.event.Event.{Event}
use Rattle.vm_model.specs.declared.event.Event.TheVariants as event
use Rattle.vm_model.specs.declared.script.Header.{Header}
use Rattle.vm_shared.proofs.Numbering.{at_made}

-- What each task wants, if it wanted it before, was wanted before.

abbrev pub Wanted : Header → ℕ → ℕ → ℕ → ℕ → List Event → Type 0
Wanted header task h o p past = Wanting header (λ access. true) task h o p past

pub wanted_by : (header : Header) (outside : Outside) (n task h o p : ℕ) (past : List Event) → EachEvent (HasCause header outside) past → task < n
    → Wanted header task h o p past → any_wants header (λ access. true) n h o p past ≡ true
wanted_by header outside n task h o p past caused less w =
    any_of header (λ access. true) n task h o p past less
    (subst (λ (k : ℕ). wants header (λ access. true) task k o p past ≡ true) w.on_host
    (wants_of header outside (λ access. true) task o p w.access past caused w.waits refl w.place))

pub wanted_moved : (header : Header) (outside : Outside) (h o p : ℕ) (e : Event) (past : List Event) → EachEvent (HasCause header outside) past
    → ((task : ℕ) → Wanted header task h o p (e ∷ past) → Wanted header task h o p past)
    → is_wanted header h o p (e ∷ past) ≡ true → is_wanted header h o p past ≡ true
wanted_moved header outside h o p e past caused each wanted =
    let it = any_is header (λ access. true) most_tasks h o p (e ∷ past) wanted in
    wanted_by header outside most_tasks it.0 h o p past caused it.1 (each it.0 (wants_is header (λ access. true) it.0 h o p (e ∷ past) it.2))

-- A shadow.

-- chains of objects that were there before are the same
leads_before : (old new : ℕ → Backing) (n steps top top_page o p : ℕ) → ((k : ℕ) → k < n → new k ≡ old k) → Closed old n → top < n
    → Leads new steps top top_page o p → Leads old steps top top_page o p
leads_before old new n zero top top_page o p same closed less leads = leads
leads_before old new n (suc steps) top top_page o p same closed less leads =
    let now : ((old top).backed ≡ true) × Leads new steps (old top).under ((old top).shift + top_page) o p =
    subst (λ (b : Backing). (b.backed ≡ true) × Leads new steps b.under (b.shift + top_page) o p) (same top less) leads in
    (now.0, leads_before old new n steps (old top).under ((old top).shift + top_page) o p same closed (closed top now.0) now.1)

-- that of the new object goes on as the region's did
leads_over : (old : ℕ → Backing) (n fresh steps page o p : ℕ) (region : Region) → n ≤ fresh → Closed old n → region.top < n → (o ≡ fresh → ⊥)
    → Leads (λ k. over (k == fresh) region (old k)) steps fresh page o p
    → (steps : ℕ) × Leads old steps region.top (region.shift + page) o p
leads_over old n fresh zero page o p region high closed less other leads = absurd (other (sym leads.0))
leads_over old n fresh (suc steps) page o p region high closed less other leads =
    let own : (fresh == fresh) ≡ true = grind (arith, nat_tests) in
    let now : (true ≡ true) × Leads (λ k. over (k == fresh) region (old k)) steps region.top (region.shift + page) o p =
    subst (λ (b : Bool). ((over b region (old fresh)).backed ≡ true)
    × Leads (λ k. over (k == fresh) region (old k)) steps (over b region (old fresh)).under ((over b region (old fresh)).shift + page) o p) own leads in
    (steps, leads_before old (λ k. over (k == fresh) region (old k)) n steps region.top (region.shift + page) o p same closed less now.1)
  where
    same : (k : ℕ) → k < n → over (k == fresh) region (old k) ≡ old k
    same k small = let apart : (k == fresh) ≡ false = grind (arith, nat_tests) in ap (λ (b : Bool). over b region (old k)) apart

-- a place of a page of a region, but that of the new object, was one of its before
shadowed_place : (header : Header) (r page o p : ℕ) (region : RegionId) (new old : ObjectId) (past : List Event) → Linked header past
    → new.0 ≡ next_object header past → r < next_region header past → (o ≡ new.0 → ⊥) → HasPlace header r page o p (event.Shadowed region new old ∷ past)
    → HasPlace header r page o p past
shadowed_place header r page o p region new old past was fresh made other place = elim (eqb_tells r region.0) [
  | inl is ↦ own is.1 is.0
  | inr apart ↦ apart_place apart.0
]
  where
    backings : ℕ → Backing
    backings k = backing_of header k past

    now : ℕ → Backing
    now k = over (k == new.0) (region_of header region.0 past) (backing_of header k past)

    less : (region_of header r past).top < next_object header past
    less = was.tops r made

    same : (k : ℕ) → k < next_object header past → now k ≡ backings k
    same k small =
        let apart : (k == new.0) ≡ false = grind (arith, nat_tests) in
        ap (λ (b : Bool). over b (region_of header region.0 past) (backing_of header k past)) apart

    top_at : (b : Bool) → (r == region.0) ≡ b → (shadowed b new.0 (region_of header r past)).top ≡ place.top
    top_at b is = subst (λ (c : Bool). (shadowed c new.0 (region_of header r past)).top ≡ place.top) is place.is_top.object

    page_at_top : (b : Bool) → (r == region.0) ≡ b → (shadowed b new.0 (region_of header r past)).shift + page ≡ place.top_page
    page_at_top b is = subst (λ (c : Bool). (shadowed c new.0 (region_of header r past)).shift + page ≡ place.top_page) is place.is_top.page

    apart_place : (r == region.0) ≡ false → HasPlace header r page o p past
    apart_place is =
        record {
          top = place.top;
          top_page = place.top_page;
          steps = place.steps;
          is_top = record { object = top_at false is; page = page_at_top false is };
          leads =
              leads_before backings now (next_object header past) place.steps place.top place.top_page o p same was.closed
              (subst (λ (k : ℕ). k < next_object header past) (top_at false is) less) place.leads;
        }

    own : r ≡ region.0 → (r == region.0) ≡ true → HasPlace header r page o p past
    own region_is is =
        let from : Leads now place.steps new.0 page o p =
        subst (λ (k : ℕ). Leads now place.steps k page o p) (sym (top_at true is))
        (subst (λ (q : ℕ). Leads now place.steps place.top q o p) (let e = page_at_top true is in omega (arith, e)) place.leads) in
        let it =
        leads_over backings (next_object header past) new.0 place.steps page o p (region_of header region.0 past) (omega (arith, fresh)) was.closed
        (subst (λ (k : ℕ). (region_of header k past).top < next_object header past) region_is less) other from in
        subst (λ (k : ℕ). HasPlace header k page o p past) (sym region_is)
        (record {
          top = (region_of header region.0 past).top;
          top_page = (region_of header region.0 past).shift + page;
          steps = it.0;
          is_top = record { object = refl; page = refl };
          leads = it.1;
        })

pub shadowed_wanted : (header : Header) (outside : Outside) (h o p : ℕ) (region : RegionId) (new old : ObjectId) (past : List Event)
    → EachEvent (HasCause header outside) past → new.0 ≡ next_object header past → (o ≡ new.0 → ⊥)
    → is_wanted header h o p (event.Shadowed region new old ∷ past) ≡ true → is_wanted header h o p past ≡ true
shadowed_wanted header outside h o p region new old past caused fresh other =
    wanted_moved header outside h o p (event.Shadowed region new old) past caused
    (λ task w. let was = linked header outside past caused in
    let at : At header task (address_of header.size (next_page task past) w.access) past =
    record { host = w.waits.at.host; entry = w.waits.at.entry; lives = w.waits.at.lives; found = w.waits.at.found } in
    record {
      access = w.access;
      waits = record { waits = w.waits.waits; at = at; left = w.waits.left };
      on_host = w.on_host;
      kind = refl;
      place = shadowed_place header w.waits.at.entry.region.0 _ o p region new old past was fresh (at_made header task _ past was.made at) other w.place;
    })

-- A merge.

-- each place of a chain in which an object was merged with the one below was one of its before
leads_joined : (old : ℕ → Backing) (upper lower steps top top_page o p : ℕ) → (old upper).backed ≡ true → (old upper).under ≡ lower
    → Leads (λ k. joined (k == upper) (old lower) (old k)) steps top top_page o p → (n : ℕ) × Leads old n top top_page o p
leads_joined old upper lower zero top top_page o p backed under leads = (zero, leads)
leads_joined old upper lower (suc steps) top top_page o p backed under leads = elim (eqb_tells top upper) [
  | inl same ↦
      let now = at true same.0 leads in
      let rest = leads_joined old upper lower steps (old lower).under ((old lower).shift + (old upper).shift + top_page) o p backed under
      (subst (λ (k : ℕ). Leads (λ k. joined (k == upper) (old lower) (old k)) steps (old lower).under ((old lower).shift + (old k).shift + top_page) o p)
      same.1 now.1) in
      let sum : (old lower).shift + (old upper).shift + top_page ≡ (old lower).shift + ((old upper).shift + top_page) = omega arith in
      let below : Leads old rest.0 (old lower).under ((old lower).shift + ((old upper).shift + top_page)) o p =
      subst (λ (q : ℕ). Leads old rest.0 (old lower).under q o p) sum rest.1 in
      let upon : ((old upper).backed ≡ true) × Leads old (suc rest.0) (old upper).under ((old upper).shift + top_page) o p = (
        backed,
        subst (λ (k : ℕ). Leads old (suc rest.0) k ((old upper).shift + top_page) o p) (sym under) (now.0, below),
      ) in
      (suc (suc rest.0), subst (λ (k : ℕ). Leads old (suc (suc rest.0)) k top_page o p) (sym same.1) upon)
  | inr apart ↦
      let now = at false apart.0 leads in
      let rest = leads_joined old upper lower steps (old top).under ((old top).shift + top_page) o p backed under now.1 in
      (suc rest.0, (now.0, rest.1))
]
  where
    now : ℕ → Backing
    now k = joined (k == upper) (old lower) (old k)

    turn : Bool → Backing
    turn b = joined b (old lower) (old top)

    at : (b : Bool) → (top == upper) ≡ b → Leads now (suc steps) top top_page o p
        → ((turn b).backed ≡ true) × Leads now steps (turn b).under ((turn b).shift + top_page) o p
    at b is leads =
        subst (λ (c : Bool). ((turn c).backed ≡ true) × Leads now steps (turn c).under ((turn c).shift + top_page) o p) is leads

pub merged_wanted : (header : Header) (outside : Outside) (h o p : ℕ) (upper lower : ObjectId) (past : List Event) → EachEvent (HasCause header outside) past
    → (backing_of header upper.0 past).backed ≡ true → (backing_of header upper.0 past).under ≡ lower.0
    → is_wanted header h o p (event.Merged upper lower ∷ past) ≡ true → is_wanted header h o p past ≡ true
merged_wanted header outside h o p upper lower past caused backed under =
    wanted_moved header outside h o p (event.Merged upper lower) past caused
    (λ task w. let it =
    leads_joined (λ k. backing_of header k past) upper.0 lower.0 w.place.steps w.place.top w.place.top_page o p backed under w.place.leads in
    record {
      access = w.access;
      waits = record {
        waits = w.waits.waits;
        at = record { host = w.waits.at.host; entry = w.waits.at.entry; lives = w.waits.at.lives; found = w.waits.at.found };
        left = w.waits.left;
      };
      on_host = w.on_host;
      kind = refl;
      place = record { top = w.place.top; top_page = w.place.top_page; steps = it.0; is_top = w.place.is_top; leads = it.1 };
    })
