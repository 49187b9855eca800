-- Chains are shorter than there are objects, so that a search down a chain finds each of its places.
use Rattle.std.proofs.Common.{ℕ, zero, suc, ◌+◌, ◌<◌, ◌≤◌, ◌≡◌, ◌==◌, ◌∙◌, ◌&&◌, Bool, true, false, List, [], ◌∷◌, Option, Some, None, if◌then◌else◌}
use Rattle.std.proofs.Common.{ap, sym, refl, subst, inl, inr, arith}
use Rattle.std.proofs.lemmas.Bool.Decides.{eqb_tells, nat_tests}
use Rattle.std.proofs.lemmas.Bool.{and_from, and_parts, cases_lt, false_from_ne_true, or_cases, or_left, or_right}
use Rattle.vm_abroad.proofs.Home.{homes_next, homes_start}
use Rattle.vm_abroad.specs.Home.{HaveHomes}
use Rattle.vm_base.specs.declared.ids.ObjectId.{ObjectId}
use Rattle.vm_base.specs.declared.ids.RegionId.{RegionId}
use Rattle.vm_bound.specs.Accesses.{chain_has}
use Rattle.vm_legal.proofs.Files.{file_named}
use Rattle.vm_legal.proofs.Numbering.{named_objects}
use Rattle.vm_legal.specs.Licences.{HasCause, Shadows}
use Rattle.vm_legal.specs.Outside.{Outside, is_file}
use Rattle.vm_legal.specs.Walks.{Leads}
use Rattle.vm_model.specs.Moments.{EachEvent}
use Rattle.vm_model.specs.Regions.{Backing, backing_of, is_newest, joined, newest_copy, next_object, next_region, over, pushed, region_of, Region}
use Rattle.vm_model.specs.declared.event.Event.{Event}
use Rattle.vm_model.specs.declared.event.Event.TheVariants as event
use Rattle.vm_model.specs.declared.script.Header.{Header}
use Rattle.vm_shared.proofs.Numbering.{AllMade, at_made, numbering}

-- A search down a chain finds a place where the chain leads to it, within the steps that it may take.

pub has_leads : (backings : ℕ → Backing) (n top top_page o p : ℕ) → chain_has backings n top top_page o p ≡ true
    → (steps : ℕ) × Leads backings steps top top_page o p
has_leads backings zero top top_page o p is = absurd (cc)
has_leads backings (suc n) top top_page o p is = elim (or_cases (top == o && top_page == p) _ is) [
  | inl here ↦
      let parts = and_parts (top == o) (top_page == p) here in
      let object : (top == o) ≡ true = parts.0 in
      let page : (top_page == p) ≡ true = parts.1 in
      let same : top ≡ o = grind (arith, nat_tests) in
      let same_page : top_page ≡ p = grind (arith, nat_tests) in
      (zero, (same, same_page))
  | inr below ↦
      let parts = and_parts (backings top).backed _ below in
      let rest = has_leads backings n (backings top).under ((backings top).shift + top_page) o p parts.1 in
      (suc rest.0, (parts.0, rest.1))
]

pub leads_has : (backings : ℕ → Backing) (n steps top top_page o p : ℕ) → steps < n → Leads backings steps top top_page o p
    → chain_has backings n top top_page o p ≡ true
leads_has backings zero steps top top_page o p less leads = absurd (omega (arith, less))
leads_has backings (suc n) zero top top_page o p less leads =
    let object : (top == o) ≡ true = eq_test top o leads.0 in
    let page : (top_page == p) ≡ true = eq_test top_page p leads.1 in
    or_left (top == o && top_page == p) _ (and_from (top == o) (top_page == p) object page)
  where
    eq_test : (a b : ℕ) → a ≡ b → (a == b) ≡ true
    eq_test a b e = grind (arith, nat_tests)
leads_has backings (suc n) (suc steps) top top_page o p less leads =
    or_right (top == o && top_page == p) _ (and_from (backings top).backed _ leads.0
    (leads_has backings n steps (backings top).under ((backings top).shift + top_page) o p (omega (arith, less)) leads.1))

-- How many objects are below one: no chain from it has more steps.

abbrev pub Deep : (ℕ → Backing) → ℕ → ℕ → Type 0
Deep backings zero o = (backings o).backed ≡ false
Deep backings (suc d) o = ((backings o).backed ≡ true) × Deep backings d (backings o).under

no_both : (b : Bool) → b ≡ true → b ≡ false → ⊥
no_both b is isnt = cc

pub leads_short : (backings : ℕ → Backing) (d steps top top_page o p : ℕ) → Deep backings d top → Leads backings steps top top_page o p → steps ≤ d
leads_short backings d zero top top_page o p deep leads = omega arith
leads_short backings zero (suc steps) top top_page o p deep leads = absurd (no_both (backings top).backed leads.0 deep)
leads_short backings (suc d) (suc steps) top top_page o p deep leads =
    let rest = leads_short backings d steps (backings top).under ((backings top).shift + top_page) o p deep.1 leads.1 in omega (arith, rest)

-- fewer than n are below it
abbrev pub Short : (ℕ → Backing) → ℕ → ℕ → Type 0
Short backings n o = (d : ℕ) × (d < n) × Deep backings d o

-- what stands under others is below a number
abbrev pub Closed : (ℕ → Backing) → ℕ → Type 0
Closed backings n = (o : ℕ) → (backings o).backed ≡ true → (backings o).under < n

-- where the backings of the objects below a number are the same, so are their depths
deep_same : (old new : ℕ → Backing) (n d o : ℕ) → ((k : ℕ) → k < n → new k ≡ old k) → Closed old n → o < n → Deep old d o → Deep new d o
deep_same old new n zero o same closed less deep = ap (λ (b : Backing). b.backed) (same o less) ∙ deep
deep_same old new n (suc d) o same closed less deep =
    subst (λ (b : Backing). (b.backed ≡ true) × Deep new d b.under) (sym (same o less))
    (deep.0, deep_same old new n d (old o).under same closed (closed o deep.0) deep.1)

-- so many at most
abbrev UpTo : (ℕ → Backing) → ℕ → ℕ → Type 0
UpTo backings n o = (d : ℕ) × (d ≤ n) × Deep backings d o

-- An object that its backing object is merged into is one less deep, and so is what stands on it.

abbrev merged : (ℕ → Backing) → ℕ → ℕ → ℕ → Backing
merged old upper lower k = joined (k == upper) (old lower) (old k)

deep_joined : (old : ℕ → Backing) (upper lower d o : ℕ) (this : Bool) → (o == upper) ≡ this → (old upper).under ≡ lower → Deep old (suc d) o
    → ((e k : ℕ) → e ≤ d → Deep old e k → UpTo (merged old upper lower) e k) → UpTo (merged old upper lower) (suc d) o
deep_joined old upper lower d o false is on deep below =
    let rest = below d (old o).under (omega arith) deep.1 in (
      suc rest.0,
      omega (arith, rest.1),
      subst (λ (b : Bool). ((joined b (old lower) (old o)).backed ≡ true)
          × Deep (merged old upper lower) rest.0 (joined b (old lower) (old o)).under) (sym is) (deep.0, rest.2),
    )
deep_joined old upper lower d o true is on deep below =
    let same : o ≡ upper = grind (arith, nat_tests) in
    by d (subst (Deep old d) (subst (λ (k : ℕ). (old k).under ≡ lower) (sym same) on) deep.1) below
  where
    by : (n : ℕ) → Deep old n lower → ((e k : ℕ) → e ≤ n → Deep old e k → UpTo (merged old upper lower) e k) → UpTo (merged old upper lower) (suc n) o
    by zero flat below = (zero, omega arith, subst (λ (b : Bool). (joined b (old lower) (old o)).backed ≡ false) (sym is) flat)
    by (suc n) more below =
        let rest = below n (old lower).under (omega arith) more.1 in (
          suc rest.0,
          omega (arith, rest.1),
          subst (λ (b : Bool). ((joined b (old lower) (old o)).backed ≡ true)
              × Deep (merged old upper lower) rest.0 (joined b (old lower) (old o)).under) (sym is) (more.0, rest.2),
        )

deep_merged : (old : ℕ → Backing) (upper lower : ℕ) → (old upper).backed ≡ true → (old upper).under ≡ lower → (n d o : ℕ) → d ≤ n → Deep old d o
    → UpTo (merged old upper lower) d o
deep_merged old upper lower backed on n zero o le deep = by (o == upper) refl
  where
    by : (b : Bool) → (o == upper) ≡ b → UpTo (merged old upper lower) zero o
    by true is =
        let same : o ≡ upper = grind (arith, nat_tests) in
        absurd (no_both (old o).backed (subst (λ (k : ℕ). (old k).backed ≡ true) (sym same) backed) deep)
    by false is = (zero, omega arith, subst (λ (b : Bool). (joined b (old lower) (old o)).backed ≡ false) (sym is) deep)
deep_merged old upper lower backed on zero (suc d) o le deep = absurd (omega (arith, le))
deep_merged old upper lower backed on (suc n) (suc d) o le deep =
    deep_joined old upper lower d o (o == upper) refl on deep (λ e k less below. deep_merged old upper lower backed on n e k (omega (arith, le, less)) below)

-- A new copy of a file stands on the file, and the copy that was the newest until then, which stood on the file, on the new one: what stands on that is
-- one deeper.

abbrev delayed : (ℕ → Backing) → ℕ → ℕ → Option ℕ → ℕ → Backing
delayed old source copy newest k = pushed (k == copy) (is_newest k newest) source copy (old k)

is_newest_some : (o : ℕ) (newest : Option ℕ) → is_newest o newest ≡ true → newest ≡ Some o
is_newest_some o None is = absurd (cc)
is_newest_some o (Some v) is = let same : o ≡ v = grind (arith, nat_tests) in ap (λ (k : ℕ). Some k) (sym same)

-- what is asked of a new copy: it has a number behind all others; the file stands on nothing, and the copy that was its newest on something
pub record Delays (old : ℕ → Backing) (n source copy : ℕ) (newest : Option ℕ) : Type 0 where
  pub closed : Closed old n
  pub fresh : n ≤ copy
  pub flat : (old source).backed ≡ false
  pub file : source < n
  pub stands : (v : ℕ) → newest ≡ Some v → (old v).backed ≡ true

-- so what stands on nothing is not the newest, and what is neither the newest nor the new copy stands where it stood

not_newest : (old : ℕ → Backing) (n source copy o : ℕ) (newest : Option ℕ) → Delays old n source copy newest → (old o).backed ≡ false
    → is_newest o newest ≡ false
not_newest old n source copy o newest it flat =
    false_from_ne_true (is_newest o newest) (λ is. no_both (old o).backed (it.stands o (is_newest_some o newest is)) flat)

delayed_same : (old : ℕ → Backing) (n source copy o : ℕ) (newest : Option ℕ) → n ≤ copy → o < n → is_newest o newest ≡ false
    → delayed old source copy newest o ≡ old o
delayed_same old n source copy o newest fresh less isnt =
    let other : (o == copy) ≡ false = grind (arith, nat_tests) in
    ap (λ (b : Bool). pushed b (is_newest o newest) source copy (old o)) other ∙ ap (λ (b : Bool). pushed false b source copy (old o)) isnt

-- the file stays on the ground, the new copy is one deep, and each object that was made before is one deeper at most

deep_file : (old : ℕ → Backing) (n source copy : ℕ) (newest : Option ℕ) → Delays old n source copy newest → Deep (delayed old source copy newest) 0 source
deep_file old n source copy newest it =
    let other = not_newest old n source copy source newest it it.flat in
    ap (λ (b : Backing). b.backed) (delayed_same old n source copy source newest it.fresh it.file other) ∙ it.flat

deep_copy : (old : ℕ → Backing) (n source copy : ℕ) (newest : Option ℕ) → Delays old n source copy newest → Deep (delayed old source copy newest) 1 copy
deep_copy old n source copy newest it =
    let same : (copy == copy) ≡ true = grind (arith, nat_tests) in
    subst (λ (b : Bool). ((pushed b (is_newest copy newest) source copy (old copy)).backed ≡ true)
    × Deep (delayed old source copy newest) 0 (pushed b (is_newest copy newest) source copy (old copy)).under) (sym same)
    (refl, deep_file old n source copy newest it)

deep_delayed : (old : ℕ → Backing) (n source copy : ℕ) (newest : Option ℕ) → Delays old n source copy newest → (d o : ℕ) → o < n → Deep old d o
    → UpTo (delayed old source copy newest) (suc d) o
deep_delayed old n source copy newest it zero o less deep =
    let other = not_newest old n source copy o newest it deep in
    (zero, omega arith, ap (λ (b : Backing). b.backed) (delayed_same old n source copy o newest it.fresh less other) ∙ deep)
deep_delayed old n source copy newest it (suc d) o less deep =
    by (is_newest o newest) refl (deep_delayed old n source copy newest it d (old o).under (it.closed o deep.0) deep.1)
  where
    by : (b : Bool) → is_newest o newest ≡ b → UpTo (delayed old source copy newest) (suc d) (old o).under
        → UpTo (delayed old source copy newest) (suc (suc d)) o
    by true is rest =
        let fresh = it.fresh in
        let other : (o == copy) ≡ false = grind (arith, nat_tests) in (
          2,
          omega arith,
          subst (λ (b : Backing). (b.backed ≡ true) × Deep (delayed old source copy newest) 1 b.under)
              (sym (ap (λ (b : Bool). pushed b (is_newest o newest) source copy (old o)) other ∙ ap (λ (b : Bool). pushed false b source copy (old o)) is))
              (refl, deep_copy old n source copy newest it),
        )
    by false isnt rest = (
      suc rest.0,
      omega (arith, rest.1),
      subst (λ (b : Backing). (b.backed ≡ true) × Deep (delayed old source copy newest) rest.0 b.under)
          (sym (delayed_same old n source copy o newest it.fresh less isnt)) (deep.0, rest.2),
    )

-- A shadow is one deeper than what it stands on.

abbrev shadowing : (ℕ → Backing) → ℕ → Region → ℕ → Backing
shadowing old new region k = over (k == new) region (old k)

shadow_same : (old : ℕ → Backing) (n new o : ℕ) (region : Region) → n ≤ new → o < n → shadowing old new region o ≡ old o
shadow_same old n new o region fresh less =
    let other : (o == new) ≡ false = grind (arith, nat_tests) in ap (λ (b : Bool). over b region (old o)) other

deep_shadow : (old : ℕ → Backing) (n new d : ℕ) (region : Region) → Closed old n → n ≤ new → region.top < n → Deep old d region.top
    → Deep (shadowing old new region) (suc d) new
deep_shadow old n new d region closed fresh less deep =
    let same : (new == new) ≡ true = grind (arith, nat_tests) in
    subst (λ (b : Bool). ((over b region (old new)).backed ≡ true) × Deep (shadowing old new region) d (over b region (old new)).under) (sym same)
    (refl, deep_same old (shadowing old new region) n d region.top (λ k small. shadow_same old n new k region fresh small) closed less deep)

-- So it is with the chains of a history: regions stand on objects that were made, and these on each other.

pub record Linked (header : Header) (past : List Event) : Type 0 where
  pub homes : HaveHomes header past
  pub made : AllMade header past
  pub tops : (r : ℕ) → r < next_region header past → (region_of header r past).top < next_object header past
  pub closed : Closed (λ k. backing_of header k past) (next_object header past)
  pub short : (o : ℕ) → o < next_object header past → Short (λ k. backing_of header k past) (next_object header past) o

top_if : (r s m top was : ℕ) → top < m → ((r ≡ s → ⊥) → was < m) → (if r == s then top else was) < m
top_if r s m top was new old = elim (eqb_tells r s) [
  | inl same ↦ subst (λ (b : Bool). (if b then top else was) < m) (sym same.0) new
  | inr apart ↦ subst (λ (b : Bool). (if b then top else was) < m) (sym apart.0) (old apart.1)
]

-- the tops of regions were made
tops_next : (header : Header) (outside : Outside) (e : Event) (past : List Event) → HasCause header outside e past → Linked header past
    → (r : ℕ) → r < next_region header (e ∷ past) → (region_of header r (e ∷ past)).top < next_object header (e ∷ past)
tops_next header outside (event.RegionMade region object pages) past c was r less =
    let number = c.1.0 in
    let next = c.1.1 in
    top_if r region.0 (next_object header past + 1) object.0 (region_of header r past).top (omega (arith, next))
    (λ apart. let old = was.tops r (omega (arith, less, apart, number)) in omega (arith, old))
tops_next header outside (event.RegionCopied region source offset pages) past c was r less =
    let number = c.1.next in
    let source_made = subst (λ k. k < next_region header past) (sym c.1.source_is) (at_made header c.1.task c.1.address past was.made c.1.at) in
    top_if r region.0 (next_object header past) (region_of header source.0 past).top (region_of header r past).top (was.tops source.0 source_made)
    (λ apart. was.tops r (omega (arith, less, apart, number)))
tops_next header outside (event.Delayed region source offset pages copy) past c was r less =
    let number = c.1.next in
    let next = c.1.new in
    top_if r region.0 (next_object header past + 1) copy.0 (region_of header r past).top (omega (arith, next))
    (λ apart. let old = was.tops r (omega (arith, less, apart, number)) in omega (arith, old))
tops_next header outside (event.Shadowed region new old) past c was r less =
    let next = c.1.next in
    let before = was.tops r less in
    top_if r region.0 (next_object header past + 1) new.0 (region_of header r past).top (omega (arith, next)) (λ apart. omega (arith, before))
tops_next header outside e past c was r less = was.tops r less

-- the top of the region that gets a shadow was made
shadowed_top : (header : Header) (region new old : ℕ) (past : List Event) → Shadows header region new old past → Linked header past
    → (region_of header region past).top < next_object header past
shadowed_top header region new old past c was =
    was.tops region (subst (λ k. k < next_region header past) (sym c.region_is) (at_made header c.task _ past was.made c.waits.at))

closed_if : (b before : Bool) (n new under : ℕ) → new < n → (before ≡ true → under < n) → (if b then true else before) ≡ true → (if b then new else under) < n
closed_if true before n new under less old on = less
closed_if false before n new under less old on = old on

closed_joined : (b below before : Bool) (n new under : ℕ) → (below ≡ true → new < n) → (before ≡ true → under < n) → (if b then below else before) ≡ true
    → (if b then new else under) < n
closed_joined true below before n new under less old on = less on
closed_joined false below before n new under less old on = old on

-- what stands under others was made
closed_next : (header : Header) (outside : Outside) (e : Event) (past : List Event) → HasCause header outside e past → Linked header past
    → Closed (λ k. backing_of header k (e ∷ past)) (next_object header (e ∷ past))
closed_next header outside (event.RegionMade region object pages) past c was o on = let old = was.closed o on in omega (arith, old)
closed_next header outside (event.Delayed region source offset pages copy) past c was o on =
    let next = c.1.new in
    let low = file_named header source.0 c.1.file in
    let more = named_objects header past in
    closed_if (o == copy.0) (if is_newest o (newest_copy source.0 past) then true else (backing_of header o past).backed) (next_object header past + 1) source.0
    (if is_newest o (newest_copy source.0 past) then copy.0 else (backing_of header o past).under) (omega (arith, low, more))
    (closed_if (is_newest o (newest_copy source.0 past)) (backing_of header o past).backed (next_object header past + 1) copy.0
    (backing_of header o past).under (omega (arith, next)) (λ backed. let old = was.closed o backed in omega (arith, old))) on
closed_next header outside (event.Shadowed region new old) past c was o on =
    let top = shadowed_top header region.0 new.0 old.0 past c.1 was in
    closed_if (o == new.0) (backing_of header o past).backed (next_object header past + 1) (region_of header region.0 past).top
    (backing_of header o past).under (omega (arith, top)) (λ backed. let before = was.closed o backed in omega (arith, before)) on
closed_next header outside (event.Merged upper lower) past c was o on =
    closed_joined (o == upper.0) (backing_of header lower.0 past).backed (backing_of header o past).backed (next_object header past)
    (backing_of header lower.0 past).under (backing_of header o past).under (was.closed lower.0) (was.closed o) on
closed_next header outside e past c was o on = was.closed o on

-- Each event that makes a chain longer, by one step, makes an object too.

short_made : (header : Header) (region : RegionId) (object : ObjectId) (pages : ℕ) (past : List Event) → Linked header past → (o : ℕ)
    → o < next_object header past + 1 → Short (λ k. backing_of header k past) (next_object header past + 1) o
short_made header region object pages past was o less = elim (cases_lt o (next_object header past)) [
  | inl old ↦ let it = was.short o old in (it.0, omega (arith, it.1), it.2)
  | inr new ↦ (zero, omega arith, was.homes.unmade o new)
]

delays_of : (header : Header) (source copy : ℕ) (past : List Event) → copy ≡ next_object header past → is_file header source ≡ true → Linked header past
    → Delays (λ k. backing_of header k past) (next_object header past) source copy (newest_copy source past)
delays_of header source copy past number file was =
    let low = file_named header source file in
    let more = named_objects header past in
    record {
      closed = was.closed;
      fresh = omega (arith, number);
      flat = was.homes.bare source low;
      file = omega (arith, low, more);
      stands = λ v is. ap (λ (b : Backing). b.backed) (was.homes.copies source v is).stands;
    }

short_delayed : (header : Header) (region source : RegionId) (offset pages : ℕ) (copy : ObjectId) (past : List Event) → copy.0 ≡ next_object header past
    → is_file header source.0 ≡ true → Linked header past → (o : ℕ) → o < next_object header past + 1
    → Short (λ k. backing_of header k (event.Delayed region source offset pages copy ∷ past)) (next_object header past + 1) o
short_delayed header region source offset pages copy past number file was o less =
    let it = delays_of header source.0 copy.0 past number file was in
    elim (cases_lt o (next_object header past)) [
      | inl small ↦
          let before = was.short o small in
          let now =
          deep_delayed (λ k. backing_of header k past) (next_object header past) source.0 copy.0 (newest_copy source.0 past) it before.0 o small before.2 in
          (now.0, omega (arith, now.1, before.1), now.2)
      | inr new ↦
          let low = it.file in
          let same : copy.0 ≡ o = omega (arith, number, less, new) in (
            1,
            omega (arith, low),
            subst (Deep (λ k. backing_of header k (event.Delayed region source offset pages copy ∷ past)) 1) same
                (deep_copy (λ k. backing_of header k past) (next_object header past) source.0 copy.0 (newest_copy source.0 past) it),
          )
    ]

short_shadowed : (header : Header) (region : RegionId) (new old : ObjectId) (past : List Event) → Shadows header region.0 new.0 old.0 past → Linked header past
    → (o : ℕ) → o < next_object header past + 1 → Short (λ k. backing_of header k (event.Shadowed region new old ∷ past)) (next_object header past + 1) o
short_shadowed header region new old past c was o less =
    let next = c.next in
    let fresh : next_object header past ≤ new.0 = omega (arith, next) in
    let top = shadowed_top header region.0 new.0 old.0 past c was in
    elim (cases_lt o (next_object header past)) [
      | inl small ↦
          let before = was.short o small in (
            before.0,
            omega (arith, before.1),
            deep_same (λ k. backing_of header k past) (λ k. backing_of header k (event.Shadowed region new old ∷ past))
                (next_object header past) before.0 o
                (λ k less. shadow_same (λ k. backing_of header k past) (next_object header past) new.0 k (region_of header region.0 past) fresh less)
                was.closed small before.2,
          )
      | inr made ↦
          let before = was.short (region_of header region.0 past).top top in
          let same : new.0 ≡ o = omega (arith, next, less, made) in (
            suc before.0,
            omega (arith, before.1),
            subst (Deep (λ k. backing_of header k (event.Shadowed region new old ∷ past)) (suc before.0)) same
                (deep_shadow (λ k. backing_of header k past) (next_object header past) new.0 before.0 (region_of header region.0 past) was.closed
                fresh top before.2),
          )
    ]

short_next : (header : Header) (outside : Outside) (e : Event) (past : List Event) → HasCause header outside e past → Linked header past → (o : ℕ)
    → o < next_object header (e ∷ past) → Short (λ k. backing_of header k (e ∷ past)) (next_object header (e ∷ past)) o
short_next header outside (event.RegionMade region object pages) past c was o less = short_made header region object pages past was o less
short_next header outside (event.Delayed region source offset pages copy) past c was o less =
    short_delayed header region source offset pages copy past c.1.new c.1.file was o less
short_next header outside (event.Shadowed region new old) past c was o less = short_shadowed header region new old past c.1 was o less
short_next header outside (event.Merged upper lower) past c was o less =
    let before = was.short o less in
    let now = deep_merged (λ k. backing_of header k past) upper.0 lower.0 c.1.pair.backed c.1.pair.under before.0 before.0 o (omega arith) before.2 in
    (now.0, omega (arith, now.1, before.1), now.2)
short_next header outside e past c was o less = was.short o less

pub linked : (header : Header) (outside : Outside) (past : List Event) → EachEvent (HasCause header outside) past → Linked header past
linked header outside [] caused =
    record {
      homes = homes_start header;
      made = λ task. tt;
      tops = λ r less. less;
      closed = λ o on. absurd (cc);
      short = λ o less. (zero, omega (arith, less), refl);
    }
linked header outside (e ∷ past) caused =
    let was : Linked header past = linked header outside past caused.1 in
    record {
      homes = homes_next header outside e past caused.0 was.homes;
      made = (numbering header outside (e ∷ past) caused).made;
      tops = tops_next header outside e past caused.0 was;
      closed = closed_next header outside e past caused.0 was;
      short = short_next header outside e past caused.0 was;
    }

-- the steps of a chain are fewer than the objects
pub chain_is_short : (header : Header) (outside : Outside) (past : List Event) → EachEvent (HasCause header outside) past → (steps top top_page o p : ℕ)
    → top < next_object header past → Leads (λ k. backing_of header k past) steps top top_page o p → steps < next_object header past
chain_is_short header outside past caused steps top top_page o p less leads =
    let short = (linked header outside past caused).short top less in
    let most = leads_short (λ k. backing_of header k past) short.0 steps top top_page o p short.2 leads in
    omega (arith, most, short.1)

-- one step more finds no other places
pub more_fuel : (header : Header) (outside : Outside) (past : List Event) → EachEvent (HasCause header outside) past → (top top_page o p : ℕ)
    → top < next_object header past → chain_has (λ k. backing_of header k past) (suc (next_object header past)) top top_page o p
    ≡ chain_has (λ k. backing_of header k past) (next_object header past) top top_page o p
more_fuel header outside past caused top top_page o p less =
    same _ _ (λ is. let it = has_leads (λ k. backing_of header k past) (suc (next_object header past)) top top_page o p is in
    leads_has (λ k. backing_of header k past) (next_object header past) it.0 top top_page o p
    (chain_is_short header outside past caused it.0 top top_page o p less it.1) it.1)
    (λ is. let it = has_leads (λ k. backing_of header k past) (next_object header past) top top_page o p is in
    let short = chain_is_short header outside past caused it.0 top top_page o p less it.1 in
    leads_has (λ k. backing_of header k past) (suc (next_object header past)) it.0 top top_page o p (omega (arith, short)) it.1)
  where
    same : (a b : Bool) → (a ≡ true → b ≡ true) → (b ≡ true → a ≡ true) → a ≡ b
    same true b one two = sym (one refl)
    same false true one two = two refl
    same false false one two = refl
