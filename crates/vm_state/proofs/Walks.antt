-- A walk down a chain, by the rows of a host and as the history has it.
use Rattle.std.proofs.Common.{List, None, Some, ap, arith, false, inl, inr, refl, subst, suc, sym, true, zero, ℕ, ◌+◌, ◌<◌, ◌∙◌, ◌≡◌, ◌≤◌}
use Rattle.std.specs.Prelude.{◌≢◌, ◌⊎◌}
use Rattle.vm_parts.proofs.Rows.{some_is}
use Rattle.vm_base.specs.declared.ids.PageKey.{PageKey}
use Rattle.vm_state.proofs.Passing.{one_under}
use Rattle.vm_fault.specs.Walks.{IsUnder, MayCome, PassesOver, Sinks, WalksTo, top_place}
use Rattle.vm_legal.proofs.Files.{file_named}
use Rattle.vm_legal.specs.Accesses.{Comes, HasPlace}
use Rattle.vm_legal.specs.Outside.{is_file}
use Rattle.vm_legal.specs.Walks as legal
use Rattle.vm_legal.specs.Walks.{Below, IsTop, Leads, Sight, Walks, sight}
use Rattle.vm_model.specs.Named.{named}
use Rattle.vm_model.specs.Regions.{Backing, Region, backing_of, region_of}
use Rattle.vm_model.specs.declared.event.Event.{Event}
use Rattle.vm_model.specs.declared.script.Header.{Header}
use Rattle.vm_objects.specs.Objects.{ObjectTable, absent_at}
use Rattle.vm_objects.specs.declared.row.ObjectRow.{ObjectRow}
use Rattle.vm_objects.specs.declared.row.PagerState.TheVariants as state
use Rattle.vm_parts.specs.declared.parts.HostParts.{HostParts}
use Rattle.vm_resident.specs.Resident.{row_at}
use Rattle.vm_resident.specs.declared.page_row.PageRow.{PageRow}
use Rattle.vm_shadow.specs.Chains.{ChainTable, region_at, shadow_at}
use Rattle.vm_shadow.specs.declared.region_row.RegionRow.{RegionRow}
use Rattle.vm_state.proofs.Files.{file_has_pager}
use Rattle.vm_state.proofs.Shown.{IsShown, passes_of}
use Rattle.vm_state.specs.Pagers.{has_pager}
use Rattle.vm_state.specs.Stands.{HasKinds, IsUnderKind}
use Rattle.vm_state.specs.Waiters.{LeadsTo}
use Rattle.vm_terminate.specs.Finishes.{IsReferred}

-- the place under one, as the history has it
pub record Descends (backing : Backing) (page : ℕ) (next : PageKey) : Type 0 where
  pub backed : backing.backed ≡ true
  pub object : next.object.0 ≡ backing.under
  pub page_is : next.page.0 ≡ backing.shift + page

pub descends_of : {header : Header} {h : ℕ} {parts : HostParts} {chains : ChainTable} {past : List Event} → IsShown header h parts chains past
    → (from next : PageKey) → IsUnder chains from next → Descends (backing_of header from.object.0 past) from.page.0 next
descends_of {header = header} {past = past} s from next under =
    let is : backing_of header from.object.0 past ≡ record { backed = true; under = under.row.under.0; shift = under.row.shift } = s.shadows from.object.0
    under.row under.found in
    let page : next.page.0 ≡ from.page.0 + under.row.shift = ap (λ (z : PageKey). z.page.0) under.is in
    let shift : (backing_of header from.object.0 past).shift ≡ under.row.shift = ap (λ (z : Backing). z.shift) is in
    record {
      backed = ap (λ (z : Backing). z.backed) is;
      object = ap (λ (z : PageKey). z.object.0) under.is ∙ sym (ap (λ (z : Backing). z.under) is);
      page_is = omega (arith, page, shift);
    }

-- the same chains and walks, from a place that is the same
leads_at : (backings : ℕ → Backing) (n o p o2 p2 l lp : ℕ) → o ≡ o2 → p ≡ p2 → Leads backings n o p l lp → Leads backings n o2 p2 l lp
leads_at backings n o p o2 p2 l lp object page leads =
    subst (λ (z : ℕ). Leads backings n z p2 l lp) object (subst (λ (z : ℕ). Leads backings n o z l lp) page leads)

walks_at : (sights : ℕ → ℕ → Sight) (backings : ℕ → Backing) (n o p o2 p2 l lp : ℕ) → o ≡ o2 → p ≡ p2 → Walks sights backings n o p l lp
    → Walks sights backings n o2 p2 l lp
walks_at sights backings n o p o2 p2 l lp object page walks =
    subst (λ (z : ℕ). Walks sights backings n z p2 l lp) object (subst (λ (z : ℕ). Walks sights backings n o z l lp) page walks)

sinks_at : (sights : ℕ → ℕ → Sight) (backings : ℕ → Backing) (n o p o2 p2 : ℕ) → o ≡ o2 → p ≡ p2 → legal.Sinks sights backings n o p
    → legal.Sinks sights backings n o2 p2
sinks_at sights backings n o p o2 p2 object page sinks =
    subst (λ (z : ℕ). legal.Sinks sights backings n z p2) object (subst (λ (z : ℕ). legal.Sinks sights backings n o z) page sinks)

-- a walk of the host is one of the history
pub walks_of : {header : Header} {h : ℕ} {parts : HostParts} {chains : ChainTable} {past : List Event} → IsShown header h parts chains past
    → (n : ℕ) (from to : PageKey) → WalksTo parts chains n from to
    → Walks (λ k q. sight header h k q past) (λ k. backing_of header k past) n from.object.0 from.page.0 to.object.0 to.page.0
walks_of s zero from to walks = (ap (λ (z : PageKey). z.object.0) walks, ap (λ (z : PageKey). z.page.0) walks)
walks_of {header = header} {h = h} {past = past} s (suc n) from to walks =
    let next = walks.1.0 in
    let down = descends_of s from next walks.1.1 in
    let backing = backing_of header from.object.0 past in (
      passes_of s from walks.0,
      down.backed,
      walks_at (λ k q. sight header h k q past) (λ k. backing_of header k past) n next.object.0 next.page.0 backing.under (backing.shift + from.page.0)
          to.object.0 to.page.0 down.object down.page_is (walks_of s n next to walks.1.2),
    )

-- a chain of the host is one of the history
pub leads_of : {header : Header} {h : ℕ} {parts : HostParts} {chains : ChainTable} {past : List Event} → IsShown header h parts chains past
    → (n : ℕ) (from to : PageKey) → LeadsTo chains n from to
    → Leads (λ k. backing_of header k past) n from.object.0 from.page.0 to.object.0 to.page.0
leads_of s zero from to leads = (ap (λ (z : PageKey). z.object.0) leads, ap (λ (z : PageKey). z.page.0) leads)
leads_of {header = header} {past = past} s (suc n) from to leads =
    let next = leads.0 in
    let down = descends_of s from next leads.1 in
    let backing = backing_of header from.object.0 past in (
      down.backed,
      leads_at (λ k. backing_of header k past) n next.object.0 next.page.0 backing.under (backing.shift + from.page.0) to.object.0 to.page.0
          down.object down.page_is (leads_of s n next to leads.2),
    )

-- where a walk gets, the chain leads
pub walks_lead : (parts : HostParts) (chains : ChainTable) (n : ℕ) (from to : PageKey) → WalksTo parts chains n from to → LeadsTo chains n from to
walks_lead parts chains zero from to walks = walks
walks_lead parts chains (suc n) from to walks = (walks.1.0, walks.1.1, walks_lead parts chains n walks.1.0 to walks.1.2)

-- something refers to each object further down a chain
pub referred_down : {header : Header} {h : ℕ} {parts : HostParts} {chains : ChainTable} {past : List Event} → IsShown header h parts chains past
    → (n : ℕ) (from to : PageKey) → IsReferred parts.objects from.object.0 → LeadsTo chains n from to
    → IsReferred parts.objects to.object.0
referred_down {parts = parts} s zero from to referred leads = subst (λ (z : PageKey). IsReferred parts.objects z.object.0) leads referred
referred_down {parts = parts} s (suc n) from to referred leads =
    let next = leads.0 in
    let under = leads.1 in
    referred_down s n next to (subst (λ (z : ℕ). IsReferred parts.objects z) (sym (ap (λ (z : PageKey). z.object.0) under.is))
    (s.under_referred from.object.0 under.row under.found)) leads.2

-- a page that is nowhere for the host is nowhere in the history
pub sinks_of : {header : Header} {h : ℕ} {parts : HostParts} {chains : ChainTable} {past : List Event} → IsShown header h parts chains past → (top : PageKey)
    → IsReferred parts.objects top.object.0 → (k : Sinks parts chains top)
    → legal.Sinks (λ o q. sight header h o q past) (λ o. backing_of header o past) k.steps top.object.0 top.page.0
sinks_of {header = header} {h = h} {parts = parts} {chains = chains} {past = past} s top referred k =
    go k.steps top k.walks
  where
    bottom : (backing_of header k.last.object.0 past).backed ≡ false
    bottom = s.bottoms k.last.object.0 (referred_down s k.steps top k.last referred (walks_lead parts chains k.steps top k.last k.walks)) k.bottom

    go : (n : ℕ) (from : PageKey) → WalksTo parts chains n from k.last
        → legal.Sinks (λ o q. sight header h o q past) (λ o. backing_of header o past) n from.object.0 from.page.0
    go zero from walks =
        subst (λ (z : PageKey). legal.Sinks (λ o q. sight header h o q past) (λ o. backing_of header o past) zero z.object.0 z.page.0) (sym walks)
        (passes_of s k.last k.passes, bottom)
    go (suc n) from walks =
        let next = walks.1.0 in
        let down = descends_of s from next walks.1.1 in
        let backing = backing_of header from.object.0 past in (
          passes_of s from walks.0,
          down.backed,
          sinks_at (λ o q. sight header h o q past) (λ o. backing_of header o past) n next.object.0 next.page.0 backing.under (backing.shift + from.page.0)
              down.object down.page_is (go n next walks.1.2),
        )

-- the top place of a region's page
pub top_of : {header : Header} {h : ℕ} {parts : HostParts} {chains : ChainTable} {past : List Event} → IsShown header h parts chains past
    → (r : ℕ) (row : RegionRow) → region_at chains r ≡ Some row → (index : ℕ)
    → IsTop (region_of header r past) index (top_place row index).object.0 (top_place row index).page.0
top_of s r row region index =
    record { object = ap (λ (z : Region). z.top) (s.rows r row region); page = ap (λ (z : Region). z.shift + index) (s.rows r row region) }

-- how far the walk of a region's page comes
abbrev pub comes_of : {header : Header} {h : ℕ} {parts : HostParts} {chains : ChainTable} {past : List Event} → IsShown header h parts chains past
    → (r : ℕ) (row : RegionRow) → region_at chains r ≡ Some row → (index n : ℕ) (key : PageKey)
    → WalksTo parts chains n (top_place row index) key → Comes header h r index key.object.0 key.page.0 past
comes_of s r row region index n key walks =
    record {
      top = (top_place row index).object.0;
      top_page = (top_place row index).page.0;
      steps = n;
      is_top = top_of s r row region index;
      walks = walks_of s n (top_place row index) key walks;
    }

pub comes_steps : {header : Header} {h : ℕ} {parts : HostParts} {chains : ChainTable} {past : List Event} → (s : IsShown header h parts chains past)
    → (r : ℕ) (row : RegionRow) → (region : region_at chains r ≡ Some row) → (index n : ℕ) (key : PageKey)
    → (walks : WalksTo parts chains n (top_place row index) key) → (comes_of s r row region index n key walks).steps ≡ n
comes_steps s r row region index n key walks = refl

-- the places of a region's page
pub place_of_page : {header : Header} {h : ℕ} {parts : HostParts} {chains : ChainTable} {past : List Event} → IsShown header h parts chains past
    → (r : ℕ) (row : RegionRow) → region_at chains r ≡ Some row → (index n : ℕ) (key : PageKey)
    → LeadsTo chains n (top_place row index) key → HasPlace header r index key.object.0 key.page.0 past
place_of_page s r row region index n key leads =
    record {
      top = (top_place row index).object.0;
      top_page = (top_place row index).page.0;
      steps = n;
      is_top = top_of s r row region index;
      leads = leads_of s n (top_place row index) key leads;
    }

-- two walks from a place that stop, each at a place that isn't passed over, stop at the same
pub walk_stops : (parts : HostParts) (chains : ChainTable) (n m : ℕ) (top a b : PageKey) → WalksTo parts chains n top a → WalksTo parts chains m top b
    → (PassesOver parts a → ⊥) → (PassesOver parts b → ⊥) → (n ≡ m) × (a ≡ b)
walk_stops parts chains zero zero top a b walks others stops ends = (refl, sym walks ∙ others)
walk_stops parts chains zero (suc m) top a b walks others stops ends = absurd (stops (subst (λ (z : PageKey). PassesOver parts z) walks others.0))
walk_stops parts chains (suc n) zero top a b walks others stops ends = absurd (ends (subst (λ (z : PageKey). PassesOver parts z) others walks.0))
walk_stops parts chains (suc n) (suc m) top a b walks others stops ends =
    let next = one_under chains top walks.1.0 others.1.0 walks.1.1 others.1.1 in
    let rest = walk_stops parts chains n m others.1.0 a b (subst (λ (z : PageKey). WalksTo parts chains n z a) next walks.1.2) others.1.2 stops ends in
    (ap suc rest.0, rest.1)

-- no walk passes over a page with a row
pub stops_at_row : (parts : HostParts) (key : PageKey) (row : PageRow) → row_at parts.resident key.object.0 key.page.0 ≡ Some row → PassesOver parts key → ⊥
stops_at_row parts key row found over = let bad : None ≡ Some row = sym over.absent ∙ found in cc

-- nor over one that may come, of an object with a pager
pub stops_may_come : (parts : HostParts) (chains : ChainTable) (steps : ℕ) (top key : PageKey) (object : ObjectRow) → MayCome parts chains steps top key object
    → object.state ≢ state.Without → PassesOver parts key → ⊥
stops_may_come parts chains steps top key object comes told over =
    why over.none
  where
    same : over.row ≡ object
    same = some_is over.row object (sym over.known ∙ comes.known)

    why : (over.row.state ≡ state.Without) ⊎ (absent_at parts.objects key.object.0 key.page.0 ≡ true) → ⊥
    why (inl without) = told (sym (ap (λ (z : ObjectRow). z.state) same) ∙ without)
    why (inr lacked) = let bad : false ≡ true = sym comes.may_have ∙ lacked in cc

-- two walks from a place that come to pages with rows come to the same
pub walk_found : (parts : HostParts) (chains : ChainTable) (n m : ℕ) (top a b : PageKey) (row other : PageRow) → WalksTo parts chains n top a
    → WalksTo parts chains m top b → row_at parts.resident a.object.0 a.page.0 ≡ Some row
    → row_at parts.resident b.object.0 b.page.0 ≡ Some other → (n ≡ m) × (a ≡ b)
walk_found parts chains n m top a b row other walks others found there =
    walk_stops parts chains n m top a b walks others (stops_at_row parts a row found) (stops_at_row parts b other there)

-- a walk that finds a page nowhere stops at no place
pub sunk_never : (parts : HostParts) (chains : ChainTable) (top b : PageKey) (m : ℕ) → Sinks parts chains top → WalksTo parts chains m top b
    → (PassesOver parts b → ⊥) → ⊥
sunk_never parts chains top b m sinks walks stops =
    go sinks.steps m top sinks.walks walks
  where
    go : (n m : ℕ) (from : PageKey) → WalksTo parts chains n from sinks.last → WalksTo parts chains m from b → ⊥
    go zero zero from walks others = stops (subst (λ (z : PageKey). PassesOver parts z) (sym walks ∙ others) sinks.passes)
    go zero (suc m) from walks others =
        let bad : None ≡ Some others.1.1.row = sym sinks.bottom ∙ (ap (λ (z : PageKey). shadow_at chains z.object.0) (sym walks) ∙ others.1.1.found) in
        cc
    go (suc n) zero from walks others = stops (subst (λ (z : PageKey). PassesOver parts z) others walks.0)
    go (suc n) (suc m) from walks others =
        let next = one_under chains from walks.1.0 others.1.0 walks.1.1 others.1.1 in
        go n m others.1.0 (subst (λ (z : PageKey). WalksTo parts chains n z sinks.last) next walks.1.2) others.1.2

-- No walk passes over a place of a file to which something refers: it has a pager, and none of its pages is known to be missing.
pub stops_at_file : {header : Header} {parts : HostParts} {chains : ChainTable} → HasKinds header parts.objects chains → (key : PageKey)
    → is_file header key.object.0 ≡ true → IsReferred parts.objects key.object.0 → PassesOver parts key → ⊥
stops_at_file {header = header} kinds key file referred over = elim over.none [
  | inl without ↦ let bad : true ≡ false = sym told ∙ ap has_pager without in cc
  | inr lacked ↦ let bad : false ≡ true = sym (kinds.present key.object.0 key.page.0 (file_named header key.object.0 file)) ∙ lacked in cc
]
  where
    told : has_pager over.row.state ≡ true
    told =
        file_has_pager kinds key.object.0 over.row file over.known
        (subst (λ (z : ObjectRow). 0 < z.references) (some_is referred.row over.row (sym referred.known ∙ over.known)) referred.some)

-- under a place stands one of a temporary object, or of a file
next_kind : {header : Header} {objects : ObjectTable} {chains : ChainTable} → HasKinds header objects chains → (from next : PageKey) → IsUnder chains from next
    → IsUnderKind header next.object.0
next_kind {header = header} kinds from next under =
    subst (λ (z : ℕ). IsUnderKind header z) (sym (ap (λ (z : PageKey). z.object.0) under.is)) (kinds.unders from.object.0 under.row under.found)

-- so does one each step further down
pub under_kind : {header : Header} {objects : ObjectTable} {chains : ChainTable} → HasKinds header objects chains → (n : ℕ) (from to : PageKey)
    → LeadsTo chains (suc n) from to → IsUnderKind header to.object.0
under_kind {header = header} kinds zero from to leads =
    subst (λ (z : PageKey). IsUnderKind header z.object.0) leads.2 (next_kind kinds from leads.0 leads.1)
under_kind kinds (suc n) from to leads = under_kind kinds n leads.0 to leads.2

-- a walk that passes over the last place too passes over the first
first_passed : (parts : HostParts) (chains : ChainTable) (n : ℕ) (from to : PageKey) → WalksTo parts chains n from to → PassesOver parts to
    → PassesOver parts from
first_passed parts chains zero from to walks over = subst (λ (z : PageKey). PassesOver parts z) (sym walks) over
first_passed parts chains (suc n) from to walks over = walks.0

module _ {header : Header} {h : ℕ} {parts : HostParts} {chains : ChainTable} {past : List Event} (s : IsShown header h parts chains past)
    (kinds : HasKinds header parts.objects chains) where
  -- the next place is no file's where a walk passes over it
  next_temporary : (from next : PageKey) → IsUnder chains from next → PassesOver parts next → named header ≤ next.object.0
  next_temporary from next under over = elim (next_kind kinds from next under) [
    | inl least ↦ least
    | inr file ↦ absurd (stops_at_file kinds next file (subst (λ (z : ℕ). IsReferred parts.objects z) (sym (ap (λ (z : PageKey). z.object.0) under.is))
        (s.under_referred from.object.0 under.row under.found)) over)
  ]

  -- from a temporary object a walk passes over temporary ones only
  pub passed_temporary : (n : ℕ) (from to : PageKey) → named header ≤ from.object.0 → WalksTo parts chains n from to → PassesOver parts to
      → named header ≤ to.object.0
  passed_temporary zero from to least walks over = subst (λ (z : PageKey). named header ≤ z.object.0) walks least
  passed_temporary (suc n) from to least walks over =
      let next = walks.1.0 in
      passed_temporary n next to (next_temporary from next walks.1.1 (first_passed parts chains n next to walks.1.2 over)) walks.1.2 over

  -- so no file is below one from which a walk finds its page nowhere
  pub sinks_plain : (top : PageKey) → named header ≤ top.object.0 → IsReferred parts.objects top.object.0 → Sinks parts chains top
      → (depth below : ℕ) → Below (λ o. backing_of header o past) depth top.object.0 below → named header ≤ below
  sinks_plain top least referred sinks depth below leads = go sinks.steps top depth least sinks.walks leads
    where
      bottom : (backing_of header sinks.last.object.0 past).backed ≡ false
      bottom =
          s.bottoms sinks.last.object.0 (referred_down s sinks.steps top sinks.last referred (walks_lead parts chains sinks.steps top sinks.last sinks.walks))
          sinks.bottom

      go : (n : ℕ) (from : PageKey) (depth : ℕ) → named header ≤ from.object.0 → WalksTo parts chains n from sinks.last
          → Below (λ o. backing_of header o past) depth from.object.0 below → named header ≤ below
      go n from zero least walks leads = subst (λ (z : ℕ). named header ≤ z) leads least
      go zero from (suc depth) least walks leads =
          absurd (let bad : true ≡ false = sym leads.0 ∙ (ap (λ (z : PageKey). (backing_of header z.object.0 past).backed) walks ∙ bottom) in cc)
      go (suc n) from (suc depth) least walks leads =
          let next = walks.1.0 in
          let down = descends_of s from next walks.1.1 in
          go n next depth (next_temporary from next walks.1.1 (first_passed parts chains n next sinks.last walks.1.2 sinks.passes)) walks.1.2
          (subst (λ (z : ℕ). Below (λ o. backing_of header o past) depth z below) (sym down.object) leads.1)
