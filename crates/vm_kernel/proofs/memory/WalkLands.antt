-- Where a walk ends at a page that is here: the tables lead there too.
use Rattle.vm_kernel.proofs.Common.{Backing, Event, Header, HostParts, List, ObjectRow, PageKey, PageRow, Sight, ap, backing_of, false, has_pager}
use Rattle.vm_kernel.proofs.Common.{is_known_absent, is_some, not, page_on, sight, subst, suc, sym, true, zero, ℕ, ◌&&◌, ◌+◌, ◌∙◌, ◌≡◌, refl}
use Rattle.vm_fault.specs.Walks as walks
use Rattle.vm_fault.specs.Walks.{Finds, MayCome, StopsAsked, WalksTo}
use Rattle.vm_legal.specs.Walks as legal
use Rattle.vm_legal.specs.Walks.{Passes, Walks}
use Rattle.vm_shadow.specs.Chains.{ChainTable}
use Rattle.vm_state.proofs.Shown.{IsShown, asks_row, misses, shows_row, told_live}
use Rattle.vm_state.proofs.Walks.{sinks_of, walks_of}
use Rattle.vm_state.specs.Places.{place_of}
use Rattle.vm_terminate.specs.Finishes.{IsReferred}

-- two walks from one place that stop, each at a place that isn't passed over, stop at the same

moved_passes : (sights : ℕ → ℕ → Sight) (o p l lp : ℕ) → o ≡ l → p ≡ lp → Passes (sights o p) → Passes (sights l lp)
moved_passes sights o p l lp object page passes = subst (λ (z : ℕ). Passes (sights z lp)) object (subst (λ (z : ℕ). Passes (sights o z)) page passes)

pub stop_same : (sights : ℕ → ℕ → Sight) (backings : ℕ → Backing) (n m o p l lp l2 lp2 : ℕ) → Walks sights backings n o p l lp
    → Walks sights backings m o p l2 lp2 → (Passes (sights l lp) → ⊥) → (Passes (sights l2 lp2) → ⊥)
    → (n ≡ m) × (l ≡ l2) × (lp ≡ lp2)
stop_same sights backings zero zero o p l lp l2 lp2 one two stops ends = (refl, sym one.0 ∙ two.0, sym one.1 ∙ two.1)
stop_same sights backings zero (suc m) o p l lp l2 lp2 one two stops ends = absurd (stops (moved_passes sights o p l lp one.0 one.1 two.0))
stop_same sights backings (suc n) zero o p l lp l2 lp2 one two stops ends = absurd (ends (moved_passes sights o p l2 lp2 two.0 two.1 one.0))
stop_same sights backings (suc n) (suc m) o p l lp l2 lp2 one two stops ends =
    let rest = stop_same sights backings n m (backings o).under ((backings o).shift + p) l lp l2 lp2 one.2 two.2 stops ends in
    (ap suc rest.0, rest.1, rest.2)

-- and a walk that finds the page nowhere stops at none
pub sinks_past : (sights : ℕ → ℕ → Sight) (backings : ℕ → Backing) (n m o p l lp : ℕ) → legal.Sinks sights backings n o p → Walks sights backings m o p l lp
    → (Passes (sights l lp) → ⊥) → ⊥
sinks_past sights backings zero zero o p l lp sinks walks stops = stops (moved_passes sights o p l lp walks.0 walks.1 sinks.0)
sinks_past sights backings zero (suc m) o p l lp sinks walks stops = let bad : true ≡ false = sym walks.1 ∙ sinks.1 in cc
sinks_past sights backings (suc n) zero o p l lp sinks walks stops = stops (moved_passes sights o p l lp walks.0 walks.1 sinks.0)
sinks_past sights backings (suc n) (suc m) o p l lp sinks walks stops =
    sinks_past sights backings n m (backings o).under ((backings o).shift + p) l lp sinks.2 walks.2 stops

-- the walk from a place ends at a page that is here
pub record EndsHere (header : Header) (h : ℕ) (past : List Event) (top : PageKey) : Type 0 where
  pub steps : ℕ
  pub object : ℕ
  pub page : ℕ
  pub walks : Walks (λ k q. sight header h k q past) (λ k. backing_of header k past) steps top.object.0 top.page.0 object page
  pub here : (page_on header h object page past).here ≡ true

-- and the tables are as the history says
pub record Lands (header : Header) (h : ℕ) (past : List Event) (parts : HostParts) (chains : ChainTable) (top : PageKey) : Type 0 where
  pub shown : IsShown header h parts chains past
  pub referred : IsReferred parts.objects top.object.0
  pub at : EndsHere header h past top

pub not_passed : (header : Header) (h : ℕ) (past : List Event) (o p : ℕ) → (page_on header h o p past).here ≡ true → Passes (sight header h o p past) → ⊥
not_passed header h past o p here passes = let bad : false ≡ true = sym passes.away ∙ here in cc

-- it isn't nowhere
pub never_sinks : {header : Header} {h : ℕ} {past : List Event} {parts : HostParts} {chains : ChainTable} {top : PageKey} → Lands header h past parts chains top
    → walks.Sinks parts chains top → ⊥
never_sinks {header = header} {h = h} {past = past} {top = top} f sinks =
    sinks_past (λ k q. sight header h k q past) (λ k. backing_of header k past) sinks.steps f.at.steps top.object.0 top.page.0 f.at.object f.at.page
    (sinks_of f.shown top f.referred sinks) f.at.walks
    (not_passed header h past f.at.object f.at.page f.at.here)

-- it isn't at a place that is missing, and not passed over
pub never_stops : {header : Header} {h : ℕ} {past : List Event} {parts : HostParts} {chains : ChainTable} {top : PageKey} → Lands header h past parts chains top
    → (n : ℕ) (key : PageKey) → WalksTo parts chains n top key
    → (Passes (sight header h key.object.0 key.page.0 past) → ⊥) → (page_on header h key.object.0 key.page.0 past).here ≡ false → ⊥
never_stops {header = header} {h = h} {past = past} {top = top} f n key walks stops missing =
    let same = stop_same (λ k q. sight header h k q past) (λ k. backing_of header k past) n f.at.steps top.object.0 top.page.0 key.object.0 key.page.0
    f.at.object f.at.page (walks_of f.shown n top key walks) f.at.walks stops
    (not_passed header h past f.at.object f.at.page f.at.here) in
    let here : (page_on header h key.object.0 key.page.0 past).here ≡ true =
    subst (λ (z : ℕ). (page_on header h z key.page.0 past).here ≡ true) (sym same.1)
    (subst (λ (z : ℕ). (page_on header h f.at.object z past).here ≡ true) (sym same.2) f.at.here) in
    let bad : false ≡ true = sym missing ∙ here in
    cc

-- the page of an object with a pager may come
pub never_comes : {header : Header} {h : ℕ} {past : List Event} {parts : HostParts} {chains : ChainTable} {top : PageKey} → Lands header h past parts chains top
    → (n : ℕ) (key : PageKey) (object : ObjectRow) → MayCome parts chains n top key object
    → has_pager object.state ≡ true → ⊥
never_comes {header = header} {h = h} {past = past} f n key object comes told =
    let missing = misses f.shown key.object.0 key.page.0 comes.absent in
    let may_have : (sight header h key.object.0 key.page.0 past).may_have ≡ true =
    ap (λ z. is_some z && not (is_known_absent header (place_of key.object.0 key.page.0) (page_on header h key.object.0 key.page.0 past)))
    (told_live f.shown key.object.0 object comes.known told) ∙ ap not (missing.known ∙ comes.may_have) in
    never_stops f n key comes.walks (λ passes. (let bad : false ≡ true = sym passes.without ∙ may_have in cc)) missing.away

-- a page that is asked stops a walk
pub never_asked : {header : Header} {h : ℕ} {past : List Event} {parts : HostParts} {chains : ChainTable} {top : PageKey} → Lands header h past parts chains top
    → (n : ℕ) (key : PageKey) (row : PageRow) → StopsAsked parts chains n top key row → ⊥
never_asked f n key row stops =
    let asks = asks_row f.shown key.object.0 key.page.0 row stops.found stops.away in
    never_stops f n key stops.walks (λ passes. (let bad : false ≡ true = sym passes.unasked ∙ asks.asked in cc)) asks.away

-- it is the place where the tables find it
pub record IsFound (header : Header) (h : ℕ) (past : List Event) (top key : PageKey) (steps : ℕ) (at : EndsHere header h past top) : Type 0 where
  pub steps_are : steps ≡ at.steps
  pub object : key.object.0 ≡ at.object
  pub page : key.page.0 ≡ at.page

pub found_there : {header : Header} {h : ℕ} {past : List Event} {parts : HostParts} {chains : ChainTable} {top : PageKey}
    → (f : Lands header h past parts chains top) → (n : ℕ) (key : PageKey) (row : PageRow) → Finds parts chains n top key row
    → IsFound header h past top key n f.at
found_there {header = header} {h = h} {past = past} {top = top} f n key row finds =
    let same = stop_same (λ k q. sight header h k q past) (λ k. backing_of header k past) n f.at.steps top.object.0 top.page.0 key.object.0 key.page.0
    f.at.object f.at.page (walks_of f.shown n top key finds.walks) f.at.walks
    (not_passed header h past key.object.0 key.page.0 (shows_row f.shown key.object.0 key.page.0 row finds.found finds.here).here)
    (not_passed header h past f.at.object f.at.page f.at.here) in
    record { steps_are = same.0; object = same.1; page = same.2 }
