-- Which pages the places of declared objects are: those of their own regions, in no step.
use Rattle.std.proofs.Common.{ℕ, zero, suc, ◌≡◌, ◌+◌, ◌<◌, ◌≤◌, List, [], ◌∷◌, Bool, true, false, Option, Some, if◌then◌else◌, refl, sym, subst, ◌∙◌, arith}
use Rattle.std.proofs.Common.{⊎_elim}
use Rattle.std.proofs.lemmas.Bool.{cases_lt}
use Rattle.std.specs.Prelude.{◌==◌}
use Rattle.vm_model.specs.declared.event.Event.{Event}
use Rattle.vm_model.specs.declared.event.Event.TheVariants as event
use Rattle.vm_model.specs.declared.script.Header.{Header}
use Rattle.vm_model.specs.Moments.{EachEvent}
use Rattle.vm_model.specs.Named.{named}
use Rattle.vm_model.specs.Regions.{backing_of, next_region, region_of}
use Rattle.vm_legal.specs.Accesses.{Comes, HasPlace}
use Rattle.vm_legal.specs.Flat.{made_over}
use Rattle.vm_legal.specs.Licences.{HasCause}
use Rattle.vm_legal.specs.Outside.{Outside, is_file, is_shared}
use Rattle.vm_legal.specs.Walks.{IsTop, Leads, Walks, sight}
use Rattle.vm_legal.proofs.Unshared.{temporary_unshared}
use Rattle.vm_flat.proofs.Numbers.{NumberedAt}
use Rattle.vm_shared.proofs.Numbering.{ComesOwn, IsOwn, Numbering, leads_later, not_lower, numbering, top_own}

-- a shared object is a declared one
pub shared_declared : (header : Header) (o : ℕ) → is_shared header o ≡ true → o < named header
shared_declared header o shared =
    ⊎_elim (λ less. less) (λ above. let bad : true ≡ false = sym shared ∙ temporary_unshared header o above in absurd (cc)) (cases_lt o (named header))

-- what is made over an object is a temporary region

over_is : (header : Header) (b : Bool) (new region : ℕ) (was : Option ℕ) → named header ≤ new → (was ≡ Some region → named header ≤ region)
    → (if b then Some new else was) ≡ Some region → named header ≤ region
over_is header true new region was above old is = let same : new ≡ region = cc in subst (λ (r : ℕ). named header ≤ r) same above
over_is header false new region was above old is = old is

pub overs_later : (header : Header) (outside : Outside) (past : List Event) → EachEvent (HasCause header outside) past → (object region : ℕ)
    → made_over object past ≡ Some region → named header ≤ region
overs_later header outside [] caused object region is = absurd (cc)
overs_later header outside (event.RegionMade made over pages ∷ past) caused object region is =
    let number = caused.0.1.0 in
    let first = (numbering header outside past caused.1).numbered.later_regions in
    over_is header (object == over.0) made.0 region (made_over object past) (omega (arith, number, first))
    (overs_later header outside past caused.1 object region) is
overs_later header outside (e ∷ past) caused object region is = overs_later header outside past caused.1 object region is

-- of a page of a declared region the top place is its own
pub declared_top_own : (header : Header) (past : List Event) (r q o p : ℕ) → NumberedAt header past → r < named header → IsTop (region_of header r past) q o p
    → IsOwn r q o p
declared_top_own header past r q o p numbered small top =
    let shift = numbered.declared_shift r small in
    let sum = top.page in
    record { region = sym (numbered.declared_top r small) ∙ top.object; page = omega (arith, shift, sum) }

-- a chain that has a place of a declared object begins there
leads_own : (header : Header) (past : List Event) (n a b o p : ℕ) → Numbering header past → o < named header → is_file header o ≡ false
    → Leads (λ k. backing_of header k past) n a b o p → ComesOwn a b n o p
leads_own header past zero a b o p num small plain is = record { own = record { region = is.0; page = is.1 }; steps = refl }
leads_own header past (suc n) a b o p num small plain is =
    absurd (not_lower header o small plain (leads_later header past num n (backing_of header a past).under ((backing_of header a past).shift + b) o p
    (num.lower a is.0) is.1))

-- the page of a region that has a place of a declared object in its chain is that place
pub place_own : (header : Header) (past : List Event) (r q o p : ℕ) → Numbering header past → o < named header → is_file header o ≡ false
    → r < next_region header past → (has : HasPlace header r q o p past) → ComesOwn r q has.steps o p
place_own header past r q o p num small plain made has =
    let below = leads_own header past has.steps has.top has.top_page o p num small plain has.leads in
    let top_small : has.top < named header = subst (λ (k : ℕ). k < named header) (sym below.own.region) small in
    let own = top_own header past r q has.top has.top_page num.numbered top_small made has.is_top in
    record { own = record { region = own.region ∙ below.own.region; page = own.page ∙ below.own.page }; steps = below.steps }

-- the walk of a page of a declared region ends where it begins
pub comes_from_declared : (header : Header) (past : List Event) (host r q o p : ℕ) → NumberedAt header past → r < named header
    → (comes : Comes header host r q o p past) → IsOwn r q o p
comes_from_declared header past host r q o p numbered small comes =
    let top = declared_top_own header past r q comes.top comes.top_page numbered small comes.is_top in
    let own = by comes.steps (subst (λ (k : ℕ). k < named header) top.region small) comes.walks in
    record { region = top.region ∙ own.region; page = top.page ∙ own.page }
  where
    by : (n : ℕ) → comes.top < named header → Walks (λ k j. sight header host k j past) (λ k. backing_of header k past) n comes.top comes.top_page o p
        → IsOwn comes.top comes.top_page o p
    by zero less walk = record { region = walk.0; page = walk.1 }
    by (suc n) less walk = let above = numbered.upper comes.top walk.1 in absurd (omega (arith, above, less))

-- so is what has a place in the chain of a page of a declared region
pub place_from_declared : (header : Header) (past : List Event) (r q o p : ℕ) → NumberedAt header past → r < named header → (has : HasPlace header r q o p past)
    → IsOwn r q o p
place_from_declared header past r q o p numbered small has =
    let top = declared_top_own header past r q has.top has.top_page numbered small has.is_top in
    let own = by has.steps (subst (λ (k : ℕ). k < named header) top.region small) has.leads in
    record { region = top.region ∙ own.region; page = top.page ∙ own.page }
  where
    by : (n : ℕ) → has.top < named header → Leads (λ k. backing_of header k past) n has.top has.top_page o p → IsOwn has.top has.top_page o p
    by zero less leads = record { region = leads.0; page = leads.1 }
    by (suc n) less leads = let above = numbered.upper has.top leads.0 in absurd (omega (arith, above, less))
