-- Where no object of a host can be merged, none can where the host's facts read the same, and what a region that is made just then is over stands on nothing.
use Rattle.std.proofs.Common.{◌≡◌, ℕ, zero, suc, ◌<◌, ◌≤◌, Bool, true, false, List, ap, refl, sym, ◌∙◌, subst, arith, inl, inr}
use Rattle.std.proofs.lemmas.Bool.{cases_lt}
use Rattle.vm_model.specs.declared.event.Event.{Event}
use Rattle.vm_model.specs.declared.script.Header.{Header}
use Rattle.vm_model.specs.Named.{named}
use Rattle.vm_model.specs.Regions.{Backing, Region, backing_of, next_object, region_of}
use Rattle.vm_legal.specs.Homes.{is_open}
use Rattle.vm_legal.specs.Merges.{IsPair, IsThin}
use Rattle.vm_legal.specs.Used.{in_use}
use Rattle.vm_legal.specs.Walks.{Below, Reach}
use Rattle.vm_legal.proofs.Below.{below_next}
use Rattle.vm_abroad.specs.Same.{SameFacts}
use Rattle.vm_abroad.specs.Sound.{IsObjectOf, IsRegionOf, Knows, Sound}
use Rattle.vm_abroad.proofs.Chains.{below_was}
use Rattle.vm_abroad.proofs.Facts.{small_region, use_same}
use Rattle.vm_abroad.proofs.Sounds.{use_of, used_of}
use Rattle.vm_abroad.proofs.Waits.{reach_declared, reach_now, region_now}

-- an object of the host that was made, and that a region led to; and what is under it was made
record WasReached (header : Header) (h o : ℕ) (old : List Event) : Type 0 where
  reach : Reach header h o old
  small : o < next_object header old
  under : (backing_of header o old).backed ≡ true → (backing_of header o old).under < next_object header old
  own : IsObjectOf header h o old

module _ (header : Header) (h : ℕ) (old new : List Event) (sound : Sound header old) (knows : Knows header h old) (same : SameFacts header h old new)
    (shut : (r : ℕ) → is_open r old ≡ false)
    (made_bare : (r : ℕ) → is_open r new ≡ true → (backing_of header (region_of header r new).top new).backed ≡ false) where
  -- nothing stands under a declared object
  bare_now : (o : ℕ) → o < named header → (backing_of header o new).backed ≡ true → ⊥
  bare_now o declared backed =
      let more = sound.named_objects in
      let link : backing_of header o new ≡ backing_of header o old = same.backing o (omega (arith, declared, more))
      (λ temporary. absurd (omega (arith, declared, temporary))) in
      let bad : false ≡ true = sym (sound.bare o declared) ∙ (ap (λ (z : Backing). z.backed) (sym link) ∙ backed) in
      cc

  not_declared : (r n o : ℕ) → r < named header → (backing_of header o new).backed ≡ true → Below (λ k. backing_of header k new) n r o → ⊥
  not_declared r zero o declared backed is =
      bare_now r declared (subst (λ (z : ℕ). (backing_of header z new).backed ≡ true) (sym is) backed)
  not_declared r (suc n) o declared backed is = bare_now r declared is.0

  -- an object that stands on nothing leads to none that does
  nothing_under : (top n o : ℕ) → (backing_of header top new).backed ≡ false → (backing_of header o new).backed ≡ true
      → Below (λ k. backing_of header k new) n top o → ⊥
  nothing_under top zero o bare backed is =
      let bad : false ≡ true = sym bare ∙ subst (λ (z : ℕ). (backing_of header z new).backed ≡ true) (sym is) backed in cc
  nothing_under top (suc n) o bare backed is = let bad : false ≡ true = sym bare ∙ is.0 in cc

  -- what stands on something and is reached now was so before
  reach_was : (o : ℕ) → Reach header h o new → (backing_of header o new).backed ≡ true → WasReached header h o old
  reach_was o reach backed = elim (cases_lt reach.0 (named header)) [
    | inl declared ↦
        let own : IsRegionOf header h reach.0 old = λ temporary. absurd (omega (arith, declared, temporary)) in
        let top : (region_of header reach.0 new).top ≡ reach.0 = ap (λ (z : Region). z.top) (region_now header h old new sound knows same reach.0 own)
        ∙ sound.tops reach.0 declared in
        absurd (not_declared reach.0 reach.1 o declared backed (subst (λ (z : ℕ). Below (λ k. backing_of header k new) reach.1 z o) top reach.3))
    | inr temporary ↦ by_test temporary (is_open reach.0 new) refl
  ]
    where
      by_test : named header ≤ reach.0 → (b : Bool) → is_open reach.0 new ≡ b → WasReached header h o old
      by_test temporary true opened =
          absurd (nothing_under (region_of header reach.0 new).top reach.1 o (made_bare reach.0 opened) backed reach.3)
      by_test temporary false closed =
          let used : in_use header h reach.0 old ≡ true = sym (use_same header h reach.0 old new same temporary (shut reach.0) closed) ∙ reach.2 in
          let own : IsRegionOf header h reach.0 old = λ is. used_of header h reach.0 old (shut reach.0) used in
          let made = knows.chains reach.0 (small_region header h reach.0 old sound own) own in
          let below : Below (λ k. backing_of header k old) reach.1 (region_of header reach.0 old).top o =
          below_was header h old new same.backing reach.1 (region_of header reach.0 old).top o made
          (subst (λ (z : Region). Below (λ k. backing_of header k new) reach.1 z.top o) (region_now header h old new sound knows same reach.0 own) reach.3) in
          record {
            reach = (reach.0, reach.1, used, below);
            small = (made reach.1 o below).0;
            under = λ on. (made (suc reach.1) (backing_of header o old).under (below_next (λ k. backing_of header k old) reach.1
                (region_of header reach.0 old).top o below on)).0;
            own = (made reach.1 o below).1;
          }

  backed_temporary : (o : ℕ) → (backing_of header o old).backed ≡ true → named header ≤ o
  backed_temporary o backed = elim (cases_lt o (named header)) [
    | inl declared ↦ absurd (let bad : false ≡ true = sym (sound.bare o declared) ∙ backed in cc)
    | inr temporary ↦ temporary
  ]

  pair_was : (upper lower : ℕ) → IsPair header h upper lower new → IsPair header h upper lower old
  pair_was upper lower pair =
      let was = reach_was upper pair.reached pair.backed in
      let link : backing_of header upper new ≡ backing_of header upper old = same.backing upper was.small was.own in
      let small : lower < next_object header old = subst (λ (z : ℕ). z < next_object header old) (ap (λ (z : Backing). z.under) (sym link) ∙ pair.under)
      (was.under (ap (λ (z : Backing). z.backed) (sym link) ∙ pair.backed)) in
      record {
        temporary = pair.temporary;
        plain = sym (same.copies lower small) ∙ pair.plain;
        reached = was.reach;
        backed = ap (λ (z : Backing). z.backed) (sym link) ∙ pair.backed;
        under = ap (λ (z : Backing). z.under) (sym link) ∙ pair.under;
        no_top = λ r temporary used top.
            let own : IsRegionOf header h r old = λ is. used_of header h r old (shut r) used in
            pair.no_top r temporary (use_of header h r new (same.used r temporary ∙ used_of header h r old (shut r) used))
            (ap (λ (z : Region). z.top) (region_now header h old new sound knows same r own) ∙ top);
        sole = λ other reach backed under. still other reach backed under;
        upper_never = sym (same.pages.last upper) ∙ pair.upper_never;
        lower_never = sym (same.pages.last lower) ∙ pair.lower_never;
      }
    where
      still : (other : ℕ) → Reach header h other old → (backing_of header other old).backed ≡ true → (backing_of header other old).under ≡ lower
          → other ≡ upper
      still other reach backed under =
          let temporary = backed_temporary other backed in
          let now = reach_now header h old new sound knows same shut other temporary reach in
          let link = link_now other reach temporary in
          pair.sole other now (ap (λ (z : Backing). z.backed) link ∙ backed) (ap (λ (z : Backing). z.under) link ∙ under)
        where
          link_now : (o : ℕ) → Reach header h o old → named header ≤ o → backing_of header o new ≡ backing_of header o old
          link_now o reached later = elim (cases_lt reached.0 (named header)) [
            | inl declared ↦ absurd (reach_declared header h old new sound knows same reached.0 reached.1 o declared later
                (subst (λ (z : ℕ). Below (λ k. backing_of header k old) reached.1 z o) (sound.tops reached.0 declared) reached.3))
            | inr ours ↦
                let own : IsRegionOf header h reached.0 old = λ is. used_of header h reached.0 old (shut reached.0) reached.2 in
                let made = knows.chains reached.0 (small_region header h reached.0 old sound own) own reached.1 o reached.3 in
                same.backing o made.0 made.1
          ]

  pub thin_now : IsThin header h old → IsThin header h new
  thin_now thin upper lower pair = thin upper lower (pair_was upper lower pair)
