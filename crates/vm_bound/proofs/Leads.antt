-- What a temporary region in use leads to, it leads to behind an event of a step, but for what a slow copy left that failed, and the lower of a pair.
use Rattle.std.proofs.Common.{ℕ, zero, suc, ◌≡◌, ◌≤◌, ◌<◌, ◌==◌, ◌&&◌, ◌||◌, ◌∙◌, ◌⊎◌, not, Bool, true, false, List, ◌∷◌, Option, Some, None}
use Rattle.std.proofs.Common.{inl, inr, ap, arith, refl, subst, sym}
use Rattle.std.proofs.lemmas.Bool.{cases_lt}
use Rattle.std.proofs.lemmas.Bool.Decides.{nat_tests}
use Rattle.std.specs.Prelude.{◌≢◌}
use native.Mathlib.Decide.{ℕ_discrete}
use Rattle.vm_abroad.specs.Sound.{Sound}
use Rattle.vm_base.specs.declared.ids.Inherit.{Inherit}
use Rattle.vm_base.specs.declared.ids.ObjectId.{ObjectId}
use Rattle.vm_base.specs.declared.ids.PageNo.{PageNo}
use Rattle.vm_base.specs.declared.ids.Prot.{Prot}
use Rattle.vm_base.specs.declared.ids.RegionId.{RegionId}
use Rattle.vm_base.specs.declared.ids.TaskId.{TaskId}
use Rattle.vm_bound.proofs.Controls.{never_lives}
use Rattle.vm_bound.proofs.Copying.{copy_home}
use Rattle.vm_bound.proofs.Going.{is_copy_over, is_left}
use Rattle.vm_bound.proofs.Grown.{Grown, IsNew, at_home, clash, holds_grown, not_new, sound_grown}
use Rattle.vm_bound.proofs.Kept.{Held, Holding, fails_still, holding, not_owing}
use Rattle.vm_bound.proofs.Reached.{below_bare, below_step, reached}
use Rattle.vm_flat.proofs.Heads.{EndedCopy, Orderly, owed_entry}
use Rattle.vm_flat.proofs.Housed.{IsHoused, Made, made_of}
use Rattle.vm_flat.proofs.Leading.{target_bare, used_made}
use Rattle.vm_flat.proofs.Regions.{eq_no, eq_yes, if_no, if_yes}
use Rattle.vm_legal.proofs.Homes.{same_some}
use Rattle.vm_legal.specs.Homes.{EntersNext}
use Rattle.vm_legal.specs.Licences.{ByError, Enters, Fails, IsBehind, IsOwed, Unserved}
use Rattle.vm_legal.specs.Living.{lives_on}
use Rattle.vm_legal.specs.Merges.{Merges}
use Rattle.vm_legal.specs.Outside.{Outside}
use Rattle.vm_legal.specs.Used.{in_use, is_kept}
use Rattle.vm_legal.specs.Walks.{Below}
use Rattle.vm_model.specs.Controls.{last_control, live_control}
use Rattle.vm_model.specs.Homes.{home_of, object_home}
use Rattle.vm_model.specs.Local.{is_on}
use Rattle.vm_model.specs.Named.{named}
use Rattle.vm_model.specs.Regions.{Backing, backing_of, joined, next_object, over, region_of}
use Rattle.vm_model.specs.Tasks.{host_of}
use Rattle.vm_model.specs.Waiting.{Access, Copying, Loading, Storing, Target, copy_target, fills, waiting}
use Rattle.vm_model.specs.declared.event.Event.{Event}
use Rattle.vm_model.specs.declared.event.Event.TheVariants as event
use Rattle.vm_model.specs.declared.script.Header.{Header}

-- chains

-- below an object that is there, links of new ones are not seen
below_new : (old new : ℕ → Backing) (m n x o : ℕ) → x < m → ((k : ℕ) → k < m → new k ≡ old k) → ((k : ℕ) → (old k).backed ≡ true → (old k).under < m)
    → Below old n x o → Below new n x o
below_new old new m zero x o less same born is = is
below_new old new m (suc n) x o less same born is =
    let later : Below new n (old x).under o = below_new old new m n (old x).under o (born x is.0) same born is.1 in (
      subst (λ (b : Backing). b.backed ≡ true) (sym (same x less)) is.0,
      subst (λ (b : Backing). Below new n b.under o) (sym (same x less)) later,
    )

-- what was below is below where two objects were merged, but the lower of them
below_joined : (old : ℕ → Backing) (upper lower n x o : ℕ) → (old upper).under ≡ lower → lower ≢ o → Below old n x o
    → (m : ℕ) × Below (λ k. joined (k == upper) (old lower) (old k)) m x o
below_joined old upper lower zero x o under other is = (0, is)
below_joined old upper lower (suc zero) x o under other is = elim (ℕ_discrete x upper) [
  | yes e ↦ absurd (other (sym under ∙ ap (λ (k : ℕ). (old k).under) (sym e) ∙ is.1))
  | no apart ↦
      let same : joined (x == upper) (old lower) (old x) ≡ old x = ap (λ (b : Bool). joined b (old lower) (old x)) (eq_no x upper apart) in (
        1,
        (ap (λ (b : Backing). b.backed) same ∙ is.0, ap (λ (b : Backing). b.under) same ∙ is.1),
      )
]
below_joined old upper lower (suc (suc n)) x o under other is = elim (ℕ_discrete x upper) [
  | yes e ↦
      let there : (old x).under ≡ lower = ap (λ (k : ℕ). (old k).under) e ∙ under in
      let down : Below old (suc n) lower o = subst (λ (k : ℕ). Below old (suc n) k o) there is.1 in
      let same : joined (x == upper) (old lower) (old x) ≡ joined true (old lower) (old x) = ap (λ (b : Bool). joined b (old lower) (old x))
      (eq_yes x upper e) in
      let was = below_joined old upper lower n (old lower).under o under other down.1 in (
        suc was.0,
        (
          ap (λ (b : Backing). b.backed) same ∙ down.0,
          subst (λ (b : Backing). Below (λ k. joined (k == upper) (old lower) (old k)) was.0 b.under o) (sym same) was.1,
        ),
      )
  | no apart ↦
      let same : joined (x == upper) (old lower) (old x) ≡ old x = ap (λ (b : Bool). joined b (old lower) (old x)) (eq_no x upper apart) in
      let was = below_joined old upper lower (suc n) (old x).under o under other is.1 in (
        suc was.0,
        (
          ap (λ (b : Backing). b.backed) same ∙ is.0,
          subst (λ (b : Backing). Below (λ k. joined (k == upper) (old lower) (old k)) was.0 b.under o) (sym same) was.1,
        ),
      )
]

-- the region is in use, and the object is in its chain
pub record IsLed (used : Bool) (backings : ℕ → Backing) (top o : ℕ) : Type 0 where
  pub used_still : used ≡ true
  pub depth : ℕ
  pub below : Below backings depth top o

abbrev pub Led : Header → ℕ → ℕ → ℕ → List Event → Type 0
Led header host r o past = IsLed (in_use header host r past) (λ k. backing_of header k past) (region_of header r past).top o

-- the object is a temporary one without a control, or was left by a slow copy
pub record IsGone (header : Header) (h o : ℕ) (past : List Event) : Type 0 where
  pub temporary : named header ≤ o
  pub why : (live_control h o past ≡ None) ⊎ (is_left h o past ≡ true)

abbrev pub StillLed : Header → ℕ → ℕ → ℕ → List Event → Type 0
StillLed header h r o past = Led header h r o past ⊎ IsGone header h o past

-- a region that was not made just now is at home on the host that uses it
used_home : (header : Header) (outside : Outside) (h r : ℕ) (past : List Event) → Grown header outside past → (IsNew r past → ⊥) → named header ≤ r
    → in_use header h r past ≡ true → home_of r past ≡ Some h
used_home header outside h r past grown shut late used = by (at_home header outside past grown h r late used)
  where
    by : (home_of r past ≡ Some h) ⊎ IsNew r past → home_of r past ≡ Some h
    by (inl home) = home
    by (inr new) = absurd (shut new)

one_host : (g h : ℕ) (x : Option ℕ) → x ≡ Some g → x ≡ Some h → g ≡ h
one_host g h x one two = same_some g h (sym one ∙ two)

on_it : (h g : ℕ) (x : Option ℕ) → x ≡ Some g → g ≡ h → is_on h x ≡ true
on_it h g x is same = ap (is_on h) is ∙ eq_yes g h same

both : (a b : Bool) → a ≡ true → b ≡ true → (a && b) ≡ true
both true b one two = two
both false b one two = absurd (let bad : false ≡ true = one in cc)

-- an entry comes, behind a slow copy that ended

or_apart : (r region : ℕ) (b : Bool) → (r ≡ region → b ≡ true) → (not (r == region) || b) ≡ true
or_apart r region b here = elim (ℕ_discrete r region) [
  | yes e ↦ ap (λ (t : Bool). not t || b) (eq_yes r region e) ∙ here e
  | no apart ↦ ap (λ (t : Bool). not t || b) (eq_no r region apart)
]

ended_shut : (task address bytes region r : ℕ) (past : List Event) → EndedCopy task address bytes region past → IsNew r past → ⊥
ended_shut task address bytes region r past c new = no_new (subst (λ (z : List Event). IsNew r z) c.is new)
  where
    no_new : IsNew r (event.CopyEnded c.owner ∷ c.before) → ⊥
    no_new (inl is) = let bad : false ≡ true = is in cc
    no_new (inr is) = let bad : false ≡ true = is in cc

pub entered_led : (header : Header) (outside : Outside) (h r o : ℕ) (task : TaskId) (address bytes : ℕ) (region : RegionId) (offset : ℕ) (prot : Prot)
    (inherit : Inherit) (past : List Event) → Grown header outside past → Enters header task.0 bytes region.0 offset past
    → IsOwed (event.Entered task address bytes region offset prot inherit) past → named header ≤ r → Led header h r o past
    → Led header h r o (event.Entered task address bytes region offset prot inherit ∷ past)
entered_led header outside h r o task address bytes region offset prot inherit past grown c owed late led =
    record {
      used_still = both (not (r == region.0) || lives_on h task.0 past) (in_use header h r past) (or_apart r region.0 (lives_on h task.0 past) here)
          led.used_still;
      depth = led.depth;
      below = led.below;
    }
  where
    shut : (k : ℕ) → IsNew k past → ⊥
    shut k = ended_shut task.0 address bytes region.0 k past (owed_entry task address bytes region offset prot inherit past owed)

    here : r ≡ region.0 → lives_on h task.0 past ≡ true
    here same =
        let there = used_home header outside c.host region.0 past grown (shut region.0) (subst (λ (k : ℕ). named header ≤ k) same late)
        (c.used (subst (λ (k : ℕ). named header ≤ k) same late)) in
        let mine = used_home header outside h r past grown (shut r) late led.used_still in
        on_it h c.host (host_of task.0 past) c.lives (one_host c.host h (home_of region.0 past) there (ap (λ k. home_of k past) (sym same) ∙ mine))

-- a shadow comes

pub shadowed_led : (header : Header) (outside : Outside) (host r o : ℕ) (region : RegionId) (new old : ObjectId) (past : List Event)
    → Grown header outside past → new.0 ≡ next_object header past → Led header host r o past
    → Led header host r o (event.Shadowed region new old ∷ past)
shadowed_led header outside host r o region new old past grown number led = elim (ℕ_discrete r region.0) [
  | yes e ↦ record {
    used_still = led.used_still;
    depth = suc led.depth;
    below = subst (λ (k : ℕ). Below after (suc led.depth) k o) (sym (if_yes r region.0 new.0 (region_of header r past).top e)) (over_top e);
  }
  | no apart ↦ record {
    used_still = led.used_still;
    depth = led.depth;
    below = subst (λ (k : ℕ). Below after led.depth k o) (sym (if_no r region.0 new.0 (region_of header r past).top apart)) down;
  }
]
  where
    after : ℕ → Backing
    after k = backing_of header k (event.Shadowed region new old ∷ past)

    m : Made header outside past
    m = made_of header outside past (holds_grown header outside past grown).worlds

    same : (k : ℕ) → k < next_object header past → after k ≡ backing_of header k past
    same k less =
        ap (λ (b : Bool). over b (region_of header region.0 past) (backing_of header k past)) (eq_no k new.0 (λ e. omega (arith, e, less, number)))

    down : Below after led.depth (region_of header r past).top o
    down =
        below_new (λ k. backing_of header k past) after (next_object header past) led.depth (region_of header r past).top o
        (m.tops r (used_made header outside host r past grown.causes led.used_still)) same m.under led.below

    over_top : r ≡ region.0 → Below after (suc led.depth) new.0 o
    over_top e = (
      if_yes new.0 new.0 true (backing_of header new.0 past).backed refl,
      subst (λ (k : ℕ). Below after led.depth k o)
          (ap (λ (k : ℕ). (region_of header k past).top) e
          ∙ sym (if_yes new.0 new.0 (region_of header region.0 past).top (backing_of header new.0 past).under refl)) down,
    )

-- an access fails

record Fill (r task : ℕ) (past : List Event) : Type 0 where
  address : ℕ
  bytes : ℕ
  to : ℕ
  target : Target
  waits : waiting task past ≡ Some (Copying address bytes to)
  filled : copy_target task past ≡ Some target
  region_is : target.region ≡ r

fill_of : (r task : ℕ) (past : List Event) → fills r (waiting task past) (copy_target task past) ≡ true → Fill r task past
fill_of r task past is = by (waiting task past) (copy_target task past) refl refl is
  where
    by : (x : Option Access) (y : Option Target) → waiting task past ≡ x → copy_target task past ≡ y → fills r x y ≡ true → Fill r task past
    by None y w f is = absurd (let bad : false ≡ true = is in cc)
    by (Some (Loading address bytes)) y w f is = absurd (let bad : false ≡ true = is in cc)
    by (Some (Storing address bytes value)) y w f is = absurd (let bad : false ≡ true = is in cc)
    by (Some (Copying address bytes to)) None w f is = absurd (let bad : false ≡ true = is in cc)
    by (Some (Copying address bytes to)) (Some target) w f is =
        record {
          address = address;
          bytes = bytes;
          to = to;
          target = target;
          waits = w;
          filled = f;
          region_is = let same : target.region ≡ r = grind (arith, nat_tests) in same;
        }

record Lives (task : ℕ) (past : List Event) : Type 0 where
  host : ℕ
  is : host_of task past ≡ Some host

fails_living : (header : Header) (task object page : ℕ) (past : List Event) → Fails header task object page past → Lives task past
fails_living header task object page past (ByError failed) = record { host = failed.waits.at.host; is = failed.waits.at.lives }
fails_living header task object page past (Unserved failed) = record { host = failed.waits.at.host; is = failed.waits.at.lives }

or_first : (a b c : Bool) → a ≡ true → b ≡ true → ((a && b) || c) ≡ true
or_first true true c one two = refl
or_first true false c one two = absurd (let bad : false ≡ true = two in cc)
or_first false b c one two = absurd (let bad : false ≡ true = one in cc)

-- the region that a failed slow copy filled led to its own object alone
left_gone : (header : Header) (outside : Outside) (h r o : ℕ) (task : TaskId) (object : ObjectId) (page : PageNo) (past : List Event)
    → Grown header outside past → (IsNew r past → ⊥) → Lives task.0 past → Fill r task.0 past → named header ≤ r → Led header h r o past
    → IsGone header h o (event.Failed task object page ∷ past)
left_gone header outside h r o task object page past grown shut lives fill late led =
    record {
      temporary = subst (λ (k : ℕ). named header ≤ k) top_is ((holds_grown header outside past grown).numbered.temporary r late
          (used_made header outside h r past grown.causes led.used_still));
      why = inr (or_first (lives_on h task.0 past) (is_copy_over o (waiting task.0 past) (copy_target task.0 past)) (is_left h o past)
          (on_it h lives.host (host_of task.0 past) lives.is (one_host lives.host h (home_of r past)
          (ap (λ k. home_of k past) (sym fill.region_is) ∙ copy_home header outside task.0 lives.host fill.address fill.bytes fill.to fill.target past grown
          lives.is fill.waits fill.filled) (used_home header outside h r past grown shut late led.used_still)))
          (ap (λ (x : Option Access). is_copy_over o x (copy_target task.0 past)) fill.waits
          ∙ ap (λ (y : Option Target). is_copy_over o (Some (Copying fill.address fill.bytes fill.to)) y) fill.filled
          ∙ eq_yes fill.target.object o (sym target_is ∙ top_is)));
    }
  where
    target_is : (region_of header r past).top ≡ fill.target.object
    target_is =
        ap (λ k. (region_of header k past).top) (sym fill.region_is)
        ∙ ((holds_grown header outside past grown).filling task.0 lives.host fill.address fill.bytes fill.to fill.target lives.is fill.waits fill.filled).top

    bare : (backing_of header (region_of header r past).top past).backed ≡ false
    bare =
        ap (λ k. (backing_of header k past).backed) target_is
        ∙ (target_bare header outside task.0 fill.target past grown.causes grown.current fill.filled).bare

    top_is : (region_of header r past).top ≡ o
    top_is =
        below_bare (λ k. backing_of header k past) led.depth (region_of header r past).top o
        (λ on. clash (backing_of header (region_of header r past).top past).backed bare on) led.below

pub failed_led : (header : Header) (outside : Outside) (h r o : ℕ) (task : TaskId) (object : ObjectId) (page : PageNo) (past : List Event)
    → Grown header outside past → EntersNext (event.Failed task object page) past → Orderly (event.Failed task object page) past
    → IsBehind (event.Failed task object page) past → Fails header task.0 object.0 page.0 past → named header ≤ r → Led header h r o past
    → StillLed header h r o (event.Failed task object page ∷ past)
failed_led header outside h r o task object page past grown next order stands c late led =
    by (fills r (waiting task.0 past) (copy_target task.0 past)) refl
  where
    e : Event
    e = event.Failed task object page

    shut : IsNew r past → ⊥
    shut new = not_new r e past next order refl new

    held : Holding header r past → Held header r past
    held (inl is) = is
    held (inr (inl new)) = absurd (shut new)
    held (inr (inr owing)) = not_owing r e past stands refl owing

    by : (b : Bool) → fills r (waiting task.0 past) (copy_target task.0 past) ≡ b → StillLed header h r o (e ∷ past)
    by true is = inr (left_gone header outside h r o task object page past grown shut (fails_living header task.0 object.0 page.0 past c)
        (fill_of r task.0 past is) late led)
    by false is =
        inl (record {
          used_still =
              both (is_kept header r (e ∷ past)) (in_use header h r past)
              (fails_still header r task object page past is (held (holding header outside past grown h r late led.used_still))) led.used_still;
          depth = led.depth;
          below = led.below;
        })

-- two objects are merged

-- a region that leads to something that stands on an object is a temporary one
late_over : (header : Header) (r n upper : ℕ) (past : List Event) → Sound header past
    → Below (λ k. backing_of header k past) n (region_of header r past).top upper → (backing_of header upper past).backed ≡ true → named header ≤ r
late_over header r n upper past sound below backed = elim (cases_lt r (named header)) [
  | inl declared ↦
      let top : (region_of header r past).top ≡ r = sound.tops r declared in
      let bare : (backing_of header (region_of header r past).top past).backed ≡ false = ap (λ k. (backing_of header k past).backed) top
      ∙ sound.bare r declared in
      let same : (region_of header r past).top ≡ upper = below_bare (λ k. backing_of header k past) n (region_of header r past).top upper
      (λ on. clash (backing_of header (region_of header r past).top past).backed bare on) below in
      clash (backing_of header (region_of header r past).top past).backed bare (ap (λ k. (backing_of header k past).backed) same ∙ backed)
  | inr temporary ↦ temporary
]

housed_home : (header : Header) (outside : Outside) (h r u : ℕ) (past : List Event) → Grown header outside past → (IsNew r past → ⊥) → named header ≤ r
    → in_use header h r past ≡ true → IsHoused h r u past → object_home u past ≡ Some h
housed_home header outside h r u past grown shut late used (inr home) = home
housed_home header outside h r u past grown shut late used (inl none) =
    absurd (let some = used_home header outside h r past grown shut late used in let bad : None ≡ Some h = sym none.0 ∙ some in cc)

-- an object of a pair is reached on one host
pair_host : (header : Header) (outside : Outside) (h r n upper lower : ℕ) (past : List Event) → Grown header outside past
    → ((k : ℕ) → IsNew k past → ⊥) → (merges : Merges header upper lower past) → named header ≤ r → in_use header h r past ≡ true
    → Below (λ k. backing_of header k past) n (region_of header r past).top lower → h ≡ merges.host
pair_host header outside h r n upper lower past grown shut merges late used below =
    let pair = merges.pair in
    let there = pair.reached in
    let from = late_over header there.0 there.1 upper past (sound_grown header outside past grown) there.3 pair.backed in
    let down = subst (λ (k : ℕ). Below (λ k. backing_of header k past) (suc there.1) (region_of header there.0 past).top k) pair.under
    (below_step (λ k. backing_of header k past) there.1 (region_of header there.0 past).top upper there.3 pair.backed) in
    one_host h merges.host (object_home lower past)
    (housed_home header outside h r lower past grown (shut r) late used (reached header outside past grown h r n lower used below pair.temporary))
    (housed_home header outside merges.host there.0 lower past grown (shut there.0) from there.2
    (reached header outside past grown merges.host there.0 (suc there.1) lower there.2 down pair.temporary))

pub merged_led : (header : Header) (outside : Outside) (h r o : ℕ) (upper lower : ObjectId) (past : List Event) → Grown header outside past
    → ((k : ℕ) → IsNew k past → ⊥) → Merges header upper.0 lower.0 past → named header ≤ r → Led header h r o past
    → StillLed header h r o (event.Merged upper lower ∷ past)
merged_led header outside h r o upper lower past grown shut merges late led = elim (ℕ_discrete lower.0 o) [
  | yes e ↦ inr (record {
    temporary = subst (λ (k : ℕ). named header ≤ k) e merges.pair.temporary;
    why = inl (subst (λ (k : ℕ). live_control h k past ≡ None) e (never_lives header outside h lower.0 past grown.causes
        (ap (λ (g : ℕ). last_control g lower.0 past) (pair_host header outside h r led.depth upper.0 lower.0 past grown shut merges late led.used_still
        (subst (λ (k : ℕ). Below (λ k. backing_of header k past) led.depth (region_of header r past).top k) (sym e) led.below)) ∙ merges.pair.lower_never)));
  })
  | no apart ↦
      let still = below_joined (λ k. backing_of header k past) upper.0 lower.0 led.depth (region_of header r past).top o merges.pair.under apart led.below in
      inl (record { used_still = led.used_still; depth = still.0; below = still.1 })
]
