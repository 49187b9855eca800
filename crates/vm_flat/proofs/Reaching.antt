-- In a step that took a message a temporary region that was in use, and led to a declared object, is still in use, and still leads to it.
use Rattle.std.proofs.Common.{ℕ, zero, suc, ◌<◌, ◌≤◌, ◌≡◌, ◌==◌, ◌||◌, ◌&&◌, not, Bool, true, false, List, [], ◌∷◌, Some, refl, ap, sym, ◌∙◌, subst, arith}
use Rattle.std.proofs.Common.{inl, inr}
use Rattle.std.specs.Prelude.{◌≢◌}
use native.Mathlib.Decide.{ℕ_discrete}
use Rattle.vm_base.specs.declared.ids.Inherit.{Inherit}
use Rattle.vm_base.specs.declared.ids.ObjectId.{ObjectId}
use Rattle.vm_base.specs.declared.ids.PageNo.{PageNo}
use Rattle.vm_base.specs.declared.ids.Prot.{Prot}
use Rattle.vm_base.specs.declared.ids.RegionId.{RegionId}
use Rattle.vm_base.specs.declared.ids.TaskId.{TaskId}
use Rattle.vm_model.specs.declared.event.Event.{Event}
use Rattle.vm_model.specs.declared.event.Event.TheVariants as event
use Rattle.vm_model.specs.declared.script.Header.{Header}
use Rattle.vm_model.specs.Moments.{EachEvent}
use Rattle.vm_model.specs.Named.{named}
use Rattle.vm_model.specs.Regions.{Backing, backing_of, joined, next_object, over, region_of}
use Rattle.vm_model.specs.Tasks.{host_of}
use Rattle.vm_legal.specs.Bytes.{CopiesCurrent}
use Rattle.vm_legal.specs.Follows.{IsConsequence}
use Rattle.vm_legal.specs.Licences.{HasCause, IsOwed}
use Rattle.vm_legal.specs.Living.{lives_on}
use Rattle.vm_legal.specs.Outside.{Outside}
use Rattle.vm_legal.specs.Steps.{Letter, before_step, taken_letter}
use Rattle.vm_legal.specs.Swept.{IsUnreached}
use Rattle.vm_legal.specs.Used.{in_use, is_kept}
use Rattle.vm_legal.specs.Walks.{Below}
use Rattle.vm_flat.proofs.Heads.{EndedCopy, Orderly, owed_entry}
use Rattle.vm_flat.proofs.Held.{kept}
use Rattle.vm_flat.proofs.Housed.{Made, made_of}
use Rattle.vm_flat.proofs.Law.{holds}
use Rattle.vm_flat.proofs.Leading.{Bare, State, clash, filled_bare, state, used_made}
use Rattle.vm_flat.proofs.Pagers.{not_taken}
use Rattle.vm_flat.proofs.Regions.{eq_no, eq_yes, if_no, if_yes}
use Rattle.vm_flat.proofs.Translation.{sustained}

-- in a step that took a message the event follows from it
abbrev pub FollowsTaken : Event → List Event → Type 0
FollowsTaken (event.Line line) past = Unit {0}
FollowsTaken e past = (letter : Letter) → taken_letter past ≡ Some letter → IsConsequence e past

-- chains

-- below an object that is there, links of new ones are not seen
below_new : (old new : ℕ → Backing) (m n x o : ℕ) → x < m → ((k : ℕ) → k < m → new k ≡ old k) → ((k : ℕ) → (old k).backed ≡ true → (old k).under < m)
    → Below old n x o → Below new n x o
below_new old new m zero x o less same born is = is
below_new old new m (suc n) x o less same born is =
    let later : Below new n (old x).under o = below_new old new m n (old x).under o (born x is.0) same born is.1 in (
      subst (λ (b : Backing). b.backed ≡ true) (sym (same x less)) is.0,
      subst (λ (b : Backing). Below new n b.under o) (sym (same x less)) later,
    )

-- what was below is below where two objects were merged, but the lower of them
below_joined : (old : ℕ → Backing) (upper lower n x o : ℕ) → (old upper).under ≡ lower → lower ≢ o → Below old n x o
    → (m : ℕ) × Below (λ k. joined (k == upper) (old lower) (old k)) m x o
below_joined old upper lower zero x o under other is = (0, is)
below_joined old upper lower (suc zero) x o under other is = elim (ℕ_discrete x upper) [
  | yes e ↦ absurd (other (sym under ∙ ap (λ (k : ℕ). (old k).under) (sym e) ∙ is.1))
  | no apart ↦
      let same : joined (x == upper) (old lower) (old x) ≡ old x = ap (λ (b : Bool). joined b (old lower) (old x)) (eq_no x upper apart) in (
        1,
        (ap (λ (b : Backing). b.backed) same ∙ is.0, ap (λ (b : Backing). b.under) same ∙ is.1),
      )
]
below_joined old upper lower (suc (suc n)) x o under other is = elim (ℕ_discrete x upper) [
  | yes e ↦
      let there : (old x).under ≡ lower = ap (λ (k : ℕ). (old k).under) e ∙ under in
      let down : Below old (suc n) lower o = subst (λ (k : ℕ). Below old (suc n) k o) there is.1 in
      let same : joined (x == upper) (old lower) (old x) ≡ joined true (old lower) (old x) = ap (λ (b : Bool). joined b (old lower) (old x))
      (eq_yes x upper e) in
      let was = below_joined old upper lower n (old lower).under o under other down.1 in (
        suc was.0,
        (
          ap (λ (b : Backing). b.backed) same ∙ down.0,
          subst (λ (b : Backing). Below (λ k. joined (k == upper) (old lower) (old k)) was.0 b.under o) (sym same) was.1,
        ),
      )
  | no apart ↦
      let same : joined (x == upper) (old lower) (old x) ≡ old x = ap (λ (b : Bool). joined b (old lower) (old x)) (eq_no x upper apart) in
      let was = below_joined old upper lower (suc n) (old x).under o under other is.1 in (
        suc was.0,
        (
          ap (λ (b : Backing). b.backed) same ∙ is.0,
          subst (λ (b : Backing). Below (λ k. joined (k == upper) (old lower) (old k)) was.0 b.under o) (sym same) was.1,
        ),
      )
]

-- the region is in use, and the object is in its chain
record IsLed (used : Bool) (backings : ℕ → Backing) (top o : ℕ) : Type 0 where
  used_still : used ≡ true
  depth : ℕ
  below : Below backings depth top o

abbrev Led : Header → ℕ → ℕ → ℕ → List Event → Type 0
Led header host r o past = IsLed (in_use header host r past) (λ k. backing_of header k past) (region_of header r past).top o

-- a temporary region over an object that stands on nothing leads to no declared one
unled : {A : Type 0} (header : Header) (outside : Outside) (host r o : ℕ) (past : List Event) → EachEvent (HasCause header outside) past
    → EachEvent (CopiesCurrent header outside) past → named header ≤ r → o < named header → Led header host r o past
    → Bare header (region_of header r past).top past → A
unled header outside host r o past caused current late declared led bare = down led.depth led.below
  where
    high : named header ≤ (region_of header r past).top
    high =
        (holds header outside past (sustained header outside past caused) current).numbered.temporary r late
        (used_made header outside host r past caused led.used_still)

    down : {A : Type 0} (depth : ℕ) → Below (λ k. backing_of header k past) depth (region_of header r past).top o → A
    down zero is = absurd (omega (arith, is, high, declared))
    down (suc depth) is = clash (backing_of header (region_of header r past).top past).backed bare.bare is.0

-- each event

-- a slow copy's region has its entry
owed_bare : (header : Header) (outside : Outside) (task address bytes region host : ℕ) (past : List Event) → EndedCopy task address bytes region past
    → EachEvent (HasCause header outside) past → EachEvent (CopiesCurrent header outside) past → host_of task past ≡ Some host
    → Bare header (region_of header region past).top past
owed_bare header outside task address bytes region host past c caused current lives =
    subst (λ (z : List Event). Bare header (region_of header region z).top z) (sym c.is)
    (subst (λ (k : ℕ). Bare header (region_of header k c.before).top c.before) c.region_is
    (filled_bare header outside c.owner.0 host c.from bytes address c.target c.before front.1 bytes_front.1
    (subst (λ (z : List Event). host_of c.owner.0 z ≡ Some host) c.is (ap (λ (t : ℕ). host_of t past) c.owner_is ∙ lives)) c.waits c.filled))
  where
    front : EachEvent (HasCause header outside) (event.CopyEnded c.owner ∷ c.before)
    front = subst (EachEvent (HasCause header outside)) c.is caused

    bytes_front : EachEvent (CopiesCurrent header outside) (event.CopyEnded c.owner ∷ c.before)
    bytes_front = subst (EachEvent (CopiesCurrent header outside)) c.is current

both : (a b : Bool) → a ≡ true → b ≡ true → (a && b) ≡ true
both true b one two = two
both false b one two = absurd (let bad : false ≡ true = one in cc)

apart_or : (r region : ℕ) (b : Bool) → r ≢ region → (not (r == region) || b) ≡ true
apart_or r region b apart = ap (λ (t : Bool). not t || b) (eq_no r region apart)

entered_led : (header : Header) (outside : Outside) (host r o : ℕ) (task : TaskId) (address bytes : ℕ) (region : RegionId) (offset : ℕ) (prot : Prot)
    (inherit : Inherit) (past : List Event) → EachEvent (HasCause header outside) (event.Entered task address bytes region offset prot inherit ∷ past)
    → EachEvent (CopiesCurrent header outside) past → named header ≤ r → o < named header
    → IsOwed (event.Entered task address bytes region offset prot inherit) past → Led header host r o past
    → Led header host r o (event.Entered task address bytes region offset prot inherit ∷ past)
entered_led header outside host r o task address bytes region offset prot inherit past caused current late declared owed led =
    record {
      used_still =
          both (not (r == region.0) || lives_on host task.0 past) (in_use header host r past) (apart_or r region.0 (lives_on host task.0 past) apart)
          led.used_still;
      depth = led.depth;
      below = led.below;
    }
  where
    apart : r ≢ region.0
    apart same =
        unled header outside host r o past caused.1 current late declared led
        (subst (λ (k : ℕ). Bare header (region_of header k past).top past) (sym same)
        (owed_bare header outside task.0 address bytes region.0 caused.0.1.host past (owed_entry task address bytes region offset prot inherit past owed)
        caused.1 current caused.0.1.lives))

failed_led : (header : Header) (outside : Outside) (host r o : ℕ) (task : TaskId) (object : ObjectId) (page : PageNo) (past : List Event)
    → EachEvent (HasCause header outside) past → EachEvent (CopiesCurrent header outside) past → EachEvent Orderly (event.Failed task object page ∷ past)
    → named header ≤ r → o < named header → Led header host r o past → Led header host r o (event.Failed task object page ∷ past)
failed_led header outside host r o task object page past caused current each late declared led =
    record {
      used_still = both (is_kept header r now) (in_use header host r past) (by (state header outside past caused current each.1 host r late led.used_still))
          led.used_still;
      depth = led.depth;
      below = led.below;
    }
  where
    now : List Event
    now = event.Failed task object page ∷ past

    by : State header r past → is_kept header r now ≡ true
    by (inl bare) = unled header outside host r o past caused current late declared led bare
    by (inr (inl has)) = kept header r has.task has.host now has.lives has.has
    by (inr (inr new)) = absurd (let bad : false ≡ true = each.0.0 r new in cc)

shadowed_led : (header : Header) (outside : Outside) (host r o : ℕ) (region : RegionId) (new old : ObjectId) (past : List Event)
    → EachEvent (HasCause header outside) past → EachEvent (CopiesCurrent header outside) past → new.0 ≡ next_object header past → Led header host r o past
    → Led header host r o (event.Shadowed region new old ∷ past)
shadowed_led header outside host r o region new old past caused current number led = elim (ℕ_discrete r region.0) [
  | yes e ↦ record {
    used_still = led.used_still;
    depth = suc led.depth;
    below = subst (λ (k : ℕ). Below after (suc led.depth) k o) (sym (if_yes r region.0 new.0 (region_of header r past).top e)) (over_top e);
  }
  | no apart ↦ record {
    used_still = led.used_still;
    depth = led.depth;
    below = subst (λ (k : ℕ). Below after led.depth k o) (sym (if_no r region.0 new.0 (region_of header r past).top apart)) down;
  }
]
  where
    after : ℕ → Backing
    after k = backing_of header k (event.Shadowed region new old ∷ past)

    m : Made header outside past
    m = made_of header outside past (holds header outside past (sustained header outside past caused) current).worlds

    same : (k : ℕ) → k < next_object header past → after k ≡ backing_of header k past
    same k less =
        ap (λ (b : Bool). over b (region_of header region.0 past) (backing_of header k past)) (eq_no k new.0 (λ e. omega (arith, e, less, number)))

    down : Below after led.depth (region_of header r past).top o
    down =
        below_new (λ k. backing_of header k past) after (next_object header past) led.depth (region_of header r past).top o
        (m.tops r (used_made header outside host r past caused led.used_still)) same m.under led.below

    over_top : r ≡ region.0 → Below after (suc led.depth) new.0 o
    over_top e = (
      if_yes new.0 new.0 true (backing_of header new.0 past).backed refl,
      subst (λ (k : ℕ). Below after led.depth k o)
          (ap (λ (k : ℕ). (region_of header k past).top) e
          ∙ sym (if_yes new.0 new.0 (region_of header region.0 past).top (backing_of header new.0 past).under refl)) down,
    )

led_then : (header : Header) (outside : Outside) (host r o depth : ℕ) (letter : Letter) (past : List Event) → EachEvent (HasCause header outside) past
    → EachEvent (CopiesCurrent header outside) past → EachEvent FollowsTaken past → EachEvent Orderly past → taken_letter past ≡ Some letter
    → named header ≤ r → o < named header → in_use header host r (before_step past) ≡ true
    → Below (λ k. backing_of header k (before_step past)) depth (region_of header r (before_step past)).top o → Led header host r o past
led_then header outside host r o depth letter [] caused current follows each is late declared used below = not_taken letter is
led_then header outside host r o depth letter (event.Line line ∷ past) caused current follows each is late declared used below = not_taken letter is
led_then header outside host r o depth letter (event.Taken channel m ∷ past) caused current follows each is late declared used below =
    record { used_still = used; depth = depth; below = below }
led_then header outside host r o depth letter (event.TaskMade task at ∷ past) caused current follows each is late declared used below =
    absurd (follows.0 letter is)
led_then header outside host r o depth letter (event.TaskEnded task ∷ past) caused current follows each is late declared used below =
    absurd (follows.0 letter is)
led_then header outside host r o depth letter (event.RegionMade region object pages ∷ past) caused current follows each is late declared used below =
    absurd (follows.0 letter is)
led_then header outside host r o depth letter (event.RegionCopied region source offset pages ∷ past) caused current follows each is late declared used below =
    absurd (follows.0 letter is)
led_then header outside host r o depth letter (event.Delayed region source offset pages copy ∷ past) caused current follows each is late declared used below =
    absurd (follows.0 letter is)
led_then header outside host r o depth letter (event.Removed task address bytes ∷ past) caused current follows each is late declared used below =
    absurd (follows.0 letter is)
led_then header outside host r o depth letter (event.Entered task address bytes region offset prot inherit ∷ past) caused current follows each is late declared
    used below =
    entered_led header outside host r o task address bytes region offset prot inherit past caused current.1 late declared (follows.0 letter is)
    (led_then header outside host r o depth letter past caused.1 current.1 follows.1 each.1 is late declared used below)
led_then header outside host r o depth letter (event.Failed task object page ∷ past) caused current follows each is late declared used below =
    failed_led header outside host r o task object page past caused.1 current.1 each late declared
    (led_then header outside host r o depth letter past caused.1 current.1 follows.1 each.1 is late declared used below)
led_then header outside host r o depth letter (event.Shadowed region new old ∷ past) caused current follows each is late declared used below =
    shadowed_led header outside host r o region new old past caused.1 current.1 caused.0.1.next
    (led_then header outside host r o depth letter past caused.1 current.1 follows.1 each.1 is late declared used below)
led_then header outside host r o depth letter (event.Merged upper lower ∷ past) caused current follows each is late declared used below =
    let was = led_then header outside host r o depth letter past caused.1 current.1 follows.1 each.1 is late declared used below in
    let pair = caused.0.1.pair in
    let still = below_joined (λ k. backing_of header k past) upper.0 lower.0 was.depth (region_of header r past).top o pair.under
    (λ same. omega (arith, same, pair.temporary, declared)) was.below in
    record { used_still = was.used_still; depth = still.0; below = still.1 }
led_then header outside host r o depth letter (e ∷ past) caused current follows each is late declared used below =
    led_then header outside host r o depth letter past caused.1 current.1 follows.1 each.1 is late declared used below

-- so what no such region leads to now, none led to when the step began
pub unreached_then : (header : Header) (outside : Outside) (host o : ℕ) (letter : Letter) (past : List Event) → EachEvent (HasCause header outside) past
    → EachEvent (CopiesCurrent header outside) past → EachEvent FollowsTaken past → EachEvent Orderly past → taken_letter past ≡ Some letter
    → o < named header → IsUnreached header host o past → IsUnreached header host o (before_step past)
unreached_then header outside host o letter past caused current follows each is declared unreached region depth late used below =
    let led = led_then header outside host region o depth letter past caused current follows each is late declared used below in
    unreached region led.depth late led.used_still led.below
