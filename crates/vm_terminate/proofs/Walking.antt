-- Objects end down a shadow chain.
use Rattle.std.proofs.Common.{◌≡◌, ◌⊎◌, ◌∙◌, ℕ, suc, ◌<◌, ◌≤◌, Option, Some, None, inl, inr, refl, ap, sym, subst, arith}
use Rattle.std.specs.Option.{option_map}
use Rattle.vm_base.specs.declared.ids.HostId.{HostId}
use Rattle.vm_base.specs.declared.ids.ObjectId.{ObjectId}
use Rattle.vm_copies.specs.Copies.{LeavesCopies}
use Rattle.vm_objects.specs.Objects.{object_at}
use Rattle.vm_objects.specs.declared.row.ObjectRow.{ObjectRow}
use Rattle.vm_parts.proofs.Rows.{one_case, row_cases}
use Rattle.vm_parts.specs.Fits.{Fit}
use Rattle.vm_parts.specs.Listed.{listed_pages}
use Rattle.vm_resident.specs.Resident.{row_at}
use Rattle.vm_shadow.proofs.Ranks.{height_falls}
use Rattle.vm_shadow.specs.Chains.{IsRanked, height, shadow_at}
use Rattle.vm_shadow.specs.declared.shadow_row.ShadowRow.{ShadowRow}
use Rattle.vm_terminate.proofs.Leaving.{HasGone, has_gone}
use Rattle.vm_terminate.specs.Finishes.{CanFinish, ControlEnds, EndsWith, FinishState, Finishes, Further, IsReferred, IsTold, Itself, LosesUnder, Next}
use Rattle.vm_terminate.specs.Finishes.{NoControl, NoMore, PagesLeave}
use Rattle.vm_terminate.specs.Finishes.{Alone, Downward, OverOne, left_of}
use Rattle.vm_terminate.specs.Steps.{AllHere, Ends, LeavesUnder, Nothing, Stays}

-- what the pages of an object leave as it was
pub record PagesHaveLeft (object : ℕ) (old new : FinishState) : Type 0 where
  pub others : (o p : ℕ) → (object ≡ o → ⊥) → row_at new.parts.resident o p ≡ row_at old.parts.resident o p
  pub objects : (o : ℕ) → object_at new.parts.objects o ≡ object_at old.parts.objects o
  pub chains : new.chains ≡ old.chains
  pub room : listed_pages old.parts.queues ≤ old.room → listed_pages new.parts.queues ≤ new.room

left_before : (o p : ℕ) (old mid new : FinishState) → HasGone o p old mid → mid.chains ≡ old.chains → PagesHaveLeft o mid new → PagesHaveLeft o old new
left_before o p old mid new gone chains more =
    record {
      others =
          λ other q apart. more.others other q apart ∙ (elim (row_cases o p None old.parts.resident mid.parts.resident gone.rows other q)
          [ inl put ↦ absurd (apart put.object) | inr that ↦ that.is ]);
      objects = λ other. more.objects other ∙ gone.objects.at other;
      chains = more.chains ∙ chains;
      room = λ fits. more.room (let lists = gone.lists in let room = gone.room in omega arith);
    }

pub pages_have_left : (host : HostId) (object : ObjectId) (known : ObjectRow) (from : ℕ) (old new : FinishState) → PagesLeave host object known from old new
    → PagesHaveLeft object.0 old new
pages_have_left host object known _ _ _ (NoMore from s none) = record { others = λ o p apart. refl; objects = λ o. refl; chains = refl; room = λ fits. fits }
pages_have_left host object known _ _ _ (Next from page row old mid new low first found here chains copies leaves more) =
    left_before object.0 page.0 old mid new (has_gone host (record { object = object; page = page }) known row old mid here leaves) chains
    (pages_have_left host object known (suc page.0) mid new more)

-- what an object's control leaves as it was
pub record ControlHasEnded (object : ℕ) (old new : FinishState) : Type 0 where
  pub pages : (o p : ℕ) → row_at new.parts.resident o p ≡ row_at old.parts.resident o p
  pub objects : (o : ℕ) → (object ≡ o → ⊥) → object_at new.parts.objects o ≡ object_at old.parts.objects o
  pub chains : new.chains ≡ old.chains
  pub queues : new.parts.queues ≡ old.parts.queues
  pub room : new.room ≡ old.room

pub control_has_ended : (host : HostId) (object : ObjectId) (known : ObjectRow) (old new : FinishState) → ControlEnds host object known old new
    → ControlHasEnded object.0 old new
control_has_ended host object known old new (NoControl dead same) =
    rw same record { pages = λ o p. refl; objects = λ o apart. refl; chains = refl; queues = refl; room = refl }
control_has_ended host object known old new (IsTold live keeps put events) =
    record {
      pages = λ o p. ap (λ z. row_at z.parts.resident o p) keeps.is;
      objects =
          λ o apart. elim (one_case object.0 o _ (object_at old.parts.objects o) (object_at new.parts.objects o) (put.at o))
          [ inl same ↦ absurd (apart same.0) | inr that ↦ that.1 ];
      chains = ap (λ z. z.chains) keeps.is;
      queues = ap (λ z. z.parts.queues) keeps.is;
      room = ap (λ z. z.room) keeps.is;
    }

-- The end has come down to an object. What is further down a chain is as it was at the start, and so are the object's own pages and its shadow; nothing refers
-- to it any more. Each chain ends, which is known once something has ended.
pub record HasComeTo (object : ℕ) (start now : FinishState) (o : ℕ) : Type 0 where
  pub fit : Fit now.parts
  pub ends : EndsWith start.chains start.parts.objects object o
  pub row : ObjectRow
  pub known : object_at now.parts.objects o ≡ Some row
  pub none : row.references ≡ 0
  pub stood : ObjectRow
  pub was : object_at start.parts.objects o ≡ Some stood
  pub kind : row.kind ≡ stood.kind
  pub ranked : (now.chains ≡ start.chains) ⊎ IsRanked start.chains
  pub below : (other : ℕ) → height start.chains other < height start.chains o → object_at now.parts.objects other ≡ object_at start.parts.objects other
  pub shadows : (other : ℕ) → height start.chains other ≤ height start.chains o → shadow_at now.chains other ≡ shadow_at start.chains other
  pub pages : (other p : ℕ) → height start.chains other ≤ height start.chains o → row_at now.parts.resident other p ≡ row_at start.parts.resident other p
  pub room : listed_pages now.parts.queues ≤ now.room

pub at_first : (start : FinishState) (object : ℕ) → CanFinish start object → HasComeTo object start start object
at_first start object can =
    record {
      fit = can.fit;
      ends = Itself;
      row = can.row;
      known = can.known;
      none = can.none;
      stood = can.row;
      was = can.known;
      kind = refl;
      ranked = inl refl;
      below = λ other less. refl;
      shadows = λ other less. refl;
      pages = λ other p less. refl;
      room = can.room;
    }

start_ranked : (object : ℕ) (start now : FinishState) (o : ℕ) → HasComeTo object start now o → IsRanked now.chains → IsRanked start.chains
start_ranked object start now o come ranked = elim come.ranked [ inl same ↦ subst IsRanked same ranked | inr known ↦ known ]

-- what stands under the object is further down
pub under_lower : (object : ℕ) (start now : FinishState) (o : ℕ) (row : ShadowRow) → HasComeTo object start now o → IsRanked now.chains
    → shadow_at now.chains o ≡ Some row → height start.chains row.under.0 < height start.chains o
under_lower object start now o row come ranked is =
    let falls = height_falls start.chains (start_ranked object start now o come ranked) o row (sym (come.shadows o (omega arith)) ∙ is) in
    omega (arith, falls)

-- an object that is further down is another
lower_apart : (start : FinishState) (o low : ℕ) → height start.chains low < height start.chains o → (o ≡ low → ⊥)
lower_apart start o low less same = let both = ap (height start.chains) same in omega (arith, less, both)

-- no page of it is asked
pub its_pages_here : (object : ℕ) (start now : FinishState) (o : ℕ) → CanFinish start object → HasComeTo object start now o → AllHere now.parts.resident o
its_pages_here object start now o can come p page is = can.here o p page come.ends (sym (come.pages o p (omega arith)) ∙ is)

-- the pages of an object have left, its control has ended, and it is a copy object no more
pub record IsBare (host : HostId) (object : ObjectId) (known : ObjectRow) (now bare quiet silent : FinishState) : Type 0 where
  pub known_is : object_at now.parts.objects object.0 ≡ Some known
  pub pages : PagesLeave host object known 0 now bare
  pub control : ControlEnds host object known bare quiet
  pub copies : LeavesCopies object.0 quiet.copies silent.copies
  pub rest : silent ≡ record quiet { copies = silent.copies }

-- what both leave as it was
pub both_have_ended : (host : HostId) (object : ObjectId) (known : ObjectRow) (now bare quiet silent : FinishState)
    → IsBare host object known now bare quiet silent → ControlHasEnded object.0 bare silent
both_have_ended host object known now bare quiet silent ends =
    let gone = control_has_ended host object known bare quiet ends.control in
    record {
      pages = λ o p. ap (λ z. row_at z.parts.resident o p) ends.rest ∙ gone.pages o p;
      objects = λ o apart. ap (λ z. object_at z.parts.objects o) ends.rest ∙ gone.objects o apart;
      chains = ap (λ z. z.chains) ends.rest ∙ gone.chains;
      queues = ap (λ z. z.parts.queues) ends.rest ∙ gone.queues;
      room = ap (λ z. z.room) ends.rest ∙ gone.room;
    }

-- what is known of the object is known still when its pages have left
pub still_known : (host : HostId) (object : ObjectId) (known : ObjectRow) (now bare : FinishState) → object_at now.parts.objects object.0 ≡ Some known
    → PagesLeave host object known 0 now bare
    → object_at bare.parts.objects object.0 ≡ Some known
still_known host object known now bare is pages = (pages_have_left host object known 0 now bare pages).objects object.0 ∙ is

-- each other is as it was
other_objects : (host : HostId) (object : ObjectId) (known : ObjectRow) (now bare quiet silent : FinishState) → IsBare host object known now bare quiet silent
    → (other : ℕ) → (object.0 ≡ other → ⊥) → object_at silent.parts.objects other ≡ object_at now.parts.objects other
other_objects host object known now bare quiet silent ends other apart =
    (both_have_ended host object known now bare quiet silent ends).objects other apart
    ∙ (pages_have_left host object known 0 now bare ends.pages).objects other

-- what stands under it is referred to
pub under_referred : (host : HostId) (object : ℕ) (ending : ObjectId) (known : ObjectRow) (start now bare quiet silent : FinishState) → CanFinish start object
    → HasComeTo object start now ending.0 → IsBare host ending known now bare quiet silent
    → IsRanked now.chains → (row : ShadowRow) → shadow_at now.chains ending.0 ≡ Some row → IsReferred silent.parts.objects row.under.0
under_referred host object ending known start now bare quiet silent can come ends ranked row is =
    let less = under_lower object start now ending.0 row come ranked is in
    let there = can.under ending.0 row come.ends (sym (come.shadows ending.0 (omega arith)) ∙ is) in
    record {
      row = there.row;
      known =
          other_objects host ending known now bare quiet silent ends row.under.0 (lower_apart start ending.0 row.under.0 less)
          ∙ (come.below row.under.0 less ∙ there.known);
      some = there.some;
    }

chains_are : (host : HostId) (object : ObjectId) (known : ObjectRow) (now bare quiet silent : FinishState) → IsBare host object known now bare quiet silent
    → silent.chains ≡ now.chains
chains_are host object known now bare quiet silent ends =
    (both_have_ended host object known now bare quiet silent ends).chains ∙ (pages_have_left host object known 0 now bare ends.pages).chains

-- the lists are those that the object's pages left
pub queues_are : (host : HostId) (object : ObjectId) (known under : ObjectRow) (row : ShadowRow) (now bare quiet silent next : FinishState)
    → IsBare host object known now bare quiet silent → LosesUnder object row under 0 silent next
    → next.parts.queues ≡ bare.parts.queues
queues_are host object known under row now bare quiet silent next ends loses =
    ap (λ z. z.parts.queues) loses.rest ∙ (both_have_ended host object known now bare quiet silent ends).queues

-- what stood under the object at the start
pub shadow_stood : (host : HostId) (object : ℕ) (ending : ObjectId) (known under : ObjectRow) (row : ShadowRow) (start now bare quiet silent next : FinishState)
    → HasComeTo object start now ending.0 → IsBare host ending known now bare quiet silent
    → LosesUnder ending row under 0 silent next → shadow_at start.chains ending.0 ≡ Some row
shadow_stood host object ending known under row start now bare quiet silent next come ends loses =
    sym (come.shadows ending.0 (omega arith)) ∙ (sym (ap (λ z. shadow_at z ending.0) (chains_are host ending known now bare quiet silent ends)) ∙ loses.found)

pub under_stood : (host : HostId) (object : ℕ) (ending : ObjectId) (known under : ObjectRow) (row : ShadowRow) (start now bare quiet silent next : FinishState)
    → HasComeTo object start now ending.0 → IsBare host ending known now bare quiet silent
    → LosesUnder ending row under 0 silent next → height start.chains row.under.0 < height start.chains ending.0
    → object_at start.parts.objects row.under.0 ≡ Some under
under_stood host object ending known under row start now bare quiet silent next come ends loses less =
    sym (come.below row.under.0 less)
    ∙ (sym (other_objects host ending known now bare quiet silent ends row.under.0 (lower_apart start ending.0 row.under.0 less)) ∙ loses.under)

-- the end comes down to what stands under the object
pub come_down : (host : HostId) (object : ℕ) (ending : ObjectId) (known under : ObjectRow) (row : ShadowRow) (start now bare quiet silent next : FinishState)
    → HasComeTo object start now ending.0 → IsBare host ending known now bare quiet silent
    → LosesUnder ending row under 0 silent next → IsRanked silent.chains → Fit next.parts → HasComeTo object start next row.under.0
come_down host object ending known under row start now bare quiet silent next come ends loses rank fit =
    let chains = chains_are host ending known now bare quiet silent ends in
    let ranked : IsRanked now.chains = subst IsRanked chains rank in
    let less = under_lower object start now ending.0 row come ranked (sym (ap (λ z. shadow_at z ending.0) chains) ∙ loses.found) in
    record {
      fit = fit;
      ends = Further ending.0 row under come.ends (shadow_stood host object ending known under row start now bare quiet silent next come ends loses)
          (under_stood host object ending known under row start now bare quiet silent next come ends loses less) (sym loses.less);
      row = record under { references = 0 };
      known = elim (one_case row.under.0 row.under.0 _ _ _ (loses.objects.at row.under.0)) [ inl same ↦ same.1 | inr apart ↦ absurd (apart.0 refl) ];
      none = refl;
      stood = under;
      was = under_stood host object ending known under row start now bare quiet silent next come ends loses less;
      kind = refl;
      ranked = inr (start_ranked object start now ending.0 come ranked);
      below = λ other lower. elim (one_case row.under.0 other _ _ _ (loses.objects.at other)) [
        | inl same ↦ absurd (lower_apart start row.under.0 other lower same.0)
        | inr apart ↦ apart.1
            ∙ (other_objects host ending known now bare quiet silent ends other (lower_apart start ending.0 other (omega (arith, lower, less)))
            ∙ come.below other (omega (arith, lower, less)))
      ];
      shadows = λ other lower. elim (one_case ending.0 other _ _ _ (loses.chains.at other)) [
        | inl same ↦ absurd (lower_apart start ending.0 other (omega (arith, lower, less)) same.0)
        | inr apart ↦ apart.1 ∙ (ap (λ z. shadow_at z other) chains ∙ come.shadows other (omega (arith, lower, less)))
      ];
      pages = λ other p lower.
          ap (λ z. row_at z.parts.resident other p) loses.rest
          ∙ ((both_have_ended host ending known now bare quiet silent ends).pages other p
          ∙ ((pages_have_left host ending known 0 now bare ends.pages).others other p
          (lower_apart start ending.0 other (omega (arith, lower, less))) ∙ come.pages other p (omega (arith, lower, less))));
      room =
          let gone = both_have_ended host ending known now bare quiet silent ends in
          let queues = queues_are host ending known under row now bare quiet silent next ends loses in
          let rooms : next.room ≡ bare.room = ap (λ z. z.room) loses.rest ∙ gone.room in
          rw (queues, rooms) ((pages_have_left host ending known 0 now bare ends.pages).room come.room);
    }

-- the end stops at an object: what it stands on has references left, if there is something
pub ends_there : (host : HostId) (object : ObjectId) (known : ObjectRow) (next left : Option ObjectId) (now bare quiet silent new : FinishState)
    → IsBare host object known now bare quiet silent → LeavesUnder object next silent new → next ≡ None
    → left ≡ option_map (λ (row : ShadowRow). row.under) (shadow_at now.chains object.0) → (f : Finishes host object now new) × (left ≡ left_of f)
ends_there host object known next left now bare quiet silent new ends (Nothing none no_shadow same) stops is =
    let before = sym (ap (λ z. shadow_at z object.0) (chains_are host object known now bare quiet silent ends)) ∙ no_shadow in (
      Alone object known now bare quiet new ends.known_is ends.pages ends.control
          (subst (λ (z : FinishState). LeavesCopies object.0 quiet.copies z.copies) (sym same) ends.copies)
          (subst (λ (z : FinishState). z ≡ record quiet { copies = z.copies }) (sym same) ends.rest)
          (ap (λ z. shadow_at z.chains object.0) same ∙ no_shadow),
      is ∙ ap (option_map (λ (row : ShadowRow). row.under)) before,
    )
ends_there host object known next left now bare quiet silent new ends (Stays row under count none loses some) stops is =
    let before = sym (ap (λ z. shadow_at z object.0) (chains_are host object known now bare quiet silent ends)) ∙ loses.found in (
      OverOne object known under row count now bare quiet silent new ends.known_is ends.pages ends.control ends.copies ends.rest loses some,
      is ∙ ap (option_map (λ (row : ShadowRow). row.under)) before,
    )
ends_there host object known next left now bare quiet silent new ends (Ends row under goes loses ranked) stops is =
    absurd (let bad : None ≡ Some row.under = sym stops ∙ goes in cc)

-- the end goes on with what stood under the object
pub record GoesOn (object : ObjectId) (next : ObjectId) (old new : FinishState) : Type 0 where
  pub row : ShadowRow
  pub known : ObjectRow
  pub is : next ≡ row.under
  pub loses : LosesUnder object row known 0 old new
  pub ranked : IsRanked old.chains

pub goes_on : (object : ObjectId) (next : Option ObjectId) (under : ObjectId) (old new : FinishState) → LeavesUnder object next old new → next ≡ Some under
    → GoesOn object under old new
goes_on object next under old new (Nothing none no_shadow same) goes = absurd (let bad : None ≡ Some under = sym none ∙ goes in cc)
goes_on object next under old new (Stays row known left none loses some) goes = absurd (let bad : None ≡ Some under = sym none ∙ goes in cc)
goes_on object next under old new (Ends row known is loses ranked) goes =
    record { row = row; known = known; is = (let both : Some under ≡ Some row.under = sym goes ∙ is in cc); loses = loses; ranked = ranked }

-- which is further down
pub goes_lower : (host : HostId) (object : ℕ) (ending next : ObjectId) (known : ObjectRow) (start now bare quiet silent new : FinishState)
    → HasComeTo object start now ending.0 → IsBare host ending known now bare quiet silent → (on : GoesOn ending next silent new)
    → height start.chains on.row.under.0 < height start.chains ending.0
goes_lower host object ending next known start now bare quiet silent new come ends on =
    let chains = chains_are host ending known now bare quiet silent ends in
    under_lower object start now ending.0 on.row come (subst IsRanked chains on.ranked) (sym (ap (λ z. shadow_at z ending.0) chains) ∙ on.loses.found)

pub come_on : (host : HostId) (object : ℕ) (ending next : ObjectId) (known : ObjectRow) (start now bare quiet silent new : FinishState)
    → HasComeTo object start now ending.0 → IsBare host ending known now bare quiet silent → GoesOn ending next silent new → Fit new.parts
    → HasComeTo object start new next.0
come_on host object ending next known start now bare quiet silent new come ends on fit =
    subst (λ (z : ObjectId). HasComeTo object start new z.0) (sym on.is)
    (come_down host object ending known on.known on.row start now bare quiet silent new come ends on.loses on.ranked fit)

pub ends_further : (host : HostId) (ending next : ObjectId) (known : ObjectRow) (now bare quiet silent new end : FinishState)
    → IsBare host ending known now bare quiet silent → GoesOn ending next silent new → (more : Finishes host next new end)
    → (f : Finishes host ending now end) × (left_of f ≡ left_of more)
ends_further host ending next known now bare quiet silent new end ends on more =
    let moved = subst (λ (z : ObjectId). (f : Finishes host z new end) × (left_of f ≡ left_of more)) on.is (more, refl) in
    (Downward ending known on.known on.row now bare quiet silent new end ends.known_is ends.pages ends.control ends.copies ends.rest on.loses moved.0, moved.1)
