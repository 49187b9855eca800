-- A page goes back to its pager, which is told of its object first where it wasn't.
use Rattle.vm_abroad.proofs.Sounds.{cleared}
use Rattle.vm_kernel.proofs.Common.{AllLive, Asks, Begins, Bool, ChainTable, Down, Drops, Elsewhere, Ends, Event, FrameTable, HasControls, HasKinds, HasPages}
use Rattle.vm_kernel.proofs.Common.{Header, IsOfKind, IsPagerTold, IsReferred, List, Local, LocalEffect, Message, None, ObjectRow, ObjectTable, Option}
use Rattle.vm_kernel.proofs.Common.{PagerState, PutsAbsent, PutsObject, Raises, ResidentTable, Returns, Some, Stores, TakesError, TakesLock, TakesNothing}
use Rattle.vm_kernel.proofs.Common.{TakesPage, Unlocks, Up, Zeroes, [], ap, arith, eqb_tells, false, has_pager, if◌then◌else◌, inl, inr, is_control}
use Rattle.vm_kernel.proofs.Common.{is_ready_state, last_in, live_control, live_in, local, local_after, local_with_page, named, object_at, one_case, place_of}
use Rattle.vm_kernel.proofs.Common.{ready_in, refl, row_with_control, some_is, subst, sym, taken_effect, true, without_control, ℕ, ◌&&◌, ◌+◌, ◌<◌, ◌==◌, ◌∙◌}
use Rattle.vm_kernel.proofs.Common.{◌∷◌, ◌≡◌, ◌≤◌}
use Rattle.std.specs.Prelude.{◌||◌, nat_lt}
use Rattle.vm_model.specs.Local.{Moves, Place, merge_effect}
use Rattle.vm_model.specs.Regions.{backing_of, object_pages}
use Rattle.vm_model.specs.declared.event.Event.TheVariants as event
use Rattle.vm_model.specs.declared.message.Message.TheVariants as message
use Rattle.vm_objects.specs.declared.row.PagerState.TheVariants as state
use Rattle.vm_terminate.specs.Finishes.{IsReferred}
use Rattle.vm_state.proofs.Knowing.{put_else, put_here}

-- nothing is asked of an object without a live control

-- what asks for no page
abbrev AsksNone : LocalEffect → Type 0
AsksNone Asks = ⊥
AsksNone other = Unit {0}

either : (b : Bool) (x y : Local) → x.asked ≡ false → y.asked ≡ false → (if b then x else y).asked ≡ false
either true x y one other = one
either false x y one other = other

calm : (size : ℕ) (e : LocalEffect) (was : Local) → AsksNone e → was.asked ≡ false → (local_after size e was).asked ≡ false
calm size Zeroes was none is = is
calm size (Raises bytes) was none is = is
calm size (Stores at bytes) was none is = is
calm size Drops was none is = is
calm size (Moves page) was none is = is
calm size (Returns true) was none is = is
calm size (Returns false) was none is = is
calm size Asks was none is = absurd none
calm size Unlocks was none is = is
calm size (TakesPage lock precious bytes) was none is = either was.asked (record (local_with_page bytes lock false precious was) { asked = false }) was refl is
calm size TakesNothing was none is = either was.asked (record was { asked = false; absent = true }) was refl is
calm size TakesError was none is = refl
calm size (TakesLock lock flush) was none is =
    either was.here (record was { lock = if flush || lock == 8 then was.lock else lock; unlocking = false }) was is is
calm size Begins was none is = refl
calm size Ends was none is = refl
calm size Elsewhere was none is = is

calm_if : (b : Bool) (e : LocalEffect) → AsksNone e → AsksNone (if b then e else Elsewhere)
calm_if true e none = none
calm_if false e none = tt

calm_either : (b : Bool) (e f : LocalEffect) → AsksNone e → AsksNone f → AsksNone (if b then e else f)
calm_either true e f one other = one
calm_either false e f one other = other

calm_merged : (upper lower shift upper_pages lower_pages : ℕ) (place : Place) (others : Place → Local)
    → AsksNone (merge_effect upper lower shift upper_pages lower_pages place others)
calm_merged upper lower shift upper_pages lower_pages place others =
    calm_either (place.object == upper) _ _ (calm_if _ (Moves _) tt) (calm_if (place.object == lower && nat_lt place.page lower_pages) Drops tt)

calm_taken : (page : ℕ) (m : Message) → AsksNone (taken_effect page m)
calm_taken page (message.Supply at lock precious bytes) = calm_if _ (TakesPage lock precious bytes) tt
calm_taken page (message.Unavailable at) = calm_if _ TakesNothing tt
calm_taken page (message.Error at reason) = calm_if _ TakesError tt
calm_taken page (message.Lock at count returns flush lock reply) = calm_if _ (TakesLock lock flush) tt
calm_taken page other = tt

-- the object gets a control
begun : (size control : ℕ) (b : Bool) (live : Option ℕ) (was : Local) → (if b then Some control else live) ≡ None → (live ≡ None → was.asked ≡ false)
    → (local_after size (if b then Begins else Elsewhere) was).asked ≡ false
begun size control true live was none before = refl
begun size control false live was none before = before none

-- its control may end
ended : (size control : ℕ) (b : Bool) (live : Option ℕ) (was : Local) → (if b then without_control control live else live) ≡ None
    → (live ≡ None → was.asked ≡ false)
    → (local_after size (if b then (if is_control control live then Ends else Elsewhere) else Elsewhere) was).asked ≡ false
ended size control false live was none before = before none
ended size control true None was none before = before refl
ended size control true (Some number) was none before = go (number == control) none
  where
    go : (b : Bool) → (if b then None else Some number) ≡ None → (local_after size (if b then Ends else Elsewhere) was).asked ≡ false
    go true is = refl
    go false is = absurd (let bad : Some number ≡ None = is in cc)

-- nothing is asked where no control lives
requested : (size control : ℕ) (b at : Bool) (live : Option ℕ) (was : Local) → live ≡ None → was.asked ≡ false
    → (local_after size (if b then (if at && is_control control live then Asks else Elsewhere) else Elsewhere) was).asked ≡ false
requested size control b at (Some number) was none is = absurd (let bad : Some number ≡ None = none in cc)
requested size control true true None was none is = is
requested size control true false None was none is = is
requested size control false at None was none is = is

pub unasked : (header : Header) (host o p : ℕ) (past : List Event) → live_control host o past ≡ None → (local header host (place_of o p) past).asked ≡ false
unasked header host o p [] none = refl
unasked header host o p (event.Zeroed at object page ∷ past) none = calm header.size _ _ (calm_if _ Zeroes tt) (unasked header host o p past none)
unasked header host o p (event.Raised at lower lower_page upper upper_page ∷ past) none =
    calm header.size _ _ (calm_if _ (Raises _) tt) (unasked header host o p past none)
unasked header host o p (event.CopiedPage task page object object_page target ∷ past) none =
    calm header.size _ _ (calm_if _ (Raises _) tt) (unasked header host o p past none)
unasked header host o p (event.Stored task object page at bytes value ∷ past) none =
    calm header.size _ _ (calm_if _ (Stores at _) tt) (unasked header host o p past none)
unasked header host o p (event.Dropped at object page ∷ past) none = calm header.size _ _ (calm_if _ Drops tt) (unasked header host o p past none)
unasked header host o p (event.Merged upper lower ∷ past) none =
    calm header.size _ _ (calm_if _ _ (calm_merged upper.0 lower.0 (backing_of header upper.0 past).shift (object_pages header upper.0 past)
    (object_pages header lower.0 past) (place_of o p) (λ source. local header host source past))) (unasked header host o p past none)
unasked header host o p (event.Sent (Up at object) (message.Init control bytes) ∷ past) none =
    begun header.size control _ _ _ none (unasked header host o p past)
unasked header host o p (event.Sent (Up at object) (message.Create control bytes) ∷ past) none =
    begun header.size control _ _ _ none (unasked header host o p past)
unasked header host o p (event.Sent (Up at object) (message.Terminate control) ∷ past) none =
    ended header.size control _ _ _ none (unasked header host o p past)
unasked header host o p (event.Sent (Up at object) (message.Request control page access) ∷ past) none =
    requested header.size control _ _ _ _ none (unasked header host o p past none)
unasked header host o p (event.Sent (Up at object) (message.Unlock control page access) ∷ past) none =
    calm header.size _ _ (calm_if (at.0 == host && object.0 == o) (if page.0 == p then Unlocks else Elsewhere) (calm_if (page.0 == p) Unlocks tt))
    (unasked header host o p past none)
unasked header host o p (event.Sent (Up at object) (message.Return control page dirty keep bytes) ∷ past) none =
    calm header.size _ _ (calm_if (at.0 == host && object.0 == o) (if page.0 == p then Returns keep else Elsewhere) (calm_if (page.0 == p) (Returns keep) tt))
    (unasked header host o p past none)
unasked header host o p (event.Sent (Up at object) m ∷ past) none = calm header.size _ _ (calm_if _ Elsewhere tt) (unasked header host o p past none)
unasked header host o p (event.Taken (Down at object control) m ∷ past) none =
    calm header.size _ _ (calm_if _ _ (calm_taken p m)) (unasked header host o p past none)
unasked header host o p (e ∷ past) none = unasked header host o p past none

-- the pager is told of the object, of which nothing is asked
pub pages_created : (size : ℕ) (fs : FrameTable) (rs : ResidentTable) (os : ObjectTable) (local_at : ℕ → ℕ → Local) (o : ℕ)
    → HasPages fs rs os local_at → ((p : ℕ) → (local_at o p).asked ≡ false)
    → HasPages fs rs os (λ o2 p2. local_after size (if o == o2 then Begins else Elsewhere) (local_at o2 p2))
pages_created size fs rs os local_at o has none =
    record {
      shown = λ o2 p2. elim (eqb_tells o o2) [
        | inl same ↦
            ap (λ b. local_after size (if b then Begins else Elsewhere) (local_at o2 p2)) same.0
            ∙ (ap (λ z. record (local_at o2 p2) { asked = z }) (sym (subst (λ (z : ℕ). (local_at z p2).asked ≡ false) same.1 (none p2))) ∙ has.shown o2 p2)
        | inr apart ↦ ap (λ b. local_after size (if b then Begins else Elsewhere) (local_at o2 p2)) apart.0 ∙ has.shown o2 p2
      ];
    }

-- an object with a pager, which begins where it had none

pub kind_controlled : (header : Header) (o : ℕ) (pager : PagerState) (row : ObjectRow) → row.state ≡ pager → IsOfKind header o row
    → IsOfKind header o (row_with_control pager row)
kind_controlled header o state.Sent row is has = has
kind_controlled header o state.Ready row is has = has
kind_controlled header o state.Without row is has =
    record {
      lives = refl;
      temporary =
          λ least. let its = has.temporary least in record {
            kind = its.kind;
            uncached = its.uncached;
            number = λ some. ap (λ z. z + 1) (its.number some ∙ ap (λ z. if has_pager z then 1 else 0) is);
          };
      declared = λ less. let its = has.declared less in record { kind = its.kind; pages = its.pages; told = λ tame some. refl; number = omega arith };
    }

-- the kinds of objects, where one has a pager now, and a page of it isn't known to be missing
pub kinds_controlled : (header : Header) (o p : ℕ) (new : ObjectRow) (os os2 : ObjectTable) (cs : ChainTable) → PutsObject o (Some new) os os2
    → PutsAbsent o p false os os2 → IsOfKind header o new → HasKinds header os cs → HasKinds header os2 cs
kinds_controlled header o p new os os2 cs put present its has =
    record {
      kinds = λ x known found. elim (one_case o x (Some new) (object_at os x) (object_at os2 x) (put.at x)) [
        | inl this ↦ subst (λ (z : ℕ). IsOfKind header z known) this.0 (subst (λ (z : ObjectRow). IsOfKind header o z) (some_is new known (sym this.1 ∙ found))
            its)
        | inr other ↦ has.kinds x known (sym other.1 ∙ found)
      ];
      present = λ x q declared. present.at x q ∙ cleared (o == x && p == q) (has.present x q declared);
      tops = has.tops;
      unders = has.unders;
    }

-- it has the references, the pages and the kind that it had
pub record KeepsCounts (old new : ObjectRow) : Type 0 where
  pub references : new.references ≡ old.references
  pub pages : new.pages ≡ old.pages
  pub kind : new.kind ≡ old.kind

pub counts_controlled : (pager : PagerState) (row : ObjectRow) → KeepsCounts row (row_with_control pager row)
counts_controlled state.Sent row = record { references = refl; pages = refl; kind = refl }
counts_controlled state.Ready row = record { references = refl; pages = refl; kind = refl }
counts_controlled state.Without row = record { references = refl; pages = refl; kind = refl }

-- where it has no control now, it had none
pub never_controlled : (pager : PagerState) (row : ObjectRow) → (row_with_control pager row).control ≡ 0 → row.control ≡ 0
never_controlled state.Sent row none = none
never_controlled state.Ready row none = none
never_controlled state.Without row none = absurd (let bad : row.control + 1 ≡ 0 = none in omega (arith, bad))

-- those whose pagers were told of them are told still
pub told_controlled : (os os2 : ObjectTable) (o : ℕ) (row : ObjectRow) → object_at os o ≡ Some row → PutsObject o (Some (row_with_control row.state row)) os os2
    → (object : ℕ) → IsPagerTold os object → IsPagerTold os2 object
told_controlled os os2 o row found put object told =
    elim (one_case o object (Some (row_with_control row.state row)) (object_at os object) (object_at os2 object) (put.at object)) [
      | inl same ↦
          let one : told.row ≡ row = some_is told.row row (sym told.found ∙ (sym (ap (object_at os) same.0) ∙ found)) in
          let sent : row.state ≡ state.Sent = sym (ap (λ z. z.state) one) ∙ told.sent in
          record { row = row; found = same.1 ∙ ap (λ z. Some (row_with_control z row)) sent; sent = sent }
      | inr other ↦ record { row = told.row; found = other.1 ∙ told.found; sent = told.sent }
    ]

-- those that were ready are ready still
pub ready_controlled : (os os2 : ObjectTable) (o : ℕ) (row : ObjectRow) → object_at os o ≡ Some row
    → PutsObject o (Some (row_with_control row.state row)) os os2 → (object : ℕ) → ready_in (object_at os object) ≡ true
    → ready_in (object_at os2 object) ≡ true
ready_controlled os os2 o row found put object is =
    elim (one_case o object (Some (row_with_control row.state row)) (object_at os object) (object_at os2 object) (put.at object)) [
      | inl same ↦ ap ready_in same.1 ∙ (still row.state refl (sym (ap ready_in (sym (ap (object_at os) same.0) ∙ found)) ∙ is))
      | inr other ↦ ap ready_in other.1 ∙ is
    ]
  where
    still : (s : PagerState) → row.state ≡ s → is_ready_state row.state ≡ true → ready_in (Some (row_with_control row.state row)) ≡ true
    still state.Ready at ready = ap (λ z. ready_in (Some (row_with_control z row))) at ∙ ready
    still state.Sent at ready = ap (λ z. ready_in (Some (row_with_control z row))) at ∙ ready
    still state.Without at ready = absurd (let bad : false ≡ true = sym (ap is_ready_state at) ∙ ready in cc)

-- the objects are as they were, as the pager was told of this one

pub controls_same : {d h : ℕ} {home_at : ℕ → Option ℕ} (os os2 : ObjectTable) (last_at : ℕ → ℕ) (live_at : ℕ → Option ℕ) (ready_at : ℕ → Bool)
    → HasControls d h os last_at live_at ready_at home_at → ((o : ℕ) → object_at os2 o ≡ object_at os o) → HasControls d h os2 last_at live_at ready_at home_at
controls_same os os2 last_at live_at ready_at has same =
    record {
      last = λ o. has.last o ∙ sym (ap last_in (same o));
      live = λ o. has.live o ∙ sym (ap live_in (same o));
      ready = λ o control is. has.ready o control is ∙ sym (ap ready_in (same o));
      all_live = record { at = λ o row is sent. has.all_live.at o row (sym (same o) ∙ is) sent };
      numbers = record { at = λ o row is. has.numbers.at o row (sym (same o) ∙ is) };
      ended = λ o row is. has.ended o row (sym (same o) ∙ is);
      home = λ o row least is. has.home o row least (sym (same o) ∙ is);
    }

pub controls_told : (os os2 : ObjectTable) (o : ℕ) (row : ObjectRow) → object_at os o ≡ Some row → (row_with_control row.state row ≡ row)
    → PutsObject o (Some (row_with_control row.state row)) os os2 → (k : ℕ) → object_at os2 k ≡ object_at os k
controls_told os os2 o row found told put k = elim (one_case o k (Some (row_with_control row.state row)) (object_at os k) (object_at os2 k) (put.at k)) [
  | inl same ↦ same.1 ∙ (ap Some told ∙ (sym found ∙ ap (object_at os) same.0))
  | inr other ↦ other.1
]

-- objects are on the host still
pub controls_stay : {d h : ℕ} {os : ObjectTable} {last_at : ℕ → ℕ} {live_at : ℕ → Option ℕ} {ready_at : ℕ → Bool} {home_from home_from2 : ℕ → Option ℕ}
    → ((o : ℕ) → home_from o ≡ Some h → home_from2 o ≡ Some h) → HasControls d h os last_at live_at ready_at home_from
    → HasControls d h os last_at live_at ready_at home_from2
controls_stay stay has =
    record {
      last = has.last;
      live = has.live;
      ready = has.ready;
      all_live = has.all_live;
      numbers = has.numbers;
      ended = has.ended;
      home = λ o row least found. stay o (has.home o row least found);
    }

-- a control begins, of an object that had none
pub controls_begun : {d h : ℕ} {home_at : ℕ → Option ℕ} (os os2 : ObjectTable) (last_at : ℕ → ℕ) (live_at : ℕ → Option ℕ) (ready_at : ℕ → Bool) (o : ℕ)
    (row : ObjectRow) → HasControls d h os last_at live_at ready_at home_at
    → AllLive os2 → object_at os o ≡ Some row → row.control ≡ 0 → PutsObject o (Some (row_with_control state.Without row)) os os2
    → HasControls d h os2 (λ k. if o == k then row.control + 1 else last_at k) (λ k. if o == k then Some (row.control + 1) else live_at k)
    (λ k. if o == k then false else ready_at k) home_at
controls_begun {h = h} {home_at = home_at} os os2 last_at live_at ready_at o row has live found none put =
    record {
      last = λ k. elim (eqb_tells o k) [
        | inl same ↦ ap (λ b. if b then row.control + 1 else last_at k) same.0 ∙ sym (ap last_in (put_here put k same.0))
        | inr apart ↦ ap (λ b. if b then row.control + 1 else last_at k) apart.0 ∙ (has.last k ∙ sym (ap last_in (put_else put k apart.0)))
      ];
      live = λ k. elim (eqb_tells o k) [
        | inl same ↦ ap (λ b. if b then Some (row.control + 1) else live_at k) same.0 ∙ sym (ap live_in (put_here put k same.0))
        | inr apart ↦ ap (λ b. if b then Some (row.control + 1) else live_at k) apart.0 ∙ (has.live k ∙ sym (ap live_in (put_else put k apart.0)))
      ];
      ready = λ k control is. elim (eqb_tells o k) [
        | inl same ↦ ap (λ b. if b then false else ready_at k) same.0 ∙ sym (ap ready_in (put_here put k same.0))
        | inr apart ↦ ap (λ b. if b then false else ready_at k) apart.0
            ∙ (has.ready k control (sym (ap (λ b. if b then Some (row.control + 1) else live_at k) apart.0) ∙ is) ∙ sym (ap ready_in (put_else put k apart.0)))
      ];
      all_live = live;
      numbers = record {
        at = λ k r is. elim (eqb_tells o k) [
          | inl same ↦
              let one : row_with_control state.Without row ≡ r = some_is (row_with_control state.Without row) r (sym (put_here put k same.0) ∙ is) in
              let number : row.control + 1 ≡ r.control = ap (λ z. z.control) one in
              omega (arith, number, none)
          | inr apart ↦ has.numbers.at k r (sym (put_else put k apart.0) ∙ is)
        ];
      };
      ended = λ k r is alive. elim (eqb_tells o k) [
        | inl same ↦ λ without.
            let one : row_with_control state.Without row ≡ r = some_is (row_with_control state.Without row) r (sym (put_here put k same.0) ∙ is) in
            let bad : state.Sent ≡ state.Without = ap (λ z. z.state) one ∙ without in
            cc
        | inr apart ↦ has.ended k r (sym (put_else put k apart.0) ∙ is) alive
      ];
      home = λ k r least is. elim (eqb_tells o k) [
        | inl same ↦ subst (λ (z : ℕ). home_at z ≡ Some h) same.1 (has.home o row (let own = same.1 in omega (arith, own, least)) found)
        | inr apart ↦ has.home k r least (sym (put_else put k apart.0) ∙ is)
      ];
    }

-- a temporary object to which something refers has its first control exactly where its pager was told of it
pub record IsFirst (row : ObjectRow) : Type 0 where
  pub live : row.live ≡ has_pager row.state
  pub number : row.control ≡ (if has_pager row.state then 1 else 0)

pub first_of_object : (header : Header) (os : ObjectTable) (o : ℕ) (row : ObjectRow) → IsReferred os o → object_at os o ≡ Some row → IsOfKind header o row
    → named header ≤ o → IsFirst row
first_of_object header os o row referred found is least =
    let same : referred.row ≡ row = some_is referred.row row (sym referred.known ∙ found) in
    record { live = is.lives; number = (is.temporary least).number (subst (λ (z : ObjectRow). 0 < z.references) same referred.some) }
