-- The pages of a lock request's range obey one after another.
use Rattle.vm_kernel.proofs.memory.PagesShown.{itself, row_elsewhere}
use Rattle.vm_kernel.proofs.Common.{Bool, Command, EachOf, Event, Header, HostParts, Ids, IsInner, LegalEvents, List, None, ObjectId, ObjectRow, Option}
use Rattle.vm_kernel.proofs.Common.{Outside, PageKey, PageNo, PageRow, Parts, Plays, PutsRow, ResidentTable, RunsNone, Some, Still, Then, [], absent_at, ap}
use Rattle.vm_kernel.proofs.Common.{arith, eqb_tells, false, host_id, if◌then◌else◌, inl, inr, local_of_row, nat_le, nat_lt, nat_tests, not, object_at, page_in}
use Rattle.vm_kernel.proofs.Common.{page_on, paging, refl, row_at, row_put, since, some_is, subst, suc, sym, true, zero, ℕ, ◌&&◌, ◌++◌, ◌+◌, ◌<◌, ◌==◌, ◌||◌}
use Rattle.vm_kernel.proofs.Common.{◌∙◌, ◌∷◌, ◌≡◌, ◌≤◌, ◌⊎◌}
use Rattle.std.specs.Prelude.{option_map}
use Rattle.vm_kernel.proofs.space.ObjectsEnd.{changes_beside}
use Rattle.vm_kernel.proofs.steps.EventsGrow.{goes_more, goes_none}
use Rattle.vm_kernel.proofs.controls.PageLocked.{ComesTo, Mid, StaysPut, comes_dropped, comes_returned, comes_saved, comes_still}
use Rattle.vm_kernel.proofs.memory.PageChanges.{drops, gives}
use Rattle.vm_legal.proofs.Inside.{since_more}
use Rattle.vm_legal.proofs.Paying.{lock_more}
use Rattle.vm_legal.specs.Licences.{IsLocked, LockRequest, gives_back, lock_taken}
use Rattle.vm_legal.specs.Steps.{before_step, completes, drops_page, gives_page, returns_page}
use Rattle.vm_locks.specs.Obeys.{GoesBack, IsAsked, IsDropped, IsSaved, LockState, Next, NoMore, PageObeys, PagesObey, Stays, act_on, lock_state}
use Rattle.vm_base.specs.declared.ids.Lock.{Lock}
use Rattle.vm_kernel.proofs.controls.LockPending.{Ahead, aimed, changes_pended, frame_pended, is_ahead, owner_repaged, pend, pended, pended_away, pended_frame}
use Rattle.vm_kernel.proofs.controls.LockPending.{row_repaged}
use Rattle.vm_kernel.proofs.controls.LockRequested.{SameRows, ahead_of, mid_rows}
use Rattle.vm_locks.specs.Requests.{lock_wanted, returns_numbered}
use Rattle.vm_locks.specs.declared.request.LockRequest.{LockRequest as Wanted}
use Rattle.vm_model.specs.Words.{in_range}
use Rattle.vm_parts.specs.Changes.{Changes, relocked}
use Rattle.vm_parts.specs.Locks.{lock_after}
use Rattle.vm_queues.specs.Queues.{Queues}
use Rattle.vm_state.specs.Places.{known_local}
use Rattle.vm_tables.specs.Cases.{gives_back as goes_back}
use Rattle.vm_model.specs.declared.event.Event.TheVariants as event

-- A lock request that a host took for the live control of an object, of which it knows this. The kernel is that in front of it, but for those that are to be
-- run again, and the past ends with its taking.
pub record Request : Type 0 where
  pub header : Header
  pub host : ℕ
  pub outside : Outside
  pub command : Command
  pub ids : Ids
  pub kernel : Parts
  pub past : List Event
  pub object : ObjectId
  pub known : ObjectRow
  pub page : PageNo
  pub count : ℕ
  pub returns : ℕ
  pub flush : Bool
  pub lock : ℕ
  pub reply : Bool

-- in the words of the history
abbrev pub request_at : Request → LockRequest
request_at r =
    record {
      host = r.host;
      object = r.object.0;
      control = r.known.control;
      page = r.page.0;
      count = r.count;
      returns = r.returns;
      flush = r.flush;
      lock = r.lock;
      reply = r.reply;
    }

-- and of the host
abbrev pub wanted_at : Request → Wanted
wanted_at r = record { page = r.page; count = r.count; returns = returns_numbered r.returns; flush = r.flush; lock = lock_wanted r.lock; reply = r.reply }

-- the pages from one on to which it has not come
abbrev pub ahead_in : Request → ℕ → Ahead
ahead_in r from = ahead_of r.object r.page r.count r.flush r.lock from

-- the kernel with the state of a lock request; what buffers it has stands aside
abbrev pub at_state : Parts → LockState → Parts
at_state k s = record k { memory = record s.parts { buffers = k.memory.buffers }; laundry = record { held = s.held; room = s.room } }

-- and with its rows as they will be
abbrev pub aimed_at : Request → ℕ → LockState → Parts
aimed_at r from s = at_state r.kernel (record s { parts = pend (ahead_in r from) s.parts })

-- the request was taken, and nothing has happened since
pub record IsTaken (r : Request) : Type 0 where
  pub rests : Mid r.header r.host (aimed_at r r.page.0 (lock_state r.kernel.memory r.kernel.laundry.held r.kernel.laundry.room [])) r.ids r.past
  pub taken : lock_taken r.past ≡ Some (request_at r)
  pub few : r.returns < 3
  pub lock : (r.lock < 4) ⊎ (r.lock ≡ 8)
  pub found : object_at r.kernel.memory.objects r.object.0 ≡ Some r.known
  pub live : r.known.live ≡ true
  pub first : (test : Event → Bool) → since test r.past ≡ false
  pub shown : (p : ℕ) → known_local r.header r.object.0 p (page_on r.header r.host r.object.0 p (before_step r.past)) ≡ local_of_row r.kernel.memory.frames
      (row_at r.kernel.memory.resident r.object.0 p) (absent_at r.kernel.memory.objects r.object.0 p)

-- a page that was here with this row is given back, or dropped, where the request wants that
pub record IsGiven (r : Request) (p : ℕ) (row : PageRow) (past : List Event) : Type 0 where
  pub back : gives_back r.returns row.dirty row.precious ≡ true → since (returns_page r.host r.object.0 p (not r.flush)) past ≡ true
  pub dropped : gives_back r.returns row.dirty row.precious ≡ false → r.flush ≡ true → since (drops_page r.host r.object.0 p) past ≡ true

-- and a page that is here with this row isn't wanted
abbrev pub IsLeft : Request → PageRow → Type 0
IsLeft r row = (r.flush ≡ false) × (gives_back r.returns row.dirty row.precious ≡ false)

-- pages from the first one of the range on, and below another
pub record IsOf (r : Request) (from p : ℕ) : Type 0 where
  pub least : r.page.0 ≤ p
  pub below : p < from
  pub inside : p < r.page.0 + r.count

-- the pages below one have obeyed, and those from it on are as they were
pub record Obeyed (r : Request) (from : ℕ) (s : LockState) : Type 0 where
  pub rests : Mid r.header r.host (aimed_at r from s) r.ids (s.events ++ r.past)
  pub goes : LegalEvents r.header r.host r.outside r.command r.past [] s.events
  pub plays : Plays r.header r.past [] (paging r.kernel) s.events (paging (aimed_at r from s))
  pub quiet : EachOf RunsNone s.events
  pub least : r.page.0 ≤ from
  pub taken : lock_taken (s.events ++ r.past) ≡ Some (request_at r)
  pub found : object_at s.parts.objects r.object.0 ≡ Some r.known
  pub undone : since (completes r.host r.object.0) (s.events ++ r.past) ≡ false
  pub ahead : (p : ℕ) → from ≤ p → since (gives_page r.host r.object.0 p) (s.events ++ r.past) ≡ false
  pub same : (p : ℕ) → from ≤ p → row_at s.parts.resident r.object.0 p ≡ row_at r.kernel.memory.resident r.object.0 p
  pub given : (p : ℕ) (row : PageRow) → IsOf r from p → row_at r.kernel.memory.resident r.object.0 p ≡ Some row → row.here ≡ true
      → IsGiven r p row (s.events ++ r.past)
  pub left : (p : ℕ) (row : PageRow) → IsOf r from p → row_at s.parts.resident r.object.0 p ≡ Some row → row.here ≡ true → IsLeft r row

pub below_or : (p n : ℕ) → (p < n) ⊎ (n ≤ p)
below_or p n = by (nat_lt p n) refl
  where
    by : (b : Bool) → nat_lt p n ≡ b → (p < n) ⊎ (n ≤ p)
    by true is = inl (grind (arith, nat_tests, is))
    by false is = inr (grind (arith, nat_tests, is))

-- the lists are the same, and each page is where it is
pub paging_aimed : (r : Request) (from : ℕ) (s : LockState) → paging (aimed_at r from s) ≡ paging (at_state r.kernel s)
paging_aimed r from s = λ i. record { frame_at = λ o p. frame_pended (ahead_in r from) s.parts.resident o p i; queues = s.parts.queues }

-- at first
pub obeyed_first : (r : Request) → IsTaken r → Obeyed r r.page.0 (lock_state r.kernel.memory r.kernel.laundry.held r.kernel.laundry.room [])
obeyed_first r t =
    record {
      rests = t.rests;
      goes = goes_none r.header r.host r.outside r.command r.past [];
      plays =
          subst (Plays r.header r.past [] (paging r.kernel) []) (sym (paging_aimed r r.page.0
          (lock_state r.kernel.memory r.kernel.laundry.held r.kernel.laundry.room []))) Still;
      quiet = tt;
      least = omega arith;
      taken = t.taken;
      found = t.found;
      undone = t.first (completes r.host r.object.0);
      ahead = λ p from. t.first (gives_page r.host r.object.0 p);
      same = λ p from. refl;
      given = λ p row of found here. absurd (let least = of.least in let below = of.below in omega (arith, least, below));
      left = λ p row of found here. absurd (let least = of.least in let below = of.below in omega (arith, least, below));
    }

-- pages that aren't here are passed by
passes : (r : Request) (from to : ℕ) (s : LockState) → Obeyed r from s → from ≤ to
    → ((p : ℕ) (row : PageRow) → from ≤ p → p < to → p < r.page.0 + r.count → row_at s.parts.resident r.object.0 p ≡ Some row → row.here ≡ true → ⊥)
    → Obeyed r to s
passes r from to s o less none =
    record {
      rests = mid_rows r.header r.host (aimed_at r from s) r.ids (pend (ahead_in r to) s.parts).resident (s.events ++ r.past) o.rests same_rows;
      goes = o.goes;
      plays = subst (λ z. Plays r.header r.past [] (paging r.kernel) s.events z) (paging_aimed r from s ∙ sym (paging_aimed r to s)) o.plays;
      quiet = o.quiet;
      least = let least = o.least in omega (arith, least, less);
      taken = o.taken;
      found = o.found;
      undone = o.undone;
      ahead = λ p high. o.ahead p (omega (arith, high, less));
      same = λ p high. o.same p (omega (arith, high, less));
      given = λ p row of found here. elim (below_or p from) [
        | inl low ↦ o.given p row (record { least = of.least; below = low; inside = of.inside }) found here
        | inr high ↦ absurd (none p row high of.below of.inside (o.same p high ∙ found) here)
      ];
      left = λ p row of found here. elim (below_or p from) [
        | inl low ↦ o.left p row (record { least = of.least; below = low; inside = of.inside }) found here
        | inr high ↦ absurd (none p row high of.below of.inside found here)
      ];
    }
  where
    -- a page that is passed by isn't here, or is none of the range
    row_same : (o2 p : ℕ) (row : PageRow) → row_at s.parts.resident o2 p ≡ Some row → pended (ahead_in r to) o2 p row ≡ pended (ahead_in r from) o2 p row
    row_same o2 p row found = by row.here refl
      where
        test_same : row.here ≡ true → is_ahead (ahead_in r to) o2 p ≡ is_ahead (ahead_in r from) o2 p
        test_same here = elim (eqb_tells r.object.0 o2) [
          | inr apart ↦ rw apart.0 refl
          | inl same ↦ elim (below_or p from) [
            | inl low ↦ ap (λ b. r.object.0 == o2 && (in_range p r.page.0 r.count && b))
                (not_reached to p (omega (arith, low, less)) ∙ sym (not_reached from p low))
            | inr high ↦ elim (below_or p to) [
              | inr past ↦ ap (λ b. r.object.0 == o2 && (in_range p r.page.0 r.count && b)) (reached to p past ∙ sym (reached from p high))
              | inl low ↦ elim (below_or p (r.page.0 + r.count)) [
                | inl inside ↦ absurd (none p row high low inside (subst (λ (z : ℕ). row_at s.parts.resident z p ≡ Some row) (sym same.1) found) here)
                | inr outside ↦ out_of (nat_le to p) (nat_le from p) outside
              ]
            ]
          ]
        ]
          where
            reached : (n q : ℕ) → n ≤ q → nat_le n q ≡ true
            reached n q le = grind (arith, nat_tests, le)

            not_reached : (n q : ℕ) → q < n → nat_le n q ≡ false
            not_reached n q less_than = grind (arith, nat_tests, less_than)

            out_of : (b c : Bool) → r.page.0 + r.count ≤ p
                → (r.object.0 == o2 && (in_range p r.page.0 r.count && b)) ≡ (r.object.0 == o2 && (in_range p r.page.0 r.count && c))
            out_of b c outside =
                let none_of : nat_lt p (r.page.0 + r.count) ≡ false = grind (arith, nat_tests, outside) in
                rw none_of (nothing (r.object.0 == o2) (nat_le r.page.0 p) b c)
              where
                nothing : (x y b c : Bool) → (x && ((y && false) && b)) ≡ (x && ((y && false) && c))
                nothing true true b c = refl
                nothing true false b c = refl
                nothing false y b c = refl

        by : (b : Bool) → row.here ≡ b → pended (ahead_in r to) o2 p row ≡ pended (ahead_in r from) o2 p row
        by false gone = pended_away (ahead_in r to) o2 p row gone ∙ sym (pended_away (ahead_in r from) o2 p row gone)
        by true here = ap (λ b. if row.here && b then aimed (ahead_in r from) row else row) (test_same here)

    same_rows : SameRows (pend (ahead_in r from) s.parts).resident (pend (ahead_in r to) s.parts).resident
    same_rows = record {
      rows =
          λ o2 p. row_repaged (pended (ahead_in r to)) s.parts.resident o2 p
          ∙ (maps_same o2 p (row_at s.parts.resident o2 p) refl ∙ sym (row_repaged (pended (ahead_in r from)) s.parts.resident o2 p));
      owners =
          λ g. owner_repaged (pended (ahead_in r to)) s.parts.resident g (pended_frame (ahead_in r to))
          ∙ sym (owner_repaged (pended (ahead_in r from)) s.parts.resident g (pended_frame (ahead_in r from)));
    }
      where
        maps_same : (o2 p : ℕ) (x : Option PageRow) → row_at s.parts.resident o2 p ≡ x
            → option_map (pended (ahead_in r to) o2 p) x ≡ option_map (pended (ahead_in r from) o2 p) x
        maps_same o2 p None found = refl
        maps_same o2 p (Some row) found = ap Some (row_same o2 p row found)

-- an event more in the step

since_one : (test : Event → Bool) (e : Event) (past : List Event) → IsInner e → since test (e ∷ past) ≡ (test e || since test past)
since_one test (event.Line line) past inner = absurd inner
since_one test (event.Taken channel m) past inner = absurd inner
since_one test other past inner = refl

since_none : (test : Event → Bool) (e : Event) (past : List Event) → IsInner e → test e ≡ false → since test past ≡ false → since test (e ∷ past) ≡ false
since_none test e past inner other none = since_one test e past inner ∙ (ap (λ b. b || since test past) other ∙ none)

pub since_now : (test : Event → Bool) (e : Event) (past : List Event) → IsInner e → test e ≡ true → since test (e ∷ past) ≡ true
since_now test e past inner is = since_one test e past inner ∙ ap (λ b. b || since test past) is

pub given_still : (r : Request) (p : ℕ) (row : PageRow) (e : Event) (past : List Event) → IsInner e → IsGiven r p row past → IsGiven r p row (e ∷ past)
given_still r p row e past inner is = record {
  back = λ due. since_more (returns_page r.host r.object.0 p (not r.flush)) (e ∷ []) past (inner, tt) (is.back due);
  dropped = λ kept flushes. since_more (drops_page r.host r.object.0 p) (e ∷ []) past (inner, tt) (is.dropped kept flushes);
}

-- what a page's step leaves of the others, and of itself
pub record Steps (r : Request) (p : ℕ) (row : PageRow) (old new : LockState) (past : List Event) : Type 0 where
  pub rows : (q : ℕ) → (p ≡ q → ⊥) → row_at new.parts.resident r.object.0 q ≡ row_at old.parts.resident r.object.0 q
  pub found : object_at new.parts.objects r.object.0 ≡ object_at old.parts.objects r.object.0
  pub given : IsGiven r p row past
  pub left : (now : PageRow) → row_at new.parts.resident r.object.0 p ≡ Some now → now.here ≡ true → IsLeft r now

-- and so of those that the step has come past
given_next : {r : Request} {p : ℕ} {row : PageRow} {old new : LockState} {past : List Event} → Obeyed r p old
    → row_at old.parts.resident r.object.0 p ≡ Some row → Steps r p row old new past
    → ((q : ℕ) (was : PageRow) → IsGiven r q was (old.events ++ r.past) → IsGiven r q was past)
    → (q : ℕ) (was : PageRow) → IsOf r (suc p) q → row_at r.kernel.memory.resident r.object.0 q ≡ Some was → was.here ≡ true → IsGiven r q was past
given_next {r = r} {p = p} {row = row} {past = past} o found steps still q was of there here = elim (below_or q p) [
  | inl low ↦ still q was (o.given q was (record { least = of.least; below = low; inside = of.inside }) there here)
  | inr high ↦
      let is : p ≡ q = let below = of.below in omega (arith, high, below) in
      subst (λ (z : ℕ). IsGiven r z was past) is
      (subst (λ (z : PageRow). IsGiven r p z past) (some_is row was
      (sym found ∙ (o.same p (omega arith) ∙ subst (λ (z : ℕ). row_at r.kernel.memory.resident r.object.0 z ≡ Some was) (sym is) there))) steps.given)
]

left_next : {r : Request} {p : ℕ} {row : PageRow} {old new : LockState} {past : List Event} → Obeyed r p old → Steps r p row old new past
    → (q : ℕ) (now : PageRow) → IsOf r (suc p) q → row_at new.parts.resident r.object.0 q ≡ Some now → now.here ≡ true → IsLeft r now
left_next {r = r} {p = p} {new = new} o steps q now of there here = elim (below_or q p) [
  | inl low ↦
      o.left q now (record { least = of.least; below = low; inside = of.inside }) (sym (steps.rows q (λ same. omega (arith, low, same))) ∙ there) here
  | inr high ↦
      let is : p ≡ q = let below = of.below in omega (arith, high, below) in
      steps.left now (subst (λ (z : ℕ). row_at new.parts.resident r.object.0 z ≡ Some now) (sym is) there) here
]

-- a page has obeyed without an event
obeyed_still : (r : Request) (p : ℕ) (row : PageRow) (old new : LockState) → Obeyed r p old → row_at old.parts.resident r.object.0 p ≡ Some row
    → new.events ≡ old.events → StaysPut r.header r.host r.ids (aimed_at r p old) (aimed_at r (suc p) new) (old.events ++ r.past)
    → Steps r p row old new (old.events ++ r.past) → Obeyed r (suc p) new
obeyed_still r p row old new o found events still steps =
    subst (λ (z : List Event). Obeyed r (suc p) (record new { events = z })) (sym events)
    (record {
      rests = still.rests;
      goes = o.goes;
      plays = subst (λ z. Plays r.header r.past [] (paging r.kernel) old.events z) (sym still.same) o.plays;
      quiet = o.quiet;
      least = let least = o.least in omega (arith, least);
      taken = o.taken;
      found = steps.found ∙ o.found;
      undone = o.undone;
      ahead = λ q high. o.ahead q (omega (arith, high));
      same = λ q high. steps.rows q (λ same. omega (arith, high, same)) ∙ o.same q (omega (arith, high));
      given = given_next o found steps (λ q was is. is);
      left = left_next o steps;
    })

-- a page has obeyed with an event
pub record Tells (r : Request) (p : ℕ) (e : Event) : Type 0 where
  pub inner : IsInner e
  pub quiet : RunsNone e
  pub going : completes r.host r.object.0 e ≡ false
  pub mine : (q : ℕ) → p < q → gives_page r.host r.object.0 q e ≡ false

obeyed_told : (r : Request) (p : ℕ) (row : PageRow) (e : Event) (old new : LockState) → Obeyed r p old → row_at old.parts.resident r.object.0 p ≡ Some row
    → new.events ≡ e ∷ old.events → Tells r p e
    → ComesTo r.header r.host r.outside r.command r.ids e (aimed_at r p old) (aimed_at r (suc p) new) (old.events ++ r.past)
    → Steps r p row old new (e ∷ (old.events ++ r.past)) → Obeyed r (suc p) new
obeyed_told r p row e old new o found events tells comes steps =
    subst (λ (z : List Event). Obeyed r (suc p) (record new { events = z })) (sym events)
    (record {
      rests = comes.rests;
      goes = goes_more r.header r.host r.outside r.command r.past [] old.events e o.goes o.rests.settled comes.follows;
      plays = Then e old.events (paging (aimed_at r p old)) (paging (aimed_at r (suc p) new)) o.plays comes.does;
      quiet = (tells.quiet, o.quiet);
      least = let least = o.least in omega (arith, least);
      taken = lock_more (e ∷ []) (old.events ++ r.past) (tells.inner, tt) ∙ o.taken;
      found = steps.found ∙ o.found;
      undone = since_none (completes r.host r.object.0) e (old.events ++ r.past) tells.inner tells.going o.undone;
      ahead =
          λ q high. since_none (gives_page r.host r.object.0 q) e (old.events ++ r.past) tells.inner (tells.mine q (omega (arith, high)))
          (o.ahead q (omega (arith, high)));
      same = λ q high. steps.rows q (λ same. omega (arith, high, same)) ∙ o.same q (omega (arith, high));
      given = given_next o found steps (λ q was is. given_still r q was e (old.events ++ r.past) tells.inner is);
      left = left_next o steps;
    })

-- by the cases of the table

-- a kind has the same meaning on the host
gives_same : (returns : ℕ) (dirty precious : Bool) → returns < 3 → goes_back (returns_numbered returns) dirty precious ≡ gives_back returns dirty precious
gives_same zero dirty precious few = by dirty precious
  where
    by : (a b : Bool) → goes_back (returns_numbered 0) a b ≡ gives_back 0 a b
    by true true = refl
    by true false = refl
    by false true = refl
    by false false = refl
gives_same (suc zero) dirty precious few = by dirty precious
  where
    by : (a b : Bool) → goes_back (returns_numbered 1) a b ≡ gives_back 1 a b
    by true true = refl
    by true false = refl
    by false true = refl
    by false false = refl
gives_same (suc (suc zero)) dirty precious few = by dirty precious
  where
    by : (a b : Bool) → goes_back (returns_numbered 2) a b ≡ gives_back 2 a b
    by true true = refl
    by true false = refl
    by false true = refl
    by false false = refl
gives_same (suc (suc (suc n))) dirty precious few = absurd (omega (arith, few))

-- the page is under the request, which isn't done
locked_at : (r : Request) (p : ℕ) (flush : Bool) (s : LockState) → Obeyed r p s → p < r.page.0 + r.count → r.flush ≡ flush
    → IsLocked r.host r.object.0 p r.returns flush (s.events ++ r.past)
locked_at r p flush s o below is = record {
  control = r.known.control;
  first = r.page.0;
  count = r.count;
  lock = r.lock;
  reply = r.reply;
  taken = o.taken ∙ ap (λ b. Some (record (request_at r) { flush = b })) is;
  from = o.least;
  below = below;
  undone = o.undone;
  rising = λ later more. o.ahead later (omega (arith, more));
}

ahead_at : (r : Request) (p : ℕ) → r.page.0 ≤ p → p < r.page.0 + r.count → is_ahead (ahead_in r p) r.object.0 p ≡ true
ahead_at r p least below =
    rw (itself r.object.0) (both (nat_le r.page.0 p) (nat_lt p (r.page.0 + r.count)) (nat_le p p) (grind (arith, nat_tests, least))
    (grind (arith, nat_tests, below)) (grind (arith, nat_tests)))
  where
    both : (a b c : Bool) → a ≡ true → b ≡ true → c ≡ true → ((a && b) && c) ≡ true
    both a b c one two three = rw (one, two, three) refl

-- what the table says
record Acts (r : Request) (p : ℕ) (row : PageRow) (s : LockState) (back flush : Bool) : Type 0 where
  act : gives_back r.returns row.dirty row.precious ≡ back
  flushes : r.flush ≡ flush
  locked : IsLocked r.host r.object.0 p r.returns flush (s.events ++ r.past)
  ahead : is_ahead (ahead_in r p) r.object.0 p ≡ true

acts : (r : Request) (p : ℕ) (row : PageRow) (s : LockState) (back flush : Bool) → IsTaken r → Obeyed r p s → p < r.page.0 + r.count
    → row_at s.parts.resident r.object.0 p ≡ Some row → act_on (wanted_at r) row ≡ record { give_back = back; remove = flush } → Acts r p row s back flush
acts r p row s back flush t o below found act =
    let removes : r.flush ≡ flush = ap (λ z. z.remove) act in
    record {
      act = sym (gives_same r.returns row.dirty row.precious t.few) ∙ ap (λ z. z.give_back) act;
      flushes = removes;
      locked = locked_at r p flush s o below removes;
      ahead = ahead_at r p o.least below;
    }

-- the memory of a state, with the buffers of the kernel, and with its rows as they will be behind a page
abbrev memory_of : Request → ℕ → LockState → HostParts
memory_of r p s = record (pend (ahead_in r (suc p)) s.parts) { buffers = r.kernel.memory.buffers }

-- where neither the returns nor the room have changed
same_returns : (r : Request) (p : ℕ) (old new : LockState) → new.held ≡ old.held → new.room ≡ old.room
    → record (aimed_at r p old) { memory = memory_of r p new } ≡ aimed_at r (suc p) new
same_returns r p old new held room = λ i. record r.kernel { memory = memory_of r p new; laundry = record { held = sym held i; room = sym room i } }

-- a page changes, whose row is as it will be
changes_aimed : (r : Request) (page : PageNo) (row : PageRow) (now : Option PageRow) (held : Bool) (bytes : List ℕ) (lists : Queues) (old new : LockState)
    → is_ahead (ahead_in r page.0) r.object.0 page.0 ≡ true → row.here ≡ true
    → Changes (record { object = r.object; page = page }) row.frame (Some row) now held bytes lists old.parts new.parts
    → Changes (record { object = r.object; page = page }) row.frame (Some (aimed (ahead_in r page.0) row)) now held bytes lists (aimed_at r page.0 old).memory
    (memory_of r page.0 new)
changes_aimed r page row now held bytes lists old new ahead here c =
    changes_beside (pend (ahead_in r page.0) old.parts) (pend (ahead_in r (suc page.0)) new.parts) r.kernel
    (changes_pended (ahead_in r page.0) (record { object = r.object; page = page }) row now held bytes lists old.parts new.parts refl refl ahead here c)

page_apart : (h o p q : ℕ) → p < q → (h == h && (o == o && p == q)) ≡ false
page_apart h o p q less = let apart : (p == q) ≡ false = grind (arith, nat_tests, less) in rw (itself h, itself o, apart) refl

tells_dropped : (r : Request) (page : PageNo) → Tells r page.0 (drops r.host (record { object = r.object; page = page }))
tells_dropped r page = record { inner = tt; quiet = tt; going = refl; mine = λ q less. page_apart r.host r.object.0 page.0 q less }

tells_given : (r : Request) (page : PageNo) (dirty keep : Bool) (bytes : List ℕ)
    → Tells r page.0 (gives r.host (record { object = r.object; page = page }) r.known.control dirty keep bytes)
tells_given r page dirty keep bytes =
    record { inner = tt; quiet = tt; going = rw (itself r.host, itself r.object.0) refl; mine = λ q less. page_apart r.host r.object.0 page.0 q less }

-- it isn't given back
pub spared : {R : Type 0} {b : Bool} → b ≡ false → b ≡ true → R
spared kept due = absurd (let bad : false ≡ true = sym kept ∙ due in cc)

page_gone : (r : Request) (p : ℕ) (rs rs2 : ResidentTable) → PutsRow r.object.0 p None rs rs2 → (now : PageRow) → row_at rs2 r.object.0 p ≡ Some now
    → now.here ≡ true → IsLeft r now
page_gone r p rs rs2 put now there here = absurd (let bad : None ≡ Some now = sym (row_put rs rs2 r.object.0 p None put) ∙ there in cc)

-- a page that stays gets the lock that it will have
stays_so : {key : PageKey} {bytes : List ℕ} {lists : Queues} (r : Request) (row : PageRow) (saved : Bool) → r.flush ≡ false → (old new : LockState)
    → Changes key row.frame (Some row) (Some (relocked (lock_wanted r.lock) saved row)) true bytes lists old.parts new.parts
    → Changes key row.frame (Some row) (Some (relocked None saved (aimed (ahead_in r 0) row))) true bytes lists old.parts new.parts
stays_so {key = key} {bytes = bytes} {lists = lists} r row saved stays old new c =
    subst (λ (z : Option Lock). Changes key row.frame (Some row) (Some (record row
    { lock = lock_after z row.lock; dirty = not saved && row.dirty; precious = not saved && row.precious; unlock_sent = false })) true bytes lists old.parts
    new.parts)
    (sym (ap (λ b. if b then None else lock_wanted r.lock) stays)) c

page_obeys : (r : Request) (page : PageNo) (row : PageRow) (old new : LockState) → IsTaken r → Obeyed r page.0 old → page.0 < r.page.0 + r.count
    → row_at old.parts.resident r.object.0 page.0 ≡ Some row → row.here ≡ true
    → PageObeys (host_id r.host) (record { object = r.object; page = page }) r.known.control (wanted_at r) row old new → Obeyed r (suc page.0) new
page_obeys r page row old new t o below found here (IsDropped act c objects held room events) =
    let key : PageKey = record { object = r.object; page = page } in
    let k = r.kernel in
    let e = drops r.host key in
    let moment = old.events ++ r.past in
    let a = acts r page.0 row old false true t o below found act in
    obeyed_told r page.0 row e old new o found events (tells_dropped r page)
    (subst (λ (z : Parts). ComesTo r.header r.host r.outside r.command r.ids e (aimed_at r page.0 old) z moment) (same_returns r page.0 old new held room)
    (comes_dropped r.header r.host r.outside r.command r.ids (aimed_at r page.0 old) (memory_of r page.0 new) key (aimed (ahead_in r page.0) row) moment
    r.returns o.rests a.locked a.act here refl (changes_aimed r page row None _ _ _ old new a.ahead here c) objects refl))
    (record {
      rows = λ q apart. row_elsewhere c.row r.object.0 q (λ same. apart);
      found = ap (λ z. object_at z r.object.0) objects;
      given =
          record {
            back = λ due. spared a.act due;
            dropped = λ kept flushes. since_now (drops_page r.host r.object.0 page.0) e moment tt
                (rw (itself r.host, itself r.object.0, itself page.0) refl);
          };
      left = page_gone r page.0 old.parts.resident new.parts.resident c.row;
    })
page_obeys r page row old new t o below found here (Stays act c objects held room events) =
    let key : PageKey = record { object = r.object; page = page } in
    let k = r.kernel in
    let moment = old.events ++ r.past in
    let a = acts r page.0 row old false false t o below found act in
    obeyed_still r page.0 row old new o found events
    (subst (λ (z : Parts). StaysPut r.header r.host r.ids (aimed_at r page.0 old) z moment) (same_returns r page.0 old new held room)
    (comes_still r.header r.host r.ids (aimed_at r page.0 old) (memory_of r page.0 new) key (aimed (ahead_in r page.0) row) moment o.rests here refl
    (changes_aimed r page row _ _ _ _ old new a.ahead here (stays_so r row false a.flushes old new c)) objects refl))
    (record {
      rows = λ q apart. row_elsewhere c.row r.object.0 q (λ same. apart);
      found = ap (λ z. object_at z r.object.0) objects;
      given = record { back = λ due. spared a.act due; dropped = λ kept flushes. spared a.flushes flushes };
      left =
          λ now there is. (
            a.flushes,
            subst (λ (z : PageRow). gives_back r.returns z.dirty z.precious ≡ false)
                (some_is (relocked (lock_wanted r.lock) false row) now (sym (row_put old.parts.resident new.parts.resident r.object.0 page.0 _ c.row) ∙ there))
                a.act,
          );
    })
page_obeys r page row old new t o below found here (GoesBack act c objects absent held room events) =
    let key : PageKey = record { object = r.object; page = page } in
    let k = r.kernel in
    let bytes = page_in old.parts.frames row.frame.0 in
    let e = gives r.host key r.known.control row.dirty false bytes in
    let moment = old.events ++ r.past in
    let a = acts r page.0 row old true true t o below found act in
    obeyed_told r page.0 row e old new o found events (tells_given r page row.dirty false bytes)
    (comes_returned r.header r.host r.outside r.command r.ids (aimed_at r page.0 old) (memory_of r page.0 new) (record { held = new.held; room = new.room }) key
    (aimed (ahead_in r page.0) row) r.known moment r.returns o.rests a.locked a.act here o.found t.live refl
    (changes_aimed r page row None _ _ _ old new a.ahead here c) objects absent refl held room)
    (record {
      rows = λ q apart. row_elsewhere c.row r.object.0 q (λ same. apart);
      found = objects.at r.object.0;
      given = record {
        back =
            λ due. subst (λ (b : Bool). since (returns_page r.host r.object.0 page.0 (not b)) (e ∷ moment) ≡ true) (sym a.flushes)
            (since_now (returns_page r.host r.object.0 page.0 false) e moment tt (rw (itself r.host, itself r.object.0, itself page.0) refl));
        dropped = λ kept flushes. spared kept a.act;
      };
      left = page_gone r page.0 old.parts.resident new.parts.resident c.row;
    })
page_obeys r page row old new t o below found here (IsSaved act c objects absent held room events) =
    let key : PageKey = record { object = r.object; page = page } in
    let k = r.kernel in
    let bytes = page_in old.parts.frames row.frame.0 in
    let e = gives r.host key r.known.control row.dirty true bytes in
    let moment = old.events ++ r.past in
    let a = acts r page.0 row old true false t o below found act in
    obeyed_told r page.0 row e old new o found events (tells_given r page row.dirty true bytes)
    (subst (λ (z : Parts). ComesTo r.header r.host r.outside r.command r.ids e (aimed_at r page.0 old) z moment) (same_returns r page.0 old new held room)
    (comes_saved r.header r.host r.outside r.command r.ids (aimed_at r page.0 old) (memory_of r page.0 new) key (aimed (ahead_in r page.0) row) r.known moment
    r.returns o.rests a.locked a.act here o.found t.live refl (changes_aimed r page row _ _ _ _ old new a.ahead here
    (stays_so r row true a.flushes old new c)) objects absent refl))
    (record {
      rows = λ q apart. row_elsewhere c.row r.object.0 q (λ same. apart);
      found = objects.at r.object.0;
      given = record {
        back =
            λ due. subst (λ (b : Bool). since (returns_page r.host r.object.0 page.0 (not b)) (e ∷ moment) ≡ true) (sym a.flushes)
            (since_now (returns_page r.host r.object.0 page.0 true) e moment tt (rw (itself r.host, itself r.object.0, itself page.0) refl));
        dropped = λ kept flushes. spared kept a.act;
      };
      left = λ now there is. (
        a.flushes,
        subst (λ (z : PageRow). gives_back r.returns z.dirty z.precious ≡ false) (some_is (relocked (lock_wanted r.lock) true row) now
            (sym (row_put old.parts.resident new.parts.resident r.object.0 page.0 _ c.row) ∙ there)) (clean r.returns),
      );
    })
  where
    none : (a b : Bool) → ((a && false) || (b && (false || false))) ≡ false
    none true true = refl
    none true false = refl
    none false true = refl
    none false false = refl

    clean : (returns : ℕ) → gives_back returns false false ≡ false
    clean returns = none (returns == 1) (returns == 2)

-- all pages of the range have obeyed
pub record AllObeyed (r : Request) (s : LockState) : Type 0 where
  pub to : ℕ
  pub end : r.page.0 + r.count ≤ to
  pub obeyed : Obeyed r to s

pub pages_obey : (r : Request) (from : ℕ) (old new : LockState) → IsTaken r → Obeyed r from old
    → PagesObey (host_id r.host) r.object r.known.control (wanted_at r) from old new → AllObeyed r new
pages_obey r _ _ _ t o (NoMore from s none) =
    record {
      to = from + (r.page.0 + r.count);
      end = omega arith;
      obeyed =
          passes r from (from + (r.page.0 + r.count)) s o (omega arith) (λ p row high low inside found here. let bad : None ≡ Some row = sym
          (none p high inside) ∙ found in absurd (cc));
    }
pages_obey r _ _ _ t o (IsAsked from page row old new next away rest) =
    pages_obey r (suc page.0) old new t
    (passes r from (suc page.0) old o (let low = next.next.low in omega (arith, low)) (λ p was high low inside found here. elim (below_or p page.0) [
      | inl less ↦ let bad : None ≡ Some was = sym (next.next.first p high less) ∙ found in absurd (cc)
      | inr least ↦
          let is : page.0 ≡ p = omega (arith, low, least) in
          let same : row ≡ was = some_is row was (sym (subst (λ (z : ℕ). row_at old.parts.resident r.object.0 z ≡ Some row) is next.found) ∙ found) in
          absurd (let bad : false ≡ true = sym away ∙ (ap (λ (z : PageRow). z.here) same ∙ here) in cc)
    ])) rest
pages_obey r _ _ _ t o (Next from page row old mid new next here obeys rest) =
    pages_obey r (suc page.0) mid new t
    (page_obeys r page row old mid t (passes r from page.0 old o next.next.low (λ p was high low inside found is. let bad : None ≡ Some was = sym
    (next.next.first p high low) ∙ found in absurd (cc))) next.inside next.found here obeys) rest
