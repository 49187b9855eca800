-- Pages that a lock request leaves as they are: they obey it, and so they can be passed over.
use Rattle.std.proofs.Common.{◌≡◌, ◌∙◌, ℕ, zero, suc, ◌+◌, ◌-◌, ◌<◌, ◌≤◌, Bool, true, false, [], Option, Some, None, inl, inr, refl, sym, ap, subst, arith}
use Rattle.std.proofs.lemmas.Bool.Decides.{eqb_tells, leb_tells}
use Rattle.std.proofs.lemmas.List.{set-get_or}
use Rattle.std.specs.Prelude.{is_some}
use Rattle.vm_base.specs.declared.ids.HostId.{HostId}
use Rattle.vm_base.specs.declared.ids.Lock.{Lock}
use Rattle.vm_base.specs.declared.ids.ObjectId.{ObjectId}
use Rattle.vm_base.specs.declared.ids.PageKey.{PageKey}
use Rattle.vm_base.specs.declared.ids.PageNo.{PageNo}
use Rattle.vm_frames.specs.Frames.{page_in}
use Rattle.vm_parts.proofs.Changing.{rows_changed}
use Rattle.vm_parts.proofs.Rows.{same_case, stood}
use Rattle.vm_parts.specs.Changes.{Changes, Relocks, relocked}
use Rattle.vm_parts.specs.Fits.{Fit}
use Rattle.vm_parts.specs.declared.parts.HostParts.{HostParts}
use Rattle.vm_queues.specs.Queues.{is_queued}
use Rattle.vm_resident.specs.Resident.{PutsRow, row_at}
use Rattle.vm_resident.specs.declared.page_row.PageRow.{PageRow}
use Rattle.vm_locks.specs.Obeys.{IsAsked, IsNextInRange, LockState, Next, NoMore, PagesObey, Stays}
use Rattle.vm_locks.specs.Passing.{IsLeft}
use Rattle.vm_locks.specs.declared.request.LockRequest.{LockRequest}

-- a page whose row stays what it is changes nothing
pub stays : (key : PageKey) (lock : Option Lock) (row : PageRow) (parts : HostParts) → Fit parts → row_at parts.resident key.object.0 key.page.0 ≡ Some row
    → relocked lock false row ≡ row → Relocks key row lock false parts parts
stays key lock row parts fit found same =
    subst (λ (z : PageRow). Changes key row.frame (Some row) (Some z) true (page_in parts.frames row.frame.0) parts.queues parts parts) (sym same)
    (rows_changed key row row (page_in parts.frames row.frame.0) parts.queues parts parts fit found refl put (λ f. refl)
    (ap (λ z. record parts.frames { pages = z }) (sym (set-get_or parts.frames.pages row.frame.0 []))) refl
    (same_case (is_queued parts.queues) (is_queued parts.queues) row.here row.frame.0 (λ g. refl) (fit.listed key.object.0 key.page.0 row found)))
  where
    put : PutsRow key.object.0 key.page.0 (Some row) parts.resident parts.resident
    put = record {
      at = λ o p. elim (eqb_tells key.object.0 o) [
        | inl one ↦ elim (eqb_tells key.page.0 p) [
          | inl two ↦ rw (one.0, two.0) (stood parts.resident key.object.0 key.page.0 o p (Some row) one.1 two.1 found)
          | inr apart ↦ rw (one.0, apart.0) refl
        ]
        | inr apart ↦ rw apart.0 refl
      ];
    }

-- a page of the range that has a row is the next from itself on
pub next_itself : (object : ObjectId) (request : LockRequest) (page : PageNo) (row : PageRow) (s : LockState) → page.0 < request.page.0 + request.count
    → row_at s.parts.resident object.0 page.0 ≡ Some row → IsNextInRange object request page.0 page row s
next_itself object request page row s inside is = record {
  next = record { low = omega arith; there = ap is_some is; first = λ q low less. absurd (omega (arith, low, less)) };
  inside = inside;
  found = is;
}

-- the next page in the range from one on is the next from the page in front of it on, which has no row
wider : (object : ObjectId) (request : LockRequest) (at from : ℕ) (page : PageNo) (row : PageRow) (s : LockState) → from ≡ suc at
    → row_at s.parts.resident object.0 at ≡ None → IsNextInRange object request from page row s → IsNextInRange object request at page row s
wider object request at from page row s is none next = record {
  next = record {
    low = omega (arith, next.next.low, is);
    there = next.next.there;
    first = λ q low less. elim (eqb_tells at q) [
      | inl same ↦ sym (ap (row_at s.parts.resident object.0) same.1) ∙ none
      | inr apart ↦ next.next.first q (omega (arith, low, is, apart.1)) less
    ];
  };
  inside = next.inside;
  found = next.found;
}

behind : (host : HostId) (object : ObjectId) (control : ℕ) (request : LockRequest) (at from : ℕ) (s end : LockState) → from ≡ suc at
    → row_at s.parts.resident object.0 at ≡ None → PagesObey host object control request from s end → PagesObey host object control request at s end
behind host object control request at _ _ _ is none (NoMore from s rest) =
    NoMore at s (λ p low inside. elim (eqb_tells at p) [
      | inl same ↦ sym (ap (row_at s.parts.resident object.0) same.1) ∙ none
      | inr apart ↦ rest p (omega (arith, low, is, apart.1)) inside
    ])
behind host object control request at _ _ _ is none (IsAsked from page row old new next asked more) =
    IsAsked at page row old new (wider object request at from page row old is none next) asked more
behind host object control request at _ _ _ is none (Next from page row old mid new next here obeys more) =
    Next at page row old mid new (wider object request at from page row old is none next) here obeys more

-- a page is passed over, and the others behind it obey
pass_one : (host : HostId) (object : ObjectId) (control : ℕ) (request : LockRequest) (at : ℕ) (s end : LockState) → Fit s.parts
    → at < request.page.0 + request.count → ((row : PageRow) → row_at s.parts.resident object.0 at ≡ Some row → IsLeft request row)
    → PagesObey host object control request (suc at) s end → PagesObey host object control request at s end
pass_one host object control request at s end fit inside left more = by (row_at s.parts.resident object.0 at) refl
  where
    of : (row : PageRow) → row_at s.parts.resident object.0 at ≡ Some row → (here : Bool) → row.here ≡ here → PagesObey host object control request at s end
    of row is false asked = IsAsked at (record { 0 = at }) row s end (next_itself object request (record { 0 = at }) row s inside is) asked more
    of row is true here =
        let key : PageKey = record { object = object; page = record { 0 = at } } in
        Next at (record { 0 = at }) row s s end (next_itself object request (record { 0 = at }) row s inside is) here
        (Stays (left row is).act (stays key request.lock row s.parts fit is (left row is).same) refl refl refl refl) more

    by : (row : Option PageRow) → row_at s.parts.resident object.0 at ≡ row → PagesObey host object control request at s end
    by None none = behind host object control request at (suc at) s end refl none more
    by (Some row) is = of row is row.here refl

-- so are several pages
pass_some : (host : HostId) (object : ObjectId) (control : ℕ) (request : LockRequest) (n at : ℕ) (s end : LockState) → Fit s.parts
    → at + n ≤ request.page.0 + request.count
    → ((q : ℕ) (row : PageRow) → at ≤ q → q < at + n → row_at s.parts.resident object.0 q ≡ Some row → IsLeft request row)
    → PagesObey host object control request (at + n) s end → PagesObey host object control request at s end
pass_some host object control request zero at s end fit inside left more =
    subst (λ (z : ℕ). PagesObey host object control request z s end) (let e : at + zero ≡ at = omega arith in e) more
pass_some host object control request (suc n) at s end fit inside left more =
    pass_one host object control request at s end fit (omega (arith, inside)) (λ row is. left at row (omega arith) (omega arith) is)
    (pass_some host object control request n (suc at) s end fit (omega (arith, inside))
    (λ q row low less is. left q row (omega (arith, low)) (omega (arith, less)) is)
    (subst (λ (z : ℕ). PagesObey host object control request z s end) (let e : at + suc n ≡ suc at + n = omega arith in e) more))

-- the pages up to another are passed over
pub pass_to : (host : HostId) (object : ObjectId) (control : ℕ) (request : LockRequest) (from to : ℕ) (s end : LockState) → Fit s.parts
    → from ≤ to → to ≤ request.page.0 + request.count
    → ((q : ℕ) (row : PageRow) → from ≤ q → q < to → row_at s.parts.resident object.0 q ≡ Some row → IsLeft request row)
    → PagesObey host object control request to s end → PagesObey host object control request from s end
pass_to host object control request from to s end fit low inside left more =
    let same : from + (to - from) ≡ to = omega (arith, low) in
    pass_some host object control request (to - from) from s end fit (omega (arith, inside, same))
    (λ q row high less is. left q row high (omega (arith, less, same)) is) (rw same more)

-- and all that are left of the range
pub pass_rest : (host : HostId) (object : ObjectId) (control : ℕ) (request : LockRequest) (from : ℕ) (s : LockState) → Fit s.parts
    → ((q : ℕ) (row : PageRow) → from ≤ q → q < request.page.0 + request.count → row_at s.parts.resident object.0 q ≡ Some row → IsLeft request row)
    → PagesObey host object control request from s s
pass_rest host object control request from s fit left =
    let to : ℕ = request.page.0 + request.count in
    elim (leb_tells from to) [
      | inl low ↦ pass_to host object control request from to s s fit low.1 (omega arith) left
          (NoMore to s (λ p past inside. absurd (omega (arith, past, inside))))
      | inr past ↦ NoMore from s (λ p low inside. absurd (omega (arith, past.1, low, inside)))
    ]
