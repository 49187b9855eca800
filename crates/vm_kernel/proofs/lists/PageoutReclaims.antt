-- A pageout reclaims pages, one after another.
use Rattle.vm_kernel.proofs.Common.{Command, EachGone, EachOf, Event, FreesOrReturns, Grows, Header, Ids, IfSome, IsDoneInTurn, IsReclaim, LegalEvents, List}
use Rattle.vm_kernel.proofs.Common.{None, Option, Outside, PageKey, Paging, Parts, Ran, Reclaim, ReclaimsOnly, Rests, Some, Starts, TaskId, [], ap, departures}
use Rattle.vm_kernel.proofs.Common.{eqb_tells, first_in_queue, head, host_id, inl, inr, of_both, page_key, refl, some_is, subst, sym, ℕ, ◌++◌, ◌+◌, ◌∙◌, ◌∷◌}
use Rattle.vm_kernel.proofs.Common.{◌≡◌, ◌⊎◌}
use Rattle.vm_model.specs.declared.command.Command.TheVariants as command
use Rattle.vm_model.specs.declared.event.Event.TheVariants as event
use Rattle.vm_pageout.specs.declared.answer.Reclaim.TheVariants as reclaim
use Rattle.vm_kernel.proofs.steps.EventsGrow.{grows_goes}
use Rattle.vm_kernel.proofs.memory.PageReclaimed.{exhausted, source_of}
use Rattle.vm_kernel.specs.Plays.{FrontCopies, IsKeptSource, PlaysBy, SparesSource, SparesSourceSince}
use Rattle.vm_kernel.specs.Serving.{IsTheSource, IsToCopy}
use Rattle.vm_legal.specs.Prompt.{IsSource}

-- the page of both, where that is the same

same_key : (a b : PageKey) → ((a ≡ b) ⊎ (a ≡ b → ⊥))
same_key a b = elim (eqb_tells a.object.0 b.object.0) [
  | inl object ↦ elim (eqb_tells a.page.0 b.page.0) [
    | inl page ↦ inl (λ i. page_key (object.1 i) (page.1 i))
    | inr apart ↦ inr (λ same. apart.1 (ap (λ (z : PageKey). z.page.0) same))
  ]
  | inr apart ↦ inr (λ same. apart.1 (ap (λ (z : PageKey). z.object.0) same))
]

same_or_not : (one other : Option PageKey) → ((one ≡ other) ⊎ (one ≡ other → ⊥))
same_or_not None None = inl refl
same_or_not None (Some b) = inr (λ bad. let clash : None ≡ Some b = bad in cc)
same_or_not (Some a) None = inr (λ bad. let clash : Some a ≡ None = bad in cc)
same_or_not (Some a) (Some b) = elim (same_key a b) [ inl same ↦ inl (ap Some same) | inr apart ↦ inr (λ same. apart (some_is a b same)) ]

-- the page that was to be copied at a moment
abbrev pub WasToCopy : Header → ℕ → Option PageKey → List Event → Type 0
WasToCopy header h first moment = IfSome first (λ key. IsSource header h key.object.0 key.page.0 moment)

-- where both are the same, it is to be copied still, and it was at the moment
pub record SparesOne (header : Header) (h : ℕ) (k : Parts) (spared : Option PageKey) (moment past : List Event) : Type 0 where
  pub now : IsToCopy header h k spared past
  pub was : WasToCopy header h spared moment

pub spares_one : (header : Header) (h : ℕ) (k : Parts) (first other spared : Option PageKey) (moment past : List Event) → WasToCopy header h first moment
    → IsToCopy header h k other past → (first ≡ other → spared ≡ other) → ((first ≡ other → ⊥) → spared ≡ None)
    → SparesOne header h k spared moment past
spares_one header h k first other spared moment past was now same apart = elim (same_or_not first other) [
  | inl is ↦
      record {
        now = subst (λ (z : Option PageKey). IsToCopy header h k z past) (sym (same is)) now;
        was = subst (λ (z : Option PageKey). WasToCopy header h z moment) (is ∙ sym (same is)) was;
      }
  | inr not ↦ subst (λ (z : Option PageKey). SparesOne header h k z moment past) (sym (apart not)) (record { now = tt; was = tt })
]

-- so it is the page that a pageout spares
both_some : (A B : PageKey → Type 0) (x : Option PageKey) → IfSome x A → IfSome x B → IfSome x (λ key. A key × B key)
both_some A B None a b = tt
both_some A B (Some key) a b = (a, b)

pub source_since : (header : Header) (h : ℕ) (front : Option TaskId) (first other spared : Option PageKey) (moment past : List Event)
    → IsTheSource header h (SparesSource front) first moment → IsTheSource header h (SparesSource front) other past
    → (first ≡ other → spared ≡ other) → ((first ≡ other → ⊥) → spared ≡ None) → IsTheSource header h (SparesSourceSince front moment) spared past
source_since header h front first other spared moment past was now same apart =
    record {
      is = elim (same_or_not first other) [
        | inl is ↦
            subst (λ (z : Option PageKey). IfSome z (λ key. IsKeptSource header h (SparesSourceSince front moment) key.object.0 key.page.0 past))
            (sym (same is))
            (both_some _ _ other now.is (subst (λ (z : Option PageKey). IfSome z (λ key. FrontCopies header h front key.object.0 key.page.0 moment)) is was.is))
        | inr not ↦ subst (λ (z : Option PageKey). IfSome z (λ key. IsKeptSource header h (SparesSourceSince front moment) key.object.0 key.page.0 past))
            (sym (apart not)) tt
      ];
      only = λ o p (here, then). same (was.only o p then ∙ sym (now.only o p here)) ∙ now.only o p here;
    }

-- the front is the one that stood first
pub plays_first : {header : Header} {past before after : List Event} {old new : Paging} {q now : List TaskId} → now ≡ q
    → PlaysBy header (SparesSourceSince (first_in_queue now) past) past before old after new
    → PlaysBy header (SparesSourceSince (first_in_queue q) past) past before old after new
plays_first {header = header} {past = past} {before = before} {after = after} {old = old} {new = new} same plays =
    subst (λ (z : List TaskId). PlaysBy header (SparesSourceSince (first_in_queue z) past) past before old after new) same plays

pub first_source : (header : Header) (h : ℕ) (source : Option PageKey) (q now : List TaskId) (events past : List Event) → now ≡ q → events ≡ []
    → IsTheSource header h (SparesSource (first_in_queue q)) source (events ++ past) → IsTheSource header h (SparesSource (first_in_queue now)) source past
first_source header h source q now events past same none is =
    subst (λ (z : List TaskId). IsTheSource header h (SparesSource (first_in_queue z)) source past) (sym same)
    (subst (λ (z : List Event). IsTheSource header h (SparesSource (first_in_queue q)) source (z ++ past)) none is)

-- so many pages have gone, and nothing else was done; a page was to be copied when that began
pub record Reclaiming (header : Header) (h : ℕ) (outside : Outside) (doing : Command) (count done : ℕ) (first : Option PageKey) (past : List Event) (k : Parts)
    (ids : Ids) (events : List Event) : Type 0 where
  pub is : doing ≡ command.Pageout (host_id h) count
  pub rests : Rests header h k ids (events ++ past)
  pub grows : Grows header h outside doing past events
  pub reclaims : EachOf (IsReclaim h) events
  pub only : ReclaimsOnly h (events ++ past)
  pub went : departures h (events ++ past) ≡ done
  pub was : WasToCopy header h first past

pub reclaiming_start : (header : Header) (h : ℕ) (outside : Outside) (doing : Command) (count : ℕ) (first : Option PageKey) (past : List Event) (k : Parts)
    (ids : Ids) (events : List Event) → doing ≡ command.Pageout (host_id h) count → Starts header h doing past k ids events
    → IsToCopy header h k first (events ++ past)
    → Reclaiming header h outside doing count 0 first past k ids events
reclaiming_start header h outside doing count first past k ids events is s to_copy =
    subst (λ (z : List Event). Reclaiming header h outside doing count 0 first past k ids z) (sym s.nothing)
    (record {
      is = is;
      rests = s.rests;
      grows =
          record {
            first = [];
            more = [];
            head = ap (head header past) is;
            is = refl;
            follows = tt;
            licensed = tt;
            own_bytes = tt;
            frames = tt;
            inner = tt;
            said = tt;
            mine = tt;
          };
      reclaims = tt;
      only = subst (ReclaimsOnly h) (sym s.begins.is) tt;
      went = ap (departures h) s.begins.is;
      was = source_of header h k first past (subst (λ (z : List Event). IsToCopy header h k first (z ++ past)) s.nothing to_copy);
    })

-- reclaims on top of reclaims

reclaim_more : (h : ℕ) (e : Event) (past : List Event) → IsReclaim h e → ReclaimsOnly h past → ReclaimsOnly h (e ∷ past)
reclaim_more h (event.Line line) past is only = tt
reclaim_more h other past is only = (is, only)

reclaims_more : (h : ℕ) (more events past : List Event) → EachOf (IsReclaim h) more → ReclaimsOnly h (events ++ past)
    → ReclaimsOnly h ((more ++ events) ++ past)
reclaims_more h [] events past each only = only
reclaims_more h (e ∷ more) events past each only = reclaim_more h e ((more ++ events) ++ past) each.0 (reclaims_more h more events past each.1 only)

-- one more has gone
pub reclaiming_more : (header : Header) (h : ℕ) (outside : Outside) (doing : Command) (count done : ℕ) (first spared : Option PageKey) (past : List Event)
    (k k2 : Parts) (ids : Ids) (answer : Reclaim) (events after : List Event) → Reclaiming header h outside doing count done first past k ids events
    → Rests header h k2 ids (after ++ past) → LegalEvents header h outside doing past events after → EachGone h events after
    → FreesOrReturns h spared answer k k2 (events ++ past) (after ++ past) → (answer ≡ reclaim.Freed) ⊎ (answer ≡ reclaim.Returned)
    → Reclaiming header h outside doing count (done + 1) first past k2 ids after
reclaiming_more header h outside doing count done first spared past k k2 ids answer events after r rests goes each reclaimed which =
    record {
      is = r.is;
      rests = rests;
      grows = grows_goes header h outside doing past events after r.grows goes;
      reclaims = subst (EachOf (IsReclaim h)) (sym each.is) (of_both (IsReclaim h) each.more events each.each r.reclaims);
      only = subst (λ (z : List Event). ReclaimsOnly h (z ++ past)) (sym each.is) (reclaims_more h each.more events past each.each r.only);
      went = more which ∙ ap (λ z. z + 1) r.went;
      was = r.was;
    }
  where
    more : (answer ≡ reclaim.Freed) ⊎ (answer ≡ reclaim.Returned) → departures h (after ++ past) ≡ departures h (events ++ past) + 1
    more (inl freed) = (reclaimed.freed freed).1
    more (inr returned) = (reclaimed.returned returned).1

-- no page is here any more but those that are spared
pub ran_out : (header : Header) (h : ℕ) (outside : Outside) (doing : Command) (count done : ℕ) (first spared : Option PageKey) (past : List Event)
    (k k2 : Parts) (ids : Ids) (answer : Reclaim) (events after : List Event) → Reclaiming header h outside doing count done first past k ids events
    → Rests header h k2 ids (after ++ past) → LegalEvents header h outside doing past events after → EachGone h events after
    → FreesOrReturns h spared answer k k2 (events ++ past) (after ++ past) → answer ≡ reclaim.Nothing → WasToCopy header h spared past
    → Ran header h outside doing past k2 ids after
ran_out header h outside doing count done first spared past k k2 ids answer events after r rests goes each reclaimed nothing was =
    record {
      rests = rests;
      grows = grows_goes header h outside doing past events after r.grows goes;
      done =
          subst (λ (z : Command). IsDoneInTurn header z after past) (sym r.is) (record {
            later = [];
            front = after;
            is = refl;
            reclaims = all;
            enough = inr (exhausted header h k2 ids spared past (after ++ past) rests was (reclaimed.nothing nothing).1);
          });
    }
  where
    all : EachOf (IsReclaim h) after
    all = subst (EachOf (IsReclaim h)) (sym each.is) (of_both (IsReclaim h) each.more events each.each r.reclaims)

-- as many have gone as it wants
pub paged_out : (header : Header) (h : ℕ) (outside : Outside) (doing : Command) (count : ℕ) (first : Option PageKey) (past : List Event) (k : Parts) (ids : Ids)
    (events : List Event) → Reclaiming header h outside doing count count first past k ids events
    → Ran header h outside doing past k ids events
paged_out header h outside doing count first past k ids events r =
    record {
      rests = r.rests;
      grows = r.grows;
      done =
          subst (λ (z : Command). IsDoneInTurn header z events past) (sym r.is) (record
          { later = []; front = events; is = refl; reclaims = r.reclaims; enough = inl r.went });
    }
