-- Pages of declared objects that are here, asked or wanted are pages that the object has.
use Rattle.std.proofs.Common.{ℕ, ◌≡◌, ◌+◌, ◌<◌, ◌≤◌, List, [], ◌∷◌, ◌++◌, Bool, true, false, Option, Some, None, refl, ap, subst, arith, inl, inr}
use Rattle.std.proofs.Common.{if◌then◌else◌}
use Rattle.std.proofs.lemmas.Bool.Decides.{nat_tests}
use Rattle.std.specs.Prelude.{◌==◌, ◌&&◌, ◌⊎◌, nat_lt, not}
use Rattle.vm_base.specs.Pages.{little_endian_bytes}
use Rattle.vm_model.specs.declared.command.Command.{Command}
use Rattle.vm_model.specs.declared.event.Event.{Event}
use Rattle.vm_model.specs.declared.event.Event.TheVariants as event
use Rattle.vm_model.specs.declared.message.Channel.TheVariants.{Up, Down}
use Rattle.vm_model.specs.declared.message.Message.{Message}
use Rattle.vm_model.specs.declared.message.Message.TheVariants as message
use Rattle.vm_model.specs.declared.script.Header.{Header}
use Rattle.vm_model.specs.Channels.{up_queue}
use Rattle.vm_model.specs.Controls.{is_control, live_control}
use Rattle.vm_model.specs.Homes.{object_home}
use Rattle.vm_model.specs.Local.{Local, LocalEffect, Place, away, effect, is_on, local, local_after, merge_effect, sent_effect, taken_effect}
use Rattle.vm_model.specs.Local.{Asks, Begins, Drops, Elsewhere, Ends, Moves, Raises, Returns, Stores, TakesError, TakesLock, TakesNothing, TakesPage, Unlocks}
use Rattle.vm_model.specs.Local.{Zeroes}
use Rattle.vm_model.specs.Moments.{EachEvent}
use Rattle.vm_model.specs.Named.{declared_pages, named}
use Rattle.vm_model.specs.Regions.{backing_of, object_pages}
use Rattle.vm_model.specs.PagePart.{page_part}
use Rattle.vm_model.specs.Server.{Wanting, first, line}
use Rattle.vm_model.specs.Side.{rest}
use Rattle.vm_model.specs.Tasks.{host_of}
use Rattle.vm_model.specs.Words.{in_range}
use Rattle.vm_legal.specs.Bytes.{OwnBytes}
use Rattle.vm_legal.specs.Licences as L
use Rattle.vm_legal.specs.Licences.{HasCause}
use Rattle.vm_legal.specs.Outside.{Outside, is_shared}
use Rattle.vm_legal.specs.Steps.{Asked, absence_of, absence_taken}
use Rattle.vm_legal.specs.Walks.{page_on}
use Rattle.vm_shared.proofs.Declared.{shared_declared}
use Rattle.vm_shared.proofs.Numbering.{Numbering, numbering}
use Rattle.vm_bound.proofs.Extents.{Extents, comes_inside, extents}
use Rattle.vm_bound.proofs.Wishes.{IsInside, TakesInside, Wished, wished_next}

-- What an event needs of the page that it is about.

-- the page is one of the object's where it is here or asked
pub record Known (Q : Type 0) (page : Local) : Type 0 where
  pub here : page.here ≡ true → Q
  pub asked : page.asked ≡ true → Q

-- what puts a page there, or asks for it
abbrev pub NeedsPage : Type 0 → LocalEffect → Type 0
NeedsPage Q Zeroes = Q
NeedsPage Q (Raises bytes) = Q
NeedsPage Q (Moves page) = Q
NeedsPage Q Asks = Q
NeedsPage Q other = Unit {0}

-- where that is one of the object's, what is here or asked behind the event is too

known_taken : (Q : Type 0) (b : Bool) (now was : Local) → (b ≡ true → Known Q now) → Known Q was → Known Q (if b then now else was)
known_taken Q true now was new k = new refl
known_taken Q false now was new k = k

no_true : {A : Type 0} → false ≡ true → A
no_true is = absurd (cc)

known_after : (Q : Type 0) (size : ℕ) (e : LocalEffect) (was : Local) → NeedsPage Q e → Known Q was → Known Q (local_after size e was)
known_after Q size Zeroes was need k = record { here = λ is. need; asked = k.asked }
known_after Q size (Raises bytes) was need k = record { here = λ is. need; asked = k.asked }
known_after Q size (Stores at bytes) was need k = record { here = k.here; asked = k.asked }
known_after Q size Drops was need k = record { here = λ is. no_true is; asked = k.asked }
known_after Q size (Moves page) was need k = record { here = λ is. need; asked = k.asked }
known_after Q size (Returns true) was need k = record { here = k.here; asked = k.asked }
known_after Q size (Returns false) was need k = record { here = λ is. no_true is; asked = k.asked }
known_after Q size Asks was need k = record { here = k.here; asked = λ is. need }
known_after Q size Unlocks was need k = record { here = k.here; asked = k.asked }
known_after Q size (TakesPage lock precious bytes) was need k =
    known_taken Q was.asked _ was (λ asked. record { here = λ is. k.asked asked; asked = λ is. no_true is }) k
known_after Q size TakesNothing was need k = known_taken Q was.asked _ was (λ asked. record { here = k.here; asked = λ is. no_true is }) k
known_after Q size TakesError was need k = record { here = k.here; asked = λ is. no_true is }
known_after Q size (TakesLock lock flush) was need k = known_taken Q was.here _ was (λ here. record { here = k.here; asked = k.asked }) k
known_after Q size Begins was need k = record { here = k.here; asked = λ is. no_true is }
known_after Q size Ends was need k = record { here = k.here; asked = λ is. no_true is }
known_after Q size Elsewhere was need k = k

needs_if : (Q : Type 0) (b : Bool) (e : LocalEffect) → (b ≡ true → NeedsPage Q e) → NeedsPage Q (if b then e else Elsewhere)
needs_if Q true e need = need refl
needs_if Q false e need = tt

-- Messages up.

-- each of these messages is about one of so many
abbrev pub AreInside : ℕ → List Message → Type 0
AreInside n [] = Unit {0}
AreInside n (m ∷ q) = IsInside n m × AreInside n q

-- what a host sends is
sends_inside : (header : Header) (doing : Command) (host object : ℕ) (m : Message) (past : List Event) → Extents header past → object < named header
    → L.MaySendUp header doing host object m past → IsInside (declared_pages header object) m
sends_inside header doing host object (message.Request control page access) past x small c =
    subst (λ (n : ℕ). page.0 < n) (x.fits.declared object small) (comes_inside header c.task _ host object page.0 past x c.waits.at c.comes)
sends_inside header doing host object (message.Unlock control page access) past x small c =
    subst (λ (n : ℕ). page.0 < n) (x.fits.declared object small) (comes_inside header c.task _ host object page.0 past x c.waits.at c.comes)
sends_inside header doing host object m past x small c = tt

-- along a queue

inside_end : (n : ℕ) (q : List Message) (m : Message) → AreInside n q → IsInside n m → AreInside n (q ++ m ∷ [])
inside_end n [] m all is = (is, tt)
inside_end n (x ∷ q) m all is = (all.0, inside_end n q m all.1 is)

inside_sent : (b : Bool) (n : ℕ) (q : List Message) (m : Message) → (b ≡ true → IsInside n m) → AreInside n q → AreInside n (if b then q ++ m ∷ [] else q)
inside_sent true n q m is all = inside_end n q m all (is refl)
inside_sent false n q m is all = all

inside_taken : (b : Bool) (n : ℕ) (q : List Message) → AreInside n q → AreInside n (if b then rest q else q)
inside_taken true n [] all = tt
inside_taken true n (m ∷ q) all = all.1
inside_taken false n q all = all

inside_first : (n : ℕ) (q : List Message) (m : Message) → first q ≡ Some m → AreInside n q → IsInside n m
inside_first n [] m is all = absurd (cc)
inside_first n (x ∷ q) m is all = let same : x ≡ m = cc in subst (λ (y : Message). IsInside n y) same all.0

-- Every moment.

pub record PagesInside (header : Header) (past : List Event) : Type 0 where
  pub known : (h o p : ℕ) → o < named header → Known (p < declared_pages header o) (page_on header h o p past)
  pub lacking : (h o p : ℕ) → o < named header → absence_taken header past ≡ Some (record { host = h; object = o; page = p }) → p < declared_pages header o
  pub up : (h o : ℕ) → o < named header → AreInside (declared_pages header o) (up_queue h o past)
  pub wished : (o p : ℕ) → o < named header → Wished (p < declared_pages header o) (line (page_part header.size o p past))

-- what comes to a page of a declared object, or is asked of one

record IsHere (object page o p : ℕ) : Type 0 where
  object_is : object ≡ o
  page_is : page ≡ p

is_here : (b : Bool) (object page o p : ℕ) → (b && (object == o && page == p)) ≡ true → IsHere object page o p
is_here b object page o p is = record { object_is = grind (arith, nat_tests); page_is = grind (arith, nat_tests) }

-- a place of a temporary object is none of a declared one
pub later_page : {Q : Type 0} (header : Header) (b : Bool) (object page o p : ℕ) → o < named header → named header ≤ object
    → (b && (object == o && page == p)) ≡ true → Q
later_page header b object page o p small later is = let e = (is_here b object page o p is).object_is in absurd (omega (arith, e, small, later))

-- zeros come to an asked page, or to a temporary object
needs_zeroed : (header : Header) (h o p : ℕ) (b : Bool) (host object page : ℕ) (past : List Event) → o < named header → PagesInside header past
    → L.Fills header host object page past ⊎ L.Bottoms header host object page past → (b && (object == o && page == p)) ≡ true → p < declared_pages header o
needs_zeroed header h o p b host object page past small was (inl c) is =
    let e = is_here b object page o p is in
    let less = was.lacking host object page c.declared c.void in
    subst (λ (k : ℕ). p < declared_pages header k) e.object_is (omega (arith, less, e.page_is))
needs_zeroed header h o p b host object page past small was (inr c) is = later_page header b object page o p small c.temporary is

-- what is copied up comes to a temporary object
pub raised_later : (header : Header) (host lower lower_page upper upper_page : ℕ) (past : List Event) → Numbering header past
    → L.Raises header host lower lower_page upper upper_page past → named header ≤ upper
raised_later header host lower lower_page upper upper_page past n (L.Finding c) = n.numbered.upper upper c.walks.1
raised_later header host lower lower_page upper upper_page past n (L.Pushing c) = n.numbered.newest lower upper c.owes.newest

-- so does what a merge moves up
needs_merged : (header : Header) (Q : Type 0) (upper lower shift upper_pages lower_pages o p : ℕ) (others : Place → Local) → o < named header
    → named header ≤ upper → NeedsPage Q (merge_effect upper lower shift upper_pages lower_pages (record { object = o; page = p }) others)
needs_merged header Q upper lower shift upper_pages lower_pages o p others small later = by_upper (o == upper) refl
  where
    by_upper : (b : Bool) → (o == upper) ≡ b
        → NeedsPage Q (if b then (if nat_lt p upper_pages && (nat_lt (shift + p) lower_pages
        && ((others (record { object = lower; page = shift + p })).here && not (others (record { object = o; page = p })).here))
        then Moves (others (record { object = lower; page = shift + p })) else Elsewhere)
        else (if o == lower && nat_lt p lower_pages then Drops else Elsewhere))
    by_upper true is = let e : o ≡ upper = grind (arith, nat_tests) in absurd (omega (arith, e, small, later))
    by_upper false is = needs_if Q (o == lower && nat_lt p lower_pages) Drops (λ drops. tt)

-- messages ask for a page, or put none there that isn't asked

needs_sent : (n p : ℕ) (live : Option ℕ) (m : Message) → IsInside n m → NeedsPage (p < n) (sent_effect p live m)
needs_sent n p live (message.Request control at access) inside =
    needs_if (p < n) (at.0 == p && is_control control live) Asks (λ is. let e : at.0 ≡ p = grind (arith, nat_tests) in omega (arith, e, inside))
needs_sent n p live (message.Terminate control) inside = needs_if (p < n) (is_control control live) Ends (λ is. tt)
needs_sent n p live (message.Unlock control at access) inside = needs_if (p < n) (at.0 == p) Unlocks (λ is. tt)
needs_sent n p live (message.Return control at dirty keep bytes) inside = needs_if (p < n) (at.0 == p) (Returns keep) (λ is. tt)
needs_sent n p live (message.Init control size) inside = tt
needs_sent n p live (message.Create control size) inside = tt
needs_sent n p live (message.Completed control at count) inside = tt
needs_sent n p live (message.Ready cache strategy) inside = tt
needs_sent n p live (message.Supply at lock precious bytes) inside = tt
needs_sent n p live (message.Unavailable at) inside = tt
needs_sent n p live (message.Error at reason) inside = tt
needs_sent n p live (message.Lock at count returns flush lock reply) inside = tt
needs_sent n p live (message.Attributes cache strategy reply) inside = tt
needs_sent n p live (message.Destroy reason) inside = tt
needs_sent n p live (message.Changed control cache strategy) inside = tt

needs_taken : (Q : Type 0) (p : ℕ) (m : Message) → NeedsPage Q (taken_effect p m)
needs_taken Q p (message.Supply at lock precious bytes) = needs_if Q (at.0 == p) (TakesPage lock precious bytes) (λ is. tt)
needs_taken Q p (message.Unavailable at) = needs_if Q (at.0 == p) TakesNothing (λ is. tt)
needs_taken Q p (message.Error at reason) = needs_if Q (at.0 == p) TakesError (λ is. tt)
needs_taken Q p (message.Lock at count returns flush lock reply) = needs_if Q (in_range p at.0 count) (TakesLock lock flush) (λ is. tt)
needs_taken Q p (message.Init control size) = tt
needs_taken Q p (message.Create control size) = tt
needs_taken Q p (message.Request control at access) = tt
needs_taken Q p (message.Unlock control at access) = tt
needs_taken Q p (message.Return control at dirty keep bytes) = tt
needs_taken Q p (message.Completed control at count) = tt
needs_taken Q p (message.Terminate control) = tt
needs_taken Q p (message.Ready cache strategy) = tt
needs_taken Q p (message.Attributes cache strategy reply) = tt
needs_taken Q p (message.Destroy reason) = tt
needs_taken Q p (message.Changed control cache strategy) = tt

-- each event
needs : (header : Header) (outside : Outside) (h o p : ℕ) (e : Event) (past : List Event) → o < named header → Numbering header past
    → Extents header past → PagesInside header past → HasCause header outside e past
    → NeedsPage (p < declared_pages header o) (effect header h (record { object = o; page = p }) (λ source. local header h source past) e past)
needs header outside h o p (event.Zeroed at object page) past small n x was c =
    needs_if _ (at.0 == h && (object.0 == o && page.0 == p)) Zeroes
    (λ is. needs_zeroed header h o p (at.0 == h) at.0 object.0 page.0 past small was c.1 is)
needs header outside h o p (event.Raised at lower lower_page upper upper_page) past small n x was c =
    needs_if _ (at.0 == h && (upper.0 == o && upper_page.0 == p)) (Raises (page_on header h lower.0 lower_page.0 past).bytes)
    (λ is. later_page header (at.0 == h) upper.0 upper_page.0 o p small
    (raised_later header at.0 lower.0 lower_page.0 upper.0 upper_page.0 past n c.1) is)
needs header outside h o p (event.CopiedPage task page object object_page target) past small n x was c =
    needs_if _ (is_on h (host_of task.0 past) && (target.0 == o && page.0 == p)) (Raises (page_on header h object.0 object_page.0 past).bytes)
    (λ is. later_page header (is_on h (host_of task.0 past)) target.0 page.0 o p small (n.fills task.0 _ c.1.filled) is)
needs header outside h o p (event.Stored task object page at size value) past small n x was c =
    needs_if _ (is_on h (host_of task.0 past) && (object.0 == o && page.0 == p)) (Stores at (little_endian_bytes size value)) (λ is. tt)
needs header outside h o p (event.Dropped at object page) past small n x was c =
    needs_if _ (at.0 == h && (object.0 == o && page.0 == p)) Drops (λ is. tt)
needs header outside h o p (event.Merged upper lower) past small n x was c =
    needs_if _ (is_on h (object_home upper.0 past)) _
    (λ is. needs_merged header _ upper.0 lower.0 (backing_of header upper.0 past).shift (object_pages header upper.0 past)
    (object_pages header lower.0 past) o p (λ source. local header h source past) small (n.numbered.upper upper.0 c.1.pair.backed))
needs header outside h o p (event.Sent (Up at object) m) past small n x was c =
    needs_if _ (at.0 == h && object.0 == o) (sent_effect p (live_control h o past) m)
    (λ is. let e : object.0 ≡ o = grind (arith, nat_tests) in
    needs_sent (declared_pages header o) p (live_control h o past) m
    (subst (λ (k : ℕ). IsInside (declared_pages header k) m) e (sends_inside header c.0 at.0 object.0 m past x (omega (arith, small, e)) c.1)))
needs header outside h o p (event.Taken (Down at object control) m) past small n x was c =
    needs_if _ (at.0 == h && (object.0 == o && is_control control (live_control h o past))) (taken_effect p m) (λ is. needs_taken _ p m)
needs header outside h o p (event.Sent (Down at object control) m) past small n x was c = tt
needs header outside h o p (event.Taken (Up at object) m) past small n x was c = tt
needs header outside h o p e past small n x was c = tt

-- what a pager says it lacks

no_asked : {Q : Type 0} (asked : Asked) → ◌≡◌ {A = Option Asked} None (Some asked) → Q
no_asked asked is = absurd (cc)

lacking_said : (header : Header) (h o p : ℕ) (host object : ℕ) (asked : ℕ → Bool) (m : Message)
    → ((q : ℕ) → object < named header → asked q ≡ true → q < declared_pages header object) → o < named header
    → absence_of host object asked m ≡ Some (record { host = h; object = o; page = p }) → p < declared_pages header o
lacking_said header h o p host object asked (message.Unavailable page) known small is = by (asked page.0) refl is
  where
    by : (b : Bool) → asked page.0 ≡ b
        → ◌≡◌ {A = Option Asked} (if b then Some (record { host = host; object = object; page = page.0 }) else None) (Some
        (record { host = h; object = o; page = p }))
        → p < declared_pages header o
    by true on same =
        let object_is : object ≡ o = ap object_in same in
        let page_is : page.0 ≡ p = ap page_in same in
        let less = known page.0 (omega (arith, object_is, small)) on in
        subst (λ (k : ℕ). p < declared_pages header k) object_is (omega (arith, less, page_is))
      where
        object_in : Option Asked → ℕ
        object_in None = 0
        object_in (Some a) = a.object

        page_in : Option Asked → ℕ
        page_in None = 0
        page_in (Some a) = a.page
    by false off same = no_asked _ same
lacking_said header h o p host object asked m known small is = no_asked _ is

lacking_next : (header : Header) (e : Event) (past : List Event) → PagesInside header past → (h o p : ℕ) → o < named header
    → absence_taken header (e ∷ past) ≡ Some (record { host = h; object = o; page = p }) → p < declared_pages header o
lacking_next header (event.Line line) past was h o p small is = no_asked _ is
lacking_next header (event.Taken (Down at object control) m) past was h o p small is =
    lacking_said header h o p at.0 object.0 (λ page. is_control control (live_control at.0 object.0 past)
    && (page_on header at.0 object.0 page past).asked) m
    (λ q there on. (was.known at.0 object.0 q there).asked (second (is_control control (live_control at.0 object.0 past)) _ on)) small is
  where
    second : (a b : Bool) → (a && b) ≡ true → b ≡ true
    second true b both = both
    second false b both = no_true both
lacking_next header (event.Taken (Up at object) m) past was h o p small is = no_asked _ is
lacking_next header e past was h o p small is = was.lacking h o p small is

-- what is on its way up

up_next : (header : Header) (outside : Outside) (e : Event) (past : List Event) → Extents header past → PagesInside header past
    → HasCause header outside e past → (h o : ℕ) → o < named header → AreInside (declared_pages header o) (up_queue h o (e ∷ past))
up_next header outside (event.Sent (Up at object) m) past x was c h o small =
    inside_sent (at.0 == h && object.0 == o) (declared_pages header o) (up_queue h o past) m
    (λ is. let e : object.0 ≡ o = grind (arith, nat_tests) in
    subst (λ (k : ℕ). IsInside (declared_pages header k) m) e (sends_inside header c.0 at.0 object.0 m past x (omega (arith, small, e)) c.1))
    (was.up h o small)
up_next header outside (event.Taken (Up at object) m) past x was c h o small =
    inside_taken (at.0 == h && object.0 == o) (declared_pages header o) (up_queue h o past) (was.up h o small)
up_next header outside (event.Sent (Down at object control) m) past x was c h o small = was.up h o small
up_next header outside (event.Taken (Down at object control) m) past x was c h o small = was.up h o small
up_next header outside e past x was c h o small = was.up h o small

-- who stands in line

takes_inside : (header : Header) (outside : Outside) (e : Event) (past : List Event) → PagesInside header past → HasCause header outside e past → (o : ℕ)
    → o < named header → TakesInside (declared_pages header o) o e
takes_inside header outside (event.Taken (Up at object) m) past was c o small =
    λ is. let e : object.0 ≡ o = grind (arith, nat_tests) in
    subst (λ (k : ℕ). IsInside (declared_pages header k) m) e
    (inside_first (declared_pages header object.0) (up_queue at.0 object.0 past) m c.1.0 (was.up at.0 object.0 (omega (arith, e, small))))
takes_inside header outside (event.Taken (Down at object control) m) past was c o small = tt
takes_inside header outside e past was c o small = tt

-- all of it

no_page : {Q : Type 0} → Known Q away
no_page = record { here = λ is. no_true is; asked = λ is. no_true is }

pub pages_inside : (header : Header) (outside : Outside) (past : List Event) → EachEvent (HasCause header outside) past → PagesInside header past
pages_inside header outside [] caused =
    record { known = λ h o p small. no_page; lacking = λ h o p small is. no_asked _ is; up = λ h o small. tt; wished = λ o p small. tt }
pages_inside header outside (e ∷ past) caused =
    let was : PagesInside header past = pages_inside header outside past caused.1 in
    let x : Extents header past = extents header outside past caused.1 in
    let n : Numbering header past = numbering header outside past caused.1 in
    record {
      known =
          λ h o p small. known_after (p < declared_pages header o) header.size
          (effect header h (record { object = o; page = p }) (λ source. local header h source past) e past) (page_on header h o p past)
          (needs header outside h o p e past small n x was caused.0) (was.known h o p small);
      lacking = lacking_next header e past was;
      up = up_next header outside e past x was caused.0;
      wished =
          λ o p small. wished_next (declared_pages header o) header.size o p e past (takes_inside header outside e past was caused.0 o small)
          (was.wished o p small);
    }

-- a page of a declared object that is here is one of its pages
pub here_inside : (header : Header) (outside : Outside) (past : List Event) → EachEvent (HasCause header outside) past → EachEvent (OwnBytes header) past
    → (h o p : ℕ) → o < named header → (page_on header h o p past).here ≡ true → p < declared_pages header o
here_inside header outside past caused own h o p small here = ((pages_inside header outside past caused).known h o p small).here here

-- likewise one that is asked
pub asked_inside : (header : Header) (outside : Outside) (past : List Event) → EachEvent (HasCause header outside) past → EachEvent (OwnBytes header) past
    → (h o p : ℕ) → o < named header → (page_on header h o p past).asked ≡ true → p < declared_pages header o
asked_inside header outside past caused own h o p small asked = ((pages_inside header outside past caused).known h o p small).asked asked

first_wished : (Q : Type 0) (ws : List Wanting) (w : Wanting) → first ws ≡ Some w → Wished Q ws → Q
first_wished Q [] w is all = absurd (cc)
first_wished Q (v ∷ ws) w is all = all

-- who stands first in the line of a page of a shared object wants one of its pages
pub wanted_inside : (header : Header) (outside : Outside) (past : List Event) → EachEvent (HasCause header outside) past → EachEvent (OwnBytes header) past
    → (o p : ℕ) (w : Wanting) → is_shared header o ≡ true → first (line (page_part header.size o p past)) ≡ Some w → p < declared_pages header o
wanted_inside header outside past caused own o p w shared is =
    first_wished (p < declared_pages header o) (line (page_part header.size o p past)) w is
    ((pages_inside header outside past caused).wished o p (shared_declared header o shared))
