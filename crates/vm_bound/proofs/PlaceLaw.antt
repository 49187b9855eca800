-- What all places cost, behind each event of a step and behind a taking.
use Rattle.std.proofs.Common.{ℕ, ◌≡◌, ◌≢◌, ◌≤◌, ◌<◌, ◌+◌, List, ◌∷◌, Bool, true, false, Option, None, Some, inl, inr, refl, sym, ap, subst, ◌∙◌, arith}
use Rattle.std.proofs.Common.{if◌then◌else◌}
use Rattle.std.proofs.lemmas.Bool.Decides.{nat_tests}
use Rattle.std.proofs.lemmas.Bool.{cases_lt}
use Rattle.std.specs.Prelude.{◌==◌, ◌&&◌, ◌||◌, ◌⊎◌, nat_lt, not}
use Rattle.vm_base.specs.declared.ids.HostId.{HostId}
use Rattle.vm_base.specs.declared.ids.ObjectId.{ObjectId}
use Rattle.vm_base.specs.declared.ids.PageNo.{PageNo}
use Rattle.vm_base.specs.declared.ids.ObjectKind.{ObjectKind}
use Rattle.vm_base.specs.declared.ids.ObjectKind.TheVariants.{File, Shared, Temp, Wild}
use Rattle.vm_bound.proofs.Doomed.{IsDoomed}
use Rattle.vm_bound.proofs.PlainLocks.{IsPlain, unlocked_plain}
use Rattle.vm_bound.proofs.Distinct.{one_host, one_page, places_both, places_lower, places_none, places_sum, weigh}
use Rattle.vm_bound.proofs.Owing.{Follows, debt, error_debt_of, inner_places, inner_weight, is_due, place_gain, place_relief}
use Rattle.vm_bound.proofs.PlaceSums.{is_at, place_falls}
use Rattle.vm_bound.proofs.PlainLaw.{AsksUndue, plain_law, plain_opens, plain_pays, unmade_weight}
use Rattle.vm_bound.proofs.PlainSums.{opens_once, taken_once}
use Rattle.vm_bound.proofs.PlainTaken.{plain_taken, taken_opens}
use Rattle.vm_bound.proofs.SharedTakings.{Rests, shared_taken}
use Rattle.vm_bound.specs.Places.{place_weight, places}
use Rattle.vm_bound.proofs.Ranges.{shadowed_range}
use Rattle.vm_bound.proofs.SharedMoves.{shared_opens, shared_pays}
use Rattle.vm_bound.proofs.SharedPlaces.{IsCalmToWrite, shared_law}
use Rattle.vm_bound.proofs.Extents.{comes_inside, extents}
use Rattle.vm_bound.proofs.MadeObjects.{only_made}
use Rattle.vm_bound.specs.Accesses.{turn_weight}
use Rattle.vm_bound.specs.Bound.{NoneWaitsOnWild}
use Rattle.vm_bound.specs.Letters.{host_count}
use Rattle.vm_bound.specs.Settles.{CopyFromOne}
use Rattle.vm_legal.proofs.Numbering.{named_objects}
use Rattle.vm_legal.proofs.Unshared.{paged_tame, temporary_unshared, wild_named}
use Rattle.vm_legal.specs.Accesses.{Comes, Waits, names, page_of}
use Rattle.vm_legal.specs.Licences.{Asks as MayAsk, HasCause, Licensed, is_paged, zeroes}
use Rattle.vm_legal.specs.Steps.{Asked, absence_taken, error_taken, since}
use Rattle.vm_legal.specs.Walks.{page_on}
use Rattle.vm_legal.specs.Outside.{NoneIsTemporary, Outside, is_file, is_file_kept, is_file_kind, is_shared, is_shared_kind, is_wild, is_wild_kind, kind_in, kind_of}
use Rattle.vm_legal.specs.Stretches.{IsInner}
use Rattle.vm_model.specs.Controls.{is_control, live_control}
use Rattle.vm_model.specs.Local.{Asks, Elsewhere, local_after}
use Rattle.vm_model.specs.declared.script.Declared.{Declared}
use Rattle.vm_model.specs.Moments.{EachEvent}
use Rattle.vm_model.specs.Named.{declared, named}
use Rattle.vm_model.specs.Waiting.{Access, is_store}
use Rattle.vm_model.specs.declared.command.Command.TheVariants as command
use Rattle.vm_model.specs.declared.message.Channel.{Channel}
use Rattle.vm_shared.proofs.Numbering.{at_made, comes_own, numbering}
use Rattle.vm_model.specs.Regions.{next_object, object_pages}
use Rattle.vm_model.specs.declared.event.Event.{Event}
use Rattle.vm_model.specs.declared.event.Event.TheVariants as event
use Rattle.vm_model.specs.declared.message.Channel.TheVariants.{Up}
use Rattle.vm_model.specs.declared.message.Message.{Message}
use Rattle.vm_model.specs.declared.message.Message.TheVariants as message
use Rattle.vm_model.specs.declared.script.Header.{Header}

-- One place, whatever its memory is.

abbrev pays : Header → Event → ℕ → ℕ → ℕ → ℕ
pays header e h o p = if is_wild header o then 0 else if is_shared header o then shared_pays header e h o p else plain_pays e h o p

abbrev opens : Header → Event → List Event → ℕ → ℕ → ℕ → ℕ
opens header e past h o p = if is_shared header o then shared_opens header e h o p else plain_opens header e past h o p

one_place : (header : Header) (outside : Outside) (n : ℕ) (e : Event) (past : List Event) → Follows header outside n e past → CopyFromOne header past
    → IsCalmToWrite header past → AsksUndue header e past → (h o p : ℕ)
    → inner_weight header h o p (e ∷ past) + pays header e h o p ≤ inner_weight header h o p past + opens header e past h o p
one_place header outside n e past follows copies calm undue h o p = by (is_wild header o) refl (is_shared header o) refl
  where
    by : (wild : Bool) → is_wild header o ≡ wild → (shared : Bool) → is_shared header o ≡ shared
        → inner_weight header h o p (e ∷ past) + pays header e h o p ≤ inner_weight header h o p past + opens header e past h o p
    by true wild shared is = rw wild (omega arith)
    by false wild true is =
        let law = shared_law header outside n e past follows calm h o p is in
        let one : pays header e h o p ≡ shared_pays header e h o p = rw (wild, is) refl in
        let two : opens header e past h o p ≡ shared_opens header e h o p = rw is refl in
        omega (arith, law, one, two)
    by false wild false is =
        let law = plain_law header outside n h o p e past follows copies undue wild is in
        let one : pays header e h o p ≡ plain_pays e h o p = rw (wild, is) refl in
        let two : opens header e past h o p ≡ plain_opens header e past h o p = rw is refl in
        omega (arith, law, one, two)

-- The places that are summed.

range_law : (header : Header) (outside : Outside) (n : ℕ) (e : Event) (past : List Event) → Follows header outside n e past
    → places_sum (host_count header) (next_object header (e ∷ past)) (λ o. object_pages header o (e ∷ past)) (λ h o p. inner_weight header h o p past)
    ≤ inner_places header past
range_law header outside n (event.Shadowed region new old) past follows =
    shadowed_range header region new old past (host_count header) (λ h o p. inner_weight header h o p past) follows.licensed.0.next
    (λ h p. unmade_weight header outside h (next_object header past) p past follows.causes tame plain (omega arith))
  where
    tame : is_wild header (next_object header past) ≡ false
    tame = by (is_wild header (next_object header past)) refl
      where
        by : (b : Bool) → is_wild header (next_object header past) ≡ b → b ≡ false
        by true is = let small = wild_named header (next_object header past) is in let high = named_objects header past in absurd (omega (arith, small, high))
        by false is = refl

    plain : is_shared header (next_object header past) ≡ false
    plain = temporary_unshared header (next_object header past) (named_objects header past)
range_law header outside n (event.RegionMade region object pages) past follows = absurd follows.may.0
range_law header outside n (event.Delayed region source offset pages copy) past follows = absurd follows.may.0
range_law header outside n e past follows = omega arith

-- What they open.

abbrev sums : Header → Event → List Event → (ℕ → ℕ → ℕ → ℕ) → ℕ
sums header e past f = places_sum (host_count header) (next_object header (e ∷ past)) (λ o. object_pages header o (e ∷ past)) f

single : (hosts objects : ℕ) (pages : ℕ → ℕ) (h o p k : ℕ) (f : ℕ → ℕ → ℕ → ℕ) → ((i j q : ℕ) → f i j q ≤ weigh (is_at h o p i j q) k)
    → places_sum hosts objects pages f ≤ k
single hosts objects pages h o p k f each =
    let all = places_lower hosts objects pages f (λ i j q. weigh (is_at h o p i j q) k) each in
    let few = one_host hosts objects pages (Some h) (λ j q. o == j && p == q) k k (one_page objects pages o p k) in
    omega (arith, all, few)

-- a request to read opens its place for those who wait to write
request_opens : (header : Header) (host : HostId) (object : ObjectId) (page : PageNo) (access k : ℕ) (i j q : ℕ)
    → k ≡ (if is_shared header object.0 && not (access == 3) then turn_weight header else 0)
    → (if is_shared header j then (if host.0 == i && (object.0 == j && page.0 == q) then (if access == 3 then 0 else turn_weight header) else 0) else 0)
    ≤ weigh (is_at host.0 object.0 page.0 i j q) k
request_opens header host object page access k i j q is =
    by (host.0 == i) (object.0 == j) refl (page.0 == q) (is_shared header j) refl (is_shared header object.0) refl (access == 3) is
  where
    same : (a b : ℕ) → (a == b) ≡ true → a ≡ b
    same a b is = grind (arith, nat_tests)

    by : (a b : Bool) → (object.0 == j) ≡ b → (c s : Bool) → is_shared header j ≡ s → (t : Bool) → is_shared header object.0 ≡ t → (three : Bool)
        → k ≡ (if t && not three then turn_weight header else 0)
        → (if s then (if a && (b && c) then (if three then 0 else turn_weight header) else 0) else 0) ≤ weigh (a && (b && c)) k
    by true true at true true one true two true is = omega arith
    by true true at true true one true two false is = omega (arith, is)
    by true true at true true one false two three is =
        absurd (let bad : true ≡ false = sym one ∙ ap (λ (o : ℕ). is_shared header o) (sym (same object.0 j at)) ∙ two in cc)
    by true true at true false one t two three is = omega arith
    by true true at false true one t two three is = omega arith
    by true true at false false one t two three is = omega arith
    by true false at c true one t two three is = omega arith
    by true false at c false one t two three is = omega arith
    by false b at c true one t two three is = omega arith
    by false b at c false one t two three is = omega arith

opens_sum : (header : Header) (e : Event) (past : List Event) → IsInner e → sums header e past (opens header e past) ≤ place_gain header e past
opens_sum header (event.Sent (Up host object) (message.Request control page access)) past inner =
    single (host_count header) (next_object header past) (λ o. object_pages header o past) host.0 object.0 page.0
    (if is_shared header object.0 && not (access == 3) then turn_weight header else 0) _
    (λ i j q. request_opens header host object page access (if is_shared header object.0 && not (access == 3) then turn_weight header else 0) i j q refl)
opens_sum header (event.Line line) past inner = absurd inner
opens_sum header (event.Taken channel m) past inner = absurd inner
opens_sum header e past inner = opens_once header (host_count header) (next_object header (e ∷ past)) (λ o. object_pages header o (e ∷ past)) e past

-- Without what is paid.
unpaid : (header : Header) (outside : Outside) (n : ℕ) (e : Event) (past : List Event) → Follows header outside n e past → CopyFromOne header past
    → IsCalmToWrite header past → AsksUndue header e past
    → sums header e past (λ h o p. inner_weight header h o p past + opens header e past h o p) ≤ inner_places header past + place_gain header e past
unpaid header outside n e past follows copies calm undue =
    let both = places_both (host_count header) (next_object header (e ∷ past)) (λ o. object_pages header o (e ∷ past)) (λ h o p. inner_weight header h o p past)
    (opens header e past) in
    let range = range_law header outside n e past follows in
    let few = opens_sum header e past follows.inner in
    omega (arith, both, range, few)

less_one : (a b c : ℕ) → a + b ≤ c → a ≤ c
less_one a b c le = omega (arith, le)

-- where nothing is paid
place_free : (header : Header) (outside : Outside) (n : ℕ) (e : Event) (past : List Event) → Follows header outside n e past → CopyFromOne header past
    → IsCalmToWrite header past → AsksUndue header e past → inner_places header (e ∷ past) ≤ inner_places header past + place_gain header e past
place_free header outside n e past follows copies calm undue =
    let each = places_lower (host_count header) (next_object header (e ∷ past)) (λ o. object_pages header o (e ∷ past))
    (λ h o p. inner_weight header h o p (e ∷ past)) (λ h o p. inner_weight header h o p past + opens header e past h o p)
    (λ h o p. less_one (inner_weight header h o p (e ∷ past)) (pays header e h o p) (inner_weight header h o p past + opens header e past h o p)
    (one_place header outside n e past follows copies calm undue h o p)) in
    let rest = unpaid header outside n e past follows copies calm undue in
    omega (arith, each, rest)

-- where one place pays
place_paid : (header : Header) (outside : Outside) (n : ℕ) (host : HostId) (object : ObjectId) (page : PageNo) (m : Message) (past : List Event)
    → Follows header outside n (event.Sent (Up host object) m) past → CopyFromOne header past → IsCalmToWrite header past
    → AsksUndue header (event.Sent (Up host object) m) past → object.0 < next_object header past → page.0 < object_pages header object.0 past → (w : ℕ)
    → pays header (event.Sent (Up host object) m) host.0 object.0 page.0 ≡ w
    → inner_places header (event.Sent (Up host object) m ∷ past) + w ≤ inner_places header past + place_gain header (event.Sent (Up host object) m) past
place_paid header outside n host object page m past follows copies calm undue made inside w is =
    let e : Event = event.Sent (Up host object) m in
    let falls = place_falls (host_count header) (next_object header past) (λ o. object_pages header o past) (λ h o p. inner_weight header h o p (e ∷ past))
    (λ h o p. inner_weight header h o p past + opens header e past h o p) host.0 object.0 page.0 w
    (λ h o p. less_one (inner_weight header h o p (e ∷ past)) (pays header e h o p) (inner_weight header h o p past + opens header e past h o p)
    (one_place header outside n e past follows copies calm undue h o p)) follows.hosts.0 made inside
    (subst (λ (k : ℕ). inner_weight header host.0 object.0 page.0 (e ∷ past) + k ≤ inner_weight header host.0 object.0 page.0 past
    + opens header e past host.0 object.0 page.0) is (one_place header outside n e past follows copies calm undue host.0 object.0 page.0)) in
    let rest = unpaid header outside n e past follows copies calm undue in
    omega (arith, falls, rest)

-- Who asks, and where.

pub record IsAsked (header : Header) (object page : ℕ) (past : List Event) : Type 0 where
  pub tame : is_wild header object ≡ false
  pub made : object < next_object header past
  pub inside : page < object_pages header object past

asked_by : (header : Header) (outside : Outside) (task control host object page : ℕ) (access : Access) (past : List Event)
    → EachEvent (HasCause header outside) past → NoneWaitsOnWild header past → (waits : Waits header task access past)
    → Comes header host waits.at.entry.region.0 (page_of header task access past waits.at.entry) object page past
    → live_control host object past ≡ Some control → IsAsked header object page past
asked_by header outside task control host object page access past causes tame waits comes live =
    record {
      tame = by (is_wild header object) refl;
      made = made;
      inside = comes_inside header task _ host object page past (extents header outside past causes) waits.at comes;
    }
  where
    made : object < next_object header past
    made = elim (cases_lt object (next_object header past)) [
      | inl below ↦ below
      | inr above ↦
          let none = (only_made header outside past causes).controls host object above in
          let bad : ◌≡◌ {A = Option ℕ} None (Some control) = sym none ∙ live in
          absurd (cc)
    ]

    no_file : is_wild header object ≡ true → (b : Bool) → is_file header object ≡ b → b ≡ false
    no_file wild true file =
        let paged : is_paged header object ≡ true = either (not (nat_lt object (named header))) (is_file header object) file in
        let bad : true ≡ false = sym wild ∙ paged_tame header object paged in
        absurd (cc)
      where
        either : (a b : Bool) → b ≡ true → (a || b) ≡ true
        either true b is = refl
        either false b is = is
    no_file wild false file = refl

    by : (b : Bool) → is_wild header object ≡ b → b ≡ false
    by false wild = refl
    by true wild =
        let num = numbering header outside past causes in
        let own = comes_own header past host waits.at.entry.region.0 (page_of header task access past waits.at.entry) object page num (wild_named header object wild)
        (no_file wild (is_file header object) refl) (at_made header task _ past num.made waits.at) comes in
        let none : is_wild header object ≡ false = subst (λ (k : ℕ). is_wild header k ≡ false) own.own.region (tame task access waits) in
        let bad : true ≡ false = sym wild ∙ none in
        absurd (cc)

itself : (n : ℕ) → (n == n) ≡ true
itself n = grind (arith, nat_tests)

-- what is paid at the place itself
own_pays : (header : Header) (host : HostId) (object : ObjectId) (page : PageNo) → is_wild header object.0 ≡ false → (shared : Bool)
    → is_shared header object.0 ≡ shared → (one other : ℕ)
    → (if is_wild header object.0 then 0 else if is_shared header object.0
    then (if host.0 == host.0 && (object.0 == object.0 && page.0 == page.0) then one else 0)
    else (if host.0 == host.0 && (object.0 == object.0 && page.0 == page.0) then other else 0)) ≡ (if shared then one else other)
own_pays header host object page tame true is one other = rw (tame, is, itself host.0, itself object.0, itself page.0) refl
own_pays header host object page tame false is one other = rw (tame, is, itself host.0, itself object.0, itself page.0) refl

-- a page that is due and asked for again
asks_due : (header : Header) (outside : Outside) (n : ℕ) (host : HostId) (object : ObjectId) (page : PageNo) (control access : ℕ) (past : List Event)
    → Follows header outside n (event.Sent (Up host object) (message.Request control page access)) past → is_wild header object.0 ≡ false
    → is_due header host.0 object.0 page.0 (absence_taken header past) past ≡ true
    → IsDoomed header (event.Sent (Up host object) (message.Request control page access) ∷ past)
asks_due header outside n host object page control access past follows tame due = by (absence_taken header past) refl due
  where
    now : List Event
    now = event.Sent (Up host object) (message.Request control page access) ∷ past

    live : is_control control (live_control host.0 object.0 past) ≡ true
    live = ap (is_control control) follows.licensed.0.live ∙ itself control

    asked : (page_on header host.0 object.0 page.0 now).asked ≡ true
    asked = on (host.0 == host.0) (object.0 == object.0) (page.0 == page.0) (is_control control (live_control host.0 object.0 past)) (itself host.0)
        (itself object.0) (itself page.0) live
      where
        on : (a b c d : Bool) → a ≡ true → b ≡ true → c ≡ true → d ≡ true
            → (local_after header.size (if a && b then (if c && d then Asks else Elsewhere) else Elsewhere) (page_on header host.0 object.0 page.0 past)).asked ≡ true
        on true true true true one two three four = refl
        on false b c d one two three four = absurd (let bad : false ≡ true = one in cc)
        on true false c d one two three four = absurd (let bad : false ≡ true = two in cc)
        on true true false d one two three four = absurd (let bad : false ≡ true = three in cc)
        on true true true false one two three four = absurd (let bad : false ≡ true = four in cc)

    parts : (a b c d e : Bool) → ((a && (b && c)) && (d && not e)) ≡ true
        → (a ≡ true) × (b ≡ true) × (c ≡ true) × (d ≡ true) × (e ≡ false)
    parts true true true true false is = (refl, refl, refl, refl, refl)
    parts true true true true true is = absurd (let bad : false ≡ true = is in cc)
    parts true true true false e is = absurd (let bad : false ≡ true = is in cc)
    parts true true false d e is = absurd (let bad : false ≡ true = is in cc)
    parts true false c d e is = absurd (let bad : false ≡ true = is in cc)
    parts false b c d e is = absurd (let bad : false ≡ true = is in cc)

    same : (a b : ℕ) → (a == b) ≡ true → a ≡ b
    same a b is = grind (arith, nat_tests)

    by : (x : Option Asked) → absence_taken header past ≡ x → is_due header host.0 object.0 page.0 x past ≡ true → IsDoomed header now
    by None is due = absurd (let bad : false ≡ true = due in cc)
    by (Some it) is due =
        let all = parts (it.host == host.0) (it.object == object.0) (it.page == page.0) (nat_lt object.0 (named header)) (since (zeroes object.0 page.0) past) due in
        record {
          host = host.0;
          object = object.0;
          page = page.0;
          void = is ∙ named_so it (same it.host host.0 all.0) (same it.object object.0 all.1) (same it.page page.0 all.2);
          declared = grind (arith, nat_tests, all.3);
          supplied = tame;
          unzeroed = all.4;
          asked = asked;
        }
      where
        named_so : (it : Asked) → it.host ≡ host.0 → it.object ≡ object.0 → it.page ≡ page.0
            → Some it ≡ Some (record { host = host.0; object = object.0; page = page.0 })
        named_so it one two three =
            subst (λ (a : ℕ). Some it ≡ Some (record { host = a; object = object.0; page = page.0 })) one
            (subst (λ (b : ℕ). Some it ≡ Some (record { host = it.host; object = b; page = page.0 })) two
            (subst (λ (c : ℕ). Some it ≡ Some (record { host = it.host; object = it.object; page = c })) three refl))

-- what is neither shared nor wild is temporary or a file's
plain_kind : (header : Header) (o : ℕ) → NoneIsTemporary header → is_wild header o ≡ false → is_shared header o ≡ false → IsPlain header o
plain_kind header o kinds tame plain = by (nat_lt o (named header)) refl (declared header o) refl
  where
    no_temp : (kind : ObjectKind) → is_wild_kind kind ≡ false → is_shared_kind kind ≡ false → kind ≢ Temp → is_file_kind kind ≡ true
    no_temp Temp wild shared other = absurd (other refl)
    no_temp File wild shared other = refl
    no_temp Shared wild shared other = absurd (let bad : true ≡ false = shared in cc)
    no_temp Wild wild shared other = absurd (let bad : true ≡ false = wild in cc)

    kept : (row : Option Declared) → is_wild_kind (kind_in row) ≡ false → is_shared_kind (kind_in row) ≡ false → kind_in row ≢ Temp → is_file_kept row ≡ true
    kept None wild shared other = absurd (other refl)
    kept (Some object) wild shared other = no_temp object.kind wild shared other

    by : (b : Bool) → nat_lt o (named header) ≡ b → (row : Option Declared) → declared header o ≡ row → IsPlain header o
    by false above row is = inl (grind (arith, nat_tests))
    by true below row is =
        let kind : kind_of header o ≡ kind_in row = rw (below, is) refl in
        let file : is_file_kept row ≡ true = kept row (ap is_wild_kind (sym kind) ∙ tame) (ap is_shared_kind (sym kind) ∙ plain)
        (λ temp. kinds o (grind (arith, nat_tests)) (kind ∙ temp)) in
        inr (rw (below, is) file)

-- The law of all places.

request_law : (header : Header) (outside : Outside) (n : ℕ) (host : HostId) (object : ObjectId) (page : PageNo) (control access : ℕ) (past : List Event)
    → Follows header outside n (event.Sent (Up host object) (message.Request control page access)) past → CopyFromOne header past
    → IsCalmToWrite header past → (shared : Bool) → is_shared header object.0 ≡ shared
    → IsDoomed header (event.Sent (Up host object) (message.Request control page access) ∷ past)
    ⊎ (inner_places header (event.Sent (Up host object) (message.Request control page access) ∷ past) + (if shared then (if access == 3 then turn_weight header
    else 0) else 2) ≤ inner_places header past + place_gain header (event.Sent (Up host object) (message.Request control page access)) past)
request_law header outside n host object page control access past follows copies calm shared is =
    by shared is (is_due header host.0 object.0 page.0 (absence_taken header past) past) refl
  where
    c : MayAsk header host.0 control object.0 page.0 access past
    c = follows.licensed.0

    asked : IsAsked header object.0 page.0 past
    asked = asked_by header outside c.task control host.0 object.0 page.0 c.access past follows.causes follows.going.tame c.waits c.comes c.live

    m : Message
    m = message.Request control page access

    pay : (w : ℕ) → (shared : Bool) → is_shared header object.0 ≡ shared → (if shared then (if access == 3 then turn_weight header else 0) else 2) ≡ w
        → pays header (event.Sent (Up host object) m) host.0 object.0 page.0 ≡ w
    pay w shared is same = own_pays header host object page asked.tame shared is (if access == 3 then turn_weight header else 0) 2 ∙ same

    by : (shared : Bool) → is_shared header object.0 ≡ shared → (due : Bool) → is_due header host.0 object.0 page.0 (absence_taken header past) past ≡ due
        → IsDoomed header (event.Sent (Up host object) m ∷ past)
        ⊎ (inner_places header (event.Sent (Up host object) m ∷ past) + (if shared then (if access == 3 then turn_weight header else 0) else 2)
        ≤ inner_places header past + place_gain header (event.Sent (Up host object) m) past)
    by true is due late =
        inr (place_paid header outside n host object page m past follows copies calm (λ plain. absurd (let bad : true ≡ false = sym is ∙ plain in cc)) asked.made
        asked.inside (if access == 3 then turn_weight header else 0) (pay (if access == 3 then turn_weight header else 0) true is refl))
    by false is true late = inl (asks_due header outside n host object page control access past follows asked.tame late)
    by false is false late =
        inr (place_paid header outside n host object page m past follows copies calm (λ plain. late) asked.made asked.inside 2 (pay 2 false is refl))

-- no page that isn't shared is to be unlocked
unlock_shared : (header : Header) (outside : Outside) (n : ℕ) (host : HostId) (object : ObjectId) (page : PageNo) (control access : ℕ) (past : List Event)
    → NoneIsTemporary header → Follows header outside n (event.Sent (Up host object) (message.Unlock control page access)) past
    → is_wild header object.0 ≡ false → is_shared header object.0 ≡ true
unlock_shared header outside n host object page control access past kinds follows tame = by (is_shared header object.0) refl
  where
    unnamed : (lock : ℕ) (store : Bool) → lock ≡ 0 → names lock store ≡ true → ⊥
    unnamed lock true none named = let bad : false ≡ true = subst (λ (k : ℕ). names k true ≡ true) none named in cc
    unnamed lock false none named = let bad : false ≡ true = subst (λ (k : ℕ). names k false ≡ true) none named in cc

    by : (b : Bool) → is_shared header object.0 ≡ b → b ≡ true
    by true is = refl
    by false is =
        absurd (unnamed (page_on header host.0 object.0 page.0 past).lock (is_store follows.licensed.0.access)
        (unlocked_plain header outside host.0 object.0 page.0 past follows.causes (plain_kind header object.0 kinds tame is)) follows.licensed.0.named)

unlock_law : (header : Header) (outside : Outside) (n : ℕ) (host : HostId) (object : ObjectId) (page : PageNo) (control access : ℕ) (past : List Event)
    → NoneIsTemporary header → Follows header outside n (event.Sent (Up host object) (message.Unlock control page access)) past → CopyFromOne header past
    → IsCalmToWrite header past
    → inner_places header (event.Sent (Up host object) (message.Unlock control page access) ∷ past) + turn_weight header ≤ inner_places header past + 0
unlock_law header outside n host object page control access past kinds follows copies calm =
    let c = follows.licensed.0 in
    let asked = asked_by header outside c.task control host.0 object.0 page.0 c.access past follows.causes follows.going.tame c.waits c.comes c.live in
    let shared = unlock_shared header outside n host object page control access past kinds follows asked.tame in
    place_paid header outside n host object page (message.Unlock control page access) past follows copies calm tt asked.made asked.inside (turn_weight header)
    (own asked.tame shared)
  where
    own : is_wild header object.0 ≡ false → is_shared header object.0 ≡ true
        → pays header (event.Sent (Up host object) (message.Unlock control page access)) host.0 object.0 page.0 ≡ turn_weight header
    own tame shared = rw (tame, shared, itself host.0, itself object.0, itself page.0) refl

nothing_paid : (a b : ℕ) → a ≤ b → a + 0 ≤ b
nothing_paid a b le = omega (arith, le)

pub place_law : (header : Header) (outside : Outside) (n : ℕ) (e : Event) (past : List Event) → NoneIsTemporary header → Follows header outside n e past
    → CopyFromOne header past → IsCalmToWrite header past
    → IsDoomed header (e ∷ past) ⊎ (inner_places header (e ∷ past) + place_relief header e ≤ inner_places header past + place_gain header e past)
place_law header outside n (event.Sent (Up host object) (message.Request control page access)) past kinds follows copies calm =
    request_law header outside n host object page control access past follows copies calm (is_shared header object.0) refl
place_law header outside n (event.Sent (Up host object) (message.Unlock control page access)) past kinds follows copies calm =
    inr (unlock_law header outside n host object page control access past kinds follows copies calm)
place_law header outside n e past kinds follows copies calm =
    inr (nothing_paid (inner_places header (e ∷ past)) (inner_places header past + place_gain header e past)
    (place_free header outside n e past follows copies calm tt))

-- Behind a taking.
taken_place : (header : Header) (outside : Outside) (n : ℕ) (channel : Channel) (m : Message) (past : List Event)
    → Licensed header outside (command.Settle n) (event.Taken channel m) past → Rests header outside past → (h o p : ℕ)
    → inner_weight header h o p (event.Taken channel m ∷ past)
    ≤ place_weight header h o p past + taken_opens (error_taken header (event.Taken channel m ∷ past)) h o p
taken_place header outside n channel m past licensed rests h o p = by (is_wild header o) refl (is_shared header o) refl
  where
    by : (wild : Bool) → is_wild header o ≡ wild → (shared : Bool) → is_shared header o ≡ shared
        → inner_weight header h o p (event.Taken channel m ∷ past)
        ≤ place_weight header h o p past + taken_opens (error_taken header (event.Taken channel m ∷ past)) h o p
    by true wild shared is = rw wild (omega arith)
    by false wild true is = let law = shared_taken header outside n channel m past licensed rests h o p is in omega (arith, law)
    by false wild false is = plain_taken header h o p channel m past wild is

pub places_taken : (header : Header) (outside : Outside) (n : ℕ) (channel : Channel) (m : Message) (past : List Event)
    → Licensed header outside (command.Settle n) (event.Taken channel m) past → Rests header outside past
    → inner_places header (event.Taken channel m ∷ past) ≤ places header past + debt header (event.Taken channel m ∷ past)
places_taken header outside n channel m past licensed rests =
    let each = places_lower (host_count header) (next_object header past) (λ o. object_pages header o past)
    (λ h o p. inner_weight header h o p (event.Taken channel m ∷ past))
    (λ h o p. place_weight header h o p past + taken_opens (error_taken header (event.Taken channel m ∷ past)) h o p)
    (taken_place header outside n channel m past licensed rests) in
    let both = places_both (host_count header) (next_object header past) (λ o. object_pages header o past) (λ h o p. place_weight header h o p past)
    (taken_opens (error_taken header (event.Taken channel m ∷ past))) in
    let once = owed_once (error_taken header (event.Taken channel m ∷ past)) in
    omega (arith, each, both, once)
  where
    owed_once : (x : Option Asked)
        → places_sum (host_count header) (next_object header past) (λ o. object_pages header o past) (λ h o p. taken_opens x h o p)
        ≤ error_debt_of x (event.Taken channel m ∷ past)
    owed_once None = places_none (host_count header) (next_object header past) (λ o. object_pages header o past) (λ h o p. 0) (λ h o p. omega arith)
    owed_once (Some asked) =
        let two = taken_once (host_count header) (next_object header past) (λ o. object_pages header o past) (Some asked) in omega (arith, two)
