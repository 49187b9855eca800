-- Nothing of a file is asked, or here, or returned that lies past the object's pages.
use Rattle.std.proofs.Common.{ℕ, ◌≡◌, ◌+◌, ◌<◌, ◌≤◌, inl, inr, List, [], ◌∷◌, Bool, true, false, Some, None, refl, sym, ap, subst, ◌∙◌, arith}
use Rattle.std.proofs.Common.{if◌then◌else◌}
use Rattle.std.proofs.lemmas.Bool.Decides.{nat_tests}
use Rattle.std.specs.Prelude.{◌==◌, ◌&&◌}
use Rattle.vm_base.specs.declared.ids.HostId.{HostId}
use Rattle.vm_base.specs.declared.ids.ObjectId.{ObjectId}
use Rattle.vm_model.specs.declared.event.Event.{Event}
use Rattle.vm_model.specs.declared.event.Event.TheVariants as event
use Rattle.vm_model.specs.declared.message.Channel.TheVariants.{Down, Up}
use Rattle.vm_model.specs.declared.message.Message.{Message}
use Rattle.vm_model.specs.declared.message.Message.TheVariants as message
use Rattle.vm_model.specs.declared.script.Header.{Header}
use Rattle.vm_model.specs.Moments.{EachEvent}
use Rattle.vm_model.specs.Named.{declared_pages}
use Rattle.vm_model.specs.Regions.{object_pages, region_of}
use Rattle.vm_model.specs.Server.{first}
use Rattle.vm_model.specs.Side.{rest}
use Rattle.vm_legal.specs.Accesses.{page_of}
use Rattle.vm_legal.specs.Bytes.{CopiesCurrent}
use Rattle.vm_legal.specs.Licences.{Asks, HasCause}
use Rattle.vm_legal.specs.Outside.{Outside, is_file as declared_file}
use Rattle.vm_legal.specs.Pagers.{last_return, newer}
use Rattle.vm_legal.specs.Walks.{sight}
use Rattle.vm_flat.specs.Spot.{Spot, spot_after}
use Rattle.vm_flat.specs.Words.{Requesting, Returning, SpotUpWord, SpotDownWord, Supplying, Unavailing, Erring, SpotEffect, Creates, Requests, Returns}
use Rattle.vm_flat.specs.Words.{TakesRequest, TakesReturn, Answers, Takes, Zeroes, Raises, Stores, Drops, Moves, Ends, StepEnds, Nothing}
use Rattle.vm_legal.proofs.Files.{file_named}
use Rattle.vm_flat.proofs.Causes.{Cause, Ours, Pushes}
use Rattle.vm_flat.proofs.Covered.{covered_file, file_declared}
use Rattle.vm_flat.proofs.Fits.{walk_inside}
use Rattle.vm_flat.proofs.Classes.{deed, deeds, ground}
use Rattle.vm_flat.proofs.Deeds.{Ground, Deed, Line, Zeroed, Raised, Stored, Dropped, Created, Asked, Copied, Returned, TookRequest, TookReturn, Answered, Took}
use Rattle.vm_flat.proofs.Deeds.{Merged, Terminated, covered, is_file, spot}
use Rattle.vm_flat.proofs.Caused.{cause}
use Rattle.vm_flat.proofs.File.{file_is}
use Rattle.vm_flat.proofs.Holds.{Holds, led}
use Rattle.vm_flat.proofs.Law.{holds}
use Rattle.vm_flat.proofs.Merges.{of_other}
use Rattle.vm_flat.proofs.Queues.{returns}
use Rattle.vm_flat.proofs.Translation.{sustained}
use Rattle.vm_flat.proofs.Using.{by_cause}
use Rattle.vm_flat.proofs.World.{World, each_object, each_place, sinks_passed}

-- a place of which nothing was ever asked
pub record Bare (s : Spot) : Type 0 where
  pub away : s.here ≡ false
  pub unasked : s.asked ≡ false
  pub known : s.void ≡ false
  pub none : returns s.up ≡ 0

no_return : {A : Type 0} (q : List SpotUpWord) (bytes : List ℕ) → first q ≡ Some (Returning bytes) → returns q ≡ 0 → A
no_return [] bytes is none = absurd (cc)
no_return (Requesting ∷ q) bytes is none = absurd (let bad : Some Requesting ≡ Some (Returning bytes) = is in cc)
no_return (Returning b ∷ q) bytes is none = absurd (omega (arith, none))

none_behind : (q : List SpotUpWord) → returns q ≡ 0 → returns (rest q) ≡ 0
none_behind [] none = refl
none_behind (Requesting ∷ q) none = none
none_behind (Returning b ∷ q) none = absurd (omega (arith, none))

clash : {A : Type 0} (b : Bool) → b ≡ false → b ≡ true → A
clash b isnt is = absurd (cc)

unheard : (s : Spot) → s.asked ≡ false → (s.control == 1 && s.asked) ≡ false
unheard s un = rw un (either (s.control == 1))
  where
    either : (b : Bool) → (b && false) ≡ false
    either true = refl
    either false = refl

bare_taken : (z : List ℕ) (s : Spot) (w : SpotDownWord) → Bare s → Bare (spot_after z s (Takes w))
bare_taken z s (Supplying bytes) b = let no = unheard s b.unasked in rw no (record { away = b.away; unasked = b.unasked; known = refl; none = b.none })
bare_taken z s Unavailing b = let no = unheard s b.unasked in rw no (record { away = b.away; unasked = b.unasked; known = refl; none = b.none })
bare_taken z s Erring b = let no = unheard s b.unasked in rw no (record { away = b.away; unasked = b.unasked; known = refl; none = b.none })

-- what an effect needs there
abbrev FileMay : List ℕ → Spot → SpotEffect → Type 0
FileMay z s (Requests lives) = ⊥
FileMay z s (Returns keep bytes) = s.here ≡ true
FileMay z s (TakesReturn bytes) = first s.up ≡ Some (Returning bytes)
FileMay z s Zeroes = s.void ≡ true
FileMay z s (Raises bytes) = ⊥
FileMay z s (Stores at bytes) = s.here ≡ true
FileMay z s (Moves bytes dirty) = ⊥
FileMay z s other = Unit {0}

told_void : (tells : Bool) (was : Bool) → was ≡ false → (if tells then false else was) ≡ false
told_void true was is = refl
told_void false was is = is

bare_after : (z : List ℕ) (s : Spot) (e : SpotEffect) → FileMay z s e → Bare s → Bare (spot_after z s e)
bare_after z s Creates may b = record { away = b.away; unasked = refl; known = b.known; none = b.none }
bare_after z s (Requests lives) may b = absurd may
bare_after z s (Returns keep bytes) may b = clash s.here b.away may
bare_after z s TakesRequest may b = record { away = b.away; unasked = b.unasked; known = refl; none = none_behind s.up b.none }
bare_after z s (TakesReturn bytes) may b = no_return s.up bytes may b.none
bare_after z s (Answers tells word) may b = record { away = b.away; unasked = b.unasked; known = told_void tells s.void b.known; none = b.none }
bare_after z s (Takes word) may b = bare_taken z s word b
bare_after z s Zeroes may b = clash s.void b.known may
bare_after z s (Raises bytes) may b = absurd may
bare_after z s (Stores at bytes) may b = clash s.here b.away may
bare_after z s Drops may b = record { away = refl; unasked = b.unasked; known = b.known; none = b.none }
bare_after z s (Moves bytes dirty) may b = absurd may
bare_after z s Ends may b = record { away = b.away; unasked = refl; known = b.known; none = b.none }
bare_after z s StepEnds may b = record { away = b.away; unasked = b.unasked; known = refl; none = b.none }
bare_after z s Nothing may b = b

-- by deeds

abbrev After : Ground → List Deed → ℕ → ℕ → SpotEffect → Type 0
After z past o p e = is_file z o ≡ true → z.length o ≤ p → Bare (spot z o p past) → Bare (spot_after z.zeros (spot z o p past) e)

rest_same : (z : Ground) (past : List Deed) (o p : ℕ) → After z past o p Nothing
rest_same z past o p file past_end b = b

rest_step : (z : Ground) (past : List Deed) (o p : ℕ) → After z past o p StepEnds
rest_step z past o p file past_end b = bare_after z.zeros (spot z o p past) StepEnds tt b

-- a request is for a page of the object
abbrev AsksInside : Ground → Deed → Type 0
AsksInside z (Asked own lives object page) = own ≡ true → is_file z object ≡ true → page < z.length object
AsksInside z other = Unit {0}

ours : (z : Ground) (own : Bool) (o : ℕ) (past : List Deed) → own ≡ true → is_file z o ≡ true → Ours z own o past
ours z own o past is file = record { on_host = is; covered = covered_file z o past file }

-- what a store pushes comes into a copy, and no copy is a file
pushed_never : {A : Type 0} (z : Ground) (lower lower_page upper upper_page : ℕ) (past : List Deed) → World z past
    → Pushes z lower lower_page upper upper_page past → is_file z upper ≡ true → A
pushed_never z lower lower_page upper upper_page past w pushes file =
    absurd (omega (arith, (w.stems.sources upper lower (w.stems.newest_is lower upper pushes.newest).source).late, file_declared z upper file))

plain_never : {A : Type 0} (z : Ground) (o p : ℕ) (past : List Deed) → is_file z o ≡ true → (spot z o p past).file ≡ false → A
plain_never z o p past file plain = clash (spot z o p past).file plain (file_is z o p past ∙ file)

bare_next : (z : Ground) (o p : ℕ) (d : Deed) (past : List Deed) → World z past → Cause z d past → AsksInside z d → is_file z o ≡ true → z.length o ≤ p
    → Bare (spot z o p past) → Bare (spot z o p (d ∷ past))
bare_next z o p Line past w c i file past_end b = rest_step z past o p file past_end b
bare_next z o p (Zeroed own object page) past w c i file past_end b =
    each_place (After z past) object page own Zeroes Nothing
    (λ is f e was. elim (c (ours z own object past is f)) [
      | inl void ↦ bare_after z.zeros (spot z object page past) Zeroes void.1.void was
      | inr bottoms ↦ plain_never z object page past f (sinks_passed z bottoms.steps object page past bottoms.sinks).plain
    ])
    (rest_same z past) o p file past_end b
bare_next z o p (Raised own lower lower_page upper upper_page) past w c i file past_end b =
    each_place (After z past) upper upper_page own (Raises (spot z lower lower_page past).bytes) Nothing
    (λ is f e was. elim (c (ours z own upper past is f)) [
      | inl finds ↦ plain_never z upper upper_page past f finds.walks.0.plain
      | inr pushes ↦ pushed_never z lower lower_page upper upper_page past w pushes f
    ])
    (rest_same z past) o p file past_end b
bare_next z o p (Stored own region index object page at bytes) past w c i file past_end b =
    each_place (After z past) object page own (Stores at bytes) Nothing
    (λ is f e was. elim c [
      | inl there ↦ bare_after z.zeros (spot z object page past) (Stores at bytes) there.1.here was
      | inr away ↦ clash (covered z object past) (away.apart is) (covered_file z object past f)
    ])
    (rest_same z past) o p file past_end b
bare_next z o p (Copied own source index object page region j upper upper_page) past w c i file past_end b =
    each_place (After z past) upper upper_page own (Raises (spot z object page past).bytes) Nothing
    (λ is f e was. elim c [
      | inl there ↦ plain_never z upper upper_page past f there.1.plain
      | inr away ↦ clash (covered z upper past) (away.apart is) (covered_file z upper past f)
    ])
    (rest_same z past) o p file past_end b
bare_next z o p (Dropped own object page) past w c i file past_end b =
    each_place (After z past) object page own Drops Nothing (λ is f e was. bare_after z.zeros (spot z object page past) Drops tt was) (rest_same z past) o p
    file past_end b
bare_next z o p (Created own object) past w c i file past_end b =
    each_object (After z past) object own Creates Nothing (λ is q f e was. bare_after z.zeros (spot z object q past) Creates tt was)
    (rest_same z past) o p file
    past_end b
bare_next z o p (Asked own lives object page) past w c i file past_end b =
    each_place (After z past) object page own (Requests lives) Nothing (λ is f e was. absurd (let inside = i is f in omega (arith, inside, e)))
    (rest_same z past) o p file past_end b
bare_next z o p (Returned own object page keep bytes) past w c i file past_end b =
    each_place (After z past) object page own (Returns keep bytes) Nothing (λ is f e was. let may = c (ours z own object past is f) in bare_after z.zeros
    (spot z object page past) (Returns keep bytes) may.1 was) (rest_same z past) o p file past_end b
bare_next z o p (TookRequest own object page) past w c i file past_end b =
    each_place (After z past) object page own TakesRequest StepEnds (λ is f e was. bare_after z.zeros (spot z object page past) TakesRequest tt was)
    (rest_step z past) o p file past_end b
bare_next z o p (TookReturn own object page bytes) past w c i file past_end b =
    each_place (After z past) object page own (TakesReturn bytes) StepEnds (λ is f e was. bare_after z.zeros (spot z object page past) (TakesReturn bytes)
    (c (ours z own object past is f)) was) (rest_step z past) o p file past_end b
bare_next z o p (Answered own tells object page word) past w c i file past_end b =
    each_place (After z past) object page own (Answers tells word) Nothing (λ is f e was. bare_after z.zeros (spot z object page past) (Answers tells word) tt
    was) (rest_same z past) o p file past_end b
bare_next z o p (Took own object page word) past w c i file past_end b =
    each_place (After z past) object page own (Takes word) StepEnds (λ is f e was. bare_after z.zeros (spot z object page past) (Takes word) tt was)
    (rest_step z past) o p file past_end b
bare_next z o p (Terminated own object) past w c i file past_end b =
    each_object (After z past) object own Ends Nothing (λ is q f e was. bare_after z.zeros (spot z object q past) Ends tt was) (rest_same z past) o p file
    past_end b
bare_next z o p (Merged true upper lower shift upper_pages lower_pages) past w c i file past_end b =
    subst (λ (e : SpotEffect). Bare (spot_after z.zeros (spot z o p past) e))
    (sym (of_other o p upper lower shift upper_pages lower_pages (spot z o p past) (spot z lower (shift + p) past)
    (λ e. clash (is_file z o) (ap (λ k. is_file z k) e ∙ c.upper_plain) file) (λ e. clash (is_file z o) (ap (λ k. is_file z k) e ∙ c.lower_plain) file))) b
bare_next z o p d past w c i file past_end b = b

bare_start : (z : Ground) (o p : ℕ) → Bare (spot z o p [])
bare_start z o p = record { away = refl; unasked = refl; known = refl; none = refl }

-- what is asked of a file is a page of the object

asks_inside : (header : Header) (outside : Outside) (host control object page wanted : ℕ) (past : List Event) → Holds header outside past
    → declared_file header object ≡ true → Asks header host control object page wanted past → page < declared_pages header object
asks_inside header outside host control object page wanted past h file c =
    let r : ℕ = c.waits.at.entry.region.0 in
    let i : ℕ = page_of header c.task c.access past c.waits.at.entry in
    let row = led header outside c.task _ past h.entries c.waits.at in
    let inside : i < (region_of header r past).pages = row.is.inside.each _ row.from row.below in
    let at : (region_of header r past).shift + i < object_pages header (region_of header r past).top past = h.fits.tops r i row.is.made inside in
    let top : c.comes.top_page < object_pages header c.comes.top past = subst (λ (k : ℕ). c.comes.top_page < object_pages header k past)
    c.comes.is_top.object (omega (arith, at, c.comes.is_top.page)) in
    let end : page < object_pages header object past = walk_inside header (λ k q. sight header host k q past) past h.fits c.comes.steps c.comes.top
    c.comes.top_page object page top c.comes.walks in
    subst (λ (n : ℕ). page < n) (h.fits.declared object (file_named header object file)) end

asks_deed : (header : Header) (outside : Outside) (host : ℕ) (e : Event) (past : List Event) → EachEvent (HasCause header outside) past
    → Holds header outside past → HasCause header outside e past → AsksInside (ground header outside) (deed header outside host e past)
asks_deed header outside host (event.Sent (Up at object) (message.Request control page access)) past caused h c = λ is file.
    by_cause header outside (event.Sent (Up at object) (message.Request control page access)) past c
    (λ doing asks. asks_inside header outside at.0 control object.0 page.0 access past h file asks)
asks_deed header outside host (event.Sent (Up at object) (message.Init control size)) past caused h c = tt
asks_deed header outside host (event.Sent (Up at object) (message.Create control size)) past caused h c = tt
asks_deed header outside host (event.Sent (Up at object) (message.Return control page dirty keep bytes)) past caused h c = tt
asks_deed header outside host (event.Sent (Up at object) (message.Terminate control)) past caused h c = tt
asks_deed header outside host (event.Sent (Up at object) m) past caused h c = tt
asks_deed header outside host (event.Sent (Down at object control) (message.Supply page lock precious bytes)) past caused h c = tt
asks_deed header outside host (event.Sent (Down at object control) (message.Unavailable page)) past caused h c = tt
asks_deed header outside host (event.Sent (Down at object control) (message.Error page reason)) past caused h c = tt
asks_deed header outside host (event.Sent (Down at object control) m) past caused h c = tt
asks_deed header outside host (event.Taken (Up at object) (message.Request control page access)) past caused h c = tt
asks_deed header outside host (event.Taken (Up at object) (message.Return control page dirty keep bytes)) past caused h c = tt
asks_deed header outside host (event.Taken (Up at object) m) past caused h c = tt
asks_deed header outside host (event.Taken (Down at object control) (message.Supply page lock precious bytes)) past caused h c = tt
asks_deed header outside host (event.Taken (Down at object control) (message.Unavailable page)) past caused h c = tt
asks_deed header outside host (event.Taken (Down at object control) (message.Error page reason)) past caused h c = tt
asks_deed header outside host (event.Taken (Down at object control) m) past caused h c = tt
asks_deed header outside host e past caused h c = tt

-- along a history

-- a return that is taken is of a page of the object
takes_none : (header : Header) (outside : Outside) (host o p : ℕ) (at : HostId) (object : ObjectId) (m : Message) (past : List Event)
    → declared_file header o ≡ true → Cause (ground header outside) (deed header outside host (event.Taken (Up at object) m) past)
    (deeds header outside host past)
    → Bare (spot (ground header outside) o p (deeds header outside host past)) → last_return host o p past ≡ None
    → last_return host o p (event.Taken (Up at object) m ∷ past) ≡ None
takes_none header outside host o p at object (message.Return control page dirty keep bytes) past file c b none =
    by (at.0 == host && object.0 == o) (page.0 == p) refl refl
  where
    never : (at.0 == host && object.0 == o) ≡ true → (page.0 == p) ≡ true → ⊥
    never here same =
        let own : (at.0 == host) ≡ true = grind arith in
        let object_is : object.0 ≡ o = grind (arith, nat_tests) in
        let page_is : page.0 ≡ p = grind (arith, nat_tests) in
        let may : first (spot (ground header outside) object.0 page.0 (deeds header outside host past)).up ≡ Some (Returning bytes) = c
        (ours (ground header outside) (at.0 == host) object.0 (deeds header outside host past) own (subst (λ (k : ℕ). declared_file header k ≡ true)
        (sym object_is) file)) in
        let there : first (spot (ground header outside) o p (deeds header outside host past)).up ≡ Some (Returning bytes) =
        subst (λ (k : ℕ). first (spot (ground header outside) k p (deeds header outside host past)).up ≡ Some (Returning bytes)) object_is
        (subst (λ (q : ℕ). first (spot (ground header outside) object.0 q (deeds header outside host past)).up ≡ Some (Returning bytes)) page_is may) in
        no_return (spot (ground header outside) o p (deeds header outside host past)).up bytes there b.none

    by : (a d : Bool) → (at.0 == host && object.0 == o) ≡ a → (page.0 == p) ≡ d
        → (if a then newer (if d then Some bytes else None) (last_return host o p past) else last_return host o p past) ≡ None
    by true true here same = absurd (never here same)
    by true false here same = none
    by false d here same = none
takes_none header outside host o p at object other past file c b none = by (at.0 == host && object.0 == o)
  where
    by : (a : Bool) → (if a then last_return host o p past else last_return host o p past) ≡ None
    by true = none
    by false = none

pub record Beyond (header : Header) (outside : Outside) (host o p : ℕ) (past : List Event) : Type 0 where
  pub bare : Bare (spot (ground header outside) o p (deeds header outside host past))
  pub none : last_return host o p past ≡ None

none_next : (header : Header) (outside : Outside) (host o p : ℕ) (e : Event) (past : List Event) → declared_file header o ≡ true
    → Cause (ground header outside) (deed header outside host e past) (deeds header outside host past)
    → Bare (spot (ground header outside) o p (deeds header outside host past)) → last_return host o p past ≡ None → last_return host o p (e ∷ past) ≡ None
none_next header outside host o p (event.Taken (Up at object) m) past file c b none = takes_none header outside host o p at object m past file c b none
none_next header outside host o p (event.Taken (Down at object control) m) past file c b none = none
none_next header outside host o p e past file c b none = none

pub beyond : (header : Header) (outside : Outside) (history : List Event) → EachEvent (HasCause header outside) history
    → EachEvent (CopiesCurrent header outside) history → (host o p : ℕ) → declared_file header o ≡ true → declared_pages header o ≤ p
    → Beyond header outside host o p history
beyond header outside [] caused current host o p file past_end = record { bare = bare_start (ground header outside) o p; none = refl }
beyond header outside (e ∷ past) caused current host o p file past_end =
    let was : Beyond header outside host o p past = beyond header outside past caused.1 current.1 host o p file past_end in
    let h : Holds header outside past = holds header outside past (sustained header outside past caused.1) current.1 in
    let c : Cause (ground header outside) (deed header outside host e past) (deeds header outside host past) = cause header outside host e past h
    (sustained header outside (e ∷ past) caused).0 current.0 in
    record {
      bare =
          bare_next (ground header outside) o p (deed header outside host e past) (deeds header outside host past) (h.worlds host) c
          (asks_deed header outside host e past caused.1 h caused.0) file past_end was.bare;
      none = none_next header outside host o p e past file c was.bare was.none;
    }

-- no page past the object's is ever returned
pub none_beyond : (header : Header) (outside : Outside) (history : List Event) → EachEvent (HasCause header outside) history
    → EachEvent (CopiesCurrent header outside) history → (host o p : ℕ) → declared_file header o ≡ true → declared_pages header o ≤ p
    → last_return host o p history ≡ None
none_beyond header outside history caused current host o p file past_end = (beyond header outside history caused current host o p file past_end).none
