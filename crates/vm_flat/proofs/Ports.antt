-- What is on the way about a page of one host's memory is what its channels hold.
use Rattle.std.proofs.Common.{ℕ, ◌≡◌, ◌≤◌, List, [], ◌∷◌, ◌++◌, length, Bool, true, false, refl, sym, ap, subst, ◌∙◌, arith, Option, Some, None, if◌then◌else◌}
use Rattle.std.proofs.lemmas.Bool.Decides.{nat_tests}
use Rattle.std.proofs.lemmas.Option.{none-some, same_Some}
use Rattle.std.specs.Prelude.{◌==◌, ◌&&◌}
use Rattle.vm_base.specs.Pages.{little_endian_bytes}
use Rattle.vm_base.specs.declared.ids.HostId.{HostId}
use Rattle.vm_base.specs.declared.ids.ObjectId.{ObjectId}
use Rattle.vm_base.specs.declared.ids.PageNo.{PageNo}
use Rattle.vm_base.specs.declared.ids.RegionId.{RegionId}
use Rattle.vm_model.specs.declared.event.Event.{Event}
use Rattle.vm_model.specs.declared.event.Event.TheVariants as event
use Rattle.vm_model.specs.declared.message.Channel.{Channel}
use Rattle.vm_model.specs.declared.message.Channel.TheVariants.{Up, Down}
use Rattle.vm_model.specs.declared.message.Message.{Message}
use Rattle.vm_model.specs.declared.message.Message.TheVariants as message
use Rattle.vm_model.specs.declared.script.Header.{Header}
use Rattle.vm_legal.specs.Outside.{Outside, is_said, zeros}
use Rattle.vm_legal.specs.Living.{lives_on}
use Rattle.vm_model.specs.Channels.{queue, up_port, down_port}
use Rattle.vm_flat.specs.Words.{SpotUpWord, Requesting, Returning, SpotDownWord, Supplying, Unavailing, Erring, SpotEffect, Creates, Requests, Returns, Answers}
use Rattle.vm_flat.specs.Words.{Zeroes, Raises, Stores, Drops, Ends, Nothing}
use Rattle.vm_model.specs.Side.{rest}
use Rattle.vm_model.specs.Server.{first}
use Rattle.vm_flat.specs.Spot.{Spot, spot_after}
use Rattle.vm_model.specs.Controls.{is_control, last_control, live_control}
use Rattle.vm_flat.specs.Places.{at_place, effect_sent_up, effect_sent_down, spot}
use Rattle.vm_flat.proofs.Sustained.{control}
use Rattle.vm_legal.specs.Licences.{LockRequest, lock_taken}
use Rattle.vm_flat.proofs.Sustained.{Sustained, Request, request_taken, MaySendUp, MaySendDown}
use Rattle.vm_flat.proofs.Lives.{is_newest}
use Rattle.vm_flat.proofs.Queues.{requests}
use Rattle.vm_flat.proofs.Sound.{Sound, count}
use Rattle.vm_flat.proofs.Control.{control_is}
use Rattle.vm_flat.proofs.MergeEffects.{merge_keeps}
use Rattle.vm_flat.proofs.World.{World, unmade_stem}
use Rattle.vm_flat.proofs.Covers.{covered_less, is_covered, stem}
use Rattle.vm_model.specs.Regions.{next_object, region_of}
use Rattle.vm_flat.proofs.Classes.{ground, deeds}
use Rattle.vm_flat.proofs.Ties.{control_tie, covered_is, objects_is, spot_is, stem_is}
use Rattle.vm_flat.proofs.Letters.{up_words, down_words, first_rest, up_place, down_place, up_sent, up_taken, up_sent_down, up_taken_down, down_of, answers}
use Rattle.vm_flat.proofs.Letters.{down_sent, down_taken, down_sent_up, down_taken_up}
use Rattle.vm_model.proofs.Ports.{down_port_is, port_is}

abbrev pub Worlds : Header → Outside → List Event → Type 0
Worlds header outside past = (host : ℕ) → World (ground header outside) (deeds header outside host past)

pub sound_of : (header : Header) (outside : Outside) (host o p : ℕ) (past : List Event) → Worlds header outside past → is_covered header outside o past ≡ true
    → Sound (zeros header) (spot header outside host o p past)
sound_of header outside host o p past w ours =
    subst (λ (s : Spot). Sound (zeros header) s) (spot_is header outside host o p past) ((w host).places o p (covered_is header outside host o past
    ∙ ours)).sound

-- an object that was not made yet comes from no file
pub unmade : (header : Header) (outside : Outside) (o : ℕ) (past : List Event) → Worlds header outside past → next_object header past ≤ o
    → stem header o past ≡ None
unmade header outside o past w high =
    sym (stem_is header outside 0 o past)
    ∙ unmade_stem (ground header outside) o (deeds header outside 0 past) (w 0) (omega (arith, high, objects_is header outside 0 past))

-- what is covered was so before
pub covered_delayed : (header : Header) (outside : Outside) (region source : RegionId) (offset pages : ℕ) (copy : ObjectId) (o : ℕ) (past : List Event)
    → Worlds header outside past → copy.0 ≡ next_object header past
    → is_covered header outside o (event.Delayed region source offset pages copy ∷ past) ≡ true → is_covered header outside o past ≡ true
covered_delayed header outside region source offset pages copy o past w new ours =
    covered_less header outside o copy.0 (Some source.0) (stem header o past) (λ e. unmade header outside o past w (omega (arith, e, new))) ours

pub covered_shadowed : (header : Header) (outside : Outside) (region : RegionId) (new old : ObjectId) (o : ℕ) (past : List Event)
    → Worlds header outside past → new.0 ≡ next_object header past
    → is_covered header outside o (event.Shadowed region new old ∷ past) ≡ true → is_covered header outside o past ≡ true
covered_shadowed header outside region new old o past w fresh ours =
    covered_less header outside o new.0 (stem header (region_of header region.0 past).top past) (stem header o past)
    (λ e. unmade header outside o past w (omega (arith, e, fresh))) ours

pub spot_control : (header : Header) (outside : Outside) (host o p : ℕ) (past : List Event)
    → (spot header outside host o p past).control ≡ control header host o past
spot_control header outside host o p past =
    ap (λ (s : Spot). s.control) (sym (spot_is header outside host o p past)) ∙ control_is (ground header outside) o p (deeds header outside host past)
    ∙ control_tie header outside host o past

-- nothing is on the way about a place without a live control
pub record Calm (s : Spot) : Type 0 where
  pub up : requests s.up ≡ 0
  pub down : s.down ≡ []
  pub step : s.step ≡ false

none_long : (q : List SpotDownWord) → length q ≡ 0 → q ≡ []
none_long [] e = refl
none_long (w ∷ q) e = absurd (omega (arith, e))

calm_sound : (z : List ℕ) (s : Spot) → Sound z s → s.control ≡ 0 → Calm s
calm_sound z s ok none =
    let quiet : s.asked ≡ false = grind (arith, ok.living) in
    let long : length s.down ≡ 0 = grind (arith, ok.one) in
    record { up = grind (arith, ok.one); down = none_long s.down long; step = grind (arith, ok.one) }

pub calm : (header : Header) (outside : Outside) (host o p : ℕ) (past : List Event) → Worlds header outside past → is_covered header outside o past ≡ true
    → control header host o past ≡ 0 → Calm (spot header outside host o p past)
calm header outside host o p past w ours none =
    calm_sound (zeros header) (spot header outside host o p past) (sound_of header outside host o p past w ours)
    (spot_control header outside host o p past ∙ none)

-- upwards

abbrev pub Ups : Header → Outside → List Event → Type 0
Ups header outside past = (h o p : ℕ) → (spot header outside h o p past).up ≡ up_words p (queue (up_port h o) past)

head_up : (at : HostId) (object : ObjectId) (m : Message) (past : List Event) (h o : ℕ) → first (queue (Up at object) past) ≡ Some m
    → (at.0 == h && object.0 == o) ≡ true → first (queue (up_port h o) past) ≡ Some m
head_up at object m past h o head is =
    subst (λ (c : Channel). first (queue c past) ≡ Some m) (port_is at object h o (grind (arith, nat_tests)) (grind (arith, nat_tests))) head

head_down : (at : HostId) (object : ObjectId) (n : ℕ) (m : Message) (past : List Event) (h o k : ℕ) → first (queue (Down at object n) past) ≡ Some m
    → (at.0 == h && (object.0 == o && n == k)) ≡ true → first (queue (down_port h o k) past) ≡ Some m
head_down at object n m past h o k head is =
    subst (λ (c : Channel). first (queue c past) ≡ Some m) (down_port_is at object n h o k (grind (arith, nat_tests)) (grind (arith, nat_tests))
    (grind (arith, nat_tests))) head

pub ups_start : (header : Header) (outside : Outside) → Ups header outside []
ups_start header outside h o p = refl

pub ups_next : (header : Header) (outside : Outside) (e : Event) (past : List Event) → Ups header outside past → Sustained header outside e past
    → Ups header outside (e ∷ past)
ups_next header outside (event.Zeroed at object page) past ups c h o p =
    up_place (zeros header) (spot header outside h o p past) o p (at.0 == h) object.0 page.0 Zeroes Nothing refl refl ∙ ups h o p
ups_next header outside (event.Raised at lower lower_page upper upper_page) past ups c h o p =
    up_place (zeros header) (spot header outside h o p past) o p (at.0 == h) upper.0 upper_page.0
    (Raises (spot header outside h lower.0 lower_page.0 past).bytes) Nothing refl refl ∙ ups h o p
ups_next header outside (event.Stored task object page at size value) past ups c h o p =
    up_place (zeros header) (spot header outside h o p past) o p (lives_on h task.0 past) object.0 page.0 (Stores at (little_endian_bytes size value)) Nothing
    refl refl ∙ ups h o p
ups_next header outside (event.CopiedPage task page object object_page target) past ups c h o p =
    up_place (zeros header) (spot header outside h o p past) o p (lives_on h task.0 past) target.0 page.0
    (Raises (spot header outside h object.0 object_page.0 past).bytes) Nothing refl refl ∙ ups h o p
ups_next header outside (event.Dropped at object page) past ups c h o p =
    up_place (zeros header) (spot header outside h o p past) o p (at.0 == h) object.0 page.0 Drops Nothing refl refl ∙ ups h o p
ups_next header outside (event.Sent (Up at object) m) past ups c h o p =
    up_sent (zeros header) (spot header outside h o p past) (queue (up_port h o) past) o p (at.0 == h) (live_control h object.0 past) object.0 m (ups h o p)
ups_next header outside (event.Sent (Down at object n) m) past ups c h o p =
    up_sent_down (zeros header) (spot header outside h o p past) o p (at.0 == h && n == last_control h object.0 past)
    (is_said header outside object.0) object.0
    m ∙ ups h o p
ups_next header outside (event.Taken (Up at object) m) past ups c h o p =
    up_taken (zeros header) (spot header outside h o p past) (queue (up_port h o) past) o p (at.0 == h) object.0 m (head_up at object m past h o c)
    (ups h o p)
ups_next header outside (event.Taken (Down at object n) m) past ups c h o p =
    up_taken_down (zeros header) (spot header outside h o p past) o p (at.0 == h && n == last_control h object.0 past) object.0 m ∙ ups h o p
ups_next header outside (event.Merged upper lower) past ups c h o p =
    merge_keeps (λ s. s.up) (λ z s bytes dirty. refl) (λ z s. refl) header outside h o p upper lower past ∙ ups h o p
ups_next header outside e past ups c h o p = ups h o p

-- every request on the way up is of the newest control

abbrev pub FromControl : ℕ → List Message → Type 0
FromControl n [] = Unit {0}
FromControl n (message.Request number page access ∷ q) = (number ≡ n) × FromControl n q
FromControl n (m ∷ q) = FromControl n q

from_end : (n : ℕ) (q : List Message) (m : Message) → FromControl n q → FromControl n (m ∷ []) → FromControl n (q ++ m ∷ [])
from_end n [] m all last = last
from_end n (message.Request number page access ∷ q) m all last = (all.0, from_end n q m all.1 last)
from_end n (other ∷ q) m all last = from_end n q m all last

from_rest : (n : ℕ) (q : List Message) → FromControl n q → FromControl n (rest q)
from_rest n [] all = tt
from_rest n (message.Request number page access ∷ q) all = all.1
from_rest n (other ∷ q) all = all

from_none : (n : ℕ) (q : List Message) → ((p : ℕ) → requests (up_words p q) ≡ 0) → FromControl n q
from_none n [] none = tt
from_none n (message.Request number page access ∷ q) none = absurd (some page.0 (up_words page.0 q) (none page.0))
  where
    some : (p : ℕ) (w : List SpotUpWord) → requests (if p == p then Requesting ∷ w else w) ≡ 0 → ⊥
    some p w e =
        let same : (p == p) ≡ true = grind (arith, nat_tests) in let e' : requests (if true then Requesting ∷ w else w) ≡ 0 = subst
        (λ (b : Bool). requests (if b then Requesting ∷ w else w) ≡ 0) same e in omega (arith, e')
from_none n (message.Return number page dirty keep bytes ∷ q) none = from_none n q (λ p. fewer (page.0 == p) bytes (up_words p q) (none p))
  where
    fewer : (b : Bool) (bytes : List ℕ) (w : List SpotUpWord) → requests (if b then Returning bytes ∷ w else w) ≡ 0 → requests w ≡ 0
    fewer true bytes w e = e
    fewer false bytes w e = e
from_none n (other ∷ q) none = from_none n q none

abbrev pub UpNumbers : Header → Outside → List Event → Type 0
UpNumbers header outside past = (h o : ℕ) → is_covered header outside o past ≡ true → FromControl (last_control h o past) (queue (up_port h o) past)

from_if : (b : Bool) (n : ℕ) (q : List Message) (m : Message) → FromControl n q → (b ≡ true → FromControl n (m ∷ []))
    → FromControl n (if b then q ++ m ∷ [] else q)
from_if true n q m all last = from_end n q m all (last refl)
from_if false n q m all last = all

from_rest_if : (b : Bool) (n : ℕ) (q : List Message) → FromControl n q → FromControl n (if b then rest q else q)
from_rest_if true n q all = from_rest n q all
from_rest_if false n q all = all

-- a new control: no request is on the way
from_new : (b : Bool) (new n : ℕ) (q : List Message) (m : Message) → FromControl new (m ∷ []) → (b ≡ true → (p : ℕ) → requests (up_words p q) ≡ 0)
    → FromControl n q → FromControl (if b then new else n) (if b then q ++ m ∷ [] else q)
from_new true new n q m one none all = from_end new q m (from_none new q (none refl)) one
from_new false new n q m one none all = all

same_host : (a h o b : ℕ) → (a == h && b == o) ≡ true → a ≡ h
same_host a h o b is = grind (arith, nat_tests)

same_object : (a h o b : ℕ) → (a == h && b == o) ≡ true → o ≡ b
same_object a h o b is = grind (arith, nat_tests)

none_up : (header : Header) (outside : Outside) (past : List Event) → Worlds header outside past → Ups header outside past → (h o : ℕ)
    → is_covered header outside o past ≡ true → control header h o past ≡ 0 → (p : ℕ) → requests (up_words p (queue (up_port h o) past)) ≡ 0
none_up header outside past w ups h o ours none p = ap (λ x. requests x) (sym (ups h o p)) ∙ (calm header outside h o p past w ours none).up

control_there : (header : Header) (past : List Event) (a b h o : ℕ) → (a == h && b == o) ≡ true → control header a b past ≡ 0 → control header h o past ≡ 0
control_there header past a b h o is none =
    subst (λ (k : ℕ). control header k o past ≡ 0) (same_host a h o b is) (subst (λ (k : ℕ). control header a k past ≡ 0) (sym (same_object a h o b is)) none)

pub private_there : (header : Header) (outside : Outside) (past : List Event) (a b h o : ℕ) → (a == h && b == o) ≡ true
    → is_covered header outside o past ≡ true → is_covered header outside b past ≡ true
private_there header outside past a b h o is ours = subst (λ (k : ℕ). is_covered header outside k past ≡ true) (same_object a h o b is) ours

number_there : (past : List Event) (a b h o n : ℕ) → (a == h && b == o) ≡ true → last_control a b past ≡ n → last_control h o past ≡ n
number_there past a b h o n is e =
    subst (λ (k : ℕ). last_control k o past ≡ n) (same_host a h o b is) (subst (λ (k : ℕ). last_control a k past ≡ n) (sym (same_object a h o b is)) e)

numbers_sent : (header : Header) (outside : Outside) (at : HostId) (object : ObjectId) (m : Message) (past : List Event) → Worlds header outside past
    → Ups header outside past → UpNumbers header outside past → (is_covered header outside object.0 past ≡ true
    → MaySendUp header outside at.0 object.0 m past)
    → UpNumbers header outside (event.Sent (Up at object) m ∷ past)
numbers_sent header outside at object (message.Init number size) past w ups all c h o ours =
    from_new (at.0 == h && object.0 == o) number (last_control h o past) (queue (up_port h o) past) (message.Init number size) tt
    (λ is. none_up header outside past w ups h o ours (control_there header past at.0 object.0 h o is
    (c (private_there header outside past at.0 object.0 h o is ours)).none)) (all h o ours)
numbers_sent header outside at object (message.Create number size) past w ups all c h o ours =
    from_new (at.0 == h && object.0 == o) number (last_control h o past) (queue (up_port h o) past) (message.Create number size) tt
    (λ is. none_up header outside past w ups h o ours (control_there header past at.0 object.0 h o is
    (c (private_there header outside past at.0 object.0 h o is ours)).2)) (all h o ours)
numbers_sent header outside at object (message.Request number page access) past w ups all c h o ours =
    from_if (at.0 == h && object.0 == o) (last_control h o past) (queue (up_port h o) past) (message.Request number page access) (all h o ours)
    (λ is. (
      sym (number_there past at.0 object.0 h o number is (is_newest header at.0 object.0 number past
          (c (private_there header outside past at.0 object.0 h o is ours)).live)),
      tt,
    ))
numbers_sent header outside at object m past w ups all c h o ours =
    from_if (at.0 == h && object.0 == o) (last_control h o past) (queue (up_port h o) past) m (all h o ours) (λ is. tt)

pub numbers_next : (header : Header) (outside : Outside) (e : Event) (past : List Event) → Worlds header outside past → Ups header outside past
    → UpNumbers header outside past → Sustained header outside e past → UpNumbers header outside (e ∷ past)
numbers_next header outside (event.Sent (Up at object) m) past w ups all c h o ours = numbers_sent header outside at object m past w ups all c h o ours
numbers_next header outside (event.Sent (Down at object n) m) past w ups all c h o ours = all h o ours
numbers_next header outside (event.Taken (Up at object) m) past w ups all c h o ours =
    from_rest_if (at.0 == h && object.0 == o) (last_control h o past) (queue (up_port h o) past) (all h o ours)
numbers_next header outside (event.Taken (Down at object n) m) past w ups all c h o ours = all h o ours
numbers_next header outside (event.Delayed region source offset pages copy) past w ups all c h o ours =
    all h o (covered_delayed header outside region source offset pages copy o past w c.new ours)
numbers_next header outside (event.Shadowed region new old) past w ups all c h o ours = all h o
    (covered_shadowed header outside region new old o past w c.next ours)
numbers_next header outside e past w ups all c h o ours = all h o ours

-- a request that the step took is of the newest control

abbrev pub AskedBy : Header → Outside → List Event → Type 0
AskedBy header outside past =
    (h o n p : ℕ) → is_covered header outside o past ≡ true → request_taken past ≡ Some (record { host = h; object = o; control_of = n; page = p })
    → (spot header outside h o p past).step ≡ true → n ≡ last_control h o past

none_request : (r : Request) → ◌≡◌ {A = Option Request} None (Some r) → ⊥
none_request r e = cc

some_request : (r s : Request) → ◌≡◌ {A = Option Request} (Some r) (Some s) → r ≡ s
some_request r s e = cc

step_if : (z : List ℕ) (s : Spot) (b : Bool) (E F : SpotEffect) → ((spot_after z s E).step ≡ true → s.step ≡ true)
    → ((spot_after z s F).step ≡ true → s.step ≡ true) → (spot_after z s (if b then E else F)).step ≡ true → s.step ≡ true
step_if z s true E F e f is = e is
step_if z s false E F e f is = f is

step_place : (z : List ℕ) (s : Spot) (o p : ℕ) (own : Bool) (object page : ℕ) (E F : SpotEffect) → ((spot_after z s E).step ≡ true → s.step ≡ true)
    → ((spot_after z s F).step ≡ true → s.step ≡ true) → (spot_after z s (at_place o p own object page E F)).step ≡ true → s.step ≡ true
step_place z s o p own object page E F e f is = step_if z s (own && (object == o && page == p)) E F e f is

step_sent_up : (z : List ℕ) (s : Spot) (o p : ℕ) (own : Bool) (live : Option ℕ) (object : ℕ) (m : Message)
    → (spot_after z s (effect_sent_up o p own live object m)).step ≡ true → s.step ≡ true
step_sent_up z s o p own live object (message.Request control page access) is =
    step_place z s o p own object page.0 (Requests (is_control control live)) Nothing (λ e. e) (λ e. e) is
step_sent_up z s o p own live object (message.Return control page dirty keep bytes) is =
    step_place z s o p own object page.0 (Returns keep bytes) Nothing (λ e. e) (λ e. e) is
step_sent_up z s o p own live object (message.Init control size) is = step_if z s (own && object == o) Creates Nothing (λ e. e) (λ e. e) is
step_sent_up z s o p own live object (message.Create control size) is = step_if z s (own && object == o) Creates Nothing (λ e. e) (λ e. e) is
step_sent_up z s o p own live object (message.Terminate control) is =
    step_if z s ((own && is_control control live) && object == o) Ends Nothing (λ e. e) (λ e. e) is
step_sent_up z s o p own live object m is = is

false_true : false ≡ true → ⊥
false_true e = cc

step_sent_down : (z : List ℕ) (s : Spot) (o p : ℕ) (own tells : Bool) (object : ℕ) (m : Message)
    → (spot_after z s (effect_sent_down o p own tells object m)).step ≡ true → s.step ≡ true
step_sent_down z s o p own tells object (message.Supply page lock precious bytes) is =
    step_place z s o p own object page.0 (Answers tells (Supplying bytes)) Nothing (λ e. absurd (false_true e)) (λ e. e) is
step_sent_down z s o p own tells object (message.Unavailable page) is =
    step_place z s o p own object page.0 (Answers tells Unavailing) Nothing (λ e. absurd (false_true e)) (λ e. e) is
step_sent_down z s o p own tells object (message.Error page reason) is =
    step_place z s o p own object page.0 (Answers tells Erring) Nothing (λ e. absurd (false_true e)) (λ e. e) is
step_sent_down z s o p own tells object m is = is

number_if : (b : Bool) (new n k : ℕ) → (b ≡ true → ⊥) → k ≡ n → k ≡ (if b then new else n)
number_if true new n k never is = absurd (never refl)
number_if false new n k never is = is

asked_sent : (header : Header) (outside : Outside) (at : HostId) (object : ObjectId) (m : Message) (past : List Event) → Worlds header outside past
    → AskedBy header outside past → (is_covered header outside object.0 past ≡ true → MaySendUp header outside at.0 object.0 m past)
    → AskedBy header outside (event.Sent (Up at object) m ∷ past)
asked_sent header outside at object (message.Init number size) past w all c h o n p ours taken step =
    number_if (at.0 == h && object.0 == o) number (last_control h o past) n
    (λ is. clash (spot header outside h o p past).step (calm header outside h o p past w ours
    (control_there header past at.0 object.0 h o is (c (private_there header outside past at.0 object.0 h o is ours)).none)).step was)
    (all h o n p ours taken was)
  where
    was : (spot header outside h o p past).step ≡ true
    was = step_if (zeros header) (spot header outside h o p past) (at.0 == h && object.0 == o) Creates Nothing (λ e. e) (λ e. e) step

    clash : (b : Bool) → b ≡ false → b ≡ true → ⊥
    clash b isnt is = cc
asked_sent header outside at object (message.Create number size) past w all c h o n p ours taken step =
    number_if (at.0 == h && object.0 == o) number (last_control h o past) n
    (λ is. clash (spot header outside h o p past).step (calm header outside h o p past w ours
    (control_there header past at.0 object.0 h o is (c (private_there header outside past at.0 object.0 h o is ours)).2)).step was)
    (all h o n p ours taken was)
  where
    was : (spot header outside h o p past).step ≡ true
    was = step_if (zeros header) (spot header outside h o p past) (at.0 == h && object.0 == o) Creates Nothing (λ e. e) (λ e. e) step

    clash : (b : Bool) → b ≡ false → b ≡ true → ⊥
    clash b isnt is = cc
asked_sent header outside at object (message.Request number page access) past w all c h o n p ours taken step =
    all h o n p ours taken (step_sent_up (zeros header) (spot header outside h o p past) o p (at.0 == h) (live_control h object.0 past) object.0
    (message.Request number page access) step)
asked_sent header outside at object (message.Return number page dirty keep bytes) past w all c h o n p ours taken step =
    all h o n p ours taken (step_sent_up (zeros header) (spot header outside h o p past) o p (at.0 == h) (live_control h object.0 past) object.0
    (message.Return number page dirty keep bytes) step)
asked_sent header outside at object (message.Terminate number) past w all c h o n p ours taken step =
    all h o n p ours taken (step_sent_up (zeros header) (spot header outside h o p past) o p (at.0 == h) (live_control h object.0 past) object.0
    (message.Terminate number) step)
asked_sent header outside at object m past w all c h o n p ours taken step = all h o n p ours taken step

from_first : (n k : ℕ) (page : PageNo) (access : ℕ) (q : List Message) → FromControl n q → first q ≡ Some (message.Request k page access) → k ≡ n
from_first n k page access q all head = (subst (λ (r : List Message). FromControl n r) (first_rest q (message.Request k page access) head) all).0

asked_taken : (header : Header) (outside : Outside) (at : HostId) (object : ObjectId) (m : Message) (past : List Event) → UpNumbers header outside past
    → first (queue (Up at object) past) ≡ Some m → AskedBy header outside (event.Taken (Up at object) m ∷ past)
asked_taken header outside at object (message.Request k page access) past numbers head h o n p ours taken step =
    let same : record { host = at.0; object = object.0; control_of = k; page = page.0 } ≡ record {
      host = h;
      object = o;
      control_of = n;
      page = p;
    } = some_request _ _ taken in
    let host_is : at.0 ≡ h = ap (λ (r : Request). r.host) same in
    let object_is : object.0 ≡ o = ap (λ (r : Request). r.object) same in
    let control_is : k ≡ n = ap (λ (r : Request). r.control_of) same in
    sym control_is ∙ from_first (last_control h o past) k page access (queue (up_port h o) past) (numbers h o ours)
    (subst (λ (c : Channel). first (queue c past) ≡ Some (message.Request k page access)) (port_is at object h o host_is object_is) head)
asked_taken header outside at object m past numbers head h o n p ours taken step = absurd (none_request _ taken)

pub asked_next : (header : Header) (outside : Outside) (e : Event) (past : List Event) → Worlds header outside past → UpNumbers header outside past
    → AskedBy header outside past → Sustained header outside e past → AskedBy header outside (e ∷ past)
asked_next header outside (event.Line line) past w numbers all c h o n p ours taken step = absurd (none_request _ taken)
asked_next header outside (event.Zeroed at object page) past w numbers all c h o n p ours taken step =
    all h o n p ours taken (step_place (zeros header) (spot header outside h o p past) o p (at.0 == h) object.0 page.0 Zeroes Nothing (λ e. e) (λ e. e) step)
asked_next header outside (event.Raised at lower lower_page upper upper_page) past w numbers all c h o n p ours taken step =
    all h o n p ours taken (step_place (zeros header) (spot header outside h o p past) o p (at.0 == h) upper.0 upper_page.0
    (Raises (spot header outside h lower.0 lower_page.0 past).bytes) Nothing (λ e. e) (λ e. e) step)
asked_next header outside (event.Stored task object page at size value) past w numbers all c h o n p ours taken step =
    all h o n p ours taken (step_place (zeros header) (spot header outside h o p past) o p (lives_on h task.0 past) object.0 page.0
    (Stores at (little_endian_bytes size value)) Nothing (λ e. e) (λ e. e) step)
asked_next header outside (event.CopiedPage task page object object_page target) past w numbers all c h o n p ours taken step =
    all h o n p ours taken (step_place (zeros header) (spot header outside h o p past) o p (lives_on h task.0 past) target.0 page.0
    (Raises (spot header outside h object.0 object_page.0 past).bytes) Nothing (λ e. e) (λ e. e) step)
asked_next header outside (event.Dropped at object page) past w numbers all c h o n p ours taken step =
    all h o n p ours taken (step_place (zeros header) (spot header outside h o p past) o p (at.0 == h) object.0 page.0 Drops Nothing (λ e. e) (λ e. e) step)
asked_next header outside (event.Sent (Up at object) m) past w numbers all c h o n p ours taken step =
    asked_sent header outside at object m past w all c h o n p ours taken step
asked_next header outside (event.Sent (Down at object k) m) past w numbers all c h o n p ours taken step =
    all h o n p ours taken (step_sent_down (zeros header) (spot header outside h o p past) o p (at.0 == h && k == last_control h object.0 past)
    (is_said header outside object.0) object.0 m step)
asked_next header outside (event.Taken (Up at object) m) past w numbers all c h o n p ours taken step =
    asked_taken header outside at object m past numbers c h o n p ours taken step
asked_next header outside (event.Taken (Down at object k) m) past w numbers all c h o n p ours taken step = absurd (none_request _ taken)
asked_next header outside (event.Merged upper lower) past w numbers all c h o n p ours taken step =
    all h o n p ours taken (sym (merge_keeps (λ s. s.step) (λ z s bytes dirty. refl) (λ z s. refl) header outside h o p upper lower past) ∙ step)
asked_next header outside (event.Delayed region source offset pages copy) past w numbers all c h o n p ours taken step =
    all h o n p (covered_delayed header outside region source offset pages copy o past w c.new ours) taken step
asked_next header outside (event.Shadowed region new old) past w numbers all c h o n p ours taken step =
    all h o n p (covered_shadowed header outside region new old o past w c.next ours) taken step
asked_next header outside e past w numbers all c h o n p ours taken step = all h o n p ours taken step

-- downwards: only the newest control has words on their way

abbrev pub Downs : Header → Outside → List Event → Type 0
Downs header outside past =
    (h o : ℕ) → is_covered header outside o past ≡ true → (k p : ℕ)
    → down_words p (queue (down_port h o k) past) ≡ down_of (k == last_control h o past) (spot header outside h o p past)

pub downs_start : (header : Header) (outside : Outside) → Downs header outside []
downs_start header outside h o ours k p = by_test (k == 0)
  where
    by_test : (b : Bool) → ◌≡◌ {A = List SpotDownWord} [] (if b then [] else [])
    by_test true = refl
    by_test false = refl

move_down_of : (b : Bool) (s t : Spot) → t.down ≡ s.down → down_of b s ≡ down_of b t
move_down_of true s t e = sym e
move_down_of false s t e = refl

new_down : (b : Bool) (new n k : ℕ) (s t : Spot) (words : List SpotDownWord) → t.down ≡ s.down → (b ≡ true → s.down ≡ []) → words ≡ down_of (k == n) s
    → words ≡ down_of (k == (if b then new else n)) t
new_down false new n k s t words same none is = is ∙ move_down_of (k == n) s t same
new_down true new n k s t words same none is = is ∙ nothing (k == n) s (none refl) ∙ sym (nothing (k == new) t (same ∙ none refl))
  where
    nothing : (b : Bool) (s : Spot) → s.down ≡ [] → down_of b s ≡ []
    nothing true s e = e
    nothing false s e = refl

downs_sent_up : (header : Header) (outside : Outside) (at : HostId) (object : ObjectId) (m : Message) (past : List Event) → Worlds header outside past
    → Downs header outside past → (is_covered header outside object.0 past ≡ true → MaySendUp header outside at.0 object.0 m past)
    → Downs header outside (event.Sent (Up at object) m ∷ past)
downs_sent_up header outside at object (message.Init number size) past w downs c h o ours k p =
    new_down (at.0 == h && object.0 == o) number (last_control h o past) k (spot header outside h o p past)
    (spot header outside h o p (event.Sent (Up at object) (message.Init number size) ∷ past)) (down_words p (queue (down_port h o k) past))
    (down_sent_up (zeros header) (spot header outside h o p past) o p (at.0 == h) (live_control h object.0 past) object.0 (message.Init number size))
    (λ is. (calm header outside h o p past w ours (control_there header past at.0 object.0 h o is
    (c (private_there header outside past at.0 object.0 h o is ours)).none)).down) (downs h o ours k p)
downs_sent_up header outside at object (message.Create number size) past w downs c h o ours k p =
    new_down (at.0 == h && object.0 == o) number (last_control h o past) k (spot header outside h o p past)
    (spot header outside h o p (event.Sent (Up at object) (message.Create number size) ∷ past)) (down_words p (queue (down_port h o k) past))
    (down_sent_up (zeros header) (spot header outside h o p past) o p (at.0 == h) (live_control h object.0 past) object.0 (message.Create number size))
    (λ is. (calm header outside h o p past w ours (control_there header past at.0 object.0 h o is
    (c (private_there header outside past at.0 object.0 h o is ours)).2)).down) (downs h o ours k p)
downs_sent_up header outside at object (message.Request number page access) past w downs c h o ours k p =
    downs h o ours k p ∙ move_down_of (k == last_control h o past) (spot header outside h o p past)
    (spot header outside h o p (event.Sent (Up at object) (message.Request number page access) ∷ past))
    (down_sent_up (zeros header) (spot header outside h o p past) o p (at.0 == h) (live_control h object.0 past) object.0
    (message.Request number page access))
downs_sent_up header outside at object (message.Return number page dirty keep bytes) past w downs c h o ours k p =
    downs h o ours k p ∙ move_down_of (k == last_control h o past) (spot header outside h o p past)
    (spot header outside h o p (event.Sent (Up at object) (message.Return number page dirty keep bytes) ∷ past))
    (down_sent_up (zeros header) (spot header outside h o p past) o p (at.0 == h) (live_control h object.0 past) object.0
    (message.Return number page dirty keep bytes))
downs_sent_up header outside at object (message.Terminate number) past w downs c h o ours k p =
    downs h o ours k p ∙ move_down_of (k == last_control h o past) (spot header outside h o p past)
    (spot header outside h o p (event.Sent (Up at object) (message.Terminate number) ∷ past))
    (down_sent_up (zeros header) (spot header outside h o p past) o p (at.0 == h) (live_control h object.0 past) object.0 (message.Terminate number))
downs_sent_up header outside at object m past w downs c h o ours k p = downs h o ours k p

-- an answer goes to the newest control
answers_newest : (header : Header) (outside : Outside) (host object n p : ℕ) (m : Message) (past : List Event) → AskedBy header outside past
    → is_covered header outside object past ≡ true → MaySendDown header outside host object n m past → answers p m ≡ true → n ≡ last_control host object past
answers_newest header outside host object n p (message.Supply page lock precious bytes) past asked ours c is =
    asked host object n page.0 ours c.0.taken c.0.unanswered
answers_newest header outside host object n p (message.Unavailable page) past asked ours c is = asked host object n page.0 ours c.0.taken c.0.unanswered
answers_newest header outside host object n p (message.Error page reason) past asked ours c is = asked host object n page.0 ours c.taken c.unanswered
answers_newest header outside host object n p m past asked ours c is = absurd (false_true is)

number_same : (past : List Event) (h o b : ℕ) → o ≡ b → last_control h o past ≡ last_control h b past
number_same past h o b e = ap (λ k. last_control h k past) e

-- the channel of control k, and the newest control: what two tests say of a third
test_same : (k n number : ℕ) → (n == k) ≡ true → (k == number) ≡ (n == number)
test_same k n number is = let e : k ≡ n = grind (arith, nat_tests) in ap (λ x. x == number) e

test_only : (k n number : ℕ) → (k == number) ≡ true → (n == number) ≡ true → (n == k) ≡ true
test_only k n number one two = grind (arith, nat_tests)

pub downs_next : (header : Header) (outside : Outside) (e : Event) (past : List Event) → Worlds header outside past → AskedBy header outside past
    → Downs header outside past → Sustained header outside e past → Downs header outside (e ∷ past)
downs_next header outside (event.Zeroed at object page) past w asked downs c h o ours k p =
    downs h o ours k p ∙ move_down_of (k == last_control h o past) (spot header outside h o p past)
    (spot header outside h o p (event.Zeroed at object page ∷ past)) (down_place (zeros header) (spot header outside h o p past) o p (at.0 == h) object.0
    page.0 Zeroes Nothing refl refl)
downs_next header outside (event.Raised at lower lower_page upper upper_page) past w asked downs c h o ours k p =
    downs h o ours k p ∙ move_down_of (k == last_control h o past) (spot header outside h o p past)
    (spot header outside h o p (event.Raised at lower lower_page upper upper_page ∷ past))
    (down_place (zeros header) (spot header outside h o p past) o p (at.0 == h) upper.0 upper_page.0
    (Raises (spot header outside h lower.0 lower_page.0 past).bytes) Nothing refl refl)
downs_next header outside (event.Stored task object page at size value) past w asked downs c h o ours k p =
    downs h o ours k p ∙ move_down_of (k == last_control h o past) (spot header outside h o p past)
    (spot header outside h o p (event.Stored task object page at size value ∷ past))
    (down_place (zeros header) (spot header outside h o p past) o p (lives_on h task.0 past) object.0 page.0 (Stores at (little_endian_bytes size value))
    Nothing refl refl)
downs_next header outside (event.CopiedPage task page object object_page target) past w asked downs c h o ours k p =
    downs h o ours k p ∙ move_down_of (k == last_control h o past) (spot header outside h o p past)
    (spot header outside h o p (event.CopiedPage task page object object_page target ∷ past))
    (down_place (zeros header) (spot header outside h o p past) o p (lives_on h task.0 past) target.0 page.0
    (Raises (spot header outside h object.0 object_page.0 past).bytes) Nothing refl refl)
downs_next header outside (event.Dropped at object page) past w asked downs c h o ours k p =
    downs h o ours k p ∙ move_down_of (k == last_control h o past) (spot header outside h o p past)
    (spot header outside h o p (event.Dropped at object page ∷ past)) (down_place (zeros header) (spot header outside h o p past) o p (at.0 == h) object.0
    page.0 Drops Nothing refl refl)
downs_next header outside (event.Line line) past w asked downs c h o ours k p =
    downs h o ours k p ∙ move_down_of (k == last_control h o past) (spot header outside h o p past) (spot header outside h o p (event.Line line ∷ past)) refl
downs_next header outside (event.Sent (Up at object) m) past w asked downs c h o ours k p = downs_sent_up header outside at object m past w downs c h o ours k p
downs_next header outside (event.Taken (Up at object) m) past w asked downs c h o ours k p =
    downs h o ours k p ∙ move_down_of (k == last_control h o past) (spot header outside h o p past)
    (spot header outside h o p (event.Taken (Up at object) m ∷ past)) (down_taken_up (zeros header) (spot header outside h o p past) o p (at.0 == h)
    object.0 m)
downs_next header outside (event.Sent (Down at object n) m) past w asked downs c h o ours k p =
    down_sent (zeros header) (spot header outside h o p past) (is_said header outside object.0) (queue (down_port h o k) past) o p (at.0 == h) object.0 m
    (k == last_control h o past) (n == k) (n == last_control h object.0 past)
    (λ is to. newest is to)
    (λ is e. test_same k n (last_control h o past) e ∙ ap (λ x. n == x) (number_same past h o object.0 (same_object at.0 h o object.0 is)))
    (λ is one two. test_only k n (last_control h o past) one (ap (λ x. n == x) (number_same past h o object.0 (same_object at.0 h o object.0 is)) ∙ two))
    (downs h o ours k p)
  where
    newest : (at.0 == h && object.0 == o) ≡ true → answers p m ≡ true → (n == last_control h object.0 past) ≡ true
    newest is to =
        let e : n ≡ last_control at.0 object.0 past = answers_newest header outside at.0 object.0 n p m past asked
        (private_there header outside past at.0 object.0 h o is ours) (c (private_there header outside past at.0 object.0 h o is ours)) to in
        let there : n ≡ last_control h object.0 past = subst (λ (x : ℕ). n ≡ last_control x object.0 past) (same_host at.0 h o object.0 is) e in
        grind (arith, nat_tests)
downs_next header outside (event.Taken (Down at object n) m) past w asked downs c h o ours k p =
    down_taken (zeros header) (spot header outside h o p past) (queue (down_port h o k) past) o p (at.0 == h) object.0 m (k == last_control h o past) (n == k)
    (n == last_control h object.0 past)
    (λ is. head_down at object n m past h o k c is)
    (λ is e. test_same k n (last_control h o past) e ∙ ap (λ x. n == x) (number_same past h o object.0 (same_object at.0 h o object.0 is)))
    (λ is one two. test_only k n (last_control h o past) one (ap (λ x. n == x) (number_same past h o object.0 (same_object at.0 h o object.0 is)) ∙ two))
    (downs h o ours k p)
downs_next header outside (event.Merged upper lower) past w asked downs c h o ours k p =
    downs h o ours k p ∙ move_down_of (k == last_control h o past) (spot header outside h o p past)
    (spot header outside h o p (event.Merged upper lower ∷ past))
    (merge_keeps (λ s. s.down) (λ z s bytes dirty. refl) (λ z s. refl) header outside h o p upper lower past)
downs_next header outside (event.Delayed region source offset pages copy) past w asked downs c h o ours k p =
    downs h o (covered_delayed header outside region source offset pages copy o past w c.new ours) k p
downs_next header outside (event.Shadowed region new old) past w asked downs c h o ours k p =
    downs h o (covered_shadowed header outside region new old o past w c.next ours) k p
downs_next header outside e past w asked downs c h o ours k p = downs h o ours k p

-- a lock_request for a private object wants changed pages back

abbrev pub AllBack : List Message → Type 0
AllBack [] = Unit {0}
AllBack (message.Lock page count returns flush lock reply ∷ q) = (returns ≡ 2) × AllBack q
AllBack (m ∷ q) = AllBack q

back_end : (q : List Message) (m : Message) → AllBack q → AllBack (m ∷ []) → AllBack (q ++ m ∷ [])
back_end [] m all last = last
back_end (message.Lock page count returns flush lock reply ∷ q) m all last = (all.0, back_end q m all.1 last)
back_end (other ∷ q) m all last = back_end q m all last

back_rest : (q : List Message) → AllBack q → AllBack (rest q)
back_rest [] all = tt
back_rest (message.Lock page count returns flush lock reply ∷ q) all = all.1
back_rest (other ∷ q) all = all

back_if : (b : Bool) (q : List Message) (m : Message) → AllBack q → (b ≡ true → AllBack (m ∷ [])) → AllBack (if b then q ++ m ∷ [] else q)
back_if true q m all last = back_end q m all (last refl)
back_if false q m all last = all

back_rest_if : (b : Bool) (q : List Message) → AllBack q → AllBack (if b then rest q else q)
back_rest_if true q all = back_rest q all
back_rest_if false q all = all

pub record Locks (header : Header) (outside : Outside) (past : List Event) : Type 0 where
  pub queued : (h o k : ℕ) → is_covered header outside o past ≡ true → AllBack (queue (down_port h o k) past)
  pub taken : (l : LockRequest) → is_covered header outside l.object past ≡ true → lock_taken past ≡ Some l → l.returns ≡ 2

-- it was taken by a control that lived
living : (b : Bool) (m l : LockRequest) → (if b then Some m else None) ≡ Some l → ◌≡◌ {A = Option LockRequest} (Some m) (Some l)
living true m l e = e
living false m l e = absurd (none-some l e)

pub locks_start : (header : Header) (outside : Outside) → Locks header outside []
locks_start header outside = record { queued = λ h o k ours. tt; taken = λ l ours e. absurd (none-some l e) }

one_back : (header : Header) (outside : Outside) (host object n : ℕ) (m : Message) (past : List Event) → MaySendDown header outside host object n m past
    → AllBack (m ∷ [])
one_back header outside host object n (message.Lock page count returns flush lock reply) past c = (c, tt)
one_back header outside host object n m past c = tt

down_there : (a h o b k n : ℕ) → (a == h && (b == o && n == k)) ≡ true → (a == h && b == o) ≡ true
down_there a h o b k n is = grind arith

taken_lock : (header : Header) (outside : Outside) (at : HostId) (object : ObjectId) (n : ℕ) (m : Message) (past : List Event) → Locks header outside past
    → first (queue (Down at object n) past) ≡ Some m → (l : LockRequest) → is_covered header outside l.object past ≡ true
    → lock_taken (event.Taken (Down at object n) m ∷ past) ≡ Some l → l.returns ≡ 2
taken_lock header outside at object n (message.Lock page count returns flush lock reply) past locks head l ours e =
    let same : record {
      host = at.0;
      object = object.0;
      control = n;
      page = page.0;
      count = count;
      returns = returns;
      flush = flush;
      lock = lock;
      reply = reply;
    } ≡ l = same_Some _ _ (living (is_control n (live_control at.0 object.0 past)) _ l e) in
    let there : is_covered header outside object.0 past ≡ true = subst (λ (x : LockRequest). is_covered header outside x.object past ≡ true)
    (sym same) ours in
    let all : AllBack (queue (Down at object n) past) = locks.queued at.0 object.0 n there in
    sym (ap (λ (x : LockRequest). x.returns) same) ∙ (subst (λ (q : List Message). AllBack q)
    (first_rest (queue (Down at object n) past) (message.Lock page count returns flush lock reply) head) all).0
taken_lock header outside at object n m past locks head l ours e = absurd (none-some l e)

pub locks_next : (header : Header) (outside : Outside) (e : Event) (past : List Event) → Worlds header outside past → Locks header outside past
    → Sustained header outside e past
    → Locks header outside (e ∷ past)
locks_next header outside (event.Line line) past w locks c = record { queued = locks.queued; taken = λ l ours e. absurd (none-some l e) }
locks_next header outside (event.Sent (Up at object) m) past w locks c = record { queued = locks.queued; taken = locks.taken }
locks_next header outside (event.Sent (Down at object n) m) past w locks c =
    record {
      queued = λ h o k ours. back_if (at.0 == h && (object.0 == o && n == k)) (queue (down_port h o k) past) m (locks.queued h o k ours)
          (λ is. one_back header outside at.0 object.0 n m past (c (private_there header outside past at.0 object.0 h o (down_there at.0 h o object.0 k n is)
          ours)));
      taken = locks.taken;
    }
locks_next header outside (event.Taken (Up at object) m) past w locks c = record { queued = locks.queued; taken = λ l ours e. absurd (none-some l e) }
locks_next header outside (event.Taken (Down at object n) m) past w locks c =
    record {
      queued = λ h o k ours. back_rest_if (at.0 == h && (object.0 == o && n == k)) (queue (down_port h o k) past) (locks.queued h o k ours);
      taken = λ l ours e. taken_lock header outside at object n m past locks c l ours e;
    }
locks_next header outside (event.Delayed region source offset pages copy) past w locks c =
    record {
      queued = λ h o k ours. locks.queued h o k (covered_delayed header outside region source offset pages copy o past w c.new ours);
      taken = λ l ours e. locks.taken l (covered_delayed header outside region source offset pages copy l.object past w c.new ours) e;
    }
locks_next header outside (event.Shadowed region new old) past w locks c =
    record {
      queued = λ h o k ours. locks.queued h o k (covered_shadowed header outside region new old o past w c.next ours);
      taken = λ l ours e. locks.taken l (covered_shadowed header outside region new old l.object past w c.next ours) e;
    }
locks_next header outside e past w locks c = record { queued = locks.queued; taken = locks.taken }
