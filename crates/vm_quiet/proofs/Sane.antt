-- What holds of each place, control and channel of a host at every moment of a caused history.
pub use Rattle.vm_model.proofs.Ports.{at_place}
use Rattle.std.proofs.Common.{inl, inr, ℕ, zero, suc, ◌≡◌, ◌∙◌, List, [], ◌∷◌, Bool, true, false, refl, sym, ap, subst, arith, Option, Some, None}
use Rattle.std.proofs.Common.{if◌then◌else◌}
use Rattle.std.proofs.lemmas.Bool.Decides.{nat_tests}
use Rattle.std.specs.Prelude.{◌==◌, ◌&&◌, ◌||◌, ◌+◌, ◌<◌, ◌≤◌, ◌⊎◌, not, nat_lt, is_some}
use Rattle.vm_base.specs.Pages.{little_endian_bytes}
use Rattle.vm_base.specs.declared.ids.HostId.{HostId}
use Rattle.vm_base.specs.declared.ids.ObjectId.{ObjectId}
use Rattle.vm_model.specs.declared.event.Event.{Event}
use Rattle.vm_model.specs.declared.event.Event.TheVariants as event
use Rattle.vm_model.specs.declared.message.Channel.TheVariants.{Up, Down}
use Rattle.vm_model.specs.declared.message.Message.{Message}
use Rattle.vm_model.specs.declared.message.Message.TheVariants as message
use Rattle.vm_model.specs.declared.command.Command.{Command}
use Rattle.vm_model.specs.declared.script.Header.{Header}
use Rattle.vm_model.specs.Controls.{is_control, without_control, last_control, live_control}
use Rattle.vm_model.specs.Homes.{object_home}
use Rattle.vm_model.specs.Local.{LocalEffect, Local, Place, Zeroes, Raises, Stores, Drops, Moves, Returns, Asks, Unlocks, TakesPage, TakesNothing, TakesError}
use Rattle.vm_model.specs.Local.{TakesLock, Begins, Ends, Elsewhere, effect, is_on, local, local_after, merge_effect}
use Rattle.vm_model.specs.Moments.{EachEvent}
use Rattle.vm_model.specs.Named.{named}
use Rattle.vm_model.specs.Regions.{Region, backing_of, copied, delayed, made, next_region, object_pages, region_of, shadowed, unmarked}
use Rattle.vm_model.specs.Tasks.{host_of}
use Rattle.vm_model.specs.Words.{in_range}
use Rattle.vm_legal.specs.Frames.{returns_out}
use Rattle.vm_legal.specs.Licences.{Bottoms, CopiesPage, Fills, Finding, HasCause, MaySendUp, Pushing, Raises as RaisesPage, is_paged}
use Rattle.vm_legal.specs.Merges.{IsPair, Merges}
use Rattle.vm_legal.specs.Outside.{Outside, is_file}
use Rattle.vm_legal.specs.Undelivered.{undelivered}
use Rattle.vm_legal.specs.Walks.{Sinks, page_on, sight}
use Rattle.vm_legal.proofs.Numbering.{named_regions}
use Rattle.vm_quiet.specs.Places.{AllPaged}
use Rattle.vm_quiet.proofs.Letters.{never, outs, outs_sent, outs_taken}

-- each object is temporary or a file
pub paged : (header : Header) → AllPaged header → (o : ℕ) → is_paged header o ≡ true
paged header all o = by (nat_lt o (named header)) refl
  where
    below : (a b : ℕ) → nat_lt a b ≡ true → a < b
    below a b is = grind (arith, nat_tests)

    by : (b : Bool) → nat_lt o (named header) ≡ b → (not b || is_file header o) ≡ true
    by true is = all o (below o (named header) is)
    by false is = refl

pub not_true : (b : Bool) → (b ≡ true → ⊥) → b ≡ false
not_true true isnt = absurd (isnt refl)
not_true false isnt = refl

-- three numbers that are tested to be others
pub there : (P : ℕ → ℕ → ℕ → Type 0) (a b c h o p : ℕ) → (a == h && (b == o && c == p)) ≡ true → P a b c → P h o p
there P a b c h o p is holds =
    subst (λ x. P h o x) (third a b c h o p is) (subst (λ x. P h x c) (second a b c h o p is) (subst (λ x. P x b c) (only a b c h o p is) holds))
  where
    only : (a b c h o p : ℕ) → (a == h && (b == o && c == p)) ≡ true → a ≡ h
    only a b c h o p is = grind (arith, nat_tests)

    second : (a b c h o p : ℕ) → (a == h && (b == o && c == p)) ≡ true → b ≡ o
    second a b c h o p is = grind (arith, nat_tests)

    third : (a b c h o p : ℕ) → (a == h && (b == o && c == p)) ≡ true → c ≡ p
    third a b c h o p is = grind (arith, nat_tests)

pub own_number : (a b : ℕ) → (a == b) ≡ true → a ≡ b
own_number a b is = grind (arith, nat_tests)

-- a page that is not here, nor asked
pub record IsVacant (page : Local) : Type 0 where
  pub away : page.here ≡ false
  pub unasked : page.asked ≡ false

pub vacant_zeroed : (header : Header) (host o p : ℕ) (past : List Event) → Fills header host o p past ⊎ Bottoms header host o p past
    → IsVacant (page_on header host o p past)
vacant_zeroed header host o p past (inl c) = record { away = c.away; unasked = c.unasked }
vacant_zeroed header host o p past (inr c) = by c.steps c.sinks
  where
    by : (n : ℕ) → Sinks (λ k q. sight header host k q past) (λ k. backing_of header k past) n o p → IsVacant (page_on header host o p past)
    by zero s = record { away = s.0.away; unasked = s.0.unasked }
    by (suc n) s = record { away = s.0.away; unasked = s.0.unasked }

pub vacant_raised : (header : Header) (host lower lower_page o p : ℕ) (past : List Event) → RaisesPage header host lower lower_page o p past
    → IsVacant (page_on header host o p past)
vacant_raised header host lower lower_page o p past (Finding c) = record { away = c.walks.0.away; unasked = c.walks.0.unasked }
vacant_raised header host lower lower_page o p past (Pushing c) = record { away = c.away; unasked = c.unasked }

pub vacant_copied : (header : Header) (host task index object page target : ℕ) (past : List Event) → CopiesPage header task index object page target past
    → is_on host (host_of task past) ≡ true → IsVacant (page_on header host target index past)
vacant_copied header host task index object page target past c on =
    let same : is_on host (Some c.waits.at.host) ≡ true = subst (λ (h : Option ℕ). is_on host h ≡ true) c.waits.at.lives on in
    subst (λ h. IsVacant (page_on header h target index past)) (is c.waits.at.host host same) (record { away = c.away; unasked = c.unasked })
  where
    is : (a b : ℕ) → (a == b) ≡ true → a ≡ b
    is a b e = grind (arith, nat_tests)

-- a place and the live control
pub record Sane (page : Local) (live : Option ℕ) : Type 0 where
  pub apart : page.here ≡ true → page.asked ≡ false
  pub living : page.asked ≡ true → is_some live ≡ true

abbrev pub Lives : Option ℕ → Option ℕ → Type 0
Lives live after = is_some live ≡ true → is_some after ≡ true

-- what an effect needs, with the live control before and after it
abbrev pub Allowed : LocalEffect → Local → Option ℕ → Option ℕ → Type 0
Allowed Zeroes was live after = IsVacant was
Allowed (Raises bytes) was live after = IsVacant was
Allowed (Stores at bytes) was live after = Lives live after
Allowed Drops was live after = was.asked ≡ false
Allowed (Moves page) was live after = was.asked ≡ false
Allowed (Returns keep) was live after = was.here ≡ true
Allowed Asks was live after = IsVacant was × (is_some after ≡ true)
Allowed Unlocks was live after = Lives live after
Allowed (TakesPage lock precious bytes) was live after = Unit {0}
Allowed TakesNothing was live after = Unit {0}
Allowed TakesError was live after = Unit {0}
Allowed (TakesLock lock flush) was live after = Lives live after
Allowed Begins was live after = Unit {0}
Allowed Ends was live after = Unit {0}
Allowed Elsewhere was live after = Lives live after

sane_moved : (size : ℕ) (e : LocalEffect) (was : Local) (live after : Option ℕ) → Allowed e was live after → Sane was live → Sane (local_after size e was) after
sane_moved size Zeroes was live after c s = record { apart = λ is. c.unasked; living = λ is. never (sym c.unasked ∙ is) }
sane_moved size (Raises bytes) was live after c s = record { apart = λ is. c.unasked; living = λ is. never (sym c.unasked ∙ is) }
sane_moved size (Stores at bytes) was live after c s = record { apart = s.apart; living = λ is. c (s.living is) }
sane_moved size Drops was live after c s = record { apart = λ is. c; living = λ is. never (sym c ∙ is) }
sane_moved size (Moves page) was live after c s = record { apart = λ is. c; living = λ is. never (sym c ∙ is) }
sane_moved size (Returns true) was live after c s = record { apart = s.apart; living = λ is. never (sym (s.apart c) ∙ is) }
sane_moved size (Returns false) was live after c s = record { apart = λ is. s.apart c; living = λ is. never (sym (s.apart c) ∙ is) }
sane_moved size Asks was live after c s = record { apart = λ is. never (sym c.0.away ∙ is); living = λ is. c.1 }
sane_moved size Unlocks was live after c s = record { apart = s.apart; living = λ is. c (s.living is) }
sane_moved size (TakesPage lock precious bytes) was live after c s = by was.asked refl
  where
    by : (b : Bool) → was.asked ≡ b → Sane (if b then record was {
      here = true;
      bytes = bytes;
      lock = lock;
      dirty = false;
      precious = precious;
      unlocking = false;
      asked = false;
    } else was) after
    by true is = record { apart = λ x. refl; living = λ x. never x }
    by false is = record { apart = s.apart; living = λ x. never (sym is ∙ x) }
sane_moved size TakesNothing was live after c s = by was.asked refl
  where
    by : (b : Bool) → was.asked ≡ b → Sane (if b then record was { asked = false; absent = true } else was) after
    by true is = record { apart = λ x. refl; living = λ x. never x }
    by false is = record { apart = s.apart; living = λ x. never (sym is ∙ x) }
sane_moved size TakesError was live after c s = record { apart = λ x. refl; living = λ x. never x }
sane_moved size (TakesLock lock flush) was live after c s = by was.here
  where
    by : (b : Bool) → Sane (if b then record was { lock = if flush || lock == 8 then was.lock else lock; unlocking = false } else was) after
    by true = record { apart = s.apart; living = λ is. c (s.living is) }
    by false = record { apart = s.apart; living = λ is. c (s.living is) }
sane_moved size Begins was live after c s = record { apart = λ x. refl; living = λ x. never x }
sane_moved size Ends was live after c s = record { apart = λ x. refl; living = λ x. never x }
sane_moved size Elsewhere was live after c s = record { apart = s.apart; living = λ is. c (s.living is) }

-- a declared object's region is over that object for ever
pub record IsDeclaredRegion (r : ℕ) (region : Region) : Type 0 where
  pub top : region.top ≡ r
  pub unmarked : region.mark ≡ false

pub record Base (header : Header) (host : ℕ) (past : List Event) : Type 0 where
  pub sane : (o p : ℕ) → Sane (page_on header host o p past) (live_control host o past)
  pub numbered : (o : ℕ) → last_control host o past ≡ 0 → is_some (live_control host o past) ≡ false
  pub returns : returns_out host past ≡ outs host (undelivered past)
  pub declared : (r : ℕ) → r < named header → IsDeclaredRegion r (region_of header r past)

allowed_if : (t : Bool) (e : LocalEffect) (was : Local) (live after : Option ℕ) → (t ≡ true → Allowed e was live after) → Lives live after
    → Allowed (if t then e else Elsewhere) was live after
allowed_if true e was live after c keeps = c refl
allowed_if false e was live after c keeps = keeps

allowed_two : (s t : Bool) (e : LocalEffect) (was : Local) (live after : Option ℕ) → (s ≡ true → t ≡ true → Allowed e was live after) → Lives live after
    → Allowed (if s then (if t then e else Elsewhere) else Elsewhere) was live after
allowed_two true true e was live after c keeps = c refl refl
allowed_two true false e was live after c keeps = keeps
allowed_two false t e was live after c keeps = keeps

pub join : (a b c : Bool) → (a && b) ≡ true → c ≡ true → (a && (b && c)) ≡ true
join true true true e f = refl
join true true false e f = never f
join true false c e f = never e
join false b c e f = never e

pub left : (a b : Bool) → (a && b) ≡ true → a ≡ true
left true b e = refl
left false b e = never e

pub right : (a b : Bool) → (a && b) ≡ true → b ≡ true
right true b e = e
right false b e = never e

is_some_of : (live : Option ℕ) (k : ℕ) → live ≡ Some k → is_some live ≡ true
is_some_of live k e = ap (λ (l : Option ℕ). is_some l) e

pub control_of : (live : Option ℕ) (k : ℕ) → live ≡ Some k → is_control k live ≡ true
control_of live k e = ap (λ (l : Option ℕ). is_control k l) e ∙ own k
  where
    own : (k : ℕ) → (k == k) ≡ true
    own k = grind (arith, nat_tests)

begins_allowed : (b : Bool) (control : ℕ) (page : Local) (live : Option ℕ)
    → Allowed (if b then Begins else Elsewhere) page live (if b then Some control else live)
begins_allowed true control page live = tt
begins_allowed false control page live = λ is. is

elsewhere_allowed : (b : Bool) (page : Local) (live : Option ℕ) → Allowed (if b then Elsewhere else Elsewhere) page live live
elsewhere_allowed true page live = λ is. is
elsewhere_allowed false page live = λ is. is

up_allowed : (header : Header) (host : ℕ) (at : HostId) (object : ObjectId) (m : Message) (past : List Event) (o p : ℕ)
    → ((doing : Command) × MaySendUp header doing at.0 object.0 m past)
    → Allowed (effect header host (record { object = o; page = p }) (λ source. local header host source past) (event.Sent (Up at object) m) past)
    (page_on header host o p past) (live_control host o past) (live_control host o (event.Sent (Up at object) m ∷ past))
up_allowed header host at object (message.Init control size) past o p c =
    begins_allowed (at.0 == host && object.0 == o) control (page_on header host o p past) (live_control host o past)
up_allowed header host at object (message.Create control size) past o p c =
    begins_allowed (at.0 == host && object.0 == o) control (page_on header host o p past) (live_control host o past)
up_allowed header host at object (message.Terminate control) past o p c =
    by (at.0 == host && object.0 == o) (is_control control (live_control host o past))
    (λ is. control_of (live_control host o past) control (at_place (λ h k. live_control h k past ≡ Some control) at.0 object.0 host o is c.1.live))
  where
    by : (b t : Bool) → (b ≡ true → t ≡ true) → Allowed (if b then (if t then Ends else Elsewhere) else Elsewhere) (page_on header host o p past)
        (live_control host o past) (if b then without_control control (live_control host o past) else live_control host o past)
    by true true is = tt
    by true false is = never (is refl)
    by false t is = λ x. x
up_allowed header host at object (message.Request control page access) past o p c =
    allowed_two (at.0 == host && object.0 == o) (page.0 == p && is_control control (live_control host o past)) Asks (page_on header host o p past)
    (live_control host o past) (live_control host o past)
    (λ s t. (
      there (λ h k q. IsVacant (page_on header h k q past)) at.0 object.0 page.0 host o p
          (join (at.0 == host) (object.0 == o) (page.0 == p) s (left (page.0 == p) (is_control control (live_control host o past)) t))
          (record { away = c.1.away; unasked = c.1.unasked }),
      is_some_of (live_control host o past) control (at_place (λ h k. live_control h k past ≡ Some control) at.0 object.0 host o s c.1.live),
    ))
    (λ is. is)
up_allowed header host at object (message.Return control page dirty keep bytes) past o p c =
    allowed_two (at.0 == host && object.0 == o) (page.0 == p) (Returns keep) (page_on header host o p past) (live_control host o past)
    (live_control host o past)
    (λ s t. there (λ h k q. (page_on header h k q past).here ≡ true) at.0 object.0 page.0 host o p (join (at.0 == host) (object.0 == o) (page.0 == p) s t)
    c.1.here)
    (λ is. is)
up_allowed header host at object (message.Unlock control page access) past o p c =
    allowed_two (at.0 == host && object.0 == o) (page.0 == p) Unlocks (page_on header host o p past) (live_control host o past) (live_control host o past)
    (λ s t. λ is. is) (λ is. is)
up_allowed header host at object (message.Completed control page count) past o p c =
    elsewhere_allowed (at.0 == host && object.0 == o) (page_on header host o p past) (live_control host o past)
up_allowed header host at object (message.Changed control cache strategy) past o p c =
    elsewhere_allowed (at.0 == host && object.0 == o) (page_on header host o p past) (live_control host o past)
up_allowed header host at object m past o p c = absurd c.1

down_allowed : (header : Header) (host : ℕ) (at : HostId) (object : ObjectId) (control : ℕ) (m : Message) (past : List Event) (o p : ℕ)
    → Allowed (effect header host (record { object = o; page = p }) (λ source. local header host source past) (event.Taken (Down at object control) m) past)
    (page_on header host o p past) (live_control host o past) (live_control host o past)
down_allowed header host at object control (message.Supply page lock precious bytes) past o p =
    allowed_two (at.0 == host && (object.0 == o && is_control control (live_control host o past))) (page.0 == p) (TakesPage lock precious bytes)
    (page_on header host o p past) (live_control host o past) (live_control host o past) (λ s t. tt) (λ is. is)
down_allowed header host at object control (message.Unavailable page) past o p =
    allowed_two (at.0 == host && (object.0 == o && is_control control (live_control host o past))) (page.0 == p) TakesNothing (page_on header host o p past)
    (live_control host o past) (live_control host o past) (λ s t. tt) (λ is. is)
down_allowed header host at object control (message.Error page reason) past o p =
    allowed_two (at.0 == host && (object.0 == o && is_control control (live_control host o past))) (page.0 == p) TakesError (page_on header host o p past)
    (live_control host o past) (live_control host o past) (λ s t. tt) (λ is. is)
down_allowed header host at object control (message.Lock page count returns flush lock reply) past o p =
    allowed_two (at.0 == host && (object.0 == o && is_control control (live_control host o past))) (in_range p page.0 count) (TakesLock lock flush)
    (page_on header host o p past) (live_control host o past) (live_control host o past)
    (λ s t. λ is. is) (λ is. is)
down_allowed header host at object control m past o p =
    elsewhere_allowed (at.0 == host && (object.0 == o && is_control control (live_control host o past))) (page_on header host o p past)
    (live_control host o past)

-- an effect of a merge: a page of the lower moves up to the upper, the lower's goes, or it is about something else
pub merge_case : (P : LocalEffect → Type 0) (on : Bool) (upper lower shift upper_pages lower_pages o p : ℕ) (others : Place → Local)
    → (on ≡ true → o ≡ upper → (others (record { object = lower; page = shift + p })).here ≡ true
    → P (Moves (others (record { object = lower; page = shift + p }))))
    → (on ≡ true → o ≡ lower → P Drops) → P Elsewhere
    → P (if on then merge_effect upper lower shift upper_pages lower_pages (record { object = o; page = p }) others else Elsewhere)
merge_case P on upper lower shift upper_pages lower_pages o p others moved gone other =
    by on (o == upper) (nat_lt p upper_pages && (nat_lt (shift + p) lower_pages && (there.here && not (others (record { object = o; page = p })).here)))
    (o == lower && nat_lt p lower_pages)
    (λ b s t. moved b (own_number o upper s) (middle (nat_lt p upper_pages) (nat_lt (shift + p) lower_pages) there.here
    (not (others (record { object = o; page = p })).here) t))
    (λ b u. gone b (own_number o lower (left (o == lower) (nat_lt p lower_pages) u)))
  where
    there : Local
    there = others (record { object = lower; page = shift + p })

    middle : (a b c d : Bool) → (a && (b && (c && d))) ≡ true → c ≡ true
    middle a b c d is = left c d (right b (c && d) (right a (b && (c && d)) is))

    by : (b s t u : Bool) → (b ≡ true → s ≡ true → t ≡ true → P (Moves there)) → (b ≡ true → u ≡ true → P Drops)
        → P (if b then if s then if t then Moves there else Elsewhere else if u then Drops else Elsewhere else Elsewhere)
    by true true true u up low = up refl refl refl
    by true true false u up low = other
    by true false t true up low = low refl refl
    by true false t false up low = other
    by false s t u up low = other

pub merged_pair : (header : Header) (host upper lower : ℕ) (past : List Event) → Merges header upper lower past
    → is_on host (object_home upper past) ≡ true → IsPair header host upper lower past
merged_pair header host upper lower past c on =
    let same : is_on host (Some c.host) ≡ true = subst (λ (h : Option ℕ). is_on host h ≡ true) c.home on in
    subst (λ h. IsPair header h upper lower past) (own_number c.host host same) c.pair

pub unasked_dead : (header : Header) (host o p : ℕ) (past : List Event) → Base header host past → is_some (live_control host o past) ≡ false
    → (page_on header host o p past).asked ≡ false
unasked_dead header host o p past base dead = not_true (page_on header host o p past).asked (λ is. never (sym dead ∙ (base.sane o p).living is))

-- no page is asked of objects that are merged
pub merged_unasked : (header : Header) (host upper lower p : ℕ) (past : List Event) → Base header host past → Merges header upper lower past
    → is_on host (object_home upper past) ≡ true
    → ((page_on header host upper p past).asked ≡ false) × ((page_on header host lower p past).asked ≡ false)
merged_unasked header host upper lower p past base c on =
    let pair = merged_pair header host upper lower past c on in (
      unasked_dead header host upper p past base (base.numbered upper pair.upper_never),
      unasked_dead header host lower p past base (base.numbered lower pair.lower_never),
    )

allowed_next : (header : Header) (outside : Outside) (host : ℕ) (e : Event) (past : List Event) → Base header host past → HasCause header outside e past
    → (o p : ℕ)
    → Allowed (effect header host (record { object = o; page = p }) (λ source. local header host source past) e past) (page_on header host o p past)
    (live_control host o past) (live_control host o (e ∷ past))
allowed_next header outside host (event.Zeroed at object page) past base c o p =
    allowed_if (at.0 == host && (object.0 == o && page.0 == p)) Zeroes (page_on header host o p past) (live_control host o past) (live_control host o past)
    (λ is. there (λ h k q. IsVacant (page_on header h k q past)) at.0 object.0 page.0 host o p is (vacant_zeroed header at.0 object.0 page.0 past c.1))
    (λ is. is)
allowed_next header outside host (event.Raised at lower lower_page upper upper_page) past base c o p =
    allowed_if (at.0 == host && (upper.0 == o && upper_page.0 == p)) (Raises (page_on header host lower.0 lower_page.0 past).bytes)
    (page_on header host o p past) (live_control host o past) (live_control host o past)
    (λ is. there (λ h k q. IsVacant (page_on header h k q past)) at.0 upper.0 upper_page.0 host o p is
    (vacant_raised header at.0 lower.0 lower_page.0 upper.0 upper_page.0 past c.1))
    (λ is. is)
allowed_next header outside host (event.CopiedPage task page object object_page target) past base c o p =
    allowed_if (is_on host (host_of task.0 past) && (target.0 == o && page.0 == p)) (Raises (page_on header host object.0 object_page.0 past).bytes)
    (page_on header host o p past) (live_control host o past) (live_control host o past)
    (λ is. at_place (λ k q. IsVacant (page_on header host k q past)) target.0 page.0 o p
    (right (is_on host (host_of task.0 past)) (target.0 == o && page.0 == p) is)
    (vacant_copied header host task.0 page.0 object.0 object_page.0 target.0 past c.1
    (left (is_on host (host_of task.0 past)) (target.0 == o && page.0 == p) is)))
    (λ is. is)
allowed_next header outside host (event.Stored task object page at size value) past base c o p =
    allowed_if (is_on host (host_of task.0 past) && (object.0 == o && page.0 == p)) (Stores at (little_endian_bytes size value)) (page_on header host o p past)
    (live_control host o past) (live_control host o past) (λ is. λ x. x) (λ is. is)
allowed_next header outside host (event.Dropped at object page) past base c o p =
    allowed_if (at.0 == host && (object.0 == o && page.0 == p)) Drops (page_on header host o p past) (live_control host o past) (live_control host o past)
    (λ is. (base.sane o p).apart (there (λ h k q. (page_on header h k q past).here ≡ true) at.0 object.0 page.0 host o p is c.1.here))
    (λ is. is)
allowed_next header outside host (event.Merged upper lower) past base c o p =
    merge_case (λ e. Allowed e (page_on header host o p past) (live_control host o past) (live_control host o past)) (is_on host (object_home upper.0 past))
    upper.0 lower.0 (backing_of header upper.0 past).shift (object_pages header upper.0 past) (object_pages header lower.0 past) o p
    (λ source. local header host source past)
    (λ on own here. subst (λ k. (page_on header host k p past).asked ≡ false) (sym own) (merged_unasked header host upper.0 lower.0 p past base c.1 on).0)
    (λ on own. subst (λ k. (page_on header host k p past).asked ≡ false) (sym own) (merged_unasked header host upper.0 lower.0 p past base c.1 on).1)
    (λ is. is)
allowed_next header outside host (event.Sent (Up at object) m) past base c o p = up_allowed header host at object m past o p c
allowed_next header outside host (event.Sent (Down at object control) m) past base c o p = λ is. is
allowed_next header outside host (event.Taken (Up at object) m) past base c o p = λ is. is
allowed_next header outside host (event.Taken (Down at object control) m) past base c o p = down_allowed header host at object control m past o p
allowed_next header outside host e past base c o p = λ is. is

-- a number of a control is never 0
numbered_if : (b : Bool) (control last : ℕ) (live : Option ℕ) → 1 ≤ control → (last ≡ 0 → is_some live ≡ false) → (if b then control else last) ≡ 0
    → is_some (if b then Some control else live) ≡ false
numbered_if true control last live some was none = absurd (omega (arith, some, none))
numbered_if false control last live some was none = was none

none_without : (b : Bool) (control : ℕ) (live : Option ℕ) → is_some live ≡ false → is_some (if b then without_control control live else live) ≡ false
none_without true control None is = refl
none_without true control (Some n) is = never (sym is)
none_without false control live is = is

numbered_next : (header : Header) (outside : Outside) (host : ℕ) (e : Event) (past : List Event) → Base header host past → HasCause header outside e past
    → (o : ℕ) → last_control host o (e ∷ past) ≡ 0 → is_some (live_control host o (e ∷ past)) ≡ false
numbered_next header outside host (event.Sent (Up at object) (message.Init control size)) past base c o =
    numbered_if (at.0 == host && object.0 == o) control (last_control host o past) (live_control host o past) (omega (arith, c.1.number)) (base.numbered o)
numbered_next header outside host (event.Sent (Up at object) (message.Create control size)) past base c o =
    numbered_if (at.0 == host && object.0 == o) control (last_control host o past) (live_control host o past) (omega (arith, c.1.number)) (base.numbered o)
numbered_next header outside host (event.Sent (Up at object) (message.Terminate control)) past base c o =
    λ none. none_without (at.0 == host && object.0 == o) control (live_control host o past) (base.numbered o none)
numbered_next header outside host e past base c o = base.numbered o

returns_next : (header : Header) (outside : Outside) (host : ℕ) (e : Event) (past : List Event) → Base header host past → HasCause header outside e past
    → returns_out host (e ∷ past) ≡ outs host (undelivered (e ∷ past))
returns_next header outside host (event.Sent d m) past base c = outs_sent host d m past base.returns
returns_next header outside host (event.Taken d m) past base c = outs_taken host d m past c.1.0 base.returns
returns_next header outside host e past base c = base.returns

behind_declared : (header : Header) (past : List Event) (r new : ℕ) → r < named header → new ≡ next_region header past → (r == new) ≡ false
behind_declared header past r new below next = apart r new (omega (arith, below, next, named_regions header past))
  where
    apart : (a b : ℕ) → a < b → (a == b) ≡ false
    apart a b less = grind (arith, nat_tests)

declared_next : (header : Header) (outside : Outside) (e : Event) (past : List Event) → HasCause header outside e past → (r : ℕ) → r < named header
    → IsDeclaredRegion r (region_of header r past) → IsDeclaredRegion r (region_of header r (e ∷ past))
declared_next header outside (event.RegionMade region object pages) past c r below was = by (r == region.0) (behind_declared header past r region.0 below c.1.0)
  where
    by : (b : Bool) → b ≡ false → IsDeclaredRegion r (made b object.0 pages (region_of header r past))
    by true is = never (sym is)
    by false is = record { top = was.top; unmarked = was.unmarked }
declared_next header outside (event.RegionCopied region source offset pages) past c r below was =
    by (r == region.0) (r == source.0) (behind_declared header past r region.0 below c.1.next) (apart r source.0 (omega (arith, below, c.1.temporary)))
  where
    apart : (a b : ℕ) → a < b → (a == b) ≡ false
    apart a b less = grind (arith, nat_tests)

    by : (b s : Bool) → b ≡ false → s ≡ false
        → IsDeclaredRegion r (copied b s offset pages (region_of header source.0 past) (region_of header r past))
    by true s is not = never (sym is)
    by false true is not = never (sym not)
    by false false is not = record { top = was.top; unmarked = was.unmarked }
declared_next header outside (event.Delayed region source offset pages copy) past c r below was =
    by (r == region.0) (behind_declared header past r region.0 below c.1.next)
  where
    by : (b : Bool) → b ≡ false → IsDeclaredRegion r (delayed b copy.0 offset pages (region_of header r past))
    by true is = never (sym is)
    by false is = record { top = was.top; unmarked = was.unmarked }
declared_next header outside (event.Shadowed region new old) past c r below was = by (r == region.0) refl
  where
    by : (b : Bool) → (r == region.0) ≡ b → IsDeclaredRegion r (shadowed b new.0 (region_of header r past))
    by true is =
        never (sym (subst (λ k. (region_of header k past).mark ≡ false) (own_number r region.0 is) was.unmarked) ∙ c.1.marked)
    by false is = record { top = was.top; unmarked = was.unmarked }
declared_next header outside (event.Unmarked region) past c r below was = by (r == region.0)
  where
    by : (b : Bool) → IsDeclaredRegion r (unmarked b (region_of header r past))
    by true = record { top = was.top; unmarked = refl }
    by false = record { top = was.top; unmarked = was.unmarked }
declared_next header outside e past c r below was = was

pub base_next : (header : Header) (outside : Outside) (host : ℕ) (e : Event) (past : List Event) → Base header host past → HasCause header outside e past
    → Base header host (e ∷ past)
base_next header outside host e past base c =
    record {
      sane =
          λ o p. sane_moved header.size (effect header host (record { object = o; page = p }) (λ source. local header host source past) e past)
          (page_on header host o p past) (live_control host o past) (live_control host o (e ∷ past)) (allowed_next header outside host e past base c o p)
          (base.sane o p);
      numbered = numbered_next header outside host e past base c;
      returns = returns_next header outside host e past base c;
      declared = λ r below. declared_next header outside e past c r below (base.declared r below);
    }

pub base_of : (header : Header) (outside : Outside) (host : ℕ) (history : List Event) → EachEvent (HasCause header outside) history → Base header host history
base_of header outside host [] c =
    record {
      sane = λ o p. record { apart = λ is. refl; living = λ is. never is };
      numbered = λ o is. refl;
      returns = refl;
      declared = λ r below. record { top = refl; unmarked = refl };
    }
base_of header outside host (e ∷ past) c = base_next header outside host e past (base_of header outside host past c.1) c.0
