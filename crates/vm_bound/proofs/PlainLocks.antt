-- No page of temporary memory or of a file is locked, where their pagers lock nothing.
use Rattle.std.proofs.Common.{Bool, List, [], arith, false, inl, inr, refl, subst, sym, true, ℕ, ◌&&◌, ◌==◌, ◌∷◌, ◌+◌, ◌≡◌, ◌≤◌, ◌⊎◌}
use Rattle.std.proofs.lemmas.Bool.Decides.{nat_tests}
use Rattle.std.specs.Prelude.{if◌then◌else◌, ◌||◌}
use Rattle.vm_base.specs.Pages.{little_endian_bytes}
use Rattle.vm_legal.specs.Returned.{OnlyReturned}
use Rattle.vm_model.specs.Controls.{is_control, live_control}
use Rattle.vm_model.specs.Local.{Asks, Begins, Drops, Elsewhere, Ends, Local, LocalEffect, Moves, Place, Raises, Returns, Stores, TakesError, TakesLock}
use Rattle.vm_model.specs.Local.{TakesNothing}
use Rattle.vm_model.specs.Local.{TakesPage, Unlocks, Zeroes, effect, is_on, is_place, local, local_after, merge_effect, sent_effect, taken_effect}
use Rattle.vm_model.specs.Homes.{object_home}
use Rattle.vm_model.specs.Named.{named}
use Rattle.vm_model.specs.Regions.{backing_of, object_pages}
use Rattle.vm_model.specs.Tasks.{host_of}
use Rattle.vm_model.specs.Words.{in_range}
use Rattle.vm_model.specs.declared.event.Event.{Event}
use Rattle.vm_model.specs.declared.event.Event.TheVariants as event
use Rattle.vm_model.specs.declared.message.Channel.TheVariants.{Down, Up}
use Rattle.vm_model.specs.declared.message.Message.{Message}
use Rattle.vm_model.specs.declared.message.Message.TheVariants as message
use Rattle.vm_model.specs.declared.script.Header.{Header}
use Rattle.vm_model.specs.Moments.{EachEvent}
use Rattle.vm_legal.specs.Licences.{HasCause}
use Rattle.vm_legal.specs.Outside.{Outside, is_file}
use Rattle.vm_returned.proofs.Returned.{only_returned}

-- a temporary object, or a file
abbrev pub IsPlain : Header → ℕ → Type 0
IsPlain header o = (named header ≤ o) ⊎ (is_file header o ≡ true)

same_of : (a b : ℕ) → (a == b) ≡ true → a ≡ b
same_of a b is = grind (arith, nat_tests)

-- nothing is locked by this
abbrev IsOpen : LocalEffect → Type 0
IsOpen (TakesPage lock precious bytes) = lock ≡ 0
IsOpen (TakesLock lock flush) = lock ≡ 8
IsOpen (Moves page) = page.lock ≡ 0
IsOpen other = Unit {0}

open_if : (b : Bool) (f g : LocalEffect) → IsOpen f → IsOpen g → IsOpen (if b then f else g)
open_if true f g one other = one
open_if false f g one other = other

open_either : (b : Bool) (now was : Local) → now.lock ≡ 0 → was.lock ≡ 0 → (if b then now else was).lock ≡ 0
open_either true now was one other = one
open_either false now was one other = other

open_after : (size : ℕ) (f : LocalEffect) (was : Local) → IsOpen f → was.lock ≡ 0 → (local_after size f was).lock ≡ 0
open_after size Zeroes was opens is = refl
open_after size (Raises bytes) was opens is = refl
open_after size (Stores at bytes) was opens is = is
open_after size Drops was opens is = refl
open_after size (Moves page) was opens is = opens
open_after size (Returns true) was opens is = is
open_after size (Returns false) was opens is = refl
open_after size Asks was opens is = is
open_after size Unlocks was opens is = is
open_after size (TakesPage lock precious bytes) was opens is = open_either was.asked
    (record was { here = true; bytes = bytes; lock = lock; dirty = false; precious = precious; unlocking = false; asked = false }) was opens is
open_after size TakesNothing was opens is = open_either was.asked (record was { asked = false; absent = true }) was is is
open_after size TakesError was opens is = is
open_after size (TakesLock lock flush) was opens is =
    open_either was.here (record was { lock = if flush || lock == 8 then was.lock else lock; unlocking = false }) was kept is
  where
    by : (b : Bool) → (if b || lock == 8 then was.lock else lock) ≡ 0
    by true = is
    by false = subst (λ (n : ℕ). (if n == 8 then was.lock else n) ≡ 0) (sym opens) is

    kept : (if flush || lock == 8 then was.lock else lock) ≡ 0
    kept = by flush
open_after size Begins was opens is = is
open_after size Ends was opens is = is
open_after size Elsewhere was opens is = is

open_supplied : (a b d c : Bool) (lock : ℕ) (precious : Bool) (bytes : List ℕ) → (a ≡ true → b ≡ true → lock ≡ 0)
    → IsOpen (if a && (b && d) then (if c then TakesPage lock precious bytes else Elsewhere) else Elsewhere)
open_supplied false b d c lock precious bytes plain = tt
open_supplied true false d c lock precious bytes plain = tt
open_supplied true true false c lock precious bytes plain = tt
open_supplied true true true false lock precious bytes plain = tt
open_supplied true true true true lock precious bytes plain = plain refl refl

open_locked : (a b d c : Bool) (lock : ℕ) (flush : Bool) → (a ≡ true → b ≡ true → lock ≡ 8)
    → IsOpen (if a && (b && d) then (if c then TakesLock lock flush else Elsewhere) else Elsewhere)
open_locked false b d c lock flush same = tt
open_locked true false d c lock flush same = tt
open_locked true true false c lock flush same = tt
open_locked true true true false lock flush same = tt
open_locked true true true true lock flush same = same refl refl

-- a merge moves pages of temporary objects
open_merged : (header : Header) (upper lower shift upper_pages lower_pages : ℕ) (place : Place) (others : Place → Local)
    → ((source : Place) → IsPlain header source.object → (others source).lock ≡ 0) → named header ≤ lower
    → IsOpen (merge_effect upper lower shift upper_pages lower_pages place others)
open_merged header upper lower shift upper_pages lower_pages place others unlocked high =
    open_if (place.object == upper) _ _ (open_if _ (Moves (others below)) Elsewhere (unlocked below (inl high)) tt) (open_if _ Drops Elsewhere tt tt)
  where
    below : Place
    below = record { object = lower; page = shift + place.page }

open_effect : (header : Header) (h o p : ℕ) (others : Place → Local) → ((source : Place) → IsPlain header source.object → (others source).lock ≡ 0)
    → (e : Event) (past : List Event) → IsPlain header o → OnlyReturned header h (e ∷ past)
    → IsOpen (effect header h (record { object = o; page = p }) others e past)
open_effect header h o p others unlocked (event.Zeroed at object page) past kind only =
    open_if (at.0 == h && is_place (record { object = o; page = p }) object.0 page.0) Zeroes Elsewhere tt tt
open_effect header h o p others unlocked (event.Raised at lower lower_page upper upper_page) past kind only =
    open_if (at.0 == h && is_place (record { object = o; page = p }) upper.0 upper_page.0) (Raises (others (record { object = lower.0; page = lower_page.0 })).bytes) Elsewhere tt
    tt
open_effect header h o p others unlocked (event.CopiedPage task page object object_page target) past kind only =
    open_if (is_on h (host_of task.0 past) && is_place (record { object = o; page = p }) target.0 page.0)
    (Raises (others (record { object = object.0; page = object_page.0 })).bytes) Elsewhere tt tt
open_effect header h o p others unlocked (event.Stored task object page at size value) past kind only =
    open_if (is_on h (host_of task.0 past) && is_place (record { object = o; page = p }) object.0 page.0) (Stores at (little_endian_bytes size value)) Elsewhere tt tt
open_effect header h o p others unlocked (event.Dropped at object page) past kind only =
    open_if (at.0 == h && is_place (record { object = o; page = p }) object.0 page.0) Drops Elsewhere tt tt
open_effect header h o p others unlocked (event.Sent (Up at object) m) past kind only =
    open_if (at.0 == h && object.0 == o) (sent_effect p (live_control h o past) m) Elsewhere (by m) tt
  where
    by : (m : Message) → IsOpen (sent_effect p (live_control h o past) m)
    by (message.Terminate control) = open_if (is_control control (live_control h o past)) Ends Elsewhere tt tt
    by (message.Request control at access) = open_if (at.0 == p && is_control control (live_control h o past)) Asks Elsewhere tt tt
    by (message.Unlock control at access) = open_if (at.0 == p) Unlocks Elsewhere tt tt
    by (message.Return control at dirty keep bytes) = open_if (at.0 == p) (Returns keep) Elsewhere tt tt
    by m = tt
open_effect header h o p others unlocked (event.Taken (Down at object control) (message.Supply page lock precious bytes)) past kind only =
    open_supplied (at.0 == h) (object.0 == o) (is_control control (live_control h o past)) (page.0 == p) lock precious bytes
    (λ on of. elim (subst (λ (z : ℕ). IsPlain header z) (sym (same_of object.0 o of)) kind) [
      | inl high ↦ (only.0 (same_of at.0 h on) high).0
      | inr file ↦ only.1 (same_of at.0 h on) file
    ])
open_effect header h o p others unlocked (event.Taken (Down at object control) (message.Lock page count returns flush lock reply)) past kind only =
    open_locked (at.0 == h) (object.0 == o) (is_control control (live_control h o past)) (in_range p page.0 count) lock flush
    (λ on of. elim (subst (λ (z : ℕ). IsPlain header z) (sym (same_of object.0 o of)) kind) [
      | inl high ↦ absurd (let low = only.0 (same_of at.0 h on) in omega (arith, low, high))
      | inr file ↦ only.1 (same_of at.0 h on) file
    ])
open_effect header h o p others unlocked (event.Taken (Down at object control) (message.Unavailable page)) past kind only =
    open_if (at.0 == h && (object.0 == o && is_control control (live_control h o past))) (taken_effect p (message.Unavailable page)) Elsewhere
    (open_if (page.0 == p) TakesNothing Elsewhere tt tt) tt
open_effect header h o p others unlocked (event.Taken (Down at object control) (message.Error page reason)) past kind only =
    open_if (at.0 == h && (object.0 == o && is_control control (live_control h o past))) (taken_effect p (message.Error page reason)) Elsewhere
    (open_if (page.0 == p) TakesError Elsewhere tt tt) tt
open_effect header h o p others unlocked (event.Taken (Down at object control) m) past kind only =
    open_if (at.0 == h && (object.0 == o && is_control control (live_control h o past))) Elsewhere Elsewhere tt tt
open_effect header h o p others unlocked (event.Merged upper lower) past kind only =
    open_if (is_on h (object_home upper.0 past)) _ Elsewhere
    (open_merged header upper.0 lower.0 (backing_of header upper.0 past).shift (object_pages header upper.0 past) (object_pages header lower.0 past)
    (record { object = o; page = p }) others unlocked only.0) tt
open_effect header h o p others unlocked e past kind only = tt

pub unlocked_plain : (header : Header) (outside : Outside) (h o p : ℕ) (past : List Event) → EachEvent (HasCause header outside) past → IsPlain header o
    → (local header h (record { object = o; page = p }) past).lock ≡ 0
unlocked_plain header outside h o p [] causes kind = refl
unlocked_plain header outside h o p (e ∷ past) causes kind =
    open_after header.size (effect header h (record { object = o; page = p }) (λ source. local header h source past) e past)
    (local header h (record { object = o; page = p }) past)
    (open_effect header h o p (λ source. local header h source past)
    (λ source plain. unlocked_plain header outside h source.object source.page past causes.1 plain) e past kind
    (only_returned header outside h (e ∷ past) causes))
    (unlocked_plain header outside h o p past causes.1 kind)
