-- What a place of memory that isn't shared costs inside a step: 2 where it isn't due, is open and wanted. Most events leave that so, or less.
use Rattle.std.proofs.Common.{ℕ, ◌≡◌, ◌==◌, ◌&&◌, ◌||◌, not, ◌≤◌, Bool, true, false, List, ◌∷◌, Option, Some, None, if◌then◌else◌, ap, sym, refl}
use Rattle.std.proofs.Common.{subst, ◌∙◌}
use Rattle.std.proofs.Common.{arith, inl, inr}
use Rattle.std.proofs.lemmas.Bool.{and_parts}
use Rattle.std.proofs.lemmas.Bool.Decides.{nat_tests}
use Rattle.std.specs.Prelude.{◌⊎◌, is_some, nat_lt}
use Rattle.vm_base.specs.Limits.{most_tasks}
use Rattle.vm_base.specs.Pages.{little_endian_bytes}
use Rattle.vm_base.specs.declared.ids.HostId.{HostId}
use Rattle.vm_base.specs.declared.ids.ObjectId.{ObjectId}
use Rattle.vm_base.specs.declared.ids.PageNo.{PageNo}
use Rattle.vm_base.specs.declared.ids.RegionId.{RegionId}
use Rattle.vm_base.specs.declared.ids.TaskId.{TaskId}
use Rattle.vm_bound.proofs.Owing.{inner_weight, is_due}
use Rattle.vm_bound.proofs.Wanting.{any_ended, any_same}
use Rattle.vm_bound.specs.Accesses.{is_wanted}
use Rattle.vm_bound.specs.Places.{is_open}
use Rattle.vm_legal.specs.Licences.{Bottoms, Fills, zeroes}
use Rattle.vm_legal.specs.Outside.{is_shared, is_wild}
use Rattle.vm_legal.specs.Steps.{Asked, absence_taken, since}
use Rattle.vm_legal.specs.Walks.{page_on, sight}
use Rattle.vm_model.specs.Controls.{live_control}
use Rattle.vm_model.specs.Local as effect
use Rattle.vm_model.specs.Local.{Elsewhere, Local, LocalEffect, is_on, local_after}
use Rattle.vm_model.specs.Named.{named}
use Rattle.vm_model.specs.Tasks.{host_of}
use Rattle.vm_model.specs.declared.event.Device.{Device}
use Rattle.vm_model.specs.declared.event.Event.{Event}
use Rattle.vm_model.specs.declared.event.Event.TheVariants as event
use Rattle.vm_model.specs.declared.event.Way.{Way}
use Rattle.vm_model.specs.declared.message.Channel.TheVariants.{Down}
use Rattle.vm_model.specs.declared.message.Message.{Message}
use Rattle.vm_model.specs.declared.script.Header.{Header}

-- The weight.

-- the place costs something
pub record Costs (header : Header) (h o p : ℕ) (past : List Event) : Type 0 where
  pub due : is_due header h o p (absence_taken header past) past ≡ false
  pub opens : is_open (sight header h o p past) ≡ true
  pub wanted : is_wanted header h o p past ≡ true

abbrev two_where : Bool → Bool → Bool → ℕ
two_where due opens wanted = if not due && (opens && wanted) then 2 else 0

plain_is : (header : Header) (h o p : ℕ) (past : List Event) → is_wild header o ≡ false → is_shared header o ≡ false → inner_weight header h o p past
    ≡ two_where (is_due header h o p (absence_taken header past) past) (is_open (sight header h o p past)) (is_wanted header h o p past)
plain_is header h o p past tame plain = rw (tame, plain) refl

two_lower : (d a w : Bool) (n : ℕ) → (d ≡ false → a ≡ true → w ≡ true → 2 ≤ n) → two_where d a w ≤ n
two_lower true a w n so = omega arith
two_lower false false w n so = omega arith
two_lower false true false n so = omega arith
two_lower false true true n so = so refl refl refl

-- it is at most a number that is 2 or more where the place costs something
pub weight_under : (header : Header) (h o p n : ℕ) (past : List Event) → is_wild header o ≡ false → is_shared header o ≡ false
    → (Costs header h o p past → 2 ≤ n) → inner_weight header h o p past ≤ n
weight_under header h o p n past tame plain so =
    let is = plain_is header h o p past tame plain in
    let less = two_lower (is_due header h o p (absence_taken header past) past) (is_open (sight header h o p past)) (is_wanted header h o p past) n
    (λ due opens wanted. so (record { due = due; opens = opens; wanted = wanted })) in
    omega (arith, is, less)

-- and 2 there
pub weight_two : (header : Header) (h o p : ℕ) (past : List Event) → is_wild header o ≡ false → is_shared header o ≡ false → Costs header h o p past
    → 2 ≤ inner_weight header h o p past
weight_two header h o p past tame plain costs =
    let is = plain_is header h o p past tame plain in
    let two = two (is_due header h o p (absence_taken header past) past) (is_open (sight header h o p past)) (is_wanted header h o p past)
    costs.due costs.opens costs.wanted in
    omega (arith, is, two)
  where
    two : (d a w : Bool) → d ≡ false → a ≡ true → w ≡ true → 2 ≤ two_where d a w
    two true a w due opens wanted = absurd (cc)
    two false false w due opens wanted = absurd (cc)
    two false true false due opens wanted = absurd (cc)
    two false true true due opens wanted = omega arith

-- so it doesn't rise from one moment to another where the place costs something only if it did before
pub weight_kept : (header : Header) (h o p : ℕ) (now past : List Event) → is_wild header o ≡ false → is_shared header o ≡ false
    → (Costs header h o p now → Costs header h o p past) → inner_weight header h o p now ≤ inner_weight header h o p past
weight_kept header h o p now past tame plain kept =
    weight_under header h o p (inner_weight header h o p past) now tame plain (λ costs. weight_two header h o p past tame plain (kept costs))

-- Open places.

-- of a temporary object a page that is absent is known to be
abbrev pub opened : Bool → Local → Bool → Bool
opened temporary page live = not page.here && (not page.asked && (live && not (temporary && page.absent)))

abbrev pub is_later : Header → ℕ → Bool
is_later header o = not (nat_lt o (named header))

pub open_is : (header : Header) (h o p : ℕ) (past : List Event)
    → is_open (sight header h o p past) ≡ opened (is_later header o) (page_on header h o p past) (is_some (live_control h o past))
open_is header h o p past = refl

pub opened_live : (temporary : Bool) (page : Local) (live : Bool) → opened temporary page live ≡ true → live ≡ true
opened_live temporary page live is = (and_parts live _ (and_parts (not page.asked) _ (and_parts (not page.here) _ is).1).1).0

not_true : (b : Bool) → not b ≡ true → b ≡ false
not_true true is = absurd (cc)
not_true false is = refl

pub opened_away : (temporary : Bool) (page : Local) (live : Bool) → opened temporary page live ≡ true → page.here ≡ false
opened_away temporary page live is = not_true page.here (and_parts (not page.here) _ is).0

pub opened_unasked : (temporary : Bool) (page : Local) (live : Bool) → opened temporary page live ≡ true → page.asked ≡ false
opened_unasked temporary page live is = not_true page.asked (and_parts (not page.asked) _ (and_parts (not page.here) _ is).1).0

-- the effect opens no place
abbrev pub Shuts : LocalEffect → Local → Type 0
Shuts effect.Zeroes was = Unit {0}
Shuts (effect.Raises bytes) was = Unit {0}
Shuts (effect.Stores at bytes) was = Unit {0}
Shuts (effect.Moves page) was = page.here ≡ true
Shuts (effect.Returns true) was = was.here ≡ true
Shuts effect.Asks was = Unit {0}
Shuts effect.Unlocks was = Unit {0}
Shuts (effect.TakesPage lock precious bytes) was = Unit {0}
Shuts (effect.TakesLock lock flush) was = Unit {0}
Shuts Elsewhere was = Unit {0}
Shuts other was = ⊥

clash : {A : Type 0} (b : Bool) → b ≡ true → b ≡ false → A
clash b is isnt = absurd (cc)

pub still : (temporary : Bool) (size : ℕ) (e : LocalEffect) (was : Local) (live : Bool) → Shuts e was
    → opened temporary (local_after size e was) live ≡ true → opened temporary was live ≡ true
still temporary size effect.Zeroes was live shuts is = absurd (let bad : false ≡ true = is in cc)
still temporary size (effect.Raises bytes) was live shuts is = absurd (let bad : false ≡ true = is in cc)
still temporary size (effect.Stores at bytes) was live shuts is = is
still temporary size effect.Drops was live shuts is = absurd shuts
still temporary size (effect.Moves page) was live shuts is =
    clash page.here shuts (opened_away temporary (record page { asked = was.asked; absent = was.absent }) live is)
still temporary size (effect.Returns true) was live shuts is =
    clash was.here shuts (opened_away temporary (record was { dirty = false; precious = false; absent = false }) live is)
still temporary size (effect.Returns false) was live shuts is = absurd shuts
still temporary size effect.Asks was live shuts is = clash true refl (opened_unasked temporary (record was { asked = true }) live is)
still temporary size effect.Unlocks was live shuts is = is
still temporary size (effect.TakesPage lock precious bytes) was live shuts is = by was.asked is
  where
    by : (b : Bool) → opened temporary (if b then record was {
      here = true;
      bytes = bytes;
      lock = lock;
      dirty = false;
      precious = precious;
      unlocking = false;
      asked = false;
    } else was) live ≡ true → opened temporary was live ≡ true
    by true now = absurd (let bad : false ≡ true = now in cc)
    by false now = now
still temporary size effect.TakesNothing was live shuts is = absurd shuts
still temporary size effect.TakesError was live shuts is = absurd shuts
still temporary size (effect.TakesLock lock flush) was live shuts is = by was.here is
  where
    by : (b : Bool) → opened temporary (if b then record was { lock = if flush || lock == 8 then was.lock else lock; unlocking = false } else was) live ≡ true
        → opened temporary was live ≡ true
    by true now = now
    by false now = now
still temporary size effect.Begins was live shuts is = absurd shuts
still temporary size effect.Ends was live shuts is = absurd shuts
still temporary size Elsewhere was live shuts is = is

pub shuts_if : (b : Bool) (e : LocalEffect) (was : Local) → (b ≡ true → Shuts e was) → Shuts (if b then e else Elsewhere) was
shuts_if true e was so = so refl
shuts_if false e was so = tt

pub still_if : (header : Header) (h o p : ℕ) (b : Bool) (e : LocalEffect) (past : List Event) → (b ≡ true → Shuts e (page_on header h o p past))
    → opened (is_later header o) (local_after header.size (if b then e else Elsewhere) (page_on header h o p past)) (is_some (live_control h o past)) ≡ true
    → is_open (sight header h o p past) ≡ true
still_if header h o p b e past so is =
    still (is_later header o) header.size (if b then e else Elsewhere) (page_on header h o p past) (is_some (live_control h o past))
    (shuts_if b e (page_on header h o p past) so) is

-- Due places.

due_same : (header : Header) (h o p : ℕ) (x : Option Asked) (e : Event) (past : List Event) → since (zeroes o p) (e ∷ past) ≡ since (zeroes o p) past
    → is_due header h o p x (e ∷ past) ≡ is_due header h o p x past
due_same header h o p None e past same = refl
due_same header h o p (Some asked) e past same =
    ap (λ (b : Bool). (asked.host == h && (asked.object == o && asked.page == p)) && (nat_lt o (named header) && not b)) same

-- An event that neither takes a message nor zeroes the place leaves what is due. So it leaves what costs something where it leaves what is wanted and open.
pub costs_kept : (header : Header) (h o p : ℕ) (e : Event) (past : List Event) → absence_taken header (e ∷ past) ≡ absence_taken header past
    → since (zeroes o p) (e ∷ past) ≡ since (zeroes o p) past → (is_wanted header h o p (e ∷ past) ≡ true → is_wanted header h o p past ≡ true)
    → (is_wanted header h o p past ≡ true → is_open (sight header h o p (e ∷ past)) ≡ true → is_open (sight header h o p past) ≡ true)
    → Costs header h o p (e ∷ past) → Costs header h o p past
costs_kept header h o p e past taken same wanted opens costs =
    let now : is_due header h o p (absence_taken header past) (e ∷ past) ≡ false =
    subst (λ (x : Option Asked). is_due header h o p x (e ∷ past) ≡ false) taken costs.due in
    record {
      due = sym (due_same header h o p (absence_taken header past) e past same) ∙ now;
      opens = opens (wanted costs.wanted) costs.opens;
      wanted = wanted costs.wanted;
    }

-- The events that end an access.

pub loaded_costs : (header : Header) (h o p : ℕ) (task : TaskId) (object : ObjectId) (page : PageNo) (value : ℕ) (past : List Event)
    → Costs header h o p (event.Loaded task object page value ∷ past) → Costs header h o p past
loaded_costs header h o p task object page value past =
    costs_kept header h o p (event.Loaded task object page value) past refl refl
    (any_ended header (λ access. true) most_tasks h o p (event.Loaded task object page value) past tt) (λ wanted is. is)

pub copy_ended_costs : (header : Header) (h o p : ℕ) (task : TaskId) (past : List Event)
    → Costs header h o p (event.CopyEnded task ∷ past) → Costs header h o p past
copy_ended_costs header h o p task past =
    costs_kept header h o p (event.CopyEnded task) past refl refl
    (any_ended header (λ access. true) most_tasks h o p (event.CopyEnded task) past tt) (λ wanted is. is)

pub failed_costs : (header : Header) (h o p : ℕ) (task : TaskId) (object : ObjectId) (page : PageNo) (past : List Event)
    → Costs header h o p (event.Failed task object page ∷ past) → Costs header h o p past
failed_costs header h o p task object page past =
    costs_kept header h o p (event.Failed task object page) past refl refl
    (any_ended header (λ access. true) most_tasks h o p (event.Failed task object page) past tt) (λ wanted is. is)

pub stored_costs : (header : Header) (h o p : ℕ) (task : TaskId) (object : ObjectId) (page : PageNo) (at size value : ℕ) (past : List Event)
    → Costs header h o p (event.Stored task object page at size value ∷ past) → Costs header h o p past
stored_costs header h o p task object page at size value past =
    costs_kept header h o p (event.Stored task object page at size value) past refl refl
    (any_ended header (λ access. true) most_tasks h o p (event.Stored task object page at size value) past tt)
    (λ wanted. still_if header h o p (is_on h (host_of task.0 past) && (object.0 == o && page.0 == p)) (effect.Stores at (little_endian_bytes size value)) past
    (λ is. tt))

-- Events about something else.

pub unmarked_costs : (header : Header) (h o p : ℕ) (region : RegionId) (past : List Event)
    → Costs header h o p (event.Unmarked region ∷ past) → Costs header h o p past
unmarked_costs header h o p region past =
    costs_kept header h o p (event.Unmarked region) past refl refl
    (λ is. sym (any_same header (λ access. true) most_tasks h o p (event.Unmarked region) past tt) ∙ is) (λ wanted is. is)

pub device_failed_costs : (header : Header) (h o p : ℕ) (who : Device) (way : Way) (object : ObjectId) (page : PageNo) (past : List Event)
    → Costs header h o p (event.DeviceFailed who way object page ∷ past) → Costs header h o p past
device_failed_costs header h o p who way object page past =
    costs_kept header h o p (event.DeviceFailed who way object page) past refl refl
    (λ is. sym (any_same header (λ access. true) most_tasks h o p (event.DeviceFailed who way object page) past tt) ∙ is) (λ wanted is. is)

pub no_slot_costs : (header : Header) (h o p : ℕ) (object : ObjectId) (page : PageNo) (past : List Event)
    → Costs header h o p (event.NoSlot object page ∷ past) → Costs header h o p past
no_slot_costs header h o p object page past =
    costs_kept header h o p (event.NoSlot object page) past refl refl
    (λ is. sym (any_same header (λ access. true) most_tasks h o p (event.NoSlot object page) past tt) ∙ is) (λ wanted is. is)

pub sent_down_costs : (header : Header) (h o p : ℕ) (host : HostId) (object : ObjectId) (control : ℕ) (m : Message) (past : List Event)
    → Costs header h o p (event.Sent (Down host object control) m ∷ past) → Costs header h o p past
sent_down_costs header h o p host object control m past =
    costs_kept header h o p (event.Sent (Down host object control) m) past refl refl
    (λ is. sym (any_same header (λ access. true) most_tasks h o p (event.Sent (Down host object control) m) past tt) ∙ is) (λ wanted is. is)

-- Pages that come.

pub raised_costs : (header : Header) (h o p : ℕ) (at : HostId) (lower : ObjectId) (lower_page : PageNo) (upper : ObjectId) (upper_page : PageNo)
    (past : List Event) → Costs header h o p (event.Raised at lower lower_page upper upper_page ∷ past) → Costs header h o p past
raised_costs header h o p at lower lower_page upper upper_page past =
    costs_kept header h o p (event.Raised at lower lower_page upper upper_page) past refl refl
    (λ is. sym (any_same header (λ access. true) most_tasks h o p (event.Raised at lower lower_page upper upper_page) past tt) ∙ is)
    (λ wanted. still_if header h o p (at.0 == h && (upper.0 == o && upper_page.0 == p)) (effect.Raises (page_on header h lower.0 lower_page.0 past).bytes) past
    (λ is. tt))

-- where zeros came to the page of another host, the place was not due
zeroed_due : (header : Header) (h o p at object page : ℕ) (past : List Event) → (at == h && (object == o && page == p)) ≡ false
    → (object == o && page == p) ≡ true → Fills header at object page past ⊎ Bottoms header at object page past
    → is_due header h o p (absence_taken header past) past ≡ false
zeroed_due header h o p at object page past apart same (inl fills) =
    subst (λ (x : Option Asked). is_due header h o p x past ≡ false) (sym fills.void)
    (none (at == h) (object == o && page == p) (nat_lt o (named header) && not (since (zeroes o p) past)) apart same)
  where
    none : (a b c : Bool) → (a && b) ≡ false → b ≡ true → ((a && b) && c) ≡ false
    none true true c apart same = absurd (cc)
    none true false c apart same = refl
    none false b c apart same = refl
zeroed_due header h o p at object page past apart same (inr bottoms) =
    by (absence_taken header past) (later (let o_is : object ≡ o = grind (arith, nat_tests) in omega (arith, o_is, bottoms.temporary)))
  where
    later : named header ≤ o → nat_lt o (named header) ≡ false
    later above = grind (arith, nat_tests)

    none : (a b c : Bool) → b ≡ false → (a && (b && c)) ≡ false
    none true true c off = absurd (cc)
    none true false c off = refl
    none false b c off = refl

    by : (x : Option Asked) → nat_lt o (named header) ≡ false → is_due header h o p x past ≡ false
    by None off = refl
    by (Some asked) off = none (asked.host == h && (asked.object == o && asked.page == p)) (nat_lt o (named header)) (not (since (zeroes o p) past)) off

pub zeroed_costs : (header : Header) (h o p : ℕ) (at : HostId) (object : ObjectId) (page : PageNo) (past : List Event)
    → Fills header at.0 object.0 page.0 past ⊎ Bottoms header at.0 object.0 page.0 past
    → Costs header h o p (event.Zeroed at object page ∷ past) → Costs header h o p past
zeroed_costs header h o p at object page past cause costs =
    record {
      due = due (object.0 == o && page.0 == p) refl costs.due;
      opens = still_if header h o p (at.0 == h && (object.0 == o && page.0 == p)) effect.Zeroes past (λ is. tt) costs.opens;
      wanted = sym (any_same header (λ access. true) most_tasks h o p (event.Zeroed at object page) past tt) ∙ costs.wanted;
    }
  where
    apart : (b : Bool) → (at.0 == h && (object.0 == o && page.0 == p)) ≡ b
        → opened (is_later header o) (local_after header.size (if b then effect.Zeroes else Elsewhere) (page_on header h o p past))
        (is_some (live_control h o past)) ≡ true
        → (at.0 == h && (object.0 == o && page.0 == p)) ≡ false
    apart true is now = absurd (let bad : false ≡ true = now in cc)
    apart false is now = is

    due : (b : Bool) → (object.0 == o && page.0 == p) ≡ b
        → is_due header h o p (absence_taken header past) (event.Zeroed at object page ∷ past) ≡ false
        → is_due header h o p (absence_taken header past) past ≡ false
    due true is now =
        zeroed_due header h o p at.0 object.0 page.0 past (apart (at.0 == h && (object.0 == o && page.0 == p)) refl costs.opens) is cause
    due false isnt now =
        sym (due_same header h o p (absence_taken header past) (event.Zeroed at object page) past
        (ap (λ (b : Bool). b || since (zeroes o p) past) isnt)) ∙ now
