-- Where a host has no control of an object, the law's own count of it says so.
use Rattle.std.proofs.Common.{ℕ, suc, ◌≡◌, ◌≤◌, List, [], ◌∷◌, Bool, true, false, Option, Some, None, if◌then◌else◌, refl, ap, ◌∙◌, arith}
use Rattle.std.proofs.lemmas.Bool.Decides.{nat_tests}
use Rattle.std.specs.Prelude.{◌==◌, ◌&&◌}
use Rattle.vm_base.specs.declared.ids.HostId.{HostId}
use Rattle.vm_base.specs.declared.ids.ObjectId.{ObjectId}
use Rattle.vm_model.specs.declared.event.Event.{Event}
use Rattle.vm_model.specs.declared.event.Event.TheVariants as event
use Rattle.vm_model.specs.declared.message.Channel.TheVariants.{Up}
use Rattle.vm_model.specs.declared.message.Message.TheVariants as message
use Rattle.vm_model.specs.declared.script.Header.{Header}
use Rattle.vm_model.specs.Controls.{is_control, without_control, last_control, live_control}
use Rattle.vm_model.specs.Moments.{EachEvent}
use Rattle.vm_legal.specs.Licences.{HasCause}
use Rattle.vm_legal.specs.Outside.{Outside, is_file}
use Rattle.vm_flat.proofs.Lives.{control_is_live}
use Rattle.vm_flat.proofs.Sustained.{control}
use Rattle.vm_flat.proofs.Using.{by_cause}

-- a file's control is never ended for good

other_one : (b : Bool) (n : ℕ) → n ≤ 1 → (if b then 1 else n) ≤ 1
other_one true n small = omega arith
other_one false n small = small

ended_one : (b file : Bool) (n : ℕ) → file ≡ true → n ≤ 1 → (if b then (if file then 0 else 2) else n) ≤ 1
ended_one true true n is small = omega arith
ended_one true false n is small = absurd (let bad : false ≡ true = is in cc)
ended_one false file n is small = small

file_control : (header : Header) (host o : ℕ) (past : List Event) → is_file header o ≡ true → control header host o past ≤ 1
file_control header host o [] is = omega arith
file_control header host o (event.Sent (Up at to) (message.Init number size) ∷ past) is =
    other_one (at.0 == host && to.0 == o) _ (file_control header host o past is)
file_control header host o (event.Sent (Up at to) (message.Create number size) ∷ past) is =
    other_one (at.0 == host && to.0 == o) _ (file_control header host o past is)
file_control header host o (event.Sent (Up at to) (message.Terminate number) ∷ past) is =
    ended_one ((at.0 == host && is_control number (live_control host to.0 past)) && to.0 == o) (is_file header o) _ is (file_control header host o past is)
file_control header host o (event.Sent (Up at to) m ∷ past) is = file_control header host o past is
file_control header host o (e ∷ past) is = file_control header host o past is

dead : (n last : ℕ) → (if n == 1 then Some last else None) ≡ None → n ≤ 1 → n ≡ 0
dead n last is small = by_one (n == 1) refl is
  where
    by_one : (b : Bool) → (n == 1) ≡ b → (if b then Some last else None) ≡ None → n ≡ 0
    by_one true one e = absurd (cc)
    by_one false one e = grind (arith, nat_tests)

pub unopened : (header : Header) (host o : ℕ) (past : List Event) → is_file header o ≡ true → live_control host o past ≡ None → control header host o past ≡ 0
unopened header host o past is none =
    dead (control header host o past) (last_control host o past) (control_is_live header host o past ∙ none) (file_control header host o past is)

-- a host that never had a control has none

pub record Never (header : Header) (host o : ℕ) (past : List Event) : Type 0 where
  pub control : control header host o past ≡ 0
  pub live : live_control host o past ≡ None

number_is : (a b : ℕ) → (a == b) ≡ true → a ≡ b
number_is a b is = grind (arith, nat_tests)

-- this control is another's
begun : (b : Bool) (number last n : ℕ) (live : Option ℕ) → (b ≡ true → (k : ℕ) × (number ≡ suc k)) → (if b then number else last) ≡ 0
    → (last ≡ 0 → (n ≡ 0) × (live ≡ None))
    → ((if b then 1 else n) ≡ 0) × ((if b then Some number else live) ≡ None)
begun true number last n live positive none was = let k : (k : ℕ) × (number ≡ suc k) = positive refl in absurd (omega (arith, k.1, none))
begun false number last n live positive none was = was none

-- there is none to end
ended : (header : Header) (host o : ℕ) (at : HostId) (to : ObjectId) (number : ℕ) (past : List Event) → Never header host o past
    → Never header host o (event.Sent (Up at to) (message.Terminate number) ∷ past)
ended header host o at to number past never =
    record { control = by_object (at.0 == host) (to.0 == o) refl; live = without (at.0 == host && to.0 == o) (live_control host o past) never.live }
  where
    without : (b : Bool) (live : Option ℕ) → live ≡ None → (if b then without_control number live else live) ≡ None
    without true None is = refl
    without true (Some n) is = absurd (cc)
    without false live is = is

    gone : (live : Option ℕ) → live ≡ None → is_control number live ≡ false
    gone None is = refl
    gone (Some n) is = absurd (cc)

    off : (a b c : Bool) (x y : ℕ) → b ≡ false → (if (a && b) && c then x else y) ≡ y
    off true true c x y is = absurd (let bad : true ≡ false = is in cc)
    off true false c x y is = refl
    off false b c x y is = refl

    away : (a b : Bool) (x y : ℕ) → (if (a && b) && false then x else y) ≡ y
    away true true x y = refl
    away true false x y = refl
    away false b x y = refl

    by_object : (a c : Bool) → (to.0 == o) ≡ c → (if (a && is_control number (live_control host to.0 past)) && c then (if is_file header o then 0 else 2) else
        control header host o past) ≡ 0
    by_object a true same =
        off a (is_control number (live_control host to.0 past)) true _ (control header host o past)
        (ap (λ (k : ℕ). is_control number (live_control host k past)) (number_is to.0 o same) ∙ gone (live_control host o past) never.live) ∙ never.control
    by_object a false same = away a (is_control number (live_control host to.0 past)) _ (control header host o past) ∙ never.control

pub unmade : (header : Header) (outside : Outside) (host o : ℕ) (past : List Event) → EachEvent (HasCause header outside) past → last_control host o past ≡ 0
    → Never header host o past
unmade header outside host o [] caused none = record { control = refl; live = refl }
unmade header outside host o (event.Sent (Up at to) (message.Init number size) ∷ past) caused none =
    let is : (control header host o (event.Sent (Up at to) (message.Init number size) ∷ past) ≡ 0)
    × (live_control host o (event.Sent (Up at to) (message.Init number size) ∷ past) ≡ None) =
    begun (at.0 == host && to.0 == o) number (last_control host o past) (control header host o past) (live_control host o past)
    (λ mine. by_cause header outside (event.Sent (Up at to) (message.Init number size)) past caused.0 (λ doing c. (last_control at.0 to.0 past, c.number))) none
    (λ zero. let never : Never header host o past = unmade header outside host o past caused.1 zero in (never.control, never.live)) in
    record { control = is.0; live = is.1 }
unmade header outside host o (event.Sent (Up at to) (message.Create number size) ∷ past) caused none =
    let is : (control header host o (event.Sent (Up at to) (message.Create number size) ∷ past) ≡ 0)
    × (live_control host o (event.Sent (Up at to) (message.Create number size) ∷ past) ≡ None) =
    begun (at.0 == host && to.0 == o) number (last_control host o past) (control header host o past) (live_control host o past)
    (λ mine. by_cause header outside (event.Sent (Up at to) (message.Create number size)) past caused.0 (λ doing c. (0, c.number))) none
    (λ zero. let never : Never header host o past = unmade header outside host o past caused.1 zero in (never.control, never.live)) in
    record { control = is.0; live = is.1 }
unmade header outside host o (event.Sent (Up at to) (message.Terminate number) ∷ past) caused none =
    ended header host o at to number past (unmade header outside host o past caused.1 none)
unmade header outside host o (event.Sent (Up at to) m ∷ past) caused none =
    let never : Never header host o past = unmade header outside host o past caused.1 none in record { control = never.control; live = never.live }
unmade header outside host o (e ∷ past) caused none =
    let never : Never header host o past = unmade header outside host o past caused.1 none in record { control = never.control; live = never.live }
