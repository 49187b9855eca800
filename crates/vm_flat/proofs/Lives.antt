-- The newest control lives where a host has a control.
use Rattle.std.proofs.Common.{ℕ, ◌≡◌, List, [], ◌∷◌, Bool, true, false, Option, Some, None, if◌then◌else◌, arith, refl, ap, sym, ◌∙◌}
use Rattle.std.specs.Prelude.{◌==◌, ◌&&◌}
use Rattle.std.proofs.lemmas.Bool.Decides.{nat_tests}
use Rattle.vm_model.specs.declared.event.Event.{Event}
use Rattle.vm_model.specs.declared.event.Event.TheVariants as event
use Rattle.vm_model.specs.declared.message.Channel.TheVariants.{Up}
use Rattle.vm_model.specs.declared.message.Message.TheVariants as message
use Rattle.vm_model.specs.declared.script.Header.{Header}
use Rattle.vm_model.specs.Controls.{is_control, without_control, last_control, live_control}
use Rattle.vm_legal.specs.Outside.{is_file}
use Rattle.vm_flat.proofs.Sustained.{control}

abbrev pub living : ℕ → ℕ → Option ℕ
living n last = if n == 1 then Some last else None

pub itself : (n : ℕ) → (n == n) ≡ true
itself n = grind (arith, nat_tests)

never : {A : Type 0} → false ≡ true → A
never e = absurd (let bad : false ≡ true = e in cc)

-- a control that isn't the live one ends nothing
ended : (file own here : Bool) (n last number : ℕ) (live : Option ℕ) → living n last ≡ live
    → living (if (own && is_control number live) && here then (if file then 0 else 2) else n) last ≡ (if own && here then without_control number live else live)
ended file false here n last number live is = is
ended file true false n last number live is = not_here (is_control number live)
  where
    not_here : (b : Bool) → living (if b && false then (if file then 0 else 2) else n) last ≡ live
    not_here true = is
    not_here false = is
ended file true true n last number None is = is
ended file true true n last number (Some k) is = by_number (k == number)
  where
    dead : (b : Bool) → living (if b then 0 else 2) last ≡ None
    dead true = refl
    dead false = refl

    by_number : (b : Bool) → living (if b && true then (if file then 0 else 2) else n) last ≡ (if b then None else Some k)
    by_number true = dead file
    by_number false = is

begun : (b : Bool) (n last number : ℕ) (live : Option ℕ) → living n last ≡ live
    → living (if b then 1 else n) (if b then number else last) ≡ (if b then Some number else live)
begun true n last number live is = refl
begun false n last number live is = is

-- the object whose control ends is this one, or the event is about another
same_live : (host o k : ℕ) (past : List Event) (own : Bool) (file : Bool) (n number : ℕ) → living n (last_control host o past) ≡ live_control host o past
    → living (if (own && is_control number (live_control host k past)) && k == o then (if file then 0 else 2) else n)
    (last_control host o past) ≡ (if own && k == o then without_control number (live_control host o past) else live_control host o past)
same_live host o k past own file n number is = by_object (k == o) refl
  where
    away : (b : Bool) → living (if b && false then (if file then 0 else 2) else n) (last_control host o past) ≡ live_control host o past
    away true = is
    away false = is

    off : (b : Bool) → (if b && false then without_control number (live_control host o past) else live_control host o past) ≡ live_control host o past
    off true = refl
    off false = refl

    by_object : (b : Bool) → (k == o) ≡ b → living (if (own && is_control number (live_control host k past)) && b then (if file then 0 else 2) else n)
        (last_control host o past) ≡ (if own && b then without_control number (live_control host o past) else live_control host o past)
    by_object true e =
        let same : k ≡ o = grind (arith, nat_tests) in
        ap (λ (j : ℕ). living (if (own && is_control number (live_control host j past)) && true then (if file then 0 else 2) else n) (last_control host o past))
        same ∙ ended file own true n (last_control host o past) number (live_control host o past) is
    by_object false e = away (own && is_control number (live_control host k past)) ∙ sym (off own)

pub control_is_live : (header : Header) (host o : ℕ) (past : List Event)
    → living (control header host o past) (last_control host o past) ≡ live_control host o past
control_is_live header host o [] = refl
control_is_live header host o (event.Sent (Up at to) (message.Init number size) ∷ past) =
    begun (at.0 == host && to.0 == o) (control header host o past) (last_control host o past) number (live_control host o past)
    (control_is_live header host o past)
control_is_live header host o (event.Sent (Up at to) (message.Create number size) ∷ past) =
    begun (at.0 == host && to.0 == o) (control header host o past) (last_control host o past) number (live_control host o past)
    (control_is_live header host o past)
control_is_live header host o (event.Sent (Up at to) (message.Terminate number) ∷ past) =
    same_live host o to.0 past (at.0 == host) (is_file header o) (control header host o past) number (control_is_live header host o past)
control_is_live header host o (event.Sent (Up at to) m ∷ past) = control_is_live header host o past
control_is_live header host o (e ∷ past) = control_is_live header host o past

pub control_counts : (host o number : ℕ) (past : List Event) → live_control host o past ≡ Some number → is_control number (live_control host o past) ≡ true
control_counts host o number past lives = ap (is_control number) lives ∙ itself number

one_of : (n last number : ℕ) → living n last ≡ Some number → (n ≡ 1) × (last ≡ number)
one_of n last number is = by_one (n == 1) refl is
  where
    by_one : (b : Bool) → (n == 1) ≡ b → (if b then Some last else None) ≡ Some number → (n ≡ 1) × (last ≡ number)
    by_one true one e = (grind (arith, nat_tests), (cc))
    by_one false one e = absurd (cc)

pub has_control : (header : Header) (host o number : ℕ) (past : List Event) → live_control host o past ≡ Some number → control header host o past ≡ 1
has_control header host o number past lives =
    (one_of (control header host o past) (last_control host o past) number (control_is_live header host o past ∙ lives)).0

pub is_newest : (header : Header) (host o number : ℕ) (past : List Event) → live_control host o past ≡ Some number → last_control host o past ≡ number
is_newest header host o number past lives =
    (one_of (control header host o past) (last_control host o past) number (control_is_live header host o past ∙ lives)).1
