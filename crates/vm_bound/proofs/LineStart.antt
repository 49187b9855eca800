-- The line of a settle changes nothing of what may be caused.
use Rattle.std.proofs.Common.{ℕ, zero, suc, ◌≡◌, ◌≤◌, ◌*◌, List, ◌∷◌, Bool, true, false, Option, None, Some, refl, arith, if◌then◌else◌}
use Rattle.std.specs.Prelude.{◌&&◌, nat_lt, not}
use Rattle.vm_bound.proofs.LineLaw.{sum_none}
use Rattle.vm_base.specs.Limits.{most_tasks}
use Rattle.vm_base.specs.declared.entry.Entry.{Entry}
use Rattle.vm_bound.proofs.Distinct.{places_lower, sum_lower}
use Rattle.vm_bound.proofs.Owing.{inner_places, inner_weight, left_ends}
use Rattle.vm_bound.proofs.Wanting.{any_same}
use Rattle.vm_bound.specs.Accesses.{access_weight, accesses, any_writes, entry_weight, is_wanted, is_wanted_to_write, leads_at, led, left_weight, pages_left}
use Rattle.vm_bound.specs.Accesses.{turn_weight, weight_of, writes, writes_as}
use Rattle.vm_bound.specs.Letters.{host_count}
use Rattle.vm_bound.specs.Places.{asked_for, is_open, place_weight, places, write_turns}
use Rattle.vm_legal.specs.Outside.{is_shared, is_wild}
use Rattle.vm_legal.specs.Walks.{page_on, sight}
use Rattle.vm_model.specs.Named.{named}
use Rattle.vm_model.specs.Regions.{next_object, object_pages}
use Rattle.vm_model.specs.Tasks.{host_of}
use Rattle.vm_model.specs.Waiting.{Access, next_page, waiting}
use Rattle.vm_model.specs.declared.event.Event.{Event}
use Rattle.vm_model.specs.declared.event.Event.TheVariants as event
use Rattle.vm_model.specs.declared.script.Header.{Header}

-- each access weighs the same
line_weight : (header : Header) (line task : ℕ) (past : List Event) → access_weight header task (event.Line line ∷ past) ≡ access_weight header task past
line_weight header line task past = by (waiting task past) (host_of task past)
  where
    left : (host : ℕ) (access : Access) (entry : Entry) (n : ℕ)
        → left_weight header task host access entry n (event.Line line ∷ past) ≡ left_weight header task host access entry n past
    left host access entry zero = refl
    left host access entry (suc later) = refl

    found : (host : ℕ) (access : Access) (entry : Option Entry)
        → entry_weight header task host access entry (event.Line line ∷ past) ≡ entry_weight header task host access entry past
    found host access None = refl
    found host access (Some entry) = left host access entry (pages_left header.size access (next_page task past))

    by : (access : Option Access) (host : Option ℕ) → weight_of header task access host (event.Line line ∷ past) ≡ weight_of header task access host past
    by None host = refl
    by (Some access) None = refl
    by (Some access) (Some host) = found host access (led header task access past)

pub line_accesses : (header : Header) (line : ℕ) (past : List Event) → accesses header (event.Line line ∷ past) ≤ accesses header past
line_accesses header line past =
    sum_lower most_tasks (λ task. access_weight header task (event.Line line ∷ past)) (λ task. access_weight header task past)
    (λ task. let same = line_weight header line task past in omega (arith, same))

-- so does each place
line_writes : (header : Header) (line task h o p : ℕ) (past : List Event) → writes header task h o p (event.Line line ∷ past) ≡ writes header task h o p past
line_writes header line task h o p past = by (waiting task past)
  where
    at : (access : Access) (entry : Option Entry)
        → leads_at header task access o p entry (event.Line line ∷ past) ≡ leads_at header task access o p entry past
    at access None = refl
    at access (Some entry) = refl

    by : (access : Option Access) → writes_as header task h o p access (event.Line line ∷ past) ≡ writes_as header task h o p access past
    by None = refl
    by (Some access) = rw (at access (led header task access past)) refl

line_any : (header : Header) (line n h o p : ℕ) (past : List Event) → any_writes header n h o p (event.Line line ∷ past) ≡ any_writes header n h o p past
line_any header line zero h o p past = refl
line_any header line (suc n) h o p past = rw (line_writes header line n h o p past, line_any header line n h o p past) refl

line_place : (header : Header) (line h o p : ℕ) (past : List Event) → inner_weight header h o p (event.Line line ∷ past) ≤ place_weight header h o p past
line_place header line h o p past =
    by (is_wild header o) (is_shared header o) (is_wanted_to_write header h o p (event.Line line ∷ past)) (is_wanted_to_write header h o p past)
    (is_wanted header h o p (event.Line line ∷ past)) (is_wanted header h o p past) (line_any header line most_tasks h o p past)
    (any_same header (λ access. true) most_tasks h o p (event.Line line) past tt) (is_open (sight header h o p past))
  where
    by : (wild shared w w' a a' : Bool) → w ≡ w' → a ≡ a' → (seen : Bool)
        → (if wild then 0 else if shared then (if w then turn_weight header * write_turns (asked_for h o p past) (page_on header h o p past) else 0)
        else if true && (seen && a) then 2 else 0)
        ≤ (if wild then 0 else if shared then (if w' then turn_weight header * write_turns (asked_for h o p past) (page_on header h o p past) else 0)
        else if seen && a' then 2 else 0)
    by true shared w w' a a' one two seen = omega arith
    by false true true true a a' one two seen = omega arith
    by false true false false a a' one two seen = omega arith
    by false true true false a a' one two seen = absurd (let bad : true ≡ false = one in cc)
    by false true false true a a' one two seen = absurd (let bad : false ≡ true = one in cc)
    by false false w w' true true one two true = omega arith
    by false false w w' false false one two true = omega arith
    by false false w w' true false one two true = absurd (let bad : true ≡ false = two in cc)
    by false false w w' false true one two true = absurd (let bad : false ≡ true = two in cc)
    by false false w w' a a' one two false = omega arith

pub line_places : (header : Header) (line : ℕ) (past : List Event) → inner_places header (event.Line line ∷ past) ≤ places header past
line_places header line past =
    places_lower (host_count header) (next_object header past) (λ o. object_pages header o past) (λ h o p. inner_weight header h o p (event.Line line ∷ past))
    (λ h o p. place_weight header h o p past) (λ h o p. line_place header line h o p past)

-- and nothing is left by slow copies
pub none_at_line : (header : Header) (line : ℕ) (past : List Event) → left_ends header (event.Line line ∷ past) ≡ 0
none_at_line header line past =
    sum_none (host_count header) _ (λ h on. sum_none (next_object header past) _ (λ o made. by (not (nat_lt o (named header)))))
  where
    by : (b : Bool) → (if b && false then 1 else 0) ≡ zero
    by true = refl
    by false = refl
