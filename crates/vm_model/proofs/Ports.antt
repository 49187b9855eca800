-- Channels with equal numbers, the live control of an object with an equal number, and what holds at a place with equal numbers.
use Rattle.std.proofs.Common.{ℕ, ◌≡◌, ◌==◌, ◌&&◌, ◌∙◌, List, true, sym, ap, subst, arith}
use Rattle.std.proofs.lemmas.Bool.Decides.{nat_tests}
use Rattle.vm_base.specs.declared.ids.HostId.{HostId}
use Rattle.vm_base.specs.declared.ids.ObjectId.{ObjectId}
use Rattle.vm_model.specs.declared.event.Event.{Event}
use Rattle.vm_model.specs.declared.message.Channel.TheVariants.{Up, Down}
use Rattle.vm_model.specs.Channels.{down_port, up_port}
use Rattle.vm_model.specs.Controls.{is_control, live_control}

pub port_is : (at : HostId) (object : ObjectId) (h o : ℕ) → at.0 ≡ h → object.0 ≡ o → Up at object ≡ up_port h o
port_is at object h o e f = ap (λ k. up_port k object.0) e ∙ ap (λ k. up_port h k) f

pub down_port_is : (at : HostId) (object : ObjectId) (n h o k : ℕ) → at.0 ≡ h → object.0 ≡ o → n ≡ k → Down at object n ≡ down_port h o k
down_port_is at object n h o k e f g = ap (λ x. down_port x object.0 n) e ∙ ap (λ x. down_port h x n) f ∙ ap (λ x. down_port h o x) g

number_is : (a b : ℕ) → (a == b) ≡ true → a ≡ b
number_is a b is = grind (arith, nat_tests)

pub at_place : (P : ℕ → ℕ → Type 0) (a b h o : ℕ) → (a == h && b == o) ≡ true → P a b → P h o
at_place P a b h o is holds = subst (λ x. P h x) (second a b h o is) (subst (λ x. P x b) (only a b h o is) holds)
  where
    only : (a b h o : ℕ) → (a == h && b == o) ≡ true → a ≡ h
    only a b h o is = grind (arith, nat_tests)

    second : (a b h o : ℕ) → (a == h && b == o) ≡ true → b ≡ o
    second a b h o is = grind (arith, nat_tests)

pub same_control : (host k o number : ℕ) (past : List Event) → (k == o) ≡ true
    → is_control number (live_control host o past) ≡ is_control number (live_control host k past)
same_control host k o number past its = ap (λ (j : ℕ). is_control number (live_control host j past)) (sym (number_is k o its))
