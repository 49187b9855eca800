-- Events of a kind are counted, one more at a time.
use Rattle.std.proofs.Common.{◌≡◌, ℕ, ◌+◌, ◌≤◌, Bool, true, false, List, ◌∷◌, ap, sym, ◌∙◌, arith}
use Rattle.vm_model.specs.declared.event.Event.{Event}
use Rattle.vm_model.specs.Summary.{count_of}
use Rattle.vm_model.specs.Text.{flag}
use Rattle.vm_seen.specs.Behind.{oldest_items}

flag_small : (b : Bool) → flag b ≤ 1
flag_small true = omega arith
flag_small false = omega arith

pub few_more : (count more i : ℕ) (holds : Bool) → more ≡ count + flag holds → count ≤ i → more ≤ i + 1
few_more count more i holds is few = let small = flag_small holds in omega arith

pub count_more : (is_kind : Event → Bool) (h : List Event) (i : ℕ) (e : Event) (count more : ℕ) (holds : Bool)
    → oldest_items (i + 1) h ≡ e ∷ oldest_items i h → count ≡ count_of is_kind (oldest_items i h)
    → holds ≡ is_kind e → more ≡ count + flag holds → more ≡ count_of is_kind (oldest_items (i + 1) h)
count_more is_kind h i e count more holds step is same added =
    added ∙ (ap (λ b. count + flag b) same ∙ (ap (λ n. n + flag (is_kind e)) is ∙ sym (ap (count_of is_kind) step)))
