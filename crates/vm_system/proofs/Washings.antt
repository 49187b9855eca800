-- The returns on their way are those that are out.
use Rattle.vm_system.proofs.Common.{Bool, Channel, Down, Event, Letter, List, Message, Some, Up, [], arith, false, first, if◌then◌else◌, is_out, is_washed}
use Rattle.vm_system.proofs.Common.{never, outs, outs_sent, outs_taken, queue, refl, returns_out, some_out, sym, true, undelivered, washed_in, ℕ, ◌&&◌, ◌==◌}
use Rattle.vm_system.proofs.Common.{◌∙◌, ◌∷◌, ◌≡◌}
use Rattle.std.specs.Prelude.{◌+◌, suc, ◌<◌}
use Rattle.vm_model.specs.declared.event.Event.TheVariants as event
use Rattle.vm_model.specs.declared.message.Message.TheVariants as message

out_is : (h : ℕ) (c : Channel) (m : Message) → is_out h c m ≡ is_washed h c m
out_is h (Up host object) (message.Return control page dirty keep bytes) = refl
out_is h (Up host object) m = none (host.0 == h)
  where
    none : (b : Bool) → false ≡ (b && false)
    none true = refl
    none false = refl
out_is h (Down host object control) m = refl

outs_are : (h : ℕ) (ls : List Letter) → outs h ls ≡ washed_in h ls
outs_are h [] = refl
outs_are h (l ∷ ls) =
    one (is_out h l.channel l.message) (is_washed h l.channel l.message) (outs h ls) (washed_in h ls) (out_is h l.channel l.message) (outs_are h ls)
  where
    one : (a b : Bool) (n k : ℕ) → a ≡ b → n ≡ k → (if a then suc n else n) ≡ (if b then k + 1 else k)
    one true true n k e f = omega (arith, f)
    one false false n k e f = f
    one true false n k e f = never (sym e)
    one false true n k e f = never e

pub washed_sent : (h : ℕ) (c : Channel) (m : Message) (past : List Event) → returns_out h past ≡ washed_in h (undelivered past)
    → returns_out h (event.Sent c m ∷ past) ≡ washed_in h (undelivered (event.Sent c m ∷ past))
washed_sent h c m past washed = outs_sent h c m past (washed ∙ sym (outs_are h (undelivered past))) ∙ outs_are h (undelivered (event.Sent c m ∷ past))

pub washed_taken : (h : ℕ) (c : Channel) (m : Message) (past : List Event) → first (queue c past) ≡ Some m → returns_out h past ≡ washed_in h (undelivered past)
    → returns_out h (event.Taken c m ∷ past) ≡ washed_in h (undelivered (event.Taken c m ∷ past))
washed_taken h c m past head washed =
    outs_taken h c m past head (washed ∙ sym (outs_are h (undelivered past))) ∙ outs_are h (undelivered (event.Taken c m ∷ past))

-- the return that is taken was out
pub some_washed : (h : ℕ) (c : Channel) (m : Message) (past : List Event) → first (queue c past) ≡ Some m → is_washed h c m ≡ true
    → returns_out h past ≡ washed_in h (undelivered past) → 0 < returns_out h past
some_washed h c m past head is washed = some_out h c m past head (out_is h c m ∙ is) (washed ∙ sym (outs_are h (undelivered past)))
