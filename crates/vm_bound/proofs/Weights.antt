-- What each message weighs at least.
use Rattle.std.proofs.Common.{ℕ, ◌≤◌, ◌+◌, Bool, true, false, List, [], ◌∷◌, arith}
use Rattle.std.specs.Prelude.{length}
use Rattle.vm_bound.specs.Accesses.{accesses}
use Rattle.vm_bound.specs.Bound.{sum}
use Rattle.vm_bound.specs.Lines.{lines}
use Rattle.vm_bound.specs.Places.{places}
use Rattle.vm_bound.specs.Letters.{host_count, letters, letter_weight, message_weight, object_on, weights}
use Rattle.vm_legal.specs.Outside.{is_shared}
use Rattle.vm_model.specs.Named.{declared_pages}
use Rattle.vm_legal.specs.Steps.{Letter}
use Rattle.vm_legal.specs.Undelivered.{undelivered}
use Rattle.vm_model.specs.declared.event.Event.{Event}
use Rattle.vm_model.specs.declared.message.Message.{Message}
use Rattle.vm_model.specs.declared.message.Message.TheVariants as message
use Rattle.vm_model.specs.declared.script.Header.{Header}

-- each message weighs something
message_counted : (hosts : ℕ) (shared : Bool) (pages : ℕ) (m : Message) → 1 ≤ message_weight hosts shared pages m
message_counted hosts shared pages (message.Init control size) = omega arith
message_counted hosts shared pages (message.Create control size) = omega arith
message_counted hosts shared pages (message.Ready cache strategy) = omega arith
message_counted hosts shared pages (message.Attributes cache strategy reply) = omega arith
message_counted hosts true pages (message.Request control page access) = omega arith
message_counted hosts false pages (message.Request control page access) = omega arith
message_counted hosts true pages (message.Unlock control page access) = omega arith
message_counted hosts false pages (message.Unlock control page access) = omega arith
message_counted hosts true pages (message.Lock page count returns flush lock reply) = omega arith
message_counted hosts false pages (message.Lock page count returns flush lock reply) = omega arith
message_counted hosts shared pages (message.Destroy reason) = omega arith
message_counted hosts shared pages (message.Return control page dirty keep bytes) = omega arith
message_counted hosts shared pages (message.Completed control page count) = omega arith
message_counted hosts shared pages (message.Changed control cache strategy) = omega arith
message_counted hosts shared pages (message.Terminate control) = omega arith
message_counted hosts shared pages (message.Supply page lock precious bytes) = omega arith
message_counted hosts shared pages (message.Unavailable page) = omega arith
message_counted hosts shared pages (message.Error page reason) = omega arith

each_counted : (header : Header) (all : List Letter) → length all ≤ weights header all
each_counted header [] = omega arith
each_counted header (letter ∷ rest) =
    let one : 1 ≤ letter_weight header letter = message_counted (host_count header) (is_shared header (object_on letter.channel))
    (declared_pages header (object_on letter.channel)) letter.message in
    let more = each_counted header rest in
    omega (arith, one, more)

grown : (n a b c d : ℕ) → n ≤ a → n ≤ a + b + (c + d)
grown n a b c d le = omega (arith, le)

pub letters_counted : (header : Header) (past : List Event) → length (undelivered past) ≤ sum header past
letters_counted header past =
    grown (length (undelivered past)) (letters header past) (lines header past) (accesses header past) (places header past)
    (each_counted header (undelivered past))
