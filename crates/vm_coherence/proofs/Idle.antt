-- A host asks to read for somebody who waits there, and not for nobody.
use Rattle.std.proofs.Common.{◌≡◌, ◌∷◌, [], List, arith, true, false, refl}
use Rattle.std.proofs.lemmas.Bool.Decides.{nat_tests}
use Rattle.vm_model.specs.declared.message.Channel.TheVariants.{Up, Down}
use Rattle.vm_model.specs.declared.message.Message.TheVariants as message
use Rattle.vm_model.specs.declared.event.Event.{Event}
use Rattle.vm_model.specs.declared.event.Event.TheVariants as event
use Rattle.vm_model.specs.Words.{Asking, Doing, Locking, Opens, SendsUp, SentDown, Drops}
use Rattle.vm_model.specs.PageLicences.{NobodyAwaited, OthersHold, Cause, ActsLicensed}
use Rattle.vm_model.specs.PagePart.{world_part}
use Rattle.vm_coherence.specs.Crossing.{host, task, object, page, zeros}
use Rattle.vm_coherence.specs.Idle.{flushed, idle_request}

abbrev begun : List Event
begun = event.BegunLoad (task 0) 0 8 ∷ []

opens_first : Cause 16 0 (Opens 1 true) []
opens_first = grind (arith, nat_tests)

licensed_begun : ActsLicensed 16 (world_part 16 begun)
licensed_begun = (tt, (opens_first, tt))

asks : Cause 16 0 (SendsUp 1 (Asking 1 1)) (world_part 16 begun)
asks = grind (arith, nat_tests)

abbrev heard : List Event
heard = event.Taken (Up (host 0) object) (message.Request 1 page 1) ∷ event.Sent (Up (host 0) object) (message.Request 1 page 1) ∷ begun

licensed_heard : ActsLicensed 16 (world_part 16 heard)
licensed_heard = (refl, (asks, licensed_begun))

free : NobodyAwaited (world_part 16 heard)
free g = grind (arith, nat_tests)

low : OthersHold 1 0 (world_part 16 heard)
low g apart = grind (arith, nat_tests)

abbrev read : List Event
read =
    event.Loaded (task 0) object page 0 ∷ event.Taken (Down (host 0) object 1) (message.Supply page 2 false zeros) ∷ event.Sent (Down (host 0) object 1)
    (message.Supply page 2 false zeros) ∷ heard

licensed_read : ActsLicensed 16 (world_part 16 read)
licensed_read = ((refl, refl, refl), ((λ mine live. refl), ((refl, refl, free, refl, (refl, refl, refl, low)), licensed_heard)))

opens_second : Cause 16 1 (Opens 1 true) (world_part 16 read)
opens_second = grind (arith, nat_tests)

abbrev wanted : List Event
wanted = event.BegunStore (task 1) 0 8 5 ∷ read

licensed_wanted : ActsLicensed 16 (world_part 16 wanted)
licensed_wanted = (tt, (opens_second, licensed_read))

asks_to_write : Cause 16 1 (SendsUp 1 (Asking 1 3)) (world_part 16 wanted)
asks_to_write = grind (arith, nat_tests)

abbrev queued : List Event
queued = event.Taken (Up (host 1) object) (message.Request 1 page 3) ∷ event.Sent (Up (host 1) object) (message.Request 1 page 3) ∷ wanted

licensed_queued : ActsLicensed 16 (world_part 16 queued)
licensed_queued = (refl, (asks_to_write, licensed_wanted))

recalls : Cause 16 0 (SentDown 1 (Locking 1 1 true 8 true)) (world_part 16 queued)
recalls = grind (arith, nat_tests)

abbrev recalled : List Event
recalled =
    event.Taken (Down (host 0) object 1) (message.Lock page 1 1 true 8 true) ∷ event.Sent (Down (host 0) object 1) (message.Lock page 1 1 true 8 true) ∷ queued

licensed_recalled : ActsLicensed 16 (world_part 16 recalled)
licensed_recalled = ((λ mine live. refl), (recalls, licensed_queued))

drops : Cause 16 0 Drops (world_part 16 recalled)
drops = grind (arith, nat_tests)

says_done : Cause 16 0 (SendsUp 1 (Doing 1 1)) (world_part 16 (event.Dropped (host 0) object page ∷ recalled))
says_done = grind (arith, nat_tests)

pub flushed_licensed : ActsLicensed 16 (world_part 16 flushed)
flushed_licensed = (says_done, (drops, licensed_recalled))

pub idle_refused : ActsLicensed 16 (world_part 16 idle_request) → ⊥
idle_refused licensed = let reason : false ≡ true = licensed.0.2.4 in cc
