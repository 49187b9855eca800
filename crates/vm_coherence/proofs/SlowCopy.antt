-- A host asks to read for a slow copy that is still to read the page, and not for one that has read it.
use Rattle.std.proofs.Common.{◌≡◌, ◌∷◌, List, arith, true, false, refl}
use Rattle.std.proofs.lemmas.Bool.Decides.{nat_tests}
use Rattle.vm_model.specs.declared.message.Channel.TheVariants.{Up, Down}
use Rattle.vm_model.specs.declared.message.Message.TheVariants as message
use Rattle.vm_model.specs.declared.event.Event.{Event}
use Rattle.vm_model.specs.declared.event.Event.TheVariants as event
use Rattle.vm_model.specs.Words.{Asking, Opens, SendsUp, Drops}
use Rattle.vm_model.specs.PageLicences.{NobodyAwaited, OthersHold, Cause, ActsLicensed}
use Rattle.vm_model.specs.PagePart.{page_part}
use Rattle.vm_coherence.specs.Crossing.{host, task, object, page, zeros}
use Rattle.vm_coherence.specs.SlowCopy.{begun, copying, mapped, reclaimed, read_again}

opens_first : Cause 16 0 (Opens 1 false) (page_part 16 0 0 mapped)
opens_first = grind (arith, nat_tests)

opens_second : Cause 16 0 (Opens 1 false) (page_part 16 0 1 mapped)
opens_second = grind (arith, nat_tests)

licensed_begun : ActsLicensed 16 (page_part 16 0 0 begun)
licensed_begun = (tt, (tt, (tt, (tt, (tt, (tt, (tt, (opens_first, (tt, (tt, (tt, (tt, tt))))))))))))

second_begun : ActsLicensed 16 (page_part 16 0 1 begun)
second_begun = (tt, (tt, (tt, (tt, (tt, (tt, (tt, (opens_second, (tt, (tt, (tt, (tt, tt))))))))))))

asks : Cause 16 0 (SendsUp 1 (Asking 1 1)) (page_part 16 0 0 begun)
asks = grind (arith, nat_tests)

abbrev heard : List Event
heard = event.Taken (Up (host 0) object) (message.Request 1 page 1) ∷ event.Line 8 ∷ event.Sent (Up (host 0) object) (message.Request 1 page 1) ∷ begun

licensed_heard : ActsLicensed 16 (page_part 16 0 0 heard)
licensed_heard = (refl, (tt, (asks, licensed_begun)))

free : NobodyAwaited (page_part 16 0 0 heard)
free g = grind (arith, nat_tests)

low : OthersHold 1 0 (page_part 16 0 0 heard)
low g apart = grind (arith, nat_tests)

abbrev copied : List Event
copied =
    event.CopiedPage (task 0) page object page (record { 0 = 1 }) ∷
    event.Taken (Down (host 0) object 1) (message.Supply page 2 false zeros) ∷
    event.Sent (Down (host 0) object 1) (message.Supply page 2 false zeros) ∷
    heard

licensed_copied : ActsLicensed 16 (page_part 16 0 0 copied)
licensed_copied = (tt, ((λ mine live. refl), ((refl, refl, free, refl, (refl, refl, refl, low)), licensed_heard)))

second_copied : ActsLicensed 16 (page_part 16 0 1 copied)
second_copied = (tt, (tt, (tt, (tt, (tt, (tt, second_begun))))))

licensed_copying : ActsLicensed 16 (page_part 16 0 0 copying)
licensed_copying = (tt, licensed_copied)

asks_second : Cause 16 0 (SendsUp 1 (Asking 1 1)) (page_part 16 0 1 copied)
asks_second = grind (arith, nat_tests)

pub second_licensed : ActsLicensed 16 (page_part 16 0 1 copying)
second_licensed = (asks_second, second_copied)

drops : Cause 16 0 Drops (page_part 16 0 0 (event.Line 9 ∷ copying))
drops = (omega arith, refl)

licensed_line : ActsLicensed 16 (page_part 16 0 0 (event.Line 9 ∷ copying))
licensed_line = (tt, licensed_copying)

pub reclaimed_licensed : ActsLicensed 16 (page_part 16 0 0 reclaimed)
reclaimed_licensed = (drops, licensed_line)

never : false ≡ true → ⊥
never is = cc

pub again_refused : ActsLicensed 16 (page_part 16 0 0 read_again) → ⊥
again_refused licensed = never licensed.0.2.4
