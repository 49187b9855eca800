-- A run of the page world in which an unlock and a flush cross. It meets the licences, so they are no empty premise.
use Rattle.std.proofs.Common.{◌∷◌, [], List, arith, true, false, refl}
use Rattle.std.proofs.lemmas.Bool.Decides.{nat_tests}
use Rattle.vm_coherence.specs.Crossing.{host, task, object, page, zeros, fives, crossing}
use Rattle.vm_model.specs.declared.message.Channel.TheVariants.{Up, Down}
use Rattle.vm_model.specs.declared.message.Message.TheVariants as message
use Rattle.vm_model.specs.declared.event.Event.{Event}
use Rattle.vm_model.specs.declared.event.Event.TheVariants as event
use Rattle.vm_model.specs.Words.{Asking, Unlocking, Returning, Doing, Supplying, Locking, Opens, SendsUp, TakenUp, SentDown, TakesDown, Drops, Begins, Loads}
use Rattle.vm_model.specs.Words.{Stores}
use Rattle.vm_model.specs.PageLicences.{NobodyAwaited, OthersHold, Cause, ActsLicensed}
use Rattle.vm_model.specs.Coherence.{Done, StepsDone, WaitersHaveAsked, SomebodyIsAwaited, Quiet}
use Rattle.vm_model.specs.PagePart.{world_part}

abbrev run_0 : List Event
run_0 = []

licensed_0 : ActsLicensed 16 (world_part 16 run_0)
licensed_0 = tt

steps_0 : StepsDone (world_part 16 run_0)
steps_0 = tt

opens_0 : Cause 16 0 (Opens 1 true) (world_part 16 run_0)
opens_0 = grind (arith, nat_tests)

abbrev run_1 : List Event
run_1 = event.BegunLoad (task 0) 0 8 ∷ run_0

cause_0 : Cause 16 0 (Begins 0 false 0 8 0) (record { host = 0; effect = Opens 1 true } ∷ world_part 16 run_0)
cause_0 = tt

steps_1 : StepsDone (world_part 16 run_1)
steps_1 = (λ begins. absurd (cc), (λ begins. absurd (cc), steps_0))

licensed_1 : ActsLicensed 16 (world_part 16 run_1)
licensed_1 = (cause_0, (opens_0, licensed_0))

abbrev run_2 : List Event
run_2 = event.Sent (Up (host 0) object) (message.Request 1 page 1) ∷ run_1

cause_1 : Cause 16 0 (SendsUp 1 (Asking 1 1)) (world_part 16 run_1)
cause_1 = grind (arith, nat_tests)

steps_2 : StepsDone (world_part 16 run_2)
steps_2 = (λ begins. absurd (cc), steps_1)

licensed_2 : ActsLicensed 16 (world_part 16 run_2)
licensed_2 = (cause_1, licensed_1)

opens_2 : Cause 16 1 (Opens 1 true) (world_part 16 run_2)
opens_2 = grind (arith, nat_tests)

abbrev run_3 : List Event
run_3 = event.BegunLoad (task 1) 0 8 ∷ run_2

cause_2 : Cause 16 1 (Begins 1 false 0 8 0) (record { host = 1; effect = Opens 1 true } ∷ world_part 16 run_2)
cause_2 = tt

steps_3 : StepsDone (world_part 16 run_3)
steps_3 = (λ begins. absurd (cc), (λ begins. absurd (cc), steps_2))

licensed_3 : ActsLicensed 16 (world_part 16 run_3)
licensed_3 = (cause_2, (opens_2, licensed_2))

abbrev run_4 : List Event
run_4 = event.Sent (Up (host 1) object) (message.Request 1 page 1) ∷ run_3

cause_3 : Cause 16 1 (SendsUp 1 (Asking 1 1)) (world_part 16 run_3)
cause_3 = grind (arith, nat_tests)

steps_4 : StepsDone (world_part 16 run_4)
steps_4 = (λ begins. absurd (cc), steps_3)

licensed_4 : ActsLicensed 16 (world_part 16 run_4)
licensed_4 = (cause_3, licensed_3)

abbrev run_5 : List Event
run_5 = event.Taken (Up (host 0) object) (message.Request 1 page 1) ∷ run_4

cause_4 : Cause 16 0 (TakenUp (Asking 1 1)) (world_part 16 run_4)
cause_4 = refl

done_4 : Done (world_part 16 run_4)
done_4 h = grind (arith, nat_tests)

steps_5 : StepsDone (world_part 16 run_5)
steps_5 = (λ begins. done_4, steps_4)

licensed_5 : ActsLicensed 16 (world_part 16 run_5)
licensed_5 = (cause_4, licensed_4)

abbrev run_6 : List Event
run_6 = event.Sent (Down (host 0) object 1) (message.Supply page 2 false zeros) ∷ run_5

free_5 : NobodyAwaited (world_part 16 run_5)
free_5 g = grind (arith, nat_tests)

low_5 : OthersHold 1 0 (world_part 16 run_5)
low_5 g apart = grind (arith, nat_tests)

cause_5 : Cause 16 0 (SentDown 1 (Supplying 2 false zeros)) (world_part 16 run_5)
cause_5 = (refl, refl, free_5, refl, (refl, refl, refl, low_5))

steps_6 : StepsDone (world_part 16 run_6)
steps_6 = (λ begins. absurd (cc), steps_5)

licensed_6 : ActsLicensed 16 (world_part 16 run_6)
licensed_6 = (cause_5, licensed_5)

abbrev run_7 : List Event
run_7 = event.Taken (Up (host 1) object) (message.Request 1 page 1) ∷ run_6

cause_6 : Cause 16 1 (TakenUp (Asking 1 1)) (world_part 16 run_6)
cause_6 = refl

done_6 : Done (world_part 16 run_6)
done_6 h = grind (arith, nat_tests)

steps_7 : StepsDone (world_part 16 run_7)
steps_7 = (λ begins. done_6, steps_6)

licensed_7 : ActsLicensed 16 (world_part 16 run_7)
licensed_7 = (cause_6, licensed_6)

abbrev run_8 : List Event
run_8 = event.Sent (Down (host 1) object 1) (message.Supply page 2 false zeros) ∷ run_7

free_7 : NobodyAwaited (world_part 16 run_7)
free_7 g = grind (arith, nat_tests)

low_7 : OthersHold 1 1 (world_part 16 run_7)
low_7 g apart = grind (arith, nat_tests)

cause_7 : Cause 16 1 (SentDown 1 (Supplying 2 false zeros)) (world_part 16 run_7)
cause_7 = (refl, refl, free_7, refl, (refl, refl, refl, low_7))

steps_8 : StepsDone (world_part 16 run_8)
steps_8 = (λ begins. absurd (cc), steps_7)

licensed_8 : ActsLicensed 16 (world_part 16 run_8)
licensed_8 = (cause_7, licensed_7)

abbrev run_9 : List Event
run_9 = event.Taken (Down (host 0) object 1) (message.Supply page 2 false zeros) ∷ run_8

cause_8 : Cause 16 0 (TakesDown 1 (Supplying 2 false zeros)) (world_part 16 run_8)
cause_8 = λ mine live. refl

done_8 : Done (world_part 16 run_8)
done_8 h = grind (arith, nat_tests)

steps_9 : StepsDone (world_part 16 run_9)
steps_9 = (λ begins. done_8, steps_8)

licensed_9 : ActsLicensed 16 (world_part 16 run_9)
licensed_9 = (cause_8, licensed_8)

abbrev run_10 : List Event
run_10 = event.Loaded (task 0) object page 0 ∷ run_9

cause_9 : Cause 16 0 (Loads 0 0) (world_part 16 run_9)
cause_9 = (refl, refl, refl)

steps_10 : StepsDone (world_part 16 run_10)
steps_10 = (λ begins. absurd (cc), steps_9)

licensed_10 : ActsLicensed 16 (world_part 16 run_10)
licensed_10 = (cause_9, licensed_9)

abbrev run_11 : List Event
run_11 = event.Taken (Down (host 1) object 1) (message.Supply page 2 false zeros) ∷ run_10

cause_10 : Cause 16 1 (TakesDown 1 (Supplying 2 false zeros)) (world_part 16 run_10)
cause_10 = λ mine live. refl

done_10 : Done (world_part 16 run_10)
done_10 h = grind (arith, nat_tests)

steps_11 : StepsDone (world_part 16 run_11)
steps_11 = (λ begins. done_10, steps_10)

licensed_11 : ActsLicensed 16 (world_part 16 run_11)
licensed_11 = (cause_10, licensed_10)

abbrev run_12 : List Event
run_12 = event.Loaded (task 1) object page 0 ∷ run_11

cause_11 : Cause 16 1 (Loads 1 0) (world_part 16 run_11)
cause_11 = (refl, refl, refl)

steps_12 : StepsDone (world_part 16 run_12)
steps_12 = (λ begins. absurd (cc), steps_11)

licensed_12 : ActsLicensed 16 (world_part 16 run_12)
licensed_12 = (cause_11, licensed_11)

abbrev run_13 : List Event
run_13 = event.BegunStore (task 0) 0 8 5 ∷ run_12

cause_12 : Cause 16 0 (Begins 0 true 0 8 5) (world_part 16 run_12)
cause_12 = tt

steps_13 : StepsDone (world_part 16 run_13)
steps_13 = (λ begins. absurd (cc), steps_12)

licensed_13 : ActsLicensed 16 (world_part 16 run_13)
licensed_13 = (cause_12, licensed_12)

abbrev run_14 : List Event
run_14 = event.Sent (Up (host 0) object) (message.Unlock 1 page 3) ∷ run_13

cause_13 : Cause 16 0 (SendsUp 1 (Unlocking 3)) (world_part 16 run_13)
cause_13 = grind (arith, nat_tests)

steps_14 : StepsDone (world_part 16 run_14)
steps_14 = (λ begins. absurd (cc), steps_13)

licensed_14 : ActsLicensed 16 (world_part 16 run_14)
licensed_14 = (cause_13, licensed_13)

abbrev run_15 : List Event
run_15 = event.BegunStore (task 1) 0 8 6 ∷ run_14

cause_14 : Cause 16 1 (Begins 1 true 0 8 6) (world_part 16 run_14)
cause_14 = tt

steps_15 : StepsDone (world_part 16 run_15)
steps_15 = (λ begins. absurd (cc), steps_14)

licensed_15 : ActsLicensed 16 (world_part 16 run_15)
licensed_15 = (cause_14, licensed_14)

abbrev run_16 : List Event
run_16 = event.Sent (Up (host 1) object) (message.Unlock 1 page 3) ∷ run_15

cause_15 : Cause 16 1 (SendsUp 1 (Unlocking 3)) (world_part 16 run_15)
cause_15 = grind (arith, nat_tests)

steps_16 : StepsDone (world_part 16 run_16)
steps_16 = (λ begins. absurd (cc), steps_15)

licensed_16 : ActsLicensed 16 (world_part 16 run_16)
licensed_16 = (cause_15, licensed_15)

abbrev run_17 : List Event
run_17 = event.Taken (Up (host 0) object) (message.Unlock 1 page 3) ∷ run_16

cause_16 : Cause 16 0 (TakenUp (Unlocking 3)) (world_part 16 run_16)
cause_16 = refl

done_16 : Done (world_part 16 run_16)
done_16 h = grind (arith, nat_tests)

steps_17 : StepsDone (world_part 16 run_17)
steps_17 = (λ begins. done_16, steps_16)

licensed_17 : ActsLicensed 16 (world_part 16 run_17)
licensed_17 = (cause_16, licensed_16)

abbrev run_18 : List Event
run_18 = event.Sent (Down (host 1) object 1) (message.Lock page 1 1 true 8 true) ∷ run_17

cause_17 : Cause 16 1 (SentDown 1 (Locking 1 1 true 8 true)) (world_part 16 run_17)
cause_17 = grind (arith, nat_tests)

steps_18 : StepsDone (world_part 16 run_18)
steps_18 = (λ begins. absurd (cc), steps_17)

licensed_18 : ActsLicensed 16 (world_part 16 run_18)
licensed_18 = (cause_17, licensed_17)

abbrev run_19 : List Event
run_19 = event.Taken (Up (host 1) object) (message.Unlock 1 page 3) ∷ run_18

cause_18 : Cause 16 1 (TakenUp (Unlocking 3)) (world_part 16 run_18)
cause_18 = refl

done_18 : Done (world_part 16 run_18)
done_18 h = grind (arith, nat_tests)

steps_19 : StepsDone (world_part 16 run_19)
steps_19 = (λ begins. done_18, steps_18)

licensed_19 : ActsLicensed 16 (world_part 16 run_19)
licensed_19 = (cause_18, licensed_18)

abbrev run_20 : List Event
run_20 = event.Taken (Down (host 1) object 1) (message.Lock page 1 1 true 8 true) ∷ run_19

cause_19 : Cause 16 1 (TakesDown 1 (Locking 1 1 true 8 true)) (world_part 16 run_19)
cause_19 = λ mine live. refl

done_19 : Done (world_part 16 run_19)
done_19 h = grind (arith, nat_tests)

steps_20 : StepsDone (world_part 16 run_20)
steps_20 = (λ begins. done_19, steps_19)

licensed_20 : ActsLicensed 16 (world_part 16 run_20)
licensed_20 = (cause_19, licensed_19)

abbrev run_21 : List Event
run_21 = event.Dropped (host 1) object page ∷ run_20

cause_20 : Cause 16 1 (Drops) (world_part 16 run_20)
cause_20 = grind (arith, nat_tests)

steps_21 : StepsDone (world_part 16 run_21)
steps_21 = (λ begins. absurd (cc), steps_20)

licensed_21 : ActsLicensed 16 (world_part 16 run_21)
licensed_21 = (cause_20, licensed_20)

abbrev run_22 : List Event
run_22 = event.Sent (Up (host 1) object) (message.Completed 1 page 1) ∷ run_21

cause_21 : Cause 16 1 (SendsUp 1 (Doing 1 1)) (world_part 16 run_21)
cause_21 = grind (arith, nat_tests)

steps_22 : StepsDone (world_part 16 run_22)
steps_22 = (λ begins. absurd (cc), steps_21)

licensed_22 : ActsLicensed 16 (world_part 16 run_22)
licensed_22 = (cause_21, licensed_21)

abbrev run_23 : List Event
run_23 = event.Sent (Up (host 1) object) (message.Request 1 page 3) ∷ run_22

cause_22 : Cause 16 1 (SendsUp 1 (Asking 1 3)) (world_part 16 run_22)
cause_22 = grind (arith, nat_tests)

steps_23 : StepsDone (world_part 16 run_23)
steps_23 = (λ begins. absurd (cc), steps_22)

licensed_23 : ActsLicensed 16 (world_part 16 run_23)
licensed_23 = (cause_22, licensed_22)

abbrev run_24 : List Event
run_24 = event.Taken (Up (host 1) object) (message.Completed 1 page 1) ∷ run_23

cause_23 : Cause 16 1 (TakenUp (Doing 1 1)) (world_part 16 run_23)
cause_23 = refl

done_23 : Done (world_part 16 run_23)
done_23 h = grind (arith, nat_tests)

steps_24 : StepsDone (world_part 16 run_24)
steps_24 = (λ begins. done_23, steps_23)

licensed_24 : ActsLicensed 16 (world_part 16 run_24)
licensed_24 = (cause_23, licensed_23)

abbrev run_25 : List Event
run_25 = event.Sent (Down (host 0) object 1) (message.Lock page 1 0 false 0 false) ∷ run_24

free_24 : NobodyAwaited (world_part 16 run_24)
free_24 g = grind (arith, nat_tests)

low_24 : OthersHold 0 0 (world_part 16 run_24)
low_24 g apart = grind (arith, nat_tests)

cause_24 : Cause 16 0 (SentDown 1 (Locking 1 0 false 0 false)) (world_part 16 run_24)
cause_24 = (refl, refl, refl, refl, refl, free_24, low_24, (refl, refl))

steps_25 : StepsDone (world_part 16 run_25)
steps_25 = (λ begins. absurd (cc), steps_24)

licensed_25 : ActsLicensed 16 (world_part 16 run_25)
licensed_25 = (cause_24, licensed_24)

abbrev run_26 : List Event
run_26 = event.Taken (Up (host 1) object) (message.Request 1 page 3) ∷ run_25

cause_25 : Cause 16 1 (TakenUp (Asking 1 3)) (world_part 16 run_25)
cause_25 = refl

done_25 : Done (world_part 16 run_25)
done_25 h = grind (arith, nat_tests)

steps_26 : StepsDone (world_part 16 run_26)
steps_26 = (λ begins. done_25, steps_25)

licensed_26 : ActsLicensed 16 (world_part 16 run_26)
licensed_26 = (cause_25, licensed_25)

abbrev run_27 : List Event
run_27 = event.Sent (Down (host 0) object 1) (message.Lock page 1 1 true 8 true) ∷ run_26

cause_26 : Cause 16 0 (SentDown 1 (Locking 1 1 true 8 true)) (world_part 16 run_26)
cause_26 = grind (arith, nat_tests)

steps_27 : StepsDone (world_part 16 run_27)
steps_27 = (λ begins. absurd (cc), steps_26)

licensed_27 : ActsLicensed 16 (world_part 16 run_27)
licensed_27 = (cause_26, licensed_26)

abbrev run_28 : List Event
run_28 = event.Taken (Down (host 0) object 1) (message.Lock page 1 0 false 0 false) ∷ run_27

cause_27 : Cause 16 0 (TakesDown 1 (Locking 1 0 false 0 false)) (world_part 16 run_27)
cause_27 = λ mine live. refl

done_27 : Done (world_part 16 run_27)
done_27 h = grind (arith, nat_tests)

steps_28 : StepsDone (world_part 16 run_28)
steps_28 = (λ begins. done_27, steps_27)

licensed_28 : ActsLicensed 16 (world_part 16 run_28)
licensed_28 = (cause_27, licensed_27)

abbrev run_29 : List Event
run_29 = event.Stored (task 0) object page 0 8 5 ∷ run_28

cause_28 : Cause 16 0 (Stores 0 0 8 5) (world_part 16 run_28)
cause_28 = (refl, refl, refl, refl, refl)

steps_29 : StepsDone (world_part 16 run_29)
steps_29 = (λ begins. absurd (cc), steps_28)

licensed_29 : ActsLicensed 16 (world_part 16 run_29)
licensed_29 = (cause_28, licensed_28)

abbrev run_30 : List Event
run_30 = event.Taken (Down (host 0) object 1) (message.Lock page 1 1 true 8 true) ∷ run_29

cause_29 : Cause 16 0 (TakesDown 1 (Locking 1 1 true 8 true)) (world_part 16 run_29)
cause_29 = λ mine live. refl

done_29 : Done (world_part 16 run_29)
done_29 h = grind (arith, nat_tests)

steps_30 : StepsDone (world_part 16 run_30)
steps_30 = (λ begins. done_29, steps_29)

licensed_30 : ActsLicensed 16 (world_part 16 run_30)
licensed_30 = (cause_29, licensed_29)

abbrev run_31 : List Event
run_31 = event.Sent (Up (host 0) object) (message.Return 1 page true false fives) ∷ run_30

cause_30 : Cause 16 0 (SendsUp 1 (Returning true false fives)) (world_part 16 run_30)
cause_30 = grind (arith, nat_tests)

steps_31 : StepsDone (world_part 16 run_31)
steps_31 = (λ begins. absurd (cc), steps_30)

licensed_31 : ActsLicensed 16 (world_part 16 run_31)
licensed_31 = (cause_30, licensed_30)

abbrev run_32 : List Event
run_32 = event.Sent (Up (host 0) object) (message.Completed 1 page 1) ∷ run_31

cause_31 : Cause 16 0 (SendsUp 1 (Doing 1 1)) (world_part 16 run_31)
cause_31 = grind (arith, nat_tests)

steps_32 : StepsDone (world_part 16 run_32)
steps_32 = (λ begins. absurd (cc), steps_31)

licensed_32 : ActsLicensed 16 (world_part 16 run_32)
licensed_32 = (cause_31, licensed_31)

abbrev run_33 : List Event
run_33 = event.Taken (Up (host 0) object) (message.Return 1 page true false fives) ∷ run_32

cause_32 : Cause 16 0 (TakenUp (Returning true false fives)) (world_part 16 run_32)
cause_32 = refl

done_32 : Done (world_part 16 run_32)
done_32 h = grind (arith, nat_tests)

steps_33 : StepsDone (world_part 16 run_33)
steps_33 = (λ begins. done_32, steps_32)

licensed_33 : ActsLicensed 16 (world_part 16 run_33)
licensed_33 = (cause_32, licensed_32)

abbrev run_34 : List Event
run_34 = event.Taken (Up (host 0) object) (message.Completed 1 page 1) ∷ run_33

cause_33 : Cause 16 0 (TakenUp (Doing 1 1)) (world_part 16 run_33)
cause_33 = refl

done_33 : Done (world_part 16 run_33)
done_33 h = grind (arith, nat_tests)

steps_34 : StepsDone (world_part 16 run_34)
steps_34 = (λ begins. done_33, steps_33)

licensed_34 : ActsLicensed 16 (world_part 16 run_34)
licensed_34 = (cause_33, licensed_33)

abbrev run_35 : List Event
run_35 = event.Sent (Down (host 1) object 1) (message.Supply page 0 false fives) ∷ run_34

free_34 : NobodyAwaited (world_part 16 run_34)
free_34 g = grind (arith, nat_tests)

low_34 : OthersHold 0 1 (world_part 16 run_34)
low_34 g apart = grind (arith, nat_tests)

cause_34 : Cause 16 1 (SentDown 1 (Supplying 0 false fives)) (world_part 16 run_34)
cause_34 = (refl, refl, free_34, refl, (refl, refl, refl, low_34))

steps_35 : StepsDone (world_part 16 run_35)
steps_35 = (λ begins. absurd (cc), steps_34)

licensed_35 : ActsLicensed 16 (world_part 16 run_35)
licensed_35 = (cause_34, licensed_34)

abbrev run_36 : List Event
run_36 = event.Taken (Down (host 1) object 1) (message.Supply page 0 false fives) ∷ run_35

cause_35 : Cause 16 1 (TakesDown 1 (Supplying 0 false fives)) (world_part 16 run_35)
cause_35 = λ mine live. refl

done_35 : Done (world_part 16 run_35)
done_35 h = grind (arith, nat_tests)

steps_36 : StepsDone (world_part 16 run_36)
steps_36 = (λ begins. done_35, steps_35)

licensed_36 : ActsLicensed 16 (world_part 16 run_36)
licensed_36 = (cause_35, licensed_35)

abbrev run_37 : List Event
run_37 = event.Stored (task 1) object page 0 8 6 ∷ run_36

cause_36 : Cause 16 1 (Stores 1 0 8 6) (world_part 16 run_36)
cause_36 = (refl, refl, refl, refl, refl)

steps_37 : StepsDone (world_part 16 run_37)
steps_37 = (λ begins. absurd (cc), steps_36)

licensed_37 : ActsLicensed 16 (world_part 16 run_37)
licensed_37 = (cause_36, licensed_36)

abbrev run_38 : List Event
run_38 = event.BegunLoad (task 1) 0 8 ∷ run_37

cause_37 : Cause 16 1 (Begins 1 false 0 8 0) (world_part 16 run_37)
cause_37 = tt

steps_38 : StepsDone (world_part 16 run_38)
steps_38 = (λ begins. absurd (cc), steps_37)

licensed_38 : ActsLicensed 16 (world_part 16 run_38)
licensed_38 = (cause_37, licensed_37)

abbrev run_39 : List Event
run_39 = event.Loaded (task 1) object page 6 ∷ run_38

cause_38 : Cause 16 1 (Loads 1 6) (world_part 16 run_38)
cause_38 = (refl, refl, refl)

steps_39 : StepsDone (world_part 16 run_39)
steps_39 = (λ begins. absurd (cc), steps_38)

licensed_39 : ActsLicensed 16 (world_part 16 run_39)
licensed_39 = (cause_38, licensed_38)

pub crossing_licensed : ActsLicensed 16 (world_part 16 crossing)
crossing_licensed = licensed_39

pub crossing_done : StepsDone (world_part 16 crossing)
crossing_done = steps_39

pub crossing_quiet : Quiet (world_part 16 crossing)
crossing_quiet =
    record {
      no_up = λ h. grind (arith, nat_tests);
      no_down = λ h. grind (arith, nat_tests);
      all_ready = λ h. grind (arith, nat_tests);
      done = λ h. grind (arith, nat_tests);
    }

pub crossing_served : SomebodyIsAwaited (world_part 16 crossing)
crossing_served some = absurd (some refl)

pub crossing_prompt : WaitersHaveAsked (world_part 16 crossing)
crossing_prompt h some = absurd (some (grind (arith, nat_tests)))
