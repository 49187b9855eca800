-- A history of the whole system in which a control ends while its host is awaited. Its page part meets the licences.
use Rattle.std.proofs.Common.{◌∷◌, [], List, arith, true, false, refl}
use Rattle.std.proofs.lemmas.Bool.Decides.{nat_tests}
use Rattle.vm_base.specs.declared.ids.Inherit.TheVariants.{Share}
use Rattle.vm_coherence.specs.Crossing.{host, task, object, page, zeros}
use Rattle.vm_coherence.specs.Remapping.{region, both, eights, remapping}
use Rattle.vm_model.specs.declared.message.Channel.TheVariants.{Up, Down}
use Rattle.vm_model.specs.declared.message.Message.TheVariants as message
use Rattle.vm_model.specs.declared.event.Event.{Event}
use Rattle.vm_model.specs.declared.event.Event.TheVariants as event
use Rattle.vm_model.specs.Words.{Asking, Unlocking, Returning, Doing, Ending, Locking, Opens, SendsUp, SentDown, Drops}
use Rattle.vm_model.specs.PageLicences.{NobodyAwaited, OthersHold, Cause, ActsLicensed}
use Rattle.vm_model.specs.Coherence.{StepsDone}
use Rattle.vm_model.specs.PagePart.{page_part}

abbrev run_0 : List Event
run_0 = []

licensed_0 : ActsLicensed 16 (page_part 16 0 0 run_0)
licensed_0 = tt

steps_0 : StepsDone (page_part 16 0 0 run_0)
steps_0 = tt

abbrev run_1 : List Event
run_1 = event.Line 4 ∷ run_0

steps_1 : StepsDone (page_part 16 0 0 run_1)
steps_1 = ((λ begins h. grind (arith, nat_tests)), steps_0)

licensed_1 : ActsLicensed 16 (page_part 16 0 0 run_1)
licensed_1 = (tt, licensed_0)

abbrev run_2 : List Event
run_2 = event.TaskMade (task 0) (host 0) ∷ run_1

steps_2 : StepsDone (page_part 16 0 0 run_2)
steps_2 = (λ begins. absurd (cc), steps_1)

licensed_2 : ActsLicensed 16 (page_part 16 0 0 run_2)
licensed_2 = (tt, licensed_1)

abbrev run_3 : List Event
run_3 = event.Line 5 ∷ run_2

steps_3 : StepsDone (page_part 16 0 0 run_3)
steps_3 = ((λ begins h. grind (arith, nat_tests)), steps_2)

licensed_3 : ActsLicensed 16 (page_part 16 0 0 run_3)
licensed_3 = (tt, licensed_2)

abbrev run_4 : List Event
run_4 = event.TaskMade (task 1) (host 1) ∷ run_3

steps_4 : StepsDone (page_part 16 0 0 run_4)
steps_4 = (λ begins. absurd (cc), steps_3)

licensed_4 : ActsLicensed 16 (page_part 16 0 0 run_4)
licensed_4 = (tt, licensed_3)

abbrev run_5 : List Event
run_5 = event.Line 6 ∷ run_4

steps_5 : StepsDone (page_part 16 0 0 run_5)
steps_5 = ((λ begins h. grind (arith, nat_tests)), steps_4)

licensed_5 : ActsLicensed 16 (page_part 16 0 0 run_5)
licensed_5 = (tt, licensed_4)

abbrev run_6 : List Event
run_6 = event.Entered (task 0) 0 16 region 0 both Share ∷ run_5

steps_6 : StepsDone (page_part 16 0 0 run_6)
steps_6 = (λ begins. absurd (cc), steps_5)

licensed_6 : ActsLicensed 16 (page_part 16 0 0 run_6)
licensed_6 = (tt, licensed_5)

abbrev run_7 : List Event
run_7 = event.Sent (Up (host 0) object) (message.Init 1 16) ∷ run_6

cause_6 : Cause 16 0 (Opens 1 false) (page_part 16 0 0 run_6)
cause_6 = grind (arith, nat_tests)

steps_7 : StepsDone (page_part 16 0 0 run_7)
steps_7 = (λ begins. absurd (cc), steps_6)

licensed_7 : ActsLicensed 16 (page_part 16 0 0 run_7)
licensed_7 = (cause_6, licensed_6)

abbrev run_8 : List Event
run_8 = event.Line 7 ∷ run_7

steps_8 : StepsDone (page_part 16 0 0 run_8)
steps_8 = ((λ begins h. grind (arith, nat_tests)), steps_7)

licensed_8 : ActsLicensed 16 (page_part 16 0 0 run_8)
licensed_8 = (tt, licensed_7)

abbrev run_9 : List Event
run_9 = event.Entered (task 1) 0 16 region 0 both Share ∷ run_8

steps_9 : StepsDone (page_part 16 0 0 run_9)
steps_9 = (λ begins. absurd (cc), steps_8)

licensed_9 : ActsLicensed 16 (page_part 16 0 0 run_9)
licensed_9 = (tt, licensed_8)

abbrev run_10 : List Event
run_10 = event.Sent (Up (host 1) object) (message.Init 1 16) ∷ run_9

cause_9 : Cause 16 1 (Opens 1 false) (page_part 16 0 0 run_9)
cause_9 = grind (arith, nat_tests)

steps_10 : StepsDone (page_part 16 0 0 run_10)
steps_10 = (λ begins. absurd (cc), steps_9)

licensed_10 : ActsLicensed 16 (page_part 16 0 0 run_10)
licensed_10 = (cause_9, licensed_9)

abbrev run_11 : List Event
run_11 = event.Line 8 ∷ run_10

steps_11 : StepsDone (page_part 16 0 0 run_11)
steps_11 = ((λ begins h. grind (arith, nat_tests)), steps_10)

licensed_11 : ActsLicensed 16 (page_part 16 0 0 run_11)
licensed_11 = (tt, licensed_10)

abbrev run_12 : List Event
run_12 = event.BegunLoad (task 0) 0 1 ∷ run_11

steps_12 : StepsDone (page_part 16 0 0 run_12)
steps_12 = (λ begins. absurd (cc), steps_11)

licensed_12 : ActsLicensed 16 (page_part 16 0 0 run_12)
licensed_12 = (tt, licensed_11)

abbrev run_13 : List Event
run_13 = event.Line 9 ∷ run_12

steps_13 : StepsDone (page_part 16 0 0 run_13)
steps_13 = ((λ begins h. grind (arith, nat_tests)), steps_12)

licensed_13 : ActsLicensed 16 (page_part 16 0 0 run_13)
licensed_13 = (tt, licensed_12)

abbrev run_14 : List Event
run_14 = event.BegunLoad (task 1) 0 1 ∷ run_13

steps_14 : StepsDone (page_part 16 0 0 run_14)
steps_14 = (λ begins. absurd (cc), steps_13)

licensed_14 : ActsLicensed 16 (page_part 16 0 0 run_14)
licensed_14 = (tt, licensed_13)

abbrev run_15 : List Event
run_15 = event.Line 10 ∷ run_14

steps_15 : StepsDone (page_part 16 0 0 run_15)
steps_15 = ((λ begins h. grind (arith, nat_tests)), steps_14)

licensed_15 : ActsLicensed 16 (page_part 16 0 0 run_15)
licensed_15 = (tt, licensed_14)

abbrev run_16 : List Event
run_16 = event.Taken (Up (host 0) object) (message.Init 1 16) ∷ run_15

steps_16 : StepsDone (page_part 16 0 0 run_16)
steps_16 = ((λ begins h. grind (arith, nat_tests)), steps_15)

licensed_16 : ActsLicensed 16 (page_part 16 0 0 run_16)
licensed_16 = (tt, licensed_15)

abbrev run_17 : List Event
run_17 = event.Sent (Down (host 0) object 1) (message.Ready false 0) ∷ run_16

steps_17 : StepsDone (page_part 16 0 0 run_17)
steps_17 = (λ begins. absurd (cc), steps_16)

licensed_17 : ActsLicensed 16 (page_part 16 0 0 run_17)
licensed_17 = (tt, licensed_16)

abbrev run_18 : List Event
run_18 = event.Taken (Up (host 1) object) (message.Init 1 16) ∷ run_17

steps_18 : StepsDone (page_part 16 0 0 run_18)
steps_18 = ((λ begins h. grind (arith, nat_tests)), steps_17)

licensed_18 : ActsLicensed 16 (page_part 16 0 0 run_18)
licensed_18 = (tt, licensed_17)

abbrev run_19 : List Event
run_19 = event.Sent (Down (host 1) object 1) (message.Ready false 0) ∷ run_18

steps_19 : StepsDone (page_part 16 0 0 run_19)
steps_19 = (λ begins. absurd (cc), steps_18)

licensed_19 : ActsLicensed 16 (page_part 16 0 0 run_19)
licensed_19 = (tt, licensed_18)

abbrev run_20 : List Event
run_20 = event.Taken (Down (host 0) object 1) (message.Ready false 0) ∷ run_19

steps_20 : StepsDone (page_part 16 0 0 run_20)
steps_20 = ((λ begins h. grind (arith, nat_tests)), steps_19)

licensed_20 : ActsLicensed 16 (page_part 16 0 0 run_20)
licensed_20 = (tt, licensed_19)

abbrev run_21 : List Event
run_21 = event.Sent (Up (host 0) object) (message.Request 1 page 1) ∷ run_20

cause_20 : Cause 16 0 (SendsUp 1 (Asking 1 1)) (page_part 16 0 0 run_20)
cause_20 = grind (arith, nat_tests)

steps_21 : StepsDone (page_part 16 0 0 run_21)
steps_21 = (λ begins. absurd (cc), steps_20)

licensed_21 : ActsLicensed 16 (page_part 16 0 0 run_21)
licensed_21 = (cause_20, licensed_20)

abbrev run_22 : List Event
run_22 = event.Taken (Down (host 1) object 1) (message.Ready false 0) ∷ run_21

steps_22 : StepsDone (page_part 16 0 0 run_22)
steps_22 = ((λ begins h. grind (arith, nat_tests)), steps_21)

licensed_22 : ActsLicensed 16 (page_part 16 0 0 run_22)
licensed_22 = (tt, licensed_21)

abbrev run_23 : List Event
run_23 = event.Sent (Up (host 1) object) (message.Request 1 page 1) ∷ run_22

cause_22 : Cause 16 1 (SendsUp 1 (Asking 1 1)) (page_part 16 0 0 run_22)
cause_22 = grind (arith, nat_tests)

steps_23 : StepsDone (page_part 16 0 0 run_23)
steps_23 = (λ begins. absurd (cc), steps_22)

licensed_23 : ActsLicensed 16 (page_part 16 0 0 run_23)
licensed_23 = (cause_22, licensed_22)

abbrev run_24 : List Event
run_24 = event.Taken (Up (host 0) object) (message.Request 1 page 1) ∷ run_23

steps_24 : StepsDone (page_part 16 0 0 run_24)
steps_24 = ((λ begins h. grind (arith, nat_tests)), steps_23)

licensed_24 : ActsLicensed 16 (page_part 16 0 0 run_24)
licensed_24 = (refl, licensed_23)

abbrev run_25 : List Event
run_25 = event.Sent (Down (host 0) object 1) (message.Supply page 2 false zeros) ∷ run_24

free_24 : NobodyAwaited (page_part 16 0 0 run_24)
free_24 g = grind (arith, nat_tests)

low_24 : OthersHold 1 0 (page_part 16 0 0 run_24)
low_24 g apart = grind (arith, nat_tests)

steps_25 : StepsDone (page_part 16 0 0 run_25)
steps_25 = (λ begins. absurd (cc), steps_24)

licensed_25 : ActsLicensed 16 (page_part 16 0 0 run_25)
licensed_25 = ((refl, refl, free_24, refl, (refl, refl, refl, low_24)), licensed_24)

abbrev run_26 : List Event
run_26 = event.Taken (Up (host 1) object) (message.Request 1 page 1) ∷ run_25

steps_26 : StepsDone (page_part 16 0 0 run_26)
steps_26 = ((λ begins h. grind (arith, nat_tests)), steps_25)

licensed_26 : ActsLicensed 16 (page_part 16 0 0 run_26)
licensed_26 = (refl, licensed_25)

abbrev run_27 : List Event
run_27 = event.Sent (Down (host 1) object 1) (message.Supply page 2 false zeros) ∷ run_26

free_26 : NobodyAwaited (page_part 16 0 0 run_26)
free_26 g = grind (arith, nat_tests)

low_26 : OthersHold 1 1 (page_part 16 0 0 run_26)
low_26 g apart = grind (arith, nat_tests)

steps_27 : StepsDone (page_part 16 0 0 run_27)
steps_27 = (λ begins. absurd (cc), steps_26)

licensed_27 : ActsLicensed 16 (page_part 16 0 0 run_27)
licensed_27 = ((refl, refl, free_26, refl, (refl, refl, refl, low_26)), licensed_26)

abbrev run_28 : List Event
run_28 = event.Taken (Down (host 0) object 1) (message.Supply page 2 false zeros) ∷ run_27

steps_28 : StepsDone (page_part 16 0 0 run_28)
steps_28 = ((λ begins h. grind (arith, nat_tests)), steps_27)

licensed_28 : ActsLicensed 16 (page_part 16 0 0 run_28)
licensed_28 = ((λ mine live. refl), licensed_27)

abbrev run_29 : List Event
run_29 = event.Loaded (task 0) object page 0 ∷ run_28

steps_29 : StepsDone (page_part 16 0 0 run_29)
steps_29 = (λ begins. absurd (cc), steps_28)

licensed_29 : ActsLicensed 16 (page_part 16 0 0 run_29)
licensed_29 = ((refl, refl, refl), licensed_28)

abbrev run_30 : List Event
run_30 = event.Taken (Down (host 1) object 1) (message.Supply page 2 false zeros) ∷ run_29

steps_30 : StepsDone (page_part 16 0 0 run_30)
steps_30 = ((λ begins h. grind (arith, nat_tests)), steps_29)

licensed_30 : ActsLicensed 16 (page_part 16 0 0 run_30)
licensed_30 = ((λ mine live. refl), licensed_29)

abbrev run_31 : List Event
run_31 = event.Loaded (task 1) object page 0 ∷ run_30

steps_31 : StepsDone (page_part 16 0 0 run_31)
steps_31 = (λ begins. absurd (cc), steps_30)

licensed_31 : ActsLicensed 16 (page_part 16 0 0 run_31)
licensed_31 = ((refl, refl, refl), licensed_30)

abbrev run_32 : List Event
run_32 = event.Line 11 ∷ run_31

steps_32 : StepsDone (page_part 16 0 0 run_32)
steps_32 = ((λ begins h. grind (arith, nat_tests)), steps_31)

licensed_32 : ActsLicensed 16 (page_part 16 0 0 run_32)
licensed_32 = (tt, licensed_31)

abbrev run_33 : List Event
run_33 = event.BegunStore (task 0) 0 1 8 ∷ run_32

steps_33 : StepsDone (page_part 16 0 0 run_33)
steps_33 = (λ begins. absurd (cc), steps_32)

licensed_33 : ActsLicensed 16 (page_part 16 0 0 run_33)
licensed_33 = (tt, licensed_32)

abbrev run_34 : List Event
run_34 = event.Sent (Up (host 0) object) (message.Unlock 1 page 3) ∷ run_33

cause_33 : Cause 16 0 (SendsUp 1 (Unlocking 3)) (page_part 16 0 0 run_33)
cause_33 = grind (arith, nat_tests)

steps_34 : StepsDone (page_part 16 0 0 run_34)
steps_34 = (λ begins. absurd (cc), steps_33)

licensed_34 : ActsLicensed 16 (page_part 16 0 0 run_34)
licensed_34 = (cause_33, licensed_33)

abbrev run_35 : List Event
run_35 = event.Line 12 ∷ run_34

steps_35 : StepsDone (page_part 16 0 0 run_35)
steps_35 = ((λ begins h. grind (arith, nat_tests)), steps_34)

licensed_35 : ActsLicensed 16 (page_part 16 0 0 run_35)
licensed_35 = (tt, licensed_34)

abbrev run_36 : List Event
run_36 = event.Taken (Up (host 0) object) (message.Unlock 1 page 3) ∷ run_35

steps_36 : StepsDone (page_part 16 0 0 run_36)
steps_36 = ((λ begins h. grind (arith, nat_tests)), steps_35)

licensed_36 : ActsLicensed 16 (page_part 16 0 0 run_36)
licensed_36 = (refl, licensed_35)

abbrev run_37 : List Event
run_37 = event.Sent (Down (host 1) object 1) (message.Lock page 1 1 true 8 true) ∷ run_36

cause_36 : Cause 16 1 (SentDown 1 (Locking 1 1 true 8 true)) (page_part 16 0 0 run_36)
cause_36 = grind (arith, nat_tests)

steps_37 : StepsDone (page_part 16 0 0 run_37)
steps_37 = (λ begins. absurd (cc), steps_36)

licensed_37 : ActsLicensed 16 (page_part 16 0 0 run_37)
licensed_37 = (cause_36, licensed_36)

abbrev run_38 : List Event
run_38 = event.Line 13 ∷ run_37

steps_38 : StepsDone (page_part 16 0 0 run_38)
steps_38 = ((λ begins h. grind (arith, nat_tests)), steps_37)

licensed_38 : ActsLicensed 16 (page_part 16 0 0 run_38)
licensed_38 = (tt, licensed_37)

abbrev run_39 : List Event
run_39 = event.Removed (task 1) 0 16 ∷ run_38

steps_39 : StepsDone (page_part 16 0 0 run_39)
steps_39 = (λ begins. absurd (cc), steps_38)

licensed_39 : ActsLicensed 16 (page_part 16 0 0 run_39)
licensed_39 = (tt, licensed_38)

abbrev run_40 : List Event
run_40 = event.Dropped (host 1) object page ∷ run_39

cause_39 : Cause 16 1 (Drops) (page_part 16 0 0 run_39)
cause_39 = grind (arith, nat_tests)

steps_40 : StepsDone (page_part 16 0 0 run_40)
steps_40 = (λ begins. absurd (cc), steps_39)

licensed_40 : ActsLicensed 16 (page_part 16 0 0 run_40)
licensed_40 = (cause_39, licensed_39)

abbrev run_41 : List Event
run_41 = event.Sent (Up (host 1) object) (message.Terminate 1) ∷ run_40

cause_40 : Cause 16 1 (SendsUp 1 (Ending 1)) (page_part 16 0 0 run_40)
cause_40 = grind (arith, nat_tests)

steps_41 : StepsDone (page_part 16 0 0 run_41)
steps_41 = (λ begins. absurd (cc), steps_40)

licensed_41 : ActsLicensed 16 (page_part 16 0 0 run_41)
licensed_41 = (cause_40, licensed_40)

abbrev run_42 : List Event
run_42 = event.Line 14 ∷ run_41

steps_42 : StepsDone (page_part 16 0 0 run_42)
steps_42 = ((λ begins h. grind (arith, nat_tests)), steps_41)

licensed_42 : ActsLicensed 16 (page_part 16 0 0 run_42)
licensed_42 = (tt, licensed_41)

abbrev run_43 : List Event
run_43 = event.Entered (task 1) 0 16 region 0 both Share ∷ run_42

steps_43 : StepsDone (page_part 16 0 0 run_43)
steps_43 = (λ begins. absurd (cc), steps_42)

licensed_43 : ActsLicensed 16 (page_part 16 0 0 run_43)
licensed_43 = (tt, licensed_42)

abbrev run_44 : List Event
run_44 = event.Sent (Up (host 1) object) (message.Init 2 16) ∷ run_43

cause_43 : Cause 16 1 (Opens 2 false) (page_part 16 0 0 run_43)
cause_43 = grind (arith, nat_tests)

steps_44 : StepsDone (page_part 16 0 0 run_44)
steps_44 = (λ begins. absurd (cc), steps_43)

licensed_44 : ActsLicensed 16 (page_part 16 0 0 run_44)
licensed_44 = (cause_43, licensed_43)

abbrev run_45 : List Event
run_45 = event.Line 15 ∷ run_44

steps_45 : StepsDone (page_part 16 0 0 run_45)
steps_45 = ((λ begins h. grind (arith, nat_tests)), steps_44)

licensed_45 : ActsLicensed 16 (page_part 16 0 0 run_45)
licensed_45 = (tt, licensed_44)

abbrev run_46 : List Event
run_46 = event.Taken (Up (host 1) object) (message.Terminate 1) ∷ run_45

steps_46 : StepsDone (page_part 16 0 0 run_46)
steps_46 = ((λ begins h. grind (arith, nat_tests)), steps_45)

licensed_46 : ActsLicensed 16 (page_part 16 0 0 run_46)
licensed_46 = (refl, licensed_45)

abbrev run_47 : List Event
run_47 = event.Sent (Down (host 0) object 1) (message.Lock page 1 0 false 0 false) ∷ run_46

free_46 : NobodyAwaited (page_part 16 0 0 run_46)
free_46 g = grind (arith, nat_tests)

low_46 : OthersHold 0 0 (page_part 16 0 0 run_46)
low_46 g apart = grind (arith, nat_tests)

steps_47 : StepsDone (page_part 16 0 0 run_47)
steps_47 = (λ begins. absurd (cc), steps_46)

licensed_47 : ActsLicensed 16 (page_part 16 0 0 run_47)
licensed_47 = ((refl, refl, refl, refl, refl, free_46, low_46, (refl, refl)), licensed_46)

abbrev run_48 : List Event
run_48 = event.Line 16 ∷ run_47

steps_48 : StepsDone (page_part 16 0 0 run_48)
steps_48 = ((λ begins h. grind (arith, nat_tests)), steps_47)

licensed_48 : ActsLicensed 16 (page_part 16 0 0 run_48)
licensed_48 = (tt, licensed_47)

abbrev run_49 : List Event
run_49 = event.Taken (Down (host 1) object 1) (message.Lock page 1 1 true 8 true) ∷ run_48

steps_49 : StepsDone (page_part 16 0 0 run_49)
steps_49 = ((λ begins h. grind (arith, nat_tests)), steps_48)

licensed_49 : ActsLicensed 16 (page_part 16 0 0 run_49)
licensed_49 = ((λ mine live. absurd (cc)), licensed_48)

abbrev run_50 : List Event
run_50 = event.Line 17 ∷ run_49

steps_50 : StepsDone (page_part 16 0 0 run_50)
steps_50 = ((λ begins h. grind (arith, nat_tests)), steps_49)

licensed_50 : ActsLicensed 16 (page_part 16 0 0 run_50)
licensed_50 = (tt, licensed_49)

abbrev run_51 : List Event
run_51 = event.Taken (Up (host 1) object) (message.Init 2 16) ∷ run_50

steps_51 : StepsDone (page_part 16 0 0 run_51)
steps_51 = ((λ begins h. grind (arith, nat_tests)), steps_50)

licensed_51 : ActsLicensed 16 (page_part 16 0 0 run_51)
licensed_51 = (tt, licensed_50)

abbrev run_52 : List Event
run_52 = event.Sent (Down (host 1) object 2) (message.Ready false 0) ∷ run_51

steps_52 : StepsDone (page_part 16 0 0 run_52)
steps_52 = (λ begins. absurd (cc), steps_51)

licensed_52 : ActsLicensed 16 (page_part 16 0 0 run_52)
licensed_52 = (tt, licensed_51)

abbrev run_53 : List Event
run_53 = event.Taken (Down (host 0) object 1) (message.Lock page 1 0 false 0 false) ∷ run_52

steps_53 : StepsDone (page_part 16 0 0 run_53)
steps_53 = ((λ begins h. grind (arith, nat_tests)), steps_52)

licensed_53 : ActsLicensed 16 (page_part 16 0 0 run_53)
licensed_53 = ((λ mine live. refl), licensed_52)

abbrev run_54 : List Event
run_54 = event.Stored (task 0) object page 0 1 8 ∷ run_53

steps_54 : StepsDone (page_part 16 0 0 run_54)
steps_54 = (λ begins. absurd (cc), steps_53)

licensed_54 : ActsLicensed 16 (page_part 16 0 0 run_54)
licensed_54 = ((refl, refl, refl, refl, refl), licensed_53)

abbrev run_55 : List Event
run_55 = event.Taken (Down (host 1) object 2) (message.Ready false 0) ∷ run_54

steps_55 : StepsDone (page_part 16 0 0 run_55)
steps_55 = ((λ begins h. grind (arith, nat_tests)), steps_54)

licensed_55 : ActsLicensed 16 (page_part 16 0 0 run_55)
licensed_55 = (tt, licensed_54)

abbrev run_56 : List Event
run_56 = event.Line 18 ∷ run_55

steps_56 : StepsDone (page_part 16 0 0 run_56)
steps_56 = ((λ begins h. grind (arith, nat_tests)), steps_55)

licensed_56 : ActsLicensed 16 (page_part 16 0 0 run_56)
licensed_56 = (tt, licensed_55)

abbrev run_57 : List Event
run_57 = event.BegunLoad (task 1) 0 1 ∷ run_56

steps_57 : StepsDone (page_part 16 0 0 run_57)
steps_57 = (λ begins. absurd (cc), steps_56)

licensed_57 : ActsLicensed 16 (page_part 16 0 0 run_57)
licensed_57 = (tt, licensed_56)

abbrev run_58 : List Event
run_58 = event.Sent (Up (host 1) object) (message.Request 2 page 1) ∷ run_57

cause_57 : Cause 16 1 (SendsUp 2 (Asking 2 1)) (page_part 16 0 0 run_57)
cause_57 = grind (arith, nat_tests)

steps_58 : StepsDone (page_part 16 0 0 run_58)
steps_58 = (λ begins. absurd (cc), steps_57)

licensed_58 : ActsLicensed 16 (page_part 16 0 0 run_58)
licensed_58 = (cause_57, licensed_57)

abbrev run_59 : List Event
run_59 = event.Line 19 ∷ run_58

steps_59 : StepsDone (page_part 16 0 0 run_59)
steps_59 = ((λ begins h. grind (arith, nat_tests)), steps_58)

licensed_59 : ActsLicensed 16 (page_part 16 0 0 run_59)
licensed_59 = (tt, licensed_58)

abbrev run_60 : List Event
run_60 = event.Taken (Up (host 1) object) (message.Request 2 page 1) ∷ run_59

steps_60 : StepsDone (page_part 16 0 0 run_60)
steps_60 = ((λ begins h. grind (arith, nat_tests)), steps_59)

licensed_60 : ActsLicensed 16 (page_part 16 0 0 run_60)
licensed_60 = (refl, licensed_59)

abbrev run_61 : List Event
run_61 = event.Sent (Down (host 0) object 1) (message.Lock page 1 1 false 2 true) ∷ run_60

cause_60 : Cause 16 0 (SentDown 1 (Locking 1 1 false 2 true)) (page_part 16 0 0 run_60)
cause_60 = grind (arith, nat_tests)

steps_61 : StepsDone (page_part 16 0 0 run_61)
steps_61 = (λ begins. absurd (cc), steps_60)

licensed_61 : ActsLicensed 16 (page_part 16 0 0 run_61)
licensed_61 = (cause_60, licensed_60)

abbrev run_62 : List Event
run_62 = event.Taken (Down (host 0) object 1) (message.Lock page 1 1 false 2 true) ∷ run_61

steps_62 : StepsDone (page_part 16 0 0 run_62)
steps_62 = ((λ begins h. grind (arith, nat_tests)), steps_61)

licensed_62 : ActsLicensed 16 (page_part 16 0 0 run_62)
licensed_62 = ((λ mine live. refl), licensed_61)

abbrev run_63 : List Event
run_63 = event.Sent (Up (host 0) object) (message.Return 1 page true true eights) ∷ run_62

cause_62 : Cause 16 0 (SendsUp 1 (Returning true true eights)) (page_part 16 0 0 run_62)
cause_62 = grind (arith, nat_tests)

steps_63 : StepsDone (page_part 16 0 0 run_63)
steps_63 = (λ begins. absurd (cc), steps_62)

licensed_63 : ActsLicensed 16 (page_part 16 0 0 run_63)
licensed_63 = (cause_62, licensed_62)

abbrev run_64 : List Event
run_64 = event.Sent (Up (host 0) object) (message.Completed 1 page 1) ∷ run_63

cause_63 : Cause 16 0 (SendsUp 1 (Doing 1 1)) (page_part 16 0 0 run_63)
cause_63 = grind (arith, nat_tests)

steps_64 : StepsDone (page_part 16 0 0 run_64)
steps_64 = (λ begins. absurd (cc), steps_63)

licensed_64 : ActsLicensed 16 (page_part 16 0 0 run_64)
licensed_64 = (cause_63, licensed_63)

abbrev run_65 : List Event
run_65 = event.Taken (Up (host 0) object) (message.Return 1 page true true eights) ∷ run_64

steps_65 : StepsDone (page_part 16 0 0 run_65)
steps_65 = ((λ begins h. grind (arith, nat_tests)), steps_64)

licensed_65 : ActsLicensed 16 (page_part 16 0 0 run_65)
licensed_65 = (refl, licensed_64)

abbrev run_66 : List Event
run_66 = event.Taken (Up (host 0) object) (message.Completed 1 page 1) ∷ run_65

steps_66 : StepsDone (page_part 16 0 0 run_66)
steps_66 = ((λ begins h. grind (arith, nat_tests)), steps_65)

licensed_66 : ActsLicensed 16 (page_part 16 0 0 run_66)
licensed_66 = (refl, licensed_65)

abbrev run_67 : List Event
run_67 = event.Sent (Down (host 1) object 2) (message.Supply page 2 false eights) ∷ run_66

free_66 : NobodyAwaited (page_part 16 0 0 run_66)
free_66 g = grind (arith, nat_tests)

low_66 : OthersHold 1 1 (page_part 16 0 0 run_66)
low_66 g apart = grind (arith, nat_tests)

steps_67 : StepsDone (page_part 16 0 0 run_67)
steps_67 = (λ begins. absurd (cc), steps_66)

licensed_67 : ActsLicensed 16 (page_part 16 0 0 run_67)
licensed_67 = ((refl, refl, free_66, refl, (refl, refl, refl, low_66)), licensed_66)

abbrev run_68 : List Event
run_68 = event.Taken (Down (host 1) object 2) (message.Supply page 2 false eights) ∷ run_67

steps_68 : StepsDone (page_part 16 0 0 run_68)
steps_68 = ((λ begins h. grind (arith, nat_tests)), steps_67)

licensed_68 : ActsLicensed 16 (page_part 16 0 0 run_68)
licensed_68 = ((λ mine live. refl), licensed_67)

abbrev run_69 : List Event
run_69 = event.Loaded (task 1) object page 8 ∷ run_68

steps_69 : StepsDone (page_part 16 0 0 run_69)
steps_69 = (λ begins. absurd (cc), steps_68)

licensed_69 : ActsLicensed 16 (page_part 16 0 0 run_69)
licensed_69 = ((refl, refl, refl), licensed_68)

pub remapping_licensed : ActsLicensed 16 (page_part 16 0 0 remapping)
remapping_licensed = licensed_69

pub remapping_done : StepsDone (page_part 16 0 0 remapping)
remapping_done = steps_69
