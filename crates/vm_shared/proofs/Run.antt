-- The worked history of two hosts and one shared page: each event has its cause, and its bytes are of its own host.
use Rattle.std.proofs.Common.{ℕ, zero, suc, ◌≡◌, ◌<◌, ◌==◌, List, [], ◌∷◌, Bool, true, false, Some, None, if◌then◌else◌, refl, subst, arith, inr}
use Rattle.std.proofs.lemmas.Bool.Decides.{nat_tests}
use Rattle.vm_base.specs.declared.entry.Entry.{Entry}
use Rattle.vm_base.specs.declared.ids.Inherit.TheVariants.{Share}
use Rattle.vm_model.specs.declared.command.Command.{Command}
use Rattle.vm_model.specs.declared.command.Command.TheVariants as command
use Rattle.vm_model.specs.declared.event.Event.{Event}
use Rattle.vm_model.specs.declared.event.Event.TheVariants as event
use Rattle.vm_model.specs.declared.message.Channel.TheVariants.{Up, Down}
use Rattle.vm_model.specs.declared.message.Message.TheVariants as message
use Rattle.vm_model.specs.Local.{CanRead, is_on}
use Rattle.vm_model.specs.Moments.{EachEvent}
use Rattle.vm_model.specs.PageLicences.{ActsLicensed}
use Rattle.vm_model.specs.PagePart.{page_part}
use Rattle.vm_model.specs.Tasks.{entries_of, has_entry}
use Rattle.vm_model.specs.Waiting.{Loading, Storing}
use Rattle.vm_legal.specs.Bytes.{OwnBytes}
use Rattle.vm_legal.specs.Licences.{Ended, HasCause, IsDoneAt, Unheld, Wanted}
use Rattle.vm_legal.specs.Swept.{IsUnheld}
use Rattle.vm_shared.proofs.Numbering.{unused}
use Rattle.vm_legal.specs.Living.{lives_on}
use Rattle.vm_legal.specs.Walks.{page_on}
use Rattle.vm_coherence.specs.Crossing.{host, object, page, task, zeros}
use Rattle.vm_coherence.specs.Remapping.{both, eights, region}
use Rattle.vm_coherence.proofs.Remapping.{remapping_licensed}
use Rattle.vm_quiet.proofs.Letters.{never}
use Rattle.vm_shared.specs.Run.{copied_object, copied_region, header, history, outside}

-- the page, where both tasks map it
abbrev mapped : Entry
mapped = record { address = 0; bytes = 16; region = region; offset = 0; prot = both; inherit = Share }

-- all that is on its way is taken, the oldest first
abbrev settling : Command
settling = command.Settle 100

abbrev past_0 : List Event
past_0 = []

abbrev past_1 : List Event
past_1 = event.Line 4 ∷ past_0

abbrev past_2 : List Event
past_2 = event.TaskMade (task 0) (host 0) ∷ past_1

abbrev past_3 : List Event
past_3 = event.Line 5 ∷ past_2

abbrev past_4 : List Event
past_4 = event.TaskMade (task 1) (host 1) ∷ past_3

abbrev past_5 : List Event
past_5 = event.Line 6 ∷ past_4

abbrev past_6 : List Event
past_6 = event.Entered (task 0) 0 16 region 0 both Share ∷ past_5

abbrev past_7 : List Event
past_7 = event.Sent (Up (host 0) object) (message.Init 1 16) ∷ past_6

abbrev past_8 : List Event
past_8 = event.Line 7 ∷ past_7

abbrev past_9 : List Event
past_9 = event.Entered (task 1) 0 16 region 0 both Share ∷ past_8

abbrev past_10 : List Event
past_10 = event.Sent (Up (host 1) object) (message.Init 1 16) ∷ past_9

abbrev past_11 : List Event
past_11 = event.Line 8 ∷ past_10

abbrev past_12 : List Event
past_12 = event.BegunLoad (task 0) 0 1 ∷ past_11

abbrev past_13 : List Event
past_13 = event.Line 9 ∷ past_12

abbrev past_14 : List Event
past_14 = event.BegunLoad (task 1) 0 1 ∷ past_13

abbrev past_15 : List Event
past_15 = event.Line 10 ∷ past_14

abbrev past_16 : List Event
past_16 = event.Taken (Up (host 0) object) (message.Init 1 16) ∷ past_15

abbrev past_17 : List Event
past_17 = event.Sent (Down (host 0) object 1) (message.Ready false 0) ∷ past_16

abbrev past_18 : List Event
past_18 = event.Taken (Up (host 1) object) (message.Init 1 16) ∷ past_17

abbrev past_19 : List Event
past_19 = event.Sent (Down (host 1) object 1) (message.Ready false 0) ∷ past_18

abbrev past_20 : List Event
past_20 = event.Taken (Down (host 0) object 1) (message.Ready false 0) ∷ past_19

abbrev past_21 : List Event
past_21 = event.Sent (Up (host 0) object) (message.Request 1 page 1) ∷ past_20

abbrev past_22 : List Event
past_22 = event.Taken (Down (host 1) object 1) (message.Ready false 0) ∷ past_21

abbrev past_23 : List Event
past_23 = event.Sent (Up (host 1) object) (message.Request 1 page 1) ∷ past_22

abbrev past_24 : List Event
past_24 = event.Taken (Up (host 0) object) (message.Request 1 page 1) ∷ past_23

abbrev past_25 : List Event
past_25 = event.Sent (Down (host 0) object 1) (message.Supply page 2 false zeros) ∷ past_24

abbrev past_26 : List Event
past_26 = event.Taken (Up (host 1) object) (message.Request 1 page 1) ∷ past_25

abbrev past_27 : List Event
past_27 = event.Sent (Down (host 1) object 1) (message.Supply page 2 false zeros) ∷ past_26

abbrev past_28 : List Event
past_28 = event.Taken (Down (host 0) object 1) (message.Supply page 2 false zeros) ∷ past_27

abbrev past_29 : List Event
past_29 = event.Loaded (task 0) object page 0 ∷ past_28

abbrev past_30 : List Event
past_30 = event.Taken (Down (host 1) object 1) (message.Supply page 2 false zeros) ∷ past_29

abbrev past_31 : List Event
past_31 = event.Loaded (task 1) object page 0 ∷ past_30

abbrev past_32 : List Event
past_32 = event.Line 11 ∷ past_31

abbrev past_33 : List Event
past_33 = event.BegunStore (task 0) 0 1 8 ∷ past_32

abbrev past_34 : List Event
past_34 = event.Sent (Up (host 0) object) (message.Unlock 1 page 3) ∷ past_33

abbrev past_35 : List Event
past_35 = event.Line 12 ∷ past_34

abbrev past_36 : List Event
past_36 = event.Taken (Up (host 0) object) (message.Unlock 1 page 3) ∷ past_35

abbrev past_37 : List Event
past_37 = event.Sent (Down (host 1) object 1) (message.Lock page 1 1 true 8 true) ∷ past_36

abbrev past_38 : List Event
past_38 = event.Line 13 ∷ past_37

abbrev past_39 : List Event
past_39 = event.Removed (task 1) 0 16 ∷ past_38

abbrev past_40 : List Event
past_40 = event.Dropped (host 1) object page ∷ past_39

abbrev past_41 : List Event
past_41 = event.Sent (Up (host 1) object) (message.Terminate 1) ∷ past_40

abbrev past_42 : List Event
past_42 = event.Line 14 ∷ past_41

abbrev past_43 : List Event
past_43 = event.Entered (task 1) 0 16 region 0 both Share ∷ past_42

abbrev past_44 : List Event
past_44 = event.Sent (Up (host 1) object) (message.Init 2 16) ∷ past_43

abbrev past_45 : List Event
past_45 = event.Line 15 ∷ past_44

abbrev past_46 : List Event
past_46 = event.Taken (Up (host 1) object) (message.Terminate 1) ∷ past_45

abbrev past_47 : List Event
past_47 = event.Sent (Down (host 0) object 1) (message.Lock page 1 0 false 0 false) ∷ past_46

abbrev past_48 : List Event
past_48 = event.Line 16 ∷ past_47

abbrev past_49 : List Event
past_49 = event.Taken (Down (host 1) object 1) (message.Lock page 1 1 true 8 true) ∷ past_48

abbrev past_50 : List Event
past_50 = event.Line 17 ∷ past_49

abbrev past_51 : List Event
past_51 = event.Taken (Up (host 1) object) (message.Init 2 16) ∷ past_50

abbrev past_52 : List Event
past_52 = event.Sent (Down (host 1) object 2) (message.Ready false 0) ∷ past_51

abbrev past_53 : List Event
past_53 = event.Taken (Down (host 0) object 1) (message.Lock page 1 0 false 0 false) ∷ past_52

abbrev past_54 : List Event
past_54 = event.Stored (task 0) object page 0 1 8 ∷ past_53

abbrev past_55 : List Event
past_55 = event.Taken (Down (host 1) object 2) (message.Ready false 0) ∷ past_54

abbrev past_56 : List Event
past_56 = event.Line 18 ∷ past_55

abbrev past_57 : List Event
past_57 = event.BegunLoad (task 1) 0 1 ∷ past_56

abbrev past_58 : List Event
past_58 = event.Sent (Up (host 1) object) (message.Request 2 page 1) ∷ past_57

abbrev past_59 : List Event
past_59 = event.Line 19 ∷ past_58

abbrev past_60 : List Event
past_60 = event.Taken (Up (host 1) object) (message.Request 2 page 1) ∷ past_59

abbrev past_61 : List Event
past_61 = event.Sent (Down (host 0) object 1) (message.Lock page 1 1 false 2 true) ∷ past_60

abbrev past_62 : List Event
past_62 = event.Taken (Down (host 0) object 1) (message.Lock page 1 1 false 2 true) ∷ past_61

abbrev past_63 : List Event
past_63 = event.Sent (Up (host 0) object) (message.Return 1 page true true eights) ∷ past_62

abbrev past_64 : List Event
past_64 = event.Sent (Up (host 0) object) (message.Completed 1 page 1) ∷ past_63

abbrev past_65 : List Event
past_65 = event.Taken (Up (host 0) object) (message.Return 1 page true true eights) ∷ past_64

abbrev past_66 : List Event
past_66 = event.Taken (Up (host 0) object) (message.Completed 1 page 1) ∷ past_65

abbrev past_67 : List Event
past_67 = event.Sent (Down (host 1) object 2) (message.Supply page 2 false eights) ∷ past_66

abbrev past_68 : List Event
past_68 = event.Taken (Down (host 1) object 2) (message.Supply page 2 false eights) ∷ past_67

abbrev past_69 : List Event
past_69 = event.Loaded (task 1) object page 8 ∷ past_68

abbrev past_70 : List Event
past_70 = event.Line 20 ∷ past_69

abbrev past_71 : List Event
past_71 = event.BegunCopy (task 0) 0 16 64 ∷ past_70

abbrev past_72 : List Event
past_72 = event.RegionMade copied_region copied_object 1 ∷ past_71

abbrev past_73 : List Event
past_73 = event.CopiedPage (task 0) page object page copied_object ∷ past_72

abbrev past_74 : List Event
past_74 = event.CopyEnded (task 0) ∷ past_73

abbrev past_75 : List Event
past_75 = event.Entered (task 0) 64 16 copied_region 0 both Share ∷ past_74

-- the part of object 0 and page 0 up to each event has its causes
abbrev Licensed : List Event → Type 0
Licensed past = ActsLicensed 16 (page_part 16 0 0 past)

page_part_69 : Licensed past_69
page_part_69 = remapping_licensed

page_part_68 : Licensed past_68
page_part_68 = page_part_69.1

page_part_67 : Licensed past_67
page_part_67 = page_part_68.1

page_part_66 : Licensed past_66
page_part_66 = page_part_67.1

page_part_65 : Licensed past_65
page_part_65 = page_part_66.1

page_part_64 : Licensed past_64
page_part_64 = page_part_65.1

page_part_63 : Licensed past_63
page_part_63 = page_part_64.1

page_part_62 : Licensed past_62
page_part_62 = page_part_63.1

page_part_61 : Licensed past_61
page_part_61 = page_part_62.1

page_part_60 : Licensed past_60
page_part_60 = page_part_61.1

page_part_59 : Licensed past_59
page_part_59 = page_part_60.1

page_part_58 : Licensed past_58
page_part_58 = page_part_59.1

page_part_57 : Licensed past_57
page_part_57 = page_part_58.1

page_part_56 : Licensed past_56
page_part_56 = page_part_57.1

page_part_55 : Licensed past_55
page_part_55 = page_part_56.1

page_part_54 : Licensed past_54
page_part_54 = page_part_55.1

page_part_53 : Licensed past_53
page_part_53 = page_part_54.1

page_part_52 : Licensed past_52
page_part_52 = page_part_53.1

page_part_51 : Licensed past_51
page_part_51 = page_part_52.1

page_part_50 : Licensed past_50
page_part_50 = page_part_51.1

page_part_49 : Licensed past_49
page_part_49 = page_part_50.1

page_part_48 : Licensed past_48
page_part_48 = page_part_49.1

page_part_47 : Licensed past_47
page_part_47 = page_part_48.1

page_part_46 : Licensed past_46
page_part_46 = page_part_47.1

page_part_45 : Licensed past_45
page_part_45 = page_part_46.1

page_part_44 : Licensed past_44
page_part_44 = page_part_45.1

page_part_43 : Licensed past_43
page_part_43 = page_part_44.1

page_part_42 : Licensed past_42
page_part_42 = page_part_43.1

page_part_41 : Licensed past_41
page_part_41 = page_part_42.1

page_part_40 : Licensed past_40
page_part_40 = page_part_41.1

page_part_39 : Licensed past_39
page_part_39 = page_part_40.1

page_part_38 : Licensed past_38
page_part_38 = page_part_39.1

page_part_37 : Licensed past_37
page_part_37 = page_part_38.1

page_part_36 : Licensed past_36
page_part_36 = page_part_37.1

page_part_35 : Licensed past_35
page_part_35 = page_part_36.1

page_part_34 : Licensed past_34
page_part_34 = page_part_35.1

page_part_33 : Licensed past_33
page_part_33 = page_part_34.1

page_part_32 : Licensed past_32
page_part_32 = page_part_33.1

page_part_31 : Licensed past_31
page_part_31 = page_part_32.1

page_part_30 : Licensed past_30
page_part_30 = page_part_31.1

page_part_29 : Licensed past_29
page_part_29 = page_part_30.1

page_part_28 : Licensed past_28
page_part_28 = page_part_29.1

page_part_27 : Licensed past_27
page_part_27 = page_part_28.1

page_part_26 : Licensed past_26
page_part_26 = page_part_27.1

page_part_25 : Licensed past_25
page_part_25 = page_part_26.1

page_part_24 : Licensed past_24
page_part_24 = page_part_25.1

page_part_23 : Licensed past_23
page_part_23 = page_part_24.1

page_part_22 : Licensed past_22
page_part_22 = page_part_23.1

page_part_21 : Licensed past_21
page_part_21 = page_part_22.1

page_part_20 : Licensed past_20
page_part_20 = page_part_21.1

page_part_19 : Licensed past_19
page_part_19 = page_part_20.1

page_part_18 : Licensed past_18
page_part_18 = page_part_19.1

page_part_17 : Licensed past_17
page_part_17 = page_part_18.1

page_part_16 : Licensed past_16
page_part_16 = page_part_17.1

page_part_15 : Licensed past_15
page_part_15 = page_part_16.1

page_part_14 : Licensed past_14
page_part_14 = page_part_15.1

page_part_13 : Licensed past_13
page_part_13 = page_part_14.1

page_part_12 : Licensed past_12
page_part_12 = page_part_13.1

page_part_11 : Licensed past_11
page_part_11 = page_part_12.1

page_part_10 : Licensed past_10
page_part_10 = page_part_11.1

page_part_9 : Licensed past_9
page_part_9 = page_part_10.1

page_part_8 : Licensed past_8
page_part_8 = page_part_9.1

page_part_7 : Licensed past_7
page_part_7 = page_part_8.1

page_part_6 : Licensed past_6
page_part_6 = page_part_7.1

page_part_5 : Licensed past_5
page_part_5 = page_part_6.1

page_part_4 : Licensed past_4
page_part_4 = page_part_5.1

page_part_3 : Licensed past_3
page_part_3 = page_part_4.1

page_part_2 : Licensed past_2
page_part_2 = page_part_3.1

page_part_1 : Licensed past_1
page_part_1 = page_part_2.1

number_is : (a b : ℕ) → (a == b) ≡ true → a ≡ b
number_is a b is = grind (arith, nat_tests)

-- the lock is over one page
cleaned : (p : ℕ) (past : List Event) → IsDoneAt 1 false (page_on header 0 0 0 past) → p < 1 → IsDoneAt 1 false (page_on header 0 0 p past)
cleaned p past done less = let first : 0 ≡ p = omega (arith, less) in subst (λ q. IsDoneAt 1 false (page_on header 0 0 q past)) first done

-- task 1 is the one of host 1, and has unmapped the page
lives_one : (t : ℕ) (a b : Bool) → (1 == t) ≡ a → is_on 1 (if a then Some 1 else (if b then Some 0 else None)) ≡ true → 1 ≡ t
lives_one t true b is lives = number_is 1 t is
lives_one t false true is lives = never lives
lives_one t false false is lives = never lives

unheld : IsUnheld header 1 0 past_39
unheld = record {
  unmapped = λ t lives. subst (λ u. has_entry 0 (entries_of 16 u past_39) ≡ false) (lives_one t (1 == t) (0 == t) refl lives) refl;
  uncached = refl;
  unreached = λ r depth later used below. unused header 1 r past_39 refl later used;
}

unheld_then : IsUnheld header 1 0 past_40
unheld_then = record {
  unmapped = λ t lives. subst (λ u. has_entry 0 (entries_of 16 u past_40) ≡ false) (lives_one t (1 == t) (0 == t) refl lives) refl;
  uncached = refl;
  unreached = λ r depth later used below. unused header 1 r past_40 refl later used;
}

other_page : (p : ℕ) → (0 == suc p) ≡ false
other_page p = grind (arith, nat_tests)

away_then : (p : ℕ) → (page_on header 1 0 p past_40).here ≡ false
away_then zero = refl
away_then (suc p) = rw (other_page p) refl

unasked_then : (p : ℕ) → (page_on header 1 0 p past_40).asked ≡ false
unasked_then zero = refl
unasked_then (suc p) = rw (other_page p) refl

-- the copy reads the page on host 0
copied_here : (h : ℕ) → lives_on h 0 past_72 ≡ true → CanRead (page_on header h 0 0 past_72)
copied_here h lives = subst (λ g. CanRead (page_on header g 0 0 past_72)) (number_is 0 h lives) (record { here = refl; unlocked = inr refl })

-- each event has its cause

caused_0 : EachEvent (HasCause header outside) past_0
caused_0 = tt

caused_1 : EachEvent (HasCause header outside) past_1
caused_1 = ((settling, tt), caused_0)

caused_2 : EachEvent (HasCause header outside) past_2
caused_2 = ((settling, tt), caused_1)

caused_3 : EachEvent (HasCause header outside) past_3
caused_3 = ((settling, tt), caused_2)

caused_4 : EachEvent (HasCause header outside) past_4
caused_4 = ((settling, tt), caused_3)

caused_5 : EachEvent (HasCause header outside) past_5
caused_5 = ((settling, tt), caused_4)

caused_6 : EachEvent (HasCause header outside) past_6
caused_6 = (
  (
    settling,
    record {
      idle = refl;
      host = 0;
      lives = refl;
      whole = refl;
      inside = omega arith;
      made = omega arith;
      used = λ above. absurd (omega (arith, above));
      file = λ is. never is;
      unfilled = refl;
    },
  ),
  caused_5,
)

caused_7 : EachEvent (HasCause header outside) past_7
caused_7 = (
  (
    settling,
    record {
      number = refl;
      sized = refl;
      declared = omega arith;
      none = refl;
      task = 0;
      address = 0;
      at = record { host = 0; entry = mapped; lives = refl; found = refl };
      on_host = refl;
      region = refl;
    },
  ),
  caused_6,
)

caused_8 : EachEvent (HasCause header outside) past_8
caused_8 = ((settling, tt), caused_7)

caused_9 : EachEvent (HasCause header outside) past_9
caused_9 = (
  (
    settling,
    record {
      idle = refl;
      host = 1;
      lives = refl;
      whole = refl;
      inside = omega arith;
      made = omega arith;
      used = λ above. absurd (omega (arith, above));
      file = λ is. never is;
      unfilled = refl;
    },
  ),
  caused_8,
)

caused_10 : EachEvent (HasCause header outside) past_10
caused_10 = (
  (
    settling,
    record {
      number = refl;
      sized = refl;
      declared = omega arith;
      none = refl;
      task = 1;
      address = 0;
      at = record { host = 1; entry = mapped; lives = refl; found = refl };
      on_host = refl;
      region = refl;
    },
  ),
  caused_9,
)

caused_11 : EachEvent (HasCause header outside) past_11
caused_11 = ((settling, tt), caused_10)

caused_12 : EachEvent (HasCause header outside) past_12
caused_12 = ((settling, refl), caused_11)

caused_13 : EachEvent (HasCause header outside) past_13
caused_13 = ((settling, tt), caused_12)

caused_14 : EachEvent (HasCause header outside) past_14
caused_14 = ((settling, refl), caused_13)

caused_15 : EachEvent (HasCause header outside) past_15
caused_15 = ((settling, tt), caused_14)

caused_16 : EachEvent (HasCause header outside) past_16
caused_16 = ((settling, (refl, (refl, omega arith))), caused_15)

caused_17 : EachEvent (HasCause header outside) past_17
caused_17 = ((settling, (16, refl, refl, refl, refl)), caused_16)

caused_18 : EachEvent (HasCause header outside) past_18
caused_18 = ((settling, (refl, (refl, omega arith))), caused_17)

caused_19 : EachEvent (HasCause header outside) past_19
caused_19 = ((settling, (16, refl, refl, refl, refl)), caused_18)

caused_20 : EachEvent (HasCause header outside) past_20
caused_20 = ((settling, (refl, (refl, omega arith))), caused_19)

caused_21 : EachEvent (HasCause header outside) past_21
caused_21 = (
  (
    settling,
    record {
      task = 0;
      access = Loading 0 1;
      waits = record { waits = refl; at = record { host = 0; entry = mapped; lives = refl; found = refl }; left = tt };
      on_host = refl;
      unmarked = λ store. refl;
      comes = record { top = 0; top_page = 0; steps = 0; is_top = record { object = refl; page = refl }; walks = (refl, refl) };
      number = refl;
      live = refl;
      ready = refl;
      away = refl;
      unasked = refl;
      known = refl;
    },
  ),
  caused_20,
)

caused_22 : EachEvent (HasCause header outside) past_22
caused_22 = ((settling, (refl, (refl, omega arith))), caused_21)

caused_23 : EachEvent (HasCause header outside) past_23
caused_23 = (
  (
    settling,
    record {
      task = 1;
      access = Loading 0 1;
      waits = record { waits = refl; at = record { host = 1; entry = mapped; lives = refl; found = refl }; left = tt };
      on_host = refl;
      unmarked = λ store. refl;
      comes = record { top = 0; top_page = 0; steps = 0; is_top = record { object = refl; page = refl }; walks = (refl, refl) };
      number = refl;
      live = refl;
      ready = refl;
      away = refl;
      unasked = refl;
      known = refl;
    },
  ),
  caused_22,
)

caused_24 : EachEvent (HasCause header outside) past_24
caused_24 = ((settling, (refl, (refl, omega arith))), caused_23)

caused_25 : EachEvent (HasCause header outside) past_25
caused_25 = ((settling, (page_part_25).0), caused_24)

caused_26 : EachEvent (HasCause header outside) past_26
caused_26 = ((settling, (refl, (refl, omega arith))), caused_25)

caused_27 : EachEvent (HasCause header outside) past_27
caused_27 = ((settling, (page_part_27).0), caused_26)

caused_28 : EachEvent (HasCause header outside) past_28
caused_28 = ((settling, (refl, (refl, omega arith))), caused_27)

caused_29 : EachEvent (HasCause header outside) past_29
caused_29 = (
  (
    settling,
    record {
      address = 0;
      bytes = 1;
      waits = record {
        waits = refl;
        at = record { host = 0; entry = mapped; lives = refl; found = refl };
        left = tt;
      };
      comes = record { top = 0; top_page = 0; steps = 0; is_top = record { object = refl; page = refl }; walks = (refl, refl) };
      here = refl;
    },
  ),
  caused_28,
)

caused_30 : EachEvent (HasCause header outside) past_30
caused_30 = ((settling, (refl, (refl, omega arith))), caused_29)

caused_31 : EachEvent (HasCause header outside) past_31
caused_31 = (
  (
    settling,
    record {
      address = 0;
      bytes = 1;
      waits = record {
        waits = refl;
        at = record { host = 1; entry = mapped; lives = refl; found = refl };
        left = tt;
      };
      comes = record { top = 0; top_page = 0; steps = 0; is_top = record { object = refl; page = refl }; walks = (refl, refl) };
      here = refl;
    },
  ),
  caused_30,
)

caused_32 : EachEvent (HasCause header outside) past_32
caused_32 = ((settling, tt), caused_31)

caused_33 : EachEvent (HasCause header outside) past_33
caused_33 = ((settling, refl), caused_32)

caused_34 : EachEvent (HasCause header outside) past_34
caused_34 = (
  (
    settling,
    record {
      task = 0;
      access = Storing 0 1 8;
      waits = record { waits = refl; at = record { host = 0; entry = mapped; lives = refl; found = refl }; left = tt };
      on_host = refl;
      comes = record { top = 0; top_page = 0; steps = 0; is_top = record { object = refl; page = refl }; walks = (refl, refl) };
      number = refl;
      live = refl;
      here = refl;
      named = refl;
      none = refl;
      behind = λ is. never is;
    },
  ),
  caused_33,
)

caused_35 : EachEvent (HasCause header outside) past_35
caused_35 = ((settling, tt), caused_34)

caused_36 : EachEvent (HasCause header outside) past_36
caused_36 = (((command.Take (Up (host 0) object)), (refl, (refl, refl))), caused_35)

caused_37 : EachEvent (HasCause header outside) past_37
caused_37 = ((settling, (page_part_37).0), caused_36)

caused_38 : EachEvent (HasCause header outside) past_38
caused_38 = ((settling, tt), caused_37)

caused_39 : EachEvent (HasCause header outside) past_39
caused_39 = ((settling, refl), caused_38)

caused_40 : EachEvent (HasCause header outside) past_40
caused_40 = ((settling, record { here = refl; why = Ended refl refl (omega arith) unheld }), caused_39)

caused_41 : EachEvent (HasCause header outside) past_41
caused_41 = (
  (
    settling,
    record {
      live = refl;
      away = away_then;
      why = Unheld (omega arith) unheld_then unasked_then;
    },
  ),
  caused_40,
)

caused_42 : EachEvent (HasCause header outside) past_42
caused_42 = ((settling, tt), caused_41)

caused_43 : EachEvent (HasCause header outside) past_43
caused_43 = (
  (
    settling,
    record {
      idle = refl;
      host = 1;
      lives = refl;
      whole = refl;
      inside = omega arith;
      made = omega arith;
      used = λ above. absurd (omega (arith, above));
      file = λ is. never is;
      unfilled = refl;
    },
  ),
  caused_42,
)

caused_44 : EachEvent (HasCause header outside) past_44
caused_44 = (
  (
    settling,
    record {
      number = refl;
      sized = refl;
      declared = omega arith;
      none = refl;
      task = 1;
      address = 0;
      at = record { host = 1; entry = mapped; lives = refl; found = refl };
      on_host = refl;
      region = refl;
    },
  ),
  caused_43,
)

caused_45 : EachEvent (HasCause header outside) past_45
caused_45 = ((settling, tt), caused_44)

caused_46 : EachEvent (HasCause header outside) past_46
caused_46 = (((command.Take (Up (host 1) object)), (refl, (refl, refl))), caused_45)

caused_47 : EachEvent (HasCause header outside) past_47
caused_47 = ((settling, (page_part_47).0), caused_46)

caused_48 : EachEvent (HasCause header outside) past_48
caused_48 = ((settling, tt), caused_47)

caused_49 : EachEvent (HasCause header outside) past_49
caused_49 = (((command.Take (Down (host 1) object 1)), (refl, (refl, refl))), caused_48)

caused_50 : EachEvent (HasCause header outside) past_50
caused_50 = ((settling, tt), caused_49)

caused_51 : EachEvent (HasCause header outside) past_51
caused_51 = ((settling, (refl, (refl, omega arith))), caused_50)

caused_52 : EachEvent (HasCause header outside) past_52
caused_52 = ((settling, (16, refl, refl, refl, refl)), caused_51)

caused_53 : EachEvent (HasCause header outside) past_53
caused_53 = ((settling, (refl, (refl, omega arith))), caused_52)

none_newest : (copy : ℕ) → None ≡ Some copy → ⊥
none_newest copy is = cc

caused_54 : EachEvent (HasCause header outside) past_54
caused_54 = (
  (
    settling,
    record {
      address = 0;
      waits = record { waits = refl; at = record { host = 0; entry = mapped; lives = refl; found = refl }; left = tt };
      is_top = record { object = refl; page = refl };
      unmarked = refl;
      here = refl;
      place = refl;
      paid = λ copy owes. none_newest copy owes.newest;
    },
  ),
  caused_53,
)

caused_55 : EachEvent (HasCause header outside) past_55
caused_55 = ((settling, (refl, (refl, omega arith))), caused_54)

caused_56 : EachEvent (HasCause header outside) past_56
caused_56 = ((settling, tt), caused_55)

caused_57 : EachEvent (HasCause header outside) past_57
caused_57 = ((settling, refl), caused_56)

caused_58 : EachEvent (HasCause header outside) past_58
caused_58 = (
  (
    settling,
    record {
      task = 1;
      access = Loading 0 1;
      waits = record { waits = refl; at = record { host = 1; entry = mapped; lives = refl; found = refl }; left = tt };
      on_host = refl;
      unmarked = λ store. refl;
      comes = record { top = 0; top_page = 0; steps = 0; is_top = record { object = refl; page = refl }; walks = (refl, refl) };
      number = refl;
      live = refl;
      ready = refl;
      away = refl;
      unasked = refl;
      known = refl;
    },
  ),
  caused_57,
)

caused_59 : EachEvent (HasCause header outside) past_59
caused_59 = ((settling, tt), caused_58)

caused_60 : EachEvent (HasCause header outside) past_60
caused_60 = ((settling, (refl, (refl, omega arith))), caused_59)

caused_61 : EachEvent (HasCause header outside) past_61
caused_61 = ((settling, (page_part_61).0), caused_60)

caused_62 : EachEvent (HasCause header outside) past_62
caused_62 = ((settling, (refl, (refl, omega arith))), caused_61)

caused_63 : EachEvent (HasCause header outside) past_63
caused_63 = (
  (
    settling,
    record {
      live = refl;
      here = refl;
      due = refl;
      same = refl;
      flag = refl;
      why = Wanted 1 false (record {
        control = 1;
        first = 0;
        count = 1;
        lock = 2;
        reply = true;
        taken = refl;
        from = omega arith;
        below = omega arith;
        undone = refl;
        rising = λ later above. refl;
      }) refl refl;
    },
  ),
  caused_62,
)

caused_64 : EachEvent (HasCause header outside) past_64
caused_64 = (
  (
    settling,
    record {
      live = refl;
      returns = 1;
      flush = false;
      lock = 2;
      taken = refl;
      once = refl;
      done = λ p from less. cleaned p past_63 (λ here. (refl, refl)) less;
    },
  ),
  caused_63,
)

caused_65 : EachEvent (HasCause header outside) past_65
caused_65 = ((settling, (refl, (refl, omega arith))), caused_64)

caused_66 : EachEvent (HasCause header outside) past_66
caused_66 = ((settling, (refl, (refl, omega arith))), caused_65)

caused_67 : EachEvent (HasCause header outside) past_67
caused_67 = ((settling, (page_part_67).0), caused_66)

caused_68 : EachEvent (HasCause header outside) past_68
caused_68 = ((settling, (refl, (refl, omega arith))), caused_67)

caused_69 : EachEvent (HasCause header outside) past_69
caused_69 = (
  (
    settling,
    record {
      address = 0;
      bytes = 1;
      waits = record {
        waits = refl;
        at = record { host = 1; entry = mapped; lives = refl; found = refl };
        left = tt;
      };
      comes = record { top = 0; top_page = 0; steps = 0; is_top = record { object = refl; page = refl }; walks = (refl, refl) };
      here = refl;
    },
  ),
  caused_68,
)

caused_70 : EachEvent (HasCause header outside) past_70
caused_70 = ((settling, tt), caused_69)

caused_71 : EachEvent (HasCause header outside) past_71
caused_71 = ((settling, refl), caused_70)

caused_72 : EachEvent (HasCause header outside) past_72
caused_72 = ((settling, (refl, refl)), caused_71)

caused_73 : EachEvent (HasCause header outside) past_73
caused_73 = (
  (
    settling,
    record {
      address = 0;
      bytes = 16;
      to = 64;
      waits = record { waits = refl; at = record { host = 0; entry = mapped; lives = refl; found = refl }; left = omega arith };
      next = refl;
      declared = omega arith;
      supplied = refl;
      is_top = record { object = refl; page = refl };
      here = refl;
      region = 1;
      filled = refl;
      inside = omega arith;
      away = refl;
      unasked = refl;
    },
  ),
  caused_72,
)

caused_74 : EachEvent (HasCause header outside) past_74
caused_74 = ((settling, record { address = 0; bytes = 16; to = 64; waits = refl; all = refl }), caused_73)

caused_75 : EachEvent (HasCause header outside) past_75
caused_75 = (
  (
    settling,
    record {
      idle = refl;
      host = 0;
      lives = refl;
      whole = refl;
      inside = omega arith;
      made = omega arith;
      used = λ above. refl;
      file = λ is. refl;
      unfilled = refl;
    },
  ),
  caused_74,
)

pub causes : EachEvent (HasCause header outside) history
causes = caused_75

-- what is loaded, stored and copied

own_29 : OwnBytes header (event.Loaded (task 0) object page 0) past_28
own_29 =
    record {
      address = 0;
      bytes = 1;
      waits = record { waits = refl; at = record { host = 0; entry = mapped; lives = refl; found = refl }; left = tt };
      readable = record { here = refl; unlocked = inr refl };
      number = refl;
    }

own_31 : OwnBytes header (event.Loaded (task 1) object page 0) past_30
own_31 =
    record {
      address = 0;
      bytes = 1;
      waits = record { waits = refl; at = record { host = 1; entry = mapped; lives = refl; found = refl }; left = tt };
      readable = record { here = refl; unlocked = inr refl };
      number = refl;
    }

own_54 : OwnBytes header (event.Stored (task 0) object page 0 1 8) past_53
own_54 =
    record {
      address = 0;
      waits = record { waits = refl; at = record { host = 0; entry = mapped; lives = refl; found = refl }; left = tt };
      writable = record { here = refl; unlocked = refl };
      place = refl;
    }

own_69 : OwnBytes header (event.Loaded (task 1) object page 8) past_68
own_69 =
    record {
      address = 0;
      bytes = 1;
      waits = record { waits = refl; at = record { host = 1; entry = mapped; lives = refl; found = refl }; left = tt };
      readable = record { here = refl; unlocked = inr refl };
      number = refl;
    }

own_73 : OwnBytes header (event.CopiedPage (task 0) page object page copied_object) past_72
own_73 = λ h lives. copied_here h lives

pub own_bytes : EachEvent (OwnBytes header) history
own_bytes = (
  tt,
  (
    tt,
    (
      own_73,
      (
        tt,
        (
          tt,
          (
            tt,
            (
              own_69,
              (
                tt,
                (
                  tt,
                  (
                    tt,
                    (
                      tt,
                      (
                        tt,
                        (
                          tt,
                          (
                            tt,
                            (
                              tt,
                              (
                                tt,
                                (
                                  tt,
                                  (
                                    tt,
                                    (
                                      tt,
                                      (
                                        tt,
                                        (
                                          tt,
                                          (
                                            own_54,
                                            (
                                              tt,
                                              (
                                                tt,
                                                (
                                                  tt,
                                                  (
                                                    tt,
                                                    (
                                                      tt,
                                                      (
                                                        tt,
                                                        (
                                                          tt,
                                                          (
                                                            tt,
                                                            (
                                                              tt,
                                                              (
                                                                tt,
                                                                (
                                                                  tt,
                                                                  (
                                                                    tt,
                                                                    (
                                                                      tt,
                                                                      (
                                                                        tt,
                                                                        (
                                                                          tt,
                                                                          (
                                                                            tt,
                                                                            (
                                                                              tt,
                                                                              (
                                                                                tt,
                                                                                (
                                                                                  tt,
                                                                                  (
                                                                                    tt,
                                                                                    (
                                                                                      tt,
                                                                                      (
                                                                                        tt,
                                                                                        (
                                                                                          own_31,
                                                                                          (
                                                                                            tt,
                                                                                            (
                                                                                              own_29,
                                                                                              (
                                                                                                tt,
                                                                                                (
                                                                                                  tt,
                                                                                                  (
                                                                                                    tt,
                                                                                                    (
                                                                                                      tt,
                                                                                                      (
                                                                                                        tt,
                                                                                                        (
                                                                                                          tt,
                                                                                                          (
                                                                                                            tt,
                                                                                                            (
                                                                                                              tt,
                                                                                                              (
                                                                                                                tt,
                                                                                                                (
                                                                                                                  tt,
                                                                                                                  (
                                                                                                                    tt,
                                                                                                                    (
                                                                                                                      tt,
                                                                                                                      (
                                                                                                                        tt,
                                                                                                                        (
                                                                                                                          tt,
                                                                                                                          (
                                                                                                                            tt,
                                                                                                                            (
                                                                                                                              tt,
                                                                                                                              (
                                                                                                                                tt,
                                                                                                                                (
                                                                                                                                  tt,
                                                                                                                                  (
                                                                                                                                    tt,
                                                                                                                                    (
                                                                                                                                      tt,
                                                                                                                                      (
                                                                                                                                        tt,
                                                                                                                                        (
                                                                                                                                          tt,
                                                                                                                                          (
                                                                                                                                            tt,
                                                                                                                                            (
                                                                                                                                              tt,
                                                                                                                                              (
                                                                                                                                                tt,
                                                                                                                                                (
                                                                                                                                                  tt,
                                                                                                                                                  (
                                                                                                                                                    tt,
                                                                                                                                                    (
                                                                                                                                                      tt,
                                                                                                                                                      tt,
                                                                                                                                                    ),
                                                                                                                                                  ),
                                                                                                                                                ),
                                                                                                                                              ),
                                                                                                                                            ),
                                                                                                                                          ),
                                                                                                                                        ),
                                                                                                                                      ),
                                                                                                                                    ),
                                                                                                                                  ),
                                                                                                                                ),
                                                                                                                              ),
                                                                                                                            ),
                                                                                                                          ),
                                                                                                                        ),
                                                                                                                      ),
                                                                                                                    ),
                                                                                                                  ),
                                                                                                                ),
                                                                                                              ),
                                                                                                            ),
                                                                                                          ),
                                                                                                        ),
                                                                                                      ),
                                                                                                    ),
                                                                                                  ),
                                                                                                ),
                                                                                              ),
                                                                                            ),
                                                                                          ),
                                                                                        ),
                                                                                      ),
                                                                                    ),
                                                                                  ),
                                                                                ),
                                                                              ),
                                                                            ),
                                                                          ),
                                                                        ),
                                                                      ),
                                                                    ),
                                                                  ),
                                                                ),
                                                              ),
                                                            ),
                                                          ),
                                                        ),
                                                      ),
                                                    ),
                                                  ),
                                                ),
                                              ),
                                            ),
                                          ),
                                        ),
                                      ),
                                    ),
                                  ),
                                ),
                              ),
                            ),
                          ),
                        ),
                      ),
                    ),
                  ),
                ),
              ),
            ),
          ),
        ),
      ),
    ),
  ),
)
