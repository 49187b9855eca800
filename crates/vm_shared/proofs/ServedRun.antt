-- The worked history meets all premises of the laws of who waits for the server of shared memory.
use Rattle.std.proofs.Common.{inr, ℕ, ◌≡◌, ◌<◌, ◌≤◌, List, [], ◌∷◌, true, false, refl, subst, arith, None, Some}
use Rattle.std.proofs.lemmas.Bool.Decides.{nat_tests}
use Rattle.vm_base.specs.declared.entry.Entry.{Entry}
use Rattle.std.specs.Prelude.{◌≢◌}
use Rattle.vm_base.specs.declared.ids.Inherit.TheVariants.{Share}
use Rattle.vm_base.specs.declared.ids.ObjectKind.TheVariants.{Shared, Temp}
use Rattle.vm_model.specs.declared.command.Command.{Command}
use Rattle.vm_model.specs.declared.command.Command.TheVariants as command
use Rattle.vm_model.specs.declared.event.Event.{Event}
use Rattle.vm_model.specs.declared.event.Event.TheVariants as event
use Rattle.vm_model.specs.declared.message.Channel.TheVariants.{Up, Down}
use Rattle.vm_model.specs.declared.message.Message.TheVariants as message
use Rattle.vm_model.specs.Moments.{EachEvent}
use Rattle.vm_model.specs.PageLicences.{NobodyAwaited, OthersHold}
use Rattle.vm_model.specs.PagePart.{page_part}
use Rattle.vm_model.specs.Waiting.{Loading, Storing}
use Rattle.vm_legal.specs.Bytes.{OwnBytes}
use Rattle.vm_legal.specs.Licences.{Flushed, HasCause, gives_back}
use Rattle.vm_legal.specs.Outside.{NoneIsTemporary, kind_of}
use Rattle.vm_legal.specs.Undelivered.{undelivered}
use Rattle.vm_legal.specs.Walks.{page_on}
use Rattle.vm_quiet.proofs.Letters.{never}
use Rattle.vm_coherence.specs.Crossing.{host, task, object, page, zeros}
use Rattle.vm_coherence.specs.Remapping.{region, both}
use Rattle.vm_shared.specs.Served.{header, history, outside}

abbrev mapped : Entry
mapped = record { address = 0; bytes = 16; region = region; offset = 0; prot = both; inherit = Share }

abbrev settling : Command
settling = command.Settle 99

abbrev past_0 : List Event
past_0 = event.Line 3 ∷ []

abbrev past_1 : List Event
past_1 = event.TaskMade (task 0) (host 0) ∷ past_0

abbrev past_2 : List Event
past_2 = event.Line 4 ∷ past_1

abbrev past_3 : List Event
past_3 = event.TaskMade (task 1) (host 1) ∷ past_2

abbrev past_4 : List Event
past_4 = event.Line 5 ∷ past_3

abbrev past_5 : List Event
past_5 = event.Entered (task 0) 0 16 region 0 both Share ∷ past_4

abbrev past_6 : List Event
past_6 = event.Sent (Up (host 0) object) (message.Init 1 16) ∷ past_5

abbrev past_7 : List Event
past_7 = event.Line 6 ∷ past_6

abbrev past_8 : List Event
past_8 = event.Entered (task 1) 0 16 region 0 both Share ∷ past_7

abbrev past_9 : List Event
past_9 = event.Sent (Up (host 1) object) (message.Init 1 16) ∷ past_8

abbrev past_10 : List Event
past_10 = event.Line 7 ∷ past_9

abbrev past_11 : List Event
past_11 = event.BegunLoad (task 0) 0 1 ∷ past_10

abbrev past_12 : List Event
past_12 = event.Line 8 ∷ past_11

abbrev past_13 : List Event
past_13 = event.BegunStore (task 1) 0 1 8 ∷ past_12

abbrev past_14 : List Event
past_14 = event.Line 9 ∷ past_13

abbrev past_15 : List Event
past_15 = event.Taken (Up (host 0) object) (message.Init 1 16) ∷ past_14

abbrev past_16 : List Event
past_16 = event.Sent (Down (host 0) object 1) (message.Ready false 0) ∷ past_15

abbrev past_17 : List Event
past_17 = event.Taken (Up (host 1) object) (message.Init 1 16) ∷ past_16

abbrev past_18 : List Event
past_18 = event.Sent (Down (host 1) object 1) (message.Ready false 0) ∷ past_17

abbrev past_19 : List Event
past_19 = event.Taken (Down (host 0) object 1) (message.Ready false 0) ∷ past_18

abbrev past_20 : List Event
past_20 = event.Sent (Up (host 0) object) (message.Request 1 page 1) ∷ past_19

abbrev past_21 : List Event
past_21 = event.Taken (Down (host 1) object 1) (message.Ready false 0) ∷ past_20

abbrev past_22 : List Event
past_22 = event.Sent (Up (host 1) object) (message.Request 1 page 3) ∷ past_21

abbrev past_23 : List Event
past_23 = event.Taken (Up (host 0) object) (message.Request 1 page 1) ∷ past_22

abbrev past_24 : List Event
past_24 = event.Sent (Down (host 0) object 1) (message.Supply page 2 false zeros) ∷ past_23

abbrev past_25 : List Event
past_25 = event.Taken (Up (host 1) object) (message.Request 1 page 3) ∷ past_24

abbrev past_26 : List Event
past_26 = event.Sent (Down (host 0) object 1) (message.Lock page 1 1 true 8 true) ∷ past_25

abbrev past_27 : List Event
past_27 = event.Taken (Down (host 0) object 1) (message.Supply page 2 false zeros) ∷ past_26

abbrev past_28 : List Event
past_28 = event.Loaded (task 0) object page 0 ∷ past_27

abbrev past_29 : List Event
past_29 = event.Taken (Down (host 0) object 1) (message.Lock page 1 1 true 8 true) ∷ past_28

abbrev past_30 : List Event
past_30 = event.Dropped (host 0) object page ∷ past_29

abbrev past_31 : List Event
past_31 = event.Sent (Up (host 0) object) (message.Completed 1 page 1) ∷ past_30

abbrev past_32 : List Event
past_32 = event.Taken (Up (host 0) object) (message.Completed 1 page 1) ∷ past_31

abbrev past_33 : List Event
past_33 = event.Sent (Down (host 1) object 1) (message.Supply page 0 false zeros) ∷ past_32

abbrev past_34 : List Event
past_34 = event.Taken (Down (host 1) object 1) (message.Supply page 0 false zeros) ∷ past_33

abbrev past_35 : List Event
past_35 = event.Stored (task 1) object page 0 1 8 ∷ past_34

caused_0 : EachEvent (HasCause header outside) past_0
caused_0 = ((settling, tt), tt)

caused_1 : EachEvent (HasCause header outside) past_1
caused_1 = ((settling, tt), caused_0)

caused_2 : EachEvent (HasCause header outside) past_2
caused_2 = ((settling, tt), caused_1)

caused_3 : EachEvent (HasCause header outside) past_3
caused_3 = ((settling, tt), caused_2)

caused_4 : EachEvent (HasCause header outside) past_4
caused_4 = ((settling, tt), caused_3)

caused_5 : EachEvent (HasCause header outside) past_5
caused_5 = (
  (
    settling,
    record {
      idle = refl;
      host = 0;
      lives = refl;
      whole = refl;
      inside = omega arith;
      made = omega arith;
      used = λ above. absurd (omega (arith, above));
      file = λ is. never is;
      unfilled = refl;
    },
  ),
  caused_4,
)

caused_6 : EachEvent (HasCause header outside) past_6
caused_6 = (
  (
    settling,
    record {
      number = refl;
      sized = refl;
      declared = omega arith;
      none = refl;
      task = 0;
      address = 0;
      at = record { host = 0; entry = mapped; lives = refl; found = refl };
      on_host = refl;
      region = refl;
    },
  ),
  caused_5,
)

caused_7 : EachEvent (HasCause header outside) past_7
caused_7 = ((settling, tt), caused_6)

caused_8 : EachEvent (HasCause header outside) past_8
caused_8 = (
  (
    settling,
    record {
      idle = refl;
      host = 1;
      lives = refl;
      whole = refl;
      inside = omega arith;
      made = omega arith;
      used = λ above. absurd (omega (arith, above));
      file = λ is. never is;
      unfilled = refl;
    },
  ),
  caused_7,
)

caused_9 : EachEvent (HasCause header outside) past_9
caused_9 = (
  (
    settling,
    record {
      number = refl;
      sized = refl;
      declared = omega arith;
      none = refl;
      task = 1;
      address = 0;
      at = record { host = 1; entry = mapped; lives = refl; found = refl };
      on_host = refl;
      region = refl;
    },
  ),
  caused_8,
)

caused_10 : EachEvent (HasCause header outside) past_10
caused_10 = ((settling, tt), caused_9)

caused_11 : EachEvent (HasCause header outside) past_11
caused_11 = ((settling, refl), caused_10)

caused_12 : EachEvent (HasCause header outside) past_12
caused_12 = ((settling, tt), caused_11)

caused_13 : EachEvent (HasCause header outside) past_13
caused_13 = ((settling, refl), caused_12)

caused_14 : EachEvent (HasCause header outside) past_14
caused_14 = ((settling, tt), caused_13)

caused_15 : EachEvent (HasCause header outside) past_15
caused_15 = ((settling, (refl, (refl, omega arith))), caused_14)

caused_16 : EachEvent (HasCause header outside) past_16
caused_16 = ((settling, (16, refl, refl, refl, refl)), caused_15)

caused_17 : EachEvent (HasCause header outside) past_17
caused_17 = ((settling, (refl, (refl, omega arith))), caused_16)

caused_18 : EachEvent (HasCause header outside) past_18
caused_18 = ((settling, (16, refl, refl, refl, refl)), caused_17)

caused_19 : EachEvent (HasCause header outside) past_19
caused_19 = ((settling, (refl, (refl, omega arith))), caused_18)

caused_20 : EachEvent (HasCause header outside) past_20
caused_20 = (
  (
    settling,
    record {
      task = 0;
      access = Loading 0 1;
      waits = record { waits = refl; at = record { host = 0; entry = mapped; lives = refl; found = refl }; left = tt };
      on_host = refl;
      unmarked = λ store. refl;
      comes = record { top = 0; top_page = 0; steps = 0; is_top = record { object = refl; page = refl }; walks = (refl, refl) };
      number = refl;
      live = refl;
      ready = refl;
      away = refl;
      unasked = refl;
      known = refl;
    },
  ),
  caused_19,
)

caused_21 : EachEvent (HasCause header outside) past_21
caused_21 = ((settling, (refl, (refl, omega arith))), caused_20)

caused_22 : EachEvent (HasCause header outside) past_22
caused_22 = (
  (
    settling,
    record {
      task = 1;
      access = Storing 0 1 8;
      waits = record { waits = refl; at = record { host = 1; entry = mapped; lives = refl; found = refl }; left = tt };
      on_host = refl;
      unmarked = λ store. refl;
      comes = record { top = 0; top_page = 0; steps = 0; is_top = record { object = refl; page = refl }; walks = (refl, refl) };
      number = refl;
      live = refl;
      ready = refl;
      away = refl;
      unasked = refl;
      known = refl;
    },
  ),
  caused_21,
)

caused_23 : EachEvent (HasCause header outside) past_23
caused_23 = ((settling, (refl, (refl, omega arith))), caused_22)

free_24 : NobodyAwaited (page_part 16 0 0 past_23)
free_24 g = grind (arith, nat_tests)

low_24 : OthersHold 1 0 (page_part 16 0 0 past_23)
low_24 g apart = grind (arith, nat_tests)

caused_24 : EachEvent (HasCause header outside) past_24
caused_24 = ((settling, (refl, refl, free_24, refl, (refl, refl, refl, low_24))), caused_23)

caused_25 : EachEvent (HasCause header outside) past_25
caused_25 = ((settling, (refl, (refl, omega arith))), caused_24)

caused_26 : EachEvent (HasCause header outside) past_26
caused_26 = ((settling, (refl, refl, refl, refl, omega arith, (λ e. absurd (omega (arith, e)), refl, refl))), caused_25)

caused_27 : EachEvent (HasCause header outside) past_27
caused_27 = ((settling, (refl, (refl, omega arith))), caused_26)

caused_28 : EachEvent (HasCause header outside) past_28
caused_28 = (
  (
    settling,
    record {
      address = 0;
      bytes = 1;
      waits = record {
        waits = refl;
        at = record { host = 0; entry = mapped; lives = refl; found = refl };
        left = tt;
      };
      comes = record { top = 0; top_page = 0; steps = 0; is_top = record { object = refl; page = refl }; walks = (refl, refl) };
      here = refl;
    },
  ),
  caused_27,
)

caused_29 : EachEvent (HasCause header outside) past_29
caused_29 = ((settling, (refl, (refl, omega arith))), caused_28)

caused_30 : EachEvent (HasCause header outside) past_30
caused_30 = (
  (
    settling,
    record {
      here = refl;
      why = Flushed 1 (record {
        control = 1;
        first = 0;
        count = 1;
        lock = 8;
        reply = true;
        taken = refl;
        from = omega arith;
        below = omega arith;
        undone = refl;
        rising = λ later less. refl;
      }) refl;
    },
  ),
  caused_29,
)

gone : (q : ℕ) → 0 ≤ q → q < 1 → (page_on header 0 0 q past_30).here ≡ true → (true ≡ false)
    × (gives_back 1 (page_on header 0 0 q past_30).dirty (page_on header 0 0 q past_30).precious ≡ false)
gone q from below here = let same : q ≡ 0 = omega (arith, below) in never (subst (λ k. (page_on header 0 0 k past_30).here ≡ true) same here)

caused_31 : EachEvent (HasCause header outside) past_31
caused_31 = (
  (settling, record { live = refl; returns = 1; flush = true; lock = 8; taken = refl; once = refl; done = λ q from below here. gone q from below here }),
  caused_30,
)

caused_32 : EachEvent (HasCause header outside) past_32
caused_32 = ((settling, (refl, (refl, omega arith))), caused_31)

free_33 : NobodyAwaited (page_part 16 0 0 past_32)
free_33 g = grind (arith, nat_tests)

low_33 : OthersHold 0 1 (page_part 16 0 0 past_32)
low_33 g apart = grind (arith, nat_tests)

caused_33 : EachEvent (HasCause header outside) past_33
caused_33 = ((settling, (refl, refl, free_33, refl, (refl, refl, refl, low_33))), caused_32)

caused_34 : EachEvent (HasCause header outside) past_34
caused_34 = ((settling, (refl, (refl, omega arith))), caused_33)

none_newest : (copy : ℕ) → None ≡ Some copy → ⊥
none_newest copy is = cc

caused_35 : EachEvent (HasCause header outside) past_35
caused_35 = (
  (
    settling,
    record {
      address = 0;
      waits = record { waits = refl; at = record { host = 1; entry = mapped; lives = refl; found = refl }; left = tt };
      is_top = record { object = refl; page = refl };
      unmarked = refl;
      here = refl;
      place = refl;
      paid = λ copy owes. none_newest copy owes.newest;
    },
  ),
  caused_34,
)

pub served_causes : EachEvent (HasCause header outside) history
served_causes = caused_35

own_load : OwnBytes header (event.Loaded (task 0) object page 0) past_27
own_load =
    record {
      address = 0;
      bytes = 1;
      waits = record { waits = refl; at = record { host = 0; entry = mapped; lives = refl; found = refl }; left = tt };
      readable = record { here = refl; unlocked = inr refl };
      number = refl;
    }

own_store : OwnBytes header (event.Stored (task 1) object page 0 1 8) past_34
own_store =
    record {
      address = 0;
      waits = record { waits = refl; at = record { host = 1; entry = mapped; lives = refl; found = refl }; left = tt };
      writable = record { here = refl; unlocked = refl };
      place = refl;
    }

pub served_own : EachEvent (OwnBytes header) history
served_own = (
  own_store,
  (
    tt,
    (
      tt,
      (
        tt,
        (
          tt,
          (
            tt,
            (
              tt,
              (
                own_load,
                (
                  tt,
                  (
                    tt,
                    (
                      tt,
                      (
                        tt,
                        (
                          tt,
                          (
                            tt,
                            (
                              tt,
                              (
                                tt,
                                (
                                  tt,
                                  (
                                    tt,
                                    (
                                      tt,
                                      (tt, (tt, (tt, (tt, (tt, (tt, (tt, (tt, (tt, (tt, (tt, (tt, (tt, (tt, (tt, (tt, (tt, tt))))))))))))))))),
                                    ),
                                  ),
                                ),
                              ),
                            ),
                          ),
                        ),
                      ),
                    ),
                  ),
                ),
              ),
            ),
          ),
        ),
      ),
    ),
  ),
)

pub served_delivered : undelivered history ≡ []
served_delivered = refl

pub served_kinds : NoneIsTemporary header
served_kinds o below =
    let first : 0 ≡ o = omega (arith, below) in subst (λ k. kind_of header k ≢ Temp) first (λ is. absurd (let bad : Shared ≡ Temp = is in cc))
