-- A run with a chain of three objects: a load finds its page at the bottom.
use Rattle.std.proofs.Common.{List, [], ◌∷◌, ◌≡◌, true, refl, arith, inr, inl}
use Rattle.vm_base.specs.declared.entry.Entry.{Entry}
use Rattle.vm_base.specs.declared.ids.Prot.{Prot}
use Rattle.vm_base.specs.declared.ids.Inherit.TheVariants.{Copy}
use Rattle.vm_model.specs.declared.command.Command.{Command}
use Rattle.vm_model.specs.declared.command.Command.TheVariants as command
use Rattle.vm_model.specs.declared.event.Event.{Event}
use Rattle.vm_model.specs.declared.event.Event.TheVariants as event
use Rattle.vm_model.specs.declared.script.Header.{Header}
use Rattle.vm_model.specs.Moments.{EachEvent}
use Rattle.vm_model.specs.Waiting.{Storing}
use Rattle.vm_legal.specs.Outside.{Outside, Told}
use Rattle.vm_legal.specs.Bytes.{OwnBytes, CopiesCurrent, FlatBytes}
use Rattle.vm_legal.specs.Licences.{Finding, HasCause}
use Rattle.vm_legal.proofs.Unshared.{NoneIsShared, loads_unshared, none_shared}
use Rattle.vm_flat.proofs.Bottom.{bottom_plain, no_copy}
use Rattle.vm_model.specs.Named.{named}
use Rattle.vm_model.specs.Regions.{backing_of}
use Rattle.vm_flat.proofs.Loads.{answers}

abbrev header : Header
header = record { size = 16; slots = 1; frames = record { items = 8 ∷ []; room = 0 }; objects = record { items = []; room = 0 } }

abbrev outside : Outside
outside = record { files = Told (λ object at. []); paging = true }

abbrev all : Prot
all = record { read = true; write = true }

abbrev parent : Entry
parent = record { address = 0; bytes = 32; region = record { 0 = 0 }; offset = 0; prot = all; inherit = Copy }

abbrev child : Entry
child = record { address = 0; bytes = 32; region = record { 0 = 1 }; offset = 0; prot = all; inherit = Copy }

abbrev grandchild : Entry
grandchild = record { address = 0; bytes = 32; region = record { 0 = 2 }; offset = 0; prot = all; inherit = Copy }

-- for these commands
abbrev settling : Command
settling = command.Settle 9

abbrev past_0 : List Event
past_0 = event.Line 1 ∷ []

abbrev past_1 : List Event
past_1 = event.TaskMade (record { 0 = 0 }) (record { 0 = 0 }) ∷ past_0

abbrev past_2 : List Event
past_2 = event.Line 2 ∷ past_1

abbrev past_3 : List Event
past_3 = event.RegionMade (record { 0 = 0 }) (record { 0 = 0 }) 2 ∷ past_2

abbrev past_4 : List Event
past_4 = event.Entered (record { 0 = 0 }) 0 32 (record { 0 = 0 }) 0 all Copy ∷ past_3

abbrev past_5 : List Event
past_5 = event.Line 3 ∷ past_4

abbrev past_6 : List Event
past_6 = event.BegunStore (record { 0 = 0 }) 0 1 1 ∷ past_5

abbrev past_7 : List Event
past_7 = event.Zeroed (record { 0 = 0 }) (record { 0 = 0 }) (record { 0 = 0 }) ∷ past_6

abbrev past_8 : List Event
past_8 = event.Stored (record { 0 = 0 }) (record { 0 = 0 }) (record { 0 = 0 }) 0 1 1 ∷ past_7

abbrev past_9 : List Event
past_9 = event.Line 4 ∷ past_8

abbrev past_10 : List Event
past_10 = event.BegunStore (record { 0 = 0 }) 18 2 777 ∷ past_9

abbrev past_11 : List Event
past_11 = event.Zeroed (record { 0 = 0 }) (record { 0 = 0 }) (record { 0 = 1 }) ∷ past_10

abbrev past_12 : List Event
past_12 = event.Stored (record { 0 = 0 }) (record { 0 = 0 }) (record { 0 = 1 }) 2 2 777 ∷ past_11

abbrev past_13 : List Event
past_13 = event.Line 5 ∷ past_12

abbrev past_14 : List Event
past_14 = event.TaskMade (record { 0 = 1 }) (record { 0 = 0 }) ∷ past_13

abbrev past_15 : List Event
past_15 = event.RegionCopied (record { 0 = 1 }) (record { 0 = 0 }) 0 2 ∷ past_14

abbrev past_16 : List Event
past_16 = event.Entered (record { 0 = 1 }) 0 32 (record { 0 = 1 }) 0 all Copy ∷ past_15

abbrev past_17 : List Event
past_17 = event.Line 6 ∷ past_16

abbrev past_18 : List Event
past_18 = event.BegunStore (record { 0 = 1 }) 0 1 2 ∷ past_17

abbrev past_19 : List Event
past_19 = event.Shadowed (record { 0 = 1 }) (record { 0 = 1 }) (record { 0 = 0 }) ∷ past_18

abbrev past_20 : List Event
past_20 = event.Raised (record { 0 = 0 }) (record { 0 = 0 }) (record { 0 = 0 }) (record { 0 = 1 }) (record { 0 = 0 }) ∷ past_19

abbrev past_21 : List Event
past_21 = event.Stored (record { 0 = 1 }) (record { 0 = 1 }) (record { 0 = 0 }) 0 1 2 ∷ past_20

abbrev past_22 : List Event
past_22 = event.Line 7 ∷ past_21

abbrev past_23 : List Event
past_23 = event.TaskMade (record { 0 = 2 }) (record { 0 = 0 }) ∷ past_22

abbrev past_24 : List Event
past_24 = event.RegionCopied (record { 0 = 2 }) (record { 0 = 1 }) 0 2 ∷ past_23

abbrev past_25 : List Event
past_25 = event.Entered (record { 0 = 2 }) 0 32 (record { 0 = 2 }) 0 all Copy ∷ past_24

abbrev past_26 : List Event
past_26 = event.Line 8 ∷ past_25

abbrev past_27 : List Event
past_27 = event.BegunStore (record { 0 = 2 }) 1 1 3 ∷ past_26

abbrev past_28 : List Event
past_28 = event.Shadowed (record { 0 = 2 }) (record { 0 = 2 }) (record { 0 = 1 }) ∷ past_27

abbrev past_29 : List Event
past_29 = event.Raised (record { 0 = 0 }) (record { 0 = 1 }) (record { 0 = 0 }) (record { 0 = 2 }) (record { 0 = 0 }) ∷ past_28

abbrev past_30 : List Event
past_30 = event.Stored (record { 0 = 2 }) (record { 0 = 2 }) (record { 0 = 0 }) 1 1 3 ∷ past_29

abbrev past_31 : List Event
past_31 = event.Line 9 ∷ past_30

abbrev past_32 : List Event
past_32 = event.BegunLoad (record { 0 = 2 }) 18 2 ∷ past_31

abbrev past_33 : List Event
past_33 = event.Loaded (record { 0 = 2 }) (record { 0 = 0 }) (record { 0 = 1 }) 777 ∷ past_32

abbrev past_34 : List Event
past_34 = event.Line 10 ∷ past_33

abbrev past_35 : List Event
past_35 = event.BegunLoad (record { 0 = 2 }) 0 2 ∷ past_34

abbrev past_36 : List Event
past_36 = event.Loaded (record { 0 = 2 }) (record { 0 = 2 }) (record { 0 = 0 }) 770 ∷ past_35

abbrev past_37 : List Event
past_37 = event.Line 11 ∷ past_36

abbrev past_38 : List Event
past_38 = event.BegunLoad (record { 0 = 1 }) 0 2 ∷ past_37

abbrev past_39 : List Event
past_39 = event.Loaded (record { 0 = 1 }) (record { 0 = 1 }) (record { 0 = 0 }) 2 ∷ past_38

caused_0 : EachEvent (HasCause header outside) past_0
caused_0 = ((settling, tt), tt)

caused_1 : EachEvent (HasCause header outside) past_1
caused_1 = ((settling, tt), caused_0)

caused_2 : EachEvent (HasCause header outside) past_2
caused_2 = ((settling, tt), caused_1)

caused_3 : EachEvent (HasCause header outside) past_3
caused_3 = ((settling, (refl, refl)), caused_2)

caused_4 : EachEvent (HasCause header outside) past_4
caused_4 = (
  (
    settling,
    record {
      idle = refl;
      host = 0;
      lives = refl;
      whole = refl;
      inside = omega arith;
      made = omega arith;
      used = λ above. refl;
      file = λ is. refl;
      unfilled = refl;
    },
  ),
  caused_3,
)

caused_5 : EachEvent (HasCause header outside) past_5
caused_5 = ((settling, tt), caused_4)

caused_6 : EachEvent (HasCause header outside) past_6
caused_6 = ((settling, refl), caused_5)

caused_7 : EachEvent (HasCause header outside) past_7
caused_7 = (
  (
    settling,
    inr (record {
      task = 0;
      access = Storing 0 1 1;
      waits = record { waits = refl; at = record { host = 0; entry = parent; lives = refl; found = refl }; left = tt };
      on_host = refl;
      temporary = omega arith;
      unmarked = λ store. refl;
      is_top = record { object = refl; page = refl };
      steps = 0;
      sinks = (record { away = refl; unasked = refl; without = refl }, refl);
      plain = bottom_plain (λ k. backing_of header k past_6) (named header) _ refl (omega arith);
    }),
  ),
  caused_6,
)

caused_8 : EachEvent (HasCause header outside) past_8
caused_8 = (
  (
    settling,
    record {
      address = 0;
      waits = record { waits = refl; at = record { host = 0; entry = parent; lives = refl; found = refl }; left = tt };
      is_top = record { object = refl; page = refl };
      unmarked = refl;
      here = refl;
      place = refl;
      paid = λ copy owes. no_copy copy owes.newest;
    },
  ),
  caused_7,
)

caused_9 : EachEvent (HasCause header outside) past_9
caused_9 = ((settling, tt), caused_8)

caused_10 : EachEvent (HasCause header outside) past_10
caused_10 = ((settling, refl), caused_9)

caused_11 : EachEvent (HasCause header outside) past_11
caused_11 = (
  (
    settling,
    inr (record {
      task = 0;
      access = Storing 18 2 777;
      waits = record { waits = refl; at = record { host = 0; entry = parent; lives = refl; found = refl }; left = tt };
      on_host = refl;
      temporary = omega arith;
      unmarked = λ store. refl;
      is_top = record { object = refl; page = refl };
      steps = 0;
      sinks = (record { away = refl; unasked = refl; without = refl }, refl);
      plain = bottom_plain (λ k. backing_of header k past_10) (named header) _ refl (omega arith);
    }),
  ),
  caused_10,
)

caused_12 : EachEvent (HasCause header outside) past_12
caused_12 = (
  (
    settling,
    record {
      address = 18;
      waits = record { waits = refl; at = record { host = 0; entry = parent; lives = refl; found = refl }; left = tt };
      is_top = record { object = refl; page = refl };
      unmarked = refl;
      here = refl;
      place = refl;
      paid = λ copy owes. no_copy copy owes.newest;
    },
  ),
  caused_11,
)

caused_13 : EachEvent (HasCause header outside) past_13
caused_13 = ((settling, tt), caused_12)

caused_14 : EachEvent (HasCause header outside) past_14
caused_14 = ((settling, tt), caused_13)

caused_15 : EachEvent (HasCause header outside) past_15
caused_15 = (
  (
    settling,
    record {
      next = refl;
      temporary = omega arith;
      task = 0;
      address = 0;
      at = record { host = 0; entry = parent; lives = refl; found = refl };
      source_is = refl;
      inside = omega arith;
    },
  ),
  caused_14,
)

caused_16 : EachEvent (HasCause header outside) past_16
caused_16 = (
  (
    settling,
    record {
      idle = refl;
      host = 0;
      lives = refl;
      whole = refl;
      inside = omega arith;
      made = omega arith;
      used = λ above. refl;
      file = λ is. refl;
      unfilled = refl;
    },
  ),
  caused_15,
)

caused_17 : EachEvent (HasCause header outside) past_17
caused_17 = ((settling, tt), caused_16)

caused_18 : EachEvent (HasCause header outside) past_18
caused_18 = ((settling, refl), caused_17)

caused_19 : EachEvent (HasCause header outside) past_19
caused_19 = (
  (
    settling,
    record {
      next = refl;
      is_top = refl;
      marked = refl;
      task = 1;
      address = 0;
      bytes = 1;
      value = 2;
      waits = record { waits = refl; at = record { host = 0; entry = child; lives = refl; found = refl }; left = tt };
      region_is = refl;
      shared = λ alone. let bad : 0 ≡ 1 = alone.tops 0 (omega arith) refl refl in omega (arith, bad);
    },
  ),
  caused_18,
)

caused_20 : EachEvent (HasCause header outside) past_20
caused_20 = (
  (
    settling,
    Finding (record {
      task = 1;
      address = 0;
      bytes = 1;
      value = 2;
      waits = record { waits = refl; at = record { host = 0; entry = child; lives = refl; found = refl }; left = tt };
      on_host = refl;
      unmarked = refl;
      is_top = record { object = refl; page = refl };
      steps = 0;
      walks = (record { away = refl; unasked = refl; without = refl }, refl, (refl, refl));
      here = refl;
    }),
  ),
  caused_19,
)

caused_21 : EachEvent (HasCause header outside) past_21
caused_21 = (
  (
    settling,
    record {
      address = 0;
      waits = record { waits = refl; at = record { host = 0; entry = child; lives = refl; found = refl }; left = tt };
      is_top = record { object = refl; page = refl };
      unmarked = refl;
      here = refl;
      place = refl;
      paid = λ copy owes. no_copy copy owes.newest;
    },
  ),
  caused_20,
)

caused_22 : EachEvent (HasCause header outside) past_22
caused_22 = ((settling, tt), caused_21)

caused_23 : EachEvent (HasCause header outside) past_23
caused_23 = ((settling, tt), caused_22)

caused_24 : EachEvent (HasCause header outside) past_24
caused_24 = (
  (
    settling,
    record {
      next = refl;
      temporary = omega arith;
      task = 1;
      address = 0;
      at = record { host = 0; entry = child; lives = refl; found = refl };
      source_is = refl;
      inside = omega arith;
    },
  ),
  caused_23,
)

caused_25 : EachEvent (HasCause header outside) past_25
caused_25 = (
  (
    settling,
    record {
      idle = refl;
      host = 0;
      lives = refl;
      whole = refl;
      inside = omega arith;
      made = omega arith;
      used = λ above. refl;
      file = λ is. refl;
      unfilled = refl;
    },
  ),
  caused_24,
)

caused_26 : EachEvent (HasCause header outside) past_26
caused_26 = ((settling, tt), caused_25)

caused_27 : EachEvent (HasCause header outside) past_27
caused_27 = ((settling, refl), caused_26)

caused_28 : EachEvent (HasCause header outside) past_28
caused_28 = (
  (
    settling,
    record {
      next = refl;
      is_top = refl;
      marked = refl;
      task = 2;
      address = 1;
      bytes = 1;
      value = 3;
      waits = record { waits = refl; at = record { host = 0; entry = grandchild; lives = refl; found = refl }; left = tt };
      region_is = refl;
      shared = λ alone. let bad : 1 ≡ 2 = alone.tops 1 (omega arith) refl refl in omega (arith, bad);
    },
  ),
  caused_27,
)

caused_29 : EachEvent (HasCause header outside) past_29
caused_29 = (
  (
    settling,
    Finding (record {
      task = 2;
      address = 1;
      bytes = 1;
      value = 3;
      waits = record { waits = refl; at = record { host = 0; entry = grandchild; lives = refl; found = refl }; left = tt };
      on_host = refl;
      unmarked = refl;
      is_top = record { object = refl; page = refl };
      steps = 0;
      walks = (record { away = refl; unasked = refl; without = refl }, refl, (refl, refl));
      here = refl;
    }),
  ),
  caused_28,
)

caused_30 : EachEvent (HasCause header outside) past_30
caused_30 = (
  (
    settling,
    record {
      address = 1;
      waits = record { waits = refl; at = record { host = 0; entry = grandchild; lives = refl; found = refl }; left = tt };
      is_top = record { object = refl; page = refl };
      unmarked = refl;
      here = refl;
      place = refl;
      paid = λ copy owes. no_copy copy owes.newest;
    },
  ),
  caused_29,
)

caused_31 : EachEvent (HasCause header outside) past_31
caused_31 = ((settling, tt), caused_30)

caused_32 : EachEvent (HasCause header outside) past_32
caused_32 = ((settling, refl), caused_31)

caused_33 : EachEvent (HasCause header outside) past_33
caused_33 = (
  (
    settling,
    record {
      address = 18;
      bytes = 2;
      waits = record {
        waits = refl;
        at = record { host = 0; entry = grandchild; lives = refl; found = refl };
        left = tt;
      };
      comes = record {
        top = 2;
        top_page = 1;
        steps = 2;
        is_top = record { object = refl; page = refl };
        walks = (record { away = refl; unasked = refl; without = refl }, refl, (record { away = refl; unasked = refl; without = refl }, refl, (refl, refl)));
      };
      here = refl;
    },
  ),
  caused_32,
)

caused_34 : EachEvent (HasCause header outside) past_34
caused_34 = ((settling, tt), caused_33)

caused_35 : EachEvent (HasCause header outside) past_35
caused_35 = ((settling, refl), caused_34)

caused_36 : EachEvent (HasCause header outside) past_36
caused_36 = (
  (
    settling,
    record {
      address = 0;
      bytes = 2;
      waits = record {
        waits = refl;
        at = record { host = 0; entry = grandchild; lives = refl; found = refl };
        left = tt;
      };
      comes = record { top = 2; top_page = 0; steps = 0; is_top = record { object = refl; page = refl }; walks = (refl, refl) };
      here = refl;
    },
  ),
  caused_35,
)

caused_37 : EachEvent (HasCause header outside) past_37
caused_37 = ((settling, tt), caused_36)

caused_38 : EachEvent (HasCause header outside) past_38
caused_38 = ((settling, refl), caused_37)

caused_39 : EachEvent (HasCause header outside) past_39
caused_39 = (
  (
    settling,
    record {
      address = 0;
      bytes = 2;
      waits = record {
        waits = refl;
        at = record { host = 0; entry = child; lives = refl; found = refl };
        left = tt;
      };
      comes = record { top = 1; top_page = 0; steps = 0; is_top = record { object = refl; page = refl }; walks = (refl, refl) };
      here = refl;
    },
  ),
  caused_38,
)

own_8 : OwnBytes header (event.Stored (record { 0 = 0 }) (record { 0 = 0 }) (record { 0 = 0 }) 0 1 1) past_7
own_8 =
    record {
      address = 0;
      waits = record { waits = refl; at = record { host = 0; entry = parent; lives = refl; found = refl }; left = tt };
      writable = record { here = refl; unlocked = refl };
      place = refl;
    }

own_12 : OwnBytes header (event.Stored (record { 0 = 0 }) (record { 0 = 0 }) (record { 0 = 1 }) 2 2 777) past_11
own_12 =
    record {
      address = 18;
      waits = record { waits = refl; at = record { host = 0; entry = parent; lives = refl; found = refl }; left = tt };
      writable = record { here = refl; unlocked = refl };
      place = refl;
    }

own_20 : OwnBytes header (event.Raised (record { 0 = 0 }) (record { 0 = 0 }) (record { 0 = 0 }) (record { 0 = 1 }) (record { 0 = 0 })) past_19
own_20 = record { here = refl; unlocked = inl refl }

own_21 : OwnBytes header (event.Stored (record { 0 = 1 }) (record { 0 = 1 }) (record { 0 = 0 }) 0 1 2) past_20
own_21 =
    record {
      address = 0;
      waits = record { waits = refl; at = record { host = 0; entry = child; lives = refl; found = refl }; left = tt };
      writable = record { here = refl; unlocked = refl };
      place = refl;
    }

own_29 : OwnBytes header (event.Raised (record { 0 = 0 }) (record { 0 = 1 }) (record { 0 = 0 }) (record { 0 = 2 }) (record { 0 = 0 })) past_28
own_29 = record { here = refl; unlocked = inl refl }

own_30 : OwnBytes header (event.Stored (record { 0 = 2 }) (record { 0 = 2 }) (record { 0 = 0 }) 1 1 3) past_29
own_30 =
    record {
      address = 1;
      waits = record { waits = refl; at = record { host = 0; entry = grandchild; lives = refl; found = refl }; left = tt };
      writable = record { here = refl; unlocked = refl };
      place = refl;
    }

own_33 : OwnBytes header (event.Loaded (record { 0 = 2 }) (record { 0 = 0 }) (record { 0 = 1 }) 777) past_32
own_33 =
    record {
      address = 18;
      bytes = 2;
      waits = record { waits = refl; at = record { host = 0; entry = grandchild; lives = refl; found = refl }; left = tt };
      readable = record { here = refl; unlocked = inl refl };
      number = refl;
    }

own_36 : OwnBytes header (event.Loaded (record { 0 = 2 }) (record { 0 = 2 }) (record { 0 = 0 }) 770) past_35
own_36 =
    record {
      address = 0;
      bytes = 2;
      waits = record { waits = refl; at = record { host = 0; entry = grandchild; lives = refl; found = refl }; left = tt };
      readable = record { here = refl; unlocked = inl refl };
      number = refl;
    }

own_39 : OwnBytes header (event.Loaded (record { 0 = 1 }) (record { 0 = 1 }) (record { 0 = 0 }) 2) past_38
own_39 =
    record {
      address = 0;
      bytes = 2;
      waits = record { waits = refl; at = record { host = 0; entry = child; lives = refl; found = refl }; left = tt };
      readable = record { here = refl; unlocked = inl refl };
      number = refl;
    }

own_bytes : EachEvent (OwnBytes header) past_39
own_bytes = (
  own_39,
  (
    tt,
    (
      tt,
      (
        own_36,
        (
          tt,
          (
            tt,
            (
              own_33,
              (
                tt,
                (
                  tt,
                  (
                    own_30,
                    (
                      own_29,
                      (
                        tt,
                        (
                          tt,
                          (
                            tt,
                            (
                              tt,
                              (
                                tt,
                                (
                                  tt,
                                  (
                                    tt,
                                    (
                                      own_21,
                                      (
                                        own_20,
                                        (
                                          tt,
                                          (
                                            tt,
                                            (
                                              tt,
                                              (
                                                tt,
                                                (
                                                  tt,
                                                  (
                                                    tt,
                                                    (tt, (own_12, (tt, (tt, (tt, (own_8, (tt, (tt, (tt, (tt, (tt, (tt, (tt, (tt, tt)))))))))))))),
                                                  ),
                                                ),
                                              ),
                                            ),
                                          ),
                                        ),
                                      ),
                                    ),
                                  ),
                                ),
                              ),
                            ),
                          ),
                        ),
                      ),
                    ),
                  ),
                ),
              ),
            ),
          ),
        ),
      ),
    ),
  ),
)

current : EachEvent (CopiesCurrent header outside) past_39
current = (
  tt,
  (
    tt,
    (
      tt,
      (
        tt,
        (
          tt,
          (
            tt,
            (
              tt,
              (
                tt,
                (
                  tt,
                  (
                    tt,
                    (
                      tt,
                      (
                        tt,
                        (
                          tt,
                          (
                            tt,
                            (
                              tt,
                              (
                                tt,
                                (
                                  tt,
                                  (
                                    tt,
                                    (
                                      tt,
                                      (
                                        tt,
                                        (
                                          tt,
                                          (
                                            tt,
                                            (tt, (tt, (tt, (tt, (tt, (tt, (tt, (tt, (tt, (tt, (tt, (tt, (tt, (tt, (tt, (tt, (tt, (tt, tt)))))))))))))))))),
                                          ),
                                        ),
                                      ),
                                    ),
                                  ),
                                ),
                              ),
                            ),
                          ),
                        ),
                      ),
                    ),
                  ),
                ),
              ),
            ),
          ),
        ),
      ),
    ),
  ),
)

unshared : NoneIsShared header
unshared = none_shared header (λ o below. absurd (omega (arith, below)))

pub answered : EachEvent (FlatBytes header outside) past_39
answered = answers header outside past_39 caused_39 own_bytes current (loads_unshared header outside past_39 unshared)
