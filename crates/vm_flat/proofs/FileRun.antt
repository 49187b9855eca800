-- A run with pageout: a file's page comes back, and a temporary page that got no slot is lost.
use Rattle.std.proofs.Common.{ℕ, subst, List, [], ◌∷◌, true, false, refl, arith, inr, inl, ◌≡◌}
use Rattle.vm_base.specs.declared.entry.Entry.{Entry}
use Rattle.vm_base.specs.declared.ids.Inherit.TheVariants.{Copy}
use Rattle.vm_base.specs.declared.ids.ObjectKind.TheVariants.{File}
use Rattle.vm_model.specs.declared.command.Command.{Command}
use Rattle.vm_model.specs.declared.command.Command.TheVariants as command
use Rattle.vm_model.specs.declared.event.Event.{Event}
use Rattle.vm_model.specs.declared.event.Event.TheVariants as event
use Rattle.vm_model.specs.declared.message.Channel.TheVariants.{Up, Down}
use Rattle.vm_model.specs.declared.message.Message.TheVariants as message
use Rattle.vm_model.specs.declared.script.Header.{Header}
use Rattle.vm_model.specs.Moments.{EachEvent}
use Rattle.vm_model.specs.Waiting.{Loading, Storing}
use Rattle.vm_legal.specs.Outside.{Outside, Told, is_shared}
use Rattle.vm_legal.specs.Bytes.{OwnBytes, CopiesCurrent, FlatBytes}
use Rattle.vm_legal.specs.Licences.{ByError, Created, HasCause, Reclaimed}
use Rattle.vm_flat.proofs.FileStart.{all, mapped, past_0, past_1, past_10, past_11, past_12, past_13, past_14, past_15, past_16, past_2, past_3, past_4, past_5}
use Rattle.vm_flat.proofs.FileStart.{past_6, past_7, past_8, past_9, settling}
use Rattle.vm_legal.proofs.Unshared.{NoneIsShared, loads_unshared, none_shared}
use Rattle.vm_flat.proofs.Bottom.{bottom_plain, no_copy}
use Rattle.vm_model.specs.Named.{named}
use Rattle.vm_model.specs.Regions.{backing_of}
use Rattle.vm_flat.proofs.Loads.{answers}

abbrev header : Header
header =
    record {
      size = 16;
      slots = 0;
      frames = record { items = 8 ∷ []; room = 0 };
      objects = record { items = record { name = 102 ∷ []; kind = File; pages = 1 } ∷ []; room = 0 };
    }

abbrev outside : Outside
outside = record { files = Told (λ object at. (4 ∷ 5 ∷ 0 ∷ 0 ∷ 0 ∷ 0 ∷ 0 ∷ 0 ∷ 0 ∷ 0 ∷ 0 ∷ 0 ∷ 0 ∷ 0 ∷ 0 ∷ 0 ∷ [])); paging = true }

abbrev own : Entry
own = record { address = 0; bytes = 16; region = record { 0 = 1 }; offset = 0; prot = all; inherit = Copy }

abbrev paging : Command
paging = command.Pageout (record { 0 = 0 }) 2

abbrev past_17 : List Event
past_17 = event.BegunStore (record { 0 = 0 }) 64 1 9 ∷ past_16

abbrev past_18 : List Event
past_18 = event.Stored (record { 0 = 0 }) (record { 0 = 0 }) (record { 0 = 0 }) 0 1 9 ∷ past_17

abbrev past_19 : List Event
past_19 = event.Line 6 ∷ past_18

abbrev past_20 : List Event
past_20 = event.RegionMade (record { 0 = 1 }) (record { 0 = 1 }) 1 ∷ past_19

abbrev past_21 : List Event
past_21 = event.Entered (record { 0 = 0 }) 0 16 (record { 0 = 1 }) 0 all Copy ∷ past_20

abbrev past_22 : List Event
past_22 = event.Line 7 ∷ past_21

abbrev past_23 : List Event
past_23 = event.BegunStore (record { 0 = 0 }) 0 1 7 ∷ past_22

abbrev past_24 : List Event
past_24 = event.Zeroed (record { 0 = 0 }) (record { 0 = 1 }) (record { 0 = 0 }) ∷ past_23

abbrev past_25 : List Event
past_25 = event.Stored (record { 0 = 0 }) (record { 0 = 1 }) (record { 0 = 0 }) 0 1 7 ∷ past_24

abbrev past_26 : List Event
past_26 = event.Line 8 ∷ past_25

abbrev past_27 : List Event
past_27 =
    event.Sent (Up (record { 0 = 0 }) (record { 0 = 0 })) (message.Return 1 (record { 0 = 0 }) true false
    (9 ∷ 5 ∷ 0 ∷ 0 ∷ 0 ∷ 0 ∷ 0 ∷ 0 ∷ 0 ∷ 0 ∷ 0 ∷ 0 ∷ 0 ∷ 0 ∷ 0 ∷ 0 ∷ [])) ∷ past_26

abbrev past_28 : List Event
past_28 = event.Sent (Up (record { 0 = 0 }) (record { 0 = 1 })) (message.Create 1 16) ∷ past_27

abbrev past_29 : List Event
past_29 =
    event.Sent (Up (record { 0 = 0 }) (record { 0 = 1 })) (message.Return 1 (record { 0 = 0 }) true false
    (7 ∷ 0 ∷ 0 ∷ 0 ∷ 0 ∷ 0 ∷ 0 ∷ 0 ∷ 0 ∷ 0 ∷ 0 ∷ 0 ∷ 0 ∷ 0 ∷ 0 ∷ 0 ∷ [])) ∷ past_28

abbrev past_30 : List Event
past_30 = event.Line 9 ∷ past_29

abbrev past_31 : List Event
past_31 =
    event.Taken (Up (record { 0 = 0 }) (record { 0 = 0 })) (message.Return 1 (record { 0 = 0 }) true false
    (9 ∷ 5 ∷ 0 ∷ 0 ∷ 0 ∷ 0 ∷ 0 ∷ 0 ∷ 0 ∷ 0 ∷ 0 ∷ 0 ∷ 0 ∷ 0 ∷ 0 ∷ 0 ∷ [])) ∷ past_30

abbrev past_32 : List Event
past_32 = event.Taken (Up (record { 0 = 0 }) (record { 0 = 1 })) (message.Create 1 16) ∷ past_31

abbrev past_33 : List Event
past_33 = event.Sent (Down (record { 0 = 0 }) (record { 0 = 1 }) 1) (message.Ready false 3) ∷ past_32

abbrev past_34 : List Event
past_34 =
    event.Taken (Up (record { 0 = 0 }) (record { 0 = 1 })) (message.Return 1 (record { 0 = 0 }) true false
    (7 ∷ 0 ∷ 0 ∷ 0 ∷ 0 ∷ 0 ∷ 0 ∷ 0 ∷ 0 ∷ 0 ∷ 0 ∷ 0 ∷ 0 ∷ 0 ∷ 0 ∷ 0 ∷ [])) ∷ past_33

abbrev past_35 : List Event
past_35 = event.NoSlot (record { 0 = 1 }) (record { 0 = 0 }) ∷ past_34

abbrev past_36 : List Event
past_36 = event.Taken (Down (record { 0 = 0 }) (record { 0 = 1 }) 1) (message.Ready false 3) ∷ past_35

abbrev past_37 : List Event
past_37 = event.Line 10 ∷ past_36

abbrev past_38 : List Event
past_38 = event.BegunLoad (record { 0 = 0 }) 0 1 ∷ past_37

abbrev past_39 : List Event
past_39 = event.Sent (Up (record { 0 = 0 }) (record { 0 = 1 })) (message.Request 1 (record { 0 = 0 }) 1) ∷ past_38

abbrev past_40 : List Event
past_40 = event.Line 11 ∷ past_39

abbrev past_41 : List Event
past_41 = event.Taken (Up (record { 0 = 0 }) (record { 0 = 1 })) (message.Request 1 (record { 0 = 0 }) 1) ∷ past_40

abbrev past_42 : List Event
past_42 = event.Sent (Down (record { 0 = 0 }) (record { 0 = 1 }) 1) (message.Error (record { 0 = 0 }) 10) ∷ past_41

abbrev past_43 : List Event
past_43 = event.Taken (Down (record { 0 = 0 }) (record { 0 = 1 }) 1) (message.Error (record { 0 = 0 }) 10) ∷ past_42

abbrev past_44 : List Event
past_44 = event.Failed (record { 0 = 0 }) (record { 0 = 1 }) (record { 0 = 0 }) ∷ past_43

abbrev past_45 : List Event
past_45 = event.Line 12 ∷ past_44

abbrev past_46 : List Event
past_46 = event.BegunLoad (record { 0 = 0 }) 64 2 ∷ past_45

abbrev past_47 : List Event
past_47 = event.Sent (Up (record { 0 = 0 }) (record { 0 = 0 })) (message.Request 1 (record { 0 = 0 }) 1) ∷ past_46

abbrev past_48 : List Event
past_48 = event.Line 13 ∷ past_47

abbrev past_49 : List Event
past_49 = event.Taken (Up (record { 0 = 0 }) (record { 0 = 0 })) (message.Request 1 (record { 0 = 0 }) 1) ∷ past_48

abbrev past_50 : List Event
past_50 =
    event.Sent (Down (record { 0 = 0 }) (record { 0 = 0 }) 1) (message.Supply (record { 0 = 0 }) 0 false
    (9 ∷ 5 ∷ 0 ∷ 0 ∷ 0 ∷ 0 ∷ 0 ∷ 0 ∷ 0 ∷ 0 ∷ 0 ∷ 0 ∷ 0 ∷ 0 ∷ 0 ∷ 0 ∷ [])) ∷ past_49

abbrev past_51 : List Event
past_51 =
    event.Taken (Down (record { 0 = 0 }) (record { 0 = 0 }) 1) (message.Supply (record { 0 = 0 }) 0 false
    (9 ∷ 5 ∷ 0 ∷ 0 ∷ 0 ∷ 0 ∷ 0 ∷ 0 ∷ 0 ∷ 0 ∷ 0 ∷ 0 ∷ 0 ∷ 0 ∷ 0 ∷ 0 ∷ [])) ∷ past_50

abbrev past_52 : List Event
past_52 = event.Loaded (record { 0 = 0 }) (record { 0 = 0 }) (record { 0 = 0 }) 1289 ∷ past_51

caused_0 : EachEvent (HasCause header outside) past_0
caused_0 = ((settling, tt), tt)

caused_1 : EachEvent (HasCause header outside) past_1
caused_1 = ((settling, tt), caused_0)

caused_2 : EachEvent (HasCause header outside) past_2
caused_2 = ((settling, tt), caused_1)

caused_3 : EachEvent (HasCause header outside) past_3
caused_3 = (
  (
    settling,
    record {
      idle = refl;
      host = 0;
      lives = refl;
      whole = refl;
      inside = omega arith;
      made = omega arith;
      used = λ above. refl;
      file = λ is. refl;
      unfilled = refl;
    },
  ),
  caused_2,
)

caused_4 : EachEvent (HasCause header outside) past_4
caused_4 = (
  (
    settling,
    record {
      number = refl;
      sized = refl;
      declared = omega arith;
      none = refl;
      task = 0;
      address = 64;
      at = record { host = 0; entry = mapped; lives = refl; found = refl };
      on_host = refl;
      region = refl;
    },
  ),
  caused_3,
)

caused_5 : EachEvent (HasCause header outside) past_5
caused_5 = ((settling, tt), caused_4)

caused_6 : EachEvent (HasCause header outside) past_6
caused_6 = ((settling, refl), caused_5)

caused_7 : EachEvent (HasCause header outside) past_7
caused_7 = ((settling, tt), caused_6)

caused_8 : EachEvent (HasCause header outside) past_8
caused_8 = ((settling, (refl, (refl, omega arith))), caused_7)

caused_9 : EachEvent (HasCause header outside) past_9
caused_9 = ((settling, (16, refl, refl, inr (refl, refl))), caused_8)

caused_10 : EachEvent (HasCause header outside) past_10
caused_10 = ((settling, (refl, (refl, omega arith))), caused_9)

caused_11 : EachEvent (HasCause header outside) past_11
caused_11 = (
  (
    settling,
    record {
      task = 0;
      access = Loading 64 2;
      waits = record { waits = refl; at = record { host = 0; entry = mapped; lives = refl; found = refl }; left = tt };
      on_host = refl;
      unmarked = λ store. refl;
      comes = record { top = 0; top_page = 0; steps = 0; is_top = record { object = refl; page = refl }; walks = (refl, refl) };
      number = refl;
      live = refl;
      ready = refl;
      away = refl;
      unasked = refl;
      known = refl;
    },
  ),
  caused_10,
)

caused_12 : EachEvent (HasCause header outside) past_12
caused_12 = ((settling, (refl, (refl, omega arith))), caused_11)

caused_13 : EachEvent (HasCause header outside) past_13
caused_13 = (
  (
    settling,
    (
      record { access = 1; taken = refl; unanswered = refl },
      record { kept = refl; read = refl },
      refl,
      refl,
      λ temporary. absurd (cc),
      λ told. refl,
    ),
  ),
  caused_12,
)

caused_14 : EachEvent (HasCause header outside) past_14
caused_14 = ((settling, (refl, (refl, omega arith))), caused_13)

caused_15 : EachEvent (HasCause header outside) past_15
caused_15 = (
  (
    settling,
    record {
      address = 64;
      bytes = 2;
      waits = record {
        waits = refl;
        at = record { host = 0; entry = mapped; lives = refl; found = refl };
        left = tt;
      };
      comes = record { top = 0; top_page = 0; steps = 0; is_top = record { object = refl; page = refl }; walks = (refl, refl) };
      here = refl;
    },
  ),
  caused_14,
)

caused_16 : EachEvent (HasCause header outside) past_16
caused_16 = ((settling, tt), caused_15)

caused_17 : EachEvent (HasCause header outside) past_17
caused_17 = ((settling, refl), caused_16)

caused_18 : EachEvent (HasCause header outside) past_18
caused_18 = (
  (
    settling,
    record {
      address = 64;
      waits = record { waits = refl; at = record { host = 0; entry = mapped; lives = refl; found = refl }; left = tt };
      is_top = record { object = refl; page = refl };
      unmarked = refl;
      here = refl;
      place = refl;
      paid = λ copy owes. no_copy copy owes.newest;
    },
  ),
  caused_17,
)

caused_19 : EachEvent (HasCause header outside) past_19
caused_19 = ((settling, tt), caused_18)

caused_20 : EachEvent (HasCause header outside) past_20
caused_20 = ((settling, (refl, refl)), caused_19)

caused_21 : EachEvent (HasCause header outside) past_21
caused_21 = (
  (
    settling,
    record {
      idle = refl;
      host = 0;
      lives = refl;
      whole = refl;
      inside = omega arith;
      made = omega arith;
      used = λ above. refl;
      file = λ is. refl;
      unfilled = refl;
    },
  ),
  caused_20,
)

caused_22 : EachEvent (HasCause header outside) past_22
caused_22 = ((settling, tt), caused_21)

caused_23 : EachEvent (HasCause header outside) past_23
caused_23 = ((settling, refl), caused_22)

caused_24 : EachEvent (HasCause header outside) past_24
caused_24 = (
  (
    settling,
    inr (record {
      task = 0;
      access = Storing 0 1 7;
      waits = record { waits = refl; at = record { host = 0; entry = own; lives = refl; found = refl }; left = tt };
      on_host = refl;
      temporary = omega arith;
      unmarked = λ store. refl;
      is_top = record { object = refl; page = refl };
      steps = 0;
      sinks = (record { away = refl; unasked = refl; without = refl }, refl);
      plain = bottom_plain (λ k. backing_of header k past_23) (named header) _ refl (omega arith);
    }),
  ),
  caused_23,
)

caused_25 : EachEvent (HasCause header outside) past_25
caused_25 = (
  (
    settling,
    record {
      address = 0;
      waits = record { waits = refl; at = record { host = 0; entry = own; lives = refl; found = refl }; left = tt };
      is_top = record { object = refl; page = refl };
      unmarked = refl;
      here = refl;
      place = refl;
      paid = λ copy owes. no_copy copy owes.newest;
    },
  ),
  caused_24,
)

caused_26 : EachEvent (HasCause header outside) past_26
caused_26 = ((settling, tt), caused_25)

caused_27 : EachEvent (HasCause header outside) past_27
caused_27 = (
  (
    paging,
    record {
      live = refl;
      here = refl;
      due = refl;
      same = refl;
      flag = refl;
      why = Reclaimed refl (record { spared = λ w. absurd (let bad : false ≡ true = w.unlocking in cc); may = inl (refl, omega arith, tt) });
    },
  ),
  caused_26,
)

caused_28 : EachEvent (HasCause header outside) past_28
caused_28 = ((settling, record { number = refl; sized = refl; temporary = omega arith; never = refl; page = 0; here = refl }), caused_27)

caused_29 : EachEvent (HasCause header outside) past_29
caused_29 = (
  (
    paging,
    record {
      live = refl;
      here = refl;
      due = refl;
      same = refl;
      flag = refl;
      why = Created 1 16 _ refl refl (record { spared = λ w. absurd (let bad : false ≡ true = w.unlocking in cc); may = inl (refl, omega arith, (refl, tt)) });
    },
  ),
  caused_28,
)

caused_30 : EachEvent (HasCause header outside) past_30
caused_30 = ((settling, tt), caused_29)

caused_31 : EachEvent (HasCause header outside) past_31
caused_31 = ((settling, (refl, (refl, omega arith))), caused_30)

caused_32 : EachEvent (HasCause header outside) past_32
caused_32 = ((settling, (refl, (refl, omega arith))), caused_31)

caused_33 : EachEvent (HasCause header outside) past_33
caused_33 = ((settling, (16, refl, refl, inl (refl, refl))), caused_32)

caused_34 : EachEvent (HasCause header outside) past_34
caused_34 = ((settling, (refl, (refl, omega arith))), caused_33)

caused_35 : EachEvent (HasCause header outside) past_35
caused_35 = (
  (
    settling,
    record {
      temporary = omega arith;
      host = 0;
      takes = record { control = 1; dirty = true; keep = false; bytes = 7 ∷ 0 ∷ 0 ∷ 0 ∷ 0 ∷ 0 ∷ 0 ∷ 0 ∷ 0 ∷ 0 ∷ 0 ∷ 0 ∷ 0 ∷ 0 ∷ 0 ∷ 0 ∷ []; is = refl };
      lacks = record { none = refl; full = refl };
    },
  ),
  caused_34,
)

caused_36 : EachEvent (HasCause header outside) past_36
caused_36 = ((settling, (refl, (refl, omega arith))), caused_35)

caused_37 : EachEvent (HasCause header outside) past_37
caused_37 = ((settling, tt), caused_36)

caused_38 : EachEvent (HasCause header outside) past_38
caused_38 = ((settling, refl), caused_37)

caused_39 : EachEvent (HasCause header outside) past_39
caused_39 = (
  (
    settling,
    record {
      task = 0;
      access = Loading 0 1;
      waits = record { waits = refl; at = record { host = 0; entry = own; lives = refl; found = refl }; left = tt };
      on_host = refl;
      unmarked = λ store. refl;
      comes = record { top = 1; top_page = 0; steps = 0; is_top = record { object = refl; page = refl }; walks = (refl, refl) };
      number = refl;
      live = refl;
      ready = refl;
      away = refl;
      unasked = refl;
      known = refl;
    },
  ),
  caused_38,
)

caused_40 : EachEvent (HasCause header outside) past_40
caused_40 = ((settling, tt), caused_39)

caused_41 : EachEvent (HasCause header outside) past_41
caused_41 = ((settling, (refl, (refl, omega arith))), caused_40)

caused_42 : EachEvent (HasCause header outside) past_42
caused_42 = ((settling, (record { access = 1; taken = refl; unanswered = refl }, refl, inl refl)), caused_41)

caused_43 : EachEvent (HasCause header outside) past_43
caused_43 = ((settling, (refl, (refl, omega arith))), caused_42)

caused_44 : EachEvent (HasCause header outside) past_44
caused_44 = (
  (
    settling,
    ByError (record {
      access = Loading 0 1;
      waits = record { waits = refl; at = record { host = 0; entry = own; lives = refl; found = refl }; left = tt };
      error = refl;
      place = record { top = 1; top_page = 0; steps = 0; is_top = record { object = refl; page = refl }; leads = (refl, refl) };
    }),
  ),
  caused_43,
)

caused_45 : EachEvent (HasCause header outside) past_45
caused_45 = ((settling, tt), caused_44)

caused_46 : EachEvent (HasCause header outside) past_46
caused_46 = ((settling, refl), caused_45)

caused_47 : EachEvent (HasCause header outside) past_47
caused_47 = (
  (
    settling,
    record {
      task = 0;
      access = Loading 64 2;
      waits = record { waits = refl; at = record { host = 0; entry = mapped; lives = refl; found = refl }; left = tt };
      on_host = refl;
      unmarked = λ store. refl;
      comes = record { top = 0; top_page = 0; steps = 0; is_top = record { object = refl; page = refl }; walks = (refl, refl) };
      number = refl;
      live = refl;
      ready = refl;
      away = refl;
      unasked = refl;
      known = refl;
    },
  ),
  caused_46,
)

caused_48 : EachEvent (HasCause header outside) past_48
caused_48 = ((settling, tt), caused_47)

caused_49 : EachEvent (HasCause header outside) past_49
caused_49 = ((settling, (refl, (refl, omega arith))), caused_48)

caused_50 : EachEvent (HasCause header outside) past_50
caused_50 = (
  (
    settling,
    (
      record { access = 1; taken = refl; unanswered = refl },
      record { kept = refl; read = refl },
      refl,
      refl,
      λ temporary. absurd (cc),
      λ told. refl,
    ),
  ),
  caused_49,
)

caused_51 : EachEvent (HasCause header outside) past_51
caused_51 = ((settling, (refl, (refl, omega arith))), caused_50)

caused_52 : EachEvent (HasCause header outside) past_52
caused_52 = (
  (
    settling,
    record {
      address = 64;
      bytes = 2;
      waits = record {
        waits = refl;
        at = record { host = 0; entry = mapped; lives = refl; found = refl };
        left = tt;
      };
      comes = record { top = 0; top_page = 0; steps = 0; is_top = record { object = refl; page = refl }; walks = (refl, refl) };
      here = refl;
    },
  ),
  caused_51,
)

own_15 : OwnBytes header (event.Loaded (record { 0 = 0 }) (record { 0 = 0 }) (record { 0 = 0 }) 1284) past_14
own_15 =
    record {
      address = 64;
      bytes = 2;
      waits = record { waits = refl; at = record { host = 0; entry = mapped; lives = refl; found = refl }; left = tt };
      readable = record { here = refl; unlocked = inl refl };
      number = refl;
    }

own_18 : OwnBytes header (event.Stored (record { 0 = 0 }) (record { 0 = 0 }) (record { 0 = 0 }) 0 1 9) past_17
own_18 =
    record {
      address = 64;
      waits = record { waits = refl; at = record { host = 0; entry = mapped; lives = refl; found = refl }; left = tt };
      writable = record { here = refl; unlocked = refl };
      place = refl;
    }

own_25 : OwnBytes header (event.Stored (record { 0 = 0 }) (record { 0 = 1 }) (record { 0 = 0 }) 0 1 7) past_24
own_25 =
    record {
      address = 0;
      waits = record { waits = refl; at = record { host = 0; entry = own; lives = refl; found = refl }; left = tt };
      writable = record { here = refl; unlocked = refl };
      place = refl;
    }

own_52 : OwnBytes header (event.Loaded (record { 0 = 0 }) (record { 0 = 0 }) (record { 0 = 0 }) 1289) past_51
own_52 =
    record {
      address = 64;
      bytes = 2;
      waits = record { waits = refl; at = record { host = 0; entry = mapped; lives = refl; found = refl }; left = tt };
      readable = record { here = refl; unlocked = inl refl };
      number = refl;
    }

own_bytes : EachEvent (OwnBytes header) past_52
own_bytes = (
  own_52,
  (
    tt,
    (
      tt,
      (
        tt,
        (
          tt,
          (
            tt,
            (
              tt,
              (
                tt,
                (
                  tt,
                  (
                    tt,
                    (
                      tt,
                      (
                        tt,
                        (
                          tt,
                          (
                            tt,
                            (
                              tt,
                              (
                                tt,
                                (
                                  tt,
                                  (
                                    tt,
                                    (
                                      tt,
                                      (
                                        tt,
                                        (
                                          tt,
                                          (
                                            tt,
                                            (
                                              tt,
                                              (
                                                tt,
                                                (
                                                  tt,
                                                  (
                                                    tt,
                                                    (
                                                      tt,
                                                      (
                                                        own_25,
                                                        (
                                                          tt,
                                                          (
                                                            tt,
                                                            (
                                                              tt,
                                                              (
                                                                tt,
                                                                (
                                                                  tt,
                                                                  (
                                                                    tt,
                                                                    (
                                                                      own_18,
                                                                      (
                                                                        tt,
                                                                        (
                                                                          tt,
                                                                          (
                                                                            own_15,
                                                                            (
                                                                              tt,
                                                                              (
                                                                                tt,
                                                                                (
                                                                                  tt,
                                                                                  (
                                                                                    tt,
                                                                                    (tt, (tt, (tt, (tt, (tt, (tt, (tt, (tt, (tt, (tt, (tt, tt))))))))))),
                                                                                  ),
                                                                                ),
                                                                              ),
                                                                            ),
                                                                          ),
                                                                        ),
                                                                      ),
                                                                    ),
                                                                  ),
                                                                ),
                                                              ),
                                                            ),
                                                          ),
                                                        ),
                                                      ),
                                                    ),
                                                  ),
                                                ),
                                              ),
                                            ),
                                          ),
                                        ),
                                      ),
                                    ),
                                  ),
                                ),
                              ),
                            ),
                          ),
                        ),
                      ),
                    ),
                  ),
                ),
              ),
            ),
          ),
        ),
      ),
    ),
  ),
)

current : EachEvent (CopiesCurrent header outside) past_52
current = (
  tt,
  (
    tt,
    (
      tt,
      (
        tt,
        (
          tt,
          (
            tt,
            (
              tt,
              (
                tt,
                (
                  tt,
                  (
                    tt,
                    (
                      tt,
                      (
                        tt,
                        (
                          tt,
                          (
                            tt,
                            (
                              tt,
                              (
                                tt,
                                (
                                  tt,
                                  (
                                    tt,
                                    (
                                      tt,
                                      (
                                        tt,
                                        (
                                          tt,
                                          (
                                            tt,
                                            (
                                              tt,
                                              (
                                                tt,
                                                (
                                                  tt,
                                                  (
                                                    tt,
                                                    (
                                                      tt,
                                                      (
                                                        tt,
                                                        (
                                                          tt,
                                                          (
                                                            tt,
                                                            (
                                                              tt,
                                                              (
                                                                tt,
                                                                (
                                                                  tt,
                                                                  (
                                                                    tt,
                                                                    (
                                                                      tt,
                                                                      (
                                                                        tt,
                                                                        (
                                                                          tt,
                                                                          (
                                                                            tt,
                                                                            (
                                                                              tt,
                                                                              (
                                                                                tt,
                                                                                (
                                                                                  tt,
                                                                                  (tt, (tt, (tt, (tt, (tt, (tt, (tt, (tt, (tt, (tt, (tt, (tt, tt)))))))))))),
                                                                                ),
                                                                              ),
                                                                            ),
                                                                          ),
                                                                        ),
                                                                      ),
                                                                    ),
                                                                  ),
                                                                ),
                                                              ),
                                                            ),
                                                          ),
                                                        ),
                                                      ),
                                                    ),
                                                  ),
                                                ),
                                              ),
                                            ),
                                          ),
                                        ),
                                      ),
                                    ),
                                  ),
                                ),
                              ),
                            ),
                          ),
                        ),
                      ),
                    ),
                  ),
                ),
              ),
            ),
          ),
        ),
      ),
    ),
  ),
)

unshared : NoneIsShared header
unshared = none_shared header (λ o below. let first : 0 ≡ o = omega (arith, below) in subst (λ (z : ℕ). is_shared header z ≡ false) first refl)

pub answered : EachEvent (FlatBytes header outside) past_52
answered = answers header outside past_52 caused_52 own_bytes current (loads_unshared header outside past_52 unshared)
