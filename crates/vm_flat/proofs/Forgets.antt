-- Each event of the history in which a file forgets has its cause, and the load answers what its host has; but the last supply isn't what its pager has.
use Rattle.std.proofs.Common.{inl, inr, ℕ, ◌≡◌, List, true, false, Some, refl, sym, arith}
use Rattle.vm_base.specs.declared.entry.Entry.{Entry}
use Rattle.vm_base.specs.declared.ids.Inherit.TheVariants.{Share}
use Rattle.vm_model.specs.declared.command.Command.{Command}
use Rattle.vm_model.specs.declared.command.Command.TheVariants as command
use Rattle.vm_model.specs.Moments.{EachEvent}
use Rattle.vm_model.specs.Waiting.{Loading, Storing}
use Rattle.vm_legal.specs.Bytes.{OwnBytes}
use Rattle.vm_legal.specs.Licences.{HasCause, Reclaimed}
use Rattle.vm_legal.specs.Pagers.{last_return}
use Rattle.vm_flat.specs.Forgets.{asked, header, history, mapped, outside, seven, zero_page}
use Rattle.vm_flat.specs.Told.{AnswersTold}
use Rattle.vm_flat.proofs.Bottom.{no_copy}

never : {A : Type 0} → false ≡ true → A
never is = absurd (let bad : false ≡ true = is in cc)

abbrev entry : Entry
entry = record { address = 0; bytes = 16; region = mapped; offset = 0; prot = record { read = true; write = true }; inherit = Share }

abbrev settling : Command
settling = command.Settle 9

abbrev paging : Command
paging = command.Pageout (record { 0 = 0 }) 1

pub forgets_causes : EachEvent (HasCause header outside) history
forgets_causes = (
  (
    settling,
    record {
      address = 0;
      bytes = 1;
      waits = record {
        waits = refl;
        at = record { host = 0; entry = entry; lives = refl; found = refl };
        left = tt;
      };
      comes = record { top = 0; top_page = 0; steps = 0; is_top = record { object = refl; page = refl }; walks = (refl, refl) };
      here = refl;
    },
  ),
  (
    (settling, (refl, (refl, omega arith))),
    (
      (
        settling,
        (
          record { access = 1; taken = refl; unanswered = refl },
          record { kept = refl; read = refl },
          refl,
          refl,
          λ temporary. never (sym temporary),
          λ told. never told,
        ),
      ),
      (
        (settling, (refl, (refl, omega arith))),
        (
          (settling, tt),
          (
            (
              settling,
              record {
                task = 0;
                access = Loading 0 1;
                waits = record { waits = refl; at = record { host = 0; entry = entry; lives = refl; found = refl }; left = tt };
                on_host = refl;
                unmarked = λ store. refl;
                comes = record { top = 0; top_page = 0; steps = 0; is_top = record { object = refl; page = refl }; walks = (refl, refl) };
                number = refl;
                live = refl;
                ready = refl;
                away = refl;
                unasked = refl;
                known = refl;
              },
            ),
            (
              (settling, refl),
              (
                (settling, tt),
                (
                  (settling, (refl, (refl, omega arith))),
                  (
                    (settling, tt),
                    (
                      (
                        paging,
                        record {
                          live = refl;
                          here = refl;
                          due = refl;
                          same = refl;
                          flag = refl;
                          why = Reclaimed refl (record { spared = λ w. never w.unlocking; may = inl (refl, omega arith, tt) });
                        },
                      ),
                      (
                        (settling, tt),
                        (
                          (
                            settling,
                            record {
                              address = 0;
                              waits = record { waits = refl; at = record { host = 0; entry = entry; lives = refl; found = refl }; left = tt };
                              is_top = record { object = refl; page = refl };
                              unmarked = refl;
                              here = refl;
                              place = refl;
                              paid = λ copy owes. no_copy copy owes.newest;
                            },
                          ),
                          (
                            (settling, (refl, (refl, omega arith))),
                            (
                              (
                                settling,
                                (
                                  record { access = 3; taken = refl; unanswered = refl },
                                  record { kept = refl; read = refl },
                                  refl,
                                  refl,
                                  λ temporary. never (sym temporary),
                                  λ told. never told,
                                ),
                              ),
                              (
                                (settling, (refl, (refl, omega arith))),
                                (
                                  (
                                    settling,
                                    record {
                                      task = 0;
                                      access = Storing 0 1 7;
                                      waits = record { waits = refl; at = record { host = 0; entry = entry; lives = refl; found = refl }; left = tt };
                                      on_host = refl;
                                      unmarked = λ store. refl;
                                      comes = record { top = 0; top_page = 0; steps = 0; is_top = record { object = refl; page = refl }; walks = (refl, refl) };
                                      number = refl;
                                      live = refl;
                                      ready = refl;
                                      away = refl;
                                      unasked = refl;
                                      known = refl;
                                    },
                                  ),
                                  (
                                    (settling, (refl, (refl, omega arith))),
                                    (
                                      (settling, (16, refl, refl, inr (refl, refl))),
                                      (
                                        (settling, (refl, (refl, omega arith))),
                                        (
                                          (settling, tt),
                                          (
                                            (settling, refl),
                                            (
                                              (settling, tt),
                                              (
                                                (
                                                  settling,
                                                  record {
                                                    number = refl;
                                                    sized = refl;
                                                    declared = omega arith;
                                                    none = refl;
                                                    task = 0;
                                                    address = 0;
                                                    at = record { host = 0; entry = entry; lives = refl; found = refl };
                                                    on_host = refl;
                                                    region = refl;
                                                  },
                                                ),
                                                (
                                                  (
                                                    settling,
                                                    record {
                                                      idle = refl;
                                                      host = 0;
                                                      lives = refl;
                                                      whole = refl;
                                                      inside = omega arith;
                                                      made = omega arith;
                                                      used = λ above. refl;
                                                      file = λ is. refl;
                                                      unfilled = refl;
                                                    },
                                                  ),
                                                  ((settling, tt), ((settling, tt), ((settling, tt), tt))),
                                                ),
                                              ),
                                            ),
                                          ),
                                        ),
                                      ),
                                    ),
                                  ),
                                ),
                              ),
                            ),
                          ),
                        ),
                      ),
                    ),
                  ),
                ),
              ),
            ),
          ),
        ),
      ),
    ),
  ),
)

pub forgets_own : EachEvent (OwnBytes header) history
forgets_own = (
  record {
    address = 0;
    bytes = 1;
    waits = record { waits = refl; at = record { host = 0; entry = entry; lives = refl; found = refl }; left = tt };
    readable = record { here = refl; unlocked = inl refl };
    number = refl;
  },
  (
    tt,
    (
      tt,
      (
        tt,
        (
          tt,
          (
            tt,
            (
              tt,
              (
                tt,
                (
                  tt,
                  (
                    tt,
                    (
                      tt,
                      (
                        tt,
                        (
                          record {
                            address = 0;
                            waits = record { waits = refl; at = record { host = 0; entry = entry; lives = refl; found = refl }; left = tt };
                            writable = record { here = refl; unlocked = refl };
                            place = refl;
                          },
                          (tt, (tt, (tt, (tt, (tt, (tt, (tt, (tt, (tt, (tt, (tt, (tt, (tt, (tt, (tt, tt))))))))))))))),
                        ),
                      ),
                    ),
                  ),
                ),
              ),
            ),
          ),
        ),
      ),
    ),
  ),
)

pub forgets_returned : last_return 0 0 0 asked ≡ Some seven
forgets_returned = refl

-- zeros are no 7
pub forgets_untold : (pages : ℕ → ℕ → List ℕ) → EachEvent (AnswersTold header pages) history → ⊥
forgets_untold pages told = by (told.1.1.0 refl)
  where
    by : Some seven ≡ Some zero_page → ⊥
    by is = absurd (cc)
