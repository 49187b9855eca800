-- The worked history of a wild object meets the premises, and its two loads wait for the object's pager.
use Rattle.std.proofs.Common.{inl, ℕ, ◌≡◌, ◌∙◌, ◌≤◌, List, [], Bool, true, false, refl, ap, sym, subst, arith, Option, Some, None}
use Rattle.std.proofs.lemmas.Bool.Decides.{nat_tests}
use Rattle.std.specs.Prelude.{◌==◌, ◌<◌, ◌≢◌, if◌then◌else◌}
use Rattle.vm_base.specs.declared.entry.Entry.{Entry}
use Rattle.vm_base.specs.declared.ids.Inherit.TheVariants.{Share}
use Rattle.vm_base.specs.declared.ids.ObjectKind.TheVariants.{Temp, Wild}
use Rattle.vm_model.specs.declared.command.Command.{Command}
use Rattle.vm_model.specs.declared.command.Command.TheVariants as command
use Rattle.vm_model.specs.declared.event.Event.{Event}
use Rattle.vm_model.specs.declared.message.Channel.{Channel}
use Rattle.vm_model.specs.declared.message.Channel.TheVariants.{Up, Down}
use Rattle.vm_model.specs.declared.message.Message.TheVariants as message
use Rattle.vm_model.specs.Moments.{BeforeSteps, EachEvent}
use Rattle.vm_model.specs.Tasks.{host_of}
use Rattle.vm_model.specs.Waiting.{Access, Loading, waiting}
use Rattle.vm_legal.specs.Accesses.{Waits}
use Rattle.vm_legal.specs.Cached.{attributes_taken}
use Rattle.vm_legal.specs.Debts.{IsPaid}
use Rattle.vm_legal.specs.Licences.{HasCause, is_paged, lock_taken, owed}
use Rattle.vm_legal.specs.Outside.{NoneIsTemporary, is_shared, is_wild, kind_of}
use Rattle.vm_legal.specs.Prompt.{AnAnswer, AtPlace, AReady, EachLeads, NoneInVain, Prompt, WaitsForPager}
use Rattle.vm_legal.specs.Swept.{IsSwept, IsUnheld}
use Rattle.vm_legal.specs.Steps.{Letter, absence_taken, error_taken, taken_letter}
use Rattle.vm_legal.specs.Undelivered.{undelivered}
use Rattle.vm_legal.proofs.Locks.{no_change, no_request}
use Rattle.vm_legal.proofs.Unshared.{NoneIsShared, none_shared}
use Rattle.vm_quiet.specs.Quiet.{SharedAreAnswered}
use Rattle.vm_quiet.specs.Unanswered.{both, header, history, object, outside, region}
use Rattle.vm_quiet.proofs.Letters.{never}
use Rattle.vm_legal.specs.Destroyed.{destroy_taken}
use Rattle.std.proofs.lemmas.Option.{none-some}

pub wild_kinds : NoneIsTemporary header
wild_kinds o below = let first : 0 ≡ o = omega (arith, below) in subst (λ k. kind_of header k ≢ Temp) first (λ is. absurd (let bad : Wild ≡ Temp = is in cc))

none_is_shared : NoneIsShared header
none_is_shared = none_shared header (λ o below. let first : 0 ≡ o = omega (arith, below) in subst (λ k. is_shared header k ≡ false) first refl)

pub wild_answered : SharedAreAnswered header history
wild_answered =
    record { asked = λ h o p shared. never (sym (none_is_shared o) ∙ shared); unlocking = λ h o p shared here. never (sym (none_is_shared o) ∙ shared) }

-- what steps owe: a wild object's pager answers nothing

abbrev channel_object : Channel → ℕ
channel_object (Up at on) = on.0
channel_object (Down at on control) = on.0

abbrev letter_object : Option Letter → ℕ
letter_object None = 0
letter_object (Some letter) = channel_object letter.channel

paid : (past : List Event) → owed past ≡ None → letter_object (taken_letter past) ≡ 0 → error_taken header past ≡ None
    → absence_taken header past ≡ None → lock_taken past ≡ None → attributes_taken past ≡ None → destroy_taken past ≡ None → IsPaid header past
paid past made took failed lacked locked unchanged kept =
    record {
      none_owed = made;
      init = λ h o k size tame is. never (sym tame ∙ sym (ap (is_wild header) (sym took ∙ ap letter_object is)));
      create = λ h o k size tame is. never (sym tame ∙ sym (ap (is_wild header) (sym took ∙ ap letter_object is)));
      request = λ h o k p access ours is. never (ap (is_paged header) (sym took ∙ ap letter_object is) ∙ ours);
      error = λ h o p is. absurd (cc);
      absence = λ h o p ours is. absurd (cc);
      lock = λ request is. no_request request past locked is;
      change = λ request is wanted. no_change request past unchanged is;
      destroy = λ h o tame is. absurd (none-some _ (sym kept ∙ is));
      slot = λ h o k p dirty keep bytes later is lacks. (let first : 0 ≡ o = sym took ∙ ap letter_object is in absurd (omega (arith, first, later)));
    }

pub wild_paid : IsPaid header history
wild_paid = paid history refl refl refl refl refl refl refl

pub wild_steps : BeforeSteps (IsPaid header) history
wild_steps = (
  paid _ refl refl refl refl refl refl refl,
  (
    paid _ refl refl refl refl refl refl refl,
    (
      paid _ refl refl refl refl refl refl refl,
      (
        paid _ refl refl refl refl refl refl refl,
        (
          paid _ refl refl refl refl refl refl refl,
          (
            paid _ refl refl refl refl refl refl refl,
            (
              paid _ refl refl refl refl refl refl refl,
              (
                paid _ refl refl refl refl refl refl refl,
                (
                  paid _ refl refl refl refl refl refl refl,
                  (paid _ refl refl refl refl refl refl refl, (paid _ refl refl refl refl refl refl refl, (paid _ refl refl refl refl refl refl refl, tt))),
                ),
              ),
            ),
          ),
        ),
      ),
    ),
  ),
)

-- causes

abbrev settling : Command
settling = command.Settle 99

abbrev mapped : Entry
mapped = record { address = 0; bytes = 16; region = region; offset = 0; prot = both; inherit = Share }

pub wild_causes : EachEvent (HasCause header outside) history
wild_causes = (
  (settling, (refl, (refl, omega arith))),
  (
    (
      settling,
      record {
        task = 0;
        access = Loading 0 1;
        waits = record { waits = refl; at = record { host = 0; entry = mapped; lives = refl; found = refl }; left = tt };
        on_host = refl;
        unmarked = λ store. refl;
        comes = record {
          top = 0;
          top_page = 0;
          steps = 0;
          is_top = record { object = refl; page = refl };
          walks = (refl, refl);
        };
        number = refl;
        live = refl;
        ready = refl;
        away = refl;
        unasked = refl;
        known = refl;
      },
    ),
    (
      (settling, (refl, (refl, omega arith))),
      (
        (settling, (refl, (refl, omega arith))),
        (
          (settling, (refl, (refl, omega arith))),
          (
            (settling, tt),
            (
              (settling, refl),
              (
                (settling, tt),
                (
                  (settling, refl),
                  (
                    (settling, tt),
                    (
                      (command.Say (record { 0 = 0 }) object (message.Ready false 0), (refl, refl, refl, refl, refl)),
                      (
                        (settling, tt),
                        (
                          (
                            settling,
                            record {
                              number = refl;
                              sized = refl;
                              declared = omega arith;
                              none = refl;
                              task = 1;
                              address = 0;
                              at = record { host = 1; entry = mapped; lives = refl; found = refl };
                              on_host = refl;
                              region = refl;
                            },
                          ),
                          (
                            (
                              settling,
                              record {
                                idle = refl;
                                host = 1;
                                lives = refl;
                                whole = refl;
                                inside = omega arith;
                                made = omega arith;
                                used = λ above. absurd (omega (arith, above));
                                file = λ is. never is;
                                unfilled = refl;
                              },
                            ),
                            (
                              (settling, tt),
                              (
                                (
                                  settling,
                                  record {
                                    number = refl;
                                    sized = refl;
                                    declared = omega arith;
                                    none = refl;
                                    task = 0;
                                    address = 0;
                                    at = record { host = 0; entry = mapped; lives = refl; found = refl };
                                    on_host = refl;
                                    region = refl;
                                  },
                                ),
                                (
                                  (
                                    settling,
                                    record {
                                      idle = refl;
                                      host = 0;
                                      lives = refl;
                                      whole = refl;
                                      inside = omega arith;
                                      made = omega arith;
                                      used = λ above. absurd (omega (arith, above));
                                      file = λ is. never is;
                                      unfilled = refl;
                                    },
                                  ),
                                  ((settling, tt), ((settling, tt), ((settling, tt), ((settling, tt), ((settling, tt), tt))))),
                                ),
                              ),
                            ),
                          ),
                        ),
                      ),
                    ),
                  ),
                ),
              ),
            ),
          ),
        ),
      ),
    ),
  ),
)

-- both loads wait

abbrev pub wild_waits : Waits header 0 (Loading 0 1) history
wild_waits = record { waits = refl; at = record { host = 0; entry = mapped; lives = refl; found = refl }; left = tt }

abbrev pub wild_unready : Waits header 1 (Loading 0 1) history
wild_unready = record { waits = refl; at = record { host = 1; entry = mapped; lives = refl; found = refl }; left = tt }

-- task 0 for an answer on host 0, and task 1 for a ready on host 1

record Awaiting (t : ℕ) (access : Access) : Type 0 where
  host : ℕ
  lives : host_of t history ≡ Some host
  pager : WaitsForPager header host t access history

for_answer : Awaiting 0 (Loading 0 1)
for_answer = record {
  host = 0;
  lives = refl;
  pager =
      record {
        waits = wild_waits;
        on_host = refl;
        what = AtPlace 0 0 (record { top = 0; top_page = 0; steps = 0; is_top = record { object = refl; page = refl }; leads = (refl, refl) }) (AnAnswer refl);
      };
}

for_ready : Awaiting 1 (Loading 0 1)
for_ready = record {
  host = 1;
  lives = refl;
  pager =
      record {
        waits = wild_unready;
        on_host = refl;
        what =
            AtPlace 0 0 (record { top = 0; top_page = 0; steps = 0; is_top = record { object = refl; page = refl }; leads = (refl, refl) })
            (AReady 1 refl refl);
      };
}

who : (t : ℕ) (access : Access) → waiting t history ≡ Some access → Awaiting t access
who t access is = by (1 == t) (0 == t) refl refl is
  where
    number_is : (a b : ℕ) → (a == b) ≡ true → a ≡ b
    number_is a b is = grind (arith, nat_tests)

    moved : (k : ℕ) → Awaiting k (Loading 0 1) → k ≡ t → Some (Loading 0 1) ≡ Some access → Awaiting t access
    moved k awaiting number is =
        let same : Loading 0 1 ≡ access = cc in subst (λ (z : ℕ). Awaiting z access) number (subst (λ (z : Access). Awaiting k z) same awaiting)

    by : (a b : Bool) → (1 == t) ≡ a → (0 == t) ≡ b → (if a then Some (Loading 0 1) else
        (if b then Some (Loading 0 1) else (if a then None else (if b then None else None)))) ≡ Some access → Awaiting t access
    by true b second first e = moved 1 for_ready (number_is 1 t second) e
    by false true second first e = moved 0 for_answer (number_is 0 t first) e
    by false false second first e = absurd (let bad : ◌≡◌ {A = Option Access} None (Some access) = e in cc)

wild_leads : (h : ℕ) → EachLeads header h history
wild_leads h t access is lives = (who t access is).pager.waits

wild_none : (h : ℕ) → NoneInVain header h history
wild_none h t access waits on =
    let found = who t access waits.waits in inl (subst (λ (z : ℕ). WaitsForPager header z t access history)
    (same found.host waits.at.host (sym found.lives ∙ waits.at.lives) ∙ on) found.pager)
  where
    same : (a b : ℕ) → Some a ≡ Some b → a ≡ b
    same a b is = cc

-- nothing is left behind

other : (o : ℕ) → 1 ≤ o → (0 == o) ≡ false
other o later = grind (arith, nat_tests)

held : (h : ℕ) → (IsUnheld header h 0 history → ⊥) → (o : ℕ) → o < 1 → IsUnheld header h o history → ⊥
held h holds o below unheld = let first : o ≡ 0 = omega (arith, below) in holds (subst (λ (k : ℕ). IsUnheld header h k history) first unheld)

swept_0 : IsSwept header 0 history
swept_0 = record {
  pages = λ o p later unreached. rw (other o later) refl;
  controls = λ o later unreached. rw (other o later) refl;
  declared_pages = λ o p below unheld. absurd (held 0 (λ none. never (sym (none.unmapped 0 refl))) o below unheld);
  declared_controls = λ o below unheld. absurd (held 0 (λ none. never (sym (none.unmapped 0 refl))) o below unheld);
}

swept_1 : IsSwept header 1 history
swept_1 = record {
  pages = λ o p later unreached. rw (other o later) refl;
  controls = λ o later unreached. rw (other o later) refl;
  declared_pages = λ o p below unheld. absurd (held 1 (λ none. never (sym (none.unmapped 1 refl))) o below unheld);
  declared_controls = λ o below unheld. absurd (held 1 (λ none. never (sym (none.unmapped 1 refl))) o below unheld);
}

pub wild_prompt : Prompt header history
wild_prompt h below =
    record { leads = wild_leads h; waits = wild_none h; swept = by (0 == h) refl; thin = λ upper lower pair. never pair.backed }
  where
    by : (b : Bool) → (0 == h) ≡ b → IsSwept header h history
    by true first = let is : 0 ≡ h = grind (arith, nat_tests, first) in subst (λ (k : ℕ). IsSwept header k history) is swept_0
    by false apart = let is : 1 ≡ h = grind (arith, nat_tests, apart, below) in subst (λ (k : ℕ). IsSwept header k history) is swept_1

pub wild_delivered : undelivered history ≡ []
wild_delivered = refl
