-- Each event of the history with the slow copy that never ends has its cause, and yet somebody waits there in vain.
use Rattle.std.proofs.Common.{Bool, List, Some, [], ap, arith, false, if◌then◌else◌, refl, subst, sym, true, ℕ, ◌<◌, ◌==◌, ◌∙◌, ◌∷◌, ◌≡◌, ◌≤◌}
use Rattle.std.specs.Prelude.{◌/◌}
use Rattle.vm_base.specs.declared.entry.Entry.{Entry}
use Rattle.vm_base.specs.declared.ids.Inherit.TheVariants.{Share}
use Rattle.vm_model.specs.declared.command.Command.{Command}
use Rattle.vm_model.specs.declared.command.Command.TheVariants as command
use Rattle.vm_model.specs.Moments.{EachEvent}
use Rattle.vm_model.specs.PageLicences.{NobodyAwaited, OthersHold}
use Rattle.vm_model.specs.PagePart.{page_part}
use Rattle.vm_model.specs.Side.{Side, nobody, side, side_after}
use Rattle.vm_model.specs.Words.{Act, to_others}
use Rattle.vm_model.specs.Waiting.{Copying, waiting}
use Rattle.vm_legal.specs.Accesses.{Waits}
use Rattle.vm_legal.specs.Licences.{HasCause}
use Rattle.vm_legal.specs.Prompt.{Prompt}
use Rattle.vm_legal.specs.Undelivered.{undelivered}
use Rattle.vm_quiet.proofs.Letters.{never}
use Rattle.vm_quiet.specs.Unended.{demanded, header, history, mapped, outside}

abbrev entry : Entry
entry = record { address = 0; bytes = 16; region = mapped; offset = 0; prot = record { read = true; write = true }; inherit = Share }

abbrev settling : Command
settling = command.Settle 100

-- where each act is of the first host, a host is told what that one is told, or what all others are
abbrev AllFirst : List Act → Type 0
AllFirst [] = Unit {0}
AllFirst (a ∷ past) = (a.host ≡ 0) × AllFirst past

abbrev told : Bool → List Act → Side
told own [] = nobody
told own (a ∷ past) = side_after (told own past) (if own then a.effect else to_others a.effect)

is_told : (g : ℕ) (acts : List Act) → AllFirst acts → side g acts ≡ told (0 == g) acts
is_told g [] all = refl
is_told g (a ∷ past) all =
    ap (λ h. side_after (side g past) (if h == g then a.effect else to_others a.effect)) all.0
    ∙ ap (λ s. side_after s (if 0 == g then a.effect else to_others a.effect)) (is_told g past all.1)

abbrev acts : List Act
acts = page_part 16 0 0 demanded

all_first : AllFirst acts
all_first = (refl, (refl, (refl, (refl, (refl, (refl, (refl, (refl, (refl, (refl, (refl, (refl, (refl, (refl, (refl, tt)))))))))))))))

-- the server awaits nobody, and nobody else holds the page

pub nobody_awaited : NobodyAwaited acts
nobody_awaited g = ap (λ s. s.awaits) (is_told g acts all_first) ∙ by (0 == g)
  where
    by : (own : Bool) → (told own acts).awaits ≡ 0
    by true = refl
    by false = refl

pub others_hold : OthersHold 1 0 acts
others_hold g apart = subst (λ n. n ≤ 1) (sym (ap (λ s. s.holds) (is_told g acts all_first) ∙ by (0 == g))) (omega arith)
  where
    by : (own : Bool) → (told own acts).holds ≡ 0
    by true = refl
    by false = refl

pub unended_causes : EachEvent (HasCause header outside) history
unended_causes = (
  (
    settling,
    record {
      address = 0;
      bytes = 16;
      to = 32;
      waits = record { waits = refl; at = record { host = 0; entry = entry; lives = refl; found = refl }; left = omega arith };
      next = refl;
      declared = omega arith;
      supplied = refl;
      is_top = record { object = refl; page = refl };
      here = refl;
      region = 1;
      filled = refl;
      inside = omega arith;
      away = refl;
      unasked = refl;
    },
  ),
  (
    (settling, (refl, (refl, omega arith))),
    (
      (
        settling,
        (refl, refl, nobody_awaited, refl, (refl, refl, refl, others_hold)),
      ),
      (
        (settling, (refl, (refl, omega arith))),
        (
          (settling, tt),
          (
            (
              settling,
              record {
                task = 0;
                access = Copying 0 16 32;
                waits = record { waits = refl; at = record { host = 0; entry = entry; lives = refl; found = refl }; left = omega arith };
                on_host = refl;
                unmarked = λ store. refl;
                comes = record {
                  top = 0;
                  top_page = 0;
                  steps = 0;
                  is_top = record { object = refl; page = refl };
                  walks = (refl, refl);
                };
                number = refl;
                live = refl;
                ready = refl;
                away = refl;
                unasked = refl;
                known = refl;
              },
            ),
            (
              (settling, (refl, refl)),
              (
                (settling, refl),
                (
                  (settling, tt),
                  (
                    (settling, (refl, (refl, omega arith))),
                    (
                      (settling, (16, refl, refl, refl, refl)),
                      (
                        (settling, (refl, (refl, omega arith))),
                        (
                          (settling, tt),
                          (
                            (
                              settling,
                              record {
                                number = refl;
                                sized = refl;
                                declared = omega arith;
                                none = refl;
                                task = 0;
                                address = 0;
                                at = record { host = 0; entry = entry; lives = refl; found = refl };
                                on_host = refl;
                                region = refl;
                              },
                            ),
                            (
                              (
                                settling,
                                record {
                                  idle = refl;
                                  host = 0;
                                  lives = refl;
                                  whole = refl;
                                  inside = omega arith;
                                  made = omega arith;
                                  used = λ above. absurd (omega (arith, above));
                                  file = λ is. never is;
                                  unfilled = refl;
                                },
                              ),
                              ((settling, tt), ((settling, tt), ((settling, tt), tt))),
                            ),
                          ),
                        ),
                      ),
                    ),
                  ),
                ),
              ),
            ),
          ),
        ),
      ),
    ),
  ),
)

pub unended_waits : waiting 0 history ≡ Some (Copying 0 16 32)
unended_waits = refl

pub unended_delivered : undelivered history ≡ []
unended_delivered = refl

-- a task that waits has a page left, and this one has none
pub unended_unprompted : Prompt header history → ⊥
unended_unprompted prompt =
    let waits : Waits header 0 (Copying 0 16 32) history = (prompt 0 (omega arith)).leads 0 (Copying 0 16 32) refl refl in
    let left : 1 < 16 / 16 = waits.left in
    omega (arith, left)
