-- The worked history meets the premises, and its load waits.
use Rattle.std.proofs.Common.{Bool, List, None, Option, Some, [], arith, false, inr, refl, subst, sym, true, ℕ, ◌∙◌, ◌≡◌}
use Rattle.std.proofs.lemmas.Bool.Decides.{nat_tests}
use Rattle.std.specs.Prelude.{◌==◌, if◌then◌else◌}
use Rattle.vm_base.specs.declared.ids.Inherit.TheVariants.{Copy}
use Rattle.vm_model.specs.declared.command.Command.TheVariants as command
use Rattle.vm_model.specs.declared.event.Event.{Event}
use Rattle.vm_model.specs.Moments.{BeforeSteps, EachEvent}
use Rattle.vm_model.specs.Waiting.{Access, Loading}
use Rattle.vm_legal.specs.Accesses.{Waits}
use Rattle.vm_legal.specs.Debts.{IsPaid}
use Rattle.vm_legal.specs.Licences.{HasCause, owed}
use Rattle.vm_legal.specs.Prompt.{EachLeads, NoneInVain, Prompt}
use Rattle.vm_legal.specs.Steps.{absence_taken, error_taken, taken_letter}
use Rattle.vm_legal.specs.Undelivered.{undelivered}
use Rattle.vm_quiet.specs.Full.{header, history, outside, region}
use Rattle.vm_quiet.specs.Places.{AllPaged}
use Rattle.vm_legal.proofs.Locks.{no_change, no_request, none_changed, none_destroyed, none_locked}
use Rattle.vm_quiet.proofs.Letters.{never}
use Rattle.std.proofs.lemmas.Option.{none-some}

pub full_paged : AllPaged header
full_paged o below = absurd (omega (arith, below))

-- a step that took nothing owes nothing
idle : (past : List Event) → owed past ≡ None → taken_letter past ≡ None → error_taken header past ≡ None → absence_taken header past ≡ None
    → IsPaid header past
idle past made took failed lacked =
    record {
      none_owed = made;
      init = λ h o k size ours is. absurd (cc);
      create = λ h o k size ours is. absurd (cc);
      request = λ h o k p access ours is. absurd (cc);
      error = λ h o p is. absurd (cc);
      absence = λ h o p ours is. absurd (cc);
      lock = λ request is. no_request request past (none_locked past took) is;
      change = λ request is wanted. no_change request past (none_changed past took) is;
      destroy = λ h o tame is. absurd (none-some _ (sym (none_destroyed past took) ∙ is));
      slot = λ h o k p dirty keep bytes ours is lacks. absurd (cc);
    }

pub full_paid : IsPaid header history
full_paid = idle history refl refl refl refl

pub full_steps : BeforeSteps (IsPaid header) history
full_steps = (idle _ refl refl refl refl, (idle _ refl refl refl refl, (idle _ refl refl refl refl, (idle _ refl refl refl refl, tt))))

pub full_causes : EachEvent (HasCause header outside) history
full_causes = (
  (command.Settle 0, refl),
  (
    (command.Settle 0, tt),
    (
      (command.Settle 0, tt),
      (
        (command.Settle 0, tt),
        (
          (
            command.Settle 0,
            record {
              idle = refl;
              host = 0;
              lives = refl;
              whole = refl;
              inside = omega arith;
              made = omega arith;
              used = λ is. refl;
              file = λ is. never is;
              unfilled = refl;
            },
          ),
          ((command.Settle 0, (refl, refl)), ((command.Settle 0, tt), ((command.Settle 0, tt), ((command.Settle 0, tt), tt)))),
        ),
      ),
    ),
  ),
)

pub full_waits : Waits header 0 (Loading 0 1) history
full_waits =
    record {
      waits = refl;
      at =
          record {
            host = 0;
            entry = record {
              address = 0;
              bytes = 16;
              region = region;
              offset = 0;
              prot = record { read = true; write = true };
              inherit = Copy;
            };
            lives = refl;
            found = refl;
          };
      left = tt;
    }

-- the load is the only access that waits
full_leads : EachLeads header 0 history
full_leads t access is lives = by (0 == t) refl is
  where
    number_is : (a b : ℕ) → (a == b) ≡ true → a ≡ b
    number_is a b is = grind (arith, nat_tests)

    by : (b : Bool) → (0 == t) ≡ b → (if b then Some (Loading 0 1) else (if b then None else None)) ≡ Some access → Waits header t access history
    by true first e =
        let same : Loading 0 1 ≡ access = cc in
        subst (λ (k : ℕ). Waits header k access history) (number_is 0 t first) (subst (λ (a : Access). Waits header 0 a history) same full_waits)
    by false other e = absurd (let bad : ◌≡◌ {A = Option Access} None (Some access) = e in cc)

full_none : NoneInVain header 0 history
full_none t access waits on = inr (record { none = refl; why = inr (record { spare = None; source = tt; held = λ o p is. never is }) })

pub full_prompt : Prompt header history
full_prompt h below =
    record {
      leads = let first : 0 ≡ h = omega (arith, below) in subst (λ (k : ℕ). EachLeads header k history) first full_leads;
      waits = let first : 0 ≡ h = omega (arith, below) in subst (λ (k : ℕ). NoneInVain header k history) first full_none;
      swept =
          record {
            pages = λ o p ours unreached. refl;
            controls = λ o ours unreached. refl;
            declared_pages = λ o p ours unheld. refl;
            declared_controls = λ o ours unheld. refl;
          };
      thin = λ upper lower pair. never pair.backed;
    }

pub full_delivered : undelivered history ≡ []
full_delivered = refl
