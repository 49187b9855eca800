-- A store on a page of a file that was copied waits until the copy has the page.
use Rattle.std.proofs.Common.{Some, false, refl, subst, sym, true, ℕ, ◌∷◌, ◌≡◌}
use Rattle.vm_base.specs.declared.entry.Entry.{Entry}
use Rattle.vm_base.specs.declared.ids.Inherit.TheVariants.{Share}
use Rattle.vm_model.specs.declared.command.Command.{Command}
use Rattle.vm_model.specs.Waiting.{Storing}
use Rattle.vm_legal.specs.Accesses.{At, Waits}
use Rattle.vm_legal.specs.Licences.{Caused, Pushing, Stores}
use Rattle.vm_legal.specs.Outside.{Outside}
use Rattle.vm_legal.specs.Pushes.{OwesPush, is_pushed}
use Rattle.vm_worked.specs.Beside.{both, region}
use Rattle.vm_worked.specs.Pushed.{header, history, push, store}

abbrev entry : Entry
entry = record { address = 0; bytes = 16; region = region 0; offset = 0; prot = both; inherit = Share }

abbrev at : At header 0 0 history
at = record { host = 0; entry = entry; lives = refl; found = refl }

abbrev waits : Waits header 0 (Storing 0 1 90) history
waits = record { waits = refl; at = at; left = tt }

owes : OwesPush header 0 0 0 1 history
owes = record { file = refl; newest = refl; lives = (1, 0, refl, refl); unpushed = refl }

pub pushed : (outside : Outside) (doing : Command) → Caused header outside doing push history
pushed outside doing =
    Pushing (record {
      task = 0;
      address = 0;
      bytes = 1;
      value = 90;
      waits = waits;
      on_host = refl;
      unmarked = refl;
      is_top = record { object = refl; page = refl };
      here = refl;
      owes = owes;
      same_page = refl;
      away = refl;
      unasked = refl;
    })

some_is : (a b : ℕ) → Some a ≡ Some b → a ≡ b
some_is a b is = cc

at_home : (stores : Stores header 0 0 0 0 1 90 history) → 0 ≡ stores.waits.at.host
at_home stores = some_is 0 stores.waits.at.host stores.waits.at.lives

pub unpaid : (outside : Outside) (doing : Command) → Caused header outside doing store history → ⊥
unpaid outside doing stores = stores.paid 1 (subst (λ (h : ℕ). OwesPush header h 0 0 1 history) (at_home stores) owes)

abbrev at_then : At header 0 0 (push ∷ history)
at_then = record { host = 0; entry = entry; lives = refl; found = refl }

abbrev waits_then : Waits header 0 (Storing 0 1 90) (push ∷ history)
waits_then = record { waits = refl; at = at_then; left = tt }

never : true ≡ false → ⊥
never bad = cc

none_owed : (copy : ℕ) → OwesPush header 0 0 0 copy (push ∷ history) → ⊥
none_owed copy owed = never (subst (λ (c : ℕ). is_pushed 0 c 0 (push ∷ history) ≡ false) (sym (some_is 1 copy owed.newest)) owed.unpushed)

pub paid : (outside : Outside) (doing : Command) → Caused header outside doing store (push ∷ history)
paid outside doing =
    record {
      address = 0;
      waits = waits_then;
      is_top = record { object = refl; page = refl };
      unmarked = refl;
      here = refl;
      place = refl;
      paid = none_owed;
    }
