-- An access sleeps beside its page, on a host with six free frames.
use Rattle.std.proofs.Common.{List, false, true, ◌≡◌, arith, refl}
use Rattle.vm_base.specs.declared.entry.Entry.{Entry}
use Rattle.vm_base.specs.declared.ids.Inherit.TheVariants.{Copy}
use Rattle.vm_model.specs.declared.command.Numbered.{Numbered}
use Rattle.vm_model.specs.Waiting.{Loading}
use Rattle.vm_legal.specs.Accesses.{Waits}
use Rattle.vm_legal.specs.Frames.{frames_free}
use Rattle.vm_legal.specs.InTurn.{ComesToPage}
use Rattle.vm_legal.specs.Legal.{CanonicalFor}
use Rattle.vm_legal.specs.Outside.{Outside}
use Rattle.vm_legal.specs.Prompt.{AnAnswer, AtPlace, WaitsForPager}
use Rattle.vm_worked.specs.Sleeping.{both, header, history, region}

abbrev entry : Entry
entry = record { address = 0; bytes = 16; region = region 1; offset = 0; prot = both; inherit = Copy }

abbrev waits : Waits header 1 (Loading 0 1) history
waits = record { waits = refl; at = record { host = 0; entry = entry; lives = refl; found = refl }; left = tt }

pub awaits : WaitsForPager header 0 1 (Loading 0 1) history
awaits =
    record {
      waits = waits;
      on_host = refl;
      what =
          AtPlace 0 0 (record { top = 1; top_page = 0; steps = 1; is_top = record { object = refl; page = refl }; leads = (refl, (refl, refl)) })
          (AnAnswer refl);
    }

pub comes : ComesToPage header 0 1 history
comes =
    record {
      access = Loading 0 1;
      waits = waits;
      on_host = refl;
      object = 1;
      page = 0;
      comes = record { top = 1; top_page = 0; steps = 0; is_top = record { object = refl; page = refl }; walks = (refl, refl) };
      here = refl;
      let_in = refl;
      free = λ store. absurd (let bad : false ≡ true = store in cc);
      told = λ other other_page place copy. absurd (let bad : false ≡ true = copy in cc);
    }

pub free : frames_free header 0 history ≡ 6
free = refl

pub sleeps : (outside : Outside) (commands : List Numbered) → CanonicalFor header outside commands history → ⊥
sleeps outside commands canonical = absurd (let bad : 6 ≡ 0 = canonical.last.awake 0 (omega arith) 1 comes in cc)
