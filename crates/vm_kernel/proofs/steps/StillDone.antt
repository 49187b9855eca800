-- What a command owes is still done when its step goes on.
use Rattle.vm_kernel.proofs.Common.{AllInner, Command, Event, Header, IsDoneInTurn, List, [], ap, append_assoc, false, kernel_runs, sym, true, ◌++◌, ◌∙◌, ◌∷◌}
use Rattle.vm_kernel.proofs.Common.{◌≡◌}
use Rattle.vm_model.specs.declared.event.Event.TheVariants as event
use Rattle.vm_model.specs.declared.command.Command.TheVariants as command
use Rattle.vm_kernel.proofs.steps.FoundPageEnds.{goes_more}

pub done_more : (header : Header) (doing : Command) (past events more : List Event) → kernel_runs doing ≡ true → AllInner more
    → IsDoneInTurn header doing events past → IsDoneInTurn header doing (more ++ events) past
done_more header (command.Pageout host count) past events more built inner done =
    record {
      later = more ++ done.later;
      front = done.front;
      is = ap (λ (z : List Event). more ++ z) done.is ∙ sym (append_assoc more done.later done.front);
      reclaims = done.reclaims;
      enough = done.enough;
    }
done_more header (command.Load task address size) past events more built inner done =
    goes_more header task.0 past (event.BegunLoad task address size ∷ []) events more done
done_more header (command.Store task address size value) past events more built inner done =
    goes_more header task.0 past (event.BegunStore task address size value ∷ []) events more done
done_more header (command.Settle count) past events more built inner done = absurd (let bad : false ≡ true = built in cc)
done_more header other past events more built inner done = tt
