use Rattle.std.proofs.lemmas.Result.{on_ok_weaker}
use Rattle.vm_terminate.specs.Steps.{finish_state}
use Rattle.vm_terminate.proofs.destroying.destroy.Goals as goal

pub returns-clause-destroys : goal.returns-clause-destroys
returns-clause-destroys c =
    on_ok_weaker c.end_control.result (λ ends. rw (← c.in-Some.ensures) (λ chains copies held room.
    let cancels = c.cancel_pages.ensures.cancels chains copies held room c.drop_pages.new.log.items in
    record {
      bare = finish_state c.drop_pages.new.parts chains copies held room c.drop_pages.new.log.items;
      clear = finish_state c.cancel_pages.new.parts chains copies held room c.drop_pages.new.log.items;
      asked = cancels.0;
      drops = c.in_ok-drop_pages.ensures.drops chains copies held room;
      cancels = cancels.1;
      ends = ends chains copies held room;
    })) c.end_control.ensures.ends
