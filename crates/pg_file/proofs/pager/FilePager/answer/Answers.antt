use Rattle.std.proofs.Common.{refl, rules}
use Rattle.pg_file.proofs.Calls.{request_made, return_made}
use Rattle.pg_file.proofs.Leaving.{areas_written, found_cause, replies, same_areas, stored_cause}
use Rattle.pg_file.proofs.pager.FilePager.answer.Goals as goal
use Rattle.pg_file.proofs.pager.FilePager.answer.Goals.{in-Init+in_ok-push-in-Init, in-Create+in_ok-push-in-Create}
use Rattle.pg_file.proofs.pager.FilePager.answer.Goals.{in-Request+in_ok-found-in-Request+in_ok-tell_found-in-Request}
use Rattle.pg_file.proofs.pager.FilePager.answer.Goals.{in-Return+in_ok-stored-in-Return+in_ok-tell_stored-in-Return, in-Terminate, in-Unlock, in-Completed}
use Rattle.pg_file.proofs.pager.FilePager.answer.Goals.{in-Changed}

pub returns-clause-reply : goal.returns-clause-reply
returns-clause-reply g c = elim c.match-message.branch [
  | in-Init+in_ok-push-in-Init w ↦ rw w.in-Init.is tt
  | in-Create+in_ok-push-in-Create w ↦ rw w.in-Create.is tt
  | in-Request+in_ok-found-in-Request+in_ok-tell_found-in-Request w ↦ rw (w.in-Request.is, w.events-is, ← c.self.view_is)
      (replies _ c.args.host.0 c.self.inside.object.0 w.in-Request.control w.in-Request.page _ w.in_ok-tell_found-in-Request.ensures.told)
  | in-Return+in_ok-stored-in-Return+in_ok-tell_stored-in-Return w ↦ rw w.in-Return.is tt
  | in-Terminate w ↦ rw w.in-Terminate.is tt
  | in-Unlock w ↦ rw w.in-Unlock.is tt
  | in-Completed w ↦ rw w.in-Completed.is tt
  | in-Changed w ↦ rw w.in-Changed.is tt
]

pub returns-clause-told : goal.returns-clause-told
returns-clause-told g c = elim c.match-message.branch [
  | in-Init+in_ok-push-in-Init w ↦ rw (w.in-Init.is, w.files-is) (same_areas _)
  | in-Create+in_ok-push-in-Create w ↦ rw (w.in-Create.is, w.files-is) (same_areas _)
  | in-Request+in_ok-found-in-Request+in_ok-tell_found-in-Request w ↦ rw (w.in-Request.is, w.files-is) w.look.ensures.told
  | in-Return+in_ok-stored-in-Return+in_ok-tell_stored-in-Return w ↦
      rw (w.in-Return.is, w.files-is, w.events-is) (areas_written _ _ w.in_ok-stored-in-Return.stored c.args.self.now.name w.in-Return.hex
      w.self-in-Return.inside.object.0 c.args.self.now.size w.in-Return.page _ w.in_ok-tell_stored-in-Return.ensures.told
      w.in_ok-stored-in-Return.ensures.told)
  | in-Terminate w ↦ rw (w.in-Terminate.is, w.files-is) (same_areas _)
  | in-Unlock w ↦ rw (w.in-Unlock.is, w.files-is) (same_areas _)
  | in-Completed w ↦ rw (w.in-Completed.is, w.files-is) (same_areas _)
  | in-Changed w ↦ rw (w.in-Changed.is, w.files-is) (same_areas _)
]

pub returns-clause-cause : goal.returns-clause-cause
returns-clause-cause g c = elim c.match-message.branch [
  | in-Init+in_ok-push-in-Init w ↦ rw (w.files-is, w.events-is) (search rules)
  | in-Create+in_ok-push-in-Create w ↦ rw (w.files-is, w.events-is) (search rules)
  | in-Request+in_ok-found-in-Request+in_ok-tell_found-in-Request w ↦ rw (w.files-is, w.events-is)
      (found_cause _ _ _ _ _ _ _ _ w.in_ok-tell_found-in-Request.ensures.told w.in_ok-found-in-Request.ensures.cause)
  | in-Return+in_ok-stored-in-Return+in_ok-tell_stored-in-Return w ↦ rw (w.files-is, w.events-is)
      (stored_cause _ _ _ _ _ _ w.in_ok-tell_stored-in-Return.ensures.told w.in_ok-stored-in-Return.ensures.cause)
  | in-Terminate w ↦ rw (w.files-is, w.events-is) (search rules)
  | in-Unlock w ↦ rw (w.files-is, w.events-is) (search rules)
  | in-Completed w ↦ rw (w.files-is, w.events-is) (search rules)
  | in-Changed w ↦ rw (w.files-is, w.events-is) (search rules)
]

pub returns-clause-calls : goal.returns-clause-calls
returns-clause-calls g c = elim c.match-message.branch [
  | in-Init+in_ok-push-in-Init w ↦ rw (w.in-Init.is, w.files-is) refl
  | in-Create+in_ok-push-in-Create w ↦ rw (w.in-Create.is, w.files-is) refl
  | in-Request+in_ok-found-in-Request+in_ok-tell_found-in-Request w ↦
      rw (w.in-Request.is, w.files-is, w.events-is) (request_made g.F.Backing.called _ _ _ _ _ _ _ w.in-Request.page _ _ _
      w.in_ok-tell_found-in-Request.ensures.told w.in_ok-found-in-Request.ensures.calls)
  | in-Return+in_ok-stored-in-Return+in_ok-tell_stored-in-Return w ↦
      rw (w.in-Return.is, w.files-is, w.events-is) (return_made g.F.Backing.called _ _ w.in-Return.hex w.in_ok-stored-in-Return.stored _ w.in-Return.page _ _ _
      w.in_ok-tell_stored-in-Return.ensures.told w.in_ok-stored-in-Return.ensures.calls)
  | in-Terminate w ↦ rw (w.in-Terminate.is, w.files-is) refl
  | in-Unlock w ↦ rw (w.in-Unlock.is, w.files-is) refl
  | in-Completed w ↦ rw (w.in-Completed.is, w.files-is) refl
  | in-Changed w ↦ rw (w.in-Changed.is, w.files-is) refl
]
