use Rattle.std.proofs.Common.{refl}
use Rattle.pg_default.proofs.Calls.{request_made, return_made}
use Rattle.pg_default.proofs.Leaving.{areas_put, carried_dropped, carried_put, carried_same, same_areas}
use Rattle.pg_default.proofs.pager.DefaultPager.answer.Goals as goal
use Rattle.pg_default.proofs.pager.DefaultPager.answer.Goals.{in-Init+in_ok-push-in-Init, in-Create+in_ok-push-in-Create}
use Rattle.pg_default.proofs.pager.DefaultPager.answer.Goals.{in-Request+in_ok-got-in-Request+in_ok-tell_got-in-Request}
use Rattle.pg_default.proofs.pager.DefaultPager.answer.Goals.{in-Return+in_ok-put-in-Return+in_ok-tell_put-in-Return, in-Terminate, in-Unlock, in-Completed}
use Rattle.pg_default.proofs.pager.DefaultPager.answer.Goals.{in-Changed}

pub returns-clause-fits : goal.returns-clause-fits
returns-clause-fits g c = elim c.match-message.branch [
  | in-Init+in_ok-push-in-Init w ↦ rw (w.in-Init.is, w.self-is, w.paging-is) (carried_same _ _)
  | in-Create+in_ok-push-in-Create w ↦ rw (w.in-Create.is, w.self-is, w.paging-is) (carried_same _ _)
  | in-Request+in_ok-got-in-Request+in_ok-tell_got-in-Request w ↦ rw (w.in-Request.is, w.self-is, w.paging-is, ← c.self.view_is) w.get.ensures.fits
  | in-Return+in_ok-put-in-Return+in_ok-tell_put-in-Return w ↦
      rw (
        w.in-Return.is,
        w.self-is,
        w.paging-is,
        w.events-is,
        ← c.self.view_is,
      ) (carried_put _ _ _ _ _ c.args.object w.in-Return.page w.in-Return.hex _ w.in_ok-tell_put-in-Return.ensures.told
      w.in_ok-put-in-Return.ensures.fits)
  | in-Terminate w ↦ rw (w.in-Terminate.is, w.self-is, w.paging-is, ← c.self.view_is) (carried_dropped _ _ _ _ w.drop_object.ensures.fits)
  | in-Unlock w ↦ rw (w.in-Unlock.is, w.self-is, w.paging-is) (carried_same _ _)
  | in-Completed w ↦ rw (w.in-Completed.is, w.self-is, w.paging-is) (carried_same _ _)
  | in-Changed w ↦ rw (w.in-Changed.is, w.self-is, w.paging-is) (carried_same _ _)
]

pub returns-clause-told : goal.returns-clause-told
returns-clause-told g c = elim c.match-message.branch [
  | in-Init+in_ok-push-in-Init w ↦ rw (w.in-Init.is, w.paging-is) (same_areas _)
  | in-Create+in_ok-push-in-Create w ↦ rw (w.in-Create.is, w.paging-is) (same_areas _)
  | in-Request+in_ok-got-in-Request+in_ok-tell_got-in-Request w ↦ rw (w.in-Request.is, w.paging-is) w.get.ensures.told
  | in-Return+in_ok-put-in-Return+in_ok-tell_put-in-Return w ↦
      rw (w.in-Return.is, w.self-is, w.paging-is, w.events-is) (areas_put _ _ _ _ c.args.object w.in-Return.page _ w.in-Return.hex _
      w.in_ok-tell_put-in-Return.ensures.told w.in_ok-put-in-Return.ensures.told)
  | in-Terminate w ↦ rw (w.in-Terminate.is, w.paging-is) (same_areas _)
  | in-Unlock w ↦ rw (w.in-Unlock.is, w.paging-is) (same_areas _)
  | in-Completed w ↦ rw (w.in-Completed.is, w.paging-is) (same_areas _)
  | in-Changed w ↦ rw (w.in-Changed.is, w.paging-is) (same_areas _)
]

pub returns-clause-calls : goal.returns-clause-calls
returns-clause-calls g c = elim c.match-message.branch [
  | in-Init+in_ok-push-in-Init w ↦ rw (w.in-Init.is, w.paging-is) refl
  | in-Create+in_ok-push-in-Create w ↦ rw (w.in-Create.is, w.paging-is) refl
  | in-Request+in_ok-got-in-Request+in_ok-tell_got-in-Request w ↦
      rw (w.in-Request.is, w.paging-is, w.events-is, ← c.self.view_is) (request_made g.P.Backing.called c.self.inside.slots _ _ _ c.args.object _
      w.in-Request.page _ _ _ w.in_ok-tell_got-in-Request.ensures.told w.in_ok-got-in-Request.ensures.calls)
  | in-Return+in_ok-put-in-Return+in_ok-tell_put-in-Return w ↦
      rw (w.in-Return.is, w.paging-is, w.events-is) (return_made g.P.Backing.called _ _ w.in_ok-put-in-Return.put c.args.object w.in-Return.page w.in-Return.hex
      _ _ _ c.self.view_is w.in_ok-tell_put-in-Return.ensures.told w.in_ok-put-in-Return.ensures.calls)
  | in-Terminate w ↦ rw (w.in-Terminate.is, w.paging-is) refl
  | in-Unlock w ↦ rw (w.in-Unlock.is, w.paging-is) refl
  | in-Completed w ↦ rw (w.in-Completed.is, w.paging-is) refl
  | in-Changed w ↦ rw (w.in-Changed.is, w.paging-is) refl
]
