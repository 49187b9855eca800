use Rattle.sms_pages.proofs.Taken.{request_taken, unlock_taken, after_return, completed_taken, end_taken}
use Rattle.sms_pages.proofs.Following.{serving}
use Rattle.sms_pages.proofs.law.directory_law.Goals as goal

-- src/law.rt
pub returns-clause-request : goal.returns-clause-request
returns-clause-request c = request_taken

pub returns-clause-unlock : goal.returns-clause-unlock
returns-clause-unlock c = unlock_taken

pub returns-clause-returned : goal.returns-clause-returned
returns-clause-returned c = after_return

pub returns-clause-completed : goal.returns-clause-completed
returns-clause-completed c = completed_taken

pub returns-clause-gone : goal.returns-clause-gone
returns-clause-gone c = end_taken

pub returns-clause-served : goal.returns-clause-served
returns-clause-served c = serving
