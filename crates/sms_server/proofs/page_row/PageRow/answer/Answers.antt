use Rattle.std.proofs.Common.{arith}
use Rattle.sms_server.proofs.page_row.PageRow.answer.Goals as goal

pub returns-clause-few : goal.returns-clause-few
returns-clause-few c = omega (arith, c.tell.ensures.count, c.in_ok-replies.ensures.few)
