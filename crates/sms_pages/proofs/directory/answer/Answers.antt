use Rattle.std.proofs.Common.{arith}
use Rattle.sms_pages.proofs.Serving.{replies_few}
use Rattle.sms_pages.proofs.directory.answer.Goals as goal

-- src/directory.rt
pub returns-clause-few : goal.returns-clause-few
returns-clause-few c =
    grind (
      arith,
      c.requires.empty,
      c.replace-replies.ensures,
      replies_few c.replace-replies.result.items c.serve.new.replies.items c.args.desk.now.holds c.args.desk.now.awaits c.args.desk.now.bytes
          c.serve.new.self.holds c.serve.new.self.awaits c.args.desk.now.line.items c.serve.new.self.line.items c.in_ok-serve.ensures.exact,
    )
