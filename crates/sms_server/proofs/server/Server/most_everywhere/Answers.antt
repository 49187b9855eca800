use Rattle.std.proofs.Common.{◌≡◌, ◌+◌, ◌*◌, ◌∙◌, ap, arith}
use Rattle.sms_server.proofs.Most.{same_number}
use Rattle.sms_server.proofs.Naming.{counted_left, replies_split}
use Rattle.sms_server.specs.Kept.{pages_among, waiting_among}
use Rattle.sms_server.proofs.server.Server.most_everywhere.Goals as goal

pub returns-clause-most : goal.returns-clause-most
returns-clause-most c =
    let rows = c.self.inside.rows.items in
    let o = c.args.object.0 in
    let split = replies_split o rows in
    let pages : c.count.result ≡ pages_among o rows = c.count.ensures
    ∙ counted_left c.self.inside.places c.count_waiting.new.places rows c.count_waiting.ensures.kept.objects c.self.invariant.counted o in
    let waiting : c.in-Some.waiting ≡ waiting_among o rows = c.in-Some.ensures.waiting ∙ ap (waiting_among o) c.deref.ensures.value in
    let nine = ap (λ n. n * (c.from-pages.result + 1)) c.from-2.ensures in
    same_number c.as_number.result _ _ c.as_number.ensures (omega (arith, split, waiting, pages, nine, c.from.ensures, c.from-pages.ensures))
