-- A worked summary: events of each kind, so many that no two numbers are alike.
use Rattle.std.proofs.Common.{◌≡◌, ℕ, zero, suc, List, [], ◌∷◌, refl}
use Rattle.std.specs.Prelude.{codes}
use Rattle.std.specs.Fmt.{digits}
use Rattle.vm_base.specs.declared.code.Code.TheVariants as code
use Rattle.vm_base.specs.declared.ids.HostId.{HostId}
use Rattle.vm_base.specs.declared.ids.ObjectId.{ObjectId}
use Rattle.vm_base.specs.declared.ids.PageNo.{PageNo}
use Rattle.vm_base.specs.declared.ids.TaskId.{TaskId}
use Rattle.vm_model.specs.declared.event.Event.{Event}
use Rattle.vm_model.specs.declared.event.Event.TheVariants as event
use Rattle.vm_model.specs.declared.message.Channel.{Channel}
use Rattle.vm_model.specs.declared.message.Channel.TheVariants as channel
use Rattle.vm_model.specs.declared.message.Message.{Message}
use Rattle.vm_model.specs.declared.message.Message.TheVariants as message
use Rattle.vm_model.specs.Summary.{summary_text}

abbrev times : ℕ → Event → List Event → List Event
times zero e past = past
times (suc n) e past = e ∷ times n e past

abbrev task : TaskId
task = record { 0 = 1 }

abbrev object : ObjectId
object = record { 0 = 2 }

abbrev page : PageNo
page = record { 0 = 4 }

abbrev host : HostId
host = record { 0 = 0 }

abbrev up : Channel
up = channel.Up host object

abbrev end : Message
end = message.Terminate 1

abbrev worked : List Event
worked =
    times 11 (event.Line 5)
    (times 2 (event.Refused code.NoSpace)
    (times 3 (event.Loaded task object page 18446744073709551615)
    (times 4 (event.Stored task object page 0 1 7)
    (times 5 (event.CopyEnded task)
    (times 6 (event.Failed task object page)
    (times 7 (event.Sent up end)
    (times 8 (event.Taken up end)
    (times 9 (event.Dropped host object page)
    (times 10 (event.BegunLoad task 0 1)
    (times 10 (event.BegunStore task 0 1 7)
    (times 10 (event.BegunCopy task 0 16 64)
    (times 1 (event.Zeroed host object page)
    (times 1 (event.Wired host 1) [])))))))))))))

pub worked_summary :
    summary_text worked
    ≡ codes "lines 11\nrefused 2\nloads 3\nstores 4\ncopies 5\nfailed 6\nsent 7\ntaken 8\ndropped 9\nwaiting 12\nsum 18446744073709551613\n"
unfolding digits
worked_summary = refl

pub empty_summary :
    summary_text []
    ≡ codes "lines 0\nrefused 0\nloads 0\nstores 0\ncopies 0\nfailed 0\nsent 0\ntaken 0\ndropped 0\nwaiting 0\nsum 0\n"
unfolding digits
empty_summary = refl
