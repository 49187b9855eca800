-- Whoever has seen a run of each order has seen all outcomes.
use Rattle.std.proofs.Common.{List, ap, length, sym, true, ℕ, ◌++◌, ◌∙◌, ◌≡◌, ◌≤◌}
use Rattle.std.proofs.lemmas.List.Elements.{recursion_from_All}
use Rattle.vm_model.specs.Waiting.{waiting}
use Rattle.vm_model.specs.declared.command.Numbered.{Numbered}
use Rattle.vm_model.specs.declared.event.Event.{Event}
use Rattle.vm_model.specs.declared.script.Header.{Header}
use Rattle.vm_legal.specs.Outside.{Outside}
use Rattle.vm_order.specs.OneMemory.{IsOneMemory}
use Rattle.vm_free.specs.Free.{GoesOn, NobodyWaits, accesses_of, begun, is_plain}
use Rattle.vm_free.specs.Orders.{occurrences, order_of}
use Rattle.vm_free.specs.Outcomes.{Agrees, AllFlat, AllShown, AreAll, AreShown, NothingIsSaid, Values}
use Rattle.vm_free.proofs.Follows.{Goes, IsSetUp, follows}
use Rattle.vm_free.proofs.Orders.{completed, owners, rest}
use Rattle.vm_free.proofs.Played.{FreePart, played, played-append, values-append, values_in}
use Rattle.vm_free.proofs.Stands.{few_ended, stands}

goes_on : (part : FreePart) (later : List Event) → IsOneMemory part.header part.outside (later ++ part.start) → GoesOn part.free later → Goes part later
goes_on part later one goes = record {
  tasks = one.tasks;
  reads = one.reads;
  plain = recursion_from_All (λ e. is_plain e ≡ true) later goes.plain;
  in_order = goes.in_order;
}

-- no task has ended more accesses than the free part has
part_of : (part : FreePart) (later : List Event) → IsSetUp part → Goes part later → (t : ℕ) → occurrences t (order_of later) ≤ length (accesses_of t part.free)
part_of part later set_up goes t =
    let now = stands part.header t part.start (set_up.idle t) later goes.tasks goes.plain in
    few_ended (waiting t (later ++ part.start)) (begun t later) (accesses_of t part.free) (occurrences t (order_of later)) now (goes.in_order t)

-- where a run's order goes on from that of some events, their loads have its values
agrees : (part : FreePart) (later : List Event) (more : List ℕ) (values : Values) → IsSetUp part → Goes part later
    → AreShown part.header part.outside part.free part.start (more ++ order_of later) values → Agrees values later
agrees part later more values set_up goes shown t =
    let shows = shown.1 in
    let order = order_of later in
    let ours = (follows part later set_up goes).1 t in
    let theirs = (follows part shown.0 set_up (goes_on part shown.0 shows.one shows.goes)).1 t in
    let beyond = played-append part more order in
    record {
      newer = values_in t beyond.0;
      is =
          sym (shows.gave t)
          ∙ (theirs
          ∙ (ap (λ z. values_in t (played part z)) shows.ended
          ∙ (ap (values_in t) beyond.1
          ∙ (values-append t beyond.0 (played part order)
          ∙ ap (λ z. values_in t beyond.0 ++ z) (sym ours)))));
    }

pub shown_outcomes_are_all : (header : Header) (outside : Outside) (free : List Numbered) (start : List Event) (outcomes : List Values)
    → NobodyWaits start → NothingIsSaid header outside → AllFlat header outside start
    → AllShown header outside free start outcomes → AreAll header outside free start outcomes
shown_outcomes_are_all header outside free start outcomes idle told flat shown later one goes =
    let part : FreePart = record { header = header; outside = outside; free = free; start = start } in
    let set_up : IsSetUp part = record { idle = idle; told = told; flat = flat } in
    let behind = goes_on part later one goes in
    let more = rest (owners free) (order_of later) in
    let some = shown (more ++ order_of later) (completed free (order_of later) (part_of part later set_up behind)) in
    (some.0, some.1, some.2, some.3, agrees part later more some.1 set_up behind some.4)
